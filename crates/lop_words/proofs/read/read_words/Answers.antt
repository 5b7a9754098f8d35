use Rattle.std.proofs.Common.{◌≡◌, ◌<◌, List, [], ◌∷◌, None, refl, length, map, arith, take, drop, ◌-◌, String, Global}
use Rattle.std.specs.String.{string_bytes}
use Rattle.lop_words.specs.Word.{format_of}
use Rattle.lop_words.specs.Command.{command_of}
use Rattle.lop_words.proofs.CommandLemmas.{formatted_limits}
use Rattle.lop_words.proofs.read.read_words.Goals as goal

-- fewer than three words are no command
few_words : (words : List (String Global)) → length words < 3 → command_of (map (λ s. string_bytes s) words) ≡ None
few_words [] few = refl
few_words (verb ∷ []) few = refl
few_words (verb ∷ first ∷ []) few = refl
few_words (verb ∷ first ∷ second ∷ words) few = absurd (omega arith)

pub returns-in_default-clause-fault : goal.returns-in_default-clause-fault
returns-in_default-clause-fault c = few_words c.args.words.now (omega arith)

pub returns-else-eq-clause-limits : goal.returns-else-eq-clause-limits
returns-else-eq-clause-limits c =
    let rest = take (length c.args.words.now - 3) (drop 3 c.args.words.now) in
    formatted_limits c.as_str-else-eq.result.now (format_of c.as_str-else-eq-2.result.now) c.as_str-else-eq-3.result.now (map (λ s. string_bytes s) rest) c.formatted_words.result c.formatted_words.ensures.command
