use Rattle.std.proofs.Common.{◌≡◌, ◌∷◌, [], List, ℕ, length, sym, ◌∙◌, ap, arith}
use Rattle.std.proofs.lemmas.List.{take_all, drop_all}
use Rattle.lop_preflib.specs.Text.{lines_of, without_cr}
use Rattle.lop_preflib.proofs.TextLemmas.{lines_of-ended, lines_of-last}
use Rattle.lop_preflib.proofs.lines.first_line.Goals as goal

pub returns-in-Some : goal.returns-in-Some
returns-in-Some c =
    let bytes = c.args.bytes.now in
    let parts = c.in-Some.ensures in
    let whole = lines_of-ended bytes parts.0 in
    cc (whole, ap without_cr parts.1, ap lines_of parts.2)

pub returns-in-None : goal.returns-in-None
returns-in-None c =
    let bytes = c.args.bytes.now in
    let front : c.split_at.result.0.now ≡ bytes = c.split_at.ensures.front ∙ take_all (length bytes) bytes (omega arith) in
    let back : c.split_at.result.1.now ≡ [] = c.split_at.ensures.back ∙ drop_all (length bytes) bytes (omega arith) in
    lines_of-last bytes c.requires c.in-None.ensures
    ∙ ap (λ (l : List ℕ). without_cr l ∷ []) (sym front) ∙ ap (λ (l : List ℕ). without_cr c.split_at.result.0.now ∷ lines_of l) (sym back)
