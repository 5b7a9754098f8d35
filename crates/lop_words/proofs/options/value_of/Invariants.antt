use Rattle.std.proofs.Common.{◌≡◌, length, map, string_bytes}
use Rattle.lop_words.specs.Options.{value_of}
use Rattle.lop_words.proofs.options.value_of.Given as goal

abbrev pub invariant-loop-rest : goal.invariant-loop-rest
invariant-loop-rest l = value_of l.name (map (λ s. string_bytes s) l.words) ≡ value_of l.name (map (λ s. string_bytes s) l.rest)

abbrev pub decreases-loop-rest : goal.decreases-loop-rest
decreases-loop-rest l = length l.rest
