use Rattle.std.proofs.Common.{◌≡◌, length, map, string_bytes}
use Rattle.lop_words.specs.Options.{are_options}
use Rattle.lop_words.proofs.options.are_options.Given as goal

abbrev pub invariant-loop-rest : goal.invariant-loop-rest
invariant-loop-rest l = are_options (map (λ s. s.now) l.names) (map (λ s. string_bytes s) l.words) ≡ are_options (map (λ s. s.now) l.names) (map (λ s. string_bytes s) l.rest)

abbrev pub decreases-loop-rest : goal.decreases-loop-rest
decreases-loop-rest l = length l.rest
