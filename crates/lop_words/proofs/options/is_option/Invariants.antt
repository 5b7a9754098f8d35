use Rattle.std.proofs.Common.{◌≡◌, length, map}
use Rattle.lop_words.specs.Options.{is_option}
use Rattle.lop_words.proofs.options.is_option.Given as goal

abbrev pub invariant-loop-rest : goal.invariant-loop-rest
invariant-loop-rest l = is_option (map (λ s. s.now) l.names) l.word ≡ is_option (map (λ s. s.now) l.rest) l.word

abbrev pub decreases-loop-rest : goal.decreases-loop-rest
decreases-loop-rest l = length l.rest
