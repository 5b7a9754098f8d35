use Rattle.std.proofs.Common.{◌∙◌, sym, string_bytes, arith}
use Rattle.lop_words.proofs.OptionsLemmas.{value_of-short}
use Rattle.lop_words.proofs.options.value_of.Goals as goal

pub returns : goal.returns
returns c = sym (c.loop-rest.invariant ∙ value_of-short (λ s. string_bytes s) c.args.name.now c.loop-rest.rest.now (omega arith))
