use Rattle.std.proofs.Common.{◌∙◌, sym, map, string_bytes, arith}
use Rattle.lop_words.proofs.OptionsLemmas.{are_options-short, are_options-old, are_options-more}
use Rattle.lop_words.proofs.options.are_options.Goals as goal

pub returns-then-not-is_new_option : goal.returns-then-not-is_new_option
returns-then-not-is_new_option c =
    let is = rw c.as_str.ensures.value at c.is_new_option.ensures in
    sym (c.loop-rest.invariant ∙ are_options-old (λ s. string_bytes s) (map (λ s. s.now) c.args.names.now) c.loop-rest.rest.now c.option-item.result c.is_new_option.result (omega arith) c.option-item.is is c.if-not-is_new_option.true)

pub loop-rest-preserved : goal.loop-rest-preserved
loop-rest-preserved c =
    let is = rw c.as_str.ensures.value at c.is_new_option.ensures in
    c.loop-rest.invariant ∙ are_options-more (λ s. string_bytes s) (map (λ s. s.now) c.args.names.now) c.loop-rest.rest.now c.option-item.result c.is_new_option.result (omega arith) c.option-item.is is c.if-not-is_new_option.false

pub returns : goal.returns
returns c = are_options-short (λ s. string_bytes s) (map (λ s. s.now) c.args.names.now) c.loop-rest.rest.now c.is_empty.result (omega arith) c.is_empty.ensures ∙ sym c.loop-rest.invariant
