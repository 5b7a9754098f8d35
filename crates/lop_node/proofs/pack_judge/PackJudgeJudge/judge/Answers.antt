use Rattle.std.proofs.Common.{◌≡◌, ◌∙◌, refl, sym, ap, subst, inl, inr, ℕ, List, true, false, ℤ, ◌≤ℤ◌, rules, arith, FitsSigned}
use Rattle.std.specs.Prelude.{int_le}
use Rattle.std.specs.Int.{w128}
use Rattle.std.proofs.lemmas.Int.{ints, to_z-of_z}
use Rattle.lop_model.specs.declared.pair.Pair.{Pair}
use Rattle.lop_model.specs.Order.{IsOrder}
use Rattle.lop_model.specs.Fixings.{IsClosure}
use Rattle.lop_leaf.specs.Record.{ScaledTerms}
use Rattle.lop_leaf.specs.Bound.{record_value, IsQuotient}
use Rattle.lop_node.proofs.SoundLemmas.{quotient_once, once}
use Rattle.lop_node.proofs.PackLemmas.{IsPackResult, all_decided_put, open_put}
use Rattle.lop_node.proofs.pack_judge.PackJudgeJudge.judge.Goals.{After-put, After-put-then-packed-inherited, After-put-else-packed-inherited}
use Rattle.lop_node.proofs.pack_judge.PackJudgeJudge.judge.Goals as goal

in_none : (c : After-put) → IsPackResult c.args.weights.now c.args.ticket.now c.put.new.self
in_none c =
    let t = c.args.ticket.now in
    let f = c.fix_path.new.fixings in
    let fits : FitsSigned w128 c.value-value.result = search rules in
    let value = to_z-of_z w128 c.value-value.result fits ∙ c.value-value.ensures.value in
    let closure : IsClosure t.path f.pairs = subst (λ (F : List Pair). IsClosure F f.pairs) c.path.ensures.path c.fix_path.ensures.closure in
    let size : f.size ≡ c.args.weights.now.size = c.fix_path.ensures.size ∙ c.self.view_is ∙ c.requires.same_n in
    all_decided_put c.args.weights.now t f c.extend.new.order c.packing-packed.result c.inherited_bound-inherited.result c.put.new.self _ _ _ _ c.put.ensures c.node-node.ensures c.clear.ensures value value
    size c.requires.ticket closure c.in-None.ensures.none c.extend.ensures.order c.extend.ensures.extends c.packing-packed.ensures.value
    (c.packing-packed.ensures.bounds c.extend.new.order (subst (λ (n : ℕ). IsOrder n c.extend.new.order) size c.extend.ensures.order) c.extend.ensures.extends)
    c.packing-packed.ensures.at_most (c.inherited_bound-inherited.ensures.quotient)

pub returns-in-None-clause-sound : goal.returns-in-None-clause-sound
returns-in-None-clause-sound c = (in_none c).sound

pub returns-in-None-clause-judged : goal.returns-in-None-clause-judged
returns-in-None-clause-judged c = (in_none c).judged

pub returns-in-None-clause-lesser : goal.returns-in-None-clause-lesser
returns-in-None-clause-lesser c = (in_none c).lesser

pub returns-in-None-clause-pair : goal.returns-in-None-clause-pair
returns-in-None-clause-pair c = (in_none c).pair

pub returns-in-None-clause-extends : goal.returns-in-None-clause-extends
returns-in-None-clause-extends c = (in_none c).extends

tested : (x y u v : ℤ) → int_le x y ≡ true → x ≡ u → y ≡ v → u ≤ℤ v
tested x y u v t e f = let l : x ≤ℤ y = grind (arith, ints) in rw (sym e, sym f) l

tested_not : (x y u v : ℤ) → int_le x y ≡ false → x ≡ u → y ≡ v → v ≤ℤ u
tested_not x y u v t e f = let l : y ≤ℤ x = grind (arith, ints) in rw (sym e, sym f) l

le-trans : {a b d : ℤ} → a ≤ℤ b → b ≤ℤ d → a ≤ℤ d
le-trans h k = omega (arith, ints)

le-same : (a b : ℤ) → a ≡ b → a ≤ℤ b
le-same a b e = omega (arith, ints)

in_packed : (c : After-put-then-packed-inherited) → IsPackResult c.args.weights.now c.args.ticket.now c.put-then-packed-inherited.new.self
in_packed c =
    let C = c.args.weights.now in
    let t = c.args.ticket.now in
    let f = c.fix_path.new.fixings in
    let b = c.packing-packed.result in
    let shown = c.packing-packed.new.rec in
    let fits : FitsSigned w128 c.value-value.result = search rules in
    let fits_packed : FitsSigned w128 b = search rules in
    let fits_inherited : FitsSigned w128 c.inherited_bound-inherited.result = search rules in
    let bound = to_z-of_z w128 b fits_packed in
    let value = to_z-of_z w128 c.value-value.result fits ∙ c.value-value.ensures.value in
    let closure : IsClosure t.path f.pairs = subst (λ (F : List Pair). IsClosure F f.pairs) c.path.ensures.path c.fix_path.ensures.closure in
    let size : f.size ≡ C.size = c.fix_path.ensures.size ∙ c.self.view_is ∙ c.requires.same_n in
    let scale : shown.scale ≡ 1 = ap (λ (r : ScaledTerms). r.scale) c.packing-packed.ensures.record in
    let quotient : IsQuotient (record_value C f.pairs shown) shown.scale b = subst (λ (k : ℕ). IsQuotient (record_value C f.pairs shown) k b) (sym scale) (quotient_once (record_value C f.pairs shown) b (once b ∙ c.packing-packed.ensures.shown)) in
    let lesser : b ≤ℤ c.inherited_bound-inherited.result = tested _ _ b c.inherited_bound-inherited.result c.if-packed-inherited.true bound (to_z-of_z w128 c.inherited_bound-inherited.result fits_inherited) in
    open_put C t f c.extend.new.order _ b c.inherited_bound-inherited.result b shown c.put-then-packed-inherited.new.self _ _ _ _ c.put-then-packed-inherited.ensures c.node-node.ensures refl bound value size closure c.in-Some.ensures.some c.extend.ensures.order
    c.packing-packed.ensures.cuts quotient (le-trans lesser c.inherited_bound-inherited.ensures.no_more) c.packing-packed.ensures.value (le-same b b refl)
    c.extend.ensures.extends c.inherited_bound-inherited.ensures.quotient lesser (inl refl)

pub returns-then-packed-inherited-clause-sound : goal.returns-then-packed-inherited-clause-sound
returns-then-packed-inherited-clause-sound c = (in_packed c).sound

pub returns-then-packed-inherited-clause-judged : goal.returns-then-packed-inherited-clause-judged
returns-then-packed-inherited-clause-judged c = (in_packed c).judged

pub returns-then-packed-inherited-clause-lesser : goal.returns-then-packed-inherited-clause-lesser
returns-then-packed-inherited-clause-lesser c = (in_packed c).lesser

pub returns-then-packed-inherited-clause-pair : goal.returns-then-packed-inherited-clause-pair
returns-then-packed-inherited-clause-pair c = (in_packed c).pair

pub returns-then-packed-inherited-clause-extends : goal.returns-then-packed-inherited-clause-extends
returns-then-packed-inherited-clause-extends c = (in_packed c).extends

in_inherited : (c : After-put-else-packed-inherited) → IsPackResult c.args.weights.now c.args.ticket.now c.put-else-packed-inherited.new.self
in_inherited c =
    let C = c.args.weights.now in
    let t = c.args.ticket.now in
    let f = c.fix_path.new.fixings in
    let p = c.packing-packed.result in
    let b = c.inherited_bound-inherited.result in
    let fits : FitsSigned w128 c.value-value.result = search rules in
    let fits_packed : FitsSigned w128 p = search rules in
    let fits_inherited : FitsSigned w128 b = search rules in
    let bound = to_z-of_z w128 b fits_inherited in
    let value = to_z-of_z w128 c.value-value.result fits ∙ c.value-value.ensures.value in
    let closure : IsClosure t.path f.pairs = subst (λ (F : List Pair). IsClosure F f.pairs) c.path.ensures.path c.fix_path.ensures.closure in
    let size : f.size ≡ C.size = c.fix_path.ensures.size ∙ c.self.view_is ∙ c.requires.same_n in
    let lesser : b ≤ℤ p = tested_not _ _ p b c.if-packed-inherited.false (to_z-of_z w128 p fits_packed) bound in
    open_put C t f c.extend.new.order _ p b b t.inherited c.put-else-packed-inherited.new.self _ _ _ _ c.put-else-packed-inherited.ensures c.node-node.ensures c.inherited.ensures bound value size closure c.in-Some.ensures.some c.extend.ensures.order
    c.requires.ticket.cuts c.inherited_bound-inherited.ensures.quotient c.inherited_bound-inherited.ensures.no_more c.packing-packed.ensures.value lesser
    c.extend.ensures.extends c.inherited_bound-inherited.ensures.quotient (le-same b b refl) (inr refl)

pub returns-else-packed-inherited-clause-sound : goal.returns-else-packed-inherited-clause-sound
returns-else-packed-inherited-clause-sound c = (in_inherited c).sound

pub returns-else-packed-inherited-clause-judged : goal.returns-else-packed-inherited-clause-judged
returns-else-packed-inherited-clause-judged c = (in_inherited c).judged

pub returns-else-packed-inherited-clause-lesser : goal.returns-else-packed-inherited-clause-lesser
returns-else-packed-inherited-clause-lesser c = (in_inherited c).lesser

pub returns-else-packed-inherited-clause-pair : goal.returns-else-packed-inherited-clause-pair
returns-else-packed-inherited-clause-pair c = (in_inherited c).pair

pub returns-else-packed-inherited-clause-extends : goal.returns-else-packed-inherited-clause-extends
returns-else-packed-inherited-clause-extends c = (in_inherited c).extends
