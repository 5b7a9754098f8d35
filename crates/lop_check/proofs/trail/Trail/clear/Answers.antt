use Rattle.std.proofs.Common.{ℕ, List, [], length, sym, ap, ◌∙◌, arith}
use Rattle.std.specs.Vec.{vec_capacity}
use Rattle.lop_model.specs.declared.pair.Pair.{Pair}
use Rattle.lop_check.specs.Trail.{FixedPath}
use Rattle.lop_check.proofs.TrailLemmas.{cleared}
use Rattle.lop_check.proofs.trail.Trail.clear.Goals as goal

pub invariant_of-self : goal.invariant_of-self
invariant_of-self c =
    let t = c.self.inside in
    (cleared t.size t.path.items c.clear-2.new.self.items (vec_capacity t.path) (vec_capacity c.clear-2.new.self) t.depths.items c.deref_mut.result.now c.clear.new.depths t.depths.len
    c.self.invariant c.clear-2.ensures.items (omega (arith, c.clear-2.ensures.capacity)) c.deref_mut.ensures.value (sym c.deref_mut.ensures.len ∙ ap length c.deref_mut.ensures.value) c.clear.ensures.same_length c.clear.ensures.none).0

pub returns : goal.returns
returns c =
    let t = c.self.inside in
    let fixed = (cleared t.size t.path.items c.clear-2.new.self.items (vec_capacity t.path) (vec_capacity c.clear-2.new.self) t.depths.items c.deref_mut.result.now c.clear.new.depths t.depths.len
    c.self.invariant c.clear-2.ensures.items (omega (arith, c.clear-2.ensures.capacity)) c.deref_mut.ensures.value (sym c.deref_mut.ensures.len ∙ ap length c.deref_mut.ensures.value) c.clear.ensures.same_length c.clear.ensures.none).1 in
    ap (λ (F : List Pair). record { size = t.size; path = c.clear-2.new.self.items; fixed = F }) fixed
    ∙ ap (λ (F : List Pair). record { size = t.size; path = F; fixed = [] }) c.clear-2.ensures.items
    ∙ ap (λ (k : ℕ). record { size = k; path = []; fixed = [] }) (ap (λ (f : FixedPath). f.size) c.self.view_is)
