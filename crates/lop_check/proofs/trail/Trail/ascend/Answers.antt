use Rattle.std.proofs.Common.{◌++◌, length, take, drop, sym, ap, ◌∙◌, arith}
use Rattle.std.specs.Vec.{vec_capacity}
use Rattle.lop_check.specs.Trail.{IsTrail}
use Rattle.lop_check.proofs.TrailLemmas.{ascended, closure_of}
use Rattle.lop_check.proofs.trail.Trail.ascend.Goals as goal

after : (c : goal.After-self-1) → IsTrail c.self.inside.size c.pop.new.self.items (vec_capacity c.pop.new.self) (take c.self.inside.depths.len (c.take_back.new.depths ++ drop (length c.take_back.new.depths) c.self.inside.depths.items))
after c =
    let t = c.self.inside in
    ascended t.size t.path.items c.pop.new.self.items (vec_capacity t.path) (vec_capacity c.pop.new.self) c.len-depth.result t.depths.items c.deref_mut.result.now c.take_back.new.depths t.depths.len c.in-Some.pair
    c.self.invariant c.in-Some.ensures.items (omega (arith, c.pop.ensures.capacity)) (omega (arith, c.len-depth.ensures, t.path.ok)) c.deref_mut.ensures.value
    (sym c.deref_mut.ensures.len ∙ ap length c.deref_mut.ensures.value) c.take_back.ensures

pub invariant_of-self : goal.invariant_of-self
invariant_of-self c = after c

pub returns-in-Some-clause-closure : goal.returns-in-Some-clause-closure
returns-in-Some-clause-closure c = closure_of c.self.inside.size c.pop.new.self.items (vec_capacity c.pop.new.self) (take c.self.inside.depths.len (c.take_back.new.depths ++ drop (length c.take_back.new.depths) c.self.inside.depths.items)) (after c)
