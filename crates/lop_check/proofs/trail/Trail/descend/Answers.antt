use Rattle.std.proofs.Common.{◌≡◌, ◌+◌, ◌++◌, ◌∷◌, [], length, take, drop, sym, subst, ap, ◌∙◌, arith, Bool, true, cond, List, ℕ}
use Rattle.std.specs.Result.{is_ok}
use Rattle.std.specs.Vec.{vec_len, vec_capacity}
use Rattle.lop_model.specs.Fixings.{IsUndecided}
use Rattle.lop_check.specs.Trail.{FixedPath, IsTrail, is_fixed}
use Rattle.lop_check.proofs.TrailLemmas.{capacity_left, not_fixed_back, descended, closure_of}
use Rattle.lop_check.proofs.trail.Trail.descend.Goals as goal

pub unwrap-requires : goal.unwrap-requires
unwrap-requires c =
    let t = c.self.inside in
    let u = subst (λ (f : FixedPath). IsUndecided f.size f.path c.args.pair.before c.args.pair.after) (sym c.self.view_is) c.requires.undecided in
    c.push.ensures.succeeds (omega (arith, capacity_left t.size t.path.items (vec_capacity t.path) t.depths.items c.args.pair c.self.invariant u, t.path.ok))

pub note-requires-clause-fresh : goal.note-requires-clause-fresh
note-requires-clause-fresh c =
    let t = c.self.inside in
    let u = subst (λ (f : FixedPath). IsUndecided f.size f.path c.args.pair.before c.args.pair.after) (sym c.self.view_is) c.requires.undecided in
    ap (λ (d : List ℕ). is_fixed d t.size c.args.pair.after c.args.pair.before) c.deref_mut.ensures.value
    ∙ not_fixed_back t.size t.path.items (vec_capacity t.path) t.depths.items c.self.invariant c.args.pair.before c.args.pair.after u

after : (c : goal.After-self-1) → IsTrail c.self.inside.size c.push.new.self.items (vec_capacity c.push.new.self) (take c.self.inside.depths.len (c.note.new.depths ++ drop (length c.note.new.depths) c.self.inside.depths.items))
after c =
    let t = c.self.inside in
    let u = subst (λ (f : FixedPath). IsUndecided f.size f.path c.args.pair.before c.args.pair.after) (sym c.self.view_is) c.requires.undecided in
    let ok : is_ok c.push.result ≡ true = ap is_ok c.unwrap.ensures in
    let pushed : c.push.new.self.items ≡ t.path.items ++ c.args.pair ∷ [] = c.push.ensures.items ∙ ap (λ (b : Bool). cond b (t.path.items ++ c.args.pair ∷ []) t.path.items) ok in
    let longer : vec_len c.push.new.self ≡ vec_len t.path + 1 = c.push.ensures.len ∙ ap (λ (b : Bool). cond b (vec_len t.path + 1) (vec_len t.path)) ok in
    descended t.size t.path.items c.push.new.self.items (vec_capacity t.path) (vec_capacity c.push.new.self) c.len-depth.result t.depths.items c.deref_mut.result.now c.note.new.depths t.depths.len c.args.pair
    c.self.invariant u pushed (omega (arith, c.push.ensures.capacity)) (omega (arith, c.len-depth.ensures, longer, t.path.ok)) c.deref_mut.ensures.value
    (sym c.deref_mut.ensures.len ∙ ap length c.deref_mut.ensures.value) c.note.ensures

pub invariant_of-self : goal.invariant_of-self
invariant_of-self c = after c

pub returns-clause-closure : goal.returns-clause-closure
returns-clause-closure c = closure_of c.self.inside.size c.push.new.self.items (vec_capacity c.push.new.self) (take c.self.inside.depths.len (c.note.new.depths ++ drop (length c.note.new.depths) c.self.inside.depths.items)) (after c)
