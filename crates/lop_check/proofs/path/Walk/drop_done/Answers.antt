use Rattle.std.proofs.Common.{◌≡◌, ◌-◌, ◌<◌, ◌∙◌, refl, sym, ap, subst, arith, List, length, get_or}
use Rattle.std.specs.Vec.{vec_len}
use Rattle.lop_check.specs.declared.path.Step.{Step}
use Rattle.lop_check.specs.TreePlace.{place_after, Follows}
use Rattle.lop_check.proofs.PathLemmas.{others-done, some_path, Follows-front, IsWalk-moved, popped_last}
use Rattle.lop_check.proofs.path.Walk.drop_done.Goals as goal

pub ascend-requires : goal.ascend-requires
ascend-requires c =
    let w = c.loop-last.self in
    let s = c.in-Some.last.now in
    let len : vec_len w.steps ≡ length w.steps.items = omega (arith, w.steps.ok) in
    let some : 0 < vec_len w.steps = omega (arith, c.in-Some.ensures.item.3.0, ap length c.deref.ensures.value, len) in
    let read : s ≡ get_or w.steps.items (length w.steps.items - 1) s = c.in-Some.ensures.item.1 ∙ ap (λ (l : List Step). get_or l (length l - 1) s) c.deref.ensures.value in
    let split = popped_last w.steps.items c.pop.new.self.items s (vec_len w.steps) c.pop.result len read (c.pop.ensures.value s) some c.pop.ensures.items in
    record { some = some_path w.trail.size c.pop.new.self.items s w.trail (subst (λ (l : List Step). Follows w.trail.size l w.trail) split c.loop-last.invariant.walk.follows) }

pub loop-last-preserved : goal.loop-last-preserved
loop-last-preserved c =
    let w = c.loop-last.self in
    let rest = c.pop.new.self.items in
    let s = c.in-Some.last.now in
    let len : vec_len w.steps ≡ length w.steps.items = omega (arith, w.steps.ok) in
    let some : 0 < vec_len w.steps = omega (arith, c.in-Some.ensures.item.3.0, ap length c.deref.ensures.value, len) in
    let read : s ≡ get_or w.steps.items (length w.steps.items - 1) s = c.in-Some.ensures.item.1 ∙ ap (λ (l : List Step). get_or l (length l - 1) s) c.deref.ensures.value in
    let split = popped_last w.steps.items rest s (vec_len w.steps) c.pop.result len read (c.pop.ensures.value s) some c.pop.ensures.items in
    let up = Follows-front w.trail.size rest s w.trail c.ascend.new.self (subst (λ (l : List Step). Follows w.trail.size l w.trail) split c.loop-last.invariant.walk.follows) c.ascend.ensures.size c.ascend.ensures.path c.ascend.ensures.closure in
    record {
      others = sym (ap (λ (l : List Step). (place_after l).others) split ∙ others-done rest s c.if-last.false) ∙ c.loop-last.invariant.others;
      walk = IsWalk-moved w _ rest c.loop-last.invariant.walk refl (omega (arith, c.pop.ensures.capacity)) c.ascend.ensures.size up;
      size = c.ascend.ensures.size ∙ c.loop-last.invariant.size;
    }
