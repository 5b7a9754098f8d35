use Rattle.std.proofs.Common.{◌≡◌, ◌∷◌, [], ◌++◌, ◌∙◌, Bool, true, cond, List, ap, subst, arith}
use Rattle.std.specs.Result.{is_ok}
use Rattle.lop_model.specs.declared.pair.Pair.{Pair}
use Rattle.lop_model.specs.Fixings.{IsUndecided}
use Rattle.lop_check.specs.declared.path.Step.{Step}
use Rattle.lop_check.specs.TreePlace.{place_after}
use Rattle.lop_check.proofs.PathLemmas.{place_after-push, room_left, Follows-push, IsWalk-moved}
use Rattle.lop_check.proofs.path.Walk.enter.Goals as goal

pub unwrap-requires : goal.unwrap-requires
unwrap-requires c = c.push.ensures.succeeds (omega (arith, room_left c.args.self.now c.args.pair c.requires.walk c.requires.undecided, c.args.self.now.steps.ok))

abbrev down : Pair → Step
down p = record { pair = p; reverse_due = true }

pushed : (c : goal.After-descend) → c.push.new.self.items ≡ c.args.self.now.steps.items ++ down c.args.pair ∷ []
pushed c =
    let items = c.args.self.now.steps.items in
    c.push.ensures.items ∙ ap (λ (b : Bool). cond b (items ++ down c.args.pair ∷ []) items) (ap is_ok c.unwrap.ensures)

pub returns-clause-at : goal.returns-clause-at
returns-clause-at c = ap place_after (pushed c) ∙ place_after-push c.args.self.now.steps.items (down c.args.pair)

pub returns-clause-walk : goal.returns-clause-walk
returns-clause-walk c =
    let w = c.args.self.now in
    let u = subst (λ (F : List Pair). IsUndecided w.trail.size F c.args.pair.before c.args.pair.after) c.requires.walk.follows.path c.requires.undecided in
    let down_trail = Follows-push w.trail.size w.steps.items (down c.args.pair) w.trail c.descend.new.self c.requires.walk.follows u c.descend.ensures.size c.descend.ensures.path c.descend.ensures.closure in
    IsWalk-moved w _ (w.steps.items ++ down c.args.pair ∷ []) c.requires.walk (pushed c) (omega (arith, c.push.ensures.capacity)) c.descend.ensures.size down_trail
