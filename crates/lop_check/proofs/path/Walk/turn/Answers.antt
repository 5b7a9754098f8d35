use Rattle.std.proofs.Common.{◌≡◌, ◌∷◌, [], ◌++◌, ◌-◌, sym, ap, ◌∙◌, subst, arith, List, length}
use Rattle.lop_model.specs.declared.pair.Pair.{Pair}
use Rattle.lop_check.specs.TreePlace.{place_after, pending, Follows}
use Rattle.lop_check.specs.declared.path.Step.{Step}
use Rattle.lop_check.proofs.PathLemmas.{some_path, Follows-front, Follows-push, IsWalk-moved, reverse_undecided, pending-turned, turned, turned_pair, turned_steps}
use Rattle.lop_check.proofs.path.Walk.turn.Goals as goal

pub ascend-requires : goal.ascend-requires
ascend-requires c =
    let w = c.args.self.now in
    record { some = some_path w.trail.size c.requires.last.0 c.requires.last.1 w.trail (subst (λ (l : List Step). Follows w.trail.size l w.trail) c.requires.last.2 c.requires.walk.follows) }

pub descend-requires : goal.descend-requires
descend-requires c =
    let w = c.args.self.now in
    let front = c.requires.last.0 in
    let s = c.requires.last.1 in
    let here : c.len-last.result - 1 ≡ length w.steps.items - 1 = omega (arith, c.len-last.ensures, w.steps.ok) in
    let pair = turned_pair w.steps.items front s c.index.result.now (c.len-last.result - 1) c.reverse-pair.result c.requires.last.2 here c.index.ensures c.reverse-pair.ensures in
    let was = subst (λ (l : List Step). Follows w.trail.size l w.trail) c.requires.last.2 c.requires.walk.follows in
    let up = Follows-front w.trail.size front s w.trail c.ascend.new.self was c.ascend.ensures.size c.ascend.ensures.path c.ascend.ensures.closure in
    record { undecided = rw (up.size, up.path, pair) (reverse_undecided w.trail.size front s w.trail was) }

pub returns-clause-others : goal.returns-clause-others
returns-clause-others c =
    let items = c.args.self.now.steps.items in
    let front = c.requires.last.0 in
    let s = c.requires.last.1 in
    let here : c.len-last.result - 1 ≡ length items - 1 = omega (arith, c.len-last.ensures, c.args.self.now.steps.ok) in
    let pair = turned_pair items front s c.index.result.now (c.len-last.result - 1) c.reverse-pair.result c.requires.last.2 here c.index.ensures c.reverse-pair.ensures in
    ap (λ (l : List Step). pending (place_after l)) (turned_steps items front s (c.len-last.result - 1) c.reverse-pair.result c.requires.last.2 here pair)
    ∙ pending-turned front s c.requires.last.3 ∙ ap (λ (l : List Step). (place_after l).others) (sym c.requires.last.2)

pub returns-clause-walk : goal.returns-clause-walk
returns-clause-walk c =
    let w = c.args.self.now in
    let front = c.requires.last.0 in
    let s = c.requires.last.1 in
    let here : c.len-last.result - 1 ≡ length w.steps.items - 1 = omega (arith, c.len-last.ensures, w.steps.ok) in
    let pair = turned_pair w.steps.items front s c.index.result.now (c.len-last.result - 1) c.reverse-pair.result c.requires.last.2 here c.index.ensures c.reverse-pair.ensures in
    let was = subst (λ (l : List Step). Follows w.trail.size l w.trail) c.requires.last.2 c.requires.walk.follows in
    let up = Follows-front w.trail.size front s w.trail c.ascend.new.self was c.ascend.ensures.size c.ascend.ensures.path c.ascend.ensures.closure in
    let path = c.descend.ensures.path ∙ ap (λ (p : Pair). c.ascend.new.self.path ++ p ∷ []) pair in
    let down = Follows-push w.trail.size front (turned s) c.ascend.new.self c.descend.new.self up (reverse_undecided w.trail.size front s w.trail was) c.descend.ensures.size path c.descend.ensures.closure in
    IsWalk-moved w _ (front ++ turned s ∷ []) c.requires.walk (turned_steps w.steps.items front s (c.len-last.result - 1) c.reverse-pair.result c.requires.last.2 here pair) (omega arith) (c.descend.ensures.size ∙ c.ascend.ensures.size) down
