use Rattle.std.proofs.Common.{◌≡◌, ◌∙◌, ℕ, List, refl, sym, subst}
use Rattle.lop_model.specs.declared.pair.Pair.{Pair}
use Rattle.lop_model.specs.Fixings.{IsBranchingPath, IsClosure, IsUndecided}
use Rattle.lop_node.proofs.BetterLemmas.{put_shown, itself}
use Rattle.lop_node.proofs.SoundLemmas.{fixes}
use Rattle.lop_trial_search.proofs.worst.WorstJudgeJudge.judge.Goals as goal

pub unwrap-requires : goal.unwrap-requires
unwrap-requires c =
    let size : c.self.inside.fixings.size ≡ c.args.weights.now.size = c.self.invariant.0 ∙ c.self.view_is ∙ c.requires.same_n in
    let on_path : IsBranchingPath c.args.weights.now.size c.path.result.now = subst (IsBranchingPath c.args.weights.now.size) (sym c.path.ensures.path) c.requires.ticket.branching in
    let branching : IsBranchingPath c.self.inside.fixings.size c.path.result.now = subst (λ (n : ℕ). IsBranchingPath n c.path.result.now) (sym size) on_path in
    fixes c.self.inside.fixings.size c.path.result.now c.of_path.new.self.pairs c.of_path.result c.of_path.ensures.fault branching

pub returns-in-Some-clause-sound : goal.returns-in-Some-clause-sound
returns-in-Some-clause-sound c =
    let C = c.args.weights.now in
    let t = c.args.ticket.now in
    let f = c.of_path.new.self in
    let p : Pair = c.in-Some.pair in
    let old = c.judge.new.into in
    let size : f.size ≡ C.size = c.of_path.ensures.size ∙ (c.self.invariant.0 ∙ c.self.view_is ∙ c.requires.same_n) in
    let ok = rw c.unwrap.ensures at c.of_path.ensures.ok in
    let closure : IsClosure t.path f.pairs = subst (λ (F : List Pair). IsClosure F f.pairs) c.path.ensures.path ok.1 in
    let undecided : IsUndecided C.size f.pairs p.before p.after = subst (λ (n : ℕ). IsUndecided n f.pairs p.before p.after) size c.in-Some.ensures in
    put_shown C t old c.put_worse.new.into f.pairs old.bound p old.shown _ _ _ _ c.put_worse.ensures.put refl refl refl c.judge.ensures.sound closure undecided c.judge.ensures.sound.cuts
    (c.judge.ensures.sound.bound f.pairs closure) (itself old.bound) c.put_worse.ensures.order
