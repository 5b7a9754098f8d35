use Rattle.std.proofs.Common.{◌≡◌, ◌∙◌, refl, ap, sym, subst, ℕ, Option, Some}
use Rattle.lop_model.specs.declared.pair.Pair.{Pair}
use Rattle.lop_certtext.specs.Answer.{split_of, split_step}
use Rattle.lop_certtext.proofs.NodeText.{line-split_of}
use Rattle.lop_check.specs.TreePlace.{pending, place}
use Rattle.lop_check.proofs.node.split_step.Goals as goal

pub enter-requires-clause-undecided : goal.enter-requires-clause-undecided
enter-requires-clause-undecided c =
    let kept = c.requires in
    let trail = c.args.proof.now.walk.trail in
    (line-split_of trail.size trail.path trail.fixed c.args.numbers.now c.in-Some.pair kept.walk.follows.closure (subst (λ (n : ℕ). split_of n trail.fixed c.args.numbers.now ≡ Some c.in-Some.pair) (sym kept.size) c.in-Some.ensures)).undecided

pub returns-in-Some : goal.returns-in-Some
returns-in-Some c =
    let at = place c.args.proof.now.walk in
    record {
      kept = record { cuts = c.requires.cuts; records = c.requires.records; walk = c.enter.ensures.walk; size = c.enter.ensures.size ∙ c.requires.size; square = c.requires.square };
      cuts = refl;
      records = refl;
      answer = λ number next. ap (λ (o : Option Pair). split_step at.path at.others number o next) c.in-Some.ensures ∙ ap (λ p. next (pending p)) (sym c.enter.ensures.at);
    }
