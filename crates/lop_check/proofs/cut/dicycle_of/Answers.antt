use Rattle.std.proofs.Common.{◌∙◌, List, ℕ, ap, sym, subst, Some}
use Rattle.std.specs.Prelude.{All, ◌<◌}
use Rattle.std.proofs.lemmas.Bool.{false≢true}
use Rattle.lop_cuts.specs.declared.kind.CutKind.{CutKind}
use Rattle.lop_cuts.specs.declared.kind.CutKind.TheVariants as kind
use Rattle.lop_cuts.specs.Kind.{IsCut}
use Rattle.lop_certtext.specs.CutLine.{objects_of, name_objects}
use Rattle.lop_certtext.proofs.ObjectNumbers.{objects_of-below}
use Rattle.lop_check.proofs.CutLines.{cut_made, no_cut, three_objects}
use Rattle.lop_check.proofs.cut.dicycle_of.Goals as goal

pub returns-in-Ok-clause-cut : goal.returns-in-Ok-clause-cut
returns-in-Ok-clause-cut c =
    let objects = objects_of c.args.numbers.now in
    let three = three_objects c.args.numbers.now c.deref.result.now c.deref-2.result.now c.deref-3.result.now c.objects_of-objects.result.items c.objects_of-objects.ensures c.deref.ensures.0 c.deref-2.ensures.0 c.deref-3.ensures.0 c.if-numbers-ne3.false in
    let is = c.in-Ok.ensures.ok ∙ ap (λ (l : List ℕ). kind.Dicycle l) three in
    cut_made (name_objects c.args.n c.args.numbers.now) (kind.Dicycle objects) (sym c.name_objects.ensures ∙ c.if-not-name_objects.false) (subst (λ (k : CutKind). IsCut k) is c.in-Ok.ensures.cut)
    ∙ ap (λ (k : CutKind). Some k) (sym is)

pub returns-in-Err-clause-cut : goal.returns-in-Err-clause-cut
returns-in-Err-clause-cut c =
    let objects = objects_of c.args.numbers.now in
    let three = three_objects c.args.numbers.now c.deref.result.now c.deref-2.result.now c.deref-3.result.now c.objects_of-objects.result.items c.objects_of-objects.ensures c.deref.ensures.0 c.deref-2.ensures.0 c.deref-3.ensures.0 c.if-numbers-ne3.false in
    let below = objects_of-below c.args.n c.args.numbers.now (sym c.name_objects.ensures ∙ c.if-not-name_objects.false) in
    no_cut (name_objects c.args.n c.args.numbers.now) (kind.Dicycle objects)
    (λ right. false≢true (c.in-Err.ensures.accepts (subst (λ (l : List ℕ). IsCut (kind.Dicycle l)) (sym three) right) (subst (λ (l : List ℕ). All (λ a. a < c.args.n) l) (sym three) below)))
