use Rattle.std.proofs.Common.{◌≡◌, ◌∙◌, ◌+◌, ◌/◌, ◌&&◌, eqb, length, ℕ, take, drop, ap, sym, subst, Some, nat_abs, arith, w64, FitsSigned}
use Rattle.std.proofs.lemmas.Bool.{false≢true}
use Rattle.std.proofs.lemmas.Int.{to_z-of_z}
use Rattle.lop_cuts.specs.declared.kind.CutKind.{CutKind}
use Rattle.lop_cuts.specs.Kind.{IsCut, fence_of}
use Rattle.lop_certtext.specs.CutLine.{objects_of, name_objects}
use Rattle.lop_check.proofs.CutLines.{cut_made, no_cut, posts_of}
use Rattle.lop_check.proofs.cut.fence_of.Goals as goal

pub returns-in-Ok-clause-cut : goal.returns-in-Ok-clause-cut
returns-in-Ok-clause-cut c =
    let k = nat_abs c.args.count in
    let ns = c.args.numbers.now in
    let fits : FitsSigned w64 c.args.count = c.ranges.count in
    let half : k ≡ length ns / 2 = ap nat_abs (sym (to_z-of_z w64 c.args.count fits)) ∙ sym c.unsigned_abs.ensures.value ∙ c.if-unsigned_abs-posts.false in
    let posts = posts_of c.args.n k ns c.as_slice.result.now c.split_at.result.0.now c.split_at.result.1.now (omega (arith, half, c.if-posts-numbers.false)) (sym c.name_objects.ensures ∙ c.if-not-name_objects.false) (c.as_slice.ensures.value ∙ c.objects_of-objects.ensures)
    (c.split_at.ensures.front ∙ ap (λ (m : ℕ). take m c.as_slice.result.now) (sym half)) (c.split_at.ensures.back ∙ ap (λ (m : ℕ). drop m c.as_slice.result.now) (sym half)) in
    let is = c.in-Ok.ensures.ok ∙ posts.fence in
    cut_made (eqb (length ns) (k + k) && name_objects c.args.n ns) (fence_of (objects_of (take k ns)) (objects_of (drop k ns))) posts.test (subst (λ (x : CutKind). IsCut x) is c.in-Ok.ensures.cut)
    ∙ ap (λ (x : CutKind). Some x) (sym is)

pub returns-in-Err-clause-cut : goal.returns-in-Err-clause-cut
returns-in-Err-clause-cut c =
    let k = nat_abs c.args.count in
    let ns = c.args.numbers.now in
    let fits : FitsSigned w64 c.args.count = c.ranges.count in
    let half : k ≡ length ns / 2 = ap nat_abs (sym (to_z-of_z w64 c.args.count fits)) ∙ sym c.unsigned_abs.ensures.value ∙ c.if-unsigned_abs-posts.false in
    let posts = posts_of c.args.n k ns c.as_slice.result.now c.split_at.result.0.now c.split_at.result.1.now (omega (arith, half, c.if-posts-numbers.false)) (sym c.name_objects.ensures ∙ c.if-not-name_objects.false) (c.as_slice.ensures.value ∙ c.objects_of-objects.ensures)
    (c.split_at.ensures.front ∙ ap (λ (m : ℕ). take m c.as_slice.result.now) (sym half)) (c.split_at.ensures.back ∙ ap (λ (m : ℕ). drop m c.as_slice.result.now) (sym half)) in
    no_cut (eqb (length ns) (k + k) && name_objects c.args.n ns) (fence_of (objects_of (take k ns)) (objects_of (drop k ns)))
    (λ right. false≢true (c.in-Err.ensures.accepts (subst (λ (x : CutKind). IsCut x) (sym posts.fence) right) posts.below))
