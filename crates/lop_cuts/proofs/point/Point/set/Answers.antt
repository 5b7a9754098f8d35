use Rattle.std.proofs.Common.{◌≡◌, ◌≢◌, ◌<◌, ℕ, subst, sym, ◌∙◌}
use Rattle.std.proofs.lemmas.List.{length-set}
use Rattle.lop_cuts.specs.Point.{PointValues, IsPoint, IsWithArc}
use Rattle.lop_cuts.proofs.PointLemmas.{written, IsWithArc-written, IsPoint-with_arc}
use Rattle.lop_cuts.proofs.point.Point.set.Goals as goal

-- the arguments are objects of the point that stands inside
in_size : (p q : PointValues) (a b to : ℕ) → p ≡ q → IsPoint p → a < q.size → b < q.size → a ≢ b → IsWithArc p (record { size = p.size; values = written p.size p.values a b to }) a b to
in_size p q a b to is was row column differ =
    IsWithArc-written p.size p.values a b to was.square (subst (λ (r : PointValues). a < r.size) (sym is) row) (subst (λ (r : PointValues). b < r.size) (sym is) column) differ

pub invariant_of-self : goal.invariant_of-self
invariant_of-self c =
    let n = c.self.inside.size in
    let vs = c.self.inside.values.items in
    let a = c.args.a in
    let b = c.args.b in
    let p : PointValues = record { size = n; values = vs } in
    let r = c.requires in
    let with = in_size p c.args.self.now a b c.args.to c.self.view_is c.self.invariant r.first r.second r.differ in
    IsPoint-with_arc p (record { size = n; values = written n vs a b c.args.to }) a b c.args.to c.self.invariant with
    (length-set _ _ _ ∙ length-set vs _ c.args.to ∙ c.self.invariant.square)
    (subst (λ (q : PointValues). a < q.size) (sym c.self.view_is) r.first) (subst (λ (q : PointValues). b < q.size) (sym c.self.view_is) r.second) r.at_most

pub returns : goal.returns
returns c =
    let n = c.self.inside.size in
    let vs = c.self.inside.values.items in
    let a = c.args.a in
    let b = c.args.b in
    let p : PointValues = record { size = n; values = vs } in
    let r = c.requires in
    subst (λ (q : PointValues). IsWithArc q (record { size = n; values = written n vs a b c.args.to }) a b c.args.to) c.self.view_is
    (in_size p c.args.self.now a b c.args.to c.self.view_is c.self.invariant r.first r.second r.differ)
