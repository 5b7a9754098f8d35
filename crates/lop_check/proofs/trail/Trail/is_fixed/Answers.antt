use Rattle.std.proofs.Common.{sym, ap, ◌∙◌, ◌≡◌, ◌<◌, arith, List, ℕ}
use Rattle.lop_model.specs.Fixings.{has_pair}
use Rattle.lop_model.proofs.RelatedPairs.{has_pair-inside}
use Rattle.lop_check.specs.Trail.{FixedPath, is_fixed}
use Rattle.lop_check.proofs.trail.Trail.is_fixed.Goals as goal

pub returns : goal.returns
returns c =
    let n = c.self.inside.size in
    let size : n ≡ c.args.self.now.size = ap (λ (f : FixedPath). f.size) c.self.view_is in
    let first : c.args.a < n = omega (arith, size, c.requires.first) in
    let second : c.args.b < n = omega (arith, size, c.requires.second) in
    c.is_fixed.ensures
    ∙ ap (λ (t : List ℕ). is_fixed t n c.args.a c.args.b) c.deref.ensures.value
    ∙ sym (has_pair-inside n (is_fixed c.self.inside.depths.items n) c.args.a c.args.b first second)
    ∙ ap (λ (f : FixedPath). has_pair f.fixed c.args.a c.args.b) c.self.view_is
