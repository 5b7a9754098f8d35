use Rattle.std.proofs.Common.{◌≡◌, true, false, refl, ◌∙◌, rules, FitsSigned}
use Rattle.std.specs.Int.{w64}
use Rattle.std.proofs.lemmas.Int.{to_z-of_z}
use Rattle.lop_model.specs.Fixings.{has_pair}
use Rattle.lop_leaf.proofs.FallLemmas.{false_from_not, not_both}
use Rattle.lop_leaf.proofs.rows.ways_of.Goals as goal

pub returns-in-Before-clause-forth : goal.returns-in-Before-clause-forth
returns-in-Before-clause-forth c =
    let pairs = c.args.fixings.now.pairs in
    let i = c.args.i in
    let j = c.args.j in
    let fixed = c.in-Before.ensures.partial_order in
    let first : has_pair pairs i j ≡ true = (fixed.closed.each i j).1 c.in-Before.ensures.decision in
    let other : has_pair pairs j i ≡ false = false_from_not (has_pair pairs j i) (λ t. not_both c.args.fixings.now i j fixed first t) in
    let fits : FitsSigned w64 c.at.result = search rules in
    to_z-of_z w64 c.at.result fits ∙ c.at.ensures ∙ rw other refl

pub returns-in-After-clause-back : goal.returns-in-After-clause-back
returns-in-After-clause-back c =
    let pairs = c.args.fixings.now.pairs in
    let i = c.args.i in
    let j = c.args.j in
    let fixed = c.in-After.ensures.partial_order in
    let first : has_pair pairs j i ≡ true = (fixed.closed.each j i).1 c.in-After.ensures.decision in
    let other : has_pair pairs i j ≡ false = false_from_not (has_pair pairs i j) (λ t. not_both c.args.fixings.now j i fixed first t) in
    let fits : FitsSigned w64 c.at-in-After.result = search rules in
    to_z-of_z w64 c.at-in-After.result fits ∙ c.at-in-After.ensures ∙ rw other refl
