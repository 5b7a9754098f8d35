use Rattle.std.proofs.Common.{◌≡◌, [], ap, arith, rules, length}
use Rattle.lop_check.specs.TreePlace.{IsRoot}
use Rattle.lop_check.specs.Trail.{FixedPath}
use Rattle.lop_check.proofs.PathLemmas.{IsWalk-root}
use Rattle.lop_check.proofs.node.Proof.new.Goals as goal

pub returns : goal.returns
returns c =
    let root : IsRoot c.args.n c.in_ok-new.field-0 = c.in_ok-new.ensures in
    let none : c.new.result.items ≡ [] = c.new.ensures.items in
    record {
      kept = record {
        cuts = record { right = λ i d low. absurd (omega (arith, low, ap length none)); fit = λ i d low. absurd (omega (arith, low, ap length none)) };
        records = λ i d low. absurd (omega (arith, low, ap length c.new-2.ensures));
        walk = IsWalk-root c.args.n c.in_ok-new.field-0 root;
        size = ap (λ (t : FixedPath). t.size) root.trail;
        square = search rules;
      };
      no_cuts = none;
      no_records = c.new-2.ensures;
      root = root;
    }
