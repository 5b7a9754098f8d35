use Rattle.std.proofs.Common.{◌≡◌, ◌*◌, ◌^◌, ◌≤◌, take}
use Rattle.lop_cuts.specs.Lagrangian.{right_sides}
use Rattle.lop_cuts.specs.Charges.{HasCharges}
use Rattle.lop_leaf.proofs.charges.charge_terms.Given as goal

abbrev pub invariant-loop-index : goal.invariant-loop-index
invariant-loop-index l = record {
  charged : HasCharges l.n (take l.index l.rec.terms) l.table;
  sides : l.sides ≡ right_sides (take l.index l.rec.terms);
  few : l.sides ≤ l.index * 2 ^ 69;
}
