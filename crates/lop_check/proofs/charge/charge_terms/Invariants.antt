use Rattle.std.proofs.Common.{◌≡◌, ◌*◌, ◌^◌, ◌≤◌, ◌<◌, ℕ, take}
use Rattle.lop_cuts.specs.Lagrangian.{right_sides}
use Rattle.lop_certtext.specs.RecordLine.{terms_of, terms_in}
use Rattle.lop_model.specs.Cells.{cell}
use Rattle.lop_cuts.specs.Charges.{HasCharges}
use Rattle.lop_check.proofs.charge.charge_terms.Given as goal

abbrev pub invariant-loop-term : goal.invariant-loop-term
invariant-loop-term l = record {
  charged : HasCharges l.n (take l.term (terms_in l.cuts (terms_of l.numbers))) l.charges;
  sides : l.sides ≡ right_sides (take l.term (terms_in l.cuts (terms_of l.numbers)));
  small : (a b : ℕ) → a < l.n → b < l.n → cell l.charges l.n a b ≤ l.term * 2 ^ 63;
  few : l.sides ≤ l.term * 2 ^ 69;
}
