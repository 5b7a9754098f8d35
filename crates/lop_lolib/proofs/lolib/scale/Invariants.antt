use Rattle.std.proofs.Common.{◌≡◌, ℕ, ◌≤◌, length, get_or, pos}
use Rattle.lop_lolib.specs.Numbers.{AreUnits}
use Rattle.lop_lolib.proofs.lolib.scale.Given as goal

abbrev pub invariant-loop-index : goal.invariant-loop-index
invariant-loop-index l = record {
  long : length l.digits ≡ length l.fn.digits;
  done : AreUnits l.k l.fn.digits l.decimals l.digits l.index;
  left : (i : ℕ) → l.index ≤ i → get_or l.digits i (pos 0) ≡ get_or l.fn.digits i (pos 0);
}
