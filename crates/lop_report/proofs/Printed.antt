-- Four pieces that are printed one after another, and where that may be cut off.
use Rattle.std.proofs.Common.{◌≡◌, List, ℕ, ◌++◌, Option, Result, IsErrAnd}
use Rattle.lop_desk.specs.World.{World, with_printed}
use Rattle.lop_desk.specs.Whole.{PrintsFront, PrintsAll}
use Rattle.lop_desk.proofs.Printing.{prints_cut, prints_then}

module _ {E : Type 0} (a b c d : List ℕ) (result : Result (Unit {0}) E) (Q : E → Type 0) where
  pub cut_in_first : (t0 t1 : Option World) → IsErrAnd result Q → PrintsFront t0 t1 a → PrintsAll t0 t1 (a ++ (b ++ (c ++ d))) result
  cut_in_first t0 t1 failed front = prints_cut t0 t1 a (b ++ (c ++ d)) result Q failed front

  pub cut_in_second : (t0 t1 t2 : Option World) → t1 ≡ with_printed a t0 → IsErrAnd result Q → PrintsFront t1 t2 b → PrintsAll t0 t2 (a ++ (b ++ (c ++ d))) result
  cut_in_second t0 t1 t2 first failed front = prints_then t0 t1 t2 a (b ++ (c ++ d)) result first (prints_cut t1 t2 b (c ++ d) result Q failed front)

  pub cut_in_third : (t0 t1 t2 t3 : Option World) → t1 ≡ with_printed a t0 → t2 ≡ with_printed b t1 → IsErrAnd result Q → PrintsFront t2 t3 c → PrintsAll t0 t3 (a ++ (b ++ (c ++ d))) result
  cut_in_third t0 t1 t2 t3 first second failed front =
      prints_then t0 t1 t3 a (b ++ (c ++ d)) result first (prints_then t1 t2 t3 b (c ++ d) result second (prints_cut t2 t3 c d result Q failed front))

pub four_printed : {E : Type 0} (a b c d : List ℕ) (result : Result (Unit {0}) E) (t0 t1 t2 t3 t4 : Option World) → t1 ≡ with_printed a t0 → t2 ≡ with_printed b t1 → t3 ≡ with_printed c t2 → PrintsAll t3 t4 d result
    → PrintsAll t0 t4 (a ++ (b ++ (c ++ d))) result
four_printed a b c d result t0 t1 t2 t3 t4 first second third last =
    prints_then t0 t1 t4 a (b ++ (c ++ d)) result first (prints_then t1 t2 t4 b (c ++ d) result second (prints_then t2 t3 t4 c d result third last))
