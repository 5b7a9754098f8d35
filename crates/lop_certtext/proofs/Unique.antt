-- Every text has one answer.
use Rattle.std.proofs.Common.{◌≡◌, ℕ, List, refl, sym, ◌∙◌, ap}
use Rattle.std.proofs.Math.Path.{fun_ext}
use Rattle.lop_model.specs.declared.pair.Pair.{Pair}
use Rattle.lop_model.specs.Matrix.{Matrix}
use Rattle.lop_model.specs.Closing.{AreClosures, closed}
use Rattle.lop_model.proofs.Closings.{AreClosures-closed}
use Rattle.lop_cuts.proofs.ClosureUnique.{IsClosure-unique}
use Rattle.lop_certtext.specs.Answer.{CheckAnswer, check_answer, IsCheckAnswer}

-- functions that give each list of pairs its closure are alike
pub closures_alike : (K L : List Pair → List Pair) → AreClosures K → AreClosures L → K ≡ L
closures_alike K L k l = fun_ext (λ F. IsClosure-unique F (K F) (L F) (k.each F) (l.each F))

-- what one of them leads to is the answer
pub IsCheckAnswer-one : (C : Matrix) (bytes : List ℕ) (K : List Pair → List Pair) (answer : CheckAnswer) → AreClosures K → check_answer K C bytes ≡ answer → IsCheckAnswer C bytes answer
IsCheckAnswer-one C bytes K answer closes is L others = ap (λ (M : List Pair → List Pair). check_answer M C bytes) (closures_alike L K others closes) ∙ is

-- there is an answer
pub IsCheckAnswer-some : (C : Matrix) (bytes : List ℕ) → IsCheckAnswer C bytes (check_answer closed C bytes)
IsCheckAnswer-some C bytes = IsCheckAnswer-one C bytes closed (check_answer closed C bytes) AreClosures-closed refl

-- and no other
pub IsCheckAnswer-unique : (C : Matrix) (bytes : List ℕ) (one other : CheckAnswer) → IsCheckAnswer C bytes one → IsCheckAnswer C bytes other → one ≡ other
IsCheckAnswer-unique C bytes one other is so = sym (is closed AreClosures-closed) ∙ so closed AreClosures-closed
