-- A list of rows to which a cut is appended.
use Rattle.std.proofs.Common.{◌≡◌, ◌≢◌, ℕ, ◌<◌, ◌≤◌, List, [], ◌∷◌, ◌++◌, length, take, ℤ, refl, sym, subst, arith}
use Rattle.std.specs.Prelude.{All}
use Rattle.std.proofs.lemmas.Grind.{common_steps}
use Rattle.std.proofs.lemmas.List.Quantifiers.{all_pairs_push}
use Rattle.lop_cuts.specs.declared.kind.CutKind.{CutKind}
use Rattle.lop_cuts.specs.Kind.{IsCut, FitsCut}
use Rattle.lop_ascent.specs.Rows.{IsRowList, no_rows}
use Rattle.lop_model.specs.declared.weights.TheConstants.{MAX_OBJECTS}
use Rattle.lop_ascent.specs.declared.room.TheConstants.{MAX_ROWS}

-- what is below n is below the most objects
pub fits_more : (n : ℕ) (cut : CutKind) → n ≤ MAX_OBJECTS → FitsCut n cut → FitsCut MAX_OBJECTS cut
fits_more n cut l h = λ k e m. let below = h k e m in omega (arith, below)

all_push : (P : CutKind → Type 0) (xs : List CutKind) (x : CutKind) → All P xs → P x → All P (xs ++ x ∷ [])
all_push P xs x h p = grind (arith, common_steps)

pub list_push : (n : ℕ) (xs : List CutKind) (cut : CutKind) → IsRowList n xs → All (λ c. c ≢ cut) xs → length xs < MAX_ROWS → IsCut cut → FitsCut n cut → IsRowList n (xs ++ cut ∷ [])
list_push n xs cut list others room valid fits = record {
  few = grind (arith, common_steps);
  different = all_pairs_push (λ a b. a ≢ b) xs cut list.different (λ k e l. others k e l);
  valid = all_push IsCut xs cut list.valid valid;
  fit = all_push (FitsCut n) xs cut list.fit fits;
}

pub list_none : (n : ℕ) (xs : List CutKind) → length xs ≡ 0 → IsRowList n xs
list_none n xs e = record {
  few = omega arith;
  different = λ i j d l m. absurd (omega arith);
  valid = λ k d l. absurd (omega arith);
  fit = λ k d l. absurd (omega arith);
}

pub view_none : (n len : ℕ) (cuts : List CutKind) (hints : List ℤ) → cuts ≡ [] → len ≡ 0 → record { size = n; cuts = cuts; duals = take len hints } ≡ no_rows n
view_none n len cuts hints e f = rw (e, f) refl

-- the rows to which a new cut was appended
pub row_added : (n : ℕ) (old seen new : List CutKind) (cut : CutKind) → IsRowList n old → seen ≡ old → All (λ c. c ≢ cut) seen → length old < MAX_ROWS → IsCut cut → FitsCut n cut → new ≡ old ++ cut ∷ [] → IsRowList n new
row_added n old seen new cut list is others room valid fits e =
    subst (λ xs. IsRowList n xs) (sym e) (list_push n old cut list (subst (λ (xs : List CutKind). All (λ c. c ≢ cut) xs) is others) room valid fits)
