-- What a line of the tree does to the pending paths.
use Rattle.std.proofs.Common.{◌≡◌, ℕ, suc, ◌+◌, ◌*◌, ◌<◌, ◌≤◌, Bool, true, false, cond, ◌&&◌, eqb, List, [], ◌∷◌, length, drop, drop-cons, get_or, nat_abs, ℤ, pos, ◌≤ℤ◌, ◌<ℤ◌, Option, None, Some, refl, sym, ◌∙◌, ap, arith}
use Rattle.std.specs.Prelude.{int_lt, nat_lt, nat_le}
use Rattle.std.proofs.lemmas.Int.{ints}
use Rattle.std.proofs.lemmas.Bool.{and_parts, eqb-true, leb-true}
use Rattle.lop_cuts.specs.declared.limits.TheConstants.{MAX_SCALE, MAX_TERMS}
use Rattle.std.proofs.lemmas.List.{drop_all}
use Rattle.lop_certtext.specs.RecordLine.{CertRecord, are_rising, terms_of, is_record_row, record_of}
use Rattle.lop_check.specs.Records.{IsRow, follows}

-- ---- terms in turn

pub rising_step : (ns : List ℤ) (count last i : ℕ) → 2 * i + 1 < length ns → are_rising last count (terms_of (drop (2 * i) ns)) ≡ (follows ns i last count && are_rising (nat_abs (get_or ns (2 * i) (pos 0))) count (terms_of (drop (2 * (i + 1)) ns)))
rising_step ns count last i l =
    let two : suc (suc (2 * i)) ≡ 2 * (i + 1) = omega arith in
    let one : suc (2 * i) ≡ 2 * i + 1 = omega arith in
    let first : drop (2 * i) ns ≡ get_or ns (2 * i) (pos 0) ∷ drop (suc (2 * i)) ns = drop-cons ns (2 * i) (pos 0) (omega arith) in
    let second : drop (suc (2 * i)) ns ≡ get_or ns (suc (2 * i)) (pos 0) ∷ drop (suc (suc (2 * i))) ns = drop-cons ns (suc (2 * i)) (pos 0) (omega arith) in
    ap (λ (l : List ℤ). are_rising last count (terms_of l)) (first ∙ ap (λ (l : List ℤ). get_or ns (2 * i) (pos 0) ∷ l) second)
    ∙ ap (λ (k : ℕ). follows_at k && are_rising (nat_abs (get_or ns (2 * i) (pos 0))) count (terms_of (drop (suc (suc (2 * i))) ns))) one
    ∙ ap (λ (k : ℕ). follows ns i last count && are_rising (nat_abs (get_or ns (2 * i) (pos 0))) count (terms_of (drop k ns))) two
  where
    follows_at : ℕ → Bool
    follows_at k = nat_lt last (nat_abs (get_or ns (2 * i) (pos 0))) && nat_le (nat_abs (get_or ns (2 * i) (pos 0))) count && nat_lt 0 (nat_abs (get_or ns k (pos 0)))

pub none_rising : (ns : List ℤ) (count last k : ℕ) → length ns ≤ k → are_rising last count (terms_of (drop k ns)) ≡ true
none_rising ns count last k l = ap (λ (xs : List ℤ). are_rising last count (terms_of xs)) (drop_all k ns l)

-- ---- leaves

pub two_front : (xs : List ℤ) → 2 ≤ length xs → xs ≡ get_or xs 0 (pos 0) ∷ get_or xs 1 (pos 0) ∷ drop 2 xs
two_front [] h = absurd (omega arith)
two_front (a ∷ []) h = absurd (omega arith)
two_front (a ∷ b ∷ xs) h = refl

pub one_front : (xs : List ℤ) → 1 ≤ length xs → length xs < 2 → xs ≡ get_or xs 0 (pos 0) ∷ []
one_front [] h k = absurd (omega arith)
one_front (a ∷ []) h k = refl
one_front (a ∷ b ∷ xs) h k = absurd (omega arith)

pub leaf_read : (count : ℕ) (xs : List ℤ) → 2 ≤ length xs → is_record_row count (nat_abs (get_or xs 0 (pos 0))) (nat_abs (get_or xs 1 (pos 0))) (drop 2 xs) ≡ true → record_of count xs ≡ Some (record { scale = nat_abs (get_or xs 0 (pos 0)); terms = terms_of (drop 2 xs) })
leaf_read count [] h e = absurd (omega arith)
leaf_read count (a ∷ []) h e = absurd (omega arith)
leaf_read count (a ∷ b ∷ xs) h e = ap (λ (t : Bool). cond {A = Option CertRecord} t (Some (record { scale = nat_abs a; terms = terms_of xs })) None) e

-- such numbers are a record
pub row_is : (count : ℕ) (xs : List ℤ) → 2 ≤ length xs → is_record_row count (nat_abs (get_or xs 0 (pos 0))) (nat_abs (get_or xs 1 (pos 0))) (drop 2 xs) ≡ true → IsRow count xs (nat_abs (get_or xs 0 (pos 0))) (drop 2 xs)
row_is count xs h e =
    let s : ℕ = nat_abs (get_or xs 0 (pos 0)) in
    let t : ℕ = nat_abs (get_or xs 1 (pos 0)) in
    let ns = drop 2 xs in
    let first = and_parts (nat_le 1 s && nat_le s MAX_SCALE && nat_le t MAX_TERMS && eqb (length ns) (2 * t)) (are_rising 0 count (terms_of ns)) e in
    let second = and_parts (nat_le 1 s && nat_le s MAX_SCALE && nat_le t MAX_TERMS) (eqb (length ns) (2 * t)) first.0 in
    let third = and_parts (nat_le 1 s && nat_le s MAX_SCALE) (nat_le t MAX_TERMS) second.0 in
    let fourth = and_parts (nat_le 1 s) (nat_le s MAX_SCALE) third.0 in
    record {
      read = leaf_read count xs h e;
      within_limit = leb-true s MAX_SCALE fourth.1;
      are_terms = record { told = t; few = leb-true t MAX_TERMS third.1; even = eqb-true (length ns) (2 * t) second.1; rising = first.1 };
    }

pub leaf_not : (count : ℕ) (xs : List ℤ) → 2 ≤ length xs → is_record_row count (nat_abs (get_or xs 0 (pos 0))) (nat_abs (get_or xs 1 (pos 0))) (drop 2 xs) ≡ false → record_of count xs ≡ None
leaf_not count [] h e = absurd (omega arith)
leaf_not count (a ∷ []) h e = absurd (omega arith)
leaf_not count (a ∷ b ∷ xs) h e = ap (λ (t : Bool). cond {A = Option CertRecord} t (Some (record { scale = nat_abs a; terms = terms_of xs })) None) e

pub leaf_short : (count : ℕ) (xs : List ℤ) → length xs < 2 → record_of count xs ≡ None
leaf_short count [] h = refl
leaf_short count (a ∷ []) h = refl
leaf_short count (a ∷ b ∷ xs) h = absurd (omega arith)

pub less_from_test : (u l x y : ℤ) → u ≡ x → l ≡ y → int_lt u l ≡ true → x <ℤ y
less_from_test u l x y e f t = less x y (sym (ap (λ (z : ℤ). int_lt z y) (sym e) ∙ ap (λ (z : ℤ). int_lt u z) (sym f) ∙ t))
  where
    less : (x y : ℤ) → true ≡ int_lt x y → x <ℤ y
    less x y t = grind (arith, ints)

pub not_less_from_test : (u l x y : ℤ) → u ≡ x → l ≡ y → int_lt u l ≡ false → y ≤ℤ x
not_less_from_test u l x y e f t = more x y (sym (ap (λ (z : ℤ). int_lt z y) (sym e) ∙ ap (λ (z : ℤ). int_lt u z) (sym f) ∙ t))
  where
    more : (x y : ℤ) → false ≡ int_lt x y → y ≤ℤ x
    more x y t = grind (arith, ints)
