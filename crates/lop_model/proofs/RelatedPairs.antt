-- The list of the pairs that are related.
use Rattle.std.proofs.Common.{◌≡◌, ◌≢◌, ◌⊎◌, ℕ, zero, suc, ◌+◌, ◌<◌, ◌≤◌, Bool, true, false, cond, eqb, ltb, leb, ◌&&◌, ◌||◌, List, [], ◌∷◌, map, refl, sym, ◌∙◌, ap, arith}
use Rattle.std.specs.Prelude.{IsTrue}
use Rattle.std.specs.List.{range_with_len, filter, flat_map}
use Rattle.std.proofs.lemmas.Bool.Decides.{nat_tests}
use Rattle.std.proofs.lemmas.List.Folds.{list_any-append}
use Rattle.lop_model.specs.declared.pair.Pair.{Pair}
use Rattle.lop_model.specs.Fixings.{has_pair}
use Rattle.lop_model.specs.Related.{pair, pairs_of}

empty_row : (t s : Bool) (c y : ℕ) → false ≡ (t && ((leb c y && ltb y (c + 0)) && s))
empty_row t s c y = grind (arith, nat_tests)

empty_rows : (s : Bool) (c x : ℕ) → false ≡ ((leb c x && ltb x (c + 0)) && s)
empty_rows s c x = grind (arith, nat_tests)

other_row : (a x : ℕ) (b : Bool) → a ≢ x → (eqb a x && b) ≡ false
other_row a x b ne = grind (arith, nat_tests)

tidy_tests : (x y n : ℕ) (r : Bool) → ((leb 0 x && ltb x (0 + n)) && (eqb x x && ((leb 0 y && ltb y (0 + n)) && r))) ≡ ((ltb x n && ltb y n) && r)
tidy_tests x y n r = grind (arith, nat_tests)

rows_step : (h hx b : Bool) (c x k : ℕ) → (c ≡ x → h ≡ hx) → (c ≢ x → h ≡ false) → b ≡ ((leb (c + 1) x && ltb x (c + 1 + k)) && hx) → (h || b) ≡ ((leb c x && ltb x (c + suc k)) && hx)
rows_step h hx b c x k same none e = grind (arith, nat_tests)

row_step : (t r s b : Bool) (c y k : ℕ) → (c ≡ y → r ≡ s) → b ≡ (t && ((leb (c + 1) y && ltb y (c + 1 + k)) && s)) → cond r ((t && eqb c y) || b) b ≡ (t && ((leb c y && ltb y (c + suc k)) && s))
row_step t r s b c y k same e = grind (arith, nat_tests)

has_pair-cond : (r : Bool) (a c x y : ℕ) (F : List ℕ) → has_pair (map (pair a) (cond r (c ∷ F) F)) x y ≡ cond r ((eqb a x && eqb c y) || has_pair (map (pair a) F) x y) (has_pair (map (pair a) F) x y)
has_pair-cond true a c x y F = refl
has_pair-cond false a c x y F = refl

has_pair-row : (r : ℕ → Bool) (a c k x y : ℕ) → has_pair (map (pair a) (filter r (range_with_len c k))) x y ≡ (eqb a x && ((leb c y && ltb y (c + k)) && r y))
has_pair-row r a c zero x y = empty_row (eqb a x) (r y) c y
has_pair-row r a c (suc k) x y =
    has_pair-cond (r c) a c x y (filter r (range_with_len (c + 1) k))
    ∙ row_step (eqb a x) (r c) (r y) (has_pair (map (pair a) (filter r (range_with_len (c + 1) k))) x y) c y k (ap r) (has_pair-row r a (c + 1) k x y)

has_pair-rows : (f : ℕ → List Pair) (x y : ℕ) → ((a : ℕ) → a ≢ x → has_pair (f a) x y ≡ false) → (c k : ℕ) → has_pair (flat_map f (range_with_len c k)) x y ≡ ((leb c x && ltb x (c + k)) && has_pair (f x) x y)
has_pair-rows f x y none c zero = empty_rows (has_pair (f x) x y) c x
has_pair-rows f x y none c (suc k) =
    list_any-append (λ p. eqb p.before x && eqb p.after y) (f c) (flat_map f (range_with_len (c + 1) k))
    ∙ rows_step (has_pair (f c) x y) (has_pair (f x) x y) (has_pair (flat_map f (range_with_len (c + 1) k)) x y) c x k
    (λ e. ap (λ a. has_pair (f a) x y) e) (none c) (has_pair-rows f x y none (c + 1) k)

-- a pair is in the list where its objects are below n and related
pub has_pair-pairs_of : (n : ℕ) (related : ℕ → ℕ → Bool) (x y : ℕ) → has_pair (pairs_of n related) x y ≡ ((ltb x n && ltb y n) && related x y)
has_pair-pairs_of n related x y =
    let f : ℕ → List Pair = λ a. map (pair a) (filter (related a) (range_with_len 0 n)) in
    has_pair-rows f x y (λ a ne. has_pair-row (related a) a 0 n x y ∙ other_row a x (leb 0 y && ltb y (0 + n) && related a y) ne) 0 n
    ∙ ap (λ b. (leb 0 x && ltb x (0 + n)) && b) (has_pair-row (related x) x 0 n x y)
    ∙ tidy_tests x y n (related x y)

both_below : (x y n : ℕ) (r : Bool) → x < n → y < n → ((ltb x n && ltb y n) && r) ≡ r
both_below x y n r l m = grind (arith, nat_tests)

one_past : (x y n : ℕ) (r : Bool) → (n ≤ x) ⊎ (n ≤ y) → ((ltb x n && ltb y n) && r) ≡ false
one_past x y n r h = grind (arith, nat_tests)

first_below : (x y n : ℕ) (r : Bool) → IsTrue ((ltb x n && ltb y n) && r) → x < n
first_below x y n r t = grind (arith, nat_tests)

second_below : (x y n : ℕ) (r : Bool) → IsTrue ((ltb x n && ltb y n) && r) → y < n
second_below x y n r t = grind (arith, nat_tests)

past_both : (x y n : ℕ) (r : Bool) → IsTrue ((ltb x n && ltb y n) && r) → IsTrue r
past_both x y n r e = grind (arith, nat_tests)

-- objects below n are in the list where they are related
pub has_pair-inside : (n : ℕ) (r : ℕ → ℕ → Bool) (x y : ℕ) → x < n → y < n → has_pair (pairs_of n r) x y ≡ r x y
has_pair-inside n r x y l m = has_pair-pairs_of n r x y ∙ both_below x y n (r x y) l m

-- others aren't in it
pub has_pair-outside : (n : ℕ) (r : ℕ → ℕ → Bool) (x y : ℕ) → (n ≤ x) ⊎ (n ≤ y) → has_pair (pairs_of n r) x y ≡ false
has_pair-outside n r x y h = has_pair-pairs_of n r x y ∙ one_past x y n (r x y) h

pub has_pair-below : (n : ℕ) (r : ℕ → ℕ → Bool) (x y : ℕ) → IsTrue (has_pair (pairs_of n r) x y) → (x < n) × (y < n)
has_pair-below n r x y t =
    let u = sym (has_pair-pairs_of n r x y) ∙ t in
    (first_below x y n (r x y) u, second_below x y n (r x y) u)

pub related-has_pair : (n : ℕ) (r : ℕ → ℕ → Bool) (x y : ℕ) → IsTrue (has_pair (pairs_of n r) x y) → IsTrue (r x y)
related-has_pair n r x y t = past_both x y n (r x y) (sym (has_pair-pairs_of n r x y) ∙ t)

-- ---- nothing is related

filter-none : (r : ℕ → Bool) (c k : ℕ) → ((b : ℕ) → b < c + k → r b ≡ false) → filter r (range_with_len c k) ≡ []
filter-none r c zero h = refl
filter-none r c (suc k) h = rw (h c (omega arith)) (filter-none r (c + 1) k (λ b l. h b (omega arith)))

flat_map-none : (f : ℕ → List Pair) (c k : ℕ) → ((a : ℕ) → a < c + k → f a ≡ []) → flat_map f (range_with_len c k) ≡ []
flat_map-none f c zero h = refl
flat_map-none f c (suc k) h = rw (h c (omega arith)) (flat_map-none f (c + 1) k (λ a l. h a (omega arith)))

pub pairs_of-none : (n : ℕ) (r : ℕ → ℕ → Bool) → ((a b : ℕ) → a < n → b < n → r a b ≡ false) → pairs_of n r ≡ []
pairs_of-none n r h =
    flat_map-none (λ a. map (pair a) (filter (r a) (range_with_len 0 n))) 0 n
    (λ a l. ap (map (pair a)) (filter-none (r a) 0 n (λ b m. h a b (omega arith) (omega arith))))
