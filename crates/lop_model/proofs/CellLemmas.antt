-- Reads and writes of tables of n rows of n values.
use Rattle.std.proofs.Common.{◌≡◌, ℕ, ◌+◌, ◌*◌, ◌<◌, Bool, true, false, cond, eqb, ◌&&◌, List, ◌++◌, append-nil, length, take, drop, get_or, set, inl, inr, refl, sym, ◌∙◌, ap, arith}
use Rattle.std.proofs.lemmas.Bool.{cases_eq}
use Rattle.std.proofs.lemmas.Bool.Decides.{nat_tests}
use Rattle.std.proofs.lemmas.List.{drop_all, take_all, get_or-set_same, get_or-set_other}
use Rattle.std.proofs.lemmas.Nat.{mul-add-lt, same_from_place}

-- what a vector holds after all of it was lent
pub put_back : (new items : List ℕ) (len : ℕ) → length new ≡ length items → len ≡ length items → take len (new ++ drop (length new) items) ≡ new
put_back new items len e f =
    ap (λ back. take len (new ++ back)) (drop_all (length new) items (omega arith))
    ∙ ap (take len) (append-nil new)
    ∙ take_all len new (omega arith)

-- a row and a column below n have a place in the table
pub place_within : (n a b : ℕ) → a < n → b < n → a * n + b < n * n
place_within n a b l m = mul-add-lt a n b n l m

tests_fail : (r c x y : ℕ) → (x ≡ r → y ≡ c → ⊥) → (eqb x r && eqb y c) ≡ false
tests_fail r c x y apart = grind (arith, nat_tests)

tests_hold : (r c x y : ℕ) → x ≡ r → y ≡ c → (eqb x r && eqb y c) ≡ true
tests_hold r c x y e f = grind (arith, nat_tests)

cond_true : {X : Type 0} (b : Bool) (v o : X) → b ≡ true → v ≡ cond b v o
cond_true true v o e = refl
cond_true false v o e = absurd (cc)

cond_false : {X : Type 0} (b : Bool) (v o : X) → b ≡ false → o ≡ cond b v o
cond_false true v o e = absurd (cc)
cond_false false v o e = refl

-- one value is written
pub read-set : {X : Type 0} (t : List X) (n r c x y : ℕ) (v d : X) → length t ≡ n * n → r < n → c < n → y < n → get_or (set t (r * n + c) v) (x * n + y) d ≡ cond (eqb x r && eqb y c) v (get_or t (x * n + y) d)
read-set t n r c x y v d whole row column m =
    let in_t : r * n + c < length t = omega (arith, place_within n r c row column) in
    elim (cases_eq (x * n + y) (r * n + c)) [
      | inl same ↦
          let place = same_from_place x y r c n m column same in
          ap (λ k. get_or (set t (r * n + c) v) k d) same ∙ get_or-set_same t (r * n + c) v d in_t ∙ cond_true (eqb x r && eqb y c) v (get_or t (x * n + y) d) (tests_hold r c x y place.0 place.1)
      | inr other ↦
          get_or-set_other t (r * n + c) (x * n + y) v d other
          ∙ cond_false (eqb x r && eqb y c) v (get_or t (x * n + y) d) (tests_fail r c x y (λ e f. other (ap (λ k. k * n + y) e ∙ ap (λ k. r * n + k) f)))
    ]

-- the value that was written
pub read_here : {X : Type 0} (t : List X) (n r c : ℕ) (v d : X) → length t ≡ n * n → r < n → c < n → get_or (set t (r * n + c) v) (r * n + c) d ≡ v
read_here t n r c v d whole row column = get_or-set_same t (r * n + c) v d (omega (arith, place_within n r c row column))

-- the value elsewhere
pub read_elsewhere : {X : Type 0} (t : List X) (n r c x y : ℕ) (v d : X) → length t ≡ n * n → r < n → c < n → y < n → (x ≡ r → y ≡ c → ⊥) → get_or (set t (r * n + c) v) (x * n + y) d ≡ get_or t (x * n + y) d
read_elsewhere t n r c x y v d whole row column m apart =
    read-set t n r c x y v d whole row column m ∙ sym (cond_false (eqb x r && eqb y c) v (get_or t (x * n + y) d) (tests_fail r c x y apart))
