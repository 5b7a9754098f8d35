-- The words and bits of a table.
use Rattle.std.proofs.Common.{◌≡◌, ◌≢◌, ℕ, ◌+◌, ◌-◌, ◌*◌, ◌/◌, ◌%◌, ◌^◌, ◌<◌, ◌≤◌, Bool, true, false, cond, eqb, max, ◌&&◌, ◌||◌, List, ◌++◌, length, take, drop, get_or, set, inl, inr, refl, sym, ◌∙◌, ap, subst, arith}
use Rattle.std.specs.Int.{bit_at, w64}
use Rattle.std.specs.Prelude.{bit_or}
use Rattle.std.proofs.lemmas.Bool.{cases_eq, cases_lt}
use Rattle.std.proofs.lemmas.Bool.Decides.{nat_tests}
use Rattle.std.proofs.lemmas.List.{get_or-set_same, get_or-set_other, get_or_append_left, get_or-append_right, get_or-take, get_or-drop, length-append, length-take, length-drop, take-take, take-append-drop, drop-drop, drop-append-le, append_assoc}
use Rattle.std.proofs.Math.Nat.{mul-le-mul_right}
use Rattle.std.proofs.lemmas.Nat.{mul-add-lt, same_from_place}
use Rattle.std.proofs.lemmas.Nat.Bits.{bit_at_or, bit_at-lt, bit_at-zero, bit_at_set_same, bit_at_set_other}
use Rattle.lop_fix.specs.Table.{row_words, word, at, JoinsRow}

-- ---- places

pub column_word : (b n : ℕ) → b < n → b / 64 < row_words n
column_word b n l = omega arith

pub place_within : (n a b : ℕ) → a < n → b < n → a * row_words n + b / 64 < n * row_words n
place_within n a b l m = omega (arith, mul-add-lt a (row_words n) (b / 64) n l (column_word b n m))

-- ---- words

written : (r c x y : ℕ) (v old : ℕ) → (x ≡ r → y ≡ c → ⊥) → old ≡ cond (eqb x r && eqb y c) v old
written r c x y v old apart = grind (arith, nat_tests)

written_here : (r c x y : ℕ) (v old : ℕ) → x ≡ r → y ≡ c → v ≡ cond (eqb x r && eqb y c) v old
written_here r c x y v old e f = grind (arith, nat_tests)

-- one word is written
pub word-set : (t : List ℕ) (n w r c x y v : ℕ) → length t ≡ n * w → r < n → c < w → y < w → word (set t (r * w + c) v) w x y ≡ cond (eqb x r && eqb y c) v (word t w x y)
word-set t n w r c x y v whole row column m =
    let in_t : r * w + c < length t = omega (arith, mul-add-lt r w c n row column) in
    elim (cases_eq (x * w + y) (r * w + c)) [
      | inl same ↦
          let place = same_from_place x y r c w m column same in
          ap (λ k. get_or (set t (r * w + c) v) k 0) same ∙ get_or-set_same t (r * w + c) v 0 in_t ∙ written_here r c x y v (word t w x y) place.0 place.1
      | inr other ↦
          get_or-set_other t (r * w + c) (x * w + y) v 0 other
          ∙ written r c x y v (word t w x y) (λ e f. other (ap (λ k. k * w + y) e ∙ ap (λ k. r * w + k) f))
    ]

-- ---- bits of words

bit_of_cond : (s : Bool) (v o i : ℕ) → eqb (bit_at (cond s v o) i) 1 ≡ cond s (eqb (bit_at v i) 1) (eqb (bit_at o i) 1)
bit_of_cond true v o i = refl
bit_of_cond false v o i = refl

greater_is_one : (p q : ℕ) → p < 2 → q < 2 → eqb (max p q) 1 ≡ (eqb p 1 || eqb q 1)
greater_is_one p q l m = grind (arith, nat_tests)

bit_of_or : (a b i : ℕ) → eqb (bit_at (bit_or a b) i) 1 ≡ (eqb (bit_at a i) 1 || eqb (bit_at b i) 1)
bit_of_or a b i = rw (bit_at_or a b i) (greater_is_one (bit_at a i) (bit_at b i) (bit_at-lt a i) (bit_at-lt b i))

right_true : (p : Bool) (j : ℕ) → true ≡ (p || eqb j j)
right_true p j = grind (arith, nat_tests)

right_false : (p : Bool) (i j : ℕ) → i ≢ j → p ≡ (p || eqb i j)
right_false p i j ne = grind (arith, nat_tests)

bit_of_set_same : (a j : ℕ) → j < 64 → eqb (bit_at (bit_or a (1 * 2 ^ j % 2 ^ 64)) j) 1 ≡ (eqb (bit_at a j) 1 || eqb j j)
bit_of_set_same a j within = ap (λ k. eqb k 1) (bit_at_set_same w64 a j within) ∙ right_true (eqb (bit_at a j) 1) j

bit_of_set : (a i j : ℕ) → j < 64 → eqb (bit_at (bit_or a (1 * 2 ^ j % 2 ^ 64)) i) 1 ≡ (eqb (bit_at a i) 1 || eqb i j)
bit_of_set a i j within = elim (cases_eq i j) [
  | inl same ↦ subst (λ k. eqb (bit_at (bit_or a (1 * 2 ^ j % 2 ^ 64)) k) 1 ≡ (eqb (bit_at a k) 1 || eqb k j)) (sym same) (bit_of_set_same a j within)
  | inr other ↦ ap (λ k. eqb k 1) (bit_at_set_other w64 a j within i other) ∙ right_false (eqb (bit_at a i) 1) i j other
]

-- ---- one bit is set

set_step : (x r y c yq cq i j : ℕ) (old new : Bool) → y ≡ 64 * yq + i → c ≡ 64 * cq + j → i < 64 → j < 64 → (x ≡ r → yq ≡ cq → new ≡ (old || eqb i j)) → cond (eqb x r && eqb yq cq) new old ≡ (old || (eqb x r && eqb y c))
set_step x r y c yq cq i j old new e f l m value = grind (arith, nat_tests)

pub at-set : (t : List ℕ) (n r c x y : ℕ) → length t ≡ n * row_words n → r < n → c < n → y < n → at (set t (r * row_words n + c / 64) (bit_or (word t (row_words n) r (c / 64)) (1 * 2 ^ (c % 64) % 2 ^ 64))) n x y ≡ (at t n x y || (eqb x r && eqb y c))
at-set t n r c x y whole row column m =
    let w = row_words n in
    let v = bit_or (word t w r (c / 64)) (1 * 2 ^ (c % 64) % 2 ^ 64) in
    ap (λ k. eqb (bit_at k (y % 64)) 1) (word-set t n w r (c / 64) x (y / 64) v whole row (column_word c n column) (column_word y n m))
    ∙ bit_of_cond (eqb x r && eqb (y / 64) (c / 64)) v (word t w x (y / 64)) (y % 64)
    ∙ set_step x r y c (y / 64) (c / 64) (y % 64) (c % 64) (at t n x y) (eqb (bit_at v (y % 64)) 1) (omega arith) (omega arith) (omega arith) (omega arith)
    (λ e f. bit_of_set (word t w r (c / 64)) (y % 64) (c % 64) (omega arith) ∙ ap (λ k. eqb (bit_at k (y % 64)) 1 || eqb (y % 64) (c % 64)) (ap (λ k. word t w k (c / 64)) (sym e) ∙ ap (λ k. word t w x k) (sym f)))

-- ---- a row is joined

-- row into of new is that of old joined with row from of old, and the other rows are as they were
abbrev pub IsJoined : List ℕ → List ℕ → ℕ → ℕ → ℕ → ℕ → Type 0
IsJoined old new n w into from = (x z : ℕ) → x < n → z < w → word new w x z ≡ cond (eqb x into) (bit_or (word old w x z) (word old w from z)) (word old w x z)

place_before : (a w z b : ℕ) → a < b → z < w → a * w + z < b * w
place_before a w z b l m = omega (arith, mul-add-lt a w z b l m)

chosen : (x into : ℕ) (v o : ℕ) → x ≡ into → v ≡ cond (eqb x into) v o
chosen x into v o e = grind (arith, nat_tests)

passed : (x into : ℕ) (v o : ℕ) → x ≢ into → o ≡ cond (eqb x into) v o
passed x into v o ne = grind (arith, nat_tests)

module _ (old row : List ℕ) (n w into from : ℕ) (whole : length old ≡ n * w) (within : into < n) (long : length row ≡ w) where
  abbrev first_rows : List ℕ
  first_rows = take (into * w) old

  abbrev last_rows : List ℕ
  last_rows = drop (into * w + w) old

  front_len : (z : ℕ) → z < w → length first_rows ≡ into * w
  front_len z lz = omega (arith, length-take (into * w) old, place_before into w z n within lz)

  row_there : (x z : ℕ) → z < w → x ≡ into → word (first_rows ++ (row ++ last_rows)) w x z ≡ get_or row z 0
  row_there x z lz same =
      ap (λ k. word (first_rows ++ (row ++ last_rows)) w k z) same
      ∙ get_or-append_right first_rows (row ++ last_rows) (into * w) (into * w + z) 0 (front_len z lz) (omega arith)
      ∙ ap (λ k. get_or (row ++ last_rows) k 0) (omega arith)
      ∙ get_or_append_left row last_rows 0 z (omega arith)

  row_before : (x z : ℕ) → z < w → x < into → word (first_rows ++ (row ++ last_rows)) w x z ≡ word old w x z
  row_before x z lz before =
      let place : x * w + z < into * w = place_before x w z into before lz in
      get_or_append_left first_rows (row ++ last_rows) 0 (x * w + z) (omega (arith, front_len z lz))
      ∙ get_or-take (into * w) old (x * w + z) 0 place

  row_after : (x z : ℕ) → z < w → into < x → word (first_rows ++ (row ++ last_rows)) w x z ≡ word old w x z
  row_after x z lz after =
      let last : into * w + (w - 1) < x * w = place_before into w (w - 1) x after (omega arith) in
      get_or-append_right first_rows (row ++ last_rows) (into * w) (x * w + z) 0 (front_len z lz) (omega arith)
      ∙ get_or-append_right row last_rows w (x * w + z - into * w) 0 long (omega arith)
      ∙ get_or-drop (into * w + w) old (x * w + z - into * w - w) 0
      ∙ ap (λ k. get_or old k 0) (omega arith)

  pub joined_length : length (first_rows ++ (row ++ last_rows)) ≡ length old
  joined_length =
      let least : (into + 1) * w ≤ n * w = mul-le-mul_right w (omega arith) in
      let one_more : (into + 1) * w ≡ into * w + w = omega arith in
      omega (arith, length-append first_rows (row ++ last_rows), length-append row last_rows, length-take (into * w) old, length-drop (into * w + w) old)

  pub joined_row : ((z : ℕ) → z < w → get_or row z 0 ≡ bit_or (word old w into z) (word old w from z)) → IsJoined old (first_rows ++ (row ++ last_rows)) n w into from
  joined_row each x z lx lz =
      let v = bit_or (word old w x z) (word old w from z) in
      elim (cases_eq x into) [
        | inl same ↦ row_there x z lz same ∙ each z lz ∙ ap (λ k. bit_or (word old w k z) (word old w from z)) (sym same) ∙ chosen x into v (word old w x z) same
        | inr other ↦ elim (cases_lt x into) [
          | inl before ↦ row_before x z lz before ∙ passed x into v (word old w x z) other
          | inr after ↦ row_after x z lz (omega arith) ∙ passed x into v (word old w x z) other
        ]
      ]

-- the w words from place a on, where they are there
pub part_length : (xs : List ℕ) (a w m : ℕ) → a + w ≤ length xs → m ≡ w → length (take m (drop a xs)) ≡ w
part_length xs a w m l e = omega (arith, length-take m (drop a xs), length-drop a xs)

pub first_length : (xs : List ℕ) (w : ℕ) → w ≤ length xs → length (take w xs) ≡ w
first_length xs w l = omega (arith, length-take w xs)

pub row_within : (a w n : ℕ) → a < n → a * w + w ≤ n * w
row_within a w n l =
    let least : (a + 1) * w ≤ n * w = mul-le-mul_right w (omega arith) in
    let one_more : (a + 1) * w ≡ a * w + w = omega arith in
    omega arith

module _ (old row : List ℕ) (n w into from m : ℕ) (whole : length old ≡ n * w) (long : length row ≡ w) (wide : m ≡ w) where
  -- the row stands in the front part, before row from
  pub joined_front : (front back : List ℕ) → into < from → from < n → front ≡ take (from * w) old → back ≡ drop (from * w) old
      → ((z : ℕ) → z < w → get_or row z 0 ≡ bit_or (get_or (take m (drop (into * w) front)) z 0) (get_or (take w back) z 0))
      → IsJoined old ((take (into * w) front ++ (row ++ drop m (drop (into * w) front))) ++ back) n w into from × (length ((take (into * w) front ++ (row ++ drop m (drop (into * w) front))) ++ back) ≡ length old)
  joined_front front back apart other f b each =
      let a = into * w in
      let mid = from * w in
      let part = take mid old in
      let tail = drop mid old in
      let bound : (z : ℕ) → z < w → a + z < mid = λ z lz. place_before into w z from apart lz in
      let least : (into + 1) * w ≤ from * w = mul-le-mul_right w (omega arith) in
      let most : from * w ≤ n * w = mul-le-mul_right w (omega arith) in
      let one_more : (into + 1) * w ≡ a + w = omega arith in
      let fits : a + w ≤ length part = omega (arith, length-take mid old) in
      let joined_tail : drop m (drop a part) ++ tail ≡ drop (a + w) old =
      ap (λ k. drop k (drop a part) ++ tail) wide ∙ ap (λ xs. xs ++ tail) (drop-drop w a part) ∙ sym (drop-append-le (a + w) part tail fits) ∙ ap (drop (a + w)) (take-append-drop mid old) in
      let shape : (take a front ++ (row ++ drop m (drop a front))) ++ back ≡ take a old ++ (row ++ drop (a + w) old) =
      ap (λ xs. (take a xs ++ (row ++ drop m (drop a xs))) ++ back) f
      ∙ ap (λ ys. (take a part ++ (row ++ drop m (drop a part))) ++ ys) b
      ∙ append_assoc (take a part) (row ++ drop m (drop a part)) tail
      ∙ ap (λ ys. take a part ++ ys) (append_assoc row (drop m (drop a part)) tail)
      ∙ ap (λ ys. take a part ++ (row ++ ys)) joined_tail
      ∙ ap (λ xs. xs ++ (row ++ drop (a + w) old)) (take-take a mid old (omega arith)) in
      rw shape (
        joined_row old row n w into from whole (omega arith) long (λ z lz.
            each z lz
            ∙ ap (λ v. bit_or v (get_or (take w back) z 0)) (get_or-take m (drop a front) z 0 (omega arith) ∙ get_or-drop a front z 0 ∙ ap (λ xs. get_or xs (a + z) 0) f ∙ get_or-take mid old (a + z) 0 (bound z lz))
            ∙ ap (λ v. bit_or (word old w into z) v) (get_or-take w back z 0 lz ∙ ap (λ xs. get_or xs z 0) b ∙ get_or-drop mid old z 0)),
        joined_length old row n w into from whole (omega arith) long,
      )

  -- the row begins the back part, after row from
  pub joined_back : (front back : List ℕ) → from < into → into < n → front ≡ take (into * w) old → back ≡ drop (into * w) old
      → ((z : ℕ) → z < w → get_or row z 0 ≡ bit_or (get_or (take w back) z 0) (get_or (take m (drop (from * w) front)) z 0))
      → IsJoined old (front ++ (row ++ drop w back)) n w into from × (length (front ++ (row ++ drop w back)) ≡ length old)
  joined_back front back apart other f b each =
      let a = into * w in
      let shape : front ++ (row ++ drop w back) ≡ take a old ++ (row ++ drop (a + w) old) =
      ap (λ xs. xs ++ (row ++ drop w back)) f ∙ ap (λ ys. take a old ++ (row ++ drop w ys)) b ∙ ap (λ ys. take a old ++ (row ++ ys)) (drop-drop w a old) in
      rw shape (
        joined_row old row n w into from whole other long (λ z lz.
            each z lz
            ∙ ap (λ v. bit_or v (get_or (take m (drop (from * w) front)) z 0)) (get_or-take w back z 0 lz ∙ ap (λ xs. get_or xs z 0) b ∙ get_or-drop a old z 0)
            ∙ ap (λ v. bit_or (word old w into z) v) (get_or-take m (drop (from * w) front) z 0 (omega arith) ∙ get_or-drop (from * w) front z 0 ∙ ap (λ xs. get_or xs (from * w + z) 0) f ∙ get_or-take a old (from * w + z) 0 (place_before from w z into apart lz))),
        joined_length old row n w into from whole other long,
      )

joined_bit : (x into : ℕ) (o f : Bool) → cond (eqb x into) (o || f) o ≡ (o || (eqb x into && f))
joined_bit x into o f = grind (arith, nat_tests)

JoinsRow-all : (old new : List ℕ) (n into from : ℕ) → length new ≡ length old → IsJoined old new n (row_words n) into from → JoinsRow old new n into from
JoinsRow-all old new n into from same joined = record {
  same_length = same;
  each = λ x y l m.
      let w = row_words n in
      let z = y / 64 in
      let i = y % 64 in
      let o = word old w x z in
      let f = word old w from z in
      ap (λ k. eqb (bit_at k i) 1) (joined x z l (column_word y n m))
      ∙ bit_of_cond (eqb x into) (bit_or o f) o i
      ∙ ap (λ q. cond (eqb x into) q (eqb (bit_at o i) 1)) (bit_of_or o f i)
      ∙ joined_bit x into (eqb (bit_at o i) 1) (eqb (bit_at f i) 1);
}

-- the same, with the width that a row has
pub JoinsRow-rows : (old new : List ℕ) (n w into from : ℕ) → w ≡ row_words n → IsJoined old new n w into from × (length new ≡ length old) → JoinsRow old new n into from
JoinsRow-rows old new n w into from width joined = JoinsRow-all old new n into from joined.1 (subst (λ (k : ℕ). IsJoined old new n k into from) width joined.0)

-- ---- no bit is set

zero_bit : (i : ℕ) → eqb (bit_at 0 i) 1 ≡ false
zero_bit i = ap (λ k. eqb k 1) (bit_at-zero i)

pub at-zeros : (t : List ℕ) (n a b : ℕ) → ((k : ℕ) → k < n * row_words n → get_or t k 0 ≡ 0) → a < n → b < n → at t n a b ≡ false
at-zeros t n a b zeros l m = ap (λ k. eqb (bit_at k (b % 64)) 1) (zeros (a * row_words n + b / 64) (place_within n a b l m)) ∙ zero_bit (b % 64)
