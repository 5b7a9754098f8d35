-- Words drawn one by one.
use Rattle.std.proofs.Common.{◌≡◌, ◌≢◌, ℕ, zero, suc, ◌+◌, ◌-◌, ◌*◌, ◌%◌, ◌<◌, ◌≤◌, Bool, true, false, ◌==◌, cond, nat_lt, List, [], ◌∷◌, ◌++◌, length, map, get_or, ℤ, pos, refl, sym, ◌∙◌, ap, inl, inr, zero-add, append-nil, arith}
use Rattle.std.specs.List.{flat_map, range_with_len}
use Rattle.std.proofs.Math.Nat.{suc-mul}
use Rattle.std.proofs.lemmas.Grind.{flat_map-append}
use Rattle.std.proofs.lemmas.List.{length-map}
use Rattle.std.proofs.lemmas.List.FromFn.{length-range_with_len}
use Rattle.lop_model.specs.Matrix.{Matrix, matrix_of}
use Rattle.lop_model.proofs.OrderLemmas.{range_with_len-push}
use Rattle.std.proofs.lemmas.Bool.{cases_lt}
use Rattle.std.proofs.lemmas.Bool.Decides.{nat_tests}
use Rattle.rand_pcg.specs.Lcg.{Lcg, next, next_state, state_after, advance}
use Rattle.rand_pcg.specs.Pcg.{multiplier_64, output_xsh_rr}
use Rattle.lop_gen.specs.Drawn.{draws_before, drawn_entry, drawn_row}
use Rattle.lop_gen.specs.Generated.{generator_of, generated_entry, generated_row, generated_matrix}
use Rattle.lop_gen.proofs.RowLemmas.{length-rows, rows-matrix_of}

state_after-zero : (w m increment state : ℕ) → state_after w m increment 0 state ≡ state
unfolding state_after
state_after-zero w m increment state = refl

state_after-suc : (w m increment n state : ℕ) → state_after w m increment (suc n) state ≡ state_after w m increment n (next_state w m increment state)
unfolding state_after
state_after-suc w m increment n state = refl

-- n steps and one more
state_after-more : (w m increment n state : ℕ) → next_state w m increment (state_after w m increment n state) ≡ state_after w m increment (suc n) state
state_after-more w m increment zero state =
    ap (next_state w m increment) (state_after-zero w m increment state) ∙ sym (state_after-zero w m increment (next_state w m increment state)) ∙ sym (state_after-suc w m increment 0 state)
state_after-more w m increment (suc n) state =
    ap (next_state w m increment) (state_after-suc w m increment n state) ∙ state_after-more w m increment n (next_state w m increment state) ∙ sym (state_after-suc w m increment (suc n) state)

-- a steps and b more
state_after-add : (w m increment a b state : ℕ) → state_after w m increment b (state_after w m increment a state) ≡ state_after w m increment (a + b) state
state_after-add w m increment zero b state =
    let sum : b ≡ zero + b = omega arith in
    ap (state_after w m increment b) (state_after-zero w m increment state) ∙ ap (λ (k : ℕ). state_after w m increment k state) sum
state_after-add w m increment (suc a) b state =
    let sum : suc (a + b) ≡ suc a + b = omega arith in
    ap (state_after w m increment b) (state_after-suc w m increment a state) ∙ state_after-add w m increment a b (next_state w m increment state) ∙ sym (state_after-suc w m increment (a + b) state) ∙ ap (λ (k : ℕ). state_after w m increment k state) sum

pub advance-none : (g : Lcg) → advance 64 multiplier_64 0 g ≡ g
advance-none g = ap (λ (s : ℕ). record g { state = s }) (state_after-zero 64 multiplier_64 g.increment g.state)

pub advance-next : (g : Lcg) (k : ℕ) → next 64 multiplier_64 (advance 64 multiplier_64 k g) ≡ advance 64 multiplier_64 (k + 1) g
advance-next g k =
    let one : suc k ≡ k + 1 = omega arith in
    ap (λ (s : ℕ). record g { state = s }) (state_after-more 64 multiplier_64 g.increment k g.state ∙ ap (λ (j : ℕ). state_after 64 multiplier_64 g.increment j g.state) one)

pub advance-add : (g : Lcg) (a b : ℕ) → advance 64 multiplier_64 b (advance 64 multiplier_64 a g) ≡ advance 64 multiplier_64 (a + b) g
advance-add g a b = ap (λ (s : ℕ). record g { state = s }) (state_after-add 64 multiplier_64 g.increment a b g.state)

is_less : (a b : ℕ) → a < b → nat_lt a b ≡ true
is_less a b less = grind (arith, nat_tests)

is_not_less : (a b : ℕ) → b ≤ a → nat_lt a b ≡ false
is_not_less a b other = grind (arith, nat_tests)

draws_at : (i j : ℕ) → j ≤ i → draws_before i j ≡ j
draws_at i j within = ap (λ (t : Bool). cond t (j - 1) j) (is_not_less i j within)

pub draws_behind : (i j : ℕ) → i < j → draws_before i j ≡ j - 1
draws_behind i j behind = ap (λ (t : Bool). cond t (j - 1) j) (is_less i j behind)

draws-same : (i j : ℕ) → i ≡ j → draws_before i (j + 1) ≡ draws_before i j
draws-same i j same = omega (arith, draws_at i j (omega arith), draws_behind i (j + 1) (omega arith))

draws-more : (i j : ℕ) → i ≢ j → draws_before i (j + 1) ≡ draws_before i j + 1
draws-more i j other =
    elim (cases_lt i j) [
      | inl behind ↦ omega (arith, draws_behind i j behind, draws_behind i (j + 1) (omega arith))
      | inr within ↦ omega (arith, draws_at i j within, draws_at i (j + 1) (omega arith))
    ]

-- one column more
pub drawn-step : (g now after : Lcg) (i j : ℕ) (entry : ℤ) → now ≡ advance 64 multiplier_64 (draws_before i j) g → entry ≡ cond (i == j) (pos 0) (pos (output_xsh_rr now.state % 1000)) → after ≡ cond (i == j) now (next 64 multiplier_64 now)
    → (entry ≡ drawn_entry g i j) × (after ≡ advance 64 multiplier_64 (draws_before i (j + 1)) g)
drawn-step g now after i j entry now_is entry_is after_is = (drawn, by (i == j) refl after_is)
  where
    drawn : entry ≡ drawn_entry g i j
    drawn = entry_is ∙ ap (λ (h : Lcg). cond (i == j) (pos 0) (pos (output_xsh_rr h.state % 1000))) now_is

    by : (t : Bool) → (i == j) ≡ t → after ≡ cond t now (next 64 multiplier_64 now) → after ≡ advance 64 multiplier_64 (draws_before i (j + 1)) g
    by true is e =
        let same : i ≡ j = grind (arith, nat_tests) in
        e ∙ now_is ∙ ap (λ (k : ℕ). advance 64 multiplier_64 k g) (sym (draws-same i j same))
    by false is e =
        let other : i ≢ j = λ (same : i ≡ j). absurd (grind (arith, nat_tests)) in
        e ∙ ap (next 64 multiplier_64) now_is ∙ advance-next g (draws_before i j) ∙ ap (λ (k : ℕ). advance 64 multiplier_64 k g) (sym (draws-more i j other))

-- before the first column
pub drawn-start : (g : Lcg) (i : ℕ) → g ≡ advance 64 multiplier_64 (draws_before i 0) g
drawn-start g i = sym (ap (λ (k : ℕ). advance 64 multiplier_64 k g) (draws_at i 0 (omega arith)) ∙ advance-none g)

-- ---- whole rows

map-same : {X Y : Type 0} (f g : X → Y) → ((x : X) → f x ≡ g x) → (xs : List X) → map f xs ≡ map g xs
map-same f g same [] = refl
map-same f g same (x ∷ xs) = cc (same x, map-same f g same xs)

pub drawn_row-generated : (seed n i : ℕ) → drawn_row (advance 64 multiplier_64 (i * (n - 1)) (generator_of seed)) n i ≡ generated_row seed n i
drawn_row-generated seed n i =
    map-same (λ j. drawn_entry (advance 64 multiplier_64 (i * (n - 1)) (generator_of seed)) i j) (λ j. generated_entry seed n i j)
    (λ j. ap (λ (g : Lcg). cond (i == j) (pos 0) (pos (output_xsh_rr g.state % 1000))) (advance-add (generator_of seed) (i * (n - 1)) (draws_before i j)))
    (range_with_len 0 n)

pub length-generated_row : (seed n i : ℕ) → length (generated_row seed n i) ≡ n
length-generated_row seed n i = length-map (range_with_len 0 n) (λ j. generated_entry seed n i j) ∙ length-range_with_len 0 n

-- one row more
pub generated-more : (seed n i : ℕ) → flat_map (λ k. generated_row seed n k) (range_with_len 0 (i + 1)) ≡ flat_map (λ k. generated_row seed n k) (range_with_len 0 i) ++ generated_row seed n i
generated-more seed n i =
    let rows = λ (k : ℕ). generated_row seed n k in
    ap (flat_map rows) (range_with_len-push 0 i)
    ∙ flat_map-append rows (range_with_len 0 i) ((0 + i) ∷ [])
    ∙ ap (λ (k : ℕ). flat_map rows (range_with_len 0 i) ++ (rows k ++ [])) (zero-add i)
    ∙ ap (λ (l : List ℤ). flat_map rows (range_with_len 0 i) ++ l) (append-nil (generated_row seed n i))

-- i rows and the words that they draw
pub draws-more-rows : (seed n i : ℕ) → advance 64 multiplier_64 (n - 1) (advance 64 multiplier_64 (i * (n - 1)) (generator_of seed)) ≡ advance 64 multiplier_64 ((i + 1) * (n - 1)) (generator_of seed)
draws-more-rows seed n i =
    let one : i + 1 ≡ suc i = omega arith in
    let sum : i * (n - 1) + (n - 1) ≡ (i + 1) * (n - 1) = sym (ap (λ (k : ℕ). k * (n - 1)) one ∙ suc-mul i (n - 1)) in
    advance-add (generator_of seed) (i * (n - 1)) (n - 1) ∙ ap (λ (k : ℕ). advance 64 multiplier_64 k (generator_of seed)) sum

pub entries-generated_matrix : (seed n : ℕ) (es : List ℤ) → es ≡ flat_map (λ k. generated_row seed n k) (range_with_len 0 n) → matrix_of n es ≡ generated_matrix seed n
entries-generated_matrix seed n es is =
    let rows = λ (k : ℕ). generated_row seed n k in
    let cut = rows-matrix_of rows n (range_with_len 0 n) (length-range_with_len 0 n) (λ k e below. length-generated_row seed n (get_or (range_with_len 0 n) k e)) in
    ap (matrix_of n) is ∙ ap (λ (r : List (List ℤ)). let C : Matrix = record { size = n; rows = r } in C) cut

pub length-generated : (seed n : ℕ) (es : List ℤ) → es ≡ flat_map (λ k. generated_row seed n k) (range_with_len 0 n) → length es ≡ n * n
length-generated seed n es is =
    ap length is ∙ length-rows (λ k. generated_row seed n k) n (range_with_len 0 n) (λ k e below. length-generated_row seed n (get_or (range_with_len 0 n) k e)) ∙ ap (λ (k : ℕ). k * n) (length-range_with_len 0 n)
