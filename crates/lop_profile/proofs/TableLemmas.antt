-- The cells of the preference matrix.
use Rattle.std.proofs.Common.{◌≡◌, ℕ, zero, suc, ◌+◌, ◌*◌, ◌/◌, ◌%◌, ◌<◌, ◌≤◌, ◌^◌, unsigned_abs, Bool, true, false, cond, List, [], length, take, drop, map, get_or, ℤ, pos, ◌+ℤ◌, ◌≤ℤ◌, ◌<ℤ◌, Ok, Err, refl, sym, ◌∙◌, ap, subst, arith}
use Rattle.std.specs.Prelude.{int_lt}
use Rattle.std.specs.List.{range_with_len, All}
use Rattle.std.proofs.lemmas.List.{take_all, get_or_default, get_or-take, get_or-drop, get_or-map, length-take, length-drop, length-map, same_lists}
use Rattle.std.proofs.lemmas.List.FromFn.{get_or-map-range_with_len, length-map-range_with_len, fill_by_all}
use Rattle.std.proofs.lemmas.Nat.{div_below, mod_below, div-add-mod'}
use Rattle.std.proofs.lemmas.Int.{ints}
use Rattle.lop_model.specs.Matrix.{Matrix, matrix_of, entry, pair_total, pair_absolute, total, absolute_total, IsShaped}
use Rattle.lop_model.specs.WeightsFault.{IsFault as IsWeightsFault}
use Rattle.lop_model.specs.declared.weights.WeightsFault.{WeightsFault}
use Rattle.lop_model.specs.declared.weights.WeightsFault.TheVariants.{Size, TooHeavy as Heavy}
use Rattle.lop_model.proofs.SumLemmas.{pair_sum-same}
use Rattle.lop_preflib.specs.Profile.{CountedOrder, ProfileFields, IsProfile, votes, order_at}
use Rattle.lop_profile.specs.Preference.{ranks_before, preference, preference_matrix}
use Rattle.lop_profile.specs.Reading.{profile_reading, IsFault}
use Rattle.lop_profile.specs.declared.profile.ProfileFault.{ProfileFault}
use Rattle.lop_profile.specs.declared.profile.ProfileFault.TheVariants.{TooHeavy}
use Rattle.lop_profile.proofs.VoteLemmas.{preference-more, preference-fits, preference-le}
use Rattle.lop_profile.proofs.PairLemmas.{row_le}

-- n rows of n cells have the preferences of the first m orders
pub record AreCells (n : ℕ) (orders : List CountedOrder) (m : ℕ) (cells : List ℕ) : Type 0 where
  pub square : length cells ≡ n * n
  pub preferences : (i j : ℕ) → i < n → j < n → get_or cells (i * n + j) 0 ≡ preference (take m orders) i j

some_row : (n k : ℕ) → k < n * n → 0 < n
some_row zero k low = absurd (omega (arith, low))
some_row (suc p) k low = omega arith

module _ (n : ℕ) (orders : List CountedOrder) (m : ℕ) (cells : List ℕ) (so_far : AreCells n orders m cells) where
  -- each cell is one of a row and a column
  cell_is : (k d : ℕ) → k < length cells → get_or cells k d ≡ preference (take m orders) (k / n) (k % n)
  cell_is k d low =
      let under : k < n * n = omega (arith, low, so_far.square) in
      let some = some_row n k under in
      get_or_default cells k d 0 low ∙ ap (λ (x : ℕ). get_or cells x 0) (sym (div-add-mod' k n)) ∙ so_far.preferences (k / n) (k % n) (div_below k n n some under) (mod_below k n some)

  -- no cell is greater than the number of voters
  pub cells_bounded : votes orders ≤ 10 ^ 18 → All (λ cell. cell ≤ 10 ^ 18) cells
  cells_bounded few = λ k d low. omega (arith, cell_is k d low, preference-le orders m (k / n) (k % n), few)

module _ (n : ℕ) (orders : List CountedOrder) (m : ℕ) (cells : List ℕ) (so_far : AreCells n orders m cells) (within : m < length orders) (few : votes orders ≤ 10 ^ 18) (count : ℕ) (count_is : count ≡ (order_at orders m).count) where
  -- nor is it with the next order
  pub cells_small : All (λ cell. cell + count ≤ 10 ^ 18) cells
  cells_small = λ k d low. omega (arith, cell_is n orders m cells so_far k d low, preference-fits orders m within (k / n) (k % n), few, count_is)

  -- one order more
  pub are_cells-more : (after ranked groups : List ℕ) → length after ≡ length cells → ranked ≡ (order_at orders m).ranked → groups ≡ (order_at orders m).groups
      → ((i j : ℕ) → i < n → j < n → get_or after (i * n + j) 0 ≡ get_or cells (i * n + j) 0 + cond (ranks_before ranked groups i j) count 0) → AreCells n orders (m + 1) after
  are_cells-more after ranked groups long ranked_is groups_are step = record {
    square = long ∙ so_far.square;
    preferences = λ i j low under.
        step i j low under
        ∙ ap (λ (v : ℕ). v + cond (ranks_before ranked groups i j) count 0) (so_far.preferences i j low under)
        ∙ ap (λ (l : List ℕ). preference (take m orders) i j + cond (ranks_before l groups i j) count 0) ranked_is
        ∙ ap (λ (l : List ℕ). preference (take m orders) i j + cond (ranks_before (order_at orders m).ranked l i j) count 0) groups_are
        ∙ ap (λ (v : ℕ). preference (take m orders) i j + cond (ranks_before (order_at orders m).ranked (order_at orders m).groups i j) v 0) count_is
        ∙ sym (preference-more orders m within i j);
  }

-- ---- the matrix of all cells

-- the entries of the preference matrix
pub entry-preference_matrix : (profile : ProfileFields) (i j : ℕ) → i < profile.size → j < profile.size → entry (preference_matrix profile) i j ≡ pos (preference profile.orders i j)
entry-preference_matrix profile i j low under =
    ap (λ row. get_or row j (pos 0)) (get_or-map-range_with_len (λ a. map (λ b. pos (preference profile.orders a b)) (range_with_len 0 profile.size)) 0 profile.size i i [] low (omega arith))
    ∙ get_or-map-range_with_len (λ b. pos (preference profile.orders i b)) 0 profile.size j j (pos 0) under (omega arith)

-- none of them is below 0, so they sum to their absolute values
pub absolute-preference_matrix : (profile : ProfileFields) → absolute_total (preference_matrix profile) ≡ total (preference_matrix profile)
absolute-preference_matrix profile =
    pair_sum-same profile.size (pair_absolute (preference_matrix profile)) (pair_total (preference_matrix profile))
    (λ i j before low. natural (entry (preference_matrix profile) i j) (entry (preference_matrix profile) j i) (preference profile.orders i j) (preference profile.orders j i)
    (entry-preference_matrix profile i j (omega (arith, before, low)) low) (entry-preference_matrix profile j i low (omega (arith, before, low))))
  where
    natural : (x y : ℤ) (a b : ℕ) → x ≡ pos a → y ≡ pos b → pos (unsigned_abs x + unsigned_abs y) ≡ x +ℤ y
    natural x y a b e f = rw (e, f) (omega (arith, ints))

map-range : (f g : ℕ → List ℤ) (n : ℕ) → ((i : ℕ) → i < n → f i ≡ g i) → map f (range_with_len 0 n) ≡ map g (range_with_len 0 n)
map-range f g n same =
    same_lists (map f (range_with_len 0 n)) (map g (range_with_len 0 n)) (length-map-range_with_len f 0 n ∙ sym (length-map-range_with_len g 0 n))
    (λ k d within.
    let low : k < n = omega (arith, within, length-map-range_with_len f 0 n) in
    get_or-map-range_with_len f 0 n k k d low (omega arith) ∙ same k low ∙ sym (get_or-map-range_with_len g 0 n k k d low (omega arith)))

module _ (profile : ProfileFields) (n : ℕ) (cells : List ℕ) (size : profile.size ≡ n) (all : AreCells n profile.orders (length profile.orders) cells) where
  cell_at : (i j : ℕ) → i < n → j < n → get_or (map pos cells) (i * n + j) (pos 0) ≡ pos (preference profile.orders i j)
  cell_at i j low under =
      get_or-map pos cells (i * n + j) 0 (pos 0) (omega (arith, all.square, row_le i n n low, under))
      ∙ ap pos (all.preferences i j low under ∙ ap (λ (os : List CountedOrder). preference os i j) (take_all (length profile.orders) profile.orders (omega arith)))

  row_at : (i : ℕ) → i < n → take n (drop (i * n) (map pos cells)) ≡ map (λ j. pos (preference profile.orders i j)) (range_with_len 0 n)
  row_at i low =
      fill_by_all (λ j. pos (preference profile.orders i j)) (take n (drop (i * n) (map pos cells))) n (pos 0)
      (omega (arith, length-take n (drop (i * n) (map pos cells)), length-drop (i * n) (map pos cells), length-map cells pos, all.square, row_le i n n low))
      (λ j under. get_or-take n (drop (i * n) (map pos cells)) j (pos 0) under ∙ get_or-drop (i * n) (map pos cells) j (pos 0) ∙ cell_at i j low under)

  -- the matrix of the cells
  pub matrix_of-cells : matrix_of n (map pos cells) ≡ preference_matrix profile
  matrix_of-cells =
      ap (λ (rows : List (List ℤ)). record { size = n; rows = rows }) (map-range (λ i. take n (drop (i * n) (map pos cells))) (λ i. map (λ j. pos (preference profile.orders i j)) (range_with_len 0 n)) n row_at)
      ∙ ap (λ (k : ℕ). record { size = k; rows = map (λ i. map (λ j. pos (preference profile.orders i j)) (range_with_len 0 k)) (range_with_len 0 k) }) (sym size)

  module _ (entries : List ℤ) (entries_are : entries ≡ map pos cells) where
    matrix_is : matrix_of n entries ≡ preference_matrix profile
    matrix_is = ap (λ (es : List ℤ). matrix_of n es) entries_are ∙ matrix_of-cells

    total_is : absolute_total (matrix_of n entries) ≡ total (preference_matrix profile)
    total_is = ap absolute_total matrix_is ∙ absolute-preference_matrix profile

    -- the weights are those of the profile
    pub reading-weights : (weights : Matrix) → weights ≡ matrix_of n entries → absolute_total (matrix_of n entries) ≤ℤ pos (10 ^ 18) → profile_reading profile ≡ Ok weights
    reading-weights weights is light =
        ap (λ (t : Bool). cond t (Err (TooHeavy (total (preference_matrix profile)))) (Ok (preference_matrix profile))) (light_test (total (preference_matrix profile)) (subst (λ (x : ℤ). x ≤ℤ pos (10 ^ 18)) total_is light))
        ∙ ap Ok (sym (is ∙ matrix_is))
      where
        light_test : (x : ℤ) → x ≤ℤ pos (10 ^ 18) → int_lt (pos (10 ^ 18)) x ≡ false
        light_test x h = grind (arith, ints)

    -- or their sum is too great
    pub reading-heavy : (sum : ℤ) → absolute_total (matrix_of n entries) ≡ sum → pos (10 ^ 18) <ℤ sum → profile_reading profile ≡ Err (TooHeavy sum)
    reading-heavy sum is heavy =
        let whole : total (preference_matrix profile) ≡ sum = sym total_is ∙ is in
        ap (λ (t : Bool). cond t (Err (TooHeavy (total (preference_matrix profile)))) (Ok (preference_matrix profile))) (heavy_test (total (preference_matrix profile)) (subst (λ (x : ℤ). pos (10 ^ 18) <ℤ x) (sym whole) heavy))
        ∙ ap (λ (x : ℤ). Err (TooHeavy x)) whole
      where
        heavy_test : (x : ℤ) → pos (10 ^ 18) <ℤ x → int_lt (pos (10 ^ 18)) x ≡ true
        heavy_test x h = grind (arith, ints)

    -- there is an entry for each row and column
    pub IsShaped-cells : IsProfile profile → IsShaped n entries
    IsShaped-cells of_profile = record {
      positive = omega (arith, of_profile.positive, size);
      within_limit = omega (arith, of_profile.within_limit, size);
      square = ap length entries_are ∙ length-map cells pos ∙ all.square;
    }

    -- why the weights are refused is why the profile is
    pub fault-heavy : IsProfile profile → (fault : WeightsFault) (told : ProfileFault) → IsWeightsFault n entries fault → ((sum : ℤ) → fault ≡ Heavy sum → told ≡ TooHeavy sum) → IsFault (profile_reading profile) told
    fault-heavy of_profile Size told is says = absurd (is (IsShaped-cells of_profile))
    fault-heavy of_profile (Heavy sum) told is says = rw (says sum refl) (reading-heavy sum is.1 is.2)
