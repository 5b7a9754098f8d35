-- Rows of depths that are noted and taken back, cell by cell.
use Rattle.std.proofs.Common.{◌≡◌, ◌≢◌, ℕ, ◌+◌, ◌*◌, ◌<◌, Bool, true, false, not, cond, eqb, ltb, ◌&&◌, ◌||◌, List, length, set, sym, ◌∙◌, ap, arith}
use Rattle.std.proofs.lemmas.Bool.Decides.{nat_tests}
use Rattle.lop_model.specs.Cells.{cell}
use Rattle.lop_model.proofs.CellLemmas.{read-set}
use Rattle.lop_check.specs.Trail.{is_fixed, is_new, is_from, NotesRow, Notes, TakesRow, Takes}

not_yet : (s p : Bool) (k v o : ℕ) → cond (s && (ltb k k && p)) v o ≡ o
not_yet s p k v o = grind (arith, nat_tests)

other_row : (x b : ℕ) (p : Bool) (v o : ℕ) → x ≢ b → cond (eqb b x && p) v o ≡ o
other_row x b p v o ne = grind (arith, nat_tests)

write_step : (x v z y : ℕ) (p q : Bool) (d o : ℕ) → (v ≡ x → z ≡ y → p ≡ true) → cond (eqb v x && eqb z y) d (cond (eqb v x && (ltb z y && p)) d o) ≡ cond (eqb v x && (ltb z (y + 1) && p)) d o
write_step x v z y p q d o h = grind (arith, nat_tests)

skip_step : (x v z y : ℕ) (p : Bool) (d o : ℕ) → (v ≡ x → z ≡ y → p ≡ false) → cond (eqb v x && (ltb z y && p)) d o ≡ cond (eqb v x && (ltb z (y + 1) && p)) d o
skip_step x v z y p d o h = grind (arith, nat_tests)

below_end : (s p : Bool) (z n : ℕ) (v o : ℕ) → z < n → cond (s && (ltb z n && p)) v o ≡ cond (s && p) v o
below_end s p z n v o l = grind (arith, nat_tests)

none_below : (s p : Bool) (z : ℕ) (v o : ℕ) → o ≡ cond (s && (ltb z 0 && p)) v o
none_below s p z v o = grind (arith, nat_tests)

-- ---- one row of notes

-- row x has the depth at each new object below y
abbrev pub NotedTo : List ℕ → List ℕ → ℕ → ℕ → ℕ → ℕ → ℕ → Type 0
NotedTo old cur n x b depth y = (v z : ℕ) → v < n → z < n → cell cur n v z ≡ cond (eqb v x && (ltb z y && is_new old n b v z)) depth (cell old n v z)

pub noted-none : (old : List ℕ) (n x b depth : ℕ) → NotedTo old old n x b depth 0
noted-none old n x b depth v z l m = none_below (eqb v x) (is_new old n b v z) z depth (cell old n v z)

module _ (old cur : List ℕ) (n x b depth y : ℕ) (row : x < n) (second : b < n) (column : y < n) (differ : x ≢ b) (noted : NotedTo old cur n x b depth y) where
  here : cell cur n x y ≡ cell old n x y
  here = noted x y row column ∙ not_yet (eqb x x) (is_new old n b x y) y depth (cell old n x y)

  of_b : cell cur n b y ≡ cell old n b y
  of_b = noted b y second column ∙ other_row x b (ltb y y && is_new old n b b y) depth (cell old n b y) differ

  -- the loop's test is that of the table as it was
  test_is : is_new cur n b x y ≡ is_new old n b x y
  test_is = ap (λ (k : ℕ). not (ltb 0 k) && (eqb y b || is_fixed cur n b y)) here ∙ ap (λ (k : ℕ). not (is_fixed old n x y) && (eqb y b || ltb 0 k)) of_b

  same_test : (v z : ℕ) (t : Bool) → is_new cur n b x y ≡ t → v ≡ x → z ≡ y → is_new old n b v z ≡ t
  same_test v z t e f g = ap (λ (k : ℕ). is_new old n b k z) f ∙ ap (λ (k : ℕ). is_new old n b x k) g ∙ sym test_is ∙ e

  pub noted-write : length cur ≡ n * n → is_new cur n b x y ≡ true → NotedTo old (set cur (x * n + y) depth) n x b depth (y + 1)
  noted-write whole e v z l m =
      read-set cur n x y v z depth 0 whole row column m
      ∙ ap (λ (k : ℕ). cond (eqb v x && eqb z y) depth k) (noted v z l m)
      ∙ write_step x v z y (is_new old n b v z) true depth (cell old n v z) (same_test v z true e)

  pub noted-skip : is_new cur n b x y ≡ false → NotedTo old cur n x b depth (y + 1)
  noted-skip e v z l m = noted v z l m ∙ skip_step x v z y (is_new old n b v z) depth (cell old n v z) (same_test v z false e)

pub NotesRow-all : (old new : List ℕ) (n x b depth : ℕ) → length new ≡ length old → NotedTo old new n x b depth n → NotesRow old new n x b depth
NotesRow-all old new n x b depth same noted = record { same_length = same; each = λ v z l m. noted v z l m ∙ below_end (eqb v x) (is_new old n b v z) z n depth (cell old n v z) m }

-- ---- one row taken back

abbrev pub TakenTo : List ℕ → List ℕ → ℕ → ℕ → ℕ → ℕ → Type 0
TakenTo old cur n x depth y = (v z : ℕ) → v < n → z < n → cell cur n v z ≡ cond (eqb v x && (ltb z y && eqb (cell old n v z) depth)) 0 (cell old n v z)

pub taken-none : (old : List ℕ) (n x depth : ℕ) → TakenTo old old n x depth 0
taken-none old n x depth v z l m = none_below (eqb v x) (eqb (cell old n v z) depth) z 0 (cell old n v z)

module _ (old cur : List ℕ) (n x depth y : ℕ) (row : x < n) (column : y < n) (taken : TakenTo old cur n x depth y) where
  unread : cell cur n x y ≡ cell old n x y
  unread = taken x y row column ∙ not_yet (eqb x x) (eqb (cell old n x y) depth) y 0 (cell old n x y)

  its_test : (v z : ℕ) (t : Bool) → eqb (cell cur n x y) depth ≡ t → v ≡ x → z ≡ y → eqb (cell old n v z) depth ≡ t
  its_test v z t e f g = ap (λ (k : ℕ). eqb (cell old n k z) depth) f ∙ ap (λ (k : ℕ). eqb (cell old n x k) depth) g ∙ ap (λ (k : ℕ). eqb k depth) (sym unread) ∙ e

  pub taken-write : length cur ≡ n * n → eqb (cell cur n x y) depth ≡ true → TakenTo old (set cur (x * n + y) 0) n x depth (y + 1)
  taken-write whole e v z l m =
      read-set cur n x y v z 0 0 whole row column m
      ∙ ap (λ (k : ℕ). cond (eqb v x && eqb z y) 0 k) (taken v z l m)
      ∙ write_step x v z y (eqb (cell old n v z) depth) true 0 (cell old n v z) (its_test v z true e)

  pub taken-skip : eqb (cell cur n x y) depth ≡ false → TakenTo old cur n x depth (y + 1)
  taken-skip e v z l m = taken v z l m ∙ skip_step x v z y (eqb (cell old n v z) depth) 0 (cell old n v z) (its_test v z false e)

pub TakesRow-all : (old new : List ℕ) (n x depth : ℕ) → length new ≡ length old → TakenTo old new n x depth n → TakesRow old new n x depth
TakesRow-all old new n x depth same taken = record { same_length = same; each = λ v z l m. taken v z l m ∙ below_end (eqb v x) (eqb (cell old n v z) depth) z n 0 (cell old n v z) m }

-- ---- all rows

row_step : (x v : ℕ) (p q : Bool) (d o : ℕ) → (v ≡ x → p ≡ true) → cond (eqb v x && q) d (cond (ltb v x && (p && q)) d o) ≡ cond (ltb v (x + 1) && (p && q)) d o
row_step x v p q d o h = grind (arith, nat_tests)

row_skip : (x v : ℕ) (p q : Bool) (d o : ℕ) → (v ≡ x → p ≡ false) → cond (ltb v x && (p && q)) d o ≡ cond (ltb v (x + 1) && (p && q)) d o
row_skip x v p q d o h = grind (arith, nat_tests)

row_not_yet : (k : ℕ) (p : Bool) (v o : ℕ) → cond (ltb k k && p) v o ≡ o
row_not_yet k p v o = grind (arith, nat_tests)

rows_none : (k : ℕ) (p : Bool) (v o : ℕ) → o ≡ cond (ltb k 0 && p) v o
rows_none k p v o = grind (arith, nat_tests)

rows_all : (k n : ℕ) (p : Bool) (v o : ℕ) → k < n → cond (ltb k n && p) v o ≡ cond p v o
rows_all k n p v o l = grind (arith, nat_tests)

-- the rows below x have their depths
abbrev pub AllNotedTo : List ℕ → List ℕ → ℕ → ℕ → ℕ → ℕ → ℕ → Type 0
AllNotedTo old cur n a b depth x = (v z : ℕ) → v < n → z < n → cell cur n v z ≡ cond (ltb v x && (is_from old n a v && is_new old n b v z)) depth (cell old n v z)

pub all_noted-none : (old : List ℕ) (n a b depth : ℕ) → AllNotedTo old old n a b depth 0
all_noted-none old n a b depth v z l m = rows_none v (is_from old n a v && is_new old n b v z) depth (cell old n v z)

b_is_not_from : (t : List ℕ) (n a b : ℕ) → a ≢ b → is_fixed t n b a ≡ false → is_from t n a b ≡ false
b_is_not_from t n a b ne e = from (is_fixed t n b a) e
  where
    from : (s : Bool) → s ≡ false → (eqb b a || s) ≡ false
    from s e = grind (arith, nat_tests)

not_from : (s q : Bool) (k x d o : ℕ) → s ≡ false → cond (ltb k x && (s && q)) d o ≡ o
not_from s q k x d o e = grind (arith, nat_tests)

module _ (old cur : List ℕ) (n a b depth x : ℕ) (first : a < n) (second : b < n) (row : x < n) (differ : a ≢ b) (fresh : is_fixed old n b a ≡ false) (noted : AllNotedTo old cur n a b depth x) where
  row_x : (z : ℕ) → z < n → cell cur n x z ≡ cell old n x z
  row_x z m = noted x z row m ∙ row_not_yet x (is_from old n a x && is_new old n b x z) depth (cell old n x z)

  row_b : (z : ℕ) → z < n → cell cur n b z ≡ cell old n b z
  row_b z m = noted b z second m ∙ not_from (is_from old n a b) (is_new old n b b z) b x depth (cell old n b z) (b_is_not_from old n a b differ fresh)

  pub from_is : is_from cur n a x ≡ is_from old n a x
  from_is = ap (λ (k : ℕ). eqb x a || ltb 0 k) (row_x a first)

  pub not_b : is_from cur n a x ≡ true → x ≢ b
  not_b e q =
      let other : false ≡ true = sym (b_is_not_from old n a b differ fresh) ∙ ap (λ (k : ℕ). is_from old n a k) (sym q) ∙ sym from_is ∙ e in
      cc

  new_is : (v z : ℕ) → v ≡ x → z < n → is_new cur n b v z ≡ is_new old n b v z
  new_is v z e m =
      ap (λ (k : ℕ). is_new cur n b k z) e
      ∙ ap (λ (k : ℕ). not (ltb 0 k) && (eqb z b || is_fixed cur n b z)) (row_x z m)
      ∙ ap (λ (k : ℕ). not (is_fixed old n x z) && (eqb z b || ltb 0 k)) (row_b z m)
      ∙ ap (λ (k : ℕ). is_new old n b k z) (sym e)

  same_here : (p q : Bool) (v d o : ℕ) → (v ≡ x → p ≡ q) → cond (eqb v x && p) d o ≡ cond (eqb v x && q) d o
  same_here p q v d o h = grind (arith, nat_tests)

  pub all_noted-row : (new : List ℕ) → is_from cur n a x ≡ true → NotesRow cur new n x b depth → AllNotedTo old new n a b depth (x + 1)
  all_noted-row new e r v z l m =
      r.each v z l m
      ∙ same_here (is_new cur n b v z) (is_new old n b v z) v depth (cell cur n v z) (λ f. new_is v z f m)
      ∙ ap (λ (k : ℕ). cond (eqb v x && is_new old n b v z) depth k) (noted v z l m)
      ∙ row_step x v (is_from old n a v) (is_new old n b v z) depth (cell old n v z) (λ f. ap (λ (k : ℕ). is_from old n a k) f ∙ sym from_is ∙ e)

  pub all_noted-skip : is_from cur n a x ≡ false → AllNotedTo old cur n a b depth (x + 1)
  all_noted-skip e v z l m = noted v z l m ∙ row_skip x v (is_from old n a v) (is_new old n b v z) depth (cell old n v z) (λ f. ap (λ (k : ℕ). is_from old n a k) f ∙ sym from_is ∙ e)

pub Notes-all : (old new : List ℕ) (n a b depth : ℕ) → length new ≡ length old → AllNotedTo old new n a b depth n → Notes old new n a b depth
Notes-all old new n a b depth same noted = record { same_length = same; each = λ v z l m. noted v z l m ∙ rows_all v n (is_from old n a v && is_new old n b v z) depth (cell old n v z) l }

abbrev pub AllTakenTo : List ℕ → List ℕ → ℕ → ℕ → ℕ → ℕ → Type 0
AllTakenTo old cur n a depth x = (v z : ℕ) → v < n → z < n → cell cur n v z ≡ cond (ltb v x && (is_from old n a v && eqb (cell old n v z) depth)) 0 (cell old n v z)

pub all_taken-none : (old : List ℕ) (n a depth : ℕ) → AllTakenTo old old n a depth 0
all_taken-none old n a depth v z l m = rows_none v (is_from old n a v && eqb (cell old n v z) depth) 0 (cell old n v z)

module _ (old cur : List ℕ) (n a depth x : ℕ) (first : a < n) (row : x < n) (taken : AllTakenTo old cur n a depth x) where
  taken_row : (z : ℕ) → z < n → cell cur n x z ≡ cell old n x z
  taken_row z m = taken x z row m ∙ row_not_yet x (is_from old n a x && eqb (cell old n x z) depth) 0 (cell old n x z)

  is_from_still : is_from cur n a x ≡ is_from old n a x
  is_from_still = ap (λ (k : ℕ). eqb x a || ltb 0 k) (taken_row a first)

  alike : (p q : Bool) (v o : ℕ) → (v ≡ x → p ≡ q) → cond (eqb v x && p) 0 o ≡ cond (eqb v x && q) 0 o
  alike p q v o h = grind (arith, nat_tests)

  pub all_taken-row : (new : List ℕ) → is_from cur n a x ≡ true → TakesRow cur new n x depth → AllTakenTo old new n a depth (x + 1)
  all_taken-row new e r v z l m =
      r.each v z l m
      ∙ alike (eqb (cell cur n v z) depth) (eqb (cell old n v z) depth) v (cell cur n v z) (λ f. ap (λ (k : ℕ). eqb (cell cur n k z) depth) f ∙ ap (λ (k : ℕ). eqb k depth) (taken_row z m) ∙ ap (λ (k : ℕ). eqb (cell old n k z) depth) (sym f))
      ∙ ap (λ (k : ℕ). cond (eqb v x && eqb (cell old n v z) depth) 0 k) (taken v z l m)
      ∙ row_step x v (is_from old n a v) (eqb (cell old n v z) depth) 0 (cell old n v z) (λ f. ap (λ (k : ℕ). is_from old n a k) f ∙ sym is_from_still ∙ e)

  pub all_taken-skip : is_from cur n a x ≡ false → AllTakenTo old cur n a depth (x + 1)
  all_taken-skip e v z l m = taken v z l m ∙ row_skip x v (is_from old n a v) (eqb (cell old n v z) depth) 0 (cell old n v z) (λ f. ap (λ (k : ℕ). is_from old n a k) f ∙ sym is_from_still ∙ e)

pub Takes-all : (old new : List ℕ) (n a depth : ℕ) → length new ≡ length old → AllTakenTo old new n a depth n → Takes old new n a depth
Takes-all old new n a depth same taken = record { same_length = same; each = λ v z l m. taken v z l m ∙ rows_all v n (is_from old n a v && eqb (cell old n v z) depth) 0 (cell old n v z) l }
