-- A cut's line is read as that cut, and nothing else is read as it.
use Rattle.std.proofs.Common.{◌≡◌, ℕ, ◌+◌, ◌-◌, ◌<◌, zero, suc, Bool, true, false, ◌&&◌, eqb, cond, List, [], ◌∷◌, ◌++◌, length, take, drop, nat_abs, ℤ, pos, negsuc, Option, None, Some, refl, sym, ◌∙◌, ap, subst, arith}
use Rattle.std.specs.Prelude.{All}
use Rattle.std.specs.List.{flat_map, list_all}
use Rattle.std.proofs.lemmas.Bool.{and_parts, and_from, false≢true, eqb-true, eq-eqb}
use Rattle.std.proofs.lemmas.List.{length-map, length-append, take-append-drop, map-append, take-map, drop-map}
use Rattle.std.proofs.lemmas.List.Elements.{All-nil, All-cons, All-head, All-tail, All-append, All-same}
use Rattle.lop_cuts.specs.declared.kind.Cycle.{Cycle}
use Rattle.lop_cuts.specs.declared.kind.Cycle.TheVariants.{Three, Four}
use Rattle.lop_cuts.specs.declared.kind.CutKind.{CutKind}
use Rattle.lop_cuts.specs.declared.kind.CutKind.TheVariants as kind
use Rattle.lop_cuts.specs.Kind.{IsCut, FitsCut, fence_of, ladder_of}
use Rattle.lop_cuts.specs.Kind.{objects_of as cycle_objects}
use Rattle.lop_certtext.specs.declared.word.CertWord.{CertWord}
use Rattle.lop_certtext.specs.declared.word.CertWord.TheVariants.{Dicycle, Fence, Ladder}
use Rattle.lop_certtext.specs.Line.{is_count, are_counts, is_row}
use Rattle.lop_cuts.specs.CutTests.{is_cut}
use Rattle.lop_certtext.specs.CutLine.{numbers_of_objects, cycle_numbers, cut_line, IsShapedCycle, IsShapedCut, objects_of, name_objects, if_cut, with_cycle, cycles_of, if_ladder, if_fence, cut_of}
use Rattle.lop_cuts.proofs.CutTests.{IsCut-is_cut, is_cut-IsCut}
use Rattle.lop_certtext.proofs.ObjectNumbers.{numbers_of_objects-objects_of, objects_of-below, objects_of-numbers, name_objects-numbers}

abbrev pub below_n : ℕ → ℕ → Type 0
below_n n a = a < n

pub count_is : (z : ℤ) (n : ℕ) → is_count z ≡ true → nat_abs z ≡ n → z ≡ pos n
count_is (pos m) n e same = ap pos same
count_is (negsuc m) n e same = absurd (false≢true e)

-- ---- a test and a cut

if_cut-passed : (t : Bool) (cut other : CutKind) → if_cut t cut ≡ Some other → (t ≡ true) × (is_cut cut ≡ true) × (cut ≡ other)
if_cut-passed t cut other e = by (t && is_cut cut) refl e
  where
    by : (s : Bool) → (t && is_cut cut) ≡ s → cond s (Some cut) None ≡ Some other → (t ≡ true) × (is_cut cut ≡ true) × (cut ≡ other)
    by false is e = absurd (cc)
    by true is e = let parts = and_parts t (is_cut cut) is in (parts.0, parts.1, cc)

if_cut-passes : (t : Bool) (cut : CutKind) → t ≡ true → IsCut cut → if_cut t cut ≡ Some cut
if_cut-passes t cut e right = ap (λ (s : Bool). cond {A = Option CutKind} s (Some cut) None) (and_from t (is_cut cut) e (is_cut-IsCut cut right))

-- ---- cycles

pub record AreSpelled (n : ℕ) (ns : List ℤ) (cs : List Cycle) : Type 0 where
  pub numbers : flat_map cycle_numbers cs ≡ ns
  pub below : All (below_n n) (flat_map cycle_objects cs)
  pub shaped : All IsShapedCycle cs

module _ (n : ℕ) (named : Bool) (c : Cycle) (front ns : List ℤ) (is : named ≡ true → (cycle_numbers c ≡ front) × All (below_n n) (cycle_objects c) × IsShapedCycle c) where
  one_cycle : (o : Option (List Cycle)) (cs : List Cycle) → ((ds : List Cycle) → o ≡ Some ds → AreSpelled n ns ds) → with_cycle named c o ≡ Some cs → AreSpelled n (front ++ ns) cs
  one_cycle None cs rest e = absurd (cc)
  one_cycle (Some ds) cs rest e = by named refl e
    where
      by : (t : Bool) → named ≡ t → cond t (Some (c ∷ ds)) None ≡ Some cs → AreSpelled n (front ++ ns) cs
      by false t_is e = absurd (cc)
      by true t_is e =
          let same : c ∷ ds ≡ cs = cc in
          let first = is t_is in
          let others = rest ds refl in
          subst (λ (l : List Cycle). AreSpelled n (front ++ ns) l) same record {
            numbers = ap (λ (l : List ℤ). l ++ flat_map cycle_numbers ds) first.0 ∙ ap (λ (l : List ℤ). front ++ l) others.numbers;
            below = All-append (below_n n) (cycle_objects c) (flat_map cycle_objects ds) first.1 others.below;
            shaped = All-cons IsShapedCycle c ds first.2 others.shaped;
          }

pub spelled_cycles : (n : ℕ) (ns : List ℤ) (cs : List Cycle) → cycles_of n ns ≡ Some cs → AreSpelled n ns cs
spelled_cycles n [] cs e =
    let same : [] ≡ cs = cc in
    subst (λ (l : List Cycle). AreSpelled n [] l) same record { numbers = refl; below = All-nil (below_n n); shaped = All-nil IsShapedCycle }
spelled_cycles n (pos (suc (suc (suc zero))) ∷ a ∷ b ∷ c ∷ ns) cs e =
    let front = a ∷ b ∷ c ∷ [] in
    one_cycle n (name_objects n front) (Three (objects_of front)) (pos 3 ∷ front) ns
    (λ t. (ap (λ (l : List ℤ). pos 3 ∷ l) (numbers_of_objects-objects_of n front t), objects_of-below n front t, refl))
    (cycles_of n ns) cs (spelled_cycles n ns) e
spelled_cycles n (pos (suc (suc (suc (suc zero)))) ∷ a ∷ b ∷ c ∷ d ∷ ns) cs e =
    let front = a ∷ b ∷ c ∷ d ∷ [] in
    one_cycle n (name_objects n front) (Four (objects_of front)) (pos 4 ∷ front) ns
    (λ t. (ap (λ (l : List ℤ). pos 4 ∷ l) (numbers_of_objects-objects_of n front t), objects_of-below n front t, refl))
    (cycles_of n ns) cs (spelled_cycles n ns) e
spelled_cycles n ns cs e = absurd (cc)

-- a cycle in front is read
read_three : (n : ℕ) (objects : List ℕ) (ns : List ℤ) (ds : List Cycle) → length objects ≡ 3 → All (below_n n) objects → cycles_of n ns ≡ Some ds → cycles_of n (cycle_numbers (Three objects) ++ ns) ≡ Some (Three objects ∷ ds)
read_three n (a ∷ b ∷ c ∷ []) ns ds size below rest =
    let s = a ∷ b ∷ c ∷ [] in
    let front = numbers_of_objects s in
    ap (λ (o : Option (List Cycle)). with_cycle (name_objects n front) (Three (objects_of front)) o) rest
    ∙ ap (λ (t : Bool). with_cycle t (Three (objects_of front)) (Some ds)) (name_objects-numbers n s below)
    ∙ ap (λ (l : List ℕ). Some (Three l ∷ ds)) (objects_of-numbers s)
read_three n [] ns ds size below rest = absurd (omega arith)
read_three n (a ∷ []) ns ds size below rest = absurd (omega arith)
read_three n (a ∷ b ∷ []) ns ds size below rest = absurd (omega arith)
read_three n (a ∷ b ∷ c ∷ d ∷ s) ns ds size below rest = absurd (omega arith)

read_four : (n : ℕ) (objects : List ℕ) (ns : List ℤ) (ds : List Cycle) → length objects ≡ 4 → All (below_n n) objects → cycles_of n ns ≡ Some ds → cycles_of n (cycle_numbers (Four objects) ++ ns) ≡ Some (Four objects ∷ ds)
read_four n (a ∷ b ∷ c ∷ d ∷ []) ns ds size below rest =
    let s = a ∷ b ∷ c ∷ d ∷ [] in
    let front = numbers_of_objects s in
    ap (λ (o : Option (List Cycle)). with_cycle (name_objects n front) (Four (objects_of front)) o) rest
    ∙ ap (λ (t : Bool). with_cycle t (Four (objects_of front)) (Some ds)) (name_objects-numbers n s below)
    ∙ ap (λ (l : List ℕ). Some (Four l ∷ ds)) (objects_of-numbers s)
read_four n [] ns ds size below rest = absurd (omega arith)
read_four n (a ∷ []) ns ds size below rest = absurd (omega arith)
read_four n (a ∷ b ∷ []) ns ds size below rest = absurd (omega arith)
read_four n (a ∷ b ∷ c ∷ []) ns ds size below rest = absurd (omega arith)
read_four n (a ∷ b ∷ c ∷ d ∷ e ∷ s) ns ds size below rest = absurd (omega arith)

All-append_parts : (P : ℕ → Type 0) (xs ys : List ℕ) → All P (xs ++ ys) → All P xs × All P ys
All-append_parts P [] ys h = (All-nil P, h)
All-append_parts P (x ∷ xs) ys h =
    let rest = All-append_parts P xs ys (All-tail P x (xs ++ ys) h) in
    (All-cons P x xs (All-head P x (xs ++ ys) h) rest.0, rest.1)

read_cycles : (n : ℕ) (cs : List Cycle) → All IsShapedCycle cs → All (below_n n) (flat_map cycle_objects cs) → cycles_of n (flat_map cycle_numbers cs) ≡ Some cs
read_cycles n [] shaped below = refl
read_cycles n (Three objects ∷ cs) shaped below =
    let parts = All-append_parts (below_n n) objects (flat_map cycle_objects cs) below in
    read_three n objects (flat_map cycle_numbers cs) cs (All-head IsShapedCycle (Three objects) cs shaped) parts.0 (read_cycles n cs (All-tail IsShapedCycle (Three objects) cs shaped) parts.1)
read_cycles n (Four objects ∷ cs) shaped below =
    let parts = All-append_parts (below_n n) objects (flat_map cycle_objects cs) below in
    read_four n objects (flat_map cycle_numbers cs) cs (All-head IsShapedCycle (Four objects) cs shaped) parts.0 (read_cycles n cs (All-tail IsShapedCycle (Four objects) cs shaped) parts.1)

-- ---- what is read is the cut of that line

pub record IsCutOfLine (n : ℕ) (w : CertWord) (ns : List ℤ) (cut : CutKind) : Type 0 where
  pub line : cut_line cut ≡ record { word = w; numbers = ns }
  pub right : IsCut cut
  pub fits : FitsCut n cut
  pub shaped : IsShapedCut cut

dicycle_line : (n : ℕ) (ns : List ℤ) (cut : CutKind) → cut_of n Dicycle ns ≡ Some cut → IsCutOfLine n Dicycle ns cut
dicycle_line n ns cut e =
    let t = if_cut-passed (name_objects n ns) (kind.Dicycle (objects_of ns)) cut e in
    subst (λ (c : CutKind). IsCutOfLine n Dicycle ns c) t.2 record {
      line = ap (λ (l : List ℤ). record { word = Dicycle; numbers = l }) (numbers_of_objects-objects_of n ns t.0);
      right = IsCut-is_cut (kind.Dicycle (objects_of ns)) t.1;
      fits = objects_of-below n ns t.0;
      shaped = tt;
    }

module _ (k : ℕ) (ns : List ℤ) where
  halves : objects_of (take k ns) ++ objects_of (drop k ns) ≡ objects_of ns
  halves = sym (map-append (λ x. nat_abs x - 1) (take k ns) (drop k ns)) ∙ ap objects_of (take-append-drop k ns)

fence_line : (n : ℕ) (k : ℤ) (ns : List ℤ) (cut : CutKind) → is_count k ≡ true → if_fence n (nat_abs k) ns ≡ Some cut → IsCutOfLine n Fence (k ∷ ns) cut
fence_line n k ns cut count e =
    let m = nat_abs k in
    let us = objects_of (take m ns) in
    let ws = objects_of (drop m ns) in
    let t = if_cut-passed (eqb (length ns) (m + m) && name_objects n ns) (fence_of us ws) cut e in
    let parts = and_parts (eqb (length ns) (m + m)) (name_objects n ns) t.0 in
    let size : length ns ≡ m + m = eqb-true (length ns) (m + m) parts.0 in
    let posts : length us ≡ m = length-map (take m ns) (λ x. nat_abs x - 1) ∙ length_first m ns (omega arith) in
    subst (λ (c : CutKind). IsCutOfLine n Fence (k ∷ ns) c) t.2 record {
      line = ap (λ (x : ℕ). record { word = Fence; numbers = pos x ∷ numbers_of_objects (us ++ ws) }) posts
          ∙ ap (λ (x : ℤ). record { word = Fence; numbers = x ∷ numbers_of_objects (us ++ ws) }) (sym (count_is k m count refl))
          ∙ ap (λ (l : List ℕ). record { word = Fence; numbers = k ∷ numbers_of_objects l }) (halves m ns)
          ∙ ap (λ (l : List ℤ). record { word = Fence; numbers = k ∷ l }) (numbers_of_objects-objects_of n ns parts.1);
      right = IsCut-is_cut (fence_of us ws) t.1;
      fits = All-same (below_n n) (us ++ ws) (objects_of ns) (halves m ns) (objects_of-below n ns parts.1);
      shaped = tt;
    }
  where
    length_first : (m : ℕ) (xs : List ℤ) → m < length xs + 1 → length (take m xs) ≡ m
    length_first zero xs l = refl
    length_first (suc m) [] l = absurd (omega arith)
    length_first (suc m) (x ∷ xs) l = ap suc (length_first m xs (omega arith))

ladder_line : (n : ℕ) (k : ℤ) (ns : List ℤ) (cut : CutKind) → is_count k ≡ true → if_ladder (nat_abs k) (cycles_of n ns) ≡ Some cut → IsCutOfLine n Ladder (k ∷ ns) cut
ladder_line n k ns cut count e = by (cycles_of n ns) refl e
  where
    by : (o : Option (List Cycle)) → cycles_of n ns ≡ o → if_ladder (nat_abs k) o ≡ Some cut → IsCutOfLine n Ladder (k ∷ ns) cut
    by None is e = absurd (cc)
    by (Some cs) is e =
        let t = if_cut-passed (eqb (length cs) (nat_abs k)) (ladder_of cs) cut e in
        let spelled = spelled_cycles n ns cs is in
        let size : nat_abs k ≡ length cs = sym (eqb-true (length cs) (nat_abs k) t.0) in
        subst (λ (c : CutKind). IsCutOfLine n Ladder (k ∷ ns) c) t.2 record {
          line = ap (λ (x : ℤ). record { word = Ladder; numbers = x ∷ flat_map cycle_numbers cs }) (sym (count_is k (length cs) count size))
              ∙ ap (λ (l : List ℤ). record { word = Ladder; numbers = k ∷ l }) spelled.numbers;
          right = IsCut-is_cut (ladder_of cs) t.1;
          fits = spelled.below;
          shaped = spelled.shaped;
        }

first_count : (k : ℤ) (ns : List ℤ) → are_counts (k ∷ ns) ≡ true → is_count k ≡ true
first_count k ns e = (and_parts (is_count k) (list_all is_count ns) e).0

pub line-cut_of : (n : ℕ) (w : CertWord) (ns : List ℤ) (cut : CutKind) → is_row w ns ≡ true → cut_of n w ns ≡ Some cut → IsCutOfLine n w ns cut
line-cut_of n Dicycle ns cut row e = dicycle_line n ns cut e
line-cut_of n Fence [] cut row e = absurd (cc)
line-cut_of n Fence (k ∷ ns) cut row e = fence_line n k ns cut (first_count k ns row) e
line-cut_of n Ladder [] cut row e = absurd (cc)
line-cut_of n Ladder (k ∷ ns) cut row e = ladder_line n k ns cut (first_count k ns row) e
line-cut_of n w ns cut row e = absurd (cc)

-- ---- the line of a cut is read as that cut

take_front : (xs ys : List ℕ) → take (length xs) (xs ++ ys) ≡ xs
take_front [] ys = refl
take_front (x ∷ xs) ys = ap (λ (l : List ℕ). x ∷ l) (take_front xs ys)

drop_front : (xs ys : List ℕ) → drop (length xs) (xs ++ ys) ≡ ys
drop_front [] ys = refl
drop_front (x ∷ xs) ys = drop_front xs ys

pub cut_of-line : (n : ℕ) (cut : CutKind) → IsCut cut → FitsCut n cut → IsShapedCut cut → cut_of n (cut_line cut).word (cut_line cut).numbers ≡ Some cut
cut_of-line n (kind.Dicycle objects) right fits shaped =
    let ns = numbers_of_objects objects in
    ap (λ (s : List ℕ). if_cut (name_objects n ns) (kind.Dicycle s)) (objects_of-numbers objects)
    ∙ if_cut-passes (name_objects n ns) (kind.Dicycle objects) (name_objects-numbers n objects fits) right
cut_of-line n (kind.Fence u w) right fits shaped =
    let us = u.items in
    let ws = w.items in
    let k = length us in
    let ns = numbers_of_objects (us ++ ws) in
    let size : length ns ≡ k + k = omega (arith, length-map (us ++ ws) (λ a. pos (a + 1)), length-append us ws, right.same_length) in
    let test : (eqb (length ns) (k + k) && name_objects n ns) ≡ true = and_from _ _ (eq-eqb _ _ size) (name_objects-numbers n (us ++ ws) fits) in
    let first : objects_of (take k ns) ≡ us = ap objects_of (take-map (λ a. pos (a + 1)) k (us ++ ws)) ∙ objects_of-numbers (take k (us ++ ws)) ∙ take_front us ws in
    let second : objects_of (drop k ns) ≡ ws = ap objects_of (drop-map (λ a. pos (a + 1)) k (us ++ ws)) ∙ objects_of-numbers (drop k (us ++ ws)) ∙ drop_front us ws in
    ap (λ (s : List ℕ). if_cut (eqb (length ns) (k + k) && name_objects n ns) (fence_of s (objects_of (drop k ns)))) first
    ∙ ap (λ (s : List ℕ). if_cut (eqb (length ns) (k + k) && name_objects n ns) (fence_of us s)) second
    ∙ if_cut-passes (eqb (length ns) (k + k) && name_objects n ns) (fence_of us ws) test right
cut_of-line n (kind.Ladder cycles) right fits shaped =
    let cs = cycles.items in
    ap (if_ladder (length cs)) (read_cycles n cs shaped fits)
    ∙ if_cut-passes (eqb (length cs) (length cs)) (ladder_of cs) (eq-eqb (length cs) (length cs) refl) right
