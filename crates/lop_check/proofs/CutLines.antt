-- Cuts made of the numbers of a line.
use Rattle.std.proofs.Common.{◌≡◌, ℕ, zero, suc, ◌+◌, ◌-◌, ◌<◌, ◌≤◌, Bool, true, false, ◌&&◌, eqb, cond, List, [], ◌∷◌, ◌++◌, length, map, take, drop, get_or, nat_abs, ℤ, pos, Option, None, Some, refl, sym, ◌∙◌, ap, subst, arith}
use Rattle.std.specs.Prelude.{All}
use Rattle.std.proofs.lemmas.Bool.{and_from, and_left, and_right, false_from_ne_true, ne_eqb, eqb-true, eqb-false, eq-eqb}
use Rattle.std.proofs.lemmas.List.{length-map, append_assoc, append-nil, take-map, drop-map, take-append-drop, map-append, length-take-le}
use Rattle.lop_cuts.specs.declared.kind.Cycle.{Cycle}
use Rattle.lop_cuts.specs.declared.kind.Cycle.TheVariants.{Three, Four}
use Rattle.lop_cuts.specs.declared.kind.CutKind.{CutKind}
use Rattle.lop_cuts.specs.Kind.{IsCut, FitsCut, fence_of, ladder_of}
use Rattle.lop_cuts.specs.Kind.{objects_of as cycle_objects}
use Rattle.lop_cuts.specs.CutTests.{is_cut}
use Rattle.lop_certtext.specs.CutLine.{objects_of, name_objects, if_cut, with_cycle, cycles_of, if_ladder, if_fence}
use Rattle.lop_certtext.proofs.ObjectNumbers.{objects_of-below}
use Rattle.lop_certtext.proofs.CutText.{spelled_cycles}
use Rattle.lop_cuts.proofs.CutTests.{is_cut-IsCut, IsCut-is_cut}
use Rattle.lop_check.specs.Cycles.{in_front, all_in_front, IsFirstCycle, IsNoCycle}

-- ---- tests

pub cut_made : (t : Bool) (cut : CutKind) → t ≡ true → IsCut cut → if_cut t cut ≡ Some cut
cut_made t cut e right = ap (λ (s : Bool). cond {A = Option CutKind} s (Some cut) None) (and_from t (is_cut cut) e (is_cut-IsCut cut right))

pub no_cut : (t : Bool) (cut : CutKind) → (IsCut cut → ⊥) → if_cut t cut ≡ None
no_cut t cut wrong = ap (λ (s : Bool). cond {A = Option CutKind} s (Some cut) None) (and_right t (is_cut cut) (false_from_ne_true (is_cut cut) (λ e. wrong (IsCut-is_cut cut e))))

pub not_named : (t : Bool) (cut : CutKind) → t ≡ false → if_cut t cut ≡ None
not_named t cut e = ap (λ (s : Bool). cond {A = Option CutKind} s (Some cut) None) (and_left t (is_cut cut) e)

-- ---- lists of a few numbers

pub three_of : (xs : List ℕ) (d e f : ℕ) → length xs ≡ 3 → (get_or xs 0 d ∷ get_or xs 1 e ∷ get_or xs 2 f ∷ []) ≡ xs
three_of [] d e f h = absurd (omega arith)
three_of (a ∷ []) d e f h = absurd (omega arith)
three_of (a ∷ b ∷ []) d e f h = absurd (omega arith)
three_of (a ∷ b ∷ c ∷ []) d e f h = refl
three_of (a ∷ b ∷ c ∷ x ∷ xs) d e f h = absurd (omega arith)

pub four_of : (xs : List ℕ) (d e f g : ℕ) → length xs ≡ 4 → (get_or xs 0 d ∷ get_or xs 1 e ∷ get_or xs 2 f ∷ get_or xs 3 g ∷ []) ≡ xs
four_of [] d e f g h = absurd (omega arith)
four_of (a ∷ []) d e f g h = absurd (omega arith)
four_of (a ∷ b ∷ []) d e f g h = absurd (omega arith)
four_of (a ∷ b ∷ c ∷ []) d e f g h = absurd (omega arith)
four_of (a ∷ b ∷ c ∷ x ∷ []) d e f g h = refl
four_of (a ∷ b ∷ c ∷ x ∷ y ∷ xs) d e f g h = absurd (omega arith)

-- ---- cycles

with_cycle-named : (c : Cycle) (o : Option (List Cycle)) → with_cycle true c o ≡ in_front c o
with_cycle-named c None = refl
with_cycle-named c (Some cs) = refl

with_cycle-not : (c : Cycle) (o : Option (List Cycle)) → with_cycle false c o ≡ None
with_cycle-not c None = refl
with_cycle-not c (Some cs) = refl

-- numbers that begin with 3
three_first : (n : ℕ) (xs : List ℤ) → get_or xs 0 (pos 0) ≡ pos 3 → 4 ≤ length xs → cycles_of n xs ≡ with_cycle (name_objects n (take 3 (drop 1 xs))) (Three (objects_of (take 3 (drop 1 xs)))) (cycles_of n (drop 4 xs))
three_first n [] e h = absurd (omega arith)
three_first n (x ∷ []) e h = absurd (omega arith)
three_first n (x ∷ a ∷ []) e h = absurd (omega arith)
three_first n (x ∷ a ∷ b ∷ []) e h = absurd (omega arith)
three_first n (x ∷ a ∷ b ∷ c ∷ ns) e h = ap (λ (y : ℤ). cycles_of n (y ∷ a ∷ b ∷ c ∷ ns)) e

pub three_read : (n : ℕ) (xs : List ℤ) (objects : List ℕ) → get_or xs 0 (pos 0) ≡ pos 3 → 4 ≤ length xs → name_objects n (take 3 (drop 1 xs)) ≡ true → objects ≡ objects_of (take 3 (drop 1 xs)) → IsFirstCycle n xs (Three objects) 4
three_read n xs objects e h named is = record {
  some = omega arith;
  within = h;
  read =
      three_first n xs e h
      ∙ ap (λ (t : Bool). with_cycle t (Three (objects_of (take 3 (drop 1 xs)))) (cycles_of n (drop 4 xs))) named
      ∙ with_cycle-named (Three (objects_of (take 3 (drop 1 xs)))) (cycles_of n (drop 4 xs))
      ∙ ap (λ (l : List ℕ). in_front (Three l) (cycles_of n (drop 4 xs))) (sym is);
}

pub three_not : (n : ℕ) (xs : List ℤ) → get_or xs 0 (pos 0) ≡ pos 3 → 4 ≤ length xs → name_objects n (take 3 (drop 1 xs)) ≡ false → IsNoCycle n xs
three_not n xs e h named =
    three_first n xs e h
    ∙ ap (λ (t : Bool). with_cycle t (Three (objects_of (take 3 (drop 1 xs)))) (cycles_of n (drop 4 xs))) named
    ∙ with_cycle-not (Three (objects_of (take 3 (drop 1 xs)))) (cycles_of n (drop 4 xs))

pub three_short : (n : ℕ) (xs : List ℤ) → get_or xs 0 (pos 0) ≡ pos 3 → 0 < length xs → length xs < 4 → IsNoCycle n xs
three_short n [] e some h = absurd (omega arith)
three_short n (x ∷ []) e some h = ap (λ (y : ℤ). cycles_of n (y ∷ [])) e
three_short n (x ∷ a ∷ []) e some h = ap (λ (y : ℤ). cycles_of n (y ∷ a ∷ [])) e
three_short n (x ∷ a ∷ b ∷ []) e some h = ap (λ (y : ℤ). cycles_of n (y ∷ a ∷ b ∷ [])) e
three_short n (x ∷ a ∷ b ∷ c ∷ ns) e some h = absurd (omega arith)

-- numbers that begin with 4
four_first : (n : ℕ) (xs : List ℤ) → get_or xs 0 (pos 0) ≡ pos 4 → 5 ≤ length xs → cycles_of n xs ≡ with_cycle (name_objects n (take 4 (drop 1 xs))) (Four (objects_of (take 4 (drop 1 xs)))) (cycles_of n (drop 5 xs))
four_first n [] e h = absurd (omega arith)
four_first n (x ∷ []) e h = absurd (omega arith)
four_first n (x ∷ a ∷ []) e h = absurd (omega arith)
four_first n (x ∷ a ∷ b ∷ []) e h = absurd (omega arith)
four_first n (x ∷ a ∷ b ∷ c ∷ []) e h = absurd (omega arith)
four_first n (x ∷ a ∷ b ∷ c ∷ d ∷ ns) e h = ap (λ (y : ℤ). cycles_of n (y ∷ a ∷ b ∷ c ∷ d ∷ ns)) e

pub four_read : (n : ℕ) (xs : List ℤ) (objects : List ℕ) → get_or xs 0 (pos 0) ≡ pos 4 → 5 ≤ length xs → name_objects n (take 4 (drop 1 xs)) ≡ true → objects ≡ objects_of (take 4 (drop 1 xs)) → IsFirstCycle n xs (Four objects) 5
four_read n xs objects e h named is = record {
  some = omega arith;
  within = h;
  read =
      four_first n xs e h
      ∙ ap (λ (t : Bool). with_cycle t (Four (objects_of (take 4 (drop 1 xs)))) (cycles_of n (drop 5 xs))) named
      ∙ with_cycle-named (Four (objects_of (take 4 (drop 1 xs)))) (cycles_of n (drop 5 xs))
      ∙ ap (λ (l : List ℕ). in_front (Four l) (cycles_of n (drop 5 xs))) (sym is);
}

pub four_not : (n : ℕ) (xs : List ℤ) → get_or xs 0 (pos 0) ≡ pos 4 → 5 ≤ length xs → name_objects n (take 4 (drop 1 xs)) ≡ false → IsNoCycle n xs
four_not n xs e h named =
    four_first n xs e h
    ∙ ap (λ (t : Bool). with_cycle t (Four (objects_of (take 4 (drop 1 xs)))) (cycles_of n (drop 5 xs))) named
    ∙ with_cycle-not (Four (objects_of (take 4 (drop 1 xs)))) (cycles_of n (drop 5 xs))

pub four_short : (n : ℕ) (xs : List ℤ) → get_or xs 0 (pos 0) ≡ pos 4 → 0 < length xs → length xs < 5 → IsNoCycle n xs
four_short n [] e some h = absurd (omega arith)
four_short n (x ∷ []) e some h = ap (λ (y : ℤ). cycles_of n (y ∷ [])) e
four_short n (x ∷ a ∷ []) e some h = ap (λ (y : ℤ). cycles_of n (y ∷ a ∷ [])) e
four_short n (x ∷ a ∷ b ∷ []) e some h = ap (λ (y : ℤ). cycles_of n (y ∷ a ∷ b ∷ [])) e
four_short n (x ∷ a ∷ b ∷ c ∷ []) e some h = ap (λ (y : ℤ). cycles_of n (y ∷ a ∷ b ∷ c ∷ [])) e
four_short n (x ∷ a ∷ b ∷ c ∷ d ∷ ns) e some h = absurd (omega arith)

-- numbers that begin otherwise
pub other_first : (n : ℕ) (xs : List ℤ) → 0 < length xs → (get_or xs 0 (pos 0) ≡ pos 3 → ⊥) → (get_or xs 0 (pos 0) ≡ pos 4 → ⊥) → IsNoCycle n xs
other_first n [] some h k = absurd (omega arith)
other_first n (pos (suc (suc (suc zero))) ∷ ns) some h k = absurd (h refl)
other_first n (pos (suc (suc (suc (suc zero)))) ∷ ns) some h k = absurd (k refl)
other_first n ns some h k = refl

-- ---- one cycle after another

pub front_more : (cs : List Cycle) (c : Cycle) (o : Option (List Cycle)) → all_in_front cs (in_front c o) ≡ all_in_front (cs ++ c ∷ []) o
front_more cs c None = refl
front_more cs c (Some ds) = ap (λ (l : List Cycle). Some l) (sym (append_assoc cs (c ∷ []) ds))

pub front_all : (cs : List Cycle) → all_in_front cs (Some []) ≡ Some cs
front_all cs = ap (λ (l : List Cycle). Some l) (append-nil cs)

pub front_none : (o : Option (List Cycle)) → o ≡ all_in_front [] o
front_none None = refl
front_none (Some ds) = refl

-- more than nine cycles are no ladder
pub too_many : (k : ℕ) (cs : List Cycle) (o : Option (List Cycle)) → 9 ≤ length cs → (o ≡ Some [] → ⊥) → if_ladder k (all_in_front cs o) ≡ None
too_many k cs None nine more = refl
too_many k cs (Some []) nine more = absurd (more refl)
too_many k cs (Some (d ∷ ds)) nine more =
    no_cut (eqb (length (cs ++ d ∷ ds)) k) (ladder_of (cs ++ d ∷ ds))
    (λ right. let most : length (map cycle_objects (cs ++ d ∷ ds)) ≤ 9 = right.at_most in absurd (omega (arith, length-map (cs ++ d ∷ ds) cycle_objects, longer cs d ds)))
  where
    longer : (xs : List Cycle) (y : Cycle) (ys : List Cycle) → length xs < length (xs ++ y ∷ ys)
    longer [] y ys = omega arith
    longer (x ∷ xs) y ys = omega (arith, longer xs y ys)

-- numbers that are there spell a cycle at least, or none
with_cycle-some : (t : Bool) (c : Cycle) (o : Option (List Cycle)) → with_cycle t c o ≡ Some [] → ⊥
with_cycle-some t c None e = cc
with_cycle-some true c (Some cs) e = cc
with_cycle-some false c (Some cs) e = cc

pub some_left : (n : ℕ) (ns : List ℤ) → 0 < length ns → cycles_of n ns ≡ Some [] → ⊥
some_left n [] some e = absurd (omega arith)
some_left n (pos (suc (suc (suc zero))) ∷ a ∷ b ∷ c ∷ ns) some e = with_cycle-some (name_objects n (a ∷ b ∷ c ∷ [])) (Three (objects_of (a ∷ b ∷ c ∷ []))) (cycles_of n ns) e
some_left n (pos (suc (suc (suc (suc zero)))) ∷ a ∷ b ∷ c ∷ d ∷ ns) some e = with_cycle-some (name_objects n (a ∷ b ∷ c ∷ d ∷ [])) (Four (objects_of (a ∷ b ∷ c ∷ d ∷ []))) (cycles_of n ns) e
some_left n ns some e = cc

pub none_left : (n : ℕ) (ns : List ℤ) → length ns ≡ 0 → cycles_of n ns ≡ Some []
none_left n [] e = refl
none_left n (x ∷ ns) e = absurd (omega arith)

-- a cycle that can't be read leaves none
pub stops_reading : (n : ℕ) (all rest : List ℤ) (cs : List Cycle) → cycles_of n all ≡ all_in_front cs (cycles_of n rest) → IsNoCycle n rest → cycles_of n all ≡ None
stops_reading n all rest cs so none = so ∙ ap (all_in_front cs) none

pub reads_more : (n : ℕ) (all rest left : List ℤ) (cs : List Cycle) (c : Cycle) (len : ℕ) → cycles_of n all ≡ all_in_front cs (cycles_of n rest) → IsFirstCycle n rest c len → left ≡ drop len rest → cycles_of n all ≡ all_in_front (cs ++ c ∷ []) (cycles_of n left)
reads_more n all rest left cs c len so first is =
    so ∙ ap (all_in_front cs) first.read ∙ front_more cs c (cycles_of n (drop len rest)) ∙ ap (λ (l : List ℤ). all_in_front (cs ++ c ∷ []) (cycles_of n l)) (sym is)

-- ---- the objects of a line, and the cuts of them

pub three_objects : (ns : List ℤ) (f g h objects : List ℕ) → objects ≡ objects_of ns → f ≡ objects → g ≡ objects → h ≡ objects → length ns ≡ 3 → (get_or f 0 0 ∷ get_or g 1 0 ∷ get_or h 2 0 ∷ []) ≡ objects_of ns
three_objects ns f g h objects is first second third size =
    let all = objects_of ns in
    ap (λ (l : List ℕ). get_or l 0 0 ∷ get_or g 1 0 ∷ get_or h 2 0 ∷ []) (first ∙ is)
    ∙ ap (λ (l : List ℕ). get_or all 0 0 ∷ get_or l 1 0 ∷ get_or h 2 0 ∷ []) (second ∙ is)
    ∙ ap (λ (l : List ℕ). get_or all 0 0 ∷ get_or all 1 0 ∷ get_or l 2 0 ∷ []) (third ∙ is)
    ∙ three_of all 0 0 0 (length-map ns (λ x. nat_abs x - 1) ∙ size)

pub four_objects : (ns : List ℤ) (f g h i objects : List ℕ) → objects ≡ objects_of ns → f ≡ objects → g ≡ objects → h ≡ objects → i ≡ objects → length ns ≡ 4 → (get_or f 0 0 ∷ get_or g 1 0 ∷ get_or h 2 0 ∷ get_or i 3 0 ∷ []) ≡ objects_of ns
four_objects ns f g h i objects is first second third fourth size =
    let all = objects_of ns in
    ap (λ (l : List ℕ). get_or l 0 0 ∷ get_or g 1 0 ∷ get_or h 2 0 ∷ get_or i 3 0 ∷ []) (first ∙ is)
    ∙ ap (λ (l : List ℕ). get_or all 0 0 ∷ get_or l 1 0 ∷ get_or h 2 0 ∷ get_or i 3 0 ∷ []) (second ∙ is)
    ∙ ap (λ (l : List ℕ). get_or all 0 0 ∷ get_or all 1 0 ∷ get_or l 2 0 ∷ get_or i 3 0 ∷ []) (third ∙ is)
    ∙ ap (λ (l : List ℕ). get_or all 0 0 ∷ get_or all 1 0 ∷ get_or all 2 0 ∷ get_or l 3 0 ∷ []) (fourth ∙ is)
    ∙ four_of all 0 0 0 0 (length-map ns (λ x. nat_abs x - 1) ∙ size)

-- what a line's posts are
pub record ArePosts (n : ℕ) (k : ℕ) (ns : List ℤ) (u w : List ℕ) : Type 0 where
  pub test : (eqb (length ns) (k + k) && name_objects n ns) ≡ true
  pub fence : fence_of u w ≡ fence_of (objects_of (take k ns)) (objects_of (drop k ns))
  pub below : All (λ a. a < n) (u ++ w)

pub posts_of : (n k : ℕ) (ns : List ℤ) (all u w : List ℕ) → length ns ≡ k + k → name_objects n ns ≡ true → all ≡ objects_of ns → u ≡ take k all → w ≡ drop k all → ArePosts n k ns u w
posts_of n k ns all u w size named is front back =
    let first : u ≡ objects_of (take k ns) = front ∙ ap (take k) is ∙ take-map (λ x. nat_abs x - 1) k ns in
    let second : w ≡ objects_of (drop k ns) = back ∙ ap (drop k) is ∙ drop-map (λ x. nat_abs x - 1) k ns in
    let halves : objects_of (take k ns) ++ objects_of (drop k ns) ≡ objects_of ns = sym (map-append (λ x. nat_abs x - 1) (take k ns) (drop k ns)) ∙ ap objects_of (take-append-drop k ns) in
    let whole : u ++ w ≡ objects_of ns = ap (λ (l : List ℕ). l ++ w) first ∙ ap (λ (l : List ℕ). objects_of (take k ns) ++ l) second ∙ halves in
    record {
      test = and_from _ _ (eq-eqb (length ns) (k + k) size) named;
      fence = ap (λ (l : List ℕ). fence_of l w) first ∙ ap (λ (l : List ℕ). fence_of (objects_of (take k ns)) l) second;
      below = subst (λ (l : List ℕ). All (λ a. a < n) l) (sym whole) (objects_of-below n ns named);
    }

pub no_fence_size : (n k : ℕ) (ns : List ℤ) → (length ns ≡ k + k → ⊥) → if_fence n k ns ≡ None
no_fence_size n k ns other = not_named (eqb (length ns) (k + k) && name_objects n ns) (fence_of (objects_of (take k ns)) (objects_of (drop k ns))) (and_left (eqb (length ns) (k + k)) (name_objects n ns) (ne_eqb (length ns) (k + k) other))

pub no_fence_named : (n k : ℕ) (ns : List ℤ) → name_objects n ns ≡ false → if_fence n k ns ≡ None
no_fence_named n k ns e = not_named (eqb (length ns) (k + k) && name_objects n ns) (fence_of (objects_of (take k ns)) (objects_of (drop k ns))) (and_right (eqb (length ns) (k + k)) (name_objects n ns) e)

-- more than eight posts are no fence
pub long_fence : (n k : ℕ) (ns : List ℤ) → 16 < length ns → if_fence n k ns ≡ None
long_fence n k ns long = by (eqb (length ns) (k + k)) refl
  where
    by : (t : Bool) → eqb (length ns) (k + k) ≡ t → if_fence n k ns ≡ None
    by false e = no_fence_size n k ns (λ h. eqb-false (length ns) (k + k) e h)
    by true e =
        let size : length ns ≡ k + k = eqb-true (length ns) (k + k) e in
        no_cut (eqb (length ns) (k + k) && name_objects n ns) (fence_of (objects_of (take k ns)) (objects_of (drop k ns)))
        (λ right.
        let most : length (objects_of (take k ns)) ≤ 8 = right.at_most in
        absurd (omega (arith, length-map (take k ns) (λ x. nat_abs x - 1), length-take-le k ns (omega arith))))

-- ---- the cuts of cycles

pub ladder_made : (n k : ℕ) (ns : List ℤ) (cs items : List Cycle) (cut : CutKind) → cycles_of n ns ≡ Some cs → items ≡ cs → k ≡ length cs → cut ≡ ladder_of items → IsCut cut → if_ladder k (cycles_of n ns) ≡ Some cut
ladder_made n k ns cs items cut read is size made right =
    let whole : cut ≡ ladder_of cs = made ∙ ap ladder_of is in
    ap (if_ladder k) read
    ∙ cut_made (eqb (length cs) k) (ladder_of cs) (eq-eqb (length cs) k (sym size)) (subst (λ (x : CutKind). IsCut x) whole right)
    ∙ ap (λ (x : CutKind). Some x) (sym whole)

pub no_ladder_size : (n k : ℕ) (ns : List ℤ) (cs : List Cycle) → cycles_of n ns ≡ Some cs → (length cs ≡ k → ⊥) → if_ladder k (cycles_of n ns) ≡ None
no_ladder_size n k ns cs read other = ap (if_ladder k) read ∙ not_named (eqb (length cs) k) (ladder_of cs) (ne_eqb (length cs) k other)

pub no_ladder : (n k : ℕ) (ns : List ℤ) (cs items : List Cycle) → cycles_of n ns ≡ Some cs → items ≡ cs → (IsCut (ladder_of items) → FitsCut n (ladder_of items) → ⊥) → if_ladder k (cycles_of n ns) ≡ None
no_ladder n k ns cs items read is refused =
    let fits : FitsCut n (ladder_of cs) = (spelled_cycles n ns cs read).below in
    ap (if_ladder k) read
    ∙ no_cut (eqb (length cs) k) (ladder_of cs)
    (λ right. refused (subst (λ (l : List Cycle). IsCut (ladder_of l)) (sym is) right) (subst (λ (l : List Cycle). FitsCut n (ladder_of l)) (sym is) fits))
