-- Cuts of which some were taken out.
use Rattle.std.proofs.Common.{◌≡◌, ◌≢◌, ℕ, ◌-◌, ◌<◌, List, length, get_or, sym, ◌∙◌, subst, inl, inr, arith}
use Rattle.std.specs.Prelude.{All, AllPairs, Contains, swap_remove}
use Rattle.std.proofs.lemmas.Bool.{cases_eq}
use Rattle.std.proofs.lemmas.Grind.{common_steps}
use Rattle.lop_cuts.specs.declared.kind.CutKind.{CutKind}
use Rattle.lop_cuts.specs.Kind.{IsCut, FitsCut}
use Rattle.lop_ascent.specs.Fewer.{AreAmongCuts, AreFewer}
use Rattle.lop_ascent.specs.Rows.{IsRowList}

-- ---- what stands at a place after one was taken out

kept_at : (xs : List CutKind) (i k : ℕ) (d e : CutKind) → k < length xs - 1 → k ≢ i → get_or (swap_remove xs i d) k e ≡ get_or xs k e
kept_at xs i k d e l ne = grind (arith, common_steps)

moved_at : (xs : List CutKind) (i k : ℕ) (d e : CutKind) → i < length xs → k < length xs - 1 → k ≡ i → get_or (swap_remove xs i d) k e ≡ get_or xs (length xs - 1) e
moved_at xs i k d e il l eq = grind (arith, common_steps)

length_after : (xs : List CutKind) (i : ℕ) (d : CutKind) → length (swap_remove xs i d) ≡ length xs - 1
length_after xs i d = grind (arith, common_steps)

among_at : (xs : List CutKind) (i k : ℕ) (d e : CutKind) → i < length xs → k < length xs - 1 → Contains xs (get_or (swap_remove xs i d) k e)
among_at xs i k d e il l = elim (cases_eq k i) [
  | inl same ↦
      let is : get_or (swap_remove xs i d) k e ≡ get_or xs (length xs - 1) e = moved_at xs i k d e il l same in
      subst (λ x. Contains xs x) (sym is) (read xs (length xs - 1) e (omega arith))
  | inr other ↦
      let is : get_or (swap_remove xs i d) k e ≡ get_or xs k e = kept_at xs i k d e l other in
      subst (λ x. Contains xs x) (sym is) (read xs k e (omega arith))
]
  where
    read : (xs : List CutKind) (k : ℕ) (e : CutKind) → k < length xs → Contains xs (get_or xs k e)
    read xs k e l = (k, l, grind (arith, common_steps))

-- what was among some is among all
through : (all some : List CutKind) (x : CutKind) → AreAmongCuts some all → Contains some x → Contains all x
through all some x h (k, l, is) = subst (λ y. Contains all y) is (h k x l)

pub fewer_itself : (xs : List CutKind) → AreFewer xs xs
fewer_itself xs = record {
  no_more = omega arith;
  among = λ k e l. (k, l, grind (arith, common_steps));
  different = λ h. h;
}

different_after : (xs : List CutKind) (r : ℕ) (d : CutKind) → r < length xs → AllPairs (λ a b. a ≢ b) xs → AllPairs (λ a b. a ≢ b) (swap_remove xs r d)
different_after xs r d rl h i j e l m =
    let len = length_after xs r d in
    let jl : j < length xs - 1 = omega (arith, len) in
    let il : i < length xs - 1 = omega arith in
    elim (cases_eq i r) [
      | inl same ↦
          let other : j ≢ r = λ t. omega arith in
          let at_i : get_or (swap_remove xs r d) i e ≡ get_or xs (length xs - 1) e = moved_at xs r i d e rl il same in
          let at_j : get_or (swap_remove xs r d) j e ≡ get_or xs j e = kept_at xs r j d e jl other in
          λ t. h j (length xs - 1) e (omega arith) (omega arith) (sym at_j ∙ sym t ∙ at_i)
      | inr other ↦
          let at_i : get_or (swap_remove xs r d) i e ≡ get_or xs i e = kept_at xs r i d e il other in
          elim (cases_eq j r) [
            | inl same ↦
                let at_j : get_or (swap_remove xs r d) j e ≡ get_or xs (length xs - 1) e = moved_at xs r j d e rl jl same in
                λ t. h i (length xs - 1) e (omega arith) (omega arith) (sym at_i ∙ t ∙ at_j)
            | inr apart ↦
                let at_j : get_or (swap_remove xs r d) j e ≡ get_or xs j e = kept_at xs r j d e jl apart in
                λ t. h i j e l (omega arith) (sym at_i ∙ t ∙ at_j)
          ]
    ]

-- one more was taken out
pub fewer_after : (old xs ys : List CutKind) (r : ℕ) (d : CutKind) → AreFewer old xs → r < length xs → ys ≡ swap_remove xs r d → AreFewer old ys
fewer_after old xs ys r d f l is = subst (λ zs. AreFewer old zs) (sym is) (record {
  no_more = omega (arith, length_after xs r d, f.no_more);
  among = λ k e m. through old xs (get_or (swap_remove xs r d) k e) f.among (among_at xs r k d e l (omega (arith, length_after xs r d)));
  different = λ h. different_after xs r d l (f.different h);
})

carried : (P : CutKind → Type 0) (old new : List CutKind) → AreAmongCuts new old → All P old → All P new
carried P old new among h k e l = on (among k e l)
  where
    on : Contains old (get_or new k e) → P (get_or new k e)
    on (j, m, is) = subst P is (h j (get_or new k e) m)

-- what the rows keep, where some were taken out
pub list_after : (n : ℕ) (old new : List CutKind) → IsRowList n old → AreFewer old new → IsRowList n new
list_after n old new list f = record {
  few = omega (arith, list.few, f.no_more);
  different = f.different list.different;
  valid = carried IsCut old new f.among list.valid;
  fit = carried (FitsCut n) old new f.among list.fit;
}
