-- An order keeps at most k²-k+1 of the arcs of a fence of k posts.
use Rattle.std.proofs.Common.{◌≡◌, ◌+◌, ◌-◌, ◌*◌, ◌≤◌, ℕ, suc, zero, Bool, true, false, List, [], ◌∷◌, ◌++◌, length, length-append, count_by, refl, ap, arith}
use Rattle.std.specs.List.{flat_map}
use Rattle.std.proofs.lemmas.Bool.{both_ways}
use Rattle.std.proofs.lemmas.List.Sums.{sum_by-cons}
use Rattle.lop_model.specs.Order.{stands_before}
use Rattle.lop_cuts.specs.Arcs.{arc, kept_count, arcs_across, post_arcs}
use Rattle.lop_cuts.proofs.CycleLemmas.{stands_before-irreflexive, stands_before-transitive, one_if, one_if_le, kept_count-cons, kept_count-append, kept_count-le}

-- 0 + 1 + .. + (m - 1), the number of pairs of m posts
abbrev triangle : ℕ → ℕ
triangle zero = 0
triangle (suc m) = m + triangle m

-- m is at most one more than the number of pairs of m posts
triangle_near : (m : ℕ) → m ≤ triangle m + 1
triangle_near zero = omega arith
triangle_near (suc m) = omega arith

-- each other post adds two arcs across a post
length-across : (p : ℕ × ℕ) (ps : List (ℕ × ℕ)) → length (flat_map (arcs_across p) ps) ≡ 2 * length ps
length-across p [] = refl
length-across p (q ∷ qs) =
    omega (arith, length-append (arcs_across p q) (flat_map (arcs_across p) qs), length-across p qs)

-- a fence of k posts has k² arcs
pub length-post_arcs : (ps : List (ℕ × ℕ)) → length (post_arcs ps) ≡ length ps * length ps
length-post_arcs [] = refl
length-post_arcs (p ∷ ps) =
    omega (arith, length-append (flat_map (arcs_across p) ps) (post_arcs ps), length-across p ps, length-post_arcs ps)

module _ (s : List ℕ) where
  -- how many posts have their own arc kept
  abbrev standing : List (ℕ × ℕ) → ℕ
  standing ps = count_by (λ p. stands_before s p.0 p.1) ps

  -- how many own arcs are kept with one more post
  standing-cons : (p : ℕ × ℕ) (ps : List (ℕ × ℕ)) → standing (p ∷ ps) ≡ one_if (stands_before s p.0 p.1) + standing ps
  standing-cons p ps = sum_by-cons (λ q. one_if (stands_before s q.0 q.1)) p ps

  -- of four arcs round a cycle one is lost
  four : (a b c d : ℕ) (ab bc cd da : Bool) → stands_before s a b ≡ ab → stands_before s b c ≡ bc → stands_before s c d ≡ cd → stands_before s d a ≡ da → one_if ab + one_if bc + one_if cd + one_if da ≤ 3
  four a b c d true true true true h i j k =
      absurd (both_ways (stands_before s a a) (stands_before-irreflexive s a) (stands_before-transitive s a d a (stands_before-transitive s a c d (stands_before-transitive s a b c h i) j) k))
  four a b c d false bc cd da h i j k = omega (arith, one_if_le bc, one_if_le cd, one_if_le da)
  four a b c d true false cd da h i j k = omega (arith, one_if_le cd, one_if_le da)
  four a b c d true true false da h i j k = omega (arith, one_if_le da)
  four a b c d true true true false h i j k = omega arith

  -- between a post whose arc is kept and each other such post an arc is lost
  across_kept : (p : ℕ × ℕ) (ps : List (ℕ × ℕ)) → stands_before s p.0 p.1 ≡ true → kept_count s (flat_map (arcs_across p) ps) + standing ps ≤ 2 * length ps
  across_kept p [] h = omega arith
  across_kept p (q ∷ qs) h =
      let rest = flat_map (arcs_across p) qs in
      let one = kept_count-cons s (arc p.1 q.0) (arc q.1 p.0 ∷ rest) in
      let two = kept_count-cons s (arc q.1 p.0) rest in
      let stand = standing-cons q qs in
      let cycle = four p.0 p.1 q.0 q.1 true _ _ _ h refl refl refl in
      omega (arith, one, two, stand, cycle, across_kept p qs h)

  -- what an order loses: the posts whose arc is lost, and an arc for each two whose arcs are kept
  abbrev FenceLoses : List (ℕ × ℕ) → Type 0
  FenceLoses ps = kept_count s (post_arcs ps) + length ps + triangle (standing ps) ≤ length (post_arcs ps) + standing ps

  -- one more post loses what it has to
  add_post : (p : ℕ × ℕ) (ps : List (ℕ × ℕ)) (own : Bool) → stands_before s p.0 p.1 ≡ own → FenceLoses ps → FenceLoses (p ∷ ps)
  add_post p ps true e before_it =
      let across = flat_map (arcs_across p) ps in
      let one = kept_count-cons s (arc p.0 p.1) (across ++ post_arcs ps) in
      let two = kept_count-append s across (post_arcs ps) in
      let own : one_if (stands_before s p.0 p.1) ≡ 1 = ap one_if e in
      let more : standing (p ∷ ps) ≡ suc (standing ps) = omega (arith, standing-cons p ps, own) in
      let more_pairs : triangle (standing (p ∷ ps)) ≡ standing ps + triangle (standing ps) = ap triangle more in
      omega (arith, one, two, own, more, more_pairs, before_it, across_kept p ps e, length-append across (post_arcs ps), length-across p ps)
  add_post p ps false e before_it =
      let across = flat_map (arcs_across p) ps in
      let one = kept_count-cons s (arc p.0 p.1) (across ++ post_arcs ps) in
      let two = kept_count-append s across (post_arcs ps) in
      let own : one_if (stands_before s p.0 p.1) ≡ 0 = ap one_if e in
      let same : standing (p ∷ ps) ≡ standing ps = omega (arith, standing-cons p ps, own) in
      let same_pairs : triangle (standing (p ∷ ps)) ≡ triangle (standing ps) = ap triangle same in
      omega (arith, one, two, own, same, same_pairs, before_it, kept_count-le s across, length-append across (post_arcs ps), length-across p ps)

  -- so does every fence
  fence_loses : (ps : List (ℕ × ℕ)) → FenceLoses ps
  fence_loses [] = omega arith
  fence_loses (p ∷ ps) = add_post p ps (stands_before s p.0 p.1) refl (fence_loses ps)

  -- an order keeps at most k²-k+1 of the arcs of a fence of k posts
  pub fence_kept : (ps : List (ℕ × ℕ)) → kept_count s (post_arcs ps) ≤ length ps * length ps - length ps + 1
  fence_kept ps = omega (arith, fence_loses ps, triangle_near (standing ps), length-post_arcs ps)
