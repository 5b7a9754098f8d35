-- The arcs of a cut go between its objects.
use Rattle.std.proofs.Common.{◌<◌, ℕ, Bool, true, false, not, cond, List, [], ◌∷◌, ◌++◌, map, All}
use Rattle.std.specs.List.{flat_map, zip, filter, AllByRecursion}
use Rattle.std.proofs.lemmas.List.Elements.{All-from_recursion, recursion_from_All}
use Rattle.lop_model.specs.declared.pair.Pair.{Pair}
use Rattle.lop_cuts.specs.declared.kind.Cycle.{Cycle}
use Rattle.lop_cuts.specs.declared.kind.CutKind.{CutKind}
use Rattle.lop_cuts.specs.declared.kind.CutKind.TheVariants.{Dicycle, Fence, Ladder}
use Rattle.lop_cuts.specs.Arcs.{same_arc, arcs_back_to, cycle_arcs, arcs_across, post_arcs, distinct_arcs}
use Rattle.lop_cuts.specs.Kind.{arcs_of, objects_of, objects_in, FitsCut, IsArcBelow}

module _ (n : ℕ) where
  -- all objects are below n
  abbrev pub Below : List ℕ → Type 0
  Below xs = AllByRecursion (λ x. x < n) xs

  -- all arcs go between objects below n
  abbrev ArcsBelow : List Pair → Type 0
  ArcsBelow arcs = AllByRecursion (IsArcBelow n) arcs

  -- arcs of two lists that are below n
  join : (xs ys : List Pair) → ArcsBelow xs → ArcsBelow ys → ArcsBelow (xs ++ ys)
  join [] ys h k = k
  join (x ∷ xs) ys h k = (h.0, join xs ys h.1 k)

  -- two lists of objects below n have their own below n
  pub below_parts : (xs ys : List ℕ) → Below (xs ++ ys) → Below xs × Below ys
  below_parts [] ys h = (tt, h)
  below_parts (x ∷ xs) ys h = let rest = below_parts xs ys h.1 in ((h.0, rest.0), rest.1)

  -- the arcs of a path of objects below n
  path_below : (first x : ℕ) (xs : List ℕ) → first < n → Below (x ∷ xs) → ArcsBelow (arcs_back_to first x xs)
  path_below first x [] f h = ((h.0, f), tt)
  path_below first x (y ∷ ys) f h = ((h.0, h.1.0), path_below first y ys f h.1)

  -- the arcs of a cycle of objects below n
  cycle_below : (xs : List ℕ) → Below xs → ArcsBelow (cycle_arcs xs)
  cycle_below [] h = tt
  cycle_below (x ∷ xs) h = path_below x x xs h.0 h

  -- the arcs of cycles of objects below n
  cycles_below : (cs : List Cycle) → Below (flat_map objects_of cs) → ArcsBelow (flat_map cycle_arcs (map objects_of cs))
  cycles_below [] h = tt
  cycles_below (c ∷ cs) h =
      let both = below_parts (objects_of c) (flat_map objects_of cs) h in
      join (cycle_arcs (objects_of c)) (flat_map cycle_arcs (map objects_of cs)) (cycle_below (objects_of c) both.0) (cycles_below cs both.1)

  -- a filter leaves arcs below n
  filtered : (test : Pair → Bool) (xs : List Pair) → ArcsBelow xs → ArcsBelow (filter test xs)
  filtered test [] h = tt
  filtered test (x ∷ xs) h = split (test x) (filtered test xs h.1)
    where
      split : (b : Bool) → ArcsBelow (filter test xs) → ArcsBelow (cond b (x ∷ filter test xs) (filter test xs))
      split true rest = (h.0, rest)
      split false rest = rest

  -- the distinct arcs of arcs below n
  distinct_below : (xs : List Pair) → ArcsBelow xs → ArcsBelow (distinct_arcs xs)
  distinct_below [] h = tt
  distinct_below (x ∷ xs) h =
      (h.0, filtered (λ b. not (same_arc x b)) (distinct_arcs xs) (distinct_below xs h.1))

  -- all objects of the posts are below n
  abbrev PostsBelow : List (ℕ × ℕ) → Type 0
  PostsBelow ps = AllByRecursion (λ p. (p.0 < n) × (p.1 < n)) ps

  -- the posts of lists of objects below n
  posts_from : (us ws : List ℕ) → Below us → Below ws → PostsBelow (zip us ws)
  posts_from [] ws h k = tt
  posts_from (u ∷ us) [] h k = tt
  posts_from (u ∷ us) (w ∷ ws) h k = ((h.0, k.0), posts_from us ws h.1 k.1)

  -- the arcs across a post of objects below n
  across_below : (p : ℕ × ℕ) (ps : List (ℕ × ℕ)) → p.0 < n → p.1 < n → PostsBelow ps → ArcsBelow (flat_map (arcs_across p) ps)
  across_below p [] a b h = tt
  across_below p (q ∷ qs) a b h = ((b, h.0.0), ((h.0.1, a), across_below p qs a b h.1))

  -- the arcs of a fence of objects below n
  posts_below : (ps : List (ℕ × ℕ)) → PostsBelow ps → ArcsBelow (post_arcs ps)
  posts_below [] h = tt
  posts_below (p ∷ ps) h =
      ((h.0.0, h.0.1), join (flat_map (arcs_across p) ps) (post_arcs ps) (across_below p ps h.0.0 h.0.1 h.1) (posts_below ps h.1))

  -- the arcs of each kind
  below_by_kind : (kind : CutKind) → Below (objects_in kind) → ArcsBelow (arcs_of kind)
  below_by_kind (Dicycle objects) h = cycle_below objects h
  below_by_kind (Fence u w) h =
      let both = below_parts u.items w.items h in
      posts_below (zip u.items w.items) (posts_from u.items w.items both.0 both.1)
  below_by_kind (Ladder cycles) h =
      distinct_below (flat_map cycle_arcs (map objects_of cycles.items)) (cycles_below cycles.items h)

-- where the objects of a cut are below n, its arcs go between objects below n
pub arcs_below : (kind : CutKind) (n : ℕ) → FitsCut n kind → All (IsArcBelow n) (arcs_of kind)
arcs_below kind n fits =
    All-from_recursion (IsArcBelow n) (arcs_of kind) (below_by_kind n kind (recursion_from_All (λ x. x < n) (objects_in kind) fits))
