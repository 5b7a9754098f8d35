use Rattle.std.specs.Prelude.{◌≡◌, ◌≢◌, ℕ, ◌+◌, ◌<◌, List, [], ◌∷◌, ◌++◌, length, All, Contains, ℤ, pos}
use Rattle.lop_basis.specs.declared.room.TheConstants.{MAX_ROWS}
use Rattle.lop_cuts.specs.declared.kind.CutKind.{CutKind}
use Rattle.lop_simplex.specs.declared.answer.RowReply.{RowReply}
use Rattle.lop_simplex.specs.declared.answer.RowReply.TheVariants.{Added, Present, Full}
use Rattle.lop_simplex.specs.declared.answer.LpStop.{LpStop}
use Rattle.lop_simplex.specs.declared.answer.LpStop.TheVariants.{Settled, Pivots, Unstable}
use Rattle.lop_simplex.specs.Lp.{Lp}

-- when each reply to a cut comes
abbrev pub IsRowReply : List CutKind → CutKind → RowReply → Type 0
IsRowReply rows cut Added = All (λ row. row ≢ cut) rows × (length rows < MAX_ROWS)
IsRowReply rows cut Present = Contains rows cut
IsRowReply rows cut Full = All (λ row. row ≢ cut) rows × (length rows ≡ MAX_ROWS)

-- the program after it: one row more, with multiplier 0, or what it was
abbrev pub after_reply : Lp → CutKind → RowReply → Lp
after_reply p cut Added = record p { rows = p.rows ++ cut ∷ []; duals = p.duals ++ pos 0 ∷ [] }
after_reply p cut Present = p
after_reply p cut Full = p

-- when a run of at most this many pivots stops so, by the counts after it
abbrev pub IsStop : ℕ → ℕ → ℕ → LpStop → Type 0
IsStop max_pivots done refused Settled = done ≢ max_pivots
IsStop max_pivots done refused (Pivots count) = (done ≡ max_pivots) × (count ≡ max_pivots)
IsStop max_pivots done refused Unstable = (done ≢ max_pivots) × (0 < refused)

-- the first list is the second without some of its elements
pub data IsSublist {X : Type 0} : List X → List X → Type 0 where
  both_empty : IsSublist [] []
  left_out : {xs ys : List X} (y : X) → IsSublist xs ys → IsSublist xs (y ∷ ys)
  kept : {xs ys : List X} (x : X) → IsSublist xs ys → IsSublist (x ∷ xs) (x ∷ ys)
