-- A piece for each item of a list, printed one after another.
use Rattle.std.proofs.Common.{◌≡◌, ℕ, suc, ◌+◌, ◌<◌, ◌≤◌, List, [], ◌∷◌, ◌++◌, length, get_or, take, drop, sym, ◌∙◌, ap, subst, append-nil, Option, Result, IsErrAnd}
use Rattle.std.specs.List.{flat_map}
use Rattle.std.proofs.lemmas.Grind.{flat_map-append}
use Rattle.std.proofs.lemmas.List.{take-append-drop, take_more, take_all}
use Rattle.std.proofs.Math.Seq.{drop-cons}
use Rattle.lop_desk.specs.World.{World, with_printed}
use Rattle.lop_desk.specs.Whole.{PrintsFront, PrintsAll}
use Rattle.lop_desk.proofs.Worlds.{printed_more}
use Rattle.lop_desk.proofs.Printing.{prints_cut, prints_then}

module _ (f : ℕ → List ℕ) (xs : List ℕ) (i d : ℕ) (inside : i < length xs) where
  parts : flat_map f xs ≡ flat_map f (take i xs) ++ (f (get_or xs i d) ++ flat_map f (drop (suc i) xs))
  parts =
      ap (flat_map f) (sym (take-append-drop i xs))
      ∙ flat_map-append f (take i xs) (drop i xs)
      ∙ ap (λ (l : List ℕ). flat_map f (take i xs) ++ flat_map f l) (drop-cons xs i d inside)

  one_more : flat_map f (take (i + 1) xs) ≡ flat_map f (take i xs) ++ f (get_or xs i d)
  one_more =
      ap (flat_map f) (take_more xs i d inside)
      ∙ flat_map-append f (take i xs) (get_or xs i d ∷ [])
      ∙ ap (λ (l : List ℕ). flat_map f (take i xs) ++ l) (append-nil (f (get_or xs i d)))

  -- a call that failed in the piece of item i
  pub pieces_cut : {E : Type 0} (old mid new : Option World) (piece : List ℕ) (result : Result (Unit {0}) E) (Q : E → Type 0) → piece ≡ f (get_or xs i d) → mid ≡ with_printed (flat_map f (take i xs)) old → IsErrAnd result Q → PrintsFront mid new piece
      → PrintsAll old new (flat_map f xs) result
  pieces_cut old mid new piece result Q is so_far failed front =
      subst (λ (text : List ℕ). PrintsAll old new text result) (sym parts)
      (prints_then old mid new (flat_map f (take i xs)) (f (get_or xs i d) ++ flat_map f (drop (suc i) xs)) result so_far
      (prints_cut mid new (f (get_or xs i d)) (flat_map f (drop (suc i) xs)) result Q failed (subst (λ (text : List ℕ). PrintsFront mid new text) is front)))

  -- the piece of item i after those before it
  pub pieces_more : (old mid new : Option World) (piece : List ℕ) → piece ≡ f (get_or xs i d) → mid ≡ with_printed (flat_map f (take i xs)) old → new ≡ with_printed piece mid → new ≡ with_printed (flat_map f (take (i + 1) xs)) old
  pieces_more old mid new piece is so_far done =
      done
      ∙ ap (λ (text : List ℕ). with_printed text mid) is
      ∙ ap (λ (t : Option World). with_printed (f (get_or xs i d)) t) so_far
      ∙ printed_more (flat_map f (take i xs)) (f (get_or xs i d)) old
      ∙ ap (λ (text : List ℕ). with_printed text old) (sym one_more)

-- all pieces
pub pieces_all : (f : ℕ → List ℕ) (xs : List ℕ) (i : ℕ) (old new : Option World) → length xs ≤ i → new ≡ with_printed (flat_map f (take i xs)) old → new ≡ with_printed (flat_map f xs) old
pieces_all f xs i old new over done = done ∙ ap (λ (l : List ℕ). with_printed (flat_map f l) old) (take_all i xs over)
