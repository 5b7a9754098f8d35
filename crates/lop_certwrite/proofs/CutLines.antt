-- Lines of the elements of a list, one after another.
use Rattle.std.proofs.Common.{◌≡◌, ℕ, suc, ◌+◌, ◌<◌, ◌≤◌, List, [], ◌∷◌, ◌++◌, length, get_or, take, drop, map, sym, ◌∙◌, ap, subst, refl, Option, Result, IsErrAnd}
use Rattle.std.specs.Prelude.{All}
use Rattle.std.proofs.lemmas.List.{take-append-drop, take_more, take_all}
use Rattle.std.proofs.lemmas.List.Elements.{All-push}
use Rattle.std.proofs.Math.Seq.{drop-cons}
use Rattle.lop_cuts.specs.declared.kind.CutKind.{CutKind}
use Rattle.lop_desk.specs.World.{World, with_written}
use Rattle.lop_desk.specs.Whole.{WritesFront, WritesAll}
use Rattle.lop_desk.proofs.Worlds.{written_more}
use Rattle.lop_certtext.specs.Line.{CertLine}
use Rattle.lop_certtext.specs.CutLine.{IsShapedCut}
use Rattle.lop_certtext.specs.Certificate.{text_of}
use Rattle.lop_certwrite.specs.Walk.{line_bytes}
use Rattle.lop_certwrite.proofs.Written.{text_more, one_line, lines_then, line_front}

pub map_append : {X Y : Type 0} (f : X → Y) (xs ys : List X) → map f (xs ++ ys) ≡ map f xs ++ map f ys
map_append f [] ys = refl
map_append {X} {Y} f (x ∷ xs) ys = ap (λ (l : List Y). f x ∷ l) (map_append f xs ys)

module _ {X : Type 0} (f : X → CertLine) (xs : List X) (i : ℕ) (d : X) (inside : i < length xs) where
  parts : map f xs ≡ map f (take i xs) ++ f (get_or xs i d) ∷ map f (drop (suc i) xs)
  parts =
      ap (map f) (sym (take-append-drop i xs))
      ∙ map_append f (take i xs) (drop i xs)
      ∙ ap (λ (l : List X). map f (take i xs) ++ map f l) (drop-cons xs i d inside)

  one_more : map f (take (i + 1) xs) ≡ map f (take i xs) ++ f (get_or xs i d) ∷ []
  one_more = ap (map f) (take_more xs i d inside) ∙ map_append f (take i xs) (get_or xs i d ∷ [])

  pub each_cut : {E : Type 0} (old mid new : Option World) (l : CertLine) (result : Result (Unit {0}) E) (Q : E → Type 0) → l ≡ f (get_or xs i d) → mid ≡ with_written (text_of (map f (take i xs))) old → IsErrAnd result Q → WritesFront mid new (line_bytes l) → WritesAll old new (text_of (map f xs)) result
  each_cut old mid new l result Q e so_far failed front =
      subst (λ (ls : List CertLine). WritesAll old new (text_of ls) result) (sym parts)
      (lines_then old mid new (map f (take i xs)) (f (get_or xs i d) ∷ map f (drop (suc i) xs)) result so_far
      (line_front mid new (f (get_or xs i d)) (map f (drop (suc i) xs)) result Q failed (subst (λ (x : CertLine). WritesFront mid new (line_bytes x)) e front)))

  pub each_more : (old mid new : Option World) (l : CertLine) → l ≡ f (get_or xs i d) → mid ≡ with_written (text_of (map f (take i xs))) old → new ≡ with_written (line_bytes l) mid → new ≡ with_written (text_of (map f (take (i + 1) xs))) old
  each_more old mid new l e so_far done =
      done ∙ ap (λ (x : CertLine). with_written (line_bytes x) mid) e
      ∙ ap (λ (t : Option World). with_written (line_bytes (f (get_or xs i d))) t) so_far
      ∙ written_more (text_of (map f (take i xs))) (line_bytes (f (get_or xs i d))) old
      ∙ ap (λ (bs : List ℕ). with_written bs old) (ap (λ (bs : List ℕ). text_of (map f (take i xs)) ++ bs) (sym (one_line (f (get_or xs i d)))) ∙ sym (ap text_of one_more ∙ text_more (map f (take i xs)) (f (get_or xs i d) ∷ [])))

pub shaped_cuts : (cuts : List CutKind) (i : ℕ) (d : CutKind) → i < length cuts → All IsShapedCut (take i cuts) → IsShapedCut (get_or cuts i d) → All IsShapedCut (take (i + 1) cuts)
shaped_cuts cuts i d inside so_far own = subst (All IsShapedCut) (sym (take_more cuts i d inside)) (All-push IsShapedCut (take i cuts) (get_or cuts i d) so_far own)

pub all_shaped : (cuts : List CutKind) (i : ℕ) → length cuts ≤ i → All IsShapedCut (take i cuts) → All IsShapedCut cuts
all_shaped cuts i over h = subst (All IsShapedCut) (take_all i cuts over) h
