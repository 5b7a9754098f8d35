-- Which cuts stand from a place on, and what is appended, step by step.
use Rattle.std.proofs.Common.{◌≡◌, ℕ, ◌+◌, ◌-◌, ◌<◌, ◌≤◌, List, [], ◌∷◌, ◌++◌, length, get_or, take, drop, refl, sym, ◌∙◌, ap, subst, arith, append_assoc, append-nil, length-append}
use Rattle.std.specs.List.{AllWithin, Contains}
use Rattle.std.proofs.lemmas.List.{get_or-append_right, get_or-drop, length-drop, take-append-le, take_all}
use Rattle.std.proofs.lemmas.List.Elements.{All-nil, All-cons, All-append}
use Rattle.lop_cuts.specs.declared.kind.CutKind.{CutKind}
use Rattle.lop_cuts.specs.Kind.{IsCut, FitsCut}
use Rattle.lop_cuts.specs.CutList.{BoundedCuts}
use Rattle.lop_cuts.specs.Point.{PointValues, IsViolated}
use Rattle.lop_cuts.specs.Separation.{IsViolatedCut, GainsViolated}

-- a cut at a place from start on is one of those from start on
pub stands_at : (cuts : List CutKind) (start i : ℕ) (cut : CutKind) → start ≤ i → i < length cuts → get_or cuts i cut ≡ cut → Contains (drop start cuts) cut
stands_at cuts start i cut from below e =
    let place : start + (i - start) ≡ i = omega arith in
    (i - start, omega (arith, length-drop start cuts), get_or-drop start cuts (i - start) cut ∙ ap (λ k. get_or cuts k cut) place ∙ e)

-- a cut that stands at no place from start on is none of those
pub stands_nowhere : (cuts : List CutKind) (start : ℕ) (cut : CutKind) → ((k : ℕ) (d : CutKind) → start ≤ k → k < length cuts → get_or cuts k d ≡ cut → ⊥) → ¬ Contains (drop start cuts) cut
stands_nowhere cuts start cut none (k, l, e) =
    none (start + k) cut (omega arith) (omega (arith, l, length-drop start cuts)) (sym (get_or-drop start cuts k cut) ∙ e)

-- nothing is appended
pub gains_none : (p : PointValues) (l : BoundedCuts) → GainsViolated p l l
gains_none p l = record {
  more = [];
  list = ap (λ (xs : List CutKind). record { cuts = xs; room = l.room }) (sym (append-nil l.cuts));
  each = All-nil (IsViolatedCut p);
}

-- one cut is appended
pub gains_one : (p : PointValues) (old new : BoundedCuts) (cut : CutKind) → IsCut cut → FitsCut p.size cut → IsViolated p cut → new ≡ record { cuts = old.cuts ++ cut ∷ []; room = old.room } → GainsViolated p old new
gains_one p old new cut is fits violated e = record {
  more = cut ∷ [];
  list = e;
  each = All-cons (IsViolatedCut p) cut [] (record { cut = is; fits = fits; violated = violated }) (All-nil (IsViolatedCut p));
}

-- more is appended after some
pub gains_then : (p : PointValues) (old mid new : BoundedCuts) → GainsViolated p old mid → GainsViolated p mid new → GainsViolated p old new
gains_then p old mid new first second = record {
  more = first.more ++ second.more;
  list = second.list
      ∙ ap (λ (l : BoundedCuts). record { cuts = l.cuts ++ second.more; room = l.room }) first.list
      ∙ ap (λ (xs : List CutKind). record { cuts = xs; room = old.room }) (append_assoc old.cuts first.more second.more);
  each = All-append (IsViolatedCut p) first.more second.more first.each second.each;
}

-- ---- what a caller reads

cuts_of : (p : PointValues) (old new : BoundedCuts) (g : GainsViolated p old new) → new.cuts ≡ old.cuts ++ g.more
cuts_of p old new g = ap (λ (l : BoundedCuts). l.cuts) g.list

pub gains_length : (p : PointValues) (old new : BoundedCuts) → GainsViolated p old new → length old.cuts ≤ length new.cuts
gains_length p old new g = omega (arith, ap length (cuts_of p old new g), length-append old.cuts g.more)

pub gains_front : (p : PointValues) (old new : BoundedCuts) → GainsViolated p old new → take (length old.cuts) new.cuts ≡ old.cuts
gains_front p old new g =
    ap (λ (xs : List CutKind). take (length old.cuts) xs) (cuts_of p old new g)
    ∙ take-append-le (length old.cuts) old.cuts g.more (omega arith)
    ∙ take_all (length old.cuts) old.cuts (omega arith)

pub gains_room : (p : PointValues) (old new : BoundedCuts) → GainsViolated p old new → new.room ≡ old.room
gains_room p old new g = ap (λ (l : BoundedCuts). l.room) g.list

-- the cuts behind the old ones are violated ones
gains_each : (p : PointValues) (old new : BoundedCuts) → GainsViolated p old new → AllWithin (IsViolatedCut p) new.cuts (length old.cuts) (length new.cuts)
gains_each p old new g k d from below =
    let place : k - length old.cuts < length g.more = omega (arith, ap length (cuts_of p old new g), length-append old.cuts g.more) in
    subst (IsViolatedCut p) (sym (ap (λ xs. get_or xs k d) (cuts_of p old new g) ∙ get_or-append_right old.cuts g.more (length old.cuts) k d refl from)) (g.each (k - length old.cuts) d place)

pub gains_cuts : (p : PointValues) (old new : BoundedCuts) → GainsViolated p old new → AllWithin IsCut new.cuts (length old.cuts) (length new.cuts)
gains_cuts p old new g k d from below = (gains_each p old new g k d from below).cut

pub gains_fit : (p : PointValues) (old new : BoundedCuts) → GainsViolated p old new → AllWithin (FitsCut p.size) new.cuts (length old.cuts) (length new.cuts)
gains_fit p old new g k d from below = (gains_each p old new g k d from below).fits

pub gains_violated : (p : PointValues) (old new : BoundedCuts) → GainsViolated p old new → AllWithin (IsViolated p) new.cuts (length old.cuts) (length new.cuts)
gains_violated p old new g k d from below = (gains_each p old new g k d from below).violated
