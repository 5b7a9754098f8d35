-- The terms of a line, and what they charge.
use Rattle.std.proofs.Common.{◌≡◌, ℕ, zero, suc, ◌+◌, ◌-◌, ◌*◌, ◌^◌, ◌<◌, ◌≤◌, Bool, true, false, List, [], ◌∷◌, length, take, get_or, nat_abs, refl, sym, ◌∙◌, ap, subst, ℤ, pos, arith}
use Rattle.std.specs.List.{All, IsDistinct}
use Rattle.std.proofs.Math.Nat.{mul-le-mul_left}
use Rattle.std.proofs.lemmas.List.{get_or-map, length-map}
use Rattle.std.proofs.lemmas.List.Elements.{All-get_or}
use Rattle.lop_model.specs.declared.pair.Pair.{Pair}
use Rattle.lop_cuts.specs.declared.kind.CutKind.{CutKind}
use Rattle.lop_cuts.specs.declared.kind.CutKind.TheVariants as kind
use Rattle.lop_cuts.specs.Arcs.{same_arc}
use Rattle.lop_cuts.specs.Kind.{IsCut, right_side_of, arcs_of}
use Rattle.lop_cuts.specs.Lagrangian.{Term, charge, right_sides}
use Rattle.lop_cuts.proofs.ArcLemmas.{times, times-distinct, has_arc}
use Rattle.lop_cuts.proofs.CycleLemmas.{one_if}
use Rattle.lop_cuts.proofs.LagrangianLemmas.{charge_more}
use Rattle.lop_certtext.specs.RecordLine.{CutTerm, are_rising, terms_of, cut_at, terms_in}
use Rattle.lop_certtext.proofs.TreeBounds.{IsNumbered, numbered-rising}
use Rattle.lop_model.specs.Cells.{cell}
use Rattle.lop_cuts.specs.Charges.{arc_count, HasCharges}
use Rattle.lop_cuts.proofs.ChargeLemmas.{right_side_more}

-- a multiplier times a right side of at most 64
pub side-le : (m k : ℕ) → m ≤ 2 ^ 63 → k ≤ 64 → m * k ≤ 2 ^ 69
side-le m k h l =
    let by_side : m * k ≤ m * 64 = mul-le-mul_left m l in
    omega (arith)

-- what is charged once at most
times_one_if : (m : ℕ) (b : Bool) → m * one_if b ≤ m
times_one_if m true = omega arith
times_one_if m false = omega arith

pub once-le : (m : ℕ) (a : Pair) (arcs : List Pair) → IsDistinct same_arc arcs → m * times a arcs ≤ m
once-le m a arcs distinct = rw (times-distinct a arcs distinct) (times_one_if m (has_arc arcs a))

-- ---- the terms of a line

-- a term by its two numbers
pub term_at : (ns : List ℤ) (told i : ℕ) (d : CutTerm) → length ns ≡ 2 * told → i < told → get_or (terms_of ns) i d ≡ record { cut = nat_abs (get_or ns (2 * i) (pos 0)); multiplier = nat_abs (get_or ns (2 * i + 1) (pos 0)) }
term_at [] told i d size l = absurd (omega arith)
term_at (r ∷ []) told i d size l = absurd (omega arith)
term_at (r ∷ m ∷ ns) told zero d size l = refl
term_at (r ∷ m ∷ ns) told (suc i) d size l =
    let first : 2 * suc i ≡ suc (suc (2 * i)) = omega arith in
    let second : 2 * suc i + 1 ≡ suc (suc (2 * i + 1)) = omega arith in
    term_at ns (told - 1) i d (omega arith) (omega arith)
    ∙ ap (λ (k : ℕ). record { cut = nat_abs (get_or (r ∷ m ∷ ns) k (pos 0)); multiplier = nat_abs (get_or ns (2 * i + 1) (pos 0)) }) (sym first)
    ∙ ap (λ (k : ℕ). record { cut = nat_abs (get_or (r ∷ m ∷ ns) (2 * suc i) (pos 0)); multiplier = nat_abs (get_or (r ∷ m ∷ ns) k (pos 0)) }) (sym second)

pub length-terms_of : (ns : List ℤ) (told : ℕ) → length ns ≡ 2 * told → length (terms_of ns) ≡ told
length-terms_of [] told size = omega arith
length-terms_of (r ∷ []) told size = absurd (omega arith)
length-terms_of (r ∷ m ∷ ns) told size = omega (arith, length-terms_of ns (told - 1) (omega arith))

-- the cut and the multiplier of a term
pub record IsTermAt (cuts : List CutKind) (ns : List ℤ) (i : ℕ) (d : Term) : Type 0 where
  pub within : i < length (terms_in cuts (terms_of ns))
  pub is : get_or (terms_in cuts (terms_of ns)) i d ≡ record { cut = get_or cuts (nat_abs (get_or ns (2 * i) (pos 0)) - 1) (kind.Dicycle []); multiplier = nat_abs (get_or ns (2 * i + 1) (pos 0)) }
  pub numbered : (0 < nat_abs (get_or ns (2 * i) (pos 0))) × (nat_abs (get_or ns (2 * i) (pos 0)) ≤ length cuts)

pub term_is : (cuts : List CutKind) (ns : List ℤ) (told i : ℕ) (d : Term) → length ns ≡ 2 * told → i < told → are_rising 0 (length cuts) (terms_of ns) ≡ true → IsTermAt cuts ns i d
term_is cuts ns told i d size l rising =
    let e : CutTerm = record { cut = 0; multiplier = 0 } in
    let f : CutTerm → Term = λ t. record { cut = cut_at cuts t.cut; multiplier = t.multiplier } in
    let inside : i < length (terms_of ns) = omega (arith, length-terms_of ns told size) in
    let at = term_at ns told i e size l in
    let n : IsNumbered (length cuts) (get_or (terms_of ns) i e) = numbered-rising 0 (length cuts) (terms_of ns) rising i e inside in
    record {
      within = omega (arith, length-map (terms_of ns) f);
      is = get_or-map f (terms_of ns) i e d inside ∙ ap f at;
      numbered = (omega (arith, n.0, ap (λ (t : CutTerm). t.cut) at), omega (arith, n.1, ap (λ (t : CutTerm). t.cut) at));
    }

-- the number of a term's cut
pub cut_number : (ns : List ℤ) (count i : ℕ) → 2 * i + 1 < length ns → are_rising 0 count (terms_of ns) ≡ true → (0 < nat_abs (get_or ns (2 * i) (pos 0))) × (nat_abs (get_or ns (2 * i) (pos 0)) ≤ count)
cut_number ns count i l rising = go ns i l (numbered-rising 0 count (terms_of ns) rising)
  where
    go : (ns : List ℤ) (i : ℕ) → 2 * i + 1 < length ns → All (IsNumbered count) (terms_of ns) → (0 < nat_abs (get_or ns (2 * i) (pos 0))) × (nat_abs (get_or ns (2 * i) (pos 0)) ≤ count)
    go [] i l h = absurd (omega arith)
    go (r ∷ []) i l h = absurd (omega arith)
    go (r ∷ m ∷ ns) zero l h = let n = h 0 (record { cut = nat_abs r; multiplier = nat_abs m }) (omega arith) in (n.0, n.1)
    go (r ∷ m ∷ ns) (suc i) l h =
        let first : suc (suc (2 * i)) ≡ 2 * suc i = omega arith in
        let rest = go ns i (omega arith) (λ k d b. h (suc k) d (omega arith)) in
        let at : get_or ns (2 * i) (pos 0) ≡ get_or (r ∷ m ∷ ns) (2 * suc i) (pos 0) = ap (λ (k : ℕ). get_or (r ∷ m ∷ ns) k (pos 0)) first in
        (omega (arith, rest.0, ap nat_abs at), omega (arith, rest.1, ap nat_abs at))

-- ---- one more term of a line

module _ (cuts : List CutKind) (ns : List ℤ) (told i : ℕ) (size : length ns ≡ 2 * told) where
  abbrev terms : List Term
  terms = terms_in cuts (terms_of ns)

  module _ (less : i < told) (rising : are_rising 0 (length cuts) (terms_of ns) ≡ true) (right : All IsCut cuts) (cut : CutKind) (m place : ℕ)
      (place_is : place ≡ nat_abs (get_or ns (2 * i) (pos 0)) - 1) (cut_is : (d : CutKind) → cut ≡ get_or cuts place d) (m_is : m ≡ nat_abs (get_or ns (2 * i + 1) (pos 0))) where
    abbrev none : Term
    none = record { cut = kind.Dicycle []; multiplier = 0 }

    term : IsTermAt cuts ns i none
    term = term_is cuts ns told i none size less rising

    its_cut : (get_or terms i none).cut ≡ cut
    its_cut = ap (λ (t : Term). t.cut) term.is ∙ ap (λ (k : ℕ). get_or cuts k (kind.Dicycle [])) (sym place_is) ∙ sym (cut_is (kind.Dicycle []))

    its_multiplier : (get_or terms i none).multiplier ≡ m
    its_multiplier = ap (λ (t : Term). t.multiplier) term.is ∙ sym m_is

    its_right : IsCut (get_or terms i none).cut
    its_right = subst (λ (c : CutKind). IsCut c) (sym (its_cut ∙ cut_is (kind.Dicycle []))) (All-get_or IsCut cuts place (kind.Dicycle []) (omega (arith, place_is, term.numbered.0, term.numbered.1)) right)

    pub charged_more : (n : ℕ) (old new : List ℕ) → length new ≡ length old → HasCharges n (take i terms) old → ((a b : ℕ) → a < n → b < n → cell new n a b ≡ cell old n a b + m * arc_count a b (arcs_of cut)) → HasCharges n (take (i + 1) terms) new
    charged_more n old new same was each = record {
      square = same ∙ was.square;
      each = λ a b l k.
          each a b l k
          ∙ ap (λ x. x + m * arc_count a b (arcs_of cut)) (was.each a b l k)
          ∙ ap (λ x. charge (take i terms) a b + x * arc_count a b (arcs_of cut)) (sym its_multiplier)
          ∙ ap (λ (c : CutKind). charge (take i terms) a b + (get_or terms i none).multiplier * arc_count a b (arcs_of c)) (sym its_cut)
          ∙ sym (charge_more terms i none a b term.within its_right);
    }

    pub sides_more : (sides side : ℕ) → sides ≡ right_sides (take i terms) → side ≡ m * right_side_of cut → sides + side ≡ right_sides (take (i + 1) terms)
    sides_more sides side was is =
        ap (λ x. x + side) was
        ∙ ap (λ x. right_sides (take i terms) + x) (is ∙ ap (λ x. x * right_side_of cut) (sym its_multiplier) ∙ ap (λ (c : CutKind). (get_or terms i none).multiplier * right_side_of c) (sym its_cut))
        ∙ sym (right_side_more terms i none term.within)
