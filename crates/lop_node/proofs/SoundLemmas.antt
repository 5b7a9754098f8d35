-- What makes a result sound: a bound under the closure of the path, and the least undecided pair or an order that extends the path.
use Rattle.std.proofs.Common.{◌≡◌, ◌≢◌, ℕ, ◌<◌, List, [], length, refl, sym, ◌∙◌, ap, subst, inl, inr, Some, None, ℤ, pos, ◌+ℤ◌, ◌*ℤ◌, ◌≤ℤ◌, ◌<ℤ◌, rules, arith}
use Rattle.std.specs.Prelude.{◌↔◌, take, slice_index_or, Result, Ok, Err, IfErr, IsOk}
use Rattle.std.specs.List.{All}
use Rattle.std.proofs.Math.IntN.{suc_ℤ-*ℤ, zero-*ℤ}
use Rattle.std.proofs.lemmas.Int.{ints}
use Rattle.lop_model.specs.declared.pair.Pair.{Pair}
use Rattle.lop_model.specs.Order.{IsOrder}
use Rattle.lop_model.specs.Matrix.{Matrix, weight}
use Rattle.lop_model.specs.Fixings.{IsClosure, IsDecided, IsBranchingPath, IsLinearExtension, AreAllDecided}
use Rattle.lop_model.proofs.FixingsLemmas.{IsLinearExtension-from_closure}
use Rattle.lop_model.proofs.ClosureLemmas.{IsClosure-itself, IsUndecided-closure}
use Rattle.lop_fix.specs.declared.fixings.PathFault.{PathFault}
use Rattle.lop_fix.specs.declared.fixings.PathFault.TheVariants.{Decided}
use Rattle.lop_fix.specs.Answers.{IsPathFault}
use Rattle.lop_fix.specs.PartialOrder.{FixedPairs, IsPartialOrder, IsFirstUndecided}
use Rattle.lop_leaf.specs.Record.{ScaledTerms, no_terms, HasCutsBelow}
use Rattle.lop_leaf.specs.Bound.{record_value, IsQuotient}
use Rattle.lop_leaf.specs.Packing.{packing_bound}
use Rattle.lop_leaf.specs.Ticket.{TicketFields}
use Rattle.lop_leaf.specs.Evaluated.{EvaluatedFields}
use Rattle.lop_leaf.specs.Sound.{IsSoundTicket, IsSoundResult}
use Rattle.lop_leaf.proofs.QuotientLemmas.{scaled_down}
use Rattle.lop_leaf.proofs.FallLemmas.{weight-decided}
use Rattle.lop_leaf.proofs.PathLemmas.{IsPartialOrder-closure, weight-le-certified_under}
use Rattle.lop_cuts.proofs.ClosureUnique.{IsClosure-unique}
use Rattle.lop_node.specs.Judged.{IsPackJudged}

-- the pairs of a branching path are of two objects each
pub path_objects : (n : ℕ) (path : List Pair) → IsBranchingPath n path → All (λ p. (p.before < n) × (p.after < n) × (p.before ≢ p.after)) path
path_objects n path h k d l = let u = h.each k d l in (u.first, u.second, u.differ)

-- no pair of a branching path is decided by those before it
pub undecided_at : (n : ℕ) (path : List Pair) (k : ℕ) → IsBranchingPath n path → k < length path → ((p : Pair) → IsDecided (take k path) (slice_index_or path k p).before (slice_index_or path k p).after) → (d : Pair) → ⊥
undecided_at n path k h l decided d = let u = h.each k d l in elim (decided d) [ inl t ↦ u.not_before t | inr t ↦ u.not_after t ]

-- what holds under one closure of the path holds under each
each_closure : (path G : List Pair) (P : List Pair → Type 0) → IsClosure path G → P G → (H : List Pair) → IsClosure path H → P H
each_closure path G P c h H d = subst P (IsClosure-unique path G H c d) h

-- ---- a pair is left

pub sound_open : (C : Matrix) (t : TicketFields) (G : List Pair) (bound : ℤ) (shown : ScaledTerms) (p : Pair) (s : List ℕ) (value : ℤ) → IsClosure t.path G → HasCutsBelow C.size shown.terms → IsQuotient (record_value C G shown) shown.scale bound → bound ≤ℤ t.bound → bound ≤ℤ packing_bound C G
    → IsOrder C.size s → value ≡ weight C s → IsFirstUndecided C.size G p.before p.after → IsSoundResult C t (record { node = t.node; bound = bound; pair = Some p; shown = shown; order = s; value = value })
sound_open C t G bound shown p s value c cuts quotient no_more packed order is first = record {
  node = refl;
  cuts = cuts;
  bound = each_closure t.path G (λ H. IsQuotient (record_value C H shown) shown.scale bound) c quotient;
  no_more = no_more;
  packed = each_closure t.path G (λ H. bound ≤ℤ packing_bound C H) c packed;
  order = order;
  value = is;
  undecided = IsUndecided-closure C.size t.path G p.before p.after c first.undecided;
  all_decided = tt;
}

pub judged_open : (C : Matrix) (path G : List Pair) (bound : ℤ) (p : Pair) (value : ℤ) → IsClosure path G → bound ≤ℤ packing_bound C G → IsFirstUndecided C.size G p.before p.after → IsPackJudged C path bound (Some p) value
judged_open C path G bound p value c packed first = record {
  packed = each_closure path G (λ H. bound ≤ℤ packing_bound C H) c packed;
  first = each_closure path G (λ H. IsFirstUndecided C.size H p.before p.after) c first;
  none = λ H d. tt;
}

-- ---- all pairs are decided

all_decided : (n : ℕ) (F G : List Pair) → IsClosure F G → AreAllDecided n G → AreAllDecided n F
all_decided n F G c h = record {
  each = λ a b l m. elim (h.each a b l m) [
    | inl r ↦ inl ((c.each a b).0 (((IsClosure-itself F G c).each a b).1 r))
    | inr r ↦ inr ((c.each b a).0 (((IsClosure-itself F G c).each b a).1 r))
  ];
}

pub once : (x : ℤ) → pos 1 *ℤ x ≡ x
once x =
    let one : pos 1 *ℤ x ≡ pos 0 *ℤ x +ℤ x = suc_ℤ-*ℤ (pos 0) x in
    omega (arith, ints, zero-*ℤ x)

pub quotient_once : (u value : ℤ) → pos 1 *ℤ value ≡ u → IsQuotient u 1 value
quotient_once u value e = record {
  within = let a = once value in omega (arith, ints, a);
  next = let a = once value in let b = once (value +ℤ pos 1) in omega (arith, ints, a, b);
}

pub sound_decided : (C : Matrix) (t : TicketFields) (G : List Pair) (s : List ℕ) (value : ℤ) → IsSoundTicket C t → IsClosure t.path G → AreAllDecided C.size G → IsOrder C.size s → IsLinearExtension s G → value ≡ weight C s → weight C s ≤ℤ packing_bound C G
    → IsSoundResult C t (record { node = t.node; bound = value; pair = None; shown = no_terms; order = s; value = value })
sound_decided C t G s value ticket c all order extends is packed =
    let partial : IsPartialOrder (record { size = C.size; pairs = G }) = IsPartialOrder-closure C.size t.path G ticket.branching c in
    let on_path : IsLinearExtension s t.path = IsLinearExtension-from_closure s t.path G c extends in
    let exact : pos 1 *ℤ value ≡ record_value C G no_terms = ap (λ x. pos 1 *ℤ x) is ∙ weight-decided C (record { size = C.size; pairs = G }) 1 [] s partial all refl order extends in
    let most : weight C s ≤ℤ t.bound = weight-le-certified_under C t.path t.inherited t.bound s ticket.branching ticket.cuts ticket.certified order on_path in
    record {
      node = refl;
      cuts = record { cuts = λ k d l. absurd (omega arith); fit = λ k d l. absurd (omega arith) };
      bound = each_closure t.path G (λ H. IsQuotient (record_value C H no_terms) 1 value) c (quotient_once (record_value C G no_terms) value exact);
      no_more = rw is most;
      packed = each_closure t.path G (λ H. value ≤ℤ packing_bound C H) c (rw is packed);
      order = order;
      value = is;
      undecided = tt;
      all_decided = record {
        decided = all_decided C.size t.path G c all;
        shown = refl;
        extends = on_path;
        exact = refl;
      };
    }

pub judged_decided : (C : Matrix) (path G : List Pair) (s : List ℕ) (value : ℤ) → IsClosure path G → AreAllDecided C.size G → value ≡ weight C s → weight C s ≤ℤ packing_bound C G → IsPackJudged C path value None value
judged_decided C path G s value c all is packed = record {
  packed = each_closure path G (λ H. value ≤ℤ packing_bound C H) c (rw is packed);
  first = λ H d. tt;
  none = each_closure path G (λ H. AreAllDecided C.size H) c all;
}

-- ---- the steps of a judge

-- fixing a branching path has no fault
pub fixes : (n : ℕ) (path G : List Pair) (r : Result Unit PathFault) → IfErr r (IsPathFault n path G) → IsBranchingPath n path → IsOk r
fixes n path G (Ok u) h branching = search rules
fixes n path G (Err (Decided k)) h branching = absurd (undecided_at n path k branching h.0 h.2 (record { before = 0; after = 0 }))

-- a quotient that is rounded down, of what certifies b, is at most b
pub quotient_of : (u v : ℤ) (scale scale' : ℕ) (q q' b : ℤ) → u ≡ v → scale ≡ scale' → q' ≡ q → ((x : ℤ) → ((pos scale *ℤ x) ≤ℤ u) ↔ (x ≤ℤ q)) → u <ℤ (pos scale *ℤ (q +ℤ pos 1)) → v <ℤ (pos scale' *ℤ (b +ℤ pos 1)) → IsQuotient v scale' q' × (q' ≤ℤ b)
quotient_of u v scale scale' q q' b e f g greatest next certified =
    let within : (pos scale *ℤ q) ≤ℤ u = (greatest q).1 (omega (arith, ints)) in
    let here : u <ℤ (pos scale *ℤ (b +ℤ pos 1)) = rw (e, f) certified in
    rw (g, sym e, sym f) (record { within = within; next = next }, scaled_down scale q u b within here)

-- a result as it was put, where all pairs are decided
pub put_decided : (C : Matrix) (t : TicketFields) (f : FixedPairs) (s : List ℕ) (packed : ℤ) (r : EvaluatedFields) (node : ℕ) (bound value : ℤ) (shown : ScaledTerms) → r ≡ record { node = node; bound = bound; pair = None; shown = shown; order = s; value = value }
    → node ≡ t.node → shown ≡ no_terms → bound ≡ weight C s → value ≡ weight C s → f.size ≡ C.size → IsSoundTicket C t → IsClosure t.path f.pairs → AreAllDecided f.size f.pairs → IsOrder f.size s → IsLinearExtension s f.pairs → packed ≡ packing_bound C f.pairs → weight C s ≤ℤ packed
    → IsSoundResult C t r × IsPackJudged C t.path r.bound r.pair r.value
put_decided C t f s packed r node bound value shown e en es eb ev size ticket c all order extends ep most =
    let decided : AreAllDecided C.size f.pairs = subst (λ n. AreAllDecided n f.pairs) size all in
    let orders : IsOrder C.size s = subst (λ n. IsOrder n s) size order in
    let within : weight C s ≤ℤ packing_bound C f.pairs = rw (sym ep) most in
    rw (e, en, es, eb, ev) (sound_decided C t f.pairs s (weight C s) ticket c decided orders extends refl within, judged_decided C t.path f.pairs s (weight C s) c decided refl within)

-- a result as it was put, where a pair is left
pub put_open : (C : Matrix) (t : TicketFields) (f : FixedPairs) (s : List ℕ) (p : Pair) (packed b : ℤ) (record_shown : ScaledTerms) (r : EvaluatedFields) (node : ℕ) (bound value : ℤ) (shown : ScaledTerms) → r ≡ record { node = node; bound = bound; pair = Some p; shown = shown; order = s; value = value }
    → node ≡ t.node → shown ≡ record_shown → bound ≡ b → value ≡ weight C s → f.size ≡ C.size → IsClosure t.path f.pairs → IsFirstUndecided f.size f.pairs p.before p.after → IsOrder f.size s
    → HasCutsBelow C.size record_shown.terms → IsQuotient (record_value C f.pairs record_shown) record_shown.scale b → b ≤ℤ t.bound → packed ≡ packing_bound C f.pairs → b ≤ℤ packed
    → IsSoundResult C t r × IsPackJudged C t.path r.bound r.pair r.value
put_open C t f s p packed b record_shown r node bound value shown e en es eb ev size c first order cuts quotient no_more ep most =
    let firsts : IsFirstUndecided C.size f.pairs p.before p.after = subst (λ n. IsFirstUndecided n f.pairs p.before p.after) size first in
    let orders : IsOrder C.size s = subst (λ n. IsOrder n s) size order in
    let within : b ≤ℤ packing_bound C f.pairs = rw (sym ep) most in
    rw (e, en, es, eb, ev) (sound_open C t f.pairs b record_shown p s (weight C s) c cuts quotient no_more within orders refl firsts, judged_open C t.path f.pairs b p (weight C s) c within firsts)
