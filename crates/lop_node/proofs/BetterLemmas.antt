-- A sound result of an open node stays sound under a lower bound that a record shows, another undecided pair and another order.
use Rattle.std.proofs.Common.{false, ◌≡◌, ℕ, List, refl, sym, subst, Some, ℤ, pos, ◌+ℤ◌, ◌*ℤ◌, ◌≤ℤ◌, ◌<ℤ◌, arith}
use Rattle.std.specs.Prelude.{◌↔◌, int_le}
use Rattle.std.proofs.lemmas.Int.{ints}
use Rattle.lop_model.specs.declared.pair.Pair.{Pair}
use Rattle.lop_model.specs.Order.{IsOrder}
use Rattle.lop_model.specs.Matrix.{Matrix, weight}
use Rattle.lop_model.specs.Fixings.{IsClosure, IsUndecided}
use Rattle.lop_model.proofs.ClosureLemmas.{IsUndecided-closure}
use Rattle.lop_leaf.specs.Record.{ScaledTerms, HasCutsBelow}
use Rattle.lop_leaf.specs.Bound.{record_value, IsQuotient}
use Rattle.lop_leaf.specs.Packing.{packing_bound}
use Rattle.lop_leaf.specs.Ticket.{TicketFields}
use Rattle.lop_leaf.specs.Evaluated.{EvaluatedFields}
use Rattle.lop_leaf.specs.Sound.{IsSoundResult}
use Rattle.lop_cuts.proofs.ClosureUnique.{IsClosure-unique}
use Rattle.lop_node.proofs.SoundLemmas.{quotient_of}

less : (a b c : ℤ) → a ≤ℤ b → b ≤ℤ c → a ≤ℤ c
less a b c h k = omega (arith, ints)

each : (path G : List Pair) (P : List Pair → Type 0) → IsClosure path G → P G → (H : List Pair) → IsClosure path H → P H
each path G P c h H d = subst P (IsClosure-unique path G H c d) h

better : (C : Matrix) (t : TicketFields) (old : EvaluatedFields) (G : List Pair) (bound : ℤ) (p : Pair) (shown : ScaledTerms) (s : List ℕ) → IsSoundResult C t old → IsClosure t.path G → IsUndecided C.size G p.before p.after → HasCutsBelow C.size shown.terms → IsQuotient (record_value C G shown) shown.scale bound → bound ≤ℤ old.bound → IsOrder C.size s
    → IsSoundResult C t (record { node = old.node; bound = bound; pair = Some p; shown = shown; order = s; value = weight C s })
better C t old G bound p shown s sound c undecided cuts quotient no_more order = record {
  node = sound.node;
  cuts = cuts;
  bound = each t.path G (λ H. IsQuotient (record_value C H shown) shown.scale bound) c quotient;
  no_more = less bound old.bound t.bound no_more sound.no_more;
  packed = λ H d. less bound old.bound (packing_bound C H) no_more (sound.packed H d);
  order = order;
  value = refl;
  undecided = IsUndecided-closure C.size t.path G p.before p.after c undecided;
  all_decided = tt;
}

-- a result as it was put
pub put_shown : (C : Matrix) (t : TicketFields) (old new : EvaluatedFields) (G : List Pair) (bound : ℤ) (p : Pair) (shown : ScaledTerms) (node : ℕ) (bound' : ℤ) (shown' : ScaledTerms) (s : List ℕ) → new ≡ record { node = node; bound = bound'; pair = Some p; shown = shown'; order = s; value = weight C s }
    → node ≡ old.node → bound' ≡ bound → shown' ≡ shown → IsSoundResult C t old → IsClosure t.path G → IsUndecided C.size G p.before p.after → HasCutsBelow C.size shown.terms → IsQuotient (record_value C G shown) shown.scale bound → bound ≤ℤ old.bound → IsOrder C.size s → IsSoundResult C t new
put_shown C t old new G bound p shown node bound' shown' s e en eb es sound c undecided cuts quotient no_more order =
    rw (e, en, eb, es) (better C t old G bound p shown s sound c undecided cuts quotient no_more order)

pub not_above : (x y u v : ℤ) → int_le x y ≡ false → x ≡ u → y ≡ v → v ≤ℤ u
not_above x y u v t e f = let l : y ≤ℤ x = grind (arith, ints) in rw (sym e, sym f) l

pub itself : (a : ℤ) → a ≤ℤ a
itself a = omega (arith, ints)

-- a quotient that is rounded down
pub quotient_alone : (u v : ℤ) (scale scale' : ℕ) (q q' : ℤ) → u ≡ v → scale ≡ scale' → q' ≡ q → ((x : ℤ) → ((pos scale *ℤ x) ≤ℤ u) ↔ (x ≤ℤ q)) → u <ℤ (pos scale *ℤ (q +ℤ pos 1)) → IsQuotient v scale' q'
quotient_alone u v scale scale' q q' e f g greatest next =
    let here : v <ℤ (pos scale' *ℤ (q +ℤ pos 1)) = rw (sym e, sym f) next in
    (quotient_of u v scale scale' q q' q e f g greatest next here).0
