-- A lawful journal's replay has at most 2 * n! - 1 nodes.
use Rattle.std.proofs.Common.{◌≡◌, ℕ, ◌+◌, ◌*◌, ◌<◌, ◌≤◌, List, [], ◌∷◌, length, inl, inr, arith, sym, refl, ap, subst, suc, zero, Bool, true, false, cond, eqb, ◌||◌, eq-eqb}
use Rattle.std.specs.List.{list_any}
use Rattle.std.proofs.lemmas.Map.Steps.{le-length_from_below}
use Rattle.std.proofs.lemmas.List.Sums.{sum_by-cons}
use Rattle.std.proofs.lemmas.Option.{slice_get_within}
use Rattle.lop_model.specs.Order.{IsOrder}
use Rattle.lop_model.specs.Fixings.{IsLinearExtension}
use Rattle.lop_core.specs.AllOrders.{factorial}
use Rattle.lop_core.specs.declared.node.SearchNode.{SearchNode}
use Rattle.lop_core.specs.declared.journal.Entry.{Entry}
use Rattle.lop_core.specs.Tree.{path_of, is_split, IsOpen, IsCoveredOnce, split_count}
use Rattle.lop_core.specs.Machine.{Problem, SearchState}
use Rattle.lop_core.specs.Journal.{replay, IsLawfulJournal}
use Rattle.lop_core.specs.Core.{CoreFields, HasHistory}
use Rattle.lop_core.proofs.Replay.{sound_replay}
use Rattle.lop_core.proofs.Extensions.{extension_of}
use Rattle.lop_core.proofs.OrderCount.{HasOrder, AreOrders, AreAllOrders, all_orders, all_orders_are, length-all_orders}

-- 1 for a node that isn't split
abbrev pub open_one : Bool → ℕ
open_one true = 0
open_one false = 1

abbrev pub open_count : List SearchNode → ℕ
open_count [] = 0
open_count (m ∷ nodes) = open_one (is_split m.standing) + open_count nodes

-- how many open nodes stand before i
abbrev pub rank : List SearchNode → ℕ → ℕ
rank [] i = 0
rank (m ∷ nodes) zero = 0
rank (m ∷ nodes) (suc i) = open_one (is_split m.standing) + rank nodes i

open_and_split : (nodes : List SearchNode) → open_count nodes + split_count nodes ≡ length nodes
open_and_split [] = refl
open_and_split (m ∷ nodes) =
    let e : split_count (m ∷ nodes) ≡ cond (is_split m.standing) 1 0 + split_count nodes = sum_by-cons (λ (x : SearchNode). cond (is_split x.standing) 1 0) m nodes in
    let i = open_and_split nodes in
    let b : open_one (is_split m.standing) + cond (is_split m.standing) 1 0 ≡ 1 = one (is_split m.standing) in
    omega arith
  where
    one : (b : Bool) → open_one b + cond b 1 0 ≡ 1
    one true = refl
    one false = refl

module _ (m : SearchNode) (nodes : List SearchNode) (rest : (q : ℕ) → q < open_count nodes → (i : ℕ) × IsOpen nodes i × (rank nodes i ≡ q)) where
  ranked_open : is_split m.standing ≡ false → (q : ℕ) → q < 1 + open_count nodes → (i : ℕ) × IsOpen (m ∷ nodes) i × (rank (m ∷ nodes) i ≡ q)
  ranked_open f zero h = (0, record { it = m; is_there = refl; unsplit = f }, refl)
  ranked_open f (suc q) h =
      let r = rest q (omega arith) in
      let e : open_one (is_split m.standing) ≡ 1 = ap open_one f in
      (suc r.0, record { it = r.1.it; is_there = r.1.is_there; unsplit = r.1.unsplit }, omega (arith, r.2))

  ranked_first : (b : Bool) → is_split m.standing ≡ b → (q : ℕ) → q < open_one (is_split m.standing) + open_count nodes → (i : ℕ) × IsOpen (m ∷ nodes) i × (rank (m ∷ nodes) i ≡ q)
  ranked_first true t q h =
      let e : open_one (is_split m.standing) ≡ 0 = ap open_one t in
      let r = rest q (omega arith) in
      (suc r.0, record { it = r.1.it; is_there = r.1.is_there; unsplit = r.1.unsplit }, omega (arith, r.2))
  ranked_first false f q h =
      let e : open_one (is_split m.standing) ≡ 1 = ap open_one f in
      ranked_open f q (omega arith)

-- each number below the count is the rank of an open node
ranked : (nodes : List SearchNode) (q : ℕ) → q < open_count nodes → (i : ℕ) × IsOpen nodes i × (rank nodes i ≡ q)
ranked [] q h = absurd (omega arith)
ranked (m ∷ nodes) q h = ranked_first m nodes (λ p lt. ranked nodes p lt) (is_split m.standing) refl q h

module _ (n : ℕ) (nodes : List SearchNode) (cover : (s : List ℕ) → IsOrder n s → IsCoveredOnce nodes s) where
  -- the rank of the open node of each order
  abbrev ranks : (xs : List (List ℕ)) → AreOrders n xs → List ℕ
  ranks [] os = []
  ranks (s ∷ xs) os = rank nodes (cover s os.0).node ∷ ranks xs os.1

  length-ranks : (xs : List (List ℕ)) (os : AreOrders n xs) → length (ranks xs os) ≡ length xs
  length-ranks [] os = refl
  length-ranks (s ∷ xs) os = ap suc (length-ranks xs os.1)

  or_true : (a b : Bool) → b ≡ true → (a || b) ≡ true
  or_true true b h = refl
  or_true false b h = h

  -- the rank of an open node is among them, if an order extends its path
  has_rank : (i : ℕ) → IsOpen nodes i → (s : List ℕ) → IsLinearExtension s (path_of nodes i) → (xs : List (List ℕ)) (os : AreOrders n xs) → HasOrder xs s → list_any (eqb (rank nodes i)) (ranks xs os) ≡ true
  has_rank i o s e [] os h = absurd h
  has_rank i o s e (x ∷ xs) os (inl same) =
      let at : i ≡ (cover x os.0).node = (cover x os.0).only i o (subst (λ (y : List ℕ). IsLinearExtension y (path_of nodes i)) (sym same) e) in
      ap (λ (b : Bool). b || list_any (eqb (rank nodes i)) (ranks xs os.1)) (eq-eqb (rank nodes i) (rank nodes (cover x os.0).node) (ap (rank nodes) at))
  has_rank i o s e (x ∷ xs) os (inr later) = or_true _ _ (has_rank i o s e xs os.1 later)

  open_le : (reach : (i : ℕ) → IsOpen nodes i → (s : List ℕ) × IsOrder n s × IsLinearExtension s (path_of nodes i)) (all : List (List ℕ)) → AreAllOrders n all → open_count nodes ≤ length all
  open_le reach all h =
      let le = le-length_from_below (ranks all h.orders) (open_count nodes)
      (λ q lt.
      let r = ranked nodes q lt in
      let x = reach r.0 r.1 in
      subst (λ (k : ℕ). list_any (eqb k) (ranks all h.orders) ≡ true) r.2 (has_rank r.0 r.1 x.0 x.2 all h.orders (h.every x.0 x.1))) in
      omega (arith, length-ranks all h.orders)

-- there are at most 2 * n! - 1 nodes
pub nodes_factorial : (problem : Problem) (journal : List Entry) → IsLawfulJournal problem journal → length (replay problem journal).nodes + 1 ≤ 2 * factorial problem.weights.size
nodes_factorial problem journal h =
    let n = problem.weights.size in
    let nodes = (replay problem journal).nodes in
    let sound = sound_replay problem journal h in
    let le : open_count nodes ≤ length (all_orders n) = open_le n nodes sound.cover
    (λ i o. extension_of n (path_of nodes i) (sound.lawful i (slice_get_within nodes i o.it o.is_there))) (all_orders n) (all_orders_are n) in
    omega (arith, sound.size, open_and_split nodes, length-all_orders n)

pub core_nodes_factorial : (core : CoreFields) → HasHistory core → length core.state.nodes + 1 ≤ 2 * factorial core.problem.weights.size
core_nodes_factorial core h = subst (λ (s : SearchState). length s.nodes + 1 ≤ 2 * factorial core.problem.weights.size) (sym h.replayed) (nodes_factorial core.problem core.journal h.lawful)
