-- The replay of a lawful journal: sound trees, the cover, the bound, and the counts.
use Rattle.std.proofs.Common.{◌≡◌, ℕ, ◌+◌, ◌*◌, List, [], ◌∷◌, ◌++◌, length, arith, sym, Some, None, Option, refl, ap, subst, suc, zero, Bool, true, false, cond}
use Rattle.std.specs.Prelude.{slice_get, ℤ, ◌≤ℤ◌, int_lt, IfSome, if◌then◌else◌, fold}
use Rattle.std.specs.Int.{int_max}
use Rattle.std.proofs.lemmas.Int.{ints, clamps}
use Rattle.std.proofs.lemmas.Option.{get_or_from_slice_get, same_Some, none-some}
use Rattle.std.proofs.lemmas.List.Sums.{fold_push}
use Rattle.lop_model.specs.declared.pair.Pair.{Pair}
use Rattle.lop_model.specs.Order.{IsOrder}
use Rattle.lop_model.specs.Matrix.{Matrix, weight}
use Rattle.lop_model.specs.Fixings.{IsUndecided, IsBranchingPath}
use Rattle.lop_model.specs.Bound.{pair_bound}
use Rattle.lop_model.proofs.BoundLemmas.{IsUpperBound-pair_bound, IsLinearExtension-none}
use Rattle.lop_core.proofs.Lists.{EachFollows-push, by_following}
use Rattle.lop_core.specs.declared.node.SearchNode.{SearchNode}
use Rattle.lop_core.specs.declared.journal.Entry.{Entry}
use Rattle.lop_core.specs.declared.journal.Entry.TheVariants.{Take, Report}
use Rattle.lop_core.specs.declared.node.Standing.TheVariants.{Idle, Out}
use Rattle.lop_core.specs.Tree.{no_pair, child, node_at, paths, path_of, is_split, IsOpen, IsCoveredOnce, split_count}
use Rattle.lop_core.specs.Machine.{Problem, SearchState, root_state, after, settled, closed, divided, raised_by, state_bound}
use Rattle.lop_core.specs.Journal.{IsPathBound, replay, room_count, MayTake, MayReport, MayFollow, IsLawfulJournal}
use Rattle.lop_model.specs.Attained.{IsAttained}
use Rattle.lop_core.proofs.Sound.{IsSound, sound_changed, sound_divided}

abbrev pub SoundState : Problem → SearchState → Type 0
SoundState problem s = IsSound problem s.nodes s.best

pub replay_push : (problem : Problem) (journal : List Entry) (e : Entry) → replay problem (journal ++ e ∷ []) ≡ after (replay problem journal) e
replay_push problem journal e = fold_push after (root_state problem) journal e

-- the greater of two reached values is reached
pub attained_max : (C : Matrix) (x y : ℤ) → IsAttained C x → IsAttained C y → IsAttained C (int_max x y)
attained_max C x y rx ry = go (int_lt y x) where
  go : (b : Bool) → IsAttained C (cond b x y)
  go true = rx
  go false = ry

root_bounds : (C : Matrix) (bound : ℤ) → IsPathBound C [] bound → (i : ℕ) (m : SearchNode) → slice_get (child 0 no_pair bound ∷ []) i ≡ Some m
    → IsPathBound C (path_of (child 0 no_pair bound ∷ []) i) m.bound
unfolding paths
root_bounds C bound h zero m e = subst (λ (x : SearchNode). IsPathBound C [] x.bound) (same_Some _ m e) h
root_bounds C bound h (suc i) m e = absurd (none-some m e)

root_lawful : (n : ℕ) (root : SearchNode) (i : ℕ) → IsBranchingPath n (path_of (root ∷ []) i)
unfolding paths
root_lawful n root zero = record { each = λ k pair l. absurd (omega arith) }
root_lawful n root (suc i) = record { each = λ k pair l. absurd (omega arith) }

root_only : (root : SearchNode) (other : ℕ) → IsOpen (root ∷ []) other → other ≡ 0
root_only root zero o = refl
root_only root (suc i) o = absurd (none-some o.it o.is_there)

sound_root : (problem : Problem) → IsAttained problem.weights problem.start → SoundState problem (root_state problem)
unfolding paths
sound_root problem start = record {
  rooted = omega arith;
  bounds = root_bounds problem.weights (pair_bound problem.weights []) (λ s o _. (IsUpperBound-pair_bound problem.weights).each s o);
  lawful = λ i h. root_lawful problem.weights.size (child 0 no_pair (pair_bound problem.weights [])) i;
  attained = start;
  cover = λ s o. record {
    node = 0;
    is_open = record { it = child 0 no_pair (pair_bound problem.weights []); is_there = refl; unsplit = refl };
    extends = IsLinearExtension-none s;
    only = λ other there e. root_only (child 0 no_pair (pair_bound problem.weights [])) other there;
  };
  size = refl;
}

pub sound_take : (problem : Problem) (s : SearchState) (worker node : ℕ) → SoundState problem s → MayTake problem s node → SoundState problem (after s (Take worker node))
unfolding after
sound_take problem s worker node sound may =
    let was : is_split may.ready.it.standing ≡ false = ap is_split may.ready.idle in
    let at : node_at s.nodes node ≡ may.ready.it = get_or_from_slice_get s.nodes node may.ready.it _ may.ready.is_there in
    sound_changed problem s.nodes s.best sound node may.ready.it may.ready.is_there was (node_at s.nodes node).bound
    (subst (λ (x : SearchNode). IsPathBound problem.weights (path_of s.nodes node) x.bound) (sym at) (sound.bounds node may.ready.it may.ready.is_there))
    (Out worker) refl s.best sound.attained

sound_settled : (problem : Problem) (s : SearchState) (node : ℕ) (m : SearchNode) → SoundState problem s → slice_get s.nodes node ≡ Some m → is_split m.standing ≡ false
    → (kept best : ℤ) → IsPathBound problem.weights (path_of s.nodes node) kept → IsAttained problem.weights best
    → (pair : Option Pair) → IfSome pair (λ p. IsUndecided problem.weights.size (path_of s.nodes node) p.before p.after) → SoundState problem (settled s node kept best pair)
sound_settled problem s node m sound there was kept best holds reached None u =
    sound_changed problem s.nodes s.best sound node m there was kept holds Idle refl best reached
sound_settled problem s node m sound there was kept best holds reached (Some p) u = go (int_lt best kept) where
  go : (b : Bool) → SoundState problem (if b then divided s node kept best p else closed s node kept best)
  go true = sound_divided problem s.nodes s.best sound node m there was kept holds p u best reached
  go false = sound_changed problem s.nodes s.best sound node m there was kept holds Idle refl best reached

pub sound_report : (problem : Problem) (journal : List Entry) (worker node : ℕ) (bound : ℤ) (pair : Option Pair) (value : ℤ) (room : Bool)
    → SoundState problem (replay problem journal) → MayReport problem (replay problem journal) (room_count journal) worker node bound pair value room
    → SoundState problem (after (replay problem journal) (Report worker node bound pair value room))
unfolding after
sound_report problem journal worker node bound pair value room sound may =
    let s : SearchState = replay problem journal in
    let m : SearchNode = may.is_out.0 in
    let there : slice_get (replay problem journal).nodes node ≡ Some m = may.is_out.1 in
    let was : is_split m.standing ≡ false = ap is_split may.is_out.2 in
    let at : node_at (replay problem journal).nodes node ≡ m = get_or_from_slice_get (replay problem journal).nodes node m _ there in
    let before : IsPathBound problem.weights (path_of (replay problem journal).nodes node) (node_at (replay problem journal).nodes node).bound =
    subst (λ (x : SearchNode). IsPathBound problem.weights (path_of (replay problem journal).nodes node) x.bound) (sym at) (sound.bounds node m there) in
    sound_settled problem (replay problem journal) node m sound there was _ (int_max (replay problem journal).best value)
    (elim room as (λ b. IsPathBound problem.weights (path_of (replay problem journal).nodes node) (if b then bound else (node_at (replay problem journal).nodes node).bound)) [ true ↦ may.holds | false ↦ before ])
    (attained_max problem.weights (replay problem journal).best value sound.attained may.attained)
    pair may.undecided

-- a lawful journal goes on by an entry that may follow
pub IsLawful_push : (problem : Problem) (journal : List Entry) (e : Entry) → IsLawfulJournal problem journal → MayFollow problem journal e → IsLawfulJournal problem (journal ++ e ∷ [])
IsLawful_push problem journal e h may = record {
  start = h.start;
  each = EachFollows-push (MayFollow problem) journal e h.each may;
}

sound_entry : (problem : Problem) (journal : List Entry) (e : Entry) → SoundState problem (replay problem journal) → MayFollow problem journal e → SoundState problem (after (replay problem journal) e)
sound_entry problem journal (Take worker node) sound may = sound_take problem (replay problem journal) worker node sound may
sound_entry problem journal (Report worker node bound pair value room) sound may = sound_report problem journal worker node bound pair value room sound may

-- the state of every lawful journal is sound
pub sound_replay : (problem : Problem) (journal : List Entry) → IsLawfulJournal problem journal → SoundState problem (replay problem journal)
sound_replay problem journal h =
    by_following (MayFollow problem) (λ (j : List Entry). SoundState problem (replay problem j)) (sound_root problem h.start)
    (λ j e lawful sound may. subst (SoundState problem) (sym (replay_push problem j e)) (sound_entry problem j e sound may))
    journal h.each

-- every order extends the path of exactly one node that isn't split
pub covered_once : (problem : Problem) (journal : List Entry) → IsLawfulJournal problem journal → (s : List ℕ) → IsOrder problem.weights.size s → IsCoveredOnce (replay problem journal).nodes s
covered_once problem journal h = (sound_replay problem journal h).cover

-- best is at most the state's bound
pub raised-le : (nodes : List SearchNode) (top : ℤ) → top ≤ℤ fold raised_by top nodes
raised-le [] top = omega (arith, ints)
raised-le (m ∷ nodes) top =
    let rest : raised_by top m ≤ℤ fold raised_by (raised_by top m) nodes = raised-le nodes (raised_by top m) in
    let here : top ≤ℤ raised_by top m = one (is_split m.standing) in
    omega (arith, ints)
  where
    one : (b : Bool) → top ≤ℤ (if b then top else int_max top m.bound)
    one true = omega (arith, ints)
    one false = omega (arith, ints, clamps)

raised_open : (b : Bool) (top bound : ℤ) → b ≡ false → bound ≤ℤ (if b then top else int_max top bound)
raised_open true top bound e = absurd (cc)
raised_open false top bound e = omega (arith, ints, clamps)

-- the bound of each node that isn't split is at most the state's bound
pub raised-each : (nodes : List SearchNode) (top : ℤ) (node : ℕ) (o : IsOpen nodes node) → o.it.bound ≤ℤ fold raised_by top nodes
raised-each [] top node o = absurd (none-some o.it o.is_there)
raised-each (m ∷ nodes) top zero o =
    let same : m ≡ o.it = same_Some m o.it o.is_there in
    let here : o.it.bound ≤ℤ raised_by top m =
    subst (λ (x : SearchNode). o.it.bound ≤ℤ raised_by top x) (sym same) (raised_open (is_split o.it.standing) top o.it.bound o.unsplit) in
    let rest : raised_by top m ≤ℤ fold raised_by (raised_by top m) nodes = raised-le nodes (raised_by top m) in
    omega (arith, ints)
raised-each (m ∷ nodes) top (suc node) o = raised-each nodes (raised_by top m) node (record { it = o.it; is_there = o.is_there; unsplit = o.unsplit })

-- no order weighs more than the state's bound
pub weight-le-state_bound : (problem : Problem) (journal : List Entry) → IsLawfulJournal problem journal
    → (s : List ℕ) → IsOrder problem.weights.size s → weight problem.weights s ≤ℤ state_bound (replay problem journal)
weight-le-state_bound problem journal h s o =
    let sound : SoundState problem (replay problem journal) = sound_replay problem journal h in
    let c : IsCoveredOnce (replay problem journal).nodes s = sound.cover s o in
    let low : weight problem.weights s ≤ℤ c.is_open.it.bound = sound.bounds c.node c.is_open.it c.is_open.is_there s o c.extends in
    let high : c.is_open.it.bound ≤ℤ state_bound (replay problem journal) = raised-each (replay problem journal).nodes (replay problem journal).best c.node c.is_open in
    omega (arith, ints)

-- best is the weight of an order
pub best_attained : (problem : Problem) (journal : List Entry) → IsLawfulJournal problem journal → IsAttained problem.weights (replay problem journal).best
best_attained problem journal h = (sound_replay problem journal h).attained

pub nodes_odd : (problem : Problem) (journal : List Entry) → IsLawfulJournal problem journal → length (replay problem journal).nodes ≡ 1 + 2 * split_count (replay problem journal).nodes
nodes_odd problem journal h = (sound_replay problem journal h).size
