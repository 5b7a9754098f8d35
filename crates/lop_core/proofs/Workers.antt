-- Laws for several workers: a node that is out stands still, when none is out, and what determines the problem.
use Rattle.std.proofs.Common.{◌≡◌, ◌≢◌, ℕ, ◌+◌, ◌<◌, List, [], ◌∷◌, ◌++◌, length, get_or, arith, sym, ◌∙◌, Some, None, Option, refl, ap, subst, Bool, true, false, suc, length-append, length-set, append-nil, append_assoc, eq-eqb}
use Rattle.std.specs.Prelude.{slice_get, ℤ, pos, int_lt, if◌then◌else◌, Any, All, filter, ◌==◌}
use Rattle.std.specs.Int.{int_max}
use Rattle.std.specs.List.{flat_map}
use Rattle.std.proofs.lemmas.Int.{ints}
use Rattle.std.proofs.lemmas.List.{get_or_append_left, take-append-le, get_or_default}
use Rattle.std.proofs.lemmas.List.Elements.{filter-append, All-head, All-tail}
use Rattle.std.proofs.lemmas.List.Quantifiers.{Any-push}
use Rattle.std.proofs.lemmas.List.Sums.{sum_by-cons}
use Rattle.std.proofs.lemmas.Option.{slice_get_within, get_or_from_slice_get, same_Some}
use Rattle.lop_model.specs.declared.pair.Pair.{Pair}
use Rattle.lop_model.specs.Matrix.{Matrix, IsWeights}
use Rattle.lop_model.proofs.MatrixLemmas.{weight_within}
use Rattle.lop_model.proofs.BoundLemmas.{pair_bound_within}
use Rattle.lop_core.specs.declared.node.SearchNode.{SearchNode}
use Rattle.lop_core.specs.declared.node.Standing.{Standing}
use Rattle.lop_core.specs.declared.node.Standing.TheVariants.{Idle, Out, Split}
use Rattle.lop_core.specs.declared.journal.Entry.{Entry}
use Rattle.lop_core.specs.declared.journal.Entry.TheVariants.{Take, Report}
use Rattle.lop_core.specs.Tree.{child, node_at, path_of, is_out, out_count}
use Rattle.lop_model.specs.Reversed.{reversed}
use Rattle.lop_core.specs.Machine.{Problem, SearchState, changed, closed, divided, settled, after, IsOutTo, state_bound}
use Rattle.lop_core.specs.Journal.{replay, worker_of, entries_of, reports, HasTake, HasReport, MayFollow, IsLawfulJournal}
use Rattle.lop_core.specs.Core.{CoreFields, HasHistory}
use Rattle.lop_core.specs.Workers.{fixed_of, IsInRange, StandsStill}
use Rattle.lop_core.proofs.Lists.{slice_get-append_left, EachFollows-last}
use Rattle.lop_core.proofs.TreeLemmas.{paths-changed, path_of_two_old}
use Rattle.lop_core.proofs.Replay.{replay_push, raised-le}
use Rattle.lop_core.proofs.Sound.{one_if}
use Rattle.lop_core.proofs.Monotone.{core_from_root}
use Rattle.lop_core.proofs.Fates.{out_exactly, take_effect, report_effect}

-- ---- the beginning of a lawful journal

pub lawful_start : (problem : Problem) (journal more : List Entry) → IsLawfulJournal problem (journal ++ more) → IsLawfulJournal problem journal
lawful_start problem journal more h = record {
  start = h.start;
  each = λ k entry e.
      let lt : k < length journal = slice_get_within journal k entry e in
      subst (λ (j : List Entry). MayFollow problem j entry) (take-append-le k journal more (omega arith)) (h.each k entry (slice_get-append_left journal more k lt ∙ e));
}

pub Any_more : {P : Entry → Type 0} (w : ℕ) (journal more : List Entry) → Any P (entries_of w journal) → Any P (entries_of w (journal ++ more))
Any_more {P} w journal more a =
    let p : Entry → Bool = λ e. worker_of e == w in
    subst (Any P) (sym (filter-append (λ e. worker_of e == w) journal more))
    (a.0, a.1, rw length-append (omega arith), get_or_append_left (filter (λ e. worker_of e == w) journal) (filter (λ e. worker_of e == w) more) a.1 a.0 a.2 ∙ a.3, a.4)

-- ---- one event

settled_path : (s : SearchState) (n : ℕ) (bound best : ℤ) (pair : Option Pair) (i : ℕ) → n < length s.nodes → i < length s.nodes → path_of (settled s n bound best pair).nodes i ≡ path_of s.nodes i
settled_path s n bound best pair i there lt = go pair where
  still : (standing : Standing) → path_of (changed s.nodes n bound standing) i ≡ path_of s.nodes i
  still standing = ap (λ (ps : List (List Pair)). get_or ps i []) (paths-changed s.nodes n bound standing there)

  by_test : (b : Bool) (p : Pair) → path_of (if b then divided s n bound best p else closed s n bound best).nodes i ≡ path_of s.nodes i
  by_test true p =
      let long : length (changed s.nodes n bound (Split (length s.nodes))) ≡ length s.nodes = length-set s.nodes n _ in
      path_of_two_old (changed s.nodes n bound (Split (length s.nodes))) (child n p bound) (child n (reversed p) bound) (omega arith) i (omega arith) ∙ still (Split (length s.nodes))
  by_test false p = still Idle

  go : (o : Option Pair) → path_of (settled s n bound best o).nodes i ≡ path_of s.nodes i
  go None = still Idle
  go (Some p) = by_test (int_lt best bound) p

-- an event changes no path
path_entry : (problem : Problem) (journal : List Entry) (e : Entry) → MayFollow problem journal e → (i : ℕ) → i < length (replay problem journal).nodes
    → path_of (after (replay problem journal) e).nodes i ≡ path_of (replay problem journal).nodes i
unfolding after
path_entry problem journal (Take w n) may i lt =
    ap (λ (ps : List (List Pair)). get_or ps i [])
    (paths-changed (replay problem journal).nodes n (node_at (replay problem journal).nodes n).bound (Out w) (slice_get_within (replay problem journal).nodes n may.ready.it may.ready.is_there))
path_entry problem journal (Report w n bound pair value room) may i lt =
    settled_path (replay problem journal) n (if room then bound else (node_at (replay problem journal).nodes n).bound) (int_max (replay problem journal).best value) pair i
    (slice_get_within (replay problem journal).nodes n may.is_out.0 may.is_out.1) lt

-- a report that leaves a node out is of another node
pub report_apart : (s : SearchState) (journal : List Entry) (v n : ℕ) (bound : ℤ) (pair : Option Pair) (value : ℤ) (room : Bool) (w i : ℕ) → IsOutTo s v n → IsOutTo s w i
    → ¬ (HasReport i (entries_of w (journal ++ Report v n bound pair value room ∷ []))) → i ≢ n
report_apart s journal v n bound pair value room w i was out none same =
    let at : slice_get s.nodes i ≡ Some was.0 = ap (slice_get s.nodes) same ∙ was.1 in
    let one : out.0 ≡ was.0 = same_Some out.0 was.0 (sym out.1 ∙ at) in
    let outs : Out w ≡ Out v = sym out.2 ∙ (ap (λ (y : SearchNode). y.standing) one ∙ was.2) in
    let me : v ≡ w = cc in
    none (reported me (sym same))
  where
    reported : v ≡ w → n ≡ i → HasReport i (entries_of w (journal ++ Report v n bound pair value room ∷ []))
    reported ev en =
        let one : entries_of w (Report v n bound pair value room ∷ []) ≡ Report v n bound pair value room ∷ [] = ap (λ (b : Bool). if b then Report v n bound pair value room ∷ [] else []) (eq-eqb v w ev) in
        let two : entries_of w (journal ++ Report v n bound pair value room ∷ []) ≡ entries_of w journal ++ Report v n bound pair value room ∷ [] =
        filter-append (λ e. worker_of e == w) journal (Report v n bound pair value room ∷ []) ∙ ap (λ (es : List Entry). entries_of w journal ++ es) one in
        subst (Any (λ e. reports i e ≡ true)) (sym two) (Any-push (λ e. reports i e ≡ true) (entries_of w journal) (Report v n bound pair value room) (eq-eqb n i en))

-- an event of another node changes no node that is out
other_entry : (problem : Problem) (journal : List Entry) (e : Entry) (w i : ℕ) → MayFollow problem journal e → IsOutTo (replay problem journal) w i → ¬ (HasReport i (entries_of w (journal ++ e ∷ [])))
    → (x : SearchNode) → slice_get (replay problem journal).nodes i ≡ Some x → slice_get (after (replay problem journal) e).nodes i ≡ Some x
other_entry problem journal (Take v n) w i may out none x there =
    let other : i ≢ n = λ same.
    let at : slice_get (replay problem journal).nodes i ≡ Some may.ready.it = ap (slice_get (replay problem journal).nodes) same ∙ may.ready.is_there in
    let one : out.0 ≡ may.ready.it = same_Some out.0 may.ready.it (sym out.1 ∙ at) in
    let no : Idle ≡ Out w = sym may.ready.idle ∙ (ap (λ (y : SearchNode). y.standing) (sym one) ∙ out.2) in
    cc in
    (take_effect problem (replay problem journal) v n may).kept i x other there
other_entry problem journal (Report v n bound pair value room) w i may out none x there =
    (report_effect problem journal v n bound pair value room may).0.kept i x (report_apart (replay problem journal) journal v n bound pair value room w i may.is_out out none) there

-- ---- a node that is out stands still

-- where a node is out to a worker after a lawful journal and after a lawful continuation of it, it has the same bound and the same path after both
pub out_stands_still : (problem : Problem) (journal more : List Entry) (w node : ℕ) → IsLawfulJournal problem (journal ++ more) → IsOutTo (replay problem journal) w node → IsOutTo (replay problem (journal ++ more)) w node
    → StandsStill (replay problem journal) (replay problem (journal ++ more)) node
out_stands_still problem journal [] w node h out later =
    subst (λ (j : List Entry). StandsStill (replay problem journal) (replay problem j) node) (sym (append-nil journal)) (record { bound = refl; path = refl })
out_stands_still problem journal (e ∷ more) w node h out later =
    let split : journal ++ (e ∷ more) ≡ (journal ++ e ∷ []) ++ more = sym (append_assoc journal (e ∷ []) more) in
    let h' : IsLawfulJournal problem ((journal ++ e ∷ []) ++ more) = subst (IsLawfulJournal problem) split h in
    let later' : IsOutTo (replay problem ((journal ++ e ∷ []) ++ more)) w node = subst (λ (j : List Entry). IsOutTo (replay problem j) w node) split later in
    let first : IsLawfulJournal problem journal = lawful_start problem journal (e ∷ more) h in
    let second : IsLawfulJournal problem (journal ++ e ∷ []) = lawful_start problem (journal ++ e ∷ []) more h' in
    let may : MayFollow problem journal e = EachFollows-last (MayFollow problem) journal e second.each in
    let held = (out_exactly problem journal w node first).0 out in
    let at_end = (out_exactly problem ((journal ++ e ∷ []) ++ more) w node h').0 later' in
    let unreported : ¬ (HasReport node (entries_of w (journal ++ e ∷ []))) = λ r. at_end.1 (Any_more w (journal ++ e ∷ []) more r) in
    let mid : IsOutTo (replay problem (journal ++ e ∷ [])) w node = (out_exactly problem (journal ++ e ∷ []) w node second).1 (Any_more w journal (e ∷ []) held.0, unreported) in
    let rest = out_stands_still problem (journal ++ e ∷ []) more w node h' mid later' in
    let lt : node < length (replay problem journal).nodes = slice_get_within (replay problem journal).nodes node out.0 out.1 in
    let same = other_entry problem journal e w node may out unreported out.0 out.1 in
    let step : (node_at (replay problem (journal ++ e ∷ [])).nodes node) ≡ node_at (replay problem journal).nodes node =
    ap (λ (s : SearchState). node_at s.nodes node) (replay_push problem journal e) ∙ get_or_from_slice_get (after (replay problem journal) e).nodes node out.0 _ same ∙ sym (get_or_from_slice_get (replay problem journal).nodes node out.0 _ out.1) in
    let path : path_of (replay problem (journal ++ e ∷ [])).nodes node ≡ path_of (replay problem journal).nodes node =
    ap (λ (s : SearchState). path_of s.nodes node) (replay_push problem journal e) ∙ path_entry problem journal e may node lt in
    subst (λ (j : List Entry). StandsStill (replay problem journal) (replay problem j) node) (sym split)
    (record { bound = rest.bound ∙ ap (λ (m : SearchNode). m.bound) step; path = rest.path ∙ path })

-- ---- when none is out

pub count_none : (nodes : List SearchNode) → ((i : ℕ) (x : SearchNode) → slice_get nodes i ≡ Some x → is_out x.standing ≡ false) → out_count nodes ≡ 0
count_none [] each = refl
count_none (x ∷ nodes) each =
    let all : out_count (x ∷ nodes) ≡ one_if (is_out x.standing) + out_count nodes = sum_by-cons (λ (m : SearchNode). one_if (is_out m.standing)) x nodes in
    let first : one_if (is_out x.standing) ≡ 0 = ap one_if (each 0 x refl) in
    let rest : out_count nodes ≡ 0 = count_none nodes (λ i y e. each (suc i) y e) in
    omega (arith, all, first, rest)

-- where each worker has reported each node that it took, no node is out
pub none_out : (problem : Problem) (journal : List Entry) → IsLawfulJournal problem journal → ((w node : ℕ) → HasTake node (entries_of w journal) → HasReport node (entries_of w journal)) → out_count (replay problem journal).nodes ≡ 0
none_out problem journal h each = count_none (replay problem journal).nodes (λ i x there. go i x there x.standing refl) where
  go : (i : ℕ) (x : SearchNode) → slice_get (replay problem journal).nodes i ≡ Some x → (standing : Standing) → x.standing ≡ standing → is_out x.standing ≡ false
  go i x there Idle e = ap is_out e
  go i x there (Split first) e = ap is_out e
  go i x there (Out w) e = let held = (out_exactly problem journal w i h).0 (x, there, e) in absurd (held.1 (each w i held.0))

pub core_none_out : (core : CoreFields) → HasHistory core → ((w node : ℕ) → HasTake node (entries_of w core.journal) → HasReport node (entries_of w core.journal)) → out_count core.state.nodes ≡ 0
core_none_out core h each = ap (λ (s : SearchState). out_count s.nodes) h.replayed ∙ none_out core.problem core.journal h.lawful each

-- ---- the range of best and of the bound

pub best_in_range : (core : CoreFields) → HasHistory core → IsWeights core.problem.weights → IsInRange core.state.best
best_in_range core h is =
    let w = weight_within core.problem.weights core.order h.is_order in
    let limit = is.bounded_sum in
    subst IsInRange h.weighs (record { low = omega (arith, ints); high = omega (arith, ints) })

pub bound_in_range : (core : CoreFields) → HasHistory core → IsWeights core.problem.weights → IsInRange (state_bound core.state)
bound_in_range core h is =
    let best = best_in_range core h is in
    let above = raised-le core.state.nodes core.state.best in
    let top = core_from_root core h in
    let most = pair_bound_within core.problem.weights [] in
    let limit = is.bounded_sum in
    record { low = omega (arith, ints, best.low); high = omega (arith, ints) }

-- ---- what determines the problem

same_rows : (n : ℕ) (xs ys : List (List ℤ)) → length xs ≡ length ys → All (λ r. length r ≡ n) xs → All (λ r. length r ≡ n) ys → flat_map (λ (r : List ℤ). r) xs ≡ flat_map (λ (r : List ℤ). r) ys → xs ≡ ys
same_rows n [] [] l hx hy e = refl
same_rows n [] (y ∷ ys) l hx hy e = absurd (omega arith)
same_rows n (x ∷ xs) [] l hx hy e = absurd (omega arith)
same_rows n (x ∷ xs) (y ∷ ys) l hx hy e =
    let lx : length x ≡ n = All-head (λ (r : List ℤ). length r ≡ n) x xs hx in
    let ly : length y ≡ n = All-head (λ (r : List ℤ). length r ≡ n) y ys hy in
    let heads = same_front x y (flat_map (λ (r : List ℤ). r) xs) (flat_map (λ (r : List ℤ). r) ys) (lx ∙ sym ly) e in
    ap (λ (r : List ℤ). r ∷ xs) heads.0
    ∙ ap (λ (rs : List (List ℤ)). y ∷ rs) (same_rows n xs ys (omega arith) (All-tail (λ (r : List ℤ). length r ≡ n) x xs hx) (All-tail (λ (r : List ℤ). length r ≡ n) y ys hy) heads.1)
  where
    same_front : (a b c d : List ℤ) → length a ≡ length b → a ++ c ≡ b ++ d → (a ≡ b) × (c ≡ d)
    same_front [] [] c d l e = (refl, e)
    same_front [] (z ∷ b) c d l e = absurd (omega arith)
    same_front (u ∷ a) [] c d l e = absurd (omega arith)
    same_front (u ∷ a) (z ∷ b) c d l e =
        let first : u ≡ z = cc in
        let tails : a ++ c ≡ b ++ d = cc in
        let rest = same_front a b c d (omega arith) tails in
        (ap (λ (k : ℤ). k ∷ a) first ∙ ap (λ (k : List ℤ). z ∷ k) rest.0, rest.1)

rows_long : (C : Matrix) → IsWeights C → All (λ (r : List ℤ). length r ≡ C.size) C.rows
rows_long C is k d lt = let low : k < C.size = omega (arith, is.rows) in ap length (get_or_default C.rows k d [] lt) ∙ is.columns k low

-- n, the budget, the start value and the entries in one list determine the problem
pub fixed_decides : (p q : Problem) → IsWeights p.weights → IsWeights q.weights → fixed_of p ≡ fixed_of q → p ≡ q
fixed_decides p q hp hq e =
    let sizes : pos p.weights.size ≡ pos q.weights.size = cc in
    let size : p.weights.size ≡ q.weights.size = cc in
    let budgets : pos p.budget ≡ pos q.budget = cc in
    let budget : p.budget ≡ q.budget = cc in
    let start : p.start ≡ q.start = cc in
    let all : flat_map (λ (row : List ℤ). row) p.weights.rows ≡ flat_map (λ (row : List ℤ). row) q.weights.rows = cc in
    let long : length p.weights.rows ≡ length q.weights.rows = hp.rows ∙ size ∙ sym hq.rows in
    let rows : p.weights.rows ≡ q.weights.rows = same_rows q.weights.size p.weights.rows q.weights.rows long (subst (λ (n : ℕ). All (λ (r : List ℤ). length r ≡ n) p.weights.rows) size (rows_long p.weights hp)) (rows_long q.weights hq) all in
    ap (λ (n : ℕ). record { weights = record { size = n; rows = p.weights.rows }; start = p.start; budget = p.budget }) size
    ∙ ap (λ (rs : List (List ℤ)). record { weights = record { size = q.weights.size; rows = rs }; start = p.start; budget = p.budget }) rows
    ∙ ap (λ (z : ℤ). record { weights = q.weights; start = z; budget = p.budget }) start
    ∙ ap (λ (b : ℕ). record { weights = q.weights; start = q.start; budget = b }) budget
