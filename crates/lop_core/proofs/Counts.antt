-- How many nodes, reports and entries there are.
use Rattle.std.proofs.Common.{◌≡◌, ℕ, ◌+◌, List, [], ◌∷◌, ◌++◌, length, arith, sym, ◌∙◌, Some, None, Option, refl, ap, subst, Bool, true, false, length-append, length-set}
use Rattle.std.specs.Prelude.{slice_get, ℤ, int_lt, if◌then◌else◌, count_by}
use Rattle.std.proofs.lemmas.List.{length_push}
use Rattle.std.proofs.lemmas.List.Sums.{sum_by-append, sum_by_push}
use Rattle.lop_model.specs.declared.pair.Pair.{Pair}
use Rattle.lop_core.proofs.Lists.{by_following}
use Rattle.lop_core.specs.declared.node.SearchNode.{SearchNode}
use Rattle.lop_core.specs.declared.journal.Entry.{Entry}
use Rattle.lop_core.specs.declared.journal.Entry.TheVariants.{Take, Report}
use Rattle.lop_core.specs.declared.node.Standing.{Standing}
use Rattle.lop_core.specs.declared.node.Standing.TheVariants.{Idle, Out, Split}
use Rattle.lop_core.specs.Tree.{node_at, is_split, is_out, split_count, out_count}
use Rattle.lop_core.specs.Machine.{Problem, SearchState, changed, after, settled, closed, divided}
use Rattle.lop_core.specs.Journal.{AreCounted, replay, is_report, room_count, MayTake, MayReport, MayFollow, IsLawfulJournal}
use Rattle.lop_core.proofs.Sound.{count_changed, one_if}
use Rattle.lop_core.proofs.Replay.{replay_push}

counted_take : (problem : Problem) (s : SearchState) (journal : List Entry) (w n : ℕ) → AreCounted problem s journal → MayTake problem s n → AreCounted problem (after s (Take w n)) (journal ++ Take w n ∷ [])
unfolding after
counted_take problem s journal w n c may =
    let idle_out : one_if (is_out may.ready.it.standing) ≡ 0 = ap (λ (x : Standing). one_if (is_out x)) may.ready.idle in
    let idle_split : one_if (is_split may.ready.it.standing) ≡ 0 = ap (λ (x : Standing). one_if (is_split x)) may.ready.idle in
    let outs : out_count (changed s.nodes n (node_at s.nodes n).bound (Out w)) + one_if (is_out may.ready.it.standing) ≡ out_count s.nodes + 1 =
    count_changed is_out s.nodes n may.ready.it (node_at s.nodes n).bound (Out w) may.ready.is_there in
    let splits : split_count (changed s.nodes n (node_at s.nodes n).bound (Out w)) + one_if (is_split may.ready.it.standing) ≡ split_count s.nodes + 0 =
    count_changed is_split s.nodes n may.ready.it (node_at s.nodes n).bound (Out w) may.ready.is_there in
    let entries : length (journal ++ Take w n ∷ []) ≡ length journal + 1 = length_push journal (Take w n) in
    let reports : count_by is_report (journal ++ Take w n ∷ []) ≡ count_by is_report journal + 0 = sum_by_push (λ (e : Entry). one_if (is_report e)) journal (Take w n) in
    let size : length (changed s.nodes n (node_at s.nodes n).bound (Out w)) ≡ length s.nodes = length-set s.nodes n _ in
    record {
      evaluated = omega (arith, c.evaluated);
      entries = omega (arith, c.entries);
      within = omega (arith, may.within);
      splits = omega (arith, c.splits);
      size = omega (arith, c.size);
    }

counted_settled : (problem : Problem) (s : SearchState) (journal : List Entry) (e : Entry) (n w : ℕ) (m : SearchNode) (kept best : ℤ) (pair : Option Pair)
    → AreCounted problem s journal → is_report e ≡ true → slice_get s.nodes n ≡ Some m → m.standing ≡ Out w
    → AreCounted problem (settled s n kept best pair) (journal ++ e ∷ [])
counted_settled problem s journal e n w m kept best pair c is there was = go pair where
  was_out : one_if (is_out m.standing) ≡ 1
  was_out = ap (λ (x : Standing). one_if (is_out x)) was

  was_split : one_if (is_split m.standing) ≡ 0
  was_split = ap (λ (x : Standing). one_if (is_split x)) was

  entries : length (journal ++ e ∷ []) ≡ length journal + 1
  entries = length_push journal e

  reports : count_by is_report (journal ++ e ∷ []) ≡ count_by is_report journal + 1
  reports = sum_by_push (λ (e : Entry). one_if (is_report e)) journal e ∙ ap (λ (k : ℕ). count_by is_report journal + k) (ap one_if is)

  when_closed : AreCounted problem (closed s n kept best) (journal ++ e ∷ [])
  when_closed =
      let outs : out_count (changed s.nodes n kept Idle) + one_if (is_out m.standing) ≡ out_count s.nodes + 0 = count_changed is_out s.nodes n m kept Idle there in
      let splits : split_count (changed s.nodes n kept Idle) + one_if (is_split m.standing) ≡ split_count s.nodes + 0 = count_changed is_split s.nodes n m kept Idle there in
      let size : length (changed s.nodes n kept Idle) ≡ length s.nodes = length-set s.nodes n _ in
      record {
        evaluated = omega (arith, c.evaluated, reports);
        entries = omega (arith, c.entries, entries, was_out);
        within = omega (arith, c.within, was_out);
        splits = omega (arith, c.splits, was_split);
        size = omega (arith, c.size, was_split);
      }

  when_divided : (p : Pair) → AreCounted problem (divided s n kept best p) (journal ++ e ∷ [])
  when_divided p =
      let outs : out_count (changed s.nodes n kept (Split (length s.nodes))) + one_if (is_out m.standing) ≡ out_count s.nodes + 0 = count_changed is_out s.nodes n m kept (Split (length s.nodes)) there in
      let splits : split_count (changed s.nodes n kept (Split (length s.nodes))) + one_if (is_split m.standing) ≡ split_count s.nodes + 1 = count_changed is_split s.nodes n m kept (Split (length s.nodes)) there in
      let size : length (changed s.nodes n kept (Split (length s.nodes))) ≡ length s.nodes = length-set s.nodes n _ in
      let more : length (divided s n kept best p).nodes ≡ length (changed s.nodes n kept (Split (length s.nodes))) + 2 = length-append (changed s.nodes n kept (Split (length s.nodes))) _ in
      let outs2 : out_count (divided s n kept best p).nodes ≡ out_count (changed s.nodes n kept (Split (length s.nodes))) + 0 = sum_by-append (λ (x : SearchNode). one_if (is_out x.standing)) (changed s.nodes n kept (Split (length s.nodes))) _ in
      let splits2 : split_count (divided s n kept best p).nodes ≡ split_count (changed s.nodes n kept (Split (length s.nodes))) + 0 = sum_by-append (λ (x : SearchNode). one_if (is_split x.standing)) (changed s.nodes n kept (Split (length s.nodes))) _ in
      record {
        evaluated = omega (arith, c.evaluated, reports);
        entries = omega (arith, c.entries, entries, was_out);
        within = omega (arith, c.within, was_out);
        splits = omega (arith, c.splits, was_split);
        size = omega (arith, c.size, was_split);
      }

  by_test : (b : Bool) (p : Pair) → AreCounted problem (if b then divided s n kept best p else closed s n kept best) (journal ++ e ∷ [])
  by_test true p = when_divided p
  by_test false p = when_closed

  go : (o : Option Pair) → AreCounted problem (settled s n kept best o) (journal ++ e ∷ [])
  go None = when_closed
  go (Some p) = by_test (int_lt best kept) p

counted_report : (problem : Problem) (journal : List Entry) (w n : ℕ) (bound : ℤ) (pair : Option Pair) (value : ℤ) (room : Bool)
    → AreCounted problem (replay problem journal) journal → MayReport problem (replay problem journal) (room_count journal) w n bound pair value room
    → AreCounted problem (after (replay problem journal) (Report w n bound pair value room)) (journal ++ Report w n bound pair value room ∷ [])
unfolding after
counted_report problem journal w n bound pair value room c may =
    counted_settled problem (replay problem journal) journal (Report w n bound pair value room) n w may.is_out.0 _ _ pair c refl may.is_out.1 may.is_out.2

counted_entry : (problem : Problem) (journal : List Entry) (e : Entry) → AreCounted problem (replay problem journal) journal → MayFollow problem journal e → AreCounted problem (after (replay problem journal) e) (journal ++ e ∷ [])
counted_entry problem journal (Take w n) c may = counted_take problem (replay problem journal) journal w n c may
counted_entry problem journal (Report w n bound pair value room) c may = counted_report problem journal w n bound pair value room c may

-- the counts of the replay of a lawful journal
pub counted : (problem : Problem) (journal : List Entry) → IsLawfulJournal problem journal → AreCounted problem (replay problem journal) journal
counted problem journal h =
    by_following (MayFollow problem) (λ (j : List Entry). AreCounted problem (replay problem j) j)
    (record { evaluated = refl; entries = refl; within = omega arith; splits = omega arith; size = refl })
    (λ j e lawful c may. subst (λ (s : SearchState). AreCounted problem s (j ++ e ∷ [])) (sym (replay_push problem j e)) (counted_entry problem j e c may))
    journal h.each
