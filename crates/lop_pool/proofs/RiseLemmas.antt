-- The number of evaluated nodes never falls.
use Rattle.std.proofs.Common.{◌≡◌, ◌+◌, ◌≤◌, List, [], ◌∷◌, ◌++◌, arith, sym, ◌∙◌, refl, ap}
use Rattle.std.specs.Prelude.{map, count_by}
use Rattle.std.proofs.lemmas.List.Sums.{sum_by-append}
use Rattle.lop_core.specs.declared.journal.Entry.{Entry}
use Rattle.lop_core.specs.Journal.{is_report}
use Rattle.lop_core.specs.Core.{CoreFields, HasHistory}
use Rattle.lop_core.proofs.Sound.{one_if}
use Rattle.lop_core.proofs.CoreLemmas.{core_counted}
use Rattle.lop_turn.specs.Lists.{StartsWith}
use Rattle.lop_pool.specs.declared.event.Event.{Event}
use Rattle.lop_pool.specs.Events.{events_after, events_of}

told : (before journal : List Entry) → map (λ (v : Event). v.entry) (events_after before journal) ≡ journal
told before [] = refl
told before (x ∷ xs) = ap (λ (es : List Entry). x ∷ es) (told (before ++ x ∷ []) xs)

map_append : (xs ys : List Event) → map (λ (v : Event). v.entry) (xs ++ ys) ≡ map (λ (v : Event). v.entry) xs ++ map (λ (v : Event). v.entry) ys
map_append [] ys = refl
map_append (x ∷ xs) ys = ap (λ (es : List Entry). x.entry ∷ es) (map_append xs ys)

-- where the one history begins with the other, as many nodes were evaluated at least
pub evaluated_rises : (a b : CoreFields) → HasHistory a → HasHistory b → StartsWith (events_of b.journal) (events_of a.journal) → a.state.evaluated ≤ b.state.evaluated
evaluated_rises a b ha hb starts =
    let whole : b.journal ≡ a.journal ++ map (λ (v : Event). v.entry) starts.0 =
    sym (told [] b.journal) ∙ (ap (map (λ (v : Event). v.entry)) starts.1 ∙ (map_append (events_of a.journal) starts.0 ∙ ap (λ (es : List Entry). es ++ map (λ (v : Event). v.entry) starts.0) (told [] a.journal))) in
    let count : count_by is_report b.journal ≡ count_by is_report a.journal + count_by is_report (map (λ (v : Event). v.entry) starts.0) =
    ap (λ (es : List Entry). count_by is_report es) whole ∙ sum_by-append (λ (e : Entry). one_if (is_report e)) a.journal (map (λ (v : Event). v.entry) starts.0) in
    let before = core_counted a ha in
    let after = core_counted b hb in
    omega (arith, before.evaluated, after.evaluated, count)
