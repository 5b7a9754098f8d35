use Rattle.std.proofs.Common.{◌≡◌, ◌<◌, ◌≤◌, ◌+◌, ◌++◌, ◌∷◌, [], List, length, set, sym, ◌∙◌, ap, subst, arith, refl, rules}
use Rattle.std.specs.Prelude.{All}
use Rattle.std.proofs.lemmas.List.{length-append, length-map}
use Rattle.std.proofs.lemmas.List.Sorted.{IsNonDecreasingBy-from_sort_by_key}
use Rattle.lop_core.specs.declared.records.NumberedTerm.{NumberedTerm}
use Rattle.lop_core.specs.declared.records.Span.{Span}
use Rattle.lop_core.specs.Records.{new_cuts, IsAdded, IsRecordBook}
use Rattle.lop_core.specs.Kept.{book_of, record_of}
use Rattle.lop_core.proofs.RecordLemmas.{laid, same_count, added_book, added_inside, added, fits_room, span_record}
use Rattle.lop_core.proofs.records.Records.add.Goals as goal

pub number_terms-requires-clause-own : goal.number_terms-requires-clause-own
number_terms-requires-clause-own c =
    subst (λ (ts : List NumberedTerm). All (λ t. t.cut < length c.args.self.now.cuts) ts) (sym c.terms_in-own.ensures)
    (subst (λ (ts : List NumberedTerm). All (λ t. t.cut < length c.args.self.now.cuts) (record_of ts c.span-span.result).terms) (sym c.deref.ensures.value)
    (span_record (length c.args.self.now.cuts) c.args.self.now.terms.items (book_of c.args.self.now).records c.args.node c.span-span.result c.requires.kept.book.each (rw length-map (omega (arith, c.requires.inside))) c.span-span.ensures.record).listed)

pub returns-clause-added : goal.returns-clause-added
returns-clause-added c =
    let old = c.args.self.now in
    let k = c.requires.kept in
    let up = IsNonDecreasingBy-from_sort_by_key (λ (t : NumberedTerm). t.cut) c.sort_unstable_by_key.new.self.items c.sort_unstable_by_key.ensures.sorted (λ a r q h. search rules) in
    let room : c.append_terms.new.room.items ≡ c.args.self.now.terms.items ++ c.sort_unstable_by_key.new.self.items = c.append_terms.ensures.terms ∙ ap (λ (ts : List NumberedTerm). c.args.self.now.terms.items ++ ts) c.deref-2.ensures.value in
    subst (λ (ss : List Span). IsAdded (book_of c.args.self.now) c.args.node c.args.shown.now (laid c.number_terms.new.cuts c.append_terms.new.room.items ss (set c.args.self.now.numbers.items c.args.node c.len-number.result))) (sym c.put_last.ensures.items)
    (subst (λ (ts : List NumberedTerm). IsAdded (book_of c.args.self.now) c.args.node c.args.shown.now (laid c.number_terms.new.cuts ts (c.args.self.now.spans.items ++ record { scale = c.scale.result; first = c.len-first.result; count = c.len.result } ∷ []) (set c.args.self.now.numbers.items c.args.node c.len-number.result))) (sym room)
    (added old.cuts (new_cuts old.cuts c.args.shown.now.terms) c.number_terms.new.cuts old.terms.items c.number_terms.new.fresh.items c.sort_unstable_by_key.new.self.items old.spans.items old.numbers.items c.args.node c.args.shown.now
    c.scale.result c.len-first.result c.len.result c.len-number.result k.book k.inside (omega (arith, c.requires.inside)) c.len.ensures.terms c.number_terms.ensures.cuts c.number_terms.ensures.different
    c.number_terms.ensures.terms c.number_terms.ensures.listed c.sort_unstable_by_key.ensures.permutation up c.scale.ensures.value (omega (arith, c.len-first.ensures)) c.len.ensures.value (omega (arith, c.len-number.ensures)) refl))

pub returns-clause-kept : goal.returns-clause-kept
returns-clause-kept c =
    let old = c.args.self.now in
    let k = c.requires.kept in
    let up = IsNonDecreasingBy-from_sort_by_key (λ (t : NumberedTerm). t.cut) c.sort_unstable_by_key.new.self.items c.sort_unstable_by_key.ensures.sorted (λ a r q h. search rules) in
    let room : c.append_terms.new.room.items ≡ c.args.self.now.terms.items ++ c.sort_unstable_by_key.new.self.items = c.append_terms.ensures.terms ∙ ap (λ (ts : List NumberedTerm). c.args.self.now.terms.items ++ ts) c.deref-2.ensures.value in
    let book = added_book old.cuts (new_cuts old.cuts c.args.shown.now.terms) c.number_terms.new.cuts old.terms.items c.number_terms.new.fresh.items c.sort_unstable_by_key.new.self.items old.spans.items old.numbers.items c.args.node c.args.shown.now
    c.scale.result c.len-first.result c.len.result c.len-number.result k.book k.inside (omega (arith, c.requires.inside)) c.len.ensures.terms c.number_terms.ensures.cuts c.number_terms.ensures.different
    c.number_terms.ensures.terms c.number_terms.ensures.listed c.sort_unstable_by_key.ensures.permutation up c.scale.ensures.value (omega (arith, c.len-first.ensures)) c.len.ensures.value (omega (arith, c.len-number.ensures)) in
    let inside = added_inside old.cuts (new_cuts old.cuts c.args.shown.now.terms) c.number_terms.new.cuts old.terms.items c.number_terms.new.fresh.items c.sort_unstable_by_key.new.self.items old.spans.items old.numbers.items c.args.node c.args.shown.now
    c.scale.result c.len-first.result c.len.result c.len-number.result k.book k.inside (omega (arith, c.requires.inside)) c.len.ensures.terms c.number_terms.ensures.cuts c.number_terms.ensures.different
    c.number_terms.ensures.terms c.number_terms.ensures.listed c.sort_unstable_by_key.ensures.permutation up c.scale.ensures.value (omega (arith, c.len-first.ensures)) c.len.ensures.value (omega (arith, c.len-number.ensures)) in
    let count : length c.sort_unstable_by_key.new.self.items ≡ length c.args.shown.now.terms = same_count old.cuts (new_cuts old.cuts c.args.shown.now.terms) c.number_terms.new.cuts old.terms.items c.number_terms.new.fresh.items c.sort_unstable_by_key.new.self.items old.spans.items old.numbers.items c.args.node c.args.shown.now
    c.scale.result c.len-first.result c.len.result c.len-number.result k.book k.inside (omega (arith, c.requires.inside)) c.len.ensures.terms c.number_terms.ensures.cuts c.number_terms.ensures.different
    c.number_terms.ensures.terms c.number_terms.ensures.listed c.sort_unstable_by_key.ensures.permutation up c.scale.ensures.value (omega (arith, c.len-first.ensures)) c.len.ensures.value (omega (arith, c.len-number.ensures)) in
    let fits = fits_room (length c.args.shown.now.terms) (length old.terms.items) old.term_room _ c.requires.room k.within in
    let long : length c.append_terms.new.room.items ≡ length c.args.self.now.terms.items + length c.sort_unstable_by_key.new.self.items = ap length room ∙ length-append c.args.self.now.terms.items c.sort_unstable_by_key.new.self.items in
    record {
      book = subst (λ (ss : List Span). IsRecordBook (laid c.number_terms.new.cuts c.append_terms.new.room.items ss (set c.args.self.now.numbers.items c.args.node c.len-number.result))) (sym c.put_last.ensures.items)
          (subst (λ (ts : List NumberedTerm). IsRecordBook (laid c.number_terms.new.cuts ts (c.args.self.now.spans.items ++ record { scale = c.scale.result; first = c.len-first.result; count = c.len.result } ∷ []) (set c.args.self.now.numbers.items c.args.node c.len-number.result))) (sym room) book);
      inside = subst (λ (ss : List Span). All (λ s. s.first + s.count ≤ length c.append_terms.new.room.items) ss) (sym c.put_last.ensures.items)
          (subst (λ (ts : List NumberedTerm). All (λ s. s.first + s.count ≤ length ts) (c.args.self.now.spans.items ++ record { scale = c.scale.result; first = c.len-first.result; count = c.len.result } ∷ [])) (sym room) inside);
      few_cuts = c.number_terms.ensures.few;
      few_terms = k.few_terms;
      for_terms = omega (arith, k.for_terms, c.append_terms.ensures.room);
      within = omega (arith, fits);
      for_fresh = omega (arith, k.for_fresh, c.number_terms.ensures.for_terms, c.sort_unstable_by_key.ensures.capacity);
    }
