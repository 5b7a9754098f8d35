use Rattle.std.proofs.Common.{◌≡◌, ◌∙◌, ◌+◌, ◌++◌, ◌∷◌, [], List, ℤ, ap, sym, append-nil, append_assoc, zero-add, FitsSigned, w64, rules}
use Rattle.std.proofs.lemmas.Int.{to_z-of_z}
use Rattle.std.proofs.lemmas.List.FromFn.{map-range_with_len_more}
use Rattle.lop_gen.specs.Drawn.{drawn_entry, drawn_columns}
use Rattle.lop_gen.proofs.DrawnLemmas.{drawn-start, drawn-step}
use Rattle.lop_gen.proofs.matrix.push_row.Goals as goal

pub loop-column-init : goal.loop-column-init
loop-column-init c = record {
  entries = sym (append-nil c.args.entries.now.items);
  drawn = drawn-start c.args.generator.now c.args.row;
}

pub loop-column-preserved : goal.loop-column-preserved
loop-column-preserved c =
    let g = c.args.generator.now in
    let row = c.args.row in
    let column = c.loop-column.column in
    let entry = c.next_entry-entry.result in
    let items = c.loop-column.entries.items in
    let old = c.args.entries.now.items in
    let step = drawn-step g c.loop-column.generator c.next_entry-entry.new.generator row column entry c.loop-column.invariant.drawn c.next_entry-entry.ensures.entry c.next_entry-entry.ensures.drawn in
    let fits : FitsSigned w64 entry = search rules in
    let more : drawn_columns g row (column + 1) ≡ drawn_columns g row column ++ drawn_entry g row column ∷ [] = map-range_with_len_more (λ j. drawn_entry g row j) 0 column column (zero-add column) in
    record {
      entries = c.in-Ok.ensures.items ∙ ap (λ (v : ℤ). items ++ v ∷ []) (to_z-of_z w64 entry fits ∙ step.0)
          ∙ ap (λ (l : List ℤ). l ++ drawn_entry g row column ∷ []) c.loop-column.invariant.entries
          ∙ append_assoc old (drawn_columns g row column) (drawn_entry g row column ∷ [])
          ∙ ap (λ (l : List ℤ). old ++ l) (sym more);
      drawn = step.1;
    }
