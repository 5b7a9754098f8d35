use Rattle.std.proofs.Common.{◌≡◌, ◌∙◌, ◌<◌, ◌++◌, [], ℕ, List, ℤ, pos, length, map, take, get_or, ap, sym, append_assoc, append-nil, codes, FitsSigned, w64, arith, rules}
use Rattle.std.specs.Fmt.{signed_decimal}
use Rattle.std.specs.List.{join_with_byte}
use Rattle.std.proofs.lemmas.Int.{to_z-of_z}
use Rattle.std.proofs.lemmas.List.{take_all}
use Rattle.lop_gen.specs.EntryText.{entry_text}
use Rattle.lop_gen.proofs.TextLemmas.{join-step}
use Rattle.lop_gen.proofs.text.push_row.Goals as goal

pub loop-column-init : goal.loop-column-init
loop-column-init c = sym (append-nil c.args.text.now.items)

pub loop-column-preserved : goal.loop-column-preserved
loop-column-preserved c =
    let row : List ℤ = get_or c.args.weights.now.rows c.args.row [] in
    let column = c.loop-column.column in
    let entry = get_or row column (pos 0) in
    let items = c.loop-column.text.items in
    let old = c.args.text.now.items in
    let fits : FitsSigned w64 c.at.result = search rules in
    let inside : column < length row = omega (arith, c.n-column-end.ensures.weights.columns c.args.row (omega arith)) in
    c.in_ok-push_entry.ensures
    ∙ ap (λ (v : ℤ). items ++ entry_text column v) (to_z-of_z w64 c.at.result fits ∙ c.at.ensures)
    ∙ ap (λ (l : List ℕ). l ++ entry_text column entry) c.loop-column.invariant
    ∙ append_assoc old (join_with_byte 32 (map signed_decimal (take column row))) (entry_text column entry)
    ∙ ap (λ (l : List ℕ). old ++ l) (sym (join-step row column (pos 0) inside))

pub returns : goal.returns
returns c =
    let row : List ℤ = get_or c.args.weights.now.rows c.args.row [] in
    let old = c.args.text.now.items in
    let whole : take c.loop-column.column row ≡ row = take_all c.loop-column.column row (omega (arith, c.n-column-end.ensures.weights.columns c.args.row (omega arith))) in
    c.in_ok-extend_from_slice.ensures.items
    ∙ ap (λ (l : List ℕ). l ++ codes "\n") (c.loop-column.invariant ∙ ap (λ (r : List ℤ). old ++ join_with_byte 32 (map signed_decimal r)) whole)
    ∙ append_assoc old (join_with_byte 32 (map signed_decimal row)) (codes "\n")
