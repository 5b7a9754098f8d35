use Rattle.std.proofs.Common.{◌≡◌, ◌*◌, ◌∙◌, ◌+◌, ◌<◌, length, rules, arith, ap, w64, FitsSigned, ℤ, to_z, of_z}
use Rattle.std.proofs.lemmas.Int.{ints, to_z-of_z}
use Rattle.lop_basis.specs.Table.{at, cell}
use Rattle.lop_basis.specs.Fixed.{product}
use Rattle.lop_basis.proofs.TableLemmas.{place_within}
use Rattle.lop_basis.proofs.cells.difference_at.Goals as goal

pub returns : goal.returns
returns c =
    let n = c.args.n in
    let t = c.args.cells.now in
    let in_row : c.args.row * n + c.args.j < length t = omega (arith, place_within n c.args.row c.args.j c.requires.row c.requires.in_row) in
    let in_pivot_row : c.args.pivot_row * n + c.args.j < length t = omega (arith, place_within n c.args.pivot_row c.args.j c.requires.pivot_row c.requires.in_row) in
    let here : FitsSigned w64 (cell t n c.args.row c.args.j) = search rules in
    let above : FitsSigned w64 (cell t n c.args.pivot_row c.args.j) = search rules in
    let factor_fits : FitsSigned w64 (at c.args.column.now c.args.row) = search rules in
    let factor : to_z w64 (of_z w64 (at c.args.column.now c.args.row)) ≡ at c.args.column.now c.args.row = to_z-of_z w64 (at c.args.column.now c.args.row) factor_fits in
    let less : c.product_of-less.result ≡ product (at c.args.column.now c.args.row) (cell t n c.args.pivot_row c.args.j) =
    c.product_of-less.ensures.value
    ∙ ap (λ (x : ℤ). product (to_z w64 (of_z w64 (at c.args.column.now c.args.row))) x) (to_z-of_z w64 (cell t n c.args.pivot_row c.args.j) above)
    ∙ ap (λ (x : ℤ). product x (cell t n c.args.pivot_row c.args.j)) factor in
    let from : c.from.result ≡ cell t n c.args.row c.args.j = c.from.ensures ∙ to_z-of_z w64 (cell t n c.args.row c.args.j) here in
    omega (arith, ints, less, from)
