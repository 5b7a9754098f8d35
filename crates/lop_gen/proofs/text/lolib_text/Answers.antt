use Rattle.std.proofs.Common.{◌≡◌, ◌∙◌, ◌++◌, List, ℤ, take, decimal, codes, ap, arith}
use Rattle.std.specs.List.{flat_map}
use Rattle.std.proofs.lemmas.List.{take_all}
use Rattle.lop_lolib.specs.Reading.{lolib_reading}
use Rattle.lop_gen.specs.Text.{row_line, lolib_text}
use Rattle.lop_gen.proofs.ReadBack.{read_back}
use Rattle.lop_gen.proofs.text.lolib_text.Goals as goal

pub returns-clause-read_back : goal.returns-clause-read_back
returns-clause-read_back c =
    let C = c.args.weights.now in
    let rows : take c.loop-row.row C.rows ≡ C.rows = take_all c.loop-row.row C.rows (omega (arith, c.n-row-end.ensures.weights.rows)) in
    let whole : c.loop-row.text.items ≡ lolib_text C = c.loop-row.invariant ∙ ap (λ (r : List (List ℤ)). decimal C.size ++ codes "\n" ++ flat_map row_line r) rows in
    ap lolib_reading whole ∙ read_back C c.n-row-end.ensures.weights c.requires
