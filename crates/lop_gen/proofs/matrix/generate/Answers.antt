use Rattle.std.proofs.Common.{◌≡◌, ◌∙◌, ◌-◌, ◌*◌, ◌^◌, ◌++◌, ℕ, List, ℤ, pos, ◌≤ℤ◌, ap, subst, sym, arith}
use Rattle.std.specs.List.{flat_map, range_with_len}
use Rattle.rand_pcg.specs.Lcg.{Lcg, advance}
use Rattle.rand_pcg.specs.Pcg.{multiplier_64}
use Rattle.lop_model.specs.Matrix.{matrix_of, absolute_total, Matrix, IsShaped}
use Rattle.lop_gen.specs.Drawn.{drawn_row}
use Rattle.lop_gen.specs.Generated.{generator_of, generated_row, generated_matrix}
use Rattle.lop_gen.specs.Text.{HasNarrowDiagonal}
use Rattle.lop_gen.proofs.DrawnLemmas.{advance-none, drawn_row-generated, generated-more, draws-more-rows, entries-generated_matrix, length-generated}
use Rattle.lop_gen.proofs.SmallLemmas.{generated-light, generated-narrow, no_fault}
use Rattle.lop_gen.proofs.matrix.generate.Goals as goal

pub loop-row-init : goal.loop-row-init
loop-row-init c =
    let none : 0 * (c.args.n - 1) ≡ 0 = omega arith in
    record {
      entries = c.in_ok-entries.ensures.items;
      drawn = c.seed_from_u64-generator.ensures ∙ sym (ap (λ (k : ℕ). advance 64 multiplier_64 k (generator_of c.args.seed)) none ∙ advance-none (generator_of c.args.seed));
    }

pub loop-row-preserved : goal.loop-row-preserved
loop-row-preserved c =
    let seed = c.args.seed in
    let n = c.args.n in
    let row = c.loop-row.row in
    let old = c.loop-row.entries.items in
    record {
      entries = c.in_ok-push_row.ensures.entries
          ∙ ap (λ (g : Lcg). old ++ drawn_row g n row) c.loop-row.invariant.drawn
          ∙ ap (λ (l : List ℤ). old ++ l) (drawn_row-generated seed n row)
          ∙ ap (λ (l : List ℤ). l ++ generated_row seed n row) c.loop-row.invariant.entries
          ∙ sym (generated-more seed n row);
      drawn = c.in_ok-push_row.ensures.drawn ∙ ap (advance 64 multiplier_64 (n - 1)) c.loop-row.invariant.drawn ∙ draws-more-rows seed n row;
    }

pub unreachable-requires : goal.unreachable-requires
unreachable-requires c =
    let seed = c.args.seed in
    let n = c.args.n in
    let items = c.loop-row.entries.items in
    let all : c.loop-row.row ≡ n = omega arith in
    let whole : items ≡ flat_map (λ i. generated_row seed n i) (range_with_len 0 n) = c.loop-row.invariant.entries ∙ ap (λ (k : ℕ). flat_map (λ i. generated_row seed n i) (range_with_len 0 k)) all in
    let shaped : IsShaped n items = record { positive = omega arith; within_limit = omega arith; square = length-generated seed n items whole } in
    let light : absolute_total (matrix_of n items) ≤ℤ pos (10 ^ 18) = let P : Matrix → Type 0 = λ C. absolute_total C ≤ℤ pos (10 ^ 18) in subst P (sym (entries-generated_matrix seed n items whole)) (generated-light seed n (omega arith)) in
    no_fault n items c.in-Err.field-0 shaped light c.in-Err.ensures.fault

pub returns-clause-weights : goal.returns-clause-weights
returns-clause-weights c =
    let seed = c.args.seed in
    let n = c.args.n in
    let items = c.loop-row.entries.items in
    let all : c.loop-row.row ≡ n = omega arith in
    let whole : items ≡ flat_map (λ i. generated_row seed n i) (range_with_len 0 n) = c.loop-row.invariant.entries ∙ ap (λ (k : ℕ). flat_map (λ i. generated_row seed n i) (range_with_len 0 k)) all in
    c.in-Ok.ensures.ok.1 ∙ entries-generated_matrix seed n items whole

pub returns-clause-diagonal : goal.returns-clause-diagonal
returns-clause-diagonal c =
    let seed = c.args.seed in
    let n = c.args.n in
    let items = c.loop-row.entries.items in
    let all : c.loop-row.row ≡ n = omega arith in
    let whole : items ≡ flat_map (λ i. generated_row seed n i) (range_with_len 0 n) = c.loop-row.invariant.entries ∙ ap (λ (k : ℕ). flat_map (λ i. generated_row seed n i) (range_with_len 0 k)) all in
    let same : c.in-Ok.weights ≡ generated_matrix seed n = c.in-Ok.ensures.ok.1 ∙ entries-generated_matrix seed n items whole in
    let P : Matrix → Type 0 = λ C. HasNarrowDiagonal C in subst P (sym same) (generated-narrow seed n)
