use Rattle.std.proofs.Common.{◌≡◌, ◌∙◌, ◌-◌, ap, sym, subst, rules, List, ℕ, ℤ, true, take, drop, get_or, nat_abs, pos, length, w64, to_z, of_z, FitsSigned}
use Rattle.std.proofs.lemmas.Int.{to_z-of_z}
use Rattle.std.proofs.lemmas.List.{take_rest}
use Rattle.lop_certtext.specs.RecordLine.{is_record_row}
use Rattle.lop_check.specs.Records.{IsRow}
use Rattle.lop_check.proofs.NodeLemmas.{row_is}
use Rattle.lop_check.proofs.record.record_of.Goals as goal

pub returns-then-is_record_row : goal.returns-then-is_record_row
returns-then-is_record_row c =
    let ns = c.args.numbers.now in
    let count = c.args.count in
    let s : ℤ = get_or ns 0 (pos 0) in
    let t : ℤ = get_or ns 1 (pos 0) in
    let fit_s : FitsSigned w64 s = search rules in
    let fit_t : FitsSigned w64 t = search rules in
    let test : is_record_row count (nat_abs s) (nat_abs t) (drop 2 ns) ≡ true =
    ap (λ (l : List ℤ). is_record_row count (nat_abs s) (nat_abs t) l) (sym (take_rest ns 2))
    ∙ ap (λ (x : ℤ). is_record_row count (nat_abs x) (nat_abs t) (take (length ns - 2) (drop 2 ns))) (sym (to_z-of_z w64 s fit_s))
    ∙ ap (λ (x : ℤ). is_record_row count (nat_abs (to_z w64 (of_z w64 s))) (nat_abs x) (take (length ns - 2) (drop 2 ns))) (sym (to_z-of_z w64 t fit_t))
    ∙ sym c.is_record_row.ensures ∙ c.if-is_record_row.true in
    let scale : c.unsigned_abs.result ≡ nat_abs s = c.unsigned_abs.ensures.value ∙ ap nat_abs (to_z-of_z w64 s fit_s) in
    subst (λ (k : ℕ). IsRow count ns k (take (length ns - 2) (drop 2 ns))) (sym scale)
    (subst (IsRow count ns (nat_abs s)) (sym (take_rest ns 2)) (row_is count ns c.in-len2-up.len_at_least test))
