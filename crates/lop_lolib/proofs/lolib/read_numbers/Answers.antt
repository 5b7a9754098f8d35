use Rattle.std.proofs.Common.{◌≡◌, ◌∙◌, ℕ, ◌*◌, ◌++◌, ◌∷◌, [], ℤ, length, Err, ap, sym, FitsSigned, w64, arith, rules}
use Rattle.std.proofs.lemmas.Int.{to_z-of_z}
use Rattle.std.proofs.lemmas.Result.{err_from_is_err_and}
use Rattle.lop_lolib.specs.declared.refusal.LolibRefusal.{LolibRefusal}
use Rattle.lop_lolib.specs.declared.refusal.LolibRefusal.TheVariants.{Short}
use Rattle.lop_lolib.specs.Reading.{entry_refusal}
use Rattle.lop_lolib.proofs.EntriesLemmas.{greater-is, first_entries-more, first_entries-numbers, rows_reading-bad, rows_reading-short, rows_reading-all, IsRefusal-from}
use Rattle.lop_lolib.proofs.lolib.read_numbers.Goals as goal

pub returns-in_default-clause-refusal : goal.returns-in_default-clause-refusal
returns-in_default-clause-refusal c =
    let count : length c.loop-words.digits.items ≡ c.len-in_default.result = omega arith in
    rows_reading-short _ _ c.loop-words.digits.items c.loop-words.decimals.items c.loop-words.most c.loop-words.invariant.so_far c.args.n c.in_default.ensures.steps.0 (omega arith)
    ∙ ap (λ (k : ℕ). Err (Short k)) count

pub returns-in_err-entry-clause-refusal : goal.returns-in_err-entry-clause-refusal
returns-in_err-entry-clause-refusal c =
    let word = c.in-Some.word.now in
    let count : length c.loop-words.digits.items ≡ c.len-in-loop-words.result = omega arith in
    let refused = c.in_err-entry.ensures.refusal in
    let found = rows_reading-bad _ _ _ c.loop-words.digits.items c.loop-words.decimals.items c.loop-words.most word c.loop-words.invariant.so_far c.in-Some.ensures.steps c.args.n (omega arith) refused.0 in
    let p = err_from_is_err_and c.from_residual-in_err-entry.result c.from_residual-in_err-entry.ensures.1 in
    rw (p.1, p.2) (IsRefusal-from _ c.in_err-entry.field-0.0 (found ∙ ap (λ (k : ℕ). Err (entry_refusal k word)) count ∙ ap (λ (r : LolibRefusal). Err r) (sym refused.1)))

pub loop-words-preserved : goal.loop-words-preserved
loop-words-preserved c =
    let items = c.loop-words.digits.items in
    let entry = c.in_ok-entry.entry.digits in
    let facts = c.in_ok-entry.ensures.entry in
    let fits : FitsSigned w64 entry = search rules in
    let pushed : c.push.new.self.items ≡ items ++ entry ∷ [] = c.in_ok-push.ensures.items ∙ ap (λ (v : ℤ). items ++ v ∷ []) (to_z-of_z w64 entry fits) in
    record {
      so_far = first_entries-more _ _ _ items c.loop-words.decimals.items c.loop-words.most c.in-Some.word.now c.loop-words.invariant.so_far c.in-Some.ensures.steps entry c.push.new.self.items c.in_ok-entry.entry.decimals c.push-in-loop-words.new.self.items c.max-most.result pushed c.in_ok-push-2.ensures.items (c.max-most.ensures ∙ greater-is c.loop-words.most c.in_ok-entry.entry.decimals) facts.0 facts.1 facts.2;
      within = omega (arith, ap length pushed);
    }

pub returns-clause-numbers : goal.returns-clause-numbers
returns-clause-numbers c =
    let full : length c.loop-words.digits.items ≡ c.args.n * c.args.n = omega arith in
    (full, first_entries-numbers _ _ c.loop-words.digits.items c.loop-words.decimals.items c.loop-words.most c.loop-words.invariant.so_far c.args.n full)

pub returns-clause-reading : goal.returns-clause-reading
returns-clause-reading c =
    let full : length c.loop-words.digits.items ≡ c.args.n * c.args.n = omega arith in
    rows_reading-all _ _ c.loop-words.digits.items c.loop-words.decimals.items c.loop-words.most c.loop-words.invariant.so_far c.args.n full
