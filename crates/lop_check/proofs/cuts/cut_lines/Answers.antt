use Rattle.std.proofs.Common.{◌≡◌, ◌<◌, ◌+◌, ◌-◌, ◌∷◌, ◌++◌, ◌∙◌, [], List, Bool, true, cond, length, nat_abs, ap, sym, subst, arith, rules, w64, FitsSigned}
use Rattle.std.proofs.lemmas.Int.{to_z-of_z}
use Rattle.std.proofs.lemmas.List.Elements.{All-push}
use Rattle.std.specs.Prelude.{All}
use Rattle.std.specs.Result.{is_ok}
use Rattle.lop_cuts.specs.declared.kind.CutKind.{CutKind}
use Rattle.lop_cuts.specs.Kind.{IsCut, FitsCut}
use Rattle.lop_certtext.specs.Answer.{only_number}
use Rattle.lop_check.specs.declared.verdict.Verdict.TheVariants as verdict
use Rattle.lop_check.proofs.Walk.{left_off, passes, says}
use Rattle.lop_check.proofs.Steps.{cuts_next}
use Rattle.lop_check.proofs.TreeWalk.{cut_then, cut_on, cut_more, cut_ends, none_yet, none_left}
use Rattle.lop_check.proofs.cuts.cut_lines.Goals as goal

pub returns-in_err-expect-clause-reads : goal.returns-in_err-expect-clause-reads
returns-in_err-expect-clause-reads g c = left_off _ _ _ _ _ _ c.from_residual.ensures.1 ((c.in_err-expect.ensures.stops (cuts_next c.args.weights.now c.args.claim.version c.args.claim.value c.args.claim.bound)))

pub lines-init : goal.lines-init
lines-init g c =
    let C = c.args.weights.now in
    let ns = c.expect.new.self.numbers in
    let k = c.expect.new.self.number in
    let fits : FitsSigned w64 c.only_number.result = search rules in
    let read : c.unsigned_abs-count.result ≡ nat_abs (only_number ns) = c.unsigned_abs-count.ensures.value ∙ ap nat_abs (to_z-of_z w64 c.only_number.result fits ∙ c.only_number.ensures) in
    record {
      right = search rules;
      so_far = passes _ _ _ _ _ (λ lines. none_yet C c.args.claim.version c.args.claim.value c.args.claim.bound (nat_abs (only_number ns)) c.unsigned_abs-count.result (k + 1) c.args.cuts.now.items lines read c.requires.none) ((c.in_ok-expect.ensures.goes (cuts_next C c.args.claim.version c.args.claim.value c.args.claim.bound)));
    }

pub cut_line-requires : goal.cut_line-requires
cut_line-requires g c = c.lines.invariant.so_far.reading

pub returns-in_err-cut-clause-reads : goal.returns-in_err-cut-clause-reads
returns-in_err-cut-clause-reads g c =
    let C = c.args.weights.now in
    let cuts = c.lines.cuts.items in
    let count = c.unsigned_abs-count.result in
    let less : length cuts < count = omega (arith, c.lines-test.true, c.len.ensures, c.lines.cuts.ok) in
    left_off _ _ _ _ _ _ c.from_residual-in_err-cut.ensures.1
    (cut_ends C c.args.claim.version c.args.claim.value c.args.claim.bound count c.n.result cuts _ _ _ _ _ _ less c.n.ensures.size c.lines.invariant.so_far
    ((c.in_err-cut.ensures.stops (cut_then C c.args.claim.version c.args.claim.value c.args.claim.bound (count - (length cuts + 1)) cuts))))

pub returns-then-is_err-clause-reads : goal.returns-then-is_err-clause-reads
returns-then-is_err-clause-reads g c =
    let C = c.args.weights.now in
    let cuts = c.lines.cuts.items in
    let count = c.unsigned_abs-count.result in
    let less : length cuts < count = omega (arith, c.lines-test.true, c.len.ensures, c.lines.cuts.ok) in
    says _ _ _ _ verdict.Memory (λ lines. tt) tt
    (cut_on C c.args.claim.version c.args.claim.value c.args.claim.bound count c.n.result cuts _ _ _ _ _ _ _ less c.n.ensures.size c.lines.invariant.so_far
    ((c.in_ok-cut.ensures.goes (cut_then C c.args.claim.version c.args.claim.value c.args.claim.bound (count - (length cuts + 1)) cuts))))

pub lines-preserved : goal.lines-preserved
lines-preserved g c =
    let C = c.args.weights.now in
    let cuts = c.lines.cuts.items in
    let count = c.unsigned_abs-count.result in
    let cut = c.in_ok-cut.cut in
    let less : length cuts < count = omega (arith, c.lines-test.true, c.len.ensures, c.lines.cuts.ok) in
    let ok : is_ok c.push.result ≡ true = search rules in
    let pushed : c.push.new.self.items ≡ cuts ++ cut ∷ [] = c.push.ensures.items ∙ ap (λ (b : Bool). cond b (cuts ++ cut ∷ []) cuts) ok in
    let is = rw c.n.ensures.size at c.in_ok-cut.ensures.right in
    record {
      right = record {
        right = subst (λ (l : List CutKind). All IsCut l) (sym pushed) (All-push IsCut cuts cut c.lines.invariant.right.right is.right);
        fit = subst (λ (l : List CutKind). All (FitsCut C.size) l) (sym pushed) (All-push (FitsCut C.size) cuts cut c.lines.invariant.right.fit is.fits);
      };
      so_far = cut_more C c.args.claim.version c.args.claim.value c.args.claim.bound count cuts c.push.new.self.items cut _ _ _ _ pushed
          (cut_on C c.args.claim.version c.args.claim.value c.args.claim.bound count c.n.result cuts cut _ _ _ _ _ _ less c.n.ensures.size c.lines.invariant.so_far
          ((c.in_ok-cut.ensures.goes (cut_then C c.args.claim.version c.args.claim.value c.args.claim.bound (count - (length cuts + 1)) cuts))));
    }

pub returns-clause-reads : goal.returns-clause-reads
returns-clause-reads g c =
    let cuts = c.lines.cuts.items in
    let count = c.unsigned_abs-count.result in
    passes _ _ _ _ _ (λ lines. none_left c.args.weights.now c.args.claim.version c.args.claim.value c.args.claim.bound count (length cuts) cuts _ lines (omega (arith, c.lines-test.false, c.len.ensures, c.lines.cuts.ok))) c.lines.invariant.so_far
