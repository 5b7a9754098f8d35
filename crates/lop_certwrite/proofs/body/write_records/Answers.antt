use Rattle.std.proofs.Common.{rules, ◌∙◌, ◌<◌, length, get_or, ap, List, ℤ}
use Rattle.lop_core.specs.Records.{record_at}
use Rattle.lop_certtext.specs.declared.word.CertWord.TheVariants.{RecordLine}
use Rattle.lop_certwrite.specs.Walk.{user_line}
use Rattle.lop_certwrite.proofs.CutLines.{each_cut, each_more}
use Rattle.lop_certwrite.proofs.LeafLemmas.{record_row}
use Rattle.lop_certwrite.proofs.body.write_records.Goals as goal

pub write_line-requires-clause-row : goal.write_line-requires-clause-row
write_line-requires-clause-row g c =
    let e = c.deref.ensures.0 ∙ c.fill_record.ensures.numbers in
    rw e (record_row (length c.args.core.now.book.cuts) (record_at c.args.core.now.book.records (get_or c.args.users.now c.loop-node.node-index 0)) c.fill_record.ensures.terms c.requires.few_cuts).row

pub write_line-requires-clause-short : goal.write_line-requires-clause-short
write_line-requires-clause-short g c =
    let e = c.deref.ensures.0 ∙ c.fill_record.ensures.numbers in
    rw e (record_row (length c.args.core.now.book.cuts) (record_at c.args.core.now.book.records (get_or c.args.users.now c.loop-node.node-index 0)) c.fill_record.ensures.terms c.requires.few_cuts).short

pub returns-in_err-write_line-clause-effect : goal.returns-in_err-write_line-clause-effect
returns-in_err-write_line-clause-effect g c =
    let inside : c.loop-node.node-index < length c.args.users.now = search rules in
    each_cut (user_line c.args.core.now.book.records) c.args.users.now c.loop-node.node-index 0 inside _ _ _ _ _ _
    (ap (λ (ns : List ℤ). record { word = RecordLine; numbers = ns }) (c.deref.ensures.0 ∙ c.fill_record.ensures.numbers))
    c.loop-node.invariant.written c.from_residual.ensures.1 c.in_err-write_line.ensures.effect

pub loop-node-preserved : goal.loop-node-preserved
loop-node-preserved g c =
    let inside : c.loop-node.node-index < length c.args.users.now = search rules in
    record {
      making = search rules;
      later = search rules;
      written = each_more (user_line c.args.core.now.book.records) c.args.users.now c.loop-node.node-index 0 inside _ _ _ _
          (ap (λ (ns : List ℤ). record { word = RecordLine; numbers = ns }) (c.deref.ensures.0 ∙ c.fill_record.ensures.numbers))
          c.loop-node.invariant.written c.in_ok-write_line.ensures.effect;
    }
