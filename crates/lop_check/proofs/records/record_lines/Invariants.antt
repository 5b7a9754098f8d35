use Rattle.std.proofs.Common.{◌+◌, ◌-◌, length}
use Rattle.lop_model.specs.Matrix.{Matrix}
use Rattle.lop_model.specs.Closing.{closed}
use Rattle.lop_certtext.specs.declared.version.CertVersion.TheVariants.{Two}
use Rattle.lop_certtext.specs.Answer.{records_step, records_left_step}
use Rattle.lop_check.specs.Walk.{IsReading, ReadsOn, spot}
use Rattle.lop_check.specs.Records.{AreRecords}
use Rattle.lop_check.proofs.records.record_lines.Given as goal

abbrev pub invariant-lines : goal.invariant-lines
invariant-lines g l = record {
  right : AreRecords (length l.cuts) l.records;
  reading_is : IsReading (spot (g.D.Desk.told l.desk) (g.D.Desk.faults l.desk) l.reading);
  so_far : (C : Matrix) → ReadsOn (spot (g.D.Desk.told l.fn.desk) (g.D.Desk.faults l.fn.desk) l.fn.reading) (spot (g.D.Desk.told l.desk) (g.D.Desk.faults l.desk) l.reading) (records_step closed C Two l.cuts l.fn.claim.value l.fn.claim.bound (l.fn.reading.number + 1)) (records_left_step closed C l.cuts l.fn.claim.value l.fn.claim.bound (l.count - length l.records) l.records (l.reading.number + 1));
}

abbrev pub decreases-lines : goal.decreases-lines
decreases-lines g l = l.count - length l.records
