use Rattle.std.proofs.Common.{◌∙◌, arith, sym}
use Rattle.std.proofs.lemmas.List.{length-map}
use Rattle.lop_core.specs.Kept.{book_of}
use Rattle.lop_core.proofs.SameRecords.{own_taken}
use Rattle.lop_core.proofs.records.Records.offer.Goals as goal

pub returns-then-is_own-clause-taken : goal.returns-then-is_own-clause-taken
returns-then-is_own-clause-taken c =
    own_taken (book_of c.args.self.now) c.args.node c.args.shown.now c.requires.kept.book (rw length-map (omega (arith, c.requires.inside))) c.is_own.ensures.shown (sym c.if-is_own.true ∙ c.is_own.ensures.own)
