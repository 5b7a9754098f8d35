-- How the records lie in their rooms.
use Rattle.std.specs.Prelude.{◌+◌, ◌≤◌, List, length, map, take, drop, All}
use Rattle.std.specs.Vec.{vec_capacity}
use Rattle.lop_cuts.specs.declared.limits.TheConstants.{MAX_TERMS}
use Rattle.lop_core.specs.declared.records.NumberedTerm.{NumberedTerm}
use Rattle.lop_core.specs.declared.records.Span.{Span}
use Rattle.lop_core.specs.declared.records.Records.{Records}
use Rattle.lop_core.specs.Records.{NodeRecord, RecordBook, IsRecordBook, record_at, cut_room, term_room}
use Rattle.lop_core.specs.declared.search.TheConstants.{MAX_BUDGET}

-- the record of a span of the room
abbrev pub record_of : List NumberedTerm → Span → NodeRecord
record_of room span = record { scale = span.scale; terms = take span.count (drop span.first room) }

-- the records by number
abbrev pub kept_of : Records → List NodeRecord
kept_of r = map (record_of r.terms.items) r.spans.items

-- the records as contracts see them
abbrev pub book_of : Records → RecordBook
book_of r = record { cuts = r.cuts; used = length r.terms.items; records = map (record_at (kept_of r)) r.numbers.items; numbers = r.numbers.items; kept = kept_of r }

-- the records are in order, each span lies within the terms, and the rooms have what they were made for
pub record AreKept (r : Records) : Type 0 where
  pub book : IsRecordBook (book_of r)
  pub inside : All (λ s. s.first + s.count ≤ length r.terms.items) r.spans.items
  pub few_cuts : length r.cuts ≤ cut_room
  pub few_terms : r.term_room ≤ term_room MAX_BUDGET
  pub for_terms : r.term_room ≤ vec_capacity r.terms
  pub within : length r.terms.items ≤ r.term_room
  pub for_fresh : MAX_TERMS ≤ vec_capacity r.fresh
