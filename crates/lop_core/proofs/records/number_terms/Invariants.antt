use Rattle.std.proofs.Common.{◌≡◌, ◌<◌, ◌≤◌, ◌++◌, length, take}
use Rattle.std.specs.Prelude.{All, vec_capacity}
use Rattle.lop_core.specs.Records.{new_cuts, terms_of}
use Rattle.lop_core.proofs.records.number_terms.Given as goal

abbrev pub invariant-loop-index : goal.invariant-loop-index
invariant-loop-index l = record {
  cuts : l.cuts ≡ l.initial.cuts ++ new_cuts l.initial.cuts (take l.index l.shown.terms);
  terms : terms_of l.cuts l.fresh.items ≡ take l.index l.shown.terms;
  listed : All (λ t. t.cut < length l.cuts) l.fresh.items;
  room : vec_capacity l.initial.fresh ≤ vec_capacity l.fresh;
}
