use Rattle.std.proofs.Common.{◌≡◌, take}
use Rattle.lop_leaf.proofs.leaf_record.LeafRecord.copy_from.Given as goal

abbrev pub invariant-loop-index : goal.invariant-loop-index
invariant-loop-index l = record {
  scale : l.self.scale ≡ l.other.scale;
  terms : l.self.terms ≡ take l.index l.other.terms;
}
