use Rattle.lop_node.proofs.SoundLemmas.{fixes}
use Rattle.lop_node.proofs.pack_judge.fix_path.Goals as goal

pub unwrap-requires : goal.unwrap-requires
unwrap-requires c = fixes c.args.fixings.now.size c.args.path.now c.of_path.new.self.pairs c.of_path.result c.of_path.ensures.fault c.requires
