use Rattle.std.proofs.Common.{◌≡◌, rules}
use Rattle.std.specs.Option.{option_copied}
use Rattle.lop_desk.specs.World.{file_named}
use Rattle.lop_desk.proofs.Files.{there_as_named}
use Rattle.lop_desk.proofs.memory.MemoryDesk.file.Goals as goal

pub returns-clause-there : goal.returns-clause-there
returns-clause-there c =
    let found : option_copied c.find.result ≡ file_named c.args.self.now.world.files c.args.name.now = search rules in
    there_as_named c.find.result c.args.self.now.world.files c.args.name.now found
