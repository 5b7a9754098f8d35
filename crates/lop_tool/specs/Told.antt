-- What a run leaves of the world that a desk tells.
use Rattle.std.specs.Prelude.{◌≡◌, ℕ, List, Option, None, Some}
use Rattle.lop_desk.specs.World.{World, NamedFile, put_file, with_opened, with_made, with_printed}

-- the files, where they are told
abbrev pub files_of : Option World → Option (List NamedFile)
files_of None = None
files_of (Some w) = Some w.files

-- the files and the printed bytes alone: no file stands open, and none is being made
abbrev pub at_rest : Option World → Option World
at_rest told = with_made None (with_opened None told)

-- this file stands among the files, if there is one
abbrev pub with_file : Option NamedFile → Option World → Option World
with_file None told = told
with_file (Some file) None = None
with_file (Some file) (Some w) = Some (record w { files = put_file file w.files })

-- the printed bytes get this text, and this file stands among the files, if there is one
abbrev pub Leaves : List ℕ → Option NamedFile → Option World → Option World → Type 0
Leaves text left old new = at_rest new ≡ with_printed text (with_file left (at_rest old))

-- the files stay, and the printed bytes get this text
abbrev pub PrintsOnly : Option World → Option World → List ℕ → Type 0
PrintsOnly old new text = Leaves text None old new

-- the files and the printed bytes stay
abbrev pub LeavesAll : Option World → Option World → Type 0
LeavesAll old new = at_rest new ≡ at_rest old
