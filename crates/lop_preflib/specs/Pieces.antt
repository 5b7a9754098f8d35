-- The pieces that are left.
use Rattle.std.specs.Prelude.{ℕ, List, [], None, Some}
use Rattle.lop_preflib.specs.Line.{pieces_in}
use Rattle.lop_preflib.specs.declared.pieces.Pieces.{Pieces}

-- the pieces of the text that is left
abbrev pub pieces_left : Pieces → List (List ℕ)
pieces_left pieces = elim pieces.rest [ None ↦ [] | Some text ↦ pieces_in text.now ]
