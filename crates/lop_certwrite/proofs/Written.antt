-- Pieces that are written one after another, and where that may be cut off.
use Rattle.std.proofs.Common.{◌≡◌, List, ℕ, ◌++◌, Option, Result, IsErrAnd, sym, subst, [], ◌∷◌}
use Rattle.std.proofs.lemmas.List.{append-nil}
use Rattle.std.proofs.lemmas.Grind.{flat_map-append}
use Rattle.std.specs.Prelude.{codes}
use Rattle.lop_desk.specs.World.{World, with_written}
use Rattle.lop_desk.specs.Whole.{WritesFront, WritesAll}
use Rattle.lop_desk.proofs.Worlds.{written_more}
use Rattle.lop_desk.proofs.Pieces.{piece_cut, piece_then}
use Rattle.lop_certtext.specs.Line.{CertLine, line_text}
use Rattle.lop_certtext.specs.Certificate.{text_of}
use Rattle.lop_certwrite.specs.Walk.{line_bytes}

-- a call that failed in the first piece
pub writes_cut : {E : Type 0} (old new : Option World) (first rest : List ℕ) (result : Result (Unit {0}) E) (Q : E → Type 0) → IsErrAnd result Q → WritesFront old new first → WritesAll old new (first ++ rest) result
writes_cut = piece_cut with_written written_more

-- a first piece, and then a call on the rest
pub writes_then : {E : Type 0} (old mid new : Option World) (first rest : List ℕ) (result : Result (Unit {0}) E) → mid ≡ with_written first old → WritesAll mid new rest result → WritesAll old new (first ++ rest) result
writes_then = piece_then with_written written_more

-- the bytes of lines after others
pub text_more : (a b : List CertLine) → text_of (a ++ b) ≡ text_of a ++ text_of b
text_more a b = flat_map-append (λ (l : CertLine). line_text l ++ codes "\n") a b

-- lines and then more lines, by the text of all
pub lines_cut : {E : Type 0} (old new : Option World) (first rest : List CertLine) (result : Result (Unit {0}) E) (Q : E → Type 0) → IsErrAnd result Q → WritesFront old new (text_of first) → WritesAll old new (text_of (first ++ rest)) result
lines_cut old new first rest result Q failed front =
    subst (λ (bs : List ℕ). WritesAll old new bs result) (sym (text_more first rest)) (writes_cut old new (text_of first) (text_of rest) result Q failed front)

pub lines_then : {E : Type 0} (old mid new : Option World) (first rest : List CertLine) (result : Result (Unit {0}) E) → mid ≡ with_written (text_of first) old → WritesAll mid new (text_of rest) result → WritesAll old new (text_of (first ++ rest)) result
lines_then old mid new first rest result done next =
    subst (λ (bs : List ℕ). WritesAll old new bs result) (sym (text_more first rest)) (writes_then old mid new (text_of first) (text_of rest) result done next)

-- the text of one line
pub one_line : (l : CertLine) → text_of (l ∷ []) ≡ line_bytes l
one_line l = append-nil (line_bytes l)

pub line_front : {E : Type 0} (old new : Option World) (l : CertLine) (rest : List CertLine) (result : Result (Unit {0}) E) (Q : E → Type 0) → IsErrAnd result Q → WritesFront old new (line_bytes l) → WritesAll old new (text_of (l ∷ rest)) result
line_front old new l rest result Q failed front = writes_cut old new (line_bytes l) (text_of rest) result Q failed front

pub line_then : {E : Type 0} (old mid new : Option World) (l : CertLine) (rest : List CertLine) (result : Result (Unit {0}) E) → mid ≡ with_written (line_bytes l) old → WritesAll mid new (text_of rest) result → WritesAll old new (text_of (l ∷ rest)) result
line_then old mid new l rest result done next = writes_then old mid new (line_bytes l) (text_of rest) result done next

pub last_line : {E : Type 0} (old new : Option World) (l : CertLine) (result : Result (Unit {0}) E) → WritesAll old new (line_bytes l) result → WritesAll old new (text_of (l ∷ [])) result
last_line old new l result h = subst (λ (bs : List ℕ). WritesAll old new bs result) (sym (one_line l)) h
