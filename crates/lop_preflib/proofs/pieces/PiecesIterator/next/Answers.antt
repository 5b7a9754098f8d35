use Rattle.std.proofs.Common.{◌≡◌, ◌<◌, ◌∷◌, Option, List, ℕ, Bor, length, ◌∙◌, ap, arith}
use Rattle.lop_preflib.specs.Text.{trim}
use Rattle.lop_preflib.specs.Line.{pieces_in}
use Rattle.lop_preflib.specs.Pieces.{pieces_left}
use Rattle.lop_preflib.proofs.ItemsLemmas.{pieces_in-more, pieces_in-last}
use Rattle.lop_preflib.proofs.pieces.PiecesIterator.next.Goals as goal

steps : (c : goal.After-trim) → pieces_left c.args.self.now ≡ c.trim.result.now ∷ pieces_in c.in-Some.behind.now
steps c =
    let left : pieces_left c.args.self.now ≡ pieces_in c.in_ok-rest.rest.now = ap (λ (r : Option (Bor (List ℕ))). pieces_left (record { rest = r })) c.in_ok-rest.was in
    let whole = pieces_in-more c.in_ok-rest.rest.now c.in-Some.ensures.0 in
    let piece = c.trim.ensures ∙ ap trim c.in-Some.ensures.1 in
    let behind = ap pieces_in c.in-Some.ensures.2 in
    left ∙ cc (whole, piece, behind)

pub returns-in-Some-clause-steps : goal.returns-in-Some-clause-steps
returns-in-Some-clause-steps c = steps c

pub returns-in-Some-clause-goes : goal.returns-in-Some-clause-goes
returns-in-Some-clause-goes c =
    let fewer : length (pieces_in c.in-Some.behind.now) < length (pieces_left c.args.self.now) = omega (arith, ap length (steps c)) in
    record { on = λ _. (tt, tt, fewer); keeps = tt; rests = λ _. tt }

pub returns-in-None-clause-steps : goal.returns-in-None-clause-steps
returns-in-None-clause-steps c =
    let left : pieces_left c.args.self.now ≡ pieces_in c.in_ok-rest.rest.now = ap (λ (r : Option (Bor (List ℕ))). pieces_left (record { rest = r })) c.in_ok-rest.was in
    let whole = pieces_in-last c.in_ok-rest.rest.now c.in-None.ensures in
    left ∙ cc (whole, c.trim-in-None.ensures)
