use Rattle.std.proofs.Common.{◌≡◌, List, ℕ, false, subst, sym, ◌∙◌, ap}
use Rattle.lop_preflib.specs.Line.{pieces_in}
use Rattle.lop_preflib.specs.Pieces.{pieces_left}
use Rattle.lop_preflib.proofs.GroupsLemmas.{AreGood, are_good-none, are_good-more, bad_ties-here, bad_ties-end, bad_parts, open_parts}
use Rattle.lop_preflib.proofs.groups.has_bad_pieces.Goals as goal

pub loop-text-init : goal.loop-text-init
loop-text-init c =
    let pieces = pieces_in c.args.list.now in
    let left : pieces_left c.into_iter-text-iterator.result ≡ pieces = ap pieces_left c.into_iter-text-iterator.ensures.into_iter_gives in
    subst (λ (l : List (List ℕ)). AreGood pieces l false) (sym left) (are_good-none pieces)

pub returns-then-is_bad : goal.returns-then-is_bad
returns-then-is_bad c =
    let parts = c.parts_of-piece.ensures in
    let bad = sym (bad_parts c.loop-text.inside c.in-Some.text.now _ _ _ parts.opens parts.closes parts.item) ∙ sym c.is_bad.ensures ∙ c.if-is_bad.true in
    sym (bad_ties-here _ _ _ c.loop-text.inside c.in-Some.text.now c.loop-text.invariant c.in-Some.ensures.steps bad)

pub loop-text-preserved : goal.loop-text-preserved
loop-text-preserved c =
    let parts = c.parts_of-piece.ensures in
    let good = sym (bad_parts c.loop-text.inside c.in-Some.text.now _ _ _ parts.opens parts.closes parts.item) ∙ sym c.is_bad.ensures ∙ c.if-is_bad.false in
    are_good-more _ _ _ c.loop-text.inside c.in-Some.text.now c.loop-text.invariant c.in-Some.ensures.steps _ good (c.leaves_open-inside.ensures ∙ open_parts c.loop-text.inside c.in-Some.text.now _ _ parts.opens parts.closes)

pub returns : goal.returns
returns c = sym (bad_ties-end _ _ c.loop-text.inside c.loop-text.invariant c.in-None.ensures.steps.0)
