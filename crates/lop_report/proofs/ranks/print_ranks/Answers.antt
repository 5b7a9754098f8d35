use Rattle.std.proofs.Common.{rules, arith, ◌≡◌, ◌<◌, ◌≤◌, ◌∙◌, ℕ, List, [], length, get_or, sym, ap}
use Rattle.std.specs.List.{range_with_len}
use Rattle.std.proofs.lemmas.List.FromFn.{length-range_with_len, get_or-range_with_len}
use Rattle.lop_desk.proofs.Worlds.{printed_none}
use Rattle.lop_report.specs.Lines.{named_line, rank_line}
use Rattle.lop_report.proofs.Pieces.{pieces_cut, pieces_more, pieces_all}
use Rattle.lop_report.proofs.ranks.print_ranks.Goals as goal

-- the line that is printed is the one of the place
line_of : (names : List (List ℕ)) (s : List ℕ) (place object : ℕ) (name : List ℕ) → place < length s → object ≡ get_or s place 0 → name ≡ get_or names object []
    → named_line place object name ≡ rank_line names s (get_or (range_with_len 0 (length s)) place 0)
line_of names s place object name inside is named =
    let here : get_or (range_with_len 0 (length s)) place 0 ≡ place = omega (arith, get_or-range_with_len 0 (length s) place 0 inside) in
    ap (λ (text : List ℕ). named_line place object text) named
    ∙ ap (λ (a : ℕ). named_line place a (get_or names a [])) is
    ∙ ap (rank_line names s) (sym here)

places : (s : List ℕ) (place : ℕ) → place < length s → place < length (range_with_len 0 (length s))
places s place inside = omega (arith, length-range_with_len 0 (length s))

pub loop-place-init : goal.loop-place-init
loop-place-init g c = record {
  later = search rules;
  printed = sym (printed_none (g.D.Desk.told c.args.desk.now));
}

pub returns-in_err-print_rank-clause-effect : goal.returns-in_err-print_rank-clause-effect
returns-in_err-print_rank-clause-effect g c =
    let names = c.args.profile.now.names in
    let s = c.args.order.now in
    let inside : c.loop-place.place < length s = search rules in
    pieces_cut (rank_line names s) (range_with_len 0 (length s)) c.loop-place.place 0 (places s c.loop-place.place inside) _ _ _ _ _ _
    (line_of names s c.loop-place.place _ _ inside c.at-object.ensures.value c.name.ensures) c.loop-place.invariant.printed c.from_residual.ensures.1 c.in_err-print_rank.ensures.effect

pub loop-place-preserved : goal.loop-place-preserved
loop-place-preserved g c =
    let names = c.args.profile.now.names in
    let s = c.args.order.now in
    let inside : c.loop-place.place < length s = search rules in
    record {
      later = search rules;
      printed = pieces_more (rank_line names s) (range_with_len 0 (length s)) c.loop-place.place 0 (places s c.loop-place.place inside) _ _ _ _
          (line_of names s c.loop-place.place _ _ inside c.at-object.ensures.value c.name.ensures) c.loop-place.invariant.printed c.in_ok-print_rank.ensures.effect;
    }

pub returns-clause-effect : goal.returns-clause-effect
returns-clause-effect g c =
    let names = c.args.profile.now.names in
    let s = c.args.order.now in
    let over : length s ≤ c.loop-place.place = search rules in
    pieces_all (rank_line names s) (range_with_len 0 (length s)) c.loop-place.place _ _ (omega (arith, length-range_with_len 0 (length s))) c.loop-place.invariant.printed
