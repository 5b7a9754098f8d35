use Rattle.std.proofs.Common.{map, sym, ◌∙◌, arith}
use Rattle.std.proofs.lemmas.Result.{err_from_is_err_and}
use Rattle.lop_preflib.specs.Refusal.{order_refusal, items_refusal}
use Rattle.lop_preflib.specs.Line.{pieces_in}
use Rattle.lop_preflib.specs.Groups.{item_of}
use Rattle.lop_preflib.proofs.OrderLemmas.{IsCut, IsCut-parts, refused-count, refused-ties, refused-items, refused-votes, order_read, IsStop-items}
use Rattle.lop_preflib.proofs.order.read_order.Goals as goal

pub returns-in_default-number_up_to-clause-refusal : goal.returns-in_default-number_up_to-clause-refusal
returns-in_default-number_up_to-clause-refusal c =
    let cut : IsCut c.args.line.now c.trim-2.result.now c.in-Some.list.now = IsCut-parts c.args.line.now c.trim.result.now c.in-Some.front.now c.in-Some.list.now c.trim-2.result.now c.trim.ensures c.in-Some.ensures c.trim-2.ensures in
    refused-count c.args.n c.args.voters c.args.number c.args.line.now c.trim-2.result.now c.in-Some.list.now cut c.in_default-number_up_to.ensures

pub returns-then-has_bad_ties-clause-refusal : goal.returns-then-has_bad_ties-clause-refusal
returns-then-has_bad_ties-clause-refusal c =
    let cut : IsCut c.args.line.now c.trim-2.result.now c.in-Some.list.now = IsCut-parts c.args.line.now c.trim.result.now c.in-Some.front.now c.in-Some.list.now c.trim-2.result.now c.trim.ensures c.in-Some.ensures c.trim-2.ensures in
    refused-ties c.args.n c.args.voters c.args.number c.args.line.now c.trim-2.result.now c.in-Some.list.now cut c.in-Some-number_up_to.ensures.0 (sym c.has_bad_ties.ensures ∙ c.if-has_bad_ties.true)

pub returns-in_err-read_items-clause-refusal : goal.returns-in_err-read_items-clause-refusal
returns-in_err-read_items-clause-refusal c =
    let cut : IsCut c.args.line.now c.trim-2.result.now c.in-Some.list.now = IsCut-parts c.args.line.now c.trim.result.now c.in-Some.front.now c.in-Some.list.now c.trim-2.result.now c.trim.ensures c.in-Some.ensures c.trim-2.ensures in
    let p = err_from_is_err_and c.from_residual.result c.from_residual.ensures.1 in
    rw (p.1, p.2) (IsStop-items (items_refusal c.args.n c.args.number (map item_of (pieces_in c.in-Some.list.now))) (order_refusal c.args.n c.args.voters c.args.number c.args.line.now) c.in_err-read_items.field-0.0 (refused-items c.args.n c.args.voters c.args.number c.args.line.now c.trim-2.result.now c.in-Some.list.now cut c.in-Some-number_up_to.ensures.0 (sym c.has_bad_ties.ensures ∙ c.if-has_bad_ties.false)) c.in_err-read_items.ensures.refusal)

pub returns-then-voters-count-gt-MAX_VOTERS-clause-refusal : goal.returns-then-voters-count-gt-MAX_VOTERS-clause-refusal
returns-then-voters-count-gt-MAX_VOTERS-clause-refusal c =
    let cut : IsCut c.args.line.now c.trim-2.result.now c.in-Some.list.now = IsCut-parts c.args.line.now c.trim.result.now c.in-Some.front.now c.in-Some.list.now c.trim-2.result.now c.trim.ensures c.in-Some.ensures c.trim-2.ensures in
    refused-votes c.args.n c.args.voters c.args.number c.args.line.now c.trim-2.result.now c.in-Some.list.now cut c.in-Some-number_up_to.ensures.0 (sym c.has_bad_ties.ensures ∙ c.if-has_bad_ties.false) c.in-Some-number_up_to.count c.in-Some-number_up_to.ensures.1 c.in_ok-read_items.ensures.good c.if-voters-count-gt-MAX_VOTERS.true

pub returns-clause-order : goal.returns-clause-order
returns-clause-order c =
    let cut : IsCut c.args.line.now c.trim-2.result.now c.in-Some.list.now = IsCut-parts c.args.line.now c.trim.result.now c.in-Some.front.now c.in-Some.list.now c.trim-2.result.now c.trim.ensures c.in-Some.ensures c.trim-2.ensures in
    order_read c.args.n c.args.voters c.args.number c.args.line.now c.trim-2.result.now c.in-Some.list.now cut c.in-Some-number_up_to.ensures.0 (sym c.has_bad_ties.ensures ∙ c.if-has_bad_ties.false) c.in-Some-number_up_to.count c.in-Some-number_up_to.ensures.1 c.in_ok-read_items.ensures.good c.read_items.new.ranking.objects.items c.read_items.new.ranking.groups.items c.in_ok-read_items.ensures.objects c.in_ok-read_items.ensures.groups (omega arith)
