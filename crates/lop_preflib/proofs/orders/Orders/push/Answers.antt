use Rattle.std.proofs.Common.{◌≡◌, ◌∷◌, ◌++◌, [], List, ℕ, length, map, take, ◌∙◌, ap, arith}
use Rattle.lop_preflib.specs.Profile.{CountedOrder}
use Rattle.lop_preflib.specs.Spans.{order_in}
use Rattle.lop_preflib.proofs.SpansLemmas.{orders-push}
use Rattle.lop_preflib.proofs.orders.Orders.push.Goals as goal

pub returns : goal.returns
returns c =
    let spans = c.self.inside.spans.items in
    let objects = c.self.inside.objects.items in
    let groups = c.self.inside.groups.items in
    let more = c.args.ranked.now in
    let marks = c.args.groups.now in
    let start : c.len-start.result ≡ length objects = omega arith in
    let kept : c.extend_from_slice.new.self.items ≡ take (length objects) groups ++ marks = c.in_ok-extend_from_slice.ensures.items ∙ ap (λ (l : List ℕ). l ++ marks) (c.truncate.ensures.items ∙ ap (λ (n : ℕ). take n groups) start) in
    ap (λ (l : List ℕ). map (order_in c.extend_from_slice-2.new.self.items l) c.push.new.self.items) kept
    ∙ ap (λ (os : List ℕ). map (order_in os (take (length objects) groups ++ marks)) c.push.new.self.items) c.in_ok-extend_from_slice-2.ensures.items
    ∙ ap (map (order_in (objects ++ more) (take (length objects) groups ++ marks))) c.in_ok-push.ensures.items
    ∙ orders-push objects groups more marks c.self.invariant.grouped spans (record { count = c.args.count; start = c.len-start.result; end = c.len-end.result }) c.self.invariant.within start (omega (arith, c.in_ok-extend_from_slice-2.ensures.len)) c.requires.grouped
    ∙ ap (λ (os : List CountedOrder). os ++ record { count = c.args.count; ranked = more; groups = marks } ∷ []) c.self.view_is
