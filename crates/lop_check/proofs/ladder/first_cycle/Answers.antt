use Rattle.std.proofs.Common.{◌≡◌, ◌≤◌, length, drop, get_or, pos, rules, arith}
use Rattle.std.proofs.lemmas.List.{length-take-le, length-drop}
use Rattle.lop_check.specs.Cycles.{behind}
use Rattle.lop_check.proofs.CutLines.{three_objects, three_read, four_objects, four_read}
use Rattle.lop_check.proofs.ladder.first_cycle.Goals as goal

pub returns-in_ok-objects : goal.returns-in_ok-objects
returns-in_ok-objects c =
    let xs = c.args.numbers.now in
    let named = c.in_ok-objects.ensures in
    let three : get_or xs 0 (pos 0) ≡ pos 3 = search rules in
    let long : 4 ≤ length xs = omega (arith, named.within) in
    let size : length (behind 3 xs) ≡ 3 = length-take-le 3 (drop 1 xs) (omega (arith, long, length-drop 1 xs)) in
    three_read c.args.n xs _ three long named.named
    (three_objects (behind 3 xs) c.deref.result.now c.deref-then-numbers-eq3.result.now c.deref-then-numbers-eq3-2.result.now c.in_ok-objects.objects.items named.are c.deref.ensures.0 c.deref-then-numbers-eq3.ensures.0 c.deref-then-numbers-eq3-2.ensures.0 size)

pub returns-in_ok-objects-2 : goal.returns-in_ok-objects-2
returns-in_ok-objects-2 c =
    let xs = c.args.numbers.now in
    let named = c.in_ok-objects-2.ensures in
    let four : get_or xs 0 (pos 0) ≡ pos 4 = search rules in
    let long : 5 ≤ length xs = omega (arith, named.within) in
    let size : length (behind 4 xs) ≡ 4 = length-take-le 4 (drop 1 xs) (omega (arith, long, length-drop 1 xs)) in
    four_read c.args.n xs _ four long named.named
    (four_objects (behind 4 xs) c.deref-then-numbers-eq4.result.now c.deref-then-numbers-eq4-2.result.now c.deref-then-numbers-eq4-3.result.now c.deref-then-numbers-eq4-4.result.now c.in_ok-objects-2.objects.items named.are
    c.deref-then-numbers-eq4.ensures.0 c.deref-then-numbers-eq4-2.ensures.0 c.deref-then-numbers-eq4-3.ensures.0 c.deref-then-numbers-eq4-4.ensures.0 size)
