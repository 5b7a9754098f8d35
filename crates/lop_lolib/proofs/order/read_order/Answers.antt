use Rattle.std.proofs.Common.{◌≡◌, ◌∙◌, ℕ, List, Ok, map, ap, sym, arith}
use Rattle.lop_desk.specs.Number.{whole_value}
use Rattle.lop_lolib.specs.Words.{words_of}
use Rattle.lop_lolib.specs.ClampedObject.{clamped_object}
use Rattle.lop_lolib.proofs.ObjectsLemmas.{objects_reading-order, objects_reading-out, objects_reading-repeated, objects-named}
use Rattle.lop_lolib.proofs.order.read_order.Goals as goal

pub returns-in-Ok-clause-order : goal.returns-in-Ok-clause-order
returns-in-Ok-clause-order c =
    let words = words_of c.args.bytes.now in
    let items = c.in_ok-objects.objects.items in
    let named : items ≡ map clamped_object (map whole_value words) = objects-named words items c.in_ok-objects.ensures.objects in
    c.in_ok-objects.ensures.numbers
    ∙ objects_reading-order c.args.n (map whole_value words) items (omega arith) named c.in_ok-objects.ensures.len c.in-Ok.ensures.ok.0
    ∙ ap (λ (l : List ℕ). Ok l) (sym c.in-Ok.ensures.ok.1)

pub returns-in-Err-OutOfRange-clause-refusal : goal.returns-in-Err-OutOfRange-clause-refusal
returns-in-Err-OutOfRange-clause-refusal c =
    let words = words_of c.args.bytes.now in
    let items = c.in_ok-objects.objects.items in
    let named : items ≡ map clamped_object (map whole_value words) = objects-named words items c.in_ok-objects.ensures.objects in
    let fault = rw c.in-Err-OutOfRange.field-0-is at c.in-Err-OutOfRange.ensures.fault in
    c.in_ok-objects.ensures.numbers
    ∙ objects_reading-out c.args.n (map whole_value words) items (omega arith) named c.in_ok-objects.ensures.len c.in-Err-OutOfRange.place fault.1 fault.2 fault.3

pub returns-in-Err-Repeated-clause-refusal : goal.returns-in-Err-Repeated-clause-refusal
returns-in-Err-Repeated-clause-refusal c =
    let words = words_of c.args.bytes.now in
    let items = c.in_ok-objects.objects.items in
    let named : items ≡ map clamped_object (map whole_value words) = objects-named words items c.in_ok-objects.ensures.objects in
    let fault = rw c.in-Err-Repeated.field-0-is at c.in-Err-Repeated.ensures.fault in
    c.in_ok-objects.ensures.numbers
    ∙ objects_reading-repeated c.args.n (map whole_value words) items (omega arith) named c.in_ok-objects.ensures.len c.in-Err-Repeated.place fault.1 fault.2 fault.3
