use Rattle.std.proofs.Common.{◌≡◌, ◌<◌, ap, length, arith}
use Rattle.std.proofs.lemmas.Grind.{common_steps}
use Rattle.lop_model.specs.Order.{IsOrder, after_insertion}
use Rattle.lop_model.proofs.InsertLemmas.{IsOrder-after_insertion}
use Rattle.lop_model.proofs.order.Order.reinsert.Goals as goal

pub invariant_of-self : goal.invariant_of-self
invariant_of-self c =
    let s = c.self.inside.objects.items in
    let t = after_insertion s c.args.from c.args.to in
    let within : c.args.from < length s = omega (arith, c.requires.from, ap length c.self.view_is) in
    let order : IsOrder (length s) t = IsOrder-after_insertion (length s) s c.args.from c.args.to c.self.invariant.1 within in
    let put : c.insert.new.self.items ≡ t = grind (arith, common_steps) in
    let whole : length t ≡ length s = order.complete in
    rw (put, whole) (c.self.invariant.0, order)
