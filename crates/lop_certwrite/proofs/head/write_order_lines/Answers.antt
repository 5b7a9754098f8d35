use Rattle.std.proofs.Common.{rules, ◌≡◌, [], ◌∷◌, length, pos, FitsSigned, w64, arith, ◌∙◌}
use Rattle.std.proofs.lemmas.Int.{to_z-of_z}
use Rattle.lop_certtext.specs.declared.word.CertWord.TheVariants.{Version, Objects, OrderLine, Value}
use Rattle.lop_certtext.specs.Line.{CertLine}
use Rattle.lop_certtext.specs.CutLine.{numbers_of_objects}
use Rattle.lop_certtext.proofs.AcceptedText.{counts-order, row-objects}
use Rattle.lop_certwrite.proofs.Written.{line_front, line_then, last_line}
use Rattle.lop_certwrite.proofs.head.write_order_lines.Goals as goal

pub returns-in_err-write_short_line-clause-effect : goal.returns-in_err-write_short_line-clause-effect
returns-in_err-write_short_line-clause-effect g c =
    let version : CertLine = record { word = Version; numbers = pos 2 ∷ [] } in
    let objects : CertLine = record { word = Objects; numbers = pos (length c.args.order.now) ∷ [] } in
    let order : CertLine = record { word = OrderLine; numbers = numbers_of_objects c.args.order.now } in
    let value : CertLine = record { word = Value; numbers = c.args.value ∷ [] } in
    line_front _ _ version (objects ∷ order ∷ value ∷ []) _ _ c.from_residual.ensures.1 c.in_err-write_short_line.ensures.effect

pub returns-in_err-write_short_line-2-clause-effect : goal.returns-in_err-write_short_line-2-clause-effect
returns-in_err-write_short_line-2-clause-effect g c =
    let read : FitsSigned w64 c.from.result = search rules in
    let version : CertLine = record { word = Version; numbers = pos 2 ∷ [] } in
    let objects : CertLine = record { word = Objects; numbers = pos (length c.args.order.now) ∷ [] } in
    let order : CertLine = record { word = OrderLine; numbers = numbers_of_objects c.args.order.now } in
    let value : CertLine = record { word = Value; numbers = c.args.value ∷ [] } in
    line_then _ _ _ version (objects ∷ order ∷ value ∷ []) _ c.in_ok-write_short_line.ensures.effect
    (line_front _ _ objects (order ∷ value ∷ []) _ _ c.from_residual-in_err-write_short_line-2.ensures.1 (rw (c.from.ensures, c.n.ensures.size) at (simp to_z-of_z at c.in_err-write_short_line-2.ensures.effect)))

pub write_short_line-requires-3-clause-row : goal.write_short_line-requires-3-clause-row
write_short_line-requires-3-clause-row g c =
    let e : c.deref.result.now ≡ numbers_of_objects c.args.order.now = c.deref.ensures.0 ∙ c.fill_order.ensures in
    rw e (row-objects c.args.order.now (omega (arith, c.requires.positive))
    (counts-order c.n.result c.args.order.now (omega (arith, c.n.ensures.size, c.requires.within_limit)) (λ k l. c.n.ensures.order.below k (omega (arith, c.n.ensures.size)))))

pub returns-in_err-write_short_line-3-clause-effect : goal.returns-in_err-write_short_line-3-clause-effect
returns-in_err-write_short_line-3-clause-effect g c =
    let read : FitsSigned w64 c.from.result = search rules in
    let version : CertLine = record { word = Version; numbers = pos 2 ∷ [] } in
    let objects : CertLine = record { word = Objects; numbers = pos (length c.args.order.now) ∷ [] } in
    let order : CertLine = record { word = OrderLine; numbers = numbers_of_objects c.args.order.now } in
    let value : CertLine = record { word = Value; numbers = c.args.value ∷ [] } in
    let e : c.deref.result.now ≡ numbers_of_objects c.args.order.now = c.deref.ensures.0 ∙ c.fill_order.ensures in
    line_then _ _ _ version (objects ∷ order ∷ value ∷ []) _ c.in_ok-write_short_line.ensures.effect
    (line_then _ _ _ objects (order ∷ value ∷ []) _ (rw (c.from.ensures, c.n.ensures.size) at (simp to_z-of_z at c.in_ok-write_short_line-2.ensures.effect))
    (line_front _ _ order (value ∷ []) _ _ c.from_residual-in_err-write_short_line-3.ensures.1 (rw e at c.in_err-write_short_line-3.ensures.effect)))

pub returns-clause-effect : goal.returns-clause-effect
returns-clause-effect g c =
    let fits : FitsSigned w64 c.args.value = search rules in
    let read : FitsSigned w64 c.from.result = search rules in
    let version : CertLine = record { word = Version; numbers = pos 2 ∷ [] } in
    let objects : CertLine = record { word = Objects; numbers = pos (length c.args.order.now) ∷ [] } in
    let order : CertLine = record { word = OrderLine; numbers = numbers_of_objects c.args.order.now } in
    let value : CertLine = record { word = Value; numbers = c.args.value ∷ [] } in
    let e : c.deref.result.now ≡ numbers_of_objects c.args.order.now = c.deref.ensures.0 ∙ c.fill_order.ensures in
    line_then _ _ _ version (objects ∷ order ∷ value ∷ []) _ c.in_ok-write_short_line.ensures.effect
    (line_then _ _ _ objects (order ∷ value ∷ []) _ (rw (c.from.ensures, c.n.ensures.size) at (simp to_z-of_z at c.in_ok-write_short_line-2.ensures.effect))
    (line_then _ _ _ order (value ∷ []) _ (rw e at c.in_ok-write_short_line-3.ensures.effect) (last_line _ _ value _ (simp to_z-of_z at c.write_short_line-4.ensures.effect))))
