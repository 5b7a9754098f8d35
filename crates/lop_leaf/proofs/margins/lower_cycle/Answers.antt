use Rattle.std.proofs.Common.{◌≡◌, eqb, ◌&&◌, false, ◌∙◌, arith}
use Rattle.std.proofs.lemmas.Bool.Decides.{nat_tests}
use Rattle.lop_leaf.specs.Table.{slack, lowered}
use Rattle.lop_leaf.proofs.MarginLemmas.{not_here}
use Rattle.lop_leaf.proofs.PackingLemmas.{lowered_cycle}
use Rattle.lop_leaf.proofs.margins.lower_cycle.Goals as goal

pub returns-clause-each : goal.returns-clause-each
returns-clause-each c x y k l =
    let n = c.args.n in
    lowered_cycle n c.args.a c.args.b c.args.c x y c.args.m (slack c.args.table.now n x y) (slack c.lower.new.table n x y) (slack c.lower-2.new.table n x y) (slack c.lower-3.new.table n x y) c.requires.three
    (c.lower.ensures.each x y k l) (c.lower-2.ensures.each x y k l) (c.lower-3.ensures.each x y k l)

pub lower-requires-3-clause-enough : goal.lower-requires-3-clause-enough
lower-requires-3-clause-enough c =
    let n = c.args.n in
    let a = c.args.a in
    let b = c.args.b in
    let d = c.args.c in
    let three = c.requires.three in
    let ab = three.first_second in
    let bd = three.second_third in
    let first : (eqb d a && eqb a b) ≡ false = grind (arith, nat_tests) in
    let second : (eqb d b && eqb a d) ≡ false = grind (arith, nat_tests) in
    let one : slack c.lower.new.table n d a ≡ slack c.args.table.now n d a = c.lower.ensures.each d a three.third three.first ∙ not_here (eqb d a && eqb a b) (lowered (slack c.args.table.now n d a) c.args.m) (slack c.args.table.now n d a) first in
    let two : slack c.lower-2.new.table n d a ≡ slack c.lower.new.table n d a = c.lower-2.ensures.each d a three.third three.first ∙ not_here (eqb d b && eqb a d) (lowered (slack c.lower.new.table n d a) c.args.m) (slack c.lower.new.table n d a) second in
    let enough = c.requires.third in
    omega (arith, one, two, enough)
