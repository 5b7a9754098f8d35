use Rattle.std.proofs.Common.{◌<◌, ◌≤◌, ◌∙◌, ap, sym, length, arith, drop, take, List, ◌-◌, rules}
use Rattle.std.proofs.lemmas.List.{take_rest, length-drop}
use Rattle.lop_certtext.specs.CutLine.{cycles_of, if_ladder}
use Rattle.lop_cuts.specs.declared.kind.Cycle.{Cycle}
use Rattle.lop_check.specs.Cycles.{all_in_front}
use Rattle.lop_check.proofs.CutLines.{front_none, too_many, some_left, reads_more}
use Rattle.lop_check.proofs.ladder.cycles_of.Goals as goal

pub returns-then-is_full : goal.returns-then-is_full
returns-then-is_full c k =
    let nine : 9 ≤ length c.loop-rest.cycles.items = search rules in
    let some : 0 < length c.loop-rest.rest.now = search rules in
    ap (if_ladder k) c.loop-rest.invariant.so_far ∙ too_many k c.loop-rest.cycles.items (cycles_of c.args.n c.loop-rest.rest.now) nine (some_left c.args.n c.loop-rest.rest.now some)

pub loop-rest-init : goal.loop-rest-init
loop-rest-init c = record { so_far = rw c.new-cycles.ensures (front_none (cycles_of c.args.n c.args.numbers.now)); within = omega arith }

pub loop-rest-preserved : goal.loop-rest-preserved
loop-rest-preserved c =
    let n = c.args.n in
    let rest = c.loop-rest.rest.now in
    let len = c.in_ok-cycle.len in
    let left = take (length rest - len) (drop len rest) in
    record {
      so_far = reads_more n c.args.numbers.now rest left c.loop-rest.cycles.items c.in_ok-cycle.cycle len c.loop-rest.invariant.so_far c.in_ok-cycle.ensures (take_rest rest len)
          ∙ ap (λ (l : List Cycle). all_in_front l (cycles_of n left)) (sym c.push.ensures.items);
      within = omega (arith, ap length (take_rest rest len), length-drop len rest, c.loop-rest.invariant.within);
    }
