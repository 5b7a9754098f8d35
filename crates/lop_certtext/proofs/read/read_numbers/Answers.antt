use Rattle.std.proofs.Common.{◌∙◌, ◌+◌, ◌<◌, List, length, Some, ap, sym, ℤ, FitsSigned, w64, arith, rules}
use Rattle.std.proofs.lemmas.Int.{to_z-of_z}
use Rattle.std.proofs.lemmas.List.{length_push, take_rest, length-drop}
use Rattle.lop_certtext.specs.Line.{numbers_of}
use Rattle.lop_certtext.specs.Reading.{pieces, behind}
use Rattle.lop_certtext.proofs.Steps.{part_from, numbers_of-stops, numbers_of-last, numbers_of-more, number-some}
use Rattle.lop_certtext.proofs.read.read_numbers.Goals as goal

pub returns-in-None : goal.returns-in-None
returns-in-None c =
    numbers_of-stops c.args.bytes.now c.loop-number.rest.now c.loop-number.room c.loop-number.invariant.so_far c.piece_len-len.result c.piece_len-len.ensures.len c.piece_len-len.ensures.within c.in-None.ensures

pub returns-then-len-rest : goal.returns-then-len-rest
returns-then-len-rest c =
    let fits : FitsSigned w64 c.in-Some.number = search rules in
    let pushed = simp to_z-of_z at c.push.ensures in
    numbers_of-last c.args.bytes.now c.loop-number.rest.now c.loop-number.room c.loop-number.invariant.so_far c.piece_len-len.result c.piece_len-len.ensures.len c.in-Some.number c.in-Some.ensures c.if-len-rest.true
    ∙ ap (λ (l : List ℤ). Some l) (sym pushed)

pub loop-number-preserved : goal.loop-number-preserved
loop-number-preserved c =
    let fits : FitsSigned w64 c.in-Some.number = search rules in
    let pushed = simp to_z-of_z at c.push.ensures in
    let numbers = c.loop-number.room in
    let rest = c.loop-number.rest.now in
    let len = c.piece_len-len.result in
    let number = c.in-Some.number in
    let more : len < length rest = omega arith in
    record {
      so_far = ap (λ (l : List ℤ). behind l (numbers_of (pieces (part_from (len + 1) rest)))) pushed
          ∙ numbers_of-more c.args.bytes.now rest numbers c.loop-number.invariant.so_far len c.piece_len-len.ensures.len number c.in-Some.ensures more;
      few = omega (arith, ap length pushed, length_push numbers number, number-some c.args.bytes.now rest numbers c.loop-number.invariant.so_far len c.piece_len-len.ensures.len number c.in-Some.ensures, ap length (take_rest rest (len + 1)), length-drop (len + 1) rest, c.loop-number.invariant.few);
    }
