use Rattle.std.proofs.Common.{◌≡◌, ◌+◌, ◌-◌, ◌*◌, ◌≤◌, ◌<◌, length, take, drop, sym, ap, subst, ◌∙◌, arith}
use Rattle.lop_fix.proofs.TableLemmas.{joined_front, joined_back, part_length, first_length, row_within, JoinsRow-rows}
use Rattle.lop_fix.proofs.table.join_row.Goals as goal

pub returns-then-into-from : goal.returns-then-into-from
returns-then-into-from c =
    let old = c.args.words.now in
    let n = c.args.n in
    let into = c.args.into in
    let from = c.args.from in
    let w = c.row_words-width.result in
    let whole : length old ≡ n * w = c.requires.whole ∙ ap (λ k. n * k) (sym c.row_words-width.ensures) in
    let parts = c.split_at_mut-front.ensures in
    let front = c.split_at_mut-front.result.0.now in
    let bound : into * w + w ≤ from * w = row_within into w from c.if-into-from.true in
    let m = into * w + w - into * w in
    let same : m ≡ w = omega arith in
    let wide : length (take m (drop (into * w) front)) ≡ w = part_length front (into * w) w m (omega (arith, parts.front_len)) same in
    let long : length c.or_into.new.row ≡ w = c.or_into.ensures.same_length ∙ wide in
    let joined = joined_front old c.or_into.new.row n w into from m whole long same front c.split_at_mut-front.result.1.now c.if-into-from.true c.requires.from parts.front parts.back
    (λ z l. c.or_into.ensures.each z (subst (λ k. z < k) (sym wide) l)) in
    JoinsRow-rows old _ n w into from c.row_words-width.ensures joined

pub returns-else-into-from : goal.returns-else-into-from
returns-else-into-from c =
    let old = c.args.words.now in
    let n = c.args.n in
    let into = c.args.into in
    let from = c.args.from in
    let w = c.row_words-width.result in
    let whole : length old ≡ n * w = c.requires.whole ∙ ap (λ k. n * k) (sym c.row_words-width.ensures) in
    let parts = c.split_at_mut-front-else-into-from.ensures in
    let back = c.split_at_mut-front-else-into-from.result.1.now in
    let bound : into * w + w ≤ n * w = row_within into w n c.requires.into in
    let m = from * w + w - from * w in
    let same : m ≡ w = omega arith in
    let wide : length (take w back) ≡ w = first_length back w (omega (arith, parts.back_len, whole)) in
    let long : length c.or_into-else-into-from.new.row ≡ w = c.or_into-else-into-from.ensures.same_length ∙ wide in
    let joined = joined_back old c.or_into-else-into-from.new.row n w into from m whole long same c.split_at_mut-front-else-into-from.result.0.now back (omega (arith, c.if-into-from.false, c.requires.differ)) c.requires.into parts.front parts.back
    (λ z l. c.or_into-else-into-from.ensures.each z (subst (λ k. z < k) (sym wide) l)) in
    JoinsRow-rows old _ n w into from c.row_words-width.ensures joined
