use Rattle.std.proofs.Common.{◌≡◌, length, sym, ◌∙◌, ap, arith, drop, ℕ}
use Rattle.std.specs.Prelude.{vec_len}
use Rattle.lop_core.proofs.CutIndexLemmas.{number_not_new}
use Rattle.lop_core.proofs.MergeLemmas.{known-le, known_number, pending_missed}
use Rattle.lop_core.proofs.cut_index.CutIndex.misses.Goals as goal

pub first_cuts-requires : goal.first_cuts-requires
first_cuts-requires c = omega (arith, known-le _ _ _ _ c.self.invariant.1, c.len-known.ensures, ap length c.deref.ensures.value)

pub find-requires : goal.find-requires
find-requires c =
    let n : vec_len c.self.inside.index ≡ length c.self.inside.index.items = omega (arith, c.self.inside.index.ok.0) in
    rw (c.first_cuts.ensures, c.deref-2.ensures.value, c.deref.ensures.value, c.len-known.ensures, n) c.self.invariant.1.known

pub returns-in-Ok : goal.returns-in-Ok
returns-in-Ok c =
    let n : vec_len c.self.inside.index ≡ length c.self.inside.index.items = omega (arith, c.self.inside.index.ok.0) in
    let is = rw (c.first_cuts.ensures, c.deref.ensures.value, c.len-known.ensures, n) at c.in-Ok.ensures.found in
    rw (← c.self.view_is) (sym (number_not_new c.self.inside.cuts.items c.args.cut.now _ (known_number c.self.inside.cuts.items (length c.self.inside.index.items) c.args.cut.now _ is)))

pub later_cuts-requires : goal.later_cuts-requires
later_cuts-requires c = omega (arith, known-le _ _ _ _ c.self.invariant.1, c.len-known.ensures, ap length c.deref-in-Err.ensures.value)

pub search-requires : goal.search-requires
search-requires c =
    let n : vec_len c.self.inside.index ≡ length c.self.inside.index.items = omega (arith, c.self.inside.index.ok.0) in
    rw (c.later_cuts.ensures, c.deref-in-Err-2.ensures.value, c.deref-in-Err.ensures.value, c.len-known.ensures, n) c.self.invariant.1.later

pub returns-in-Err : goal.returns-in-Err
returns-in-Err c =
    let n : vec_len c.self.inside.index ≡ length c.self.inside.index.items = omega (arith, c.self.inside.index.ok.0) in
    let gap = rw (c.first_cuts.ensures, c.deref-2.ensures.value, c.deref.ensures.value, c.len-known.ensures, n) at c.in-Err.ensures.gap in
    let known : c.len-known.result ≡ length c.self.inside.index.items = c.len-known.ensures ∙ n in
    let later : c.later_cuts.result.now ≡ drop (length c.self.inside.index.items) c.self.inside.cuts.items = c.later_cuts.ensures ∙ ap (drop c.len-known.result) c.deref-in-Err.ensures.value ∙ ap (λ (k : ℕ). drop k c.self.inside.cuts.items) known in
    rw (← c.self.view_is)
    (pending_missed c.self.inside.cuts.items c.later_cuts.result.now c.self.inside.index.items c.self.inside.fresh.items _ c.deref-in-Err-2.result.now c.args.cut.now _ c.search.result c.is_err.result c.self.invariant.1 later c.deref-in-Err-2.ensures.value
    gap c.search.ensures.found c.search.ensures.gap c.is_err.ensures.value)
