use Rattle.std.proofs.Common.{◌≡◌, ◌<◌, List, length, true, sym, ap, subst, arith, refl}
use Rattle.std.specs.Prelude.{vec_len}
use Rattle.lop_cuts.specs.declared.kind.CutKind.{CutKind}
use Rattle.lop_core.specs.Records.{is_new}
use Rattle.lop_core.proofs.CutIndexLemmas.{number_not_new}
use Rattle.lop_core.proofs.MergeLemmas.{known-le, known_number, different_more}
use Rattle.lop_core.proofs.cut_index.CutIndex.number_of.Goals as goal

pub first_cuts-requires : goal.first_cuts-requires
first_cuts-requires c = omega (arith, known-le _ _ _ _ c.self.invariant.1, c.len-known.ensures, ap length c.deref.ensures.value)

pub find-requires : goal.find-requires
find-requires c =
    let n : vec_len c.self.inside.index ≡ length c.self.inside.index.items = omega (arith, c.self.inside.index.ok.0) in
    rw (c.first_cuts.ensures, c.deref-2.ensures.value, c.deref.ensures.value, c.len-known.ensures, n) c.self.invariant.1.known

pub returns-in-Ok-clause-cuts : goal.returns-in-Ok-clause-cuts
returns-in-Ok-clause-cuts c =
    let n : vec_len c.self.inside.index ≡ length c.self.inside.index.items = omega (arith, c.self.inside.index.ok.0) in
    let is = rw (c.first_cuts.ensures, c.deref.ensures.value, c.len-known.ensures, n) at c.in-Ok.ensures.found in
    rw (← c.self.view_is, number_not_new c.self.inside.cuts.items c.args.cut.now _ (known_number c.self.inside.cuts.items (length c.self.inside.index.items) c.args.cut.now _ is)) refl

pub returns-in-Ok-clause-number : goal.returns-in-Ok-clause-number
returns-in-Ok-clause-number c =
    let n : vec_len c.self.inside.index ≡ length c.self.inside.index.items = omega (arith, c.self.inside.index.ok.0) in
    let is = rw (c.first_cuts.ensures, c.deref.ensures.value, c.len-known.ensures, n) at c.in-Ok.ensures.found in
    rw c.note.ensures (known_number c.self.inside.cuts.items (length c.self.inside.index.items) c.args.cut.now _ is)

pub number_fresh-number-requires-clause-pending : goal.number_fresh-number-requires-clause-pending
number_fresh-number-requires-clause-pending c = rw c.deref-in-Err.ensures.value c.self.invariant.1

pub number_fresh-number-requires-clause-gap : goal.number_fresh-number-requires-clause-gap
number_fresh-number-requires-clause-gap c =
    let n : vec_len c.self.inside.index ≡ length c.self.inside.index.items = omega (arith, c.self.inside.index.ok.0) in
    let gap = rw (c.first_cuts.ensures, c.deref-2.ensures.value, c.deref.ensures.value, c.len-known.ensures, n) at c.in-Err.ensures.gap in
    rw c.deref-in-Err.ensures.value gap

pub number_fresh-number-requires-clause-room : goal.number_fresh-number-requires-clause-room
number_fresh-number-requires-clause-room c = subst (λ (cuts : List CutKind). is_new cuts c.args.cut.now ≡ true → length cuts < 65536) (sym c.self.view_is) c.requires

pub invariant_of-self-in-Err : goal.invariant_of-self-in-Err
invariant_of-self-in-Err c = (
  different_more c.self.inside.cuts.items _ c.args.cut.now c.self.invariant.0 c.kind-kind.ensures.cut c.number_fresh-number.ensures.cuts,
  rw (sym c.deref-in-Err.ensures.value) c.number_fresh-number.ensures.pending,
  c.self.invariant.2,
  c.number_fresh-number.ensures.rooms,
)
