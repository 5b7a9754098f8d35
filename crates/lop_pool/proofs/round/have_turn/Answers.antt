use Rattle.std.proofs.Common.{◌≡◌, ℕ, ◌∙◌, List, ◌++◌, length, take, drop, ap, arith, refl, sym, subst}
use Rattle.std.specs.Prelude.{All}
use Rattle.lop_model.specs.Matrix.{Matrix, IsWeights}
use Rattle.lop_core.specs.Machine.{Problem}
use Rattle.lop_core.specs.Journal.{replay}
use Rattle.lop_core.specs.Core.{CoreFields, HasHistory}
use Rattle.lop_turn.specs.declared.view.View.{View}
use Rattle.lop_pool.specs.declared.event.Event.{Event}
use Rattle.lop_pool.specs.declared.parcel.Parcel.{Parcel}
use Rattle.lop_pool.specs.Events.{events_by}
use Rattle.lop_pool.specs.Holding.{AreSoundTickets, Holds, HasTickets, WhateverElse}
use Rattle.lop_pool.proofs.RoundLemmas.{known, knows_tickets, holds_none, same_problem, turn_mine}
use Rattle.lop_pool.specs.Marks.{GrowsWhole}
use Rattle.lop_pool.specs.Workers.{ParcelFits}
use Rattle.lop_pool.proofs.MarkLemmas.{whole_lower, own_whole}
use Rattle.lop_pool.proofs.BatchLemmas.{none_left, own_back}
use Rattle.lop_pool.proofs.round.have_turn.Goals as goal

pub exchange-count-requires-clause-holds : goal.exchange-count-requires-clause-holds
exchange-count-requires-clause-holds g c κs within =
    let hist : HasHistory c.in-Some.core = subst HasHistory c.core-2.ensures c.evaluated-history.ensures.history in
    let own : IsWeights c.args.about.now.value.problem.weights = subst IsWeights (sym c.requires.weights) c.n-own.ensures.weights in
    let shared : IsWeights c.in-Some.core.problem.weights = subst IsWeights (c.weights.ensures ∙ ap (λ (x : CoreFields). x.problem.weights) c.core.ensures) c.n-shared.ensures.weights in
    let same : c.in-Some.core.problem ≡ c.args.about.now.value.problem = same_problem c.args.about.now.value.problem c.in-Some.core.problem c.args.pass.now.view.fixed own shared c.in-Some.ensures.fixed c.requires.pass.fixed_is in
    let mine : events_by c.args.number c.in-Some.core.journal ≡ c.args.pass.now.view.mine = subst (λ (n : ℕ). events_by n c.in-Some.core.journal ≡ c.args.pass.now.view.mine) c.requires.pass.number_is c.in-Some.ensures.mine in
    subst (λ (ps : List Parcel). Holds g.J.Judge.judged c.in-Some.core.problem.weights c.args.number ps c.args.worker.now.held c.in-Some.core.state) (sym c.deref_mut.ensures.value)
    (subst (λ (C : Matrix). Holds g.J.Judge.judged C c.args.number c.args.worker.now.parcels.items c.args.worker.now.held c.in-Some.core.state) (sym (ap (λ (q : Problem). q.weights) same ∙ c.requires.weights))
    (known c.args.about.now.value.problem c.in-Some.core c.args.number c.args.pass.now.view.mine (Holds g.J.Judge.judged c.args.weights.now c.args.number c.args.worker.now.parcels.items c.args.worker.now.held) hist same mine c.requires.holds))

pub returns-clause-tickets : goal.returns-clause-tickets
returns-clause-tickets g c = λ some.
    let own : IsWeights c.args.about.now.value.problem.weights = subst IsWeights (sym c.requires.weights) c.n-own.ensures.weights in
    let shared : IsWeights c.in-Some.core.problem.weights = subst IsWeights (c.weights.ensures ∙ ap (λ (x : CoreFields). x.problem.weights) c.core.ensures) c.n-shared.ensures.weights in
    let same : c.in-Some.core.problem ≡ c.args.about.now.value.problem = same_problem c.args.about.now.value.problem c.in-Some.core.problem c.args.pass.now.view.fixed own shared c.in-Some.ensures.fixed c.requires.pass.fixed_is in
    let mine : c.raise.new.pass.view.mine ≡ events_by c.args.number c.exchange-count.new.core.journal =
    ap (λ (v : View Event). v.mine) c.raise.ensures.view
    ∙ (turn_mine c.args.pass.now c.take_within.new.pass.view c.give.new.pass.view c.in-Some.core c.exchange-count.new.core c.in-Some.ensures.some c.give.ensures.given ∙ ap (λ (n : ℕ). events_by n c.exchange-count.new.core.journal) c.requires.pass.number_is) in
    let back : take c.args.worker.now.parcels.len (c.exchange-count.new.parcels ++ drop (length c.exchange-count.new.parcels) c.args.worker.now.parcels.items) ≡ c.exchange-count.new.parcels =
    own_back c.args.worker.now.parcels.len c.exchange-count.new.parcels c.args.worker.now.parcels.items (omega (arith, c.exchange-count.ensures.eight, c.requires.fits.eight)) in
    subst (λ (ps : List Parcel). WhateverElse c.args.about.now.value.problem c.args.number c.raise.new.pass.view.mine (HasTickets c.args.number ps 0 c.exchange-count.result)) (sym back)
    (knows_tickets c.args.about.now.value.problem c.exchange-count.new.core c.args.number c.raise.new.pass.view.mine c.exchange-count.new.parcels c.exchange-count.result c.exchange-count.ensures.history (c.exchange-count.ensures.same_problem ∙ same) mine
    c.exchange-count.ensures.tickets)

pub returns-clause-sound : goal.returns-clause-sound
returns-clause-sound g c =
    let own : IsWeights c.args.about.now.value.problem.weights = subst IsWeights (sym c.requires.weights) c.n-own.ensures.weights in
    let shared : IsWeights c.in-Some.core.problem.weights = subst IsWeights (c.weights.ensures ∙ ap (λ (x : CoreFields). x.problem.weights) c.core.ensures) c.n-shared.ensures.weights in
    let same : c.in-Some.core.problem ≡ c.args.about.now.value.problem = same_problem c.args.about.now.value.problem c.in-Some.core.problem c.args.pass.now.view.fixed own shared c.in-Some.ensures.fixed c.requires.pass.fixed_is in
    let back : take c.args.worker.now.parcels.len (c.exchange-count.new.parcels ++ drop (length c.exchange-count.new.parcels) c.args.worker.now.parcels.items) ≡ c.exchange-count.new.parcels =
    own_back c.args.worker.now.parcels.len c.exchange-count.new.parcels c.args.worker.now.parcels.items (omega (arith, c.exchange-count.ensures.eight, c.requires.fits.eight)) in
    subst (λ (ps : List Parcel). AreSoundTickets c.args.weights.now ps c.exchange-count.result) (sym back)
    (subst (λ (C : Matrix). AreSoundTickets C c.exchange-count.new.parcels c.exchange-count.result) (ap (λ (q : Problem). q.weights) (c.exchange-count.ensures.same_problem ∙ same) ∙ c.requires.weights) c.exchange-count.ensures.sound)

pub returns-clause-holds : goal.returns-clause-holds
returns-clause-holds g c = λ zero j lj e.
    let own : IsWeights c.args.about.now.value.problem.weights = subst IsWeights (sym c.requires.weights) c.n-own.ensures.weights in
    let shared : IsWeights c.in-Some.core.problem.weights = subst IsWeights (c.weights.ensures ∙ ap (λ (x : CoreFields). x.problem.weights) c.core.ensures) c.n-shared.ensures.weights in
    let same : c.in-Some.core.problem ≡ c.args.about.now.value.problem = same_problem c.args.about.now.value.problem c.in-Some.core.problem c.args.pass.now.view.fixed own shared c.in-Some.ensures.fixed c.requires.pass.fixed_is in
    let mine : c.raise.new.pass.view.mine ≡ events_by c.args.number c.exchange-count.new.core.journal =
    ap (λ (v : View Event). v.mine) c.raise.ensures.view
    ∙ (turn_mine c.args.pass.now c.take_within.new.pass.view c.give.new.pass.view c.in-Some.core c.exchange-count.new.core c.in-Some.ensures.some c.give.ensures.given ∙ ap (λ (n : ℕ). events_by n c.exchange-count.new.core.journal) c.requires.pass.number_is) in
    holds_none g.J.Judge.judged c.args.weights.now c.args.number _ 0 (replay c.args.about.now.value.problem j) refl
    (none_left c.args.number c.exchange-count.new.parcels 0 c.exchange-count.result (replay c.args.about.now.value.problem j) (omega (arith, zero))
    (knows_tickets c.args.about.now.value.problem c.exchange-count.new.core c.args.number c.raise.new.pass.view.mine c.exchange-count.new.parcels c.exchange-count.result c.exchange-count.ensures.history (c.exchange-count.ensures.same_problem ∙ same) mine
    c.exchange-count.ensures.tickets j lj e))

pub returns-clause-whole : goal.returns-clause-whole
returns-clause-whole g c =
    let own : IsWeights c.args.about.now.value.problem.weights = subst IsWeights (sym c.requires.weights) c.n-own.ensures.weights in
    let shared : IsWeights c.in-Some.core.problem.weights = subst IsWeights (c.weights.ensures ∙ ap (λ (x : CoreFields). x.problem.weights) c.core.ensures) c.n-shared.ensures.weights in
    let same : c.in-Some.core.problem ≡ c.args.about.now.value.problem = same_problem c.args.about.now.value.problem c.in-Some.core.problem c.args.pass.now.view.fixed own shared c.in-Some.ensures.fixed c.requires.pass.fixed_is in
    let whole : GrowsWhole c.args.about.now.value.problem c.args.pass.now.view.floor c.args.number c.in-Some.core.journal c.exchange-count.new.core.journal =
    subst (λ (q : Problem). GrowsWhole q c.args.pass.now.view.floor c.args.number c.in-Some.core.journal c.exchange-count.new.core.journal) same
    (whole_lower c.in-Some.core.problem c.args.pass.now.view.floor c.in-Some.core.state.best c.args.number c.in-Some.core.journal c.exchange-count.new.core.journal c.in-Some.ensures.floor c.exchange-count.ensures.whole) in
    let own_events = own_whole c.args.about.now.value.problem c.args.pass.now.view.floor c.args.number c.in-Some.core.journal c.exchange-count.new.core.journal whole in
    let taken : events_by c.args.number c.in-Some.core.journal ≡ c.args.pass.now.view.mine = subst (λ (n : ℕ). events_by n c.in-Some.core.journal ≡ c.args.pass.now.view.mine) c.requires.pass.number_is c.in-Some.ensures.mine in
    let mine : c.raise.new.pass.view.mine ≡ events_by c.args.number c.exchange-count.new.core.journal =
    ap (λ (v : View Event). v.mine) c.raise.ensures.view
    ∙ (turn_mine c.args.pass.now c.take_within.new.pass.view c.give.new.pass.view c.in-Some.core c.exchange-count.new.core c.in-Some.ensures.some c.give.ensures.given ∙ ap (λ (n : ℕ). events_by n c.exchange-count.new.core.journal) c.requires.pass.number_is) in
    (own_events.0, mine ∙ (own_events.1 ∙ ap (λ (es : List Event). es ++ own_events.0) taken), own_events.2)

pub returns-clause-fits : goal.returns-clause-fits
returns-clause-fits g c =
    let own : IsWeights c.args.about.now.value.problem.weights = subst IsWeights (sym c.requires.weights) c.n-own.ensures.weights in
    let shared : IsWeights c.in-Some.core.problem.weights = subst IsWeights (c.weights.ensures ∙ ap (λ (x : CoreFields). x.problem.weights) c.core.ensures) c.n-shared.ensures.weights in
    let same : c.in-Some.core.problem ≡ c.args.about.now.value.problem = same_problem c.args.about.now.value.problem c.in-Some.core.problem c.args.pass.now.view.fixed own shared c.in-Some.ensures.fixed c.requires.pass.fixed_is in
    let back : take c.args.worker.now.parcels.len (c.exchange-count.new.parcels ++ drop (length c.exchange-count.new.parcels) c.args.worker.now.parcels.items) ≡ c.exchange-count.new.parcels =
    own_back c.args.worker.now.parcels.len c.exchange-count.new.parcels c.args.worker.now.parcels.items (omega (arith, c.exchange-count.ensures.eight, c.requires.fits.eight)) in
    record {
      judge = c.requires.fits.judge;
      eight = c.requires.fits.eight;
      parcels = subst (All (ParcelFits c.args.weights.now.size)) (sym back)
          (subst (λ (C : Matrix). All (ParcelFits C.size) c.exchange-count.new.parcels) (ap (λ (q : Problem). q.weights) same ∙ c.requires.weights) c.exchange-count.ensures.fits);
      within = omega arith;
    }
