-- Passes that are handed out and taken back, and the core that a round leaves.
use Rattle.std.proofs.Common.{◌≡◌, ◌≢◌, ℕ, ◌+◌, ◌-◌, ◌<◌, ◌≤◌, List, [], ◌∷◌, ◌++◌, length, get_or, arith, sym, ◌∙◌, Option, Some, None, refl, ap, subst, append-nil, zero, suc}
use Rattle.std.specs.Prelude.{All, Contains, IsSomeAnd}
use Rattle.std.specs.Option.{IsSome}
use Rattle.std.proofs.lemmas.List.Elements.{All-contains}
use Rattle.lop_model.specs.Matrix.{Matrix}
use Rattle.lop_core.specs.declared.journal.Entry.{Entry}
use Rattle.lop_core.specs.Tree.{out_count}
use Rattle.lop_core.specs.Machine.{Problem}
use Rattle.lop_core.specs.Journal.{replay}
use Rattle.lop_core.specs.Core.{CoreFields, HasHistory}
use Rattle.lop_turn.specs.declared.view.View.{View}
use Rattle.lop_turn.specs.Lists.{entries_by, list_at}
use Rattle.lop_turn.specs.Views.{Known, TurnName, new_view, after_split, after_join}
use Rattle.lop_turn.proofs.Beginnings.{entries_by-append, entries_by-none, list_at-here, list_at-other}
use Rattle.lop_pool.specs.declared.event.Event.{Event}
use Rattle.lop_pool.specs.declared.worker.Worker.{Worker}
use Rattle.lop_pool.specs.Events.{events_of, event_worker, events_by, IsGrown}
use Rattle.lop_pool.specs.Judged.{Relation}
use Rattle.lop_pool.specs.Holding.{HasNone, Holds, WhateverElse}
use Rattle.lop_pool.specs.Workers.{WorkerFits, IsPassFor, IsAtWork, HasLeft, IsFirst, IsNumber, IsBack, AllAt}
use Rattle.lop_pool.proofs.HoldingLemmas.{no_out}
use Rattle.lop_pool.proofs.RoundLemmas.{known, knows_none, holds_none}
use Rattle.lop_pool.specs.declared.pool.TheConstants.{MAX_WORKERS}

pub some_and : {X : Type 0} (P Q : X → Type 0) (o : Option X) → ((x : X) → P x → Q x) → IsSomeAnd o P → IsSomeAnd o Q
some_and P Q None f h = h
some_and P Q (Some x) f h = f x h

-- ---- the first pass

pub first_split : (core : CoreFields) (v w : View Event) (number : ℕ) → w ≡ after_split v number → IsFirst core v → IsFirst core w
first_split core v w number e f = subst (λ (x : View Event). IsFirst core x) (sym e) (record { number_is = f.number_is; free = f.free; fixed_is = f.fixed_is; mine_is = f.mine_is; opening_is = f.opening_is })

pub first_join : (core : CoreFields) (v w x : View Event) → w ≡ after_join v x → IsFirst core v → IsFirst core w
first_join core v w x e f = subst (λ (y : View Event). IsFirst core y) (sym e) (record { number_is = f.number_is; free = f.free; fixed_is = f.fixed_is; mine_is = f.mine_is; opening_is = f.opening_is })

all_cons : {X : Type 0} (P : X → Type 0) (x : X) (xs : List X) → P x → All P xs → All P (x ∷ xs)
all_cons P x xs p all zero d lt = p
all_cons P x xs p all (suc k) d lt = all k d (omega arith)

pub split_more : (v w : View Event) (k : ℕ) → w ≡ after_split v (k + 1) → All (IsNumber k) v.split_off → All (IsNumber (k + 1)) w.split_off
split_more v w k e all =
    subst (λ (x : View Event). All (IsNumber (k + 1)) x.split_off) (sym e)
    (all_cons (IsNumber (k + 1)) (k + 1) v.split_off (record { positive = omega arith; within = omega arith })
    (λ i d lt. let n = all i d lt in record { positive = n.positive; within = omega (arith, n.within) }))

pub not_split : (k : ℕ) (numbers : List ℕ) → All (IsNumber k) numbers → ¬ Contains numbers (k + 1)
not_split k numbers all has = let n = All-contains (IsNumber k) numbers (k + 1) all has in absurd (omega (arith, n.within))

-- ---- a worker with its pass

module _ {J : Type 0} (objects : J → ℕ) (judged : Relation) (a : CoreFields) (C : Matrix) (turn : TurnName) where
  -- a worker without a result that gets a pass of its number is ready for the round
  pub handed : (v : View Event) (number : ℕ) (w : Worker J) → number ≤ MAX_WORKERS → a.problem.weights ≡ C → HasHistory a → out_count a.state.nodes ≡ 0 → IsFirst a v → v.seen ≡ events_of a.journal
      → WorkerFits objects C.size w → w.held ≡ 0 → IsSomeAnd w.pass (λ p. (p.turn ≡ turn) × (p.view ≡ new_view event_worker v number)) → IsAtWork objects judged a.problem C turn number w
  handed v number w small weights h none first seen fits idle pass = record {
    small = small;
    weights_are = weights;
    fits = fits;
    has_pass = some_and (λ (p : Known Event). (p.turn ≡ turn) × (p.view ≡ new_view event_worker v number))
        (λ (p : Known Event). IsPassFor turn a.problem number p × WhateverElse a.problem number p.view.mine (Holds judged C number w.parcels.items w.held)) w.pass
        (λ p is. (
          record {
            turn_is = is.0;
            free = ap (λ (x : View Event). x.holds) is.1;
            number_is = ap (λ (x : View Event). x.number) is.1;
            fixed_is = ap (λ (x : View Event). x.fixed) is.1 ∙ first.fixed_is;
          },
          λ j lj e. holds_none judged C number w.parcels.items w.held (replay a.problem j) idle
              (knows_none a.problem a number p.view.mine h refl (ap (λ (x : View Event). x.mine) is.1 ∙ ap (λ (es : List Event). entries_by event_worker number es) seen) (no_out a.state none number) j lj e),
        ))
        pass;
  }

module _ {J : Type 0} (objects : J → ℕ) (judged : Relation) (problem : Problem) (C : Matrix) where
  pub back_here : (v v' : View Event) (number : ℕ) (mine : List Event) (w : Worker J) → v'.ended ≡ (number, mine) ∷ v.ended → HasLeft objects judged problem C number mine w → IsBack objects judged problem C v' number w
  back_here v v' number mine w e left = record { mine = mine; ended = ap (λ (es : List (ℕ × List Event)). list_at es number) e ∙ list_at-here mine v.ended number; left = left }

  pub back_later : (v v' : View Event) (number other : ℕ) (mine : List Event) (w : Worker J) → v'.ended ≡ (number, mine) ∷ v.ended → number ≢ other → IsBack objects judged problem C v other w → IsBack objects judged problem C v' other w
  back_later v v' number other mine w e ne b = record {
    mine = b.mine;
    ended = ap (λ (es : List (ℕ × List Event)). list_at es other) e ∙ (list_at-other mine v.ended number other ne ∙ b.ended);
    left = b.left;
  }

  -- what the worker holds is known of the core that came back
  pub left_in : (q : Problem) (number : ℕ) (mine there : List Event) (w : Worker J) → q ≡ problem → there ≡ mine → HasLeft objects judged problem C number mine w → HasLeft objects judged q C number there w
  left_in q number mine there w same e left =
      subst (λ (x : Problem). HasLeft objects judged x C number there w) (sym same) (subst (λ (m : List Event). HasLeft objects judged problem C number m w) (sym e) left)

at_place : {X : Type 0} (P : ℕ → X → Type 0) (xs : List X) (k : ℕ) → k < length xs → AllAt P xs → (x : X) × P k x
at_place P [] k lt all = absurd (omega arith)
at_place P (y ∷ ys) k lt all = (get_or (y ∷ ys) k y, all k y lt)

module _ {J : Type 0} (objects : J → ℕ) (judged : Relation) (problem : Problem) (C : Matrix) (v : View Event) (workers : List (Worker J)) where
  -- each number that was split off has ended
  pub all_ended : All (IsNumber (length workers)) v.split_off → AllAt (λ k w. IsBack objects judged problem C v (k + 1) w) workers → (n : ℕ) → Contains v.split_off n → IsSome (list_at v.ended n)
  all_ended split back n has =
      let is = All-contains (IsNumber (length workers)) v.split_off n split has in
      let place = at_place (λ k w. IsBack objects judged problem C v (k + 1) w) workers (n - 1) (omega (arith, is.positive, is.within)) back in
      let same : (n - 1) + 1 ≡ n = omega (arith, is.positive) in
      let ended : list_at v.ended n ≡ Some place.1.mine = subst (λ (m : ℕ). list_at v.ended m ≡ Some place.1.mine) same place.1.ended in
      subst IsSome (sym ended) refl

-- ---- a worker that had no node has none, while its events stay

pub still_none : (problem : Problem) (a b : CoreFields) (worker : ℕ) → HasHistory a → HasHistory b → a.problem ≡ problem → b.problem ≡ problem → events_by worker b.journal ≡ events_by worker a.journal → HasNone worker a.state → HasNone worker b.state
still_none problem a b worker ha hb sa sb e none =
    known problem b worker (events_by worker a.journal) (HasNone worker) hb sb e (knows_none problem a worker (events_by worker a.journal) ha sa refl none)

pub beyond : (count n : ℕ) (numbers : List ℕ) → All (IsNumber count) numbers → count < n → ¬ Contains numbers n
beyond count n numbers all lt has = let is = All-contains (IsNumber count) numbers n all has in absurd (omega (arith, is.within))

-- what one worker appends is none of another's
pub others_stay : (number other : ℕ) (old new : List Entry) → IsGrown number old new → other ≢ number → events_by other new ≡ events_by other old
others_stay number other old new grown ne =
    ap (entries_by event_worker other) grown.1
    ∙ (entries_by-append event_worker other (events_of old) grown.0
    ∙ (ap (λ (es : List Event). events_by other old ++ es) (entries_by-none event_worker other number grown.0 grown.2 ne) ∙ append-nil (events_by other old)))
