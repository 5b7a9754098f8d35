-- A worker of the pool, between rounds and in a round.
use Rattle.std.specs.Prelude.{◌≡◌, ℕ, pos, ◌<◌, ◌≤◌, false, [], List, length, vec_len, All, slice_index_or, Some, IsSomeAnd}
use Rattle.lop_model.specs.Matrix.{Matrix}
use Rattle.lop_core.specs.Core.{CoreFields}
use Rattle.lop_core.specs.Machine.{Problem}
use Rattle.lop_core.specs.Workers.{fixed_of}
use Rattle.lop_turn.specs.declared.view.View.{View}
use Rattle.lop_turn.specs.Lists.{list_at}
use Rattle.lop_turn.specs.Views.{Known, TurnName}
use Rattle.lop_pool.specs.declared.event.Event.{Event}
use Rattle.lop_pool.specs.declared.parcel.Parcel.{Parcel}
use Rattle.lop_pool.specs.declared.worker.Worker.{Worker}
use Rattle.lop_pool.specs.Events.{events_of, events_by}
use Rattle.lop_pool.specs.Judged.{Relation}
use Rattle.lop_pool.specs.Holding.{Holds, WhateverElse}
use Rattle.lop_pool.specs.declared.pool.TheConstants.{MAX_WORKERS}

-- its rooms are for n objects
pub record ParcelFits (n : ℕ) (p : Parcel) : Type 0 where
  pub ticket : p.ticket.size ≡ n
  pub found : length p.found.order ≡ n

-- its judge and its eight parcels are for n objects, and it holds no more results than that
pub record WorkerFits {J : Type 0} (objects : J → ℕ) (n : ℕ) (w : Worker J) : Type 0 where
  pub judge : objects w.judge ≡ n
  pub eight : vec_len w.parcels ≡ 8
  pub parcels : All (ParcelFits n) w.parcels.items
  pub within : w.held ≤ 8

-- what a view says beside whom its tries found
abbrev pub quiet : {E : Type 0} → View E → View E
quiet v = record v { away = [] }

-- what a view says beside its floor
abbrev pub unmarked : {E : Type 0} → View E → View E
unmarked v = record v { floor = pos 0 }

-- a pass of this turn, without the turn and under this number, for the problem
pub record IsPassFor (turn : TurnName) (problem : Problem) (number : ℕ) (p : Known Event) : Type 0 where
  pub turn_is : p.turn ≡ turn
  pub free : p.view.holds ≡ false
  pub number_is : p.view.number ≡ number
  pub fixed_is : p.view.fixed ≡ fixed_of problem

-- a worker in a round: it fits, and has the pass of this number, which knows what the worker holds, whatever the others do
pub record IsAtWork {J : Type 0} (objects : J → ℕ) (judged : Relation) (problem : Problem) (C : Matrix) (turn : TurnName) (number : ℕ) (w : Worker J) : Type 0 where
  pub small : number ≤ MAX_WORKERS
  pub weights_are : problem.weights ≡ C
  pub fits : WorkerFits objects C.size w
  pub has_pass : IsSomeAnd w.pass (λ p. IsPassFor turn problem number p × WhateverElse problem number p.view.mine (Holds judged C number w.parcels.items w.held))

-- a worker that left a round with these events: they say what it holds, whatever the others did
pub record HasLeft {J : Type 0} (objects : J → ℕ) (judged : Relation) (problem : Problem) (C : Matrix) (number : ℕ) (mine : List Event) (w : Worker J) : Type 0 where
  pub fits : WorkerFits objects C.size w
  pub knows : WhateverElse problem number mine (Holds judged C number w.parcels.items w.held)

-- the first pass of a round that was opened with this core
pub record IsFirst (core : CoreFields) (v : View Event) : Type 0 where
  pub number_is : v.number ≡ 0
  pub free : v.holds ≡ false
  pub fixed_is : v.fixed ≡ fixed_of core.problem
  pub mine_is : v.mine ≡ events_by 0 core.journal
  pub opening_is : v.opening ≡ events_of core.journal

-- the number is one of 1 to the count
pub record IsNumber (count n : ℕ) : Type 0 where
  pub positive : 0 < n
  pub within : n ≤ count

-- the pass of a worker that left was joined, and its events stand in the first pass's view
pub record IsBack {J : Type 0} (objects : J → ℕ) (judged : Relation) (problem : Problem) (C : Matrix) (v : View Event) (number : ℕ) (w : Worker J) : Type 0 where
  pub mine : List Event
  pub ended : list_at v.ended number ≡ Some mine
  pub left : HasLeft objects judged problem C number mine w

-- each element fits its place
abbrev pub AllAt : {X : Type 0} → (ℕ → X → Type 0) → List X → Type 0
AllAt {X} P xs = (k : ℕ) (d : X) → k < length xs → P k (slice_index_or xs k d)

-- each element before the place i fits its own
abbrev pub BelowAt : {X : Type 0} → (ℕ → X → Type 0) → ℕ → List X → Type 0
BelowAt {X} P i xs = (k : ℕ) (d : X) → k < i → k < length xs → P k (slice_index_or xs k d)

-- each element from the place i on fits its own
abbrev pub FromAt : {X : Type 0} → (ℕ → X → Type 0) → ℕ → List X → Type 0
FromAt {X} P i xs = (k : ℕ) (d : X) → i ≤ k → k < length xs → P k (slice_index_or xs k d)
