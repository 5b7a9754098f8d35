-- The rule that a turn keeps between any two atomic steps, and what each step tells the pass that makes it.
use Rattle.std.specs.Prelude.{◌≡◌, ◌≢◌, ℕ, ◌+◌, ◌-◌, ◌^◌, ◌<◌, ℤ, pos, ◌-ℤ◌, ◌≤ℤ◌, true, Option, Some, None, List, [], ◌∷◌, length, slice_index, Contains}
use mathlib.Core.Option.{Option as Maybe, some, none}
use lib.ListN.{get_elem?}
use Rattle.atomic_table.specs.Table.{State, Me, Step}
use Rattle.lop_turn.specs.declared.view.View.{View}
use Rattle.lop_turn.specs.Lists.{StartsWith, entries_by, list_at}
use Rattle.lop_turn.specs.Views.{after_announcement, after_take, after_refusal, after_give, after_raise, after_reading}

-- what is so, whatever each pass knows of it: the current history and score, those at the opening, the fixed part, which numbers were split off, and which have ended with which entries
pub record Actual (E : Type 0) : Type 0 where
  pub history : List E
  pub score : ℤ
  pub opening : List E
  pub fixed : List ℤ
  pub split_off : List ℕ
  pub ended : List (ℕ × List E)

-- the score for which the second word stands: the word less 2^63
abbrev pub mark_of : ℕ → ℤ
mark_of word = pos word -ℤ pos 9223372036854775808

module _ {E : Type 0} (worker : E → ℕ) where
  -- a view that was not joined is right: what it says is so, and what it has seen is a beginning of the current history
  pub record IsRight (actual : Actual E) (word mark : ℕ) (v : View E) : Type 0 where
    pub small : v.number < 2 ^ 32
    pub sees : StartsWith actual.history v.seen
    pub opens : StartsWith v.seen actual.opening
    pub mine : v.mine ≡ entries_by worker v.number actual.history
    pub fixed : v.fixed ≡ actual.fixed
    pub opening : v.opening ≡ actual.opening
    -- the holder's name stands in the first word, and what it took is the current history and score
    pub holds : v.holds ≡ true → (word ≡ v.number + 1) × (v.taken ≡ actual.history) × (v.taken_score ≡ actual.score)
    pub floor : v.floor ≤ℤ mark_of mark
    pub last_given : (g : ℤ) → v.last_given ≡ Some g → g ≤ℤ actual.score
    -- the first pass knows all numbers, and any other has a number that was split off and has not ended
    pub first : v.number ≡ 0 → (v.split_off ≡ actual.split_off) × (v.ended ≡ actual.ended)
    pub other : v.number ≢ 0 → Contains actual.split_off v.number × (list_at actual.ended v.number ≡ None)

module _ {T E : Type 0} (history : T → List E) (worker : E → ℕ) (score : T → ℤ) (fixed : T → List ℤ) where
  -- while the turn is free, the value lies in the slot, and the current history and score are its own
  pub record IsAtHome (actual : Actual E) (home : Maybe (Maybe (Option T))) : Type 0 where
    pub value : T
    pub is : home ≡ some (some (Some value))
    pub history_is : history value ≡ actual.history
    pub score_is : score value ≡ actual.score
    pub fixed_is : fixed value ≡ actual.fixed

  -- while the turn is held, there is a pass that holds it, and the slot is out with it
  pub record IsHeld (s : State (Option T) (View E)) : Type 0 where
    pub seat : ℕ
    pub view : View E
    pub at : get_elem? s.views seat ≡ some view
    pub is_live : view.is_live ≡ true
    pub holds : view.holds ≡ true
    pub away : get_elem? s.homes 0 ≡ some none

  -- the rule: between any two steps there is a current history, of which all of this holds
  pub record IsKept (s : State (Option T) (View E)) : Type 0 where
    pub actual : Actual E
    pub width : length s.words ≡ 2
    -- the first word is 0 exactly while the turn is free
    pub free : slice_index s.words 0 ≡ 0 → IsAtHome actual (get_elem? s.homes 0)
    pub held : slice_index s.words 0 ≢ 0 → IsHeld s
    pub right : (seat : ℕ) (v : View E) → get_elem? s.views seat ≡ some v → v.is_live ≡ true → IsRight worker actual (slice_index s.words 0) (slice_index s.words 1) v
    -- no two passes have the same number
    pub apart : (i j : ℕ) (v w : View E) → get_elem? s.views i ≡ some v → get_elem? s.views j ≡ some w → v.is_live ≡ true → w.is_live ≡ true → v.number ≡ w.number → i ≡ j
    pub marked : mark_of (slice_index s.words 1) ≤ℤ actual.score
    pub begins : StartsWith actual.history actual.opening
    -- nothing was added in the name of a number that was never split off
    pub never : (n : ℕ) → n ≢ 0 → ¬ Contains actual.split_off n → entries_by worker n actual.history ≡ entries_by worker n actual.opening
    -- the first pass has not ended, nor has a number that was never split off
    pub unended : list_at actual.ended 0 ≡ None
    pub unsplit : (n : ℕ) → ¬ Contains actual.split_off n → list_at actual.ended n ≡ None
    pub ends : (n : ℕ) (xs : List E) → list_at actual.ended n ≡ Some xs → entries_by worker n actual.history ≡ xs

  -- a try found the turn free: the pass has it now, with the value
  pub record Took (m : Me (Option T) (View E)) (n : Me (Option T) (View E)) : Type 0 where
    pub value : T
    pub seat : n ≡ (after_take m.0 (history value) (score value), (0, Some value) ∷ m.1)
    pub sees : StartsWith (history value) m.0.seen
    pub opens : StartsWith (history value) m.0.opening
    pub mine : m.0.mine ≡ entries_by worker m.0.number (history value)
    pub fixed_is : m.0.fixed ≡ fixed value
    pub floor : m.0.floor ≤ℤ score value

  -- a try found the turn with another pass. It was an exchange of 0 for the name of the pass that tried, and no other step
  pub record Missed (st : Step (Option T)) (m : Me (Option T) (View E)) (by : ℕ) (n : Me (Option T) (View E)) : Type 0 where
    pub seat : n ≡ (after_refusal m.0 by, m.1)
    pub other : by ≢ m.0.number
    pub small : by < 2 ^ 32
    pub exchange : (st.word ≡ 0) × (st.first ≡ 0) × (st.second ≡ m.0.number + 1)

  -- take the turn: the word found tells which of the two it was
  abbrev pub Tries : Step (Option T) → Me (Option T) (View E) → ℕ → Me (Option T) (View E) → Type 0
  Tries st m found n = (found ≡ 0 → Took m n) × (found ≢ 0 → Missed st m (found - 1) n)

  -- give the turn, with this value in the slot. The entries of what was taken were the pass's own ones so far
  abbrev pub Gives : Step (Option T) → Me (Option T) (View E) → ℕ → Me (Option T) (View E) → Type 0
  Gives st m found n = (value : T) → m.1 ≡ (0, Some value) ∷ [] → (n ≡ (after_give worker m.0 (history value) (score value), [])) × (entries_by worker m.0.number m.0.taken ≡ m.0.mine)

  -- announce the number of the next pass
  abbrev pub Announces : Step (Option T) → Me (Option T) (View E) → ℕ → Me (Option T) (View E) → Type 0
  Announces st m found n = n ≡ (after_announcement m.0 st.first, m.1)

  -- raise the mark
  abbrev pub Raises : Step (Option T) → Me (Option T) (View E) → ℕ → Me (Option T) (View E) → Type 0
  Raises st m found n = n ≡ (after_raise m.0 (mark_of st.first), m.1)

  -- read the mark
  abbrev pub Reads : Step (Option T) → Me (Option T) (View E) → ℕ → Me (Option T) (View E) → Type 0
  Reads st m found n = (n ≡ (after_reading m.0 (mark_of found), m.1)) × (m.0.floor ≤ℤ mark_of found)
