-- What a pass knows at first, and what each call makes of it: one record update for each.
use Rattle.std.specs.Prelude.{ℕ, ℤ, pos, true, false, Some, None, List, [], ◌∷◌, ◌++◌}
use Rattle.std.specs.Int.{int_max}
use Rattle.atomic_table.specs.Seated.{TableId}
use Rattle.lop_turn.specs.declared.view.View.{View}
use Rattle.lop_turn.specs.Lists.{entries_by, longer}

-- the name of a turn, which no other turn has
abbrev pub TurnName : Type 0
TurnName = TableId

-- what a clause sees of a pass: the turn that it belongs to, and its view
pub record Known (E : Type 0) : Type 0 where
  pub turn : TurnName
  pub view : View E

module _ {E : Type 0} where
  -- the first pass of a turn that was opened with a value of this history, score and fixed part
  abbrev pub first_view : (E → ℕ) → List E → ℤ → List ℤ → View E
  first_view worker history score fixed = record {
    number = 0;
    is_live = true;
    holds = false;
    announced = 0;
    taken = history;
    taken_score = score;
    floor = score;
    last_given = None;
    seen = history;
    mine = entries_by worker 0 history;
    fixed = fixed;
    opening = history;
    away = [];
    split_off = [];
    ended = [];
  }

  -- a new pass with this number, split off from the view v of the first pass
  abbrev pub new_view : (E → ℕ) → View E → ℕ → View E
  new_view worker v number = record {
    number = number;
    is_live = true;
    holds = false;
    announced = 0;
    taken = v.seen;
    taken_score = v.floor;
    floor = v.floor;
    last_given = None;
    seen = v.seen;
    mine = entries_by worker number v.seen;
    fixed = v.fixed;
    opening = v.opening;
    away = [];
    split_off = [];
    ended = [];
  }

  -- what is left of the view of a pass that was joined: it counts no more
  abbrev pub spent_view : View E
  spent_view = record {
    number = 0;
    is_live = false;
    holds = false;
    announced = 0;
    taken = [];
    taken_score = pos 0;
    floor = pos 0;
    last_given = None;
    seen = [];
    mine = [];
    fixed = [];
    opening = [];
    away = [];
    split_off = [];
    ended = [];
  }

  -- the first pass between the two moves of a split: the number of the next pass is announced
  abbrev pub after_announcement : View E → ℕ → View E
  after_announcement v number = record v { announced = number }

  -- the first pass after a split: the number is one of those that were split off
  abbrev pub after_split : View E → ℕ → View E
  after_split v number = record v { announced = 0; split_off = number ∷ v.split_off }

  -- after a try that took a value of this history and score
  abbrev pub after_take : View E → List E → ℤ → View E
  after_take v history score = record v { holds = true; taken = history; taken_score = score }

  -- after a try that found the turn with the pass of this number
  abbrev pub after_refusal : View E → ℕ → View E
  after_refusal v by = record v { away = v.away ++ by ∷ [] }

  -- after a value of this history and score was given
  abbrev pub after_give : (E → ℕ) → View E → List E → ℤ → View E
  after_give worker v history score = record v { holds = false; last_given = Some score; seen = history; mine = entries_by worker v.number history }

  -- after the mark was raised to this score
  abbrev pub after_raise : View E → ℤ → View E
  after_raise v score = record v { floor = int_max v.floor score }

  -- after this mark was read
  abbrev pub after_reading : View E → ℤ → View E
  after_reading v mark = record v { floor = mark }

  -- the first pass v after the pass w was joined
  abbrev pub after_join : View E → View E → View E
  after_join v w = record v { floor = int_max v.floor w.floor; seen = longer v.seen w.seen; ended = (w.number, w.mine) ∷ v.ended }
