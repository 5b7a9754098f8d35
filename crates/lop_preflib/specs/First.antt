-- First answers.
use Rattle.std.specs.Prelude.{List, [], ◌∷◌, Option, None, Some}

-- the first of two answers that is there
abbrev pub or_else : {A : Type 0} → Option A → Option A → Option A
or_else (Some answer) other = Some answer
or_else None other = other

-- the first answer that f gives to an item of a list
abbrev pub first_answer : {X A : Type 0} → (X → Option A) → List X → Option A
first_answer f [] = None
first_answer f (x ∷ xs) = or_else (f x) (first_answer f xs)
