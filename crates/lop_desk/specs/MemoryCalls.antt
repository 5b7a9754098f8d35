-- What each call of a desk in memory answers and does, exactly.
use Rattle.std.specs.Prelude.{◌≡◌, ◌⊎◌, ℕ, ◌<◌, min, List, [], ◌++◌, length, take, drop, Option, None, Some, IsSome, IsNone, Result, MatchResult, MatchOption}
use Rattle.lop_desk.specs.World.{file_named, unread, place_moved, bytes_added, put_made}
use Rattle.lop_desk.specs.MemoryState.{MemoryState, IsListed, after_call, after_fault, free_to_print, free_to_write, within_step}
use Rattle.lop_desk.specs.declared.desk.OpenFault.{OpenFault}
use Rattle.lop_desk.specs.declared.desk.OpenFault.TheVariants.{Failed, Missing, Memory}

-- each answer of `open_file` but Ok, and what it leaves
abbrev pub FailsToOpen : MemoryState → MemoryState → List ℕ → OpenFault → Type 0
FailsToOpen old new name Failed = IsListed old × (new ≡ after_fault (record old.world { opened = None }) old)
FailsToOpen old new name Missing = ¬ IsListed old × IsNone (file_named old.world.files name) × (new ≡ after_call (record old.world { opened = None }) old)
FailsToOpen old new name Memory = ¬ IsListed old × IsSome (file_named old.world.files name) × (new ≡ after_call (record old.world { opened = None }) old)

-- `open_file` fails where the list names it, then where no file has the name; else the file stands open, but for want of memory
abbrev pub OpensInMemory : MemoryState → MemoryState → List ℕ → Result (Unit {0}) OpenFault → Type 0
OpensInMemory old new name result = MatchResult result
    (λ _. ¬ IsListed old × IsSome (file_named old.world.files name) × (new ≡ after_call (record old.world { opened = Some (record { name = name; place = 0 }) }) old))
    (FailsToOpen old new name)

-- `read` fails exactly where the list names it; else it gives as many of the next bytes as the room, the rest and the step allow
abbrev pub ReadsInMemory : {E : Type 0} → MemoryState → MemoryState → List ℕ → List ℕ → Result ℕ E → Type 0
ReadsInMemory old new before after result = MatchResult result
    (λ k. ¬ IsListed old × (k ≡ within_step old.step (min (length after) (length (unread old.world)))) × (after ≡ take k (unread old.world) ++ drop k before)
    × (new ≡ after_call (record old.world { opened = place_moved k old.world.opened }) old))
    (λ _. IsListed old × (new ≡ after_fault old.world old))

-- each answer of `create` but Ok, and what it leaves
abbrev pub FailsToCreate : MemoryState → MemoryState → OpenFault → Type 0
FailsToCreate old new Failed = IsListed old × (new ≡ after_fault (record old.world { made = None }) old)
FailsToCreate old new Missing = ⊥
FailsToCreate old new Memory = ¬ IsListed old × (new ≡ after_call (record old.world { made = None }) old)

-- `create` fails where the list names it; else an empty file is being made, but for want of memory
abbrev pub CreatesInMemory : MemoryState → MemoryState → List ℕ → Result (Unit {0}) OpenFault → Type 0
CreatesInMemory old new name result = MatchResult result
    (λ _. ¬ IsListed old × (new ≡ after_call (record old.world { made = Some (record { name = name; bytes = [] }) }) old))
    (FailsToCreate old new)

-- as many bytes of the piece as are free and one call moves, or None where none is free
abbrev pub TakesFree : ℕ → Option ℕ → List ℕ → Option ℕ → Type 0
TakesFree free step piece taken = MatchOption taken (free ≡ 0) (λ k. (0 < free) × (k ≡ within_step step (min (length piece) free)))

-- `write` fails exactly where the list names it or no byte is free; else it takes as many bytes of its piece as are free and the step allows
abbrev pub WritesInMemory : {E : Type 0} → MemoryState → MemoryState → List ℕ → Result ℕ E → Type 0
WritesInMemory old new piece result = MatchResult result
    (λ k. ¬ IsListed old × (0 < free_to_write old) × (k ≡ within_step old.step (min (length piece) (free_to_write old)))
    × (new ≡ after_call (record old.world { made = bytes_added (take k piece) old.world.made }) old))
    (λ _. (IsListed old ⊎ (free_to_write old ≡ 0)) × (new ≡ after_fault old.world old))

-- `finish` fails exactly where the list names it; else the made file stands among the files
abbrev pub FinishesInMemory : {E : Type 0} → MemoryState → MemoryState → Result (Unit {0}) E → Type 0
FinishesInMemory old new result = MatchResult result
    (λ _. ¬ IsListed old × (new ≡ after_call (record old.world { files = put_made old.world.made old.world.files; made = None }) old))
    (λ _. IsListed old × (new ≡ after_fault (record old.world { made = None }) old))

-- `print` fails exactly where the list names it or no byte is free; else it takes as many bytes of its piece as are free and the step allows
abbrev pub PrintsInMemory : {E : Type 0} → MemoryState → MemoryState → List ℕ → Result ℕ E → Type 0
PrintsInMemory old new piece result = MatchResult result
    (λ k. ¬ IsListed old × (0 < free_to_print old) × (k ≡ within_step old.step (min (length piece) (free_to_print old)))
    × (new ≡ after_call (record old.world { printed = old.world.printed ++ take k piece }) old))
    (λ _. (IsListed old ⊎ (free_to_print old ≡ 0)) × (new ≡ after_fault old.world old))
