-- Bytes that go out piece by piece, printed or written, and what is left of a text that was cut off. `put bytes t` is t with the bytes at its end.
use Rattle.std.proofs.Common.{◌≡◌, ℕ, ◌+◌, ◌≤◌, List, ◌++◌, length, take, drop, append_assoc, Result, Ok, Err, IsErrAnd, MatchResult, sym, ◌∙◌, ap}
use Rattle.std.proofs.lemmas.List.{take_all, take-append-drop}
use Rattle.std.proofs.Math.Seq.{take-add, take-append-add, take-append_seam}

module _ {T : Type 0} (put : List ℕ → T → T) (more : (xs ys : List ℕ) (t : T) → put ys (put xs t) ≡ put (xs ++ ys) t) where
  -- the next k of the bytes
  pub piece_step : (old mid new : T) (bytes : List ℕ) (done k : ℕ) → mid ≡ put (take done bytes) old → new ≡ put (take k (drop done bytes)) mid → new ≡ put (take (done + k) bytes) old
  piece_step old mid new bytes done k so_far next =
      next
      ∙ ap (λ (t : T). put (take k (drop done bytes)) t) so_far
      ∙ more (take done bytes) (take k (drop done bytes)) old
      ∙ ap (λ (l : List ℕ). put l old) (sym (take-add done k bytes))

  pub piece_all : (old mid : T) (bytes : List ℕ) (done : ℕ) → mid ≡ put (take done bytes) old → length bytes ≤ done → mid ≡ put bytes old
  piece_all old mid bytes done so_far le = so_far ∙ ap (λ (l : List ℕ). put l old) (take_all done bytes le)

  -- a prefix of the bytes went out
  abbrev pub IsFront : T → T → List ℕ → Type 0
  IsFront old new bytes = (n : ℕ) × (new ≡ put (take n bytes) old)

  -- the front of a piece is the front of a longer text
  front_of_more : (old new : T) (first rest : List ℕ) → IsFront old new first → IsFront old new (first ++ rest)
  front_of_more old new first rest (n, is) = (length (take n first), is ∙ ap (λ (l : List ℕ). put l old) (sym same))
    where
      same : take (length (take n first)) (first ++ rest) ≡ take n first
      same =
          ap (λ (l : List ℕ). take (length (take n first)) (l ++ rest)) (sym (take-append-drop n first))
          ∙ ap (λ (l : List ℕ). take (length (take n first)) l) (append_assoc (take n first) (drop n first) rest)
          ∙ take-append_seam (take n first) (drop n first ++ rest)

  -- a piece, and then some of the next
  front_after : (old mid new : T) (first rest : List ℕ) → mid ≡ put first old → IsFront mid new rest → IsFront old new (first ++ rest)
  front_after old mid new first rest done (n, is) =
      (length first + n, is ∙ ap (λ (t : T). put (take n rest) t) done ∙ more first (take n rest) old ∙ ap (λ (l : List ℕ). put l old) (sym (take-append-add first rest n)))

  -- all of the bytes went out; after an Err a prefix of them
  abbrev pub IsAll : {E : Type 0} → T → T → List ℕ → Result (Unit {0}) E → Type 0
  IsAll old new bytes result = MatchResult result (λ _. new ≡ put bytes old) (λ _. IsFront old new bytes)

  -- a call that failed in the first piece
  pub piece_cut : {E : Type 0} (old new : T) (first rest : List ℕ) (result : Result (Unit {0}) E) (Q : E → Type 0) → IsErrAnd result Q → IsFront old new first → IsAll old new (first ++ rest) result
  piece_cut old new first rest (Ok x) Q failed front = absurd failed
  piece_cut old new first rest (Err e) Q failed front = front_of_more old new first rest front

  -- a first piece, and then a call on the rest
  pub piece_then : {E : Type 0} (old mid new : T) (first rest : List ℕ) (result : Result (Unit {0}) E) → mid ≡ put first old → IsAll mid new rest result → IsAll old new (first ++ rest) result
  piece_then old mid new first rest (Ok x) done next = next ∙ ap (λ (t : T). put rest t) done ∙ more first rest old
  piece_then old mid new first rest (Err e) done next = front_after old mid new first rest done next
