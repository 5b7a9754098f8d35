-- The walk over steps and the trail that follows them.
use Rattle.std.proofs.Common.{◌≡◌, ℕ, ◌+◌, ◌-◌, ◌*◌, ◌/◌, ◌<◌, ◌≤◌, Bool, true, false, cond, List, [], ◌∷◌, ◌++◌, length, set, get_or, take, Option, Some, refl, sym, ◌∙◌, ap, subst, arith}
use Rattle.std.proofs.lemmas.List.{length_push, take_at, get_or_push}
use Rattle.std.proofs.lemmas.List.Sums.{fold_push}
use Rattle.std.specs.Prelude.{fold}
use Rattle.std.specs.Option.{option_to_list}
use Rattle.std.specs.Vec.{vec_capacity}
use Rattle.lop_model.specs.declared.pair.Pair.{Pair}
use Rattle.lop_model.specs.Fixings.{IsClosure, IsUndecided, IsBranchingPath}
use Rattle.lop_model.proofs.BranchingLength.{length-branching}
use Rattle.lop_model.proofs.ClosureLemmas.{IsClosure-none}
use Rattle.lop_model.specs.Closing.{closed}
use Rattle.lop_model.proofs.Closings.{IsClosure-closed}
use Rattle.lop_cuts.proofs.ClosureUnique.{IsClosure-unique}
use Rattle.lop_model.specs.Reversed.{reversed}
use Rattle.lop_check.specs.declared.path.Step.{Step}
use Rattle.lop_check.specs.Trail.{FixedPath}
use Rattle.lop_check.specs.declared.path.Walk.{Walk}
use Rattle.lop_check.specs.TreePlace.{TreePlace, place, place_after, stepped, pending, Follows, IsRoot, IsWalk}
use Rattle.lop_check.proofs.TrailLemmas.{IsBranchingPath-push, IsBranchingPath-front, last_undecided}

-- ---- steps

pub place_after-push : (steps : List Step) (s : Step) → place_after (steps ++ s ∷ []) ≡ stepped (place_after steps) s
place_after-push steps s = fold_push stepped (record { path = []; others = [] }) steps s

-- a step whose reverse isn't due any more leaves the other paths as they were
pub others-done : (front : List Step) (s : Step) → s.reverse_due ≡ false → (place_after (front ++ s ∷ [])).others ≡ (place_after front).others
others-done front s e =
    ap (λ (t : TreePlace). t.others) (place_after-push front s)
    ∙ ap (λ (b : Bool). cond b (((place_after front).path ++ reversed s.pair ∷ []) ∷ (place_after front).others) (place_after front).others) e

others-due : (front : List Step) (s : Step) → s.reverse_due ≡ true → (place_after (front ++ s ∷ [])).others ≡ ((place_after front).path ++ reversed s.pair ∷ []) ∷ (place_after front).others
others-due front s e =
    ap (λ (t : TreePlace). t.others) (place_after-push front s)
    ∙ ap (λ (b : Bool). cond b (((place_after front).path ++ reversed s.pair ∷ []) ∷ (place_after front).others) (place_after front).others) e

abbrev pub turned : Step → Step
turned s = record { pair = reversed s.pair; reverse_due = false }

-- the last step turned round is on the first of the other paths
pub pending-turned : (front : List Step) (s : Step) → s.reverse_due ≡ true → pending (place_after (front ++ turned s ∷ [])) ≡ (place_after (front ++ s ∷ [])).others
pending-turned front s e = ap pending (place_after-push front (turned s)) ∙ sym (others-due front s e)

set_last : (front : List Step) (s t : Step) → set (front ++ s ∷ []) (length front) t ≡ front ++ t ∷ []
set_last [] s t = refl
set_last (x ∷ front) s t = ap (λ (l : List Step). x ∷ l) (set_last front s t)

set_turned : (items front : List Step) (s t : Step) (k : ℕ) → items ≡ front ++ s ∷ [] → k ≡ length items - 1 → set items k t ≡ front ++ t ∷ []
set_turned items front s t k is here =
    let place : k ≡ length front = omega (arith, ap length is, length_push front s) in
    ap (λ (l : List Step). set l k t) is ∙ ap (λ (i : ℕ). set (front ++ s ∷ []) i t) place ∙ set_last front s t

last_is : (items front : List Step) (s d : Step) (k : ℕ) → items ≡ front ++ s ∷ [] → k ≡ length items - 1 → get_or items k d ≡ s
last_is items front s d k is here =
    let place : k ≡ length front = omega (arith, ap length is, length_push front s) in
    ap (λ (l : List Step). get_or l k d) is ∙ ap (λ (i : ℕ). get_or (front ++ s ∷ []) i d) place ∙ get_or_push front s d (length front) refl

-- the pair of the last step, read from its place and turned round
pub turned_pair : (items front : List Step) (s read : Step) (k : ℕ) (p : Pair) → items ≡ front ++ s ∷ [] → k ≡ length items - 1 → read ≡ get_or items k read → p ≡ reversed read.pair → p ≡ reversed s.pair
turned_pair items front s read k p is here at e = e ∙ ap (λ (x : Step). reversed x.pair) (at ∙ last_is items front s read k is here)

-- the steps with the last one turned round
pub turned_steps : (items front : List Step) (s : Step) (k : ℕ) (p : Pair) → items ≡ front ++ s ∷ [] → k ≡ length items - 1 → p ≡ reversed s.pair → set items k (record { pair = p; reverse_due = false }) ≡ front ++ turned s ∷ []
turned_steps items front s k p is here e = ap (λ (q : Pair). set items k (record { pair = q; reverse_due = false })) e ∙ set_turned items front s (turned s) k is here

-- ---- the trail follows the steps

path-push : (front : List Step) (s : Step) → (place_after (front ++ s ∷ [])).path ≡ (place_after front).path ++ s.pair ∷ []
path-push front s = ap (λ (t : TreePlace). t.path) (place_after-push front s)

pub Follows-push : (n : ℕ) (steps : List Step) (s : Step) (old new : FixedPath) → Follows n steps old → IsUndecided n (place_after steps).path s.pair.before s.pair.after
    → new.size ≡ old.size → new.path ≡ old.path ++ s.pair ∷ [] → IsClosure new.path new.fixed → Follows n (steps ++ s ∷ []) new
Follows-push n steps s old new was u size path closure = record {
  size = size ∙ was.size;
  path = path ∙ ap (λ (F : List Pair). F ++ s.pair ∷ []) was.path ∙ sym (path-push steps s);
  branching = subst (IsBranchingPath n) (sym (path-push steps s)) (IsBranchingPath-push n (place_after steps).path s.pair was.branching u);
  closure = closure;
}

pub some_path : (n : ℕ) (front : List Step) (s : Step) (old : FixedPath) → Follows n (front ++ s ∷ []) old → 0 < length old.path
some_path n front s old was = omega (arith, ap length (was.path ∙ path-push front s), length_push (place_after front).path s.pair)

pub Follows-front : (n : ℕ) (front : List Step) (s : Step) (old new : FixedPath) → Follows n (front ++ s ∷ []) old
    → new.size ≡ old.size → new.path ≡ take (length old.path - 1) old.path → IsClosure new.path new.fixed → Follows n front new
Follows-front n front s old new was size path closure =
    let is : old.path ≡ (place_after front).path ++ s.pair ∷ [] = was.path ∙ path-push front s in
    let less : length old.path - 1 ≡ length (place_after front).path = omega (arith, ap length is, length_push (place_after front).path s.pair) in
    record {
      size = size ∙ was.size;
      path = path ∙ ap (λ (k : ℕ). take k old.path) less ∙ ap (take (length (place_after front).path)) is ∙ take_at (place_after front).path (s.pair ∷ []) (length (place_after front).path) refl;
      branching = IsBranchingPath-front n (place_after front).path s.pair (subst (IsBranchingPath n) (path-push front s) was.branching);
      closure = closure;
    }

-- the reverse of the last pair is undecided before it
pub reverse_undecided : (n : ℕ) (front : List Step) (s : Step) (old : FixedPath) → Follows n (front ++ s ∷ []) old → IsUndecided n (place_after front).path (reversed s.pair).before (reversed s.pair).after
reverse_undecided n front s old was =
    let u = last_undecided n (place_after front).path s.pair (subst (IsBranchingPath n) (path-push front s) was.branching) in
    record { first = u.second; second = u.first; differ = λ e. u.differ (sym e); not_before = u.not_after; not_after = u.not_before }

-- what the trail fixes is the closure of the path
pub fixed_closed : (n : ℕ) (steps : List Step) (trail : FixedPath) → Follows n steps trail → trail.fixed ≡ closed (place_after steps).path
fixed_closed n steps trail walk = IsClosure-unique (place_after steps).path trail.fixed (closed (place_after steps).path) (subst (λ (F : List Pair). IsClosure F trail.fixed) walk.path walk.closure) (IsClosure-closed (place_after steps).path)

-- ---- a walk, whose steps have room

pub IsWalk-root : (n : ℕ) (w : Walk) → IsRoot n w → IsWalk w
IsWalk-root n w root = record {
  follows = record {
    size = refl;
    path = ap (λ (t : FixedPath). t.path) root.trail ∙ sym (ap (λ (l : List Step). (place_after l).path) root.steps);
    branching = subst (λ (l : List Step). IsBranchingPath w.trail.size (place_after l).path) (sym root.steps) (record { each = λ i d l. absurd (omega arith) });
    closure = subst (λ (t : FixedPath). IsClosure t.path t.fixed) (sym root.trail) IsClosure-none;
  };
  room = root.room;
}

place_grows : (at : TreePlace) (steps : List Step) → length (fold stepped at steps).path ≡ length at.path + length steps
place_grows at [] = omega arith
place_grows at (s ∷ steps) = place_grows (stepped at s) steps ∙ omega (arith, length_push at.path s.pair)

-- an undecided pair has room for its step
pub room_left : (w : Walk) (p : Pair) → IsWalk w → IsUndecided w.trail.size w.trail.path p.before p.after → length w.steps.items < vec_capacity w.steps
room_left w p is u =
    let path = w.trail.path in
    let branching : IsBranchingPath w.trail.size path = subst (IsBranchingPath w.trail.size) (sym is.follows.path) is.follows.branching in
    let most = length-branching w.trail.size (path ++ p ∷ []) (IsBranchingPath-push w.trail.size path p branching u) in
    omega (arith, most, length_push path p, ap length is.follows.path, place_grows (record { path = []; others = [] }) w.steps.items, is.room)

-- the same walk with other steps and another trail
pub IsWalk-moved : (old new : Walk) (steps : List Step) → IsWalk old → new.steps.items ≡ steps → vec_capacity old.steps ≤ vec_capacity new.steps → new.trail.size ≡ old.trail.size → Follows old.trail.size steps new.trail → IsWalk new
IsWalk-moved old new steps was is more size follows = record {
  follows = subst (λ (n : ℕ). Follows n new.steps.items new.trail) (sym size) (subst (λ (l : List Step). Follows old.trail.size l new.trail) (sym is) follows);
  room = subst (λ (n : ℕ). n * (n - 1) / 2 ≤ vec_capacity new.steps) (sym size) (omega (arith, was.room, more));
}

-- what the walk fixes is the closure of its path
pub walk_closed : (w : Walk) → IsWalk w → w.trail.fixed ≡ closed (place w).path
walk_closed w is = fixed_closed w.trail.size w.steps.items w.trail is.follows

-- the step that is popped is the last
pub popped_last : (items rest : List Step) (s : Step) (len : ℕ) (o : Option Step) → len ≡ length items → s ≡ get_or items (length items - 1) s → (0 < len → o ≡ Some (get_or items (len - 1) s)) → 0 < len → items ≡ rest ++ option_to_list o → items ≡ rest ++ s ∷ []
popped_last items rest s len o is read gives some split =
    split ∙ ap (λ (x : Option Step). rest ++ option_to_list x) (gives some ∙ ap (λ k. Some (get_or items (k - 1) s)) is ∙ ap (λ (x : Step). Some x) (sym read))
