-- What a line of the tree does.
use Rattle.std.specs.Prelude.{◌≡◌, ◌≤◌, ◌*◌, ℕ, Option, None, Some, MatchOption, Bool, List, [], length, All, ℤ, Result, MatchResult}
use Rattle.lop_model.specs.declared.pair.Pair.{Pair}
use Rattle.lop_model.specs.Matrix.{Matrix}
use Rattle.lop_cuts.specs.declared.kind.CutKind.{CutKind}
use Rattle.lop_cuts.specs.Kind.{IsCut, FitsCut}
use Rattle.lop_certtext.specs.declared.reason.Reason.{Reason}
use Rattle.lop_certtext.specs.declared.word.CertWord.{CertWord}
use Rattle.lop_certtext.specs.declared.version.CertVersion.{CertVersion}
use Rattle.lop_cuts.specs.declared.limits.TheConstants.{MAX_SCALE}
use Rattle.lop_certtext.specs.RecordLine.{CertRecord, leaf_of}
use Rattle.lop_certtext.specs.Answer.{CheckAnswer, rejected, node_step, split_step, split_of, leaf_value}
use Rattle.lop_check.specs.declared.node.Proof.{Proof}
use Rattle.lop_check.specs.declared.node.Shown.{Shown}
use Rattle.lop_check.specs.Records.{AreRecords}
use Rattle.lop_check.specs.TreePlace.{place, pending_if, IsRoot, IsWalk, HasRoom}

-- the cuts are right and of n objects
pub record AreRightCuts (n : ℕ) (cuts : List CutKind) : Type 0 where
  pub right : All IsCut cuts
  pub fit : All (FitsCut n) cuts

-- the cut is right and of n objects
pub record IsCutOf (n : ℕ) (cut : CutKind) : Type 0 where
  pub right : IsCut cut
  pub fits : FitsCut n cut

-- what the checker keeps while it walks
pub record IsProof (n : ℕ) (p : Proof) : Type 0 where
  pub cuts : AreRightCuts n p.cuts.items
  pub records : AreRecords (length p.cuts.items) p.records
  pub walk : IsWalk p.walk
  pub size : p.walk.trail.size ≡ n
  pub square : length p.charges.items ≡ n * n

-- the tables are those of n objects
pub record IsRoomOf (n : ℕ) (p : Proof) : Type 0 where
  pub size : p.walk.trail.size ≡ n
  pub steps : HasRoom p.walk
  pub square : length p.charges.items ≡ n * n

-- nothing is kept yet
pub record IsFresh (n : ℕ) (p : Proof) : Type 0 where
  pub kept : IsProof n p
  pub no_cuts : p.cuts.items ≡ []
  pub no_records : p.records ≡ []
  pub root : IsRoot n p.walk

-- what a test of a line answers, by the line's number, where the pending paths that it leaves are handed on
abbrev pub LineTest : Type 0
LineTest = ℕ → (List (List Pair) → CheckAnswer) → CheckAnswer

-- the test of a line of the tree, where the walk stands
abbrev pub node_test : Matrix → Proof → CertVersion → ℤ → CertWord → List ℤ → LineTest
node_test C p version bound word ns number next =
    node_step C p.cuts.items (leaf_of version (length p.cuts.items) p.records) bound p.walk.trail.fixed (place p.walk).path (place p.walk).others number word ns next

-- the test of a split
abbrev pub split_test : ℕ → Proof → List ℤ → LineTest
split_test n p ns number next = split_step (place p.walk).path (place p.walk).others number (split_of n p.walk.trail.fixed ns) next

-- what a leaf's record gives under the path: its scale, and U
pub record IsShown (C : Matrix) (p : Proof) (found : Option CertRecord) (shown : Shown) : Type 0 where
  pub the_record : CertRecord
  pub is : found ≡ Some the_record
  pub scale : shown.scale ≡ the_record.scale
  pub within_limit : the_record.scale ≤ MAX_SCALE
  pub upper : shown.upper ≡ leaf_value C p.cuts.items p.walk.trail.fixed the_record

-- what the record that was found gives, if one was; only the table of charges is another
pub record Shows (C : Matrix) (old new : Proof) (found : Option CertRecord) (result : Option Shown) : Type 0 where
  pub kept : IsProof C.size new
  pub cuts : new.cuts ≡ old.cuts
  pub records : new.records ≡ old.records
  pub walk : new.walk ≡ old.walk
  pub answer : MatchOption result (found ≡ None) (IsShown C old found)

-- the line passes the test, and the walk stands where the pending paths are those that it leaves; or it fails for the
-- reason
pub record TakesLine (n : ℕ) (old new : Proof) (test : LineTest) (result : Result Bool Reason) : Type 0 where
  pub kept : IsProof n new
  pub cuts : new.cuts ≡ old.cuts
  pub records : new.records ≡ old.records
  pub answer : MatchResult result
      (λ more. (number : ℕ) (next : List (List Pair) → CheckAnswer) → test number next ≡ next (pending_if more (place new.walk)))
      (λ reason. (number : ℕ) (next : List (List Pair) → CheckAnswer) → test number next ≡ rejected number reason)
