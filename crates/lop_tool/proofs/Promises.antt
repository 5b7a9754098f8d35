-- Each promise of a run, from how it ended.
use Rattle.std.proofs.Common.{◌≡◌, ◌⊎◌, ℕ, ◌<◌, ◌≤◌, Bool, true, false, List, Option, None, Some, IfSome, inl, inr, refl, ◌∙◌, ap, subst, arith}
use Rattle.std.specs.List.{Any}
use Rattle.lop_tool.specs.Names.{World, NamedFile, Rose, IsMissing, Command, Solve, Check, Value, Gen, Status, Refusal}
use Rattle.lop_tool.specs.Names.{Rejection}
use Rattle.lop_tool.specs.declared.status.Status.TheVariants as status
use Rattle.lop_tool.specs.Status.{number, done_status, IsDoneNumber}
use Rattle.lop_tool.specs.Told.{files_of, Leaves, PrintsOnly, LeavesAll}
use Rattle.lop_tool.specs.Refusal.{refusal_line, words_line}
use Rattle.lop_tool.specs.Rejection.{rejection_line as line_of}
use Rattle.lop_tool.specs.Reply.{reads, IsFirstRefusal, IsRejection, IsAccepted, IsDone, IsReply, done, rejected, refused_input, refused_words}
use Rattle.lop_tool.specs.Ended.{Ended, replied, faulted, lacked, Faulted, IsReplied, LeavesAtMost}
use Rattle.lop_tool.specs.Run.{ExactlyWhere, DoneBy, SolvesFile, AcceptsCertificate, WeighsOrder, GeneratesWeights, IsRejected, PrintsRejection, IsRefused, PrintsRefusal, IsComplete}
use Rattle.lop_tool.proofs.CheckLemmas.{rejected_unrefused}

-- ---- numbers

not_done : (n k : ℕ) → n ≡ k → 0 < k → k < 6 → IsDoneNumber n → ⊥
not_done n k is some less (inl zero_is) = omega (arith, is, some, less, zero_is)
not_done n k is some less (inr six_is) = omega (arith, is, some, less, six_is)

done_number : (n : ℕ) (b : Bool) → n ≡ number (done_status b) → IsDoneNumber n
done_number n true is = inl is
done_number n false is = inr is

done_not : (n k : ℕ) (b : Bool) → n ≡ number (done_status b) → 0 < k → k < 6 → n ≡ k → ⊥
done_not n k b is some less same = not_done n k same some less (done_number n b is)

-- ---- the four kinds of right replies

module _ (told : Option (List NamedFile)) where
  -- a right reply to a command: done, rejected or refused
  by_reply : {A : Type 0} (c : Command) (s : Status) (text : List ℕ) (left : Option NamedFile) → IsReply told (Some c) s text left
      → ((b : Bool) → s ≡ done_status b → IfSome told (IsAccepted c) → IsDone told c b text left → A)
      → ((r : Rejection) → s ≡ status.Rejected → IsRejection c told r → text ≡ line_of r → left ≡ None → A)
      → ((r : Refusal) → s ≡ status.Refused → IsFirstRefusal c told r → text ≡ refusal_line r → left ≡ None → A) → A
  by_reply c s text left (done b accepted d) if_done if_rejected if_refused = if_done b refl accepted d
  by_reply c s text left (rejected r is line) if_done if_rejected if_refused = if_rejected r refl is line refl
  by_reply c s text left (refused_input r is line) if_done if_rejected if_refused = if_refused r refl is line refl

  -- a right reply to words that are none
  no_reply : (s : Status) (text : List ℕ) (left : Option NamedFile) → IsReply told None s text left → (s ≡ status.NoCommand) × (text ≡ words_line) × (left ≡ None)
  no_reply s text left (refused_words line) = (refl, line, refl)

  -- a right reply ends with neither 4 nor 5
  no_fault : (command : Option Command) (s : Status) (text : List ℕ) (left : Option NamedFile) (n k : ℕ) → IsReply told command s text left → n ≡ number s → n ≡ k → 4 ≤ k → k ≤ 5 → ⊥
  no_fault command s text left n k (done b accepted d) is same low high = done_not n k b is (omega (arith, low)) (omega (arith, high)) same
  no_fault command s text left n k (rejected r is_rejection line) is same low high = omega (arith, is, same, low)
  no_fault command s text left n k (refused_input r is_first line) is same low high = omega (arith, is, same, low)
  no_fault command s text left n k (refused_words line) is same low high = omega (arith, is, same, low)

-- a text that was printed, where no file is left
alone : (old new : Option World) (text line : List ℕ) (left : Option NamedFile) → left ≡ None → text ≡ line → Leaves text left old new → PrintsOnly old new line
alone old new text line left none same leaves = subst (λ (l : Option NamedFile). Leaves line l old new) none (subst (λ (t : List ℕ). Leaves t left old new) same leaves)

-- ---- what a command promises that was done

module _ (old new : Option World) (before now n : ℕ) where
  -- a run that ended with neither 4 nor 5 ended with a reply
  reply_of : (command : Option Command) → Ended command old new before now n → (n ≡ number status.Fault → ⊥) → (n ≡ number status.Memory → ⊥) → IsReplied command old new n
  reply_of command (replied r) fault memory = r
  reply_of command (faulted is cause leaves) fault memory = absurd (fault is)
  reply_of command (lacked is leaves) fault memory = absurd (memory is)

  reply_below : (command : Option Command) (k : ℕ) → Ended command old new before now n → n ≡ k → k < 4 → IsReplied command old new n
  reply_below command k ended is less = reply_of command ended (λ four. omega (arith, is, less, four)) (λ five. omega (arith, is, less, five))

  done_by : (c : Command) → Ended (Some c) old new before now n → IsDoneNumber n → DoneBy (IsDone (files_of old) c) old new n
  done_by c ended ends =
      let r = reply_of (Some c) ended (λ is. not_done n 4 is (omega arith) (omega arith) ends) (λ is. not_done n 5 is (omega arith) (omega arith) ends) in by_reply (files_of old) c r.answer r.text r.left r.right
      (λ b same accepted d. record { optimal = b; text = r.text; left = r.left; kept = d; number_is = r.number_is ∙ ap number same; leaves = r.leaves })
      (λ _ same _ _ _. absurd (not_done n 1 (r.number_is ∙ ap number same) (omega arith) (omega arith) ends))
      (λ _ same _ _ _. absurd (not_done n 3 (r.number_is ∙ ap number same) (omega arith) (omega arith) ends))

  ended_as : (command given : Option Command) → command ≡ given → Ended command old new before now n → Ended given old new before now n
  ended_as command given same ended = subst (λ (c : Option Command). Ended c old new before now n) same ended

  pub solves : (command : Option Command) → Ended command old new before now n → SolvesFile command old new n
  solves command ended = λ format file workers nodes cert same ends.
      let c = Solve format file workers nodes cert in done_by c (ended_as command (Some c) same ended) ends

  pub checks : (command : Option Command) → Ended command old new before now n → AcceptsCertificate command old new n
  checks command ended = λ format file cert same ends. let c = Check format file cert in done_by c (ended_as command (Some c) same ended) ends

  pub values : (command : Option Command) → Ended command old new before now n → WeighsOrder command old new n
  values command ended = λ format file order_file same ends.
      let c = Value format file order_file in done_by c (ended_as command (Some c) same ended) ends

  pub generates : (command : Option Command) → Ended command old new before now n → GeneratesWeights command old new n
  generates command ended = λ seed k same ends. let c = Gen seed k in done_by c (ended_as command (Some c) same ended) ends

  -- ---- the other ends

  -- words that are no command end with 2 where they end with a reply
  ends_two : IsReplied None old new n → n ≡ number status.NoCommand
  ends_two r = r.number_is ∙ ap number (no_reply (files_of old) r.answer r.text r.left r.right).0

  pub rejection_line : (command : Option Command) → Ended command old new before now n → n ≡ number status.Rejected → PrintsRejection command old new
  rejection_line None ended one = let is = ends_two (reply_below None 1 ended one (omega arith)) in absurd (omega (arith, one, is))
  rejection_line (Some c) ended one = let r = reply_below (Some c) 1 ended one (omega arith) in by_reply (files_of old) c r.answer r.text r.left r.right
      (λ b same _ _. absurd (done_not n 1 b (r.number_is ∙ ap number same) (omega arith) (omega arith) one))
      (λ x same rejection line none. (x, rejection, alone old new r.text (line_of x) r.left none line r.leaves))
      (λ x same _ _ _. absurd (let three : n ≡ 3 = r.number_is ∙ ap number same in omega (arith, one, three)))

  pub refusal_line_of : (command : Option Command) → Ended command old new before now n → n ≡ number status.Refused → PrintsRefusal command old new
  refusal_line_of None ended three = let is = ends_two (reply_below None 3 ended three (omega arith)) in absurd (omega (arith, three, is))
  refusal_line_of (Some c) ended three = let r = reply_below (Some c) 3 ended three (omega arith) in by_reply (files_of old) c r.answer r.text r.left r.right
      (λ b same _ _. absurd (done_not n 3 b (r.number_is ∙ ap number same) (omega arith) (omega arith) three))
      (λ x same _ _ _. absurd (let one : n ≡ 1 = r.number_is ∙ ap number same in omega (arith, one, three)))
      (λ x same first line none. (x, first, alone old new r.text (refusal_line x) r.left none line r.leaves))

  only_none : (command : Option Command) → Ended command old new before now n → n ≡ number status.NoCommand → command ≡ None
  only_none None ended two = refl
  only_none (Some c) ended two = let r = reply_below (Some c) 2 ended two (omega arith) in by_reply (files_of old) c r.answer r.text r.left r.right
      (λ b same _ _. absurd (done_not n 2 b (r.number_is ∙ ap number same) (omega arith) (omega arith) two))
      (λ x same _ _ _. absurd (let one : n ≡ 1 = r.number_is ∙ ap number same in omega (arith, one, two)))
      (λ x same _ _ _. absurd (let three : n ≡ 3 = r.number_is ∙ ap number same in omega (arith, three, two)))

  pub usage_line : (command : Option Command) → Ended command old new before now n → n ≡ number status.NoCommand → PrintsOnly old new words_line
  usage_line command ended is =
      let r = reply_below None 2 (ended_as command None (only_none command ended is) ended) is (omega arith) in
      let words = no_reply (files_of old) r.answer r.text r.left r.right in alone old new r.text words_line r.left words.2 words.1 r.leaves

  -- a run ends with the number of its reply, or that number yields to want of memory and to a fault
  yields : (command : Option Command) (s : Status) → Ended command old new before now n → (IsReplied command old new n → n ≡ number s) → (n ≡ number s) ⊎ (n ≡ number status.Memory) ⊎ ((n ≡ number status.Fault) × Faulted command old before now)
  yields command s (replied r) by = inl (by r)
  yields command s (faulted is cause leaves) by = inr (inr (is, cause))
  yields command s (lacked is leaves) by = inr (inl is)

  pub usage : (command : Option Command) → Ended command old new before now n → ExactlyWhere n status.NoCommand (command ≡ None) (Faulted command old before now)
  usage command ended = record {
    only = only_none command ended;
    always = λ none. yields command status.NoCommand ended (λ r. ends_two (subst (λ (c : Option Command). IsReplied c old new n) none r));
  }

  no_fault_replied : (command : Option Command) (k : ℕ) → IsReplied command old new n → n ≡ k → 4 ≤ k → k ≤ 5 → ⊥
  no_fault_replied command k r = no_fault (files_of old) command r.answer r.text r.left n k r.right r.number_is

  by_fault : (command : Option Command) → Ended command old new before now n → n ≡ number status.Fault → Faulted command old before now × LeavesAtMost command old new
  by_fault command (replied r) four = absurd (no_fault_replied command 4 r four (omega arith) (omega arith))
  by_fault command (faulted is cause leaves) four = (cause, leaves)
  by_fault command (lacked is leaves) four = absurd (omega (arith, is, four))

  pub faults : (command : Option Command) → Ended command old new before now n → n ≡ number status.Fault → Faulted command old before now
  faults command ended four = (by_fault command ended four).0

  pub left_by_fault : (command : Option Command) → Ended command old new before now n → n ≡ number status.Fault → LeavesAtMost command old new
  left_by_fault command ended four = (by_fault command ended four).1

  pub left_by_want : (command : Option Command) → Ended command old new before now n → n ≡ number status.Memory → LeavesAll old new
  left_by_want command (replied r) five = absurd (no_fault_replied command 5 r five (omega arith) (omega arith))
  left_by_want command (faulted is cause leaves) five = absurd (omega (arith, is, five))
  left_by_want command (lacked is leaves) five = leaves

-- ---- exactly where, on a desk that tells its files

module _ (new : Option World) (before now n : ℕ) where
  ends_one : (command : Option Command) (w : World) → IsRejected command w → IsReplied command (Some w) new n → n ≡ number status.Rejected
  ends_one None w rejection r = absurd rejection.1
  ends_one (Some c) w rejection r = by_reply (Some w.files) c r.answer r.text r.left r.right
      (λ b same accepted _. absurd (accepted.unrejected rejection.0 rejection.1))
      (λ _ same _ _ _. r.number_is ∙ ap number same)
      (λ f same first _ _. absurd (rejected_unrefused c w.files rejection.0 f rejection.1 first))

  ends_three : (command : Option Command) (w : World) → IsRefused command w → IsReplied command (Some w) new n → n ≡ number status.Refused
  ends_three None w refusal r = absurd refusal.1
  ends_three (Some c) w refusal r = by_reply (Some w.files) c r.answer r.text r.left r.right
      (λ b same accepted _. absurd (accepted.unrefused refusal.0 refusal.1))
      (λ x same rejection _ _. absurd (rejected_unrefused c w.files x refusal.0 rejection refusal.1))
      (λ _ same _ _ _. r.number_is ∙ ap number same)

  pub rejects : (command : Option Command) (old : Option World) → Ended command old new before now n → IfSome old (λ w. ExactlyWhere n status.Rejected (IsRejected command w) (Faulted command old before now))
  rejects command None ended = tt
  rejects command (Some w) ended = record {
    only = λ is. let shown = rejection_line (Some w) new before now n command ended is in (shown.0, shown.1);
    always = λ rejection. yields (Some w) new before now n command status.Rejected ended (ends_one command w rejection);
  }

  pub refuses : (command : Option Command) (old : Option World) → Ended command old new before now n → IfSome old (λ w. ExactlyWhere n status.Refused (IsRefused command w) (Faulted command old before now))
  refuses command None ended = tt
  refuses command (Some w) ended = record {
    only = λ is. let shown = refusal_line_of (Some w) new before now n command ended is in (shown.0, shown.1);
    always = λ refusal. yields (Some w) new before now n command status.Refused ended (ends_three command w refusal);
  }

  pub ends_well : (c : Command) (w : World) → Ended (Some c) (Some w) new before now n → ¬ (Any (IsMissing (Some w)) (reads c)) → IsAccepted c w.files → ¬ (Rose before now) → IsDoneNumber n ⊎ (n ≡ number status.Memory)
  ends_well c w (replied r) there accepted calm = by_reply (Some w.files) c r.answer r.text r.left r.right
      (λ b same _ _. inl (done_number n b (r.number_is ∙ ap number same)))
      (λ x same rejection _ _. absurd (accepted.unrejected x rejection))
      (λ x same refusal _ _. absurd (accepted.unrefused x refusal))
  ends_well c w (faulted is (inl missing) leaves) there accepted calm = absurd (there missing)
  ends_well c w (faulted is (inr rose) leaves) there accepted calm = absurd (calm rose)
  ends_well c w (lacked is leaves) there accepted calm = inr is

  pub completes : (command : Option Command) (old : Option World) → Ended command old new before now n → IfSome old (λ w. IsComplete command w before now n)
  completes command None ended = tt
  completes command (Some w) ended = λ given same there accepted calm.
      ends_well given w (ended_as (Some w) new before now n command (Some given) same ended) there accepted calm
