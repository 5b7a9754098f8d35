-- How the steps of a run make its end.
use Rattle.std.proofs.Common.{◌≡◌, ℕ, ◌≤◌, List, take, Option, None, Some, inl, inr, refl, sym, ◌∙◌, ap, subst, arith}
use Rattle.lop_desk.specs.Whole.{PrintsFront, OnlyOpens}
use Rattle.lop_desk.proofs.Printing.{rose_from}
use Rattle.lop_tool.specs.Names.{World, NamedFile, with_printed, with_made, Rose, Command, Status, Stop}
use Rattle.lop_tool.specs.declared.status.Status.TheVariants as status
use Rattle.lop_tool.specs.declared.stop.Stop.TheVariants as stop
use Rattle.lop_tool.specs.{Status.number, Told.files_of, Told.at_rest, Told.with_file, Told.Leaves, Refusal.refusal_line}
use Rattle.lop_tool.specs.{Refusal.words_line, Reply.IsReply, Reply.refused_input, Reply.refused_words, Reply.IsRight}
use Rattle.lop_tool.specs.{Ended.Ended, Ended.replied, Ended.faulted, Ended.lacked, Ended.Faulted, Ended.Delivered}
use Rattle.lop_tool.specs.{Ended.whole, Ended.part, Ended.fault, Ended.NoFile, Ended.Stopped, Ended.StopCause}

-- printing goes on beside the opened and the made file
pub at_rest-printed : (text : List ℕ) (told : Option World) → at_rest (with_printed text told) ≡ with_printed text (at_rest told)
at_rest-printed text None = refl
at_rest-printed text (Some w) = refl

-- what only opens a file leaves all else
pub at_rest-opened : (old new : Option World) → OnlyOpens old new → at_rest new ≡ at_rest old
at_rest-opened old new opens = ap (with_made None) opens

-- after the file is left, a text is printed
printed_after : (left : Option NamedFile) (text : List ℕ) (old mid new : Option World) → at_rest mid ≡ with_file left (at_rest old) → new ≡ with_printed text mid → Leaves text left old new
printed_after left text old mid new kept prints = ap at_rest prints ∙ at_rest-printed text mid ∙ ap (λ (t : Option World). with_printed text t) kept

-- a reply that was printed whole
pub delivered_whole : (leaves : Option NamedFile → Type 0) (text : List ℕ) (answer ends : Status) (old mid new : Option World) (before now : ℕ) → ends ≡ answer → (left : Option NamedFile) × leaves left × (at_rest mid ≡ with_file left (at_rest old)) → new ≡ with_printed text mid
    → Delivered leaves text answer old new before now ends
delivered_whole leaves text answer ends old mid new before now is kept prints = whole kept.0 kept.1 is (printed_after kept.0 text old mid new kept.2 prints)

-- a reply whose text was cut off
pub delivered_part : (leaves : Option NamedFile → Type 0) (text : List ℕ) (answer : Status) (old mid new : Option World) (before between now : ℕ) → (left : Option NamedFile) × leaves left × (at_rest mid ≡ with_file left (at_rest old)) → before ≤ between → Rose between now
    → PrintsFront mid new text → Delivered leaves text answer old new before now status.Fault
delivered_part leaves text answer old mid new before between now kept later rose (n, prints) =
    part kept.0 n kept.1 refl (rose_from before between now later rose) (printed_after kept.0 (take n text) old mid new kept.2 prints)

moved : (left : Option NamedFile) (text : List ℕ) (old mid new : Option World) → at_rest mid ≡ at_rest old → Leaves text left mid new → Leaves text left old new
moved left text old mid new same leaves = leaves ∙ ap (λ (t : Option World). with_printed text (with_file left t)) same

-- a reply that was decided while the files stayed, and then delivered
pub ends_right : (command : Option Command) (s : Status) (text : List ℕ) (leaves : Option NamedFile → Type 0) (old mid new : Option World) (before between now : ℕ) (ends : Status) → IsRight (files_of old) command s text leaves → at_rest mid ≡ at_rest old → before ≤ between
    → Delivered leaves text s mid new between now ends → Ended command old new before now (number ends)
ends_right command s text leaves old mid new before between now ends right same later (whole left kept is leave) =
    replied (record { answer = s; text = text; left = left; right = right left kept; number_is = ap number is; leaves = moved left text old mid new same leave })
ends_right command s text leaves old mid new before between now ends right same later (part left n kept is rose leave) =
    faulted (ap number is) (inr (rose_from before between now later rose)) (inr (record { answer = s; text = text; left = left; right = right left kept; count = n; leaves = moved left (take n text) old mid new same leave }))
ends_right command s text leaves old mid new before between now ends right same later (fault is rose leave) = faulted (ap number is) (inr (rose_from before between now later rose)) (inl (leave ∙ same))

-- a reply that leaves no file
pub right_alone : (told : Option (List NamedFile)) (command : Option Command) (s : Status) (text : List ℕ) → IsReply told command s text None → IsRight told command s text NoFile
right_alone told command s text right = λ left none. subst (λ (l : Option NamedFile). IsReply told command s text l) (sym none) right

pub rose_until : (before between now : ℕ) → Rose before between → between ≤ now → Rose before now
rose_until before between now rose later = omega (arith, rose, later)

still_faulted : (command : Option Command) (old : Option World) (before between now : ℕ) → Faulted command old before between → between ≤ now → Faulted command old before now
still_faulted command old before between now (inl missing) later = inl missing
still_faulted command old before between now (inr rose) later = inr (rose_until before between now rose later)

-- a run that stopped
pub ends_stopped : (command : Command) (stop : Stop) (old mid new : Option World) (before between now : ℕ) (ends : Status) → StopCause command old before between stop → at_rest mid ≡ at_rest old → before ≤ between → between ≤ now → Stopped stop mid new between now ends
    → Ended (Some command) old new before now (number ends)
ends_stopped command (stop.Refused refusal) old mid new before between now ends cause same later after stopped =
    let right = right_alone (files_of old) (Some command) status.Refused (refusal_line refusal) (refused_input refusal cause refl) in
    ends_right (Some command) status.Refused (refusal_line refusal) NoFile old mid new before between now ends right same later stopped
ends_stopped command stop.Fault old mid new before between now ends cause same later after stopped = faulted (ap number stopped.0) (still_faulted (Some command) old before between now cause after) (inl (ap at_rest stopped.1 ∙ same))
ends_stopped command stop.Memory old mid new before between now ends cause same later after stopped = lacked (ap number stopped.0) (ap at_rest stopped.1 ∙ same)

-- words that are no command
pub ends_words : (old new : Option World) (before now : ℕ) (ends : Status) → Delivered NoFile words_line status.NoCommand old new before now ends → Ended None old new before now (number ends)
ends_words old new before now ends delivered =
    ends_right None status.NoCommand words_line NoFile old old new before before now ends (right_alone (files_of old) None status.NoCommand words_line (refused_words refl)) refl (omega arith) delivered
