use Rattle.std.proofs.Common.{◌≡◌, true, false, not, List, ℕ, length, sym, ◌∙◌, ap, subst, arith}
use Rattle.std.specs.List.{list_all, prefix_len}
use Rattle.std.proofs.lemmas.List.{take_rest}
use Rattle.std.proofs.lemmas.Bool.Decides.{nat_tests}
use Rattle.lop_preflib.specs.Text.{is_blank, trim}
use Rattle.lop_preflib.specs.Line.{metadata_text}
use Rattle.lop_preflib.specs.Kind.{IsTold}
use Rattle.lop_preflib.proofs.LineLemmas.{IsKind-told, Says-other, all_blank}
use Rattle.lop_preflib.proofs.line.kind_of.Goals as goal

pub returns-then-is_metadata : goal.returns-then-is_metadata
returns-then-is_metadata c =
    let line = c.args.line.now in
    let text : c.trim.result.now ≡ metadata_text line = c.trim.ensures ∙ ap trim (take_rest line 1) in
    IsKind-told line c.told_kind.result (sym c.is_metadata.ensures.value ∙ c.if-is_metadata.true) (subst (λ (t : List ℕ). IsTold t c.told_kind.result) text c.told_kind.ensures)

pub returns-then-blank_len-line : goal.returns-then-blank_len-line
returns-then-blank_len-line c =
    let line = c.args.line.now in
    let len : prefix_len is_blank line ≡ length line = sym c.blank_len.ensures.len ∙ c.if-blank_len-line.true in
    let all : list_all is_blank line ≡ true = all_blank is_blank line ∙ grind (arith, nat_tests) in
    Says-other line false (sym c.is_metadata.ensures.value ∙ c.if-is_metadata.false) (ap not all)

pub returns-else-blank_len-line : goal.returns-else-blank_len-line
returns-else-blank_len-line c =
    let line = c.args.line.now in
    let all : list_all is_blank line ≡ false = all_blank is_blank line ∙ grind (arith, nat_tests, c.blank_len.ensures.len, c.if-blank_len-line.false) in
    Says-other line true (sym c.is_metadata.ensures.value ∙ c.if-is_metadata.false) (ap not all)
