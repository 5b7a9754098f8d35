-- What lines say.
use Rattle.std.proofs.Common.{◌≡◌, ℕ, ◌+◌, ◌≤◌, ◌==◌, Bool, true, false, not, ◌&&◌, List, [], ◌∷◌, length, Option, None, Some, refl, ◌∙◌, ap, cond, leb, arith}
use Rattle.std.specs.List.{list_any, list_all, prefix_len, after_first}
use Rattle.std.proofs.lemmas.Bool.Decides.{nat_tests}
use Rattle.lop_desk.specs.Number.{digits_value, is_digit_word}
use Rattle.lop_preflib.specs.Text.{is_blank, is_number_to, begins_with, trim}
use Rattle.lop_preflib.specs.Line.{is_metadata, metadata_text, name_label, told_size, told_name, naming, number_word, is_colon}
use Rattle.lop_preflib.specs.Kind.{Says, Tells, AreNames, IsTold, IsKind, no_name, only_name}
use Rattle.lop_preflib.specs.declared.line.Line.{Line}
use Rattle.lop_preflib.specs.declared.line.Line.TheVariants.{Size, Name, Order, Other}

-- of three tests and a fourth the last two fail
and_last : (a b c e : Bool) → (c && e) ≡ false → ((a && b && c) && e) ≡ false
and_last true true c e h = h
and_last true false c e h = refl
and_last false true c e h = refl
and_last false false c e h = refl

-- a number word out of range names no alternative from 1 to 512
pub AreNames-far : (text : List ℕ) → is_number_to 512 (number_word text) ≡ false → AreNames text no_name
AreNames-far text far = λ i low high.
    let word = number_word text in
    let no : (is_digit_word word && digits_value word == i) ≡ false = other (is_digit_word word) (digits_value word) i low high far in
    ap (λ (t : Bool). cond t (Some (trim (after_first is_colon (naming text)))) None) (and_last (begins_with name_label text) (list_any is_colon (naming text)) (is_digit_word word) (digits_value word == i) no)
  where
    other : (digits : Bool) (value i : ℕ) → 1 ≤ i → i ≤ 512 → (digits && leb 1 value && leb value 512) ≡ false → (digits && value == i) ≡ false
    other false value i low high far = refl
    other true value i low high far = grind (arith, nat_tests)

-- what a metadata text tells, its line says
Says-told : (line : List ℕ) (size : Option (List ℕ)) (name : ℕ → Option (List ℕ)) → is_metadata line ≡ true → Tells (metadata_text line) size name → Says line size false name
Says-told line size name metadata told = record {
  size_word = ap (λ (t : Bool). cond t (told_size (metadata_text line)) None) metadata ∙ told.size_word;
  order_line = ap (λ (t : Bool). not t && not (list_all is_blank line)) metadata;
  names = λ i low high. ap (λ (t : Bool). cond t (told_name i (metadata_text line)) None) metadata ∙ told.names i low high;
}

pub IsKind-told : (line : List ℕ) (kind : Line) → is_metadata line ≡ true → IsTold (metadata_text line) kind → IsKind line kind
IsKind-told line (Size word) metadata told = Says-told line (Some word.now) no_name metadata told
IsKind-told line (Name number name) metadata told = Says-told line None (only_name number name.now) metadata told
IsKind-told line Order metadata told = absurd told
IsKind-told line Other metadata told = Says-told line None no_name metadata told

-- other lines say nothing but whether they are orders
pub Says-other : (line : List ℕ) (order : Bool) → is_metadata line ≡ false → not (list_all is_blank line) ≡ order → Says line None order no_name
Says-other line order other blank = record {
  size_word = ap (λ (t : Bool). cond t (told_size (metadata_text line)) None) other;
  order_line = ap (λ (t : Bool). not t && not (list_all is_blank line)) other ∙ blank;
  names = λ i low high. ap (λ (t : Bool). cond t (told_name i (metadata_text line)) None) other;
}

-- a line is blank exactly where its blanks in front are all of it
pub all_blank : (p : ℕ → Bool) (line : List ℕ) → list_all p line ≡ (prefix_len p line == length line)
all_blank p [] = refl
all_blank p (b ∷ line) = by (p b) refl (all_blank p line)
  where
    by : (t : Bool) → p b ≡ t → list_all p line ≡ (prefix_len p line == length line) → (t && list_all p line) ≡ (cond t (1 + prefix_len p line) 0 == length (b ∷ line))
    by true e others = others ∙ grind (arith, nat_tests)
    by false e others = grind (arith, nat_tests)
