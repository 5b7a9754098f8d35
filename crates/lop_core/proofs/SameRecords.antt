-- A record that a node has already, and the terms of records that are told apart by their numbers.
use Rattle.std.proofs.Common.{◌≡◌, ◌≢◌, ℕ, ◌+◌, ◌<◌, ◌≤◌, List, [], ◌∷◌, length, get_or, set, arith, sym, ◌∙◌, refl, ap, subst, Bool, true, false, ◌&&◌, map, eqb, zero, suc, length-set}
use Rattle.std.specs.Prelude.{All, AllPairs, Contains, IsPermutation, sum}
use Rattle.std.specs.List.{list_all, sum_by, remove}
use Rattle.std.proofs.lemmas.Bool.Decides.{nat_tests}
use Rattle.std.proofs.lemmas.List.{get_or-map, get_or-set_other, length-map}
use Rattle.std.proofs.lemmas.List.Elements.{All-head, All-tail}
use Rattle.std.proofs.lemmas.List.Folds.{Any-from_list_any, list_any-from_Any}
use Rattle.std.proofs.lemmas.List.Sums.{AllPass-from_list_all, sum_by-set, sum_by-cons, sum-map}
use Rattle.std.proofs.lemmas.List.Sorted.{length_permutation, IsPermutation-refl, IsPermutation-cons, IsPermutation-trans, IsPermutation-sym, IsPermutation-remove, Contains-permutation}
use Rattle.lop_cuts.specs.declared.kind.CutKind.{CutKind}
use Rattle.lop_cuts.specs.contracts.kind.CutKindPartialEq.TheImpl.{ghosts as of_kind}
use Rattle.lop_cuts.specs.Lagrangian.{Term}
use Rattle.lop_leaf.specs.Record.{ScaledTerms, IsScaledTerms}
use Rattle.lop_core.specs.declared.records.NumberedTerm.{NumberedTerm}
use Rattle.lop_core.specs.Records.{NodeRecord, RecordBook, IsRecordBook, IsNumbered, IsAdded, IsTakenAs, IsTakenIn, is_own, HaveTermsWithin, empty_record, record_at, number_at, cut_at, terms_of, same_cut, has_term, is_same}
use Rattle.lop_core.proofs.CutIndexLemmas.{same_cut-Decides}
use Rattle.lop_core.proofs.RecordLemmas.{map_agree}

-- ---- lists with the same elements

-- different elements that are all of a list as long are that list in another order
pub same_elements : {X : Type 0} (xs ys : List X) → length xs ≡ length ys → AllPairs (λ a b. a ≢ b) xs → All (Contains ys) xs → IsPermutation xs ys
same_elements [] [] e different each = IsPermutation-refl []
same_elements [] (y ∷ ys) e different each = absurd (omega arith)
same_elements {X} (x ∷ xs) ys e different each =
    let there : Contains ys x = All-head (Contains ys) x xs each in
    let rest : List X = remove ys there.0 in
    let apart : IsPermutation ys (x ∷ rest) = IsPermutation-remove ys there.0 x there.1 (sym there.2) in
    let long : length (x ∷ rest) ≡ length ys = length_permutation ys (x ∷ rest) apart in
    let shorter : length xs ≡ length rest = omega (arith, long) in
    let later : All (Contains rest) xs = λ k d lt.
    inner rest x (get_or xs k d) (Contains-permutation ys (x ∷ rest) (get_or xs k d) apart (All-tail (Contains ys) x xs each k d lt))
    (λ same. different 0 (suc k) d (omega arith) (omega arith) same) in
    IsPermutation-trans (x ∷ xs) (x ∷ rest) ys
    (IsPermutation-cons x xs rest (same_elements xs rest shorter (λ i j d lt within. different (suc i) (suc j) d (omega arith) (omega arith)) later))
    (IsPermutation-sym ys (x ∷ rest) apart)
  where
    inner : (rest : List X) (x z : X) → Contains (x ∷ rest) z → x ≢ z → Contains rest z
    inner rest x z (zero, lt, same) never = absurd (never same)
    inner rest x z (suc k, lt, same) never = (k, omega arith, same)

both : (a b : Bool) → (a && b) ≡ true → (a ≡ true) × (b ≡ true)
both true b e = (refl, e)
both false b e = absurd cc

equal_numbers : (x y : ℕ) → eqb x y ≡ true → x ≡ y
equal_numbers x y h = grind (arith, nat_tests)

-- ---- a record that is there already

-- a term that is found is one of the terms with their cuts
found_term : (cuts : List CutKind) (terms : List NumberedTerm) (t : Term) → has_term cuts terms t ≡ true → Contains (terms_of cuts terms) t
found_term cuts terms t e =
    let look : NumberedTerm → Term = λ u. record { cut = cut_at cuts u.cut; multiplier = u.multiplier } in
    let any = Any-from_list_any (λ (u : NumberedTerm). eqb u.multiplier t.multiplier && same_cut (cut_at cuts u.cut) t.cut) terms e in
    let u : NumberedTerm = any.1 in
    let tests = both (eqb u.multiplier t.multiplier) (same_cut (cut_at cuts u.cut) t.cut) any.4 in
    let same : look u ≡ t =
    ap (λ (m : ℕ). record { cut = cut_at cuts u.cut; multiplier = m }) (equal_numbers u.multiplier t.multiplier tests.0)
    ∙ ap (λ (c : CutKind). record { cut = c; multiplier = t.multiplier }) ((same_cut-Decides (cut_at cuts u.cut) t.cut).0 tests.1) in
    let at : get_or (terms_of cuts terms) any.0 t ≡ look (get_or terms any.0 u) = get_or-map look terms any.0 u t any.2 in
    let long : length (terms_of cuts terms) ≡ length terms = length-map terms look in
    (any.0, omega (arith, any.2, long), at ∙ ap look any.3 ∙ same)

-- the same record has the same scale and the same terms
pub same_record : (cuts : List CutKind) (r : NodeRecord) (shown : ScaledTerms) → AllPairs (λ t u. t.cut < u.cut) r.terms → IsScaledTerms shown → is_same cuts r shown ≡ true → IsNumbered cuts shown r
same_record cuts r shown rising is e =
    let one = both (eqb r.scale shown.scale) (eqb (length r.terms) (length shown.terms) && list_all (λ t. has_term cuts r.terms t) shown.terms) e in
    let two = both (eqb (length r.terms) (length shown.terms)) (list_all (λ t. has_term cuts r.terms t) shown.terms) one.1 in
    let each = AllPass-from_list_all (λ t. has_term cuts r.terms t) shown.terms two.1 in
    let count : length r.terms ≡ length shown.terms = equal_numbers (length r.terms) (length shown.terms) two.0 in
    let long : length (terms_of cuts r.terms) ≡ length r.terms = length-map r.terms (λ (u : NumberedTerm). record { cut = cut_at cuts u.cut; multiplier = u.multiplier }) in
    record {
      scale = equal_numbers r.scale shown.scale one.0;
      terms = same_elements shown.terms (terms_of cuts r.terms) (omega (arith, count, long)) (λ i j d lt within same. is.different i j d lt within (ap (λ (t : Term). t.cut) same))
          (λ k d lt. found_term cuts r.terms (get_or shown.terms k d) (each k d lt));
      rising = rising;
    }

-- a test of one place finds the term
pub found_at : (cuts : List CutKind) (terms : List NumberedTerm) (t : Term) (k : ℕ) (u : NumberedTerm) → k < length terms → u ≡ get_or terms k u
    → (eqb u.multiplier t.multiplier && same_cut (cut_at cuts u.cut) t.cut) ≡ true → has_term cuts terms t ≡ true
found_at cuts terms t k u lt is e = list_any-from_Any (λ (u : NumberedTerm). eqb u.multiplier t.multiplier && same_cut (cut_at cuts u.cut) t.cut) terms (k, u, lt, sym is, e)

-- the test of one term, as the code makes it
pub term_same : (m m' : ℕ) (a b a' b' : CutKind) (r : Bool) → m ≡ m' → r ≡ of_kind.eq a b → a' ≡ a → b ≡ b' → r ≡ (eqb m m' && same_cut a' b')
unfolding same_cut
term_same m m' a b a' b' r em e ea eb =
    e ∙ ap (λ (c : CutKind). of_kind.eq c b) (sym ea) ∙ ap (λ (c : CutKind). of_kind.eq a' c) eb ∙ ap (λ (t : Bool). t && of_kind.eq a' b') (sym (equal m m' em))
  where
    equal : (x y : ℕ) → x ≡ y → eqb x y ≡ true
    equal x y h = grind (arith, nat_tests)

-- ---- terms of records with different numbers

-- places that differ name different elements, whose terms are no more than those of all
once_each : (num : ℕ → ℕ) (rs : List NodeRecord) (ns : List ℕ) → All (λ i. num i < length rs) ns → AllPairs (λ i j. num i ≢ num j) ns
    → sum (map (λ i. length (record_at rs (num i)).terms) ns) ≤ sum_by (λ (r : NodeRecord). length r.terms) rs
once_each num rs [] inside different = omega arith
once_each num rs (n ∷ ns) inside different =
    let size : NodeRecord → ℕ = λ r. length r.terms in
    let less : List NodeRecord = set rs (num n) empty_record in
    let first : num n < length rs = All-head (λ i. num i < length rs) n ns inside in
    let long : length (set rs (num n) empty_record) ≡ length rs = length-set rs (num n) empty_record in
    let taken : sum_by (λ (r : NodeRecord). length r.terms) (set rs (num n) empty_record) + length (record_at rs (num n)).terms ≡ sum_by (λ (r : NodeRecord). length r.terms) rs + 0 =
    sum_by-set (λ (r : NodeRecord). length r.terms) rs (num n) empty_record empty_record first in
    let tail = All-tail (λ i. num i < length rs) n ns inside in
    let agree : map (λ i. length (record_at (set rs (num n) empty_record) (num i)).terms) ns ≡ map (λ i. length (record_at rs (num i)).terms) ns =
    map_agree (λ i. length (record_at (set rs (num n) empty_record) (num i)).terms) (λ i. length (record_at rs (num i)).terms) ns
    (λ k d lt. ap (λ (r : NodeRecord). length r.terms)
    (get_or-set_other rs (num n) (num (get_or ns k d)) empty_record empty_record (λ e. different 0 (suc k) d (omega arith) (omega arith) (sym e)))) in
    let rest = once_each num (set rs (num n) empty_record) ns (λ k d lt. let w : num (get_or ns k d) < length rs = tail k d lt in omega arith) (λ i j d lt within. different (suc i) (suc j) d (omega arith) (omega arith)) in
    let step : sum (map (λ i. length (record_at rs (num i)).terms) (n ∷ ns)) ≡ length (record_at rs (num n)).terms + sum (map (λ i. length (record_at rs (num i)).terms) ns) =
    sum_by-cons (λ x. x) (length (record_at rs (num n)).terms) (map (λ i. length (record_at rs (num i)).terms) ns) in
    omega (arith, step, rest, taken, ap sum agree)

-- the terms of nodes whose records have different numbers
pub terms_within : (book : RecordBook) (room : ℕ) → IsRecordBook book → book.used ≤ room → HaveTermsWithin book room
terms_within book room is few nodes inside different =
    let count : length book.records ≡ length book.numbers = ap length is.by_number ∙ length-map book.numbers (record_at book.kept) in
    let own : (i : ℕ) → i < length book.records → record_at book.records i ≡ record_at book.kept (number_at book.numbers i) = λ i lt.
    ap (λ (rs : List NodeRecord). record_at rs i) is.by_number ∙ get_or-map (record_at book.kept) book.numbers i 0 empty_record (omega arith) in
    let agree : map (λ i. length (record_at book.records i).terms) nodes ≡ map (λ i. length (record_at book.kept (number_at book.numbers i)).terms) nodes =
    map_agree (λ i. length (record_at book.records i).terms) (λ i. length (record_at book.kept (number_at book.numbers i)).terms) nodes
    (λ k d lt. ap (λ (r : NodeRecord). length r.terms) (own (get_or nodes k d) (inside k d lt))) in
    let most = once_each (number_at book.numbers) book.kept nodes (λ k d lt. is.inside (get_or nodes k d) 0 (let w : get_or nodes k d < length book.records = inside k d lt in omega arith)) different in
    let all : sum (map (λ (r : NodeRecord). length r.terms) book.kept) ≡ sum_by (λ (r : NodeRecord). length r.terms) book.kept = sum-map (λ (r : NodeRecord). length r.terms) book.kept in
    omega (arith, most, is.counted, all, ap sum agree)

-- the number of a node's record, and that nodes with the same number have the same record
pub number_below : (book : RecordBook) (i : ℕ) → IsRecordBook book → i < length book.records → number_at book.numbers i < length book.kept
number_below book i is lt =
    let count : length book.records ≡ length book.numbers = ap length is.by_number ∙ length-map book.numbers (record_at book.kept) in
    is.inside i 0 (omega arith)

pub equal_record : (book : RecordBook) (i j : ℕ) → IsRecordBook book → i < length book.records → j < length book.records → number_at book.numbers j ≡ number_at book.numbers i
    → record_at book.records j ≡ record_at book.records i
equal_record book i j is li lj e =
    let count : length book.records ≡ length book.numbers = ap length is.by_number ∙ length-map book.numbers (record_at book.kept) in
    let own : (k : ℕ) → k < length book.records → record_at book.records k ≡ record_at book.kept (number_at book.numbers k) = λ k lt.
    ap (λ (rs : List NodeRecord). record_at rs k) is.by_number ∙ get_or-map (record_at book.kept) book.numbers k 0 empty_record (omega arith) in
    own j lj ∙ ap (record_at book.kept) e ∙ sym (own i li)

-- what the offer of a record leaves, by whether the node has it
pub own_taken : (book : RecordBook) (node : ℕ) (shown : ScaledTerms) → IsRecordBook book → node < length book.records → IsScaledTerms shown → true ≡ is_own book node shown → IsTakenIn book node shown book
own_taken book node shown is lt scaled e =
    let own : IsNumbered book.cuts shown (record_at book.records node) = same_record book.cuts (record_at book.records node) shown (is.each node empty_record lt).rising scaled (sym e) in
    subst (λ (b : Bool). IsTakenAs b book node shown book) e (own, refl)

pub added_taken : (old new : RecordBook) (node : ℕ) (shown : ScaledTerms) → false ≡ is_own old node shown → IsAdded old node shown new → IsTakenIn old node shown new
added_taken old new node shown e added = subst (λ (b : Bool). IsTakenAs b old node shown new) e added
