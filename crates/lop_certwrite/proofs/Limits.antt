-- A core's certificate has a text of version 2: its records and their terms are few enough.
use Rattle.std.proofs.Common.{◌≡◌, ℕ, ◌+◌, ◌<◌, ◌≤◌, List, [], ◌∷◌, ◌++◌, length, length-append, map, get_or, arith, sym, subst, refl}
use Rattle.std.specs.Prelude.{All, sum}
use Rattle.std.specs.List.{flat_map}
use Rattle.std.proofs.lemmas.List.{length-map}
use Rattle.std.proofs.lemmas.List.Sums.{sum_by-cons}
use Rattle.lop_core.specs.Records.{IsRecordBook, HaveTermsWithin, record_at, number_at, term_room}
use Rattle.lop_core.specs.Core.{CoreFields, HasHistory, AreRecorded}
use Rattle.lop_core.proofs.SameRecords.{number_below}
use Rattle.lop_certtext.specs.declared.limits.TheConstants.{MAX_RECORDS, MAX_TOTAL_TERMS}
use Rattle.lop_certtext.specs.declared.version.CertVersion.TheVariants.{Two}
use Rattle.lop_certtext.specs.RecordLine.{CutTerm, CertRecord, term_count}
use Rattle.lop_certtext.specs.Certificate.{Certificate, HasText}
use Rattle.lop_certwrite.specs.CoreTree.{cert_record_of, users_in, open_nodes, IsCertificateOf}
use Rattle.lop_certwrite.proofs.LeafLemmas.{numbered}
use Rattle.lop_certwrite.proofs.Pieces.{records_of}
use Rattle.lop_certwrite.proofs.Users.{few_below, users_apart}
use Rattle.lop_certwrite.proofs.TreeHolds.{users_inside}
use Rattle.lop_core.specs.declared.search.TheConstants.{MAX_BUDGET}

-- records have as many terms as those of their nodes
term_count-records_of : (core : CoreFields) (users : List ℕ) → term_count (records_of core users) ≡ sum (map (λ i. length (record_at core.book.records i).terms) users)
term_count-records_of core [] = refl
term_count-records_of core (u ∷ us) =
    let own : List CutTerm = (cert_record_of (record_at core.book.records u)).terms in
    let size : length (map numbered (record_at core.book.records u).terms) ≡ length (record_at core.book.records u).terms = length-map (record_at core.book.records u).terms numbered in
    let both : length (map numbered (record_at core.book.records u).terms ++ flat_map (λ (r : CertRecord). r.terms) (records_of core us)) ≡ length (map numbered (record_at core.book.records u).terms) + length (flat_map (λ (r : CertRecord). r.terms) (records_of core us)) =
    length-append (map numbered (record_at core.book.records u).terms) (flat_map (λ (r : CertRecord). r.terms) (records_of core us)) in
    let step : sum (map (λ i. length (record_at core.book.records i).terms) (u ∷ us)) ≡ length (record_at core.book.records u).terms + sum (map (λ i. length (record_at core.book.records i).terms) us) =
    sum_by-cons (λ x. x) (length (record_at core.book.records u).terms) (map (λ i. length (record_at core.book.records i).terms) us) in
    omega (arith, size, both, step, term_count-records_of core us)

pub has_text : (core : CoreFields) → HasHistory core → AreRecorded core → IsRecordBook core.book → HaveTermsWithin core.book (term_room core.problem.budget) → core.state.evaluated ≤ MAX_BUDGET
    → (c : Certificate) → IsCertificateOf core c → HasText Two c
has_text core history recorded book within few c is =
    let users : List ℕ = users_in core.book.numbers is.whole.tree in
    let inside = users_inside core history recorded book is.whole.tree is.whole.is_tree in
    let apart = users_apart core.book.numbers [] (open_nodes is.whole.tree) (λ i j d lt l. absurd (omega arith)) in
    let kept : length core.book.kept ≤ core.state.evaluated + 1 = recorded.kept in
    let below : All (λ i. number_at core.book.numbers i < core.state.evaluated + 1) (users_in core.book.numbers is.whole.tree) = λ k d l.
    let node : get_or (users_in core.book.numbers is.whole.tree) k d < length core.state.nodes = inside k d l in
    let n : number_at core.book.numbers (get_or (users_in core.book.numbers is.whole.tree) k d) < length core.book.kept = number_below core.book (get_or (users_in core.book.numbers is.whole.tree) k d) book (omega (arith, recorded.same_length)) in
    omega arith in
    let many = few_below core.book.numbers (users_in core.book.numbers is.whole.tree) (core.state.evaluated + 1) apart below in
    let size : length (records_of core (users_in core.book.numbers is.whole.tree)) ≡ length (users_in core.book.numbers is.whole.tree) = length-map (users_in core.book.numbers is.whole.tree) (λ node. cert_record_of (record_at core.book.records node)) in
    let all = within (users_in core.book.numbers is.whole.tree) (λ k d l. let n : get_or (users_in core.book.numbers is.whole.tree) k d < length core.state.nodes = inside k d l in omega (arith, recorded.same_length)) apart in (
      subst (λ (rs : List CertRecord). length rs ≤ MAX_RECORDS) (sym is.records_are) (omega (arith, size, many)),
      subst (λ (rs : List CertRecord). term_count rs ≤ MAX_TOTAL_TERMS) (sym is.records_are) (omega (arith, term_count-records_of core (users_in core.book.numbers is.whole.tree), all)),
    )
