-- The text of a core's certificate in the pieces in which it is written.
use Rattle.std.proofs.Common.{◌≡◌, ℕ, List, [], ◌∷◌, ◌++◌, length, map, ℤ, refl, sym, ◌∙◌, ap, subst, Option, Result, Ok, Err, IsErrAnd}
use Rattle.std.specs.Prelude.{OnOk}
use Rattle.std.proofs.lemmas.List.{length-map}
use Rattle.lop_desk.specs.World.{World, with_written}
use Rattle.lop_desk.specs.Whole.{WritesFront, WritesAll}
use Rattle.lop_core.specs.Machine.{state_bound}
use Rattle.lop_core.specs.Core.{CoreFields}
use Rattle.lop_certtext.specs.declared.word.CertWord.TheVariants.{End}
use Rattle.lop_certtext.specs.Line.{CertLine}
use Rattle.lop_certtext.specs.CutLine.{cut_line}
use Rattle.lop_certtext.specs.RecordLine.{CertRecord, record_line, leaf_line}
use Rattle.lop_certtext.specs.Tree.{tree_lines, split_line}
use Rattle.lop_certtext.specs.declared.version.CertVersion.TheVariants.{Two}
use Rattle.lop_certtext.specs.Certificate.{Certificate, certificate_text, text_of}
use Rattle.lop_core.specs.Records.{record_at}
use Rattle.lop_certwrite.specs.CoreTree.{NodeTree, one_node, two_below, WholeTree, cert_record_of, users_in, certificate_tree, IsCertificateOf}
use Rattle.lop_certwrite.specs.Walk.{order_lines, bound_lines, body_lines, user_lines, user_line, count_line, visit_line, visit_lines, visits_of}
use Rattle.lop_certwrite.proofs.CutLines.{map_append}
use Rattle.lop_certwrite.proofs.Written.{lines_cut, lines_then}

-- the records of nodes as a certificate has them
abbrev pub records_of : CoreFields → List ℕ → List CertRecord
records_of core users = map (λ node. cert_record_of (record_at core.book.records node)) users

-- the certificate of a core, with the tree of its nodes
abbrev certificate_of : (core : CoreFields) → WholeTree core.state.nodes → Certificate
certificate_of core whole = record {
  order = core.order;
  value = core.state.best;
  bound = state_bound core.state;
  cuts = core.book.cuts;
  records = records_of core (users_in core.book.numbers whole.tree);
  tree = certificate_tree core.book.numbers (users_in core.book.numbers whole.tree) whole.tree;
}

is_certificate : (core : CoreFields) (whole : WholeTree core.state.nodes) → IsCertificateOf core (certificate_of core whole)
is_certificate core whole = record { order_is = refl; value_is = refl; bound_is = refl; cuts_are = refl; whole = whole; records_are = refl; tree_is = refl }

-- the lines of its tree are those of the walk
tree_text : (records : List CertRecord) (numbers users : List ℕ) (tree : NodeTree) → tree_lines (leaf_line Two records) (certificate_tree numbers users tree) ≡ visit_lines numbers users (visits_of tree)
tree_text records numbers users (one_node number) = refl
tree_text records numbers users (two_below pair a b) =
    ap (λ (ls : List CertLine). split_line pair ∷ (ls ++ tree_lines (leaf_line Two records) (certificate_tree numbers users b))) (tree_text records numbers users a)
    ∙ (ap (λ (ls : List CertLine). split_line pair ∷ (visit_lines numbers users (visits_of a) ++ ls)) (tree_text records numbers users b)
    ∙ ap (λ (ls : List CertLine). split_line pair ∷ ls) (sym (map_append (visit_line numbers users) (visits_of a) (visits_of b))))

-- the lines of its records are those of their users
users_text : (core : CoreFields) (users : List ℕ) → map record_line (records_of core users) ≡ map (user_line core.book.records) users
users_text core [] = refl
users_text core (u ∷ us) = ap (λ (ls : List CertLine). user_line core.book.records u ∷ ls) (users_text core us)

abbrev end_line : List CertLine
end_line = record { word = End; numbers = [] } ∷ []

-- its text is the pieces, one after another
pieces_text : (core : CoreFields) (whole : WholeTree core.state.nodes)
    → text_of (order_lines core.order core.state.best ++ (bound_lines (state_bound core.state) (length core.book.cuts) ++ body_lines core.book.cuts core.book.records core.book.numbers whole.tree)) ≡ certificate_text Two (certificate_of core whole)
pieces_text core whole =
    let users : List ℕ = users_in core.book.numbers whole.tree in
    let tree : List CertLine = tree_lines (leaf_line Two (records_of core (users_in core.book.numbers whole.tree))) (certificate_tree core.book.numbers (users_in core.book.numbers whole.tree) whole.tree) in
    let front : List CertLine → List CertLine = λ ls. order_lines core.order core.state.best ++ (bound_lines (state_bound core.state) (length core.book.cuts) ++ (map cut_line core.book.cuts ++ ls)) in
    let many : length (records_of core (users_in core.book.numbers whole.tree)) ≡ length (users_in core.book.numbers whole.tree) = length-map (users_in core.book.numbers whole.tree) (λ node. cert_record_of (record_at core.book.records node)) in
    ap text_of
    (sym (ap (λ (k : ℕ). front ((count_line k ∷ map record_line (records_of core users)) ++ (tree ++ end_line))) many
    ∙ (ap (λ (ls : List CertLine). front ((count_line (length users) ∷ ls) ++ (tree ++ end_line))) (users_text core users)
    ∙ ap (λ (ls : List CertLine). front (user_lines core.book.records users ++ (ls ++ end_line))) (tree_text (records_of core users) core.book.numbers users whole.tree))))

-- the lines from the cuts on, by the users
abbrev pub body_by : (core : CoreFields) → WholeTree core.state.nodes → List ℕ → List CertLine
body_by core whole users =
    map cut_line core.book.cuts ++ (user_lines core.book.records users ++ (visit_lines core.book.numbers users (visits_of whole.tree) ++ record { word = End; numbers = [] } ∷ []))

pub with_users : {E : Type 0} (core : CoreFields) (whole : WholeTree core.state.nodes) (users : List ℕ) → users ≡ users_in core.book.numbers whole.tree → (old new : Option World) (result : Result (Unit {0}) E)
    → WritesAll old new (text_of (body_by core whole users)) result → WritesAll old new (text_of (body_lines core.book.cuts core.book.records core.book.numbers whole.tree)) result
with_users core whole users e old new result h = subst (λ (us : List ℕ). WritesAll old new (text_of (body_by core whole us)) result) e h

-- the effect of a call that writes the certificate
abbrev pub WritesCertificate : {E : Type 0} → CoreFields → Option World → Option World → Result (Unit {0}) E → Type 0
WritesCertificate core old new result = (c : Certificate) × IsCertificateOf core c × WritesAll old new (certificate_text Two c) result

module _ {E : Type 0} (core : CoreFields) (whole : WholeTree core.state.nodes) (s : List ℕ) (v b : ℤ) (k : ℕ) (es : s ≡ core.order) (ev : v ≡ core.state.best) (eb : b ≡ state_bound core.state) (ek : k ≡ length core.book.cuts) (result : Result (Unit {0}) E) where
  order_text : (old new : Option World) → WritesFront old new (text_of (order_lines s v)) → WritesFront old new (text_of (order_lines core.order core.state.best))
  order_text old new h = subst (λ (z : ℤ). WritesFront old new (text_of (order_lines core.order z))) ev (subst (λ (t : List ℕ). WritesFront old new (text_of (order_lines t v))) es h)

  order_done : (old new : Option World) → new ≡ with_written (text_of (order_lines s v)) old → new ≡ with_written (text_of (order_lines core.order core.state.best)) old
  order_done old new h = subst (λ (z : ℤ). new ≡ with_written (text_of (order_lines core.order z)) old) ev (subst (λ (t : List ℕ). new ≡ with_written (text_of (order_lines t v)) old) es h)

  bound_text : (old new : Option World) → WritesFront old new (text_of (bound_lines b k)) → WritesFront old new (text_of (bound_lines (state_bound core.state) (length core.book.cuts)))
  bound_text old new h = subst (λ (z : ℤ). WritesFront old new (text_of (bound_lines z (length core.book.cuts)))) eb (subst (λ (n : ℕ). WritesFront old new (text_of (bound_lines b n))) ek h)

  bound_done : (old new : Option World) → new ≡ with_written (text_of (bound_lines b k)) old → new ≡ with_written (text_of (bound_lines (state_bound core.state) (length core.book.cuts))) old
  bound_done old new h = subst (λ (z : ℤ). new ≡ with_written (text_of (bound_lines z (length core.book.cuts))) old) eb (subst (λ (n : ℕ). new ≡ with_written (text_of (bound_lines b n)) old) ek h)

  pub cut_in_order : (old new : Option World) (Q : E → Type 0) → IsErrAnd result Q → WritesFront old new (text_of (order_lines s v)) → WritesCertificate core old new result
  cut_in_order old new Q failed front = (
    certificate_of core whole,
    is_certificate core whole,
    subst (λ (bs : List ℕ). WritesAll old new bs result) (pieces_text core whole) (lines_cut old new (order_lines core.order core.state.best) (bound_lines (state_bound core.state) (length core.book.cuts) ++ body_lines core.book.cuts core.book.records core.book.numbers whole.tree) result Q failed (order_text old new front)),
  )

  pub cut_in_bound : (old mid new : Option World) (Q : E → Type 0) → mid ≡ with_written (text_of (order_lines s v)) old → IsErrAnd result Q → WritesFront mid new (text_of (bound_lines b k)) → WritesCertificate core old new result
  cut_in_bound old mid new Q first failed front = (
    certificate_of core whole,
    is_certificate core whole,
    subst (λ (bs : List ℕ). WritesAll old new bs result) (pieces_text core whole) (lines_then old mid new (order_lines core.order core.state.best) (bound_lines (state_bound core.state) (length core.book.cuts) ++ body_lines core.book.cuts core.book.records core.book.numbers whole.tree) result (order_done old mid first)
        (lines_cut mid new (bound_lines (state_bound core.state) (length core.book.cuts)) (body_lines core.book.cuts core.book.records core.book.numbers whole.tree) result Q failed (bound_text mid new front))),
  )

  pub all_written : (old mid late new : Option World) → mid ≡ with_written (text_of (order_lines s v)) old → late ≡ with_written (text_of (bound_lines b k)) mid → WritesAll late new (text_of (body_lines core.book.cuts core.book.records core.book.numbers whole.tree)) result → WritesCertificate core old new result
  all_written old mid late new first second last = (
    certificate_of core whole,
    is_certificate core whole,
    subst (λ (bs : List ℕ). WritesAll old new bs result) (pieces_text core whole) (lines_then old mid new (order_lines core.order core.state.best) (bound_lines (state_bound core.state) (length core.book.cuts) ++ body_lines core.book.cuts core.book.records core.book.numbers whole.tree) result (order_done old mid first)
        (lines_then mid late new (bound_lines (state_bound core.state) (length core.book.cuts)) (body_lines core.book.cuts core.book.records core.book.numbers whole.tree) result (bound_done mid late second) last)),
  )

-- what holds of each cut once all are written
pub written_holds : {E : Type 0} {P Q : Type 0} (result : Result (Unit {0}) E) → (P → Q) → OnOk result P → OnOk result Q
written_holds (Ok x) f h = f h
written_holds (Err e) f h = h
