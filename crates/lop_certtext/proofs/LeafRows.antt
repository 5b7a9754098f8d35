-- Trees as their lines are read: each leaf with the numbers of its line, and the record that these give.
use Rattle.std.proofs.Common.{◌≡◌, ℕ, ◌+◌, ◌-◌, zero, suc, true, List, [], ◌∷◌, ◌++◌, length, get_or, ℤ, Option, Some, refl, sym, ◌∙◌, ap, subst, arith}
use Rattle.std.specs.Prelude.{All}
use Rattle.std.specs.List.{range_with_len}
use Rattle.std.proofs.lemmas.List.{append_assoc, append-nil, length-append}
use Rattle.std.proofs.lemmas.List.Elements.{All-nil, All-cons, All-append}
use Rattle.std.proofs.Math.Seq.{get_or-append_seam}
use Rattle.lop_model.specs.declared.pair.Pair.{Pair}
use Rattle.lop_model.specs.Matrix.{Matrix}
use Rattle.lop_model.specs.Reversed.{reversed}
use Rattle.lop_model.specs.Fixings.{IsUndecided}
use Rattle.lop_cuts.specs.declared.kind.CutKind.{CutKind}
use Rattle.lop_cuts.specs.Certifying.{CertifiesUnder}
use Rattle.lop_certtext.specs.declared.version.CertVersion.{CertVersion}
use Rattle.lop_certtext.specs.declared.version.CertVersion.TheVariants.{One, Two}
use Rattle.lop_certtext.specs.declared.word.CertWord.TheVariants.{Leaf}
use Rattle.lop_certtext.specs.Line.{CertLine, is_row}
use Rattle.lop_certtext.specs.RecordLine.{CertRecord, numbered_record, record_numbers, leaf_line, record_of, named_of, terms_in}
use Rattle.lop_certtext.specs.Tree.{Tree, leaf, split, named_by, split_line, tree_lines, IsRecord, IsTree}
use Rattle.lop_certtext.proofs.NodeText.{row-record_of, row-named_of}

pub data RowTree : Type 0 where
  row_leaf : List ℤ → CertRecord → RowTree
  row_split : Pair → RowTree → RowTree → RowTree

abbrev pub row_lines : RowTree → List CertLine
row_lines (row_leaf ns r) = record { word = Leaf; numbers = ns } ∷ []
row_lines (row_split p first second) = split_line p ∷ (row_lines first ++ row_lines second)

-- L gives the record, and it certifies the bound
pub record IsRowLeaf (C : Matrix) (cuts : List CutKind) (L : List ℤ → Option CertRecord) (bound : ℤ) (path : List Pair) (ns : List ℤ) (r : CertRecord) : Type 0 where
  pub row : is_row Leaf ns ≡ true
  pub gives : L ns ≡ Some r
  pub certified : CertifiesUnder C path r.scale (terms_in cuts r.terms) bound

abbrev pub IsRowTree : Matrix → List CutKind → (List ℤ → Option CertRecord) → ℤ → List Pair → RowTree → Type 0
IsRowTree C cuts L bound path (row_leaf ns r) = IsRowLeaf C cuts L bound path ns r
IsRowTree C cuts L bound path (row_split p first second) =
    IsUndecided C.size path p.before p.after
    × IsRowTree C cuts L bound (path ++ p ∷ []) first
    × IsRowTree C cuts L bound (path ++ reversed p ∷ []) second

-- a true tree with the lines of the rows
pub record ReadTree (C : Matrix) (cuts : List CutKind) (records : List CertRecord) (bound : ℤ) (path : List Pair) (version : CertVersion) (rows : RowTree) : Type 0 where
  pub tree : Tree
  pub lines : tree_lines (leaf_line version records) tree ≡ row_lines rows
  pub is_tree : IsTree C cuts records bound path tree

both_lines : (p : Pair) (a b c d : List CertLine) → a ≡ c → b ≡ d → split_line p ∷ (a ++ b) ≡ split_line p ∷ (c ++ d)
both_lines p a b c d e f = ap (λ (l : List CertLine). split_line p ∷ (l ++ b)) e ∙ ap (λ (l : List CertLine). split_line p ∷ (c ++ l)) f

-- a record certifies, by whatever name it goes
same_record : (C : Matrix) (cuts : List CutKind) (bound : ℤ) (path : List Pair) (r q : CertRecord) → q ≡ r → CertifiesUnder C path r.scale (terms_in cuts r.terms) bound → CertifiesUnder C path q.scale (terms_in cuts q.terms) bound
same_record C cuts bound path r q e h = subst (λ (x : CertRecord). CertifiesUnder C path x.scale (terms_in cuts x.terms) bound) (sym e) h

module _ (C : Matrix) (cuts : List CutKind) (bound : ℤ) where
  -- ---- leaves that name a record of the list

  pub named_tree : (records : List CertRecord) (path : List Pair) (rows : RowTree) → IsRowTree C cuts (named_of records) bound path rows → ReadTree C cuts records bound path Two rows
  named_tree records path (row_leaf ns r) is =
      let n = row-named_of records ns r is.row is.gives in
      record {
        tree = leaf n.number;
        lines = ap (λ (x : List ℤ). record { word = Leaf; numbers = x } ∷ []) (sym n.numbers);
        is_tree = record { from_one = n.from_one; within = n.within; certified = same_record C cuts bound path r (numbered_record records n.number) n.is_record is.certified };
      }
  named_tree records path (row_split p first second) is =
      let x = named_tree records (path ++ p ∷ []) first is.1 in
      let y = named_tree records (path ++ reversed p ∷ []) second is.2 in
      record {
        tree = split p x.tree y.tree;
        lines = both_lines p (tree_lines (leaf_line Two records) x.tree) (tree_lines (leaf_line Two records) y.tree) (row_lines first) (row_lines second) x.lines y.lines;
        is_tree = (is.0, x.is_tree, y.is_tree);
      }

  -- ---- leaves that have their own record

  abbrev records_in : RowTree → List CertRecord
  records_in (row_leaf ns r) = r ∷ []
  records_in (row_split p first second) = records_in first ++ records_in second

  -- the leaves in preorder are named from k on
  record Numbered (records : List CertRecord) (path : List Pair) (k : ℕ) (rows : RowTree) : Type 0 where
    read : ReadTree C cuts records bound path One rows
    named : named_by read.tree ≡ range_with_len k (length (records_in rows))

  range_both : (k m n : ℕ) → range_with_len k m ++ range_with_len (k + m) n ≡ range_with_len k (m + n)
  range_both k zero n =
      let same : k + 0 ≡ k = omega arith in
      let all : 0 + n ≡ n = omega arith in
      ap (λ (j : ℕ). range_with_len j n) same ∙ ap (range_with_len k) (sym all)
  range_both k (suc m) n =
      let same : k + suc m ≡ (k + 1) + m = omega arith in
      let all : suc m + n ≡ suc (m + n) = omega arith in
      ap (λ (j : ℕ). k ∷ (range_with_len (k + 1) m ++ range_with_len j n)) same ∙ ap (λ (l : List ℕ). k ∷ l) (range_both (k + 1) m n) ∙ ap (range_with_len k) (sym all)

  module _ (count : ℕ) where
    records_right : (path : List Pair) (rows : RowTree) → IsRowTree C cuts (record_of count) bound path rows → All (IsRecord count) (records_in rows)
    records_right path (row_leaf ns r) is = All-cons (IsRecord count) r [] (row-record_of count ns r is.row is.gives).is_record (All-nil (IsRecord count))
    records_right path (row_split p first second) is = All-append (IsRecord count) (records_in first) (records_in second) (records_right (path ++ p ∷ []) first is.1) (records_right (path ++ reversed p ∷ []) second is.2)

    own_leaf : (path : List Pair) (before after : List CertRecord) (ns : List ℤ) (r : CertRecord) → IsRowLeaf C cuts (record_of count) bound path ns r → Numbered (before ++ (r ∷ after)) path (length before + 1) (row_leaf ns r)
    own_leaf path before after ns r is =
        let records = before ++ (r ∷ after) in
        let place : (length before + 1) - 1 ≡ length before = omega arith in
        let none : CertRecord = record { scale = 1; terms = [] } in
        let found : numbered_record records (length before + 1) ≡ r = ap (λ (i : ℕ). get_or records i none) place ∙ get_or-append_seam before r after none in
        let row = row-record_of count ns r is.row is.gives in
        record {
          read = record {
            tree = leaf (length before + 1);
            lines = ap (λ (x : CertRecord). record { word = Leaf; numbers = record_numbers x } ∷ []) found ∙ ap (λ (x : List ℤ). record { word = Leaf; numbers = x } ∷ []) row.numbers;
            is_tree = record {
              from_one = omega arith;
              within = omega (arith, length-append before (r ∷ after));
              certified = same_record C cuts bound path r (numbered_record records (length before + 1)) found is.certified;
            };
          };
          named = refl;
        }

    own_tree : (path : List Pair) (rows : RowTree) → IsRowTree C cuts (record_of count) bound path rows → (before after : List CertRecord) → Numbered (before ++ (records_in rows ++ after)) path (length before + 1) rows
    own_tree path (row_leaf ns r) is before after = own_leaf path before after ns r is
    own_tree path (row_split p first second) is before after =
        let here = records_in first in
        let there = records_in second in
        let records = before ++ ((here ++ there) ++ after) in
        let one : before ++ (here ++ (there ++ after)) ≡ records = ap (λ (l : List CertRecord). before ++ l) (sym (append_assoc here there after)) in
        let two : (before ++ here) ++ (there ++ after) ≡ records = append_assoc before here (there ++ after) ∙ one in
        let next : length (before ++ here) + 1 ≡ (length before + 1) + length here = omega (arith, length-append before here) in
        let x = subst (λ (l : List CertRecord). Numbered l (path ++ p ∷ []) (length before + 1) first) one (own_tree (path ++ p ∷ []) first is.1 before (there ++ after)) in
        let z = subst (λ (l : List CertRecord). Numbered l (path ++ reversed p ∷ []) (length (before ++ here) + 1) second) two (own_tree (path ++ reversed p ∷ []) second is.2 (before ++ here) after) in
        let y = subst (λ (k : ℕ). Numbered records (path ++ reversed p ∷ []) k second) next z in
        record {
          read = record {
            tree = split p x.read.tree y.read.tree;
            lines = both_lines p (tree_lines (leaf_line One records) x.read.tree) (tree_lines (leaf_line One records) y.read.tree) (row_lines first) (row_lines second) x.read.lines y.read.lines;
            is_tree = (is.0, x.read.is_tree, y.read.is_tree);
          };
          named = ap (λ (l : List ℕ). l ++ named_by y.read.tree) x.named
              ∙ ap (λ (l : List ℕ). range_with_len (length before + 1) (length here) ++ l) y.named
              ∙ range_both (length before + 1) (length here) (length there)
              ∙ ap (range_with_len (length before + 1)) (sym (length-append here there));
        }

  -- a true tree whose leaves name the first record, the second, and so on
  pub record OwnTree (rows : RowTree) : Type 0 where
    pub records : List CertRecord
    pub tree : Tree
    pub right : All (IsRecord (length cuts)) records
    pub lines : tree_lines (leaf_line One records) tree ≡ row_lines rows
    pub is_tree : IsTree C cuts records bound [] tree
    pub named : named_by tree ≡ range_with_len 1 (length records)

  pub numbered_tree : (rows : RowTree) → IsRowTree C cuts (record_of (length cuts)) bound [] rows → OwnTree rows
  numbered_tree rows is =
      let records = records_in rows in
      let x = subst (λ (l : List CertRecord). Numbered l [] 1 rows) (append-nil records) (own_tree (length cuts) [] rows is [] []) in
      record {
        records = records;
        tree = x.read.tree;
        right = records_right (length cuts) [] rows is;
        lines = x.read.lines;
        is_tree = x.read.is_tree;
        named = x.named;
      }
