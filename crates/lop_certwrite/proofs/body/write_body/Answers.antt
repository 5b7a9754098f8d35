use Rattle.std.proofs.Common.{rules, ◌≡◌, [], ◌∷◌, ◌++◌, ◌<◌, length, List, ℕ, map, sym, subst, arith}
use Rattle.std.specs.Prelude.{All}
use Rattle.lop_desk.proofs.Worlds.{still_making}
use Rattle.lop_certtext.specs.declared.word.CertWord.TheVariants.{End}
use Rattle.lop_certtext.specs.Line.{CertLine}
use Rattle.lop_certtext.specs.CutLine.{cut_line}
use Rattle.lop_certwrite.specs.CoreTree.{users_in, open_nodes}
use Rattle.lop_certwrite.specs.Walk.{user_lines, visit_lines, visits_of}
use Rattle.lop_certwrite.proofs.Pieces.{with_users}
use Rattle.lop_certwrite.proofs.Users.{users_all, users_few}
use Rattle.lop_certwrite.proofs.Walked.{opens_inside}
use Rattle.lop_certwrite.proofs.Written.{lines_cut, lines_then, last_line}
use Rattle.lop_certwrite.proofs.body.write_body.Goals as goal

pub write_users-requires-clause-inside : goal.write_users-requires-clause-inside
write_users-requires-clause-inside g c =
    let nodes = c.args.core.now.state.nodes in
    let numbers = c.args.core.now.book.numbers in
    let tree = c.requires.whole.tree in
    let all : All (λ i. i < length nodes) (users_in numbers tree) = users_all numbers (λ i. i < length nodes) [] (open_nodes tree) (λ k d l. absurd (omega arith)) (opens_inside nodes 0 tree c.requires.whole.is_tree) in
    let e : c.deref.result.now ≡ users_in numbers tree = search rules in
    subst (All (λ i. i < length nodes)) (sym e) all

pub write_users-requires-clause-few : goal.write_users-requires-clause-few
write_users-requires-clause-few g c =
    let few = users_few c.args.core.now.book.numbers c.args.names.now.users.items c.args.names.now.places.items (c.requires.naming c.requires.whole).places_are in
    search (rules, few)

pub returns-in_err-write_cuts-clause-effect : goal.returns-in_err-write_cuts-clause-effect
returns-in_err-write_cuts-clause-effect g c = λ whole.
    let core = c.args.core.now in
    with_users core whole c.args.names.now.users.items (c.requires.naming whole).users_are _ _ _
    (lines_cut _ _ (map cut_line core.book.cuts) (user_lines core.book.records c.args.names.now.users.items ++ (visit_lines core.book.numbers c.args.names.now.users.items (visits_of whole.tree) ++ record { word = End; numbers = [] } ∷ [])) _ _ c.from_residual.ensures.1 c.in_err-write_cuts.ensures.effect)

pub returns-in_err-write_users-clause-effect : goal.returns-in_err-write_users-clause-effect
returns-in_err-write_users-clause-effect g c = λ whole.
    let core = c.args.core.now in
    let users : List ℕ = c.args.names.now.users.items in
    let after : List CertLine = visit_lines core.book.numbers users (visits_of whole.tree) ++ record { word = End; numbers = [] } ∷ [] in
    let e : c.deref.result.now ≡ users = search rules in
    with_users core whole c.args.names.now.users.items (c.requires.naming whole).users_are _ _ _
    (lines_then _ _ _ (map cut_line core.book.cuts) (user_lines core.book.records c.args.names.now.users.items ++ (visit_lines core.book.numbers c.args.names.now.users.items (visits_of whole.tree) ++ record { word = End; numbers = [] } ∷ [])) _ c.in_ok-write_cuts.ensures.effect
    (lines_cut _ _ (user_lines core.book.records c.args.names.now.users.items) (visit_lines core.book.numbers c.args.names.now.users.items (visits_of whole.tree) ++ record { word = End; numbers = [] } ∷ []) _ _ c.from_residual-in_err-write_users.ensures.1 (rw e at c.in_err-write_users.ensures.effect)))

pub returns-in_err-write_tree-clause-effect : goal.returns-in_err-write_tree-clause-effect
returns-in_err-write_tree-clause-effect g c = λ whole.
    let core = c.args.core.now in
    let users : List ℕ = c.args.names.now.users.items in
    let e : c.deref.result.now ≡ users = search rules in
    with_users core whole c.args.names.now.users.items (c.requires.naming whole).users_are _ _ _
    (lines_then _ _ _ (map cut_line core.book.cuts) (user_lines core.book.records c.args.names.now.users.items ++ (visit_lines core.book.numbers c.args.names.now.users.items (visits_of whole.tree) ++ record { word = End; numbers = [] } ∷ [])) _ c.in_ok-write_cuts.ensures.effect
    (lines_then _ _ _ (user_lines core.book.records c.args.names.now.users.items) (visit_lines core.book.numbers c.args.names.now.users.items (visits_of whole.tree) ++ record { word = End; numbers = [] } ∷ []) _ (rw e at c.in_ok-write_users.ensures.effect)
    (lines_cut _ _ (visit_lines core.book.numbers c.args.names.now.users.items (visits_of whole.tree)) (record { word = End; numbers = [] } ∷ []) _ _ c.from_residual-in_err-write_tree.ensures.1 (c.in_err-write_tree.ensures.effect whole))))

pub write_short_line-requires-clause-making : goal.write_short_line-requires-clause-making
write_short_line-requires-clause-making g c =
    still_making _ _ _ (still_making _ _ _ (still_making _ _ _ c.requires.making c.in_ok-write_cuts.ensures.effect) c.in_ok-write_users.ensures.effect) (c.in_ok-write_tree.ensures.effect c.requires.whole)

pub returns-clause-effect : goal.returns-clause-effect
returns-clause-effect g c = λ whole.
    let core = c.args.core.now in
    let users : List ℕ = c.args.names.now.users.items in
    let end : CertLine = record { word = End; numbers = [] } in
    let e : c.deref.result.now ≡ users = search rules in
    with_users core whole c.args.names.now.users.items (c.requires.naming whole).users_are _ _ _
    (lines_then _ _ _ (map cut_line core.book.cuts) (user_lines core.book.records c.args.names.now.users.items ++ (visit_lines core.book.numbers c.args.names.now.users.items (visits_of whole.tree) ++ record { word = End; numbers = [] } ∷ [])) _ c.in_ok-write_cuts.ensures.effect
    (lines_then _ _ _ (user_lines core.book.records c.args.names.now.users.items) (visit_lines core.book.numbers c.args.names.now.users.items (visits_of whole.tree) ++ record { word = End; numbers = [] } ∷ []) _ (rw e at c.in_ok-write_users.ensures.effect)
    (lines_then _ _ _ (visit_lines core.book.numbers c.args.names.now.users.items (visits_of whole.tree)) (end ∷ []) _ (c.in_ok-write_tree.ensures.effect whole) (last_line _ _ end _ c.write_short_line.ensures.effect))))
