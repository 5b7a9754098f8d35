use Rattle.std.proofs.Common.{rules, ◌≡◌, ◌≢◌, ◌+◌, ◌<◌, ◌∷◌, ◌++◌, [], List, ℕ, Bool, cond, length, get_or, set, arith, sym, ◌∙◌, ap, subst}
use Rattle.std.proofs.lemmas.Grind.{get_or_default_zero}
use Rattle.lop_core.specs.Records.{number_at}
use Rattle.lop_certwrite.specs.Names.{ArePlaces}
use Rattle.lop_certwrite.proofs.Users.{users_few, room_for, unplaced, placed_used, with_place}
use Rattle.lop_certwrite.proofs.names.Names.note.Goals as goal

pub overflow_cast-place : goal.overflow_cast-place
overflow_cast-place c =
    let few = users_few c.args.core.now.book.numbers c.args.self.now.users.items c.args.self.now.places.items c.requires.places in
    omega (arith, few, c.requires.few, c.len.ensures)

pub overflow_add-place : goal.overflow_add-place
overflow_add-place c =
    let few = users_few c.args.core.now.book.numbers c.args.self.now.users.items c.args.self.now.places.items c.requires.places in
    omega (arith, few, c.requires.few, c.len.ensures)

pub put_last-requires : goal.put_last-requires
put_last-requires c =
    let numbers : List ℕ = c.args.core.now.book.numbers in
    let places : List ℕ = c.args.self.now.places.items in
    let inside : number_at numbers c.args.node < length places = omega (arith, c.record_of-number.ensures.value, c.record_of-number.ensures.at_most, c.requires.for_numbers) in
    let none : get_or places (number_at numbers c.args.node) 0 ≡ 0 = search (rules, c.record_of-number.ensures.value) in
    let room = room_for numbers c.args.self.now.users.items places c.requires.places c.args.node inside none in
    omega (arith, room, c.requires.room)

pub returns-then-index-eq0-clause-users : goal.returns-then-index-eq0-clause-users
returns-then-index-eq0-clause-users c =
    let numbers : List ℕ = c.args.core.now.book.numbers in
    let places : List ℕ = c.args.self.now.places.items in
    let users : List ℕ = c.args.self.now.users.items in
    let inside : number_at numbers c.args.node < length places = omega (arith, c.record_of-number.ensures.value, c.record_of-number.ensures.at_most, c.requires.for_numbers) in
    let none : get_or places (number_at numbers c.args.node) 0 ≡ 0 = search (rules, c.record_of-number.ensures.value) in
    c.put_last.ensures.items ∙ sym (ap (λ (b : Bool). cond b users (users ++ c.args.node ∷ [])) (unplaced numbers users places c.requires.places c.args.node inside none))

pub returns-then-index-eq0-clause-places : goal.returns-then-index-eq0-clause-places
returns-then-index-eq0-clause-places c =
    let numbers : List ℕ = c.args.core.now.book.numbers in
    let places : List ℕ = c.args.self.now.places.items in
    let users : List ℕ = c.args.self.now.users.items in
    let inside : number_at numbers c.args.node < length places = omega (arith, c.record_of-number.ensures.value, c.record_of-number.ensures.at_most, c.requires.for_numbers) in
    let none : get_or places (number_at numbers c.args.node) 0 ≡ 0 = search (rules, c.record_of-number.ensures.value) in
    let many : c.len.result ≡ length users = search rules in
    let more = with_place numbers users places c.requires.places c.args.node inside none in
    subst (λ (us : List ℕ). ArePlaces numbers us (set places c.record_of-number.result (c.len.result + 1))) (sym c.put_last.ensures.items)
    (subst (λ (n : ℕ). ArePlaces numbers (users ++ c.args.node ∷ []) (set places n (c.len.result + 1))) (sym c.record_of-number.ensures.value)
    (subst (λ (k : ℕ). ArePlaces numbers (users ++ c.args.node ∷ []) (set places (number_at numbers c.args.node) (k + 1))) (sym many) more))

pub returns-else-index-eq0-clause-users : goal.returns-else-index-eq0-clause-users
returns-else-index-eq0-clause-users c =
    let numbers : List ℕ = c.args.core.now.book.numbers in
    let places : List ℕ = c.args.self.now.places.items in
    let users : List ℕ = c.args.self.now.users.items in
    let inside : number_at numbers c.args.node < length places = omega (arith, c.record_of-number.ensures.value, c.record_of-number.ensures.at_most, c.requires.for_numbers) in
    let at : get_or places c.record_of-number.result c.index.result.now ≡ get_or places (number_at numbers c.args.node) 0 =
    get_or_default_zero places c.record_of-number.result c.index.result.now (omega (arith, inside, c.record_of-number.ensures.value)) ∙ ap (λ (n : ℕ). get_or places n 0) c.record_of-number.ensures.value in
    let some : get_or places (number_at numbers c.args.node) 0 ≢ 0 = λ z. c.if-index-eq0.false (search (rules, at, z)) in
    sym (ap (λ (b : Bool). cond b users (users ++ c.args.node ∷ [])) (placed_used numbers users places c.requires.places c.args.node inside some))
