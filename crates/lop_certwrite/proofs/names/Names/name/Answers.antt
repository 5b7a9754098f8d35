use Rattle.std.proofs.Common.{rules, ◌≡◌, ◌<◌, length, arith, ◌∙◌, ap, ℕ, List, get_or}
use Rattle.std.proofs.lemmas.Grind.{get_or_default_zero}
use Rattle.lop_core.specs.Records.{number_at}
use Rattle.lop_certwrite.proofs.Users.{place_is}
use Rattle.lop_certwrite.proofs.names.Names.name.Goals as goal

pub returns : goal.returns
returns c =
    let places : List ℕ = c.args.self.now.places.items in
    let numbers : List ℕ = c.args.core.now.book.numbers in
    let inside : number_at numbers c.args.node < length places = omega (arith, c.record_of.ensures.value, c.record_of.ensures.at_most, c.requires.for_numbers) in
    let at : get_or places c.record_of.result c.index.result.now ≡ get_or places c.record_of.result 0 = get_or_default_zero places c.record_of.result c.index.result.now (omega (arith, inside, c.record_of.ensures.value)) in
    let e = ap (λ (n : ℕ). get_or places n 0) c.record_of.ensures.value ∙ place_is numbers c.args.self.now.users.items places c.requires.places c.args.node inside c.requires.used in
    search (rules, at, e)
