use Rattle.std.proofs.Common.{◌≡◌, ◌<◌, ◌+◌, [], ℕ, get_or, sym, ◌∙◌, ap, arith}
use Rattle.std.specs.Option.{unwrap_or}
use Rattle.std.proofs.lemmas.List.FromFn.{get_or-map-range_with_len}
use Rattle.lop_preflib.specs.Names.{name_at}
use Rattle.lop_preflib.specs.Profile.{ProfileFields}
use Rattle.lop_preflib.proofs.profile.Profile.name.Goals as goal

pub returns : goal.returns
returns c =
    let inside = c.self.inside in
    let object = c.args.object in
    let name = λ (number : ℕ). unwrap_or (name_at inside.names number) [] in
    let size : inside.size ≡ c.args.self.now.size = ap (λ (p : ProfileFields). p.size) c.self.view_is in
    let low : object < inside.size = omega (arith, size) in
    let next : 1 + object ≡ object + 1 = omega arith in
    c.name.ensures ∙ sym (get_or-map-range_with_len name 1 inside.size object (object + 1) [] low next) ∙ ap (λ (p : ProfileFields). get_or p.names object []) c.self.view_is
