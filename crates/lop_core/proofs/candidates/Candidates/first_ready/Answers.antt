use Rattle.std.proofs.Common.{◌≡◌, ℕ, ◌<◌, refl, length, arith, suc, zero, true, false}
use Rattle.lop_core.specs.Candidates.{candidates_of}
use Rattle.lop_core.proofs.CandidateLemmas.{top_first, none_ready}
use Rattle.lop_core.proofs.candidates.Candidates.first_ready.Goals as goal

-- there is no candidate where the heap has no top
none_there : (n : ℕ) → (0 < n → false ≡ true) → n ≡ 0
none_there zero h = refl
none_there (suc n) h = let e : false ≡ true = h (omega arith) in absurd cc

pub returns-in-Some-clause-found : goal.returns-in-Some-clause-found
returns-in-Some-clause-found c =
    let some : 0 < length (candidates_of c.args.self.now) = omega (arith, c.in-Some.ensures.variant.0 refl, c.args.self.now.heap.data.ok.0) in
    top_first c.args.nodes.now c.args.best (candidates_of c.args.self.now) c.in-Some.top.now c.requires c.in-Some.ensures.lookup some (c.in-Some.ensures.greatest c.requires.ordered)

pub returns-in-None-clause-none : goal.returns-in-None-clause-none
returns-in-None-clause-none c =
    none_ready c.args.nodes.now c.args.best (candidates_of c.args.self.now) c.requires (omega (arith, none_there _ c.in-None.ensures.variant.1, c.args.self.now.heap.data.ok.0))
