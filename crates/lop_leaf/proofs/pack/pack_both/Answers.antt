use Rattle.std.proofs.Common.{◌≡◌, ℕ, ◌<◌, subst}
use Rattle.lop_leaf.specs.Table.{slack}
use Rattle.lop_leaf.proofs.StillLemmas.{triple_forth, triple_back}
use Rattle.lop_leaf.proofs.pack.pack_both.Goals as goal

pub returns-then-leans_forth-clause-terms : goal.returns-then-leans_forth-clause-terms
returns-then-leans_forth-clause-terms c =
    let C = c.args.weights.now in
    let value : 0 < slack c.args.table.now C.size c.args.i c.args.j = subst (λ (n : ℕ). 0 < slack c.args.table.now n c.args.i c.args.j) c.n-n.ensures.size (c.leans_forth.ensures.forth c.if-leans_forth.true) in
    (triple_forth C c.args.fixings.now.pairs c.args.rec.now c.pack_one.new.rec c.args.table.now c.pack_one.new.table c.args.i c.args.j c.args.k c.requires.first c.requires.second c.requires.third c.requires.packing.residuals
    value c.pack_one.ensures.terms c.pack_one.ensures.packing.residuals c.pack_one.ensures.later c.pack_one.ensures.passed).0

pub returns-then-leans_forth-clause-passed : goal.returns-then-leans_forth-clause-passed
returns-then-leans_forth-clause-passed c =
    let C = c.args.weights.now in
    let value : 0 < slack c.args.table.now C.size c.args.i c.args.j = subst (λ (n : ℕ). 0 < slack c.args.table.now n c.args.i c.args.j) c.n-n.ensures.size (c.leans_forth.ensures.forth c.if-leans_forth.true) in
    (triple_forth C c.args.fixings.now.pairs c.args.rec.now c.pack_one.new.rec c.args.table.now c.pack_one.new.table c.args.i c.args.j c.args.k c.requires.first c.requires.second c.requires.third c.requires.packing.residuals
    value c.pack_one.ensures.terms c.pack_one.ensures.packing.residuals c.pack_one.ensures.later c.pack_one.ensures.passed).1

pub returns-else-leans_forth-clause-terms : goal.returns-else-leans_forth-clause-terms
returns-else-leans_forth-clause-terms c =
    let C = c.args.weights.now in
    let value : slack c.args.table.now C.size c.args.i c.args.j ≡ 0 = subst (λ (n : ℕ). slack c.args.table.now n c.args.i c.args.j ≡ 0) c.n-n.ensures.size (c.leans_forth.ensures.back c.if-leans_forth.false) in
    (triple_back C c.args.fixings.now.pairs c.args.rec.now c.pack_one-else-leans_forth.new.rec c.args.table.now c.pack_one-else-leans_forth.new.table c.args.i c.args.j c.args.k c.requires.first c.requires.second c.requires.third c.requires.packing.residuals
    value c.pack_one-else-leans_forth.ensures.terms c.pack_one-else-leans_forth.ensures.later c.pack_one-else-leans_forth.ensures.passed).0

pub returns-else-leans_forth-clause-passed : goal.returns-else-leans_forth-clause-passed
returns-else-leans_forth-clause-passed c =
    let C = c.args.weights.now in
    let value : slack c.args.table.now C.size c.args.i c.args.j ≡ 0 = subst (λ (n : ℕ). slack c.args.table.now n c.args.i c.args.j ≡ 0) c.n-n.ensures.size (c.leans_forth.ensures.back c.if-leans_forth.false) in
    (triple_back C c.args.fixings.now.pairs c.args.rec.now c.pack_one-else-leans_forth.new.rec c.args.table.now c.pack_one-else-leans_forth.new.table c.args.i c.args.j c.args.k c.requires.first c.requires.second c.requires.third c.requires.packing.residuals
    value c.pack_one-else-leans_forth.ensures.terms c.pack_one-else-leans_forth.ensures.later c.pack_one-else-leans_forth.ensures.passed).1
