use Rattle.std.proofs.Common.{◌≡◌, ℕ, ◌+◌, ◌<◌, [], ◌∷◌, ◌++◌, cond, length, refl, sym, ◌∙◌, ap, subst, inl, inr, arith}
use Rattle.std.proofs.lemmas.List.{length_push}
use Rattle.lop_cuts.specs.Arcs.{cycle_arcs}
use Rattle.lop_cuts.specs.Kind.{FitsCut}
use Rattle.lop_cuts.specs.declared.kind.CutKind.{CutKind}
use Rattle.lop_cuts.specs.declared.kind.CutKind.TheVariants.{Dicycle}
use Rattle.lop_model.specs.Fixings.{has_pair}
use Rattle.lop_leaf.specs.Table.{lowered, slack}
use Rattle.lop_leaf.proofs.ResidualLemmas.{pack_cycle-taken, pack_cycle-none, pack_cycle-full}
use Rattle.lop_leaf.proofs.PackingLemmas.{least_is, packing_step, spent_cycle}
use Rattle.lop_leaf.proofs.SpentLemmas.{later_same, later_step, spent_none}
use Rattle.lop_leaf.proofs.pack.pack_one.Goals.{else-m-gt0-via-then-m-gt0+else-len-lt-MAX_TERMS, else-m-gt0-via-else-m-gt0}
use Rattle.lop_leaf.proofs.pack.pack_one.Goals as goal

pub put-requires-clause-multiplier : goal.put-requires-clause-multiplier
put-requires-clause-multiplier c =
    let least = least_is c.args.weights.now c.args.fixings.now c.args.rec.now.terms c.args.table.now c.args.a c.args.b c.args.c c.args.weights.now.size c.args.m
    c.n.ensures.partial_order c.requires.same_n c.requires.three c.requires.packing.residuals refl c.requires.least in
    record { positive = omega (arith, c.if-m-gt0.true); within_limit = let limit = least.limit in omega (arith, limit) }

pub returns-then-len-lt-MAX_TERMS-clause-terms : goal.returns-then-len-lt-MAX_TERMS-clause-terms
returns-then-len-lt-MAX_TERMS-clause-terms c =
    let terms = c.args.rec.now.terms in
    let m = c.args.m in
    let least = least_is c.args.weights.now c.args.fixings.now terms c.args.table.now c.args.a c.args.b c.args.c c.args.weights.now.size m
    c.n.ensures.partial_order c.requires.same_n c.requires.three c.requires.packing.residuals refl c.requires.least in
    let cut : c.unwrap-cut.result ≡ Dicycle (c.args.a ∷ c.args.b ∷ c.args.c ∷ []) = rw c.unwrap-cut.ensures at c.dicycle.ensures.ok in
    ap (λ r. r.terms) c.put.ensures
    ∙ ap (λ (k : CutKind). terms ++ record { cut = k; multiplier = m } ∷ []) cut
    ∙ sym (pack_cycle-taken c.args.weights.now c.args.fixings.now.pairs c.args.a c.args.b c.args.c m terms least.residual (omega (arith, c.if-m-gt0.true)) (omega (arith, c.len.ensures.value, c.if-len-lt-MAX_TERMS.true)))

pub returns-then-len-lt-MAX_TERMS-clause-packing : goal.returns-then-len-lt-MAX_TERMS-clause-packing
returns-then-len-lt-MAX_TERMS-clause-packing c =
    let C = c.args.weights.now in
    let terms = c.args.rec.now.terms in
    let m = c.args.m in
    let t = c.args.table.now in
    let u = c.lower_cycle.new.table in
    let least = least_is C c.args.fixings.now terms t c.args.a c.args.b c.args.c c.args.weights.now.size m
    c.n.ensures.partial_order c.requires.same_n c.requires.three c.requires.packing.residuals refl c.requires.least in
    let cut : c.unwrap-cut.result ≡ Dicycle (c.args.a ∷ c.args.b ∷ c.args.c ∷ []) = rw c.unwrap-cut.ensures at c.dicycle.ensures.ok in
    let fits : FitsCut c.n-n.result c.unwrap-cut.result = rw c.unwrap-cut.ensures at c.dicycle.ensures.fits in
    let fits_size : FitsCut C.size c.unwrap-cut.result = subst (λ (n : ℕ). FitsCut n c.unwrap-cut.result) c.n-n.ensures.size fits in
    let each : (x y : ℕ) → x < C.size → y < C.size → slack u C.size x y ≡ cond (has_pair (cycle_arcs (c.args.a ∷ c.args.b ∷ c.args.c ∷ [])) x y) (lowered (slack t C.size x y) m) (slack t C.size x y) =
    subst (λ (n : ℕ). (x y : ℕ) → x < n → y < n → slack u n x y ≡ cond (has_pair (cycle_arcs (c.args.a ∷ c.args.b ∷ c.args.c ∷ [])) x y) (lowered (slack t n x y) m) (slack t n x y)) c.n-n.ensures.size c.lower_cycle.ensures.each in
    packing_step C c.args.fixings.now.pairs c.args.rec.now c.put.new.self t u c.args.a c.args.b c.args.c m c.requires.three c.requires.packing least.least (omega (arith, c.if-m-gt0.true)) least.limit c.lower_cycle.ensures.same_length each
    (subst (λ (k : CutKind). FitsCut C.size k) cut fits_size)
    (c.put.ensures ∙ ap (λ (k : CutKind). record { scale = c.args.rec.now.scale; terms = terms ++ record { cut = k; multiplier = m } ∷ [] }) cut)

pub returns-else-m-gt0-clause-terms : goal.returns-else-m-gt0-clause-terms
returns-else-m-gt0-clause-terms c =
    let C = c.args.weights.now in
    let terms = c.args.rec.now.terms in
    let least = least_is C c.args.fixings.now terms c.args.table.now c.args.a c.args.b c.args.c c.args.weights.now.size c.args.m
    c.n.ensures.partial_order c.requires.same_n c.requires.three c.requires.packing.residuals refl c.requires.least in
    elim c.else-m-gt0.branch [
      | else-m-gt0-via-then-m-gt0+else-len-lt-MAX_TERMS w ↦ sym (pack_cycle-full C c.args.fixings.now.pairs c.args.a c.args.b c.args.c terms (omega (arith, w.len.ensures.value, w.if-len-lt-MAX_TERMS.false)))
      | else-m-gt0-via-else-m-gt0 w ↦ sym (pack_cycle-none C c.args.fixings.now.pairs c.args.a c.args.b c.args.c terms (omega (arith, least.residual, w.if-m-gt0.false)))
    ]

pub returns-then-len-lt-MAX_TERMS-clause-later : goal.returns-then-len-lt-MAX_TERMS-clause-later
returns-then-len-lt-MAX_TERMS-clause-later c =
    let C = c.args.weights.now in
    let m = c.args.m in
    let t = c.args.table.now in
    let u = c.lower_cycle.new.table in
    let each : (x y : ℕ) → x < C.size → y < C.size → slack u C.size x y ≡ cond (has_pair (cycle_arcs (c.args.a ∷ c.args.b ∷ c.args.c ∷ [])) x y) (lowered (slack t C.size x y) m) (slack t C.size x y) =
    subst (λ (n : ℕ). (x y : ℕ) → x < n → y < n → slack u n x y ≡ cond (has_pair (cycle_arcs (c.args.a ∷ c.args.b ∷ c.args.c ∷ [])) x y) (lowered (slack t n x y) m) (slack t n x y)) c.n-n.ensures.size c.lower_cycle.ensures.each in
    let longer : length c.put.new.self.terms ≡ length c.args.rec.now.terms + 1 = ap (λ r. length r.terms) c.put.ensures ∙ length_push c.args.rec.now.terms (record { cut = c.unwrap-cut.result; multiplier = m }) in
    later_step C.size c.args.rec.now c.put.new.self t u c.args.a c.args.b c.args.c m (omega (arith, longer)) each

pub returns-then-len-lt-MAX_TERMS-clause-passed : goal.returns-then-len-lt-MAX_TERMS-clause-passed
returns-then-len-lt-MAX_TERMS-clause-passed c =
    let C = c.args.weights.now in
    let terms = c.args.rec.now.terms in
    let m = c.args.m in
    let t = c.args.table.now in
    let u = c.lower_cycle.new.table in
    let least = least_is C c.args.fixings.now terms t c.args.a c.args.b c.args.c c.args.weights.now.size m
    c.n.ensures.partial_order c.requires.same_n c.requires.three c.requires.packing.residuals refl c.requires.least in
    let each : (x y : ℕ) → x < C.size → y < C.size → slack u C.size x y ≡ cond (has_pair (cycle_arcs (c.args.a ∷ c.args.b ∷ c.args.c ∷ [])) x y) (lowered (slack t C.size x y) m) (slack t C.size x y) =
    subst (λ (n : ℕ). (x y : ℕ) → x < n → y < n → slack u n x y ≡ cond (has_pair (cycle_arcs (c.args.a ∷ c.args.b ∷ c.args.c ∷ [])) x y) (lowered (slack t n x y) m) (slack t n x y)) c.n-n.ensures.size c.lower_cycle.ensures.each in
    inr (spent_cycle C.size t u c.args.a c.args.b c.args.c m c.requires.three least.least least.limit each)

pub returns-else-m-gt0-clause-later : goal.returns-else-m-gt0-clause-later
returns-else-m-gt0-clause-later c = later_same c.args.weights.now.size c.args.rec.now c.args.table.now

pub returns-else-m-gt0-clause-passed : goal.returns-else-m-gt0-clause-passed
returns-else-m-gt0-clause-passed c =
    let C = c.args.weights.now in
    let terms = c.args.rec.now.terms in
    let m = c.args.m in
    let t = c.args.table.now in
    let least = least_is C c.args.fixings.now terms t c.args.a c.args.b c.args.c c.args.weights.now.size m
    c.n.ensures.partial_order c.requires.same_n c.requires.three c.requires.packing.residuals refl c.requires.least in
    elim c.else-m-gt0.branch [
      | else-m-gt0-via-then-m-gt0+else-len-lt-MAX_TERMS w ↦ inl (omega (arith, w.len.ensures.value, w.if-len-lt-MAX_TERMS.false))
      | else-m-gt0-via-else-m-gt0 w ↦ inr (spent_none C.size t c.args.a c.args.b c.args.c (sym least.least ∙ omega (arith, w.if-m-gt0.false)))
    ]
