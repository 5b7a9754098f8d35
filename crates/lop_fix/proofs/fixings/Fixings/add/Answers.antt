use Rattle.std.proofs.Common.{◌≡◌, subst, sym, ap, ◌∙◌, ◌++◌, ◌∷◌, [], List, ℕ, length, take, drop}
use Rattle.lop_model.specs.Fixings.{IsClosure, IsUndecided}
use Rattle.lop_fix.specs.PartialOrder.{FixedPairs}
use Rattle.lop_fix.specs.Table.{at, Links, IsClosedTable}
use Rattle.lop_model.specs.Related.{pairs_of}
use Rattle.lop_model.specs.Related.{pair}
use Rattle.lop_fix.proofs.TableFixings.{at-fresh, IsPartialOrder-table, IsClosedTable-link, closure_after}
use Rattle.lop_model.proofs.CellLemmas.{put_back}
use Rattle.lop_model.proofs.ClosureLemmas.{HaveSameExtensions-closure}
use Rattle.lop_fix.proofs.fixings.Fixings.add.Goals as goal

pub link-requires-clause-fresh : goal.link-requires-clause-fresh
link-requires-clause-fresh c =
    let n = c.self.inside.size in
    let fresh = subst (λ (f : FixedPairs). IsUndecided f.size f.pairs c.args.pair.before c.args.pair.after) (sym c.self.view_is) c.requires in
    ap (λ t. at t n c.args.pair.after c.args.pair.before) c.deref_mut.ensures.value ∙ at-fresh n c.self.inside.words.items c.args.pair.before c.args.pair.after fresh

-- what is kept and promised once the words are back
after : (n : ℕ) (old new lent : List ℕ) (len a b : ℕ) (f : FixedPairs) (is : record { size = n; pairs = pairs_of n (at old n) } ≡ f) → IsClosedTable n old → IsUndecided f.size f.pairs a b → lent ≡ old → len ≡ length old → Links lent new n a b → IsClosedTable n (take len (new ++ drop (length new) old)) × IsClosure (f.pairs ++ pair a b ∷ []) (pairs_of n (at (take len (new ++ drop (length new) old)) n))
after n old new lent len a b f is was undecided same size links =
    let fresh = subst (λ (g : FixedPairs). IsUndecided g.size g.pairs a b) (sym is) undecided in
    let linked = subst (λ (t : List ℕ). Links t new n a b) same links in
    rw (put_back new old len linked.same_length size) (
      IsClosedTable-link n old new a b was fresh linked,
      subst (λ (g : FixedPairs). IsClosure (g.pairs ++ pair a b ∷ []) (pairs_of n (at new n))) is (closure_after n old new a b was fresh linked),
    )

pub invariant_of-self : goal.invariant_of-self
invariant_of-self c = (after c.self.inside.size c.self.inside.words.items c.link.new.words _ c.self.inside.words.len c.args.pair.before c.args.pair.after c.args.self.now c.self.view_is c.self.invariant c.requires c.deref_mut.ensures.value (sym c.deref_mut.ensures.len ∙ ap length c.deref_mut.ensures.value) c.link.ensures).0

pub returns-clause-closure : goal.returns-clause-closure
returns-clause-closure c = (after c.self.inside.size c.self.inside.words.items c.link.new.words _ c.self.inside.words.len c.args.pair.before c.args.pair.after c.args.self.now c.self.view_is c.self.invariant c.requires c.deref_mut.ensures.value (sym c.deref_mut.ensures.len ∙ ap length c.deref_mut.ensures.value) c.link.ensures).1

pub returns-clause-extensions : goal.returns-clause-extensions
returns-clause-extensions c = HaveSameExtensions-closure _ _ (after c.self.inside.size c.self.inside.words.items c.link.new.words _ c.self.inside.words.len c.args.pair.before c.args.pair.after c.args.self.now c.self.view_is c.self.invariant c.requires c.deref_mut.ensures.value (sym c.deref_mut.ensures.len ∙ ap length c.deref_mut.ensures.value) c.link.ensures).1

pub returns-clause-partial_order : goal.returns-clause-partial_order
returns-clause-partial_order c = IsPartialOrder-table c.self.inside.size _ (after c.self.inside.size c.self.inside.words.items c.link.new.words _ c.self.inside.words.len c.args.pair.before c.args.pair.after c.args.self.now c.self.view_is c.self.invariant c.requires c.deref_mut.ensures.value (sym c.deref_mut.ensures.len ∙ ap length c.deref_mut.ensures.value) c.link.ensures).0
