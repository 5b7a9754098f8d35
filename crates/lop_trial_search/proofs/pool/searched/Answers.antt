use Rattle.std.proofs.Common.{◌≡◌, ℕ, ◌<◌, ◌∙◌, List, [], ◌∷◌, length, get_or, arith, sym}
use Rattle.std.specs.Prelude.{All}
use Rattle.lop_trial_search.proofs.pool.searched.Goals as goal

-- where each of some elements has the number a, and has the number b, these are the same
same_number : {X : Type 0} (f : X → ℕ) (a b : ℕ) (xs : List X) → 0 < length xs → All (λ x. f x ≡ a) xs → All (λ x. f x ≡ b) xs → a ≡ b
same_number f a b [] lt p q = absurd (omega arith)
same_number f a b (x ∷ xs) lt p q = sym (p 0 x lt) ∙ q 0 x lt

pub search-core-requires-clause-same_n : goal.search-core-requires-clause-same_n
search-core-requires-clause-same_n g c κs within =
    let lt : 0 < length c.args.judges.items = omega (arith, c.requires.some, c.args.judges.ok.0) in
    let six : c.in-Ok-new.weights.size ≡ 6 = omega (arith, c.if-n-ne6-2.false, c.n-else-n-ne6.ensures.size) in
    same_number g.J.Judge.objects _ 6 c.args.judges.items lt c.in_ok-pool.ensures.size c.requires.same_n ∙ sym six

pub new-requires-2-clause-same_n : goal.new-requires-2-clause-same_n
new-requires-2-clause-same_n g c κs within = λ k d lt. c.requires.same_n k d lt ∙ sym (c.requires.same_n 0 (get_or c.args.judges.items k d) (omega (arith, lt)))
