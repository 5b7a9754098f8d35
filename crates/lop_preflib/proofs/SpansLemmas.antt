-- Orders whose objects lie one after another.
use Rattle.std.proofs.Common.{◌≡◌, ℕ, suc, ◌+◌, ◌-◌, ◌≤◌, List, [], ◌∷◌, ◌++◌, length, take, drop, map, refl, sym, ◌∙◌, ap, arith}
use Rattle.std.specs.List.{All}
use Rattle.std.proofs.lemmas.List.{take-append-le, drop-append-le, length-drop, length-take-le, map_push, take_all, drop_at, take-append-drop}
use Rattle.lop_preflib.specs.Profile.{CountedOrder}
use Rattle.lop_preflib.specs.Spans.{part, order_in, IsWithin}
use Rattle.lop_preflib.specs.declared.orders.Span.{Span}

-- more numbers behind them don't change what lies at a span
part-more : (numbers more : List ℕ) (span : Span) → IsWithin (length numbers) span → part span (numbers ++ more) ≡ part span numbers
part-more numbers more span within =
    ap (take (span.end - span.start)) (drop-append-le span.start numbers more (omega (arith, within))) ∙ take-append-le (span.end - span.start) (drop span.start numbers) more (omega (arith, within, length-drop span.start numbers))

-- nor do numbers that are cut off behind it
part-cut : (numbers : List ℕ) (n : ℕ) (span : Span) → IsWithin n span → n ≤ length numbers → part span (take n numbers) ≡ part span numbers
part-cut numbers n span within low =
    ap (λ (l : List ℕ). part span l) refl
    ∙ sym (part-more (take n numbers) (drop n numbers) span (record { order = within.order; end = omega (arith, within, length-take-le n numbers low) }))
    ∙ ap (part span) (take-append-drop n numbers)

-- what lies at the last span
part-last : (numbers more : List ℕ) (span : Span) → span.start ≡ length numbers → span.end ≡ length numbers + length more → part span (numbers ++ more) ≡ more
part-last numbers more span start end =
    ap (take (span.end - span.start)) (drop_at numbers more span.start (sym start)) ∙ take_all (span.end - span.start) more (omega arith)

module _ (objects groups more marks : List ℕ) (low : length objects ≤ length groups) where
  long : length (take (length objects) groups) ≡ length objects
  long = length-take-le (length objects) groups low

  order_in-kept : (span : Span) → IsWithin (length objects) span → order_in (objects ++ more) (take (length objects) groups ++ marks) span ≡ order_in objects groups span
  order_in-kept span within =
      ap (λ (l : List ℕ). record { count = span.count; ranked = l; groups = part span (take (length objects) groups ++ marks) }) (part-more objects more span within)
      ∙ ap (λ (l : List ℕ). record { count = span.count; ranked = part span objects; groups = l }) (part-more (take (length objects) groups) marks span (record { order = within.order; end = omega (arith, within, long) }) ∙ part-cut groups (length objects) span within low)

  orders-kept : (spans : List Span) → All (IsWithin (length objects)) spans → map (order_in (objects ++ more) (take (length objects) groups ++ marks)) spans ≡ map (order_in objects groups) spans
  orders-kept [] within = refl
  orders-kept (span ∷ spans) within =
      ap (λ (o : CountedOrder). o ∷ map (order_in (objects ++ more) (take (length objects) groups ++ marks)) spans) (order_in-kept span (within 0 span (omega arith)))
      ∙ ap (λ (os : List CountedOrder). order_in objects groups span ∷ os) (orders-kept spans (λ k d under. within (suc k) d (omega (arith, under))))

  -- one order more
  pub orders-push : (spans : List Span) (span : Span) → All (IsWithin (length objects)) spans → span.start ≡ length objects → span.end ≡ length objects + length more → length marks ≡ length more → map (order_in (objects ++ more) (take (length objects) groups ++ marks)) (spans ++ span ∷ []) ≡ map (order_in objects groups) spans ++ record { count = span.count; ranked = more; groups = marks } ∷ []
  orders-push spans span within start end same =
      map_push (order_in (objects ++ more) (take (length objects) groups ++ marks)) spans span
      ∙ ap (λ (os : List CountedOrder). os ++ order_in (objects ++ more) (take (length objects) groups ++ marks) span ∷ []) (orders-kept spans within)
      ∙ ap (λ (l : List ℕ). map (order_in objects groups) spans ++ record { count = span.count; ranked = l; groups = part span (take (length objects) groups ++ marks) } ∷ []) (part-last objects more span start end)
      ∙ ap (λ (l : List ℕ). map (order_in objects groups) spans ++ record { count = span.count; ranked = more; groups = l } ∷ []) (part-last (take (length objects) groups) marks span (omega (arith, start, long)) (omega (arith, end, same, long)))
