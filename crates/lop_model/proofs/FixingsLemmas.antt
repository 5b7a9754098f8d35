-- Chains of pairs, and orders that extend them.
use Rattle.std.proofs.Common.{ℕ, ◌<◌, List, arith}
use Rattle.lop_model.specs.declared.pair.Pair.{Pair}
use Rattle.lop_model.specs.Order.{place_of, StandsBefore}
use Rattle.lop_model.specs.Fixings.{LeadsTo, one_pair, pair_then, IsClosure, IsLinearExtension}

-- an order that extends F keeps its chains
pub StandsBefore-chain : {s : List ℕ} {F : List Pair} {a b : ℕ} → IsLinearExtension s F → LeadsTo F a b → StandsBefore s a b
StandsBefore-chain {s} {F} {a} {b} x (one_pair h) = x.each _ _ h
StandsBefore-chain {s} {F} {a} {b} x (pair_then {b = m} h r) =
    let here : place_of s a < place_of s m = x.each _ _ h in
    let on : place_of s m < place_of s b = StandsBefore-chain x r in
    omega arith

-- an order that extends F extends its closure, and the other way round
pub IsLinearExtension-closure : (s : List ℕ) (F G : List Pair) → IsClosure F G → IsLinearExtension s F → IsLinearExtension s G
IsLinearExtension-closure s F G closure x = record { each = λ a b h. StandsBefore-chain x ((closure.each a b).0 h) }

pub IsLinearExtension-from_closure : (s : List ℕ) (F G : List Pair) → IsClosure F G → IsLinearExtension s G → IsLinearExtension s F
IsLinearExtension-from_closure s F G closure x = record { each = λ a b h. x.each a b ((closure.each a b).1 (one_pair h)) }

pub chain-trans : {F : List Pair} {a b c : ℕ} → LeadsTo F a b → LeadsTo F b c → LeadsTo F a c
chain-trans (one_pair h) r = pair_then h r
chain-trans (pair_then h q) r = pair_then h (chain-trans q r)
