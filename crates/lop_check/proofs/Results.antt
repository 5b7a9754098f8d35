-- What holds of the one or the other of a result.
use Rattle.std.proofs.Common.{Ok, Err}
use Rattle.std.specs.Prelude.{Result, OnOk}

pub on_ok : {X Y : Type 0} (P : Type 0) → P → (r : Result X Y) → OnOk r P
on_ok P p (Ok x) = p
on_ok P p (Err y) = tt
