-- What holds where a result is Ok.
use Rattle.std.specs.Prelude.{Result, Ok, Err, OnOk, IfOk}

-- what follows from what holds where a result is Ok
pub on_ok : {T E P Q : Type 0} (r : Result T E) → (P → Q) → OnOk r P → OnOk r Q
on_ok (Ok v) f h = f h
on_ok (Err e) f h = h

-- what follows of a value from what holds of it
pub if_ok : {T E : Type 0} (P Q : T → Type 0) (r : Result T E) → ((v : T) → P v → Q v) → IfOk r P → IfOk r Q
if_ok P Q (Ok v) f h = f v h
if_ok P Q (Err e) f h = h
