-- What was found, or why nothing was.
use Rattle.std.specs.Prelude.{Result, Ok, Err}

-- goes on with what was found, or keeps the reason why nothing was
abbrev pub with_found : {A B E : Type 0} → Result A E → (A → Result B E) → Result B E
with_found (Ok x) go = go x
with_found (Err reason) go = Err reason
