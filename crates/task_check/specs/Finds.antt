-- What a check answers: its result where there is no fault, else the first fault.
use Rattle.std.specs.Prelude.{◌≡◌, ◌≢◌, List, [], Some, Result, Ok, Err}
use Rattle.task_check.specs.declared.error.CheckError.{CheckError}
use Rattle.task_check.specs.declared.error.CheckError.TheVariants.{NoMemory}
use Rattle.task_check.specs.Faults.{first}

-- a result of which P holds exactly where there are no faults, else the first of them; want of memory is free
abbrev pub Finds : {T : Type 0} → List CheckError → (T → Type 0) → Result T CheckError → Type 0
Finds faults P (Ok v) = (faults ≡ []) × P v
Finds faults P (Err e) = e ≢ NoMemory → first faults ≡ Some e
