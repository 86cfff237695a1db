-- A program of four tasks that senses, filters, scales and sends, and what its first instances show.
use Rattle.std.proofs.Common.{◌≡◌, ℕ, ◌+◌, List, [], ◌∷◌, ◌++◌, map, flat_map, Some, refl}
use Rattle.task_ast.specs.declared.tree.Ann.TheVariants.{Single, Timely}
use Rattle.task_ast.specs.declared.tree.Op2.TheVariants.{Add, Mul, Div, Lt}
use Rattle.task_ast.specs.declared.core_form.CoreExpr.TheVariants.{Number, Cell, Two}
use Rattle.task_ast.specs.declared.core_form.CoreExpr.TheBlock.{hidden-the_row-CoreExpr-0, shape-the_row-CoreExpr-0}
use Rattle.task_ast.specs.declared.core_form.CoreTarget.TheVariants as target
use Rattle.task_ast.specs.declared.core_form.CoreStmt.{CoreStmt}
use Rattle.task_ast.specs.declared.core_form.CoreStmt.TheVariants.{Io, Loop, Copy}
use Rattle.task_ast.specs.declared.core_form.CoreStmt.TheBlock.{hidden-the_row-CoreStmt-0, shape-the_row-CoreStmt-0}
use Rattle.task_ast.specs.declared.core_form.CoreExit.TheVariants.{Next, Stop, Choose}
use Rattle.task_ast.specs.declared.core_form.CoreExit.TheBlock.{hidden-the_row-CoreExit-0, shape-the_row-CoreExit-0}
use Rattle.task_ast.specs.declared.core_form.Site.TheVariants as site
use Rattle.task_ast.specs.declared.core_form.Core.{Core}
use Rattle.devices.specs.Reading.{reading, values_in}
use Rattle.devices.specs.Journal.{JournalEvent, cell, keep, begins, looks, drops, issues, seals, copies, commits}
use Rattle.task_attempts.specs.Boots.{boot_log, boots_from, expect}
use Rattle.task_attempts.proofs.Programs as programs
use Rattle.task_attempts.proofs.Programs.{nv, constant, vol, zero_word, read, set, onto, at, task, program}
use denote.Hole.Carrier.{hidden}

-- eight words 0
eight : List ℕ
eight = 0 ∷ 0 ∷ 0 ∷ 0 ∷ 0 ∷ 0 ∷ 0 ∷ 0 ∷ []

-- the turns of the unrolled loop
turns : List ℕ
turns = 0 ∷ 1 ∷ 2 ∷ 3 ∷ 4 ∷ 5 ∷ 6 ∷ 7 ∷ []

-- one of them: i = TURN; b[i] = IO(temp, TIMELY(1000));
turn : ℕ → List CoreStmt
turn j = set 5 (Number j) ∷ Io (j + 1) (Some (target.Cell 6 (read 5))) 0 [] ∷ []

-- const nv word gain[2] = {3, 1}; nv word samples[8]; nv word mean; nv word sent; word v; word i; word b[8];
-- task sense { for (i = 0; i < 8; i++) { b[i] = IO(temp, TIMELY(1000)); } DMA(samples, b, 8); NEXT(filter); }
-- task filter { DMA(b, samples, 8); v = 0; for (i = 0; i < 8; i++) { v = v + b[i]; } mean = v / 8; NEXT(scale); }
-- task scale { DMA(b, gain, 2); mean = mean * b[0] / b[1]; NEXT(send); }
-- task send { v = IO(radio, SINGLE, mean); sent = sent + 1; if (sent < 3) NEXT(sense); else STOP; }
telemetry : Core
telemetry =
    program (constant (3 ∷ 1 ∷ []) ∷ nv eight ∷ nv zero_word ∷ nv zero_word ∷ vol zero_word ∷ vol zero_word ∷ vol eight ∷ [])
    (task (flat_map turn turns ++ set 5 (Number 8) ∷ Copy 9 (at 1 0) (at 6 0) (Number 8) ∷ []) (Next 2) (map (λ j. site.Io (Timely 1000)) turns ++ site.Copy 8 ∷ [])
    ∷ task (Copy 1 (at 6 0) (at 1 0) (Number 8) ∷ set 4 (Number 0) ∷ Loop 5 8 (set 4 (Two Add (read 4) (Cell 6 (read 5))) ∷ []) ∷ set 2 (Two Div (read 4) (Number 8)) ∷ [])
    (Next 3) (site.Copy 8 ∷ [])
    ∷ task (Copy 1 (at 6 0) (at 0 0) (Number 2) ∷ set 2 (Two Div (Two Mul (read 2) (Cell 6 (Number 0))) (Cell 6 (Number 1))) ∷ []) (Next 4) (site.Copy 2 ∷ [])
    ∷ task (Io 1 (onto 4) 1 (read 2 ∷ []) ∷ set 3 (Two Add (read 3) (Number 1)) ∷ []) (Choose (Two Lt (read 3) (Number 3)) (Next 1) Stop) (site.Io Single ∷ []) ∷ [])

temperatures : List ℕ
temperatures = 10 ∷ 12 ∷ 14 ∷ 16 ∷ 18 ∷ 20 ∷ 22 ∷ 24 ∷ 25 ∷ []

-- the times of the looks, any that rise
times : List ℕ
times = 100 ∷ 200 ∷ 300 ∷ 400 ∷ 500 ∷ 600 ∷ 700 ∷ 800 ∷ 900 ∷ []

-- what one call shows: the copy of the samples depends on it
sensed : (site time value : ℕ) → List JournalEvent
sensed k t v = looks k t ∷ drops k ∷ drops 9 ∷ issues k 0 [] v ∷ seals k ∷ []

all_sensed : List JournalEvent
all_sensed = sensed 1 100 10 ++ sensed 2 200 12 ++ sensed 3 300 14 ++ sensed 4 400 16 ++ sensed 5 500 18 ++ sensed 6 600 20 ++ sensed 7 700 22 ++ sensed 8 800 24

-- the first instance of each task, on unbroken power: 44, 5, 3 and 6 events
the_first_message_is_51 : expect (programs.reading temperatures [] telemetry) (58 ∷ []) times ≡
    (begins 1 ∷ all_sensed ++ copies 9 (cell 6 0) (cell 1 0) 8 ∷ seals 9 ∷ commits 2
    ∷ begins 2 ∷ copies 1 (cell 1 0) keep 8 ∷ seals 1 ∷ copies 1 keep (cell 6 0) 8 ∷ commits 3
    ∷ begins 3 ∷ copies 1 (cell 0 0) (cell 6 0) 2 ∷ commits 4
    ∷ begins 4 ∷ looks 1 900 ∷ drops 1 ∷ issues 1 1 (51 ∷ []) 0 ∷ seals 1 ∷ commits 1 ∷ []) ∷ []
unfolding hidden-the_row-CoreExpr-0 shape-the_row-CoreExpr-0 hidden-the_row-CoreStmt-0 shape-the_row-CoreStmt-0 hidden-the_row-CoreExit-0 shape-the_row-CoreExit-0 hidden boot_log boots_from values_in reading eight turns turn telemetry temperatures times sensed all_sensed
the_first_message_is_51 = refl
