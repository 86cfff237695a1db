-- The edges of what a right journal is: what is just allowed, and what is just not.
use Rattle.std.proofs.Common.{◌≡◌, [], ◌∷◌, refl, arith}
use Rattle.task_ast.specs.declared.core_form.CoreExpr.TheBlock.{hidden-the_row-CoreExpr-0, shape-the_row-CoreExpr-0}
use Rattle.walk_run.specs.Walk.{walk_from, walk_of}
use Rattle.devices.specs.declared.event.RunEnd.TheVariants.{Halted, Power}
use Rattle.devices.specs.Reading.{reading, values_in}
use Rattle.devices.specs.Journal.{cell, keep, begins, keeps, issues, seals, copies}
use Rattle.task_attempts.specs.Boots.{boot_log, boots_from, expect}
use Rattle.task_attempts.specs.Journals.{retained, trapped, readings}
use Rattle.task_attempts.specs.Sound.{TrapIsWalked, AreInTime, to_seal, IsSealed, EndsWell}
use Rattle.task_attempts.proofs.Programs as programs
use Rattle.task_attempts.proofs.Programs.{sending, pointing, through}
use Rattle.std.specs.Prelude.{Some, None}
use denote.Hole.Carrier.{hidden}

-- ---- in time: a boot begun at 60 whose first event must have come by its 180th step

just_in_time : AreInTime 60 300 ((240, begins 1) ∷ []) (180 ∷ [])
just_in_time = (omega arith, tt)

a_step_too_late : AreInTime 60 300 ((241, begins 1) ∷ []) (180 ∷ []) → ⊥
a_step_too_late h = let late = h.0 in omega arith

power_ends_just_before : AreInTime 60 239 [] (180 ∷ [])
power_ends_just_before = omega arith

nothing_comes : AreInTime 60 240 [] (180 ∷ []) → ⊥
nothing_comes h = omega arith

-- ---- sealed: an issue at step 60 must be sealed by step 72

sealed_at_the_last_step : IsSealed 200 1 72 ((72, seals 1) ∷ [])
sealed_at_the_last_step = (refl, omega arith)

sealed_too_late : IsSealed 200 1 72 ((73, seals 1) ∷ []) → ⊥
sealed_too_late h = let late = h.1 in omega arith

power_ends_before_the_seal : IsSealed 71 1 72 []
power_ends_before_the_seal = omega arith

never_sealed : IsSealed 72 1 72 [] → ⊥
never_sealed h = omega arith

-- what must be sealed: an issue, a copy into FRAM (array 2), one from FRAM to the kept words; not a copy into RAM (array 3) from
-- the kept words, nor a kept copy
what_is_sealed : to_seal pointing (issues 1 0 [] 5) ∷ to_seal pointing (copies 1 (cell 1 0) (cell 2 0) 2) ∷ to_seal pointing (copies 1 (cell 1 0) keep 2)
    ∷ to_seal pointing (copies 1 keep (cell 3 0) 2) ∷ to_seal pointing (copies 1 (cell 3 0) (cell 3 0) 2) ∷ to_seal pointing (keeps 1 2) ∷ []
    ≡ Some (1, 12) ∷ Some (1, 64) ∷ Some (1, 64) ∷ None ∷ None ∷ None ∷ []
unfolding hidden-the_row-CoreExpr-0 shape-the_row-CoreExpr-0 hidden pointing
what_is_sealed = refl

-- ---- halting: behind a commit of 0 at step 130

halts_at_the_last_step : EndsWell 0 130 194 Halted
halts_at_the_last_step = omega arith

halts_too_late : EndsWell 0 130 195 Halted → ⊥
halts_too_late h = omega arith

never_halts : EndsWell 0 130 194 Power → ⊥
never_halts h = omega arith

halts_with_a_task_next : EndsWell 1 130 140 Halted → ⊥
halts_with_a_task_next h = h

-- ---- readings: a reading of 2 makes the second call's target trap, so it isn't retained, and the unbroken run that is fed it traps

the_reading_of_a_trap : let events = expect (programs.reading (2 ∷ []) [] through) (7 ∷ []) [] in
    retained through events ∷ trapped through events ∷ readings through events ∷ [] ≡ [] ∷ (2 ∷ []) ∷ (2 ∷ []) ∷ []
unfolding hidden-the_row-CoreExpr-0 shape-the_row-CoreExpr-0 hidden boot_log boots_from values_in reading through
the_reading_of_a_trap = refl

the_unbroken_run_traps : TrapIsWalked through (expect (programs.reading (2 ∷ []) [] through) (7 ∷ []) []) 0
unfolding hidden-the_row-CoreExpr-0 shape-the_row-CoreExpr-0 hidden boot_log boots_from values_in reading through walk_from walk_of
the_unbroken_run_traps = (refl, tt)
