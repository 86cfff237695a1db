-- What programs with blocks show over failures, computed.
use Rattle.std.proofs.Common.{◌≡◌, ℕ, List, [], ◌∷◌, ◌++◌, refl}
use Rattle.task_ast.specs.declared.tree.Ann.TheVariants.{Single, Timely, Always}
use Rattle.task_ast.specs.declared.core_form.CoreExpr.TheBlock.{hidden-the_row-CoreExpr-0, shape-the_row-CoreExpr-0}
use Rattle.task_ast.specs.declared.core_form.CoreStmt.TheBlock.{hidden-the_row-CoreStmt-0, shape-the_row-CoreStmt-0}
use Rattle.devices.specs.Reading.{reading, values_in}
use Rattle.devices.specs.Journal.{JournalEvent, begins, looks, keeps, drops, issues, seals, commits}
use Rattle.task_attempts.specs.State.{Rules}
use Rattle.task_attempts.specs.Boots.{boot_log, boots_from, expect}
use Rattle.task_attempts.proofs.Programs as programs
use Rattle.task_attempts.proofs.Programs.{blocked, pair}
use denote.Hole.Carrier.{hidden}

-- a block with one call that issues
block_issued : (t u value : ℕ) → List JournalEvent
block_issued t u v = looks 1 t ∷ looks 2 u ∷ drops 2 ∷ issues 2 0 [] v ∷ seals 2 ∷ drops 1 ∷ seals 1 ∷ []

-- A block of SINGLE that was done: its call keeps, although it is of ALWAYS, and the block does nothing at its end.
always_in_single : Rules
always_in_single = programs.reading (20 ∷ 21 ∷ []) [] (blocked Single Always)

a_block_that_was_done_keeps_its_calls : expect always_in_single (8 ∷ 5 ∷ []) (30 ∷ 40 ∷ 90 ∷ 100 ∷ []) ≡
    (begins 1 ∷ block_issued 30 40 20) ∷ (begins 1 ∷ looks 1 90 ∷ looks 2 100 ∷ keeps 2 20 ∷ commits 0 ∷ []) ∷ []
unfolding hidden-the_row-CoreExpr-0 shape-the_row-CoreExpr-0 hidden-the_row-CoreStmt-0 shape-the_row-CoreStmt-0 hidden boot_log boots_from values_in reading blocked always_in_single block_issued
a_block_that_was_done_keeps_its_calls = refl

-- The other way round the call is issued in each attempt, although it is of SINGLE.
single_in_always : Rules
single_in_always = programs.reading (20 ∷ 21 ∷ []) [] (blocked Always Single)

a_block_of_always_forces_its_calls : expect single_in_always (8 ∷ 9 ∷ []) (30 ∷ 40 ∷ 90 ∷ 100 ∷ []) ≡
    (begins 1 ∷ block_issued 30 40 20) ∷ (begins 1 ∷ block_issued 90 100 21 ++ commits 0 ∷ []) ∷ []
unfolding hidden-the_row-CoreExpr-0 shape-the_row-CoreExpr-0 hidden-the_row-CoreStmt-0 shape-the_row-CoreStmt-0 hidden boot_log boots_from values_in reading blocked single_in_always block_issued
a_block_of_always_forces_its_calls = refl

-- A block that was broken off has no record, so its call decides for itself: it keeps, and the block is then sealed.
a_block_that_was_broken_off_lets_its_calls_decide : expect (programs.reading (20 ∷ 21 ∷ []) [] (blocked (Timely 1000) Single)) (6 ∷ 7 ∷ []) (30 ∷ 40 ∷ 2090 ∷ 2100 ∷ []) ≡
    (begins 1 ∷ looks 1 30 ∷ looks 2 40 ∷ drops 2 ∷ issues 2 0 [] 20 ∷ seals 2 ∷ [])
    ∷ (begins 1 ∷ looks 1 2090 ∷ looks 2 2100 ∷ keeps 2 20 ∷ drops 1 ∷ seals 1 ∷ commits 0 ∷ []) ∷ []
unfolding hidden-the_row-CoreExpr-0 shape-the_row-CoreExpr-0 hidden-the_row-CoreStmt-0 shape-the_row-CoreStmt-0 hidden boot_log boots_from values_in reading blocked
a_block_that_was_broken_off_lets_its_calls_decide = refl

-- A block at its limit keeps; a tick more, and it is done anew as a whole. Its time is that of its own look.
young_block : Rules
young_block = programs.reading (20 ∷ 21 ∷ []) [] (blocked (Timely 1000) Single)

a_block_at_its_limit_keeps : expect young_block (8 ∷ 5 ∷ []) (30 ∷ 40 ∷ 1030 ∷ 1040 ∷ []) ≡
    (begins 1 ∷ block_issued 30 40 20) ∷ (begins 1 ∷ looks 1 1030 ∷ looks 2 1040 ∷ keeps 2 20 ∷ commits 0 ∷ []) ∷ []
unfolding hidden-the_row-CoreExpr-0 shape-the_row-CoreExpr-0 hidden-the_row-CoreStmt-0 shape-the_row-CoreStmt-0 hidden boot_log boots_from values_in reading blocked young_block block_issued
a_block_at_its_limit_keeps = refl

a_block_past_its_limit_forces : expect young_block (8 ∷ 9 ∷ []) (30 ∷ 40 ∷ 1031 ∷ 1040 ∷ []) ≡
    (begins 1 ∷ block_issued 30 40 20) ∷ (begins 1 ∷ block_issued 1031 1040 21 ++ commits 0 ∷ []) ∷ []
unfolding hidden-the_row-CoreExpr-0 shape-the_row-CoreExpr-0 hidden-the_row-CoreStmt-0 shape-the_row-CoreStmt-0 hidden boot_log boots_from values_in reading blocked young_block block_issued
a_block_past_its_limit_forces = refl

-- An expired pair, broken off between its two calls: the block has kept its old record, so the third boot forces both.
expired_pair : Rules
expired_pair = programs.reading (20 ∷ 21 ∷ 22 ∷ []) (60 ∷ 61 ∷ []) pair

-- one call of the pair
called : (site time peripheral value : ℕ) → List JournalEvent
called k t p v = looks k t ∷ drops k ∷ issues k p [] v ∷ seals k ∷ []

an_expired_pair_is_done_anew_as_a_whole : expect expired_pair (12 ∷ 6 ∷ 13 ∷ []) (30 ∷ 40 ∷ 50 ∷ 2090 ∷ 2100 ∷ 2150 ∷ 2160 ∷ 2170 ∷ []) ≡
    (begins 1 ∷ looks 1 30 ∷ called 2 40 0 20 ++ called 3 50 1 60 ++ drops 1 ∷ seals 1 ∷ [])
    ∷ (begins 1 ∷ looks 1 2090 ∷ called 2 2100 0 21)
    ∷ (begins 1 ∷ looks 1 2150 ∷ called 2 2160 0 22 ++ called 3 2170 1 61 ++ drops 1 ∷ seals 1 ∷ commits 0 ∷ [])
    ∷ []
unfolding hidden-the_row-CoreExpr-0 shape-the_row-CoreExpr-0 hidden-the_row-CoreStmt-0 shape-the_row-CoreStmt-0 hidden boot_log boots_from values_in reading pair expired_pair called
an_expired_pair_is_done_anew_as_a_whole = refl
