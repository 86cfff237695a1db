-- Runs of plans with copies and assignments, cut at small steps, computed: they have the events of the rules of attempts,
-- and leave the words of the unbroken run.
use Rattle.std.proofs.Common.{◌≡◌, List, [], ◌∷◌, ◌++◌, refl}
use Rattle.task_ast.specs.declared.core_form.CoreExpr.TheBlock.{hidden-the_row-CoreExpr-0, shape-the_row-CoreExpr-0}
use Rattle.task_ast.specs.declared.core_form.CoreStmt.TheBlock.{hidden-the_row-CoreStmt-0, shape-the_row-CoreStmt-0}
use Rattle.task_ast.specs.declared.core_form.CoreExit.TheBlock.{hidden-the_row-CoreExit-0, shape-the_row-CoreExit-0}
use Rattle.devices.specs.Reading.{reading, values_in}
use Rattle.devices.specs.Journal.{JournalEvent, cell, keep, begins, keeps, seals, copies, commits}
use Rattle.word_isa.specs.declared.parts.Scheme.TheVariants.{Undo, Bank}
use Rattle.task_attempts.specs.State.{Rules}
use Rattle.task_attempts.specs.Boots.{boot_log, boots_from, expect}
use Rattle.run_plan.specs.declared.act.Act.TheBlock.{hidden-the_row-Act-0, shape-the_row-Act-0}
use Rattle.run_plan.specs.Runs.{boot_run, boots_run}
use Rattle.plan_examples.proofs.Programs as programs
use Rattle.plan_examples.proofs.Programs.{shifting, pointing, summing}
use Rattle.plan_examples.proofs.Outcomes.{Outcome, plan_outcome}
use denote.Hole.Carrier.{hidden}

-- ---- a copy within an array

shifted : Rules
shifted = programs.reading [] shifting

-- an attempt up to its copy
up_to_copy : List JournalEvent
up_to_copy = begins 1 ∷ copies 1 (cell 0 1) (cell 0 0) 5 ∷ []

behind_copy : List JournalEvent
behind_copy = seals 1 ∷ commits 0 ∷ []

-- The power fails within the transfer.
broken_transfer : Outcome
broken_transfer = record {
  events = (begins 1 ∷ []) ∷ (up_to_copy ++ behind_copy) ∷ [];
  states = record { next = 0; words = (2 ∷ 3 ∷ 4 ∷ 5 ∷ 6 ∷ 6 ∷ []) ∷ [] } ∷ [];
}

broken_transfer_undo : plan_outcome shifted Undo (22 ∷ 100 ∷ []) [] ≡ broken_transfer
unfolding hidden-the_row-CoreExpr-0 shape-the_row-CoreExpr-0 hidden-the_row-CoreStmt-0 shape-the_row-CoreStmt-0 hidden-the_row-CoreExit-0 shape-the_row-CoreExit-0 hidden-the_row-Act-0 shape-the_row-Act-0 hidden boot_run boots_run values_in reading shifting shifted up_to_copy behind_copy broken_transfer
broken_transfer_undo = refl

broken_transfer_bank : plan_outcome shifted Bank (14 ∷ 100 ∷ []) [] ≡ broken_transfer
unfolding hidden-the_row-CoreExpr-0 shape-the_row-CoreExpr-0 hidden-the_row-CoreStmt-0 shape-the_row-CoreStmt-0 hidden-the_row-CoreExit-0 shape-the_row-CoreExit-0 hidden-the_row-Act-0 shape-the_row-Act-0 hidden boot_run boots_run values_in reading shifting shifted up_to_copy behind_copy broken_transfer
broken_transfer_bank = refl

broken_transfer_rules : expect shifted (1 ∷ 4 ∷ []) [] ≡ (begins 1 ∷ []) ∷ (up_to_copy ++ behind_copy) ∷ []
unfolding hidden-the_row-CoreExpr-0 shape-the_row-CoreExpr-0 hidden-the_row-CoreStmt-0 shape-the_row-CoreStmt-0 hidden-the_row-CoreExit-0 shape-the_row-CoreExit-0 hidden-the_row-Act-0 shape-the_row-Act-0 hidden boot_log boots_from values_in reading shifting shifted up_to_copy behind_copy
broken_transfer_rules = refl

-- It fails while the words are kept.
broken_keeping : Outcome
broken_keeping = record {
  events = up_to_copy ∷ (up_to_copy ++ behind_copy) ∷ [];
  states = record { next = 0; words = (2 ∷ 3 ∷ 4 ∷ 5 ∷ 6 ∷ 6 ∷ []) ∷ [] } ∷ [];
}

broken_keeping_undo : plan_outcome shifted Undo (28 ∷ 100 ∷ []) [] ≡ broken_keeping
unfolding hidden-the_row-CoreExpr-0 shape-the_row-CoreExpr-0 hidden-the_row-CoreStmt-0 shape-the_row-CoreStmt-0 hidden-the_row-CoreExit-0 shape-the_row-CoreExit-0 hidden-the_row-Act-0 shape-the_row-Act-0 hidden boot_run boots_run values_in reading shifting shifted up_to_copy behind_copy broken_keeping
broken_keeping_undo = refl

broken_keeping_bank : plan_outcome shifted Bank (20 ∷ 100 ∷ []) [] ≡ broken_keeping
unfolding hidden-the_row-CoreExpr-0 shape-the_row-CoreExpr-0 hidden-the_row-CoreStmt-0 shape-the_row-CoreStmt-0 hidden-the_row-CoreExit-0 shape-the_row-CoreExit-0 hidden-the_row-Act-0 shape-the_row-Act-0 hidden boot_run boots_run values_in reading shifting shifted up_to_copy behind_copy broken_keeping
broken_keeping_bank = refl

broken_keeping_rules : expect shifted (2 ∷ 4 ∷ []) [] ≡ up_to_copy ∷ (up_to_copy ++ behind_copy) ∷ []
unfolding hidden-the_row-CoreExpr-0 shape-the_row-CoreExpr-0 hidden-the_row-CoreStmt-0 shape-the_row-CoreStmt-0 hidden-the_row-CoreExit-0 shape-the_row-CoreExit-0 hidden-the_row-Act-0 shape-the_row-Act-0 hidden boot_log boots_from values_in reading shifting shifted up_to_copy behind_copy
broken_keeping_rules = refl

-- It fails right behind the seal: the kept words are put.
words_kept : Outcome
words_kept = record {
  events = (up_to_copy ++ seals 1 ∷ []) ∷ (begins 1 ∷ keeps 1 5 ∷ commits 0 ∷ []) ∷ [];
  states = record { next = 0; words = (2 ∷ 3 ∷ 4 ∷ 5 ∷ 6 ∷ 6 ∷ []) ∷ [] } ∷ [];
}

words_kept_undo : plan_outcome shifted Undo (36 ∷ 100 ∷ []) [] ≡ words_kept
unfolding hidden-the_row-CoreExpr-0 shape-the_row-CoreExpr-0 hidden-the_row-CoreStmt-0 shape-the_row-CoreStmt-0 hidden-the_row-CoreExit-0 shape-the_row-CoreExit-0 hidden-the_row-Act-0 shape-the_row-Act-0 hidden boot_run boots_run values_in reading shifting shifted up_to_copy behind_copy words_kept
words_kept_undo = refl

words_kept_bank : plan_outcome shifted Bank (28 ∷ 100 ∷ []) [] ≡ words_kept
unfolding hidden-the_row-CoreExpr-0 shape-the_row-CoreExpr-0 hidden-the_row-CoreStmt-0 shape-the_row-CoreStmt-0 hidden-the_row-CoreExit-0 shape-the_row-CoreExit-0 hidden-the_row-Act-0 shape-the_row-Act-0 hidden boot_run boots_run values_in reading shifting shifted up_to_copy behind_copy words_kept
words_kept_bank = refl

words_kept_rules : expect shifted (3 ∷ 3 ∷ []) [] ≡ (up_to_copy ++ seals 1 ∷ []) ∷ (begins 1 ∷ keeps 1 5 ∷ commits 0 ∷ []) ∷ []
unfolding hidden-the_row-CoreExpr-0 shape-the_row-CoreExpr-0 hidden-the_row-CoreStmt-0 shape-the_row-CoreStmt-0 hidden-the_row-CoreExit-0 shape-the_row-CoreExit-0 hidden-the_row-Act-0 shape-the_row-Act-0 hidden boot_log boots_from values_in reading shifting shifted up_to_copy behind_copy
words_kept_rules = refl

-- It fails while the kept words are put, and again.
broken_putting : Outcome
broken_putting = record {
  events = (up_to_copy ++ seals 1 ∷ []) ∷ (begins 1 ∷ keeps 1 5 ∷ []) ∷ (begins 1 ∷ keeps 1 5 ∷ []) ∷ (begins 1 ∷ keeps 1 5 ∷ commits 0 ∷ []) ∷ [];
  states = record { next = 0; words = (2 ∷ 3 ∷ 4 ∷ 5 ∷ 6 ∷ 6 ∷ []) ∷ [] } ∷ [];
}

broken_putting_undo : plan_outcome shifted Undo (36 ∷ 22 ∷ 23 ∷ 100 ∷ []) [] ≡ broken_putting
unfolding hidden-the_row-CoreExpr-0 shape-the_row-CoreExpr-0 hidden-the_row-CoreStmt-0 shape-the_row-CoreStmt-0 hidden-the_row-CoreExit-0 shape-the_row-CoreExit-0 hidden-the_row-Act-0 shape-the_row-Act-0 hidden boot_run boots_run values_in reading shifting shifted up_to_copy behind_copy broken_putting
broken_putting_undo = refl

broken_putting_bank : plan_outcome shifted Bank (28 ∷ 14 ∷ 15 ∷ 100 ∷ []) [] ≡ broken_putting
unfolding hidden-the_row-CoreExpr-0 shape-the_row-CoreExpr-0 hidden-the_row-CoreStmt-0 shape-the_row-CoreStmt-0 hidden-the_row-CoreExit-0 shape-the_row-CoreExit-0 hidden-the_row-Act-0 shape-the_row-Act-0 hidden boot_run boots_run values_in reading shifting shifted up_to_copy behind_copy broken_putting
broken_putting_bank = refl

broken_putting_rules : expect shifted (3 ∷ 2 ∷ 2 ∷ 3 ∷ []) [] ≡ (up_to_copy ++ seals 1 ∷ []) ∷ (begins 1 ∷ keeps 1 5 ∷ []) ∷ (begins 1 ∷ keeps 1 5 ∷ []) ∷ (begins 1 ∷ keeps 1 5 ∷ commits 0 ∷ []) ∷ []
unfolding hidden-the_row-CoreExpr-0 shape-the_row-CoreExpr-0 hidden-the_row-CoreStmt-0 shape-the_row-CoreStmt-0 hidden-the_row-CoreExit-0 shape-the_row-CoreExit-0 hidden-the_row-Act-0 shape-the_row-Act-0 hidden boot_log boots_from values_in reading shifting shifted up_to_copy behind_copy
broken_putting_rules = refl

-- ---- a copy to where a pointer points: by its kept words to a volatile array, and across to a nonvolatile one

to_either : Rules
to_either = programs.reading [] pointing

-- Nothing fails: the class is that of the ends as they are valued.
both_classes : Outcome
both_classes = record {
  events = (begins 1 ∷ copies 1 (cell 1 0) keep 2 ∷ seals 1 ∷ copies 1 keep (cell 3 0) 2 ∷ commits 1 ∷ begins 1 ∷ copies 1 (cell 1 0) (cell 2 0) 2 ∷ seals 1 ∷ commits 0 ∷ []) ∷ [];
  states = record { next = 1; words = (1 ∷ []) ∷ (5 ∷ 6 ∷ []) ∷ (0 ∷ 0 ∷ []) ∷ [] } ∷ record { next = 0; words = (2 ∷ []) ∷ (5 ∷ 6 ∷ []) ∷ (5 ∷ 6 ∷ []) ∷ [] } ∷ [];
}

both_classes_undo : plan_outcome to_either Undo (200 ∷ []) [] ≡ both_classes
unfolding hidden-the_row-CoreExpr-0 shape-the_row-CoreExpr-0 hidden-the_row-CoreStmt-0 shape-the_row-CoreStmt-0 hidden-the_row-CoreExit-0 shape-the_row-CoreExit-0 hidden-the_row-Act-0 shape-the_row-Act-0 hidden boot_run boots_run values_in reading pointing to_either both_classes
both_classes_undo = refl

both_classes_bank : plan_outcome to_either Bank (200 ∷ []) [] ≡ both_classes
unfolding hidden-the_row-CoreExpr-0 shape-the_row-CoreExpr-0 hidden-the_row-CoreStmt-0 shape-the_row-CoreStmt-0 hidden-the_row-CoreExit-0 shape-the_row-CoreExit-0 hidden-the_row-Act-0 shape-the_row-Act-0 hidden boot_run boots_run values_in reading pointing to_either both_classes
both_classes_bank = refl

both_classes_rules : expect to_either (10 ∷ []) [] ≡ (begins 1 ∷ copies 1 (cell 1 0) keep 2 ∷ seals 1 ∷ copies 1 keep (cell 3 0) 2 ∷ commits 1 ∷ begins 1 ∷ copies 1 (cell 1 0) (cell 2 0) 2 ∷ seals 1 ∷ commits 0 ∷ []) ∷ []
unfolding hidden-the_row-CoreExpr-0 shape-the_row-CoreExpr-0 hidden-the_row-CoreStmt-0 shape-the_row-CoreStmt-0 hidden-the_row-CoreExit-0 shape-the_row-CoreExit-0 hidden-the_row-Act-0 shape-the_row-Act-0 hidden boot_log boots_from values_in reading pointing to_either
both_classes_rules = refl

-- ---- assignments that read what they write

summed : Rules
summed = programs.reading [] summing

-- The power fails while the words are saved, or brought level.
broken_saving : Outcome
broken_saving = record {
  events = (begins 1 ∷ []) ∷ (begins 1 ∷ commits 0 ∷ []) ∷ [];
  states = record { next = 0; words = (5 ∷ 5 ∷ 3 ∷ []) ∷ (1 ∷ []) ∷ [] } ∷ [];
}

broken_saving_undo : plan_outcome summed Undo (5 ∷ 100 ∷ []) [] ≡ broken_saving
unfolding hidden-the_row-CoreExpr-0 shape-the_row-CoreExpr-0 hidden-the_row-CoreStmt-0 shape-the_row-CoreStmt-0 hidden-the_row-CoreExit-0 shape-the_row-CoreExit-0 hidden-the_row-Act-0 shape-the_row-Act-0 hidden boot_run boots_run values_in reading summing summed broken_saving
broken_saving_undo = refl

broken_saving_bank : plan_outcome summed Bank (3 ∷ 100 ∷ []) [] ≡ broken_saving
unfolding hidden-the_row-CoreExpr-0 shape-the_row-CoreExpr-0 hidden-the_row-CoreStmt-0 shape-the_row-CoreStmt-0 hidden-the_row-CoreExit-0 shape-the_row-CoreExit-0 hidden-the_row-Act-0 shape-the_row-Act-0 hidden boot_run boots_run values_in reading summing summed broken_saving
broken_saving_bank = refl

broken_saving_rules : expect summed (1 ∷ 2 ∷ []) [] ≡ (begins 1 ∷ []) ∷ (begins 1 ∷ commits 0 ∷ []) ∷ []
unfolding hidden-the_row-CoreExpr-0 shape-the_row-CoreExpr-0 hidden-the_row-CoreStmt-0 shape-the_row-CoreStmt-0 hidden-the_row-CoreExit-0 shape-the_row-CoreExit-0 hidden-the_row-Act-0 shape-the_row-Act-0 hidden boot_log boots_from values_in reading summing summed
broken_saving_rules = refl

-- It fails behind two assignments, and then while the words are restored.
broken_restoring : Outcome
broken_restoring = record {
  events = (begins 1 ∷ []) ∷ [] ∷ (begins 1 ∷ commits 0 ∷ []) ∷ [];
  states = record { next = 0; words = (5 ∷ 5 ∷ 3 ∷ []) ∷ (1 ∷ []) ∷ [] } ∷ [];
}

broken_restoring_undo : plan_outcome summed Undo (14 ∷ 2 ∷ 100 ∷ []) [] ≡ broken_restoring
unfolding hidden-the_row-CoreExpr-0 shape-the_row-CoreExpr-0 hidden-the_row-CoreStmt-0 shape-the_row-CoreStmt-0 hidden-the_row-CoreExit-0 shape-the_row-CoreExit-0 hidden-the_row-Act-0 shape-the_row-Act-0 hidden boot_run boots_run values_in reading summing summed broken_restoring
broken_restoring_undo = refl

broken_restoring_rules : expect summed (1 ∷ 0 ∷ 2 ∷ []) [] ≡ (begins 1 ∷ []) ∷ [] ∷ (begins 1 ∷ commits 0 ∷ []) ∷ []
unfolding hidden-the_row-CoreExpr-0 shape-the_row-CoreExpr-0 hidden-the_row-CoreStmt-0 shape-the_row-CoreStmt-0 hidden-the_row-CoreExit-0 shape-the_row-CoreExit-0 hidden-the_row-Act-0 shape-the_row-Act-0 hidden boot_log boots_from values_in reading summing summed
broken_restoring_rules = refl

-- Under two banks it fails behind two assignments, and then while the words are brought level.
broken_levelling : Outcome
broken_levelling = record {
  events = (begins 1 ∷ []) ∷ (begins 1 ∷ []) ∷ (begins 1 ∷ commits 0 ∷ []) ∷ [];
  states = record { next = 0; words = (5 ∷ 5 ∷ 3 ∷ []) ∷ (1 ∷ []) ∷ [] } ∷ [];
}

broken_levelling_bank : plan_outcome summed Bank (10 ∷ 3 ∷ 100 ∷ []) [] ≡ broken_levelling
unfolding hidden-the_row-CoreExpr-0 shape-the_row-CoreExpr-0 hidden-the_row-CoreStmt-0 shape-the_row-CoreStmt-0 hidden-the_row-CoreExit-0 shape-the_row-CoreExit-0 hidden-the_row-Act-0 shape-the_row-Act-0 hidden boot_run boots_run values_in reading summing summed broken_levelling
broken_levelling_bank = refl

broken_levelling_rules : expect summed (1 ∷ 1 ∷ 2 ∷ []) [] ≡ (begins 1 ∷ []) ∷ (begins 1 ∷ []) ∷ (begins 1 ∷ commits 0 ∷ []) ∷ []
unfolding hidden-the_row-CoreExpr-0 shape-the_row-CoreExpr-0 hidden-the_row-CoreStmt-0 shape-the_row-CoreStmt-0 hidden-the_row-CoreExit-0 shape-the_row-CoreExit-0 hidden-the_row-Act-0 shape-the_row-Act-0 hidden boot_log boots_from values_in reading summing summed
broken_levelling_rules = refl

-- It fails behind two assignments, and then twice while the words are restored.
broken_restoring_twice : Outcome
broken_restoring_twice = record {
  events = (begins 1 ∷ []) ∷ [] ∷ [] ∷ (begins 1 ∷ commits 0 ∷ []) ∷ [];
  states = record { next = 0; words = (5 ∷ 5 ∷ 3 ∷ []) ∷ (1 ∷ []) ∷ [] } ∷ [];
}

broken_restoring_twice_undo : plan_outcome summed Undo (14 ∷ 2 ∷ 3 ∷ 100 ∷ []) [] ≡ broken_restoring_twice
unfolding hidden-the_row-CoreExpr-0 shape-the_row-CoreExpr-0 hidden-the_row-CoreStmt-0 shape-the_row-CoreStmt-0 hidden-the_row-CoreExit-0 shape-the_row-CoreExit-0 hidden-the_row-Act-0 shape-the_row-Act-0 hidden boot_run boots_run values_in reading summing summed broken_restoring_twice
broken_restoring_twice_undo = refl

broken_restoring_twice_rules : expect summed (1 ∷ 0 ∷ 0 ∷ 2 ∷ []) [] ≡ (begins 1 ∷ []) ∷ [] ∷ [] ∷ (begins 1 ∷ commits 0 ∷ []) ∷ []
unfolding hidden-the_row-CoreExpr-0 shape-the_row-CoreExpr-0 hidden-the_row-CoreStmt-0 shape-the_row-CoreStmt-0 hidden-the_row-CoreExit-0 shape-the_row-CoreExit-0 hidden-the_row-Act-0 shape-the_row-Act-0 hidden boot_log boots_from values_in reading summing summed
broken_restoring_twice_rules = refl
