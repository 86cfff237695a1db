-- Runs of plans with calls and blocks, cut at small steps, computed: they have the events of the rules of attempts.
use Rattle.std.proofs.Common.{◌≡◌, ℕ, List, [], ◌∷◌, ◌++◌, refl}
use Rattle.task_ast.specs.declared.core_form.CoreExpr.TheBlock.{hidden-the_row-CoreExpr-0, shape-the_row-CoreExpr-0}
use Rattle.task_ast.specs.declared.core_form.CoreStmt.TheBlock.{hidden-the_row-CoreStmt-0, shape-the_row-CoreStmt-0}
use Rattle.task_ast.specs.declared.core_form.CoreExit.TheBlock.{hidden-the_row-CoreExit-0, shape-the_row-CoreExit-0}
use Rattle.devices.specs.Reading.{reading, values_in}
use Rattle.devices.specs.Journal.{JournalEvent, begins, looks, keeps, drops, issues, seals, commits}
use Rattle.word_isa.specs.declared.parts.Scheme.TheVariants.{Undo, Bank}
use Rattle.task_attempts.specs.State.{Rules}
use Rattle.task_attempts.specs.Boots.{boot_log, boots_from, costs_from, expect, costs}
use Rattle.run_plan.specs.declared.act.Act.TheBlock.{hidden-the_row-Act-0, shape-the_row-Act-0}
use Rattle.run_plan.specs.Runs.{boot_run, boots_run}
use Rattle.plan_examples.proofs.Programs as programs
use Rattle.plan_examples.proofs.Programs.{sending, sense_and_send, blocked}
use Rattle.plan_examples.proofs.Outcomes.{Outcome, plan_outcome, plan_weights}
use denote.Hole.Carrier.{hidden}

-- ---- a call of SINGLE

three_readings : Rules
three_readings = programs.reading (1 ∷ 2 ∷ 3 ∷ []) sending

-- an attempt up to its issue, and what it does behind that
up_to_issue : (time value : ℕ) → List JournalEvent
up_to_issue t v = begins 1 ∷ looks 1 t ∷ drops 1 ∷ issues 1 0 (7 ∷ []) v ∷ []

to_the_end : List JournalEvent
to_the_end = seals 1 ∷ commits 0 ∷ []

-- The power fails between issue and seal, when the value and the stamp of its record stand: it is issued again.
issued_again : Outcome
issued_again = record {
  events = up_to_issue 40 1 ∷ (up_to_issue 90 2 ++ to_the_end) ∷ [];
  states = record { next = 0; words = (9 ∷ []) ∷ [] } ∷ [];
}

issued_again_undo : plan_outcome three_readings Undo (17 ∷ 100 ∷ []) (40 ∷ 90 ∷ []) ≡ issued_again
unfolding hidden-the_row-CoreExpr-0 shape-the_row-CoreExpr-0 hidden-the_row-CoreStmt-0 shape-the_row-CoreStmt-0 hidden-the_row-CoreExit-0 shape-the_row-CoreExit-0 hidden-the_row-Act-0 shape-the_row-Act-0 hidden boot_run boots_run values_in reading sending three_readings up_to_issue to_the_end issued_again
issued_again_undo = refl

issued_again_bank : plan_outcome three_readings Bank (13 ∷ 100 ∷ []) (40 ∷ 90 ∷ []) ≡ issued_again
unfolding hidden-the_row-CoreExpr-0 shape-the_row-CoreExpr-0 hidden-the_row-CoreStmt-0 shape-the_row-CoreStmt-0 hidden-the_row-CoreExit-0 shape-the_row-CoreExit-0 hidden-the_row-Act-0 shape-the_row-Act-0 hidden boot_run boots_run values_in reading sending three_readings up_to_issue to_the_end issued_again
issued_again_bank = refl

issued_again_rules : expect three_readings (4 ∷ 6 ∷ []) (40 ∷ 90 ∷ []) ≡ up_to_issue 40 1 ∷ (up_to_issue 90 2 ++ to_the_end) ∷ []
unfolding hidden-the_row-CoreExpr-0 shape-the_row-CoreExpr-0 hidden-the_row-CoreStmt-0 shape-the_row-CoreStmt-0 hidden-the_row-CoreExit-0 shape-the_row-CoreExit-0 hidden-the_row-Act-0 shape-the_row-Act-0 hidden boot_log boots_from values_in reading sending three_readings up_to_issue to_the_end
issued_again_rules = refl

-- It fails right behind the seal: the value is kept.
value_kept : Outcome
value_kept = record {
  events = (up_to_issue 40 1 ++ seals 1 ∷ []) ∷ (begins 1 ∷ looks 1 90 ∷ keeps 1 1 ∷ commits 0 ∷ []) ∷ [];
  states = record { next = 0; words = (8 ∷ []) ∷ [] } ∷ [];
}

value_kept_undo : plan_outcome three_readings Undo (18 ∷ 100 ∷ []) (40 ∷ 90 ∷ []) ≡ value_kept
unfolding hidden-the_row-CoreExpr-0 shape-the_row-CoreExpr-0 hidden-the_row-CoreStmt-0 shape-the_row-CoreStmt-0 hidden-the_row-CoreExit-0 shape-the_row-CoreExit-0 hidden-the_row-Act-0 shape-the_row-Act-0 hidden boot_run boots_run values_in reading sending three_readings up_to_issue to_the_end value_kept
value_kept_undo = refl

value_kept_bank : plan_outcome three_readings Bank (14 ∷ 100 ∷ []) (40 ∷ 90 ∷ []) ≡ value_kept
unfolding hidden-the_row-CoreExpr-0 shape-the_row-CoreExpr-0 hidden-the_row-CoreStmt-0 shape-the_row-CoreStmt-0 hidden-the_row-CoreExit-0 shape-the_row-CoreExit-0 hidden-the_row-Act-0 shape-the_row-Act-0 hidden boot_run boots_run values_in reading sending three_readings up_to_issue to_the_end value_kept
value_kept_bank = refl

value_kept_rules : expect three_readings (5 ∷ 4 ∷ []) (40 ∷ 90 ∷ []) ≡ (up_to_issue 40 1 ++ seals 1 ∷ []) ∷ (begins 1 ∷ looks 1 90 ∷ keeps 1 1 ∷ commits 0 ∷ []) ∷ []
unfolding hidden-the_row-CoreExpr-0 shape-the_row-CoreExpr-0 hidden-the_row-CoreStmt-0 shape-the_row-CoreStmt-0 hidden-the_row-CoreExit-0 shape-the_row-CoreExit-0 hidden-the_row-Act-0 shape-the_row-Act-0 hidden boot_log boots_from values_in reading sending three_readings up_to_issue to_the_end
value_kept_rules = refl

-- It fails while the nonvolatile word is saved, or brought level: nothing is lost.
broken_beginning : Outcome
broken_beginning = record {
  events = (begins 1 ∷ []) ∷ (up_to_issue 40 1 ++ to_the_end) ∷ [];
  states = record { next = 0; words = (8 ∷ []) ∷ [] } ∷ [];
}

broken_beginning_undo : plan_outcome three_readings Undo (4 ∷ 100 ∷ []) (40 ∷ 90 ∷ []) ≡ broken_beginning
unfolding hidden-the_row-CoreExpr-0 shape-the_row-CoreExpr-0 hidden-the_row-CoreStmt-0 shape-the_row-CoreStmt-0 hidden-the_row-CoreExit-0 shape-the_row-CoreExit-0 hidden-the_row-Act-0 shape-the_row-Act-0 hidden boot_run boots_run values_in reading sending three_readings up_to_issue to_the_end broken_beginning
broken_beginning_undo = refl

broken_beginning_bank : plan_outcome three_readings Bank (2 ∷ 100 ∷ []) (40 ∷ 90 ∷ []) ≡ broken_beginning
unfolding hidden-the_row-CoreExpr-0 shape-the_row-CoreExpr-0 hidden-the_row-CoreStmt-0 shape-the_row-CoreStmt-0 hidden-the_row-CoreExit-0 shape-the_row-CoreExit-0 hidden-the_row-Act-0 shape-the_row-Act-0 hidden boot_run boots_run values_in reading sending three_readings up_to_issue to_the_end broken_beginning
broken_beginning_bank = refl

broken_beginning_rules : expect three_readings (1 ∷ 6 ∷ []) (40 ∷ 90 ∷ []) ≡ (begins 1 ∷ []) ∷ (up_to_issue 40 1 ++ to_the_end) ∷ []
unfolding hidden-the_row-CoreExpr-0 shape-the_row-CoreExpr-0 hidden-the_row-CoreStmt-0 shape-the_row-CoreStmt-0 hidden-the_row-CoreExit-0 shape-the_row-CoreExit-0 hidden-the_row-Act-0 shape-the_row-Act-0 hidden boot_log boots_from values_in reading sending three_readings up_to_issue to_the_end
broken_beginning_rules = refl

-- It fails right behind the commit: nothing is left to do.
committed : Outcome
committed = record {
  events = (up_to_issue 40 1 ++ to_the_end) ∷ [] ∷ [];
  states = record { next = 0; words = (8 ∷ []) ∷ [] } ∷ [];
}

committed_undo : plan_outcome three_readings Undo (23 ∷ 100 ∷ []) (40 ∷ 90 ∷ []) ≡ committed
unfolding hidden-the_row-CoreExpr-0 shape-the_row-CoreExpr-0 hidden-the_row-CoreStmt-0 shape-the_row-CoreStmt-0 hidden-the_row-CoreExit-0 shape-the_row-CoreExit-0 hidden-the_row-Act-0 shape-the_row-Act-0 hidden boot_run boots_run values_in reading sending three_readings up_to_issue to_the_end committed
committed_undo = refl

committed_bank : plan_outcome three_readings Bank (19 ∷ 100 ∷ []) (40 ∷ 90 ∷ []) ≡ committed
unfolding hidden-the_row-CoreExpr-0 shape-the_row-CoreExpr-0 hidden-the_row-CoreStmt-0 shape-the_row-CoreStmt-0 hidden-the_row-CoreExit-0 shape-the_row-CoreExit-0 hidden-the_row-Act-0 shape-the_row-Act-0 hidden boot_run boots_run values_in reading sending three_readings up_to_issue to_the_end committed
committed_bank = refl

committed_rules : expect three_readings (6 ∷ 0 ∷ []) (40 ∷ 90 ∷ []) ≡ (up_to_issue 40 1 ++ to_the_end) ∷ [] ∷ []
unfolding hidden-the_row-CoreExpr-0 shape-the_row-CoreExpr-0 hidden-the_row-CoreStmt-0 shape-the_row-CoreStmt-0 hidden-the_row-CoreExit-0 shape-the_row-CoreExit-0 hidden-the_row-Act-0 shape-the_row-Act-0 hidden boot_log boots_from values_in reading sending three_readings up_to_issue to_the_end
committed_rules = refl

-- The weights begun up to each event of an unbroken run, and the steps by which the rules want it, and the event that would
-- come next.
weights_undo : plan_weights three_readings Undo (100 ∷ []) (40 ∷ []) ≡ (132 ∷ 214 ∷ 248 ∷ 260 ∷ 268 ∷ 394 ∷ []) ∷ []
unfolding hidden-the_row-CoreExpr-0 shape-the_row-CoreExpr-0 hidden-the_row-CoreStmt-0 shape-the_row-CoreStmt-0 hidden-the_row-CoreExit-0 shape-the_row-CoreExit-0 hidden-the_row-Act-0 shape-the_row-Act-0 hidden boot_run boots_run values_in reading sending three_readings up_to_issue to_the_end
weights_undo = refl

steps_undo : costs three_readings Undo (6 ∷ []) (40 ∷ []) ≡ (180 ∷ 312 ∷ 312 ∷ 312 ∷ 312 ∷ 432 ∷ []) ∷ []
unfolding hidden-the_row-CoreExpr-0 shape-the_row-CoreExpr-0 hidden-the_row-CoreStmt-0 shape-the_row-CoreStmt-0 hidden-the_row-CoreExit-0 shape-the_row-CoreExit-0 hidden-the_row-Act-0 shape-the_row-Act-0 hidden boot_log boots_from costs_from values_in reading sending three_readings up_to_issue to_the_end
steps_undo = refl

-- ---- a call of ALWAYS, and one that sends what it gave

two_temperatures : Rules
two_temperatures = programs.reading (20 ∷ 21 ∷ []) sense_and_send

-- the sensing behind its drops, and the sending
sensed : (time : ℕ) → List JournalEvent
sensed t = begins 1 ∷ looks 1 t ∷ drops 1 ∷ drops 2 ∷ []

read_and_sent : (value time : ℕ) → List JournalEvent
read_and_sent v t = issues 1 0 [] v ∷ seals 1 ∷ looks 2 t ∷ drops 2 ∷ issues 2 1 (v ∷ []) 0 ∷ seals 2 ∷ []

-- The power fails right behind the second seal: the sensing is done anew, and so the sending is.
sent_again : Outcome
sent_again = record {
  events = (sensed 30 ++ read_and_sent 20 40) ∷ (sensed 90 ++ read_and_sent 21 100 ++ commits 0 ∷ []) ∷ [];
  states = record { next = 0; words = [] } ∷ [];
}

sent_again_undo : plan_outcome two_temperatures Undo (32 ∷ 100 ∷ []) (30 ∷ 40 ∷ 90 ∷ 100 ∷ []) ≡ sent_again
unfolding hidden-the_row-CoreExpr-0 shape-the_row-CoreExpr-0 hidden-the_row-CoreStmt-0 shape-the_row-CoreStmt-0 hidden-the_row-CoreExit-0 shape-the_row-CoreExit-0 hidden-the_row-Act-0 shape-the_row-Act-0 hidden boot_run boots_run values_in reading sense_and_send two_temperatures sensed read_and_sent sent_again
sent_again_undo = refl

sent_again_bank : plan_outcome two_temperatures Bank (28 ∷ 100 ∷ []) (30 ∷ 40 ∷ 90 ∷ 100 ∷ []) ≡ sent_again
unfolding hidden-the_row-CoreExpr-0 shape-the_row-CoreExpr-0 hidden-the_row-CoreStmt-0 shape-the_row-CoreStmt-0 hidden-the_row-CoreExit-0 shape-the_row-CoreExit-0 hidden-the_row-Act-0 shape-the_row-Act-0 hidden boot_run boots_run values_in reading sense_and_send two_temperatures sensed read_and_sent sent_again
sent_again_bank = refl

sent_again_rules : expect two_temperatures (10 ∷ 11 ∷ []) (30 ∷ 40 ∷ 90 ∷ 100 ∷ []) ≡ (sensed 30 ++ read_and_sent 20 40) ∷ (sensed 90 ++ read_and_sent 21 100 ++ commits 0 ∷ []) ∷ []
unfolding hidden-the_row-CoreExpr-0 shape-the_row-CoreExpr-0 hidden-the_row-CoreStmt-0 shape-the_row-CoreStmt-0 hidden-the_row-CoreExit-0 shape-the_row-CoreExit-0 hidden-the_row-Act-0 shape-the_row-Act-0 hidden boot_log boots_from values_in reading sense_and_send two_temperatures sensed read_and_sent
sent_again_rules = refl

-- It fails behind the drops.
dropped_twice : Outcome
dropped_twice = record {
  events = sensed 30 ∷ (sensed 40 ++ read_and_sent 20 90 ++ commits 0 ∷ []) ∷ [];
  states = record { next = 0; words = [] } ∷ [];
}

dropped_twice_undo : plan_outcome two_temperatures Undo (14 ∷ 100 ∷ []) (30 ∷ 40 ∷ 90 ∷ []) ≡ dropped_twice
unfolding hidden-the_row-CoreExpr-0 shape-the_row-CoreExpr-0 hidden-the_row-CoreStmt-0 shape-the_row-CoreStmt-0 hidden-the_row-CoreExit-0 shape-the_row-CoreExit-0 hidden-the_row-Act-0 shape-the_row-Act-0 hidden boot_run boots_run values_in reading sense_and_send two_temperatures sensed read_and_sent dropped_twice
dropped_twice_undo = refl

dropped_twice_bank : plan_outcome two_temperatures Bank (10 ∷ 100 ∷ []) (30 ∷ 40 ∷ 90 ∷ []) ≡ dropped_twice
unfolding hidden-the_row-CoreExpr-0 shape-the_row-CoreExpr-0 hidden-the_row-CoreStmt-0 shape-the_row-CoreStmt-0 hidden-the_row-CoreExit-0 shape-the_row-CoreExit-0 hidden-the_row-Act-0 shape-the_row-Act-0 hidden boot_run boots_run values_in reading sense_and_send two_temperatures sensed read_and_sent dropped_twice
dropped_twice_bank = refl

dropped_twice_rules : expect two_temperatures (4 ∷ 11 ∷ []) (30 ∷ 40 ∷ 90 ∷ []) ≡ sensed 30 ∷ (sensed 40 ++ read_and_sent 20 90 ++ commits 0 ∷ []) ∷ []
unfolding hidden-the_row-CoreExpr-0 shape-the_row-CoreExpr-0 hidden-the_row-CoreStmt-0 shape-the_row-CoreStmt-0 hidden-the_row-CoreExit-0 shape-the_row-CoreExit-0 hidden-the_row-Act-0 shape-the_row-Act-0 hidden boot_log boots_from values_in reading sense_and_send two_temperatures sensed read_and_sent
dropped_twice_rules = refl

-- It fails right behind the first seal.
sensed_twice : Outcome
sensed_twice = record {
  events = (sensed 30 ++ issues 1 0 [] 20 ∷ seals 1 ∷ []) ∷ (sensed 40 ++ read_and_sent 21 90 ++ commits 0 ∷ []) ∷ [];
  states = record { next = 0; words = [] } ∷ [];
}

sensed_twice_undo : plan_outcome two_temperatures Undo (19 ∷ 100 ∷ []) (30 ∷ 40 ∷ 90 ∷ []) ≡ sensed_twice
unfolding hidden-the_row-CoreExpr-0 shape-the_row-CoreExpr-0 hidden-the_row-CoreStmt-0 shape-the_row-CoreStmt-0 hidden-the_row-CoreExit-0 shape-the_row-CoreExit-0 hidden-the_row-Act-0 shape-the_row-Act-0 hidden boot_run boots_run values_in reading sense_and_send two_temperatures sensed read_and_sent sensed_twice
sensed_twice_undo = refl

sensed_twice_bank : plan_outcome two_temperatures Bank (15 ∷ 100 ∷ []) (30 ∷ 40 ∷ 90 ∷ []) ≡ sensed_twice
unfolding hidden-the_row-CoreExpr-0 shape-the_row-CoreExpr-0 hidden-the_row-CoreStmt-0 shape-the_row-CoreStmt-0 hidden-the_row-CoreExit-0 shape-the_row-CoreExit-0 hidden-the_row-Act-0 shape-the_row-Act-0 hidden boot_run boots_run values_in reading sense_and_send two_temperatures sensed read_and_sent sensed_twice
sensed_twice_bank = refl

sensed_twice_rules : expect two_temperatures (6 ∷ 11 ∷ []) (30 ∷ 40 ∷ 90 ∷ []) ≡ (sensed 30 ++ issues 1 0 [] 20 ∷ seals 1 ∷ []) ∷ (sensed 40 ++ read_and_sent 21 90 ++ commits 0 ∷ []) ∷ []
unfolding hidden-the_row-CoreExpr-0 shape-the_row-CoreExpr-0 hidden-the_row-CoreStmt-0 shape-the_row-CoreStmt-0 hidden-the_row-CoreExit-0 shape-the_row-CoreExit-0 hidden-the_row-Act-0 shape-the_row-Act-0 hidden boot_log boots_from values_in reading sense_and_send two_temperatures sensed read_and_sent
sensed_twice_rules = refl

-- ---- a block of SINGLE around a call of ALWAYS

two_in_a_block : Rules
two_in_a_block = programs.reading (20 ∷ 21 ∷ []) blocked

-- an attempt up to the seal of the call inside
inside : (first second value : ℕ) → List JournalEvent
inside t u v = begins 1 ∷ looks 1 t ∷ looks 2 u ∷ drops 2 ∷ issues 2 0 [] v ∷ seals 2 ∷ []

-- The power fails right behind the block's seal: the call inside keeps, although it is of ALWAYS.
block_kept : Outcome
block_kept = record {
  events = (inside 30 40 20 ++ drops 1 ∷ seals 1 ∷ []) ∷ (begins 1 ∷ looks 1 90 ∷ looks 2 100 ∷ keeps 2 20 ∷ commits 0 ∷ []) ∷ [];
  states = record { next = 0; words = (20 ∷ []) ∷ [] } ∷ [];
}

block_kept_undo : plan_outcome two_in_a_block Undo (28 ∷ 100 ∷ []) (30 ∷ 40 ∷ 90 ∷ 100 ∷ []) ≡ block_kept
unfolding hidden-the_row-CoreExpr-0 shape-the_row-CoreExpr-0 hidden-the_row-CoreStmt-0 shape-the_row-CoreStmt-0 hidden-the_row-CoreExit-0 shape-the_row-CoreExit-0 hidden-the_row-Act-0 shape-the_row-Act-0 hidden boot_run boots_run values_in reading blocked two_in_a_block inside block_kept
block_kept_undo = refl

block_kept_bank : plan_outcome two_in_a_block Bank (24 ∷ 100 ∷ []) (30 ∷ 40 ∷ 90 ∷ 100 ∷ []) ≡ block_kept
unfolding hidden-the_row-CoreExpr-0 shape-the_row-CoreExpr-0 hidden-the_row-CoreStmt-0 shape-the_row-CoreStmt-0 hidden-the_row-CoreExit-0 shape-the_row-CoreExit-0 hidden-the_row-Act-0 shape-the_row-Act-0 hidden boot_run boots_run values_in reading blocked two_in_a_block inside block_kept
block_kept_bank = refl

block_kept_rules : expect two_in_a_block (8 ∷ 5 ∷ []) (30 ∷ 40 ∷ 90 ∷ 100 ∷ []) ≡ (inside 30 40 20 ++ drops 1 ∷ seals 1 ∷ []) ∷ (begins 1 ∷ looks 1 90 ∷ looks 2 100 ∷ keeps 2 20 ∷ commits 0 ∷ []) ∷ []
unfolding hidden-the_row-CoreExpr-0 shape-the_row-CoreExpr-0 hidden-the_row-CoreStmt-0 shape-the_row-CoreStmt-0 hidden-the_row-CoreExit-0 shape-the_row-CoreExit-0 hidden-the_row-Act-0 shape-the_row-Act-0 hidden boot_log boots_from values_in reading blocked two_in_a_block inside
block_kept_rules = refl

-- It fails before the block's end: the block has no record, and the call inside decides.
block_broken_off : Outcome
block_broken_off = record {
  events = inside 30 40 20 ∷ (inside 90 100 21 ++ drops 1 ∷ seals 1 ∷ commits 0 ∷ []) ∷ [];
  states = record { next = 0; words = (21 ∷ []) ∷ [] } ∷ [];
}

block_broken_off_undo : plan_outcome two_in_a_block Undo (21 ∷ 100 ∷ []) (30 ∷ 40 ∷ 90 ∷ 100 ∷ []) ≡ block_broken_off
unfolding hidden-the_row-CoreExpr-0 shape-the_row-CoreExpr-0 hidden-the_row-CoreStmt-0 shape-the_row-CoreStmt-0 hidden-the_row-CoreExit-0 shape-the_row-CoreExit-0 hidden-the_row-Act-0 shape-the_row-Act-0 hidden boot_run boots_run values_in reading blocked two_in_a_block inside block_broken_off
block_broken_off_undo = refl

block_broken_off_bank : plan_outcome two_in_a_block Bank (17 ∷ 100 ∷ []) (30 ∷ 40 ∷ 90 ∷ 100 ∷ []) ≡ block_broken_off
unfolding hidden-the_row-CoreExpr-0 shape-the_row-CoreExpr-0 hidden-the_row-CoreStmt-0 shape-the_row-CoreStmt-0 hidden-the_row-CoreExit-0 shape-the_row-CoreExit-0 hidden-the_row-Act-0 shape-the_row-Act-0 hidden boot_run boots_run values_in reading blocked two_in_a_block inside block_broken_off
block_broken_off_bank = refl

block_broken_off_rules : expect two_in_a_block (6 ∷ 9 ∷ []) (30 ∷ 40 ∷ 90 ∷ 100 ∷ []) ≡ inside 30 40 20 ∷ (inside 90 100 21 ++ drops 1 ∷ seals 1 ∷ commits 0 ∷ []) ∷ []
unfolding hidden-the_row-CoreExpr-0 shape-the_row-CoreExpr-0 hidden-the_row-CoreStmt-0 shape-the_row-CoreStmt-0 hidden-the_row-CoreExit-0 shape-the_row-CoreExit-0 hidden-the_row-Act-0 shape-the_row-Act-0 hidden boot_log boots_from values_in reading blocked two_in_a_block inside
block_broken_off_rules = refl

-- It fails within the block's end.
block_end_broken_off : Outcome
block_end_broken_off = record {
  events = (inside 30 40 20 ++ drops 1 ∷ []) ∷ (inside 90 100 21 ++ drops 1 ∷ seals 1 ∷ commits 0 ∷ []) ∷ [];
  states = record { next = 0; words = (21 ∷ []) ∷ [] } ∷ [];
}

block_end_broken_off_undo : plan_outcome two_in_a_block Undo (27 ∷ 100 ∷ []) (30 ∷ 40 ∷ 90 ∷ 100 ∷ []) ≡ block_end_broken_off
unfolding hidden-the_row-CoreExpr-0 shape-the_row-CoreExpr-0 hidden-the_row-CoreStmt-0 shape-the_row-CoreStmt-0 hidden-the_row-CoreExit-0 shape-the_row-CoreExit-0 hidden-the_row-Act-0 shape-the_row-Act-0 hidden boot_run boots_run values_in reading blocked two_in_a_block inside block_end_broken_off
block_end_broken_off_undo = refl

block_end_broken_off_bank : plan_outcome two_in_a_block Bank (23 ∷ 100 ∷ []) (30 ∷ 40 ∷ 90 ∷ 100 ∷ []) ≡ block_end_broken_off
unfolding hidden-the_row-CoreExpr-0 shape-the_row-CoreExpr-0 hidden-the_row-CoreStmt-0 shape-the_row-CoreStmt-0 hidden-the_row-CoreExit-0 shape-the_row-CoreExit-0 hidden-the_row-Act-0 shape-the_row-Act-0 hidden boot_run boots_run values_in reading blocked two_in_a_block inside block_end_broken_off
block_end_broken_off_bank = refl

block_end_broken_off_rules : expect two_in_a_block (7 ∷ 9 ∷ []) (30 ∷ 40 ∷ 90 ∷ 100 ∷ []) ≡ (inside 30 40 20 ++ drops 1 ∷ []) ∷ (inside 90 100 21 ++ drops 1 ∷ seals 1 ∷ commits 0 ∷ []) ∷ []
unfolding hidden-the_row-CoreExpr-0 shape-the_row-CoreExpr-0 hidden-the_row-CoreStmt-0 shape-the_row-CoreStmt-0 hidden-the_row-CoreExit-0 shape-the_row-CoreExit-0 hidden-the_row-Act-0 shape-the_row-Act-0 hidden boot_log boots_from values_in reading blocked two_in_a_block inside
block_end_broken_off_rules = refl
