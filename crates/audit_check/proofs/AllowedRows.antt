-- Journals that are allowed, and the first line of changed ones that isn't.
use Rattle.std.proofs.Common.{◌≡◌, ℕ, List, [], ◌∷◌, Some, codes, refl, arith}
use Rattle.std.proofs.lemmas.Bool.{false≢true}
use Rattle.task_ast.specs.declared.tree.Kind.TheVariants.{Nv, Vol}
use Rattle.task_ast.specs.declared.tree.Ann.TheVariants.{Single}
use Rattle.task_ast.specs.declared.tree.Op2.TheVariants.{Add}
use Rattle.task_ast.specs.declared.core_form.CoreExpr.TheBlock.{hidden-the_row-CoreExpr-0, shape-the_row-CoreExpr-0}
use Rattle.task_ast.specs.declared.core_form.CoreExpr.TheVariants.{Number, Cell, Two}
use Rattle.task_ast.specs.declared.core_form.CoreTarget.TheVariants as target
use Rattle.task_ast.specs.declared.core_form.CoreStmt.TheVariants.{Assign, Io}
use Rattle.task_ast.specs.declared.core_form.CoreExit.TheVariants.{Stop}
use Rattle.task_ast.specs.declared.core_form.Site.TheVariants as site
use Rattle.task_ast.specs.declared.core_form.Core.{Core}
use Rattle.devices.specs.declared.world.World.{World}
use Rattle.devices.specs.declared.world.PowerRow.{PowerRow}
use Rattle.devices.specs.Reading.{reading, values_in}
use Rattle.devices.specs.Journal.{JournalEvent, Boot, begins, looks, keeps, drops, issues, seals, commits}
use Rattle.task_attempts.specs.Boots.{boot_log, boots_from, expect, rules_of}
use Rattle.task_attempts.specs.Journals.{all_events, cuts_of, looks_of}
use Rattle.task_attempts.specs.Sound.{IsLegal}
use Rattle.audit_check.specs.Journal.{journal_of}
use Rattle.audit_check.specs.Lines.{front}
use Rattle.audit_check.specs.Allowed.{IsAllowed}
use denote.Hole.Carrier.{hidden}

-- peripheral radio 0; nv word n = 7; word v; task a { v = IO(radio, SINGLE, n); n = n + v; STOP; }
unfoldable program : Core
program = record {
  arrays = record { name = codes "n"; kind = Nv; first = 7 ∷ [] } ∷ record { name = codes "v"; kind = Vol; first = 0 ∷ [] } ∷ [];
  pointers = [];
  peripherals = record { name = codes "radio"; number = 0 } ∷ [];
  tasks =
      record {
        name = codes "a";
        body =
            Io 1 (Some (target.Cell 1 (Number 0))) 0 (Cell 0 (Number 0) ∷ [])
            ∷ Assign (target.Cell 0 (Number 0)) (Two Add (Cell 0 (Number 0)) (Cell 1 (Number 0))) ∷ [];
        exit = Stop;
        sites = site.Io Single ∷ [];
      }
      ∷ [];
}

-- the radio answers 1; the power lasts so long
abbrev world : List PowerRow → World
world rows = record { power = rows; feeds = record { number = 0; values = 1 ∷ [] } ∷ []; retained = [] }

abbrev row : ℕ → PowerRow
row on = record { on = on; off = 0; fill = 0 }

abbrev boot : ℕ → List (ℕ × JournalEvent) → Boot
boot at events = record { begun_at = at; events = events }

-- one boot, and some changes of it
unfoldable one_boot : List Boot
one_boot = boot 0 ((1, begins 1) ∷ (2, looks 1 1) ∷ (3, drops 1) ∷ (4, issues 1 0 (7 ∷ []) 1) ∷ (5, seals 1) ∷ (6, commits 0) ∷ []) ∷ []

unfoldable another_reading : List Boot
another_reading = boot 0 ((1, begins 1) ∷ (2, looks 1 1) ∷ (3, drops 1) ∷ (4, issues 1 0 (7 ∷ []) 2) ∷ (5, seals 1) ∷ (6, commits 0) ∷ []) ∷ []

unfoldable another_time : List Boot
another_time = boot 0 ((1, begins 1) ∷ (2, looks 1 2) ∷ (3, drops 1) ∷ (4, issues 1 0 (7 ∷ []) 1) ∷ (5, seals 1) ∷ (6, commits 0) ∷ []) ∷ []

unfoldable no_drop : List Boot
no_drop = boot 0 ((1, begins 1) ∷ (2, looks 1 1) ∷ (4, issues 1 0 (7 ∷ []) 1) ∷ (5, seals 1) ∷ (6, commits 0) ∷ []) ∷ []

-- two boots, where the second keeps; and one where it drops
unfoldable two_boots : List Boot
two_boots =
    boot 0 ((1, begins 1) ∷ (2, looks 1 1) ∷ (3, drops 1) ∷ (4, issues 1 0 (7 ∷ []) 1) ∷ (5, seals 1) ∷ [])
    ∷ boot 5 ((6, begins 1) ∷ (7, looks 1 6) ∷ (8, keeps 1 1) ∷ (9, commits 0) ∷ []) ∷ []

unfoldable drops_again : List Boot
drops_again =
    boot 0 ((1, begins 1) ∷ (2, looks 1 1) ∷ (3, drops 1) ∷ (4, issues 1 0 (7 ∷ []) 1) ∷ (5, seals 1) ∷ [])
    ∷ boot 5 ((6, begins 1) ∷ (7, looks 1 6) ∷ (8, drops 1) ∷ (9, commits 0) ∷ []) ∷ []

-- ---- allowed

it_is_allowed : IsAllowed program (world (row 100 ∷ [])) one_boot
unfolding hidden-the_row-CoreExpr-0 shape-the_row-CoreExpr-0 hidden boot_log boots_from values_in reading program one_boot
it_is_allowed = record {
  legal = record { expected = refl; timed = ((tt, (refl, (tt, (tt, (tt, (tt, tt)))))), tt) };
  steps = (
    refl,
    (
      omega arith,
      omega arith,
      (λ trap. absurd (false≢true trap)),
      (
        omega arith,
        omega arith,
        (λ trap. absurd (false≢true trap)),
        (
          omega arith,
          omega arith,
          (λ trap. absurd (false≢true trap)),
          (
            omega arith,
            omega arith,
            (λ trap. absurd (false≢true trap)),
            (omega arith, omega arith, (λ trap. absurd (false≢true trap)), (omega arith, omega arith, (λ trap. refl), tt)),
          ),
        ),
      ),
    ),
    (λ trap. refl),
    tt,
  );
}

two_are_legal : IsLegal (rules_of program (world (row 5 ∷ row 100 ∷ []))) (journal_of two_boots)
unfolding hidden-the_row-CoreExpr-0 shape-the_row-CoreExpr-0 hidden boot_log boots_from values_in reading program two_boots
two_are_legal = record { expected = refl; timed = ((tt, (refl, (tt, (tt, (tt, tt))))), ((tt, (refl, (tt, (tt, tt)))), tt)) }

-- ---- not allowed from a line on: what the rules give there, and what stands there

-- the first so many lines of boots, and what the rules give for them
abbrev told : ℕ → List Boot → List (List JournalEvent)
told n boots = all_events (journal_of (front n boots))

abbrev given : ℕ → List Boot → List (List JournalEvent)
given n boots = let j = journal_of (front n boots) in expect (rules_of program (world (row 5 ∷ row 100 ∷ []))) (cuts_of j) (looks_of j)

reading_before : told 4 another_reading ≡ given 4 another_reading
unfolding hidden-the_row-CoreExpr-0 shape-the_row-CoreExpr-0 hidden boot_log boots_from values_in reading program another_reading
reading_before = refl

reading_at : given 5 another_reading ≡ (begins 1 ∷ looks 1 1 ∷ drops 1 ∷ issues 1 0 (7 ∷ []) 1 ∷ []) ∷ []
unfolding hidden-the_row-CoreExpr-0 shape-the_row-CoreExpr-0 hidden boot_log boots_from values_in reading program another_reading
reading_at = refl

-- a look that shows another time goes with the rules' events; only its time is wrong
time_before : told 6 another_time ≡ given 6 another_time
unfolding hidden-the_row-CoreExpr-0 shape-the_row-CoreExpr-0 hidden boot_log boots_from values_in reading program another_time
time_before = refl

drop_before : told 3 no_drop ≡ given 3 no_drop
unfolding hidden-the_row-CoreExpr-0 shape-the_row-CoreExpr-0 hidden boot_log boots_from values_in reading program no_drop
drop_before = refl

drop_at : given 4 no_drop ≡ (begins 1 ∷ looks 1 1 ∷ drops 1 ∷ []) ∷ []
unfolding hidden-the_row-CoreExpr-0 shape-the_row-CoreExpr-0 hidden boot_log boots_from values_in reading program no_drop
drop_at = refl

again_before : told 9 drops_again ≡ given 9 drops_again
unfolding hidden-the_row-CoreExpr-0 shape-the_row-CoreExpr-0 hidden boot_log boots_from values_in reading program drops_again
again_before = refl

again_at : given 10 drops_again ≡ (begins 1 ∷ looks 1 1 ∷ drops 1 ∷ issues 1 0 (7 ∷ []) 1 ∷ seals 1 ∷ []) ∷ (begins 1 ∷ looks 1 6 ∷ keeps 1 1 ∷ []) ∷ []
unfolding hidden-the_row-CoreExpr-0 shape-the_row-CoreExpr-0 hidden boot_log boots_from values_in reading program drops_again
again_at = refl
