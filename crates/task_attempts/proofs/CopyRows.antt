-- What programs with copies show over failures, and leave, computed.
use Rattle.std.proofs.Common.{◌≡◌, ℕ, List, [], ◌∷◌, map, refl}
use Rattle.task_ast.specs.declared.core_form.CoreExpr.TheBlock.{hidden-the_row-CoreExpr-0, shape-the_row-CoreExpr-0}
use Rattle.task_ast.specs.declared.core_form.CoreStmt.TheBlock.{hidden-the_row-CoreStmt-0, shape-the_row-CoreStmt-0}
use Rattle.task_ast.specs.declared.core_form.CoreExit.TheBlock.{hidden-the_row-CoreExit-0, shape-the_row-CoreExit-0}
use Rattle.task_ast.specs.declared.core_form.Core.{Core}
use Rattle.devices.specs.Journal.{begins, cell, keep, keeps, seals, copies, commits, traps}
use Rattle.task_attempts.specs.State.{start}
use Rattle.task_attempts.specs.Boots.{boot_log, boots_from, left_by, expect}
use Rattle.task_attempts.proofs.Programs as programs
use Rattle.task_attempts.proofs.Programs.{shifting, pointing, filling, pointing_nowhere}
use denote.Hole.Carrier.{hidden}

-- the words that are committed after a boot of so many events and then an unbroken one
words_after : Core → (cut : ℕ) → List (List ℕ)
words_after c cut = let rules = programs.reading [] [] c in (left_by rules 9 (left_by rules cut (start c []))).committed.words

-- A copy over itself moves its lowest word first, so one place further up it smears the first word.
a_copy_upwards_smears : words_after (shifting 1 0) 0 ≡ (1 ∷ 1 ∷ 1 ∷ 1 ∷ 1 ∷ 1 ∷ []) ∷ []
unfolding hidden-the_row-CoreExpr-0 shape-the_row-CoreExpr-0 hidden boot_log shifting words_after
a_copy_upwards_smears = refl

-- One place further down it moves all, wherever the first boot fails.
a_copy_downwards_moves_all : map (words_after (shifting 0 1)) (0 ∷ 1 ∷ 2 ∷ 3 ∷ 4 ∷ []) ≡
    let moved = (2 ∷ 3 ∷ 4 ∷ 5 ∷ 6 ∷ 6 ∷ []) ∷ [] in moved ∷ moved ∷ moved ∷ moved ∷ moved ∷ []
unfolding hidden-the_row-CoreExpr-0 shape-the_row-CoreExpr-0 hidden boot_log shifting words_after
a_copy_downwards_moves_all = refl

a_copy_is_sealed : expect (programs.reading [] [] (shifting 0 1)) (4 ∷ []) [] ≡ (begins 1 ∷ copies 1 (cell 0 1) (cell 0 0) 5 ∷ seals 1 ∷ commits 0 ∷ []) ∷ []
unfolding hidden-the_row-CoreExpr-0 shape-the_row-CoreExpr-0 hidden boot_log boots_from shifting
a_copy_is_sealed = refl

-- A failure right behind its seal: the kept words are put back.
a_sealed_copy_is_kept : expect (programs.reading [] [] (shifting 0 1)) (3 ∷ 3 ∷ []) [] ≡
    (begins 1 ∷ copies 1 (cell 0 1) (cell 0 0) 5 ∷ seals 1 ∷ []) ∷ (begins 1 ∷ keeps 1 5 ∷ commits 0 ∷ []) ∷ []
unfolding hidden-the_row-CoreExpr-0 shape-the_row-CoreExpr-0 hidden boot_log boots_from shifting
a_sealed_copy_is_kept = refl

-- The class goes by where the pointer points in the attempt: first into RAM, then into FRAM.
a_pointer_decides_the_class : expect (programs.reading [] [] pointing) (9 ∷ []) [] ≡
    (begins 1 ∷ copies 1 (cell 1 0) keep 2 ∷ seals 1 ∷ copies 1 keep (cell 3 0) 2 ∷ commits 1
    ∷ begins 1 ∷ copies 1 (cell 1 0) (cell 2 0) 2 ∷ seals 1 ∷ commits 0 ∷ []) ∷ []
unfolding hidden-the_row-CoreExpr-0 shape-the_row-CoreExpr-0 hidden-the_row-CoreStmt-0 shape-the_row-CoreStmt-0 hidden-the_row-CoreExit-0 shape-the_row-CoreExit-0 hidden boot_log boots_from pointing
a_pointer_decides_the_class = refl

-- Behind a failure each follows its record: into RAM a transfer of the kept words, into FRAM a kept copy.
a_record_decides_the_class : expect (programs.reading [] [] pointing) (3 ∷ 6 ∷ 3 ∷ []) [] ≡
    (begins 1 ∷ copies 1 (cell 1 0) keep 2 ∷ seals 1 ∷ [])
    ∷ (begins 1 ∷ copies 1 keep (cell 3 0) 2 ∷ commits 1 ∷ begins 1 ∷ copies 1 (cell 1 0) (cell 2 0) 2 ∷ seals 1 ∷ [])
    ∷ (begins 1 ∷ keeps 1 2 ∷ commits 0 ∷ [])
    ∷ []
unfolding hidden-the_row-CoreExpr-0 shape-the_row-CoreExpr-0 hidden-the_row-CoreStmt-0 shape-the_row-CoreStmt-0 hidden-the_row-CoreExit-0 shape-the_row-CoreExit-0 hidden boot_log boots_from pointing
a_record_decides_the_class = refl

-- A whole array, no word, and one word too many.
lengths_at_their_edges : map (λ n. expect (programs.reading [] [] (filling n)) (4 ∷ []) []) (2048 ∷ 0 ∷ 2049 ∷ []) ≡
    ((begins 1 ∷ copies 1 (cell 1 0) (cell 0 0) 2048 ∷ seals 1 ∷ commits 0 ∷ []) ∷ [])
    ∷ ((begins 1 ∷ copies 1 (cell 1 0) (cell 0 0) 0 ∷ seals 1 ∷ commits 0 ∷ []) ∷ [])
    ∷ ((begins 1 ∷ traps 4 ∷ []) ∷ []) ∷ []
unfolding hidden-the_row-CoreExpr-0 shape-the_row-CoreExpr-0 hidden boot_log boots_from filling
lengths_at_their_edges = refl

a_pointer_that_was_never_set_traps : expect (programs.reading [] [] pointing_nowhere) (4 ∷ []) [] ≡ (begins 1 ∷ traps 3 ∷ []) ∷ []
unfolding hidden-the_row-CoreExpr-0 shape-the_row-CoreExpr-0 hidden boot_log boots_from pointing_nowhere
a_pointer_that_was_never_set_traps = refl
