-- Runs and values worked out by hand, computed.
use Rattle.std.proofs.Common.{◌≡◌, ℕ, List, [], ◌∷◌, ◌++◌, map, Ok, Err, refl}
use Rattle.std.specs.Prelude.{codes}
use Rattle.std.specs.Fmt.{digits}
use Rattle.ease_base.specs.Lines.{line}
use Rattle.task_ast.specs.declared.tree.Op1.TheVariants.{Not, Inv, Neg}
use Rattle.task_ast.specs.declared.tree.Op2.TheVariants.{Add, Sub, Mul, Div, Rem, And, Shl, Shr, Eq, Ne, Lt, Le, Gt, Ge, Both, Either}
use Rattle.task_ast.specs.declared.core_form.CoreExpr.TheVariants.{Number, Two}
use Rattle.task_ast.specs.declared.core_form.CoreExpr.TheBlock.{hidden-the_row-CoreExpr-0, shape-the_row-CoreExpr-0}
use Rattle.task_ast.specs.declared.core_form.CoreEnd.TheVariants.{Pointer}
use Rattle.task_ast.specs.declared.core_form.CoreStmt.TheBlock.{hidden-the_row-CoreStmt-0, shape-the_row-CoreStmt-0}
use Rattle.task_ast.specs.declared.core_form.CoreExit.TheBlock.{hidden-the_row-CoreExit-0, shape-the_row-CoreExit-0}
use Rattle.task_ast.specs.declared.core_form.Core.{Core}
use Rattle.walk_run.specs.declared.trap.Trap.TheVariants.{Index, Divisor}
use Rattle.walk_run.specs.Store.{Store}
use Rattle.walk_run.specs.Operators.{one_word, two_words, two_values}
use Rattle.walk_run.specs.Plain.{trapped, turns_done, done}
use Rattle.walk_run.specs.Walk.{walk_from, walk_of}
use Rattle.walk_run.specs.WalkText.{array_line, state_text, text_of}
use Rattle.walk_run.proofs.Programs.{at, read, wrapping, handing_over, indexing, turning, choosing, through, through_nothing, pointing_once, copying, reading, blocked}
use denote.Hole.Carrier.{hidden}

-- the text of a run that is fed these readings
text_with : List ℕ → Core → ℕ → List ℕ
text_with readings c tasks = text_of c (walk_of c readings tasks)

text_after : Core → ℕ → List ℕ
text_after c tasks = text_with [] c tasks

a_sum_wraps : text_after wrapping 5 ≡ line (codes "commit 0") ++ line (codes "x = 0") ++ line (codes "end stopped")
unfolding hidden-the_row-CoreExpr-0 shape-the_row-CoreExpr-0 hidden digits text_after text_with wrapping text_of walk_of walk_from state_text array_line
a_sum_wraps = refl

tasks_hand_over_until_the_limit : text_after handing_over 3
    ≡ line (codes "commit 2") ++ line (codes "n = 3") ++ line (codes "m = 13")
    ++ line (codes "commit 1") ++ line (codes "n = 17") ++ line (codes "m = 13")
    ++ line (codes "commit 2") ++ line (codes "n = 17") ++ line (codes "m = 30") ++ line (codes "end limit")
unfolding hidden-the_row-CoreExpr-0 shape-the_row-CoreExpr-0 hidden digits text_after text_with handing_over text_of walk_of walk_from state_text array_line
tasks_hand_over_until_the_limit = refl

an_index_that_is_too_great_traps : text_after indexing 5
    ≡ line (codes "commit 2") ++ line (codes "a = 1 2") ++ line (codes "i = 2") ++ line (codes "end trapped 1")
unfolding hidden-the_row-CoreExpr-0 shape-the_row-CoreExpr-0 hidden digits text_after text_with indexing text_of walk_of walk_from state_text array_line
an_index_that_is_too_great_traps = refl

a_limit_comes_before_the_trap : text_after indexing 1
    ≡ line (codes "commit 2") ++ line (codes "a = 1 2") ++ line (codes "i = 2") ++ line (codes "end limit")
unfolding hidden-the_row-CoreExpr-0 shape-the_row-CoreExpr-0 hidden digits text_after text_with indexing text_of walk_of walk_from state_text array_line
a_limit_comes_before_the_trap = refl

a_loop_turns_and_volatile_words_are_fresh_in_each_task : text_after turning 9
    ≡ line (codes "commit 1") ++ line (codes "n = 5") ++ line (codes "s = 3")
    ++ line (codes "commit 0") ++ line (codes "n = 10") ++ line (codes "s = 6") ++ line (codes "end stopped")
unfolding hidden-the_row-CoreExpr-0 shape-the_row-CoreExpr-0 hidden-the_row-CoreStmt-0 shape-the_row-CoreStmt-0 hidden-the_row-CoreExit-0 shape-the_row-CoreExit-0 hidden digits text_after text_with turning text_of walk_of walk_from state_text array_line
a_loop_turns_and_volatile_words_are_fresh_in_each_task = refl

a_branch_that_is_not_taken_does_not_trap : text_after choosing 2
    ≡ line (codes "commit 1") ++ line (codes "n = 4") ++ line (codes "end trapped 2")
unfolding hidden-the_row-CoreExpr-0 shape-the_row-CoreExpr-0 hidden-the_row-CoreStmt-0 shape-the_row-CoreStmt-0 hidden digits text_after text_with choosing text_of walk_of walk_from state_text array_line
a_branch_that_is_not_taken_does_not_trap = refl

one_scalar : Store
one_scalar = record { words = (7 ∷ []) ∷ []; pointers = [] }

a_loop_without_turns_sets_its_variable_to_0 : turns_done (λ s. trapped Index s) 0 0 0 one_scalar ≡ done (record one_scalar { words = (0 ∷ []) ∷ [] })
unfolding one_scalar
a_loop_without_turns_sets_its_variable_to_0 = refl

no_task_is_asked_for : text_after handing_over 0 ≡ line (codes "end limit")
unfolding text_after text_with handing_over text_of walk_of walk_from
no_task_is_asked_for = refl

-- An index through a pointer is added to the place pointed to, and must be below the array's length.
places_through_a_pointer : map (λ i. text_after (through i) 5) (1 ∷ 2 ∷ 4294967295 ∷ [])
    ≡ (line (codes "commit 0") ++ line (codes "a = 1 9 3") ++ line (codes "s = 3") ++ line (codes "end stopped"))
    ∷ line (codes "end trapped 1") ∷ line (codes "end trapped 1") ∷ []
unfolding hidden-the_row-CoreExpr-0 shape-the_row-CoreExpr-0 hidden digits text_after text_with through text_of walk_of walk_from state_text array_line
places_through_a_pointer = refl

-- the index is valued first, then the pointer is tested
an_unset_pointer_traps : map (λ e. text_after (through_nothing e) 5) (Number 1 ∷ Two Div (Number 1) (Number 0) ∷ Number 4294967295 ∷ [])
    ≡ line (codes "end trapped 3") ∷ line (codes "end trapped 2") ∷ line (codes "end trapped 3") ∷ []
unfolding hidden-the_row-CoreExpr-0 shape-the_row-CoreExpr-0 hidden digits text_after text_with through_nothing text_of walk_of walk_from state_text array_line
an_unset_pointer_traps = refl

pointers_point_to_nothing_in_each_task : text_after pointing_once 5
    ≡ line (codes "commit 2") ++ line (codes "s = 1") ++ line (codes "a = 7 8") ++ line (codes "end trapped 3")
unfolding hidden-the_row-CoreExpr-0 shape-the_row-CoreExpr-0 hidden digits text_after text_with pointing_once text_of walk_of walk_from state_text array_line
pointers_point_to_nothing_in_each_task = refl

-- Overlapping copies move the lowest place first.
words_are_moved_lowest_place_first : text_after (copying (at 0 1) (at 0 0) (Number 5)) 1 ∷ text_after (copying (at 0 0) (at 0 1) (Number 5)) 1 ∷ []
    ≡ (line (codes "commit 0") ++ line (codes "a = 1 1 1 1 1 1") ++ line (codes "b = 7 8") ++ line (codes "end stopped"))
    ∷ (line (codes "commit 0") ++ line (codes "a = 2 3 4 5 6 6") ++ line (codes "b = 7 8") ++ line (codes "end stopped")) ∷ []
unfolding hidden-the_row-CoreExpr-0 shape-the_row-CoreExpr-0 hidden digits text_after text_with copying text_of walk_of walk_from state_text array_line
words_are_moved_lowest_place_first = refl

-- A copy finds its destination, then its source, then values its length, and then tests both ranges.
a_copy_traps_in_its_order :
    text_after (copying (at 0 6) (Pointer 0) (Number 1)) 1 ∷ text_after (copying (Pointer 0) (at 0 6) (Number 1)) 1
    ∷ text_after (copying (at 0 0) (at 1 2) (Two Div (Number 1) (Number 0))) 1 ∷ text_after (copying (at 0 0) (Pointer 0) (Two Div (Number 1) (Number 0))) 1
    ∷ text_after (copying (at 0 5) (at 1 0) (Two Div (Number 2) (Number 0))) 1
    ∷ text_after (copying (at 0 5) (at 1 0) (Number 2)) 1 ∷ text_after (copying (at 0 0) (at 1 1) (Number 2)) 1
    ∷ text_after (copying (at 0 0) (at 0 0) (Number 7)) 1 ∷ []
    ≡ line (codes "end trapped 1") ∷ line (codes "end trapped 3") ∷ line (codes "end trapped 1") ∷ line (codes "end trapped 3")
    ∷ line (codes "end trapped 2") ∷ line (codes "end trapped 4") ∷ line (codes "end trapped 4") ∷ line (codes "end trapped 4") ∷ []
unfolding hidden-the_row-CoreExpr-0 shape-the_row-CoreExpr-0 hidden digits text_after text_with copying text_of walk_of walk_from state_text array_line
a_copy_traps_in_its_order = refl

a_copy_of_no_words_moves_nothing : text_after (copying (at 0 5) (at 1 1) (Number 0)) 1
    ≡ line (codes "commit 0") ++ line (codes "a = 1 2 3 4 5 6") ++ line (codes "b = 7 8") ++ line (codes "end stopped")
unfolding hidden-the_row-CoreExpr-0 shape-the_row-CoreExpr-0 hidden digits text_after text_with copying text_of walk_of walk_from state_text array_line
a_copy_of_no_words_moves_nothing = refl

a_call_takes_a_reading_if_one_is_left : text_with (1 ∷ []) reading 5 ∷ text_after reading 5 ∷ []
    ≡ (line (codes "commit 0") ++ line (codes "n = 8") ++ line (codes "end stopped")) ∷ line (codes "end reading") ∷ []
unfolding hidden-the_row-CoreExpr-0 shape-the_row-CoreExpr-0 hidden digits text_after text_with reading text_of walk_of walk_from state_text array_line
a_call_takes_a_reading_if_one_is_left = refl

-- Readings go to calls in order; arguments are valued before a reading is taken, and no reading is used twice.
readings_are_taken_in_order : text_with (4 ∷ 5 ∷ 6 ∷ []) (blocked (Number 1)) 9 ∷ text_with (4 ∷ []) (blocked (Two Rem (Number 1) (read 0))) 9 ∷ []
    ≡ (line (codes "commit 1") ++ line (codes "n = 5") ++ line (codes "end reading")) ∷ line (codes "end trapped 2") ∷ []
unfolding hidden-the_row-CoreExpr-0 shape-the_row-CoreExpr-0 hidden-the_row-CoreStmt-0 shape-the_row-CoreStmt-0 hidden digits text_after text_with blocked text_of walk_of walk_from state_text array_line
readings_are_taken_in_order = refl

operators_at_their_edges :
    (two_words Sub 0 1 ∷ two_words Mul 65537 65536 ∷ two_words Shl 3 31 ∷ two_words Shl 1 32 ∷ two_words Shr 2147483648 31 ∷ two_words Shr 1 32 ∷ [])
    ++ (two_words Div 7 2 ∷ two_words Rem 7 2 ∷ two_words Div 7 0 ∷ two_words Rem 7 0 ∷ [])
    ++ (two_words Eq 2 2 ∷ two_words Ne 2 2 ∷ two_words Lt 2 2 ∷ two_words Le 2 2 ∷ two_words Gt 3 2 ∷ two_words Ge 2 3 ∷ [])
    ≡ (Ok 4294967295 ∷ Ok 65536 ∷ Ok 2147483648 ∷ Ok 0 ∷ Ok 1 ∷ Ok 0 ∷ [])
    ++ (Ok 3 ∷ Ok 1 ∷ Err Divisor ∷ Err Divisor ∷ [])
    ++ (Ok 1 ∷ Ok 0 ∷ Ok 0 ∷ Ok 1 ∷ Ok 1 ∷ Ok 0 ∷ [])
operators_at_their_edges = refl

prefixes_at_their_edges : map (one_word Not) (0 ∷ 5 ∷ []) ++ map (one_word Inv) (0 ∷ 4294967295 ∷ []) ++ map (one_word Neg) (0 ∷ 1 ∷ [])
    ≡ 1 ∷ 0 ∷ 4294967295 ∷ 0 ∷ 0 ∷ 4294967295 ∷ []
prefixes_at_their_edges = refl

a_left_side_that_decides_hides_a_trap :
    two_values Both (Ok 0) (Err Divisor) ∷ two_values Either (Ok 3) (Err Divisor) ∷ two_values Both (Ok 1) (Err Divisor)
    ∷ two_values And (Ok 0) (Err Divisor) ∷ two_values Add (Err Index) (Err Divisor) ∷ []
    ≡ Ok 0 ∷ Ok 1 ∷ Err Divisor ∷ Err Divisor ∷ Err Index ∷ []
a_left_side_that_decides_hides_a_trap = refl
