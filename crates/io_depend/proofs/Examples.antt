-- Which sites depend on which, worked out by hand, computed.
use Rattle.std.proofs.Common.{◌≡◌, ℕ, List, [], ◌∷◌, map, refl}
use Rattle.task_ast.specs.declared.core_form.CoreExpr.TheBlock.{hidden-the_row-CoreExpr-0, shape-the_row-CoreExpr-0}
use Rattle.task_ast.specs.declared.core_form.CoreStmt.TheBlock.{hidden-the_row-CoreStmt-0, shape-the_row-CoreStmt-0}
use Rattle.task_ast.specs.declared.core_form.CoreTask.{CoreTask}
use Rattle.io_depend.specs.Depend.{dependents}
use Rattle.io_depend.proofs.Tasks.{sense_and_send, sense_send_and_log, two_in_a_block, eight_samples, a_condition, set_under_a_condition, around_a_loop, blocks, through_a_copy, a_copied_length, written_through, pointed_by_a_reading}
use denote.Hole.Carrier.{hidden}

-- the dependents of each of these sites
of_each : CoreTask → List ℕ → List (List ℕ)
of_each t sites = map (dependents t) sites

a_send_depends_on_what_it_sends : of_each sense_and_send (1 ∷ 2 ∷ []) ≡ (2 ∷ []) ∷ [] ∷ []
unfolding hidden-the_row-CoreExpr-0 shape-the_row-CoreExpr-0 hidden of_each sense_and_send
a_send_depends_on_what_it_sends = refl

a_send_and_a_log : of_each sense_send_and_log (1 ∷ 2 ∷ 3 ∷ []) ≡ (2 ∷ 3 ∷ []) ∷ [] ∷ [] ∷ []
unfolding hidden-the_row-CoreExpr-0 shape-the_row-CoreExpr-0 hidden of_each sense_send_and_log
a_send_and_a_log = refl

readings_in_a_block_depend_on_nothing : of_each two_in_a_block (2 ∷ 3 ∷ []) ≡ [] ∷ [] ∷ []
unfolding hidden-the_row-CoreExpr-0 shape-the_row-CoreExpr-0 hidden-the_row-CoreStmt-0 shape-the_row-CoreStmt-0 hidden of_each two_in_a_block
readings_in_a_block_depend_on_nothing = refl

-- the copy of eight readings depends on each of them
a_copy_depends_on_all_that_it_copies : of_each eight_samples (1 ∷ 2 ∷ 3 ∷ 4 ∷ 5 ∷ 6 ∷ 7 ∷ 8 ∷ [])
    ≡ (9 ∷ []) ∷ (9 ∷ []) ∷ (9 ∷ []) ∷ (9 ∷ []) ∷ (9 ∷ []) ∷ (9 ∷ []) ∷ (9 ∷ []) ∷ (9 ∷ []) ∷ []
unfolding hidden-the_row-CoreExpr-0 shape-the_row-CoreExpr-0 hidden of_each eight_samples
a_copy_depends_on_all_that_it_copies = refl

a_condition_reaches_both_branches_and_not_what_follows : of_each a_condition (1 ∷ []) ≡ (2 ∷ 3 ∷ []) ∷ []
unfolding hidden-the_row-CoreExpr-0 shape-the_row-CoreExpr-0 hidden-the_row-CoreStmt-0 shape-the_row-CoreStmt-0 hidden of_each a_condition
a_condition_reaches_both_branches_and_not_what_follows = refl

what_is_set_under_a_condition_carries_it : of_each set_under_a_condition (1 ∷ []) ≡ (2 ∷ []) ∷ []
unfolding hidden-the_row-CoreExpr-0 shape-the_row-CoreExpr-0 hidden-the_row-CoreStmt-0 shape-the_row-CoreStmt-0 hidden of_each set_under_a_condition
what_is_set_under_a_condition_carries_it = refl

-- what the end of a loop's body sets reaches its front; its variable takes it too
a_loop_carries_from_its_end_to_its_front : of_each around_a_loop (1 ∷ []) ≡ (2 ∷ 3 ∷ []) ∷ []
unfolding hidden-the_row-CoreExpr-0 shape-the_row-CoreExpr-0 hidden-the_row-CoreStmt-0 shape-the_row-CoreStmt-0 hidden of_each around_a_loop
a_loop_carries_from_its_end_to_its_front = refl

-- the block 2 depends on site 1, as its member 3 does, and not on its members
a_block_depends_by_its_members_and_not_on_them : of_each blocks (1 ∷ 3 ∷ 4 ∷ []) ≡ (2 ∷ 3 ∷ []) ∷ (4 ∷ []) ∷ [] ∷ []
unfolding hidden-the_row-CoreExpr-0 shape-the_row-CoreExpr-0 hidden-the_row-CoreStmt-0 shape-the_row-CoreStmt-0 hidden of_each blocks
a_block_depends_by_its_members_and_not_on_them = refl

a_copy_through_a_pointer_depends_on_where_it_points : of_each through_a_copy (1 ∷ []) ≡ (2 ∷ 3 ∷ []) ∷ []
unfolding hidden-the_row-CoreExpr-0 shape-the_row-CoreExpr-0 hidden of_each through_a_copy
a_copy_through_a_pointer_depends_on_where_it_points = refl

a_copy_depends_on_its_length : of_each a_copied_length (1 ∷ []) ≡ (2 ∷ 3 ∷ []) ∷ []
unfolding hidden-the_row-CoreExpr-0 shape-the_row-CoreExpr-0 hidden of_each a_copied_length
a_copy_depends_on_its_length = refl

what_is_written_through_a_pointer_is_read_so_and_by_name : of_each written_through (1 ∷ []) ≡ (2 ∷ 3 ∷ []) ∷ []
unfolding hidden-the_row-CoreExpr-0 shape-the_row-CoreExpr-0 hidden of_each written_through
what_is_written_through_a_pointer_is_read_so_and_by_name = refl

-- a pointer's own set is read with `p[e]`, and flows into what is written through it
a_pointer_s_own_set_counts : of_each pointed_by_a_reading (1 ∷ []) ≡ (2 ∷ 4 ∷ []) ∷ []
unfolding hidden-the_row-CoreExpr-0 shape-the_row-CoreExpr-0 hidden of_each pointed_by_a_reading
a_pointer_s_own_set_counts = refl
