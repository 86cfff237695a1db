-- The small program is well formed.
use Rattle.std.proofs.Common.{◌≡◌, ℕ, zero, suc, ◌<◌, ◌≤◌, Bool, true, false, List, [], ◌∷◌, length, Some, refl, ap, sym, subst, arith}
use Rattle.std.specs.Prelude.{slice_get, sum_by}
use Rattle.std.specs.Option.{ForSome}
use Rattle.std.specs.List.{AllByRecursion}
use Rattle.op_table.specs.Places.{place_of, repeats}
use Rattle.op_table.specs.Reserved.{IsReserved, reserved_words}
use Rattle.task_ast.specs.declared.core_form.CoreExpr.TheBlock.{hidden-the_row-CoreExpr-0, shape-the_row-CoreExpr-0}
use Rattle.task_ast.specs.declared.core_form.CoreExit.TheBlock.{hidden-the_row-CoreExit-0, shape-the_row-CoreExit-0}
use Rattle.task_ast.specs.declared.core_form.CoreExpr.TheVariants as expr
use Rattle.task_ast.specs.declared.core_form.CoreTarget.TheVariants as target
use Rattle.task_ast.specs.declared.core_form.Core.{Core}
use Rattle.task_ast.specs.CoreNodes.{task_nodes}
use Rattle.task_ast.specs.NameToken.{is_name}
use Rattle.task_ast.specs.Pointing.{pointing}
use Rattle.task_ast.specs.WellFormed.{IsWellFormed, IsWritable, IsTarget, IsCoreExit, IsCoreTask, IsCoreStmt, IsDeclaredName, scope_of}
use Rattle.walk_run_tests.specs.Sample.{sample, sample_task}
use denote.Hole.Carrier.{hidden}

-- reserved words have two letters and more
long_words : AllByRecursion (λ w. 2 ≤ length w) reserved_words
unfolding reserved_words
long_words = (omega arith, (omega arith, (omega arith, (omega arith, (omega arith, (omega arith, (omega arith, (omega arith, (omega arith, (omega arith, (omega arith, (omega arith, (omega arith, (omega arith, (omega arith, (omega arith, tt))))))))))))))))

each_long : (xs : List (List ℕ)) → AllByRecursion (λ w. 2 ≤ length w) xs → (n : ℕ) (x : List ℕ) → slice_get xs n ≡ Some x → 2 ≤ length x
each_long [] all n x is = cc
each_long (y ∷ xs) all zero x is = let same : y ≡ x = cc in subst (λ w. 2 ≤ length w) same all.0
each_long (y ∷ xs) all (suc n) x is = each_long xs all.1 n x is

-- a name of one letter
short_name : (b : ℕ) → is_name (b ∷ []) ≡ true → IsDeclaredName (b ∷ [])
short_name b letter = ((letter, λ reserved. absurd (let long = each_long reserved_words long_words reserved.0 (b ∷ []) reserved.1 in omega (arith, long))), omega arith)

a_is_written : IsWritable sample.arrays [] 0
a_is_written = record { found = _; there = refl; kept = λ e. cc; still = refl }

s_is_written : IsWritable sample.arrays [] 2
s_is_written = record { found = _; there = refl; kept = λ e. cc; still = refl }

-- the reading's target, through the pointer
reading_is : ForSome (Some (target.Through 0 (expr.Number 0))) (IsTarget (scope_of sample sample_task) [])
reading_is x is = subst (IsTarget (scope_of sample sample_task) []) (some_same is) (omega arith, (a_is_written, tt), (omega arith, omega arith))
  where
    some_same : {A : Type 0} {y z : A} → Some y ≡ Some z → y ≡ z
    some_same e = cc

body_is : AllByRecursion (IsCoreStmt (scope_of sample sample_task) 1 false []) sample_task.body
unfolding hidden-the_row-CoreExpr-0 shape-the_row-CoreExpr-0 hidden
body_is = (
  (omega arith, omega arith, omega arith, (omega arith, omega arith)),
  (
    (omega arith, (s_is_written, (omega arith, omega arith)), (omega arith, ((omega arith, omega arith), (omega arith, omega arith)))),
    (
      (omega arith, reading_is, omega arith, omega arith, ((omega arith, (omega arith, omega arith)), tt)),
      ((omega arith, refl, ((omega arith, (omega arith, omega arith)), (a_is_written, tt)), (omega arith, (omega arith, omega arith)), (omega arith, omega arith)), tt),
    ),
  ),
)

exit_is : IsCoreExit (scope_of sample sample_task) 1 1 sample_task.exit
unfolding hidden-the_row-CoreExpr-0 shape-the_row-CoreExpr-0 hidden-the_row-CoreExit-0 shape-the_row-CoreExit-0 hidden
exit_is = (omega arith, (omega arith, ((omega arith, omega arith), omega arith)), (omega arith, omega arith), tt)

task_is : IsCoreTask sample sample_task
task_is = record {
  name = short_name 116 refl;
  body = body_is;
  exit = exit_is;
  sites = record { numbers = refl; standing = refl; times = (tt, (tt, tt)); few = omega arith; kept = omega arith };
}

nodes_are_few : sum_by task_nodes sample.tasks ≤ 32768
unfolding hidden-the_row-CoreExpr-0 shape-the_row-CoreExpr-0 hidden-the_row-CoreExit-0 shape-the_row-CoreExit-0 hidden
nodes_are_few = omega arith

pub sample_is_well_formed : IsWellFormed sample
unfolding repeats place_of
sample_is_well_formed = record {
  arrays = (
    (short_name 97 refl, omega arith, (omega arith, (omega arith, (omega arith, tt)))),
    (
      (short_name 107 refl, omega arith, (omega arith, tt)),
      ((short_name 115 refl, omega arith, (omega arith, tt)), tt),
    ),
  );
  pointers = (short_name 112 refl, tt);
  peripherals = ((short_name 114 refl, omega arith), tt);
  tasks = (task_is, tt);
  distinct = refl;
  numbered = refl;
  some = omega arith;
  few_tasks = omega arith;
  few_names = omega arith;
  fram = omega arith;
  ram = omega arith;
  nodes = nodes_are_few;
}

pub is_well_formed : (c : Core) → c ≡ sample → IsWellFormed c
is_well_formed c is = subst IsWellFormed (sym is) sample_is_well_formed
