-- The parts of a check make the check of the program.
use Rattle.std.proofs.Common.{◌≡◌, ℕ, List, [], length, map, Some, sym, ap, ◌∙◌}
use Rattle.std.specs.List.{flat_map}
use Rattle.ease_base.specs.declared.place.Peripheral.{Peripheral}
use Rattle.task_ast.specs.declared.tree.Decl.{Decl}
use Rattle.task_ast.specs.declared.tree.Task.{Task}
use Rattle.task_ast.specs.declared.tree.Program.{Program}
use Rattle.task_ast.specs.declared.core_form.Array.{Array}
use Rattle.task_ast.specs.declared.core_form.CoreTask.{CoreTask}
use Rattle.task_check.specs.declared.error.CheckError.{CheckError}
use Rattle.task_check.specs.Names.{Meanings, look_up, extended, decl_text, none_yet, declared_words, declared_tasks, names_of}
use Rattle.task_check.specs.Faults.{decls_faults, tasks_faults, faults, first, first_fault, Accepted}
use Rattle.task_check.specs.Counted.{tasks_at}
use Rattle.task_check.specs.CheckedForm.{core_arrays, core_pointers, core_peripherals, arrays_of, core_task, core_of}
use Rattle.task_check.proofs.FirstLemmas.{first-front, first-behind, none-append}
use Rattle.task_check.proofs.NameLemmas.{look_up-extended}
use Rattle.task_check.proofs.BearerLemmas.{task_faults_are}

-- the table of declarations, extended by the tasks, has the names of the program
pub table_is : (p : Program) (ds : List Decl) (ts : List Task) (words all : Meanings) → ds ≡ p.decls → ts ≡ p.tasks
    → words ≡ look_up (declared_words none_yet ds) → all ≡ extended words (declared_tasks 1 ts) → all ≡ names_of p
table_is p ds ts words all at_ds at_ts at_words at_all =
    at_all
    ∙ (λ i. extended ((at_words ∙ ap (λ (l : List Decl). look_up (declared_words none_yet l)) at_ds) i) (declared_tasks 1 (at_ts i)))
    ∙ sym (look_up-extended (declared_words none_yet p.decls) (declared_tasks 1 p.tasks))

-- a fault of the declarations is the first
pub decls_refused : (p : Program) (ds : List Decl) (e : CheckError) → ds ≡ p.decls → first (decls_faults [] ds) ≡ Some e → first_fault p ≡ Some e
unfolding faults
decls_refused p ds e at_ds h =
    first-front (decls_faults [] p.decls) (tasks_faults (names_of p) (arrays_of p) (map decl_text p.decls) [] p.tasks) e (ap (λ l. first (decls_faults [] l)) (sym at_ds) ∙ h)

module _ (p : Program) (ds : List Decl) (ts : List Task) (names : Meanings) (arrays arrays' : List Array) (at_ds : ds ≡ p.decls) (at_ts : ts ≡ p.tasks) (at_names : names ≡ names_of p)
    (at_arrays' : arrays' ≡ arrays) (at_arrays : arrays ≡ flat_map core_arrays ds) (words : ℕ) (at_words : words ≡ length ds) where
  decls_none : decls_faults [] ds ≡ [] → decls_faults [] p.decls ≡ []
  decls_none none = ap (decls_faults []) (sym at_ds) ∙ none

  arrays_are : arrays' ≡ arrays_of p
  arrays_are = at_arrays' ∙ at_arrays ∙ ap (flat_map core_arrays) at_ds

  tasks_are : tasks_faults (names_of p) (arrays_of p) (map decl_text p.decls) [] p.tasks ≡ tasks_at names arrays' words 0 0 ts
  tasks_are = sym (task_faults_are p (arrays_of p)) ∙ (λ i. tasks_at (sym at_names i) (sym arrays_are i) (sym (at_words ∙ ap length at_ds) i) 0 0 (sym at_ts i))

  -- a fault of the tasks is the first where the declarations have none
  pub tasks_refused : (e : CheckError) → decls_faults [] ds ≡ [] → first (tasks_at names arrays' words 0 0 ts) ≡ Some e → first_fault p ≡ Some e
  unfolding faults
  tasks_refused e none h = first-behind (decls_faults [] p.decls) (tasks_faults (names_of p) (arrays_of p) (map decl_text p.decls) [] p.tasks) e (decls_none none) (ap first tasks_are ∙ h)

  -- where neither have faults, the program is accepted
  pub all_accepted : decls_faults [] ds ≡ [] → tasks_at names arrays' words 0 0 ts ≡ [] → Accepted p
  unfolding faults
  all_accepted none h = none-append (decls_faults [] p.decls) (tasks_faults (names_of p) (arrays_of p) (map decl_text p.decls) [] p.tasks) (decls_none none) (tasks_are ∙ h)

  -- the parts of the checked form
  pub core_is : (arrays'' : List Array) (ts' : List Task) (tasks : List CoreTask) (pointers : List (List ℕ)) (peripherals : List Peripheral) → arrays'' ≡ arrays → ts' ≡ p.tasks
      → tasks ≡ map (core_task names arrays'') ts' → pointers ≡ flat_map core_pointers ds → peripherals ≡ flat_map core_peripherals ds
      → record { arrays = arrays; pointers = pointers; peripherals = peripherals; tasks = tasks } ≡ core_of p
  unfolding core_of
  core_is arrays'' ts' tasks pointers peripherals at_arrays'' at_ts' at_tasks at_pointers at_peripherals = λ i. record {
    arrays = (at_arrays ∙ ap (flat_map core_arrays) at_ds) i;
    pointers = (at_pointers ∙ ap (flat_map core_pointers) at_ds) i;
    peripherals = (at_peripherals ∙ ap (flat_map core_peripherals) at_ds) i;
    tasks = (at_tasks ∙ (λ j. map (core_task (at_names j) ((at_arrays'' ∙ at_arrays ∙ ap (flat_map core_arrays) at_ds) j)) (at_ts' j))) i;
  }
