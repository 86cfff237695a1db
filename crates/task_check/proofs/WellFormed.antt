-- The checked form of an accepted program is well formed.
use Rattle.std.proofs.Common.{◌≡◌, ◌∙◌, ℕ, zero, suc, ◌+◌, ◌-◌, ◌≤◌, false, List, [], ◌∷◌, ◌++◌, length, map, replicate, refl, sym, ap, subst, arith, append_assoc}
use Rattle.std.specs.Prelude.{bytes_eq, sum_by}
use Rattle.std.specs.List.{AllByRecursion, flat_map, range_with_len}
use Rattle.std.proofs.Math.Path.{fun_ext}
use Rattle.std.proofs.lemmas.List.{length-map, append-nil}
use Rattle.std.proofs.lemmas.List.Sums.{sum_by-cons}
use Rattle.op_table.specs.Places.{repeats}
use Rattle.ease_base.specs.declared.place.Peripheral.{Peripheral}
use Rattle.task_ast.specs.declared.tree.Decl.{Decl}
use Rattle.task_ast.specs.declared.tree.Decl.TheVariants as decl
use Rattle.task_ast.specs.declared.tree.Stmt.{Stmt}
use Rattle.task_ast.specs.declared.tree.Task.{Task}
use Rattle.task_ast.specs.declared.tree.Program.{Program}
use Rattle.task_ast.specs.declared.core_form.Array.{Array}
use Rattle.task_ast.specs.declared.core_form.Core.{Core}
use Rattle.task_ast.specs.declared.core_form.CoreStmt.{CoreStmt}
use Rattle.task_ast.specs.declared.core_form.CoreTask.{CoreTask}
use Rattle.task_ast.specs.CoreNodes.{task_nodes}
use Rattle.task_ast.specs.CoreSites.{all_standings}
use Rattle.task_ast.specs.Pointing.{Pointing, pointing, all_addresses}
use Rattle.task_ast.specs.Readable.{IsWord, IsReadableStmt, IsReadableDecl, IsReadableTask, IsReadable}
use Rattle.task_ast.specs.WellFormed.{Scope, IsCoreStmt, IsCoreArray, IsDeclaredName, IsCorePeripheral, IsCoreTask, IsCoreExit, HasItsSites, scope_of, core_names, IsWellFormed}
use Rattle.task_check.specs.Around.{in_task}
use Rattle.task_check.specs.Names.{Meanings, decl_text, task_text, names_of}
use Rattle.task_check.specs.Nodes.{nodes_of_task}
use Rattle.task_check.specs.Numbering.{all_numbered}
use Rattle.task_check.specs.Refusals.{size_words, decl_number}
use Rattle.task_check.specs.Faults.{stmt_faults, body_faults, exit_faults, decls_faults, tasks_faults, faults, Accepted}
use Rattle.task_check.specs.CheckedForm.{core_stmts, core_body, core_task, core_arrays, core_pointers, core_peripherals, arrays_of, core_exit, core_of}
use Rattle.task_check.proofs.FirstLemmas.{none-front, none-behind}
use Rattle.task_check.proofs.NumberLemmas.{body_counted}
use Rattle.task_check.proofs.NumberedForms.{numbers_are, addresses_kept, standings_kept, nodes_kept, form_kept}
use Rattle.task_check.proofs.WellFormedForms.{IsThereIfSome, stmt_formed, exit_formed, all_append}
use Rattle.task_check.proofs.WellFormedNames.{IsSized, names_there, AreApart, apart_distinct, distinct_once, bytes_even, numbers_even, number_eq, sorted, sorted_distinct, sorted_counted, numbers_listed, first_length}
use Rattle.task_check.proofs.WellFormedCounts.{IsSound, counts_decls, counts_tasks, fram_counted, ram_counted, apart_append}
use Rattle.task_check.proofs.WellFormedSites.{words, body_standing, body_timed, addresses_there, body_counted as nodes_counted, exit_counted}

zeros : (n : ℕ) → AllByRecursion IsWord (replicate n 0)
zeros zero = tt
zeros (suc n) = (omega arith, zeros n)

abbrev IsShort : Decl → Type 0
IsShort d = length (decl_text d) ≤ 32

-- the arrays of declarations are well formed
arrays_formed : (ds : List Decl) → AllByRecursion IsReadableDecl ds → AllByRecursion IsSized ds → AllByRecursion IsShort ds → AllByRecursion IsCoreArray (flat_map core_arrays ds)
arrays_formed [] readable sized short = tt
arrays_formed (decl.Words kind x size values ∷ ds) readable sized short =
    let n = size_words size in (
      (
        (readable.0.0, short.0),
        omega (arith, first_length n values sized.0.1, sized.0.0),
        all_append IsWord values (replicate (n - length values) 0) readable.0.2 (zeros (n - length values)),
      ),
      arrays_formed ds readable.1 sized.1 short.1,
    )
arrays_formed (decl.Pointer x ∷ ds) readable sized short = arrays_formed ds readable.1 sized.1 short.1
arrays_formed (decl.Peripheral x number ∷ ds) readable sized short = arrays_formed ds readable.1 sized.1 short.1

-- so are the pointers
pointers_formed : (ds : List Decl) → AllByRecursion IsReadableDecl ds → AllByRecursion IsShort ds → AllByRecursion IsDeclaredName (flat_map core_pointers ds)
pointers_formed [] readable short = tt
pointers_formed (decl.Words kind x size values ∷ ds) readable short = pointers_formed ds readable.1 short.1
pointers_formed (decl.Pointer x ∷ ds) readable short = ((readable.0, short.0), pointers_formed ds readable.1 short.1)
pointers_formed (decl.Peripheral x number ∷ ds) readable short = pointers_formed ds readable.1 short.1

-- and the peripherals
peripherals_formed : (ds : List Decl) → AllByRecursion IsReadableDecl ds → AllByRecursion IsSized ds → AllByRecursion IsShort ds → AllByRecursion IsCorePeripheral (flat_map core_peripherals ds)
peripherals_formed [] readable sized short = tt
peripherals_formed (decl.Words kind x size values ∷ ds) readable sized short = peripherals_formed ds readable.1 sized.1 short.1
peripherals_formed (decl.Pointer x ∷ ds) readable sized short = peripherals_formed ds readable.1 sized.1 short.1
peripherals_formed (decl.Peripheral x number ∷ ds) readable sized short = (((readable.0.0, short.0), sized.0), peripherals_formed ds readable.1 sized.1 short.1)

module _ (c : Core) (names : Meanings) (tasks : ℕ) (t : Task) (readable : IsReadableTask t) (sound : IsSound names c.arrays t)
    (there : (s : Scope) → s.arrays ≡ c.arrays → s.pointers ≡ length c.pointers → s.peripherals ≡ length c.peripherals → (text : List ℕ) → IsThereIfSome s tasks (names text)) where
  body : List CoreStmt
  body = core_body names t.body

  plain : Pointing
  plain p = all_addresses p (core_body names t.body)

  scope : Scope
  scope = record { arrays = c.arrays; pointers = length c.pointers; peripherals = length c.peripherals; points = λ p. all_addresses p (core_body names t.body) }

  all_there : (text : List ℕ) → IsThereIfSome scope tasks (names text)
  unfolding scope
  all_there = there scope refl refl refl

  pointing_is : pointing (core_task names c.arrays t) ≡ (λ p. all_addresses p (core_body names t.body))
  pointing_is = fun_ext (λ p. addresses_kept p 1 (core_body names t.body))

  scope_is : scope_of c (core_task names c.arrays t) ≡ scope
  unfolding scope
  scope_is = λ i. record { arrays = c.arrays; pointers = length c.pointers; peripherals = length c.peripherals; points = pointing_is i }

  stmts_formed : (ss : List Stmt) → AllByRecursion (IsReadableStmt 1) ss → body_faults (in_task names c.arrays t) ss ≡ [] → AllByRecursion (IsCoreStmt scope 1 false []) (core_body names ss)
  unfolding scope
  stmts_formed [] readable none = tt
  stmts_formed (s ∷ ss) readable none =
      let a = in_task names c.arrays t in
      all_append (IsCoreStmt scope 1 false []) (core_stmts names s) (core_body names ss)
      (stmt_formed names scope tasks all_there (λ p. addresses_there names scope tasks all_there p t.body) 1 1 0 false [] [] s (omega arith) (λ n h. refl) refl readable.0 (none-front (stmt_faults a s) (body_faults a ss) none))
      (stmts_formed ss readable.1 (none-behind (stmt_faults a s) (body_faults a ss) none))

  inside : body_faults (in_task names c.arrays t) t.body ≡ []
  inside = none-front (body_faults (in_task names c.arrays t) t.body) (exit_faults names t.exit) sound.inner

  sites_formed : HasItsSites c.arrays (core_task names c.arrays t)
  sites_formed =
      let W = words names c.arrays (λ p. all_addresses p (core_body names t.body)) in record {
        numbers = numbers_are 1 (core_body names t.body) ∙ ap (range_with_len 1) (body_counted W names t.body);
        standing = ap (λ q. all_standings c.arrays q (all_numbered 1 (core_body names t.body))) pointing_is
            ∙ standings_kept c.arrays (λ p. all_addresses p (core_body names t.body)) 1 (core_body names t.body)
            ∙ sym (body_standing names c.arrays (λ p. all_addresses p (core_body names t.body)) t.body);
        times = body_timed W t.body readable.body;
        few = sound.sites;
        kept = sound.kept;
      }

  task_formed : tasks ≡ length c.tasks → IsCoreTask c (core_task names c.arrays t)
  unfolding scope
  task_formed is = record {
    name = (readable.name, sound.bytes);
    body = subst (λ s. AllByRecursion (IsCoreStmt s 1 false []) (all_numbered 1 (core_body names t.body))) (sym scope_is)
        (form_kept scope 1 1 false [] (core_body names t.body) (stmts_formed t.body readable.body inside));
    exit = subst (λ s. IsCoreExit s (length c.tasks) 1 (core_exit names t.exit)) (sym scope_is)
        (subst (λ n. IsCoreExit scope n 1 (core_exit names t.exit)) is (exit_formed names scope tasks all_there 1 t.exit readable.exit (none-behind (body_faults (in_task names c.arrays t) t.body) (exit_faults names t.exit) sound.inner)));
    sites = sites_formed;
  }

tasks_formed : (c : Core) (names : Meanings) (tasks : ℕ) (ts : List Task) → AllByRecursion IsReadableTask ts → AllByRecursion (IsSound names c.arrays) ts
    → ((s : Scope) → s.arrays ≡ c.arrays → s.pointers ≡ length c.pointers → s.peripherals ≡ length c.peripherals → (text : List ℕ) → IsThereIfSome s tasks (names text))
    → tasks ≡ length c.tasks → AllByRecursion (IsCoreTask c) (map (core_task names c.arrays) ts)
tasks_formed c names tasks [] readable sound there is = tt
tasks_formed c names tasks (t ∷ ts) readable sound there is = (task_formed c names tasks t readable.0 sound.0 there is, tasks_formed c names tasks ts readable.1 sound.1 there is)

tasks_named : (names : Meanings) (arrays : List Array) (ts : List Task) → map (λ (t : CoreTask). t.name) (map (core_task names arrays) ts) ≡ map task_text ts
tasks_named names arrays [] = refl
tasks_named names arrays (t ∷ ts) = ap (λ l. task_text t ∷ l) (tasks_named names arrays ts)

-- checked tasks have at most as many nodes
tasks_counted : (names : Meanings) (arrays : List Array) (ts : List Task) → sum_by task_nodes (map (core_task names arrays) ts) ≤ sum_by nodes_of_task ts
tasks_counted names arrays [] = omega arith
tasks_counted names arrays (t ∷ ts) =
    omega (
      arith,
      sum_by-cons task_nodes (core_task names arrays t) (map (core_task names arrays) ts),
      sum_by-cons nodes_of_task t ts,
      nodes_kept 1 (core_body names t.body),
      nodes_counted names t.body,
      exit_counted names t.exit,
      tasks_counted names arrays ts,
    )

-- the checked form of an accepted program that some text has is well formed
pub accepted_is_well_formed : (p : Program) → IsReadable p → Accepted p → IsWellFormed (core_of p)
unfolding faults core_of
accepted_is_well_formed p readable none =
    let names = names_of p in
    let arrays = arrays_of p in
    let texts = map decl_text p.decls in
    let c = core_of p in
    let of_decls = none-front (decls_faults [] p.decls) (tasks_faults names arrays texts [] p.tasks) none in
    let of_tasks = none-behind (decls_faults [] p.decls) (tasks_faults names arrays texts [] p.tasks) none in
    let decls = counts_decls [] p.decls of_decls in
    let tasks = counts_tasks names arrays texts [] p.tasks of_tasks in
    let count = length-map p.tasks (core_task names arrays) in
    let count_decls = length-map p.decls decl_text in
    let count_tasks = length-map p.tasks task_text in
    let sort = sorted p.decls (map task_text p.tasks) in
    let xs = map (λ (a : Array). a.name) (flat_map core_arrays p.decls) in
    let ps = flat_map core_pointers p.decls in
    let qs = map (λ (q : Peripheral). q.name) (flat_map core_peripherals p.decls) in
    let ts = map task_text p.tasks in
    let named : core_names c ≡ sort =
    ap (λ l. xs ++ ps ++ qs ++ l) (tasks_named names arrays p.tasks) ∙ append_assoc (xs ++ ps) qs ts ∙ append_assoc xs ps (qs ++ ts) in
    let apart = apart_append bytes_eq [] texts ts decls.apart (subst (λ l. AreApart bytes_eq l ts) (append-nil texts) tasks.apart) in
    let distinct = sorted_distinct p.decls ts (apart_distinct bytes_eq bytes_even [] (texts ++ ts) apart) in
    let numbers = distinct_once number_eq numbers_even (flat_map decl_number p.decls) (apart_distinct number_eq numbers_even [] (flat_map decl_number p.decls) decls.numbers) in
    let all : length (core_names c) ≡ length p.decls + length p.tasks = ap length named ∙ sorted_counted p.decls ts ∙ ap (λ n. length p.decls + n) count_tasks in
    record {
      arrays = arrays_formed p.decls readable.decls decls.sized decls.bytes;
      pointers = pointers_formed p.decls readable.decls decls.bytes;
      peripherals = peripherals_formed p.decls readable.decls decls.sized decls.bytes;
      tasks = tasks_formed c names (length p.tasks) p.tasks readable.tasks tasks.sound (λ s at_arrays at_pointers at_peripherals. names_there s p.decls p.tasks at_arrays at_pointers at_peripherals decls.sized) (sym count);
      distinct = ap (repeats bytes_eq) named ∙ distinct_once bytes_eq bytes_even sort distinct;
      numbered = ap (repeats number_eq) (numbers_listed p.decls) ∙ numbers;
      some = omega (arith, count, readable.some);
      few_tasks = omega (arith, count, tasks.tasks (omega arith));
      few_names = omega (arith, all, count_decls, tasks.all (omega (arith, count_decls, decls.names (omega arith))));
      fram = omega (arith, fram_counted p.decls decls.sized, decls.fram (omega arith));
      ram = omega (arith, ram_counted p.decls decls.sized, decls.ram (omega arith));
      nodes = omega (arith, tasks_counted names arrays p.tasks, tasks.nodes (omega arith));
    }
