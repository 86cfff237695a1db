-- The faults of a program in text order: each broken rule and each passed limit, with its place. At one place the
-- order is UnknownName, TwiceNamed, WrongKind, ConstWritten, DmaUnderIf, TooMany, and then the limits Tasks, Names,
-- NvWords, VolWords, Length, NameBytes, PeripheralNumber, Turns, Loops, Sites, KeptWords, Nodes.
use Rattle.std.specs.Prelude.{◌≡◌, ℕ, ◌+◌, Bool, List, [], ◌∷◌, ◌++◌, length, map, sum_by, Option, None, Some}
use Rattle.std.specs.List.{flat_map}
use Rattle.std.proofs.Common.{refl, ap, ◌∙◌}
use Rattle.ease_base.specs.declared.place.Pos.{Pos}
use Rattle.task_ast.specs.declared.tree.Ann.{Ann}
use Rattle.task_ast.specs.declared.tree.Name.{Name}
use Rattle.task_ast.specs.declared.tree.Expr.{Expr, end_of-Expr, more_of-Expr}
use Rattle.task_ast.specs.declared.tree.Expr.TheVariants as expr
use Rattle.task_ast.specs.declared.tree.Target.{Target}
use Rattle.task_ast.specs.declared.tree.Target.TheVariants as target
use Rattle.task_ast.specs.declared.tree.Place.{Place}
use Rattle.task_ast.specs.declared.tree.Place.TheVariants as place
use Rattle.task_ast.specs.declared.tree.Stmt.{Stmt, Row_of-Stmt, end_of-Stmt, more_of-Stmt, items-the_row-Stmt}
use Rattle.task_ast.specs.declared.tree.Stmt.TheVariants as stmt
use Rattle.task_ast.specs.declared.tree.Exit.{Exit, end_of-Exit, more_of-Exit}
use Rattle.task_ast.specs.declared.tree.Exit.TheVariants as exit
use Rattle.task_ast.specs.declared.tree.Decl.{Decl}
use Rattle.task_ast.specs.declared.tree.Task.{Task}
use Rattle.task_ast.specs.declared.tree.Program.{Program}
use Rattle.task_ast.specs.declared.core_form.Array.{Array}
use Rattle.task_ast.specs.Rows.{row_of, row_shows}
use Rattle.task_ast.specs.WellFormed.{site_words}
use Rattle.task_check.specs.declared.error.CheckError.{CheckError}
use Rattle.task_check.specs.Around.{Around, in_task, in_branch, in_loop}
use Rattle.task_check.specs.CheckedForm.{place_name, task_sites, arrays_of}
use Rattle.task_check.specs.Names.{Meanings, decl_name, decl_text, task_text, names_of, array_number}
use Rattle.task_check.specs.Nodes.{nodes_of_task}
use Rattle.task_check.specs.Refusals.{unknown_name, twice_named, decl_number, twice_numbered, not_scalar, not_array, not_array_or_pointer, not_pointer, not_peripheral, not_task, not_variable, variable_written, const_written, copy_under_if, too_many_arguments, too_many_values}
use Rattle.task_check.specs.Limits.{task_limit, name_limit, fram_words, ram_words, nv_limit, vol_limit, length_limit, bytes_limit, number_limit, turns_limit, loops_limit, sites_limit, kept_limit, node_limit}
use Rattle.task_check.specs.Sites.{row_has_sites, body_has_sites, body_has}

-- the rules for a bare name that is read or assigned, and for one behind `&`
abbrev pub scalar_faults : Meanings → Name → List CheckError
scalar_faults names x = unknown_name x.at (names x.text) ++ not_scalar x.at (names x.text)

-- the rules for a name that is indexed behind `&`
abbrev pub array_faults : Meanings → Name → List CheckError
array_faults names x = unknown_name x.at (names x.text) ++ not_array x.at (names x.text)

-- the rules for an indexed name that is read or assigned, and for a copy's bare end
abbrev pub indexed_faults : Meanings → Name → List CheckError
indexed_faults names x = unknown_name x.at (names x.text) ++ not_array_or_pointer x.at (names x.text)

-- the rules for a name that is given an address
abbrev pub pointer_faults : Meanings → Name → List CheckError
pointer_faults names x = unknown_name x.at (names x.text) ++ not_pointer x.at (names x.text)

-- the rules for the name in a call
abbrev pub peripheral_faults : Meanings → Name → List CheckError
peripheral_faults names x = unknown_name x.at (names x.text) ++ not_peripheral x.at (names x.text)

-- the rules for a name after NEXT
abbrev pub next_faults : Meanings → Name → List CheckError
next_faults names x = unknown_name x.at (names x.text) ++ not_task x.at (names x.text)

-- the rules for a loop's variable
abbrev pub variable_faults : Around → Name → List CheckError
variable_faults a x = unknown_name x.at (a.names x.text) ++ not_variable x.at (a.names x.text) ++ variable_written a.reach a.barred x.at (a.names x.text)

-- what assigning adds to the rules for a name that is read
abbrev pub written_faults : Around → Name → List CheckError
written_faults a x = variable_written a.reach a.barred x.at (a.names x.text) ++ const_written a.reach x.at (a.names x.text)

-- an expression's faults, from left to right
abbrev pub expr_faults : Meanings → Expr → List CheckError
expr_faults names (expr.Number n at) = []
expr_faults names (expr.Read x) = scalar_faults names x
expr_faults names (expr.Index' x u (more_of-Expr i end_of-Expr)) = indexed_faults names x ++ expr_faults names i
expr_faults names (expr.Paren' u (more_of-Expr e end_of-Expr)) = expr_faults names e
expr_faults names (expr.One' op u (more_of-Expr e end_of-Expr)) = expr_faults names e
expr_faults names (expr.Two' op u (more_of-Expr a end_of-Expr) v (more_of-Expr b end_of-Expr)) = expr_faults names a ++ expr_faults names b

-- a target's faults: those of its name, then of its index
abbrev pub target_faults : Around → Target → List CheckError
target_faults a (target.Scalar x) = scalar_faults a.names x ++ written_faults a x
target_faults a (target.Element x i) = indexed_faults a.names x ++ written_faults a x ++ expr_faults a.names i

-- the faults of a reading's target, if it has one
abbrev pub reading_faults : Around → Option Target → List CheckError
reading_faults a None = []
reading_faults a (Some x) = target_faults a x

-- the rules for the name of a copy's end, or of what a pointer is set to
abbrev pub place_name_faults : Meanings → Place → List CheckError
place_name_faults names (place.Bare x) = indexed_faults names x
place_name_faults names (place.Scalar x) = scalar_faults names x
place_name_faults names (place.Element x i) = array_faults names x

-- the faults of its index
abbrev pub place_index_faults : Meanings → Place → List CheckError
place_index_faults names (place.Bare x) = []
place_index_faults names (place.Scalar x) = []
place_index_faults names (place.Element x i) = expr_faults names i

-- the faults of a copy's source, or of what a pointer is set to
abbrev pub place_faults : Meanings → Place → List CheckError
place_faults names from = place_name_faults names from ++ place_index_faults names from

-- the faults of a copy's destination, which may not be constant; a loop's variable may be one
abbrev pub destination_faults : Around → Place → List CheckError
destination_faults a to =
    place_name_faults a.names to ++ const_written a.reach (place_name to).at (a.names (place_name to).text) ++ place_index_faults a.names to

-- the faults of a loop's head: its level, its variable and its turns
abbrev pub head_faults : Around → (unrolled : Bool) → Name → (turns : ℕ) → (at word : Pos) → List CheckError
head_faults a unrolled i turns at word = loops_limit unrolled word (a.level + 1) ++ variable_faults a i ++ turns_limit unrolled at turns

abbrev mutual
  -- a statement's faults, its parts from left to right
  pub stmt_faults : Around → Stmt → List CheckError
  stmt_faults a (stmt.Assign x e) = target_faults a x ++ expr_faults a.names e
  stmt_faults a (stmt.Point p to) = pointer_faults a.names p ++ place_faults a.names to
  stmt_faults a (stmt.If' c m yes_row n no_row) = expr_faults a.names c ++ row_faults (in_branch a) yes_row ++ row_faults (in_branch a) no_row
  stmt_faults a (stmt.For' i turns at m row word) =
      head_faults a (row_has_sites row) i turns at word ++ row_faults (in_loop a (row_has_sites row) (array_number (a.names i.text))) row
  stmt_faults a (stmt.Io x p n args word) =
      reading_faults a x ++ too_many_arguments word (length args) ++ peripheral_faults a.names p ++ flat_map (expr_faults a.names) args
  stmt_faults a (stmt.Block' n m row word) = row_faults a row
  stmt_faults a (stmt.Dma to from n word) = copy_under_if a.branched word ++ destination_faults a to ++ place_faults a.names from ++ expr_faults a.names n

  -- the faults of a row's statements
  pub row_faults : Around → {n : _} → Row_of-Stmt n → List CheckError
  row_faults a end_of-Stmt = []
  row_faults a (more_of-Stmt s rest) = stmt_faults a s ++ row_faults a rest

-- the faults of statements, one after another
abbrev pub body_faults : Around → List Stmt → List CheckError
body_faults a body = flat_map (stmt_faults a) body

-- an exit's faults, its parts from left to right
abbrev pub exit_faults : Meanings → Exit → List CheckError
exit_faults names (exit.Next x) = next_faults names x
exit_faults names exit.Stop = []
exit_faults names (exit.Choose' c u (more_of-Exit a end_of-Exit) v (more_of-Exit b end_of-Exit)) = expr_faults names c ++ exit_faults names a ++ exit_faults names b

-- the faults within a task: those of its statements, then of its exit
abbrev pub inner_faults : Meanings → List Array → Task → List CheckError
inner_faults names arrays t = body_faults (in_task names arrays t) t.body ++ exit_faults names t.exit

-- the limits at a task's closing brace, behind tasks with so many nodes
abbrev pub close_faults : Meanings → List Array → ℕ → Task → List CheckError
close_faults names arrays nodes t =
    sites_limit t.close (length (task_sites names arrays t)) ++ kept_limit t.close (sum_by site_words (task_sites names arrays t))
    ++ node_limit t.close (nodes + nodes_of_task t)

-- the faults of a declaration, behind those before it
abbrev pub decl_faults : List Decl → Decl → List CheckError
decl_faults before d =
    twice_named (map decl_text before) (decl_name d) ++ twice_numbered (flat_map decl_number before) d ++ too_many_values d
    ++ name_limit (decl_name d).at (length before + 1) ++ nv_limit (decl_name d).at (sum_by fram_words before + fram_words d)
    ++ vol_limit (decl_name d).at (sum_by ram_words before + ram_words d) ++ length_limit d ++ bytes_limit (decl_name d) ++ number_limit d

-- the faults of declarations, behind those before them
abbrev pub decls_faults : List Decl → List Decl → List CheckError
decls_faults before [] = []
decls_faults before (d ∷ ds) = decl_faults before d ++ decls_faults (before ++ d ∷ []) ds

-- what comes at a task behind its name's first rule, with so many declarations and behind these tasks: the limits at
-- its name, its inside, and the limits at its brace
abbrev pub rest_faults : Meanings → List Array → ℕ → List Task → Task → List CheckError
rest_faults names arrays words before t =
    task_limit t.name.at (length before + 1) ++ name_limit t.name.at (words + length before + 1) ++ bytes_limit t.name
    ++ inner_faults names arrays t ++ close_faults names arrays (sum_by nodes_of_task before) t

-- the faults of tasks, behind declarations with these names and behind the tasks before them
abbrev pub tasks_faults : Meanings → List Array → List (List ℕ) → List Task → List Task → List CheckError
tasks_faults names arrays words before [] = []
tasks_faults names arrays words before (t ∷ ts) =
    twice_named (words ++ map task_text before) t.name ++ rest_faults names arrays (length words) before t ++ tasks_faults names arrays words (before ++ t ∷ []) ts

-- all faults of a program in text order: declarations, then tasks
unfoldable pub faults : Program → List CheckError
faults p = decls_faults [] p.decls ++ tasks_faults (names_of p) (arrays_of p) (map decl_text p.decls) [] p.tasks

-- no rule is broken, and no limit passed
abbrev pub Accepted : Program → Type 0
Accepted p = faults p ≡ []

-- the first of some faults
abbrev pub first : List CheckError → Option CheckError
first [] = None
first (e ∷ es) = Some e

-- the first fault of a program in text order
abbrev pub first_fault : Program → Option CheckError
first_fault p = first (faults p)

-- the faults of a row are those of the statements that it shows
row_is : (a : Around) (n : _) (row : Row_of-Stmt n) → row_faults a row ≡ body_faults a (items-the_row-Stmt n row)
row_is a n end_of-Stmt = refl
row_is a n (more_of-Stmt s rest) = ap (λ (es : List CheckError). stmt_faults a s ++ es) (row_is a _ rest)

body_is : (a : Around) (body : List Stmt) → row_faults a (row_of body).1 ≡ body_faults a body
body_is a body = row_is a (row_of body).0 (row_of body).1 ∙ ap (body_faults a) (row_shows body)

-- the faults of an `if`: those of its condition, then of its two bodies
pub faults_if : (a : Around) (c : Expr) (yes_part no_part : List Stmt) →
    stmt_faults a (stmt.If c yes_part no_part) ≡ expr_faults a.names c ++ body_faults (in_branch a) yes_part ++ body_faults (in_branch a) no_part
faults_if a c yes_part no_part = λ i. expr_faults a.names c ++ body_is (in_branch a) yes_part i ++ body_is (in_branch a) no_part i

-- the faults of a loop: those of its head, then of its body
pub faults_for : (a : Around) (i : Name) (turns : ℕ) (at : Pos) (body : List Stmt) (word : Pos) →
    stmt_faults a (stmt.For i turns at body word)
    ≡ head_faults a (body_has_sites body) i turns at word ++ body_faults (in_loop a (body_has_sites body) (array_number (a.names i.text))) body
faults_for a i turns at body word =
    (λ j. head_faults a (body_has body j) i turns at word ++ row_faults (in_loop a (body_has body j) (array_number (a.names i.text))) (row_of body).1)
    ∙ ap (λ (es : List CheckError). head_faults a (body_has_sites body) i turns at word ++ es) (body_is (in_loop a (body_has_sites body) (array_number (a.names i.text))) body)

-- the faults of a block are those of its body
pub faults_block : (a : Around) (n : Ann) (body : List Stmt) (word : Pos) → stmt_faults a (stmt.Block n body word) ≡ body_faults a body
faults_block a n body word = body_is a body
