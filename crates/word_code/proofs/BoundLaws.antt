-- The lines and the marks of a task's acts, by its nodes and its sites.
use Rattle.std.specs.Prelude.{◌≡◌, ℕ, ◌+◌, ◌*◌, ◌≤◌, Bool, true, false, cond, List, [], ◌∷◌, ◌++◌, length, map, sum_by, Option, Some, None, refl}
use Rattle.std.specs.List.{AllByRecursion}
use Rattle.std.proofs.Common.{ap, ◌∙◌, arith, subst}
use Rattle.std.proofs.lemmas.List.Sums.{sum_by-cons, sum_by-append}
use Rattle.task_ast.specs.declared.tree.Ann.{Ann}
use Rattle.task_ast.specs.declared.tree.Ann.TheVariants as ann
use Rattle.task_ast.specs.declared.core_form.CoreExpr.{CoreExpr}
use Rattle.task_ast.specs.declared.core_form.CoreTarget.{CoreTarget}
use Rattle.task_ast.specs.declared.core_form.CoreEnd.{CoreEnd}
use Rattle.task_ast.specs.declared.core_form.Site.{Site}
use Rattle.task_ast.specs.declared.core_form.Site.TheVariants as site
use Rattle.task_ast.specs.declared.core_form.CoreStmt.{CoreStmt, Row_of-CoreStmt, end_of-CoreStmt, more_of-CoreStmt}
use Rattle.task_ast.specs.declared.core_form.CoreStmt.TheVariants as stmt
use Rattle.task_ast.specs.declared.core_form.CoreExit.{CoreExit, end_of-CoreExit, more_of-CoreExit}
use Rattle.task_ast.specs.declared.core_form.CoreExit.TheVariants as exit
use Rattle.task_ast.specs.declared.core_form.Core.{Core}
use Rattle.task_ast.specs.CoreNodes.{expr_nodes, reading_nodes, end_nodes, stmt_nodes, row_nodes, exit_nodes}
use Rattle.task_ast.specs.CoreSites.{a_copy, site_numbers, row_numbers, all_numbers}
use Rattle.io_depend.specs.Depend.{dependents}
use Rattle.region_split.specs.Regions.{is_copy, region_of}
use Rattle.word_isa.specs.declared.parts.Scheme.{Scheme}
use Rattle.word_isa.specs.declared.parts.Scheme.TheVariants.{Undo, Bank}
use Rattle.line_code.specs.Sizes.{expr_size, statement_size}
use Rattle.task_attempts.specs.Calls.{site_at}
use Rattle.run_plan.specs.declared.act.Act.{Act, Row_of-Act, end_of-Act, more_of-Act, items-the_row-Act}
use Rattle.run_plan.specs.declared.act.Act.TheVariants as act
use Rattle.run_plan.specs.declared.act.Leg.TheVariants.{Across, ToKept, FromKept}
use Rattle.run_plan.specs.ActRows.{test_of_task, choose_of_task, by_class_of_task}
use Rattle.run_plan.specs.Kinds.{standing_or_none, IsOfTask}
use Rattle.run_plan.specs.PlanOf.{Around, around, save_acts, issue_acts, call_acts, block_end_acts, block_acts, anew_acts, again_acts, copy_acts, unless_plain, statement_acts, row_acts, body_acts, exit_act}
use Rattle.run_plan.specs.Rows.{act_row_of, act_row_shows}
use Rattle.word_code.specs.ActLaws.{size_test, size_choose, size_leave, size_class}
use Rattle.word_code.specs.ActMarks.{act_marks, row_marks, acts_marks}
use Rattle.word_code.specs.Acts.{count_of}
use Rattle.word_code.specs.Finding.{statement_at}
use Rattle.word_code.specs.Frames.{Frame}
use Rattle.word_code.specs.Frames as frames
use Rattle.word_code.specs.Sizes.{seal_size, write_size, region_size, act_size, acts_size}
use Rattle.word_code.specs.Tables.{own_size, ann_of, keeps_size}
use Rattle.word_code.specs.Values.{aim_size, args_size, end_size, value_size}
use Rattle.word_code.proofs.NodeLaws.{expr_few, end_few, aim_few, args_few, args_some, plain_few}
use Rattle.word_code.proofs.SiteLaws.{IsFound, AreFound}

cast : {A B : Type 0} → A ≡ B → A → B
cast same x = subst (λ t. t) same x

-- acts of two lists
all_front : {A : Type 0} (P : A → Type 0) (xs ys : List A) → AllByRecursion P (xs ++ ys) → AllByRecursion P xs
all_front P [] ys h = tt
all_front P (x ∷ xs) ys h = (h.0, all_front P xs ys h.1)

all_back : {A : Type 0} (P : A → Type 0) (xs ys : List A) → AllByRecursion P (xs ++ ys) → AllByRecursion P ys
all_back P [] ys h = h
all_back P (x ∷ xs) ys h = all_back P xs ys h.1

pub size_joined : (f : Frame) (xs ys : List Act) → acts_size f (xs ++ ys) ≡ acts_size f xs + acts_size f ys
size_joined f [] ys = omega arith
size_joined f (x ∷ xs) ys = omega (arith, size_joined f xs ys)

pub marks_joined : (xs ys : List Act) → acts_marks (xs ++ ys) ≡ acts_marks xs + acts_marks ys
marks_joined [] ys = omega arith
marks_joined (x ∷ xs) ys = omega (arith, marks_joined xs ys)

size_drops : (f : Frame) (ks : List ℕ) → acts_size f (map act.Drop ks) ≡ 2 * length ks
size_drops f [] = refl
size_drops f (k ∷ ks) = omega (arith, size_drops f ks)

marks_drops : (ks : List ℕ) → acts_marks (map act.Drop ks) ≡ length ks
marks_drops [] = refl
marks_drops (k ∷ ks) = omega (arith, marks_drops ks)

-- a row has the marks of the acts that it shows
row_marks_are : (n : _) (row : Row_of-Act n) → row_marks row ≡ acts_marks (items-the_row-Act n row)
row_marks_are n end_of-Act = refl
row_marks_are n (more_of-Act a rest) = ap (λ (k : ℕ). act_marks a + k) (row_marks_are _ rest)

marks_of_acts : (acts : List Act) → row_marks (act_row_of acts).1 ≡ acts_marks acts
marks_of_acts acts = row_marks_are (act_row_of acts).0 (act_row_of acts).1 ∙ ap acts_marks (act_row_shows acts)

marks_test : (e : CoreExpr) (a b : List Act) → act_marks (act.Test e a b) ≡ acts_marks a + acts_marks b
marks_test e a b = λ i. marks_of_acts a i + marks_of_acts b i

marks_choose : (k : ℕ) (a b : List Act) → act_marks (act.Choose k a b) ≡ acts_marks a + acts_marks b
marks_choose k a b = λ i. marks_of_acts a i + marks_of_acts b i

marks_leave : (k : ℕ) (a : List Act) → act_marks (act.Leave k a) ≡ acts_marks a
marks_leave k a = marks_of_acts a

marks_class : (k : ℕ) (a b c : List Act) → act_marks (act.ByClass k a b c) ≡ acts_marks a + acts_marks b + acts_marks c
marks_class k a b c = λ i. marks_of_acts a i + marks_of_acts b i + marks_of_acts c i

-- what the tables of sites take at most
own_few : (x : Ann) → own_size x ≤ 8
own_few ann.Single = omega arith
own_few (ann.Timely limit) = omega arith
own_few ann.Always = omega arith

keeps_few : (s : Option Site) → keeps_size s ≤ 18
keeps_few None = omega arith
keeps_few (Some (site.Io a)) = omega (arith, own_few a)
keeps_few (Some (site.Block a)) = omega arith
keeps_few (Some (site.Copy n)) = omega arith

seal_few : (s : Option Site) → seal_size s ≤ 9
seal_few None = omega arith
seal_few (Some (site.Io a)) = omega arith
seal_few (Some (site.Block a)) = omega arith
seal_few (Some (site.Copy n)) = omega arith

write_few : (x : Option CoreTarget) (k p : ℕ) (args : List CoreExpr) → write_size (Some (stmt.Io k x p args)) ≤ 3
write_few None k p args = omega arith
write_few (Some x) k p args = omega arith

-- whether a copy stands at a site
abbrev pub copy_at : Option Site → Bool
copy_at None = false
copy_at (Some s) = is_copy s

stands_copy : (s : Option Site) (n : ℕ) → standing_or_none s ≡ Some (a_copy n) → copy_at s ≡ true
stands_copy None n is = cc
stands_copy (Some (site.Io a)) n is = cc
stands_copy (Some (site.Block a)) n is = cc
stands_copy (Some (site.Copy m)) n is = refl

-- the lines that save a region and lock it
abbrev pub save_lines : Frame → Scheme → (region : ℕ) → ℕ
save_lines f Undo r = region_size f r + 7
save_lines f Bank r = 0

pub size_save : (f : Frame) (scheme : Scheme) (r : ℕ) → acts_size f (save_acts scheme r) ≡ save_lines f scheme r
size_save f Undo r = omega arith
size_save f Bank r = refl

pub marks_save : (scheme : Scheme) (r : ℕ) → acts_marks (save_acts scheme r) ≡ 0
marks_save Undo r = refl
marks_save Bank r = refl

-- those that save the region which a site begins, if it begins one
abbrev pub saved : Frame → (site : ℕ) → ℕ
saved f k = cond (copy_at (site_at f.task.sites k)) (save_lines f f.scheme (region_of f.task k)) 0

abbrev pub drops_at : Frame → (site : ℕ) → ℕ
drops_at f k = length (dependents f.task k)

-- what a site takes beside its nodes, in lines and in marks
abbrev pub cost : Frame → (site : ℕ) → ℕ
cost f k = 131 + 2 * drops_at f k + saved f k

abbrev pub signs : Frame → (site : ℕ) → ℕ
signs f k = drops_at f k + 8

pub one_site : (g : ℕ → ℕ) (k : ℕ) → sum_by g (k ∷ []) ≡ g k
one_site g k = sum_by-cons g k [] ∙ omega arith

module _ (c : Core) (f : Frame) where
  abbrev by_task : Around
  by_task = around f.scheme f.task

  abbrev Of : Act → Type 0
  Of = IsOfTask c f.task

  -- ---- a call

  size_issue : (k : ℕ) → acts_size f (issue_acts by_task k) ≤ count_of (statement_at f k) + 2 * drops_at f k + 15
  size_issue k =
      omega (arith, size_joined f (act.Drop k ∷ map act.Drop (dependents f.task k)) (act.Issue k ∷ act.Seal k ∷ []), size_drops f (dependents f.task k), seal_few (frames.site_at f k))

  marks_issue : (k : ℕ) → acts_marks (issue_acts by_task k) ≡ drops_at f k + 3
  marks_issue k = omega (arith, marks_joined (act.Drop k ∷ map act.Drop (dependents f.task k)) (act.Issue k ∷ act.Seal k ∷ []), marks_drops (dependents f.task k))

  size_call : (k p : ℕ) (x : Option CoreTarget) (args : List CoreExpr) → statement_at f k ≡ Some (stmt.Io k x p args)
      → acts_size f (call_acts by_task k) ≤ 25 * (1 + reading_nodes x + sum_by expr_nodes args) + sum_by (cost f) (k ∷ [])
  size_call k p x args found =
      let valued : value_size (statement_at f k) ≡ aim_size x + args_size args = ap value_size found in
      let counted : count_of (statement_at f k) ≡ length args = ap count_of found in
      let written : write_size (statement_at f k) ≡ write_size (Some (stmt.Io k x p args)) = ap write_size found in
      omega (
        arith,
        valued,
        counted,
        written,
        aim_few x,
        args_few args,
        args_some args,
        write_few x k p args,
        size_choose f k (issue_acts by_task k) (act.Take k ∷ []),
        size_issue k,
        keeps_few (frames.site_at f k),
        one_site (cost f) k,
      )

  marks_call : (k n : ℕ) → acts_marks (call_acts by_task k) ≤ n + sum_by (signs f) (k ∷ [])
  marks_call k n = omega (arith, marks_choose k (issue_acts by_task k) (act.Take k ∷ []), marks_issue k, one_site (signs f) k)

  -- ---- a block

  size_block : (k nodes inside : ℕ) (body : List Act) (ks : List ℕ) → acts_size f body ≤ 25 * nodes + sum_by (cost f) ks → acts_size f (block_acts k body) ≤ 25 * (1 + nodes) + sum_by (cost f) (k ∷ ks)
  size_block k nodes inside body ks few =
      omega (
        arith,
        few,
        size_joined f (act.Look k ∷ act.Enter k ∷ body) (act.Leave k (block_end_acts k) ∷ []),
        own_few (ann_of (frames.site_at f k)),
        size_leave f k (block_end_acts k),
        seal_few (frames.site_at f k),
        sum_by-cons (cost f) k ks,
      )

  marks_block : (k nodes : ℕ) (body : List Act) (ks : List ℕ) → acts_marks body ≤ nodes + sum_by (signs f) ks → acts_marks (block_acts k body) ≤ 1 + nodes + sum_by (signs f) (k ∷ ks)
  marks_block k nodes body ks few =
      omega (arith, few, marks_joined (act.Look k ∷ act.Enter k ∷ body) (act.Leave k (block_end_acts k) ∷ []), marks_leave k (block_end_acts k), sum_by-cons (signs f) k ks)

  -- ---- a copy

  abbrev single_acts : ℕ → List Act
  single_acts k = act.Transfer k Across ∷ act.KeepWords k ∷ act.Seal k ∷ []

  abbrev private_acts : ℕ → List Act
  private_acts k = act.Transfer k ToKept ∷ act.Seal k ∷ act.Transfer k FromKept ∷ []

  size_anew : (k : ℕ) → acts_size f (anew_acts k) ≤ 65
  size_anew k = omega (arith, size_class f k (single_acts k) (private_acts k) (act.Transfer k Across ∷ []), seal_few (frames.site_at f k))

  size_again : (k : ℕ) → acts_size f (again_acts k) ≤ 31
  size_again k = omega (arith, size_class f k (act.PutWords k ∷ []) (act.Transfer k FromKept ∷ []) [])

  saved_is : (k : ℕ) (b : Bool) → copy_at (site_at f.task.sites k) ≡ b → b ≡ true → saved f k ≡ save_lines f f.scheme (region_of f.task k)
  saved_is k b is sure = ap (λ (t : Bool). cond t (save_lines f f.scheme (region_of f.task k)) 0) (is ∙ sure)

  size_copy : (k : ℕ) (to from : CoreEnd) (n : CoreExpr) → statement_at f k ≡ Some (stmt.Copy k to from n) → copy_at (site_at f.task.sites k) ≡ true
      → acts_size f (copy_acts by_task k) ≤ 25 * (1 + end_nodes to + end_nodes from + expr_nodes n) + sum_by (cost f) (k ∷ [])
  size_copy k to from n found copy =
      let valued : value_size (statement_at f k) ≡ end_size to + end_size from + expr_size n + 20 = ap value_size found in
      omega (
        arith,
        valued,
        end_few to,
        end_few from,
        expr_few n,
        size_joined f (act.Value k ∷ save_acts f.scheme (region_of f.task k)) (act.Choose k (anew_acts k) (again_acts k) ∷ []),
        size_save f f.scheme (region_of f.task k),
        size_choose f k (anew_acts k) (again_acts k),
        size_anew k,
        size_again k,
        keeps_few (frames.site_at f k),
        saved_is k true copy refl,
        one_site (cost f) k,
      )

  marks_copy : (k n : ℕ) → acts_marks (copy_acts by_task k) ≤ n + sum_by (signs f) (k ∷ [])
  marks_copy k n =
      omega (
        arith,
        marks_joined (act.Value k ∷ save_acts f.scheme (region_of f.task k)) (act.Choose k (anew_acts k) (again_acts k) ∷ []),
        marks_save f.scheme (region_of f.task k),
        marks_choose k (anew_acts k) (again_acts k),
        marks_class k (single_acts k) (private_acts k) (act.Transfer k Across ∷ []),
        marks_class k (act.PutWords k ∷ []) (act.Transfer k FromKept ∷ []) [],
        one_site (signs f) k,
      )

  -- that a copy stands there, as its acts are said of it
  copy_stands : (k : ℕ) → AllByRecursion Of (copy_acts by_task k) → copy_at (site_at f.task.sites k) ≡ true
  copy_stands k all =
      let choice : AllByRecursion Of (act.Choose k (anew_acts k) (again_acts k) ∷ []) =
      all_back Of (act.Value k ∷ save_acts f.scheme (region_of f.task k)) (act.Choose k (anew_acts k) (again_acts k) ∷ []) all in
      let parts = cast (choose_of_task c f.task k (anew_acts k) (again_acts k)) choice.0 in
      let anew = cast (by_class_of_task c f.task k (single_acts k) (private_acts k) (act.Transfer k Across ∷ [])) parts.1.0 in
      stands_copy (site_at f.task.sites k) anew.0.0 anew.0.1

  -- ---- an `if`

  size_if : (s : CoreStmt) (e : CoreExpr) (ys ns : List Act) (ks : List ℕ) (y n cy cn : ℕ) → statement_size s + 1 ≤ 14 * (1 + expr_nodes e + y + n)
      → (AllByRecursion Of ys → acts_size f ys ≤ 25 * y + cy) → (AllByRecursion Of ns → acts_size f ns ≤ 25 * n + cn)
      → IsOfTask c f.task (unless_plain ks s (act.Test e ys ns)) → act_size f (unless_plain ks s (act.Test e ys ns)) ≤ 25 * (1 + expr_nodes e + y + n) + (cy + cn)
  size_if s e ys ns [] y n cy cn plain yes_few no_few of = omega (arith, plain)
  size_if s e ys ns (k ∷ ks) y n cy cn plain yes_few no_few of =
      let parts = cast (test_of_task c f.task e ys ns) of in
      omega (arith, size_test f e ys ns, expr_few e, yes_few parts.1, no_few parts.2)

  marks_if : (s : CoreStmt) (e : CoreExpr) (ys ns : List Act) (ks : List ℕ) (y n cy cn : ℕ) → acts_marks ys ≤ y + cy → acts_marks ns ≤ n + cn
      → act_marks (unless_plain ks s (act.Test e ys ns)) ≤ 1 + expr_nodes e + y + n + (cy + cn)
  marks_if s e ys ns [] y n cy cn yes_few no_few = omega arith
  marks_if s e ys ns (k ∷ ks) y n cy cn yes_few no_few = omega (arith, marks_test e ys ns, yes_few, no_few)

  -- ---- statements

  mutual
    statement_few : (s : CoreStmt) → IsFound (statement_at f) s → AllByRecursion Of (statement_acts by_task s) → acts_size f (statement_acts by_task s) ≤ 25 * stmt_nodes s + sum_by (cost f) (site_numbers s)
    statement_few (stmt.Assign x e) found all = omega (arith, plain_few (stmt.Assign x e))
    statement_few (stmt.Point p array i) found all = omega (arith, plain_few (stmt.Point p array i))
    statement_few (stmt.If' e m yes_row n no_row) found all =
        let both = sum_by-append (cost f) (row_numbers yes_row) (row_numbers no_row) in
        omega (
          arith,
          both,
          size_if (stmt.If' e m yes_row n no_row) e (row_acts by_task yes_row) (row_acts by_task no_row) (row_numbers yes_row ++ row_numbers no_row) (row_nodes yes_row) (row_nodes no_row)
              (sum_by (cost f) (row_numbers yes_row)) (sum_by (cost f) (row_numbers no_row)) (plain_few (stmt.If' e m yes_row n no_row)) (row_few yes_row found.0) (row_few no_row found.1) all.0,
        )
    statement_few (stmt.Loop' i turns m row) found all = omega (arith, plain_few (stmt.Loop' i turns m row))
    statement_few (stmt.Io k x p args) found all = size_call k p x args found
    statement_few (stmt.Block' k m row) found all =
        size_block k (row_nodes row) 0 (row_acts by_task row) (row_numbers row) (row_few row found (all_front Of (row_acts by_task row) (act.Leave k (block_end_acts k) ∷ []) all.1.1))
    statement_few (stmt.Copy k to from n) found all = size_copy k to from n found (copy_stands k all)

    row_few : {n : _} (row : Row_of-CoreStmt n) → AreFound (statement_at f) row → AllByRecursion Of (row_acts by_task row) → acts_size f (row_acts by_task row) ≤ 25 * row_nodes row + sum_by (cost f) (row_numbers row)
    row_few end_of-CoreStmt found all = omega arith
    row_few (more_of-CoreStmt s rest) found all =
        omega (
          arith,
          size_joined f (statement_acts by_task s) (row_acts by_task rest),
          sum_by-append (cost f) (site_numbers s) (row_numbers rest),
          statement_few s found.0 (all_front Of (statement_acts by_task s) (row_acts by_task rest) all),
          row_few rest found.1 (all_back Of (statement_acts by_task s) (row_acts by_task rest) all),
        )

  pub body_few : (body : List CoreStmt) → AllByRecursion (IsFound (statement_at f)) body → AllByRecursion Of (body_acts by_task body) → acts_size f (body_acts by_task body) ≤ 25 * sum_by stmt_nodes body + sum_by (cost f) (all_numbers body)
  body_few [] found all = omega arith
  body_few (s ∷ rest) found all =
      omega (
        arith,
        size_joined f (statement_acts by_task s) (body_acts by_task rest),
        sum_by-append (cost f) (site_numbers s) (all_numbers rest),
        sum_by-cons stmt_nodes s rest,
        statement_few s found.0 (all_front Of (statement_acts by_task s) (body_acts by_task rest) all),
        body_few rest found.1 (all_back Of (statement_acts by_task s) (body_acts by_task rest) all),
      )

  mutual
    statement_signs : (s : CoreStmt) → acts_marks (statement_acts by_task s) ≤ stmt_nodes s + sum_by (signs f) (site_numbers s)
    statement_signs (stmt.Assign x e) = omega arith
    statement_signs (stmt.Point p array i) = omega arith
    statement_signs (stmt.If' e m yes_row n no_row) =
        let both = sum_by-append (signs f) (row_numbers yes_row) (row_numbers no_row) in
        omega (
          arith,
          both,
          marks_if (stmt.If' e m yes_row n no_row) e (row_acts by_task yes_row) (row_acts by_task no_row) (row_numbers yes_row ++ row_numbers no_row) (row_nodes yes_row) (row_nodes no_row)
              (sum_by (signs f) (row_numbers yes_row)) (sum_by (signs f) (row_numbers no_row)) (row_signs yes_row) (row_signs no_row),
        )
    statement_signs (stmt.Loop' i turns m row) = omega arith
    statement_signs (stmt.Io k x p args) = marks_call k (1 + reading_nodes x + sum_by expr_nodes args)
    statement_signs (stmt.Block' k m row) = marks_block k (row_nodes row) (row_acts by_task row) (row_numbers row) (row_signs row)
    statement_signs (stmt.Copy k to from n) = marks_copy k (1 + end_nodes to + end_nodes from + expr_nodes n)

    row_signs : {n : _} (row : Row_of-CoreStmt n) → acts_marks (row_acts by_task row) ≤ row_nodes row + sum_by (signs f) (row_numbers row)
    row_signs end_of-CoreStmt = omega arith
    row_signs (more_of-CoreStmt s rest) =
        omega (arith, marks_joined (statement_acts by_task s) (row_acts by_task rest), sum_by-append (signs f) (site_numbers s) (row_numbers rest), statement_signs s, row_signs rest)

  pub body_signs : (body : List CoreStmt) → acts_marks (body_acts by_task body) ≤ sum_by stmt_nodes body + sum_by (signs f) (all_numbers body)
  body_signs [] = omega arith
  body_signs (s ∷ rest) =
      omega (arith, marks_joined (statement_acts by_task s) (body_acts by_task rest), sum_by-append (signs f) (site_numbers s) (all_numbers rest), sum_by-cons stmt_nodes s rest, statement_signs s, body_signs rest)

-- an exit
pub exit_few : (f : Frame) (e : CoreExit) → act_size f (exit_act e) ≤ 25 * exit_nodes e
exit_few f (exit.Next t) = omega arith
exit_few f exit.Stop = omega arith
exit_few f (exit.Choose' e u (more_of-CoreExit a end_of-CoreExit) v (more_of-CoreExit b end_of-CoreExit)) =
    omega (arith, size_test f e (exit_act a ∷ []) (exit_act b ∷ []), expr_few e, exit_few f a, exit_few f b)

pub exit_signs : (e : CoreExit) → act_marks (exit_act e) ≤ exit_nodes e
exit_signs (exit.Next t) = omega arith
exit_signs exit.Stop = omega arith
exit_signs (exit.Choose' e u (more_of-CoreExit a end_of-CoreExit) v (more_of-CoreExit b end_of-CoreExit)) =
    omega (arith, marks_test e (exit_act a ∷ []) (exit_act b ∷ []), exit_signs a, exit_signs b)
