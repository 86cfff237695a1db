-- The faults and the checked form of a task, over the table of its pointers.
use Rattle.std.proofs.Common.{◌≡◌, ◌∙◌, ℕ, zero, suc, Bool, true, length-append, ◌+◌, ◌*◌, ◌≤◌, false, List, [], ◌∷◌, ◌++◌, length, sum_by, refl, sym, ap, arith}
use Rattle.std.proofs.Math.Nat.{suc-mul}
use Rattle.task_check.specs.declared.error.CheckError.{CheckError}
use Rattle.task_check.specs.Around.{Around}
use Rattle.task_check.specs.Faults.{inner_faults, close_faults, body_faults, exit_faults}
use Rattle.task_check.proofs.CountLemmas.{length_repeated}
use Rattle.task_check.proofs.NumberLemmas.{row_none_listed}
use Rattle.std.specs.Prelude.{slice_get}
use Rattle.std.specs.List.{AllByRecursion}
use Rattle.std.proofs.lemmas.List.Sums.{sum_by-cons, sum_by-append}
use Rattle.task_ast.specs.declared.tree.Place.{Place}
use Rattle.task_ast.specs.declared.tree.Stmt.{Stmt, Row_of-Stmt, end_of-Stmt, more_of-Stmt}
use Rattle.task_ast.specs.declared.tree.Stmt.TheVariants as stmt
use Rattle.task_ast.specs.declared.tree.Task.{Task}
use Rattle.task_ast.specs.declared.core_form.Array.{Array}
use Rattle.task_ast.specs.declared.core_form.CoreEnd.{CoreEnd}
use Rattle.task_ast.specs.declared.core_form.CoreEnd.TheVariants as end
use Rattle.task_ast.specs.declared.core_form.CoreExit.{CoreExit}
use Rattle.task_ast.specs.declared.core_form.CoreStmt.{CoreStmt}
use Rattle.task_ast.specs.declared.core_form.Site.{Site}
use Rattle.task_ast.specs.declared.core_form.Site.TheVariants as site
use Rattle.task_ast.specs.CoreSites.{room, longest}
use Rattle.task_ast.specs.WellFormed.{site_words}
use Rattle.task_check.specs.CheckedForm.{core_body, core_exit, core_task, reach_in, words_between, end_of}
use Rattle.task_check.specs.Names.{Meanings}
use Rattle.task_check.specs.Numbering.{all_numbered}
use Rattle.task_check.specs.Limits.{IsSmall, sites_limit, kept_limit, node_limit}
use Rattle.task_check.specs.Reach.{end_words}
use Rattle.task_check.specs.Sites.{row_has_sites, stmt_sites, row_sites, body_sites, repeated}
use Rattle.task_check.specs.Nodes.{nodes_of_stmt, nodes_of_row, nodes_of_task, nodes_of_loop}
use Rattle.task_check.specs.Table.{held, row, reached, with_addresses}
use Rattle.task_check.proofs.ReachLemmas.{reach_is}

-- a task that is made of its parts
pub task_made : (names : Meanings) (arrays : List Array) (t : Task) (rows rows' : List (List ℕ)) (body0 body : List Stmt) (name : List ℕ) (sites0 sites : List Site) (forms0 forms : List CoreStmt) (exit : CoreExit)
    → body0 ≡ t.body → held rows ≡ with_addresses (held []) (core_body names body0) → rows' ≡ rows → name ≡ t.name.text → sites0 ≡ [] → forms0 ≡ [] → body ≡ t.body
    → sites ≡ sites0 ++ body_sites (words_between names arrays (reached rows' arrays)) body → forms ≡ forms0 ++ all_numbered (length sites0 + 1) (core_body names body)
    → exit ≡ core_exit names t.exit → record { name = name; body = forms; exit = exit; sites = sites } ≡ core_task names arrays t
task_made names arrays t rows rows' body0 body name sites0 sites forms0 forms exit at_body0 noted same at_name no_sites no_forms at_body at_sites at_forms at_exit =
    let reach : reached rows' arrays ≡ reach_in names arrays t = ap (λ r. reached r arrays) same ∙ reach_is rows arrays (core_body names t.body) (noted ∙ ap (λ b. with_addresses (held []) (core_body names b)) at_body0) in
    let listed : sites ≡ body_sites (words_between names arrays (reach_in names arrays t)) t.body = at_sites ∙ (λ i. no_sites i ++ body_sites (words_between names arrays (reach i)) (at_body i)) in
    let numbered : forms ≡ all_numbered 1 (core_body names t.body) = at_forms ∙ (λ i. no_forms i ++ all_numbered (length (no_sites i) + 1) (core_body names (at_body i))) in
    λ i. record { name = at_name i; body = numbered i; exit = at_exit i; sites = listed i }

-- what holds of the faults of a task over the table of its pointers
module _ (names : Meanings) (arrays : List Array) (t : Task) (rows rows' : List (List ℕ)) (body0 : List Stmt) (at_body0 : body0 ≡ t.body)
    (noted : held rows ≡ with_addresses (held []) (core_body names body0)) (same : rows' ≡ rows) where
  reach_here : reached rows' arrays ≡ reach_in names arrays t
  reach_here = ap (λ r. reached r arrays) same ∙ reach_is rows arrays (core_body names t.body) (noted ∙ ap (λ b. with_addresses (held []) (core_body names b)) at_body0)

  -- directly in it
  abbrev pub here : Around
  here = record { names = names; reach = reached rows' arrays; barred = []; level = 0; branched = false }

  abbrev pub own_sites : List Site
  own_sites = body_sites (words_between names arrays (reached rows' arrays)) t.body

  -- its name's faults, its inside's and its brace's
  pub parts_are : (name : List CheckError) (nodes : ℕ) → name ++ inner_faults names arrays t ++ close_faults names arrays nodes t
      ≡ name ++ (body_faults here t.body ++ exit_faults names t.exit)
      ++ (sites_limit t.close (length own_sites) ++ kept_limit t.close (sum_by site_words own_sites) ++ node_limit t.close (nodes + nodes_of_task t))
  parts_are name nodes = λ i.
      name ++ (body_faults (record { names = names; reach = sym reach_here i; barred = []; level = 0; branched = false }) t.body ++ exit_faults names t.exit)
      ++ (sites_limit t.close (length (body_sites (words_between names arrays (sym reach_here i)) t.body))
      ++ kept_limit t.close (sum_by site_words (body_sites (words_between names arrays (sym reach_here i)) t.body)) ++ node_limit t.close (nodes + nodes_of_task t))

-- Sites are fewer than nodes, and each keeps at most 2,048 words.
positive : (n : ℕ) (a b : ℕ) → a ≤ b → n * a ≤ n * b
positive zero a b h = let e : 0 * a ≡ 0 = omega arith in omega (arith, e)
positive (suc n) a b h = omega (arith, h, positive n a b h, suc-mul n a, suc-mul n b)

loop_sites : (u : Bool) (turns sites nodes : ℕ) → sites ≤ nodes → (u ≡ false → sites ≡ 0) → turns * sites ≤ nodes_of_loop u turns nodes
loop_sites true turns sites nodes h none = omega (arith, positive turns sites nodes h)
loop_sites false turns sites nodes h none =
    let e : turns * sites ≡ 0 = ap (λ n. turns * n) (none refl) ∙ (let z : turns * 0 ≡ 0 = omega arith in z) in omega (arith, e)

module _ (words : Place → Place → ℕ) where
  mutual
    sites_few : (s : Stmt) → length (stmt_sites words s) ≤ nodes_of_stmt s
    sites_few (stmt.Assign x e) = omega arith
    sites_few (stmt.Point p to) = omega arith
    sites_few (stmt.If' c m yes_row n no_row) = omega (arith, length-append (row_sites words yes_row) (row_sites words no_row), row_sites_few yes_row, row_sites_few no_row)
    sites_few (stmt.For' i turns at m row word) =
        omega (arith, length_repeated turns (row_sites words row), loop_sites (row_has_sites row) turns (length (row_sites words row)) (nodes_of_row row) (row_sites_few row) (λ none. ap length (row_none_listed words row none)))
    sites_few (stmt.Io x p a args word) = omega arith
    sites_few (stmt.Block' a m row word) = omega (arith, row_sites_few row)
    sites_few (stmt.Dma to from n word) = omega arith

    row_sites_few : {n : _} (row : Row_of-Stmt n) → length (row_sites words row) ≤ nodes_of_row row
    row_sites_few end_of-Stmt = omega arith
    row_sites_few (more_of-Stmt s rest) = omega (arith, length-append (stmt_sites words s) (row_sites words rest), sites_few s, row_sites_few rest)

  pub body_sites_few : (body : List Stmt) → length (body_sites words body) ≤ sum_by nodes_of_stmt body
  body_sites_few [] = omega arith
  body_sites_few (s ∷ body) = omega (arith, length-append (stmt_sites words s) (body_sites words body), sites_few s, body_sites_few body, sum_by-cons nodes_of_stmt s body)

  -- where each copy keeps at most 2,048 words
  module _ (short : (to from : Place) → words to from ≤ 2048) where
    kept_append : (xs ys : List Site) → sum_by site_words xs ≤ 2048 * length xs → sum_by site_words ys ≤ 2048 * length ys → sum_by site_words (xs ++ ys) ≤ 2048 * length (xs ++ ys)
    kept_append xs ys h k = omega (arith, h, k, sum_by-append site_words xs ys, length-append xs ys)

    kept_repeated : (n : ℕ) (xs : List Site) → sum_by site_words xs ≤ 2048 * length xs → sum_by site_words (repeated n xs) ≤ 2048 * length (repeated n xs)
    kept_repeated zero xs h = omega arith
    kept_repeated (suc n) xs h = kept_append xs (repeated n xs) h (kept_repeated n xs h)

    mutual
      kept_few : (s : Stmt) → sum_by site_words (stmt_sites words s) ≤ 2048 * length (stmt_sites words s)
      kept_few (stmt.Assign x e) = omega arith
      kept_few (stmt.Point p to) = omega arith
      kept_few (stmt.If' c m yes_row n no_row) = kept_append (row_sites words yes_row) (row_sites words no_row) (row_kept_few yes_row) (row_kept_few no_row)
      kept_few (stmt.For' i turns at m row word) = kept_repeated turns (row_sites words row) (row_kept_few row)
      kept_few (stmt.Io x p a args word) = omega (arith, sum_by-cons site_words (site.Io a) [])
      kept_few (stmt.Block' a m row word) = omega (arith, sum_by-cons site_words (site.Block a) (row_sites words row), row_kept_few row)
      kept_few (stmt.Dma to from n word) = omega (arith, sum_by-cons site_words (site.Copy (words to from)) [], short to from)

      row_kept_few : {n : _} (row : Row_of-Stmt n) → sum_by site_words (row_sites words row) ≤ 2048 * length (row_sites words row)
      row_kept_few end_of-Stmt = omega arith
      row_kept_few (more_of-Stmt s rest) = kept_append (stmt_sites words s) (row_sites words rest) (kept_few s) (row_kept_few rest)

    pub body_kept_few : (body : List Stmt) → sum_by site_words (body_sites words body) ≤ 2048 * length (body_sites words body)
    body_kept_few [] = omega arith
    body_kept_few (s ∷ body) = kept_append (stmt_sites words s) (body_sites words body) (kept_few s) (body_kept_few body)

room_small : (arrays : List Array) (n : ℕ) → AllByRecursion IsSmall arrays → room (slice_get arrays n) ≤ 2048
room_small [] n h = omega arith
room_small (a ∷ arrays) zero h = h.0
room_small (a ∷ arrays) (suc n) h = room_small arrays n h.1

pub longest_small : (arrays : List Array) (numbers : List ℕ) → AllByRecursion IsSmall arrays → longest arrays numbers ≤ 2048
longest_small arrays [] h = omega arith
longest_small arrays (n ∷ numbers) h = let a = room_small arrays n h in let b = longest_small arrays numbers h in omega (arith, a, b)

-- over a table of pointers
end_small : (rows : List (List ℕ)) (arrays : List Array) (x : CoreEnd) → AllByRecursion IsSmall arrays → end_words arrays (reached rows arrays) x ≤ 2048
end_small rows arrays (end.Cell a i) h = longest_small arrays (a ∷ []) h
end_small rows arrays (end.Pointer p) h = longest_small arrays (row rows p) h

pub copied_small : (names : Meanings) (rows : List (List ℕ)) (arrays : List Array) → AllByRecursion IsSmall arrays → (to from : Place) → words_between names arrays (reached rows arrays) to from ≤ 2048
copied_small names rows arrays h to from = let a = end_small rows arrays (end_of names to) h in omega (arith, a)
