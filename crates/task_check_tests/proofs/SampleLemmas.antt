-- The program of the tests is one that some text has.
use Rattle.std.proofs.Common.{◌≡◌, ℕ, true, List, [], ◌∷◌, ◌++◌, None, is_some, refl, sym, ap, subst, ◌∙◌, arith, bytes_eq, true≢false}
use Rattle.std.specs.Cmp.Lexicographic.{bytes_decides}
use Rattle.ease_base.specs.declared.place.Pos.{Pos}
use Rattle.op_table.specs.Places.{place_of}
use Rattle.op_table.specs.PlaceLemmas.{placed}
use Rattle.op_table.specs.Reserved.{reserved_words, IsReserved}
use Rattle.task_ast.specs.declared.tree.Kind.TheVariants.{Nv}
use Rattle.task_ast.specs.declared.tree.Name.{Name}
use Rattle.task_ast.specs.declared.tree.Expr.TheVariants as expr
use Rattle.task_ast.specs.declared.tree.Target.TheVariants as target
use Rattle.task_ast.specs.declared.tree.Stmt.{Stmt}
use Rattle.task_ast.specs.declared.tree.Stmt.TheVariants as stmt
use Rattle.task_ast.specs.declared.tree.Exit.TheVariants as exit
use Rattle.task_ast.specs.declared.tree.Decl.{Decl}
use Rattle.task_ast.specs.declared.tree.Decl.TheVariants as decl
use Rattle.task_ast.specs.declared.tree.Task.{Task}
use Rattle.task_ast.specs.declared.tree.Program.{Program}
use Rattle.task_ast.specs.NameToken.{IsNameToken}
use Rattle.task_ast.specs.Readable.{IsReadable}

-- `x` and `t` aren't reserved
x_free : IsReserved (120 ∷ []) → ⊥
unfolding reserved_words place_of
x_free h =
    let found : is_some (place_of bytes_eq (120 ∷ []) reserved_words) ≡ true = placed bytes_eq bytes_decides (120 ∷ []) reserved_words h.0 h.1 in
    true≢false (sym found)

t_free : IsReserved (116 ∷ []) → ⊥
unfolding reserved_words place_of
t_free h =
    let found : is_some (place_of bytes_eq (116 ∷ []) reserved_words) ≡ true = placed bytes_eq bytes_decides (116 ∷ []) reserved_words h.0 h.1 in
    true≢false (sym found)

x_token : IsNameToken (120 ∷ [])
x_token = (refl, x_free)

t_token : IsNameToken (116 ∷ [])
t_token = (refl, t_free)

-- `nv word x; task t { a = b; NEXT(u); }`
abbrev sample : Name → Name → Name → Name → Name → Pos → Program
sample x t a b u close = record {
  decls = decl.Words Nv x None [] ∷ [];
  tasks = record { name = t; body = stmt.Assign (target.Scalar a) (expr.Read b) ∷ []; exit = exit.Next u; close = close } ∷ [];
}

sample_readable : (x t a b u : Name) (close : Pos) → x.text ≡ 120 ∷ [] → t.text ≡ 116 ∷ [] → IsReadable (sample x t a b u close)
sample_readable x t a b u close at_x at_t = record {
  decls = ((subst IsNameToken (sym at_x) x_token, (λ k e. cc), tt), tt);
  tasks = (record { name = subst IsNameToken (sym at_t) t_token; body = ((omega arith, tt, (omega arith, tt)), tt); exit = tt }, tt);
  some = omega arith;
  size = omega arith;
}

-- the same, as the tests build it
pub built_readable : (x t a b u : Name) (close : Pos) (decls0 decls : List Decl) (values : List ℕ) (body0 body kept : List Stmt) (tasks0 tasks : List Task) → x.text ≡ 120 ∷ [] → t.text ≡ 116 ∷ []
    → decls0 ≡ [] → values ≡ [] → decls ≡ decls0 ++ decl.Words Nv x None values ∷ [] → body0 ≡ [] → body ≡ body0 ++ stmt.Assign (target.Scalar a) (expr.Read b) ∷ []
    → kept ≡ body → tasks0 ≡ [] → tasks ≡ tasks0 ++ record { name = t; body = kept; exit = exit.Next u; close = close } ∷ [] → IsReadable (record { decls = decls; tasks = tasks })
built_readable x t a b u close decls0 decls values body0 body kept tasks0 tasks at_x at_t no_decls no_values at_decls no_body at_body same_body no_tasks at_tasks =
    let statements : kept ≡ stmt.Assign (target.Scalar a) (expr.Read b) ∷ [] = same_body ∙ at_body ∙ ap (λ (l : List Stmt). l ++ stmt.Assign (target.Scalar a) (expr.Read b) ∷ []) no_body in
    let all_decls : decls ≡ decl.Words Nv x None [] ∷ [] = at_decls ∙ (λ i. no_decls i ++ decl.Words Nv x None (no_values i) ∷ []) in
    let all_tasks = at_tasks ∙ (λ i. no_tasks i ++ record { name = t; body = statements i; exit = exit.Next u; close = close } ∷ []) in
    let same : sample x t a b u close ≡ record { decls = decls; tasks = tasks } = λ i. record { decls = sym all_decls i; tasks = sym all_tasks i } in
    subst IsReadable same (sample_readable x t a b u close at_x at_t)
