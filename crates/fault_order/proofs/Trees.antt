-- The places of every program that a text has.
use Rattle.std.proofs.Common.{◌≡◌, ◌∙◌, ℕ, zero, suc, List, [], ◌∷◌, ◌++◌, Option, Some, None, refl, sym, ap, subst, append_assoc, append-nil}
use Rattle.std.specs.List.{flat_map}
use Rattle.ease_base.specs.declared.place.Pos.{Pos}
use Rattle.task_ast.specs.declared.tree.Ann.{Ann}
use Rattle.task_ast.specs.declared.tree.Kind.{Kind}
use Rattle.task_ast.specs.declared.tree.Kind.TheVariants as kind
use Rattle.task_ast.specs.declared.tree.Name.{Name}
use Rattle.task_ast.specs.declared.tree.Expr.{Expr, end_of-Expr, more_of-Expr}
use Rattle.task_ast.specs.declared.tree.Expr.TheVariants as expr
use Rattle.task_ast.specs.declared.tree.Target.{Target}
use Rattle.task_ast.specs.declared.tree.Target.TheVariants as target
use Rattle.task_ast.specs.declared.tree.Place.{Place}
use Rattle.task_ast.specs.declared.tree.Place.TheVariants as place
use Rattle.task_ast.specs.declared.tree.Stmt.{Stmt, Row_of-Stmt, end_of-Stmt, more_of-Stmt, items-the_row-Stmt}
use Rattle.task_ast.specs.declared.tree.Stmt.TheVariants as stmt
use Rattle.task_ast.specs.declared.tree.Exit.{Exit}
use Rattle.task_ast.specs.declared.tree.Exit.TheVariants as exit
use Rattle.task_ast.specs.declared.tree.Exit.TheBlock.{hidden-the_row-Exit-0, shape-the_row-Exit-0}
use denote.Hole.Carrier.{hidden}
use Rattle.task_ast.specs.declared.tree.Decl.{Decl}
use Rattle.task_ast.specs.declared.tree.Decl.TheVariants as decl
use Rattle.task_ast.specs.declared.tree.Program.{Program}
use Rattle.task_ast.specs.Readable.{most_nested}
use Rattle.task_ast.specs.Rows.{row_of, row_shows}
use Rattle.task_tokens.specs.declared.token.Token.{Token}
use Rattle.task_tokens.specs.Division.{start}
use Rattle.task_text.specs.declared.cursor.Numeral.{Numeral}
use Rattle.task_text.specs.declared.loop_head.Start.{Start}
use Rattle.task_text.specs.declared.loop_head.Head.{Head}
use Rattle.task_text.specs.declared.task.Body.{Body}
use Rattle.task_text.specs.Forms.{symbol, name, Form, IsBetween}
use Rattle.task_text.specs.Grammar.{sign_of, prefix_of, IsExpr, IsValue, IsIndex, IsDeclared, IsWorded, IsDecl, IsTarget, IsAddress, IsPlace, IsArgument, IsTest, IsStart, IsBound, IsHead, IsCall, IsSetting, IsGiving, IsAssigning, IsCopy, IsBody, IsBlock, IsElse, IsIf, IsLoop, IsStmt, IsLeave, IsExit, IsWork, IsTask}
use Rattle.task_text.specs.Reads.{Reads}
use Rattle.task_check.specs.Order.{expr_places, target_places, reading_places, place_places, stmt_places, row_places, exit_places, decl_places, task_places, program_places, Rise}
use Rattle.fault_order.proofs.Parts.{IsPart, part_same, part_of_same, part_more, part_behind, part_join, part_through, part_rises}
use Rattle.fault_order.proofs.Rising.{places, places_append, tokens_rise}
use Rattle.fault_order.proofs.Shown.{Shows, word-shows, mark-shows, named-shows, numbered-shows, done-shows, then-shows, skip-shows, either-shows, inside_part, enclosed-shows, all-show}

-- ---- expressions

expr_shown : (e : Expr) (level : ℕ) (tokens : List Token) → IsExpr e level tokens → IsPart (expr_places e) (places tokens)
expr_shown (expr.Number n at) level tokens is = subst (λ (ts : List Token). IsPart (at ∷ []) (places ts)) (sym is) (part_same (at ∷ []))
expr_shown (expr.Read x) level tokens is = subst (λ (ts : List Token). IsPart (x.at ∷ []) (places ts)) (sym is) (part_same (x.at ∷ []))
expr_shown (expr.Index' x u (more_of-Expr i end_of-Expr)) level tokens is =
    let inner = part_through (expr_places i) (places is.2.inner) (places is.0) (expr_shown i 0 is.2.inner is.2.inside) (inside_part _ _ _ is.0 is.2) in
    subst (λ (ts : List Token). IsPart (x.at ∷ expr_places i) (places ts)) (sym is.1) (part_join (x.at ∷ []) (expr_places i) (x.at ∷ []) (places is.0) (part_same (x.at ∷ [])) inner)
expr_shown (expr.Paren' u (more_of-Expr e end_of-Expr)) level tokens is =
    part_through (expr_places e) (places is.inner) (places tokens) (expr_shown e 0 is.inner is.inside) (inside_part _ _ _ tokens is)
expr_shown (expr.One' o u (more_of-Expr e end_of-Expr)) level tokens is =
    subst (λ (ts : List Token). IsPart (expr_places e) (places ts)) (sym is.2) (part_more is.0 (expr_places e) (places is.1) (expr_shown e _ is.1 is.4))
expr_shown (expr.Two' o u (more_of-Expr a end_of-Expr) v (more_of-Expr b end_of-Expr)) level tokens is =
    let left = expr_shown a _ is.1 is.5 in
    let right = part_more is.0 (expr_places b) (places is.2) (expr_shown b _ is.2 is.6) in
    let same : places tokens ≡ places is.1 ++ places (symbol (sign_of o) is.0 ∷ is.2) = ap places is.3 ∙ places_append is.1 (symbol (sign_of o) is.0 ∷ is.2) in
    subst (IsPart (expr_places a ++ expr_places b)) (sym same) (part_join (expr_places a) (expr_places b) (places is.1) (is.0 ∷ places is.2) left right)

value-shows : Shows [] expr_places IsValue
value-shows = record { shows = λ e tokens is. expr_shown e 0 tokens is.0 }

index-shows : Shows [] expr_places IsIndex
index-shows = enclosed-shows value-shows

-- ---- declarations

declared-shows : (k : Kind) → Shows [] decl_places (IsDeclared k)
declared-shows k = then-shows named-shows (λ x. skip-shows (λ n. skip-shows (λ values. skip-shows (λ _. done-shows (decl.Words k x n values) (part_same (x.at ∷ []))))))

worded-shows : (k : Kind) → Shows [] decl_places (IsWorded k)
worded-shows kind.Const = declared-shows kind.Const
worded-shows kind.Nv = declared-shows kind.Nv
worded-shows kind.Vol = either-shows (skip-shows (λ _. then-shows named-shows (λ x. skip-shows (λ _. done-shows (decl.Pointer x) (part_same (x.at ∷ [])))))) (declared-shows kind.Vol)

decl-shows : Shows [] decl_places IsDecl
decl-shows =
    either-shows (skip-shows (λ _. then-shows named-shows (λ x. skip-shows (λ n. skip-shows (λ _. done-shows (decl.Peripheral x n.value) (part_same (x.at ∷ [])))))))
    (skip-shows (λ k. skip-shows (λ _. worded-shows k)))

-- ---- parts of statements

target-shows : Shows [] target_places IsTarget
target-shows = then-shows named-shows (λ x. either-shows (then-shows index-shows (λ i. done-shows (target.Element x i) (part_same (x.at ∷ expr_places i)))) (done-shows (target.Scalar x) (part_same (x.at ∷ []))))

address-shows : Shows [] place_places IsAddress
address-shows = then-shows named-shows (λ x. either-shows (then-shows index-shows (λ i. done-shows (place.Element x i) (part_same (x.at ∷ expr_places i)))) (done-shows (place.Scalar x) (part_same (x.at ∷ []))))

place-shows : Shows [] place_places IsPlace
place-shows = either-shows (skip-shows (λ _. address-shows)) (then-shows named-shows (λ x. done-shows (place.Bare x) (part_same (x.at ∷ []))))

argument-shows : Shows [] expr_places IsArgument
argument-shows = skip-shows (λ _. value-shows)

test-shows : Shows [] expr_places IsTest
test-shows = skip-shows (λ _. enclosed-shows value-shows)

start-shows : Shows [] (λ (s : Start). s.word ∷ s.variable.at ∷ []) IsStart
start-shows = then-shows word-shows (λ w. skip-shows (λ _. then-shows named-shows (λ i. skip-shows (λ _. skip-shows (λ _. skip-shows (λ _. done-shows _ (part_same (w ∷ i.at ∷ []))))))))

bound-shows : {text : List ℕ} → Shows [] (λ (n : Numeral). n.at ∷ []) (IsBound text)
bound-shows = skip-shows (λ _. skip-shows (λ _. then-shows numbered-shows (λ n. skip-shows (λ _. done-shows n (part_same (n.at ∷ []))))))

head-shows : Shows [] (λ (h : Head). h.word ∷ h.variable.at ∷ h.turns.at ∷ []) IsHead
head-shows = then-shows start-shows (λ s. then-shows bound-shows (λ n. skip-shows (λ _. done-shows _ (part_same (s.word ∷ s.variable.at ∷ n.at ∷ [])))))

-- ---- statements

call-shows : (x : Option Target) → Shows (reading_places x) stmt_places (IsCall x)
call-shows x =
    then-shows word-shows (λ at. skip-shows (λ _. then-shows named-shows (λ p. skip-shows (λ _. skip-shows (λ a. then-shows (all-show argument-shows)
    (λ args. skip-shows (λ _. skip-shows (λ _. done-shows (stmt.Io x p a args at) (part_of_same _ _ (sym (called (reading_places x) at p.at (flat_map expr_places args))))))))))))
  where
    called : (xs : List Pos) (a b : Pos) (ys : List Pos) → xs ++ a ∷ [] ++ b ∷ [] ++ ys ≡ xs ++ a ∷ b ∷ ys
    called xs a b ys = simp append_assoc

setting-shows : (x : Target) → Shows (target_places x) stmt_places (IsSetting x)
setting-shows (target.Scalar p) = record { shows = λ y tokens h. set.shows y tokens h }
  where
    set : Shows (p.at ∷ []) stmt_places (λ y tokens. IsSetting (target.Scalar p) y tokens)
    set = skip-shows (λ _. then-shows address-shows (λ to. skip-shows (λ _. done-shows (stmt.Point p to) (part_same (p.at ∷ place_places to)))))
setting-shows (target.Element x i) = record { shows = λ y tokens h. absurd h }

giving-shows : (x : Target) → Shows (target_places x) stmt_places (IsGiving x)
giving-shows x = then-shows value-shows (λ e. skip-shows (λ _. done-shows (stmt.Assign x e) (part_same (target_places x ++ expr_places e))))

assigning-shows : Shows [] stmt_places IsAssigning
assigning-shows = then-shows target-shows (λ x. skip-shows (λ _. either-shows (call-shows (Some x)) (either-shows (setting-shows x) (giving-shows x))))

copy-shows : Shows [] stmt_places IsCopy
copy-shows =
    then-shows word-shows (λ at. skip-shows (λ _. then-shows place-shows (λ to. skip-shows (λ _. then-shows place-shows (λ from. skip-shows (λ _. then-shows value-shows
    (λ n. skip-shows (λ _. skip-shows (λ _. done-shows (stmt.Dma to from n at) (part_same (at ∷ place_places to ++ place_places from ++ expr_places n)))))))))))

rows_places : (n : _) (row : Row_of-Stmt n) → row_places row ≡ flat_map stmt_places (items-the_row-Stmt n row)
rows_places _ end_of-Stmt = refl
rows_places _ (more_of-Stmt s rest) = ap (λ ps. stmt_places s ++ ps) (rows_places _ rest)

body_places : (body : List Stmt) → row_places (row_of body).1 ≡ flat_map stmt_places body
body_places body = rows_places (row_of body).0 (row_of body).1 ∙ ap (flat_map stmt_places) (row_shows body)

if_places : (c : Expr) (xs ys : List Stmt) → stmt_places (stmt.If c xs ys) ≡ expr_places c ++ flat_map stmt_places xs ++ flat_map stmt_places ys
if_places c xs ys =
    ap (λ ps. expr_places c ++ ps ++ row_places (row_of ys).1) (body_places xs) ∙ ap (λ ps. expr_places c ++ flat_map stmt_places xs ++ ps) (body_places ys)

loop_places : (i : Name) (turns : ℕ) (at : Pos) (body : List Stmt) (word : Pos) → stmt_places (stmt.For i turns at body word) ≡ word ∷ i.at ∷ at ∷ flat_map stmt_places body
loop_places i turns at body word = ap (λ ps. word ∷ i.at ∷ at ∷ ps) (body_places body)

block_places : (a : Ann) (body : List Stmt) (word : Pos) → stmt_places (stmt.Block a body word) ≡ word ∷ flat_map stmt_places body
block_places a body word = ap (λ ps. word ∷ ps) (body_places body)

module _ {P : Form Stmt} (each : Shows [] stmt_places P) where
  body-shows : Shows [] (flat_map stmt_places) (IsBody P)
  body-shows = enclosed-shows (all-show each)

  block-shows : Shows [] stmt_places (IsBlock P)
  block-shows = then-shows word-shows (λ at. skip-shows (λ a. then-shows body-shows (λ body. done-shows (stmt.Block a body at) (part_of_same _ _ (block_places a body at)))))

  else-shows : Shows [] (flat_map stmt_places) (IsElse P)
  else-shows = either-shows (skip-shows (λ _. body-shows)) (done-shows [] tt)

  if-shows : Shows [] stmt_places (IsIf P)
  if-shows = then-shows test-shows (λ c. then-shows body-shows (λ xs. then-shows else-shows (λ ys. done-shows (stmt.If c xs ys) (part_of_same _ _ (if_places c xs ys)))))

  loop-shows : Shows [] stmt_places (IsLoop P)
  loop-shows =
      then-shows head-shows (λ h. then-shows body-shows (λ body. done-shows _ (part_of_same _ _ (loop_places h.variable h.turns.value h.turns.at body h.word))))

stmt-shows : (n : ℕ) → Shows [] stmt_places (IsStmt n)
unfolding IsStmt
stmt-shows zero = record { shows = λ s tokens h. absurd h }
stmt-shows (suc n) =
    let each = stmt-shows n in
    either-shows assigning-shows (either-shows (call-shows None) (either-shows copy-shows (either-shows (block-shows each) (either-shows (if-shows each) (loop-shows each)))))

-- ---- exits and tasks

leave-shows : Shows [] exit_places IsLeave
leave-shows =
    either-shows (skip-shows (λ _. skip-shows (λ _. then-shows named-shows (λ x. skip-shows (λ _. skip-shows (λ _. done-shows (exit.Next x) (part_same (x.at ∷ []))))))))
    (skip-shows (λ _. skip-shows (λ _. done-shows exit.Stop tt)))

choose_places : (c : Expr) (a b : Exit) → exit_places (exit.Choose c a b) ≡ expr_places c ++ exit_places a ++ exit_places b
unfolding hidden-the_row-Exit-0 shape-the_row-Exit-0 hidden
choose_places c a b = refl

exit-shows : (n : ℕ) → Shows [] exit_places (IsExit n)
unfolding IsExit
exit-shows zero = leave-shows
exit-shows (suc n) =
    let each = exit-shows n in
    either-shows (then-shows test-shows (λ c. then-shows each (λ a. skip-shows (λ _. then-shows each (λ b. done-shows (exit.Choose c a b) (part_of_same _ _ (choose_places c a b))))))) leave-shows

work-shows : Shows [] (λ (b : Body). flat_map stmt_places b.stmts ++ exit_places b.exit) IsWork
work-shows = then-shows (all-show (stmt-shows most_nested)) (λ stmts. then-shows (exit-shows most_nested) (λ e. done-shows _ (part_same (flat_map stmt_places stmts ++ exit_places e))))

task-shows : Shows [] task_places IsTask
task-shows =
    skip-shows (λ _. then-shows named-shows (λ x. skip-shows (λ _. then-shows work-shows (λ b. then-shows mark-shows
    (λ close. done-shows _ (part_of_same _ _ (closed x.at (flat_map stmt_places b.stmts) (exit_places b.exit) close)))))))
  where
    closed : (a : Pos) (xs ys : List Pos) (z : Pos) → a ∷ xs ++ ys ++ z ∷ [] ≡ a ∷ [] ++ (xs ++ ys) ++ z ∷ []
    closed a xs ys z = refl

-- ---- programs

-- the places of a program that a text has rise
pub read_places_rise : (text : List ℕ) (p : Program) → Reads text p → Rise (program_places p)
read_places_rise text p reads =
    let is = reads.program in
    let decls = (all-show decl-shows).shows p.decls is.front is.decls in
    let tasks = (all-show task-shows).shows p.tasks is.back is.tasks in
    let both = part_join (flat_map decl_places p.decls) (flat_map task_places p.tasks) (places is.front) (places is.back) decls tasks in
    let all = subst (IsPart (program_places p)) (sym (ap places is.whole ∙ places_append is.front is.back)) both in
    part_rises (program_places p) _ all (tokens_rise start reads.pieces [] reads.divides.each)
