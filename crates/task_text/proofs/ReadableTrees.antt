-- What every tree meets that some text has.
use Rattle.std.proofs.Common.{◌≡◌, ◌<◌, ◌≤◌, ℕ, zero, suc, ◌+◌, ◌^◌, List, [], ◌∷◌, length, sum_by, Option, Some, None, Result, Ok, Err, refl, sym, ap, subst, arith}
use Rattle.std.specs.Prelude.{IfOk}
use Rattle.std.specs.List.{AllByRecursion}
use Rattle.std.specs.Option.{ForSome}
use Rattle.std.proofs.lemmas.List.{length-append}
use Rattle.std.proofs.lemmas.List.Sums.{sum_by-cons}
use Rattle.task_ast.specs.declared.tree.Ann.TheVariants as ann
use Rattle.task_ast.specs.declared.tree.Kind.{Kind}
use Rattle.task_ast.specs.declared.tree.Kind.TheVariants as kind
use Rattle.task_ast.specs.declared.tree.Expr.{Expr, end_of-Expr, more_of-Expr}
use Rattle.task_ast.specs.declared.tree.Expr.TheVariants as expr
use Rattle.task_ast.specs.declared.tree.Target.{Target}
use Rattle.task_ast.specs.declared.tree.Target.TheVariants as target
use Rattle.task_ast.specs.declared.tree.Place.{Place}
use Rattle.task_ast.specs.declared.tree.Place.TheVariants as place
use Rattle.task_ast.specs.declared.tree.Stmt.{Stmt}
use Rattle.task_ast.specs.declared.tree.Stmt.TheVariants as stmt
use Rattle.task_ast.specs.declared.tree.Exit.{Exit}
use Rattle.task_ast.specs.declared.tree.Exit.TheVariants as exit
use Rattle.task_ast.specs.declared.tree.Exit.TheBlock.{hidden-the_row-Exit-0, shape-the_row-Exit-0}
use denote.Hole.Carrier.{hidden}
use Rattle.task_ast.specs.declared.tree.Decl.TheVariants as decl
use Rattle.task_ast.specs.declared.tree.Program.{Program}
use Rattle.task_ast.specs.Readable.{IsWord, HasWords, most_nested, IsReadableExpr, IsReadableTarget, IsReadablePlace, IsReadableAddress, IsReadableAnn, IsReadableStmt, IsReadableExit, IsReadableDecl, IsReadableTask, IsReadable, readable_if, readable_loop, readable_block}
use Rattle.task_ast.specs.Sizes.{expr_size, target_size, reading_size, place_size, stmt_size, exit_size, decl_size, task_size, size_if, size_loop, size_block}
use Rattle.task_tokens.specs.declared.token.Sign.TheVariants as sign
use Rattle.task_tokens.specs.declared.token.Token.{Token}
use Rattle.task_tokens.specs.Division.{Piece, Divides, start, tokens_of}
use Rattle.task_tokens.specs.Fair.{IsFair}
use Rattle.task_text.specs.declared.error.TextError.{TextError}
use Rattle.task_text.specs.declared.cursor.Numeral.{Numeral}
use Rattle.task_text.specs.declared.loop_head.Head.{Head}
use Rattle.task_text.specs.declared.task.Body.{Body}
use Rattle.task_text.specs.Forms.{symbol, Form, IsBetween}
use Rattle.task_text.specs.Grammar.{sign_of, IsExpr, IsValue, IsIndex, IsKind, IsSize, IsNextValue, AreValues, IsList, IsInit, IsDeclared, IsWorded, IsDecl, IsTarget, IsAddress, IsPlace, IsAnn, IsArgument, IsTest, IsStart, IsBound, IsStep, IsHead, IsCall, IsSetting, IsGiving, IsAssigning, IsCopy, IsBody, IsBlock, IsElse, IsIf, IsLoop, IsStmt, IsLeave, IsExit, IsWork, IsTask}
use Rattle.task_text.specs.Reads.{Reads, IsResult}
use Rattle.task_text.proofs.Fits.{AreFair, fair_front, fair_back, fair_inside, inside_shorter, Fits, word-fits, mark-fits, zero-fits, same-fits, named-fits, numbered-fits, done-fits, then-fits, either-fits, enclosed-fits, all-fit}

-- ---- expressions

-- a tree's words fit, and it has no more parts than tokens
abbrev FitsIn : (size : ℕ) → Type 0 → List Token → Type 0
FitsIn size words tokens = words × (size ≤ length tokens)

expr_fits : (e : Expr) (level : ℕ) (tokens : List Token) → IsExpr e level tokens → AreFair tokens → FitsIn (expr_size e) (HasWords e) tokens
expr_fits (expr.Number n at) level tokens is fair = ((subst AreFair is fair).0, omega (arith, ap length is))
expr_fits (expr.Read x) level tokens is fair = (tt, omega (arith, ap length is))
expr_fits (expr.Index' x u (more_of-Expr i end_of-Expr)) level tokens is fair =
    let between = is.2 in
    let index_fair = (subst AreFair is.1 fair).1 in
    let inner = expr_fits i 0 between.inner between.inside (fair_inside _ _ _ is.0 between index_fair) in
    (inner.0, omega (arith, inner.1, ap length is.1, inside_shorter _ _ _ is.0 between))
expr_fits (expr.Paren' u (more_of-Expr e end_of-Expr)) level tokens is fair =
    let inner = expr_fits e 0 is.inner is.inside (fair_inside _ _ _ tokens is fair) in
    (inner.0, omega (arith, inner.1, inside_shorter _ _ _ tokens is))
expr_fits (expr.One' o u (more_of-Expr e end_of-Expr)) level tokens is fair =
    let inner = expr_fits e _ is.1 is.4 (subst AreFair is.2 fair).1 in
    (inner.0, omega (arith, inner.1, ap length is.2))
expr_fits (expr.Two' o u (more_of-Expr a end_of-Expr) v (more_of-Expr b end_of-Expr)) level tokens is fair =
    let all = subst AreFair is.3 fair in
    let left = expr_fits a _ is.1 is.5 (fair_front is.1 _ all) in
    let right = expr_fits b _ is.2 is.6 (fair_back is.1 _ all).1 in
    ((left.0, right.0), omega (arith, left.1, right.1, ap length is.3, length-append is.1 (symbol (sign_of o) is.0 ∷ is.2)))

value-fits : Fits 0 expr_size IsReadableExpr IsValue
value-fits = record { fits = λ e tokens is fair. let inner = expr_fits e 0 tokens is.0 fair in ((is.1, inner.0), omega (arith, inner.1)) }

-- ---- declarations

abbrev Always : {T : Type 0} → T → Type 0
Always x = Unit {0}

kind-fits : Fits 0 (λ k. 0) Always IsKind
kind-fits =
    either-fits (then-fits word-fits (λ _ _. then-fits word-fits (λ _ _. done-fits kind.Const tt (omega arith))))
    (either-fits (then-fits word-fits (λ _ _. done-fits kind.Nv tt (omega arith))) (done-fits kind.Vol tt (omega arith)))

some-word : (n : ℕ) → IsWord n → ForSome (Some n) IsWord
some-word n h = λ m e. let same : n ≡ m = cc in subst IsWord same h

no-word : ForSome None IsWord
no-word = λ m e. cc

size-fits : Fits 0 (λ size. 0) (λ size. ForSome size IsWord) IsSize
size-fits = either-fits (then-fits (enclosed-fits numbered-fits) (λ n h. done-fits (Some n.value) (some-word n.value h) (omega arith))) (done-fits None no-word (omega arith))

next_value-fits : Fits 0 (λ n. 1) IsWord IsNextValue
next_value-fits = then-fits mark-fits (λ _ _. then-fits numbered-fits (λ n h. done-fits n.value h (omega arith)))

counted : (xs : List ℕ) → sum_by (λ n. 1) xs ≡ length xs
counted [] = refl
counted (x ∷ xs) = omega (arith, sum_by-cons (λ n. 1) x xs, counted xs)

values-fit : Fits 0 length (AllByRecursion IsWord) AreValues
values-fit = then-fits numbered-fits (λ n h. then-fits (all-fit next_value-fits) (λ ns k. done-fits (n.value ∷ ns) (h, k) (omega (arith, counted ns))))

list-fits : Fits 0 length (AllByRecursion IsWord) IsList
list-fits =
    either-fits (record { fits = λ xs tokens h fair. let f = (enclosed-fits values-fit).fits xs tokens h fair in (f.0, omega (arith, f.1)) })
    (then-fits numbered-fits (λ n h. done-fits (n.value ∷ []) (h, tt) (omega arith)))

init-fits : Fits 0 length (AllByRecursion IsWord) IsInit
init-fits = either-fits (then-fits mark-fits (λ _ _. record { fits = λ xs tokens h fair. let f = list-fits.fits xs tokens h fair in (f.0, omega (arith, f.1)) })) (done-fits [] tt (omega arith))

declared-fits : {before : ℕ} (k : Kind) → Fits before decl_size IsReadableDecl (IsDeclared k)
declared-fits k =
    then-fits named-fits (λ x h. then-fits size-fits (λ n i. then-fits init-fits (λ values j. then-fits mark-fits (λ _ _. done-fits (decl.Words k x n values) (h, i, j) (omega arith)))))

worded-fits : {before : ℕ} (k : Kind) → Fits before decl_size IsReadableDecl (IsWorded k)
worded-fits kind.Const = declared-fits kind.Const
worded-fits kind.Nv = declared-fits kind.Nv
worded-fits kind.Vol = either-fits (then-fits mark-fits (λ _ _. then-fits named-fits (λ x h. then-fits mark-fits (λ _ _. done-fits (decl.Pointer x) h (omega arith))))) (declared-fits kind.Vol)

decl-fits : Fits 0 decl_size IsReadableDecl IsDecl
decl-fits =
    either-fits (then-fits word-fits (λ _ _. then-fits named-fits (λ x h. then-fits numbered-fits (λ n i. then-fits mark-fits (λ _ _. done-fits (decl.Peripheral x n.value) (h, i) (omega arith))))))
    (then-fits kind-fits (λ k _. then-fits word-fits (λ _ _. worded-fits k)))

-- ---- parts of statements

index-fits : Fits 0 (λ e. 2 + expr_size e) IsReadableExpr IsIndex
index-fits = enclosed-fits value-fits

target-fits : Fits 0 target_size IsReadableTarget IsTarget
target-fits = then-fits named-fits (λ x _. either-fits (then-fits index-fits (λ i h. done-fits (target.Element x i) h (omega arith))) (done-fits (target.Scalar x) tt (omega arith)))

address-fits : Fits 0 place_size IsReadableAddress IsAddress
address-fits = then-fits named-fits (λ x _. either-fits (then-fits index-fits (λ i h. done-fits (place.Element x i) h (omega arith))) (done-fits (place.Scalar x) tt (omega arith)))

address-place : (x : Place) → IsReadableAddress x → IsReadablePlace x
address-place (place.Bare x) h = absurd h
address-place (place.Scalar x) h = tt
address-place (place.Element x i) h = h

place-fits : Fits 0 place_size IsReadablePlace IsPlace
place-fits =
    either-fits (then-fits mark-fits (λ _ _. record { fits = λ x tokens h fair. let f = address-fits.fits x tokens h fair in (address-place x f.0, omega (arith, f.1)) }))
    (then-fits named-fits (λ x _. done-fits (place.Bare x) tt (omega arith)))

ann-fits : Fits 0 (λ a. 0) IsReadableAnn IsAnn
ann-fits =
    either-fits (then-fits word-fits (λ _ _. done-fits ann.Single tt (omega arith))) (either-fits (then-fits word-fits (λ _ _. done-fits ann.Always tt (omega arith)))
    (then-fits word-fits (λ _ _. then-fits (enclosed-fits numbered-fits) (λ n h. done-fits (ann.Timely n.value) h (omega arith)))))

argument-fits : Fits 0 expr_size IsReadableExpr IsArgument
argument-fits = then-fits mark-fits (λ _ _. record { fits = λ e tokens h fair. let f = value-fits.fits e tokens h fair in (f.0, omega (arith, f.1)) })

test-fits : Fits 0 expr_size IsReadableExpr IsTest
test-fits = then-fits word-fits (λ _ _. record { fits = λ e tokens h fair. let f = index-like.fits e tokens h fair in (f.0, omega (arith, f.1)) })
  where
    index-like : Fits 0 (λ e. 2 + expr_size e) IsReadableExpr (λ e tokens. IsBetween sign.ParenOpen sign.ParenClose (IsValue e) tokens)
    index-like = enclosed-fits value-fits

start-fits : Fits 0 (λ s. 1) Always IsStart
start-fits = then-fits word-fits (λ w _. then-fits mark-fits (λ _ _. then-fits named-fits (λ i _. then-fits mark-fits (λ _ _. then-fits zero-fits (λ _ _. then-fits mark-fits (λ _ _. done-fits _ tt (omega arith)))))))

bound-fits : {text : List ℕ} → Fits 0 (λ n. 0) (λ (n : Numeral). IsWord n.value) (IsBound text)
bound-fits = then-fits same-fits (λ _ _. then-fits mark-fits (λ _ _. then-fits numbered-fits (λ n h. then-fits mark-fits (λ _ _. done-fits n h (omega arith)))))

step-fits : {text : List ℕ} → Fits 0 (λ at. 0) Always (IsStep text)
step-fits = then-fits same-fits (λ _ _. then-fits mark-fits (λ _ _. record { fits = λ at tokens w fair. (tt, omega arith) }))

head-fits : Fits 0 (λ h. 1) (λ (h : Head). IsWord h.turns.value) IsHead
head-fits = then-fits start-fits (λ s _. then-fits bound-fits (λ n h. then-fits step-fits (λ _ _. done-fits _ h (omega arith))))

-- ---- statements

some-target : (x : Target) → IsReadableTarget x → ForSome (Some x) IsReadableTarget
some-target x h = λ y e. let same : x ≡ y = cc in subst IsReadableTarget same h

no-target : ForSome None IsReadableTarget
no-target = λ y e. cc

module _ (level : ℕ) (low : level ≤ most_nested) where
  call-fits : {before : ℕ} (x : Option Target) → ForSome x IsReadableTarget → reading_size x ≤ before → Fits before stmt_size (IsReadableStmt level) (IsCall x)
  call-fits x good small =
      then-fits word-fits (λ at _. then-fits mark-fits (λ _ _. then-fits named-fits (λ p _. then-fits mark-fits (λ _ _. then-fits ann-fits (λ a h. then-fits (all-fit argument-fits)
      (λ args i. then-fits mark-fits (λ _ _. then-fits mark-fits (λ _ _. done-fits (stmt.Io x p a args at) (low, good, h, i) (omega (arith, small))))))))))

  setting-fits : {before : ℕ} (x : Target) → Fits before stmt_size (IsReadableStmt level) (IsSetting x)
  setting-fits {before} (target.Scalar p) = record { fits = λ y tokens h fair. set.fits y tokens h fair }
    where
      set : Fits before stmt_size (IsReadableStmt level) (λ y tokens. IsSetting (target.Scalar p) y tokens)
      set = then-fits mark-fits (λ _ _. then-fits address-fits (λ to h. then-fits mark-fits (λ _ _. done-fits (stmt.Point p to) (low, h) (omega arith))))
  setting-fits (target.Element x i) = record { fits = λ y tokens h fair. absurd h }

  giving-fits : {before : ℕ} (x : Target) → IsReadableTarget x → target_size x ≤ before → Fits before stmt_size (IsReadableStmt level) (IsGiving x)
  giving-fits x good small = then-fits value-fits (λ e h. then-fits mark-fits (λ _ _. done-fits (stmt.Assign x e) (low, good, h) (omega (arith, small))))

  assigning-fits : Fits 0 stmt_size (IsReadableStmt level) IsAssigning
  assigning-fits = then-fits target-fits (λ x h. then-fits mark-fits (λ _ _. either-fits (call-fits (Some x) (some-target x h) (omega arith)) (either-fits (setting-fits x) (giving-fits x h (omega arith)))))

  copy-fits : Fits 0 stmt_size (IsReadableStmt level) IsCopy
  copy-fits =
      then-fits word-fits (λ at _. then-fits mark-fits (λ _ _. then-fits place-fits (λ to h. then-fits mark-fits (λ _ _. then-fits place-fits (λ from i. then-fits mark-fits (λ _ _. then-fits value-fits
      (λ n j. then-fits mark-fits (λ _ _. then-fits mark-fits (λ _ _. done-fits (stmt.Dma to from n at) (low, h, i, j) (omega arith))))))))))

  module _ {P : Form Stmt} (each : Fits 0 stmt_size (IsReadableStmt (1 + level)) P) where
    body-fits : Fits 0 (λ body. 2 + sum_by stmt_size body) (AllByRecursion (IsReadableStmt (1 + level))) (IsBody P)
    body-fits = enclosed-fits (all-fit each)

    block-fits : Fits 0 stmt_size (IsReadableStmt level) (IsBlock P)
    block-fits =
        then-fits word-fits (λ at _. then-fits (enclosed-fits ann-fits) (λ a h. then-fits body-fits
        (λ body i. done-fits (stmt.Block a body at) (subst (λ (Q : Type 0). Q) (sym (readable_block level a body at)) (low, h, i)) (omega (arith, size_block a body at)))))

    else-fits : Fits 0 (sum_by stmt_size) (AllByRecursion (IsReadableStmt (1 + level))) (IsElse P)
    else-fits = either-fits (then-fits word-fits (λ _ _. record { fits = λ body tokens h fair. let f = body-fits.fits body tokens h fair in (f.0, omega (arith, f.1)) })) (done-fits [] tt (omega arith))

    if-fits : Fits 0 stmt_size (IsReadableStmt level) (IsIf P)
    if-fits =
        then-fits test-fits (λ c h. then-fits body-fits (λ xs i. then-fits else-fits
        (λ ys j. done-fits (stmt.If c xs ys) (subst (λ (Q : Type 0). Q) (sym (readable_if level c xs ys)) (low, h, i, j)) (omega (arith, size_if c xs ys)))))

    loop-fits : Fits 0 stmt_size (IsReadableStmt level) (IsLoop P)
    loop-fits =
        then-fits head-fits (λ h i. then-fits body-fits
        (λ body j. done-fits _ (subst (λ (Q : Type 0). Q) (sym (readable_loop level h.variable h.turns.value h.turns.at body h.word)) (low, i, j)) (omega (arith, size_loop h.variable h.turns.value h.turns.at body h.word))))

stmt-fits : (n level : ℕ) → level + n ≡ suc most_nested → Fits 0 stmt_size (IsReadableStmt level) (IsStmt n)
unfolding IsStmt
stmt-fits zero level room = record { fits = λ s tokens h fair. absurd h }
stmt-fits (suc n) level room =
    let low : level ≤ most_nested = omega (arith, room) in
    let each = stmt-fits n (1 + level) (omega (arith, room)) in
    either-fits (assigning-fits level low) (either-fits (call-fits level low None no-target (omega arith)) (either-fits (copy-fits level low) (either-fits (block-fits level low each) (either-fits (if-fits level low each) (loop-fits level low each)))))

-- ---- exits and tasks

leave-fits : (level : ℕ) → Fits 0 exit_size (IsReadableExit level) IsLeave
leave-fits level =
    either-fits (then-fits word-fits (λ _ _. then-fits mark-fits (λ _ _. then-fits named-fits (λ x _. then-fits mark-fits (λ _ _. then-fits mark-fits (λ _ _. done-fits (exit.Next x) tt (omega arith)))))))
    (then-fits word-fits (λ _ _. then-fits mark-fits (λ _ _. done-fits exit.Stop tt (omega arith))))

readable-choose : (level : ℕ) (c : Expr) (a b : Exit) → level ≤ most_nested → IsReadableExpr c → IsReadableExit (1 + level) a → IsReadableExit (1 + level) b → IsReadableExit level (exit.Choose c a b)
unfolding hidden-the_row-Exit-0 shape-the_row-Exit-0 hidden
readable-choose level c a b low h i j = (low, h, i, j)

size-choose : (c : Expr) (a b : Exit) → exit_size (exit.Choose c a b) ≡ 1 + expr_size c + exit_size a + exit_size b
unfolding hidden-the_row-Exit-0 shape-the_row-Exit-0 hidden
size-choose c a b = refl

exit-fits : (n level : ℕ) → level + n ≡ suc most_nested → Fits 0 exit_size (IsReadableExit level) (IsExit n)
unfolding IsExit
exit-fits zero level room = leave-fits level
exit-fits (suc n) level room =
    let low : level ≤ most_nested = omega (arith, room) in
    let each = exit-fits n (1 + level) (omega (arith, room)) in
    either-fits (then-fits test-fits (λ c h. then-fits each (λ a i. then-fits word-fits (λ _ _. then-fits each (λ b j. done-fits (exit.Choose c a b) (readable-choose level c a b low h i j) (omega (arith, size-choose c a b))))))) (leave-fits level)

abbrev work_size : Body → ℕ
work_size b = sum_by stmt_size b.stmts + exit_size b.exit

abbrev IsReadableWork : Body → Type 0
IsReadableWork b = AllByRecursion (IsReadableStmt 1) b.stmts × IsReadableExit 1 b.exit

work-fits : Fits 0 work_size IsReadableWork IsWork
work-fits = then-fits (all-fit (stmt-fits most_nested 1 (omega arith))) (λ stmts h. then-fits (exit-fits most_nested 1 (omega arith)) (λ e i. done-fits _ (h, i) (omega arith)))

task-fits : Fits 0 task_size IsReadableTask IsTask
task-fits =
    then-fits word-fits (λ _ _. then-fits named-fits (λ x h. then-fits mark-fits (λ _ _. then-fits work-fits (λ b i. then-fits mark-fits (λ close _. done-fits _ (record { name = h; body = i.0; exit = i.1 }) (omega arith))))))

-- ---- programs

module _ (fair : (text : List ℕ) (ps : List Piece) → Divides text ps → AllByRecursion IsFair (tokens_of start ps)) (few : (text : List ℕ) (ps : List Piece) → Divides text ps → length (tokens_of start ps) ≤ length text) where
  -- a program that a text has
  pub readable : (text : List ℕ) (p : Program) → Reads text p → length text < 2 ^ 32 → IsReadable p
  readable text p reads short =
      let is = reads.program in
      let all = subst AreFair is.whole (fair text reads.pieces reads.divides) in
      let decls = (all-fit decl-fits).fits p.decls is.front is.decls (fair_front is.front is.back all) in
      let tasks = (all-fit task-fits).fits p.tasks is.back is.tasks (fair_back is.front is.back all) in
      record {
        decls = decls.0;
        tasks = tasks.0;
        some = is.some;
        size = omega (arith, decls.1, tasks.1, few text reads.pieces reads.divides, ap length is.whole, length-append is.front is.back, short);
      }

  -- and so is what the reader answers
  pub readable-from : (text : List ℕ) (r : Result Program TextError) → length text < 2 ^ 32 → IsResult text r → IfOk r IsReadable
  readable-from text (Ok p) short is = readable text p is short
  readable-from text (Err e) short is = tt
