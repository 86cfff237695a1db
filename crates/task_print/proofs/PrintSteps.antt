-- Tokens that are put one after another.
use Rattle.std.proofs.Common.{◌≡◌, ◌≢◌, ◌∙◌, ℕ, suc, ◌+◌, ◌<◌, ◌-◌, length, take, drop, get_or, drop-cons, arith, List, [], ◌∷◌, ◌++◌, Result, Ok, Err, OnOk, refl, sym, ap, subst, append_assoc}
use Rattle.std.specs.List.{flat_map}
use Rattle.std.proofs.lemmas.List.{append-nil, length-append}
use Rattle.std.proofs.lemmas.Grind.{flat_map-append}
use Rattle.ease_base.specs.declared.place.Pos.{Pos}
use Rattle.task_ast.specs.declared.tree.Ann.{Ann}
use Rattle.task_ast.specs.declared.tree.Name.{Name}
use Rattle.task_ast.specs.declared.tree.Op1.{Op1}
use Rattle.task_ast.specs.declared.tree.Op2.{Op2}
use Rattle.task_ast.specs.declared.tree.Expr.{Expr}
use Rattle.task_ast.specs.declared.tree.Expr.TheVariants as expr
use Rattle.task_ast.specs.declared.tree.Expr.TheBlock.{hidden-the_row-Expr-0, shape-the_row-Expr-0}
use Rattle.task_ast.specs.declared.tree.Stmt.{Stmt}
use Rattle.task_ast.specs.declared.tree.Stmt.TheVariants as stmt
use Rattle.task_ast.specs.declared.tree.Exit.{Exit}
use Rattle.task_ast.specs.declared.tree.Exit.TheVariants as exit
use Rattle.task_ast.specs.declared.tree.Exit.TheBlock.{hidden-the_row-Exit-0, shape-the_row-Exit-0}
use Rattle.task_ast.specs.declared.tree.Task.{Task}
use Rattle.task_ast.specs.declared.tree.Program.{Program}
use Rattle.task_tokens.specs.declared.token.Keyword.TheVariants as keyword
use Rattle.task_tokens.specs.declared.token.Sign.{Sign}
use Rattle.task_tokens.specs.declared.token.Lexeme.{Lexeme}
use Rattle.task_tokens.specs.Spaced.{spelling, spaced}
use Rattle.task_text.specs.Grammar.{sign_of, prefix_of}
use Rattle.task_print.specs.Printed.{word, mark, named, bracketed, parenthesized, braced, expr_tokens, head_tokens, else_tokens, stmt_tokens, body_tokens, exit_tokens, ann_tokens, tokens_if, tokens_for, tokens_block, program_tokens, decl_tokens, task_tokens, trailed, with_end, printed, Puts}
use Rattle.task_text.specs.Reads.{Reads}
use denote.Hole.Carrier.{hidden}

-- some tokens, and then others
pub puts : (before mid after : List ℕ) (xs ys : List Lexeme) → Puts before xs mid → Puts mid ys after → Puts before (xs ++ ys) after
puts before mid after xs ys h k =
    k ∙ ap (λ t. t ++ trailed ys) h ∙ append_assoc before (trailed xs) (trailed ys) ∙ ap (λ t. before ++ t) (sym (flat_map-append (λ x. spelling x ++ 32 ∷ []) xs ys))

-- the same where the others are put by the last call
pub puts_last : {E : Type 0} (r : Result (Unit {0}) E) (before mid after : List ℕ) (xs ys : List Lexeme) → Puts before xs mid → OnOk r (Puts mid ys after) → OnOk r (Puts before (xs ++ ys) after)
puts_last (Ok done) before mid after xs ys h k = puts before mid after xs ys h k
puts_last (Err e) before mid after xs ys h k = tt

-- the tokens of each form of an expression
pub at_index : (e : Expr) (x : Name) (i : Expr) → e ≡ expr.Index x i → expr_tokens e ≡ named x ++ bracketed (expr_tokens i)
unfolding hidden-the_row-Expr-0 shape-the_row-Expr-0 hidden
at_index e x i is = ap expr_tokens is

pub at_paren : (e inner : Expr) → e ≡ expr.Paren inner → expr_tokens e ≡ parenthesized (expr_tokens inner)
unfolding hidden-the_row-Expr-0 shape-the_row-Expr-0 hidden
at_paren e inner is = ap expr_tokens is

pub at_one : (e : Expr) (o : Op1) (a : Expr) → e ≡ expr.One o a → expr_tokens e ≡ mark (prefix_of o) ++ expr_tokens a
unfolding hidden-the_row-Expr-0 shape-the_row-Expr-0 hidden
at_one e o a is = ap expr_tokens is

pub at_two : (e : Expr) (o : Op2) (a b : Expr) → e ≡ expr.Two o a b → expr_tokens e ≡ expr_tokens a ++ mark (sign_of o) ++ expr_tokens b
unfolding hidden-the_row-Expr-0 shape-the_row-Expr-0 hidden
at_two e o a b is = ap expr_tokens is

-- a left side, and then an operator with its right side
pub two_put : {E : Type 0} (r : Result (Unit {0}) E) (e left right a b : Expr) (o : Op2) (s : Sign) (before mid after : List ℕ) → e ≡ expr.Two o a b → left ≡ a → right ≡ b → s ≡ sign_of o
    → Puts before (expr_tokens left) mid → OnOk r (Puts mid (mark s ++ expr_tokens right) after) → OnOk r (Puts before (expr_tokens e) after)
two_put (Err x) e left right a b o s before mid after is at_left at_right at_sign h k = tt
two_put (Ok done) e left right a b o s before mid after is at_left at_right at_sign h k =
    let tokens : expr_tokens left ++ (mark s ++ expr_tokens right) ≡ expr_tokens e =
    (λ i. expr_tokens (at_left i) ++ (mark (at_sign i) ++ expr_tokens (at_right i))) ∙ sym (append_assoc (expr_tokens a) (mark (sign_of o)) (expr_tokens b)) ∙ sym (at_two e o a b is) in
    subst (λ xs. Puts before xs after) tokens (puts before mid after (expr_tokens left) (mark s ++ expr_tokens right) h k)

-- the tokens of a choice among exits
pub at_choose : (e : Exit) (c : Expr) (a b : Exit) → e ≡ exit.Choose c a b
    → exit_tokens e ≡ word keyword.If ++ parenthesized (expr_tokens c) ++ exit_tokens a ++ word keyword.Else ++ exit_tokens b
unfolding hidden-the_row-Exit-0 shape-the_row-Exit-0 hidden
at_choose e c a b is = ap exit_tokens is

-- an `if` and its first exit, and then `else` with the second
pub choose_put : {E : Type 0} (r : Result (Unit {0}) E) (e a b first second : Exit) (c : Expr) (before start mid last after : List ℕ) → e ≡ exit.Choose c a b → first ≡ a → second ≡ b
    → Puts before (word keyword.If ++ parenthesized (expr_tokens c)) start → Puts start (exit_tokens first) mid → Puts mid (word keyword.Else) last → OnOk r (Puts last (exit_tokens second) after)
    → OnOk r (Puts before (exit_tokens e) after)
choose_put (Err x) e a b first second c before start mid last after is at_first at_second h k l m = tt
choose_put (Ok done) e a b first second c before start mid last after is at_first at_second h k l m =
    let head = word keyword.If ++ parenthesized (expr_tokens c) in
    let tokens : head ++ exit_tokens first ++ word keyword.Else ++ exit_tokens second ≡ exit_tokens e =
    (λ i. head ++ exit_tokens (at_first i) ++ word keyword.Else ++ exit_tokens (at_second i)) ∙ sym (at_choose e c a b is) in
    subst (λ xs. Puts before xs after) tokens
    (puts before last after (head ++ exit_tokens first ++ word keyword.Else) (exit_tokens second)
    (puts before mid last (head ++ exit_tokens first) (word keyword.Else) (puts before start mid head (exit_tokens first) h k) l) m)

-- a test, a body in braces, and what stands behind it
pub if_put : {E : Type 0} (r : Result (Unit {0}) E) (s : Stmt) (c : Expr) (yes_part no_part first second : List Stmt) (before start mid after : List ℕ) → s ≡ stmt.If c yes_part no_part → first ≡ yes_part → second ≡ no_part
    → Puts before (word keyword.If ++ parenthesized (expr_tokens c)) start → Puts start (braced (body_tokens first)) mid → OnOk r (Puts mid (else_tokens second) after)
    → OnOk r (Puts before (stmt_tokens s) after)
if_put (Err x) s c yes_part no_part first second before start mid after is at_first at_second h k l = tt
if_put (Ok done) s c yes_part no_part first second before start mid after is at_first at_second h k l =
    let head = word keyword.If ++ parenthesized (expr_tokens c) in
    let tokens : head ++ braced (body_tokens first) ++ else_tokens second ≡ stmt_tokens s =
    (λ i. head ++ braced (body_tokens (at_first i)) ++ else_tokens (at_second i)) ∙ sym (ap stmt_tokens is ∙ tokens_if c yes_part no_part) in
    subst (λ xs. Puts before xs after) tokens
    (puts before mid after (head ++ braced (body_tokens first)) (else_tokens second) (puts before start mid head (braced (body_tokens first)) h k) l)

-- a loop's head, and its body in braces
pub for_put : {E : Type 0} (r : Result (Unit {0}) E) (s : Stmt) (i : Name) (turns : ℕ) (at : Pos) (body items : List Stmt) (word_at : Pos) (before mid after : List ℕ) → s ≡ stmt.For i turns at body word_at → items ≡ body
    → Puts before (head_tokens i turns) mid → OnOk r (Puts mid (braced (body_tokens items)) after) → OnOk r (Puts before (stmt_tokens s) after)
for_put (Err x) s i turns at body items word_at before mid after is same h k = tt
for_put (Ok done) s i turns at body items word_at before mid after is same h k =
    let tokens : head_tokens i turns ++ braced (body_tokens items) ≡ stmt_tokens s =
    (λ j. head_tokens i turns ++ braced (body_tokens (same j))) ∙ sym (ap stmt_tokens is ∙ tokens_for i turns at body word_at) in
    subst (λ xs. Puts before xs after) tokens (puts before mid after (head_tokens i turns) (braced (body_tokens items)) h k)

-- a block's annotation, and its body in braces
pub block_put : {E : Type 0} (r : Result (Unit {0}) E) (s : Stmt) (a : Ann) (body items : List Stmt) (at : Pos) (before mid after : List ℕ) → s ≡ stmt.Block a body at → items ≡ body
    → Puts before (word keyword.IoBlock ++ parenthesized (ann_tokens a)) mid → OnOk r (Puts mid (braced (body_tokens items)) after) → OnOk r (Puts before (stmt_tokens s) after)
block_put (Err x) s a body items at before mid after is same h k = tt
block_put (Ok done) s a body items at before mid after is same h k =
    let head = word keyword.IoBlock ++ parenthesized (ann_tokens a) in
    let tokens : head ++ braced (body_tokens items) ≡ stmt_tokens s =
    (λ j. head ++ braced (body_tokens (same j))) ∙ sym (ap stmt_tokens is ∙ tokens_block a body at) in
    subst (λ xs. Puts before xs after) tokens (puts before mid after head (braced (body_tokens items)) h k)

-- no statements have no `else`
pub else_none : (body : List Stmt) (out : List ℕ) → length body ≡ 0 → Puts out (else_tokens body) out
else_none [] out none = sym (append-nil out)
else_none (s ∷ body) out none = absurd (omega arith)

-- some statements have one
pub else_put : {E : Type 0} (r : Result (Unit {0}) E) (body : List Stmt) (before mid after : List ℕ) → length body ≢ 0 → Puts before (word keyword.Else) mid → OnOk r (Puts mid (braced (body_tokens body)) after)
    → OnOk r (Puts before (else_tokens body) after)
else_put r [] before mid after some h k = absurd (some refl)
else_put r (s ∷ body) before mid after some h k = puts_last r before mid after (word keyword.Else) (braced (body_tokens (s ∷ body))) h k

-- one item more: what is left to put, with what was put, is the whole
pub one_more_put : {T : Type 0} (f : T → List Lexeme) (xs : List T) (i : ℕ) (x : T) (out after whole : List ℕ) → i < length xs → x ≡ get_or xs i x → out ++ trailed (flat_map f (drop i xs)) ≡ whole → Puts out (f x) after
    → after ++ trailed (flat_map f (drop (i + 1) xs)) ≡ whole
one_more_put f xs i x out after whole there is left put =
    let e : suc i ≡ i + 1 = omega arith in
    let front : drop i xs ≡ x ∷ drop (i + 1) xs = drop-cons xs i x there ∙ (λ j. sym is j ∷ drop (e j) xs) in
    ap (λ t. t ++ trailed (flat_map f (drop (i + 1) xs))) put ∙ append_assoc out (trailed (f x)) (trailed (flat_map f (drop (i + 1) xs)))
    ∙ ap (λ t. out ++ t) (sym (flat_map-append (λ y. spelling y ++ 32 ∷ []) (f x) (flat_map f (drop (i + 1) xs))))
    ∙ ap (λ ys. out ++ trailed (flat_map f ys)) (sym front) ∙ left

take_behind : (front rest : List ℕ) → take (length (front ++ rest) - 1) (front ++ rest) ≡ take (length front + length rest - 1) (front ++ rest)
take_behind front rest = ap (λ n. take (n - 1) (front ++ rest)) (length-append front rest)

ended_behind : (front rest : List ℕ) → 0 < length rest → with_end (front ++ rest) ≡ front ++ with_end rest
ended_behind [] rest some = refl
ended_behind (x ∷ front) rest some =
    let less : length (x ∷ (front ++ rest)) - 1 ≡ suc (length (front ++ rest) - 1) = omega (arith, length-append front rest) in
    ap (λ n. take n (x ∷ (front ++ rest)) ++ 10 ∷ []) less ∙ ap (λ t. x ∷ t) (ended_behind front rest some)

some_behind : (x : Lexeme) (xs : List Lexeme) → 0 < length (trailed (x ∷ xs))
some_behind x xs = omega (arith, length-append (spelling x ++ 32 ∷ []) (trailed xs), length-append (spelling x) (32 ∷ []))

-- tokens with a space behind each, and then a line feed in place of the last space, are the printed ones
ended_spaced : (x : Lexeme) (xs : List Lexeme) → with_end (trailed (x ∷ xs)) ≡ spaced (x ∷ xs)
ended_spaced x [] =
    ap with_end (append-nil (spelling x ++ 32 ∷ [])) ∙ ended_behind (spelling x) (32 ∷ []) (omega arith)
ended_spaced x (y ∷ ys) =
    ended_behind (spelling x ++ 32 ∷ []) (trailed (y ∷ ys)) (some_behind y ys) ∙ append_assoc (spelling x) (32 ∷ []) (with_end (trailed (y ∷ ys)))
    ∙ ap (λ t. spelling x ++ 32 ∷ t) (ended_spaced y ys)

some_tokens : (p : Program) → 0 < length p.tasks → (x : Lexeme) × (xs : List Lexeme) × (program_tokens p ≡ x ∷ xs)
some_tokens p some = by_front (flat_map decl_tokens p.decls) p.tasks some
  where
    by_tasks : (ts : List Task) → 0 < length ts → (x : Lexeme) × (xs : List Lexeme) × (flat_map task_tokens ts ≡ x ∷ xs)
    by_tasks [] some = absurd (omega arith)
    by_tasks (t ∷ ts) some = (_, _, refl)

    by_front : (front : List Lexeme) (ts : List Task) → 0 < length ts → (x : Lexeme) × (xs : List Lexeme) × (front ++ flat_map task_tokens ts ≡ x ∷ xs)
    by_front [] ts some = by_tasks ts some
    by_front (x ∷ front) ts some = (x, _, refl)

-- what is put of a program, with its end, is its printed text
pub printed_whole : (p : Program) (out text : List ℕ) → (source : List ℕ) × Reads source p → Puts [] (program_tokens p) out → text ≡ with_end out → text ≡ printed p
unfolding printed
printed_whole p out text read put is =
    let some = some_tokens p read.1.program.some in
    is ∙ ap with_end (put ∙ ap trailed some.2) ∙ ended_spaced some.0 some.1 ∙ ap spaced (sym some.2)
