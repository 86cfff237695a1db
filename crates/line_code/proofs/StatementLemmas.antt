-- Statements, one after another.
use Rattle.std.specs.Prelude.{◌≡◌, ℕ, ◌+◌, ◌<◌, ◌≤◌, List, [], ◌∷◌, ◌++◌, length, drop, get_or, min, refl}
use Rattle.std.proofs.Common.{ap, sym, ◌∙◌, arith, append_assoc, append-nil, subst}
use Rattle.std.proofs.lemmas.List.{drop_more, at_drop_all}
use Rattle.task_ast.specs.declared.core_form.CoreExpr.{CoreExpr}
use Rattle.task_ast.specs.declared.core_form.CoreStmt.{CoreStmt}
use Rattle.task_ast.specs.declared.core_form.CoreStmt.TheVariants as stmt
use Rattle.word_isa.specs.declared.instr.Instr.TheVariants.{St, Jmp}
use Rattle.line_code.specs.declared.areas.Placed.{Placed}
use Rattle.line_code.specs.declared.line.Line.{Line}
use Rattle.line_code.specs.Areas.{area_at, pointer_at}
use Rattle.line_code.specs.Lines.{bares}
use Rattle.line_code.specs.Sizes.{expr_size, statement_size, body_size}
use Rattle.line_code.specs.Expressions.{place_code, expr_code}
use Rattle.line_code.specs.Statements.{point_code, unless_code, if_code, loop_code, statement_code, body_code}
use Rattle.line_code.specs.StatementLaws.{size_if, code_if, short_if, size_loop, code_loop, short_loop}
use Rattle.line_code.specs.PartLaws.{three_parts, five_parts}
use Rattle.line_code.specs.Fitting.{IsShort, IsShortStmt, IsShortBody}

-- along an equation of types
cast : {A B : Type 0} → A ≡ B → A → B
cast same x = subst (λ t. t) same x

-- what is there with what is left is all
pub record IsOnWay (areas : List Placed) (start : List Line) (body : List CoreStmt) (now : List Line) (left : List CoreStmt) : Type 0 where
  pub lines : now ++ body_code areas left (length now) ≡ start ++ body_code areas body (length start)
  pub count : length now + body_size left ≡ length start + body_size body
  pub short : IsShortBody left
  pub within : body_size left ≤ body_size body

-- a statement more
pub one_more : (areas : List Placed) (start : List Line) (body : List CoreStmt) (now new : List Line) (s : CoreStmt) (left : List CoreStmt)
    → IsOnWay areas start body now (s ∷ left) → new ≡ now ++ statement_code areas s (length now) → length new ≡ length now + statement_size s → IsOnWay areas start body new left
one_more areas start body now new s left way lines count = record {
  lines =
      (λ i. lines i ++ body_code areas left (count i))
      ∙ append_assoc now (statement_code areas s (length now)) (body_code areas left (length now + statement_size s))
      ∙ way.lines;
  count = omega (arith, count, way.count);
  short = way.short.1;
  within = omega (arith, way.within);
}

-- nothing is left
pub none_left : (areas : List Placed) (start : List Line) (body : List CoreStmt) (now : List Line) → IsOnWay areas start body now [] → now ≡ start ++ body_code areas body (length start)
none_left areas start body now way = sym (append-nil now) ∙ way.lines

-- an `if`, whose bodies are lists
pub if_size : (s : CoreStmt) (c : CoreExpr) (a b got other : List CoreStmt) → s ≡ stmt.If c a b → got ≡ a → other ≡ b → statement_size s ≡ expr_size c + body_size got + body_size other + 4
if_size s c a b got other is at follows = ap statement_size is ∙ size_if c a b ∙ sym (λ i. expr_size c + body_size (at i) + body_size (follows i) + 4)

pub if_short : (s : CoreStmt) (c : CoreExpr) (a b got other : List CoreStmt) → s ≡ stmt.If c a b → got ≡ a → other ≡ b → IsShortStmt s → IsShort 0 c × IsShortBody got × IsShortBody other
if_short s c a b got other is at follows short = cast (ap IsShortStmt is ∙ short_if c a b ∙ sym (λ i. IsShort 0 c × IsShortBody (at i) × IsShortBody (follows i))) short

pub if_lines : (areas : List Placed) (s : CoreStmt) (c : CoreExpr) (a b got other : List CoreStmt) (o n : List Line) → s ≡ stmt.If c a b → got ≡ a → other ≡ b
    → n ≡ o ++ if_code (length o + expr_size c + 3 + body_size got + 1) (length o + expr_size c + 3 + body_size got + 1 + body_size other) (expr_code areas c 0 (length o))
    (body_code areas got (length o + expr_size c + 3)) (body_code areas other (length o + expr_size c + 3 + body_size got + 1))
    → n ≡ o ++ statement_code areas s (length o)
if_lines areas s c a b got other o n is at follows lines =
    lines
    ∙ (λ i. o ++ if_code (length o + expr_size c + 3 + body_size (at i) + 1) (length o + expr_size c + 3 + body_size (at i) + 1 + body_size (follows i)) (expr_code areas c 0 (length o))
    (body_code areas (at i) (length o + expr_size c + 3)) (body_code areas (follows i) (length o + expr_size c + 3 + body_size (at i) + 1)))
    ∙ ap (λ (x : List Line). o ++ x) (sym (ap (λ x. statement_code areas x (length o)) is ∙ code_if areas (length o) c a b))

-- a loop
pub loop_size : (s : CoreStmt) (variable turns : ℕ) (a got : List CoreStmt) → s ≡ stmt.Loop variable turns a → got ≡ a → statement_size s ≡ body_size got + 12
loop_size s variable turns a got is at = ap statement_size is ∙ size_loop variable turns a ∙ sym (λ i. body_size (at i) + 12)

pub loop_short : (s : CoreStmt) (variable turns : ℕ) (a got : List CoreStmt) → s ≡ stmt.Loop variable turns a → got ≡ a → IsShortStmt s → (turns < 65536) × IsShortBody got
loop_short s variable turns a got is at short = cast (ap IsShortStmt is ∙ short_loop variable turns a ∙ sym (λ i. (turns < 65536) × IsShortBody (at i))) short

pub loop_lines : (areas : List Placed) (s : CoreStmt) (variable turns : ℕ) (a got : List CoreStmt) (o n : List Line) → s ≡ stmt.Loop variable turns a → got ≡ a
    → n ≡ o ++ loop_code (area_at areas variable) turns (length o + 2) (length o + 8 + body_size got + 4) (body_code areas got (length o + 8))
    → n ≡ o ++ statement_code areas s (length o)
loop_lines areas s variable turns a got o n is at lines =
    lines
    ∙ (λ i. o ++ loop_code (area_at areas variable) turns (length o + 2) (length o + 8 + body_size (at i) + 4) (body_code areas (at i) (length o + 8)))
    ∙ ap (λ (x : List Line). o ++ x) (sym (ap (λ x. statement_code areas x (length o)) is ∙ code_loop areas (length o) variable turns a))

-- at the next statement
pub at_next : (areas : List Placed) (start : List Line) (body : List CoreStmt) (now : List Line) (k : ℕ) (s : CoreStmt) → k < length body → s ≡ get_or body k s
    → IsOnWay areas start body now (drop k body) → IsOnWay areas start body now (s ∷ drop (k + 1) body)
at_next areas start body now k s within is way =
    subst (IsOnWay areas start body now) (drop_more body k s within ∙ ap (λ x. x ∷ drop (k + 1) body) (sym is)) way

-- on the way from the front
pub sets_out : (areas : List Placed) (start : List Line) (body : List CoreStmt) → IsShortBody body → IsOnWay areas start body start body
sets_out areas start body short = record { lines = refl; count = refl; short = short; within = omega arith }

-- the assignment of a pointer
pub point_lines : (areas : List Placed) (pointer array : ℕ) (index : CoreExpr) (cell : ℕ) (area : Placed) (o m p n : List Line) → cell ≡ pointer_at pointer → area ≡ area_at areas array
    → m ≡ o ++ expr_code areas index 0 (length o) → p ≡ m ++ place_code area → n ≡ p ++ bares (St 1 15 cell ∷ St 2 15 (cell + 1) ∷ [])
    → n ≡ o ++ point_code areas pointer array index (length o)
point_lines areas pointer array index cell area o m p n is there one two three =
    three_parts o m p n _ _ _ one two three
    ∙ (λ i. o ++ (expr_code areas index 0 (length o) ++ (place_code (there i) ++ bares (St 1 15 (is i) ∷ St 2 15 (is i + 1) ∷ []))))

-- all statements are counted
pub all_counted : (body : List CoreStmt) (size k : ℕ) → length body ≤ k → min (size + body_size (drop k body)) 4294967295 ≡ min (body_size body) 4294967295 → size ≤ 4294967295
    → size ≡ min (body_size body) 4294967295
all_counted body size k past same small = omega (arith, at_drop_all body_size body k past, same, small)

-- a condition and its two parts
pub choose_lines : (areas : List Placed) (c : CoreExpr) (yes_part no_part : List CoreStmt) (o m p q r n : List Line) (other end : ℕ)
    → other ≡ length o + expr_size c + 3 + body_size yes_part + 1 → end ≡ length o + expr_size c + 3 + body_size yes_part + 1 + body_size no_part
    → length p ≡ length o + expr_size c + 3 → length r ≡ length o + expr_size c + 3 + body_size yes_part + 1
    → m ≡ o ++ expr_code areas c 0 (length o) → p ≡ m ++ unless_code other → q ≡ p ++ body_code areas yes_part (length p) → r ≡ q ++ bares (Jmp end ∷ []) → n ≡ r ++ body_code areas no_part (length r)
    → n ≡ o ++ if_code (length o + expr_size c + 3 + body_size yes_part + 1) (length o + expr_size c + 3 + body_size yes_part + 1 + body_size no_part) (expr_code areas c 0 (length o))
    (body_code areas yes_part (length o + expr_size c + 3)) (body_code areas no_part (length o + expr_size c + 3 + body_size yes_part + 1))
choose_lines areas c yes_part no_part o m p q r n other end to_other to_end at_yes at_no one two three four five =
    five_parts o m p q r n _ _ _ _ _ one two three four five
    ∙ (λ i. o ++ if_code (to_other i) (to_end i) (expr_code areas c 0 (length o)) (body_code areas yes_part (at_yes i)) (body_code areas no_part (at_no i)))
