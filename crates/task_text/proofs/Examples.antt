-- The grammar, computed on short statements: what has a tree, which one, and what has none.
use Rattle.std.proofs.Common.{◌≡◌, ℕ, List, [], ◌∷◌, ◌++◌, Some, Err, codes, refl, sym, subst, ◌∙◌}
use Rattle.std.proofs.lemmas.List.{append-nil}
use Rattle.ease_base.specs.declared.place.Pos.{Pos}
use Rattle.task_ast.specs.declared.tree.Ann.TheVariants as ann
use Rattle.task_ast.specs.declared.tree.Name.{Name}
use Rattle.task_ast.specs.declared.tree.Expr.TheVariants as expr
use Rattle.task_ast.specs.declared.tree.Target.TheVariants as target
use Rattle.task_ast.specs.declared.tree.Place.TheVariants as place
use Rattle.task_ast.specs.declared.tree.Stmt.{Stmt}
use Rattle.task_ast.specs.declared.tree.Stmt.TheVariants as stmt
use Rattle.task_tokens.specs.declared.token.Keyword.TheVariants as keyword
use Rattle.task_tokens.specs.declared.token.Sign.TheVariants as sign
use Rattle.task_tokens.specs.declared.token.Token.{Token}
use Rattle.task_text.specs.Forms.{reserved, symbol, number, name}
use Rattle.task_text.specs.Grammar.{IsStmt}
use Rattle.task_text.specs.Reading.{found, any_at, sign_at, reserved_at, name_at, number_at, between, many}
use Rattle.task_text.specs.ReadingExpr.{literal_at, behind_name, named_of, part_of, joined_from, expr_at, value_at}
use Rattle.task_text.specs.ReadingStmt.{target_of, target_at, address_of, address_at, place_at, timely_at, ann_at, argument_at, call_at, setting_of, assigned_of, assigning_at, copy_at, block_of, stmt_at}
use Rattle.task_text.proofs.TokenLaws.{not_found}
use Rattle.task_text.proofs.StmtLaws.{stmt-sound, stmt-complete}

abbrev here : Pos
here = record { line = 1; column = 1 }

abbrev named : List ℕ → Name
named text = record { text = text; at = here }

-- what is read to its end is a statement
is-read : (n : ℕ) (s : Stmt) (tokens : List Token) → stmt_at n tokens ≡ found s [] → IsStmt n s tokens
is-read n s tokens e = let o = stmt-sound n tokens [] s e in subst (IsStmt n s) (sym (o.split ∙ append-nil o.front)) o.fits

-- what breaks off is none
is-none : (n : ℕ) (tokens left : List Token) → stmt_at n (tokens ++ []) ≡ Err left → (s : Stmt) → IsStmt n s tokens → ⊥
is-none n tokens left e s h = not_found s [] left (sym e ∙ (stmt-complete n).reads s tokens [] h refl)

-- `v = IO ( p , TIMELY ( 5 ) , x ) ;`
pub a_reading : IsStmt 1 (stmt.Io (Some (target.Scalar (named (codes "v")))) (named (codes "p")) (ann.Timely 5) (expr.Read (named (codes "x")) ∷ []) here)
    (name (named (codes "v")) ∷ symbol sign.Equal here ∷ reserved keyword.Io here ∷ symbol sign.ParenOpen here ∷ name (named (codes "p")) ∷ symbol sign.Comma here ∷ reserved keyword.Timely here ∷ symbol sign.ParenOpen here ∷ number 5 here
    ∷ symbol sign.ParenClose here ∷ symbol sign.Comma here ∷ name (named (codes "x")) ∷ symbol sign.ParenClose here ∷ symbol sign.Semicolon here ∷ [])
unfolding stmt_at assigning_at target_at target_of assigned_of call_at ann_at timely_at argument_at many between value_at expr_at part_of named_of behind_name joined_from name_at number_at sign_at reserved_at any_at
a_reading = is-read 1 _ _ refl

-- `p = & a [ 1 ] ;`
pub an_address : IsStmt 1 (stmt.Point (named (codes "p")) (place.Element (named (codes "a")) (expr.Number 1 here)))
    (name (named (codes "p")) ∷ symbol sign.Equal here ∷ symbol sign.Ampersand here ∷ name (named (codes "a")) ∷ symbol sign.BracketOpen here ∷ number 1 here ∷ symbol sign.BracketClose here ∷ symbol sign.Semicolon here ∷ [])
unfolding stmt_at assigning_at target_at target_of assigned_of setting_of address_at address_of between value_at expr_at part_of literal_at joined_from name_at number_at sign_at reserved_at any_at
an_address = is-read 1 _ _ refl

-- `DMA ( a , & x , 8 ) ;`, the destination first
pub a_copy : IsStmt 1 (stmt.Dma (place.Bare (named (codes "a"))) (place.Scalar (named (codes "x"))) (expr.Number 8 here) here)
    (reserved keyword.Dma here ∷ symbol sign.ParenOpen here ∷ name (named (codes "a")) ∷ symbol sign.Comma here ∷ symbol sign.Ampersand here ∷ name (named (codes "x")) ∷ symbol sign.Comma here ∷ number 8 here
    ∷ symbol sign.ParenClose here ∷ symbol sign.Semicolon here ∷ [])
unfolding stmt_at copy_at place_at address_at address_of value_at expr_at part_of literal_at joined_from name_at number_at sign_at reserved_at any_at
a_copy = is-read 1 _ _ refl

-- `IO_BLOCK ( ALWAYS ) { }` needs one level, and its inside another
pub a_block : IsStmt 1 (stmt.Block ann.Always [] here) (reserved keyword.IoBlock here ∷ symbol sign.ParenOpen here ∷ reserved keyword.Always here ∷ symbol sign.ParenClose here ∷ symbol sign.BraceOpen here ∷ symbol sign.BraceClose here ∷ [])
unfolding stmt_at block_of ann_at many between sign_at reserved_at any_at
a_block = is-read 1 _ _ refl

-- `a [ 1 ] = & x ;` has no tree
pub no_element_is_a_pointer : (s : Stmt) → IsStmt 1 s (name (named (codes "a")) ∷ symbol sign.BracketOpen here ∷ number 1 here ∷ symbol sign.BracketClose here ∷ symbol sign.Equal here ∷ symbol sign.Ampersand here ∷ name (named (codes "x")) ∷ symbol sign.Semicolon here ∷ []) → ⊥
unfolding stmt_at assigning_at target_at target_of assigned_of setting_of between value_at expr_at part_of literal_at joined_from name_at number_at sign_at reserved_at any_at
no_element_is_a_pointer = is-none 1 _ _ refl

-- `DMA ( a [ 1 ] , b , 8 ) ;` has no tree either
pub no_end_is_an_element : (s : Stmt) → IsStmt 1 s (reserved keyword.Dma here ∷ symbol sign.ParenOpen here ∷ name (named (codes "a")) ∷ symbol sign.BracketOpen here ∷ number 1 here ∷ symbol sign.BracketClose here ∷ symbol sign.Comma here ∷ name (named (codes "b")) ∷ symbol sign.Comma here ∷ number 8 here
    ∷ symbol sign.ParenClose here ∷ symbol sign.Semicolon here ∷ []) → ⊥
unfolding stmt_at copy_at place_at name_at sign_at reserved_at any_at
no_end_is_an_element = is-none 1 _ _ refl
