-- The signs of operators: what is read is there, and what is there is read.
use Rattle.std.proofs.Common.{◌≡◌, ℕ, ◌<◌, ◌≤◌, true, false, leb, List, [], ◌∷◌, Option, Some, None, refl, sym, ap, ◌∙◌, arith}
use Rattle.std.proofs.lemmas.Bool.{leb-true, leb-false, le-leb, lt-leb}
use Rattle.ease_base.specs.declared.place.Pos.{Pos}
use Rattle.task_ast.specs.declared.tree.Op1.{Op1}
use Rattle.task_ast.specs.declared.tree.Op1.TheVariants as op1
use Rattle.task_ast.specs.declared.tree.Op2.{Op2}
use Rattle.task_ast.specs.declared.tree.Op2.TheVariants as op
use Rattle.task_tokens.specs.declared.token.Sign.{Sign}
use Rattle.task_tokens.specs.declared.token.Sign.TheVariants as sign
use Rattle.task_tokens.specs.declared.token.Lexeme.{Lexeme}
use Rattle.task_tokens.specs.declared.token.Lexeme.TheVariants as lexeme
use Rattle.task_tokens.specs.declared.token.Token.{Token}
use Rattle.task_text.specs.Forms.{symbol}
use Rattle.task_text.specs.Grammar.{sign_of, binds, prefix_of, prefix_binds}
use Rattle.task_text.specs.Reading.{found, taken}
use Rattle.task_text.specs.ReadingExpr.{binary, unary, binary_of, unary_of, is_tight, begins_operator, operator_at, prefix_at}
use Rattle.task_text.proofs.TokenLaws.{not_found, same_found}

-- the sign of the operator, or this one where there is none
abbrev sign_or : Sign → Option Op2 → Sign
sign_or s None = s
sign_or s (Some o) = sign_of o

same-sign : (s : Sign) → sign_or s (binary s) ≡ s
same-sign sign.BarBar = refl
same-sign _ = refl

pub binary-sign : (s : Sign) (o : Op2) → binary s ≡ Some o → s ≡ sign_of o
binary-sign s o h = sym (same-sign s) ∙ ap (sign_or s) h

pub sign-binary : (o : Op2) → binary (sign_of o) ≡ Some o
sign-binary op.Add = refl
sign-binary _ = refl

abbrev prefix_or : Sign → Option Op1 → Sign
prefix_or s None = s
prefix_or s (Some o) = prefix_of o

same-prefix : (s : Sign) → prefix_or s (unary s) ≡ s
same-prefix sign.Bang = refl
same-prefix _ = refl

pub unary-sign : (s : Sign) (o : Op1) → unary s ≡ Some o → s ≡ prefix_of o
unary-sign s o h = sym (same-prefix s) ∙ ap (prefix_or s) h

pub sign-unary : (o : Op1) → unary (prefix_of o) ≡ Some o
sign-unary op1.Not = refl
sign-unary _ = refl

-- binary operators bind looser than prefixes
pub binds-below : (o : Op2) → binds o < prefix_binds
binds-below op.Add = omega arith
binds-below _ = omega arith

-- what is taken was of use
taken-is : {T : Type 0} (o : Option T) (t : Token) (ts us : List Token) (x : T) → taken o t ts ≡ found x us → (o ≡ Some x) × (ts ≡ us)
taken-is None t ts us x h = absurd (not_found x us (t ∷ ts) h)
taken-is (Some y) t ts us x h = let e = same_found (record { value = y; rest = ts }) x us h in (ap (λ f. Some f.value) e, ap (λ f. f.rest) e)

-- the tokens are this sign and what follows
pub record IsSign (s : Sign) (ts us : List Token) : Type 0 where
  pub at : Pos
  pub whole : ts ≡ symbol s at ∷ us

operator-cases : (l : Lexeme) (at : Pos) (ts us : List Token) (o : Op2) → taken (binary_of l) (record { lexeme = l; at = at }) ts ≡ found o us → IsSign (sign_of o) (record { lexeme = l; at = at } ∷ ts) us
operator-cases (lexeme.Symbol s) at ts us o h =
    let t = taken-is (binary s) (symbol s at) ts us o h in
    record { at = at; whole = ap (λ r. symbol r at ∷ ts) (binary-sign s o t.0) ∙ ap (λ vs. symbol (sign_of o) at ∷ vs) t.1 }
operator-cases (lexeme.Name text) at ts us o h = absurd (not_found o us _ h)
operator-cases (lexeme.Number n) at ts us o h = absurd (not_found o us _ h)
operator-cases lexeme.TooWide at ts us o h = absurd (not_found o us _ h)
operator-cases (lexeme.Reserved k) at ts us o h = absurd (not_found o us _ h)

pub operator-sound : (ts us : List Token) (o : Op2) → operator_at ts ≡ found o us → IsSign (sign_of o) ts us
unfolding operator_at
operator-sound [] us o h = absurd (not_found o us [] h)
operator-sound (t ∷ ts) us o h = operator-cases t.lexeme t.at ts us o h

pub operator-complete : (o : Op2) (at : Pos) (us : List Token) → operator_at (symbol (sign_of o) at ∷ us) ≡ found o us
unfolding operator_at
operator-complete o at us = ap (λ r. taken r (symbol (sign_of o) at) us) (sign-binary o)

prefix-cases : (l : Lexeme) (at : Pos) (ts us : List Token) (o : Op1) → taken (unary_of l) (record { lexeme = l; at = at }) ts ≡ found o us → IsSign (prefix_of o) (record { lexeme = l; at = at } ∷ ts) us
prefix-cases (lexeme.Symbol s) at ts us o h =
    let t = taken-is (unary s) (symbol s at) ts us o h in
    record { at = at; whole = ap (λ r. symbol r at ∷ ts) (unary-sign s o t.0) ∙ ap (λ vs. symbol (prefix_of o) at ∷ vs) t.1 }
prefix-cases (lexeme.Name text) at ts us o h = absurd (not_found o us _ h)
prefix-cases (lexeme.Number n) at ts us o h = absurd (not_found o us _ h)
prefix-cases lexeme.TooWide at ts us o h = absurd (not_found o us _ h)
prefix-cases (lexeme.Reserved k) at ts us o h = absurd (not_found o us _ h)

pub prefix-sound : (ts us : List Token) (o : Op1) → prefix_at ts ≡ found o us → IsSign (prefix_of o) ts us
unfolding prefix_at
prefix-sound [] us o h = absurd (not_found o us [] h)
prefix-sound (t ∷ ts) us o h = prefix-cases t.lexeme t.at ts us o h

pub prefix-complete : (o : Op1) (at : Pos) (us : List Token) → prefix_at (symbol (prefix_of o) at ∷ us) ≡ found o us
unfolding prefix_at
prefix-complete o at us = ap (λ r. taken r (symbol (prefix_of o) at) us) (sign-unary o)

-- an operator that is next, by how tightly it binds
pub operator-begins : (level : ℕ) (o : Op2) (at : Pos) (us : List Token) → begins_operator level (symbol (sign_of o) at ∷ us) ≡ leb level (binds o)
operator-begins level o at us = ap (is_tight level) (sign-binary o)

pub tight-enough : (level : ℕ) (o : Op2) (ts us : List Token) → IsSign (sign_of o) ts us → begins_operator level ts ≡ true → level ≤ binds o
tight-enough level o ts us s h = leb-true level (binds o) (sym (operator-begins level o s.at us) ∙ ap (begins_operator level) (sym s.whole) ∙ h)

pub loose-enough : (level : ℕ) (o : Op2) (ts us : List Token) → IsSign (sign_of o) ts us → begins_operator level ts ≡ false → binds o < level
loose-enough level o ts us s h = leb-false level (binds o) (sym (operator-begins level o s.at us) ∙ ap (begins_operator level) (sym s.whole) ∙ h)

pub begins-tight : (level : ℕ) (o : Op2) (at : Pos) (us : List Token) → level ≤ binds o → begins_operator level (symbol (sign_of o) at ∷ us) ≡ true
begins-tight level o at us h = operator-begins level o at us ∙ le-leb level (binds o) h

pub begins-loose : (level : ℕ) (o : Op2) (at : Pos) (us : List Token) → binds o < level → begins_operator level (symbol (sign_of o) at ∷ us) ≡ false
begins-loose level o at us h = operator-begins level o at us ∙ lt-leb level (binds o) h

-- where no operator binds so tightly, none binds tighter
looser : (low high : ℕ) (r : Option Op2) → low ≤ high → is_tight low r ≡ false → is_tight high r ≡ false
looser low high None h e = refl
looser low high (Some o) h e = let k = leb-false low (binds o) e in lt-leb high (binds o) (omega arith)

pub begins-looser : (low high : ℕ) (ts : List Token) → low ≤ high → begins_operator low ts ≡ false → begins_operator high ts ≡ false
begins-looser low high [] h e = refl
begins-looser low high (t ∷ ts) h e = looser low high (binary_of t.lexeme) h e

none-tighter : (r : Option Op2) (level : ℕ) → prefix_binds ≤ level → is_tight level r ≡ false
none-tighter None level h = refl
none-tighter (Some o) level h = let k = binds-below o in lt-leb level (binds o) (omega arith)

-- no binary operator binds as tightly as a prefix
pub begins-none : (ts : List Token) (level : ℕ) → prefix_binds ≤ level → begins_operator level ts ≡ false
begins-none [] level h = refl
begins-none (t ∷ ts) level h = none-tighter (binary_of t.lexeme) level h
