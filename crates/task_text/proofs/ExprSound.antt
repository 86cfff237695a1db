-- An expression that is read is in the grammar, and not too deep.
use Rattle.std.proofs.Common.{◌≡◌, ℕ, zero, suc, ◌+◌, ◌<◌, ◌≤◌, max, true, false, cond, ltb, List, [], ◌∷◌, ◌++◌, Err, refl, sym, ap, subst, ◌∙◌, arith, ◌⊎◌, inl, inr}
use Rattle.std.proofs.lemmas.Bool.{cond-true, cond-false, cases_Bool}
use borrow.Author.Tests.{ltb-true}
use Rattle.ease_base.specs.declared.place.Pos.{Pos}
use Rattle.task_ast.specs.declared.tree.Name.{Name}
use Rattle.task_ast.specs.declared.tree.Op1.{Op1}
use Rattle.task_ast.specs.declared.tree.Op2.{Op2}
use Rattle.task_ast.specs.declared.tree.Expr.{Expr}
use Rattle.task_ast.specs.declared.tree.Expr.TheVariants as expr
use Rattle.task_ast.specs.declared.tree.Expr.TheBlock.{hidden-the_row-Expr-0, shape-the_row-Expr-0}
use denote.Hole.Carrier.{hidden}
use Rattle.task_ast.specs.Readable.{depth, deepest}
use Rattle.task_tokens.specs.declared.token.Sign.TheVariants as sign
use Rattle.task_tokens.specs.declared.token.Token.{Token}
use Rattle.task_text.specs.declared.expr.Deep.{Deep}
use Rattle.task_text.specs.Forms.{symbol, name, number}
use Rattle.task_text.specs.Grammar.{sign_of, binds, prefix_of, prefix_binds, IsParenthesized, IsBracketed, IsExpr, IsValue}
use Rattle.task_text.specs.Reading.{Found, Outcome, found, ◌>>=◌, between, begins_sign, begins_name, name_at, number_at}
use Rattle.task_text.specs.ReadingExpr.{scalar, joined, begins_prefix, begins_operator, operator_at, prefix_at, literal_at, behind_name, named_of, paren_of, prefixed_of, part_of, joined_from, expr_at, value_at}
use Rattle.task_text.proofs.TokenLaws.{not_found, same_found, bind_found, name-sound, number-sound}
use Rattle.task_text.proofs.Offs.{Off, off-found, off-after, IsSound, between-sound}
use Rattle.task_text.proofs.OperatorLaws.{operator-sound, prefix-sound, tight-enough, loose-enough, binds-below, begins-none}

-- ---- the grammar and the depth of each variant

pub index-is : (x : Name) (i : Expr) (level : ℕ) (index : List Token) → IsBracketed (IsExpr i 0) index → IsExpr (expr.Index x i) level (name x ∷ index)
unfolding hidden-the_row-Expr-0 shape-the_row-Expr-0 hidden
index-is x i level index h = (index, refl, h)

pub paren-is : (e : Expr) (level : ℕ) (tokens : List Token) → IsParenthesized (IsExpr e 0) tokens → IsExpr (expr.Paren e) level tokens
unfolding hidden-the_row-Expr-0 shape-the_row-Expr-0 hidden
paren-is e level tokens h = h

pub one-is : (o : Op1) (e : Expr) (level : ℕ) (at : Pos) (inner : List Token) → level ≤ prefix_binds → IsExpr e prefix_binds inner → IsExpr (expr.One o e) level (symbol (prefix_of o) at ∷ inner)
unfolding hidden-the_row-Expr-0 shape-the_row-Expr-0 hidden
one-is o e level at inner low h = (at, inner, refl, low, h)

pub two-is : (o : Op2) (e f : Expr) (level : ℕ) (at : Pos) (left right : List Token) → level ≤ binds o → IsExpr e (binds o) left → IsExpr f (binds o + 1) right → IsExpr (expr.Two o e f) level (left ++ symbol (sign_of o) at ∷ right)
unfolding hidden-the_row-Expr-0 shape-the_row-Expr-0 hidden
two-is o e f level at left right low h k = (at, left, right, refl, low, h, k)

pub depth-index : (x : Name) (i : Expr) → depth (expr.Index x i) ≡ 1 + depth i
unfolding hidden-the_row-Expr-0 shape-the_row-Expr-0 hidden
depth-index x i = refl

pub depth-paren : (e : Expr) → depth (expr.Paren e) ≡ 1 + depth e
unfolding hidden-the_row-Expr-0 shape-the_row-Expr-0 hidden
depth-paren e = refl

pub depth-one : (o : Op1) (e : Expr) → depth (expr.One o e) ≡ 1 + depth e
unfolding hidden-the_row-Expr-0 shape-the_row-Expr-0 hidden
depth-one o e = refl

pub depth-two : (o : Op2) (e f : Expr) → depth (expr.Two o e f) ≡ 1 + max (depth e) (depth f)
unfolding hidden-the_row-Expr-0 shape-the_row-Expr-0 hidden
depth-two o e f = refl

-- ---- what is read

-- an expression at this level and at each lower one, which is at most so deep
pub record IsDeep (level allowed : ℕ) (d : Deep) (tokens : List Token) : Type 0 where
  pub fits : (low : ℕ) → low ≤ level → IsExpr d.expr low tokens
  pub deep : d.depth ≡ depth d.expr
  pub within : d.depth ≤ allowed

-- the reading of an expression stops where no operator goes on
pub record ExprOff (level allowed : ℕ) (ts : List Token) (d : Deep) (us : List Token) : Type 0 where
  pub off : Off (IsDeep level allowed) ts d us
  pub stops : begins_operator level us ≡ false

-- the readings of expressions that are so deep, at each level
abbrev AreSound : ℕ → (ℕ → List Token → Outcome Deep) → Type 0
AreSound n inner = (level : ℕ) → level ≤ prefix_binds → (ts us : List Token) (d : Deep) → inner level ts ≡ found d us → ExprOff level n ts d us

abbrev IsPart : ℕ → Deep → List Token → Type 0
IsPart n d tokens = IsDeep prefix_binds (suc n) d tokens

literal-sound : (n : ℕ) → IsSound (IsPart n) literal_at
unfolding literal_at
literal-sound n ts us d h =
    let x = bind_found (number_at ts) _ d us h in
    off-found (IsPart n) ts _ d us (record { front = number x.0.value.value x.0.value.at ∷ []; split = number-sound ts x.0.rest x.0.value x.1; fits = record { fits = λ low k. refl; deep = refl; within = omega arith } }) x.2

module _ (n : ℕ) (inner : ℕ → List Token → Outcome Deep) (sound : AreSound n inner) where
  inner-sound : IsSound (IsDeep 0 n) (inner 0)
  inner-sound ts us d h = (sound 0 (omega arith) ts us d h).off

  behind-cases : (x : Name) (old ts us : List Token) (d : Deep) → old ≡ name x ∷ ts → behind_name (inner 0) x ts ≡ found d us → (begins_sign sign.BracketOpen ts ≡ true) ⊎ (begins_sign sign.BracketOpen ts ≡ false) → Off (IsPart n) old d us
  unfolding behind_name
  behind-cases x old ts us d e h (inl held) =
      let i = bind_found (between sign.BracketOpen sign.BracketClose (inner 0) ts) _ d us (sym (cond-true (begins_sign sign.BracketOpen ts) _ (found (scalar x) ts) held) ∙ h) in
      let o = between-sound sign.BracketOpen sign.BracketClose (IsDeep 0 n) (inner 0) inner-sound ts i.0.rest i.0.value i.1 in
      let inside = o.fits.inside in
      let bracketed : IsBracketed (IsExpr i.0.value.expr 0) o.front = record { at_first = o.fits.at_first; at_last = o.fits.at_last; inner = o.fits.inner; whole = o.fits.whole; inside = inside.fits 0 (omega arith) } in
      off-found (IsPart n) old _ d us (record {
        front = name x ∷ o.front;
        split = e ∙ ap (λ xs. name x ∷ xs) o.split;
        fits = record { fits = λ low k. index-is x i.0.value.expr low o.front bracketed; deep = omega (arith, inside.deep, depth-index x i.0.value.expr); within = omega (arith, inside.within) };
      }) i.2
  behind-cases x old ts us d e h (inr failed) =
      off-found (IsPart n) old (record { value = scalar x; rest = ts }) d us (record { front = name x ∷ []; split = e; fits = record { fits = λ low k. refl; deep = refl; within = omega arith } })
      (sym (cond-false (begins_sign sign.BracketOpen ts) _ (found (scalar x) ts) failed) ∙ h)

  named-sound : IsSound (IsPart n) (named_of (inner 0))
  unfolding named_of
  named-sound ts us d h =
      let x = bind_found (name_at ts) _ d us h in
      behind-cases x.0.value ts x.0.rest us d (name-sound ts x.0.rest x.0.value x.1) x.2 (cases_Bool (begins_sign sign.BracketOpen x.0.rest))

  paren-sound : IsSound (IsPart n) (paren_of (inner 0))
  unfolding paren_of
  paren-sound ts us d h =
      let e = bind_found (between sign.ParenOpen sign.ParenClose (inner 0) ts) _ d us h in
      let o = between-sound sign.ParenOpen sign.ParenClose (IsDeep 0 n) (inner 0) inner-sound ts e.0.rest e.0.value e.1 in
      let inside = o.fits.inside in
      let closed : IsParenthesized (IsExpr e.0.value.expr 0) o.front = record { at_first = o.fits.at_first; at_last = o.fits.at_last; inner = o.fits.inner; whole = o.fits.whole; inside = inside.fits 0 (omega arith) } in
      off-found (IsPart n) ts _ d us (record {
        front = o.front;
        split = o.split;
        fits = record { fits = λ low k. paren-is e.0.value.expr low o.front closed; deep = omega (arith, inside.deep, depth-paren e.0.value.expr); within = omega (arith, inside.within) };
      }) e.2

  prefixed-sound : IsSound (IsPart n) (prefixed_of (inner prefix_binds))
  unfolding prefixed_of
  prefixed-sound ts us d h =
      let o = bind_found (prefix_at ts) _ d us h in
      let e = bind_found (inner prefix_binds o.0.rest) _ d us o.2 in
      let s = prefix-sound ts o.0.rest o.0.value o.1 in
      let r = (sound prefix_binds (omega arith) o.0.rest e.0.rest e.0.value e.1).off in
      let inside = r.fits in
      off-found (IsPart n) ts _ d us (record {
        front = symbol (prefix_of o.0.value) s.at ∷ r.front;
        split = s.whole ∙ ap (λ xs. symbol (prefix_of o.0.value) s.at ∷ xs) r.split;
        fits = record { fits = λ low k. one-is o.0.value e.0.value.expr low s.at r.front k (inside.fits prefix_binds (omega arith)); deep = omega (arith, inside.deep, depth-one o.0.value e.0.value.expr); within = omega (arith, inside.within) };
      }) e.2

  named-or-literal : (ts us : List Token) (d : Deep) → cond (begins_name ts) (named_of (inner 0) ts) (literal_at ts) ≡ found d us → (begins_name ts ≡ true) ⊎ (begins_name ts ≡ false) → Off (IsPart n) ts d us
  named-or-literal ts us d h (inl held) = named-sound ts us d (sym (cond-true (begins_name ts) (named_of (inner 0) ts) (literal_at ts) held) ∙ h)
  named-or-literal ts us d h (inr failed) = literal-sound n ts us d (sym (cond-false (begins_name ts) (named_of (inner 0) ts) (literal_at ts) failed) ∙ h)

  paren-or-other : (ts us : List Token) (d : Deep) → cond (begins_sign sign.ParenOpen ts) (paren_of (inner 0) ts) (cond (begins_name ts) (named_of (inner 0) ts) (literal_at ts)) ≡ found d us → (begins_sign sign.ParenOpen ts ≡ true) ⊎ (begins_sign sign.ParenOpen ts ≡ false) → Off (IsPart n) ts d us
  paren-or-other ts us d h (inl held) = paren-sound ts us d (sym (cond-true (begins_sign sign.ParenOpen ts) (paren_of (inner 0) ts) _ held) ∙ h)
  paren-or-other ts us d h (inr failed) = named-or-literal ts us d (sym (cond-false (begins_sign sign.ParenOpen ts) (paren_of (inner 0) ts) _ failed) ∙ h) (cases_Bool (begins_name ts))

  part-cases : (ts us : List Token) (d : Deep) → part_of inner ts ≡ found d us → (begins_prefix ts ≡ true) ⊎ (begins_prefix ts ≡ false) → Off (IsPart n) ts d us
  unfolding part_of
  part-cases ts us d h (inl held) = prefixed-sound ts us d (sym (cond-true (begins_prefix ts) (prefixed_of (inner prefix_binds) ts) _ held) ∙ h)
  part-cases ts us d h (inr failed) = paren-or-other ts us d (sym (cond-false (begins_prefix ts) (prefixed_of (inner prefix_binds) ts) _ failed) ∙ h) (cases_Bool (begins_sign sign.ParenOpen ts))

  part-sound : IsSound (IsPart n) (part_of inner)
  part-sound ts us d h = part-cases ts us d h (cases_Bool (begins_prefix ts))

  -- ---- what goes on behind a left part

  -- what is read so far: an expression of operators that bind so tightly, behind which none tighter stands
  record Left (level : ℕ) (old : List Token) (left : Deep) (ts : List Token) : Type 0 where
    top : ℕ
    above : level ≤ top
    off : Off (IsDeep top (suc n)) old left ts
    next : begins_operator (suc top) ts ≡ false

  left-lower : (level : ℕ) (old ts : List Token) (left : Deep) (l : Left level old left ts) → Off (IsDeep level (suc n)) old left ts
  left-lower level old ts left l =
      let r = l.off in
      let f = r.fits in
      let above = l.above in
      record { front = r.front; split = r.split; fits = record { fits = λ low k. f.fits low (omega arith); deep = f.deep; within = f.within } }

  joined-none : (level : ℕ) (old ts us : List Token) (left d : Deep) → Left level old left ts → begins_operator level ts ≡ false → found left ts ≡ found d us → ExprOff level (suc n) old d us
  joined-none level old ts us left d l stops h =
      subst (λ (f : Found Deep). ExprOff level (suc n) old f.value f.rest) (same_found (record { value = left; rest = ts }) d us h) (record { off = left-lower level old ts left l; stops = stops })

  joined-more : (level : ℕ) (old ts us vs : List Token) (left right : Deep) (o : Op2) → left.depth < suc n → Left level old left ts → begins_operator level ts ≡ true → operator_at ts ≡ found o us → inner (binds o + 1) us ≡ found right vs → Left level old (joined o left right) vs
  joined-more level old ts us vs left right o h l tight e f =
      let s = operator-sound ts us o e in
      let loose = loose-enough (suc l.top) o ts us s l.next in
      let below : binds o + 1 ≤ prefix_binds = (let k = binds-below o in omega arith) in
      let r = sound (binds o + 1) below us vs right f in
      let a = l.off.fits in
      let b = r.off.fits in
      let left_fits = a.fits (binds o) (omega (arith, loose)) in
      let right_fits = b.fits (binds o + 1) (omega arith) in
      record {
        top = binds o;
        above = tight-enough level o ts us s tight;
        off = record {
          front = l.off.front ++ symbol (sign_of o) s.at ∷ r.off.front;
          split = off-after (IsDeep l.top (suc n)) old ts vs (symbol (sign_of o) s.at ∷ r.off.front) left l.off (s.whole ∙ ap (λ xs. symbol (sign_of o) s.at ∷ xs) r.off.split);
          fits = record {
            fits = λ low k. two-is o left.expr right.expr low s.at l.off.front r.off.front k left_fits right_fits;
            deep = omega (arith, a.deep, b.deep, depth-two o left.expr right.expr);
            within = omega (arith, b.within);
          };
        };
        next = ap (λ k. begins_operator k vs) (let k : suc (binds o) ≡ binds o + 1 = omega arith in k) ∙ r.stops;
      }

  joined-deep : (more level : ℕ) (old ts us : List Token) (left d : Deep) → Left level old left ts → begins_operator level ts ≡ true → ((ts us : List Token) (left d : Deep) → Left level old left ts → joined_from more (suc n) level inner left ts ≡ found d us → ExprOff level (suc n) old d us) →
      cond (ltb left.depth (suc n)) (operator_at ts >>= λ o. inner (binds o.value + 1) o.rest >>= λ right. joined_from more (suc n) level inner (joined o.value left right.value) right.rest) (Err ts) ≡ found d us → (ltb left.depth (suc n) ≡ true) ⊎ (ltb left.depth (suc n) ≡ false) → ExprOff level (suc n) old d us
  joined-deep more level old ts us left d l tight later h (inl held) =
      let o = bind_found (operator_at ts) _ d us (sym (cond-true (ltb left.depth (suc n)) _ (Err ts) held) ∙ h) in
      let r = bind_found (inner (binds o.0.value + 1) o.0.rest) _ d us o.2 in
      later r.0.rest us (joined o.0.value left r.0.value) d (joined-more level old ts o.0.rest r.0.rest left r.0.value o.0.value (ltb-true left.depth (suc n) held) l tight o.1 r.1) r.2
  joined-deep more level old ts us left d l tight later h (inr failed) = absurd (not_found d us ts (sym (cond-false (ltb left.depth (suc n)) _ (Err ts) failed) ∙ h))

  joined-next : (more level : ℕ) (old ts us : List Token) (left d : Deep) → Left level old left ts → ((ts us : List Token) (left d : Deep) → Left level old left ts → joined_from more (suc n) level inner left ts ≡ found d us → ExprOff level (suc n) old d us) → joined_from (suc more) (suc n) level inner left ts ≡ found d us → (begins_operator level ts ≡ true) ⊎ (begins_operator level ts ≡ false) → ExprOff level (suc n) old d us
  unfolding joined_from
  joined-next more level old ts us left d l later h (inl held) = joined-deep more level old ts us left d l held later (sym (cond-true (begins_operator level ts) _ (found left ts) held) ∙ h) (cases_Bool (ltb left.depth (suc n)))
  joined-next more level old ts us left d l later h (inr failed) = joined-none level old ts us left d l failed (sym (cond-false (begins_operator level ts) _ (found left ts) failed) ∙ h)

  joined-last : (level : ℕ) (old ts us : List Token) (left d : Deep) → Left level old left ts → joined_from zero (suc n) level inner left ts ≡ found d us → (begins_operator level ts ≡ true) ⊎ (begins_operator level ts ≡ false) → ExprOff level (suc n) old d us
  unfolding joined_from
  joined-last level old ts us left d l h (inl held) = absurd (not_found d us ts (sym (cond-true (begins_operator level ts) (Err ts) (found left ts) held) ∙ h))
  joined-last level old ts us left d l h (inr failed) = joined-none level old ts us left d l failed (sym (cond-false (begins_operator level ts) (Err ts) (found left ts) failed) ∙ h)

  joined-sound : (more level : ℕ) (old ts us : List Token) (left d : Deep) → Left level old left ts → joined_from more (suc n) level inner left ts ≡ found d us → ExprOff level (suc n) old d us
  joined-sound zero level old ts us left d l h = joined-last level old ts us left d l h (cases_Bool (begins_operator level ts))
  joined-sound (suc more) level old ts us left d l h = joined-next more level old ts us left d l (joined-sound more level old) h (cases_Bool (begins_operator level ts))

  parts-sound : (level : ℕ) → level ≤ prefix_binds → (ts us : List Token) (d : Deep) → (part_of inner ts >>= λ left. joined_from (suc n) (suc n) level inner left.value left.rest) ≡ found d us → ExprOff level (suc n) ts d us
  parts-sound level low ts us d h =
      let left = bind_found (part_of inner ts) _ d us h in
      let o = part-sound ts left.0.rest left.0.value left.1 in
      joined-sound (suc n) level ts left.0.rest us left.0.value d (record { top = prefix_binds; above = low; off = o; next = begins-none left.0.rest (suc prefix_binds) (omega arith) }) left.2

-- what is read is an expression of allowed depth
pub expr-sound : (n : ℕ) → AreSound n (expr_at n)
unfolding expr_at
expr-sound zero level low ts us d h = absurd (not_found d us ts h)
expr-sound (suc n) level low ts us d h = parts-sound n (expr_at n) (expr-sound n) level low ts us d h

pub value-sound : IsSound IsValue value_at
unfolding value_at
value-sound ts us e h =
    let d = bind_found (expr_at deepest 0 ts) _ e us h in
    let r = (expr-sound deepest 0 (omega arith) ts d.0.rest d.0.value d.1).off in
    let f = r.fits in
    off-found IsValue ts _ e us (record { front = r.front; split = r.split; fits = (f.fits 0 (omega arith), omega (arith, f.deep, f.within)) }) d.2
