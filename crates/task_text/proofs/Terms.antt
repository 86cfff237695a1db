-- An expression is read operator by operator.
use Rattle.std.proofs.Common.{◌≡◌, ℕ, zero, suc, ◌+◌, ◌-◌, ◌<◌, ◌≤◌, true, false, ltb, List, Result, Err, refl, sym, ap, subst, ◌∙◌, arith}
use Rattle.std.proofs.lemmas.Bool.{cond-true, cond-false, lt-ltb, le-ltb}
use Rattle.task_ast.specs.declared.tree.Op2.{Op2}
use Rattle.task_tokens.specs.declared.token.Token.{Token}
use Rattle.task_text.specs.declared.error.ReadError.{ReadError}
use Rattle.task_text.specs.declared.error.ReadError.TheVariants.{Syntax, NoMemory}
use Rattle.task_text.specs.declared.expr.Deep.{Deep}
use Rattle.task_text.specs.Grammar.{binds}
use Rattle.task_text.specs.Reading.{Outcome, Gives, found, ◌>>=◌}
use Rattle.task_text.specs.ReadingExpr.{begins_operator, operator_at, part_of, expr_at, joined, joined_from}

-- what is read of an expression so far, and what goes on behind it
pub record Terms (allowed level : ℕ) (old : List Token) (left : Deep) (ts : List Token) : Type 0 where
  pub more : ℕ
  pub room : allowed ≤ more + left.depth
  pub same : expr_at allowed level old ≡ joined_from more allowed level (expr_at (allowed - 1)) left ts

-- the number below a number that isn't 0
below : (n : ℕ) → n ≡ suc n - 1
below n = omega arith

-- an expression is its first part and what goes on behind it
expr-some : (allowed level : ℕ) (ts : List Token) → (allowed ≡ 0 → ⊥) → expr_at allowed level ts ≡ (part_of (expr_at (allowed - 1)) ts >>= λ left. joined_from allowed allowed level (expr_at (allowed - 1)) left.value left.rest)
unfolding expr_at
expr-some zero level ts h = absurd (h refl)
expr-some (suc n) level ts h = ap (λ m. part_of (expr_at m) ts >>= λ left. joined_from (suc n) (suc n) level (expr_at m) left.value left.rest) (below n)

pub Terms-none : (allowed level : ℕ) (old : List Token) (left : Deep) (ts : List Token) → (allowed ≡ 0 → ⊥) → part_of (expr_at (allowed - 1)) old ≡ found left ts → Terms allowed level old left ts
Terms-none allowed level old left ts h e = record {
  more = allowed;
  room = omega arith;
  same = expr-some allowed level old h ∙ ap (λ r. r >>= λ x. joined_from allowed allowed level (expr_at (allowed - 1)) x.value x.rest) e;
}

-- what an operator behind the left part leads to
joined-step : (more allowed level : ℕ) (inner : ℕ → List Token → Outcome Deep) (left : Deep) (ts : List Token) → begins_operator level ts ≡ true → left.depth < allowed →
    joined_from (suc more) allowed level inner left ts ≡ (operator_at ts >>= λ o. inner (binds o.value + 1) o.rest >>= λ right. joined_from more allowed level inner (joined o.value left right.value) right.rest)
unfolding joined_from
joined-step more allowed level inner left ts tight h = cond-true (begins_operator level ts) _ (found left ts) tight ∙ cond-true (ltb left.depth allowed) _ (Err ts) (lt-ltb left.depth allowed h)

module _ (allowed level : ℕ) (old : List Token) (left : Deep) (ts : List Token) (t : Terms allowed level old left ts) (tight : begins_operator level ts ≡ true) where
  -- the operator and what follows it, where the left part may still grow
  goes_on : left.depth < allowed → (more : ℕ) × (allowed ≤ suc more + left.depth) × (expr_at allowed level old ≡ (operator_at ts >>= λ o. expr_at (allowed - 1) (binds o.value + 1) o.rest >>= λ right. joined_from more allowed level (expr_at (allowed - 1)) (joined o.value left right.value) right.rest))
  goes_on h = go t.more t.room t.same where
    go : (more : ℕ) → allowed ≤ more + left.depth → expr_at allowed level old ≡ joined_from more allowed level (expr_at (allowed - 1)) left ts →
        (more : ℕ) × (allowed ≤ suc more + left.depth) × (expr_at allowed level old ≡ (operator_at ts >>= λ o. expr_at (allowed - 1) (binds o.value + 1) o.rest >>= λ right. joined_from more allowed level (expr_at (allowed - 1)) (joined o.value left right.value) right.rest))
    go zero room same = absurd (let k : ⊥ = omega arith in k)
    go (suc more) room same = (more, room, same ∙ joined-step more allowed level (expr_at (allowed - 1)) left ts tight h)

  pub Terms-more : (o : Op2) (right : Deep) (us vs : List Token) → left.depth < allowed → operator_at ts ≡ found o us → expr_at (allowed - 1) (binds o + 1) us ≡ found right vs → Terms allowed level old (joined o left right) vs
  Terms-more o right us vs h e f =
      let g = goes_on h in
      let room = g.1 in
      record {
        more = g.0;
        room = omega (arith, room);
        same = g.2 ∙ ap (λ r. r >>= λ o. expr_at (allowed - 1) (binds o.value + 1) o.rest >>= λ right. joined_from g.0 allowed level (expr_at (allowed - 1)) (joined o.value left right.value) right.rest) e
            ∙ ap (λ r. r >>= λ right. joined_from g.0 allowed level (expr_at (allowed - 1)) (joined o left right.value) right.rest) f;
      }

  pub Terms-no_part : (o : Op2) (us vs : List Token) → left.depth < allowed → operator_at ts ≡ found o us → expr_at (allowed - 1) (binds o + 1) us ≡ Err vs → expr_at allowed level old ≡ Err vs
  Terms-no_part o us vs h e f =
      let g = goes_on h in
      g.2 ∙ ap (λ r. r >>= λ o. expr_at (allowed - 1) (binds o.value + 1) o.rest >>= λ right. joined_from g.0 allowed level (expr_at (allowed - 1)) (joined o.value left right.value) right.rest) e
      ∙ ap (λ r. r >>= λ right. joined_from g.0 allowed level (expr_at (allowed - 1)) (joined o left right.value) right.rest) f

  pub Terms-no_sign : (us : List Token) → left.depth < allowed → operator_at ts ≡ Err us → expr_at allowed level old ≡ Err us
  Terms-no_sign us h e =
      let g = goes_on h in
      g.2 ∙ ap (λ r. r >>= λ o. expr_at (allowed - 1) (binds o.value + 1) o.rest >>= λ right. joined_from g.0 allowed level (expr_at (allowed - 1)) (joined o.value left right.value) right.rest) e

  pub Terms-too_deep : allowed ≤ left.depth → expr_at allowed level old ≡ Err ts
  unfolding joined_from
  Terms-too_deep h = t.same ∙ stuck t.more where
    stuck : (more : ℕ) → joined_from more allowed level (expr_at (allowed - 1)) left ts ≡ Err ts
    stuck zero = cond-true (begins_operator level ts) (Err ts) (found left ts) tight
    stuck (suc more) = cond-true (begins_operator level ts) _ (found left ts) tight ∙ cond-false (ltb left.depth allowed) _ (Err ts) (le-ltb left.depth allowed h)

  -- the same, where the operator's level has a name
  pub Terms-next : (o : Op2) (b : ℕ) (right next : Deep) (us vs : List Token) → left.depth < allowed → operator_at ts ≡ found o us → b ≡ binds o → expr_at (allowed - 1) (b + 1) us ≡ found right vs → next ≡ joined o left right → Terms allowed level old next vs
  Terms-next o b right next us vs h e k f g = subst (λ d. Terms allowed level old d vs) (sym g) (Terms-more o right us vs h e (ap (λ b. expr_at (allowed - 1) (b + 1) us) (sym k) ∙ f))

  pub Terms-broken : (o : Op2) (b : ℕ) (us vs : List Token) → left.depth < allowed → operator_at ts ≡ found o us → b ≡ binds o → expr_at (allowed - 1) (b + 1) us ≡ Err vs → expr_at allowed level old ≡ Err vs
  Terms-broken o b us vs h e k f = Terms-no_part o us vs h e (ap (λ b. expr_at (allowed - 1) (b + 1) us) (sym k) ∙ f)

pub joined-end : (more allowed level : ℕ) (inner : ℕ → List Token → Outcome Deep) (left : Deep) (ts : List Token) → begins_operator level ts ≡ false → joined_from more allowed level inner left ts ≡ found left ts
unfolding joined_from
joined-end zero allowed level inner left ts h = cond-false (begins_operator level ts) (Err ts) (found left ts) h
joined-end (suc more) allowed level inner left ts h = cond-false (begins_operator level ts) _ (found left ts) h

pub Terms-all : (allowed level : ℕ) (old : List Token) (left : Deep) (ts : List Token) → Terms allowed level old left ts → begins_operator level ts ≡ false → expr_at allowed level old ≡ found left ts
Terms-all allowed level old left ts t h = t.same ∙ joined-end t.more allowed level (expr_at (allowed - 1)) left ts h

-- with no depth allowed, and with no first part
pub expr-zero : (allowed level : ℕ) (ts : List Token) → allowed ≡ 0 → expr_at allowed level ts ≡ Err ts
unfolding expr_at
expr-zero zero level ts h = refl
expr-zero (suc n) level ts h = absurd (let k : ⊥ = omega arith in k)

pub expr-none : (allowed level : ℕ) (ts us : List Token) → (allowed ≡ 0 → ⊥) → part_of (expr_at (allowed - 1)) ts ≡ Err us → expr_at allowed level ts ≡ Err us
expr-none allowed level ts us h e = expr-some allowed level ts h ∙ ap (λ r. r >>= λ x. joined_from allowed allowed level (expr_at (allowed - 1)) x.value x.rest) e

-- An error of a part of the reading is that of the whole.
pub Gives-passed : {A B : Type 0} (read : Outcome A) (whole : Outcome B) (r : Result B ReadError) (e : ReadError) (left : List Token) → Gives read (Err e) left → ((us : List Token) → read ≡ Err us → whole ≡ Err us) → r ≡ Err e → Gives whole r left
Gives-passed read whole r Syntax left g f h = subst (λ x. Gives whole x left) (sym h) (f left g)
Gives-passed read whole r NoMemory left g f h = subst (λ x. Gives whole x left) (sym h) tt

-- want of memory says nothing
pub Gives-no_memory : {A : Type 0} (whole : Outcome A) (r : Result A ReadError) (left : List Token) → r ≡ Err NoMemory → Gives whole r left
Gives-no_memory whole r left h = subst (λ x. Gives whole x left) (sym h) tt

-- the same, at the exit of a `?`
pub Gives-exit : {A B : Type 0} (read : Outcome A) (whole : Outcome B) (r : Result B ReadError) (e : ReadError) (left : List Token) → Gives read (Err e) left → ((us : List Token) → read ≡ Err us → whole ≡ Err us) → (x : ReadError) × (r ≡ Err x) × (x ≡ e) → Gives whole r left
Gives-exit read whole r e left g f p = Gives-passed read whole r e left g f (p.1 ∙ ap Err p.2)
