-- What holds of each part of a form, in fair tokens, holds of the whole: parts are good, and no more than tokens.
use Rattle.std.proofs.Common.{◌≡◌, ◌≤◌, ℕ, ◌+◌, List, [], ◌∷◌, ◌++◌, length, sum_by, ap, subst, arith, inl, inr}
use Rattle.std.specs.List.{AllByRecursion}
use Rattle.std.proofs.lemmas.List.{length-append}
use Rattle.std.proofs.lemmas.List.Sums.{sum_by-cons}
use Rattle.ease_base.specs.declared.place.Pos.{Pos}
use Rattle.task_ast.specs.declared.tree.Name.{Name}
use Rattle.task_ast.specs.NameToken.{IsNameToken}
use Rattle.task_ast.specs.Readable.{IsWord}
use Rattle.task_tokens.specs.declared.token.Keyword.{Keyword}
use Rattle.task_tokens.specs.declared.token.Sign.{Sign}
use Rattle.task_tokens.specs.declared.token.Token.{Token}
use Rattle.task_tokens.specs.Fair.{IsFair}
use Rattle.task_text.specs.declared.cursor.Numeral.{Numeral}
use Rattle.task_text.specs.Forms.{symbol, Form, Word, Mark, Named, Numbered, Zero, Same, Done, Then, Either, AreAll, IsBetween, Enclosed}

abbrev pub AreFair : List Token → Type 0
AreFair tokens = AllByRecursion IsFair tokens

pub fair_front : (xs ys : List Token) → AreFair (xs ++ ys) → AreFair xs
fair_front [] ys h = tt
fair_front (x ∷ xs) ys h = (h.0, fair_front xs ys h.1)

pub fair_back : (xs ys : List Token) → AreFair (xs ++ ys) → AreFair ys
fair_back [] ys h = h
fair_back (x ∷ xs) ys h = fair_back xs ys h.1

-- what is inside signs is fair
pub fair_inside : (first last : Sign) (P : List Token → Type 0) (tokens : List Token) (b : IsBetween first last P tokens) → AreFair tokens → AreFair b.inner
fair_inside first last P tokens b fair = fair_front b.inner _ (subst AreFair b.whole fair).1

pub inside_shorter : (first last : Sign) (P : List Token → Type 0) (tokens : List Token) (b : IsBetween first last P tokens) → length tokens ≡ 2 + length b.inner
inside_shorter first last P tokens b = omega (arith, ap length b.whole, length-append b.inner (symbol last b.at_last ∷ []))

-- values of the form are good, and have no more parts than tokens and so many that stood before
pub record Fits {T : Type 0} (before : ℕ) (size : T → ℕ) (Good : T → Type 0) (P : Form T) : Type 0 where
  pub fits : (x : T) (tokens : List Token) → P x tokens → AreFair tokens → Good x × (size x ≤ before + length tokens)

abbrev Nothing : Pos → Type 0
Nothing at = Unit {0}

pub word-fits : {k : Keyword} → Fits 0 (λ at. 1) Nothing (Word k)
word-fits = record { fits = λ at tokens w fair. (tt, omega (arith, ap length w)) }

pub mark-fits : {s : Sign} → Fits 0 (λ at. 1) Nothing (Mark s)
mark-fits = record { fits = λ at tokens w fair. (tt, omega (arith, ap length w)) }

pub zero-fits : Fits 0 (λ at. 1) Nothing Zero
zero-fits = record { fits = λ at tokens w fair. (tt, omega (arith, ap length w)) }

pub same-fits : {text : List ℕ} → Fits 0 (λ at. 1) Nothing (Same text)
same-fits = record { fits = λ at tokens w fair. (tt, omega (arith, ap length w)) }

pub named-fits : Fits 0 (λ x. 1) (λ (x : Name). IsNameToken x.text) Named
named-fits = record { fits = λ x tokens w fair. ((subst AreFair w fair).0, omega (arith, ap length w)) }

pub numbered-fits : Fits 0 (λ n. 1) (λ (n : Numeral). IsWord n.value) Numbered
numbered-fits = record { fits = λ n tokens w fair. ((subst AreFair w fair).0, omega (arith, ap length w)) }

pub done-fits : {T : Type 0} {before : ℕ} {size : T → ℕ} {Good : T → Type 0} (v : T) → Good v → size v ≤ before → Fits before size Good (Done v)
done-fits {T} {before} {size} {Good} v good small = record {
  fits = λ y tokens h fair. (subst Good h.0 good, let same : size v ≡ size y = ap size h.0 in omega (arith, same, small));
}

pub then-fits : {A B : Type 0} {before : ℕ} {part : A → ℕ} {size : B → ℕ} {GoodPart : A → Type 0} {Good : B → Type 0} {P : Form A} {Q : A → Form B} → Fits 0 part GoodPart P → ((x : A) → GoodPart x → Fits (before + part x) size Good (Q x)) → Fits before size Good (Then P Q)
then-fits one more = record {
  fits = λ y tokens h fair.
      let all = subst AreFair h.3 fair in
      let first = one.fits h.0 h.1 h.4 (fair_front h.1 h.2 all) in
      let last = (more h.0 first.0).fits y h.2 h.5 (fair_back h.1 h.2 all) in
      (last.0, omega (arith, first.1, last.1, ap length h.3, length-append h.1 h.2));
}

pub either-fits : {T : Type 0} {before : ℕ} {size : T → ℕ} {Good : T → Type 0} {P Q : Form T} → Fits before size Good P → Fits before size Good Q → Fits before size Good (Either P Q)
either-fits {T} {before} {size} {Good} {P} {Q} one two = record { fits = by_form }
  where
    by_form : (x : T) (tokens : List Token) → Either P Q x tokens → AreFair tokens → Good x × (size x ≤ before + length tokens)
    by_form x tokens (inl h) fair = one.fits x tokens h fair
    by_form x tokens (inr h) fair = two.fits x tokens h fair

pub enclosed-fits : {T : Type 0} {size : T → ℕ} {Good : T → Type 0} {first last : Sign} {P : Form T} → Fits 0 size Good P → Fits 0 (λ x. 2 + size x) Good (Enclosed first last P)
enclosed-fits {first} {last} {P} one = record {
  fits = λ x tokens b fair.
      let inner = one.fits x b.inner b.inside (fair_inside first last (P x) tokens b fair) in
      (inner.0, omega (arith, inner.1, inside_shorter first last (P x) tokens b));
}

module _ {T : Type 0} {size : T → ℕ} {Good : T → Type 0} {P : Form T} (one : Fits 0 size Good P) where
  items-fit : (xs : List T) (tokens : List Token) → AreAll P xs tokens → AreFair tokens → AllByRecursion Good xs × (sum_by size xs ≤ length tokens)
  items-fit [] tokens is fair = (tt, omega arith)
  items-fit (x ∷ xs) tokens is fair =
      let all = subst AreFair is.2 fair in
      let first = one.fits x is.0 is.3 (fair_front is.0 is.1 all) in
      let others = items-fit xs is.1 is.4 (fair_back is.0 is.1 all) in
      ((first.0, others.0), omega (arith, first.1, others.1, ap length is.2, length-append is.0 is.1, sum_by-cons size x xs))

  pub all-fit : Fits 0 (sum_by size) (AllByRecursion Good) (AreAll P)
  all-fit = record { fits = λ xs tokens is fair. let all = items-fit xs tokens is fair in (all.0, omega (arith, all.1)) }

-- a good value is good in a wider sense
pub wider-fits : {T : Type 0} {before : ℕ} {size : T → ℕ} {Good Better : T → Type 0} {P : Form T} → ((x : T) → Better x → Good x) → Fits before size Better P → Fits before size Good P
wider-fits wide one = record { fits = λ x tokens h fair. let f = one.fits x tokens h fair in (wide x f.0, f.1) }
