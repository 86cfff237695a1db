-- Parts of fair tokens are fair.
use Rattle.std.proofs.Common.{List, [], ◌∷◌, ◌++◌, subst}
use Rattle.std.specs.List.{AllByRecursion}
use Rattle.task_tokens.specs.declared.token.Sign.{Sign}
use Rattle.task_tokens.specs.declared.token.Token.{Token}
use Rattle.task_tokens.specs.Fair.{IsFair}
use Rattle.task_text.specs.Forms.{IsBetween}

abbrev pub AreFair : List Token → Type 0
AreFair tokens = AllByRecursion IsFair tokens

pub fair_front : (xs ys : List Token) → AreFair (xs ++ ys) → AreFair xs
fair_front [] ys h = tt
fair_front (x ∷ xs) ys h = (h.0, fair_front xs ys h.1)

pub fair_back : (xs ys : List Token) → AreFair (xs ++ ys) → AreFair ys
fair_back [] ys h = h
fair_back (x ∷ xs) ys h = fair_back xs ys h.1

-- what is inside signs is fair
pub fair_inside : (first last : Sign) (P : List Token → Type 0) (tokens : List Token) (b : IsBetween first last P tokens) → AreFair tokens → AreFair b.inner
fair_inside first last P tokens b fair = fair_front b.inner _ (subst AreFair b.whole fair).1
