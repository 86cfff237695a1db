-- Items are read one by one.
use Rattle.std.proofs.Common.{◌≡◌, ℕ, zero, suc, ◌<◌, ◌≤◌, Bool, true, false, List, [], ◌∷◌, ◌++◌, length, Ok, Err, refl, sym, ap, ◌∙◌, arith, append_assoc, append-nil}
use Rattle.std.proofs.lemmas.Bool.{cond-true, cond-false, false≢true}
use Rattle.task_tokens.specs.declared.token.Token.{Token}
use Rattle.task_text.specs.Reading.{Outcome, found, ◌>>=◌, many}

-- what was read before stands before what is read
abbrev pub with_front : {T : Type 0} → List T → Outcome (List T) → Outcome (List T)
with_front front read = read >>= λ xs. found (front ++ xs.value) xs.rest

-- what is read of the items so far, and what goes on behind it
pub record Items {T : Type 0} (begins : List Token → Bool) (item : List Token → Outcome T) (whole : Outcome (List T)) (front : List T) (ts : List Token) : Type 0 where
  pub more : ℕ
  pub room : length ts ≤ more
  pub same : whole ≡ with_front front (many more begins item ts)

front-none : {T : Type 0} (read : Outcome (List T)) → read ≡ with_front [] read
front-none (Ok x) = refl
front-none (Err left) = refl

front-more : {T : Type 0} (front : List T) (x : T) (read : Outcome (List T)) → with_front front (read >>= λ xs. found (x ∷ xs.value) xs.rest) ≡ with_front (front ++ x ∷ []) read
front-more front x (Ok xs) = ap (λ ys. found ys xs.rest) (sym (append_assoc front (x ∷ []) xs.value))
front-more front x (Err left) = refl

pub Items-none : {T : Type 0} (begins : List Token → Bool) (item : List Token → Outcome T) (old : List Token) → Items begins item (many (length old) begins item old) [] old
Items-none begins item old = record { more = length old; room = omega arith; same = front-none (many (length old) begins item old) }

-- an item of each reading takes a token
abbrev pub Takes : {T : Type 0} → (List Token → Outcome T) → Type 0
Takes {T} item = (ts us : List Token) (x : T) → item ts ≡ found x us → length us < length ts

many-step : {T : Type 0} (more : ℕ) (begins : List Token → Bool) (item : List Token → Outcome T) (ts : List Token) → begins ts ≡ true → many (suc more) begins item ts ≡ (item ts >>= λ x. many more begins item x.rest >>= λ xs. found (x.value ∷ xs.value) xs.rest)
unfolding many
many-step more begins item ts h = cond-true (begins ts) _ (found [] ts) h

pub many-end : {T : Type 0} (more : ℕ) (begins : List Token → Bool) (item : List Token → Outcome T) (ts : List Token) → begins ts ≡ false → many more begins item ts ≡ found [] ts
unfolding many
many-end zero begins item ts h = refl
many-end (suc more) begins item ts h = cond-false (begins ts) _ (found [] ts) h

-- something begins with an item
some-left : (begins : List Token → Bool) (ts : List Token) → begins [] ≡ false → begins ts ≡ true → 0 < length ts
some-left begins [] e h = absurd (false≢true (sym e ∙ h))
some-left begins (t ∷ ts) e h = omega arith

pub Items-more : {T : Type 0} (begins : List Token → Bool) (item : List Token → Outcome T) (whole : Outcome (List T)) (front : List T) (x : T) (ts us : List Token) → begins [] ≡ false → Takes item → Items begins item whole front ts → begins ts ≡ true → item ts ≡ found x us → Items begins item whole (front ++ x ∷ []) us
Items-more {T} begins item whole front x ts us ends takes r h e = go r.more r.room r.same where
  go : (more : ℕ) → length ts ≤ more → whole ≡ with_front front (many more begins item ts) → Items begins item whole (front ++ x ∷ []) us
  go zero room same = absurd (let k : 0 < length ts = some-left begins ts ends h in let l : ⊥ = omega arith in l)
  go (suc more) room same = record {
    more = more;
    room = omega (arith, takes ts us x e);
    same = same ∙ ap (with_front front) (many-step more begins item ts h ∙ ap (λ r. r >>= λ y. many more begins item y.rest >>= λ ys. found (y.value ∷ ys.value) ys.rest) e)
        ∙ front-more front x (many more begins item us);
  }

pub Items-break : {T : Type 0} (begins : List Token → Bool) (item : List Token → Outcome T) (whole : Outcome (List T)) (front : List T) (ts us : List Token) → begins [] ≡ false → Items begins item whole front ts → begins ts ≡ true → item ts ≡ Err us → whole ≡ Err us
Items-break {T} begins item whole front ts us ends r h e = go r.more r.room r.same where
  go : (more : ℕ) → length ts ≤ more → whole ≡ with_front front (many more begins item ts) → whole ≡ Err us
  go zero room same = absurd (let k : 0 < length ts = some-left begins ts ends h in let l : ⊥ = omega arith in l)
  go (suc more) room same = same ∙ ap (with_front front) (many-step more begins item ts h ∙ ap (λ r. r >>= λ y. many more begins item y.rest >>= λ ys. found (y.value ∷ ys.value) ys.rest) e)

pub Items-all : {T : Type 0} (begins : List Token → Bool) (item : List Token → Outcome T) (whole : Outcome (List T)) (front : List T) (ts : List Token) → Items begins item whole front ts → begins ts ≡ false → whole ≡ found front ts
Items-all begins item whole front ts r h = r.same ∙ ap (with_front front) (many-end r.more begins item ts h) ∙ ap (λ xs. found xs ts) (append-nil front)
