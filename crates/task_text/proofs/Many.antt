-- Items one after another: what is read is in the grammar, and what is in the grammar is read.
use Rattle.std.proofs.Common.{◌≡◌, ℕ, zero, suc, ◌<◌, ◌≤◌, Bool, true, false, List, [], ◌∷◌, ◌++◌, length, refl, sym, ap, subst, ◌∙◌, arith, ◌⊎◌, inl, inr, append_assoc, length-append}
use Rattle.std.proofs.lemmas.Bool.{cond-true, cond-false, cases_Bool, false≢true}
use Rattle.task_tokens.specs.declared.token.Keyword.TheVariants as keyword
use Rattle.task_tokens.specs.declared.token.Token.{Token}
use Rattle.task_text.specs.Forms.{Form, AreAll}
use Rattle.task_text.specs.Reading.{Outcome, found, ◌>>=◌, begins_reserved, many}
use Rattle.task_text.proofs.TokenLaws.{bind_found}
use Rattle.task_text.proofs.Offs.{Off, off-found, IsSound, bind-at}
use Rattle.task_text.proofs.Starts.{Starts, IsReadBefore}
use Rattle.task_text.proofs.Items.{Takes, many-end}

-- items that are read are in the grammar, where each is
module _ {T : Type 0} (P : T → List Token → Type 0) (begins : List Token → Bool) (item : List Token → Outcome T) (each : IsSound P item) where
  many-none : (ts us : List Token) (xs : List T) → found [] ts ≡ found xs us → Off (AreAll P) ts xs us
  many-none ts us xs h = off-found (AreAll P) ts (record { value = []; rest = ts }) xs us (record { front = []; split = refl; fits = refl }) h

  many-more : (n : ℕ) → ((ts us : List Token) (xs : List T) → many n begins item ts ≡ found xs us → Off (AreAll P) ts xs us) → (ts us : List Token) (xs : List T) → (item ts >>= λ x. many n begins item x.rest >>= λ ys. found (x.value ∷ ys.value) ys.rest) ≡ found xs us → Off (AreAll P) ts xs us
  many-more n later ts us xs h =
      let x = bind_found (item ts) _ xs us h in
      let ys = bind_found (many n begins item x.0.rest) _ xs us x.2 in
      let o = each ts x.0.rest x.0.value x.1 in
      let p = later x.0.rest ys.0.rest ys.0.value ys.1 in
      off-found (AreAll P) ts _ xs us (record {
        front = o.front ++ p.front;
        split = o.split ∙ ap (λ zs. o.front ++ zs) p.split ∙ sym (append_assoc o.front p.front ys.0.rest);
        fits = (o.front, p.front, refl, o.fits, p.fits);
      }) ys.2

  many-cases : (n : ℕ) → ((ts us : List Token) (xs : List T) → many n begins item ts ≡ found xs us → Off (AreAll P) ts xs us) → (ts us : List Token) (xs : List T) → many (suc n) begins item ts ≡ found xs us → (begins ts ≡ true) ⊎ (begins ts ≡ false) → Off (AreAll P) ts xs us
  unfolding many
  many-cases n later ts us xs h (inl held) = many-more n later ts us xs (sym (cond-true (begins ts) _ (found [] ts) held) ∙ h)
  many-cases n later ts us xs h (inr failed) = many-none ts us xs (sym (cond-false (begins ts) _ (found [] ts) failed) ∙ h)

  pub many-sound : (n : ℕ) (ts us : List Token) (xs : List T) → many n begins item ts ≡ found xs us → Off (AreAll P) ts xs us
  unfolding many
  many-sound zero ts us xs h = many-none ts us xs h
  many-sound (suc n) ts us xs h = many-cases n (many-sound n) ts us xs h (cases_Bool (begins ts))

-- no `else` follows
abbrev pub NoElse : List Token → Type 0
NoElse rest = begins_reserved keyword.Else rest ≡ false

-- how items begin: each so, and so that an item may stand before it
pub record Beginnings {T : Type 0} (F : List Token → Type 0) (P : Form T) (begins : List Token → Bool) : Type 0 where
  pub starts : Starts (λ ts. begins ts ≡ true) P
  pub safe : Starts F P
  pub ends : begins [] ≡ false

-- so each has a token
some-left : (begins : List Token → Bool) (ts : List Token) → begins [] ≡ false → begins ts ≡ true → 0 < length ts
some-left begins [] e h = absurd (false≢true (sym e ∙ h))
some-left begins (t ∷ ts) e h = omega arith

pub some-item : {T : Type 0} {F : List Token → Type 0} {P : Form T} {begins : List Token → Bool} → Beginnings F P begins → (x : T) (front : List Token) → P x front → 0 < length front
some-item {begins} b x front h = let some = some-left begins (front ++ []) b.ends (b.starts.so x front [] h) in omega (arith, some, length-append front [])

-- and each reading of one takes a token
pub item-takes : {T : Type 0} {F : List Token → Type 0} {P : Form T} {begins : List Token → Bool} {item : List Token → Outcome T} → Beginnings F P begins → IsSound P item → Takes item
item-takes b sound ts us x h = let o = sound ts us x h in omega (arith, ap length o.split, length-append o.front us, some-item b x o.front o.fits)

-- items of the grammar are read, up to what begins none
module _ {T : Type 0} (F : List Token → Type 0) (P : Form T) (begins : List Token → Bool) (item : List Token → Outcome T) (b : Beginnings F P begins) (each : IsReadBefore F P item) where
  pub items-safe : (xs : List T) (tokens rest : List Token) → AreAll P xs tokens → F rest → F (tokens ++ rest)
  items-safe [] tokens rest h safe = subst (λ ts. F (ts ++ rest)) (sym h) safe
  items-safe (x ∷ xs) tokens rest (front, back, w, f, more) safe = subst (λ ts. F (ts ++ rest)) (sym w) (subst F (sym (append_assoc front back rest)) (b.safe.so x front (back ++ rest) f))

  many-step : (n : ℕ) (x : T) (xs : List T) (front back rest : List Token) → P x front → F (back ++ rest) → many n begins item (back ++ rest) ≡ found xs rest → many (suc n) begins item (front ++ (back ++ rest)) ≡ found (x ∷ xs) rest
  unfolding many
  many-step n x xs front back rest h safe e =
      cond-true (begins (front ++ (back ++ rest))) _ (found [] (front ++ (back ++ rest))) (b.starts.so x front (back ++ rest) h)
      ∙ bind-at _ _ x (back ++ rest) (each.reads x front (back ++ rest) h safe)
      ∙ bind-at _ _ xs rest e

  pub many-complete : (n : ℕ) (xs : List T) (tokens rest : List Token) → AreAll P xs tokens → begins rest ≡ false → F rest → length (tokens ++ rest) ≤ n → many n begins item (tokens ++ rest) ≡ found xs rest
  many-complete n [] tokens rest h stops safe room = ap (λ ts. many n begins item (ts ++ rest)) h ∙ many-end n begins item rest stops
  many-complete zero (x ∷ xs) tokens rest (front, back, w, f, more) stops safe room =
      absurd (let k : ⊥ = omega (arith, some-item b x front f, ap length w, length-append front back, length-append tokens rest) in k)
  many-complete (suc n) (x ∷ xs) tokens rest (front, back, w, f, more) stops safe room =
      ap (λ ts. many (suc n) begins item (ts ++ rest)) w ∙ ap (many (suc n) begins item) (append_assoc front back rest)
      ∙ many-step n x xs front back rest f (items-safe xs back rest more safe)
      (many-complete n xs back rest more stops safe (omega (arith, some-item b x front f, ap length w, length-append front back, length-append tokens rest, length-append back rest)))
