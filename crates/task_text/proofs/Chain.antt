-- Readings one after another: what is read is in the form, since each part is.
use Rattle.std.proofs.Common.{◌≡◌, ℕ, Bool, true, false, cond, List, [], ◌∷◌, ◌++◌, length, refl, sym, ap, ◌∙◌, ◌⊎◌, inl, inr}
use Rattle.std.proofs.lemmas.Bool.{cond-true, cond-false, cases_Bool}
use Rattle.task_tokens.specs.declared.token.Keyword.{Keyword}
use Rattle.task_tokens.specs.declared.token.Sign.{Sign}
use Rattle.task_tokens.specs.declared.token.Token.{Token}
use Rattle.task_text.specs.Forms.{symbol, reserved, name, number, Form, Word, Mark, Named, Numbered, Zero, Same, Done, Then, Either, AreAll, Enclosed}
use Rattle.task_text.specs.Reading.{Found, Reader, chain, done, sign_at, reserved_at, name_at, number_at, same_at, zero_at, between, many}
use Rattle.task_text.proofs.TokenLaws as token
use Rattle.task_text.proofs.TokenLaws.{same_found, bind_found}
use Rattle.task_text.proofs.Offs.{Off, off-found, off-after, IsSound, between-sound}
use Rattle.task_text.proofs.Many as items

pub word-sound : (k : Keyword) → IsSound (Word k) (reserved_at k)
word-sound k ts us at h = record { front = reserved k at ∷ []; split = token.reserved-sound k ts us at h; fits = refl }

pub mark-sound : (s : Sign) → IsSound (Mark s) (sign_at s)
mark-sound s ts us at h = record { front = symbol s at ∷ []; split = token.sign-sound s ts us at h; fits = refl }

pub named-sound : IsSound Named name_at
named-sound ts us x h = record { front = name x ∷ []; split = token.name-sound ts us x h; fits = refl }

pub numbered-sound : IsSound Numbered number_at
numbered-sound ts us n h = record { front = number n.value n.at ∷ []; split = token.number-sound ts us n h; fits = refl }

pub zero-sound : IsSound Zero zero_at
zero-sound ts us at h = record { front = number 0 at ∷ []; split = token.zero-sound ts us at h; fits = refl }

pub same-sound : (text : List ℕ) → IsSound (Same text) (same_at text)
same-sound text ts us at h = record { front = name (record { text = text; at = at }) ∷ []; split = token.same-sound text ts us at h; fits = refl }

pub done-sound : {T : Type 0} (v : T) → IsSound (Done v) (done v)
done-sound v ts us y h =
    let f = same_found (record { value = v; rest = ts }) y us h in
    record { front = []; split = ap (λ (g : Found _). g.rest) f; fits = (ap (λ (g : Found _). g.value) f, refl) }

pub chain-sound : {A B : Type 0} {P : Form A} {Q : A → Form B} {read : Reader A} {next : A → Reader B} → IsSound P read → ((x : A) → IsSound (Q x) (next x)) → IsSound (Then P Q) (chain read next)
chain-sound {P} {Q} {read} {next} sound more ts us y h =
    let a = bind_found (read ts) _ y us h in
    let o = sound ts a.0.rest a.0.value a.1 in
    let m = more a.0.value a.0.rest us y a.2 in
    record { front = o.front ++ m.front; split = off-after P ts a.0.rest us m.front a.0.value o m.split; fits = (a.0.value, o.front, m.front, refl, o.fits, m.fits) }

pub enclosed-sound : {T : Type 0} (first last : Sign) {P : Form T} {read : Reader T} → IsSound P read → IsSound (Enclosed first last P) (between first last read)
enclosed-sound first last {P} {read} sound = between-sound first last P read sound

pub many-sound : {T : Type 0} (begins : List Token → Bool) {P : Form T} {item : Reader T} → IsSound P item → IsSound (AreAll P) (λ ts. many (length ts) begins item ts)
many-sound begins {P} {item} sound ts us xs h = items.many-sound P begins item sound (length ts) ts us xs h

-- what is in a form is in a wider one
pub widen : {T : Type 0} {P Q : Form T} {read : Reader T} → ((x : T) (tokens : List Token) → P x tokens → Q x tokens) → IsSound P read → IsSound Q read
widen wide sound ts us x h = let o = sound ts us x h in record { front = o.front; split = o.split; fits = wide x o.front o.fits }

-- one reading or the other, by a test of the tokens
pub choose-sound : {T : Type 0} (b : List Token → Bool) {P : Form T} {read other : Reader T} → IsSound P read → IsSound P other → IsSound P (λ ts. cond (b ts) (read ts) (other ts))
choose-sound {T} b {P} {read} {other} one two ts us x h = by_test (cases_Bool (b ts))
  where
    by_test : (b ts ≡ true) ⊎ (b ts ≡ false) → Off P ts x us
    by_test (inl held) = one ts us x (sym (cond-true (b ts) (read ts) (other ts) held) ∙ h)
    by_test (inr failed) = two ts us x (sym (cond-false (b ts) (read ts) (other ts) failed) ∙ h)

pub either-sound : {T : Type 0} (b : List Token → Bool) {P Q : Form T} {read other : Reader T} → IsSound P read → IsSound Q other → IsSound (Either P Q) (λ ts. cond (b ts) (read ts) (other ts))
either-sound b {P} {Q} {read} {other} one two = choose-sound b (widen (λ x tokens h. inl h) one) (widen (λ x tokens h. inr h) two)

-- a reading whose value is made into another
pub mapped-sound : {A B : Type 0} {P : Form A} {R : Form B} {read : Reader A} (f : A → B) → ((x : A) (tokens : List Token) → P x tokens → R (f x) tokens) → IsSound P read → IsSound R (chain read (λ x. done (f x)))
mapped-sound {R} {read} f made sound ts us y h =
    let a = bind_found (read ts) _ y us h in
    let o = sound ts a.0.rest a.0.value a.1 in
    off-found R ts _ y us (record { front = o.front; split = o.split; fits = made a.0.value o.front o.fits }) a.2
