-- The readings of one token: what is read is there, and what is there is read.
use Rattle.std.proofs.Common.{◌≡◌, ℕ, true, false, cond, List, [], ◌∷◌, Ok, Err, refl, sym, ap, ◌∙◌, ◌⊎◌, inl, inr}
use Rattle.std.proofs.lemmas.Bool.{cond-true, cond-false, cases_Bool, false≢true, eqb-true}
use Rattle.std.proofs.lemmas.Slice.Eq.{bytes_eq-Decides}
use Rattle.std.specs.Str.{bytes_eq}
use denote.Enum.Bare.{same_true, true_same}
use Rattle.ease_base.specs.declared.place.Pos.{Pos}
use Rattle.task_ast.specs.declared.tree.Name.{Name}
use Rattle.task_tokens.specs.declared.token.Keyword.{Keyword}
use Rattle.task_tokens.specs.contracts.token.Keyword.{the_type as keywords}
use Rattle.task_tokens.specs.declared.token.Sign.{Sign}
use Rattle.task_tokens.specs.contracts.token.Sign.{the_type as signs}
use Rattle.task_tokens.specs.declared.token.Lexeme.{Lexeme}
use Rattle.task_tokens.specs.declared.token.Lexeme.TheVariants as lexeme
use Rattle.task_tokens.specs.declared.token.Token.{Token}
use Rattle.task_text.specs.declared.cursor.Numeral.{Numeral}
use Rattle.task_text.specs.Forms.{symbol, reserved, number, name}
use Rattle.task_text.specs.Reading.{Found, Outcome, found, ◌>>=◌, is_symbol, is_reserved, begins_sign, begins_reserved, is_same, is_zero, any_at, same_at, zero_at, sign_at, reserved_at, name_at, number_at, name_of, number_of, taken}

pub not_found : {T : Type 0} (x : T) (ts us : List Token) → ◌≡◌ {A = Outcome T} (Err us) (found x ts) → ⊥
not_found x ts us e = cc

pub same_found : {T : Type 0} (f : Found T) (x : T) (us : List Token) → ◌≡◌ {A = Outcome T} (Ok f) (found x us) → f ≡ record { value = x; rest = us }
same_found f x us e = cc

-- a reading after another that gives something: each does
pub bind_found : {A B : Type 0} (read : Outcome A) (f : Found A → Outcome B) (y : B) (us : List Token) → (read >>= f) ≡ found y us → (x : Found A) × (read ≡ found x.value x.rest) × (f x ≡ found y us)
bind_found (Ok x) f y us h = (x, refl, h)
bind_found (Err left) f y us h = absurd (not_found y us left h)

symbol-is : (s : Sign) (l : Lexeme) → is_symbol s l ≡ true → l ≡ lexeme.Symbol s
symbol-is s (lexeme.Symbol r) h = ap lexeme.Symbol (same_true signs tt r s h)
symbol-is s (lexeme.Name x) h = absurd (false≢true h)
symbol-is s (lexeme.Number n) h = absurd (false≢true h)
symbol-is s lexeme.TooWide h = absurd (false≢true h)
symbol-is s (lexeme.Reserved k) h = absurd (false≢true h)

reserved-is : (k : Keyword) (l : Lexeme) → is_reserved k l ≡ true → l ≡ lexeme.Reserved k
reserved-is k (lexeme.Reserved r) h = ap lexeme.Reserved (same_true keywords tt r k h)
reserved-is k (lexeme.Name x) h = absurd (false≢true h)
reserved-is k (lexeme.Number n) h = absurd (false≢true h)
reserved-is k lexeme.TooWide h = absurd (false≢true h)
reserved-is k (lexeme.Symbol s) h = absurd (false≢true h)

-- the token is this lexeme at the place, and the rest is the rest
token-is : (l : Lexeme) (t : Token) (ts us : List Token) (at : Pos) → t.lexeme ≡ l → found t.at ts ≡ found at us → t ∷ ts ≡ record { lexeme = l; at = at } ∷ us
token-is l t ts us at e h =
    let f = same_found (record { value = t.at; rest = ts }) at us h in
    ap (λ (x : Lexeme). record { lexeme = x; at = t.at } ∷ ts) e ∙ ap (λ (x : Found Pos). record { lexeme = l; at = x.value } ∷ x.rest) f

sign-cases : (s : Sign) (t : Token) (ts us : List Token) (at : Pos) → cond (is_symbol s t.lexeme) (found t.at ts) (Err (t ∷ ts)) ≡ found at us → (is_symbol s t.lexeme ≡ true) ⊎ (is_symbol s t.lexeme ≡ false) → t ∷ ts ≡ symbol s at ∷ us
sign-cases s t ts us at h (inl held) = token-is (lexeme.Symbol s) t ts us at (symbol-is s t.lexeme held) (sym (cond-true (is_symbol s t.lexeme) (found t.at ts) (Err (t ∷ ts)) held) ∙ h)
sign-cases s t ts us at h (inr failed) = absurd (not_found at us (t ∷ ts) (sym (cond-false (is_symbol s t.lexeme) (found t.at ts) (Err (t ∷ ts)) failed) ∙ h))

pub sign-sound : (s : Sign) (ts us : List Token) (at : Pos) → sign_at s ts ≡ found at us → ts ≡ symbol s at ∷ us
unfolding sign_at any_at
sign-sound s [] us at h = absurd (not_found at us [] h)
sign-sound s (t ∷ ts) us at h = sign-cases s t ts us at h (cases_Bool (is_symbol s t.lexeme))

reserved-cases : (k : Keyword) (t : Token) (ts us : List Token) (at : Pos) → cond (is_reserved k t.lexeme) (found t.at ts) (Err (t ∷ ts)) ≡ found at us → (is_reserved k t.lexeme ≡ true) ⊎ (is_reserved k t.lexeme ≡ false) → t ∷ ts ≡ reserved k at ∷ us
reserved-cases k t ts us at h (inl held) = token-is (lexeme.Reserved k) t ts us at (reserved-is k t.lexeme held) (sym (cond-true (is_reserved k t.lexeme) (found t.at ts) (Err (t ∷ ts)) held) ∙ h)
reserved-cases k t ts us at h (inr failed) = absurd (not_found at us (t ∷ ts) (sym (cond-false (is_reserved k t.lexeme) (found t.at ts) (Err (t ∷ ts)) failed) ∙ h))

pub reserved-sound : (k : Keyword) (ts us : List Token) (at : Pos) → reserved_at k ts ≡ found at us → ts ≡ reserved k at ∷ us
unfolding reserved_at any_at
reserved-sound k [] us at h = absurd (not_found at us [] h)
reserved-sound k (t ∷ ts) us at h = reserved-cases k t ts us at h (cases_Bool (is_reserved k t.lexeme))

name-cases : (l : Lexeme) (at : Pos) (ts us : List Token) (x : Name) → taken (name_of l at) (record { lexeme = l; at = at }) ts ≡ found x us → record { lexeme = l; at = at } ∷ ts ≡ name x ∷ us
name-cases (lexeme.Name text) at ts us x h = ap (λ (f : Found Name). name f.value ∷ f.rest) (same_found (record { value = record { text = text; at = at }; rest = ts }) x us h)
name-cases (lexeme.Number n) at ts us x h = absurd (not_found x us _ h)
name-cases lexeme.TooWide at ts us x h = absurd (not_found x us _ h)
name-cases (lexeme.Reserved k) at ts us x h = absurd (not_found x us _ h)
name-cases (lexeme.Symbol s) at ts us x h = absurd (not_found x us _ h)

pub name-sound : (ts us : List Token) (x : Name) → name_at ts ≡ found x us → ts ≡ name x ∷ us
unfolding name_at
name-sound [] us x h = absurd (not_found x us [] h)
name-sound (t ∷ ts) us x h = name-cases t.lexeme t.at ts us x h

number-cases : (l : Lexeme) (at : Pos) (ts us : List Token) (x : Numeral) → taken (number_of l at) (record { lexeme = l; at = at }) ts ≡ found x us → record { lexeme = l; at = at } ∷ ts ≡ number x.value x.at ∷ us
number-cases (lexeme.Number n) at ts us x h = ap (λ (f : Found Numeral). number f.value.value f.value.at ∷ f.rest) (same_found (record { value = record { value = n; at = at }; rest = ts }) x us h)
number-cases (lexeme.Name text) at ts us x h = absurd (not_found x us _ h)
number-cases lexeme.TooWide at ts us x h = absurd (not_found x us _ h)
number-cases (lexeme.Reserved k) at ts us x h = absurd (not_found x us _ h)
number-cases (lexeme.Symbol s) at ts us x h = absurd (not_found x us _ h)

pub number-sound : (ts us : List Token) (x : Numeral) → number_at ts ≡ found x us → ts ≡ number x.value x.at ∷ us
unfolding number_at
number-sound [] us x h = absurd (not_found x us [] h)
number-sound (t ∷ ts) us x h = number-cases t.lexeme t.at ts us x h

pub sign-begins : (s : Sign) (at : Pos) (us : List Token) → begins_sign s (symbol s at ∷ us) ≡ true
sign-begins s at us = true_same signs s s refl

pub sign-complete : (s : Sign) (at : Pos) (us : List Token) → sign_at s (symbol s at ∷ us) ≡ found at us
unfolding sign_at any_at
sign-complete s at us = cond-true (is_symbol s (lexeme.Symbol s)) (found at us) (Err (symbol s at ∷ us)) (true_same signs s s refl)

pub reserved-begins : (k : Keyword) (at : Pos) (us : List Token) → begins_reserved k (reserved k at ∷ us) ≡ true
reserved-begins k at us = true_same keywords k k refl

pub reserved-complete : (k : Keyword) (at : Pos) (us : List Token) → reserved_at k (reserved k at ∷ us) ≡ found at us
unfolding reserved_at any_at
reserved-complete k at us = cond-true (is_reserved k (lexeme.Reserved k)) (found at us) (Err (reserved k at ∷ us)) (true_same keywords k k refl)

pub name-complete : (x : Name) (us : List Token) → name_at (name x ∷ us) ≡ found x us
unfolding name_at
name-complete x us = refl

pub number-complete : (n : ℕ) (at : Pos) (us : List Token) → number_at (number n at ∷ us) ≡ found (record { value = n; at = at }) us
unfolding number_at
number-complete n at us = refl

-- the same name again
same-is : (text : List ℕ) (l : Lexeme) → is_same text l ≡ true → l ≡ lexeme.Name text
same-is text (lexeme.Name x) h = ap lexeme.Name ((bytes_eq-Decides x text).0 h)
same-is text (lexeme.Number n) h = absurd (false≢true h)
same-is text lexeme.TooWide h = absurd (false≢true h)
same-is text (lexeme.Reserved k) h = absurd (false≢true h)
same-is text (lexeme.Symbol s) h = absurd (false≢true h)

same-cases : (text : List ℕ) (t : Token) (ts us : List Token) (at : Pos) → cond (is_same text t.lexeme) (found t.at ts) (Err (t ∷ ts)) ≡ found at us → (is_same text t.lexeme ≡ true) ⊎ (is_same text t.lexeme ≡ false) → t ∷ ts ≡ name (record { text = text; at = at }) ∷ us
same-cases text t ts us at h (inl held) = token-is (lexeme.Name text) t ts us at (same-is text t.lexeme held) (sym (cond-true (is_same text t.lexeme) (found t.at ts) (Err (t ∷ ts)) held) ∙ h)
same-cases text t ts us at h (inr failed) = absurd (not_found at us (t ∷ ts) (sym (cond-false (is_same text t.lexeme) (found t.at ts) (Err (t ∷ ts)) failed) ∙ h))

pub same-sound : (text : List ℕ) (ts us : List Token) (at : Pos) → same_at text ts ≡ found at us → ts ≡ name (record { text = text; at = at }) ∷ us
unfolding same_at any_at
same-sound text [] us at h = absurd (not_found at us [] h)
same-sound text (t ∷ ts) us at h = same-cases text t ts us at h (cases_Bool (is_same text t.lexeme))

pub same-complete : (text : List ℕ) (at : Pos) (us : List Token) → same_at text (name (record { text = text; at = at }) ∷ us) ≡ found at us
unfolding same_at any_at
same-complete text at us = cond-true (bytes_eq text text) (found at us) (Err (name (record { text = text; at = at }) ∷ us)) ((bytes_eq-Decides text text).1 refl)

-- a number of value 0
zero-is : (l : Lexeme) → is_zero l ≡ true → l ≡ lexeme.Number 0
zero-is (lexeme.Number n) h = ap lexeme.Number (eqb-true n 0 h)
zero-is (lexeme.Name text) h = absurd (false≢true h)
zero-is lexeme.TooWide h = absurd (false≢true h)
zero-is (lexeme.Reserved k) h = absurd (false≢true h)
zero-is (lexeme.Symbol s) h = absurd (false≢true h)

zero-cases : (t : Token) (ts us : List Token) (at : Pos) → cond (is_zero t.lexeme) (found t.at ts) (Err (t ∷ ts)) ≡ found at us → (is_zero t.lexeme ≡ true) ⊎ (is_zero t.lexeme ≡ false) → t ∷ ts ≡ number 0 at ∷ us
zero-cases t ts us at h (inl held) = token-is (lexeme.Number 0) t ts us at (zero-is t.lexeme held) (sym (cond-true (is_zero t.lexeme) (found t.at ts) (Err (t ∷ ts)) held) ∙ h)
zero-cases t ts us at h (inr failed) = absurd (not_found at us (t ∷ ts) (sym (cond-false (is_zero t.lexeme) (found t.at ts) (Err (t ∷ ts)) failed) ∙ h))

pub zero-sound : (ts us : List Token) (at : Pos) → zero_at ts ≡ found at us → ts ≡ number 0 at ∷ us
unfolding zero_at any_at
zero-sound [] us at h = absurd (not_found at us [] h)
zero-sound (t ∷ ts) us at h = zero-cases t ts us at h (cases_Bool (is_zero t.lexeme))

pub zero-complete : (at : Pos) (us : List Token) → zero_at (number 0 at ∷ us) ≡ found at us
unfolding zero_at any_at
zero-complete at us = refl
