-- What is read stands at the front of the tokens.
use Rattle.std.proofs.Common.{◌≡◌, List, [], ◌∷◌, ◌++◌, Ok, refl, sym, ap, subst, ◌∙◌, append_assoc}
use Rattle.ease_base.specs.declared.place.Pos.{Pos}
use Rattle.task_tokens.specs.declared.token.Sign.{Sign}
use Rattle.task_tokens.specs.declared.token.Token.{Token}
use Rattle.task_text.specs.Forms.{symbol, IsBetween}
use Rattle.task_text.specs.Reading.{Found, Outcome, found, ◌>>=◌, sign_at, between}
use Rattle.task_text.proofs.TokenLaws.{same_found, bind_found, sign-sound, sign-complete}

-- the tokens begin with the tree, and go on with the rest
pub record Off {T : Type 0} (P : T → List Token → Type 0) (ts : List Token) (x : T) (us : List Token) : Type 0 where
  pub front : List Token
  pub split : ts ≡ front ++ us
  pub fits : P x front

-- where the value and the rest are those that are found
pub off-found : {T : Type 0} (P : T → List Token → Type 0) (ts : List Token) (f : Found T) (x : T) (us : List Token) → Off P ts f.value f.rest → ◌≡◌ {A = Outcome T} (Ok f) (found x us) → Off P ts x us
off-found {T} P ts f x us o h = subst (λ (g : Found T). Off P ts g.value g.rest) (same_found f x us h) o

-- what a reading gives is in the grammar
abbrev pub IsSound : {T : Type 0} → (T → List Token → Type 0) → (List Token → Outcome T) → Type 0
IsSound {T} P read = (ts us : List Token) (x : T) → read ts ≡ found x us → Off P ts x us

-- a part and then others
pub off-after : {T : Type 0} (P : T → List Token → Type 0) (ts mid us back : List Token) (x : T) (o : Off P ts x mid) → mid ≡ back ++ us → ts ≡ (o.front ++ back) ++ us
off-after P ts mid us back x o h = o.split ∙ ap (λ xs. o.front ++ xs) h ∙ sym (append_assoc o.front back us)

-- what stands between two signs
pub between-sound : {T : Type 0} (first last : Sign) (P : T → List Token → Type 0) (inner : List Token → Outcome T) → IsSound P inner → IsSound (λ x tokens. IsBetween first last (P x) tokens) (between first last inner)
unfolding between
between-sound first last P inner sound ts us x h =
    let a = bind_found (sign_at first ts) _ x us h in
    let e = bind_found (inner a.0.rest) _ x us a.2 in
    let b = bind_found (sign_at last e.0.rest) _ x us e.2 in
    let r = sound a.0.rest e.0.rest e.0.value e.1 in
    let closed = sign-sound last e.0.rest b.0.rest b.0.value b.1 in
    off-found (λ x tokens. IsBetween first last (P x) tokens) ts _ x us (record {
      front = symbol first a.0.value ∷ (r.front ++ symbol last b.0.value ∷ []);
      split = sign-sound first ts a.0.rest a.0.value a.1 ∙ ap (λ xs. symbol first a.0.value ∷ xs) (off-after P a.0.rest e.0.rest b.0.rest (symbol last b.0.value ∷ []) e.0.value r closed);
      fits = record { at_first = a.0.value; at_last = b.0.value; inner = r.front; whole = refl; inside = r.fits };
    }) b.2

-- a reading that gives something, and what goes on from there
pub bind-at : {A B : Type 0} (read : Outcome A) (f : Found A → Outcome B) (x : A) (us : List Token) → read ≡ found x us → (read >>= f) ≡ f (record { value = x; rest = us })
bind-at read f x us e = ap (λ r. r >>= f) e

pub between-complete : {T : Type 0} (first last : Sign) (inner : List Token → Outcome T) (x : T) (a b : Pos) (mid rest : List Token) → inner (mid ++ symbol last b ∷ rest) ≡ found x (symbol last b ∷ rest) →
    between first last inner ((symbol first a ∷ (mid ++ symbol last b ∷ [])) ++ rest) ≡ found x rest
unfolding between
between-complete first last inner x a b mid rest e =
    ap (λ ts. between first last inner (symbol first a ∷ ts)) (append_assoc mid (symbol last b ∷ []) rest)
    ∙ bind-at _ _ a (mid ++ symbol last b ∷ rest) (sign-complete first a (mid ++ symbol last b ∷ rest))
    ∙ bind-at _ _ x (symbol last b ∷ rest) e
    ∙ bind-at _ _ b rest (sign-complete last b rest)
