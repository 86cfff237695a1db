-- Readings one after another: what is in the form is read, since each part is, before what may follow.
use Rattle.std.proofs.Common.{◌≡◌, ℕ, Bool, true, false, cond, List, ◌∷◌, ◌++◌, length, sym, ap, subst, ◌∙◌, inl, inr, append_assoc, arith}
use Rattle.std.proofs.lemmas.Bool.{cond-true, cond-false}
use Rattle.ease_base.specs.declared.place.Pos.{Pos}
use Rattle.task_tokens.specs.declared.token.Keyword.{Keyword}
use Rattle.task_tokens.specs.declared.token.Sign.{Sign}
use Rattle.task_tokens.specs.declared.token.Token.{Token}
use Rattle.task_text.specs.Forms.{symbol, Form, Word, Mark, Named, Numbered, Zero, Same, Done, Then, Either, AreAll, Enclosed}
use Rattle.task_text.specs.Reading.{Reader, chain, done, found, sign_at, reserved_at, name_at, number_at, same_at, zero_at, between, many}
use Rattle.task_text.proofs.TokenLaws as token
use Rattle.task_text.proofs.Offs.{bind-at, between-complete}
use Rattle.task_text.proofs.Starts.{Starts, IsReadBefore}
use Rattle.task_text.proofs.Many.{Beginnings, many-complete}

abbrev pub Any : List Token → Type 0
Any ts = Unit {0}

-- ---- what is in the form is read

module _ {F : List Token → Type 0} where
  pub word-complete : (k : Keyword) → IsReadBefore F (Word k) (reserved_at k)
  word-complete k = record { reads = λ at front rest h safe. ap (λ ts. reserved_at k (ts ++ rest)) h ∙ token.reserved-complete k at rest }

  pub mark-complete : (s : Sign) → IsReadBefore F (Mark s) (sign_at s)
  mark-complete s = record { reads = λ at front rest h safe. ap (λ ts. sign_at s (ts ++ rest)) h ∙ token.sign-complete s at rest }

  pub named-complete : IsReadBefore F Named name_at
  named-complete = record { reads = λ x front rest h safe. ap (λ ts. name_at (ts ++ rest)) h ∙ token.name-complete x rest }

  pub numbered-complete : IsReadBefore F Numbered number_at
  numbered-complete = record { reads = λ n front rest h safe. ap (λ ts. number_at (ts ++ rest)) h ∙ token.number-complete n.value n.at rest }

  pub zero-complete : IsReadBefore F Zero zero_at
  zero-complete = record { reads = λ at front rest h safe. ap (λ ts. zero_at (ts ++ rest)) h ∙ token.zero-complete at rest }

  pub same-complete : (text : List ℕ) → IsReadBefore F (Same text) (same_at text)
  same-complete text = record { reads = λ at front rest h safe. ap (λ ts. same_at text (ts ++ rest)) h ∙ token.same-complete text at rest }

  pub done-complete : {T : Type 0} (v : T) → IsReadBefore F (Done v) (done v)
  done-complete v = record { reads = λ y front rest h safe. ap (λ ts. done v (ts ++ rest)) h.1 ∙ ap (λ x. found x rest) h.0 }

  -- what is read whatever follows is read here
  pub anywhere : {T : Type 0} {P : Form T} {read : Reader T} → IsReadBefore Any P read → IsReadBefore F P read
  anywhere r = record { reads = λ x front rest h safe. r.reads x front rest h tt }

  chain-reads : {A B : Type 0} {G : List Token → Type 0} {P : Form A} {Q : A → Form B} {read : Reader A} {next : A → Reader B} → IsReadBefore G P read → ((x : A) (y : B) (back rest : List Token) → Q x y back → F rest → G (back ++ rest)) → ((x : A) → IsReadBefore F (Q x) (next x)) → IsReadBefore F (Then P Q) (chain read next)
  chain-reads {G} {P} {Q} {read} {next} one follow more = record {
    reads = λ y front rest h safe.
        ap (λ ts. chain read next (ts ++ rest)) h.3
        ∙ ap (chain read next) (append_assoc h.1 h.2 rest)
        ∙ bind-at (read (h.1 ++ (h.2 ++ rest))) (λ x. next x.value x.rest) h.0 (h.2 ++ rest) (one.reads h.0 h.1 (h.2 ++ rest) h.4 (follow h.0 y h.2 rest h.5 safe))
        ∙ (more h.0).reads y h.2 rest h.5 safe;
  }

  pub chain-complete : {A B : Type 0} {P : Form A} {Q : A → Form B} {read : Reader A} {next : A → Reader B} → IsReadBefore Any P read → ((x : A) → IsReadBefore F (Q x) (next x)) → IsReadBefore F (Then P Q) (chain read next)
  chain-complete one more = chain-reads one (λ x y back rest q safe. tt) more

  -- where the first part is read only before what begins so
  pub chain-before : {A B : Type 0} {G : List Token → Type 0} {P : Form A} {Q : A → Form B} {read : Reader A} {next : A → Reader B} → IsReadBefore G P read → ((x : A) → Starts G (Q x)) → ((x : A) → IsReadBefore F (Q x) (next x)) → IsReadBefore F (Then P Q) (chain read next)
  chain-before one starts more = chain-reads one (λ x y back rest q safe. (starts x).so y back rest q) more

  -- where nothing stands behind the part
  pub last-complete : {A B : Type 0} {P : Form A} {f : A → B} {read : Reader A} → IsReadBefore F P read → IsReadBefore F (Then P (λ x. Done (f x))) (chain read (λ x. done (f x)))
  last-complete {f} one = chain-reads one (λ x y back rest q safe. subst (λ ts. F (ts ++ rest)) (sym q.1) safe) (λ x. done-complete (f x))

  pub enclosed-complete : {T : Type 0} {G : List Token → Type 0} (first last : Sign) {P : Form T} {read : Reader T} → IsReadBefore G P read → ((at : Pos) (us : List Token) → G (symbol last at ∷ us)) → IsReadBefore F (Enclosed first last P) (between first last read)
  enclosed-complete first last {P} {read} one closes = record {
    reads = λ x front rest b safe.
        ap (λ ts. between first last read (ts ++ rest)) b.whole
        ∙ between-complete first last read x b.at_first b.at_last b.inner rest (one.reads x b.inner (symbol last b.at_last ∷ rest) b.inside (closes b.at_last rest));
  }

  -- one form or the other, where the test tells them apart
  pub either-complete : {T : Type 0} (b : List Token → Bool) {P Q : Form T} {read other : Reader T} → Starts (λ ts. b ts ≡ true) P → ((x : T) (front rest : List Token) → Q x front → F rest → b (front ++ rest) ≡ false) → IsReadBefore F P read → IsReadBefore F Q other → IsReadBefore F (Either P Q) (λ ts. cond (b ts) (read ts) (other ts))
  either-complete {T} b {P} {Q} {read} {other} held failed one two = record { reads = by_form }
    where
      by_form : (x : T) (front rest : List Token) → Either P Q x front → F rest → cond (b (front ++ rest)) (read (front ++ rest)) (other (front ++ rest)) ≡ found x rest
      by_form x front rest (inl h) safe = cond-true (b (front ++ rest)) (read (front ++ rest)) (other (front ++ rest)) (held.so x front rest h) ∙ one.reads x front rest h safe
      by_form x front rest (inr h) safe = cond-false (b (front ++ rest)) (read (front ++ rest)) (other (front ++ rest)) (failed x front rest h safe) ∙ two.reads x front rest h safe

  -- the same where the other form begins so by itself, and where it is nothing
  pub choose-complete : {T : Type 0} (b : List Token → Bool) {P Q : Form T} {read other : Reader T} → Starts (λ ts. b ts ≡ true) P → Starts (λ ts. b ts ≡ false) Q → IsReadBefore F P read → IsReadBefore F Q other → IsReadBefore F (Either P Q) (λ ts. cond (b ts) (read ts) (other ts))
  choose-complete b held failed one two = either-complete b held (λ x front rest h safe. failed.so x front rest h) one two

  pub optional-complete : {T : Type 0} (b : List Token → Bool) {P : Form T} {v : T} {read : Reader T} → Starts (λ ts. b ts ≡ true) P → ((rest : List Token) → F rest → b rest ≡ false) → IsReadBefore F P read → IsReadBefore F (Either P (Done v)) (λ ts. cond (b ts) (read ts) (done v ts))
  optional-complete b {v} held none one = either-complete b held (λ x front rest h safe. ap (λ ts. b (ts ++ rest)) h.1 ∙ none rest safe) one (done-complete v)

  -- the other form begins so, or is nothing and what follows begins so
  pub or-nothing : {T : Type 0} {G : List Token → Type 0} {P : Form T} {v : T} → Starts G P → ((rest : List Token) → F rest → G rest) → (x : T) (front rest : List Token) → Either P (Done v) x front → F rest → G (front ++ rest)
  or-nothing {G} h k x front rest (inl p) safe = h.so x front rest p
  or-nothing {G} h k x front rest (inr p) safe = subst (λ ts. G (ts ++ rest)) (sym p.1) (k rest safe)

  -- a value of either form is read where each is
  pub both-complete : {T : Type 0} {P Q : Form T} {read : Reader T} → IsReadBefore F P read → IsReadBefore F Q read → IsReadBefore F (Either P Q) read
  both-complete {T} {P} {Q} {read} one two = record { reads = by_form }
    where
      by_form : (x : T) (front rest : List Token) → Either P Q x front → F rest → read (front ++ rest) ≡ found x rest
      by_form x front rest (inl h) safe = one.reads x front rest h safe
      by_form x front rest (inr h) safe = two.reads x front rest h safe

  -- the reading of what begins so
  pub kind-complete : {T K : Type 0} {P : Form T} {first : List Token → K} (readers : K → Reader T) (k : K) → Starts (λ ts. first ts ≡ k) P → IsReadBefore F P (readers k) → IsReadBefore F P (λ ts. readers (first ts) ts)
  kind-complete readers k starts one = record { reads = λ x front rest h safe. ap (λ j. readers j (front ++ rest)) (starts.so x front rest h) ∙ one.reads x front rest h safe }

-- no item begins here, and an item may stand before it
abbrev pub NoMore : (List Token → Type 0) → (List Token → Bool) → List Token → Type 0
NoMore F begins rest = (begins rest ≡ false) × F rest

pub items-complete : {T : Type 0} {F : List Token → Type 0} {P : Form T} {begins : List Token → Bool} {item : Reader T} → Beginnings F P begins → IsReadBefore F P item → IsReadBefore (NoMore F begins) (AreAll P) (λ ts. many (length ts) begins item ts)
items-complete {F} {P} {begins} {item} b each = record { reads = λ xs front rest h safe. many-complete F P begins item b each (length (front ++ rest)) xs front rest h safe.0 safe.1 (omega arith) }
