-- How the tokens of a form begin, and that they are read.
use Rattle.std.proofs.Common.{◌≡◌, ℕ, List, [], ◌∷◌, ◌++◌, sym, ap, subst, ◌∙◌, inl, inr, append_assoc}
use Rattle.ease_base.specs.declared.place.Pos.{Pos}
use Rattle.task_ast.specs.declared.tree.Name.{Name}
use Rattle.task_tokens.specs.declared.token.Keyword.{Keyword}
use Rattle.task_tokens.specs.declared.token.Sign.{Sign}
use Rattle.task_tokens.specs.declared.token.Token.{Token}
use Rattle.task_text.specs.Reading.{Reader, found}
use Rattle.task_text.specs.Forms.{symbol, reserved, name, number, Form, Word, Mark, Named, Numbered, Done, Then, Either, Enclosed}

-- tokens of the form, with whatever follows, begin so
pub record Starts {T : Type 0} (G : List Token → Type 0) (P : Form T) : Type 0 where
  pub so : (x : T) (front rest : List Token) → P x front → G (front ++ rest)

-- a value of the form is read where what follows is so
pub record IsReadBefore {T : Type 0} (F : List Token → Type 0) (P : Form T) (read : Reader T) : Type 0 where
  pub reads : (x : T) (front rest : List Token) → P x front → F rest → read (front ++ rest) ≡ found x rest

one-starts : (G : List Token → Type 0) (t : Token) → ((us : List Token) → G (t ∷ us)) → (front rest : List Token) → front ≡ t ∷ [] → G (front ++ rest)
one-starts G t h front rest w = subst (λ ts. G (ts ++ rest)) (sym w) (h rest)

behind : (G : List Token → Type 0) (front a b rest : List Token) → front ≡ a ++ b → G (a ++ (b ++ rest)) → G (front ++ rest)
behind G front a b rest w h = subst G (sym (ap (λ ts. ts ++ rest) w ∙ append_assoc a b rest)) h

module _ {G : List Token → Type 0} where
  pub word-starts : {k : Keyword} → ((at : Pos) (us : List Token) → G (reserved k at ∷ us)) → Starts G (Word k)
  word-starts {k} h = record { so = λ at front rest w. one-starts G (reserved k at) (h at) front rest w }

  pub mark-starts : {s : Sign} → ((at : Pos) (us : List Token) → G (symbol s at ∷ us)) → Starts G (Mark s)
  mark-starts {s} h = record { so = λ at front rest w. one-starts G (symbol s at) (h at) front rest w }

  pub named-starts : ((x : Name) (us : List Token) → G (name x ∷ us)) → Starts G Named
  named-starts h = record { so = λ x front rest w. one-starts G (name x) (h x) front rest w }

  pub numbered-starts : ((n : ℕ) (at : Pos) (us : List Token) → G (number n at ∷ us)) → Starts G Numbered
  numbered-starts h = record { so = λ n front rest w. one-starts G (number n.value n.at) (h n.value n.at) front rest w }

  pub then-starts : {A B : Type 0} {P : Form A} {Q : A → Form B} → Starts G P → Starts G (Then P Q)
  then-starts h = record { so = λ y front rest k. behind G front k.1 k.2 rest k.3 (h.so k.0 k.1 (k.2 ++ rest) k.4) }

  pub enclosed-starts : {T : Type 0} {first last : Sign} {P : Form T} → ((at : Pos) (us : List Token) → G (symbol first at ∷ us)) → Starts G (Enclosed first last P)
  enclosed-starts {first} {last} h = record { so = λ x front rest b. subst (λ ts. G (ts ++ rest)) (sym b.whole) (h b.at_first ((b.inner ++ symbol last b.at_last ∷ []) ++ rest)) }

  pub either-starts : {T : Type 0} {P Q : Form T} → Starts G P → Starts G Q → Starts G (Either P Q)
  either-starts {T} {P} {Q} h k = record { so = by_form }
    where
      by_form : (x : T) (front rest : List Token) → Either P Q x front → G (front ++ rest)
      by_form x front rest (inl p) = h.so x front rest p
      by_form x front rest (inr q) = k.so x front rest q

  -- a part of two forms, and nothing, each with what stands behind
  pub first-starts : {A B : Type 0} {P R : Form A} {Q : A → Form B} → Starts G P → Starts G (Then R Q) → Starts G (Then (Either P R) Q)
  first-starts {A} {B} {P} {R} {Q} h k = record { so = by_form }
    where
      by_form : (y : B) (front rest : List Token) → Then (Either P R) Q y front → G (front ++ rest)
      by_form y front rest (x, a, b, w, inl p, q) = behind G front a b rest w (h.so x a (b ++ rest) p)
      by_form y front rest (x, a, b, w, inr r, q) = k.so y front rest (x, a, b, w, r, q)

  pub nothing-starts : {A B : Type 0} {v : A} {Q : A → Form B} → ((x : A) → Starts G (Q x)) → Starts G (Then (Done v) Q)
  nothing-starts k = record { so = λ y front rest h. subst G (sym (ap (λ ts. ts ++ rest) (h.3 ∙ ap (λ ts. ts ++ h.2) h.4.1))) ((k h.0).so y h.2 rest h.5) }
