-- What is printed of each part of a form is that part again, up to places; so it is of the whole.
use Rattle.std.proofs.Common.{◌≡◌, ◌∙◌, ℕ, List, [], ◌∷◌, ◌++◌, map, refl, sym, ap, subst, append_assoc, inl, inr}
use Rattle.std.specs.List.{AllByRecursion, flat_map}
use Rattle.std.proofs.lemmas.List.{append-nil, append_cancel_left}
use Rattle.task_tokens.specs.declared.token.Keyword.{Keyword}
use Rattle.task_tokens.specs.declared.token.Sign.{Sign}
use Rattle.task_tokens.specs.declared.token.Lexeme.{Lexeme}
use Rattle.task_tokens.specs.declared.token.Lexeme.TheVariants as lexeme
use Rattle.task_tokens.specs.declared.token.Token.{Token}
use Rattle.task_tokens.specs.Spaced.{lexemes, IsPrintable}
use Rattle.task_text.specs.Forms.{name, Form, Word, Mark, Named, Numbered, Zero, Same, Done, Then, Either, AreAll, Enclosed}
use Rattle.task_print.specs.Printed.{word, mark, named, numbered}
use Rattle.task_print.specs.Unplaced.{somewhere, bare_name}
use Rattle.task_print.proofs.Fairs.{AreFair, fair_front, fair_back, fair_inside}
use Rattle.task_print.proofs.Lexemes.{parts_of, none_of, one_of, inside_of}

abbrev pub ArePrintable : List Lexeme → Type 0
ArePrintable xs = AllByRecursion IsPrintable xs

pub both : (xs ys : List Lexeme) → ArePrintable xs → ArePrintable ys → ArePrintable (xs ++ ys)
both [] ys h k = k
both (x ∷ xs) ys h k = (h.0, both xs ys h.1 k)

-- tokens between two signs
pub wrapped : (first last : Sign) (xs : List Lexeme) → ArePrintable xs → ArePrintable (mark first ++ xs ++ mark last)
wrapped first last xs h = (tt, both xs _ h (tt, tt))

-- the tokens of a value: each can be printed, and whatever tokens have them are the value again, in this form
pub record PrintsTo {T : Type 0} (bare : T → T) (x : T) (P : Form T) (xs : List Lexeme) : Type 0 where
  pub printable : ArePrintable xs
  pub again : (tokens : List Token) → lexemes tokens ≡ xs → (y : T) × P y tokens × (bare y ≡ bare x)

-- so are the tokens of each value that fair tokens have in the one form
pub record IsPrinted {T : Type 0} (f : T → List Lexeme) (bare : T → T) (P P' : Form T) : Type 0 where
  pub part : (x : T) (old : List Token) → P x old → AreFair old → PrintsTo bare x P' (f x)

-- what is left to print, where some is printed
pub record Left {T : Type 0} (front : List Lexeme) (f : T → List Lexeme) (bare : T → T) (x : T) (P : Form T) : Type 0 where
  pub rest : List Lexeme
  pub whole : f x ≡ front ++ rest
  pub to : PrintsTo bare x P rest

pub record PrintsFrom {T : Type 0} (front : List Lexeme) (f : T → List Lexeme) (bare : T → T) (P P' : Form T) : Type 0 where
  pub prints : (x : T) (old : List Token) → P x old → AreFair old → Left front f bare x P'

-- ---- one token

pub word-printed : {k : Keyword} → IsPrinted (λ at. word k) (λ at. somewhere) (Word k) (Word k)
word-printed {k} = record { part = λ at old w fair. record { printable = (tt, tt); again = λ tokens is. let one = one_of tokens (lexeme.Reserved k) is in (one.0, one.1, refl) } }

pub mark-printed : {s : Sign} → IsPrinted (λ at. mark s) (λ at. somewhere) (Mark s) (Mark s)
mark-printed {s} = record { part = λ at old w fair. record { printable = (tt, tt); again = λ tokens is. let one = one_of tokens (lexeme.Symbol s) is in (one.0, one.1, refl) } }

pub named-printed : IsPrinted named bare_name Named Named
named-printed = record {
  part = λ x old w fair. record { printable = ((subst AreFair w fair).0, tt); again = λ tokens is. let one = one_of tokens (lexeme.Name x.text) is in (record { text = x.text; at = one.0 }, one.1, refl) };
}

pub numbered-printed : IsPrinted (λ n. numbered n.value) (λ n. record { value = n.value; at = somewhere }) Numbered Numbered
numbered-printed = record {
  part = λ n old w fair. record { printable = ((subst AreFair w fair).0, tt); again = λ tokens is. let one = one_of tokens (lexeme.Number n.value) is in (record { value = n.value; at = one.0 }, one.1, refl) };
}

pub zero-printed : IsPrinted (λ at. numbered 0) (λ at. somewhere) Zero Zero
zero-printed = record { part = λ at old w fair. record { printable = ((subst AreFair w fair).0, tt); again = λ tokens is. let one = one_of tokens (lexeme.Number 0) is in (one.0, one.1, refl) } }

-- the name of a text again, where both texts are one
pub same-printed : {text other : List ℕ} → other ≡ text → IsPrinted (λ at. lexeme.Name text ∷ []) (λ at. somewhere) (Same text) (Same other)
same-printed {text} {other} e = record {
  part = λ at old w fair. record {
    printable = ((subst AreFair w fair).0, tt);
    again = λ tokens is. let one = one_of tokens (lexeme.Name text) is in (one.0, one.1 ∙ ap (λ t. name (record { text = t; at = one.0 }) ∷ []) (sym e), refl);
  };
}

-- ---- one part after another

pub done-printed : {T : Type 0} {front : List Lexeme} {f : T → List Lexeme} {bare : T → T} (v v' : T) → f v ≡ front → bare v' ≡ bare v → PrintsFrom front f bare (Done v) (Done v')
done-printed {front} {f} {bare} v v' e same = record {
  prints = λ y old h fair. record {
    rest = [];
    whole = ap f (sym h.0) ∙ e ∙ sym (append-nil front);
    to = record { printable = tt; again = λ tokens is. (v', (refl, none_of tokens is), same ∙ ap bare h.0) };
  };
}

pub then-printed : {A B : Type 0} {front : List Lexeme} {g : A → List Lexeme} {plain : A → A} {f : B → List Lexeme} {bare : B → B} {P P' : Form A} {Q Q' : A → Form B} → IsPrinted g plain P P'
    → ((x x' : A) → plain x' ≡ plain x → PrintsFrom (front ++ g x) f bare (Q x) (Q' x')) → PrintsFrom front f bare (Then P Q) (Then P' Q')
then-printed {front} {g} one more = record {
  prints = λ y old h fair.
      let all = subst AreFair h.3 fair in
      let behind = fair_back h.1 h.2 all in
      let a = one.part h.0 h.1 h.4 (fair_front h.1 h.2 all) in
      let b = (more h.0 h.0 refl).prints y h.2 h.5 behind in
      record {
        rest = g h.0 ++ b.rest;
        whole = b.whole ∙ append_assoc front (g h.0) b.rest;
        to = record {
          printable = both (g h.0) b.rest a.printable b.to.printable;
          again = λ tokens is.
              let p = parts_of tokens (g h.0) b.rest is in
              let q = a.again p.front p.firsts in
              let c = (more h.0 q.0 q.2).prints y h.2 h.5 behind in
              let r = c.to.again p.back (p.others ∙ append_cancel_left (front ++ g h.0) b.rest c.rest (sym b.whole ∙ c.whole)) in
              (r.0, (q.0, p.front, p.back, p.whole, q.1, r.1), r.2);
        };
      };
}

-- a part with nothing behind it
pub last-printed : {T : Type 0} {front : List Lexeme} {g f : T → List Lexeme} {bare : T → T} {P P' : Form T} → IsPrinted g bare P P' → ((x : T) → f x ≡ front ++ g x) → PrintsFrom front f bare P P'
last-printed {g} one e = record { prints = λ y old h fair. record { rest = g y; whole = e y; to = one.part y old h fair } }

pub either-printed : {T : Type 0} {front : List Lexeme} {f : T → List Lexeme} {bare : T → T} {P P' Q Q' : Form T} → PrintsFrom front f bare P P' → PrintsFrom front f bare Q Q' → PrintsFrom front f bare (Either P Q) (Either P' Q')
either-printed {T} {front} {f} {bare} {P} {P'} {Q} {Q'} one two = record { prints = by_form }
  where
    by_form : (x : T) (old : List Token) → Either P Q x old → AreFair old → Left front f bare x (Either P' Q')
    by_form x old (inl h) fair =
        let a = one.prints x old h fair in
        record { rest = a.rest; whole = a.whole; to = record { printable = a.to.printable; again = λ tokens is. let y = a.to.again tokens is in (y.0, inl y.1, y.2) } }
    by_form x old (inr h) fair =
        let a = two.prints x old h fair in
        record { rest = a.rest; whole = a.whole; to = record { printable = a.to.printable; again = λ tokens is. let y = a.to.again tokens is in (y.0, inr y.1, y.2) } }

-- a whole rule
pub rule-printed : {T : Type 0} {f : T → List Lexeme} {bare : T → T} {P P' : Form T} → PrintsFrom [] f bare P P' → IsPrinted f bare P P'
rule-printed {bare} {P'} rule = record { part = λ x old h fair. let a = rule.prints x old h fair in subst (PrintsTo bare x P') (sym a.whole) a.to }

pub enclosed-printed : {T : Type 0} {first last : Sign} {f : T → List Lexeme} {bare : T → T} {P P' : Form T} → IsPrinted f bare P P' → IsPrinted (λ x. mark first ++ f x ++ mark last) bare (Enclosed first last P) (Enclosed first last P')
enclosed-printed {first} {last} {f} {P} one = record {
  part = λ x old b fair.
      let a = one.part x b.inner b.inside (fair_inside first last (P x) old b fair) in
      record {
        printable = wrapped first last (f x) a.printable;
        again = λ tokens is.
            let i = inside_of tokens first last (f x) is in
            let y = a.again i.inner i.inside in
            (y.0, record { at_first = i.at_first; at_last = i.at_last; inner = i.inner; whole = i.whole; inside = y.1 }, y.2);
      };
}

module _ {T : Type 0} {f : T → List Lexeme} {bare : T → T} {P : Form T} (one : IsPrinted f bare P P) where
  items-printed : (xs : List T) (old : List Token) → AreAll P xs old → AreFair old → PrintsTo (map bare) xs (AreAll P) (flat_map f xs)
  items-printed [] old h fair = record { printable = tt; again = λ tokens is. ([], none_of tokens is, refl) }
  items-printed (x ∷ xs) old h fair =
      let all = subst AreFair h.2 fair in
      let a = one.part x h.0 h.3 (fair_front h.0 h.1 all) in
      let b = items-printed xs h.1 h.4 (fair_back h.0 h.1 all) in
      record {
        printable = both (f x) (flat_map f xs) a.printable b.printable;
        again = λ tokens is.
            let p = parts_of tokens (f x) (flat_map f xs) is in
            let y = a.again p.front p.firsts in
            let ys = b.again p.back p.others in
            (y.0 ∷ ys.0, (p.front, p.back, p.whole, y.1, ys.1), λ i. y.2 i ∷ ys.2 i);
      }

  pub all-printed : IsPrinted (flat_map f) (map bare) (AreAll P) (AreAll P)
  all-printed = record { part = λ xs old h fair. items-printed xs old h fair }
