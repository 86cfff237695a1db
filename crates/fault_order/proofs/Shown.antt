-- The places in a value of a form are those of its tokens, with some left out.
use Rattle.std.proofs.Common.{◌≡◌, ◌∙◌, ◌⊎◌, inl, inr, List, [], ◌∷◌, ◌++◌, refl, sym, ap, subst, append_assoc, append-nil}
use Rattle.std.specs.List.{flat_map}
use Rattle.ease_base.specs.declared.place.Pos.{Pos}
use Rattle.task_ast.specs.declared.tree.Name.{Name}
use Rattle.task_tokens.specs.declared.token.Keyword.{Keyword}
use Rattle.task_tokens.specs.declared.token.Sign.{Sign}
use Rattle.task_tokens.specs.declared.token.Token.{Token}
use Rattle.task_text.specs.declared.cursor.Numeral.{Numeral}
use Rattle.task_text.specs.Forms.{symbol, Form, Word, Mark, Named, Numbered, Done, Then, Either, AreAll, IsBetween, Enclosed}
use Rattle.fault_order.proofs.Parts.{IsPart, part_same, part_behind, part_join, part_through}
use Rattle.fault_order.proofs.Rising.{places, places_append}

-- the places in a value are, behind those that stood before, its tokens', with some left out
pub record Shows {T : Type 0} (before : List Pos) (at : T → List Pos) (P : Form T) : Type 0 where
  pub shows : (x : T) (tokens : List Token) → P x tokens → IsPart (at x) (before ++ places tokens)

pub word-shows : {k : Keyword} → Shows [] (λ at. at ∷ []) (Word k)
word-shows = record { shows = λ at tokens w. subst (λ ts. IsPart (at ∷ []) (places ts)) (sym w) (part_same (at ∷ [])) }

pub mark-shows : {s : Sign} → Shows [] (λ at. at ∷ []) (Mark s)
mark-shows = record { shows = λ at tokens w. subst (λ ts. IsPart (at ∷ []) (places ts)) (sym w) (part_same (at ∷ [])) }

pub named-shows : Shows [] (λ (x : Name). x.at ∷ []) Named
named-shows = record { shows = λ x tokens w. subst (λ ts. IsPart (x.at ∷ []) (places ts)) (sym w) (part_same (x.at ∷ [])) }

pub numbered-shows : Shows [] (λ (n : Numeral). n.at ∷ []) Numbered
numbered-shows = record { shows = λ n tokens w. subst (λ ts. IsPart (n.at ∷ []) (places ts)) (sym w) (part_same (n.at ∷ [])) }

pub done-shows : {T : Type 0} {before : List Pos} {at : T → List Pos} (v : T) → IsPart (at v) before → Shows before at (Done v)
done-shows {T} {before} {at} v part = record {
  shows = λ y tokens h.
      subst (λ (x : T). IsPart (at x) (before ++ places tokens)) h.0 (subst (λ (ts : List Token). IsPart (at v) (before ++ places ts)) (sym h.1) (subst (IsPart (at v)) (sym (append-nil before)) part));
}

parted : (before : List Pos) (tokens front back : List Token) → tokens ≡ front ++ back → before ++ places tokens ≡ before ++ places front ++ places back
parted before tokens front back e = ap (λ ts. before ++ places ts) e ∙ (ap (λ ps. before ++ ps) (places_append front back) ∙ sym (append_assoc before (places front) (places back)))

pub then-shows : {A B : Type 0} {before : List Pos} {part : A → List Pos} {at : B → List Pos} {P : Form A} {Q : A → Form B} → Shows [] part P → ((x : A) → Shows (before ++ part x) at (Q x)) → Shows before at (Then P Q)
then-shows {A} {B} {before} {part} {at} one more = record {
  shows = λ y tokens h.
      let first : IsPart (part h.0) (places h.1) = one.shows h.0 h.1 h.4 in
      let last : IsPart (at y) (before ++ part h.0 ++ places h.2) = (more h.0).shows y h.2 h.5 in
      let wider = part_join (before ++ part h.0) (places h.2) (before ++ places h.1) (places h.2) (part_join before (part h.0) before (places h.1) (part_same before) first) (part_same (places h.2)) in
      subst (IsPart (at y)) (sym (parted before tokens h.1 h.2 h.3)) (part_through _ _ _ last wider);
}

-- a part whose places don't matter
pub skip-shows : {A B : Type 0} {before : List Pos} {at : B → List Pos} {P : Form A} {Q : A → Form B} → ((x : A) → Shows before at (Q x)) → Shows before at (Then P Q)
skip-shows {A} {B} {before} {at} more = record {
  shows = λ y tokens h.
      let last : IsPart (at y) (before ++ places h.2) = (more h.0).shows y h.2 h.5 in
      let wider = part_join before (places h.2) before (places h.1 ++ places h.2) (part_same before) (part_behind (places h.1) (places h.2) (places h.2) (part_same (places h.2))) in
      subst (IsPart (at y)) (sym (parted before tokens h.1 h.2 h.3 ∙ append_assoc before (places h.1) (places h.2))) (part_through _ _ _ last wider);
}

pub either-shows : {T : Type 0} {before : List Pos} {at : T → List Pos} {P Q : Form T} → Shows before at P → Shows before at Q → Shows before at (Either P Q)
either-shows {T} {before} {at} {P} {Q} one two = record { shows = by_form }
  where
    by_form : (x : T) (tokens : List Token) → Either P Q x tokens → IsPart (at x) (before ++ places tokens)
    by_form x tokens (inl h) = one.shows x tokens h
    by_form x tokens (inr h) = two.shows x tokens h

-- what is inside signs is a part of the whole
pub inside_part : (first last : Sign) (P : List Token → Type 0) (tokens : List Token) (b : IsBetween first last P tokens) → IsPart (places b.inner) (places tokens)
inside_part first last P tokens b =
    let front : IsPart (places b.inner ++ []) (places b.inner ++ b.at_last ∷ []) = part_join (places b.inner) [] (places b.inner) (b.at_last ∷ []) (part_same (places b.inner)) tt in
    let inner : IsPart (places b.inner) (places b.inner ++ b.at_last ∷ []) = subst (λ ps. IsPart ps (places b.inner ++ b.at_last ∷ [])) (append-nil (places b.inner)) front in
    let all : IsPart (places b.inner) (b.at_first ∷ places b.inner ++ b.at_last ∷ []) = part_behind (b.at_first ∷ []) (places b.inner) (places b.inner ++ b.at_last ∷ []) inner in
    let same : places tokens ≡ b.at_first ∷ places b.inner ++ b.at_last ∷ [] = ap places b.whole ∙ ap (λ ps. b.at_first ∷ ps) (places_append b.inner (symbol last b.at_last ∷ [])) in
    subst (IsPart (places b.inner)) (sym same) all

pub enclosed-shows : {T : Type 0} {at : T → List Pos} {first last : Sign} {P : Form T} → Shows [] at P → Shows [] at (Enclosed first last P)
enclosed-shows {T} {at} {first} {last} {P} one = record {
  shows = λ x tokens b. part_through (at x) (places b.inner) (places tokens) (one.shows x b.inner b.inside) (inside_part first last (P x) tokens b);
}

module _ {T : Type 0} {at : T → List Pos} {P : Form T} (one : Shows [] at P) where
  items_show : (xs : List T) (tokens : List Token) → AreAll P xs tokens → IsPart (flat_map at xs) (places tokens)
  items_show [] tokens is = tt
  items_show (x ∷ xs) tokens is =
      subst (IsPart (flat_map at (x ∷ xs))) (sym (ap places is.2 ∙ places_append is.0 is.1)) (part_join (at x) (flat_map at xs) (places is.0) (places is.1) (one.shows x is.0 is.3) (items_show xs is.1 is.4))

  pub all-show : Shows [] (flat_map at) (AreAll P)
  all-show = record { shows = items_show }
