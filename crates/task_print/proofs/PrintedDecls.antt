-- The tokens of a printed declaration are that declaration, up to places.
use Rattle.std.proofs.Common.{◌≡◌, ◌∙◌, ℕ, List, [], ◌∷◌, ◌++◌, map, Some, None, refl, sym, ap, subst, inl, inr}
use Rattle.std.specs.List.{flat_map}
use Rattle.task_ast.specs.declared.tree.Kind.{Kind}
use Rattle.task_ast.specs.declared.tree.Kind.TheVariants as kind
use Rattle.task_ast.specs.declared.tree.Decl.TheVariants as decl
use Rattle.std.proofs.lemmas.List.{append-nil}
use Rattle.task_ast.specs.Readable.{IsWord}
use Rattle.task_tokens.specs.declared.token.Keyword.TheVariants as keyword
use Rattle.task_tokens.specs.declared.token.Sign.TheVariants as sign
use Rattle.task_tokens.specs.declared.token.Lexeme.{Lexeme}
use Rattle.task_tokens.specs.declared.token.Lexeme.TheVariants as lexeme
use Rattle.task_tokens.specs.declared.token.Token.{Token}
use Rattle.task_text.specs.Forms.{symbol}
use Rattle.task_text.specs.Grammar.{IsKind, IsSize, IsNextValue, AreValues, IsList, IsInit, IsDeclared, IsPointer, IsWorded, IsPeripheral, IsDecl}
use Rattle.task_print.specs.Printed.{word, mark, named, numbered, braced, kind_tokens, size_tokens, next_tokens, init_tokens, decl_tokens}
use Rattle.task_print.specs.Unplaced.{bare_decl}
use Rattle.task_print.proofs.Fairs.{AreFair, fair_back}
use Rattle.task_print.proofs.Lexemes.{first_of, none_of, one_of}
use Rattle.task_print.proofs.Prints.{PrintsTo, IsPrinted, PrintsFrom, word-printed, mark-printed, named-printed, numbered-printed, done-printed, then-printed, either-printed, rule-printed, enclosed-printed, all-printed}

-- what has no places is itself
abbrev pub itself : {T : Type 0} → T → T
itself x = x

kind-printed : IsPrinted kind_tokens itself IsKind IsKind
kind-printed =
    rule-printed (either-printed (then-printed word-printed (λ a b _. then-printed word-printed (λ a b _. done-printed kind.Const kind.Const refl refl)))
    (either-printed (then-printed word-printed (λ a b _. done-printed kind.Nv kind.Nv refl refl)) (done-printed kind.Vol kind.Vol refl refl)))

size-printed : IsPrinted size_tokens itself IsSize IsSize
size-printed = rule-printed (either-printed (then-printed (enclosed-printed numbered-printed) (λ n m e. done-printed (Some n.value) (Some m.value) refl (ap (λ k. Some k.value) e))) (done-printed None None refl refl))

next_value-printed : IsPrinted next_tokens itself IsNextValue IsNextValue
next_value-printed = rule-printed (then-printed mark-printed (λ a b _. then-printed numbered-printed (λ n m e. done-printed n.value m.value refl (ap (λ k. k.value) e))))

-- values with commas between them, one at least
abbrev values_tokens : List ℕ → List Lexeme
values_tokens [] = []
values_tokens (n ∷ ns) = numbered n ++ flat_map next_tokens ns

same-items : {T : Type 0} (xs : List T) → map itself xs ≡ xs
same-items [] = refl
same-items (x ∷ xs) = ap (λ ys. x ∷ ys) (same-items xs)

values-printed : IsPrinted values_tokens itself AreValues AreValues
values-printed =
    rule-printed (then-printed numbered-printed (λ n m e. then-printed (all-printed next_value-printed) (λ ns ms d. done-printed (n.value ∷ ns) (m.value ∷ ms) refl (λ i. (e i).value ∷ (sym (same-items ms) ∙ d ∙ same-items ns) i))))

-- one value is printed without braces
one-value : (n : ℕ) → IsWord n → PrintsTo itself (n ∷ []) IsInit (init_tokens (n ∷ []))
one-value n h = record {
  printable = (tt, (h, tt));
  again = λ tokens is.
      let f = first_of tokens (lexeme.Symbol sign.Equal) (numbered n) is in
      let one = one_of f.behind (lexeme.Number n) f.back in
      (n ∷ [], inl (f.at, symbol sign.Equal f.at ∷ [], f.behind, f.whole, refl, inr (record { value = n; at = one.0 }, f.behind, [], sym (append-nil f.behind), one.1, (refl, refl))), refl);
}

list-init : (xs : List ℕ) (old : List Token) → IsList xs old → AreFair old → PrintsTo itself xs IsInit (init_tokens xs)
list-init [] old (inl b) fair = absurd (let e = b.inside.5.5.0 in let k : ⊥ = cc in k)
list-init (n ∷ []) old (inl b) fair =
    let p = (enclosed-printed {first = sign.BraceOpen} {last = sign.BraceClose} values-printed).part (n ∷ []) old b fair in
    one-value n p.printable.1.0
list-init (n ∷ m ∷ ns) old (inl b) fair =
    let p = (enclosed-printed {first = sign.BraceOpen} {last = sign.BraceClose} values-printed).part (n ∷ m ∷ ns) old b fair in
    record {
      printable = (tt, p.printable);
      again = λ tokens is.
          let f = first_of tokens (lexeme.Symbol sign.Equal) (braced (values_tokens (n ∷ m ∷ ns))) is in
          let y = p.again f.behind f.back in
          (y.0, inl (f.at, symbol sign.Equal f.at ∷ [], f.behind, f.whole, refl, inl y.1), y.2);
    }
list-init xs old (inr h) fair =
    subst (λ ys. PrintsTo itself ys IsInit (init_tokens ys)) h.5.0 (one-value h.0.value (subst AreFair (h.3 ∙ ap (λ ts. ts ++ h.2) h.4) fair).0)

init-printed : IsPrinted init_tokens itself IsInit IsInit
init-printed = record { part = by_form }
  where
    by_form : (xs : List ℕ) (old : List Token) → IsInit xs old → AreFair old → PrintsTo itself xs IsInit (init_tokens xs)
    by_form xs old (inl h) fair = list-init xs h.2 h.5 (fair_back h.1 h.2 (subst AreFair h.3 fair))
    by_form xs old (inr h) fair = subst (λ ys. PrintsTo itself ys IsInit (init_tokens ys)) h.0 (record { printable = tt; again = λ tokens is. ([], inr (refl, none_of tokens is), refl) })

declared-printed : (front : List Lexeme) (k : Kind) → front ≡ kind_tokens k ++ word keyword.Word → PrintsFrom front decl_tokens bare_decl (IsDeclared k) (IsDeclared k)
declared-printed front k e =
    then-printed named-printed (λ x y d. then-printed size-printed (λ n m b. then-printed init-printed (λ v w c. then-printed mark-printed (λ _ _ _. done-printed (decl.Words k x n v) (decl.Words k y m w)
    (ap (λ fs. fs ++ named x ++ size_tokens n ++ init_tokens v ++ mark sign.Semicolon) (sym e)) (λ i. decl.Words k (d i) (b i) (c i))))))

pointer-printed : PrintsFrom (word keyword.Word) decl_tokens bare_decl IsPointer IsPointer
pointer-printed = then-printed mark-printed (λ _ _ _. then-printed named-printed (λ x y d. then-printed mark-printed (λ _ _ _. done-printed (decl.Pointer x) (decl.Pointer y) refl (λ i. decl.Pointer (d i)))))

worded-printed : (k : Kind) → PrintsFrom (kind_tokens k ++ word keyword.Word) decl_tokens bare_decl (IsWorded k) (IsWorded k)
worded-printed kind.Const = declared-printed _ kind.Const refl
worded-printed kind.Nv = declared-printed _ kind.Nv refl
worded-printed kind.Vol = either-printed pointer-printed (declared-printed _ kind.Vol refl)

peripheral-printed : PrintsFrom [] decl_tokens bare_decl IsPeripheral IsPeripheral
peripheral-printed =
    then-printed word-printed (λ _ _ _. then-printed named-printed (λ x y d. then-printed numbered-printed (λ n m e. then-printed mark-printed (λ _ _ _. done-printed (decl.Peripheral x n.value) (decl.Peripheral y m.value) refl (λ i. decl.Peripheral (d i) (e i).value)))))

pub decl-printed : IsPrinted decl_tokens bare_decl IsDecl IsDecl
decl-printed =
    rule-printed (either-printed peripheral-printed (then-printed kind-printed (λ k j e. then-printed word-printed (λ _ _ _. subst (λ i. PrintsFrom (kind_tokens k ++ word keyword.Word) decl_tokens bare_decl (IsWorded k) (IsWorded i)) (sym e) (worded-printed k)))))
