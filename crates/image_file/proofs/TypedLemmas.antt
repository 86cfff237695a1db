-- Entries that get their kinds one after another.
use Rattle.std.proofs.Common.{◌≡◌, ℕ, zero, suc, ◌+◌, ◌<◌, ◌≤◌, List, [], ◌∷◌, ◌++◌, Some, None, length, drop, get_or, refl, ap, sym, ◌∙◌, append_assoc, arith}
use Rattle.std.proofs.Math.Seq.{drop-cons}
use Rattle.std.proofs.lemmas.List.{append-nil}
use Rattle.task_ast.specs.declared.tree.Kind.{Kind}
use Rattle.word_isa.specs.declared.mark.Mark.{Mark}
use Rattle.word_isa.specs.declared.mark.MarkKind.{MarkKind}
use Rattle.word_isa.specs.declared.parts.Symbol.{Symbol}
use Rattle.word_isa.specs.Codes.{kind_of, mark_kind_of}
use Rattle.image_file.specs.declared.raw.RawSymbol.{RawSymbol}
use Rattle.image_file.specs.declared.raw.RawMark.{RawMark}
use Rattle.image_file.specs.Faults.{typed_symbols, with_kind, typed_marks, with_mark_kind}

-- the item at a place, and those behind it
at_place : {A : Type 0} (xs : List A) (i : ℕ) (x : A) → i < length xs → x ≡ get_or xs i x → drop i xs ≡ x ∷ drop (i + 1) xs
at_place xs i x less is =
    let n : suc i ≡ i + 1 = omega arith in
    drop-cons xs i x less ∙ ap (λ y. y ∷ drop (suc i) xs) (sym is) ∙ ap (λ k. x ∷ drop k xs) n

-- the same by a default
at_default : {A : Type 0} (xs : List A) (i : ℕ) (d : A) → i < length xs → drop i xs ≡ get_or xs i d ∷ drop (i + 1) xs
at_default xs i d less =
    let n : suc i ≡ i + 1 = omega arith in
    drop-cons xs i d less ∙ ap (λ k. get_or xs i d ∷ drop k xs) n

-- the mark at a place
abbrev pub mark_of : List RawMark → ℕ → RawMark
mark_of raws i = get_or raws i (record { at = 0; kind = 0; site = 0; task = 0 })

-- none are left
past_all : {A : Type 0} (xs : List A) (i : ℕ) → length xs ≤ i → drop i xs ≡ []
past_all [] zero all = refl
past_all [] (suc i) all = refl
past_all (x ∷ xs) zero all = absurd (omega (arith, all))
past_all (x ∷ xs) (suc i) all = past_all xs i (omega (arith, all))

-- what one symbol adds
one_symbol : (s : RawSymbol) (kind : Kind) (name : List ℕ) (rest : List RawSymbol) → name ≡ s.name → Some kind ≡ kind_of s.kind
    → typed_symbols (s ∷ rest) ≡ record { name = name; kind = kind; base = s.base; length = s.length } ∷ typed_symbols rest
unfolding typed_symbols
one_symbol s kind name rest same is =
    ap (λ k. with_kind s k (typed_symbols rest)) (sym is) ∙ ap (λ (n : List ℕ). record { name = n; kind = kind; base = s.base; length = s.length } ∷ typed_symbols rest) (sym same)

-- a symbol that has its kind
pub symbols_next : (raws : List RawSymbol) (done : List Symbol) (i : ℕ) (s : RawSymbol) (kind : Kind) (name : List ℕ) → i < length raws → s ≡ get_or raws i s → Some kind ≡ kind_of s.kind → name ≡ s.name
    → done ++ typed_symbols (drop i raws) ≡ typed_symbols raws
    → (done ++ record { name = name; kind = kind; base = s.base; length = s.length } ∷ []) ++ typed_symbols (drop (i + 1) raws) ≡ typed_symbols raws
symbols_next raws done i s kind name less at is same h =
    append_assoc done _ (typed_symbols (drop (i + 1) raws))
    ∙ ap (λ (xs : List Symbol). done ++ xs) (sym (ap typed_symbols (at_place raws i s less at) ∙ one_symbol s kind name (drop (i + 1) raws) same is))
    ∙ h

-- a symbol that has none
untyped_symbol : (s : RawSymbol) (rest : List RawSymbol) → None ≡ kind_of s.kind → typed_symbols (s ∷ rest) ≡ []
unfolding typed_symbols
untyped_symbol s rest is = ap (λ k. with_kind s k (typed_symbols rest)) (sym is)

pub symbols_end : (raws : List RawSymbol) (done : List Symbol) (i : ℕ) (s : RawSymbol) → i < length raws → s ≡ get_or raws i s → None ≡ kind_of s.kind
    → done ++ typed_symbols (drop i raws) ≡ typed_symbols raws → done ≡ typed_symbols raws
symbols_end raws done i s less at is h =
    sym (append-nil done) ∙ ap (λ (xs : List Symbol). done ++ xs) (sym (ap typed_symbols (at_place raws i s less at) ∙ untyped_symbol s (drop (i + 1) raws) is)) ∙ h

no_symbols : typed_symbols [] ≡ []
unfolding typed_symbols
no_symbols = refl

-- all symbols have their kinds
pub symbols_all : (raws : List RawSymbol) (done : List Symbol) (i : ℕ) → length raws ≤ i → done ++ typed_symbols (drop i raws) ≡ typed_symbols raws → done ≡ typed_symbols raws
symbols_all raws done i all h = sym (append-nil done) ∙ ap (λ (xs : List Symbol). done ++ xs) (sym (ap typed_symbols (past_all raws i all) ∙ no_symbols)) ∙ h

-- what one mark adds
one_mark : (m : RawMark) (kind : MarkKind) (rest : List RawMark) → Some kind ≡ mark_kind_of m.kind
    → typed_marks (m ∷ rest) ≡ record { at = m.at; kind = kind; site = m.site; task = m.task } ∷ typed_marks rest
unfolding typed_marks
one_mark m kind rest is = ap (λ k. with_mark_kind m k (typed_marks rest)) (sym is)

-- a mark that has its kind
pub marks_next : (raws : List RawMark) (done : List Mark) (i : ℕ) (kind : MarkKind) → i < length raws → Some kind ≡ mark_kind_of (mark_of raws i).kind
    → done ++ typed_marks (drop i raws) ≡ typed_marks raws
    → (done ++ record { at = (mark_of raws i).at; kind = kind; site = (mark_of raws i).site; task = (mark_of raws i).task } ∷ []) ++ typed_marks (drop (i + 1) raws) ≡ typed_marks raws
marks_next raws done i kind less is h =
    append_assoc done _ (typed_marks (drop (i + 1) raws))
    ∙ ap (λ (xs : List Mark). done ++ xs) (sym (ap typed_marks (at_default raws i _ less) ∙ one_mark (mark_of raws i) kind (drop (i + 1) raws) is))
    ∙ h

-- a mark that has none
untyped_mark : (m : RawMark) (rest : List RawMark) → None ≡ mark_kind_of m.kind → typed_marks (m ∷ rest) ≡ []
unfolding typed_marks
untyped_mark m rest is = ap (λ k. with_mark_kind m k (typed_marks rest)) (sym is)

pub marks_end : (raws : List RawMark) (done : List Mark) (i : ℕ) → i < length raws → None ≡ mark_kind_of (mark_of raws i).kind
    → done ++ typed_marks (drop i raws) ≡ typed_marks raws → done ≡ typed_marks raws
marks_end raws done i less is h =
    sym (append-nil done) ∙ ap (λ (xs : List Mark). done ++ xs) (sym (ap typed_marks (at_default raws i _ less) ∙ untyped_mark (mark_of raws i) (drop (i + 1) raws) is)) ∙ h

no_marks : typed_marks [] ≡ []
unfolding typed_marks
no_marks = refl

-- all marks have their kinds
pub marks_all : (raws : List RawMark) (done : List Mark) (i : ℕ) → length raws ≤ i → done ++ typed_marks (drop i raws) ≡ typed_marks raws → done ≡ typed_marks raws
marks_all raws done i all h = sym (append-nil done) ∙ ap (λ (xs : List Mark). done ++ xs) (sym (ap typed_marks (past_all raws i all) ∙ no_marks)) ∙ h
