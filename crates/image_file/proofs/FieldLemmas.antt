-- Fields that pass every test are those of an image.
use Rattle.std.proofs.Common.{◌≡◌, ℕ, zero, suc, ◌≤◌, Bool, true, false, nat_lt, if◌then◌else◌, IsTrue, List, [], ◌∷◌, Option, None, Some, length, map, refl, ap₂, sym, subst, ◌∙◌, arith}
use Rattle.std.specs.Option.{option_map}
use Rattle.std.proofs.lemmas.Bool.Decides.{nat_tests}
use Rattle.task_ast.specs.declared.tree.Kind.{Kind}
use Rattle.word_isa.specs.declared.mark.Mark.{Mark}
use Rattle.word_isa.specs.declared.mark.MarkKind.{MarkKind}
use Rattle.word_isa.specs.declared.parts.Scheme.{Scheme}
use Rattle.word_isa.specs.declared.parts.Symbol.{Symbol}
use Rattle.word_isa.specs.Checks.{version_passes, first_too_large, banks_pass}
use Rattle.word_isa.specs.Codes.{scheme_of, scheme_code, kind_of, kind_code, mark_kind_of, mark_code}
use Rattle.word_isa.specs.Entries.{span, first_bad_symbol}
use Rattle.word_isa.specs.ImageTests.{PassesTests}
use Rattle.word_isa.specs.Marks.{first_bad_mark}
use Rattle.image_file.specs.declared.error.ImageError.TheVariants.{TooLarge, BadWord, BadSymbol, BadVersion}
use Rattle.image_file.specs.declared.raw.RawSymbol.{RawSymbol}
use Rattle.image_file.specs.declared.raw.RawMark.{RawMark}
use Rattle.image_file.specs.declared.raw.RawImage.{RawImage}
use Rattle.image_file.specs.Faults.{or_else, version_fault, scheme_fault, count_fault, word_fault, banks_fault, symbol_fault, peripheral_fault, mark_fault, fields_fault, untyped, typed_symbols, with_kind, typed_marks, with_mark_kind}
use Rattle.image_file.specs.Layout.{raw_symbol, raw_mark}

-- neither of two is a fault
neither : {A : Type 0} (a b : Option A) → or_else a b ≡ None → (a ≡ None) × (b ≡ None)
neither None b e = (refl, e)
neither (Some x) b e = cc

-- what is told of nothing is nothing
unmapped : {A B : Type 0} (f : A → B) (o : Option A) → option_map f o ≡ None → o ≡ None
unmapped f None e = refl
unmapped f (Some x) e = cc

-- the byte of a kind that a byte stands for
kind_back : (code : ℕ) (kind : Kind) → kind_of code ≡ Some kind → kind_code kind ≡ code
kind_back zero kind e = cc
kind_back (suc zero) kind e = cc
kind_back (suc (suc zero)) kind e = cc
kind_back (suc (suc (suc n))) kind e = cc

mark_kind_back : (code : ℕ) (kind : MarkKind) → mark_kind_of code ≡ Some kind → mark_code kind ≡ code
mark_kind_back zero kind e = cc
mark_kind_back (suc zero) kind e = cc
mark_kind_back (suc (suc zero)) kind e = cc
mark_kind_back (suc (suc (suc zero))) kind e = cc
mark_kind_back (suc (suc (suc (suc zero)))) kind e = cc
mark_kind_back (suc (suc (suc (suc (suc zero))))) kind e = cc
mark_kind_back (suc (suc (suc (suc (suc (suc zero)))))) kind e = cc
mark_kind_back (suc (suc (suc (suc (suc (suc (suc zero))))))) kind e = cc
mark_kind_back (suc (suc (suc (suc (suc (suc (suc (suc zero)))))))) kind e = cc
mark_kind_back (suc (suc (suc (suc (suc (suc (suc (suc (suc n))))))))) kind e = cc

-- the byte of a scheme that a byte stands for
pub scheme_back : (code : ℕ) (scheme : Scheme) → scheme_of code ≡ Some scheme → scheme_code scheme ≡ code
scheme_back zero scheme e = cc
scheme_back (suc zero) scheme e = cc
scheme_back (suc (suc n)) scheme e = cc

-- as many symbols have their kinds as there are, or fewer
symbols_fewer : (raws : List RawSymbol) → length (typed_symbols raws) ≤ length raws
unfolding typed_symbols
symbols_fewer [] = omega arith
symbols_fewer (s ∷ rest) = one (kind_of s.kind) (symbols_fewer rest)
  where
    one : (o : Option Kind) → length (typed_symbols rest) ≤ length rest → length (with_kind s o (typed_symbols rest)) ≤ suc (length rest)
    one None h = omega arith
    one (Some kind) h = omega (arith, h)

-- where all have their kinds, they stand in a file as they did
pub symbols_whole : (raws : List RawSymbol) → length raws ≤ length (typed_symbols raws) → map raw_symbol (typed_symbols raws) ≡ raws
unfolding typed_symbols
symbols_whole [] all = refl
symbols_whole (s ∷ rest) all = one (symbols_whole rest) (kind_of s.kind) refl all
  where
    one : (length rest ≤ length (typed_symbols rest) → map raw_symbol (typed_symbols rest) ≡ rest) → (o : Option Kind) → kind_of s.kind ≡ o → suc (length rest) ≤ length (with_kind s o (typed_symbols rest)) → map raw_symbol (with_kind s o (typed_symbols rest)) ≡ s ∷ rest
    one whole None e h = absurd (omega (arith, h))
    one whole (Some kind) e h =
        ap₂ (λ (k : ℕ) (ss : List RawSymbol). record { name = s.name; kind = k; base = s.base; length = s.length } ∷ ss) (kind_back s.kind kind e) (whole (omega (arith, h)))

marks_fewer : (raws : List RawMark) → length (typed_marks raws) ≤ length raws
unfolding typed_marks
marks_fewer [] = omega arith
marks_fewer (m ∷ rest) = one (mark_kind_of m.kind) (marks_fewer rest)
  where
    one : (o : Option MarkKind) → length (typed_marks rest) ≤ length rest → length (with_mark_kind m o (typed_marks rest)) ≤ suc (length rest)
    one None h = omega arith
    one (Some kind) h = omega (arith, h)

pub marks_whole : (raws : List RawMark) → length raws ≤ length (typed_marks raws) → map raw_mark (typed_marks raws) ≡ raws
unfolding typed_marks
marks_whole [] all = refl
marks_whole (m ∷ rest) all = one (marks_whole rest) (mark_kind_of m.kind) refl all
  where
    one : (length rest ≤ length (typed_marks rest) → map raw_mark (typed_marks rest) ≡ rest) → (o : Option MarkKind) → mark_kind_of m.kind ≡ o → suc (length rest) ≤ length (with_mark_kind m o (typed_marks rest)) → map raw_mark (with_mark_kind m o (typed_marks rest)) ≡ m ∷ rest
    one whole None e h = absurd (omega (arith, h))
    one whole (Some kind) e h =
        ap₂ (λ (k : ℕ) (ms : List RawMark). record { at = m.at; kind = k; site = m.site; task = m.task } ∷ ms) (mark_kind_back m.kind kind e) (whole (omega (arith, h)))

-- none is without its kind
all_typed : (typed all : ℕ) → untyped typed all ≡ None → all ≤ typed
all_typed typed all e = by (nat_lt typed all) refl e
  where
    by : (b : Bool) → nat_lt typed all ≡ b → (if b then Some typed else None) ≡ None → all ≤ typed
    by true h e = cc
    by false h e = grind (arith, nat_tests)

version_is_one : (n : ℕ) → version_fault (Some n) ≡ None → IsTrue (version_passes n)
version_is_one n e = by (version_passes n) e
  where
    by : (b : Bool) → (if b then None else Some (BadVersion n)) ≡ None → IsTrue b
    by true e = refl
    by false e = cc

banks_are_good : (scheme : Scheme) (stride keep keep_words : ℕ) → banks_fault (Some scheme) stride keep keep_words ≡ None → IsTrue (banks_pass scheme stride keep keep_words)
banks_are_good scheme stride keep keep_words e = by (banks_pass scheme stride keep keep_words) e
  where
    by : (b : Bool) → (if b then None else Some (BadSymbol 0)) ≡ None → IsTrue b
    by true e = refl
    by false e = cc

-- What fields that pass give: an image's tests, and that all entries have their kinds.
pub record FieldsPass (i : RawImage) (scheme : Scheme) (symbols : List Symbol) (marks : List Mark) : Type 0 where
  pub tested : PassesTests i.head.version scheme i.head.stride i.head.keep i.head.keep_words i.code i.fram symbols i.peripherals marks
  pub symbols_back : map raw_symbol symbols ≡ i.symbols
  pub marks_back : map raw_mark marks ≡ i.marks

pub fields_pass : (i : RawImage) (scheme : Scheme) → fields_fault i ≡ None → scheme_of i.head.scheme ≡ Some scheme → FieldsPass i scheme (typed_symbols i.symbols) (typed_marks i.marks)
unfolding fields_fault
fields_pass i scheme none is =
    let (version, a) = neither (version_fault (Some i.head.version)) _ none in
    let (known, b) = neither (scheme_fault (Some i.head.scheme)) _ a in
    let (counts, c) = neither (count_fault i) _ b in
    let (words, d) = neither (word_fault i.code) _ c in
    let (banks, e) = neither (banks_fault (scheme_of i.head.scheme) i.head.stride i.head.keep i.head.keep_words) _ d in
    let (symbols, f) = neither (symbol_fault i) _ e in
    let (peripherals, marks) = neither (peripheral_fault i) (mark_fault i) f in
    let (good_symbols, typed) = neither (first_bad_symbol (span i.head.keep i.head.keep_words) i.head.stride (typed_symbols i.symbols)) _ (unmapped _ _ symbols) in
    let (good_marks, marked) = neither (first_bad_mark i.head.version i.code (typed_marks i.marks)) _ (unmapped _ _ marks) in
    let more_symbols = all_typed (length (typed_symbols i.symbols)) (length i.symbols) typed in
    let more_marks = all_typed (length (typed_marks i.marks)) (length i.marks) marked in
    let same_symbols : length i.symbols ≡ length (typed_symbols i.symbols) = omega (arith, more_symbols, symbols_fewer i.symbols) in
    let same_marks : length i.marks ≡ length (typed_marks i.marks) = omega (arith, more_marks, marks_fewer i.marks) in
    record {
      tested = record {
        versions = version_is_one i.head.version version;
        counts = ap₂ (λ (s m : ℕ). first_too_large (length i.code) (length i.fram) s (length i.peripherals) m) (sym same_symbols) (sym same_marks) ∙ unmapped TooLarge _ counts;
        words = unmapped BadWord _ words;
        banks = banks_are_good scheme i.head.stride i.head.keep i.head.keep_words (subst (λ o. banks_fault o i.head.stride i.head.keep i.head.keep_words ≡ None) is banks);
        symbols_pass = good_symbols;
        peripherals_pass = unmapped _ _ peripherals;
        marks_pass = good_marks;
      };
      symbols_back = symbols_whole i.symbols more_symbols;
      marks_back = marks_whole i.marks more_marks;
    }
