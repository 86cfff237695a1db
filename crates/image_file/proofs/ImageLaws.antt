-- The bytes of an image are read as that image, and bytes that are read as an image are its bytes.
use Rattle.std.proofs.Common.{◌≡◌, ℕ, suc, ◌+◌, ◌^◌, ◌<◌, ◌%◌, Bool, true, false, nat_lt, nat_le, ◌==◌, ◌&&◌, if◌then◌else◌, IsTrue, List, [], ◌∷◌, ◌++◌, Option, Some, None, length, map, slice_get, bytes_eq, refl, sym, ap, ap₂, subst, ◌∙◌, append_assoc, arith}
use Rattle.std.specs.List.{AllByRecursion}
use Rattle.std.specs.Option.{option_map}
use Rattle.std.proofs.lemmas.List.{append-nil, length-map}
use Rattle.std.proofs.lemmas.Bool.Decides.{nat_tests}
use Rattle.ease_base.specs.declared.place.Peripheral.{Peripheral}
use Rattle.task_ast.specs.declared.tree.Kind.{Kind}
use Rattle.task_ast.specs.declared.tree.Kind.TheVariants.{Nv, Const, Vol}
use Rattle.word_isa.specs.declared.image.Image.{Image}
use Rattle.word_isa.specs.declared.mark.Mark.{Mark}
use Rattle.word_isa.specs.declared.mark.MarkKind.{MarkKind}
use Rattle.word_isa.specs.declared.mark.MarkKind.TheVariants.{Begin, Look, Kept, Drop, Issue, Seal, Copy, Commit}
use Rattle.word_isa.specs.declared.parts.Scheme.{Scheme}
use Rattle.word_isa.specs.declared.parts.Scheme.TheVariants.{Undo, Bank}
use Rattle.word_isa.specs.declared.parts.Symbol.{Symbol}
use Rattle.word_isa.specs.Checks.{version_passes, first_too_large, banks_pass}
use Rattle.word_isa.specs.Codes.{scheme_of, scheme_code, kind_of, kind_code, mark_kind_of, mark_code}
use Rattle.word_isa.specs.Entries.{span, first_bad_symbol}
use Rattle.word_isa.specs.ImageLaws.{passes_at}
use Rattle.word_isa.specs.Marks.{first_bad_mark, mark_passes, task_passes, site_fits}
use Rattle.image_file.specs.declared.error.ImageError.TheVariants.{TooLarge, BadWord, BadSymbol, BadMark, BadVersion}
use Rattle.image_file.specs.declared.raw.RawImage.{RawImage}
use Rattle.image_file.specs.Bytes.{raw_of, image_bytes, IsImageAt, HasFields, SymbolFits, PeripheralFits, MarkFits}
use Rattle.image_file.specs.Faults.{magic, or_else, version_fault, scheme_fault, known_scheme, count_fault, banks_fault, bad_peripheral, symbol_fault, peripheral_fault, mark_fault, fields_fault, untyped, typed_symbols, with_kind, typed_marks, with_mark_kind, behind_magic, behind, behind_if, magic_fault, image_fault, front_fault, layout_fault}
use Rattle.image_file.specs.Fields.{AreBytes, field, taken_at}
use Rattle.image_file.specs.Layout.{raw_image, raw_symbol, raw_mark, head}
use Rattle.image_file.proofs.FormatLaws.{found, found_value, taken_back, taken_forth}
use Rattle.image_file.proofs.LayoutLaws.{raw_lawful, RawFits, RawPeripheralFits, TaskFits}
use Rattle.image_file.proofs.NumberLaws.{bytes_behind}
use Rattle.image_file.proofs.ImageLemmas.{counts_fit}
use Rattle.std.proofs.lemmas.Slice.Eq.{bytes_eq-Decides}

-- a kind comes back from its byte
kind_there : (kind : Kind) → kind_of (kind_code kind) ≡ Some kind
kind_there Nv = refl
kind_there Const = refl
kind_there Vol = refl

mark_kind_there : (kind : MarkKind) → mark_kind_of (mark_code kind) ≡ Some kind
mark_kind_there Begin = refl
mark_kind_there Look = refl
mark_kind_there Kept = refl
mark_kind_there Drop = refl
mark_kind_there Issue = refl
mark_kind_there Seal = refl
mark_kind_there Copy = refl
mark_kind_there Commit = refl

scheme_there : (scheme : Scheme) → scheme_of (scheme_code scheme) ≡ Some scheme
scheme_there Undo = refl
scheme_there Bank = refl

-- symbols and marks that have kinds come back from their raw forms
symbols_there : (symbols : List Symbol) → typed_symbols (map raw_symbol symbols) ≡ symbols
unfolding typed_symbols
symbols_there [] = refl
symbols_there (s ∷ rest) =
    ap (λ o. with_kind (raw_symbol s) o (typed_symbols (map raw_symbol rest))) (kind_there s.kind) ∙ ap (λ (ss : List Symbol). s ∷ ss) (symbols_there rest)

marks_there : (marks : List Mark) → typed_marks (map raw_mark marks) ≡ marks
unfolding typed_marks
marks_there [] = refl
marks_there (m ∷ rest) =
    ap (λ o. with_mark_kind (raw_mark m) o (typed_marks (map raw_mark rest))) (mark_kind_there m.kind) ∙ ap (λ (ms : List Mark). m ∷ ms) (marks_there rest)

-- as many have kinds as there are
none_untyped : (n : ℕ) → untyped n n ≡ None
none_untyped n = let same : nat_lt n n ≡ false = grind (arith, nat_tests) in ap (λ b. if b then Some n else None) same

good_version : (n : ℕ) → IsTrue (version_passes n) → version_fault (Some n) ≡ None
good_version n h = ap (λ b. if b then None else Some (BadVersion n)) h

good_banks : (scheme : Scheme) (stride keep keep_words : ℕ) → IsTrue (banks_pass scheme stride keep keep_words) → banks_fault (Some scheme) stride keep keep_words ≡ None
good_banks scheme stride keep keep_words h = ap (λ b. if b then None else Some (BadSymbol 0)) h

-- none of two is a fault
both_pass : {A : Type 0} (a b : Option A) → a ≡ None → b ≡ None → or_else a b ≡ None
both_pass a b p q = ap (λ o. or_else o b) p ∙ q

-- the symbols, the peripherals and the marks of an image have no fault
no_symbol_fault : (i : Image) → symbol_fault (raw_of i) ≡ None
no_symbol_fault i =
    let kept = span i.keep i.keep_words in
    let tell = λ (at : ℕ). BadSymbol (at + 1) in
    ap (λ (typed : List Symbol). option_map tell (or_else (first_bad_symbol kept i.stride typed) (untyped (length typed) (length (map raw_symbol i.symbols))))) (symbols_there i.symbols)
    ∙ ap (λ (n : ℕ). option_map tell (or_else (first_bad_symbol kept i.stride i.symbols) (untyped (length i.symbols) n))) (length-map i.symbols raw_symbol)
    ∙ ap (option_map tell) (both_pass _ _ i.tested.symbols_pass (none_untyped (length i.symbols)))

no_peripheral_fault : (i : Image) → peripheral_fault (raw_of i) ≡ None
no_peripheral_fault i =
    ap (λ (typed : List Symbol). bad_peripheral typed i.peripherals) (symbols_there i.symbols)
    ∙ ap (option_map (λ (at : ℕ). BadSymbol (length i.symbols + at + 1))) i.tested.peripherals_pass

no_mark_fault : (i : Image) → mark_fault (raw_of i) ≡ None
no_mark_fault i =
    let tell = λ (at : ℕ). BadMark (at + 1) in
    ap (λ (typed : List Mark). option_map tell (or_else (first_bad_mark i.version i.code typed) (untyped (length typed) (length (map raw_mark i.marks))))) (marks_there i.marks)
    ∙ ap (λ (n : ℕ). option_map tell (or_else (first_bad_mark i.version i.code i.marks) (untyped (length i.marks) n))) (length-map i.marks raw_mark)
    ∙ ap (option_map tell) (both_pass _ _ i.tested.marks_pass (none_untyped (length i.marks)))

no_count_fault : (i : Image) → count_fault (raw_of i) ≡ None
no_count_fault i =
    ap (option_map TooLarge) (ap₂ (λ (s m : ℕ). first_too_large (length i.code) (length i.fram) s (length i.peripherals) m) (length-map i.symbols raw_symbol) (length-map i.marks raw_mark) ∙ i.tested.counts)

-- the fields of an image have no fault
fields_pass_tests : (i : Image) → fields_fault (raw_of i) ≡ None
unfolding fields_fault
fields_pass_tests i =
    both_pass _ _ (good_version i.version i.tested.versions)
    (both_pass _ _ (ap (known_scheme (scheme_code i.scheme)) (scheme_there i.scheme))
    (both_pass _ _ (no_count_fault i)
    (both_pass _ _ (ap (option_map BadWord) i.tested.words)
    (both_pass _ _ (ap (λ o. banks_fault o i.stride i.keep i.keep_words) (scheme_there i.scheme) ∙ good_banks i.scheme i.stride i.keep i.keep_words i.tested.banks)
    (both_pass _ _ (no_symbol_fault i) (both_pass _ _ (no_peripheral_fault i) (no_mark_fault i)))))))

-- what holds of the item at each place holds of each item
all_items : {A : Type 0} (P : A → Type 0) (xs : List A) → ((k : ℕ) (x : A) → slice_get xs k ≡ Some x → P x) → AllByRecursion P xs
all_items P [] each = tt
all_items P (x ∷ xs) each = (each 0 x refl, all_items P xs (λ k y at. each (suc k) y at))

-- what holds of each item, and what follows from it
all_mapped : {A B : Type 0} (P : A → Type 0) (Q : B → Type 0) (f : A → B) (xs : List A) → ((x : A) → P x → Q (f x)) → AllByRecursion P xs → AllByRecursion Q (map f xs)
all_mapped P Q f [] step all = tt
all_mapped P Q f (x ∷ xs) step all = (step x all.0, all_mapped P Q f xs step all.1)

kind_small : (kind : Kind) → kind_code kind < 256 ^ 1
kind_small Nv = omega arith
kind_small Const = omega arith
kind_small Vol = omega arith

mark_kind_small : (kind : MarkKind) → mark_code kind < 256 ^ 1
mark_kind_small Begin = omega arith
mark_kind_small Look = omega arith
mark_kind_small Kept = omega arith
mark_kind_small Drop = omega arith
mark_kind_small Issue = omega arith
mark_kind_small Seal = omega arith
mark_kind_small Copy = omega arith
mark_kind_small Commit = omega arith

scheme_small : (scheme : Scheme) → scheme_code scheme < 256 ^ 1
scheme_small Undo = omega arith
scheme_small Bank = omega arith

-- both of two tests hold
second_holds : (a b : Bool) → (a && b) ≡ true → b ≡ true
second_holds true b e = e
second_holds false b e = cc

-- a task that the version allows fits
task_fits : (version : ℕ) (kind : MarkKind) (site t : ℕ) → task_passes version kind site t ≡ true → t < 2 ^ 8 → TaskFits (version == 2) t
task_fits version kind site t passes small = by (version == 2) passes
  where
    by : (two : Bool) → (if two then nat_le 1 t && nat_le t 64 && site_fits kind site t else t == 0) ≡ true → TaskFits two t
    by true e = small
    by false e = grind (arith, nat_tests)

mark_task : (version : ℕ) (code : List ℕ) (earlier : List Mark) (m : Mark) → mark_passes version code earlier m ≡ true → task_passes version m.kind m.site m.task ≡ true
unfolding mark_passes
mark_task version code earlier m e = second_holds _ _ e

-- a mark that passes and whose numbers fit
abbrev GoodMark : (version : ℕ) → Mark → Type 0
GoodMark version m = MarkFits m × (task_passes version m.kind m.site m.task ≡ true)

all_both : {A : Type 0} (P Q : A → Type 0) (xs : List A) → AllByRecursion P xs → AllByRecursion Q xs → AllByRecursion (λ x. P x × Q x) xs
all_both P Q [] p q = tt
all_both P Q (x ∷ xs) p q = ((p.0, q.0), all_both P Q xs p.1 q.1)

marks_pass_each : (i : Image) → AllByRecursion (λ m. task_passes i.version m.kind m.site m.task ≡ true) i.marks
marks_pass_each i = all_items _ i.marks (λ k m at. mark_task i.version i.code _ m (passes_at (mark_passes i.version i.code) i.marks k m i.tested.marks_pass at))

peripherals_fit : (ps : List Peripheral) → AllByRecursion PeripheralFits ps → AllByRecursion (λ p. RawPeripheralFits (p.name, p.number)) ps
peripherals_fit [] all = tt
peripherals_fit (p ∷ ps) all = ((all.0.name, all.0.number), peripherals_fit ps all.1)

-- the fields of an image whose numbers fit are fields that fit
pub raw_fits : (i : Image) → HasFields i → RawFits (raw_of i)
raw_fits i h =
    let small = counts_fit (length i.code) (length i.fram) (length i.symbols) (length i.peripherals) (length i.marks) i.tested.counts in (
      (h.version, (scheme_small i.scheme, (h.state, (h.stride, (h.keep, h.keep_words))))),
      (
        (small.code_fits, h.code),
        (
          (small.fram_fits, h.fram),
          (
            (rw (length-map i.symbols raw_symbol) small.symbols_fit, all_mapped SymbolFits _ raw_symbol i.symbols (λ s f. (f.name, (kind_small s.kind, (f.base, f.size)))) h.symbols),
            (
              (small.peripherals_fit, peripherals_fit i.peripherals h.peripherals),
              (
                rw (length-map i.marks raw_mark) small.marks_fit,
                all_mapped (GoodMark i.version) _ raw_mark i.marks (λ m f. (f.0.at, (mark_kind_small m.kind, (f.0.site, task_fits i.version m.kind m.site m.task f.1 f.0.task)))) (all_both MarkFits _ i.marks h.marks (marks_pass_each i)),
              ),
            ),
          ),
        ),
      ),
    )

-- the bytes of an image are read as its fields
pub image_read : (i : Image) → HasFields i → raw_image.read (raw_image.spell (raw_of i)) ≡ found (raw_of i) []
image_read i h = ap raw_image.read (sym (append-nil (raw_image.spell (raw_of i)))) ∙ raw_lawful.back (raw_of i) [] (raw_fits i h)

-- the two bytes in front of the fields
first_byte : (v : ℕ) (rest : List ℕ) → v < 256 → slice_get (field 1 v ++ rest) 0 ≡ Some v
unfolding field
first_byte v rest small = let e : v % 256 ≡ v = omega arith in ap (λ (n : ℕ). Some n) e

second_byte : (v w : ℕ) (rest : List ℕ) → w < 256 → slice_get (field 1 v ++ (field 1 w ++ rest)) 1 ≡ Some w
unfolding field
second_byte v w rest small = let e : w % 256 ≡ w = omega arith in ap (λ (n : ℕ). Some n) e

version_there : (i : RawImage) → i.head.version < 256 → slice_get (raw_image.spell i) 0 ≡ Some i.head.version
unfolding raw_image head
version_there i small = ap (λ (b : List ℕ). slice_get b 0) (append_assoc (field 1 i.head.version) _ _) ∙ first_byte i.head.version _ small

scheme_byte_there : (i : RawImage) → i.head.scheme < 256 → slice_get (raw_image.spell i) 1 ≡ Some i.head.scheme
unfolding raw_image head
scheme_byte_there i small =
    ap (λ (b : List ℕ). slice_get b 1) (append_assoc (field 1 i.head.version) _ _ ∙ ap (λ (b : List ℕ). field 1 i.head.version ++ b) (append_assoc (field 1 i.head.scheme) _ _))
    ∙ second_byte i.head.version i.head.scheme _ small

-- what stands behind the magic of an image
magic_passed : (fields : List ℕ) → behind_magic (magic ++ fields) ≡ Some fields
unfolding behind_magic
magic_passed fields = ap behind (taken_back magic fields)

-- the fields of an image have no fault where they stand
front_passes : (i : Image) → HasFields i → front_fault (raw_image.spell (raw_of i)) ≡ None
front_passes i h =
    both_pass _ _ (ap version_fault (version_there (raw_of i) h.version) ∙ good_version i.version i.tested.versions)
    (both_pass _ _ (ap scheme_fault (scheme_byte_there (raw_of i) (scheme_small i.scheme)) ∙ ap (known_scheme (scheme_code i.scheme)) (scheme_there i.scheme))
    (ap layout_fault (image_read i h) ∙ both_pass _ _ (fields_pass_tests i) refl))

-- the bytes of an image have no fault
pub no_fault : (i : Image) → HasFields i → image_fault (image_bytes i) ≡ None
unfolding image_fault
no_fault i h = ap magic_fault (magic_passed (raw_image.spell (raw_of i))) ∙ front_passes i h

-- and are read as that image
pub image_there : (i : Image) → HasFields i → IsImageAt (image_bytes i) i
image_there i h = record { fields = raw_image.spell (raw_of i); behind = magic_passed (raw_image.spell (raw_of i)); read = image_read i h }

-- some bytes are those of one image at most
pub one_image : (bytes : List ℕ) (i j : Image) → IsImageAt bytes i → IsImageAt bytes j → raw_of i ≡ raw_of j
one_image bytes i j a b =
    let same : a.fields ≡ b.fields = some_same a.fields b.fields (sym a.behind ∙ b.behind) in
    found_value (raw_of i) (raw_of j) [] [] (sym a.read ∙ ap raw_image.read same ∙ b.read)
  where
    some_same : (xs ys : List ℕ) → Some xs ≡ Some ys → xs ≡ ys
    some_same xs ys e = cc

-- texts that are tested to be the same are
bytes_are : (xs ys : List ℕ) → bytes_eq xs ys ≡ true → xs ≡ ys
bytes_are xs ys e = (bytes_eq-Decides xs ys).0 e

-- bytes that begin with the magic
magic_is_there : (bytes fields : List ℕ) → behind_magic bytes ≡ Some fields → bytes ≡ magic ++ fields
unfolding behind_magic
magic_is_there bytes fields e = by (taken_at 4 bytes) refl e
  where
    by : (o : Option (List ℕ × List ℕ)) → taken_at 4 bytes ≡ o → behind o ≡ Some fields → bytes ≡ magic ++ fields
    by None t h = cc
    by (Some p) t h = front (bytes_eq p.0 magic) refl h
      where
        front : (same : Bool) → bytes_eq p.0 magic ≡ same → behind_if same p.1 ≡ Some fields → bytes ≡ magic ++ fields
        front false s k = cc
        front true s k =
            let is : p.0 ≡ magic = bytes_are p.0 magic s in
            let left : p.1 ≡ fields = cc in
            (taken_forth 4 bytes p.0 p.1 t).0 ∙ ap₂ (λ (a b : List ℕ). a ++ b) is left

-- bytes that are read as an image are its bytes
pub bytes_are_its : (bytes : List ℕ) (i : Image) → AreBytes bytes → IsImageAt bytes i → bytes ≡ image_bytes i
bytes_are_its bytes i small at =
    let whole = magic_is_there bytes at.fields at.behind in
    let behind = bytes_behind magic at.fields (subst AreBytes whole small) in
    whole ∙ ap (λ (b : List ℕ). magic ++ b) (raw_lawful.forth at.fields (raw_of i) [] behind at.read ∙ append-nil (raw_image.spell (raw_of i)))

-- images with the same bytes have the same fields
pub same_bytes : (i j : Image) → HasFields i → HasFields j → image_bytes i ≡ image_bytes j → raw_of i ≡ raw_of j
same_bytes i j h k e = one_image (image_bytes i) i j (image_there i h) (subst (λ b. IsImageAt b j) (sym e) (image_there j k))
