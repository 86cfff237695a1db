-- One piece written after another.
use Rattle.std.specs.Prelude.{Result, Ok, Err, IsTrue, codes, decimal, slice_index, ◌||◌, if◌then◌else◌}
use Rattle.std.specs.Option.{unwrap_or}
use Rattle.std.specs.List.{flat_map}
use Rattle.std.proofs.Common.{Bool, true, false, None, Some, ◌≡◌, ◌∙◌, ℕ, suc, ◌+◌, ◌-◌, ◌<◌, ◌≤◌, ◌^◌, List, [], ◌∷◌, ◌++◌, length, Option, refl, sym, ap, subst, length-append, arith, lit≤}
use Rattle.std.proofs.lemmas.Fmt.{length-decimal-le}
use Rattle.ease_base.specs.declared.error.Failed.{Failed}
use Rattle.ease_debug.specs.Shown.{why_word, why_line}
use Rattle.ease_debug.specs.declared.why.Why.{Why}
use Rattle.ease_debug.specs.declared.why.Why.TheVariants.{NotReached, Kept, Looked, First, Dropped, Repeated}
use Rattle.power_trace.specs.LineLaws.{put_more, put_whole}
use Rattle.power_trace.specs.Put.{IsPut}
use Rattle.power_trace.specs.Report.{number}
use Rattle.power_trace.specs.Way.{way_begins, way_goes, way_fails, way_ends}
use Rattle.power_trace.specs.Writing.{Wrote, BrokeOff, Writes}
use Rattle.fram_ram.specs.Memories.{has_word, words, is_fram, is_ram}
use Rattle.std.proofs.lemmas.Bool.Decides.{nat_tests}
use Rattle.word_isa.specs.Checks.{version_passes, first_too_large, first_bad_word, banks_pass}
use Rattle.word_isa.specs.Entries.{span, first_bad_symbol, first_bad_peripheral}
use Rattle.word_isa.specs.FirstFailing.{first_failing}
use Rattle.word_isa.specs.Marks.{first_bad_mark}
use Rattle.word_machine.specs.Held.{Held, core_of}
use Rattle.word_isa.specs.declared.image.Image.{Image}
use Rattle.word_isa.specs.declared.parts.Scheme.TheVariants.{Undo}
use Rattle.word_machine.specs.Places.{words_from}

-- two pieces, with what is behind them
pub both : (old mid new : Option (List ℕ)) (f0 f1 f2 : ℕ) (a b : List ℕ) → Wrote old mid f0 f1 a → Wrote mid new f1 f2 b → Wrote old new f0 f2 (a ++ b)
both old mid new f0 f1 f2 a b first second =
    let begun = way_begins old old f0 f0 (a ++ (b ++ [])) (a ++ b) refl refl (ap (λ t. a ++ t) (append-end b)) in
    way_ends old new f0 f2 [] (a ++ b) (way_goes old mid new f0 f1 f2 b [] (a ++ b) (way_goes old old mid f0 f0 f1 a (b ++ []) (a ++ b) begun first) second) refl
  where
    append-end : (b : List ℕ) → b ++ [] ≡ b
    append-end [] = refl
    append-end (x ∷ xs) = ap (λ t. x ∷ t) (append-end xs)

-- a piece that broke off, with what would have come behind it
pub broke_early : (old new : Option (List ℕ)) (f0 f1 : ℕ) (a b : List ℕ) → BrokeOff old new f0 f1 a → BrokeOff old new f0 f1 (a ++ b)
broke_early old new f0 f1 a b off =
    way_fails old old new f0 f0 f1 a b (a ++ b) (way_begins old old f0 f0 (a ++ b) (a ++ b) refl refl refl) off

-- a piece that broke off behind another
pub broke_late : (old mid new : Option (List ℕ)) (f0 f1 f2 : ℕ) (a b : List ℕ) → Wrote old mid f0 f1 a → BrokeOff mid new f1 f2 b → BrokeOff old new f0 f2 (a ++ b)
broke_late old mid new f0 f1 f2 a b first off =
    let begun = way_begins old old f0 f0 (a ++ (b ++ [])) (a ++ b) refl refl (ap (λ t. a ++ t) (append-end b)) in
    way_fails old mid new f0 f1 f2 b [] (a ++ b) (way_goes old old mid f0 f0 f1 a (b ++ []) (a ++ b) begun first) off
  where
    append-end : (b : List ℕ) → b ++ [] ≡ b
    append-end [] = refl
    append-end (x ∷ xs) = ap (λ t. x ∷ t) (append-end xs)

-- the last piece, by its answer
pub last_piece : {A : Type 0} (result : Result A Failed) (old mid new : Option (List ℕ)) (f0 f1 f2 : ℕ) (a b : List ℕ) → Wrote old mid f0 f1 a → Writes result mid new f1 f2 b → Writes result old new f0 f2 (a ++ b)
last_piece (Ok x) old mid new f0 f1 f2 a b first second = both old mid new f0 f1 f2 a b first second
last_piece (Err e) old mid new f0 f1 f2 a b first second = broke_late old mid new f0 f1 f2 a b first second

-- the same text in other words
pub as_text : {A : Type 0} (result : Result A Failed) (old new : Option (List ℕ)) (f0 f1 : ℕ) (a b : List ℕ) → a ≡ b → Writes result old new f0 f1 a → Writes result old new f0 f1 b
as_text result old new f0 f1 a b same w = subst (Writes result old new f0 f1) same w

-- a number behind a space has room
pub number_whole : (l0 l1 l2 : List ℕ) (n m : ℕ) → l0 ≡ [] → n < 2 ^ 32 → m ≡ n → IsPut l0 l1 (codes " ") → IsPut l1 l2 (decimal m) → l2 ≡ number n
number_whole l0 l1 l2 n m empty fits same space digits =
    let short : length (decimal n) ≤ 20 = length-decimal-le 20 n (omega arith) (omega (arith, fits)) (omega (arith, fits)) in
    let both = put_more [] l1 l2 (codes " ") (decimal n) (subst (λ l. IsPut l l1 (codes " ")) empty space) (subst (λ k. IsPut l1 l2 (decimal k)) same digits) in
    put_whole l2 (number n) both (omega (arith, length-append (codes " ") (decimal n), short))

-- the words that are left, where one is to be written
pub words_open : (count done m base : ℕ) (store : ℕ → ℕ) → count - done ≡ suc m
    → flat_map number (words_from (count - done) (base + done) store) ≡ number (store (base + done)) ++ flat_map number (words_from m (base + (done + 1)) store)
words_open count done m base store more =
    ap (λ n. flat_map number (words_from n (base + done) store)) more
    ∙ ap (λ at. number (store (base + done)) ++ flat_map number (words_from m at store)) (omega arith)

pub words_none : (count done base : ℕ) (store : ℕ → ℕ) → count - done ≡ 0 → flat_map number (words_from (count - done) (base + done) store) ≡ []
words_none count done base store none = ap (λ n. flat_map number (words_from n (base + done) store)) none

word_short : (w : Why) → length (why_word w) ≤ 11
word_short NotReached = lit≤ tt
word_short Kept = lit≤ tt
word_short Looked = lit≤ tt
word_short First = lit≤ tt
word_short Dropped = lit≤ tt
word_short Repeated = lit≤ tt

-- the line of a reason has room
pub why_whole : (l0 l1 l2 l3 l4 l5 word : List ℕ) (site m : ℕ) (w : Why) → l0 ≡ [] → site < 2 ^ 8 → m ≡ site → word ≡ why_word w
    → IsPut l0 l1 (codes "why ") → IsPut l1 l2 (decimal m) → IsPut l2 l3 (codes " ") → IsPut l3 l4 word → IsPut l4 l5 (codes "\n") → l5 ≡ why_line site w
why_whole l0 l1 l2 l3 l4 l5 word site m w empty fits same is a b c d e =
    let digits : length (decimal site) ≤ 20 = length-decimal-le 20 site (omega arith) (omega (arith, fits)) (omega (arith, fits)) in
    let one = subst (λ l. IsPut l l1 (codes "why ")) empty a in
    let two = put_more [] l1 l2 (codes "why ") (decimal site) one (subst (λ k. IsPut l1 l2 (decimal k)) same b) in
    let three = put_more [] l2 l3 (codes "why " ++ decimal site) (codes " ") two c in
    let four = put_more [] l3 l4 (codes "why " ++ decimal site ++ codes " ") (why_word w) three (subst (IsPut l3 l4) is d) in
    let five = put_more [] l4 l5 (codes "why " ++ decimal site ++ codes " " ++ why_word w) (codes "\n") four e in
    let size1 = length-append (codes "why ") (decimal site) in
    let size2 = length-append (codes "why " ++ decimal site) (codes " ") in
    let size3 = length-append (codes "why " ++ decimal site ++ codes " ") (why_word w) in
    let size4 = length-append (codes "why " ++ decimal site ++ codes " " ++ why_word w) (codes "\n") in
    put_whole l5 (codes "why " ++ decimal site ++ codes " " ++ why_word w ++ codes "\n") five (omega (arith, size1, size2, size3, size4, digits, word_short w))

-- the line of an end, in the words of a session
pub line_is : {A : Type 0} (result : Result A Failed) (old new : Option (List ℕ)) (f0 f1 : ℕ) (slice line text : List ℕ) → slice ≡ line → line ≡ text → Writes result old new f0 f1 slice → Writes result old new f0 f1 text
line_is result old new f0 f1 slice line text first second w = subst (Writes result old new f0 f1) (first ∙ second) w

no_versions : IsTrue (version_passes 1)
no_versions = refl

no_counts : first_too_large 0 0 0 0 0 ≡ None
no_counts = refl

no_words : first_bad_word [] ≡ None
unfolding first_bad_word
no_words = refl

no_banks : IsTrue (banks_pass Undo 0 0 0)
no_banks = refl

no_symbols : first_bad_symbol (span 0 0) 0 [] ≡ None
unfolding first_failing
no_symbols = refl

no_peripherals : first_bad_peripheral [] [] ≡ None
unfolding first_failing
no_peripherals = refl

no_marks : first_bad_mark 1 [] [] ≡ None
unfolding first_failing
no_marks = refl

-- an image of nothing, for lines that name no place
pub no_image : Image
no_image = record {
  version = 1;
  scheme = Undo;
  state = 0;
  stride = 0;
  keep = 0;
  keep_words = 0;
  code = [];
  fram = [];
  symbols = [];
  peripherals = [];
  marks = [];
  tested = record { versions = no_versions; counts = no_counts; words = no_words; banks = no_banks; symbols_pass = no_symbols; peripherals_pass = no_peripherals; marks_pass = no_marks };
}

-- the word of an address without a memory
no_word : (h : Held) (at : ℕ) → has_word at ≡ false → (core_of h).store at ≡ 0
unfolding core_of words has_word
no_word h at none = by (is_fram at) (is_ram at) none
  where
    by : (a b : Bool) → (a || b) ≡ false → (if a then slice_index h.memories.fram at else if b then slice_index h.memories.ram (at - 1048576) else 0) ≡ 0
    by true b e = cc
    by false true e = cc
    by false false e = refl

beyond : (at : ℕ) → (at < 4294967296 → ⊥) → has_word at ≡ false
unfolding has_word
beyond at far = grind (arith, nat_tests)

pub far_word : (h : Held) (at : ℕ) → (at < 4294967296 → ⊥) → 0 ≡ (core_of h).store at
far_word h at far = sym (no_word h at (beyond at far))

pub near_word : (h : Held) (at a r : ℕ) (o : Option ℕ) → a ≡ at → o ≡ (if has_word a then Some ((core_of h).store a) else None) → r ≡ unwrap_or o 0 → r ≡ (core_of h).store at
near_word h at a r o same is told = by (has_word a) refl ∙ ap (core_of h).store same
  where
    by : (b : Bool) → has_word a ≡ b → r ≡ (core_of h).store a
    by true e = told ∙ ap (λ (x : Option ℕ). unwrap_or x 0) (is ∙ ap (λ (c : Bool). if c then Some ((core_of h).store a) else None) e)
    by false e = told ∙ ap (λ (x : Option ℕ). unwrap_or x 0) (is ∙ ap (λ (c : Bool). if c then Some ((core_of h).store a) else None) e) ∙ sym (no_word h a e)

-- the word that is written
pub at_number : (store : ℕ → ℕ) (w base d done : ℕ) → w ≡ store (base + d) → d ≡ done → w ≡ store (base + done)
at_number store w base d done is same = is ∙ ap (λ n. store (base + n)) same

-- the same from any address on
pub words_at : (left m at : ℕ) (store : ℕ → ℕ) → left ≡ suc m → flat_map number (words_from left at store) ≡ number (store at) ++ flat_map number (words_from m (at + 1) store)
words_at left m at store more = ap (λ n. flat_map number (words_from n at store)) more
