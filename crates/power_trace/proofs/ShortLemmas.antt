-- Bounds on the parts of a line, and on the whole.
use Rattle.std.specs.Prelude.{◌==◌, ◌-◌, codes, decimal, if◌then◌else◌}
use Rattle.std.specs.List.{flat_map}
use Rattle.std.proofs.Common.{ℕ, zero, suc, ◌+◌, ◌*◌, ◌^◌, ◌<◌, ◌≤◌, Bool, true, false, All, List, [], ◌∷◌, ◌++◌, length, take, get_or, subst, sym, lit≤, length-append, arith}
use Rattle.std.proofs.lemmas.Fmt.{length-decimal-le}
use Rattle.devices.specs.Journal.{Place, cell, keep, address, JournalEvent, begins, looks, keeps, drops, issues, seals, copies, commits, traps}
use Rattle.devices.specs.declared.event.RunEnd.{RunEnd}
use Rattle.devices.specs.declared.event.RunEnd.TheVariants.{Halted, Trapped, Power}
use Rattle.ease_base.specs.declared.place.Peripheral.{Peripheral}
use Rattle.power_trace.specs.Report.{Style, number, peripheral_name, symbol_name, place_text, event_text, end_text, line}
use Rattle.power_trace.specs.Short.{IsWord, IsWordPlace, HasWords, IsWordEnd, AreShort}
use Rattle.devices.specs.Journal.{arguments_of}
use Rattle.devices.specs.declared.event.Args.{Args}
use Rattle.std.proofs.lemmas.List.{get_or-take, length-take}
use Rattle.word_isa.specs.Entries.{own, other_bank}
use Rattle.word_isa.specs.declared.parts.Symbol.{Symbol}
use Rattle.word_isa.specs.declared.span.Span.{Span}
use Rattle.word_machine.specs.Places.{lies_in, place_from}

-- two texts, one after the other
both : (a b : List ℕ) (m n : ℕ) → length a ≤ m → length b ≤ n → length (a ++ b) ≤ m + n
both a b m n first second = omega (arith, length-append a b, first, second)

digits_short : (n : ℕ) → IsWord n → length (decimal n) ≤ 10
digits_short n fits = length-decimal-le 10 n (omega arith) (omega (arith, fits)) (omega (arith, fits))

number_short : (n : ℕ) → IsWord n → length (number n) ≤ 11
number_short n fits = both (codes " ") (decimal n) 1 10 (lit≤ tt) (digits_short n fits)

-- the parts of a list in which each part is short
numbers_short : (xs : List ℕ) (n : ℕ) → length xs ≤ n → All IsWord xs → length (flat_map number xs) ≤ 11 * n
numbers_short [] n few fits = omega arith
numbers_short (x ∷ xs) zero few fits = absurd (omega (arith, few))
numbers_short (x ∷ xs) (suc n) few fits =
    omega (arith, both (number x) (flat_map number xs) 11 (11 * n) (number_short x (fits 0 0 (omega arith))) (numbers_short xs n (omega (arith, few)) (λ k d h. fits (suc k) d (omega arith))))

either_short : (b : Bool) (x y : List ℕ) (n : ℕ) → length x ≤ n → length y ≤ n → length (if b then x else y) ≤ n
either_short true x y n first second = first
either_short false x y n first second = second

peripheral_short : (ps : List Peripheral) (n : ℕ) → IsWord n → All (λ (p : Peripheral). length p.name ≤ 32) ps → length (peripheral_name ps n) ≤ 32
peripheral_short [] n fits short = omega (arith, both (codes "#") (decimal n) 1 10 (lit≤ tt) (digits_short n fits))
peripheral_short (p ∷ ps) n fits short =
    either_short (p.number == n) p.name (peripheral_name ps n) 32 (short 0 p (omega arith)) (peripheral_short ps n fits (λ k d h. short (suc k) d (omega arith)))

symbol_short : (symbols : List Symbol) (k : ℕ) → All (λ (s : Symbol). length s.name ≤ 32) symbols → length (symbol_name symbols k) ≤ 32
symbol_short [] k short = lit≤ tt
symbol_short (s ∷ symbols) zero short = short 0 s (omega arith)
symbol_short (s ∷ symbols) (suc k) short = symbol_short symbols k (λ i d h. short (suc i) d (omega arith))

place_short : (symbols : List Symbol) (place : Place) → IsWordPlace place → All (λ (s : Symbol). length s.name ≤ 32) symbols → length (place_text symbols place) ≤ 44
place_short symbols (cell k i) fits short =
    both (symbol_name symbols k ++ codes "[" ++ decimal i) (codes "]") 43 1
    (both (symbol_name symbols k ++ codes "[") (decimal i) 33 10 (both (symbol_name symbols k) (codes "[") 32 1 (symbol_short symbols k short) (lit≤ tt)) (digits_short i fits))
    (lit≤ tt)
place_short symbols keep fits short = lit≤ tt
place_short symbols (address at) fits short = omega (arith, both (codes "@") (decimal at) 1 10 (lit≤ tt) (digits_short at fits))

-- a word of at most six bytes and a number
named_short : (word : List ℕ) (n : ℕ) → length word ≤ 6 → IsWord n → length (word ++ number n) ≤ 17
named_short word n small fits = both word (number n) 6 11 small (number_short n fits)

-- an event
pub event_short : (style : Style) (e : JournalEvent) → AreShort style → HasWords e → length (event_text style e) ≤ 120
event_short style (begins task) short fits = omega (arith, named_short (codes "begin") task (lit≤ tt) fits)
event_short style (looks site time) short fits =
    let plain = named_short (codes "look") site (lit≤ tt) fits.0 in
    let timed = both (codes "look" ++ number site) (number time) 17 11 plain (number_short time fits.1) in
    either_short style.brief (codes "look" ++ number site) (codes "look" ++ number site ++ number time) 120 (omega (arith, plain)) (omega (arith, timed))
event_short style (keeps site value) short fits =
    omega (arith, both (codes "kept" ++ number site) (number value) 17 11 (named_short (codes "kept") site (lit≤ tt) fits.0) (number_short value fits.1))
event_short style (drops site) short fits = omega (arith, named_short (codes "drop") site (lit≤ tt) fits)
event_short style (issues site peripheral arguments reading) short fits =
    let name = peripheral_name style.peripherals peripheral in
    let one = both (codes "issue" ++ number site) (codes " ") 17 1 (named_short (codes "issue") site (lit≤ tt) fits.0) (lit≤ tt) in
    let two = both (codes "issue" ++ number site ++ codes " ") name 18 32 one (peripheral_short style.peripherals peripheral fits.1 short.peripherals) in
    let three = both (codes "issue" ++ number site ++ codes " " ++ name) (flat_map number arguments) 50 44 two (numbers_short arguments 4 fits.2 fits.3) in
    let four = both (codes "issue" ++ number site ++ codes " " ++ name ++ flat_map number arguments) (codes " =") 94 2 three (lit≤ tt) in
    omega (arith, both (codes "issue" ++ number site ++ codes " " ++ name ++ flat_map number arguments ++ codes " =") (number reading) 96 11 four (number_short reading fits.4))
event_short style (seals site) short fits = omega (arith, named_short (codes "seal") site (lit≤ tt) fits)
event_short style (copies site from to words) short fits =
    let a = place_text style.symbols from in
    let b = place_text style.symbols to in
    let one = both (codes "copy" ++ number site) (codes " ") 17 1 (named_short (codes "copy") site (lit≤ tt) fits.0) (lit≤ tt) in
    let two = both (codes "copy" ++ number site ++ codes " ") a 18 44 one (place_short style.symbols from fits.1 short.symbols) in
    let three = both (codes "copy" ++ number site ++ codes " " ++ a) (codes " ") 62 1 two (lit≤ tt) in
    let four = both (codes "copy" ++ number site ++ codes " " ++ a ++ codes " ") b 63 44 three (place_short style.symbols to fits.2 short.symbols) in
    omega (arith, both (codes "copy" ++ number site ++ codes " " ++ a ++ codes " " ++ b) (number words) 107 11 four (number_short words fits.3))
event_short style (commits next) short fits = omega (arith, named_short (codes "commit") next (lit≤ tt) fits)
event_short style (traps code) short fits = omega (arith, named_short (codes "trap") code (lit≤ tt) fits)

-- a line of a short text
pub line_short : (style : Style) (steps : ℕ) (text : List ℕ) → IsWord steps → length text ≤ 120 → length (line style steps text) ≤ 256
line_short style steps text fits small =
    let head = either_short style.brief [] (decimal steps ++ codes " ") 11 (lit≤ tt) (both (decimal steps) (codes " ") 10 1 (digits_short steps fits) (lit≤ tt)) in
    let front = both (if style.brief then [] else decimal steps ++ codes " ") text 11 120 head small in
    omega (arith, both ((if style.brief then [] else decimal steps ++ codes " ") ++ text) (10 ∷ []) 131 1 front (lit≤ tt))

-- a boot's line; its number has at most 20 digits
pub boot_line_short : (style : Style) (steps k : ℕ) → IsWord steps → k < 2 ^ 64 → length (line style steps (codes "boot" ++ number k)) ≤ 256
boot_line_short style steps k fits small =
    let digits : length (decimal k) ≤ 20 = length-decimal-le 20 k (omega arith) (omega (arith, small)) (omega (arith, small)) in
    let named : length (codes "boot" ++ number k) ≤ 25 = both (codes "boot") (number k) 4 21 (lit≤ tt) (both (codes " ") (decimal k) 1 20 (lit≤ tt) digits) in
    line_short style steps (codes "boot" ++ number k) fits (omega (arith, named))

end_short : (end : RunEnd) → IsWordEnd end → length (end_text end) ≤ 120
end_short Halted fits = lit≤ tt
end_short (Trapped code) fits = omega (arith, both (codes "end trapped") (number code) 11 11 (lit≤ tt) (number_short code fits))
end_short Power fits = lit≤ tt

-- an end's line
pub end_line_short : (style : Style) (steps : ℕ) (end : RunEnd) → IsWord steps → IsWordEnd end → length (line style steps (end_text end)) ≤ 256
end_line_short style steps end fits words = line_short style steps (end_text end) fits (end_short end words)

-- a trap's line
pub trap_line_short : (style : Style) (steps code : ℕ) → IsWord steps → IsWord code → length (line style steps (codes "trap" ++ number code)) ≤ 256
trap_line_short style steps code fits word = line_short style steps (codes "trap" ++ number code) fits (omega (arith, named_short (codes "trap") code (lit≤ tt) word))

pub event_line_short : (style : Style) (steps : ℕ) (e : JournalEvent) → AreShort style → IsWord steps → HasWords e → length (line style steps (event_text style e)) ≤ 256
event_line_short style steps e short fits words = line_short style steps (event_text style e) fits (event_short style e short words)

-- a place's number is at most its address
chosen_words : (a b : Bool) (x y z : Place) → IsWordPlace x → IsWordPlace y → IsWordPlace z → IsWordPlace (if a then x else if b then y else z)
chosen_words true b x y z first second third = first
chosen_words false true x y z first second third = second
chosen_words false false x y z first second third = third

bare_words : (b : Bool) (at : ℕ) → IsWord at → IsWordPlace (if b then keep else address at)
bare_words true at fits = tt
bare_words false at fits = fits

pub place_words : (symbols : List Symbol) (n stride : ℕ) (kept : Span) (at : ℕ) → IsWord at → IsWordPlace (place_from n symbols stride kept at)
place_words [] n stride kept at fits = bare_words (lies_in kept at) at fits
place_words (s ∷ symbols) n stride kept at fits =
    chosen_words (lies_in (own s) at) (lies_in (other_bank stride s) at) (cell n (at - s.base)) (cell n (at - (other_bank stride s).from)) (place_from (suc n) symbols stride kept at)
    (omega (arith, fits)) (omega (arith, fits)) (place_words symbols (suc n) stride kept at fits)

four_words : (count a b c d : ℕ) → IsWord a → IsWord b → IsWord c → IsWord d → All IsWord (take count (a ∷ b ∷ c ∷ d ∷ []))
four_words count a b c d first second third fourth k e within =
    let few : length (take count (a ∷ b ∷ c ∷ d ∷ [])) ≤ 4 = omega (arith, length-take count (a ∷ b ∷ c ∷ d ∷ [])) in
    let inside : k < count = omega (arith, length-take count (a ∷ b ∷ c ∷ d ∷ []), within) in
    subst IsWord (sym (get_or-take count (a ∷ b ∷ c ∷ d ∷ []) k e inside)) (all k (omega (arith, within, few)))
  where
    all : (k : ℕ) → k < 4 → IsWord (get_or (a ∷ b ∷ c ∷ d ∷ []) k e)
    all zero h = first
    all (suc zero) h = second
    all (suc (suc zero)) h = third
    all (suc (suc (suc zero))) h = fourth
    all (suc (suc (suc (suc k)))) h = absurd (omega arith)

-- the arguments of an issue are words, and at most four
pub args_words : (args : Args) → IsWord args.a0 → IsWord args.a1 → IsWord args.a2 → IsWord args.a3 → (length (arguments_of args) ≤ 4) × All IsWord (arguments_of args)
args_words args a b c d =
    (omega (arith, length-take args.count (args.a0 ∷ args.a1 ∷ args.a2 ∷ args.a3 ∷ [])), four_words args.count args.a0 args.a1 args.a2 args.a3 a b c d)
