-- The machine of an image holds words and reads words, and its places are those of symbols that are there.
use Rattle.std.specs.Prelude.{◌==◌, ◌-◌, ◌^◌, min, slice_get, slice_index, if◌then◌else◌}
use Rattle.std.specs.Option.{option_and_then, option_map}
use Rattle.std.proofs.Common.{◌≡◌, ℕ, zero, suc, ◌+◌, ◌<◌, ◌≤◌, Bool, true, false, All, List, [], ◌∷◌, length, Option, Some, None, refl, lit<, arith}
use Rattle.devices.specs.Journal.{Place, address, cell, keep}
use Rattle.devices.specs.Reading.{reading, values_in}
use Rattle.devices.specs.World.{AreWords, IsFeed, IsWithinLimits}
use Rattle.devices.specs.declared.world.Feed.{Feed}
use Rattle.devices.specs.declared.world.World.{World}
use Rattle.power_trace.specs.Report.{Style, place_in}
use Rattle.power_trace.specs.Run.{journal_on, program_in}
use Rattle.power_trace.specs.Short.{IsWord, IsWordPlace}
use Rattle.report_text.specs.Written.{IsJournal, IsThere}
use Rattle.word_isa.specs.Decoding.{decoded}
use Rattle.word_isa.specs.Entries.{other_bank, own, span}
use Rattle.word_isa.specs.Marks.{mark_at}
use Rattle.word_isa.specs.RowLaws.{decoded_row}
use Rattle.word_isa.specs.declared.image.Image.{Image}
use Rattle.word_isa.specs.declared.instr.Instr.{Instr}
use Rattle.word_isa.specs.declared.mark.Mark.{Mark}
use Rattle.word_isa.specs.declared.parts.Symbol.{Symbol}
use Rattle.word_isa.specs.declared.span.Span.{Span}
use Rattle.word_machine.specs.Places.{lies_in, place_from}
use Rattle.word_machine.specs.State.{sign_of, start}
use Rattle.journal_fits.specs.Words.{FitsOr, HaveWordSites, HoldsWords, ReadsWords, SignsWord}
use Rattle.journal_fits.proofs.Shown.{AreGoodPlaces}
use Rattle.journal_fits.proofs.Written.{each_of, journal_writes}

-- ---- what it reads

decoded_fits : (w : ℕ) (o : Option Instr) → decoded w ≡ o → FitsOr o
decoded_fits w None is = tt
decoded_fits w (Some i) is = (decoded_row w i is).0

instr_fits : (o : Option ℕ) → FitsOr (option_and_then decoded o)
instr_fits None = tt
instr_fits (Some w) = decoded_fits w (decoded w) refl

sign_fits : (marks : List Mark) (at : ℕ) → HaveWordSites marks → SignsWord (option_map sign_of (mark_at marks at))
unfolding mark_at
sign_fits [] at all = tt
sign_fits (m ∷ marks) at all = by (m.at == at) (sign_fits marks at all.1)
  where
    by : (b : Bool) → SignsWord (option_map sign_of (mark_at marks at)) → SignsWord (option_map sign_of (if b then Some m else mark_at marks at))
    by true rest = all.0
    by false rest = rest

index_word : (values : List ℕ) → AreWords values → (i : ℕ) → IsWord (slice_index values i)
index_word [] words i = lit< tt
index_word (x ∷ values) words zero = words 0 0 (omega arith)
index_word (x ∷ values) words (suc i) = index_word values (λ j d low. words (suc j) d (omega (arith, low))) i

values_fit : (feeds : List Feed) → All IsFeed feeds → (q : ℕ) → AreWords (values_in feeds q)
unfolding values_in
values_fit [] all q = λ k d low. absurd (omega (arith, low))
values_fit (feed ∷ feeds) all q = by (feed.number == q) (values_fit feeds (λ j d low. all (suc j) d (omega (arith, low))) q)
  where
    by : (b : Bool) → AreWords (values_in feeds q) → AreWords (if b then feed.values else values_in feeds q)
    by true rest = (all 0 feed (omega arith)).values
    by false rest = rest

reading_fits : (feeds : List Feed) → All IsFeed feeds → (q n : ℕ) → IsWord (reading (values_in feeds q) n)
unfolding reading
reading_fits feeds all q n = index_word (values_in feeds q) (values_fit feeds all q) (min n (length (values_in feeds q)) - 1)

program_reads : (i : Image) (feeds : List Feed) → HaveWordSites i.marks → All IsFeed feeds → ReadsWords (program_in i (values_in feeds))
program_reads i feeds sites all = record { instrs = λ at. instr_fits (slice_get i.code at); signs = λ at. sign_fits i.marks at sites; values = reading_fits feeds all }

-- ---- what it holds

start_holds : (fram : List ℕ) → AreWords fram → HoldsWords (start fram)
start_holds fram words = record { regs = λ r. lit< tt; store = index_word fram words; to = lit< tt; from = lit< tt; length = lit< tt; ending = tt }

-- ---- its places

-- a place's number is at most its address, and its symbol is one of so many
abbrev IsGood : (symbols : ℕ) → Place → Type 0
IsGood n (cell k i) = IsWord i × (k < n)
IsGood n keep = Unit {0}
IsGood n (address at) = IsWord at

chosen_good : (n : ℕ) (a b : Bool) (x y z : Place) → IsGood n x → IsGood n y → IsGood n z → IsGood n (if a then x else if b then y else z)
chosen_good n true b x y z first second third = first
chosen_good n false true x y z first second third = second
chosen_good n false false x y z first second third = third

bare_good : (n : ℕ) (b : Bool) (at : ℕ) → IsWord at → IsGood n (if b then keep else address at)
bare_good n true at fits = tt
bare_good n false at fits = fits

from_good : (symbols : List Symbol) (n all stride : ℕ) (kept : Span) (at : ℕ) → n + length symbols ≤ all → IsWord at → IsGood all (place_from n symbols stride kept at)
from_good [] n all stride kept at within fits = bare_good all (lies_in kept at) at fits
from_good (s ∷ symbols) n all stride kept at within fits =
    chosen_good all (lies_in (own s) at) (lies_in (other_bank stride s) at) (cell n (at - s.base)) (cell n (at - (other_bank stride s).from)) (place_from (suc n) symbols stride kept at)
    (omega (arith, fits), omega (arith, within)) (omega (arith, fits), omega (arith, within)) (from_good symbols (suc n) all stride kept at (omega (arith, within)) fits)

good_is : (style : Style) (x : Place) → IsGood (length style.symbols) x → IsWordPlace x × IsThere style x
good_is style (cell k i) h = h
good_is style keep h = (tt, tt)
good_is style (address at) h = (h, tt)

places_good : (style : Style) (i : Image) → length style.symbols ≡ length i.symbols → AreGoodPlaces style (place_in i)
places_good style i same at fits = good_is style (place_in i at) (from_good i.symbols 0 (length style.symbols) i.stride (span i.keep i.keep_words) at (omega (arith, same)) fits)

-- ---- its journal

pub image_writes : (style : Style) (i : Image) (world : World) → AreWords i.fram → HaveWordSites i.marks → IsWithinLimits world → length style.symbols ≡ length i.symbols
    → length (journal_on i world).boots + 1 < 2 ^ 32 → IsJournal style (journal_on i world)
image_writes style i world words sites limits same count =
    journal_writes style (place_in i) (program_in i (values_in world.feeds)) (places_good style i same) (program_reads i world.feeds sites limits.feeds) world.power (start i.fram)
    (each_of _ world.power limits.rows) limits.steps (start_holds i.fram words) count
