-- Parts of images that pass or fail their tests, by hand.
use Rattle.std.specs.Prelude.{◌≡◌, ℕ, List, [], ◌∷◌, Some, None, true, false, codes, refl}
use Rattle.op_table.specs.Places.{place_of}
use Rattle.op_table.specs.Reserved.{reserved_words}
use Rattle.task_ast.specs.declared.tree.Kind.TheVariants.{Nv}
use Rattle.word_isa.specs.Checks.{first_too_large, first_bad_word, banks_pass}
use Rattle.word_isa.specs.Decoding.{decoded}
use Rattle.word_isa.specs.Entries.{span, meet, symbol_passes, first_bad_symbol}
use Rattle.word_isa.specs.FirstFailing.{first_failing}
use Rattle.word_isa.specs.Marks.{mark_passes, first_bad_mark}
use Rattle.word_isa.specs.Names.{is_name_token, is_reserved, is_symbol_name}
use Rattle.word_isa.specs.declared.mark.Mark.{Mark}
use Rattle.word_isa.specs.declared.mark.MarkKind.{MarkKind}
use Rattle.word_isa.specs.declared.mark.MarkKind.TheVariants.{Begin, Look}
use Rattle.word_isa.specs.declared.parts.Scheme.TheVariants.{Undo, Bank}
use Rattle.word_isa.specs.declared.parts.Symbol.{Symbol}

-- of two counts past their limits the first in the file is told
two_counts : first_too_large 1 70000 300 0 0 ≡ Some 70000
two_counts = refl

-- the word 0 has no row
third_word : first_bad_word (0x01000000 ∷ 0x02100007 ∷ 0 ∷ 0 ∷ []) ≡ Some 2
unfolding first_bad_word decoded
third_word = refl

-- kept words may end with the FRAM, and scheme 0 has no stride
kept_to_the_end : banks_pass Bank 8 65535 1 ≡ true
kept_to_the_end = refl

kept_past_the_end : banks_pass Bank 8 65535 2 ≡ false
kept_past_the_end = refl

stride_without_banks : banks_pass Undo 8 0 0 ≡ false
stride_without_banks = refl

-- ranges that touch don't meet, and a range of no words meets nothing
touching : meet (span 3 2) (span 5 1) ≡ false
touching = refl

sharing : meet (span 3 3) (span 5 1) ≡ true
sharing = refl

empty : meet (span 3 3) (span 4 0) ≡ false
empty = refl

-- a symbol of so many words from an address on
abbrev nonvolatile : List ℕ → ℕ → ℕ → Symbol
nonvolatile name base length = record { name = name; kind = Nv; base = base; length = length }

-- two nonvolatile words side by side, which the second bank of the first lets meet with a stride of 1
side_by_side : first_bad_symbol (span 0 0) 0 (nonvolatile (codes "a") 0 1 ∷ nonvolatile (codes "b") 1 1 ∷ []) ≡ None
unfolding first_failing symbol_passes is_symbol_name is_name_token is_reserved place_of reserved_words
side_by_side = refl

second_bank_meets : first_bad_symbol (span 0 0) 1 (nonvolatile (codes "a") 0 1 ∷ nonvolatile (codes "b") 1 1 ∷ []) ≡ Some 1
unfolding first_failing symbol_passes is_symbol_name is_name_token is_reserved place_of reserved_words
second_bank_meets = refl

-- marks of version 1, and of task 3 in version 2
abbrev mark : ℕ → MarkKind → ℕ → Mark
mark at kind site = record { at = at; kind = kind; site = site; task = 0 }

abbrev mark_of_3 : ℕ → MarkKind → ℕ → Mark
mark_of_3 at kind site = record { at = at; kind = kind; site = site; task = 3 }

-- LDI and TIME, with a begin and a look
begin_and_look : first_bad_mark 1 (0x02100007 ∷ 0x17200000 ∷ []) (mark 0 Begin 1 ∷ mark 1 Look 255 ∷ []) ≡ None
unfolding first_failing mark_passes decoded
begin_and_look = refl

-- two marks at one address, and a look at an LDI
same_address : first_bad_mark 1 (0x02100007 ∷ 0x17200000 ∷ []) (mark 0 Begin 1 ∷ mark 0 Begin 1 ∷ []) ≡ Some 1
unfolding first_failing mark_passes decoded
same_address = refl

look_at_load : first_bad_mark 1 (0x02100007 ∷ 0x17200000 ∷ []) (mark 0 Look 1 ∷ []) ≡ Some 0
unfolding first_failing mark_passes decoded
look_at_load = refl

-- the begin of a task names it, and a site is at most 128
begin_of_3 : first_bad_mark 2 (0x02100007 ∷ 0x17200000 ∷ []) (mark_of_3 0 Begin 3 ∷ mark_of_3 1 Look 128 ∷ []) ≡ None
unfolding first_failing mark_passes decoded
begin_of_3 = refl

begin_of_another : first_bad_mark 2 (0x02100007 ∷ 0x17200000 ∷ []) (mark_of_3 0 Begin 2 ∷ []) ≡ Some 0
unfolding first_failing mark_passes decoded
begin_of_another = refl

site_129 : first_bad_mark 2 (0x02100007 ∷ 0x17200000 ∷ []) (mark_of_3 0 Begin 3 ∷ mark_of_3 1 Look 129 ∷ []) ≡ Some 1
unfolding first_failing mark_passes decoded
site_129 = refl

-- version 1 names no task, and version 2 does
task_in_version_1 : first_bad_mark 1 (0x02100007 ∷ []) (mark_of_3 0 Begin 3 ∷ []) ≡ Some 0
unfolding first_failing mark_passes decoded
task_in_version_1 = refl

no_task_in_version_2 : first_bad_mark 2 (0x02100007 ∷ []) (mark 0 Begin 1 ∷ []) ≡ Some 0
unfolding first_failing mark_passes decoded
no_task_in_version_2 = refl
