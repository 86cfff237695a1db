-- Small programs run by the definition; what they show was worked out by hand.
use Rattle.std.specs.Prelude.{◌≡◌, ℕ, List, [], ◌∷◌, refl}
use Rattle.devices.specs.Journal.{Place, address, looks, issues, copies, traps}
use Rattle.devices.specs.Reading.{reading, values_in}
use Rattle.devices.specs.declared.event.RunEnd.TheVariants.{Halted, Trapped}
use Rattle.devices.specs.declared.world.Feed.{Feed}
use Rattle.devices.specs.declared.world.PowerRow.{PowerRow}
use Rattle.fram_ram.specs.Memories.{has_word}
use Rattle.word_isa.specs.Decoding.{decoded}
use Rattle.word_isa.specs.Marks.{mark_at}
use Rattle.word_machine.specs.Events.{event_next, stepped_next}
use Rattle.word_machine.specs.Places.{place_of, words_from}
use Rattle.word_machine.specs.Runs.{powered, numbered, steps_done, boots, total_steps, last_ending, journal}
use Rattle.word_machine.specs.State.{Program, State, program_of, start}
use Rattle.word_machine.specs.Step.{step, exec, fail}

-- programs without symbols, marks and kept words
abbrev bare_place : ℕ → Place
bare_place = place_of [] 0 0 0

abbrev bare : (code : List ℕ) → List Feed → Program
bare code feeds = program_of code [] (values_in feeds)

abbrev row : (on off : ℕ) → PowerRow
row on off = record { on = on; off = off; fill = 0 }

-- LDI r1 7, TIME r2, IO r3 r1 256, ST r3 r0 5, HALT
asks : Program
asks = bare (0x02100007 ∷ 0x17200000 ∷ 0x16310100 ∷ 0x13300005 ∷ 0x01000000 ∷ []) (record { number = 0; values = 9 ∷ [] } ∷ [])

-- the power fails before the reading is stored; the second boot asks again, and sees a clock that went on
asks_twice : journal bare_place asks (row 3 10 ∷ row 10 0 ∷ []) (start []) ≡ record {
  boots =
      record { begun_at = 0; events = (2, looks 0 1) ∷ (3, issues 0 0 (7 ∷ []) 9) ∷ [] }
      ∷ record { begun_at = 3; events = (5, looks 0 14) ∷ (6, issues 0 0 (7 ∷ []) 9) ∷ [] } ∷ [];
  steps = 8;
  ending = Halted;
}
unfolding asks boots numbered total_steps steps_done last_ending exec step stepped_next event_next fail decoded mark_at values_in reading has_word
asks_twice = refl

-- the reading is stored at the fourth step of the second boot
stored : (powered asks (row 3 10 ∷ row 10 0 ∷ []) 7 (start [])).store 5 ≡ 9
unfolding asks powered exec step fail decoded mark_at values_in reading has_word
stored = refl

-- LDI r1 10, LDI r2 8, LDI r3 3, DMA r1 r2 r3, HALT
copies_up : Program
copies_up = bare (0x0210000a ∷ 0x02200008 ∷ 0x02300003 ∷ 0x18120003 ∷ 0x01000000 ∷ []) []

-- three words from 8 on go to 10 on; the third read is the first written
before_copy : State
before_copy = start (0 ∷ 0 ∷ 0 ∷ 0 ∷ 0 ∷ 0 ∷ 0 ∷ 0 ∷ 1 ∷ 2 ∷ 3 ∷ [])

copy_shown : journal bare_place copies_up (row 20 0 ∷ []) before_copy ≡ record {
  boots = record { begun_at = 0; events = (7, copies 0 (address 8) (address 10) 3) ∷ [] } ∷ [];
  steps = 8;
  ending = Halted;
}
unfolding copies_up before_copy boots numbered total_steps steps_done last_ending exec step stepped_next event_next fail decoded mark_at has_word
copy_shown = refl

copy_smears : words_from 3 10 (exec copies_up 20 before_copy).store ≡ 1 ∷ 2 ∷ 1 ∷ []
unfolding copies_up before_copy exec step decoded mark_at has_word
copy_smears = refl

-- LDI r1 65535, LDI r2 0, LDI r3 3, DMA r1 r2 r3
leaves_fram : Program
leaves_fram = bare (0x0210ffff ∷ 0x02200000 ∷ 0x02300003 ∷ 0x18120003 ∷ []) []

-- the first word is moved, and the second has no place: trap 16 in its step, and the transfer has no event
trapped_copy : journal bare_place leaves_fram (row 20 0 ∷ []) (start (5 ∷ 6 ∷ 7 ∷ [])) ≡ record {
  boots = record { begun_at = 0; events = (6, traps 16) ∷ [] } ∷ [];
  steps = 6;
  ending = Trapped 16;
}
unfolding leaves_fram boots numbered total_steps steps_done last_ending exec step stepped_next event_next fail decoded mark_at has_word
trapped_copy = refl

first_word_moved : (exec leaves_fram 20 (start (5 ∷ 6 ∷ 7 ∷ []))).store 65535 ≡ 5
unfolding leaves_fram exec step decoded mark_at has_word
first_word_moved = refl

-- LDI r1 7 alone: the second step finds no instruction, and the counter stays
runs_out : Program
runs_out = bare (0x02100007 ∷ []) []

past_the_code : journal bare_place runs_out (row 20 0 ∷ row 20 0 ∷ []) (start []) ≡ record {
  boots = record { begun_at = 0; events = (2, traps 17) ∷ [] } ∷ [];
  steps = 2;
  ending = Trapped 17;
}
unfolding runs_out boots numbered total_steps steps_done last_ending exec step stepped_next event_next fail decoded mark_at has_word
past_the_code = refl

counter_stays : (exec runs_out 20 (start [])).pc ≡ 1
unfolding runs_out exec step decoded mark_at has_word
counter_stays = refl
