-- Reports of small images on power rows, worked out by hand.
use Rattle.std.specs.Prelude.{◌≡◌, ℕ, Bool, true, false, List, [], ◌∷◌, codes, refl}
use Rattle.std.specs.Fmt.{digits}
use Rattle.devices.specs.Reading.{reading, values_in}
use Rattle.devices.specs.declared.world.Feed.{Feed}
use Rattle.devices.specs.declared.world.PowerRow.{PowerRow}
use Rattle.ease_base.specs.declared.place.Peripheral.{Peripheral}
use Rattle.fram_ram.specs.Memories.{has_word}
use Rattle.power_trace.specs.Report.{report}
use Rattle.word_isa.specs.Decoding.{decoded}
use Rattle.word_isa.specs.Marks.{mark_at}
use Rattle.word_machine.specs.Events.{event_next, stepped_next}
use Rattle.word_machine.specs.Places.{place_of}
use Rattle.word_machine.specs.Runs.{numbered, steps_done, boots, total_steps, last_ending, journal}
use Rattle.word_machine.specs.State.{program_of, start}
use Rattle.word_machine.specs.Step.{step, exec, fail}

abbrev row : (on off : ℕ) → PowerRow
row on off = record { on = on; off = off; fill = 0 }

-- the report of an image without symbols, marks and kept words
abbrev bare_report : (code fram : List ℕ) → List Peripheral → List Feed → List PowerRow → (brief : Bool) → List ℕ
bare_report code fram peripherals feeds power brief =
    report (record { symbols = []; peripherals = peripherals; brief = brief }) (journal (place_of [] 0 0 0) (program_of code [] (values_in feeds)) power (start fram))

abbrev temp : Peripheral
temp = record { name = codes "temp"; number = 0 }

abbrev reads_9 : Feed
reads_9 = record { number = 0; values = 9 ∷ [] }

-- LDI r1 7, TIME r2, IO r3 r1 256, ST r3 r0 5, HALT: the power fails before the reading is stored
abbrev asks : List ℕ
asks = 0x02100007 ∷ 0x17200000 ∷ 0x16310100 ∷ 0x13300005 ∷ 0x01000000 ∷ []

asks_twice : bare_report asks [] (temp ∷ []) (reads_9 ∷ []) (row 3 10 ∷ row 10 0 ∷ []) false
    ≡ codes "0 boot 1\n2 look 0 1\n3 issue 0 temp 7 = 9\n3 boot 2\n5 look 0 14\n6 issue 0 temp 7 = 9\n8 end halted\n"
unfolding digits boots numbered total_steps steps_done last_ending exec step stepped_next event_next fail decoded mark_at values_in reading has_word
asks_twice = refl

asks_in_brief : bare_report asks [] (temp ∷ []) (reads_9 ∷ []) (row 3 10 ∷ row 10 0 ∷ []) true
    ≡ codes "boot 1\nlook 0\nissue 0 temp 7 = 9\nboot 2\nlook 0\nissue 0 temp 7 = 9\nend halted\n"
unfolding digits boots numbered total_steps steps_done last_ending exec step stepped_next event_next fail decoded mark_at values_in reading has_word
asks_in_brief = refl

-- LDI r1 10, LDI r2 8, LDI r3 3, DMA r1 r2 r3, HALT: a copy over itself
copies_up : bare_report (0x0210000a ∷ 0x02200008 ∷ 0x02300003 ∷ 0x18120003 ∷ 0x01000000 ∷ []) (0 ∷ 0 ∷ 0 ∷ 0 ∷ 0 ∷ 0 ∷ 0 ∷ 0 ∷ 1 ∷ 2 ∷ 3 ∷ []) [] [] (row 20 0 ∷ []) false
    ≡ codes "0 boot 1\n7 copy 0 @8 @10 3\n8 end halted\n"
unfolding digits boots numbered total_steps steps_done last_ending exec step stepped_next event_next fail decoded mark_at has_word
copies_up = refl

-- HALT alone, and with a row of no steps
halts : bare_report (0x01000000 ∷ []) [] [] [] (row 10 0 ∷ []) false ≡ codes "0 boot 1\n1 end halted\n"
unfolding digits boots numbered total_steps steps_done last_ending exec step stepped_next event_next fail decoded mark_at has_word
halts = refl

no_steps : bare_report (0x01000000 ∷ []) [] [] [] (row 0 0 ∷ []) false ≡ codes "0 boot 1\n0 end power\n"
unfolding digits boots numbered total_steps steps_done last_ending exec step stepped_next event_next fail decoded mark_at has_word
no_steps = refl

-- a halt with the row's last step ends the run, and no boot follows
halts_last : bare_report (0x01000000 ∷ []) [] [] [] (row 1 0 ∷ row 1 0 ∷ []) false ≡ codes "0 boot 1\n1 end halted\n"
unfolding digits boots numbered total_steps steps_done last_ending exec step stepped_next event_next fail decoded mark_at has_word
halts_last = refl

-- no power rows
no_power : bare_report (0x01000000 ∷ []) [] [] [] [] false ≡ codes "0 end power\n"
unfolding digits boots total_steps last_ending
no_power = refl

-- no code
no_code : bare_report [] [] [] [] (row 5 0 ∷ []) false ≡ codes "0 boot 1\n1 trap 17\n1 end trapped 17\n"
unfolding digits boots numbered total_steps steps_done last_ending exec step stepped_next event_next fail decoded mark_at has_word
no_code = refl

-- JMP 0
goes_round : bare_report (0x14000000 ∷ []) [] [] [] (row 5 0 ∷ []) false ≡ codes "0 boot 1\n5 end power\n"
unfolding digits boots numbered total_steps steps_done last_ending exec step stepped_next event_next fail decoded mark_at has_word
goes_round = refl

-- LUI r1 1, LD r2 r1 0: an address without memory
loads_nothing : bare_report (0x03100001 ∷ 0x12210000 ∷ []) [] [] [] (row 5 0 ∷ []) false ≡ codes "0 boot 1\n2 trap 16\n2 end trapped 16\n"
unfolding digits boots numbered total_steps steps_done last_ending exec step stepped_next event_next fail decoded mark_at has_word
loads_nothing = refl

-- LUI r1 1, LDI r2 1, DMA r0 r1 r2: a copy from where no memory is
copies_nothing : bare_report (0x03100001 ∷ 0x02200001 ∷ 0x18010002 ∷ []) [] [] [] (row 9 0 ∷ []) false ≡ codes "0 boot 1\n4 trap 16\n4 end trapped 16\n"
unfolding digits boots numbered total_steps steps_done last_ending exec step stepped_next event_next fail decoded mark_at has_word
copies_nothing = refl
