-- How modes, records, classes and the state stand in words.
use Rattle.std.specs.Prelude.{◌≡◌, ℕ, ◌+◌, ◌*◌, ◌/◌, ◌%◌, ◌^◌, ◌<◌, ◌≤◌, ◌==◌, Bool, true, false, nat_lt, Option, Some, None, if◌then◌else◌}
use Rattle.devices.specs.declared.event.Args.{Args}
use Rattle.task_ast.specs.declared.tree.Ann.{Ann}
use Rattle.task_ast.specs.declared.tree.Ann.TheVariants.{Single, Timely, Always}
use Rattle.io_annot.specs.declared.choice.Mode.{Mode}
use Rattle.io_annot.specs.declared.choice.Mode.TheVariants.{Own, Keep, Force}
use Rattle.io_annot.specs.declared.choice.Choice.{Choice}
use Rattle.io_annot.specs.declared.choice.Choice.TheVariants as chosen
use Rattle.word_machine.specs.Straight.{Spot}
use Rattle.word_code.specs.Frames.{flag_at, stamp_at, value_at}
use Rattle.act_laws.specs.Codes.{Fixed}

-- a mode as the mode's cell has it
abbrev pub mode_word : Mode → ℕ
mode_word Own = 0
mode_word Keep = 1
mode_word Force = 2

-- the record of a site, as its cells say
abbrev pub stamp_in : Bool → ℕ → Option ℕ
stamp_in true stamp = Some stamp
stamp_in false stamp = None

abbrev pub record_in : Bool → (value stamp : ℕ) → Option (ℕ × ℕ)
record_in true value stamp = Some (value, stamp)
record_in false value stamp = None

abbrev pub is_kept : Choice → Bool
is_kept (chosen.Keep value) = true
is_kept chosen.Issue = false

-- the limit of an annotation is a word
abbrev pub FitsLimit : Ann → Type 0
FitsLimit (Timely limit) = limit < 2 ^ 32
FitsLimit Single = Unit {0}
FitsLimit Always = Unit {0}

-- what a block's or a site's table finds: the mode around it, its record, and a time that is no earlier than the stamp of a record
pub record Around (x : Fixed) (ann : Ann) (k : ℕ) (s : Spot) (m : Mode) (has : Bool) : Type 0 where
  pub site : k ≤ 128
  pub mode : s.store 1048615 ≡ mode_word m
  pub recorded : (s.store (flag_at k) == x.epoch) ≡ has
  pub earlier : has ≡ true → s.store (stamp_at k) ≤ s.store 1048613
  pub fits : s.store 1048613 < 2 ^ 32
  pub limit : FitsLimit ann

-- whether a mode is Keep
abbrev pub is_keep : Mode → Bool
is_keep Own = false
is_keep Keep = true
is_keep Force = false

-- a copy's class by its ends
abbrev pub class_of : (single private : Bool) → ℕ
class_of true private = 1
class_of false true = 2
class_of false false = 0

-- the class that counts: the record's where a copy keeps, else its own
abbrev pub class_in : Bool → (k : ℕ) → (ℕ → ℕ) → ℕ
class_in true k memory = memory (value_at k)
class_in false k memory = memory 1048621

-- the fixed registers by the state word: the lowest bit is the committed bank, and the epoch begins at bit 8
abbrev pub fixed_of : (stride state : ℕ) → Fixed
fixed_of stride state = record {
  committed = state % 2 * stride % 2 ^ 32;
  epoch = state / 2 ^ 8;
  working = (if state % 2 == 0 then 1 else 0) * stride % 2 ^ 32;
}

-- the state word of an epoch, a task and a bank
abbrev pub state_word : (epoch task bank : ℕ) → ℕ
state_word epoch task bank = epoch * 256 + 2 * task + bank

-- the arguments in a call's cells
abbrev pub cell_args : (count : ℕ) → (ℕ → ℕ) → Args
cell_args n memory = record {
  count = n;
  a0 = if nat_lt 0 n then memory 1048609 else 0;
  a1 = if nat_lt 1 n then memory 1048610 else 0;
  a2 = if nat_lt 2 n then memory 1048611 else 0;
  a3 = if nat_lt 3 n then memory 1048612 else 0;
}
