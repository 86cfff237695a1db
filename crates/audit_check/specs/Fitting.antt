-- How many lines of a journal fit, line by line.
use Rattle.std.specs.Prelude.{ℕ, ◌+◌, ◌-◌, min, Bool, true, false, ◌&&◌, not, ◌==◌, nat_lt, nat_le, if◌then◌else◌, List, [], ◌∷◌}
use Rattle.devices.specs.declared.world.PowerRow.{PowerRow}
use Rattle.audit_check.specs.declared.journal.ReportEvent.{ReportEvent}
use Rattle.audit_check.specs.declared.journal.ReportEvent.TheVariants as event
use Rattle.audit_check.specs.declared.journal.TimedEvent.{TimedEvent}
use Rattle.audit_check.specs.declared.journal.ReportBoot.{ReportBoot}

-- a sum that stays at the greatest number
abbrev pub capped : ℕ → ℕ
capped n = min n 18446744073709551615

-- whether an event is a trap
abbrev pub traps_here : ReportEvent → Bool
traps_here (event.Trap code) = true
traps_here _ = false

-- a look at this step shows so many steps before it and so many ticks without power; no other event shows a time
abbrev pub shows_clock : (step off : ℕ) → ReportEvent → Bool
shows_clock step off (event.Look site time) = time == capped (step - 1 + off)
shows_clock step off _ = true

-- What the next event is tested against: the last step so far, the last there is, the ticks without power, and whether a
-- trap came or an event that doesn't fit; and the lines that fit so far.
pub record Pace : Type 0 where
  pub done : ℕ
  pub last : ℕ
  pub off : ℕ
  pub over : Bool
  pub lines : ℕ

-- whether an event fits
abbrev pub fits_here : Pace → TimedEvent → Bool
fits_here p e = not p.over && (nat_lt p.done e.step && (nat_le e.step p.last && shows_clock e.step p.off e.event))

-- behind an event that fits
abbrev pub paced_by : Pace → TimedEvent → Pace
paced_by p e = record p { done = e.step; over = traps_here e.event; lines = capped (p.lines + 1) }

-- behind an event: behind one that doesn't fit none does
abbrev pub stepped : Pace → TimedEvent → Pace
stepped p e = if fits_here p e then paced_by p e else record p { over = true }

-- behind events
abbrev pub passed : Pace → List TimedEvent → Pace
passed p [] = p
passed p (e ∷ es) = passed (stepped p e) es

-- What the next boot is tested against: the rows that are left, the steps and the ticks without power before them, whether
-- a trap came or something that didn't fit; and the lines that fit so far.
pub record Power : Type 0 where
  pub rows : List PowerRow
  pub done : ℕ
  pub off : ℕ
  pub over : Bool
  pub lines : ℕ

-- whether a boot begins where the rows before end
abbrev pub begins_here : Power → ReportBoot → Bool
begins_here p b = not p.over && b.begun_at == p.done

-- what the first event of a boot in a row is tested against
abbrev pub pace_in : Power → PowerRow → Pace
pace_in p row = record { done = p.done; last = capped (p.done + row.on); off = p.off; over = false; lines = capped (p.lines + 1) }

-- behind a boot that begins so
abbrev pub behind_row : Power → PowerRow → List PowerRow → Pace → Power
behind_row p row rows q = record { rows = rows; done = q.last; off = capped (p.off + row.off); over = q.over; lines = q.lines }

-- behind a boot: behind one that doesn't begin well none does
abbrev pub booted_in : Power → List PowerRow → ReportBoot → Power
booted_in p [] b = record p { over = true }
booted_in p (row ∷ rows) b = if begins_here p b then behind_row p row rows (passed (pace_in p row) b.events) else record p { over = true }

-- behind boots
abbrev pub all_booted : Power → List ReportBoot → Power
all_booted p [] = p
all_booted p (b ∷ bs) = all_booted (booted_in p p.rows b) bs

-- before the first boot
abbrev pub powered : List PowerRow → Power
powered rows = record { rows = rows; done = 0; off = 0; over = false; lines = 0 }
