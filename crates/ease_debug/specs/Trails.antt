-- What is known of each site, event by event, which is all that `why` asks of the events (docs/COMMANDS.md, "The debugger").
use Rattle.std.specs.Prelude.{ℕ, ◌==◌, Bool, true, false, not, List, Some, None, slice_index_or, if◌then◌else◌}
use Rattle.std.specs.Option.{unwrap_or}
use Rattle.devices.specs.declared.event.Event.{Event}
use Rattle.devices.specs.declared.event.Event.TheVariants as the
use Rattle.ease_debug.specs.Past.{Happening, boots, shows}
use Rattle.ease_debug.specs.declared.trail.Trail.{Trail}
use Rattle.ease_debug.specs.declared.why.Why.{Why}
use Rattle.ease_debug.specs.declared.why.Why.TheVariants.{NotReached, Kept, Looked, First, Dropped, Repeated}

-- nothing is known since the last commit
abbrev pub untrodden : Trail
untrodden = record { answer = NotReached; sealed = false; dropped = false; at_look = None; sealed_so_far = false; dropped_so_far = false }

-- an issue or a copy, by whether an earlier attempt sealed and by whether there was a drop
abbrev pub going_again : (sealed dropped : Bool) → Why
going_again sealed dropped = if not sealed then First else if dropped then Dropped else Repeated

-- behind an event of the site in the attempt
abbrev pub seen : Event → Trail → Trail
seen (the.Begin task) t = t
seen (the.Look k time) t = record t { answer = Looked; at_look = Some t.dropped }
seen (the.Kept k v) t = record t { answer = Kept }
seen (the.Dropped k) t = record t { dropped = true; dropped_so_far = true }
seen (the.Issued k p args r) t = record t { answer = going_again t.sealed (unwrap_or t.at_look t.dropped) }
seen (the.Sealed k) t = record t { sealed_so_far = true; dropped_so_far = false }
seen (the.Copied k from to n) t = record t { answer = going_again t.sealed t.dropped }
seen (the.Commit next) t = t

-- behind a boot or a begin: what happened so far was before the attempt
abbrev pub rolled : Trail → Trail
rolled t = record t { answer = NotReached; sealed = t.sealed_so_far; dropped = t.dropped_so_far; at_look = None }

-- what is known of each site, and whether a task began in this boot
pub record Trails : Type 0 where
  pub begun : Bool
  pub trail : ℕ → Trail

-- what a debugger keeps of this: a list by the numbers of sites
pub record Slots : Type 0 where
  pub begun : Bool
  pub slots : List Trail

unfoldable pub trails_in : Slots → Trails
trails_in t = record { begun = t.begun; trail = λ k. slice_index_or t.slots k untrodden }

-- at the beginning
abbrev pub no_trails : Trails
no_trails = record { begun = false; trail = λ _. untrodden }

-- behind an event at a site; before a task begins there is no attempt that it could belong to
abbrev pub noted_at : ℕ → Event → Trails → Trails
noted_at k e t = record t { trail = λ j. if k == j then (if t.begun then seen e (t.trail j) else rolled (seen e (t.trail j))) else t.trail j }

-- behind what happens
abbrev pub noted : Happening → Trails → Trails
noted boots t = record { begun = false; trail = λ j. rolled (t.trail j) }
noted (shows (the.Begin task)) t = record { begun = true; trail = λ j. rolled (t.trail j) }
noted (shows (the.Commit next)) t = record t { trail = λ _. untrodden }
noted (shows (the.Look k time)) t = noted_at k (the.Look k time) t
noted (shows (the.Kept k v)) t = noted_at k (the.Kept k v) t
noted (shows (the.Dropped k)) t = noted_at k (the.Dropped k) t
noted (shows (the.Issued k p args r)) t = noted_at k (the.Issued k p args r) t
noted (shows (the.Sealed k)) t = noted_at k (the.Sealed k) t
noted (shows (the.Copied k from to n)) t = noted_at k (the.Copied k from to n) t
