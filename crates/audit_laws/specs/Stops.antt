-- Where a walk stops.
use Rattle.std.specs.Prelude.{◌≡◌, List}
use Rattle.devices.specs.declared.world.Feed.{Feed}
use Rattle.audit_check.specs.Walking.{Walking}
use Rattle.audit_check.specs.Leads.{End, Differs}
use Rattle.audit_check.specs.Tracks.{events, Knows}

-- The walk stops with the events that are left and knows the standing there; the next event isn't the rules', or there is none.
abbrev pub Stops : List Feed → Walking → End
Stops feeds w es s f = (es ≡ events w.rest) × Knows feeds w s × Differs es f
