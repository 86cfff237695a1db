-- What a copy's record keeps.
use Rattle.std.specs.Prelude.{ℕ, List, Option, Some, None}
use Rattle.region_split.specs.declared.class.DmaClass.{DmaClass}
use Rattle.walk_run.specs.declared.place.Place.{Place}
use Rattle.audit_check.specs.declared.walking.Kept.{Kept}
use Rattle.audit_check.specs.declared.walking.Kept.TheVariants as kept

-- a copy's class, the place that it went to, and the words that are kept
abbrev pub kept_copy : Option Kept → Option (DmaClass × Place × List ℕ)
kept_copy (Some (kept.Copy class to words)) = Some (class, to, words)
kept_copy (Some (kept.Reading value stamp)) = None
kept_copy (Some (kept.Block stamp)) = None
kept_copy None = None
