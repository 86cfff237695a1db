-- A copy by what its record keeps.
use Rattle.std.proofs.Common.{◌≡◌, ℕ, List, Option, Some, None, refl}
use Rattle.region_split.specs.declared.class.DmaClass.{DmaClass}
use Rattle.region_split.specs.Class.{class_of}
use Rattle.walk_run.specs.declared.place.Place.{Place}
use Rattle.audit_check.specs.declared.walking.Kept.{Kept}
use Rattle.audit_check.specs.declared.walking.Kept.TheVariants as kept
use Rattle.audit_check.specs.declared.around.Around.{Around}
use Rattle.audit_check.specs.Walking.{Walking, Way}
use Rattle.audit_check.specs.Walked.{memory_at, copied, copied_by, copied_again}
use Rattle.audit_check.specs.Records.{kept_copy}

-- a copy by its record, or without one
abbrev pub copied_or : Around → (site : ℕ) → (to from : Place) → (n : ℕ) → Option (DmaClass × Place × List ℕ) → Walking → Way (Unit {0})
copied_or a k to from n None w = copied_by (class_of (memory_at a from) (memory_at a to)) k to from n w
copied_or a k to from n (Some r) w = copied_again r.0 k r.1 r.2 w

pub copied_is : (a : Around) (k : ℕ) (to from : Place) (n : ℕ) (r : Option Kept) (w : Walking) → copied a k to from n r w ≡ copied_or a k to from n (kept_copy r) w
unfolding copied
copied_is a k to from n None w = refl
copied_is a k to from n (Some (kept.Reading value stamp)) w = refl
copied_is a k to from n (Some (kept.Block stamp)) w = refl
copied_is a k to from n (Some (kept.Copy class to_then words)) w = refl
