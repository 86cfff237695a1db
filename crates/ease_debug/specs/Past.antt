-- What happened in a session, and why a site was last decided as it was (docs/COMMANDS.md, "The debugger").
use Rattle.std.specs.Prelude.{ℕ, ◌==◌, Bool, true, false, not, List, [], ◌∷◌, ◌++◌, Option, Some, None, if◌then◌else◌}
use Rattle.std.specs.List.{list_any}
use Rattle.std.specs.Option.{unwrap_or}
use Rattle.devices.specs.declared.event.Event.{Event}
use Rattle.devices.specs.declared.event.Event.TheVariants as the
use Rattle.ease_debug.specs.declared.why.Why.{Why}
use Rattle.ease_debug.specs.declared.why.Why.TheVariants.{NotReached, Kept, Looked, First, Dropped, Repeated}

-- a boot begins, or the machine shows an event; lists of these have the newest first
pub data Happening : Type 0 where
  boots : Happening
  shows : Event → Happening

-- the site of an event of an I/O site, a block or a copy; a begin and a commit are at none
abbrev pub site_of : Event → Option ℕ
site_of (the.Begin task) = None
site_of (the.Look k t) = Some k
site_of (the.Kept k v) = Some k
site_of (the.Dropped k) = Some k
site_of (the.Issued k p args r) = Some k
site_of (the.Sealed k) = Some k
site_of (the.Copied k from to n) = Some k
site_of (the.Commit next) = None

abbrev pub is_boot : Happening → Bool
is_boot boots = true
is_boot (shows e) = false

abbrev pub is_begin : Happening → Bool
is_begin (shows (the.Begin task)) = true
is_begin _ = false

abbrev pub is_commit : Happening → Bool
is_commit (shows (the.Commit next)) = true
is_commit _ = false

-- the record of this site is sealed, or dropped, or this site looks
abbrev pub seals : ℕ → Happening → Bool
seals k (shows (the.Sealed j)) = j == k
seals k _ = false

abbrev pub drops : ℕ → Happening → Bool
drops k (shows (the.Dropped j)) = j == k
drops k _ = false

abbrev pub looks : ℕ → Happening → Bool
looks k (shows (the.Look j t)) = j == k
looks k _ = false

-- where an attempt or what was before it begins
abbrev pub is_border : Happening → Bool
is_border boots = true
is_border (shows (the.Begin task)) = true
is_border (shows (the.Commit next)) = true
is_border _ = false

-- a task began in the boot that runs
unfoldable pub has_begun : List Happening → Bool
has_begun [] = false
has_begun (h ∷ past) = if is_boot h then false else if is_begin h then true else has_begun past

-- what happened since the last border
unfoldable pub since_border : List Happening → List Happening
since_border [] = []
since_border (h ∷ past) = if is_border h then [] else h ∷ since_border past

-- what happened since the last commit
unfoldable pub since_commit : List Happening → List Happening
since_commit [] = []
since_commit (h ∷ past) = if is_commit h then [] else h ∷ since_commit past

-- what happened up to and with the last border, since the last commit
unfoldable pub up_to_border : List Happening → List Happening
up_to_border [] = []
up_to_border (h ∷ past) = if is_border h then since_commit (h ∷ past) else up_to_border past

-- the attempt: since the last begin of this boot, and since the last commit; where this boot has no begin it is empty
abbrev pub attempt : List Happening → List Happening
attempt past = if has_begun past then since_border past else []

-- what happened since the last commit, before the attempt
abbrev pub earlier : List Happening → List Happening
earlier past = if has_begun past then up_to_border past else since_commit past

-- what stands behind the last of these that seals the site; all, where none does
unfoldable pub since_seal : ℕ → List Happening → List Happening
since_seal k [] = []
since_seal k (h ∷ past) = if seals k h then [] else h ∷ since_seal k past

-- what stands before the last look of the site, if there is one
unfoldable pub before_look : ℕ → List Happening → Option (List Happening)
before_look k [] = None
before_look k (h ∷ past) = if looks k h then Some past else before_look k past

-- an issue or a copy: the first, or one behind a drop of the record that an earlier attempt made, or a repetition without one;
-- `sealed` says whether an earlier attempt made one, `unsealed` is what happened since then and before the attempt, `within` what in it
abbrev pub again : (k : ℕ) → (sealed : Bool) → (unsealed within : List Happening) → Why
again k sealed unsealed within = if not sealed then First else if list_any (drops k) (within ++ unsealed) then Dropped else Repeated

-- what the last look, kept, issue or copy of the site is, in an attempt
unfoldable pub decided : (k : ℕ) → (sealed : Bool) → (unsealed events : List Happening) → Why
decided k sealed unsealed [] = NotReached
decided k sealed unsealed (shows (the.Look j t) ∷ past) = if j == k then Looked else decided k sealed unsealed past
decided k sealed unsealed (shows (the.Kept j v) ∷ past) = if j == k then Kept else decided k sealed unsealed past
decided k sealed unsealed (shows (the.Issued j p args r) ∷ past) =
    if j == k then again k sealed unsealed (unwrap_or (before_look k past) past) else decided k sealed unsealed past
decided k sealed unsealed (shows (the.Copied j from to n) ∷ past) = if j == k then again k sealed unsealed past else decided k sealed unsealed past
decided k sealed unsealed (_ ∷ past) = decided k sealed unsealed past

-- why the site was last decided as it was
abbrev pub why : ℕ → List Happening → Why
why k past = decided k (list_any (seals k) (earlier past)) (since_seal k (earlier past)) (attempt past)
