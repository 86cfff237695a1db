-- When a journal is one that the rules allow, part by part (docs/ATTEMPTS.md, "What a right journal is").
use Rattle.std.specs.Prelude.{◌≡◌, ℕ, zero, suc, ◌+◌, ◌*◌, ◌<◌, ◌≤◌, ⊤, List, [], ◌∷◌, ◌++◌, length, map, flat_map, take, IfSome, Option, Some, None, slice_get}
use Rattle.std.specs.List.{AllByRecursion}
use Rattle.task_ast.specs.declared.core_form.Core.{Core}
use Rattle.region_split.specs.declared.class.DmaClass.{DmaClass}
use Rattle.region_split.specs.declared.class.DmaClass.TheVariants.{Single, Private, Exclude, Always}
use Rattle.region_split.specs.Class.{class_of}
use Rattle.walk_run.specs.declared.walked.State.{State}
use Rattle.walk_run.specs.declared.walked.WalkEnd.{WalkEnd}
use Rattle.walk_run.specs.declared.walked.WalkEnd.TheVariants.{Stopped, Limit, Trapped, NoReading}
use Rattle.walk_run.specs.Trap.{code_of}
use Rattle.walk_run.specs.Walk.{walk_of}
use Rattle.devices.specs.declared.world.World.{World}
use Rattle.devices.specs.declared.event.RunEnd.{RunEnd}
use Rattle.devices.specs.declared.event.RunEnd.TheVariants.{Halted, Power}
use Rattle.devices.specs.declared.event.RunEnd.TheVariants as run
use Rattle.devices.specs.Clock.{clock_at}
use Rattle.devices.specs.Journal.{Place, cell, keep, JournalEvent, looks, issues, seals, copies, commits, traps, Boot, Journal}
use Rattle.word_isa.specs.declared.parts.Scheme.{Scheme}
use Rattle.task_attempts.specs.State.{Rules, Log}
use Rattle.task_attempts.specs.Copies.{memory_or_ram}
use Rattle.task_attempts.specs.Boots.{boots, expect, costs}
use Rattle.task_attempts.specs.Journals.{all_events, cuts_of, looks_of, retained, trapped}

-- ---- the events are those of the rules

-- the time of a look is the clock before its step
abbrev pub IsTimed : World → (step : ℕ) → JournalEvent → Type 0
IsTimed world step (looks site time) = time ≡ clock_at world.power step
IsTimed world step e = ⊤

-- A journal is legal: each boot has the events that the rules give for its number of events and for the journal's looks,
-- and each look has its time.
pub record IsLegal (rules : Rules) (j : Journal) : Type 0 where
  pub expected : all_events j ≡ expect rules (cuts_of j) (looks_of j)
  pub timed : AllByRecursion (λ b. AllByRecursion (λ e. IsTimed rules.world e.0 e.1) b.events) j.boots

-- ---- what is committed is what an unbroken run does with the retained readings

-- the next task of a commit, the code of a trap
abbrev pub next_in : JournalEvent → List ℕ
next_in (commits next) = next ∷ []
next_in e = []

abbrev pub code_in : JournalEvent → List ℕ
code_in (traps code) = code ∷ []
code_in e = []

-- the states behind the commits, each with the nonvolatile words then: the i-th is the i-th of the unbroken run
pub record AreWalked (c : Core) (events : List (List JournalEvent)) (states : List State) : Type 0 where
  pub nexts : map (λ s. s.next) states ≡ flat_map (λ boot. flat_map next_in boot) events
  pub walked : (i : ℕ) → i ≤ length states → (walk_of c (retained c events) i).states ≡ take i states

-- the code of a run that traps
abbrev pub end_code : WalkEnd → Option ℕ
end_code Stopped = None
end_code Limit = None
end_code (Trapped why) = Some (code_of why)
end_code NoReading = None

-- a trap is that of the unbroken run which besides is fed the readings of the attempt that traps
abbrev pub TrapIsWalked : Core → (events : List (List JournalEvent)) → (ended : ℕ) → Type 0
TrapIsWalked c events ended =
    AllByRecursion (λ code. end_code (walk_of c (retained c events ++ trapped c events) (ended + 1)).end ≡ Some code) (flat_map (λ boot. flat_map code_in boot) events)

-- ---- each event comes in time

-- the steps done when each boot ended: a boot lasts until the next begins, the last one until the run ends
abbrev pub ends_from : List Boot → (last : ℕ) → List ℕ
ends_from [] last = []
ends_from (b ∷ []) last = last ∷ []
ends_from (b ∷ next ∷ rest) last = next.begun_at ∷ ends_from (next ∷ rest) last

-- A boot's events come by the steps that are given, and where one more would come, the boot ends before it must have come.
abbrev pub AreInTime : (begun ends : ℕ) → List (ℕ × JournalEvent) → (costs : List ℕ) → Type 0
AreInTime begun ends [] [] = ⊤
AreInTime begun ends [] (cost ∷ costs) = ends < begun + cost
AreInTime begun ends (e ∷ es) [] = ⊥
AreInTime begun ends (e ∷ es) (cost ∷ costs) = (e.0 ≤ begun + cost) × AreInTime begun ends es costs

-- so it is of all boots
abbrev pub AllInTime : List Boot → (ends : List ℕ) → (costs : List (List ℕ)) → Type 0
AllInTime [] [] [] = ⊤
AllInTime (b ∷ bs) (e ∷ es) (c ∷ cs) = AreInTime b.begun_at e b.events c × AllInTime bs es cs
AllInTime bs es cs = ⊥

-- of a journal under a scheme
abbrev pub IsInTime : Rules → Scheme → Journal → Type 0
IsInTime rules scheme j = AllInTime j.boots (ends_from j.boots j.steps) (costs rules scheme (cuts_of j) (looks_of j))

-- ---- a record is sealed soon behind what it records

-- a copy that is sealed: into FRAM, or from FRAM to the words that are kept
abbrev pub is_sealed : DmaClass → Option ℕ → Option ℕ
is_sealed Single steps = steps
is_sealed Private steps = steps
is_sealed Exclude steps = None
is_sealed Always steps = None

-- within how many steps a transfer of so many words is sealed, if it is; words that come from the kept ones aren't
abbrev pub transfer_sealed : Core → (from to : Place) → (words : ℕ) → Option ℕ
transfer_sealed c (cell a i) (cell b j) n = is_sealed (class_of (memory_or_ram (slice_get c.arrays a)) (memory_or_ram (slice_get c.arrays b))) (Some (32 + 16 * n))
transfer_sealed c (cell a i) keep n = Some (32 + 16 * n)
transfer_sealed c from to n = None

-- with its site
abbrev pub with_site : ℕ → Option ℕ → Option (ℕ × ℕ)
with_site k None = None
with_site k (Some steps) = Some (k, steps)

-- an event behind which a record must be sealed: its site, and within how many steps
abbrev pub to_seal : Core → JournalEvent → Option (ℕ × ℕ)
to_seal c (issues k p args reading) = Some (k, 12)
to_seal c (copies k from to n) = with_site k (transfer_sealed c from to n)
to_seal c e = None

-- A site's record is sealed by the next event of a boot, at this step or before; or the boot ends before the step.
abbrev pub IsSealed : (ends site by : ℕ) → List (ℕ × JournalEvent) → Type 0
IsSealed ends k by [] = ends < by
IsSealed ends k by (e ∷ es) = (e.1 ≡ seals k) × (e.0 ≤ by)

-- so it is of each event of a boot behind which a record must be sealed
abbrev pub AreSealed : Core → (ends : ℕ) → List (ℕ × JournalEvent) → Type 0
AreSealed c ends [] = ⊤
AreSealed c ends (e ∷ es) = IfSome (to_seal c e.1) (λ s. IsSealed ends s.0 (e.0 + s.1) es) × AreSealed c ends es

-- of all boots
abbrev pub AllSealed : Core → List Boot → (ends : List ℕ) → Type 0
AllSealed c [] [] = ⊤
AllSealed c (b ∷ bs) (e ∷ es) = AreSealed c e b.events × AllSealed c bs es
AllSealed c bs es = ⊥

-- ---- records that are followed are still right

-- A record that is followed was made with what its site is valued at now: the same arguments, or the same ends and words.
abbrev pub RecordsAgree : Log → Type 0
RecordsAgree log = AllByRecursion (λ l. IfSome l.followed (λ f. f.valued ≡ f.made_with)) log

-- ---- the machine halts where nothing is left to do

-- what a boot has come to: the next task, and the steps done when it was last told, by a commit or at the boot's beginning
pub record Reached : Type 0 where
  pub next : ℕ
  pub since : ℕ

-- behind an event, and behind events
abbrev pub reached_by : Reached → (ℕ × JournalEvent) → Reached
reached_by r (step, commits next) = record { next = next; since = step }
reached_by r (step, e) = r

abbrev pub reached : Reached → List (ℕ × JournalEvent) → Reached
reached r [] = r
reached r (e ∷ es) = reached (reached_by r e) es

-- A boot halts only where no task is next. Where none is, it halts within 64 steps, unless it ends before.
abbrev pub EndsWell : (next since ends : ℕ) → RunEnd → Type 0
EndsWell (suc task) since ends Halted = ⊥
EndsWell (suc task) since ends Power = ⊤
EndsWell (suc task) since ends (run.Trapped code) = ⊤
EndsWell zero since ends Halted = ends ≤ since + 64
EndsWell zero since ends Power = ends < since + 64
EndsWell zero since ends (run.Trapped code) = ⊥

-- so it is of each boot, from the task that is next before them; a boot before another one ends with its power
abbrev pub AllEndWell : (next last : ℕ) → List Boot → RunEnd → Type 0
AllEndWell next last [] how = ⊤
AllEndWell next last (b ∷ []) how =
    let r = reached (record { next = next; since = b.begun_at }) b.events in
    EndsWell r.next r.since last how
AllEndWell next last (b ∷ c ∷ bs) how =
    let r = reached (record { next = next; since = b.begun_at }) b.events in
    EndsWell r.next r.since c.begun_at Power × AllEndWell r.next last (c ∷ bs) how

-- ---- all of it

-- A journal keeps the rules under a scheme, where `states` are the next task and the nonvolatile words behind each commit.
pub record KeepsRules (rules : Rules) (scheme : Scheme) (j : Journal) (states : List State) : Type 0 where
  pub legal : IsLegal rules j
  pub walked : AreWalked rules.core (all_events j) states
  pub trap : TrapIsWalked rules.core (all_events j) (length states)
  pub in_time : IsInTime rules scheme j
  pub sealed : AllSealed rules.core j.boots (ends_from j.boots j.steps)
  pub agree : AllByRecursion RecordsAgree (boots rules (cuts_of j) (looks_of j))
  pub ends : AllEndWell 1 j.steps j.boots j.ending
