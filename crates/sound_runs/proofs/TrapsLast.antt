-- Only the last boot of a journal traps, so its trap is the one of the whole run.
use Rattle.std.specs.Prelude.{◌⊎◌, ⊤, flat_map, map, Some, if◌then◌else◌}
use Rattle.std.specs.List.{AllByRecursion}
use Rattle.std.proofs.Common.{◌≡◌, ◌∙◌, inl, inr, ℕ, ◌+◌, false, List, [], ◌∷◌, ◌++◌, length, refl, sym, ap, subst, append_assoc, append-nil}
use Rattle.devices.specs.declared.event.Event.{Event}
use Rattle.devices.specs.declared.event.Event.TheVariants.{Begin, Look, Kept, Dropped, Issued, Sealed, Copied, Commit}
use Rattle.devices.specs.declared.world.PowerRow.{PowerRow}
use Rattle.devices.specs.Journal.{JournalEvent, Place, placed, begins, looks, keeps, drops, issues, seals, copies, commits, traps}
use Rattle.task_ast.specs.declared.core_form.Core.{Core}
use Rattle.task_attempts.specs.Journals.{Running, events_of, idle, retained, run_on, trapped, trapped_in}
use Rattle.task_attempts.specs.Sound.{TrapIsWalked, code_in, end_code, next_in}
use Rattle.walk_run.specs.Walk.{walk_of}
use Rattle.word_machine.specs.Runs.{boots, fail_behind, is_running, numbered}
use Rattle.word_machine.specs.State.{Program}
use Rattle.word_machine.specs.Step.{exec}
use Rattle.word_machine.specs.Straight.{Spot, live}
use Rattle.word_machine.specs.Traces as trace
use Rattle.word_machine.specs.declared.ending.Ending.{Ending}
use Rattle.word_machine.specs.declared.ending.Ending.TheVariants as ending
use Rattle.act_refines.specs.Seen.{trace_seen}
use Rattle.code_cuts.specs.Runs.{end_seen}
use Rattle.run_plan.specs.Sound.{TrapsAreWalked}
use Rattle.power_runs.specs.Due.{HaltsUnmarked}
use Rattle.power_runs.specs.Followed.{begun_again}
use Rattle.power_runs.specs.Journals.{events_seen, fails_live, tells_in, unnumbered}

-- an event is no trap, and none of some is one
abbrev pub IsNoTrap : JournalEvent → Type 0
IsNoTrap (traps code) = ⊥
IsNoTrap e = ⊤

abbrev pub NoTraps : List JournalEvent → Type 0
NoTraps es = AllByRecursion IsNoTrap es

-- each boot but the last has none
abbrev pub TrapsLast : List (List JournalEvent) → Type 0
TrapsLast [] = ⊤
TrapsLast (boot ∷ rest) = ((rest ≡ []) ⊎ NoTraps boot) × TrapsLast rest

-- ---- of a journal

placed_no : (place_of : ℕ → Place) (e : Event) → IsNoTrap (placed place_of e)
placed_no place_of (Begin task) = tt
placed_no place_of (Look site time) = tt
placed_no place_of (Kept site value) = tt
placed_no place_of (Dropped site) = tt
placed_no place_of (Issued site peripheral args reading) = tt
placed_no place_of (Sealed site) = tt
placed_no place_of (Copied site from to words) = tt
placed_no place_of (Commit next) = tt

trace_no : (place_of : ℕ → Place) (atoms : List trace.Atom) → NoTraps (tells_in (trace_seen place_of atoms))
trace_no place_of [] = tt
trace_no place_of (trace.wrote at word ∷ atoms) = trace_no place_of atoms
trace_no place_of (trace.showed e ∷ atoms) = (placed_no place_of e, trace_no place_of atoms)

module _ (p : Program) (place_of : ℕ → Place) (unmarked : HaltsUnmarked p) where
  -- a boot behind which the machine goes on
  on_no : (before n : ℕ) (m : Spot) → (exec p n (live m)).ending ≡ ending.Running → NoTraps (unnumbered (numbered place_of p before n (live m)))
  on_no before n m on =
      let atoms : List trace.Atom = trace.trace p n (live m) in
      let told : unnumbered (numbered place_of p before n (live m)) ≡ tells_in (trace_seen place_of atoms) =
      events_seen p place_of unmarked before n (live m) refl ∙ (λ i. tells_in (trace_seen place_of atoms ++ end_seen (on i))) ∙ ap tells_in (append-nil (trace_seen place_of atoms)) in
      subst NoTraps (sym told) (trace_no place_of atoms)

  -- nothing comes behind one that ended
  stops_last : (row : PowerRow) (rows : List PowerRow) (before : ℕ) (m : Spot) → is_running (exec p row.on (live m)).ending ≡ false → TrapsLast (map events_of (boots place_of p (row ∷ rows) before (live m)))
  unfolding boots
  stops_last row rows before m over =
      let none : map events_of (if is_running (exec p row.on (live m)).ending then boots place_of p rows (before + row.on) (fail_behind row (exec p row.on (live m))) else []) ≡ [] =
      ap (λ b. map events_of (if b then boots place_of p rows (before + row.on) (fail_behind row (exec p row.on (live m))) else [])) over in
      (inl none, subst TrapsLast (sym none) tt)

  goes_last : (row : PowerRow) (rows : List PowerRow) (before : ℕ) (m : Spot) → (exec p row.on (live m)).ending ≡ ending.Running
      → TrapsLast (map events_of (boots place_of p rows (before + row.on) (live (begun_again row (exec p row.on (live m)))))) → TrapsLast (map events_of (boots place_of p (row ∷ rows) before (live m)))
  unfolding boots
  goes_last row rows before m on later =
      let more : map events_of (if is_running (exec p row.on (live m)).ending then boots place_of p rows (before + row.on) (fail_behind row (exec p row.on (live m))) else [])
      ≡ map events_of (boots place_of p rows (before + row.on) (live (begun_again row (exec p row.on (live m))))) =
      (λ i. map events_of (if is_running (on i) then boots place_of p rows (before + row.on) (fails_live row (exec p row.on (live m)) on i) else [])) in
      (inr (on_no before row.on m on), subst TrapsLast (sym more) later)

  by_end : (row : PowerRow) (rows : List PowerRow) (before : ℕ) (m : Spot) (e : Ending) → (exec p row.on (live m)).ending ≡ e
      → ((exec p row.on (live m)).ending ≡ ending.Running → TrapsLast (map events_of (boots place_of p rows (before + row.on) (live (begun_again row (exec p row.on (live m)))))))
      → TrapsLast (map events_of (boots place_of p (row ∷ rows) before (live m)))
  by_end row rows before m ending.Running is later = goes_last row rows before m is (later is)
  by_end row rows before m ending.Halted is later = stops_last row rows before m (ap is_running is)
  by_end row rows before m (ending.Trapped code) is later = stops_last row rows before m (ap is_running is)

  pub traps_last : (rows : List PowerRow) (before : ℕ) (m : Spot) → TrapsLast (map events_of (boots place_of p rows before (live m)))
  unfolding boots
  traps_last [] before m = tt
  traps_last (row ∷ rows) before m =
      by_end row rows before m (exec p row.on (live m)).ending refl (λ on. traps_last rows (before + row.on) (begun_again row (exec p row.on (live m))))

-- ---- what boots without traps give

codes_none : (es : List JournalEvent) → NoTraps es → flat_map code_in es ≡ []
codes_none [] h = refl
codes_none (begins t ∷ es) h = codes_none es h.1
codes_none (looks k t ∷ es) h = codes_none es h.1
codes_none (keeps k value ∷ es) h = codes_none es h.1
codes_none (drops k ∷ es) h = codes_none es h.1
codes_none (issues k q args reading ∷ es) h = codes_none es h.1
codes_none (seals k ∷ es) h = codes_none es h.1
codes_none (copies k from to n ∷ es) h = codes_none es h.1
codes_none (commits next ∷ es) h = codes_none es h.1
codes_none (traps code ∷ es) h = absurd h.0

none_trapped : (c : Core) (r : Running) (es : List JournalEvent) → NoTraps es → trapped_in c r es ≡ []
none_trapped c r [] h = refl
none_trapped c r (begins t ∷ es) h = none_trapped c (run_on c r (begins t)) es h.1
none_trapped c r (looks k t ∷ es) h = none_trapped c (run_on c r (looks k t)) es h.1
none_trapped c r (keeps k value ∷ es) h = none_trapped c (run_on c r (keeps k value)) es h.1
none_trapped c r (drops k ∷ es) h = none_trapped c (run_on c r (drops k)) es h.1
none_trapped c r (issues k q args reading ∷ es) h = none_trapped c (run_on c r (issues k q args reading)) es h.1
none_trapped c r (seals k ∷ es) h = none_trapped c (run_on c r (seals k)) es h.1
none_trapped c r (copies k from to n ∷ es) h = none_trapped c (run_on c r (copies k from to n)) es h.1
none_trapped c r (commits next ∷ es) h = none_trapped c (run_on c r (commits next)) es h.1
none_trapped c r (traps code ∷ es) h = absurd h.0

-- ---- the trap of all boots

flat_more : {A B : Type 0} (f : A → List B) (xs ys : List A) → flat_map f (xs ++ ys) ≡ flat_map f xs ++ flat_map f ys
flat_more f [] ys = refl
flat_more f (x ∷ xs) ys = ap (λ zs. f x ++ zs) (flat_more f xs ys) ∙ sym (append_assoc (f x) (flat_map f xs) (flat_map f ys))

module _ (c : Core) where
  abbrev Boots : Type 0
  Boots = List (List JournalEvent)

  -- how many commits there are
  abbrev pub ended : Boots → ℕ
  ended boots = length (flat_map (λ b. flat_map next_in b) boots)

  -- a code is that of the unbroken run with these readings besides
  abbrev IsCode : Boots → (held : List ℕ) → (code : ℕ) → Type 0
  IsCode boots held code = end_code (walk_of c (retained c boots ++ held) (ended boots + 1)).end ≡ Some code

  -- behind boots without traps
  abbrev IsWalkedBehind : (before rest : Boots) → Type 0
  IsWalkedBehind before rest = AllByRecursion (IsCode (before ++ rest) (trapped c (before ++ rest))) (flat_map (λ boot. flat_map code_in boot) rest)

  last_walked : (before : Boots) (boot : List JournalEvent) → trapped c before ≡ [] → AllByRecursion (IsCode (before ++ boot ∷ []) (trapped_in c idle boot)) (flat_map code_in boot) → IsWalkedBehind before (boot ∷ [])
  last_walked before boot none h =
      let held : trapped c (before ++ boot ∷ []) ≡ trapped_in c idle boot = flat_more (trapped_in c idle) before (boot ∷ []) ∙ ap (λ rs. rs ++ (trapped_in c idle boot ++ [])) none ∙ append-nil (trapped_in c idle boot) in
      let codes : flat_map (λ boot. flat_map code_in boot) (boot ∷ []) ≡ flat_map code_in boot = append-nil (flat_map code_in boot) in
      subst (λ rs. AllByRecursion (IsCode (before ++ boot ∷ []) rs) (flat_map (λ boot. flat_map code_in boot) (boot ∷ []))) (sym held)
      (subst (λ ks. AllByRecursion (IsCode (before ++ boot ∷ []) (trapped_in c idle boot)) ks) (sym codes) h)

  next_walked : (before : Boots) (boot : List JournalEvent) (rest : Boots) → NoTraps boot → IsWalkedBehind (before ++ boot ∷ []) rest → IsWalkedBehind before (boot ∷ rest)
  next_walked before boot rest none h =
      let joined : (before ++ boot ∷ []) ++ rest ≡ before ++ boot ∷ rest = append_assoc before (boot ∷ []) rest in
      let codes : flat_map (λ boot. flat_map code_in boot) (boot ∷ rest) ≡ flat_map (λ boot. flat_map code_in boot) rest = ap (λ ks. ks ++ flat_map (λ boot. flat_map code_in boot) rest) (codes_none boot none) in
      subst (λ ks. AllByRecursion (IsCode (before ++ boot ∷ rest) (trapped c (before ++ boot ∷ rest))) ks) (sym codes)
      (subst (λ all. AllByRecursion (IsCode all (trapped c all)) (flat_map (λ boot. flat_map code_in boot) rest)) joined h)

  still_none : (before : Boots) (boot : List JournalEvent) → NoTraps boot → trapped c before ≡ [] → trapped c (before ++ boot ∷ []) ≡ []
  still_none before boot none h = flat_more (trapped_in c idle) before (boot ∷ []) ∙ (λ i. h i ++ (none_trapped c idle boot none i ++ []))

  by_boot : (before : Boots) (boot : List JournalEvent) (rest : Boots) → trapped c before ≡ [] → AllByRecursion (IsCode (before ++ boot ∷ []) (trapped_in c idle boot)) (flat_map code_in boot)
      → ((rest ≡ []) ⊎ NoTraps boot) → (NoTraps boot → IsWalkedBehind (before ++ boot ∷ []) rest) → IsWalkedBehind before (boot ∷ rest)
  by_boot before boot rest none h (inl last) later = subst (λ (bs : Boots). IsWalkedBehind before (boot ∷ bs)) (sym last) (last_walked before boot none h)
  by_boot before boot rest none h (inr quiet) later = next_walked before boot rest quiet (later quiet)

  walked_behind : (before rest : Boots) → trapped c before ≡ [] → TrapsAreWalked c before rest → TrapsLast rest → IsWalkedBehind before rest
  walked_behind before [] none h last = tt
  walked_behind before (boot ∷ rest) none h last = by_boot before boot rest none h.0 last.0 (λ quiet. walked_behind (before ++ boot ∷ []) rest (still_none before boot quiet none) h.1 last.1)

  -- so many boots ended before it
  pub trap_walked : (boots : Boots) (n : ℕ) → n ≡ ended boots → TrapsAreWalked c [] boots → TrapsLast boots → TrapIsWalked c boots n
  trap_walked boots n many h last =
      subst (λ n. AllByRecursion (λ code. end_code (walk_of c (retained c boots ++ trapped c boots) (n + 1)).end ≡ Some code) (flat_map (λ boot. flat_map code_in boot) boots)) (sym many) (walked_behind [] boots refl h last)
