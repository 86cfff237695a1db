-- Steps one behind another go along parts of the rules one behind another; and single events do.
use Rattle.std.proofs.Common.{◌≡◌, ◌≢◌, ℕ, zero, suc, ◌==◌, Bool, true, false, cond, List, [], ◌∷◌, ◌++◌, Option, Some, None, Result, Ok, Err, refl, sym, ap, ◌∙◌, subst, arith}
use Rattle.std.proofs.lemmas.Bool.{false≢true}
use Rattle.walk_run.specs.declared.trap.Trap.{Trap}
use Rattle.walk_run.specs.Trap.{code_of}
use Rattle.devices.specs.declared.world.Feed.{Feed}
use Rattle.devices.specs.Journal.{JournalEvent, traps}
use Rattle.task_attempts.specs.State.{Standing, Here, Followed, Logged, Rest}
use Rattle.task_attempts.specs.Changes.{with_looks}
use Rattle.task_attempts.specs.Told.{logged, trap, unless_trap}
use Rattle.task_attempts.specs.Journals.{look_time}
use Rattle.audit_check.specs.declared.journal.TimedEvent.{TimedEvent}
use Rattle.audit_check.specs.Journal.{event_of}
use Rattle.audit_check.specs.Same.{kind_of, same}
use Rattle.audit_check.specs.Leads.{Awaited, End, IsNext, Leads, Reached, first_event, Differs}
use Rattle.audit_check.specs.Walking.{Walking, Way, moved, chain, left_by, taken_of, taken, trapped_by, found}
use Rattle.audit_check.specs.Tracks.{events, Knows, IsAt, from_here, Follows, Tracks}
use Rattle.audit_check.proofs.SameLaws.{itself, same_is, is_same}

-- ---- one behind another

pub leads_then : (n : ℕ) (es : List JournalEvent) (s : Standing) (f : Awaited) (end more : End) → Leads n es s f end
    → ((es : List JournalEvent) (s : Standing) (f : Awaited) → end es s f → Reached es s f more) → Reached es s f more
leads_then zero es s f end more at go = go es s f at
leads_then (suc n) [] s f end more at go = absurd at
leads_then (suc n) (e ∷ es) s f end more at go =
    let rest = leads_then n es at.0.after at.1 end more at.3 go in
    (suc rest.0, (at.0, at.1, at.2, rest.1))

-- an event that isn't the next
inside : JournalEvent → Option JournalEvent → JournalEvent
inside d None = d
inside d (Some x) = x

pub some_is : (a b : JournalEvent) → Some a ≡ Some b → a ≡ b
unfolding inside
some_is a b h = ap (inside a) h

-- an event of another kind
pub other_event : (a b : JournalEvent) → (kind_of a == kind_of b) ≡ false → Some a ≡ Some b → ⊥
other_event a b differs is =
    let same : kind_of a ≡ kind_of b = ap kind_of (some_is a b is) in
    false≢true (sym differs ∙ ap (λ k. k == kind_of b) same ∙ itself (kind_of b))

pub no_event : (e : JournalEvent) → None ≡ Some e → ⊥
no_event e none = grind arith

no_other : (e : JournalEvent) (x : JournalEvent) (f : Awaited) → ((times : List ℕ) → first_event (f times) ≡ Some e) → same x e ≡ false → (times : List ℕ) → first_event (f (look_time x ++ times)) ≢ Some x
no_other e x f first differs times is =
    let both : Some e ≡ Some x = sym (first (look_time x ++ times)) ∙ is in
    false≢true (sym differs ∙ is_same x e (sym (some_is e x both)))

pub ended : (es : List JournalEvent) → Differs es (λ times. [])
ended [] = tt
ended (e ∷ es) = λ times none. no_event e none

-- an event that the rules log here, and what comes behind it
abbrev pub logs : JournalEvent → Option Followed → Rest → Here → Awaited
logs e followed go here = λ times. logged e followed (with_looks times here) ∷ go (with_looks times here)

module _ (feeds : List Feed) where
  pub behind : {A B : Type 0} (part : A → (B → Rest) → Rest) (next : A → Walking → Way B) (go : B → Rest) (way : Way A) → ((x : A) → Tracks feeds (part x) (next x))
      → (es : List JournalEvent) (s : Standing) (f : Awaited) → Follows feeds way (λ x. part x go) es s f → Reached es s f (Follows feeds (chain way next) go)
  behind part next go (Ok m) tracks es s f at =
      let on = at.2 in
      subst (λ f. Reached es s f (Follows feeds (next m.value m.walking) go)) (sym on.log)
      (subst (λ es. Reached es s (from_here (part m.value go) on.here) (Follows feeds (next m.value m.walking) go)) (sym at.0)
      (tracks m.value m.walking on.here s go on.is_at at.1))
  behind part next go (Err w) tracks es s f at = (0, at)

  pub tracks_then : {A B : Type 0} (first : (A → Rest) → Rest) (step : Walking → Way A) (part : A → (B → Rest) → Rest) (next : A → Walking → Way B)
      → Tracks feeds first step → ((x : A) → Tracks feeds (part x) (next x)) → Tracks feeds (λ go. first (λ x. part x go)) (λ w. chain (step w) next)
  tracks_then first step part next one more w here s go at knows =
      let r = one w here s (λ x. part x go) at knows in
      leads_then r.0 (events w.rest) s (from_here (first (λ x. part x go)) here) (Follows feeds (step w) (λ x. part x go)) (Follows feeds (chain (step w) next) go) r.1
      (behind part next go (step w) more)

  -- where nothing is shown: the place is another, or the same
  pub at_once : {A : Type 0} (x : A) (go : A → Rest) (w v : Walking) (here there : Here) (s : Standing) (f : Awaited) → f ≡ from_here (go x) there → v.rest ≡ w.rest → IsAt feeds v there → Knows feeds v s
      → Reached (events w.rest) s f (Follows feeds (moved x v) go)
  at_once x go w v here there s f log rest at knows = (0, (ap events (sym rest), knows, record { here = there; is_at = at; log = log }))

  -- ---- one event

  -- where it is the next one
  next_told : {A : Type 0} (e x : JournalEvent) (followed : Option Followed) (y : A) (go : A → Rest) (v : Walking) (here : Here) (es : List JournalEvent) (s : Standing) → look_time e ≡ [] → x ≡ e
      → es ≡ events v.rest → IsAt feeds v here → Reached (x ∷ es) s (logs e followed (go y) here) (Follows feeds (moved y v) go)
  next_told e x followed y go v here es s timeless is rest at =
      let l : Logged = logged e followed here in
      let silent : look_time x ≡ [] = ap look_time is ∙ timeless in
      let next : IsNext x (logs e followed (go y) here) l (from_here (go y) here) =
      record { event = sym is; goes = λ times. ap (λ (t : List ℕ). logs e followed (go y) here (t ++ times)) silent } in
      (1, (l, from_here (go y) here, next, (rest, at.knows, record { here = here; is_at = at; log = refl })))

  told_by : {A : Type 0} (e : JournalEvent) (followed : Option Followed) (y : A) (go : A → Rest) (w : Walking) (change : Walking → Walking) (here : Here) (s : Standing) (x : TimedEvent) (rest : List TimedEvent) (t : Bool)
      → same (event_of x.event) e ≡ t → look_time e ≡ [] → (change (record w { rest = rest })).rest ≡ rest → IsAt feeds (change (record w { rest = rest })) here → Knows feeds w s → events w.rest ≡ event_of x.event ∷ events rest
      → Reached (event_of x.event ∷ events rest) s (logs e followed (go y) here) (Follows feeds (chain (cond {A = Way (Unit {0})} t (moved {A = Unit {0}} tt (record w { rest = rest })) (Err w)) (λ _ v. moved y (change v))) go)
  told_by e followed y go w change here s x rest true is timeless stays at knows front =
      next_told e (event_of x.event) followed y go (change (record w { rest = rest })) here (events rest) s timeless (same_is (event_of x.event) e is) (ap events (sym stays)) at
  told_by e followed y go w change here s x rest false is timeless stays at knows front =
      (0, (sym front, knows, no_other e (event_of x.event) (logs e followed (go y) here) (λ times. refl) is))

  told_in : {A : Type 0} (e : JournalEvent) (followed : Option Followed) (y : A) (go : A → Rest) (w : Walking) (change : Walking → Walking) (here : Here) (s : Standing) (rest : List TimedEvent) → w.rest ≡ rest
      → look_time e ≡ [] → ((rest : List TimedEvent) → (change (record w { rest = rest })).rest ≡ rest) → ((rest : List TimedEvent) → IsAt feeds (change (record w { rest = rest })) here) → Knows feeds w s
      → Reached (events rest) s (logs e followed (go y) here) (Follows feeds (chain (taken_of e w rest) (λ _ v. moved y (change v))) go)
  told_in e followed y go w change here s [] is timeless stays at knows = (0, (ap events (sym is), knows, tt))
  told_in e followed y go w change here s (x ∷ rest) is timeless stays at knows =
      told_by e followed y go w change here s x rest (same (event_of x.event) e) refl timeless (stays rest) (at rest) knows (ap events is)

  -- An event of the rules that the walk takes, after which both change as they do.
  pub told_tracks : {A : Type 0} (e : JournalEvent) (followed : Option Followed) (y : A) (go : A → Rest) (w : Walking) (change : Walking → Walking) (here : Here) (s : Standing)
      → look_time e ≡ [] → ((rest : List TimedEvent) → (change (record w { rest = rest })).rest ≡ rest) → ((rest : List TimedEvent) → IsAt feeds (change (record w { rest = rest })) here) → Knows feeds w s
      → Reached (events w.rest) s (logs e followed (go y) here) (Follows feeds (chain (taken e w) (λ _ v. moved y (change v))) go)
  unfolding taken
  told_tracks e followed y go w change here s timeless stays at knows = told_in e followed y go w change here s w.rest refl timeless stays at knows

  -- a trap is the last event
  trap_by : {A : Type 0} (why : Trap) (go : A → Rest) (w : Walking) (here : Here) (s : Standing) (x : TimedEvent) (rest : List TimedEvent) (t : Bool) → same (event_of x.event) (traps (code_of why)) ≡ t → IsAt feeds w here → Knows feeds w s
      → events w.rest ≡ event_of x.event ∷ events rest
      → Reached (event_of x.event ∷ events rest) s (from_here (trap why) here) (Follows {A = A} feeds (Err (left_by (cond {A = Way (Unit {0})} t (moved {A = Unit {0}} tt (record w { rest = rest })) (Err w)))) go)
  trap_by why go w here s x rest true is at knows front =
      let e = event_of x.event in
      let l : Logged = logged (traps (code_of why)) None here in
      let same : e ≡ traps (code_of why) = same_is e (traps (code_of why)) is in
      let next : IsNext e (from_here (trap why) here) l (λ times. []) =
      record { event = sym same; goes = λ times. ap (λ (t : List ℕ). from_here (trap why) here (t ++ times)) (ap look_time same) } in
      let k = at.knows in
      (1, (l, (λ times. []), next, (refl, record { committed = k.committed; next = k.next; sites = k.sites; records = k.records; peripherals = k.peripherals; readings = k.readings; issued = k.issued }, ended (events rest))))
  trap_by why go w here s x rest false is at knows front =
      (0, (sym front, knows, no_other (traps (code_of why)) (event_of x.event) (from_here (trap why) here) (λ times. refl) is))

  trap_in : {A : Type 0} (why : Trap) (go : A → Rest) (w : Walking) (here : Here) (s : Standing) (rest : List TimedEvent) → w.rest ≡ rest → IsAt feeds w here → Knows feeds w s
      → Reached (events rest) s (from_here (trap why) here) (Follows {A = A} feeds (Err (left_by (taken_of (traps (code_of why)) w rest))) go)
  trap_in why go w here s [] is at knows = (0, (ap events (sym is), knows, tt))
  trap_in why go w here s (x ∷ rest) is at knows = trap_by why go w here s x rest (same (event_of x.event) (traps (code_of why))) refl at knows (ap events is)

  pub trap_tracks : {A : Type 0} (why : Trap) (go : A → Rest) (w : Walking) (here : Here) (s : Standing) → IsAt feeds w here → Knows feeds w s
      → Reached (events w.rest) s (from_here (trap why) here) (Follows {A = A} feeds (Err (trapped_by why w)) go)
  unfolding taken trapped_by
  trap_tracks why go w here s at knows = trap_in why go w here s w.rest refl at knows

  -- what is found, or a trap
  pub found_tracks : {A : Type 0} (r : Result A Trap) (go : A → Rest) (w : Walking) (here : Here) (s : Standing) → IsAt feeds w here → Knows feeds w s
      → Reached (events w.rest) s (from_here (unless_trap r go) here) (Follows feeds (found r w) go)
  found_tracks (Ok x) go w here s at knows = at_once x go w w here here s (from_here (go x) here) refl refl at knows
  found_tracks (Err why) go w here s at knows = trap_tracks why go w here s at knows
