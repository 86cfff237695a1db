-- Under `bank` the bank in use changes with each commit.
use Rattle.std.specs.Prelude.{◌≢◌, ◌⊎◌, ◌%◌, ◌≤◌, if◌then◌else◌, Option, Some, None}
use Rattle.std.proofs.Common.{◌≡◌, ◌∙◌, ℕ, zero, suc, ◌+◌, ◌-◌, ◌<◌, inl, inr, Bool, true, false, List, [], ◌∷◌, ◌++◌, map, refl, sym, ap, subst, arith, append-nil}
use Rattle.devices.specs.Journal.{JournalEvent, Place, begins, looks, keeps, drops, issues, seals, copies, commits, traps}
use Rattle.devices.specs.declared.event.Event.{Event}
use Rattle.devices.specs.declared.event.Event.TheVariants as the
use Rattle.devices.specs.declared.world.PowerRow.{PowerRow}
use Rattle.task_ast.specs.WellFormed.{IsWellFormed}
use Rattle.word_isa.specs.declared.parts.Scheme.{Scheme}
use Rattle.word_isa.specs.declared.parts.Scheme.TheVariants.{Bank}
use Rattle.word_machine.specs.Events.{event_next}
use Rattle.word_machine.specs.RunLaws.{exec_more, trace_more}
use Rattle.word_machine.specs.Runs.{fail_behind, is_running}
use Rattle.word_machine.specs.State as machine
use Rattle.word_machine.specs.State.{Program}
use Rattle.word_machine.specs.Step.{exec, step}
use Rattle.word_machine.specs.Straight.{Spot, live}
use Rattle.word_machine.specs.Traces as trace
use Rattle.word_machine.specs.declared.ending.Ending.{Ending}
use Rattle.word_machine.specs.declared.ending.Ending.TheVariants.{Running, Halted, Trapped}
use Rattle.run_plan.specs.Cells as cells
use Rattle.run_plan.specs.Cells.{State}
use Rattle.run_plan.specs.Deeds.{next_bank}
use Rattle.run_plan.specs.Runs.{Planned, after, boot_run}
use Rattle.act_laws.specs.Words.{state_word}
use Rattle.act_refines.specs.Between.{IsBank}
use Rattle.act_refines.specs.Seen.{Seen, puts, tells, trace_seen}
use Rattle.code_cuts.specs.Lasting.{Lasts, bank_behind, bank_by}
use Rattle.code_cuts.specs.Runs.{Cut, end_seen, shown_by, smalls_seen}
use Rattle.power_runs.specs.Followed.{AreFollowed, begun_again}
use Rattle.power_runs.specs.Journals.{fails_live, seen_more, shown_of, step_told, tells_in, tells_more}
use Rattle.sound_runs.specs.Committed.{commit_in, commits_in, committed_on}
use Rattle.sound_images.specs.Sound.{TakeTurns}
use Rattle.sound_images.proofs.States.{SomeNext, some_next}

-- ---- lists of banks

abbrev last_or : ℕ → List ℕ → ℕ
last_or bank [] = bank
last_or bank (next ∷ banks) = last_or next banks

turns_more : (bank : ℕ) (a b : List ℕ) → TakeTurns bank a → TakeTurns (last_or bank a) b → TakeTurns bank (a ++ b)
turns_more bank [] b one two = two
turns_more bank (x ∷ a) b one two = (one.0, turns_more x a b one.1 two)

last_more : (bank : ℕ) (a b : List ℕ) → last_or bank (a ++ b) ≡ last_or (last_or bank a) b
last_more bank [] b = refl
last_more bank (x ∷ a) b = last_more x a b

-- ---- the bank, by the events

abbrev bank_told : List JournalEvent → ℕ → ℕ
bank_told [] bank = bank
bank_told (e ∷ es) bank = bank_told es (bank_by Bank e bank)

behind_told : (seen : List Seen) (bank : ℕ) → bank_behind Bank seen bank ≡ bank_told (tells_in seen) bank
behind_told [] bank = refl
behind_told (puts at word ∷ seen) bank = behind_told seen bank
behind_told (tells e ∷ seen) bank = behind_told seen (bank_by Bank e bank)

told_more : (a b : List JournalEvent) (bank : ℕ) → bank_told (a ++ b) bank ≡ bank_told b (bank_told a bank)
told_more [] b bank = refl
told_more (e ∷ a) b bank = told_more a b (bank_by Bank e bank)

end_told : (e : Ending) (bank : ℕ) → bank_told (tells_in (end_seen e)) bank ≡ bank
end_told Running bank = refl
end_told Halted bank = refl
end_told (Trapped code) bank = refl

parity : (epoch task bank : ℕ) → bank ≤ 1 → state_word epoch task bank % 2 ≡ bank
parity epoch task bank few = omega (arith, few)

other_bank : (bank : ℕ) → IsBank Bank bank → 1 - bank ≢ bank
other_bank bank (inl is) same = omega (arith, is, same)
other_bank bank (inr is) same = omega (arith, is, same)

few_banks : (bank : ℕ) → IsBank Bank bank → bank ≤ 1
few_banks bank (inl is) = omega (arith, is)
few_banks bank (inr is) = omega (arith, is)

-- ---- a boot

module _ (p : Program) (place_of : ℕ → Place) (x : Planned) (banks : x.plan.scheme ≡ Bank) (well : IsWellFormed x.rules.core) where
  abbrev Followed : (n : ℕ) → Spot → State → Type 0
  Followed n m s = Cut p place_of x.rules.core x.plan.scheme (Lasts p x.rules x.plan.scheme) n 0 m s (boot_run x (suc n) s)

  -- the bank behind so many steps
  abbrev bank_at : (n : ℕ) → Spot → State → ℕ
  bank_at n m s = bank_told (tells_in (trace_seen place_of (trace.trace p n (live m)))) s.bank

  cut_bank : (n : ℕ) (m : Spot) (s : State) (cut : Followed n m s) → (after s cut.front).bank ≡ bank_at n m s
  cut_bank n m s cut =
      let seen : List Seen = trace_seen place_of (trace.trace p n (live m)) in
      let ends : List Seen = end_seen (exec p n (live m)).ending in
      subst (λ scheme. (after s cut.front).bank ≡ bank_behind scheme (smalls_seen x.rules.core x.plan.scheme cut.front s) s.bank) banks cut.near.bank
      ∙ ap (λ xs. bank_behind Bank xs s.bank) (sym cut.shown) ∙ behind_told (seen ++ ends) s.bank ∙ ap (λ es. bank_told es s.bank) (tells_more seen ends) ∙ told_more (tells_in seen) (tells_in ends) s.bank
      ∙ end_told (exec p n (live m)).ending (bank_told (tells_in seen) s.bank)

  is_bank : (n : ℕ) (m : Spot) (s : State) (cut : Followed n m s) → IsBank Bank (bank_at n m s)
  is_bank n m s cut =
      let t = some_next x.rules.core (after s cut.front).task well in
      let tidy = (cut.stood t.task t.may).memory.tidy in
      subst (IsBank Bank) (cut_bank n m s cut) (subst (λ scheme. IsBank scheme (after s cut.front).bank) banks tidy.bank)

  -- the state word's lowest bit says which
  cut_parity : (n : ℕ) (m : Spot) (s : State) (cut : Followed n m s) → (exec p n (live m)).store 0 % 2 ≡ bank_at n m s
  cut_parity n m s cut =
      let t = some_next x.rules.core (after s cut.front).task well in
      let stands = (cut.stood t.task t.may).memory.cells.store in
      let few : (after s cut.front).bank ≤ 1 = subst (λ b. b ≤ 1) (sym (cut_bank n m s cut)) (few_banks (bank_at n m s) (is_bank n m s cut)) in
      ap (λ w. w % 2) stands.state ∙ parity (after s cut.front).epoch (after s cut.front).task (after s cut.front).bank few ∙ cut_bank n m s cut

  -- one step more
  bank_next : (n : ℕ) (m : Spot) (s : State) → bank_at (suc n) m s ≡ bank_told (shown_of place_of (event_next p (exec p n (live m)))) (bank_at n m s)
  unfolding trace.trace
  bank_next n m s =
      let e : machine.State = exec p n (live m) in
      let one : suc n ≡ n + 1 = omega arith in
      let split : trace.trace p (suc n) (live m) ≡ trace.trace p n (live m) ++ trace.seen p e =
      ap (λ k. trace.trace p k (live m)) one ∙ trace_more p n 1 (live m) ∙ ap (λ (atoms : List trace.Atom). trace.trace p n (live m) ++ atoms) (append-nil (trace.seen p e)) in
      let told : tells_in (trace_seen place_of (trace.trace p (suc n) (live m))) ≡ tells_in (trace_seen place_of (trace.trace p n (live m))) ++ shown_of place_of (event_next p e) =
      ap (λ atoms. tells_in (trace_seen place_of atoms)) split ∙ ap tells_in (seen_more place_of (trace.trace p n (live m)) (trace.seen p e))
      ∙ tells_more (trace_seen place_of (trace.trace p n (live m))) (trace_seen place_of (trace.seen p e)) ∙ ap (λ (es : List JournalEvent). tells_in (trace_seen place_of (trace.trace p n (live m))) ++ es) (step_told p place_of e) in
      ap (λ es. bank_told es s.bank) told ∙ told_more (tells_in (trace_seen place_of (trace.trace p n (live m)))) (shown_of place_of (event_next p e)) s.bank

  -- ---- its commits

  abbrev banks_of : List (ℕ × machine.State) → List ℕ
  banks_of xs = map (λ (c : ℕ × machine.State). c.1.store 0 % 2) xs

  banks_append : (a b : List (ℕ × machine.State)) → banks_of (a ++ b) ≡ banks_of a ++ banks_of b
  banks_append [] b = refl
  banks_append (c ∷ a) b = ap (λ (xs : List ℕ). c.1.store 0 % 2 ∷ xs) (banks_append a b)

  one_step : (m : Spot) (k : ℕ) → step p (exec p k (live m)) ≡ exec p (suc k) (live m)
  unfolding exec
  one_step m k = let one : k + 1 ≡ suc k = omega arith in sym (exec_more p k 1 (live m)) ∙ ap (λ j. exec p j (live m)) one

  -- from so many steps on, in which banks take turns, and behind which the last is in use
  record Turns (k n : ℕ) (m : Spot) (s : State) : Type 0 where
    turns : TakeTurns (bank_at k m s) (banks_of (commits_in p n (exec p k (live m))))
    last : last_or (bank_at k m s) (banks_of (commits_in p n (exec p k (live m)))) ≡ bank_at (k + n) m s

  -- an event before the rest
  first_turns : (k : ℕ) (m : Spot) (s : State) (o : Option Event) → event_next p (exec p k (live m)) ≡ o → IsBank Bank (bank_at k m s) → (exec p (suc k) (live m)).store 0 % 2 ≡ bank_at (suc k) m s → (rest : List ℕ)
      → TakeTurns (bank_at (suc k) m s) rest → TakeTurns (bank_at k m s) (banks_of (commit_in o (exec p (suc k) (live m))) ++ rest) × (last_or (bank_at k m s) (banks_of (commit_in o (exec p (suc k) (live m)))) ≡ bank_at (suc k) m s)
  first_turns k m s o is bank now rest turns = by o (bank_next k m s ∙ ap (λ e. bank_told (shown_of place_of e) (bank_at k m s)) is)
    where
      no_turn : bank_at (suc k) m s ≡ bank_at k m s → TakeTurns (bank_at k m s) rest × (bank_at k m s ≡ bank_at (suc k) m s)
      no_turn same = (subst (λ b. TakeTurns b rest) same turns, sym same)

      by : (o : Option Event) → bank_at (suc k) m s ≡ bank_told (shown_of place_of o) (bank_at k m s)
          → TakeTurns (bank_at k m s) (banks_of (commit_in o (exec p (suc k) (live m))) ++ rest) × (last_or (bank_at k m s) (banks_of (commit_in o (exec p (suc k) (live m)))) ≡ bank_at (suc k) m s)
      by None same = no_turn same
      by (Some (the.Begin task)) same = no_turn same
      by (Some (the.Look site time)) same = no_turn same
      by (Some (the.Kept site value)) same = no_turn same
      by (Some (the.Dropped site)) same = no_turn same
      by (Some (the.Issued site q args reading)) same = no_turn same
      by (Some (the.Sealed site)) same = no_turn same
      by (Some (the.Copied site from to words)) same = no_turn same
      by (Some (the.Commit next)) same =
          ((subst (λ b. b ≢ bank_at k m s) (sym (now ∙ same)) (other_bank (bank_at k m s) bank), subst (λ b. TakeTurns b rest) (sym now) turns), now)

  boot_turns : (most : ℕ) (m : Spot) (s : State) → ((n : ℕ) → n ≤ most → Followed n m s) → (n k : ℕ) → k + n ≤ most → Turns k n m s
  unfolding commits_in
  boot_turns most m s cuts zero k few = record { turns = tt; last = (let none : k ≡ k + 0 = omega arith in ap (λ j. bank_at j m s) none) }
  boot_turns most m s cuts (suc n) k few =
      let e : machine.State = exec p k (live m) in
      let next : step p e ≡ exec p (suc k) (live m) = one_step m k in
      let rest : Turns (suc k) n m s = boot_turns most m s cuts n (suc k) (omega (arith, few)) in
      let cut : Followed k m s = cuts k (omega (arith, few)) in
      let cut_next : Followed (suc k) m s = cuts (suc k) (omega (arith, few)) in
      let ones = banks_of (commit_in (event_next p e) (exec p (suc k) (live m))) in
      let rests = banks_of (commits_in p n (exec p (suc k) (live m))) in
      let first = first_turns k m s (event_next p e) refl (is_bank k m s cut) (cut_parity (suc k) m s cut_next) rests rest.turns in
      let whole : banks_of (commit_in (event_next p e) (step p e) ++ commits_in p n (step p e)) ≡ ones ++ rests =
      ap (λ t. banks_of (commit_in (event_next p e) t ++ commits_in p n t)) next ∙ banks_append (commit_in (event_next p e) (exec p (suc k) (live m))) (commits_in p n (exec p (suc k) (live m))) in
      let far : suc k + n ≡ k + suc n = omega arith in
      record {
        turns = subst (TakeTurns (bank_at k m s)) (sym whole) first.0;
        last = ap (last_or (bank_at k m s)) whole ∙ last_more (bank_at k m s) ones rests ∙ ap (λ b. last_or b rests) first.1 ∙ rest.last ∙ ap (λ j. bank_at j m s) far;
      }

  -- ---- all boots

  pub all_turns : (rows : List PowerRow) (m : Spot) (s : State) → AreFollowed p place_of x rows m s → TakeTurns s.bank (banks_of (committed_on p rows (live m)))
  unfolding committed_on exec trace.trace
  all_turns [] m s h = tt
  all_turns (row ∷ rows) m s h =
      subst (TakeTurns s.bank) (sym (banks_append (commits_in p row.on (live m)) (if is_running e.ending then committed_on p rows (fail_behind row e) else [])))
      (turns_more s.bank (banks_of (commits_in p row.on (live m))) (banks_of (if is_running e.ending then committed_on p rows (fail_behind row e) else [])) first.turns
      (subst (λ b. TakeTurns b (banks_of (if is_running e.ending then committed_on p rows (fail_behind row e) else []))) (sym behind)
      (by e.ending refl (λ on. all_turns rows (begun_again row e) (cells.failed x.rules.core (after s h.last.front)) (h.rest on)))))
    where
      e : machine.State
      e = exec p row.on (live m)

      first : Turns 0 row.on m s
      first = boot_turns row.on m s (λ n few. h.cuts n (suc n) few (omega arith)) row.on 0 (omega arith)

      behind : last_or s.bank (banks_of (commits_in p row.on (live m))) ≡ (after s h.last.front).bank
      behind = let none : 0 + row.on ≡ row.on = omega arith in first.last ∙ ap (λ j. bank_at j m s) none ∙ sym (cut_bank row.on m s h.last)

      by : (k : Ending) → e.ending ≡ k → (e.ending ≡ Running → TakeTurns (after s h.last.front).bank (banks_of (committed_on p rows (live (begun_again row e)))))
          → TakeTurns (after s h.last.front).bank (banks_of (if is_running e.ending then committed_on p rows (fail_behind row e) else []))
      by Running is rest =
          subst (λ b. TakeTurns (after s h.last.front).bank (banks_of (if b then committed_on p rows (fail_behind row e) else []))) (sym (ap is_running is))
          (subst (λ t. TakeTurns (after s h.last.front).bank (banks_of (committed_on p rows t))) (sym (fails_live row e is)) (rest is))
      by Halted is rest = subst (λ b. TakeTurns (after s h.last.front).bank (banks_of (if b then committed_on p rows (fail_behind row e) else []))) (sym (ap is_running is)) tt
      by (Trapped code) is rest = subst (λ b. TakeTurns (after s h.last.front).bank (banks_of (if b then committed_on p rows (fail_behind row e) else []))) (sym (ap is_running is)) tt
