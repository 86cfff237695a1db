-- So it is of every plan: its copies are found where their sites say, and lead on.
use Rattle.std.specs.Prelude.{◌-◌, cond, filter, take}
use Rattle.std.proofs.Common.{◌≡◌, ℕ, ◌+◌, ◌≤◌, Bool, true, false, List, [], ◌∷◌, length, arith}
use Rattle.std.proofs.lemmas.List.{length-take}
use Rattle.devices.specs.Journal.{Place}
use Rattle.devices.specs.declared.world.PowerRow.{PowerRow}
use Rattle.region_split.specs.Regions.{copies, is_copy}
use Rattle.task_ast.specs.WellFormed.{IsCoreTask, IsWellFormed}
use Rattle.task_ast.specs.declared.core_form.Core.{Core}
use Rattle.task_ast.specs.declared.core_form.Site.{Site}
use Rattle.task_attempts.specs.Boots.{expect}
use Rattle.task_attempts.specs.Journals.{all_events, cuts_of, looks_of}
use Rattle.task_attempts.specs.Sound.{AllSealed, ends_from}
use Rattle.task_attempts.specs.State.{Rules}
use Rattle.word_isa.specs.declared.parts.Scheme.{Scheme}
use Rattle.word_machine.specs.Runs.{journal}
use Rattle.word_machine.specs.State.{Program}
use Rattle.word_machine.specs.Straight.{Spot, live}
use Rattle.run_plan.specs.PlanOf.{around, plan_of}
use Rattle.word_code.specs.Within.{HasPlaces}
use Rattle.word_code.proofs.FitLaws.{plan_fits}
use Rattle.word_code.proofs.SiteLaws.{body_finds}
use Rattle.code_places.specs.Placed.{IsPlaced}
use Rattle.code_places.proofs.ActGoods.{IsSmall, sum_front}
use Rattle.code_places.proofs.CodeGoods.{frame_small}
use Rattle.seal_steps.specs.Places.{TellsMemory}
use Rattle.seal_steps.specs.Soon.{AllFollow}
use Rattle.seal_steps.proofs.CopyFlows.{body_copies}
use Rattle.seal_steps.proofs.Whole.{CopiesLead, all_at, boot_follows, few_args, frame, journal_sealed}

-- few copies
count_if : (t : Bool) (x : Site) (xs : List Site) (n : ℕ) → length xs ≤ n → length (cond t (x ∷ xs) xs) ≤ n + 1
count_if true x xs n few = omega (arith, few)
count_if false x xs n few = omega (arith, few)

copies_few : (sites : List Site) → copies sites ≤ length sites
copies_few [] = omega arith
copies_few (x ∷ sites) = omega (arith, count_if (is_copy x) x (filter is_copy sites) (length sites) (copies_few sites))

module _ (c : Core) (scheme : Scheme) (w : IsWellFormed c) (places : HasPlaces c) (place_of : ℕ → Place) (tells : TellsMemory c place_of) (p : Program) (placed : IsPlaced p (plan_of c scheme) c) where
  every_copy : (n : ℕ) → CopiesLead c scheme w place_of p placed n
  every_copy n m t there =
      let task : IsCoreTask c t = all_at (IsCoreTask c) c.tasks m t w.tasks there in
      let small : IsSmall (frame c scheme w place_of p placed m t) = frame_small (plan_of c scheme) c m t w (plan_fits c scheme w) places task in
      let few : length t.sites ≤ 128 = task.sites.few in
      body_copies c place_of p tells (frame c scheme w place_of p placed m t) (few_args c scheme w place_of p placed m t there) (λ k. omega (arith, sum_front (k - 1) t.sites, small.kept)) small.low n (around scheme t)
      (λ k. omega (arith, copies_few (take k t.sites), length-take k t.sites, few)) t.body (body_finds t.body 1 (length t.sites) task.sites.numbers)

  -- behind each event of a boot whose record must be sealed the machine tells something soon
  pub follows : (n : ℕ) (m : Spot) → m.pc ≡ 0 → AllFollow c place_of p n (live m)
  follows n m pc = boot_follows c scheme w place_of p placed every_copy n n m (omega arith) pc tt

  pub sealed : (rules : Rules) → rules.core ≡ c → (rows : List PowerRow) (m : Spot) → m.pc ≡ 0 → all_events (journal place_of p rows (live m)) ≡ expect rules (cuts_of (journal place_of p rows (live m))) (looks_of (journal place_of p rows (live m)))
      → AllSealed c (journal place_of p rows (live m)).boots (ends_from (journal place_of p rows (live m)).boots (journal place_of p rows (live m)).steps)
  sealed rules same rows m pc legal = journal_sealed c scheme w place_of p placed every_copy rules same rows m pc legal
