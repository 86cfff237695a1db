-- A commit: the homes that the acts have left are what a boot finds, and what the next attempt begins with.
use Rattle.std.proofs.Common.{◌≡◌, ◌∙◌, ℕ, ◌+◌, ◌-◌, ◌≤◌, Bool, true, false, ◌==◌, cond, [], length, get_or, refl, sym, ap, subst, arith, eqb-true}
use Rattle.std.proofs.lemmas.Bool.{ne_eqb}
use Rattle.task_ast.specs.declared.core_form.CoreTask.{CoreTask}
use Rattle.task_ast.specs.declared.core_form.Core.{Core}
use Rattle.walk_run.specs.Store.{shown_words, Store, word_at}
use Rattle.walk_run.specs.Laws.{HasItsConstants}
use Rattle.word_isa.specs.declared.parts.Scheme.{Scheme}
use Rattle.word_isa.specs.declared.parts.Scheme.TheVariants.{Undo, Bank}
use Rattle.run_plan.specs.declared.act.Act.TheVariants as act
use Rattle.run_plan.specs.Cells.{joined, State, turned, aside_at}
use Rattle.run_plan.specs.Deeds.{next_bank}
use Rattle.run_plan.specs.Runs.{committed_words, Onward, Planned, with_state, at_task, doing, act_run}
use Rattle.plan_restore.specs.Found.{is_saved, found_by, found_at}
use Rattle.plan_restore.proofs.Lists.{is_itself}
use Rattle.plan_restore.proofs.Puts.{joined_const, Shaped, HaveSameWords, shown_same, joined_count, joined_kept, joined_shaped}
use Rattle.plan_restore.proofs.Steps.{Holds}
use Rattle.plan_restore.proofs.Open.{view, IsNumbered, IsSafe, none_saved}

-- safe, and under `undo` with all homes as they were committed
pub record IsReady (p : Planned) (e : Store) (s : State) : Type 0 where
  pub safe : IsSafe p e s
  pub whole : p.plan.scheme ≡ Undo → HaveSameWords p.rules.core s.store e

-- the state behind a commit, by whether the bank stays
abbrev committed : Core → (stays : Bool) → State → (next bank : ℕ) → State
committed c stays s n bank = record (turned stays c.arrays s) { epoch = s.epoch + 1; task = n; bank = bank }

-- what is at most an epoch is not the next
past : (x n : ℕ) → x ≤ n → (x == n + 1) ≡ false
past x n few = ne_eqb x (n + 1) (λ is. absurd (omega (arith, few, is)))

past_true : {A : Type 0} (x n : ℕ) → x ≤ n → (x == n + 1) ≡ true → A
past_true x n few is = let same : x ≡ n + 1 = eqb-true x (n + 1) is in absurd (omega (arith, few, same))

module _ (p : Planned) where
  abbrev c : Core
  c = p.rules.core

  undo_safe : p.plan.scheme ≡ Undo → (s : State) (n bank : ℕ) → Shaped c s.store.words → Shaped c s.aside → IsNumbered (view s) → HasItsConstants c s.store → IsReady p s.store (committed c true s n bank)
  undo_safe undo s n bank shaped shaped_aside numbered consts = record {
    safe = record {
      entry = shaped;
      entry_constants = consts;
      constants = consts;
      shaped = shaped;
      shaped_aside = shaped_aside;
      numbered = record {
        started = omega arith;
        locks = λ r. (let few = numbered.locks r in omega (arith, few));
        flags = λ k. (let few = numbered.flags k in omega (arith, few));
      };
      finds = λ at home.
          let firsts = at_task p.plan.firsts n [] in
          let locks : ℕ → Bool = (λ r. s.cells.lock r == s.epoch + 1) in
          subst (λ k. found_by k (is_saved firsts locks (length firsts) at.array) (aside_at s at) (word_at s.store at) ≡ word_at s.store at) (sym undo)
          (ap (λ b. cond b (aside_at s at) (word_at s.store at)) (none_saved firsts locks (length firsts) at.array (λ r. past (s.cells.lock r) s.epoch (numbered.locks r))));
      records = λ t is k at copy holds to. past_true (s.cells.flag k) s.epoch (numbered.flags k) holds;
    };
    whole = λ u at home. refl;
  }

  bank_safe : p.plan.scheme ≡ Bank → (s : State) (n bank : ℕ) → Shaped c s.store.words → Shaped c s.aside → IsNumbered (view s) → HasItsConstants c s.store → IsReady p s.store (committed c false s n bank)
  bank_safe is_bank s n bank shaped shaped_aside numbered consts = record {
    safe = record {
      entry = shaped;
      entry_constants = consts;
      constants = λ m a is const. joined_const c.arrays s.aside s.store.words m a shaped_aside.count shaped.count is const ∙ consts m a is const;
      shaped = joined_shaped c s.aside s.store.words shaped_aside shaped.count;
      shaped_aside = joined_shaped c s.store.words s.aside shaped shaped_aside.count;
      numbered = record {
        started = omega arith;
        locks = λ r. (let few = numbered.locks r in omega (arith, few));
        flags = λ k. (let few = numbered.flags k in omega (arith, few));
      };
      finds = λ at home. subst (λ k. found_at k (at_task p.plan.firsts n []) (committed c false s n bank) at ≡ word_at s.store at) (sym is_bank)
          (ap (λ ws. get_or ws at.index 0) (joined_kept c.arrays s.store.words s.aside at.array shaped.count shaped_aside.count home.kept));
      records = λ t is k at copy holds to. past_true (s.cells.flag k) s.epoch (numbered.flags k) holds;
    };
    whole = λ undo at home. absurd (let clash : Undo ≡ Bank = sym undo ∙ is_bank in cc clash);
  }

  other_bank : (n : ℕ) → (1 - n == n) ≡ false
  other_bank n = ne_eqb (1 - n) n (λ is. absurd (omega (arith, is)))

  -- behind a commit
  ready : (k : Scheme) → p.plan.scheme ≡ k → (s : State) (n : ℕ) → Shaped c s.store.words → Shaped c s.aside → IsNumbered (view s) → HasItsConstants c s.store → IsReady p s.store (committed c (next_bank k s.bank == s.bank) s n (next_bank k s.bank))
  ready Undo is s n shaped shaped_aside numbered consts = subst (λ b. IsReady p s.store (committed c b s n s.bank)) (sym (is_itself s.bank)) (undo_safe is s n s.bank shaped shaped_aside numbered consts)
  ready Bank is s n shaped shaped_aside numbered consts = subst (λ b. IsReady p s.store (committed c b s n (1 - s.bank))) (sym (other_bank s.bank)) (bank_safe is s n (1 - s.bank) shaped shaped_aside numbered consts)

  -- and what the run shows behind it
  shown : (k : Scheme) (s : State) (n : ℕ) → Shaped c s.store.words → Shaped c s.aside → committed_words k c (committed c (next_bank k s.bank == s.bank) s n (next_bank k s.bank)) ≡ shown_words c.arrays s.store.words
  shown Undo s n shaped shaped_aside = subst (λ b. committed_words Undo c (committed c b s n s.bank) ≡ shown_words c.arrays s.store.words) (sym (is_itself s.bank)) refl
  shown Bank s n shaped shaped_aside =
      subst (λ b. committed_words Bank c (committed c b s n (1 - s.bank)) ≡ shown_words c.arrays s.store.words) (sym (other_bank s.bank))
      (shown_same c.arrays (joined c.arrays s.store.words s.aside) s.store.words (joined_count c.arrays s.store.words s.aside shaped.count shaped_aside.count ∙ sym shaped.count)
      (λ a kept. joined_kept c.arrays s.store.words s.aside a shaped.count shaped_aside.count kept))

  abbrev Safe : Store → State → Type 0
  Safe = IsSafe p

  -- what goes on behind a commit, from whatever is committed
  abbrev pub Again : Onward → Type 0
  Again again = (e : Store) → Holds p Safe e (IsReady p e) again

  pub commit_holds : (t : CoreTask) (number : ℕ) (e : Store) (I : State → Type 0) → ((s : State) → I s → Shaped c s.store.words × Shaped c s.aside × IsNumbered (view s) × HasItsConstants c s.store) → (again : Onward) → Again again → (n : ℕ) (go : Onward)
      → Holds p Safe e I (act_run (doing p number t) again (act.Commit n) go)
  commit_holds t number e I parts again fine n go at h =
      let s = at.state in
      let known = parts s h in
      let is = ready p.plan.scheme refl s n known.0 known.1 known.2 known.3 in
      let after = committed c (next_bank p.plan.scheme s.bank == s.bank) s n (next_bank p.plan.scheme s.bank) in (
        record { safe = is.safe; begun = λ b. absurd b; commit = λ b. shown p.plan.scheme s n known.0 known.1; bank = λ b aside. aside },
        (record { safe = is.safe; begun = λ b. absurd b; commit = λ b. absurd b; bank = λ b aside. aside }, fine s.store (with_state after (record at { weights = _ })) is),
      )
