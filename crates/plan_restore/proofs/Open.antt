-- The claims that acts keep: a state is safe if a boot finds the committed store in it, and open if besides an attempt goes
-- on in it with so many regions saved.
use Rattle.std.proofs.Common.{◌≡◌, ◌∙◌, ◌⊎◌, inl, inr, ℕ, zero, suc, ◌+◌, ◌<◌, ◌≤◌, Bool, true, false, ◌==◌, ◌||◌, ◌&&◌, List, [], length, slice_get, slice_index_or, refl, sym, ap, subst, arith}
use Rattle.std.specs.Prelude.{Option, Some, None}
use Rattle.std.proofs.lemmas.Bool.{or_left, or_right, or_cases, and_parts, true≢false, cases_lt}
use Rattle.task_ast.specs.declared.core_form.CoreTask.{CoreTask}
use Rattle.task_ast.specs.declared.core_form.Core.{Core}
use Rattle.task_ast.specs.Pointing.{pointing}
use Rattle.io_depend.specs.Sets.{has}
use Rattle.region_split.specs.Regions.{writes_before, keeps_words, region_of, regions}
use Rattle.walk_run.specs.declared.place.Place.{Place}
use Rattle.walk_run.specs.Store.{Store, word_at}
use Rattle.walk_run.specs.Laws.{HasItsConstants}
use Rattle.word_isa.specs.declared.parts.Scheme.{Scheme}
use Rattle.word_isa.specs.declared.parts.Scheme.TheVariants.{Undo, Bank}
use Rattle.task_attempts.specs.Boots.{task_of}
use Rattle.run_plan.specs.Cells.{CopyValued, State, aside_at}
use Rattle.run_plan.specs.Small.{lock_holds}
use Rattle.run_plan.specs.Kinds.{IsCopy}
use Rattle.run_plan.specs.Runs.{Planned, at_task}
use Rattle.plan_restore.specs.Found.{IsHome, is_saved, found_by, found}
use Rattle.plan_restore.proofs.Puts.{Shaped, NotConst}
use Rattle.plan_restore.proofs.Regions.{touched, still_before}
use Rattle.plan_restore.proofs.Writing.{AllWithin}

-- what claims see of a state
pub record View : Type 0 where
  pub store : Store
  pub aside : List (List ℕ)
  pub lock : ℕ → ℕ
  pub flag : ℕ → ℕ
  pub to : ℕ → Option Place
  pub epoch : ℕ
  pub task : ℕ
  pub target : Option (Option Place)
  pub copy : Option CopyValued

abbrev pub view : State → View
view s = record {
  store = s.store;
  aside = s.aside;
  lock = s.cells.lock;
  flag = s.cells.flag;
  to = s.cells.to;
  epoch = s.epoch;
  task = s.task;
  target = s.frame.target;
  copy = s.frame.copy;
}

-- a word aside
abbrev pub aside_word : View → Place → ℕ
aside_word v at = word_at (record { words = v.aside; pointers = [] }) at

-- a lock holds
abbrev pub held : View → ℕ → Bool
held v r = v.lock r == v.epoch

-- an array may be written where so many regions are saved
abbrev pub MayBy : Scheme → Core → CoreTask → (saved array : ℕ) → Type 0
MayBy Undo c t m a = keeps_words (slice_get c.arrays a) ≡ true → writes_before (touched t) m a ≡ true
MayBy Bank c t m a = Unit {0}

-- and isn't constant
abbrev pub MayWrite : Scheme → Core → CoreTask → (saved array : ℕ) → Type 0
MayWrite scheme c t m a = MayBy scheme c t m a × NotConst c a

pub may_later : (scheme : Scheme) (c : Core) (t : CoreTask) (m n a : ℕ) → MayBy scheme c t m a → MayBy scheme c t (m + n) a
may_later Undo c t m n a may = λ kept. still_before (touched t) m n a (may kept)
may_later Bank c t m n a may = tt

pub write_later : (scheme : Scheme) (c : Core) (t : CoreTask) (m n a : ℕ) → MayWrite scheme c t m a → MayWrite scheme c t (m + n) a
write_later scheme c t m n a may = (may_later scheme c t m n a may.0, may.1)

-- numbers of locks and flags are at most the epoch, which isn't 0
pub record IsNumbered (v : View) : Type 0 where
  pub started : 0 < v.epoch
  pub locks : (r : ℕ) → v.lock r ≤ v.epoch
  pub flags : (k : ℕ) → v.flag k ≤ v.epoch

-- where a copy's flag holds, its recorded destination may be written in its region
abbrev pub HasRecords : Scheme → Core → CoreTask → (flag : ℕ → ℕ) → (to : ℕ → Option Place) → (epoch : ℕ) → Type 0
HasRecords scheme c t flag to epoch = (k : ℕ) (at : Place) → IsCopy t k → (flag k == epoch) ≡ true → to k ≡ Some at → MayWrite scheme c t (region_of t k + 1) at.array

-- what outlives a failure
pub record IsSafe (p : Planned) (e : Store) (s : State) : Type 0 where
  pub entry : Shaped p.rules.core e.words
  pub entry_constants : HasItsConstants p.rules.core e
  pub constants : HasItsConstants p.rules.core s.store
  pub shaped : Shaped p.rules.core s.store.words
  pub shaped_aside : Shaped p.rules.core s.aside
  pub numbered : IsNumbered (view s)
  pub finds : (at : Place) → IsHome p.rules.core at → found p s at ≡ word_at e at
  pub records : (t : CoreTask) → task_of p.rules.core s.task ≡ Some t → HasRecords p.plan.scheme p.rules.core t s.cells.flag s.cells.to s.epoch

-- ---- saved arrays

saved_by : (firsts : List (List ℕ)) (locks : ℕ → Bool) (n q a : ℕ) → q < n → locks q ≡ true → has (slice_index_or firsts q []) a ≡ true → is_saved firsts locks n a ≡ true
saved_by firsts locks zero q a less lock there = absurd (omega (arith, less))
saved_by firsts locks (suc n) q a less lock there = by_order (cases_lt q n) (λ h. saved_by firsts locks n q a h lock there)
  where
    by_order : (q < n) ⊎ (n ≤ q) → (q < n → is_saved firsts locks n a ≡ true) → (is_saved firsts locks n a || (locks n && has (slice_index_or firsts n []) a)) ≡ true
    by_order (inl h) more = or_left (is_saved firsts locks n a) _ (more h)
    by_order (inr h) more =
        let e : q ≡ n = omega (arith, h, less) in
        or_right (is_saved firsts locks n a) _ (subst (λ k. (locks k && has (slice_index_or firsts k []) a) ≡ true) e (λ i. lock i && there i))

-- a region that saves an array
pub record Saves (firsts : List (List ℕ)) (locks : ℕ → Bool) (n a : ℕ) : Type 0 where
  pub region : ℕ
  pub there : region < n
  pub lock : locks region ≡ true
  pub is_first : has (slice_index_or firsts region []) a ≡ true

pub saver : (firsts : List (List ℕ)) (locks : ℕ → Bool) (n a : ℕ) → is_saved firsts locks n a ≡ true → Saves firsts locks n a
saver firsts locks zero a is = absurd (cc is)
saver firsts locks (suc n) a is = by_cases (or_cases (is_saved firsts locks n a) (locks n && has (slice_index_or firsts n []) a) is) (saver firsts locks n a)
  where
    by_cases : (is_saved firsts locks n a ≡ true) ⊎ ((locks n && has (slice_index_or firsts n []) a) ≡ true) → (is_saved firsts locks n a ≡ true → Saves firsts locks n a) → Saves firsts locks (suc n) a
    by_cases (inl h) more = let s = more h in record { region = s.region; there = (let less = s.there in omega (arith, less)); lock = s.lock; is_first = s.is_first }
    by_cases (inr h) more = let both = and_parts (locks n) _ h in record { region = n; there = omega arith; lock = both.0; is_first = both.1 }

pub saves_it : (firsts : List (List ℕ)) (locks : ℕ → Bool) (n q a : ℕ) → q < n → locks q ≡ true → has (slice_index_or firsts q []) a ≡ true → is_saved firsts locks n a ≡ true
saves_it firsts locks n q a less lock there = saved_by firsts locks n q a less lock there

-- nothing is saved where no lock holds
pub none_saved : (firsts : List (List ℕ)) (locks : ℕ → Bool) (n a : ℕ) → ((r : ℕ) → locks r ≡ false) → is_saved firsts locks n a ≡ false
none_saved firsts locks n a none = by_test (is_saved firsts locks n a) refl
  where
    by_test : (b : Bool) → is_saved firsts locks n a ≡ b → b ≡ false
    by_test true is = let s = saver firsts locks n a is in absurd (true≢false (sym s.lock ∙ none s.region))
    by_test false is = refl

-- ---- open states

module _ (scheme : Scheme) (c : Core) (t : CoreTask) (number : ℕ) (firsts : List (List ℕ)) (e : Store) where
  abbrev pub May : (saved array : ℕ) → Type 0
  May = MayWrite scheme c t

  -- Under `undo` the locks of the saved regions hold, and what no saved region may write is at home as it was committed.
  pub record IsStanding (m : ℕ) (v : View) : Type 0 where
    pub whole : (at : Place) → IsHome c at → writes_before (touched t) m at.array ≡ false → word_at v.store at ≡ word_at e at
    pub locked : (q : ℕ) → q < m → held v q ≡ true
    pub few : m ≤ regions t

  abbrev pub Stands : Scheme → (saved : ℕ) → View → Type 0
  Stands Undo m v = IsStanding m v
  Stands Bank m v = Unit {0}

  -- an attempt goes on, with so many regions saved, and what was valued in a region up to another
  pub record IsOpen (m r : ℕ) (v : View) : Type 0 where
    pub task : v.task ≡ number
    pub entry : Shaped c e.words
    pub entry_constants : HasItsConstants c e
    pub constants : HasItsConstants c v.store
    pub shaped : Shaped c v.store.words
    pub shaped_aside : Shaped c v.aside
    pub numbered : IsNumbered v
    pub finds : (at : Place) → IsHome c at → found_by scheme (is_saved firsts (held v) (length firsts) at.array) (aside_word v at) (word_at v.store at) ≡ word_at e at
    pub stands : Stands scheme m v
    pub records : HasRecords scheme c t v.flag v.to v.epoch
    pub pointers : AllWithin (pointing t) v.store
    pub target : (at : Place) → v.target ≡ Some (Some at) → May r at.array
    pub copy : (u : CopyValued) → v.copy ≡ Some u → May r u.to.array

  abbrev pub Open : (m r : ℕ) → State → Type 0
  Open m r s = IsOpen m r (view s)

-- ---- what is open is safe

same_task : (t u : CoreTask) (o : Option CoreTask) → o ≡ Some t → o ≡ Some u → t ≡ u
same_task t u o a b = ap (λ x. out x t) (sym a ∙ b)
  where
    out : Option CoreTask → CoreTask → CoreTask
    out None d = d
    out (Some x) d = x

pub open_safe : (p : Planned) (t : CoreTask) (number : ℕ) (e : Store) (m r : ℕ) (s : State) → task_of p.rules.core number ≡ Some t
    → Open p.plan.scheme p.rules.core t number (at_task p.plan.firsts number []) e m r s → IsSafe p e s
open_safe p t number e m r s there h = record {
  entry = h.entry;
  entry_constants = h.entry_constants;
  constants = h.constants;
  shaped = h.shaped;
  shaped_aside = h.shaped_aside;
  numbered = h.numbered;
  finds = λ at home. subst (λ n. found_by p.plan.scheme (is_saved (at_task p.plan.firsts n []) (lock_holds s) (length (at_task p.plan.firsts n [])) at.array) (aside_at s at) (word_at s.store at) ≡ word_at e at) (sym h.task) (h.finds at home);
  records = λ u is. subst (λ x. HasRecords p.plan.scheme p.rules.core x s.cells.flag s.cells.to s.epoch) (same_task t u (task_of p.rules.core s.task) (ap (task_of p.rules.core) h.task ∙ there) is) h.records;
}
