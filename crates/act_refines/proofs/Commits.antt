-- A commit does its act: one word, and memory stands for what any next task begins with.
use Rattle.std.specs.Prelude.{◌==◌, ◌⊎◌, min, slice_index, slice_index_or, if◌then◌else◌}
use Rattle.std.proofs.Common.{◌≡◌, ◌∙◌, ℕ, zero, suc, ◌+◌, ◌-◌, ◌*◌, ◌/◌, ◌%◌, ◌^◌, ◌<◌, ◌≤◌, inl, inr, Bool, true, false, List, [], ◌∷◌, length, refl, sym, ap, subst, arith}
use Rattle.devices.specs.Journal.{Place}
use Rattle.devices.specs.declared.event.Event.TheVariants as the
use Rattle.fram_ram.specs.Memories.{put}
use Rattle.task_ast.specs.declared.tree.Kind.{Kind}
use Rattle.task_ast.specs.declared.tree.Kind.TheVariants.{Nv, Const, Vol}
use Rattle.task_ast.specs.declared.core_form.Array.{Array}
use Rattle.task_ast.specs.declared.core_form.Core.{Core}
use Rattle.task_ast.specs.declared.core_form.CoreTask.{CoreTask}
use Rattle.task_ast.specs.WellFormed.{IsWellFormed}
use Rattle.walk_run.specs.declared.place.Place as walked
use Rattle.walk_run.specs.Store.{Store, words_of}
use Rattle.word_isa.specs.declared.parts.Scheme.{Scheme}
use Rattle.word_isa.specs.declared.parts.Scheme.TheVariants.{Undo, Bank}
use Rattle.word_machine.specs.State.{Program}
use Rattle.word_machine.specs.Straight.{Spot}
use Rattle.word_machine.specs.Traces as trace
use Rattle.line_code.specs.declared.areas.Free.{Free}
use Rattle.line_code.specs.Areas.{area_at, area_of, areas_from, free_at_first, free_of}
use Rattle.line_laws.specs.Relation.{base_at}
use Rattle.run_plan.specs.declared.act.Act.TheVariants as act
use Rattle.run_plan.specs.Cells.{State, after_write, joined, of_home, puts_state, turned, with_words}
use Rattle.run_plan.specs.Deeds.{next_bank}
use Rattle.run_plan.specs.Small.{Doing, core_of}
use Rattle.word_code.specs.Frames.{Frame, stride, stub_at}
use Rattle.act_laws.specs.Codes.{Acts, Fixed, HasFixed, top}
use Rattle.act_laws.specs.Templates.{CommitDoes}
use Rattle.act_laws.specs.Words.{fixed_of, state_word}
use Rattle.layout_laws.specs.Layouts.{LieInAreas, layout_of}
use Rattle.cell_laws.specs.Standing.{CommitFits, HaveHomes, Stands, address_in, word_of, worked}
use Rattle.cell_laws.proofs.Puts.{below}
use Rattle.ram_laws.specs.Ram.{AreWhole, HasConstants}
use Rattle.ram_laws.proofs.Stays.{arrays_stay, constant_in}
use Rattle.act_refines.specs.Between.{IsBank, IsTidy, committed_at, fixed_in}
use Rattle.act_refines.specs.Does.{DoesAct, MayCommit, frame_of}
use Rattle.act_refines.proofs.Going.{goes_on, related_at}

-- ---- banks

-- the bank that the code of a commit works out
bank_next : (scheme : Scheme) (bank : ℕ) → IsBank scheme bank → worked scheme bank / 2 ^ 11 ≡ next_bank scheme bank
bank_next Undo bank is = sym is
bank_next Bank bank (inl is) = subst (λ b. worked Bank b / 2 ^ 11 ≡ next_bank Bank b) (sym is) refl
bank_next Bank bank (inr is) = subst (λ b. worked Bank b / 2 ^ 11 ≡ next_bank Bank b) (sym is) refl

is_bank_next : (scheme : Scheme) (bank : ℕ) → IsBank scheme bank → IsBank scheme (next_bank scheme bank)
is_bank_next Undo bank is = is
is_bank_next Bank bank (inl is) = inr (ap (λ b. 1 - b) is)
is_bank_next Bank bank (inr is) = inl (ap (λ b. 1 - b) is)

bank_small : (scheme : Scheme) (bank : ℕ) → IsBank scheme bank → bank < 2
bank_small Undo bank is = omega (arith, is)
bank_small Bank bank (inl is) = omega (arith, is)
bank_small Bank bank (inr is) = omega (arith, is)

same_bank : (scheme : Scheme) (bank : ℕ) → scheme ≡ Undo → next_bank scheme bank ≡ bank
same_bank Undo bank is = refl
same_bank Bank bank is = absurd (cc is)

other_bank : (scheme : Scheme) (bank : ℕ) → IsBank scheme bank → scheme ≡ Bank → (next_bank scheme bank ≡ 1 × bank ≡ 0) ⊎ (next_bank scheme bank ≡ 0 × bank ≡ 1)
other_bank Undo bank is bad = absurd (cc bad)
other_bank Bank bank (inl is) two = inl (ap (λ b. 1 - b) is, is)
other_bank Bank bank (inr is) two = inr (ap (λ b. 1 - b) is, is)

-- the fixed registers of a state word, by arithmetic and by the scheme
abbrev fixed_by : (stride e b : ℕ) → Fixed
fixed_by stride e b = record { committed = b * stride % 2 ^ 32; epoch = e; working = (if b == 0 then 1 else 0) * stride % 2 ^ 32 }

abbrev fixed_at : Scheme → (e b : ℕ) → Fixed
fixed_at scheme e b = record { committed = committed_at scheme b; epoch = e; working = worked scheme b }

fixed_word : (stride e t b : ℕ) → t < 128 → b < 2 → fixed_of stride (state_word e t b) ≡ fixed_by stride e b
fixed_word stride e t b few small =
    let low : state_word e t b % 2 ≡ b = omega (arith, small) in
    let high : state_word e t b / 2 ^ 8 ≡ e = omega (arith, small, few) in
    λ i. record { committed = low i * stride % 2 ^ 32; epoch = high i; working = (if low i == 0 then 1 else 0) * stride % 2 ^ 32 }

fixed_bank : (scheme : Scheme) (e b : ℕ) → IsBank scheme b → fixed_by (stride scheme) e b ≡ fixed_at scheme e b
fixed_bank Undo e b is = subst (λ b. fixed_by 0 e b ≡ fixed_at Undo e b) (sym is) refl
fixed_bank Bank e b (inl is) = subst (λ b. fixed_by 2048 e b ≡ fixed_at Bank e b) (sym is) refl
fixed_bank Bank e b (inr is) = subst (λ b. fixed_by 2048 e b ≡ fixed_at Bank e b) (sym is) refl

-- ---- the two areas change their parts

other_here : (f : Free) (k : Kind) (n : ℕ) (h o : List ℕ) → (area_of f k n).base ≡ 0 → of_home k h o ≡ o
other_here f Nv n h o is = absurd (omega (arith, is))
other_here f Const n h o is = refl
other_here f Vol n h o is = absurd (omega (arith, is))

pub home_here : (f : Free) (k : Kind) (n : ℕ) (h o : List ℕ) → (area_of f k n).base ≡ 14 → of_home k h o ≡ h
home_here f Nv n h o is = refl
home_here f Const n h o is = absurd (omega (arith, is))
home_here f Vol n h o is = absurd (omega (arith, is))

joined_other : (f : Free) (arrays : List Array) (homes others : List (List ℕ)) (a : ℕ) → length homes ≡ length arrays → length others ≡ length arrays → (area_at (areas_from f arrays) a).base ≡ 0
    → slice_index_or (joined arrays homes others) a [] ≡ slice_index_or others a []
joined_other f [] homes others a one two is = refl
joined_other f (x ∷ arrays) [] others a one two is = absurd (omega (arith, one))
joined_other f (x ∷ arrays) (h ∷ homes) [] a one two is = absurd (omega (arith, two))
joined_other f (x ∷ arrays) (h ∷ homes) (o ∷ others) zero one two is = other_here f x.kind (length x.first) h o is
joined_other f (x ∷ arrays) (h ∷ homes) (o ∷ others) (suc a) one two is = joined_other (free_of f x.kind (length x.first)) arrays homes others a (omega (arith, one)) (omega (arith, two)) is

pub joined_home : (f : Free) (arrays : List Array) (homes others : List (List ℕ)) (a : ℕ) → length homes ≡ length arrays → length others ≡ length arrays → (area_at (areas_from f arrays) a).base ≡ 14
    → slice_index_or (joined arrays homes others) a [] ≡ slice_index_or homes a []
joined_home f [] homes others zero one two is = absurd (omega (arith, is))
joined_home f [] homes others (suc a) one two is = absurd (omega (arith, is))
joined_home f (x ∷ arrays) [] others a one two is = absurd (omega (arith, one))
joined_home f (x ∷ arrays) (h ∷ homes) [] a one two is = absurd (omega (arith, two))
joined_home f (x ∷ arrays) (h ∷ homes) (o ∷ others) zero one two is = home_here f x.kind (length x.first) h o is
joined_home f (x ∷ arrays) (h ∷ homes) (o ∷ others) (suc a) one two is = joined_home (free_of f x.kind (length x.first)) arrays homes others a (omega (arith, one)) (omega (arith, two)) is

pub joined_long : (arrays : List Array) (homes others : List (List ℕ)) → length homes ≡ length arrays → length others ≡ length arrays → length (joined arrays homes others) ≡ length arrays
joined_long [] homes others one two = two
joined_long (x ∷ arrays) [] others one two = absurd (omega (arith, one))
joined_long (x ∷ arrays) (h ∷ homes) [] one two = absurd (omega (arith, two))
joined_long (x ∷ arrays) (h ∷ homes) (o ∷ others) one two = omega (arith, joined_long arrays homes others (omega (arith, one)) (omega (arith, two)))

-- words that are those of another store are whole where those are
pub whole_like : (c : Core) (old new : Store) → ((a : ℕ) → base_at (layout_of c 0) a ≡ 14 → words_of new a ≡ words_of old a) → AreWhole c 14 old → AreWhole c 14 new
whole_like c old new same h = record {
  rooms = λ a is. ap length (same a is) ∙ h.rooms a is;
  fits = λ at here. subst (λ (ws : List ℕ). slice_index ws at.index < 2 ^ 32) (sym (same at.array here.counts)) (h.fits at here);
}

module _ (areas : (c : Core) (bank : ℕ) → IsWellFormed c → bank ≤ 2048 → LieInAreas (layout_of c bank)) (c : Core) (well : IsWellFormed c) (scheme : Scheme) (m : ℕ → ℕ) (s : State) (task bank w : ℕ) where
  -- the state behind a commit
  abbrev committed : (same : Bool) → State
  committed same = record (turned same c.arrays s) { epoch = s.epoch + 1; task = task; bank = bank }

  constants_committed : (same : Bool) → HaveHomes c s → HasConstants c m s.store → HasConstants c (put m 0 w) (committed same).store
  constants_committed true shape h =
      arrays_stay c 0 m (put m 0 w) s.store s.store (λ array is. refl) (λ at here. refl) (λ at here. let lies = constant_in areas c at well here in below m 0 w (address_in c 0 at) (omega (arith, lies.from))) h
  constants_committed false shape h =
      let new : Store = with_words (joined c.arrays s.aside s.store.words) s.store in
      let words : (a : ℕ) → base_at (layout_of c 0) a ≡ 0 → words_of new a ≡ words_of s.store a = λ a is. joined_other free_at_first c.arrays s.aside s.store.words a shape.others shape.homes is in
      arrays_stay c 0 m (put m 0 w) s.store new (λ array is. ap length (words array is)) (λ at here. ap (λ (ws : List ℕ). slice_index ws at.index) (words at.array here.counts))
      (λ at here. let lies = constant_in areas c at well here in below m 0 w (address_in c 0 at) (omega (arith, lies.from))) h

  tidy_committed : (same : Bool) → IsBank scheme bank → IsTidy c scheme s → IsTidy c scheme (committed same)
  tidy_committed true is h = record {
    shape = record { homes = h.shape.homes; others = h.shape.others };
    homes = h.homes;
    aside = h.aside;
    words = h.words;
    flags = λ k here. omega (arith, h.flags k here);
    started = omega arith;
    bank = is;
  }
  tidy_committed false is h =
      let new : Store = with_words (joined c.arrays s.aside s.store.words) s.store in
      let left : Store = with_words (joined c.arrays s.store.words s.aside) new in
      record {
        shape = record { homes = joined_long c.arrays s.aside s.store.words h.shape.others h.shape.homes; others = joined_long c.arrays s.store.words s.aside h.shape.homes h.shape.others };
        homes = whole_like c (with_words s.aside s.store) new (λ a counts. joined_home free_at_first c.arrays s.aside s.store.words a h.shape.others h.shape.homes counts) h.aside;
        aside = whole_like c s.store left (λ a counts. joined_home free_at_first c.arrays s.store.words s.aside a h.shape.homes h.shape.others counts) h.homes;
        words = h.words;
        flags = λ k here. omega (arith, h.flags k here);
        started = omega arith;
        bank = is;
      }

  issued_committed : (same : Bool) → (committed same).issued ≡ s.issued
  issued_committed true = refl
  issued_committed false = refl

abbrev CommitsStand : Type 0
CommitsStand =
    (c : Core) (scheme : Scheme) (t next : CoreTask) (m : ℕ → ℕ) (s : State) (epoch task bank : ℕ) → IsWellFormed c → Stands c scheme t m s → CommitFits c scheme s epoch bank
    → Stands c scheme next (put m 0 (word_of c scheme s (puts_state epoch task bank))) (after_write c.arrays (puts_state epoch task bank) s)

-- a commit
pub commit_does : ((p : Program) (x : Fixed) (f : Frame) (task next : ℕ) (s : Spot) → CommitDoes p x f task next s) → CommitsStand
    → ((c : Core) (bank : ℕ) → IsWellFormed c → bank ≤ 2048 → LieInAreas (layout_of c bank))
    → (p : Program) (place_of : ℕ → Place) (d : Doing) (number : ℕ) (keeps : Bool) (task : ℕ) → task < 128 → DoesAct p place_of d number keeps (act.Commit task) MayCommit
commit_does template commits areas p place_of d number keeps task few next m s well has related early =
    let c : Core = core_of d in
    let x : Fixed = fixed_in d.scheme s in
    let tidy : IsTidy c d.scheme s = related.memory.tidy in
    let bank : ℕ = next_bank d.scheme s.bank in
    let is_next : worked d.scheme s.bank / 2 ^ 11 ≡ bank = bank_next d.scheme s.bank tidy.bank in
    let is_bank : IsBank d.scheme bank = is_bank_next d.scheme s.bank tidy.bank in
    let small : bank < 2 = bank_small d.scheme bank is_bank in
    let word : ℕ = state_word (s.epoch + 1) task bank in
    let to : ℕ = stub_at (length c.tasks) task in
    let acts : Acts p (fixed_of (stride d.scheme) word) 25 (top x m) (record { pc = to; store = put m.store 0 word; issued = m.issued; atoms = trace.wrote 0 word ∷ trace.showed (the.Commit task) ∷ [] }) =
    subst (λ b. Acts p (fixed_of (stride d.scheme) (state_word (s.epoch + 1) task b)) 25 (top x m) (record { pc = to; store = put m.store 0 (state_word (s.epoch + 1) task b); issued = m.issued; atoms = trace.wrote 0 (state_word (s.epoch + 1) task b) ∷ trace.showed (the.Commit task) ∷ [] }))
    is_next (template p x (frame_of d number) task to m early few (subst (λ b. b < 2) (sym is_next) small) has) in
    let fits : CommitFits c d.scheme s (s.epoch + 1) bank = record {
      new = λ k here e. absurd (omega (arith, tidy.flags k here, e));
      shape = tidy.shape;
      same = same_bank d.scheme s.bank;
      other = other_bank d.scheme s.bank tidy.bank;
    } in
    goes_on p place_of x (fixed_of (stride d.scheme) word) 25 32 m _ to _ _ related.fixed acts (omega arith) refl refl
    (λ there fixed stored issued t firsts.
    related_at p (record d { setting = record d.setting { task = t }; firsts = firsts }) false there (put m.store 0 word) m.issued (after_write c.arrays (puts_state (s.epoch + 1) task bank) s)
    (subst (λ y. HasFixed y there) (fixed_word (stride d.scheme) (s.epoch + 1) task bank few small ∙ fixed_bank d.scheme (s.epoch + 1) bank is_bank) fixed) stored issued
    (record {
      cells = commits c d.scheme d.setting.task t m.store s (s.epoch + 1) task bank well related.memory.cells fits;
      constants = constants_committed areas c well d.scheme m.store s task bank word (bank == s.bank) tidy.shape related.memory.constants;
      ram = tt;
      readings =
          let same : (after_write c.arrays (puts_state (s.epoch + 1) task bank) s).issued ≡ s.issued = issued_committed areas c well d.scheme m.store s task bank word (bank == s.bank) in
          record { values = related.memory.readings.values; counts = λ q. subst (λ (issued : ℕ → ℕ). m.issued q ≡ min (issued q) (length (p.values q))) (sym same) (related.memory.readings.counts q) };
      tidy = tidy_committed areas c well d.scheme m.store s task bank word (bank == s.bank) is_bank tidy;
    }))
