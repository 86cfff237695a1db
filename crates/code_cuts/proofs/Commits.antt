-- A commit is cut well: its one word is seen with its event, and behind it memory stands for whichever task is next.
use Rattle.std.specs.Prelude.{◌==◌, length, if◌then◌else◌}
use Rattle.std.proofs.Common.{◌≡◌, ◌≢◌, ◌∙◌, ℕ, zero, suc, ◌+◌, ◌-◌, ◌*◌, ◌/◌, ◌%◌, ◌^◌, ◌<◌, ◌≤◌, inl, inr, Bool, true, false, List, [], ◌∷◌, ◌++◌, refl, sym, ap, subst, arith}
use Rattle.devices.specs.Journal.{Place, commits}
use Rattle.devices.specs.declared.event.Event.TheVariants as the
use Rattle.fram_ram.specs.Memories.{has_word, put}
use Rattle.task_ast.specs.declared.core_form.Array.{Array}
use Rattle.task_ast.specs.declared.core_form.Core.{Core}
use Rattle.task_ast.specs.declared.core_form.CoreTask.{CoreTask}
use Rattle.task_ast.specs.WellFormed.{IsWellFormed}
use Rattle.word_isa.specs.declared.instr.Instr.TheVariants.{Add, Adi, Ldi, Mov, Shl, Shr, St}
use Rattle.word_isa.specs.declared.mark.MarkKind.TheVariants as mark
use Rattle.word_isa.specs.declared.parts.Scheme.{Scheme}
use Rattle.word_isa.specs.declared.parts.Scheme.TheVariants.{Undo, Bank}
use Rattle.word_machine.specs.State.{Program}
use Rattle.word_machine.specs.Step.{exec}
use Rattle.word_machine.specs.Straight.{Spot, live}
use Rattle.word_machine.specs.Traces as trace
use Rattle.line_code.specs.declared.line.Line.{Line}
use Rattle.line_code.specs.Lines.{bares, marked}
use Rattle.line_laws.specs.Standing.{Lie, lie_front}
use Rattle.run_plan.specs.declared.act.Act.TheVariants as act
use Rattle.run_plan.specs.Cells.{State, puts_state, turned}
use Rattle.run_plan.specs.Deeds.{next_bank}
use Rattle.run_plan.specs.Small.{Atom, Doing, core_of, writing}
use Rattle.word_code.specs.Acts.{jump}
use Rattle.word_code.specs.Frames.{Frame, sign, stride, stub_at}
use Rattle.word_code.specs.Heads.{commit_code, fix_code}
use Rattle.act_laws.specs.Codes.{Acts, Fixed, HasFixed, top}
use Rattle.act_laws.specs.CodeLaws.{goes_code, shape_is}
use Rattle.act_laws.specs.Templates.{CommitDoes}
use Rattle.act_laws.specs.Words.{fixed_of, state_word}
use Rattle.cell_laws.specs.Standing.{worked}
use Rattle.act_refines.specs.Between.{AreRelated, IsBank, MemoryStands, committed_at, fixed_in}
use Rattle.act_refines.specs.Does.{DoesAct, GoesOn, MayCommit, RelatedBehind, frame_of}
use Rattle.act_refines.specs.Seen.{IsFront, Seen, behind, puts, tells, trace_seen}
use Rattle.act_refines.proofs.Going.{goes_on, related_at}
use Rattle.act_refines.proofs.Simple.{WritesKeep}
use Rattle.act_refines.proofs.Statements.{FramKeeps}
use Rattle.code_cuts.specs.Acts.{AreWhole, CommitsEarly, CutsAct, IsRunning, IsThrough, SoFar}
use Rattle.code_cuts.specs.Lasting.{Lasts, MayFollow, doing_of}
use Rattle.code_cuts.proofs.Cutting.{front_lasts, front_near}
use Rattle.code_cuts.proofs.Following.{clock_stays}
use Rattle.code_cuts.proofs.Memories.{counts_behind, fram_behind}
use Rattle.code_cuts.proofs.Steps.{steps_over}

-- ---- its write and its event are one step

abbrev before_write : (task : ℕ) → List Line
before_write task = bares (Mov 1 13 ∷ Adi 1 1 ∷ Ldi 2 8 ∷ Shl 1 2 ∷ Adi 1 (2 * task) ∷ Mov 2 14 ∷ Ldi 3 11 ∷ Shr 2 3 ∷ Add 1 2 ∷ [])

abbrev with_write : Frame → (task : ℕ) → List Line
with_write f task = before_write task ++ (marked (sign f mark.Commit task) (St 1 0 0) ∷ [])

quiet_before : (p : Program) (x : Fixed) (f : Frame) (task to : ℕ) (s : Spot) → Lie p s.pc (commit_code f task ++ jump to) → length (trace.trace p 9 (live (top x s))) ≡ 0
quiet_before p x f task to s has =
    ap length (goes_code p (before_write task) (top x s) (lie_front p s.pc (before_write task) ((marked (sign f mark.Commit task) (St 1 0 0) ∷ fix_code (stride f.scheme)) ++ jump to) has) refl).seen

two_with : (p : Program) (x : Fixed) (f : Frame) (task to : ℕ) (s : Spot) → Lie p s.pc (commit_code f task ++ jump to) → length (trace.trace p 10 (live (top x s))) ≡ 2
unfolding has_word
two_with p x f task to s has = ap length (goes_code p (with_write f task) (top x s) (lie_front p s.pc (with_write f task) (fix_code (stride f.scheme) ++ jump to) has) refl).seen

commit_over : (p : Program) (place_of : ℕ → Place) (x : Fixed) (f : Frame) (task to : ℕ) (m : Spot) → HasFixed x m → Lie p m.pc (commit_code f task ++ jump to) → (n : ℕ) → length (trace_seen place_of (trace.trace p n (live m))) ≢ 1
commit_over p place_of x f task to m fixed has =
    let none : length (trace.trace p 9 (live m)) ≡ 0 = subst (λ r. length (trace.trace p 9 (live (record m { regs = r }))) ≡ 0) (sym (shape_is x m fixed)) (quiet_before p x f task to m has) in
    let two : length (trace.trace p 10 (live m)) ≡ 2 = subst (λ r. length (trace.trace p 10 (live (record m { regs = r }))) ≡ 2) (sym (shape_is x m fixed)) (two_with p x f task to m has) in
    steps_over p place_of 9 m 1 (omega (arith, none)) (omega (arith, two))

some_steps : (p : Program) (place_of : ℕ → Place) (n : ℕ) (m : Spot) (x : Seen) (xs : List Seen) → trace_seen place_of (trace.trace p n (live m)) ≡ x ∷ xs → 1 ≤ n
unfolding trace.trace
some_steps p place_of zero m x xs is = absurd (cc is)
some_steps p place_of (suc n) m x xs is = omega arith

two_seen : (x y a b : Seen) (rest more : List Seen) → x ∷ y ∷ (rest ++ more) ≡ a ∷ b ∷ [] → x ∷ y ∷ rest ≡ a ∷ b ∷ []
two_seen x y a b [] more is = cc is
two_seen x y a b (z ∷ rest) more is = absurd (cc is)

same_looks : (b : Bool) (arrays : List Array) (s : State) → (turned b arrays s).looks ≡ s.looks
same_looks true arrays s = refl
same_looks false arrays s = refl

same_cells : (b : Bool) (arrays : List Array) (s : State) → (turned b arrays s).cells ≡ s.cells
same_cells true arrays s = refl
same_cells false arrays s = refl

-- ---- the act

module _ (keep : WritesKeep) (fram : FramKeeps) (p : Program) (place_of : ℕ → Place) (d : Doing) (number task : ℕ) (m : Spot) (s : State) (well : IsWellFormed (core_of d)) (related : AreRelated p d true m s) (to : ℕ) where
  abbrev c : Core
  c = core_of d

  abbrev atoms : List Atom
  atoms = writing (puts_state (s.epoch + 1) task (next_bank d.scheme s.bank)) (commits task) ∷ []

  abbrev committed : State
  committed = behind (core_of d) (writing (puts_state (s.epoch + 1) task (next_bank d.scheme s.bank)) (commits task) ∷ []) s

  abbrev seen : List Seen
  seen = puts 0 (state_word (s.epoch + 1) task (next_bank d.scheme s.bank)) ∷ tells (commits task) ∷ []

  -- memory behind it, as the act's law says
  memory_behind : (g : GoesOn p place_of 32 m to seen (λ there. RelatedBehind p d (act.Commit task) there committed)) (t : CoreTask) → MemoryStands p (doing_of d.setting.rules d.scheme t) false (put m.store 0 (state_word (s.epoch + 1) task (next_bank d.scheme s.bank))) m.issued committed
  memory_behind g t =
      let e : Doing = doing_of d.setting.rules d.scheme t in
      let h : AreRelated p e false g.there committed = g.related t [] in
      let shown : trace_seen place_of (trace.trace p g.steps (live m)) ≡ seen = ap (trace_seen place_of) g.goes.seen ∙ g.shown in
      let counts : g.there.issued ≡ m.issued = sym (ap (λ u. u.issued) g.goes.runs) ∙ counts_behind p place_of g.steps m seen shown in
      let words : (a : ℕ) → a < 65536 → put m.store 0 (state_word (s.epoch + 1) task (next_bank d.scheme s.bank)) a ≡ g.there.store a = λ a low. sym (fram_behind p place_of g.steps m seen shown a low) ∙ ap (λ u. u.store a) g.goes.runs in
      subst (λ k. MemoryStands p e false (put m.store 0 (state_word (s.epoch + 1) task (next_bank d.scheme s.bank))) k committed) counts
      (fram p e g.there.store (put m.store 0 (state_word (s.epoch + 1) task (next_bank d.scheme s.bank))) g.there.issued committed well h.memory words)

  -- no record holds behind it, as no flag is of a later epoch, and no stamp is of the future
  follows_behind : MayFollow d m.clock s → (t : CoreTask) (n : ℕ) → MayFollow (doing_of d.setting.rules d.scheme t) (exec p n (live m)).clock committed
  follows_behind follows t n =
      let cells : committed.cells ≡ s.cells = same_cells (next_bank d.scheme s.bank == s.bank) (core_of d).arrays s in
      record {
        records = λ k here is. absurd (omega (arith, ap (λ x. x.flag k) cells, is, related.memory.tidy.flags k here));
        past = λ k. omega (arith, ap (λ x. x.stamp k) cells, follows.past k, clock_stays p n (live m));
      }

  -- and wherever its word and event are seen
  through : GoesOn p place_of 32 m to seen (λ there. RelatedBehind p d (act.Commit task) there committed) → MayFollow d m.clock s → task ≤ length (core_of d).tasks → (n : ℕ) → trace_seen place_of (trace.trace p n (live m)) ≡ seen → IsThrough p (core_of d) d.scheme (Lasts p d.setting.rules d.scheme) n m s atoms
  through g follows low n is =
      let some : 1 ≤ n = some_steps p place_of n m _ _ is in
      record {
        stood = λ t may. record {
          memory = subst (λ k. MemoryStands p (doing_of d.setting.rules d.scheme t) false (exec p n (live m)).store k committed) (sym (counts_behind p place_of n m seen is))
              (fram p (doing_of d.setting.rules d.scheme t) (put m.store 0 (state_word (s.epoch + 1) task (next_bank d.scheme s.bank))) (exec p n (live m)).store m.issued committed well (memory_behind g t) (fram_behind p place_of n m seen is));
          follows = follows_behind follows t n;
        };
        near = record { epoch = omega (arith, some); task = refl; bank = refl; looks = same_looks (next_bank d.scheme s.bank == s.bank) (core_of d).arrays s; there = λ there. low };
      }

  so_far : GoesOn p place_of 32 m to seen (λ there. RelatedBehind p d (act.Commit task) there committed) → MayFollow d m.clock s → task ≤ length (core_of d).tasks → IsRunning d s → ((n : ℕ) → length (trace_seen place_of (trace.trace p n (live m))) ≢ 1)
      → (n : ℕ) (xs : List Seen) → trace_seen place_of (trace.trace p n (live m)) ≡ xs → IsFront xs seen → SoFar p place_of (core_of d) d.scheme (Lasts p d.setting.rules d.scheme) n m s atoms
  so_far g follows low runs over n [] is h =
      record { front = []; left = atoms; whole = refl; shown = is; stood = front_lasts keep fram p place_of d true m s well related runs follows [] n tt is; near = front_near keep fram p place_of d true m s well related runs follows [] n tt }
  so_far g follows low runs over n (x ∷ []) is h = absurd (over n (ap length is))
  so_far g follows low runs over n (x ∷ y ∷ xs) is h =
      let shown : trace_seen place_of (trace.trace p n (live m)) ≡ seen = is ∙ two_seen x y _ _ xs h.rest h.joined in
      let whole : IsThrough p (core_of d) d.scheme (Lasts p d.setting.rules d.scheme) n m s atoms = through g follows low n shown in
      record { front = atoms; left = []; whole = refl; shown = shown; stood = whole.stood; near = whole.near }

  whole_commit : GoesOn p place_of 32 m to seen (λ there. RelatedBehind p d (act.Commit task) there committed) → MayFollow d m.clock s → task ≤ length (core_of d).tasks → IsRunning d s → ((n : ℕ) → length (trace_seen place_of (trace.trace p n (live m))) ≢ 1)
      → AreWhole p place_of (core_of d) d.scheme (Lasts p d.setting.rules d.scheme) m s atoms
  whole_commit g follows low runs over = record {
    fronts = λ n h. so_far g follows low runs over n (trace_seen place_of (trace.trace p n (live m))) refl h;
    last = λ n is. through g follows low n is;
  }

abbrev CommitIsDone : Type 0
CommitIsDone = (p : Program) (place_of : ℕ → Place) (d : Doing) (number : ℕ) (keeps : Bool) (task : ℕ) → task < 128 → DoesAct p place_of d number keeps (act.Commit task) MayCommit

pub commit_cuts : WritesKeep → FramKeeps → CommitIsDone
    → (p : Program) (place_of : ℕ → Place) (d : Doing) (number : ℕ) (keeps : Bool) (task : ℕ) → task < 128 → task ≤ length (core_of d).tasks → CutsAct p place_of d number keeps (act.Commit task) MayCommit
commit_cuts keep fram done p place_of d number keeps task few low next m s well has related runs follows early =
    let to : ℕ = stub_at (length (core_of d).tasks) task in (
      whole_commit keep fram p place_of d number task m s well related to (done p place_of d number keeps task few next m s well has related early) follows low runs (commit_over p place_of (fixed_in d.scheme s) (frame_of d number) task to m related.fixed has),
      record { epoch = refl; task = refl; bank = refl; looks = refl; cells = refl },
    )

-- ---- its steps

bank_next : (scheme : Scheme) (bank : ℕ) → IsBank scheme bank → worked scheme bank / 2 ^ 11 ≡ next_bank scheme bank
bank_next Undo bank is = sym is
bank_next Bank bank (inl is) = subst (λ b. worked Bank b / 2 ^ 11 ≡ next_bank Bank b) (sym is) refl
bank_next Bank bank (inr is) = subst (λ b. worked Bank b / 2 ^ 11 ≡ next_bank Bank b) (sym is) refl

is_bank_next : (scheme : Scheme) (bank : ℕ) → IsBank scheme bank → IsBank scheme (next_bank scheme bank)
is_bank_next Undo bank is = is
is_bank_next Bank bank (inl is) = inr (ap (λ b. 1 - b) is)
is_bank_next Bank bank (inr is) = inl (ap (λ b. 1 - b) is)

bank_small : (scheme : Scheme) (bank : ℕ) → IsBank scheme bank → bank < 2
bank_small Undo bank is = omega (arith, is)
bank_small Bank bank (inl is) = omega (arith, is)
bank_small Bank bank (inr is) = omega (arith, is)

-- the fixed registers of a state word, by arithmetic and by the scheme
abbrev fixed_by : (stride e b : ℕ) → Fixed
fixed_by stride e b = record { committed = b * stride % 2 ^ 32; epoch = e; working = (if b == 0 then 1 else 0) * stride % 2 ^ 32 }

abbrev fixed_at : Scheme → (e b : ℕ) → Fixed
fixed_at scheme e b = record { committed = committed_at scheme b; epoch = e; working = worked scheme b }

fixed_word : (stride e t b : ℕ) → t < 128 → b < 2 → fixed_of stride (state_word e t b) ≡ fixed_by stride e b
fixed_word stride e t b few small =
    let low : state_word e t b % 2 ≡ b = omega (arith, small) in
    let high : state_word e t b / 2 ^ 8 ≡ e = omega (arith, small, few) in
    λ i. record { committed = low i * stride % 2 ^ 32; epoch = high i; working = (if low i == 0 then 1 else 0) * stride % 2 ^ 32 }

fixed_bank : (scheme : Scheme) (e b : ℕ) → IsBank scheme b → fixed_by (stride scheme) e b ≡ fixed_at scheme e b
fixed_bank Undo e b is = subst (λ b. fixed_by 0 e b ≡ fixed_at Undo e b) (sym is) refl
fixed_bank Bank e b (inl is) = subst (λ b. fixed_by 2048 e b ≡ fixed_at Bank e b) (sym is) refl
fixed_bank Bank e b (inr is) = subst (λ b. fixed_by 2048 e b ≡ fixed_at Bank e b) (sym is) refl

pub commit_early : ((p : Program) (x : Fixed) (f : Frame) (task next : ℕ) (s : Spot) → CommitDoes p x f task next s) → WritesKeep → FramKeeps → CommitIsDone
    → (p : Program) (place_of : ℕ → Place) (d : Doing) (number : ℕ) (keeps : Bool) (task : ℕ) → task < 128 → CommitsEarly p place_of d number keeps (act.Commit task)
commit_early template keep fram done p place_of d number keeps task few next m s well has related early =
    let x : Fixed = fixed_in d.scheme s in
    let bank : ℕ = next_bank d.scheme s.bank in
    let is_next : worked d.scheme s.bank / 2 ^ 11 ≡ bank = bank_next d.scheme s.bank related.memory.tidy.bank in
    let is_bank : IsBank d.scheme bank = is_bank_next d.scheme s.bank related.memory.tidy.bank in
    let small : bank < 2 = bank_small d.scheme bank is_bank in
    let word : ℕ = state_word (s.epoch + 1) task bank in
    let to : ℕ = stub_at (length (core_of d).tasks) task in
    let g = done p place_of d number keeps task few next m s well has related early in
    let acts : Acts p (fixed_of (stride d.scheme) word) 25 (top x m) (record { pc = to; store = put m.store 0 word; issued = m.issued; atoms = trace.wrote 0 word ∷ trace.showed (the.Commit task) ∷ [] }) =
    subst (λ b. Acts p (fixed_of (stride d.scheme) (state_word (s.epoch + 1) task b)) 25 (top x m) (record { pc = to; store = put m.store 0 (state_word (s.epoch + 1) task b); issued = m.issued; atoms = trace.wrote 0 (state_word (s.epoch + 1) task b) ∷ trace.showed (the.Commit task) ∷ [] }))
    is_next (template p x (frame_of d number) task to m early few (subst (λ b. b < 2) (sym is_next) small) has) in
    goes_on p place_of x (fixed_of (stride d.scheme) word) 25 31 m _ to _ _ related.fixed acts (omega arith) refl refl
    (λ there fixed stored issued t firsts.
    let e : Doing = record d { setting = record d.setting { task = t }; firsts = firsts } in
    let h : MemoryStands p (doing_of d.setting.rules d.scheme t) false (put m.store 0 word) m.issued (committed keep fram p place_of d number task m s well related to) = memory_behind keep fram p place_of d number task m s well related to g t in
    related_at p e false there (put m.store 0 word) m.issued (committed keep fram p place_of d number task m s well related to)
    (subst (λ y. HasFixed y there) (fixed_word (stride d.scheme) (s.epoch + 1) task bank few small ∙ fixed_bank d.scheme (s.epoch + 1) bank is_bank) fixed) stored issued
    (record { cells = h.cells; constants = h.constants; ram = tt; readings = record { values = h.readings.values; counts = h.readings.counts }; tidy = h.tidy }))
