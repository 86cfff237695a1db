-- The tables of annotations as arithmetic: blocks that are entered, and calls and copies that choose.
use Rattle.act_laws.specs.Templates.{EnterDoes, ChooseDoes, ChooseCopyDoes}
use Rattle.act_laws.specs.Words.{mode_word, stamp_in, record_in, is_kept, FitsLimit, Around}
use Rattle.std.specs.Prelude.{◌==◌, if◌then◌else◌, nat_lt, ◌-◌, bit_and, not}
use Rattle.std.proofs.Common.{◌≡◌, ℕ, ◌+◌, ◌*◌, ◌/◌, ◌%◌, ◌^◌, ◌<◌, ◌≤◌, Bool, true, false, [], ◌++◌, Option, Some, None, refl, arith}
use Rattle.std.proofs.lemmas.Bool.Decides.{nat_tests}
use Rattle.task_ast.specs.declared.tree.Ann.{Ann}
use Rattle.task_ast.specs.declared.tree.Ann.TheVariants.{Single, Timely, Always}
use Rattle.task_ast.specs.declared.core_form.Site.TheVariants as site
use Rattle.fram_ram.specs.Memories.{has_word, put}
use Rattle.io_annot.specs.declared.choice.Mode.{Mode}
use Rattle.io_annot.specs.declared.choice.Mode.TheVariants.{Own, Keep, Force}
use Rattle.io_annot.specs.declared.choice.Choice.{Choice}
use Rattle.io_annot.specs.declared.choice.Choice.TheVariants as chosen
use Rattle.io_annot.specs.Choice.{is_expired, choice}
use Rattle.block_scope.specs.Enter.{entered}
use Rattle.word_machine.specs.State.{Program}
use Rattle.word_machine.specs.Straight.{Spot}
use Rattle.word_code.specs.Acts.{jump}
use Rattle.word_code.specs.Frames.{flag_at, stamp_at, outer_at, begun_at}
use Rattle.word_code.specs.Tables.{enter_code, keeps_code, branch}
use Rattle.line_laws.specs.Standing.{Lie}
use Rattle.act_laws.specs.Codes.{Fixed, top, Acts, FramCell, RamCell}
use Rattle.act_laws.specs.CodeLaws.{line_acts, branch_acts, fram_cell, ram_cell}

-- a truth as a word
abbrev pub bit : Bool → ℕ
bit b = if b then 1 else 0

-- the inside mode of Own as the code finds it, from the record's bit and whether its stamp is late
abbrev own_word : Ann → (has late : Bool) → ℕ
own_word Single has late = 1 * bit has % 2 ^ 32
own_word Always has late = 2
own_word (Timely limit) has late = (bit late + 1) % 2 ^ 32 * bit has % 2 ^ 32

abbrev inside_word : Ann → Mode → (has late : Bool) → ℕ
inside_word ann m has late = (own_word ann has late * bit (mode_word m == 0) % 2 ^ 32 + mode_word m) % 2 ^ 32

-- whether the record of a timely block is late, as the code finds it
abbrev pub late_of : Ann → (stamp t : ℕ) → Bool
late_of (Timely limit) stamp t = is_expired limit stamp t
late_of Single stamp t = false
late_of Always stamp t = false

inside_is : (ann : Ann) (m : Mode) (has : Bool) (stamp t : ℕ) (late : Bool) → (has ≡ true → late_of ann stamp t ≡ late) → inside_word ann m has late ≡ mode_word (entered m ann (stamp_in has stamp) t)
inside_is Single Own true stamp t late e = refl
inside_is Single Own false stamp t late e = refl
inside_is Single Keep true stamp t late e = refl
inside_is Single Keep false stamp t late e = refl
inside_is Single Force true stamp t late e = refl
inside_is Single Force false stamp t late e = refl
inside_is Always Own has stamp t late e = refl
inside_is Always Keep has stamp t late e = refl
inside_is Always Force has stamp t late e = refl
inside_is (Timely limit) Own true stamp t true e = rw (e refl)
inside_is (Timely limit) Own true stamp t false e = rw (e refl)
inside_is (Timely limit) Own false stamp t true e = refl
inside_is (Timely limit) Own false stamp t false e = refl
inside_is (Timely limit) Keep true stamp t true e = refl
inside_is (Timely limit) Keep true stamp t false e = refl
inside_is (Timely limit) Keep false stamp t true e = refl
inside_is (Timely limit) Keep false stamp t false e = refl
inside_is (Timely limit) Force true stamp t true e = refl
inside_is (Timely limit) Force true stamp t false e = refl
inside_is (Timely limit) Force false stamp t true e = refl
inside_is (Timely limit) Force false stamp t false e = refl

-- the limit's number, and the difference of a time and an earlier stamp
limit_is : (n : ℕ) → n < 2 ^ 32 → n / 65536 * 65536 + n % 65536 % 65536 ≡ n
limit_is n h = omega (arith, h)

apart_is : (t stamp : ℕ) → stamp ≤ t → t < 2 ^ 32 → (t + (2 ^ 32 - stamp)) % 2 ^ 32 ≡ t - stamp
apart_is t stamp h k = omega (arith, h, k)

-- a record is expired where the difference is above the limit
late_is : (limit t stamp : ℕ) → stamp ≤ t → t < 2 ^ 32 → is_expired limit stamp t ≡ nat_lt limit ((t + (2 ^ 32 - stamp)) % 2 ^ 32)
late_is limit t stamp h k = rw (apart_is t stamp h k) (grind (arith, nat_tests, h))

-- a block is entered
pub enter_acts : (ann : Ann) (p : Program) (x : Fixed) (k next : ℕ) (s : Spot) (m : Mode) (has : Bool) → EnterDoes ann p x k next s m has
unfolding has_word
enter_acts Single p x k next s m has a high at =
    let g : FramCell (flag_at k) = fram_cell (flag_at k) (omega (arith, a.site)) in
    let t : FramCell (stamp_at k) = fram_cell (stamp_at k) (omega (arith, a.site)) in
    let b : RamCell (begun_at k) = ram_cell (begun_at k) (omega (arith, a.site)) in
    let o : RamCell (outer_at k) = ram_cell (outer_at k) (omega (arith, a.site)) in
    line_acts p x 21 (enter_code Single k) next (top x s) _ at
    (rw (g.wraps, g.fram, b.wraps, o.wraps, b.apart, b.ram, o.apart, o.ram)) (refl, refl, refl, refl, refl) refl
    (rw (← (inside_is Single m has (s.store (stamp_at k)) (s.store 1048613) false (λ h. refl)), g.wraps, b.wraps, o.wraps, a.recorded, a.mode)) refl
    (rw (b.wraps, o.wraps, b.apart, o.apart)) (omega arith)
enter_acts Always p x k next s m has a high at =
    let g : FramCell (flag_at k) = fram_cell (flag_at k) (omega (arith, a.site)) in
    let t : FramCell (stamp_at k) = fram_cell (stamp_at k) (omega (arith, a.site)) in
    let b : RamCell (begun_at k) = ram_cell (begun_at k) (omega (arith, a.site)) in
    let o : RamCell (outer_at k) = ram_cell (outer_at k) (omega (arith, a.site)) in
    line_acts p x 21 (enter_code Always k) next (top x s) _ at
    (rw (g.wraps, g.fram, b.wraps, o.wraps, b.apart, b.ram, o.apart, o.ram)) (refl, refl, refl, refl, refl) refl
    (rw (← (inside_is Always m has (s.store (stamp_at k)) (s.store 1048613) false (λ h. refl)), b.wraps, o.wraps, a.mode)) refl
    (rw (b.wraps, o.wraps, b.apart, o.apart)) (omega arith)
enter_acts (Timely limit) p x k next s m has a high at =
    let g : FramCell (flag_at k) = fram_cell (flag_at k) (omega (arith, a.site)) in
    let t : FramCell (stamp_at k) = fram_cell (stamp_at k) (omega (arith, a.site)) in
    let b : RamCell (begun_at k) = ram_cell (begun_at k) (omega (arith, a.site)) in
    let o : RamCell (outer_at k) = ram_cell (outer_at k) (omega (arith, a.site)) in
    line_acts p x 21 (enter_code (Timely limit) k) next (top x s) _ at
    (rw (g.wraps, g.fram, t.wraps, t.fram, b.wraps, o.wraps, b.apart, b.ram, o.apart, o.ram)) (refl, refl, refl, refl, refl) refl
    (rw (← (inside_is (Timely limit) m has (s.store (stamp_at k)) (s.store 1048613) (nat_lt limit ((s.store 1048613 + (2 ^ 32 - s.store (stamp_at k))) % 2 ^ 32)) (λ h. late_is limit (s.store 1048613) (s.store (stamp_at k)) (a.earlier h) a.fits)), g.wraps, t.wraps, b.wraps, o.wraps, a.recorded, a.mode, limit_is limit a.limit)) refl
    (rw (b.wraps, o.wraps, b.apart, o.apart)) (omega arith)

-- whether a site keeps, as the code finds it
keeps_word : Ann → Mode → (has late : Bool) → ℕ
keeps_word ann m has late = bit_and (bit (inside_word ann m has late == 1)) (bit has)

keeps_is : (ann : Ann) (m : Mode) (has : Bool) (value stamp t : ℕ) (late : Bool) → (has ≡ true → late_of ann stamp t ≡ late) → (keeps_word ann m has late == 0) ≡ not (is_kept (choice m ann (record_in has value stamp) t))
unfolding keeps_word
keeps_is Single Own true value stamp t late e = refl
keeps_is Single Own false value stamp t late e = refl
keeps_is Single Keep true value stamp t late e = refl
keeps_is Single Keep false value stamp t late e = refl
keeps_is Single Force true value stamp t late e = refl
keeps_is Single Force false value stamp t late e = refl
keeps_is Always Own true value stamp t late e = refl
keeps_is Always Own false value stamp t late e = refl
keeps_is Always Keep true value stamp t late e = refl
keeps_is Always Keep false value stamp t late e = refl
keeps_is Always Force true value stamp t late e = refl
keeps_is Always Force false value stamp t late e = refl
keeps_is (Timely limit) Own true value stamp t true e = rw (e refl)
keeps_is (Timely limit) Own true value stamp t false e = rw (e refl)
keeps_is (Timely limit) Own false value stamp t true e = refl
keeps_is (Timely limit) Own false value stamp t false e = refl
keeps_is (Timely limit) Keep true value stamp t true e = refl
keeps_is (Timely limit) Keep true value stamp t false e = refl
keeps_is (Timely limit) Keep false value stamp t true e = refl
keeps_is (Timely limit) Keep false value stamp t false e = refl
keeps_is (Timely limit) Force true value stamp t true e = refl
keeps_is (Timely limit) Force true value stamp t false e = refl
keeps_is (Timely limit) Force false value stamp t true e = refl
keeps_is (Timely limit) Force false value stamp t false e = refl

-- an I/O site chooses: it keeps, or issues
pub choose_acts : (ann : Ann) (p : Program) (x : Fixed) (k value keep issue : ℕ) (s : Spot) (m : Mode) (has : Bool) → ChooseDoes ann p x k value keep issue s m has
unfolding has_word keeps_word
choose_acts Single p x k value keep issue s m has a at =
    let g : FramCell (flag_at k) = fram_cell (flag_at k) (omega (arith, a.site)) in
    let t : FramCell (stamp_at k) = fram_cell (stamp_at k) (omega (arith, a.site)) in
    branch_acts p x 20 (keeps_code (Some (site.Io Single)) k) 1 keep issue (top x s) _ at (rw (g.wraps, g.fram)) (refl, refl, refl, refl, refl)
    (rw (← (keeps_is Single m has value (s.store (stamp_at k)) (s.store 1048613) false (λ h. refl)), g.wraps, a.recorded, a.mode)) refl refl refl (omega arith)
choose_acts Always p x k value keep issue s m has a at =
    let g : FramCell (flag_at k) = fram_cell (flag_at k) (omega (arith, a.site)) in
    let t : FramCell (stamp_at k) = fram_cell (stamp_at k) (omega (arith, a.site)) in
    branch_acts p x 20 (keeps_code (Some (site.Io Always)) k) 1 keep issue (top x s) _ at (rw (g.wraps, g.fram)) (refl, refl, refl, refl, refl)
    (rw (← (keeps_is Always m has value (s.store (stamp_at k)) (s.store 1048613) false (λ h. refl)), g.wraps, a.recorded, a.mode)) refl refl refl (omega arith)
choose_acts (Timely limit) p x k value keep issue s m has a at =
    let g : FramCell (flag_at k) = fram_cell (flag_at k) (omega (arith, a.site)) in
    let t : FramCell (stamp_at k) = fram_cell (stamp_at k) (omega (arith, a.site)) in
    branch_acts p x 20 (keeps_code (Some (site.Io (Timely limit))) k) 1 keep issue (top x s) _ at (rw (g.wraps, g.fram, t.wraps, t.fram)) (refl, refl, refl, refl, refl)
    (rw (← (keeps_is (Timely limit) m has value (s.store (stamp_at k)) (s.store 1048613) (nat_lt limit ((s.store 1048613 + (2 ^ 32 - s.store (stamp_at k))) % 2 ^ 32)) (λ h. late_is limit (s.store 1048613) (s.store (stamp_at k)) (a.earlier h) a.fits)), g.wraps, t.wraps, a.recorded, a.mode, limit_is limit a.limit)) refl refl refl (omega arith)

-- a copy chooses: a record is kept
pub choose_copy_acts : (p : Program) (x : Fixed) (n k keep issue : ℕ) (s : Spot) (has : Bool) → ChooseCopyDoes p x n k keep issue s has
unfolding has_word
choose_copy_acts p x n k keep issue s true low recorded at =
    let c : FramCell (flag_at k) = fram_cell (flag_at k) (omega (arith, low)) in
    branch_acts p x 4 (keeps_code (Some (site.Copy n)) k) 1 keep issue (top x s) false at (rw (c.wraps, c.fram)) (refl, refl, refl, refl, refl) (rw (c.wraps, recorded)) refl refl refl (omega arith)
choose_copy_acts p x n k keep issue s false low recorded at =
    let c : FramCell (flag_at k) = fram_cell (flag_at k) (omega (arith, low)) in
    branch_acts p x 4 (keeps_code (Some (site.Copy n)) k) 1 keep issue (top x s) true at (rw (c.wraps, c.fram)) (refl, refl, refl, refl, refl) (rw (c.wraps, recorded)) refl refl refl (omega arith)
