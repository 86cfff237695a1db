-- Acts that value: tests and calls.
use Rattle.std.specs.Prelude.{◌==◌, cond, min, slice_get, slice_index, Option, Some, None, Result, Ok, Err, if◌then◌else◌}
use Rattle.std.proofs.Common.{◌≡◌, ◌≢◌, ◌∙◌, ℕ, zero, suc, ◌+◌, ◌-◌, ◌^◌, ◌<◌, ◌≤◌, Bool, true, false, List, [], ◌∷◌, ◌++◌, length, refl, sym, ap, subst, arith, eqb-true}
use Rattle.ease_base.specs.Found.{with_found}
use Rattle.ease_base.specs.declared.place.Peripheral.{Peripheral}
use Rattle.devices.specs.Journal.{Place, arguments_of, issues}
use Rattle.devices.specs.Reading.{reading, reading_in}
use Rattle.devices.specs.Readings.{issued_after, one_more}
use Rattle.fram_ram.specs.Memories.{put}
use Rattle.task_attempts.specs.Calls as calls
use Rattle.task_attempts.specs.Changes as changes
use Rattle.task_ast.specs.declared.core_form.CoreExpr.{CoreExpr}
use Rattle.task_ast.specs.declared.core_form.CoreStmt.{CoreStmt}
use Rattle.task_ast.specs.declared.core_form.CoreStmt.TheVariants as stmt
use Rattle.task_ast.specs.declared.core_form.CoreTarget.{CoreTarget}
use Rattle.task_ast.specs.WellFormed.{IsOver, IsWellFormed, scope_of}
use Rattle.walk_run.specs.declared.place.Place as walked
use Rattle.walk_run.specs.declared.trap.Trap.{Trap}
use Rattle.walk_run.specs.Operators.{holds}
use Rattle.walk_run.specs.Plain.{chosen}
use Rattle.walk_run.specs.PlainSteps.{expr_steps, target_steps, found_steps}
use Rattle.walk_run.specs.Store.{Store}
use Rattle.walk_run.specs.Trap.{code_of}
use Rattle.walk_run.specs.Value.{value_of, target_place}
use Rattle.word_machine.specs.State.{Program}
use Rattle.word_machine.specs.Straight.{Spot}
use Rattle.line_code.specs.Expressions.{expr_code}
use Rattle.line_code.specs.Fitting.{IsShort}
use Rattle.line_code.specs.Sizes.{expr_size}
use Rattle.line_code.specs.Areas.{area_at, areas_from, free_at_first}
use Rattle.run_plan.specs.declared.act.Act.TheVariants as act
use Rattle.run_plan.specs.Cells.{State}
use Rattle.run_plan.specs.Deeds.{all_values, value_done, issue_done}
use Rattle.run_plan.specs.Finding.{statement_of}
use Rattle.run_plan.specs.Small.{Doing, Done, ahead, core_of, does, first_way, have, second_way, same, sets_frame, showing, unless_fails}
use Rattle.run_plan.specs.Weights.{value_weight, values_steps}
use Rattle.line_laws.specs.Gives.{is_temp}
use Rattle.line_laws.specs.Relation.{Layout, Related, base_at, base_word, room_at}
use Rattle.line_laws.specs.Standing.{Lie}
use Rattle.line_laws.specs.Suits.{IsOverTarget}
use Rattle.word_code.specs.ActCode.{entry, test_code}
use Rattle.word_code.specs.Acts.{jump, issue_code}
use Rattle.word_code.specs.Finding.{statement_at}
use Rattle.word_code.specs.Frames as frames
use Rattle.word_code.specs.Frames.{Frame}
use Rattle.word_code.specs.Sizes.{row_size}
use Rattle.word_code.specs.Values.{value_code}
use Rattle.act_laws.specs.Codes.{Fixed, shaped}
use Rattle.act_laws.specs.Templates.{IssueDoes, Issues}
use Rattle.act_laws.specs.Values.{AreArguments, Argued, Based, CallDoes, TargetCallDoes, TestDoes, Tested, address_found, arguments_steps, with_arguments, with_more}
use Rattle.act_laws.specs.Words.{cell_args}
use Rattle.layout_laws.specs.Layouts.{layout_of}
use Rattle.cell_laws.specs.Standing.{address_in, worked}
use Rattle.ram_laws.specs.Notes.{notes_word}
use Rattle.ram_laws.specs.Ram.{HasArguments, HasWords}
use Rattle.ram_laws.proofs.Relating.{IsBase, base_in, of_constants, of_homes, of_volatile}
use Rattle.act_refines.specs.Between.{AreRelated, HasReadings, MemoryStands, fixed_in, with_rest}
use Rattle.act_refines.specs.Does.{AimsWell, DoesAct, Ends, IsCalledWith, Nothing, frame_of, way_at, way_to}
use Rattle.act_refines.specs.Seen.{tells}
use Rattle.act_refines.proofs.Choices.{two_parts}
use Rattle.act_refines.proofs.Going.{goes_from, goes_on, related_at, stops}
use Rattle.act_refines.proofs.Simple.{NotesCount}

-- ---- laws on memory

abbrev pub TempsKeep : Type 0
TempsKeep =
    (p : Program) (d : Doing) (m n counts : ℕ → ℕ) (s : State) → IsWellFormed (core_of d) → MemoryStands p d true m counts s → ((a : ℕ) → is_temp 0 a ≡ false → n a ≡ m a) → MemoryStands p d true n counts s

abbrev pub IsRelatedThere : Type 0
IsRelatedThere = (p : Program) (d : Doing) (m : Spot) (s : State) → IsWellFormed (core_of d) → AreRelated p d true m s → Related (layout_of (core_of d) (worked d.scheme s.bank)) (length (core_of d).pointers) m s.store

abbrev pub ArgumentsKeep : Type 0
ArgumentsKeep =
    (p : Program) (d : Doing) (m counts : ℕ → ℕ) (s : State) (words : List ℕ) → IsWellFormed (core_of d) → MemoryStands p d true m counts s → length words ≤ 4
    → MemoryStands p d true (with_arguments words 33 m) counts (with_rest (record s.frame { args = Some words }) s.looks s.issued s)

abbrev pub TargetsKeep : Type 0
TargetsKeep =
    (p : Program) (d : Doing) (m counts : ℕ → ℕ) (s : State) (at : walked.Place) → IsWellFormed (core_of d) → MemoryStands p d true m counts s
    → at.index < room_at (layout_of (core_of d) (worked d.scheme s.bank)) at.array → base_at (layout_of (core_of d) (worked d.scheme s.bank)) at.array ≢ 0
    → MemoryStands p d true (put m 1048608 (address_in (core_of d) (worked d.scheme s.bank) at)) counts (with_rest (record s.frame { target = Some (Some at) }) s.looks s.issued s)

abbrev pub NoTargetKeeps : Type 0
NoTargetKeeps = (p : Program) (d : Doing) (m counts : ℕ → ℕ) (s : State) → IsWellFormed (core_of d) → MemoryStands p d true m counts s → MemoryStands p d true m counts (with_rest (record s.frame { target = Some None }) s.looks s.issued s)

-- ---- a test

word_leads : (word first second next : ℕ) → (if holds word then first else second) ≡ way_to first second next next (chosen word first_way second_way)
word_leads zero first second next = refl
word_leads (suc n) first second next = refl

pub test_does : ((p : Program) (x : Fixed) (scope : _) (l : Layout) (store : Store) (e : CoreExpr) (first second : ℕ) (s : Spot) → TestDoes p x scope l store e first second s) → TempsKeep → IsRelatedThere
    → (p : Program) (place_of : ℕ → Place) (d : Doing) (number : ℕ) (keeps : Bool) (e : CoreExpr) (n : _) (yes_row : _) (i : _) (no_row : _) → IsOver (scope_of (core_of d) d.setting.task) e → IsShort 0 e
    → DoesAct p place_of d number keeps (act.Test' e n yes_row i no_row) Nothing
test_does template temps relates p place_of d number keeps e n yes_row i no_row over short next m s well has related asks = by_value (value_of e s.store) tested
  where
    first : ℕ
    first = entry yes_row (m.pc + expr_size e + 4) next

    second : ℕ
    second = entry no_row (m.pc + expr_size e + 4 + row_size (frame_of d number) yes_row) next

    tested : Tested p (fixed_in d.scheme s) (expr_steps e + 3) m (entry yes_row (m.pc + expr_size e + 4) next) (entry no_row (m.pc + expr_size e + 4 + row_size (frame_of d number) yes_row) next) (value_of e s.store)
    tested = template p (fixed_in d.scheme s) (scope_of (core_of d) d.setting.task) (layout_of (core_of d) (worked d.scheme s.bank)) s.store e _ _ m related.fixed (relates p d m s well related) over short
        (two_parts p m.pc (expr_code (areas_from free_at_first (core_of d).arrays) e 0 m.pc) (test_code (entry yes_row (m.pc + expr_size e + 4) next) (entry no_row (m.pc + expr_size e + 4 + row_size (frame_of d number) yes_row) next)) _ has)

    by_value : (r : Result ℕ Trap) → Tested p (fixed_in d.scheme s) (expr_steps e + 3) m (entry yes_row (m.pc + expr_size e + 4) next) (entry no_row (m.pc + expr_size e + 4 + row_size (frame_of d number) yes_row) next) r
        → Ends p place_of d (act.Test' e n yes_row i no_row) (16 + expr_steps e) (way_at (frame_of d number) (act.Test' e n yes_row i no_row) m.pc next) m s (unless_fails r (λ word. does [] same (chosen word first_way second_way)))
    by_value (Ok word) near =
        goes_from p place_of (fixed_in d.scheme s) (expr_steps e + 3) (16 + expr_steps e) m _ _ _ _ near.acts (omega arith)
        (word_leads word (entry yes_row (m.pc + expr_size e + 4) next) (entry no_row (m.pc + expr_size e + 4 + row_size (frame_of d number) yes_row) next) next) refl
        (λ there fixed stored issued. related_at p d true there near.left m.issued s fixed stored issued (temps p d m.store near.left m.issued s well related.memory near.same))
    by_value (Err why) trap = stops p place_of (expr_steps e + 3) (16 + expr_steps e) m (code_of why) trap (omega arith)

-- ---- a call's values

-- arrays count from the fixed registers
pub based : (d : Doing) (s : State) → Based (fixed_in d.scheme s) (layout_of (core_of d) (worked d.scheme s.bank))
based d s array regs = by_base (base_in free_at_first (core_of d).arrays array)
  where
    by_base : IsBase (area_at (areas_from free_at_first (core_of d).arrays) array).base
        → shaped (fixed_in d.scheme s) regs (area_at (areas_from free_at_first (core_of d).arrays) array).base ≡ base_word (worked d.scheme s.bank) (area_at (areas_from free_at_first (core_of d).arrays) array).base
    by_base (of_homes is) = ap (shaped (fixed_in d.scheme s) regs) is ∙ sym (ap (base_word (worked d.scheme s.bank)) is)
    by_base (of_constants is) = ap (shaped (fixed_in d.scheme s) regs) is ∙ sym (ap (base_word (worked d.scheme s.bank)) is)
    by_base (of_volatile is) = ap (shaped (fixed_in d.scheme s) regs) is ∙ sym (ap (base_word (worked d.scheme s.bank)) is)

-- as many words as arguments
more_found : (v : Result ℕ Trap) (r : Result (List ℕ) Trap) (n : ℕ) → ((words : List ℕ) → r ≡ Ok words → length words ≡ n) → (words : List ℕ) → with_more v r ≡ Ok words → length words ≡ suc n
more_found (Err why) r n h words is = absurd (cc is)
more_found (Ok word) (Err why) n h words is = absurd (cc is)
more_found (Ok word) (Ok rest) n h [] is = absurd (cc is)
more_found (Ok word) (Ok rest) n h (w ∷ words) is = let same : rest ≡ words = cc is in omega (arith, h words (ap Ok same))

pub values_long : (es : List CoreExpr) (store : Store) (words : List ℕ) → all_values es store ≡ Ok words → length words ≡ length es
values_long [] store [] is = refl
values_long [] store (w ∷ words) is = absurd (cc is)
values_long (e ∷ es) store words is = more_found (value_of e store) (all_values es store) (length es) (values_long es store) words is

-- and their steps
one_few : (r : Result ℕ Trap) (a b n : ℕ) → a ≤ b + n → found_steps r (λ word. a) ≤ found_steps r (λ word. b) + n
one_few (Ok word) a b n h = h
one_few (Err why) a b n h = omega arith

pub arguments_few : (es : List CoreExpr) (store : Store) → arguments_steps es store ≤ values_steps es store + length es
arguments_few [] store = omega arith
arguments_few (e ∷ es) store = omega (arith, one_few (value_of e store) (arguments_steps es store) (values_steps es store) (length es) (arguments_few es store))

pub value_does : ((p : Program) (x : Fixed) (scope : _) (l : Layout) (store : Store) (k q : ℕ) (es : List CoreExpr) (next : ℕ) (s : Spot) → CallDoes p x scope l store k q es next s) → TempsKeep → IsRelatedThere → ArgumentsKeep → NoTargetKeeps
    → (p : Program) (place_of : ℕ → Place) (d : Doing) (number : ℕ) (keeps : Bool) (k q : ℕ) (es : List CoreExpr) → statement_of d k ≡ Some (stmt.Io k None q es) → statement_at (frame_of d number) k ≡ Some (stmt.Io k None q es)
    → AreArguments (scope_of (core_of d) d.setting.task) es → length es ≤ 4 → DoesAct p place_of d number keeps (act.Value k) Nothing
value_does template temps relates arguments aimless p place_of d number keeps k q es plan code over few next m s well has related asks =
    subst (λ o. Ends p place_of d (act.Value k) (value_weight o s.store) (λ way. next) m s (value_done d.setting o s)) (sym plan) (by_values (all_values es s.store) refl argued)
  where
    argued : Argued p (fixed_in d.scheme s) (arguments_steps es s.store + 1) m next 33 (all_values es s.store)
    argued = template p (fixed_in d.scheme s) (scope_of (core_of d) d.setting.task) (layout_of (core_of d) (worked d.scheme s.bank)) s.store k q es next m (based d s) related.fixed (relates p d m s well related) over few
        (subst (λ o. Lie p m.pc (value_code (areas_from free_at_first (core_of d).arrays) o m.pc ++ jump next)) code has)

    by_values : (r : Result (List ℕ) Trap) → all_values es s.store ≡ r → Argued p (fixed_in d.scheme s) (arguments_steps es s.store + 1) m next 33 r
        → Ends p place_of d (act.Value k) (20 + (0 + values_steps es s.store)) (λ way. next) m s (unless_fails r (λ words. sets_frame (record s.frame { target = Some None; args = Some words })))
    by_values (Ok words) is near =
        let long : length words ≡ length es = values_long es s.store words is in
        let one = aimless p d m.store m.issued s well related.memory in
        let two = arguments p d m.store m.issued (with_rest (record s.frame { target = Some None }) s.looks s.issued s) words well one (omega (arith, long, few)) in
        let after : State = with_rest (record s.frame { target = Some None; args = Some words }) s.looks s.issued s in
        goes_from p place_of (fixed_in d.scheme s) (arguments_steps es s.store + 1) (20 + (0 + values_steps es s.store)) m _ next _ _ near.acts (omega (arith, few, arguments_few es s.store)) refl refl
        (λ there fixed stored issued. related_at p d true there near.left m.issued after fixed stored issued (temps p d (with_arguments words 33 m.store) near.left m.issued after well two near.same))
    by_values (Err why) is trap = stops p place_of (arguments_steps es s.store + 1) (20 + (0 + values_steps es s.store)) m (code_of why) trap (omega (arith, few, arguments_few es s.store))

-- with a target
pub aimed_value_does : ((p : Program) (x : Fixed) (scope : _) (l : Layout) (store : Store) (k q : ℕ) (target : CoreTarget) (es : List CoreExpr) (next : ℕ) (s : Spot) → TargetCallDoes p x scope l store k q target es next s)
    → TempsKeep → IsRelatedThere → ArgumentsKeep → TargetsKeep
    → (p : Program) (place_of : ℕ → Place) (d : Doing) (number : ℕ) (keeps : Bool) (k q : ℕ) (target : CoreTarget) (es : List CoreExpr) → statement_of d k ≡ Some (stmt.Io k (Some target) q es) → statement_at (frame_of d number) k ≡ Some (stmt.Io k (Some target) q es)
    → IsOverTarget (scope_of (core_of d) d.setting.task) target → AreArguments (scope_of (core_of d) d.setting.task) es → length es ≤ 4 → DoesAct p place_of d number keeps (act.Value k) (AimsWell (core_of d) target)
aimed_value_does template temps relates arguments targets p place_of d number keeps k q target es plan code over_target over few next m s well has related aims =
    subst (λ o. Ends p place_of d (act.Value k) (value_weight o s.store) (λ way. next) m s (value_done d.setting o s)) (sym plan) (by_found (target_place target s.store) refl (all_values es s.store) refl argued)
  where
    argued : Argued p (fixed_in d.scheme s) (target_steps target + 9 + found_steps (target_place target s.store) (λ at. arguments_steps es s.store) + 1) m next 32
        (with_more (address_found (layout_of (core_of d) (worked d.scheme s.bank)) (target_place target s.store)) (all_values es s.store))
    argued = template p (fixed_in d.scheme s) (scope_of (core_of d) d.setting.task) (layout_of (core_of d) (worked d.scheme s.bank)) s.store k q target es next m (based d s) related.fixed (relates p d m s well related) over_target over few
        (subst (λ o. Lie p m.pc (value_code (areas_from free_at_first (core_of d).arrays) o m.pc ++ jump next)) code has)

    by_found : (r : Result walked.Place Trap) → target_place target s.store ≡ r → (v : Result (List ℕ) Trap) → all_values es s.store ≡ v
        → Argued p (fixed_in d.scheme s) (target_steps target + 9 + found_steps r (λ at. arguments_steps es s.store) + 1) m next 32 (with_more (address_found (layout_of (core_of d) (worked d.scheme s.bank)) r) v)
        → Ends p place_of d (act.Value k) (20 + (target_steps target + found_steps (with_found r (λ at. Ok (Some at))) (λ at. values_steps es s.store))) (λ way. next) m s
        (unless_fails (with_found r (λ at. Ok (Some at))) (λ at. unless_fails v (λ words. sets_frame (record s.frame { target = Some at; args = Some words }))))
    by_found (Err why) one v two trap = stops p place_of _ _ m (code_of why) trap (omega arith)
    by_found (Ok at) one (Err why) two trap = stops p place_of _ _ m (code_of why) trap (omega (arith, few, arguments_few es s.store))
    by_found (Ok at) one (Ok words) two near =
        let long : length words ≡ length es = values_long es s.store words two in
        let well_aimed = aims at one in
        let first = targets p d m.store m.issued s at well related.memory well_aimed.inside well_aimed.written in
        let address : ℕ = address_in (core_of d) (worked d.scheme s.bank) at in
        let second = arguments p d (put m.store 1048608 address) m.issued (with_rest (record s.frame { target = Some (Some at) }) s.looks s.issued s) words well first (omega (arith, long, few)) in
        let after : State = with_rest (record s.frame { target = Some (Some at); args = Some words }) s.looks s.issued s in
        goes_from p place_of (fixed_in d.scheme s) (target_steps target + 9 + arguments_steps es s.store + 1) (20 + (target_steps target + values_steps es s.store)) m _ next _ _ near.acts (omega (arith, few, arguments_few es s.store)) refl refl
        (λ there fixed stored issued. related_at p d true there near.left m.issued after fixed stored issued (temps p d (with_arguments words 33 (put m.store 1048608 address)) near.left m.issued after well second near.same))

-- ---- an issue

-- what an issue does with the arguments that were noted
abbrev issued_with : Doing → (site peripheral : ℕ) → State → Option (List ℕ) → Done
issued_with d k q s o = have o (λ words.
    let number = calls.number_of d.setting q in
    let word = reading_in d.setting.rules.world.feeds number (s.issued number + 1) in
    does (showing (issues k number words word) ∷ []) (λ after. record after { frame = record s.frame { word = Some word } }) ahead)

-- the kept count and the plan's take the same reading
min_more : (i n : ℕ) → min (min i n + 1) n ≡ min (i + 1) n
min_more i n = omega arith

reading_min : (vs : List ℕ) (i : ℕ) → reading vs (min i (length vs) + 1) ≡ reading vs (i + 1)
unfolding reading
reading_min vs i = ap (λ k. slice_index vs (k - 1)) (min_more i (length vs))

same_reading : (p : Program) (d : Doing) (counts issued : ℕ → ℕ) (q : ℕ) → HasReadings p d counts issued → reading (p.values q) (counts q + 1) ≡ reading_in d.setting.rules.world.feeds q (issued q + 1)
same_reading p d counts issued q h = ap (λ c. reading (p.values q) (c + 1)) (h.counts q) ∙ reading_min (p.values q) (issued q) ∙ ap (λ (vs : List ℕ). reading vs (issued q + 1)) (h.values q)

-- and count it
readings_after : (p : Program) (d : Doing) (counts issued : ℕ → ℕ) (q : ℕ) → HasReadings p d counts issued → HasReadings p d (issued_after p.values counts q) (changes.put q (issued q + 1) issued)
readings_after p d counts issued q h = record { values = h.values; counts = λ r. by_test r (q == r) refl }
  where
    by_test : (r : ℕ) (b : Bool) → (q == r) ≡ b → (if b then one_more (p.values q) (counts q) else counts r) ≡ min (cond b (issued q + 1) (issued r)) (length (p.values r))
    by_test r true is =
        ap (λ c. one_more (p.values q) c) (h.counts q) ∙ min_more (issued q) (length (p.values q)) ∙ ap (λ j. min (issued q + 1) (length (p.values j))) (eqb-true q r is)
    by_test r false is = h.counts r

-- the words of the arguments' cells
args_are : (words : List ℕ) (m : ℕ → ℕ) → length words ≤ 4 → HasWords words 1048609 m → arguments_of (cell_args (length words) m) ≡ words
args_are [] m few h = refl
args_are (a ∷ []) m few h = λ i. h.0 i ∷ []
args_are (a ∷ b ∷ []) m few h = λ i. h.0 i ∷ h.1.0 i ∷ []
args_are (a ∷ b ∷ c ∷ []) m few h = λ i. h.0 i ∷ h.1.0 i ∷ h.1.1.0 i ∷ []
args_are (a ∷ b ∷ c ∷ e ∷ []) m few h = λ i. h.0 i ∷ h.1.0 i ∷ h.1.1.0 i ∷ h.1.1.1.0 i ∷ []
args_are (a ∷ b ∷ c ∷ e ∷ f ∷ words) m few h = absurd (omega (arith, few))

number_same : (o : Option Peripheral) → frames.number_of o ≡ calls.number_or_none o
number_same None = refl
number_same (Some p) = refl

pub issue_does : ((p : Program) (x : Fixed) (f : Frame) (o : Option CoreStmt) (k next : ℕ) (s : Spot) → IssueDoes p x f o k next s) → NotesCount
    → (p : Program) (place_of : ℕ → Place) (d : Doing) (number : ℕ) (keeps : Bool) (k q : ℕ) (target : Option CoreTarget) (es : List CoreExpr) → statement_of d k ≡ Some (stmt.Io k target q es) → statement_at (frame_of d number) k ≡ Some (stmt.Io k target q es)
    → length es ≤ 4 → calls.number_of d.setting q < 256 → ((r n : ℕ) → reading_in d.setting.rules.world.feeds r n < 2 ^ 32) → DoesAct p place_of d number keeps (act.Issue k) (IsCalledWith (length es))
issue_does template count p place_of d number keeps k q target es plan code few small words_read next m s well has related called =
    subst (λ o. Ends p place_of d (act.Issue k) 12 (λ way. next) m s (issue_done d.setting o k s)) (sym plan) (by_args s.frame.args refl)
  where
    acts : Issues p (fixed_in d.scheme s) k (length es) (calls.number_of d.setting q) next m
    acts = subst (λ r. Issues p (fixed_in d.scheme s) k (length es) r next m) (number_same (slice_get (core_of d).peripherals q)) (template p (fixed_in d.scheme s) (frame_of d number) (Some (stmt.Io k target q es)) k next m few (subst (λ r. r < 256) (sym (number_same (slice_get (core_of d).peripherals q))) small)
        (subst (λ o. Lie p m.pc (issue_code (frame_of d number) k o ++ jump next)) code has))

    by_args : (o : Option (List ℕ)) → s.frame.args ≡ o → Ends p place_of d (act.Issue k) 12 (λ way. next) m s (issued_with d k q s o)
    by_args None is = tt
    by_args (Some words) is =
        let r : ℕ = calls.number_of d.setting q in
        let argued : HasArguments m.store words = related.memory.ram.frame.args words is in
        let word : ℕ = reading_in d.setting.rules.world.feeds r (s.issued r + 1) in
        let word_is : reading (p.values r) (m.issued r + 1) ≡ word = same_reading p d m.issued s.issued r related.memory.readings in
        let args_is : arguments_of (cell_args (length es) m.store) ≡ words = ap (λ n. arguments_of (cell_args n m.store)) (sym (called words is)) ∙ args_are words m.store argued.few argued.holds in
        goes_on p place_of (fixed_in d.scheme s) (fixed_in d.scheme s) 7 12 m _ next _ _ related.fixed acts (omega arith) refl (λ i. tells (issues k r (args_is i) (word_is i)) ∷ [])
        (λ there fixed stored issued. related_at p d true there (put m.store 1048614 word) (issued_after p.values m.issued r) (with_rest (record s.frame { word = Some word }) s.looks (changes.put r (s.issued r + 1) s.issued) s) fixed
        (stored ∙ ap (put m.store 1048614) word_is) issued
        (count p d m.store m.issued (issued_after p.values m.issued r) s s.looks (changes.put r (s.issued r + 1) s.issued) (notes_word word) well related.memory (words_read r (s.issued r + 1)) (readings_after p d m.issued s.issued r related.memory.readings)))
