-- The acts of copies that move no words: a record is sealed, and a copy goes by its class.
use Rattle.std.specs.Prelude.{◌==◌, cond, Option, Some, None, slice_get, if◌then◌else◌}
use Rattle.std.proofs.Common.{◌≡◌, ◌≢◌, ◌∙◌, ℕ, ◌+◌, ◌-◌, Bool, true, false, [], ◌∷◌, ◌++◌, refl, sym, ap, subst, arith, eqb-true}
use Rattle.devices.specs.Journal.{Place}
use Rattle.devices.specs.declared.event.Event.TheVariants as the
use Rattle.fram_ram.specs.Memories.{put}
use Rattle.region_split.specs.declared.class.DmaClass.{DmaClass}
use Rattle.region_split.specs.declared.class.DmaClass.TheVariants as class
use Rattle.task_ast.specs.declared.core_form.Core.{Core}
use Rattle.task_ast.specs.declared.core_form.Site.TheVariants as site
use Rattle.task_ast.specs.WellFormed.{IsWellFormed}
use Rattle.walk_run.specs.declared.place.Place as walked
use Rattle.word_machine.specs.State.{Program}
use Rattle.word_machine.specs.Straight.{Spot}
use Rattle.word_machine.specs.Traces as trace
use Rattle.run_plan.specs.declared.act.Act.TheVariants as act
use Rattle.run_plan.specs.Cells.{CopyValued, State, after_write, puts_class, puts_flag, puts_from, puts_length, puts_to}
use Rattle.run_plan.specs.Deeds.{by_class, class_now, class_valued, seal_done, sealed}
use Rattle.run_plan.specs.Small.{Doing, core_of, does, flag_holds, have, same}
use Rattle.run_plan.specs.Weights.{seal_weight}
use Rattle.line_laws.specs.Standing.{Lie}
use Rattle.word_code.specs.ActCode.{entry}
use Rattle.word_code.specs.Acts.{jump, seal_code}
use Rattle.word_code.specs.Frames.{Frame, ends_at, flag_at, value_at}
use Rattle.word_code.specs.Sizes.{row_size}
use Rattle.word_code.specs.Tables.{class_test}
use Rattle.act_laws.specs.Codes.{Acts, End, Fixed, top}
use Rattle.act_laws.specs.Templates.{ByClassDoes, SealCopyDoes}
use Rattle.act_laws.specs.Words.{class_in}
use Rattle.cell_laws.specs.Standing.{HasCopy, HasRecord, IsSite, RecordStands, address_in, class_word, worked}
use Rattle.cell_laws.proofs.Seals.{class_put, copy_whole, from_put, length_put, some_is, to_put, with_class, with_from, with_length, with_to}
use Rattle.ram_laws.specs.Ram.{HasValued}
use Rattle.act_refines.specs.Between.{AreRelated, MemoryStands, fixed_in}
use Rattle.act_refines.specs.Does.{DoesAct, Ends, IsAsKept, IsFree, frame_of, way_at, way_to}
use Rattle.act_refines.proofs.Choices.{two_parts}
use Rattle.act_refines.proofs.Going.{goes_on, related_at}
use Rattle.act_refines.proofs.Records.{at_site}
use Rattle.act_refines.proofs.Simple.{WritesKeep}

-- ---- the record of a copy

-- what its seal leaves, by the words of the copy's cells
abbrev copy_end : (m : ℕ → ℕ) → (s : State) → (k next : ℕ) → (issued : ℕ → ℕ) → (class_at to_at from_at length_at : ℕ) → End
copy_end m s k next issued class_at to_at from_at length_at = record {
  pc = next;
  issued = issued;
  store = put (put (put (put (put m (value_at k) class_at) (ends_at k) to_at) (ends_at k + 1) from_at) (ends_at k + 2) length_at) (flag_at k) s.epoch;
  atoms = trace.wrote (value_at k) class_at ∷ trace.wrote (ends_at k) to_at ∷ trace.wrote (ends_at k + 1) from_at ∷ trace.wrote (ends_at k + 2) length_at ∷ trace.wrote (flag_at k) s.epoch ∷ trace.showed (the.Sealed k) ∷ [];
}

copy_memory : WritesKeep → (p : Program) (d : Doing) (m : Spot) (s : State) (k : ℕ) (v : CopyValued) (most : ℕ) → IsWellFormed (core_of d) → MemoryStands p d true m.store m.issued s → IsSite k → s.cells.flag k ≢ s.epoch
    → slice_get d.setting.task.sites (k - 1) ≡ Some (site.Copy most)
    → MemoryStands p d true (put (length_put (core_of d) d.scheme m.store s k v) (flag_at k) s.epoch) m.issued (after_write (core_of d).arrays (puts_flag k s.epoch) (with_length (core_of d) d.scheme m.store s k v))
copy_memory keep p d m s k v most well h here free is =
    let c : Core = core_of d in
    let one = keep p d true m.store m.issued s (puts_class k v.class) well h (here, free) tt in
    let two = keep p d true (class_put c d.scheme m.store s k v) m.issued (with_class c d.scheme m.store s k v) (puts_to k v.to) well one (here, free) tt in
    let three = keep p d true (to_put c d.scheme m.store s k v) m.issued (with_to c d.scheme m.store s k v) (puts_from k v.from) well two (here, free) tt in
    let four = keep p d true (from_put c d.scheme m.store s k v) m.issued (with_from c d.scheme m.store s k v) (puts_length k v.length) well three (here, free) tt in
    keep p d true (length_put c d.scheme m.store s k v) m.issued (with_length c d.scheme m.store s k v) (puts_flag k s.epoch) well four (here, λ same. whole) (omega arith)
  where
    whole : RecordStands (core_of d) d.scheme d.setting.task (length_put (core_of d) d.scheme m.store s k v) (with_length (core_of d) d.scheme m.store s k v) k
    whole = subst (λ o. HasRecord (address_in (core_of d) (worked d.scheme s.bank)) o (length_put (core_of d) d.scheme m.store s k v) (with_length (core_of d) d.scheme m.store s k v).cells k) (sym is)
        (copy_whole (core_of d) d.scheme m.store s k v here.few here.from)

pub seal_copy_does : ((p : Program) (x : Fixed) (f : Frame) (n k next : ℕ) (s : Spot) → SealCopyDoes p x f n k next s) → WritesKeep
    → (p : Program) (place_of : ℕ → Place) (d : Doing) (number : ℕ) (keeps : Bool) (k most : ℕ) → IsSite k → slice_get d.setting.task.sites (k - 1) ≡ Some (site.Copy most)
    → DoesAct p place_of d number keeps (act.Seal k) (IsFree k)
seal_copy_does template keep p place_of d number keeps k most here is next m s well has related free =
    subst (λ o. Ends p place_of d (act.Seal k) (seal_weight o) (way_at (frame_of d number) (act.Seal k) m.pc next) m s (seal_done o k s)) (sym (at_site d.setting.task.sites k here ∙ is)) (by_copy s.frame.copy refl)
  where
    laid : Lie p m.pc (seal_code (frame_of d number) k (Some (site.Copy most)) ++ jump next)
    laid = subst (λ o. Lie p m.pc (seal_code (frame_of d number) k o ++ jump next)) is has

    by_copy : (o : Option CopyValued) → s.frame.copy ≡ o
        → Ends p place_of d (act.Seal k) 12 (way_at (frame_of d number) (act.Seal k) m.pc next) m s
        (have o (λ v. sealed k (puts_class k v.class ∷ puts_to k v.to ∷ puts_from k v.from ∷ puts_length k v.length ∷ puts_flag k s.epoch ∷ [])))
    by_copy None one = tt
    by_copy (Some v) one =
        let c : Core = core_of d in
        let x : Fixed = fixed_in d.scheme s in
        let h : HasValued c (worked d.scheme s.bank) m.store v = related.memory.ram.frame.copy v one in
        let e : (a b f n : ℕ) → End = copy_end m.store s k next m.issued in
        let acts : Acts p x 10 (top x m) (e (class_word v.class) (address_in c (worked d.scheme s.bank) v.to) (address_in c (worked d.scheme s.bank) v.from) v.length) =
        subst (λ w. Acts p x 10 (top x m) (e w (address_in c (worked d.scheme s.bank) v.to) (address_in c (worked d.scheme s.bank) v.from) v.length)) h.class
        (subst (λ w. Acts p x 10 (top x m) (e (m.store 1048621) w (address_in c (worked d.scheme s.bank) v.from) v.length)) h.to.address
        (subst (λ w. Acts p x 10 (top x m) (e (m.store 1048621) (m.store 1048616) w v.length)) h.from.address
        (subst (λ w. Acts p x 10 (top x m) (e (m.store 1048621) (m.store 1048616) (m.store 1048618) w)) h.length.holds (template p x (frame_of d number) most k next m here.few laid)))) in
        goes_on p place_of x x 10 12 m _ next _ _ related.fixed acts (omega arith) refl refl
        (λ there fixed stored issued. related_at p d true there (put (length_put c d.scheme m.store s k v) (flag_at k) s.epoch) m.issued (after_write c.arrays (puts_flag k s.epoch) (with_length c d.scheme m.store s k v)) fixed stored issued
        (copy_memory keep p d m s k v most well related.memory here free is))

-- ---- a copy's class

class_leads : (c : DmaClass) (one two rest next : ℕ) → (if class_word c == 1 then one else if class_word c == 2 then two else rest) ≡ way_to one two rest next (by_class c)
class_leads class.Single one two rest next = refl
class_leads class.Private one two rest next = refl
class_leads class.Exclude one two rest next = refl
class_leads class.Always one two rest next = refl

-- the class that counts is that of the cells
class_found : (p : Program) (d : Doing) (keeps : Bool) (k most : ℕ) (m : Spot) (s : State) → AreRelated p d true m s → IsSite k → slice_get d.setting.task.sites (k - 1) ≡ Some (site.Copy most) → flag_holds s k ≡ keeps
    → (c : DmaClass) → cond keeps (s.cells.class k) (class_valued s.frame.copy) ≡ Some c → class_in keeps k m.store ≡ class_word c
class_found p d true k most m s related here is held c found =
    let recorded : HasCopy (address_in (core_of d) (worked d.scheme s.bank)) m.store s.cells k =
    subst (λ o. HasRecord (address_in (core_of d) (worked d.scheme s.bank)) o m.store s.cells k) is (related.memory.cells.cells.records k here (eqb-true (s.cells.flag k) s.epoch held)) in
    recorded.class c found
class_found p d false k most m s related here is held c found = by_copy s.frame.copy refl found
  where
    by_copy : (o : Option CopyValued) → s.frame.copy ≡ o → class_valued o ≡ Some c → m.store 1048621 ≡ class_word c
    by_copy None one bad = absurd (cc bad)
    by_copy (Some v) one is = (related.memory.ram.frame.copy v one).class ∙ some_is class_word v.class c is

pub by_class_does : ((keeps one two : Bool) (p : Program) (x : Fixed) (k single private rest : ℕ) (s : Spot) → ByClassDoes keeps one two p x k single private rest s)
    → (p : Program) (place_of : ℕ → Place) (d : Doing) (number : ℕ) (keeps : Bool) (k most : ℕ) (l : _) (single_row : _) (n : _) (private_row : _) (i : _) (rest_row : _) → IsSite k → slice_get d.setting.task.sites (k - 1) ≡ Some (site.Copy most)
    → DoesAct p place_of d number keeps (act.ByClass' k l single_row n private_row i rest_row) (IsAsKept keeps k)
by_class_does template p place_of d number keeps k most l single_row n private_row i rest_row here is next m s well has related kept = by_found (class_now s k) refl
  where
    by_found : (o : Option DmaClass) → class_now s k ≡ o
        → Ends p place_of d (act.ByClass' k l single_row n private_row i rest_row) 16 (way_at (frame_of d number) (act.ByClass' k l single_row n private_row i rest_row) m.pc next) m s (have o (λ c. does [] same (by_class c)))
    by_found None one = tt
    by_found (Some c) one =
        let x : Fixed = fixed_in d.scheme s in
        let f : Frame = frame_of d number in
        let single : ℕ = entry single_row (m.pc + 12) next in
        let private : ℕ = entry private_row (m.pc + 12 + row_size f single_row) next in
        let rest : ℕ = entry rest_row (m.pc + 12 + row_size f single_row + row_size f private_row) next in
        let found : class_in keeps k m.store ≡ class_word c = class_found p d keeps k most m s related here is kept c (sym (ap (λ b. cond b (s.cells.class k) (class_valued s.frame.copy)) kept) ∙ one) in
        goes_on p place_of x x 10 16 m _ _ _ _ related.fixed
        (template keeps (class_in keeps k m.store == 1) (class_in keeps k m.store == 2) p x k single private rest m here.few refl refl
        (two_parts p m.pc (class_test keeps k 1 single (m.pc + 6)) (class_test keeps k 2 private rest) _ has)) (omega arith)
        (ap (λ w. if w == 1 then single else if w == 2 then private else rest) found ∙ class_leads c single private rest next) refl
        (λ there fixed stored issued. related_at p d true there m.store m.issued s fixed stored issued related.memory)
