-- A word goes to a call's target: to a home, which is seen, or to a volatile word.
use Rattle.std.specs.Prelude.{map, Option, Some, None, if◌then◌else◌}
use Rattle.std.proofs.Common.{◌≡◌, ◌≢◌, ◌∙◌, ℕ, ◌+◌, ◌%◌, ◌^◌, ◌<◌, ◌≤◌, Bool, true, false, List, [], ◌∷◌, ◌++◌, length, length-set, append-nil, refl, sym, ap, subst, arith}
use Rattle.std.proofs.lemmas.Bool.Decides.{nat_tests}
use Rattle.devices.specs.Journal as journal
use Rattle.fram_ram.specs.Addresses.{word_below}
use Rattle.fram_ram.specs.Memories.{has_word, is_fram, put}
use Rattle.task_ast.specs.declared.core_form.Core.{Core}
use Rattle.task_ast.specs.declared.core_form.CoreExpr.{CoreExpr}
use Rattle.task_ast.specs.declared.core_form.CoreStmt.TheVariants as stmt
use Rattle.task_ast.specs.declared.core_form.CoreTarget.{CoreTarget}
use Rattle.task_ast.specs.WellFormed.{IsWellFormed}
use Rattle.walk_run.specs.declared.place.Place.{Place}
use Rattle.walk_run.specs.PlainWrites.{Write, sets}
use Rattle.walk_run.specs.Store.{put_word}
use Rattle.word_machine.specs.State.{Program}
use Rattle.word_machine.specs.Straight.{Spot}
use Rattle.word_machine.specs.Traces as trace
use Rattle.word_machine.specs.Traces.{applied, noted}
use Rattle.run_plan.specs.declared.act.Act.TheVariants as act
use Rattle.run_plan.specs.Cells.{State}
use Rattle.run_plan.specs.Deeds.{words_put, write_done}
use Rattle.run_plan.specs.Small.{Doing, core_of, have, silent, with_volatile}
use Rattle.run_plan.specs.Words.{home_writes}
use Rattle.line_laws.specs.Relation.{Related, is_cell}
use Rattle.line_laws.specs.Standing.{Lie}
use Rattle.line_laws.proofs.After.{related_after}
use Rattle.word_code.specs.Acts.{jump, write_code}
use Rattle.word_code.specs.Finding.{statement_at}
use Rattle.act_laws.specs.Codes.{Acts, Fixed, HasFixed, top}
use Rattle.act_laws.specs.Templates.{WriteDoes, WriteNoneDoes}
use Rattle.layout_laws.specs.Layouts.{HasOwnPlaces, IsOwn, layout_of}
use Rattle.cell_laws.specs.Standing.{address_in, worked}
use Rattle.cell_laws.proofs.Puts.{miss}
use Rattle.cell_laws.proofs.Writes.{worked_low}
use Rattle.ram_laws.specs.Ram.{HasTarget, HasWord}
use Rattle.ram_laws.proofs.Stays.{frame_stays}
use Rattle.act_refines.specs.Between.{AreRelated, MemoryStands, fixed_in}
use Rattle.act_refines.specs.Does.{DoesAct, Ends, HasAim, IsGoodWrite, frame_of}
use Rattle.act_refines.specs.Seen.{behind, trace_seen}
use Rattle.act_refines.proofs.Calls.{IsRelatedThere}
use Rattle.act_refines.proofs.Going.{goes_on, related_at}
use Rattle.act_refines.proofs.Simple.{WritesKeep}
use Rattle.act_refines.proofs.Statements.{AreasLie, FramKeeps, IsSameRest, SuitsThere, rest_same, writes_shown, writes_stand}
use Rattle.act_refines.proofs.Stores.{memory_again}

-- no place is a cell between acts
no_frame_cell : (a b : ℕ) → is_cell a ≡ false → 1048608 ≤ b → b < 1048896 → a ≢ b
no_frame_cell a b apart from below = grind (arith, nat_tests, apart, from, below)

-- in FRAM a word that is written is what its trace writes
put_applied : (fram : Bool) (m : ℕ → ℕ) (a w b : ℕ) → is_fram a ≡ fram → b < 65536 → put m a w b ≡ applied ((if fram then trace.wrote a w ∷ [] else []) ++ []) m b
put_applied true m a w b is low = refl
put_applied false m a w b is low = miss m a w b (λ e. absurd (far is e))
  where
    far : is_fram a ≡ false → a ≡ b → ⊥
    far is e = grind (arith, nat_tests, is, e, low)

abbrev pub OwnPlaces : Type 0
OwnPlaces = (c : Core) (bank : ℕ) → IsWellFormed c → bank ≤ 2048 → HasOwnPlaces (layout_of c bank)

module _ (areas : AreasLie) (own : OwnPlaces) (keep : WritesKeep) (fram : FramKeeps) (relates : IsRelatedThere) (apart : SuitsThere)
    (p : Program) (place_of : ℕ → journal.Place) (d : Doing) (m : Spot) (s : State) (well : IsWellFormed (core_of d)) (related : AreRelated p d true m s) (at : Place) (w : ℕ)
    (target : HasTarget (core_of d) (worked d.scheme s.bank) m.store at) (word : HasWord m.store 1048614 w) where
  abbrev bank : ℕ
  bank = worked d.scheme s.bank

  abbrev a : ℕ
  a = address_in (core_of d) bank at

  abbrev writes : List Write
  writes = sets at w ∷ []

  abbrev written_state : State
  written_state = behind (core_of d) (map silent (home_writes (core_of d) writes)) s

  good : IsGoodWrite (core_of d) (sets at w) × Unit {0}
  good = ((record { inside = target.inside; written = target.written }, word.fits), tt)

  is_own : IsOwn a
  is_own = own (core_of d) bank well (worked_low d.scheme s.bank) at.array at.index target.inside

  pub there_is : has_word a ≡ true
  there_is = is_own.there

  pub wraps : (a + 0) % 2 ^ 32 ≡ a
  wraps = let below = word_below a is_own.there in omega (arith, below)

  cells_alone : MemoryStands p d false m.store m.issued s
  cells_alone = let h = related.memory in record { cells = h.cells; constants = h.constants; ram = tt; readings = h.readings; tidy = h.tidy }

  pub memory_written_there : MemoryStands p d true (put m.store a w) m.issued (with_volatile (core_of d) (put_word at w s.store) written_state)
  memory_written_there =
      let u : Spot = record m { store = put m.store a w } in
      let rest : IsSameRest d.scheme s written_state = rest_same (core_of d) d.scheme writes s in
      let after : Related (layout_of (core_of d) bank) (length (core_of d).pointers) u (put_word at w s.store) =
      related_after (layout_of (core_of d) bank) (length (core_of d).pointers) s.store at w m u (apart (core_of d) bank well (worked_low d.scheme s.bank)) target.inside word.fits (relates p d m s well related) (λ r k. refl) (λ b k. refl) in
      let cells : MemoryStands p d false (put m.store a w) m.issued written_state = fram p d (applied (noted a w ++ []) m.store) (put m.store a w) m.issued written_state well
      (writes_stand areas keep p place_of d m.issued well writes m.store s good cells_alone) (λ b low. put_applied (is_fram a) m.store a w b refl low) in
      memory_again p d bank u m.issued written_state (put_word at w s.store) s.frame cells after
      (frame_stays (core_of d) bank m.store (put m.store a w) s.frame (λ b from below. miss m.store a w b (no_frame_cell a b is_own.apart from below)) related.memory.ram.frame) rest.frame rest.bank
      (length-set s.store.words at.array _ ∙ related.memory.tidy.shape.homes)

pub write_does : AreasLie → OwnPlaces → WritesKeep → FramKeeps → IsRelatedThere → SuitsThere
    → ((p : Program) (x : Fixed) (k q : ℕ) (target : CoreTarget) (args : List CoreExpr) (a next : ℕ) (s : Spot) → WriteDoes p x k q target args a next s)
    → (p : Program) (place_of : ℕ → journal.Place) (d : Doing) (number : ℕ) (keeps : Bool) (k q : ℕ) (target : CoreTarget) (args : List CoreExpr) → statement_at (frame_of d number) k ≡ Some (stmt.Io k (Some target) q args)
    → DoesAct p place_of d number keeps (act.Write k) (HasAim true)
write_does areas own keep fram relates apart template p place_of d number keeps k q target args code next m s well has related aimed = by_target s.frame.target refl
  where
    laid : Lie p m.pc (write_code (Some (stmt.Io k (Some target) q args)) ++ jump next)
    laid = subst (λ o. Lie p m.pc (write_code o ++ jump next)) code has

    by_word : (at : Place) → s.frame.target ≡ Some (Some at) → (u : Option ℕ) → s.frame.word ≡ u
        → Ends p place_of d (act.Write k) 6 (λ way. next) m s (have u (λ word. words_put (core_of d) (sets at word ∷ []) (put_word at word s.store)))
    by_word at one None two = tt
    by_word at one (Some w) two =
        let c : Core = core_of d in
        let x : Fixed = fixed_in d.scheme s in
        let aim : HasTarget c (worked d.scheme s.bank) m.store at = related.memory.ram.frame.target at one in
        let word : HasWord m.store 1048614 w = related.memory.ram.frame.word w two in
        let a : ℕ = address_in c (worked d.scheme s.bank) at in
        let writes : List Write = sets at w ∷ [] in
        let t : State = with_volatile c (put_word at w s.store) (behind c (map silent (home_writes c writes)) s) in
        let rest : IsSameRest d.scheme s (behind c (map silent (home_writes c writes)) s) = rest_same c d.scheme writes s in
        let acts : Acts p x 4 (top x m) (record { pc = next; store = put m.store a w; issued = m.issued; atoms = noted a w }) =
        subst (λ v. Acts p x 4 (top x m) (record { pc = next; store = put m.store a v; issued = m.issued; atoms = noted a v })) word.holds
        (template p x k q target args a next m aim.holds (there_is areas own keep fram relates apart p place_of d m s well related at w aim word) (wraps areas own keep fram relates apart p place_of d m s well related at w aim word) laid) in
        goes_on p place_of x x 4 6 m _ next _ _ related.fixed acts (omega arith) refl
        (ap (trace_seen place_of) (sym (append-nil (noted a w))) ∙ writes_shown areas keep p place_of d m.issued well writes s (good areas own keep fram relates apart p place_of d m s well related at w aim word))
        (λ there fixed stored issued. related_at p d true there (put m.store a w) m.issued t (subst (λ f. HasFixed f there) (sym rest.fixed) fixed) stored issued
        (memory_written_there areas own keep fram relates apart p place_of d m s well related at w aim word))

    by_target : (o : Option (Option Place)) → s.frame.target ≡ o → Ends p place_of d (act.Write k) 6 (λ way. next) m s (have o (λ target. write_done (core_of d) target s))
    by_target None one = tt
    by_target (Some None) one = absurd (cc (aimed None one))
    by_target (Some (Some at)) one = by_word at one s.frame.word refl

-- without a target nothing is written
pub write_none_does : ((p : Program) (x : Fixed) (k q : ℕ) (args : List CoreExpr) (next : ℕ) (s : Spot) → WriteNoneDoes p x k q args next s)
    → (p : Program) (place_of : ℕ → journal.Place) (d : Doing) (number : ℕ) (keeps : Bool) (k q : ℕ) (args : List CoreExpr) → statement_at (frame_of d number) k ≡ Some (stmt.Io k None q args)
    → DoesAct p place_of d number keeps (act.Write k) (HasAim false)
write_none_does template p place_of d number keeps k q args code next m s well has related aimed = by_target s.frame.target refl
  where
    by_target : (o : Option (Option Place)) → s.frame.target ≡ o → Ends p place_of d (act.Write k) 6 (λ way. next) m s (have o (λ target. write_done (core_of d) target s))
    by_target None one = tt
    by_target (Some (Some at)) one = absurd (cc (aimed (Some at) one))
    by_target (Some None) one =
        goes_on p place_of (fixed_in d.scheme s) (fixed_in d.scheme s) 1 6 m _ next _ _ related.fixed
        (template p (fixed_in d.scheme s) k q args next m (subst (λ o. Lie p m.pc (write_code o ++ jump next)) code has)) (omega arith) refl refl
        (λ there fixed stored issued. related_at p d true there m.store m.issued s fixed stored issued related.memory)
