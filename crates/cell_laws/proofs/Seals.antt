-- A record is whole before its flag is set.
use Rattle.std.specs.Prelude.{Option, Some, None, slice_get}
use Rattle.std.proofs.Common.{◌≡◌, ◌≢◌, ◌∙◌, ℕ, ◌+◌, ◌-◌, ◌≤◌, List, [], ◌∷◌, refl, sym, ap, subst, arith}
use Rattle.fram_ram.specs.Memories.{put}
use Rattle.task_ast.specs.declared.core_form.Core.{Core}
use Rattle.task_ast.specs.declared.core_form.CoreTask.{CoreTask}
use Rattle.task_ast.specs.declared.core_form.Site.{Site}
use Rattle.task_ast.specs.declared.core_form.Site.TheVariants as site
use Rattle.task_ast.specs.declared.tree.Ann.{Ann}
use Rattle.task_ast.specs.WellFormed.{IsWellFormed}
use Rattle.region_split.specs.declared.class.DmaClass.{DmaClass}
use Rattle.walk_run.specs.declared.place.Place.{Place}
use Rattle.word_isa.specs.declared.parts.Scheme.{Scheme}
use Rattle.run_plan.specs.Cells.{Cells, CellWrite, CopyValued, State, after_write, puts_class, puts_flag, puts_from, puts_length, puts_stamp, puts_to, puts_value}
use Rattle.word_code.specs.Frames.{ends_at, flag_at, stamp_at, value_at}
use Rattle.line_laws.specs.Relation.{IsApart}
use Rattle.layout_laws.specs.Layouts.{LieInAreas, layout_of}
use Rattle.cell_laws.specs.Standing.{HasCopy, HasRecord, IsLoose, RecordStands, SealStands, Stands, address_in, class_word, words_after, worked, written}
use Rattle.cell_laws.proofs.Puts.{above, below, got, hit}
use Rattle.cell_laws.proofs.Writes.{write_stands}

-- what is put in a place is what was put there
pub some_is : {A B : Type 0} (f : A → B) (x y : A) → Some x ≡ Some y → f x ≡ f y
some_is f x y same = cc same

module _ (areas : (c : Core) (bank : ℕ) → IsWellFormed c → bank ≤ 2048 → LieInAreas (layout_of c bank)) (clear : (c : Core) (bank : ℕ) → IsWellFormed c → bank ≤ 2048 → IsApart (layout_of c bank)) where
  pub call_sealed : (c : Core) (scheme : Scheme) (t : CoreTask) (m : ℕ → ℕ) (s : State) (k word time : ℕ) (ann : Ann) → slice_get t.sites (k - 1) ≡ Some (site.Io ann)
      → SealStands c scheme t k (puts_value k word ∷ puts_stamp k time ∷ puts_flag k s.epoch ∷ []) m s
  call_sealed c scheme t m s k word time ann is well h loose =
      let one = write_stands areas clear c scheme t m s (puts_value k word) well h loose in
      let two = write_stands areas clear c scheme t (put m (value_at k) word) (after_write c.arrays (puts_value k word) s) (puts_stamp k time) well one loose in
      write_stands areas clear c scheme t (put (put m (value_at k) word) (stamp_at k) time) (after_write c.arrays (puts_stamp k time) (after_write c.arrays (puts_value k word) s)) (puts_flag k s.epoch) well two (loose.0, λ same. whole)
    where
      whole : RecordStands c scheme t (put (put m (value_at k) word) (stamp_at k) time) (after_write c.arrays (puts_stamp k time) (after_write c.arrays (puts_value k word) s)) k
      whole = subst (λ o. HasRecord (address_in c (worked scheme s.bank)) o (put (put m (value_at k) word) (stamp_at k) time) (after_write c.arrays (puts_stamp k time) (after_write c.arrays (puts_value k word) s)).cells k) (sym is) (
        below (put m (value_at k) word) (stamp_at k) time (value_at k) (omega arith) ∙ hit m (value_at k) word ∙ sym (got k word s.cells.value),
        hit (put m (value_at k) word) (stamp_at k) time ∙ sym (got k time s.cells.stamp),
      )

  pub block_sealed : (c : Core) (scheme : Scheme) (t : CoreTask) (m : ℕ → ℕ) (s : State) (k time : ℕ) (ann : Ann) → slice_get t.sites (k - 1) ≡ Some (site.Block ann)
      → SealStands c scheme t k (puts_stamp k time ∷ puts_flag k s.epoch ∷ []) m s
  block_sealed c scheme t m s k time ann is well h loose =
      let one = write_stands areas clear c scheme t m s (puts_stamp k time) well h loose in
      write_stands areas clear c scheme t (put m (stamp_at k) time) (after_write c.arrays (puts_stamp k time) s) (puts_flag k s.epoch) well one (loose.0, λ same. whole)
    where
      whole : RecordStands c scheme t (put m (stamp_at k) time) (after_write c.arrays (puts_stamp k time) s) k
      whole = subst (λ o. HasRecord (address_in c (worked scheme s.bank)) o (put m (stamp_at k) time) (after_write c.arrays (puts_stamp k time) s).cells k) (sym is)
          (hit m (stamp_at k) time ∙ sym (got k time s.cells.stamp))

-- ---- copies

module _ (c : Core) (scheme : Scheme) (m : ℕ → ℕ) (s : State) (k : ℕ) (v : CopyValued) where
  abbrev pub address : Place → ℕ
  address = address_in c (worked scheme s.bank)

  abbrev pub with_class : State
  with_class = after_write c.arrays (puts_class k v.class) s

  abbrev pub with_to : State
  with_to = after_write c.arrays (puts_to k v.to) with_class

  abbrev pub with_from : State
  with_from = after_write c.arrays (puts_from k v.from) with_to

  abbrev pub with_length : State
  with_length = after_write c.arrays (puts_length k v.length) with_from

  abbrev pub class_put : ℕ → ℕ
  class_put = put m (value_at k) (class_word v.class)

  abbrev pub to_put : ℕ → ℕ
  to_put = put class_put (ends_at k) (address v.to)

  abbrev pub from_put : ℕ → ℕ
  from_put = put to_put (ends_at k + 1) (address v.from)

  abbrev pub length_put : ℕ → ℕ
  length_put = put from_put (ends_at k + 2) v.length

  pub copy_whole : k ≤ 128 → 1 ≤ k → HasCopy address length_put with_length.cells k
  copy_whole few from = record {
    class = λ d same.
        above from_put (ends_at k + 2) v.length (value_at k) (omega (arith, few, from)) ∙ above to_put (ends_at k + 1) (address v.from) (value_at k) (omega (arith, few, from))
        ∙ above class_put (ends_at k) (address v.to) (value_at k) (omega (arith, few, from)) ∙ hit m (value_at k) (class_word v.class)
        ∙ some_is class_word v.class d (sym (got k (Some v.class) s.cells.class) ∙ same);
    to = λ at same.
        above from_put (ends_at k + 2) v.length (ends_at k) (omega arith) ∙ above to_put (ends_at k + 1) (address v.from) (ends_at k) (omega arith) ∙ hit class_put (ends_at k) (address v.to)
        ∙ some_is address v.to at (sym (got k (Some v.to) s.cells.to) ∙ same);
    from = λ at same.
        above from_put (ends_at k + 2) v.length (ends_at k + 1) (omega arith) ∙ hit to_put (ends_at k + 1) (address v.from)
        ∙ some_is address v.from at (sym (got k (Some v.from) s.cells.from) ∙ same);
    length = hit from_put (ends_at k + 2) v.length ∙ sym (got k v.length s.cells.length);
  }

module _ (areas : (c : Core) (bank : ℕ) → IsWellFormed c → bank ≤ 2048 → LieInAreas (layout_of c bank)) (clear : (c : Core) (bank : ℕ) → IsWellFormed c → bank ≤ 2048 → IsApart (layout_of c bank)) where
  pub copy_sealed : (c : Core) (scheme : Scheme) (t : CoreTask) (m : ℕ → ℕ) (s : State) (k : ℕ) (v : CopyValued) (n : ℕ) → slice_get t.sites (k - 1) ≡ Some (site.Copy n)
      → SealStands c scheme t k (puts_class k v.class ∷ puts_to k v.to ∷ puts_from k v.from ∷ puts_length k v.length ∷ puts_flag k s.epoch ∷ []) m s
  copy_sealed c scheme t m s k v n is well h loose =
      let one = write_stands areas clear c scheme t m s (puts_class k v.class) well h loose in
      let two = write_stands areas clear c scheme t (class_put c scheme m s k v) (with_class c scheme m s k v) (puts_to k v.to) well one loose in
      let three = write_stands areas clear c scheme t (to_put c scheme m s k v) (with_to c scheme m s k v) (puts_from k v.from) well two loose in
      let four = write_stands areas clear c scheme t (from_put c scheme m s k v) (with_from c scheme m s k v) (puts_length k v.length) well three loose in
      write_stands areas clear c scheme t (length_put c scheme m s k v) (with_length c scheme m s k v) (puts_flag k s.epoch) well four (loose.0, λ same. whole)
    where
      whole : RecordStands c scheme t (length_put c scheme m s k v) (with_length c scheme m s k v) k
      whole = subst (λ o. HasRecord (address_in c (worked scheme s.bank)) o (length_put c scheme m s k v) (with_length c scheme m s k v).cells k) (sym is)
          (copy_whole c scheme m s k v loose.0.few loose.0.from)
