-- A commit is one word, and leaves words and cells alike, with no record that holds.
use Rattle.std.specs.Prelude.{◌==◌, ◌⊎◌, slice_index, slice_index_or}
use Rattle.std.proofs.Common.{◌≡◌, ◌≢◌, ◌∙◌, inl, inr, ℕ, zero, suc, ◌+◌, ◌≤◌, true, false, List, [], ◌∷◌, length, refl, sym, ap, subst, arith, eq-eqb}
use Rattle.fram_ram.specs.Memories.{put}
use Rattle.task_ast.specs.declared.tree.Kind.{Kind}
use Rattle.task_ast.specs.declared.tree.Kind.TheVariants.{Nv, Const, Vol}
use Rattle.task_ast.specs.declared.core_form.Array.{Array}
use Rattle.task_ast.specs.declared.core_form.Core.{Core}
use Rattle.task_ast.specs.declared.core_form.CoreTask.{CoreTask}
use Rattle.task_ast.specs.WellFormed.{IsWellFormed}
use Rattle.walk_run.specs.declared.place.Place.{Place}
use Rattle.walk_run.specs.Store.{Store, word_at}
use Rattle.word_isa.specs.declared.parts.Scheme.{Scheme}
use Rattle.word_isa.specs.declared.parts.Scheme.TheVariants.{Undo, Bank}
use Rattle.run_plan.specs.Cells.{State, after_write, aside_at, joined, of_home, puts_state, turned, with_words}
use Rattle.word_code.specs.Frames.{flag_at, lock_at}
use Rattle.act_laws.specs.Words.{state_word}
use Rattle.line_code.specs.declared.areas.Free.{Free}
use Rattle.line_code.specs.Areas.{area_at, area_of, areas_from, free_at_first, free_of}
use Rattle.layout_laws.specs.Layouts.{LieInAreas, layout_of}
use Rattle.cell_laws.specs.Standing.{CommitFits, HasCells, HasHomes, IsHome, IsSite, Stands, address_in, beside, word_of, worked}
use Rattle.cell_laws.proofs.Puts.{below, hit}
use Rattle.cell_laws.proofs.Writes.{beside_low, home_in, worked_low}

-- ---- the two areas change their parts

home_here : (f : Free) (k : Kind) (n : ℕ) (h o : List ℕ) → ((area_of f k n).base == 14) ≡ true → of_home k h o ≡ h
home_here f Nv n h o is = refl
home_here f Const n h o is = absurd (cc is)
home_here f Vol n h o is = absurd (cc is)

joined_home : (f : Free) (arrays : List Array) (homes others : List (List ℕ)) (a : ℕ) → length homes ≡ length arrays → length others ≡ length arrays → ((area_at (areas_from f arrays) a).base == 14) ≡ true
    → slice_index_or (joined arrays homes others) a [] ≡ slice_index_or homes a []
joined_home f [] homes others zero one two is = absurd (cc is)
joined_home f [] homes others (suc a) one two is = absurd (cc is)
joined_home f (x ∷ arrays) [] others a one two is = absurd (omega (arith, one))
joined_home f (x ∷ arrays) (h ∷ homes) [] a one two is = absurd (omega (arith, two))
joined_home f (x ∷ arrays) (h ∷ homes) (o ∷ others) zero one two is = home_here f x.kind (length x.first) h o is
joined_home f (x ∷ arrays) (h ∷ homes) (o ∷ others) (suc a) one two is = joined_home (free_of f x.kind (length x.first)) arrays homes others a (omega (arith, one)) (omega (arith, two)) is

-- a home's word is that of the first of the two
home_word : (c : Core) (homes others : List (List ℕ)) (s : Store) (at : Place) → length homes ≡ length c.arrays → length others ≡ length c.arrays → IsHome c at
    → word_at (with_words (joined c.arrays homes others) s) at ≡ word_at (with_words homes s) at
home_word c homes others s at one two home = ap (λ (ws : List ℕ). slice_index ws at.index) (joined_home free_at_first c.arrays homes others at.array one two home.nonvolatile)

-- ---- the banks change their parts

-- what is worked in then lay beside before
record Turns (bank now : ℕ) : Type 0 where
  work : worked Bank bank ≡ beside Bank now
  rest : beside Bank bank ≡ worked Bank now
  differ : (bank == now) ≡ false

turns_of : (bank now : ℕ) → (bank ≡ 1 × now ≡ 0) ⊎ (bank ≡ 0 × now ≡ 1) → Turns bank now
turns_of bank now (inl is) = record { work = ap (worked Bank) is.0 ∙ sym (ap (beside Bank) is.1); rest = ap (beside Bank) is.0 ∙ sym (ap (worked Bank) is.1); differ = λ i. (is.0 i) == (is.1 i) }
turns_of bank now (inr is) = record { work = ap (worked Bank) is.0 ∙ sym (ap (beside Bank) is.1); rest = ap (beside Bank) is.0 ∙ sym (ap (worked Bank) is.1); differ = λ i. (is.0 i) == (is.1 i) }

module _ (areas : (c : Core) (bank : ℕ) → IsWellFormed c → bank ≤ 2048 → LieInAreas (layout_of c bank)) (c : Core) (well : IsWellFormed c) (m : ℕ → ℕ) (s : State) (epoch task bank : ℕ) where
  abbrev word : ℕ
  word = state_word epoch task bank

  -- homes stay where the state word is written
  homes_stay : (b : ℕ) → b ≤ 2048 → (words : Place → ℕ) → HasHomes c b m words → HasHomes c b (put m 0 word) words
  homes_stay b low words h at home =
      let here = home_in c (λ k few. areas c k well few) b low at home in
      below m 0 word (address_in c b at) (omega (arith, here.from)) ∙ h at home

  abbrev committed : State → State
  committed from = record from { epoch = epoch; task = task; bank = bank }

  -- no record holds
  cells_new : (scheme : Scheme) (t next : CoreTask) (homes : Store) (aside : List (List ℕ)) → HasCells c scheme t m s → ((k : ℕ) → IsSite k → s.cells.flag k ≢ epoch)
      → HasCells c scheme next (put m 0 word) (committed (record s { store = homes; aside = aside }))
  cells_new scheme t next homes aside h new = record {
    locks = λ r few. below m 0 word (lock_at r) (omega arith) ∙ h.locks r few;
    flags = λ k is. below m 0 word (flag_at k) (omega arith) ∙ h.flags k is;
    kept = λ n few. below m 0 word (7042 + n) (omega arith) ∙ h.kept n few;
    records = λ k is held. absurd (new k is held);
  }

  commit_undo : (t next : CoreTask) → Stands c Undo t m s → CommitFits c Undo s epoch bank → Stands c Undo next (put m 0 word) (after_write c.arrays (puts_state epoch task bank) s)
  commit_undo t next h fit = subst (λ q. Stands c Undo next (put m 0 word) (committed (turned q c.arrays s))) (sym (eq-eqb bank s.bank (fit.same refl))) stayed
    where
      stayed : Stands c Undo next (put m 0 word) (committed s)
      stayed = record {
        store = record {
          state = hit m 0 word;
          homes = homes_stay 0 (omega arith) (word_at s.store) h.store.homes;
          aside = homes_stay 2048 (omega arith) (aside_at s) h.store.aside;
        };
        cells = cells_new Undo t next s.store s.aside h.cells fit.new;
      }

  abbrev fresh_store : Store
  fresh_store = with_words (joined c.arrays s.aside s.store.words) s.store

  abbrev fresh_aside : List (List ℕ)
  fresh_aside = joined c.arrays s.store.words s.aside

  commit_bank : (t next : CoreTask) → Stands c Bank t m s → CommitFits c Bank s epoch bank → Stands c Bank next (put m 0 word) (after_write c.arrays (puts_state epoch task bank) s)
  commit_bank t next h fit = subst (λ q. Stands c Bank next (put m 0 word) (committed (turned q c.arrays s))) (sym turns.differ) changed
    where
      turns : Turns bank s.bank
      turns = turns_of bank s.bank (fit.other refl)

      changed : Stands c Bank next (put m 0 word) (committed (record s { store = fresh_store; aside = fresh_aside }))
      changed = record {
        store = record {
          state = hit m 0 word;
          homes = λ at home.
              ap (λ b. put m 0 word (address_in c b at)) turns.work
              ∙ homes_stay (beside Bank s.bank) (beside_low Bank s.bank) (aside_at s) h.store.aside at home
              ∙ sym (home_word c s.aside s.store.words s.store at fit.shape.others fit.shape.homes home);
          aside = λ at home.
              ap (λ b. put m 0 word (address_in c b at)) turns.rest
              ∙ homes_stay (worked Bank s.bank) (worked_low Bank s.bank) (word_at s.store) h.store.homes at home
              ∙ sym (home_word c s.store.words s.aside fresh_store at fit.shape.homes fit.shape.others home);
        };
        cells = cells_new Bank t next fresh_store fresh_aside h.cells fit.new;
      }

  pub commit_stands : (scheme : Scheme) (t next : CoreTask) → Stands c scheme t m s → CommitFits c scheme s epoch bank
      → Stands c scheme next (put m 0 (word_of c scheme s (puts_state epoch task bank))) (after_write c.arrays (puts_state epoch task bank) s)
  commit_stands Undo t next h fit = commit_undo t next h fit
  commit_stands Bank t next h fit = commit_bank t next h fit
