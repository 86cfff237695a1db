-- A transfer moves one word a step, and each word that goes to FRAM is seen; its event comes with the last.
use Rattle.std.specs.Prelude.{◌==◌, ◌-◌}
use Rattle.std.proofs.Common.{◌≡◌, ◌∙◌, ℕ, zero, suc, ◌+◌, ◌<◌, ◌≤◌, true, false, List, [], ◌++◌, sym, ap, append-nil, append_assoc, ◌∷◌, arith}
use Rattle.std.proofs.lemmas.Bool.Decides.{nat_tests}
use Rattle.devices.specs.declared.event.Event.TheVariants.{Copied}
use Rattle.fram_ram.specs.Memories.{has_word, put}
use Rattle.fram_ram.specs.Engine.{copied}
use Rattle.word_machine.specs.Events.{event_next, site_of}
use Rattle.word_machine.specs.State.{Program, State}
use Rattle.word_machine.specs.Step.{step, exec}
use Rattle.word_machine.specs.Straight.{Spot, live}
use Rattle.word_machine.specs.Traces.{Atom, showed, noted, seen, trace, writes_next}

-- the machine while a transfer has its k-th word next, of so many that are left
abbrev pub moving : Spot → (to from k left : ℕ) → State
moving s to from k left = record (live s) { engine = record { to = to; from = from; moved = k; left = left } }

-- what the words of a transfer show
abbrev pub copy_atoms : (to from k n : ℕ) → (ℕ → ℕ) → List Atom
copy_atoms to from k zero store = []
copy_atoms to from k (suc n) store = noted (to + k) (store (from + k)) ++ copy_atoms to from (k + 1) n (put store (to + k) (store (from + k)))

-- the words of a transfer that are left have addresses
pub record HasWords (to from k n : ℕ) : Type 0 where
  pub source : (j : ℕ) → k ≤ j → j < k + n → has_word (from + j) ≡ true
  pub target : (j : ℕ) → k ≤ j → j < k + n → has_word (to + j) ≡ true

has_rest : (to from k n : ℕ) → HasWords to from k (suc n) → HasWords to from (k + 1) n
has_rest to from k n h = record { source = λ j a b. h.source j (omega arith) (omega arith); target = λ j a b. h.target j (omega arith) (omega arith) }

-- where the machine is after a word
abbrev after_word : Spot → (to from k : ℕ) → Spot
after_word s to from k = record s { store = put s.store (to + k) (s.store (from + k)); clock = s.clock + 1 }

not_none : (n : ℕ) → (suc n == 0) ≡ false
not_none n = grind (arith, nat_tests)

not_one : (n : ℕ) → (suc (suc n) == 1) ≡ false
not_one n = grind (arith, nat_tests)

one_less : (n : ℕ) → suc (suc n) - 1 ≡ suc n
one_less n = omega arith

last_word : (p : Program) (s : Spot) (to from k : ℕ) → HasWords to from k 1 → step p (moving s to from k 1) ≡ live (after_word s to from k)
unfolding step
last_word p s to from k h = rw (h.source k (omega arith) (omega arith), h.target k (omega arith) (omega arith))

next_word : (p : Program) (s : Spot) (to from k n : ℕ) → HasWords to from k (suc (suc n)) → step p (moving s to from k (suc (suc n))) ≡ moving (after_word s to from k) to from (k + 1) (suc n)
unfolding step
next_word p s to from k n h = rw (not_none (suc n), h.source k (omega arith) (omega arith), h.target k (omega arith) (omega arith), not_one n, one_less n)

-- the event of a copy that has ended
abbrev pub copied_shows : Program → Spot → (to from n : ℕ) → List Atom
copied_shows p s to from n = showed (Copied (site_of (p.mark (s.pc - 1))) from to n) ∷ []

last_seen : (p : Program) (s : Spot) (to from k : ℕ) → HasWords to from k 1 → seen p (moving s to from k 1) ≡ noted (to + k) (s.store (from + k)) ++ copied_shows p s to from (k + 1)
unfolding writes_next event_next
last_seen p s to from k h = rw (h.source k (omega arith) (omega arith), h.target k (omega arith) (omega arith))

next_seen : (p : Program) (s : Spot) (to from k n : ℕ) → HasWords to from k (suc (suc n)) → seen p (moving s to from k (suc (suc n))) ≡ noted (to + k) (s.store (from + k)) ++ []
unfolding writes_next event_next
next_seen p s to from k n h = rw (not_none (suc n), h.source k (omega arith) (omega arith), h.target k (omega arith) (omega arith), not_one n)

-- a transfer of one word or more takes as many steps
pub transfer_runs : (p : Program) (n : ℕ) (s : Spot) (to from k : ℕ) → HasWords to from k (suc n)
    → exec p (suc n) (moving s to from k (suc n)) ≡ live (record s { store = copied to from k (suc n) s.store; clock = s.clock + suc n })
unfolding exec copied
transfer_runs p zero s to from k h = last_word p s to from k h
transfer_runs p (suc n) s to from k h =
    ap (exec p (suc n)) (next_word p s to from k n h) ∙ transfer_runs p n (after_word s to from k) to from (k + 1) (has_rest to from k (suc n) h)
    ∙ ap (λ c. live (record s { store = copied to from k (suc (suc n)) s.store; clock = c })) (omega arith)

-- and shows its words, and its event behind them
pub transfer_shows : (p : Program) (n : ℕ) (s : Spot) (to from k total : ℕ) → HasWords to from k (suc n) → k + suc n ≡ total
    → trace p (suc n) (moving s to from k (suc n)) ≡ copy_atoms to from k (suc n) s.store ++ copied_shows p s to from total
unfolding trace
transfer_shows p zero s to from k total h e = rw (← e) (ap (λ x. x ++ []) (last_seen p s to from k h) ∙ append-nil _ ∙ ap (λ x. x ++ copied_shows p s to from (k + 1)) (sym (append-nil (noted (to + k) (s.store (from + k))))))
transfer_shows p (suc n) s to from k total h e =
    let word : List Atom = noted (to + k) (s.store (from + k)) in
    let more : List Atom = copy_atoms to from (k + 1) (suc n) (put s.store (to + k) (s.store (from + k))) in
    let first : seen p (moving s to from k (suc (suc n))) ≡ word = next_seen p s to from k n h ∙ append-nil word in
    let rest : trace p (suc n) (step p (moving s to from k (suc (suc n)))) ≡ more ++ copied_shows p s to from total =
    ap (trace p (suc n)) (next_word p s to from k n h) ∙ transfer_shows p n (after_word s to from k) to from (k + 1) total (has_rest to from k (suc n) h) (omega (arith, e)) in
    ap (λ x. x ++ trace p (suc n) (step p (moving s to from k (suc (suc n))))) first ∙ ap (λ x. word ++ x) rest ∙ sym (append_assoc word more (copied_shows p s to from total))
