-- One word is put: what lies elsewhere stays.
use Rattle.std.specs.Prelude.{◌==◌, cond, if◌then◌else◌}
use Rattle.std.proofs.Common.{◌≡◌, ◌≢◌, ◌∙◌, ℕ, ◌<◌, Bool, true, false, refl, sym, ap, arith, eqb-true, eq-eqb}
use Rattle.fram_ram.specs.Memories as memory
use Rattle.task_attempts.specs.Changes as changes

pub unequal : (a b : ℕ) → a ≢ b → (a == b) ≡ false
unequal a b apart = by_test (a == b) refl
  where
    by_test : (t : Bool) → (a == b) ≡ t → t ≡ false
    by_test true is = absurd (apart (eqb-true a b is))
    by_test false is = refl

-- a memory's word
pub hit : (m : ℕ → ℕ) (a w : ℕ) → memory.put m a w a ≡ w
hit m a w = ap (λ b. if b then w else m a) (eq-eqb a a refl)

pub miss : (m : ℕ → ℕ) (a w b : ℕ) → a ≢ b → memory.put m a w b ≡ m b
miss m a w b apart = ap (λ t. if t then w else m b) (unequal a b apart)

pub below : (m : ℕ → ℕ) (a w b : ℕ) → a < b → memory.put m a w b ≡ m b
below m a w b less = miss m a w b (λ same. absurd (omega (arith, less, same)))

pub above : (m : ℕ → ℕ) (a w b : ℕ) → b < a → memory.put m a w b ≡ m b
above m a w b less = miss m a w b (λ same. absurd (omega (arith, less, same)))

-- and what a cell has
pub got : {A : Type 0} (k : ℕ) (x : A) (f : ℕ → A) → changes.put k x f k ≡ x
got k x f = ap (λ b. cond b x (f k)) (eq-eqb k k refl)

pub left : {A : Type 0} (k : ℕ) (x : A) (f : ℕ → A) (j : ℕ) → k ≢ j → changes.put k x f j ≡ f j
left k x f j apart = ap (λ b. cond b x (f j)) (unequal k j apart)

-- two functions that were alike are alike where both have the same at one number
pub both_put : (m f : ℕ → ℕ) (at : ℕ → ℕ) (k w j : ℕ) → (k ≢ j → at k ≢ at j) → m (at j) ≡ f j → memory.put m (at k) w (at j) ≡ changes.put k w f j
both_put m f at k w j apart same = by_test (k == j) refl
  where
    by_test : (t : Bool) → (k == j) ≡ t → memory.put m (at k) w (at j) ≡ changes.put k w f j
    by_test true is = ap (λ i. memory.put m (at k) w (at i)) (sym (eqb-true k j is)) ∙ hit m (at k) w ∙ sym (got k w f) ∙ ap (changes.put k w f) (eqb-true k j is)
    by_test false is =
        let other : k ≢ j = λ e. absurd (cc (is, eq-eqb k j e)) in
        miss m (at k) w (at j) (apart other) ∙ same ∙ sym (left k w f j other)
