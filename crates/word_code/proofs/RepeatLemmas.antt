-- Blocks of instructions that were put one behind the other.
use Rattle.std.specs.Prelude.{◌≡◌, ℕ, suc, ◌+◌, ◌-◌, ◌*◌, ◌<◌, ◌≤◌, List, [], ◌∷◌, ◌++◌, length, refl}
use Rattle.std.proofs.Common.{ap, sym, ◌∙◌, arith, append_assoc, append-nil}
use Rattle.word_isa.specs.declared.instr.Instr.{Instr}
use Rattle.line_code.specs.declared.line.Line.{Line}
use Rattle.line_code.specs.Lines.{bare, bares}
use Rattle.word_code.specs.Repeats.{each}

-- instructions without marks, in two parts
pub bares_parts : (a b : List Instr) → bares (a ++ b) ≡ bares a ++ bares b
bares_parts [] b = refl
bares_parts (i ∷ is) b = ap (λ (x : List Line). bare i ∷ x) (bares_parts is b)

-- what is there with what is left is all
pub record IsOnRun (block : ℕ → List Instr) (size : ℕ) (start now : List Line) (done count : ℕ) : Type 0 where
  pub lines : now ++ bares (each block done (count - done)) ≡ start ++ bares (each block 0 count)
  pub grown : length now ≡ length start + size * done

-- at the front
pub run_begins : (block : ℕ → List Instr) (size : ℕ) (start : List Line) (count : ℕ) → IsOnRun block size start start 0 count
run_begins block size start count =
    let all : count - 0 ≡ count = omega arith in
    record { lines = ap (λ (n : ℕ). start ++ bares (each block 0 n)) all; grown = omega arith }

-- one block more
next_block : (block : ℕ → List Instr) (done count left : ℕ) → left ≡ suc (count - (done + 1)) → each block done left ≡ block done ++ each block (done + 1) (count - (done + 1))
next_block block done count left is = ap (each block done) is

pub run_goes_on : (block : ℕ → List Instr) (size : ℕ) (start now new : List Line) (done count : ℕ) → IsOnRun block size start now done count → done < count
    → length (block done) ≡ size → new ≡ now ++ bares (block done) → length new ≡ length now + size → IsOnRun block size start new (done + 1) count
run_goes_on block size start now new done count way more long lines grown = record {
  lines =
      ap (λ (x : List Line). x ++ bares (each block (done + 1) (count - (done + 1)))) lines
      ∙ append_assoc now (bares (block done)) (bares (each block (done + 1) (count - (done + 1))))
      ∙ ap (λ (x : List Line). now ++ x) (sym (bares_parts (block done) (each block (done + 1) (count - (done + 1)))))
      ∙ ap (λ (x : List Instr). now ++ bares x) (sym (next_block block done count (count - done) (omega (arith, more))))
      ∙ way.lines;
  grown = omega (arith, grown, way.grown);
}

-- all are there
pub run_ends : (block : ℕ → List Instr) (size : ℕ) (start now : List Line) (done count : ℕ) → IsOnRun block size start now done count → count ≤ done → now ≡ start ++ bares (each block 0 count)
run_ends block size start now done count way past =
    let none : 0 ≡ count - done = omega (arith, past) in
    sym (append-nil now) ∙ ap (λ (n : ℕ). now ++ bares (each block done n)) none ∙ way.lines
