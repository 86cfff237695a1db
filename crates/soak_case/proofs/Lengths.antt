-- The program of a soak is short.
use Rattle.std.specs.Prelude.{◌==◌, ◌<◌, ◌≤◌, codes, decimal, if◌then◌else◌}
use Rattle.std.proofs.Common.{◌≡◌, ℕ, zero, suc, ◌+◌, ◌*◌, Bool, true, false, List, ◌++◌, length, refl, length-append, arith}
use Rattle.std.proofs.lemmas.Fmt.{length-decimal-le}
use Rattle.soak_case.specs.Draws.{state_behind}
use Rattle.soak_case.specs.Source.{task_drawn, named, ann_text, ends_text, exit_text, reading_text, block_text, copy_text, loop_text, task_text, tasks_text, declarations, source_of}
use Rattle.soak_case.specs.declared.drawn.Drawn.{Drawn}

few : (a : List ℕ) (n : ℕ) → length a ≡ n → length a ≤ n
few a n is = omega (arith, is)

joined : (a b : List ℕ) (n m : ℕ) → length a ≤ n → length b ≤ m → length (a ++ b) ≤ n + m
joined a b n m x y = omega (arith, length-append a b, x, y)

named_short : (front : List ℕ) (k : ℕ) (back : List ℕ) (n m : ℕ) → length front ≤ n → length back ≤ m → k < 1000 → length (named front k back) ≤ n + 3 + m
named_short front k back n m x y small =
    let digits : length (decimal k) ≤ 3 = length-decimal-le 3 k (omega arith) (omega (arith, small)) (omega (arith, small)) in
    joined (front ++ decimal k) back (n + 3) m (joined front (decimal k) n 3 x digits) y

ann_short : (k : ℕ) → length (ann_text k) ≤ 11
ann_short zero = omega (arith, few (codes "SINGLE") 6 refl)
ann_short (suc zero) = few (codes "TIMELY(500)") 11 refl
ann_short (suc (suc k)) = omega (arith, few (codes "ALWAYS") 6 refl)

ends_short : (k : ℕ) → length (ends_text k) ≤ 4
ends_short zero = few (codes "a, b") 4 refl
ends_short (suc k) = few (codes "b, a") 4 refl

-- what is drawn for a task is below a thousand where it is written as a number
record IsSmall (d : Drawn) : Type 0 where
  pub element : d.element < 1000
  pub words : d.words < 1000
  pub factor : d.factor < 1000

drawn_small : (s : ℕ) → IsSmall (task_drawn s)
drawn_small s = record { element = omega arith; words = omega arith; factor = omega arith }

reading_short : (d : Drawn) → length (reading_text d) ≤ 29
reading_short d = joined (codes "  v = IO(temp, " ++ ann_text d.reading) (codes ");\n") 26 3 (joined (codes "  v = IO(temp, ") (ann_text d.reading) 15 11 (few (codes "  v = IO(temp, ") 15 refl) (ann_short d.reading)) (few (codes ");\n") 3 refl)

block_short : (d : Drawn) → IsSmall d → length (block_text d) ≤ 87
block_short d small =
    let s1 : length (codes "  IO_BLOCK(" ++ (ann_text d.block)) ≤ 22 = joined (codes "  IO_BLOCK(") (ann_text d.block) 11 11 (few (codes "  IO_BLOCK(") 11 refl) (ann_short d.block) in
    let s2 : length (codes "  IO_BLOCK(" ++ (ann_text d.block) ++ (named (codes ") { b[") d.element (codes "] = IO(temp, "))) ≤ 44 = joined (codes "  IO_BLOCK(" ++ (ann_text d.block)) (named (codes ") { b[") d.element (codes "] = IO(temp, ")) 22 22 s1 (named_short (codes ") { b[") d.element (codes "] = IO(temp, ") 6 13 (few (codes ") { b[") 6 refl) (few (codes "] = IO(temp, ") 13 refl) small.element) in
    let s3 : length (codes "  IO_BLOCK(" ++ (ann_text d.block) ++ (named (codes ") { b[") d.element (codes "] = IO(temp, ")) ++ (ann_text d.inner)) ≤ 55 = joined (codes "  IO_BLOCK(" ++ (ann_text d.block) ++ (named (codes ") { b[") d.element (codes "] = IO(temp, "))) (ann_text d.inner) 44 11 s2 (ann_short d.inner) in
    let s4 : length (codes "  IO_BLOCK(" ++ (ann_text d.block) ++ (named (codes ") { b[") d.element (codes "] = IO(temp, ")) ++ (ann_text d.inner) ++ (codes "); IO(radio, ")) ≤ 68 = joined (codes "  IO_BLOCK(" ++ (ann_text d.block) ++ (named (codes ") { b[") d.element (codes "] = IO(temp, ")) ++ (ann_text d.inner)) (codes "); IO(radio, ") 55 13 s3 (few (codes "); IO(radio, ") 13 refl) in
    let s5 : length (codes "  IO_BLOCK(" ++ (ann_text d.block) ++ (named (codes ") { b[") d.element (codes "] = IO(temp, ")) ++ (ann_text d.inner) ++ (codes "); IO(radio, ") ++ (ann_text d.sent)) ≤ 79 = joined (codes "  IO_BLOCK(" ++ (ann_text d.block) ++ (named (codes ") { b[") d.element (codes "] = IO(temp, ")) ++ (ann_text d.inner) ++ (codes "); IO(radio, ")) (ann_text d.sent) 68 11 s4 (ann_short d.sent) in
    let s6 : length (codes "  IO_BLOCK(" ++ (ann_text d.block) ++ (named (codes ") { b[") d.element (codes "] = IO(temp, ")) ++ (ann_text d.inner) ++ (codes "); IO(radio, ") ++ (ann_text d.sent) ++ (codes ", v); }\n")) ≤ 87 = joined (codes "  IO_BLOCK(" ++ (ann_text d.block) ++ (named (codes ") { b[") d.element (codes "] = IO(temp, ")) ++ (ann_text d.inner) ++ (codes "); IO(radio, ") ++ (ann_text d.sent)) (codes ", v); }\n") 79 8 s5 (few (codes ", v); }\n") 8 refl) in
    s6

copy_short : (d : Drawn) → IsSmall d → length (copy_text d) ≤ 18
copy_short d small =
    let s1 : length (codes "  DMA(" ++ (ends_text d.way)) ≤ 10 = joined (codes "  DMA(") (ends_text d.way) 6 4 (few (codes "  DMA(") 6 refl) (ends_short d.way) in
    let s2 : length (codes "  DMA(" ++ (ends_text d.way) ++ (named (codes ", ") d.words (codes ");\n"))) ≤ 18 = joined (codes "  DMA(" ++ (ends_text d.way)) (named (codes ", ") d.words (codes ");\n")) 10 8 s1 (named_short (codes ", ") d.words (codes ");\n") 2 3 (few (codes ", ") 2 refl) (few (codes ");\n") 3 refl) small.words) in
    s2

loop_short : (d : Drawn) → IsSmall d → length (loop_text d) ≤ 51
loop_short d small = named_short (codes "  for (i = 0; i < 16; i++) { r = r + b[i] * ") d.factor (codes "; }\n") 44 4 (few (codes "  for (i = 0; i < 16; i++) { r = r + b[i] * ") 44 refl) (few (codes "; }\n") 4 refl) small.factor

exit_short : (j : ℕ) → j < 999 → length (exit_text j) ≤ 38
exit_short j small = by (j == 64)
  where
    by : (b : Bool) → length (if b then codes "  if (n < 384) NEXT(t1); else STOP;\n}\n" else named (codes "  NEXT(t") (j + 1) (codes ");\n}\n")) ≤ 38
    by true = omega (arith, few (codes "  if (n < 384) NEXT(t1); else STOP;\n}\n") 38 refl)
    by false = omega (arith, named_short (codes "  NEXT(t") (j + 1) (codes ");\n}\n") 8 5 (few (codes "  NEXT(t") 8 refl) (few (codes ");\n}\n") 5 refl) (omega (arith, small)))

task_short : (j : ℕ) (d : Drawn) → j < 999 → IsSmall d → length (task_text j d) ≤ 272
task_short j d below small =
    let s1 : length (named (codes "task t") j (codes " {\n") ++ (reading_text d)) ≤ 41 = joined (named (codes "task t") j (codes " {\n")) (reading_text d) 12 29 (named_short (codes "task t") j (codes " {\n") 6 3 (few (codes "task t") 6 refl) (few (codes " {\n") 3 refl) (omega (arith, below))) (reading_short d) in
    let s2 : length (named (codes "task t") j (codes " {\n") ++ (reading_text d) ++ (block_text d)) ≤ 128 = joined (named (codes "task t") j (codes " {\n") ++ (reading_text d)) (block_text d) 41 87 s1 (block_short d small) in
    let s3 : length (named (codes "task t") j (codes " {\n") ++ (reading_text d) ++ (block_text d) ++ (copy_text d)) ≤ 146 = joined (named (codes "task t") j (codes " {\n") ++ (reading_text d) ++ (block_text d)) (copy_text d) 128 18 s2 (copy_short d small) in
    let s4 : length (named (codes "task t") j (codes " {\n") ++ (reading_text d) ++ (block_text d) ++ (copy_text d) ++ (loop_text d)) ≤ 197 = joined (named (codes "task t") j (codes " {\n") ++ (reading_text d) ++ (block_text d) ++ (copy_text d)) (loop_text d) 146 51 s3 (loop_short d small) in
    let s5 : length (named (codes "task t") j (codes " {\n") ++ (reading_text d) ++ (block_text d) ++ (copy_text d) ++ (loop_text d) ++ (codes "  IO(radio, SINGLE, r);\n  n = n + 1;\n")) ≤ 234 = joined (named (codes "task t") j (codes " {\n") ++ (reading_text d) ++ (block_text d) ++ (copy_text d) ++ (loop_text d)) (codes "  IO(radio, SINGLE, r);\n  n = n + 1;\n") 197 37 s4 (few (codes "  IO(radio, SINGLE, r);\n  n = n + 1;\n") 37 refl) in
    let s6 : length (named (codes "task t") j (codes " {\n") ++ (reading_text d) ++ (block_text d) ++ (copy_text d) ++ (loop_text d) ++ (codes "  IO(radio, SINGLE, r);\n  n = n + 1;\n") ++ (exit_text j)) ≤ 272 = joined (named (codes "task t") j (codes " {\n") ++ (reading_text d) ++ (block_text d) ++ (copy_text d) ++ (loop_text d) ++ (codes "  IO(radio, SINGLE, r);\n  n = n + 1;\n")) (exit_text j) 234 38 s5 (exit_short j below) in
    s6

tasks_short : (j left s : ℕ) → j + left ≤ 999 → length (tasks_text j left s) ≤ left * 272
unfolding tasks_text
tasks_short j zero s room = omega arith
tasks_short j (suc left) s room =
    omega (arith, joined (task_text j (task_drawn s)) (tasks_text (suc j) left (state_behind 8 s)) 272 (left * 272) (task_short j (task_drawn s) (omega (arith, room)) (drawn_small s)) (tasks_short (suc j) left (state_behind 8 s) (omega (arith, room))))

pub source_short : (number : ℕ) → length (source_of number) ≤ 65536
source_short number =
    omega (arith, joined declarations (tasks_text 1 64 number) 104 (64 * 272) (few declarations 104 refl) (tasks_short 1 64 number (omega arith)))
