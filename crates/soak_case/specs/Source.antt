-- The program of a soak: 64 tasks of one shape with drawn annotations and numbers (docs/COMMANDS.md, "Soak").
use Rattle.std.specs.Prelude.{ℕ, zero, suc, ◌+◌, ◌==◌, List, [], ◌++◌, codes, decimal, if◌then◌else◌}
use Rattle.soak_case.specs.Draws.{drawn_below, state_behind}
use Rattle.soak_case.specs.declared.drawn.Drawn.{Drawn}

-- what is drawn for a task, in this order
abbrev pub task_drawn : (s : ℕ) → Drawn
task_drawn s = record {
  reading = drawn_below 3 (state_behind 1 s);
  block = drawn_below 3 (state_behind 2 s);
  element = drawn_below 32 (state_behind 3 s);
  inner = drawn_below 3 (state_behind 4 s);
  sent = drawn_below 3 (state_behind 5 s);
  way = drawn_below 2 (state_behind 6 s);
  words = drawn_below 33 (state_behind 7 s);
  factor = drawn_below 1000 (state_behind 8 s);
}

-- a number between two texts
abbrev pub named : (front : List ℕ) (n : ℕ) (back : List ℕ) → List ℕ
named front n back = front ++ decimal n ++ back

-- an annotation by its number
abbrev pub ann_text : ℕ → List ℕ
ann_text zero = codes "SINGLE"
ann_text (suc zero) = codes "TIMELY(500)"
ann_text (suc (suc n)) = codes "ALWAYS"

-- the ends of a copy
abbrev pub ends_text : ℕ → List ℕ
ends_text zero = codes "a, b"
ends_text (suc n) = codes "b, a"

-- each task goes on with the next, and the last with the first until 384 tasks have ended
abbrev pub exit_text : (task : ℕ) → List ℕ
exit_text j = if j == 64 then codes "  if (n < 384) NEXT(t1); else STOP;\n}\n" else named (codes "  NEXT(t") (j + 1) (codes ");\n}\n")

-- a call in a task, and a block around two
abbrev pub reading_text : Drawn → List ℕ
reading_text d = codes "  v = IO(temp, " ++ ann_text d.reading ++ codes ");\n"

abbrev pub block_text : Drawn → List ℕ
block_text d =
    codes "  IO_BLOCK(" ++ ann_text d.block ++ named (codes ") { b[") d.element (codes "] = IO(temp, ") ++ ann_text d.inner ++ codes "); IO(radio, " ++ ann_text d.sent ++ codes ", v); }\n"

-- a copy, and a loop that adds up what `b` has
abbrev pub copy_text : Drawn → List ℕ
copy_text d = codes "  DMA(" ++ ends_text d.way ++ named (codes ", ") d.words (codes ");\n")

abbrev pub loop_text : Drawn → List ℕ
loop_text d = named (codes "  for (i = 0; i < 16; i++) { r = r + b[i] * ") d.factor (codes "; }\n")

abbrev pub task_text : (task : ℕ) → Drawn → List ℕ
task_text j d =
    named (codes "task t") j (codes " {\n") ++ reading_text d ++ block_text d ++ copy_text d ++ loop_text d ++ codes "  IO(radio, SINGLE, r);\n  n = n + 1;\n" ++ exit_text j

-- so many tasks from a number on
unfoldable pub tasks_text : (task left s : ℕ) → List ℕ
tasks_text j zero s = []
tasks_text j (suc left) s = task_text j (task_drawn s) ++ tasks_text (suc j) left (state_behind 8 s)

abbrev pub declarations : List ℕ
declarations = codes "peripheral temp 0; peripheral radio 1;\nnv word a[32]; nv word n; nv word r;\nword b[32]; word v; word i;\n"

-- the program of a number
abbrev pub source_of : (number : ℕ) → List ℕ
source_of number = declarations ++ tasks_text 1 64 number
