-- The printed text of a run.
use Rattle.std.specs.Prelude.{ℕ, List, [], ◌∷◌, ◌++◌, codes}
use Rattle.std.specs.List.{flat_map}
use Rattle.std.specs.Fmt.{decimal}
use Rattle.ease_base.specs.Lines.{line}
use Rattle.task_ast.specs.declared.core_form.Core.{Core}
use Rattle.walk_run.specs.declared.walked.WalkEnd.{WalkEnd}
use Rattle.walk_run.specs.declared.walked.WalkEnd.TheVariants.{Stopped, Limit, Trapped, NoReading}
use Rattle.walk_run.specs.declared.walked.State.{State}
use Rattle.walk_run.specs.declared.walked.Walked.{Walked}
use Rattle.walk_run.specs.Store.{shown_names}
use Rattle.walk_run.specs.Trap.{code_of}

-- a word after a space
abbrev pub word_text : ℕ → List ℕ
word_text word = 32 ∷ decimal word

-- an array's name, ` =`, and each of its words after a space
unfoldable pub array_line : List ℕ → List ℕ → List ℕ
array_line name words = line (name ++ codes " =" ++ flat_map word_text words)

-- a line for each name, with the words of its array
abbrev pub array_lines : List (List ℕ) → List (List ℕ) → List ℕ
array_lines [] words = []
array_lines (name ∷ names) [] = []
array_lines (name ∷ names) (first ∷ words) = array_line name first ++ array_lines names words

-- a state: the next task, and the arrays that it shows
unfoldable pub state_text : List (List ℕ) → State → List ℕ
state_text names s = line (codes "commit " ++ decimal s.next) ++ array_lines names s.words

-- how a run ended
abbrev pub end_text : WalkEnd → List ℕ
end_text Stopped = codes "end stopped"
end_text Limit = codes "end limit"
end_text (Trapped trap) = codes "end trapped " ++ decimal (code_of trap)
end_text NoReading = codes "end reading"

-- each state in turn, then the end
unfoldable pub text_of : Core → Walked → List ℕ
text_of c w = flat_map (state_text (shown_names c.arrays)) w.states ++ line (end_text w.end)
