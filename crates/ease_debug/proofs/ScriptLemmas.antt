-- Lines one after another.
use Rattle.std.specs.Prelude.{Result, Ok, Err, IsErr}
use Rattle.std.specs.Result.{IsErrAnd}
use Rattle.std.specs.Option.{SomeIff}
use Rattle.std.specs.Borrow.{Bor}
use Rattle.std.proofs.Common.{◌≡◌, ◌∙◌, ℕ, suc, ◌+◌, List, [], ◌∷◌, ◌++◌, length, Option, Some, None, refl, sym, ap, subst, append_assoc, append-nil}
use Rattle.ease_debug.specs.Commands.{words_of}
use Rattle.ease_debug.specs.Reading.{script_of, behind, read_on, commands_of, command_of, Reads, ReadsLine}
use Rattle.ease_debug.specs.Words.{split_at, rest_of}
use Rattle.ease_debug.specs.declared.error.ScriptError.{ScriptError}
use Rattle.ease_debug.specs.declared.error.ScriptError.TheVariants as fails
use Rattle.ease_debug.specs.declared.command.Command.{Command}
use Rattle.word_isa.specs.declared.image.Image.{Image}

-- how much is left
abbrev pub left_long : Option (Bor (List ℕ)) → ℕ
left_long None = 0
left_long (Some text) = suc (length text.now)

joined : (old : List Command) (c : Command) (rest : Result (List Command) ℕ) → behind old (behind (c ∷ []) rest) ≡ behind (old ++ c ∷ []) rest
joined old c (Ok more) = ap Ok (sym (append_assoc old (c ∷ []) more))
joined old c (Err n) = refl

goes_by : (o : Option Command) (old new : List Command) (n : ℕ) (rest : Result (List Command) ℕ) → behind old (read_on o n (Ok [])) ≡ Ok new → behind old (read_on o n rest) ≡ behind new rest
goes_by None old new n rest is = cc
goes_by (Some c) old new n rest is = let same : old ++ c ∷ [] ≡ new = cc in joined old c rest ∙ ap (λ cs. behind cs rest) same

-- a line that may stand
pub line_goes : (image : Image) (line : List ℕ) (rest : List (List ℕ)) (n m : ℕ) (old new : List Command) → m ≡ n + 1 → behind old (commands_of image line m) ≡ Ok new
    → behind new (script_of image m rest) ≡ behind old (script_of image n (line ∷ rest))
unfolding script_of
line_goes image [] rest n m old new next is =
    let same : old ++ [] ≡ new = cc in
    ap (λ cs. behind cs (script_of image m rest)) (sym same ∙ append-nil old) ∙ ap (λ k. behind old (script_of image k rest)) next
line_goes image (b ∷ line) rest n m old new next is =
    sym (goes_by (command_of image (words_of (b ∷ line))) old new m (script_of image m rest) is)
    ∙ ap (λ k. behind old (read_on (command_of image (words_of (b ∷ line))) k (script_of image k rest))) next

fails_by : (o : Option Command) (old : List Command) (n m : ℕ) (rest : Result (List Command) ℕ) → read_on o n (Ok []) ≡ Err m → behind old (read_on o n rest) ≡ Err m
fails_by None old n m rest is = let same : n ≡ m = cc in ap Err same
fails_by (Some c) old n m rest is = cc

-- and one that may not
pub line_fails : (image : Image) (line : List ℕ) (rest : List (List ℕ)) (n m k : ℕ) (old : List Command) → m ≡ n + 1 → commands_of image line m ≡ Err k → behind old (script_of image n (line ∷ rest)) ≡ Err k
unfolding script_of
line_fails image [] rest n m k old next is = cc
line_fails image (b ∷ line) rest n m k old next is =
    ap (λ j. behind old (read_on (command_of image (words_of (b ∷ line))) j (script_of image j rest))) (sym next)
    ∙ fails_by (command_of image (words_of (b ∷ line))) old m k (script_of image m rest) is

-- a turn of the reader at a line that may stand
pub turn_goes : (image : Image) (all : List (List ℕ)) (left : Option (Bor (List ℕ))) (text : Bor (List ℕ)) (line : List ℕ) (rest : Option (Bor (List ℕ))) (old new : List Command) (n m : ℕ)
    → behind old (script_of image n (rest_of 10 left)) ≡ script_of image 0 all → left ≡ Some text → split_at 10 text.now ≡ line ∷ rest_of 10 rest → m ≡ n + 1 → behind old (commands_of image line m) ≡ Ok new
    → behind new (script_of image m (rest_of 10 rest)) ≡ script_of image 0 all
turn_goes image all left text line rest old new n m before more parts next did =
    line_goes image line (rest_of 10 rest) n m old new next did
    ∙ ap (λ ls. behind old (script_of image n ls)) (sym parts)
    ∙ ap (λ l. behind old (script_of image n (rest_of 10 l))) (sym more) ∙ before

-- at one that may not, or without memory
pub turn_fails : (image : Image) (all : List (List ℕ)) (left : Option (Bor (List ℕ))) (text : Bor (List ℕ)) (line : List ℕ) (rest : Option (Bor (List ℕ))) (old new : List Command) (n m : ℕ) (e : ScriptError)
    → behind old (script_of image n (rest_of 10 left)) ≡ script_of image 0 all → left ≡ Some text → split_at 10 text.now ≡ line ∷ rest_of 10 rest → m ≡ n + 1 → ReadsLine image line m old new (Err e)
    → Reads (script_of image 0 all) (Err e)
turn_fails image all left text line rest old new n m (fails.Line k) before more parts next did =
    sym before ∙ ap (λ l. behind old (script_of image n (rest_of 10 l))) more ∙ ap (λ ls. behind old (script_of image n ls)) parts ∙ line_fails image line (rest_of 10 rest) n m k old next did.1
turn_fails image all left text line rest old new n m fails.NoMemory before more parts next did = tt

-- no line is left
pub turn_ends : (image : Image) (all : List (List ℕ)) (left : Option (Bor (List ℕ))) (read : List Command) (n : ℕ)
    → behind read (script_of image n (rest_of 10 left)) ≡ script_of image 0 all → left ≡ None → script_of image 0 all ≡ Ok read
unfolding script_of
turn_ends image all left read n before none = sym before ∙ ap (λ l. behind read (script_of image n (rest_of 10 l))) none ∙ ap Ok (append-nil read)

-- an answer that is an error
pub reads_err : (script : Result (List Command) ℕ) (result : Result (List Command) ScriptError) (x : ScriptError) → IsErr result × IsErrAnd result (λ e. e ≡ x) → Reads script (Err x) → Reads script result
reads_err script (Ok cs) x failed reads = cc
reads_err script (Err e) x failed reads = subst (λ y. Reads script (Err y)) (sym failed.1) reads

-- the number of the next line
pub counted : (o : Option ℕ) (P : Type 0) (x m : ℕ) → SomeIff o P x → o ≡ Some m → m ≡ x
counted None P x m told is = cc
counted (Some y) P x m told is = let same : y ≡ m = cc in sym same ∙ told.1
