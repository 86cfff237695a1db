-- How a line is read, word by word; that this is the grammar of docs/COMMANDS.md, "The debugger", are two laws.
use Rattle.std.specs.Prelude.{◌≡◌, ℕ, zero, suc, ◌&&◌, List, [], ◌∷◌, codes, decimal, nat_le, Option, Some, None, ◌+◌, ◌++◌, Result, Ok, Err, if◌then◌else◌}
use Rattle.std.specs.List.{position}
use Rattle.std.specs.Option.{option_map}
use Rattle.std.specs.Str.{bytes_eq}
use Rattle.std.specs.Str.Parse.{digits_value}
use Rattle.ease_debug.specs.Commands.{accepts, words_of}
use Rattle.ease_debug.specs.declared.command.Command.{Command}
use Rattle.ease_debug.specs.declared.command.Command.TheVariants.{Step, Fail, To, At, Show, Regs, Why}
use Rattle.ease_debug.specs.declared.error.ScriptError.{ScriptError}
use Rattle.ease_debug.specs.declared.error.ScriptError.TheVariants as fails
use Rattle.op_table.specs.Places.{place_of}
use Rattle.word_isa.specs.declared.image.Image.{Image}
use Rattle.word_isa.specs.declared.parts.Symbol.{Symbol}

-- the words with which commands begin
abbrev pub command_words : List (List ℕ)
command_words = codes "step" ∷ codes "fail" ∷ codes "to" ∷ codes "at" ∷ codes "show" ∷ codes "regs" ∷ codes "why" ∷ []

-- the number, at most so great, whose decimal digits the word is
abbrev pub number_in : ℕ → List ℕ → Option ℕ
number_in most word =
    if bytes_eq (decimal (digits_value 10 word)) word && nat_le (digits_value 10 word) most then Some (digits_value 10 word) else None

infixl 10 ◌>>=◌
abbrev pub ◌>>=◌ : {A B : Type 0} → Option A → (A → Option B) → Option B
None >>= f = None
(Some x) >>= f = f x

-- the command, where it may be given
abbrev pub if_accepted : Image → Command → Option Command
if_accepted image c = if accepts image c then Some c else None

-- the only word of what is left of a line
abbrev pub only_word : List (List ℕ) → Option (List ℕ)
only_word [] = None
only_word (w ∷ []) = Some w
only_word (w ∷ v ∷ words) = None

-- a command with one number, and one with two
abbrev pub with_one : Image → (most : ℕ) → (ℕ → Command) → List (List ℕ) → Option Command
with_one image most make words = only_word words >>= (λ w. number_in most w >>= (λ n. if_accepted image (make n)))

abbrev pub with_two : Image → (most : ℕ) → (ℕ → ℕ → Command) → List (List ℕ) → Option Command
with_two image most make [] = None
with_two image most make (w ∷ words) = number_in most w >>= (λ n. only_word words >>= (λ v. number_in most v >>= (λ m. if_accepted image (make n m))))

-- the command that shows the symbol of a name
abbrev pub with_name : Image → List (List ℕ) → Option Command
with_name image words = only_word words >>= (λ w. option_map Show (position (λ (s : Symbol). bytes_eq s.name w) image.symbols))

abbrev pub with_none : List (List ℕ) → Option Command
with_none [] = Some Regs
with_none (w ∷ words) = None

-- the command by the place of its first word among those of commands
abbrev pub command_at : Image → (place : ℕ) → List (List ℕ) → Option Command
command_at image zero words = with_one image 4294967295 Step words
command_at image (suc zero) words = with_two image 4294967295 Fail words
command_at image (suc (suc zero)) words = with_one image 255 To words
command_at image (suc (suc (suc zero))) words = with_two image 255 At words
command_at image (suc (suc (suc (suc zero)))) words = with_name image words
command_at image (suc (suc (suc (suc (suc zero))))) words = with_none words
command_at image (suc (suc (suc (suc (suc (suc zero)))))) words = with_one image 255 Why words
command_at image (suc (suc (suc (suc (suc (suc (suc n))))))) words = None

-- the command of the words of a line
unfoldable pub command_of : Image → List (List ℕ) → Option Command
command_of image [] = None
command_of image (w ∷ words) = place_of bytes_eq w command_words >>= (λ k. command_at image k words)

-- commands behind others
abbrev pub behind : List Command → Result (List Command) ℕ → Result (List Command) ℕ
behind commands (Ok more) = Ok (commands ++ more)
behind commands (Err n) = Err n

-- a line's command, if it has one, and what comes of the lines behind it
abbrev pub read_on : Option Command → (number : ℕ) → Result (List Command) ℕ → Result (List Command) ℕ
read_on None number rest = Err number
read_on (Some c) number rest = behind (c ∷ []) rest

-- the commands of lines, of which so many stand before, or the number of the first line, from 1, that may not stand
unfoldable pub script_of : Image → (before : ℕ) → List (List ℕ) → Result (List Command) ℕ
script_of image before [] = Ok []
script_of image before ([] ∷ lines) = script_of image (before + 1) lines
script_of image before ((b ∷ line) ∷ lines) = read_on (command_of image (words_of (b ∷ line))) (before + 1) (script_of image (before + 1) lines)

-- what a reader of lines answers: their commands, or the first number; want of memory is free
abbrev pub Reads : Result (List Command) ℕ → Result (List Command) ScriptError → Type 0
Reads script (Ok commands) = script ≡ Ok commands
Reads script (Err (fails.Line n)) = script ≡ Err n
Reads script (Err fails.NoMemory) = Unit {0}

-- the same of one line, behind the commands before it
abbrev pub commands_of : Image → (line : List ℕ) → (number : ℕ) → Result (List Command) ℕ
commands_of image [] number = Ok []
commands_of image (b ∷ line) number = read_on (command_of image (words_of (b ∷ line))) number (Ok [])

abbrev pub ReadsLine : Image → (line : List ℕ) → (number : ℕ) → (old new : List Command) → Result (Unit {0}) ScriptError → Type 0
ReadsLine image line number old new (Ok x) = behind old (commands_of image line number) ≡ Ok new
ReadsLine image line number old new (Err (fails.Line n)) = (n ≡ number) × (commands_of image line number ≡ Err n)
ReadsLine image line number old new (Err fails.NoMemory) = Unit {0}
