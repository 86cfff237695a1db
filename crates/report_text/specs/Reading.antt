-- How a report is read, word by word; that this is the grammar are laws on it.
use Rattle.std.specs.Prelude.{◌≡◌, ℕ, suc, ◌<◌, ◌==◌, ◌&&◌, ◌||◌, Bool, true, false, List, [], ◌∷◌, ◌++◌, codes, decimal, length, nat_lt, Option, Some, None, Result, Ok, Err, if◌then◌else◌}
use Rattle.std.specs.Borrow.{Bor}
use Rattle.std.specs.Option.{option_map, is_some}
use Rattle.std.specs.Str.{bytes_eq}
use Rattle.std.specs.Str.Parse.{digits_value}
use Rattle.devices.specs.declared.event.Args.{Args}
use Rattle.devices.specs.declared.event.RunEnd.{RunEnd}
use Rattle.devices.specs.declared.event.RunEnd.TheVariants.{Halted, Trapped, Power}
use Rattle.report_text.specs.Grammar.{is_end}
use Rattle.report_text.specs.Parts.{split_at, only_part}
use Rattle.report_text.specs.declared.error.ReportError.{ReportError}
use Rattle.report_text.specs.declared.error.ReportError.TheVariants as fails
use Rattle.report_text.specs.declared.keyword.Keyword.{Keyword}
use Rattle.report_text.specs.declared.keyword.Keyword.TheVariants as key
use Rattle.report_text.specs.declared.line.LineText.{LineText}
use Rattle.report_text.specs.declared.line.LineText.TheVariants.{Boot, Begin, Look, Kept, Drop, Issue, Seal, Copy, Commit, Trap, End}
use Rattle.report_text.specs.declared.line.ReportLine.{ReportLine}
use Rattle.report_text.specs.declared.line.ReportPlace.{ReportPlace}
use Rattle.report_text.specs.declared.line.ReportPlace.TheVariants.{Cell, Keep, Address}
use Rattle.task_ast.specs.NameToken.{is_name}

-- the number of 32 bits whose decimal digits the word is
abbrev pub number_in : List ℕ → Option ℕ
number_in word = if bytes_eq (decimal (digits_value 10 word)) word && nat_lt (digits_value 10 word) 4294967296 then Some (digits_value 10 word) else None

infixl 10 ◌>>=◌
abbrev pub ◌>>=◌ : {A B : Type 0} → Option A → (A → Option B) → Option B
None >>= f = None
(Some x) >>= f = f x

-- the number that is the only word
abbrev pub one_in : List (List ℕ) → Option ℕ
one_in words = only_part words >>= number_in

-- the two numbers that are the words
abbrev pub two_in : List (List ℕ) → Option (ℕ × ℕ)
two_in [] = None
two_in (w ∷ words) = number_in w >>= (λ n. one_in words >>= (λ m. Some (n, m)))

-- the word is empty
abbrev pub is_nothing : List ℕ → Bool
is_nothing [] = true
is_nothing (b ∷ word) = false

-- a word of an array by the number and what stands behind `]`
abbrev pub cell_of : (name digits : List ℕ) → (after : List ℕ) → Option ReportPlace
cell_of name digits after = if is_nothing after then number_in digits >>= (λ i. if is_name name then Some (Cell name i) else None) else None

-- what stands behind `[`, parted at `]`
abbrev pub index_of : (name : List ℕ) → List (List ℕ) → Option ReportPlace
index_of name [] = None
index_of name (digits ∷ parts) = only_part parts >>= cell_of name digits

-- a word of an array, by its parts at `[`
abbrev pub cell_by : List (List ℕ) → Option ReportPlace
cell_by [] = None
cell_by (name ∷ parts) = only_part parts >>= (λ inside. index_of name (split_at 93 inside))

abbrev pub cell_in : List ℕ → Option ReportPlace
cell_in word = cell_by (split_at 91 word)

-- an end of a copy that isn't `keep`
abbrev pub place_at : List ℕ → Option ReportPlace
place_at [] = cell_in []
place_at (b ∷ digits) = if b == 64 then option_map Address (number_in digits) else cell_in (b ∷ digits)

-- an end of a copy
abbrev pub place_in : List ℕ → Option ReportPlace
place_in word = if bytes_eq word (codes "keep") then Some Keep else place_at word

-- `#` and a number
abbrev pub is_numbered : List ℕ → Bool
is_numbered [] = false
is_numbered (b ∷ digits) = b == 35 && is_some (number_in digits)

-- the name in an issue
abbrev pub issued_name : List ℕ → Option (List ℕ)
issued_name word = if is_name word || is_numbered word then Some word else None

-- the word of a keyword
abbrev pub word_of : Keyword → List ℕ
word_of key.Boot = codes "boot"
word_of key.Begin = codes "begin"
word_of key.Look = codes "look"
word_of key.Kept = codes "kept"
word_of key.Drop = codes "drop"
word_of key.Issue = codes "issue"
word_of key.Seal = codes "seal"
word_of key.Copy = codes "copy"
word_of key.Commit = codes "commit"
word_of key.Trap = codes "trap"
word_of key.End = codes "end"

-- the one of these keywords that a word is
abbrev pub find_key : List Keyword → List ℕ → Option Keyword
find_key [] word = None
find_key (k ∷ ks) word = if bytes_eq word (word_of k) then Some k else find_key ks word

-- all keywords, the last five of them apart
abbrev pub last_keywords : List Keyword
last_keywords = key.Seal ∷ key.Copy ∷ key.Commit ∷ key.Trap ∷ key.End ∷ []

abbrev pub keywords : List Keyword
keywords = key.Boot ∷ key.Begin ∷ key.Look ∷ key.Kept ∷ key.Drop ∷ key.Issue ∷ last_keywords

-- the keyword that a word is
abbrev pub keyword_in : List ℕ → Option Keyword
keyword_in word = find_key keywords word

-- a look and a kept
abbrev pub look_in : List (List ℕ) → Option LineText
look_in words = two_in words >>= (λ p. Some (Look p.0 p.1))

abbrev pub kept_in : List (List ℕ) → Option LineText
kept_in words = two_in words >>= (λ p. Some (Kept p.0 p.1))

-- one argument behind others, where they are at most three
abbrev pub one_more : Args → (argument : ℕ) → Option Args
one_more args n =
    if args.count == 0 then Some (record args { count = 1; a0 = n }) else
    if args.count == 1 then Some (record args { count = 2; a1 = n }) else
    if args.count == 2 then Some (record args { count = 3; a2 = n }) else
    if args.count == 3 then Some (record args { count = 4; a3 = n }) else None

-- the arguments up to `=`, behind those before, and the reading behind it
abbrev pub issued_in : (before : Args) → List (List ℕ) → Option (Args × ℕ)
issued_in before [] = None
issued_in before (w ∷ words) =
    if bytes_eq w (codes "=") then one_in words >>= (λ r. Some (before, r))
    else number_in w >>= (λ n. one_more before n >>= (λ args. issued_in args words))

-- no arguments
abbrev pub no_args : Args
no_args = record { count = 0; a0 = 0; a1 = 0; a2 = 0; a3 = 0 }

-- an issue behind its site, its name and behind it
abbrev pub issue_named : (site : ℕ) → List (List ℕ) → Option LineText
issue_named site [] = None
issue_named site (w ∷ words) = issued_in no_args words >>= (λ p. issued_name w >>= (λ name. Some (Issue site name p.0 p.1)))

abbrev pub issue_in : List (List ℕ) → Option LineText
issue_in [] = None
issue_in (w ∷ words) = number_in w >>= (λ site. issue_named site words)

-- a copy: its site, both ends and the number of words
abbrev pub copy_in : List (List ℕ) → Option LineText
copy_in [] = None
copy_in (w ∷ []) = None
copy_in (w ∷ from ∷ []) = None
copy_in (w ∷ from ∷ to ∷ words) =
    number_in w >>= (λ site. one_in words >>= (λ n. place_in from >>= (λ f. place_in to >>= (λ t. Some (Copy site f t n)))))

-- an end that is one word
abbrev pub end_word : List ℕ → Option RunEnd
end_word word = if bytes_eq word (codes "halted") then Some Halted else if bytes_eq word (codes "power") then Some Power else None

-- how the run ended
abbrev pub end_in : List (List ℕ) → Option RunEnd
end_in [] = None
end_in (w ∷ words) = if bytes_eq w (codes "trapped") then option_map Trapped (one_in words) else only_part (w ∷ words) >>= end_word

-- the text with a keyword, by the words behind it
abbrev pub text_in : Keyword → List (List ℕ) → Option LineText
text_in key.Boot words = option_map Boot (one_in words)
text_in key.Begin words = option_map Begin (one_in words)
text_in key.Look words = look_in words
text_in key.Kept words = kept_in words
text_in key.Drop words = option_map Drop (one_in words)
text_in key.Issue words = issue_in words
text_in key.Seal words = option_map Seal (one_in words)
text_in key.Copy words = copy_in words
text_in key.Commit words = option_map Commit (one_in words)
text_in key.Trap words = option_map Trap (one_in words)
text_in key.End words = option_map End (end_in words)

-- the text with a first word
abbrev pub text_of : List (List ℕ) → Option LineText
text_of [] = None
text_of (w ∷ words) = keyword_in w >>= (λ k. text_in k words)

-- the line of words
unfoldable pub line_of : List (List ℕ) → Option ReportLine
line_of [] = None
line_of (w ∷ words) = number_in w >>= (λ n. text_of words >>= (λ t. Some (record { steps = n; text = t })))

-- a line in front of what comes of the lines behind it
abbrev pub behind : List ReportLine → Result (List ReportLine) ℕ → Result (List ReportLine) ℕ
behind lines (Ok more) = Ok (lines ++ more)
behind lines (Err n) = Err n

-- the next line of those that are left, if one may stand
abbrev pub next_of : (ended : Bool) → List (List ℕ) → Option ReportLine
next_of ended [] = None
next_of ended (tail ∷ []) = None
next_of ended (line ∷ next ∷ parts) = if ended then None else line_of (split_at 32 line)

-- a line, if there is one, and what comes behind it
abbrev pub read_on : Option ReportLine → (before : ℕ) → (ReportLine → Result (List ReportLine) ℕ) → Result (List ReportLine) ℕ
read_on None before rest = Err (suc before)
read_on (Some l) before rest = behind (l ∷ []) (rest l)

-- the lines of what is parted at line feeds, behind an end or not, of which so many stand before, or the number of the first that may not stand
unfoldable pub report_of : (ended : Bool) → (before : ℕ) → List (List ℕ) → Result (List ReportLine) ℕ
report_of ended before [] = Err (suc before)
report_of ended before (tail ∷ []) = if ended && is_nothing tail then Ok [] else Err (suc before)
report_of ended before (line ∷ next ∷ parts) = read_on (next_of ended (line ∷ next ∷ parts)) before (λ l. report_of (is_end l.text) (suc before) (next ∷ parts))

-- the next line and what stands behind it
abbrev pub IsNext : (ended : Bool) → List (List ℕ) → Option (ReportLine × Bor (List ℕ)) → Type 0
IsNext ended parts None = next_of ended parts ≡ None
IsNext ended parts (Some p) = (line : List ℕ) × (parts ≡ line ∷ split_at 10 p.1.now) × (next_of ended parts ≡ Some p.0)

abbrev pub IsShorter : List ℕ → Option (ReportLine × Bor (List ℕ)) → Type 0
IsShorter text None = Unit {0}
IsShorter text (Some p) = length p.1.now < length text

-- what a reader of lines answers: the lines, or the first number; want of memory is free
abbrev pub Reads : Result (List ReportLine) ℕ → Result (List ReportLine) ReportError → Type 0
Reads report (Ok lines) = report ≡ Ok lines
Reads report (Err (fails.Line n)) = report ≡ Err n
Reads report (Err fails.NoMemory) = Unit {0}
