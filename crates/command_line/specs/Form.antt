-- What a command line asks for: one row for each command. A later command is a constructor and a row.
use Rattle.std.specs.Prelude.{ℕ, ◌≤◌, Bool, ◌&&◌, ◌||◌, List, drop, length, slice_get, codes, decimal, nat_lt, nat_le, Option, Some, None, is_some, option_map, if◌then◌else◌}
use Rattle.std.specs.Str.{bytes_eq}
use Rattle.std.specs.Str.Parse.{digits_value}
use Rattle.command_line.specs.Line.{Line, line_of, Text}
use Rattle.command_line.specs.declared.command.Command.{Command}
use Rattle.command_line.specs.declared.command.Command.TheVariants as command
use Rattle.word_isa.specs.declared.parts.Scheme.{Scheme}
use Rattle.word_isa.specs.declared.parts.Scheme.TheVariants.{Undo, Bank}

-- what is asked, with the names of files as texts
pub data Form : Type 0 where
  walk : (program : Text) → (tasks : ℕ) → (world : Option Text) → Form
  run : (image world : Text) → (brief : Bool) → Form
  build : (program : Text) → (scheme : Scheme) → Form
  sites : (program : Text) → Form
  debug : (image world script : Text) → Form
  audit : (program world report : Text) → Form
  soak : (number : ℕ) → Form

infixl 10 ◌>>=◌
abbrev pub ◌>>=◌ : {A B : Type 0} → Option A → (A → Option B) → Option B
None >>= f = None
(Some x) >>= f = f x

-- the number, at most so great, whose decimal digits the word is
abbrev pub number_in : ℕ → Text → Option ℕ
number_in most word =
    if bytes_eq (decimal (digits_value 10 word)) word && nat_le (digits_value 10 word) most then Some (digits_value 10 word) else None

-- `walk PROGRAM N [WORLD]`
unfoldable pub walk_in : List Text → Option Form
walk_in args = if nat_lt 3 (length args) then None else do
  program ← slice_get args 0
  word ← slice_get args 1
  tasks ← number_in 1000 word
  Some (walk program tasks (slice_get args 2))

-- `run IMAGE WORLD [--brief]`
unfoldable pub run_in : List Text → Bool → Option Form
run_in args brief = if nat_lt 2 (length args) then None else do
  image ← slice_get args 0
  world ← slice_get args 1
  Some (run image world brief)

-- a scheme by its name; `undo` where none is named
abbrev pub scheme_of : Option Text → Option Scheme
scheme_of None = Some Undo
scheme_of (Some name) = if bytes_eq name (codes "undo") then Some Undo else if bytes_eq name (codes "bank") then Some Bank else None

-- `build PROGRAM [--scheme undo|bank]`
unfoldable pub build_in : List Text → Option Text → Option Form
build_in args name = if nat_lt 1 (length args) then None else do
  program ← slice_get args 0
  scheme ← scheme_of name
  Some (build program scheme)

-- `sites PROGRAM`
unfoldable pub sites_in : List Text → Option Form
sites_in args = if nat_lt 1 (length args) then None else do
  program ← slice_get args 0
  Some (sites program)

-- `debug IMAGE WORLD SCRIPT`
unfoldable pub debug_in : List Text → Option Form
debug_in args = if nat_lt 3 (length args) then None else do
  image ← slice_get args 0
  world ← slice_get args 1
  script ← slice_get args 2
  Some (debug image world script)

-- `audit PROGRAM WORLD REPORT`
unfoldable pub audit_in : List Text → Option Form
audit_in args = if nat_lt 3 (length args) then None else do
  program ← slice_get args 0
  world ← slice_get args 1
  report ← slice_get args 2
  Some (audit program world report)

-- `soak NUMBER`
unfoldable pub soak_in : List Text → Option Form
soak_in args = if nat_lt 1 (length args) then None else do
  word ← slice_get args 0
  number ← number_in 4294967295 word
  Some (soak number)

-- the form of a command with its options; an option with a command that hasn't it is none
abbrev pub asked_by : Text → List Text → Bool → Option Text → Option Form
asked_by command args brief scheme =
    if bytes_eq command (codes "walk") then (if brief || is_some scheme then None else walk_in args)
    else if bytes_eq command (codes "run") then (if is_some scheme then None else run_in args brief)
    else if bytes_eq command (codes "build") then (if brief then None else build_in args scheme)
    else if bytes_eq command (codes "sites") then (if brief || is_some scheme then None else sites_in args)
    else if bytes_eq command (codes "debug") then (if brief || is_some scheme then None else debug_in args)
    else if bytes_eq command (codes "audit") then (if brief || is_some scheme then None else audit_in args)
    else if bytes_eq command (codes "soak") then (if brief || is_some scheme then None else soak_in args)
    else None

-- the form of a line, by its first positional
abbrev pub form_in : Line → Option Form
form_in l = slice_get l.places 0 >>= (λ command. asked_by command (drop 1 l.places) l.brief l.scheme)

-- what the words of a command line ask for; None where they are none of the forms
unfoldable pub form_of : List Text → Option Form
form_of words = line_of words >>= form_in

-- a command as code holds it
abbrev pub seen : Command → Form
seen (command.Walk program tasks world) = walk program.now tasks (option_map (λ s. s.now) world)
seen (command.Run image world brief) = run image.now world.now brief
seen (command.Build program scheme) = build program.now scheme
seen (command.Sites program) = sites program.now
seen (command.Debug image world script) = debug image.now world.now script.now
seen (command.Audit program world report) = audit program.now world.now report.now
seen (command.Soak number) = soak number

-- a walk is of at most 1,000 tasks
abbrev pub HasFewTasks : Command → Type 0
HasFewTasks (command.Walk program tasks world) = tasks ≤ 1000
HasFewTasks (command.Run image world brief) = Unit {0}
HasFewTasks (command.Build program scheme) = Unit {0}
HasFewTasks (command.Sites program) = Unit {0}
HasFewTasks (command.Debug image world script) = Unit {0}
HasFewTasks (command.Audit program world report) = Unit {0}
HasFewTasks (command.Soak number) = Unit {0}
