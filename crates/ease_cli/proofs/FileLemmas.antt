-- What refusals tell, and a cabinet through two fetches.
use Rattle.std.proofs.Common.{◌≡◌, ◌⊎◌, ℕ, ◌≤◌, ◌<◌, Bool, IsTrue, Option, Some, List, [], ◌∷◌, ◌++◌, length, Result, Ok, Err, IfOk, IfErr, refl, sym, ap, subst, ◌∙◌}
use Rattle.std.proofs.Math.Path.{fun_ext}
use Rattle.std.specs.Prelude.{IsErrOf}
use Rattle.ease_base.specs.Cabinet.{Contents, Lacks, counted}
use Rattle.ease_base.specs.declared.error.FetchError.{FetchError}
use Rattle.ease_base.specs.declared.error.FetchError.TheVariants as fetch
use Rattle.ease_base.specs.Count.{HasRisen, raised}
use Rattle.ease_base.specs.declared.error.NoMemory.{NoMemory}
use Rattle.ease_cli.specs.Answer.{Tells, IsRead, Stops, IsReadInVain, unbrought, refused}
use Rattle.ease_cli.specs.Files.{Files, files_of, Wanted, limit_of, IsQuiet, IsBrought, IsUnbrought, failed, long}
use Rattle.ease_cli.specs.Lines.{read_fault, too_long}
use Rattle.ease_cli.specs.Inputs.{Input, IsInput, IsRefused}
use Rattle.ease_cli.specs.declared.refusal.Refusal.{Refusal}
use Rattle.ease_cli.specs.declared.refusal.Refusal.TheVariants as refusal
use Rattle.ease_cli.specs.declared.status.Status.{Status}
use Rattle.ease_cli.specs.declared.status.Status.TheVariants as ends

-- what is told of less is told of more
pub tells_weaker : (P Q : Status → List ℕ → Type 0) (r : Refusal) → ((s : Status) (t : List ℕ) → P s t → Q s t) → Tells P r → Tells Q r
tells_weaker P Q (refusal.Refused s t) weaker told = weaker s t told
tells_weaker P Q refusal.WriteFault weaker told = told
tells_weaker P Q refusal.NoMemory weaker told = tt

line_is : (P : List ℕ → Type 0) (line : Result (List ℕ) NoMemory) (t : List ℕ) → IfOk line P → line ≡ Ok t → P t
line_is P line t if is = subst (λ (l : Result (List ℕ) NoMemory). IfOk l P) is if

-- a refusal that is made of a line tells what is so of the line
pub tells_line : (P : List ℕ → Type 0) (Q : Status → List ℕ → Type 0) (status : Status) (line : Result (List ℕ) NoMemory) (r : Refusal)
    → IfOk line P → Tells (λ s t. (s ≡ status) × (line ≡ Ok t)) r → ((t : List ℕ) → P t → line ≡ Ok t → Q status t) → Tells Q r
tells_line P Q status line (refusal.Refused s t) if made so = subst (λ (x : Status). Q x t) (sym made.0) (so t (line_is P line t if made.1) made.1)
tells_line P Q status line refusal.WriteFault if made so = made
tells_line P Q status line refusal.NoMemory if made so = tt

-- a file that was brought and is this input
pub read_is : (f : Files) (at : Wanted) (before : List Input) (input : Input) (bytes got : List ℕ) → got ≡ bytes → IsBrought f at.name (limit_of at.kind) bytes → IsInput at.kind before got input → IsRead f at before input
read_is f at before input bytes got same brought is = record { bytes = bytes; brought = brought; is = subst (λ (b : List ℕ). IsInput at.kind before b input) same is }

-- a file that was brought and is refused ends the command
pub refused_stops : (f : Files) (at : Wanted) (before : List Input) (bytes got : List ℕ) (r : Refusal) → got ≡ bytes → IsQuiet f → IsBrought f at.name (limit_of at.kind) bytes
    → Tells (IsRefused at.kind before got) r → Tells (Stops f at before) r
refused_stops f at before bytes got r same quiet brought told =
    tells_weaker (IsRefused at.kind before got) (Stops f at before) r
    (λ s t is. refused quiet (record { bytes = bytes; brought = brought; refused = subst (λ (b : List ℕ). IsRefused at.kind before b s t) same is })) told

pub unbrought_stops : (f : Files) (at : Wanted) (before : List Input) (r : Refusal) → Tells (IsUnbrought f at.name (limit_of at.kind)) r → Tells (Stops f at before) r
unbrought_stops f at before r told = tells_weaker (IsUnbrought f at.name (limit_of at.kind)) (Stops f at before) r (λ s t is. unbrought is) told

-- a cabinet that was quiet in a first fetch is in a second as in both
pub both_fetches : (told told1 : Bool) (contents contents1 : Contents) (a a1 a2 b b1 b2 : ℕ)
    → told1 ≡ told → ((name : List ℕ) → contents1 name ≡ contents name) → a1 ≡ a → b1 ≡ b
    → files_of told1 contents1 a1 a2 b1 b2 ≡ files_of told contents a a2 b b2
both_fetches told told1 contents contents1 a a1 a2 b b1 b2 t c f l =
    ap (λ (x : Bool). files_of x contents1 a1 a2 b1 b2) t
    ∙ ap (λ (x : Contents). files_of told x a1 a2 b1 b2) (fun_ext c)
    ∙ ap (λ (x : ℕ). files_of told contents x a2 b1 b2) f
    ∙ ap (λ (x : ℕ). files_of told contents a a2 x b2) l

-- what was brought stays so, whatever the counts become
pub read_stays : (told : Bool) (contents : Contents) (a a1 a2 l l1 l2 : ℕ) (at : Wanted) (before : List Input) (input : Input)
    → IsRead (files_of told contents a a1 l l1) at before input → IsRead (files_of told contents a a2 l l2) at before input
read_stays told contents a a1 a2 l l1 l2 at before input r =
    record { bytes = r.bytes; brought = record { brought = r.brought.brought; short = r.brought.short }; is = r.is }

-- a fetch that failed, and one of a file that is too long
pub failed_tells : (f : Files) (name : List ℕ) (limit : ℕ) (text : Result (List ℕ) NoMemory) (r : Refusal) → f.long_after ≡ f.long → HasRisen f.faults f.faults_after ⊎ Lacks f.told f.contents name
    → IfOk text (λ t. t ≡ read_fault) → Tells (λ s t. (s ≡ ends.ReadFault) × (text ≡ Ok t)) r → Tells (IsUnbrought f name limit) r
failed_tells f name limit text r steady why spelled told =
    tells_line (λ t. t ≡ read_fault) (IsUnbrought f name limit) ends.ReadFault text r spelled told (λ t is made. failed refl is steady why)

pub long_tells : (f : Files) (name : List ℕ) (limit : ℕ) (text : Result (List ℕ) NoMemory) (r : Refusal) → f.faults_after ≡ f.faults → f.long_after ≡ raised f.long
    → (IsTrue f.told → (bytes : List ℕ) × (f.contents name ≡ Some bytes) × (limit < length bytes))
    → IfOk text (λ t. t ≡ too_long) → Tells (λ s t. (s ≡ ends.TooLong) × (text ≡ Ok t)) r → Tells (IsUnbrought f name limit) r
long_tells f name limit text r steady rose why spelled told =
    tells_line (λ t. t ≡ too_long) (IsUnbrought f name limit) ends.TooLong text r spelled told (λ t is made. long refl is steady rose why)

-- what a fetch that failed, and one of a long file, say at their case
not_failed : (x : FetchError) → x ≡ fetch.TooLong → IsErrOf {T = Unit {0}} (Err x) fetch.Failed → ⊥
not_failed x is other = cc

pub failed_case : (f : Files) (x : FetchError) (name : List ℕ) (limit : ℕ) (text : Result (List ℕ) NoMemory) (r : Refusal) → x ≡ fetch.Failed
    → f.long_after ≡ counted f.long (Err x) → (IsErrOf {T = Unit {0}} (Err x) fetch.Failed → HasRisen f.faults f.faults_after ⊎ Lacks f.told f.contents name)
    → IfOk text (λ t. t ≡ read_fault) → Tells (λ s t. (s ≡ ends.ReadFault) × (text ≡ Ok t)) r → Tells (IsUnbrought f name limit) r
failed_case f x name limit text r is steady why spelled told =
    failed_tells f name limit text r (steady ∙ ap (λ (y : FetchError). counted f.long (Err y)) is) (why (ap Err is)) spelled told

pub long_case : (f : Files) (x : FetchError) (name : List ℕ) (limit : ℕ) (text : Result (List ℕ) NoMemory) (r : Refusal) → x ≡ fetch.TooLong
    → ((IsErrOf {T = Unit {0}} (Err x) fetch.Failed → ⊥) → f.faults_after ≡ f.faults) → f.long_after ≡ counted f.long (Err x)
    → (IsErrOf {T = Unit {0}} (Err x) fetch.TooLong → (IsTrue f.told → (bytes : List ℕ) × (f.contents name ≡ Some bytes) × (limit < length bytes)))
    → IfOk text (λ t. t ≡ too_long) → Tells (λ s t. (s ≡ ends.TooLong) × (text ≡ Ok t)) r → Tells (IsUnbrought f name limit) r
long_case f x name limit text r is steady rose why spelled told =
    long_tells f name limit text r (steady (not_failed x is)) (rose ∙ ap (λ (y : FetchError). counted f.long (Err y)) is) (why (ap Err is)) spelled told

-- what tells why a file ends a command is no write fault
pub told_is_no_write_fault : (P : Status → List ℕ → Type 0) (e : Refusal) (r : Result Status Refusal) → Tells P e → r ≡ Err e → IsErrOf r refusal.WriteFault → ⊥
told_is_no_write_fault P (refusal.Refused s t) r told is other = cc
told_is_no_write_fault P refusal.WriteFault r told is other = told
told_is_no_write_fault P refusal.NoMemory r told is other = cc
