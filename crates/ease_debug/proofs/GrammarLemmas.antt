-- A line is read as the command whose words stand on it, and a script as the commands of its lines.
use Rattle.std.specs.Result.{IsErrAnd}
use Rattle.std.specs.Prelude.{Result, Ok, Err, IsErr, IfErr, codes, decimal, nat_le, nat_lt, not, map, ◌&&◌, ◌||◌, slice_get, if◌then◌else◌}
use Rattle.std.specs.List.{position, list_any}
use Rattle.std.specs.Option.{option_map}
use Rattle.std.specs.Str.{bytes_eq}
use Rattle.std.proofs.Common.{All, IsTrue, ◌≡◌, ◌∙◌, ℕ, zero, suc, ◌+◌, ◌-◌, ◌<◌, ◌≤◌, ◌^◌, Bool, true, false, List, [], ◌∷◌, length, take, get_or, Option, Some, None, refl, sym, ap, subst, inl, inr, arith}
use Rattle.std.proofs.lemmas.Bool.Decides.{nat_tests}
use Rattle.std.proofs.lemmas.Slice.Eq.{bytes_eq-Decides}
use Rattle.ease_debug.proofs.WordLemmas.{number_of_digits, digits_of_number}
use Rattle.ease_debug.specs.Commands.{accepts, spelled, words_of, IsLine, AreCommands, MayStand, IsFirstRefused, ReadsAs, TellsFirst, is_from_to, has_site, has_site_of}
use Rattle.ease_debug.specs.Reading.{command_words, number_in, if_accepted, only_word, with_one, with_two, with_name, with_none, command_at, command_of, script_of, behind, read_on, Reads, ◌>>=◌}
use Rattle.ease_debug.specs.declared.command.Command.{Command}
use Rattle.ease_debug.specs.declared.command.Command.TheVariants.{Step, Fail, To, At, Show, Regs, Why}
use Rattle.ease_debug.specs.declared.command.Script.{Script}
use Rattle.ease_debug.specs.declared.error.ScriptError.{ScriptError}
use Rattle.ease_debug.specs.declared.error.ScriptError.TheVariants as fails
use Rattle.op_table.specs.Places.{place_of}
use Rattle.op_table.specs.PlaceLemmas.{place_found, position-map}
use Rattle.power_trace.specs.Report.{symbol_name}
use Rattle.std.proofs.lemmas.Option.{slice_get-get_or}
use Rattle.task_ast.specs.declared.tree.Kind.TheVariants.{Nv}
use Rattle.word_isa.specs.ImageLaws.{passes_at}
use Rattle.word_isa.specs.Entries.{span, symbol_passes}
use Rattle.word_isa.specs.FirstFailing.{first_failing}
use Rattle.word_isa.specs.declared.span.Span.{Span}
use Rattle.word_isa.specs.declared.image.Image.{Image}
use Rattle.word_isa.specs.declared.parts.Symbol.{Symbol}

both_true : (p q : Bool) → (p && q) ≡ true → (p ≡ true) × (q ≡ true)
both_true true q e = (refl, e)
both_true false q e = cc

at_most : (n most : ℕ) → nat_le n most ≡ true → n ≤ most
at_most n most e = grind (arith, nat_tests)

from_to : (least most n : ℕ) → is_from_to least most n ≡ true → n ≤ most
from_to least most n e = grind (arith, nat_tests)

accepted_is : (image : Image) (c : Command) → accepts image c ≡ true → if_accepted image c ≡ Some c
accepted_is image c e = ap (λ b. if b then Some c else None) e

one_is : (image : Image) (most n : ℕ) (make : ℕ → Command) → n ≤ most → most < 2 ^ 64 → accepts image (make n) ≡ true → with_one image most make (decimal n ∷ []) ≡ Some (make n)
one_is image most n make few small e = ap (λ o. o >>= (λ k. if_accepted image (make k))) (number_of_digits most n few small) ∙ accepted_is image (make n) e

two_is : (image : Image) (most n m : ℕ) (make : ℕ → ℕ → Command) → n ≤ most → m ≤ most → most < 2 ^ 64 → accepts image (make n m) ≡ true → with_two image most make (decimal n ∷ decimal m ∷ []) ≡ Some (make n m)
two_is image most n m make few fewer small e =
    ap (λ o. o >>= (λ k. number_in most (decimal m) >>= (λ j. if_accepted image (make k j)))) (number_of_digits most n few small)
    ∙ ap (λ o. o >>= (λ j. if_accepted image (make n j))) (number_of_digits most m fewer small) ∙ accepted_is image (make n m) e

-- the names of symbols
abbrev names_in : List Symbol → List (List ℕ)
names_in symbols = map (λ (n : List ℕ). n) (map (λ (s : Symbol). s.name) symbols)

by_place : (name : List ℕ) (symbols : List Symbol) → position (λ (s : Symbol). bytes_eq s.name name) symbols ≡ place_of bytes_eq name (names_in symbols)
by_place name symbols = position-map bytes_eq (λ (s : Symbol). s.name) (λ (n : List ℕ). n) name symbols

or_false : (a b : Bool) → (a || b) ≡ false → (a ≡ false) × (b ≡ false)
or_false false b e = (refl, e)
or_false true b e = cc

-- a symbol before which none has its name
first_named : (symbols : List Symbol) (k : ℕ) (w : List ℕ) → list_any (λ (s : Symbol). bytes_eq s.name w) (take k symbols) ≡ false → nat_lt k (length symbols) ≡ true → w ≡ symbol_name symbols k → place_of bytes_eq w (names_in symbols) ≡ Some k
unfolding place_of
first_named [] k w none within is = absurd (no_less k within)
  where
    no_less : (k : ℕ) → nat_lt k 0 ≡ true → ⊥
    no_less k e = grind (arith, nat_tests)
first_named (s ∷ symbols) zero w none within is = ap (λ b. if b then Some 0 else option_map suc (place_of bytes_eq w (names_in symbols))) ((bytes_eq-Decides s.name w).1 (sym is))
first_named (s ∷ symbols) (suc k) w none within is =
    let both = or_false (bytes_eq s.name w) (list_any (λ (t : Symbol). bytes_eq t.name w) (take k symbols)) none in
    ap (λ b. if b then Some 0 else option_map suc (place_of bytes_eq w (names_in symbols))) both.0
    ∙ ap (option_map suc) (first_named symbols k w both.1 (less k (length symbols) within) is)
  where
    less : (k n : ℕ) → nat_lt (suc k) (suc n) ≡ true → nat_lt k n ≡ true
    less k n e = grind (arith, nat_tests)

abbrev no_symbol : Symbol
no_symbol = record { name = []; kind = Nv; base = 0; length = 0 }

name_of : (symbols : List Symbol) (k : ℕ) → nat_lt k (length symbols) ≡ true → (get_or symbols k no_symbol).name ≡ symbol_name symbols k
name_of [] k within = refl
name_of (s ∷ symbols) zero within = refl
name_of (s ∷ symbols) (suc k) within = name_of symbols k (less k (length symbols) within)
  where
    less : (k n : ℕ) → nat_lt (suc k) (suc n) ≡ true → nat_lt k n ≡ true
    less k n e = grind (arith, nat_tests)

not_false : (b : Bool) → not b ≡ true → b ≡ false
not_false true e = cc
not_false false e = refl

-- the names of an image's symbols differ
names_differ : (kept : Span) (stride : ℕ) (symbols : List Symbol) (k : ℕ) → first_failing (symbol_passes kept stride) [] symbols ≡ None → nat_lt k (length symbols) ≡ true
    → list_any (λ (s : Symbol). bytes_eq s.name (symbol_name symbols k)) (take k symbols) ≡ false
unfolding symbol_passes
names_differ kept stride symbols k passes within =
    let s = get_or symbols k no_symbol in
    let whole = passes_at (symbol_passes kept stride) symbols k s passes (slice_get-get_or symbols k no_symbol (below k (length symbols) within)) in
    let named = (both_true _ _ (both_true _ _ whole).0).0 in
    let other = (both_true _ _ (both_true _ _ named).0).1 in
    ap (λ w. list_any (λ (t : Symbol). bytes_eq t.name w) (take k symbols)) (sym (name_of symbols k within)) ∙ not_false (list_any (λ (t : Symbol). bytes_eq t.name s.name) (take k symbols)) other
  where
    below : (a b : ℕ) → nat_lt a b ≡ true → a < b
    below a b e = grind (arith, nat_tests)

name_found : (image : Image) (k : ℕ) → nat_lt k (length image.symbols) ≡ true → position (λ (s : Symbol). bytes_eq s.name (symbol_name image.symbols k)) image.symbols ≡ Some k
name_found image k within =
    by_place (symbol_name image.symbols k) image.symbols
    ∙ first_named image.symbols k (symbol_name image.symbols k) (names_differ (span image.keep image.keep_words) image.stride image.symbols k image.tested.symbols_pass within) within refl

-- the words of a command are read as it
spelled_is : (image : Image) (c : Command) → accepts image c ≡ true → command_of image (spelled image c) ≡ Some c
unfolding command_of place_of
spelled_is image (Step n) e = let few : n ≤ 4294967295 = omega (arith, from_to 1 4194304 n e) in one_is image 4294967295 n Step few (omega arith) e
spelled_is image (Fail off fill) e = let both = both_true (nat_le off 4294967295) (nat_le fill 4294967295) e in two_is image 4294967295 off fill Fail (at_most off 4294967295 both.0) (at_most fill 4294967295 both.1) (omega arith) e
spelled_is image (To site) e = one_is image 255 site To (from_to 1 255 site (both_true (is_from_to 1 255 site) (has_site image site) e).0) (omega arith) e
spelled_is image (At task site) e =
    let both = both_true (is_from_to 1 64 task && is_from_to 1 255 site) (has_site_of image task site) e in
    let numbers = both_true (is_from_to 1 64 task) (is_from_to 1 255 site) both.0 in
    let few : task ≤ 255 = omega (arith, from_to 1 64 task numbers.0) in
    two_is image 255 task site At few (from_to 1 255 site numbers.1) (omega arith) e
spelled_is image (Show k) e = ap (option_map Show) (name_found image k e)
spelled_is image Regs e = refl
spelled_is image (Why site) e = one_is image 255 site Why (from_to 1 255 site (both_true (is_from_to 1 255 site) (has_site image site) e).0) (omega arith) e

pub line_whole : (image : Image) (line : List ℕ) (c : Command) → IsLine image line c → command_of image (words_of line) ≡ Some c
line_whole image line c is = ap (command_of image) is.words ∙ spelled_is image c is.accepted

true_is : (b : Bool) (c d : Command) → (if b then Some c else None) ≡ Some d → (b ≡ true) × (c ≡ d)
true_is true c d e = (refl, cc)
true_is false c d e = cc

some_of : {A B : Type 0} (o : Option A) (f : A → Option B) (y : B) → (o >>= f) ≡ Some y → (x : A) × (o ≡ Some x) × (f x ≡ Some y)
some_of None f y e = cc
some_of (Some x) f y e = (x, refl, e)

only_is : (words : List (List ℕ)) (w : List ℕ) → only_word words ≡ Some w → words ≡ w ∷ []
only_is [] w e = cc
only_is (v ∷ []) w e = let same : v ≡ w = cc in ap (λ u. u ∷ []) same
only_is (v ∷ u ∷ words) w e = cc

-- what is read with one number, and with two
one_read : (image : Image) (most : ℕ) (make : ℕ → Command) (words : List (List ℕ)) (c : Command) → with_one image most make words ≡ Some c → (n : ℕ) × (words ≡ decimal n ∷ []) × (c ≡ make n) × (accepts image (make n) ≡ true)
one_read image most make words c e =
    let w = some_of (only_word words) (λ w. number_in most w >>= (λ n. if_accepted image (make n))) c e in
    let n = some_of (number_in most w.0) (λ n. if_accepted image (make n)) c w.2 in
    let last = true_is (accepts image (make n.0)) (make n.0) c n.2 in
    (n.0, only_is words w.0 w.1 ∙ ap (λ u. u ∷ []) (digits_of_number most n.0 w.0 n.1), sym last.1, last.0)

two_read : (image : Image) (most : ℕ) (make : ℕ → ℕ → Command) (words : List (List ℕ)) (c : Command) → with_two image most make words ≡ Some c
    → (n : ℕ) × (m : ℕ) × (words ≡ decimal n ∷ decimal m ∷ []) × (c ≡ make n m) × (accepts image (make n m) ≡ true)
two_read image most make [] c e = cc
two_read image most make (v ∷ words) c e =
    let n = some_of (number_in most v) (λ n. only_word words >>= (λ w. number_in most w >>= (λ m. if_accepted image (make n m)))) c e in
    let w = some_of (only_word words) (λ w. number_in most w >>= (λ m. if_accepted image (make n.0 m))) c n.2 in
    let m = some_of (number_in most w.0) (λ m. if_accepted image (make n.0 m)) c w.2 in
    let last = true_is (accepts image (make n.0 m.0)) (make n.0 m.0) c m.2 in
    (n.0, m.0, (λ i. digits_of_number most n.0 v n.1 i ∷ (only_is words w.0 w.1 ∙ ap (λ u. u ∷ []) (digits_of_number most m.0 w.0 m.1)) i), sym last.1, last.0)

name_at : (name : List ℕ) (symbols : List Symbol) (k : ℕ) → position (λ (s : Symbol). bytes_eq s.name name) symbols ≡ Some k → (nat_lt k (length symbols) ≡ true) × (name ≡ symbol_name symbols k)
name_at name symbols k is = at symbols k (place_found bytes_eq bytes_eq-Decides name (names_in symbols) k (sym (by_place name symbols) ∙ is))
  where
    more : (k n : ℕ) → nat_lt k n ≡ true → nat_lt (suc k) (suc n) ≡ true
    more k n e = grind (arith, nat_tests)

    some : (n : ℕ) → nat_lt 0 (suc n) ≡ true
    some n = grind (arith, nat_tests)

    at : (symbols : List Symbol) (k : ℕ) → slice_get (names_in symbols) k ≡ Some name → (nat_lt k (length symbols) ≡ true) × (name ≡ symbol_name symbols k)
    at [] k e = cc
    at (s ∷ symbols) zero e = (some (length symbols), cc)
    at (s ∷ symbols) (suc k) e = let rest = at symbols k e in (more k (length symbols) rest.0, rest.1)

name_read : (image : Image) (words : List (List ℕ)) (c : Command) → with_name image words ≡ Some c → (k : ℕ) × (words ≡ symbol_name image.symbols k ∷ []) × (c ≡ Show k) × (accepts image (Show k) ≡ true)
name_read image words c e =
    let w = some_of (only_word words) (λ w. option_map Show (position (λ (s : Symbol). bytes_eq s.name w) image.symbols)) c e in
    by w.0 (only_is words w.0 w.1) (position (λ (s : Symbol). bytes_eq s.name w.0) image.symbols) refl w.2
  where
    by : (w : List ℕ) → words ≡ w ∷ [] → (o : Option ℕ) → position (λ (s : Symbol). bytes_eq s.name w) image.symbols ≡ o → option_map Show o ≡ Some c → (k : ℕ) × (words ≡ symbol_name image.symbols k ∷ []) × (c ≡ Show k) × (accepts image (Show k) ≡ true)
    by w only None is e = cc
    by w only (Some k) is e = let at = name_at w image.symbols k is in let same : Show k ≡ c = cc in (k, only ∙ ap (λ u. u ∷ []) at.1, sym same, at.0)

none_read : (words : List (List ℕ)) (c : Command) → with_none words ≡ Some c → (words ≡ []) × (c ≡ Regs)
none_read [] c e = (refl, cc)
none_read (w ∷ words) c e = cc

as_command : (image : Image) (words : List (List ℕ)) (c d : Command) → words ≡ spelled image d → c ≡ d → accepts image d ≡ true → (words ≡ spelled image c) × (accepts image c ≡ true)
as_command image words c d spells is accepted = (spells ∙ ap (spelled image) (sym is), ap (accepts image) is ∙ accepted)

-- by the place of the first word
at_read : (image : Image) (k : ℕ) (w : List ℕ) (words : List (List ℕ)) (c : Command) → slice_get command_words k ≡ Some w → command_at image k words ≡ Some c → (w ∷ words ≡ spelled image c) × (accepts image c ≡ true)
at_read image zero w words c at e = let r = one_read image 4294967295 Step words c e in let same : codes "step" ≡ w = cc in as_command image (w ∷ words) c (Step r.0) (λ i. sym same i ∷ r.1 i) r.2 r.3
at_read image (suc zero) w words c at e = let r = two_read image 4294967295 Fail words c e in let same : codes "fail" ≡ w = cc in as_command image (w ∷ words) c (Fail r.0 r.1) (λ i. sym same i ∷ r.2 i) r.3 r.4
at_read image (suc (suc zero)) w words c at e = let r = one_read image 255 To words c e in let same : codes "to" ≡ w = cc in as_command image (w ∷ words) c (To r.0) (λ i. sym same i ∷ r.1 i) r.2 r.3
at_read image (suc (suc (suc zero))) w words c at e = let r = two_read image 255 At words c e in let same : codes "at" ≡ w = cc in as_command image (w ∷ words) c (At r.0 r.1) (λ i. sym same i ∷ r.2 i) r.3 r.4
at_read image (suc (suc (suc (suc zero)))) w words c at e = let r = name_read image words c e in let same : codes "show" ≡ w = cc in as_command image (w ∷ words) c (Show r.0) (λ i. sym same i ∷ r.1 i) r.2 r.3
at_read image (suc (suc (suc (suc (suc zero))))) w words c at e = let r = none_read words c e in let same : codes "regs" ≡ w = cc in as_command image (w ∷ words) c Regs (λ i. sym same i ∷ r.0 i) r.1 refl
at_read image (suc (suc (suc (suc (suc (suc zero)))))) w words c at e = let r = one_read image 255 Why words c e in let same : codes "why" ≡ w = cc in as_command image (w ∷ words) c (Why r.0) (λ i. sym same i ∷ r.1 i) r.2 r.3
at_read image (suc (suc (suc (suc (suc (suc (suc k))))))) w words c at e = cc

words_read : (image : Image) (words : List (List ℕ)) (c : Command) → command_of image words ≡ Some c → (words ≡ spelled image c) × (accepts image c ≡ true)
unfolding command_of
words_read image [] c e = cc
words_read image (w ∷ words) c e =
    let k = some_of (place_of bytes_eq w command_words) (λ k. command_at image k words) c e in
    at_read image k.0 w words c (place_found bytes_eq bytes_eq-Decides w command_words k.0 k.1) k.2

pub line_sound : (image : Image) (line : List ℕ) (c : Command) → command_of image (words_of line) ≡ Some c → IsLine image line c
line_sound image line c e = let both = words_read image (words_of line) c e in record { words = both.0; accepted = both.1 }

-- a script is read as the commands of its lines
ok_behind : (c : Command) (r : Result (List Command) ℕ) (cs : List Command) → behind (c ∷ []) r ≡ Ok cs → (rest : List Command) × (r ≡ Ok rest) × (cs ≡ c ∷ rest)
ok_behind c (Ok more) cs e = (more, refl, cc)
ok_behind c (Err n) cs e = cc

ok_read : (o : Option Command) (n : ℕ) (r : Result (List Command) ℕ) (cs : List Command) → read_on o n r ≡ Ok cs → (c : Command) × (rest : List Command) × (o ≡ Some c) × (r ≡ Ok rest) × (cs ≡ c ∷ rest)
ok_read None n r cs e = cc
ok_read (Some c) n r cs e = let b = ok_behind c r cs e in (c, b.0, refl, b.1, b.2)

pub script_sound : (image : Image) (n : ℕ) (lines : List (List ℕ)) (cs : List Command) → script_of image n lines ≡ Ok cs → AreCommands image lines cs
unfolding script_of
script_sound image n [] cs e = cc
script_sound image n ([] ∷ lines) cs e = script_sound image (n + 1) lines cs e
script_sound image n ((b ∷ line) ∷ lines) cs e =
    let r = ok_read (command_of image (words_of (b ∷ line))) (n + 1) (script_of image (n + 1) lines) cs e in
    (r.0, r.1, r.4, line_sound image (b ∷ line) r.0 r.2, script_sound image (n + 1) lines r.1 r.3)

pub script_whole : (image : Image) (n : ℕ) (lines : List (List ℕ)) (cs : List Command) → AreCommands image lines cs → script_of image n lines ≡ Ok cs
unfolding script_of
script_whole image n [] cs are = ap Ok (sym are)
script_whole image n ([] ∷ lines) cs are = script_whole image (n + 1) lines cs are
script_whole image n ((b ∷ line) ∷ lines) cs are =
    ap (λ o. read_on o (n + 1) (script_of image (n + 1) lines)) (line_whole image (b ∷ line) are.0 are.3)
    ∙ ap (behind (are.0 ∷ [])) (script_whole image (n + 1) lines are.1 are.4) ∙ ap Ok (sym are.2)

-- the line that is told, from 0
abbrev pub RefusedAt : Image → List (List ℕ) → (k : ℕ) → Type 0
RefusedAt image lines k = (line : List ℕ) × (slice_get lines k ≡ Some line) × (MayStand image line → ⊥) × ((j : ℕ) (before : List ℕ) → j < k → slice_get lines j ≡ Some before → MayStand image before)

refused_later : (image : Image) (line : List ℕ) (lines : List (List ℕ)) (k : ℕ) → MayStand image line → RefusedAt image lines k → RefusedAt image (line ∷ lines) (suc k)
refused_later image line lines k stands at = (at.0, at.1, at.2, before)
  where
    before : (j : ℕ) (b : List ℕ) → j < suc k → slice_get (line ∷ lines) j ≡ Some b → MayStand image b
    before zero b less is = let same : line ≡ b = cc in subst (MayStand image) same stands
    before (suc j) b less is = at.3 j b (omega (arith, less)) is

refuses : (image : Image) (b : ℕ) (line : List ℕ) → command_of image (words_of (b ∷ line)) ≡ None → MayStand image (b ∷ line) → ⊥
refuses image b line none stands = elim stands [
  | inl empty ↦ cc
  | inr given ↦ never (command_of image (words_of (b ∷ line))) given.0 none (line_whole image (b ∷ line) given.0 given.1)
]
  where
    never : (o : Option Command) (c : Command) → o ≡ None → o ≡ Some c → ⊥
    never o c e f = cc

err_behind : (c : Command) (r : Result (List Command) ℕ) (m : ℕ) → behind (c ∷ []) r ≡ Err m → r ≡ Err m
err_behind c (Ok more) m e = cc
err_behind c (Err n) m e = cc

pub script_first : (image : Image) (n : ℕ) (lines : List (List ℕ)) (m : ℕ) → script_of image n lines ≡ Err m → (k : ℕ) × (m ≡ n + 1 + k) × RefusedAt image lines k
unfolding script_of
script_first image n [] m e = cc
script_first image n ([] ∷ lines) m e = let r = script_first image (n + 1) lines m e in (suc r.0, omega (arith, r.1), refused_later image [] lines r.0 (inl refl) r.2)
script_first image n ((b ∷ line) ∷ lines) m e = by (command_of image (words_of (b ∷ line))) refl e (script_first image (n + 1) lines m)
  where
    by : (o : Option Command) → command_of image (words_of (b ∷ line)) ≡ o → read_on o (n + 1) (script_of image (n + 1) lines) ≡ Err m
        → (script_of image (n + 1) lines ≡ Err m → (k : ℕ) × (m ≡ n + 1 + 1 + k) × RefusedAt image lines k) → (k : ℕ) × (m ≡ n + 1 + k) × RefusedAt image ((b ∷ line) ∷ lines) k
    by None none e more = let same : n + 1 ≡ m = cc in (0, omega (arith, same), (b ∷ line, refl, refuses image b line none, λ j before less is. absurd (omega (arith, less))))
    by (Some c) some e more =
        let r = more (err_behind c (script_of image (n + 1) lines) m e) in
        (suc r.0, omega (arith, r.1), refused_later image (b ∷ line) lines r.0 (inr (c, line_sound image (b ∷ line) c some)) r.2)

-- what a reader of lines answers is what a reader of scripts is to answer
pub tells_first : (image : Image) (lines : List (List ℕ)) (m : ℕ) → script_of image 0 lines ≡ Err m → IsFirstRefused image lines m
tells_first image lines m e =
    let r = script_first image 0 lines m e in
    let place : m - 1 ≡ r.0 = omega (arith, r.1) in
    record {
      line = r.2.0;
      counted = omega (arith, r.1);
      at = ap (slice_get lines) place ∙ r.2.1;
      refused = r.2.2;
      earlier = λ j before less is. r.2.3 j before (omega (arith, less, place)) is;
    }

pub read_found : (image : Image) (lines : List (List ℕ)) (read : List Command) → script_of image 0 lines ≡ Ok read → AreCommands image lines read
read_found image lines read e = script_sound image 0 lines read e

pub read_only : (image : Image) (lines : List (List ℕ)) (read commands : List Command) → script_of image 0 lines ≡ Ok read → AreCommands image lines commands → read ≡ commands
read_only image lines read commands e are = same (script_of image 0 lines) e (script_whole image 0 lines commands are)
  where
    same : (r : Result (List Command) ℕ) → r ≡ Ok read → r ≡ Ok commands → read ≡ commands
    same r e f = cc

pub err_only : (image : Image) (lines : List (List ℕ)) (e : ScriptError) (result : Result Script ScriptError) (commands : List Command) → Reads (script_of image 0 lines) (Err e) → IsErr result × IsErrAnd result (λ x. x ≡ e) → AreCommands image lines commands → ReadsAs commands result
err_only image lines e (Ok s) commands reads failed are = cc
err_only image lines (fails.Line n) (Err x) commands reads failed are = absurd (never (script_of image 0 lines) reads (script_whole image 0 lines commands are))
  where
    never : (r : Result (List Command) ℕ) → r ≡ Err n → r ≡ Ok commands → ⊥
    never r e f = cc
err_only image lines fails.NoMemory (Err x) commands reads failed are = subst (λ y. ReadsAs commands (Err y)) (sym failed.1) tt

pub err_first : (image : Image) (lines : List (List ℕ)) (e : ScriptError) (result : Result Script ScriptError) → Reads (script_of image 0 lines) (Err e) → IsErr result × IsErrAnd result (λ x. x ≡ e) → IfErr result (λ x. TellsFirst image lines x)
err_first image lines e (Ok s) reads failed = tt
err_first image lines (fails.Line n) (Err x) reads failed = subst (TellsFirst image lines) (sym failed.1) (tells_first image lines n reads)
err_first image lines fails.NoMemory (Err x) reads failed = subst (TellsFirst image lines) (sym failed.1) tt

all_behind : (image : Image) (c : Command) (rest : List Command) → IsTrue (accepts image c) → All (λ (x : Command). IsTrue (accepts image x)) rest → All (λ (x : Command). IsTrue (accepts image x)) (c ∷ rest)
all_behind image c rest first others zero d within = first
all_behind image c rest first others (suc k) d within = others k d (omega (arith, within))

-- the commands of a script may all be given
pub are_accepted : (image : Image) (lines : List (List ℕ)) (cs : List Command) → AreCommands image lines cs → All (λ (x : Command). IsTrue (accepts image x)) cs
are_accepted image [] cs are = subst (λ xs. All (λ (x : Command). IsTrue (accepts image x)) xs) (sym are) (λ k d within. absurd (omega (arith, within)))
are_accepted image ([] ∷ lines) cs are = are_accepted image lines cs are
are_accepted image ((b ∷ line) ∷ lines) cs are =
    subst (λ xs. All (λ (x : Command). IsTrue (accepts image x)) xs) (sym are.2) (all_behind image are.0 are.1 are.3.accepted (are_accepted image lines are.1 are.4))

pub read_accepted : (image : Image) (lines : List (List ℕ)) (read : List Command) → script_of image 0 lines ≡ Ok read → All (λ (x : Command). IsTrue (accepts image x)) read
read_accepted image lines read e = are_accepted image lines read (read_found image lines read e)
