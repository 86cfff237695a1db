-- The walk of `clap` and the line of the same words agree: a fault where there is no line, else rows that tell it.
use Rattle.std.specs.Prelude.{◌≡◌, ℕ, Bool, true, false, List, [], ◌∷◌, ◌++◌, codes, Option, Some, None, fold}
use Rattle.std.proofs.Common.{refl, ap, sym, ◌∙◌, subst, append_assoc, append-nil}
use Rattle.std.specs.Str.{bytes_eq, IsUtf8}
use Rattle.std.proofs.lemmas.Slice.Eq.{bytes_eq-Decides}
use Rattle.clap.specs.Walk.{Row, Text, Held, Walk, Waiting, walked, settled_rows, used, idle, option}
use Rattle.clap.specs.Faults.{settle_fault, turn_fault, walk_fault, use_fault}
use Rattle.clap.specs.Kinds.{Kinds, or_else}
use Rattle.command_line.specs.Line.{Line, and_then, is_option, met, line_from, value_from, with_brief, with_scheme}
use Rattle.command_line.specs.Parsed.{AreTexts}
use Rattle.command_line.proofs.Refused.{flag_value_refused, short_refused, unknown_refused, first_none, some_first}
use Rattle.command_line.proofs.Rows.{Tells, flag_use, option_use, first_use, later_use, with_flag, with_option, with_first, with_later, conflict_if}
use Rattle.command_line.proofs.Shapes.{Shape, behind, long, short, plain, shape_of}
use Rattle.command_line.proofs.Walked.{at, top, built_rules, IsOpen, IsPlace, first, later, IsPlain, IsLong, placed, waiting_behind, waiting_scheme, settled_at, fault_at, behind_fault, behind_walked, plain_fault, plain_walked, dashes_fault, dashes_walked, brief_fault, brief_walked, scheme_fault, scheme_walked, alone_fault, alone_walked, value_fault, value_walked, brief_built, scheme_built}

-- the faults of the words that are left, and of what is pending behind them
abbrev pub held_fault : Held → Kinds
held_fault h = settle_fault built_rules false h

abbrev pub end_of : Walk → List Text → Held
end_of w words = (fold (walked built_rules []) w words).held

abbrev pub rest_fault : Walk → List Text → Kinds
rest_fault w words = or_else (walk_fault top [] w words) (held_fault (end_of w words))

-- the rows behind the last word, with what is pending
abbrev pub rows_of_held : Held → List Row
rows_of_held h = settled_rows built_rules h.pending h.rows

abbrev pub Agrees : Kinds → List Row → Option Line → Type 0
Agrees faults rows None = faults ≡ [] → ⊥
Agrees faults rows (Some l) = (faults ≡ []) × Tells rows l

abbrev pub AgreesFrom : Walk → List Text → Option Line → Type 0
AgreesFrom w words l = Agrees (rest_fault w words) (rows_of_held (end_of w words)) l

-- a word that faults nothing, and the walk behind it
passes : (w v : Walk) (word : Text) (words : List Text) (l : Option Line) → turn_fault top [] w word ≡ [] → walked built_rules [] w word ≡ v → AgreesFrom v words l → AgreesFrom w (word ∷ words) l
unfolding walk_fault
passes w v word words l none to agrees =
    let from : AgreesFrom (walked built_rules [] w word) words l = subst (λ (x : Walk). AgreesFrom x words l) (sym to) agrees in
    subst (λ (t : Kinds). Agrees (or_else (or_else t (walk_fault top [] (walked built_rules [] w word) words)) (held_fault (end_of (walked built_rules [] w word) words))) (rows_of_held (end_of (walked built_rules [] w word) words)) l) (sym none) from

-- a word that is refused
stops : (w : Walk) (word : Text) (words : List Text) → (turn_fault top [] w word ≡ [] → ⊥) → AgreesFrom w (word ∷ words) None
unfolding walk_fault
stops w word words refused none = refused (first_none _ _ (first_none _ _ none))

named : (name : List ℕ) (given : Text) → bytes_eq name given ≡ true → given ≡ name
named name given is = sym ((bytes_eq-Decides name given).0 is)

-- ---- one word

abbrev line : List Text → Bool → Option Text → Line
line places brief scheme = record { places = places; brief = brief; scheme = scheme }

-- the place of the next positional
abbrev pub next_place : List Text → ℕ
next_place [] = 1
next_place (word ∷ words) = 2

next_is_later : (places : List Text) (word : Text) → next_place (places ++ word ∷ []) ≡ 2
next_is_later [] word = refl
next_is_later (c ∷ cs) word = refl

is_place : (places : List Text) → IsPlace (next_place places)
is_place [] = first
is_place (word ∷ words) = later

-- the row of the walk between two words, where nothing is faulted yet
pub record IsWell (r : List Row) (p : Option (Text × List Text)) (l : Line) : Type 0 where
  pub good : fault_at r p ≡ []
  pub tells : Tells (settled_at r p) l

-- one more positional, pending
placed_well : (r : List Row) (places : List Text) (b : Bool) (s : Option Text) (word : Text) → Tells r (line places b s)
    → IsWell r (Some (placed (next_place places), word ∷ [])) (line (places ++ word ∷ []) b s)
placed_well r [] b s word tells = record {
  good = first_use r (line [] b s) word tells refl;
  tells = with_first r (line [] b s) word tells refl;
}
placed_well r (c ∷ cs) b s word tells = record {
  good = later_use r word;
  tells = with_later r (line (c ∷ cs) b s) c word cs tells refl;
}

-- words behind `--`
behind_agrees : (words : List Text) (r : List Row) (p : Option (Text × List Text)) (w : Waiting) (places : List Text) (b : Bool) (s : Option Text) → IsWell r p (line places b s)
    → AgreesFrom (at r p w (next_place places) true) words (Some (line (places ++ words) b s))
unfolding walk_fault
behind_agrees [] r p w places b s well = (well.good, subst (λ (ps : List Text). Tells (settled_at r p) (line ps b s)) (sym (append-nil places)) well.tells)
behind_agrees (word ∷ words) r p w places b s well =
    let more = placed_well (settled_at r p) places b s word well.tells in
    let rest = behind_agrees words (settled_at r p) (Some (placed (next_place places), word ∷ [])) (waiting_behind (next_place places)) (places ++ word ∷ []) b s more in
    let from = subst (λ (k : ℕ). AgreesFrom (at (settled_at r p) (Some (placed (next_place places), word ∷ [])) (waiting_behind (next_place places)) k true) words (Some (line ((places ++ word ∷ []) ++ words) b s))) (next_is_later places word) rest in
    let same : (places ++ word ∷ []) ++ words ≡ places ++ word ∷ words = append_assoc places (word ∷ []) words in
    subst (λ (ps : List Text). AgreesFrom (at r p w (next_place places) true) (word ∷ words) (Some (line ps b s))) same
    (passes (at r p w (next_place places) true) _ word words (Some (line ((places ++ word ∷ []) ++ words) b s)) (behind_fault r p w (next_place places) word (is_place places) ∙ well.good) (behind_walked r p w (next_place places) word (is_place places)) from)

-- a positional
plain_step : (r : List Row) (p : Option (Text × List Text)) (w : Waiting) (places : List Text) (b : Bool) (s : Option Text) (word : Text) (words : List Text) (l : Option Line) → IsOpen w → IsWell r p (line places b s) → IsPlain word
    → AgreesFrom (at (settled_at r p) (Some (placed (next_place places), word ∷ [])) (waiting_behind (next_place places)) (next_place (places ++ word ∷ [])) false) words l
    → AgreesFrom (at r p w (next_place places) false) (word ∷ words) l
plain_step r p w places b s word words l free well is rest =
    let from = subst (λ (k : ℕ). AgreesFrom (at (settled_at r p) (Some (placed (next_place places), word ∷ [])) (waiting_behind (next_place places)) k false) words l) (next_is_later places word) rest in
    passes (at r p w (next_place places) false) _ word words l (plain_fault r p w (next_place places) word free (is_place places) is ∙ well.good) (plain_walked r p w (next_place places) word free (is_place places) is) from

conflict_refused : (b : Bool) (f u t : Kinds) → b ≡ true → t ≡ or_else f u → f ≡ [] → u ≡ conflict_if b → t ≡ [] → ⊥
conflict_refused b f u t is turn good uses none = let bad : conflict_if true ≡ [] = ap conflict_if (sym is) ∙ sym uses ∙ ap (λ (g : Kinds). or_else g u) (sym good) ∙ sym turn ∙ none in some_first _ _ bad

conflict_passes : (b : Bool) (f u t : Kinds) → b ≡ false → t ≡ or_else f u → f ≡ [] → u ≡ conflict_if b → t ≡ []
conflict_passes b f u t is turn good uses = turn ∙ ap (λ (g : Kinds). or_else g u) good ∙ uses ∙ ap conflict_if is

-- the flag
brief_step : (r : List Row) (p : Option (Text × List Text)) (w : Waiting) (places : List Text) (b : Bool) (s : Option Text) (word : Text) (words : List Text) → IsWell r p (line places b s) → IsLong word (codes "brief") None
    → ((q : List Row) → IsWell q None (line places true s) → AgreesFrom (at q None idle (next_place places) false) words (line_from words (line places true s)))
    → AgreesFrom (at r p w (next_place places) false) (word ∷ words) (and_then (with_brief (line places b s)) (line_from words))
brief_step r p w places true s word words well is rest =
    stops (at r p w (next_place places) false) word words
    (conflict_refused true (fault_at r p) (use_fault false brief_built [] (settled_at r p)) _ refl (brief_fault r p w (next_place places) word is) well.good (flag_use (settled_at r p) (line places true s) well.tells))
brief_step r p w places false s word words well is rest =
    let tells = with_flag (settled_at r p) (line places false s) well.tells refl in
    passes (at r p w (next_place places) false) _ word words _
    (conflict_passes false (fault_at r p) (use_fault false brief_built [] (settled_at r p)) _ refl (brief_fault r p w (next_place places) word is) well.good (flag_use (settled_at r p) (line places false s) well.tells))
    (brief_walked r p w (next_place places) word is)
    (rest (used brief_built [] (settled_at r p)) (record { good = refl; tells = tells }))

-- the option with its value attached
attached_step : (r : List Row) (p : Option (Text × List Text)) (w : Waiting) (places : List Text) (b : Bool) (s : Option Text) (word value : Text) (words : List Text) → IsWell r p (line places b s) → IsLong word (codes "scheme") (Some value)
    → ((q : List Row) → IsWell q None (line places b (Some value)) → AgreesFrom (at q None idle (next_place places) false) words (line_from words (line places b (Some value))))
    → AgreesFrom (at r p w (next_place places) false) (word ∷ words) (and_then (with_scheme value (line places b s)) (line_from words))
attached_step r p w places b (Some old) word value words well is rest =
    stops (at r p w (next_place places) false) word words
    (conflict_refused true (fault_at r p) (use_fault false scheme_built (value ∷ []) (settled_at r p)) _ refl (scheme_fault r p w (next_place places) word value is) well.good (option_use (settled_at r p) (line places b (Some old)) value well.tells))
attached_step r p w places b None word value words well is rest =
    let tells = with_option (settled_at r p) (line places b None) value well.tells refl in
    passes (at r p w (next_place places) false) _ word words _
    (conflict_passes false (fault_at r p) (use_fault false scheme_built (value ∷ []) (settled_at r p)) _ refl (scheme_fault r p w (next_place places) word value is) well.good (option_use (settled_at r p) (line places b None) value well.tells))
    (scheme_walked r p w (next_place places) word value is)
    (rest (used scheme_built (value ∷ []) (settled_at r p)) (record { good = refl; tells = tells }))

-- ---- a pending use that is faulted

-- behind `--` it stays so
bad_behind : (words : List Text) (r : List Row) (p : Option (Text × List Text)) (w : Waiting) (places : List Text) → (fault_at r p ≡ [] → ⊥) → AgreesFrom (at r p w (next_place places) true) words None
unfolding walk_fault
bad_behind [] r p w places bad = bad
bad_behind (word ∷ words) r p w places bad =
    stops (at r p w (next_place places) true) word words (λ none. bad (sym (behind_fault r p w (next_place places) word (is_place places)) ∙ none))

bad_long : (r : List Row) (p : Option (Text × List Text)) (w : Waiting) (k : ℕ) (word name : Text) (given : Option Text) → (fault_at r p ≡ [] → ⊥) → IsLong word name given
    → (brief : Bool) → bytes_eq (codes "brief") name ≡ brief → (scheme : Bool) → bytes_eq (codes "scheme") name ≡ scheme → turn_fault top [] (at r p w k false) word ≡ [] → ⊥
bad_long r p w k word name given bad is false no_brief false no_scheme none = unknown_refused r p w k word name given is no_brief no_scheme none
bad_long r p w k word name None bad is true a scheme b none =
    bad (first_none _ _ (sym (brief_fault r p w k word (subst (λ (n : Text). IsLong word n None) (named (codes "brief") name a) is)) ∙ none))
bad_long r p w k word name (Some value) bad is true a scheme b none =
    flag_value_refused r p w k word value (subst (λ (n : Text). IsLong word n (Some value)) (named (codes "brief") name a) is) none
bad_long r p w k word name None bad is false a true b none =
    bad (sym (alone_fault r p w k word (subst (λ (n : Text). IsLong word n None) (named (codes "scheme") name b) is)) ∙ none)
bad_long r p w k word name (Some value) bad is false a true b none =
    bad (first_none _ _ (sym (scheme_fault r p w k word value (subst (λ (n : Text). IsLong word n (Some value)) (named (codes "scheme") name b) is)) ∙ none))

-- an option, or `--`, behind it
bad_option : (word : Text) (words : List Text) (r : List Row) (p : Option (Text × List Text)) (w : Waiting) (places : List Text) → IsUtf8 word → (fault_at r p ≡ [] → ⊥) → is_option word ≡ true → Shape word
    → AgreesFrom (at r p w (next_place places) false) (word ∷ words) None
bad_option word words r p w places utf8 bad opt (behind is o) =
    passes (at r p w (next_place places) false) _ word words None (dashes_fault r p w (next_place places) word is) (dashes_walked r p w (next_place places) word is) (bad_behind words r p w places bad)
bad_option word words r p w places utf8 bad opt (long name given is o) =
    stops (at r p w (next_place places) false) word words (bad_long r p w (next_place places) word name given bad is (bytes_eq (codes "brief") name) refl (bytes_eq (codes "scheme") name) refl)
bad_option word words r p w places utf8 bad opt (short c flags is o) =
    stops (at r p w (next_place places) false) word words (short_refused r p w (next_place places) word c flags is utf8)
bad_option word words r p w places utf8 bad opt (plain is shut) = let wrong : true ≡ false = sym opt ∙ shut in cc

-- any words behind it, where no option waits
bad_words : (words : List Text) (r : List Row) (p : Option (Text × List Text)) (w : Waiting) (places : List Text) → AreTexts words → IsOpen w → (fault_at r p ≡ [] → ⊥) → AgreesFrom (at r p w (next_place places) false) words None
unfolding walk_fault
bad_words [] r p w places texts free bad = bad
bad_words (word ∷ words) r p w places texts free bad = by_shape (shape_of word)
  where
    by_shape : Shape word → AgreesFrom (at r p w (next_place places) false) (word ∷ words) None
    by_shape (plain is shut) = stops (at r p w (next_place places) false) word words (λ none. bad (sym (plain_fault r p w (next_place places) word free (is_place places) is) ∙ none))
    by_shape (behind is o) = bad_option word words r p w places texts.0 bad o (behind is o)
    by_shape (long name given is o) = bad_option word words r p w places texts.0 bad o (long name given is o)
    by_shape (short c flags is o) = bad_option word words r p w places texts.0 bad o (short c flags is o)

-- ---- the value of the option in a word of its own

waits_bad : (r : List Row) → fault_at r waiting_scheme ≡ [] → ⊥
waits_bad r none = some_first _ _ none

conflict_of : (b : Bool) (u : Kinds) → b ≡ true → u ≡ conflict_if b → u ≡ [] → ⊥
conflict_of b u is uses none = let bad : conflict_if true ≡ [] = ap conflict_if (sym is) ∙ sym uses ∙ none in some_first _ _ bad

value_step : (r : List Row) (places : List Text) (b : Bool) (s : Option Text) (word : Text) (words : List Text) → AreTexts words → Tells r (line places b s) → IsPlain word
    → ((p : Option (Text × List Text)) → IsWell r p (line places b (Some word)) → AgreesFrom (at r p idle (next_place places) false) words (line_from words (line places b (Some word))))
    → AgreesFrom (at r waiting_scheme (option (codes "scheme")) (next_place places) false) (word ∷ words) (and_then (with_scheme word (line places b s)) (line_from words))
value_step r places b (Some old) word words texts tells is rest =
    let bad : fault_at r (Some (codes "scheme", word ∷ [])) ≡ [] → ⊥ = conflict_of true _ refl (option_use r (line places b (Some old)) word tells) in
    passes (at r waiting_scheme (option (codes "scheme")) (next_place places) false) _ word words None (value_fault r (next_place places) word is) (value_walked r (next_place places) word is)
    (bad_words words r (Some (codes "scheme", word ∷ [])) idle places texts tt bad)
value_step r places b None word words texts tells is rest =
    let good : fault_at r (Some (codes "scheme", word ∷ [])) ≡ [] = option_use r (line places b None) word tells in
    passes (at r waiting_scheme (option (codes "scheme")) (next_place places) false) _ word words _ (value_fault r (next_place places) word is) (value_walked r (next_place places) word is)
    (rest (Some (codes "scheme", word ∷ [])) (record { good = good; tells = with_option r (line places b None) word tells refl }))

-- ---- all words

behind_is_open : (places : List Text) → IsOpen (waiting_behind (next_place places))
behind_is_open [] = tt
behind_is_open (c ∷ cs) = tt

-- what a long word comes to, as the line says it
abbrev long_line : Text → Option Text → List Text → Line → Option Line
long_line name given words l = met (Some (name, given)) [] l (line_from words) (value_from words)

long_step : (r : List Row) (p : Option (Text × List Text)) (w : Waiting) (places : List Text) (b : Bool) (s : Option Text) (word name : Text) (given : Option Text) (words : List Text) → IsWell r p (line places b s) → IsLong word name given
    → ((q : List Row) (c : Bool) (t : Option Text) → IsWell q None (line places c t) → AgreesFrom (at q None idle (next_place places) false) words (line_from words (line places c t)))
    → ((q : List Row) → Tells q (line places b s) → AgreesFrom (at q waiting_scheme (option (codes "scheme")) (next_place places) false) words (value_from words (line places b s)))
    → (brief : Bool) → bytes_eq (codes "brief") name ≡ brief → (scheme : Bool) → bytes_eq (codes "scheme") name ≡ scheme
    → AgreesFrom (at r p w (next_place places) false) (word ∷ words) (long_line name given words (line places b s))
long_step r p w places b s word name None words well is rest value true a scheme e =
    let brief_is = brief_step r p w places b s word words well (subst (λ (n : Text). IsLong word n None) (named (codes "brief") name a) is) (λ q. rest q true s) in
    rw a brief_is
long_step r p w places b s word name (Some v) words well is rest value true a scheme e =
    let refused = stops (at r p w (next_place places) false) word words (flag_value_refused r p w (next_place places) word v (subst (λ (n : Text). IsLong word n (Some v)) (named (codes "brief") name a) is)) in
    rw a refused
long_step r p w places b s word name None words well is rest value false a true e =
    let named_is = subst (λ (n : Text). IsLong word n None) (named (codes "scheme") name e) is in
    let waits = passes (at r p w (next_place places) false) (at (settled_at r p) waiting_scheme (option (codes "scheme")) (next_place places) false) word words (value_from words (line places b s))
    (alone_fault r p w (next_place places) word named_is ∙ well.good) (alone_walked r p w (next_place places) word named_is) (value (settled_at r p) well.tells) in
    rw (a, e) waits
long_step r p w places b s word name (Some v) words well is rest value false a true e =
    let attached_is = attached_step r p w places b s word v words well (subst (λ (n : Text). IsLong word n (Some v)) (named (codes "scheme") name e) is) (λ q. rest q b (Some v)) in
    rw (a, e) attached_is
long_step r p w places b s word name given words well is rest value false a false e =
    let refused = stops (at r p w (next_place places) false) word words (unknown_refused r p w (next_place places) word name given is a e) in
    rw (a, e) refused

word_agrees : (word : Text) (words : List Text) (r : List Row) (p : Option (Text × List Text)) (w : Waiting) (places : List Text) (b : Bool) (s : Option Text) → IsUtf8 word → IsOpen w → IsWell r p (line places b s) → Shape word
    → ((q : List Row) (o : Option (Text × List Text)) (v : Waiting) (ps : List Text) (c : Bool) (t : Option Text) → IsOpen v → IsWell q o (line ps c t) → AgreesFrom (at q o v (next_place ps) false) words (line_from words (line ps c t)))
    → ((q : List Row) → Tells q (line places b s) → AgreesFrom (at q waiting_scheme (option (codes "scheme")) (next_place places) false) words (value_from words (line places b s)))
    → AgreesFrom (at r p w (next_place places) false) (word ∷ words) (line_from (word ∷ words) (line places b s))
unfolding line_from
word_agrees word words r p w places b s utf8 free well (behind is o) rest value =
    let behind_is = passes (at r p w (next_place places) false) (at r p w (next_place places) true) word words (Some (line (places ++ words) b s))
    (dashes_fault r p w (next_place places) word is) (dashes_walked r p w (next_place places) word is) (behind_agrees words r p w places b s well) in
    rw is behind_is
word_agrees word words r p w places b s utf8 free well (long name given is o) rest value =
    let long_is = long_step r p w places b s word name given words well is (λ q c t. rest q None idle places c t tt) value (bytes_eq (codes "brief") name) refl (bytes_eq (codes "scheme") name) refl in
    rw (is.dashes, is.long) long_is
word_agrees word words r p w places b s utf8 free well (short c flags is o) rest value =
    let refused = stops (at r p w (next_place places) false) word words (short_refused r p w (next_place places) word c flags is utf8) in
    rw (is.dashes, is.long, o) refused
word_agrees word words r p w places b s utf8 free well (plain is shut) rest value =
    let more = placed_well (settled_at r p) places b s word well.tells in
    let plain_is = plain_step r p w places b s word words (line_from words (line (places ++ word ∷ []) b s)) free well is
    (rest (settled_at r p) (Some (placed (next_place places), word ∷ [])) (waiting_behind (next_place places)) (places ++ word ∷ []) b s (behind_is_open places) more) in
    rw (is.dashes, is.long, shut) plain_is

first_agrees : (word : Text) (words : List Text) (r : List Row) (places : List Text) (b : Bool) (s : Option Text) → AreTexts (word ∷ words) → Tells r (line places b s) → Shape word
    → ((o : Option (Text × List Text)) (c : Bool) (t : Option Text) → IsWell r o (line places c t) → AgreesFrom (at r o idle (next_place places) false) words (line_from words (line places c t)))
    → AgreesFrom (at r waiting_scheme (option (codes "scheme")) (next_place places) false) (word ∷ words) (value_from (word ∷ words) (line places b s))
unfolding value_from
first_agrees word words r places b s texts tells (plain is shut) rest =
    let value_is = value_step r places b s word words texts.1 tells is (λ o well. rest o b (Some word) well) in
    rw shut value_is
first_agrees word words r places b s texts tells (behind is o) rest =
    rw o (bad_option word words r waiting_scheme (option (codes "scheme")) places texts.0 (waits_bad r) o (behind is o))
first_agrees word words r places b s texts tells (long name given is o) rest =
    rw o (bad_option word words r waiting_scheme (option (codes "scheme")) places texts.0 (waits_bad r) o (long name given is o))
first_agrees word words r places b s texts tells (short c flags is o) rest =
    rw o (bad_option word words r waiting_scheme (option (codes "scheme")) places texts.0 (waits_bad r) o (short c flags is o))

mutual
  unfolding line_from value_from walk_fault

  pub line_agrees : (words : List Text) (r : List Row) (p : Option (Text × List Text)) (w : Waiting) (places : List Text) (b : Bool) (s : Option Text) → AreTexts words → IsOpen w → IsWell r p (line places b s)
      → AgreesFrom (at r p w (next_place places) false) words (line_from words (line places b s))
  line_agrees [] r p w places b s texts free well = (well.good, well.tells)
  line_agrees (word ∷ words) r p w places b s texts free well =
      word_agrees word words r p w places b s texts.0 free well (shape_of word)
      (λ q o v ps c t free well. line_agrees words q o v ps c t texts.1 free well)
      (λ q tells. value_agrees words q places b s texts.1 tells)

  pub value_agrees : (words : List Text) (r : List Row) (places : List Text) (b : Bool) (s : Option Text) → AreTexts words → Tells r (line places b s)
      → AgreesFrom (at r waiting_scheme (option (codes "scheme")) (next_place places) false) words (value_from words (line places b s))
  value_agrees [] r places b s texts tells = waits_bad r
  value_agrees (word ∷ words) r places b s texts tells =
      first_agrees word words r places b s texts tells (shape_of word) (λ o c t well. line_agrees words r o idle places c t texts.1 tt well)
