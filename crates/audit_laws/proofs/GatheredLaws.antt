-- What is gathered from lines is what they tell, and no more of them tells a journal.
use Rattle.std.proofs.Common.{◌≡◌, ℕ, zero, suc, ◌+◌, ◌-◌, ◌≤◌, Bool, true, false, cond, ◌==◌, Option, Some, None, List, [], ◌∷◌, ◌++◌, length, take, refl, sym, ap, ◌∙◌, append_assoc, arith, not-suc-le-zero, le_of_suc-le-suc}
use Rattle.std.proofs.lemmas.Bool.{true≢false}
use Rattle.std.proofs.lemmas.Bool.Decides.{nat_tests}
use Rattle.std.proofs.lemmas.List.{take-map}
use Rattle.std.specs.Prelude.{⊤}
use Rattle.task_ast.specs.declared.core_form.Core.{Core}
use Rattle.devices.specs.declared.event.RunEnd.{RunEnd}
use Rattle.devices.specs.Journal.{JournalEvent, begins, looks, keeps, drops, issues, seals, copies, commits, traps, Boot}
use Rattle.power_trace.specs.Report.{Style}
use Rattle.report_text.specs.declared.line.LineText.{LineText}
use Rattle.report_text.specs.declared.line.LineText.TheVariants as line
use Rattle.report_text.specs.declared.line.ReportLine.{ReportLine}
use Rattle.report_text.specs.Events.{style_of, event_in, IsOf}
use Rattle.report_text.specs.Grammar.{IsText, is_end, AreLines}
use Rattle.report_text.specs.Written.{event_told, line_told, events_told, boots_told}
use Rattle.audit_check.specs.Lines.{lines_of, front}
use Rattle.audit_laws.specs.Answers.{AreNamed, BootsAreNamed, end_told}
use Rattle.audit_laws.specs.Gathered.{Item, a_boot, an_event, an_end, nothing, event_or_none, item_in, Gathered, no_more, with_event, with_boot, with_end, gathered_by, gathered, end_lines}

-- ---- lists

nil_cons : {A : Type 0} (x : A) (xs : List A) → [] ≡ x ∷ xs → ⊥
nil_cons x xs is = let gone : 0 ≡ suc (length xs) = ap length is in omega (arith, gone)

head_line : ReportLine → List ReportLine → ReportLine
head_line d [] = d
head_line d (l ∷ lines) = l

first_same : (a b : ReportLine) (xs ys : List ReportLine) → a ∷ xs ≡ b ∷ ys → a ≡ b
unfolding head_line
first_same a b xs ys is = ap (head_line a) is

behind : List ReportLine → List ReportLine
behind [] = []
behind (l ∷ lines) = lines

rest_same : (a b : ReportLine) (xs ys : List ReportLine) → a ∷ xs ≡ b ∷ ys → xs ≡ ys
unfolding behind
rest_same a b xs ys is = ap behind is

take_joined : (n : ℕ) (xs ys : List ReportLine) → take n (xs ++ ys) ≡ take n xs ++ take (n - length xs) ys
take_joined zero xs ys = let none : 0 - length xs ≡ 0 = omega arith in ap (λ k. take k ys) (sym none)
take_joined (suc n) [] ys = let all : suc n ≡ suc n - 0 = omega arith in ap (λ k. take k ys) all
take_joined (suc n) (x ∷ xs) ys =
    let less : n - length xs ≡ suc n - suc (length xs) = omega arith in
    ap (λ (rest : List ReportLine). x ∷ rest) (take_joined n xs ys ∙ ap (λ k. take n xs ++ take k ys) less)

itself : (n : ℕ) → (n == n) ≡ true
itself n = grind (arith, nat_tests)

same_number : (n k : ℕ) → (n == k) ≡ true → n ≡ k
same_number n k is = grind (arith, nat_tests)

-- ---- what texts tell

abbrev Says : Core → LineText → Item → Type 0
Says c t (a_boot n) = t ≡ line.Boot n
Says c t (an_event e) = event_in c t ≡ Some e
Says c t (an_end ending) = t ≡ line.End ending
Says c t nothing = ⊤

says_event : (c : Core) (t : LineText) (o : Option JournalEvent) → event_in c t ≡ o → Says c t (event_or_none o)
says_event c t None is = tt
says_event c t (Some e) is = is

says : (c : Core) (t : LineText) → Says c t (item_in c t)
says c (line.Boot n) = refl
says c (line.Begin task) = says_event c (line.Begin task) _ refl
says c (line.Look site time) = says_event c (line.Look site time) _ refl
says c (line.Kept site value) = says_event c (line.Kept site value) _ refl
says c (line.Drop site) = says_event c (line.Drop site) _ refl
says c (line.Issue site name args reading) = says_event c (line.Issue site name args reading) _ refl
says c (line.Seal site) = says_event c (line.Seal site) _ refl
says c (line.Copy site from to words) = says_event c (line.Copy site from to words) _ refl
says c (line.Commit next) = says_event c (line.Commit next) _ refl
says c (line.Trap code) = says_event c (line.Trap code) _ refl
says c (line.End ending) = refl

-- the text of an event tells an event, if it tells anything
by_event : (c : Core) (e : JournalEvent) → item_in c (event_told (style_of c) e) ≡ event_or_none (event_in c (event_told (style_of c) e))
by_event c (begins task) = refl
by_event c (looks site time) = refl
by_event c (keeps site value) = refl
by_event c (drops site) = refl
by_event c (issues site p arguments reading) = refl
by_event c (seals site) = refl
by_event c (copies site from to words) = refl
by_event c (commits next) = refl
by_event c (traps code) = refl

module _ (c : Core) (given : (e : JournalEvent) → IsOf c e → event_in c (event_told (style_of c) e) ≡ Some e) where
  abbrev S : Style
  S = style_of c

  told_item : (e : JournalEvent) → IsOf c e → item_in c (event_told S e) ≡ an_event e
  told_item e named = by_event c e ∙ ap event_or_none (given e named)

  -- the lines of events, of boots behind them, and of an end
  abbrev pub tells : (number : ℕ) → List (ℕ × JournalEvent) → List Boot → Option (ℕ × RunEnd) → List ReportLine
  tells k es boots ending = events_told S es ++ (boots_told S k boots ++ end_told ending)

  -- ---- what is gathered from lines that tell this is this

  record Reads (g : Gathered) (es : List (ℕ × JournalEvent)) (bs : List Boot) (how : Option (ℕ × RunEnd)) : Type 0 where
    events : g.events ≡ es
    boots : g.boots ≡ bs
    ending : g.ending ≡ how

  read_event : (inside : Bool) (k : ℕ) (e : ℕ × JournalEvent) (more : List ReportLine) → inside ≡ true → IsOf c e.1 → gathered c inside k (line_told e.0 (event_told S e.1) ∷ more) ≡ with_event e (gathered c inside k more)
  read_event inside k e more is named =
      ap (λ i. gathered_by inside k e.0 i (λ inside k. gathered c inside k more)) (told_item e.1 named)
      ∙ ap (λ t. cond t (with_event e (gathered c inside k more)) no_more) is

  read_boot : (inside : Bool) (k begun : ℕ) (more : List ReportLine) → gathered c inside k (line_told begun (line.Boot k) ∷ more) ≡ with_boot begun (gathered c true (suc k) more)
  read_boot inside k begun more = ap (λ t. cond t (with_boot begun (gathered c true (suc k) more)) no_more) (itself k)

  reads_one_more : (g h : Gathered) (e : ℕ × JournalEvent) (es : List (ℕ × JournalEvent)) (boots : List Boot) (ending : Option (ℕ × RunEnd)) → h ≡ with_event e g → Reads g es boots ending → Reads h (e ∷ es) boots ending
  reads_one_more g h e es boots ending is reads = record {
    events = ap (λ g. g.events) is ∙ ap (λ (es : List (ℕ × JournalEvent)). e ∷ es) reads.events;
    boots = ap (λ g. g.boots) is ∙ reads.boots;
    ending = ap (λ g. g.ending) is ∙ reads.ending;
  }

  reads_boot_more : (g h : Gathered) (b : Boot) (boots : List Boot) (ending : Option (ℕ × RunEnd)) → h ≡ with_boot b.begun_at g → Reads g b.events boots ending → Reads h [] (b ∷ boots) ending
  reads_boot_more g h b boots ending is reads = record {
    events = ap (λ g. g.events) is;
    boots = ap (λ g. g.boots) is ∙ (λ i. record { begun_at = b.begun_at; events = reads.events i } ∷ reads.boots i);
    ending = ap (λ g. g.ending) is ∙ reads.ending;
  }

  -- events, and then what is behind them
  reads_events : (k : ℕ) (es : List (ℕ × JournalEvent)) (boots : List Boot) (ending : Option (ℕ × RunEnd)) (more : List ReportLine) → AreNamed c es → Reads (gathered c true k more) [] boots ending → Reads (gathered c true k (events_told S es ++ more)) es boots ending
  reads_events k [] boots ending more named rest = rest
  reads_events k (e ∷ es) boots ending more named rest =
      reads_one_more (gathered c true k (events_told S es ++ more)) _ e es boots ending (read_event true k e (events_told S es ++ more) refl named.0) (reads_events k es boots ending more named.1 rest)

  reads_boots : (inside : Bool) (k : ℕ) (boots : List Boot) (ending : Option (ℕ × RunEnd)) → BootsAreNamed c boots → Reads (gathered c inside k (boots_told S k boots ++ end_told ending)) [] boots ending
  reads_boots inside k [] None all = record { events = refl; boots = refl; ending = refl }
  reads_boots inside k [] (Some e) all = record { events = refl; boots = refl; ending = refl }
  reads_boots inside k (b ∷ boots) ending all =
      let behind = boots_told S (suc k) boots ++ end_told ending in
      let parted : boots_told S k (b ∷ boots) ++ end_told ending ≡ line_told b.begun_at (line.Boot k) ∷ (events_told S b.events ++ behind) =
      ap (λ (rest : List ReportLine). line_told b.begun_at (line.Boot k) ∷ rest) (append_assoc (events_told S b.events) (boots_told S (suc k) boots) (end_told ending)) in
      reads_boot_more (gathered c true (suc k) (events_told S b.events ++ behind)) _ b boots ending
      (ap (gathered c inside k) parted ∙ read_boot inside k b.begun_at (events_told S b.events ++ behind))
      (reads_events (suc k) b.events boots ending behind all.0 (reads_boots true (suc k) boots ending all.1))

  -- two journals with the same lines are the same
  pub same_boots : (boots others : List Boot) (ending other : Option (ℕ × RunEnd)) → BootsAreNamed c boots → BootsAreNamed c others
      → boots_told S 1 boots ++ end_told ending ≡ boots_told S 1 others ++ end_told other → (boots ≡ others) × (ending ≡ other)
  same_boots boots others ending other named called is =
      let one = reads_boots false 1 boots ending named in
      let two = reads_boots false 1 others other called in
      (sym one.boots ∙ ap (λ lines. (gathered c false 1 lines).boots) is ∙ two.boots, sym one.ending ∙ ap (λ lines. (gathered c false 1 lines).ending) is ∙ two.ending)

  -- ---- so many lines tell it, and no more of them do

  abbrev IsLeast : (inside : Bool) → (k : ℕ) → List ReportLine → Type 0
  IsLeast inside k lines = (m : ℕ) (es : List (ℕ × JournalEvent)) (boots : List Boot) (ending : Option (ℕ × RunEnd)) → m ≤ length lines → (inside ≡ false → es ≡ []) → AreNamed c es → BootsAreNamed c boots
      → take m lines ≡ tells k es boots ending → m ≤ (gathered c inside k lines).lines

  none_taken : (m : ℕ) (lines : List ReportLine) → m ≤ length lines → take m lines ≡ [] → m ≡ 0
  none_taken zero lines few is = refl
  none_taken (suc m) [] few is = absurd (not-suc-le-zero few)
  none_taken (suc m) (l ∷ lines) few is = absurd (nil_cons l (take m lines) (sym is))

  least_event : (inside : Bool) (is : (t : Bool) → inside ≡ t → t ≡ true) (k m : ℕ) (l : ReportLine) (lines : List ReportLine) (e : ℕ × JournalEvent) → IsOf c e.1 → l ≡ line_told e.0 (event_told S e.1) → m ≤ (gathered c inside k lines).lines
      → suc m ≤ (gathered c inside k (l ∷ lines)).lines
  least_event inside is k m l lines e named told few =
      let here : (gathered c inside k (l ∷ lines)).lines ≡ suc (gathered c inside k lines).lines =
      ap (λ l. (gathered c inside k (l ∷ lines)).lines) told ∙ ap (λ g. g.lines) (read_event inside k e lines (is inside refl) named) in
      omega (arith, here, few)

  least_boot : (inside : Bool) (k m begun : ℕ) (l : ReportLine) (lines : List ReportLine) → l ≡ line_told begun (line.Boot k) → m ≤ (gathered c true (suc k) lines).lines → suc m ≤ (gathered c inside k (l ∷ lines)).lines
  least_boot inside k m begun l lines told few =
      let here : (gathered c inside k (l ∷ lines)).lines ≡ suc (gathered c true (suc k) lines).lines =
      ap (λ l. (gathered c inside k (l ∷ lines)).lines) told ∙ ap (λ g. g.lines) (read_boot inside k begun lines) in
      omega (arith, here, few)

  least_end : (inside : Bool) (k m steps : ℕ) (how : RunEnd) (l : ReportLine) (lines : List ReportLine) → l ≡ line_told steps (line.End how) → m ≡ 0 → suc m ≤ (gathered c inside k (l ∷ lines)).lines
  least_end inside k m steps how l lines told none =
      let here : (gathered c inside k (l ∷ lines)).lines ≡ 1 = ap (λ l. (gathered c inside k (l ∷ lines)).lines) told in
      omega (arith, here, none)

  opened : (inside : Bool) (e : ℕ × JournalEvent) (es : List (ℕ × JournalEvent)) → (inside ≡ false → e ∷ es ≡ []) → (t : Bool) → inside ≡ t → t ≡ true
  opened inside e es none true is = refl
  opened inside e es none false is = absurd (nil_cons e es (sym (none is)))

  pub is_least : (lines : List ReportLine) (inside : Bool) (k : ℕ) → IsLeast inside k lines
  is_least lines inside k zero es boots ending few none named all is = omega arith
  is_least [] inside k (suc m) es boots ending few none named all is = absurd (not-suc-le-zero few)
  is_least (l ∷ lines) inside k (suc m) (e ∷ es) boots ending few none named all is =
      let open_here : (t : Bool) → inside ≡ t → t ≡ true = opened inside e es none in
      let first : l ≡ line_told e.0 (event_told S e.1) = first_same l _ (take m lines) (tells k es boots ending) is in
      least_event inside open_here k m l lines e named.0 first
      (is_least lines inside k m es boots ending (le_of_suc-le-suc few) (λ shut. absurd (true≢false (sym (open_here inside refl) ∙ shut))) named.1 all (rest_same l _ (take m lines) (tells k es boots ending) is))
  is_least (l ∷ lines) inside k (suc m) [] (b ∷ boots) ending few none named all is =
      let parted : l ∷ take m lines ≡ line_told b.begun_at (line.Boot k) ∷ tells (suc k) b.events boots ending =
      is ∙ ap (λ (rest : List ReportLine). line_told b.begun_at (line.Boot k) ∷ rest) (append_assoc (events_told S b.events) (boots_told S (suc k) boots) (end_told ending)) in
      least_boot inside k m b.begun_at l lines (first_same l _ (take m lines) (tells (suc k) b.events boots ending) parted)
      (is_least lines true (suc k) m b.events boots ending (le_of_suc-le-suc few) (λ shut. absurd (true≢false shut)) all.0 all.1 (rest_same l _ (take m lines) (tells (suc k) b.events boots ending) parted))
  is_least (l ∷ lines) inside k (suc m) [] [] (Some e) few none named all is =
      least_end inside k m e.0 e.1 l lines (first_same l _ (take m lines) [] is) (none_taken m lines (le_of_suc-le-suc few) (rest_same l _ (take m lines) [] is))
  is_least (l ∷ lines) inside k (suc m) [] [] None few none named all is = absurd (nil_cons l (take m lines) (sym is))

-- ---- what lines tell

module _ (c : Core) (back : (t : LineText) (e : JournalEvent) → IsText t → event_in c t ≡ Some e → event_told (style_of c) e ≡ t) (whose : (t : LineText) (e : JournalEvent) → event_in c t ≡ Some e → IsOf c e) where
  -- what is gathered: its events and boots are the program's, and these lines tell it
  pub record Tells (inside : Bool) (k : ℕ) (lines : List ReportLine) (g : Gathered) : Type 0 where
    pub named : AreNamed c g.events
    pub all : BootsAreNamed c g.boots
    pub tell : take g.lines lines ≡ events_told (style_of c) g.events ++ (boots_told (style_of c) k g.boots ++ end_told g.ending)
    pub few : g.lines ≤ length lines
    pub count : g.lines ≡ length g.events + (lines_of g.boots + end_lines g.ending)
    pub outside : inside ≡ false → g.events ≡ []

  tells_none : (inside : Bool) (k : ℕ) (lines : List ReportLine) → Tells inside k lines no_more
  tells_none inside k lines = record { named = tt; all = tt; tell = refl; few = omega arith; count = refl; outside = λ shut. refl }

  tells_event : (k : ℕ) (l : ReportLine) (lines : List ReportLine) (e : JournalEvent) (g : Gathered) → IsText l.text → event_in c l.text ≡ Some e → Tells true k lines g → Tells true k (l ∷ lines) (with_event (l.steps, e) g)
  tells_event k l lines e g good is t = record {
    named = (whose l.text e is, t.named);
    all = t.all;
    tell = λ i. record { steps = l.steps; text = sym (back l.text e good is) i } ∷ t.tell i;
    few = omega (arith, t.few);
    count = ap suc t.count ∙ omega arith;
    outside = λ shut. absurd (true≢false shut);
  }

  tells_boot : (inside : Bool) (k : ℕ) (l : ReportLine) (lines : List ReportLine) (g : Gathered) → l.text ≡ line.Boot k → Tells true (suc k) lines g → Tells inside k (l ∷ lines) (with_boot l.steps g)
  tells_boot inside k l lines g is t = record {
    named = tt;
    all = (t.named, t.all);
    tell = λ i. record { steps = l.steps; text = is i } ∷ (t.tell ∙ sym (append_assoc (events_told (style_of c) g.events) (boots_told (style_of c) (suc k) g.boots) (end_told g.ending))) i;
    few = omega (arith, t.few);
    count = ap suc t.count ∙ omega arith;
    outside = λ shut. refl;
  }

  tells_end : (inside : Bool) (k : ℕ) (l : ReportLine) (lines : List ReportLine) (how : RunEnd) → l.text ≡ line.End how → Tells inside k (l ∷ lines) (with_end l.steps how)
  tells_end inside k l lines how is = record {
    named = tt;
    all = tt;
    tell = λ i. record { steps = l.steps; text = is i } ∷ [];
    few = omega arith;
    count = refl;
    outside = λ shut. refl;
  }

  by_test : (inside : Bool) (k n : ℕ) (l : ReportLine) (lines : List ReportLine) (t : Bool) → (n == k) ≡ t → l.text ≡ line.Boot n → Tells true (suc k) lines (gathered c true (suc k) lines)
      → Tells inside k (l ∷ lines) (cond t (with_boot l.steps (gathered c true (suc k) lines)) no_more)
  by_test inside k n l lines true is text more = tells_boot inside k l lines (gathered c true (suc k) lines) (text ∙ ap line.Boot (same_number n k is)) more
  by_test inside k n l lines false is text more = tells_none inside k (l ∷ lines)

  by_inside : (inside : Bool) (k : ℕ) (l : ReportLine) (lines : List ReportLine) (e : JournalEvent) → IsText l.text → event_in c l.text ≡ Some e → Tells inside k lines (gathered c inside k lines)
      → Tells inside k (l ∷ lines) (cond inside (with_event (l.steps, e) (gathered c inside k lines)) no_more)
  by_inside true k l lines e good is more = tells_event k l lines e (gathered c true k lines) good is more
  by_inside false k l lines e good is more = tells_none false k (l ∷ lines)

  by_item : (inside : Bool) (k : ℕ) (l : ReportLine) (lines : List ReportLine) (i : Item) → Says c l.text i → IsText l.text → ((inside : Bool) (k : ℕ) → Tells inside k lines (gathered c inside k lines))
      → Tells inside k (l ∷ lines) (gathered_by inside k l.steps i (λ inside k. gathered c inside k lines))
  by_item inside k l lines (a_boot n) said good more = by_test inside k n l lines (n == k) refl said (more true (suc k))
  by_item inside k l lines (an_event e) said good more = by_inside inside k l lines e good said (more inside k)
  by_item inside k l lines (an_end how) said good more = tells_end inside k l lines how said
  by_item inside k l lines nothing said good more = tells_none inside k (l ∷ lines)

  pub gathered_tells : (lines : List ReportLine) (ended : Bool) → AreLines ended lines → (inside : Bool) (k : ℕ) → Tells inside k lines (gathered c inside k lines)
  gathered_tells [] ended are inside k = tells_none inside k []
  gathered_tells (l ∷ lines) ended are inside k =
      by_item inside k l lines (item_in c l.text) (says c l.text) are.1.text (λ inside k. gathered_tells lines (is_end l.text) are.2 inside k)

-- ---- first lines

length_told : (style : Style) (es : List (ℕ × JournalEvent)) → length (events_told style es) ≡ length es
length_told style [] = refl
length_told style (e ∷ es) = ap suc (length_told style es)

-- the first lines of boots tell the first lines of them
pub first_told : (style : Style) (k m : ℕ) (boots : List Boot) (more : List ReportLine) → m ≤ lines_of boots → take m (boots_told style k boots ++ more) ≡ boots_told style k (front m boots)
first_told style k zero boots more few = refl
first_told style k (suc m) [] more few = absurd (not-suc-le-zero few)
first_told style k (suc m) (b ∷ boots) more few =
    let es = events_told style b.events in
    let n : length es ≡ length b.events = length_told style b.events in
    let rest : take (m - length es) (boots_told style (suc k) boots ++ more) ≡ boots_told style (suc k) (front (m - length b.events) boots) =
    ap (λ n. take (m - n) (boots_told style (suc k) boots ++ more)) n ∙ first_told style (suc k) (m - length b.events) boots more (omega (arith, few)) in
    ap (λ (lines : List ReportLine). line_told b.begun_at (line.Boot k) ∷ lines)
    (ap (take m) (append_assoc es (boots_told style (suc k) boots) more) ∙ take_joined m es (boots_told style (suc k) boots ++ more)
    ∙ (λ i. take-map (λ e. line_told e.0 (event_told style e.1)) m b.events i ++ rest i))

-- the first lines of a program's boots are a program's
named_taken : (c : Core) (n : ℕ) (es : List (ℕ × JournalEvent)) → AreNamed c es → AreNamed c (take n es)
named_taken c zero es named = tt
named_taken c (suc n) [] named = tt
named_taken c (suc n) (e ∷ es) named = (named.0, named_taken c n es named.1)

pub front_named : (c : Core) (n : ℕ) (boots : List Boot) → BootsAreNamed c boots → BootsAreNamed c (front n boots)
front_named c zero boots named = tt
front_named c (suc n) [] named = tt
front_named c (suc n) (b ∷ boots) named = (named_taken c n b.events named.0, front_named c (n - length b.events) boots named.1)
