-- Steps one after another, up to and with one that stops.
use Rattle.std.specs.Prelude.{if◌then◌else◌, ◌==◌, ◌&&◌, ◌||◌, not}
use Rattle.std.proofs.Common.{◌≡◌, ◌∙◌, ℕ, suc, ◌<◌, ◌≤◌, Bool, true, false, List, [], ◌∷◌, ◌++◌, Option, refl, sym, ap, subst, arith}
use Rattle.std.proofs.lemmas.Bool.Decides.{nat_tests}
use Rattle.ease_debug.specs.Session.{Session, Did, nothing, and_then, going, stops, one_step, goes_on, is_full}
use Rattle.ease_debug.specs.Standing as held
use Rattle.ease_debug.specs.Standing.{Held, Stands, Steps, Goes}
use Rattle.ease_debug.specs.declared.stop.Stop.{Stop}
use Rattle.power_trace.specs.Way.{IsOnWay, way_begins, way_goes, way_fails, way_ends}
use Rattle.power_trace.specs.Writing.{Wrote, BrokeOff}
use Rattle.word_isa.specs.declared.image.Image.{Image}
use Rattle.word_machine.specs.Runs.{is_running}
use Rattle.word_machine.specs.State.{Program}

-- what the debugger tests is what the session's definition tests
pub goes_on_same : (h : Held) (s : Session) → Stands h s → held.goes_on h ≡ goes_on s
goes_on_same h s stands = λ i. is_running (stands.ending i) && not (stands.spent i)

pub is_full_same : (h : Held) (s : Session) → Stands h s → held.is_full h ≡ is_full s
is_full_same h s stands = λ i. (stands.steps i == 4194304) || ((stands.state i).clock == 4294967295)

-- steps under way
pub record IsGoing (image : Image) (stop : Stop) (p : Program) (most : ℕ) (s0 : Session) (start : Option (List ℕ)) (f0 left : ℕ) (h : Held) (now : Option (List ℕ)) (f1 : ℕ) : Type 0 where
  pub s : Session
  pub stands : Stands h s
  pub end : (going image stop p left s).session ≡ (going image stop p most s0).session
  pub way : IsOnWay start now f0 f1 (going image stop p left s).lines (going image stop p most s0).lines

pub go_begins : (image : Image) (stop : Stop) (p : Program) (most : ℕ) (s0 : Session) (start : Option (List ℕ)) (f0 left : ℕ) (h : Held) → Stands h s0 → left ≡ most → IsGoing image stop p most s0 start f0 left h start f0
go_begins image stop p most s0 start f0 left h stands all = record {
  s = s0;
  stands = stands;
  end = ap (λ n. (going image stop p n s0).session) all;
  way = way_begins start start f0 f0 _ _ refl refl (ap (λ n. (going image stop p n s0).lines) all);
}

going_more : (image : Image) (stop : Stop) (p : Program) (m : ℕ) (s : Session)
    → going image stop p (suc m) s ≡ (if not (goes_on s) then nothing s else if is_full s then nothing (record s { spent = true })
    else if stops image stop p s.state then one_step image p s else and_then (one_step image p s) (going image stop p m))
unfolding going
going_more image stop p m s = refl

going_none : (image : Image) (stop : Stop) (p : Program) (s : Session) → going image stop p 0 s ≡ nothing s
unfolding going
going_none image stop p s = refl

-- where what is left is this, it is done
ends_with : (image : Image) (stop : Stop) (p : Program) (most : ℕ) (s0 : Session) (start : Option (List ℕ)) (f0 left : ℕ) (h g : Held) (now : Option (List ℕ)) (f1 : ℕ) (t : Session) (way : IsGoing image stop p most s0 start f0 left h now f1)
    → going image stop p left way.s ≡ nothing t → Stands g t → Stands g (going image stop p most s0).session × Wrote start now f0 f1 (going image stop p most s0).lines
ends_with image stop p most s0 start f0 left h g now f1 t way is stands =
    (subst (Stands g) (sym (ap (λ (d : Did). d.session) is) ∙ way.end) stands, way_ends start now f0 f1 _ _ way.way (ap (λ (d : Did). d.lines) is))

pub go_over : (image : Image) (stop : Stop) (p : Program) (most : ℕ) (s0 : Session) (start : Option (List ℕ)) (f0 left : ℕ) (h : Held) (now : Option (List ℕ)) (f1 m : ℕ)
    → IsGoing image stop p most s0 start f0 left h now f1 → left ≡ suc m → held.goes_on h ≡ false → Stands h (going image stop p most s0).session × Wrote start now f0 f1 (going image stop p most s0).lines
go_over image stop p most s0 start f0 left h now f1 m way more over =
    let stopped : goes_on way.s ≡ false = sym (goes_on_same h way.s way.stands) ∙ over in
    ends_with image stop p most s0 start f0 left h h now f1 way.s way
    (ap (λ n. going image stop p n way.s) more ∙ going_more image stop p m way.s ∙ ap (λ b. if not b then nothing way.s else if is_full way.s then nothing (record way.s { spent = true })
    else if stops image stop p way.s.state then one_step image p way.s else and_then (one_step image p way.s) (going image stop p m)) stopped) way.stands

pub go_done : (image : Image) (stop : Stop) (p : Program) (most : ℕ) (s0 : Session) (start : Option (List ℕ)) (f0 left : ℕ) (h : Held) (now : Option (List ℕ)) (f1 : ℕ)
    → IsGoing image stop p most s0 start f0 left h now f1 → left ≡ 0 → Stands h (going image stop p most s0).session × Wrote start now f0 f1 (going image stop p most s0).lines
go_done image stop p most s0 start f0 left h now f1 way none =
    ends_with image stop p most s0 start f0 left h h now f1 way.s way (ap (λ n. going image stop p n way.s) none ∙ going_none image stop p way.s) way.stands

pub spent_stands : (h g : Held) (s : Session) → Stands h s → g ≡ record h { spent = true } → Stands g (record s { spent = true })
spent_stands h g s stands is = subst (λ x. Stands x (record s { spent = true })) (sym is) (record {
  state = stands.state;
  steps = stands.steps;
  ending = stands.ending;
  trails = stands.trails;
  boot = stands.boot;
  spent = refl;
})

-- at a machine that goes on
on_branch : (image : Image) (stop : Stop) (p : Program) (m : ℕ) (s : Session) (full : Bool) → goes_on s ≡ true → is_full s ≡ full
    → going image stop p (suc m) s ≡ (if full then nothing (record s { spent = true }) else if stops image stop p s.state then one_step image p s else and_then (one_step image p s) (going image stop p m))
on_branch image stop p m s full on is =
    going_more image stop p m s
    ∙ ap (λ b. if not b then nothing s else if is_full s then nothing (record s { spent = true })
    else if stops image stop p s.state then one_step image p s else and_then (one_step image p s) (going image stop p m)) on
    ∙ ap (λ b. if b then nothing (record s { spent = true })
    else if stops image stop p s.state then one_step image p s else and_then (one_step image p s) (going image stop p m)) is

pub go_spends : (image : Image) (stop : Stop) (p : Program) (most : ℕ) (s0 : Session) (start : Option (List ℕ)) (f0 left : ℕ) (h g : Held) (now : Option (List ℕ)) (f1 m : ℕ)
    → IsGoing image stop p most s0 start f0 left h now f1 → left ≡ suc m → held.goes_on h ≡ true → held.is_full h ≡ true → g ≡ record h { spent = true }
    → Stands g (going image stop p most s0).session × Wrote start now f0 f1 (going image stop p most s0).lines
go_spends image stop p most s0 start f0 left h g now f1 m way more on full is =
    let goes : goes_on way.s ≡ true = sym (goes_on_same h way.s way.stands) ∙ on in
    let used : is_full way.s ≡ true = sym (is_full_same h way.s way.stands) ∙ full in
    ends_with image stop p most s0 start f0 left h g now f1 (record way.s { spent = true }) way
    (ap (λ n. going image stop p n way.s) more ∙ on_branch image stop p m way.s true goes used) (spent_stands h g way.s way.stands is)

-- what is left, where a step is to be done
step_branch : (image : Image) (stop : Stop) (p : Program) (most : ℕ) (s0 : Session) (start : Option (List ℕ)) (f0 left : ℕ) (h : Held) (now : Option (List ℕ)) (f1 m : ℕ) (last : Bool) (way : IsGoing image stop p most s0 start f0 left h now f1)
    → left ≡ suc m → held.goes_on h ≡ true → held.is_full h ≡ false → stops image stop p way.s.state ≡ last
    → going image stop p left way.s ≡ (if last then one_step image p way.s else and_then (one_step image p way.s) (going image stop p m))
step_branch image stop p most s0 start f0 left h now f1 m last way more on full stopping =
    let goes : goes_on way.s ≡ true = sym (goes_on_same h way.s way.stands) ∙ on in
    let room : is_full way.s ≡ false = sym (is_full_same h way.s way.stands) ∙ full in
    ap (λ n. going image stop p n way.s) more ∙ on_branch image stop p m way.s false goes room
    ∙ ap (λ b. if b then one_step image p way.s else and_then (one_step image p way.s) (going image stop p m)) stopping

append-end : (b : List ℕ) → b ≡ b ++ []
append-end [] = refl
append-end (x ∷ xs) = ap (λ t. x ∷ t) (append-end xs)

-- what is left begins with the step's lines
rest_lines : (image : Image) (stop : Stop) (p : Program) (m : ℕ) (s : Session) (last : Bool)
    → (rest : List ℕ) × ((if last then one_step image p s else and_then (one_step image p s) (going image stop p m)).lines ≡ (one_step image p s).lines ++ rest)
rest_lines image stop p m s true = ([], append-end (one_step image p s).lines)
rest_lines image stop p m s false = ((going image stop p m (one_step image p s).session).lines, refl)

pub go_breaks : (image : Image) (stop : Stop) (p : Program) (most : ℕ) (s0 : Session) (start : Option (List ℕ)) (f0 left : ℕ) (h : Held) (now : Option (List ℕ)) (f1 m : ℕ) (new : Option (List ℕ)) (f2 : ℕ) (way : IsGoing image stop p most s0 start f0 left h now f1)
    → left ≡ suc m → held.goes_on h ≡ true → held.is_full h ≡ false → BrokeOff now new f1 f2 (one_step image p way.s).lines → BrokeOff start new f0 f2 (going image stop p most s0).lines
go_breaks image stop p most s0 start f0 left h now f1 m new f2 way more on full off =
    let last = stops image stop p way.s.state in
    let rest = rest_lines image stop p m way.s last in
    let is = ap (λ (d : Did). d.lines) (step_branch image stop p most s0 start f0 left h now f1 m last way more on full refl) ∙ rest.1 in
    way_fails start now new f0 f1 f2 (one_step image p way.s).lines rest.0 _ (subst (λ t. IsOnWay start now f0 f1 t (going image stop p most s0).lines) is way.way) off

pub go_stops : (image : Image) (stop : Stop) (p : Program) (most : ℕ) (s0 : Session) (start : Option (List ℕ)) (f0 left : ℕ) (h g : Held) (now : Option (List ℕ)) (f1 m : ℕ) (new : Option (List ℕ)) (f2 : ℕ) (b : Bool) (way : IsGoing image stop p most s0 start f0 left h now f1)
    → left ≡ suc m → held.goes_on h ≡ true → held.is_full h ≡ false → (b ≡ stops image stop p way.s.state) × Stands g (one_step image p way.s).session × Wrote now new f1 f2 (one_step image p way.s).lines → b ≡ true
    → Stands g (going image stop p most s0).session × Wrote start new f0 f2 (going image stop p most s0).lines
go_stops image stop p most s0 start f0 left h g now f1 m new f2 b way more on full did last =
    let is = step_branch image stop p most s0 start f0 left h now f1 m true way more on full (sym did.0 ∙ last) in
    let there = subst (λ t. IsOnWay start now f0 f1 t (going image stop p most s0).lines) (ap (λ (d : Did). d.lines) is ∙ append-end (one_step image p way.s).lines) way.way in
    (subst (Stands g) (sym (ap (λ (d : Did). d.session) is) ∙ way.end) did.1, way_ends start new f0 f2 _ _ (way_goes start now new f0 f1 f2 (one_step image p way.s).lines [] _ there did.2) refl)

pub go_on : (image : Image) (stop : Stop) (p : Program) (most : ℕ) (s0 : Session) (start : Option (List ℕ)) (f0 left : ℕ) (h g : Held) (now : Option (List ℕ)) (f1 m : ℕ) (new : Option (List ℕ)) (f2 : ℕ) (b : Bool) (way : IsGoing image stop p most s0 start f0 left h now f1)
    → left ≡ suc m → held.goes_on h ≡ true → held.is_full h ≡ false → (b ≡ stops image stop p way.s.state) × Stands g (one_step image p way.s).session × Wrote now new f1 f2 (one_step image p way.s).lines → b ≡ false
    → IsGoing image stop p most s0 start f0 m g new f2
go_on image stop p most s0 start f0 left h g now f1 m new f2 b way more on full did last =
    let is = step_branch image stop p most s0 start f0 left h now f1 m false way more on full (sym did.0 ∙ last) in
    let there = subst (λ t. IsOnWay start now f0 f1 t (going image stop p most s0).lines) (ap (λ (d : Did). d.lines) is) way.way in
    record {
      s = (one_step image p way.s).session;
      stands = did.1;
      end = sym (ap (λ (d : Did). d.session) is) ∙ way.end;
      way = way_goes start now new f0 f1 f2 (one_step image p way.s).lines _ _ there did.2;
    }

-- a session whose limits aren't reached has room for a step
pub room_for : (a b : ℕ) → ((a == 4194304) || (b == 4294967295)) ≡ false → a ≤ 4194304 → b < 4294967296 → (a < 4194304) × (b < 4294967295)
room_for a b e within fits = (grind (arith, nat_tests), grind (arith, nat_tests))

-- a step of the same image and program
pub did_as : (image' image : Image) (p' p : Program) (stop : Stop) (s : Session) (b : Bool) (g : Held) (now new : Option (List ℕ)) (f1 f2 : ℕ) → image' ≡ image → p' ≡ p
    → (b ≡ stops image' stop p' s.state) × Stands g (one_step image' p' s).session × Wrote now new f1 f2 (one_step image' p' s).lines
    → (b ≡ stops image stop p s.state) × Stands g (one_step image p s).session × Wrote now new f1 f2 (one_step image p s).lines
did_as image' image p' p stop s b g now new f1 f2 first second did =
    subst (λ q. (b ≡ stops image stop q s.state) × Stands g (one_step image q s).session × Wrote now new f1 f2 (one_step image q s).lines) second
    (subst (λ i. (b ≡ stops i stop p' s.state) × Stands g (one_step i p' s).session × Wrote now new f1 f2 (one_step i p' s).lines) first did)

pub broke_as : (image' image : Image) (p' p : Program) (s : Session) (now new : Option (List ℕ)) (f1 f2 : ℕ) → image' ≡ image → p' ≡ p → BrokeOff now new f1 f2 (one_step image' p' s).lines → BrokeOff now new f1 f2 (one_step image p s).lines
broke_as image' image p' p s now new f1 f2 first second off = subst (λ q. BrokeOff now new f1 f2 (one_step image q s).lines) second (subst (λ i. BrokeOff now new f1 f2 (one_step i p' s).lines) first off)
