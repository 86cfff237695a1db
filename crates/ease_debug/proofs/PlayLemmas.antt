-- One command after another.
use Rattle.std.specs.Prelude.{Result}
use Rattle.std.proofs.Common.{◌≡◌, ◌∙◌, ℕ, suc, ◌+◌, ◌<◌, List, [], ◌∷◌, drop, get_or, length, Option, refl, sym, ap, subst, arith}
use Rattle.std.proofs.Math.Seq.{drop-cons}
use Rattle.std.proofs.Common.{take_all}
use Rattle.ease_base.specs.Sink.{extended, TookFront}
use Rattle.ease_base.specs.declared.error.Failed.{Failed}
use Rattle.ease_debug.specs.Session.{Session, Did, does, does_all, text_of, first}
use Rattle.ease_debug.specs.Standing.{Held, Stands, Goes}
use Rattle.ease_debug.specs.declared.command.Command.{Command}
use Rattle.power_trace.specs.Way.{IsOnWay, way_begins, way_goes, way_fails, way_ends}
use Rattle.power_trace.specs.Writing.{Wrote, BrokeOff}
use Rattle.word_isa.specs.declared.image.Image.{Image}
use Rattle.word_machine.specs.State.{Program}

-- commands under way
pub record IsPlaying (image : Image) (p : Program) (all : List Command) (s0 : Session) (start : Option (List ℕ)) (f0 : ℕ) (left : List Command) (h : Held) (now : Option (List ℕ)) (f1 : ℕ) : Type 0 where
  pub s : Session
  pub stands : Stands h s
  pub end : (does_all image p left s).session ≡ (does_all image p all s0).session
  pub way : IsOnWay start now f0 f1 (does_all image p left s).lines (does_all image p all s0).lines

pub play_begins : (image : Image) (p : Program) (all left : List Command) (s0 : Session) (start : Option (List ℕ)) (f0 : ℕ) (h : Held) → Stands h s0 → left ≡ all → IsPlaying image p all s0 start f0 left h start f0
play_begins image p all left s0 start f0 h stands same = record {
  s = s0;
  stands = stands;
  end = ap (λ cs. (does_all image p cs s0).session) same;
  way = way_begins start start f0 f0 _ _ refl refl (ap (λ cs. (does_all image p cs s0).lines) same);
}

-- a command of the same image and program
pub goes_as : {A : Type 0} (result : Result A Failed) (image' image : Image) (p' p : Program) (c : Command) (s : Session) (g : Held) (now new : Option (List ℕ)) (f1 f2 : ℕ) → image' ≡ image → p' ≡ p
    → Goes result g now new f1 f2 (does image' p' c s) → Goes result g now new f1 f2 (does image p c s)
goes_as result image' image p' p c s g now new f1 f2 first second did =
    subst (λ q. Goes result g now new f1 f2 (does image q c s)) second (subst (λ i. Goes result g now new f1 f2 (does i p' c s)) first did)

pub play_on : (image : Image) (p : Program) (all : List Command) (s0 : Session) (start : Option (List ℕ)) (f0 : ℕ) (left : List Command) (h g : Held) (now : Option (List ℕ)) (f1 : ℕ) (c : Command) (rest : List Command) (new : Option (List ℕ)) (f2 : ℕ)
    (way : IsPlaying image p all s0 start f0 left h now f1) → left ≡ c ∷ rest → Stands g (does image p c way.s).session × Wrote now new f1 f2 (does image p c way.s).lines → IsPlaying image p all s0 start f0 rest g new f2
play_on image p all s0 start f0 left h g now f1 c rest new f2 way more did =
    let is = ap (λ cs. does_all image p cs way.s) more in
    let there = subst (λ t. IsOnWay start now f0 f1 t (does_all image p all s0).lines) (ap (λ (d : Did). d.lines) is) way.way in
    record {
      s = (does image p c way.s).session;
      stands = did.0;
      end = sym (ap (λ (d : Did). d.session) is) ∙ way.end;
      way = way_goes start now new f0 f1 f2 (does image p c way.s).lines _ _ there did.1;
    }

pub play_breaks : (image : Image) (p : Program) (all : List Command) (s0 : Session) (start : Option (List ℕ)) (f0 : ℕ) (left : List Command) (h : Held) (now : Option (List ℕ)) (f1 : ℕ) (c : Command) (rest : List Command) (new : Option (List ℕ)) (f2 : ℕ)
    (way : IsPlaying image p all s0 start f0 left h now f1) → left ≡ c ∷ rest → BrokeOff now new f1 f2 (does image p c way.s).lines → BrokeOff start new f0 f2 (does_all image p all s0).lines
play_breaks image p all s0 start f0 left h now f1 c rest new f2 way more off =
    let is = ap (λ cs. does_all image p cs way.s) more in
    let there = subst (λ t. IsOnWay start now f0 f1 t (does_all image p all s0).lines) (ap (λ (d : Did). d.lines) is) way.way in
    way_fails start now new f0 f1 f2 (does image p c way.s).lines _ _ there off

pub play_done : (image : Image) (p : Program) (all : List Command) (s0 : Session) (start : Option (List ℕ)) (f0 : ℕ) (left : List Command) (h : Held) (now : Option (List ℕ)) (f1 : ℕ)
    → IsPlaying image p all s0 start f0 left h now f1 → left ≡ [] → Stands h (does_all image p all s0).session × Wrote start now f0 f1 (does_all image p all s0).lines
play_done image p all s0 start f0 left h now f1 way none =
    let is = ap (λ cs. does_all image p cs way.s) none in
    (subst (Stands h) (sym (ap (λ (d : Did). d.session) is) ∙ way.end) way.stands, way_ends start now f0 f1 _ _ way.way (ap (λ (d : Did). d.lines) is))

pub next_command : (commands : List Command) (i : ℕ) (d : Command) → i < length commands → drop i commands ≡ get_or commands i d ∷ drop (i + 1) commands
next_command commands i d there = let one : suc i ≡ i + 1 = omega arith in drop-cons commands i d there ∙ ap (λ k. get_or commands i d ∷ drop k commands) one

-- a command by its name
pub shows_by : {A : Type 0} (result : Result A Failed) (image : Image) (p : Program) (h : Held) (old new : Option (List ℕ)) (f0 f1 : ℕ) (c named : Command) (s : Session) → c ≡ named → Goes result h old new f0 f1 (does image p named s) → Goes result h old new f0 f1 (does image p c s)
shows_by result image p h old new f0 f1 c named s is did = subst (λ (x : Command). Goes result h old new f0 f1 (does image p x s)) (sym is) did

-- what was taken whole was taken as a front
pub front_all : (old new : Option (List ℕ)) (text : List ℕ) → new ≡ extended old text → TookFront old new text
front_all old new text taken = (length text, omega arith, taken ∙ ap (extended old) (sym (take_all (length text) text (omega arith))))

-- the text of the same commands on the same image and program
pub text_same : (old : Option (List ℕ)) (image' image : Image) (p' p : Program) (cs' cs : List Command) → image' ≡ image → p' ≡ p → cs' ≡ cs
    → extended old (text_of (does_all image' p' cs' (first image'))) ≡ extended old (text_of (does_all image p cs (first image)))
text_same old image' image p' p cs' cs a b c = λ i. extended old (text_of (does_all (a i) (b i) (c i) (first (a i))))
