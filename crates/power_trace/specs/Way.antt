-- What is written, with what is left to be written, is the whole text.
use Rattle.std.specs.Prelude.{Result, Ok, Err, IsErr, OnOk, OnErr}
use Rattle.std.proofs.Common.{◌≡◌, ◌∙◌, ℕ, ◌+◌, ◌≤◌, List, [], ◌++◌, length, take, Option, Some, None, refl, sym, ap, subst, append_assoc, append-nil, length-append, arith}
use Rattle.std.proofs.Math.Seq.{take-append-add}
use Rattle.std.proofs.lemmas.List.{take-append-le}
use Rattle.ease_base.specs.Count.{HasRisen}
use Rattle.ease_base.specs.Sink.{extended, TookFront}
use Rattle.ease_base.specs.declared.error.Failed.{Failed}
use Rattle.power_trace.specs.Writing.{Wrote, BrokeOff, Writes}

-- the sink took what is written, no write failed, and what is written and what is left are the whole
pub record IsOnWay (start now : Option (List ℕ)) (faults_before faults : ℕ) (left whole : List ℕ) : Type 0 where
  pub written : List ℕ
  pub taken : now ≡ extended start written
  pub parts : whole ≡ written ++ left
  pub steady : faults ≡ faults_before

pub extended_more : (taken : Option (List ℕ)) (a b : List ℕ) → extended (extended taken a) b ≡ extended taken (a ++ b)
extended_more None a b = refl
extended_more (Some taken) a b = ap Some (append_assoc taken a b)

extended_none : (taken : Option (List ℕ)) → taken ≡ extended taken []
extended_none None = refl
extended_none (Some taken) = ap Some (sym (append-nil taken))

-- at the beginning
pub way_begins : (start now : Option (List ℕ)) (faults_before faults : ℕ) (left whole : List ℕ) → now ≡ start → faults ≡ faults_before → left ≡ whole → IsOnWay start now faults_before faults left whole
way_begins start now faults_before faults left whole same steady all = record { written = []; taken = same ∙ extended_none start; parts = sym all; steady = steady }

-- a piece more
pub way_goes : (start now new : Option (List ℕ)) (f0 f1 f2 : ℕ) (piece left whole : List ℕ)
    → IsOnWay start now f0 f1 (piece ++ left) whole → Wrote now new f1 f2 piece → IsOnWay start new f0 f2 left whole
way_goes start now new f0 f1 f2 piece left whole way wrote = record {
  written = way.written ++ piece;
  taken = wrote.0 ∙ ap (λ t. extended t piece) way.taken ∙ extended_more start way.written piece;
  parts = way.parts ∙ sym (append_assoc way.written piece left);
  steady = wrote.1 ∙ way.steady;
}

pub front_of : (start now new : Option (List ℕ)) (f0 f1 : ℕ) (piece left whole : List ℕ) → IsOnWay start now f0 f1 (piece ++ left) whole → TookFront now new piece → TookFront start new whole
front_of start now new f0 f1 piece left whole way front =
    let n = front.0 in
    let within : n ≤ length piece = front.1 in
    let size : length whole ≡ length way.written + (length piece + length left) = ap length way.parts ∙ length-append way.written (piece ++ left) ∙ ap (λ k. length way.written + k) (length-append piece left) in
    let cut : take (length way.written + n) whole ≡ way.written ++ take n piece =
    ap (take (length way.written + n)) way.parts ∙ take-append-add way.written (piece ++ left) n ∙ ap (λ t. way.written ++ t) (take-append-le n piece left within) in
    let taken : new ≡ extended start (way.written ++ take n piece) = front.2 ∙ ap (λ t. extended t (take n piece)) way.taken ∙ extended_more start way.written (take n piece) in
    (length way.written + n, omega (arith, size, within), taken ∙ ap (extended start) (sym cut))

-- a write that fails
pub way_fails : (start now new : Option (List ℕ)) (f0 f1 f2 : ℕ) (piece left whole : List ℕ)
    → IsOnWay start now f0 f1 (piece ++ left) whole → BrokeOff now new f1 f2 piece → BrokeOff start new f0 f2 whole
way_fails start now new f0 f1 f2 piece left whole way wrote =
    (front_of start now new f0 f1 piece left whole way wrote.0, subst (λ f. HasRisen f f2) way.steady wrote.1, subst (λ f. f ≤ f2) way.steady wrote.2)

-- all is written
pub way_ends : (start now : Option (List ℕ)) (f0 f1 : ℕ) (left whole : List ℕ) → IsOnWay start now f0 f1 left whole → left ≡ [] → Wrote start now f0 f1 whole
way_ends start now f0 f1 left whole way none =
    (way.taken ∙ ap (extended start) (sym (way.parts ∙ ap (λ l. way.written ++ l) none ∙ append-nil way.written)), way.steady)

-- what `send_all` says, in one
pub sent : (result : Result (Unit {0}) Failed) (old new : Option (List ℕ)) (f0 f1 : ℕ) (piece text : List ℕ)
    → OnOk result (new ≡ extended old piece) → TookFront old new piece → OnErr result (HasRisen f0 f1) → f0 ≤ f1 → OnOk result (f1 ≡ f0) → piece ≡ text
    → Writes result old new f0 f1 text
sent (Ok x) old new f0 f1 piece text whole front failed rose steady is = (whole ∙ ap (extended old) is, steady)
sent (Err e) old new f0 f1 piece text whole front failed rose steady is = (subst (TookFront old new) is front, failed, rose)

-- an answer that is an error
pub broke : {A : Type 0} (result : Result A Failed) (old new : Option (List ℕ)) (f0 f1 : ℕ) (text : List ℕ) → IsErr result → BrokeOff old new f0 f1 text → Writes result old new f0 f1 text
broke (Ok x) old new f0 f1 text failed off = cc
broke (Err e) old new f0 f1 text failed off = off

-- equal texts are written alike
pub written_as : {A : Type 0} (result : Result A Failed) (old new : Option (List ℕ)) (f0 f1 : ℕ) (piece text : List ℕ)
    → Writes result old new f0 f1 piece → piece ≡ text → Writes result old new f0 f1 text
written_as result old new f0 f1 piece text writes same = subst (Writes result old new f0 f1) same writes
