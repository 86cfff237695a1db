-- The trail of a site is what the events since the last commit say.
use Rattle.std.specs.Prelude.{if◌then◌else◌, ◌==◌}
use Rattle.std.specs.List.{list_any}
use Rattle.std.specs.Option.{option_map, unwrap_or}
use Rattle.std.proofs.Common.{◌≡◌, ◌∙◌, ℕ, Bool, true, false, List, [], ◌∷◌, ◌++◌, Option, Some, None, refl, sym, ap}
use Rattle.devices.specs.declared.event.Args.{Args}
use Rattle.devices.specs.declared.event.Event.TheVariants as the
use Rattle.ease_debug.specs.Past.{Happening, boots, shows, seals, drops, has_begun, since_border, since_commit, up_to_border, attempt, earlier, since_seal, before_look, decided, why}
use Rattle.ease_debug.specs.Standing.{trails_of}
use Rattle.ease_debug.specs.Trails.{untrodden, seen, rolled, going_again}
use Rattle.ease_debug.specs.declared.trail.Trail.{Trail}

-- whether a drop stands in these or behind the last seal before the attempt
abbrev is_dropped : ℕ → (before within : List Happening) → Bool
is_dropped k before within = list_any (drops k) (within ++ since_seal k before)

-- the trail by what stands in the attempt and before it
abbrev trail_in : ℕ → (within before all : List Happening) → Trail
trail_in k within before all = record {
  answer = decided k (list_any (seals k) before) (since_seal k before) within;
  sealed = list_any (seals k) before;
  dropped = is_dropped k before within;
  at_look = option_map (is_dropped k before) (before_look k within);
  sealed_so_far = list_any (seals k) all;
  dropped_so_far = list_any (drops k) (since_seal k all);
}

-- the trail of a site behind all that happened
pub trail_of : ℕ → List Happening → Trail
trail_of k past = trail_in k (attempt past) (earlier past) (since_commit past)

unwrap_map : (f : List Happening → Bool) (o : Option (List Happening)) (x : List Happening) → unwrap_or (option_map f o) (f x) ≡ f (unwrap_or o x)
unwrap_map f None x = refl
unwrap_map f (Some y) x = refl

-- a look
look_in : (j k : ℕ) (t : ℕ) (a u c : List Happening) (m : Bool) → (j == k) ≡ m
    → trail_in k (shows (the.Look j t) ∷ a) u (shows (the.Look j t) ∷ c) ≡ (if m then seen (the.Look j t) (trail_in k a u c) else trail_in k a u c)
unfolding decided before_look since_seal
look_in j k t a u c true e = rw e refl
look_in j k t a u c false e = rw e refl

look_out : (j k : ℕ) (t : ℕ) (c : List Happening) (m : Bool) → (j == k) ≡ m
    → trail_in k [] (shows (the.Look j t) ∷ c) (shows (the.Look j t) ∷ c) ≡ (if m then rolled (seen (the.Look j t) (trail_in k [] c c)) else trail_in k [] c c)
unfolding decided before_look since_seal
look_out j k t c true e = refl
look_out j k t c false e = refl

-- a kept
kept_in : (j k : ℕ) (v : ℕ) (a u c : List Happening) (m : Bool) → (j == k) ≡ m
    → trail_in k (shows (the.Kept j v) ∷ a) u (shows (the.Kept j v) ∷ c) ≡ (if m then seen (the.Kept j v) (trail_in k a u c) else trail_in k a u c)
unfolding decided before_look since_seal
kept_in j k v a u c true e = rw e refl
kept_in j k v a u c false e = rw e refl

kept_out : (j k : ℕ) (v : ℕ) (c : List Happening) (m : Bool) → (j == k) ≡ m
    → trail_in k [] (shows (the.Kept j v) ∷ c) (shows (the.Kept j v) ∷ c) ≡ (if m then rolled (seen (the.Kept j v) (trail_in k [] c c)) else trail_in k [] c c)
unfolding decided before_look since_seal
kept_out j k v c true e = refl
kept_out j k v c false e = refl

-- a drop
dropped_in : (j k : ℕ) (a u c : List Happening) (m : Bool) → (j == k) ≡ m
    → trail_in k (shows (the.Dropped j) ∷ a) u (shows (the.Dropped j) ∷ c) ≡ (if m then seen (the.Dropped j) (trail_in k a u c) else trail_in k a u c)
unfolding decided before_look since_seal
dropped_in j k a u c true e = rw e refl
dropped_in j k a u c false e = rw e refl

dropped_out : (j k : ℕ) (c : List Happening) (m : Bool) → (j == k) ≡ m
    → trail_in k [] (shows (the.Dropped j) ∷ c) (shows (the.Dropped j) ∷ c) ≡ (if m then rolled (seen (the.Dropped j) (trail_in k [] c c)) else trail_in k [] c c)
unfolding decided before_look since_seal
dropped_out j k c true e = rw e refl
dropped_out j k c false e = rw e refl

-- an issue
issued_in : (j k : ℕ) (p : ℕ) (args : Args) (r : ℕ) (a u c : List Happening) (m : Bool) → (j == k) ≡ m
    → trail_in k (shows (the.Issued j p args r) ∷ a) u (shows (the.Issued j p args r) ∷ c) ≡ (if m then seen (the.Issued j p args r) (trail_in k a u c) else trail_in k a u c)
unfolding decided before_look since_seal
issued_in j k p args r a u c true e = rw e (ap (λ (b : Bool). record (trail_in k a u c) { answer = going_again (list_any (seals k) u) b }) (sym (unwrap_map (is_dropped k u) (before_look k a) a)))
issued_in j k p args r a u c false e = rw e refl

issued_out : (j k : ℕ) (p : ℕ) (args : Args) (r : ℕ) (c : List Happening) (m : Bool) → (j == k) ≡ m
    → trail_in k [] (shows (the.Issued j p args r) ∷ c) (shows (the.Issued j p args r) ∷ c) ≡ (if m then rolled (seen (the.Issued j p args r) (trail_in k [] c c)) else trail_in k [] c c)
unfolding decided before_look since_seal
issued_out j k p args r c true e = refl
issued_out j k p args r c false e = refl

-- a seal
sealed_in : (j k : ℕ) (a u c : List Happening) (m : Bool) → (j == k) ≡ m
    → trail_in k (shows (the.Sealed j) ∷ a) u (shows (the.Sealed j) ∷ c) ≡ (if m then seen (the.Sealed j) (trail_in k a u c) else trail_in k a u c)
unfolding decided before_look since_seal
sealed_in j k a u c true e = rw e refl
sealed_in j k a u c false e = rw e refl

sealed_out : (j k : ℕ) (c : List Happening) (m : Bool) → (j == k) ≡ m
    → trail_in k [] (shows (the.Sealed j) ∷ c) (shows (the.Sealed j) ∷ c) ≡ (if m then rolled (seen (the.Sealed j) (trail_in k [] c c)) else trail_in k [] c c)
unfolding decided before_look since_seal
sealed_out j k c true e = rw e refl
sealed_out j k c false e = rw e refl

-- a copy
copied_in : (j k : ℕ) (from : ℕ) (to : ℕ) (n : ℕ) (a u c : List Happening) (m : Bool) → (j == k) ≡ m
    → trail_in k (shows (the.Copied j from to n) ∷ a) u (shows (the.Copied j from to n) ∷ c) ≡ (if m then seen (the.Copied j from to n) (trail_in k a u c) else trail_in k a u c)
unfolding decided before_look since_seal
copied_in j k from to n a u c true e = rw e refl
copied_in j k from to n a u c false e = rw e refl

copied_out : (j k : ℕ) (from : ℕ) (to : ℕ) (n : ℕ) (c : List Happening) (m : Bool) → (j == k) ≡ m
    → trail_in k [] (shows (the.Copied j from to n) ∷ c) (shows (the.Copied j from to n) ∷ c) ≡ (if m then rolled (seen (the.Copied j from to n) (trail_in k [] c c)) else trail_in k [] c c)
unfolding decided before_look since_seal
copied_out j k from to n c true e = refl
copied_out j k from to n c false e = refl

-- the trails behind one thing more
pub record Follows (past : List Happening) : Type 0 where
  pub begun : (trails_of past).begun ≡ has_begun past
  pub trail : (k : ℕ) → (trails_of past).trail k ≡ trail_of k past

look_follows : (j : ℕ) (t : ℕ) (past : List Happening) → Follows past → Follows (shows (the.Look j t) ∷ past)
unfolding trails_of trail_of has_begun since_border since_commit up_to_border
look_follows j t past before = record { begun = before.begun; trail = λ k. at k ∙ by k (has_begun past) refl }
  where
    at : (k : ℕ) → (trails_of (shows (the.Look j t) ∷ past)).trail k
        ≡ (if j == k then (if has_begun past then seen (the.Look j t) (trail_of k past) else rolled (seen (the.Look j t) (trail_of k past))) else trail_of k past)
    at k = λ i. if j == k then (if before.begun i then seen (the.Look j t) (before.trail k i) else rolled (seen (the.Look j t) (before.trail k i))) else before.trail k i

    by : (k : ℕ) (b : Bool) → has_begun past ≡ b
        → (if j == k then (if has_begun past then seen (the.Look j t) (trail_of k past) else rolled (seen (the.Look j t) (trail_of k past))) else trail_of k past) ≡ trail_of k (shows (the.Look j t) ∷ past)
    by k true e = rw e (sym (look_in j k t (since_border past) (up_to_border past) (since_commit past) (j == k) refl))
    by k false e = rw e (sym (look_out j k t (since_commit past) (j == k) refl))

kept_follows : (j : ℕ) (v : ℕ) (past : List Happening) → Follows past → Follows (shows (the.Kept j v) ∷ past)
unfolding trails_of trail_of has_begun since_border since_commit up_to_border
kept_follows j v past before = record { begun = before.begun; trail = λ k. at k ∙ by k (has_begun past) refl }
  where
    at : (k : ℕ) → (trails_of (shows (the.Kept j v) ∷ past)).trail k
        ≡ (if j == k then (if has_begun past then seen (the.Kept j v) (trail_of k past) else rolled (seen (the.Kept j v) (trail_of k past))) else trail_of k past)
    at k = λ i. if j == k then (if before.begun i then seen (the.Kept j v) (before.trail k i) else rolled (seen (the.Kept j v) (before.trail k i))) else before.trail k i

    by : (k : ℕ) (b : Bool) → has_begun past ≡ b
        → (if j == k then (if has_begun past then seen (the.Kept j v) (trail_of k past) else rolled (seen (the.Kept j v) (trail_of k past))) else trail_of k past) ≡ trail_of k (shows (the.Kept j v) ∷ past)
    by k true e = rw e (sym (kept_in j k v (since_border past) (up_to_border past) (since_commit past) (j == k) refl))
    by k false e = rw e (sym (kept_out j k v (since_commit past) (j == k) refl))

dropped_follows : (j : ℕ) (past : List Happening) → Follows past → Follows (shows (the.Dropped j) ∷ past)
unfolding trails_of trail_of has_begun since_border since_commit up_to_border
dropped_follows j past before = record { begun = before.begun; trail = λ k. at k ∙ by k (has_begun past) refl }
  where
    at : (k : ℕ) → (trails_of (shows (the.Dropped j) ∷ past)).trail k
        ≡ (if j == k then (if has_begun past then seen (the.Dropped j) (trail_of k past) else rolled (seen (the.Dropped j) (trail_of k past))) else trail_of k past)
    at k = λ i. if j == k then (if before.begun i then seen (the.Dropped j) (before.trail k i) else rolled (seen (the.Dropped j) (before.trail k i))) else before.trail k i

    by : (k : ℕ) (b : Bool) → has_begun past ≡ b
        → (if j == k then (if has_begun past then seen (the.Dropped j) (trail_of k past) else rolled (seen (the.Dropped j) (trail_of k past))) else trail_of k past) ≡ trail_of k (shows (the.Dropped j) ∷ past)
    by k true e = rw e (sym (dropped_in j k (since_border past) (up_to_border past) (since_commit past) (j == k) refl))
    by k false e = rw e (sym (dropped_out j k (since_commit past) (j == k) refl))

issued_follows : (j : ℕ) (p : ℕ) (args : Args) (r : ℕ) (past : List Happening) → Follows past → Follows (shows (the.Issued j p args r) ∷ past)
unfolding trails_of trail_of has_begun since_border since_commit up_to_border
issued_follows j p args r past before = record { begun = before.begun; trail = λ k. at k ∙ by k (has_begun past) refl }
  where
    at : (k : ℕ) → (trails_of (shows (the.Issued j p args r) ∷ past)).trail k
        ≡ (if j == k then (if has_begun past then seen (the.Issued j p args r) (trail_of k past) else rolled (seen (the.Issued j p args r) (trail_of k past))) else trail_of k past)
    at k = λ i. if j == k then (if before.begun i then seen (the.Issued j p args r) (before.trail k i) else rolled (seen (the.Issued j p args r) (before.trail k i))) else before.trail k i

    by : (k : ℕ) (b : Bool) → has_begun past ≡ b
        → (if j == k then (if has_begun past then seen (the.Issued j p args r) (trail_of k past) else rolled (seen (the.Issued j p args r) (trail_of k past))) else trail_of k past) ≡ trail_of k (shows (the.Issued j p args r) ∷ past)
    by k true e = rw e (sym (issued_in j k p args r (since_border past) (up_to_border past) (since_commit past) (j == k) refl))
    by k false e = rw e (sym (issued_out j k p args r (since_commit past) (j == k) refl))

sealed_follows : (j : ℕ) (past : List Happening) → Follows past → Follows (shows (the.Sealed j) ∷ past)
unfolding trails_of trail_of has_begun since_border since_commit up_to_border
sealed_follows j past before = record { begun = before.begun; trail = λ k. at k ∙ by k (has_begun past) refl }
  where
    at : (k : ℕ) → (trails_of (shows (the.Sealed j) ∷ past)).trail k
        ≡ (if j == k then (if has_begun past then seen (the.Sealed j) (trail_of k past) else rolled (seen (the.Sealed j) (trail_of k past))) else trail_of k past)
    at k = λ i. if j == k then (if before.begun i then seen (the.Sealed j) (before.trail k i) else rolled (seen (the.Sealed j) (before.trail k i))) else before.trail k i

    by : (k : ℕ) (b : Bool) → has_begun past ≡ b
        → (if j == k then (if has_begun past then seen (the.Sealed j) (trail_of k past) else rolled (seen (the.Sealed j) (trail_of k past))) else trail_of k past) ≡ trail_of k (shows (the.Sealed j) ∷ past)
    by k true e = rw e (sym (sealed_in j k (since_border past) (up_to_border past) (since_commit past) (j == k) refl))
    by k false e = rw e (sym (sealed_out j k (since_commit past) (j == k) refl))

copied_follows : (j : ℕ) (from : ℕ) (to : ℕ) (n : ℕ) (past : List Happening) → Follows past → Follows (shows (the.Copied j from to n) ∷ past)
unfolding trails_of trail_of has_begun since_border since_commit up_to_border
copied_follows j from to n past before = record { begun = before.begun; trail = λ k. at k ∙ by k (has_begun past) refl }
  where
    at : (k : ℕ) → (trails_of (shows (the.Copied j from to n) ∷ past)).trail k
        ≡ (if j == k then (if has_begun past then seen (the.Copied j from to n) (trail_of k past) else rolled (seen (the.Copied j from to n) (trail_of k past))) else trail_of k past)
    at k = λ i. if j == k then (if before.begun i then seen (the.Copied j from to n) (before.trail k i) else rolled (seen (the.Copied j from to n) (before.trail k i))) else before.trail k i

    by : (k : ℕ) (b : Bool) → has_begun past ≡ b
        → (if j == k then (if has_begun past then seen (the.Copied j from to n) (trail_of k past) else rolled (seen (the.Copied j from to n) (trail_of k past))) else trail_of k past) ≡ trail_of k (shows (the.Copied j from to n) ∷ past)
    by k true e = rw e (sym (copied_in j k from to n (since_border past) (up_to_border past) (since_commit past) (j == k) refl))
    by k false e = rw e (sym (copied_out j k from to n (since_commit past) (j == k) refl))

boot_follows : (past : List Happening) → Follows past → Follows (boots ∷ past)
unfolding trails_of trail_of has_begun since_border since_commit up_to_border decided before_look since_seal
boot_follows past before = record { begun = refl; trail = λ k. ap rolled (before.trail k) }

begin_follows : (task : ℕ) (past : List Happening) → Follows past → Follows (shows (the.Begin task) ∷ past)
unfolding trails_of trail_of has_begun since_border since_commit up_to_border decided before_look since_seal
begin_follows task past before = record { begun = refl; trail = λ k. ap rolled (before.trail k) }

commit_follows : (next : ℕ) (past : List Happening) → Follows past → Follows (shows (the.Commit next) ∷ past)
unfolding trails_of trail_of has_begun since_border since_commit up_to_border decided before_look since_seal
commit_follows next past before = record { begun = before.begun; trail = λ k. by k (has_begun past) refl }
  where
    by : (k : ℕ) (b : Bool) → has_begun past ≡ b → untrodden ≡ trail_of k (shows (the.Commit next) ∷ past)
    by k true e = rw e refl
    by k false e = rw e refl

follows : (past : List Happening) → Follows past
unfolding trails_of trail_of has_begun since_border since_commit up_to_border decided before_look since_seal
follows [] = record { begun = refl; trail = λ k. refl }
follows (boots ∷ past) = boot_follows past (follows past)
follows (shows (the.Begin task) ∷ past) = begin_follows task past (follows past)
follows (shows (the.Commit next) ∷ past) = commit_follows next past (follows past)
follows (shows (the.Look j t) ∷ past) = look_follows j t past (follows past)
follows (shows (the.Kept j v) ∷ past) = kept_follows j v past (follows past)
follows (shows (the.Dropped j) ∷ past) = dropped_follows j past (follows past)
follows (shows (the.Issued j p args r) ∷ past) = issued_follows j p args r past (follows past)
follows (shows (the.Sealed j) ∷ past) = sealed_follows j past (follows past)
follows (shows (the.Copied j from to n) ∷ past) = copied_follows j from to n past (follows past)

-- the answer of a site's trail
pub answer_is : (past : List Happening) (k : ℕ) → ((trails_of past).trail k).answer ≡ why k past
unfolding trail_of
answer_is past k = ap (λ (t : Trail). t.answer) ((follows past).trail k)
