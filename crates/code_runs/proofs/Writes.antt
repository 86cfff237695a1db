-- Statements of a checked form write only words where they may.
use Rattle.std.specs.Prelude.{◌==◌, ◌||◌, nat_lt, ⊤, length, Option, Some, None, Result, Ok, Err, slice_get, if◌then◌else◌}
use Rattle.std.specs.List.{AllByRecursion}
use Rattle.std.proofs.Common.{◌≡◌, ◌≢◌, ◌∙◌, ℕ, zero, suc, ◌+◌, ◌^◌, ◌<◌, ◌≤◌, Bool, true, false, List, [], ◌∷◌, ◌++◌, refl, sym, ap, subst, arith, eqb-true, eq-eqb}
use Rattle.task_ast.specs.declared.limits.TheConstants.{MOST_TURNS}
use Rattle.task_ast.specs.declared.tree.Kind.{Kind}
use Rattle.task_ast.specs.declared.tree.Kind.TheVariants.{Nv, Const, Vol}
use Rattle.task_ast.specs.Pointing.{addresses, pointing, row_addresses}
use Rattle.task_ast.specs.WellFormed as form
use Rattle.task_ast.specs.WellFormed.{AreCoreStmts, IsCoreExpr, IsCoreStmt, IsTarget, IsVariable, Scope, scope_of}
use Rattle.task_ast.specs.declared.core_form.Array.{Array}
use Rattle.task_ast.specs.declared.core_form.Core.{Core}
use Rattle.task_ast.specs.declared.core_form.CoreStmt.{CoreStmt, Row_of-CoreStmt, end_of-CoreStmt, more_of-CoreStmt}
use Rattle.task_ast.specs.declared.core_form.CoreStmt.TheVariants as stmt
use Rattle.task_ast.specs.declared.core_form.CoreTarget.{CoreTarget}
use Rattle.task_ast.specs.declared.core_form.CoreTarget.TheVariants as target
use Rattle.task_ast.specs.declared.core_form.CoreTask.{CoreTask}
use Rattle.io_depend.specs.Sets.{has}
use Rattle.io_flow.specs.Written.{Covers, IsIn, IsWithin, back_of, front_of, point_is_in, point_within}
use Rattle.walk_run.specs.declared.place.Place.{Place}
use Rattle.walk_run.specs.declared.trap.Trap.{Trap}
use Rattle.walk_run.specs.declared.trap.Trap.TheVariants.{Index}
use Rattle.walk_run.specs.Plain.{Ran, and_then, chosen, done, if_found, plain_done, row_done, set_variable, trapped, turns_done}
use Rattle.walk_run.specs.PlainWrites.{Write, found_writes, next_writes, plain_writes, points, row_writes, sets, turns_writes}
use Rattle.walk_run.specs.Store.{Store, place, pointed, put_pointer, put_word, word_at, words_of}
use Rattle.walk_run.specs.StoreLaws.{rooms_stay, word_other, word_same}
use Rattle.walk_run.specs.Value.{cell_place, place_behind, place_in, target_place, through_place, value_of}
use Rattle.line_code.specs.declared.areas.Free.{Free}
use Rattle.line_code.specs.Areas.{area_at, area_of, areas_from, free_at_first, free_of}
use Rattle.line_laws.specs.Relation.{base_at, room_at}
use Rattle.layout_laws.specs.Layouts.{layout_of}
use Rattle.act_refines.specs.Does.{IsGoodWrite, IsWritable}
use Rattle.code_runs.proofs.Words.{FitsFound, IsSound, is_below, value_fits}

-- ---- arrays

-- an array that isn't constant has its own register
not_here : (f : Free) (k : Kind) (n : ℕ) → (k ≡ Const → ⊥) → (area_of f k n).base ≢ 0
not_here f Nv n kept is = absurd (omega (arith, is))
not_here f Const n kept is = kept refl
not_here f Vol n kept is = absurd (omega (arith, is))

not_constant : (f : Free) (arrays : List Array) (n : ℕ) (a : Array) → slice_get arrays n ≡ Some a → (a.kind ≡ Const → ⊥) → (area_at (areas_from f arrays) n).base ≢ 0
not_constant f [] n a there kept = absurd (cc there)
not_constant f (x ∷ arrays) zero a there kept = not_here f x.kind (length x.first) (λ is. kept (ap (λ (o : Option Array). kind_in o) (sym there) ∙ is))
  where
    kind_in : Option Array → Kind
    kind_in None = Nv
    kind_in (Some y) = y.kind
not_constant f (x ∷ arrays) (suc n) a there kept = not_constant (free_of f x.kind (length x.first)) arrays n a there kept

-- and as many words as it declares
room_here : (f : Free) (k : Kind) (n : ℕ) → (area_of f k n).room ≡ n
room_here f Nv n = refl
room_here f Const n = refl
room_here f Vol n = refl

room_is : (f : Free) (arrays : List Array) (n : ℕ) (a : Array) → slice_get arrays n ≡ Some a → (area_at (areas_from f arrays) n).room ≡ length a.first
room_is f [] n a there = absurd (cc there)
room_is f (x ∷ arrays) zero a there = room_here f x.kind (length x.first) ∙ ap long there
  where
    long : Option Array → ℕ
    long None = 0
    long (Some y) = length y.first
room_is f (x ∷ arrays) (suc n) a there = room_is (free_of f x.kind (length x.first)) arrays n a there

module _ (c : Core) (t : CoreTask) where
  abbrev scope : Scope
  scope = scope_of c t

  may_be_written : (turning : List ℕ) (a : ℕ) → form.IsWritable c.arrays turning a → base_at (layout_of c 0) a ≢ 0
  may_be_written turning a w = not_constant free_at_first c.arrays a w.found w.there w.kept

  volatile_isnt : (k : Kind) → k ≡ Vol → k ≡ Const → ⊥
  volatile_isnt k is isnt = cc

  variable_may : (turning : List ℕ) (a : ℕ) → IsVariable c.arrays turning a → IsWritable c (place a 0)
  variable_may turning a v =
      let room : room_at (layout_of c 0) a ≡ 1 = room_is free_at_first c.arrays a v.found v.there ∙ v.one in
      record { inside = omega (arith, room); written = not_constant free_at_first c.arrays a v.found v.there (λ is. volatile_isnt v.found.kind v.volatile is) }

  -- ---- stores

  sound_put : (at : Place) (w : ℕ) (x : Store) → IsWritable c at → w < 2 ^ 32 → IsSound c (pointing t) x → IsSound c (pointing t) (put_word at w x)
  sound_put at w x may fit h = record { rooms = λ a. rooms_stay at w x a ∙ h.rooms a; fits = λ a i low. by_array a i low (a == at.array) refl; within = h.within }
    where
      inside : at.index < length (words_of x at.array)
      inside = subst (λ n. at.index < n) (sym (h.rooms at.array)) may.inside

      other : (a i : ℕ) → i < room_at (layout_of c 0) a → ((a ≡ at.array) × (i ≡ at.index) → ⊥) → word_at (put_word at w x) (place a i) < 2 ^ 32
      other a i low differs = subst (λ k. k < 2 ^ 32) (sym (word_other at w x (place a i) differs)) (h.fits a i low)

      by_index : (a i : ℕ) → i < room_at (layout_of c 0) a → a ≡ at.array → (b : Bool) → (i == at.index) ≡ b → word_at (put_word at w x) (place a i) < 2 ^ 32
      by_index a i low one true two =
          let places : place a i ≡ at = λ j. place (one j) (eqb-true i at.index two j) in
          subst (λ k. k < 2 ^ 32) (sym (ap (word_at (put_word at w x)) places ∙ word_same at w x inside)) fit
      by_index a i low one false two = other a i low (λ both. absurd (cc (two, eq-eqb i at.index both.1)))

      by_array : (a i : ℕ) → i < room_at (layout_of c 0) a → (b : Bool) → (a == at.array) ≡ b → word_at (put_word at w x) (place a i) < 2 ^ 32
      by_array a i low true one = by_index a i low (eqb-true a at.array one) (i == at.index) refl
      by_array a i low false one = other a i low (λ both. absurd (cc (one, eq-eqb a at.array both.0)))

  sound_point : (p : ℕ) (at : Place) (x : Store) → has (pointing t p) at.array ≡ true → IsSound c (pointing t) x → IsSound c (pointing t) (put_pointer p at x)
  sound_point p at x there h = record { rooms = h.rooms; fits = h.fits; within = point_within (pointing t) p at x h.within there }

  -- ---- what is good

  abbrev SoundEnd : Ran → Type 0
  SoundEnd (done y) = IsSound c (pointing t) y
  SoundEnd (trapped why y) = ⊤

  abbrev AreGood : List Write → Type 0
  AreGood writes = AllByRecursion (IsGoodWrite c) writes

  good_both : (a b : List Write) → AreGood a → AreGood b → AreGood (a ++ b)
  good_both [] b h k = k
  good_both (w ∷ a) b h k = (h.0, good_both a b h.1 k)

  -- all of this of writes and where they end
  pub record Good (writes : List Write) (ran : Ran) : Type 0 where
    pub well : AreGood writes
    pub sound : SoundEnd ran

  good_then : (writes : List Write) (ran : Ran) (more : Store → List Write) (go : Store → Ran) → Good writes ran → ((y : Store) → IsSound c (pointing t) y → Good (more y) (go y)) → Good (writes ++ next_writes ran more) (and_then ran go)
  good_then writes (done y) more go h next = let k = next y h.sound in record { well = good_both writes (more y) h.well k.well; sound = k.sound }
  good_then writes (trapped why y) more go h next = record { well = good_both writes [] h.well tt; sound = tt }

  -- ---- targets

  abbrev PlaceFits : Result Place Trap → Type 0
  PlaceFits (Ok at) = IsWritable c at
  PlaceFits (Err why) = ⊤

  place_fits : (x : Store) (a k : ℕ) → IsSound c (pointing t) x → base_at (layout_of c 0) a ≢ 0 → PlaceFits (place_in x a k)
  place_fits x a k sound kept = by_room (nat_lt k (length (words_of x a))) refl
    where
      by_room : (b : Bool) → nat_lt k (length (words_of x a)) ≡ b → PlaceFits (if b then Ok (place a k) else Err Index)
      by_room true is = let low : k < length (words_of x a) = is_below k (length (words_of x a)) is in record { inside = subst (λ n. k < n) (sound.rooms a) low; written = kept }
      by_room false is = tt

  cell_fits : (x : Store) (a : ℕ) (r : Result ℕ Trap) → IsSound c (pointing t) x → base_at (layout_of c 0) a ≢ 0 → PlaceFits (cell_place x a r)
  cell_fits x a (Ok k) sound kept = place_fits x a k sound kept
  cell_fits x a (Err why) sound kept = tt

  -- each of the arrays that a pointer may point to may be written
  one_of : (turning arrays : List ℕ) (a : ℕ) → AllByRecursion (form.IsWritable c.arrays turning) arrays → has arrays a ≡ true → form.IsWritable c.arrays turning a
  one_of turning [] a all there = absurd (cc there)
  one_of turning (b ∷ arrays) a all there = by (b == a) refl there (one_of turning arrays a all.1)
    where
      by : (e : Bool) → (b == a) ≡ e → (e || has arrays a) ≡ true → (has arrays a ≡ true → form.IsWritable c.arrays turning a) → form.IsWritable c.arrays turning a
      by true is there later = subst (form.IsWritable c.arrays turning) (eqb-true b a is) all.0
      by false is there later = later there

  target_fits : (turning : List ℕ) (x : CoreTarget) (s : Store) → IsSound c (pointing t) s → IsTarget scope turning x → PlaceFits (target_place x s)
  target_fits turning (target.Cell a i) s sound may = cell_fits s a (value_of i s) sound (may_be_written turning a may.0)
  target_fits turning (target.Through p i) s sound may = by_value (value_of i s)
    where
      by_pointed : (o : Option Place) (k : ℕ) → IsWithin (pointing t p) o → PlaceFits (place_behind s o k)
      by_pointed None k inside = tt
      by_pointed (Some at) k inside = place_fits s at.array (at.index + k) sound (may_be_written turning at.array (one_of turning (pointing t p) at.array may.1 inside))

      by_value : (r : Result ℕ Trap) → PlaceFits (through_place s p r)
      by_value (Ok k) = by_pointed (pointed s p) k (sound.within p)
      by_value (Err why) = tt

  -- ---- statements

  good_assign : (r : Result Place Trap) (v : Result ℕ Trap) (s : Store) → IsSound c (pointing t) s → PlaceFits r → FitsFound v
      → Good (found_writes r (λ at. found_writes v (λ word. sets at word ∷ []))) (if_found r s (λ at. if_found v s (λ word. done (put_word at word s))))
  good_assign (Ok at) (Ok word) s sound may fit = record { well = ((may, fit), tt); sound = sound_put at word s may fit sound }
  good_assign (Ok at) (Err why) s sound may fit = record { well = tt; sound = tt }
  good_assign (Err why) v s sound may fit = record { well = tt; sound = tt }

  good_pointing : (p : ℕ) (r : Result Place Trap) (s : Store) → IsSound c (pointing t) s → IsIn (pointing t p) r → Good (found_writes r (λ at. points p at ∷ [])) (if_found r s (λ at. done (put_pointer p at s)))
  good_pointing p (Ok at) s sound there = record { well = (tt, tt); sound = sound_point p at s there sound }
  good_pointing p (Err why) s sound there = record { well = tt; sound = tt }

  good_branch : (r : Result ℕ Trap) (yes_writes no_writes : Store → List Write) (yes_done no_done : Store → Ran) (s : Store) → Good (yes_writes s) (yes_done s) → Good (no_writes s) (no_done s)
      → Good (found_writes r (λ word. chosen word yes_writes no_writes s)) (if_found r s (λ word. chosen word yes_done no_done s))
  good_branch (Ok zero) yes_writes no_writes yes_done no_done s a b = b
  good_branch (Ok (suc n)) yes_writes no_writes yes_done no_done s a b = a
  good_branch (Err why) yes_writes no_writes yes_done no_done s a b = record { well = tt; sound = tt }

  good_turns : (body : Store → Ran) (writes : Store → List Write) → ((y : Store) → IsSound c (pointing t) y → Good (writes y) (body y)) → (variable : ℕ) → IsWritable c (place variable 0)
      → (number left : ℕ) → number + left < 2 ^ 32 → (s : Store) → IsSound c (pointing t) s → Good (turns_writes body writes variable number left s) (turns_done body variable number left s)
  good_turns body writes each variable may number zero few s sound = let fit : number < 2 ^ 32 = omega (arith, few) in record { well = ((may, fit), tt); sound = sound_put (place variable 0) number s may fit sound }
  good_turns body writes each variable may number (suc left) few s sound =
      let fit : number < 2 ^ 32 = omega (arith, few) in
      let set : Store = set_variable variable number s in
      let set_sound : IsSound c (pointing t) set = sound_put (place variable 0) number s may fit sound in
      let fewer : number + 1 + left < 2 ^ 32 = omega (arith, few) in
      let rest = good_then (writes set) (body set) (turns_writes body writes variable (number + 1) left) (turns_done body variable (number + 1) left) (each set set_sound)
      (good_turns body writes each variable may (number + 1) left fewer) in
      record { well = ((may, fit), rest.well); sound = rest.sound }

  mutual
    pub statement_good : (s : CoreStmt) (level : ℕ) (branched : Bool) (turning : List ℕ) → IsCoreStmt scope level branched turning s → Covers (pointing t) (λ p. addresses p s) → (x : Store) → IsSound c (pointing t) x → Good (plain_writes s x) (plain_done s x)
    statement_good (stmt.Assign to e) level branched turning formed covers x sound = good_assign (target_place to x) (value_of e x) x sound (target_fits turning to x sound formed.1) (value_fits c (pointing t) x sound scope e formed.2.1)
    statement_good (stmt.Point p a i) level branched turning formed covers x sound = good_pointing p (cell_place x a (value_of i x)) x sound (point_is_in (pointing t) p a i x sound.within covers)
    statement_good (stmt.If' e m yes_row n no_row) level branched turning formed covers x sound =
        good_branch (value_of e x) (row_writes yes_row) (row_writes no_row) (row_done yes_row) (row_done no_row) x
        (row_good yes_row (1 + level) true turning formed.2 (λ p. front_of (row_addresses p yes_row) (row_addresses p no_row) (pointing t p) (covers p)) x sound)
        (row_good no_row (1 + level) true turning formed.3 (λ p. back_of (row_addresses p yes_row) (row_addresses p no_row) (pointing t p) (covers p)) x sound)
    statement_good (stmt.Loop' i turns m row) level branched turning formed covers x sound =
        let few : turns ≤ MOST_TURNS = formed.2 in
        good_turns (row_done row) (row_writes row) (row_good row (1 + level) branched (i ∷ turning) formed.5 covers) i (variable_may turning i formed.1) 0 turns (omega (arith, few)) x sound
    statement_good (stmt.Io k to p args) level branched turning formed covers x sound = record { well = tt; sound = sound }
    statement_good (stmt.Block' k m row) level branched turning formed covers x sound = record { well = tt; sound = sound }
    statement_good (stmt.Copy k to from n) level branched turning formed covers x sound = record { well = tt; sound = sound }

    row_good : {size : _} (row : Row_of-CoreStmt size) (level : ℕ) (branched : Bool) (turning : List ℕ) → AreCoreStmts scope level branched turning row → Covers (pointing t) (λ p. row_addresses p row) → (x : Store) → IsSound c (pointing t) x
        → Good (row_writes row x) (row_done row x)
    row_good end_of-CoreStmt level branched turning formed covers x sound = record { well = tt; sound = sound }
    row_good (more_of-CoreStmt s rest) level branched turning formed covers x sound =
        good_then (plain_writes s x) (plain_done s x) (row_writes rest) (row_done rest)
        (statement_good s level branched turning formed.0 (λ p. front_of (addresses p s) (row_addresses p rest) (pointing t p) (covers p)) x sound)
        (row_good rest level branched turning formed.1 (λ p. back_of (addresses p s) (row_addresses p rest) (pointing t p) (covers p)))
