-- What each write of a part keeps, the run of the part keeps.
use Rattle.std.proofs.Common.{◌≡◌, ℕ, zero, suc, ◌+◌, List, [], ◌∷◌, Option, Some, None, Result, Ok, Err, refl, subst, sym}
use Rattle.std.specs.List.{AllByRecursion}
use Rattle.task_ast.specs.declared.core_form.CoreExpr.{CoreExpr}
use Rattle.task_ast.specs.declared.core_form.CoreTarget.{CoreTarget}
use Rattle.task_ast.specs.declared.core_form.CoreTarget.TheVariants as target
use Rattle.task_ast.specs.declared.core_form.CoreEnd.{CoreEnd}
use Rattle.task_ast.specs.declared.core_form.CoreEnd.TheVariants as end
use Rattle.task_ast.specs.declared.core_form.CoreStmt.{CoreStmt, Row_of-CoreStmt, end_of-CoreStmt, more_of-CoreStmt}
use Rattle.task_ast.specs.declared.core_form.CoreStmt.TheVariants as stmt
use Rattle.task_ast.specs.declared.core_form.CoreExit.{CoreExit, end_of-CoreExit, more_of-CoreExit}
use Rattle.task_ast.specs.declared.core_form.CoreExit.TheVariants as exit
use Rattle.walk_run.specs.declared.trap.Trap.{Trap}
use Rattle.walk_run.specs.declared.place.Place.{Place}
use Rattle.walk_run.specs.declared.walked.EarlyEnd.{EarlyEnd}
use Rattle.walk_run.specs.declared.walked.EarlyEnd.TheVariants as early
use Rattle.walk_run.specs.Store.{Store, IsInside, place, pointed, word_at, put_word, put_pointer}
use Rattle.walk_run.specs.Value.{value_of, cell_place, target_place, end_place, with_room}
use Rattle.walk_run.specs.Plain.{Ran, done, trapped, store_left, if_found, and_then, chosen, set_variable, turns_done, plain_done, row_done}
use Rattle.walk_run.specs.Walk.{Onward, move_words, on_found, from_ran, value_walk, branch_walk, each_valued, with_reading, call_walk, end_walk, room_walk, copy_walk, statement_walk, row_walk, body_walk, exit_walk}
use Rattle.walk_run.proofs.Inside.{cell_inside, cell_array, through_array, pointed_place}

-- the tasks to which an exit may lead
abbrev pub LeadsBy : (Leads : ℕ → Type 0) → CoreExit → Type 0
LeadsBy Leads (exit.Next t) = Leads t
LeadsBy Leads exit.Stop = Leads 0
LeadsBy Leads (exit.Choose' c u (more_of-CoreExit a end_of-CoreExit) v (more_of-CoreExit b end_of-CoreExit)) = LeadsBy Leads a × LeadsBy Leads b

-- What writes to these arrays keep, and pointers into those to which each may point.
pub record Kept (P : Store → Type 0) (Writes : ℕ → Type 0) (Points : (pointer array : ℕ) → Type 0) : Type 0 where
  pub word : (at : Place) (w : ℕ) (s : Store) → Writes at.array → P s → P (put_word at w s)
  pub pointer : (p : ℕ) (at : Place) (s : Store) → Points p at.array → IsInside s at → P s → P (put_pointer p at s)
  pub pointing : (p : ℕ) (at : Place) (s : Store) → pointed s p ≡ Some at → P s → Points p at.array

module _ (Writes : ℕ → Type 0) (Points : (pointer array : ℕ) → Type 0) where
  -- each array that a target may be in may be written
  abbrev pub MayPut : CoreTarget → Type 0
  MayPut (target.Cell array i) = Writes array
  MayPut (target.Through p i) = (array : ℕ) → Points p array → Writes array

  abbrev pub MayPutReading : Option CoreTarget → Type 0
  MayPutReading None = Unit {0}
  MayPutReading (Some x) = MayPut x

  -- and each that a destination may be in
  abbrev pub MayMove : CoreEnd → Type 0
  MayMove (end.Cell array i) = Writes array
  MayMove (end.Pointer p) = (array : ℕ) → Points p array → Writes array

  abbrev mutual
    -- a statement writes these arrays alone, and makes pointers point to those alone
    pub May : CoreStmt → Type 0
    May (stmt.Assign x e) = MayPut x
    May (stmt.Point p array i) = Points p array
    May (stmt.If' c m yes_row n no_row) = MayAll yes_row × MayAll no_row
    May (stmt.Loop' variable turns m row) = Writes variable × MayAll row
    May (stmt.Io site x p args) = MayPutReading x
    May (stmt.Block' site m row) = MayAll row
    May (stmt.Copy site to from n) = MayMove to

    pub MayAll : {n : _} → Row_of-CoreStmt n → Type 0
    MayAll end_of-CoreStmt = Unit {0}
    MayAll (more_of-CoreStmt s rest) = May s × MayAll rest

module _ (P : Store → Type 0) (Writes : ℕ → Type 0) (Points : (pointer array : ℕ) → Type 0) (kept : Kept P Writes Points) where
  -- a place of a target may be written
  target_writes : (x : CoreTarget) → MayPut Writes Points x → (s : Store) (at : Place) → target_place x s ≡ Ok at → P s → Writes at.array
  target_writes (target.Cell array i) may s at is h = subst Writes (sym (cell_array s array (value_of i s) at is)) may
  target_writes (target.Through p i) may s at is h =
      let found = through_array s p (value_of i s) at is in
      subst Writes (sym found.2) (may found.0.array (kept.pointing p found.0 s found.1 h))

  end_writes : (e : CoreEnd) → MayMove Writes Points e → (s : Store) (at : Place) → end_place e s ≡ Ok at → P s → Writes at.array
  end_writes (end.Cell array i) may s at is h = subst Writes (sym (cell_array s array (value_of i s) at is)) may
  end_writes (end.Pointer p) may s at is h = may at.array (kept.pointing p at s (pointed_place (pointed s p) at is) h)

  -- moved words
  pub moves_keep : (n : ℕ) (to from : Place) (s : Store) → Writes to.array → P s → P (move_words n to from s)
  moves_keep zero to from s writes h = h
  moves_keep (suc n) to from s writes h = moves_keep n _ _ _ writes (kept.word to (word_at s from) s writes h)

  found_keeps : {A : Type 0} (r : Result A Trap) (s : Store) (go : A → Ran) → P s → ((x : A) → r ≡ Ok x → P (store_left (go x))) → P (store_left (if_found r s go))
  found_keeps (Ok x) s go h k = k x refl
  found_keeps (Err trap) s go h k = h

  then_keeps : (r : Ran) (go : Store → Ran) → P (store_left r) → ((s : Store) → P s → P (store_left (go s))) → P (store_left (and_then r go))
  then_keeps (done s) go h k = k s h
  then_keeps (trapped trap s) go h k = h

  chosen_keeps : (word : ℕ) (s : Store) (f g : Store → Ran) → P (store_left (f s)) → P (store_left (g s)) → P (store_left (chosen word f g s))
  chosen_keeps zero s f g yes_keeps no_keeps = no_keeps
  chosen_keeps (suc n) s f g yes_keeps no_keeps = yes_keeps

  turns_keep : (body : Store → Ran) → ((s : Store) → P s → P (store_left (body s))) → (variable number left : ℕ) → Writes variable → (s : Store) → P s
      → P (store_left (turns_done body variable number left s))
  turns_keep body k variable number zero writes s h = kept.word (place variable 0) number s writes h
  turns_keep body k variable number (suc left) writes s h =
      let set = set_variable variable number s in
      then_keeps (body set) (turns_done body variable (number + 1) left) (k set (kept.word (place variable 0) number s writes h)) (turns_keep body k variable (number + 1) left writes)

  mutual
    -- what a statement without sites keeps, at a trap too
    pub plain_keeps : (s : CoreStmt) → May Writes Points s → (store : Store) → P store → P (store_left (plain_done s store))
    plain_keeps (stmt.Assign x e) may store h =
        found_keeps (target_place x store) store _ h (λ at is. found_keeps (value_of e store) store _ h (λ word _. kept.word at word store (target_writes x may store at is h) h))
    plain_keeps (stmt.Point p array i) may store h =
        found_keeps (cell_place store array (value_of i store)) store _ h (λ at is.
        kept.pointer p at store (subst (Points p) (sym (cell_array store array (value_of i store) at is)) may) (cell_inside store array (value_of i store) at is) h)
    plain_keeps (stmt.If' c m yes_row n no_row) may store h =
        found_keeps (value_of c store) store _ h (λ word _. chosen_keeps word store (row_done yes_row) (row_done no_row) (row_keeps yes_row may.0 store h) (row_keeps no_row may.1 store h))
    plain_keeps (stmt.Loop' variable turns m row) may store h = turns_keep (row_done row) (row_keeps row may.1) variable 0 turns may.0 store h
    plain_keeps (stmt.Io site x p args) may store h = h
    plain_keeps (stmt.Block' site m row) may store h = h
    plain_keeps (stmt.Copy site to from n) may store h = h

    row_keeps : {n : _} (row : Row_of-CoreStmt n) → MayAll Writes Points row → (store : Store) → P store → P (store_left (row_done row store))
    row_keeps end_of-CoreStmt may store h = h
    row_keeps (more_of-CoreStmt s rest) may store h = then_keeps (plain_done s store) (row_done rest) (plain_keeps s may.0 store h) (row_keeps rest may.1)

  -- what goes on well from each store that has what is kept
  module _ {W : Type 0} (halt : EarlyEnd → Store → W) (Q : W → Type 0) (halts : (why : EarlyEnd) (s : Store) → P s → Q (halt why s)) where
    abbrev pub Good : Onward W → Type 0
    Good go = (s : Store) (readings : List ℕ) → P s → Q (go s readings)

    found_good : {A : Type 0} (r : Result A Trap) (go : A → Onward W) (s : Store) (readings : List ℕ) → P s → ((x : A) → r ≡ Ok x → Q (go x s readings)) → Q (on_found halt r go s readings)
    found_good (Ok x) go s readings h k = k x refl
    found_good (Err trap) go s readings h k = halts (early.Trapped trap) s h

    ran_good : (r : Ran) (go : Onward W) (readings : List ℕ) → P (store_left r) → Good go → Q (from_ran halt r go readings)
    ran_good (done s) go readings h k = k s readings h
    ran_good (trapped trap s) go readings h k = halts (early.Trapped trap) s h

    value_good : (e : CoreExpr) (go : ℕ → Onward W) → ((w : ℕ) → Good (go w)) → Good (value_walk halt e go)
    value_good e go k s readings h = found_good (value_of e s) go s readings h (λ w _. k w s readings h)

    chosen_good : (word : ℕ) (a b : Onward W) → Good a → Good b → Good (chosen word a b)
    chosen_good zero a b yes_good no_good = no_good
    chosen_good (suc n) a b yes_good no_good = yes_good

    branch_good : (c : CoreExpr) (a b : Onward W) → Good a → Good b → Good (branch_walk halt c a b)
    branch_good c a b yes_good no_good = value_good c _ (λ word. chosen_good word a b yes_good no_good)

    values_good : (es : List CoreExpr) (go : Onward W) → Good go → Good (each_valued halt es go)
    values_good [] go k = k
    values_good (e ∷ es) go k = value_good e _ (λ word. values_good es go k)

    reading_good : (go : ℕ → Onward W) → ((r : ℕ) → Good (go r)) → Good (with_reading halt go)
    reading_good go k s [] h = halts early.NoReading s h
    reading_good go k s (r ∷ readings) h = k r s readings h

    call_good : (x : Option CoreTarget) (args : List CoreExpr) (go : Onward W) → MayPutReading Writes Points x → Good go → Good (call_walk halt x args go)
    call_good None args go may k s readings h = values_good args _ (reading_good _ (λ r. k)) s readings h
    call_good (Some x) args go may k s readings h =
        found_good (target_place x s) _ s readings h (λ at is.
        let writes = target_writes x may s at is h in
        values_good args _ (reading_good _ (λ r after more g. k (put_word at r after) more (kept.word at r after writes g))) s readings h)

    room_good : (at : Place) (n : ℕ) (go : Onward W) → Good go → Good (room_walk halt at n go)
    room_good at n go k s readings h = found_good (with_room s at n) _ s readings h (λ _ _. k s readings h)

    end_good : (e : CoreEnd) (go : Place → Onward W) → ((at : Place) → Good (go at)) → Good (end_walk halt e go)
    end_good e go k s readings h = found_good (end_place e s) go s readings h (λ at _. k at s readings h)

    copy_good : (to from : CoreEnd) (words : CoreExpr) (go : Onward W) → MayMove Writes Points to → Good go → Good (copy_walk halt to from words go)
    copy_good to from words go may k s readings h =
        found_good (end_place to s) _ s readings h (λ t is.
        let writes = end_writes to may s t is h in
        end_good from _ (λ f. value_good words _ (λ n. room_good t n _ (room_good f n _ (λ after more g. k (move_words n t f after) more (moves_keep n t f after writes g))))) s readings h)

    mutual
      pub statement_good : (s : CoreStmt) → May Writes Points s → (go : Onward W) → Good go → Good (statement_walk halt s go)
      statement_good (stmt.Assign x e) may go k store readings h = ran_good (plain_done (stmt.Assign x e) store) go readings (plain_keeps (stmt.Assign x e) may store h) k
      statement_good (stmt.Point p array i) may go k store readings h = ran_good (plain_done (stmt.Point p array i) store) go readings (plain_keeps (stmt.Point p array i) may store h) k
      statement_good (stmt.If' c m yes_row n no_row) may go k store readings h = branch_good c _ _ (row_good yes_row may.0 go k) (row_good no_row may.1 go k) store readings h
      statement_good (stmt.Loop' variable turns m row) may go k store readings h =
          ran_good (turns_done (row_done row) variable 0 turns store) go readings (turns_keep (row_done row) (row_keeps row may.1) variable 0 turns may.0 store h) k
      statement_good (stmt.Io site x p args) may go k store readings h = call_good x args go may k store readings h
      statement_good (stmt.Block' site m row) may go k store readings h = row_good row may go k store readings h
      statement_good (stmt.Copy site to from words) may go k store readings h = copy_good to from words go may k store readings h

      row_good : {n : _} (row : Row_of-CoreStmt n) → MayAll Writes Points row → (go : Onward W) → Good go → Good (row_walk halt row go)
      row_good end_of-CoreStmt may go k = k
      row_good (more_of-CoreStmt s rest) may go k = statement_good s may.0 _ (row_good rest may.1 go k)

    pub body_good : (body : List CoreStmt) → AllByRecursion (May Writes Points) body → (go : Onward W) → Good go → Good (body_walk halt body go)
    body_good [] may go k = k
    body_good (s ∷ rest) may go k = statement_good s may.0 _ (body_good rest may.1 go k)

    pub exit_good : (Leads : ℕ → Type 0) (e : CoreExit) → LeadsBy Leads e → (go : ℕ → Onward W) → ((t : ℕ) → Leads t → Good (go t)) → Good (exit_walk halt e go)
    exit_good Leads (exit.Next t) leads go k = k t leads
    exit_good Leads exit.Stop leads go k = k 0 leads
    exit_good Leads (exit.Choose' c u (more_of-CoreExit a end_of-CoreExit) v (more_of-CoreExit b end_of-CoreExit)) leads go k =
        branch_good c _ _ (exit_good Leads a leads.0 go k) (exit_good Leads b leads.1 go k)
