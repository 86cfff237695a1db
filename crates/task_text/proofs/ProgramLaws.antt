-- A program that is read is in the grammar, and one in the grammar is read.
use Rattle.std.proofs.Common.{◌≡◌, ℕ, ◌<◌, true, false, eqb, List, [], ◌∷◌, ◌++◌, length, Err, refl, sym, ap, subst, ◌∙◌, arith, ◌⊎◌, inl, inr, append-nil}
use Rattle.std.proofs.lemmas.Bool.{cond-true, cond-false, cases_Bool, eqb-true, eqb-false, ne_eqb}
use Rattle.ease_base.specs.declared.place.Pos.{Pos}
use Rattle.task_ast.specs.declared.tree.Task.{Task}
use Rattle.task_ast.specs.declared.tree.Program.{Program}
use Rattle.task_tokens.specs.declared.token.Keyword.TheVariants as keyword
use Rattle.task_tokens.specs.declared.token.Token.{Token}
use Rattle.task_text.specs.Forms.{reserved, AreAll}
use Rattle.task_text.specs.Grammar.{IsDecl, IsTask, IsProgram}
use Rattle.task_text.specs.Reading.{Found, found, begins_reserved, begins_decl, is_empty}
use Rattle.task_text.specs.ReadingDecl.{decl_at}
use Rattle.task_text.specs.ReadingProgram.{task_at, decls_at, tasks_at, whole, program_at}
use Rattle.task_text.proofs.TokenLaws.{not_found, same_found, bind_found}
use Rattle.task_text.proofs.Offs.{bind-at}
use Rattle.task_text.proofs.Many.{many-sound, many-complete, NoElse}
use Rattle.task_text.proofs.DeclLaws.{decl-sound, decl-complete, declarations}
use Rattle.task_text.proofs.TaskLaws.{task-sound, task-complete, tasks}

some-tasks : (p : Program) (ts us : List Token) (q : Program) → whole p ts ≡ found q us → (eqb (length p.tasks) 0 ≡ true) ⊎ (eqb (length p.tasks) 0 ≡ false) → (eqb (length ts) 0 ≡ true) ⊎ (eqb (length ts) 0 ≡ false) → (0 < length p.tasks) × (ts ≡ []) × (p ≡ q)
some-tasks p ts us q h (inl none) end = absurd (not_found q us ts (sym (cond-true (is_empty p.tasks) (Err ts) _ none) ∙ h))
some-tasks p ts us q h (inr some) (inr more) = absurd (not_found q us ts (sym (cond-false (is_empty p.tasks) (Err ts) _ some ∙ cond-false (is_empty ts) (found p ts) (Err ts) more) ∙ h))
some-tasks p ts us q h (inr some) (inl end) =
    let e = sym (cond-false (is_empty p.tasks) (Err ts) _ some ∙ cond-true (is_empty ts) (found p ts) (Err ts) end) ∙ h in
    (let k = eqb-false (length p.tasks) 0 some in omega arith, empty ts (eqb-true (length ts) 0 end), ap (λ (f : Found Program). f.value) (same_found (record { value = p; rest = ts }) q us e)) where
      empty : (ts : List Token) → length ts ≡ 0 → ts ≡ []
      empty [] h = refl
      empty (t ∷ ts) h = absurd (let k : ⊥ = omega arith in k)

pub program-sound : (ts us : List Token) (p : Program) → program_at ts ≡ found p us → IsProgram p ts
unfolding program_at
program-sound ts us p h =
    let ds = bind_found (decls_at ts) _ p us h in
    let all = bind_found (tasks_at ds.0.rest) _ p us ds.2 in
    let d = many-sound IsDecl begins_decl decl_at decl-sound (length ts) ts ds.0.rest ds.0.value ds.1 in
    let t = many-sound IsTask (begins_reserved keyword.Task) task_at task-sound (length ds.0.rest) ds.0.rest all.0.rest all.0.value all.1 in
    let made : Program = record { decls = ds.0.value; tasks = all.0.value } in
    let w = some-tasks made all.0.rest us p all.2 (cases_Bool (eqb (length all.0.value) 0)) (cases_Bool (eqb (length all.0.rest) 0)) in
    subst (λ (q : Program). IsProgram q ts) w.2 (record {
      front = d.front;
      back = t.front;
      whole = d.split ∙ ap (λ xs. d.front ++ xs) (t.split ∙ ap (λ xs. t.front ++ xs) w.1 ∙ append-nil t.front);
      decls = d.fits;
      tasks = t.fits;
      some = w.0;
    })

-- tasks begin with `task`, where there are some
tasks-begin : (G : List Token → Type 0) → ((at : Pos) (us : List Token) → G (reserved keyword.Task at ∷ us)) → (xs : List Task) (tokens : List Token) → AreAll IsTask xs tokens → 0 < length xs → G tokens
tasks-begin G h [] tokens k some = absurd (let k : ⊥ = omega arith in k)
tasks-begin G h (t ∷ ts) tokens (front, back, w, (at, a, b, v, word, more), others) some =
    subst G (sym (w ∙ ap (λ xs. xs ++ back) (v ∙ ap (λ xs. xs ++ b) word))) (h at (b ++ back))

not_zero : (n : ℕ) → 0 < n → eqb n 0 ≡ false
not_zero n h = ne_eqb n 0 (λ e. let k : ⊥ = omega arith in k)

pub program-complete : (p : Program) (tokens : List Token) → IsProgram p tokens → program_at tokens ≡ found p []
unfolding program_at
program-complete p tokens h =
    let all : tasks_at h.back ≡ found p.tasks [] =
    ap tasks_at (sym (append-nil h.back)) ∙ many-complete NoElse IsTask (begins_reserved keyword.Task) task_at tasks task-complete (length (h.back ++ [])) p.tasks h.back [] h.tasks refl refl (omega arith) in
    ap program_at h.whole
    ∙ bind-at _ _ p.decls h.back (many-complete NoElse IsDecl begins_decl decl_at declarations decl-complete (length (h.front ++ h.back)) p.decls h.front h.back h.decls
    (tasks-begin (λ ts. begins_decl ts ≡ false) (λ at us. refl) p.tasks h.back h.tasks h.some) (tasks-begin NoElse (λ at us. refl) p.tasks h.back h.tasks h.some) (omega arith))
    ∙ bind-at _ _ p.tasks [] all
    ∙ cond-false (is_empty p.tasks) (Err []) _ (not_zero (length p.tasks) h.some)
