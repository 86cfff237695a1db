-- The size, the code and the fitness of acts, by their lists.
use Rattle.std.specs.Prelude.{◌≡◌, ℕ, ◌+◌, Bool, true, false, List, ◌++◌, refl}
use Rattle.std.proofs.Common.{ap, ◌∙◌}
use Rattle.task_ast.specs.declared.core_form.CoreExpr.{CoreExpr}
use Rattle.line_code.specs.Expressions.{expr_code}
use Rattle.line_code.specs.Fitting.{IsShort}
use Rattle.line_code.specs.Sizes.{expr_size}
use Rattle.run_plan.specs.Rows.{act_row_of, act_row_shows}
use Rattle.run_plan.specs.declared.act.Act.{Act, Row_of-Act, end_of-Act, more_of-Act, items-the_row-Act}
use Rattle.run_plan.specs.declared.act.Act.TheVariants as act
use Rattle.word_code.specs.ActCode.{entry, acts_entry, tested, chosen, left_code, classed, act_code, row_code, acts_code}
use Rattle.word_code.specs.Fitting.{IsSiteNumber, IsFit, AreFitRow, AreFit}
use Rattle.word_code.specs.Frames.{Frame, site_at}
use Rattle.word_code.specs.Sizes.{act_size, row_size, acts_size}
use Rattle.word_code.specs.Tables.{keeps_code, keeps_size}

-- a row has the size, the entry, the code and the fitness of the acts that it shows
row_size_is : (f : Frame) (n : _) (row : Row_of-Act n) → row_size f row ≡ acts_size f (items-the_row-Act n row)
row_size_is f n end_of-Act = refl
row_size_is f n (more_of-Act a rest) = ap (λ (k : ℕ). act_size f a + k) (row_size_is f _ rest)

pub size_of_acts : (f : Frame) (acts : List Act) → row_size f (act_row_of acts).1 ≡ acts_size f acts
size_of_acts f acts = row_size_is f (act_row_of acts).0 (act_row_of acts).1 ∙ ap (acts_size f) (act_row_shows acts)

entry_is : (at next n : _) (row : Row_of-Act n) → entry row at next ≡ acts_entry (items-the_row-Act n row) at next
entry_is at next n end_of-Act = refl
entry_is at next n (more_of-Act a rest) = refl

pub entry_of_acts : (at next : ℕ) (acts : List Act) → entry (act_row_of acts).1 at next ≡ acts_entry acts at next
entry_of_acts at next acts = entry_is at next (act_row_of acts).0 (act_row_of acts).1 ∙ ap (λ x. acts_entry x at next) (act_row_shows acts)

row_code_is : (f : Frame) (keeps : Bool) (at next : ℕ) (n : _) (row : Row_of-Act n) → row_code f keeps row at next ≡ acts_code f keeps (items-the_row-Act n row) at next
row_code_is f keeps at next n end_of-Act = refl
row_code_is f keeps at next n (more_of-Act a rest) =
    λ i. act_code f keeps a at (entry_is (at + act_size f a) next _ rest i) ++ row_code_is f keeps (at + act_size f a) next _ rest i

pub code_of_acts : (f : Frame) (keeps : Bool) (at next : ℕ) (acts : List Act) → row_code f keeps (act_row_of acts).1 at next ≡ acts_code f keeps acts at next
code_of_acts f keeps at next acts = row_code_is f keeps at next (act_row_of acts).0 (act_row_of acts).1 ∙ ap (λ x. acts_code f keeps x at next) (act_row_shows acts)

row_fit : (f : Frame) (n : _) (row : Row_of-Act n) → AreFitRow f row ≡ AreFit f (items-the_row-Act n row)
row_fit f n end_of-Act = refl
row_fit f n (more_of-Act a rest) = ap (λ t. IsFit f a × t) (row_fit f _ rest)

pub fit_acts : (f : Frame) (acts : List Act) → AreFitRow f (act_row_of acts).1 ≡ AreFit f acts
fit_acts f acts = row_fit f (act_row_of acts).0 (act_row_of acts).1 ∙ ap (AreFit f) (act_row_shows acts)

-- a test
pub size_test : (f : Frame) (c : CoreExpr) (a b : List Act) → act_size f (act.Test c a b) ≡ expr_size c + acts_size f a + acts_size f b + 4
size_test f c a b = λ i. expr_size c + size_of_acts f a i + size_of_acts f b i + 4

pub code_test : (f : Frame) (keeps : Bool) (at next : ℕ) (c : CoreExpr) (a b : List Act) →
    let yes_at = at + expr_size c + 4 in
    let no_at = yes_at + acts_size f a in
    act_code f keeps (act.Test c a b) at next ≡ tested (expr_code f.areas c 0 at) (acts_entry a yes_at next) (acts_entry b no_at next) (acts_code f keeps a yes_at next) (acts_code f keeps b no_at next)
code_test f keeps at next c a b = λ i.
    let yes_at = at + expr_size c + 4 in
    let no_at = yes_at + size_of_acts f a i in
    tested (expr_code f.areas c 0 at) (entry_of_acts yes_at next a i) (entry_of_acts no_at next b i) (code_of_acts f keeps yes_at next a i) (code_of_acts f keeps no_at next b i)

pub fit_test : (f : Frame) (c : CoreExpr) (a b : List Act) → IsFit f (act.Test c a b) ≡ (IsShort 0 c × AreFit f a × AreFit f b)
fit_test f c a b = λ i. IsShort 0 c × fit_acts f a i × fit_acts f b i

-- a choice
pub size_choose : (f : Frame) (k : ℕ) (a b : List Act) → act_size f (act.Choose k a b) ≡ keeps_size (site_at f k) + acts_size f a + acts_size f b + 3
size_choose f k a b = λ i. keeps_size (site_at f k) + size_of_acts f a i + size_of_acts f b i + 3

pub code_choose : (f : Frame) (keeps : Bool) (at next k : ℕ) (a b : List Act) →
    let issue_at = at + keeps_size (site_at f k) + 3 in
    let keep_at = issue_at + acts_size f a in
    act_code f keeps (act.Choose k a b) at next ≡ chosen (keeps_code (site_at f k) k) (acts_entry b keep_at next) (acts_entry a issue_at next) (acts_code f false a issue_at next) (acts_code f true b keep_at next)
code_choose f keeps at next k a b = λ i.
    let issue_at = at + keeps_size (site_at f k) + 3 in
    let keep_at = issue_at + size_of_acts f a i in
    chosen (keeps_code (site_at f k) k) (entry_of_acts keep_at next b i) (entry_of_acts issue_at next a i) (code_of_acts f false issue_at next a i) (code_of_acts f true keep_at next b i)

pub fit_choose : (f : Frame) (k : ℕ) (a b : List Act) → IsFit f (act.Choose k a b) ≡ (IsSiteNumber k × AreFit f a × AreFit f b)
fit_choose f k a b = λ i. IsSiteNumber k × fit_acts f a i × fit_acts f b i

-- a block's end
pub size_leave : (f : Frame) (k : ℕ) (a : List Act) → act_size f (act.Leave k a) ≡ acts_size f a + 8
size_leave f k a = λ i. size_of_acts f a i + 8

pub code_leave : (f : Frame) (keeps : Bool) (at next k : ℕ) (a : List Act) → act_code f keeps (act.Leave k a) at next ≡ left_code k next (acts_entry a (at + 8) next) (acts_code f keeps a (at + 8) next)
code_leave f keeps at next k a = λ i. left_code k next (entry_of_acts (at + 8) next a i) (code_of_acts f keeps (at + 8) next a i)

pub fit_leave : (f : Frame) (k : ℕ) (a : List Act) → IsFit f (act.Leave k a) ≡ (IsSiteNumber k × AreFit f a)
fit_leave f k a = λ i. IsSiteNumber k × fit_acts f a i

-- a copy's classes
pub size_class : (f : Frame) (k : ℕ) (a b c : List Act) → act_size f (act.ByClass k a b c) ≡ acts_size f a + acts_size f b + acts_size f c + 12
size_class f k a b c = λ i. size_of_acts f a i + size_of_acts f b i + size_of_acts f c i + 12

pub code_class : (f : Frame) (keeps : Bool) (at next k : ℕ) (a b c : List Act) →
    let single_at = at + 12 in
    let private_at = single_at + acts_size f a in
    let rest_at = private_at + acts_size f b in
    act_code f keeps (act.ByClass k a b c) at next ≡ classed keeps k at (acts_entry a single_at next) (acts_entry b private_at next) (acts_entry c rest_at next)
    (acts_code f keeps a single_at next) (acts_code f keeps b private_at next) (acts_code f keeps c rest_at next)
code_class f keeps at next k a b c = λ i.
    let single_at = at + 12 in
    let private_at = single_at + size_of_acts f a i in
    let rest_at = private_at + size_of_acts f b i in
    classed keeps k at (entry_of_acts single_at next a i) (entry_of_acts private_at next b i) (entry_of_acts rest_at next c i)
    (code_of_acts f keeps single_at next a i) (code_of_acts f keeps private_at next b i) (code_of_acts f keeps rest_at next c i)

pub fit_class : (f : Frame) (k : ℕ) (a b c : List Act) → IsFit f (act.ByClass k a b c) ≡ (IsSiteNumber k × AreFit f a × AreFit f b × AreFit f c)
fit_class f k a b c = λ i. IsSiteNumber k × fit_acts f a i × fit_acts f b i × fit_acts f c i
