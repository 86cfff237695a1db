-- The code of acts is narrow, as long as its size, and followed to the halt behind its last commits.
use Rattle.std.specs.Prelude.{ℕ, zero, suc, ◌+◌, ◌*◌, ◌/◌, ◌%◌, ◌^◌, ◌<◌, ◌≤◌, Bool, true, false, nat_lt, List, [], ◌∷◌, ◌++◌, length, take, sum_by, Option, Some, None, IsTrue, refl}
use Rattle.std.specs.List.{AllByRecursion}
use Rattle.std.proofs.Common.{arith, rules}
use Rattle.std.proofs.lemmas.List.Sums.{sum_by-cons}
use Rattle.task_ast.specs.Readable.{IsWord, IsReadableAnn}
use Rattle.task_ast.specs.WellFormed.{IsCoreArray, IsSite, site_words}
use Rattle.task_ast.specs.declared.tree.Ann.{Ann}
use Rattle.task_ast.specs.declared.tree.Ann.TheVariants as ann
use Rattle.task_ast.specs.declared.tree.Kind.{Kind}
use Rattle.task_ast.specs.declared.tree.Kind.TheVariants.{Nv, Const, Vol}
use Rattle.task_ast.specs.declared.core_form.Array.{Array}
use Rattle.task_ast.specs.declared.core_form.CoreStmt.{CoreStmt}
use Rattle.task_ast.specs.declared.core_form.CoreStmt.TheVariants as stmt
use Rattle.task_ast.specs.declared.core_form.Site.{Site}
use Rattle.task_ast.specs.declared.core_form.Site.TheVariants as site
use Rattle.word_isa.specs.declared.instr.Instr.TheVariants.{Ldi, Mov, Add, Mul, And, Eq, Ld, St}
use Rattle.word_isa.specs.declared.parts.Scheme.{Scheme}
use Rattle.word_isa.specs.declared.parts.Scheme.TheVariants.{Undo, Bank}
use Rattle.line_code.specs.declared.areas.Placed.{Placed}
use Rattle.line_code.specs.declared.line.Line.{Line}
use Rattle.line_code.specs.Areas.{area_at, total}
use Rattle.line_code.specs.Lines.{bares}
use Rattle.word_code.specs.ActCode.{loop_code, test_code}
use Rattle.word_code.specs.Acts.{jump, load_code, count_of, seal_code, write_code}
use Rattle.word_code.specs.Beginnings.{moved_code, homes_code, homes_size, unset_code, words_code, volatile_words, volatile_count, volatile_code, level_code, level_count, home_count}
use Rattle.word_code.specs.Fitting.{IsSiteNumber, IsShortSite}
use Rattle.word_code.specs.Frames.{Frame, site_at, stride, halt_at, peripheral_number}
use Rattle.word_code.specs.Heads.{fix_code}
use Rattle.word_code.specs.Repeats.{each}
use Rattle.word_code.specs.Sizes.{seal_size, write_size}
use Rattle.word_code.specs.Tables.{own_lines, own_size, inside_code, enter_code, leave_code, keeps_code, keeps_size, branch, class_test}
use Rattle.code_places.proofs.Good.{Good, small, join, good_as, nothing}
use Rattle.code_places.proofs.LineGoods.{LiesLow}

-- ---- jumps, loops, and what makes words safe

module _ (way : List Line) where
  pub jump_good : (to : ℕ) → Good way 1 (jump to)
  jump_good to = record { long = refl; narrow = search rules; followed = search rules }

  pub branch_good : (to other : ℕ) → Good way 3 (branch to other)
  branch_good to other = record { long = refl; narrow = search rules; followed = search rules }

  pub test_good : (first second : ℕ) → Good way 4 (test_code first second)
  test_good first second = record { long = refl; narrow = search rules; followed = search rules }

  pub turns_good : (top next : ℕ) → Good way 10 (loop_code top next)
  turns_good top next = record { long = refl; narrow = search rules; followed = search rules }

  pub fix_good : (far : ℕ) → far ≤ 2048 → Good way 14 (fix_code far)
  fix_good far few =
      let low : IsTrue (nat_lt far 65536) = small far (omega (arith, few)) in
      record { long = refl; narrow = search rules; followed = search rules }

  moves_good : (from to m n : ℕ) → from + m + n ≤ 65536 → to + m + n ≤ 65536 → Good way (2 * n) (bares (each (moved_code from to) m n))
  moves_good from to m zero low high = nothing
  moves_good from to m (suc n) low high =
      let rest = moves_good from to (m + 1) n (omega (arith, low)) (omega (arith, high)) in
      let first : IsTrue (nat_lt (from + m) 65536) = small (from + m) (omega (arith, low)) in
      let second : IsTrue (nat_lt (to + m) 65536) = small (to + m) (omega (arith, high)) in
      record { long = omega (arith, rest.long); narrow = (first, (second, rest.narrow)); followed = (tt, (tt, rest.followed)) }

  pub homes_good : (areas : List Placed) → ((a : ℕ) → LiesLow (area_at areas a)) → (from to : ℕ) → from ≤ 2048 → to ≤ 2048 → (arrays : List ℕ) → Good way (homes_size areas arrays) (homes_code areas from to arrays)
  homes_good areas lie from to low high [] = nothing
  homes_good areas lie from to low high (a ∷ rest) =
      join (moves_good ((area_at areas a).offset + from) ((area_at areas a).offset + to) 0 (area_at areas a).room (omega (arith, lie a, low)) (omega (arith, lie a, high))) (homes_good areas lie from to low high rest)

  pub unsets_good : (m n : ℕ) → m + n ≤ 256 → Good way (2 * n) (bares (each unset_code m n))
  unsets_good m zero few = nothing
  unsets_good m (suc n) few =
      let rest = unsets_good (m + 1) n (omega (arith, few)) in
      let here : IsTrue (nat_lt (320 + 2 * m) 65536) = small (320 + 2 * m) (omega (arith, few)) in
      let next : IsTrue (nat_lt (320 + 2 * m + 1) 65536) = small (320 + 2 * m + 1) (omega (arith, few)) in
      record { long = omega (arith, rest.long); narrow = (here, (next, rest.narrow)); followed = (tt, (tt, rest.followed)) }

  pub levels_good : (m n : ℕ) → m + n ≤ 4096 → Good way (2 * n) (bares (each level_code m n))
  levels_good m zero few = nothing
  levels_good m (suc n) few =
      let rest = levels_good (m + 1) n (omega (arith, few)) in
      let here : IsTrue (nat_lt (1 + m) 65536) = small (1 + m) (omega (arith, few)) in
      record { long = omega (arith, rest.long); narrow = (here, (here, rest.narrow)); followed = (tt, (tt, rest.followed)) }

  words_good : (at : ℕ) (words : List ℕ) → at + length words ≤ 65536 → AllByRecursion IsWord words → Good way (3 * length words) (bares (words_code at words))
  words_good at [] few all = nothing
  words_good at (w ∷ words) few all =
      let rest = words_good (at + 1) words (omega (arith, few)) all.1 in
      let word : w < 2 ^ 32 = all.0 in
      let lower : IsTrue (nat_lt (w % 65536) 65536) = small (w % 65536) (omega arith) in
      let upper : IsTrue (nat_lt (w / 65536) 65536) = small (w / 65536) (omega (arith, word)) in
      let here : IsTrue (nat_lt at 65536) = small at (omega (arith, few)) in
      record { long = omega (arith, rest.long); narrow = (lower, (upper, (here, rest.narrow))); followed = (tt, (tt, (tt, rest.followed))) }

volatile_part : (k : Kind) (words : List ℕ) → length (volatile_words k words) ≤ length words
volatile_part Nv words = omega arith
volatile_part Const words = omega arith
volatile_part Vol words = omega arith

volatile_all : (k : Kind) (words : List ℕ) → AllByRecursion IsWord words → AllByRecursion IsWord (volatile_words k words)
volatile_all Nv words all = tt
volatile_all Const words all = tt
volatile_all Vol words all = all

pub volatile_good : (way : List Line) (at : ℕ) (arrays : List Array) → at + total arrays ≤ 65536 → AllByRecursion IsCoreArray arrays → Good way (3 * volatile_count arrays) (volatile_code at arrays)
volatile_good way at [] few all = nothing
volatile_good way at (a ∷ arrays) few all =
    let own = volatile_part a.kind a.first in
    let sum = sum_by-cons (λ (x : Array). length x.first) a arrays in
    let words : AllByRecursion IsWord a.first = all.0.2 in
    let rest = volatile_good way (at + length (volatile_words a.kind a.first)) arrays (omega (arith, few, own, sum)) all.1 in
    good_as (3 * volatile_count (a ∷ arrays)) (join (words_good way at (volatile_words a.kind a.first) (omega (arith, few, own, sum)) (volatile_all a.kind a.first words)) rest)
    (omega (arith, sum_by-cons (λ (x : Array). length (volatile_words x.kind x.first)) a arrays))

-- ---- a frame within the limits of a well-formed program

abbrev pub IsTimed : Option Site → Type 0
IsTimed None = Unit {0}
IsTimed (Some s) = IsSite s

pub record IsSmall (f : Frame) : Type 0 where
  pub low : (a : ℕ) → LiesLow (area_at f.areas a)
  pub arrays : AllByRecursion IsCoreArray f.core.arrays
  pub words : total f.core.arrays ≤ 4096
  pub homes : home_count f.core.arrays ≤ 2048
  pub pointers : length f.core.pointers ≤ 256
  pub kept : sum_by site_words f.task.sites ≤ 16384
  pub times : (k : ℕ) → IsTimed (site_at f k)
  pub peripherals : (p : ℕ) → peripheral_number f.core p ≤ 255

-- the way from a last commit to the halt
abbrev pub way_of : Scheme → (tasks : ℕ) → List Line
way_of scheme tasks = fix_code (stride scheme) ++ jump (halt_at tasks)

pub stride_low : (s : Scheme) → stride s ≤ 2048
stride_low Undo = omega arith
stride_low Bank = omega arith

pub level_few : (s : Scheme) (arrays : List Array) → home_count arrays ≤ 2048 → level_count s arrays ≤ 4096
level_few Undo arrays few = omega arith
level_few Bank arrays few = omega (arith, few)

pub sum_front : (n : ℕ) (xs : List Site) → sum_by site_words (take n xs) ≤ sum_by site_words xs
sum_front zero xs = omega arith
sum_front (suc n) [] = omega arith
sum_front (suc n) (x ∷ xs) = omega (arith, sum_by-cons site_words x xs, sum_by-cons site_words x (take n xs), sum_front n xs)

pub call_few : (o : Option CoreStmt) → IsShortSite o → count_of o ≤ 4
call_few None h = omega arith
call_few (Some (stmt.Assign x e)) h = omega arith
call_few (Some (stmt.Point p array i)) h = omega arith
call_few (Some (stmt.If' c m yes_row n no_row)) h = omega arith
call_few (Some (stmt.Loop' i turns m row)) h = omega arith
call_few (Some (stmt.Io k x p args)) h = h.1
call_few (Some (stmt.Block' k m row)) h = omega arith
call_few (Some (stmt.Copy k to from n)) h = omega arith

-- ---- acts by parts

module _ (way : List Line) where
  pub loads_good : (m n : ℕ) → m + n ≤ 4 → Good way n (bares (each load_code m n))
  loads_good m zero low = nothing
  loads_good m (suc n) low =
      let rest = loads_good (m + 1) n (omega (arith, low)) in
      let here : IsTrue (nat_lt (33 + m) 65536) = small (33 + m) (omega (arith, low)) in
      record { long = omega (arith, rest.long); narrow = (here, rest.narrow); followed = (tt, rest.followed) }

  pub write_good : (o : Option CoreStmt) → Good way (write_size o) (write_code o)
  write_good None = nothing
  write_good (Some (stmt.Assign x e)) = nothing
  write_good (Some (stmt.Point p array i)) = nothing
  write_good (Some (stmt.If' c m yes_row n no_row)) = nothing
  write_good (Some (stmt.Loop' i turns m row)) = nothing
  write_good (Some (stmt.Io k None p args)) = nothing
  write_good (Some (stmt.Io k (Some x) p args)) = record { long = refl; narrow = search rules; followed = search rules }
  write_good (Some (stmt.Block' k m row)) = nothing
  write_good (Some (stmt.Copy k to from n)) = nothing

  copy_seal_good : (f : Frame) (k : ℕ) → IsSiteNumber k → Good way 9 (seal_code f k None)
  copy_seal_good f k is =
      let flag : IsTrue (nat_lt (6273 + k) 65536) = small (6273 + k) (omega (arith, is.few)) in
      let value : IsTrue (nat_lt (6529 + k) 65536) = small (6529 + k) (omega (arith, is.few)) in
      let first : IsTrue (nat_lt (6655 + 3 * k) 65536) = small (6655 + 3 * k) (omega (arith, is.few)) in
      let second : IsTrue (nat_lt (6655 + 3 * k + 1) 65536) = small (6655 + 3 * k + 1) (omega (arith, is.few)) in
      let third : IsTrue (nat_lt (6655 + 3 * k + 2) 65536) = small (6655 + 3 * k + 2) (omega (arith, is.few)) in
      record { long = refl; narrow = (refl, (refl, (refl, (refl, (value, (first, (second, (third, (flag, tt))))))))); followed = search rules }

  pub seal_good : (f : Frame) (k : ℕ) (s : Option Site) → IsSiteNumber k → Good way (seal_size s) (seal_code f k s)
  seal_good f k None is = copy_seal_good f k is
  seal_good f k (Some (site.Io a)) is =
      let flag : IsTrue (nat_lt (6273 + k) 65536) = small (6273 + k) (omega (arith, is.few)) in
      let value : IsTrue (nat_lt (6529 + k) 65536) = small (6529 + k) (omega (arith, is.few)) in
      let stamp : IsTrue (nat_lt (6401 + k) 65536) = small (6401 + k) (omega (arith, is.few)) in
      record { long = refl; narrow = (refl, (refl, (value, (stamp, (flag, tt))))); followed = search rules }
  seal_good f k (Some (site.Block a)) is =
      let flag : IsTrue (nat_lt (6273 + k) 65536) = small (6273 + k) (omega (arith, is.few)) in
      let begun : IsTrue (nat_lt (191 + k) 65536) = small (191 + k) (omega (arith, is.few)) in
      let stamp : IsTrue (nat_lt (6401 + k) 65536) = small (6401 + k) (omega (arith, is.few)) in
      record { long = refl; narrow = (begun, (stamp, (flag, tt))); followed = search rules }
  seal_good f k (Some (site.Copy n)) is = copy_seal_good f k is

  -- ---- choices

  own_good : (x : Ann) (k : ℕ) → IsReadableAnn x → IsSiteNumber k → Good way (own_size x) (own_lines x k)
  own_good ann.Single k fit is = record { long = refl; narrow = search rules; followed = search rules }
  own_good (ann.Timely limit) k fit is =
      let word : limit < 2 ^ 32 = fit in
      let stamp : IsTrue (nat_lt (6401 + k) 65536) = small (6401 + k) (omega (arith, is.few)) in
      let lower : IsTrue (nat_lt (limit % 65536) 65536) = small (limit % 65536) (omega arith) in
      let upper : IsTrue (nat_lt (limit / 65536) 65536) = small (limit / 65536) (omega (arith, word)) in
      record { long = refl; narrow = (refl, (stamp, (tt, (lower, (upper, (tt, (refl, (tt, tt)))))))); followed = search rules }
  own_good ann.Always k fit is = record { long = refl; narrow = search rules; followed = search rules }

  flag_good : (k : ℕ) → k ≤ 128 → Good way 2 (bares (Ld 1 0 (6273 + k) ∷ Eq 1 13 ∷ []))
  flag_good k few =
      let flag : IsTrue (nat_lt (6273 + k) 65536) = small (6273 + k) (omega (arith, few)) in
      record { long = refl; narrow = (flag, (tt, tt)); followed = search rules }

  inside_good : (x : Ann) (k : ℕ) → IsReadableAnn x → IsSiteNumber k → Good way (own_size x + 7) (inside_code x k)
  inside_good x k fit is =
      let flag : IsTrue (nat_lt (6273 + k) 65536) = small (6273 + k) (omega (arith, is.few)) in
      let head : Good way 2 (bares (Ld 2 0 (6273 + k) ∷ Eq 2 13 ∷ [])) = record { long = refl; narrow = (flag, (tt, tt)); followed = search rules } in
      let last : Good way 5 (bares (Ld 3 15 39 ∷ Mov 4 3 ∷ Eq 4 0 ∷ Mul 1 4 ∷ Add 1 3 ∷ [])) = record { long = refl; narrow = search rules; followed = search rules } in
      good_as (own_size x + 7) (join head (join (own_good x k fit is) last)) (omega arith)

  pub enter_good : (x : Ann) (k : ℕ) → IsReadableAnn x → IsSiteNumber k → Good way (own_size x + 12) (enter_code x k)
  enter_good x k fit is =
      let begun : IsTrue (nat_lt (191 + k) 65536) = small (191 + k) (omega (arith, is.few)) in
      let outer : IsTrue (nat_lt (63 + k) 65536) = small (63 + k) (omega (arith, is.few)) in
      let last : Good way 5 (bares (Ld 3 15 37 ∷ Ld 4 15 39 ∷ St 3 15 (191 + k) ∷ St 4 15 (63 + k) ∷ St 1 15 39 ∷ [])) =
      record { long = refl; narrow = (refl, (refl, (begun, (outer, (refl, tt))))); followed = search rules } in
      good_as (own_size x + 12) (join (inside_good x k fit is) last) (omega arith)

  pub leave_good : (k : ℕ) → IsSiteNumber k → Good way 5 (leave_code k)
  leave_good k is =
      let outer : IsTrue (nat_lt (63 + k) 65536) = small (63 + k) (omega (arith, is.few)) in
      record { long = refl; narrow = (refl, (outer, (refl, (refl, (tt, tt))))); followed = search rules }

  pub keeps_good : (s : Option Site) (k : ℕ) → IsTimed s → IsSiteNumber k → Good way (keeps_size s) (keeps_code s k)
  keeps_good None k fit is = flag_good k is.few
  keeps_good (Some (site.Io a)) k fit is =
      let last : Good way 3 (bares (Ldi 3 1 ∷ Eq 1 3 ∷ And 1 2 ∷ [])) = record { long = refl; narrow = search rules; followed = search rules } in
      good_as (own_size a + 10) (join (inside_good a k fit is) last) (omega arith)
  keeps_good (Some (site.Block a)) k fit is = flag_good k is.few
  keeps_good (Some (site.Copy n)) k fit is = flag_good k is.few

  pub class_good : (keeps : Bool) (k class to other : ℕ) → class ≤ 2 → IsSiteNumber k → Good way 6 (class_test keeps k class to other)
  class_good true k class to other few is =
      let value : IsTrue (nat_lt (6529 + k) 65536) = small (6529 + k) (omega (arith, is.few)) in
      let number : IsTrue (nat_lt class 65536) = small class (omega (arith, few)) in
      record { long = refl; narrow = (value, (number, (tt, (refl, (tt, (tt, tt)))))); followed = search rules }
  class_good false k class to other few is =
      let number : IsTrue (nat_lt class 65536) = small class (omega (arith, few)) in
      record { long = refl; narrow = (refl, (number, (tt, (refl, (tt, (tt, tt)))))); followed = search rules }

  -- an act before the jump to what comes next
  pub and_jump : {n : ℕ} {lines : List Line} (next : ℕ) → Good way n lines → Good way (n + 1) (lines ++ jump next)
  and_jump next good = join good (jump_good way next)
