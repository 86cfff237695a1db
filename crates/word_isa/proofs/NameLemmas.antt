-- Names are ASCII, and the tests on names say what they say.
use Rattle.std.specs.Prelude.{◌≡◌, ◌↔◌, ℕ, zero, suc, ◌<◌, Bool, true, false, not, ◌&&◌, nat_le, IsTrue, List, [], ◌∷◌, Option, Some, None, All, length, refl}
use Rattle.std.proofs.Common.{sym, ap, ◌∙◌, subst, arith, get_or}
use Rattle.std.proofs.lemmas.List.Sums.{AllPass-from_list_all}
use Rattle.std.proofs.lemmas.Bool.{leb-true, le-leb}
use Rattle.std.proofs.lemmas.Bool.Decides.{nat_tests, same_from_decides}
use Rattle.std.proofs.lemmas.Slice.Eq.{bytes_eq-Decides}
use Rattle.std.proofs.lemmas.Str.{IsUtf8-from_ascii}
use Rattle.std.proofs.lemmas.Str.Ascii.{IsAscii-from_all}
use Rattle.std.specs.Bool.{Decides}
use Rattle.std.specs.List.{list_all}
use Rattle.std.specs.Option.{is_some}
use Rattle.std.specs.Str.{IsUtf8, bytes_eq}
use Rattle.op_table.specs.Places.{place_of}
use Rattle.op_table.specs.PlaceLemmas.{place_found, placed}
use Rattle.op_table.specs.Reserved.{IsReserved, reserved_words}
use Rattle.task_ast.specs.NameToken.{is_letter, is_word_byte}
use Rattle.word_isa.specs.Names.{is_name_token, is_reserved, is_symbol_name, IsSymbolName}

both_true : (p q : Bool) → (p && q) ≡ true → (p ≡ true) × (q ≡ true)
both_true true q e = (refl, e)
both_true false q e = cc

letter_small : (b : ℕ) → is_letter b ≡ true → b < 128
letter_small b e = grind (arith, nat_tests)

word_byte_small : (b : ℕ) → is_word_byte b ≡ true → b < 128
word_byte_small b e = grind (arith, nat_tests)

all_small : (bs : List ℕ) → list_all is_word_byte bs ≡ true → All (λ b. b < 128) bs
all_small bs e k d within =
    word_byte_small (get_or bs k d) (AllPass-from_list_all is_word_byte bs e k d within)

small_at : (b : ℕ) (bs : List ℕ) (k d : ℕ) → b < 128 → All (λ c. c < 128) bs → k < suc (length bs) → get_or (b ∷ bs) k d < 128
small_at b bs zero d first rest within = first
small_at b bs (suc k) d first rest within = rest k d (omega arith)

-- a name is text
pub name_text : (name : List ℕ) → is_name_token name ≡ true → IsUtf8 name
unfolding is_name_token
name_text [] e = cc
name_text (b ∷ bs) e =
    let both = both_true (is_letter b) (list_all is_word_byte bs) e in
    IsUtf8-from_ascii (b ∷ bs) (IsAscii-from_all (b ∷ bs) (λ k d within. small_at b bs k d (letter_small b both.0) (all_small bs both.1) within))

found_word : (name : List ℕ) (place : Option ℕ) → place ≡ place_of bytes_eq name reserved_words → is_some place ≡ true → IsReserved name
found_word name None is some = cc
found_word name (Some k) is some = (k, place_found bytes_eq bytes_eq-Decides name reserved_words k (sym is))

-- the test for a reserved word decides
reserved-Decides : (name : List ℕ) → Decides (is_reserved name) (IsReserved name)
unfolding is_reserved
reserved-Decides name = (
  λ some. found_word name (place_of bytes_eq name reserved_words) refl some,
  λ stands. placed bytes_eq bytes_eq-Decides name reserved_words stands.0 stands.1,
)

pub reserved_test : (r : Bool) (text name : List ℕ) → text ≡ name → (IsTrue r ↔ IsReserved text) → r ≡ is_reserved name
reserved_test r text name same told =
    let P : List ℕ → Type 0 = λ t. IsTrue r ↔ IsReserved t in
    same_from_decides r (is_reserved name) (subst P same told) (reserved-Decides name)

not_true : (b : Bool) → not b ≡ true → b ≡ true → ⊥
not_true true e is = cc
not_true false e is = cc

is_not : (b : Bool) → (b ≡ true → ⊥) → not b ≡ true
is_not true never = absurd (never refl)
is_not false never = refl

all_true : (p q r : Bool) → p ≡ true → q ≡ true → r ≡ true → (p && q && r) ≡ true
all_true p q r p_true q_true r_true = rw (p_true, q_true, r_true) refl

-- the test for a name is exact
pub symbol_name_exact : (r : Bool) (name : List ℕ) → r ≡ is_symbol_name name → IsTrue r ↔ IsSymbolName name
unfolding is_symbol_name is_name_token
symbol_name_exact r name is = (
  λ passes.
      let three = both_true (is_name_token name && nat_le (length name) 32) (not (is_reserved name)) (sym is ∙ passes) in
      let two = both_true (is_name_token name) (nat_le (length name) 32) three.0 in
      record { token = (two.0, λ stands. not_true (is_reserved name) three.1 ((reserved-Decides name).1 stands)); short = leb-true (length name) 32 two.1 },
  λ fact. is ∙ all_true (is_name_token name) (nat_le (length name) 32) (not (is_reserved name)) fact.token.0 (le-leb (length name) 32 fact.short) (is_not (is_reserved name) (λ some. fact.token.1 ((reserved-Decides name).0 some))),
)

-- where the tests on letters and length pass, the last one tells
pub named_by : (r : Bool) (name : List ℕ) → is_name_token name ≡ true → nat_le (length name) 32 ≡ true → r ≡ not (is_reserved name) → r ≡ is_symbol_name name
unfolding is_symbol_name
named_by r name letters short is =
    is ∙ sym (ap (λ a. a && nat_le (length name) 32 && not (is_reserved name)) letters ∙ ap (λ a. a && not (is_reserved name)) short)
