-- Forms: which tokens are which value. A grammar's rules are made of forms of one token, put one after another.
use Rattle.std.specs.Prelude.{◌≡◌, ◌⊎◌, ℕ, List, [], ◌∷◌, ◌++◌}
use Rattle.ease_base.specs.declared.place.Pos.{Pos}
use Rattle.task_ast.specs.declared.tree.Name.{Name}
use Rattle.task_tokens.specs.declared.token.Keyword.{Keyword}
use Rattle.task_tokens.specs.declared.token.Sign.{Sign}
use Rattle.task_tokens.specs.declared.token.Lexeme.TheVariants as lexeme
use Rattle.task_tokens.specs.declared.token.Token.{Token}
use Rattle.task_text.specs.declared.cursor.Numeral.{Numeral}

-- a reserved word, a sign, a number and a name, each at its place
abbrev pub reserved : Keyword → Pos → Token
reserved k at = record { lexeme = lexeme.Reserved k; at = at }

abbrev pub symbol : Sign → Pos → Token
symbol s at = record { lexeme = lexeme.Symbol s; at = at }

abbrev pub number : ℕ → Pos → Token
number n at = record { lexeme = lexeme.Number n; at = at }

abbrev pub name : Name → Token
name x = record { lexeme = lexeme.Name x.text; at = x.at }

-- a form says of a value and tokens whether the tokens are the value
abbrev pub Form : Type 0 → Type 1
Form T = T → List Token → Type 0

-- a reserved word and a sign, whose value is the place
abbrev pub Word : Keyword → Form Pos
Word k at tokens = tokens ≡ reserved k at ∷ []

abbrev pub Mark : Sign → Form Pos
Mark s at tokens = tokens ≡ symbol s at ∷ []

-- a name, a number, the number 0, and a name with this text again
abbrev pub Named : Form Name
Named x tokens = tokens ≡ name x ∷ []

abbrev pub Numbered : Form Numeral
Numbered n tokens = tokens ≡ number n.value n.at ∷ []

abbrev pub Zero : Form Pos
Zero at tokens = tokens ≡ number 0 at ∷ []

abbrev pub Same : List ℕ → Form Pos
Same text at tokens = tokens ≡ name (record { text = text; at = at }) ∷ []

-- the value, and no tokens
abbrev pub Done : {T : Type 0} → T → Form T
Done v y tokens = (v ≡ y) × (tokens ≡ [])

-- a part, and then what its value asks for
abbrev pub Then : {A B : Type 0} → Form A → (A → Form B) → Form B
Then {A} P Q y tokens = (x : A) × (front back : List Token) × (tokens ≡ front ++ back) × P x front × Q x y back

-- a part whose value doesn't matter, and then another
infixr 30 ◌▸◌
abbrev pub ◌▸◌ : {A B : Type 0} → Form A → Form B → Form B
P ▸ Q = Then P (λ _. Q)

-- one form or the other
abbrev pub Either : {T : Type 0} → Form T → Form T → Form T
Either P Q x tokens = P x tokens ⊎ Q x tokens

-- one item after another
abbrev pub AreAll : {T : Type 0} → Form T → Form (List T)
AreAll P [] tokens = tokens ≡ []
AreAll P (x ∷ xs) tokens = (front back : List Token) × (tokens ≡ front ++ back) × P x front × AreAll P xs back

-- tokens of this kind between these two signs
pub record IsBetween (first last : Sign) (P : List Token → Type 0) (tokens : List Token) : Type 0 where
  pub at_first : Pos
  pub at_last : Pos
  pub inner : List Token
  pub whole : tokens ≡ symbol first at_first ∷ (inner ++ symbol last at_last ∷ [])
  pub inside : P inner

-- the same of a form
abbrev pub Enclosed : {T : Type 0} → Sign → Sign → Form T → Form T
Enclosed first last P x tokens = IsBetween first last (P x) tokens
