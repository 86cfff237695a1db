-- Tokens by their lexemes: a list of tokens falls apart as its lexemes do.
use Rattle.std.proofs.Common.{◌≡◌, List, [], ◌∷◌, ◌++◌, length, refl, ap, ◌∙◌, arith}
use Rattle.ease_base.specs.declared.place.Pos.{Pos}
use Rattle.task_tokens.specs.declared.token.Sign.{Sign}
use Rattle.task_tokens.specs.declared.token.Lexeme.{Lexeme}
use Rattle.task_tokens.specs.declared.token.Lexeme.TheVariants as lexeme
use Rattle.task_tokens.specs.declared.token.Token.{Token}
use Rattle.task_tokens.specs.Spaced.{lexemes}
use Rattle.task_text.specs.Forms.{symbol}

abbrev pub placed : Lexeme → Pos → Token
placed x at = record { lexeme = x; at = at }

-- tokens whose lexemes begin with one
pub record First (tokens : List Token) (x : Lexeme) (rest : List Lexeme) : Type 0 where
  pub at : Pos
  pub behind : List Token
  pub whole : tokens ≡ placed x at ∷ behind
  pub back : lexemes behind ≡ rest

pub first_of : (tokens : List Token) (x : Lexeme) (rest : List Lexeme) → lexemes tokens ≡ x ∷ rest → First tokens x rest
first_of [] x rest is = absurd (let e = ap length is in omega (arith, e))
first_of (t ∷ ts) x rest is =
    let same : t.lexeme ≡ x = cc in
    let back : lexemes ts ≡ rest = cc in
    record { at = t.at; behind = ts; whole = ap (λ l. placed l t.at ∷ ts) same; back = back }

-- tokens whose lexemes are some and then others
pub record Parts (tokens : List Token) (xs ys : List Lexeme) : Type 0 where
  pub front : List Token
  pub back : List Token
  pub whole : tokens ≡ front ++ back
  pub firsts : lexemes front ≡ xs
  pub others : lexemes back ≡ ys

parts_more : (tokens : List Token) (x : Lexeme) (xs ys : List Lexeme) (f : First tokens x (xs ++ ys)) → Parts f.behind xs ys → Parts tokens (x ∷ xs) ys
parts_more tokens x xs ys f p = record {
  front = placed x f.at ∷ p.front;
  back = p.back;
  whole = f.whole ∙ ap (λ ts. placed x f.at ∷ ts) p.whole;
  firsts = ap (λ ls. x ∷ ls) p.firsts;
  others = p.others;
}

pub parts_of : (tokens : List Token) (xs ys : List Lexeme) → lexemes tokens ≡ xs ++ ys → Parts tokens xs ys
parts_of tokens [] ys is = record { front = []; back = tokens; whole = refl; firsts = refl; others = is }
parts_of tokens (x ∷ xs) ys is = let f = first_of tokens x (xs ++ ys) is in parts_more tokens x xs ys f (parts_of f.behind xs ys f.back)

-- no lexemes, no tokens
pub none_of : (tokens : List Token) → lexemes tokens ≡ [] → tokens ≡ []
none_of [] is = refl
none_of (t ∷ ts) is = absurd (let e = ap length is in omega (arith, e))

-- one lexeme, one token
pub one_of : (tokens : List Token) (x : Lexeme) → lexemes tokens ≡ x ∷ [] → (at : Pos) × (tokens ≡ placed x at ∷ [])
one_of tokens x is = let f = first_of tokens x [] is in (f.at, f.whole ∙ ap (λ ts. placed x f.at ∷ ts) (none_of f.behind f.back))

-- tokens whose lexemes stand between two signs
pub record Inside (tokens : List Token) (first last : Sign) (xs : List Lexeme) : Type 0 where
  pub at_first : Pos
  pub at_last : Pos
  pub inner : List Token
  pub whole : tokens ≡ symbol first at_first ∷ (inner ++ symbol last at_last ∷ [])
  pub inside : lexemes inner ≡ xs

pub inside_of : (tokens : List Token) (first last : Sign) (xs : List Lexeme) → lexemes tokens ≡ lexeme.Symbol first ∷ (xs ++ lexeme.Symbol last ∷ []) → Inside tokens first last xs
inside_of tokens first last xs is =
    let f = first_of tokens (lexeme.Symbol first) (xs ++ lexeme.Symbol last ∷ []) is in
    let p = parts_of f.behind xs (lexeme.Symbol last ∷ []) f.back in
    let one = one_of p.back (lexeme.Symbol last) p.others in
    record {
      at_first = f.at;
      at_last = one.0;
      inner = p.front;
      whole = f.whole ∙ ap (λ ts. symbol first f.at ∷ ts) (p.whole ∙ ap (λ ts. p.front ++ ts) one.1);
      inside = p.firsts;
    }
