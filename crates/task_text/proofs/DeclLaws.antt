-- Declarations that are read are in the grammar, and those in the grammar are read.
use Rattle.std.proofs.Common.{◌≡◌, false, List, [], ◌∷◌, length, Err, refl, ap, arith}
use Rattle.task_ast.specs.declared.tree.Kind.{Kind}
use Rattle.task_ast.specs.declared.tree.Kind.TheVariants as kind
use Rattle.task_ast.specs.declared.tree.Decl.TheVariants as decl
use Rattle.task_tokens.specs.declared.token.Keyword.TheVariants as keyword
use Rattle.task_tokens.specs.declared.token.Sign.TheVariants as sign
use Rattle.task_tokens.specs.declared.token.Token.{Token}
use Rattle.ease_base.specs.declared.place.Pos.{Pos}
use Rattle.task_text.specs.Forms.{reserved, Word, Then, ◌▸◌}
use Rattle.task_text.specs.Grammar.{IsKind, IsSize, IsNextValue, AreValues, IsList, IsInit, IsDeclared, IsPointer, IsWorded, IsPeripheral, IsDecl}
use Rattle.task_text.specs.declared.cursor.Numeral.{Numeral}
use Rattle.task_text.specs.Reading.{found, ◌>>=◌, many, number_at, begins_sign, begins_reserved, begins_decl}
use Rattle.task_text.specs.ReadingDecl.{const_at, nv_at, kind_at, size_at, next_value_at, values_at, list_at, init_at, declared_at, pointer_at, worded_at, peripheral_at, words_at, decl_at}
use Rattle.task_text.proofs.Offs.{IsSound}
use Rattle.task_text.proofs.Items.{Items, Takes}
use Rattle.task_text.proofs.Many.{NoElse, Beginnings, item-takes}
use Rattle.task_text.proofs.Chain.{word-sound, mark-sound, named-sound, numbered-sound, done-sound, chain-sound, enclosed-sound, many-sound, either-sound}
use Rattle.task_text.proofs.Starts.{Starts, IsReadBefore, word-starts, mark-starts, then-starts, enclosed-starts, numbered-starts, named-starts, first-starts, nothing-starts, either-starts}
use Rattle.task_text.proofs.Complete.{Any, NoMore, word-complete, mark-complete, named-complete, numbered-complete, done-complete, chain-complete, chain-before, last-complete, enclosed-complete, choose-complete, either-complete, or-nothing, optional-complete, items-complete}

-- ---- what is read is in the grammar

kind-sound : IsSound IsKind kind_at
unfolding kind_at const_at nv_at
kind-sound =
    either-sound (begins_reserved keyword.Const) (chain-sound (word-sound keyword.Const) (λ _. chain-sound (word-sound keyword.Nv) (λ _. done-sound kind.Const)))
    (either-sound (begins_reserved keyword.Nv) (chain-sound (word-sound keyword.Nv) (λ _. done-sound kind.Nv)) (done-sound kind.Vol))

size-sound : IsSound IsSize size_at
unfolding size_at
size-sound = either-sound (begins_sign sign.BracketOpen) (chain-sound (enclosed-sound sign.BracketOpen sign.BracketClose numbered-sound) (λ n. done-sound _)) (done-sound _)

pub next_value-sound : IsSound IsNextValue next_value_at
unfolding next_value_at
next_value-sound = chain-sound (mark-sound sign.Comma) (λ _. chain-sound numbered-sound (λ n. done-sound n.value))

values-sound : IsSound AreValues values_at
unfolding values_at
values-sound = chain-sound numbered-sound (λ n. chain-sound (many-sound (begins_sign sign.Comma) next_value-sound) (λ ns. done-sound (n.value ∷ ns)))

init-sound : IsSound IsInit init_at
unfolding init_at list_at
init-sound =
    either-sound (begins_sign sign.Equal) (chain-sound (mark-sound sign.Equal) (λ _. either-sound (begins_sign sign.BraceOpen) (enclosed-sound sign.BraceOpen sign.BraceClose values-sound) (chain-sound numbered-sound (λ n. done-sound (n.value ∷ [])))))
    (done-sound [])

declared-sound : (k : Kind) → IsSound (IsDeclared k) (declared_at k)
unfolding declared_at
declared-sound k = chain-sound named-sound (λ x. chain-sound size-sound (λ n. chain-sound init-sound (λ values. chain-sound (mark-sound sign.Semicolon) (λ _. done-sound (decl.Words k x n values)))))

pointer-sound : IsSound IsPointer pointer_at
unfolding pointer_at
pointer-sound = chain-sound (mark-sound sign.Star) (λ _. chain-sound named-sound (λ x. chain-sound (mark-sound sign.Semicolon) (λ _. done-sound (decl.Pointer x))))

worded-sound : (k : Kind) → IsSound (IsWorded k) (worded_at k)
unfolding worded_at
worded-sound kind.Const = declared-sound kind.Const
worded-sound kind.Nv = declared-sound kind.Nv
worded-sound kind.Vol = either-sound (begins_sign sign.Star) pointer-sound (declared-sound kind.Vol)

peripheral-sound : IsSound IsPeripheral peripheral_at
unfolding peripheral_at
peripheral-sound = chain-sound (word-sound keyword.Peripheral) (λ _. chain-sound named-sound (λ x. chain-sound numbered-sound (λ n. chain-sound (mark-sound sign.Semicolon) (λ _. done-sound (decl.Peripheral x n.value)))))

pub decl-sound : IsSound IsDecl decl_at
unfolding decl_at words_at
decl-sound = either-sound (begins_reserved keyword.Peripheral) peripheral-sound (chain-sound kind-sound (λ k. chain-sound (word-sound keyword.Word) (λ _. worded-sound k)))

-- ---- what is in the grammar is read

abbrev NoKind : List Token → Type 0
NoKind rest = (begins_reserved keyword.Const rest ≡ false) × (begins_reserved keyword.Nv rest ≡ false)

kind-complete : IsReadBefore NoKind IsKind kind_at
unfolding kind_at const_at nv_at
kind-complete =
    either-complete (begins_reserved keyword.Const) (then-starts (word-starts (λ at us. refl))) (or-nothing (then-starts (word-starts (λ at us. refl))) (λ rest safe. safe.0)) (chain-complete (word-complete keyword.Const) (λ _. chain-complete (word-complete keyword.Nv) (λ _. done-complete kind.Const)))
    (optional-complete (begins_reserved keyword.Nv) (then-starts (word-starts (λ at us. refl))) (λ rest safe. safe.1) (chain-complete (word-complete keyword.Nv) (λ _. done-complete kind.Nv)))

abbrev NoSize : List Token → Type 0
NoSize rest = begins_sign sign.BracketOpen rest ≡ false

size-complete : IsReadBefore NoSize IsSize size_at
unfolding size_at
size-complete = optional-complete (begins_sign sign.BracketOpen) (then-starts (enclosed-starts (λ at us. refl))) (λ rest safe. safe) (chain-complete (enclosed-complete {G = Any} sign.BracketOpen sign.BracketClose numbered-complete (λ at us. tt)) (λ n. done-complete _))

next_value-complete : IsReadBefore NoElse IsNextValue next_value_at
unfolding next_value_at
next_value-complete = chain-complete (mark-complete sign.Comma) (λ _. chain-complete numbered-complete (λ n. done-complete n.value))

pub next_values : Beginnings NoElse IsNextValue (begins_sign sign.Comma)
next_values = record { starts = then-starts (mark-starts (λ at us. refl)); safe = then-starts (mark-starts (λ at us. refl)); ends = refl }

values-complete : IsReadBefore (NoMore NoElse (begins_sign sign.Comma)) AreValues values_at
unfolding values_at
values-complete = chain-complete numbered-complete (λ n. last-complete (items-complete next_values next_value-complete))

abbrev NoInit : List Token → Type 0
NoInit rest = begins_sign sign.Equal rest ≡ false

list-complete : IsReadBefore NoInit IsList list_at
unfolding list_at
list-complete =
    choose-complete (begins_sign sign.BraceOpen) (enclosed-starts (λ at us. refl)) (then-starts (numbered-starts (λ n at us. refl))) (enclosed-complete sign.BraceOpen sign.BraceClose values-complete (λ at us. (refl, refl)))
    (chain-complete numbered-complete (λ n. done-complete (n.value ∷ [])))

init-complete : IsReadBefore NoInit IsInit init_at
unfolding init_at
init-complete = optional-complete (begins_sign sign.Equal) (then-starts (mark-starts (λ at us. refl))) (λ rest safe. safe) (chain-complete (mark-complete sign.Equal) (λ _. list-complete))

declared-complete : (k : Kind) → IsReadBefore NoElse (IsDeclared k) (declared_at k)
unfolding declared_at
declared-complete k =
    chain-complete named-complete (λ x. chain-before size-complete (λ n. first-starts (then-starts (mark-starts (λ at us. refl))) (nothing-starts (λ v. then-starts (mark-starts (λ at us. refl)))))
    (λ n. chain-before init-complete (λ v. then-starts (mark-starts (λ at us. refl))) (λ values. chain-complete (mark-complete sign.Semicolon) (λ _. done-complete (decl.Words k x n values)))))

pointer-complete : IsReadBefore NoElse IsPointer pointer_at
unfolding pointer_at
pointer-complete = chain-complete (mark-complete sign.Star) (λ _. chain-complete named-complete (λ x. chain-complete (mark-complete sign.Semicolon) (λ _. done-complete (decl.Pointer x))))

worded-complete : (k : Kind) → IsReadBefore NoElse (IsWorded k) (worded_at k)
unfolding worded_at
worded-complete kind.Const = declared-complete kind.Const
worded-complete kind.Nv = declared-complete kind.Nv
worded-complete kind.Vol = choose-complete (begins_sign sign.Star) (then-starts (mark-starts (λ at us. refl))) (then-starts (named-starts (λ x us. refl))) pointer-complete (declared-complete kind.Vol)

peripheral-complete : IsReadBefore NoElse IsPeripheral peripheral_at
unfolding peripheral_at
peripheral-complete =
    chain-complete (word-complete keyword.Peripheral) (λ _. chain-complete named-complete (λ x. chain-complete numbered-complete (λ n. chain-complete (mark-complete sign.Semicolon) (λ _. done-complete (decl.Peripheral x n.value)))))

words-complete : IsReadBefore NoElse (Then IsKind (λ k. Word keyword.Word ▸ IsWorded k)) words_at
unfolding words_at
words-complete = chain-before kind-complete (λ k. then-starts (word-starts (λ at us. (refl, refl)))) (λ k. chain-complete (word-complete keyword.Word) (λ _. worded-complete k))

-- a declaration of words begins with its kind, or with `word`
words-starts : {G : List Token → Type 0} → ((at : Pos) (us : List Token) → G (reserved keyword.Const at ∷ us)) → ((at : Pos) (us : List Token) → G (reserved keyword.Nv at ∷ us)) → ((at : Pos) (us : List Token) → G (reserved keyword.Word at ∷ us)) → Starts G (Then IsKind (λ k. Word keyword.Word ▸ IsWorded k))
words-starts c n w = first-starts (then-starts (word-starts c)) (first-starts (then-starts (word-starts n)) (nothing-starts (λ k. then-starts (word-starts w))))

pub decl-complete : IsReadBefore NoElse IsDecl decl_at
unfolding decl_at
decl-complete = choose-complete (begins_reserved keyword.Peripheral) (then-starts (word-starts (λ at us. refl))) (words-starts (λ at us. refl) (λ at us. refl) (λ at us. refl)) peripheral-complete words-complete

pub declarations : Beginnings NoElse IsDecl begins_decl
declarations = record {
  starts = either-starts (then-starts (word-starts (λ at us. refl))) (words-starts (λ at us. refl) (λ at us. refl) (λ at us. refl));
  safe = either-starts (then-starts (word-starts (λ at us. refl))) (words-starts (λ at us. refl) (λ at us. refl) (λ at us. refl));
  ends = refl;
}

-- each takes a token
pub decl-takes : Takes decl_at
decl-takes = item-takes declarations decl-sound

pub next_value-takes : Takes next_value_at
next_value-takes = item-takes next_values next_value-sound

-- ---- values are read one by one

pub values-none : (ts us : List Token) → number_at ts ≡ Err us → values_at ts ≡ Err us
unfolding values_at
values-none ts us e = ap (λ r. r >>= λ n. many (length n.rest) (begins_sign sign.Comma) next_value_at n.rest >>= λ ns. found (n.value.value ∷ ns.value) ns.rest) e

pub values-first : (ts us : List Token) (n : Numeral) → number_at ts ≡ found n us → Items (begins_sign sign.Comma) next_value_at (values_at ts) (n.value ∷ []) us
unfolding values_at
values-first ts us n e = record {
  more = length us;
  room = omega arith;
  same = ap (λ r. r >>= λ n. many (length n.rest) (begins_sign sign.Comma) next_value_at n.rest >>= λ ns. found (n.value.value ∷ ns.value) ns.rest) e;
}
