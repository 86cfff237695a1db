-- How declarations are read off the tokens.
use Rattle.std.specs.Prelude.{ℕ, if◌then◌else◌, List, [], ◌∷◌, length, Option, Some, None}
use Rattle.task_ast.specs.declared.tree.Kind.{Kind}
use Rattle.task_ast.specs.declared.tree.Kind.TheVariants as kind
use Rattle.task_ast.specs.declared.tree.Decl.{Decl}
use Rattle.task_ast.specs.declared.tree.Decl.TheVariants as decl
use Rattle.task_tokens.specs.declared.token.Keyword.TheVariants as keyword
use Rattle.task_tokens.specs.declared.token.Sign.TheVariants as sign
use Rattle.task_text.specs.Reading.{Reader, chain, ◌▹◌, done, between, begins_sign, begins_reserved, sign_at, reserved_at, name_at, number_at, many}

unfoldable pub const_at : Reader Kind
const_at ts = (reserved_at keyword.Const ▹ reserved_at keyword.Nv ▹ done kind.Const) ts

unfoldable pub nv_at : Reader Kind
nv_at ts = (reserved_at keyword.Nv ▹ done kind.Nv) ts

unfoldable pub kind_at : Reader Kind
kind_at ts = if begins_reserved keyword.Const ts then const_at ts else (if begins_reserved keyword.Nv ts then nv_at ts else done kind.Vol ts)

unfoldable pub size_at : Reader (Option ℕ)
size_at ts = if begins_sign sign.BracketOpen ts then chain (between sign.BracketOpen sign.BracketClose number_at) (λ n. done (Some n.value)) ts else done None ts

unfoldable pub next_value_at : Reader ℕ
next_value_at ts = (sign_at sign.Comma ▹ chain number_at (λ n. done n.value)) ts

-- values behind commas
abbrev pub next_values_at : Reader (List ℕ)
next_values_at ts = many (length ts) (begins_sign sign.Comma) next_value_at ts

unfoldable pub values_at : Reader (List ℕ)
values_at ts = chain number_at (λ n. chain next_values_at (λ ns. done (n.value ∷ ns))) ts

unfoldable pub list_at : Reader (List ℕ)
list_at ts = if begins_sign sign.BraceOpen ts then between sign.BraceOpen sign.BraceClose values_at ts else chain number_at (λ n. done (n.value ∷ [])) ts

unfoldable pub init_at : Reader (List ℕ)
init_at ts = if begins_sign sign.Equal ts then (sign_at sign.Equal ▹ list_at) ts else done [] ts

unfoldable pub declared_at : Kind → Reader Decl
declared_at k ts = chain name_at (λ x. chain size_at (λ n. chain init_at (λ values. sign_at sign.Semicolon ▹ done (decl.Words k x n values)))) ts

unfoldable pub pointer_at : Reader Decl
pointer_at ts = (sign_at sign.Star ▹ chain name_at (λ x. sign_at sign.Semicolon ▹ done (decl.Pointer x))) ts

unfoldable pub worded_at : Kind → Reader Decl
worded_at kind.Const ts = declared_at kind.Const ts
worded_at kind.Nv ts = declared_at kind.Nv ts
worded_at kind.Vol ts = if begins_sign sign.Star ts then pointer_at ts else declared_at kind.Vol ts

unfoldable pub peripheral_at : Reader Decl
peripheral_at ts = (reserved_at keyword.Peripheral ▹ chain name_at (λ x. chain number_at (λ n. sign_at sign.Semicolon ▹ done (decl.Peripheral x n.value)))) ts

unfoldable pub words_at : Reader Decl
words_at ts = chain kind_at (λ k. reserved_at keyword.Word ▹ worded_at k) ts

unfoldable pub decl_at : Reader Decl
decl_at ts = if begins_reserved keyword.Peripheral ts then peripheral_at ts else words_at ts
