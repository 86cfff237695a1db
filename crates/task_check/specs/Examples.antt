-- Small programs with their names, faults and checked forms, worked out by hand.
use Rattle.std.specs.Prelude.{◌≡◌, ℕ, ◌+◌, map, List, [], ◌∷◌, Some, None, refl}
use Rattle.ease_base.specs.declared.place.Pos.{Pos}
use Rattle.task_ast.specs.declared.tree.Op2.TheVariants.{Add}
use Rattle.task_ast.specs.declared.tree.Kind.TheVariants.{Nv, Const, Vol}
use Rattle.task_ast.specs.declared.tree.Name.{Name}
use Rattle.task_ast.specs.declared.tree.Expr.{Expr}
use Rattle.task_ast.specs.declared.tree.Expr.TheVariants as expr
use Rattle.task_ast.specs.declared.tree.Expr.TheBlock.{hidden-the_row-Expr-0, shape-the_row-Expr-0}
use Rattle.task_ast.specs.declared.tree.Target.TheVariants as target
use Rattle.task_ast.specs.declared.tree.Stmt.{Stmt}
use Rattle.task_ast.specs.declared.tree.Stmt.TheVariants as stmt
use Rattle.task_ast.specs.declared.tree.Stmt.TheBlock.{hidden-the_row-Stmt-0, shape-the_row-Stmt-0}
use Rattle.task_ast.specs.declared.tree.Exit.{Exit}
use Rattle.task_ast.specs.declared.tree.Exit.TheVariants as exit
use Rattle.task_ast.specs.declared.tree.Exit.TheBlock.{hidden-the_row-Exit-0, shape-the_row-Exit-0}
use Rattle.task_ast.specs.declared.tree.Op1.TheVariants.{Neg}
use Rattle.task_check.specs.declared.error.CheckError.{CheckError}
use Rattle.task_ast.specs.declared.tree.Decl.{Decl}
use Rattle.task_ast.specs.declared.tree.Decl.TheVariants as decl
use Rattle.task_ast.specs.declared.tree.Task.{Task}
use Rattle.task_ast.specs.declared.tree.Program.{Program}
use Rattle.task_ast.specs.declared.core_form.CoreExpr.TheVariants as core
use Rattle.task_ast.specs.declared.core_form.CoreTarget.TheVariants as core_target
use Rattle.task_ast.specs.declared.core_form.CoreEnd.TheVariants as core_end
use Rattle.task_ast.specs.declared.core_form.CoreStmt.{CoreStmt}
use Rattle.task_ast.specs.declared.core_form.CoreStmt.TheVariants as core_stmt
use Rattle.task_ast.specs.declared.core_form.CoreStmt.TheBlock.{hidden-the_row-CoreStmt-0, shape-the_row-CoreStmt-0}
use Rattle.task_ast.specs.declared.core_form.Site.TheVariants as site
use Rattle.task_ast.specs.declared.tree.Ann.TheVariants.{Single, Always}
use Rattle.task_ast.specs.declared.tree.Place.TheVariants as place
use Rattle.task_ast.specs.declared.core_form.CoreExit.TheVariants as core_exit
use denote.Hole.Carrier.{hidden}
use Rattle.task_check.specs.declared.error.CheckError.TheVariants.{UnknownName, TwiceNamed, WrongKind, ConstWritten, DmaUnderIf, TooMany, LimitReached}
use Rattle.task_check.specs.declared.error.Limit.TheVariants.{NvWords, VolWords, Length, PeripheralNumber, Turns, Loops, Sites}
use Rattle.task_check.specs.declared.names.Meaning.TheVariants as meaning
use Rattle.task_check.specs.Names.{declared}
use Rattle.task_check.specs.Faults.{faults, first_fault, Accepted}
use Rattle.task_check.specs.CheckedForm.{core_of}
use Rattle.task_check.specs.Nodes.{nodes_of_task}

-- a place in the first line
abbrev at : ℕ → Pos
at column = record { line = 1; column = column }

-- the letters a, i, t, x and y as names
abbrev a : ℕ → Name
a column = record { text = 97 ∷ []; at = at column }

abbrev i : ℕ → Name
i column = record { text = 105 ∷ []; at = at column }

abbrev t : ℕ → Name
t column = record { text = 116 ∷ []; at = at column }

abbrev x : ℕ → Name
x column = record { text = 120 ∷ []; at = at column }

abbrev y : ℕ → Name
y column = record { text = 121 ∷ []; at = at column }

-- `nv word NAME;`
abbrev word : Name → Decl
word n = decl.Words Nv n None []

-- `NAME = VALUE;`
abbrev assign : Name → Expr → Stmt
assign n e = stmt.Assign (target.Scalar n) e

-- `task NAME { BODY EXIT }`
abbrev task : Name → List Stmt → Exit → Task
task n body e = record { name = n; body = body; exit = e; close = at 99 }

-- `nv word x = 4294967295; task a { x = x + 1; STOP; }`
abbrev counter : Program
counter = record {
  decls = decl.Words Nv (x 9) None (4294967295 ∷ []) ∷ [];
  tasks = task (a 30) (assign (x 34) (expr.Two Add (expr.Read (x 38)) (expr.Number 1 (at 42))) ∷ []) exit.Stop ∷ [];
}

-- x is the array 0, a is the task 1
counter_names : declared counter ≡ (120 ∷ [], meaning.Scalar 0 Nv) ∷ (97 ∷ [], meaning.Task 1) ∷ []
counter_names = refl

counter_accepted : Accepted counter
unfolding faults hidden-the_row-Expr-0 shape-the_row-Expr-0 hidden
counter_accepted = refl

counter_core : core_of counter ≡ record {
  arrays = record { name = 120 ∷ []; kind = Nv; first = 4294967295 ∷ [] } ∷ [];
  pointers = [];
  peripherals = [];
  tasks = record {
    name = 97 ∷ [];
    body = core_stmt.Assign (core_target.Cell 0 (core.Number 0)) (core.Two Add (core.Cell 0 (core.Number 0)) (core.Number 1)) ∷ [];
    exit = core_exit.Stop;
    sites = [];
  } ∷ [];
}
unfolding core_of hidden-the_row-Expr-0 shape-the_row-Expr-0 hidden
counter_core = refl

-- `nv word x; task t { x = x + y; STOP; }`: y isn't declared
unknown_in_sum : first_fault (record { decls = word (x 9) ∷ []; tasks = task (t 17) (assign (x 21) (expr.Two Add (expr.Read (x 25)) (expr.Read (y 29))) ∷ []) exit.Stop ∷ [] }) ≡ Some (UnknownName (at 29))
unfolding faults hidden-the_row-Expr-0 shape-the_row-Expr-0 hidden
unknown_in_sum = refl

-- `nv word t; task t { STOP; }`: the later name is refused
word_and_task : first_fault (record { decls = word (t 9) ∷ []; tasks = task (t 17) [] exit.Stop ∷ [] }) ≡ Some (TwiceNamed (at 17))
unfolding faults
word_and_task = refl

-- `nv word x; nv word x; task t { STOP; }`
two_words : first_fault (record { decls = word (x 9) ∷ word (x 20) ∷ []; tasks = task (t 28) [] exit.Stop ∷ [] }) ≡ Some (TwiceNamed (at 20))
unfolding faults
two_words = refl

-- `nv word x; task t { NEXT(x); }`: x is no task
next_of_word : first_fault (record { decls = word (x 9) ∷ []; tasks = task (t 17) [] (exit.Next (x 26)) ∷ [] }) ≡ Some (WrongKind (at 26))
unfolding faults
next_of_word = refl

-- `nv word x; task t { x = t; STOP; }`: t is no scalar
read_of_task : first_fault (record { decls = word (x 9) ∷ []; tasks = task (t 17) (assign (x 21) (expr.Read (t 25)) ∷ []) exit.Stop ∷ [] }) ≡ Some (WrongKind (at 25))
unfolding faults
read_of_task = refl

-- `task a { y = 1; STOP; } task a { STOP; }`: a fault within the first task comes before the second's name
first_in_text : faults (record { decls = []; tasks = task (a 6) (assign (y 10) (expr.Number 1 (at 14)) ∷ []) exit.Stop ∷ task (a 30) [] exit.Stop ∷ [] }) ≡ UnknownName (at 10) ∷ TwiceNamed (at 30) ∷ []
unfolding faults
first_in_text = refl

-- `task a { NEXT(t); } task t { STOP; }`: a later task is known
later_task : Accepted (record { decls = []; tasks = task (a 6) [] (exit.Next (t 15)) ∷ task (t 26) [] exit.Stop ∷ [] })
unfolding faults
later_task = refl

-- `nv word t; task t { t = t; NEXT(t); }`: where it is used, t is the word
first_bearer : faults (record { decls = word (t 9) ∷ []; tasks = task (t 17) (assign (t 21) (expr.Read (t 25)) ∷ []) (exit.Next (t 33)) ∷ [] }) ≡ TwiceNamed (at 17) ∷ WrongKind (at 33) ∷ []
unfolding faults
first_bearer = refl

-- `word i; const nv word y = 1; nv word a[2]; word x[3] = 7;`
abbrev decls_of_four : List Decl
decls_of_four = decl.Words Vol (i 1) None [] ∷ decl.Words Const (y 2) None (1 ∷ []) ∷ decl.Words Nv (a 3) (Some 2) [] ∷ decl.Words Vol (x 4) (Some 3) (7 ∷ []) ∷ []

-- the faults of one task t with this body behind these declarations
abbrev faults_in : List Decl → List Stmt → List CheckError
faults_in ds body = faults (record { decls = ds; tasks = task (t 5) body exit.Stop ∷ [] })

-- `word i; .. nv word a[2]; ..`: the names tell scalars from arrays, and their kinds
four_names : declared (record { decls = decls_of_four; tasks = [] })
    ≡ (105 ∷ [], meaning.Scalar 0 Vol) ∷ (121 ∷ [], meaning.Scalar 1 Const) ∷ (97 ∷ [], meaning.Array 2 Nv) ∷ (120 ∷ [], meaning.Array 3 Vol) ∷ []
four_names = refl

-- the arrays' words: a declared value, and 0 for the further places
four_arrays : (core_of (record { decls = decls_of_four; tasks = [] })).arrays
    ≡ record { name = 105 ∷ []; kind = Vol; first = 0 ∷ [] } ∷ record { name = 121 ∷ []; kind = Const; first = 1 ∷ [] }
    ∷ record { name = 97 ∷ []; kind = Nv; first = 0 ∷ 0 ∷ [] } ∷ record { name = 120 ∷ []; kind = Vol; first = 7 ∷ 0 ∷ 0 ∷ [] } ∷ []
unfolding core_of
four_arrays = refl

-- `y = a; a = y;`: a bare array is of the wrong kind, also as a target, and y is constant
bare_array : faults_in decls_of_four (assign (y 10) (expr.Read (a 11)) ∷ assign (a 12) (expr.Read (y 13)) ∷ []) ≡ ConstWritten (at 10) ∷ WrongKind (at 11) ∷ WrongKind (at 12) ∷ []
unfolding faults hidden-the_row-Expr-0 shape-the_row-Expr-0 hidden
bare_array = refl

-- `y[i] = i[0];`: an indexed scalar is of the wrong kind, and at the target that comes before its being constant
indexed_scalar : faults_in decls_of_four (stmt.Assign (target.Element (y 10) (expr.Read (i 11))) (expr.Index (i 12) (expr.Number 0 (at 13))) ∷ []) ≡ WrongKind (at 10) ∷ ConstWritten (at 10) ∷ WrongKind (at 12) ∷ []
unfolding faults hidden-the_row-Expr-0 shape-the_row-Expr-0 hidden
indexed_scalar = refl

-- `for (VARIABLE = 0; VARIABLE < TURNS; VARIABLE++) { BODY }` at a column: the word, the variable and the turns
abbrev for : ℕ → Name → ℕ → List Stmt → Stmt
for column variable turns body = stmt.For variable turns (at (column + 2)) body (at column)

-- `for (i ..) { i = 1; for (i ..) { } } i = 1;`: inside its loop a variable is neither assigned nor a variable again
variable_inside : faults_in decls_of_four (for 10 (i 11) 4 (assign (i 13) (expr.Number 1 (at 14)) ∷ for 15 (i 16) 4 [] ∷ []) ∷ assign (i 18) (expr.Number 1 (at 19)) ∷ []) ≡ WrongKind (at 13) ∷ WrongKind (at 16) ∷ []
unfolding faults hidden-the_row-Stmt-0 shape-the_row-Stmt-0 hidden
variable_inside = refl

-- `for (x ..) { } for (y ..) { } for (t ..) { }`: a variable is a volatile scalar, and no array, constant or task
wrong_variables : faults_in decls_of_four (for 10 (x 11) 4 [] ∷ for 13 (y 14) 4 [] ∷ for 16 (t 17) 4 [] ∷ []) ≡ WrongKind (at 11) ∷ WrongKind (at 14) ∷ WrongKind (at 17) ∷ []
unfolding faults hidden-the_row-Stmt-0 shape-the_row-Stmt-0 hidden
wrong_variables = refl

-- 65,535 turns are allowed and 65,536 aren't
turns_pass : faults_in decls_of_four (for 10 (i 11) 65535 [] ∷ for 13 (i 14) 65536 [] ∷ []) ≡ LimitReached (at 15) Turns 65536 ∷ []
unfolding faults hidden-the_row-Stmt-0 shape-the_row-Stmt-0 hidden
turns_pass = refl

-- volatile scalars named by one letter each
abbrev letters : List ℕ → List Decl
letters bytes = map (λ b. decl.Words Vol (record { text = b ∷ []; at = at b }) None []) bytes

abbrev letter : ℕ → Name
letter b = record { text = b ∷ []; at = at b }

-- a loop inside three loops is the fourth
loops_pass : faults_in (letters (101 ∷ 102 ∷ 103 ∷ 104 ∷ [])) (for 10 (letter 101) 2 (for 20 (letter 102) 2 (for 30 (letter 103) 2 (for 40 (letter 104) 2 [] ∷ []) ∷ []) ∷ []) ∷ []) ≡ LimitReached (at 40) Loops 4 ∷ []
unfolding faults hidden-the_row-Stmt-0 shape-the_row-Stmt-0 hidden
loops_pass = refl

-- `nv word a[2047]; const nv word y = 1; nv word x; task t { STOP; }`: constants are in the sum, which passes at x
nv_words_pass : faults_in (decl.Words Nv (a 1) (Some 2047) [] ∷ decl.Words Const (y 2) None (1 ∷ []) ∷ word (x 3) ∷ []) [] ≡ LimitReached (at 3) NvWords 2049 ∷ []
unfolding faults
nv_words_pass = refl

-- `word a[2049]; nv word x[2048]; task t { STOP; }`: volatile words have a sum of their own
vol_words_pass : first_fault (record { decls = decl.Words Vol (a 1) (Some 2049) [] ∷ decl.Words Nv (x 2) (Some 2048) [] ∷ []; tasks = task (t 5) [] exit.Stop ∷ [] }) ≡ Some (LimitReached (at 1) VolWords 2049)
unfolding faults
vol_words_pass = refl

-- `nv word x[0] = 1; word y = {1, 2}; word a[0];`: too many values, and an array without a word
lengths : faults_in (decl.Words Nv (x 1) (Some 0) (1 ∷ []) ∷ decl.Words Vol (y 2) None (1 ∷ 2 ∷ []) ∷ decl.Words Vol (a 3) (Some 0) [] ∷ []) []
    ≡ TooMany (at 1) ∷ LimitReached (at 1) Length 0 ∷ TooMany (at 2) ∷ LimitReached (at 3) Length 0 ∷ []
unfolding faults
lengths = refl

-- `a[i] = (y); if (1) { x = -i; } for (i ..) { } if (1) STOP; else STOP;`: 4, 6, 1 and 4 nodes
nodes_counted : nodes_of_task (task (t 5) (
    stmt.Assign (target.Element (a 10) (expr.Read (i 11))) (expr.Paren (expr.Read (y 12)))
    ∷ stmt.If (expr.Number 1 (at 13)) (assign (x 14) (expr.One Neg (expr.Read (i 15))) ∷ []) []
    ∷ for 16 (i 17) 4 [] ∷ []) (exit.Choose (expr.Number 1 (at 20)) exit.Stop exit.Stop)) ≡ 15
unfolding hidden-the_row-Expr-0 shape-the_row-Expr-0 hidden-the_row-Stmt-0 shape-the_row-Stmt-0 hidden-the_row-Exit-0 shape-the_row-Exit-0 hidden
nodes_counted = refl

-- `if (y) { for (i ..) { x[i] = y; } }` and its checked form
loop_core : (core_of (record { decls = decls_of_four; tasks = task (t 5) (stmt.If (expr.Read (y 10)) (for 11 (i 12) 3 (stmt.Assign (target.Element (x 14) (expr.Read (i 15))) (expr.Paren (expr.Read (y 16))) ∷ []) ∷ []) [] ∷ []) exit.Stop ∷ [] })).tasks
    ≡ record {
      name = 116 ∷ [];
      body = core_stmt.If (core.Cell 1 (core.Number 0)) (core_stmt.Loop 0 3 (core_stmt.Assign (core_target.Cell 3 (core.Cell 0 (core.Number 0))) (core.Cell 1 (core.Number 0)) ∷ []) ∷ []) [] ∷ [];
      exit = core_exit.Stop;
      sites = [];
    } ∷ []
unfolding core_of hidden-the_row-Expr-0 shape-the_row-Expr-0 hidden-the_row-Stmt-0 shape-the_row-Stmt-0 hidden-the_row-CoreStmt-0 hidden
loop_core = refl

-- `peripheral NAME NUMBER;` and `word *NAME;`
abbrev device : Name → ℕ → Decl
device n number = decl.Peripheral n number

-- `p` as a name
abbrev p : ℕ → Name
p column = record { text = 112 ∷ []; at = at column }

-- `IO(p, SINGLE);` with the name behind the word
abbrev call : ℕ → Stmt
call column = stmt.Io None (p (column + 1)) Single [] (at column)

-- `peripheral p 7; peripheral x 7; peripheral y 256;`: a number twice, and one that is too high
numbers_of_peripherals : faults_in (device (p 1) 7 ∷ device (x 2) 7 ∷ device (y 3) 256 ∷ []) [] ≡ TwiceNamed (at 2) ∷ LimitReached (at 3) PeripheralNumber 256 ∷ []
unfolding faults
numbers_of_peripherals = refl

-- `word *p; const nv word y; peripheral x 0;` are numbered apart
kinds_apart : declared (record { decls = decl.Pointer (p 1) ∷ decl.Words Const (y 2) None [] ∷ device (x 3) 0 ∷ decl.Words Vol (a 4) (Some 2) [] ∷ []; tasks = [] })
    ≡ (112 ∷ [], meaning.Pointer 0) ∷ (121 ∷ [], meaning.Scalar 0 Const) ∷ (120 ∷ [], meaning.Peripheral 0) ∷ (97 ∷ [], meaning.Array 1 Vol) ∷ []
kinds_apart = refl

-- `word *p; const nv word y[1]; word x[3]; word i; peripheral a 0;`
abbrev decls_of_five : List Decl
decls_of_five = decl.Pointer (p 1) ∷ decl.Words Const (y 2) (Some 1) [] ∷ decl.Words Vol (x 3) (Some 3) [] ∷ decl.Words Vol (i 4) None [] ∷ device (a 5) 0 ∷ []

-- `NAME[0]` and `&NAME[0]`
abbrev zero_at : ℕ → Expr
zero_at column = expr.Number 0 (at column)

-- `p[0] = 1; p = &y[0];`: the address counts wherever it is given
through_a_constant : faults_in decls_of_five (stmt.Assign (target.Element (p 10) (zero_at 11)) (zero_at 12) ∷ stmt.Point (p 13) (place.Element (y 14) (zero_at 15)) ∷ []) ≡ ConstWritten (at 10) ∷ []
unfolding faults hidden-the_row-Stmt-0 shape-the_row-Stmt-0 hidden-the_row-Expr-0 shape-the_row-Expr-0 hidden
through_a_constant = refl

-- `for (i ..) { p[0] = 1; p = &i; }`: through a pointer a loop's variable isn't written inside the loop, and behind it is
through_a_variable : faults_in decls_of_five (for 10 (i 11) 4 (stmt.Assign (target.Element (p 13) (zero_at 14)) (zero_at 15) ∷ stmt.Point (p 16) (place.Scalar (i 17)) ∷ []) ∷ stmt.Assign (target.Element (p 20) (zero_at 21)) (zero_at 22) ∷ []) ≡ WrongKind (at 13) ∷ []
unfolding faults hidden-the_row-Stmt-0 shape-the_row-Stmt-0 hidden-the_row-Expr-0 shape-the_row-Expr-0 hidden-the_row-CoreStmt-0 hidden
through_a_variable = refl

-- `p = &y; x = p; DMA(i, &x, 1); DMA(y, &p[0], 1);`: an array behind `&`, a pointer that is read, a bare scalar as an end, an
-- array behind `&` as an end, a constant destination, a pointer indexed behind `&`
wrong_ends : faults_in decls_of_five (
    stmt.Point (p 10) (place.Scalar (y 11)) ∷ assign (i 12) (expr.Read (p 13))
    ∷ stmt.Dma (place.Bare (i 15)) (place.Scalar (x 16)) (zero_at 17) (at 14)
    ∷ stmt.Dma (place.Bare (y 19)) (place.Element (p 20) (zero_at 21)) (zero_at 22) (at 18) ∷ [])
    ≡ WrongKind (at 11) ∷ WrongKind (at 13) ∷ WrongKind (at 15) ∷ WrongKind (at 16) ∷ ConstWritten (at 19) ∷ WrongKind (at 20) ∷ []
unfolding faults hidden-the_row-Stmt-0 shape-the_row-Stmt-0 hidden-the_row-Expr-0 shape-the_row-Expr-0 hidden
wrong_ends = refl

-- `if (0) { IO_BLOCK(ALWAYS) { DMA(x, x, 0); } }`: a copy under an `if`, also in a block; a fifth argument
copies_and_arguments : faults_in decls_of_five (
    stmt.If (zero_at 10) (stmt.Block Always (stmt.Dma (place.Bare (x 13)) (place.Bare (x 14)) (zero_at 15) (at 12) ∷ []) (at 11) ∷ []) []
    ∷ stmt.Io None (a 21) Single (zero_at 22 ∷ zero_at 23 ∷ zero_at 24 ∷ zero_at 25 ∷ zero_at 26 ∷ []) (at 20) ∷ [])
    ≡ DmaUnderIf (at 12) ∷ TooMany (at 20) ∷ []
unfolding faults hidden-the_row-Stmt-0 shape-the_row-Stmt-0 hidden-the_row-Expr-0 shape-the_row-Expr-0 hidden
copies_and_arguments = refl

-- `word i; peripheral p 0;`
abbrev decls_of_sites : List Decl
decls_of_sites = decl.Words Vol (i 1) None [] ∷ device (p 2) 0 ∷ []

-- `for (i = 0; i < TURNS; i++) { IO(p, SINGLE); IO(p, SINGLE); } IO(p, SINGLE);`
abbrev calls : ℕ → List Stmt
calls turns = for 10 (i 11) turns (call 13 ∷ call 15 ∷ []) ∷ call 17 ∷ []

-- 129 sites are one too many, and 65 turns of an unrolled loop too, whose sites are 131
sites_pass : faults_in decls_of_sites (calls 64) ≡ LimitReached (at 99) Sites 129 ∷ []
unfolding faults hidden-the_row-Stmt-0 shape-the_row-Stmt-0 hidden
sites_pass = refl

turns_of_sites : faults_in decls_of_sites (calls 65) ≡ LimitReached (at 12) Turns 65 ∷ LimitReached (at 99) Sites 131 ∷ []
unfolding faults hidden-the_row-Stmt-0 shape-the_row-Stmt-0 hidden
turns_of_sites = refl

-- `for (i = 0; i < 2; i++) { IO_BLOCK(ALWAYS) { i = IO(p, SINGLE, i); } } DMA(..)` but for its being refused: the loop's turns one after
-- another, its variable set before each turn and behind the last, and the sites numbered through
abbrev looped : List Stmt
looped = for 10 (i 11) 2 (stmt.Block Always (stmt.Io None (p 14) Single (expr.Read (i 15) ∷ []) (at 13) ∷ []) (at 12) ∷ []) ∷ call 20 ∷ []

abbrev set : ℕ → CoreStmt
set n = core_stmt.Assign (core_target.Cell 0 (core.Number 0)) (core.Number n)

abbrev block_of : ℕ → CoreStmt
block_of k = core_stmt.Block k (core_stmt.Io (k + 1) None 0 (core.Cell 0 (core.Number 0) ∷ []) ∷ [])

unrolled_core : (core_of (record { decls = decls_of_sites; tasks = task (t 5) looped exit.Stop ∷ [] })).tasks
    ≡ record {
      name = 116 ∷ [];
      body = set 0 ∷ block_of 1 ∷ set 1 ∷ block_of 3 ∷ set 2 ∷ core_stmt.Io 5 None 0 [] ∷ [];
      exit = core_exit.Stop;
      sites = site.Block Always ∷ site.Io Single ∷ site.Block Always ∷ site.Io Single ∷ site.Io Single ∷ [];
    } ∷ []
unfolding core_of hidden-the_row-Expr-0 shape-the_row-Expr-0 hidden-the_row-Stmt-0 shape-the_row-Stmt-0 hidden-the_row-CoreStmt-0 shape-the_row-CoreStmt-0 hidden
unrolled_core = refl

-- its nodes: twice a block, a call and its argument, three settings, a call, and the exit
unrolled_nodes : nodes_of_task (task (t 5) looped exit.Stop) ≡ 17
unfolding hidden-the_row-Expr-0 shape-the_row-Expr-0 hidden-the_row-Stmt-0 shape-the_row-Stmt-0 hidden
unrolled_nodes = refl

-- a loop of no turns sets its variable, whatever its body has
no_turns : (core_of (record { decls = decls_of_sites; tasks = task (t 5) (for 10 (i 11) 0 (call 13 ∷ []) ∷ []) exit.Stop ∷ [] })).tasks
    ≡ record { name = 116 ∷ []; body = set 0 ∷ []; exit = core_exit.Stop; sites = [] } ∷ []
unfolding core_of hidden-the_row-Stmt-0 shape-the_row-Stmt-0 hidden
no_turns = refl

-- `p = &x[0]; p = &y[0]; DMA(p, y, 1);`: the greatest length is the lesser of the two ends' longest arrays
copied_core : (core_of (record {
  decls = decls_of_five;
  tasks = task (t 6) (
      stmt.Point (p 10) (place.Element (x 11) (zero_at 12)) ∷ stmt.Dma (place.Bare (x 13)) (place.Bare (p 14)) (zero_at 15) (at 12)
      ∷ stmt.Dma (place.Bare (x 16)) (place.Bare (y 17)) (zero_at 18) (at 15) ∷ []) exit.Stop ∷ [];
})).tasks
    ≡ record {
      name = 116 ∷ [];
      body = core_stmt.Point 0 1 (core.Number 0) ∷ core_stmt.Copy 1 (core_end.Cell 1 (core.Number 0)) (core_end.Pointer 0) (core.Number 0)
          ∷ core_stmt.Copy 2 (core_end.Cell 1 (core.Number 0)) (core_end.Cell 0 (core.Number 0)) (core.Number 0) ∷ [];
      exit = core_exit.Stop;
      sites = site.Copy 3 ∷ site.Copy 1 ∷ [];
    } ∷ []
unfolding core_of hidden-the_row-Expr-0 shape-the_row-Expr-0 hidden-the_row-Stmt-0 shape-the_row-Stmt-0 hidden
copied_core = refl
