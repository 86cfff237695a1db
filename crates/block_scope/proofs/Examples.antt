-- Every row of the table of blocks, computed: a record made at time 3, the block begun at time 8.
use Rattle.std.proofs.Common.{◌≡◌, Some, None, [], ◌∷◌, refl}
use Rattle.task_ast.specs.declared.tree.Ann.TheVariants.{Single, Timely, Always}
use Rattle.io_annot.specs.declared.choice.Mode.TheVariants.{Own, Keep, Force}
use Rattle.block_scope.specs.Enter.{entered}
use Rattle.block_scope.specs.Scopes.{innermost}

-- where a block around it keeps or forces, that one decides
inside_keep : entered Keep Always (Some 3) 8 ≡ Keep
inside_keep = refl

inside_keep_none : entered Keep Single None 8 ≡ Keep
inside_keep_none = refl

inside_force : entered Force Single (Some 3) 8 ≡ Force
inside_force = refl

-- ALWAYS forces, with a record and without
always : entered Own Always (Some 3) 8 ≡ Force
always = refl

always_none : entered Own Always None 8 ≡ Force
always_none = refl

-- a block that was done keeps, until its record is expired
single : entered Own Single (Some 3) 8 ≡ Keep
single = refl

timely : entered Own (Timely 5) (Some 3) 8 ≡ Keep
timely = refl

timely_expired : entered Own (Timely 4) (Some 3) 8 ≡ Force
timely_expired = refl

-- without a record each site inside decides for itself
single_none : entered Own Single None 8 ≡ Own
single_none = refl

timely_none : entered Own (Timely 4) None 8 ≡ Own
timely_none = refl

-- the innermost of no block, and of two
no_block : innermost [] ≡ Own
no_block = refl

two_blocks : innermost (Keep ∷ Force ∷ []) ≡ Force
two_blocks = refl
