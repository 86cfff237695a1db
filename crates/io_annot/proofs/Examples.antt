-- Every row of the table of I/O sites, computed: a record of value 20 that was made at time 3, looked at at time 8.
use Rattle.std.proofs.Common.{◌≡◌, true, false, Some, None, refl}
use Rattle.task_ast.specs.declared.tree.Ann.TheVariants.{Single, Timely, Always}
use Rattle.io_annot.specs.declared.choice.Mode.TheVariants as mode
use Rattle.io_annot.specs.declared.choice.Choice.TheVariants.{Keep, Issue}
use Rattle.io_annot.specs.Choice.{is_expired, choice}

-- five ticks have passed: that is too many for 4, and not for 5
expired : is_expired 4 3 8 ≡ true
expired = refl

not_expired : is_expired 5 3 8 ≡ false
not_expired = refl

-- without a record a site issues, in a block that keeps too
none_own : choice mode.Own Single None 8 ≡ Issue
none_own = refl

none_keep : choice mode.Keep (Timely 5) None 8 ≡ Issue
none_keep = refl

none_force : choice mode.Force Always None 8 ≡ Issue
none_force = refl

-- in a block that keeps, each annotation keeps
keep_always : choice mode.Keep Always (Some (20, 3)) 8 ≡ Keep 20
keep_always = refl

keep_expired : choice mode.Keep (Timely 4) (Some (20, 3)) 8 ≡ Keep 20
keep_expired = refl

-- in a block that forces, each issues
force_single : choice mode.Force Single (Some (20, 3)) 8 ≡ Issue
force_single = refl

force_timely : choice mode.Force (Timely 5) (Some (20, 3)) 8 ≡ Issue
force_timely = refl

-- and else the site's own annotation decides
own_single : choice mode.Own Single (Some (20, 3)) 8 ≡ Keep 20
own_single = refl

own_timely : choice mode.Own (Timely 5) (Some (20, 3)) 8 ≡ Keep 20
own_timely = refl

own_expired : choice mode.Own (Timely 4) (Some (20, 3)) 8 ≡ Issue
own_expired = refl

own_always : choice mode.Own Always (Some (20, 3)) 8 ≡ Issue
own_always = refl
