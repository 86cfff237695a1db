-- Reports of small journals, worked out by hand.
use Rattle.std.specs.Prelude.{◌≡◌, Bool, true, false, [], ◌∷◌, codes, refl}
use Rattle.std.specs.Fmt.{digits}
use Rattle.devices.specs.Journal.{Journal, cell, keep, address, looks, issues, copies}
use Rattle.devices.specs.declared.event.RunEnd.TheVariants.{Halted, Power}
use Rattle.task_ast.specs.declared.tree.Kind.TheVariants.{Nv}
use Rattle.power_trace.specs.Report.{Style, report}

-- a symbol `a`, and the peripheral 0 with the name `temp`
abbrev style : Bool → Style
style brief = record {
  symbols = record { name = codes "a"; kind = Nv; base = 1; length = 4 } ∷ [];
  peripherals = record { name = codes "temp"; number = 0 } ∷ [];
  brief = brief;
}

-- the power fails once, and the machine halts
twice : Journal
twice = record {
  boots =
      record { begun_at = 0; events = (2, looks 0 1) ∷ (3, issues 0 0 (7 ∷ []) 9) ∷ [] }
      ∷ record { begun_at = 3; events = (5, looks 0 14) ∷ (6, issues 0 0 (7 ∷ []) 9) ∷ [] } ∷ [];
  steps = 8;
  ending = Halted;
}

full : report (style false) twice ≡ codes "0 boot 1\n2 look 0 1\n3 issue 0 temp 7 = 9\n3 boot 2\n5 look 0 14\n6 issue 0 temp 7 = 9\n8 end halted\n"
unfolding twice digits
full = refl

brief : report (style true) twice ≡ codes "boot 1\nlook 0\nissue 0 temp 7 = 9\nboot 2\nlook 0\nissue 0 temp 7 = 9\nend halted\n"
unfolding twice digits
brief = refl

-- no power rows
nothing : report (style false) (record { boots = []; steps = 0; ending = Power }) ≡ codes "0 end power\n"
unfolding digits
nothing = refl

-- places of a symbol, kept words and neither, and a peripheral without a name
copied : report (style true) (record { boots = record { begun_at = 0; events = (7, copies 1 (cell 0 3) keep 2) ∷ (8, copies 0 (address 8) (address 10) 3) ∷ (9, issues 2 7 [] 0) ∷ [] } ∷ []; steps = 9; ending = Power })
    ≡ codes "boot 1\ncopy 1 a[3] keep 2\ncopy 0 @8 @10 3\nissue 2 #7 = 0\nend power\n"
unfolding digits
copied = refl
