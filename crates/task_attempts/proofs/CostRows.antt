-- By how many steps the events of programs must have come, added up by hand and computed.
use Rattle.std.proofs.Common.{◌≡◌, [], ◌∷◌, refl}
use Rattle.task_ast.specs.declared.core_form.CoreExpr.TheBlock.{hidden-the_row-CoreExpr-0, shape-the_row-CoreExpr-0}
use Rattle.task_ast.specs.declared.core_form.CoreStmt.TheBlock.{hidden-the_row-CoreStmt-0, shape-the_row-CoreStmt-0}
use Rattle.word_isa.specs.declared.parts.Scheme.TheVariants.{Undo, Bank}
use Rattle.devices.specs.Reading.{reading, values_in}
use Rattle.devices.specs.Journal.{cell, begins, looks, drops, issues, seals, copies, commits, traps}
use Rattle.task_attempts.specs.State.{Rules}
use Rattle.task_attempts.specs.Boots.{boot_log, boots_from, expect, costs_from, costs}
use Rattle.task_attempts.proofs.Programs as programs
use Rattle.task_attempts.proofs.Programs.{mixed, three_regions, through}
use denote.Hole.Carrier.{hidden}

mixed_rules : Rules
mixed_rules = programs.reading (20 ∷ []) [] mixed

its_events : expect mixed_rules (16 ∷ []) (100 ∷ 200 ∷ 300 ∷ []) ≡
    (begins 1 ∷ looks 1 100 ∷ drops 1 ∷ drops 2 ∷ drops 3 ∷ issues 1 0 [] 20 ∷ seals 1
    ∷ looks 2 200 ∷ looks 3 300 ∷ drops 3 ∷ issues 3 1 (20 ∷ []) 0 ∷ seals 3 ∷ drops 2 ∷ seals 2
    ∷ copies 4 (cell 3 0) (cell 1 0) 2 ∷ seals 4 ∷ []) ∷ []
unfolding hidden-the_row-CoreExpr-0 shape-the_row-CoreExpr-0 hidden-the_row-CoreStmt-0 shape-the_row-CoreStmt-0 hidden boot_log boots_from values_in reading mixed mixed_rules
its_events = refl

-- Each row: what begins, what it adds, the sum; behind it the events that come by then. Region 0 writes no nonvolatile
-- word first, region 1 writes sum and out, 3 words. There are 4 volatile words and no pointer.
--   boot         64 + 16 * 2 regions + 12 * 3 words                        132
--   beginning    64 + 12 * 4 words                                  112    244   begin
--   call 1       96 + 12 * 2 that depend, target 12                 132    376   look 1, drop 1, drop 2, drop 3, issue 1, seal 1
--   block 2      64                                                  64    440   look 2
--   call 3       96, argument v 2 * 12                              120    560   look 3, drop 3, issue 3, seal 3
--   block's end  64                                                  64    624   drop 2, seal 2
--   copy 4       96 + 12 * 3 words, ends and length 3 * 12, 28 * 2  224    848   copy 4, seal 4
--   loop         24 + 24 * 2 turns                                   72
--     its body   2 * (16 + target 12 + sum + v 5 * 12)              176
--   commit       32                                                  32   1128   commit
its_steps_under_undo : costs mixed_rules Undo (17 ∷ []) (100 ∷ 200 ∷ 300 ∷ []) ≡
    (244 ∷ 376 ∷ 376 ∷ 376 ∷ 376 ∷ 376 ∷ 376 ∷ 440 ∷ 560 ∷ 560 ∷ 560 ∷ 560 ∷ 624 ∷ 624 ∷ 848 ∷ 848 ∷ 1128 ∷ []) ∷ []
unfolding hidden-the_row-CoreExpr-0 shape-the_row-CoreExpr-0 hidden-the_row-CoreStmt-0 shape-the_row-CoreStmt-0 hidden boot_log costs_from values_in reading mixed mixed_rules
its_steps_under_undo = refl

-- With two banks the boot is 64 alone, the beginning brings all 3 nonvolatile words level, 64 + 12 * 4 + 12 * 3, and the
-- copy saves nothing, 96 + 36 + 56.
its_steps_with_two_banks : costs mixed_rules Bank (17 ∷ []) (100 ∷ 200 ∷ 300 ∷ []) ≡
    (212 ∷ 344 ∷ 344 ∷ 344 ∷ 344 ∷ 344 ∷ 344 ∷ 408 ∷ 528 ∷ 528 ∷ 528 ∷ 528 ∷ 592 ∷ 592 ∷ 780 ∷ 780 ∷ 1060 ∷ []) ∷ []
unfolding hidden-the_row-CoreExpr-0 shape-the_row-CoreExpr-0 hidden-the_row-CoreStmt-0 shape-the_row-CoreStmt-0 hidden boot_log costs_from values_in reading mixed mixed_rules
its_steps_with_two_banks = refl

-- A boot puts back the words of the regions up to the one behind the furthest whose copy gave an event. Here the regions
-- write 0, 1, 2 and 3 words first, and there are 4 of them and 3 volatile words.
--   first boot, cut behind begin    64 + 16 * 4 + 12 * (0 + 1)           140, and the beginning 64 + 12 * 3 = 100: 240
--     the next event, of copy 1     96 + 12 * 1 + 3 * 12 + 28 * 1 = 172                                            412
--   second, nothing reached         the same 240 and 412, cut behind copy 1
--     the next is its seal          412
--   third, region 1 reached         64 + 16 * 4 + 12 * (0 + 1 + 2)       164 + 100                                 264
--     copy 1 anew                   172                                                                            436
--     copy 2                        96 + 12 * 2 + 3 * 12 + 28 * 2 = 212                                            648
--   fourth, region 2 reached        64 + 16 * 4 + 12 * (0 + 1 + 2 + 3)   200 + 100                                 300
--     copy 1 is kept                172                                                                            472
a_boot_restores_what_may_have_been_written : costs (programs.reading [] [] three_regions) Undo (1 ∷ 2 ∷ 4 ∷ 1 ∷ []) [] ≡
    (240 ∷ 412 ∷ []) ∷ (240 ∷ 412 ∷ 412 ∷ []) ∷ (264 ∷ 436 ∷ 436 ∷ 648 ∷ 648 ∷ []) ∷ (300 ∷ 472 ∷ []) ∷ []
unfolding hidden-the_row-CoreExpr-0 shape-the_row-CoreExpr-0 hidden boot_log costs_from three_regions
a_boot_restores_what_may_have_been_written = refl

-- An index through a pointer may take 12 more, read or written. Region 0 writes the 3 words of a; there are a volatile word
-- and a pointer.
--   boot         64 + 16 + 12 * 3                                          116
--   beginning    64 + 12 * 2 + 12 * 3                               124    240   begin
--   p = &a[1]    16, index 12                                        28    268
--   call 1       96 + 12 that depends, target 12                    120    388   look 1, drop 1, drop 2, issue 1, seal 1
--   p[1] = ..    16, target 12 + 12, p[0] 24 + 12, v and sum 36     112    500
--   call 2       96, target v 24 + 12, argument p[1] 24 + 12        168    668   look 2, drop 2, issue 2, seal 2
--   commit       32                                                  32    700
-- Where the first reading is 2, p[2] is past the end: the target is valued, the argument isn't, 500 + 96 + 36.
through_a_pointer : expect (programs.reading (1 ∷ 2 ∷ []) [] through) (11 ∷ []) [] ≡
    (begins 1 ∷ looks 1 0 ∷ drops 1 ∷ drops 2 ∷ issues 1 0 [] 1 ∷ seals 1 ∷ looks 2 0 ∷ drops 2 ∷ issues 2 0 (9 ∷ []) 2 ∷ seals 2 ∷ commits 0 ∷ []) ∷ []
unfolding hidden-the_row-CoreExpr-0 shape-the_row-CoreExpr-0 hidden boot_log boots_from values_in reading through
through_a_pointer = refl

its_steps : costs (programs.reading (1 ∷ 2 ∷ []) [] through) Undo (11 ∷ []) [] ≡ (240 ∷ 388 ∷ 388 ∷ 388 ∷ 388 ∷ 388 ∷ 668 ∷ 668 ∷ 668 ∷ 668 ∷ 700 ∷ []) ∷ []
unfolding hidden-the_row-CoreExpr-0 shape-the_row-CoreExpr-0 hidden boot_log costs_from values_in reading through
its_steps = refl

past_the_end : expect (programs.reading (2 ∷ []) [] through) (7 ∷ []) [] ≡ (begins 1 ∷ looks 1 0 ∷ drops 1 ∷ drops 2 ∷ issues 1 0 [] 2 ∷ seals 1 ∷ traps 1 ∷ []) ∷ []
unfolding hidden-the_row-CoreExpr-0 shape-the_row-CoreExpr-0 hidden boot_log boots_from values_in reading through
past_the_end = refl

steps_up_to_the_trap : costs (programs.reading (2 ∷ []) [] through) Undo (7 ∷ []) [] ≡ (240 ∷ 388 ∷ 388 ∷ 388 ∷ 388 ∷ 388 ∷ 632 ∷ []) ∷ []
unfolding hidden-the_row-CoreExpr-0 shape-the_row-CoreExpr-0 hidden boot_log costs_from values_in reading through
steps_up_to_the_trap = refl
