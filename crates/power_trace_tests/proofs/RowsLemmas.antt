-- Worlds of short rows are within the limits.
use Rattle.std.proofs.Common.{◌≡◌, ◌∙◌, ℕ, zero, suc, ◌+◌, ◌^◌, ◌<◌, ◌≤◌, All, List, [], ◌∷◌, length, get_or, refl, ap, sym, subst, lit≤, arith}
use Rattle.std.proofs.lemmas.Grind.{get_or_default_zero}
use Rattle.std.specs.List.{IsDistinct}
use Rattle.devices.specs.World.{AreDistinct, AreWords, IsRow, IsFeed, IsWithinLimits, steps_of, ticks_of}
use Rattle.devices.specs.declared.world.Feed.{Feed}
use Rattle.devices.specs.declared.world.PowerRow.{PowerRow}
use Rattle.devices.specs.declared.world.World.{World}
use Rattle.power_trace_tests.specs.Rows.{IsShort, AreShort}

pub no_rows_short : (rows : List PowerRow) → rows ≡ [] → AreShort rows
no_rows_short rows is = subst AreShort (sym is) (record { few = lit≤ tt; each = λ k d h. absurd (omega (arith, h)) })

pub one_row_short : (one : PowerRow) (rows : List PowerRow) → IsShort one → rows ≡ one ∷ [] → AreShort rows
one_row_short one rows short is = subst AreShort (sym is) (record { few = lit≤ tt; each = all })
  where
    all : All IsShort (one ∷ [])
    all zero d h = short
    all (suc k) d h = absurd (omega (arith, h))

pub two_rows_short : (one two : PowerRow) (rows : List PowerRow) → IsShort one → IsShort two → rows ≡ one ∷ two ∷ [] → AreShort rows
two_rows_short one two rows first second is = subst AreShort (sym is) (record { few = lit≤ tt; each = all })
  where
    all : All IsShort (one ∷ two ∷ [])
    all zero d h = first
    all (suc zero) d h = second
    all (suc (suc k)) d h = absurd (omega (arith, h))

short_steps : (rows : List PowerRow) → AreShort rows → steps_of rows ≤ 131070
short_steps [] h = omega arith
short_steps (a ∷ []) h = omega (arith, (h.each 0 a (lit≤ tt)).on)
short_steps (a ∷ b ∷ []) h = omega (arith, (h.each 0 a (lit≤ tt)).on, (h.each 1 a (lit≤ tt)).on)
short_steps (a ∷ b ∷ c ∷ rows) h = absurd (omega (arith, h.few))

short_ticks : (rows : List PowerRow) → AreShort rows → ticks_of rows ≤ 262140
short_ticks [] h = omega arith
short_ticks (a ∷ []) h = omega (arith, (h.each 0 a (lit≤ tt)).on, (h.each 0 a (lit≤ tt)).off)
short_ticks (a ∷ b ∷ []) h = omega (arith, (h.each 0 a (lit≤ tt)).on, (h.each 0 a (lit≤ tt)).off, (h.each 1 a (lit≤ tt)).on, (h.each 1 a (lit≤ tt)).off)
short_ticks (a ∷ b ∷ c ∷ rows) h = absurd (omega (arith, h.few))

one_distinct : (values : List ℕ) → AreDistinct (record { number = 0; values = values } ∷ [])
unfolding IsDistinct
one_distinct values = (tt, tt)

one_fits : (values : List ℕ) → AreWords values → All IsFeed (record { number = 0; values = values } ∷ [])
one_fits values words zero d h = record { number = lit≤ tt; values = words }
one_fits values words (suc k) d h = absurd (omega (arith, h))

-- numbers of 32 bits, each read with the default 0
pub words_of : (values : List ℕ) → ((i : ℕ) → get_or values i 0 < 2 ^ 32) → AreWords values
words_of values fits k d h = subst (λ x. x < 2 ^ 32) (sym (get_or_default_zero values k d h)) (fits k)

pub within : (w : World) (values : List ℕ) → AreShort w.power → w.feeds ≡ record { number = 0; values = values } ∷ [] → AreWords values → w.retained ≡ [] → IsWithinLimits w
within w values short feeds words none = record {
  distinct = subst AreDistinct (sym feeds) (one_distinct values);
  feeds = subst (All IsFeed) (sym feeds) (one_fits values words);
  rows = λ k d h. let s = short.each k d h in record { on = omega (arith, s.on); off = omega (arith, s.off); fill = omega (arith, s.fill) };
  retained = subst AreWords (sym none) (λ k d h. absurd (omega (arith, h)));
  steps = omega (arith, short_steps w.power short);
  ticks = omega (arith, short_ticks w.power short);
}
