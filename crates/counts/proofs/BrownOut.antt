-- One sample more among others (`one_more`), and words of all ones: each counts as one more that is no number (`brown_out`). Assumes nothing.
use Prim.Native.Nat.{ℕ, zero, suc, ◌+◌}
use native.Mathlib.Nat.{zero-add}
use native.Mathlib.Omega.{arith}
use mathlib.Core.Path.{◌≡◌, refl, sym, ◌∙◌}
use mathlib.Core.List.{List, ◌++◌}
use lib.ListN.{replicate}
use lib.Ieee.{Float, is_nan, binary32, of_bits}
use Rattle.laws.proofs.HowMany.{how_many_among}
use Rattle.counts.specs.Counts.{is_infinite, not_numbers_of, infinite_of}
use Rattle.counts.specs.Claims.{samples_of, OneMore, all_ones, BrownOut}

pub one_more_lem : OneMore
unfolding not_numbers_of infinite_of
one_more_lem before x after = (how_many_among is_nan before x after, how_many_among is_infinite before x after)

abbrev among : List Float → ℕ → List Float → List Float
among before n after = before ++ (samples_of (replicate n all_ones) ++ after)

no_numbers : (before after : List Float) (n : ℕ) → not_numbers_of (among before n after) ≡ n + not_numbers_of (before ++ after)
unfolding is_nan of_bits
no_numbers before after zero = sym (zero-add (not_numbers_of (before ++ after)))
no_numbers before after (suc n) =
    (one_more_lem before (of_bits binary32 all_ones) (samples_of (replicate n all_ones) ++ after)).0
    ∙ added n (not_numbers_of (before ++ after)) (no_numbers before after n)
  where
    added : (n m : ℕ) {k : ℕ} → k ≡ n + m → 1 + k ≡ suc n + m
    added n m e = omega arith

none_infinite : (before after : List Float) (n : ℕ) → infinite_of (among before n after) ≡ infinite_of (before ++ after)
unfolding is_infinite of_bits
none_infinite before after zero = refl
none_infinite before after (suc n) =
    (one_more_lem before (of_bits binary32 all_ones) (samples_of (replicate n all_ones) ++ after)).1
    ∙ (zero-add (infinite_of (among before n after)) ∙ none_infinite before after n)

pub brown_out : BrownOut
brown_out before after n = (no_numbers before after n, none_infinite before after n)
