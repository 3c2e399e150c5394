-- What is claimed of THD over the highest order, and so of its editions (02, e: "What is shown of THD is shown once over the highest order"). Definitions only;
-- each claim is proved in proofs/ByEdition.antt.
use Rattle.std.specs.Prelude.{◌≡◌, ℕ, ◌*◌, ◌/◌, ◌<◌, ◌≤◌, true, List, length, Float}
use Rattle.distortion.specs.Thd.{fundamental_bin, usable, thd_of}
use Rattle.distortion.specs.Editions.{highest_order}

-- "edition 1 (16) .. edition 2 (40)" (`highest-orders`)
abbrev pub HighestOrders : Type 0
HighestOrders = (highest_order 1 ≡ 16) × (highest_order 2 ≡ 40)

-- no order above `top` is below half, of the fundamental bin of this frequency and n samples where it is usable
abbrev pub NoneAbove : ℕ → Float → ℕ → Type 0
NoneAbove top frequency n =
    let bin = fundamental_bin frequency n in
    usable frequency (n / 2) bin ≡ true → (h : ℕ) → top < h → n / 2 ≤ bin * h

-- then a higher limit changes nothing (`no-higher`)
abbrev pub NoHigher : Type 0
NoHigher = (top limit : ℕ) (frequency earlier : Float) (xs : List Float) → top ≤ limit → NoneAbove top frequency (length xs) → thd_of limit frequency earlier xs ≡ thd_of top frequency earlier xs

-- so with no order above 16 below half the two editions give the same THD (`same-thd`)
abbrev pub SameThd : Type 0
SameThd = (frequency earlier : Float) (xs : List Float) → NoneAbove 16 frequency (length xs) → thd_of (highest_order 2) frequency earlier xs ≡ thd_of (highest_order 1) frequency earlier xs
