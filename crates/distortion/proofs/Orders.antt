-- What bounds the bin and the orders. Assumes nothing.
use Rattle.std.proofs.Common.{◌≡◌, ℕ, ◌*◌, ◌<◌, ◌≤◌, Bool, true, false, ◌&&◌, ltb, refl, le_trans, lt_of_lt_of_le, arith, ltb-true}
use lib.Ieee.{Float, lt}
use Rattle.laws.specs.Harmonics.{last_up_to}
use Rattle.laws.specs.Literals.{zero32}
use Rattle.laws.proofs.Harmonics.{taken}
use Rattle.distortion.specs.Thd.{usable}

-- the last order is one that the harmonics' power may take in
pub last_fits : (top half bin n last : ℕ) → last ≡ last_up_to top half bin → 0 < bin → bin < half → half ≤ n → 1 ≤ top → top ≤ 65536 → (bin * last < n) × ((1 ≤ last) × (last ≤ 65536))
last_fits top half bin n last e B H N t u =
    let at_last = (taken top half bin last B (omega arith)).only (omega arith) in
    let first : 1 ≤ last_up_to top half bin = (taken top half bin 1 B (omega arith)).all t (omega arith) in
    (lt_of_lt_of_le at_last.1 N, (omega arith, le_trans at_last.0 u))

-- a usable bin is above 0 and below half
pub usable_bin : (frequency : Float) (half bin : ℕ) → usable frequency half bin ≡ true → (0 < bin) × (bin < half)
unfolding usable
usable_bin frequency half bin e = go (ltb 1 half) (lt zero32 frequency) (ltb 0 bin) (ltb bin half) refl refl e
  where
    no : false ≡ true → ⊥
    no e = let z : ◌≡◌ {A = ℕ} 0 1 = cc in omega arith

    go : (a b c d : Bool) → ltb 0 bin ≡ c → ltb bin half ≡ d → (a && (b && (c && d))) ≡ true → (0 < bin) × (bin < half)
    go false b c d p q e = absurd (no e)
    go true false c d p q e = absurd (no e)
    go true true false d p q e = absurd (no e)
    go true true true false p q e = absurd (no e)
    go true true true true p q e = (ltb-true 0 bin p, ltb-true bin half q)
