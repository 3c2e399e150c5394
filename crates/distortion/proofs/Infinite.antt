-- What a sample that is not finite does to the THD that a signal keeps: no magnitude is finite, so that the fundamental is a NaN, and the earlier THD stays,
-- or it is infinite, and THD is a NaN, or 0 where no harmonic lies below half. Assumes nothing.
use Rattle.std.proofs.Common.{◌≡◌, ℕ, zero, suc, ◌+◌, ◌-◌, ◌*◌, ◌/◌, ◌<◌, ◌≤◌, Bool, true, false, cond, T, ltb, ◌⊎◌, List, length, get_or, sym, refl, ap, ◌∙◌, subst, inl, inr, arith, le-ltb, lt-ltb}
use native.Mathlib.Decide.{dec_le}
use lib.Ieee.{Float, nan, inf, fin, Format, binary64, mul, div, round, neg, lt, of_bits}
use lib.Ieee.Scale.{finite}
use Rattle.laws.specs.Harmonics.{harmonics_of, harmonic_power, last_up_to}
use Rattle.laws.specs.Literals.{zero32, zero64}
use Rattle.laws.specs.Quotients.{percent_of}
use Rattle.laws.specs.Samples.{square_of}
use Rattle.laws.proofs.NotFinite.{add_beyond, beyond_add, beyond_mul, beyond_div}
use Rattle.number.specs.Number.{narrow, root, narrowed_root}
use Rattle.number.proofs.NotFinite.{narrow_beyond}
use Rattle.quarter.specs.Table.{quarter_table}
use Rattle.quarter.specs.Turn.{fraction, quadrant, sine_of, cosine_of}
use Rattle.spectrum.specs.declared.parts.Sums.{Sums}
use Rattle.spectrum.specs.Bin.{angle_of, sums_of, size_of, magnitude_of}
use Rattle.spectrum.proofs.Unusual.{real_beyond}
use Rattle.distortion.specs.Thd.{fundamental_bin, usable, thd_from, thd_at, thd_of}
use Rattle.distortion.proofs.NotNumbers.{silent, kept_of, nan_by_cosine, nan_by_sine}

-- ---- no magnitude is finite
root_beyond : (f : Format) (x : Float) → finite x ≡ false → finite (root f x) ≡ false
unfolding root
root_beyond f nan h = refl
root_beyond f (inf true) h = refl
root_beyond f (inf false) h = refl
root_beyond f (fin s m e) h = absurd (subst T h tt)

size_beyond : (s : Sums) (n : ℕ) → finite s.real ≡ false → finite (size_of s n) ≡ false
unfolding size_of
size_beyond s n h =
    narrow_beyond _ (beyond_div binary64 _ _ (beyond_mul binary64 _ _ (root_beyond binary64 _ (beyond_add binary64 _ _ (beyond_mul binary64 s.real s.real h)))))

-- ---- THD at a fundamental that is infinite: with a harmonic, whose power is then not finite, and without
abbrev pub beside_inf : ℕ → Float
beside_inf last = cond (ltb 1 last) nan zero32

quotient : (w : Float) → finite w ≡ false → percent_of w (inf false) ≡ nan
unfolding mul div
quotient nan h = refl
quotient (inf s) h = refl
quotient (fin s m e) h = absurd (subst T h tt)

over_inf : (power earlier : Float) → finite power ≡ false → thd_from (inf false) power earlier ≡ nan
unfolding thd_from narrowed_root lt of_bits
over_inf power earlier h = quotient (narrow (root binary64 power)) (narrow_beyond _ (root_beyond binary64 power h))

below : (power earlier : Float) → thd_from (inf true) power earlier ≡ earlier
unfolding thd_from lt of_bits
below power earlier = refl

no_power : (earlier : Float) → thd_from (inf false) zero64 earlier ≡ zero32
unfolding thd_from narrowed_root narrow root mul div lt of_bits
no_power earlier = refl

-- the sample at the place j is not finite
module _ (xs : List Float) (j : ℕ) (e : finite (get_or xs j nan) ≡ false) (h : j < length xs) where
  pub magnitude_beyond : (bin : ℕ) → finite (magnitude_of xs bin) ≡ false
  unfolding magnitude_of
  magnitude_beyond bin = size_beyond (sums_of xs bin) (length xs) (real_beyond xs bin j h e)

  power_beyond : (bin last : ℕ) → 1 < last → finite (harmonic_power (magnitude_of xs) bin 2 last) ≡ false
  unfolding harmonic_power harmonics_of square_of
  power_beyond bin last l =
      let m : last + 1 - 2 ≡ suc (last - 2) = omega arith in
      ap (λ (many : ℕ). finite (harmonics_of (magnitude_of xs) bin 2 many)) m ∙ add_beyond binary64 _ _ (beyond_mul binary64 _ _ (magnitude_beyond (bin * (2 + (last - 2)))))

  no_harmonic : (bin last : ℕ) → last ≤ 1 → harmonic_power (magnitude_of xs) bin 2 last ≡ zero64
  unfolding harmonic_power harmonics_of
  no_harmonic bin last l = let m : last + 1 - 2 ≡ 0 = omega arith in ap (harmonics_of (magnitude_of xs) bin 2) m

  at_inf : (bin last : ℕ) (earlier : Float) → thd_from (inf false) (harmonic_power (magnitude_of xs) bin 2 last) earlier ≡ beside_inf last
  at_inf bin last earlier =
      elim (dec_le last 1) [
        | yes l ↦ ap (λ (p : Float). thd_from (inf false) p earlier) (no_harmonic bin last l) ∙ no_power earlier ∙ ap (λ (b : Bool). cond b nan zero32) (sym (le-ltb 1 last l))
        | no l ↦ over_inf _ earlier (power_beyond bin last (omega arith)) ∙ ap (λ (b : Bool). cond b nan zero32) (sym (lt-ltb 1 last (omega arith)))
      ]

  infinite_at : (top bin : ℕ) (earlier : Float) → (thd_at top bin earlier xs ≡ earlier) ⊎ (thd_at top bin earlier xs ≡ beside_inf (last_up_to top (length xs / 2) bin))
  unfolding thd_at
  infinite_at top bin earlier = go (magnitude_of xs bin) (magnitude_beyond bin)
    where
      go : (f : Float) → finite f ≡ false
          → (thd_from f (harmonic_power (magnitude_of xs) bin 2 (last_up_to top (length xs / 2) bin)) earlier ≡ earlier)
          ⊎ (thd_from f (harmonic_power (magnitude_of xs) bin 2 (last_up_to top (length xs / 2) bin)) earlier ≡ beside_inf (last_up_to top (length xs / 2) bin))
      go nan h = inl (silent _ earlier)
      go (inf true) h = inl (below _ earlier)
      go (inf false) h = inr (at_inf bin (last_up_to top (length xs / 2) bin) earlier)
      go (fin s m d) h = absurd (subst T h tt)

  pub infinite_thd : (top : ℕ) (frequency earlier : Float)
      → (thd_of top frequency earlier xs ≡ earlier) ⊎ (thd_of top frequency earlier xs ≡ beside_inf (last_up_to top (length xs / 2) (fundamental_bin frequency (length xs))))
  unfolding thd_of
  infinite_thd top frequency earlier = go (usable frequency (length xs / 2) bin) (infinite_at top bin earlier)
    where
      bin : ℕ
      bin = fundamental_bin frequency (length xs)

      go : (b : Bool) → (thd_at top bin earlier xs ≡ earlier) ⊎ (thd_at top bin earlier xs ≡ beside_inf (last_up_to top (length xs / 2) bin))
          → (cond b (thd_at top bin earlier xs) earlier ≡ earlier) ⊎ (cond b (thd_at top bin earlier xs) earlier ≡ beside_inf (last_up_to top (length xs / 2) bin))
      go true r = r
      go false r = inl refl

-- ---- an infinity a whole number q of quarter turns of the bin on: the sine or the cosine there is 0, and the magnitude a NaN
zero_there : (b : Bool) (q : ℕ) → q < 4 → (mul binary64 (inf b) (cosine_of (q * 1024)) ≡ nan) ⊎ (mul binary64 (inf b) (sine_of (q * 1024)) ≡ nan)
unfolding sine_of cosine_of quadrant fraction quarter_table round neg mul
zero_there b zero l = inr refl
zero_there b (suc zero) l = inl refl
zero_there b (suc (suc zero)) l = inr refl
zero_there b (suc (suc (suc zero))) l = inl refl
zero_there b (suc (suc (suc (suc q)))) l = absurd (past q l)
  where
    past : (q : ℕ) → suc (suc (suc (suc q))) < 4 → ⊥
    past q l = omega arith

module _ (xs : List Float) (j : ℕ) (b : Bool) (e : get_or xs j nan ≡ inf b) (h : j < length xs) where
  pub quarter_magnitude : (bin q : ℕ) → q < 4 → angle_of (length xs) bin j ≡ q * 1024 → magnitude_of xs bin ≡ nan
  quarter_magnitude bin q l a =
      elim (zero_there b q l) [
        | inl c ↦ nan_by_cosine xs bin j h (rw (e, a) c)
        | inr s ↦ nan_by_sine xs bin j h (rw (e, a) s)
      ]

  pub quarter_thd : (top q : ℕ) (frequency earlier : Float) → q < 4 → angle_of (length xs) (fundamental_bin frequency (length xs)) j ≡ q * 1024 → thd_of top frequency earlier xs ≡ earlier
  quarter_thd top q frequency earlier l a = kept_of xs top frequency earlier (quarter_magnitude (fundamental_bin frequency (length xs)) q l a)
