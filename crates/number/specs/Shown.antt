-- Worked values of the definitions, by bit patterns, computed.
use Rattle.std.specs.Prelude.{◌≡◌, refl, [], ◌∷◌, map, ℕ}
use Rattle.std.specs.Float.{Format, binary32, binary64}
use Rattle.std.specs.Float.Ieee.{of_bits, to_bits}
use Rattle.number.specs.Number.{narrow, root, abs, round_away}

narrow_bits : ℕ → ℕ
narrow_bits a = to_bits binary32 (narrow (of_bits binary64 a))

root_bits : Format → ℕ → ℕ
root_bits f a = to_bits f (root f (of_bits f a))

-- 1/3, 1e39, 1e-46, half of the smallest f32 (a tie, to 0), one and a half of it (a tie, to 2), 1e-40, -1e-40, 2 ^ 24 + 1 (a tie), the largest f64 that still
-- rounds down to a finite f32, the next (a tie, to an infinity), -0, an infinity
narrowed :
    map narrow_bits
    (0x3fd5_5555_5555_5555 ∷ 0x4807_8287_f49c_4a1d ∷ 0x3666_244c_e242_c556 ∷ 0x3690_0000_0000_0000 ∷ 0x36a8_0000_0000_0000 ∷ 0x37a1_6c26_2777_579c ∷ 0xb7a1_6c26_2777_579c ∷ 0x4170_0000_1000_0000
    ∷ 0x47ef_ffff_efff_ffff ∷ 0x47ef_ffff_f000_0000 ∷ 0x8000_0000_0000_0000 ∷ 0x7ff0_0000_0000_0000 ∷ [])
    ≡ 0x3eaa_aaab ∷ 0x7f80_0000 ∷ 0 ∷ 0 ∷ 2 ∷ 0x0001_16c2 ∷ 0x8001_16c2 ∷ 0x4b80_0000 ∷ 0x7f7f_ffff ∷ 0x7f80_0000 ∷ 0x8000_0000 ∷ 0x7f80_0000 ∷ []
unfolding narrow_bits narrow of_bits to_bits
narrowed = refl

-- 2, the smallest f64, the largest, 0.1, 1e-310, -0, -1
root64 :
    map (root_bits binary64)
    (0x4000_0000_0000_0000 ∷ 1 ∷ 0x7fef_ffff_ffff_ffff ∷ 0x3fb9_9999_9999_999a ∷ 0x0000_1268_8b70_e62b ∷ 0x8000_0000_0000_0000 ∷ 0xbff0_0000_0000_0000 ∷ [])
    ≡ 0x3ff6_a09e_667f_3bcd ∷ 0x1e60_0000_0000_0000 ∷ 0x5fef_ffff_ffff_ffff ∷ 0x3fd4_3d13_6248_490f ∷ 0x1fc1_2978_72d9_cbae ∷ 0x8000_0000_0000_0000 ∷ 0x7ff8_0000_0000_0000 ∷ []
unfolding root_bits root of_bits to_bits
root64 = refl

-- 2, the smallest f32, 3.4e38, 0.1
root32 :
    map (root_bits binary32) (0x4000_0000 ∷ 1 ∷ 0x7f7f_c99e ∷ 0x3dcc_cccd ∷ [])
    ≡ 0x3fb5_04f3 ∷ 0x1a35_04f3 ∷ 0x5f7f_e4ce ∷ 0x3ea1_e89b ∷ []
unfolding root_bits root of_bits to_bits
root32 = refl

-- 0.5, 0.49999997, -0.5, 2.5, -2.4, 8388607.5, -0, 2 ^ 24 + 2, an infinity
rounded :
    map (λ (a : ℕ). to_bits binary32 (round_away binary32 (of_bits binary32 a)))
    (0x3f00_0000 ∷ 0x3eff_ffff ∷ 0xbf00_0000 ∷ 0x4020_0000 ∷ 0xc019_999a ∷ 0x4aff_ffff ∷ 0x8000_0000 ∷ 0x4b80_0001 ∷ 0x7f80_0000 ∷ [])
    ≡ 0x3f80_0000 ∷ 0 ∷ 0xbf80_0000 ∷ 0x4040_0000 ∷ 0xc000_0000 ∷ 0x4b00_0000 ∷ 0x8000_0000 ∷ 0x4b80_0001 ∷ 0x7f80_0000 ∷ []
unfolding round_away of_bits to_bits
rounded = refl

-- -1, -0, minus infinity
absolute : map (λ (a : ℕ). to_bits binary32 (abs (of_bits binary32 a))) (0xbf80_0000 ∷ 0x8000_0000 ∷ 0xff80_0000 ∷ []) ≡ 0x3f80_0000 ∷ 0 ∷ 0x7f80_0000 ∷ []
unfolding abs of_bits to_bits
absolute = refl
