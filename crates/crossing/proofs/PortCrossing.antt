-- A port that crosses the boundary and comes back is the port it was; and what the two functions that take its places across need. Assumes nothing.
use Rattle.std.proofs.Common.{◌≡◌, ℕ, List, [], ◌∷◌, map, length, get_or, refl, ap, arith, Option, Some, None, Float}
use Rattle.laws.specs.Filled.{filled}
use Rattle.port.specs.declared.Port.{Port}
use Rattle.crossing.specs.PortCrossing.{reading_in, reading_out, port_in, port_out}

-- a list filled place by place from another
pub filled_maps : {A B : Type 0} (g : A → B) (d : A) (s : List A) (out : List B) → length out ≡ length s → filled (λ (j : ℕ). g (get_or s j d)) (length s) out ≡ map g s
unfolding filled
filled_maps g d [] [] e = refl
filled_maps g d [] (o ∷ out) e = absurd (omega arith)
filled_maps g d (x ∷ s) [] e = absurd (omega arith)
filled_maps {B = B} g d (x ∷ s) (o ∷ out) e = ap (λ (l : List B). g x ∷ l) (filled_maps g d s out (omega arith))

reading_back : (r : Option Float) → reading_in (reading_out r) ≡ r
reading_back (Some x) = refl
reading_back None = refl

places_back : (l : List (Option Float)) → map reading_in (map reading_out l) ≡ l
places_back [] = refl
places_back (s ∷ l) = rw (reading_back s, places_back l)

-- nothing is lost on the way out and in again
pub port_back : (p : Port) → port_in (port_out p) ≡ p
port_back p = rw (
  reading_back p.frequency,
  reading_back p.phase_angle,
  reading_back p.reactive_power,
  reading_back p.apparent_power,
  reading_back p.power_factor,
  reading_back p.displacement_pf,
  reading_back p.voltage_thd,
  reading_back p.current_thd,
  reading_back p.voltage_crest_factor,
  reading_back p.current_crest_factor,
  places_back p.voltage_harmonics,
  places_back p.current_harmonics,
  reading_back p.efficiency,
  reading_back p.losses,
  reading_back p.temperature,
)
