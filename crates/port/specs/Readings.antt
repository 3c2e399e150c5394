-- Harmonic places, instantaneous power, and the port that a reset gives. Definitions only.
use Rattle.std.specs.Prelude.{true, false, cond, List, ℕ, ltb, set, get_or, replicate, Float, Option, Some, None}
use Rattle.std.specs.Float.{binary32, nan}
use Rattle.std.specs.Float.Ieee.{mul}
use Rattle.laws.specs.Literals.{zero32, zero64}
use Rattle.port.specs.declared.Port.{Port}

-- ---- 01, item 9: "Harmonic places are 0 to 15; a higher one reads absent and setting it does nothing"

-- the reading at place n; the element past the list's end is read nowhere
abbrev pub place_of : List (Option Float) → ℕ → Option Float
place_of h n = cond (ltb n 16) (get_or h n (Some nan)) None

-- the places with v at n
abbrev pub with_place : List (Option Float) → ℕ → Option Float → List (Option Float)
with_place h n v = cond (ltb n 16) (set h n v) h

-- ---- 01, item 9, `instantaneous_power`: the Rust's `self.voltage * self.current`, in f32

abbrev pub instantaneous_power : Port → Float
instantaneous_power p = mul binary32 p.voltage p.current

-- ---- 01, item 9, `reset_power_params`: the Rust's defaults

abbrev pub cleared : Port
cleared = record {
  voltage = zero32;
  current = zero32;
  frequency = None;
  phase_angle = None;
  active_power = zero32;
  reactive_power = None;
  apparent_power = None;
  power_factor = None;
  displacement_pf = None;
  energy_imported = zero64;
  energy_exported = zero64;
  voltage_thd = None;
  current_thd = None;
  voltage_crest_factor = None;
  current_crest_factor = None;
  voltage_harmonics = replicate 16 None;
  current_harmonics = replicate 16 None;
  efficiency = None;
  losses = None;
  voltage_min = zero32;
  voltage_max = zero32;
  current_max = zero32;
  power_max = zero32;
  is_enabled = true;
  is_faulted = false;
  temperature = None;
}
