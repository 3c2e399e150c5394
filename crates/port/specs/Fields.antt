-- A port as the list of its fields (01, item 9, "Port readings: setters, getters, limits"): that a call sets one field and leaves all others is that it sets one
-- place of the list. Definitions only.
use Rattle.std.specs.Prelude.{Bool, false, List, [], ◌∷◌, ℕ, set, get_or, Float, Option, None}
use Rattle.std.specs.Float.{nan}
use Rattle.port.specs.declared.Port.{Port}

-- what a field holds; "A reading is a number or absent"
pub data Cell : Type 0 where
  number : Float → Cell
  reading : Option Float → Cell
  places : List (Option Float) → Cell
  flag : Bool → Cell

-- ---- the fields' places in the list, in the Rust's order
abbrev pub at_voltage : ℕ
at_voltage = 0

abbrev pub at_current : ℕ
at_current = 1

abbrev pub at_frequency : ℕ
at_frequency = 2

abbrev pub at_phase_angle : ℕ
at_phase_angle = 3

abbrev pub at_active_power : ℕ
at_active_power = 4

abbrev pub at_reactive_power : ℕ
at_reactive_power = 5

abbrev pub at_apparent_power : ℕ
at_apparent_power = 6

abbrev pub at_power_factor : ℕ
at_power_factor = 7

abbrev pub at_displacement_pf : ℕ
at_displacement_pf = 8

abbrev pub at_energy_imported : ℕ
at_energy_imported = 9

abbrev pub at_energy_exported : ℕ
at_energy_exported = 10

abbrev pub at_voltage_thd : ℕ
at_voltage_thd = 11

abbrev pub at_current_thd : ℕ
at_current_thd = 12

abbrev pub at_voltage_crest_factor : ℕ
at_voltage_crest_factor = 13

abbrev pub at_current_crest_factor : ℕ
at_current_crest_factor = 14

-- "Harmonic places are 0 to 15; a higher one reads absent and setting it does nothing": the 16 are one field, and `Readings.antt` says what one place is
abbrev pub at_voltage_harmonics : ℕ
at_voltage_harmonics = 15

abbrev pub at_current_harmonics : ℕ
at_current_harmonics = 16

abbrev pub at_efficiency : ℕ
at_efficiency = 17

abbrev pub at_losses : ℕ
at_losses = 18

abbrev pub at_voltage_min : ℕ
at_voltage_min = 19

abbrev pub at_voltage_max : ℕ
at_voltage_max = 20

abbrev pub at_current_max : ℕ
at_current_max = 21

abbrev pub at_power_max : ℕ
at_power_max = 22

abbrev pub at_is_enabled : ℕ
at_is_enabled = 23

abbrev pub at_is_faulted : ℕ
at_is_faulted = 24

abbrev pub at_temperature : ℕ
at_temperature = 25

-- ---- there and back: for `put` and for laws; no contract cites these
abbrev pub cells : Port → List Cell
cells p =
    number p.voltage ∷
    number p.current ∷
    reading p.frequency ∷
    reading p.phase_angle ∷
    number p.active_power ∷
    reading p.reactive_power ∷
    reading p.apparent_power ∷
    reading p.power_factor ∷
    reading p.displacement_pf ∷
    number p.energy_imported ∷
    number p.energy_exported ∷
    reading p.voltage_thd ∷
    reading p.current_thd ∷
    reading p.voltage_crest_factor ∷
    reading p.current_crest_factor ∷
    places p.voltage_harmonics ∷
    places p.current_harmonics ∷
    reading p.efficiency ∷
    reading p.losses ∷
    number p.voltage_min ∷
    number p.voltage_max ∷
    number p.current_max ∷
    number p.power_max ∷
    flag p.is_enabled ∷
    flag p.is_faulted ∷
    reading p.temperature ∷
    []

-- what a cell holds; a cell of another kind stands at no field's place, and what is said of it here is never used (`proofs/Fields.antt`)
abbrev pub number_in : Cell → Float
number_in (number x) = x
number_in (reading x) = nan
number_in (places x) = nan
number_in (flag x) = nan

abbrev pub optional_in : Cell → Option Float
optional_in (number x) = None
optional_in (reading x) = x
optional_in (places x) = None
optional_in (flag x) = None

abbrev pub places_in : Cell → List (Option Float)
places_in (number x) = []
places_in (reading x) = []
places_in (places x) = x
places_in (flag x) = []

abbrev pub flag_in : Cell → Bool
flag_in (number x) = false
flag_in (reading x) = false
flag_in (places x) = false
flag_in (flag x) = x

abbrev pub cell_at : List Cell → ℕ → Cell
cell_at l i = get_or l i (flag false)

-- the port with these fields
abbrev pub port_with : List Cell → Port
port_with l = record {
  voltage = number_in (cell_at l at_voltage);
  current = number_in (cell_at l at_current);
  frequency = optional_in (cell_at l at_frequency);
  phase_angle = optional_in (cell_at l at_phase_angle);
  active_power = number_in (cell_at l at_active_power);
  reactive_power = optional_in (cell_at l at_reactive_power);
  apparent_power = optional_in (cell_at l at_apparent_power);
  power_factor = optional_in (cell_at l at_power_factor);
  displacement_pf = optional_in (cell_at l at_displacement_pf);
  energy_imported = number_in (cell_at l at_energy_imported);
  energy_exported = number_in (cell_at l at_energy_exported);
  voltage_thd = optional_in (cell_at l at_voltage_thd);
  current_thd = optional_in (cell_at l at_current_thd);
  voltage_crest_factor = optional_in (cell_at l at_voltage_crest_factor);
  current_crest_factor = optional_in (cell_at l at_current_crest_factor);
  voltage_harmonics = places_in (cell_at l at_voltage_harmonics);
  current_harmonics = places_in (cell_at l at_current_harmonics);
  efficiency = optional_in (cell_at l at_efficiency);
  losses = optional_in (cell_at l at_losses);
  voltage_min = number_in (cell_at l at_voltage_min);
  voltage_max = number_in (cell_at l at_voltage_max);
  current_max = number_in (cell_at l at_current_max);
  power_max = number_in (cell_at l at_power_max);
  is_enabled = flag_in (cell_at l at_is_enabled);
  is_faulted = flag_in (cell_at l at_is_faulted);
  temperature = optional_in (cell_at l at_temperature);
}

-- 01, item 9, what each setter does: p with the field at i set to x, and all others as they were
abbrev pub put : Port → ℕ → Cell → Port
put p i x = port_with (set (cells p) i x)

-- a field, and what it is set to
pub data SetTo : Type 0 where
  set_to : ℕ → Cell → SetTo

-- p with the rows laid into it from the first on, one setter after another: the fields that they name are theirs, all others stay (`puts_at`, `proofs/Fields.antt`,
-- for rows that have the kind of their field)
abbrev pub puts : Port → List SetTo → Port
puts p [] = p
puts p (set_to i x ∷ rows) = puts (put p i x) rows
