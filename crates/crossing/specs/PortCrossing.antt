-- How a port crosses the boundary: as a flat record, in which a reading is a flag and a value. Definitions only.
use Rattle.std.specs.Prelude.{true, false, cond, map, Option, Some, None, Float}
use Rattle.laws.specs.Literals.{zero32}
use Rattle.port.specs.declared.Port.{Port}
use Rattle.crossing.specs.declared.readings.TjReading.{TjReading}
use Rattle.crossing.specs.declared.ports.TjPort.{TjPort}

-- the reading that a flag and a value stand for
abbrev pub reading_in : TjReading → Option Float
reading_in r = cond r.present (Some r.value) None

-- our decision for the boundary, of which 01 says nothing: an absent reading goes out with the value 0
abbrev pub reading_out : Option Float → TjReading
reading_out (Some x) = record { present = true; value = x }
reading_out None = record { present = false; value = zero32 }

-- field by field
abbrev pub port_in : TjPort → Port
port_in p = record {
  voltage = p.voltage;
  current = p.current;
  frequency = reading_in p.frequency;
  phase_angle = reading_in p.phase_angle;
  active_power = p.active_power;
  reactive_power = reading_in p.reactive_power;
  apparent_power = reading_in p.apparent_power;
  power_factor = reading_in p.power_factor;
  displacement_pf = reading_in p.displacement_pf;
  energy_imported = p.energy_imported;
  energy_exported = p.energy_exported;
  voltage_thd = reading_in p.voltage_thd;
  current_thd = reading_in p.current_thd;
  voltage_crest_factor = reading_in p.voltage_crest_factor;
  current_crest_factor = reading_in p.current_crest_factor;
  voltage_harmonics = map reading_in p.voltage_harmonics;
  current_harmonics = map reading_in p.current_harmonics;
  efficiency = reading_in p.efficiency;
  losses = reading_in p.losses;
  voltage_min = p.voltage_min;
  voltage_max = p.voltage_max;
  current_max = p.current_max;
  power_max = p.power_max;
  is_enabled = p.is_enabled;
  is_faulted = p.is_faulted;
  temperature = reading_in p.temperature;
}

abbrev pub port_out : Port → TjPort
port_out p = record {
  voltage = p.voltage;
  current = p.current;
  frequency = reading_out p.frequency;
  phase_angle = reading_out p.phase_angle;
  active_power = p.active_power;
  reactive_power = reading_out p.reactive_power;
  apparent_power = reading_out p.apparent_power;
  power_factor = reading_out p.power_factor;
  displacement_pf = reading_out p.displacement_pf;
  energy_imported = p.energy_imported;
  energy_exported = p.energy_exported;
  voltage_thd = reading_out p.voltage_thd;
  current_thd = reading_out p.current_thd;
  voltage_crest_factor = reading_out p.voltage_crest_factor;
  current_crest_factor = reading_out p.current_crest_factor;
  voltage_harmonics = map reading_out p.voltage_harmonics;
  current_harmonics = map reading_out p.current_harmonics;
  efficiency = reading_out p.efficiency;
  losses = reading_out p.losses;
  voltage_min = p.voltage_min;
  voltage_max = p.voltage_max;
  current_max = p.current_max;
  power_max = p.power_max;
  is_enabled = p.is_enabled;
  is_faulted = p.is_faulted;
  temperature = reading_out p.temperature;
}
