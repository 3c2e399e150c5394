-- Examples, computed from the definitions: whole records against the bits that the Rust gives when it is run, and 02's counts beside them;
-- where the record's RMS differs from that of power. Assumes nothing.
use Rattle.std.specs.Prelude.{ℕ, ◌≡◌, refl, true, false, List, [], ◌∷◌, map, length, Float}
use Rattle.std.specs.Float.{nan, inf, binary32, binary64}
use Rattle.std.specs.Float.Ieee.{add, sub, mul, div, neg, lt, le, is_nan, of_int, of_bits}
use Rattle.generator.specs.declared.Wave.{Wave}
use Rattle.generator.specs.declared.Wave.TheVariants.{DC, PWM}
use Rattle.laws.specs.Literals.{count32, count64}
use Rattle.laws.specs.Quotients.{ratio_or_zero}
use Rattle.laws.specs.Samples.{higher, lower, square_of}
use Rattle.laws.specs.Walks.{over, pairs}
use Rattle.laws.specs.HowMany.{how_many}
use Rattle.number.specs.Number.{narrow, root, narrowed_root, abs}
use Rattle.timing.specs.Timing.{total_of, narrowed_mean, rises_at, first_of, crossing_at, crossings_of, frequency_from, frequency_about, slew_at, steepest_of, slew_of}
use Rattle.counts.specs.Counts.{is_infinite, not_numbers_of, infinite_of}
use Rattle.figures.specs.declared.TimeFigures.{TimeFigures}
use Rattle.figures.specs.Levels.{max_of, min_of, sum_of, average_of, rectified_of, dc_rms_of, ac_rms_of}
use Rattle.figures.specs.Duty.{near, highs_of, duty_of}
use Rattle.figures.specs.Edges.{rise_starts, rise_grows, fall_starts, fall_grows, four_tests, rise_fall_of, sample_time_of, edge_time_of}
use Rattle.figures.specs.Ratios.{crest_of, period_of, excess_of}
use Rattle.figures.specs.Figures.{figures_of}

-- ---- whole records

abbrev b : ℕ → Float
b x = of_bits binary32 x

-- the figures in their order
abbrev fields : TimeFigures → List Float
fields r =
    r.peak_to_peak ∷ r.max ∷ r.min ∷ r.positive_peak ∷ r.negative_peak ∷ r.average ∷ r.dc_rms ∷ r.ac_rms
    ∷ r.duty_cycle_pos ∷ r.duty_cycle_neg ∷ r.rise_time ∷ r.fall_time ∷ r.crest_factor ∷ r.frequency ∷ r.period
    ∷ r.form_factor ∷ r.overshoot ∷ r.undershoot ∷ r.slew_rate ∷ []

-- how many samples are no number, and how many are infinite
abbrev counts : TimeFigures → List ℕ
counts r = r.not_numbers ∷ r.infinite ∷ []

pub record Whole : Type 0 where
  pub wave : Wave
  pub amplitude : Float
  pub frequency : Float
  pub samples : List Float
  pub figures : List Float
  pub counts : List ℕ

-- 1, -4, x, 2
abbrev among : Float → List Float
among x = b 0x3F800000 ∷ b 0xC0800000 ∷ x ∷ b 0x40000000 ∷ []

abbrev pub records : List Whole
records =
    -- PWM at the amplitude 2 and no frequency: 2, 2, 0, -1, 2, 0, 3
    record {
      wave = PWM;
      amplitude = b 0x40000000;
      frequency = b 0;
      samples = b 0x40000000 ∷ b 0x40000000 ∷ b 0 ∷ b 0xBF800000 ∷ b 0x40000000 ∷ b 0 ∷ b 0x40400000 ∷ [];
      figures = b 0x40800000 ∷ b 0x40400000 ∷ b 0xBF800000 ∷ b 0x3FEDB6DB ∷ b 0x40092492 ∷ b 0x3F924925 ∷ b 0x3FE2EB74 ∷ b 0x3FAD7938
          ∷ b 0x3EDB6DB7 ∷ b 0x3F124924 ∷ b 0x3E924925 ∷ b 0 ∷ b 0x3FD89AF0 ∷ b 0x40600000 ∷ b 0x3E924925 ∷ b 0x3F9ED804 ∷ b 0x41C80000 ∷ b 0 ∷ b 0x41A80000 ∷ [];
      counts = 0 ∷ 0 ∷ [];
    }
    -- DC at the amplitude 1 and the frequency 50: one NaN, nothing but NaN, one infinity, one minus infinity
    ∷ record {
      wave = DC;
      amplitude = b 0x3F800000;
      frequency = b 0x42480000;
      samples = among nan;
      figures = b 0x40C00000 ∷ b 0x40000000 ∷ b 0xC0800000 ∷ nan ∷ nan ∷ nan ∷ nan ∷ nan
          ∷ b 0x3F000000 ∷ b 0x3F000000 ∷ b 0 ∷ b 0 ∷ b 0 ∷ b 0 ∷ b 0 ∷ b 0 ∷ b 0x41855556 ∷ b 0x42480000 ∷ b 0x41A00000 ∷ [];
      counts = 1 ∷ 0 ∷ [];
    }
    ∷ record {
      wave = DC;
      amplitude = b 0x3F800000;
      frequency = b 0x42480000;
      samples = nan ∷ nan ∷ nan ∷ [];
      figures = inf true ∷ inf true ∷ inf false ∷ nan ∷ nan ∷ nan ∷ nan ∷ nan
          ∷ b 0 ∷ b 0x3F800000 ∷ b 0 ∷ b 0 ∷ b 0 ∷ b 0 ∷ b 0 ∷ b 0 ∷ b 0 ∷ b 0 ∷ b 0 ∷ [];
      counts = 3 ∷ 0 ∷ [];
    }
    ∷ record {
      wave = DC;
      amplitude = b 0x3F800000;
      frequency = b 0x42480000;
      samples = among (inf false);
      figures = inf false ∷ inf false ∷ b 0xC0800000 ∷ nan ∷ inf false ∷ inf false ∷ inf false ∷ nan
          ∷ b 0x3F400000 ∷ b 0x3E800000 ∷ b 0 ∷ b 0 ∷ nan ∷ b 0 ∷ b 0 ∷ nan ∷ nan ∷ b 0 ∷ inf false ∷ [];
      counts = 0 ∷ 1 ∷ [];
    }
    ∷ record {
      wave = DC;
      amplitude = b 0x3F800000;
      frequency = b 0x42480000;
      samples = among (inf true);
      figures = inf false ∷ b 0x40000000 ∷ inf true ∷ inf false ∷ nan ∷ inf true ∷ inf false ∷ nan
          ∷ b 0x3F000000 ∷ b 0x3F000000 ∷ b 0 ∷ b 0 ∷ nan ∷ b 0 ∷ b 0 ∷ nan ∷ b 0 ∷ nan ∷ inf false ∷ [];
      counts = 0 ∷ 1 ∷ [];
    }
    -- and PWM, to whose amplitude no infinity is near
    ∷ record {
      wave = PWM;
      amplitude = b 0x3F800000;
      frequency = b 0x42480000;
      samples = among (inf false);
      figures = inf false ∷ inf false ∷ b 0xC0800000 ∷ nan ∷ inf false ∷ inf false ∷ inf false ∷ nan
          ∷ b 0x3E800000 ∷ b 0x3F400000 ∷ b 0 ∷ b 0 ∷ nan ∷ b 0 ∷ b 0 ∷ nan ∷ nan ∷ b 0 ∷ inf false ∷ [];
      counts = 0 ∷ 1 ∷ [];
    }
    -- the brown-out: -1, 1, -1, 1, -1, 1 with the last two words all ones. The frequency reads 0, and the count says why
    ∷ record {
      wave = DC;
      amplitude = b 0x3F800000;
      frequency = b 0;
      samples = b 0xBF800000 ∷ b 0x3F800000 ∷ b 0xBF800000 ∷ b 0x3F800000 ∷ b 0xFFFFFFFF ∷ b 0xFFFFFFFF ∷ [];
      figures = b 0x40000000 ∷ b 0x3F800000 ∷ b 0xBF800000 ∷ nan ∷ nan ∷ nan ∷ nan ∷ nan
          ∷ b 0x3EAAAAAB ∷ b 0x3F2AAAAA ∷ b 0 ∷ b 0 ∷ b 0 ∷ b 0 ∷ b 0 ∷ b 0 ∷ b 0 ∷ b 0 ∷ b 0x41400000 ∷ [];
      counts = 2 ∷ 0 ∷ [];
    }
    ∷ []

abbrev record_of : Whole → TimeFigures
record_of w = figures_of w.wave w.amplitude w.frequency w.samples

pub counts_hold : map (λ (w : Whole). counts (record_of w)) records ≡ map (λ (w : Whole). w.counts) records
unfolding figures_of not_numbers_of infinite_of how_many is_infinite is_nan over of_bits
counts_hold = refl

pub records_hold : map (λ (w : Whole). fields (record_of w)) records ≡ map (λ (w : Whole). w.figures) records
unfolding over pairs higher lower square_of total_of narrowed_mean rises_at first_of crossing_at crossings_of frequency_from frequency_about slew_at steepest_of slew_of
    max_of min_of sum_of average_of rectified_of dc_rms_of ac_rms_of near highs_of how_many duty_of rise_starts rise_grows fall_starts fall_grows four_tests rise_fall_of sample_time_of
    edge_time_of ratio_or_zero crest_of period_of excess_of figures_of narrow root abs add sub mul div neg lt le of_int of_bits
records_hold = refl

-- ---- 01: "One RMS for the record and for power: the two round in different places." Of 0, 0, 5 the record's, which narrows the mean square and then takes
-- the f32 root, is 4038C088; the f64 root narrowed, as power has it, is 4038C089

abbrev step : List Float
step = map count32 (0 ∷ 0 ∷ 5 ∷ [])

pub roots_differ :
    dc_rms_of step ∷ narrowed_root (div binary64 (sum_of square_of step) (count64 (length step))) ∷ []
    ≡ b 0x4038C088 ∷ b 0x4038C089 ∷ []
unfolding over square_of narrowed_mean sum_of dc_rms_of narrowed_root narrow root add mul div of_int of_bits
roots_differ = refl
