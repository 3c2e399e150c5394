-- The 19 time figures of a capture (01, item 5: "steps 1 to 9 of `calculate_metrics`, 19 of the 24 fields of `SignalMetrics`"), one definition each, the two counts (02, h:
-- "Add both counts to the record that all readers share"), and the answer. Definitions only.
-- No sample rate is given. For frequency, period and slew rate the samples are one second, so that the rate is their count: the Rust's "Buffer represents 1 second of
-- data (sample_rate == num_samples)". For rise and fall time they are one period of the frequency handed in where that is above 0 (Edges.antt, `sample_time_of`).
use Rattle.std.specs.Prelude.{cond, List, eqb, length, Float, Result, Ok, Err}
use Rattle.std.specs.Float.{binary32}
use Rattle.std.specs.Float.Ieee.{sub, neg}
use Rattle.answers.specs.declared.Refusal.{Refusal}
use Rattle.answers.specs.declared.Refusal.TheVariants.{TooLong}
use Rattle.answers.specs.Numbers.{too_long}
use Rattle.generator.specs.declared.Wave.{Wave}
use Rattle.laws.specs.Literals.{zero32, one32, count32}
use Rattle.laws.specs.Quotients.{ratio_or_zero}
use Rattle.timing.specs.Timing.{frequency_about, slew_of}
use Rattle.counts.specs.Counts.{not_numbers_of, infinite_of}
use Rattle.figures.specs.declared.TimeFigures.{TimeFigures}
use Rattle.figures.specs.Levels.{max_of, min_of, average_of, dc_rms_of, ac_rms_of, rectified_of}
use Rattle.figures.specs.Duty.{duty_of}
use Rattle.figures.specs.Edges.{RiseFall, rise_fall_between, edge_time_of}
use Rattle.figures.specs.Ratios.{crest_of, period_of, excess_of}

-- ---- of the levels: max, min, average, dc_rms and ac_rms are those of Levels.antt

abbrev pub peak_to_peak_of : List Float → Float
peak_to_peak_of xs = sub binary32 (max_of xs) (min_of xs)

abbrev pub positive_peak_of : List Float → Float
positive_peak_of xs = sub binary32 (max_of xs) (average_of xs)

abbrev pub negative_peak_of : List Float → Float
negative_peak_of xs = sub binary32 (average_of xs) (min_of xs)

-- the RMS over the rectified mean
abbrev pub form_factor_of : List Float → Float
form_factor_of xs = ratio_or_zero (dc_rms_of xs) (rectified_of xs)

abbrev pub crest_factor_of : List Float → Float
crest_factor_of xs = crest_of (max_of xs) (min_of xs) (dc_rms_of xs)

-- how far the maximum lies above the amplitude, and the minimum below minus the amplitude
abbrev pub overshoot_of : Float → List Float → Float
overshoot_of amplitude xs = excess_of (max_of xs) amplitude (peak_to_peak_of xs)

abbrev pub undershoot_of : Float → List Float → Float
undershoot_of amplitude xs = excess_of (neg amplitude) (min_of xs) (peak_to_peak_of xs)

-- ---- of time: duty_cycle_pos is that of Duty.antt

-- the part of the samples that are not high, as the Rust takes it
abbrev pub rest_of : Wave → Float → List Float → Float
rest_of wave amplitude xs = sub binary32 one32 (duty_of wave amplitude xs)

-- the samples of the last rise and the last fall, between the thresholds of the samples' own extremes. 01, "Samples 0 to 10 rise in 8 samples"
abbrev pub edges_in : List Float → RiseFall
edges_in xs = rise_fall_between (min_of xs) (peak_to_peak_of xs) xs

abbrev pub rise_time_of : Float → List Float → Float
rise_time_of frequency xs = edge_time_of frequency (length xs) (edges_in xs).rise

abbrev pub fall_time_of : Float → List Float → Float
fall_time_of frequency xs = edge_time_of frequency (length xs) (edges_in xs).fall

abbrev pub hertz_of : List Float → Float
hertz_of xs = frequency_about (average_of xs) xs (count32 (length xs))

abbrev pub slew_rate_of : List Float → Float
slew_rate_of xs = slew_of xs (count32 (length xs))

-- ---- the record: the figures in SignalMetrics' order, then the counts

unfoldable pub figures_of : Wave → Float → Float → List Float → TimeFigures
figures_of wave amplitude frequency xs =
    record {
      peak_to_peak = peak_to_peak_of xs;
      max = max_of xs;
      min = min_of xs;
      positive_peak = positive_peak_of xs;
      negative_peak = negative_peak_of xs;
      average = average_of xs;
      dc_rms = dc_rms_of xs;
      ac_rms = ac_rms_of xs;
      duty_cycle_pos = duty_of wave amplitude xs;
      duty_cycle_neg = rest_of wave amplitude xs;
      rise_time = rise_time_of frequency xs;
      fall_time = fall_time_of frequency xs;
      crest_factor = crest_factor_of xs;
      frequency = hertz_of xs;
      period = period_of (hertz_of xs);
      form_factor = form_factor_of xs;
      overshoot = overshoot_of amplitude xs;
      undershoot = undershoot_of amplitude xs;
      slew_rate = slew_rate_of xs;
      not_numbers = not_numbers_of xs;
      infinite = infinite_of xs;
    }

-- the record before anything is measured, and after a reset: the Rust's `new` and `reset_waveform` set each figure to 0.0; 02, h: "`reset_waveform` clears" the counts
abbrev pub zero_figures : TimeFigures
zero_figures = record {
  peak_to_peak = zero32;
  max = zero32;
  min = zero32;
  positive_peak = zero32;
  negative_peak = zero32;
  average = zero32;
  dc_rms = zero32;
  ac_rms = zero32;
  duty_cycle_pos = zero32;
  duty_cycle_neg = zero32;
  rise_time = zero32;
  fall_time = zero32;
  crest_factor = zero32;
  frequency = zero32;
  period = zero32;
  form_factor = zero32;
  overshoot = zero32;
  undershoot = zero32;
  slew_rate = zero32;
  not_numbers = 0;
  infinite = 0;
}

-- ---- the answer

-- 01, row 3: 3 for more than 65,536 samples, and then whoever handed the earlier record in has it; item 5: "With no samples the earlier
-- record comes back as it was"; 02, h: "with no samples the earlier counts come back with the earlier record"
unfoldable pub answer_of : Wave → Float → Float → TimeFigures → List Float → Result TimeFigures Refusal
answer_of wave amplitude frequency earlier xs =
    cond (too_long (length xs)) (Err TooLong) (Ok (cond (eqb (length xs) 0) earlier (figures_of wave amplitude frequency xs)))
