-- The record from its parts: what each call of `measure` answers, put together. Assumes nothing.
use mathlib.Core.Path.{◌≡◌}
use mathlib.Core.List.{List}
use lib.ListN.{length}
use lib.Ieee.{Float, binary32, sub, neg}
use Rattle.generator.specs.declared.Wave.{Wave}
use Rattle.laws.specs.Literals.{one32, count32}
use Rattle.laws.specs.Quotients.{ratio_or_zero}
use Rattle.number.specs.Number.{root}
use Rattle.timing.specs.Timing.{narrowed_mean, frequency_about, slew_of}
use Rattle.counts.specs.declared.parts.Counts.{Counts}
use Rattle.counts.specs.Counts.{counts_of}
use Rattle.figures.specs.declared.levels.Extremes.{Extremes}
use Rattle.figures.specs.declared.levels.Sums.{Sums}
use Rattle.figures.specs.declared.levels.Levels.{Levels}
use Rattle.figures.specs.declared.edges.Times.{Times}
use Rattle.figures.specs.declared.TimeFigures.{TimeFigures}
use Rattle.figures.specs.Levels.{extremes_of, level_sums, ripple_of, average_of, rectified_of, dc_rms_of, ac_rms_of, levels_of}
use Rattle.figures.specs.Duty.{duty_of}
use Rattle.figures.specs.Edges.{edges_between, times_of}
use Rattle.figures.proofs.Flags.{rise_time_lem, fall_time_lem}
use Rattle.figures.specs.Ratios.{crest_of, period_of, excess_of}
use Rattle.figures.specs.Figures.{figures_of}

-- ---- the levels
abbrev levels_with : Extremes → (average dc ac rectified : Float) → Levels
levels_with e average dc ac rectified = record { max = e.max; min = e.min; average = average; dc_rms = dc; ac_rms = ac; rectified = rectified }

pub levels_whole : (xs : List Float) {e : Extremes} {s : Sums} {average spread dc-square dc ac-square ac rectified : Float}
    → e ≡ extremes_of xs → s ≡ level_sums xs → average ≡ narrowed_mean s.total (length xs) → spread ≡ ripple_of average xs
    → dc-square ≡ narrowed_mean s.squares (length xs) → dc ≡ root binary32 dc-square
    → ac-square ≡ narrowed_mean spread (length xs) → ac ≡ root binary32 ac-square
    → rectified ≡ narrowed_mean s.sizes (length xs)
    → levels_with e average dc ac rectified ≡ levels_of xs
unfolding average_of rectified_of dc_rms_of ac_rms_of
levels_whole xs e s av sp dq dc aq ac re = rw (re, ac, aq, dc, dq, sp, av, s, e)

-- ---- the figures
abbrev figures_with : Levels → (amplitude duty : Float) → Times → (crest hertz period form over under slew : Float) → Counts → TimeFigures
figures_with l amplitude duty times crest hertz period form over under slew counts =
    record {
      peak_to_peak = sub binary32 l.max l.min;
      max = l.max;
      min = l.min;
      positive_peak = sub binary32 l.max l.average;
      negative_peak = sub binary32 l.average l.min;
      average = l.average;
      dc_rms = l.dc_rms;
      ac_rms = l.ac_rms;
      duty_cycle_pos = duty;
      duty_cycle_neg = sub binary32 one32 duty;
      rise_time = times.rise;
      fall_time = times.fall;
      crest_factor = crest;
      frequency = hertz;
      period = period;
      form_factor = form;
      overshoot = over;
      undershoot = under;
      slew_rate = slew;
      not_numbers = counts.not_numbers;
      infinite = counts.infinite;
    }

pub figures_whole : (wave : Wave) (amplitude frequency : Float) (xs : List Float) {l : Levels} {duty : Float} {times : Times} {rate crest hertz period form over under slew : Float} {counts : Counts}
    → l ≡ levels_of xs → duty ≡ duty_of wave amplitude xs
    → times ≡ times_of (edges_between l.min (sub binary32 l.max l.min) xs) frequency (length xs)
    → rate ≡ count32 (length xs) → hertz ≡ frequency_about l.average xs rate → slew ≡ slew_of xs rate
    → crest ≡ crest_of l.max l.min l.dc_rms → period ≡ period_of hertz → form ≡ ratio_or_zero l.dc_rms l.rectified
    → over ≡ excess_of l.max amplitude (sub binary32 l.max l.min) → under ≡ excess_of (neg amplitude) l.min (sub binary32 l.max l.min)
    → counts ≡ counts_of xs
    → figures_with l amplitude duty times crest hertz period form over under slew counts ≡ figures_of wave amplitude frequency xs
unfolding figures_of
figures_whole wave amplitude frequency xs l du ti ra he sl cr pe fo ov un co =
    rw (co, un, ov, fo, pe, cr, sl, he, ra, ti, du, l, rise_time_lem, fall_time_lem)
