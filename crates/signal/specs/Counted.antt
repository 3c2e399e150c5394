-- What the state's two counts say of the caller's samples, call by call (02, h), over any highest order, and so by edition where it is known (`KnownRun`,
-- InEdition.antt). Definitions only; each claim is proved in proofs/Counted.antt.
use Rattle.std.specs.Prelude.{ℕ, ◌<◌, ◌≡◌, List, length, Float, Option}
use Rattle.generator.specs.declared.Wave.{Wave}
use Rattle.figures.specs.declared.TimeFigures.{TimeFigures}
use Rattle.figures.specs.Counted.{HasCounts}
use Rattle.signal.specs.State.{metrics_of}
use Rattle.signal.specs.Calls.{SignalLeft, new_of, new_port_of}
use Rattle.signal.specs.Sequence.{Setting, Later, setting, next, run, Taken}

-- the record that `get_metrics` answers after a call
abbrev pub record_after : SignalLeft → TimeFigures
record_after l = (metrics_of l.answer.state).figures

-- its counts are those of the samples that the call left
abbrev pub CountsOwn : SignalLeft → Type 0
CountsOwn l = HasCounts l.places (record_after l)

-- so it is with a signal that was made, of no samples too (`counts_new`, `counts_port`)
abbrev pub CountsNew : Type 0
CountsNew =
    (top : ℕ) (wave : Wave) (amplitude frequency : Float) (edition : ℕ) (xs : List Float) → Taken xs → CountsOwn (new_of top wave amplitude frequency edition xs)

abbrev pub CountsPort : Type 0
CountsPort =
    (top : ℕ) (voltage current : Float) (frequency : Option Float) (edition : ℕ) (xs : List Float) → Taken xs → CountsOwn (new_port_of top voltage current frequency edition xs)

-- and after each later call on at least one sample, whatever state and samples were handed to it (`counts_next`)
abbrev pub CountsNext : Type 0
CountsNext = (top : ℕ) (l : SignalLeft) (c : Later) → Taken l.places → 0 < length l.places → CountsOwn (next top l c)

-- 02, h: "with no samples the earlier counts come back with the earlier record": after a setting (`counts_stay`)
abbrev pub CountsStay : Type 0
CountsStay = (top : ℕ) (l : SignalLeft) (c : Setting) → length l.places ≡ 0 → record_after (next top l (setting c)) ≡ record_after l

-- so they are the samples' own through any later calls on the samples of the call before (`counts_follow`)
abbrev pub CountsFollow : Type 0
CountsFollow = (top : ℕ) (l : SignalLeft) (cs : List Later) → Taken l.places → CountsOwn l → CountsOwn (run top l cs)
