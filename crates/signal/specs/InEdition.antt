-- What is claimed of the calls by edition (02, e). Definitions only; the claims are proved in proofs/InEdition.antt, the last three in proofs/SameEditions.antt.
use Rattle.std.specs.Prelude.{ℕ, ◌≡◌, false, List, length, Float, Option}
use Rattle.answers.specs.Left.{left}
use Rattle.answers.specs.Numbers.{number_of}
use Rattle.laws.specs.Literals.{zero32}
use Rattle.generator.specs.declared.Wave.{Wave}
use Rattle.generator.specs.declared.Wave.TheVariants.{DC}
use Rattle.spectrum.specs.Spectrum.{outcome_of}
use Rattle.distortion.specs.Thd.{thd_of}
use Rattle.distortion.specs.Editions.{highest_order, Known}
use Rattle.distortion.specs.Claims.{NoneAbove}
use Rattle.signal.specs.declared.State.{State}
use Rattle.signal.specs.State.{zero_state, metrics_of}
use Rattle.signal.specs.Calls.{SignalLeft, answer, new_of, new_port_of}
use Rattle.signal.specs.Sequence.{Setting, Later, setting, reset, run, Taken}
use Rattle.signal.specs.Editions.{new_by, new_port_by, edition_in, outcome_by, next_by, run_by}

-- the edition and the THD that the record of `get_metrics` carries after a call
abbrev pub edition_after : SignalLeft → ℕ
edition_after l = edition_in l.answer.state

abbrev pub thd_after : SignalLeft → Float
thd_after l = (metrics_of l.answer.state).thd

-- ---- "Refusals: 9, edition named or held by the state neither 1 nor 2, where THD is worked out, before all others"

abbrev pub EndsNew : Type 0
EndsNew = (wave : Wave) (amplitude frequency : Float) (edition : ℕ) (xs : List Float) → (new_by wave amplitude frequency edition xs).answer.outcome ≡ outcome_by edition (length xs)

abbrev pub EndsPort : Type 0
EndsPort =
    (voltage current : Float) (frequency : Option Float) (edition : ℕ) (xs : List Float) → (new_port_by voltage current frequency edition xs).answer.outcome ≡ outcome_by edition (length xs)

abbrev pub EndsSet : Type 0
EndsSet = (l : SignalLeft) (c : Setting) → (next_by l (setting c)).answer.outcome ≡ outcome_by (edition_after l) (length l.places)

-- a reset knows 3 and 4 alone
abbrev pub EndsReset : Type 0
EndsReset = (l : SignalLeft) → (next_by l reset).answer.outcome ≡ outcome_of (length l.places) false

-- 9 exactly where the edition is neither 1 nor 2 (`nine_then`, `nine_only`)
abbrev pub NineThen : Type 0
NineThen = (edition n : ℕ) → (Known edition → ⊥) → number_of (outcome_by edition n) ≡ 9

abbrev pub NineOnly : Type 0
NineOnly = (edition n : ℕ) → number_of (outcome_by edition n) ≡ 9 → Known edition → ⊥

-- ---- 01, "What a refusal returns is zero throughout .. but a signal state .. handed in comes back unchanged", and nothing is written

abbrev pub RefusedNew : Type 0
RefusedNew =
    (wave : Wave) (amplitude frequency : Float) (edition : ℕ) (xs : List Float) → (number_of (outcome_by edition (length xs)) ≡ 0 → ⊥)
    → new_by wave amplitude frequency edition xs ≡ left (answer (outcome_by edition (length xs)) zero_state) xs

abbrev pub RefusedPort : Type 0
RefusedPort =
    (voltage current : Float) (frequency : Option Float) (edition : ℕ) (xs : List Float) → (number_of (outcome_by edition (length xs)) ≡ 0 → ⊥)
    → new_port_by voltage current frequency edition xs ≡ left (answer (outcome_by edition (length xs)) zero_state) xs

abbrev pub RefusedSet : Type 0
RefusedSet =
    (l : SignalLeft) (c : Setting) → (number_of (outcome_by (edition_after l) (length l.places)) ≡ 0 → ⊥)
    → next_by l (setting c) ≡ left (answer (outcome_by (edition_after l) (length l.places)) l.answer.state) l.places

abbrev pub ZeroEdition : Type 0
ZeroEdition = edition_in zero_state ≡ 0

-- ---- "What is shown of THD is shown once over the highest order": in an edition each call is that over its highest order, so what Sequence.antt and Counted.antt
-- say of calls over any order holds in both

abbrev pub KnownNew : Type 0
KnownNew =
    (wave : Wave) (amplitude frequency : Float) (edition : ℕ) (xs : List Float) → Known edition
    → new_by wave amplitude frequency edition xs ≡ new_of (highest_order edition) wave amplitude frequency edition xs

abbrev pub KnownPort : Type 0
KnownPort =
    (voltage current : Float) (frequency : Option Float) (edition : ℕ) (xs : List Float) → Known edition
    → new_port_by voltage current frequency edition xs ≡ new_port_of (highest_order edition) voltage current frequency edition xs

abbrev pub KnownRun : Type 0
KnownRun = (l : SignalLeft) (cs : List Later) → Known (edition_after l) → run_by l cs ≡ run (highest_order (edition_after l)) l cs

-- THD, as `get_metrics` answers it, is that of the samples over the edition's highest order
abbrev pub ThdNew : Type 0
ThdNew =
    (wave : Wave) (amplitude frequency : Float) (edition : ℕ) (xs : List Float) → Known edition → Taken xs
    → thd_after (new_by wave amplitude frequency edition xs) ≡ thd_of (highest_order edition) frequency zero32 (new_by wave amplitude frequency edition xs).places

abbrev pub ThdSet : Type 0
ThdSet =
    (l : SignalLeft) (c : Setting) → Known (edition_after l) → Taken l.places
    → thd_after (next_by l (setting c)) ≡ thd_of (highest_order (edition_after l)) (next_by l (setting c)).answer.state.shape.frequency (thd_after l) (next_by l (setting c)).places

-- a port's record is that of the constant wave that it is made of
abbrev pub PortMetrics : Type 0
PortMetrics =
    (voltage current : Float) (frequency : Option Float) (edition : ℕ) (xs : List Float)
    → metrics_of (new_port_by voltage current frequency edition xs).answer.state ≡ metrics_of (new_by DC voltage zero32 edition xs).answer.state

-- ---- "the caller names the edition where the signal is made, the signal keeps it through every reset, and each record carries its number"

-- after any run of calls, refused or not, it is the one before them
abbrev pub EditionKept : Type 0
EditionKept = (l : SignalLeft) (cs : List Later) → edition_after (run_by l cs) ≡ edition_after l

-- so after any run of calls on a signal that was made it is the one that was named
abbrev pub NamedNew : Type 0
NamedNew =
    (wave : Wave) (amplitude frequency : Float) (edition : ℕ) (xs : List Float) (cs : List Later) → number_of (new_by wave amplitude frequency edition xs).answer.outcome ≡ 0
    → edition_after (run_by (new_by wave amplitude frequency edition xs) cs) ≡ edition

abbrev pub NamedPort : Type 0
NamedPort =
    (voltage current : Float) (frequency : Option Float) (edition : ℕ) (xs : List Float) (cs : List Later)
    → number_of (new_port_by voltage current frequency edition xs).answer.outcome ≡ 0
    → edition_after (run_by (new_port_by voltage current frequency edition xs) cs) ≡ edition

-- ---- with no order above 16 below half the two editions differ in their number alone

abbrev pub numbered : ℕ → State → State
numbered e s = record { shape = s.shape; port = s.port; metrics = record { figures = s.metrics.figures; thd = s.metrics.thd; edition = e } }

abbrev pub numbered_as : ℕ → SignalLeft → SignalLeft
numbered_as e l = left (answer l.answer.outcome (numbered e l.answer.state)) l.places

-- a signal that was made (`same_new`)
abbrev pub SameNew : Type 0
SameNew =
    (wave : Wave) (amplitude frequency : Float) (xs : List Float) → Taken xs → NoneAbove 16 frequency (length xs)
    → new_by wave amplitude frequency 2 xs ≡ numbered_as 2 (new_by wave amplitude frequency 1 xs)

-- a port, which has no usable fundamental bin (`same_port`)
abbrev pub SamePort : Type 0
SamePort =
    (voltage current : Float) (frequency : Option Float) (xs : List Float) → Taken xs
    → new_port_by voltage current frequency 2 xs ≡ numbered_as 2 (new_port_by voltage current frequency 1 xs)

-- and either through any later calls (`same_run`)
abbrev pub SameRun : Type 0
SameRun =
    (l : SignalLeft) (cs : List Later) → NoneAbove 16 l.answer.state.shape.frequency (length l.places)
    → run_by (numbered_as 2 l) cs ≡ numbered_as 2 (run_by (numbered_as 1 l) cs)
