-- Rise and fall (01, 'Rules taken from the Rust'): "four tests per sample in the Rust's order. Each count is reset at a new edge, so the last edge is reported." Definitions only.
-- `lt a b` is a < b and `le a b` is a ≤ b as the floats have it: false where one of the two is a NaN.
use Rattle.std.specs.Prelude.{ℕ, ◌+◌, ◌-◌, Bool, true, false, cond, ◌&&◌, List, eqb, length, Float}
use Rattle.std.specs.Float.{binary32}
use Rattle.std.specs.Float.Ieee.{add, mul, div, lt, le, of_bits}
use Rattle.laws.specs.Literals.{zero32, one32, count32}
use Rattle.laws.specs.Walks.{pairs}
use Rattle.figures.specs.declared.edges.Edges.{Edges}
use Rattle.figures.specs.declared.edges.Times.{Times}

-- ---- the state, as the Rust has it: its flags `rising` and `falling`, and its counts `rise_samples` and `fall_samples` of the last rise and the last fall

pub record RiseFall : Type 0 where
  pub rising : Bool
  pub falling : Bool
  pub rise : ℕ
  pub fall : ℕ

abbrev pub nothing_yet : RiseFall
nothing_yet = record { rising = false; falling = false; rise = 0; fall = 0 }

-- ---- the four tests of a sample, with the sample before it

-- the Rust's `if prev <= threshold_low && curr > threshold_low`: a rise begins, a fall is over, and the rise's count starts anew
unfoldable pub rise_starts : Float → RiseFall → Float → Float → RiseFall
rise_starts low s prev curr = cond (le prev low && lt low curr) (record { rising = true; falling = false; rise = 0; fall = s.fall }) s

-- `if rising && curr <= threshold_high`: the sample counts for the rise
unfoldable pub rise_grows : Float → RiseFall → Float → RiseFall
rise_grows high s curr = cond (s.rising && le curr high) (record { rising = s.rising; falling = s.falling; rise = s.rise + 1; fall = s.fall }) s

-- `if prev >= threshold_high && curr < threshold_high`: a fall begins, a rise is over, and the fall's count starts anew
unfoldable pub fall_starts : Float → RiseFall → Float → Float → RiseFall
fall_starts high s prev curr = cond (le high prev && lt curr high) (record { rising = false; falling = true; rise = s.rise; fall = 0 }) s

-- `if falling && curr >= threshold_low`: the sample counts for the fall
unfoldable pub fall_grows : Float → RiseFall → Float → RiseFall
fall_grows low s curr = cond (s.falling && le low curr) (record { rising = s.rising; falling = s.falling; rise = s.rise; fall = s.fall + 1 }) s

-- in the Rust's order: the sample that starts the fall counts for the rise as well
unfoldable pub four_tests : Float → Float → RiseFall → Float → Float → RiseFall
four_tests low high s prev curr = fall_grows low (fall_starts high (rise_grows high (rise_starts low s prev curr) curr) prev curr) curr

-- the Rust's `for i in 1..n`: every sample but the first
unfoldable pub rise_fall_of : Float → Float → List Float → RiseFall
rise_fall_of low high xs = pairs (λ (s : RiseFall) (i : ℕ). four_tests low high s) nothing_yet xs (length xs - 1)

-- ---- thresholds: a tenth and nine tenths of the swing above the minimum, by the nearest f32 to 0.1 and to 0.9

abbrev pub low_threshold : Float → Float → Float
low_threshold min swing = add binary32 min (mul binary32 (of_bits binary32 0x3DCCCCCD) swing)

abbrev pub high_threshold : Float → Float → Float
high_threshold min swing = add binary32 min (mul binary32 (of_bits binary32 0x3F666666) swing)

-- the edges of samples with this minimum and this swing
abbrev pub rise_fall_between : Float → Float → List Float → RiseFall
rise_fall_between min swing xs = rise_fall_of (low_threshold min swing) (high_threshold min swing) xs

-- ---- times

-- from one of n samples to the next, for rise and fall time: the n samples are one period of the frequency handed in where that is above 0 (the Rust's "The sample
-- buffer represents one period of the signal"), and else one second. (Frequency, period and slew rate take them as one second: Figures.antt.)
unfoldable pub sample_time_of : Float → ℕ → Float
sample_time_of frequency n = cond (lt zero32 frequency) (div binary32 one32 (mul binary32 frequency (count32 n))) (div binary32 one32 (count32 n))

-- how long a rise or a fall of so many of n samples took
unfoldable pub edge_time_of : Float → ℕ → ℕ → Float
edge_time_of frequency n samples = mul binary32 (count32 samples) (sample_time_of frequency n)

-- ---- for the code alone: no public contract cites what follows. The code keeps one number for the two flags, of which at most one is set: 0 for neither, 1 for
-- a rise and 2 for a fall. proofs/Flags.antt shows that its four steps are the four tests above (`same_edges`)

abbrev pub rise_number : ℕ
rise_number = 1

abbrev pub fall_number : ℕ
fall_number = 2

abbrev pub no_edge : Edges
no_edge = record { edge = 0; rise = 0; fall = 0 }

unfoldable pub rise_begins : Float → Edges → Float → Float → Edges
rise_begins low s prev curr = cond (le prev low && lt low curr) (record { edge = rise_number; rise = 0; fall = s.fall }) s

unfoldable pub rise_counts : Float → Edges → Float → Edges
rise_counts high s curr = cond (eqb s.edge rise_number && le curr high) (record { edge = s.edge; rise = s.rise + 1; fall = s.fall }) s

unfoldable pub fall_begins : Float → Edges → Float → Float → Edges
fall_begins high s prev curr = cond (le high prev && lt curr high) (record { edge = fall_number; rise = s.rise; fall = 0 }) s

unfoldable pub fall_counts : Float → Edges → Float → Edges
fall_counts low s curr = cond (eqb s.edge fall_number && le low curr) (record { edge = s.edge; rise = s.rise; fall = s.fall + 1 }) s

unfoldable pub edge_at : Float → Float → Edges → ℕ → Float → Float → Edges
edge_at low high s i prev curr = fall_counts low (fall_begins high (rise_counts high (rise_begins low s prev curr) curr) prev curr) curr

unfoldable pub edges_of : Float → Float → List Float → Edges
edges_of low high xs = pairs (edge_at low high) no_edge xs (length xs - 1)

abbrev pub edges_between : Float → Float → List Float → Edges
edges_between min swing xs = edges_of (low_threshold min swing) (high_threshold min swing) xs

unfoldable pub times_of : Edges → Float → ℕ → Times
times_of edges frequency n =
    let tick = sample_time_of frequency n in
    record { rise = mul binary32 (count32 edges.rise) tick; fall = mul binary32 (count32 edges.fall) tick }
