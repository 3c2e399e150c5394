-- What `add_dc_offset`, `scale` and `add_signals` answer, and what they leave in the lent slice (01, item 2). Definitions only.
use Rattle.std.specs.Prelude.{ℕ, min, cond, ◌||◌, List, map, length, get_or, Float, Err}
use Rattle.std.specs.Float.{nan, binary32}
use Rattle.std.specs.Float.Ieee.{add, mul}
use Rattle.answers.specs.Numbers.{Outcome, done, too_long}
use Rattle.answers.specs.declared.Refusal.TheVariants.{TooLong}
use Rattle.answers.specs.Left.{Left, left}
use Rattle.laws.specs.Filled.{filled}

-- f of every sample in its place. 01, row 3: 3 where there are more than 65,536; "Nothing but 0 writes to what was lent"
unfoldable pub each : (Float → Float) → List Float → Left Outcome (List Float)
each f s = cond (too_long (length s)) (left (Err TooLong) s) (left done (map f s))

-- 01, item 2, `add_dc_offset`: each sample plus the offset, in f32
abbrev pub offset_by : Float → List Float → Left Outcome (List Float)
offset_by offset = each (λ (x : Float). add binary32 x offset)

-- 01, item 2, `scale`: each sample times the factor, in f32
abbrev pub scaled_by : Float → List Float → Left Outcome (List Float)
scaled_by factor = each (λ (x : Float). mul binary32 x factor)

-- 01, "works on the shortest of its three lengths"
abbrev pub shortest : List Float → List Float → List Float → ℕ
shortest a b out = min (min (length a) (length b)) (length out)

abbrev pub sum_at : List Float → List Float → ℕ → Float
sum_at a b j = add binary32 (get_or a j nan) (get_or b j nan)

-- the sums, and behind them what was there: "the rest of the output stays". Only a and b are read, so only they can be too long
unfoldable pub added_into : List Float → List Float → List Float → Left Outcome (List Float)
added_into a b out =
    cond (too_long (length a) || too_long (length b)) (left (Err TooLong) out) (left done (filled (sum_at a b) (shortest a b out) out))
