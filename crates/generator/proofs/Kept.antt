-- A wave's number leads back to it, and the generator keeps the slice's length. Assumes nothing.
use mathlib.Core.Path.{◌≡◌, refl}
use mathlib.Core.Bool.{Bool, true, false, cond}
use mathlib.Core.List.{List}
use Rattle.std.proofs.Common.{Err}
use lib.ListN.{length}
use lib.Ieee.{Float}
use Rattle.answers.specs.Numbers.{too_long, done}
use Rattle.answers.specs.Left.{left}
use Rattle.answers.specs.declared.Refusal.TheVariants.{TooLong}
use Rattle.laws.specs.Filled.{filled}
use Rattle.laws.proofs.Filling.{filled_length}
use Rattle.generator.specs.declared.Wave.{Wave}
use Rattle.generator.specs.declared.Wave.TheVariants.{DC, PWM, Triangular, Sawtooth}
use Rattle.generator.specs.declared.Shape.{Shape}
use Rattle.generator.specs.Wave.{wave_number, wave_of}
use Rattle.generator.specs.Sample.{sample_at, generated}

pub wave_of_number : (w : Wave) → wave_of (wave_number w) ≡ w
unfolding wave_of
wave_of_number DC = refl
wave_of_number PWM = refl
wave_of_number Triangular = refl
wave_of_number Sawtooth = refl

pub generated_length : (s : Shape) (xs : List Float) → length (generated s xs).places ≡ length xs
unfolding generated
generated_length s xs = either (too_long (length xs))
  where
    either : (b : Bool) → length (cond b (left (Err TooLong) xs) (left done (filled (sample_at s (length xs)) (length xs) xs))).places ≡ length xs
    either true = refl
    either false = filled_length (sample_at s (length xs)) (length xs) xs
