-- The calls in place follow the rule of the calls that pass a port: what is set in place is, as readings, what the port's own setting sets. Assumes nothing.
use Rattle.std.proofs.Common.{◌≡◌, ℕ, zero, suc, ◌<◌, Bool, true, false, cond, ltb, List, [], ◌∷◌, map, length, get_or, set, sym, refl, ap, arith, Option, Some, None, Float}
use Rattle.port.specs.Fields.{put, places, at_voltage_harmonics, at_current_harmonics}
use Rattle.port.specs.Readings.{with_place}
use Rattle.crossing.specs.declared.readings.TjReading.{TjReading}
use Rattle.crossing.specs.declared.ports.TjPort.{TjPort}
use Rattle.crossing.specs.PortCrossing.{reading_in, reading_out, port_in, port_out}
use Rattle.crossing.specs.InPlace.{with_harmonic}

-- an element of a list that is mapped, inside the list
pub get_d_mapped : {A B : Type 0} (g : A → B) (l : List A) (n : ℕ) (d : A) (e : B) → n < length l → get_or (map g l) n e ≡ g (get_or l n d)
get_d_mapped g [] n d e h = absurd (omega arith)
get_d_mapped g (x ∷ l) zero d e h = refl
get_d_mapped g (x ∷ l) (suc n) d e h = get_d_mapped g l n d e (omega arith)

map_set : {A B : Type 0} (g : A → B) (l : List A) (n : ℕ) (x : A) → map g (set l n x) ≡ set (map g l) n (g x)
map_set g [] n x = refl
map_set g (y ∷ l) zero x = refl
map_set {B = B} g (y ∷ l) (suc n) x = ap (λ (t : List B). g y ∷ t) (map_set g l n x)

reading_back : (r : Option Float) → reading_in (reading_out r) ≡ r
reading_back (Some x) = refl
reading_back None = refl

-- the port's rule, on the readings that the lent places stand for
pub same_rule : (h : List TjReading) (n : ℕ) (v : TjReading) → map reading_in (with_harmonic h n v) ≡ with_place (map reading_in h) n (reading_in v)
same_rule h n v = picked (ltb n 16)
  where
    picked : (t : Bool) → map reading_in (cond t (set h n (reading_out (reading_in v))) h) ≡ cond t (set (map reading_in h) n (reading_in v)) (map reading_in h)
    picked true = rw (map_set reading_in h n (reading_out (reading_in v)), reading_back (reading_in v))
    picked false = refl

-- the harmonics of the port that `tj_set_voltage_harmonic` answers are those that `tj_set_harmonic` leaves, but that every absent reading has the value 0
pub voltage_same : (p : TjPort) (n : ℕ) (v : TjReading)
    → (port_out (put (port_in p) at_voltage_harmonics (places (with_place (port_in p).voltage_harmonics n (reading_in v))))).voltage_harmonics
    ≡ map reading_out (map reading_in (with_harmonic p.voltage_harmonics n v))
voltage_same p n v = ap (map reading_out) (sym (same_rule p.voltage_harmonics n v))

pub current_same : (p : TjPort) (n : ℕ) (v : TjReading)
    → (port_out (put (port_in p) at_current_harmonics (places (with_place (port_in p).current_harmonics n (reading_in v))))).current_harmonics
    ≡ map reading_out (map reading_in (with_harmonic p.current_harmonics n v))
current_same p n v = ap (map reading_out) (sym (same_rule p.current_harmonics n v))
