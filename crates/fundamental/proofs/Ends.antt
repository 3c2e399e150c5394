-- What holds of the lengths and the bin where a call is done, and what it then answers. Assumes nothing.
use Rattle.std.proofs.Common.{◌≡◌, ℕ, ◌/◌, ◌<◌, Bool, true, false, not, ◌&&◌, eqb, ltb, List, length, sym, refl, ap, arith, ltb-true, eqb-true, Ok}
use lib.Ieee.{Float}
use Rattle.answers.specs.Numbers.{done, number_of, too_long, refuse}
use Rattle.answers.specs.declared.Refusal.TheVariants.{LengthsDiffer, TooLong, OffGrid, BinOutside}
use Rattle.answers.proofs.Ended.{given_done}
use Rattle.spectrum.specs.Grid.{on_grid}
use Rattle.fundamental.specs.Fundamental.{fundamental_of, fundamental_outcome, fundamental_answer}

-- what holds of the lengths and the bin where no refusal does
pub record Unrefused (n m k : ℕ) : Type 0 where
  pub equal : n ≡ m
  pub grid : on_grid n ≡ true
  pub from_one : 0 < k
  pub below_half : k < n / 2

pub unrefused : (n m k : ℕ) (u : Unit {0}) → Ok u ≡ fundamental_outcome n m k → Unrefused n m k
unfolding fundamental_outcome
unrefused n m k u e = go (too_long n) (too_long m) (eqb n m) (on_grid n) (ltb 0 k) (ltb k (n / 2)) refl refl refl refl (sym (ap number_of e))
  where
    go : (a b c g p q : Bool) → eqb n m ≡ c → on_grid n ≡ g → ltb 0 k ≡ p → ltb k (n / 2) ≡ q
        → number_of (refuse a TooLong (refuse b TooLong (refuse (not c) LengthsDiffer (refuse (not g) OffGrid (refuse (not (p && q)) BinOutside done))))) ≡ 0 → Unrefused n m k
    go true b c g p q x y u w e = absurd (omega arith)
    go false true c g p q x y u w e = absurd (omega arith)
    go false false false g p q x y u w e = absurd (omega arith)
    go false false true false p q x y u w e = absurd (omega arith)
    go false false true true false q x y u w e = absurd (omega arith)
    go false false true true true false x y u w e = absurd (omega arith)
    go false false true true true true x y u w e = record { equal = eqb-true n m x; grid = y; from_one = ltb-true 0 k u; below_half = ltb-true k (n / 2) w }

pub answer_done : (v i : List Float) (k : ℕ) → fundamental_outcome (length v) (length i) k ≡ done → fundamental_answer v i k ≡ Ok (fundamental_of v i k)
unfolding fundamental_answer
answer_done v i k e = sym (given_done (fundamental_outcome (length v) (length i) k) (fundamental_of v i k) tt e)
