-- A slice of which f of each sample is put in its place block by block. Assumes nothing.
use mathlib.Core.Path.{◌≡◌, refl, sym, ap, ◌∙◌}
use mathlib.Core.List.{List, ◌++◌, map}
use Prim.Native.Nat.{ℕ, ◌+◌, ◌≤◌}
use native.Mathlib.Omega.{arith}
use borrow.Rule.Slice.PartMut.{put_mid}
use lib.ListN.{length, take, drop}
use lib.Ieee.{Float}
use Rattle.std.proofs.lemmas.List.{append_assoc, append-nil, map-append, length-map, length-take-le, take-append-drop, take-take, take_at, drop_at, drop-drop, drop-take, take_all, drop_all}

-- a list is its first places and the next
taken_on : (s : List Float) (p k : ℕ) → take (p + k) s ≡ take p s ++ take k (drop p s)
taken_on s p k = sym (take-append-drop p (take (p + k) s)) ∙ (rw (drop-take p k s, take-take p (p + k) s (omega arith)) refl)

-- one block more: the first p places are done, and now the next k
pub block_next : (f : Float → Float) (s now block : List Float) (p k q : ℕ) → q ≡ p + k → q ≤ length s → now ≡ map f (take p s) ++ drop p s → block ≡ map f (take k (drop p now))
    → put_mid p k now block ≡ map f (take q s) ++ drop q s
block_next f s now block p k q j h i e =
    let l : length (map f (take p s)) ≡ p = length-map (take p s) f ∙ length-take-le p s (omega arith) in
    let t : take p now ≡ map f (take p s) = ap (take p) i ∙ take_at (map f (take p s)) (drop p s) p l in
    let d : drop p now ≡ drop p s = ap (drop p) i ∙ drop_at (map f (take p s)) (drop p s) p l in
    rw (e, t, d, j, drop-drop k p s, taken_on s p k, map-append f (take p s) (take k (drop p s))) (sym (append_assoc (map f (take p s)) (map f (take k (drop p s))) (drop (p + k) s)))

-- the last run ends at the length
pub run_last : (f : Float → Float) (s now run : List Float) (p k : ℕ) → length s ≡ p + k → now ≡ map f (take p s) ++ drop p s → run ≡ map f (take k (drop p now)) → put_mid p k now run ≡ map f s
run_last f s now run p k j i e =
    block_next f s now run p k (length s) j (omega arith) i e ∙ (rw (take_all (length s) s (omega arith), drop_all (length s) s (omega arith), append-nil) refl)
