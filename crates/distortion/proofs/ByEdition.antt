-- What an edition's number decides, and that orders whose bins are not below half change no THD. Assumes nothing.
use Rattle.std.proofs.Common.{◌≡◌, ℕ, ◌*◌, ◌/◌, ◌<◌, ◌≤◌, min, Bool, true, false, cond, eqb, ltb, length, sym, refl, ap, ◌∙◌, inl, inr, le_refl, arith, lit≤, ltb-false, ltb-true, ne_eqb}
use Rattle.laws.specs.Harmonics.{harmonic_power, last_order, last_up_to}
use Rattle.laws.proofs.Harmonics.{within}
use Rattle.spectrum.specs.Bin.{magnitude_of}
use Rattle.distortion.specs.Thd.{fundamental_bin, usable, thd_from, thd_at, thd_of}
use Rattle.distortion.specs.Editions.{by_edition, highest_order, Known}
use Rattle.distortion.specs.Claims.{HighestOrders, NoHigher, SameThd}
use Rattle.distortion.proofs.Orders.{usable_bin}

-- ---- by the number

-- the highest order, from what the tests for 1 and for 2 say
abbrev order : Bool → Bool → ℕ
order a b = cond a 16 (cond b 40 0)

-- where there is a highest order, that is what is worked out over, and otherwise the number is unknown: what the code's test for 0 asks
module _ {A : Type 0} (e : ℕ) (over : ℕ → A) (unknown : A) (top : ℕ) (h : top ≡ highest_order e) where
  pub edition_known : (top ≡ 0 → ⊥) → by_edition e over unknown ≡ over top
  unfolding by_edition
  edition_known n = rw h (go (eqb e 1) (eqb e 2) (λ z. n (h ∙ z)))
    where
      go : (a b : Bool) → (order a b ≡ 0 → ⊥) → cond a (over 16) (cond b (over 40) unknown) ≡ over (order a b)
      go true b n = refl
      go false true n = refl
      go false false n = absurd (n refl)

  pub edition_unknown : top ≡ 0 → by_edition e over unknown ≡ unknown
  unfolding by_edition
  edition_unknown z = go (eqb e 1) (eqb e 2) (sym h ∙ z)
    where
      go : (a b : Bool) → order a b ≡ 0 → cond a (over 16) (cond b (over 40) unknown) ≡ unknown
      go true b e = absurd (omega arith)
      go false true e = absurd (omega arith)
      go false false e = refl

-- an order that the harmonics' power may take in
pub order_fits : (e top : ℕ) → top ≡ highest_order e → (top ≡ 0 → ⊥) → (1 ≤ top) × (top ≤ 65536)
unfolding by_edition
order_fits e top h n = go (eqb e 1) (eqb e 2) top h n
  where
    go : (a b : Bool) (top : ℕ) → top ≡ order a b → (top ≡ 0 → ⊥) → (1 ≤ top) × (top ≤ 65536)
    go true b top h n = (omega arith, omega arith)
    go false true top h n = (omega arith, omega arith)
    go false false top h n = absurd (n h)

-- the same of 02's words, 1 or 2 and neither
pub over_known : {A : Type 0} (e : ℕ) (over : ℕ → A) (unknown : A) → Known e → by_edition e over unknown ≡ over (highest_order e)
unfolding by_edition
over_known e over unknown (inl p) = rw p
over_known e over unknown (inr p) = rw p

pub over_unknown : {A : Type 0} (e : ℕ) (over : ℕ → A) (unknown : A) → (Known e → ⊥) → by_edition e over unknown ≡ unknown
unfolding by_edition
over_unknown e over unknown n = rw (ne_eqb e 1 (λ p. n (inl p)), ne_eqb e 2 (λ p. n (inr p)))

pub highest_orders : HighestOrders
unfolding by_edition
highest_orders = (refl, refl)

-- what holds over any order, and of the unknown, holds by the number
pub by_either : {A : Type 0} (P : A → Type 0) (e : ℕ) (over : ℕ → A) (unknown : A) → ((top : ℕ) → P (over top)) → P unknown → P (by_edition e over unknown)
unfolding by_edition
by_either P e over unknown each none = go (eqb e 1) (eqb e 2)
  where
    go : (a b : Bool) → P (cond a (over 16) (cond b (over 40) unknown))
    go true b = each 16
    go false true = each 40
    go false false = none

-- what is made of either goes inside; and where it is the same over every order, it is the same
pub by_inside : {A B : Type 0} (f : A → B) (e : ℕ) (over : ℕ → A) (unknown : A) → f (by_edition e over unknown) ≡ by_edition e (λ (top : ℕ). f (over top)) (f unknown)
unfolding by_edition
by_inside {A} {B} f e over unknown = go (eqb e 1) (eqb e 2)
  where
    go : (a b : Bool) → f (cond a (over 16) (cond b (over 40) unknown)) ≡ cond a (f (over 16)) (cond b (f (over 40)) (f unknown))
    go true b = refl
    go false true = refl
    go false false = refl

pub by_same : {A : Type 0} (e : ℕ) (over others : ℕ → A) (unknown : A) → ((top : ℕ) → over top ≡ others top) → by_edition e over unknown ≡ by_edition e others unknown
unfolding by_edition
by_same {A} e over others unknown h = go (eqb e 1) (eqb e 2)
  where
    go : (a b : Bool) → cond a (over 16) (cond b (over 40) unknown) ≡ cond a (others 16) (cond b (others 40) unknown)
    go true b = h 16
    go false true = h 40
    go false false = refl

-- ---- orders that change nothing

-- where no order above `top` has a multiple of b below the end, a higher limit takes in no more
same_orders : (top limit end b : ℕ) → 0 < b → 0 < end → top ≤ limit → ((h : ℕ) → top < h → end ≤ b * h) → last_up_to limit end b ≡ last_up_to top end b
unfolding last_up_to
same_orders top limit end b B H l none = both top limit (last_order end b) l (last_at_most (ltb top (last_order end b)) refl)
  where
    both : (t u x : ℕ) → t ≤ u → x ≤ t → min u x ≡ min t x
    both t u x l h = omega arith

    last_at_most : (c : Bool) → ltb top (last_order end b) ≡ c → last_order end b ≤ top
    last_at_most false e = ltb-false top (last_order end b) e
    last_at_most true e =
        let last = last_order end b in
        let inside : b * last < end = (within end b last B H).only (le_refl last) in
        let outside : end ≤ b * last = none last (ltb-true top last e) in
        absurd (omega arith)

pub no_higher : NoHigher
unfolding thd_of thd_at
no_higher top limit frequency earlier xs l none = go (usable frequency (length xs / 2) (fundamental_bin frequency (length xs))) refl
  where
    go : (u : Bool) → usable frequency (length xs / 2) (fundamental_bin frequency (length xs)) ≡ u
        → cond u (thd_at limit (fundamental_bin frequency (length xs)) earlier xs) earlier ≡ cond u (thd_at top (fundamental_bin frequency (length xs)) earlier xs) earlier
    go false u = refl
    go true u =
        let bin = fundamental_bin frequency (length xs) in
        let inside = usable_bin frequency (length xs / 2) bin u in
        ap (λ (last : ℕ). thd_from (magnitude_of xs bin) (harmonic_power (magnitude_of xs) bin 2 last) earlier) (same_orders top limit (length xs / 2) bin inside.0 (omega arith) l (none u))

pub same_thd : SameThd
unfolding by_edition
same_thd frequency earlier xs none = no_higher 16 40 frequency earlier xs (lit≤ tt) none
