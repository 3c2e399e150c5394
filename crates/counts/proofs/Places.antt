-- Each count is the number of such places, of the samples and of their words (`are_places`, `by_pattern`); every capture is that of some words (`of_words`). Assumes nothing.
use Prim.Native.Nat.{ℕ, suc, ◌+◌, ◌<◌}
use native.Mathlib.Nat.{zero-add, zero-lt-suc}
use native.Mathlib.Omega.{arith}
use mathlib.Core.Path.{◌≡◌, refl, ap, ◌∙◌}
use mathlib.Core.Bool.{Bool, true, false, cond}
use mathlib.Core.List.{List, [], ◌∷◌}
use lib.ListN.{length}
use lib.Ieee.{Float, is_nan, binary32, of_bits}
use lib.Ieee.Bits.{of_bits-to_bits}
use Rattle.laws.specs.Walks.{over}
use Rattle.laws.specs.HowMany.{how_many}
use Rattle.laws.proofs.HowMany.{how_many_front}
use Rattle.counts.specs.Counts.{is_infinite, not_numbers_of, infinite_of}
use Rattle.counts.specs.Claims.{places_from, places_of, ArePlaces, not_number_word, infinite_word, samples_of, OfWords, ByPattern}
use Rattle.counts.proofs.Words.{not_number_word_lem, infinite_word_lem}

module _ (test : Float → Bool) where
  as_places : (from : ℕ) (xs : List Float) → how_many test xs ≡ length (places_from from test xs)
  unfolding how_many over
  as_places from [] = refl
  as_places from (x ∷ xs) = how_many_front test x xs ∙ go (test x) (places_from (suc from) test xs) (as_places (suc from) xs)
    where
      go : (b : Bool) (ks : List ℕ) {n : ℕ} → n ≡ length ks → cond b 1 0 + n ≡ length (cond b (from ∷ ks) ks)
      go true ks e = omega arith
      go false ks {n = n} e = zero-add n ∙ e

  -- the same places where the words are asked
  asked : (word : ℕ → Bool) → ((w : ℕ) → test (of_bits binary32 w) ≡ word w) → (from : ℕ) (ws : List ℕ) → places_from from test (samples_of ws) ≡ places_from from word ws
  asked word h from [] = refl
  asked word h from (w ∷ ws) = rw (h w, asked word h (suc from) ws)

  by_words : (word : ℕ → Bool) → ((w : ℕ) → test (of_bits binary32 w) ≡ word w) → (ws : List ℕ) → how_many test (samples_of ws) ≡ length (places_of word ws)
  by_words word h ws = as_places 0 (samples_of ws) ∙ ap length (asked word h 0 ws)

pub are_places : ArePlaces
unfolding not_numbers_of infinite_of
are_places xs = (as_places is_nan 0 xs, as_places is_infinite 0 xs)

pub by_pattern : ByPattern
unfolding not_numbers_of infinite_of
by_pattern words = (by_words is_nan not_number_word not_number_word_lem words, by_words is_infinite infinite_word infinite_word_lem words)

pub of_words : OfWords
of_words [] h = refl
of_words (x ∷ xs) h = rw (of_bits-to_bits binary32 x (h 0 (zero-lt-suc (length xs))), of_words xs (λ k l. h (suc k) (grown k (length xs) l)))
  where
    grown : (a b : ℕ) → a < b → suc a < suc b
    grown a b h = omega arith
