-- Lists of parts whose texts are as long as those of others, and fit a record where those do.
use Rattle.std.proofs.Common.{◌≡◌, ℕ, zero, suc, refl, ap, List, [], ◌∷◌, ◌++◌, length, drop, arith}
use Rattle.std.specs.Prelude.{All, AllPairs, flat_map}
use Rattle.std.specs.List.{AllZip}
use Rattle.std.proofs.lemmas.List.{length-append}
use Rattle.std.proofs.lemmas.List.Elements.{All-nil, All-cons, All-head, All-tail}
use Rattle.mdv_plan.proofs.Pairs.{AllPairs-cons, AllPairs-first, AllPairs-rest}
use Rattle.mdv_fields.specs.Numbers.{u16_text}
use Rattle.mdv_fields.specs.Reading.{ShortFits, short_text, LongFits, long_text}

-- given something more for what fits, but not for how long the texts are
pub record IsAlike {A : Type 0} (Given : Type 0) (Fits : A → Type 0) (text : A → List ℕ) (a b : A) : Type 0 where
  pub size : length (text b) ≡ length (text a)
  pub fits : Given → Fits a → Fits b

-- texts behind one another
pub appended : (a b c d : List ℕ) → length c ≡ length a → length d ≡ length b → length (c ++ d) ≡ length (a ++ b)
appended a b c d first second = omega (arith, length-append c d, length-append a b, first, second)

pub zip_length : {A B : Type 0} (R : A → B → Type 0) (xs : List A) (ys : List B) → AllZip R xs ys → length ys ≡ length xs
zip_length R [] [] all = refl
zip_length R [] (y ∷ ys) all = absurd all
zip_length R (x ∷ xs) [] all = absurd all
zip_length R (x ∷ xs) (y ∷ ys) all = ap suc (zip_length R xs ys all.1)

pub zip_drop : {A B : Type 0} (R : A → B → Type 0) (n : ℕ) (xs : List A) (ys : List B) → AllZip R xs ys → AllZip R (drop n xs) (drop n ys)
zip_drop R zero xs ys all = all
zip_drop R (suc n) [] [] all = all
zip_drop R (suc n) [] (y ∷ ys) all = absurd all
zip_drop R (suc n) (x ∷ xs) [] all = absurd all
zip_drop R (suc n) (x ∷ xs) (y ∷ ys) all = zip_drop R n xs ys all.1

-- what holds of each element holds of those beside them
pub zip_all : {A B : Type 0} (R : A → B → Type 0) (P : A → Type 0) (Q : B → Type 0) → ((a : A) (b : B) → R a b → P a → Q b) → (xs : List A) (ys : List B) → AllZip R xs ys → All P xs → All Q ys
zip_all R P Q each [] [] all holds = All-nil Q
zip_all R P Q each [] (y ∷ ys) all holds = absurd all
zip_all R P Q each (x ∷ xs) [] all holds = absurd all
zip_all R P Q each (x ∷ xs) (y ∷ ys) all holds = All-cons Q y ys (each x y all.0 (All-head P x xs holds)) (zip_all R P Q each xs ys all.1 (All-tail P x xs holds))

-- and what holds of each and each later one
pub zip_pairs : {A : Type 0} (R : A → A → Type 0) (B : A → A → Type 0) → ((a b c d : A) → R a b → R c d → B a c → B b d) → (xs ys : List A) → AllZip R xs ys → AllPairs B xs → AllPairs B ys
zip_pairs R B each [] [] all holds = holds
zip_pairs R B each [] (y ∷ ys) all holds = absurd all
zip_pairs R B each (x ∷ xs) [] all holds = absurd all
zip_pairs R B each (x ∷ xs) (y ∷ ys) all holds =
    AllPairs-cons B y ys (zip_all R (B x) (B y) (λ a b r. each x y a b all.0 r) xs ys all.1 (AllPairs-first B x xs holds)) (zip_pairs R B each xs ys all.1 (AllPairs-rest B x xs holds))

module _ {A : Type 0} (Given : Type 0) (Fits : A → Type 0) (text : A → List ℕ) where
  pub all_fit : (xs ys : List A) → AllZip (IsAlike Given Fits text) xs ys → Given → All Fits xs → All Fits ys
  all_fit xs ys all given holds = zip_all (IsAlike Given Fits text) Fits Fits (λ a b alike. alike.fits given) xs ys all holds

  pub texts_size : (xs ys : List A) → AllZip (IsAlike Given Fits text) xs ys → length (flat_map text ys) ≡ length (flat_map text xs)
  texts_size [] [] all = refl
  texts_size [] (y ∷ ys) all = absurd all
  texts_size (x ∷ xs) [] all = absurd all
  texts_size (x ∷ xs) (y ∷ ys) all = appended (text x) (flat_map text xs) (text y) (flat_map text ys) all.0.size (texts_size xs ys all.1)

  pub short_alike : (most : ℕ) (xs ys : List A) → AllZip (IsAlike Given Fits text) xs ys → IsAlike Given (ShortFits Fits most) (short_text text) xs ys
  unfolding short_text
  short_alike most xs ys all =
      let same = zip_length (IsAlike Given Fits text) xs ys all in
      record {
        size = ap suc (texts_size xs ys all);
        fits = λ given is. record { few = omega (arith, is.few, same); counted = omega (arith, is.counted, same); each = all_fit xs ys all given is.each };
      }

  pub counted_size : (xs ys : List A) → AllZip (IsAlike Given Fits text) xs ys → length (u16_text (length ys)) ≡ length (u16_text (length xs))
  counted_size xs ys all = ap (λ (n : ℕ). length (u16_text n)) (zip_length (IsAlike Given Fits text) xs ys all)

  pub long_alike : (most : ℕ) (xs ys : List A) → AllZip (IsAlike Given Fits text) xs ys → IsAlike Given (LongFits Fits most) (long_text text) xs ys
  unfolding long_text
  long_alike most xs ys all =
      let same = zip_length (IsAlike Given Fits text) xs ys all in
      record {
        size = appended (u16_text (length xs)) (flat_map text xs) (u16_text (length ys)) (flat_map text ys) (counted_size xs ys all) (texts_size xs ys all);
        fits = λ given is. record { few = omega (arith, is.few, same); counted = omega (arith, is.counted, same); each = all_fit xs ys all given is.each };
      }
