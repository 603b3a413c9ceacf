-- Parts of one kind, one behind another.
use Rattle.std.proofs.Common.{◌≡◌, ◌<◌, ◌≤◌, ◌+◌, ℕ, refl, sym, ◌∙◌, ap, List, [], ◌∷◌, ◌++◌, append_assoc, length, get_or, take, drop, ◌^◌, Result, Ok, Err, arith}
use Rattle.std.proofs.lemmas.List.{append-nil, length_push, take_more, drop_more, take_all, drop_all}
use Rattle.std.proofs.lemmas.List.Concat.{flat_map-append}
use Rattle.std.proofs.lemmas.List.Elements.{All-nil, All-push}
use Rattle.std.specs.Prelude.{All, flat_map}
use Rattle.mdv_fields.specs.declared.fault.RecordError.{RecordError}
use Rattle.mdv_fields.specs.declared.fault.RecordError.TheVariants.{NotARecord, Memory}
use Rattle.mdv_fields.specs.Numbers.{u16_text}
use Rattle.mdv_fields.specs.Reading.{Reads, ListFits, ShortFits, short_text, LongFits, long_text}
use Rattle.mdv_fields.proofs.Fields.{refitted, counted, uncounted}

-- what was read of so many parts: it stands in front of what is left, and is the front of each list that is spelled there
pub record IsSoFar {A : Type 0} (F : A → Type 0) (text : A → List ℕ) (start now : List ℕ) (done : List A) (count i : ℕ) : Type 0 where
  pub read : start ≡ flat_map text done ++ now
  pub each : All F done
  pub size : length done ≡ i
  pub spelled : (xs : List A) (rest : List ℕ) → ListFits F count xs → start ≡ flat_map text xs ++ rest → (done ≡ take i xs) × (now ≡ flat_map text (drop i xs) ++ rest)

module _ {A : Type 0} {F : A → Type 0} {text : A → List ℕ} where
  pub so_far_none : (start : List ℕ) (count : ℕ) → IsSoFar F text start start [] count 0
  so_far_none start count = record { read = refl; each = All-nil F; size = refl; spelled = λ xs rest all is. (refl, is) }

  -- the next part of a list that is spelled
  ahead : {start now : List ℕ} {done : List A} {count i : ℕ} → IsSoFar F text start now done count i → i < count → (xs : List A) (rest : List ℕ) → ListFits F count xs → start ≡ flat_map text xs ++ rest → (x : A) × F x × (take (i + 1) xs ≡ take i xs ++ x ∷ []) × (now ≡ text x ++ (flat_map text (drop (i + 1) xs) ++ rest))
  ahead so_far within [] rest all is = absurd (omega (arith, all.size))
  ahead {i = i} so_far within (y ∷ ys) rest all is =
      let x = get_or (y ∷ ys) i y in
      let inside : i < length (y ∷ ys) = omega (arith, all.size) in
      let left = so_far.spelled (y ∷ ys) rest all is in (
        x,
        all.each i y inside,
        take_more (y ∷ ys) i y inside,
        left.1 ∙ ap (λ (l : List A). flat_map text l ++ rest) (drop_more (y ∷ ys) i y inside) ∙ append_assoc (text x) (flat_map text (drop (i + 1) (y ∷ ys))) rest,
      )

  pub so_far_more : {start now new : List ℕ} {done : List A} {count i : ℕ} {a : A} → IsSoFar F text start now done count i → i < count → Reads F text now (Ok a) new → IsSoFar F text start new (done ++ a ∷ []) count (i + 1)
  so_far_more {new = new} {done = done} {i = i} {a = a} so_far within reads =
      let parts : flat_map text (done ++ a ∷ []) ≡ flat_map text done ++ text a = flat_map-append text done (a ∷ []) ∙ ap (λ (l : List ℕ). flat_map text done ++ l) (append-nil (text a)) in
      record {
        read = so_far.read ∙ ap (λ (l : List ℕ). flat_map text done ++ l) reads.read.1 ∙ sym (append_assoc (flat_map text done) (text a) new) ∙ ap (λ (l : List ℕ). l ++ new) (sym parts);
        each = All-push F done a so_far.each reads.read.0;
        size = omega (arith, so_far.size, length_push done a);
        spelled = λ xs rest all is.
            let n = ahead so_far within xs rest all is in
            let read = reads.spelled n.0 (flat_map text (drop (i + 1) xs) ++ rest) n.1 n.3 in
            (ap (λ (l : List A). l ++ a ∷ []) (so_far.spelled xs rest all is).0 ∙ ap (λ (x : A). take i xs ++ x ∷ []) read.0 ∙ sym n.2, read.1);
      }

  -- where the next part isn't read, no list is spelled, or memory is wanting
  pub never_more : {start now new : List ℕ} {done : List A} {count i : ℕ} {e : RecordError} → IsSoFar F text start now done count i → i < count → Reads F text now (Err e) new → (xs : List A) (rest : List ℕ) → ListFits F count xs → start ≡ flat_map text xs ++ rest → e ≡ Memory
  never_more {i = i} so_far within reads xs rest all is =
      let n = ahead so_far within xs rest all is in
      reads.spelled n.0 (flat_map text (drop (i + 1) xs) ++ rest) n.1 n.3

  -- all that there are
  pub all_read : {start now : List ℕ} {done : List A} {count i : ℕ} → IsSoFar F text start now done count i → count ≤ i → i ≤ count → Reads (ListFits F count) (flat_map text) start (Ok done) now
  all_read {i = i} so_far enough most = record {
    read = (record { size = omega (arith, so_far.size); each = so_far.each }, so_far.read);
    spelled = λ xs rest all is.
        let left = so_far.spelled xs rest all is in
        (left.0 ∙ take_all i xs (omega (arith, all.size)), left.1 ∙ ap (λ (l : List A). flat_map text l ++ rest) (drop_all i xs (omega (arith, all.size))));
  }

-- a list that is read behind its number
module _ {A : Type 0} {F : A → Type 0} (text : A → List ℕ) {old middle new : List ℕ} where
  pub short_is : {n most : ℕ} (answer : Result (List A) RecordError) → Reads (λ b. b < 256) (λ b. b ∷ []) old (Ok n) middle → n ≤ most → Reads (ListFits F n) (flat_map text) middle answer new → Reads (ShortFits F most) (short_text text) old answer new
  unfolding short_text
  short_is {n = n} {most = most} answer byte within list =
      counted length (flat_map text) answer (λ xs fits. fits.counted) byte (refitted list (λ xs is. (record { few = omega (arith, is.size); counted = omega (arith, is.size, byte.read.0); each = is.each }, is.size)) (λ xs is. record { size = is.1; each = is.0.each }))

  pub no_short : {most : ℕ} {e : RecordError} → Reads (λ b. b < 256) (λ b. b ∷ []) old (Err e) middle → Reads (ShortFits F most) (short_text text) old (Err e) new
  unfolding short_text
  no_short byte = uncounted length (flat_map text) (λ xs fits. fits.counted) byte

  pub too_many_short : {n most : ℕ} → Reads (λ b. b < 256) (λ b. b ∷ []) old (Ok n) middle → most < n → Reads (ShortFits F most) (short_text text) old (Err NotARecord) new
  unfolding short_text
  too_many_short byte many = record { read = tt; spelled = λ xs rest fits is. let one = byte.spelled (length xs) (flat_map text xs ++ rest) fits.counted is in absurd (omega (arith, one.0, fits.few)) }

  pub long_is : {n most : ℕ} (answer : Result (List A) RecordError) → Reads (λ b. b < 256 ^ 2) (u16_text) old (Ok n) middle → n ≤ most → Reads (ListFits F n) (flat_map text) middle answer new → Reads (LongFits F most) (long_text text) old answer new
  unfolding long_text
  long_is {n = n} {most = most} answer number within list =
      counted length (flat_map text) answer (λ xs fits. fits.counted) number (refitted list (λ xs is. (record { few = omega (arith, is.size); counted = omega (arith, is.size, number.read.0); each = is.each }, is.size)) (λ xs is. record { size = is.1; each = is.0.each }))

  pub no_long : {most : ℕ} {e : RecordError} → Reads (λ b. b < 256 ^ 2) (u16_text) old (Err e) middle → Reads (LongFits F most) (long_text text) old (Err e) new
  unfolding long_text
  no_long number = uncounted length (flat_map text) (λ xs fits. fits.counted) number

  pub too_many_long : {n most : ℕ} → Reads (λ b. b < 256 ^ 2) (u16_text) old (Ok n) middle → most < n → Reads (LongFits F most) (long_text text) old (Err NotARecord) new
  unfolding long_text
  too_many_long number many = record {
    read = tt;
    spelled = λ xs rest fits is. let one = number.spelled (length xs) (flat_map text xs ++ rest) fits.counted (is ∙ append_assoc (u16_text (length xs)) (flat_map text xs) rest) in absurd (omega (arith, one.0, fits.few));
  }
