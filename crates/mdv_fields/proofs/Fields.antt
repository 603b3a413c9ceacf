-- Fields in front of the bytes that are left.
use Rattle.std.proofs.Common.{◌≡◌, ◌<◌, ◌≤◌, ◌^◌, ℕ, refl, sym, ◌∙◌, ap, List, [], ◌∷◌, ◌++◌, length, get_or, take, drop, append_assoc, subst, Option, None, Some, Result, Ok, Err, IfOk, arith}
use Rattle.std.proofs.lemmas.List.{append-nil}
use Rattle.std.proofs.Math.Seq.{take-append_seam, drop-append_seam}
use Rattle.std.specs.Option.{ok_or}
use Rattle.std.specs.Prelude.{◌↔◌, IsSome, IfSome}
use Rattle.byteorder.specs.Endian.{big_bytes, big_number}
use Rattle.byteorder.specs.Numbers.{big_number-reads_back, length-bytes_high_first}
use Rattle.mdv_base.specs.Name.{IsName}
use Rattle.mdv_fields.specs.declared.fault.RecordError.{RecordError}
use Rattle.mdv_fields.specs.declared.fault.RecordError.TheVariants.{NotARecord}
use Rattle.mdv_fields.specs.Numbers.{u16_text, u32_text, u64_text}
use Rattle.mdv_fields.specs.Reading.{Reads}

-- fronts of one length
pub same_fronts : {A : Type 0} (a b c d : List A) → length a ≡ length b → a ++ c ≡ b ++ d → (a ≡ b) × (c ≡ d)
same_fronts {A} a b c d size is = (
  sym (take-append_seam a c) ∙ ap (take (length a)) is ∙ ap (λ (n : ℕ). take n (b ++ d)) size ∙ take-append_seam b d,
  sym (drop-append_seam a c) ∙ ap (drop (length a)) is ∙ ap (λ (n : ℕ). drop n (b ++ d)) size ∙ drop-append_seam b d,
)

-- the bytes of a number are its field
pub number_field : (k : ℕ) {field old new : List ℕ} {n : ℕ} → n < 256 ^ k → big_bytes k n ≡ field → old ≡ field ++ new → Reads (λ m. m < 256 ^ k) (big_bytes k) old (Ok n) new
number_field k {field} {old} {new} {n} fits back split = record {
  read = (fits, split ∙ ap (λ (l : List ℕ). l ++ new) (sym back));
  spelled = λ m rest below spelled.
      let parts = same_fronts (big_bytes k n) (big_bytes k m) new rest (length-bytes_high_first k n ∙ sym (length-bytes_high_first k m)) (ap (λ (l : List ℕ). l ++ new) back ∙ sym split ∙ spelled) in
      let number = λ (x : ℕ) (in_range : x < 256 ^ k). ap (big_number k) (sym (append-nil (big_bytes k x))) ∙ big_number-reads_back k x [] in_range in
      (sym (number n fits) ∙ ap (big_number k) parts.0 ∙ number m below, parts.1);
}

pub u16_field : {field old new : List ℕ} {n : ℕ} → n < 256 ^ 2 → big_bytes 2 n ≡ field → old ≡ field ++ new → Reads (λ m. m < 256 ^ 2) u16_text old (Ok n) new
unfolding u16_text
u16_field fits back split = number_field 2 fits back split

pub u32_field : {field old new : List ℕ} {n : ℕ} → n < 256 ^ 4 → big_bytes 4 n ≡ field → old ≡ field ++ new → Reads (λ m. m < 256 ^ 4) u32_text old (Ok n) new
unfolding u32_text
u32_field fits back split = number_field 4 fits back split

pub u64_field : {field old new : List ℕ} {n : ℕ} → n < 256 ^ 8 → big_bytes 8 n ≡ field → old ≡ field ++ new → Reads (λ m. m < 256 ^ 8) u64_text old (Ok n) new
unfolding u64_text
u64_field fits back split = number_field 8 fits back split

-- one byte is its own field
pub one_byte : (field : List ℕ) → length field ≡ 1 → get_or field 0 0 ∷ [] ≡ field
one_byte [] size = absurd (omega arith)
one_byte (x ∷ []) size = refl
one_byte (x ∷ y ∷ l) size = absurd (omega arith)

pub byte_field : {field old new : List ℕ} {b : ℕ} → b < 256 → b ∷ [] ≡ field → old ≡ field ++ new → Reads (λ n. n < 256) (λ n. n ∷ []) old (Ok b) new
byte_field {field} {old} {new} {b} fits is split = record {
  read = (fits, split ∙ ap (λ (l : List ℕ). l ++ new) (sym is));
  spelled = λ n rest below spelled.
      let both : b ∷ new ≡ n ∷ rest = ap (λ (l : List ℕ). l ++ new) is ∙ sym split ∙ spelled in
      (cc (both), cc (both));
}

-- the same of what fits in other words
pub refitted : {A : Type 0} {F G : A → Type 0} {text : A → List ℕ} {old new : List ℕ} {answer : Result A RecordError} → Reads F text old answer new → ((a : A) → F a → G a) → ((a : A) → G a → F a) → Reads G text old answer new
refitted {A} {F} {G} {text} {old} {new} {answer} reads to from = record { read = also answer reads.read; spelled = λ a rest fits is. reads.spelled a rest (from a fits) is }
  where
    also : (answer : Result A RecordError) → IfOk answer (λ a. F a × (old ≡ text a ++ new)) → IfOk answer (λ a. G a × (old ≡ text a ++ new))
    also (Err e) read = tt
    also (Ok a) read = (to a read.0, read.1)

-- what stands behind its size
pub counted : {W : Type 0} {F : W → Type 0} {G : ℕ → Type 0} {count : ℕ → List ℕ} (size : W → ℕ) (body : W → List ℕ) {old middle new : List ℕ} {n : ℕ} (answer : Result W RecordError) → ((w : W) → F w → G (size w)) → Reads G count old (Ok n) middle → Reads (λ w. F w × (size w ≡ n)) body middle answer new → Reads F (λ w. count (size w) ++ body w) old answer new
counted {W} {F} {G} {count} size body {old} {middle} {new} {n} answer ranges first second = record {
  read = whole answer second.read;
  spelled = λ w rest fits is.
      let one = first.spelled (size w) (body w ++ rest) (ranges w fits) (is ∙ append_assoc (count (size w)) (body w) rest) in
      second.spelled w rest (fits, sym one.0) one.1;
}
  where
    whole : (answer : Result W RecordError) → IfOk answer (λ w. (F w × (size w ≡ n)) × (middle ≡ body w ++ new)) → IfOk answer (λ w. F w × (old ≡ (count (size w) ++ body w) ++ new))
    whole (Err e) read = tt
    whole (Ok w) read = (read.0.0, first.read.1 ∙ ap (λ (k : ℕ). count k ++ middle) (sym read.0.1) ∙ ap (λ (l : List ℕ). count (size w) ++ l) read.1 ∙ sym (append_assoc (count (size w)) (body w) new))

pub uncounted : {W : Type 0} {F : W → Type 0} {G : ℕ → Type 0} {count : ℕ → List ℕ} (size : W → ℕ) (body : W → List ℕ) {old middle new : List ℕ} {e : RecordError} → ((w : W) → F w → G (size w)) → Reads G count old (Err e) middle → Reads F (λ w. count (size w) ++ body w) old (Err e) new
uncounted {count = count} size body ranges first = record {
  read = tt;
  spelled = λ w rest fits is. first.spelled (size w) (body w ++ rest) (ranges w fits) (is ∙ append_assoc (count (size w)) (body w) rest);
}

-- the bytes of a name, so many
pub named : {field old new : List ℕ} {n : ℕ} → length field ≡ n → old ≡ field ++ new → IsName field → Reads (λ name. IsName name × (length name ≡ n)) (λ name. name) old (Ok field) new
named {field} {old} {new} long split name = record {
  read = ((name, long), split);
  spelled = λ text rest fits is. same_fronts field text new rest (long ∙ sym fits.1) (sym split ∙ is);
}

pub not_named : {field old new : List ℕ} {n : ℕ} → length field ≡ n → old ≡ field ++ new → (IsName field → ⊥) → Reads (λ name. IsName name × (length name ≡ n)) (λ name. name) old (Err NotARecord) new
not_named {field} {old} {new} long split other = record {
  read = tt;
  spelled = λ text rest fits is. absurd (other (subst IsName (sym (same_fronts field text new rest (long ∙ sym fits.1) (sym split ∙ is)).0) fits.0));
}

pub name_or_none : {field old new : List ℕ} {n : ℕ} (answer : Option (List ℕ)) → length field ≡ n → old ≡ field ++ new → (IsSome answer ↔ IsName field) → IfSome answer (λ name. name ≡ field) → Reads (λ name. IsName name × (length name ≡ n)) (λ name. name) old (ok_or answer NotARecord) new
name_or_none None long split valid value = not_named long split (λ name. cc (valid.1 name))
name_or_none {field} {old} {new} {n} (Some name) long split valid value =
    subst (λ (x : List ℕ). Reads (λ text. IsName text × (length text ≡ n)) (λ text. text) old (Ok x) new) (sym value) (named long split (valid.0 refl))

-- what stands behind its size, which is within bounds
module _ {W : Type 0} {F : W → Type 0} {B : ℕ → W → Type 0} (size : W → ℕ) (body : W → List ℕ) (low high : ℕ) (small : high < 256 ^ 2) (to : (n : ℕ) (w : W) → low ≤ n → n ≤ high → B n w → F w × (size w ≡ n)) (from : (w : W) → F w → (low ≤ size w) × (size w ≤ high) × B (size w) w) where
  pub between : {old middle new : List ℕ} {n : ℕ} (answer : Result W RecordError) → Reads (λ m. m < 256 ^ 2) u16_text old (Ok n) middle → low ≤ n → n ≤ high → Reads (B n) body middle answer new → Reads F (λ w. u16_text (size w) ++ body w) old answer new
  between {n = n} answer number above below behind =
      counted size body answer (λ w fits. omega (arith, (from w fits).1)) number (refitted behind (λ w is. to n w above below is) (λ w is. subst (λ (k : ℕ). B k w) is.1 (from w is.0).2))

  pub no_size : {old middle new : List ℕ} {e : RecordError} → Reads (λ m. m < 256 ^ 2) u16_text old (Err e) middle → Reads F (λ w. u16_text (size w) ++ body w) old (Err e) new
  no_size number = uncounted size body (λ w fits. omega (arith, (from w fits).1)) number

  pub not_between : {old middle new : List ℕ} {n : ℕ} → Reads (λ m. m < 256 ^ 2) u16_text old (Ok n) middle → (low ≤ n → n ≤ high → ⊥) → Reads F (λ w. u16_text (size w) ++ body w) old (Err NotARecord) new
  not_between number out = record {
    read = tt;
    spelled = λ w rest fits is.
        let bounds = from w fits in
        let one = number.spelled (size w) (body w ++ rest) (omega (arith, bounds.1)) (is ∙ append_assoc (u16_text (size w)) (body w) rest) in
        absurd (out (omega (arith, one.0, bounds.0)) (omega (arith, one.0, bounds.1)));
  }

-- a field of so many bytes, as they are
pub bytes_field : {field old new : List ℕ} (n : ℕ) → length field ≡ n → old ≡ field ++ new → Reads (λ bytes. length bytes ≡ n) (λ bytes. bytes) old (Ok field) new
bytes_field {field} {old} {new} n long split = record {
  read = (long, split);
  spelled = λ bytes rest fits is. same_fronts field bytes new rest (long ∙ sym fits) (sym split ∙ is);
}
