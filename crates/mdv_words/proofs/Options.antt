-- The numbers that the options of an entry of replicas give are in their bounds.
use Rattle.std.proofs.Common.{ℕ, ◌≤◌, ◌≡◌, Bool, true, false, ◌&&◌, Option, None, Some, if◌then◌else◌, List, [], ◌∷◌, refl}
use Rattle.std.specs.Prelude.{IfSome, nat_le}
use Rattle.std.proofs.lemmas.Bool.Decides.{nat_tests}
use Rattle.std.proofs.Common.{arith}
use Rattle.mdv_parts.specs.declared.options.ReplicaOptions.{ReplicaOptions}
use Rattle.mdv_parts.specs.declared.part.Part.{Part}
use Rattle.mdv_parts.specs.declared.part.Part.TheVariants.{Number}
use Rattle.mdv_parts.specs.Options.{at_letter, behind_count, first_as, given, has_letter, late_count, number_within, split_count, split_length, split_replica_options, where_true, with_count, with_options}
use Rattle.mdv_words.specs.Line.{IsCount, IsLength}

abbrev pub AreBounded : ReplicaOptions → Type 0
AreBounded options = IfSome options.count IsCount × IfSome options.blocks IsLength

-- what a letter's value keeps, where one is read
module _ (P : ℕ → Type 0) (read : Part → Option ℕ) (keeps : (p : Part) → IfSome (read p) P) where
  given_keeps : (value : Option ℕ) (ps : List Part) → IfSome value P → IfSome (given value ps) (λ r. IfSome r.0 P)
  given_keeps None ps is = tt
  given_keeps (Some n) ps is = is

  first_keeps : (ps : List Part) → IfSome (first_as read ps) (λ r. IfSome r.0 P)
  first_keeps [] = tt
  first_keeps (p ∷ ps) = given_keeps (read p) ps (keeps p)

  letter_keeps : (b : ℕ) (ps : List Part) → IfSome (at_letter b read ps) (λ r. IfSome r.0 P)
  letter_keeps b [] = tt
  letter_keeps b (p ∷ ps) = by (has_letter b p) where
    by : (has : Bool) → IfSome (if has then first_as read ps else Some (None, p ∷ ps)) (λ r. IfSome r.0 P)
    by true = first_keeps ps
    by false = tt

bounds : (least most n : ℕ) → (nat_le least n && nat_le n most) ≡ true → (least ≤ n) × (n ≤ most)
bounds least most n is = (grind (arith, nat_tests), grind (arith, nat_tests))

within_keeps : (least most : ℕ) (p : Part) → IfSome (number_within least most p) (λ n. (least ≤ n) × (n ≤ most))
within_keeps least most (Number n) = by (nat_le least n && nat_le n most) refl where
  by : (b : Bool) → (nat_le least n && nat_le n most) ≡ b → IfSome (where_true b n) (λ n. (least ≤ n) × (n ≤ most))
  by true is = bounds least most n is
  by false is = tt
within_keeps least most p = tt

count_keeps : (ps : List Part) → IfSome (split_count ps) (λ r. IfSome r.0 IsCount)
count_keeps ps = letter_keeps IsCount (number_within 1 50) (within_keeps 1 50) 99 ps

length_keeps : (ps : List Part) → IfSome (split_length ps) (λ r. IfSome r.0 IsLength)
length_keeps ps = letter_keeps IsLength (number_within 16 8192) (within_keeps 16 8192) 108 ps

length_behind : (count : Option ℕ) → IfSome count IsCount → (read : Option (Option ℕ × List Part)) → IfSome read (λ r. IfSome r.0 IsLength) → IfSome (with_options count read) (λ r. AreBounded r.0)
length_behind count is None are = tt
length_behind count is (Some (blocks, ps)) are = (is, are)

count_behind : (blocks : Option ℕ) → IfSome blocks IsLength → (read : Option (Option ℕ × List Part)) → IfSome read (λ r. IfSome r.0 IsCount) → IfSome (with_count blocks read) (λ r. AreBounded r.0)
count_behind blocks is None are = tt
count_behind blocks is (Some (count, ps)) are = (are, is)

count_late : (read : Option (Option ℕ × List Part)) → IfSome read (λ r. IfSome r.0 IsLength) → IfSome (late_count read) (λ r. AreBounded r.0)
count_late None are = tt
count_late (Some (blocks, ps)) are = count_behind blocks are (split_count ps) (count_keeps ps)

both_behind : (read : Option (Option ℕ × List Part)) → IfSome read (λ r. IfSome r.0 IsCount) → IfSome (behind_count read) (λ r. AreBounded r.0)
both_behind None are = tt
both_behind (Some (None, ps)) are = count_late (split_length ps) (length_keeps ps)
both_behind (Some (Some count, ps)) are = length_behind (Some count) are (split_length ps) (length_keeps ps)

pub options_bounded : (ps : List Part) → IfSome (split_replica_options ps) (λ r. AreBounded r.0)
options_bounded ps = both_behind (split_count ps) (count_keeps ps)
