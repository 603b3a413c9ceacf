-- What a change of volumes is refused for, by what the rules of changes say and by the length of the record.
use Rattle.std.proofs.Common.{◌≡◌, inl, inr, ◌≤◌, ◌<◌, ◌++◌, ℕ, Bool, true, false, List, [], ◌∷◌, Option, Some, None, IfSome, All, refl, sym, ap, ◌∙◌, subst, arith}
use Rattle.std.proofs.lemmas.Bool.Decides.{nat_tests}
use Rattle.std.proofs.lemmas.List.Elements.{All-append, All-cons, All-nil}
use Rattle.std.specs.Option.{option_map, option_or}
use Rattle.std.specs.Prelude.{nat_lt}
use Rattle.mdv_base.proofs.Order.{first_holds, full_is_last}
use Rattle.mdv_base.specs.Order.{first_refusal, order, where_so}
use Rattle.mdv_base.specs.declared.refusal.Refusal.TheVariants as refusal
use Rattle.mdv_change.specs.Change.{carried, condition, refusal_of}
use Rattle.mdv_components.specs.Causes.{first_of, told}
use Rattle.mdv_components.specs.Causes as causes
use Rattle.mdv_components.specs.declared.cause.Carried.{Carried}
use Rattle.mdv_components.specs.declared.cause.Cause.{Cause}
use Rattle.mdv_components.specs.declared.cause.Cause.TheVariants.{NoSuchVolume, NoSuchPool, NoSuchSlice, NameTaken, WrongKind, WrongState, LastCopy, TooFew, TooMany, BadInterlace, SliceInUse, HasParent, Nested, SpareInUse, TooSmall, NoSpace}
use Rattle.mdv_keeping.specs.Built.{names_db}
use Rattle.mdv_keeping.specs.Refused.{cause_with}
use Rattle.mdv_engine_law.specs.Altering.{Alters, change_of}
use Rattle.mdv_engine_law.specs.Refusals.{bytes_after, change_refusal, held_of_alteration, held_of_change, listed, told_by_table}
use Rattle.mdv_engine_law.specs.Answers.{refusing}
use Rattle.mdv_engine_law.specs.Replies.{Blame, HasAnswerCause}
use Rattle.mdv_engine.specs.Below.{Alteration, Host, IoFault, Memory, Opened, PlanChange, Refusal, ReplicaFull, record_room}
use Rattle.mdv_engine.specs.Engine.{HasChangeCause}
use Rattle.mdv_engine.proofs.Judged.{IsJudged, judged_said, where_judged}

-- a refusal alone is the first one
sole : (r : Refusal) → IsJudged r → first_refusal (r ∷ []) ≡ Some r
sole refusal.BadLine judged = refl
sole refusal.NoDatabase judged = refl
sole refusal.NeedForce judged = refl
sole refusal.NoSuchVolume judged = refl
sole refusal.NameTaken judged = refl
sole refusal.NoSuchSlice judged = refl
sole refusal.SliceInUse judged = refl
sole refusal.TooFew judged = refl
sole refusal.TooMany judged = refl
sole refusal.TooSmall judged = refl
sole refusal.HasParent judged = refl
sole refusal.WrongKind judged = refl
sole (refusal.WrongState word) judged = refl
sole refusal.LastCopy judged = refl
sole (refusal.NoSpace blocks) judged = refl
sole refusal.Nested judged = refl
sole (refusal.ReplicaFull bytes room) judged = refl
sole refusal.NotOwner judged = refl
sole (refusal.OwnedByOther name) judged = refl
sole refusal.NoSuchSet judged = refl
sole refusal.NoSuchHost judged = refl
sole refusal.OutOfRange judged = refl
sole refusal.IoFault judged = absurd judged
sole refusal.OutOfMemory judged = absurd judged
sole refusal.BadInterlace judged = refl
sole refusal.NoSuchPool judged = refl
sole refusal.SpareInUse judged = refl
sole (refusal.SetNoQuorum readable needed) judged = refl
sole refusal.LineTooLong judged = refl

-- what the rules of changes tell
cause_judged : (of : Carried) (cause : Cause) → IsJudged (told of cause)
cause_judged of NoSuchVolume = tt
cause_judged of NoSuchPool = tt
cause_judged of NoSuchSlice = tt
cause_judged of NameTaken = tt
cause_judged of WrongKind = tt
cause_judged of WrongState = tt
cause_judged of LastCopy = tt
cause_judged of TooFew = tt
cause_judged of TooMany = tt
cause_judged of BadInterlace = tt
cause_judged of SliceInUse = tt
cause_judged of HasParent = tt
cause_judged of Nested = tt
cause_judged of SpareInUse = tt
cause_judged of TooSmall = tt
cause_judged of NoSpace = tt

rules_judged : (of : Carried) (cause : Option Cause) → IfSome (option_map (told of) cause) IsJudged
rules_judged of None = tt
rules_judged of (Some cause) = cause_judged of cause

first_judged : (held : List Refusal) → All IsJudged held → IfSome (first_refusal held) IsJudged
first_judged held all = by (first_refusal held) refl where
  by : (first : Option Refusal) → first_refusal held ≡ first → IfSome first IsJudged
  by None is = tt
  by (Some r) is = first_holds IsJudged order held r all is

with_db : (cause : Option Refusal) (is_db : Bool) → IfSome cause IsJudged → IfSome (cause_with cause is_db) IsJudged
with_db cause false is = is
with_db None true is = tt
with_db (Some r) true is = first_judged (r ∷ refusal.WrongKind ∷ []) (All-cons IsJudged r (refusal.WrongKind ∷ []) is (All-cons IsJudged refusal.WrongKind [] tt (All-nil IsJudged)))

module _ (host : Host) (o : Opened) (change : PlanChange) where
  abbrev room : ℕ
  room = record_room o

  abbrev bytes : ℕ
  bytes = bytes_after host o change

  abbrev full : Refusal
  full = ReplicaFull bytes room

  table_judged : IfSome (told_by_table host o change) IsJudged
  table_judged =
      let g = host.drives in
      let t = o.table in
      let drives = host.site.drives in
      with_db (refusal_of g drives t change) (names_db g change) (rules_judged (carried g t change) (first_of (condition g drives t change) causes.order))

  held_judged : All IsJudged (listed (told_by_table host o change))
  held_judged = by (told_by_table host o change) table_judged where
    by : (told : Option Refusal) → IfSome told IsJudged → All IsJudged (listed told)
    by None is = All-nil IsJudged
    by (Some r) is = All-cons IsJudged r [] is (All-nil IsJudged)

  fits_behind : (a b : ℕ) → b ≤ a → nat_lt a b ≡ false
  fits_behind a b fits = grind (arith, nat_tests)

  long_behind : (a b : ℕ) → a < b → nat_lt a b ≡ true
  long_behind a b long = grind (arith, nat_tests)

  pub change_free : told_by_table host o change ≡ None → bytes ≤ room → change_refusal host (Some o) change ≡ None
  change_free allowed fits = (λ i. first_refusal (listed (allowed i) ++ where_so (fits_behind room bytes fits i) full))

  pub change_long : told_by_table host o change ≡ None → room < bytes → change_refusal host (Some o) change ≡ Some full
  change_long allowed long = (λ i. first_refusal (listed (allowed i) ++ where_so (long_behind room bytes long i) full))

  -- whether the record would be too long or not
  against : (r : Refusal) → IsJudged r → (long : Bool) → first_refusal (r ∷ where_so long full) ≡ Some r
  against r judged false = sole r judged
  against r judged true = full_is_last (r ∷ []) bytes room ∙ ap (λ (first : Option Refusal). option_or first (Some full)) (sole r judged)

  pub change_against : (r : Refusal) → told_by_table host o change ≡ Some r → change_refusal host (Some o) change ≡ Some r
  change_against r is =
      ap (λ (told : Option Refusal). first_refusal (listed told ++ where_so (nat_lt room bytes) full)) is ∙ against r (told_is (told_by_table host o change) is table_judged) (nat_lt room bytes)
    where
      told_is : (told : Option Refusal) → told ≡ Some r → IfSome told IsJudged → IsJudged r
      told_is told is judged = subst (λ (x : Option Refusal). IfSome x IsJudged) is judged

change_held : (host : Host) (opened : Option Opened) (change : PlanChange) → All IsJudged (held_of_change host opened change)
change_held host None change = All-cons IsJudged refusal.NoDatabase [] tt (All-nil IsJudged)
change_held host (Some o) change =
    All-append IsJudged (listed (told_by_table host o change)) (where_so (nat_lt (record_room o) (bytes_after host o change)) (ReplicaFull (bytes_after host o change) (record_room o))) (held_judged host o change)
    (where_judged (nat_lt (record_room o) (bytes_after host o change)) (ReplicaFull (bytes_after host o change) (record_room o)) tt)

alteration_held : (host : Host) (opened : Option Opened) (change : Option PlanChange) → All IsJudged (held_of_alteration host opened change)
alteration_held host opened None = All-cons IsJudged refusal.BadLine [] tt (All-nil IsJudged)
alteration_held host opened (Some change) = change_held host opened change

-- why a line's change is refused
abbrev pub alter_refusal : Host → Option Opened → Alteration → Option Refusal
alter_refusal host opened alteration = first_refusal (held_of_alteration host opened (change_of alteration))

pub alteration_judged : (host : Host) (opened : Option Opened) (alteration : Alteration) (r : Refusal) → alter_refusal host opened alteration ≡ Some r → IsJudged r
alteration_judged host opened alteration r is = first_holds IsJudged order (held_of_alteration host opened (change_of alteration)) r (alteration_held host opened (change_of alteration)) is

-- by the change that it asks of the open database
pub of_open : (host : Host) (opened : Option Opened) (o : Opened) (alteration : Alteration) (change : PlanChange) (told : Option Refusal) → opened ≡ Some o → Alters alteration change → change_refusal host (Some o) change ≡ told → alter_refusal host opened alteration ≡ told
of_open host opened o alteration change told is asks same = (λ i. first_refusal (held_of_alteration host (is i) (asks i))) ∙ same

-- the cause of a change that isn't made
module _ (host : Host) (memory : Memory) (alteration : Alteration) (r : Refusal) where
  pub change_cause : (blame : Blame) (spends : Type 0) → blame.none → HasChangeCause host memory alteration r → HasAnswerCause blame spends (refusing r)
  change_cause blame spends calm (inl is) = judged_said blame spends r (alteration_judged host memory.opened alteration r is) calm
  change_cause blame spends calm (inr (o, opened, want)) = subst (λ (x : Refusal). HasAnswerCause blame spends (refusing x)) (sym want) calm

  -- it is no failed call
  pub change_no_fault : HasChangeCause host memory alteration r → r ≡ IoFault → ⊥
  change_no_fault (inl is) fault = subst IsJudged fault (alteration_judged host memory.opened alteration r is)
  change_no_fault (inr (o, opened, want)) fault = absurd (cc (sym want ∙ fault))
