-- No cause holds exactly where none is told.
use Rattle.std.proofs.Common.{◌≡◌, ◌<◌, ℕ, zero, suc, Bool, false, Option, None, Some, refl, sym, ◌∙◌, List, [], ◌∷◌, length, get_or, inl, inr, arith}
use Rattle.std.specs.Option.{option_map}
use Rattle.std.proofs.lemmas.Bool.{cases_Bool, cond-true, cond-false}
use Rattle.mdv_components.specs.Causes.{first_of, order, told}
use Rattle.mdv_components.specs.declared.cause.Cause.{Cause}
use Rattle.mdv_components.specs.declared.cause.Cause.TheVariants.{NoSuchVolume, NoSuchPool, NoSuchSlice, NameTaken, WrongKind, WrongState, LastCopy, TooFew, TooMany, BadInterlace, SliceInUse, HasParent, Nested, SpareInUse, TooSmall, NoSpace}
use Rattle.mdv_change.specs.Change.{carried, condition, refusal_of}
use Rattle.mdv_remake.specs.Below.{Change, DriveNo, Geometry, Table}

first_none : (holds : Cause → Bool) (c : Cause) (cs : List Cause) → first_of holds (c ∷ cs) ≡ None → (holds c ≡ false) × (first_of holds cs ≡ None)
first_none holds c cs none = elim (cases_Bool (holds c)) [
  | inl on ↦ let some : Some c ≡ None = sym (cond-true (holds c) (Some c) (first_of holds cs) on) ∙ none in cc
  | inr off ↦ (off, sym (cond-false (holds c) (Some c) (first_of holds cs) off) ∙ none)
]

none_at : (holds : Cause → Bool) (cs : List Cause) → first_of holds cs ≡ None → (i : ℕ) (d : Cause) → i < length cs → holds (get_or cs i d) ≡ false
none_at holds [] none i d lt = absurd (omega arith)
none_at holds (c ∷ cs) none zero d lt = (first_none holds c cs none).0
none_at holds (c ∷ cs) none (suc i) d lt = none_at holds cs (first_none holds c cs none).1 i d (omega arith)

-- each cause stands in the order
none_holds : (holds : Cause → Bool) → first_of holds order ≡ None → (c : Cause) → holds c ≡ false
none_holds holds none NoSuchVolume = none_at holds order none 0 NoSuchVolume (omega arith)
none_holds holds none NoSuchPool = none_at holds order none 1 NoSuchVolume (omega arith)
none_holds holds none NoSuchSlice = none_at holds order none 2 NoSuchVolume (omega arith)
none_holds holds none NameTaken = none_at holds order none 3 NoSuchVolume (omega arith)
none_holds holds none WrongKind = none_at holds order none 4 NoSuchVolume (omega arith)
none_holds holds none WrongState = none_at holds order none 5 NoSuchVolume (omega arith)
none_holds holds none LastCopy = none_at holds order none 6 NoSuchVolume (omega arith)
none_holds holds none TooFew = none_at holds order none 7 NoSuchVolume (omega arith)
none_holds holds none TooMany = none_at holds order none 8 NoSuchVolume (omega arith)
none_holds holds none BadInterlace = none_at holds order none 9 NoSuchVolume (omega arith)
none_holds holds none SliceInUse = none_at holds order none 10 NoSuchVolume (omega arith)
none_holds holds none HasParent = none_at holds order none 11 NoSuchVolume (omega arith)
none_holds holds none Nested = none_at holds order none 12 NoSuchVolume (omega arith)
none_holds holds none SpareInUse = none_at holds order none 13 NoSuchVolume (omega arith)
none_holds holds none TooSmall = none_at holds order none 14 NoSuchVolume (omega arith)
none_holds holds none NoSpace = none_at holds order none 15 NoSuchVolume (omega arith)

none_told : (holds : Cause → Bool) → ((c : Cause) → holds c ≡ false) → (cs : List Cause) → first_of holds cs ≡ None
none_told holds free [] = refl
none_told holds free (c ∷ cs) = cond-false (holds c) (Some c) (first_of holds cs) (free c) ∙ none_told holds free cs

no_option : {A B : Type 0} (f : A → B) (o : Option A) → option_map f o ≡ None → o ≡ None
no_option f None is = refl
no_option f (Some x) is = cc

map_none : {A B : Type 0} (f : A → B) (o : Option A) → o ≡ None → option_map f o ≡ None
map_none f None is = refl
map_none f (Some x) is = cc

-- no cause holds where the change isn't refused
pub free_of_causes : (g : Geometry) (drives : List DriveNo) (t : Table) (change : Change) → refusal_of g drives t change ≡ None → (c : Cause) → condition g drives t change c ≡ false
free_of_causes g drives t change none = none_holds (condition g drives t change) (no_option (told (carried g t change)) (first_of (condition g drives t change) order) none)

-- and it isn't where none holds
pub not_refused : (g : Geometry) (drives : List DriveNo) (t : Table) (change : Change) → ((c : Cause) → condition g drives t change c ≡ false) → refusal_of g drives t change ≡ None
not_refused g drives t change free = map_none (told (carried g t change)) (first_of (condition g drives t change) order) (none_told (condition g drives t change) free order)
