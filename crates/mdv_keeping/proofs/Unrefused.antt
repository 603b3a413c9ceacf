-- What isn't so of a change that nothing refuses.
use Rattle.std.proofs.Common.{◌≡◌, Bool, true, false, cond, List, [], ◌∷◌, Option, None, Some, refl, sym, arith}
use Rattle.std.specs.Prelude.{All}
use Rattle.std.specs.Option.{option_map}
use Rattle.std.proofs.lemmas.List.Elements.{All-cons, All-nil}
use Rattle.std.proofs.lemmas.Option.{none-some}
use Rattle.mdv_change.specs.Change.{carried, condition}
use Rattle.mdv_components.specs.Causes.{first_of, order, told}
use Rattle.mdv_components.specs.declared.cause.Cause.{Cause}
use Rattle.mdv_components.specs.declared.cause.Cause.TheVariants.{NoSuchVolume, NoSuchSlice, NameTaken, WrongKind, TooFew, TooMany, BadInterlace, SliceInUse, TooSmall}
use Rattle.mdv_keeping.specs.Below.{Change, DriveNo, Geometry, Table, refusal_of}

untold : {A B : Type 0} (f : A → B) (o : Option A) → option_map f o ≡ None → o ≡ None
untold f None is = refl
untold f (Some a) is = cc

none_holds : (holds : Cause → Bool) (causes : List Cause) → first_of holds causes ≡ None → All (λ c. holds c ≡ false) causes
none_holds holds [] none = All-nil _
none_holds holds (c ∷ causes) none = by (λ it. none_holds holds causes it) (holds c) refl none where
  by : (first_of holds causes ≡ None → All (λ d. holds d ≡ false) causes) → (b : Bool) → holds c ≡ b → cond b (Some c) (first_of holds causes) ≡ None → All (λ d. holds d ≡ false) (c ∷ causes)
  by later true is it = absurd (none-some c (sym it))
  by later false is it = All-cons (λ d. holds d ≡ false) c causes is (later it)

-- the causes that a built change may have
pub record IsUnrefused (holds : Cause → Bool) : Type 0 where
  pub there : holds NoSuchVolume ≡ false
  pub slices : holds NoSuchSlice ≡ false
  pub free : holds NameTaken ≡ false
  pub kind : holds WrongKind ≡ false
  pub some : holds TooFew ≡ false
  pub few : holds TooMany ≡ false
  pub interlace : holds BadInterlace ≡ false
  pub unused : holds SliceInUse ≡ false
  pub room : holds TooSmall ≡ false

pub unrefused : (g : Geometry) (drives : List DriveNo) (t : Table) (change : Change) → refusal_of g drives t change ≡ None → IsUnrefused (condition g drives t change)
unrefused g drives t change none =
    let holds = condition g drives t change in
    let all = none_holds holds order (untold (told (carried g t change)) (first_of holds order) none) in
    record {
      there = all 0 NoSuchVolume (omega arith);
      slices = all 2 NoSuchVolume (omega arith);
      free = all 3 NoSuchVolume (omega arith);
      kind = all 4 NoSuchVolume (omega arith);
      some = all 7 NoSuchVolume (omega arith);
      few = all 8 NoSuchVolume (omega arith);
      interlace = all 9 NoSuchVolume (omega arith);
      unused = all 10 NoSuchVolume (omega arith);
      room = all 14 NoSuchVolume (omega arith);
    }
