-- Why a change that the program makes is refused, in the one order of all causes.
use Rattle.std.specs.Prelude.{◌≡◌, Bool, true, false, List, [], ◌∷◌, Option, None, Some, Result, Ok, Err}
use Rattle.mdv_base.specs.Order.{first_refusal}
use Rattle.mdv_base.specs.declared.refusal.Refusal.{Refusal}
use Rattle.mdv_base.specs.declared.refusal.Refusal.TheVariants.{WrongKind}
use Rattle.mdv_change.specs.declared.making.ApplyFault.{ApplyFault}
use Rattle.mdv_change.specs.declared.making.ApplyFault.TheVariants.{Refused, Memory}
use Rattle.mdv_keeping.specs.Below.{Change, DriveNo, Geometry, HasFault, Table, refusal_of}
use Rattle.mdv_keeping.specs.Built.{names_db}

-- a cause, or that a component lies on a slice that is set aside for replicas: the first of the two
abbrev pub cause_with : Option Refusal → Bool → Option Refusal
cause_with cause false = cause
cause_with None true = Some WrongKind
cause_with (Some refusal) true = first_refusal (refusal ∷ WrongKind ∷ [])

-- what the rules of changes say against it, and that none lies on such a slice yet
abbrev pub refusal_in : Geometry → List DriveNo → Table → Change → Option Refusal
refusal_in g drives t change = cause_with (refusal_of g drives t change) (names_db g change)

-- the rules of changes, which gave this answer, have this cause; want of memory tells none
abbrev pub MayHave : Result (Unit {0}) ApplyFault → Option Refusal → Type 0
MayHave (Ok done) cause = cause ≡ None
MayHave (Err (Refused refusal)) cause = cause ≡ Some refusal
MayHave (Err Memory) cause = Unit {0}

-- the fault has its cause, whichever these rules have
abbrev pub IsFaultOf : Result (Unit {0}) ApplyFault → Bool → ApplyFault → Type 0
IsFaultOf applied is_db fault = (cause : Option Refusal) → MayHave applied cause → HasFault (cause_with cause is_db) fault
