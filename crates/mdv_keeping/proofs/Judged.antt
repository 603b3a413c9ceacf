-- What the rules of changes answer, and what they have against a change.
use Rattle.std.proofs.Common.{Bool, IfErr, IsOk, Result, Ok, Err, List, Option}
use Rattle.mdv_base.specs.declared.refusal.Refusal.{Refusal}
use Rattle.mdv_change.specs.Apply.{IsApplied}
use Rattle.mdv_change.specs.declared.making.ApplyFault.{ApplyFault}
use Rattle.mdv_change.specs.declared.making.ApplyFault.TheVariants.{Refused, Memory}
use Rattle.mdv_keeping.specs.Below.{Change, DriveNo, Geometry, HasFault, IsMade, Table, refusal_of}
use Rattle.mdv_keeping.specs.Refused.{IsFaultOf, MayHave, cause_with}

pub applied_may : (g : Geometry) (drives : List DriveNo) (change : Change) (old new : Table) (applied : Result (Unit {0}) ApplyFault) → IsApplied g drives change old new applied → MayHave applied (refusal_of g drives old change)
applied_may g drives change old new (Ok done) is = is.allowed
applied_may g drives change old new (Err (Refused refusal)) is = is.cause
applied_may g drives change old new (Err Memory) is = tt

pub applied_made : (g : Geometry) (drives : List DriveNo) (change : Change) (old new : Table) (applied : Result (Unit {0}) ApplyFault) → IsApplied g drives change old new applied → IsOk applied → IsMade g drives change old new
applied_made g drives change old new (Ok done) is ok = is
applied_made g drives change old new (Err fault) is ok = absurd (cc (ok))

pub fault_has : {T : Type 0} (applied : Result (Unit {0}) ApplyFault) (is_db : Bool) (cause : Option Refusal) (result : Result T ApplyFault) → MayHave applied cause → IfErr result (IsFaultOf applied is_db) → IfErr result (HasFault (cause_with cause is_db))
fault_has applied is_db cause (Ok done) may is = tt
fault_has applied is_db cause (Err fault) may is = is cause may
