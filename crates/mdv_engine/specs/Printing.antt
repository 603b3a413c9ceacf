-- What the printing of a table comes to.
use Rattle.std.specs.Prelude.{◌≡◌, ◌⊎◌, List, Some, None}
use Rattle.mdv_base.specs.declared.name.Named.{Named}
use Rattle.mdv_listing.specs.Listing.{listing_of}
use Rattle.mdv_status.specs.Values.{printed_reply}
use Rattle.mdv_engine_law.specs.Line.{Memory}
use Rattle.mdv_engine_law.specs.Refusals.{print_refusal}
use Rattle.mdv_engine_law.specs.declared.answer.Outcome.{Outcome}
use Rattle.mdv_engine_law.specs.declared.answer.Outcome.TheVariants as outcome
use Rattle.mdv_engine.specs.Below.{Opened, Refusal, OutOfMemory}
use Rattle.mdv_plan.specs.declared.plan.Plan.{Plan}

-- its text, or memory was wanting
abbrev pub IsPrint : Plan → List Named → Outcome → Type 0
IsPrint plan names this = (this ≡ outcome.Values (printed_reply (listing_of plan names))) ⊎ (this ≡ outcome.Refused OutOfMemory)

-- the first cause refuses it; or what is open is printed
pub data HasPrinted (memory : Memory) (names : List Named) (this : Outcome) : Type 0 where
  turned_down : (r : Refusal) → print_refusal memory.opened names ≡ Some r → this ≡ outcome.Refused r → HasPrinted memory names this
  printed : (o : Opened) → memory.opened ≡ Some o → print_refusal memory.opened names ≡ None → IsPrint o.table.plan names this → HasPrinted memory names this
