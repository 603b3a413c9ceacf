-- What a line came to, in a word.
use Rattle.std.specs.Prelude.{ℕ, List}
use Rattle.mdv_engine_law.specs.Below.{Refusal, IoFault}
use Rattle.mdv_engine_law.specs.declared.answer.Answer.{Answer}
use Rattle.mdv_engine_law.specs.declared.answer.Answer.TheVariants.{Said, Over}
use Rattle.mdv_engine_law.specs.declared.answer.Ended.TheVariants as ended
use Rattle.mdv_engine_law.specs.declared.answer.Outcome.TheVariants as outcome

-- it is done
abbrev pub accepted : Answer
accepted = Said outcome.Ok

-- it is done, and this is told
abbrev pub telling : List ℕ → Answer
telling text = Said (outcome.Values text)

-- it is refused
abbrev pub refusing : Refusal → Answer
refusing refusal = Said (outcome.Refused refusal)

-- it is told, and the run goes on with it
abbrev pub IsSaid : Answer → Type 0
IsSaid (Said this) = Unit {0}
IsSaid (Over end) = ⊥

-- a refusal for another cause than a failed call
abbrev pub IsMereRefusal : Answer → Type 0
IsMereRefusal (Said (outcome.Refused IoFault)) = ⊥
IsMereRefusal (Said (outcome.Refused refusal)) = Unit {0}
IsMereRefusal other = ⊥

-- the run is over with it, and nothing was written: a boot or a change that isn't lost
abbrev pub EndsUnwritten : Answer → Type 0
EndsUnwritten (Over (ended.Lost active listed)) = ⊥
EndsUnwritten (Over other) = Unit {0}
EndsUnwritten other = ⊥
