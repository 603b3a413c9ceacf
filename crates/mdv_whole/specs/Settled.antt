-- Whether each spare has the state that is noted of its slice.
use Rattle.std.specs.Prelude.{Bool, true, false, List}
use Rattle.std.specs.List.{list_all}
use Rattle.mdv_plan.specs.declared.status.SpareState.TheVariants.{Available, InUse, Broken}
use Rattle.mdv_whole.specs.Below.{RecordedPool, RecordedSpare, SpareState, SpareStatus}
use Rattle.mdv_whole.specs.Sides.{state_in}

abbrev pub is_same : SpareState → SpareState → Bool
is_same Available Available = true
is_same InUse InUse = true
is_same Broken Broken = true
is_same _ _ = false

abbrev pub is_settled : List SpareStatus → RecordedSpare → Bool
is_settled states s = is_same (state_in states s.spare.slice) s.state

abbrev pub is_pool_settled : List SpareStatus → RecordedPool → Bool
is_pool_settled states p = list_all (is_settled states) p.spares

abbrev pub are_settled : List SpareStatus → List RecordedPool → Bool
are_settled states pools = list_all (is_pool_settled states) pools
