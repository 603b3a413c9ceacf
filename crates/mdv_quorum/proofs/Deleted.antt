-- What is left of a database that was deleted.
use Rattle.std.proofs.Common.{◌≡◌, ◌<◌, ◌-◌, ℕ, Bool, true, false, List, length, Option, Some}
use Rattle.mdv_quorum.specs.Below.{Spot, is_read, place_at, table_at}
use Rattle.mdv_quorum.specs.declared.event.Event.{Event}
use Rattle.mdv_quorum.specs.declared.machine.Core.{Core}
use Rattle.mdv_quorum.specs.World.{after_all, start}
use Rattle.mdv_quorum.specs.May.{MayAll}
use Rattle.mdv_quorum.proofs.Steps.{reached_ok}

-- the place of its only replica, which is blank, is in each read quorum of the newest table
pub record IsLastBlank (w : Core) (p : Spot) : Type 0 where
  pub some : 0 < length w.family
  pub wiped : (place_at w.places p).holds ≡ false
  pub needed : (read knows : Spot → Bool) → is_read (table_at w.family (length w.family - 1)) read knows ≡ true → read p ≡ true

pub last_blank : (set : Bool) (events : List Event) → MayAll (start set) events → (p : Spot) → (after_all (start set) events).deleted ≡ Some p → IsLastBlank (after_all (start set) events) p
last_blank set events may p is = (let gone = (reached_ok set events may).base.places.gone p is in record { some = gone.some; wiped = gone.wiped; needed = gone.needed })
