-- A history without a current database of a key stays one until a database of the key is created, and behind creations that failed.
use Rattle.std.proofs.Common.{arith, refl, sym, ◌∙◌}
use Rattle.mdv_databases.proofs.Freed.{freed_by}
use Rattle.mdv_databases.proofs.Striking.{freed_none, strike_freed}
use Rattle.mdv_databases.specs.Booting.{AllLive}
use Rattle.mdv_databases.specs.Lasting.{AreFreed, HasNoTable}
use Rattle.mdv_volumes.specs.Below.{Geometry, Key, Tale}
use Rattle.mdv_volumes.specs.Vacant.{VacantStay, IsVacant}
use Rattle.mdv_volumes.specs.Histories.{Stands}
use Rattle.mdv_volumes.specs.History.{History, history_after_all}
use Rattle.mdv_volumes.specs.Striking.{IsStruck, struck}
use Rattle.mdv_volumes.proofs.Alive.{each_lives, over_lives}
use Rattle.mdv_volumes.proofs.Striking.{history_struck, stays_none}

module _ (g : Geometry) (h : History) (key : Key) (t : Tale) where
  -- where there is no current one each is free, and none was about to be deleted
  pub vacant_blank : IsVacant g h key t → HasNoTable g key t
  vacant_blank is =
      let free : AreFreed g h.databases key t = freed_by g h.databases key t is.stands.databases (λ x found. absurd (let never = sym is.none ∙ found in cc never)) in
      freed_none g h.databases key t is.stands.databases free is.live

  pub struck_vacant : Stands g h t → AreFreed g h.databases key t → AllLive h.databases key → IsVacant g (struck key h) key t
  struck_vacant stands freed live =
      let is : IsStruck g h key t = history_struck g h key t stands (strike_freed g h.databases key t stands.databases freed) in
      record { stands = is.stands; none = is.databases.none; live = over_lives key key h.databases live }

pub vacant_stay : VacantStay
vacant_stay = record {
  blank = vacant_blank;
  new = λ g key t stands. record { stands = stands; none = refl; live = λ d has. absurd (omega (arith, has.1)) };
  onward = λ g h key es t m is course never keep stands. record { stands = stands; none = stays_none g key h es course is.none never; live = each_lives key g h es course keep is.live };
  failed = λ g h key es t u is course keep stands freed. struck_vacant g (history_after_all h es) key u stands freed (each_lives key g h es course keep is.live);
}
