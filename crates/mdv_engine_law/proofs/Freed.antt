-- A key that is free for a creation has no current database, or one that failed, so that no write of its tables was answered, or one that was deleted.
use Rattle.std.proofs.Common.{◌≡◌, ◌⊎◌, inl, inr, false, List, Option, None, Some, Contains, refl}
use Rattle.mdv_databases.proofs.Lists.{current_in, current_key}
use Rattle.mdv_databases.specs.Lasting.{AreFreed}
use Rattle.mdv_databases.specs.Standing.{IsFree, Stand}
use Rattle.mdv_shelf.proofs.Everywhere.{last_image}
use Rattle.mdv_standing.proofs.Lawful.{unanswered}
use Rattle.mdv_standing.specs.Databases.{log_in}
use Rattle.mdv_store.proofs.Again.{none_all}
use Rattle.mdv_store_law.specs.Log as log
use Rattle.mdv_volumes.specs.Databases.{current_of}
use Rattle.mdv_volumes.specs.Happening.{IsOver}
use Rattle.mdv_engine_law.specs.Below.{Database, Geometry, Key, Spells, Tale, Version, is_firm, last, log_of, site_of}

module _ (g : Geometry) (all : List Database) (key : Key) (t : Tale) (stand : Stand g all t) (free : AreFreed g all key t) where
  abbrev Ended : Option Database → Type 0
  Ended current = (is_firm (log_in current) ≡ false) ⊎ ((log_in current).fate ≡ log.Over)

  of_one : (current : Option Database) → current_of all key ≡ current → Ended current
  of_one None is = inl refl
  of_one (Some d) is = by (free d has (current_key key all d is)) where
    has : Contains all d
    has = current_in key all d is

    by : IsFree g d t → Ended (Some d)
    by (inl (lives, blank)) =
        let world = (stand.worlds (last t) (last_image t)).worlds d has in
        inl (none_all (λ (v : Version). v.is_written) d.log.family (unanswered (Spells g) (site_of g d.key) d.identity d.log world.0 (last t) world.1 (blank (last t) (last_image t)) lives))
    by (inr over) = inr over

  pub freed_current : (is_firm (log_of all key) ≡ false) ⊎ IsOver all key
  freed_current = of_one (current_of all key) refl
