-- Of a database that shows no table nothing was answered, nor told.
use Rattle.std.proofs.Common.{◌≡◌, Bool, true, false, ◌||◌, List, [], ◌∷◌, Option, None, Some, Contains, refl, sym, subst}
use Rattle.std.specs.List.{list_any}
use Rattle.std.proofs.lemmas.Bool.{false≢true}
use Rattle.mdv_shelf.specs.Tale.{last}
use Rattle.mdv_shelf.proofs.Everywhere.{last_image}
use Rattle.mdv_store_law.specs.Log.{Lives, Version, is_firm}
use Rattle.mdv_standing.specs.Databases.{log_in}
use Rattle.mdv_standing.specs.Laws.{ShowsNoTable}
use Rattle.mdv_standing.proofs.Lawful.{unanswered, untold}
use Rattle.mdv_store.proofs.Sitting.{contains_behind, contains_first}
use Rattle.mdv_databases.specs.Below.{Database, Geometry, Key, Spells, Tale, current_of, log_of, site_of}
use Rattle.mdv_databases.specs.Lasting.{HasNoTable}
use Rattle.mdv_databases.specs.Standing.{Stand}
use Rattle.mdv_databases.proofs.Lists.{current_in, current_key}

neither : (a b : Bool) → a ≡ false → b ≡ false → (a || b) ≡ false
neither true b one two = absurd (false≢true (sym one))
neither false b one two = two

none_written : (vs : List Version) → ((v : Version) → Contains vs v → v.is_written ≡ false) → list_any (λ (v : Version). v.is_written) vs ≡ false
none_written [] each = refl
none_written (v ∷ vs) each = neither v.is_written (list_any (λ (w : Version). w.is_written) vs) (each v (contains_first v vs)) (none_written vs (λ w has. each w (contains_behind v w vs has)))

module _ (g : Geometry) (all : List Database) (key : Key) (t : Tale) (s : Stand g all t) (none : HasNoTable g key t) where
  of_one : (c : Option Database) → current_of all key ≡ c → (log_in c).fate ≡ Lives → (is_firm (log_in c) ≡ false) × ((log_in c).acknowledged ≡ None)
  of_one None is lives = (refl, refl)
  of_one (Some d) is lives =
      let has = current_in key all d is in
      let world = (s.worlds (last t) (last_image t)).worlds d has in
      let blank = subst (λ (k : Key). ShowsNoTable (Spells g) (site_of g k) d.identity (last t)) (sym (current_key key all d is)) (none d.identity (last t) (last_image t)) in (
        none_written d.log.family (unanswered (Spells g) (site_of g d.key) d.identity d.log world.0 (last t) world.1 blank lives),
        untold (Spells g) (site_of g d.key) d.identity d.log world.0 (last t) world.1 blank lives g (s.logs d has),
      )

  pub nothing_told : (log_of all key).fate ≡ Lives → (is_firm (log_of all key) ≡ false) × ((log_of all key).acknowledged ≡ None)
  nothing_told lives = of_one (current_of all key) refl lives
