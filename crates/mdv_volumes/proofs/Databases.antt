-- Which volume of which key is meant, and the current database of a key.
use Rattle.std.proofs.Common.{◌≡◌, ℕ, true, ◌==◌, List, ◌∷◌, Option, None, Some, refl, sym, ap, subst, arith, eq-eqb}
use Rattle.std.proofs.lemmas.Bool.{and_from, and_parts}
use Rattle.std.proofs.lemmas.Bool.Decides.{nat_tests}
use Rattle.mdv_store_law.specs.Log.{IsLog}
use Rattle.mdv_store_law.proofs.Logs.{empty_is_log}
use Rattle.mdv_databases.proofs.Going.{its_log}
use Rattle.mdv_databases.proofs.Lists.{key_is, key_itself}
use Rattle.mdv_volumes.specs.Below.{Geometry, Key, Stand, Tale, Version, VolId}
use Rattle.mdv_volumes.specs.Databases.{Database, current_of, is_volume, log_in, log_of, same_key}

number_is : (a b : ℕ) → a == b ≡ true → a ≡ b
number_is a b is = grind (arith, nat_tests)

pub volume_itself : (key : Key) (volume : VolId) → is_volume key volume key volume ≡ true
volume_itself key volume = and_from (same_key key key) (volume.0 == volume.0) (key_itself key) (eq-eqb volume.0 volume.0 refl)

pub volume_key : (key : Key) (volume : VolId) (other : Key) (beside : VolId) → is_volume key volume other beside ≡ true → key ≡ other
volume_key key volume other beside is = key_is key other (and_parts (same_key key other) (volume.0 == beside.0) is).0

pub volume_number : (key : Key) (volume : VolId) (other : Key) (beside : VolId) → is_volume key volume other beside ≡ true → volume ≡ beside
volume_number key volume other beside is = ap (λ (n : ℕ). record { 0 = n }) (number_is volume.0 beside.0 (and_parts (same_key key other) (volume.0 == beside.0) is).1)

-- a log with a table is that of a current database
pub current_some : (ds : List Database) (key : Key) (newest : Version) (older : List Version) → (log_of ds key).family ≡ newest ∷ older → (d : Database) × (current_of ds key ≡ Some d)
current_some ds key newest older = by (current_of ds key) refl where
  by : (o : Option Database) → current_of ds key ≡ o → (log_in o).family ≡ newest ∷ older → (d : Database) × (current_of ds key ≡ Some d)
  by None none family = absurd (cc (family))
  by (Some d) is family = (d, is)

-- each key's log is one, where all databases stand
pub is_log_of : (g : Geometry) (ds : List Database) (t : Tale) → Stand g ds t → (key : Key) → IsLog g (log_of ds key)
is_log_of g ds t stand key = by (current_of ds key) refl where
  by : (o : Option Database) → current_of ds key ≡ o → IsLog g (log_of ds key)
  by None none = subst (λ (o : Option Database). IsLog g (log_in o)) (sym none) (empty_is_log g)
  by (Some d) is = its_log g ds key d.identity t stand (record { database = d; current = is; as_begun = refl })
