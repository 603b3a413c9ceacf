-- How the drives stand with a history, and how it goes on.
use Rattle.std.specs.Prelude.{◌≡◌, List}
use Rattle.mdv_store_law.specs.Log.{Issue}
use Rattle.mdv_volumes.specs.Below.{AreDisjoint, Follows, Geometry, Key, Map, Stand, Tale, Version, VolId}
use Rattle.mdv_store_law.specs.Machine as machine
use Rattle.mdv_volumes.specs.Databases.{log_of}
use Rattle.mdv_volumes.specs.Happening.{Adds, IsCourse, IsNamed, MayBeFound, MayHappen, issued_by, told_by}
use Rattle.mdv_volumes.specs.History.{Deed, Event, History, history_after, history_after_all}
use Rattle.mdv_volumes.specs.Tables.{AreLaid}

-- The drives stand with the history: with all databases that were ever begun; and of each volume of each table that a boot may find they follow the log,
-- whatever a crash leaves. No block of a drive belongs to two volumes of one table, or of two keys, or to a volume and a slice with replicas.
pub record Stands (g : Geometry) (h : History) (t : Tale) : Type 0 where
  pub databases : Stand g h.databases t
  pub laid : (key : Key) (version : Version) → MayBeFound (log_of h.databases key).family version → AreLaid g version.table
  pub apart : (key other : Key) (volume beside : VolId) (v w : Map) → (key ≡ other → ⊥) → IsNamed g h.databases key volume v → IsNamed g h.databases other beside w → AreDisjoint v w
  pub volumes : (key : Key) (volume : VolId) (v : Map) → IsNamed g h.databases key volume v → Follows v (h.volumes key volume) t

-- Events happen to a history, each where it may, that begin and tell these deeds; the drives stand with what it is then.
pub record Happens (g : Geometry) (h : History) (es : List Event) (begun told : List Deed) (m : Tale) : Type 0 where
  pub course : IsCourse g h es
  pub begins : issued_by es ≡ begun
  pub tells : told_by es ≡ told
  pub stands : Stands g (history_after_all h es) m

-- A history that the drives stood with, and of which so much was known, goes on by some events, which tell these deeds and
-- begin only deeds that are asked, and issue such things alone of databases, to one that they stand with, of which more is known.
abbrev pub Goes : Geometry → (History → Type 0) → (Issue → Type 0) → List Deed → List Deed → (List Event → History → Type 0) → Tale → Tale → Type 0
Goes g Known Which asks told After t m =
    (h : History) → Stands g h t → Known h → machine.Goes history_after (MayHappen g) (Adds Which asks told) (λ next. Stands g next m) After h
