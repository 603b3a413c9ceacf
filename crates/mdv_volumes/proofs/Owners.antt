-- Whose each database is stays, whatever happens to their logs; and a key of none has no volume.
use Rattle.std.proofs.Common.{◌≡◌, inl, inr, Bool, true, false, if◌then◌else◌, List, [], ◌∷◌, Option, None, Some, Contains, refl, subst, arith}
use Rattle.mdv_databases.proofs.Lists.{current_in, current_key}
use Rattle.mdv_databases.specs.Going.{with_events}
use Rattle.mdv_store_law.specs.Log as log
use Rattle.mdv_standing.specs.Databases.{log_in}
use Rattle.mdv_volumes.specs.Below.{Geometry, Identity, Key, Map, VolId}
use Rattle.mdv_volumes.specs.Databases.{Database, current_of, is_current, with_creation, with_event, with_over}
use Rattle.mdv_volumes.specs.Happening.{IsNamed}
use Rattle.mdv_volumes.proofs.Lists.{contains_behind, contains_first, first_or_behind}

-- so it is of the key and the identity of each of them
abbrev pub AreEach : (Key → Identity → Type 0) → List Database → Type 0
AreEach P ds = (d : Database) → Contains ds d → P d.key d.identity

module _ (P : Key → Identity → Type 0) (key : Key) where
  one_more : (x : Database) (ds : List Database) → P x.key x.identity → AreEach P ds → AreEach P (x ∷ ds)
  one_more x ds own each d has = elim (first_or_behind x d ds has) [
    | inl here ↦ subst (λ (y : Database). P y.key y.identity) here own
    | inr there ↦ each d there
  ]

  rest_of : (x : Database) (ds : List Database) → AreEach P (x ∷ ds) → AreEach P ds
  rest_of x ds each d has = each d (contains_behind x d ds has)

  event_keeps : (e : log.Event) (ds : List Database) → AreEach P ds → AreEach P (with_event key e ds)
  event_keeps e [] each = each
  event_keeps e (x ∷ ds) each = by (is_current key x) (event_keeps e ds (rest_of x ds each)) where
    by : (is : Bool) → AreEach P (with_event key e ds) → AreEach P (if is then record x { log = log.log_after x.log e } ∷ ds else x ∷ with_event key e ds)
    by true rest = one_more (record x { log = log.log_after x.log e }) ds (each x (contains_first x ds)) (rest_of x ds each)
    by false rest = one_more x (with_event key e ds) (each x (contains_first x ds)) rest

  pub events_keep : (es : List log.Event) (ds : List Database) → AreEach P ds → AreEach P (with_events key es ds)
  events_keep [] ds each = each
  events_keep (e ∷ es) ds each = events_keep es (with_event key e ds) (event_keeps e ds each)

  over_keeps : (ds : List Database) → AreEach P ds → AreEach P (with_over key ds)
  over_keeps [] each = each
  over_keeps (x ∷ ds) each = by (is_current key x) (over_keeps ds (rest_of x ds each)) where
    by : (is : Bool) → AreEach P (with_over key ds) → AreEach P (if is then record x { over = true } ∷ ds else x ∷ with_over key ds)
    by true rest = one_more (record x { over = true }) ds (each x (contains_first x ds)) (rest_of x ds each)
    by false rest = one_more x (with_over key ds) (each x (contains_first x ds)) rest

  -- a creation makes one more
  pub creation_keeps : (identity : Identity) (ds : List Database) → P key identity → AreEach P ds → AreEach P (with_creation key identity ds)
  creation_keeps identity ds own each = one_more (record { key = key; identity = identity; log = log.log_after log.empty_log (log.Issued identity); over = false }) (with_over key ds) own (over_keeps ds each)

-- where none is of the key, no table that a boot may find of it has a volume
pub none_named : (g : Geometry) (ds : List Database) (key : Key) → ((d : Database) → Contains ds d → d.key ≡ key → ⊥) → (volume : VolId) (v : Map) → IsNamed g ds key volume v → ⊥
none_named g ds key none volume v named = by (current_of ds key) refl named.found.0 where
  by : (o : Option Database) → current_of ds key ≡ o → Contains (log_in o).family named.version → ⊥
  by None is has = omega (arith, has.1)
  by (Some d) is has = none d (current_in key ds d is) (current_key key ds d is)
