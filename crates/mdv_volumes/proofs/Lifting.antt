-- What goes on in one key's log goes on in the history.
use Rattle.std.proofs.Common.{◌≡◌, inl, inr, List, [], ◌∷◌, ◌++◌, Option, Some, map, refl, sym, ◌∙◌, ap, subst}
use Rattle.std.proofs.lemmas.List.{map-append}
use Rattle.std.proofs.lemmas.Option.{none-some}
use Rattle.mdv_shelf.proofs.Blocks.{both_ways}
use Rattle.mdv_store_law.specs.Log as log
use Rattle.mdv_store_law.specs.Log.{IsEmpty}
use Rattle.mdv_store_law.specs.Machine.{all_of}
use Rattle.mdv_databases.proofs.Creating.{creation_elsewhere, creation_here, creation_its}
use Rattle.mdv_databases.proofs.Lists.{events_elsewhere, events_here, events_log, key_differs, key_is}
use Rattle.mdv_volumes.specs.Below.{AreDisjoint, Change, Follows, Geometry, Identity, IsCurrentOf, Key, KeptOutside, Log, Map, Stand, Table, Tale, Version, VolId, site_area, site_of, with_events}
use Rattle.mdv_volumes.specs.Databases.{Database, current_of, log_in, log_of, same_key, with_creation, with_event}
use Rattle.mdv_volumes.specs.Happening.{IsCourse, IsNamed, MayBeFound, begun_at, deed_of, issued_by, told_by}
use Rattle.mdv_volumes.specs.Histories.{Stands}
use Rattle.mdv_volumes.specs.History.{Deed, Deleted, History, gone_by, history_after_all}
use Rattle.mdv_volumes.specs.HistoryLaws.{AreLater, CreationsGo, DatabasesGo, IsAsked, IsLifted, IsReady, identity_in, lifted}
use Rattle.mdv_volumes.specs.Tables.{AreLaid, IsMapOf, map_of}
use Rattle.mdv_volumes.proofs.Databases.{is_log_of}
use Rattle.mdv_volumes.proofs.Found.{found_all, none_found}
use Rattle.mdv_volumes.proofs.Made.{ready_settled}
use Rattle.mdv_volumes.proofs.Standing.{frames_stand}
use Rattle.mdv_volumes.proofs.Volumes.{named_as}

module _ (key : Key) where
  -- what was done, and isn't told, behind them
  abbrev pub untold_by : List log.Event → List Deed → List Deed
  untold_by [] untold = untold
  untold_by (e ∷ es) untold = untold_by es (gone_by key e ++ untold)

  -- nothing else of the history changes
  pub lifted_after : (h : History) (identity : Identity) (es : List log.Event) → AreLater es → history_after_all h (lifted key identity es) ≡ record h { databases = with_events key es h.databases; untold = untold_by es h.untold }
  lifted_after h identity [] later = refl
  lifted_after h identity (log.Issued other ∷ es) later = absurd later.0
  lifted_after h identity (log.Writing mark asked before table ∷ es) later = lifted_after (record h { databases = with_event key (log.Writing mark asked before table) h.databases }) identity es later.1
  lifted_after h identity (log.Written ∷ es) later = lifted_after (record h { databases = with_event key log.Written h.databases }) identity es later.1
  lifted_after h identity (log.Told which before ∷ es) later = lifted_after (record h { databases = with_event key (log.Told which before) h.databases }) identity es later.1
  lifted_after h identity (log.Placing places ∷ es) later = lifted_after (record h { databases = with_event key (log.Placing places) h.databases }) identity es later.1
  lifted_after h identity (log.Clearing ∷ es) later = lifted_after (record h { databases = with_event key log.Clearing h.databases }) identity es later.1
  lifted_after h identity (log.Gone ∷ es) later = lifted_after (record h { databases = with_event key log.Gone h.databases; untold = Deleted key ∷ h.untold }) identity es later.1

  -- each may happen there
  lifted_course : (g : Geometry) (h : History) (es : List log.Event) (d : Database) → AreLater es → current_of h.databases key ≡ Some d → log.IsCourse g d.log es → IsCourse g h (lifted key d.identity es)
  lifted_course g h [] d later is course = tt
  lifted_course g h (log.Issued other ∷ es) d later is course = absurd later.0
  lifted_course g h (log.Writing mark asked before table ∷ es) d later is course = (
    record { database = d; current = is; as_begun = refl; later = tt; may = course.0 },
    lifted_course g (record h { databases = with_event key (log.Writing mark asked before table) h.databases }) es _ later.1 (events_here key (log.Writing mark asked before table ∷ []) h.databases d is) course.1,
  )
  lifted_course g h (log.Written ∷ es) d later is course = (
    record { database = d; current = is; as_begun = refl; later = tt; may = course.0 },
    lifted_course g (record h { databases = with_event key log.Written h.databases }) es _ later.1 (events_here key (log.Written ∷ []) h.databases d is) course.1,
  )
  lifted_course g h (log.Told which before ∷ es) d later is course = (
    record { database = d; current = is; as_begun = refl; later = tt; may = course.0 },
    lifted_course g (record h { databases = with_event key (log.Told which before) h.databases }) es _ later.1 (events_here key (log.Told which before ∷ []) h.databases d is) course.1,
  )
  lifted_course g h (log.Placing places ∷ es) d later is course = (
    record { database = d; current = is; as_begun = refl; later = tt; may = course.0 },
    lifted_course g (record h { databases = with_event key (log.Placing places) h.databases }) es _ later.1 (events_here key (log.Placing places ∷ []) h.databases d is) course.1,
  )
  lifted_course g h (log.Clearing ∷ es) d later is course = (
    record { database = d; current = is; as_begun = refl; later = tt; may = course.0 },
    lifted_course g (record h { databases = with_event key log.Clearing h.databases }) es _ later.1 (events_here key (log.Clearing ∷ []) h.databases d is) course.1,
  )
  lifted_course g h (log.Gone ∷ es) d later is course = (
    record { database = d; current = is; as_begun = refl; later = tt; may = course.0 },
    lifted_course g (record h { databases = with_event key log.Gone h.databases; untold = Deleted key ∷ h.untold }) es _ later.1 (events_here key (log.Gone ∷ []) h.databases d is) course.1,
  )

  -- they begin what the log's begin, and tell what those tell
  more_deeds : (a b : List (Option Change)) (rest : List Deed) → rest ≡ map (deed_of key) b → map (deed_of key) a ++ rest ≡ map (deed_of key) (a ++ b)
  more_deeds a b rest is = ap (λ (l : List Deed). map (deed_of key) a ++ l) is ∙ sym (map-append (deed_of key) a b)

  lifted_begins : (identity : Identity) (es : List log.Event) → AreLater es → issued_by (lifted key identity es) ≡ all_of (begun_at key) es
  lifted_begins identity [] later = refl
  lifted_begins identity (log.Issued other ∷ es) later = absurd later.0
  lifted_begins identity (log.Writing mark asked before table ∷ es) later = ap (λ (l : List Deed). begun_at key (log.Writing mark asked before table) ++ l) (lifted_begins identity es later.1)
  lifted_begins identity (log.Written ∷ es) later = lifted_begins identity es later.1
  lifted_begins identity (log.Told which before ∷ es) later = lifted_begins identity es later.1
  lifted_begins identity (log.Placing places ∷ es) later = lifted_begins identity es later.1
  lifted_begins identity (log.Clearing ∷ es) later = ap (λ (l : List Deed). Deleted key ∷ l) (lifted_begins identity es later.1)
  lifted_begins identity (log.Gone ∷ es) later = lifted_begins identity es later.1

  lifted_tells : (identity : Identity) (es : List log.Event) → told_by (lifted key identity es) ≡ map (deed_of key) (log.told_by es)
  lifted_tells identity [] = refl
  lifted_tells identity (log.Issued other ∷ es) = lifted_tells identity es
  lifted_tells identity (log.Writing mark asked before table ∷ es) = lifted_tells identity es
  lifted_tells identity (log.Written ∷ es) = lifted_tells identity es
  lifted_tells identity (log.Told which before ∷ es) = more_deeds (log.tells (log.Told which before)) (log.told_by es) (told_by (lifted key identity es)) (lifted_tells identity es)
  lifted_tells identity (log.Placing places ∷ es) = lifted_tells identity es
  lifted_tells identity (log.Clearing ∷ es) = lifted_tells identity es
  lifted_tells identity (log.Gone ∷ es) = lifted_tells identity es

swapped : (v w : Map) → AreDisjoint v w → AreDisjoint w v
swapped v w apart a b drive block below above in_w in_v = apart b a drive block above below in_v in_w

-- The databases are these now: all stand, and other keys have the logs that they had. So the history stands, if each table of the key that a boot may find is
-- ready, and each volume that a boot might have found is followed still.
module _ (g : Geometry) (h : History) (key : Key) (now : List Database) (t m : Tale) (stands : Stands g h t) (databases : Stand g now m) (others : (other : Key) → (key ≡ other → ⊥) → log_of now other ≡ log_of h.databases other)
    (ready : (v : Version) → MayBeFound (log_of now key).family v → IsReady g h key m v.table)
    (followed : (k : Key) (volume : VolId) (v : Map) → IsNamed g h.databases k volume v → Follows v (h.volumes k volume) m) where
  other_named : (other : Key) (beside : VolId) (w : Map) → (key ≡ other → ⊥) → IsNamed g now other beside w → IsNamed g h.databases other beside w
  other_named other beside w differ named = named_as g h.databases now other beside w (others other differ) named

  -- by whether the key is this one
  by_key : (P : Key → Type 0) (k : Key) → P key → ((key ≡ k → ⊥) → P k) → P k
  by_key P k this other = elim (both_ways (same_key key k)) [ inl does ↦ subst P (key_is key k does) this | inr never ↦ other (key_differs key k never) ]

  laid_now : (k : Key) (v : Version) → MayBeFound (log_of now k).family v → AreLaid g v.table
  laid_now k = by_key (λ q. (v : Version) → MayBeFound (log_of now q).family v → AreLaid g v.table) k
      (λ v found. (ready v found).laid)
      (λ differ v found. stands.laid k v (subst (λ (l : Log). MayBeFound l.family v) (others k differ) found))

  volumes_now : (k : Key) (volume : VolId) (v : Map) → IsNamed g now k volume v → Follows v (h.volumes k volume) m
  volumes_now k = by_key (λ q. (volume : VolId) (v : Map) → IsNamed g now q volume v → Follows v (h.volumes q volume) m) k
      (λ volume v named. (ready named.version named.found).follows volume v named.map)
      (λ differ volume v named. followed k volume v (other_named k volume v differ named))

  apart_now : (k other : Key) (volume beside : VolId) (v w : Map) → (k ≡ other → ⊥) → IsNamed g now k volume v → IsNamed g now other beside w → AreDisjoint v w
  apart_now k other = by_key (λ q. (volume beside : VolId) (v w : Map) → (q ≡ other → ⊥) → IsNamed g now q volume v → IsNamed g now other beside w → AreDisjoint v w) k
      (λ volume beside v w differ named named_other. (ready named.version named.found).apart other volume beside v w differ named.map (other_named other beside w differ named_other))
      (λ away. by_key (λ q. (volume beside : VolId) (v w : Map) → (k ≡ q → ⊥) → IsNamed g now k volume v → IsNamed g now q beside w → AreDisjoint v w) other
      (λ volume beside v w differ named named_own. swapped w v ((ready named_own.version named_own.found).apart k beside volume w v away named_own.map (other_named k volume v away named)))
      (λ away_other volume beside v w differ named named_other. stands.apart k other volume beside v w differ (other_named k volume v away named) (other_named other beside w away_other named_other)))

  stands_now : (untold : List Deed) → Stands g (record h { databases = now; untold = untold }) m
  stands_now untold = record { databases = databases; laid = laid_now; apart = apart_now; volumes = volumes_now }

module _ (g : Geometry) (h : History) (key : Key) (identity : Identity) (es : List log.Event) (t m : Tale) (stands : Stands g h t) (its : IsCurrentOf h.databases key identity) (later : AreLater es)
    (course : log.IsCourse g (log_of h.databases key) es) (databases : Stand g (with_events key es h.databases) m) (kept : KeptOutside (site_area (site_of g key)) t m)
    (ready : (table : Table) → IsAsked es table → IsReady g h key t table) where
  abbrev before : Log
  before = log_of h.databases key

  abbrev behind : List Database
  behind = with_events key es h.databases

  own : log_of behind key ≡ log.log_after_all before es
  own = events_log key es h.databases its.database its.current

  others : (other : Key) → (key ≡ other → ⊥) → log_of behind other ≡ log_of h.databases other
  others other differ = ap log_in (events_elsewhere key es h.databases other differ)

  -- a map that is followed and lies apart from the database is followed still
  stays : (k : Key) (volume : VolId) (v : Map) (table : Table) → AreLaid g table → IsMapOf g table volume v → Follows v (h.volumes k volume) t → Follows v (h.volumes k volume) m
  stays k volume v table laid map follows =
      frames_stand.outside v (site_area (site_of g key)) (h.volumes k volume) t m (laid.disjoint volume v map) (λ drive block in_site in_map. laid.clear volume v map key drive block in_map in_site) kept follows

  followed : (k : Key) (volume : VolId) (v : Map) → IsNamed g h.databases k volume v → Follows v (h.volumes k volume) m
  followed k volume v named = stays k volume v named.version.table (stands.laid k named.version named.found) named.map (stands.volumes k volume v named)

  here : (table : Table) → IsReady g h key t table → IsReady g h key m table
  here table is = record { laid = is.laid; apart = is.apart; follows = λ volume v map. stays key volume v table is.laid map (is.follows volume v map) }

  old_ready : (v : Version) → MayBeFound before.family v → IsReady g h key m v.table
  old_ready v found = record {
    laid = stands.laid key v found;
    apart = λ other volume beside w x differ map named. stands.apart key other volume beside w x differ (record { version = v; found = found; map = map }) named;
    follows = λ volume w map. followed key volume w (record { version = v; found = found; map = map });
  }

  -- the table of a new database has no map
  no_map : (table : Table) → IsEmpty table → {A : Type 0} → (volume : VolId) (v : Map) → IsMapOf g table volume v → A
  no_map table none volume v map = absurd (none-some v (sym (ap (λ (t : Table). map_of g t volume) none.1) ∙ map))

  empty_ready : (table : Table) → IsEmpty table → IsReady g h key m table
  empty_ready table none = record {
    laid = record {
      disjoint = λ volume v map. no_map table none volume v map;
      apart = λ volume other v w differ map. no_map table none volume v map;
      clear = λ volume v map. no_map table none volume v map;
      plain = λ volume v map. no_map table none volume v map;
      one = λ volume v map. no_map table none volume v map;
      bounded = λ volume v map. no_map table none volume v map;
    };
    apart = λ other volume beside v w differ map. no_map table none volume v map;
    follows = λ volume v map. no_map table none volume v map;
  }

  -- what a boot may find of this key
  own_ready : (v : Version) → MayBeFound (log_of behind key).family v → IsReady g h key m v.table
  own_ready v found =
      found_all g (IsReady g h key m) empty_ready (λ table. ready_settled g table h key m) before es (is_log_of g h.databases t stands.databases key) course old_ready (λ table asked. here table (ready table asked)) v
      (subst (λ (l : Log). MayBeFound l.family v) own found)

  course_lifted : IsCourse g h (lifted key (identity_in (current_of h.databases key)) es)
  course_lifted = subst (λ (o : Option Database). IsCourse g h (lifted key (identity_in o) es)) (sym its.current)
      (lifted_course key g h es its.database later its.current (subst (λ (o : Option Database). log.IsCourse g (log_in o) es) its.current course))

  pub database_goes : IsLifted g h key es m
  database_goes =
      let name = identity_in (current_of h.databases key) in
      let after = lifted_after key h name es later in
      record {
        happens = record {
          course = course_lifted;
          begins = lifted_begins key name es later;
          tells = lifted_tells key name es;
          stands = subst (λ (x : History). Stands g x m) (sym after) (stands_now g h key behind t m stands databases others own_ready followed (untold_by key es h.untold));
        };
        own = ap (λ (x : History). log_of x.databases key) after ∙ own;
        others = λ other differ. ap (λ (x : History). log_of x.databases other) after ∙ others other differ;
        volumes = ap (λ (x : History). x.volumes) after;
        woken = ap (λ (x : History). x.woken) after;
        up = ap (λ (x : History). x.up) after;
      }

pub databases_go : DatabasesGo
databases_go g h key identity es t m stands its later course databases kept ready = database_goes g h key identity es t m stands its later course databases kept ready

-- a new database has no table yet
pub creations_go : CreationsGo
creations_go g h key identity t stands may databases = record {
  happens = record {
    course = (may, tt);
    begins = refl;
    tells = refl;
    stands = stands_now g h key (with_creation key identity h.databases) t t stands databases (λ other differ. ap log_in (creation_elsewhere key identity h.databases other differ))
        (λ v found. absurd (none_found v (subst (λ (o : Option Database). MayBeFound (log_in o).family v) (creation_here key identity h.databases) found))) stands.volumes h.untold;
  };
  its = creation_its key identity h.databases;
}
