-- What is done is told.
use Rattle.std.proofs.Common.{◌≡◌, inl, inr, List, [], ◌∷◌, Option, Some, None, map, refl, ◌∙◌, ap, subst}
use Rattle.mdv_shelf.proofs.Blocks.{both_ways}
use Rattle.mdv_store_law.specs.Log as log
use Rattle.mdv_databases.proofs.Lists.{key_differs, key_is}
use Rattle.mdv_databases.proofs.Telling.{told_stand}
use Rattle.mdv_volumes.specs.Below.{Change, Geometry, IsCurrentOf, Key, KeptOutside, Log, Table, Tale, site_area, site_of}
use Rattle.mdv_volumes.specs.Databases.{Database, current_of, log_of, same_key}
use Rattle.mdv_volumes.specs.Happening.{deed_of}
use Rattle.mdv_volumes.specs.Histories.{Happens, Stands}
use Rattle.mdv_volumes.specs.History.{Acknowledges, Changed, Created, Deed, Deleted, Deletes, Event, History, Saw, Shows, Wrote, history_after_all}
use Rattle.mdv_volumes.specs.HistoryLaws.{IsAsked, IsLifted, IsTellable, IsTold, TellsGo, identity_in, lifted}
use Rattle.mdv_volumes.proofs.Databases.{current_some}
use Rattle.mdv_volumes.proofs.Lifting.{databases_go}

-- the newest change or creation is told as one deed
pub one_deed : (key : Key) (asked : Option Change) (before : List Change) → map (deed_of key) (log.told_by (log.Told (log.with_asked asked []) before ∷ [])) ≡ deed_of key asked ∷ []
one_deed key None before = refl
one_deed key (Some change) before = refl

all_kept : (g : Geometry) (key : Key) (t : Tale) → KeptOutside (site_area (site_of g key)) t t
all_kept g key t drive block out = record { last = refl; left = λ x left. left; unwritten = refl }

module _ (g : Geometry) (h : History) (t : Tale) (stands : Stands g h t) where
  module _ (key : Key) (asked : Option Change) (can : IsTellable g h key asked) where
    abbrev es : List log.Event
    es = log.Told (log.with_asked asked []) can.may.before ∷ []

    its : (d : Database) × IsCurrentOf h.databases key d.identity
    its = (let one = current_some h.databases key can.may.may.newest can.may.may.older can.may.may.family in (one.0, record { database = one.0; current = one.1; as_begun = refl }))

    never : (table : Table) → IsAsked es table → ⊥
    never table (inl none) = none
    never table (inr none) = none

    goes : IsLifted g h key es t
    goes = databases_go g h key its.0.identity es t t stands its.1 (tt, tt) (can.may.may, tt)
        (told_stand (log.with_asked asked []) can.may.before g h.databases key t its.0.identity stands.databases its.1 can.may.may)
        (all_kept g key t) (λ table is. absurd (never table is))

    abbrev events : List Event
    events = lifted key (identity_in (current_of h.databases key)) es

    told_by_database : IsTold g h (deed_of key asked) t
    told_by_database = record {
      es = events;
      happens = record { course = goes.happens.course; begins = goes.happens.begins; tells = goes.happens.tells ∙ one_deed key asked can.may.before; stands = goes.happens.stands };
      families = λ other. elim (both_ways (same_key key other)) [
        | inl does ↦ subst (λ (k : Key). (log_of (history_after_all h events).databases k).family ≡ (log_of h.databases k).family) (key_is key other does) (ap (λ (l : Log). l.family) goes.own)
        | inr not ↦ ap (λ (l : Log). l.family) (goes.others other (key_differs key other not))
      ];
      volumes = goes.volumes;
    }

  told_one : (deed : Deed) (e : Event) → Happens g h (e ∷ []) [] (deed ∷ []) t → ((history_after_all h (e ∷ [])).databases ≡ h.databases) → ((history_after_all h (e ∷ [])).volumes ≡ h.volumes) → IsTold g h deed t
  told_one deed e happens databases volumes = record { es = e ∷ []; happens = happens; families = λ key. ap (λ (ds : List Database). (log_of ds key).family) databases; volumes = volumes }

pub tells_go : TellsGo
tells_go g h (Created key) t can stands = told_by_database g h t stands key None can
tells_go g h (Changed key change) t can stands = told_by_database g h t stands key (Some change) can
tells_go g h (Deleted key) t can stands = told_one g h t stands (Deleted key) (Deletes can.0.0 key) (record {
  course = (((can.0.1, can.0.2), can.1), tt);
  begins = refl;
  tells = refl;
  stands = record { databases = stands.databases; laid = stands.laid; apart = stands.apart; volumes = stands.volumes };
}) refl refl
tells_go g h (Wrote key volume at blocks) t can stands = told_one g h t stands (Wrote key volume at blocks) (Acknowledges can.untold.0 key volume at blocks) (record {
  course = (((can.untold.1, can.untold.2), can.range, can.only), tt);
  begins = refl;
  tells = refl;
  stands = record { databases = stands.databases; laid = stands.laid; apart = stands.apart; volumes = stands.volumes };
}) refl refl
tells_go g h (Saw key volume at blocks) t can stands = told_one g h t stands (Saw key volume at blocks) (Shows can.0 key volume at blocks) (record {
  course = ((can.1, can.2), tt);
  begins = refl;
  tells = refl;
  stands = record { databases = stands.databases; laid = stands.laid; apart = stands.apart; volumes = stands.volumes };
}) refl refl
