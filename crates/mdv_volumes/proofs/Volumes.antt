-- What happens to one volume of a history, while the others stay.
use Rattle.std.proofs.Common.{◌≡◌, inl, inr, Bool, true, false, List, ◌∷◌, ◌++◌, refl, sym, ◌∙◌, ap, subst}
use Rattle.mdv_shelf.proofs.Blocks.{both_ways}
use Rattle.mdv_store_law.specs.Log.{IsRising, Issue, Version}
use Rattle.mdv_store_law.specs.Machine.{AreAll}
use Rattle.mdv_store_law.specs.Machine as machine
use Rattle.mdv_store_law.specs.Part.{IsPart}
use Rattle.mdv_store_law.proofs.Machine.{after_more, all_more, course_more}
use Rattle.mdv_databases.proofs.Lists.{key_differs, key_is}
use Rattle.mdv_volumes.specs.Below.{AreDisjoint, Follows, Geometry, Key, Log, Map, Stand, Tale, VolId}
use Rattle.mdv_volumes.specs.Databases.{Database, is_volume, log_of, same_key}
use Rattle.mdv_volumes.specs.Events.{VolumeEvent}
use Rattle.mdv_volumes.specs.Events as lives
use Rattle.mdv_volumes.specs.Happening.{Adds, IsIssue, IsNamed, IsThere, MayBeFound, MayHappen, begins, issued_by, tells, told_by}
use Rattle.mdv_volumes.specs.Histories.{Happens, Stands}
use Rattle.mdv_volumes.specs.History.{Deed, Event, OfVolume, History, history_after, history_after_all}
use Rattle.mdv_volumes.specs.Tables.{IsMapOf}
use Rattle.mdv_volumes.proofs.Databases.{is_log_of, volume_itself, volume_key, volume_number}
use Rattle.mdv_volumes.proofs.Found.{newest_found, only_found}
use Rattle.mdv_volumes.proofs.Maps as maps

-- events one behind another
pub happens_more : (g : Geometry) (h : History) (es fs : List Event) (begun more told later : List Deed) (u m : Tale) → Happens g h es begun told u → Happens g (history_after_all h es) fs more later m
    → Happens g h (es ++ fs) (begun ++ more) (told ++ later) m
happens_more g h es fs begun more told later u m one two = record {
  course = course_more history_after (MayHappen g) h es fs one.course two.course;
  begins = all_more begins es fs ∙ ap (λ (l : List Deed). l ++ issued_by fs) one.begins ∙ ap (λ (l : List Deed). begun ++ l) two.begins;
  tells = all_more tells es fs ∙ ap (λ (l : List Deed). l ++ told_by fs) one.tells ∙ ap (λ (l : List Deed). told ++ l) two.tells;
  stands = subst (λ (x : History). Stands g x m) (sym (after_more history_after h es fs)) two.stands;
}

-- what a boot may find of a key rests on its log
pub named_as : (g : Geometry) (old new : List Database) (key : Key) (volume : VolId) (v : Map) → log_of new key ≡ log_of old key → IsNamed g new key volume v → IsNamed g old key volume v
named_as g old new key volume v same named = record { version = named.version; found = subst (λ (l : Log). MayBeFound l.family named.version) same named.found; map = named.map }

module _ (g : Geometry) (h : History) (t : Tale) (stands : Stands g h t) where
  module _ (key : Key) (volume : VolId) (v : Map) (there : IsThere g h.databases key volume v) where
    rising : IsRising (there.newest ∷ there.older)
    rising = subst IsRising there.family (is_log_of g h.databases t stands.databases key).rising

    pub there_found : MayBeFound (log_of h.databases key).family there.newest
    there_found = subst (λ (f : List Version). MayBeFound f there.newest) (sym there.family) (newest_found there.newest there.older rising)

    pub there_named : IsNamed g h.databases key volume v
    there_named = record { version = there.newest; found = there_found; map = there.map }

    -- a boot finds no other table, so each volume of the key is one of that
    pub of_newest : (beside : VolId) (w : Map) → IsNamed g h.databases key beside w → IsMapOf g there.newest.table beside w
    of_newest beside w named =
        let version : named.version ≡ there.newest = only_found there.newest there.older named.version rising there.written (subst (λ (f : List Version). MayBeFound f named.version) there.family named.found) in
        subst (λ (x : Version). IsMapOf g x.table beside w) version named.map

    pub same_map : (w : Map) → IsNamed g h.databases key volume w → w ≡ v
    same_map w named = maps.same_map g there.newest.table volume w v (of_newest volume w named) there.map

    -- another volume shares no block of a drive with it
    pub other_map : (other : Key) (beside : VolId) (w : Map) → is_volume other beside key volume ≡ false → IsNamed g h.databases other beside w → AreDisjoint w v
    other_map other beside w away named = elim (both_ways (same_key other key)) [
      | inl does ↦
          let same : other ≡ key = key_is other key does in
          let here : IsNamed g h.databases key beside w = subst (λ (k : Key). IsNamed g h.databases k beside w) same named in
          (stands.laid key there.newest there_found).apart beside volume w v (differ other beside does away) (of_newest beside w here) there.map
      | inr never ↦ stands.apart other key beside volume w v (key_differs other key never) named there_named
    ]
      where
        true_never : (b : Bool) → b ≡ true → b ≡ false → ⊥
        true_never b is is_not = cc (is, is_not)

        differ : (k : Key) (x : VolId) → same_key k key ≡ true → is_volume k x key volume ≡ false → x ≡ volume → ⊥
        differ k x one not same =
            true_never (is_volume k x key volume) (subst (λ (y : VolId). is_volume k x key y ≡ true) same (subst (λ (q : Key). is_volume k x q x ≡ true) (key_is k key one) (volume_itself k x))) not

-- one event of a volume: it follows its log then, and the others theirs
module _ (g : Geometry) (h : History) (key : Key) (volume : VolId) (e : VolumeEvent) (t m : Tale) (stands : Stands g h t) where
  pub after_own : (history_after h (OfVolume key volume e)).volumes key volume ≡ lives.log_after (h.volumes key volume) e
  after_own = let here = volume_itself key volume in rw here refl

  pub stands_after : Stand g h.databases m
      → ((w : Map) → IsNamed g h.databases key volume w → Follows w (lives.log_after (h.volumes key volume) e) m)
      → ((other : Key) (beside : VolId) (w : Map) → is_volume other beside key volume ≡ false → IsNamed g h.databases other beside w → Follows w (h.volumes other beside) m)
      → Stands g (history_after h (OfVolume key volume e)) m
  stands_after databases own others = record {
    databases = databases;
    laid = stands.laid;
    apart = stands.apart;
    volumes = λ other beside w named. elim (both_ways (is_volume other beside key volume)) [
      | inl does ↦
          let is_key = volume_key other beside key volume does in
          let is_number = volume_number other beside key volume does in
          let here : IsNamed g h.databases key volume w = subst (λ (k : Key). IsNamed g h.databases k volume w) is_key (subst (λ (x : VolId). IsNamed g h.databases other x w) is_number named) in
          rw does (subst (λ (k : Key). Follows w (lives.log_after (h.volumes k beside) e) m) (sym is_key) (subst (λ (x : VolId). Follows w (lives.log_after (h.volumes key x) e) m) (sym is_number) (own w here)))
      | inr never ↦ rw never (others other beside w never named)
    ];
  }

-- events that happen, in the form of a history that goes on
pub goes_by : (g : Geometry) (h : History) (Which : Issue → Type 0) (asks : List Deed) (After : List Event → History → Type 0) (es : List Event) (begun told : List Deed) (m : Tale) → Happens g h es begun told m → IsPart begun asks
    → AreAll (IsIssue Which) es → After es (history_after_all h es) → machine.Goes history_after (MayHappen g) (Adds Which asks told) (λ next. Stands g next m) After h
goes_by g h Which asks After es begun told m happens part issues after = record {
  es = es;
  course = happens.course;
  come = record { tells = happens.tells; issues = issues; begins = subst (λ (l : List Deed). IsPart l asks) (sym happens.begins) part };
  stands = happens.stands;
  after = after;
}
