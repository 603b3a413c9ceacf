-- A volume that a change makes, or makes longer, begins with one value in each block that it has more, and then its table may be written; so it may be at once where volumes are cleared.
use Rattle.std.proofs.Common.{◌≡◌, ◌⊎◌, inl, inr, ℕ, List, [], ◌∷◌, None, Some, refl, sym, ◌∙◌, ap, subst, arith}
use Rattle.mdv_dev.proofs.Copies.{has_place}
use Rattle.mdv_dev.specs.Pieces.{IsOneCopy}
use Rattle.mdv_growing_law.specs.Going.{IsCleared}
use Rattle.mdv_engine_law.specs.Below.{AreWoken, Begins, Event, Happens, History, IsMapOf, IsNamed, Key, Log, Map, OfPlan, OfVolume, Opened, PlanChange, Table, Tale, Version, VolId, Woke, history_after, history_after_all, log_of, map_of}
use Rattle.mdv_map.specs.Logs.{Follows, VolumeLog, opening}
use Rattle.mdv_map.specs.Maps.{AreDisjoint}
use Rattle.mdv_store_law.specs.Log as log
use Rattle.mdv_store_law.specs.Log.{IsLog, IsMade, IsSameOrSettled}
use Rattle.mdv_store_law.specs.Part.{IsPart}
use Rattle.mdv_store.specs.Commit.{IsNewestWritten}
use Rattle.mdv_store_law.specs.Machine.{AreAll}
use Rattle.mdv_volumes.specs.Databases.{Database, is_volume}
use Rattle.mdv_volumes.specs.Events.{log_after}
use Rattle.mdv_volumes.specs.Happening.{IsIssue, MayBeFound}
use Rattle.mdv_volumes.specs.Histories.{Stands}
use Rattle.mdv_volumes.specs.HistoryLaws.{IsAsked, IsBegun, IsReady as IsTableReady, IsUpon}
use Rattle.mdv_volumes.specs.Standing.{GoesBy, HaveOneValue}
use Rattle.mdv_volumes.specs.Tables.{AreLaid}
use Rattle.mdv_volumes.proofs.Copies.{content as content_of, one_value as value_of, upon_or_not}
use Rattle.mdv_volumes.proofs.Databases.{is_log_of, volume_itself, volume_number}
use Rattle.mdv_volumes.proofs.Found.{newest_found, only_found}
use Rattle.mdv_volumes.proofs.Made.{Gives, HasNoMore, came_from, follows_front, front_follows, gives, left_of, map_was, ready_more, was_front}
use Rattle.mdv_volumes.proofs.Maps.{same_map}
use Rattle.mdv_volumes.proofs.Standing.{boots_stand}
use Rattle.mdv_volumes.proofs.Tables.{blocks_plain, tables_lie}
use Rattle.mdv_volumes.proofs.Transfers.{noted}
use Rattle.mdv_volumes.proofs.Volumes.{after_own}
use Rattle.mdv_volumes.proofs.Waking.{beginnings_go}
use Rattle.mdv_engine_law.specs.declared.host.Host.{Host}
use Rattle.mdv_engine_law.specs.Hosts.{IsReady, key_of}
use Rattle.mdv_engine_law.specs.Line.{Memory}
use Rattle.mdv_engine_law.specs.Standing.{IsKnown, IsOfRun, StandsAt, is_steady}
use Rattle.mdv_engine_law.proofs.Asking.{Alone, asked_is}
use Rattle.mdv_engine_law.proofs.Going.{AllAwake}
use Rattle.mdv_engine_law.proofs.Owning.{own_alone}
use Rattle.mdv_engine_law.proofs.Refusing.{known_newest, opened_has}
use Rattle.mdv_shelf.proofs.Blocks.{both_ways}

-- the table of a change
module _ (host : Host) (sizes : List ℕ) (ready : IsReady host sizes) (memory : Memory) (newest : Opened) (opened : memory.opened ≡ Some newest) (change : PlanChange) (table : Table)
    (made : IsMade host.drives (Some (OfPlan change)) newest.table table) where
  abbrev pub key : Key
  key = key_of host

  laid : AreLaid host.drives table
  laid = tables_lie.laid host.drives table ready.sound made.1.next_of

  -- a boot finds the open table alone
  alone_of : (lg : Log) → IsLog host.drives lg → IsNewestWritten lg newest.mark newest.table → Alone host.drives (OfPlan change) tt newest.table table made lg
  alone_of lg is newest_is = record {
    some = subst log.IsBegun (sym newest_is.newest.family) tt;
    each = λ v found. inl (ap (λ (w : Version). w.table) (only_found newest_is.newest.version newest_is.newest.older v (subst log.IsRising newest_is.newest.family is.rising) newest_is.written (subst (λ (f : List Version). MayBeFound f v) newest_is.newest.family found)) ∙ newest_is.newest.same);
  }

  module _ (t : Tale) (h : History) (known : IsKnown host memory h t) where
    is_newest : IsNewestWritten (log_of h.databases key) newest.mark newest.table
    is_newest = known_newest host memory newest opened t h known

    is_log : IsLog host.drives (log_of h.databases key)
    is_log = is_log_of host.drives h.databases t known.stands.databases key

    alone : Alone host.drives (OfPlan change) tt newest.table table made (log_of h.databases key)
    alone = alone_of (log_of h.databases key) is_log is_newest

    -- what the open table has a boot may find
    newest_of : (w : Map) (other : VolId) → IsMapOf host.drives newest.table other w → IsNamed host.drives h.databases key other w
    newest_of w other lies = record {
      version = is_newest.newest.version;
      found = subst (λ (f : List Version). MayBeFound f is_newest.newest.version) (sym is_newest.newest.family) (newest_found is_newest.newest.version is_newest.newest.older (subst log.IsRising is_newest.newest.family is_log.rising));
      map = subst (λ (x : Table). IsMapOf host.drives x other w) (sym is_newest.newest.same) lies;
    }

    -- and it was woken
    newest_woken : AreWoken host.drives newest.table (is_steady memory) h key
    newest_woken = opened_has memory newest (λ n. AreWoken host.drives n.table (is_steady memory) h key) opened known.woken

    -- its volumes lie apart from those of other keys: there are none
    apart_from : (ds : List Database) → ds ≡ h.databases → (other : Key) (volume beside : VolId) (v w : Map) → (key ≡ other → ⊥) → IsMapOf host.drives table volume v → IsNamed host.drives ds other beside w → AreDisjoint v w
    apart_from ds same other volume beside v w differ lies named = absurd (own_alone host memory.begun h known.its other beside w differ (subst (λ (x : List Database). IsNamed host.drives x other beside w) same named))

    -- What is so before the change: then its table may be written, and what is found is woken.
    pub record IsGrown (es : List Event) (g : History) : Type 0 where
      pub happens : Happens host.drives h es [] [] t
      pub is : g ≡ history_after_all h es
      pub awake : AllAwake host h es
      pub issues : AreAll (IsIssue (IsOfRun host [])) es
      pub databases : g.databases ≡ h.databases
      pub up : g.up ≡ h.up
      pub writable : IsTableReady host.drives g key t table
      pub woken : AreWoken host.drives table (is_steady memory) g key

    -- a volume is made, or has more blocks
    module _ (its : Gives host.drives newest.table table) where
      abbrev volume : VolId
      volume = its.volume

      -- where it lies
      abbrev map : Map
      map = its.map

      -- from that block on it begins
      abbrev from : ℕ
      from = its.front.blocks

      -- each of its blocks in one place
      one : IsOneCopy map
      one = laid.one volume map its.lies

      abbrev content : ℕ → List ℕ
      content = content_of map one t

      -- which has one value, where its drive is steady
      one_value : IsUpon (is_steady memory) map → HaveOneValue map content t
      one_value upon = value_of map one t (is_steady memory) (λ b drive block lt at on. known.knows.steady drive block on (blocks_plain host.drives table laid volume map its.lies b drive block lt (has_place map b drive block at))) upon

      -- each table that a boot may find and that has the volume has it so long, where it was
      named_front : (w : Map) → IsNamed host.drives h.databases key volume w → w ≡ its.front
      named_front w named = was_front host.drives newest.table table its w (map_was host.drives newest.table named.version.table volume w (alone.each named.version named.found) named.map)

      abbrev begins : Event
      begins = OfVolume key volume (Begins from (opening map t))

      abbrev wakes : Event
      wakes = OfVolume key volume (Woke map.blocks content)

      abbrev first : History
      first = history_after h begins

      abbrev second : History
      second = history_after first wakes

      -- its log begins
      begun : IsBegun host.drives h key volume from map t
      begun = beginnings_go host.drives h key volume from map t (λ w named. (let same = ap (λ (v : Map). v.blocks) (named_front w named) in omega (arith, same)))
          (follows_front its.front map (h.volumes key volume) t its.begins (front_followed its.was)) known.stands where
            front_followed : IsMapOf host.drives newest.table volume its.front ⊎ ((map_of host.drives newest.table volume ≡ None) × (from ≡ 0)) → Follows its.front (h.volumes key volume) t
            front_followed (inl was) = known.stands.volumes key volume its.front (newest_of its.front volume was)
            front_followed (inr (none, empty)) = record { reads = λ b x lt. absurd (omega (arith, lt, empty)); leaves = λ image b x is lt. absurd (omega (arith, lt, empty)) }

      other_count : (number : VolId) → (number ≡ volume → ⊥) → second.woken key number ≡ h.woken key number
      other_count number differ = elim (both_ways (is_volume key volume key number)) [
        | inl does ↦ absurd (differ (sym (volume_number key volume key number does)))
        | inr never ↦ rw never refl
      ]

      first_count : (number : VolId) → (number ≡ volume → ⊥) → first.woken key number ≡ h.woken key number
      first_count number differ = elim (both_ways (is_volume key volume key number)) [
        | inl does ↦ absurd (differ (sym (volume_number key volume key number does)))
        | inr never ↦ rw never refl
      ]

      own_count : second.woken key volume ≡ map.blocks
      own_count = let here = volume_itself key volume in rw here refl

      -- the others are as they were, and the volume is followed, and woken where its drives are steady
      module _ (g : History) (stands : Stands host.drives g t) (databases : g.databases ≡ h.databases) (follows : Follows map (g.volumes key volume) t) (own : IsUpon (is_steady memory) map → g.woken key volume ≡ map.blocks)
          (others : (number : VolId) → (number ≡ volume → ⊥) → g.woken key number ≡ h.woken key number) where
        ready_given : IsTableReady host.drives g key t table
        ready_given = record { laid = laid; apart = apart_from g.databases databases; follows = λ number w lies. by number w lies (came_from host.drives newest.table table its number w lies) }
          where
            by : (number : VolId) (w : Map) → IsMapOf host.drives table number w → (IsMapOf host.drives newest.table number w × (number ≡ volume → ⊥)) ⊎ (number ≡ volume) → Follows w (g.volumes key number) t
            by number w lies (inl (old, differ)) = stands.volumes key number w (subst (λ (ds : List Database). IsNamed host.drives ds key number w) (sym databases) (newest_of w number old))
            by number w lies (inr same) =
                let here : IsMapOf host.drives table volume w = subst (λ (n : VolId). IsMapOf host.drives table n w) same lies in
                subst (λ (n : VolId). Follows w (g.volumes key n) t) (sym same) (subst (λ (v : Map). Follows v (g.volumes key volume) t) (same_map host.drives table volume map w its.lies here) follows)

        woken_given : AreWoken host.drives table (is_steady memory) g key
        woken_given number w lies upon = by (came_from host.drives newest.table table its number w lies) where
          by : (IsMapOf host.drives newest.table number w × (number ≡ volume → ⊥)) ⊎ (number ≡ volume) → g.woken key number ≡ w.blocks
          by (inl (old, differ)) = others number differ ∙ newest_woken number w old upon
          by (inr same_number) =
              let here : IsMapOf host.drives table volume w = subst (λ (n : VolId). IsMapOf host.drives table n w) same_number lies in
              let maps : w ≡ map = sym (same_map host.drives table volume map w its.lies here) in
              ap (λ (n : VolId). g.woken key n) same_number ∙ own (subst (λ (v : Map). IsUpon (is_steady memory) v) maps upon) ∙ ap (λ (v : Map). v.blocks) (sym maps)

      given_up : IsUpon (is_steady memory) map → (es : List Event) × (g : History) × IsGrown es g
      given_up upon =
          let woke : GoesBy map (first.volumes key volume) (Woke map.blocks content ∷ []) t = boots_stand.woken map content (first.volumes key volume) t (one_value upon) begun.follows in
          let stands : Stands host.drives second t = noted host.drives first key volume (Woke map.blocks content) t begun.happens.stands
          (λ w named. subst (λ (v : Map). Follows v (log_after (first.volumes key volume) (Woke map.blocks content)) t) (sym (named_front w named)) (front_follows its.front map (log_after (first.volumes key volume) (Woke map.blocks content)) t its.begins woke.follows)) in
          let follows : Follows map (second.volumes key volume) t = subst (λ (l : VolumeLog). Follows map l t) (sym (after_own host.drives first key volume (Woke map.blocks content) t t begun.happens.stands)) woke.follows in (
            begins ∷ wakes ∷ [],
            second,
            record {
              happens = record { course = (begun.happens.course.0, ((woke.course.0, tt), tt)); begins = refl; tells = refl; stands = stands };
              is = refl;
              awake = (tt, (tt, tt));
              issues = (tt, (tt, tt));
              databases = refl;
              up = refl;
              writable = ready_given second stands refl follows (λ on. own_count) other_count;
              woken = woken_given second stands refl follows (λ on. own_count) other_count;
            },
          )

      given_down : (IsUpon (is_steady memory) map → ⊥) → (es : List Event) × (g : History) × IsGrown es g
      given_down down = (
        begins ∷ [],
        first,
        record {
          happens = begun.happens;
          is = refl;
          awake = (tt, tt);
          issues = (tt, tt);
          databases = refl;
          up = refl;
          writable = ready_given first begun.happens.stands refl begun.follows (λ upon. absurd (down upon)) first_count;
          woken = woken_given first begun.happens.stands refl begun.follows (λ upon. absurd (down upon)) first_count;
        },
      )

      given : (es : List Event) × (g : History) × IsGrown es g
      given = elim (upon_or_not map one (is_steady memory)) [ inl upon ↦ given_up upon | inr down ↦ given_down down ]

    -- volumes are cleared: the others are as they were
    left : IsCleared host.drives change newest.table table → (es : List Event) × (g : History) × IsGrown es g
    left gone = (
      [],
      h,
      record {
        happens = record { course = tt; begins = refl; tells = refl; stands = known.stands };
        is = refl;
        awake = tt;
        issues = tt;
        databases = refl;
        up = refl;
        writable = record { laid = laid; apart = apart_from h.databases refl; follows = λ number w lies. known.stands.volumes key number w (newest_of w number (was number w lies)) };
        woken = λ number w lies. newest_woken number w (was number w lies);
      },
    )
      where
        was : HasNoMore host.drives newest.table table
        was = left_of host.drives change newest.table table gone

    pub grown : (es : List Event) × (g : History) × IsGrown es g
    grown = elim (gives host.drives change newest.table table made.0 made.1) [ inl its ↦ given its | inr gone ↦ left gone ]

    module _ (es : List Event) (g : History) (grows : IsGrown es g) where
      pub grown_stands : StandsAt host g t
      grown_stands = subst (λ (k : History). Stands host.drives k t) (sym grows.is) grows.happens.stands

      -- then the table may be written
      pub ready_grown : (other : Table) → IsSameOrSettled table other → IsTableReady host.drives g key t other
      ready_grown other same = ready_more host.drives g key t table other same grows.writable

      -- what is woken then
      pub are_woken : (k : History) → k.woken ≡ g.woken → AreWoken host.drives table (is_steady memory) k key
      are_woken k same number w lies upon = ap (λ (f : _). f key number) same ∙ grows.woken number w lies upon

    pub only_asked : (es : List log.Event) → log.IsCourse host.drives (log_of h.databases key) es → IsPart (log.begun_by es) (Some (OfPlan change) ∷ []) → (other : Table) → IsAsked es other → IsSameOrSettled table other
    only_asked es course within other asked = asked_is host.drives (OfPlan change) tt newest.table table made (log_of h.databases key) es is_log alone course within other asked
