-- Boots that find one value of each block, and logs that begin.
use Rattle.std.proofs.Common.{◌≡◌, ◌⊎◌, inl, inr, ⊎_elim, ℕ, Bool, true, ◌≤◌, List, [], ◌∷◌, map, All, Contains, Option, Some, None, refl, sym, ◌∙◌, ap, subst, arith}
use Rattle.std.proofs.lemmas.List.Elements.{All-cons, All-head, All-nil, All-tail}
use Rattle.std.proofs.lemmas.Option.{none-some}
use Rattle.mdv_dev.proofs.Copies.{has_place}
use Rattle.mdv_shelf.proofs.Blocks.{both_ways}
use Rattle.mdv_store_law.specs.Log.{IsRising}
use Rattle.mdv_volumes.specs.Below.{Follows, Geometry, IsOneCopy, Key, Map, MayLeave, Tale, Version, VolId, Volume, VolumeLog, after_begin, area_of_map, last, opening}
use Rattle.mdv_volumes.specs.Databases.{is_volume}
use Rattle.mdv_volumes.specs.Events.{Begins, Woke}
use Rattle.mdv_volumes.specs.Events as lives
use Rattle.mdv_volumes.specs.Happening.{IsNamed, MayBeFound}
use Rattle.mdv_volumes.specs.Histories.{Happens, Stands}
use Rattle.mdv_volumes.specs.History.{OfVolume, History, history_after, history_after_all}
use Rattle.mdv_volumes.specs.HistoryLaws.{AreAwake, AreWoken, BeginningsGo, BootsGo, IsBooted, IsFoundBy, IsUpon, Waking, wakings}
use Rattle.mdv_volumes.specs.Standing.{HaveOneValue}
use Rattle.mdv_volumes.specs.Tables.{AreLaid, IsMapOf, map_of}
use Rattle.mdv_volumes.proofs.Copies.{content, one_value, upon_or_not}
use Rattle.mdv_volumes.proofs.Databases.{is_log_of, volume_itself, volume_number}
use Rattle.mdv_volumes.proofs.Found.{newest_found}
use Rattle.mdv_volumes.proofs.Lists.{contains_behind, contains_first, first_or_behind}
use Rattle.mdv_volumes.proofs.Logs.{goes_test}
use Rattle.mdv_volumes.proofs.Maps as maps
use Rattle.mdv_volumes.proofs.Standing.{beginnings_stand, boots_stand}
use Rattle.mdv_volumes.proofs.Transfers.{noted}
use Rattle.mdv_volumes.proofs.Volumes.{after_own, happens_more, same_map, there_named}

-- one volume wakes
module _ (g : Geometry) (h : History) (key : Key) (t : Tale) (stands : Stands g h t) where
  module _ (w : Waking) (found : IsFoundBy g h.databases key t w) where
    woke : Happens g h (OfVolume key w.volume (Woke w.count w.content) ∷ []) [] [] t
    woke =
        let v = found.map in
        let follows = stands.volumes key w.volume v (there_named g h t stands key w.volume v found.there) in
        let goes = boots_stand.woken v w.content (h.volumes key w.volume) t found.one follows in
        record {
          course = ((subst (λ (n : ℕ). lives.AreFound (h.volumes key w.volume) n w.content) (sym found.long) goes.course.0, tt), tt);
          begins = refl;
          tells = refl;
          stands = noted g h key w.volume (Woke w.count w.content) t stands (λ x named.
              subst (λ (y : Map). Follows y (lives.log_after (h.volumes key w.volume) (Woke w.count w.content)) t) (sym (same_map g h t stands key w.volume v found.there x named))
              (subst (λ (n : ℕ). Follows v (lives.log_after (h.volumes key w.volume) (Woke n w.content)) t) (sym found.long) goes.follows));
        }

  -- a volume is found with one count
  same_count : (w x : Waking) → IsFoundBy g h.databases key t w → IsFoundBy g h.databases key t x → x.volume ≡ w.volume → x.count ≡ w.count
  same_count w x found other same =
      let named = there_named g h t stands key x.volume other.map other.there in
      let one = same_map g h t stands key w.volume found.map found.there other.map (subst (λ (v : VolId). IsNamed g h.databases key v other.map) same named) in
      other.long ∙ ap (λ (v : Map). v.blocks) one ∙ sym found.long

woke_count : (h : History) (key : Key) (w : Waking) → (history_after h (OfVolume key w.volume (Woke w.count w.content))).woken key w.volume ≡ w.count
woke_count h key w = let here = volume_itself key w.volume in rw here refl

-- the counts of others stay, and one that is found again has the same
counts_stay : (h : History) (key : Key) (ws : List Waking) (volume : VolId) (count : ℕ) → All (λ x. x.volume ≡ volume → x.count ≡ count) ws → h.woken key volume ≡ count → (history_after_all h (wakings key ws)).woken key volume ≡ count
counts_stay h key [] volume count same is = is
counts_stay h key (x ∷ ws) volume count same is = counts_stay (history_after h (OfVolume key x.volume (Woke x.count x.content))) key ws volume count (All-tail (λ (y : Waking). y.volume ≡ volume → y.count ≡ count) x ws same)
    (elim (both_ways (is_volume key x.volume key volume)) [
      | inl does ↦ rw does (All-head (λ (y : Waking). y.volume ≡ volume → y.count ≡ count) x ws same (volume_number key x.volume key volume does))
      | inr never ↦ rw never is
    ])

awake : (g : Geometry) (h : History) (key : Key) (ws : List Waking) (t : Tale) → All (IsFoundBy g h.databases key t) ws → Stands g h t → AreAwake g h key ws t
awake g h key [] t found stands = record {
  happens = record { course = tt; begins = refl; tells = refl; stands = stands };
  woken = λ w has. absurd (omega (arith, has.1));
  databases = refl;
  up = refl;
}
awake g h key (w ∷ ws) t found stands =
    let own = All-head (IsFoundBy g h.databases key t) w ws found in
    let behind = All-tail (IsFoundBy g h.databases key t) w ws found in
    let next = history_after h (OfVolume key w.volume (Woke w.count w.content)) in
    let first = woke g h key t stands w own in
    let rest = awake g next key ws t behind first.stands in
    record {
      happens = happens_more g h (OfVolume key w.volume (Woke w.count w.content) ∷ []) (wakings key ws) [] [] [] [] t t first rest.happens;
      woken = λ x has. ⊎_elim (λ here. subst (λ (y : Waking). (history_after_all next (wakings key ws)).woken key y.volume ≡ y.count) here
          (counts_stay next key ws w.volume w.count (λ k d lt same. same_count g h key t stands w _ own (behind k d lt) same) (woke_count h key w)))
          (λ later. rest.woken x later) (first_or_behind w x ws has);
      databases = rest.databases;
      up = rest.up;
    }

-- a volume each of whose blocks has one copy, on a drive that is up, has one value in each of them, or not all of its drives are up
module _ (g : Geometry) (h : History) (key : Key) (newest : Version) (up : ℕ → Bool) (t : Tale) (booted : IsBooted g h key newest up t) (stands : Stands g h t) where
  abbrev Found : Map → Type 0
  Found v = ((content : ℕ → List ℕ) × HaveOneValue v content t) ⊎ (IsUpon up v → ⊥)

  -- a crash leaves of each block of the map on drives that are up what a read gives
  abbrev Still : Map → Type 0
  Still v = (drive block : ℕ) → area_of_map v drive block ≡ true → up drive ≡ true → (x : List ℕ) → MayLeave t drive block x → x ≡ last t drive block

  found : (v : Map) → IsOneCopy v → Still v → Found v
  found v one still = ⊎_elim
      (λ upon. inl (content v one t, one_value v one t up (λ b drive block lt at does. still drive block (maps.in_area v b drive block lt (has_place v b drive block at)) does) upon))
      (λ never. inr never) (upon_or_not v one up)

  -- what is found of the volumes of a list
  record FoundOf (volumes : List Volume) : Type 0 where
    ws : List Waking
    all : All (IsFoundBy g h.databases key t) ws
    each : (of : Volume) (v : Map) → Contains volumes of → IsMapOf g newest.table of.number v → IsUpon up v → (w : Waking) × Contains ws w × (w.volume ≡ of.number) × (w.count ≡ v.blocks)

  is_one : (volume : VolId) (v w : Map) → IsMapOf g newest.table volume v → IsMapOf g newest.table volume w → v ≡ w
  is_one volume v w map other = maps.same_map g newest.table volume v w map other

  laid : AreLaid g newest.table
  laid = stands.laid key newest (subst (λ (f : List Version). MayBeFound f newest) (sym booted.family) (newest_found newest booted.older (subst IsRising booted.family (is_log_of g h.databases t stands.databases key).rising)))

  one_more : (of : Volume) (volumes : List Volume) (v : Map) → IsMapOf g newest.table of.number v → Found v → FoundOf volumes → FoundOf (of ∷ volumes)
  one_more of volumes v map (inl one) rest =
      let w : Waking = record { volume = of.number; count = v.blocks; content = one.0 } in
      let found : IsFoundBy g h.databases key t w = record {
        map = v;
        there = record { lives = booted.lives; newest = newest; older = booted.older; family = booted.family; written = booted.written; map = map };
        long = refl;
        one = one.1;
      } in record {
        ws = w ∷ rest.ws;
        all = All-cons (IsFoundBy g h.databases key t) w rest.ws found rest.all;
        each = λ other x has other_map upon. ⊎_elim
            (λ same. (
              w,
              contains_first w rest.ws,
              ap (λ (o : Volume). o.number) same,
              ap (λ (y : Map). y.blocks) (is_one of.number v x map (subst (λ (n : VolId). IsMapOf g newest.table n x) (sym (ap (λ (o : Volume). o.number) same)) other_map)),
            ))
            (λ behind. let one_of = rest.each other x behind other_map upon in (one_of.0, contains_behind w one_of.0 rest.ws one_of.1, one_of.2, one_of.3)) (first_or_behind of other volumes has);
      }
  one_more of volumes v map (inr never) rest = record {
    ws = rest.ws;
    all = rest.all;
    each = λ other x has other_map upon. ⊎_elim
        (λ same. absurd (never (subst (λ (y : Map). IsUpon up y) (sym (is_one of.number v x map (subst (λ (n : VolId). IsMapOf g newest.table n x) (sym (ap (λ (o : Volume). o.number) same)) other_map))) upon)))
        (λ behind. rest.each other x behind other_map upon) (first_or_behind of other volumes has);
  }

  -- one without a map is none that a boot could find
  none_more : (of : Volume) (volumes : List Volume) → map_of g newest.table of.number ≡ None → FoundOf volumes → FoundOf (of ∷ volumes)
  none_more of volumes none rest = record {
    ws = rest.ws;
    all = rest.all;
    each = λ other x has other_map upon. ⊎_elim
        (λ same. absurd (none-some x (sym none ∙ subst (λ (o : Volume). IsMapOf g newest.table o.number x) (sym same) other_map)))
        (λ behind. rest.each other x behind other_map upon) (first_or_behind of other volumes has);
  }

  found_of : (volumes : List Volume) → FoundOf volumes
  found_of [] = record { ws = []; all = All-nil (IsFoundBy g h.databases key t); each = λ of v has. absurd (omega (arith, has.1)) }
  found_of (of ∷ volumes) = by (found_of volumes) (map_of g newest.table of.number) refl where
    by : FoundOf volumes → (o : Option Map) → map_of g newest.table of.number ≡ o → FoundOf (of ∷ volumes)
    by rest None none = none_more of volumes none rest
    by rest (Some v) map = one_more of volumes v map (found v (laid.one of.number v map) (λ drive block. booted.still of.number v drive block map)) rest

  all_awake : (ws : List Waking) × AreAwake g h key ws t × AreWoken g newest.table up (history_after_all h (wakings key ws)) key
  all_awake =
      let found = found_of newest.table.plan.volumes in
      let woke = awake g h key found.ws t found.all stands in (
        found.ws,
        woke,
        λ volume v map upon.
            let at = maps.found_as g newest.table volume v map in
            let has = maps.found_has newest.table.plan volume at.of at.found in
            let w = found.each at.of v has.0 (subst (λ (n : VolId). IsMapOf g newest.table n v) (sym has.1) map) upon in
            ap (λ (n : VolId). (history_after_all h (wakings key found.ws)).woken key n) (sym has.1 ∙ sym w.2) ∙ woke.woken w.0 w.1 ∙ w.3,
      )

pub boots_go : BootsGo
boots_go = record { awake = awake; all = all_awake }

-- a log below some block stays where it begins anew from there on
below_follows : (w : Map) (from : ℕ) (log logs : VolumeLog) (t : Tale) → w.blocks ≤ from → Follows w log t → Follows w (after_begin from logs log) t
below_follows w from log logs t le follows = record {
  reads = λ b x lt reading. let test = goes_test b from (omega arith) in rw test (follows.reads b x lt reading);
  leaves = λ image b x is lt reading. let test = goes_test b from (omega arith) in rw test (follows.leaves image b x is lt reading);
}

pub beginnings_go : BeginningsGo
beginnings_go g h key volume from v t free front stands =
    let goes = beginnings_stand.grown v from (h.volumes key volume) t front in
    record {
      happens = record {
        course = ((goes.course.0, λ w named. let le = free w named in omega (arith, le)), tt);
        begins = refl;
        tells = refl;
        stands = noted g h key volume (Begins from (opening v t)) t stands (λ w named. below_follows w from (h.volumes key volume) (opening v t) t (free w named) (stands.volumes key volume w named));
      };
      follows = subst (λ (l : VolumeLog). Follows v l t) (sym (after_own g h key volume (Begins from (opening v t)) t t stands)) goes.follows;
    }
