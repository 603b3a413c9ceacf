-- What a change leaves of a table, and what the end of a change of places does, which leaves all its volumes.
use Rattle.std.proofs.Common.{◌≡◌, ◌⊎◌, ◌==◌, inl, inr, List, Option, Some, None, refl, sym, ◌∙◌, ap, subst, arith}
use Rattle.std.proofs.lemmas.Option.{none-some}
use Rattle.mdv_change.specs.declared.change.Change.TheVariants.{MakeStripe, MakeRaid, MakeMirror, MakeSoft, Attach, Detach, Offline, Online, EnablePart, ReplacePart, AddRow, Grow, AddSpares, AddSparesToAll, DeleteSpares, ReplaceSpare, EnableSpares, Clear, ClearBelow, ClearAll}
use Rattle.mdv_growing_law.proofs.Going.{maps_go}
use Rattle.mdv_growing_law.specs.Going.{Clears, IsCleared}
use Rattle.mdv_keeping.specs.Keeping.{IsStepOf}
use Rattle.mdv_layout_law.proofs.Chained.{fronts_lie}
use Rattle.mdv_layout_law.proofs.Telling.{volumes_tell}
use Rattle.mdv_layout_law.specs.Chained.{IsFrontOf, front_map}
use Rattle.mdv_map.proofs.Following.{narrower_maps_follow}
use Rattle.mdv_map.specs.Maps.{DriveBlock}
use Rattle.mdv_shelf.proofs.Blocks.{both_ways}
use Rattle.mdv_shelf.specs.Tale.{Tale}
use Rattle.mdv_store_law.specs.Log.{IsAskable, IsMade, IsSameOrSettled, Issue, OfChange, OfCreation, OfEnd, OfPlaces}
use Rattle.mdv_config.specs.Lists.{settled}
use Rattle.mdv_store_law.specs.Changes.{AddListed, AddPlaces, DropPlaces, FirstPlace, IsAsked, OfPlan, moved}
use Rattle.mdv_volumes.specs.Below.{Change, Follows, Geometry, HasDriveBlock, Key, Map, PlanChange, Table, VolId, VolumeLog}
use Rattle.mdv_volumes.specs.History.{History}
use Rattle.mdv_volumes.specs.HistoryLaws.{IsReady}
use Rattle.mdv_volumes.specs.Tables.{AreLaid, IsMapOf, map_of}
use Rattle.mdv_volumes.proofs.Maps.{number_differs, number_is, same_map}

-- each volume of a table is one of another, and lies there
abbrev pub HasNoMore : Geometry → Table → Table → Type 0
HasNoMore g old next = (volume : VolId) (v : Map) → IsMapOf g next volume v → IsMapOf g old volume v

module _ (g : Geometry) (old next : Table) (was : HasNoMore g old next) where
  pub laid_fewer : AreLaid g old → AreLaid g next
  laid_fewer is = record {
    disjoint = λ volume v map. is.disjoint volume v (was volume v map);
    apart = λ volume beside v w differ map other. is.apart volume beside v w differ (was volume v map) (was beside w other);
    clear = λ volume v map. is.clear volume v (was volume v map);
    plain = λ volume v map. is.plain volume v (was volume v map);
    one = λ volume v map. is.one volume v (was volume v map);
    bounded = λ volume v map. is.bounded volume v (was volume v map);
  }

  -- a boot may find it as well
  pub ready_fewer : (h : History) (key : Key) (t : Tale) → IsReady g h key t old → IsReady g h key t next
  ready_fewer h key t is = record {
    laid = laid_fewer is.laid;
    apart = λ other volume beside v w differ map named. is.apart other volume beside v w differ (was volume v map) named;
    follows = λ volume v map. is.follows volume v (was volume v map);
  }

module _ (g : Geometry) (table : Table) where
  map_settled : (volume : VolId) (v : Map) → IsMapOf g table volume v → IsMapOf g (settled table) volume v
  map_settled volume v map = volumes_tell g (settled table) table volume refl ∙ map

  settled_map : HasNoMore g table (settled table)
  settled_map volume v map = volumes_tell g table (settled table) volume refl ∙ map

  pub ready_settled : (h : History) (key : Key) (t : Tale) → IsReady g h key t table → IsReady g h key t (settled table)
  ready_settled = ready_fewer g table (settled table) settled_map

pub ready_more : (g : Geometry) (h : History) (key : Key) (t : Tale) (old next : Table) → IsSameOrSettled old next → IsReady g h key t old → IsReady g h key t next
ready_more g h key t old next (inl same) is = subst (IsReady g h key t) (sym same) is
ready_more g h key t old next (inr over) is = subst (IsReady g h key t) (sym over) (ready_settled g old h key t is)

-- a table has no volume that it didn't have before
pub map_was : (g : Geometry) (old next : Table) (volume : VolId) (v : Map) → IsSameOrSettled old next → IsMapOf g next volume v → IsMapOf g old volume v
map_was g old next volume v (inl same) map = subst (λ (t : Table). IsMapOf g t volume v) same map
map_was g old next volume v (inr over) map = settled_map g old volume v (subst (λ (t : Table). IsMapOf g t volume v) over map)

-- places that come and go leave the volumes
map_moved : (g : Geometry) (change : Change) (old next : Table) (volume : VolId) (v : Map) → next ≡ moved change old → IsMapOf g old volume v → IsMapOf g next volume v
map_moved g change old next volume v made map = volumes_tell g next old volume (ap (λ (t : Table). t.plan.volumes) made) ∙ map

-- A volume that a change makes, or makes longer: where it lies then, and of how many first blocks it was there before, each where it is; all others lie where they lay.
pub record Gives (g : Geometry) (old next : Table) : Type 0 where
  pub volume : VolId
  pub map : Map
  pub lies : IsMapOf g next volume map
  pub front : Map
  pub begins : IsFrontOf front map
  pub was : IsMapOf g old volume front ⊎ ((map_of g old volume ≡ None) × (front.blocks ≡ 0))
  pub others : (other : VolId) → (other ≡ volume → ⊥) → map_of g next other ≡ map_of g old other

-- a line may ask no other one yet, but that volumes go
pub gives : (g : Geometry) (change : PlanChange) (old next : Table) → IsAsked change → IsStepOf g change old next → Gives g old next ⊎ IsCleared g change old next
gives g (MakeStripe volume rows pool) old next asked step =
    let anew = maps_go.made g volume rows pool old next step in
    inl (record {
      volume = volume;
      map = anew.map;
      lies = anew.lies;
      front = front_map 0 anew.map;
      begins = fronts_lie.front 0 anew.map (omega arith);
      was = inr (anew.none, refl);
      others = anew.others;
    })
gives g (AddRow volume row) old next asked step =
    let grown = maps_go.grown g volume row old next step in
    inl (record { volume = volume; map = grown.map; lies = grown.lies; front = grown.before; begins = grown.front; was = inl grown.was; others = grown.others })
gives g (MakeRaid v raid) old next asked step = absurd asked
gives g (MakeMirror v mirror) old next asked step = absurd asked
gives g (MakeSoft v soft) old next asked step = absurd asked
gives g (Attach mirror sub) old next asked step = absurd asked
gives g (Detach mirror sub force) old next asked step = absurd asked
gives g (Offline mirror sub) old next asked step = absurd asked
gives g (Online mirror sub) old next asked step = absurd asked
gives g (EnablePart v part) old next asked step = absurd asked
gives g (ReplacePart v part new) old next asked step = absurd asked
gives g (Grow v blocks) old next asked step = absurd asked
gives g (AddSpares q new slices) old next asked step = absurd asked
gives g (AddSparesToAll slices) old next asked step = absurd asked
gives g (DeleteSpares pools slices) old next asked step = absurd asked
gives g (ReplaceSpare pools part new) old next asked step = absurd asked
gives g (EnableSpares slices) old next asked step = absurd asked
gives g (Clear volumes pools) old next asked step = inr (maps_go.cleared g (Clear volumes pools) old next tt step)
gives g (ClearBelow volumes pools) old next asked step = inr (maps_go.cleared g (ClearBelow volumes pools) old next tt step)
gives g ClearAll old next asked step = inr (maps_go.cleared g ClearAll old next tt step)

-- each map there is then was there, of another volume, or is its own
pub came_from : (g : Geometry) (old next : Table) (its : Gives g old next) (other : VolId) (v : Map) → IsMapOf g next other v → (IsMapOf g old other v × (other ≡ its.volume → ⊥)) ⊎ (other ≡ its.volume)
came_from g old next its other v map = elim (both_ways (other.0 == its.volume.0)) [
  | inl does ↦ inr (number_is other its.volume does)
  | inr never ↦ (let differ = number_differs other its.volume never in inl (sym (its.others other differ) ∙ map, differ))
]

-- the map that it had is the front of its own
pub was_front : (g : Geometry) (old next : Table) (its : Gives g old next) (w : Map) → IsMapOf g old its.volume w → w ≡ its.front
was_front g old next its w map = by its.was where
  by : IsMapOf g old its.volume its.front ⊎ ((map_of g old its.volume ≡ None) × (its.front.blocks ≡ 0)) → w ≡ its.front
  by (inl was) = same_map g old its.volume w its.front map was
  by (inr (none, empty)) = absurd (none-some w (sym none ∙ map))

-- where volumes are cleared the others lie where they lay, and no other one is there
pub left_of : (g : Geometry) (change : PlanChange) (old next : Table) → IsCleared g change old next → HasNoMore g old next
left_of g change old next is volume v map = sym (is.others volume (λ clears. none-some v (sym (is.gone volume clears) ∙ map))) ∙ map

-- the table has the volume, and its map begins with this one
abbrev pub HasFront : Geometry → VolId → Map → Table → Type 0
HasFront g volume v table = (w : Map) × IsMapOf g table volume w × IsFrontOf v w

pub has_itself : (g : Geometry) (volume : VolId) (v : Map) (table : Table) → IsMapOf g table volume v → HasFront g volume v table
has_itself g volume v table map = (v, map, fronts_lie.itself v)

-- what is issued doesn't take the volume away
abbrev pub VolumeStays : VolId → Issue → Type 0
VolumeStays volume (OfCreation identity) = ⊥
VolumeStays volume (OfChange (OfPlan change)) = Clears change volume → ⊥
VolumeStays volume (OfChange (AddPlaces slices count blocks)) = Unit {0}
VolumeStays volume (OfChange (AddListed number)) = Unit {0}
VolumeStays volume (OfChange (DropPlaces slices)) = Unit {0}
VolumeStays volume (OfChange FirstPlace) = Unit {0}
VolumeStays volume (OfPlaces places) = Unit {0}
VolumeStays volume OfEnd = ⊥

-- a volume stays where it lies, unless a change takes it away; it may have more blocks behind
pub map_stays : (g : Geometry) (volume : VolId) (v : Map) (asked : Option Change) (old next : Table) → IsAskable (VolumeStays volume) asked → IsMade g asked old next → IsMapOf g old volume v → HasFront g volume v next
map_stays g volume v None old next stays (inl same) map = has_itself g volume v next (subst (λ (table : Table). IsMapOf g table volume v) (sym same) map)
map_stays g volume v None old next stays (inr over) map = has_itself g volume v next (subst (λ (table : Table). IsMapOf g table volume v) (sym over) (map_settled g old volume v map))
map_stays g volume v (Some (OfPlan change)) old next stays made map = maps_go.keeps g change old next volume v made.1 stays map
map_stays g volume v (Some (AddPlaces slices count blocks)) old next stays made map = has_itself g volume v next (map_moved g (AddPlaces slices count blocks) old next volume v made map)
map_stays g volume v (Some (AddListed number)) old next stays made map = has_itself g volume v next (map_moved g (AddPlaces made.slices made.count made.blocks) old next volume v made.is map)
map_stays g volume v (Some (DropPlaces slices)) old next stays made map = has_itself g volume v next (map_moved g (DropPlaces slices) old next volume v made map)
map_stays g volume v (Some FirstPlace) old next stays made map = has_itself g volume v next (map_moved g FirstPlace old next volume v made map)

-- so one that begins with this map goes on to
pub front_stays : (g : Geometry) (volume : VolId) (v : Map) (asked : Option Change) (old next : Table) → IsAskable (VolumeStays volume) asked → IsMade g asked old next → HasFront g volume v old → HasFront g volume v next
front_stays g volume v asked old next stays made (w, map, front) = (let later = map_stays g volume w asked old next stays made map in (later.0, later.1, fronts_lie.further v w later.0 front later.2))

-- what begins with a map has each of its blocks there, and follows a log as far as that does
pub front_follows : (w v : Map) (log : VolumeLog) (t : Tale) → IsFrontOf w v → Follows v log t → Follows w log t
front_follows w v log t front = narrower_maps_follow v w log t front.blocks (λ b drive block lt has. subst (λ (ss : List DriveBlock). HasDriveBlock ss drive block) (sym (front.copies b lt)) has)

pub follows_front : (w v : Map) (log : VolumeLog) (t : Tale) → IsFrontOf w v → Follows w log t → Follows (record v { blocks = w.blocks }) log t
follows_front w v log t front = narrower_maps_follow w (record v { blocks = w.blocks }) log t (omega arith) (λ b drive block lt has. subst (λ (ss : List DriveBlock). HasDriveBlock ss drive block) (front.copies b lt) has)
