-- Where the blocks of a volume lie.
use Rattle.std.proofs.Common.{◌≡◌, ◌≤◌, ◌<◌, ℕ, Bool, Option, Some, None, sym, subst, ap, ◌∙◌, List, length, slice_index, arith}
use Rattle.std.proofs.lemmas.Bool.{and_parts, lt-ltb, le-ltb}
use Rattle.std.proofs.lemmas.List.Folds.{Any-from_list_any}
use Rattle.std.specs.Prelude.{◌&&◌}
use Rattle.mdv_base.specs.Order.{first_refusal, where_so}
use Rattle.mdv_base.specs.declared.refusal.Refusal.TheVariants.{NoSuchVolume, OutOfRange}
use Rattle.mdv_components.specs.Bases.{volume_of}
use Rattle.mdv_config.specs.Slices.{IsSound}
use Rattle.mdv_growing_law.proofs.Going.{map_alone, of_geometry}
use Rattle.mdv_layout_law.specs.Laid.{takes_volumes}
use Rattle.mdv_layout_law.specs.Layout.{map_at, map_of}
use Rattle.mdv_map.specs.Maps.{IsDisjoint}
use Rattle.mdv_name.specs.declared.slice_lines.SliceLine.{SliceLine}
use Rattle.mdv_shelf.specs.Area.{range}
use Rattle.mdv_shown.proofs.Elsewhere.{in_range}
use Rattle.mdv_volumes.proofs.Tables.{blocks_plain, tables_lie}
use Rattle.mdv_volumes.specs.Tables.{AreLaid}
use Rattle.mdv_engine_law.proofs.Ready.{in_drive}
use Rattle.mdv_engine_law.proofs.Refusing.{opened_has}
use Rattle.mdv_engine_law.specs.Refusals.{blocks_refusal, held_past}
use Rattle.mdv_engine.specs.Below.{Geometry, Host, IsMapOf, IsOfGeometry, IsOn, IsReady, Map, Memory, Opened, Table, VolId}
use Rattle.mdv_engine.specs.Engine.{IsHeldBy, IsWell}

-- no volume of a table of drives is used by another one
map_is : (host : Host) (table : Table) (volume : VolId) → IsOfGeometry host.drives table → map_of host.drives table volume ≡ map_at host.drives table (volume_of table.plan volume)
map_is host table volume of = map_alone host.drives table volume (of_geometry host.drives table of)

-- a volume of a table of drives lies within the drives of a host that is ready
module _ (host : Host) (sound : IsSound host.drives) (table : Table) (of : IsOfGeometry host.drives table) (volume : VolId) (v : Map) (lies : IsMapOf host.drives table volume v) where
  laid : AreLaid host.drives table
  laid = tables_lie.laid host.drives table sound of

  apart : IsDisjoint v
  apart = laid.disjoint volume v lies

  on_drives : (sizes : List ℕ) → IsReady host sizes → IsOn sizes v
  on_drives sizes ready b drive block lt has =
      let plain = blocks_plain host.drives table laid volume v lies b drive block lt has in
      let found = Any-from_list_any (λ (line : SliceLine). takes_volumes host.drives line && range line.at.drive.0 line.at.start line.at.blocks drive block) host.drives.slices plain in
      let line : SliceLine = found.1 in
      let there = in_range line.at.drive.0 line.at.start line.at.blocks drive block (and_parts (takes_volumes host.drives line) (range line.at.drive.0 line.at.start line.at.blocks drive block) found.4).1 in
      let lies_in = in_drive host sizes ready line.name line.at (found.0, found.2, found.3) in
      let within = lies_in.within in
      subst (λ (d : ℕ). (d < length sizes) × (block < slice_index sizes d)) there.0 (lies_in.known, (let from = there.1 in let to = there.2 in omega (arith, within, from, to)))

-- a volume of the open table, as the table of drives tells it
module _ (host : Host) (memory : Memory) (well : IsWell host memory) (o : Opened) (opened : memory.opened ≡ Some o) (g : Geometry) (same : g ≡ host.drives) (table : Table) (table_is : table ≡ o.table) (volume : VolId) where
  of_host : IsOfGeometry host.drives table
  of_host = subst (IsOfGeometry host.drives) (sym table_is) (opened_has memory o (IsHeldBy host) opened well.database).of_geometry

  pub of_table : IsOfGeometry g table
  of_table = subst (λ (x : Geometry). IsOfGeometry x table) (sym same) of_host

  module _ (found : Option Map) (is : map_at g table (volume_of table.plan volume) ≡ found) where
    map_found : map_of host.drives table volume ≡ found
    map_found = map_is host table volume of_host ∙ subst (λ (x : Geometry). map_at x table (volume_of table.plan volume) ≡ found) same is

    map_open_is : map_of host.drives o.table volume ≡ found
    map_open_is = subst (λ (t : Table). map_of host.drives t volume ≡ found) table_is map_found

    -- what blocks up to that one are refused for, by what was found
    refusal_is : (end : ℕ) → blocks_refusal host memory.opened volume end ≡ first_refusal (held_past found end)
    refusal_is end = ap (λ (x : Option Opened). blocks_refusal host x volume end) opened ∙ ap (λ (m : Option Map). first_refusal (held_past m end)) map_open_is

    pub no_volume : (end : ℕ) → found ≡ None → blocks_refusal host memory.opened volume end ≡ Some NoSuchVolume
    no_volume end none = refusal_is end ∙ ap (λ (m : Option Map). first_refusal (held_past m end)) none

    module _ (v : Map) (some : found ≡ Some v) where
      pub past_its_end : (end : ℕ) → v.blocks < end → blocks_refusal host memory.opened volume end ≡ Some OutOfRange
      past_its_end end past = refusal_is end ∙ ap (λ (m : Option Map). first_refusal (held_past m end)) some ∙ ap (λ (b : Bool). first_refusal (where_so b OutOfRange)) (lt-ltb v.blocks end past)

      pub within_it : (end : ℕ) → end ≤ v.blocks → blocks_refusal host memory.opened volume end ≡ None
      within_it end less = refusal_is end ∙ ap (λ (m : Option Map). first_refusal (held_past m end)) some ∙ ap (λ (b : Bool). first_refusal (where_so b OutOfRange)) (le-ltb v.blocks end less)

      pub lies_so : IsMapOf host.drives o.table volume v
      lies_so = map_open_is ∙ some

      pub is_apart : IsSound host.drives → IsDisjoint v
      is_apart sound = apart host sound table of_host volume v (map_found ∙ some)

      pub lies_within : IsSound host.drives → (sizes : List ℕ) → IsReady host sizes → IsOn sizes v
      lies_within sound = on_drives host sound table of_host volume v (map_found ∙ some)
