-- A row that nothing refuses is one of the geometry.
use Rattle.std.proofs.Common.{◌≡◌, ℕ, zero, suc, ◌<◌, ◌≤◌, ◌^◌, ◌/◌, ◌*◌, ◌%◌, ◌-◌, ◌==◌, ◌++◌, ◌⊎◌, min, inl, inr, Bool, true, false, not, if◌then◌else◌, List, [], ◌∷◌, length, get_or, map, flat_map, replicate, Option, None, Some, refl, sym, ◌∙◌, ap, ap₂, subst, arith}
use Rattle.std.specs.Prelude.{All, sum_by}
use Rattle.std.specs.List.{fold, list_any}
use Rattle.std.proofs.lemmas.Bool.{cases_Bool, false≢true, or_parts}
use Rattle.std.proofs.lemmas.Bool.Decides.{nat_tests}
use Rattle.std.proofs.lemmas.List.{length-append, length-map}
use Rattle.std.proofs.lemmas.List.Concat.{flat_map-append}
use Rattle.std.proofs.lemmas.List.Elements.{All-map}
use Rattle.std.proofs.lemmas.List.Folds.{flat_map-map}
use Rattle.std.proofs.lemmas.List.Sums.{sum_by-cons}
use Rattle.std.proofs.lemmas.Nat.{div-add-mod'}
use Rattle.std.proofs.Math.Nat.{mul-mod_left}
use Rattle.mdv_components.proofs.Formed.{none_passes}
use Rattle.mdv_components.specs.Bases.{is_foreign, is_on, is_slice_in_use}
use Rattle.mdv_components.specs.Room.{behind_replicas, component_on, first_block, least_room, okay_part, room_at, room_of, start_at, start_of}
use Rattle.mdv_components.specs.Stripes.{all_bases, bases_of, is_bad_row, is_empty_row, is_too_small, row_blocks, row_interlace, row_on, used_blocks}
use Rattle.mdv_config.specs.Lists.{base_slices, part_slices, row_slices}
use Rattle.mdv_config.specs.Table.{IsPart, IsPartOn, IsRowOf, quiet_part, row_depth, width}
use Rattle.mdv_name.proofs.Finding.{slice_at-some}
use Rattle.mdv_plan.specs.Slices.{clashes, meets_db}
use Rattle.mdv_plan.specs.declared.clash.Asked.TheVariants.{OneComponent}
use Rattle.mdv_plan.specs.declared.plan.Plan.{Plan}
use Rattle.mdv_plan.specs.declared.status.PartStatus.{PartStatus}
use Rattle.mdv_plan.specs.declared.uses.SliceUse.{SliceUse}
use Rattle.mdv_plan.specs.declared.volume.Component.{Component}
use Rattle.mdv_keeping.specs.Below.{Base, DriveNo, Geometry, IsSound, RowAsked, Slice, SliceAt, SliceName, Volume, slice_at}
use Rattle.mdv_keeping.specs.Built.{IsSlice, is_db, is_db_at}

-- the least of some numbers is at most each of them
module _ {X : Type 0} (f : X → ℕ) where
  least_start : (a : ℕ) (xs : List X) → fold (λ least x. min least (f x)) a xs ≤ a
  least_start a [] = omega arith
  least_start a (x ∷ xs) = omega (arith, least_start (min a (f x)) xs)

  least_each : (a : ℕ) (xs : List X) (i : ℕ) (d : X) → i < length xs → fold (λ least x. min least (f x)) a xs ≤ f (get_or xs i d)
  least_each a [] i d within = absurd (omega arith)
  least_each a (x ∷ xs) zero d within = omega (arith, least_start (min a (f x)) xs)
  least_each a (x ∷ xs) (suc i) d within = least_each (min a (f x)) xs i d (omega arith)

used_most : (width interlace least : ℕ) → used_blocks width interlace least ≤ least
used_most width interlace least = by (width == 1) where
  by : (one : Bool) → (if one then least else (least / interlace) * interlace) ≤ least
  by true = omega arith
  by false = omega (arith, div-add-mod' least interlace)

used_units : (width interlace least : ℕ) → (width ≡ 1) ⊎ (used_blocks width interlace least % interlace ≡ 0)
used_units width interlace least = elim (cases_Bool (width == 1)) [
  | inl is ↦ let one : width ≡ 1 = grind (arith, nat_tests) in inl one
  | inr isnt ↦
      let used : used_blocks width interlace least ≡ (least / interlace) * interlace = ap (λ (b : Bool). if b then least else (least / interlace) * interlace) isnt in
      inr (ap (λ (n : ℕ). n % interlace) used ∙ mul-mod_left (least / interlace) interlace)
]

module _ (g : Geometry) (p : Plan) where
  -- the slices of a row are those that are asked for
  pub row_on_slices : (asked : RowAsked) → row_slices (row_on g p asked) ≡ flat_map base_slices asked.components
  row_on_slices asked = flat_map-map part_slices (component_on g p (row_blocks g p asked)) asked.components

  pub rows_on_slices : (rows : List RowAsked) → flat_map row_slices (map (row_on g p) rows) ≡ flat_map base_slices (all_bases rows)
  rows_on_slices [] = refl
  rows_on_slices (r ∷ rs) =
      ap₂ (λ (front behind : List SliceName). front ++ behind) (row_on_slices r) (rows_on_slices rs) ∙ sym (flat_map-append base_slices (bases_of r) (all_bases rs))

  pub rows_on_width : (rows : List RowAsked) → sum_by width (map (row_on g p) rows) ≡ length (all_bases rows)
  rows_on_width [] = refl
  rows_on_width (r ∷ rs) = omega (arith, sum_by-cons width (row_on g p r) (map (row_on g p) rs), length-map r.components (component_on g p (row_blocks g p r)), length-append (bases_of r) (all_bases rs), rows_on_width rs)

  first_depth : (asked : RowAsked) → is_empty_row asked ≡ false → row_depth (row_on g p asked) ≡ row_blocks g p asked
  first_depth asked some = by asked.components some where
    by : (cs : List Base) → (length cs == 0) ≡ false → row_depth (record { interlace = row_interlace asked; components = map (component_on g p (row_blocks g p asked)) cs }) ≡ row_blocks g p asked
    by [] is = absurd (false≢true (sym is))
    by (c ∷ cs) is = refl

-- each is noted as a component that nothing happened to
pub okay_parts : (bases : List Base) → map okay_part bases ≡ replicate (length bases) quiet_part
okay_parts [] = refl
okay_parts (b ∷ bs) = ap (λ (ps : List PartStatus). quiet_part ∷ ps) (okay_parts bs)

-- what refuses none of the bases of a row
pub record AreUsable (g : Geometry) (drives : List DriveNo) (uses : List SliceUse) (bases : List Base) : Type 0 where
  pub slices : All IsSlice bases
  pub plain : list_any (is_db g) bases ≡ false
  pub there : list_any (is_foreign g drives) bases ≡ false
  pub unused : list_any (is_slice_in_use g uses) bases ≡ false

module _ (g : Geometry) (sound : IsSound g) (drives : List DriveNo) (uses : List SliceUse) (p : Plan) where
  part_of : (depth blocks : ℕ) (base : Base) → depth ≡ blocks → blocks ≤ room_of g p base → IsSlice base → is_db g base ≡ false → is_foreign g drives base ≡ false → is_slice_in_use g uses base ≡ false → IsPartOn g depth (component_on g p blocks base) base
  part_of depth blocks (Volume volume) same room slice plain there unused = absurd slice
  part_of depth blocks (Slice slice) same room is plain there unused = by (slice_at g.slices slice) refl where
    by : (o : Option SliceAt) → slice_at g.slices slice ≡ o → IsPart g depth (component_on g p blocks (Slice slice)) slice
    by None none = absurd (false≢true (sym there ∙ ap (λ (o : Option SliceAt). not (is_on drives o)) none))
    by (Some at) found =
        let db : at.db ≡ false = ap is_db_at (sym found) ∙ plain in
        let first : first_block p.lists slice at ≡ 0 = ap (λ (b : Bool). if b then behind_replicas p.lists slice else 0) db in
        let start : start_of g p (Slice slice) ≡ 0 = ap (start_at p.lists slice) found ∙ first in
        let most : room_of g p (Slice slice) ≡ at.blocks - first_block p.lists slice at = ap (room_at p.lists slice) found in
        record {
          at = at;
          has = (slice_at-some g slice at sound).0 found;
          lies = record { plain = db; start = start; blocks_are = sym same; within = omega (arith, same, room, most, first) };
          clear = (or_parts (clashes g OneComponent slice uses) (meets_db g slice) unused).1;
        }

  pub row_of : (asked : RowAsked) → AreUsable g drives uses asked.components → is_empty_row asked ≡ false → is_bad_row asked ≡ false → is_too_small g p asked ≡ false → IsRowOf g (row_on g p asked)
  row_of asked usable some fine room =
      let interlace = row_interlace asked in
      let bases = asked.components in
      let blocks = row_blocks g p asked in
      let least = least_room g p bases in
      let depth : row_depth (row_on g p asked) ≡ blocks = first_depth g p asked some in
      let used : blocks ≤ least = used_most (length bases) interlace least in
      let least_interlace : 16 ≤ interlace = grind (arith, nat_tests) in
      let most_interlace : interlace ≤ 204800 = grind (arith, nat_tests) in
      let more : 0 < blocks = grind (arith, nat_tests) in
      let wide : width (row_on g p asked) ≡ length bases = length-map bases (component_on g p blocks) in
      record {
        least = least_interlace;
        most = most_interlace;
        some = subst (λ (n : ℕ). 0 < n) (sym depth) more;
        units = elim (used_units (length bases) interlace least) [
          | inl one ↦ inl (wide ∙ one)
          | inr whole ↦ inr (ap (λ (n : ℕ). n % interlace) depth ∙ whole)
        ];
        each = All-map (λ (c : Component). IsPartOn g (row_depth (row_on g p asked)) c c.on) (component_on g p blocks) bases (λ k d within.
            let base = get_or bases k d in
            part_of (row_depth (row_on g p asked)) blocks base depth (omega (arith, used, least_each (room_of g p) (2 ^ 63) bases k d within)) (usable.slices k d within)
            (none_passes (is_db g) bases usable.plain k d within) (none_passes (is_foreign g drives) bases usable.there k d within) (none_passes (is_slice_in_use g uses) bases usable.unused k d within));
      }
