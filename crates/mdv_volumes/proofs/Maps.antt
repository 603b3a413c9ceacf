-- The maps of a table's volumes, and which volumes of its list have them.
use Rattle.std.proofs.Common.{◌≡◌, inl, inr, ℕ, ◌+◌, ◌<◌, ◌==◌, Bool, true, false, if◌then◌else◌, List, [], ◌∷◌, find, Contains, Option, Some, None, refl, sym, ◌∙◌, ap, subst, arith}
use Rattle.std.proofs.lemmas.Bool.{false≢true}
use Rattle.std.proofs.lemmas.Bool.Decides.{nat_tests}
use Rattle.std.proofs.lemmas.Option.{none-some, same_Some}
use Rattle.mdv_layout_law.proofs.Lists.{Found, find_found}
use Rattle.mdv_layout_law.specs.Layout.{kind_map, map_at}
use Rattle.mdv_map.proofs.Covering.{areas_cover}
use Rattle.mdv_shelf.proofs.Blocks.{both_ways}
use Rattle.mdv_volumes.specs.Below.{Geometry, HasDriveBlock, Map, Plan, Table, VolId, Volume, area_of_map, has_parent, volume_of}
use Rattle.mdv_volumes.specs.Tables.{IsMapOf}
use Rattle.mdv_volumes.proofs.Lists.{first_or_behind}

-- a volume has one map
pub same_map : (g : Geometry) (table : Table) (volume : VolId) (v w : Map) → IsMapOf g table volume v → IsMapOf g table volume w → v ≡ w
same_map g table volume v w one other = same_Some v w (sym one ∙ other)

-- a block of the drive that belongs to one of its blocks is in the map's area
pub in_area : (v : Map) (b drive block : ℕ) → b < v.blocks → HasDriveBlock (v.places b) drive block → area_of_map v drive block ≡ true
in_area v b drive block lt has = elim (both_ways (area_of_map v drive block)) [
  | inl does ↦ does
  | inr never ↦
      let first : b ≡ 0 + b = omega arith in
      absurd (areas_cover.outside v 0 v.blocks drive block (omega arith) never b lt (subst (λ (k : ℕ). HasDriveBlock (v.places k) drive block) first has))
]

-- the volume of the number, which no other one uses, and its map by what it is made of
pub record FoundAs (g : Geometry) (table : Table) (volume : VolId) (v : Map) : Type 0 where
  pub of : Volume
  pub found : volume_of table.plan volume ≡ Some of
  pub kind : kind_map g table of.kind ≡ Some v

pub found_as : (g : Geometry) (table : Table) (volume : VolId) (v : Map) → IsMapOf g table volume v → FoundAs g table volume v
found_as g table volume v map = by (has_parent table.plan volume) (volume_of table.plan volume) refl map where
  by : (used : Bool) (o : Option Volume) → volume_of table.plan volume ≡ o → (if used then None else map_at g table o) ≡ Some v → FoundAs g table volume v
  by true o is map = absurd (none-some v map)
  by false None is map = absurd (none-some v map)
  by false (Some of) is map = record { of = of; found = is; kind = map }

-- a number that passes the test is the one
pub number_is : (a b : VolId) → a.0 == b.0 ≡ true → a ≡ b
number_is a b is = let same : a.0 ≡ b.0 = grind (arith, nat_tests) in ap (λ (n : ℕ). record { 0 = n }) same

number_itself : (n : ℕ) → n == n ≡ true
number_itself n = grind (arith, nat_tests)

pub number_differs : (a b : VolId) → a.0 == b.0 ≡ false → a ≡ b → ⊥
number_differs a b differs same = false≢true (sym differs ∙ ap (λ (v : VolId). v.0 == b.0) same ∙ number_itself b.0)

-- the volume that is found is one of the list
pub found_has : (p : Plan) (volume : VolId) (of : Volume) → volume_of p volume ≡ Some of → Contains p.volumes of × (of.number ≡ volume)
found_has p volume of found =
    let is = find_found (λ (w : Volume). w.number.0 == volume.0) p.volumes of found in
    ((is.at, is.within, is.is), number_is of.number volume is.passes)

-- and one of the list's numbers is found
pub some_found : (volumes : List Volume) (of : Volume) → Contains volumes of → (x : Volume) × (find (λ (w : Volume). w.number.0 == of.number.0) volumes ≡ Some x) × Found (λ (w : Volume). w.number.0 == of.number.0) volumes x
some_found volumes of has = let found = some_found_in volumes has in (found.0, found.1, find_found (λ (w : Volume). w.number.0 == of.number.0) volumes found.0 found.1) where
  never : (b : Bool) → b ≡ true → b ≡ false → ⊥
  never b is is_not = cc (is, is_not)

  some_found_in : (ws : List Volume) → Contains ws of → (x : Volume) × (find (λ (w : Volume). w.number.0 == of.number.0) ws ≡ Some x)
  some_found_in [] has = absurd (omega (arith, has.1))
  some_found_in (y ∷ ys) has = by (λ behind. some_found_in ys behind) (y.number.0 == of.number.0) refl where
    by : (Contains ys of → (x : Volume) × (find (λ (w : Volume). w.number.0 == of.number.0) ys ≡ Some x)) → (same : Bool) → y.number.0 == of.number.0 ≡ same → (x : Volume) × (find (λ (w : Volume). w.number.0 == of.number.0) (y ∷ ys) ≡ Some x)
    by later true is = (y, rw is refl)
    by later false is = elim (first_or_behind y of ys has) [
      | inl here ↦ absurd (never (y.number.0 == of.number.0) (ap (λ (w : Volume). w.number.0 == of.number.0) here ∙ number_itself of.number.0) is)
      | inr behind ↦ let rest = later behind in (rest.0, rw is rest.1)
    ]
