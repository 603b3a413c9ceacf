-- The texts of lists of places, of a set's data and of pending sets.
use Rattle.std.specs.Prelude.{◌≡◌, ◌<◌, ◌-◌, ◌%◌, ◌^◌, ◌==◌, ◌&&◌, ◌||◌, ℕ, Bool, not, nat_le, List, ◌∷◌, ◌++◌, AllPairs}
use Rattle.std.specs.List.{list_all}
use Rattle.std.specs.Cmp.Lexicographic.{slice_cmp}
use Rattle.std.specs.Ordering.{nat_cmp}
use Rattle.std.specs.declared.cmp.Ordering.TheVariants.{Less}
use Rattle.mdv_base.specs.Name.{IsName}
use Rattle.mdv_name.specs.Code.{drive_code}
use Rattle.mdv_plan.specs.Uses.{same_slice}
use Rattle.mdv_fields.specs.Below.{DriveName, Place, Mediator, SetData, Pending, Lists, One, Two}
use Rattle.mdv_fields.specs.Names.{drive_text, DriveFits, name_text, owner_text, OwnerFits}
use Rattle.mdv_fields.specs.Numbers.{u32_text}
use Rattle.mdv_fields.specs.Parts.{place_text, PlaceFits}
use Rattle.mdv_fields.specs.Reading.{ShortFits, short_text, LongFits, long_text}

abbrev pub places_text : List Place → List ℕ
places_text ps = short_text place_text ps

abbrev pub PlacesFit : List Place → Type 0
PlacesFit ps = ShortFits PlaceFits 50 ps

-- how many lists, and each
abbrev pub lists_text : Lists → List ℕ
lists_text (One ps) = 1 ∷ places_text ps
lists_text (Two ps qs) = 2 ∷ (places_text ps ++ places_text qs)

abbrev pub ListsFit : Lists → Type 0
ListsFit (One ps) = PlacesFit ps
ListsFit (Two ps qs) = PlacesFit ps × PlacesFit qs

-- It starts at 16 + k * b for some k, where it has b blocks.
abbrev pub starts_well : Place → Bool
starts_well p = not (p.blocks == 0) && (nat_le 16 p.start && ((p.start - 16) % p.blocks == 0))

-- places of one slice have one number of blocks
abbrev pub agrees : Place → Place → Bool
agrees p q = not (same_slice p.slice q.slice) || (p.blocks == q.blocks)

abbrev pub is_spaced : List Place → Place → Bool
is_spaced all p = starts_well p && list_all (agrees p) all

-- So all places of a slice, in one list or in both, are equal or apart.
abbrev pub are_spaced : Lists → Bool
are_spaced (One ps) = list_all (is_spaced ps) ps
are_spaced (Two ps qs) = list_all (is_spaced ps) ps && (list_all (is_spaced ps) qs && list_all (is_spaced qs) qs)

abbrev pub mediator_text : Mediator → List ℕ
mediator_text m = name_text m.host ++ u32_text m.block

abbrev pub MediatorFits : Mediator → Type 0
MediatorFits m = IsName m.host × (m.block < 256 ^ 4)

-- by controller, target and disk
abbrev pub IsBehindDrive : DriveName → DriveName → Type 0
IsBehindDrive d e = drive_code d < drive_code e

-- owner, hosts, drives and mediators
unfoldable pub set_text : SetData → List ℕ
set_text s = owner_text s.owner ++ (short_text name_text s.hosts ++ (long_text drive_text s.drives ++ short_text mediator_text s.mediators))

pub record SetFits (s : SetData) : Type 0 where
  pub owner : OwnerFits s.owner
  pub hosts : ShortFits IsName 8 s.hosts
  pub drives : LongFits DriveFits 48 s.drives
  pub ascending : AllPairs IsBehindDrive s.drives
  pub mediators : ShortFits MediatorFits 3 s.mediators

-- name and hosts
abbrev pub pending_text : Pending → List ℕ
pending_text p = name_text p.set ++ short_text name_text p.hosts

abbrev pub PendingFits : Pending → Type 0
PendingFits p = IsName p.set × ShortFits IsName 8 p.hosts

-- by the bytes of the names
abbrev pub IsBehindPending : Pending → Pending → Type 0
IsBehindPending p q = slice_cmp nat_cmp p.set q.set ≡ Less
