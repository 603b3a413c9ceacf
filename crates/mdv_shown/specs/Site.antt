-- Where a boot looks for replicas of a database.
use Rattle.std.specs.Prelude.{◌≡◌, ◌⊎◌, ℕ, ◌+◌, ◌-◌, ◌*◌, ◌≤◌, false, Contains, slice_index_or}
use Rattle.std.specs.List.{list_any}
use Rattle.mdv_shown.specs.Below.{SliceLine, PlaceAt, Spot, Area, AreApart, range}
pub use Rattle.mdv_shown.specs.declared.site.Site.{Site}

abbrev pub size_on : Site → SliceLine → ℕ
size_on site line = slice_index_or site.sizes line.at.drive.0 0

-- the place of the replica of this number, where each one of the slice has so many blocks and there are so many of them
abbrev pub place_on : SliceLine → ℕ → ℕ → ℕ → PlaceAt
place_on line blocks count k = record {
  place = record { slice = line.name; start = 16 + k * blocks; blocks = blocks };
  drive = line.at.drive;
  first = line.at.start + (16 + k * blocks);
  index = k;
  count = count;
}

abbrev pub spot_on : SliceLine → ℕ → ℕ → Spot
spot_on line blocks k = record { drive = line.at.drive; first = line.at.start + (16 + k * blocks); mediator = false }

-- the blocks of a slice
abbrev pub line_area : SliceLine → Area
line_area line = range line.at.drive.0 line.at.start line.at.blocks

-- the blocks of its slices from the first master on: what is found there rests on these alone
abbrev pub site_area : Site → Area
site_area site drive block = list_any (λ (line : SliceLine). range line.at.drive.0 (line.at.start + 16) (line.at.blocks - 16) drive block) site.lines

-- no two of the slices share a block, and each has the block where the first replica's master lies
pub record IsSite (site : Site) : Type 0 where
  pub apart : (a b : SliceLine) → Contains site.lines a → Contains site.lines b → (a ≡ b) ⊎ AreApart (line_area a) (line_area b)
  pub long : (line : SliceLine) → Contains site.lines line → 17 ≤ line.at.blocks
