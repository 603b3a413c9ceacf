-- The same while a database is created.
use Rattle.std.specs.Prelude.{◌≡◌, ℕ, ◌+◌, ◌*◌, ◌<◌, ◌≤◌, false, List, [], ◌∷◌, Option, Some, None, IsTrue}
use Rattle.mdv_store_law.specs.Log.{IsEmpty}
use Rattle.mdv_standing.specs.Below.{Everywhere, FirstIs, Formats, Geometry, HasFirst, Head, Identity, IsFormat, IsInChain, Leaves, Lists, Log, Master, MayFormat, Reads, Site, SliceLine, Spot, Table, Tale, is_in, is_named, is_none, master_on, place_on, spot_on}
use Rattle.mdv_standing.specs.Creating.{AreAllPlaced, IsCreating, first_mark, issued_log}
use Rattle.mdv_standing.specs.Laws.{HasNone}
use Rattle.mdv_standing.specs.Matching.{spots_of}
use Rattle.mdv_standing.specs.Standing.{Covers, CoversWith}
use Rattle.mdv_standing.specs.Turning.{Begins}

-- A creation with these lists has formatted just these places, whatever a crash leaves.
pub record IsForming (Spells : List ℕ → Table → Type 0) (site : Site) (identity : Identity) (log : Log) (t : Tale) (lists : Lists) (done : List Spot) : Type 0 where
  pub issued : log.issued ≡ Some identity
  pub empty : log.family ≡ []
  pub each : CoversWith Spells site identity (λ image w. IsCreating (spots_of site lists) done w) log t

-- Place number k of a slice is to be formatted, with so many blocks: one of the lists, behind those that were formatted on that slice.
pub record IsToFormat (site : Site) (identity : Identity) (t : Tale) (line : SliceLine) (blocks count k : ℕ) (lists : Lists) (done : List Spot) : Type 0 where
  pub format : Everywhere (λ image. IsFormat site identity image line blocks count k 1) t
  pub named : IsTrue (is_named (spots_of site lists) (spot_on line blocks k))
  pub before : (q : Spot) → IsTrue (is_in done q) → q.drive.0 ≡ line.at.drive.0 → line.at.start ≤ q.first → q.first < line.at.start + line.at.blocks → q.first < line.at.start + (16 + k * blocks)

-- the places before it on the slice are readable
pub record IsBehind (Spells : List ℕ → Table → Type 0) (site : Site) (t : Tale) (line : SliceLine) (k : ℕ) (first : Master) : Type 0 where
  pub later : 0 < k
  pub has : Everywhere (λ image. HasFirst site image line first) t
  pub chain : Everywhere (λ image. (j : ℕ) → j < k → (h : Head) × IsInChain Spells site line j (image line.at.drive.0) first h) t

pub record CreationsTurn : Type 0 where
  pub begins : (read : List ℕ → Option Table) (site : Site) (identity : Identity) (t : Tale) (lists : Lists) → Everywhere (λ image. HasNone (Reads read) site identity image) t
      → IsForming (Reads read) site identity (issued_log identity) t lists []
  -- while the first place of a slice is formatted, and once it is
  pub first_formatting : (read : List ℕ → Option Table) (site : Site) (identity : Identity) (log : Log) (t m : Tale) (line : SliceLine) (blocks count : ℕ) (before : Option Master) (lists : Lists) (done : List Spot)
      → IsToFormat site identity t line blocks count 0 lists done → Everywhere (λ image. FirstIs site image line before) t → IsForming (Reads read) site identity log t lists done
      → Leaves (MayFormat (place_on line blocks count 0) (master_on site identity line blocks count 0) 1) t m → Covers (Reads read) site identity log m
  pub first_formatted : (read : List ℕ → Option Table) (site : Site) (identity : Identity) (log : Log) (t m : Tale) (line : SliceLine) (blocks count : ℕ) (before : Option Master) (lists : Lists) (done : List Spot)
      → IsToFormat site identity t line blocks count 0 lists done → Everywhere (λ image. FirstIs site image line before) t → IsForming (Reads read) site identity log t lists done
      → Leaves (Formats (place_on line blocks count 0) (master_on site identity line blocks count 0) 1) t m → IsForming (Reads read) site identity log m lists (spot_on line blocks 0 ∷ done)
  -- so with a later one
  pub later_formatting : (read : List ℕ → Option Table) (site : Site) (identity : Identity) (log : Log) (t m : Tale) (line : SliceLine) (k : ℕ) (first : Master) (lists : Lists) (done : List Spot)
      → IsToFormat site identity t line first.blocks first.count k lists done → IsBehind (Reads read) site t line k first → IsForming (Reads read) site identity log t lists done
      → Leaves (MayFormat (place_on line first.blocks first.count k) (master_on site identity line first.blocks first.count k) 1) t m → Covers (Reads read) site identity log m
  pub later_formatted : (read : List ℕ → Option Table) (site : Site) (identity : Identity) (log : Log) (t m : Tale) (line : SliceLine) (k : ℕ) (first : Master) (lists : Lists) (done : List Spot)
      → IsToFormat site identity t line first.blocks first.count k lists done → IsBehind (Reads read) site t line k first → IsForming (Reads read) site identity log t lists done
      → Leaves (Formats (place_on line first.blocks first.count k) (master_on site identity line first.blocks first.count k) 1) t m → IsForming (Reads read) site identity log m lists (spot_on line first.blocks k ∷ done)
  -- once each place of the first table was formatted it begins to be written, which has one list of places and nothing else
  pub writes : (read : List ℕ → Option Table) (g : Geometry) (site : Site) (identity : Identity) (log : Log) (t : Tale) (p : Spot) (table : Table) (done : List Spot) → IsEmpty table → is_none (spots_of site table.plan.lists).first ≡ false
      → IsTrue (is_in done p) → IsTrue (is_named (spots_of site table.plan.lists) p) → Everywhere (AreAllPlaced (Reads read) site identity table.plan.lists) t → IsForming (Reads read) site identity log t table.plan.lists done
      → Begins (Reads read) g site identity false log t first_mark None table
