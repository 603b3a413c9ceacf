-- How a database's worlds and its log go on while it is created.
use Rattle.std.specs.Prelude.{◌≡◌, ◌⊎◌, ℕ, ◌+◌, ◌*◌, ◌<◌, ◌≤◌, true, false, List, [], ◌∷◌, Option, Some, None, Contains, IsTrue}
use Rattle.mdv_store_law.specs.Log.{IsEmpty, IsNotOver, Issued, empty_log}
use Rattle.mdv_standing.specs.Below.{Core, Creating, FamilyTable, FirstIs, Formatted, Formats, Geometry, HasFirst, Head, Identity, Image, IsFormat, IsInChain, LeftClosed, Lists, Log, Mark, Master, MayFormat, MayHappen, NextLists, Place, Reads, Site, SliceLine, Slotted, Spot, SpotLists, Table, WritesLog, is_in, is_named, is_none, log_after, master_on, place_at, place_on, spot_on, start}
use Rattle.mdv_config.specs.Lists.{places_of}
use Rattle.mdv_standing.specs.Laws.{HasNone}
use Rattle.mdv_standing.specs.Listed.{HasPlace}
use Rattle.mdv_standing.specs.Matching.{is_set, spots_of}
use Rattle.mdv_standing.specs.Worlds.{IsNoneOr, IsTaking, IsWorld, Turned}

abbrev pub first_mark : Mark
first_mark = record { boot = 1; count = 0 }

-- The first table is in hand, with these lists; just these places were formatted.
pub record IsCreating (lists : SpotLists) (done : List Spot) (w : Core) : Type 0 where
  pub next : FamilyTable
  pub stage : w.stage ≡ Creating next
  pub marked : next.mark ≡ first_mark
  pub lists_are : next.lists ≡ lists
  pub kind : next.by_majority ≡ false
  pub number : ℕ
  pub plan : next.plan ≡ number ∷ []
  pub issued : number < w.changes
  pub held : (q : Spot) → (place_at w.places q).holds ≡ true → is_in done q ≡ true
  pub there : (q : Spot) → is_in done q ≡ true → (place_at w.places q).holds ≡ true

-- the log of a creation that was issued
abbrev pub issued_log : Identity → Log
issued_log identity = log_after empty_log (Issued identity)

-- A creation has come so far.
pub record IsCreation (Spells : List ℕ → Table → Type 0) (site : Site) (identity : Identity) (log : Log) (w : Core) (image : Image) (lists : Lists) (done : List Spot) : Type 0 where
  pub world : IsWorld Spells site identity log w image
  pub empty : log.family ≡ []
  pub known : IsCreating (spots_of site lists) done w

-- Place number k of a slice is to be formatted, with so many blocks. None of those that were formatted on the slice lies there or behind it.
pub record IsFormatting (Spells : List ℕ → Table → Type 0) (site : Site) (identity : Identity) (log : Log) (w : Core) (old : Image) (line : SliceLine) (blocks count k : ℕ) (lists : Lists) (done : List Spot) : Type 0 where
  pub creation : IsCreation Spells site identity log w old lists done
  pub format : IsFormat site identity old line blocks count k 1
  pub named : IsTrue (is_named (spots_of site lists) (spot_on line blocks k))
  pub before : (q : Spot) → IsTrue (is_in done q) → q.drive.0 ≡ line.at.drive.0 → line.at.start ≤ q.first → q.first < line.at.start + line.at.blocks → q.first < line.at.start + (16 + k * blocks)

-- each place of the lists has a replica of the database
abbrev pub AreAllPlaced : (List ℕ → Table → Type 0) → Site → Identity → Lists → Image → Type 0
AreAllPlaced Spells site identity lists image = (place : Place) → Contains (places_of lists) place → HasPlace Spells site identity image place

-- as before, or with this place formatted
abbrev pub MayBeFormatted : SpotLists → Spot → List Spot → Core → Type 0
MayBeFormatted lists p done w = IsCreating lists done w ⊎ IsCreating lists (p ∷ done) w

pub record CreationsGo : Type 0 where
  -- where no replica of the database is found, its first table may be in hand
  pub begins : (read : List ℕ → Option Table) (site : Site) (identity : Identity) (image : Image) (lists : Lists) → HasNone (Reads read) site identity image
      → Turned (Reads read) site identity (issued_log identity) (start (is_set site.key)) image (λ es. es ≡ NextLists (spots_of site lists) ∷ []) (IsCreating (spots_of site lists) [])
  -- while the first place of a slice is formatted, whatever its old first master led to
  pub first_formatting : (read : List ℕ → Option Table) (site : Site) (identity : Identity) (log : Log) (w : Core) (old new : Image) (line : SliceLine) (blocks count : ℕ) (before : Option Master) (lists : Lists) (done : List Spot)
      → IsFormatting (Reads read) site identity log w old line blocks count 0 lists done → FirstIs site old line before → MayFormat (place_on line blocks count 0) (master_on site identity line blocks count 0) 1 old new
      → Turned (Reads read) site identity log w new (IsNoneOr (Formatted (spot_on line blocks 0))) (MayBeFormatted (spots_of site lists) (spot_on line blocks 0) done)
  -- once it is
  pub first_formatted : (read : List ℕ → Option Table) (site : Site) (identity : Identity) (log : Log) (w : Core) (old new : Image) (line : SliceLine) (blocks count : ℕ) (before : Option Master) (lists : Lists) (done : List Spot)
      → IsFormatting (Reads read) site identity log w old line blocks count 0 lists done → FirstIs site old line before → Formats (place_on line blocks count 0) (master_on site identity line blocks count 0) 1 old new
      → Turned (Reads read) site identity log w new (λ es. es ≡ Formatted (spot_on line blocks 0) ∷ []) (IsCreating (spots_of site lists) (spot_on line blocks 0 ∷ done))
  -- so with a later place, behind readable ones
  pub later_formatting : (read : List ℕ → Option Table) (site : Site) (identity : Identity) (log : Log) (w : Core) (old new : Image) (line : SliceLine) (k : ℕ) (first : Master) (lists : Lists) (done : List Spot)
      → 0 < k → IsFormatting (Reads read) site identity log w old line first.blocks first.count k lists done → HasFirst site old line first
      → ((j : ℕ) → j < k → (h : Head) × IsInChain (Reads read) site line j (old line.at.drive.0) first h) → MayFormat (place_on line first.blocks first.count k) (master_on site identity line first.blocks first.count k) 1 old new
      → Turned (Reads read) site identity log w new (IsNoneOr (Formatted (spot_on line first.blocks k))) (MayBeFormatted (spots_of site lists) (spot_on line first.blocks k) done)
  pub later_formatted : (read : List ℕ → Option Table) (site : Site) (identity : Identity) (log : Log) (w : Core) (old new : Image) (line : SliceLine) (k : ℕ) (first : Master) (lists : Lists) (done : List Spot)
      → 0 < k → IsFormatting (Reads read) site identity log w old line first.blocks first.count k lists done → HasFirst site old line first
      → ((j : ℕ) → j < k → (h : Head) × IsInChain (Reads read) site line j (old line.at.drive.0) first h) → Formats (place_on line first.blocks first.count k) (master_on site identity line first.blocks first.count k) 1 old new
      → Turned (Reads read) site identity log w new (λ es. es ≡ Formatted (spot_on line first.blocks k) ∷ []) (IsCreating (spots_of site lists) (spot_on line first.blocks k ∷ done))
  -- once each of its places was formatted the first table may be written, which has one list of places and nothing else
  pub may : (g : Geometry) (identity : Identity) (log : Log) (table : Table) → log.issued ≡ Some identity → log.family ≡ [] → IsNotOver log.fate → IsEmpty table → MayHappen g log (WritesLog first_mark None [] table)
  -- and so it begins to be; from then on slots take it, and it is answered
  pub writes : (read : List ℕ → Option Table) (site : Site) (identity : Identity) (log : Log) (w : Core) (image : Image) (p : Spot) (table : Table) (done : List Spot)
      → IsCreation (Reads read) site identity log w image table.plan.lists done → is_none (spots_of site table.plan.lists).first ≡ false → IsTrue (is_in done p) → IsTrue (is_named (spots_of site table.plan.lists) p)
      → AreAllPlaced (Reads read) site identity table.plan.lists image
      → Turned (Reads read) site identity (log_after log (WritesLog first_mark None [] table)) w image (λ es. es ≡ Slotted p LeftClosed ∷ []) (IsTaking false first_mark [])
