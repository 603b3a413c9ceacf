-- What each line adds to the table of drives, and what a whole text reads as.
use Rattle.std.specs.Prelude.{◌≡◌, ◌<◌, ◌≤◌, ◌+◌, ◌⊎◌, ℕ, Bool, false, IsTrue, Some, List, [], ◌∷◌}
use Rattle.std.specs.Prelude.{◌++◌, ◌==◌, length, slice_get, sum_by, Contains}
use Rattle.std.specs.Bool.{MatchBool}
use Rattle.mdv_text.specs.Words.{words}
use Rattle.mdv_name.specs.declared.drive_line.DriveLine.{DriveLine}
use Rattle.mdv_name.specs.declared.drive_line.DriveKind.{DriveKind}
use Rattle.mdv_name.specs.declared.drive_line.DriveKind.TheVariants.{Own, Shared, Mediator}
use Rattle.mdv_name.specs.declared.entry.Entry.{Entry}
use Rattle.mdv_name.specs.declared.entry.Entry.TheVariants.{Host, Drive, Slice}
use Rattle.mdv_name.specs.declared.entry.SliceEntry.{SliceEntry}
use Rattle.mdv_name.specs.declared.geometry.Geometry.{Geometry}
use Rattle.mdv_name.specs.declared.geometry.GeometryFault.{GeometryFault}
use Rattle.mdv_name.specs.declared.geometry.GeometryFault.TheVariants.{BadLine, Memory}
use Rattle.mdv_name.specs.declared.slice_lines.SliceLine.{SliceLine}
use Rattle.mdv_name.specs.DriveIndex.{HasNoDrive, drive_of, mediator_hosts}
use Rattle.mdv_name.specs.Entry.{IsEntry, entry_words}
use Rattle.mdv_name.specs.Lines.{lines, content}
use Rattle.mdv_name.specs.SliceIndex.{HasNoSlice}

abbrev pub empty : Geometry
empty = record { hosts = []; drives = []; slices = [] }

-- hosts are named above, and a drive and a mediator's store once
abbrev pub IsFreshKind : Geometry → DriveKind → Type 0
IsFreshKind g (Own drive host) = Contains g.hosts host × HasNoDrive g.drives drive
IsFreshKind g (Shared drive) = HasNoDrive g.drives drive
IsFreshKind g (Mediator host) = Contains g.hosts host × (Contains (mediator_hosts g.drives) host → ⊥)

abbrev pub slice_line : SliceEntry → ℕ → SliceLine
slice_line s n =
    record {
      name = s.name;
      at = record { drive = record { 0 = n }; start = s.start; blocks = s.blocks; db = s.db };
    }

-- the slice ends within its drive, the n-th, which is named above, and is named once
pub record IsFreshSlice (g : Geometry) (s : SliceEntry) (n : ℕ) : Type 0 where
  pub line : DriveLine
  pub place : slice_get g.drives n ≡ Some line
  pub named : drive_of line.kind ≡ Some s.name.drive
  pub within : s.start + s.blocks ≤ line.blocks
  pub fresh : HasNoSlice g.slices s.name

-- the table with one line more
abbrev pub Adds : Geometry → Entry → Geometry → Type 0
Adds g (Host name) h = (Contains g.hosts name → ⊥) × (h ≡ record g { hosts = g.hosts ++ name ∷ [] })
Adds g (Drive d) h = (length g.drives < 256) × IsFreshKind g d.kind × (h ≡ record g { drives = g.drives ++ d ∷ [] })
Adds g (Slice s) h = (n : ℕ) × IsFreshSlice g s n × (h ≡ record g { slices = g.slices ++ slice_line s n ∷ [] })

-- whether the line may stand here: then the table has it, and else no table follows
abbrev pub AnswersAdd : Geometry → Entry → Geometry → Bool → Type 0
AnswersAdd g e h b = MatchBool b (Adds g e h) ((k : Geometry) → Adds g e k → ⊥)

abbrev pub begins_with_hash : List ℕ → Bool
begins_with_hash [] = false
begins_with_hash (b ∷ bs) = b == 35

-- blank lines and lines that begin with `#`
abbrev pub CountsForNothing : List ℕ → Type 0
CountsForNothing line = IsTrue (begins_with_hash line) ⊎ (words (content line) ≡ [])

-- a line that counts adds what its words spell
abbrev pub AddsLine : Geometry → List ℕ → Geometry → Type 0
AddsLine g line h = (CountsForNothing line × (h ≡ g)) ⊎ ((e : Entry) × IsEntry e × (words (content line) ≡ entry_words e) × Adds g e h)

abbrev pub AnswersLine : Geometry → List ℕ → Geometry → Bool → Type 0
AnswersLine g line h b = MatchBool b (AddsLine g line h) ((k : Geometry) → AddsLine g line k → ⊥)

-- line after line
abbrev pub ReadsLines : Geometry → List (List ℕ) → Geometry → Type 0
ReadsLines g [] h = h ≡ g
ReadsLines g (l ∷ ls) h = (m : Geometry) × AddsLine g l m × ReadsLines m ls h

-- a text of at most 65,536 bytes, each line of which adds to those above
pub record IsGeometry (text : List ℕ) (g : Geometry) : Type 0 where
  pub short : length text ≤ 65536
  pub read : ReadsLines empty (lines text) g

-- the n-th line, from 1, adds nothing to the lines in front, or ends past the limit
pub record IsBadLine (text : List ℕ) (n : ℕ) : Type 0 where
  pub front : List (List ℕ)
  pub line : List ℕ
  pub behind : List (List ℕ)
  pub place : lines text ≡ front ++ line ∷ behind
  pub number : n ≡ length front + 1
  pub short : sum_by length front ≤ 65536
  pub geometry : Geometry
  pub read : ReadsLines empty front geometry
  pub bad : (65536 < sum_by length front + length line) ⊎ ((h : Geometry) → AddsLine geometry line h → ⊥)

abbrev pub IsFaultOf : List ℕ → GeometryFault → Type 0
IsFaultOf text (BadLine n) = IsBadLine text n
IsFaultOf text Memory = Unit {0}
