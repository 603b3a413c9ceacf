-- What is read as a table of drives has names, sizes and slices in range.
use Rattle.std.proofs.Common.{◌≡◌, inl, inr, ◌<◌, ◌≤◌, ◌+◌, ℕ, zero, suc, sym, subst, List, [], ◌∷◌, ◌++◌, Some, length, arith}
use Rattle.std.proofs.lemmas.List.{length_push}
use Rattle.std.proofs.lemmas.List.Elements.{All-get_or, All-nil, All-push}
use Rattle.std.proofs.lemmas.Option.{get_or_from_slice_get, slice_get_within}
use Rattle.std.specs.Prelude.{All, slice_get}
use Rattle.mdv_name.specs.declared.drive_line.DriveKind.{DriveKind}
use Rattle.mdv_name.specs.declared.drive_line.DriveKind.TheVariants.{Own, Shared, Mediator}
use Rattle.mdv_name.specs.declared.drive_line.DriveLine.{DriveLine}
use Rattle.mdv_name.specs.declared.entry.Entry.{Entry}
use Rattle.mdv_name.specs.declared.entry.Entry.TheVariants.{Host, Drive, Slice}
use Rattle.mdv_name.specs.declared.entry.SliceEntry.{SliceEntry}
use Rattle.mdv_name.specs.declared.geometry.Geometry.{Geometry}
use Rattle.mdv_name.specs.declared.slice_lines.SliceLine.{SliceLine}
use Rattle.mdv_name.specs.Drive.{IsSliceName}
use Rattle.mdv_name.specs.Entry.{IsEntry, IsHostName, IsDriveLine, IsSliceEntry, least_blocks}
use Rattle.mdv_name.specs.Geometry.{empty, Adds, AddsLine, ReadsLines, IsFreshSlice, slice_line, IsGeometry}
use Rattle.mdv_name.specs.Lines.{lines}

-- a slice lies within the drive of its number
pub record LiesOn (drives : List DriveLine) (line : SliceLine) : Type 0 where
  pub drive : DriveLine
  pub place : slice_get drives line.at.drive.0 ≡ Some drive
  pub within : line.at.start + line.at.blocks ≤ drive.blocks
  pub form : IsSliceName line.name
  pub some : 0 < line.at.blocks

pub record IsRead (table : Geometry) : Type 0 where
  pub few : length table.drives ≤ 256
  pub hosts : All IsHostName table.hosts
  pub drives : All IsDriveLine table.drives
  pub slices : All (LiesOn table.drives) table.slices

slice_get-front : {A : Type 0} (xs ys : List A) (n : ℕ) (x : A) → slice_get xs n ≡ Some x → slice_get (xs ++ ys) n ≡ Some x
slice_get-front [] ys n x is = cc
slice_get-front (y ∷ xs) ys zero x is = is
slice_get-front (y ∷ xs) ys (suc n) x is = slice_get-front xs ys n x is

lies_still : (drives more : List DriveLine) (line : SliceLine) → LiesOn drives line → LiesOn (drives ++ more) line
lies_still drives more line lies = record { drive = lies.drive; place = slice_get-front drives more line.at.drive.0 lies.drive lies.place; within = lies.within; form = lies.form; some = lies.some }

read_drive : (g : Geometry) (d : DriveLine) → IsRead g → length g.drives < 256 → IsDriveLine d → IsRead (record g { drives = g.drives ++ d ∷ [] })
read_drive g d read room form = record { few = omega (arith, length_push g.drives d, room); hosts = read.hosts; drives = All-push IsDriveLine g.drives d read.drives form; slices = λ n line below. lies_still g.drives (d ∷ []) _ (read.slices n line below) }

read_slice : (g : Geometry) (s : SliceEntry) (n : ℕ) → IsRead g → IsSliceEntry s → IsFreshSlice g s n → IsRead (record g { slices = g.slices ++ slice_line s n ∷ [] })
read_slice g s n read form fresh = record {
  few = read.few;
  hosts = read.hosts;
  drives = read.drives;
  slices = All-push (LiesOn g.drives) g.slices (slice_line s n) read.slices (record { drive = fresh.line; place = fresh.place; within = fresh.within; form = form.name; some = form.least });
}

read_entry : (g h : Geometry) (e : Entry) → IsRead g → IsEntry e → Adds g e h → IsRead h
read_entry g h (Host name) read form adds = subst IsRead (sym adds.1) (record { few = read.few; hosts = All-push IsHostName g.hosts name read.hosts form; drives = read.drives; slices = read.slices })
read_entry g h (Drive d) read form adds = subst IsRead (sym adds.2) (read_drive g d read adds.0 form)
read_entry g h (Slice s) read form adds = subst IsRead (sym adds.2) (read_slice g s adds.0 read form adds.1)

read_line : (g h : Geometry) (line : List ℕ) → IsRead g → AddsLine g line h → IsRead h
read_line g h line read adds = elim adds [ inl nothing ↦ subst IsRead (sym nothing.1) read | inr e ↦ read_entry g h e.0 read e.1 e.3 ]

read_lines : (g h : Geometry) (ls : List (List ℕ)) → IsRead g → ReadsLines g ls h → IsRead h
read_lines g h [] read is = subst IsRead (sym is) read
read_lines g h (l ∷ ls) read is = read_lines is.0 h ls (read_line g is.0 l read is.1) is.2

pub read_table : (text : List ℕ) (table : Geometry) → IsGeometry text table → IsRead table
read_table text table is = read_lines empty table (lines text) (record { few = omega arith; hosts = All-nil _; drives = All-nil _; slices = All-nil _ }) is.read

-- the drive of a number is of its form
pub drive_at : (table : Geometry) → IsRead table → (n : ℕ) (line : DriveLine) → slice_get table.drives n ≡ Some line → IsDriveLine line
drive_at table read n line place =
    subst IsDriveLine (get_or_from_slice_get table.drives n line line place) (All-get_or IsDriveLine table.drives n line (slice_get_within table.drives n line place) read.drives)

-- each drive has a block at least
pub least_some : (kind : DriveKind) → 1 ≤ least_blocks kind
least_some (Own drive host) = omega arith
least_some (Shared drive) = omega arith
least_some (Mediator host) = omega arith
