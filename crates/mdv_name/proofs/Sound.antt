-- What is read as a table of drives is sound.
use Rattle.std.proofs.Common.{◌≡◌, ◌<◌, ◌≤◌, ◌+◌, ◌^◌, ℕ, zero, suc, sym, ◌∙◌, ap, subst, List, [], ◌∷◌, ◌++◌, length, Some, inl, inr, arith}
use Rattle.std.proofs.lemmas.List.{length_push}
use Rattle.std.proofs.lemmas.List.Elements.{All-nil, All-push, Contains-push_cases}
use Rattle.std.proofs.lemmas.Option.{slice_get_within, get_or_from_slice_get}
use Rattle.std.specs.Prelude.{All, slice_get}
use Rattle.mdv_base.specs.declared.drive.DriveNo.{DriveNo}
use Rattle.mdv_base.specs.declared.drive.SliceName.{SliceName}
use Rattle.mdv_name.specs.Drive.{IsSliceName}
use Rattle.mdv_name.specs.DriveIndex.{drive_of}
use Rattle.mdv_name.specs.Entry.{IsEntry, IsSliceEntry}
use Rattle.mdv_name.specs.Geometry.{Adds, AddsLine, IsFreshSlice, IsGeometry, ReadsLines, empty, slice_line}
use Rattle.mdv_name.specs.Lines.{lines}
use Rattle.mdv_name.specs.SliceIndex.{HasSlice}
use Rattle.mdv_name.specs.Sound.{IsSound}
use Rattle.mdv_name.specs.declared.drive_line.DriveLine.{DriveLine}
use Rattle.mdv_name.specs.declared.entry.Entry.{Entry}
use Rattle.mdv_name.specs.declared.entry.Entry.TheVariants.{Drive, Host, Slice}
use Rattle.mdv_name.specs.declared.entry.SliceEntry.{SliceEntry}
use Rattle.mdv_name.specs.declared.geometry.Geometry.{Geometry}
use Rattle.mdv_name.specs.declared.slice_lines.SliceAt.{SliceAt}
use Rattle.mdv_name.specs.declared.slice_lines.SliceLine.{SliceLine}

-- a slice lies within the drive of its name
record LiesOn (drives : List DriveLine) (name : SliceName) (at : SliceAt) : Type 0 where
  line : DriveLine
  place : slice_get drives at.drive.0 ≡ Some line
  named : drive_of line.kind ≡ Some name.drive
  within : at.start + at.blocks ≤ line.blocks
  form : IsSliceName name
  some : 0 < at.blocks

record IsRead (g : Geometry) : Type 0 where
  few : length g.drives ≤ 256
  sizes : All (λ l. l.blocks ≤ 2 ^ 40) g.drives
  each : (name : SliceName) (at : SliceAt) → HasSlice g.slices name at → LiesOn g.drives name at
  once : (name : SliceName) (a b : SliceAt) → HasSlice g.slices name a → HasSlice g.slices name b → a ≡ b

slice_get-front : {A : Type 0} (xs ys : List A) (n : ℕ) (x : A) → slice_get xs n ≡ Some x → slice_get (xs ++ ys) n ≡ Some x
slice_get-front [] ys n x is = cc
slice_get-front (y ∷ xs) ys zero x is = is
slice_get-front (y ∷ xs) ys (suc n) x is = slice_get-front xs ys n x is

read_empty : IsRead empty
read_empty = record { few = omega arith; sizes = All-nil _; each = λ name at has. absurd (omega (arith, has.1)); once = λ name a b first second. absurd (omega (arith, first.1)) }

read_drive : (g : Geometry) (d : DriveLine) → IsRead g → length g.drives < 256 → d.blocks ≤ 2 ^ 40 → IsRead (record g { drives = g.drives ++ d ∷ [] })
read_drive g d read room size = record {
  few = omega (arith, room, length_push g.drives d);
  sizes = All-push (λ l. l.blocks ≤ 2 ^ 40) g.drives d read.sizes size;
  each = λ name at has. let lies = read.each name at has in record { line = lies.line; place = slice_get-front g.drives (d ∷ []) at.drive.0 lies.line lies.place; named = lies.named; within = lies.within; form = lies.form; some = lies.some };
  once = read.once;
}

-- the slice of a line, or one that was there
data IsOf (g : Geometry) (s : SliceEntry) (n : ℕ) (name : SliceName) (at : SliceAt) : Type 0 where
  old : HasSlice g.slices name at → IsOf g s n name at
  new : s.name ≡ name → record { drive = record { 0 = n }; start = s.start; blocks = s.blocks; db = s.db } ≡ at → IsOf g s n name at

is_of : (g : Geometry) (s : SliceEntry) (n : ℕ) (name : SliceName) (at : SliceAt) → HasSlice (g.slices ++ slice_line s n ∷ []) name at → IsOf g s n name at
is_of g s n name at has =
    let line : SliceLine = record { name = name; at = at } in
    elim (Contains-push_cases g.slices (slice_line s n) line has) [ inl before ↦ old before | inr is ↦ new (ap (λ (l : SliceLine). l.name) is) (ap (λ (l : SliceLine). l.at) is) ]

read_slice : (g : Geometry) (s : SliceEntry) (n : ℕ) → IsRead g → IsSliceEntry s → IsFreshSlice g s n → IsRead (record g { slices = g.slices ++ slice_line s n ∷ [] })
read_slice g s n read form fresh = record {
  few = read.few;
  sizes = read.sizes;
  each = λ name at has. elim (is_of g s n name at has) [
    | old before ↦ read.each name at before
    | new named lies ↦ subst (λ (m : SliceName). LiesOn g.drives m at) named (subst (LiesOn g.drives s.name) lies its_place)
  ];
  once = λ name a b first second. elim (is_of g s n name a first) [
    | old before ↦ elim (is_of g s n name b second) [
      | old also ↦ read.once name a b before also
      | new named lies ↦ absurd (fresh.fresh a (subst (λ (m : SliceName). HasSlice g.slices m a) (sym named) before))
    ]
    | new named lies ↦ elim (is_of g s n name b second) [
      | old also ↦ absurd (fresh.fresh b (subst (λ (m : SliceName). HasSlice g.slices m b) (sym named) also))
      | new _ there ↦ sym lies ∙ there
    ]
  ];
}
  where
    its_place : LiesOn g.drives s.name (record { drive = record { 0 = n }; start = s.start; blocks = s.blocks; db = s.db })
    its_place = record { line = fresh.line; place = fresh.place; named = fresh.named; within = fresh.within; form = form.name; some = form.least }

read_entry : (g h : Geometry) (e : Entry) → IsRead g → IsEntry e → Adds g e h → IsRead h
read_entry g h (Host name) read form adds = subst IsRead (sym adds.1) (record { few = read.few; sizes = read.sizes; each = read.each; once = read.once })
read_entry g h (Drive d) read form adds = subst IsRead (sym adds.2) (read_drive g d read adds.0 form.most)
read_entry g h (Slice s) read form adds = subst IsRead (sym adds.2) (read_slice g s adds.0 read form adds.1)

read_line : (g h : Geometry) (line : List ℕ) → IsRead g → AddsLine g line h → IsRead h
read_line g h line read adds = elim adds [ inl nothing ↦ subst IsRead (sym nothing.1) read | inr e ↦ read_entry g h e.0 read e.1 e.3 ]

read_lines : (g h : Geometry) (ls : List (List ℕ)) → IsRead g → ReadsLines g ls h → IsRead h
read_lines g h [] read is = subst IsRead (sym is) read
read_lines g h (l ∷ ls) read is = read_lines is.0 h ls (read_line g is.0 l read is.1) is.2

sound_read : (g : Geometry) → IsRead g → IsSound g
sound_read g read = record {
  each = λ name at has.
      let lies = read.each name at has in
      let below = slice_get_within g.drives at.drive.0 lies.line lies.place in
      let size : lies.line.blocks ≤ 2 ^ 40 = subst (λ (l : DriveLine). l.blocks ≤ 2 ^ 40) (get_or_from_slice_get g.drives at.drive.0 lies.line lies.line lies.place) (read.sizes at.drive.0 lies.line below) in
      record { named = lies.form; drive = omega (arith, below, read.few); some = lies.some; within = omega (arith, lies.within, size) };
  once = read.once;
  drives = λ m n a b first second same.
      let one = read.each m a first in
      let two = read.each n b second in
      let lines : Some one.line ≡ Some two.line = sym one.place ∙ ap (λ (d : DriveNo). slice_get g.drives d.0) same ∙ two.place in
      let line : one.line ≡ two.line = cc (lines) in
      let names : Some m.drive ≡ Some n.drive = sym one.named ∙ ap (λ (l : DriveLine). drive_of l.kind) line ∙ two.named in
      cc (names);
}

pub sound_geometry : (text : List ℕ) (g : Geometry) → IsGeometry text g → IsSound g
sound_geometry text g is = sound_read g (read_lines empty g (lines text) read_empty is.read)
