-- A table of drives that was read lists no slice twice, nor does what a host sees of it.
use Rattle.std.proofs.Common.{◌≡◌, inl, inr, ℕ, List, [], ◌∷◌, ◌++◌, sym, ◌∙◌, subst, arith}
use Rattle.std.proofs.lemmas.List.{get_or_default}
use Rattle.std.proofs.lemmas.List.Kept.{AllPairs-filter}
use Rattle.std.proofs.lemmas.List.Quantifiers.{all_pairs_push}
use Rattle.mdv_name.specs.Geometry.{Adds, AddsLine, IsFreshSlice, ReadsLines, empty, slice_line}
use Rattle.mdv_name.specs.Lines.{lines}
use Rattle.mdv_name.specs.SliceIndex.{is_among}
use Rattle.mdv_name.specs.declared.entry.Entry.{Entry}
use Rattle.mdv_name.specs.declared.entry.Entry.TheVariants.{Drive, Host, Slice}
use Rattle.mdv_name.specs.declared.entry.SliceEntry.{SliceEntry}
use Rattle.mdv_run_law.specs.Below.{Geometry, IsGeometry, SliceLine, own_drives, own_view}
use Rattle.mdv_run_law.specs.Run.{AreOnce}

abbrev Differ : SliceLine → SliceLine → Type 0
Differ a b = a ≡ b → ⊥

-- one slice more, which no line before has named
once_slice : (g : Geometry) (s : SliceEntry) (n : ℕ) → AreOnce g.slices → IsFreshSlice g s n → AreOnce (g.slices ++ slice_line s n ∷ [])
once_slice g s n once fresh =
    let line : SliceLine = slice_line s n in
    all_pairs_push Differ g.slices line once (λ k d within same. fresh.fresh line.at (k, within, get_or_default g.slices k line d within ∙ same))

once_entry : (g h : Geometry) (e : Entry) → AreOnce g.slices → Adds g e h → AreOnce h.slices
once_entry g h (Host name) once adds = subst (λ (t : Geometry). AreOnce t.slices) (sym adds.1) once
once_entry g h (Drive d) once adds = subst (λ (t : Geometry). AreOnce t.slices) (sym adds.2) once
once_entry g h (Slice s) once adds = subst (λ (t : Geometry). AreOnce t.slices) (sym adds.2) (once_slice g s adds.0 once adds.1)

once_line : (g h : Geometry) (line : List ℕ) → AreOnce g.slices → AddsLine g line h → AreOnce h.slices
once_line g h line once adds = elim adds [ inl nothing ↦ subst (λ (t : Geometry). AreOnce t.slices) (sym nothing.1) once | inr e ↦ once_entry g h e.0 once e.3 ]

once_lines : (g h : Geometry) (ls : List (List ℕ)) → AreOnce g.slices → ReadsLines g ls h → AreOnce h.slices
once_lines g h [] once is = subst (λ (t : Geometry). AreOnce t.slices) (sym is) once
once_lines g h (l ∷ ls) once is = once_lines is.0 h ls (once_line g is.0 l once is.1) is.2

pub once_read : (text : List ℕ) (g : Geometry) → IsGeometry text g → AreOnce g.slices
once_read text g is = once_lines empty g (lines text) (λ i j d less within. absurd (omega (arith, within))) is.read

pub once_seen : (table : Geometry) (name : List ℕ) → AreOnce table.slices → AreOnce (own_view table name).slices
once_seen table name once = AllPairs-filter Differ (λ (line : SliceLine). is_among (own_drives table name) line.at.drive) table.slices once
