-- What is read of a table's text is that table, and bytes are read exactly where they are a table's text.
use Rattle.std.proofs.Common.{◌≡◌, ◌<◌, ◌≤◌, ◌^◌, ℕ, refl, sym, ◌∙◌, ap, List, [], ◌∷◌, ◌++◌, append_assoc, length, map, drop, None, arith}
use Rattle.std.proofs.lemmas.List.{append-nil, length-map}
use Rattle.std.proofs.lemmas.List.Elements.{All-head, All-tail}
use Rattle.std.proofs.lemmas.List.Folds.{flat_map-map}
use Rattle.std.proofs.Math.Seq.{drop-append_seam}
use Rattle.std.specs.Prelude.{All, flat_map}
use Rattle.byteorder.specs.Endian.{big_bytes, big_number}
use Rattle.byteorder.specs.Numbers.{big_number-reads_back}
use Rattle.mdv_codec.specs.Record.{body_text, front_text, head_text, record_text as recorded_text}
use Rattle.mdv_codec.specs.Recorded.{kind_text, part_text, pool_part_text, row_text, stripe_text, volume_text}
use Rattle.mdv_encoding.specs.Below.{Place, Lists, One, Two, Base, Slice, Volume, Component, RecordedRow, RecordedVolume, Row, OneStripe, OneVolume, VolumeKind, Stripe, Mirror, Raid, Soft, no_set, quiet_kind, quiet_volume}
use Rattle.mdv_encoding.specs.Parsing.{place_from, many_from, component_from, row_from, stripe_from, kind_from, volume_from, volumes_from, places_from, behind_places, lists_from, behind_lists, table_with, table_from}
use Rattle.mdv_encoding.specs.Text.{okay_part, okay_part_text, okay_row, okay_row_text, quiet_recorded, quiet_text, record_text}
use Rattle.mdv_encoding.proofs.Fits.{FitsBase, FitsComponent, FitsRow, FitsKind, FitsVolume}
use Rattle.mdv_encoding.proofs.Lengths.{length-parts}
use Rattle.mdv_encoding.proofs.Quiet.{rows_quiet, volumes_quiet}
use Rattle.mdv_fields.specs.Names.{slice_text}
use Rattle.mdv_fields.specs.Numbers.{u16_text, u32_text, u64_text}
use Rattle.mdv_fields.specs.Parts.{PlaceFits, part_status_text, place_text}
use Rattle.mdv_fields.specs.Reading.{long_text, short_text}
use Rattle.mdv_fields.specs.Sets.{ListsFit, PlacesFit, lists_text, pending_text, places_text, set_text}
use Rattle.mdv_whole.specs.Sides.{beside, kind_of, volume_of}

many_read : {A : Type 0} {F : A → Type 0} (text : A → List ℕ) (read : List ℕ → A) → ((a : A) (rest : List ℕ) → F a → read (text a ++ rest) ≡ a) → (xs : List A) (rest : List ℕ) → All F xs → many_from read text (length xs) (flat_map text xs ++ rest) ≡ xs
many_read text read each [] rest all = refl
many_read {A} {F} text read each (x ∷ xs) rest all =
    let behind = flat_map text xs ++ rest in
    let next = λ (l : List ℕ) (a : A). a ∷ many_from read text (length xs) (drop (length (text a)) l) in
    ap (λ (l : List ℕ). next l (read l)) (append_assoc (text x) (flat_map text xs) rest)
    ∙ ap (next (text x ++ behind)) (each x behind (All-head F x xs all))
    ∙ ap (λ (l : List ℕ). x ∷ many_from read text (length xs) l) (drop-append_seam (text x) behind)
    ∙ ap (λ (l : List A). x ∷ l) (many_read text read each xs rest (All-tail F x xs all))

-- made of parts, behind their number
long_read : {A R : Type 0} {F : A → Type 0} (made : A → R) (text : R → List ℕ) (read : List ℕ → A) → ((a : A) (rest : List ℕ) → F a → read (text (made a) ++ rest) ≡ a) → (xs : List A) (more rest : List ℕ) → length xs < 256 ^ 2 → All F xs → many_from read (λ (a : A). text (made a)) (big_number 2 (big_bytes 2 (length (map made xs)) ++ more)) (flat_map text (map made xs) ++ rest) ≡ xs
long_read {A} {R} made text read each xs more rest few all =
    let one = λ (a : A). text (made a) in
    let size = length-map xs made in
    let count = big_number-reads_back 2 (length (map made xs)) more (omega (arith, size, few)) ∙ size in
    ap (λ (n : ℕ). many_from read one n (flat_map text (map made xs) ++ rest)) count
    ∙ ap (λ (l : List ℕ). many_from read one (length xs) (l ++ rest)) (flat_map-map text made xs)
    ∙ many_read one read each xs rest all

place_read : (p : Place) (rest : List ℕ) → PlaceFits p → place_from (place_text p ++ rest) ≡ p
unfolding slice_text u32_text
place_read p rest fits =
    let start = big_number-reads_back 4 p.start (big_bytes 4 p.blocks ++ rest) fits.1.0 in
    let blocks = big_number-reads_back 4 p.blocks rest fits.1.1 in
    λ i. record { slice = p.slice; start = start i; blocks = blocks i }

on_read : (b : Base) (start blocks : ℕ) (rest : List ℕ) → FitsBase b → start < 256 ^ 8 → blocks < 256 ^ 8 → component_from (okay_part_text (record { on = b; start = start; blocks = blocks }) ++ rest) ≡ record { on = b; start = start; blocks = blocks }
unfolding part_text slice_text u64_text
on_read (Volume v) start blocks rest on low few = absurd on
on_read (Slice s) start blocks rest on low few =
    let c : Component = record { on = Slice s; start = start; blocks = blocks } in
    let behind = part_status_text (okay_part c).status ++ rest in
    let first = big_number-reads_back 8 start (big_bytes 8 blocks ++ behind) low in
    let count = big_number-reads_back 8 blocks behind few in
    λ i. record { on = Slice s; start = first i; blocks = count i }

component_read : (c : Component) (rest : List ℕ) → FitsComponent c → component_from (okay_part_text c ++ rest) ≡ c
component_read c rest fits = on_read c.on c.start c.blocks rest fits.on fits.start fits.blocks

row_read : (row : Row) (rest : List ℕ) → FitsRow row → row_from (okay_row_text row ++ rest) ≡ row
unfolding row_text u16_text u32_text
row_read row rest fits =
    let parts = flat_map part_text (okay_row row).parts ++ rest in
    let interlace = big_number-reads_back 4 row.interlace parts fits.interlace in
    let components = long_read okay_part part_text component_from component_read row.components (big_bytes 4 row.interlace ++ parts) rest (omega (arith, fits.few)) fits.each in
    λ i. record { interlace = interlace i; components = components i }

rows_read : (rows : List Row) (rest : List ℕ) → length rows ≤ 100 → All FitsRow rows → stripe_from (stripe_text (record { spares = None; rows = map okay_row rows }) ++ rest) ≡ record { rows = rows; spares = None }
unfolding stripe_text long_text u16_text
rows_read rows rest few fits =
    let texts = flat_map row_text (map okay_row rows) ++ rest in
    let read = long_read okay_row row_text row_from row_read rows texts rest (omega (arith, few)) fits in
    λ i. record { rows = read i; spares = None }

kind_read : (k : VolumeKind) (rest : List ℕ) → FitsKind k → kind_from (kind_text (kind_of k (quiet_kind k)) ++ rest) ≡ k
unfolding kind_text
kind_read (Mirror m) rest fits = absurd fits
kind_read (Raid r) rest fits = absurd fits
kind_read (Soft s) rest fits = absurd fits
kind_read (Stripe s) rest fits =
    let same : s ≡ record { rows = s.rows; spares = None } = λ i. record { rows = s.rows; spares = fits.spares i } in
    ap (λ (l : List RecordedRow). Stripe (stripe_from (stripe_text (record { spares = s.spares; rows = l }) ++ rest))) (rows_quiet s.rows)
    ∙ ap (λ (u : OneStripe). Stripe (stripe_from (stripe_text (record { spares = u.spares; rows = map okay_row u.rows }) ++ rest))) same
    ∙ ap Stripe (rows_read s.rows rest fits.rows fits.each ∙ sym same)

volume_read : (v : OneVolume) (rest : List ℕ) → FitsVolume v → volume_from (quiet_text v ++ rest) ≡ v
unfolding volume_text u16_text
volume_read v rest fits =
    let number = big_number-reads_back 2 v.number.0 (kind_text (kind_of v.kind (quiet_kind v.kind)) ++ rest) (omega (arith, fits.number)) in
    let kind = kind_read v.kind rest fits.kind in
    λ i. record { number = record { 0 = number i }; kind = kind i }

volumes_read : (vs : List OneVolume) → length vs ≤ 8192 → All FitsVolume vs → volumes_from (long_text volume_text (beside volume_of vs (map quiet_volume vs))) ≡ vs
unfolding long_text u16_text
volumes_read vs few fits =
    let texts = flat_map volume_text (map quiet_recorded vs) in
    ap (λ (l : List RecordedVolume). volumes_from (long_text volume_text l)) (volumes_quiet vs)
    ∙ ap (many_from volume_from quiet_text (big_number 2 (big_bytes 2 (length (map quiet_recorded vs)) ++ texts))) (sym (append-nil texts))
    ∙ long_read quiet_recorded volume_text volume_from volume_read vs texts [] (omega (arith, few)) fits

-- one list, and what stands behind it
places_read : (ps : List Place) (rest : List ℕ) → PlacesFit ps → (places_from (places_text ps ++ rest) ≡ ps) × (behind_places (places_text ps ++ rest) ≡ rest)
unfolding short_text
places_read ps rest fits =
    let texts = flat_map place_text ps in (
      many_read place_text place_from place_read ps rest fits.each,
      ap (λ (n : ℕ). drop n (texts ++ rest)) (sym (length-parts ps)) ∙ drop-append_seam texts rest,
    )

lists_read : (l : Lists) (rest : List ℕ) → ListsFit l → (lists_from (lists_text l ++ rest) ≡ l) × (behind_lists (lists_text l ++ rest) ≡ rest)
lists_read (One ps) rest fits = let read = places_read ps rest fits in (ap One read.0, read.1)
lists_read (Two ps qs) rest fits =
    let whole = append_assoc (places_text ps) (places_text qs) rest in
    let first = places_read ps (places_text qs ++ rest) fits.0 in
    let second = places_read qs rest fits.1 in
    let far = ap behind_places whole ∙ first.1 in
    let old = ap places_from whole ∙ first.0 in
    let new = ap places_from far ∙ second.0 in
    (λ i. Two (old i) (new i), ap behind_places far ∙ second.1)

pub parts_read : (l : Lists) (vs : List OneVolume) → ListsFit l → length vs ≤ 8192 → All FitsVolume vs → table_from (record_text (table_with l vs)) ≡ table_with l vs
unfolding table_from recorded_text head_text body_text front_text set_text short_text long_text u16_text u32_text
parts_read l vs fits few also =
    let none = set_text no_set ++ short_text pending_text [] in
    let volumes = long_text volume_text (beside volume_of vs (map quiet_volume vs)) in
    let rest = long_text pool_part_text [] ++ volumes in
    let whole = append_assoc (lists_text l) none rest in
    let read = lists_read l (none ++ rest) fits in
    let lists = ap lists_from whole ∙ read.0 in
    let each = ap (λ (b : List ℕ). volumes_from (drop 8 (behind_lists b))) whole ∙ ap (λ (b : List ℕ). volumes_from (drop 8 b)) read.1 ∙ volumes_read vs few also in
    λ i. table_with (lists i) (each i)
