-- What a record says of volumes of which nothing failed.
use Rattle.std.proofs.Common.{◌≡◌, ℕ, refl, sym, ◌∙◌, ap, List, [], ◌∷◌, ◌++◌, length, map, drop, replicate}
use Rattle.std.proofs.Math.Seq.{drop-append_seam}
use Rattle.std.proofs.lemmas.List.{length-replicate, replicate-append-replicate}
use Rattle.std.proofs.lemmas.List.Sums.{sum_by-cons}
use Rattle.std.specs.List.{sum_by}
use Rattle.mdv_encoding.specs.Below.{Component, OneVolume, PartStatus, RecordedPart, RecordedRow, Row, quiet_part, quiet_volume, width}
use Rattle.mdv_encoding.specs.Text.{okay_part, okay_row, quiet_recorded}
use Rattle.mdv_whole.specs.Sides.{beside, part_of, rows_of, volume_of}

parts_quiet : (cs : List Component) (more : List PartStatus) → beside part_of cs (replicate (length cs) quiet_part ++ more) ≡ map okay_part cs
parts_quiet [] more = refl
parts_quiet (c ∷ cs) more = ap (λ (l : List RecordedPart). okay_part c ∷ l) (parts_quiet cs more)

pub rows_quiet : (rows : List Row) → rows_of rows (replicate (sum_by width rows) quiet_part) ≡ map okay_row rows
rows_quiet [] = refl
rows_quiet (row ∷ rows) =
    let here = replicate (width row) quiet_part in
    let more = replicate (sum_by width rows) quiet_part in
    let all : replicate (sum_by width (row ∷ rows)) quiet_part ≡ here ++ more = ap (λ (n : ℕ). replicate n quiet_part) (sum_by-cons width row rows) ∙ sym (replicate-append-replicate (width row) (sum_by width rows) quiet_part) in
    let behind : drop (width row) (here ++ more) ≡ more = ap (λ (n : ℕ). drop n (here ++ more)) (sym (length-replicate (width row) quiet_part)) ∙ drop-append_seam here more in
    ap (rows_of (row ∷ rows)) all
    ∙ (λ i. record { interlace = row.interlace; parts = parts_quiet row.components more i } ∷ rows_of rows (behind i))
    ∙ ap (λ (l : List RecordedRow). okay_row row ∷ l) (rows_quiet rows)

pub volumes_quiet : (vs : List OneVolume) → beside volume_of vs (map quiet_volume vs) ≡ map quiet_recorded vs
volumes_quiet [] = refl
volumes_quiet (v ∷ vs) = λ i. quiet_recorded v ∷ volumes_quiet vs i
