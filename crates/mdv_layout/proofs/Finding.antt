-- The row in which a block lies: the last one that begins at it or before.
use Rattle.std.proofs.Common.{◌≡◌, ℕ, ◌+◌, ◌-◌, ◌<◌, ◌≤◌, inl, inr, leb, leb-false, leb-true, true, false, List, length, get_or, sym, ap, subst, arith}
use Rattle.std.specs.List.Sorted.{IsNonDecreasingBy, IsPartitionPoint}
use Rattle.std.proofs.lemmas.Bool.{cases_lt}
use Rattle.std.proofs.lemmas.List.{get_or-map, length-map}
use Rattle.std.proofs.lemmas.List.Sorted.{IsNonDecreasingBy-from_all_adjacent}
use Rattle.mdv_layout.specs.Below.{LiesAs, Map, column_at, no_map}
use Rattle.mdv_layout.specs.Layouts.{IsLayout, IsRowAt, blocks_before, laid_map, layout_map, row_maps}
use Rattle.mdv_layout.specs.declared.layout.Layout.{Layout}
use Rattle.mdv_layout.specs.declared.row.LaidRow.{LaidRow}
use Rattle.mdv_layout.proofs.Rows.{before_all, before_more, lies_in}

module _ (layout : Layout) (is : IsLayout layout) where
  abbrev rows : List LaidRow
  rows = layout.rows.items

  abbrev maps : List Map
  maps = row_maps layout

  as_many : length maps ≡ length rows
  as_many = length-map rows (laid_map layout.leaves.items)

  -- later rows begin later
  pub starts_rise : IsNonDecreasingBy (λ (row : LaidRow). row.start) rows
  starts_rise = IsNonDecreasingBy-from_all_adjacent (λ (row : LaidRow). row.start) rows (λ k d lt.
      let here = is.starts k d (omega arith) in
      let next = is.starts (k + 1) d lt in
      let more = before_more maps k (omega (arith, as_many)) in omega arith)

  -- so many of them begin at the block or before, and no other one
  module _ (at behind : ℕ) (within : at < (layout_map layout).blocks) (few : behind ≤ length rows)
      (point : IsPartitionPoint (λ (row : LaidRow). leb row.start at ≡ true) (λ (row : LaidRow). leb row.start at ≡ false) rows behind) (d : LaidRow) where
    begun : (k : ℕ) → k < behind → (get_or rows k d).start ≤ at
    begun k lt = leb-true (get_or rows k d).start at (point.0 k d (omega arith) lt)

    later : (k : ℕ) → behind ≤ k → k < length rows → at < (get_or rows k d).start
    later k le lt = leb-false (get_or rows k d).start at (point.1 k d le lt)

    -- the first one begins with the volume
    pub some_begun : 0 < behind
    some_begun = elim (cases_lt 0 behind) [
      | inl some ↦ some
      | inr none ↦ elim (cases_lt 0 (length rows)) [
        | inl listed ↦
            let first = is.starts 0 d listed in
            let above = later 0 none listed in absurd (omega arith)
        | inr empty ↦
            let all = before_all maps 0 (omega (arith, as_many)) in absurd (omega arith)
      ]
    ]

    -- the next one begins behind the block, or none does
    not_behind : at < blocks_before maps behind
    not_behind = elim (cases_lt behind (length rows)) [
      | inl listed ↦
          let start = is.starts behind d listed in
          let above = later behind (omega arith) listed in omega arith
      | inr last ↦ let all = before_all maps behind (omega (arith, as_many)) in omega arith
    ]

    abbrev index : ℕ
    index = behind - 1

    listed : index < length rows
    listed = omega (arith, some_begun)

    next : index + 1 ≡ behind
    next = omega (arith, some_begun)

    start : (get_or rows index d).start ≡ blocks_before maps index
    start = is.starts index d listed

    column : column_at maps index ≡ laid_map layout.leaves.items (get_or rows index d)
    column = get_or-map (laid_map layout.leaves.items) rows index d no_map listed

    long : (column_at maps index).blocks ≡ (laid_map layout.leaves.items (get_or rows index d)).blocks
    long = ap (λ (v : Map). v.blocks) column

    ends : at < (get_or rows index d).start + (laid_map layout.leaves.items (get_or rows index d)).blocks
    ends =
        let more = before_more maps index (omega (arith, as_many, listed)) in
        let same = ap (blocks_before maps) next in omega (arith, not_behind, start, long)

    lies : (k : ℕ) → k < (laid_map layout.leaves.items (get_or rows index d)).blocks → LiesAs (layout_map layout) ((get_or rows index d).start + k) (laid_map layout.leaves.items (get_or rows index d)) k
    lies k lt = subst (λ (v : Map). LiesAs (layout_map layout) ((get_or rows index d).start + k) v k) column
        (lies_in maps index ((get_or rows index d).start + k) k (omega (arith, as_many, listed)) (omega (arith, long)) (ap (λ (n : ℕ). n + k) start))

    pub row_found : (row : LaidRow) → row ≡ get_or rows (behind - 1) d → IsRowAt layout at row
    row_found row same = subst (IsRowAt layout at) (sym same) (record { is = is.rows index d listed; from = begun index (omega (arith, some_begun)); to = ends; lies = lies })
