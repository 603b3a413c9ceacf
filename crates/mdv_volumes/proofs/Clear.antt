-- A slice that isn't set aside for replicas, and that no other one which is shares a block with, has none where a boot looks.
use Rattle.std.proofs.Common.{◌≡◌, inl, inr, ◌&&◌, true, false, sym, ◌∙◌, ap, subst, Contains, Option, Some, arith}
use Rattle.std.proofs.lemmas.Bool.Decides.{nat_tests}
use Rattle.std.proofs.lemmas.Bool.{and_from, and_parts, cases_Bool, false≢true, not-true, not_from_false}
use Rattle.std.proofs.lemmas.List.Folds.{Any-from_list_any, list_any_at}
use Rattle.std.specs.Prelude.{◌+◌, ◌-◌, not, nat_le}
use Rattle.mdv_name.proofs.Finding.{same_slice-equal, slice_at-some}
use Rattle.mdv_name.specs.SliceIndex.{same_slice, slice_at}
use Rattle.mdv_name.specs.declared.slice_lines.SliceLine.{SliceLine}
use Rattle.mdv_plan.specs.Slices.{is_other_db, meets_db, overlap, overlap_at, share_a_block}
use Rattle.mdv_shown.proofs.Elsewhere.{in_range}
use Rattle.mdv_shown.specs.Sites.{is_line_of, is_reached_at, is_slice_of, lines_of, takes_replicas}
use Rattle.mdv_volumes.proofs.Lists.{in_filter}
use Rattle.mdv_layout_law.specs.Laid.{takes_volumes}
use Rattle.mdv_volumes.specs.Below.{Geometry, HasSlice, IsBeside, IsSound, Key, SliceAt, SliceName, plain_area, range}

-- a slice of a site is one of the table of drives that is set aside for replicas, with which no other one that is shares a block
pub record IsSetAside (g : Geometry) (line : SliceLine) : Type 0 where
  pub has : Contains g.slices line
  pub db : line.at.db ≡ true
  pub clear : meets_db g line.name ≡ false

pub set_aside : (g : Geometry) (key : Key) (line : SliceLine) → Contains (lines_of g key) line → IsSetAside g line
set_aside g key line has =
    let found = in_filter (is_line_of g key) g.slices line has in
    let takes = and_parts (line.at.db && nat_le 32 line.at.blocks) (not (meets_db g line.name)) (and_parts (is_slice_of key line.name && is_reached_at g key line.at.drive.0) (takes_replicas g line) found.1).1 in
    record { has = found.0; db = (and_parts line.at.db (nat_le 32 line.at.blocks) takes.0).0; clear = not-true (meets_db g line.name) takes.1 }

module _ (g : Geometry) (sound : IsSound g) (name : SliceName) (at : SliceAt) (has : HasSlice g.slices name at) (plain : at.db ≡ false) (clear : meets_db g name ≡ false) where
  -- one that is set aside shares no block with it
  never_shares : (line : SliceLine) → Contains g.slices line → line.at.db ≡ true → share_a_block line.at at ≡ true → ⊥
  never_shares line one_of db shares = elim (cases_Bool (same_slice line.name name)) [
    | inl same ↦
        let named = same_slice-equal line.name name same in
        let lies = sound.once name at line.at has (subst (λ (s : SliceName). HasSlice g.slices s line.at) named one_of) in
        false≢true (sym plain ∙ ap (λ (a : SliceAt). a.db) lies ∙ db)
    | inr differs ↦
        let line_lies : slice_at g.slices line.name ≡ Some line.at = (slice_at-some g line.name line.at sound).1 one_of in
        let lies : slice_at g.slices name ≡ Some at = (slice_at-some g name at sound).1 has in
        let over : overlap g line.name name ≡ true = ap (λ (o : Option SliceAt). overlap_at o (slice_at g.slices name)) line_lies ∙ ap (overlap_at (Some line.at)) lies ∙ shares in
        let other : is_other_db g name line ≡ true =
        and_from (line.at.db && not (same_slice line.name name)) (overlap g line.name name) (and_from line.at.db (not (same_slice line.name name)) db (not_from_false (same_slice line.name name) differs)) over in
        false≢true (sym clear ∙ list_any_at (is_other_db g name) g.slices one_of.0 line one_of.1 (ap (is_other_db g name) one_of.2 ∙ other))
  ]

  pub lies_beside : IsBeside g (range at.drive.0 at.start at.blocks)
  lies_beside key drive block here there =
      let found = Any-from_list_any (λ (line : SliceLine). range line.at.drive.0 (line.at.start + 16) (line.at.blocks - 16) drive block) (lines_of g key) there in
      let line : SliceLine = found.1 in
      let is = set_aside g key line (found.0, found.2, found.3) in
      let x = in_range line.at.drive.0 (line.at.start + 16) (line.at.blocks - 16) drive block found.4 in
      let y = in_range at.drive.0 at.start at.blocks drive block here in
      let meet : share_a_block line.at at ≡ true = grind (arith, nat_tests, x, y) in
      never_shares line is.has is.db meet

-- so has none of the slices on which volumes may lie
pub plain_beside : (g : Geometry) → IsSound g → IsBeside g (plain_area g)
plain_beside g sound key drive block here there =
    let found = Any-from_list_any (λ (line : SliceLine). takes_volumes g line && range line.at.drive.0 line.at.start line.at.blocks drive block) g.slices here in
    let line : SliceLine = found.1 in
    let both = and_parts (takes_volumes g line) (range line.at.drive.0 line.at.start line.at.blocks drive block) found.4 in
    let takes = and_parts (not line.at.db) (not (meets_db g line.name)) both.0 in
    lies_beside g sound line.name line.at (found.0, found.2, found.3) (not-true line.at.db takes.0) (not-true (meets_db g line.name) takes.1) key drive block both.1 there
