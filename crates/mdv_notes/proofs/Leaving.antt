-- What a note doesn't name stays.
use Rattle.std.proofs.Common.{◌≡◌, ◌==◌, ◌&&◌, ℕ, refl, ◌∙◌, ap, Bool, true, false, List, [], map, None, inl, inr, arith}
use Rattle.std.specs.Prelude.{slice_get}
use Rattle.std.proofs.lemmas.Bool.Decides.{nat_tests}
use Rattle.mdv_notes.specs.Below.{VolId, SliceName, PartStatus, Table, Available, Broken}
use Rattle.mdv_notes.specs.Flags.{flags_noted, subs_of}
use Rattle.mdv_notes.specs.Named.{names_part, names_region, names_sub, names_raid, names_spare, LeavesOthers}
use Rattle.mdv_notes.specs.Noted.{noted_of, status_after, restated, with_kind, with_flag, with_part, with_parts, with_raid_done, with_regions}
use Rattle.mdv_notes.specs.Parts.{changed_at, part_noted, part_resumed}
use Rattle.mdv_notes.specs.Regions.{in_range, is_region_dirty, regions_noted, has_dirty}
use Rattle.mdv_notes.specs.Told.{status_at, told_of, kind_parts, part_at, spare_under, kind_dirty, dirty_of, region_at, kind_flags, flag_of, offline_at, kind_state, raid_at, spare_at}
use Rattle.mdv_notes.specs.declared.note.Note.{Note}
use Rattle.mdv_notes.specs.declared.note.Note.TheVariants.{Part, SpareBroken, SpareAvailable, RegionsDirty, RegionsClean, SubOffline, SubOnline, RaidOkay}
use Rattle.mdv_notes.specs.declared.note.PartAt.{PartAt}
use Rattle.mdv_notes.specs.declared.note.RegionRange.{RegionRange}
use Rattle.mdv_notes.proofs.Bits.{region_other}
use Rattle.mdv_notes.proofs.Finding.{same_or_other}
use Rattle.mdv_notes.proofs.Lists.{get_other, flag_other}
use Rattle.mdv_notes.proofs.Making.{part_made, part_dirty, part_flags, part_state, parts_dirty, parts_flags, parts_state, regions_made, regions_parts, regions_flags, regions_state, flag_made, flag_parts, flag_dirty, flag_state, done_parts, done_dirty, done_flags}
use Rattle.mdv_notes.proofs.SpareStates.{spare_other, spares_left}
use Rattle.mdv_notes.proofs.Telling.{told_made, told_other, told_same}

other_of_two : (a b c d : ℕ) → ((a == b) && (c == d)) ≡ false → a ≡ b → c ≡ d → ⊥
other_of_two a b c d not_both first second = grind (arith, nat_tests)

other_of : (a b : ℕ) → (a == b) ≡ false → a ≡ b → ⊥
other_of a b not_same same = grind (arith, nat_tests)

out_of : (a b : ℕ) (x : Bool) → ((a == b) && x) ≡ false → a ≡ b → x ≡ false
out_of a b x not_both first = grind (arith, nat_tests)

parts_left : (t : Table) (n : Note) (q : PartAt) → names_part n q ≡ false → part_at (status_after t n) q ≡ part_at t.status q
parts_left t (Part at note) q named =
    let f = part_noted note in
    elim (same_or_other at.volume.0 q.volume.0) [
      | inl same ↦
          ap (λ (ps : List PartStatus). slice_get ps q.place) (told_made [] kind_parts at.volume (with_part at.place f) q.volume (changed_at at.place f) t.status.volumes same refl (part_made at.place f))
          ∙ get_other f (told_of [] kind_parts (status_at t.status q.volume)) at.place q.place (other_of_two at.volume.0 q.volume.0 at.place q.place named same)
      | inr apart ↦ ap (λ (ps : List PartStatus). slice_get ps q.place) (told_other [] kind_parts at.volume (with_part at.place f) q.volume t.status.volumes apart)
    ]
parts_left t (SpareBroken s) q named = refl
parts_left t (SpareAvailable s) q named = refl
parts_left t (RegionsDirty m range) q named = ap (λ (ps : List PartStatus). slice_get ps q.place) (told_same [] kind_parts m (with_regions range true) q.volume t.status.volumes (regions_parts range true))
parts_left t (RegionsClean m range) q named = ap (λ (ps : List PartStatus). slice_get ps q.place) (told_same [] kind_parts m (with_regions range false) q.volume t.status.volumes (regions_parts range false))
parts_left t (SubOffline m v) q named = ap (λ (ps : List PartStatus). slice_get ps q.place) (told_same [] kind_parts m (with_flag (subs_of t.plan m) v true) q.volume t.status.volumes (flag_parts (subs_of t.plan m) v true))
parts_left t (SubOnline m v) q named =
    ap (λ (ps : List PartStatus). slice_get ps q.place)
    (told_other [] kind_parts v (with_parts (part_resumed (has_dirty (dirty_of t.status m)))) q.volume (map (restated m (with_flag (subs_of t.plan m) v false)) t.status.volumes) (other_of v.0 q.volume.0 named)
    ∙ told_same [] kind_parts m (with_flag (subs_of t.plan m) v false) q.volume t.status.volumes (flag_parts (subs_of t.plan m) v false))
parts_left t (RaidOkay v) q named = ap (λ (ps : List PartStatus). slice_get ps q.place) (told_same [] kind_parts v with_raid_done q.volume t.status.volumes done_parts)

module _ (t : Table) (w : VolId) (r : ℕ) where
  ranged_left : (m : VolId) (range : RegionRange) (dirty : Bool) → ((m.0 == w.0) && in_range range r) ≡ false → region_at (with_kind m (with_regions range dirty) t.status) w r ≡ region_at t.status w r
  ranged_left m range dirty named = elim (same_or_other m.0 w.0) [
    | inl same ↦
        ap (λ (bytes : List ℕ). is_region_dirty bytes r) (told_made [] kind_dirty m (with_regions range dirty) w (regions_noted range dirty 0) t.status.volumes same refl (regions_made range dirty))
        ∙ region_other range dirty 0 r r (dirty_of t.status w) (omega arith) (out_of m.0 w.0 (in_range range r) named same)
    | inr apart ↦ ap (λ (bytes : List ℕ). is_region_dirty bytes r) (told_other [] kind_dirty m (with_regions range dirty) w t.status.volumes apart)
  ]

  regions_left : (n : Note) → names_region n w r ≡ false → region_at (status_after t n) w r ≡ region_at t.status w r
  regions_left (Part at note) named = ap (λ (bytes : List ℕ). is_region_dirty bytes r) (told_same [] kind_dirty at.volume (with_part at.place (part_noted note)) w t.status.volumes (part_dirty at.place (part_noted note)))
  regions_left (SpareBroken s) named = refl
  regions_left (SpareAvailable s) named = refl
  regions_left (RegionsDirty m range) named = ranged_left m range true named
  regions_left (RegionsClean m range) named = ranged_left m range false named
  regions_left (SubOffline m v) named = ap (λ (bytes : List ℕ). is_region_dirty bytes r) (told_same [] kind_dirty m (with_flag (subs_of t.plan m) v true) w t.status.volumes (flag_dirty (subs_of t.plan m) v true))
  regions_left (SubOnline m v) named =
      ap (λ (bytes : List ℕ). is_region_dirty bytes r)
      (told_same [] kind_dirty v (with_parts (part_resumed (has_dirty (dirty_of t.status m)))) w (map (restated m (with_flag (subs_of t.plan m) v false)) t.status.volumes) (parts_dirty (part_resumed (has_dirty (dirty_of t.status m))))
      ∙ told_same [] kind_dirty m (with_flag (subs_of t.plan m) v false) w t.status.volumes (flag_dirty (subs_of t.plan m) v false))
  regions_left (RaidOkay v) named = ap (λ (bytes : List ℕ). is_region_dirty bytes r) (told_same [] kind_dirty v with_raid_done w t.status.volumes done_dirty)

module _ (t : Table) (o w : VolId) where
  flag_left : (m v : VolId) (is : Bool) → ((m.0 == o.0) && (v.0 == w.0)) ≡ false → flag_of w (subs_of t.plan o) (told_of [] kind_flags (status_at (with_kind m (with_flag (subs_of t.plan m) v is) t.status) o)) ≡ offline_at t o w
  flag_left m v is named = elim (same_or_other m.0 o.0) [
    | inl same ↦
        let subs = subs_of t.plan o in
        let own : subs_of t.plan m ≡ subs = ap (λ (k : ℕ). subs_of t.plan (record { 0 = k })) same in
        ap (λ (vs : List VolId). flag_of w subs (told_of [] kind_flags (status_at (with_kind m (with_flag vs v is) t.status) o))) own
        ∙ ap (flag_of w subs) (told_made [] kind_flags m (with_flag subs v is) o (flags_noted v is subs) t.status.volumes same refl (flag_made subs v is))
        ∙ flag_other v w is subs (told_of [] kind_flags (status_at t.status o)) (other_of_two m.0 o.0 v.0 w.0 named same)
    | inr apart ↦ ap (flag_of w (subs_of t.plan o)) (told_other [] kind_flags m (with_flag (subs_of t.plan m) v is) o t.status.volumes apart)
  ]

  subs_left : (n : Note) → names_sub n o w ≡ false → offline_at (noted_of t n) o w ≡ offline_at t o w
  subs_left (Part at note) named = ap (flag_of w (subs_of t.plan o)) (told_same [] kind_flags at.volume (with_part at.place (part_noted note)) o t.status.volumes (part_flags at.place (part_noted note)))
  subs_left (SpareBroken s) named = refl
  subs_left (SpareAvailable s) named = refl
  subs_left (RegionsDirty m range) named = ap (flag_of w (subs_of t.plan o)) (told_same [] kind_flags m (with_regions range true) o t.status.volumes (regions_flags range true))
  subs_left (RegionsClean m range) named = ap (flag_of w (subs_of t.plan o)) (told_same [] kind_flags m (with_regions range false) o t.status.volumes (regions_flags range false))
  subs_left (SubOffline m v) named = flag_left m v true named
  subs_left (SubOnline m v) named =
      ap (flag_of w (subs_of t.plan o)) (told_same [] kind_flags v (with_parts (part_resumed (has_dirty (dirty_of t.status m)))) o (map (restated m (with_flag (subs_of t.plan m) v false)) t.status.volumes) (parts_flags (part_resumed (has_dirty (dirty_of t.status m)))))
      ∙ flag_left m v false named
  subs_left (RaidOkay v) named = ap (flag_of w (subs_of t.plan o)) (told_same [] kind_flags v with_raid_done o t.status.volumes done_flags)

raids_left : (t : Table) (n : Note) (w : VolId) → names_raid n w ≡ false → raid_at (status_after t n) w ≡ raid_at t.status w
raids_left t (Part at note) w named = told_same None kind_state at.volume (with_part at.place (part_noted note)) w t.status.volumes (part_state at.place (part_noted note))
raids_left t (SpareBroken s) w named = refl
raids_left t (SpareAvailable s) w named = refl
raids_left t (RegionsDirty m range) w named = told_same None kind_state m (with_regions range true) w t.status.volumes (regions_state range true)
raids_left t (RegionsClean m range) w named = told_same None kind_state m (with_regions range false) w t.status.volumes (regions_state range false)
raids_left t (SubOffline m v) w named = told_same None kind_state m (with_flag (subs_of t.plan m) v true) w t.status.volumes (flag_state (subs_of t.plan m) v true)
raids_left t (SubOnline m v) w named =
    told_same None kind_state v (with_parts (part_resumed (has_dirty (dirty_of t.status m)))) w (map (restated m (with_flag (subs_of t.plan m) v false)) t.status.volumes) (parts_state (part_resumed (has_dirty (dirty_of t.status m))))
    ∙ told_same None kind_state m (with_flag (subs_of t.plan m) v false) w t.status.volumes (flag_state (subs_of t.plan m) v false)
raids_left t (RaidOkay v) w named = told_other None kind_state v with_raid_done w t.status.volumes (other_of v.0 w.0 named)

spare_states_left : (t : Table) (n : Note) (s : SliceName) → names_spare t n s ≡ false → spare_at (status_after t n) s ≡ spare_at t.status s
spare_states_left t (Part at note) s named = spares_left note (spare_under t.status at) s t.status.spares named
spare_states_left t (SpareBroken b) s named = spare_other b s Broken t.status.spares named
spare_states_left t (SpareAvailable a) s named = spare_other a s Available t.status.spares named
spare_states_left t (RegionsDirty m range) s named = refl
spare_states_left t (RegionsClean m range) s named = refl
spare_states_left t (SubOffline m v) s named = refl
spare_states_left t (SubOnline m v) s named = refl
spare_states_left t (RaidOkay v) s named = refl

pub left_alone : (t : Table) (n : Note) → LeavesOthers t n
left_alone t n = record {
  parts = parts_left t n;
  regions = λ m r. regions_left t m r n;
  subs = λ m v. subs_left t m v n;
  raids = raids_left t n;
  spares = spare_states_left t n;
}
