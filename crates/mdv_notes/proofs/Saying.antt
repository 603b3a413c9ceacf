-- What a note names is as it says.
use Rattle.std.proofs.Common.{◌≡◌, ◌<◌, ◌*◌, ◌==◌, ℕ, refl, ◌∙◌, ap, Bool, true, false, List, [], length, map, Option, None, Some, arith}
use Rattle.std.specs.Prelude.{slice_get}
use Rattle.std.specs.List.{find}
use Rattle.std.specs.Option.{option_map}
use Rattle.std.proofs.lemmas.Option.{slice_get-map}
use Rattle.std.proofs.lemmas.Bool.Decides.{nat_tests}
use Rattle.mdv_notes.specs.Below.{VolId, SliceName, KindStatus, StripeNoted, MirrorNoted, RaidNoted, SoftNoted, PartStatus, VolumeStatus, Table, Available, Broken, RaidDone}
use Rattle.mdv_notes.specs.Flags.{flags_noted, subs_of}
use Rattle.mdv_notes.specs.Named.{IsSaid, PartIsSaid, SubIsBack, is_slice, is_stripe}
use Rattle.mdv_notes.specs.Noted.{restated, with_kind, with_flag, with_part, with_parts, with_raid_done, with_regions}
use Rattle.mdv_notes.specs.Parts.{changed_at, part_noted, part_resumed}
use Rattle.mdv_notes.specs.Regions.{in_range, is_region_dirty, regions_noted, has_dirty}
use Rattle.mdv_notes.specs.Told.{status_at, told_of, kind_parts, spare_under, kind_dirty, dirty_of, region_at, kind_flags, flag_of, offline_at, kind_state}
use Rattle.mdv_notes.specs.declared.note.Note.{Note}
use Rattle.mdv_notes.specs.declared.note.Note.TheVariants.{Part, SpareBroken, SpareAvailable, RegionsDirty, RegionsClean, SubOffline, SubOnline, RaidOkay}
use Rattle.mdv_notes.specs.declared.note.PartAt.{PartAt}
use Rattle.mdv_notes.specs.declared.note.PartNote.{PartNote}
use Rattle.mdv_notes.specs.declared.note.RegionRange.{RegionRange}
use Rattle.mdv_notes.proofs.Bits.{region_own}
use Rattle.mdv_notes.proofs.Lists.{get_own, flag_own}
use Rattle.mdv_notes.proofs.Making.{part_made, parts_flags, regions_made, flag_made, flag_parts, done_made}
use Rattle.mdv_notes.proofs.SpareStates.{spare_own, spares_taken, spares_gone}
use Rattle.mdv_notes.proofs.Telling.{told_made, told_own, told_same}

part_said : (t : Table) (at : PartAt) (note : PartNote) → PartIsSaid t at note
part_said t at note =
    let f = part_noted note in
    record {
      part =
          ap (λ (ps : List PartStatus). slice_get ps at.place) (told_made [] kind_parts at.volume (with_part at.place f) at.volume (changed_at at.place f) t.status.volumes refl refl (part_made at.place f))
          ∙ get_own f (told_of [] kind_parts (status_at t.status at.volume)) at.place;
      taken = λ s named. spares_taken note (spare_under t.status at) s t.status.spares named;
      left = λ s not_taken named. spares_gone note (spare_under t.status at) s t.status.spares not_taken named;
    }

regions_said : (t : Table) (m : VolId) (range : RegionRange) (dirty : Bool) (r : ℕ) → in_range range r ≡ true → r < 8 * length (dirty_of t.status m) → region_at (with_kind m (with_regions range dirty) t.status) m r ≡ dirty
regions_said t m range dirty r named within =
    ap (λ (bytes : List ℕ). is_region_dirty bytes r) (told_made [] kind_dirty m (with_regions range dirty) m (regions_noted range dirty 0) t.status.volumes refl refl (regions_made range dirty))
    ∙ region_own range dirty 0 r r (dirty_of t.status m) (omega arith) within named

flag_said : (t : Table) (m v : VolId) (is : Bool) → flag_of v (subs_of t.plan m) (told_of [] kind_flags (status_at (with_kind m (with_flag (subs_of t.plan m) v is) t.status) m)) ≡ option_map (λ was. is) (offline_at t m v)
flag_said t m v is =
    let subs = subs_of t.plan m in
    ap (flag_of v subs) (told_made [] kind_flags m (with_flag subs v is) m (flags_noted v is subs) t.status.volumes refl refl (flag_made subs v is))
    ∙ flag_own v v is subs (told_of [] kind_flags (status_at t.status m)) refl

-- of a stripe
stripe_parts : (f : PartStatus → PartStatus) (o : Option VolumeStatus) → told_of false is_stripe o ≡ true → told_of [] (λ k. kind_parts (with_parts f k)) o ≡ map f (told_of [] kind_parts o)
stripe_parts f None is = refl
stripe_parts f (Some s) is = of_kind s.kind is
  where
    of_kind : (k : KindStatus) → is_stripe k ≡ true → kind_parts (with_parts f k) ≡ map f (kind_parts k)
    of_kind (StripeNoted parts) is = refl
    of_kind (MirrorNoted m) is = refl
    of_kind (RaidNoted r) is = grind (arith, is)
    of_kind SoftNoted is = refl

sub_said : (t : Table) (m v : VolId) → SubIsBack t m v
sub_said t m v =
    let f = part_resumed (has_dirty (dirty_of t.status m)) in
    let flags = with_flag (subs_of t.plan m) v false in
    let between = map (restated m flags) t.status.volumes in
    record {
      flag = ap (flag_of v (subs_of t.plan m)) (told_same [] kind_flags v (with_parts f) m between (parts_flags f)) ∙ flag_said t m v false;
      parts = λ at same stripe.
          let kept = told_same false is_stripe m flags at.volume t.status.volumes (flag_stripe (subs_of t.plan m) v false) in
          ap (λ (ps : List PartStatus). slice_get ps at.place)
          (told_own [] kind_parts v (with_parts f) at.volume between same
          ∙ stripe_parts f (find (λ x. x.number.0 == at.volume.0) between) (kept ∙ stripe)
          ∙ ap (map f) (told_same [] kind_parts m flags at.volume t.status.volumes (flag_parts (subs_of t.plan m) v false)))
          ∙ slice_get-map f (told_of [] kind_parts (status_at t.status at.volume)) at.place;
    }
  where
    flag_stripe : (vs : List VolId) (w : VolId) (is : Bool) (k : KindStatus) → is_stripe (with_flag vs w is k) ≡ is_stripe k
    flag_stripe vs w is (StripeNoted parts) = refl
    flag_stripe vs w is (MirrorNoted n) = refl
    flag_stripe vs w is (RaidNoted r) = refl
    flag_stripe vs w is SoftNoted = refl

same_slice : (s : SliceName) → is_slice s s ≡ true
same_slice s = grind (arith, nat_tests)

pub said : (t : Table) (n : Note) → IsSaid t n
said t (Part at note) = part_said t at note
said t (SpareBroken s) = spare_own s s Broken t.status.spares (same_slice s)
said t (SpareAvailable s) = spare_own s s Available t.status.spares (same_slice s)
said t (RegionsDirty m range) = λ r named within. regions_said t m range true r named within
said t (RegionsClean m range) = λ r named within. regions_said t m range false r named within
said t (SubOffline m v) = flag_said t m v true
said t (SubOnline m v) = sub_said t m v
said t (RaidOkay v) = told_made None kind_state v with_raid_done v (option_map (λ was. RaidDone)) t.status.volumes refl refl done_made
