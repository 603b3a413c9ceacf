-- What a change of a volume's states makes of each thing that they tell.
use Rattle.std.proofs.Common.{◌≡◌, ℕ, refl, Bool, List}
use Rattle.std.specs.Option.{option_map}
use Rattle.mdv_notes.specs.Below.{VolId, KindStatus, StripeNoted, MirrorNoted, RaidNoted, SoftNoted, PartStatus, RaidDone}
use Rattle.mdv_notes.specs.Flags.{flags_noted}
use Rattle.mdv_notes.specs.Noted.{with_flag, with_part, with_parts, with_raid_done, with_regions}
use Rattle.mdv_notes.specs.Parts.{changed_at}
use Rattle.mdv_notes.specs.Regions.{regions_noted}
use Rattle.mdv_notes.specs.Told.{kind_parts, kind_dirty, kind_flags, kind_state}
use Rattle.mdv_notes.specs.declared.note.RegionRange.{RegionRange}

module _ (n : ℕ) (f : PartStatus → PartStatus) where
  pub part_made : (k : KindStatus) → kind_parts (with_part n f k) ≡ changed_at n f (kind_parts k)
  part_made (StripeNoted parts) = refl
  part_made (MirrorNoted m) = refl
  part_made (RaidNoted r) = refl
  part_made SoftNoted = refl

  pub part_dirty : (k : KindStatus) → kind_dirty (with_part n f k) ≡ kind_dirty k
  part_dirty (StripeNoted parts) = refl
  part_dirty (MirrorNoted m) = refl
  part_dirty (RaidNoted r) = refl
  part_dirty SoftNoted = refl

  pub part_flags : (k : KindStatus) → kind_flags (with_part n f k) ≡ kind_flags k
  part_flags (StripeNoted parts) = refl
  part_flags (MirrorNoted m) = refl
  part_flags (RaidNoted r) = refl
  part_flags SoftNoted = refl

  pub part_state : (k : KindStatus) → kind_state (with_part n f k) ≡ kind_state k
  part_state (StripeNoted parts) = refl
  part_state (MirrorNoted m) = refl
  part_state (RaidNoted r) = refl
  part_state SoftNoted = refl

module _ (f : PartStatus → PartStatus) where
  pub parts_dirty : (k : KindStatus) → kind_dirty (with_parts f k) ≡ kind_dirty k
  parts_dirty (StripeNoted parts) = refl
  parts_dirty (MirrorNoted m) = refl
  parts_dirty (RaidNoted r) = refl
  parts_dirty SoftNoted = refl

  pub parts_flags : (k : KindStatus) → kind_flags (with_parts f k) ≡ kind_flags k
  parts_flags (StripeNoted parts) = refl
  parts_flags (MirrorNoted m) = refl
  parts_flags (RaidNoted r) = refl
  parts_flags SoftNoted = refl

  pub parts_state : (k : KindStatus) → kind_state (with_parts f k) ≡ kind_state k
  parts_state (StripeNoted parts) = refl
  parts_state (MirrorNoted m) = refl
  parts_state (RaidNoted r) = refl
  parts_state SoftNoted = refl

module _ (range : RegionRange) (dirty : Bool) where
  pub regions_made : (k : KindStatus) → kind_dirty (with_regions range dirty k) ≡ regions_noted range dirty 0 (kind_dirty k)
  regions_made (StripeNoted parts) = refl
  regions_made (MirrorNoted m) = refl
  regions_made (RaidNoted r) = refl
  regions_made SoftNoted = refl

  pub regions_parts : (k : KindStatus) → kind_parts (with_regions range dirty k) ≡ kind_parts k
  regions_parts (StripeNoted parts) = refl
  regions_parts (MirrorNoted m) = refl
  regions_parts (RaidNoted r) = refl
  regions_parts SoftNoted = refl

  pub regions_flags : (k : KindStatus) → kind_flags (with_regions range dirty k) ≡ kind_flags k
  regions_flags (StripeNoted parts) = refl
  regions_flags (MirrorNoted m) = refl
  regions_flags (RaidNoted r) = refl
  regions_flags SoftNoted = refl

  pub regions_state : (k : KindStatus) → kind_state (with_regions range dirty k) ≡ kind_state k
  regions_state (StripeNoted parts) = refl
  regions_state (MirrorNoted m) = refl
  regions_state (RaidNoted r) = refl
  regions_state SoftNoted = refl

module _ (vs : List VolId) (v : VolId) (is : Bool) where
  pub flag_made : (k : KindStatus) → kind_flags (with_flag vs v is k) ≡ flags_noted v is vs (kind_flags k)
  flag_made (StripeNoted parts) = refl
  flag_made (MirrorNoted m) = refl
  flag_made (RaidNoted r) = refl
  flag_made SoftNoted = refl

  pub flag_parts : (k : KindStatus) → kind_parts (with_flag vs v is k) ≡ kind_parts k
  flag_parts (StripeNoted parts) = refl
  flag_parts (MirrorNoted m) = refl
  flag_parts (RaidNoted r) = refl
  flag_parts SoftNoted = refl

  pub flag_dirty : (k : KindStatus) → kind_dirty (with_flag vs v is k) ≡ kind_dirty k
  flag_dirty (StripeNoted parts) = refl
  flag_dirty (MirrorNoted m) = refl
  flag_dirty (RaidNoted r) = refl
  flag_dirty SoftNoted = refl

  pub flag_state : (k : KindStatus) → kind_state (with_flag vs v is k) ≡ kind_state k
  flag_state (StripeNoted parts) = refl
  flag_state (MirrorNoted m) = refl
  flag_state (RaidNoted r) = refl
  flag_state SoftNoted = refl

pub done_made : (k : KindStatus) → kind_state (with_raid_done k) ≡ option_map (λ was. RaidDone) (kind_state k)
done_made (StripeNoted parts) = refl
done_made (MirrorNoted m) = refl
done_made (RaidNoted r) = refl
done_made SoftNoted = refl

pub done_parts : (k : KindStatus) → kind_parts (with_raid_done k) ≡ kind_parts k
done_parts (StripeNoted parts) = refl
done_parts (MirrorNoted m) = refl
done_parts (RaidNoted r) = refl
done_parts SoftNoted = refl

pub done_dirty : (k : KindStatus) → kind_dirty (with_raid_done k) ≡ kind_dirty k
done_dirty (StripeNoted parts) = refl
done_dirty (MirrorNoted m) = refl
done_dirty (RaidNoted r) = refl
done_dirty SoftNoted = refl

pub done_flags : (k : KindStatus) → kind_flags (with_raid_done k) ≡ kind_flags k
done_flags (StripeNoted parts) = refl
done_flags (MirrorNoted m) = refl
done_flags (RaidNoted r) = refl
done_flags SoftNoted = refl
