-- A block that lies in one place alone: what belongs to it, and what is read of it.
use Rattle.std.proofs.Common.{◌≡◌, inl, inr, ℕ, List, refl, ◌∙◌, ap}
use Rattle.mdv_map.specs.Below.{Among, Image}
use Rattle.mdv_map.specs.Maps.{readings}
use Rattle.mdv_map.proofs.Copies.{copy_of, reading_of}
use Rattle.mdv_dev.specs.Below.{HasDriveBlock, Map}
use Rattle.mdv_dev.specs.Pieces.{LiesAt, drive_of}

module _ (v : Map) (b drive block : ℕ) (there : LiesAt v b drive block) where
  -- that block of the drive belongs to it, and no other does
  pub has_place : HasDriveBlock (v.places b) drive block
  has_place = rw there.places (inl (refl, refl))

  pub has_copy : HasDriveBlock (v.copies b) drive block
  has_copy = rw there.copies (inl (refl, refl))

  pub one_place : (other number : ℕ) → HasDriveBlock (v.places b) other number → (other ≡ drive) × (number ≡ block)
  one_place other number has = elim (rw there.places at has) [ inl here ↦ here | inr none ↦ absurd none ]

  pub one_copy : (other number : ℕ) → HasDriveBlock (v.copies b) other number → (other ≡ drive) × (number ≡ block)
  one_copy other number has = elim (rw there.copies at has) [ inl here ↦ here | inr none ↦ absurd none ]

  pub drive_is : drive_of (v.copies b) ≡ drive
  drive_is = ap drive_of there.copies

  -- what it holds is read, and nothing else
  pub reads_there : (image : Image) → Among (readings v image b) (image drive block)
  reads_there image = reading_of image (v.copies b) drive block has_copy

  pub one_reading : (image : Image) (x : List ℕ) → Among (readings v image b) x → x ≡ image drive block
  one_reading image x reading =
      let copy = copy_of image (v.copies b) x reading in
      let at = one_copy copy.drive copy.block copy.has in
      copy.is ∙ ap (λ (d : ℕ). image d copy.block) at.0 ∙ ap (image drive) at.1
