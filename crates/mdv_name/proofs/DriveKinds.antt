-- The kind that a drive's line spells.
use Rattle.std.proofs.Common.{◌≡◌, ℕ, List, ◌∷◌, codes}
use Rattle.mdv_name.specs.declared.drive_line.DriveKind.{DriveKind}
use Rattle.mdv_name.specs.declared.drive_line.DriveKind.TheVariants.{Own, Shared, Mediator}
use Rattle.mdv_name.specs.DriveIndex.{IsNamed}
use Rattle.mdv_name.specs.Entry.{IsOwner, IsKindOf, drive_words}

pub kind_spelled : (k : DriveKind) (blocks : ℕ) (file a b c : List ℕ) (ws : List (List ℕ)) → IsNamed k → IsOwner k → codes "drive" ∷ a ∷ b ∷ c ∷ ws ≡ drive_words k blocks file → IsKindOf k a c
kind_spelled (Own drive host) blocks file a b c ws named owner is = (cc, cc, named, owner)
kind_spelled (Shared drive) blocks file a b c ws named owner is = (cc, cc, named)
kind_spelled (Mediator host) blocks file a b c ws named owner is = cc
