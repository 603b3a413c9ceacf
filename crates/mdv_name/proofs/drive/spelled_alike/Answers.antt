use Rattle.mdv_name.proofs.Drives.{drive_text_injective, slice_text_injective}
use Rattle.mdv_name.proofs.drive.spelled_alike.Goals as goal

pub returns-clause-drives : goal.returns-clause-drives
returns-clause-drives c = drive_text_injective

pub returns-clause-slices : goal.returns-clause-slices
returns-clause-slices c = slice_text_injective
