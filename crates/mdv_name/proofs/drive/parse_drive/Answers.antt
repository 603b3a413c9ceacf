use Rattle.std.proofs.Common.{[]}
use Rattle.mdv_name.proofs.Drives.{one_drive, whole_drive, never_empty}
use Rattle.mdv_name.proofs.drive.parse_drive.Goals as goal

pub returns-else-is_empty-clause-none : goal.returns-else-is_empty-clause-none
returns-else-is_empty-clause-none c = λ d form is.
    let same = one_drive _ _ d _ [] c.in_ok-drive.ensures.value (whole_drive _ d form is) in
    never_empty c.in_ok-drive.rest.now c.is_empty.result c.is_empty.ensures c.if-is_empty.false same.1
