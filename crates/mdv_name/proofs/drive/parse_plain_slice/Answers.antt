use Rattle.std.proofs.Common.{ℕ, List, [], arith, subst, sym}
use Rattle.mdv_name.specs.Numeral.{BeginsWithPart}
use Rattle.mdv_name.proofs.Numerals.{one_part}
use Rattle.mdv_name.proofs.Drives.{one_drive, slice_parts, slice_on, never_empty}
use Rattle.mdv_name.proofs.drive.parse_plain_slice.Goals as goal
use Rattle.mdv_name.proofs.drive.parse_plain_slice.Goals.{then-slice-gt7-via-then-slice-gt7, then-slice-gt7-via-else-slice-gt7+then-not-is_empty}

pub returns-in_err-slice-clause-none : goal.returns-in_err-slice-clause-none
returns-in_err-slice-clause-none c =
    rw c.from_residual-in_err-slice.ensures (λ s form is.
    let parts = slice_parts _ s form is in
    let drive = one_drive _ _ s.drive _ (slice_on s) c.in_ok-drive.ensures.value parts.drive in
    c.in_err-slice.ensures.none s.slice [] (subst (λ (l : List ℕ). BeginsWithPart 115 l s.slice []) (sym drive.1) parts.slice))

pub returns-then-slice-gt7-clause-none : goal.returns-then-slice-gt7-clause-none
returns-then-slice-gt7-clause-none c = λ s form is.
    let parts = slice_parts _ s form is in
    let drive = one_drive _ _ s.drive _ (slice_on s) c.in_ok-drive.ensures.value parts.drive in
    let slice = one_part 115 _ _ s.slice _ [] c.in_ok-slice.ensures.value (subst (λ (l : List ℕ). BeginsWithPart 115 l s.slice []) (sym drive.1) parts.slice) in
    elim c.then-slice-gt7.branch [ then-slice-gt7-via-then-slice-gt7 w ↦ omega (arith, slice.0, form.slice) | then-slice-gt7-via-else-slice-gt7+then-not-is_empty w ↦ never_empty c.in_ok-slice.rest.now w.is_empty.result w.is_empty.ensures w.if-not-is_empty.true slice.1 ]
