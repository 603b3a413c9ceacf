use Rattle.std.proofs.lemmas.Bool.Decides.{Decides-eqb, not_from_Decides}
use Rattle.std.proofs.lemmas.Result.{err_from_is_err_and}
use Rattle.std.proofs.lemmas.Slice.Eq.{slice_eq-Decides}
use Rattle.mdv_codec.proofs.Records.{head_is, head_other, head_short}
use Rattle.mdv_codec.proofs.record.read_head.Goals as goal

pub returns-in_err-bytes : goal.returns-in_err-bytes
returns-in_err-bytes c =
    let told = err_from_is_err_and c.from_residual.result c.from_residual.ensures.1 in
    rw (told.1, told.2) (head_short c.in_err-bytes.ensures.err.1)

pub returns-then-eq : goal.returns-then-eq
returns-then-eq c =
    let field = c.in_ok-bytes.ensures.ok in
    let same = (slice_eq-Decides Decides-eqb c.in_ok-bytes.field-0.now c.as_slice.result.now c.eq.result c.eq.ensures).0 c.if-eq.true in
    head_is (rw c.as_slice.ensures at same) field.1

pub returns-else-eq : goal.returns-else-eq
returns-else-eq c =
    let field = c.in_ok-bytes.ensures.ok in
    let other = not_from_Decides c.eq.result (slice_eq-Decides Decides-eqb c.in_ok-bytes.field-0.now c.as_slice.result.now c.eq.result c.eq.ensures) c.if-eq.false in
    head_other field.0 (rw c.as_slice.ensures at other) field.1
