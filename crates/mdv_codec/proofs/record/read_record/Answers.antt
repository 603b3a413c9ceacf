use Rattle.std.proofs.lemmas.Result.{err_from_is_err_and}
use Rattle.mdv_codec.proofs.Records.{unread_head, unread_size, other_size, unread_body, more_behind, whole}
use Rattle.mdv_codec.proofs.record.read_record.Goals as goal

pub returns-in_err-read_head : goal.returns-in_err-read_head
returns-in_err-read_head c =
    let told = err_from_is_err_and c.from_residual.result c.from_residual.ensures.1 in
    rw (told.1, told.2) (unread_head (rw c.new-rest.ensures at c.in_err-read_head.ensures))

pub returns-in_err-size : goal.returns-in_err-size
returns-in_err-size c =
    let told = err_from_is_err_and c.from_residual-in_err-size.result c.from_residual-in_err-size.ensures.1 in
    rw (told.1, told.2) (unread_size (rw c.new-rest.ensures at c.in_ok-read_head.ensures) c.in_err-size.ensures)

pub returns-then-size-bytes : goal.returns-then-size-bytes
returns-then-size-bytes c = other_size (rw c.new-rest.ensures at c.in_ok-read_head.ensures) c.in_ok-size.ensures c.if-size-bytes.true

pub returns-in_err-recorded : goal.returns-in_err-recorded
returns-in_err-recorded c =
    let told = err_from_is_err_and c.from_residual-in_err-recorded.result c.from_residual-in_err-recorded.ensures.1 in
    rw (told.1, told.2) (unread_body (rw c.new-rest.ensures at c.in_ok-read_head.ensures) c.in_ok-size.ensures c.in_err-recorded.ensures)

pub returns-then-is_empty : goal.returns-then-is_empty
returns-then-is_empty c =
    whole (rw c.new-rest.ensures at c.in_ok-read_head.ensures) c.in_ok-size.ensures c.in_ok-recorded.ensures c.if-size-bytes.false (c.is_empty.ensures.0 c.if-is_empty.true)

pub returns-else-is_empty : goal.returns-else-is_empty
returns-else-is_empty c =
    more_behind (rw c.new-rest.ensures at c.in_ok-read_head.ensures) c.in_ok-size.ensures c.in_ok-recorded.ensures (λ empty. cc (c.is_empty.ensures.1 empty, c.if-is_empty.false))
