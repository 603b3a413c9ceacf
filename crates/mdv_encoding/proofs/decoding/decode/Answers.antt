use Rattle.std.proofs.Common.{◌∙◌, ap, Err}
use Rattle.std.proofs.lemmas.Result.{err_from_is_err_and}
use Rattle.mdv_encoding.proofs.Reading.{none_decoded, not_a_record, too_long, is_record}
use Rattle.mdv_encoding.proofs.Reading.{is_read, none_of_decoded}
use Rattle.mdv_encoding.proofs.decoding.decode.Goals as goal

pub returns-in_err-table-clause-decoded : goal.returns-in_err-table-clause-decoded
returns-in_err-table-clause-decoded c =
    let told = err_from_is_err_and c.from_residual.result c.from_residual.ensures.1 in
    none_decoded c.args.geometry.now c.requires c.from_residual.result c.in_err-table.field-0.0 (told.1 ∙ ap Err told.2) c.in_err-table.ensures

pub returns-in_err-table-clause-none : goal.returns-in_err-table-clause-none
returns-in_err-table-clause-none c = none_of_decoded c.args.geometry.now c.requires c.args.bytes.now c.from_residual.result (returns-in_err-table-clause-decoded c)

pub returns-then-not-has_room-clause-decoded : goal.returns-then-not-has_room-clause-decoded
returns-then-not-has_room-clause-decoded c = too_long c.args.geometry.now c.requires c.in_ok-table.table (λ short. cc (c.has_room.ensures.1 short, c.if-not-has_room.true)) c.in_ok-table.ensures

pub returns-then-not-has_room-clause-none : goal.returns-then-not-has_room-clause-none
returns-then-not-has_room-clause-none c = none_of_decoded c.args.geometry.now c.requires c.args.bytes.now _ (returns-then-not-has_room-clause-decoded c)

pub returns-then-is_of_geometry-clause-decoded : goal.returns-then-is_of_geometry-clause-decoded
returns-then-is_of_geometry-clause-decoded c =
    let short = c.has_room.ensures.0 c.if-not-has_room.false in
    record {
      table = is_record c.args.geometry.now c.requires c.in_ok-table.table (c.is_of_geometry.ensures.0 c.if-is_of_geometry.true) short c.in_ok-table.ensures;
      none = λ told. cc (told);
    }

pub returns-then-is_of_geometry-clause-read : goal.returns-then-is_of_geometry-clause-read
returns-then-is_of_geometry-clause-read c = (is_read c.args.geometry.now c.requires c.args.bytes.now c.in_ok-table.table).1 (returns-then-is_of_geometry-clause-decoded c).table

pub returns-else-is_of_geometry-clause-decoded : goal.returns-else-is_of_geometry-clause-decoded
returns-else-is_of_geometry-clause-decoded c = not_a_record c.args.geometry.now c.requires c.in_ok-table.table (λ is. cc (c.is_of_geometry.ensures.1 is.of_geometry, c.if-is_of_geometry.false)) c.in_ok-table.ensures

pub returns-else-is_of_geometry-clause-none : goal.returns-else-is_of_geometry-clause-none
returns-else-is_of_geometry-clause-none c = none_of_decoded c.args.geometry.now c.requires c.args.bytes.now _ (returns-else-is_of_geometry-clause-decoded c)
