use Rattle.mdv_codec.proofs.Records.{length-record_text}
use Rattle.mdv_whole.specs.Sides.{recorded_with}
use Rattle.mdv_whole.proofs.encoding.text_bytes_with.Goals as goal

pub returns : goal.returns
returns c = rw (length-record_text (recorded_with c.args.table.now c.args.lists.now)) c.lay_body.ensures.told
