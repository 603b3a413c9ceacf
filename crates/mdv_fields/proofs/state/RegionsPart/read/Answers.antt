use Rattle.mdv_fields.proofs.Fields.{bytes_field}
use Rattle.mdv_fields.proofs.state.RegionsPart.read.Goals as goal

pub returns : goal.returns
returns c = rw c.in_ok-from_slice.ensures (bytes_field 128 c.in_ok-bytes.ensures.ok.0 c.in_ok-bytes.ensures.ok.1)
