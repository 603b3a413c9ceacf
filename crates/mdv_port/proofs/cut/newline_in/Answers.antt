use Rattle.mdv_port.proofs.Firsts.{first_byte_is}
use Rattle.mdv_port.proofs.cut.newline_in.Goals as goal

pub returns : goal.returns
returns c = first_byte_is c.args.bytes.now c.memchr.result c.memchr.ensures
