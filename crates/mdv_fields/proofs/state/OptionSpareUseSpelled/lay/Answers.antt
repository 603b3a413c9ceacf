use Rattle.mdv_fields.proofs.Placing.{laid_then}
use Rattle.mdv_fields.specs.Names.{slice_text}
use Rattle.mdv_fields.specs.Numbers.{u64_text}
use Rattle.mdv_fields.proofs.state.OptionSpareUseSpelled.lay.Goals as goal

pub returns-in-None : goal.returns-in-None
unfolding slice_text u64_text
returns-in-None c = rw c.in-None.is c.lay.ensures

pub returns-in-Some : goal.returns-in-Some
returns-in-Some c = rw c.in-Some.is (laid_then c.lay-used.ensures (laid_then c.lay-used-in-Some.ensures c.lay-in-Some.ensures))
