use Rattle.mdv_name.proofs.Finding.{found_is, found_sound}
use Rattle.mdv_plan.proofs.clash.slice_at.Goals as goal

pub returns-clause-value : goal.returns-clause-value
returns-clause-value c = found_is c.args.geometry.now c.args.name c.find.result c.requires c.find.ensures.value c.find.ensures.none

pub returns-clause-sound : goal.returns-clause-sound
returns-clause-sound c = found_sound c.args.geometry.now c.args.name c.find.result c.requires c.find.ensures.value
