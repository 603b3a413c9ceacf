use Rattle.mdv_fields.proofs.Lists.{IsSoFar}
use Rattle.mdv_fields.proofs.list.read_list.Given as goal

abbrev pub invariant-loop : goal.invariant-loop
invariant-loop g l = IsSoFar g.T.Part.fits g.T.Part.text l.fn.rest l.rest l.items l.count l.counter
