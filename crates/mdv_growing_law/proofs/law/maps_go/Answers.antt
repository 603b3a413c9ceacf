use Rattle.mdv_growing_law.proofs.Going.{maps_go}
use Rattle.mdv_growing_law.proofs.law.maps_go.Goals as goal

pub returns : goal.returns
returns c = maps_go
