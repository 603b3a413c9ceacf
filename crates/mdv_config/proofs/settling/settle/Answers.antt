use Rattle.std.proofs.Common.{sym, subst}
use Rattle.mdv_config.specs.Below.{Lists}
use Rattle.mdv_config.specs.Lists.{with_lists}
use Rattle.mdv_config.specs.Table.{IsOfGeometry}
use Rattle.mdv_config.proofs.Settled.{settled_of}
use Rattle.mdv_config.proofs.settling.settle.Goals as goal

pub returns-clause-of_geometry : goal.returns-clause-of_geometry
returns-clause-of_geometry c g is = subst (λ (l : Lists). IsOfGeometry g (with_lists c.args.table l)) (sym c.settle_lists-lists.ensures) (settled_of g c.args.table is)
