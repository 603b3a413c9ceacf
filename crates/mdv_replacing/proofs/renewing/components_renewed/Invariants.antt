use Rattle.std.proofs.Common.{◌≡◌, map, take}
use Rattle.mdv_replacing.specs.Renewing.{renewed}
use Rattle.mdv_replacing.proofs.renewing.components_renewed.Given as goal

abbrev pub invariant-loop-component : goal.invariant-loop-component
invariant-loop-component g l = l.made ≡ map (renewed l.old l.new l.start) (take l.component-index l.items)
