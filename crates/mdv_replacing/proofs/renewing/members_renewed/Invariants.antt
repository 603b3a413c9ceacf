use Rattle.std.proofs.Common.{◌≡◌, map, take}
use Rattle.mdv_replacing.specs.Renewing.{part_renewed}
use Rattle.mdv_replacing.proofs.renewing.members_renewed.Given as goal

abbrev pub invariant-loop-member : goal.invariant-loop-member
invariant-loop-member g l = l.made ≡ map (part_renewed l.base) (take l.member-index l.members)
