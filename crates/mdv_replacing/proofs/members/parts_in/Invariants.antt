use Rattle.std.proofs.Common.{◌≡◌, map, take}
use Rattle.mdv_replacing.specs.Members.{part_in}
use Rattle.mdv_replacing.proofs.members.parts_in.Given as goal

abbrev pub invariant-loop-member : goal.invariant-loop-member
invariant-loop-member l = l.made.items ≡ map part_in (take l.member-index l.members)
