use Rattle.std.proofs.Common.{◌≡◌, drop}
use Rattle.mdv_votes.specs.Family.{greatest_of as spec_greatest_of}
use Rattle.mdv_votes.proofs.family.greatest_of.Given as goal

abbrev pub invariant-loop-p : goal.invariant-loop-p
invariant-loop-p l = spec_greatest_of l.family l.places 0 l.read ≡ spec_greatest_of l.family l.places l.best (drop l.p-index l.read)
