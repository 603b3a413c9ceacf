use Rattle.std.proofs.Common.{◌≡◌, drop, None}
use Rattle.mdv_votes.specs.Family.{newest_of as spec_newest_of}
use Rattle.mdv_votes.proofs.family.newest_of.Given as goal

abbrev pub invariant-loop-p : goal.invariant-loop-p
invariant-loop-p l = spec_newest_of l.family l.places None l.read ≡ spec_newest_of l.family l.places l.best (drop l.p-index l.read)
