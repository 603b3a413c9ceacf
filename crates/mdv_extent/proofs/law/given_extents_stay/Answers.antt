use Rattle.std.proofs.Common.{◌++◌}
use Rattle.mdv_extent.proofs.Taking.{given_are_taken}
use Rattle.mdv_extent.proofs.Testing.{apart_from_test}
use Rattle.mdv_extent.proofs.law.given_extents_stay.Goals as goal

pub returns : goal.returns
returns c = λ blocks used given few is. given_are_taken blocks used given few (apart_from_test blocks (used ++ given) is)
