use Rattle.mdv_listing.proofs.Told.{all_told, named_told}
use Rattle.mdv_listing.proofs.law.listings_tell_volumes.Goals as goal

pub returns-clause-all : goal.returns-clause-all
returns-clause-all c = all_told

pub returns-clause-named : goal.returns-clause-named
returns-clause-named c = named_told
