use Rattle.mdv_listing.proofs.Lines.{listings_are_lines}
use Rattle.mdv_listing.proofs.law.listings_are_lines.Goals as goal

pub returns : goal.returns
returns c = listings_are_lines
