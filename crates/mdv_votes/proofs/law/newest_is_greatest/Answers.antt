use Rattle.mdv_votes.proofs.Newest.{newest_is_greatest as greatest, none_is_shown, greatest_is_newest}
use Rattle.mdv_votes.proofs.law.newest_is_greatest.Goals as goal

pub returns : goal.returns
returns c = record { greatest = greatest; none = none_is_shown; chosen = greatest_is_newest }
