use Rattle.mdv_stripe.proofs.Legs.{legs_match}
use Rattle.mdv_stripe.proofs.law.legs_match.Goals as goal

pub returns : goal.returns
returns c = legs_match
