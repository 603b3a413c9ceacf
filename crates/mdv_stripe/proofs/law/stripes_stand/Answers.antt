use Rattle.mdv_stripe.proofs.Legs.{stripes_stand}
use Rattle.mdv_stripe.proofs.law.stripes_stand.Goals as goal

pub returns : goal.returns
returns c = stripes_stand
