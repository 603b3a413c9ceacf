use Rattle.mdv_fields.proofs.Placing.{laid_then}
use Rattle.mdv_codec.specs.Recorded.{kind_text}
use Rattle.mdv_whole.proofs.kinds.lay_kind.Goals as goal

pub returns-in-Stripe : goal.returns-in-Stripe
unfolding kind_text
returns-in-Stripe c = rw c.in-Stripe.is (laid_then c.lay-used.ensures c.lay_stripe.ensures)

pub returns-in-Mirror : goal.returns-in-Mirror
unfolding kind_text
returns-in-Mirror c = rw c.in-Mirror.is (laid_then c.lay-used-in-Mirror.ensures c.lay_mirror.ensures)

pub returns-in-Raid : goal.returns-in-Raid
unfolding kind_text
returns-in-Raid c = rw c.in-Raid.is (laid_then c.lay-used-in-Raid.ensures c.lay_raid.ensures)

pub returns-in-Soft : goal.returns-in-Soft
unfolding kind_text
returns-in-Soft c = rw c.in-Soft.is (laid_then c.lay-used-in-Soft.ensures c.lay_soft.ensures)
