use Rattle.std.proofs.Common.{refl, subst}
use Rattle.std.proofs.lemmas.Bool.{false≢true}
use Rattle.std.proofs.lemmas.List.{take_all}
use Rattle.mdv_config.proofs.Pairs.{Differ, differ_more, never_differ}
use Rattle.mdv_config.proofs.of_geometry.do_differ.Goals as goal

pub returns-then-is_among : goal.returns-then-is_among
returns-then-is_among c = (λ test. cc, λ differ. absurd (never_differ c.args.places.now c.loop-index.index _ c.loop-index-test.true (c.if-is_among.ensures.0 refl) differ))

pub loop-index-preserved : goal.loop-index-preserved
loop-index-preserved c = differ_more c.args.places.now c.loop-index.index _ c.loop-index-test.true c.loop-index.invariant (λ among. absurd (false≢true (c.if-is_among.ensures.1 among)))

pub returns : goal.returns
returns c = (λ test. subst Differ (take_all c.loop-index.index c.args.places.now c.loop-index-test.false) c.loop-index.invariant, λ differ. refl)
