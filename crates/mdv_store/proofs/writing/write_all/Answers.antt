use Rattle.std.proofs.Common.{◌+◌, ℕ, length, subst}
use Rattle.mdv_shelf.proofs.Moments.{moments_weaker}
use Rattle.mdv_store.specs.Counts.{ArePassCounted}
use Rattle.mdv_store.specs.Passing.{WentBy, slotting}
use Rattle.mdv_store.specs.Slots.{SlottingMoment}
use Rattle.mdv_store.specs.Text.{IsSpelled}
use Rattle.mdv_store.specs.Writing.{WritingMoment}
use Rattle.mdv_store.proofs.Texts.{spelled_long}
use Rattle.mdv_store.proofs.writing.write_all.Goals as goal

pub returns-clause-moments : goal.returns-clause-moments
returns-clause-moments g c =
    let seats = c.args.seats.now in
    let table = c.args.table.now in
    let body = c.spell-text.result.body.now in
    let spelled = c.spell-text.ensures.spelled in
    moments_weaker (SlottingMoment seats c.args.mark c.spell-text.result.bytes body) (WritingMoment seats c.args.mark table) _ _
    (λ t m one. record {
      body = body;
      spelled = subst (λ (n : ℕ). IsSpelled table n body) spelled.counted spelled;
      slotting = subst (λ (n : ℕ). SlottingMoment seats c.args.mark n body t m) spelled.counted one;
    })
    c.slot_all.ensures.moments

pub returns-clause-passed : goal.returns-clause-passed
returns-clause-passed g c =
    let seats = c.args.seats.now in
    let table = c.args.table.now in
    let body = c.spell-text.result.body.now in
    let spelled = c.spell-text.ensures.spelled in
    let passed = c.slot_all.ensures.passed in
    record {
      steps = (
        body,
        subst (λ (n : ℕ). IsSpelled table n body) spelled.counted spelled,
        subst (λ (n : ℕ). WentBy g.S.Shelf (slotting c.args.mark n body) c.args.shelf.now seats (length seats) c.slot_all.new.shelf c.slot_all.new.seats) spelled.counted passed.steps,
      );
      counted = subst (λ (n : ℕ). ArePassCounted g.S.Shelf c.args.shelf.now c.slot_all.new.shelf 6 (2 + n) seats c.slot_all.new.seats) (spelled_long table c.spell-text.result.bytes body spelled) passed.counted;
    }
