use Rattle.std.proofs.Common.{List, ℕ, inl, refl, subst}
use Rattle.mdv_dev.proofs.Failing.{handed_on}
use Rattle.mdv_dev.proofs.Finishing.{ends_badly, ends_well, open_still, same_drives, so_far_more}
use Rattle.mdv_dev.specs.Pieces.{IsOn}
use Rattle.mdv_dev.proofs.work.finish.Goals as goal

pub loop-work-init : goal.loop-work-init
loop-work-init g c = inl (record { same_shelf = refl; same_work = refl; same_buffer = refl })

pub turn-requires-clause-on : goal.turn-requires-clause-on
turn-requires-clause-on g c =
    subst (λ (sizes : List ℕ). IsOn sizes (g.D.Placed.map c.args.device.now)) (same_drives g.S.Shelf (g.D.Placed.map c.args.device.now) c.args.shelf.now c.args.work.now c.args.buffer.now c.loop-work.shelf c.loop-work.work c.loop-work.buffer c.loop-work.invariant) c.requires.on

pub turn-requires-clause-open : goal.turn-requires-clause-open
turn-requires-clause-open g c =
    open_still g.S.Shelf (g.D.Placed.map c.args.device.now) c.args.shelf.now c.args.work.now c.args.buffer.now c.loop-work.shelf c.loop-work.work c.loop-work.buffer c.loop-work.invariant c.requires.open c.loop-work-test.true

pub loop-work-preserved : goal.loop-work-preserved
loop-work-preserved g c =
    so_far_more g.S.Shelf (g.D.Placed.map c.args.device.now) c.args.shelf.now c.args.work.now c.args.buffer.now c.in_ok-turn.field-0 c.loop-work.shelf c.turn.new.shelf c.loop-work.work c.turn.new.work c.loop-work.buffer c.turn.new.buffer c.loop-work.invariant
    (record { moments = c.turn.ensures.moments; done = c.turn.ensures.done; turned = c.in_ok-turn.ensures.turned; counted = c.in_ok-turn.ensures.counted; kept = c.turn.ensures.kept })

pub returns-in_err-turn-clause-moments : goal.returns-in_err-turn-clause-moments
returns-in_err-turn-clause-moments g c =
    (ends_badly g.S.Shelf (g.D.Placed.map c.args.device.now) c.args.shelf.now c.args.work.now c.args.buffer.now {T = Unit {0}} c.in_err-turn.field-0.0 c.turn.new.shelf c.turn.new.work c.turn.new.buffer c.loop-work.shelf c.loop-work.work c.loop-work.buffer c.loop-work.invariant
    (record { moments = c.turn.ensures.moments; done = c.turn.ensures.done; turned = c.in_err-turn.ensures.turned; counted = c.in_err-turn.ensures.counted; kept = c.turn.ensures.kept }) c.loop-work-test.true c.requires.open.begins).moments

pub returns-in_err-turn-clause-done : goal.returns-in_err-turn-clause-done
returns-in_err-turn-clause-done g c =
    (ends_badly g.S.Shelf (g.D.Placed.map c.args.device.now) c.args.shelf.now c.args.work.now c.args.buffer.now {T = Unit {0}} c.in_err-turn.field-0.0 c.turn.new.shelf c.turn.new.work c.turn.new.buffer c.loop-work.shelf c.loop-work.work c.loop-work.buffer c.loop-work.invariant
    (record { moments = c.turn.ensures.moments; done = c.turn.ensures.done; turned = c.in_err-turn.ensures.turned; counted = c.in_err-turn.ensures.counted; kept = c.turn.ensures.kept }) c.loop-work-test.true c.requires.open.begins).done

pub returns-in_err-turn-clause-finished : goal.returns-in_err-turn-clause-finished
returns-in_err-turn-clause-finished g c =
    rw (handed_on c.from_residual.result c.in_err-turn.field-0.0 c.from_residual.ensures.1) (ends_badly g.S.Shelf (g.D.Placed.map c.args.device.now) c.args.shelf.now c.args.work.now c.args.buffer.now {T = Unit {0}} c.in_err-turn.field-0.0 c.turn.new.shelf c.turn.new.work c.turn.new.buffer c.loop-work.shelf c.loop-work.work c.loop-work.buffer c.loop-work.invariant
    (record { moments = c.turn.ensures.moments; done = c.turn.ensures.done; turned = c.in_err-turn.ensures.turned; counted = c.in_err-turn.ensures.counted; kept = c.turn.ensures.kept }) c.loop-work-test.true c.requires.open.begins).finished

pub returns-in_err-turn-clause-counted : goal.returns-in_err-turn-clause-counted
returns-in_err-turn-clause-counted g c =
    rw (handed_on c.from_residual.result c.in_err-turn.field-0.0 c.from_residual.ensures.1) (ends_badly g.S.Shelf (g.D.Placed.map c.args.device.now) c.args.shelf.now c.args.work.now c.args.buffer.now {T = Unit {0}} c.in_err-turn.field-0.0 c.turn.new.shelf c.turn.new.work c.turn.new.buffer c.loop-work.shelf c.loop-work.work c.loop-work.buffer c.loop-work.invariant
    (record { moments = c.turn.ensures.moments; done = c.turn.ensures.done; turned = c.in_err-turn.ensures.turned; counted = c.in_err-turn.ensures.counted; kept = c.turn.ensures.kept }) c.loop-work-test.true c.requires.open.begins).counted

pub returns-in_err-turn-clause-kept : goal.returns-in_err-turn-clause-kept
returns-in_err-turn-clause-kept g c =
    (ends_badly g.S.Shelf (g.D.Placed.map c.args.device.now) c.args.shelf.now c.args.work.now c.args.buffer.now {T = Unit {0}} c.in_err-turn.field-0.0 c.turn.new.shelf c.turn.new.work c.turn.new.buffer c.loop-work.shelf c.loop-work.work c.loop-work.buffer c.loop-work.invariant
    (record { moments = c.turn.ensures.moments; done = c.turn.ensures.done; turned = c.in_err-turn.ensures.turned; counted = c.in_err-turn.ensures.counted; kept = c.turn.ensures.kept }) c.loop-work-test.true c.requires.open.begins).kept

pub returns-clause-moments : goal.returns-clause-moments
returns-clause-moments g c =
    (ends_well g.S.Shelf (g.D.Placed.map c.args.device.now) c.args.shelf.now c.args.work.now c.args.buffer.now {T = Unit {0}} tt c.loop-work.shelf c.loop-work.work c.loop-work.buffer c.loop-work.invariant c.requires.open.some_left c.loop-work-test.false).moments

pub returns-clause-done : goal.returns-clause-done
returns-clause-done g c =
    (ends_well g.S.Shelf (g.D.Placed.map c.args.device.now) c.args.shelf.now c.args.work.now c.args.buffer.now {T = Unit {0}} tt c.loop-work.shelf c.loop-work.work c.loop-work.buffer c.loop-work.invariant c.requires.open.some_left c.loop-work-test.false).done

pub returns-clause-finished : goal.returns-clause-finished
returns-clause-finished g c =
    (ends_well g.S.Shelf (g.D.Placed.map c.args.device.now) c.args.shelf.now c.args.work.now c.args.buffer.now {T = Unit {0}} tt c.loop-work.shelf c.loop-work.work c.loop-work.buffer c.loop-work.invariant c.requires.open.some_left c.loop-work-test.false).finished

pub returns-clause-counted : goal.returns-clause-counted
returns-clause-counted g c =
    (ends_well g.S.Shelf (g.D.Placed.map c.args.device.now) c.args.shelf.now c.args.work.now c.args.buffer.now {T = Unit {0}} tt c.loop-work.shelf c.loop-work.work c.loop-work.buffer c.loop-work.invariant c.requires.open.some_left c.loop-work-test.false).counted

pub returns-clause-kept : goal.returns-clause-kept
returns-clause-kept g c =
    (ends_well g.S.Shelf (g.D.Placed.map c.args.device.now) c.args.shelf.now c.args.work.now c.args.buffer.now {T = Unit {0}} tt c.loop-work.shelf c.loop-work.work c.loop-work.buffer c.loop-work.invariant c.requires.open.some_left c.loop-work-test.false).kept
