use Rattle.std.proofs.Common.{◌+◌, ◌∙◌, length, arith, rules}
use Rattle.mdv_shelf.specs.Between.{TookBetween}
use Rattle.mdv_shelf.proofs.Between.{between_then, between_wider, some_more}
use Rattle.mdv_shelf.proofs.Counts.{took_more}
use Rattle.mdv_shelf.proofs.InTime.{kept_on_more}
use Rattle.mdv_replica.proofs.Writing.{slot_closes, slot_fills, slot_opens, slot_ends}
use Rattle.mdv_replica.proofs.replica.write_slot.Goals as goal
use Rattle.mdv_replica.proofs.replica.write_slot.Goals.{After-settle, After-settle-2, After-settle-3}

pub returns-in_err-settle-clause-moments : goal.returns-in_err-settle-clause-moments
returns-in_err-settle-clause-moments g c =
    slot_closes c.args.at c.args.slot _ _ _ _ _ (rw (c.gate_block_of-gate.ensures, c.gate_block.ensures) at c.settle.ensures.moments)

pub returns-in_err-settle-2-clause-moments : goal.returns-in_err-settle-2-clause-moments
returns-in_err-settle-2-clause-moments g c =
    slot_fills c.args.at c.args.slot _ _ _ _ _ _
    (rw (c.gate_block_of-gate.ensures, c.gate_block.ensures) at c.settle.ensures.moments) (rw (c.gate_block_of-gate.ensures, c.gate_block.ensures) at c.in_ok-settle.ensures.settled)
    (rw c.body_block_of-first.ensures at c.settle-2.ensures.moments)

pub returns-in_err-settle-3-clause-moments : goal.returns-in_err-settle-3-clause-moments
returns-in_err-settle-3-clause-moments g c =
    slot_opens c.args.at c.args.slot _ _ _ _ _ _ _
    (rw (c.gate_block_of-gate.ensures, c.gate_block.ensures) at c.settle.ensures.moments) (rw (c.gate_block_of-gate.ensures, c.gate_block.ensures) at c.in_ok-settle.ensures.settled)
    (rw c.body_block_of-first.ensures at c.settle-2.ensures.moments) (rw c.body_block_of-first.ensures at c.in_ok-settle-2.ensures.settled)
    (rw (c.gate_block_of-gate.ensures, c.gate_block-2.ensures) at c.settle-3.ensures.moments)

pub returns-clause-moments : goal.returns-clause-moments
returns-clause-moments g c =
    slot_opens c.args.at c.args.slot _ _ _ _ _ _ _
    (rw (c.gate_block_of-gate.ensures, c.gate_block.ensures) at c.settle.ensures.moments) (rw (c.gate_block_of-gate.ensures, c.gate_block.ensures) at c.in_ok-settle.ensures.settled)
    (rw c.body_block_of-first.ensures at c.settle-2.ensures.moments) (rw c.body_block_of-first.ensures at c.in_ok-settle-2.ensures.settled)
    (rw (c.gate_block_of-gate.ensures, c.gate_block-2.ensures) at c.settle-3.ensures.moments)

pub returns-clause-settled : goal.returns-clause-settled
returns-clause-settled g c =
    slot_ends c.args.at c.args.slot _ _ _ _ _ _ _
    (rw (c.gate_block_of-gate.ensures, c.gate_block.ensures) at c.in_ok-settle.ensures.settled) (rw c.body_block_of-first.ensures at c.in_ok-settle-2.ensures.settled)
    (rw (c.gate_block_of-gate.ensures, c.gate_block-2.ensures) at c.settle-3.ensures.moments) (rw (c.gate_block_of-gate.ensures, c.gate_block-2.ensures) at c.in_ok-settle-3.ensures.settled)

-- each settling takes one call at least and two at most
gate : (g : _) (c : After-settle g) → TookBetween g.S.Shelf.calls g.S.Shelf.written c.args.shelf.now c.settle.new.shelf 1 2 1
gate g c = c.settle.ensures.counted.any

both : (g : _) (c : After-settle-2 g) → TookBetween g.S.Shelf.calls g.S.Shelf.written c.args.shelf.now c.settle-2.new.shelf 1 4 (1 + length c.args.body.now)
both g c =
    between_then g.S.Shelf.calls g.S.Shelf.written _ _ _ 1 2 1 1 2 (length c.args.body.now) 1 4 (1 + length c.args.body.now) (omega arith) (omega arith) (omega arith)
    c.settle.ensures.counted.any
    c.settle-2.ensures.counted.any

all : (g : _) (c : After-settle-3 g) → TookBetween g.S.Shelf.calls g.S.Shelf.written c.args.shelf.now c.settle-3.new.shelf 1 6 (2 + length c.args.body.now)
all g c =
    between_then g.S.Shelf.calls g.S.Shelf.written _ _ _ 1 4 (1 + length c.args.body.now) 1 2 1 1 6 (2 + length c.args.body.now) (omega arith) (omega arith) (omega arith)
    (between_then g.S.Shelf.calls g.S.Shelf.written _ _ _ 1 2 1 1 2 (length c.args.body.now) 1 4 (1 + length c.args.body.now) (omega arith) (omega arith) (omega arith)
    c.settle.ensures.counted.any
    c.settle-2.ensures.counted.any)
    c.settle-3.ensures.counted.any

pub returns-in_err-settle-clause-counted : goal.returns-in_err-settle-clause-counted
returns-in_err-settle-clause-counted g c = record {
  done = search rules;
  any = between_wider g.S.Shelf.calls g.S.Shelf.written _ _ 1 2 1 1 6 (2 + length c.args.body.now) (omega arith) (omega arith) (omega arith) (gate g (goal.at.returns-in_err-settle-clause-counted g c).After-settle);
  wrote = c.settle.ensures.counted.wrote;
}

pub returns-in_err-settle-2-clause-counted : goal.returns-in_err-settle-2-clause-counted
returns-in_err-settle-2-clause-counted g c = record {
  done = search rules;
  any = between_wider g.S.Shelf.calls g.S.Shelf.written _ _ 1 4 (1 + length c.args.body.now) 1 6 (2 + length c.args.body.now) (omega arith) (omega arith) (omega arith) (both g (goal.at.returns-in_err-settle-2-clause-counted g c).After-settle-2);
  wrote = some_more c.settle.ensures.counted.wrote c.settle-2.ensures.counted.wrote;
}

pub returns-in_err-settle-3-clause-counted : goal.returns-in_err-settle-3-clause-counted
returns-in_err-settle-3-clause-counted g c = record {
  done = search rules;
  any = all g (goal.at.returns-in_err-settle-3-clause-counted g c).After-settle-3;
  wrote = some_more (some_more c.settle.ensures.counted.wrote c.settle-2.ensures.counted.wrote) c.settle-3.ensures.counted.wrote;
}

pub returns-clause-counted : goal.returns-clause-counted
returns-clause-counted g c = record {
  done = took_more g.S.Shelf.calls g.S.Shelf.written _ _ _ 4 2 (1 + length c.args.body.now) 1 6 (2 + length c.args.body.now) (omega arith) (omega arith)
      (took_more g.S.Shelf.calls g.S.Shelf.written _ _ _ 2 2 1 (length c.args.body.now) 4 (1 + length c.args.body.now) (omega arith) (omega arith) c.in_ok-settle.ensures.counted.done c.in_ok-settle-2.ensures.counted.done) c.in_ok-settle-3.ensures.counted.done;
  any = all g (goal.at.returns-clause-counted g c).After-settle-3;
  wrote = some_more (some_more c.settle.ensures.counted.wrote c.settle-2.ensures.counted.wrote) c.settle-3.ensures.counted.wrote;
}

pub returns-in_err-settle-clause-kept : goal.returns-in_err-settle-clause-kept
returns-in_err-settle-clause-kept g c = c.settle.ensures.kept

pub returns-in_err-settle-2-clause-kept : goal.returns-in_err-settle-2-clause-kept
returns-in_err-settle-2-clause-kept g c = kept_on_more c.in_ok-settle.ensures.cause.calm c.settle.ensures.kept c.settle-2.ensures.kept

pub returns-in_err-settle-3-clause-kept : goal.returns-in_err-settle-3-clause-kept
returns-in_err-settle-3-clause-kept g c = kept_on_more (c.in_ok-settle-2.ensures.cause.calm ∙ c.in_ok-settle.ensures.cause.calm) (kept_on_more c.in_ok-settle.ensures.cause.calm c.settle.ensures.kept c.settle-2.ensures.kept) c.settle-3.ensures.kept

pub returns-clause-kept : goal.returns-clause-kept
returns-clause-kept g c = kept_on_more (c.in_ok-settle-2.ensures.cause.calm ∙ c.in_ok-settle.ensures.cause.calm) (kept_on_more c.in_ok-settle.ensures.cause.calm c.settle.ensures.kept c.settle-2.ensures.kept) c.settle-3.ensures.kept
