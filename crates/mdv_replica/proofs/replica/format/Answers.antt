use Rattle.std.proofs.Common.{◌∙◌, arith, rules}
use Rattle.mdv_shelf.specs.Between.{TookBetween}
use Rattle.mdv_shelf.proofs.Between.{between_then, between_wider, some_more}
use Rattle.mdv_shelf.proofs.Counts.{took_more}
use Rattle.mdv_shelf.proofs.InTime.{kept_on_more}
use Rattle.mdv_replica.proofs.Writing.{format_blanks, format_fills, format_opens, format_ends}
use Rattle.mdv_replica.proofs.replica.format.Goals as goal
use Rattle.mdv_replica.proofs.replica.format.Goals.{After-settle, After-settle-2}

pub returns-in_err-wipe-clause-moments : goal.returns-in_err-wipe-clause-moments
returns-in_err-wipe-clause-moments g c = format_blanks c.args.at _ _ _ _ c.wipe.ensures.moments

pub returns-in_err-settle-clause-moments : goal.returns-in_err-settle-clause-moments
returns-in_err-settle-clause-moments g c =
    format_fills c.args.at _ _ _ _ _ c.wipe.ensures.moments c.in_ok-wipe.ensures.settled (rw (c.claim_block.ensures, c.gate_block-closed.ensures) at c.settle.ensures.moments)

pub returns-in_err-settle-2-clause-moments : goal.returns-in_err-settle-2-clause-moments
returns-in_err-settle-2-clause-moments g c =
    format_opens c.args.at _ _ _ _ _ _ c.wipe.ensures.moments c.in_ok-wipe.ensures.settled
    (rw (c.claim_block.ensures, c.gate_block-closed.ensures) at c.settle.ensures.moments) (rw (c.claim_block.ensures, c.gate_block-closed.ensures) at c.in_ok-settle.ensures.settled)
    (rw (c.master_block-master.ensures.spelled, c.master_of.ensures) at c.settle-2.ensures.moments)

pub returns-clause-moments : goal.returns-clause-moments
returns-clause-moments g c =
    format_opens c.args.at _ _ _ _ _ _ c.wipe.ensures.moments c.in_ok-wipe.ensures.settled
    (rw (c.claim_block.ensures, c.gate_block-closed.ensures) at c.settle.ensures.moments) (rw (c.claim_block.ensures, c.gate_block-closed.ensures) at c.in_ok-settle.ensures.settled)
    (rw (c.master_block-master.ensures.spelled, c.master_of.ensures) at c.settle-2.ensures.moments)

pub returns-clause-settled : goal.returns-clause-settled
returns-clause-settled g c =
    format_ends c.args.at _ _ _ _ _ _ c.in_ok-wipe.ensures.settled (rw (c.claim_block.ensures, c.gate_block-closed.ensures) at c.in_ok-settle.ensures.settled)
    (rw (c.master_block-master.ensures.spelled, c.master_of.ensures) at c.settle-2.ensures.moments) (rw (c.master_block-master.ensures.spelled, c.master_of.ensures) at c.in_ok-settle-2.ensures.settled)

-- the claim and the gates behind the wipe, and then the master
both : (g : _) (c : After-settle g) → TookBetween g.S.Shelf.calls g.S.Shelf.written c.args.shelf.now c.settle.new.shelf 1 4 4
both g c =
    between_then g.S.Shelf.calls g.S.Shelf.written _ _ _ 1 2 1 1 2 3 1 4 4 (omega arith) (omega arith) (omega arith) c.wipe.ensures.counted.any
    c.settle.ensures.counted.any

all : (g : _) (c : After-settle-2 g) → TookBetween g.S.Shelf.calls g.S.Shelf.written c.args.shelf.now c.settle-2.new.shelf 1 6 5
all g c =
    between_then g.S.Shelf.calls g.S.Shelf.written _ _ _ 1 4 4 1 2 1 1 6 5 (omega arith) (omega arith) (omega arith)
    (between_then g.S.Shelf.calls g.S.Shelf.written _ _ _ 1 2 1 1 2 3 1 4 4 (omega arith) (omega arith) (omega arith) c.wipe.ensures.counted.any
    c.settle.ensures.counted.any)
    c.settle-2.ensures.counted.any

pub returns-in_err-wipe-clause-counted : goal.returns-in_err-wipe-clause-counted
returns-in_err-wipe-clause-counted g c = record {
  done = search rules;
  any = between_wider g.S.Shelf.calls g.S.Shelf.written _ _ 1 2 1 1 6 5 (omega arith) (omega arith) (omega arith) c.wipe.ensures.counted.any;
  wrote = c.wipe.ensures.counted.wrote;
}

pub returns-in_err-settle-clause-counted : goal.returns-in_err-settle-clause-counted
returns-in_err-settle-clause-counted g c = record {
  done = search rules;
  any = between_wider g.S.Shelf.calls g.S.Shelf.written _ _ 1 4 4 1 6 5 (omega arith) (omega arith) (omega arith) (both g (goal.at.returns-in_err-settle-clause-counted g c).After-settle);
  wrote = some_more c.wipe.ensures.counted.wrote c.settle.ensures.counted.wrote;
}

pub returns-in_err-settle-2-clause-counted : goal.returns-in_err-settle-2-clause-counted
returns-in_err-settle-2-clause-counted g c = record {
  done = search rules;
  any = all g (goal.at.returns-in_err-settle-2-clause-counted g c).After-settle-2;
  wrote = some_more (some_more c.wipe.ensures.counted.wrote c.settle.ensures.counted.wrote) c.settle-2.ensures.counted.wrote;
}

pub returns-clause-counted : goal.returns-clause-counted
returns-clause-counted g c = record {
  done = took_more g.S.Shelf.calls g.S.Shelf.written _ _ _ 4 2 4 1 6 5 (omega arith) (omega arith)
      (took_more g.S.Shelf.calls g.S.Shelf.written _ _ _ 2 2 1 3 4 4 (omega arith) (omega arith) c.in_ok-wipe.ensures.counted.done c.in_ok-settle.ensures.counted.done) c.in_ok-settle-2.ensures.counted.done;
  any = all g (goal.at.returns-clause-counted g c).After-settle-2;
  wrote = some_more (some_more c.wipe.ensures.counted.wrote c.settle.ensures.counted.wrote) c.settle-2.ensures.counted.wrote;
}

pub returns-in_err-settle-clause-kept : goal.returns-in_err-settle-clause-kept
returns-in_err-settle-clause-kept g c = kept_on_more c.in_ok-wipe.ensures.cause.calm c.wipe.ensures.kept c.settle.ensures.kept

pub returns-in_err-settle-2-clause-kept : goal.returns-in_err-settle-2-clause-kept
returns-in_err-settle-2-clause-kept g c = kept_on_more (c.in_ok-settle.ensures.cause.calm ∙ c.in_ok-wipe.ensures.cause.calm) (kept_on_more c.in_ok-wipe.ensures.cause.calm c.wipe.ensures.kept c.settle.ensures.kept) c.settle-2.ensures.kept

pub returns-clause-kept : goal.returns-clause-kept
returns-clause-kept g c = kept_on_more (c.in_ok-settle.ensures.cause.calm ∙ c.in_ok-wipe.ensures.cause.calm) (kept_on_more c.in_ok-wipe.ensures.cause.calm c.wipe.ensures.kept c.settle.ensures.kept) c.settle-2.ensures.kept
