use Rattle.std.proofs.Common.{length, ◌∙◌, arith, rules}
use Rattle.mdv_shelf.proofs.Settled.{moments_tore, moments_wrote, moments_settled, ends_settled}
use Rattle.mdv_shelf.proofs.Between.{between_of, between_one, between_then, between_wider, rose_at_least, some_then}
use Rattle.mdv_shelf.proofs.Counts.{took_one, took_more}
use Rattle.mdv_shelf.specs.Calls.{OnDrive}
use Rattle.mdv_shelf.proofs.InTime.{kept_on_call, kept_on_more}
use Rattle.mdv_shelf.proofs.settling.settle.Goals as goal

pub returns-in_err-write-clause-moments : goal.returns-in_err-write-clause-moments
returns-in_err-write-clause-moments g c = moments_tore c.args.drive.0 c.args.at c.args.from.now (g.S.Shelf.tale c.args.shelf.now) (g.S.Shelf.tale c.write.new.self) c.in_err-write.ensures.writes

pub returns-in_err-write-clause-counted : goal.returns-in_err-write-clause-counted
returns-in_err-write-clause-counted g c = record {
  done = search rules;
  any = between_wider g.S.Shelf.calls g.S.Shelf.written _ _ 1 1 (length c.args.from.now) 1 2 (length c.args.from.now) (omega arith) (omega arith) (omega arith) (between_one g.S.Shelf.calls g.S.Shelf.written _ _ _ c.write.ensures.counted);
  wrote = rose_at_least (length c.args.from.now) 1 (g.S.Shelf.written _) (g.S.Shelf.written _) c.requires.some c.write.ensures.counted.as_blocks;
}

pub returns-in_err-write-clause-kept : goal.returns-in_err-write-clause-kept
returns-in_err-write-clause-kept g c = kept_on_call g.S.Shelf (OnDrive c.args.drive.0) _ _ c.write.ensures.noted c.write.ensures.keeps c.write.ensures.cause.others

pub returns-in_err-sync-clause-moments : goal.returns-in_err-sync-clause-moments
returns-in_err-sync-clause-moments g c =
    moments_wrote c.args.drive.0 c.args.at c.args.from.now (g.S.Shelf.tale c.args.shelf.now) (g.S.Shelf.tale c.sync.new.self) (c.in_err-sync.ensures.syncs ∙ c.in_ok-write.ensures.writes)

pub returns-in_err-sync-clause-counted : goal.returns-in_err-sync-clause-counted
returns-in_err-sync-clause-counted g c = record {
  done = search rules;
  any = between_then g.S.Shelf.calls g.S.Shelf.written _ _ _ 1 1 (length c.args.from.now) 1 1 0 1 2 (length c.args.from.now) (omega arith) (omega arith) (omega arith)
      (between_one g.S.Shelf.calls g.S.Shelf.written _ _ _ c.write.ensures.counted) (between_one g.S.Shelf.calls g.S.Shelf.written _ _ _ c.sync.ensures.counted);
  wrote = some_then 0 (g.S.Shelf.written _) (g.S.Shelf.written _) (g.S.Shelf.written _) (rose_at_least (length c.args.from.now) 1 (g.S.Shelf.written _) (g.S.Shelf.written _) c.requires.some c.write.ensures.counted.as_blocks) c.sync.ensures.counted.as_blocks;
}

pub returns-in_err-sync-clause-kept : goal.returns-in_err-sync-clause-kept
returns-in_err-sync-clause-kept g c = kept_on_more c.in_ok-write.ensures.cause.own.calm (kept_on_call g.S.Shelf (OnDrive c.args.drive.0) _ _ c.write.ensures.noted c.write.ensures.keeps c.write.ensures.cause.others) (kept_on_call g.S.Shelf (OnDrive c.args.drive.0) _ _ c.sync.ensures.noted c.sync.ensures.keeps c.sync.ensures.cause.others)

pub returns-clause-moments : goal.returns-clause-moments
returns-clause-moments g c =
    moments_settled c.args.drive.0 c.args.at c.args.from.now (g.S.Shelf.tale c.args.shelf.now) (g.S.Shelf.tale c.write.new.self) (g.S.Shelf.tale c.sync.new.self) c.in_ok-write.ensures.writes c.in_ok-sync.ensures.syncs

pub returns-clause-settled : goal.returns-clause-settled
returns-clause-settled g c =
    ends_settled c.args.drive.0 c.args.at c.args.from.now (g.S.Shelf.tale c.args.shelf.now) (g.S.Shelf.tale c.write.new.self) (g.S.Shelf.tale c.sync.new.self) c.in_ok-write.ensures.writes c.in_ok-sync.ensures.syncs

pub returns-clause-counted : goal.returns-clause-counted
returns-clause-counted g c =
    let took = took_more g.S.Shelf.calls g.S.Shelf.written _ _ _ 1 1 (length c.args.from.now) 0 2 (length c.args.from.now) (omega arith) (omega arith)
    (took_one g.S.Shelf.calls g.S.Shelf.written _ _ _ c.write.ensures.counted) (took_one g.S.Shelf.calls g.S.Shelf.written _ _ _ c.sync.ensures.counted) in
    record {
      done = took;
      any = between_of g.S.Shelf.calls g.S.Shelf.written _ _ 2 (length c.args.from.now) 1 2 (length c.args.from.now) (omega arith) (omega arith) (omega arith) took;
      wrote = some_then 0 (g.S.Shelf.written _) (g.S.Shelf.written _) (g.S.Shelf.written _) (rose_at_least (length c.args.from.now) 1 (g.S.Shelf.written _) (g.S.Shelf.written _) c.requires.some c.write.ensures.counted.as_blocks) c.sync.ensures.counted.as_blocks;
    }

pub returns-clause-kept : goal.returns-clause-kept
returns-clause-kept g c = kept_on_more c.in_ok-write.ensures.cause.own.calm (kept_on_call g.S.Shelf (OnDrive c.args.drive.0) _ _ c.write.ensures.noted c.write.ensures.keeps c.write.ensures.cause.others) (kept_on_call g.S.Shelf (OnDrive c.args.drive.0) _ _ c.sync.ensures.noted c.sync.ensures.keeps c.sync.ensures.cause.others)
