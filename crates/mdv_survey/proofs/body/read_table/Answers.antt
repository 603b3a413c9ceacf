use Rattle.std.proofs.Common.{arith}
use Rattle.mdv_shelf.specs.Tale.{last}
use Rattle.mdv_survey.proofs.Bodies.{read_is}
use Rattle.mdv_survey.proofs.Ending.{read_on_calm, read_on_failed}
use Rattle.mdv_survey.proofs.body.read_table.Goals as goal

pub returns-in-Ok-clause-reads : goal.returns-in-Ok-clause-reads
returns-in-Ok-clause-reads g c = record {
  same = c.in-Ok.ensures.reads.same;
  gave = λ t is.
      read_is c.args.geometry.now c.args.at c.args.slot c.args.bytes c.read_body.new.out c.table_in.ensures.size (omega arith) c.table_in.result (last t c.args.at.drive.0) (omega arith)
      (c.in-Ok.ensures.reads.gave t is) c.table_in.ensures.table;
}

pub returns-in-Ok-clause-kept : goal.returns-in-Ok-clause-kept
returns-in-Ok-clause-kept g c = read_on_calm g.S.Shelf c.args.shelf.now c.read_body.new.shelf c.args.at.drive.0 c.read_body.ensures.kept c.in-Ok.ensures.cause.calm

pub returns-in-Err-clause-kept : goal.returns-in-Err-clause-kept
returns-in-Err-clause-kept g c = read_on_failed g.S.Shelf c.args.shelf.now c.read_body.new.shelf c.args.at.drive.0 c.read_body.ensures.kept c.read_body.ensures.counted c.in-Err.ensures.cause.failed
