use Rattle.std.proofs.Common.{inl, refl, arith}
use Rattle.mdv_survey.specs.Counts.{IsTextBy}
use Rattle.mdv_survey.proofs.Counting.{read_for}
use Rattle.mdv_survey.proofs.body.Body.read.Goals as goal

pub returns-clause-counted : goal.returns-clause-counted
returns-clause-counted g c = read_for g.S.Shelf _ _ 1 (IsTextBy c.args.at.place.blocks c.args.bytes) c.read_table.result (inl (omega arith, refl)) c.read_table.ensures.counted
