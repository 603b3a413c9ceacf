use Rattle.mdv_survey.proofs.Lines.{SoSurveyed}
use Rattle.mdv_survey.proofs.surveying.survey.Given as goal

abbrev pub invariant-loop-line : goal.invariant-loop-line
invariant-loop-line g l = SoSurveyed g.S.Shelf l.geometry l.site l.up l.line-items l.line-index l.fn.shelf l.shelf l.failed l.finds
