use Rattle.std.proofs.Common.{refl}
use Rattle.mdv_engine_law.specs.Line.{Nothing}
use Rattle.mdv_shelf.proofs.Moments.{moments_weaker}
use Rattle.mdv_shelf.proofs.Telling.{told_once}
use Rattle.mdv_engine.specs.Below.{OnReplies, text_of, TellMoment, TurnMoment}
use Rattle.mdv_engine_law.specs.declared.answer.Outcome.TheVariants as outcome
use Rattle.mdv_engine_law.specs.Answers.{accepted}
use Rattle.mdv_engine_law.proofs.Executing.{reply_cause}
use Rattle.mdv_engine_law.proofs.Fronts.{fronts_alone, telling_rests}
use Rattle.mdv_engine_law.proofs.Longer.{replied_more}
use Rattle.mdv_engine_law.proofs.Turning.{accepted_none, ok_told}
use Rattle.mdv_engine.specs.Ends.{OnlyAnswers}
use Rattle.mdv_engine.proofs.Counting.{calm_given, only_told}
use Rattle.mdv_engine.proofs.engine.Engine.accept.Goals as goal

pub returns-clause-moments : goal.returns-clause-moments
returns-clause-moments g c =
    let host = c.args.self.now.host in
    let memory = c.args.self.now.state in record {
      each = moments_weaker (TellMoment (text_of accepted)) (TurnMoment host Nothing memory) _ _ (ok_told host memory) c.tell.ensures.fronts;
      fronts = fronts_alone g.B.Shelf g.met.B.Shelf.telling _ _ (OnlyAnswers accepted) host Nothing memory accepted memory tt (accepted_none host memory) (λ failures calm content. (calm, refl, refl)) c.tell.ensures.kept.goes (c.tell.ensures.counted.drives) c.tell.ensures.fronts;
      rests = telling_rests g.B.Shelf g.met.B.Shelf.telling _ _ (text_of accepted) c.tell.ensures.kept.goes c.tell.ensures.fronts c.tell.ensures.counted.drives;
    }

pub returns-clause-answer : goal.returns-clause-answer
returns-clause-answer g c = record { cause = reply_cause _ c.tell.ensures.answers.0 outcome.Ok c.tell.result c.tell.ensures.answers.1; calm = c.tell.ensures.counted.drives; same = refl }

pub returns-clause-counted : goal.returns-clause-counted
returns-clause-counted g c = record {
  once = c.tell.ensures.counted.once (only_told _ outcome.Ok c.tell.result _ c.tell.ensures.answers.1);
  told = λ on. told_once g.B.Shelf _ _ c.tell.ensures.kept.goes c.tell.ensures.counted.one (c.tell.ensures.counted.once (only_told _ outcome.Ok c.tell.result _ c.tell.ensures.answers.1)) (replied_more _ accepted tt c.tell.result on _ _ c.tell.ensures.told) (c.tell.ensures.counted.calm on);
  given = λ on. calm_given g.B.Shelf.faults _ _ _ refl (c.tell.ensures.kept.keeps.no_fewer_faults OnReplies) (c.tell.ensures.counted.calm on OnReplies);
}

pub returns-clause-kept : goal.returns-clause-kept
returns-clause-kept g c = c.tell.ensures.kept
