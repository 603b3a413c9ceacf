use Rattle.std.proofs.Common.{refl, arith}
use Rattle.mdv_engine_law.specs.Line.{Nothing}
use Rattle.mdv_shelf.proofs.Between.{between_of}
use Rattle.mdv_shelf.proofs.Moments.{moments_weaker}
use Rattle.mdv_shelf.proofs.Telling.{told_once}
use Rattle.mdv_engine.specs.Below.{OnReplies, text_of, TellMoment, TurnMoment}
use Rattle.mdv_engine_law.specs.declared.answer.Answer.TheVariants.{Said}
use Rattle.mdv_engine_law.proofs.Executing.{reply_cause}
use Rattle.mdv_engine_law.proofs.Fronts.{fronts_alone, telling_rests}
use Rattle.mdv_engine_law.proofs.Longer.{replied_more}
use Rattle.mdv_engine.specs.Tab.{KeepsLines}
use Rattle.mdv_engine.proofs.Counting.{calm_given, only_told}
use Rattle.mdv_engine.proofs.Entering.{kept_carried, kept_comes, kept_end, kept_plain, kept_told}
use Rattle.mdv_engine.proofs.engine.Engine.keep_tab.Goals as goal

pub tell-requires : goal.tell-requires
tell-requires g c = kept_plain c.args.lines.now c.args.self.now c.keep-outcome.new.self c.keep-outcome.result c.keep-outcome.ensures

pub returns-clause-moments : goal.returns-clause-moments
returns-clause-moments g c =
    let host = c.args.self.now.host in
    let old = c.args.self.now.state in
    let answer = Said c.keep-outcome.result in record {
      each = moments_weaker (TellMoment (text_of answer)) (TurnMoment host Nothing old) _ _ (kept_told c.args.lines.now c.args.self.now c.keep-outcome.new.self c.keep-outcome.result c.keep-outcome.ensures) c.tell.ensures.fronts;
      fronts = fronts_alone g.B.Shelf g.met.B.Shelf.telling _ _ (KeepsLines c.args.lines.now) host Nothing old answer c.keep-outcome.new.self.state (kept_plain c.args.lines.now c.args.self.now c.keep-outcome.new.self c.keep-outcome.result c.keep-outcome.ensures) (kept_carried c.args.lines.now c.args.self.now c.keep-outcome.new.self c.keep-outcome.result c.keep-outcome.ensures) (kept_comes c.args.lines.now c.args.self.now c.keep-outcome.new.self c.keep-outcome.result c.keep-outcome.ensures) c.tell.ensures.kept.goes (c.tell.ensures.counted.drives) c.tell.ensures.fronts;
      rests = telling_rests g.B.Shelf g.met.B.Shelf.telling _ _ (text_of answer) c.tell.ensures.kept.goes c.tell.ensures.fronts c.tell.ensures.counted.drives;
    }

pub returns-clause-end : goal.returns-clause-end
returns-clause-end g c = λ t is.
    let end = c.tell.ensures.told t is in (
      end.0,
      end.1,
      kept_end c.args.lines.now c.args.self.now c.keep-outcome.new.self c.keep-outcome.result c.keep-outcome.ensures _ _ _ c.tell.result t end.0 (c.tell.ensures.counted.drives)
          (between_of g.B.Shelf.calls g.B.Shelf.written _ _ 1 0 1 1 0 (omega arith) (omega arith) (omega arith) (c.tell.ensures.counted.once (only_told _ c.keep-outcome.result c.tell.result _ c.tell.ensures.answers.1))) end.2,
    )

pub returns-clause-answer : goal.returns-clause-answer
returns-clause-answer g c = record {
  said = c.keep-outcome.result;
  kept = c.keep-outcome.ensures;
  cause = reply_cause _ c.tell.ensures.answers.0 c.keep-outcome.result c.tell.result c.tell.ensures.answers.1;
  calm = c.tell.ensures.counted.drives;
}

pub returns-clause-counted : goal.returns-clause-counted
returns-clause-counted g c =
    let plain = kept_plain c.args.lines.now c.args.self.now c.keep-outcome.new.self c.keep-outcome.result c.keep-outcome.ensures in
    let once = c.tell.ensures.counted.once (only_told _ c.keep-outcome.result c.tell.result _ c.tell.ensures.answers.1) in record {
      once = once;
      told = λ on. told_once g.B.Shelf _ _ c.tell.ensures.kept.goes c.tell.ensures.counted.one once (replied_more _ (Said c.keep-outcome.result) plain c.tell.result on _ _ c.tell.ensures.told) (c.tell.ensures.counted.calm on);
      given = λ on. calm_given g.B.Shelf.faults _ _ _ refl (c.tell.ensures.kept.keeps.no_fewer_faults OnReplies) (c.tell.ensures.counted.calm on OnReplies);
    }

pub returns-clause-kept : goal.returns-clause-kept
returns-clause-kept g c = c.tell.ensures.kept
