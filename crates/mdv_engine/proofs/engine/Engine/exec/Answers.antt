use Rattle.std.proofs.Common.{◌≡◌, inl, inr, ◌∙◌, ap, subst, sym}
use Rattle.mdv_engine.specs.Below.{IoFault, meant, told, KeptOutside, nowhere, OnReplies, Ends, Tale, asked_by, text_of, CarriedTo, CarryMoment, TellMoment, TurnMoment}
use Rattle.mdv_shelf.proofs.Moments.{moments_after, moments_end, moments_weaker, some_is}
use Rattle.mdv_shelf.proofs.Telling.{rests_behind, told_behind, told_once}
use Rattle.mdv_words.specs.Line as words
use Rattle.mdv_engine_law.proofs.Executing.{came_more, command_cause, executed}
use Rattle.mdv_base.proofs.Causes.{calm_before, within_calm}
use Rattle.mdv_engine_law.proofs.Widening.{AreWithin, blamed_more, within_itself}
use Rattle.mdv_engine_law.proofs.Longer.{replied_more}
use Rattle.mdv_engine_law.proofs.Fronts.{fronts_then, telling_rests}
use Rattle.mdv_engine_law.proofs.Writing.{done_more, done_still, torn_more, torn_still}
use Rattle.mdv_engine_law.proofs.Turning.{Carried, carried_ends, turn_carry, turn_tell, turned, knows_after}
use Rattle.mdv_engine.specs.Ends.{CarriesOut, LeavesMade}
use Rattle.mdv_engine_law.specs.Efforts.{LossCalls}
use Rattle.mdv_engine.specs.Counts.{HasTriedAll}
use Rattle.mdv_shelf.specs.Made.{made_of}
use Rattle.mdv_engine_law.specs.Replies.{IsLost}
use Rattle.mdv_engine_law.specs.Commands.{MaySpend, blame_of}
use Rattle.mdv_shelf.specs.Shelves.{DriveFailures}
use Rattle.mdv_engine.proofs.Asked.{asked_goes, asked_replies, asked_then}
use Rattle.mdv_engine.proofs.Counting.{calm_given, command_calls, command_most, done_told, replied_calls, then_told, done_then, fault_then, fault_told, halted_told, lost_told, mere_few, none_within, not_lost, quiet_answer, quiet_told, said_of, spent_told, told_lost, told_ok, told_refusal, unlooked_told, unwritten_told, wanting_told, whole_or_lost}
use Rattle.mdv_engine.proofs.Ending.{leaves_more}
use Rattle.mdv_engine.proofs.Losing.{site_more}
use Rattle.mdv_engine.proofs.engine.Engine.exec.Goals as goal

pub returns-clause-moments : goal.returns-clause-moments
returns-clause-moments g c =
    let host = c.args.self.now.host in
    let asked = asked_by c.args.self.now.host c.args.command.now in
    let old = c.args.self.now.state in
    let new = c.carry_out-answer.new.self.state in
    let answer = c.carry_out-answer.result in
    let says = c.carry_out-answer.ensures.answer in
    let command = meant c.args.self.now.state.entries c.args.command.now in
    let goes = asked_goes g.B.Shelf host old _ _ command c.carry_out-answer.ensures.kept in
    let carried : Ends (CarriedTo host asked old answer new) _ _ = λ t is. (let end = c.carry_out-answer.ensures.end t is in (end.0, end.1, end.2.carry.carried)) in
    record {
      each = moments_after (CarryMoment host asked old) (Carried host asked old new answer) (TellMoment (text_of answer)) (TurnMoment host asked old) _ _ _
          (λ t m carry. turn_carry host asked old t m carry)
          (λ t u m both tell. turn_tell host asked old new answer says.plain t u both.0 both.1 m tell)
          c.carry_out-answer.ensures.moments (carried_ends host asked old new answer _ _ c.carry_out-answer.ensures.moments carried) c.tell.ensures.fronts;
      fronts = fronts_then g.B.Shelf g.met.B.Shelf.telling _ _ _ (CarriesOut host c.args.command.now) host asked old answer new says.plain
          (λ failed more cause kept next is. came_more failed more cause host kept next answer (meant kept.memory.entries c.args.command.now) is)
          goes
          (moments_weaker (CarryMoment host asked old) (λ t m. told m ≡ told t) _ _ (λ t m moment. moment.quiet) c.carry_out-answer.ensures.moments)
          (λ t is. (let end = c.carry_out-answer.ensures.end t is in (end.0, end.1, record { answered = end.2.carry.answered; carried = end.2.carry.carried })))
          (λ is. quiet_answer g.B.Shelf _ _ host command old.opened new.opened answer is c.carry_out-answer.ensures.counted)
          c.tell.ensures.kept.goes c.tell.ensures.counted.drives c.tell.ensures.fronts;
      rests = rests_behind g.B.Shelf g.met.B.Shelf.telling _ _ _ goes
          (moments_weaker (CarryMoment host asked old) (λ t m. told m ≡ told t) _ _ (λ t m moment. moment.quiet) c.carry_out-answer.ensures.moments)
          (telling_rests g.B.Shelf g.met.B.Shelf.telling _ _ (text_of answer) c.tell.ensures.kept.goes c.tell.ensures.fronts c.tell.ensures.counted.drives);
    }

pub returns-clause-end : goal.returns-clause-end
returns-clause-end g c = λ t is.
    let host = c.args.self.now.host in
    let asked = asked_by c.args.self.now.host c.args.command.now in
    let old = c.args.self.now.state in
    let new = c.carry_out-answer.new.self.state in
    let answer = c.carry_out-answer.result in
    let says = c.carry_out-answer.ensures.answer in
    let command = meant c.args.self.now.state.entries c.args.command.now in
    let unfailed = asked_replies g.B.Shelf host old _ _ command c.carry_out-answer.ensures.kept in
    let calls = DriveFailures g.B.Shelf c.args.bench.now c.carry_out-answer.new.shelf in
    let carry = moments_end (CarryMoment host asked old) _ _ c.carry_out-answer.ensures.moments t is in
    let done = c.carry_out-answer.ensures.end t is in
    let end = c.tell.ensures.told done.0 done.1 in
    let quiet : told done.0 ≡ told t = ap told (some_is _ done.0 carry.0 done.1 carry.1) ∙ carry.2.quiet in (
      end.0,
      end.1,
      record {
        answered = λ known. executed _ _ _ _ _ host (words.Exec c.args.command.now) old new answer c.tell.result t done.0 end.0
            (λ drive. within_calm _ _ _ (c.tell.ensures.counted.drives drive))
            (calm_before _ _ _ unfailed).some
            quiet (done.2.carry.answered known) end.2
            (replied_calls g.B.Shelf _ _ _ _ host command old.opened new.opened answer c.tell.result _ calls calls (within_itself calls) c.tell.ensures.answers.1 c.tell.ensures.counted.once c.tell.ensures.counted.silent
            (command_calls g.B.Shelf _ _ host command old.opened new.opened answer c.carry_out-answer.ensures.counted));
        turned = λ on. turned host asked old new _ t done.0 end.0 quiet answer says.plain done.2.carry.carried c.tell.result on end.2;
        knows = λ on. knows_after host asked old new _ t done.0 end.0 quiet answer done.2.carry.carried c.tell.result on end.2;
        quiet = λ still.
            let same = quiet_told g.B.Shelf _ _ host command old.opened new.opened _ answer c.tell.result _ c.tell.ensures.answers.1 still c.carry_out-answer.ensures.counted in
            subst (λ (x : Tale). KeptOutside nowhere x end.0) (some_is _ done.0 t done.1 (same ∙ is)) end.2.kept;
        spent = λ ended.
            let same = ap g.B.Shelf.tale (spent_told g.B.Shelf _ _ host command old.opened new.opened _ answer c.tell.ensures.answers.0 (rw ended at c.tell.ensures.answers.1) c.carry_out-answer.ensures.counted) in
            subst (λ (x : Tale). KeptOutside nowhere x end.0) (some_is _ done.0 t done.1 (same ∙ is)) end.2.kept;
        done = λ known ok.
            let within : AreWithin calls (DriveFailures g.B.Shelf c.args.bench.now c.tell.new.bench) = λ drive. within_calm _ _ _ (c.tell.ensures.counted.drives drive) in
            done_more host old _ _ within command end.0 (done_still host old calls command done.0 end.0 end.2.kept (done.2.done known (told_ok _ answer _ (rw ok at c.tell.ensures.answers.1))));
        lost = λ known active listed is.
            let same = ap g.B.Shelf.tale (c.tell.ensures.counted.silent (subst IsLost (sym is) tt)) in
            let within : AreWithin (DriveFailures g.B.Shelf c.args.bench.now c.carry_out-answer.new.shelf) (DriveFailures g.B.Shelf c.args.bench.now c.tell.new.bench) = λ drive. within_calm _ _ _ (c.tell.ensures.counted.drives drive) in
            leaves_more _ _ within host old command active listed end.0
            (subst (LeavesMade _ host old command active listed) (some_is _ done.0 end.0 (same ∙ done.1) end.1) (done.2.lost known active listed (told_lost _ answer active listed c.tell.ensures.answers.0 (rw is at c.tell.ensures.answers.1))));
        torn = λ known is.
            let within : AreWithin calls (DriveFailures g.B.Shelf c.args.bench.now c.tell.new.bench) = λ drive. within_calm _ _ _ (c.tell.ensures.counted.drives drive) in
            torn_more host old _ _ within command end.0 (torn_still host old calls command done.0 end.0 end.2.kept (done.2.torn known (told_refusal _ answer IoFault _ (rw is at c.tell.ensures.answers.1))));
      },
    )

pub returns-clause-answer : goal.returns-clause-answer
returns-clause-answer g c = record {
  cause =
      let host = c.args.self.now.host in
      let command = meant c.args.self.now.state.entries c.args.command.now in
      let calls = DriveFailures g.B.Shelf c.args.bench.now c.carry_out-answer.new.shelf in
      let all = DriveFailures g.B.Shelf c.args.bench.now c.tell.new.bench in
      let within : AreWithin calls all = λ drive. within_calm _ _ _ (c.tell.ensures.counted.drives drive) in
      let unfailed = asked_replies g.B.Shelf host c.args.self.now.state _ _ command c.carry_out-answer.ensures.kept in
      command_cause (blame_of calls host c.args.self.now.state command) (blame_of all host c.args.self.now.state command) (blamed_more calls all within host c.args.self.now.state command) (MaySpend c.args.self.now.state command) _ _ c.tell.ensures.answers.0
      (calm_before _ _ _ unfailed).some
      c.carry_out-answer.result c.tell.result c.carry_out-answer.ensures.answer.cause c.tell.ensures.answers.1;
  lost = λ active listed is.
      let within : AreWithin (DriveFailures g.B.Shelf c.args.bench.now c.carry_out-answer.new.shelf) (DriveFailures g.B.Shelf c.args.bench.now c.tell.new.bench) = λ drive. within_calm _ _ _ (c.tell.ensures.counted.drives drive) in
      site_more _ _ within c.args.self.now.host active listed (c.carry_out-answer.ensures.answer.lost active listed (told_lost _ c.carry_out-answer.result active listed c.tell.ensures.answers.0 (rw is at c.tell.ensures.answers.1)));
  host = c.carry_out-answer.ensures.answer.host;
  well = λ on. c.carry_out-answer.ensures.answer.well (said_of _ c.carry_out-answer.result c.tell.result _ c.tell.ensures.answers.1 on);
  begun = c.carry_out-answer.ensures.answer.begun;
}

pub returns-clause-counted : goal.returns-clause-counted
returns-clause-counted g c =
    let host = c.args.self.now.host in
    let command = meant c.args.self.now.state.entries c.args.command.now in
    let before = c.args.self.now.state.opened in
    let now = c.carry_out-answer.new.self.state.opened in
    let answer = c.carry_out-answer.result in
    let by = c.carry_out-answer.ensures.counted in
    let piece = c.tell.ensures.answers.0 in
    let answers = c.tell.ensures.answers.1 in
    let goes = asked_goes g.B.Shelf host c.args.self.now.state _ _ command c.carry_out-answer.ensures.kept in
    let unfailed = asked_replies g.B.Shelf host c.args.self.now.state _ _ command c.carry_out-answer.ensures.kept in
    let calls = DriveFailures g.B.Shelf c.args.bench.now c.carry_out-answer.new.shelf in
    let all = DriveFailures g.B.Shelf c.args.bench.now c.tell.new.bench in
    let within : AreWithin calls all = λ drive. within_calm _ _ _ (c.tell.ensures.counted.drives drive) in
    record {
      most = then_told g.B.Shelf _ _ _ c.tell.result _ _ (command_most g.B.Shelf _ _ host command before now answer by) c.tell.ensures.counted;
      few = elim c.carry_out-answer.ensures.answer.few [
        | inl mere ↦ elim (mere_few g.B.Shelf _ _ host command before now answer mere by) [ inl one ↦ inl (then_told g.B.Shelf _ _ _ c.tell.result 1 0 one c.tell.ensures.counted) | inr few ↦ inr few ]
        | inr few ↦ inr few
      ];
      done = λ is. done_then g.B.Shelf _ _ _ host command before now calls all within (done_told g.B.Shelf _ _ host command before now _ answer piece (rw is at answers) by).exactly (c.tell.ensures.counted.once (λ lost. subst IsLost is lost));
      wrote = λ is. (_, (done_told g.B.Shelf _ _ host command before now _ answer piece (rw is at answers) by).wrote, c.tell.ensures.counted.once (λ lost. subst IsLost is lost));
      unlooked = λ is. then_told g.B.Shelf _ _ _ c.tell.result 0 0 (none_within g.B.Shelf _ _ 0 0 (unlooked_told g.B.Shelf _ _ host command before now _ answer c.tell.result _ answers is by)) c.tell.ensures.counted;
      unwritten = λ is. then_told g.B.Shelf _ _ _ c.tell.result _ 0 (unwritten_told g.B.Shelf _ _ host command before now _ answer c.tell.result _ answers is by) c.tell.ensures.counted;
      wanting = λ is. then_told g.B.Shelf _ _ _ c.tell.result _ 0 (wanting_told g.B.Shelf _ _ host command before now _ answer piece (rw is at answers) by) c.tell.ensures.counted;
      faulted = λ is. fault_then g.B.Shelf _ _ _ host command before calls (within_itself calls) (fault_told g.B.Shelf _ _ host command before now _ answer piece (rw is at answers) by) (c.tell.ensures.counted.once (λ lost. subst IsLost is lost));
      halted = λ is. (_, halted_told g.B.Shelf _ _ host command before now _ answer piece (rw is at answers) by, c.tell.ensures.counted.once (λ lost. subst IsLost is lost));
      lost = λ active listed is.
          let same = c.tell.ensures.counted.silent (subst IsLost (sym is) tt) in
          subst (λ (x : g.row.B.Denot). LossCalls (made_of g.B.Shelf c.args.bench.now x) command host before × HasTriedAll g.B.Shelf c.args.bench.now x host command before active listed) (sym same) (lost_told g.B.Shelf _ _ host command before now _ answer active listed piece (rw is at answers) by);
      spent = λ is.
          let same = c.tell.ensures.counted.silent (subst IsLost (sym is) tt) in
          none_within g.B.Shelf _ _ 0 0 (same ∙ spent_told g.B.Shelf _ _ host command before now _ answer piece (rw is at answers) by);
      told = λ on. told_behind g.B.Shelf g.met.B.Shelf.telling _ _ _ goes
          (moments_weaker (CarryMoment host (asked_by host c.args.command.now) c.args.self.now.state) (λ t m. told m ≡ told t) _ _ (λ t m moment. moment.quiet) c.carry_out-answer.ensures.moments)
          (told_once g.B.Shelf _ _ c.tell.ensures.kept.goes c.tell.ensures.counted.one (c.tell.ensures.counted.once (not_lost c.tell.result on)) (replied_more _ _ c.carry_out-answer.ensures.answer.plain c.tell.result on _ _ c.tell.ensures.told) (c.tell.ensures.counted.calm on));
      given = λ uncut. elim (whole_or_lost c.tell.result uncut) [
        | inl on ↦ calm_given g.B.Shelf.faults _ _ _ unfailed (c.tell.ensures.kept.keeps.no_fewer_faults OnReplies) (c.tell.ensures.counted.calm on OnReplies)
        | inr lost ↦ ap (λ (x : g.row.B.Denot). g.B.Shelf.faults x OnReplies) (c.tell.ensures.counted.silent lost) ∙ unfailed
      ];
    }

pub returns-clause-kept : goal.returns-clause-kept
returns-clause-kept g c = asked_then g.B.Shelf c.args.self.now.host c.args.self.now.state _ _ _ (meant c.args.self.now.state.entries c.args.command.now) c.carry_out-answer.ensures.kept c.tell.ensures.kept
