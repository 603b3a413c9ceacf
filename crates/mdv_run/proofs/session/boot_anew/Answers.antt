use Rattle.mdv_run_law.proofs.Since.{end_since, moments_since, since_more, since_weaker}
use Rattle.mdv_shelf.specs.Moments.{IsSince}
use Rattle.mdv_run.proofs.Counting.{accepted_calls, over_calls}
use Rattle.mdv_run.proofs.Whole.{ended_unwritten, none_opened}
use Rattle.mdv_engine_law.specs.declared.answer.Outcome.TheVariants as outcome
use Rattle.std.proofs.Common.{◌≡◌, ◌≤◌, ◌+◌, ℕ, List, [], inl, inr, Option, Some, refl, sym, ◌∙◌, ap, subst, arith}
use Rattle.mdv_engine_law.specs.Line.{Nothing, ToBoot}
use Rattle.std.proofs.lemmas.List.{append-nil}
use Rattle.mdv_shelf.specs.Shelves.{DriveFailures, GivingFailed}
use Rattle.mdv_run.specs.Below.{IsLine, LinesMoment, Memory, Script, line, OnReplies, Moments, Ends, told, Boot, Host, StaysHome, BootMoment, BootedTo, TurnMoment, Engine, IsLostOnSite, IsWell, IsRebooted, Tale, kept_at, site_area}
use Rattle.mdv_run.specs.Promise.{IsWorkOf, LineEnd}
use Rattle.mdv_run.proofs.Answering.{said_still, loud_ok, same_within, uncut_replied, line_executed, accepted_ok, accepted_turned, ended_reply, reply_more, told_reply, turn_writes}
use Rattle.std.specs.Option.{option_map}
use Rattle.mdv_shelf.specs.Shelves.{AtEachMoment}
use Rattle.mdv_shelf.specs.Story.{OfTales, Story, tale_of}
use Rattle.mdv_shelf.proofs.Noted.{moment_weaker, moment_with_tales, moments_of_tales}
use Rattle.mdv_shelf.proofs.Stories.{moment}
use Rattle.mdv_shelf.proofs.Telling.{each_joined, rests_behind, rests_quiet, told_behind}
use Rattle.mdv_run.proofs.Fronts.{AnswerFront, LineFront, boot_front}
use Rattle.mdv_shelf.proofs.Moments.{moments_after, moments_weaker, moments_end, some_is}
use Rattle.mdv_engine_law.specs.declared.answer.Answer.TheVariants.{Over}
use Rattle.mdv_engine_law.specs.Answers.{accepted}
use Rattle.mdv_engine_law.specs.Replies.{HasReplyCause, IsLost, IsReplied}
use Rattle.mdv_engine_law.proofs.Longer.{ended_lost, never_ended}
use Rattle.mdv_engine_law.proofs.Executing.{executed}
use Rattle.mdv_base.proofs.Causes.{calm_before, within_calm}
use Rattle.mdv_shelf.specs.Made.{and_more, made_of}
use Rattle.mdv_shelf.proofs.Made.{with_more}
use Rattle.mdv_shelf.proofs.Settled.{synced_still}
use Rattle.mdv_engine_law.specs.Line.{contents}
use Rattle.mdv_shelf.proofs.Frame.{kept_outside_more}
use Rattle.mdv_shelf.specs.Area.{KeptOutside, nowhere}
use Rattle.mdv_engine_law.proofs.Efforts.{boot_too}
use Rattle.mdv_engine_law.proofs.Knowing.{knows_kept}
use Rattle.mdv_engine_law.proofs.Staying.{both_stay, boot_stays, stays_still, turn_stays}
use Rattle.mdv_run_law.proofs.Booting.{boot_line, boot_turn, booted_line, booted_turn, booted_ran}
use Rattle.mdv_shelf.proofs.Among.{in_time_of_among}
use Rattle.mdv_run.proofs.Keeping.{in_time_replied, replies_apart}
use Rattle.mdv_run.proofs.session.boot_anew.Goals as goal

-- no block was written but those that a replica may have
abbrev BootWorks : Engine → Tale → Tale → Type 0
BootWorks engine s m = (text : List ℕ) → IsLine text Boot → IsWorkOf engine text s m

-- a boot, and then the telling of it
module _ (host other : Host) (same : other ≡ host) (old new : Memory) (begun : new.begun ≡ old.begun) (a b c : Option Tale) (boots : Moments (BootMoment host) a b) (booted : Ends (BootedTo host new) a b) (turns : Moments (TurnMoment other Nothing new) b c) where
  both_turns : Moments (TurnMoment host ToBoot old) a c
  both_turns = moments_after (BootMoment host) (BootedTo host new) (TurnMoment other Nothing new) (TurnMoment host ToBoot old) a b c (λ t m moment. boot_turn host old t m moment)
      (λ t u m up turn. booted_turn host old new t u up begun m (subst (λ (h : Host). TurnMoment h Nothing new u m) same turn)) boots booted turns

  both_lines : (text : List ℕ) (more : Script) → IsLine text Boot → Moments (LinesMoment host (line text more) old) a c
  both_lines text more is = since_weaker (λ t m. IsSince t m → LinesMoment host (line text more) old t m) (LinesMoment host (line text more) old) a c (λ t m since moment. moment since)
      (moments_after (BootMoment host) (BootedTo host new) (TurnMoment other Nothing new) (λ t m. IsSince t m → LinesMoment host (line text more) old t m) a b c (λ t m moment since. boot_line host text more is old t m since moment)
      (λ t u m up turn since. booted_line host old new t u up begun text more is m since (subst (λ (h : Host). TurnMoment h Nothing new u m) same turn)) boots booted turns)

pub returns-in-Ok-clause-moments : goal.returns-in-Ok-clause-moments
returns-in-Ok-clause-moments g c = λ text more is.
    both_lines c.args.engine.now.host c.reboot.new.self.host c.in-Ok.ensures.answer.host c.args.engine.now.state c.reboot.new.self.state c.in-Ok.ensures.answer.begun _ _ _ c.reboot.ensures.moments
    (λ t start. (let up = c.in-Ok.ensures.end t start in (up.0, up.1, up.2.booted refl))) c.accept.ensures.moments.each text more is

pub returns-in-Ok-clause-end : goal.returns-in-Ok-clause-end
returns-in-Ok-clause-end g c = λ text boots.
    let host = c.args.engine.now.host in
    let old = c.args.engine.now.state in
    let new = c.reboot.new.self.state in
    let outcomes = DriveFailures g.B.Shelf c.args.bench.now c.accept.new.bench in
    let replies = GivingFailed g.B.Shelf c.args.bench.now c.accept.new.bench in
    let made = made_of g.B.Shelf c.args.bench.now c.accept.new.bench in
    subst (λ (e : Engine). Ends (LineEnd outcomes replies made host text old e.state c.accept.result) (g.B.Shelf.tale c.args.bench.now) (g.B.Shelf.tale c.accept.new.bench)) (sym c.accept.ensures.answer.same)
    (λ t is. (
    let quiet = moments_end (BootMoment host) _ _ c.reboot.ensures.moments t is in
    let up = c.in-Ok.ensures.end t is in
    let end = c.accept.ensures.end up.0 up.1 in (
      end.0,
      end.1,
      record {
        answered = λ knows. line_executed text Boot boots outcomes replies made host old new c.accept.result t end.0
            (executed _ _ _ _ made host Boot old new accepted c.accept.result t up.0 end.0
            (λ drive. within_calm _ _ _ (c.accept.ensures.answer.calm drive))
            (calm_before _ _ _ (c.reboot.ensures.kept.others OnReplies (replies_apart c.args.engine.now.host.site.drives))).some
            (ap told (some_is _ up.0 quiet.0 up.1 quiet.1) ∙ quiet.2.quiet) up.2.rebooted end.2
            (boot_too (DriveFailures g.B.Shelf c.args.bench.now c.reboot.new.shelf) (DriveFailures g.B.Shelf c.args.bench.now c.reboot.new.shelf) (same_within (DriveFailures g.B.Shelf c.args.bench.now c.reboot.new.shelf)) (made_of g.B.Shelf c.args.bench.now c.reboot.new.shelf) (and_more 1 made) (with_more g.B.Shelf.calls g.B.Shelf.written _ _ _ 1 c.accept.ensures.counted.once) host accepted new (contents t) up.2.effort))
            (turn_writes host ToBoot old _ _ (both_turns host c.reboot.new.self.host c.in-Ok.ensures.answer.host old new c.in-Ok.ensures.answer.begun _ _ _ c.reboot.ensures.moments (λ s start. (let there = c.in-Ok.ensures.end s start in (there.0, there.1, there.2.booted refl))) c.accept.ensures.moments.each) t end.0 is end.1)
            (λ quiet. absurd (loud_ok _ c.accept.result c.accept.ensures.answer.cause quiet)) (λ still. absurd (said_still _ outcome.Ok c.accept.result c.accept.ensures.answer.cause still)) (λ same none. kept_outside_more nowhere t up.0 end.0 (none_opened up.2 none) end.2.kept) (λ ok command same. absurd (cc (same)))
            (λ ok same drive own calm. synced_still drive.0 up.0 end.0 (λ block. end.2.kept drive.0 block refl) (up.2.synced refl drive own (λ once. calm ((within_calm _ _ _ (c.accept.ensures.answer.calm drive.0)).some once))))
            (λ ended command same. absurd (cc (same)));
        ran = λ on more. booted_ran host old new t up.0 (up.2.booted refl) c.in-Ok.ensures.answer.begun text more boots c.in-Ok.ensures.answer.fresh end.0
            (since_more t up.0 end.0 (end_since (BootMoment host) _ _ c.reboot.ensures.moments t up.0 is up.1) (end_since (TurnMoment c.reboot.new.self.host Nothing new) _ _ c.accept.ensures.moments.each up.0 end.0 up.1 end.1)) (accepted_turned host new _ c.accept.result up.0 end.0 end.2 on) (stays_still host up.0 end.0 end.2.kept) (accepted_ok host new _ c.accept.result up.0 end.0 end.2 on);
        knows = λ kept known. knows_kept host up.0 end.0 end.2.kept new (up.2.booted refl).knows;
      },
    )))

pub returns-in-Ok-clause-stays : goal.returns-in-Ok-clause-stays
returns-in-Ok-clause-stays g c =
    let host = c.args.engine.now.host in
    let old = c.args.engine.now.state in
    let new = c.reboot.new.self.state in
    let quiet = moments_weaker (BootMoment host) (λ t m. told m ≡ told t) _ _ (λ t m moment. moment.quiet) c.reboot.ensures.moments in record {
      home = both_stay host _ _ _ (boot_stays host _ _ c.reboot.ensures.moments)
          (subst (λ (h : Host). Moments (StaysHome h) (g.B.Shelf.tale c.reboot.new.shelf) (g.B.Shelf.tale c.accept.new.bench)) c.in-Ok.ensures.answer.host (turn_stays c.reboot.new.self.host Nothing c.reboot.new.self.state _ _ c.accept.ensures.moments.each));
      given = λ uncut. c.accept.ensures.counted.given (uncut_replied _ outcome.Ok c.accept.result c.accept.ensures.answer.cause uncut) ∙ c.reboot.ensures.kept.others OnReplies (replies_apart c.args.engine.now.host.site.drives);
      told = λ on. told_behind g.B.Shelf g.met.B.Shelf.telling _ _ _ c.reboot.ensures.kept.goes quiet (c.accept.ensures.counted.told on);
      rests = rests_behind g.B.Shelf g.met.B.Shelf.telling _ _ _ c.reboot.ensures.kept.goes quiet c.accept.ensures.moments.rests;
      writes = moments_weaker (TurnMoment host ToBoot old) (BootWorks c.args.engine.now) _ _ (λ s m turn text boots more. inr (text, more, refl, Boot, boots, turn.within))
          (both_turns host c.reboot.new.self.host c.in-Ok.ensures.answer.host old new c.in-Ok.ensures.answer.begun _ _ _ c.reboot.ensures.moments (λ s start. (let there = c.in-Ok.ensures.end s start in (there.0, there.1, there.2.booted refl))) c.accept.ensures.moments.each);
      tells = λ text boots. each_joined (OfTales (λ t m. told m ≡ told t)) (λ t m. AnswerFront host accepted new t m × OfTales (λ x y. IsSince x y × TurnMoment host Nothing new x y) t m) (LineFront host text old) _ _ _ _ _ _
          (λ s u v first mid last turn there ahead m here within knows. inl here)
          (λ s u v first mid last turn m here within ahead knows.
          let from : g.B.Shelf.tale c.args.bench.now ≡ Some (tale_of s) = g.met.B.Shelf.telling c.args.bench.now ∙ ap (λ (o : Option Story). option_map tale_of o) first in
          let by : g.B.Shelf.tale c.reboot.new.shelf ≡ Some (tale_of u) = g.met.B.Shelf.telling c.reboot.new.shelf ∙ ap (λ (o : Option Story). option_map tale_of o) mid in
          let up = c.in-Ok.ensures.end (tale_of s) from in
          let same = some_is (g.B.Shelf.tale c.reboot.new.shelf) up.0 (tale_of u) up.1 by in
          let booted : BootedTo host new (tale_of s) (tale_of u) = subst (BootedTo host new (tale_of s)) same (up.2.booted refl) in
          boot_front host old new text boots (moment s _) (moment u _) m turn (subst (λ (x : Tale). IsRebooted (DriveFailures g.B.Shelf c.args.bench.now c.reboot.new.shelf) host (kept_at old (tale_of s)) accepted (kept_at new x)) same up.2.rebooted)
          booted c.in-Ok.ensures.answer.begun c.in-Ok.ensures.answer.fresh (since_more (tale_of s) (tale_of u) m.tale (end_since (BootMoment host) _ _ c.reboot.ensures.moments (tale_of s) (tale_of u) from by) here.1.0) here.1.1.home (here.0 booted.knows))
          (moments_of_tales g.B.Shelf g.met.B.Shelf.telling _ _ (λ t m. told m ≡ told t) c.reboot.ensures.kept.goes quiet)
          (moment_with_tales g.B.Shelf g.met.B.Shelf.telling _ _ (AnswerFront host accepted new) (λ x y. IsSince x y × TurnMoment host Nothing new x y)
          (subst (λ (h : Host). AtEachMoment g.B.Shelf (AnswerFront h accepted new) c.reboot.new.shelf c.accept.new.bench) c.in-Ok.ensures.answer.host c.accept.ensures.moments.fronts)
          (moments_since (TurnMoment host Nothing new) _ _ (subst (λ (h : Host). Moments (TurnMoment h Nothing new) (g.B.Shelf.tale c.reboot.new.shelf) (g.B.Shelf.tale c.accept.new.bench)) c.in-Ok.ensures.answer.host c.accept.ensures.moments.each)));
    }

-- a boot that wasn't answered
pub returns-in-Err-clause-end : goal.returns-in-Err-clause-end
returns-in-Err-clause-end g c = λ text boots t is.
    let host = c.args.engine.now.host in
    let quiet = moments_end (BootMoment host) _ _ c.reboot.ensures.moments t is in
    let done = c.in-Err.ensures.end t is in (
      done.0,
      done.1,
      record {
        answered = λ knows. record {
          answer = Over c.in-Err.end;
          done = inr (inl (Boot, boots, done.2.rebooted));
          calls = inr (inl (Boot, boots, done.2.effort));
          unwritten = λ on quiet. absurd (never_ended c.in-Err.end (subst IsReplied c.reply_at.ensures on));
          still = ended_unwritten c.in-Err.end done.2;
          leaves = λ on ok. absurd (cc (ok));
          torn = λ on ended. absurd (cc (ended));
          writes = inr (Boot, boots, subst (KeptOutside (site_area host.site) t) (some_is _ quiet.0 done.0 quiet.1 done.1) quiet.2.kept);
          replied = record { piece = []; is_told = ap told (some_is _ done.0 quiet.0 done.1 quiet.1) ∙ quiet.2.quiet ∙ sym (append-nil (told t)); as_told = (c.reply_at.ensures, refl) };
        };
        ran = λ on more. absurd (never_ended c.in-Err.end (subst IsReplied c.reply_at.ensures on));
        knows = λ kept. absurd (kept (subst IsLost (sym c.reply_at.ensures) (ended_lost c.in-Err.end)));
      },
    )

pub returns-in-Err-clause-moments : goal.returns-in-Err-clause-moments
returns-in-Err-clause-moments g c = λ text more is.
    let host = c.args.engine.now.host in
    let old = c.args.engine.now.state in
    since_weaker (BootMoment host) (LinesMoment host (line text more) old) _ _ (λ t m since moment. boot_line host text more is old t m since moment) c.reboot.ensures.moments

pub returns-in-Err-clause-stays : goal.returns-in-Err-clause-stays
returns-in-Err-clause-stays g c = record {
  home = boot_stays c.args.engine.now.host _ _ c.reboot.ensures.moments;
  told = λ on. absurd (never_ended c.in-Err.end (subst IsReplied c.reply_at.ensures on));
  given = λ uncut. c.reboot.ensures.kept.others OnReplies (replies_apart c.args.engine.now.host.site.drives);
  rests = rests_quiet g.B.Shelf g.met.B.Shelf.telling _ _ c.reboot.ensures.kept.goes (moments_weaker (BootMoment c.args.engine.now.host) (λ t m. told m ≡ told t) _ _ (λ t m moment. moment.quiet) c.reboot.ensures.moments);
  writes = moments_weaker (BootMoment c.args.engine.now.host) (BootWorks c.args.engine.now) _ _ (λ s m moment text boots more. inr (text, more, refl, Boot, boots, moment.kept)) c.reboot.ensures.moments;
  tells = λ text boots. moment_weaker g.B.Shelf (OfTales (λ t m. told m ≡ told t)) (LineFront c.args.engine.now.host text c.args.engine.now.state) _ _ (λ t m up below here known. inl here) (moments_of_tales g.B.Shelf g.met.B.Shelf.telling _ _ (λ t m. told m ≡ told t) c.reboot.ensures.kept.goes
      (moments_weaker (BootMoment c.args.engine.now.host) (λ t m. told m ≡ told t) _ _ (λ t m moment. moment.quiet) c.reboot.ensures.moments));
}

pub returns-in-Err-clause-answer : goal.returns-in-Err-clause-answer
returns-in-Err-clause-answer g c = record {
  line = record {
    counted = λ n calls. over_calls g.B.Shelf c.args.engine.now.host _ _ c.in-Err.end c.reboot.new.self.state c.in-Err.ensures.counted n calls;
    cause = subst (HasReplyCause (IsLostOnSite (DriveFailures g.B.Shelf c.args.bench.now c.reboot.new.shelf) c.args.engine.now.host) _) (sym c.reply_at.ensures) (ended_reply c.args.engine.now.host (DriveFailures g.B.Shelf c.args.bench.now c.reboot.new.shelf) _ c.in-Err.end c.in-Err.ensures.answer.cause.cause);
    same = c.in-Err.ensures.answer.host;
    well = λ on. c.in-Err.ensures.answer.well;
    begun = (let same = c.in-Err.ensures.answer.begun in omega arith);
  };
  kept = in_time_of_among c.reboot.ensures.kept;
}

pub returns-in-Ok-clause-answer : goal.returns-in-Ok-clause-answer
returns-in-Ok-clause-answer g c = record {
  line = record {
    counted = λ n calls. accepted_calls g.B.Shelf c.args.engine.now.host _ _ _ c.reboot.new.self.state c.in-Ok.ensures.counted c.accept.ensures.counted.once n calls;
    cause = told_reply (IsLostOnSite (DriveFailures g.B.Shelf c.args.bench.now c.accept.new.bench) c.args.engine.now.host) (GivingFailed g.B.Shelf c.args.bench.now c.accept.new.bench) outcome.Ok c.accept.result
        (reply_more _ _ (calm_before _ _ _ (c.reboot.ensures.kept.others OnReplies (replies_apart c.args.engine.now.host.site.drives))).some outcome.Ok c.accept.result c.accept.ensures.answer.cause);
    same = ap (λ (e : Engine). e.host) c.accept.ensures.answer.same ∙ c.in-Ok.ensures.answer.host;
    well = λ on. subst (λ (e : Engine). IsWell c.args.engine.now.host e.state) (sym c.accept.ensures.answer.same) c.in-Ok.ensures.answer.well;
    begun = subst (λ (e : Engine). e.state.begun ≤ c.args.engine.now.state.begun + 1) (sym c.accept.ensures.answer.same) (let same = c.in-Ok.ensures.answer.begun in omega arith);
  };
  kept = in_time_replied c.reboot.ensures.kept c.accept.ensures.kept;
}
