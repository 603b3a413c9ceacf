use Rattle.mdv_run_law.proofs.Since.{end_since}
use Rattle.mdv_shelf.specs.Moments.{IsSince}
use Rattle.mdv_run.proofs.Counting.{booted_calls, only_boot, run_calls}
use Rattle.mdv_engine_law.proofs.Kept.{kept_itself}
use Rattle.mdv_shelf.specs.Made.{effort_of}
use Rattle.mdv_shelf.proofs.Made.{by_efforts}
use Rattle.mdv_engine_law.specs.Answers.{accepted}
use Rattle.mdv_engine_law.specs.Line.{contents}
use Rattle.mdv_engine_law.proofs.Efforts.{boot_too}
use Rattle.std.proofs.Common.{◌≡◌, Err, inr, false, refl, sym, ◌∙◌, ap, subst, arith}
use Rattle.mdv_run.specs.Below.{asked_of, told, OnDrive, OnReplies, Moments, Host, boot_answer, unbooted, BootMoment, BootedTo, Knows, RunStatus, counts, HasStatusCause, IsWholeRun, RunMoment, LinesMoment, Engine, StaysHome}
use Rattle.mdv_shelf.proofs.Moments.{moments_after, moments_weaker, moments_end, some_is}
use Rattle.mdv_run.specs.Turns.{LinesRun}
use Rattle.mdv_run_law.proofs.Booting.{boot_run, lines_run}
use Rattle.mdv_shelf.specs.Area.{KeptOutside, nowhere}
use Rattle.mdv_run.proofs.Whole.{boot_calm, boot_writes, ended_unwritten, from_ends, none_opened, point_between, whole_over, whole_lines, over_cause}
use Rattle.mdv_run.specs.Promise.{between, point_at}
use Rattle.mdv_shelf.specs.Shelves.{AtEachMoment}
use Rattle.mdv_run.proofs.Fronting.{IsBooting, RunFront, fronts_quiet, fronts_whole}
use Rattle.mdv_run.proofs.Shown.{last_earlier, shown_earlier}
use Rattle.mdv_run.proofs.Went.{cause_within, run_earlier}
use Rattle.mdv_engine_law.proofs.Staying.{both_stay, boot_stays}
use Rattle.mdv_shelf.proofs.Noted.{kept_more, moments_of_tales}
use Rattle.mdv_shelf.proofs.Among.{in_time_of_among, kept_of_among}
use Rattle.mdv_engine_law.specs.declared.answer.Answer.TheVariants.{Over}
use Rattle.mdv_run_law.specs.Run.{drive_failures}
use Rattle.mdv_run.specs.Calls.{ScriptCalls, boot_calls}
use Rattle.mdv_run.proofs.Answering.{same_within}
use Rattle.mdv_run.proofs.session.run_host.Goals as goal

pub returns-in-Ok-clause-has_run : goal.returns-in-Ok-clause-has_run
returns-in-Ok-clause-has_run g c = record {
  runs = λ t is input left.
      let host = c.args.host in
      let quiet = moments_end (BootMoment host) _ _ c.boot.ensures.moments t is in
      let done = c.in-Ok.ensures.end t is in
      let lines = c.run_lines.ensures.lines.runs input left done.0 done.1 in
      let knows : Knows c.in-Ok.engine.host c.in-Ok.engine.state done.0 = subst (λ (h : Host). Knows h c.in-Ok.engine.state done.0) (sym c.in-Ok.ensures.answer.engine.0) (done.2.booted refl).knows in
      let start = counts (g.B.Shelf.faults c.args.bench.now) (g.I.Source.faults c.args.script.now) in
      let mid = counts (g.B.Shelf.faults c.boot.new.shelf) (g.I.Source.faults c.args.script.now) in
      let there = point_at g.B.Shelf g.I.Source c.boot.new.shelf c.args.script.now in
      let end = counts (g.B.Shelf.faults c.run_lines.new.bench) (g.I.Source.faults c.run_lines.new.script) in
      let silent = moments_weaker (BootMoment host) (λ t m. told m ≡ told t) _ _ (λ t m moment. moment.quiet) c.boot.ensures.moments in
      inr (whole_lines host (between g.B.Shelf c.args.bench.now c.run_lines.new.bench) start t (asked_of input) _ mid end (boot_calm g.B.Shelf c.args.bench.now c.boot.new.shelf c.args.host.site.drives (g.I.Source.faults c.args.script.now) c.boot.ensures.kept)
      done.0 lines.0 c.in-Ok.engine.state c.run_lines.result (g.B.Shelf.story c.boot.new.shelf) (effort_of g.B.Shelf c.boot.new.shelf) (point_between g.B.Shelf g.met.B.Shelf.telling _ c.boot.new.shelf _ (g.I.Source.faults c.args.script.now) done.0 done.1 (in_time_of_among c.boot.ensures.kept) silent c.run_lines.ensures.kept.goes) lines.1 (ap told (some_is _ done.0 quiet.0 done.1 quiet.1) ∙ quiet.2.quiet) done.2.rebooted (boot_too (drive_failures start mid) (drive_failures start mid) (same_within (drive_failures start mid)) _ _ (by_efforts g.B.Shelf c.args.bench.now c.boot.new.shelf) host accepted c.in-Ok.engine.state (contents t) done.2.effort) (boot_writes g.B.Shelf g.met.B.Shelf.telling host _ _ c.boot.ensures.moments)
      (λ none. from_ends g.B.Shelf g.met.B.Shelf.telling (KeptOutside nowhere) _ _ (λ s start. (let up = c.in-Ok.ensures.end s start in (up.0, up.1, none_opened up.2 none))))
      (from_ends g.B.Shelf g.met.B.Shelf.telling (λ x y. BootedTo host c.in-Ok.engine.state x y × IsSince x y) _ _
      (λ s start. (let up = c.in-Ok.ensures.end s start in (up.0, up.1, (up.2.booted refl, end_since (BootMoment host) _ _ c.boot.ensures.moments s up.0 start up.1)))))
      (run_earlier host (between g.B.Shelf c.boot.new.shelf c.run_lines.new.bench) (between g.B.Shelf c.args.bench.now c.run_lines.new.bench) (record { quiet = refl; uncalled = refl })
      (λ bytes piece shown some seen. shown_earlier g.B.Shelf g.met.B.Shelf.telling _ _ _ c.boot.ensures.kept.goes silent bytes piece shown some seen)
      (λ bytes drives content seen. last_earlier g.B.Shelf g.met.B.Shelf.telling _ _ _ c.boot.ensures.kept.goes silent bytes drives content seen)
      there end c.in-Ok.engine.state (asked_of input) c.run_lines.result done.0 lines.0
      (subst (λ (h : Host). LinesRun h (between g.B.Shelf c.boot.new.shelf c.run_lines.new.bench) there end c.in-Ok.engine.state false (asked_of input) c.run_lines.result done.0 lines.0) c.in-Ok.ensures.answer.engine.0 (lines.2 knows))));
  stands = λ input left.
      let host = c.args.host in
      moments_of_tales g.B.Shelf g.met.B.Shelf.telling _ _ (RunMoment host (asked_of input)) (kept_more (kept_of_among c.boot.ensures.kept) c.run_lines.ensures.kept).goes
      (moments_after (BootMoment host) (λ t u. IsSince t u × BootedTo host c.in-Ok.engine.state t u) (LinesMoment host (asked_of input) c.in-Ok.engine.state) (RunMoment host (asked_of input)) _ _ _
      (λ t m moment. boot_run host (asked_of input) t m moment)
      (λ t u m booted lines. lines_run host (asked_of input) c.in-Ok.engine.state t u c.in-Ok.ensures.answer.engine.3 c.in-Ok.ensures.answer.engine.2 booted.0 booted.1 m lines)
      c.boot.ensures.moments (λ t is. (let up = c.in-Ok.ensures.end t is in (up.0, up.1, (end_since (BootMoment host) _ _ c.boot.ensures.moments t up.0 is up.1, up.2.booted refl))))
      (subst (λ (h : Host). Moments (LinesMoment h (asked_of input) c.in-Ok.engine.state) (g.B.Shelf.tale c.boot.new.shelf) (g.B.Shelf.tale c.run_lines.new.bench)) c.in-Ok.ensures.answer.engine.0 (c.run_lines.ensures.lines.moments input left)));
  tells = λ input left. fronts_whole g.B.Shelf g.met.B.Shelf.telling c.args.host (counts (g.B.Shelf.faults c.args.bench.now) (g.I.Source.faults c.args.script.now)) (asked_of input) _ _ _ c.in-Ok.engine.state (in_time_of_among c.boot.ensures.kept)
      (boot_calm g.B.Shelf c.args.bench.now c.boot.new.shelf c.args.host.site.drives (g.I.Source.faults c.args.script.now) c.boot.ensures.kept) c.run_lines.ensures.kept.goes (moments_weaker (BootMoment c.args.host) (IsBooting c.args.host) _ _ (λ t m moment. (moment.quiet, moment.kept)) c.boot.ensures.moments)
      (λ t is. (let end = c.in-Ok.ensures.end t is in (end.0, end.1, (end.2.rebooted, record { booted = end.2.booted refl; since = end_since (BootMoment c.args.host) _ _ c.boot.ensures.moments t end.0 is end.1; synced = end.2.synced refl }, end.2.effort)))) (boot_writes g.B.Shelf g.met.B.Shelf.telling c.args.host _ _ c.boot.ensures.moments)
      (λ none. from_ends g.B.Shelf g.met.B.Shelf.telling (KeptOutside nowhere) _ _ (λ s start. (let up = c.in-Ok.ensures.end s start in (up.0, up.1, none_opened up.2 none))))
      (subst (λ (h : Host). AtEachMoment g.B.Shelf (RunFront h (between g.B.Shelf c.boot.new.shelf c.run_lines.new.bench) (point_at g.B.Shelf g.I.Source c.boot.new.shelf c.args.script.now) c.in-Ok.engine.state (asked_of input)) c.boot.new.shelf c.run_lines.new.bench) c.in-Ok.ensures.answer.engine.0 (c.run_lines.ensures.lines.tells input left));
  home = let host = c.args.host in
      both_stay host _ _ _ (boot_stays host _ _ c.boot.ensures.moments)
      (subst (λ (h : Host). Moments (StaysHome h) (g.B.Shelf.tale c.boot.new.shelf) (g.B.Shelf.tale c.run_lines.new.bench)) c.in-Ok.ensures.answer.engine.0 c.run_lines.ensures.lines.home);
  counted = λ input left n calls. run_calls _ _ _ (boot_calls c.args.host) n (booted_calls g.B.Shelf c.args.host _ _ accepted c.in-Ok.engine.state c.in-Ok.ensures.counted)
      (c.run_lines.ensures.lines.counted input left n (subst (λ (h : Host). ScriptCalls h (asked_of input) n) (sym c.in-Ok.ensures.answer.engine.0) calls));
  causes = inr (cause_within c.args.host (counts (g.B.Shelf.faults c.args.bench.now) (g.I.Source.faults c.args.script.now)) (counts (g.B.Shelf.faults c.boot.new.shelf) (g.I.Source.faults c.args.script.now))
      (counts (g.B.Shelf.faults c.run_lines.new.bench) (g.I.Source.faults c.run_lines.new.script)) (counts (g.B.Shelf.faults c.run_lines.new.bench) (g.I.Source.faults c.run_lines.new.script)) c.run_lines.result
      (record { drives = λ drive. c.boot.ensures.kept.keeps.no_fewer_faults (OnDrive drive); source = omega arith; replies = c.boot.ensures.kept.keeps.no_fewer_faults OnReplies }) (record { drives = λ drive. omega arith; source = omega arith; replies = omega arith })
      (subst (λ (h : Host). HasStatusCause h (counts (g.B.Shelf.faults c.boot.new.shelf) (g.I.Source.faults c.args.script.now)) (counts (g.B.Shelf.faults c.run_lines.new.bench) (g.I.Source.faults c.run_lines.new.script)) c.run_lines.result) c.in-Ok.ensures.answer.engine.0 c.run_lines.ensures.lines.causes));
}

pub returns-in-Err-clause-has_run : goal.returns-in-Err-clause-has_run
returns-in-Err-clause-has_run g c = record {
  runs = λ t is input left.
      let host = c.args.host in
      let quiet = moments_end (BootMoment host) _ _ c.boot.ensures.moments t is in
      let done = c.in-Err.ensures.end t is in
      let start = counts (g.B.Shelf.faults c.args.bench.now) (g.I.Source.faults c.args.script.now) in
      let end = counts (g.B.Shelf.faults c.boot.new.shelf) (g.I.Source.faults c.args.script.now) in
      inr (subst (λ (s : RunStatus). IsWholeRun host (between g.B.Shelf c.args.bench.now c.boot.new.shelf) start end t (asked_of input) (g.B.Shelf.tale c.boot.new.shelf) s) (sym c.over.ensures)
      (whole_over host (between g.B.Shelf c.args.bench.now c.boot.new.shelf) start t (asked_of input) _ Engine end (boot_calm g.B.Shelf c.args.bench.now c.boot.new.shelf c.args.host.site.drives (g.I.Source.faults c.args.script.now) c.boot.ensures.kept)
      done.0 (unbooted 0) c.in-Err.end (point_between g.B.Shelf g.met.B.Shelf.telling _ c.boot.new.shelf _ (g.I.Source.faults c.args.script.now) done.0 done.1 (in_time_of_among c.boot.ensures.kept) (moments_weaker (BootMoment host) (λ t m. told m ≡ told t) _ _ (λ t m moment. moment.quiet) c.boot.ensures.moments) (kept_itself g.B.Shelf c.boot.new.shelf).goes) done.1 (ap told (some_is _ done.0 quiet.0 done.1 quiet.1) ∙ quiet.2.quiet) done.2.rebooted
      (boot_too (drive_failures start end) (drive_failures start end) (same_within (drive_failures start end)) _ _ (by_efforts g.B.Shelf c.args.bench.now c.boot.new.shelf) host (boot_answer {T = Engine} (Err c.in-Err.end)) (unbooted 0) (contents t) done.2.effort) (boot_writes g.B.Shelf g.met.B.Shelf.telling host _ _ c.boot.ensures.moments)
      (λ never. from_ends g.B.Shelf g.met.B.Shelf.telling (KeptOutside nowhere) _ _ (λ s start. (let up = c.in-Err.ensures.end s start in (up.0, up.1, ended_unwritten c.in-Err.end up.2 never))))));
  stands = λ input left.
      let host = c.args.host in
      moments_of_tales g.B.Shelf g.met.B.Shelf.telling _ _ (RunMoment host (asked_of input)) c.boot.ensures.kept.goes
      (moments_weaker (BootMoment host) (RunMoment host (asked_of input)) _ _ (λ t m moment. boot_run host (asked_of input) t m moment) c.boot.ensures.moments);
  tells = λ input left. fronts_quiet g.B.Shelf g.met.B.Shelf.telling c.args.host (counts (g.B.Shelf.faults c.args.bench.now) (g.I.Source.faults c.args.script.now)) (asked_of input) (between g.B.Shelf c.args.bench.now c.boot.new.shelf) _ _ c.boot.ensures.kept.goes (moments_weaker (BootMoment c.args.host) (IsBooting c.args.host) _ _ (λ t m moment. (moment.quiet, moment.kept)) c.boot.ensures.moments);
  home = boot_stays c.args.host _ _ c.boot.ensures.moments;
  counted = λ input left n calls. only_boot _ _ (boot_calls c.args.host) n (booted_calls g.B.Shelf c.args.host _ _ (Over c.in-Err.end) (unbooted 0) c.in-Err.ensures.counted);
  causes = inr (subst (λ (s : RunStatus). HasStatusCause c.args.host (counts (g.B.Shelf.faults c.args.bench.now) (g.I.Source.faults c.args.script.now)) (counts (g.B.Shelf.faults c.boot.new.shelf) (g.I.Source.faults c.args.script.now)) s) (sym c.over.ensures)
      (over_cause Engine (counts (g.B.Shelf.faults c.args.bench.now) (g.I.Source.faults c.args.script.now)) (counts (g.B.Shelf.faults c.boot.new.shelf) (g.I.Source.faults c.args.script.now)) c.args.host c.in-Err.end (unbooted 0) c.in-Err.ensures.answer.cause));
}

pub returns-in-Ok-clause-kept : goal.returns-in-Ok-clause-kept
returns-in-Ok-clause-kept g c = kept_more (kept_of_among c.boot.ensures.kept) c.run_lines.ensures.kept

pub returns-in-Err-clause-kept : goal.returns-in-Err-clause-kept
returns-in-Err-clause-kept g c = kept_of_among c.boot.ensures.kept
