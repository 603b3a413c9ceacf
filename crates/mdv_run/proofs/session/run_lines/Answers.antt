use Rattle.mdv_run.proofs.Counting.{all_left, took_on, took_over}
use Rattle.std.proofs.Common.{◌≤◌, false, refl, sym, ◌∙◌, subst, arith}
use Rattle.mdv_run.specs.Below.{Reader, asked_of, asked_before, OnDrive, OnReplies, Moments, Ends, Host, IsReady, Knows, IsWell, counts, HasStatusCause, LinesMoment, StaysHome}
use Rattle.mdv_run.specs.Promise.{TurnWrites, between, point_at}
use Rattle.mdv_run_law.specs.Told.{WorkWrites}
use Rattle.mdv_shelf.proofs.Moments.{moments_weaker}
use Rattle.mdv_run.specs.Turns.{LinesRun}
use Rattle.mdv_shelf.specs.Shelves.{AtEachMoment}
use Rattle.mdv_run.proofs.Fronting.{RunFront, fronts_more, fronts_start}
use Rattle.mdv_run.proofs.Shown.{grew_told, last_now, shown_later, shown_now}
use Rattle.mdv_run.proofs.Went.{SoFar, so_far_start, so_far_more, moments_over, over_ends, cause_within, script_at_start}
use Rattle.mdv_shelf.proofs.Noted.{kept_more}
use Rattle.mdv_engine_law.proofs.Kept.{kept_itself}
use Rattle.mdv_engine_law.proofs.Staying.{nothing_stays, both_stay}
use Rattle.mdv_run.proofs.Keeping.{kept_of_time}
use Rattle.mdv_run.proofs.session.run_lines.Goals as goal

pub loop-refused-init : goal.loop-refused-init
loop-refused-init g c = record {
  host = refl;
  ready = c.requires.ready;
  well = c.requires.well;
  begun = subst (λ (r : Reader). c.args.engine.now.state.begun ≤ r.lines) (sym c.new-reader.ensures) (let none = c.requires.begun in omega arith);
  limit = subst (λ (r : Reader). r.lines ≤ 1048576) (sym c.new-reader.ensures) (omega arith);
  kept = kept_itself g.B.Shelf c.args.bench.now;
  source = omega arith;
  calls = λ input left n calls. all_left c.args.engine.now.host (g.B.Shelf.calls c.args.bench.now) _ (asked_of input) n (script_at_start _ _ _ c.new-reader.ensures left) calls;
  home = nothing_stays c.args.engine.now.host _ _ refl;
  fronts = λ input left. fronts_start c.args.engine.now.host (point_at g.B.Shelf g.I.Source c.args.bench.now c.args.script.now) c.args.engine.now.state (asked_of input) g.B.Shelf g.met.B.Shelf.telling c.args.bench.now refl;
  so_far = λ input left. so_far_start c.args.engine.now.host c.args.engine.now.state input _ (between g.B.Shelf c.args.bench.now c.args.bench.now) _ _ (script_at_start _ _ _ c.new-reader.ensures left);
}

pub loop-refused-preserved : goal.loop-refused-preserved
loop-refused-preserved g c =
    let answer = c.in-On.ensures.answer in
    let before = c.loop-refused.invariant in record {
      host = answer.same ∙ before.host;
      ready = subst (λ (h : Host). IsReady h (g.B.Shelf.sizes c.take_turn.new.bench)) (sym answer.same)
          (subst (IsReady c.loop-refused.engine.host) (sym c.in-On.ensures.kept.keeps.same_sizes) before.ready);
      well = subst (λ (h : Host). IsWell h c.take_turn.new.engine.state) (sym answer.same) (answer.well tt);
      begun = answer.begun;
      limit = (answer.on tt).1;
      kept = kept_more before.kept (kept_of_time c.in-On.ensures.kept);
      source = let first = before.source in let more = answer.source in omega arith;
      calls = λ input left n calls. took_on c.args.engine.now.host c.loop-refused.engine.host before.host _ _ _ n _ _ (before.calls input left n calls) answer.counted;
      home = both_stay c.args.engine.now.host _ _ _ before.home
          (subst (λ (h : Host). Moments (StaysHome h) (g.B.Shelf.tale c.loop-refused.bench) (g.B.Shelf.tale c.take_turn.new.bench)) before.host c.in-On.ensures.stays.home);
      fronts = λ input left. subst (λ (h : Host). AtEachMoment g.B.Shelf (RunFront h (between g.B.Shelf c.args.bench.now c.take_turn.new.bench) (point_at g.B.Shelf g.I.Source c.args.bench.now c.args.script.now) c.args.engine.now.state (asked_of input)) c.args.bench.now c.take_turn.new.bench) (sym answer.same)
          (let here = before.so_far input left in
          fronts_more c.loop-refused.engine.host (point_at g.B.Shelf g.I.Source c.args.bench.now c.args.script.now) c.args.engine.now.state (asked_of input) g.B.Shelf g.met.B.Shelf.telling _ _ _ refl (point_at g.B.Shelf g.I.Source c.loop-refused.bench c.loop-refused.script) refl c.loop-refused.engine.state c.loop-refused.any_refused here.left before.kept.goes c.in-On.ensures.kept.goes
          (before.fronts input left) here.went here.ran (c.in-On.ensures.stays.tells here.left here.comes) (c.in-On.ensures.moments here.left here.comes)
          (moments_weaker (TurnWrites g.I.Source c.loop-refused.engine c.loop-refused.script c.loop-refused.reader.reader) (WorkWrites c.loop-refused.engine.host c.loop-refused.engine.state here.left) _ _ (λ s m writes. writes here.left here.comes) c.in-On.ensures.stays.writes));
      so_far = λ input left.
          let here = before.so_far input left in
          subst (λ (h : Host). SoFar h (between g.B.Shelf c.args.bench.now c.take_turn.new.bench) (point_at g.B.Shelf g.I.Source c.args.bench.now c.args.script.now) (point_at g.B.Shelf g.I.Source c.take_turn.new.bench c.take_turn.new.script) c.args.engine.now.state c.take_turn.new.engine.state c.in-On.refused input (asked_before c.take_turn.new.reader.reader (g.I.Source.left c.take_turn.new.script)) (g.B.Shelf.tale c.args.bench.now) (g.B.Shelf.tale c.take_turn.new.bench)) (sym answer.same)
          (so_far_more c.loop-refused.engine.host c.args.engine.now.state input (point_at g.B.Shelf g.I.Source c.args.bench.now c.args.script.now) (point_at g.B.Shelf g.I.Source c.loop-refused.bench c.loop-refused.script) (point_at g.B.Shelf g.I.Source c.take_turn.new.bench c.take_turn.new.script) c.loop-refused.engine.state c.take_turn.new.engine.state c.loop-refused.any_refused _ _ _ _ _ _ here
          (between g.B.Shelf c.args.bench.now c.take_turn.new.bench) c.in-On.refused (record {
            still = λ t u is_t is_u bytes piece shown some le seen. shown_later g.B.Shelf g.met.B.Shelf.telling _ _ _ before.kept.goes c.in-On.ensures.kept.goes bytes piece shown t u some is_t is_u le seen;
            grew = λ u v is_u is_v. grew_told _ _ (c.in-On.ensures.stays.told tt).grew u v is_u is_v;
            last = λ t u v is_t is_u is_v bytes piece until same r script. shown_now g.B.Shelf g.met.B.Shelf.telling _ _ _ before.kept.goes (c.in-On.ensures.stays.told tt) c.in-On.ensures.stays.rests bytes piece (g.I.Source.faults c.take_turn.new.script) c.take_turn.new.engine.state r script t u v is_t is_u is_v until same;
          }) (answer.goes_on tt) c.in-On.ensures.end c.in-On.ensures.moments);
    }

pub returns-in-Over-clause-lines : goal.returns-in-Over-clause-lines
returns-in-Over-clause-lines g c =
    let before = c.loop-refused.invariant in record {
      runs = λ input left.
          let here = before.so_far input left in
          subst (λ (h : Host). Ends (λ t u. Knows h c.args.engine.now.state t → LinesRun h (between g.B.Shelf c.args.bench.now c.take_turn.new.bench) (point_at g.B.Shelf g.I.Source c.args.bench.now c.args.script.now) (counts (g.B.Shelf.faults c.take_turn.new.bench) (g.I.Source.faults c.take_turn.new.script)) c.args.engine.now.state false (asked_of input) c.in-Over.status t u) (g.B.Shelf.tale c.args.bench.now) (g.B.Shelf.tale c.take_turn.new.bench)) before.host
          (over_ends c.loop-refused.engine.host c.args.engine.now.state input (point_at g.B.Shelf g.I.Source c.args.bench.now c.args.script.now) (point_at g.B.Shelf g.I.Source c.loop-refused.bench c.loop-refused.script) (point_at g.B.Shelf g.I.Source c.take_turn.new.bench c.take_turn.new.script) c.loop-refused.engine.state c.take_turn.new.engine.state c.loop-refused.any_refused _ _ _ _ _ _ here
          (between g.B.Shelf c.args.bench.now c.take_turn.new.bench) c.in-Over.status (record {
            still = λ t u is_t is_u bytes piece shown some le seen. shown_later g.B.Shelf g.met.B.Shelf.telling _ _ _ before.kept.goes c.in-Over.ensures.kept.goes bytes piece shown t u some is_t is_u le seen;
            ends = record { quiet = refl; uncalled = refl };
            last = λ t u v is_t is_u is_v bytes until. last_now g.B.Shelf g.met.B.Shelf.telling _ _ _ before.kept.goes c.in-Over.ensures.stays.rests bytes t u v is_t is_u is_v until;
          }) c.in-Over.ensures.end);
      tells = λ input left. subst (λ (h : Host). AtEachMoment g.B.Shelf (RunFront h (between g.B.Shelf c.args.bench.now c.take_turn.new.bench) (point_at g.B.Shelf g.I.Source c.args.bench.now c.args.script.now) c.args.engine.now.state (asked_of input)) c.args.bench.now c.take_turn.new.bench) before.host
          (let here = before.so_far input left in
          fronts_more c.loop-refused.engine.host (point_at g.B.Shelf g.I.Source c.args.bench.now c.args.script.now) c.args.engine.now.state (asked_of input) g.B.Shelf g.met.B.Shelf.telling _ _ _ refl (point_at g.B.Shelf g.I.Source c.loop-refused.bench c.loop-refused.script) refl c.loop-refused.engine.state c.loop-refused.any_refused here.left before.kept.goes c.in-Over.ensures.kept.goes
          (before.fronts input left) here.went here.ran (c.in-Over.ensures.stays.tells here.left here.comes) (c.in-Over.ensures.moments here.left here.comes)
          (moments_weaker (TurnWrites g.I.Source c.loop-refused.engine c.loop-refused.script c.loop-refused.reader.reader) (WorkWrites c.loop-refused.engine.host c.loop-refused.engine.state here.left) _ _ (λ s m writes. writes here.left here.comes) c.in-Over.ensures.stays.writes));
      moments = λ input left.
          let here = before.so_far input left in
          subst (λ (h : Host). Moments (LinesMoment h (asked_of input) c.args.engine.now.state) (g.B.Shelf.tale c.args.bench.now) (g.B.Shelf.tale c.take_turn.new.bench)) before.host
          (moments_over c.loop-refused.engine.host c.args.engine.now.state input (point_at g.B.Shelf g.I.Source c.args.bench.now c.args.script.now) (point_at g.B.Shelf g.I.Source c.loop-refused.bench c.loop-refused.script) (point_at g.B.Shelf g.I.Source c.take_turn.new.bench c.take_turn.new.script) c.loop-refused.engine.state c.take_turn.new.engine.state c.loop-refused.any_refused _ (asked_before c.take_turn.new.reader.reader (g.I.Source.left c.take_turn.new.script)) _ _ _ _ here
          c.in-Over.ensures.moments);
      home = both_stay c.args.engine.now.host _ _ _ before.home
          (subst (λ (h : Host). Moments (StaysHome h) (g.B.Shelf.tale c.loop-refused.bench) (g.B.Shelf.tale c.take_turn.new.bench)) before.host c.in-Over.ensures.stays.home);
      counted = λ input left n calls. took_over c.args.engine.now.host c.loop-refused.engine.host before.host _ _ _ n _ (before.calls input left n calls) c.in-Over.ensures.answer.counted;
      causes = subst (λ (h : Host). HasStatusCause h (counts (g.B.Shelf.faults c.args.bench.now) (g.I.Source.faults c.args.script.now)) (counts (g.B.Shelf.faults c.take_turn.new.bench) (g.I.Source.faults c.take_turn.new.script)) c.in-Over.status) before.host
          (cause_within c.loop-refused.engine.host (counts (g.B.Shelf.faults c.args.bench.now) (g.I.Source.faults c.args.script.now)) (counts (g.B.Shelf.faults c.loop-refused.bench) (g.I.Source.faults c.loop-refused.script)) (counts (g.B.Shelf.faults c.take_turn.new.bench) (g.I.Source.faults c.take_turn.new.script)) (counts (g.B.Shelf.faults c.take_turn.new.bench) (g.I.Source.faults c.take_turn.new.script)) c.in-Over.status
          (record { drives = λ drive. before.kept.keeps.no_fewer_faults (OnDrive drive); source = before.source; replies = before.kept.keeps.no_fewer_faults OnReplies })
          (record { drives = λ drive. omega arith; source = omega arith; replies = omega arith }) c.in-Over.ensures.answer.cause);
    }

pub returns-in-Over-clause-kept : goal.returns-in-Over-clause-kept
returns-in-Over-clause-kept g c = kept_more c.loop-refused.invariant.kept (kept_of_time c.in-Over.ensures.kept)
