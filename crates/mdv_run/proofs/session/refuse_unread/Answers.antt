use Rattle.mdv_run_law.proofs.Since.{end_since, since_weaker}
use Rattle.std.proofs.Common.{ℕ, List, ◌≤◌, ◌+◌, refl, inl, inr, ap, subst, sym, arith}
use Rattle.mdv_base.specs.declared.refusal.Refusal.TheVariants.{OutOfMemory}
use Rattle.mdv_shelf.proofs.Between.{between_of}
use Rattle.mdv_shelf.proofs.Counts.{rose_at_most}
use Rattle.mdv_shelf.specs.Made.{made_of}
use Rattle.mdv_shelf.specs.Shelves.{DriveFailures, GivingFailed}
use Rattle.mdv_engine_law.specs.Answers.{refusing}
use Rattle.mdv_engine_law.specs.Line.{Nothing}
use Rattle.mdv_engine_law.specs.Replies.{text_of}
use Rattle.mdv_engine_law.specs.Standing.{TellMoment}
use Rattle.mdv_engine_law.specs.declared.answer.Outcome.TheVariants as outcome
use Rattle.mdv_engine_law.proofs.Plain.{memory_plain}
use Rattle.mdv_engine_law.proofs.Staying.{turn_stays}
use Rattle.mdv_engine.specs.Ends.{OnlyAnswers}
use Rattle.mdv_run.specs.Below.{line, Ends, Engine, IsWell, LinesMoment}
use Rattle.mdv_run.specs.Promise.{IsWorkOf, LineEnd}
use Rattle.mdv_run.proofs.Answering.{asks_none, refused_down, refused_knows, told_reply, uncut_replied, unread_moment, unread_ran, wanting_whole}
use Rattle.mdv_run.proofs.Counting.{wider}
use Rattle.mdv_run.proofs.Fronts.{fronts_led, only_refused}
use Rattle.mdv_run.proofs.Led.{refused_led}
use Rattle.mdv_run_law.specs.Standing.{IsWanting}
use Rattle.mdv_run.proofs.session.refuse_unread.Goals as goal

pub refuse-requires : goal.refuse-requires
refuse-requires g c = memory_plain

pub returns-clause-moments : goal.returns-clause-moments
returns-clause-moments g c = λ text more.
    since_weaker (TellMoment (text_of (refusing OutOfMemory))) (LinesMoment c.args.engine.now.host (line text more) c.args.engine.now.state) _ _ (unread_moment c.args.engine.now.host text c.args.engine.now.state more) c.refuse.ensures.moments.tells

pub returns-clause-end : goal.returns-clause-end
returns-clause-end g c = λ text.
    let host = c.args.engine.now.host in
    let old = c.args.engine.now.state in
    let outcomes = DriveFailures g.B.Shelf c.args.bench.now c.refuse.new.bench in
    let replies = GivingFailed g.B.Shelf c.args.bench.now c.refuse.new.bench in
    let made = made_of g.B.Shelf c.args.bench.now c.refuse.new.bench in
    subst (λ (e : Engine). Ends (LineEnd outcomes replies made host text old e.state c.refuse.result) (g.B.Shelf.tale c.args.bench.now) (g.B.Shelf.tale c.refuse.new.bench)) (sym c.refuse.ensures.answer.same)
    (λ t told. (
    let end = c.refuse.ensures.end t told in (
      end.0,
      end.1,
      record {
        answered = λ knows. record {
          answer = refusing OutOfMemory;
          done = inr (inr (c.refuse.ensures.answer.calm, refused_down host old OutOfMemory memory_plain replies c.refuse.result t end.0 end.2));
          calls = inr (inr (refl, between_of g.B.Shelf.calls g.B.Shelf.written _ _ 1 0 1 1 0 (omega arith) (omega arith) (omega arith) c.refuse.ensures.counted.once));
          writes = inl end.2.kept;
          unwritten = λ on quiet. end.2.kept;
          still = λ ends. absurd ends;
          leaves = λ on ok. absurd (cc (ok));
          torn = λ on ended. absurd (cc (ended));
          replied = end.2.replied;
        };
        ran = λ on more. unread_ran host text old replies c.refuse.result t end.0 (end_since (TellMoment (text_of (refusing OutOfMemory))) _ _ c.refuse.ensures.moments.tells t end.0 told end.1) end.2 on more;
        knows = λ kept. refused_knows host old OutOfMemory memory_plain replies c.refuse.result t end.0 end.2;
      },
    )))

pub returns-clause-stays : goal.returns-clause-stays
returns-clause-stays g c = record {
  home = turn_stays c.args.engine.now.host Nothing c.args.engine.now.state _ _ (c.refuse.ensures.moments.line Nothing).each;
  told = c.refuse.ensures.counted.told;
  given = λ uncut. c.refuse.ensures.counted.given (uncut_replied _ (outcome.Refused OutOfMemory) c.refuse.result c.refuse.ensures.answer.cause uncut);
  rests = (c.refuse.ensures.moments.line Nothing).rests;
  writes = asks_none c.args.engine.now.host c.args.engine.now.state (λ s m. (text : List ℕ) → Unit {0} → IsWorkOf c.args.engine.now text s m) (λ s m within text any more. inl within) _ _ (c.refuse.ensures.moments.line Nothing).each;
  tells = λ text any. fronts_led g.B.Shelf g.met.B.Shelf.telling _ _ (OnlyAnswers (refusing OutOfMemory)) c.args.engine.now.host Nothing c.args.engine.now.state text
      (λ outcomes kept answer next is. inr (inr (is.0, only_refused OutOfMemory outcomes kept answer next is)))
      (λ t m since home. refused_led c.args.engine.now.host text c.args.engine.now.state t m since home OutOfMemory (λ bytes is. inr (refl, subst IsWanting (sym is) wanting_whole)) (λ bytes is. inr (subst IsWanting (sym is) wanting_whole)))
      (c.refuse.ensures.moments.line Nothing).fronts (c.refuse.ensures.moments.line Nothing).each;
}

pub returns-clause-answer : goal.returns-clause-answer
returns-clause-answer g c = record {
  cause = told_reply _ _ (outcome.Refused OutOfMemory) c.refuse.result c.refuse.ensures.answer.cause;
  same = ap (λ (e : Engine). e.host) c.refuse.ensures.answer.same;
  well = λ on. subst (λ (e : Engine). IsWell c.args.engine.now.host e.state) (sym c.refuse.ensures.answer.same) c.requires;
  begun = subst (λ (e : Engine). e.state.begun ≤ c.args.engine.now.state.begun + 1) (sym c.refuse.ensures.answer.same) (omega arith);
  counted = λ n some. wider (g.B.Shelf.calls c.args.bench.now) (g.B.Shelf.calls c.refuse.new.bench) 1 n some (rose_at_most 1 1 (g.B.Shelf.calls c.args.bench.now) (g.B.Shelf.calls c.refuse.new.bench) (omega arith) c.refuse.ensures.counted.once.in_calls);
}
