use Rattle.mdv_run_law.proofs.Since.{end_since, since_weaker}
use Rattle.std.proofs.Common.{ℕ, List, length, ◌<◌, ◌≤◌, ◌+◌, refl, inl, inr, ap, subst, sym, arith}
use Rattle.mdv_base.specs.declared.refusal.Refusal.TheVariants.{TooMany}
use Rattle.mdv_shelf.proofs.Between.{between_of}
use Rattle.mdv_shelf.proofs.Counts.{rose_at_most}
use Rattle.mdv_shelf.specs.Made.{made_of}
use Rattle.mdv_shelf.specs.Shelves.{DriveFailures, GivingFailed}
use Rattle.mdv_words.specs.Line as words
use Rattle.mdv_engine_law.specs.Answers.{refusing}
use Rattle.mdv_engine_law.specs.Line.{Nothing}
use Rattle.mdv_engine_law.specs.declared.answer.Outcome.TheVariants as outcome
use Rattle.mdv_engine_law.proofs.Plain.{too_many_plain}
use Rattle.mdv_engine_law.proofs.Staying.{stays_still, turn_stays}
use Rattle.mdv_engine.specs.Ends.{OnlyAnswers}
use Rattle.mdv_run.specs.Below.{line, tab_text, Ends, Engine, IsWell, LinesMoment, TurnMoment}
use Rattle.mdv_run.specs.Promise.{IsWorkOf, LineEnd}
use Rattle.mdv_run_law.proofs.Turning.{line_moment, line_ran, nothing_met}
use Rattle.mdv_run.proofs.Answering.{asks_none, many_comes, no_boot, refused_down, refused_keeps, refused_knows, refused_turned, told_reply, uncut_replied}
use Rattle.mdv_run.proofs.Counting.{wider}
use Rattle.mdv_run.proofs.Fronts.{fronts_led, only_refused}
use Rattle.mdv_run.proofs.Led.{refused_led}
use Rattle.mdv_run.proofs.session.refuse_tab.Goals as goal

pub refuse-requires : goal.refuse-requires
refuse-requires g c = too_many_plain

pub returns-clause-moments : goal.returns-clause-moments
returns-clause-moments g c = λ lines more.
    let host = c.args.engine.now.host in
    let old = c.args.engine.now.state in
    since_weaker (TurnMoment host Nothing old) (LinesMoment host (line (tab_text lines) more) old) _ _ (λ t m since turn. line_moment host (tab_text lines) Nothing more old t m (nothing_met host t) since turn (inl (inr (words.Tab lines, refl, refl))) (inl (no_boot (tab_text lines) (words.Tab lines) refl (λ same. cc (same))))) (c.refuse.ensures.moments.line Nothing).each

pub returns-clause-end : goal.returns-clause-end
returns-clause-end g c = λ lines many.
    let host = c.args.engine.now.host in
    let old = c.args.engine.now.state in
    let text = tab_text lines in
    let outcomes = DriveFailures g.B.Shelf c.args.bench.now c.refuse.new.bench in
    let replies = GivingFailed g.B.Shelf c.args.bench.now c.refuse.new.bench in
    let made = made_of g.B.Shelf c.args.bench.now c.refuse.new.bench in
    subst (λ (e : Engine). Ends (LineEnd outcomes replies made host text old e.state c.refuse.result) (g.B.Shelf.tale c.args.bench.now) (g.B.Shelf.tale c.refuse.new.bench)) (sym c.refuse.ensures.answer.same)
    (λ t told. (
    let end = c.refuse.ensures.end t told in (
      end.0,
      end.1,
      record {
        answered = λ knows. record {
          answer = refusing TooMany;
          done = many_comes lines outcomes host _ _ _ many c.refuse.ensures.answer.calm (refused_down host old TooMany too_many_plain replies c.refuse.result t end.0 end.2);
          calls = inr (inl (words.Tab lines, refl, between_of g.B.Shelf.calls g.B.Shelf.written _ _ 1 0 1 1 0 (omega arith) (omega arith) (omega arith) c.refuse.ensures.counted.once));
          writes = inl end.2.kept;
          unwritten = λ on quiet. end.2.kept;
          still = λ ends. absurd ends;
          leaves = λ on ok. absurd (cc (ok));
          torn = λ on ended. absurd (cc (ended));
          replied = end.2.replied;
        };
        ran = λ on more. line_ran host text Nothing more old old t end.0 (nothing_met host t) (end_since (TurnMoment host Nothing old) _ _ (c.refuse.ensures.moments.line Nothing).each t end.0 told end.1) (refused_turned host old TooMany too_many_plain replies c.refuse.result t end.0 end.2 Nothing on) (stays_still host t end.0 end.2.kept) (inl (inr (words.Tab lines, refl, refl))) (inl (no_boot text (words.Tab lines) refl (λ same. cc (same))))
            (λ knows. refused_keeps host old TooMany too_many_plain replies c.refuse.result t end.0 end.2 text Nothing on);
        knows = λ kept. refused_knows host old TooMany too_many_plain replies c.refuse.result t end.0 end.2;
      },
    )))

pub returns-clause-stays : goal.returns-clause-stays
returns-clause-stays g c = record {
  home = turn_stays c.args.engine.now.host Nothing c.args.engine.now.state _ _ (c.refuse.ensures.moments.line Nothing).each;
  told = c.refuse.ensures.counted.told;
  given = λ uncut. c.refuse.ensures.counted.given (uncut_replied _ (outcome.Refused TooMany) c.refuse.result c.refuse.ensures.answer.cause uncut);
  rests = (c.refuse.ensures.moments.line Nothing).rests;
  writes = asks_none c.args.engine.now.host c.args.engine.now.state (λ s m. (lines : List ℕ) → 65536 < length lines → IsWorkOf c.args.engine.now (tab_text lines) s m) (λ s m within lines many more. inl within) _ _ (c.refuse.ensures.moments.line Nothing).each;
  tells = λ lines many. fronts_led g.B.Shelf g.met.B.Shelf.telling _ _ (OnlyAnswers (refusing TooMany)) c.args.engine.now.host Nothing c.args.engine.now.state (tab_text lines)
      (λ outcomes kept answer next is. many_comes lines outcomes c.args.engine.now.host kept next answer many is.0 (only_refused TooMany outcomes kept answer next is))
      (λ t m since home. refused_led c.args.engine.now.host (tab_text lines) c.args.engine.now.state t m since home TooMany (λ bytes is. inl (inr (words.Tab lines, refl, refl))) (λ bytes is. inl (no_boot (tab_text lines) (words.Tab lines) refl (λ same. cc (same)))))
      (c.refuse.ensures.moments.line Nothing).fronts (c.refuse.ensures.moments.line Nothing).each;
}

pub returns-clause-answer : goal.returns-clause-answer
returns-clause-answer g c = record {
  cause = told_reply _ _ (outcome.Refused TooMany) c.refuse.result c.refuse.ensures.answer.cause;
  same = ap (λ (e : Engine). e.host) c.refuse.ensures.answer.same;
  well = λ on. subst (λ (e : Engine). IsWell c.args.engine.now.host e.state) (sym c.refuse.ensures.answer.same) c.requires;
  begun = subst (λ (e : Engine). e.state.begun ≤ c.args.engine.now.state.begun + 1) (sym c.refuse.ensures.answer.same) (omega arith);
  counted = λ n some. wider (g.B.Shelf.calls c.args.bench.now) (g.B.Shelf.calls c.refuse.new.bench) 1 n some (rose_at_most 1 1 (g.B.Shelf.calls c.args.bench.now) (g.B.Shelf.calls c.refuse.new.bench) (omega arith) c.refuse.ensures.counted.once.in_calls);
}
