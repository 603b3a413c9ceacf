use Rattle.mdv_run_law.proofs.Since.{end_since, moments_since, since_weaker}
use Rattle.mdv_shelf.specs.Moments.{IsSince}
use Rattle.mdv_shelf.proofs.Noted.{moment_with_tales}
use Rattle.mdv_run.proofs.Counting.{line_took, long_took}
use Rattle.mdv_run.specs.Calls.{TurnTook}
use Rattle.mdv_shelf.proofs.Counts.{rose_at_most}
use Rattle.mdv_shelf.specs.Made.{made_between}
use Rattle.mdv_shelf.proofs.Between.{between_of}
use Rattle.mdv_shelf.proofs.Made.{by_efforts}
use Rattle.mdv_engine_law.specs.declared.answer.Outcome.TheVariants as outcome
use Rattle.std.proofs.Common.{◌≡◌, ◌≤◌, ℕ, List, inl, refl, sym, ap, subst, arith}
use Rattle.mdv_engine_law.specs.Line.{Nothing}
use Rattle.mdv_run.specs.Below.{Script, Engine, IsReplied, line, too_long, asked_before, IsItem, IsItemTurn, Item, TooLong, End, Spent, Moments, TurnMoment, IsWell, OnDrive, OnReplies, ScriptTooLong, counts, told, LinesMoment, RanTo}
use Rattle.mdv_run_law.specs.Run.{EndsAs}
use Rattle.mdv_shelf.proofs.Stories.{moment}
use Rattle.mdv_shelf.proofs.Telling.{each_within, rests_quiet}
use Rattle.mdv_engine_law.proofs.Kept.{kept_itself}
use Rattle.mdv_run.proofs.Keeping.{in_time_itself}
use Rattle.mdv_run.proofs.Fronts.{AnswerFront, LineFront, ScriptFront, line_front, long_front, still_front}
use Rattle.mdv_shelf.proofs.Moments.{moments_none, moments_weaker, some_is}
use Rattle.mdv_shelf.specs.Story.{OfTales, tale_of}
use Rattle.mdv_engine_law.proofs.Plain.{too_long_plain}
use Rattle.mdv_run.specs.declared.session.Turn.{Turn}
use Rattle.mdv_run.specs.Promise.{IsWorkOf, TurnEnd, TurnWrites, point_at}
use Rattle.mdv_run_law.specs.Told.{WorkWrites}
use Rattle.mdv_shelf.proofs.Frame.{kept_outside_same}
use Rattle.mdv_shelf.specs.Area.{nowhere}
use Rattle.mdv_run.specs.Turns.{HasTurnCause}
use Rattle.mdv_run_law.proofs.Lining.{lines_start}
use Rattle.mdv_run_law.proofs.Turning.{long_moment, long_ran}
use Rattle.mdv_run.proofs.Leading.{passes_in_time, end_is, spent_is, long_is, item_is, leads_line, leads_long, on_replied, lost_reply, ended_turn, unread_turn, same_left, turn_cause}
use Rattle.mdv_engine_law.proofs.Staying.{nothing_stays, stays_still, turn_stays}
use Rattle.mdv_base.specs.declared.refusal.Refusal.TheVariants.{LineTooLong}
use Rattle.mdv_run.proofs.Answering.{answered_too, asks_none, uncut_replied, told_reply, refused_turned, refused_down, refused_knows}
use Rattle.mdv_engine_law.specs.Answers.{refusing}
use Rattle.mdv_run.proofs.session.take_turn.Goals as goal

pub refuse-requires : goal.refuse-requires
refuse-requires g c = too_long_plain

-- a line
pub returns-in-Ok-Item-clause-moments : goal.returns-in-Ok-Item-clause-moments
returns-in-Ok-Item-clause-moments g c = λ lines before.
    let host = c.args.engine.now.host in
    let old = c.args.engine.now.state in
    let reads : IsItemTurn lines Item c.next.new.self (g.I.Source.left c.next.new.source) = rw c.in-Ok-Item.field-0-is at (c.in-Ok-Item.ensures.reads lines before) in
    let script = item_is lines c.next.new.self (g.I.Source.left c.next.new.source) reads in
    subst (λ (s : Script). Moments (LinesMoment host s old) (g.B.Shelf.tale c.args.bench.now) (g.B.Shelf.tale c.answer_item.new.bench)) (sym script.2) (c.answer_item.ensures.moments script.1 script.3 script.0)

pub returns-in-Ok-Item-clause-end : goal.returns-in-Ok-Item-clause-end
returns-in-Ok-Item-clause-end g c = λ lines before t told.
    let host = c.args.engine.now.host in
    let old = c.args.engine.now.state in
    let new = c.answer_item.new.engine.state in
    let now = point_at g.B.Shelf g.I.Source c.args.bench.now c.args.script.now in
    let last = point_at g.B.Shelf g.I.Source c.answer_item.new.bench c.next.new.source in
    let rest = asked_before c.next.new.self.reader (g.I.Source.left c.next.new.source) in
    let reads : IsItemTurn lines Item c.next.new.self (g.I.Source.left c.next.new.source) = rw c.in-Ok-Item.field-0-is at (c.in-Ok-Item.ensures.reads lines before) in
    let script = item_is lines c.next.new.self (g.I.Source.left c.next.new.source) reads in
    let end = c.answer_item.ensures.end script.1 script.3 t told in (
      end.0,
      end.1,
      subst (λ (turn : Turn). TurnEnd host now last old new c.args.any_refused lines rest turn t end.0) (sym c.turn_of.ensures)
          (record {
            turns = λ knows. leads_line now last c.answer_item.result (record { drives = λ drive. c.answer_item.ensures.kept.keeps.no_fewer_faults (OnDrive drive); source = c.in-Ok-Item.ensures.cause.calm; replies = c.answer_item.ensures.kept.keeps.no_fewer_faults OnReplies; given = c.answer_item.ensures.stays.given })
                host old new c.args.any_refused lines script.0 script.1 rest t end.0 (passes_in_time g.B.Shelf g.met.B.Shelf.telling _ _ _ _ t end.0 c.answer_item.ensures.kept told end.1) script.2 script.4 (answered_too (made_between now.effort last.effort) (by_efforts g.B.Shelf c.args.bench.now c.answer_item.new.bench) (end.2.answered knows))
                (λ on. end.2.ran on script.0);
            ran = λ on left is. subst (λ (s : Script). RanTo host s old new left t end.0) (sym script.2)
                (subst (λ (s : Script). RanTo host (line script.1 s) old new left t end.0) (sym (same_left left script.0 is script.4)) (end.2.ran (on_replied c.answer_item.result c.args.any_refused _ refl on) left));
            knows = λ kept. end.2.knows (λ lost. kept (lost_reply c.answer_item.result c.args.any_refused lost));
          }),
    )

pub returns-in-Ok-Item-clause-answer : goal.returns-in-Ok-Item-clause-answer
returns-in-Ok-Item-clause-answer g c = record {
  cause = subst (HasTurnCause c.args.engine.now.host (counts (g.B.Shelf.faults c.args.bench.now) (g.I.Source.faults c.args.script.now)) (counts (g.B.Shelf.faults c.answer_item.new.bench) (g.I.Source.faults c.next.new.source))) (sym c.turn_of.ensures) (turn_cause c.args.engine.now.host (counts (g.B.Shelf.faults c.args.bench.now) (g.I.Source.faults c.args.script.now)) (counts (g.B.Shelf.faults c.answer_item.new.bench) (g.I.Source.faults c.next.new.source)) c.answer_item.result c.args.any_refused c.answer_item.ensures.answer.cause);
  source = c.next.ensures.cause.later;
  same = c.answer_item.ensures.answer.same;
  well = λ on. c.answer_item.ensures.answer.well (on_replied c.answer_item.result c.args.any_refused _ c.turn_of.ensures on);
  begun = let up = (rw c.in-Ok-Item.field-0-is at c.in-Ok-Item.ensures.passed).lines in let more = c.answer_item.ensures.answer.begun in let before = c.requires.begun in omega arith;
  on = λ on. (let up = (rw c.in-Ok-Item.field-0-is at c.in-Ok-Item.ensures.passed).lines in omega arith, (rw c.in-Ok-Item.field-0-is at c.in-Ok-Item.ensures.passed).limit);
  counted = λ lines before n calls.
      let reads : IsItemTurn lines Item c.next.new.self (g.I.Source.left c.next.new.source) = rw c.in-Ok-Item.field-0-is at (c.in-Ok-Item.ensures.reads lines before) in
      let script = item_is lines c.next.new.self (g.I.Source.left c.next.new.source) reads in
      subst (λ (turn : Turn). TurnTook c.args.engine.now.host turn (asked_before c.next.new.self.reader (g.I.Source.left c.next.new.source)) (g.B.Shelf.calls c.args.bench.now) (g.B.Shelf.calls c.answer_item.new.bench) n) (sym c.turn_of.ensures)
      (line_took c.args.engine.now.host _ _ lines _ script.1 script.0 script.2 script.4 (λ k takes. c.answer_item.ensures.answer.counted k (script.1, script.3, takes)) n calls c.answer_item.result c.args.any_refused);
  goes_on = λ on lines before.
      let reads : IsItemTurn lines Item c.next.new.self (g.I.Source.left c.next.new.source) = rw c.in-Ok-Item.field-0-is at (c.in-Ok-Item.ensures.reads lines before) in
      let script = item_is lines c.next.new.self (g.I.Source.left c.next.new.source) reads in
      (script.0, script.4);
}

pub returns-in-Ok-Item-clause-stays : goal.returns-in-Ok-Item-clause-stays
returns-in-Ok-Item-clause-stays g c = record {
  home = c.answer_item.ensures.stays.home;
  told = λ on. c.answer_item.ensures.stays.told (on_replied c.answer_item.result c.args.any_refused _ c.turn_of.ensures on);
  given = λ on. c.answer_item.ensures.stays.given (λ is. subst IsReplied is (on_replied c.answer_item.result c.args.any_refused _ c.turn_of.ensures on));
  rests = c.answer_item.ensures.stays.rests;
  writes = moments_weaker (λ s m. (text : List ℕ) → IsItem text c.next.new.self.item → IsWorkOf c.args.engine.now text s m) (TurnWrites g.I.Source c.args.engine.now c.args.script.now c.args.reader.now.reader) _ _
      (λ s m works lines before.
      let reads : IsItemTurn lines Item c.next.new.self (g.I.Source.left c.next.new.source) = rw c.in-Ok-Item.field-0-is at (c.in-Ok-Item.ensures.reads lines before) in
      let script = item_is lines c.next.new.self (g.I.Source.left c.next.new.source) reads in
      subst (λ (x : Script). WorkWrites c.args.engine.now.host c.args.engine.now.state x s m) (sym script.2) (works script.1 script.3 script.0)) c.answer_item.ensures.stays.writes;
  tells = λ lines before.
      let reads : IsItemTurn lines Item c.next.new.self (g.I.Source.left c.next.new.source) = rw c.in-Ok-Item.field-0-is at (c.in-Ok-Item.ensures.reads lines before) in
      let script = item_is lines c.next.new.self (g.I.Source.left c.next.new.source) reads in
      each_within (LineFront c.args.engine.now.host script.1 c.args.engine.now.state) (ScriptFront c.args.engine.now.host (point_at g.B.Shelf g.I.Source c.args.bench.now c.args.script.now) c.args.engine.now.state c.args.any_refused lines) _ _ _ _
      (λ s u first last m there here within known. line_front c.args.engine.now.host c.args.engine.now.state (point_at g.B.Shelf g.I.Source c.args.bench.now c.args.script.now) c.args.any_refused (moment s _) m refl within.counts.0 (λ x at. ap tale_of (some_is _ x s at first)) lines script.0 script.1 script.2 (here known)) (c.answer_item.ensures.stays.tells script.1 script.3);
}

-- a line that was too long
pub returns-in-Ok-TooLong-clause-moments : goal.returns-in-Ok-TooLong-clause-moments
returns-in-Ok-TooLong-clause-moments g c = λ lines before.
    let host = c.args.engine.now.host in
    let old = c.args.engine.now.state in
    let reads : IsItemTurn lines TooLong c.next.new.self (g.I.Source.left c.next.new.source) = rw c.in-Ok-TooLong.field-0-is at (c.in-Ok-TooLong.ensures.reads lines before) in
    let script = long_is lines c.next.new.self (g.I.Source.left c.next.new.source) reads in
    since_weaker (TurnMoment host Nothing old) (LinesMoment host lines old) _ _
    (λ t m since turn. subst (λ (s : Script). LinesMoment host s old t m) (sym script.1) (long_moment host script.0 old t m since turn)) (c.refuse.ensures.moments.line Nothing).each

pub returns-in-Ok-TooLong-clause-end : goal.returns-in-Ok-TooLong-clause-end
returns-in-Ok-TooLong-clause-end g c = λ lines before t told.
    let host = c.args.engine.now.host in
    let old = c.args.engine.now.state in
    let now = point_at g.B.Shelf g.I.Source c.args.bench.now c.args.script.now in
    let last = point_at g.B.Shelf g.I.Source c.refuse.new.bench c.next.new.source in
    let rest = asked_before c.next.new.self.reader (g.I.Source.left c.next.new.source) in
    let reads : IsItemTurn lines TooLong c.next.new.self (g.I.Source.left c.next.new.source) = rw c.in-Ok-TooLong.field-0-is at (c.in-Ok-TooLong.ensures.reads lines before) in
    let script = long_is lines c.next.new.self (g.I.Source.left c.next.new.source) reads in
    let end = c.refuse.ensures.end t told in
    let since = end_since (TurnMoment host Nothing old) _ _ (c.refuse.ensures.moments.line Nothing).each t end.0 told end.1 in (
      end.0,
      end.1,
      subst (λ (e : Engine). TurnEnd host now last old e.state c.args.any_refused lines rest c.turn_of-in-Ok-TooLong.result t end.0) (sym c.refuse.ensures.answer.same)
          (subst (λ (turn : Turn). TurnEnd host now last old old c.args.any_refused lines rest turn t end.0) (sym c.turn_of-in-Ok-TooLong.ensures)
          (record {
            turns = λ knows. leads_long now last c.refuse.result (record { drives = λ drive. c.refuse.ensures.kept.keeps.no_fewer_faults (OnDrive drive); source = c.in-Ok-TooLong.ensures.cause.calm; replies = c.refuse.ensures.kept.keeps.no_fewer_faults OnReplies; given = λ uncut. c.refuse.ensures.counted.given (uncut_replied _ (outcome.Refused LineTooLong) c.refuse.result c.refuse.ensures.answer.cause uncut) }) c.refuse.ensures.answer.calm
                host old c.args.any_refused lines script.0 rest t end.0 (passes_in_time g.B.Shelf g.met.B.Shelf.telling _ _ _ _ t end.0 c.refuse.ensures.kept told end.1) script.1 script.2 (refused_down host old LineTooLong too_long_plain _ c.refuse.result t end.0 end.2) end.2.replied end.2.kept
                ((by_efforts g.B.Shelf c.args.bench.now c.refuse.new.bench).within 1 1 0 (between_of g.B.Shelf.calls g.B.Shelf.written _ _ 1 0 1 1 0 (omega arith) (omega arith) (omega arith) c.refuse.ensures.counted.once))
                (λ on. long_ran host script.0 old t end.0 since (refused_turned host old LineTooLong too_long_plain _ c.refuse.result t end.0 end.2 Nothing on) (stays_still host t end.0 end.2.kept));
            ran = λ on left is.
                let turned = refused_turned host old LineTooLong too_long_plain _ c.refuse.result t end.0 end.2 Nothing (on_replied c.refuse.result c.args.any_refused _ refl on) in
                subst (λ (s : Script). RanTo host s old old left t end.0) (sym script.1)
                (subst (λ (s : Script). RanTo host (too_long s) old old left t end.0) (sym (same_left left script.0 is script.2)) (long_ran host left old t end.0 since turned (stays_still host t end.0 end.2.kept)));
            knows = λ kept. refused_knows host old LineTooLong too_long_plain _ c.refuse.result t end.0 end.2;
          })),
    )

pub returns-in-Ok-TooLong-clause-answer : goal.returns-in-Ok-TooLong-clause-answer
returns-in-Ok-TooLong-clause-answer g c = record {
  cause = subst (HasTurnCause c.args.engine.now.host (counts (g.B.Shelf.faults c.args.bench.now) (g.I.Source.faults c.args.script.now)) (counts (g.B.Shelf.faults c.refuse.new.bench) (g.I.Source.faults c.next.new.source))) (sym c.turn_of-in-Ok-TooLong.ensures) (turn_cause c.args.engine.now.host (counts (g.B.Shelf.faults c.args.bench.now) (g.I.Source.faults c.args.script.now)) (counts (g.B.Shelf.faults c.refuse.new.bench) (g.I.Source.faults c.next.new.source)) c.refuse.result c.args.any_refused (told_reply _ _ (outcome.Refused LineTooLong) c.refuse.result c.refuse.ensures.answer.cause));
  source = c.next.ensures.cause.later;
  same = ap (λ (e : Engine). e.host) c.refuse.ensures.answer.same;
  well = λ on. subst (λ (e : Engine). IsWell c.args.engine.now.host e.state) (sym c.refuse.ensures.answer.same) c.requires.well;
  begun = subst (λ (e : Engine). e.state.begun ≤ c.next.new.self.reader.lines) (sym c.refuse.ensures.answer.same) (let up = (rw c.in-Ok-TooLong.field-0-is at c.in-Ok-TooLong.ensures.passed).lines in let before = c.requires.begun in omega arith);
  on = λ on. (let up = (rw c.in-Ok-TooLong.field-0-is at c.in-Ok-TooLong.ensures.passed).lines in omega arith, (rw c.in-Ok-TooLong.field-0-is at c.in-Ok-TooLong.ensures.passed).limit);
  counted = λ lines before n calls.
      let reads : IsItemTurn lines TooLong c.next.new.self (g.I.Source.left c.next.new.source) = rw c.in-Ok-TooLong.field-0-is at (c.in-Ok-TooLong.ensures.reads lines before) in
      let script = long_is lines c.next.new.self (g.I.Source.left c.next.new.source) reads in
      subst (λ (turn : Turn). TurnTook c.args.engine.now.host turn (asked_before c.next.new.self.reader (g.I.Source.left c.next.new.source)) (g.B.Shelf.calls c.args.bench.now) (g.B.Shelf.calls c.refuse.new.bench) n) (sym c.turn_of-in-Ok-TooLong.ensures)
      (long_took c.args.engine.now.host _ _ lines _ script.0 script.1 script.2 (rose_at_most 1 1 _ _ (omega arith) c.refuse.ensures.counted.once.in_calls) n calls c.refuse.result c.args.any_refused);
  goes_on = λ on lines before.
      let reads : IsItemTurn lines TooLong c.next.new.self (g.I.Source.left c.next.new.source) = rw c.in-Ok-TooLong.field-0-is at (c.in-Ok-TooLong.ensures.reads lines before) in
      let script = long_is lines c.next.new.self (g.I.Source.left c.next.new.source) reads in
      (script.0, script.2);
}

pub returns-in-Ok-TooLong-clause-stays : goal.returns-in-Ok-TooLong-clause-stays
returns-in-Ok-TooLong-clause-stays g c = record {
  home = turn_stays c.args.engine.now.host Nothing c.args.engine.now.state _ _ (c.refuse.ensures.moments.line Nothing).each;
  told = λ on. c.refuse.ensures.counted.told (on_replied c.refuse.result c.args.any_refused _ c.turn_of-in-Ok-TooLong.ensures on);
  given = λ on. c.refuse.ensures.counted.given (on_replied c.refuse.result c.args.any_refused _ c.turn_of-in-Ok-TooLong.ensures on);
  rests = (c.refuse.ensures.moments.line Nothing).rests;
  writes = asks_none c.args.engine.now.host c.args.engine.now.state (TurnWrites g.I.Source c.args.engine.now c.args.script.now c.args.reader.now.reader) (λ s m within lines before. inl within) _ _ (c.refuse.ensures.moments.line Nothing).each;
  tells = λ lines before.
      let reads : IsItemTurn lines TooLong c.next.new.self (g.I.Source.left c.next.new.source) = rw c.in-Ok-TooLong.field-0-is at (c.in-Ok-TooLong.ensures.reads lines before) in
      let script = long_is lines c.next.new.self (g.I.Source.left c.next.new.source) reads in
      each_within (λ t m. AnswerFront c.args.engine.now.host (refusing LineTooLong) c.args.engine.now.state t m × OfTales (λ x y. IsSince x y × TurnMoment c.args.engine.now.host Nothing c.args.engine.now.state x y) t m) (ScriptFront c.args.engine.now.host (point_at g.B.Shelf g.I.Source c.args.bench.now c.args.script.now) c.args.engine.now.state c.args.any_refused lines) _ _ _ _
      (λ s u first last m there here within known. long_front c.args.engine.now.host c.args.engine.now.state (point_at g.B.Shelf g.I.Source c.args.bench.now c.args.script.now) c.args.any_refused (moment s _) m refl within.counts.0 (λ x at. ap tale_of (some_is _ x s at first)) lines script.0 script.1 here.1.0 here.1.1.home (here.0 known))
      (moment_with_tales g.B.Shelf g.met.B.Shelf.telling _ _ (AnswerFront c.args.engine.now.host (refusing LineTooLong) c.args.engine.now.state) (λ x y. IsSince x y × TurnMoment c.args.engine.now.host Nothing c.args.engine.now.state x y) (c.refuse.ensures.moments.line Nothing).fronts
      (moments_since (TurnMoment c.args.engine.now.host Nothing c.args.engine.now.state) _ _ (c.refuse.ensures.moments.line Nothing).each));
}

-- the end of the script, a limit, and a source that failed
pub returns-in-Ok-End-clause-moments : goal.returns-in-Ok-End-clause-moments
returns-in-Ok-End-clause-moments g c = λ lines before. moments_none (LinesMoment c.args.engine.now.host lines c.args.engine.now.state) _ _ refl (λ t. lines_start c.args.engine.now.host lines c.args.engine.now.state t)

pub returns-in-Ok-Spent-clause-moments : goal.returns-in-Ok-Spent-clause-moments
returns-in-Ok-Spent-clause-moments g c = λ lines before. moments_none (LinesMoment c.args.engine.now.host lines c.args.engine.now.state) _ _ refl (λ t. lines_start c.args.engine.now.host lines c.args.engine.now.state t)

pub returns-in-Err-clause-moments : goal.returns-in-Err-clause-moments
returns-in-Err-clause-moments g c = λ lines before. moments_none (LinesMoment c.args.engine.now.host lines c.args.engine.now.state) _ _ refl (λ t. lines_start c.args.engine.now.host lines c.args.engine.now.state t)

pub returns-in-Ok-End-clause-end : goal.returns-in-Ok-End-clause-end
returns-in-Ok-End-clause-end g c = λ lines before t told.
    let host = c.args.engine.now.host in
    let state = c.args.engine.now.state in
    let reads : IsItemTurn lines End c.next.new.self (g.I.Source.left c.next.new.source) = rw c.in-Ok-End.field-0-is at (c.in-Ok-End.ensures.reads lines before) in
    let script = end_is lines c.next.new.self (g.I.Source.left c.next.new.source) reads in (
      t,
      told,
      record {
        turns = λ knows. ended_turn host _ _ (ap (λ (n : ℕ). counts (g.B.Shelf.faults c.args.bench.now) n) c.in-Ok-End.ensures.cause.calm) refl refl state c.args.any_refused lines _ c.ended.result t
            (subst (λ (x : Script). EndsAs c.args.any_refused x c.ended.result) (sym script) c.ended.ensures);
        ran = λ on. absurd on;
        knows = λ kept known. known;
      },
    )

pub returns-in-Ok-Spent-clause-end : goal.returns-in-Ok-Spent-clause-end
returns-in-Ok-Spent-clause-end g c = λ lines before t told.
    let host = c.args.engine.now.host in
    let state = c.args.engine.now.state in
    let status = ScriptTooLong c.in-Ok-Spent.lines c.in-Ok-Spent.bytes in
    let reads : IsItemTurn lines (Spent c.in-Ok-Spent.lines c.in-Ok-Spent.bytes) c.next.new.self (g.I.Source.left c.next.new.source) = rw c.in-Ok-Spent.field-0-is at (c.in-Ok-Spent.ensures.reads lines before) in
    let script = spent_is lines c.in-Ok-Spent.lines c.in-Ok-Spent.bytes c.next.new.self (g.I.Source.left c.next.new.source) reads in (
      t,
      told,
      record {
        turns = λ knows. ended_turn host _ _ (ap (λ (n : ℕ). counts (g.B.Shelf.faults c.args.bench.now) n) c.in-Ok-Spent.ensures.cause.calm) refl refl state c.args.any_refused lines _ status t (subst (λ (x : Script). EndsAs c.args.any_refused x status) (sym script) refl);
        ran = λ on. absurd on;
        knows = λ kept known. known;
      },
    )

pub returns-in-Err-clause-end : goal.returns-in-Err-clause-end
returns-in-Err-clause-end g c = λ lines before t told. (
  t,
  told,
  record {
    turns = λ knows. unread_turn c.args.engine.now.host _ _ (record { drives = λ drive. refl; source = c.in-Err.ensures.cause.failed; no_fewer = c.next.ensures.cause.later; replies = refl }) refl refl c.args.engine.now.state c.args.any_refused lines _ t;
    ran = λ on. absurd on;
    knows = λ kept known. known;
  },
)

pub returns-in-Ok-End-clause-stays : goal.returns-in-Ok-End-clause-stays
returns-in-Ok-End-clause-stays g c = record {
  home = nothing_stays c.args.engine.now.host _ _ refl;
  told = λ on. absurd on;
  given = λ on. absurd on;
  rests = rests_quiet g.B.Shelf g.met.B.Shelf.telling _ _ (kept_itself g.B.Shelf c.args.bench.now).goes (moments_none (λ t m. told m ≡ told t) _ _ refl (λ t. refl));
  writes = moments_none (TurnWrites g.I.Source c.args.engine.now c.args.script.now c.args.reader.now.reader) _ _ refl (λ t lines before. inl (kept_outside_same nowhere t));
  tells = λ lines before. still_front g.B.Shelf c.args.engine.now.host c.args.engine.now.state _ c.args.any_refused lines c.args.bench.now;
}

pub returns-in-Ok-Spent-clause-stays : goal.returns-in-Ok-Spent-clause-stays
returns-in-Ok-Spent-clause-stays g c = record {
  home = nothing_stays c.args.engine.now.host _ _ refl;
  told = λ on. absurd on;
  given = λ on. absurd on;
  rests = rests_quiet g.B.Shelf g.met.B.Shelf.telling _ _ (kept_itself g.B.Shelf c.args.bench.now).goes (moments_none (λ t m. told m ≡ told t) _ _ refl (λ t. refl));
  writes = moments_none (TurnWrites g.I.Source c.args.engine.now c.args.script.now c.args.reader.now.reader) _ _ refl (λ t lines before. inl (kept_outside_same nowhere t));
  tells = λ lines before. still_front g.B.Shelf c.args.engine.now.host c.args.engine.now.state _ c.args.any_refused lines c.args.bench.now;
}

pub returns-in-Err-clause-stays : goal.returns-in-Err-clause-stays
returns-in-Err-clause-stays g c = record {
  home = nothing_stays c.args.engine.now.host _ _ refl;
  told = λ on. absurd on;
  given = λ on. absurd on;
  rests = rests_quiet g.B.Shelf g.met.B.Shelf.telling _ _ (kept_itself g.B.Shelf c.args.bench.now).goes (moments_none (λ t m. told m ≡ told t) _ _ refl (λ t. refl));
  writes = moments_none (TurnWrites g.I.Source c.args.engine.now c.args.script.now c.args.reader.now.reader) _ _ refl (λ t lines before. inl (kept_outside_same nowhere t));
  tells = λ lines before. still_front g.B.Shelf c.args.engine.now.host c.args.engine.now.state _ c.args.any_refused lines c.args.bench.now;
}

pub returns-in-Ok-End-clause-kept : goal.returns-in-Ok-End-clause-kept
returns-in-Ok-End-clause-kept g c = in_time_itself g.B.Shelf c.args.bench.now

pub returns-in-Ok-Spent-clause-kept : goal.returns-in-Ok-Spent-clause-kept
returns-in-Ok-Spent-clause-kept g c = in_time_itself g.B.Shelf c.args.bench.now

pub returns-in-Err-clause-kept : goal.returns-in-Err-clause-kept
returns-in-Err-clause-kept g c = in_time_itself g.B.Shelf c.args.bench.now
