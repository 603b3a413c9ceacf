use Rattle.mdv_run_law.proofs.Since.{end_since, since_weaker}
use Rattle.mdv_run.proofs.Counting.{exec_calls, refused_calls, spelled_calls, text_some}
use Rattle.mdv_shelf.specs.Calls.{RoseByAtMost}
use Rattle.mdv_shelf.proofs.Counts.{rose_at_most}
use Rattle.mdv_shelf.specs.Made.{made_of}
use Rattle.mdv_shelf.proofs.Between.{between_of}
use Rattle.mdv_engine_law.specs.declared.answer.Outcome.TheVariants as outcome
use Rattle.std.proofs.Common.{ℕ, ◌≤◌, ◌+◌, refl, inl, inr, ap, subst, sym, arith}
use Rattle.mdv_engine_law.specs.Line.{Nothing}
use Rattle.mdv_run.specs.Below.{line, Ends, IsWell, OnReplies, Boot, IsLine, IsLostOnSite, asked_by, meant, TurnMoment, Engine, LinesMoment}
use Rattle.mdv_words.specs.Line as words
use Rattle.mdv_run_law.specs.Run.{IsNoCommand}
use Rattle.mdv_words.proofs.Form.{commands_are_in_form}
use Rattle.mdv_engine_law.specs.Answers.{refusing}
use Rattle.mdv_base.specs.declared.refusal.Refusal.TheVariants.{BadLine}
use Rattle.mdv_shelf.specs.Shelves.{DriveFailures, GivingFailed}
use Rattle.mdv_engine_law.proofs.Plain.{bad_line_plain}
use Rattle.mdv_engine_law.proofs.Staying.{stays_still, turn_stays}
use Rattle.mdv_run_law.proofs.Turning.{command_met, line_moment, line_ran, nothing_met}
use Rattle.mdv_run_law.proofs.Entries.{command_entries, tab_entries}
use Rattle.mdv_run.specs.Promise.{IsWorkOf, LineEnd}
use Rattle.mdv_engine_law.specs.Standing.{LeavesDone, LeavesTorn}
use Rattle.mdv_words.specs.declared.command.Command.{Command}
use Rattle.mdv_shelf.proofs.InTime.{in_time_of_on}
use Rattle.mdv_run.proofs.Fronts.{fronts_led, only_refused}
use Rattle.mdv_run.proofs.Led.{command_led, refused_led, tab_led}
use Rattle.mdv_engine.specs.Ends.{CarriesOut, OnlyAnswers}
use Rattle.mdv_engine.specs.Tab.{KeepsLines}
use Rattle.mdv_engine.proofs.Entering.{kept_begun, kept_host, kept_well}
use Rattle.mdv_engine.proofs.Counting.{not_lost}
use Rattle.mdv_engine_law.specs.Commands.{MaySpend, blame_of}
use Rattle.mdv_run.proofs.Answering.{command_still, said_still, asks_none, command_works, stays_as, uncut_replied, command_reply, told_reply, no_boot, line_executed, refused_turned, refused_down, refused_keeps, refused_knows, turn_home, turn_writes}
use Rattle.mdv_run.proofs.session.answer.Goals as goal

pub exec-requires-clause-form : goal.exec-requires-clause-form
exec-requires-clause-form g c =
    let is : IsLine c.args.line.now (words.Exec c.in-Ok-Command.command) = rw c.in-Ok-Command.field-0-is at c.in-Ok-Command.ensures.value in
    commands_are_in_form c.args.line.now c.in-Ok-Command.command is.1

pub refuse-requires : goal.refuse-requires
refuse-requires g c = bad_line_plain

-- a command
pub returns-in-Ok-Command-clause-moments : goal.returns-in-Ok-Command-clause-moments
returns-in-Ok-Command-clause-moments g c = λ more.
    let host = c.args.engine.now.host in
    let old = c.args.engine.now.state in
    let command = c.in-Ok-Command.command in
    let is : IsLine c.args.line.now (words.Exec c.in-Ok-Command.command) = rw c.in-Ok-Command.field-0-is at c.in-Ok-Command.ensures.value in
    since_weaker (TurnMoment host (asked_by host command) old) (LinesMoment host (line c.args.line.now more) old) _ _
    (λ t m since turn. line_moment host c.args.line.now (asked_by host command) more old t m (command_met host command t) since turn (inl (inr (words.Exec command, is, refl))) (inl (no_boot c.args.line.now (words.Exec command) is (λ same. cc (same))))) c.exec.ensures.moments.each

pub returns-in-Ok-Command-clause-end : goal.returns-in-Ok-Command-clause-end
returns-in-Ok-Command-clause-end g c = λ t told.
    let host = c.args.engine.now.host in
    let old = c.args.engine.now.state in
    let new = c.exec.new.self.state in
    let command = c.in-Ok-Command.command in
    let is : IsLine c.args.line.now (words.Exec c.in-Ok-Command.command) = rw c.in-Ok-Command.field-0-is at c.in-Ok-Command.ensures.value in
    let outcomes = DriveFailures g.B.Shelf c.args.bench.now c.exec.new.bench in
    let replies = GivingFailed g.B.Shelf c.args.bench.now c.exec.new.bench in
    let made = made_of g.B.Shelf c.args.bench.now c.exec.new.bench in
    let end = c.exec.ensures.end t told in (
      end.0,
      end.1,
      record {
        answered = λ knows. line_executed c.args.line.now (words.Exec command) is outcomes replies made host old new c.exec.result t end.0 (end.2.answered knows) (turn_writes host (asked_by host command) old _ _ c.exec.ensures.moments.each t end.0 told end.1)
            end.2.quiet (λ still. end.2.spent (command_still _ _ _ c.exec.result c.exec.ensures.answer.cause still)) (λ same none. absurd (cc (same))) (λ ok other same. subst (λ (x : Command). LeavesDone outcomes host old (meant old.entries x) end.0) (cc (same)) (end.2.done knows ok)) (λ ok same. absurd (cc (same)))
            (λ ended other same. subst (λ (x : Command). LeavesTorn outcomes host old (meant old.entries x) end.0) (cc (same)) (end.2.torn knows ended));
        ran = λ on more. line_ran host c.args.line.now (asked_by host command) more old new t end.0 (command_met host command t) (end_since (TurnMoment host (asked_by host command) old) _ _ c.exec.ensures.moments.each t end.0 told end.1) (end.2.turned on) (turn_home host (asked_by host command) old _ _ c.exec.ensures.moments.each t end.0 told end.1) (inl (inr (words.Exec command, is, refl))) (inl (no_boot c.args.line.now (words.Exec command) is (λ same. cc (same))))
            (λ knows. command_entries outcomes replies made host old new c.exec.result t end.0 c.args.line.now (end.2.turned on).bytes (end.2.turned on).is_told command is (end.2.answered knows) on);
        knows = end.2.knows;
      },
    )

pub returns-in-Ok-Command-clause-stays : goal.returns-in-Ok-Command-clause-stays
returns-in-Ok-Command-clause-stays g c = record {
  home = turn_stays c.args.engine.now.host (asked_by c.args.engine.now.host c.in-Ok-Command.command) c.args.engine.now.state _ _ c.exec.ensures.moments.each;
  told = c.exec.ensures.counted.told;
  given = c.exec.ensures.counted.given;
  rests = c.exec.ensures.moments.rests;
  writes = command_works c.args.engine.now c.args.line.now c.in-Ok-Command.command (rw c.in-Ok-Command.field-0-is at c.in-Ok-Command.ensures.value) _ _ c.exec.ensures.moments.each;
  tells =
      let is : IsLine c.args.line.now (words.Exec c.in-Ok-Command.command) = rw c.in-Ok-Command.field-0-is at c.in-Ok-Command.ensures.value in
      fronts_led g.B.Shelf g.met.B.Shelf.telling _ _ (CarriesOut c.args.engine.now.host c.in-Ok-Command.command) c.args.engine.now.host (asked_by c.args.engine.now.host c.in-Ok-Command.command) c.args.engine.now.state c.args.line.now
      (λ outcomes kept answer next came. inr (inl (words.Exec c.in-Ok-Command.command, is, came))) (λ t m since home. command_led c.args.engine.now.host c.args.line.now c.args.engine.now.state t m since home c.in-Ok-Command.command is) c.exec.ensures.moments.fronts c.exec.ensures.moments.each;
}

pub returns-in-Ok-Command-clause-answer : goal.returns-in-Ok-Command-clause-answer
returns-in-Ok-Command-clause-answer g c = record {
  cause =
      let calls = DriveFailures g.B.Shelf c.args.bench.now c.exec.new.bench in
      let host = c.args.engine.now.host in
      let command = meant c.args.engine.now.state.entries c.in-Ok-Command.command in
      command_reply (blame_of calls host c.args.engine.now.state command) (IsLostOnSite calls host) (MaySpend c.args.engine.now.state command) _ c.exec.result c.exec.ensures.answer.lost c.exec.ensures.answer.cause;
  same = c.exec.ensures.answer.host;
  well = λ on. c.exec.ensures.answer.well (not_lost c.exec.result on);
  begun = c.exec.ensures.answer.begun;
  counted = λ n calls.
      let is : IsLine c.args.line.now (words.Exec c.in-Ok-Command.command) = rw c.in-Ok-Command.field-0-is at c.in-Ok-Command.ensures.value in
      subst (λ (k : ℕ). RoseByAtMost k (g.B.Shelf.calls c.args.bench.now) (g.B.Shelf.calls c.exec.new.bench)) (sym (spelled_calls c.args.engine.now.host c.args.line.now (words.Exec c.in-Ok-Command.command) is n calls))
      (exec_calls c.args.engine.now.host c.args.engine.now.state c.requires.well c.in-Ok-Command.command _ _ c.exec.ensures.counted.most.at_most.in_calls
      (elim c.exec.ensures.counted.few [
        | inl two ↦ inl two.at_most.in_calls
        | inr few ↦ inr few
      ]));
}

-- a block of entries
pub returns-in-Ok-Tab-clause-moments : goal.returns-in-Ok-Tab-clause-moments
returns-in-Ok-Tab-clause-moments g c = λ more.
    let host = c.args.engine.now.host in
    let old = c.args.engine.now.state in
    let is : IsLine c.args.line.now (words.Tab c.in-Ok-Tab.lines.now) = rw c.in-Ok-Tab.field-0-is at c.in-Ok-Tab.ensures.value in
    since_weaker (TurnMoment host Nothing old) (LinesMoment host (line c.args.line.now more) old) _ _
    (λ t m since turn. line_moment host c.args.line.now Nothing more old t m (nothing_met host t) since turn (inl (inr (words.Tab c.in-Ok-Tab.lines.now, is, refl))) (inl (no_boot c.args.line.now (words.Tab c.in-Ok-Tab.lines.now) is (λ same. cc (same))))) c.keep_tab.ensures.moments.each

pub returns-in-Ok-Tab-clause-end : goal.returns-in-Ok-Tab-clause-end
returns-in-Ok-Tab-clause-end g c = λ t told.
    let host = c.args.engine.now.host in
    let old = c.args.engine.now.state in
    let new = c.keep_tab.new.self.state in
    let lines = c.in-Ok-Tab.lines.now in
    let is : IsLine c.args.line.now (words.Tab c.in-Ok-Tab.lines.now) = rw c.in-Ok-Tab.field-0-is at c.in-Ok-Tab.ensures.value in
    let outcomes = DriveFailures g.B.Shelf c.args.bench.now c.keep_tab.new.bench in
    let replies = GivingFailed g.B.Shelf c.args.bench.now c.keep_tab.new.bench in
    let made = made_of g.B.Shelf c.args.bench.now c.keep_tab.new.bench in
    let end = c.keep_tab.ensures.end t told in (
      end.0,
      end.1,
      record {
        answered = λ knows. line_executed c.args.line.now (words.Tab lines) is outcomes replies made host old new c.keep_tab.result t end.0 end.2.answered end.2.kept (λ quiet. end.2.kept) (λ still. absurd (said_still _ c.keep_tab.ensures.answer.said c.keep_tab.result c.keep_tab.ensures.answer.cause still)) (λ same none. absurd (cc (same))) (λ ok command same. absurd (cc (same))) (λ ok same. absurd (cc (same))) (λ ended command same. absurd (cc (same)));
        ran = λ on more. line_ran host c.args.line.now Nothing more old new t end.0 (nothing_met host t) (end_since (TurnMoment host Nothing old) _ _ c.keep_tab.ensures.moments.each t end.0 told end.1) (end.2.turned on) (stays_still host t end.0 end.2.kept) (inl (inr (words.Tab lines, is, refl))) (inl (no_boot c.args.line.now (words.Tab lines) is (λ same. cc (same))))
            (λ knows. tab_entries outcomes replies made host old new c.keep_tab.result t end.0 c.args.line.now (end.2.turned on).bytes (end.2.turned on).is_told lines is end.2.answered on);
        knows = λ kept. end.2.knows;
      },
    )

pub returns-in-Ok-Tab-clause-stays : goal.returns-in-Ok-Tab-clause-stays
returns-in-Ok-Tab-clause-stays g c = record {
  home = turn_stays c.args.engine.now.host Nothing c.args.engine.now.state _ _ c.keep_tab.ensures.moments.each;
  told = c.keep_tab.ensures.counted.told;
  given = λ uncut. c.keep_tab.ensures.counted.given (uncut_replied _ c.keep_tab.ensures.answer.said c.keep_tab.result c.keep_tab.ensures.answer.cause uncut);
  rests = c.keep_tab.ensures.moments.rests;
  writes = asks_none c.args.engine.now.host c.args.engine.now.state (IsWorkOf c.args.engine.now c.args.line.now) (λ s m within more. inl within) _ _ c.keep_tab.ensures.moments.each;
  tells =
      let is : IsLine c.args.line.now (words.Tab c.in-Ok-Tab.lines.now) = rw c.in-Ok-Tab.field-0-is at c.in-Ok-Tab.ensures.value in
      fronts_led g.B.Shelf g.met.B.Shelf.telling _ _ (KeepsLines c.in-Ok-Tab.lines.now) c.args.engine.now.host Nothing c.args.engine.now.state c.args.line.now
      (λ outcomes kept answer next came. inr (inl (words.Tab c.in-Ok-Tab.lines.now, is, came))) (λ t m since home. tab_led c.args.engine.now.host c.args.line.now c.args.engine.now.state t m since home c.in-Ok-Tab.lines.now is) c.keep_tab.ensures.moments.fronts c.keep_tab.ensures.moments.each;
}

pub returns-in-Ok-Tab-clause-answer : goal.returns-in-Ok-Tab-clause-answer
returns-in-Ok-Tab-clause-answer g c = record {
  cause = told_reply _ _ c.keep_tab.ensures.answer.said c.keep_tab.result c.keep_tab.ensures.answer.cause;
  same = kept_host c.in-Ok-Tab.lines.now c.args.engine.now c.keep_tab.new.self c.keep_tab.ensures.answer.said c.keep_tab.ensures.answer.kept;
  well = λ on. kept_well c.in-Ok-Tab.lines.now c.args.engine.now c.keep_tab.new.self c.keep_tab.ensures.answer.said c.keep_tab.ensures.answer.kept c.requires.well;
  begun = kept_begun c.in-Ok-Tab.lines.now c.args.engine.now c.keep_tab.new.self c.keep_tab.ensures.answer.said c.keep_tab.ensures.answer.kept;
  counted = λ n calls.
      let is : IsLine c.args.line.now (words.Tab c.in-Ok-Tab.lines.now) = rw c.in-Ok-Tab.field-0-is at c.in-Ok-Tab.ensures.value in
      subst (λ (k : ℕ). RoseByAtMost k (g.B.Shelf.calls c.args.bench.now) (g.B.Shelf.calls c.keep_tab.new.bench)) (sym (spelled_calls c.args.engine.now.host c.args.line.now (words.Tab c.in-Ok-Tab.lines.now) is n calls)) (rose_at_most 1 1 _ _ (omega arith) c.keep_tab.ensures.counted.once.in_calls);
}

-- a line that isn't in the grammar
pub returns-in-Err-BadLine-clause-moments : goal.returns-in-Err-BadLine-clause-moments
returns-in-Err-BadLine-clause-moments g c = λ more.
    let host = c.args.engine.now.host in
    let old = c.args.engine.now.state in
    let never : IsNoCommand c.args.line.now = rw c.in-Err-BadLine.field-0-is at c.in-Err-BadLine.ensures.fault in
    since_weaker (TurnMoment host Nothing old) (LinesMoment host (line c.args.line.now more) old) _ _
    (λ t m since turn. line_moment host c.args.line.now Nothing more old t m (nothing_met host t) since turn (inl (inl (never, refl))) (inl (never Boot))) (c.refuse.ensures.moments.line Nothing).each

pub returns-in-Err-BadLine-clause-end : goal.returns-in-Err-BadLine-clause-end
returns-in-Err-BadLine-clause-end g c =
    let host = c.args.engine.now.host in
    let old = c.args.engine.now.state in
    let outcomes = DriveFailures g.B.Shelf c.args.bench.now c.refuse.new.bench in
    let replies = GivingFailed g.B.Shelf c.args.bench.now c.refuse.new.bench in
    let made = made_of g.B.Shelf c.args.bench.now c.refuse.new.bench in
    let never : IsNoCommand c.args.line.now = rw c.in-Err-BadLine.field-0-is at c.in-Err-BadLine.ensures.fault in
    subst (λ (e : Engine). Ends (LineEnd outcomes replies made host c.args.line.now old e.state c.refuse.result) (g.B.Shelf.tale c.args.bench.now) (g.B.Shelf.tale c.refuse.new.bench)) (sym c.refuse.ensures.answer.same)
    (λ t told. (
    let end = c.refuse.ensures.end t told in (
      end.0,
      end.1,
      record {
        answered = λ knows. record { answer = refusing BadLine; done = inl (never, c.refuse.ensures.answer.calm, refused_down host old BadLine bad_line_plain replies c.refuse.result t end.0 end.2); calls = inl (never, between_of g.B.Shelf.calls g.B.Shelf.written _ _ 1 0 1 1 0 (omega arith) (omega arith) (omega arith) c.refuse.ensures.counted.once); writes = inl end.2.kept; unwritten = λ on quiet. end.2.kept; still = λ ends. absurd ends; leaves = λ on ok. absurd (cc (ok)); torn = λ on ended. absurd (cc (ended)); replied = end.2.replied };
        ran = λ on more. line_ran host c.args.line.now Nothing more old old t end.0 (nothing_met host t) (end_since (TurnMoment host Nothing old) _ _ (c.refuse.ensures.moments.line Nothing).each t end.0 told end.1) (refused_turned host old BadLine bad_line_plain replies c.refuse.result t end.0 end.2 Nothing on) (stays_still host t end.0 end.2.kept) (inl (inl (never, refl))) (inl (never Boot)) (λ knows. refused_keeps host old BadLine bad_line_plain replies c.refuse.result t end.0 end.2 c.args.line.now Nothing on);
        knows = λ kept. refused_knows host old BadLine bad_line_plain replies c.refuse.result t end.0 end.2;
      },
    )))

pub returns-in-Err-BadLine-clause-stays : goal.returns-in-Err-BadLine-clause-stays
returns-in-Err-BadLine-clause-stays g c = record {
  home = turn_stays c.args.engine.now.host Nothing c.args.engine.now.state _ _ (c.refuse.ensures.moments.line Nothing).each;
  told = c.refuse.ensures.counted.told;
  given = λ uncut. c.refuse.ensures.counted.given (uncut_replied _ (outcome.Refused BadLine) c.refuse.result c.refuse.ensures.answer.cause uncut);
  rests = (c.refuse.ensures.moments.line Nothing).rests;
  writes = asks_none c.args.engine.now.host c.args.engine.now.state (IsWorkOf c.args.engine.now c.args.line.now) (λ s m within more. inl within) _ _ (c.refuse.ensures.moments.line Nothing).each;
  tells =
      let never : IsNoCommand c.args.line.now = rw c.in-Err-BadLine.field-0-is at c.in-Err-BadLine.ensures.fault in
      fronts_led g.B.Shelf g.met.B.Shelf.telling _ _ (OnlyAnswers (refusing BadLine)) c.args.engine.now.host Nothing c.args.engine.now.state c.args.line.now
      (λ outcomes kept answer next is. inl (never, is.0, only_refused BadLine outcomes kept answer next is)) (λ t m since home. refused_led c.args.engine.now.host c.args.line.now c.args.engine.now.state t m since home BadLine (λ bytes is. inl (inl (never, refl))) (λ bytes is. inl (never Boot)))
      (c.refuse.ensures.moments.line Nothing).fronts (c.refuse.ensures.moments.line Nothing).each;
}

pub returns-in-Err-BadLine-clause-answer : goal.returns-in-Err-BadLine-clause-answer
returns-in-Err-BadLine-clause-answer g c = record {
  cause = told_reply _ _ (outcome.Refused BadLine) c.refuse.result c.refuse.ensures.answer.cause;
  same = ap (λ (e : Engine). e.host) c.refuse.ensures.answer.same;
  well = λ on. subst (λ (e : Engine). IsWell c.args.engine.now.host e.state) (sym c.refuse.ensures.answer.same) c.requires.well;
  begun = subst (λ (e : Engine). e.state.begun ≤ c.args.engine.now.state.begun + 1) (sym c.refuse.ensures.answer.same) (omega arith);
  counted = λ n calls.
      subst (λ (k : ℕ). RoseByAtMost k (g.B.Shelf.calls c.args.bench.now) (g.B.Shelf.calls c.refuse.new.bench)) (sym (refused_calls c.args.engine.now.host c.args.line.now (rw c.in-Err-BadLine.field-0-is at c.in-Err-BadLine.ensures.fault) n calls))
      (rose_at_most 1 1 (g.B.Shelf.calls c.args.bench.now) (g.B.Shelf.calls c.refuse.new.bench) (omega arith) c.refuse.ensures.counted.once.in_calls);
}

-- a boot
pub returns-in-Ok-Boot-clause-moments : goal.returns-in-Ok-Boot-clause-moments
returns-in-Ok-Boot-clause-moments g c = λ more. c.boot_anew.ensures.moments c.args.line.now more (rw c.in-Ok-Boot.field-0-is at c.in-Ok-Boot.ensures.value)

pub returns-in-Ok-Boot-clause-end : goal.returns-in-Ok-Boot-clause-end
returns-in-Ok-Boot-clause-end g c = c.boot_anew.ensures.end c.args.line.now (rw c.in-Ok-Boot.field-0-is at c.in-Ok-Boot.ensures.value)

pub returns-in-Ok-Boot-clause-stays : goal.returns-in-Ok-Boot-clause-stays
returns-in-Ok-Boot-clause-stays g c = stays_as g.B.Shelf c.args.engine.now (λ x. IsLine x Boot) _ _ _ c.args.line.now (rw c.in-Ok-Boot.field-0-is at c.in-Ok-Boot.ensures.value) c.boot_anew.ensures.stays

pub returns-in-Ok-Boot-clause-answer : goal.returns-in-Ok-Boot-clause-answer
returns-in-Ok-Boot-clause-answer g c =
    let up = c.boot_anew.ensures.answer.line in record {
      cause = up.cause;
      same = up.same;
      well = up.well;
      begun = up.begun;
      counted = λ n calls. up.counted n (spelled_calls c.args.engine.now.host c.args.line.now Boot (rw c.in-Ok-Boot.field-0-is at c.in-Ok-Boot.ensures.value) n calls);
    }

pub returns-in-Ok-Boot-clause-kept : goal.returns-in-Ok-Boot-clause-kept
returns-in-Ok-Boot-clause-kept g c = c.boot_anew.ensures.answer.kept

-- one that memory was wanting to read
pub returns-in-Err-Memory-clause-moments : goal.returns-in-Err-Memory-clause-moments
returns-in-Err-Memory-clause-moments g c = c.refuse_unread.ensures.moments c.args.line.now

pub returns-in-Err-Memory-clause-end : goal.returns-in-Err-Memory-clause-end
returns-in-Err-Memory-clause-end g c = c.refuse_unread.ensures.end c.args.line.now

pub returns-in-Err-Memory-clause-stays : goal.returns-in-Err-Memory-clause-stays
returns-in-Err-Memory-clause-stays g c = stays_as g.B.Shelf c.args.engine.now (λ x. Unit {0}) _ _ _ c.args.line.now tt c.refuse_unread.ensures.stays

pub returns-in-Err-Memory-clause-answer : goal.returns-in-Err-Memory-clause-answer
returns-in-Err-Memory-clause-answer g c =
    let up = c.refuse_unread.ensures.answer in
    record { cause = up.cause; same = up.same; well = up.well; begun = up.begun; counted = λ n calls. up.counted n (text_some c.args.engine.now.host c.args.line.now n calls) }

pub returns-in-Ok-Tab-clause-kept : goal.returns-in-Ok-Tab-clause-kept
returns-in-Ok-Tab-clause-kept g c = in_time_of_on g.B.Shelf _ _ OnReplies c.keep_tab.ensures.kept
