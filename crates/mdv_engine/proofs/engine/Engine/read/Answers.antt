use Rattle.std.proofs.Common.{inl, ◌∙◌, ap, refl, arith, inr}
use Rattle.mdv_engine_law.specs.Commands as came
use Rattle.mdv_engine_law.specs.Line.{ToSee}
use Rattle.mdv_words.specs.declared.command.Command.TheVariants as command
use Rattle.mdv_shelf.specs.Shelves.{DriveFailures}
use Rattle.mdv_engine.specs.Below.{key_of}
use Rattle.mdv_engine_law.specs.Answers.{telling}
use Rattle.mdv_engine_law.specs.declared.answer.Outcome.TheVariants as outcome
use Rattle.mdv_engine_law.proofs.Transfer.{saw}
use Rattle.mdv_engine.proofs.Blocks.{moments_still, refused_carried, unread_line, unread_cause, unread_plain}
use Rattle.mdv_engine.proofs.Counting.{exactly_most, in_most}
use Rattle.mdv_engine.proofs.Ending.{command_ends, refused_answer}
use Rattle.mdv_engine.proofs.engine.Engine.read.Goals as goal

pub returns-in-Ok-clause-moments : goal.returns-in-Ok-clause-moments
returns-in-Ok-clause-moments g c = moments_still c.args.self.now.host (ToSee (key_of c.args.self.now.host) c.args.volume c.args.at c.args.count) c.args.self.now.state _ _ c.values.ensures.same

pub returns-in-Ok-clause-end : goal.returns-in-Ok-clause-end
returns-in-Ok-clause-end g c =
    let read = c.in-Ok.ensures.ok in
    command_ends _ c.args.self.now _ (command.Read c.args.volume c.args.at c.args.count) (outcome.Values c.in-Ok.text) c.args.self.now _ _
    (λ t start. (t, c.values.ensures.same ∙ start, λ known. came.done read.allowed (read.calm, read.map, read.there, read.blocks, (read.as_there t start).0, (read.as_there t start).1, ap telling read.as_told, record { memory = refl; content = λ drive block. refl })))
    (λ t start. (t, c.values.ensures.same ∙ start, saw c.args.self.now.host (g.S.Shelf.sizes c.args.shelf.now) c.requires.ready c.args.self.now.state c.args.volume c.args.at c.args.count read.map (omega arith) read.there t c.in-Ok.text read.blocks (read.as_there t start).0 (read.as_there t start).1 read.as_told))
    (λ on u. tt) (λ is u. tt)

pub returns-in-Ok-clause-answer : goal.returns-in-Ok-clause-answer
returns-in-Ok-clause-answer g c = record {
  plain = inl (record { at = c.args.at; blocks = c.in-Ok.ensures.ok.blocks; is = c.in-Ok.ensures.ok.as_told });
  cause = c.in-Ok.ensures.ok.calm;
  lost = λ active listed is. absurd (cc (is));
  free = λ on has closed. absurd (omega (arith, has.1));
  few = inr tt;
  host = refl;
  well = λ on. c.requires.well;
  begun = omega arith;
}

pub returns-in-Err-clause-moments : goal.returns-in-Err-clause-moments
returns-in-Err-clause-moments g c = moments_still c.args.self.now.host (ToSee (key_of c.args.self.now.host) c.args.volume c.args.at c.args.count) c.args.self.now.state _ _ c.values.ensures.same

pub returns-in-Err-clause-answer : goal.returns-in-Err-clause-answer
returns-in-Err-clause-answer g c =
    refused_answer (DriveFailures g.S.Shelf c.args.shelf.now c.values.new.shelf) (command.Read c.args.volume c.args.at c.args.count) c.args.self.now c.requires.well c.in-Err.refusal
    (unread_cause c.args.self.now.host c.args.self.now.state c.args.volume c.args.at c.args.count (DriveFailures g.S.Shelf c.args.shelf.now c.values.new.shelf) ⊥ c.in-Err.refusal c.in-Err.ensures.err)
    (unread_plain c.args.self.now.host c.args.self.now.state c.args.volume c.args.at c.args.count (DriveFailures g.S.Shelf c.args.shelf.now c.values.new.shelf) c.in-Err.refusal c.in-Err.ensures.err)
    (inr tt)

pub returns-in-Err-clause-end : goal.returns-in-Err-clause-end
returns-in-Err-clause-end g c =
    let failures = DriveFailures g.S.Shelf c.args.shelf.now c.values.new.shelf in
    command_ends _ c.args.self.now _ (command.Read c.args.volume c.args.at c.args.count) (outcome.Refused c.in-Err.refusal) c.args.self.now _ _
    (λ t start. (t, c.values.ensures.same ∙ start, λ known. unread_line c.args.self.now.host c.args.self.now.state c.args.volume c.args.at c.args.count failures t c.in-Err.refusal c.in-Err.ensures.err))
    (refused_carried c.args.self.now.host (ToSee (key_of c.args.self.now.host) c.args.volume c.args.at c.args.count) c.args.self.now.state _ _ c.values.ensures.same c.in-Err.refusal)
    (λ on u. tt) (λ is u. tt)

pub returns-in-Ok-clause-counted : goal.returns-in-Ok-clause-counted
returns-in-Ok-clause-counted g c =
    let counted = c.in-Ok.ensures.counted in
    let host = c.args.self.now.host in record {
      exactly = counted.0;
      most = in_most g.S.Shelf _ _ host c.args.volume c.args.at c.args.count c.args.self.now.state.opened counted.1 (exactly_most g.S.Shelf _ _ host _ 0 counted.0);
      wrote = tt;
    }
