use Rattle.std.proofs.Common.{length, refl, arith, inr}
use Rattle.mdv_words.specs.declared.command.Command.TheVariants.{Write}
use Rattle.mdv_engine.specs.Below.{Wrote, blocks_of, key_of}
use Rattle.mdv_engine_law.specs.declared.answer.Outcome.TheVariants as outcome
use Rattle.mdv_engine.proofs.Blocks.{unwritten, write_moments, written_carried, written_line}
use Rattle.mdv_engine.proofs.Counting.{exactly_most, write_most}
use Rattle.mdv_engine.proofs.Ending.{command_ends, done_ends, no_creation}
use Rattle.mdv_engine.proofs.Written.{write_counted}
use Rattle.mdv_engine_law.specs.Answers.{accepted}
use Rattle.mdv_engine.proofs.engine.Engine.write.Goals as goal

pub returns-in-Ok-clause-moments : goal.returns-in-Ok-clause-moments
returns-in-Ok-clause-moments g c =
    write_moments g.S.Shelf c.args.shelf.now c.put.new.shelf c.args.self.now c.requires.ready c.requires.well c.args.volume c.args.at c.args.what.now c.requires.some c.put.new.self c.in-Ok.ensures.put.putting

pub returns-in-Ok-clause-end : goal.returns-in-Ok-clause-end
returns-in-Ok-clause-end g c =
    let put = c.in-Ok.ensures.put in
    rw (put.same) (done_ends _ c.args.self.now _ (Write c.args.volume c.args.at c.args.what.now) accepted c.args.self.now _ _
    (written_line g.S.Shelf c.args.shelf.now c.put.new.shelf c.args.self.now c.requires.ready c.requires.well c.args.volume c.args.at c.args.what.now c.requires.some c.put.new.self put c.in-Ok.ensures.free)
    (written_carried g.S.Shelf c.args.shelf.now c.put.new.shelf c.args.self.now c.requires.ready c.requires.well c.args.volume c.args.at c.args.what.now c.requires.some c.put.new.self put)
    (λ active listed is. absurd (cc (is)))
    (λ t start. (let end = put.settled t start in (end.0, end.1, λ known. (put.putting.map, put.putting.there, end.2))))
    (λ is u. tt))

pub returns-in-Ok-clause-answer : goal.returns-in-Ok-clause-answer
returns-in-Ok-clause-answer g c = rw (c.in-Ok.ensures.put.same) (record {
  plain = tt;
  cause = c.in-Ok.ensures.put.calm;
  lost = λ active listed is. absurd (cc (is));
  free = λ on has closed. absurd (no_creation (key_of c.args.self.now.host) (Wrote (key_of c.args.self.now.host) c.args.volume c.args.at (blocks_of c.args.what.now)) (λ is. absurd (cc (is))) has);
  few = inr tt;
  host = refl;
  well = λ on. c.requires.well;
  begun = omega arith;
})

pub returns-in-Err-clause-moments : goal.returns-in-Err-clause-moments
returns-in-Err-clause-moments g c =
    (unwritten g.S.Shelf c.args.shelf.now c.put.new.shelf c.args.self.now c.requires.ready c.requires.well c.args.volume c.args.at c.args.what.now c.requires.some c.put.new.self c.in-Err.refusal c.in-Err.ensures.err c.in-Err.ensures.put c.in-Err.ensures.counted).moments

pub returns-in-Err-clause-end : goal.returns-in-Err-clause-end
returns-in-Err-clause-end g c =
    let is = unwritten g.S.Shelf c.args.shelf.now c.put.new.shelf c.args.self.now c.requires.ready c.requires.well c.args.volume c.args.at c.args.what.now c.requires.some c.put.new.self c.in-Err.refusal c.in-Err.ensures.err c.in-Err.ensures.put c.in-Err.ensures.counted in
    command_ends _ c.args.self.now _ (Write c.args.volume c.args.at c.args.what.now) (outcome.Refused c.in-Err.refusal) c.put.new.self _ _ is.line is.carried (λ on u. absurd on) (λ is u. tt)

pub returns-in-Err-clause-answer : goal.returns-in-Err-clause-answer
returns-in-Err-clause-answer g c =
    (unwritten g.S.Shelf c.args.shelf.now c.put.new.shelf c.args.self.now c.requires.ready c.requires.well c.args.volume c.args.at c.args.what.now c.requires.some c.put.new.self c.in-Err.refusal c.in-Err.ensures.err c.in-Err.ensures.put c.in-Err.ensures.counted).answer

pub returns-in-Ok-clause-counted : goal.returns-in-Ok-clause-counted
returns-in-Ok-clause-counted g c =
    let host = c.args.self.now.host in
    let counted = c.in-Ok.ensures.counted in record {
      exactly = counted;
      most = write_most g.S.Shelf _ _ host c.args.volume c.args.at c.args.what.now c.args.self.now.state.opened c.in-Ok.ensures.free.1 (exactly_most g.S.Shelf _ _ host _ (length (blocks_of c.args.what.now)) counted);
      wrote = tt;
    }

pub returns-in-Err-clause-counted : goal.returns-in-Err-clause-counted
returns-in-Err-clause-counted g c =
    write_counted g.S.Shelf c.args.shelf.now c.put.new.shelf c.args.self.now c.args.volume c.args.at c.args.what.now c.in-Err.refusal c.put.new.self.state.opened c.in-Err.ensures.err c.in-Err.ensures.counted
