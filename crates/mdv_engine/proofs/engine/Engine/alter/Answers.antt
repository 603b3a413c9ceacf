use Rattle.std.proofs.Common.{refl, inr}
use Rattle.mdv_shelf.specs.Shelves.{DriveFailures}
use Rattle.mdv_engine_law.specs.Commands.{MaySpend, blame_of}
use Rattle.mdv_engine_law.specs.declared.answer.Outcome.TheVariants as outcome
use Rattle.mdv_engine.specs.Below.{Alter, asked_by}
use Rattle.mdv_engine.proofs.Altering.{change_cause, change_no_fault}
use Rattle.mdv_engine.proofs.Blocks.{moments_still, refused_carried}
use Rattle.mdv_engine.proofs.Committing.{next_fits, refused_line, refused_plain}
use Rattle.mdv_engine.proofs.Counting.{refused_counted}
use Rattle.mdv_engine.proofs.Ending.{command_ends, refused_answer}
use Rattle.mdv_engine.proofs.engine.Engine.alter.Goals as goal

pub commit-requires-clause-fits : goal.commit-requires-clause-fits
commit-requires-clause-fits g c = next_fits c.args.self.now.host c.args.self.now.state c.args.alteration.now c.in-Ok.next c.in-Ok.ensures.ok

pub returns-in-Ok-clause-moments : goal.returns-in-Ok-clause-moments
returns-in-Ok-clause-moments g c = c.commit.ensures.moments c.args.alteration.now c.in-Ok.ensures.ok

pub returns-in-Err-clause-moments : goal.returns-in-Err-clause-moments
returns-in-Err-clause-moments g c = moments_still c.args.self.now.host (asked_by c.args.self.now.host (Alter c.args.alteration.now)) c.args.self.now.state _ _ refl

pub returns-in-Ok-clause-end : goal.returns-in-Ok-clause-end
returns-in-Ok-clause-end g c = c.commit.ensures.end c.args.alteration.now c.in-Ok.ensures.ok

pub returns-in-Err-clause-end : goal.returns-in-Err-clause-end
returns-in-Err-clause-end g c =
    command_ends _ c.args.self.now _ (Alter c.args.alteration.now) (outcome.Refused c.in-Err.refusal) c.args.self.now _ _
    (λ t start. (t, start, λ known. refused_line c.args.self.now.host c.args.self.now.state c.args.alteration.now (DriveFailures g.S.Shelf c.args.shelf.now c.args.shelf.now) (λ drive. refl) t c.in-Err.refusal c.in-Err.ensures.err))
    (refused_carried c.args.self.now.host (asked_by c.args.self.now.host (Alter c.args.alteration.now)) c.args.self.now.state _ _ refl c.in-Err.refusal)
    (λ on u. tt) (λ is u. tt)

pub returns-in-Ok-clause-answer : goal.returns-in-Ok-clause-answer
returns-in-Ok-clause-answer g c = c.commit.ensures.answer c.args.alteration.now c.in-Ok.ensures.ok

pub returns-in-Err-clause-answer : goal.returns-in-Err-clause-answer
returns-in-Err-clause-answer g c =
    let host = c.args.self.now.host in
    let memory = c.args.self.now.state in
    let calls = DriveFailures g.S.Shelf c.args.shelf.now c.args.shelf.now in
    let asked = Alter c.args.alteration.now in
    refused_answer calls asked c.args.self.now c.requires.well c.in-Err.refusal (change_cause host memory c.args.alteration.now c.in-Err.refusal (blame_of calls host memory asked) (MaySpend memory asked) (λ drive. refl) c.in-Err.ensures.err)
    (refused_plain host memory c.args.alteration.now c.in-Err.refusal c.in-Err.ensures.err) (inr tt)

pub returns-in-Ok-clause-counted : goal.returns-in-Ok-clause-counted
returns-in-Ok-clause-counted g c = c.commit.ensures.counted c.args.alteration.now c.in-Ok.ensures.ok

pub returns-in-Err-clause-counted : goal.returns-in-Err-clause-counted
returns-in-Err-clause-counted g c =
    refused_counted g.S.Shelf _ _ c.args.self.now.host (Alter c.args.alteration.now) c.in-Err.refusal _ _
    (λ fault. absurd (change_no_fault c.args.self.now.host c.args.self.now.state c.args.alteration.now c.in-Err.refusal c.in-Err.ensures.err fault)) refl
