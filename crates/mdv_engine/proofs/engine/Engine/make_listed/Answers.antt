use Rattle.std.proofs.Common.{refl, subst}
use Rattle.mdv_shelf.specs.Shelves.{AtEnd, DriveFailures}
use Rattle.mdv_words.specs.Listed.{as_listed}
use Rattle.mdv_engine_law.specs.Commands as came
use Rattle.mdv_engine_law.specs.Line.{ToMakeListed}
use Rattle.mdv_engine.specs.Below.{Command, key_of, listed_by}
use Rattle.mdv_engine.specs.Counts.{IsCommandCounted}
use Rattle.mdv_engine.specs.Ends.{CarriedOut, HasAnswered, KeptAsAsked, by_entry}
use Rattle.mdv_engine.proofs.Blocks.{refused_carried}
use Rattle.mdv_engine.proofs.Counting.{refused_counted}
use Rattle.mdv_engine.proofs.Ending.{refused_ends}
use Rattle.mdv_engine.proofs.Judged.{IsJudged}
use Rattle.mdv_engine.proofs.Listed.{listed_answer, listed_judged, of_listed}
use Rattle.mdv_engine.proofs.engine.Engine.make_listed.Goals as goal

pub make_or_add-requires-clause-form : goal.make_or_add-requires-clause-form
make_or_add-requires-clause-form g c = c.requires.well.entries c.args.number _ c.in-Ok.ensures.ok.1.said

pub returns-in-Ok-clause-moments : goal.returns-in-Ok-clause-moments
returns-in-Ok-clause-moments g c =
    let v = c.args.self.now in
    (c.make_or_add.ensures c.args.force (ToMakeListed (key_of v.host) c.args.number) c.in-Ok.ensures.ok.1.allowed (by_entry c.args.number c.in-Ok.ensures.ok.1.said refl)).moments

pub returns-in-Ok-clause-end : goal.returns-in-Ok-clause-end
returns-in-Ok-clause-end g c =
    let v = c.args.self.now in
    of_listed v c.args.number c.args.force _ c.in-Ok.ensures.ok.1.said (λ (command : Command). AtEnd g.S.Shelf (CarriedOut (DriveFailures g.S.Shelf c.args.shelf.now c.make_or_add.new.shelf) v.host (ToMakeListed (key_of v.host) c.args.number) command v.state c.make_or_add.result c.make_or_add.new.self.state) c.args.shelf.now c.make_or_add.new.shelf)
    (c.make_or_add.ensures c.args.force (ToMakeListed (key_of v.host) c.args.number) c.in-Ok.ensures.ok.1.allowed (by_entry c.args.number c.in-Ok.ensures.ok.1.said refl)).end

pub returns-in-Ok-clause-answer : goal.returns-in-Ok-clause-answer
returns-in-Ok-clause-answer g c =
    let v = c.args.self.now in
    of_listed v c.args.number c.args.force _ c.in-Ok.ensures.ok.1.said (λ (command : Command). HasAnswered (DriveFailures g.S.Shelf c.args.shelf.now c.make_or_add.new.shelf) command v c.make_or_add.result c.make_or_add.new.self)
    (c.make_or_add.ensures c.args.force (ToMakeListed (key_of v.host) c.args.number) c.in-Ok.ensures.ok.1.allowed (by_entry c.args.number c.in-Ok.ensures.ok.1.said refl)).answer

pub returns-in-Ok-clause-counted : goal.returns-in-Ok-clause-counted
returns-in-Ok-clause-counted g c =
    let v = c.args.self.now in
    of_listed v c.args.number c.args.force _ c.in-Ok.ensures.ok.1.said (λ (command : Command). IsCommandCounted g.S.Shelf c.args.shelf.now c.make_or_add.new.shelf v.host command c.make_or_add.result v.state.opened c.make_or_add.new.self.state.opened)
    (c.make_or_add.ensures c.args.force (ToMakeListed (key_of v.host) c.args.number) c.in-Ok.ensures.ok.1.allowed (by_entry c.args.number c.in-Ok.ensures.ok.1.said refl)).counted

pub returns-in-Ok-clause-kept : goal.returns-in-Ok-clause-kept
returns-in-Ok-clause-kept g c =
    let v = c.args.self.now in
    of_listed v c.args.number c.args.force _ c.in-Ok.ensures.ok.1.said (λ (command : Command). KeptAsAsked g.S.Shelf c.args.shelf.now c.make_or_add.new.shelf v.host v.state command)
    (c.make_or_add.ensures c.args.force (ToMakeListed (key_of v.host) c.args.number) c.in-Ok.ensures.ok.1.allowed (by_entry c.args.number c.in-Ok.ensures.ok.1.said refl)).kept

pub returns-in-Err-clause-end : goal.returns-in-Err-clause-end
returns-in-Err-clause-end g c =
    let v = c.args.self.now in
    let said = listed_by v.state.entries c.args.number in
    refused_ends _ v (ToMakeListed (key_of v.host) c.args.number) (as_listed c.args.number c.args.force said) c.in-Err.refusal _ _
    (λ t start. (t, start, λ known. came.refused (λ drive. refl) c.in-Err.refusal c.in-Err.ensures.err (refl, record { memory = refl; content = λ drive block. refl })))
    (refused_carried v.host (ToMakeListed (key_of v.host) c.args.number) v.state _ _ refl c.in-Err.refusal)
    (λ fault. subst IsJudged fault (listed_judged v c.args.number c.args.force said c.in-Err.refusal c.in-Err.ensures.err))

pub returns-in-Err-clause-answer : goal.returns-in-Err-clause-answer
returns-in-Err-clause-answer g c =
    let v = c.args.self.now in
    listed_answer v c.args.number c.args.force (listed_by v.state.entries c.args.number) c.in-Err.refusal c.in-Err.ensures.err _ (λ drive. refl) c.requires.well

pub returns-in-Err-clause-counted : goal.returns-in-Err-clause-counted
returns-in-Err-clause-counted g c =
    let v = c.args.self.now in
    let said = listed_by v.state.entries c.args.number in
    refused_counted g.S.Shelf _ _ v.host (as_listed c.args.number c.args.force said) c.in-Err.refusal _ _
    (λ fault. absurd (subst IsJudged fault (listed_judged v c.args.number c.args.force said c.in-Err.refusal c.in-Err.ensures.err))) refl
