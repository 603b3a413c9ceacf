use Rattle.std.proofs.Common.{◌∙◌, inl, refl, subst, sym}
use Rattle.mdv_engine_law.specs.Commands as came
use Rattle.mdv_engine_law.specs.Commands.{MaySpend, blame_of}
use Rattle.mdv_engine.specs.Below.{AddPlaces, key_of, lines_asked}
use Rattle.mdv_engine_law.proofs.Plain.{refusal_plain}
use Rattle.mdv_engine_law.specs.declared.answer.Outcome.TheVariants as outcome
use Rattle.mdv_engine_law.specs.Line.{ToMake}
use Rattle.mdv_shelf.specs.Shelves.{DriveFailures}
use Rattle.mdv_engine.proofs.Blocks.{moments_still, refused_carried}
use Rattle.mdv_engine.proofs.Judged.{IsJudged, creation_judged, judged_mere, judged_said, places_calm}
use Rattle.mdv_engine.proofs.Counting.{refused_counted}
use Rattle.mdv_engine.proofs.Ending.{command_ends, refused_answer}
use Rattle.mdv_engine.specs.Ends.{by_slices}
use Rattle.mdv_engine.specs.Engine.{case_at}
use Rattle.mdv_engine.proofs.engine.Engine.make.Goals as goal

pub make_or_add-requires-clause-form : goal.make_or_add-requires-clause-form
make_or_add-requires-clause-form g c = c.requires.form

pub make_or_add-requires-clause-allowed : goal.make_or_add-requires-clause-allowed
make_or_add-requires-clause-allowed g c = (c.args.force, sym c.creation_refusal.ensures ∙ c.in-None.is)

pub returns-in-Some-clause-end : goal.returns-in-Some-clause-end
returns-in-Some-clause-end g c =
    let v = c.args.self.now in
    command_ends _ v _ (AddPlaces c.args.slices.now c.args.force c.args.count c.args.blocks) (outcome.Refused c.in-Some.refusal) v _ _
    (λ t start. (t, start, λ known. came.refused (λ drive. refl) c.in-Some.refusal (sym c.creation_refusal.ensures ∙ c.in-Some.is) (refl, record { memory = refl; content = λ drive block. refl })))
    (refused_carried v.host (ToMake (key_of v.host) (lines_asked v.host c.args.slices.now) c.args.count c.args.blocks) v.state _ _ refl c.in-Some.refusal)
    (λ on u. absurd on) (λ is u. tt)

pub returns-in-Some-clause-answer : goal.returns-in-Some-clause-answer
returns-in-Some-clause-answer g c =
    let v = c.args.self.now in
    let calls = DriveFailures g.S.Shelf c.args.shelf.now c.args.shelf.now in
    let asked = AddPlaces c.args.slices.now c.args.force c.args.count c.args.blocks in
    let is = sym c.creation_refusal.ensures ∙ c.in-Some.is in
    refused_answer calls asked v c.requires.well c.in-Some.refusal
    (judged_said (blame_of calls v.host v.state asked) (MaySpend c.args.self.now.state asked) c.in-Some.refusal (creation_judged (case_at v) c.args.slices.now c.args.force c.args.count c.args.blocks c.in-Some.refusal is) (places_calm calls v.host v.state c.args.slices.now c.args.force c.args.count c.args.blocks (λ drive. refl)))
    (refusal_plain (case_at v) asked c.in-Some.refusal is)
    (inl (judged_mere c.in-Some.refusal (creation_judged (case_at v) c.args.slices.now c.args.force c.args.count c.args.blocks c.in-Some.refusal is)))

pub returns-in-None-clause-end : goal.returns-in-None-clause-end
returns-in-None-clause-end g c = (c.make_or_add.ensures c.args.force _ (sym c.creation_refusal.ensures ∙ c.in-None.is) (by_slices refl)).end

pub returns-in-None-clause-answer : goal.returns-in-None-clause-answer
returns-in-None-clause-answer g c = (c.make_or_add.ensures c.args.force _ (sym c.creation_refusal.ensures ∙ c.in-None.is) (by_slices refl)).answer

pub returns-in-Some-clause-counted : goal.returns-in-Some-clause-counted
returns-in-Some-clause-counted g c =
    let v = c.args.self.now in
    refused_counted g.S.Shelf _ _ v.host (AddPlaces c.args.slices.now c.args.force c.args.count c.args.blocks) c.in-Some.refusal _ _
    (λ fault. absurd (subst IsJudged fault (creation_judged (case_at v) c.args.slices.now c.args.force c.args.count c.args.blocks c.in-Some.refusal (sym c.creation_refusal.ensures ∙ c.in-Some.is)))) refl

pub returns-in-Some-clause-moments : goal.returns-in-Some-clause-moments
returns-in-Some-clause-moments g c =
    let v = c.args.self.now in
    moments_still v.host (ToMake (key_of v.host) (lines_asked v.host c.args.slices.now) c.args.count c.args.blocks) v.state _ _ refl

pub returns-in-None-clause-counted : goal.returns-in-None-clause-counted
returns-in-None-clause-counted g c = (c.make_or_add.ensures c.args.force _ (sym c.creation_refusal.ensures ∙ c.in-None.is) (by_slices refl)).counted

pub returns-in-None-clause-moments : goal.returns-in-None-clause-moments
returns-in-None-clause-moments g c = (c.make_or_add.ensures c.args.force _ (sym c.creation_refusal.ensures ∙ c.in-None.is) (by_slices refl)).moments

pub returns-in-None-clause-kept : goal.returns-in-None-clause-kept
returns-in-None-clause-kept g c = (c.make_or_add.ensures c.args.force _ (sym c.creation_refusal.ensures ∙ c.in-None.is) (by_slices refl)).kept
