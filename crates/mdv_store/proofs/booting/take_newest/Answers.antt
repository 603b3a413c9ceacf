use Rattle.mdv_store.proofs.Takes.{newest_answer, newest_ends, newest_moments}
use Rattle.mdv_store.proofs.booting.take_newest.Goals as goal

pub adopt-requires-clause-seated : goal.adopt-requires-clause-seated
adopt-requires-clause-seated g c = rw c.as_slice.ensures (λ r has. (c.requires.survey.each r has).seated)

pub returns-in-Some-clause-answer : goal.returns-in-Some-clause-answer
returns-in-Some-clause-answer g c =
    newest_answer c.args.site.now c.args.looked c.in-Some.newest c.in-Some.is c.requires.chosen g.S.Shelf c.args.shelf.now c.adopt.new.shelf c.adopt.result (rw c.as_slice.ensures at c.adopt.ensures.answer)

pub returns-in-Some-clause-moments : goal.returns-in-Some-clause-moments
returns-in-Some-clause-moments g c =
    newest_moments c.args.site.now c.args.looked c.in-Some.newest c.in-Some.is c.requires.chosen g.S.Shelf c.args.shelf.now c.adopt.new.shelf c.adopt.result (rw c.as_slice.ensures at c.adopt.ensures.moments)

pub returns-in-Some-clause-end : goal.returns-in-Some-clause-end
returns-in-Some-clause-end g c =
    newest_ends c.args.site.now c.args.looked c.in-Some.newest c.in-Some.is c.requires.chosen g.S.Shelf c.args.shelf.now c.adopt.new.shelf c.adopt.result (rw c.as_slice.ensures at c.adopt.ensures.end)
