use Rattle.std.proofs.Common.{Some, sym, subst, ap, ◌∙◌}
use Rattle.mdv_shelf.specs.Shelves.{DriveFailures}
use Rattle.mdv_engine.specs.Below.{Alter}
use Rattle.mdv_engine_law.specs.declared.answer.Answer.{Answer}
use Rattle.mdv_engine.specs.Counts.{IsCommandCounted}
use Rattle.mdv_engine.specs.Ends.{AlterEnds, HasAnswered}
use Rattle.mdv_engine.specs.declared.engine.Engine.{Engine}
use Rattle.mdv_engine.proofs.Commits as commits
use Rattle.mdv_engine.proofs.Committing.{with_open}
use Rattle.mdv_engine.proofs.engine.Engine.commit.Goals as goal
use Rattle.mdv_engine.proofs.engine.Engine.commit.Goals.{in-Ok, in-Err}

pub commit-requires-clause-laid : goal.commit-requires-clause-laid
commit-requires-clause-laid g c =
    let v = c.args.self.now in
    commits.laid g.S.Shelf c.args.shelf.now c.args.shelf.now v c.requires.ready c.requires.well c.in-Some.store (ap (λ (e : Engine). e.state.opened) (sym c.self.view_is) ∙ c.in-Some.is) c.args.next

pub returns-clause-moments : goal.returns-clause-moments
returns-clause-moments g c = λ alteration is.
    let v = c.args.self.now in
    commits.alter_moments g.S.Shelf c.args.shelf.now c.commit.new.shelf v c.requires.ready c.requires.well c.in-Some.store (ap (λ (e : Engine). e.state.opened) (sym c.self.view_is) ∙ c.in-Some.is) c.args.next c.commit.new.self c.commit.ensures.kept c.commit.ensures.moments alteration is

pub returns-clause-end : goal.returns-clause-end
returns-clause-end g c = λ alteration is.
    let v = c.args.self.now in
    subst (λ (x : Engine). AlterEnds g.S.Shelf c.args.shelf.now c.commit.new.shelf v alteration c.match-commit.result (record { host = x.host; state = with_open x.state c.commit.new.self })) (sym c.self.view_is)
    (elim c.match-commit.branch [
      | in-Ok w ↦
          subst (λ (answer : Answer). AlterEnds g.S.Shelf c.args.shelf.now c.commit.new.shelf v alteration answer (record { host = v.host; state = with_open v.state c.commit.new.self })) (sym w.result-is)
          (commits.done_ends g.S.Shelf c.args.shelf.now c.commit.new.shelf v c.requires.ready c.requires.well c.in-Some.store (ap (λ (e : Engine). e.state.opened) (sym c.self.view_is) ∙ c.in-Some.is) c.args.next c.commit.new.self c.commit.ensures.kept c.commit.ensures.moments alteration is w.in-Ok.ensures.answer.came w.in-Ok.ensures.end)
      | in-Err w ↦
          commits.uncommitted_ends g.S.Shelf c.args.shelf.now c.commit.new.shelf v c.requires.ready c.requires.well c.in-Some.store (ap (λ (e : Engine). e.state.opened) (sym c.self.view_is) ∙ c.in-Some.is) c.args.next c.commit.new.self c.commit.ensures.kept c.commit.ensures.moments alteration is w.in-Err.fault c.match-commit.result (w.result-is ∙ w.uncommitted.ensures) w.in-Err.ensures.answer w.in-Err.ensures.counted
    ])

pub returns-clause-answer : goal.returns-clause-answer
returns-clause-answer g c = λ alteration is.
    let v = c.args.self.now in
    subst (λ (x : Engine). HasAnswered (DriveFailures g.S.Shelf c.args.shelf.now c.commit.new.shelf) (Alter alteration) v c.match-commit.result (record { host = x.host; state = with_open x.state c.commit.new.self })) (sym c.self.view_is)
    (elim c.match-commit.branch [
      | in-Ok w ↦
          subst (λ (answer : Answer). HasAnswered (DriveFailures g.S.Shelf c.args.shelf.now c.commit.new.shelf) (Alter alteration) v answer (record { host = v.host; state = with_open v.state c.commit.new.self })) (sym w.result-is)
          (commits.done_answer g.S.Shelf c.args.shelf.now c.commit.new.shelf v c.requires.ready c.requires.well c.in-Some.store (ap (λ (e : Engine). e.state.opened) (sym c.self.view_is) ∙ c.in-Some.is) c.args.next c.commit.new.self c.commit.ensures.kept c.commit.ensures.moments alteration is w.in-Ok.ensures.answer)
      | in-Err w ↦
          commits.uncommitted_answer g.S.Shelf c.args.shelf.now c.commit.new.shelf v c.requires.ready c.requires.well c.in-Some.store (ap (λ (e : Engine). e.state.opened) (sym c.self.view_is) ∙ c.in-Some.is) c.args.next c.commit.new.self c.commit.ensures.kept c.commit.ensures.moments alteration is w.in-Err.fault c.match-commit.result (w.result-is ∙ w.uncommitted.ensures) w.in-Err.ensures.answer w.in-Err.ensures.counted
    ])

pub returns-clause-counted : goal.returns-clause-counted
returns-clause-counted g c = λ alteration is.
    let v = c.args.self.now in
    elim c.match-commit.branch [
      | in-Ok w ↦
          subst (λ (answer : Answer). IsCommandCounted g.S.Shelf c.args.shelf.now c.commit.new.shelf v.host (Alter alteration) answer v.state.opened (Some c.commit.new.self)) (sym w.result-is)
          (commits.done_counted g.S.Shelf c.args.shelf.now c.commit.new.shelf v c.requires.ready c.requires.well c.in-Some.store (ap (λ (e : Engine). e.state.opened) (sym c.self.view_is) ∙ c.in-Some.is) c.args.next c.commit.new.self alteration w.in-Ok.ensures.answer w.in-Ok.ensures.counted)
      | in-Err w ↦
          commits.uncommitted_counted g.S.Shelf c.args.shelf.now c.commit.new.shelf v c.requires.ready c.requires.well c.in-Some.store (ap (λ (e : Engine). e.state.opened) (sym c.self.view_is) ∙ c.in-Some.is) c.args.next c.commit.new.self alteration is w.in-Err.fault c.match-commit.result (w.result-is ∙ w.uncommitted.ensures) w.in-Err.ensures.answer w.in-Err.ensures.counted
    ]
