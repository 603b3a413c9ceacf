use Rattle.std.proofs.Common.{List, refl, subst, sym}
use Rattle.mdv_base.specs.declared.name.Named.{Named}
use Rattle.mdv_words.specs.declared.command.Command.{Command}
use Rattle.mdv_engine_law.specs.declared.answer.Answer.TheVariants.{Said}
use Rattle.mdv_engine.specs.Counts.{IsCommandCounted}
use Rattle.mdv_engine.specs.Printing.{HasPrinted}
use Rattle.mdv_engine_law.specs.Line.{Nothing}
use Rattle.mdv_shelf.specs.Shelves.{DriveFailures}
use Rattle.mdv_engine.proofs.Blocks.{moments_still}
use Rattle.mdv_engine.proofs.Printing.{print_answer, print_counted, print_ends}
use Rattle.mdv_engine.specs.Below.{meant}
use Rattle.mdv_engine.proofs.engine.Engine.carry_out.Goals as goal

pub returns-in-AddPlaces-clause-end : goal.returns-in-AddPlaces-clause-end
returns-in-AddPlaces-clause-end g c = rw (c.in-AddPlaces.is) (rw (← c.as_slice.ensures) c.make.ensures.end)

pub returns-in-Alter-clause-end : goal.returns-in-Alter-clause-end
returns-in-Alter-clause-end g c = rw (c.in-Alter.is) c.alter.ensures.end

pub returns-in-Read-clause-end : goal.returns-in-Read-clause-end
returns-in-Read-clause-end g c = rw (c.in-Read.is) c.read.ensures.end

pub returns-in-Write-clause-end : goal.returns-in-Write-clause-end
returns-in-Write-clause-end g c = rw (c.in-Write.is) c.write.ensures.end

pub returns-in-AddPlaces-clause-counted : goal.returns-in-AddPlaces-clause-counted
returns-in-AddPlaces-clause-counted g c = rw (c.in-AddPlaces.is) (rw (← c.as_slice.ensures) c.make.ensures.counted)

pub returns-in-Alter-clause-counted : goal.returns-in-Alter-clause-counted
returns-in-Alter-clause-counted g c = rw (c.in-Alter.is) c.alter.ensures.counted

pub returns-in-Read-clause-counted : goal.returns-in-Read-clause-counted
returns-in-Read-clause-counted g c = rw (c.in-Read.is) c.read.ensures.counted

pub returns-in-Write-clause-counted : goal.returns-in-Write-clause-counted
returns-in-Write-clause-counted g c = rw (c.in-Write.is) c.write.ensures.counted

pub returns-in-AddPlaces-clause-answer : goal.returns-in-AddPlaces-clause-answer
returns-in-AddPlaces-clause-answer g c = rw (c.in-AddPlaces.is) (rw (← c.as_slice.ensures) c.make.ensures.answer)

pub returns-in-Alter-clause-answer : goal.returns-in-Alter-clause-answer
returns-in-Alter-clause-answer g c = rw (c.in-Alter.is) c.alter.ensures.answer

pub returns-in-Read-clause-answer : goal.returns-in-Read-clause-answer
returns-in-Read-clause-answer g c = rw (c.in-Read.is) c.read.ensures.answer

pub returns-in-Write-clause-answer : goal.returns-in-Write-clause-answer
returns-in-Write-clause-answer g c = rw (c.in-Write.is) c.write.ensures.answer

pub returns-in-Print-clause-moments : goal.returns-in-Print-clause-moments
returns-in-Print-clause-moments g c = rw (c.in-Print.is) (moments_still c.args.self.now.host Nothing c.args.self.now.state _ _ refl)

pub returns-in-Print-clause-end : goal.returns-in-Print-clause-end
returns-in-Print-clause-end g c =
    let has = subst (λ (names : List Named). HasPrinted c.args.self.now.state names c.print.result) c.as_slice-in-Print.ensures c.print.ensures in
    rw (c.in-Print.is) (print_ends c.args.self.now c.in-Print.names c.print.result has (DriveFailures g.S.Shelf c.args.shelf.now c.args.shelf.now) (λ drive. refl) _)

pub returns-in-Print-clause-answer : goal.returns-in-Print-clause-answer
returns-in-Print-clause-answer g c =
    let has = subst (λ (names : List Named). HasPrinted c.args.self.now.state names c.print.result) c.as_slice-in-Print.ensures c.print.ensures in
    rw (c.in-Print.is) (print_answer c.args.self.now c.in-Print.names c.print.result has (DriveFailures g.S.Shelf c.args.shelf.now c.args.shelf.now) (λ drive. refl) c.requires.well)

pub returns-in-Print-clause-counted : goal.returns-in-Print-clause-counted
returns-in-Print-clause-counted g c =
    let has = subst (λ (names : List Named). HasPrinted c.args.self.now.state names c.print.result) c.as_slice-in-Print.ensures c.print.ensures in
    subst (λ (x : Command). IsCommandCounted g.S.Shelf c.args.shelf.now c.args.shelf.now c.args.self.now.host (meant c.args.self.now.state.entries x) (Said c.print.result) c.args.self.now.state.opened c.args.self.now.state.opened) (sym c.in-Print.is)
    (print_counted g.S.Shelf c.args.shelf.now c.args.self.now.host c.in-Print.names c.args.self.now.state c.print.result has c.args.self.now.state.opened)

pub returns-in-DropPlaces-clause-moments : goal.returns-in-DropPlaces-clause-moments
returns-in-DropPlaces-clause-moments g c = rw (c.in-DropPlaces.is) (rw (← c.as_slice-in-DropPlaces.ensures) c.drop_places.ensures.moments)

pub returns-in-DropPlaces-clause-end : goal.returns-in-DropPlaces-clause-end
returns-in-DropPlaces-clause-end g c = rw (c.in-DropPlaces.is) (rw (← c.as_slice-in-DropPlaces.ensures) c.drop_places.ensures.end)

pub returns-in-DropPlaces-clause-answer : goal.returns-in-DropPlaces-clause-answer
returns-in-DropPlaces-clause-answer g c = rw (c.in-DropPlaces.is) (rw (← c.as_slice-in-DropPlaces.ensures) c.drop_places.ensures.answer)

pub returns-in-DropPlaces-clause-counted : goal.returns-in-DropPlaces-clause-counted
returns-in-DropPlaces-clause-counted g c = rw (c.in-DropPlaces.is) (rw (← c.as_slice-in-DropPlaces.ensures) c.drop_places.ensures.counted)

pub returns-in-DropPlaces-clause-kept : goal.returns-in-DropPlaces-clause-kept
returns-in-DropPlaces-clause-kept g c = rw (c.in-DropPlaces.is) (rw (← c.as_slice-in-DropPlaces.ensures) c.drop_places.ensures.kept)
