use Rattle.std.proofs.Common.{refl, ap}
use Rattle.mdv_engine_law.specs.declared.answer.Ended.TheVariants as ended
use Rattle.mdv_engine.specs.Below.{answered_by}
use Rattle.mdv_engine.proofs.Booting.{all_moments, empty_cause, empty_counted, empty_end, fitting_cause, fitting_counted, fitting_end, fitting_well, lost_cause, over_counted, over_end, short_cause, spent_cause, two_cause, wanting_cause}
use Rattle.mdv_engine.proofs.Listed.{none_listed}
use Rattle.mdv_engine.proofs.engine.boot_from.Goals as goal

pub returns-in-Adopted-clause-moments : goal.returns-in-Adopted-clause-moments
returns-in-Adopted-clause-moments g c =
    all_moments g.S.Shelf c.args.shelf.now c.boot-end.new.shelf c.args.host.now c.requires c.boot-end.result c.boot-end.ensures.answer c.boot-end.ensures.kept c.args.begun c.boot-end.ensures.moments c.boot-end.ensures.end c.boot-end.ensures.counted

pub returns-in-Empty-clause-moments : goal.returns-in-Empty-clause-moments
returns-in-Empty-clause-moments g c =
    all_moments g.S.Shelf c.args.shelf.now c.boot-end.new.shelf c.args.host.now c.requires c.boot-end.result c.boot-end.ensures.answer c.boot-end.ensures.kept c.args.begun c.boot-end.ensures.moments c.boot-end.ensures.end c.boot-end.ensures.counted

pub returns-in-TwoDatabases-clause-moments : goal.returns-in-TwoDatabases-clause-moments
returns-in-TwoDatabases-clause-moments g c =
    all_moments g.S.Shelf c.args.shelf.now c.boot-end.new.shelf c.args.host.now c.requires c.boot-end.result c.boot-end.ensures.answer c.boot-end.ensures.kept c.args.begun c.boot-end.ensures.moments c.boot-end.ensures.end c.boot-end.ensures.counted

pub returns-in-NoQuorum-clause-moments : goal.returns-in-NoQuorum-clause-moments
returns-in-NoQuorum-clause-moments g c =
    all_moments g.S.Shelf c.args.shelf.now c.boot-end.new.shelf c.args.host.now c.requires c.boot-end.result c.boot-end.ensures.answer c.boot-end.ensures.kept c.args.begun c.boot-end.ensures.moments c.boot-end.ensures.end c.boot-end.ensures.counted

pub returns-in-Lost-clause-moments : goal.returns-in-Lost-clause-moments
returns-in-Lost-clause-moments g c =
    all_moments g.S.Shelf c.args.shelf.now c.boot-end.new.shelf c.args.host.now c.requires c.boot-end.result c.boot-end.ensures.answer c.boot-end.ensures.kept c.args.begun c.boot-end.ensures.moments c.boot-end.ensures.end c.boot-end.ensures.counted

pub returns-in-Spent-clause-moments : goal.returns-in-Spent-clause-moments
returns-in-Spent-clause-moments g c =
    all_moments g.S.Shelf c.args.shelf.now c.boot-end.new.shelf c.args.host.now c.requires c.boot-end.result c.boot-end.ensures.answer c.boot-end.ensures.kept c.args.begun c.boot-end.ensures.moments c.boot-end.ensures.end c.boot-end.ensures.counted

pub returns-in-Memory-clause-moments : goal.returns-in-Memory-clause-moments
returns-in-Memory-clause-moments g c =
    all_moments g.S.Shelf c.args.shelf.now c.boot-end.new.shelf c.args.host.now c.requires c.boot-end.result c.boot-end.ensures.answer c.boot-end.ensures.kept c.args.begun c.boot-end.ensures.moments c.boot-end.ensures.end c.boot-end.ensures.counted

pub returns-in-Adopted-clause-end : goal.returns-in-Adopted-clause-end
returns-in-Adopted-clause-end g c =
    rw c.booted.ensures (fitting_end g.S.Shelf c.args.shelf.now c.boot-end.new.shelf c.args.host.now c.requires c.boot-end.result c.boot-end.ensures.answer c.boot-end.ensures.kept c.args.begun c.boot-end.ensures.moments c.boot-end.ensures.end c.boot-end.ensures.counted c.in-Adopted.store c.in-Adopted.is c.fitting-database.result c.fitting-database.ensures)

pub returns-in-Empty-clause-end : goal.returns-in-Empty-clause-end
returns-in-Empty-clause-end g c =
    rw c.booted-in-Empty.ensures (empty_end g.S.Shelf c.args.shelf.now c.boot-end.new.shelf c.args.host.now c.requires c.boot-end.result c.boot-end.ensures.answer c.boot-end.ensures.kept c.args.begun c.boot-end.ensures.moments c.boot-end.ensures.end c.boot-end.ensures.counted c.in-Empty.is)

pub returns-in-TwoDatabases-clause-end : goal.returns-in-TwoDatabases-clause-end
returns-in-TwoDatabases-clause-end g c =
    over_end g.S.Shelf c.args.shelf.now c.boot-end.new.shelf c.args.host.now c.requires c.boot-end.result c.boot-end.ensures.answer c.boot-end.ensures.kept c.args.begun c.boot-end.ensures.moments c.boot-end.ensures.end c.boot-end.ensures.counted (ended.TwoDatabases c.in-TwoDatabases.a c.in-TwoDatabases.b) (ap answered_by c.in-TwoDatabases.is)

pub returns-in-NoQuorum-clause-end : goal.returns-in-NoQuorum-clause-end
returns-in-NoQuorum-clause-end g c =
    over_end g.S.Shelf c.args.shelf.now c.boot-end.new.shelf c.args.host.now c.requires c.boot-end.result c.boot-end.ensures.answer c.boot-end.ensures.kept c.args.begun c.boot-end.ensures.moments c.boot-end.ensures.end c.boot-end.ensures.counted (ended.NoQuorum c.in-NoQuorum.readable c.in-NoQuorum.needed) (ap answered_by c.in-NoQuorum.is)

pub returns-in-Lost-clause-end : goal.returns-in-Lost-clause-end
returns-in-Lost-clause-end g c =
    over_end g.S.Shelf c.args.shelf.now c.boot-end.new.shelf c.args.host.now c.requires c.boot-end.result c.boot-end.ensures.answer c.boot-end.ensures.kept c.args.begun c.boot-end.ensures.moments c.boot-end.ensures.end c.boot-end.ensures.counted (ended.Lost c.in-Lost.active c.in-Lost.listed) (ap answered_by c.in-Lost.is)

pub returns-in-Spent-clause-end : goal.returns-in-Spent-clause-end
returns-in-Spent-clause-end g c =
    over_end g.S.Shelf c.args.shelf.now c.boot-end.new.shelf c.args.host.now c.requires c.boot-end.result c.boot-end.ensures.answer c.boot-end.ensures.kept c.args.begun c.boot-end.ensures.moments c.boot-end.ensures.end c.boot-end.ensures.counted ended.Spent (ap answered_by c.in-Spent.is)

pub returns-in-Memory-clause-end : goal.returns-in-Memory-clause-end
returns-in-Memory-clause-end g c =
    over_end g.S.Shelf c.args.shelf.now c.boot-end.new.shelf c.args.host.now c.requires c.boot-end.result c.boot-end.ensures.answer c.boot-end.ensures.kept c.args.begun c.boot-end.ensures.moments c.boot-end.ensures.end c.boot-end.ensures.counted ended.Memory (ap answered_by c.in-Memory.is)

pub returns-in-Adopted-clause-answer : goal.returns-in-Adopted-clause-answer
returns-in-Adopted-clause-answer g c =
    rw c.booted.ensures (record { cause = fitting_cause g.S.Shelf c.args.shelf.now c.boot-end.new.shelf c.args.host.now c.requires c.boot-end.result c.boot-end.ensures.answer c.boot-end.ensures.kept c.args.begun c.boot-end.ensures.moments c.boot-end.ensures.end c.boot-end.ensures.counted c.in-Adopted.store c.in-Adopted.is c.fitting-database.result c.fitting-database.ensures; well = (fitting_well g.S.Shelf c.args.shelf.now c.boot-end.new.shelf c.args.host.now c.requires c.boot-end.result c.boot-end.ensures.answer c.boot-end.ensures.kept c.args.begun c.boot-end.ensures.moments c.boot-end.ensures.end c.boot-end.ensures.counted c.in-Adopted.store c.in-Adopted.is c.fitting-database.result c.fitting-database.ensures, refl, refl) })

pub returns-in-Empty-clause-answer : goal.returns-in-Empty-clause-answer
returns-in-Empty-clause-answer g c =
    rw c.booted-in-Empty.ensures (record { cause = empty_cause g.S.Shelf c.args.shelf.now c.boot-end.new.shelf c.args.host.now c.requires c.boot-end.result c.boot-end.ensures.answer c.boot-end.ensures.kept c.args.begun c.in-Empty.is; well = (record { database = tt; entries = none_listed }, refl, refl) })

pub returns-in-TwoDatabases-clause-answer : goal.returns-in-TwoDatabases-clause-answer
returns-in-TwoDatabases-clause-answer g c =
    record { cause = two_cause g.S.Shelf c.args.shelf.now c.boot-end.new.shelf c.args.host.now c.requires c.boot-end.result c.boot-end.ensures.answer c.boot-end.ensures.kept c.args.begun c.in-TwoDatabases.a c.in-TwoDatabases.b c.in-TwoDatabases.is; well = tt }

pub returns-in-NoQuorum-clause-answer : goal.returns-in-NoQuorum-clause-answer
returns-in-NoQuorum-clause-answer g c =
    record { cause = short_cause g.S.Shelf c.args.shelf.now c.boot-end.new.shelf c.args.host.now c.requires c.boot-end.result c.boot-end.ensures.answer c.boot-end.ensures.kept c.args.begun c.in-NoQuorum.readable c.in-NoQuorum.needed c.in-NoQuorum.is; well = tt }

pub returns-in-Lost-clause-answer : goal.returns-in-Lost-clause-answer
returns-in-Lost-clause-answer g c =
    record { cause = lost_cause g.S.Shelf c.args.shelf.now c.boot-end.new.shelf c.args.host.now c.requires c.boot-end.result c.boot-end.ensures.answer c.boot-end.ensures.kept c.args.begun c.in-Lost.active c.in-Lost.listed c.in-Lost.is; well = tt }

pub returns-in-Spent-clause-answer : goal.returns-in-Spent-clause-answer
returns-in-Spent-clause-answer g c =
    record { cause = spent_cause g.S.Shelf c.args.shelf.now c.boot-end.new.shelf c.args.host.now c.requires c.boot-end.result c.boot-end.ensures.answer c.boot-end.ensures.kept c.args.begun c.in-Spent.is; well = tt }

pub returns-in-Memory-clause-answer : goal.returns-in-Memory-clause-answer
returns-in-Memory-clause-answer g c =
    record { cause = wanting_cause g.S.Shelf c.args.shelf.now c.boot-end.new.shelf c.args.host.now c.requires c.boot-end.result c.boot-end.ensures.answer c.boot-end.ensures.kept c.args.begun c.in-Memory.is; well = tt }

pub returns-in-Adopted-clause-counted : goal.returns-in-Adopted-clause-counted
returns-in-Adopted-clause-counted g c =
    rw c.booted.ensures (fitting_counted g.S.Shelf c.args.shelf.now c.boot-end.new.shelf c.args.host.now c.requires c.boot-end.result c.boot-end.ensures.answer c.boot-end.ensures.kept c.args.begun c.boot-end.ensures.moments c.boot-end.ensures.end c.boot-end.ensures.counted c.in-Adopted.store c.in-Adopted.is c.fitting-database.result c.fitting-database.ensures)

pub returns-in-Empty-clause-counted : goal.returns-in-Empty-clause-counted
returns-in-Empty-clause-counted g c =
    rw c.booted-in-Empty.ensures (empty_counted g.S.Shelf c.args.shelf.now c.boot-end.new.shelf c.args.host.now c.requires c.boot-end.result c.boot-end.ensures.answer c.boot-end.ensures.kept c.args.begun c.boot-end.ensures.moments c.boot-end.ensures.end c.boot-end.ensures.counted c.in-Empty.is)

pub returns-in-TwoDatabases-clause-counted : goal.returns-in-TwoDatabases-clause-counted
returns-in-TwoDatabases-clause-counted g c =
    over_counted g.S.Shelf c.args.shelf.now c.boot-end.new.shelf c.args.host.now c.requires c.boot-end.result c.boot-end.ensures.answer c.boot-end.ensures.kept c.args.begun c.boot-end.ensures.moments c.boot-end.ensures.end c.boot-end.ensures.counted (ended.TwoDatabases c.in-TwoDatabases.a c.in-TwoDatabases.b) _ (ap answered_by c.in-TwoDatabases.is)

pub returns-in-NoQuorum-clause-counted : goal.returns-in-NoQuorum-clause-counted
returns-in-NoQuorum-clause-counted g c =
    over_counted g.S.Shelf c.args.shelf.now c.boot-end.new.shelf c.args.host.now c.requires c.boot-end.result c.boot-end.ensures.answer c.boot-end.ensures.kept c.args.begun c.boot-end.ensures.moments c.boot-end.ensures.end c.boot-end.ensures.counted (ended.NoQuorum c.in-NoQuorum.readable c.in-NoQuorum.needed) _ (ap answered_by c.in-NoQuorum.is)

pub returns-in-Lost-clause-counted : goal.returns-in-Lost-clause-counted
returns-in-Lost-clause-counted g c =
    over_counted g.S.Shelf c.args.shelf.now c.boot-end.new.shelf c.args.host.now c.requires c.boot-end.result c.boot-end.ensures.answer c.boot-end.ensures.kept c.args.begun c.boot-end.ensures.moments c.boot-end.ensures.end c.boot-end.ensures.counted (ended.Lost c.in-Lost.active c.in-Lost.listed) _ (ap answered_by c.in-Lost.is)

pub returns-in-Spent-clause-counted : goal.returns-in-Spent-clause-counted
returns-in-Spent-clause-counted g c =
    over_counted g.S.Shelf c.args.shelf.now c.boot-end.new.shelf c.args.host.now c.requires c.boot-end.result c.boot-end.ensures.answer c.boot-end.ensures.kept c.args.begun c.boot-end.ensures.moments c.boot-end.ensures.end c.boot-end.ensures.counted ended.Spent _ (ap answered_by c.in-Spent.is)

pub returns-in-Memory-clause-counted : goal.returns-in-Memory-clause-counted
returns-in-Memory-clause-counted g c =
    over_counted g.S.Shelf c.args.shelf.now c.boot-end.new.shelf c.args.host.now c.requires c.boot-end.result c.boot-end.ensures.answer c.boot-end.ensures.kept c.args.begun c.boot-end.ensures.moments c.boot-end.ensures.end c.boot-end.ensures.counted ended.Memory _ (ap answered_by c.in-Memory.is)
