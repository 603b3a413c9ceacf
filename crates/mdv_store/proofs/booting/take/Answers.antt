use Rattle.std.proofs.Common.{ap}
use Rattle.mdv_store.specs.Booting.{has_written}
use Rattle.mdv_store.specs.Taking.{WasRead}
use Rattle.mdv_store.proofs.Adoptions.{still_moments}
use Rattle.mdv_store.proofs.booting.take.Goals as goal

pub returns-in-Empty-clause-moments : goal.returns-in-Empty-clause-moments
returns-in-Empty-clause-moments g c = still_moments g.S.Shelf c.args.shelf.now c.quiet.result (ap has_written c.quiet.ensures.end) c.args.looked.calm (λ t h. WasRead h c.args.site.now c.args.looked t) c.args.site.now

pub returns-in-TwoDatabases-clause-moments : goal.returns-in-TwoDatabases-clause-moments
returns-in-TwoDatabases-clause-moments g c =
    still_moments g.S.Shelf c.args.shelf.now c.quiet-in-TwoDatabases.result (ap has_written c.quiet-in-TwoDatabases.ensures.end) c.args.looked.calm (λ t h. WasRead h c.args.site.now c.args.looked t) c.args.site.now

pub returns-in-NoQuorum-clause-moments : goal.returns-in-NoQuorum-clause-moments
returns-in-NoQuorum-clause-moments g c =
    still_moments g.S.Shelf c.args.shelf.now c.quiet-in-NoQuorum.result (ap has_written c.quiet-in-NoQuorum.ensures.end) c.args.looked.calm (λ t h. WasRead h c.args.site.now c.args.looked t) c.args.site.now
