use Rattle.std.proofs.Common.{ℕ, List, sym, subst, arith}
use Rattle.mdv_survey.specs.Replica.{IsOnShelf}
use Rattle.mdv_survey.specs.declared.replica.Survey.{Survey}
use Rattle.mdv_look.proofs.Looks.{counted_here, counted_more, drives_few, fewer_left, looked_here, looked_more}
use Rattle.mdv_look.proofs.Among.{among_silent}
use Rattle.mdv_look.proofs.looking.+look.Goals as goal

pub left_of-left-requires : goal.left_of-left-requires
left_of-left-requires g t c = rw c.as_slice-drives.ensures (drives_few (g.S.Shelf.sizes c.args.shelf.now) c.args.site.now.drives c.requires.on_shelf.drives)

pub returns-then-not-has_failed-clause-looked : goal.returns-then-not-has_failed-clause-looked
returns-then-not-has_failed-clause-looked g t c =
    let found : Survey = c.in_ok-found.found in
    let none = rw c.as_slice-drives.ensures at (c.has_failed.ensures.no c.if-not-has_failed.true) in
    let are = rw c.as_slice-drives.ensures at c.left_of-left.ensures in
    let reads = c.in_ok-found.ensures.reads in
    record {
      same = reads.same;
      found = looked_here g.S.Shelf c.args.geometry.now c.args.site.now c.args.shelf.now c.survey.new.shelf c.args.up.now found c.requires.on_shelf.brought c.in_ok-found.ensures.failed.have c.in_ok-found.ensures.failed.within c.left_of-left.result are reads.same none
          c.in_ok-found.ensures.answer reads.gave c.in_ok-found.ensures.counted;
    }

pub returns-then-not-has_failed-clause-counted : goal.returns-then-not-has_failed-clause-counted
returns-then-not-has_failed-clause-counted g t c =
    let found : Survey = c.in_ok-found.found in
    let none = rw c.as_slice-drives.ensures at (c.has_failed.ensures.no c.if-not-has_failed.true) in
    let are = rw c.as_slice-drives.ensures at c.left_of-left.ensures in
    let reads = c.in_ok-found.ensures.reads in
    counted_here g.S.Shelf c.args.geometry.now c.args.site.now c.args.shelf.now c.survey.new.shelf c.args.up.now found c.requires.on_shelf.brought c.in_ok-found.ensures.failed.have c.in_ok-found.ensures.failed.within c.left_of-left.result are reads.same none
    c.in_ok-found.ensures.answer reads.gave c.in_ok-found.ensures.counted

pub look-requires : goal.look-requires
look-requires g t c κs within =
    let has = rw c.as_slice-drives.ensures at (c.has_failed.ensures.yes c.if-not-has_failed.false) in
    let are = rw c.as_slice-drives.ensures at c.left_of-left.ensures in
    let less = fewer_left c.args.site.now.drives c.args.up.now c.in_ok-found.found.failed c.left_of-left.result are has in
    (omega (arith, less, c.decreases), (within, (c.requires.sound, subst (λ (sizes : List ℕ). IsOnShelf sizes c.args.site.now) (sym c.survey.ensures.kept.keeps.same_sizes) c.requires.on_shelf)))

pub returns-clause-looked : goal.returns-clause-looked
returns-clause-looked g t c =
    let found : Survey = c.in_ok-found.found in
    let has = rw c.as_slice-drives.ensures at (c.has_failed.ensures.yes c.if-not-has_failed.false) in
    let are = rw c.as_slice-drives.ensures at c.left_of-left.ensures in
    looked_more g.S.Shelf c.args.geometry.now c.args.site.now c.args.shelf.now c.survey.new.shelf c.args.up.now found c.requires.on_shelf.brought c.in_ok-found.ensures.failed.have c.in_ok-found.ensures.failed.within c.left_of-left.result are c.survey.ensures.reads.same
    c.look.new.shelf c.look.result has c.look.ensures.looked c.in_ok-found.ensures.failed

pub returns-clause-counted : goal.returns-clause-counted
returns-clause-counted g t c =
    let found : Survey = c.in_ok-found.found in
    let has = rw c.as_slice-drives.ensures at (c.has_failed.ensures.yes c.if-not-has_failed.false) in
    let are = rw c.as_slice-drives.ensures at c.left_of-left.ensures in
    let counted = c.in_ok-found.ensures.counted in
    counted_more g.S.Shelf c.args.geometry.now c.args.site.now c.args.shelf.now c.survey.new.shelf c.args.up.now found c.requires.on_shelf.brought c.in_ok-found.ensures.failed.have c.in_ok-found.ensures.failed.within c.left_of-left.result are c.survey.ensures.reads.same
    c.look.new.shelf c.look.result has c.look.ensures.looked c.in_ok-found.ensures.failed (counted.calls, counted.few, counted.made) c.look.ensures.counted

pub returns-clause-kept : goal.returns-clause-kept
returns-clause-kept g t c =
    among_silent g.S.Shelf g.met.S.Shelf.telling c.survey.new.shelf c.look.new.shelf c.args.site.now.drives c.look.ensures.kept c.look.ensures.looked.same c.args.shelf.now c.survey.ensures.kept
