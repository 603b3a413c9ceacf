use Rattle.std.proofs.Common.{◌≡◌, ◌∙◌, List, None, sym, ap, arith}
use Rattle.mdv_shelf.proofs.Among.{among_wider}
use Rattle.mdv_store.specs.Booting.{has_written}
use Rattle.mdv_store.specs.Seats.{drives_of}
use Rattle.mdv_store.specs.Shares.{short_of}
use Rattle.mdv_store.specs.Taking.{drives_read}
use Rattle.mdv_store.specs.declared.seats.Need.TheVariants.{More}
use Rattle.mdv_store.specs.declared.seats.Seat.{Seat}
use Rattle.mdv_store.proofs.Adoptions.{adopt_still, adopted_answer, adopted_ends, adopted_moments, got_within, hand_drives, hand_laid, seated_small, spent_answer, unread_answer}
use Rattle.mdv_store.proofs.Reading.{hand_ready}
use Rattle.mdv_store.proofs.booting.adopt.Goals as goal
use Rattle.mdv_store.proofs.booting.adopt.Goals.{After-rewrite}

pub in_hand-requires-clause-numbered : goal.in_hand-requires-clause-numbered
in_hand-requires-clause-numbered g c = λ r has. seated_small c.args.site.now r (c.requires.seated r has)

pub in_hand-requires-clause-within : goal.in_hand-requires-clause-within
in_hand-requires-clause-within g c = got_within c.args.replicas.now c.args.newest.replica c.requires.newest.replica c.requires.newest.one_of

pub returns-in-Err-clause-moments : goal.returns-in-Err-clause-moments
returns-in-Err-clause-moments g c = adopt_still c.args.site.now c.args.replicas.now c.args.newest c.quiet.result.end (g.S.Shelf.tale c.args.shelf.now) (ap has_written c.quiet.ensures.end)

pub returns-in-Some-clause-answer : goal.returns-in-Some-clause-answer
returns-in-Some-clause-answer g c =
    unread_answer c.args.site.now c.args.replicas.now c.args.newest c.in-Ok.hand c.in-Ok.ensures c.requires.seated c.requires.newest g.S.Shelf c.args.shelf.now c.in-Some.share
    (ap (λ (l : List Seat). short_of More l c.args.newest.table.plan.lists) (sym c.as_slice.ensures) ∙ sym c.short.ensures ∙ c.in-Some.is)
    c.quiet-in-Some.result (c.quiet-in-Some.ensures.end ∙ c.unread.ensures) c.quiet-in-Some.ensures.calm

pub returns-in-Some-clause-moments : goal.returns-in-Some-clause-moments
returns-in-Some-clause-moments g c =
    adopt_still c.args.site.now c.args.replicas.now c.args.newest c.quiet-in-Some.result.end (g.S.Shelf.tale c.args.shelf.now) (ap has_written (c.quiet-in-Some.ensures.end ∙ c.unread.ensures))

pub returns-then-hand-ge-NUMBER_LIMIT-clause-answer : goal.returns-then-hand-ge-NUMBER_LIMIT-clause-answer
returns-then-hand-ge-NUMBER_LIMIT-clause-answer g c =
    spent_answer c.args.site.now c.args.replicas.now c.args.newest c.in-Ok.hand c.in-Ok.ensures c.requires.seated c.requires.newest g.S.Shelf c.args.shelf.now
    (ap (λ (l : List Seat). short_of More l c.args.newest.table.plan.lists) (sym c.as_slice.ensures) ∙ sym c.short.ensures ∙ c.in_default.is)
    (omega (arith, c.if-hand-ge-NUMBER_LIMIT.true)) c.quiet-then-hand-ge-NUMBER_LIMIT.result c.quiet-then-hand-ge-NUMBER_LIMIT.ensures.end c.quiet-then-hand-ge-NUMBER_LIMIT.ensures.calm

pub returns-then-hand-ge-NUMBER_LIMIT-clause-moments : goal.returns-then-hand-ge-NUMBER_LIMIT-clause-moments
returns-then-hand-ge-NUMBER_LIMIT-clause-moments g c =
    adopt_still c.args.site.now c.args.replicas.now c.args.newest c.quiet-then-hand-ge-NUMBER_LIMIT.result.end (g.S.Shelf.tale c.args.shelf.now) (ap has_written c.quiet-then-hand-ge-NUMBER_LIMIT.ensures.end)

pub rewrite-requires-clause-laid : goal.rewrite-requires-clause-laid
rewrite-requires-clause-laid g c =
    hand_laid c.args.site.now c.args.replicas.now c.args.newest c.in-Ok.hand c.in-Ok.ensures c.requires.seated c.requires.newest
    (ap (λ (l : List Seat). short_of More l c.args.newest.table.plan.lists) (sym c.as_slice.ensures) ∙ sym c.short.ensures ∙ c.in_default.is) (g.S.Shelf.sizes c.args.shelf.now) c.requires.on_shelf

pub rewrite-requires-clause-ready : goal.rewrite-requires-clause-ready
rewrite-requires-clause-ready g c =
    hand_ready c.args.site.now c.args.replicas.now c.args.newest c.in-Ok.hand c.in-Ok.ensures c.requires.seated
    (ap (λ (l : List Seat). short_of More l c.args.newest.table.plan.lists) (sym c.as_slice.ensures) ∙ sym c.short.ensures ∙ c.in_default.is) (omega (arith, c.if-hand-ge-NUMBER_LIMIT.false))

enough : (g : _) (c : After-rewrite g) → short_of More c.in-Ok.hand.seats c.args.newest.table.plan.lists ≡ None
enough g c = ap (λ (l : List Seat). short_of More l c.args.newest.table.plan.lists) (sym c.as_slice.ensures) ∙ sym c.short.ensures ∙ c.in_default.is

pub returns-clause-answer : goal.returns-clause-answer
returns-clause-answer g c =
    let more = enough g (goal.at.returns-clause-answer g c).After-rewrite in
    adopted_answer c.args.site.now c.args.replicas.now c.args.newest c.in-Ok.hand c.in-Ok.ensures c.requires.seated c.requires.newest more g.S.Shelf c.args.shelf.now c.rewrite.new.shelf c.rewrite.result c.rewrite.ensures.answer
    c.rewrite.ensures.counted.1 c.rewrite.ensures.moments (omega (arith, c.if-hand-ge-NUMBER_LIMIT.false))
    (hand_laid c.args.site.now c.args.replicas.now c.args.newest c.in-Ok.hand c.in-Ok.ensures c.requires.seated c.requires.newest more (g.S.Shelf.sizes c.args.shelf.now) c.requires.on_shelf)

pub returns-clause-moments : goal.returns-clause-moments
returns-clause-moments g c =
    let more = enough g (goal.at.returns-clause-moments g c).After-rewrite in
    adopted_moments c.args.site.now c.args.replicas.now c.args.newest c.in-Ok.hand c.in-Ok.ensures c.requires.seated c.requires.newest more g.S.Shelf c.args.shelf.now c.rewrite.new.shelf c.rewrite.result c.rewrite.ensures.answer
    (omega (arith, c.if-hand-ge-NUMBER_LIMIT.false)) c.rewrite.ensures.moments

pub returns-clause-end : goal.returns-clause-end
returns-clause-end g c =
    let more = enough g (goal.at.returns-clause-end g c).After-rewrite in
    adopted_ends c.args.site.now c.args.replicas.now c.args.newest c.in-Ok.hand c.in-Ok.ensures c.requires.seated c.requires.newest more g.S.Shelf c.args.shelf.now c.rewrite.new.shelf c.rewrite.result c.rewrite.ensures.answer
    (omega (arith, c.if-hand-ge-NUMBER_LIMIT.false)) c.rewrite.ensures.end

pub returns-clause-counted : goal.returns-clause-counted
returns-clause-counted g c =
    let more = enough g (goal.at.returns-clause-counted g c).After-rewrite in (
      c.rewrite.ensures.counted.0,
      among_wider g.S.Shelf c.args.shelf.now c.rewrite.new.shelf (drives_of c.in-Ok.hand.seats) (drives_read c.args.replicas.now)
          (hand_drives c.args.site.now c.args.replicas.now c.args.newest c.in-Ok.hand c.in-Ok.ensures c.requires.seated c.requires.newest more) c.rewrite.ensures.counted.1,
    )
