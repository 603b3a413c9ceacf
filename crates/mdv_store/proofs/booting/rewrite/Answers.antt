use Rattle.std.proofs.Common.{◌∙◌, ℕ, length, nat_eq, ap, subst}
use Rattle.mdv_shelf.specs.Shelves.{DriveFailures}
use Rattle.mdv_store.specs.Seats.{active_of}
use Rattle.mdv_standing.specs.Adopting.{drawn}
use Rattle.mdv_store.specs.Settling.{CameOfSettling}
use Rattle.mdv_store.specs.declared.seats.Need.{Need}
use Rattle.mdv_store.proofs.Anew.{anew_laid, anew_open, two_draft, one_answer, one_counted, one_end, two_answer, two_counted, two_end, two_kept, two_moments, two_synced}
use Rattle.mdv_store.proofs.Rewrites.{as_needed, both_kept, claimed_laid, claimed_room, first_answer, first_counted, first_moments, first_synced, lost_answer, lost_counted, room_short, second_moments, second_synced, twice}
use Rattle.mdv_store.proofs.booting.rewrite.Goals as goal

pub returns-in-Some-clause-answer : goal.returns-in-Some-clause-answer
returns-in-Some-clause-answer g c =
    let claimed = c.claim_all.ensures in
    first_answer g.S.Shelf c.args.key.now c.args.hand c.args.table c.requires.ready c.args.shelf.now c.claim_all.new.shelf c.claim_all.new.seats claimed.left claimed.moments claimed.end claimed.passed claimed.kept
    c.in-Some.share (as_needed c.args.key.now _ c.claim_all.new.seats _ c.args.table.plan.lists _ c.need_of-need.ensures c.as_slice-2.ensures c.in-Some.ensures) c.lost.result c.lost.ensures.end c.lost.ensures.calm

pub returns-in-Some-clause-moments : goal.returns-in-Some-clause-moments
returns-in-Some-clause-moments g c =
    let claimed = c.claim_all.ensures in
    first_moments g.S.Shelf c.args.key.now c.args.hand c.args.table c.requires.ready c.args.shelf.now c.claim_all.new.shelf c.claim_all.new.seats claimed.left claimed.moments claimed.end claimed.passed claimed.kept

pub returns-in-Some-clause-synced : goal.returns-in-Some-clause-synced
returns-in-Some-clause-synced g c =
    let claimed = c.claim_all.ensures in
    first_synced g.S.Shelf c.args.key.now c.args.hand c.args.table c.requires.ready c.args.shelf.now c.claim_all.new.shelf c.claim_all.new.seats claimed.left claimed.moments claimed.end claimed.passed claimed.kept
    c.in-Some.share (as_needed c.args.key.now _ c.claim_all.new.seats _ c.args.table.plan.lists _ c.need_of-need.ensures c.as_slice-2.ensures c.in-Some.ensures) c.lost.result c.lost.ensures.end c.lost.ensures.calm

pub returns-in-Some-clause-counted : goal.returns-in-Some-clause-counted
returns-in-Some-clause-counted g c =
    let claimed = c.claim_all.ensures in (
      first_counted g.S.Shelf c.args.key.now c.args.hand c.args.table c.requires.ready c.args.shelf.now c.claim_all.new.shelf c.claim_all.new.seats claimed.left claimed.moments claimed.end claimed.passed claimed.kept
          c.in-Some.share (as_needed c.args.key.now _ c.claim_all.new.seats _ c.args.table.plan.lists _ c.need_of-need.ensures c.as_slice-2.ensures c.in-Some.ensures) c.lost.result c.lost.ensures.end c.lost.ensures.calm,
      claimed.kept,
    )

pub spell-text-requires-clause-short : goal.spell-text-requires-clause-short
spell-text-requires-clause-short g c = room_short c.args.hand c.args.table c.requires.ready (length c.deref_mut.result.now) (c.deref_mut.ensures.len ∙ c.requires.ready.whole)

pub slot_all-requires-clause-laid : goal.slot_all-requires-clause-laid
slot_all-requires-clause-laid g c =
    claimed_laid c.args.hand c.args.table c.requires.ready (DriveFailures g.S.Shelf c.args.shelf.now c.claim_all.new.shelf) c.claim_all.new.seats c.claim_all.ensures.left (g.S.Shelf.sizes c.args.shelf.now) (g.S.Shelf.sizes c.claim_all.new.shelf)
    c.claim_all.ensures.kept.keeps.same_sizes c.requires.laid

pub slot_all-requires-clause-room : goal.slot_all-requires-clause-room
slot_all-requires-clause-room g c =
    claimed_room c.args.hand c.args.table c.requires.ready (DriveFailures g.S.Shelf c.args.shelf.now c.claim_all.new.shelf) c.claim_all.new.seats c.claim_all.ensures.left c.spell-text.result.bytes c.spell-text.result.body.now c.spell-text.ensures.spelled

pub returns-in-Some-short-clause-answer : goal.returns-in-Some-short-clause-answer
returns-in-Some-short-clause-answer g c =
    let claimed = c.claim_all.ensures in
    let slotted = c.slot_all.ensures in
    lost_answer g.S.Shelf c.args.key.now c.args.hand c.args.table c.requires.ready c.args.shelf.now c.claim_all.new.shelf c.claim_all.new.seats claimed.left claimed.moments claimed.end claimed.passed claimed.kept
    (as_needed c.args.key.now _ c.claim_all.new.seats _ c.args.table.plan.lists _ c.need_of-need.ensures c.as_slice-2.ensures c.short.ensures ∙ c.in_default.is) c.spell-text.result.bytes c.spell-text.result.body.now c.spell-text.ensures.spelled c.slot_all.new.shelf c.slot_all.new.seats slotted.left
    slotted.moments slotted.end slotted.passed slotted.kept
    c.in-Some-short.share (as_needed c.args.key.now _ c.slot_all.new.seats _ c.args.table.plan.lists _ c.need_of-need.ensures c.as_slice-3.ensures c.in-Some-short.ensures) c.lost-in-Some-short.result c.lost-in-Some-short.ensures.end
    c.lost-in-Some-short.ensures.calm

pub returns-in-Some-short-clause-moments : goal.returns-in-Some-short-clause-moments
returns-in-Some-short-clause-moments g c =
    let claimed = c.claim_all.ensures in
    let slotted = c.slot_all.ensures in
    second_moments g.S.Shelf c.args.key.now c.args.hand c.args.table c.requires.ready c.args.shelf.now c.claim_all.new.shelf c.claim_all.new.seats claimed.left claimed.moments claimed.end claimed.passed claimed.kept
    (as_needed c.args.key.now _ c.claim_all.new.seats _ c.args.table.plan.lists _ c.need_of-need.ensures c.as_slice-2.ensures c.short.ensures ∙ c.in_default.is) c.spell-text.result.bytes c.spell-text.result.body.now c.spell-text.ensures.spelled c.slot_all.new.shelf c.slot_all.new.seats slotted.left
    slotted.moments slotted.end slotted.passed slotted.kept

pub returns-in-Some-short-clause-synced : goal.returns-in-Some-short-clause-synced
returns-in-Some-short-clause-synced g c =
    let claimed = c.claim_all.ensures in
    let slotted = c.slot_all.ensures in
    second_synced g.S.Shelf c.args.key.now c.args.hand c.args.table c.requires.ready c.args.shelf.now c.claim_all.new.shelf c.claim_all.new.seats claimed.left claimed.moments claimed.end claimed.passed claimed.kept
    (as_needed c.args.key.now _ c.claim_all.new.seats _ c.args.table.plan.lists _ c.need_of-need.ensures c.as_slice-2.ensures c.short.ensures ∙ c.in_default.is) c.spell-text.result.bytes c.spell-text.result.body.now c.spell-text.ensures.spelled c.slot_all.new.shelf c.slot_all.new.seats slotted.left
    slotted.moments slotted.end slotted.passed slotted.kept

pub returns-in-Some-short-clause-counted : goal.returns-in-Some-short-clause-counted
returns-in-Some-short-clause-counted g c =
    let claimed = c.claim_all.ensures in
    let slotted = c.slot_all.ensures in (
      lost_counted g.S.Shelf c.args.key.now c.args.hand c.args.table c.requires.ready c.args.shelf.now c.claim_all.new.shelf c.claim_all.new.seats claimed.left claimed.moments claimed.end claimed.passed claimed.kept
          (as_needed c.args.key.now _ c.claim_all.new.seats _ c.args.table.plan.lists _ c.need_of-need.ensures c.as_slice-2.ensures c.short.ensures ∙ c.in_default.is) c.spell-text.result.bytes c.spell-text.result.body.now c.spell-text.ensures.spelled c.slot_all.new.shelf c.slot_all.new.seats slotted.left
          slotted.moments slotted.end slotted.passed slotted.kept
          c.in-Some-short.share (as_needed c.args.key.now _ c.slot_all.new.seats _ c.args.table.plan.lists _ c.need_of-need.ensures c.as_slice-3.ensures c.in-Some-short.ensures) c.lost-in-Some-short.result c.lost-in-Some-short.ensures.end
          c.lost-in-Some-short.ensures.calm,
      both_kept g.S.Shelf c.args.key.now c.args.hand c.args.table c.requires.ready c.args.shelf.now c.claim_all.new.shelf c.claim_all.new.seats claimed.left claimed.moments claimed.end claimed.passed claimed.kept
          (as_needed c.args.key.now _ c.claim_all.new.seats _ c.args.table.plan.lists _ c.need_of-need.ensures c.as_slice-2.ensures c.short.ensures ∙ c.in_default.is) c.spell-text.result.bytes c.spell-text.result.body.now c.spell-text.ensures.spelled c.slot_all.new.shelf c.slot_all.new.seats slotted.left
          slotted.moments slotted.end slotted.passed slotted.kept,
    )

pub opened-requires : goal.opened-requires
opened-requires g c =
    let claimed = c.claim_all.ensures in
    let slotted = c.slot_all.ensures in
    let w = twice g.S.Shelf c.args.key.now c.args.hand c.args.table c.requires.ready c.args.shelf.now c.claim_all.new.shelf c.claim_all.new.seats claimed.left claimed.moments claimed.end claimed.passed claimed.kept
    (as_needed c.args.key.now _ c.claim_all.new.seats _ c.args.table.plan.lists _ c.need_of-need.ensures c.as_slice-2.ensures c.short.ensures ∙ c.in_default.is) c.spell-text.result.bytes c.spell-text.result.body.now c.spell-text.ensures.spelled c.slot_all.new.shelf c.slot_all.new.seats slotted.left
    slotted.moments slotted.end slotted.passed slotted.kept
    (as_needed c.args.key.now _ c.slot_all.new.seats _ c.args.table.plan.lists _ c.need_of-need.ensures c.as_slice-3.ensures c.short-2.ensures ∙ c.in_default-short.is) in
    let calm = ap (λ (n : ℕ). nat_eq n c.active-readable.result) (c.active.ensures ∙ ap active_of c.as_slice-4.ensures) ∙ ap (λ (n : ℕ). nat_eq (active_of c.slot_all.new.seats) n) (c.active-readable.ensures ∙ ap active_of c.as_slice.ensures) in
    record { «open» = anew_open g.S.Shelf c.args.key.now c.args.hand c.args.table c.requires.ready c.args.shelf.now c.slot_all.new.shelf c.slot_all.new.seats w _ c.requires.ready.whole }

pub settle-requires-clause-laid : goal.settle-requires-clause-laid
settle-requires-clause-laid g c =
    let claimed = c.claim_all.ensures in
    let slotted = c.slot_all.ensures in
    let w = twice g.S.Shelf c.args.key.now c.args.hand c.args.table c.requires.ready c.args.shelf.now c.claim_all.new.shelf c.claim_all.new.seats claimed.left claimed.moments claimed.end claimed.passed claimed.kept
    (as_needed c.args.key.now _ c.claim_all.new.seats _ c.args.table.plan.lists _ c.need_of-need.ensures c.as_slice-2.ensures c.short.ensures ∙ c.in_default.is) c.spell-text.result.bytes c.spell-text.result.body.now c.spell-text.ensures.spelled c.slot_all.new.shelf c.slot_all.new.seats slotted.left
    slotted.moments slotted.end slotted.passed slotted.kept
    (as_needed c.args.key.now _ c.slot_all.new.seats _ c.args.table.plan.lists _ c.need_of-need.ensures c.as_slice-3.ensures c.short-2.ensures ∙ c.in_default-short.is) in
    let calm = ap (λ (n : ℕ). nat_eq n c.active-readable.result) (c.active.ensures ∙ ap active_of c.as_slice-4.ensures) ∙ ap (λ (n : ℕ). nat_eq (active_of c.slot_all.new.seats) n) (c.active-readable.ensures ∙ ap active_of c.as_slice.ensures) in
    anew_laid g.S.Shelf c.args.key.now c.args.hand c.args.table c.requires.ready c.args.shelf.now c.slot_all.new.shelf c.slot_all.new.seats w (g.S.Shelf.sizes c.args.shelf.now) (g.S.Shelf.sizes c.slot_all.new.shelf) w.kept.keeps.same_sizes c.requires.laid

pub settle-requires-clause-draft : goal.settle-requires-clause-draft
settle-requires-clause-draft g c =
    let claimed = c.claim_all.ensures in
    let slotted = c.slot_all.ensures in
    let w = twice g.S.Shelf c.args.key.now c.args.hand c.args.table c.requires.ready c.args.shelf.now c.claim_all.new.shelf c.claim_all.new.seats claimed.left claimed.moments claimed.end claimed.passed claimed.kept
    (as_needed c.args.key.now _ c.claim_all.new.seats _ c.args.table.plan.lists _ c.need_of-need.ensures c.as_slice-2.ensures c.short.ensures ∙ c.in_default.is) c.spell-text.result.bytes c.spell-text.result.body.now c.spell-text.ensures.spelled c.slot_all.new.shelf c.slot_all.new.seats slotted.left
    slotted.moments slotted.end slotted.passed slotted.kept
    (as_needed c.args.key.now _ c.slot_all.new.seats _ c.args.table.plan.lists _ c.need_of-need.ensures c.as_slice-3.ensures c.short-2.ensures ∙ c.in_default-short.is) in
    let calm = ap (λ (n : ℕ). nat_eq n c.active-readable.result) (c.active.ensures ∙ ap active_of c.as_slice-4.ensures) ∙ ap (λ (n : ℕ). nat_eq (active_of c.slot_all.new.seats) n) (c.active-readable.ensures ∙ ap active_of c.as_slice.ensures) in
    two_draft g.S.Shelf c.args.key.now c.args.hand c.args.table c.requires.ready c.args.shelf.now c.slot_all.new.shelf c.slot_all.new.seats w c.in-Two.field-0 c.in-Two.field-1 c.in-Two.is _ c.requires.ready.whole

pub returns-in-One-clause-answer : goal.returns-in-One-clause-answer
returns-in-One-clause-answer g c =
    let claimed = c.claim_all.ensures in
    let slotted = c.slot_all.ensures in
    let w = twice g.S.Shelf c.args.key.now c.args.hand c.args.table c.requires.ready c.args.shelf.now c.claim_all.new.shelf c.claim_all.new.seats claimed.left claimed.moments claimed.end claimed.passed claimed.kept
    (as_needed c.args.key.now _ c.claim_all.new.seats _ c.args.table.plan.lists _ c.need_of-need.ensures c.as_slice-2.ensures c.short.ensures ∙ c.in_default.is) c.spell-text.result.bytes c.spell-text.result.body.now c.spell-text.ensures.spelled c.slot_all.new.shelf c.slot_all.new.seats slotted.left
    slotted.moments slotted.end slotted.passed slotted.kept
    (as_needed c.args.key.now _ c.slot_all.new.seats _ c.args.table.plan.lists _ c.need_of-need.ensures c.as_slice-3.ensures c.short-2.ensures ∙ c.in_default-short.is) in
    let calm = ap (λ (n : ℕ). nat_eq n c.active-readable.result) (c.active.ensures ∙ ap active_of c.as_slice-4.ensures) ∙ ap (λ (n : ℕ). nat_eq (active_of c.slot_all.new.seats) n) (c.active-readable.ensures ∙ ap active_of c.as_slice.ensures) in
    one_answer g.S.Shelf c.args.key.now c.args.hand c.args.table c.requires.ready c.args.shelf.now c.slot_all.new.shelf c.slot_all.new.seats w _ c.in-One.is _ calm c.opened.result c.opened.ensures

pub returns-in-One-clause-moments : goal.returns-in-One-clause-moments
returns-in-One-clause-moments g c =
    let claimed = c.claim_all.ensures in
    let slotted = c.slot_all.ensures in
    let w = twice g.S.Shelf c.args.key.now c.args.hand c.args.table c.requires.ready c.args.shelf.now c.claim_all.new.shelf c.claim_all.new.seats claimed.left claimed.moments claimed.end claimed.passed claimed.kept
    (as_needed c.args.key.now _ c.claim_all.new.seats _ c.args.table.plan.lists _ c.need_of-need.ensures c.as_slice-2.ensures c.short.ensures ∙ c.in_default.is) c.spell-text.result.bytes c.spell-text.result.body.now c.spell-text.ensures.spelled c.slot_all.new.shelf c.slot_all.new.seats slotted.left
    slotted.moments slotted.end slotted.passed slotted.kept
    (as_needed c.args.key.now _ c.slot_all.new.seats _ c.args.table.plan.lists _ c.need_of-need.ensures c.as_slice-3.ensures c.short-2.ensures ∙ c.in_default-short.is) in
    let calm = ap (λ (n : ℕ). nat_eq n c.active-readable.result) (c.active.ensures ∙ ap active_of c.as_slice-4.ensures) ∙ ap (λ (n : ℕ). nat_eq (active_of c.slot_all.new.seats) n) (c.active-readable.ensures ∙ ap active_of c.as_slice.ensures) in
    w.moments

pub returns-in-One-clause-end : goal.returns-in-One-clause-end
returns-in-One-clause-end g c =
    let claimed = c.claim_all.ensures in
    let slotted = c.slot_all.ensures in
    let w = twice g.S.Shelf c.args.key.now c.args.hand c.args.table c.requires.ready c.args.shelf.now c.claim_all.new.shelf c.claim_all.new.seats claimed.left claimed.moments claimed.end claimed.passed claimed.kept
    (as_needed c.args.key.now _ c.claim_all.new.seats _ c.args.table.plan.lists _ c.need_of-need.ensures c.as_slice-2.ensures c.short.ensures ∙ c.in_default.is) c.spell-text.result.bytes c.spell-text.result.body.now c.spell-text.ensures.spelled c.slot_all.new.shelf c.slot_all.new.seats slotted.left
    slotted.moments slotted.end slotted.passed slotted.kept
    (as_needed c.args.key.now _ c.slot_all.new.seats _ c.args.table.plan.lists _ c.need_of-need.ensures c.as_slice-3.ensures c.short-2.ensures ∙ c.in_default-short.is) in
    let calm = ap (λ (n : ℕ). nat_eq n c.active-readable.result) (c.active.ensures ∙ ap active_of c.as_slice-4.ensures) ∙ ap (λ (n : ℕ). nat_eq (active_of c.slot_all.new.seats) n) (c.active-readable.ensures ∙ ap active_of c.as_slice.ensures) in
    one_end g.S.Shelf c.args.key.now c.args.hand c.args.table c.requires.ready c.args.shelf.now c.slot_all.new.shelf c.slot_all.new.seats w _ c.in-One.is _ calm c.opened.result c.opened.ensures

pub returns-in-One-clause-synced : goal.returns-in-One-clause-synced
returns-in-One-clause-synced g c =
    let claimed = c.claim_all.ensures in
    let slotted = c.slot_all.ensures in
    let w = twice g.S.Shelf c.args.key.now c.args.hand c.args.table c.requires.ready c.args.shelf.now c.claim_all.new.shelf c.claim_all.new.seats claimed.left claimed.moments claimed.end claimed.passed claimed.kept
    (as_needed c.args.key.now _ c.claim_all.new.seats _ c.args.table.plan.lists _ c.need_of-need.ensures c.as_slice-2.ensures c.short.ensures ∙ c.in_default.is) c.spell-text.result.bytes c.spell-text.result.body.now c.spell-text.ensures.spelled c.slot_all.new.shelf c.slot_all.new.seats slotted.left
    slotted.moments slotted.end slotted.passed slotted.kept
    (as_needed c.args.key.now _ c.slot_all.new.seats _ c.args.table.plan.lists _ c.need_of-need.ensures c.as_slice-3.ensures c.short-2.ensures ∙ c.in_default-short.is) in
    let calm = ap (λ (n : ℕ). nat_eq n c.active-readable.result) (c.active.ensures ∙ ap active_of c.as_slice-4.ensures) ∙ ap (λ (n : ℕ). nat_eq (active_of c.slot_all.new.seats) n) (c.active-readable.ensures ∙ ap active_of c.as_slice.ensures) in
    w.synced

pub returns-in-One-clause-counted : goal.returns-in-One-clause-counted
returns-in-One-clause-counted g c =
    let claimed = c.claim_all.ensures in
    let slotted = c.slot_all.ensures in
    let w = twice g.S.Shelf c.args.key.now c.args.hand c.args.table c.requires.ready c.args.shelf.now c.claim_all.new.shelf c.claim_all.new.seats claimed.left claimed.moments claimed.end claimed.passed claimed.kept
    (as_needed c.args.key.now _ c.claim_all.new.seats _ c.args.table.plan.lists _ c.need_of-need.ensures c.as_slice-2.ensures c.short.ensures ∙ c.in_default.is) c.spell-text.result.bytes c.spell-text.result.body.now c.spell-text.ensures.spelled c.slot_all.new.shelf c.slot_all.new.seats slotted.left
    slotted.moments slotted.end slotted.passed slotted.kept
    (as_needed c.args.key.now _ c.slot_all.new.seats _ c.args.table.plan.lists _ c.need_of-need.ensures c.as_slice-3.ensures c.short-2.ensures ∙ c.in_default-short.is) in
    let calm = ap (λ (n : ℕ). nat_eq n c.active-readable.result) (c.active.ensures ∙ ap active_of c.as_slice-4.ensures) ∙ ap (λ (n : ℕ). nat_eq (active_of c.slot_all.new.seats) n) (c.active-readable.ensures ∙ ap active_of c.as_slice.ensures) in
    (one_counted g.S.Shelf c.args.key.now c.args.hand c.args.table c.requires.ready c.args.shelf.now c.slot_all.new.shelf c.slot_all.new.seats w _ c.in-One.is _ calm c.opened.result c.opened.ensures, w.kept)

pub returns-in-Two-clause-answer : goal.returns-in-Two-clause-answer
returns-in-Two-clause-answer g c =
    let claimed = c.claim_all.ensures in
    let slotted = c.slot_all.ensures in
    let w = twice g.S.Shelf c.args.key.now c.args.hand c.args.table c.requires.ready c.args.shelf.now c.claim_all.new.shelf c.claim_all.new.seats claimed.left claimed.moments claimed.end claimed.passed claimed.kept
    (as_needed c.args.key.now _ c.claim_all.new.seats _ c.args.table.plan.lists _ c.need_of-need.ensures c.as_slice-2.ensures c.short.ensures ∙ c.in_default.is) c.spell-text.result.bytes c.spell-text.result.body.now c.spell-text.ensures.spelled c.slot_all.new.shelf c.slot_all.new.seats slotted.left
    slotted.moments slotted.end slotted.passed slotted.kept
    (as_needed c.args.key.now _ c.slot_all.new.seats _ c.args.table.plan.lists _ c.need_of-need.ensures c.as_slice-3.ensures c.short-2.ensures ∙ c.in_default-short.is) in
    let calm = ap (λ (n : ℕ). nat_eq n c.active-readable.result) (c.active.ensures ∙ ap active_of c.as_slice-4.ensures) ∙ ap (λ (n : ℕ). nat_eq (active_of c.slot_all.new.seats) n) (c.active-readable.ensures ∙ ap active_of c.as_slice.ensures) in
    two_answer g.S.Shelf c.args.key.now c.args.hand c.args.table c.requires.ready c.args.shelf.now c.slot_all.new.shelf c.slot_all.new.seats w _ _ c.in-Two.is c.settle.new.shelf c.settle.ensures.now c.settle.ensures.wrote _ calm c.settle.result (subst (λ (n : Need). CameOfSettling n (record { key = c.args.key.now; identity = c.args.hand.identity; mark = drawn c.args.hand.number; table = c.args.table; seats = c.slot_all.new.seats; room = c.args.hand.room }) c.settle.ensures.now (nat_eq c.active.result c.active-readable.result) c.settle.result) c.need_of-need.ensures c.settle.ensures.came)

pub returns-in-Two-clause-moments : goal.returns-in-Two-clause-moments
returns-in-Two-clause-moments g c =
    let claimed = c.claim_all.ensures in
    let slotted = c.slot_all.ensures in
    let w = twice g.S.Shelf c.args.key.now c.args.hand c.args.table c.requires.ready c.args.shelf.now c.claim_all.new.shelf c.claim_all.new.seats claimed.left claimed.moments claimed.end claimed.passed claimed.kept
    (as_needed c.args.key.now _ c.claim_all.new.seats _ c.args.table.plan.lists _ c.need_of-need.ensures c.as_slice-2.ensures c.short.ensures ∙ c.in_default.is) c.spell-text.result.bytes c.spell-text.result.body.now c.spell-text.ensures.spelled c.slot_all.new.shelf c.slot_all.new.seats slotted.left
    slotted.moments slotted.end slotted.passed slotted.kept
    (as_needed c.args.key.now _ c.slot_all.new.seats _ c.args.table.plan.lists _ c.need_of-need.ensures c.as_slice-3.ensures c.short-2.ensures ∙ c.in_default-short.is) in
    let calm = ap (λ (n : ℕ). nat_eq n c.active-readable.result) (c.active.ensures ∙ ap active_of c.as_slice-4.ensures) ∙ ap (λ (n : ℕ). nat_eq (active_of c.slot_all.new.seats) n) (c.active-readable.ensures ∙ ap active_of c.as_slice.ensures) in
    two_moments g.S.Shelf c.args.key.now c.args.hand c.args.table c.requires.ready c.args.shelf.now c.slot_all.new.shelf c.slot_all.new.seats w _ _ c.in-Two.is c.settle.new.shelf c.settle.ensures.now c.settle.ensures.wrote

pub returns-in-Two-clause-end : goal.returns-in-Two-clause-end
returns-in-Two-clause-end g c =
    let claimed = c.claim_all.ensures in
    let slotted = c.slot_all.ensures in
    let w = twice g.S.Shelf c.args.key.now c.args.hand c.args.table c.requires.ready c.args.shelf.now c.claim_all.new.shelf c.claim_all.new.seats claimed.left claimed.moments claimed.end claimed.passed claimed.kept
    (as_needed c.args.key.now _ c.claim_all.new.seats _ c.args.table.plan.lists _ c.need_of-need.ensures c.as_slice-2.ensures c.short.ensures ∙ c.in_default.is) c.spell-text.result.bytes c.spell-text.result.body.now c.spell-text.ensures.spelled c.slot_all.new.shelf c.slot_all.new.seats slotted.left
    slotted.moments slotted.end slotted.passed slotted.kept
    (as_needed c.args.key.now _ c.slot_all.new.seats _ c.args.table.plan.lists _ c.need_of-need.ensures c.as_slice-3.ensures c.short-2.ensures ∙ c.in_default-short.is) in
    let calm = ap (λ (n : ℕ). nat_eq n c.active-readable.result) (c.active.ensures ∙ ap active_of c.as_slice-4.ensures) ∙ ap (λ (n : ℕ). nat_eq (active_of c.slot_all.new.seats) n) (c.active-readable.ensures ∙ ap active_of c.as_slice.ensures) in
    two_end g.S.Shelf c.args.key.now c.args.hand c.args.table c.requires.ready c.args.shelf.now c.slot_all.new.shelf c.slot_all.new.seats w _ _ c.in-Two.is c.settle.new.shelf c.settle.ensures.now c.settle.ensures.wrote _ calm c.settle.result (subst (λ (n : Need). CameOfSettling n (record { key = c.args.key.now; identity = c.args.hand.identity; mark = drawn c.args.hand.number; table = c.args.table; seats = c.slot_all.new.seats; room = c.args.hand.room }) c.settle.ensures.now (nat_eq c.active.result c.active-readable.result) c.settle.result) c.need_of-need.ensures c.settle.ensures.came)

pub returns-in-Two-clause-synced : goal.returns-in-Two-clause-synced
returns-in-Two-clause-synced g c =
    let claimed = c.claim_all.ensures in
    let slotted = c.slot_all.ensures in
    let w = twice g.S.Shelf c.args.key.now c.args.hand c.args.table c.requires.ready c.args.shelf.now c.claim_all.new.shelf c.claim_all.new.seats claimed.left claimed.moments claimed.end claimed.passed claimed.kept
    (as_needed c.args.key.now _ c.claim_all.new.seats _ c.args.table.plan.lists _ c.need_of-need.ensures c.as_slice-2.ensures c.short.ensures ∙ c.in_default.is) c.spell-text.result.bytes c.spell-text.result.body.now c.spell-text.ensures.spelled c.slot_all.new.shelf c.slot_all.new.seats slotted.left
    slotted.moments slotted.end slotted.passed slotted.kept
    (as_needed c.args.key.now _ c.slot_all.new.seats _ c.args.table.plan.lists _ c.need_of-need.ensures c.as_slice-3.ensures c.short-2.ensures ∙ c.in_default-short.is) in
    let calm = ap (λ (n : ℕ). nat_eq n c.active-readable.result) (c.active.ensures ∙ ap active_of c.as_slice-4.ensures) ∙ ap (λ (n : ℕ). nat_eq (active_of c.slot_all.new.seats) n) (c.active-readable.ensures ∙ ap active_of c.as_slice.ensures) in
    two_synced g.S.Shelf c.args.key.now c.args.hand c.args.table c.requires.ready c.args.shelf.now c.slot_all.new.shelf c.slot_all.new.seats w _ _ c.in-Two.is c.settle.new.shelf c.settle.ensures.now c.settle.ensures.wrote

pub returns-in-Two-clause-counted : goal.returns-in-Two-clause-counted
returns-in-Two-clause-counted g c =
    let claimed = c.claim_all.ensures in
    let slotted = c.slot_all.ensures in
    let w = twice g.S.Shelf c.args.key.now c.args.hand c.args.table c.requires.ready c.args.shelf.now c.claim_all.new.shelf c.claim_all.new.seats claimed.left claimed.moments claimed.end claimed.passed claimed.kept
    (as_needed c.args.key.now _ c.claim_all.new.seats _ c.args.table.plan.lists _ c.need_of-need.ensures c.as_slice-2.ensures c.short.ensures ∙ c.in_default.is) c.spell-text.result.bytes c.spell-text.result.body.now c.spell-text.ensures.spelled c.slot_all.new.shelf c.slot_all.new.seats slotted.left
    slotted.moments slotted.end slotted.passed slotted.kept
    (as_needed c.args.key.now _ c.slot_all.new.seats _ c.args.table.plan.lists _ c.need_of-need.ensures c.as_slice-3.ensures c.short-2.ensures ∙ c.in_default-short.is) in
    let calm = ap (λ (n : ℕ). nat_eq n c.active-readable.result) (c.active.ensures ∙ ap active_of c.as_slice-4.ensures) ∙ ap (λ (n : ℕ). nat_eq (active_of c.slot_all.new.seats) n) (c.active-readable.ensures ∙ ap active_of c.as_slice.ensures) in
    (two_counted g.S.Shelf c.args.key.now c.args.hand c.args.table c.requires.ready c.args.shelf.now c.slot_all.new.shelf c.slot_all.new.seats w _ _ c.in-Two.is c.settle.new.shelf c.settle.ensures.now c.settle.ensures.wrote _ calm c.settle.result (subst (λ (n : Need). CameOfSettling n (record { key = c.args.key.now; identity = c.args.hand.identity; mark = drawn c.args.hand.number; table = c.args.table; seats = c.slot_all.new.seats; room = c.args.hand.room }) c.settle.ensures.now (nat_eq c.active.result c.active-readable.result) c.settle.result) c.need_of-need.ensures c.settle.ensures.came), two_kept g.S.Shelf c.args.key.now c.args.hand c.args.table c.requires.ready c.args.shelf.now c.slot_all.new.shelf c.slot_all.new.seats w _ _ c.in-Two.is c.settle.new.shelf c.settle.ensures.now c.settle.ensures.wrote)
