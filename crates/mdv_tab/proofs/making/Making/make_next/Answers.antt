use Rattle.std.proofs.Common.{ℕ, Bool, List, Option, Some, None, sym, subst}
use Rattle.mdv_tab.specs.Order.{IsNext}
use Rattle.mdv_tab.specs.Making.{count_of, NeedsIn, IsTaken, IsRest, IsQueuedBut}
use Rattle.mdv_tab.proofs.Makings.{next_free, next_first, queued_but}
use Rattle.mdv_tab.proofs.making.Making.make_next.Goals as goal
use Rattle.mdv_tab.proofs.making.Making.make_next.Goals.{in-Some, in-None}

pub make-requires-clause-next : goal.make-requires-clause-next
make-requires-clause-next c =
    let g = c.args.graph.now in
    let made = c.args.self.now.made.items in
    let order = c.args.self.now.order.items in
    let To : ℕ → Type 0 = λ x. IsNext (NeedsIn g) (count_of g) order x in
    let Taken : Option ℕ → List Bool → Type 0 = λ r l. IsTaken g l r in
    elim c.match-take_free.branch [
      | in-Some w ↦ let x = w.in-Some.place in subst To (sym w.place-is) (next_free g made order c.requires.far.order x (subst (Taken (Some x)) c.as_slice.ensures.value w.in-Some.ensures.taken))
      | in-None w ↦ subst To (sym w.place-is) (next_first g made order c.requires.far.order c.args.first (subst (Taken None) c.as_slice.ensures.value w.in-None.ensures.taken) c.requires.left c.requires.before)
    ]

pub make-requires-clause-queued : goal.make-requires-clause-queued
make-requires-clause-queued c =
    let g = c.args.graph.now in
    let made = c.args.self.now.made.items in
    let queue = c.take_free.new.queue in
    let To : ℕ → Type 0 = λ x. IsQueuedBut g made queue x in
    let Rest : Option ℕ → List Bool → Type 0 = λ r l. IsRest g l queue r in
    elim c.match-take_free.branch [
      | in-Some w ↦ let x = w.in-Some.place in subst To (sym w.place-is) (subst (Rest (Some x)) c.as_slice.ensures.value w.in-Some.ensures.rest)
      | in-None w ↦ subst To (sym w.place-is) (queued_but g made queue c.args.first (subst (Rest None) c.as_slice.ensures.value w.in-None.ensures.rest))
    ]
