use Rattle.std.proofs.lemmas.List.Sorted.{IsPermutation-map}
use Rattle.mdv_tab.proofs.Queues.{least_of}
use Rattle.mdv_tab.proofs.queue.Queue.pop.Goals as goal

pub returns-in-Some-clause-taken : goal.returns-in-Some-clause-taken
returns-in-Some-clause-taken c = rw (← c.self.view_is) (IsPermutation-map (λ x. x.0) _ _ c.in-Some.ensures.permutation)

pub returns-in-Some-clause-least : goal.returns-in-Some-clause-least
returns-in-Some-clause-least c = least_of (λ x. x.0) c.in-Some.field-0 _ (c.in-Some.ensures.below_top c.self.invariant)
