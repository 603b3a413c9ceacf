use Rattle.std.proofs.lemmas.List.Sorted.{IsPermutation-map}
use Rattle.mdv_tab.proofs.queue.Queue.push.Goals as goal

pub returns : goal.returns
returns c = rw (← c.self.view_is) (IsPermutation-map (λ x. x.0) _ _ c.in_ok-push.ensures.permutation)
