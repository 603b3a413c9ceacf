use Rattle.std.proofs.Common.{rules}
use Rattle.std.proofs.lemmas.Fn.{filter_same}
use Rattle.mdv_store.proofs.listing.keep_listed.Goals as goal

pub returns : goal.returns
returns c = filter_same _ _ _ (λ x b q called. search rules) _ _ c.retain.ensures
