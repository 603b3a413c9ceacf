use Rattle.std.proofs.Common.{◌∙◌, List, ap}
use Rattle.mdv_store.specs.Opened.{shortage}
use Rattle.mdv_store.specs.Shares.{short_of}
use Rattle.mdv_store.specs.declared.seats.Need.TheVariants.{Half}
use Rattle.mdv_store.specs.declared.seats.Seat.{Seat}
use Rattle.mdv_store.proofs.store.Store.shortage.Goals as goal

pub returns : goal.returns
returns c = c.short.ensures ∙ ap (λ (l : List Seat). short_of Half l c.self.inside.table.plan.lists) c.as_slice.ensures ∙ ap shortage c.self.view_is
