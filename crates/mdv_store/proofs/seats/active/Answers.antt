use Rattle.std.proofs.Common.{◌≡◌, ◌∙◌, count_by, is_some, rules}
use Rattle.mdv_store.specs.declared.seats.Seat.{Seat}
use Rattle.mdv_store.proofs.Rows.{count_found}
use Rattle.mdv_store.proofs.seats.active.Goals as goal

pub returns : goal.returns
returns c =
    let counted : c.count.result ≡ count_by (λ (s : Seat). is_some s.replica) c.args.seats.now = search rules in
    counted ∙ count_found (λ (s : Seat). s.replica) c.args.seats.now
