use Rattle.std.proofs.Common.{List, sym, ◌∙◌, ap}
use Rattle.std.specs.List.{list_any}
use Rattle.mdv_change.specs.Below.{VolumeStatus}
use Rattle.mdv_change.specs.Seats.{is_left_by}
use Rattle.mdv_change.proofs.Lying.{left_is, none_left}
use Rattle.mdv_change.proofs.seats.has_left_on.Goals as goal

pub returns-then-is_empty : goal.returns-then-is_empty
returns-then-is_empty c = sym (none_left c.args.volumes.now c.args.lost.now c.args.status.now.volumes (sym c.is_empty.ensures ∙ c.if-is_empty.true))

pub returns : goal.returns
returns c =
    let states = c.args.status.now.volumes in
    let named = c.in_ok-named.named in
    let spares = c.in_ok-spares.spares in
    c.has_left_by.ensures
    ∙ ap (λ (ss : List VolumeStatus). list_any (is_left_by named spares) ss) c.as_slice-states.ensures.value
    ∙ left_is c.args.volumes.now c.args.lost.now named spares states c.as_slice-states.ensures.keys c.in_ok-named.ensures c.in_ok-spares.ensures
