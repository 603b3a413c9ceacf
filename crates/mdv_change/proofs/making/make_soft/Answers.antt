use Rattle.std.proofs.Common.{refl, sym, ◌∙◌, ap}
use Rattle.std.specs.Option.{option_map}
use Rattle.mdv_softs.specs.declared.room.Room.{Room}
use Rattle.mdv_change.specs.Below.{carried_of, first_of, order, soft_condition, told}
use Rattle.mdv_change.proofs.making.make_soft.Goals as goal

pub returns-in-Some-2 : goal.returns-in-Some-2
returns-in-Some-2 c =
    let cause = first_of (soft_condition c.args.geometry.now c.args.drives.now c.args.table.now c.args.volume c.args.soft.now) order in
    let room = ap (λ (r : Room). option_map (told (carried_of r)) cause) (sym c.in_ok-room.ensures) in
    record { cause = room ∙ sym c.in_ok-refusal.ensures ∙ c.in-Some-2.is; same = refl }
