use Rattle.std.proofs.Common.{map, sym, ◌∙◌, ap, subst}
use Rattle.std.specs.List.{IsDistinct, flat_map}
use Rattle.std.specs.Prelude.{nat_eq}
use Rattle.mdv_shape.specs.Seats.{spare_key, spares_in}
use Rattle.mdv_shape.proofs.Firsts.{first_told, seats_told}
use Rattle.mdv_shape.proofs.seats.are_seated.Goals as goal

pub returns-then-not-are_as_seats : goal.returns-then-not-are_as_seats
returns-then-not-are_as_seats c =
    let all = c.in_ok-spares.ensures ∙ ap (flat_map spares_in) c.as_slice.ensures.value in
    let told = first_told c.args.table.now.plan c.in_ok-seats.seats c.in_ok-spares.spares.items c.as_slice-2.result.now c.as_slice-3.result.now c.are_as_seats.result all c.in_ok-seats.ensures c.as_slice-2.ensures.value c.as_slice-3.ensures.value c.are_as_seats.ensures in
    (λ never. cc (never), λ is. let never = sym is.0 ∙ sym told ∙ c.if-not-are_as_seats.true in cc (never))

pub returns-then-not-are_seats : goal.returns-then-not-are_seats
returns-then-not-are_seats c =
    let all = c.in_ok-spares.ensures ∙ ap (flat_map spares_in) c.as_slice.ensures.value in
    let told = seats_told c.args.table.now c.in_ok-seats.seats c.in_ok-spares.spares.items c.as_slice-2.result.now c.in_ok-taken.taken.items c.as_slice-4.result.now c.are_seats.result all c.in_ok-seats.ensures c.as_slice-2.ensures.value c.in_ok-taken.ensures c.as_slice-4.ensures.value c.are_seats.ensures in
    (λ never. cc (never), λ is. let never = sym is.1.each ∙ sym told ∙ c.if-not-are_seats.true in cc (never))

pub returns : goal.returns
returns c =
    let all = c.in_ok-spares.ensures ∙ ap (flat_map spares_in) c.as_slice.ensures.value in
    let firsts = first_told c.args.table.now.plan c.in_ok-seats.seats c.in_ok-spares.spares.items c.as_slice-2.result.now c.as_slice-3.result.now c.are_as_seats.result all c.in_ok-seats.ensures c.as_slice-2.ensures.value c.as_slice-3.ensures.value c.are_as_seats.ensures in
    let seats = seats_told c.args.table.now c.in_ok-seats.seats c.in_ok-spares.spares.items c.as_slice-2.result.now c.in_ok-taken.taken.items c.as_slice-4.result.now c.are_seats.result all c.in_ok-seats.ensures c.as_slice-2.ensures.value c.in_ok-taken.ensures c.as_slice-4.ensures.value c.are_seats.ensures in
    let keys = c.as_slice-6.ensures.value ∙ c.in_ok-keys.ensures ∙ ap (map spare_key) (c.as_slice-5.ensures.value ∙ c.in_ok-taken.ensures) in (
      λ some. (sym firsts ∙ c.if-not-are_as_seats.false, record { each = sym seats ∙ c.if-not-are_seats.false; once = subst (IsDistinct nat_eq) keys (c.in_ok-set.ensures.distinct.0 (sym c.is_some.ensures ∙ some)) }),
      λ is. c.is_some.ensures ∙ c.in_ok-set.ensures.distinct.1 (subst (IsDistinct nat_eq) (sym keys) is.1.once),
    )
