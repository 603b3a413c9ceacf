use Rattle.std.proofs.Common.{◌≡◌, ◌<◌, ◌^◌, decimal, arith, rules}
use Rattle.std.proofs.lemmas.Fmt.{decimal_injective}
use Rattle.mdv_name.proofs.parse.parse_volume_number.Goals as goal

pub returns-then-volume-ge-VOLUME_LIMIT-clause-none : goal.returns-then-volume-ge-VOLUME_LIMIT-clause-none
returns-then-volume-ge-VOLUME_LIMIT-clause-none c = λ n small is.
    let spelled : decimal c.in_ok-volume.volume ≡ decimal n = cc (c.in_ok-volume.ensures.value, c.in_ok-strip.ensures) in
    let fits : c.in_ok-volume.volume < 2 ^ 64 = search rules in
    let same = decimal_injective c.in_ok-volume.volume n fits (omega (arith, small)) spelled in
    omega (arith, same, small, c.if-volume-ge-VOLUME_LIMIT.true)
