-- The volume that is laid out is one of the table, and there is room for each of its rows.
use Rattle.std.proofs.Common.{◌≡◌, ℕ, ◌+◌, ◌<◌, ◌≤◌, ◌==◌, List, length, get_or, sum_by, take, Some, subst, arith}
use Rattle.std.proofs.lemmas.List.Sums.{sum_by-take-le, sum_by_more}
use Rattle.mdv_layout_law.proofs.Lists.{find_found}
use Rattle.mdv_layout_law.specs.Below.{Geometry, IsKindOf, IsOfGeometry, OneVolume, Row, Table, VolId, volume_of, width}

pub kind_is : (g : Geometry) (t : Table) (volume : VolId) (of : OneVolume) → IsOfGeometry g t → volume_of t.plan volume ≡ Some of → IsKindOf g of.kind
kind_is g t volume of is found =
    let there = find_found (λ (w : OneVolume). w.number.0 == volume.0) t.plan.volumes of found in
    subst (λ (w : OneVolume). IsKindOf g w.kind) there.is (is.kinds there.at of there.within)

pub room_for : (rows : List Row) (i count most : ℕ) (d : Row) → i < length rows → count ≡ sum_by width (take i rows) → sum_by width rows ≤ most → count + width (get_or rows i d) ≤ most
room_for rows i count most d lt is few =
    let more = sum_by_more width rows i d lt in
    let less = sum_by-take-le width rows (i + 1) in omega arith
