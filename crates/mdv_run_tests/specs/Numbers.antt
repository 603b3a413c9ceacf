-- Numbers that stand on a drive.
use Rattle.std.specs.Prelude.{◌≡◌, ◌<◌, ◌^◌, ◌⊎◌, ℕ, Some}
use Rattle.mdv_base.specs.declared.mark.Mark.{Mark}
use Rattle.mdv_run_tests.specs.declared.shown.Shown.{Shown}
use Rattle.mdv_run_tests.specs.declared.shown.ShownTable.{ShownTable}

-- both numbers of the mark are below the limit
abbrev pub IsMarked : Mark → Type 0
IsMarked m = (m.boot < 2 ^ 63) × (m.count < 2 ^ 63)

-- it is the claim's number, or the boot number of an open slot's table
abbrev pub IsBootOf : Shown → ℕ → Type 0
IsBootOf shown n =
    (n ≡ shown.claim)
    ⊎ ((t : ShownTable) × (shown.first ≡ Some t) × (n ≡ t.mark.boot))
    ⊎ ((t : ShownTable) × (shown.second ≡ Some t) × (n ≡ t.mark.boot))
