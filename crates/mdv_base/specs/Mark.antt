-- The order of marks.
use Rattle.std.specs.Prelude.{◌≡◌, ◌⊎◌, ◌<◌}
use Rattle.mdv_base.specs.declared.mark.Mark.{Mark}

-- boot before count: the table under the second mark is the newer one
abbrev pub IsBelow : Mark → Mark → Type 0
IsBelow a b = (a.boot < b.boot) ⊎ ((a.boot ≡ b.boot) × (a.count < b.count))
