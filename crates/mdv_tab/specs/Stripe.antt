-- A volume of stripes: `numstripes`, each stripe, and at most one `-h POOL` last.
use Rattle.std.specs.Prelude.{◌==◌, nat_le, ℕ, zero, suc, if◌then◌else◌, Option, None, Some, List, [], ◌∷◌, length}
use Rattle.mdv_base.specs.declared.name.PoolId.{PoolId}
use Rattle.mdv_parts.specs.declared.part.Part.{Part}
use Rattle.mdv_parts.specs.declared.component.Component.{Component}
use Rattle.mdv_parts.specs.Runs.{component_of, pool_of, front, behind}
use Rattle.mdv_parts.specs.Options.{number_of, at_letter, split_interlace}
use Rattle.mdv_name.specs.declared.volume.VolName.{VolName}
use Rattle.mdv_tab.specs.declared.entry.Entry.{Entry}
use Rattle.mdv_tab.specs.declared.entry.Row.{Row}

abbrev pub row_with : List Component → Option (Option ℕ × List Part) → Option (Row × List Part)
row_with cs None = None
row_with cs (Some (interlace, ps)) = Some (record { components = cs; interlace = interlace }, ps)

abbrev pub row_of_width : Option ℕ → List Component → List Part → Option (Row × List Part)
row_of_width None cs ps = None
row_of_width (Some width) cs ps = if length cs == width then row_with cs (split_interlace ps) else None

-- a width, as many components, and `-i SIZE` where it stands there
abbrev pub split_row : List Part → Option (Row × List Part)
split_row [] = None
split_row (p ∷ ps) = row_of_width (number_of p) (front component_of ps) (behind component_of ps)

abbrev pub behind_row : Row → Option (List Row × List Part) → Option (List Row × List Part)
behind_row row None = None
behind_row row (Some (rows, ps)) = Some (row ∷ rows, ps)

abbrev pub go_on : Option (Row × List Part) → (List Part → Option (List Row × List Part)) → Option (List Row × List Part)
go_on None next = None
go_on (Some (row, ps)) next = behind_row row (next ps)

-- so many stripes
abbrev pub split_rows : ℕ → List Part → Option (List Row × List Part)
split_rows zero ps = Some ([], ps)
split_rows (suc n) ps = go_on (split_row ps) (split_rows n)

abbrev pub ends_stripe : VolName → List Row → Option (Option PoolId × List Part) → Option Entry
ends_stripe name rows None = None
ends_stripe name rows (Some (spares, [])) = Some (Entry.Stripe name rows spares)
ends_stripe name rows (Some (spares, p ∷ ps)) = None

abbrev pub with_rows : VolName → Option (List Row × List Part) → Option Entry
with_rows name None = None
with_rows name (Some (rows, ps)) = ends_stripe name rows (at_letter 104 pool_of ps)

-- at least one stripe
abbrev pub stripe_of : VolName → ℕ → List Part → Option Entry
stripe_of name count ps = if nat_le 1 count then with_rows name (split_rows count ps) else None
