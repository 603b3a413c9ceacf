-- What a line asks of the volumes of the open database, as a change of its table, and the table that comes of it.
use Rattle.std.specs.Prelude.{◌≡◌, Option, None, Some}
use Rattle.mdv_change.specs.Change.{table_after}
use Rattle.mdv_change.specs.declared.change.Change.TheVariants as change
use Rattle.mdv_remake.specs.Asked.{asked_of, clearing_of, row_of}
use Rattle.mdv_words.specs.declared.command.Alteration.{Alteration}
use Rattle.mdv_words.specs.declared.command.Alteration.TheVariants.{Attach, Clear, ClearAll, Make}
use Rattle.mdv_engine_law.specs.Below.{Geometry, PlanChange, Table}

-- the change that it asks; each that a line may ask is one
abbrev pub change_of : Alteration → Option PlanChange
change_of (Make entry) = asked_of entry
change_of (Attach volume row) = Some (change.AddRow volume (row_of row))
change_of (Clear names below) = Some (clearing_of names below)
change_of ClearAll = Some change.ClearAll

-- the table after it
abbrev pub table_where : Geometry → Table → Option PlanChange → Table
table_where g t None = t
table_where g t (Some change) = table_after g t change

abbrev pub table_by : Geometry → Alteration → Table → Table
table_by g alteration t = table_where g t (change_of alteration)

-- it asks this change
abbrev pub Alters : Alteration → PlanChange → Type 0
Alters alteration change = change_of alteration ≡ Some change
