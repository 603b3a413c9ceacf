-- The table of a new database.
use Rattle.std.specs.Prelude.{List, [], None}
use Rattle.mdv_plan.specs.Below.{Place}
use Rattle.mdv_plan.specs.declared.lists.Lists.TheVariants.{One}
use Rattle.mdv_plan.specs.declared.set.SetData.{SetData}
use Rattle.mdv_plan.specs.declared.table.Table.{Table}

abbrev pub no_set : SetData
no_set = record { owner = None; hosts = []; drives = []; mediators = [] }

-- one list of places, and nothing else
abbrev pub empty_table : List Place → Table
empty_table places =
    record {
      plan = record { lists = One places; set = no_set; pending = []; pools = []; volumes = [] };
      status = record { volumes = []; spares = [] };
    }
