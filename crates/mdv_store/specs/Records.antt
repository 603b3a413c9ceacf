-- Which text is a record of which table: that of a table of this table of drives.
use Rattle.std.specs.Prelude.{ℕ, List}
use Rattle.mdv_encoding.specs.Parsing.{read_of}
use Rattle.mdv_shown.specs.Laws.{Reads}
use Rattle.mdv_store.specs.Below.{Geometry, Table}

abbrev pub Spells : Geometry → List ℕ → Table → Type 0
Spells g = Reads (read_of g)
