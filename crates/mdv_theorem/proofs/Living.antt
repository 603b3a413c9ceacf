-- Runs as their contracts promise them are a life.
use Rattle.std.specs.Prelude.{List, []}
use Rattle.mdv_name.specs.declared.geometry.Geometry.{Geometry}
use Rattle.mdv_run_law.specs.Lives.{IsLife, Ran}
use Rattle.mdv_run_law.specs.Lives as life
use Rattle.mdv_shelf.specs.Everywhere.{Image}
use Rattle.mdv_shelf.specs.Tale.{Tale}
use Rattle.mdv_theorem.specs.Running.{HaveMetNone, Lived, Runs, no_run, run_on}

-- a life goes on by such runs
pub runs_live : (drives : Geometry) (made : Image) (first : List Ran) (from : Tale) (ran : List Ran) (t : Tale) → IsLife drives made first from → (runs : Runs drives first from ran t) → HaveMetNone runs → IsLife drives made ran t
runs_live drives made first from ran t lived no_run none = lived
runs_live drives made first from ran t lived (run_on before name fresh stretch start old m next script runs of_table new_word stands tells moment found) none =
    let is = runs_live drives made first from before old.tale lived runs none.0 in
    record { sound = is.sound; life = life.run_on before name fresh old.tale m.tale next script is.life of_table stands found; fair = (new_word, is.fair); clean = (is.clean, none.1) }

pub lived_life : (drives : Geometry) (made : Image) (ran : List Ran) (t : Tale) → Lived drives made ran t → IsLife drives made ran t
lived_life drives made ran t lived = runs_live drives made [] _ ran t (record { sound = lived.fair; life = life.new_drives lived.told lived.new; fair = tt; clean = tt }) lived.runs lived.clean
