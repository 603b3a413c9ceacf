-- What a tale begins with behind a crash, and the law of the log.
use Rattle.std.specs.Prelude.{ℕ, List}
use Rattle.mdv_store_law.specs.Below.{Geometry, Image, Tale, Begun}
use Rattle.mdv_store_law.specs.Log.{Log, Event, log_after_all, IsCourse, IsLog}

-- a tale that begins with what a crash left, where these bytes were told before
abbrev pub restarted : Image → List ℕ → Tale
restarted image told = Begun (record { block = image; told = told })

-- a log that goes on as it may stays one
abbrev pub CoursesAreLogs : Type 0
CoursesAreLogs = (g : Geometry) (log : Log) (es : List Event) → IsLog g log → IsCourse g log es → IsLog g (log_after_all log es)
