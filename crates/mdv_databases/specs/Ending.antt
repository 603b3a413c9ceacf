-- How all databases go on while one ends that is open, and has one place.
use Rattle.std.specs.Prelude.{◌≡◌, ℕ, true, List, [], ◌∷◌}
use Rattle.mdv_places.specs.Asked.{KeepsFirst}
use Rattle.mdv_places.specs.Ending.{EndEnds, EndMoment, IsSole}
use Rattle.mdv_places.specs.Moments.{IsFront}
use Rattle.mdv_replica.specs.Form.{shows}
use Rattle.mdv_replica.specs.declared.forms.Master.{Master}
use Rattle.mdv_replica.specs.declared.replica.Head.{Head}
use Rattle.mdv_shelf.specs.Everywhere.{Everywhere}
use Rattle.mdv_shown.specs.Found.{IsFound}
use Rattle.mdv_store_law.specs.Log.{Clearing, EndAlone, Ends, Gone, Over}
use Rattle.mdv_config.specs.Lists.{last_of}
use Rattle.mdv_databases.specs.Below.{Database, Geometry, Key, Opened, SliceLine, Spells, Tale, site_of}
use Rattle.mdv_databases.specs.Going.{GoOnBy, IsOpenIn, with_events}
use Rattle.mdv_databases.specs.Lasting.{AreFreed, HasNoTable}
use Rattle.mdv_databases.specs.Moving.{MayBeTakenOfOthers}
use Rattle.mdv_databases.specs.Standing.{Stand}

-- A database that is open among all may end: its place is the first of its slice, where what is of other keys may be taken.
pub record IsEndIn (g : Geometry) (all : List Database) (o : Opened) (t : Tale) : Type 0 where
  pub stand : Stand g all t
  pub is_open : IsOpenIn g o all t
  pub others : (s : IsSole o) → MayBeTakenOfOthers g all o.key s.replica.line t
  pub front : IsFront KeepsFirst (last_of o.table.plan.lists)

-- whatever a crash leaves, each replica of the key that shows a table lies on this slice
abbrev pub ShowsThere : Geometry → Key → SliceLine → Tale → Type 0
ShowsThere g key on t = Everywhere (λ image. (line : SliceLine) (k : ℕ) (first : Master) (head : Head) → IsFound (Spells g) (site_of g key) line k (image line.at.drive.0) first head → shows head ≡ true → line ≡ on) t

-- In the end its log is over, and another one of its key may be created. Where no replica of the key showed a table but on its slice, none shows one.
pub record IsEndedIn (g : Geometry) (all : List Database) (o : Opened) (t u : Tale) : Type 0 where
  pub goes : GoOnBy EndAlone g all o.key o.identity [] (λ log. log.fate ≡ Over) u
  pub events : goes.es ≡ Clearing ∷ Gone ∷ []
  pub freed : AreFreed g (with_events o.key goes.es all) o.key u
  pub none : (s : IsSole o) → ShowsThere g o.key s.replica.line t → HasNoTable g o.key u

pub record EndsGo : Type 0 where
  -- at each moment of the end all databases go on, with nothing asked, and its log is about to be over: the end began, once
  pub moments : (g : Geometry) (all : List Database) (o : Opened) (t m : Tale) → IsEndIn g all o t → EndMoment o t m
      → (on : GoOnBy EndAlone g all o.key o.identity [] (λ log. log.fate ≡ Ends) m) × (on.es ≡ Clearing ∷ [])
  -- and once it is done
  pub ends : (g : Geometry) (all : List Database) (o : Opened) (t u : Tale) → IsEndIn g all o t → EndMoment o t u → EndEnds o t u → IsEndedIn g all o t u
