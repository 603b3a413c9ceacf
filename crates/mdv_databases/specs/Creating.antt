-- How all databases go on while one is created.
use Rattle.std.specs.Prelude.{◌≡◌, ◌⊎◌, ◌≤◌, ◌+◌, ℕ, List, [], Contains, Ok, Err}
use Rattle.mdv_shelf.specs.Everywhere.{Everywhere}
use Rattle.mdv_standing.specs.Others.{IsLoose}
use Rattle.mdv_store_law.specs.Log.{Lives}
use Rattle.mdv_store.specs.Commit.{AnyLog}
use Rattle.mdv_store.specs.Create.{CreateMoment, IsCreatedTo, IsEnded, MayCreate, seats_asked, table_of}
use Rattle.mdv_store.specs.declared.creating.CreateFault.TheVariants as unmade
use Rattle.mdv_databases.specs.Below.{Database, Geometry, Identity, IsBlank, IsFresh, IsOfGeometry, IsSound, Key, Opened, SliceLine, Spells, Tale, site_of, size_on, with_creation}
use Rattle.mdv_databases.specs.Going.{GoOn, IsOpenIn, with_events}
use Rattle.mdv_databases.specs.Lasting.{AreFreed, HasNoTable}
use Rattle.mdv_databases.specs.Standing.{Stand}

-- nothing of a database lies on the slice that counts, whatever a crash leaves
abbrev pub IsLooseAt : Geometry → Database → SliceLine → Tale → Type 0
IsLooseAt g d line t = Everywhere (λ image. IsLoose (Spells g) (site_of g d.key) d.identity d.log image line) t

-- what lies on the slice of a database that isn't about to be deleted may be taken, where it shows no table, and of one that was, where none of it counts
abbrev pub MayBeTakenAt : Geometry → Database → SliceLine → Tale → Type 0
MayBeTakenAt g d line t = ((d.log.fate ≡ Lives) × IsBlank g d.key d.identity t) ⊎ IsLooseAt g d line t

-- A creation may begin: each database of its key shows no table, or was deleted, and none has its identity; one of another key doesn't look on its
-- slices, or what lies there may be taken; the slices end within their drives; its first table is one of the table of drives.
pub record IsCreation (g : Geometry) (all : List Database) (key : Key) (identity : Identity) (lines : List SliceLine) (count blocks : ℕ) (t : Tale) : Type 0 where
  pub sound : IsSound g
  pub stand : Stand g all t
  pub free : AreFreed g all key t
  pub fresh : IsFresh all identity
  pub sites : (line : SliceLine) → Contains lines line → Contains (site_of g key).lines line
  pub within : (line : SliceLine) → Contains lines line → line.at.start + line.at.blocks ≤ size_on (site_of g key) line
  pub others : (d : Database) (line : SliceLine) → Contains all d → (d.key ≡ key → ⊥) → Contains lines line → (Contains (site_of g d.key).lines line → ⊥) ⊎ MayBeTakenAt g d line t
  pub of_geometry : IsOfGeometry g (table_of (seats_asked key identity lines count blocks))

-- it is open, with its first table
pub record IsMadeIn (g : Geometry) (all : List Database) (key : Key) (identity : Identity) (o : Opened) (u : Tale) : Type 0 where
  pub goes : GoOn g all key identity [] (IsCreatedTo o) u
  pub is_open : IsOpenIn g o (with_events key goes.es all) u

-- it was begun, no table of it, and another one of its key may be created still; where no database of its key showed a table none does
pub record IsUnmadeIn (g : Geometry) (all : List Database) (key : Key) (identity : Identity) (t u : Tale) : Type 0 where
  pub goes : GoOn g all key identity [] (λ log. log.family ≡ []) u
  pub free : AreFreed g (with_events key goes.es all) key u
  pub none : HasNoTable g key t → HasNoTable g key u

pub record CreationsGo : Type 0 where
  -- as it begins all stand, and the key's earlier one is over
  pub begins : (g : Geometry) (all : List Database) (key : Key) (identity : Identity) (lines : List SliceLine) (count blocks : ℕ) (t : Tale) → IsCreation g all key identity lines count blocks t
      → Stand g (with_creation key identity all) t × MayCreate g (with_creation key identity all) key identity lines (seats_asked key identity lines count blocks) t
  -- at each moment they go on
  pub moments : (g : Geometry) (all : List Database) (key : Key) (identity : Identity) (lines : List SliceLine) (count blocks : ℕ) (t m : Tale) → IsCreation g all key identity lines count blocks t
      → CreateMoment key identity lines count blocks t m → GoOn g (with_creation key identity all) key identity [] AnyLog m
  -- once it is made, and where it failed
  pub made : (g : Geometry) (all : List Database) (key : Key) (identity : Identity) (lines : List SliceLine) (count blocks : ℕ) (o : Opened) (t u : Tale) → IsCreation g all key identity lines count blocks t
      → CreateMoment key identity lines count blocks t u → IsEnded g key identity (seats_asked key identity lines count blocks) (Ok o) t u → o.key ≡ key → o.identity ≡ identity
      → IsMadeIn g (with_creation key identity all) key identity o u
  pub failed : (g : Geometry) (all : List Database) (key : Key) (identity : Identity) (lines : List SliceLine) (count blocks : ℕ) (t u : Tale) → IsCreation g all key identity lines count blocks t
      → CreateMoment key identity lines count blocks t u → IsEnded g key identity (seats_asked key identity lines count blocks) (Err unmade.Failed) t u → IsUnmadeIn g (with_creation key identity all) key identity t u
