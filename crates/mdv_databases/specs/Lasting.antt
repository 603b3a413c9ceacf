-- What lasts over crashes, and over what is done elsewhere.
use Rattle.std.specs.Prelude.{◌≡◌, ℕ, false, List, [], Contains, None}
use Rattle.mdv_store_law.specs.Log.{Lives, is_firm}
use Rattle.mdv_databases.specs.Below.{Area, AreApart, Database, Geometry, HasNoReplica, Identity, Image, IsBlank, IsImage, IsOpenedAt, Key, KeptOutside, Opened, Spells, Tale, log_of, restarted, site_area, site_of}
use Rattle.mdv_databases.specs.Standing.{IsFree, Stand}
use Rattle.mdv_databases.specs.Going.{IsOpenIn}

-- the area has no block of a slice on which a boot looks, of whatever key, from block 16 on
abbrev pub IsElsewhere : Geometry → Area → Type 0
IsElsewhere g area = (key : Key) → AreApart area (site_area (site_of g key))

-- none of the key's databases shows a table
abbrev pub HasNoTable : Geometry → Key → Tale → Type 0
HasNoTable g key t = (identity : Identity) → IsBlank g key identity t

-- each of the key's databases shows no table, as a creation leaves it that failed, or was deleted: another one may be created
abbrev pub AreFreed : Geometry → List Database → Key → Tale → Type 0
AreFreed g all key t = (d : Database) → Contains all d → d.key ≡ key → IsFree g d t

-- a crash leaves there what it might have left before, and nothing else
abbrev pub LeavesNoMore : Tale → Tale → Type 0
LeavesNoMore t u = (image : Image) → IsImage u image → IsImage t image

pub record DatabasesLast : Type 0 where
  -- what a crash leaves of drives that stand with all databases does
  pub crashes : (g : Geometry) (all : List Database) (m : Tale) (image : Image) (told : List ℕ) → Stand g all m → IsImage m image → Stand g all (restarted image told)
  -- so it is of drives of which a crash leaves no more, and an open one stays open, and a key without a table without one
  pub fewer : (g : Geometry) (all : List Database) (t u : Tale) → LeavesNoMore t u → Stand g all t → Stand g all u
  pub open_fewer : (g : Geometry) (o : Opened) (all : List Database) (t u : Tale) → LeavesNoMore t u → IsOpenIn g o all t → IsOpenIn g o all u
  pub opened_fewer : (g : Geometry) (o : Opened) (t u : Tale) → LeavesNoMore t u → IsOpenedAt g o t → IsOpenedAt g o u
  pub blank_fewer : (g : Geometry) (key : Key) (t u : Tale) → LeavesNoMore t u → HasNoTable g key t → HasNoTable g key u
  -- drives without a replica stand with none
  pub new : (g : Geometry) (image : Image) (told : List ℕ) → HasNoReplica (Spells g) g image → Stand g [] (restarted image told)
  pub freed_fewer : (g : Geometry) (all : List Database) (key : Key) (t u : Tale) → LeavesNoMore t u → AreFreed g all key t → AreFreed g all key u
  -- what is done elsewhere leaves them standing, an open one open, and those without a table without one
  pub stand : (g : Geometry) (all : List Database) (area : Area) (t m : Tale) → IsElsewhere g area → KeptOutside area t m → Stand g all t → Stand g all m
  pub opened : (g : Geometry) (o : Opened) (area : Area) (t m : Tale) → IsElsewhere g area → KeptOutside area t m → IsOpenedAt g o t → IsOpenedAt g o m
  pub is_open : (g : Geometry) (o : Opened) (all : List Database) (area : Area) (t m : Tale) → IsElsewhere g area → KeptOutside area t m → IsOpenIn g o all t → IsOpenIn g o all m
  pub blank : (g : Geometry) (key : Key) (area : Area) (t m : Tale) → IsElsewhere g area → KeptOutside area t m → HasNoTable g key t → HasNoTable g key m
  pub freed : (g : Geometry) (all : List Database) (key : Key) (area : Area) (t m : Tale) → IsElsewhere g area → KeptOutside area t m → AreFreed g all key t → AreFreed g all key m
  -- where none of a key's databases shows a table, nothing of the current one was answered or told, unless it was about to be deleted
  pub nothing : (g : Geometry) (all : List Database) (key : Key) (t : Tale) → Stand g all t → (log_of all key).fate ≡ Lives → HasNoTable g key t → (is_firm (log_of all key) ≡ false) × ((log_of all key).acknowledged ≡ None)
