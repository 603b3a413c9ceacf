-- What a pass says that writes a claim to each active place.
use Rattle.std.specs.Prelude.{◌<◌, ◌^◌, ℕ, List, [], ◌++◌, Contains}
use Rattle.mdv_store.specs.Below.{Database, Event, Geometry, Identity, IsPart, IsSound, IsSynced, IsVersionWith, Key, Log, Mark, MayBeClaimed, Replica, RestStands, Spot, Table, Tale, Traces, Version, claims_at, site_of}
use Rattle.mdv_store.specs.Blank.{StayBlank}
use Rattle.mdv_store.specs.Passing.{IsPassing, Passed, claiming}
use Rattle.mdv_look.specs.Quiet.{IsQuiet}
use Rattle.mdv_store.specs.Records.{Spells}
use Rattle.mdv_store.specs.Seats.{AreHeld, AreNamed, drive_of, replicas_of, seats_area, spots_of}
use Rattle.mdv_store.specs.declared.seats.Seat.{Seat}

-- some of the claims at these places, in their order
abbrev pub AreClaims : List Spot → List Event → Type 0
AreClaims places es = IsPart es (claims_at places)

-- A boot adopts this version of the database's log, under this number, and its replicas here are listed places of it.
pub record IsAdopting (g : Geometry) (key : Key) (identity : Identity) (seats : List Seat) (number : ℕ) (log : Log) (mark : Mark) (table : Table) (v : Version) (t : Tale) : Type 0 where
  pub sound : IsSound g
  pub small : number < 2 ^ 63
  pub held : AreHeld g key identity seats t
  pub named : AreNamed (site_of g key) table seats
  pub version : IsVersionWith log mark table v

-- each world goes on by claims, from the places that had claimed to these
abbrev pub ClaimsTrace : Geometry → Key → Identity → List Seat → ℕ → Log → Mark → (before now : List Spot) → Tale → Tale → Type 0
ClaimsTrace g key identity seats number log mark before now =
    Traces (Spells g) (site_of g key) identity log log (MayBeClaimed mark number before) (AreClaims (spots_of seats)) (MayBeClaimed mark number now)

-- By each moment nothing was told, and nothing done but to these replicas, one by one in their order; each world of the database goes on by some of the
-- claims; all other databases stand; and those that show no table show none.
pub record ClaimingMoment (seats : List Seat) (number : ℕ) (t m : Tale) : Type 0 where
  pub quiet : IsQuiet (seats_area seats) t m
  pub passing : IsPassing (claiming number) (replicas_of seats) t m
  pub traces : (g : Geometry) (key : Key) (identity : Identity) (log : Log) (mark : Mark) (table : Table) (v : Version) (before : List Spot)
      → IsAdopting g key identity seats number log mark table v t → ClaimsTrace g key identity seats number log mark before before t m
  pub rest : (g : Geometry) (key : Key) (identity : Identity) (all : List Database) → IsSound g → number < 2 ^ 63 → AreHeld g key identity seats t
      → RestStands (Spells g) g all identity t → RestStands (Spells g) g all identity m
  pub blank : (g : Geometry) (key : Key) (identity : Identity) → IsSound g → number < 2 ^ 63 → AreHeld g key identity seats t → StayBlank g identity t m

-- In the end the places that are left claimed, and their replicas are there with that claim; and what is read of their drives no crash takes back.
pub record ClaimingEnds (old new : List Seat) (number : ℕ) (t u : Tale) : Type 0 where
  pub passed : Passed (claiming number) (replicas_of old) t (replicas_of new) [] u
  pub traces : (g : Geometry) (key : Key) (identity : Identity) (log : Log) (mark : Mark) (table : Table) (v : Version) (before : List Spot)
      → IsAdopting g key identity old number log mark table v t → ClaimsTrace g key identity old number log mark before (spots_of new ++ before) t u
  pub held : (g : Geometry) (key : Key) (identity : Identity) → IsSound g → number < 2 ^ 63 → AreHeld g key identity old t → AreHeld g key identity new u
  pub synced : (r : Replica) → Contains (replicas_of new) r → IsSynced (drive_of r) t → IsSynced (drive_of r) u
