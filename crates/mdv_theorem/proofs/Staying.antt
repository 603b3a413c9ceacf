-- A volume that was shown to be there stays: each table that a boot may find has it, and one is open behind any further lines of the host as long as no boot is blind.
use Rattle.std.proofs.Common.{◌≡◌, List, ◌∷◌, ◌++◌, Some, Contains, subst, ℕ}
use Rattle.mdv_engine_law.specs.Hosts.{key_of}
use Rattle.mdv_engine_law.specs.Line.{Kept}
use Rattle.mdv_name.specs.declared.geometry.Geometry.{Geometry}
use Rattle.mdv_port.specs.Script.{Script}
use Rattle.mdv_run_law.specs.Below.{Host, IsSound, Map, Table, VolId}
use Rattle.mdv_run_law.specs.Lives.{IsHistoryOf, Ran, host_of}
use Rattle.mdv_shelf.specs.Everywhere.{Image}
use Rattle.mdv_store.specs.Opened.{Opened}
use Rattle.mdv_volumes.specs.Databases.{log_of}
use Rattle.mdv_volumes.specs.Tables.{IsMapOf}
use Rattle.mdv_volumes.proofs.Found.{AreLasting}
use Rattle.mdv_volumes.proofs.Made.{map_stays}
use Rattle.mdv_theorem.specs.Exchanges.{Exchange}
use Rattle.mdv_theorem.specs.Running.{Running}
use Rattle.mdv_theorem.proofs.Agreeing.{own_sound}
use Rattle.mdv_theorem.proofs.Clean.{start_by}
use Rattle.mdv_theorem.proofs.Ends.{none_stays}
use Rattle.mdv_theorem.proofs.Leading.{lasting_idle}
use Rattle.mdv_theorem.proofs.Steps.{Between, Failed, Reached, Stepped, Steps, stepped, steps_cut}
use Rattle.mdv_theorem.proofs.Tables.{IsCarried, Keeps}

-- the table has the volume
abbrev pub HasIt : Geometry → VolId → Table → Type 0
HasIt g volume table = (v : Map) × IsMapOf g table volume v

pub has_carried : (g : Geometry) (volume : VolId) → IsCarried g volume (HasIt g volume)
has_carried g volume asked old new stays made has = (let later = map_stays g volume has.0 asked old new stays made has.1 in (later.0, later.1))

-- the open database, whose table is one of these
pub record IsOpenWith (host : Host) (P : Table → Type 0) (kept : Kept) : Type 0 where
  pub o : Opened
  pub opened : kept.memory.opened ≡ Some o
  pub so : P o.table

module _ (drives : Geometry) (name : List ℕ) (before : List Ran) (script : Script) (sound : IsSound drives) (of_table : Contains drives.hosts name) (run : Running drives name before script) where
  abbrev host : Host
  host = host_of drives name run.fresh

  abbrev pub its_sound : IsSound host.drives
  its_sound = own_sound drives name run.fresh sound

  -- each table that a boot may find as the run begins is one of these, by a history of the runs before
  abbrev pub KeepsAtFirst : {held : Image} → IsHistoryOf drives name held before run.t.tale → (Table → Type 0) → Type 0
  KeepsAtFirst of P = AreLasting host.drives P (log_of (start_by run of).databases (key_of host))

  -- the line is reached
  module _ {held : Image} (of : IsHistoryOf drives name held before run.t.tale) (here : List Exchange) (one : Exchange) (at : Reached run of here one) where
    abbrev pub first : Between host
    first = record { kept = at.first; sure = at.first_sure }

    abbrev pub last : Between host
    last = record { kept = at.kept; sure = at.sure }

    -- a line before it
    pub record Passed (front rest : List Exchange) (shown : Exchange) : Type 1 where
      pub is : here ≡ front ++ shown ∷ rest
      pub to : Between host
      pub upto : Steps host (Failed run) first front to
      pub step : Stepped host (Failed run) to shown rest last

    pub passed : (front rest : List Exchange) (shown : Exchange) → here ≡ front ++ shown ∷ rest → Passed front rest shown
    passed front rest shown is =
        let parts = steps_cut host (Failed run) front (shown ∷ rest) first last (subst (λ (l : List Exchange). Steps host (Failed run) first l last) is at.steps) in
        record { is = is; to = parts.0; upto = parts.1; step = stepped host (Failed run) parts.0 last shown rest parts.2 }

    module _ (volume : VolId) (P : Table → Type 0) (carried : IsCarried host.drives volume P) where
      -- each table that a boot may find is one of these from the run's start on
      pub first_keeps : KeepsAtFirst of P → Keeps host P first
      first_keeps are = lasting_idle host P (λ asked old next may made has. carried asked old next (none_stays host volume asked may) made has) (start_by run of) at.first_sure.history at.begun are
