-- What a line leaves in memory and on the drive, where it did what was asked.
use Rattle.std.proofs.Common.{◌≡◌, ◌+◌, ℕ, List, Some, refl}
use Rattle.mdv_engine_law.specs.Below.{Area, Geometry, Identity, IsOpenedAt, Key, KeptOutside, Map, Opened, SliceLine, Table, Tale, last, nowhere, seats_area}
use Rattle.mdv_shelf.specs.Failing.{Outcomes}
use Rattle.mdv_standing.specs.Creating.{first_mark}
use Rattle.mdv_store.specs.Commit as commit
use Rattle.mdv_store.specs.Create as create
use Rattle.mdv_acts.specs.Asked.{drives_asked}
use Rattle.mdv_store.specs.Opened.{shortage}
use Rattle.mdv_standing.specs.Adopting.{drawn}
use Rattle.mdv_store.specs.Progress.{Claimed, Progress, Rewritten, Settled}
use Rattle.mdv_store.specs.Seats.{AreTheirs, drives_of}
use Rattle.mdv_store.specs.Taking.{LeftHold, open_with, second_mark}
use Rattle.mdv_config.specs.Lists.{settled}
use Rattle.mdv_map.specs.Requests.{AllRead, Rewriting}
use Rattle.mdv_shelf.proofs.Everywhere.{last_image}
use Rattle.mdv_engine_law.specs.declared.host.Host.{Host}
use Rattle.mdv_engine_law.specs.Commands.{LeavesPlaces, LeavesTable}
use Rattle.mdv_engine_law.specs.Hosts.{identity_of, key_of, opened_area, places_area}
use Rattle.mdv_engine_law.specs.Line.{AreCalmBeside, AreFormedOn, Memory, IsSame, IsSameBeside, LeftHoldOn, Stays, IsCreated, IsUncreated, IsCommitted, IsOpenOn, ArePut, MayBePut, contents, kept_at}
use Rattle.mdv_engine_law.proofs.Within.{opened_kept}

module _ (t u : Tale) where
  -- no block changed
  pub same_content : KeptOutside nowhere t u → IsSame (contents t) (contents u)
  same_content kept drive block = (kept drive block refl).last

  -- blocks were written
  module _ (v : Map) (at : ℕ) (blocks : List (List ℕ)) (rewriting : Rewriting v at blocks t u) where
    pub are_put : AllRead v at blocks u → ArePut v at blocks (contents t) (contents u)
    are_put read = record { here = λ k x lt reading. read k x lt reading; elsewhere = λ drive b off. (rewriting.outside drive b off).last }

    pub may_be_put : MayBePut v at blocks (contents t) (contents u)
    may_be_put = record { here = λ k drive b lt has. (rewriting.inside k drive b lt has).last; elsewhere = λ drive b off. (rewriting.outside drive b off).last }

-- no block outside the area changed
pub same_beside : (area : Area) (t u : Tale) → KeptOutside area t u → IsSameBeside area (contents t) (contents u)
same_beside area t u kept drive block out = (kept drive block out).last

-- a database is there
pub open_on : (g : Geometry) (o : Opened) (u : Tale) → IsOpenedAt g o u → IsOpenOn g o (contents u)
open_on g o u is = record {
  each = λ r has. is.held.each r has (last u) (last_image u);
  shown = λ r has. (let s = is.shown r has in (s.slot, s.each (last u) (last_image u)));
}

-- the places that a boot's writes left hold what was written
pub hold_on : (g : Geometry) (key : Key) (hand : _) (table : Table) (progress : Progress) (u : Tale) → LeftHold g key hand table progress u → LeftHoldOn g key hand.identity hand.number table progress (contents u)
hold_on g key hand table (Claimed now) u held = λ r has. held.each r has (last u) (last_image u)
hold_on g key hand table (Rewritten now) u is = open_on g (open_with key hand (drawn hand.number) table now) u is
hold_on g key hand table (Settled last gone) u (is, over) = (open_on g (open_with key hand (second_mark hand.number) (settled table) last) u is, open_on g (open_with key hand (drawn hand.number) table gone) u over)

-- each of the places asked has a replica of the new database
formed_on : (host : Host) (identity : Identity) (lines : List SliceLine) (count blocks : ℕ) (u : Tale) → AreTheirs host.drives (key_of host) identity (create.seats_asked (key_of host) identity lines count blocks) u → AreFormedOn host identity lines count blocks (contents u)
formed_on host identity lines count blocks u formed r has = formed r has (last u) (last_image u)

module _ (host : Host) (memory next : Memory) (t u : Tale) where
  pub stays : next ≡ memory → KeptOutside nowhere t u → Stays (kept_at memory t) (kept_at next u)
  stays same kept = record { memory = same; content = same_content t u kept }

  pub created : (calls : Outcomes) (lines : List SliceLine) (count blocks : ℕ) (o : Opened) → create.IsMade calls (key_of host) (identity_of host memory.begun) lines count blocks o → AreCalmBeside (drives_asked lines) calls → KeptOutside (places_area lines count blocks) t u
      → next ≡ record memory { opened = Some o; begun = memory.begun + 1 } → AreTheirs host.drives (key_of host) (identity_of host memory.begun) (create.seats_asked (key_of host) (identity_of host memory.begun) lines count blocks) u → IsOpenedAt host.drives o u → IsCreated calls host lines count blocks (kept_at memory t) (kept_at next u)
  created calls lines count blocks o made calm kept is formed opened = record {
    opened = o;
    made = made;
    calm = calm;
    memory = is;
    formed = formed_on host (identity_of host memory.begun) lines count blocks u formed;
    content = open_on host.drives o u opened;
    beside = same_beside (places_area lines count blocks) t u kept;
  }

  -- a creation that gives up
  pub leaves_places : (calls : Outcomes) (lines : List SliceLine) (count blocks active listed : ℕ) (lost : create.IsLost calls (key_of host) (identity_of host memory.begun) lines count blocks active listed) → AreCalmBeside (drives_asked lines) calls → KeptOutside (places_area lines count blocks) t u
      → AreTheirs host.drives (key_of host) (identity_of host memory.begun) (create.seats_asked (key_of host) (identity_of host memory.begun) lines count blocks) u
      → IsOpenedAt host.drives (record { key = key_of host; identity = identity_of host memory.begun; mark = first_mark; table = create.table_of (create.seats_asked (key_of host) (identity_of host memory.begun) lines count blocks); seats = lost.now }) u
      → LeavesPlaces calls host lines count blocks active listed (kept_at memory t) (kept_at next u)
  leaves_places calls lines count blocks active listed lost calm kept formed opened = record {
    lost = lost;
    calm = calm;
    formed = formed_on host (identity_of host memory.begun) lines count blocks u formed;
    left = open_on host.drives (record { key = key_of host; identity = identity_of host memory.begun; mark = first_mark; table = create.table_of (create.seats_asked (key_of host) (identity_of host memory.begun) lines count blocks); seats = lost.now }) u opened;
    beside = same_beside (places_area lines count blocks) t u kept;
  }

  -- and a change that does
  pub leaves_table : (calls : Outcomes) (o new : Opened) (table : Table) (active listed : ℕ) → memory.opened ≡ Some o → commit.IsLostNow calls o new table → shortage new ≡ Some (record { active = active; listed = listed }) → AreCalmBeside (drives_of o.seats) calls → KeptOutside (seats_area o.seats) t u
      → IsOpenedAt host.drives (record new { mark = commit.next_mark o.mark; table = table }) u → LeavesTable calls host o table active listed (kept_at memory t) (kept_at next u)
  leaves_table calls o new table active listed is lost few calm kept opened = record {
    lost = record { new = new; calm = calm; lost = lost; few = few };
    left = open_on host.drives (record new { mark = commit.next_mark o.mark; table = table }) u opened;
    beside = same_beside (opened_area memory.opened) t u (opened_kept t u memory.opened o is kept);
  }

  pub uncreated : (calls : Outcomes) (lines : List SliceLine) (count blocks : ℕ) → create.HasFailed calls (key_of host) (identity_of host memory.begun) lines count blocks → KeptOutside (places_area lines count blocks) t u
      → next ≡ record memory { begun = memory.begun + 1 } → IsUncreated calls host lines count blocks (kept_at memory t) (kept_at next u)
  uncreated calls lines count blocks failed kept is = record { failed = failed; memory = is; beside = same_beside (places_area lines count blocks) t u kept }

  pub committed : (calls : Outcomes) (o new : Opened) (table : Table) → commit.IsCommitted calls o new table → AreCalmBeside (drives_of o.seats) calls → KeptOutside (seats_area o.seats) t u → next ≡ record memory { opened = Some new } → IsOpenedAt host.drives new u
      → IsCommitted calls host o table (kept_at memory t) (kept_at next u)
  committed calls o new table done calm kept is opened = record { opened = new; committed = done; calm = calm; memory = is; content = open_on host.drives new u opened; beside = same_beside (seats_area o.seats) t u kept }
