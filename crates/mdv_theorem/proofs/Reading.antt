-- A read or a write of blocks of which a volume keeps its copies is told, the one with a value of each, the other `ok`, or refused for want of memory.
use Rattle.std.proofs.Common.{◌≡◌, ℕ, ◌+◌, ◌≤◌, true, List, Contains, length, sym, subst}
use Rattle.mdv_engine_law.specs.Line.{HasBlocks}
use Rattle.mdv_engine_law.specs.Replies.{text_of}
use Rattle.mdv_dev.specs.Pieces.{has_drive as lies_on}
use Rattle.mdv_name.specs.declared.geometry.Geometry.{Geometry}
use Rattle.mdv_port.specs.Script.{Script}
use Rattle.mdv_run_law.specs.Below.{Map, VolId}
use Rattle.mdv_run_law.specs.Lives.{Ran, host_of}
use Rattle.mdv_run_law.proofs.Placing.{opened_twice}
use Rattle.mdv_store.specs.Opened.{Opened}
use Rattle.mdv_volumes.proofs.Maps.{same_map}
use Rattle.mdv_volumes.specs.Tables.{IsMapOf}
use Rattle.mdv_words.specs.Line.{blocks_of}
use Rattle.mdv_theorem.specs.Exchanges.{Exchange, IsTold}
use Rattle.mdv_theorem.specs.Observed.{Answered, HaveAnswered, KeepsCopies, ReadsAreTold, TransfersAreTold, WritesAreTold}
use Rattle.mdv_theorem.specs.Running.{HasAnswered, Running}
use Rattle.mdv_theorem.specs.Words.{HasBegun, IsThere, MayLie}
use Rattle.mdv_theorem.proofs.Granting.{Transfer, read_granted, transfer_free, write_granted}
use Rattle.mdv_theorem.proofs.Lying.{lies_there}
use Rattle.mdv_theorem.proofs.Place.{drive_copy}
use Rattle.mdv_theorem.proofs.Enduring.{it_stays}
use Rattle.mdv_theorem.proofs.Starting.{starts}
use Rattle.mdv_theorem.proofs.Staying.{its_sound}
use Rattle.mdv_theorem.proofs.Steps.{reached_from, told_once}
use Rattle.mdv_theorem.proofs.Sure.{sure_table}

-- Where the volume keeps its copies of these blocks, nothing refuses a line that asks for a transfer of them, and no call for it fails.
transfer : (drives : Geometry) (name : List ℕ) (before : List Ran) (script : Script) → Contains drives.hosts name → (run : Running drives name before script) → (one : Exchange) (earlier : List Exchange) (volume : VolId) (at count : ℕ)
    → Answered run one earlier → HaveAnswered run earlier → HasBegun volume earlier → count ≤ 1024 → KeepsCopies run volume earlier (at + count) → (reply : List ℕ) → IsTold one reply → Transfer one volume at count reply
transfer drives name before script of_table run one earlier volume at count answered calm begun few copies reply told =
    let sound = run.life.fair in
    let starts_so = starts drives name before script of_table run in
    let to = reached_from run starts_so.of answered.here answered.later one reply answered.is told in
    let its_host = host_of drives name run.fresh in
    let there = it_stays drives name before script sound of_table run starts_so answered.here one to (subst (HaveAnswered run) answered.behind calm) volume (subst (IsThere volume) answered.behind begun) in
    let v : Map = there.so.0 in
    let plan = sure_table its_host to.kept there.o to.sure there.opened in
    let may = subst (λ (l : List Exchange). MayLie drives name volume v l) (sym answered.behind) (lies_there run starts_so.of starts_so.accords.tables answered.here one to volume there.o there.opened v there.so.1) in
    let within = copies.within v may in
    let answers : (drive : ℕ) → lies_on v at count drive ≡ true → HasAnswered run (record { 0 = drive }) = λ drive on.
    (let copy = drive_copy its_host.drives (its_sound drives name before script sound of_table run) there.o.table plan volume v at count drive there.so.1 within on in copies.answered v may copy.0 drive copy.1 copy.2 copy.3) in
    let alone : (w : Map) → HasBlocks its_host to.kept.memory volume at count w → w ≡ v = λ w has.
    same_map its_host.drives there.o.table volume w v (subst (λ (n : Opened). IsMapOf its_host.drives n.table volume w) (opened_twice to.kept.memory.opened there.o has.o there.opened has.opened) has.lies) there.so.1 in
    record {
      calls = to.calls;
      host = its_host;
      kept = to.kept;
      next = to.next;
      answer = to.answer;
      said = to.said;
      told = told_once one (text_of to.answer) reply to.told told;
      comes = to.comes;
      free = transfer_free its_host to.kept.memory.opened there.o volume v at count there.opened there.so.1 within few;
      calm = λ w has drive on. to.unfailed drive (answers drive (subst (λ (m : Map). lies_on m at count drive ≡ true) (alone w has) on));
    }

reads_are_told : ReadsAreTold
reads_are_told drives name before script of_table run one earlier volume at count answered calm begun asks few copies reply told =
    read_granted one volume at reply count (transfer drives name before script of_table run one earlier volume at count answered calm begun few copies reply told) asks

writes_are_told : WritesAreTold
writes_are_told drives name before script of_table run one earlier volume at what answered calm begun asks few copies reply told =
    write_granted one volume at reply what (transfer drives name before script of_table run one earlier volume at (length (blocks_of what)) answered calm begun few copies reply told) asks

pub transfers_are_told : TransfersAreTold
transfers_are_told = record { reads = reads_are_told; writes = writes_are_told }
