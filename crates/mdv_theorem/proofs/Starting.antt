-- As a run begins, what the lines of earlier runs show of the database is so by a history of them.
use Rattle.std.proofs.Common.{◌≡◌, ℕ, ◌+◌, List, [], ◌++◌, length, None, Contains, sym, subst, append_assoc}
use Rattle.std.proofs.lemmas.List.{append-nil}
use Rattle.mdv_engine_law.specs.Replies.{text_of}
use Rattle.mdv_engine_law.specs.declared.host.Host.{Host}
use Rattle.mdv_run_law.specs.Run.{At, LinesTold, behind_boot, no_line, one_more}
use Rattle.mdv_run_law.specs.Told.{RunToldBy}
use Rattle.mdv_name.specs.declared.geometry.Geometry.{Geometry}
use Rattle.mdv_port.specs.Script.{Script}
use Rattle.mdv_run_law.specs.Lives.{IsHistoryOf, Ran, host_of}
use Rattle.mdv_config.specs.Slices.{IsSound}
use Rattle.mdv_theorem.specs.Exchanges.{Exchange, exchanges_by}
use Rattle.mdv_theorem.specs.Running.{Running}
use Rattle.mdv_theorem.proofs.Accords.{Accords, ClosedAt, accords_line, accords_none, accords_quiet, accords_work}
use Rattle.mdv_theorem.proofs.Clean.{start_by}
use Rattle.mdv_theorem.proofs.Onward.{GoesOn, life_goes_on}
use Rattle.mdv_theorem.proofs.Left.{lines_here}
use Rattle.mdv_theorem.proofs.Lined.{said_of}
use Rattle.mdv_theorem.proofs.Refused.{AreRefused, IsClosed}
use Rattle.mdv_theorem.proofs.Unmade.{none_open}
use Rattle.mdv_theorem.proofs.Steps.{EachSo, EachTold, Failed, Reached}

pub record Starts {drives : Geometry} {name : List ℕ} {before : List Ran} {script : Script} (run : Running drives name before script) : Type 0 where
  pub of : IsHistoryOf drives name run.made before run.t.tale
  pub accords : Accords drives name (exchanges_by name before) (start_by run of)

-- what they show goes on as lines do
accords_go : (drives : Geometry) (name : List ℕ) → IsSound drives → GoesOn drives name IsClosed (Accords drives name)
accords_go drives name sound = record {
  none = accords_none drives name;
  quiet = accords_quiet drives name 0 sound;
  line = λ fresh lines calls from mid one answer comes said told led old closed. accords_line drives name fresh sound lines calls from mid one answer comes said told led old closed;
  work = accords_work drives name 0 sound;
}

pub starts : (drives : Geometry) (name : List ℕ) (before : List Ran) (script : Script) → Contains drives.hosts name → (run : Running drives name before script) → Starts run
starts drives name before script of_table run =
    let is = life_goes_on drives name IsClosed (Accords drives name) (accords_go drives name run.life.fair) of_table run.made (λ earlier its_script other. none_open drives name of_table earlier its_script other) before run.t.tale run.life in
    record { of = is.history; accords = is.is }

-- At each place of a run between two lines nothing is open, if each line so far that makes a database was refused.
module _ (drives : Geometry) (name : List ℕ) (before : List Ran) (script : Script) (of_table : Contains drives.hosts name) (run : Running drives name before script) where
  abbrev host : Host
  host = host_of drives name run.fresh

  module _ (by : RunToldBy host run.stretch run.start run.t.tale script run.tells.bytes run.m) where
    abbrev begun : At
    begun = behind_boot by.booted by.by by.kept script

    abbrev Closed : ℕ → At → List ℕ → List Exchange → Type 0
    Closed n now left lines =
        (front : List ℕ) (place : At) (upto : LinesTold host run.stretch n now front place) (k : ℕ) (rest : List ℕ) → LinesTold host run.stretch k place rest by.lines.at → AreRefused (lines ++ lines_here host run.stretch n now place front upto) → place.kept.memory.opened ≡ None

    each_closed : (n : ℕ) (now : At) (left : List ℕ) (these : LinesTold host run.stretch n now left by.lines.at) (lines : List Exchange) → Closed n now left lines → EachTold host run.stretch n now by.lines.at left these ClosedAt lines
    each_closed n now left (no_line bytes at) lines closed = (λ refused. closed [] now (no_line n now) n left (no_line bytes at) (subst AreRefused (sym (append-nil lines)) refused), tt)
    each_closed n now left (one_more bytes at mid end piece behind some line_told shown more) lines closed =
        let here = said_of now.script (text_of line_told.answer) in
        let closed_behind : Closed (n + length piece) mid behind (lines ++ here) = λ front place upto k others these refused.
        closed (piece ++ front) place (one_more n now mid place piece front some line_told shown upto) k others these (subst AreRefused (append_assoc lines here (lines_here host run.stretch (n + length piece) mid place front upto)) refused) in
        (λ refused. closed [] now (no_line n now) n left (one_more n now mid by.lines.at piece behind some line_told shown more) (subst AreRefused (sym (append-nil lines)) refused), each_closed (n + length piece) mid behind more (lines ++ here) closed_behind)

    run_closed : EachTold host run.stretch 0 begun by.lines.at by.lines.so_far by.lines.lines ClosedAt (exchanges_by name before)
    run_closed = each_closed 0 begun by.lines.so_far by.lines.lines (exchanges_by name before)
        (λ front place upto k rest more. none_open drives name of_table before script run by front place upto k rest more)

  -- so before each line of those that led to one
  pub unopened : (of : IsHistoryOf drives name run.made before run.t.tale) (here : List Exchange) (one : Exchange) (at : Reached run of here one)
      → EachSo host (Failed run) ClosedAt (exchanges_by name before) (record { kept = at.first; sure = at.first_sure }) (record { kept = at.kept; sure = at.sure }) here at.steps
  unopened of here one at = at.each ClosedAt run_closed
