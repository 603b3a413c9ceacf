use Rattle.std.proofs.Common.{◌≡◌, ◌≤◌, ◌++◌, drop, length}
use Rattle.mdv_home.specs.Drives.{own_drives, own_from}
use Rattle.mdv_home.proofs.drives.OwnDrives.of.Given as goal

abbrev pub invariant-loop-number : goal.invariant-loop-number
invariant-loop-number l = record { joined : l.numbers.items ++ own_from l.number l.host (drop l.number l.lines) ≡ own_drives l.table l.host; few : length l.numbers.items ≤ l.number }
