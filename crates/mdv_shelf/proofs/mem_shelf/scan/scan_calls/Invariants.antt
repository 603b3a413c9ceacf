use Rattle.std.proofs.Common.{◌≡◌, ◌+◌, ◌<◌, ◌≤◌, take}
use Rattle.mdv_shelf.specs.Tale.{Start, Begun, values, last}
use Rattle.mdv_shelf.specs.MemHistory.{continued, ScansTo}
use Rattle.mdv_shelf.proofs.mem_shelf.scan.scan_calls.Given as goal

abbrev pub invariant-loop-call : goal.invariant-loop-call
invariant-loop-call l = record {
  some : 0 < l.found.count;
  few : l.found.count ≤ l.call-index + 1;
  scans : (s : Start) → s.block l.drive l.block ≡ l.start → ScansTo l.found.last l.found.count l.found.found l.wanted
      (values (continued (Begun s) (take l.call-index l.calls)) l.drive l.block) (last (continued (Begun s) (take l.call-index l.calls)) l.drive l.block);
}
