use Rattle.std.proofs.Common.{◌≡◌, take}
use Rattle.mdv_engine_law.specs.Hosts.{lines_asked}
use Rattle.mdv_engine.proofs.engine.Engine.lines_asked.Given as goal

abbrev pub invariant-loop-slice : goal.invariant-loop-slice
invariant-loop-slice l = l.lines.items ≡ lines_asked l.self.host (take l.slice-index l.slices)
