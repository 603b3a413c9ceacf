use Rattle.std.proofs.Common.{ℕ, ◌+◌, ◌<◌, ◌^◌}
use Rattle.std.specs.List.{slice_index_or}
use Rattle.mdv_dev.specs.declared.run.DriveRun.{DriveRun}
use Rattle.mdv_disk_tests.proofs.stripe_tests.are_well.Given as goal

abbrev pub invariant-loop-run : goal.invariant-loop-run
invariant-loop-run l = (k : ℕ) (d : DriveRun) → k < l.run-index → (slice_index_or l.runs k d).first + (slice_index_or l.runs k d).count < 2 ^ 64
