use Rattle.std.proofs.Common.{◌≡◌}
use Rattle.std.specs.Prelude.{slice_get}
use Rattle.mdv_notes.specs.Flags.{flag_noted}
use Rattle.mdv_notes.proofs.Walks.{walked}
use Rattle.mdv_notes.proofs.flags.note_flag.Given as goal

abbrev pub invariant-loop-place : goal.invariant-loop-place
invariant-loop-place l = l.flags ≡ walked (λ k flag. flag_noted l.sub l.offline (slice_get l.subs k) flag) 0 l.place l.initial.flags
