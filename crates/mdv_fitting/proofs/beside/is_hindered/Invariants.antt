use Rattle.std.proofs.Common.{◌≡◌, ◌<◌, ℕ, false}
use Rattle.mdv_fitting.specs.Firsts.{is_hindered_by}
use Rattle.mdv_fitting.proofs.beside.is_hindered.Given as goal

abbrev pub invariant-loop-number : goal.invariant-loop-number
invariant-loop-number l = (k : ℕ) → k < l.number → is_hindered_by l.geometry l.firsts l.slice k ≡ false
