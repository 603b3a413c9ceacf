use Rattle.std.proofs.Common.{◌≡◌, vec_len}
use Rattle.mdv_keys.specs.Keys.{replaced}
use Rattle.mdv_keys.proofs.values.replace_all.Given as goal

abbrev pub invariant-loop-item : goal.invariant-loop-item
invariant-loop-item g l = replaced g.T.Keyed.key l.values l.items.items ≡ replaced g.T.Keyed.key l.initial.values l.initial.items.items

abbrev pub decreases-loop-item : goal.decreases-loop-item
decreases-loop-item g l = vec_len l.items
