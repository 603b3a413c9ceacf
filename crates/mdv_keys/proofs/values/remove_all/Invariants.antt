use Rattle.std.proofs.Common.{◌≡◌, take}
use Rattle.mdv_keys.specs.Keys.{kept}
use Rattle.mdv_keys.proofs.values.remove_all.Given as goal

abbrev pub invariant-loop-key : goal.invariant-loop-key
invariant-loop-key g l = l.values ≡ kept g.T.Keyed.key (take l.key-index l.keys) l.initial.values
