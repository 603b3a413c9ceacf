use Rattle.std.proofs.Common.{take}
use Rattle.std.specs.Prelude.{flat_map}
use Rattle.mdv_fields.specs.Laying.{IsLaid}
use Rattle.mdv_whole.proofs.beside.lay_all.Given as goal

abbrev pub invariant-loop-item : goal.invariant-loop-item
invariant-loop-item g l = IsLaid l.fn.used l.fn.out l.out (flat_map (λ x. g.T.Beside.text x l.fn.noted) (take l.item-index l.items)) l.used
