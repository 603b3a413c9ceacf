use Rattle.std.proofs.Common.{ℕ, arith, length-take, length-drop}
use Rattle.mdv_store.proofs.Texts.{cleared}
use Rattle.mdv_store.proofs.text.lay.Goals as goal

pub returns-clause-zeros : goal.returns-clause-zeros
returns-clause-zeros c = λ k low high.
    let encoded = rw c.unwrap-bytes.ensures at c.encode.ensures.ok in
    cleared c.unwrap-bytes.result k _ c.clear.new.bytes _ (omega (arith, length-take c.unwrap-bytes.result c.encode.new.out, encoded.size)) low (omega (arith, encoded.size, c.clear.auto.bytes, length-take {A = ℕ}, length-drop {A = ℕ})) c.clear.ensures
