use Rattle.std.proofs.Common.{arith}
use Rattle.mdv_fields.proofs.Placing.{laid, not_laid}
use Rattle.mdv_fields.proofs.laying.lay.Goals.{then-used-out+then-text-out, else-used-out, else-used-out-via-then-used-out+else-text-out, else-used-out-via-else-used-out}
use Rattle.mdv_fields.proofs.laying.lay.Goals as goal

pub returns : goal.returns
returns c = elim c.if-used-out.branch [
  | then-used-out+then-text-out w ↦
      laid c.args.used c.args.out.now c.if-used-out.out c.args.text.now w.copy_from_slice.new.self c.saturating_add.result w.out-is w.copy_from_slice.ensures.after c.if-used-out.auto.out (omega arith) (omega arith) c.saturating_add.ensures
  | else-used-out w ↦ elim w.else-used-out.branch [
    | else-used-out-via-then-used-out+else-text-out w' ↦ rw w.out-is (not_laid c.args.used c.args.out.now c.args.text.now c.saturating_add.result (omega arith) c.saturating_add.ensures)
    | else-used-out-via-else-used-out w' ↦ rw w.out-is (not_laid c.args.used c.args.out.now c.args.text.now c.saturating_add.result (omega arith) c.saturating_add.ensures)
  ]
]
