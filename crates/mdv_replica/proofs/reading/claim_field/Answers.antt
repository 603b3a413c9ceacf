use Rattle.std.proofs.Common.{codes, sym, ◌∙◌, arith}
use Rattle.mdv_replica.specs.Forms.{claim_text}
use Rattle.mdv_replica.proofs.Parts.{claim_parts, behind_text, tail}
use Rattle.mdv_replica.proofs.reading.claim_field.Goals as goal

pub returns : goal.returns
returns c = record {
  spelled = λ n fits is.
      (c.number64.ensures.spelled n (tail (claim_text n)) (omega arith) (
      behind_text (codes "MDVCLAIM") c.bytes-text.result.now c.args.block.now c.bytes-text.new.self _ c.bytes-text.ensures.length (sym c.new-rest.ensures ∙ c.bytes-text.ensures.spelled) (is ∙ claim_parts n)
      )).0;
}
