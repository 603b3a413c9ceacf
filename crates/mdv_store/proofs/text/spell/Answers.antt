use Rattle.std.proofs.Common.{◌/◌, ◌∙◌, ap, arith, length}
use Rattle.mdv_store.specs.Text.{blocks_for}
use Rattle.mdv_store.proofs.Texts.{spelled_is}
use Rattle.mdv_store.proofs.text.spell.Goals as goal

pub returns : goal.returns
returns c = record {
  spelled = spelled_is c.args.table.now c.lay-bytes.result (length c.lay-bytes.new.text / 512) c.lay-bytes.new.text (omega arith) (omega arith) c.blocks_for.result c.as_chunks.result.0.now (c.blocks_for.ensures ∙ ap blocks_for c.from.ensures) c.as_chunks.ensures.front
      c.as_chunks.ensures.front_len c.lay-bytes.ensures.bytes c.lay-bytes.ensures.text (omega arith);
}
