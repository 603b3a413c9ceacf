use Rattle.std.proofs.Common.{length, ap, arith}
use Rattle.mdv_base.specs.Bytes.{padded_again}
use Rattle.mdv_extent.proofs.Fields.{field_laid}
use Rattle.mdv_extent.proofs.page.Page.bytes.Goals as goal

pub invariant_of-self : goal.invariant_of-self
invariant_of-self c =
    let used = (padded_again 512 c.self.inside.block c.self.inside.used c.self.invariant).1 in
    field_laid 512 c.self.inside.used c.self.inside.block c.args.field.now c.copy_from_slice.new.self c.self.invariant (omega (arith, c.requires, ap length c.self.view_is, used)) c.copy_from_slice.ensures.after
