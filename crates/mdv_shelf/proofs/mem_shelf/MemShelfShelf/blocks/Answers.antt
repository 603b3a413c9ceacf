use Rattle.std.proofs.Common.{◌∙◌, sym, ap, length}
use Rattle.mdv_shelf.specs.declared.mem_shelf.disk.Disk.{Disk}
use Rattle.mdv_shelf.proofs.MemLaws.{size_at}
use Rattle.mdv_shelf.proofs.mem_shelf.MemShelfShelf.blocks.Goals as goal

pub returns : goal.returns
returns c =
    c.len.ensures
    ∙ c.index.result.now.latest.ok.0
    ∙ ap (λ (x : Disk). length x.latest.items) c.index.ensures
    ∙ sym (size_at c.args.self.now.history.disks.items c.args.drive.0 c.index.result.now c.requires)
