use Rattle.std.proofs.Common.{◌∙◌, ◌+◌, length}
use Rattle.mdv_shelf.proofs.MemLaws.{range_fits, block_there}
use Rattle.mdv_shelf.proofs.mem_shelf.history.History.read.Goals as goal

pub copy_to-requires : goal.copy_to-requires
copy_to-requires c = range_fits c.args.self.now.disks.items c.args.drive c.args.at (length c.args.out.now) c.requires c.index.result.now c.index.ensures

pub returns : goal.returns
returns c = λ k lt. c.copy_to.ensures k lt
    ∙ block_there c.args.self.now.disks.items c.args.drive c.args.at (length c.args.out.now) c.requires c.index.result.now c.index.ensures (c.args.at + k)
    ∙ c.args.self.now.shows c.args.drive (c.args.at + k)
