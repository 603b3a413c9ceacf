use Rattle.std.proofs.Common.{◌+◌, ◌*◌, ◌/◌, length, map, refl, arith}
use Rattle.mdv_layout.specs.declared.layout.Layout.{Layout}
use Rattle.mdv_layout.specs.declared.row.LaidRow.{LaidRow}
use Rattle.mdv_layout.proofs.Added.{few_blocks, is_added, laid_by, row_lies}
use Rattle.mdv_layout.proofs.Adding.{stays_well}
use Rattle.mdv_layout.specs.Leaves.{leaf_of}
use Rattle.mdv_layout.proofs.layout.Layout.add.Goals as goal

pub overflow_mul-self : goal.overflow_mul-self
overflow_mul-self c =
    let all = few_blocks c.args.geometry.now c.requires.sound c.args.row.now c.requires.row c.args.self.now c.as_slice-components.result.now c.depth_of-depth.result c.requires.well c.requires.room c.as_slice-components.ensures.value c.depth_of-depth.ensures in
    omega arith

pub overflow_add-self : goal.overflow_add-self
overflow_add-self c =
    let all = few_blocks c.args.geometry.now c.requires.sound c.args.row.now c.requires.row c.args.self.now c.as_slice-components.result.now c.depth_of-depth.result c.requires.well c.requires.room c.as_slice-components.ensures.value c.depth_of-depth.ensures in
    omega arith

pub returns-clause-well : goal.returns-clause-well
returns-clause-well c =
    let g = c.args.geometry.now in
    let old = c.args.self.now in
    let row = c.args.row.now in
    let cs = c.as_slice-components.result.now in
    let deep = c.depth_of-depth.result in
    let interlace = c.from-interlace.result in
    let new : Layout = record { leaves = c.add_leaves.new.leaves; rows = c.push.new.self; blocks = old.blocks + length cs * deep } in
    let laid : LaidRow = record { start = old.blocks; first = c.len-first.result; width = length cs; interlace = interlace; units = deep / interlace } in
    let lies = laid_by g c.requires.sound row c.requires.row old new cs c.len-first.result deep interlace c.as_slice-components.ensures.value c.len-first.ensures.value c.depth_of-depth.ensures c.from-interlace.ensures c.add_leaves.ensures refl c.push.ensures.items in
    stays_well old new (map (leaf_of g) row.components) laid c.requires.well (is_added g c.requires.sound row c.requires.row old new laid c.requires.room lies)

pub returns-clause-laid : goal.returns-clause-laid
returns-clause-laid c =
    let g = c.args.geometry.now in
    let old = c.args.self.now in
    let row = c.args.row.now in
    let cs = c.as_slice-components.result.now in
    let deep = c.depth_of-depth.result in
    let interlace = c.from-interlace.result in
    let new : Layout = record { leaves = c.add_leaves.new.leaves; rows = c.push.new.self; blocks = old.blocks + length cs * deep } in
    let laid : LaidRow = record { start = old.blocks; first = c.len-first.result; width = length cs; interlace = interlace; units = deep / interlace } in
    let lies = laid_by g c.requires.sound row c.requires.row old new cs c.len-first.result deep interlace c.as_slice-components.ensures.value c.len-first.ensures.value c.depth_of-depth.ensures c.from-interlace.ensures c.add_leaves.ensures refl c.push.ensures.items in
    row_lies g c.requires.sound row c.requires.row old new laid c.requires.room lies c.requires.well
