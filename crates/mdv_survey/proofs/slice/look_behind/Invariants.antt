use Rattle.std.proofs.Common.{◌≡◌, ◌≤◌}
use Rattle.mdv_survey.specs.Below.{slot_blocks}
use Rattle.mdv_survey.proofs.Walking.{SoFar}
use Rattle.mdv_survey.proofs.slice.look_behind.Given as goal

abbrev pub invariant-loop-number : goal.invariant-loop-number
invariant-loop-number g l = record {
  few : l.number ≤ 255;
  whole : l.body ≡ slot_blocks l.first.first.blocks;
  so : SoFar g.S.Shelf l.geometry l.site l.first.line l.first.first l.number l.fn.shelf l.shelf l.fn.finds l.finds;
}
