use Rattle.std.proofs.Common.{map, string_bytes, subst, ap, ◌∙◌}
use Rattle.mdv_name.specs.declared.geometry.Geometry.{Geometry}
use Rattle.mdv_name.specs.Geometry.{IsFaultOf}
use Rattle.mdv_name.proofs.OneTable.{one_table, never_both}
use Rattle.mdv_home.proofs.Read.{read_table}
use Rattle.mdv_files.specs.Bench.{sizes_in}
use Rattle.mdv_files.specs.Opening.{foreign_in}
use Rattle.mdv_files.proofs.opening.open_table.Goals as goal

pub open_drives-requires : goal.open_drives-requires
open_drives-requires c = λ n drive below. ((read_table c.args.table.now c.in-Ok.geometry c.in-Ok.ensures.ok).drives n drive below).most

pub returns-in_ok-wrong_line-in-Err-BadLine-clause-drives : goal.returns-in_ok-wrong_line-in-Err-BadLine-clause-drives
returns-in_ok-wrong_line-in-Err-BadLine-clause-drives c = λ t is. absurd (never_both c.args.table.now t c.in-Err-BadLine.number is (subst (IsFaultOf c.args.table.now) c.in-Err-BadLine.field-0-is c.in-Err-BadLine.ensures.fault))

pub returns-in_ok-opened-in-Ok-clause-drives : goal.returns-in_ok-opened-in-Ok-clause-drives
returns-in_ok-opened-in-Ok-clause-drives c = λ t is. c.in_ok-opened-in-Ok.ensures.drives ∙ ap (λ (g : Geometry). sizes_in g.drives) (one_table c.args.table.now c.in-Ok.geometry t c.in-Ok.ensures.ok is)

pub returns-in_ok-wrong_line-in-Err-BadLine-clause-foreign : goal.returns-in_ok-wrong_line-in-Err-BadLine-clause-foreign
returns-in_ok-wrong_line-in-Err-BadLine-clause-foreign c = λ t is. absurd (never_both c.args.table.now t c.in-Err-BadLine.number is (subst (IsFaultOf c.args.table.now) c.in-Err-BadLine.field-0-is c.in-Err-BadLine.ensures.fault))

pub returns-in_ok-opened-in-Ok-clause-foreign : goal.returns-in_ok-opened-in-Ok-clause-foreign
returns-in_ok-opened-in-Ok-clause-foreign c = λ t is. c.in_ok-opened-in-Ok.ensures.foreign ∙ ap (λ (g : Geometry). foreign_in (map string_bytes c.args.words.now) g.drives) (one_table c.args.table.now c.in-Ok.geometry t c.in-Ok.ensures.ok is)
