use Rattle.std.proofs.Common.{List, sym, subst, ◌∙◌, ap}
use Rattle.mdv_base.specs.declared.drive.DriveNo.{DriveNo}
use Rattle.mdv_home.specs.View.{view_on}
use Rattle.mdv_name.specs.Sound.{IsSound}
use Rattle.mdv_names_tests.proofs.site_tests.view.Goals as goal

pub returns : goal.returns
returns c =
    subst IsSound (sym (c.in_ok-seen.ensures ∙ ap (λ (own : List DriveNo). view_on own c.in_ok-geometry.geometry) c.of-own.ensures))
    (c.views_are_own.ensures.sound c.in_ok-geometry.geometry c.args.host.now c.in_ok-geometry.ensures)
