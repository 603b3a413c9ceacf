use Rattle.mdv_names_tests.proofs.site_tests.table.Goals as goal

pub returns : goal.returns
returns c = c.read_geometries_are_sound.ensures _ c.in_ok-geometry.geometry c.in_ok-geometry.ensures.ok
