use Rattle.std.proofs.Common.{sym, subst}
use Rattle.mdv_home.proofs.Viewing.{view_is_own}
use Rattle.mdv_name.specs.Sound.{IsSound}
use Rattle.mdv_run.proofs.Used.{own_seen}
use Rattle.mdv_run.proofs.session.seen_by.Goals as goal

pub site_of-requires : goal.site_of-requires
site_of-requires c = subst IsSound (sym (own_seen c.args.table c.args.name _ _ c.as_bytes.ensures.value c.of-own.ensures c.in-Ok.ensures)) (view_is_own.sound c.args.table c.args.name c.requires)
