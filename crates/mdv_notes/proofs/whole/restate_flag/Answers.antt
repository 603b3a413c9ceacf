use Rattle.std.proofs.Common.{◌∙◌, sym}
use Rattle.mdv_notes.specs.Noted.{with_flag}
use Rattle.mdv_notes.proofs.Exchanging.{none_exchanged, put_back}
use Rattle.mdv_notes.proofs.whole.restate_flag.Goals as goal

pub returns-in-Some : goal.returns-in-Some
returns-in-Some c =
    put_back c.args.volume (with_flag c.args.subs.now c.args.sub c.args.offline) c.in-Some.old c.with_flag_noted.result c.args.volumes.now c.exchange.new.self c.replace.new.self c.as_slice-ascending.ensures.ascending c.in-Some.ensures.value c.exchange.ensures.list c.with_flag_noted.ensures c.replace.ensures

pub returns-in_default : goal.returns-in_default
returns-in_default c = c.exchange.ensures.list ∙ none_exchanged c.args.volume (with_flag c.args.subs.now c.args.sub c.args.offline) c.args.volumes.now (sym c.in_default.ensures.value)
