use Rattle.std.proofs.Common.{◌∙◌, Bool, false, Option, ap, set, get_or}
use Rattle.std.specs.Prelude.{slice_get}
use Rattle.mdv_notes.specs.Below.{VolId}
use Rattle.mdv_notes.specs.Flags.{flag_noted}
use Rattle.mdv_notes.proofs.Walks.{walked_more, walked_flags}
use Rattle.mdv_notes.proofs.flags.note_flag.Goals as goal

pub loop-place-preserved : goal.loop-place-preserved
loop-place-preserved c =
    let flags = c.loop-place.flags in
    let k = c.loop-place.place in
    ap (λ (b : Bool). set flags k b) c.flag_noted.ensures
    ∙ ap (λ (o : Option VolId). set flags k (flag_noted c.args.sub c.args.offline o (get_or flags k false))) c.sub_at.ensures
    ∙ walked_more (λ k flag. flag_noted c.args.sub c.args.offline (slice_get c.args.subs.now k) flag) k false c.args.flags.now flags c.loop-place.invariant c.loop-place-test.true

pub returns : goal.returns
returns c = c.loop-place.invariant ∙ walked_flags c.args.sub c.args.offline c.loop-place.place c.args.subs.now c.args.flags.now c.loop-place-test.false
