use Rattle.std.proofs.Common.{◌∙◌, ap, ◌≡◌, ◌-◌, List, ℕ, length}
use Rattle.mdv_quorum.specs.Below.{Spot, Version, SpotState, is_in, is_written, table_at}
use Rattle.mdv_quorum.specs.declared.machine.Stage.TheVariants.{Writing}
use Rattle.mdv_quorum.specs.World.{settled, last_table, places_after}
use Rattle.mdv_quorum.proofs.machine.Core.write.Goals as goal

pub returns : goal.returns
returns c =
    let w = c.args.self.now in
    let last : c.saturating_sub-last.result ≡ length w.family - 1 = c.saturating_sub-last.ensures ∙ ap (λ (l : List Version). length l - 1) c.as_slice.ensures in
    let table : c.table_at.result.now ≡ last_table w =
    c.table_at.ensures ∙ ap (λ (l : List Version). table_at l c.saturating_sub-last.result) c.as_slice-2.ensures ∙ ap (table_at w.family) last in
    let written : c.is_written-written.result ≡ is_written (last_table w) (is_in c.args.took) =
    c.is_written-written.ensures ∙ ap (λ (t : Version). is_written t (is_in c.as_slice-3.result.now)) table
    ∙ ap (λ (l : List Spot). is_written (last_table w) (is_in l)) c.as_slice-3.ensures in
    let places : c.after_write.new.places ≡ places_after w.places (length w.family - 1) c.args.p c.args.end =
    c.after_write.ensures ∙ ap (λ (k : ℕ). places_after w.places k c.args.p c.args.end) last in
    c.settle_last.ensures
    ∙ ap (λ (l : List SpotState). settled (record w { places = l; stage = Writing c.args.boot c.args.took }) (last_table w) c.is_written-written.result) places
    ∙ ap (settled (record w { places = places_after w.places (length w.family - 1) c.args.p c.args.end; stage = Writing c.args.boot c.args.took }) (last_table w)) written
