use Rattle.std.proofs.Common.{◌∙◌, ap, ◌≡◌, ◌-◌, ◌++◌, ◌∷◌, [], List, length}
use Rattle.mdv_quorum.specs.Below.{Spot, Version, is_in, is_written, table_at}
use Rattle.mdv_quorum.specs.declared.machine.Core.{Core}
use Rattle.mdv_quorum.specs.declared.machine.Stage.TheVariants.{Writing}
use Rattle.mdv_quorum.specs.World.{settled, places_after, taken_after}
use Rattle.mdv_quorum.proofs.machine.Core.write_first.Goals as goal

pub returns-clause-ok : goal.returns-clause-ok
returns-clause-ok c =
    let w = c.args.self.now in
    let after : List Version → List Spot → Core = λ family took.
    settled (record w { family = family; places = places_after w.places (length family - 1) c.args.p c.args.end; stage = Writing c.args.boot took })
    (table_at family (length family - 1)) (is_written (table_at family (length family - 1)) (is_in took)) in
    let took : c.in_ok-took.took ≡ taken_after [] c.args.p c.args.end = c.in_ok-took.ensures ∙ ap (λ (l : List Spot). taken_after l c.args.p c.args.end) c.new.ensures in
    c.write.ensures ∙ ap (λ (l : List Version). after l c.in_ok-took.took) c.in_ok-push.ensures.ok ∙ ap (after (w.family ++ c.args.next ∷ [])) took
