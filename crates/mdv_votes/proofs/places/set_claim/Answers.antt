use Rattle.std.proofs.Common.{sym, ◌∙◌, ap, List, ◌≡◌}
use Rattle.mdv_votes.specs.declared.version.SpotState.{SpotState}
use Rattle.mdv_votes.specs.Family.{with_claim, replaced_at, place_at}
use Rattle.mdv_votes.proofs.Listing.{put_replaces}
use Rattle.mdv_votes.proofs.places.set_claim.Goals as goal

pub returns : goal.returns
returns c =
    let place : c.place_at-place.result ≡ place_at c.args.places.now c.args.p = c.place_at-place.ensures ∙ ap (λ (l : List SpotState). place_at l c.args.p) c.as_slice.ensures in
    c.change.ensures ∙ ap (λ (x : SpotState). replaced_at c.args.places.now c.args.p (with_claim c.args.claim x)) place ∙ sym (put_replaces c.args.places.now c.args.p (with_claim c.args.claim))
