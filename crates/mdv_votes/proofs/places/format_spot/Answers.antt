use Rattle.std.proofs.Common.{sym, ◌∙◌, ap, subst, List, ◌≡◌, ℕ, true, OnOk}
use Rattle.mdv_votes.specs.declared.version.SpotState.{SpotState}
use Rattle.mdv_votes.specs.Family.{formatted, replaced_at, place_at}
use Rattle.mdv_votes.proofs.Listing.{put_replaces}
use Rattle.mdv_votes.proofs.places.format_spot.Goals as goal

pub returns-clause-ok : goal.returns-clause-ok
returns-clause-ok c =
    let was = c.place_at-place.result in
    let place : was ≡ place_at c.args.places.now c.args.p = c.place_at-place.ensures ∙ ap (λ (l : List SpotState). place_at l c.args.p) c.as_slice.ensures in
    let f : SpotState → SpotState = formatted c.args.claim c.args.newest in
    let with_floor : ℕ → SpotState = λ n. record { spot = was.spot; holds = true; claim = c.args.claim; newest = c.args.newest; since = was.since; floor = n } in
    subst (λ (l : List SpotState). OnOk c.put.result (c.put.new.places ≡ l))
    (ap (λ (n : ℕ). replaced_at c.args.places.now c.args.p (with_floor n)) c.raised.ensures ∙ ap (λ (x : SpotState). replaced_at c.args.places.now c.args.p (f x)) place
    ∙ sym (put_replaces c.args.places.now c.args.p f)) c.put.ensures.ok
