use Rattle.std.proofs.Common.{sym, ◌∙◌, ap, arith, ◌≡◌, List, ℕ, slice_set}
use Rattle.mdv_votes.specs.declared.version.SpotState.{SpotState}
use Rattle.mdv_votes.specs.Family.{index_at}
use Rattle.mdv_votes.proofs.Listing.{replaced_inside, held_inside}
use Rattle.mdv_votes.proofs.places.change.Goals as goal

pub set-requires : goal.set-requires
set-requires c =
    let index : c.index_of-index.result ≡ index_at c.args.places.now c.args.p = c.index_of-index.ensures ∙ ap (λ (l : List SpotState). index_at l c.args.p) c.as_slice.ensures in
    omega (arith, index, held_inside c.args.places.now c.args.p c.requires)

pub returns : goal.returns
returns c =
    let index : c.index_of-index.result ≡ index_at c.args.places.now c.args.p = c.index_of-index.ensures ∙ ap (λ (l : List SpotState). index_at l c.args.p) c.as_slice.ensures in
    c.set.ensures ∙ ap (λ (k : ℕ). slice_set c.args.places.now k c.args.place) index
    ∙ sym (replaced_inside c.args.places.now c.args.p c.args.place (held_inside c.args.places.now c.args.p c.requires))
