use Rattle.std.proofs.Common.{sym, ◌∙◌, ap, subst, arith, ◌<◌, ◌≤◌, ◌≡◌, List, length, OnOk, ℕ, slice_set}
use Rattle.mdv_votes.specs.declared.version.SpotState.{SpotState}
use Rattle.mdv_votes.specs.Family.{index_at}
use Rattle.mdv_votes.proofs.Listing.{replaced_inside, replaced_outside}
use Rattle.mdv_votes.proofs.places.put.Goals as goal

pub returns-then-index-as_slice-clause-ok : goal.returns-then-index-as_slice-clause-ok
returns-then-index-as_slice-clause-ok c =
    let index : c.index_of-index.result ≡ index_at c.args.places.now c.args.p = c.index_of-index.ensures ∙ ap (λ (l : List SpotState). index_at l c.args.p) c.as_slice.ensures in
    let within : index_at c.args.places.now c.args.p < length c.args.places.now = omega (arith, c.if-index-as_slice.true, index, ap length c.as_slice-2.ensures) in
    c.set.ensures ∙ ap (λ (k : ℕ). slice_set c.args.places.now k c.args.place) index ∙ sym (replaced_inside c.args.places.now c.args.p c.args.place within)

pub returns-else-index-as_slice-clause-ok : goal.returns-else-index-as_slice-clause-ok
returns-else-index-as_slice-clause-ok c =
    let index : c.index_of-index.result ≡ index_at c.args.places.now c.args.p = c.index_of-index.ensures ∙ ap (λ (l : List SpotState). index_at l c.args.p) c.as_slice.ensures in
    let outside : length c.args.places.now ≤ index_at c.args.places.now c.args.p = omega (arith, c.if-index-as_slice.false, index, ap length c.as_slice-2.ensures) in
    subst (λ (l : List SpotState). OnOk c.push.result (c.push.new.self ≡ l)) (sym (replaced_outside c.args.places.now c.args.p c.args.place outside)) c.push.ensures.ok
