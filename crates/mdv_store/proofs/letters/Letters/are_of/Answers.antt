use Rattle.std.proofs.Common.{◌≡◌, ◌∙◌, List, length, slice_index_or, refl, sym, ap, arith}
use Rattle.std.proofs.lemmas.List.{length-map}
use Rattle.mdv_store.specs.Letters.{places_seen}
use Rattle.mdv_store.specs.declared.letters.Lettered.{Lettered}
use Rattle.mdv_store.proofs.Lettering.{same_lists}
use Rattle.mdv_store.proofs.letters.Letters.are_of.Goals as goal

pub returns : goal.returns
returns c =
    let same : c.args.self.now ≡ c.as_slice-seen.result.now = sym c.self.view_is ∙ sym c.as_slice-seen.ensures in
    let count : length (places_seen c.args.self.now) ≡ length c.as_slice-seen.result.now = length-map c.args.self.now (λ (l : Lettered). l.place) ∙ ap length same in (
      λ all. same_lists (places_seen c.args.self.now) c.args.places.now (count ∙ c.if-seen-places.false) (λ k d below. ap (λ (l : List Lettered). slice_index_or (places_seen l) k d) same ∙ c.loop-index.invariant k d (omega (arith, below, count, c.loop-index-test.false))),
      λ same. refl,
    )
