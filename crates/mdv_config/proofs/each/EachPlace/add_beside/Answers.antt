use Rattle.std.proofs.Common.{◌≡◌, ◌+◌, List, [], ◌∷◌, ◌++◌, ap, sym, refl, ◌∙◌, length, arith}
use Rattle.std.proofs.lemmas.Bool.{false≢true}
use Rattle.std.proofs.lemmas.List.{length_push}
use Rattle.mdv_config.specs.Below.{Place}
use Rattle.mdv_config.proofs.Beside.{added_more, beside_same}
use Rattle.mdv_config.proofs.each.EachPlace.add_beside.Goals as goal
use Rattle.mdv_config.proofs.each.EachPlace.add_beside.Goals.{then-not-is_among, else-not-is_among}

longer : (l next : List Place) (p : Place) → next ≡ l ++ p ∷ [] → length next ≡ length l + 1
longer l next p is = ap length is ∙ length_push l p

pub loop-place-preserved : goal.loop-place-preserved
loop-place-preserved c =
    let start = c.args.self.now in
    let so_far = c.loop-place.invariant in
    elim c.if-not-is_among.branch [
      | then-not-is_among w ↦
          let is = w.self-is ∙ w.push.ensures in
          record {
            added = is ∙ added_more c.args.old.now c.args.new.now c.loop-place.place-index _ c.loop-place-test.true start c.loop-place.self so_far.added (λ has. false≢true (w.if-not-is_among.ensures.1 has));
            few = omega (arith, so_far.few, longer c.loop-place.self c.if-not-is_among.self _ is);
          }
      | else-not-is_among w ↦
          let same = beside_same c.args.old.now c.args.new.now c.loop-place.place-index _ c.loop-place-test.true (w.if-not-is_among.ensures.0 refl) in
          record {
            added = w.self-is ∙ so_far.added ∙ ap (λ (l : List Place). start ++ l) (sym same);
            few = omega (arith, so_far.few, ap length w.self-is);
          }
    ]
