use Rattle.std.proofs.Common.{◌≡◌, ◌<◌, ◌+◌, ℕ, Bool, true, false, List, [], ◌∷◌, ◌++◌, length, take, slice_index_or, sym, ◌∙◌, ap, subst, arith}
use Rattle.std.proofs.lemmas.List.{length-take, length_push, take_all, take_more}
use Rattle.mdv_name.specs.SliceIndex.{same_slice}
use Rattle.mdv_acts.specs.Below.{Place}
use Rattle.mdv_acts.proofs.Ordering.{IsSoFar, so_far_length, so_far_less, so_far_none, so_far_over, so_far_past, so_far_put}
use Rattle.mdv_acts.proofs.Trying.{no_place}
use Rattle.mdv_acts.proofs.wiping.in_front.Goals as goal
use Rattle.mdv_acts.proofs.wiping.in_front.Goals.{then-not-is_in+then-same_slice, else-not-is_in, else-not-is_in-via-then-not-is_in+else-same_slice, else-not-is_in-via-else-not-is_in}

pub push-requires-in-loop-other : goal.push-requires-in-loop-other
push-requires-in-loop-other c =
    let front = take c.loop-other.other-index c.args.ordered.now in
    let few = length-take c.loop-other.other-index c.args.ordered.now in
    let below = c.loop-other-test.true in
    let most = c.requires in
    elim c.if-not-is_in.branch [
      | then-not-is_in+then-same_slice w ↦
          let so = subst (λ (b : Bool). IsSoFar c.args.place front b c.loop-other.next) w.if-not-is_in.true c.loop-other.invariant in
          let less = so_far_less c.args.place front c.loop-other.next so in
          let more = length_push c.loop-other.next c.args.place in
          let same : length c.if-not-is_in.next ≡ length (c.loop-other.next ++ c.args.place ∷ []) = ap length (w.next-is ∙ w.push.ensures) in
          omega (arith, less, more, same, few, below, most)
      | else-not-is_in w ↦
          let long = so_far_length c.args.place front c.loop-other.next c.loop-other.is_in c.loop-other.invariant in
          let same : length c.if-not-is_in.next ≡ length c.loop-other.next = ap length w.next-is in
          omega (arith, long, same, few, below, most)
    ]

-- with the place that came next
at_next : (p : Place) (places next : List Place) (i : ℕ) (is_in : Bool) → i < length places → IsSoFar p (take i places ++ slice_index_or places i no_place ∷ []) is_in next → IsSoFar p (take (i + 1) places) is_in next
at_next p places next i is_in below so = subst (λ (front : List Place). IsSoFar p front is_in next) (sym (take_more places i no_place below)) so

now_is : (p : Place) (front next later : List Place) (is_in now : Bool) → now ≡ is_in → later ≡ next → IsSoFar p front is_in next → IsSoFar p front now later
now_is p front next later is_in now one two so = subst (λ (b : Bool). IsSoFar p front b later) (sym one) (subst (λ (l : List Place). IsSoFar p front is_in l) (sym two) so)

pub loop-other-preserved : goal.loop-other-preserved
loop-other-preserved c =
    let p = c.args.place in
    let places = c.args.ordered.now in
    let i = c.loop-other.other-index in
    let front = take i places in
    let q = slice_index_or places i no_place in
    let below = c.loop-other-test.true in
    elim c.if-not-is_in.branch [
      | then-not-is_in+then-same_slice w ↦
          let so = subst (λ (b : Bool). IsSoFar p front b c.loop-other.next) w.if-not-is_in.true c.loop-other.invariant in
          let same : same_slice q.slice p.slice ≡ true = sym w.same_slice.ensures ∙ w.if-same_slice.true in
          now_is p (take (i + 1) places) ((c.loop-other.next ++ p ∷ []) ++ q ∷ []) c.push-in-loop-other.new.self true c.if-not-is_in.is_in w.is_in-is
          (c.push-in-loop-other.ensures ∙ ap (λ (l : List Place). l ++ q ∷ []) (w.next-is ∙ w.push.ensures)) (at_next p places ((c.loop-other.next ++ p ∷ []) ++ q ∷ []) i true below (so_far_put p front c.loop-other.next q so same))
      | else-not-is_in w ↦
          let later : c.push-in-loop-other.new.self ≡ c.loop-other.next ++ q ∷ [] = c.push-in-loop-other.ensures ∙ ap (λ (l : List Place). l ++ q ∷ []) w.next-is in
          elim w.else-not-is_in.branch [
            | else-not-is_in-via-then-not-is_in+else-same_slice v ↦
                let so = subst (λ (b : Bool). IsSoFar p front b c.loop-other.next) v.if-not-is_in.true c.loop-other.invariant in
                let other : same_slice q.slice p.slice ≡ false = sym v.same_slice.ensures ∙ v.if-same_slice.false in
                now_is p (take (i + 1) places) (c.loop-other.next ++ q ∷ []) c.push-in-loop-other.new.self false c.if-not-is_in.is_in (w.is_in-is ∙ v.if-not-is_in.true) later
                (at_next p places (c.loop-other.next ++ q ∷ []) i false below (so_far_over p front c.loop-other.next q so other))
            | else-not-is_in-via-else-not-is_in v ↦
                let so = subst (λ (b : Bool). IsSoFar p front b c.loop-other.next) v.if-not-is_in.false c.loop-other.invariant in
                now_is p (take (i + 1) places) (c.loop-other.next ++ q ∷ []) c.push-in-loop-other.new.self true c.if-not-is_in.is_in (w.is_in-is ∙ v.if-not-is_in.false) later
                (at_next p places (c.loop-other.next ++ q ∷ []) i true below (so_far_past p front c.loop-other.next q so))
          ]
    ]

pub returns-then-not-is_in-2 : goal.returns-then-not-is_in-2
returns-then-not-is_in-2 c =
    let places = c.args.ordered.now in
    let i = c.loop-other.other-index in
    let whole : take i places ≡ places = take_all i places c.loop-other-test.false in
    c.push-then-not-is_in-2.ensures
    ∙ so_far_none c.args.place places c.loop-other.next
    (subst (λ (front : List Place). IsSoFar c.args.place front false c.loop-other.next) whole (subst (λ (b : Bool). IsSoFar c.args.place (take i places) b c.loop-other.next) c.if-not-is_in-2.true c.loop-other.invariant))
