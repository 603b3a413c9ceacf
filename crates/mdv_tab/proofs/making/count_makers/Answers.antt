use Rattle.std.proofs.Common.{Vec, Global, ◌≡◌, ◌∙◌, ◌+◌, ◌<◌, ◌≤◌, ℕ, List, length, take, get_or, sym, ap, subst, arith}
use Rattle.std.proofs.Math.ListN.{set}
use Rattle.std.proofs.lemmas.List.{length-map, length-set, length-take-le}
use Rattle.std.specs.Prelude.{sum_by}
use Rattle.mdv_tab.specs.declared.graph.Place.{Place}
use Rattle.mdv_tab.specs.Making.{made_at, makes_of, count_of, name_count, count_name}
use Rattle.mdv_tab.proofs.Makings.{made_here, few_makers, same_at, counted_more, counted_no_more}
use Rattle.mdv_tab.proofs.making.count_makers.Goals as goal
use Rattle.mdv_tab.proofs.making.count_makers.Goals.{in-Some, in_default}

pub index_mut-requires : goal.index_mut-requires
index_mut-requires c =
    let g = c.args.graph.now in
    let k = c.loop-place.place-index in
    let items = c.deref-place-items.ensures.value in
    let at : c.place-item.result ≡ get_or g.places.items k c.place-item.result = c.place-item.is ∙ ap (λ (l : List Place). get_or l k c.place-item.result) items in
    let inside : k < count_of g = omega (arith, c.loop-place-test.true, ap (λ (l : List Place). length l) items) in
    let small = c.requires.graph.makes k c.in-Some.name (made_here g k c.place-item.result inside at ∙ c.in-Some.is) in
    omega (arith, small, c.loop-place.invariant.0, c.loop-place.left.ok.0)

pub overflow_add-index_mut : goal.overflow_add-index_mut
overflow_add-index_mut c =
    let g = c.args.graph.now in
    let k = c.loop-place.place-index in
    let y = c.in-Some.name in
    let items = c.deref-place-items.ensures.value in
    let at : c.place-item.result ≡ get_or g.places.items k c.place-item.result = c.place-item.is ∙ ap (λ (l : List Place). get_or l k c.place-item.result) items in
    let inside : k < count_of g = omega (arith, c.loop-place-test.true, ap (λ (l : List Place). length l) items) in
    let small : y < name_count g = c.requires.graph.makes k y (made_here g k c.place-item.result inside at ∙ c.in-Some.is) in
    let value : c.index_mut.result.now ≡ get_or c.loop-place.left.items y 0 = c.index_mut.ensures.value ∙ same_at c.loop-place.left.items y c.index_mut.result.now 0 (omega (arith, small, c.loop-place.invariant.0)) in
    let is = c.loop-place.invariant.1 y small in
    let few = few_makers (take k (makes_of g)) y in
    let long : length (take k (makes_of g)) ≡ k = length-take-le k (makes_of g) (omega (arith, inside, length-map g.places.items (λ p. p.makes))) in
    let low : c.index_mut.result.now ≤ 1024 = omega (arith, value, is, few, long, inside, c.requires.few) in
    omega (arith, low)

pub loop-place-preserved : goal.loop-place-preserved
loop-place-preserved c =
    let g = c.args.graph.now in
    let k = c.loop-place.place-index in
    let items = c.deref-place-items.ensures.value in
    let at : c.place-item.result ≡ get_or g.places.items k c.place-item.result = c.place-item.is ∙ ap (λ (l : List Place). get_or l k c.place-item.result) items in
    let inside : k < count_of g = omega (arith, c.loop-place-test.true, ap (λ (l : List Place). length l) items) in
    let made : made_at g k ≡ c.place-item.result.makes = made_here g k c.place-item.result inside at in
    let listed : k < length (makes_of g) = omega (arith, inside, length-map g.places.items (λ p. p.makes)) in
    let F : List ℕ → Type 0 = λ l. (length l ≡ name_count g) × ((x : ℕ) → x < name_count g → get_or l x 0 ≡ sum_by (λ m. count_name m x) (take (k + 1) (makes_of g))) in
    elim c.match-place.branch [
      | in-Some w ↦
          let y = w.in-Some.name in
          let small : y < name_count g = c.requires.graph.makes k y (made ∙ w.in-Some.is) in
          let within : y < length c.loop-place.left.items = omega (arith, small, c.loop-place.invariant.0) in
          let value : w.index_mut.result.now ≡ get_or c.loop-place.left.items y 0 = w.index_mut.ensures.value ∙ same_at c.loop-place.left.items y w.index_mut.result.now 0 within in
          let is : c.match-place.left.items ≡ set c.loop-place.left.items y (w.index_mut.result.now + 1) = ap (λ (v : Vec ℕ Global). v.items) w.left-is in
          subst F (sym is) (length-set c.loop-place.left.items y (w.index_mut.result.now + 1) ∙ c.loop-place.invariant.0, counted_more (makes_of g) c.loop-place.left.items k y w.index_mut.result.now (name_count g) listed (made ∙ w.in-Some.is) within value c.loop-place.invariant.1)
      | in_default w ↦
          let is : c.match-place.left.items ≡ c.loop-place.left.items = ap (λ (v : Vec ℕ Global). v.items) w.left-is in
          subst F (sym is) (c.loop-place.invariant.0, counted_no_more (makes_of g) c.loop-place.left.items k (name_count g) listed (made ∙ w.in_default.is) c.loop-place.invariant.1)
    ]
