use Rattle.std.proofs.Common.{◌≡◌, ◌∙◌, [], ℕ, Bool, false, List, replicate, sym, ap, subst, rules}
use Rattle.mdv_tab.specs.Making.{count_of, NeedsIn, IsPartOrder, IsCounted, IsSeen, IsQueued, IsEach}
use Rattle.mdv_tab.proofs.Makings.{starts, starts_counted, starts_seen, starts_queued}
use Rattle.mdv_tab.proofs.making.Making.new.Goals as goal

pub returns-clause-far : goal.returns-clause-far
returns-clause-far c =
    let g = c.args.graph.now in
    let n : c.len-count.result ≡ count_of g = c.len-count.ensures ∙ g.places.ok.0 in
    let none : c.in_ok-vec.field-0.items ≡ replicate c.len-count.result false = search rules in
    let zeros : c.in_ok-vec-2.field-0.items ≡ replicate c.len-count.result 0 = search rules in
    let made : c.in_ok-vec.field-0.items ≡ replicate (count_of g) false = none ∙ ap (λ (k : ℕ). replicate k false) n in
    let seen : c.in_ok-vec-2.field-0.items ≡ replicate (count_of g) 0 = zeros ∙ ap (λ (k : ℕ). replicate k 0) n in
    let O : List Bool → List ℕ → Type 0 = λ m l. IsPartOrder (NeedsIn g) (count_of g) m l in
    let C : List Bool → Type 0 = λ m. IsCounted g m c.in_ok-count_makers.field-0.items in
    let S : List Bool → List ℕ → Type 0 = λ m l. IsSeen g m l in
    record {
      order = subst (O c.in_ok-vec.field-0.items) (sym c.new.ensures.items) (subst (λ (m : List Bool). O m []) (sym made) (starts (NeedsIn g) (count_of g)));
      counted = subst C (sym made) (starts_counted g c.in_ok-count_makers.field-0.items c.in_ok-count_makers.ensures.names c.in_ok-count_makers.ensures.each);
      seen = subst (S c.in_ok-vec.field-0.items) (sym seen) (subst (λ (m : List Bool). S m (replicate (count_of g) 0)) (sym made) (starts_seen g));
    }

pub returns-clause-queued : goal.returns-clause-queued
returns-clause-queued c =
    let g = c.args.graph.now in
    let n : c.len-count.result ≡ count_of g = c.len-count.ensures ∙ g.places.ok.0 in
    let none : c.in_ok-vec.field-0.items ≡ replicate c.len-count.result false = search rules in
    let made : c.in_ok-vec.field-0.items ≡ replicate (count_of g) false = none ∙ ap (λ (k : ℕ). replicate k false) n in
    let E : ℕ → Type 0 = λ k. IsEach c.in_ok-all_places.field-0 k in
    let Q : List Bool → Type 0 = λ m. IsQueued g m c.in_ok-all_places.field-0 in
    subst Q (sym made) (starts_queued g c.in_ok-all_places.field-0 (subst E n c.in_ok-all_places.ensures))
