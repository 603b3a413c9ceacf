use Rattle.std.proofs.Common.{◌≡◌, ◌∙◌, ℕ, Bool, true, false, List, eqb, length, refl, sym, ap, subst, arith, MatchBool}
use Rattle.std.proofs.lemmas.Bool.{eqb-true, eqb-false}
use Rattle.std.specs.Prelude.{Contains}
use Rattle.mdv_tab.specs.declared.graph.Place.{Place}
use Rattle.mdv_tab.specs.Making.{IsLeft}
use Rattle.mdv_tab.proofs.Makings.{same_at, stands_here, free_at_end, bound_before, seen_more}
use Rattle.mdv_tab.proofs.making.is_free.Goals as goal

by_test : {P Q : Type 0} (b : Bool) → (b ≡ true → P) → (b ≡ false → Q) → MatchBool b P Q
by_test true p q = p refl
by_test false p q = q refl

pub first_awaited-passed-requires : goal.first_awaited-passed-requires
first_awaited-passed-requires c = λ x has.
    let F : List ℕ → Type 0 = λ l. Contains l x in
    let small = c.requires.graph.stands c.args.place x (subst F (sym (stands_here c.args.graph.now c.args.place c.index.result.now c.requires.within c.index.ensures)) has) in
    omega (arith, small, c.requires.counted.names)

pub returns-clause-free : goal.returns-clause-free
returns-clause-free c =
    let p = c.index.result.now in
    let here : IsLeft c.args.made.now c.args.place = same_at c.args.made.now c.args.place true false (omega (arith, c.requires.within, c.requires.counted.places)) ∙ c.if-made-at.false in
    let one : c.index-2.result.now ≡ p = c.index-2.ensures ∙ same_at c.args.graph.now.places.items c.args.place c.index-2.result.now p c.requires.within ∙ sym c.index.ensures in
    let end : c.len.result ≡ length p.stands.items = c.len.ensures ∙ c.index-2.result.now.stands.ok.0 ∙ ap (λ (q : Place). length q.stands.items) one in
    by_test (eqb c.first_awaited-passed.result c.len.result)
    (λ yes. let is = eqb-true _ _ yes in free_at_end _ _ _ _ _ _ p c.requires.graph c.requires.counted c.requires.seen c.requires.within c.index.ensures c.first_awaited-passed.ensures here (omega (arith, is, end)))
    (λ no left. let other = eqb-false _ _ no in bound_before _ _ _ _ _ _ p c.requires.graph c.requires.counted c.requires.seen c.requires.within c.index.ensures c.first_awaited-passed.ensures (omega (arith, other, end, c.first_awaited-passed.ensures.within)))

pub returns-clause-seen : goal.returns-clause-seen
returns-clause-seen c =
    seen_more _ _ c.args.left.now _ _ _ c.index.result.now c.requires.graph c.requires.counted c.requires.seen c.requires.within c.index.ensures c.first_awaited-passed.ensures
