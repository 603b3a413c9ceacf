use Rattle.std.proofs.Common.{ℕ, ◌≤◌, inl, inr, sym, subst, arith}
use Rattle.std.proofs.lemmas.List.Elements.{All-contains}
use Rattle.std.proofs.lemmas.List.Sorted.{length_permutation}
use Rattle.mdv_tab.specs.Making.{IsLeft, IsBound}
use Rattle.mdv_tab.proofs.Makings.{popped_cases, popped_from, popped_first}
use Rattle.mdv_tab.proofs.making.take_free.Goals as goal

pub is_free-requires-clause-within : goal.is_free-requires-clause-within
is_free-requires-clause-within c = c.loop-place.invariant.0.within _ (popped_first _ _ _ c.in-Some.ensures.taken)

pub loop-place-smaller : goal.loop-place-smaller
loop-place-smaller c = let fewer = length_permutation _ _ c.in-Some.ensures.taken in omega (arith, fewer)

pub returns-then-is_free-clause-taken : goal.returns-then-is_free-clause-taken
returns-then-is_free-clause-taken c = (
  c.if-is_free.ensures.free,
  λ i lt left. elim (c.loop-place.invariant.0.each i left) [
    | inl has ↦ elim (popped_cases _ _ _ c.in-Some.ensures.taken i has) [
      | inl rest ↦ let le = All-contains (λ y. c.in-Some.place ≤ y) _ i c.in-Some.ensures.least rest in absurd (omega (arith, le, lt))
      | inr is ↦ absurd (omega (arith, is, lt))
    ]
    | inr bound ↦ bound
  ],
)

pub returns-then-is_free-clause-rest : goal.returns-then-is_free-clause-rest
returns-then-is_free-clause-rest c = record {
  within = λ i has. c.loop-place.invariant.0.within i (popped_from _ _ _ c.in-Some.ensures.taken i has);
  each = λ i left. elim (c.loop-place.invariant.0.each i left) [
    | inl has ↦ elim (popped_cases _ _ _ c.in-Some.ensures.taken i has) [ inl rest ↦ inl rest | inr is ↦ inr (inl is) ]
    | inr bound ↦ inr (inr bound)
  ];
}

pub loop-place-preserved : goal.loop-place-preserved
loop-place-preserved c =
    let F : ℕ → Type 0 = λ i. IsLeft c.args.made.now i in
    let G : ℕ → Type 0 = λ i. IsBound c.args.graph.now c.args.made.now i in (
      record {
        within = λ i has. c.loop-place.invariant.0.within i (popped_from _ _ _ c.in-Some.ensures.taken i has);
        each = λ i left. elim (c.loop-place.invariant.0.each i left) [
          | inl has ↦ elim (popped_cases _ _ _ c.in-Some.ensures.taken i has) [ inl rest ↦ inl rest | inr is ↦ inr (subst G is (c.if-is_free.ensures.free (subst F (sym is) left))) ]
          | inr bound ↦ inr bound
        ];
      },
      c.if-is_free.ensures.seen,
    )
