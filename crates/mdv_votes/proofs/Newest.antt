-- The table with the greatest mark of those that were read.
use Rattle.std.proofs.Common.{◌≡◌, ◌≤◌, ℕ, true, false, refl, ap, sym, ◌∙◌, subst, List, [], ◌∷◌, inl, inr, ◌⊎◌, Option, None, Some, arith, ◌&&◌}
use Rattle.std.proofs.lemmas.Bool.{cases_Bool, false≢true, cases_lt, and_parts, and_from, or_cases, or_parts, or_left, or_right, ltb-true, ltb-false, lt-ltb, eqb-true, eq-eqb, cond-true, cond-false, false_from_ne_true}
use Rattle.std.specs.Prelude.{nat_lt, ◌==◌}
use Rattle.mdv_base.specs.declared.mark.Mark.{Mark}
use Rattle.mdv_votes.specs.declared.spot.Spot.{Spot}
use Rattle.mdv_votes.specs.declared.version.Version.{Version}
use Rattle.mdv_votes.specs.declared.version.SpotState.{SpotState}
use Rattle.mdv_votes.specs.Spots.{is_in, same_spot}
use Rattle.mdv_votes.specs.Family.{mark_below, newer, newest_of, place_at, shown}
use Rattle.mdv_votes.specs.Laws.{mark_of, NewestIsGreatest, NoneIsShown, GreatestIsNewest}
use Rattle.mdv_votes.proofs.Meeting.{same_is, same_self}

-- a isn't below b
AtLeast : Mark → Mark → Type 0
AtLeast a b = (b.boot ≤ a.boot) × (a.boot ≡ b.boot → b.count ≤ a.count)

at_least : (a b : Mark) → mark_below a b ≡ false → AtLeast a b
unfolding AtLeast
at_least a b h =
    let parts = or_parts (nat_lt a.boot b.boot) ((a.boot == b.boot) && nat_lt a.count b.count) h in (
      ltb-false a.boot b.boot parts.0,
      λ same. elim (cases_lt a.count b.count) [
        | inl less ↦ absurd (false≢true (sym parts.1 ∙ and_from (a.boot == b.boot) (nat_lt a.count b.count) (eq-eqb a.boot b.boot same) (lt-ltb a.count b.count less)))
        | inr more ↦ more
      ],
    )

not_below : (a b : Mark) → AtLeast a b → mark_below a b ≡ false
unfolding AtLeast
not_below a b h = false_from_ne_true (mark_below a b) (λ e.
    elim (or_cases (nat_lt a.boot b.boot) ((a.boot == b.boot) && nat_lt a.count b.count) e) [
      | inl less ↦ absurd (omega (arith, ltb-true a.boot b.boot less, h.0))
      | inr rest ↦
          let p = and_parts (a.boot == b.boot) (nat_lt a.count b.count) rest in
          absurd (omega (arith, ltb-true a.count b.count p.1, h.1 (eqb-true a.boot b.boot p.0)))
    ])

pub not_below_itself : (a : Mark) → mark_below a a ≡ false
unfolding AtLeast
not_below_itself a = not_below a a (omega arith, λ e. omega arith)

not_both : (a b : Mark) → mark_below a b ≡ true → mark_below b a ≡ false
unfolding AtLeast
not_both a b h =
    elim (or_cases (nat_lt a.boot b.boot) ((a.boot == b.boot) && nat_lt a.count b.count) h) [
      | inl less ↦
          let l = ltb-true a.boot b.boot less in
          not_below b a (omega (arith, l), λ e. absurd (omega (arith, l, e)))
      | inr rest ↦
          let p = and_parts (a.boot == b.boot) (nat_lt a.count b.count) rest in
          not_below b a (omega (arith, eqb-true a.boot b.boot p.0), λ e. omega (arith, ltb-true a.count b.count p.1))
    ]

not_below_on : (a b c : Mark) → mark_below a b ≡ false → mark_below b c ≡ false → mark_below a c ≡ false
unfolding AtLeast
not_below_on a b c h k =
    let x = at_least a b h in
    let y = at_least b c k in
    not_below a c (
      omega (arith, x.0, y.0),
      λ e.
          let ab : a.boot ≡ b.boot = omega (arith, x.0, y.0, e) in
          let bc : b.boot ≡ c.boot = omega (arith, ab, e) in
          omega (arith, x.1 ab, y.1 bc),
    )

same_marks : (a b : Mark) → mark_below a b ≡ false → mark_below b a ≡ false → a ≡ b
unfolding AtLeast
same_marks a b h k =
    let x = at_least a b h in
    let y = at_least b a k in
    let boot : a.boot ≡ b.boot = omega (arith, x.0, y.0) in
    let count : a.count ≡ b.count = omega (arith, x.1 boot, y.1 (sym boot)) in
    λ i. record { boot = boot i; count = count i }

none_is : {A : Type 0} (a : A) → None ≡ Some a → ⊥
none_is a e = cc

some_same : {A : Type 0} (a b : A) → Some a ≡ Some b → a ≡ b
some_same a b e = cc

-- no table with a greater mark than this one's
NoGreater : List Version → Option ℕ → ℕ → Type 0
NoGreater family None i = Unit {0}
NoGreater family (Some j) i = mark_below (mark_of family i) (mark_of family j) ≡ false

module _ (family : List Version) where
  -- what one of two is at least, both are
  newer_parts : (a b : Option ℕ) (i : ℕ) → NoGreater family (newer family a b) i → NoGreater family a i × NoGreater family b i
  unfolding NoGreater
  newer_parts None b i h = (tt, h)
  newer_parts (Some a) None i h = (h, tt)
  newer_parts (Some a) (Some b) i h =
      let x = mark_of family a in
      let y = mark_of family b in
      elim (cases_Bool (mark_below x y)) [
        | inl less ↦
            let hb : mark_below (mark_of family i) y ≡ false = subst (λ (o : Option ℕ). NoGreater family o i) (cond-true (mark_below x y) (Some b) (Some a) less) h in
            (not_below_on (mark_of family i) y x hb (not_both x y less), hb)
        | inr more ↦
            let ha : mark_below (mark_of family i) x ≡ false = subst (λ (o : Option ℕ). NoGreater family o i) (cond-false (mark_below x y) (Some b) (Some a) more) h in
            (ha, not_below_on (mark_of family i) x y ha more)
      ]

  newer_from : (a b : Option ℕ) (i : ℕ) → newer family a b ≡ Some i → (a ≡ Some i) ⊎ (b ≡ Some i)
  newer_from None b i h = inr h
  newer_from (Some a) None i h = inl h
  newer_from (Some a) (Some b) i h =
      let less = mark_below (mark_of family a) (mark_of family b) in
      elim (cases_Bool less) [
        | inl is ↦ inr (sym (cond-true less (Some b) (Some a) is) ∙ h)
        | inr isnt ↦ inl (sym (cond-false less (Some b) (Some a) isnt) ∙ h)
      ]

  newer_none : (a b : Option ℕ) → newer family a b ≡ None → (a ≡ None) × (b ≡ None)
  newer_none None b h = (refl, h)
  newer_none (Some a) None h = absurd (none_is a (sym h))
  newer_none (Some a) (Some b) h =
      let less = mark_below (mark_of family a) (mark_of family b) in
      elim (cases_Bool less) [
        | inl is ↦ absurd (none_is b (sym h ∙ cond-true less (Some b) (Some a) is))
        | inr isnt ↦ absurd (none_is a (sym h ∙ cond-false less (Some b) (Some a) isnt))
      ]

  best_of : (places : List SpotState) (ps : List Spot) (best : Option ℕ) (i : ℕ) → newest_of family places best ps ≡ Some i
      → NoGreater family best i × ((q : Spot) → is_in ps q ≡ true → NoGreater family (shown (place_at places q)) i)
      × ((best ≡ Some i) ⊎ ((q : Spot) × (is_in ps q ≡ true) × (shown (place_at places q) ≡ Some i)))
  unfolding NoGreater
  best_of places [] best i e = (
    subst (λ (o : Option ℕ). NoGreater family o i) (sym e) (not_below_itself (mark_of family i)),
    λ q has. absurd (false≢true has),
    inl e,
  )
  best_of places (p ∷ ps) best i e =
      let s = shown (place_at places p) in
      let more = best_of places ps (newer family best s) i e in
      let parts = newer_parts best s i more.0 in (
        parts.0,
        λ q has. elim (or_cases (same_spot p q) (is_in ps q) has) [
          | inl is ↦ subst (λ (x : Spot). NoGreater family (shown (place_at places x)) i) (same_is p q is) parts.1
          | inr rest ↦ more.1 q rest
        ],
        elim more.2 [
          | inl from ↦ elim (newer_from best s i from) [ inl a ↦ inl a | inr b ↦ inr (p, or_left (same_spot p p) (is_in ps p) (same_self p), b) ]
          | inr found ↦ inr (found.0, or_right (same_spot p found.0) (is_in ps found.0) found.1, found.2)
        ],
      )

  none_of : (places : List SpotState) (ps : List Spot) (best : Option ℕ) (q : Spot) → newest_of family places best ps ≡ None
      → (best ≡ None) × (is_in ps q ≡ true → shown (place_at places q) ≡ None)
  none_of places [] best q e = (e, λ has. absurd (false≢true has))
  none_of places (p ∷ ps) best q e =
      let s = shown (place_at places p) in
      let more = none_of places ps (newer family best s) q e in
      let parts = newer_none best s more.0 in (
        parts.0,
        λ has. elim (or_cases (same_spot p q) (is_in ps q) has) [
          | inl is ↦ subst (λ (x : Spot). shown (place_at places x) ≡ None) (same_is p q is) parts.1
          | inr rest ↦ more.1 rest
        ],
      )

pub newest_is_greatest : NewestIsGreatest
unfolding NoGreater
newest_is_greatest family places read i e =
    let b = best_of family places read None i e in
    elim b.2 [
      | inl never ↦ absurd (none_is i never)
      | inr found ↦ record {
        place = found.0;
        was_read = found.1;
        shows = found.2;
        greatest = λ q j has s. subst (λ (o : Option ℕ). NoGreater family o i) s (b.1 q has);
      }
    ]

pub none_is_shown : NoneIsShown
none_is_shown family places read q e has = (none_of family places read None q e).1 has

pub greatest_is_newest : GreatestIsNewest
greatest_is_newest family places read i alone is = at (newest_of family places None read) refl
  where
    at : (o : Option ℕ) → newest_of family places None read ≡ o → newest_of family places None read ≡ Some i
    at None e = absurd (none_is i (sym (none_is_shown family places read is.place e is.was_read) ∙ is.shows))
    at (Some k) e =
        let n = newest_is_greatest family places read k e in
        let same = same_marks (mark_of family k) (mark_of family i) (n.greatest is.place i is.was_read is.shows) (is.greatest n.place k n.was_read n.shows) in
        e ∙ ap (λ (j : ℕ). Some j) (alone n.place k n.was_read n.shows same)
