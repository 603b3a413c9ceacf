-- Which lists and mediators may follow which.
use Rattle.std.proofs.Common.{◌≡◌, ◌≤◌, ◌+◌, ◌*◌, ℕ, Bool, true, false, refl, ap, sym, ◌∙◌, subst, List, [], ◌∷◌, length, ◌&&◌, ◌||◌, cond, not, inl, inr, ◌⊎◌, Option, None, Some, arith}
use Rattle.std.proofs.lemmas.Bool.{and_parts, or_cases, cases_Bool, false≢true, not-true, ltb-true, leb-true, or_parts}
use Rattle.std.specs.List.{list_all, count_by}
use Rattle.std.specs.Prelude.{nat_le}
use Rattle.mdv_quorum.specs.Below.{Spot, SpotLists, is_in, is_majority, is_none, last_list, last_or, same_spot, same_spots}
use Rattle.mdv_votes.proofs.Meeting.{same_is, meet_counted, step_counted}
use Rattle.mdv_votes.proofs.SameSpots.{spots_same}
use Rattle.mdv_votes.specs.Laws.{HasList, SeatsMeet}
use Rattle.mdv_votes.proofs.Quorums.{last_in, seats_itself}
use Rattle.mdv_quorum.specs.May.{is_distinct, is_one_more, may_follow, moves_on, same_second, is_lists, is_place, all_second}
use Rattle.mdv_quorum.proofs.Invariant.{ListsOk}

second_same : (a b : Option (List Spot)) → same_second a b ≡ true → a ≡ b
second_same None None h = refl
second_same None (Some y) h = cc
second_same (Some x) None h = cc
second_same (Some x) (Some y) h = ap (λ (l : List Spot). Some l) (spots_same x y h)

all_in : (new old : List Spot) (p : Spot) → list_all (is_in new) old ≡ true → is_in old p ≡ true → is_in new p ≡ true
all_in new [] p all has = absurd (false≢true has)
all_in new (x ∷ xs) p all has =
    let parts = and_parts (is_in new x) (list_all (is_in new) xs) all in
    elim (or_cases (same_spot x p) (is_in xs p) has) [
      | inl is ↦ subst (λ (q : Spot). is_in new q ≡ true) (same_is x p is) parts.0
      | inr rest ↦ all_in new xs p parts.1 rest
    ]

-- all of the set but one spot
but : (Spot → Bool) → Spot → Spot → Bool
but set x p = set p && not (same_spot p x)

but_step : (a b : Bool) → cond (a && b) 1 0 ≤ cond {A = ℕ} a 1 0
but_step true true = omega arith
but_step true false = omega arith
but_step false b = omega arith

but_less : (set : Spot → Bool) (x : Spot) (ys : List Spot) → count_by (but set x) ys ≤ count_by set ys
unfolding but
but_less set x [] = omega arith
but_less set x (y ∷ ys) =
    omega (arith, step_counted (but set x) y ys, step_counted set y ys, but_less set x ys, but_step (set y) (not (same_spot y x)))

but_absent : (set : Spot → Bool) (x : Spot) (ys : List Spot) → is_in ys x ≡ false → count_by set ys ≡ count_by (but set x) ys
unfolding but
but_absent set x [] h = refl
but_absent set x (y ∷ ys) h =
    let parts = or_parts (same_spot y x) (is_in ys x) h in
    let same : (a b : Bool) → b ≡ false → cond {A = ℕ} a 1 0 ≡ cond (a && not b) 1 0
    = λ a b e. subst (λ (c : Bool). cond {A = ℕ} a 1 0 ≡ cond (a && not c) 1 0) (sym e) (elim a as (λ c. cond {A = ℕ} c 1 0 ≡ cond (c && true) 1 0) [ true ↦ refl | false ↦ refl ]) in
    omega (arith, step_counted (but set x) y ys, step_counted set y ys, but_absent set x ys parts.1, same (set y) (same_spot y x) parts.0)

but_present : (set : Spot → Bool) (x : Spot) (ys : List Spot) → is_in ys x ≡ true → cond (set x) 1 0 + count_by (but set x) ys ≤ count_by set ys
unfolding but
but_present set x [] h = absurd (false≢true h)
but_present set x (y ∷ ys) h =
    elim (cases_Bool (same_spot y x)) [
      | inl is ↦
          let gone : (a b : Bool) → b ≡ true → cond (a && not b) 1 0 ≡ 0
          = λ a b e. subst (λ (c : Bool). cond {A = ℕ} (a && not c) 1 0 ≡ 0) (sym e) (elim a as (λ c. cond {A = ℕ} (c && false) 1 0 ≡ 0) [ true ↦ refl | false ↦ refl ]) in
          omega (
            arith,
            step_counted (but set x) y ys,
            step_counted set y ys,
            but_less set x ys,
            gone (set y) (same_spot y x) is,
            ap (λ (q : Spot). cond {A = ℕ} (set q) 1 0) (same_is y x is),
          )
      | inr isnt ↦
          let rest = elim (or_cases (same_spot y x) (is_in ys x) h) as (λ c. is_in ys x ≡ true) [ inl is ↦ absurd (false≢true (sym isnt ∙ is)) | inr r ↦ r ] in
          omega (arith, step_counted (but set x) y ys, step_counted set y ys, but_present set x ys rest, but_step (set y) (not (same_spot y x)))
    ]

-- a list without repetitions counts no more than one that has all of it
sub_count : (set : Spot → Bool) (old new : List Spot) → list_all (is_in new) old ≡ true → is_distinct old ≡ true → count_by set old ≤ count_by set new
sub_count set [] new all one = omega arith
sub_count set (x ∷ xs) new all one =
    let parts = and_parts (is_in new x) (list_all (is_in new) xs) all in
    let apart = and_parts (not (is_in xs x)) (is_distinct xs) one in
    omega (arith, step_counted set x xs, but_absent set x xs (not-true (is_in xs x) apart.0), sub_count (but set x) xs new parts.1 apart.1, but_present set x new parts.0)

-- those outside
outside : (Spot → Bool) → Spot → Bool
outside set p = not (set p)

count_outside : (set : Spot → Bool) (xs : List Spot) → count_by set xs + count_by (outside set) xs ≡ length xs
unfolding outside
count_outside set [] = refl
count_outside set (x ∷ xs) =
    let one : (a : Bool) → cond {A = ℕ} a 1 0 + cond (not a) 1 0 ≡ 1 = λ a. elim a as (λ c. cond {A = ℕ} c 1 0 + cond (not c) 1 0 ≡ 1) [ true ↦ refl | false ↦ refl ] in
    omega (arith, step_counted set x xs, step_counted (outside set) x xs, count_outside set xs, one (set x))

one_more_meets : (old new : List Spot) (s r : Spot → Bool) → is_one_more old new ≡ true → is_distinct old ≡ true → is_majority s new ≡ true → is_majority r old ≡ true
    → (m : Spot) × (s m ≡ true) × (r m ≡ true) × (is_in old m ≡ true)
one_more_meets old new s r more one ms mr =
    let parts = and_parts (list_all (is_in new) old) (nat_le (length new) (length old + 1)) more in
    meet_counted s r old
    (omega (
      arith,
      ltb-true (length new) (2 * count_by s new) ms,
      ltb-true (length old) (2 * count_by r old) mr,
      leb-true (length new) (length old + 1) parts.1,
      count_outside s old,
      count_outside s new,
      sub_count (outside s) old new parts.0 one,
    ))

pub seats_more : (old new : List Spot) → is_one_more old new ≡ true → is_distinct old ≡ true → SeatsMeet old new × SeatsMeet new old
seats_more old new more one = (
  λ took read mt mr. one_more_meets old new took read more one mt mr,
  λ took read mt mr.
      let parts = and_parts (list_all (is_in new) old) (nat_le (length new) (length old + 1)) more in
      let f = one_more_meets old new read took more one mr mt in
      (f.0, f.2, f.1, all_in new old f.0 parts.0 f.3),
)

pub seats_follow : (set : Bool) (old new : SpotLists) → ListsOk set old → ListsOk set new → may_follow old new ≡ true → SeatsMeet old.mediators new.mediators × SeatsMeet new.mediators old.mediators
seats_follow set old new oko okn h =
    elim (or_cases ((same_spots old.first new.first && same_second old.second new.second) && (is_one_more old.mediators new.mediators || is_one_more new.mediators old.mediators))
    (moves_on old.first old.second new.first new.second && same_spots old.mediators new.mediators) h) [
      | inl a ↦
          elim (or_cases (is_one_more old.mediators new.mediators) (is_one_more new.mediators old.mediators)
          (and_parts (same_spots old.first new.first && same_second old.second new.second) (is_one_more old.mediators new.mediators || is_one_more new.mediators old.mediators) a).1) [
            | inl up ↦ seats_more old.mediators new.mediators up oko.distinct
            | inr down ↦ let p = seats_more new.mediators old.mediators down okn.distinct in (p.1, p.0)
          ]
      | inr b ↦
          let same = spots_same old.mediators new.mediators (and_parts (moves_on old.first old.second new.first new.second) (same_spots old.mediators new.mediators) b).1 in
          let one = seats_itself old.mediators in
          (subst (λ (l : List Spot). SeatsMeet old.mediators l) same one, subst (λ (l : List Spot). SeatsMeet l old.mediators) same one)
    ]

moved : (first : List Spot) (second : Option (List Spot)) (new : List Spot) (other : Option (List Spot)) → moves_on first second new other ≡ true → (new ≡ last_or first second) ⊎ (other ≡ Some (last_or first second))
moved first None new None h = cc
moved first None new (Some list) h = inl (sym (spots_same first new h))
moved first (Some list) new None h = inl (sym (spots_same list new h))
moved first (Some list) new (Some more) h = cc

-- the old last list is one of the new ones
pub has_follow : (old new : SpotLists) → may_follow old new ≡ true → HasList new (last_list old)
has_follow old new h =
    elim (or_cases ((same_spots old.first new.first && same_second old.second new.second) && (is_one_more old.mediators new.mediators || is_one_more new.mediators old.mediators))
    (moves_on old.first old.second new.first new.second && same_spots old.mediators new.mediators) h) [
      | inl a ↦
          let places = and_parts (same_spots old.first new.first && same_second old.second new.second) (is_one_more old.mediators new.mediators || is_one_more new.mediators old.mediators) a in
          let same = and_parts (same_spots old.first new.first) (same_second old.second new.second) places.0 in
          let list : last_list old ≡ last_list new =
          ap (λ (l : List Spot). last_or l old.second) (spots_same old.first new.first same.0) ∙ ap (last_or new.first) (second_same old.second new.second same.1) in
          subst (λ (l : List Spot). HasList new l) (sym list) (last_in new)
      | inr b ↦ moved old.first old.second new.first new.second (and_parts (moves_on old.first old.second new.first new.second) (same_spots old.mediators new.mediators) b).0
    ]

places_all : (list : List Spot) (p : Spot) → list_all is_place list ≡ true → is_in list p ≡ true → p.mediator ≡ false
places_all [] p all has = absurd (false≢true has)
places_all (x ∷ xs) p all has =
    let parts = and_parts (is_place x) (list_all is_place xs) all in
    elim (or_cases (same_spot x p) (is_in xs p) has) [
      | inl is ↦ subst (λ (q : Spot). q.mediator ≡ false) (same_is x p is) (not-true x.mediator parts.0)
      | inr rest ↦ places_all xs p parts.1 rest
    ]

seats_all : (list : List Spot) (p : Spot) → list_all (λ (q : Spot). q.mediator) list ≡ true → is_in list p ≡ true → p.mediator ≡ true
seats_all [] p all has = absurd (false≢true has)
seats_all (x ∷ xs) p all has =
    let parts = and_parts x.mediator (list_all (λ (q : Spot). q.mediator) xs) all in
    elim (or_cases (same_spot x p) (is_in xs p) has) [
      | inl is ↦ subst (λ (q : Spot). q.mediator ≡ true) (same_is x p is) parts.0
      | inr rest ↦ seats_all xs p parts.1 rest
    ]

none_at : (set : Bool) (list : List Spot) → (set || is_none list) ≡ true → set ≡ false → list ≡ []
none_at set [] h e = refl
none_at set (x ∷ xs) h e = absurd (false≢true (sym (subst (λ (b : Bool). (b || false) ≡ false) (sym e) refl) ∙ h))

pub lists_ok : (set : Bool) (lists : SpotLists) → is_lists set lists ≡ true → ListsOk set lists
lists_ok set lists h =
    let parts = and_parts (list_all is_place lists.first && all_second lists.second)
    ((list_all (λ (p : Spot). p.mediator) lists.mediators && is_distinct lists.mediators) && (set || is_none lists.mediators)) h in
    let places = and_parts (list_all is_place lists.first) (all_second lists.second) parts.0 in
    let rest = and_parts (list_all (λ (p : Spot). p.mediator) lists.mediators && is_distinct lists.mediators) (set || is_none lists.mediators) parts.1 in
    let seats = and_parts (list_all (λ (p : Spot). p.mediator) lists.mediators) (is_distinct lists.mediators) rest.0 in
    record {
      places = λ list p has on. elim has [
        | inl first ↦ places_all list p (subst (λ (l : List Spot). list_all is_place l ≡ true) first places.0) on
        | inr second ↦ places_all list p (subst (λ (o : Option (List Spot)). all_second o ≡ true) second places.1) on
      ];
      seats = λ p has. seats_all lists.mediators p seats.0 has;
      alone = λ e. none_at set lists.mediators rest.1 e;
      distinct = seats.1;
    }
