-- Places that are made one after the other.
use Rattle.std.proofs.Common.{IsPermutation, ◌⊎◌, map, cond, length-append, replicate, ◌≡◌, ◌≢◌, ◌<◌, ◌≤◌, ◌+◌, ◌-◌, ℕ, zero, suc, Vec, Global, Bool, true, false, Option, Result, Ok, Err, List, [], ◌∷◌, ◌++◌, None, Some, length, take, get_or, refl, sym, ◌∙◌, ap, subst, inl, inr, arith}
use Rattle.std.specs.Prelude.{Contains, OnOk, sum_by}
use Rattle.std.proofs.Math.ListN.{set}
use Rattle.std.proofs.lemmas.Bool.{cases_lt}
use Rattle.std.proofs.lemmas.Bool.Decides.{nat_tests}
use Rattle.std.proofs.lemmas.List.{get_or-map, get_or-set_same, get_or-set_other, length-map, length-set, take-append-le, take_all, length-replicate, get_or-replicate}
use Rattle.std.proofs.lemmas.Grind.{common_steps}
use Rattle.std.proofs.lemmas.List.Sums.{sum_by-cons, sum_by_more}
use Rattle.std.proofs.lemmas.List.Elements.{Contains-get_or, Contains-push, Contains-push_cases, Contains-append_left, Contains-append_right, Contains-append_cases}
use Rattle.std.proofs.lemmas.List.Sorted.{Contains-permutation, IsPermutation-sym}
use Rattle.mdv_tab.specs.declared.graph.Graph.{Graph}
use Rattle.mdv_tab.specs.declared.graph.Place.{Place}
use Rattle.mdv_tab.specs.Order.{Remains, Waits, IsNext, IsOrder}
use Rattle.mdv_tab.specs.Making.{count_of, name_count, made_at, makes_of, stands_at, users_at, NeedsIn, IsGraph, IsLeft, IsAwaited, IsBound, IsFree, IsCounted, IsSeen, IsPartOrder, IsQueued, IsQueuedBut, IsTaken, IsPassed, IsFirstAwaited, count_name, makers_left, count_left, MakesOne, AreMade, IsEach}

-- what stands at a place of a list doesn't hang on what is said of places past its end
pub same_at : {X : Type 0} (xs : List X) (k : ℕ) (d e : X) → k < length xs → get_or xs k d ≡ get_or xs k e
same_at [] k d e within = absurd (omega arith)
same_at (x ∷ xs) zero d e within = refl
same_at (x ∷ xs) (suc k) d e within = same_at xs k d e (omega arith)

pub left_within : (made : List Bool) (i : ℕ) → IsLeft made i → i < length made
left_within [] i left = cc
left_within (m ∷ made) zero left = omega arith
left_within (m ∷ made) (suc i) left = let rest = left_within made i left in omega arith

pub left_or_made : (made : List Bool) (i : ℕ) → IsLeft made i ⊎ (get_or made i true ≡ true)
left_or_made made i = let P : Bool → Type 0 = λ v. (v ≡ false) ⊎ (v ≡ true) in elim (get_or made i true) as P [ true ↦ inr refl | false ↦ inl refl ]

place_cases : (xs : List ℕ) (x i k : ℕ) → k < length (x ∷ xs) → get_or (x ∷ xs) k i ≡ i → Contains xs i ⊎ (x ≡ i)
place_cases xs x i zero within is = inr is
place_cases xs x i (suc k) within is = inl (k, omega arith, is)

pub in_cons : (xs : List ℕ) (x i : ℕ) → Contains (x ∷ xs) i → Contains xs i ⊎ (x ≡ i)
in_cons xs x i has = place_cases xs x i has.0 has.1 has.2

-- what a pop of the queue leaves
pub popped_cases : (old new : List ℕ) (x : ℕ) → IsPermutation old (x ∷ new) → (i : ℕ) → Contains old i → Contains new i ⊎ (x ≡ i)
popped_cases old new x perm i has = in_cons new x i (Contains-permutation old (x ∷ new) i perm has)

pub popped_from : (old new : List ℕ) (x : ℕ) → IsPermutation old (x ∷ new) → (i : ℕ) → Contains new i → Contains old i
popped_from old new x perm i has = Contains-permutation (x ∷ new) old i (IsPermutation-sym old (x ∷ new) perm) (suc has.0, omega (arith, has.1), has.2)

pub popped_first : (old new : List ℕ) (x : ℕ) → IsPermutation old (x ∷ new) → Contains old x
popped_first old new x perm = Contains-permutation (x ∷ new) old x (IsPermutation-sym old (x ∷ new) perm) (0, omega arith, refl)

-- what stands in a value of a list
pub part_at : {V X : Type 0} (f : V → X) (vs : List V) (i : ℕ) (v : V) (d : X) → i < length vs → v ≡ get_or vs i v → get_or (map f vs) i d ≡ f v
part_at f vs i v d within is = get_or-map f vs i v d within ∙ ap f (sym is)

-- one place more is made
left_count : (made : List Bool) (x : ℕ) → IsLeft made x → count_left (set made x true) + 1 ≡ count_left made
left_count [] x left = cc
left_count (true ∷ made) zero left = cc
left_count (false ∷ made) zero left = omega arith
left_count (m ∷ made) (suc x) left = let rest = left_count made x left in let P : Bool → Type 0 = λ v. cond v 0 1 + count_left (set made x true) + 1 ≡ cond v 0 1 + count_left made in elim m as P [ true ↦ omega arith | false ↦ omega arith ]

pub left_before : (made : List Bool) (x i : ℕ) → IsLeft (set made x true) i → IsLeft made i × (x ≢ i)
left_before [] x i left = cc
left_before (m ∷ made) zero zero left = cc
left_before (m ∷ made) zero (suc i) left = (left, λ e. omega arith)
left_before (m ∷ made) (suc x) zero left = (left, λ e. omega arith)
left_before (m ∷ made) (suc x) (suc i) left = let rest = left_before made x i left in (rest.0, λ e. rest.1 (omega arith))

pub left_after : (made : List Bool) (x i : ℕ) → IsLeft made i → x ≢ i → IsLeft (set made x true) i
left_after [] x i left other = cc
left_after (m ∷ made) zero zero left other = absurd (other refl)
left_after (m ∷ made) zero (suc i) left other = left
left_after (m ∷ made) (suc x) zero left other = left
left_after (m ∷ made) (suc x) (suc i) left other = left_after made x i left (λ e. other (omega arith))

pub equal_or_not : (i j : ℕ) → (i ≡ j) ⊎ (i ≢ j)
equal_or_not i j = elim (cases_lt i j) [
  | inl lt ↦ inr (λ e. omega (arith, lt, e))
  | inr ge ↦ elim (cases_lt j i) [ inl lt ↦ inr (λ e. omega (arith, lt, e)) | inr le ↦ inl (omega arith) ]
]

-- the place that stands there
pub made_here : (g : Graph) (i : ℕ) (p : Place) → i < count_of g → p ≡ get_or g.places.items i p → made_at g i ≡ p.makes
made_here g i p within is = part_at (λ (q : Place). q.makes) g.places.items i p None within is

pub stands_here : (g : Graph) (i : ℕ) (p : Place) → i < count_of g → p ≡ get_or g.places.items i p → stands_at g i ≡ p.stands.items
stands_here g i p within is = part_at (λ (q : Place). q.stands.items) g.places.items i p [] within is

pub users_here : (g : Graph) (x : ℕ) (v : Vec ℕ Global) → x < name_count g → v ≡ get_or g.users.items x v → users_at g x ≡ v.items
users_here g x v within is = part_at (λ (u : Vec ℕ Global). u.items) g.users.items x v [] within is

-- how many places that are left make a name
pub count_same : (x : ℕ) → count_name (Some x) x ≡ 1
count_same x = grind (arith, nat_tests)

pub count_other : (y x : ℕ) → y ≢ x → count_name (Some y) x ≡ 0
count_other y x other = grind (arith, nat_tests)

pub count_small : (m : Option ℕ) (x : ℕ) → count_name m x ≤ 1
count_small None x = omega arith
count_small (Some y) x = grind (arith, nat_tests)

name_cases : (m : Option ℕ) (x : ℕ) → (m ≡ Some x) ⊎ (count_name m x ≡ 0)
name_cases None x = inr refl
name_cases (Some y) x = elim (equal_or_not y x) [ inl e ↦ inl (ap Some e) | inr other ↦ inr (count_other y x other) ]

pub split_makers : (makes : List (Option ℕ)) (made : List Bool) (i x : ℕ) → IsLeft made i → makers_left makes made x ≡ count_name (get_or makes i None) x + makers_left makes (set made i true) x
split_makers [] made i x left = refl
split_makers (m ∷ ms) [] i x left = cc
split_makers (m ∷ ms) (true ∷ made) zero x left = cc
split_makers (m ∷ ms) (false ∷ made) zero x left = omega arith
split_makers (m ∷ ms) (done ∷ made) (suc i) x left = let rest = split_makers ms made i x left in omega (arith, rest)

some_maker : (makes : List (Option ℕ)) (made : List Bool) (x : ℕ) → 0 < makers_left makes made x → (j : ℕ) × IsLeft made j × (get_or makes j None ≡ Some x)
some_maker [] made x some = absurd (omega arith)
some_maker (m ∷ ms) [] x some = absurd (omega arith)
some_maker (m ∷ ms) (true ∷ made) x some = let rest = some_maker ms made x (omega arith) in (suc rest.0, rest.1, rest.2)
some_maker (m ∷ ms) (false ∷ made) x some = elim (name_cases m x) [
  | inl is ↦ (0, refl, is)
  | inr none ↦ let rest = some_maker ms made x (omega arith) in (suc rest.0, rest.1, rest.2)
]

maker_counts : (makes : List (Option ℕ)) (made : List Bool) (j x : ℕ) → IsLeft made j → get_or makes j None ≡ Some x → 0 < makers_left makes made x
maker_counts makes made j x left is =
    let split = split_makers makes made j x left in
    let one : count_name (get_or makes j None) x ≡ 1 = ap (λ (m : Option ℕ). count_name m x) is ∙ count_same x in
    omega (arith, split, one)

pub all_makers : (makes : List (Option ℕ)) (x n : ℕ) → n ≡ length makes → makers_left makes (replicate n false) x ≡ sum_by (λ m. count_name m x) makes
all_makers [] x n is = refl
all_makers (m ∷ ms) x zero is = absurd (omega arith)
all_makers (m ∷ ms) x (suc n) is = let rest = all_makers ms x n (omega arith) in omega (arith, rest, sum_by-cons (λ m. count_name m x) m ms)

pub few_makers : (makes : List (Option ℕ)) (x : ℕ) → sum_by (λ m. count_name m x) makes ≤ length makes
few_makers [] x = omega arith
few_makers (m ∷ ms) x = let rest = few_makers ms x in let here = count_small m x in omega (arith, rest, here, sum_by-cons (λ m. count_name m x) m ms)

-- what is left is what remains
module _ (needs : ℕ → ℕ → Type 0) (count : ℕ) (made : List Bool) (order : List ℕ) (far : IsPartOrder needs count made order) where
  pub remains_of : (i : ℕ) → IsLeft made i → Remains count order i
  remains_of i left = (let within = left_within made i left in omega (arith, within, far.same), far.left i left)

  pub left_of : (i : ℕ) → Remains count order i → IsLeft made i
  left_of i remains = elim (left_or_made made i) [
    | inl left ↦ left
    | inr here ↦ absurd (remains.1 (far.taken i remains.0 (λ left. cc)))
  ]

-- what is bound waits, and what is free doesn't
module _ (g : Graph) (made : List Bool) (order : List ℕ) (far : IsPartOrder (NeedsIn g) (count_of g) made order) where
  pub bound_waits : (i : ℕ) → IsLeft made i → IsBound g made i → Waits (NeedsIn g) (count_of g) order i
  bound_waits i left bound =
      let x = bound.0 in
      let split = split_makers (makes_of g) made i x left in
      let some = some_maker (makes_of g) (set made i true) x (omega (arith, split, bound.2)) in
      let before = left_before made i some.0 some.1 in
      (some.0, remains_of _ _ made order far some.0 before.0, record { other = λ e. before.1 (sym e); name = x; stands = bound.1; made = some.2 })

  pub free_never_waits : (i : ℕ) → IsFree g made i → Waits (NeedsIn g) (count_of g) order i → ⊥
  free_never_waits i free waits =
      let j = waits.0 in
      let need = waits.2 in
      let after = left_after made i j (left_of _ _ made order far j waits.1) (λ e. need.other (sym e)) in
      let split = split_makers (makes_of g) made i need.name free.0 in
      let some = maker_counts (makes_of g) (set made i true) j need.name after need.made in
      free.1 (need.name, need.stands, omega (arith, split, some))

  pub next_free : (x : ℕ) → IsTaken g made (Some x) → IsNext (NeedsIn g) (count_of g) order x
  next_free x taken = record {
    remains = remains_of _ _ made order far x taken.0.0;
    first = inl (free_never_waits x taken.0, λ j lt remains. let left = left_of _ _ made order far j remains in bound_waits j left (taken.1 j lt left));
  }

  pub next_first : (x : ℕ) → IsTaken g made None → IsLeft made x → AreMade made x → IsNext (NeedsIn g) (count_of g) order x
  next_first x taken left before = record {
    remains = remains_of _ _ made order far x left;
    first = inr (λ j remains. let here = left_of _ _ made order far j remains in bound_waits j here (taken j here), λ j lt remains. before j lt (left_of _ _ made order far j remains));
  }

still_next : (needs : ℕ → ℕ → Type 0) (n : ℕ) (order : List ℕ) (x : ℕ) → ((k : ℕ) → k < length order → IsNext needs n (take k order) (get_or order k 0)) → IsNext needs n order x → (k : ℕ) → k < length (order ++ x ∷ []) → IsNext needs n (take k (order ++ x ∷ [])) (get_or (order ++ x ∷ []) k 0)
still_next needs n order x each next k within = elim (cases_lt k (length order)) [
  | inl lt ↦
      let front : take k (order ++ x ∷ []) ≡ take k order = take-append-le k order (x ∷ []) (omega arith) in
      let at : get_or (order ++ x ∷ []) k 0 ≡ get_or order k 0 = grind (arith, common_steps) in
      let F : List ℕ → Type 0 = λ l. IsNext needs n l (get_or (order ++ x ∷ []) k 0) in
      let G : ℕ → Type 0 = λ i. IsNext needs n (take k order) i in
      subst F (sym front) (subst G (sym at) (each k lt))
  | inr ge ↦
      let end : k ≡ length order = omega (arith, within, ge, length-append order (x ∷ [])) in
      let front : take k (order ++ x ∷ []) ≡ order = take-append-le k order (x ∷ []) (omega arith) ∙ take_all k order (omega arith) in
      let at : get_or (order ++ x ∷ []) k 0 ≡ x = grind (arith, common_steps) in
      let F : List ℕ → Type 0 = λ l. IsNext needs n l (get_or (order ++ x ∷ []) k 0) in
      let G : ℕ → Type 0 = λ i. IsNext needs n order i in
      subst F (sym front) (subst G (sym at) next)
]

pub made_next : (needs : ℕ → ℕ → Type 0) (n : ℕ) (made : List Bool) (order : List ℕ) (x : ℕ) → IsPartOrder needs n made order → IsNext needs n order x → IsPartOrder needs n (set made x true) (order ++ x ∷ [])
made_next needs n made order x far next =
    let here : IsLeft made x = left_of needs n made order far x next.remains in
    record {
      same = length-set made x true ∙ far.same;
      left = λ i left has. let b = left_before made x i left in elim (Contains-push_cases order x i has) [ inl old ↦ far.left i b.0 old | inr e ↦ b.1 e ];
      taken = λ i within done. elim (equal_or_not x i) [
        | inl e ↦ let F : ℕ → Type 0 = λ n. Contains (order ++ x ∷ []) n in subst F e (Contains-push order x)
        | inr other ↦ Contains-append_left order (x ∷ []) i (far.taken i within (λ left. done (left_after made x i left other)))
      ];
      fewer = let fewer = left_count made x here in let longer = length-append order (x ∷ []) in omega (arith, fewer, longer, far.fewer);
      each = still_next needs n order x far.each next;
    }

pub makes_one : (made : List Bool) (x : ℕ) → IsLeft made x → MakesOne made (set made x true)
makes_one made x left = (left_count made x left, λ i later. (left_before made x i later).0)

-- a place is made that makes no name, or this one
module _ (g : Graph) (made : List Bool) (i : ℕ) (here : IsLeft made i) where
  pub seen_next : (seen : List ℕ) → IsSeen g made seen → IsSeen g (set made i true) seen
  seen_next seen old = record {
    same = old.same;
    each = λ j k left within awaited.
        let x = get_or (stands_at g j) k 0 in
        let split = split_makers (makes_of g) made i x here in
        old.each j k (left_before made i j left).0 within (omega (arith, split, awaited));
  }

  same_makers : (x : ℕ) → count_name (made_at g i) x ≡ 0 → makers_left (makes_of g) made x ≡ makers_left (makes_of g) (set made i true) x
  same_makers x none = let split = split_makers (makes_of g) made i x here in omega (arith, split, none)

  fewer_makers : (x : ℕ) → made_at g i ≡ Some x → makers_left (makes_of g) made x ≡ makers_left (makes_of g) (set made i true) x + 1
  fewer_makers x is =
      let split = split_makers (makes_of g) made i x here in
      let one : count_name (made_at g i) x ≡ 1 = ap (λ (m : Option ℕ). count_name m x) is ∙ count_same x in
      omega (arith, split, one)

  none_of : (x y : ℕ) → made_at g i ≡ Some y → y ≢ x → count_name (made_at g i) x ≡ 0
  none_of x y is other = ap (λ (m : Option ℕ). count_name m x) is ∙ count_other y x other

  pub counted_none : (left : List ℕ) → IsCounted g made left → made_at g i ≡ None → IsCounted g (set made i true) left
  counted_none left old is = record {
    places = length-set made i true ∙ old.places;
    names = old.names;
    each = λ x within. old.each x within ∙ same_makers x (ap (λ (m : Option ℕ). count_name m x) is);
  }

  pub some_left : (left : List ℕ) (y : ℕ) → IsCounted g made left → y < name_count g → made_at g i ≡ Some y → 0 < get_or left y 0
  some_left left y old within is = let e = old.each y within in let f = fewer_makers y is in omega (arith, e, f)

  pub counted_some : (left : List ℕ) (y : ℕ) → IsCounted g made left → y < name_count g → made_at g i ≡ Some y → IsCounted g (set made i true) (set left y (get_or left y 0 - 1))
  counted_some left y old within is = record {
    places = length-set made i true ∙ old.places;
    names = length-set left y (get_or left y 0 - 1) ∙ old.names;
    each = λ x inside. elim (equal_or_not y x) [
      | inl e ↦
          let P : ℕ → Type 0 = λ z. get_or (set left y (get_or left y 0 - 1)) z 0 ≡ makers_left (makes_of g) (set made i true) z in
          let at = get_or-set_same left y (get_or left y 0 - 1) 0 (omega (arith, within, old.names)) in
          let was = old.each y within in
          let fewer = fewer_makers y is in
          subst P e (omega (arith, at, was, fewer))
      | inr other ↦ get_or-set_other left y x (get_or left y 0 - 1) 0 (λ e. other (sym e)) ∙ old.each x inside ∙ same_makers x (none_of x y is other)
    ];
  }

  pub queued_none : (queue : List ℕ) → IsQueuedBut g made queue i → made_at g i ≡ None → IsQueued g (set made i true) queue
  queued_none queue old is = record {
    within = old.within;
    each = λ j left. let b = left_before made i j left in elim (old.each j b.0) [
      | inl has ↦ inl has
      | inr rest ↦ elim rest [
        | inl e ↦ absurd (b.1 e)
        | inr bound ↦ let same = same_makers bound.0 (ap (λ (m : Option ℕ). count_name m bound.0) is) in inr (bound.0, bound.1, omega (arith, same, bound.2))
      ]
    ];
  }

  pub queued_some : (old new left : List ℕ) (y : ℕ) → IsGraph g → IsQueuedBut g made old i → IsCounted g (set made i true) left → y < name_count g → made_at g i ≡ Some y → IsPassed (users_at g y) (get_or left y 0) old new → IsQueued g (set made i true) new
  queued_some old new left y graph but counted within is passed = record {
    within = λ j has. elim (passed.none_else j has) [ inl before ↦ but.within j before | inr user ↦ graph.within j y user ];
    each = λ j later. let b = left_before made i j later in elim (but.each j b.0) [
      | inl has ↦ inl (passed.keeps j has)
      | inr rest ↦ elim rest [
        | inl e ↦ absurd (b.1 e)
        | inr bound ↦ elim (equal_or_not y bound.0) [
          | inr other ↦ let same = same_makers bound.0 (none_of bound.0 y is other) in inr (bound.0, bound.1, omega (arith, same, bound.2))
          | inl e ↦
              let F : ℕ → Type 0 = λ x. Contains (stands_at g j) x in
              let stands = subst F (sym e) bound.1 in
              elim (cases_lt 1 (get_or left y 0)) [
                | inl more ↦ let are = counted.each y within in let small = count_small (made_at g j) y in inr (y, stands, omega (arith, are, small, more))
                | inr few ↦ inl (passed.adds few j (graph.users j y stands))
              ]
        ]
      ]
    ];
  }

pub queued_but : (g : Graph) (made : List Bool) (queue : List ℕ) (x : ℕ) → IsQueued g made queue → IsQueuedBut g made queue x
queued_but g made queue x all = record { within = all.within; each = λ i left. elim (all.each i left) [ inl has ↦ inl has | inr bound ↦ inr (inr bound) ] }

-- how far the names of a place were looked at
module _ (g : Graph) (made : List Bool) (left seen : List ℕ) (i to : ℕ) (p : Place) (graph : IsGraph g) (counted : IsCounted g made left) (was : IsSeen g made seen) (within : i < count_of g) (is : p ≡ get_or g.places.items i p) (found : IsFirstAwaited p left (get_or seen i 0) to) where
  stands_is : stands_at g i ≡ p.stands.items
  stands_is = stands_here g i p within is

  own_is : (x : ℕ) → count_name (made_at g i) x ≡ count_name p.makes x
  own_is x = ap (λ (m : Option ℕ). count_name m x) (made_here g i p within is)

  name_at : (k : ℕ) → k < length p.stands.items → Contains (stands_at g i) (get_or (stands_at g i) k 0)
  name_at k inside = Contains-get_or (stands_at g i) k 0 (omega (arith, inside, ap (λ (l : List ℕ). length l) stands_is))

  same_name : (k : ℕ) → get_or (stands_at g i) k 0 ≡ get_or p.stands.items k 0
  same_name k = ap (λ (l : List ℕ). get_or l k 0) stands_is

  not_awaited : (k : ℕ) → k < to → IsLeft made i → IsAwaited g made i (get_or (stands_at g i) k 0) → ⊥
  not_awaited k before here awaited = elim (cases_lt k (get_or seen i 0)) [
    | inl old ↦ was.each i k here old awaited
    | inr new ↦
        let x = get_or (stands_at g i) k 0 in
        let F : ℕ → Type 0 = λ y. get_or left y 0 ≤ count_name p.makes y in
        let passed = subst F (sym (same_name k)) (found.passed k new before) in
        let are = counted.each x (graph.stands i x (name_at k (omega (arith, before, found.within)))) in
        omega (arith, passed, are, awaited, own_is x)
  ]

  pub free_at_end : IsLeft made i → length p.stands.items ≤ to → IsFree g made i
  free_at_end here end = (
    here,
    λ bound.
        let k = bound.1.0 in
        let at : get_or (stands_at g i) k 0 ≡ bound.0 = same_at (stands_at g i) k 0 bound.0 bound.1.1 ∙ bound.1.2 in
        let F : ℕ → Type 0 = λ y. IsAwaited g made i y in
        not_awaited k (omega (arith, end, bound.1.1, ap (λ (l : List ℕ). length l) stands_is)) here (subst F (sym at) bound.2),
  )

  pub bound_before : to < length p.stands.items → IsBound g made i
  bound_before before =
      let x = get_or (stands_at g i) to 0 in
      let F : ℕ → Type 0 = λ y. count_name p.makes y < get_or left y 0 in
      let here = subst F (sym (same_name to)) (found.found before) in
      let are = counted.each x (graph.stands i x (name_at to before)) in
      (x, name_at to before, omega (arith, here, are, own_is x))

  pub seen_more : IsSeen g made (set seen i to)
  seen_more = record {
    same = length-set seen i to ∙ was.same;
    each = λ j k here before awaited. elim (equal_or_not i j) [
      | inl e ↦
          let F : ℕ → Type 0 = λ z. IsLeft made z in
          let G : ℕ → Type 0 = λ z. IsAwaited g made z (get_or (stands_at g z) k 0) in
          let H : ℕ → Type 0 = λ z. k < get_or (set seen i to) z 0 in
          let now = get_or-set_same seen i to 0 (omega (arith, within, was.same)) in
          let lt = subst H (sym e) before in
          not_awaited k (omega (arith, lt, now)) (subst F (sym e) here) (subst G (sym e) awaited)
      | inr other ↦ let now = get_or-set_other seen i j to 0 (λ e. other (sym e)) in was.each j k here (omega (arith, before, now)) awaited
    ];
  }

-- one more place, of which it is known what it makes
pub counted_more :
    (makes : List (Option ℕ)) (left : List ℕ) (k y v n : ℕ) → k < length makes → get_or makes k None ≡ Some y → y < length left → v ≡ get_or left y 0 → ((x : ℕ) → x < n → get_or left x 0 ≡ sum_by (λ m. count_name m x) (take k makes)) → (x : ℕ) → x < n
    → get_or (set left y (v + 1)) x 0 ≡ sum_by (λ m. count_name m x) (take (k + 1) makes)
counted_more makes left k y v n inside is within was so_far x small =
    let more = sum_by_more (λ m. count_name m x) makes k None inside in
    let old = so_far x small in
    let own : count_name (get_or makes k None) x ≡ count_name (Some y) x = ap (λ (m : Option ℕ). count_name m x) is in
    elim (equal_or_not y x) [
      | inl e ↦
          let now = get_or-set_same left y (v + 1) 0 within in
          let P : ℕ → Type 0 = λ z. get_or (set left y (v + 1)) z 0 ≡ get_or left z 0 + 1 in
          let one : count_name (Some y) x ≡ 1 = ap (λ (z : ℕ). count_name (Some z) x) e ∙ count_same x in
          let here = subst P e (omega (arith, now, was)) in
          omega (arith, more, old, own, one, here)
      | inr other ↦ let now = get_or-set_other left y x (v + 1) 0 (λ e. other (sym e)) in omega (arith, more, old, own, count_other y x other, now)
    ]

pub counted_no_more : (makes : List (Option ℕ)) (left : List ℕ) (k n : ℕ) → k < length makes → get_or makes k None ≡ None → ((x : ℕ) → x < n → get_or left x 0 ≡ sum_by (λ m. count_name m x) (take k makes)) → (x : ℕ) → x < n → get_or left x 0 ≡ sum_by (λ m. count_name m x) (take (k + 1) makes)
counted_no_more makes left k n inside is so_far x small =
    let more = sum_by_more (λ m. count_name m x) makes k None inside in
    let old = so_far x small in
    let own : count_name (get_or makes k None) x ≡ 0 = ap (λ (m : Option ℕ). count_name m x) is in
    omega (arith, more, old, own)

pub queues_all : (users places : List ℕ) (left : ℕ) (old new : List ℕ) → places ≡ users → IsPermutation (old ++ places) new → IsPassed users left old new
queues_all users places left old new is perm =
    let F : (i : ℕ) → List ℕ → Type 0 = λ i l. Contains l i in
    record {
      keeps = λ i has. Contains-permutation (old ++ places) new i perm (Contains-append_left old places i has);
      adds = λ few i has. Contains-permutation (old ++ places) new i perm (Contains-append_right old places i (subst (F i) (sym is) has));
      none_else = λ i has. elim (Contains-append_cases old places i (Contains-permutation new (old ++ places) i (IsPermutation-sym (old ++ places) new perm) has)) [ inl before ↦ inl before | inr user ↦ inr (subst (F i) is user) ];
    }

-- facts of what a call left
pub on_ok_both : {T E P Q R : Type 0} (r : Result T E) → (P → Q → R) → OnOk r P → OnOk r Q → OnOk r R
on_ok_both (Ok x) to p q = to p q
on_ok_both (Err e) to p q = q

pub on_ok_any : {T E P : Type 0} (r : Result T E) → P → OnOk r P
on_ok_any (Ok x) p = p
on_ok_any (Err e) p = tt

in_rest : (x i : ℕ) (xs : List ℕ) → Contains xs i → Contains (x ∷ xs) i
in_rest x i xs has = (suc has.0, omega (arith, has.1), has.2)

pub each_more : (old new : List ℕ) (n : ℕ) → IsEach old n → IsPermutation (n ∷ old) new → IsEach new (n + 1)
each_more old new n each perm = λ i. (
  λ has. elim (in_cons old n i (Contains-permutation new (n ∷ old) i (IsPermutation-sym (n ∷ old) new perm) has)) [ inl rest ↦ let lt : i < n = (each i).0 rest in omega arith | inr e ↦ omega arith ],
  λ lt. Contains-permutation (n ∷ old) new i perm (elim (equal_or_not n i) [ inl e ↦ (0, omega arith, e) | inr other ↦ in_rest n i old ((each i).1 (omega arith)) ]),
)

left_at_start : (n i : ℕ) → IsLeft (replicate n false) i → i < n
left_at_start n i left = let within = left_within (replicate n false) i left in omega (arith, within, length-replicate n false)

count_at_start : (n : ℕ) → count_left (replicate n false) ≡ n
count_at_start zero = refl
count_at_start (suc n) = let rest = count_at_start n in omega arith

zero_at : (n i : ℕ) → let none : ℕ = 0 in get_or (replicate n none) i none ≡ none
zero_at zero i = refl
zero_at (suc n) zero = refl
zero_at (suc n) (suc i) = zero_at n i

-- nothing is made at the start
pub starts : (needs : ℕ → ℕ → Type 0) (n : ℕ) → IsPartOrder needs n (replicate n false) []
starts needs n = record {
  same = length-replicate n false;
  left = λ i left has. absurd (omega (arith, has.1));
  taken = λ i within done. absurd (done (get_or-replicate n i false true within));
  fewer = let all = count_at_start n in omega (arith, all);
  each = λ k within. absurd (omega arith);
}

pub starts_seen : (g : Graph) → IsSeen g (replicate (count_of g) false) (replicate (count_of g) 0)
starts_seen g = record {
  same = length-replicate (count_of g) 0;
  each = λ i k left within awaited. let none = zero_at (count_of g) i in omega (arith, none, within);
}

pub starts_counted : (g : Graph) (left : List ℕ) → length left ≡ name_count g → ((x : ℕ) → x < name_count g → get_or left x 0 ≡ sum_by (λ m. count_name m x) (makes_of g)) → IsCounted g (replicate (count_of g) false) left
starts_counted g left same each = record {
  places = length-replicate (count_of g) false;
  names = same;
  each = λ x within. each x within ∙ sym (all_makers (makes_of g) x (count_of g) (sym (length-map g.places.items (λ p. p.makes))));
}

pub starts_queued : (g : Graph) (queue : List ℕ) → IsEach queue (count_of g) → IsQueued g (replicate (count_of g) false) queue
starts_queued g queue each = record {
  within = λ i has. (each i).0 has;
  each = λ i left. inl ((each i).1 (left_at_start (count_of g) i left));
}

none_counted : (made : List Bool) → AreMade made (length made) → count_left made ≡ 0
none_counted [] all = refl
none_counted (true ∷ made) all = let rest = none_counted made (λ i lt left. all (suc i) (omega arith) left) in omega arith
none_counted (false ∷ made) all = absurd (all 0 (omega arith) refl)

-- all are made at the end
pub ends : (needs : ℕ → ℕ → Type 0) (count : ℕ) (made : List Bool) (order : List ℕ) (n : ℕ) → count ≤ n → IsPartOrder needs count made order → AreMade made n → IsOrder needs count order
ends needs count made order n long far all =
    let none : count_left made ≡ 0 = none_counted made (λ i lt left. all i (omega (arith, lt, long, far.same)) left) in
    record { all = omega (arith, none, far.fewer); each = far.each }
