-- The seats of a list of places, each with the replica that lies there.
use Rattle.std.proofs.Common.{◌≡◌, nat_eq, nat_lt, inl, inr, ℕ, ◌+◌, ◌<◌, ◌≤◌, max, Bool, true, false, ◌||◌, cond, List, [], ◌∷◌, ◌++◌, Option, None, Some, All, Contains, length, map, slice_index_or, take, refl, sym, ◌∙◌, subst, ap, arith}
use Rattle.std.specs.List.{AllPairs, cons_option, find}
use Rattle.std.proofs.lemmas.List.{map-append, take_all, take_more}
use Rattle.std.proofs.lemmas.List.Elements.{All-contains, All-nil, All-cons}
use Rattle.std.proofs.lemmas.Bool.{ltb-false, ltb-true}
use Rattle.std.specs.Ordering.{is_lt, nat_cmp, ord_max}
use Rattle.std.specs.declared.cmp.Ordering.TheVariants.{Equal, Greater, Less}
use Rattle.mdv_config.proofs.Pairs.{AllPairs-cons, AllPairs-first, AllPairs-rest}
use Rattle.mdv_survey.specs.Choice.{is_of}
use Rattle.mdv_survey.proofs.Identities.{find_some}
use Rattle.mdv_store.specs.Below.{Identity, Place, Replica, Spot, greatest, same_spot}
use Rattle.mdv_store.specs.Boot.{greatest_number, is_seated, seat_for, seats_of}
use Rattle.mdv_store.specs.Seats.{replicas_of, spot_of, spots_of}
use Rattle.mdv_store.specs.declared.seats.Seat.{Seat}
use Rattle.mdv_store.proofs.Sitting.{contains_behind, contains_first, first_or_behind}

pub or_yes : (a b : Bool) → a ≡ false → b ≡ false → (a || b) ≡ false
or_yes true b is so = absurd (cc (is))
or_yes false b is so = so

-- one replica more
pub greatest_more : (identity : Identity) (rs : List Replica) (r : Replica) → greatest_number identity (rs ++ r ∷ []) ≡ cond (is_of identity r) (max (greatest_number identity rs) (greatest r.head)) (greatest_number identity rs)
greatest_more identity [] r = by (is_of identity r) where
  by : (b : Bool) → cond b (max (greatest r.head) 0) 0 ≡ cond b (max 0 (greatest r.head)) 0
  by true = omega arith
  by false = refl
greatest_more identity (x ∷ xs) r = by (is_of identity x) (is_of identity r) (greatest_more identity xs r) where
  by : (a b : Bool) → greatest_number identity (xs ++ r ∷ []) ≡ cond b (max (greatest_number identity xs) (greatest r.head)) (greatest_number identity xs)
      → cond a (max (greatest x.head) (greatest_number identity (xs ++ r ∷ []))) (greatest_number identity (xs ++ r ∷ []))
      ≡ cond b (max (cond a (max (greatest x.head) (greatest_number identity xs)) (greatest_number identity xs)) (greatest r.head)) (cond a (max (greatest x.head) (greatest_number identity xs)) (greatest_number identity xs))
  by true true rest = omega (arith, rest)
  by true false rest = omega (arith, rest)
  by false true rest = rest
  by false false rest = rest

-- it is less than the limit where each number is
pub greatest_less : (identity : Identity) (rs : List Replica) (limit : ℕ) → 0 < limit → ((r : Replica) → Contains rs r → greatest r.head < limit) → greatest_number identity rs < limit
greatest_less identity [] limit some each = some
greatest_less identity (x ∷ xs) limit some each = by (is_of identity x) (each x (contains_first x xs)) (greatest_less identity xs limit some (λ r has. each r (contains_behind x r xs has))) where
  by : (b : Bool) → greatest x.head < limit → greatest_number identity xs < limit → cond b (max (greatest x.head) (greatest_number identity xs)) (greatest_number identity xs) < limit
  by true one rest = omega (arith, one, rest)
  by false one rest = rest

-- and no replica of the identity has a greater one
pub greatest_most : (identity : Identity) (rs : List Replica) (r : Replica) → Contains rs r → is_of identity r ≡ true → greatest r.head ≤ greatest_number identity rs
greatest_most identity [] r has own = absurd (omega (arith, has.1))
greatest_most identity (x ∷ xs) r has own = elim (first_or_behind x r xs has) [
  | inl here ↦ subst (λ (b : Bool). greatest r.head ≤ cond b (max (greatest x.head) (greatest_number identity xs)) (greatest_number identity xs)) (sym (ap (is_of identity) here ∙ own))
      (omega (arith, ap (λ (y : Replica). greatest y.head) here))
  | inr there ↦ by (is_of identity x) (greatest_most identity xs r there own)
] where
  by : (b : Bool) → greatest r.head ≤ greatest_number identity xs → greatest r.head ≤ cond b (max (greatest x.head) (greatest_number identity xs)) (greatest_number identity xs)
  by true rest = omega (arith, rest)
  by false rest = rest

module _ (replicas : List Replica) (identity : Identity) (text : ℕ) where
  abbrev seats : List Place → List Seat
  seats = seats_of replicas identity text

  pub seats_places : (places : List Place) → map (λ (s : Seat). s.place) (seats places) ≡ places
  seats_places [] = refl
  seats_places (p ∷ places) = ap (λ (l : List Place). p ∷ l) (seats_places places)

  -- a seat with a replica
  pub record IsSeat (s : Seat) (r : Replica) : Type 0 where
    pub found : Contains replicas r
    pub seated : is_seated identity s.place text r ≡ true

  pub seat_of_replica : (places : List Place) (s : Seat) (r : Replica) → Contains (seats places) s → s.replica ≡ Some r → IsSeat s r
  seat_of_replica [] s r has is = absurd (omega (arith, has.1))
  seat_of_replica (p ∷ places) s r has is = elim (first_or_behind (seat_for replicas identity text p) s (seats places) has) [
    | inl here ↦ (let one = find_some (is_seated identity p text) replicas r (ap (λ (x : Seat). x.replica) here ∙ is) in
        record { found = one.0; seated = subst (λ (x : Seat). is_seated identity x.place text r ≡ true) here one.1 })
    | inr there ↦ seat_of_replica places s r there is
  ]

  -- the same of the replicas alone
  pub seated_at : (places : List Place) (r : Replica) → Contains (replicas_of (seats places)) r → (p : Place) × Contains replicas r × (is_seated identity p text r ≡ true) × Contains places p
  seated_at [] r has = absurd (omega (arith, has.1))
  seated_at (p ∷ places) r has = by (find (is_seated identity p text) replicas) refl has (λ there. (let rest = seated_at places r there in (rest.0, rest.1, rest.2, contains_behind p rest.0 places rest.3))) where
    by : (o : Option Replica) → find (is_seated identity p text) replicas ≡ o → Contains (cons_option o (replicas_of (seats places))) r
        → (Contains (replicas_of (seats places)) r → (q : Place) × Contains replicas r × (is_seated identity q text r ≡ true) × Contains (p ∷ places) q)
        → (q : Place) × Contains replicas r × (is_seated identity q text r ≡ true) × Contains (p ∷ places) q
    by None none there later = later there
    by (Some x) some has later = elim (first_or_behind x r (replicas_of (seats places)) has) [
      | inl here ↦ (let one = find_some (is_seated identity p text) replicas r (some ∙ ap Some here) in (p, one.0, one.1, contains_first p places))
      | inr there ↦ later there
    ]

  -- replicas of different places lie apart: so do all seats, as the places differ
  module _ (apart : (p q : Place) (r x : Replica) → Contains replicas r → Contains replicas x → is_seated identity p text r ≡ true → is_seated identity q text x ≡ true → (p ≡ q → ⊥) → same_spot (spot_of r) (spot_of x) ≡ false) where
    pub seats_once : (places : List Place) → AllPairs (λ (p q : Place). p ≡ q → ⊥) places → AllPairs (λ (p q : Spot). same_spot p q ≡ false) (spots_of (seats places))
    seats_once [] differ = λ i j d less within. absurd (omega (arith, within))
    seats_once (p ∷ places) differ = by (find (is_seated identity p text) replicas) refl (seats_once places (AllPairs-rest (λ (a b : Place). a ≡ b → ⊥) p places differ)) where
      each : (x : Replica) (rs : List Replica) → ((r : Replica) → Contains rs r → same_spot (spot_of x) (spot_of r) ≡ false) → All (λ (q : Spot). same_spot (spot_of x) q ≡ false) (map spot_of rs)
      each x [] all = All-nil (λ (q : Spot). same_spot (spot_of x) q ≡ false)
      each x (r ∷ rs) all = All-cons (λ (q : Spot). same_spot (spot_of x) q ≡ false) (spot_of r) (map spot_of rs) (all r (contains_first r rs)) (each x rs (λ y has. all y (contains_behind r y rs has)))

      by : (o : Option Replica) → find (is_seated identity p text) replicas ≡ o → AllPairs (λ (a b : Spot). same_spot a b ≡ false) (spots_of (seats places)) → AllPairs (λ (a b : Spot). same_spot a b ≡ false) (map spot_of (cons_option o (replicas_of (seats places))))
      by None is once = once
      by (Some x) is once =
          let one = find_some (is_seated identity p text) replicas x is in
          AllPairs-cons (λ (a b : Spot). same_spot a b ≡ false) (spot_of x) (spots_of (seats places))
          (each x (replicas_of (seats places)) (λ r has.
          let at = seated_at places r has in
          apart p at.0 x r one.0 at.1 one.1 at.2 (All-contains (λ (q : Place). p ≡ q → ⊥) places at.0 (AllPairs-first (λ (a b : Place). a ≡ b → ⊥) p places differ) at.3))) once

pub greatest_taken : (identity : Identity) (rs : List Replica) (n greatest : ℕ) → length rs ≤ n → greatest ≡ greatest_number identity (take n rs) → greatest ≡ greatest_number identity rs
greatest_taken identity rs n greatest all is = is ∙ ap (greatest_number identity) (take_all n rs all)

pub seats_taken : (replicas : List Replica) (identity : Identity) (text : ℕ) (places : List Place) (n : ℕ) (seats : List Seat) → length places ≤ n → seats ≡ seats_of replicas identity text (take n places) → seats ≡ seats_of replicas identity text places
seats_taken replicas identity text places n seats all is = is ∙ ap (seats_of replicas identity text) (take_all n places all)

pub seats_step : (replicas : List Replica) (identity : Identity) (text : ℕ) (places : List Place) (i : ℕ) (d : Place) (seats new : List Seat) (found : Option Replica) → i < length places → seats ≡ seats_of replicas identity text (take i places)
    → found ≡ find (is_seated identity (slice_index_or places i d) text) replicas → new ≡ seats ++ record { place = slice_index_or places i d; replica = found } ∷ [] → new ≡ seats_of replicas identity text (take (i + 1) places)
seats_step replicas identity text places i d seats new found within is at more =
    let p : Place = slice_index_or places i d in
    more ∙ ap (λ (o : Option Replica). seats ++ record { place = p; replica = o } ∷ []) at ∙ ap (λ (x : List Seat). x ++ seat_for replicas identity text p ∷ []) is
    ∙ sym (map-append (seat_for replicas identity text) (take i places) (p ∷ [])) ∙ ap (seats_of replicas identity text) (sym (take_more places i d within))

-- the greater of two numbers
pub max_is : (a b : ℕ) → ord_max nat_cmp a b ≡ max a b
max_is a b = by (nat_lt b a) (nat_eq b a) refl where
  by : (l e : Bool) → nat_lt b a ≡ l → cond (is_lt (cond l Less (cond e Equal Greater))) a b ≡ max a b
  by true e is = omega (arith, ltb-true b a is)
  by false true is = omega (arith, ltb-false b a is)
  by false false is = omega (arith, ltb-false b a is)
