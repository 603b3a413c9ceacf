-- How many places are active where half of a list is.
use Rattle.std.proofs.Common.{◌≡◌, inl, inr, ◌≤◌, ◌+◌, ◌*◌, ◌&&◌, ◌||◌, ℕ, Bool, true, false, cond, List, [], ◌∷◌, length, Contains, Option, None, Some, refl, sym, ◌∙◌, ap, subst, arith}
use Rattle.std.proofs.lemmas.Bool.{and_from, false_from_ne_true, le-leb, leb-true}
use Rattle.std.proofs.lemmas.List.Elements.{All-contains}
use Rattle.std.proofs.lemmas.List.Folds.{list_any_at}
use Rattle.std.specs.List.{cons_option}
use Rattle.std.specs.Prelude.{count_by, is_some}
use Rattle.mdv_acts.proofs.Members.{contains_behind, contains_first}
use Rattle.mdv_look.proofs.Bringing.{count_cons}
use Rattle.mdv_look.proofs.Looks.{count_within}
use Rattle.mdv_store.proofs.Shares.{list_none, list_suffices, seat_at}
use Rattle.mdv_store.specs.Listing.{is_listed_in, seats_in}
use Rattle.mdv_store.specs.Shares.{has_active, is_active, is_active_at, is_seat_at, short_of}
use Rattle.mdv_store.specs.declared.seats.Need.TheVariants.{Half}
use Rattle.mdv_config.proofs.Beside.{among-true}
use Rattle.mdv_config.proofs.Pairs.{AllPairs-first, AllPairs-rest}
use Rattle.mdv_config.proofs.Testing.{same_place-true}
use Rattle.mdv_places.specs.Below.{One, Place, Replica, Seat, active_of, replicas_of, same_place}
use Rattle.mdv_places.specs.Changing.{AreOnce}
use Rattle.mdv_places.proofs.Coming.{keeps}
use Rattle.mdv_places.proofs.Losing.{either_is}

-- a place is active by its seat
pub active_by : (seats : List Seat) (s : Seat) (p : Place) → Contains seats s → is_active_at p s ≡ true → has_active seats p ≡ true
active_by seats s p has is = list_any_at (is_active_at p) seats has.0 s has.1 (ap (is_active_at p) has.2 ∙ is)

pub seat_active : (s : Seat) (p : Place) (r : Replica) → s.replica ≡ Some r → s.place ≡ p → is_active_at p s ≡ true
seat_active s p r is here = and_from (is_seat_at p s) (is_active s) ((same_place-true s.place p).1 here) (ap is_some is)

-- so it is among those of a list that has it
active_in : (list : List Place) (seats : List Seat) (p : Place) → Contains list p → has_active seats p ≡ true → has_active (seats_in list seats) p ≡ true
active_in list seats p has so =
    let at = seat_at seats p so in
    active_by (seats_in list seats) at.0 p (keeps (is_listed_in list) seats at.0 at.2 ((among-true list at.0.place).1 (subst (Contains list) (sym at.4) has))) (seat_active at.0 p at.1 at.3 at.4)

-- half of the list is active among them, where it is among all
pub half_in : (list : List Place) (seats : List Seat) → short_of Half seats (One list) ≡ None → short_of Half (seats_in list seats) (One list) ≡ None
half_in list seats none =
    let half = leb-true (length list) (2 * count_by (has_active seats) list) (list_suffices Half seats list none) in
    let within = count_within (has_active seats) (has_active (seats_in list seats)) list (λ p has so. active_in list seats p has so) in
    list_none Half (seats_in list seats) list (le-leb (length list) (2 * count_by (has_active (seats_in list seats)) list) (omega (arith, half, within)))

-- none of a list passes
count_none : (f : Place → Bool) (xs : List Place) → ((p : Place) → Contains xs p → f p ≡ false) → count_by f xs ≡ 0
count_none f [] none = refl
count_none f (x ∷ xs) none =
    let rest = count_none f xs (λ p has. none p (contains_behind x p xs has)) in
    let first = ap (λ (b : Bool). cond {A = ℕ} b 1 0) (none x (contains_first x xs)) in
    omega (arith, count_cons f x xs, rest, first)

-- what passes one of two tests
count_either : (f h : Place → Bool) (xs : List Place) → count_by (λ p. f p || h p) xs ≤ count_by f xs + count_by h xs
count_either f h [] = omega arith
count_either f h (x ∷ xs) = omega (arith, count_cons (λ p. f p || h p) x xs, count_cons f x xs, count_cons h x xs, count_either f h xs, one (f x) (h x)) where
  one : (a b : Bool) → cond {A = ℕ} (a || b) 1 0 ≤ cond {A = ℕ} a 1 0 + cond {A = ℕ} b 1 0
  one true b = omega arith
  one false b = omega arith

-- a seat is that of one place of a list at most, and of none where it isn't active
unseated : (b : Bool) → (b && false) ≡ false
unseated true = refl
unseated false = refl

count_one : (s : Seat) (xs : List Place) → AreOnce xs → count_by (λ p. is_active_at p s) xs ≤ cond {A = ℕ} (is_active s) 1 0
count_one s xs once = by (is_active s) refl where
  away : (ps : List Place) (p : Place) → (s.place ≡ p → ⊥) → is_active_at p s ≡ false
  away ps p never = ap (λ (b : Bool). b && is_active s) (false_from_ne_true (same_place s.place p) (λ so. never ((same_place-true s.place p).0 so)))

  most : (ps : List Place) → AreOnce ps → count_by (λ p. is_active_at p s) ps ≤ 1
  most [] none = omega arith
  most (x ∷ ps) pairs = elim (either_is (same_place s.place x)) [
    | inl here ↦
        let same = (same_place-true s.place x).0 here in
        let rest = count_none (λ p. is_active_at p s) ps (λ p has. away ps p (λ e. All-contains (λ (q : Place). x ≡ q → ⊥) ps p (AllPairs-first (λ (a b : Place). a ≡ b → ⊥) x ps pairs) has (sym same ∙ e))) in
        omega (arith, count_cons (λ p. is_active_at p s) x ps, rest, at_most (is_active_at x s))
    | inr other ↦
        let rest = most ps (AllPairs-rest (λ (a b : Place). a ≡ b → ⊥) x ps pairs) in
        let none = ap (λ (b : Bool). cond {A = ℕ} b 1 0) (ap (λ (b : Bool). b && is_active s) other) in
        omega (arith, count_cons (λ p. is_active_at p s) x ps, rest, none)
  ]
    where
      at_most : (b : Bool) → cond {A = ℕ} b 1 0 ≤ 1
      at_most true = omega arith
      at_most false = omega arith

  by : (b : Bool) → is_active s ≡ b → count_by (λ p. is_active_at p s) xs ≤ cond {A = ℕ} b 1 0
  by true is = most xs once
  by false is = (let none = count_none (λ p. is_active_at p s) xs (λ p has. ap (λ (b : Bool). same_place s.place p && b) is ∙ unseated (same_place s.place p)) in omega (arith, none))

-- so of different places no more are active than seats are
count_active : (seats : List Seat) (xs : List Place) → AreOnce xs → count_by (has_active seats) xs ≤ active_of seats
count_active [] xs once = (let none = count_none (has_active []) xs (λ p has. refl) in omega (arith, none))
count_active (s ∷ ss) xs once = by s.replica (count_one s xs once) (count_active ss xs once) (count_either (λ p. is_active_at p s) (has_active ss) xs) where
  by : (o : Option Replica) → count_by (λ p. is_active_at p s) xs ≤ cond {A = ℕ} (is_some o) 1 0 → count_by (has_active ss) xs ≤ active_of ss → count_by (has_active (s ∷ ss)) xs ≤ count_by (λ p. is_active_at p s) xs + count_by (has_active ss) xs
      → count_by (has_active (s ∷ ss)) xs ≤ length (cons_option o (replicas_of ss))
  by None one rest both = omega (arith, one, rest, both)
  by (Some r) one rest both = omega (arith, one, rest, both)

-- half of a list of different places: so many are active
pub half_active : (seats : List Seat) (list : List Place) → AreOnce list → short_of Half seats (One list) ≡ None → length list ≤ 2 * active_of seats
half_active seats list once none =
    let half = leb-true (length list) (2 * count_by (has_active seats) list) (list_suffices Half seats list none) in
    omega (arith, half, count_active seats list once)

-- no more of a list's places are active than of all
pub fewer_in : (list : List Place) (seats : List Seat) → active_of (seats_in list seats) ≤ active_of seats
fewer_in list [] = omega arith
fewer_in list (s ∷ ss) = by (is_listed_in list s) (fewer_in list ss) where
  both : (o : Option Replica) → active_of (seats_in list ss) ≤ active_of ss → length (cons_option o (replicas_of (seats_in list ss))) ≤ length (cons_option o (replicas_of ss))
  both None rest = rest
  both (Some r) rest = omega (arith, rest)

  out : (o : Option Replica) → active_of (seats_in list ss) ≤ active_of ss → active_of (seats_in list ss) ≤ length (cons_option o (replicas_of ss))
  out None rest = rest
  out (Some r) rest = omega (arith, rest)

  by : (b : Bool) → active_of (seats_in list ss) ≤ active_of ss → active_of (cond b (s ∷ seats_in list ss) (seats_in list ss)) ≤ active_of (s ∷ ss)
  by true rest = both s.replica rest
  by false rest = out s.replica rest
