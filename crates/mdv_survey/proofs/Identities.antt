-- Which identities the replicas have that show tables.
use Rattle.std.proofs.Common.{◌≡◌, ℕ, zero, suc, ◌<◌, Bool, true, false, ◌&&◌, ◌||◌, not, cond, List, [], ◌∷◌, length, get_or, refl, sym, ◌∙◌, ap, subst, Some, None, arith}
use Rattle.std.specs.Prelude.{Contains, slice_index_or}
use Rattle.std.specs.List.{find}
use Rattle.std.proofs.lemmas.Bool.Decides.{nat_tests}
use Rattle.std.proofs.lemmas.Option.{get_or_from_slice_get, slice_get_within}
use Rattle.mdv_replica.specs.Form.{is_open}
use Rattle.mdv_survey.specs.Below.{First, Head, Identity, Mark, Open, Second, Slot, gate_of, shows}
use Rattle.mdv_survey.specs.Choice.{IsTheOne, ShowOne, is_of, same_identity, shows_other, shows_table}
use Rattle.mdv_survey.specs.Newest.{IsGreatest}
use Rattle.mdv_survey.specs.declared.replica.Newest.{Newest}
use Rattle.mdv_survey.specs.declared.replica.Replica.{Replica}

-- where nothing is found, no item passes
pub find_none : {X : Type 0} (p : X → Bool) (xs : List X) → find p xs ≡ None → (x : X) (k : ℕ) → k < length xs → slice_index_or xs k x ≡ x → p x ≡ false
find_none p [] is x k less at = absurd (omega (arith, less))
find_none p (y ∷ ys) is x zero less at = subst (λ (z : _). p z ≡ false) at (first (p y) is)
  where
    first : (b : Bool) → cond b (Some y) (find p ys) ≡ None → b ≡ false
    first true is = absurd (cc (is))
    first false is = refl
find_none p (y ∷ ys) is x (suc k) less at = find_none p ys (rest (p y) is) x k (omega (arith, less)) at
  where
    rest : (b : Bool) → cond b (Some y) (find p ys) ≡ None → find p ys ≡ None
    rest true is = absurd (cc (is))
    rest false is = is

-- what is found is an item that passes
pub find_some : {X : Type 0} (p : X → Bool) (xs : List X) (x : X) → find p xs ≡ Some x → Contains xs x × (p x ≡ true)
find_some p [] x is = absurd (cc (is))
find_some p (y ∷ ys) x is = by (p y) refl is (find_some p ys x) where
  by : (b : Bool) → p y ≡ b → cond b (Some y) (find p ys) ≡ Some x → (find p ys ≡ Some x → Contains ys x × (p x ≡ true)) → Contains (y ∷ ys) x × (p x ≡ true)
  by true here same later = (let e : y ≡ x = cc (same) in ((0, omega arith, e), ap p (sym e) ∙ here))
  by false here there later = (let rest = later there in ((suc rest.0.0, omega (arith, rest.0.1), rest.0.2), rest.1))

pub same_is : (a b : Identity) → same_identity a b ≡ true → a ≡ b
same_is a b same =
    let fresh : a.fresh ≡ b.fresh = grind (arith, nat_tests) in
    let number : a.number ≡ b.number = grind (arith, nat_tests) in
    λ i. record { fresh = fresh i; number = number i }

-- no replica shows a table
pub none_shown : (replicas : List Replica) → find shows_table replicas ≡ None → ShowOne replicas
none_shown replicas none a b has_a has_b shows_a shows_b = let dark = find_none shows_table replicas none a has_a.0 has_a.1 has_a.2 in absurd (cc (dark, shows_a))

-- none shows a table of another identity than this one
pub all_of : (replicas : List Replica) (identity : Identity) → find (shows_other identity) replicas ≡ None → (r : Replica) → Contains replicas r → shows r.head ≡ true → r.head.master.identity ≡ identity
all_of replicas identity none r has shown =
    same_is r.head.master.identity identity (by (shows r.head) (is_of identity r) shown (find_none (shows_other identity) replicas none r has.0 has.1 has.2))
  where
    by : (a b : Bool) → a ≡ true → (a && not b) ≡ false → b ≡ true
    by true true shown not_other = refl
    by true false shown not_other = absurd (cc (not_other))
    by false b shown not_other = absurd (cc (shown))

pub one_shown : (replicas : List Replica) (identity : Identity) → find (shows_other identity) replicas ≡ None → ShowOne replicas
one_shown replicas identity none a b has_a has_b shows_a shows_b = all_of replicas identity none a has_a shows_a ∙ sym (all_of replicas identity none b has_b shows_b)

first_shows : (a b : Bool) → a ≡ true → (a || b) ≡ true
first_shows true b is = refl
first_shows false b is = absurd (cc (is))

second_shows : (a b : Bool) → b ≡ true → (a || b) ≡ true
second_shows true b is = refl
second_shows false b is = is

-- an open slot shows a table
open_shows : (head : Head) (slot : Slot) (m : Mark) (bytes : ℕ) → gate_of head slot ≡ Open m bytes → shows head ≡ true
open_shows head First m bytes is = first_shows (is_open head.first) (is_open head.second) (ap is_open is)
open_shows head Second m bytes is = second_shows (is_open head.first) (is_open head.second) (ap is_open is)

module _ (replicas : List Replica) (newest : Newest) (is : IsGreatest replicas newest) where
  -- its replica is in the list
  pub within : newest.replica < length replicas
  within = slice_get_within replicas newest.replica is.replica is.one_of

  its_place : Contains replicas is.replica
  its_place = (newest.replica, within, get_or_from_slice_get replicas newest.replica is.replica is.replica is.one_of)

  pub the_one : ShowOne replicas → IsTheOne replicas newest is.replica
  the_one one = record {
    one_of = is.one_of;
    one = λ r has shown. one r is.replica has its_place shown (open_shows is.replica.head newest.slot newest.mark is.bytes is.gate);
  }

  pub its_item : (d : Replica) → get_or replicas newest.replica d ≡ is.replica
  its_item d = get_or_from_slice_get replicas newest.replica is.replica d is.one_of
