-- The newest table while replicas are added.
use Rattle.std.proofs.Common.{◌≡◌, inl, inr, ℕ, zero, suc, ◌<◌, slice_get, Bool, true, false, ◌||◌, List, [], ◌∷◌, ◌++◌, length, refl, ap, subst, Option, Some, None, arith}
use Rattle.std.specs.Prelude.{Contains}
use Rattle.std.proofs.lemmas.List.Elements.{Contains-push_cases}
use Rattle.mdv_name.proofs.Places.{slice_get-append, slice_get-push}
use Rattle.mdv_replica.specs.Form.{is_open}
use Rattle.mdv_survey.specs.Below.{First, Geometry, Head, IsBelow, Mark, Open, Second, Slot, gate_of, shows}
use Rattle.mdv_survey.specs.Replica.{Contents, at_of}
use Rattle.mdv_survey.specs.Newest.{HasNoneAbove, HasNot, HasTable, IsGreatest, IsMarked, IsNewerThan, IsShown, IsShownBy, ShowsIn}
use Rattle.mdv_survey.specs.declared.replica.Newest.{Newest}
use Rattle.mdv_survey.specs.declared.replica.Replica.{Replica}
use Rattle.mdv_survey.specs.declared.replica.Shown.{Shown}

one_open : (a b : Bool) → a ≡ true → (a || b) ≡ false → ⊥
one_open true b is dark = absurd (cc (dark))
one_open false b is dark = absurd (cc (is))

other_open : (a b : Bool) → b ≡ true → (a || b) ≡ false → ⊥
other_open true b is dark = absurd (cc (dark))
other_open false b is dark = absurd (cc (is, dark))

-- a head that shows no table has no open gate
pub closed_gates : (head : Head) (slot : Slot) (m : Mark) (bytes : ℕ) → shows head ≡ false → gate_of head slot ≡ Open m bytes → ⊥
closed_gates head First m bytes dark is = one_open (is_open head.first) (is_open head.second) (ap is_open is) dark
closed_gates head Second m bytes dark is = other_open (is_open head.first) (is_open head.second) (ap is_open is) dark

pub below_more : (a b c : Mark) → IsBelow a b → IsBelow b c → IsBelow a c
below_more a b c one other = grind arith

-- what isn't above the one mark isn't above another that isn't below it
not_above : (a b c : Mark) → (IsBelow a b → ⊥) → (IsBelow b c → ⊥) → IsBelow a c → ⊥
not_above a b c not nor below = grind arith

abbrev pub made_of : Shown → ℕ → Newest
made_of shown place = record { replica = place; slot = shown.slot; mark = shown.mark; table = shown.table }

-- what a list has at a number it has there with more behind it, and nothing else
got_front : {X : Type 0} (xs ys : List X) (k : ℕ) (x : X) → k < length xs → slice_get (xs ++ ys) k ≡ Some x → slice_get xs k ≡ Some x
got_front [] ys k x less is = absurd (omega (arith, less))
got_front (z ∷ xs) ys zero x less is = is
got_front (z ∷ xs) ys (suc k) x less is = got_front xs ys k x (omega (arith, less)) is

got_less : {X : Type 0} (xs : List X) (k : ℕ) (x : X) → slice_get xs k ≡ Some x → k < length xs
got_less [] k x is = absurd (cc (is))
got_less (z ∷ xs) zero x is = omega arith
got_less (z ∷ xs) (suc k) x is = omega (arith, got_less xs k x is)

got_in : {X : Type 0} (xs : List X) (k : ℕ) (x : X) → slice_get xs k ≡ Some x → Contains xs x
got_in [] k x is = absurd (cc (is))
got_in (z ∷ xs) zero x is = (let same : z ≡ x = cc (is) in (0, omega arith, same))
got_in (z ∷ xs) (suc k) x is = (let rest = got_in xs k x is in (suc rest.0, omega (arith, rest.1), rest.2))

module _ (replicas : List Replica) (r : Replica) where
  -- those before the newest one's replica are the same with one more behind
  first_beside : (newest : Newest) (is : IsGreatest replicas newest) (k : ℕ) (other : Replica) → k < newest.replica → slice_get (replicas ++ r ∷ []) k ≡ Some other → HasNot newest.mark other.head
  first_beside newest is k other less got =
      let known = got_less replicas newest.replica is.replica is.one_of in
      is.first k other less (got_front replicas (r ∷ []) k other (omega (arith, less, known)) got)

  -- a replica that shows no greater mark
  pub marked_beside : (newest : Option Newest) → IsMarked replicas newest → IsShown r.head None → IsMarked (replicas ++ r ∷ []) newest
  marked_beside None none dark = λ x has. elim (Contains-push_cases replicas r x has) [
    | inl old ↦ none x old
    | inr same ↦ subst (λ (y : Replica). shows y.head ≡ false) same dark
  ]
  marked_beside (Some newest) is dark = record {
    replica = is.replica;
    one_of = slice_get-append replicas (r ∷ []) newest.replica is.replica is.one_of;
    bytes = is.bytes;
    gate = is.gate;
    tie = is.tie;
    greatest = λ x has. elim (Contains-push_cases replicas r x has) [
      | inl old ↦ is.greatest x old
      | inr same ↦ subst (λ (y : Replica). HasNoneAbove newest.mark y.head) same (λ slot m bytes gate below. closed_gates r.head slot m bytes dark gate)
    ];
    first = first_beside newest is;
  }

  pub marked_older : (newest : Newest) (shown : Shown) → IsGreatest replicas newest → IsShownBy r.head shown → (IsBelow newest.mark shown.mark → ⊥) → IsGreatest (replicas ++ r ∷ []) newest
  marked_older newest shown is by not = record {
    replica = is.replica;
    one_of = slice_get-append replicas (r ∷ []) newest.replica is.replica is.one_of;
    bytes = is.bytes;
    gate = is.gate;
    tie = is.tie;
    greatest = λ x has. elim (Contains-push_cases replicas r x has) [
      | inl old ↦ is.greatest x old
      | inr same ↦ subst (λ (y : Replica). HasNoneAbove newest.mark y.head) same
          (λ slot m bytes gate. not_above newest.mark shown.mark m not (by.greatest slot m bytes gate))
    ];
    first = first_beside newest is;
  }

  -- a greater one
  pub marked_newer : (newest : Option Newest) (shown : Shown) → IsMarked replicas newest → IsShownBy r.head shown → ((n : Newest) → newest ≡ Some n → IsBelow n.mark shown.mark)
      → IsGreatest (replicas ++ r ∷ []) (made_of shown (length replicas))
  marked_newer newest shown is by newer = record {
    replica = r;
    one_of = slice_get-push replicas r;
    bytes = by.bytes;
    gate = by.gate;
    tie = by.tie;
    greatest = λ x has. elim (Contains-push_cases replicas r x has) [
      | inl old ↦ others newest is newer x old
      | inr same ↦ subst (λ (y : Replica). HasNoneAbove shown.mark y.head) same by.greatest
    ];
    first = λ k other less got. (let was = got_front replicas (r ∷ []) k other less got in none_has newest is newer other (got_in replicas k other was));
  }
    where
      none_has : (o : Option Newest) → IsMarked replicas o → ((n : Newest) → o ≡ Some n → IsBelow n.mark shown.mark) → (x : Replica) → Contains replicas x → HasNot shown.mark x.head
      none_has None none newer x has slot bytes gate = closed_gates x.head slot shown.mark bytes (none x has) gate
      none_has (Some n) is newer x has slot bytes gate = is.greatest x has slot shown.mark bytes gate (newer n refl)

      others : (o : Option Newest) → IsMarked replicas o → ((n : Newest) → o ≡ Some n → IsBelow n.mark shown.mark) → (x : Replica) → Contains replicas x → HasNoneAbove shown.mark x.head
      others None none newer x has slot m bytes gate below = closed_gates x.head slot m bytes (none x has) gate
      others (Some n) is newer x has slot m bytes gate below = is.greatest x has slot m bytes gate (below_more n.mark shown.mark m (newer n refl) below)

  pub table_beside : (g : Geometry) (content : Contents) (newest : Option Newest) → HasTable g content replicas newest → HasTable g content (replicas ++ r ∷ []) newest
  table_beside g content None has = tt
  table_beside g content (Some newest) has = record {
    replica = has.replica;
    one_of = slice_get-append replicas (r ∷ []) newest.replica has.replica has.one_of;
    shows = has.shows;
  }

  pub table_newer : (g : Geometry) (content : Contents) (shown : Shown) → ShowsIn g (at_of r) (content r.line.at.drive.0) r.head (Some shown) → HasTable g content (replicas ++ r ∷ []) (Some (made_of shown (length replicas)))
  table_newer g content shown shows = record { replica = r; one_of = slice_get-push replicas r; shows = shows }

  -- a mark that isn't greater changes nothing
  pub marked_stay : (newest : Option Newest) (shown : Shown) (newer : Bool) → newer ≡ false → IsMarked replicas newest → IsShownBy r.head shown → IsNewerThan newest shown.mark newer → IsMarked (replicas ++ r ∷ []) newest
  marked_stay None shown newer not is by test = absurd (cc (test, not))
  marked_stay (Some n) shown newer not is by test = marked_older n shown is by (λ below. (let yes : newer ≡ true = test.1 below in absurd (cc (yes, not))))

-- one that is greater
pub newer_of : (newest : Option Newest) (mark : Mark) (newer : Bool) → newer ≡ true → IsNewerThan newest mark newer → (n : Newest) → newest ≡ Some n → IsBelow n.mark mark
newer_of None mark newer greater test n is = absurd (cc (is))
newer_of (Some m) mark newer greater test n is = let same : m ≡ n = cc (is) in subst (λ (x : Newest). IsBelow x.mark mark) same (test.0 greater)
