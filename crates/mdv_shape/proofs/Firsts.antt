-- What is found on a slice is its first spare.
use Rattle.std.proofs.Common.{◌≡◌, ◌<◌, ◌+◌, ◌==◌, ◌&&◌, ◌++◌, ℕ, Bool, true, false, cond, Option, None, Some, List, [], ◌∷◌, length, get_or, take, refl, sym, ◌∙◌, ap}
use Rattle.std.proofs.lemmas.List.{take_more}
use Rattle.std.specs.BTreeMap.{BTreeMap, get}
use Rattle.std.specs.List.{list_all}
use Rattle.std.specs.Option.{option_or}
use Rattle.std.specs.Ordering.{nat_cmp}
use Rattle.mdv_shape.specs.Below.{Plan, SliceName, Spare, Table, slice_code, state_in}
use Rattle.mdv_shape.specs.Found.{AreFirsts, HasSeat, first_at, is_as_seat, is_seat_in, seat_in}
use Rattle.mdv_shape.specs.Seats.{all_spares, are_spares, is_in_use, is_room_for, is_seat, same_seat, seats_taken, spare_key}

-- one spare more
first_last : (ss : List Spare) (s : Spare) (k : ℕ) → first_at (ss ++ s ∷ []) k ≡ option_or (first_at ss k) (cond (spare_key s == k) (Some s) None)
first_last [] s k = refl
first_last (t ∷ ss) s k = go (spare_key t == k) (first_last ss s k)
  where
    go : (b : Bool) → first_at (ss ++ s ∷ []) k ≡ option_or (first_at ss k) (cond (spare_key s == k) (Some s) None) → cond b (Some t) (first_at (ss ++ s ∷ []) k) ≡ option_or (cond b (Some t) (first_at ss k)) (cond (spare_key s == k) (Some s) None)
    go true rest = refl
    go false rest = rest

pub firsts_more : (ss : List Spare) (i : ℕ) (d : Spare) (m n : BTreeMap ℕ Spare) → i < length ss → AreFirsts (take i ss) m → HasSeat m (get_or ss i d) n → AreFirsts (take (i + 1) ss) n
firsts_more ss i d m n within are more k =
    let s = get_or ss i d in
    more k
    ∙ ap (λ (o : Option Spare). option_or o (cond (spare_key s == k) (Some s) None)) (are k)
    ∙ sym (first_last (take i ss) s k)
    ∙ ap (λ (l : List Spare). first_at l k) (sym (take_more ss i d within))

all_same : {T : Type 0} (p q : T → Bool) (xs : List T) → ((x : T) → p x ≡ q x) → list_all p xs ≡ list_all q xs
all_same p q [] same = refl
all_same p q (x ∷ xs) same = ap (λ (b : Bool). b && list_all p xs) (same x) ∙ ap (λ (b : Bool). q x && b) (all_same p q xs same)

-- of the spares of all pools
module _ (p : Plan) (seats : BTreeMap ℕ Spare) (from : List Spare) (are : AreFirsts from seats) (all : from ≡ all_spares p) where
  seat_is : (name : SliceName) → seat_in seats name ≡ first_at (all_spares p) (slice_code name)
  seat_is name = are (slice_code name) ∙ ap (λ (l : List Spare). first_at l (slice_code name)) all

  spares_are : (ss : List Spare) → list_all (is_as_seat seats) ss ≡ list_all (λ s. same_seat s (first_at (all_spares p) (slice_code s.slice))) ss
  spares_are ss = all_same (is_as_seat seats) (λ s. same_seat s (first_at (all_spares p) (slice_code s.slice))) ss (λ s. ap (same_seat s) (seat_is s.slice))

pub first_told : (p : Plan) (seats : BTreeMap ℕ Spare) (ss from held : List Spare) (b : Bool) → ss ≡ all_spares p → AreFirsts from seats → from ≡ ss → held ≡ ss → b ≡ list_all (is_as_seat seats) held → b ≡ are_spares p
first_told p seats ss from held b all are same here told =
    told
    ∙ ap (λ (l : List Spare). list_all (is_as_seat seats) l) (here ∙ all)
    ∙ spares_are p seats from are (same ∙ all) (all_spares p)

pub seats_told : (t : Table) (seats : BTreeMap ℕ Spare) (ss from taken held : List Spare) (b : Bool) → ss ≡ all_spares t.plan → AreFirsts from seats → from ≡ ss → taken ≡ seats_taken t → held ≡ taken → b ≡ list_all (is_seat_in seats t.status.spares) held → b ≡ list_all (is_seat t) (seats_taken t)
seats_told t seats ss from taken held b all are same is here told =
    told
    ∙ ap (λ (l : List Spare). list_all (is_seat_in seats t.status.spares) l) (here ∙ is)
    ∙ all_same (is_seat_in seats t.status.spares) (is_seat t) (seats_taken t) (λ s. ap (λ (o : Option Spare). is_room_for s o && is_in_use (state_in t.status.spares s.slice)) (seat_is t.plan seats from are (same ∙ all) s.slice))
