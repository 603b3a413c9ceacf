-- Where no call failed a change of the places of an open database comes to one end.
use Rattle.std.proofs.Common.{◌≡◌, ◌⊎◌, inl, inr, ℕ, ◌+◌, ◌*◌, ◌^◌, ◌<◌, ◌≤◌, Bool, true, false, cond, not, filter, ◌&&◌, ◌||◌, List, [], ◌∷◌, ◌++◌, Option, None, Some, Contains, length, refl, sym, ◌∙◌, ap, subst, arith}
use Rattle.std.specs.Prelude.{count_by, is_some}
use Rattle.std.specs.List.{cons_option, filter_map, list_any}
use Rattle.std.proofs.lemmas.List.Sums.{length-filter}
use Rattle.mdv_acts.specs.Wipes.{in_front, ordered_with}
use Rattle.mdv_engine_law.specs.Moves.{places_under}
use Rattle.mdv_engine_law.specs.Places.{list_of}
use Rattle.mdv_name.specs.SliceIndex.{same_slice, slice_at}
use Rattle.mdv_places.specs.Moments.{found_at, places_dropped}
use Rattle.mdv_run_law.proofs.Keeping.{first_of}
use Rattle.mdv_volumes.proofs.Lists.{in_filter}
use Rattle.std.specs.Option.{option_or}
use Rattle.std.proofs.lemmas.Bool.{cases_Bool, false≢true, le-leb, leb-true}
use Rattle.mdv_base.specs.declared.place.Place.{Place}
use Rattle.mdv_databases.proofs.Finding.{count_weaker}
use Rattle.mdv_engine_law.specs.declared.answer.Ended.{Ended}
use Rattle.mdv_engine_law.specs.declared.answer.Ended.TheVariants as ended
use Rattle.mdv_engine_law.specs.Moves.{IsLostChange}
use Rattle.mdv_name.specs.declared.geometry.Geometry.{Geometry}
use Rattle.mdv_places.specs.Asked.{Asks, dropped, list_after, seats_added}
use Rattle.mdv_places.specs.Changing.{both_of}
use Rattle.mdv_places.specs.Outcomes.{IsLostBoth, IsLostLast, IsMoved, TakesBoth, lists_moved, seats_coming, till_wiped}
use Rattle.mdv_run_law.specs.Below.{Opened}
use Rattle.mdv_run_law.proofs.Moving.{any_has}
use Rattle.mdv_run_law.proofs.Passing.{NoneFailed, became, left_is, seats_with, slotted, slotted_is}
use Rattle.mdv_shelf.specs.Failing.{Outcomes}
use Rattle.mdv_store.proofs.Shares.{both_none, seat_at}
use Rattle.mdv_store.proofs.Sitting.{contains_behind, contains_first, first_or_behind, replica_of}
use Rattle.mdv_store.specs.Commit.{next_mark}
use Rattle.mdv_store.specs.Listing.{MayList, is_listed_in, seats_in}
use Rattle.mdv_store.specs.Opened.{shortage}
use Rattle.mdv_replica.specs.declared.replica.PlaceAt.{PlaceAt}
use Rattle.mdv_store.specs.Seats.{TakesSlot, active_of}
use Rattle.mdv_store.specs.Shares.{has_active, is_active, is_active_at, is_seat_at, share_in, short_in, short_of, suffices}
use Rattle.mdv_store.specs.Writing.{text_size}
use Rattle.mdv_store.specs.declared.seats.Need.TheVariants.{Half}
use Rattle.mdv_store.specs.declared.seats.Seat.{Seat}
use Rattle.mdv_store.specs.declared.seats.Share.{Share}
use Rattle.mdv_survey.specs.declared.replica.Replica.{Replica}
use Rattle.mdv_config.specs.Lists.{beside, last_of, same_place, settled}
use Rattle.mdv_plan.specs.declared.lists.Lists.{Lists}
use Rattle.mdv_plan.specs.declared.lists.Lists.TheVariants.{One, Two}

-- Seats whose replicas took something are as active as before.
module _ (f : Replica → Replica) where
  some_still : (o : Option Replica) → is_some (became f o) ≡ is_some o
  some_still None = refl
  some_still (Some r) = refl

  pub active_with : (seats : List Seat) (p : Place) → has_active (seats_with f seats) p ≡ has_active seats p
  active_with [] p = refl
  active_with (s ∷ ss) p = (λ i. (is_seat_at p s && some_still s.replica i) || active_with ss p i)

-- a place of a list is as active by the list's own seats
pub active_in : (list : List Place) (seats : List Seat) (p : Place) → Contains list p → has_active (seats_in list seats) p ≡ has_active seats p
active_in list [] p has = refl
active_in list (s ∷ ss) p has = by (is_listed_in list s) refl (active_in list ss p has) where
  away : is_listed_in list s ≡ false → is_active_at p s ≡ false
  away is = elim (cases_Bool (is_seat_at p s)) [
    | inl does ↦ absurd (false≢true (sym is ∙ any_has (same_place s.place) list p has does))
    | inr never ↦ ap (λ (b : Bool). b && is_active s) never
  ]

  by : (b : Bool) → is_listed_in list s ≡ b → has_active (seats_in list ss) p ≡ has_active ss p → has_active (cond b (s ∷ seats_in list ss) (seats_in list ss)) p ≡ has_active (s ∷ ss) p
  by true is rest = ap (λ (b : Bool). is_active_at p s || b) rest
  by false is rest = rest ∙ ap (λ (b : Bool). b || has_active ss p) (sym (away is))

-- it stays active among more seats
pub active_more : (seats more : List Seat) (p : Place) → has_active seats p ≡ true → has_active (seats ++ more) p ≡ true
active_more [] more p is = absurd (false≢true is)
active_more (s ∷ ss) more p is = by (is_active_at p s) (active_more ss more p) is where
  by : (b : Bool) → (has_active ss p ≡ true → has_active (ss ++ more) p ≡ true) → (b || has_active ss p) ≡ true → (b || has_active (ss ++ more) p) ≡ true
  by true rest is = refl
  by false rest is = rest is

-- seats of which a list's places are as active have one share of it
pub share_same : (a b : List Seat) (list : List Place) → ((p : Place) → Contains list p → has_active a p ≡ has_active b p) → share_in a list ≡ share_in b list
share_same a b list same = ap (λ (n : ℕ). record { active = n; listed = length list }) counts where
  counts : count_by (has_active a) list ≡ count_by (has_active b) list
  counts =
      let most = count_weaker (has_active a) (has_active b) list (λ p has is. sym (same p has) ∙ is) in
      let least = count_weaker (has_active b) (has_active a) list (λ p has is. same p has ∙ is) in
      omega (arith, most, least)

-- a list of which enough is active isn't short, and else by its share
enough_of : (seats : List Seat) (list : List Place) → short_in Half seats list ≡ None → suffices Half (share_in seats list) ≡ true
enough_of seats list none = by (suffices Half (share_in seats list)) none where
  by : (b : Bool) → cond b None (Some (share_in seats list)) ≡ None → b ≡ true
  by true none = refl
  by false none = absurd (cc (none))

none_of : (seats : List Seat) (list : List Place) → suffices Half (share_in seats list) ≡ true → short_in Half seats list ≡ None
none_of seats list so = ap (λ (b : Bool). cond b None (Some (share_in seats list))) so

short_is : (seats : List Seat) (list : List Place) (share : Share) → short_in Half seats list ≡ Some share → (share ≡ share_in seats list) × (suffices Half (share_in seats list) ≡ false)
short_is seats list share some = by (suffices Half (share_in seats list)) some where
  by : (b : Bool) → cond b None (Some (share_in seats list)) ≡ Some share → (share ≡ share_in seats list) × (b ≡ false)
  by true some = absurd (cc (some))
  by false some = (cc (some), refl)

-- half of the last list of a table is active, where of each list it is
last_enough : (seats : List Seat) (lists : Lists) → short_of Half seats lists ≡ None → short_in Half seats (last_of lists) ≡ None
last_enough seats (One list) none = none
last_enough seats (Two old new) none = (both_none Half seats (short_in Half seats old) (short_in Half seats new) none).1

-- where the first list isn't short the second is
second_short : (a b : Option Share) (share : Share) → a ≡ None → option_or a b ≡ Some share → b ≡ Some share
second_short None b share none some = some
second_short (Some x) b share none some = absurd (cc (none))

-- where half of a list is active that isn't empty, a seat is
pub some_half : (seats : List Seat) (list : List Place) → 1 ≤ length list → short_in Half seats list ≡ None → 0 < active_of seats
some_half seats list some none =
    let least = leb-true (length list) (2 * count_by (has_active seats) list) (enough_of seats list none) in
    let one = first_of (filter (has_active seats) list) (omega (arith, least, some, length-filter (has_active seats) list)) in
    let at = seat_at seats one.0 (in_filter (has_active seats) list one.0 one.1).1 in
    let there = replica_of seats at.0 at.1 at.2 at.3 in
    omega (arith, there.1)

-- what a list gives comes of one of its items, and each gives what it does
module _ {X Y : Type 0} (f : X → Option Y) where
  of_item : (xs : List X) (y : Y) → Contains (filter_map f xs) y → (x : X) × Contains xs x × (f x ≡ Some y)
  of_item [] y has = absurd (omega (arith, has.1))
  of_item (x ∷ xs) y has = by (f x) refl has (of_item xs y) where
    by : (o : Option Y) → f x ≡ o → Contains (cons_option o (filter_map f xs)) y → (Contains (filter_map f xs) y → (z : X) × Contains xs z × (f z ≡ Some y)) → (z : X) × Contains (x ∷ xs) z × (f z ≡ Some y)
    by None is has behind = (let rest = behind has in (rest.0, contains_behind x rest.0 xs rest.1, rest.2))
    by (Some z) is has behind = elim (first_or_behind z y (filter_map f xs) has) [
      | inl here ↦ (x, contains_first x xs, is ∙ ap (λ (v : Y). Some v) here)
      | inr there ↦ (let rest = behind there in (rest.0, contains_behind x rest.0 xs rest.1, rest.2))
    ]

  same_some : (v w : Y) → Some v ≡ Some w → v ≡ w
  same_some v w both = cc (both)

  given_by : (xs : List X) (x : X) (y : Y) → Contains xs x → f x ≡ Some y → Contains (filter_map f xs) y
  given_by [] x y has is = absurd (omega (arith, has.1))
  given_by (z ∷ xs) x y has is = by (f z) refl (first_or_behind z x xs has) (λ behind. given_by xs x y behind is) where
    by : (o : Option Y) → f z ≡ o → (z ≡ x) ⊎ Contains xs x → (Contains xs x → Contains (filter_map f xs) y) → Contains (cons_option o (filter_map f xs)) y
    by None none (inl here) rest = absurd (let both : None ≡ Some y = sym none ∙ ap f here ∙ is in cc (both))
    by (Some v) so (inl here) rest = (let both : Some v ≡ Some y = sym so ∙ ap f here ∙ is in subst (λ (w : Y). Contains (v ∷ filter_map f xs) w) (same_some v y both) (contains_first v (filter_map f xs)))
    by None none (inr behind) rest = rest behind
    by (Some v) so (inr behind) rest = contains_behind v y (filter_map f xs) (rest behind)

-- what is wiped was listed
front_has : (q : Place) (done : List Place) (p : Place) → Contains (in_front q done) p → (q ≡ p) ⊎ Contains done p
front_has q [] p has = first_or_behind q p [] has
front_has q (x ∷ done) p has = by (same_slice x.slice q.slice) has (front_has q done p) where
  by : (b : Bool) → Contains (cond b (q ∷ (x ∷ done)) (x ∷ in_front q done)) p → (Contains (in_front q done) p → (q ≡ p) ⊎ Contains done p) → (q ≡ p) ⊎ Contains (x ∷ done) p
  by true has rest = first_or_behind q p (x ∷ done) has
  by false has rest = elim (first_or_behind x p (in_front q done) has) [
    | inl here ↦ inr (subst (λ (y : Place). Contains (x ∷ done) y) here (contains_first x done))
    | inr behind ↦ elim (rest behind) [ inl one ↦ inl one | inr was ↦ inr (contains_behind x p done was) ]
  ]

order_has : (done places : List Place) (p : Place) → Contains (ordered_with done places) p → Contains done p ⊎ Contains places p
order_has done [] p has = inl has
order_has done (q ∷ places) p has = elim (order_has (in_front q done) places p has) [
  | inl front ↦ elim (front_has q done p front) [ inl here ↦ inr (subst (λ (y : Place). Contains (q ∷ places) y) here (contains_first q places)) | inr was ↦ inl was ]
  | inr behind ↦ inr (contains_behind q p places behind)
]

dropped_listed : (asked : Asks) (list : List Place) (p : Place) → Contains (dropped asked list) p → Contains list p
dropped_listed asked list p has = elim (order_has [] (beside (list_after asked list) list) p has) [
  | inl none ↦ absurd (omega (arith, none.1))
  | inr one ↦ (in_filter (λ (q : Place). not (list_any (same_place q) (list_after asked list))) list p one).0
]

pub dropped_under : (g : Geometry) (o : Opened) (asked : Asks) (a : PlaceAt) → Contains (places_dropped g o asked) a → Contains (places_under g (list_of o)) a
dropped_under g o asked a has =
    let f = λ (p : Place). found_at p (slice_at g.slices p.slice) in
    let one = of_item f (dropped asked (list_of o)) a has in
    given_by f (list_of o) one.0 a (dropped_listed asked (list_of o) one.0 one.1) one.2

module _ (g : Geometry) (o : Opened) (asked : Asks) where
  abbrev new_list : List Place
  new_list = list_after asked (last_of o.table.plan.lists)

  -- what is active of the list that comes, as the change begins
  abbrev pub coming : Share
  coming = share_in (both_of o asked).seats new_list

  abbrev first_took : Replica → Replica
  first_took = slotted (next_mark o.mark) (text_size (both_of o asked).table)

  abbrev both_took : Replica → Replica
  both_took r = slotted (next_mark (next_mark o.mark)) (text_size (settled (both_of o asked).table)) (first_took r)

  -- what is open behind the change
  abbrev pub moved_open : Opened
  moved_open = record o { mark = next_mark (next_mark o.mark); table = settled (both_of o asked).table; seats = seats_with both_took (seats_in new_list (both_of o asked).seats) }

  -- why a change ends the run
  abbrev pub IsOver : Ended → Type 0
  IsOver end = ((end ≡ ended.Spent) × (2 ^ 63 ≤ o.mark.count + 2)) ⊎ ((end ≡ ended.Lost coming.active coming.listed) × (suffices Half coming ≡ false) × (o.mark.count + 2 < 2 ^ 63))

  pub one_over : (a b : Ended) → IsOver a → IsOver b → a ≡ b
  one_over a b (inl one) (inl two) = one.0 ∙ sym two.0
  one_over a b (inr one) (inr two) = one.0 ∙ sym two.0
  one_over a b (inl one) (inr two) = absurd (let high = one.1 in let small = two.2 in omega (arith, high, small))
  one_over a b (inr one) (inl two) = absurd (let high = two.1 in let small = one.2 in omega (arith, high, small))

  both_active : (p : Place) → Contains new_list p → has_active (seats_with both_took (seats_in new_list (both_of o asked).seats)) p ≡ has_active (both_of o asked).seats p
  both_active p has = active_with both_took (seats_in new_list (both_of o asked).seats) p ∙ active_in new_list (both_of o asked).seats p has

  last_share : share_in (seats_with both_took (seats_in new_list (both_of o asked).seats)) new_list ≡ coming
  last_share = share_same (seats_with both_took (seats_in new_list (both_of o asked).seats)) (both_of o asked).seats new_list both_active

  first_share : share_in (seats_with first_took (both_of o asked).seats) new_list ≡ coming
  first_share = share_same (seats_with first_took (both_of o asked).seats) (both_of o asked).seats new_list (λ p has. active_with first_took (both_of o asked).seats p)

  module _ (calls : Outcomes) (calm : NoneFailed calls) where
    both_is : (r n : Replica) → TakesBoth calls g o asked r n → n ≡ both_took r
    both_is r n (m, first, second) =
        slotted_is (next_mark (next_mark o.mark)) (text_size (settled (both_of o asked).table)) m n second
        ∙ ap (slotted (next_mark (next_mark o.mark)) (text_size (settled (both_of o asked).table))) (slotted_is (next_mark o.mark) (text_size (both_of o asked).table) r m first)

    pub moved_is : (new : Opened) (clean : Bool) → IsMoved calls g o asked new clean → new ≡ moved_open
    moved_is new clean is =
        is.is ∙ ap (λ (l : List Seat). record o { mark = next_mark (next_mark o.mark); table = settled (both_of o asked).table; seats = l })
        (left_is (till_wiped calls g o asked) calm (TakesBoth calls g o asked) both_took both_is (seats_coming calls g o asked) new.seats is.left)

    -- a wipe that failed is a call that did
    pub moved_clean : (new : Opened) (clean : Bool) → IsMoved calls g o asked new clean → clean ≡ true
    moved_clean new true is = refl
    moved_clean new false is = absurd (calm is.told.0.0 is.told.2)

    moved_share : (new : Opened) (clean : Bool) (is : IsMoved calls g o asked new clean) → suffices Half coming ≡ true
    moved_share new clean is = ap (suffices Half) (sym last_share) ∙ enough_of moved_open.seats new_list (subst (λ (x : Opened). shortage x ≡ None) (moved_is new clean is) is.enough)

    -- one that was done doesn't end the run
    pub never_over : (new : Opened) (clean : Bool) → IsMoved calls g o asked new clean → (end : Ended) → IsOver end → ⊥
    never_over new clean is end (inl spent) = absurd (let high = spent.1 in let small = is.may.small in omega (arith, high, small))
    never_over new clean is end (inr lost) = absurd (false≢true (sym lost.1 ∙ moved_share new clean is))

    over_with : (share : Share) (active listed : ℕ) → share ≡ record { active = active; listed = listed } → coming ≡ share → suffices Half coming ≡ false → o.mark.count + 2 < 2 ^ 63 → IsOver (ended.Lost active listed)
    over_with share active listed is same few small = inr (ap (λ (s : Share). ended.Lost s.active s.listed) (sym (same ∙ is)), few, small)

    -- lost in the table with both lists: of the old one half was active before
    old_enough : MayList o (lists_moved calls g o asked) → short_in Half (seats_with first_took (both_of o asked).seats) (last_of o.table.plan.lists) ≡ None
    old_enough may =
        let list = last_of o.table.plan.lists in
        let had = enough_of o.seats list (last_enough o.seats o.table.plan.lists may.half) in
        let more = count_weaker (has_active o.seats) (has_active (seats_with first_took (both_of o asked).seats)) list (λ p has is. active_with first_took (both_of o asked).seats p ∙ active_more o.seats (seats_added o asked) p is) in
        none_of (seats_with first_took (both_of o asked).seats) list (le-leb (length list) (2 * count_by (has_active (seats_with first_took (both_of o asked).seats)) list) (omega (arith, leb-true (length list) (2 * count_by (has_active o.seats) list) had, more)))

    lost_both : (new : Opened) (active listed : ℕ) → IsLostBoth calls g o asked new (record { active = active; listed = listed }) → IsOver (ended.Lost active listed)
    lost_both new active listed is =
        let seats : new.seats ≡ seats_with first_took (both_of o asked).seats = left_is calls calm (TakesSlot (next_mark o.mark) (text_size (both_of o asked).table)) first_took (slotted_is (next_mark o.mark) (text_size (both_of o asked).table)) (both_of o asked).seats new.seats is.left in
        let few : short_of Half new.seats (both_of o asked).table.plan.lists ≡ Some (record { active = active; listed = listed }) = ap (λ (x : Opened). short_of Half new.seats x.table.plan.lists) (sym is.is) ∙ is.few in
        let here : short_of Half (seats_with first_took (both_of o asked).seats) (both_of o asked).table.plan.lists ≡ Some (record { active = active; listed = listed }) = ap (λ (l : List Seat). short_of Half l (both_of o asked).table.plan.lists) (sym seats) ∙ few in
        let short = short_is (seats_with first_took (both_of o asked).seats) new_list (record { active = active; listed = listed })
        (second_short (short_in Half (seats_with first_took (both_of o asked).seats) (last_of o.table.plan.lists)) (short_in Half (seats_with first_took (both_of o asked).seats) new_list) (record { active = active; listed = listed }) (old_enough is.may) here) in
        over_with (share_in (seats_with first_took (both_of o asked).seats) new_list) active listed (sym short.0) (sym first_share) (ap (suffices Half) (sym first_share) ∙ short.1) is.may.small

    lost_last : (new : Opened) (active listed : ℕ) → IsLostLast calls g o asked new (record { active = active; listed = listed }) → IsOver (ended.Lost active listed)
    lost_last new active listed is =
        let seats : new.seats ≡ moved_open.seats = left_is calls calm (TakesBoth calls g o asked) both_took both_is (seats_coming calls g o asked) new.seats is.left in
        let few : short_of Half new.seats (settled (both_of o asked).table).plan.lists ≡ Some (record { active = active; listed = listed }) = ap (λ (x : Opened). short_of Half new.seats x.table.plan.lists) (sym is.is) ∙ is.few in
        let here : short_in Half moved_open.seats new_list ≡ Some (record { active = active; listed = listed }) = ap (λ (l : List Seat). short_in Half l new_list) (sym seats) ∙ few in
        let short = short_is moved_open.seats new_list (record { active = active; listed = listed }) here in
        over_with (share_in moved_open.seats new_list) active listed (sym short.0) (sym last_share) (ap (suffices Half) (sym last_share) ∙ short.1) is.may.small

    pub lost_over : (active listed : ℕ) → IsLostChange calls g o asked active listed → IsOver (ended.Lost active listed)
    lost_over active listed is = elim is.lost [ inl both ↦ lost_both is.new active listed both | inr last ↦ lost_last is.new active listed last ]
