-- What a boot comes to of which no call failed, where memory wasn't wanting: what it read settles it.
use Rattle.std.proofs.Common.{◌≡◌, inl, inr, ℕ, ◌+◌, ◌*◌, ◌/◌, ◌≤◌, ◌<◌, ◌^◌, ◌&&◌, not, nat_le, nat_lt, Bool, true, false, cond, List, Option, None, Some, MatchOption, Contains, length, slice_get, refl, sym, ◌∙◌, ap, subst, arith}
use Rattle.std.specs.List.{find}
use Rattle.std.proofs.lemmas.Bool.{and_from, and_parts, false≢true, ltb-true}
use Rattle.std.proofs.lemmas.Bool.Decides.{nat_tests}
use Rattle.std.proofs.lemmas.List.Folds.{list_any_at}
use Rattle.mdv_base.specs.declared.mark.Identity.{Identity}
use Rattle.mdv_base.specs.declared.name.Key.{Key}
use Rattle.mdv_base.specs.declared.place.Place.{Place}
use Rattle.mdv_encoding.specs.Text.{record_bytes}
use Rattle.mdv_replica.specs.Replica.{slot_blocks}
use Rattle.mdv_shelf.specs.Failing.{Outcomes}
use Rattle.mdv_shown.specs.declared.site.Site.{Site}
use Rattle.mdv_config.specs.Lists.{last_of, places_of, settled}
use Rattle.mdv_plan.specs.declared.lists.Lists.{Lists}
use Rattle.mdv_plan.specs.declared.lists.Lists.TheVariants.{One, Two}
use Rattle.mdv_plan.specs.declared.table.Table.{Table}
use Rattle.mdv_survey.specs.Choice.{IsChoiceAmong, IsEnough, IsNotEnough, IsTheOne, failing, is_found_at, is_of, is_read, is_there, needed_of, place_of, readable_of, same_identity, same_place, shows_other, shows_table}
use Rattle.mdv_survey.specs.declared.choosing.Choice.TheVariants as chosen
use Rattle.mdv_survey.specs.declared.replica.Newest.{Newest}
use Rattle.mdv_survey.specs.declared.replica.Replica.{Replica}
use Rattle.mdv_survey.specs.declared.replica.Survey.{Survey}
use Rattle.mdv_survey.proofs.Identities.{find_some}
use Rattle.mdv_store.specs.Boot.{IsAdopted, IsEndBy, IsInHand, IsShort, TakesAll, greatest_number, is_memory, is_seated, last_found, seats_of}
use Rattle.mdv_store.specs.Opened.{Opened}
use Rattle.mdv_store.specs.Text.{blocks_for}
use Rattle.mdv_store.specs.declared.booting.BootEnd.{BootEnd}
use Rattle.mdv_store.specs.declared.booting.BootEnd.TheVariants as end
use Rattle.mdv_store.specs.declared.seats.Seat.{Seat}
use Rattle.mdv_store.proofs.Adoptions.{same_identity_self}
use Rattle.mdv_store.proofs.Told.{lost_read}
use Rattle.mdv_store.specs.Seats.{drive_of}
use Rattle.mdv_store.specs.Settled.{settles}
use Rattle.mdv_run_law.proofs.Passing.{NoneFailed, all_is, left_is, rewritten_by, seats_with}
use Rattle.mdv_store.specs.Shares.{has_active, short_in, short_of}
use Rattle.mdv_store.specs.declared.seats.Need.TheVariants.{More}
use Rattle.mdv_store.specs.declared.seats.Share.{Share}
use Rattle.mdv_store.proofs.Shares.{both_none, list_suffices, seat_at}
use Rattle.mdv_store.proofs.Seating.{seat_of_replica}
use Rattle.mdv_databases.proofs.Finding.{count_weaker}
use Rattle.std.specs.Prelude.{count_by}

abbrev text_blocks : Table → ℕ
text_blocks table = blocks_for (record_bytes table)

-- step by step, from the replicas that were read and the newest table that they show
abbrev by_lists : List Replica → Replica → Share → Option (List Place) → BootEnd
by_lists rs r share None = end.NoQuorum share.active (share.listed / 2 + 1)
by_lists rs r share (Some list) = end.NoQuorum (readable_of rs r.head.master.identity list) (needed_of list)

abbrev last_seats : List Replica → Newest → Replica → List Seat
last_seats rs newest r = seats_of rs r.head.master.identity (text_blocks newest.table) (last_of newest.table.plan.lists)

abbrev by_number : Key → List Replica → Newest → Replica → ℕ → Bool → BootEnd
by_number key rs newest r number false = end.Spent
by_number key rs newest r number true =
    end.Adopted (record { key = key; identity = r.head.master.identity; mark = record { boot = number; count = settles newest.table.plan.lists }; table = settled newest.table; seats = seats_with (rewritten_by newest.table.plan.lists number newest.table) (last_seats rs newest r) })

abbrev by_seats : Key → List Replica → Newest → Replica → List Seat → Option Share → BootEnd
by_seats key rs newest r seats (Some share) = by_lists rs r share (failing rs r.head.master.identity newest.table.plan.lists)
by_seats key rs newest r seats None = (let number = greatest_number r.head.master.identity rs + 1 in by_number key rs newest r number (nat_lt number (2 ^ 63)))

abbrev seated : Key → List Replica → Newest → Replica → List Seat → BootEnd
seated key rs newest r seats = by_seats key rs newest r seats (short_of More seats newest.table.plan.lists)

abbrev by_replica : Key → List Replica → Newest → Option Replica → BootEnd
by_replica key rs newest None = end.Empty
by_replica key rs newest (Some r) = seated key rs newest r (seats_of rs r.head.master.identity (text_blocks newest.table) (places_of newest.table.plan.lists))

abbrev by_other : Key → List Replica → Newest → Replica → Option Replica → BootEnd
by_other key rs newest one None = by_replica key rs newest (slice_get rs newest.replica)
by_other key rs newest one (Some other) = end.TwoDatabases one.head.master.identity other.head.master.identity

abbrev by_first : Key → List Replica → Newest → Option Replica → BootEnd
by_first key rs newest None = by_replica key rs newest (slice_get rs newest.replica)
by_first key rs newest (Some one) = by_other key rs newest one (find (shows_other one.head.master.identity) rs)

abbrev end_of : Key → List Replica → Option Newest → BootEnd
end_of key rs None = end.Empty
end_of key rs (Some newest) = by_first key rs newest (find shows_table rs)

-- where all that show tables are of one database the newest one's replica is taken
module _ (key : Key) (rs : List Replica) (newest : Newest) (r : Replica) (the : IsTheOne rs newest r) where
  one_taken : by_first key rs newest (find shows_table rs) ≡ by_replica key rs newest (Some r)
  one_taken = by (find shows_table rs) refl where
    never : (one other : Replica) → find shows_table rs ≡ Some one → find (shows_other one.head.master.identity) rs ≡ Some other → ⊥
    never one other first second =
        let here = find_some shows_table rs one first in
        let there = find_some (shows_other one.head.master.identity) rs other second in
        let parts = and_parts (shows_table other) (not (is_of one.head.master.identity other)) there.1 in
        let same : other.head.master.identity ≡ one.head.master.identity = the.one other there.0 parts.0 ∙ sym (the.one one here.0 here.1) in
        let its : is_of one.head.master.identity other ≡ true = subst (λ (i : Identity). same_identity i one.head.master.identity ≡ true) (sym same) (same_identity_self one.head.master.identity) in
        false≢true (sym (ap not its) ∙ parts.1)

    behind : (one : Replica) → find shows_table rs ≡ Some one → (o : Option Replica) → find (shows_other one.head.master.identity) rs ≡ o → by_other key rs newest one o ≡ by_replica key rs newest (Some r)
    behind one first None second = ap (by_replica key rs newest) the.one_of
    behind one first (Some other) second = absurd (never one other first second)

    by : (o : Option Replica) → find shows_table rs ≡ o → by_first key rs newest o ≡ by_replica key rs newest (Some r)
    by None first = ap (by_replica key rs newest) the.one_of
    by (Some one) first = behind one first (find (shows_other one.head.master.identity) rs) refl

-- where a seat is active the place was found
module _ (rs : List Replica) (identity : Identity) (text : ℕ) where
  is_found : (p : Place) (r : Replica) → Contains rs r → is_seated identity p text r ≡ true → is_found_at rs identity p ≡ true
  is_found p r has is =
      let parts = and_parts (is_of identity r) (same_place (place_of r) p && nat_le text (slot_blocks r.first.blocks)) is in
      let place = and_parts (same_place (place_of r) p) (nat_le text (slot_blocks r.first.blocks)) parts.1 in
      list_any_at (is_there identity p) rs has.0 r has.1 (ap (is_there identity p) has.2 ∙ and_from (is_of identity r) (same_place (place_of r) p) parts.0 place.0)

  active_found : (places : List Place) (p : Place) → has_active (seats_of rs identity text places) p ≡ true → is_found_at rs identity p ≡ true
  active_found places p so =
      let at = seat_at (seats_of rs identity text places) p so in
      let is = seat_of_replica rs identity text places at.0 at.1 at.2 at.3 in
      is_found p at.1 is.found (subst (λ (q : Place). is_seated identity q text at.1 ≡ true) at.4 is.seated)

lt_yes : (a b : ℕ) → a < b → nat_lt a b ≡ true
lt_yes a b less = grind (arith, nat_tests)

lt_no : (a b : ℕ) → b ≤ a → nat_lt a b ≡ false
lt_no a b most = grind (arith, nat_tests)

-- where of each list enough is active none fails
module _ (rs : List Replica) (identity : Identity) (seats : List Seat) (found : (p : Place) → has_active seats p ≡ true → is_found_at rs identity p ≡ true) where
  list_read : (list : List Place) → short_in More seats list ≡ None → is_read rs identity list ≡ true
  list_read list none =
      let enough = list_suffices More seats list none in
      let most = ltb-true (length list) (2 * count_by (has_active seats) list) enough in
      let within = count_weaker (has_active seats) (is_found_at rs identity) list (λ p has is. found p is) in
      lt_yes (length list) (2 * readable_of rs identity list) (omega (arith, most, within))

  none_fails : (lists : Lists) → short_of More seats lists ≡ None → failing rs identity lists ≡ None
  none_fails (One list) none = ap (λ (b : Bool). cond b None (Some list)) (list_read list none)
  none_fails (Two old new) none =
      let both = both_none More seats (short_in More seats old) (short_in More seats new) none in
      ap (λ (b : Bool). cond b (cond (is_read rs identity new) None (Some new)) (Some old)) (list_read old both.0) ∙ ap (λ (b : Bool). cond b None (Some new)) (list_read new both.1)

-- where a list fails too few seats are active of one
failing_few : (rs : List Replica) (identity : Identity) (text : ℕ) (lists : Lists) (list : List Place) → failing rs identity lists ≡ Some list
    → (share : Share) × (short_of More (seats_of rs identity text (places_of lists)) lists ≡ Some share)
failing_few rs identity text lists list fails = by (short_of More (seats_of rs identity text (places_of lists)) lists) refl where
  by : (o : Option Share) → short_of More (seats_of rs identity text (places_of lists)) lists ≡ o → (share : Share) × (short_of More (seats_of rs identity text (places_of lists)) lists ≡ Some share)
  by None none = absurd (let none_so = none_fails rs identity (seats_of rs identity text (places_of lists)) (active_found rs identity text (places_of lists)) lists none in cc (none_so, fails))
  by (Some share) some = (share, some)

module _ (failed : Outcomes) (calm : NoneFailed failed) (site : Site) (survey : Survey) where
  abbrev rs : List Replica
  rs = survey.replicas

  -- what is in hand is taken
  module _ (newest : Newest) (replica : Replica) (seats : List Seat) (hand : IsInHand survey newest replica seats) where
    in_hand : end_of site.key rs survey.newest ≡ seated site.key rs newest replica seats
    in_hand =
        ap (end_of site.key rs) hand.newest_is ∙ one_taken site.key rs newest replica hand.the ∙ ap (seated site.key rs newest replica) (sym hand.seats_are)

    abbrev number : ℕ
    number = greatest_number replica.head.master.identity rs + 1

    enough_seats : short_of More seats newest.table.plan.lists ≡ None → seated site.key rs newest replica seats ≡ by_number site.key rs newest replica number (nat_lt number (2 ^ 63))
    enough_seats none = ap (by_seats site.key rs newest replica seats) none

    few_seats : (share : Share) → short_of More seats newest.table.plan.lists ≡ Some share → seated site.key rs newest replica seats ≡ by_lists rs replica share (failing rs replica.head.master.identity newest.table.plan.lists)
    few_seats share few = ap (by_seats site.key rs newest replica seats) few

  adopted_is : (Wrote : _) (o : Opened) → IsAdopted failed Wrote site survey o → end.Adopted o ≡ end_of site.key rs survey.newest
  adopted_is Wrote o is =
      let left = left_is failed calm (TakesAll is.number is.newest.table) (rewritten_by is.newest.table.plan.lists is.number is.newest.table) (all_is is.number is.newest.table) (last_found survey is.newest is.replica) o.seats is.left in
      let small : nat_lt (number is.newest is.replica is.seats is.drawn.hand) (2 ^ 63) ≡ true = lt_yes _ (2 ^ 63) (subst (λ (n : ℕ). n < 2 ^ 63) is.drawn.number_is is.drawn.small) in
      let made : end.Adopted o ≡ by_number site.key rs is.newest is.replica is.number true =
      ap (λ (x : Opened). end.Adopted x) is.is
      ∙ ap (λ (l : List Seat). end.Adopted (record { key = site.key; identity = is.replica.head.master.identity; mark = record { boot = is.number; count = settles is.newest.table.plan.lists }; table = settled is.newest.table; seats = l })) left in
      made ∙ ap (λ (n : ℕ). by_number site.key rs is.newest is.replica n true) is.drawn.number_is
      ∙ ap (by_number site.key rs is.newest is.replica (number is.newest is.replica is.seats is.drawn.hand)) (sym small)
      ∙ sym (enough_seats is.newest is.replica is.seats is.drawn.hand is.drawn.enough) ∙ sym (in_hand is.newest is.replica is.seats is.drawn.hand)

  short_is : (readable needed : ℕ) → IsShort survey readable needed → end.NoQuorum readable needed ≡ end_of site.key rs survey.newest
  short_is readable needed (inl choice) = by survey.newest refl choice where
    of_newest : (newest : Newest) → survey.newest ≡ Some newest → IsNotEnough rs newest readable needed → end.NoQuorum readable needed ≡ end_of site.key rs survey.newest
    of_newest newest newest_is is =
        let seats = seats_of rs is.replica.head.master.identity (text_blocks newest.table) (places_of newest.table.plan.lists) in
        let hand : IsInHand survey newest is.replica seats = record { newest_is = newest_is; the = is.the; seats_are = refl } in
        let few = failing_few rs is.replica.head.master.identity (text_blocks newest.table) newest.table.plan.lists is.list is.fails in
        (λ i. end.NoQuorum (is.readable_is i) (is.needed_is i))
        ∙ ap (by_lists rs is.replica few.0) (sym is.fails)
        ∙ sym (few_seats newest is.replica seats hand few.0 few.1)
        ∙ sym (in_hand newest is.replica seats hand)

    by : (o : Option Newest) → survey.newest ≡ o → MatchOption o (chosen.NoQuorum readable needed ≡ chosen.Empty) (λ (n : Newest). IsChoiceAmong rs n (chosen.NoQuorum readable needed)) → end.NoQuorum readable needed ≡ end_of site.key rs survey.newest
    by None is never = absurd (cc (never))
    by (Some n) is among = of_newest n is among
  short_is readable needed (inr (was, newest, replica, seats, hand, share, few, readable_is, needed_is)) =
      (λ i. end.NoQuorum (readable_is i) (needed_is i)) ∙ ap (by_lists rs replica share) (sym none) ∙ sym (few_seats newest replica seats hand share few) ∙ sym (in_hand newest replica seats hand) where
        some_same : {A : Type 0} (a b : A) → Some a ≡ Some b → a ≡ b
        some_same a b is = cc (is)

        by : (o : Option Newest) → o ≡ Some newest → MatchOption o (chosen.Newest was.0 ≡ chosen.Empty) (λ (n : Newest). IsChoiceAmong rs n (chosen.Newest was.0)) → IsEnough rs newest was.0
        by None is never = absurd (cc (is))
        by (Some n) is among = subst (λ (m : Newest). IsEnough rs m was.0) (some_same n newest is) among

        enough : IsEnough rs newest was.0
        enough = by survey.newest hand.newest_is was.1

        none : failing rs replica.head.master.identity newest.table.plan.lists ≡ None
        none = ap (λ (r : Replica). failing rs r.head.master.identity newest.table.plan.lists) (some_same replica enough.replica (sym hand.the.one_of ∙ enough.the.one_of)) ∙ enough.enough

  -- The end of a boot by what it read.
  pub end_is : (Wrote : _) (e : BootEnd) → is_memory e ≡ false → IsEndBy failed Wrote site survey e → e ≡ end_of site.key rs survey.newest
  end_is Wrote (end.Adopted o) so is = adopted_is Wrote o is
  end_is Wrote end.Empty so is = by survey.newest is where
    by : (o : Option Newest) → MatchOption o (chosen.Empty ≡ chosen.Empty) (λ (n : Newest). IsChoiceAmong rs n chosen.Empty) → end.Empty ≡ end_of site.key rs o
    by None is = refl
    by (Some n) never = absurd never
  end_is Wrote (end.TwoDatabases a b) so is = by survey.newest is where
    by : (o : Option Newest) → MatchOption o (chosen.TwoDatabases a b ≡ chosen.Empty) (λ (n : Newest). IsChoiceAmong rs n (chosen.TwoDatabases a b)) → end.TwoDatabases a b ≡ end_of site.key rs o
    by None never = absurd (cc (never))
    by (Some n) two =
        (λ i. end.TwoDatabases (two.a_is i) (two.b_is i)) ∙ ap (by_other site.key rs n two.one) (sym two.second) ∙ ap (by_first site.key rs n) (sym two.first)
  end_is Wrote (end.NoQuorum readable needed) so is = short_is readable needed is
  end_is Wrote (end.Lost active listed) so is = (let one = lost_read failed Wrote site.key survey active listed is in absurd (calm (drive_of one.0) one.2))
  end_is Wrote end.Spent so is =
      ap (by_number site.key rs is.newest is.replica (number is.newest is.replica is.seats is.hand)) (sym (lt_no (number is.newest is.replica is.seats is.hand) (2 ^ 63) is.spent))
      ∙ sym (enough_seats is.newest is.replica is.seats is.hand is.enough) ∙ sym (in_hand is.newest is.replica is.seats is.hand)
  end_is Wrote end.Memory so is = absurd (cc (so))

-- Two boots that read the same come to the same.
pub one_end : (failed also : Outcomes) → NoneFailed failed → NoneFailed also → (Wrote Other : _) (site : Site) (s t : Survey) → s.replicas ≡ t.replicas → s.newest ≡ t.newest
    → (a b : BootEnd) → is_memory a ≡ false → is_memory b ≡ false → IsEndBy failed Wrote site s a → IsEndBy also Other site t b → a ≡ b
one_end failed also calm calm_too Wrote Other site s t replicas newest a b so so_too one other =
    end_is failed calm site s Wrote a so one ∙ (λ i. end_of site.key (replicas i) (newest i)) ∙ sym (end_is also calm_too site t Other b so_too other)
