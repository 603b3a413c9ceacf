-- What an adoption's answer says, and a lost one's, for the crates above.
use Rattle.std.proofs.Common.{◌≡◌, ℕ, List, Contains, None, Some, length, refl, sym, ◌∙◌, ap, subst}
use Rattle.std.specs.Prelude.{not}
use Rattle.std.specs.List.{list_any}
use Rattle.std.proofs.lemmas.List.{length-map}
use Rattle.mdv_survey.specs.declared.replica.Newest.{Newest}
use Rattle.mdv_config.specs.Lists.{beside, same_place}
use Rattle.mdv_survey.specs.declared.replica.Survey.{Survey}
use Rattle.mdv_store.specs.Below.{Failures, Key, Lists, One, Place, Replica, Site, Table, Two, last_of, places_of, record_bytes}
use Rattle.mdv_store.specs.Boot.{IsAdopted, IsEndBy, IsInHand, IsLost, IsShortAt, IsShortBy, IsWrittenTo, TakesAll, gone_found, last_found, need_of, seats_of}
use Rattle.mdv_store.specs.Opened.{Opened}
use Rattle.mdv_store.specs.Progress.{Claimed, Progress, Rewritten, Settled, all_written}
use Rattle.mdv_store.specs.Seats.{drive_of, replicas_of}
use Rattle.mdv_store.specs.Settled.{gone_of, seats_now}
use Rattle.mdv_store.specs.Shares.{short_of}
use Rattle.mdv_store.specs.Taking.{last_in}
use Rattle.mdv_store.specs.Text.{blocks_for}
use Rattle.mdv_store.specs.declared.booting.BootEnd.{BootEnd}
use Rattle.mdv_store.specs.declared.booting.BootEnd.TheVariants as end
use Rattle.mdv_store.specs.declared.booting.Hand.{Hand}
use Rattle.mdv_store.specs.declared.seats.Need.TheVariants.{More}
use Rattle.mdv_store.specs.declared.seats.Seat.{Seat}
use Rattle.mdv_store.specs.declared.seats.Share.{Share}
use Rattle.mdv_store.proofs.Again.{found_now, now_enough}
use Rattle.mdv_store.proofs.Passes.{left_calm, some_lost}
use Rattle.mdv_store.proofs.Rows.{part_filter, part_has}
use Rattle.mdv_store.proofs.Seating.{seated_at, seats_places}
use Rattle.mdv_store.proofs.Shares.{in_first, in_last, more_suffices, short_fewer}
use Rattle.mdv_store.proofs.Sitting.{left_count}

-- the places of the new list, or of the only one, as they are in hand, are those that were found
module _ (survey : Survey) (newest : Newest) (replica : Replica) (seats : List Seat) (hand : IsInHand survey newest replica seats) where
  abbrev found : List Place → List Seat
  found = seats_of survey.replicas replica.head.master.identity (blocks_for (record_bytes newest.table))

  pub last_is : last_in seats newest.table.plan.lists ≡ last_found survey newest replica
  last_is = by newest.table.plan.lists hand.seats_are where
    by : (l : Lists) → seats ≡ found (places_of l) → last_in seats l ≡ found (last_of l)
    by (One list) are = are
    by (Two old new) are = ap (λ (ss : List Seat). seats_now ss new) are ∙ found_now survey.replicas replica.head.master.identity (blocks_for (record_bytes newest.table)) (places_of (Two old new)) new (λ p has. in_last (Two old new) p has)

  -- and those that the new list lacks
  pub gone_is : seats_now seats (gone_of newest.table.plan.lists) ≡ gone_found survey newest replica
  gone_is = by newest.table.plan.lists hand.seats_are where
    by : (l : Lists) → seats ≡ found (places_of l) → seats_now seats (gone_of l) ≡ found (gone_of l)
    by (One list) are = refl
    by (Two old new) are = ap (λ (ss : List Seat). seats_now ss (beside new old)) are
        ∙ found_now survey.replicas replica.head.master.identity (blocks_for (record_bytes newest.table)) (places_of (Two old new)) (beside new old)
        (λ p has. in_first (Two old new) p (part_has (beside new old) old p (part_filter (λ (q : Place). not (list_any (same_place q) new)) old) has))

  -- more than half of that list was found
  pub last_enough : short_of More seats newest.table.plan.lists ≡ None → short_of More (last_found survey newest replica) (One (last_of newest.table.plan.lists)) ≡ None
  last_enough enough = subst (λ (ss : List Seat). short_of More ss (One (last_of newest.table.plan.lists)) ≡ None) last_is (by newest.table.plan.lists enough) where
    by : (l : Lists) → short_of More seats l ≡ None → short_of More (last_in seats l) (One (last_of l)) ≡ None
    by (One list) none = none
    by (Two old new) none = now_enough seats More (Two old new) none

  -- they were read
  pub found_read : (places : List Place) (r : Replica) → Contains (replicas_of (found places)) r → Contains survey.replicas r
  found_read places r has = (seated_at survey.replicas replica.head.master.identity (blocks_for (record_bytes newest.table)) places r has).1

  pub hand_read : (r : Replica) → Contains (replicas_of seats) r → Contains survey.replicas r
  hand_read r has = found_read (places_of newest.table.plan.lists) r (subst (λ (ss : List Seat). Contains (replicas_of ss) r) hand.seats_are has)

module _ (failed : ℕ → Failures) (Wrote : Hand → Table → Progress → Type 0) where
  -- each active place's replica was read, and took all that was written
  pub adopted_each : (site : Site) (survey : Survey) (o : Opened) (a : IsAdopted failed Wrote site survey o) (n : Replica) → Contains (replicas_of o.seats) n
      → (r : Replica) × Contains (replicas_of (last_found survey a.newest a.replica)) r × (failed (drive_of r)).none × TakesAll a.number a.newest.table r n
  adopted_each site survey o a n has = left_calm failed (TakesAll a.number a.newest.table) (last_found survey a.newest a.replica) o.seats a.left n has

  -- a seat for each listed place
  pub adopted_count : (site : Site) (survey : Survey) (o : Opened) → IsAdopted failed Wrote site survey o → length o.seats ≡ length (places_of o.table.plan.lists)
  adopted_count site survey o a =
      let places = last_of a.newest.table.plan.lists in
      left_count failed (TakesAll a.number a.newest.table) (last_found survey a.newest a.replica) o.seats a.left
      ∙ sym (length-map (last_found survey a.newest a.replica) (λ (s : Seat). s.place))
      ∙ ap length (seats_places survey.replicas a.replica.head.master.identity (blocks_for (record_bytes a.newest.table)) places)
      ∙ ap (λ (x : Opened). length (places_of x.table.plan.lists)) (sym a.is)

  pub adopted_enough : (site : Site) (survey : Survey) (o : Opened) → IsAdopted failed Wrote site survey o → short_of (need_of site.key) o.seats o.table.plan.lists ≡ None
  adopted_enough site survey o a = ap (λ (x : Opened). short_of (need_of site.key) o.seats x.table.plan.lists) a.is ∙ a.enough

  -- where it is lost a call failed on the drive of a replica that was read, and of some list these aren't enough
  module _ (key : Key) (survey : Survey) (active listed : ℕ) (lost : IsLost failed Wrote key survey active listed) where
    abbrev share : Share
    share = record { active = active; listed = listed }

    abbrev lists : Lists
    lists = lost.newest.table.plan.lists

    abbrev last : List Seat
    last = last_found survey lost.newest lost.replica

    abbrev Short : Progress → Type 0
    Short progress = IsShortAt failed key lost.number lost.newest.table lost.seats last (gone_found survey lost.newest lost.replica) progress share

    by_short : (Took : Replica → Replica → Type 0) (from : Lists) (seats now : List Seat) → short_of More seats from ≡ None → IsShortBy failed Took key from seats now share → (r : Replica) × Contains (replicas_of seats) r × (failed (drive_of r)).some
    by_short Took from seats now enough short = some_lost failed Took seats now short.left (short_fewer failed Took More (need_of key) (more_suffices (need_of key)) from seats now share short.left enough short.few)

    pub lost_read : (r : Replica) × Contains survey.replicas r × (failed (drive_of r)).some
    lost_read = by lost.progress lost.short where
      in_hand : (Took : Replica → Replica → Type 0) (now : List Seat) → IsShortBy failed Took key lists lost.seats now share → (r : Replica) × Contains survey.replicas r × (failed (drive_of r)).some
      in_hand Took now short = (let one = by_short Took lists lost.seats now lost.drawn.enough short in (one.0, hand_read survey lost.newest lost.replica lost.seats lost.drawn.hand one.0 one.1, one.2))

      by : (progress : Progress) → Short progress → (r : Replica) × Contains survey.replicas r × (failed (drive_of r)).some
      by (Claimed now) short = in_hand _ now short
      by (Rewritten now) short = in_hand _ now short
      by (Settled now gone) (settles, short, over) =
          let one = by_short (TakesAll lost.number lost.newest.table) (One (last_of lists)) last now (last_enough survey lost.newest lost.replica lost.seats lost.drawn.hand lost.drawn.enough) short in
          (one.0, found_read survey lost.newest lost.replica lost.seats lost.drawn.hand (last_of lists) one.0 one.1, one.2)

    pub lost_short : (from : Lists) × (now : List Seat) × (short_of (need_of key) now from ≡ Some share)
    lost_short = by lost.progress lost.short where
      by : (progress : Progress) → Short progress → (from : Lists) × (now : List Seat) × (short_of (need_of key) now from ≡ Some share)
      by (Claimed now) short = (lists, now, short.few)
      by (Rewritten now) short = (lists, now, short.few)
      by (Settled now gone) (settles, short, over) = (One (last_of lists), now, short.few)

-- An end, told of what was written by what that leads to.
module _ (failed : ℕ → Failures) (One Other : Hand → Table → Progress → Type 0) (so : (hand : Hand) (table : Table) (progress : Progress) → One hand table progress → Other hand table progress) where
  written_more : (newest : Newest) (replica : Replica) (seats : List Seat) (number : ℕ) (progress : Progress) → IsWrittenTo One newest replica seats number progress → IsWrittenTo Other newest replica seats number progress
  written_more newest replica seats number progress is = record { hand = is.hand; identity_is = is.identity_is; number_is = is.number_is; seats_are = is.seats_are; wrote = so is.hand newest.table progress is.wrote }

  pub wrote_more : (site : Site) (survey : Survey) (e : BootEnd) → IsEndBy failed One site survey e → IsEndBy failed Other site survey e
  wrote_more site survey (end.Adopted o) is = record {
    newest = is.newest;
    replica = is.replica;
    seats = is.seats;
    number = is.number;
    drawn = is.drawn;
    gone = is.gone;
    over = is.over;
    written = written_more is.newest is.replica is.seats is.number (all_written is.newest.table.plan.lists o.seats is.gone) is.written;
    left = is.left;
    enough = is.enough;
    is = is.is;
  }
  wrote_more site survey end.Empty is = is
  wrote_more site survey (end.TwoDatabases a b) is = is
  wrote_more site survey (end.NoQuorum readable needed) is = is
  wrote_more site survey (end.Lost active listed) is = record { newest = is.newest; replica = is.replica; seats = is.seats; number = is.number; drawn = is.drawn; progress = is.progress; written = written_more is.newest is.replica is.seats is.number is.progress is.written; short = is.short }
  wrote_more site survey end.Spent is = is
  wrote_more site survey end.Memory is = is
