-- What came of a change of places, by how the calls came out.
use Rattle.std.proofs.Common.{◌≡◌, inl, inr, ℕ, Bool, true, false, List, [], ◌∷◌, Contains, MatchOption, Option, None, Some, Ok, Err, refl, sym, ◌∙◌, ap, subst, arith}
use Rattle.std.specs.Prelude.{Result}
use Rattle.mdv_acts.proofs.Members.{first_or_behind}
use Rattle.mdv_acts.specs.Acts.{HaveGone, HaveStopped}
use Rattle.mdv_acts.specs.Wipes.{drives_at}
use Rattle.mdv_base.specs.Causes.{RoseOnce}
use Rattle.mdv_base.specs.DriveSet.{has_drive, no_drives}
use Rattle.mdv_base.specs.declared.drive.Failed.{Failed}
use Rattle.mdv_look.proofs.Among.{is_one_of}
use Rattle.mdv_look.proofs.Bringing.{one_number, same_drive}
use Rattle.mdv_name.specs.Sound.{IsSound}
use Rattle.mdv_shelf.specs.Calls.{OnDrive}
use Rattle.mdv_shelf.specs.Shelves.{DriveFailures}
use Rattle.mdv_store.proofs.Marks.{slot_stays}
use Rattle.mdv_store.proofs.Passes.{left_calm, left_told, unmapped}
use Rattle.mdv_store.specs.Listing.{MayList, WasListed, last_by, seats_in}
use Rattle.mdv_store.specs.Seats.{drive_of}
use Rattle.mdv_store.specs.Shares.{short_of}
use Rattle.mdv_store.specs.Writing.{text_size}
use Rattle.mdv_store.specs.declared.seats.Need.TheVariants.{Half}
use Rattle.mdv_places.specs.Asked.{Asks, acts_moved, drives_added, list_after, lists_after}
use Rattle.mdv_places.specs.Below.{AreLeft, DriveNo, Failures, Geometry, Ghosts, Opened, Place, PlaceAt, Replica, Seat, Share, TakesSlot, drives_of, last_of, next_mark, replicas_of, settled}
use Rattle.mdv_places.specs.Changing.{MayMove, WereMoved, both_of, drives_dropped}
use Rattle.mdv_places.specs.Ending.{HasEnded, IsEndedBy}
use Rattle.mdv_places.specs.Outcomes.{IsLostBoth, IsLostLast, IsMoved, IsNumberOf, IsUnmoved, TakesBoth, seats_coming, till_wiped}
use Rattle.mdv_places.proofs.Counting.{left_in}
use Rattle.mdv_places.proofs.Enough.{both_failed, last_failed}
use Rattle.mdv_places.proofs.Exact.{failed_first}
use Rattle.mdv_places.proofs.Losing.{IsLostAs, drive_under}
use Rattle.mdv_places.proofs.Wiping.{found_drives}

-- what a pass leaves of one place
abbrev IsSeatLeft : (ℕ → Failures) → (Replica → Replica → Type 0) → Option Replica → Option Replica → Type 0
IsSeatLeft failed Took s n = MatchOption s (n ≡ None) (λ (r : Replica). MatchOption n (failed (drive_of r)).some (λ (m : Replica). (failed (drive_of r)).none × Took r m))

-- other outcomes that say as much
module _ (f h : ℕ → Failures) (Took : Replica → Replica → Type 0) (some : (d : ℕ) → (f d).some → (h d).some) (none : (d : ℕ) → (f d).none → (h d).none) where
  seat_as : (s n : Option Replica) → IsSeatLeft f Took s n → IsSeatLeft h Took s n
  seat_as None n is = is
  seat_as (Some r) None is = some (drive_of r) is
  seat_as (Some r) (Some m) is = (none (drive_of r) is.0, is.1)

  pub left_as : (ss ns : List Seat) → AreLeft f Took ss ns → AreLeft h Took ss ns
  left_as [] [] are = are
  left_as [] (n ∷ ns) are = absurd are
  left_as (s ∷ ss) [] are = absurd are
  left_as (s ∷ ss) (n ∷ ns) are = ((are.0.0, seat_as s.replica n.replica are.0.1), left_as ss ns are.1)

-- One pass behind another.
module _ (f h all : ℕ → Failures) (One Two Both : Replica → Replica → Type 0) (both : (r m n : Replica) → One r m → Two m n → Both r n) (same : (r m : Replica) → One r m → drive_of m ≡ drive_of r)
    (early : (d : ℕ) → (f d).some → (all d).some) (later : (d : ℕ) → (f d).none → (h d).some → (all d).some) (calm : (d : ℕ) → (f d).none → (h d).none → (all d).none) where
  seat_then : (s b n : Option Replica) → IsSeatLeft f One s b → IsSeatLeft h Two b n → IsSeatLeft all Both s n
  seat_then None b n one two = subst (λ (o : Option Replica). IsSeatLeft h Two o n) one two
  seat_then (Some r) None n one two = subst (λ (o : Option Replica). MatchOption o (all (drive_of r)).some (λ (m : Replica). (all (drive_of r)).none × Both r m)) (sym two) (early (drive_of r) one)
  seat_then (Some r) (Some m) None one two = later (drive_of r) one.0 (subst (λ (d : ℕ). (h d).some) (same r m one.1) two)
  seat_then (Some r) (Some m) (Some n) one two = (calm (drive_of r) one.0 (subst (λ (d : ℕ). (h d).none) (same r m one.1) two.0), both r m n one.1 two.1)

  pub left_then : (ss bs ns : List Seat) → AreLeft f One ss bs → AreLeft h Two bs ns → AreLeft all Both ss ns
  left_then [] [] [] one two = two
  left_then [] [] (n ∷ ns) one two = absurd two
  left_then [] (b ∷ bs) ns one two = absurd one
  left_then (s ∷ ss) [] ns one two = absurd one
  left_then (s ∷ ss) (b ∷ bs) [] one two = absurd two
  left_then (s ∷ ss) (b ∷ bs) (n ∷ ns) one two = ((two.0.0 ∙ one.0.0, seat_then s.replica b.replica n.replica one.0.1 two.0.1), left_then ss bs ns one.1 two.1)

-- The records behind the formats.
module _ {S : Type 0} (shelf : Ghosts S) (from formed both : S) (g : Geometry) (o between : Opened) (asked : Asks) (checked : MayList o (lists_after asked o.table.plan.lists)) (gone : HaveGone shelf from formed (drives_added asked) (acts_moved o asked)) where
  abbrev list : List Place
  list = list_after asked (last_of o.table.plan.lists)

  abbrev seats : List Seat
  seats = (both_of o asked).seats

  abbrev First : Replica → Replica → Type 0
  First = TakesSlot (next_mark o.mark) (text_size (both_of o asked).table)

  abbrev faults : S → ℕ → ℕ
  faults s d = shelf.faults s (OnDrive d)

  some_since : (d : ℕ) → (DriveFailures shelf formed both d).some → (DriveFailures shelf from both d).some
  some_since d rose = subst (λ (k : ℕ). RoseOnce k (faults both d)) (gone.calm d) rose

  none_since : (d : ℕ) → (DriveFailures shelf formed both d).none → (DriveFailures shelf from both d).none
  none_since d still = still ∙ gone.calm d

  since : (result : _) → WasListed shelf formed both (both_of o asked) between result → AreLeft (DriveFailures shelf from both) First seats between.seats
  since result first = left_as (DriveFailures shelf formed both) (DriveFailures shelf from both) First some_since none_since seats between.seats first.wrote.left

  -- too few took the table with both lists
  pub both_lost : MayMove (shelf.sizes from) g o asked → (share : Share) → WasListed shelf formed both (both_of o asked) between (Err share) → IsLostBoth (DriveFailures shelf from both) g o asked between share
  both_lost may share first =
      let left = since (Err share) first in
      let few = subst (λ (b : Opened). short_of Half between.seats b.table.plan.lists ≡ Some share) first.came.1 first.came.0 in
      record { may = checked; left = left; few = first.came.0; is = first.came.1; failed = both_failed (shelf.sizes from) g o asked may checked (DriveFailures shelf from both) First between.seats share left few }

  module _ (first : WasListed shelf formed both (both_of o asked) between (Ok tt)) (last : S) (now : Opened) (result : Result (Unit {0}) Share) (second : WasListed shelf both last (last_by between) now result) where
    abbrev then_open : Opened
    then_open = record (both_of o asked) { mark = next_mark o.mark; seats = between.seats }

    again : WasListed shelf both last (last_by then_open) now result
    again = subst (λ (b : Opened). WasListed shelf both last (last_by b) now result) first.came.1 second

    abbrev picks : List Seat
    picks = seats_in list between.seats

    abbrev Second : Replica → Replica → Type 0
    Second = TakesSlot (next_mark (next_mark o.mark)) (text_size (settled (both_of o asked).table))

    abbrev left_first : AreLeft (DriveFailures shelf from both) First (seats_coming (DriveFailures shelf from last) g o asked) picks
    left_first = left_in (DriveFailures shelf from both) First list seats between.seats (since (Ok tt) first)

    stays : (r m : Replica) → First r m → drive_of m ≡ drive_of r
    stays r m took = ap (λ (a : PlaceAt). a.drive.0) (slot_stays (next_mark o.mark) (text_size (both_of o asked).table) r m took)

    calm_then : (d : ℕ) → (DriveFailures shelf from both d).none → (DriveFailures shelf both last d).none → (DriveFailures shelf from last d).none
    calm_then d one two = two ∙ one

    rose_then : (d : ℕ) → (DriveFailures shelf from both d).none → (DriveFailures shelf both last d).some → (DriveFailures shelf from last d).some
    rose_then d one two = subst (λ (k : ℕ). RoseOnce k (faults last d)) one two

    still_rose : (d : ℕ) → (DriveFailures shelf from both d).some → (DriveFailures shelf both last d).none → (DriveFailures shelf from last d).some
    still_rose d one two = subst (λ (k : ℕ). RoseOnce (faults from d) k) (sym two) one

    -- a call on the drive of a place that is written again didn't fail, unless a count stands at its end
    rose_first : (d : ℕ) → (DriveFailures shelf from both d).some → (DriveFailures shelf from last d).some
    rose_first d rose = elim (is_one_of (drives_of picks) (record { 0 = d })) [
      | inl has ↦
          let m = unmapped drive_under (replicas_of picks) (record { 0 = d }) has in
          let number : drive_of m.0 ≡ d = ap (λ (x : DriveNo). x.0) m.2 in
          let r = left_calm (DriveFailures shelf from both) First (seats_coming (DriveFailures shelf from last) g o asked) picks left_first m.0 m.1 in
          let calm = subst (λ (n : ℕ). (DriveFailures shelf from both n).none) (sym (stays r.0 m.0 r.3) ∙ number) r.2 in
          elim (left_told (DriveFailures shelf both last) Second picks now.seats again.wrote.left m.0 m.1) [
            | inl lost ↦ rose_then d calm (subst (λ (n : ℕ). (DriveFailures shelf both last n).some) number lost)
            | inr left ↦ still_rose d rose (subst (λ (n : ℕ). (DriveFailures shelf both last n).none) number left.2)
          ]
      | inr out ↦ still_rose d rose (again.wrote.kept.others (OnDrive d) (λ one. out (subst (Contains (drives_of picks)) (sym (same_drive (record { 0 = d }) one.0 (one_number d one.0.0 one.2))) one.1)))
    ]

    pub left_twice : AreLeft (DriveFailures shelf from last) (TakesBoth (DriveFailures shelf from last) g o asked) (seats_coming (DriveFailures shelf from last) g o asked) now.seats
    left_twice = left_then (DriveFailures shelf from both) (DriveFailures shelf both last) (DriveFailures shelf from last) First Second (TakesBoth (DriveFailures shelf from last) g o asked) (λ r m n one two. (m, one, two)) stays rose_first rose_then calm_then
        (seats_coming (DriveFailures shelf from last) g o asked) picks now.seats left_first again.wrote.left

  -- enough did, and too few that with the new list alone
  pub last_lost : MayMove (shelf.sizes from) g o asked → WasListed shelf formed both (both_of o asked) between (Ok tt) → (last : S) (now : Opened) (share : Share) → WasListed shelf both last (last_by between) now (Err share) → IsLostLast (DriveFailures shelf from last) g o asked now share
  last_lost may first last now share second =
      let calls = DriveFailures shelf from last in
      let twice = again first last now (Err share) second in
      let left = left_twice first last now (Err share) second in
      let few = subst (λ (b : Opened). short_of Half now.seats b.table.plan.lists ≡ Some share) twice.came.1 twice.came.0 in
      record { may = checked; left = left; few = twice.came.0; is = twice.came.1; failed = last_failed (shelf.sizes from) g o asked may checked calls (TakesBoth calls g o asked) now.seats share left few }

-- A call failed as places were formatted.
pub not_moved : {S : Type 0} (shelf : Ghosts S) (from to : S) (g : Geometry) (o : Opened) (asked : Asks) → MayList o (lists_after asked o.table.plan.lists) → HaveStopped shelf from to (drives_added asked) (acts_moved o asked) → IsUnmoved (DriveFailures shelf from to) g o asked
not_moved shelf from to g o asked checked stopped = record { may = checked; drive = stopped.drive; one_of = stopped.one_of; here = stopped.here; elsewhere = stopped.elsewhere }

-- All was done.
module _ {S : Type 0} (shelf : Ghosts S) (from to : S) (g : Geometry) (o now : Opened) (asked : Asks) (sound : IsSound g) (checked : MayList o (lists_after asked o.table.plan.lists)) (clean : Bool) (w : WereMoved shelf from to g o now asked clean) where
  abbrev Till : ℕ → Failures
  Till = till_wiped (DriveFailures shelf from to) g o asked

  rose_before : (d : ℕ) → (DriveFailures shelf from w.last d).some → (Till d).some
  rose_before d rose =
      let n : DriveNo = record { 0 = d } in
      failed_first (has_drive no_drives n) (has_drive w.lost n) (has_drive w.now n) (shelf.faults from (OnDrive d)) (shelf.faults w.last (OnDrive d)) (shelf.faults to (OnDrive d)) (w.failed n) (w.wiped.tried.by n) rose

  dropped_number : (d : ℕ) → Contains (drives_at w.wiped.at) (record { 0 = d }) → IsNumberOf (drives_dropped g o asked) d
  dropped_number d has = (record { 0 = d }, subst (λ (l : List DriveNo). Contains l (record { 0 = d })) (sym (found_drives g sound _ w.wiped.at w.wiped.found)) has, refl)

  -- the wipes on a drive on which none had failed
  calm_before : (d : ℕ) → (DriveFailures shelf from w.last d).none → (Till d).none
  calm_before d still = elim (is_one_of (drives_at w.wiped.at) (record { 0 = d })) [
    | inl has ↦ by (dropped_number d has) (has_drive w.lost (record { 0 = d })) (has_drive w.now (record { 0 = d })) (w.wiped.tried.by (record { 0 = d }))
    | inr out ↦ inl (w.wiped.tried.kept.others (OnDrive d) (λ one. out (subst (Contains (drives_at w.wiped.at)) (sym (same_drive (record { 0 = d }) one.0 (one_number d one.0.0 one.2))) one.1)) ∙ still)
  ] where
    by : IsNumberOf (drives_dropped g o asked) d → (lost behind : Bool) → IsLostAs lost behind (DriveFailures shelf w.last to d) → (Till d).none
    by one true behind is = inl (is.1 ∙ still)
    by one false true is = inr (one, subst (λ (k : ℕ). RoseOnce k (shelf.faults to (OnDrive d))) still is)
    by one false false is = inl (is ∙ still)

  pub moved_so : IsMoved (DriveFailures shelf from to) g o asked now clean
  moved_so = (let twice = again shelf from w.formed w.both g o w.between asked checked w.gone w.first w.last now (Ok tt) w.second in record {
    may = checked;
    left = left_as (DriveFailures shelf from w.last) Till (TakesBoth (DriveFailures shelf from to) g o asked) rose_before calm_before (seats_coming (DriveFailures shelf from to) g o asked) now.seats
        (left_twice shelf from w.formed w.both g o w.between asked checked w.gone w.first w.last now (Ok tt) w.second);
    enough = twice.came.0;
    is = twice.came.1;
    told = w.told;
  })

-- What came of an end.
pub ended_by : {S : Type 0} (shelf : Ghosts S) (from to : S) (o : Opened) (result : Result (Unit {0}) Failed) → HasEnded shelf from to o result → IsEndedBy (DriveFailures shelf from to) o result
ended_by shelf from to o (Ok done) ended = ended.1.calm
ended_by shelf from to o (Err fault) ended =
    let stopped = ended.1 in
    let drive = ended.0.replica.line.at.drive in
    let same : stopped.drive ≡ drive = elim (first_or_behind drive stopped.drive [] stopped.one_of) [ inl here ↦ sym here | inr none ↦ absurd (omega (arith, none.1)) ] in
    record {
      sole = ended.0;
      here = subst (λ (d : DriveNo). (DriveFailures shelf from to d.0).some) same stopped.here;
      elsewhere = λ other differs. stopped.elsewhere other (λ e. differs (e ∙ same));
    }
