-- How many calls a change of places makes where none fails.
use Rattle.std.proofs.Common.{◌≡◌, inl, inr, ◌<◌, ◌≤◌, ◌+◌, ◌*◌, ℕ, Bool, true, false, List, [], ◌∷◌, length, Contains, None, Ok, refl, sym, ◌∙◌, ap, subst, arith}
use Rattle.std.proofs.lemmas.Bool.{cases_lt}
use Rattle.std.proofs.lemmas.List.Elements.{Contains-append_left, Contains-append_right}
use Rattle.std.specs.Bool.{MatchBool}
use Rattle.mdv_acts.specs.Acts.{Act, HaveGone, Makes, blocks_of, calls_of}
use Rattle.mdv_acts.specs.Wipes.{AreLostBy, HasOneLost, WereWiped, blanks_at, drives_at}
use Rattle.mdv_base.specs.Causes.{RoseOnce, failures_of}
use Rattle.mdv_base.specs.DriveSet.{Drives, has_drive, no_drives}
use Rattle.mdv_shelf.proofs.Counts.{took_more}
use Rattle.mdv_shelf.specs.Calls.{OnDrive}
use Rattle.mdv_shelf.specs.Shelves.{DriveFailures, MadeCalls}
use Rattle.mdv_store.proofs.Passes.{left_most, some_lost}
use Rattle.mdv_store.proofs.Relisting.{replicas_in}
use Rattle.mdv_store.proofs.Shares.{first_enough}
use Rattle.mdv_store.proofs.Sitting.{some_active}
use Rattle.mdv_store.specs.Listing.{WasListed, last_by, seats_in}
use Rattle.mdv_store.specs.Shares.{short_of}
use Rattle.mdv_store.specs.Text.{blocks_for}
use Rattle.mdv_store.specs.Writing.{text_size}
use Rattle.mdv_store.specs.declared.seats.Need.TheVariants.{Half}
use Rattle.mdv_places.specs.Asked.{Asks, acts_moved, drives_added, dropped}
use Rattle.mdv_places.specs.Below.{AreLeft, Failures, Geometry, Ghosts, One, Opened, Place, PlaceAt, Replica, Seat, Table, TakesSlot, active_of, drives_of, last_of, next_mark, replicas_of, settled}
use Rattle.mdv_places.specs.Changing.{MayMove, both_of, drives_dropped, drives_moved}
use Rattle.mdv_places.specs.Counts.{HaveNoFailure, first_count, last_count, move_blocks, move_calls}
use Rattle.mdv_places.proofs.Counting.{found_count, left_in}
use Rattle.mdv_places.proofs.Keeping.{on_drive}
use Rattle.mdv_places.proofs.Losing.{IsLostAs, drive_in, drive_under, lost_calm, lost_then, no_both}
use Rattle.mdv_places.proofs.Wiping.{has_failed}

-- one that failed in a part failed in the whole: a count at its end doesn't rise
pub failed_first : (l m n : Bool) (a b c : ℕ) → IsLostAs l m (failures_of a b) → IsLostAs m n (failures_of b c) → RoseOnce a b → RoseOnce a c
failed_first l true n a b c first second rose = second.1 ∙ rose
failed_first true false n a b c first second rose = absurd (no_both false first.0 refl)
failed_first false false true a b c first second rose = subst (λ (k : ℕ). RoseOnce k c) first second
failed_first false false false a b c first second rose = second ∙ rose

failed_then : (l m n : Bool) (a b c : ℕ) → IsLostAs l m (failures_of a b) → IsLostAs m n (failures_of b c) → RoseOnce b c → RoseOnce a c
failed_then true m n a b c first second rose = subst (λ (k : ℕ). RoseOnce k c) first.1 rose
failed_then false true n a b c first second rose = second.1 ∙ first
failed_then false false n a b c first second rose = subst (λ (k : ℕ). RoseOnce k c) first rose

-- wipes
blanks_calls : (at : List PlaceAt) → calls_of (blanks_at at) ≡ 2 * length at
blanks_calls [] = refl
blanks_calls (a ∷ rest) = (let more = blanks_calls rest in omega (arith, more))

blanks_blocks : (at : List PlaceAt) → blocks_of (blanks_at at) ≡ length at
blanks_blocks [] = refl
blanks_blocks (a ∷ rest) = (let more = blanks_blocks rest in omega (arith, more))

module _ {S : Type 0} (shelf : Ghosts S) where
  made_is : (a b : S) (j i k l : ℕ) → j ≡ k → i ≡ l → MadeCalls shelf a b j i → MadeCalls shelf a b k l
  made_is a b j i k l calls blocks made = subst (λ (n : ℕ). MadeCalls shelf a b n l) calls (subst (λ (n : ℕ). MadeCalls shelf a b j n) blocks made)

  made_behind : (acts : List Act) (a b c : S) (k l : ℕ) → Makes shelf a b acts → MadeCalls shelf b c k l → MadeCalls shelf a c (calls_of acts + k) (blocks_of acts + l)
  made_behind [] a b c k l same made = made_is a c k l (0 + k) (0 + l) (omega arith) (omega arith) (subst (λ (s : S). MadeCalls shelf s c k l) same made)
  made_behind (x ∷ xs) a b c k l first made = took_more shelf.calls shelf.written a b c (calls_of (x ∷ xs)) k (blocks_of (x ∷ xs)) l (calls_of (x ∷ xs) + k) (blocks_of (x ∷ xs) + l) refl refl first made

  made_before : (acts : List Act) (a b c : S) (k l : ℕ) → MadeCalls shelf a b k l → Makes shelf b c acts → MadeCalls shelf a c (k + calls_of acts) (l + blocks_of acts)
  made_before [] a b c k l made same = made_is a c k l (k + 0) (l + 0) (omega arith) (omega arith) (subst (λ (s : S). MadeCalls shelf a s k l) (sym same) made)
  made_before (x ∷ xs) a b c k l made second = took_more shelf.calls shelf.written a b c k (calls_of (x ∷ xs)) l (blocks_of (x ∷ xs)) (k + calls_of (x ∷ xs)) (l + blocks_of (x ∷ xs)) refl refl made second

-- nothing is left where no call failed
none_left : (failed : ℕ → Failures) (Took : Replica → Replica → Type 0) (old new : List Seat) → ((r : Replica) → Contains (replicas_of old) r → (failed (drive_under r).0).some → ⊥) → AreLeft failed Took old new → active_of new ≡ active_of old
none_left failed Took old new never left = elim (cases_lt (active_of new) (active_of old)) [
  | inl less ↦ absurd (let r = some_lost failed Took old new left less in never r.0 r.1 r.2)
  | inr same ↦ (let most = left_most failed Took old new left in omega (arith, same, most))
]

module _ {S : Type 0} (shelf : Ghosts S) (from formed both last to : S) (g : Geometry) (o between now : Opened) (asked : Asks) (may : MayMove (shelf.sizes from) g o asked) (gone : HaveGone shelf from formed (drives_added asked) (acts_moved o asked))
    (first : WasListed shelf formed both (both_of o asked) between (Ok tt)) (second : WasListed shelf both last (last_by between) now (Ok tt)) (one two left : Drives)
    (at_first : AreLostBy (DriveFailures shelf formed both) no_drives one) (at_second : AreLostBy (DriveFailures shelf both last) one two) (clean : Bool)
    (wiped : WereWiped shelf g last to (dropped asked (last_of o.table.plan.lists)) two left clean) (calm : HaveNoFailure shelf from to g o asked) where
  abbrev seats : List Seat
  seats = (both_of o asked).seats

  abbrev list : List Place
  list = last_of between.table.plan.lists

  abbrev Takes : Replica → Replica → Type 0
  Takes = TakesSlot (next_mark o.mark) (text_size (both_of o asked).table)

  by_first : AreLostBy (DriveFailures shelf from both) no_drives one
  by_first = lost_calm shelf from formed both no_drives one gone.calm at_first

  by_last : AreLostBy (DriveFailures shelf from last) no_drives two
  by_last = lost_then shelf from both last no_drives one two by_first at_second

  rest : AreLostBy (DriveFailures shelf both to) one left
  rest = lost_then shelf both last to one two left at_second wiped.tried.by

  on_active : (r : Replica) → Contains (replicas_of seats) r → Contains (drives_moved g o asked) (drive_under r)
  on_active r has = Contains-append_left (drives_of seats) (drives_dropped g o asked) (drive_under r) (drive_in seats r has)

  -- in none of both records
  first_calm : (r : Replica) → Contains (replicas_of seats) r → (DriveFailures shelf formed both (drive_under r).0).some → ⊥
  first_calm r has rose =
      let d = drive_under r in
      let part = shelf.faults formed (OnDrive d.0) in
      calm d (on_active r has)
      (failed_first (has_drive no_drives d) (has_drive one d) (has_drive left d) (shelf.faults from (OnDrive d.0)) (shelf.faults both (OnDrive d.0)) (shelf.faults to (OnDrive d.0)) (by_first d) (rest d)
      (subst (λ (k : ℕ). RoseOnce k (shelf.faults both (OnDrive d.0))) (gone.calm d.0) rose))

  second_calm : (r : Replica) → Contains (drives_of seats) (drive_under r) → (DriveFailures shelf both last (drive_under r).0).some → ⊥
  second_calm r has rose =
      let d = drive_under r in
      let from_both = failed_first (has_drive one d) (has_drive two d) (has_drive left d) (shelf.faults both (OnDrive d.0)) (shelf.faults last (OnDrive d.0)) (shelf.faults to (OnDrive d.0)) (at_second d) (wiped.tried.by d) rose in
      calm d (Contains-append_left (drives_of seats) (drives_dropped g o asked) d has)
      (failed_then (has_drive no_drives d) (has_drive one d) (has_drive left d) (shelf.faults from (OnDrive d.0)) (shelf.faults both (OnDrive d.0)) (shelf.faults to (OnDrive d.0)) (by_first d) (rest d) from_both)

  again_on : (r : Replica) → Contains (replicas_of (seats_in list between.seats)) r → Contains (drives_of seats) (drive_under r)
  again_on r has = (let was = on_drive shelf from formed both last (shelf.sizes from) o between now asked may.within gone first (drive_under r) (drive_in (seats_in list between.seats) r has) in subst (Contains (drives_of seats)) was.2 (drive_in seats was.0 was.1))

  -- each place of both took its own
  all_first : active_of between.seats ≡ first_count o asked
  all_first = none_left (DriveFailures shelf formed both) Takes seats between.seats first_calm first.wrote.left

  all_in : active_of (seats_in list between.seats) ≡ last_count o asked
  all_in =
      none_left (DriveFailures shelf formed both) Takes (seats_in list seats) (seats_in list between.seats) (λ r has. first_calm r (replicas_in list seats r has)) (left_in (DriveFailures shelf formed both) Takes list seats between.seats first.wrote.left)
      ∙ ap (λ (l : List Place). active_of (seats_in l seats)) (ap (λ (b : Opened). last_of b.table.plan.lists) first.came.1)

  all_last : active_of now.seats ≡ active_of (seats_in list between.seats)
  all_last = none_left (DriveFailures shelf both last) (TakesSlot (next_mark between.mark) (text_size (last_by between).table)) (seats_in list between.seats) now.seats (λ r has. second_calm r (again_on r has)) second.wrote.left

  -- and there are some
  some_now : 1 ≤ active_of now.seats
  some_now =
      first_enough Half now.seats (One list) (subst (λ (b : Opened). 1 ≤ length (last_of b.table.plan.lists)) (sym first.came.1) may.some)
      (subst (λ (t : Table). short_of Half now.seats t.plan.lists ≡ None) (ap (λ (b : Opened). b.table) second.came.1) second.came.0)

  some_again : 0 < active_of (seats_in list between.seats)
  some_again = (let some = some_now in let same = all_last in omega (arith, some, same))

  some_first : 0 < active_of seats
  some_first =
      let one = some_active (seats_in list between.seats) some_again in
      let was = on_drive shelf from formed both last (shelf.sizes from) o between now asked may.within gone first (drive_under one.0) (drive_in (seats_in list between.seats) one.0 one.1) in
      omega (arith, was.1.1)

  clean_all : clean ≡ true
  clean_all = by clean refl wiped.tried.came where
    by : (b : Bool) → clean ≡ b → MatchBool b (HaveGone shelf last to (drives_at wiped.at) (blanks_at wiped.at)) (HasOneLost wiped.at left) → clean ≡ true
    by true is gone = is
    by false is one =
        (let failed = has_failed shelf from last to g o now asked may.sound two left by_last clean wiped one in absurd (calm failed.0 (Contains-append_right (drives_of seats) (drives_dropped g o asked) failed.0 failed.1) failed.2))

  wipes_gone : HaveGone shelf last to (drives_at wiped.at) (blanks_at wiped.at)
  wipes_gone = subst (λ (b : Bool). MatchBool b (HaveGone shelf last to (drives_at wiped.at) (blanks_at wiped.at)) (HasOneLost wiped.at left)) clean_all wiped.tried.came

  abbrev body : Table → ℕ
  body t = 2 + blocks_for (text_size t)

  made_first : MadeCalls shelf from both (calls_of (acts_moved o asked) + 6 * first_count o asked) (blocks_of (acts_moved o asked) + body (both_of o asked).table * first_count o asked)
  made_first = made_behind shelf (acts_moved o asked) from formed both (6 * first_count o asked) (body (both_of o asked).table * first_count o asked) gone.made (first.wrote.passed.counted.all some_first all_first)

  made_second : MadeCalls shelf both last (6 * last_count o asked) (body (settled (both_of o asked).table) * last_count o asked)
  made_second =
      subst (λ (t : Table). MadeCalls shelf both last (6 * last_count o asked) (body t * last_count o asked)) (ap (λ (b : Opened). settled b.table) first.came.1)
      (subst (λ (n : ℕ). MadeCalls shelf both last (6 * n) (body (last_by between).table * n)) all_in (second.wrote.passed.counted.all some_again all_last))

  pub moved_just : MadeCalls shelf from to (move_calls o asked) (move_blocks o asked)
  moved_just =
      let f = first_count o asked in
      let l = last_count o asked in
      let c = calls_of (acts_moved o asked) + 6 * f in
      let b = blocks_of (acts_moved o asked) + body (both_of o asked).table * f in
      let e = body (settled (both_of o asked).table) * l in
      let count = found_count g (dropped asked (last_of o.table.plan.lists)) wiped.at wiped.found in
      let calls = blanks_calls wiped.at in
      let blocks = blanks_blocks wiped.at in
      made_is shelf from to (c + 6 * l + calls_of (blanks_at wiped.at)) (b + e + blocks_of (blanks_at wiped.at)) (move_calls o asked) (move_blocks o asked) (omega (arith, count, calls)) (omega (arith, count, blocks))
      (made_before shelf (blanks_at wiped.at) from last to (c + 6 * l) (b + e) (took_more shelf.calls shelf.written from both last c (6 * l) b e (c + 6 * l) (b + e) refl refl made_first made_second) wipes_gone.made)
