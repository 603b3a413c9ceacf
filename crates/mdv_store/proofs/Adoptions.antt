-- What a boot makes of the newest table: what follows for its moments, its end and its answer.
use Rattle.std.proofs.Common.{◌≡◌, inl, inr, ◌<◌, ◌≤◌, ◌+◌, ◌-◌, ◌/◌, ◌^◌, ℕ, zero, suc, Bool, true, false, List, [], ◌∷◌, Option, Some, Contains, length, slice_get, refl, sym, ◌∙◌, subst, ap, arith, None}
use Rattle.std.specs.List.{list_any}
use Rattle.std.proofs.lemmas.Bool.{or_left, or_right}
use Rattle.std.proofs.lemmas.Bool.Decides.{nat_tests}
use Rattle.mdv_shelf.proofs.Among.{among_none}
use Rattle.mdv_shelf.proofs.Between.{between_none}
use Rattle.mdv_shelf.proofs.Frame.{within_range}
use Rattle.mdv_shelf.proofs.Moments.{moments_none, moments_weaker}
use Rattle.mdv_shelf.specs.Drives.{KeptAmong}
use Rattle.mdv_shelf.specs.Moments.{Moments}
use Rattle.mdv_shelf.specs.Shelves.{AtEachTale, AtEnd, DriveFailures}
use Rattle.mdv_replica.specs.Form.{boot_of, gate_of, is_open, shows}
use Rattle.mdv_replica.specs.declared.replica.Head.{Head}
use Rattle.mdv_replica.specs.declared.replica.Slot.{Slot}
use Rattle.mdv_replica.specs.declared.replica.Slot.TheVariants.{First, Second}
use Rattle.mdv_base.specs.declared.mark.Mark.{Mark}
use Rattle.mdv_replica.specs.Forms.{IsGate}
use Rattle.mdv_replica.specs.declared.forms.Gate.{Gate}
use Rattle.mdv_replica.specs.declared.forms.Gate.TheVariants.{Closed, Open}
use Rattle.mdv_survey.specs.Choice.{IsTheOne, is_of, same_identity}
use Rattle.mdv_survey.specs.Newest.{IsGreatest}
use Rattle.mdv_survey.specs.Replica.{IsOnShelf, IsSeated}
use Rattle.mdv_survey.specs.declared.replica.Newest.{Newest}
use Rattle.mdv_survey.specs.declared.replica.Survey.{Survey}
use Rattle.mdv_store.specs.Adopting.{AdoptEnds, AdoptMoment, AreJustOn, IsAdoptAnswer, WasReadOf, WroteOf}
use Rattle.mdv_store.specs.Below.{DriveNo, Drives, Failures, Geometry, Ghosts, Identity, IsReadyWith, Lists, One, Replica, Site, SliceLine, Table, Tale, Two, at_of, greatest, last, places_of, record_bytes, range, settled, site_area, site_of}
use Rattle.mdv_store.specs.Boot.{IfAdopted, IsDrawn, IsEndBy, IsInHand, IsShortAt, IsWrittenTo, TakesAll, TakesBoth, TakesBy, WasChosen, gone_found, greatest_number, last_found, seats_of}
use Rattle.mdv_store.specs.BootCounts.{most_blocks, most_calls}
use Rattle.mdv_store.specs.Booting.{BootGoes, BootMomentOn, HasShown, WasReadOn, Writes, WritesFor, boot_area, has_written}
use Rattle.mdv_store.specs.Commit.{AnyLog, AnyWorld, IsLiveWith}
use Rattle.mdv_store.specs.Opened.{Opened}
use Rattle.mdv_store.specs.Progress.{Progress, all_written}
use Rattle.mdv_store.specs.Settled.{gone_of, seats_now, settles}
use Rattle.mdv_store.specs.Seats.{AreLaid, AreLeft, IsLaid, drives_of, replica_area, replicas_of, seats_area, spots_of}
use Rattle.mdv_store.specs.Taking.{IsCalmOver, IsHandOf, IsLostWith, IsRewriteAnswer, IsRewriteEnd, IsTakingCounted, IsToAdopt, RewriteEnds, RewriteMoment, StaySynced, drives_read, last_in}
use Rattle.mdv_store.specs.Text.{blocks_for}
use Rattle.mdv_store.specs.declared.booting.BootEnd.{BootEnd}
use Rattle.mdv_store.specs.declared.booting.BootEnd.TheVariants as end
use Rattle.mdv_store.specs.declared.booting.Hand.{Hand}
use Rattle.mdv_store.specs.declared.booting.Taken.{Taken}
use Rattle.mdv_store.specs.declared.seats.Seat.{Seat}
use Rattle.mdv_store.specs.declared.seats.Share.{Share}
use Rattle.mdv_store.proofs.Again.{now_in}
use Rattle.mdv_store.proofs.Passes.{mapped, unmapped}
use Rattle.mdv_look.proofs.Quiet.{quiet_same, quiet_wider}
use Rattle.mdv_store.proofs.Reading.{in_hand_is, read_on, seated_laid, seated_own, to_adopt}
use Rattle.mdv_look.specs.Quiet.{IsQuiet}
use Rattle.mdv_store.proofs.Seating.{or_yes}
use Rattle.mdv_store.proofs.Sitting.{contains_behind, contains_first, first_or_behind, left_replica}
use Rattle.mdv_store.proofs.Told.{gone_is, last_is}
use Rattle.mdv_store.specs.Shares.{short_of}
use Rattle.mdv_store.specs.declared.seats.Need.TheVariants.{More}

-- a replica that took all that a boot writes lies where it lay
pub takes_stay : (number : ℕ) (table : Table) (r n : Replica) → TakesAll number table r n → n ≡ record r { head = n.head }
takes_stay number table r n took = by table.plan.lists took where
  headed : (x m : Replica) (h : Head) → m ≡ record x { head = h } → m ≡ record x { head = m.head }
  headed x m h is = is ∙ ap (λ (k : Head). record x { head = k }) (sym (ap (λ (y : Replica). y.head) is))

  by : (l : Lists) → TakesBy l number table r n → n ≡ record r { head = n.head }
  by (One list) (slot, spare, is) = headed r n _ is
  by (Two old new) (m, (slot, spare, first), (other, again, second)) = headed m n _ second ∙ ap (λ (x : Replica). record x { head = n.head }) (headed r m _ first)

-- An end of which nothing was written.
pub not_adopted : (answer : BootEnd) (P : Opened → Type 0) → has_written answer ≡ false → IfAdopted answer P
not_adopted (end.Adopted o) P still = absurd (cc (still))
not_adopted end.Empty P still = tt
not_adopted (end.TwoDatabases a b) P still = tt
not_adopted (end.NoQuorum readable needed) P still = tt
not_adopted (end.Lost active listed) P still = tt
not_adopted end.Spent P still = tt
not_adopted end.Memory P still = tt

pub written_for : (up : Drives) (g : Geometry) (site : Site) (answer : BootEnd) (t m : Tale) → has_written answer ≡ false → WritesFor up g site answer t m
written_for up g site (end.Adopted o) t m still = absurd (cc (still))
written_for up g site end.Empty t m still = tt
written_for up g site (end.TwoDatabases a b) t m still = tt
written_for up g site (end.NoQuorum readable needed) t m still = tt
written_for up g site (end.Lost active listed) t m still = absurd (cc (still))
written_for up g site end.Spent t m still = tt
written_for up g site end.Memory t m still = tt

pub still_moment : (up : Drives) (g : Geometry) (site : Site) (answer : BootEnd) (t : Tale) → has_written answer ≡ false → BootMomentOn up g site answer t t
still_moment up g site answer t still = record { quiet = quiet_same (boot_area site (has_written answer)) t; writes = written_for up g site answer t t still }

module _ {S : Type 0} (shelf : Ghosts S) (now : S) (taken : Taken) (still : has_written taken.end ≡ false) where
  pub still_counted : IsTakingCounted shelf now now taken
  still_counted = record { most = between_none shelf.calls shelf.written now now most_calls most_blocks refl; calm = λ so. not_adopted taken.end _ still }

  pub still_kept : (drives : List DriveNo) → KeptAmong shelf now now drives
  still_kept drives = among_none shelf now drives

  pub still_synced : AtEnd shelf (StaySynced shelf now now) now now
  still_synced t is = (t, is, λ drive was never. was)

  pub still_calm : (replicas : List Replica) → taken.calm ≡ true → IsCalmOver shelf now now replicas taken.calm
  still_calm replicas calm = subst (λ (b : Bool). IsCalmOver shelf now now replicas b) (sym calm) (λ drive. refl)

  pub still_moments : (up : Drives) (P : Tale → Geometry → Type 0) (site : Site) → AtEachTale shelf (λ t m. (g : Geometry) → P t g → BootMomentOn up g site taken.end t m) now now
  still_moments up P site = moments_none (λ t m. (g : Geometry) → P t g → BootMomentOn up g site taken.end t m) (shelf.tale now) (shelf.tale now) refl (λ t g was. still_moment up g site taken.end t still)

  pub still_ends : (P : Tale → Geometry → Type 0) (Q : Geometry → Tale → Tale → Opened → Type 0) → AtEnd shelf (λ t u. (g : Geometry) → P t g → IfAdopted taken.end (Q g t u)) now now
  still_ends P Q t is = (t, is, λ g was. not_adopted taken.end (Q g t t) still)

-- the identity of a replica that shows the newest table
pub same_identity_self : (a : Identity) → same_identity a a ≡ true
same_identity_self a = grind (arith, nat_tests)

pub got_contains : {X : Type 0} (xs : List X) (k : ℕ) (x : X) → slice_get xs k ≡ Some x → Contains xs x
got_contains [] k x is = absurd (cc (is))
got_contains (y ∷ ys) zero x is = (let same : y ≡ x = cc (is) in subst (Contains (y ∷ ys)) same (contains_first y ys))
got_contains (y ∷ ys) (suc k) x is = contains_behind y x ys (got_contains ys k x is)

-- the blocks of seated replicas are the site's
any_in : {X : Type 0} (xs : List X) (x : X) (p : X → Bool) → Contains xs x → p x ≡ true → list_any p xs ≡ true
any_in [] x p has so = absurd (omega (arith, has.1))
any_in (y ∷ ys) x p has so = elim (first_or_behind y x ys has) [
  | inl here ↦ or_left (p y) (list_any p ys) (ap p here ∙ so)
  | inr there ↦ or_right (p y) (list_any p ys) (any_in ys x p there so)
]

any_line : (lines : List SliceLine) (line : SliceLine) (drive block : ℕ) → Contains lines line → list_any (λ (l : SliceLine). range l.at.drive.0 (l.at.start + 16) (l.at.blocks - 16) drive block) lines ≡ false → range line.at.drive.0 (line.at.start + 16) (line.at.blocks - 16) drive block ≡ false
any_line lines line drive block has out = by (range line.at.drive.0 (line.at.start + 16) (line.at.blocks - 16) drive block) refl where
  by : (b : Bool) → range line.at.drive.0 (line.at.start + 16) (line.at.blocks - 16) drive block ≡ b → range line.at.drive.0 (line.at.start + 16) (line.at.blocks - 16) drive block ≡ false
  by true so = absurd (cc (out, any_in lines line (λ (l : SliceLine). range l.at.drive.0 (l.at.start + 16) (l.at.blocks - 16) drive block) has so))
  by false so = so

none_in : (rs : List Replica) (drive block : ℕ) → ((r : Replica) → Contains rs r → replica_area r drive block ≡ false) → list_any (λ (r : Replica). replica_area r drive block) rs ≡ false
none_in [] drive block out = refl
none_in (r ∷ rs) drive block out = or_yes (replica_area r drive block) (list_any (λ (x : Replica). replica_area x drive block) rs) (out r (contains_first r rs)) (none_in rs drive block (λ x has. out x (contains_behind r x rs has)))

pub seats_within : (site : Site) (seats : List Seat) → ((r : Replica) → Contains (replicas_of seats) r → IsSeated site r) → (drive block : ℕ) → site_area site drive block ≡ false → seats_area seats drive block ≡ false
seats_within site seats seated drive block out = none_in (replicas_of seats) drive block (λ r has.
    let at = seated r has in
    within_range r.line.at.drive.0 (at_of r).first r.first.blocks (r.line.at.start + 16) (r.line.at.blocks - 16) drive block (omega arith) (omega (arith, at.within)) (any_line site.lines r.line drive block at.one_of out))

-- a head with an open gate shows a table
open_shows : (head : Head) (slot : Slot) (mark : Mark) (bytes : ℕ) → gate_of head slot ≡ Open mark bytes → shows head ≡ true
open_shows head First mark bytes is = or_left (is_open head.first) (is_open head.second) (ap is_open is)
open_shows head Second mark bytes is = or_right (is_open head.first) (is_open head.second) (ap is_open is)

-- The newest table in hand.
module _ (site : Site) (replicas : List Replica) (newest : Newest) (hand : Hand) (is : IsHandOf replicas newest hand) (seated : (r : Replica) → Contains replicas r → IsSeated site r) (marks : IsGreatest replicas newest) where
  is_own : is_of hand.identity is.replica ≡ true
  is_own = subst (λ (i : Identity). same_identity is.replica.head.master.identity i ≡ true) (sym is.identity_is) (same_identity_self is.replica.head.master.identity)

  is_shown : shows is.replica.head ≡ true
  is_shown =
      let same_one : Some marks.replica ≡ Some is.replica = sym marks.one_of ∙ is.one_of in
      let one : marks.replica ≡ is.replica = cc (same_one) in
      ap (λ (r : Replica). shows r.head) (sym one) ∙ open_shows marks.replica.head newest.slot newest.mark marks.bytes marks.gate

  -- as the survey has it
  module _ (survey : Survey) (replica : Replica) (reps : survey.replicas ≡ replicas) (newest_is : survey.newest ≡ Some newest) (the : IsTheOne replicas newest replica) where
    same : is.replica ≡ replica
    same = (let both : Some is.replica ≡ Some replica = sym is.one_of ∙ the.one_of in cc (both))

    identity_is : hand.identity ≡ replica.head.master.identity
    identity_is = is.identity_is ∙ ap (λ (r : Replica). r.head.master.identity) same

    pub in_hand_of : IsInHand survey newest replica hand.seats
    in_hand_of = record {
      newest_is = newest_is;
      the = subst (λ (rs : List Replica). IsTheOne rs newest replica) (sym reps) the;
      seats_are = is.seats_are ∙ ap (λ (i : Identity). seats_of replicas i (blocks_for (record_bytes newest.table)) (places_of newest.table.plan.lists)) identity_is
          ∙ ap (λ (rs : List Replica). seats_of rs replica.head.master.identity (blocks_for (record_bytes newest.table)) (places_of newest.table.plan.lists)) (sym reps);
    }

    pub number_of : hand.number ≡ greatest_number replica.head.master.identity survey.replicas + 1
    number_of = is.number_is ∙ ap (λ (i : Identity). greatest_number i replicas + 1) identity_is ∙ ap (λ (rs : List Replica). greatest_number replica.head.master.identity rs + 1) (sym reps)

    module _ (enough : short_of More hand.seats newest.table.plan.lists ≡ None) (small : hand.number < 2 ^ 63) where
      drawn_of : IsDrawn survey newest replica hand.seats hand.number
      drawn_of = record { hand = in_hand_of; enough = enough; number_is = number_of; small = small }

      lost_by : (failed : ℕ → Failures) (progress : Progress) (share : Share) → IsLostWith failed site.key hand newest.table progress share
          → IsShortAt failed site.key hand.number newest.table hand.seats (last_found survey newest replica) (gone_found survey newest replica) progress share
      lost_by failed progress share lost =
          subst (λ (ss : List Seat). IsShortAt failed site.key hand.number newest.table hand.seats (last_found survey newest replica) ss progress share) (gone_is survey newest replica hand.seats in_hand_of)
          (subst (λ (ss : List Seat). IsShortAt failed site.key hand.number newest.table hand.seats ss (seats_now hand.seats (gone_of newest.table.plan.lists)) progress share) (last_is survey newest replica hand.seats in_hand_of) lost)

      pub written_of : (Wrote : Hand → Table → Progress → Type 0) (progress : Progress) → Wrote hand newest.table progress → IsWrittenTo Wrote newest replica hand.seats hand.number progress
      written_of Wrote progress wrote = record { hand = hand; identity_is = identity_is; number_is = refl; seats_are = refl; wrote = wrote }

      pub end_of : (failed : ℕ → Failures) (Wrote : Hand → Table → Progress → Type 0) (progress : Progress) → Wrote hand newest.table progress → (answer : BootEnd) → IsRewriteEnd failed site.key hand newest.table progress answer → IsEndBy failed Wrote site survey answer
      end_of failed Wrote progress wrote (end.Adopted o) (gone, whole, by) = record {
        newest = newest;
        replica = replica;
        seats = hand.seats;
        number = hand.number;
        drawn = drawn_of;
        gone = gone;
        over = subst (λ (ss : List Seat). AreLeft failed (TakesBoth hand.number (record_bytes newest.table)) ss gone) (gone_is survey newest replica hand.seats in_hand_of) by.over;
        written = written_of Wrote (all_written newest.table.plan.lists o.seats gone) (subst (Wrote hand newest.table) whole wrote);
        left = subst (λ (ss : List Seat). AreLeft failed (TakesAll hand.number newest.table) ss o.seats) (last_is survey newest replica hand.seats in_hand_of) by.left;
        enough = by.enough;
        is = by.is ∙ ap (λ (i : Identity). record { key = site.key; identity = i; mark = record { boot = hand.number; count = settles newest.table.plan.lists }; table = settled newest.table; seats = o.seats }) identity_is;
      }
      end_of failed Wrote progress wrote end.Empty by = absurd by
      end_of failed Wrote progress wrote (end.TwoDatabases a b) by = absurd by
      end_of failed Wrote progress wrote (end.NoQuorum readable needed) by = absurd by
      end_of failed Wrote progress wrote (end.Lost active listed) by = record { newest = newest; replica = replica; seats = hand.seats; number = hand.number; drawn = drawn_of; progress = progress; written = written_of Wrote progress wrote; short = lost_by failed progress (record { active = active; listed = listed }) by }
      end_of failed Wrote progress wrote end.Spent by = absurd by
      end_of failed Wrote progress wrote end.Memory by = absurd by

  -- nothing is written behind the look
  unwritten_answer : {S : Type 0} (shelf : Ghosts S) (now : S) (answer : BootEnd) → has_written answer ≡ false
      → ((survey : Survey) (replica : Replica) → survey.replicas ≡ replicas → survey.newest ≡ Some newest → IsTheOne replicas newest replica → WasChosen survey → IsEndBy (DriveFailures shelf now now) (WroteOf shelf now now site replicas newest true) site survey answer)
      → (taken : Taken) → taken.end ≡ answer → taken.calm ≡ true → IsAdoptAnswer shelf now now site replicas newest taken
  unwritten_answer shelf now answer still by taken ends calm = subst (IsAdoptAnswer shelf now now site replicas newest) (λ i. record { end = sym ends i; calm = sym calm i }) (record {
    ended = inr by;
    calm = λ drive. refl;
    once = λ drive. inl refl;
    still = λ so. refl;
    laid = not_adopted answer (λ o. AreLaid (shelf.sizes now) o.seats) still;
  })

  -- too few places have room
  pub unread_answer : {S : Type 0} (shelf : Ghosts S) (now : S) (share : Share) → short_of More hand.seats newest.table.plan.lists ≡ Some share
      → (taken : Taken) → taken.end ≡ end.NoQuorum share.active (share.listed / 2 + 1) → taken.calm ≡ true → IsAdoptAnswer shelf now now site replicas newest taken
  unread_answer shelf now share short = unwritten_answer shelf now (end.NoQuorum share.active (share.listed / 2 + 1)) refl
      (λ survey replica reps newest_is the was. inr (was, newest, replica, hand.seats, in_hand_of survey replica reps newest_is the, share, short, refl, refl))

  -- no number is left
  pub spent_answer : {S : Type 0} (shelf : Ghosts S) (now : S) → short_of More hand.seats newest.table.plan.lists ≡ None → 2 ^ 63 ≤ hand.number
      → (taken : Taken) → taken.end ≡ end.Spent → taken.calm ≡ true → IsAdoptAnswer shelf now now site replicas newest taken
  spent_answer shelf now enough over = unwritten_answer shelf now end.Spent refl (λ survey replica reps newest_is the was. record {
    newest = newest;
    replica = replica;
    seats = hand.seats;
    hand = in_hand_of survey replica reps newest_is the;
    enough = enough;
    spent = subst (λ (n : ℕ). 2 ^ 63 ≤ n) (number_of survey replica reps newest_is the) over;
  })

  module _ (enough : short_of More hand.seats newest.table.plan.lists ≡ None) where
    pub hand_laid : (sizes : List ℕ) → IsOnShelf sizes site → AreLaid sizes hand.seats
    hand_laid sizes on r has = (let one = in_hand_is site replicas newest hand is seated enough r has in seated_laid sizes site r on (seated r one.1))

    of_hand : (r : Replica) → Contains (replicas_of hand.seats) r → Contains replicas r
    of_hand r has = (in_hand_is site replicas newest hand is seated enough r has).1

    pub hand_drives : (drive : DriveNo) → Contains (drives_of hand.seats) drive → Contains (drives_read replicas) drive
    hand_drives drive has =
        let r = unmapped (λ (x : Replica). x.line.at.drive) (replicas_of hand.seats) drive has in
        subst (Contains (drives_read replicas)) r.2 (mapped (λ (x : Replica). x.line.at.drive) replicas r.0 (of_hand r.0 r.1))

    -- what was read is to be adopted
    to_be : (g : Geometry) (t : Tale) → WasReadOf g site replicas newest t → IsToAdopt g site.key hand newest.table t
    to_be g t was =
        to_adopt g site.key replicas newest hand is (λ r has. subst (λ (s : Site). IsSeated s r) was.site_is (seated r has)) enough marks t (subst (λ (s : Site). WasReadOf g s replicas newest t) was.site_is was) is.replica is.one_of
        (got_contains replicas newest.replica is.replica is.one_of) is_own

    has_shown : (g : Geometry) (t : Tale) → WasReadOf g site replicas newest t → HasShown g site hand.identity t
    has_shown g t was = record { replica = is.replica; found = was.each is.replica (got_contains replicas newest.replica is.replica is.one_of); its = is_own; shown = is_shown }

    -- and what was read of these drives
    read_by : (g : Geometry) (t : Tale) (up : Drives) (was : WasReadOf g site replicas newest t) → AreJustOn g site up replicas t → (replica : Replica) → IsTheOne replicas newest replica → hand.number < 2 ^ 63
        → WasReadOn up g site hand.identity newest.table.plan.lists (last t) (to_be g t was).seen (to_be g t was).mark
    unfolding to_be
    read_by g t up was just replica the small = subst (λ (s : Site). WasReadOn up g s hand.identity newest.table.plan.lists (last t) (to_be g t was).seen (to_be g t was).mark) (sym was.site_is)
        (read_on g site.key replicas newest hand is (λ r has. subst (λ (s : Site). IsSeated s r) was.site_is (seated r has)) enough marks t (subst (λ (s : Site). WasReadOf g s replicas newest t) was.site_is was) is.replica is.one_of
        (got_contains replicas newest.replica is.replica is.one_of) is_own up (subst (λ (s : Site). AreJustOn g s up replicas t) was.site_is just) small
        (λ r has shown. subst (λ (i : Identity). same_identity r.head.master.identity i ≡ true) (the.one r has shown ∙ ap (λ (x : Replica). x.head.master.identity) (only_one the) ∙ sym is.identity_is) (same_identity_self r.head.master.identity)))
      where
        only_one : IsTheOne replicas newest replica → replica ≡ is.replica
        only_one the_one = (let both : Some replica ≡ Some is.replica = sym the_one.one_of ∙ is.one_of in cc (both))

    writes_of : (g : Geometry) (t m : Tale) (up : Drives) → WasReadOf g site replicas newest t → AreJustOn g site up replicas t → (replica : Replica) → IsTheOne replicas newest replica → hand.number < 2 ^ 63
        → RewriteMoment site.key hand newest.table t m → Writes up g site hand.identity newest.table.plan.lists t m
    writes_of g t m up was just replica the small moment =
        let to = to_be g t was in
        record {
          seen = to.seen;
          mark = to.mark;
          seats = hand.seats;
          found = λ r has. (let one = in_hand_is site replicas newest hand is seated enough r has in (was.each r one.1, seated_own hand.identity one.0 _ r one.2));
          shown = inr (has_shown g t was, read_by g t up was just replica the small);
          within = moment.quiet;
          goes = subst (λ (s : Site). BootGoes g s hand.identity newest.table.plan.lists to.seen to.mark (spots_of hand.seats) AnyWorld AnyLog t m) (sym was.site_is) (moment.goes g to);
          rest = λ all. moment.rest g all to;
          blank = moment.blank g to;
        }

    quiet_of : (t m : Tale) → RewriteMoment site.key hand newest.table t m → IsQuiet (site_area site) t m
    quiet_of t m moment = quiet_wider (seats_area hand.seats) (site_area site) t m (seats_within site hand.seats (λ r has. seated r (of_hand r has))) moment.quiet

    adopt_moment : hand.number < 2 ^ 63 → (failed : ℕ → Failures) (progress : Progress) (answer : BootEnd) → IsRewriteEnd failed site.key hand newest.table progress answer → (t m : Tale) → RewriteMoment site.key hand newest.table t m → AdoptMoment site replicas newest answer t m
    adopt_moment small failed progress (end.Adopted o) (gone, whole, by) t m moment = λ g replica up the was just. record { quiet = quiet_of t m moment; writes = (newest.table.plan.lists, (let same = ap (λ (x : Opened). x.mark.count) by.is in omega (arith, same)), subst (λ (i : Identity). Writes up g site i newest.table.plan.lists t m) (sym (ap (λ (x : Opened). x.identity) by.is)) (writes_of g t m up was just replica the small moment)) }
    adopt_moment small failed progress end.Empty by t m moment = absurd by
    adopt_moment small failed progress (end.TwoDatabases a b) by t m moment = absurd by
    adopt_moment small failed progress (end.NoQuorum readable needed) by t m moment = absurd by
    adopt_moment small failed progress (end.Lost active listed) by t m moment = λ g replica up the was just. record { quiet = quiet_of t m moment; writes = (hand.identity, newest.table.plan.lists, writes_of g t m up was just replica the small moment) }
    adopt_moment small failed progress end.Spent by t m moment = absurd by
    adopt_moment small failed progress end.Memory by t m moment = absurd by

    adopt_end : hand.number < 2 ^ 63 → (failed : ℕ → Failures) (progress : Progress) (answer : BootEnd) → IsRewriteEnd failed site.key hand newest.table progress answer → (t u : Tale) → IfAdopted answer (λ o. RewriteEnds site.key hand newest.table o t u) → AdoptEnds site replicas newest answer t u
    adopt_end small failed progress (end.Adopted o) (gone, whole, by) t u ends = λ g replica up the was just.
        let to = to_be g t was in
        record {
          shown = subst (λ (i : Identity). HasShown g site i t) (sym (ap (λ (x : Opened). x.identity) by.is)) (has_shown g t was);
          opened = ends.opened g to;
          lists = newest.table.plan.lists;
          marked = ap (λ (x : Opened). x.mark.count) by.is;
          seen = to.seen;
          mark = to.mark;
          read = subst (λ (i : Identity). WasReadOn up g site i newest.table.plan.lists (last t) to.seen to.mark) (sym (ap (λ (x : Opened). x.identity) by.is)) (read_by g t up was just replica the small);
          seated = spots_of hand.seats;
          goes = subst (λ (s : Site). BootGoes g s o.identity newest.table.plan.lists to.seen to.mark (spots_of hand.seats) (IsReadyWith (spots_of o.seats)) (λ log. IsLiveWith log o.mark o.table) t u) (sym was.site_is)
              (subst (λ (i : Identity). BootGoes g (site_of g site.key) i newest.table.plan.lists to.seen to.mark (spots_of hand.seats) (IsReadyWith (spots_of o.seats)) (λ log. IsLiveWith log o.mark o.table) t u) (sym (ap (λ (x : Opened). x.identity) by.is)) (ends.goes g to));
        }
    adopt_end small failed progress end.Empty by t u ends = absurd by
    adopt_end small failed progress (end.TwoDatabases a b) by t u ends = absurd by
    adopt_end small failed progress (end.NoQuorum readable needed) by t u ends = absurd by
    adopt_end small failed progress (end.Lost active listed) by t u ends = λ g replica up the was just. tt
    adopt_end small failed progress end.Spent by t u ends = absurd by
    adopt_end small failed progress end.Memory by t u ends = absurd by

    module _ {S : Type 0} (shelf : Ghosts S) (old new : S) (taken : Taken) (answer : IsRewriteAnswer shelf old new site.key hand newest.table taken) where
      pub adopted_moments : hand.number < 2 ^ 63 → AtEachTale shelf (RewriteMoment site.key hand newest.table) old new → AtEachTale shelf (AdoptMoment site replicas newest taken.end) old new
      adopted_moments small = moments_weaker (RewriteMoment site.key hand newest.table) (AdoptMoment site replicas newest taken.end) (shelf.tale old) (shelf.tale new) (adopt_moment small (DriveFailures shelf old new) answer.progress taken.end answer.ended)

      pub adopted_ends : hand.number < 2 ^ 63 → AtEnd shelf (λ t u. IfAdopted taken.end (λ o. RewriteEnds site.key hand newest.table o t u)) old new → AtEnd shelf (AdoptEnds site replicas newest taken.end) old new
      adopted_ends small ends t told = (let e = ends t told in (e.0, e.1, adopt_end small (DriveFailures shelf old new) answer.progress taken.end answer.ended t e.0 e.2))

      adopted_calm : (b : Bool) → IsCalmOver shelf old new (replicas_of hand.seats) b → IsCalmOver shelf old new replicas b
      adopted_calm true calm = calm
      adopted_calm false lost = (lost.0, of_hand lost.0 lost.1, lost.2)

      wrote : (failed : ℕ → Failures) (e : BootEnd) → IsRewriteEnd failed site.key hand newest.table answer.progress e → has_written e ≡ false → ⊥
      wrote failed (end.Adopted o) by still = cc (still)
      wrote failed end.Empty by still = by
      wrote failed (end.TwoDatabases a b) by still = by
      wrote failed (end.NoQuorum readable needed) by still = by
      wrote failed (end.Lost active listed) by still = cc (still)
      wrote failed end.Spent by still = by
      wrote failed end.Memory by still = by

      laid_by : (failed : ℕ → Failures) (sizes : List ℕ) → AreLaid sizes hand.seats → (e : BootEnd) → IsRewriteEnd failed site.key hand newest.table answer.progress e → IfAdopted e (λ o. AreLaid sizes o.seats)
      laid_by failed sizes laid (end.Adopted o) (gone, whole, by) = λ n has.
          let one = left_replica failed (TakesAll hand.number newest.table) (last_in hand.seats newest.table.plan.lists) o.seats n by.left has in
          let was = laid one.0 (last_has newest.table.plan.lists one.0 one.1) in
          subst (λ (x : Replica). IsLaid sizes x) (sym (takes_stay hand.number newest.table one.0 n one.2)) (record { placed = was.placed; short = was.short })
        where
          last_has : (l : Lists) (r : Replica) → Contains (replicas_of (last_in hand.seats l)) r → Contains (replicas_of hand.seats) r
          last_has (One list) r there = there
          last_has (Two old new) r there = now_in hand.seats new r there
      laid_by failed sizes laid end.Empty by = tt
      laid_by failed sizes laid (end.TwoDatabases a b) by = tt
      laid_by failed sizes laid (end.NoQuorum readable needed) by = tt
      laid_by failed sizes laid (end.Lost active listed) by = tt
      laid_by failed sizes laid end.Spent by = tt
      laid_by failed sizes laid end.Memory by = tt

      pub adopted_answer : KeptAmong shelf old new (drives_of hand.seats) → AtEachTale shelf (RewriteMoment site.key hand newest.table) old new → hand.number < 2 ^ 63 → AreLaid (shelf.sizes old) hand.seats → IsAdoptAnswer shelf old new site replicas newest taken
      adopted_answer kept moments small laid = record {
        ended = inr (λ survey replica reps newest_is the chosen. end_of survey replica reps newest_is the enough small (DriveFailures shelf old new) (WroteOf shelf old new site replicas newest taken.calm) answer.progress (record { rewrites = record { moments = moments; wrote = answer.wrote; made = answer.made; exact = answer.exact; written = answer.written }; shows = λ t told. (let e = answer.shows t told in (e.0, e.1, λ g was. e.2 g (to_be g t was))) }) taken.end answer.ended);
        calm = adopted_calm taken.calm answer.calm;
        once = answer.once;
        still = λ still. absurd (wrote (DriveFailures shelf old new) taken.end answer.ended still);
        laid = laid_by (DriveFailures shelf old new) (shelf.sizes old) laid taken.end answer.ended;
      }

-- a gate's number, and a head's
gate_small : (gate : Gate) → IsGate gate → boot_of gate < 2 ^ 63
gate_small Closed is = omega arith
gate_small (Open mark bytes) is = is.0.boot

pub seated_small : (site : Site) (r : Replica) → IsSeated site r → greatest r.head < 2 ^ 63
seated_small site r is = omega (arith, is.formed.of_claim, gate_small r.head.first is.formed.of_first, gate_small r.head.second is.formed.of_second)

pub adopt_still : (site : Site) (replicas : List Replica) (newest : Newest) (answer : BootEnd) (told : Option Tale) → has_written answer ≡ false → Moments (AdoptMoment site replicas newest answer) told told
adopt_still site replicas newest answer told still = moments_none (AdoptMoment site replicas newest answer) told told refl (λ t g replica up the was just. still_moment up g site answer t still)

pub got_within : {X : Type 0} (xs : List X) (k : ℕ) (x : X) → slice_get xs k ≡ Some x → k < length xs
got_within [] k x is = absurd (cc (is))
got_within (y ∷ ys) zero x is = omega arith
got_within (y ∷ ys) (suc k) x is = omega (arith, got_within ys k x is)
