-- What a run has open: at least half of the places are active, on slices on which a boot looks. So where a boot or a line ends the run for want of places, a call failed on the drive of one of these.
use Rattle.std.proofs.Common.{◌≡◌, ◌≢◌, ◌⊎◌, ◌+◌, ◌*◌, ◌<◌, inl, inr, ⊎_elim, ℕ, Bool, true, false, List, [], ◌∷◌, ◌++◌, Option, Some, None, Contains, MatchOption, length, if◌then◌else◌, refl, sym, ◌∙◌, ap, subst, arith, map}
use Rattle.std.proofs.lemmas.Bool.{false≢true, le-leb, leb-true, ltb-false}
use Rattle.std.proofs.lemmas.List.{length-append}
use Rattle.std.proofs.lemmas.List.Elements.{Contains-append_left, Contains-append_right}
use Rattle.std.proofs.lemmas.List.Sums.{sum_by-append}
use Rattle.mdv_databases.proofs.Finding.{failing_list}
use Rattle.std.specs.List.{find}
use Rattle.std.specs.Prelude.{◌&&◌, count_by, not}
use Rattle.mdv_base.specs.Causes.{Failures}
use Rattle.mdv_base.specs.DriveSet.{Drives}
use Rattle.mdv_base.specs.declared.mark.Identity.{Identity}
use Rattle.mdv_base.specs.declared.name.Key.{Key}
use Rattle.mdv_base.specs.declared.place.Place.{Place}
use Rattle.mdv_engine_law.specs.Answers.{accepted}
use Rattle.mdv_engine_law.specs.Commands.{IsLostCommit}
use Rattle.mdv_engine_law.specs.Hosts.{key_of}
use Rattle.mdv_engine_law.specs.Line.{AreFormedOn, IsReadOf, IsRebooted, Kept, WritesBy, answered_by, booted_with, opened_by}
use Rattle.mdv_engine_law.specs.Moves.{IsLostChange}
use Rattle.mdv_engine_law.specs.Replies.{HasEndCause}
use Rattle.mdv_engine_law.specs.declared.answer.Answer.{Answer}
use Rattle.mdv_engine_law.specs.declared.answer.Answer.TheVariants.{Said, Over as Ends}
use Rattle.mdv_engine_law.specs.declared.host.Host.{Host}
use Rattle.mdv_name.specs.declared.slice_lines.SliceLine.{SliceLine}
use Rattle.mdv_places.proofs.Adding.{either_replica}
use Rattle.mdv_places.proofs.Halves.{active_by, half_in, seat_active}
use Rattle.mdv_places.specs.Asked.{Adds, Asks, Drops, KeepsFirst, list_after, lists_after, places_added, seats_added}
use Rattle.mdv_places.specs.Changing.{IsEnough, both_of}
use Rattle.mdv_places.specs.Outcomes.{IsMoved, TakesBoth, till_wiped}
use Rattle.mdv_run_law.specs.Run.{IsOfTable, IsSaid}
use Rattle.mdv_shelf.specs.Everywhere.{Image}
use Rattle.mdv_shelf.specs.Failing.{Outcomes}
use Rattle.mdv_shown.specs.declared.site.Site.{Site}
use Rattle.mdv_store.proofs.Boots.{count_all}
use Rattle.mdv_store.proofs.Passes.{some_lost}
use Rattle.mdv_store.proofs.Relisting.{replicas_in}
use Rattle.mdv_store.proofs.Adoptions.{takes_stay}
use Rattle.mdv_store.proofs.Told.{adopted_enough, found_read, lost_read, lost_short}
use Rattle.mdv_store.proofs.Adoptions.{same_identity_self}
use Rattle.mdv_store.proofs.Sitting.{left_replica}
use Rattle.mdv_store.proofs.Spotting.{asked_active, asked_length}
use Rattle.mdv_store.specs.Boot.{IsAdopted, IsEndBy, IsLost, IsShort, TakesAll, is_memory, last_found, need_of}
use Rattle.mdv_store.specs.Commit as commit
use Rattle.mdv_store.specs.Create as create
use Rattle.mdv_store.specs.Listing.{seats_in}
use Rattle.mdv_store.specs.Opened.{Opened, shortage}
use Rattle.mdv_store.specs.Seats.{AreLeft, TakesSlot, drive_of, replicas_of}
use Rattle.mdv_store.specs.declared.booting.BootEnd.{BootEnd}
use Rattle.mdv_store.specs.declared.booting.BootEnd.TheVariants as end
use Rattle.mdv_store.specs.declared.seats.Seat.{Seat}
use Rattle.mdv_survey.specs.Choice.{AreTwo, IsChoice, IsChoiceAmong, failing, is_of, needed_of, readable_of, same_identity, shows_other}
use Rattle.mdv_survey.specs.declared.choosing.Choice.TheVariants as chosen
use Rattle.mdv_survey.specs.declared.replica.Newest.{Newest}
use Rattle.mdv_survey.specs.declared.replica.Replica.{Replica}
use Rattle.mdv_survey.specs.declared.replica.Survey.{Survey}
use Rattle.mdv_config.specs.Lists.{last_of}
use Rattle.mdv_plan.specs.declared.lists.Lists.{Lists}
use Rattle.mdv_plan.specs.declared.lists.Lists.TheVariants.{One, Two}
use Rattle.mdv_plan.specs.declared.table.Table.{Table}
use Rattle.mdv_store.specs.Shares.{has_active, short_in, short_of}
use Rattle.mdv_store.specs.declared.seats.Need.TheVariants.{Half}
use Rattle.mdv_store.specs.declared.seats.Share.{Share}
use Rattle.mdv_store.proofs.Shares.{both_none, half_less, half_none, kept_lists, list_none, list_suffices, lists_none, more_less, seat_at, short_fewer}
use Rattle.mdv_theorem.proofs.Carried.{Holds, holds_none, holds_open, none_kept}
use Rattle.mdv_theorem.proofs.Sited.{added_seat}

-- with what answer a run may be over, and why
abbrev pub IsEndOf : Type 0 → Answer → Type 0
IsEndOf failed (Said this) = Unit {0}
IsEndOf failed (Ends over) = HasEndCause failed over

-- of places of which half of each list was active, and of a list fewer are then, a call failed on the drive of one
half_lost : (failed : ℕ → Failures) (Took : Replica → Replica → Type 0) (lists : Lists) (old now : List Seat) (share : Share) → AreLeft failed Took old now → short_of Half old lists ≡ None → short_of Half now lists ≡ Some share
    → (r : Replica) × Contains (replicas_of old) r × (failed (drive_of r)).some
half_lost failed Took lists old now share left half few = some_lost failed Took old now left (short_fewer failed Took Half Half (λ x so. so) lists old now share left half few)

-- of a list of which not more than half is readable more are needed
short_read : (replicas : List Replica) (identity : Identity) (lists : Lists) (list : List Place) → failing replicas identity lists ≡ Some list → readable_of replicas identity list < needed_of list
short_read replicas identity lists list fails = (let few = ltb-false (length list) (2 * readable_of replicas identity list) (failing_list replicas identity lists list fails).1 in omega (arith, few))

-- what is found passes the test
found_passes : (p : Replica → Bool) (rs : List Replica) (r : Replica) → find p rs ≡ Some r → p r ≡ true
found_passes p [] r is = absurd (cc (is))
found_passes p (x ∷ rs) r is = by (p x) refl is (found_passes p rs r) where
  by : (b : Bool) → p x ≡ b → (if b then Some x else find p rs) ≡ Some r → (find p rs ≡ Some r → p r ≡ true) → p r ≡ true
  by true here same rest = (let one : x ≡ r = cc (same) in ap p (sym one) ∙ here)
  by false here same rest = rest same

and_not : (a b : Bool) → (a && not b) ≡ true → b ≡ true → ⊥
and_not true true is other = cc (is)
and_not true false is other = cc (other)
and_not false b is other = cc (is)

two_differ : (replicas : List Replica) (a b : Identity) → AreTwo replicas a b → a ≢ b
two_differ replicas a b are same =
    let other = found_passes (shows_other are.one.head.master.identity) replicas are.other are.second in
    let one : are.other.head.master.identity ≡ are.one.head.master.identity = sym are.b_is ∙ sym same ∙ are.a_is in
    and_not _ (is_of are.one.head.master.identity are.other) other (subst (λ (i : Identity). same_identity i are.one.head.master.identity ≡ true) (sym one) (same_identity_self are.one.head.master.identity))

-- Half of each list is active among the seats of both, where half of the open one is.
half_among : (seats all : List Seat) → ((s : Seat) → Contains seats s → Contains all s) → (list : List Place) → short_of Half seats (One list) ≡ None → short_of Half all (One list) ≡ None
half_among seats all among list none = kept_lists Half Half (λ share so. so) seats all (λ p so. (let at = seat_at seats p so in active_by all at.0 p (among at.0 at.2) (seat_active at.0 p at.1 at.3 at.4))) (One list) none

half_last : (seats : List Seat) (lists : Lists) → short_of Half seats lists ≡ None → short_of Half seats (One (last_of lists)) ≡ None
half_last seats (One list) none = none
half_last seats (Two was list) none = (both_none Half seats (short_in Half seats was) (short_in Half seats list) none).1

-- half of a list stays where places come behind it, each of which is active
half_more : (seats : List Seat) (list more : List Place) → short_of Half seats (One list) ≡ None → ((p : Place) → Contains more p → has_active seats p ≡ true) → short_of Half seats (One (list ++ more)) ≡ None
half_more seats list more none each =
    let half = leb-true (length list) (2 * count_by (has_active seats) list) (list_suffices Half seats list none) in
    let every = count_all (has_active seats) more each in
    let both : count_by (has_active seats) (list ++ more) ≡ count_by (has_active seats) list + count_by (has_active seats) more = sum_by-append _ list more in
    list_none Half seats (list ++ more) (le-leb (length (list ++ more)) (2 * count_by (has_active seats) (list ++ more)) (omega (arith, half, every, both, length-append list more)))

module _ (old : Opened) (asked : Asks) (half : shortage old ≡ None) (enough : IsEnough old asked) where
  abbrev places : List Place
  places = last_of old.table.plan.lists

  abbrev seats : List Seat
  seats = (both_of old asked).seats

  those : (s : Seat) → Contains old.seats s → Contains seats s
  those s has = Contains-append_left old.seats (seats_added old asked) s has

  old_half : short_of Half old.seats (One places) ≡ None
  old_half = half_last old.seats old.table.plan.lists half

  coming_half : short_of Half seats (One (list_after asked places)) ≡ None
  coming_half = by asked enough (λ s has. Contains-append_right old.seats (seats_added old asked) s has) where
    by : (a : Asks) → IsEnough old a → ((s : Seat) → Contains (seats_added old a) s → Contains seats s) → short_of Half seats (One (list_after a places)) ≡ None
    by (Adds lines count blocks) so added = half_more seats places (places_added (Adds lines count blocks)) (half_among old.seats seats those places old_half) (λ p has. (let at = added_seat old lines count blocks p has in active_by seats at.seat p (added at.seat at.one_of) (seat_active at.seat p at.replica at.has at.is)))
    by (Drops slices) so added = half_among old.seats seats those (list_after (Drops slices) places) so
    by KeepsFirst so added = half_among old.seats seats those (list_after KeepsFirst places) so

  both_half : short_of Half seats (lists_after asked old.table.plan.lists) ≡ None
  both_half = lists_none Half seats (lists_after asked old.table.plan.lists) (half_among old.seats seats those places old_half) coming_half

module _ (host : Host) (is_host : IsOfTable host) where
  -- what is open: half of each of its lists is active, on slices of the host's site
  pub record IsHeld (o : Opened) : Type 0 where
    pub half : shortage o ≡ None
    pub own : (r : Replica) → Contains (replicas_of o.seats) r → Contains host.site.lines r.line

  abbrev pub HoldsIt : Kept → Type 0
  HoldsIt = Holds IsHeld

  -- places that are left of such ones
  left_own : (failed : ℕ → Failures) (Took : Replica → Replica → Type 0) (old now : List Seat) → AreLeft failed Took old now → ((r n : Replica) → Took r n → n.line ≡ r.line)
      → ((r : Replica) → Contains (replicas_of old) r → Contains host.site.lines r.line) → (r : Replica) → Contains (replicas_of now) r → Contains host.site.lines r.line
  left_own failed Took old now left same own r has =
      let one = left_replica failed Took old now r left has in
      subst (λ (line : SliceLine). Contains host.site.lines line) (sym (same one.0 r one.2)) (own one.0 one.1)

  module _ (calls : Outcomes) where
    -- a call failed on a drive with a slice on which a boot looks
    abbrev pub HasFailedThere : Type 0
    HasFailedThere = (line : SliceLine) × Contains host.site.lines line × (calls line.at.drive.0).some

    -- for a host's own database that is half of them
    pub own_enough : (seats : List Seat) (lists : Lists) (came : Option Share) → short_of (need_of host.site.key) seats lists ≡ came → short_of Half seats lists ≡ came
    own_enough seats lists came is = subst (λ (k : Key). short_of (need_of k) seats lists ≡ came) (ap (λ (s : Site). s.key) is_host.site ∙ is_host.key) is

    module _ (content : Image) (up : Drives) {e : BootEnd} (survey : Survey) (read : IsReadOf calls host content up e survey) (Wrote : _) where
      adopted_held : (o : Opened) → IsAdopted calls Wrote host.site survey o → IsHeld o
      adopted_held o a = record {
        half = own_enough o.seats o.table.plan.lists None (adopted_enough calls Wrote host.site survey o a);
        own = left_own calls (TakesAll a.number a.newest.table) (last_found survey a.newest a.replica) o.seats a.left (λ r n took. ap (λ (x : Replica). x.line) (takes_stay a.number a.newest.table r n took))
            (λ r has. (read.of.each r (found_read survey a.newest a.replica a.seats a.drawn.hand (last_of a.newest.table.plan.lists) r has)).one_of);
      }

      lost_boot : (active listed : ℕ) → IsLost calls Wrote host.site.key survey active listed → HasFailedThere × (2 * active < listed)
      lost_boot active listed lost =
          let share : Share = record { active = active; listed = listed } in
          let one = lost_read calls Wrote host.site.key survey active listed lost in
          let short = lost_short calls Wrote host.site.key survey active listed lost in
          ((one.0.line, (read.of.each one.0 one.1).one_of, one.2), half_less short.1 short.0 share (own_enough short.1 short.0 (Some share) short.2))

    short_boot : (survey : Survey) (readable needed : ℕ) → IsShort survey readable needed → readable < needed
    short_boot survey readable needed (inl choice) = by survey.newest choice where
      by : (o : Option Newest) → MatchOption o (chosen.NoQuorum readable needed ≡ chosen.Empty) (λ (n : Newest). IsChoiceAmong survey.replicas n (chosen.NoQuorum readable needed)) → readable < needed
      by None never = absurd (cc (never))
      by (Some n) is =
          let short = short_read survey.replicas is.replica.head.master.identity n.table.plan.lists is.list is.fails in
          omega (arith, short, is.readable_is, is.needed_is)
    short_boot survey readable needed (inr (was, newest, replica, seats, hand, share, few, readable_is, needed_is)) = omega (arith, more_less seats newest.table.plan.lists share few, readable_is, needed_is)

    two_boot : (survey : Survey) (a b : Identity) → IsChoice survey (chosen.TwoDatabases a b) → a ≢ b
    two_boot survey a b choice = by survey.newest choice where
      by : (o : Option Newest) → MatchOption o (chosen.TwoDatabases a b ≡ chosen.Empty) (λ (n : Newest). IsChoiceAmong survey.replicas n (chosen.TwoDatabases a b)) → a ≢ b
      by None never = absurd (cc (never))
      by (Some n) are = two_differ survey.replicas a b are

    -- a boot: what it opens, and why it is over
    module _ (kept next : Kept) (answer : Answer) where
      abbrev By : BootEnd → Drives → Type 0
      By end up = (is_memory end ≡ true) ⊎ ((survey : Survey) × IsReadOf calls host kept.content up end survey × IsEndBy calls (λ hand table progress. WritesBy host.drives host.site.key kept.content next.content hand.identity hand.number hand.seats table progress) host.site survey end)

      open_end : (end : BootEnd) (up : Drives) (clean : Bool) → By end up → answer ≡ answered_by end → (answer ≡ accepted → next.memory ≡ booted_with (opened_by end) up clean kept.memory.begun) → IsSaid answer → HoldsIt next
      open_end (end.Adopted o) up clean (inl never) is memory said = absurd (false≢true never)
      open_end (end.Adopted o) up clean (inr (survey, read, adopted)) is memory said =
          holds_open IsHeld next o (ap (λ m. m.opened) (memory is)) (none_kept next (Some o) up clean kept.memory.begun (memory is)) (adopted_held kept.content up survey read _ o adopted)
      open_end end.Empty up clean by is memory said = holds_none IsHeld next (ap (λ m. m.opened) (memory is)) (none_kept next None up clean kept.memory.begun (memory is))
      open_end (end.TwoDatabases a b) up clean by is memory said = absurd (let never : ⊥ = subst IsSaid is said in never)
      open_end (end.NoQuorum readable needed) up clean by is memory said = absurd (let never : ⊥ = subst IsSaid is said in never)
      open_end (end.Lost active listed) up clean by is memory said = absurd (let never : ⊥ = subst IsSaid is said in never)
      open_end end.Spent up clean by is memory said = absurd (let never : ⊥ = subst IsSaid is said in never)
      open_end end.Memory up clean by is memory said = absurd (let never : ⊥ = subst IsSaid is said in never)

      why_end : (end : BootEnd) (up : Drives) → By end up → IsEndOf HasFailedThere (answered_by end)
      why_end (end.Adopted o) up by = tt
      why_end end.Empty up by = tt
      why_end (end.TwoDatabases a b) up (inl never) = absurd (false≢true never)
      why_end (end.TwoDatabases a b) up (inr (survey, read, choice)) = two_boot survey a b choice
      why_end (end.NoQuorum readable needed) up (inl never) = absurd (false≢true never)
      why_end (end.NoQuorum readable needed) up (inr (survey, read, short)) = short_boot survey readable needed short
      why_end (end.Lost active listed) up (inl never) = absurd (false≢true never)
      why_end (end.Lost active listed) up (inr (survey, read, lost)) = lost_boot kept.content up survey read _ active listed lost
      why_end end.Spent up by = tt
      why_end end.Memory up by = tt

      pub boot_ends : IsRebooted calls host kept answer next → IsEndOf HasFailedThere answer
      boot_ends boots = subst (IsEndOf HasFailedThere) (sym boots.answer_is) (why_end boots.end boots.up boots.by)

      pub boot_holds : IsRebooted calls host kept answer next → IsSaid answer → HoldsIt next
      boot_holds boots said = open_end boots.end boots.up boots.clean boots.by boots.answer_is boots.memory said

    -- a creation, each of whose replicas was found
    module _ (key : Key) (identity : Identity) (lines : List SliceLine) (count blocks : ℕ) (content : Image) (formed : AreFormedOn host identity lines count blocks content) (is_key : key ≡ key_of host) where
      pub made_own : (r : Replica) → Contains (replicas_of (create.seats_asked key identity lines count blocks)) r → Contains host.site.lines r.line
      made_own r has =
          let is = (formed r (subst (λ (k : Key). Contains (replicas_of (create.seats_asked k identity lines count blocks)) r) is_key has)).1 in
          subst (λ (s : Site). Contains s.lines r.line) (sym is_host.site) is.found.one_of

      pub made_held : (o : Opened) → create.IsMade calls key identity lines count blocks o → IsHeld o
      made_held o made = record {
        half = made.half;
        own = left_own calls (TakesSlot _ _) (create.seats_asked key identity lines count blocks) o.seats made.tried (λ r n took. ap (λ (x : Replica). x.line) took.2) made_own;
      }

      pub lost_creation : (active listed : ℕ) → create.IsLost calls key identity lines count blocks active listed → HasFailedThere × (2 * active < listed)
      lost_creation active listed lost =
          let long = asked_length key identity count blocks lines in
          let all = asked_active key identity count blocks lines in
          let seats = create.seats_asked key identity lines count blocks in
          let share : Share = record { active = active; listed = listed } in
          let one = half_lost calls _ (create.table_of seats).plan.lists seats lost.now share lost.tried (half_none seats (map (λ (s : Seat). s.place) seats) refl (omega (arith, long, all))) lost.few in
          ((one.0.line, made_own one.0 one.1, one.2), half_less lost.now (create.table_of seats).plan.lists share lost.few)

    -- a change of what is open
    pub changed_held : (old new : Opened) (table : Table) → IsHeld old → commit.IsCommitted calls old new table → IsHeld new
    changed_held old new table held is = record { half = is.enough; own = left_own calls (TakesSlot _ _) old.seats new.seats is.tried.left (λ r n took. ap (λ (x : Replica). x.line) took.2) held.own }

    pub lost_change : (old : Opened) (table : Table) (active listed : ℕ) → IsHeld old → IsLostCommit calls old table active listed → HasFailedThere × (2 * active < listed)
    lost_change old table active listed held is =
        let share : Share = record { active = active; listed = listed } in
        let few = ap (λ (t : Table). short_of Half is.new.seats t.plan.lists) (sym (ap (λ (x : Opened). x.table) is.lost.is)) ∙ is.few in
        let one = half_lost calls _ old.table.plan.lists old.seats is.new.seats share is.lost.tried.left held.half few in
        ((one.0.line, held.own one.0 one.1, one.2), half_less is.new.seats old.table.plan.lists share few)

    -- A change of places of what is open, where the replicas that are added lie where a boot looks.
    module _ (old : Opened) (asked : Asks) (held : IsHeld old) (added : (r : Replica) → Contains (replicas_of (seats_added old asked)) r → Contains host.site.lines r.line) where
      abbrev all : List Seat
      all = (both_of old asked).seats

      abbrev list : List Place
      list = list_after asked (last_of old.table.plan.lists)

      all_own : (r : Replica) → Contains (replicas_of all) r → Contains host.site.lines r.line
      all_own r has = ⊎_elim (held.own r) (added r) (either_replica old.seats (seats_added old asked) r has)

      coming_own : (r : Replica) → Contains (replicas_of (seats_in list all)) r → Contains host.site.lines r.line
      coming_own r has = all_own r (replicas_in list all r has)

      twice_line : (r n : Replica) → TakesBoth calls host.drives old asked r n → n.line ≡ r.line
      twice_line r n (m, one, two) = ap (λ (x : Replica). x.line) two.2 ∙ ap (λ (x : Replica). x.line) one.2

      pub moved_held : (new : Opened) (clean : Bool) → IsMoved calls host.drives old asked new clean → IsHeld new
      moved_held new clean is = record {
        half = is.enough;
        own = left_own (till_wiped calls host.drives old asked) (TakesBoth calls host.drives old asked) (seats_in list all) new.seats is.left twice_line coming_own;
      }

      -- where half of each list was active, and fewer are of one then, a call failed
      pub lost_move : (active listed : ℕ) → IsEnough old asked → IsLostChange calls host.drives old asked active listed → HasFailedThere × (2 * active < listed)
      lost_move active listed enough is = elim is.lost [
        | inl both ↦
            let few = ap (λ (t : Table). short_of Half is.new.seats t.plan.lists) (sym (ap (λ (x : Opened). x.table) both.is)) ∙ both.few in
            let one = half_lost calls _ (lists_after asked old.table.plan.lists) all is.new.seats share both.left (both_half old asked held.half enough) few in
            ((one.0.line, all_own one.0 one.1, one.2), half_less is.new.seats (lists_after asked old.table.plan.lists) share few)
        | inr last ↦
            let few = ap (λ (t : Table). short_of Half is.new.seats t.plan.lists) (sym (ap (λ (x : Opened). x.table) last.is)) ∙ last.few in
            let one = half_lost calls _ (One list) (seats_in list all) is.new.seats share last.left (half_in list all (coming_half old asked held.half enough)) few in
            ((one.0.line, coming_own one.0 one.1, one.2), half_less is.new.seats (One list) share few)
      ]
        where
          share : Share
          share = record { active = active; listed = listed }
