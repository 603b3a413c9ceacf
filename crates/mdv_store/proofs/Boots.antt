-- The stretches of a boot, one behind another.
use Rattle.std.proofs.Common.{◌≡◌, ◌⊎◌, inl, inr, ◌≤◌, ◌+◌, ◌*◌, ◌&&◌, ℕ, Bool, true, false, not, cond, List, [], ◌∷◌, ◌++◌, Option, None, Some, All, Contains, length, refl, sym, ◌∙◌, subst, ap, arith}
use Rattle.std.specs.Prelude.{count_by}
use Rattle.std.specs.Bool.{MatchBool}
use Rattle.std.specs.Option.{option_map}
use Rattle.std.proofs.Math.Nat.{mul-le-mul_left}
use Rattle.std.proofs.lemmas.List.Elements.{All-contains}
use Rattle.mdv_base.specs.Causes.{RoseOnce}
use Rattle.mdv_base.specs.DriveSet.{no_drives}
use Rattle.mdv_replica.specs.Images.{IsSame}
use Rattle.mdv_shelf.proofs.Among.{among_wider}
use Rattle.mdv_shelf.proofs.Between.{between_then, between_wider}
use Rattle.mdv_shelf.proofs.Everywhere.{everywhere_kept, image_synced}
use Rattle.mdv_shelf.proofs.Moments.{moments_after, moments_end, moments_weaker, some_is}
use Rattle.mdv_shelf.specs.Calls.{OnDrive}
use Rattle.mdv_shelf.specs.Drives.{KeptAmong}
use Rattle.mdv_shelf.specs.Everywhere.{Everywhere, Leaves}
use Rattle.mdv_shelf.specs.Moments.{Moments}
use Rattle.mdv_shelf.specs.Shelves.{AtEachTale, AtEnd, DriveFailures, MadeCalls}
use Rattle.mdv_shelf.specs.Story.{tale_of}
use Rattle.mdv_standing.proofs.Tracing.{adds_none, trace_more, trace_same, trace_weaker}
use Rattle.mdv_standing.specs.Laws.{ShowsNoTable}
use Rattle.mdv_standing.specs.Others.{Anything}
use Rattle.mdv_standing.specs.Rest.{HoldsRest}
use Rattle.mdv_standing.specs.Worlds.{IsWorld}
use Rattle.mdv_store_law.specs.Log.{log_after_all}
use Rattle.mdv_survey.specs.Counts.{AreLinesBy, MadeFew, MadeReads}
use Rattle.mdv_survey.specs.Newest.{IsMarked}
use Rattle.mdv_survey.specs.Replica.{Contents, IsFoundIn, IsOnShelf}
use Rattle.mdv_survey.specs.Survey.{IsSurveyOf}
use Rattle.mdv_survey.specs.declared.replica.Newest.{Newest}
use Rattle.mdv_survey.specs.declared.replica.Survey.{Survey}
use Rattle.mdv_store.specs.Adopting.{AreAllIn}
use Rattle.mdv_store.specs.Below.{Core, CoversWith, Database, DriveNo, Drives, Event, Failures, Geometry, Ghosts, Identity, IsSound, IsSynced, Lists, Log, Mark, One, Place, Replica, RestStands, Site, Spot, Table, Tale, has_drive, last, last_of, places_of, record_bytes, site_of}
use Rattle.mdv_shown.specs.Found.{IsFound}
use Rattle.mdv_store.specs.Blank.{StayBlank}
use Rattle.mdv_store.specs.Boot.{IfAdopted, IsEndBy, IsOnce, IsShortAt, IsShortBy, TakesAll, TakesBoth, gone_found, is_memory, last_found, seats_of}
use Rattle.mdv_store.specs.Booted.{IsBooted, IsReadAt, WasBroughtUp, WroteFor}
use Rattle.mdv_store.specs.BootCounts.{IsAnewCounted, IsBootCounted, IsEndCounted, most_blocks, most_calls, most_reads}
use Rattle.mdv_shown.specs.Choice.{Seen, spots_seen}
use Rattle.mdv_store.specs.Booting.{AreLeftOut, AreOfBoot, BootEnds, BootGoes, BootMoment, BootMomentOn, HasShown, IsBootedOn, IsBootedTo, WasReadOn, Writes, WritesFor, boot_area, has_written}
use Rattle.mdv_look.specs.Bringing.{AreSynced, AreUpBy, BringingEnds, IsBringingCounted}
use Rattle.mdv_store.specs.Commit.{AnyLog, AnyWorld}
use Rattle.mdv_store.specs.Counts.{MadeCallsBetween}
use Rattle.mdv_look.specs.Looking.{AreCalmBy, AreAllCalm, IsLookedAt, reads_by}
use Rattle.mdv_look.specs.Quiet.{WritesNothing}
use Rattle.mdv_store.specs.Letters.{AreLettersOf, places_seen}
use Rattle.mdv_store.specs.Records.{Spells}
use Rattle.mdv_store.specs.Progress.{Claimed, Progress, Rewritten, Settled}
use Rattle.mdv_store.specs.Settled.{gone_of, settles}
use Rattle.mdv_store.specs.Seats.{AreLaid, TakesClaim, active_of, drive_of, replicas_of, seats_area, spots_of}
use Rattle.mdv_store.specs.Taking.{IsCalmOver, IsTaken, IsTakingCounted, StaySynced, TakingEnds, TakingMoment, WasRead, WroteBy, drives_read}
use Rattle.mdv_store.specs.Text.{blocks_for}
use Rattle.mdv_store.specs.declared.booting.BootEnd.{BootEnd}
use Rattle.mdv_store.specs.declared.booting.BootEnd.TheVariants as end
use Rattle.mdv_store.specs.declared.booting.Booted.{Booted}
use Rattle.mdv_store.specs.declared.booting.Hand.{Hand}
use Rattle.mdv_store.specs.declared.booting.Taken.{Taken}
use Rattle.mdv_look.specs.declared.looking.Looked.{Looked}
use Rattle.mdv_store.specs.declared.letters.Lettered.{Lettered}
use Rattle.mdv_store.specs.declared.seats.Seat.{Seat}
use Rattle.mdv_look.proofs.Among.{among_calm, among_silent}
use Rattle.mdv_look.proofs.Bringing.{count_cons}
use Rattle.mdv_look.proofs.Few.{few_more, reads_more}
use Rattle.mdv_store.proofs.Few.{reads_between, reads_then}
use Rattle.mdv_look.proofs.Looks.{and_first, and_second, cases_bool, count_length, yes_not}
use Rattle.mdv_store.proofs.Lettering.{of_ended}
use Rattle.mdv_store.proofs.Passes.{left_as, unmapped}
use Rattle.mdv_look.proofs.Quiet.{quiet_more, unwritten_quiet}
use Rattle.mdv_store.proofs.Seating.{seated_at}
use Rattle.mdv_store.proofs.Sitting.{contains_behind, contains_first}
use Rattle.mdv_store.proofs.Takes.{none_newest}
use Rattle.mdv_store.proofs.Told.{wrote_more}

pub at_true : (A B : Type 0) (b : Bool) → b ≡ true → MatchBool b A B → A
at_true A B b is m = subst (λ (c : Bool). MatchBool c A B) is m

pub at_false : (A B : Type 0) (b : Bool) → b ≡ false → MatchBool b A B → B
at_false A B b is m = subst (λ (c : Bool). MatchBool c A B) is m

-- Nothing is written.
leaves_same : (t m : Tale) → WritesNothing t m → Leaves IsSame t m
leaves_same t m unwritten image is = (image, record { each = λ drive block. (unwritten.outside drive block refl).left (image drive block) (is.each drive block) }, λ drive block. refl)

pub last_same : (t m : Tale) → WritesNothing t m → last m ≡ last t
last_same t m unwritten = λ i drive block. (unwritten.outside drive block refl).last i

module _ (g : Geometry) (site : Site) (identity : Identity) where
  nothing_goes : (t m : Tale) → WritesNothing t m → BootGoes g site identity (One []) [] (record { boot = 0; count = 0 }) [] AnyWorld AnyLog t m
  nothing_goes t m unwritten log covers known = record {
    es = [];
    course = tt;
    come = adds_none;
    traces = trace_weaker (Spells g) site identity log log Anything Anything Anything AnyWorld (λ es. es ≡ []) (AreOfBoot site (One []) [] []) t m (λ w k. k) (λ es none. inl none) (λ w k. tt) (trace_same (Spells g) site identity log Anything t m (leaves_same t m unwritten));
    after = tt;
  }

  rest_kept : (all : List Database) (t m : Tale) → WritesNothing t m → RestStands (Spells g) g all identity t → RestStands (Spells g) g all identity m
  rest_kept all t m unwritten = everywhere_kept (HoldsRest (Spells g) g all identity) t m unwritten.outside

  blank_kept : (t m : Tale) → WritesNothing t m → StayBlank g identity t m
  blank_kept t m unwritten key other another = everywhere_kept (ShowsNoTable (Spells g) (site_of g key) other) t m unwritten.outside

  pub nothing_written : (up : Drives) (t m : Tale) → WritesNothing t m → Writes up g site identity (One []) t m
  nothing_written up t m unwritten = record {
    seen = [];
    mark = record { boot = 0; count = 0 };
    seats = [];
    found = λ r has. absurd (omega (arith, has.1));
    shown = inl refl;
    within = unwritten_quiet (seats_area []) t m unwritten;
    goes = nothing_goes t m unwritten;
    rest = λ all. rest_kept all t m unwritten;
    blank = blank_kept t m unwritten;
  }

  -- a boot goes on so behind calls that wrote nothing
  pub goes_then : (lists : Lists) (seen : List Seen) (mark : Mark) (seated : List Spot) (Then : Core → Type 0) (After : Log → Type 0) (t u m : Tale) → WritesNothing t u → BootGoes g site identity lists seen mark seated Then After u m → BootGoes g site identity lists seen mark seated Then After t m
  goes_then lists seen mark seated Then After t u m unwritten goes log covers known =
      let covers_u : CoversWith (Spells g) site identity (λ image w. Anything w) log u = everywhere_kept (λ image. (w : Core) × IsWorld (Spells g) site identity log w image × Anything w) t u unwritten.outside covers in
      let to = goes log covers_u known in
      record {
        es = to.es;
        course = to.course;
        come = to.come;
        traces =
            trace_more (Spells g) site identity log log (log_after_all log to.es) Anything Anything Then (λ es. es ≡ []) (AreOfBoot site lists (spots_seen seen) seated) (AreOfBoot site lists (spots_seen seen) seated) t u m
            (λ es fs none are. subst (AreOfBoot site lists (spots_seen seen) seated) (sym (ap (λ (l : List Event). l ++ fs) none)) are) (trace_same (Spells g) site identity log Anything t u (leaves_same t u unwritten)) to.traces;
        after = to.after;
      }

  pub shown_before : (t u : Tale) → WritesNothing t u → HasShown g site identity u → HasShown g site identity t
  shown_before t u unwritten is = record { replica = is.replica; found = subst (λ (c : Contents). IsFoundIn g site c is.replica) (last_same t u unwritten) is.found; its = is.its; shown = is.shown }

  -- what was read then was read
  pub read_before : (up : Drives) (lists : Lists) (t u : Tale) → WritesNothing t u → (seen : List Seen) (mark : Mark) → WasReadOn up g site identity lists (last u) seen mark → WasReadOn up g site identity lists (last t) seen mark
  read_before up lists t u unwritten seen mark read = subst (λ (c : Contents). WasReadOn up g site identity lists c seen mark) (last_same t u unwritten) read

  module _ (up : Drives) (lists : Lists) (t u m : Tale) (unwritten : WritesNothing t u) where
    shown_then : (seen : List Seen) (mark : Mark) (seats : List Seat) → (seats ≡ []) ⊎ (HasShown g site identity u × WasReadOn up g site identity lists (last u) seen mark)
        → (seats ≡ []) ⊎ (HasShown g site identity t × WasReadOn up g site identity lists (last t) seen mark)
    shown_then seen mark seats (inl none) = inl none
    shown_then seen mark seats (inr is) = inr (shown_before t u unwritten is.0, read_before up lists t u unwritten seen mark is.1)

    pub writes_then : Writes up g site identity lists u m → Writes up g site identity lists t m
    writes_then w = record {
      seen = w.seen;
      mark = w.mark;
      seats = w.seats;
      found = λ r has. (let one = w.found r has in (subst (λ (c : Contents). IsFoundIn g site c r) (last_same t u unwritten) one.0, one.1));
      shown = shown_then w.seen w.mark w.seats w.shown;
      within = quiet_more (seats_area w.seats) t u m (unwritten_quiet (seats_area w.seats) t u unwritten) w.within;
      goes = goes_then lists w.seen w.mark (spots_of w.seats) AnyWorld AnyLog t u m unwritten w.goes;
      rest = λ all was. w.rest all (rest_kept all t u unwritten was);
      blank = λ key other another was. w.blank key other another (blank_kept t u unwritten key other another was);
    }

pub boot_before : (up : Drives) (g : Geometry) (site : Site) (answer : BootEnd) (t m : Tale) → WritesNothing t m → BootMomentOn up g site answer t m
boot_before up g site answer t m unwritten = record { quiet = unwritten_quiet (boot_area site (has_written answer)) t m unwritten; writes = by answer } where
  by : (a : BootEnd) → WritesFor up g site a t m
  by (end.Adopted o) = (One [], omega arith, nothing_written g site o.identity up t m unwritten)
  by end.Empty = tt
  by (end.TwoDatabases a b) = tt
  by (end.NoQuorum readable needed) = tt
  by (end.Lost active listed) = (record { fresh = 0; number = 0 }, One [], nothing_written g site (record { fresh = 0; number = 0 }) up t m unwritten)
  by end.Spent = tt
  by end.Memory = tt

-- behind that
module _ (up : Drives) (g : Geometry) (site : Site) (t u m : Tale) (unwritten : WritesNothing t u) where
  writes_for : (a : BootEnd) → WritesFor up g site a u m → WritesFor up g site a t m
  writes_for (end.Adopted o) w = (w.0, w.1, writes_then g site o.identity up w.0 t u m unwritten w.2)
  writes_for end.Empty w = tt
  writes_for (end.TwoDatabases a b) w = tt
  writes_for (end.NoQuorum readable needed) w = tt
  writes_for (end.Lost active listed) w = (w.0, w.1, writes_then g site w.0 up w.1 t u m unwritten w.2)
  writes_for end.Spent w = tt
  writes_for end.Memory w = tt

  pub boot_then : (answer : BootEnd) → BootMomentOn up g site answer u m → BootMomentOn up g site answer t m
  boot_then answer moment =
      record { quiet = quiet_more (boot_area site (has_written answer)) t u m (unwritten_quiet (boot_area site (has_written answer)) t u unwritten) moment.quiet; writes = writes_for answer moment.writes }

  booted_then : (failed : ℕ → Type 0) → AreLeftOut failed site up → (answer : BootEnd) → IfAdopted answer (λ o. IsBootedOn up g site o u m) → IfAdopted answer (λ o. IsBootedTo failed g site o t m)
  booted_then failed out (end.Adopted o) is = (
    up,
    out,
    record {
      shown = shown_before g site o.identity t u unwritten is.shown;
      opened = is.opened;
      lists = is.lists;
      marked = is.marked;
      seen = is.seen;
      mark = is.mark;
      read = read_before g site o.identity up is.lists t u unwritten is.seen is.mark is.read;
      seated = is.seated;
      goes = goes_then g site o.identity is.lists is.seen is.mark is.seated _ _ t u m unwritten is.goes;
    },
  )
  booted_then failed out end.Empty is = tt
  booted_then failed out (end.TwoDatabases a b) is = tt
  booted_then failed out (end.NoQuorum readable needed) is = tt
  booted_then failed out (end.Lost active listed) is = tt
  booted_then failed out end.Spent is = tt
  booted_then failed out end.Memory is = tt

-- what was found of some places was read
was_found : (survey : Survey) (newest : Newest) (replica : Replica) (places : List Place) (r : Replica) → Contains (replicas_of (seats_of survey.replicas replica.head.master.identity (blocks_for (record_bytes newest.table)) places)) r → Contains survey.replicas r
was_found survey newest replica places r has = (seated_at survey.replicas replica.head.master.identity (blocks_for (record_bytes newest.table)) places r has).1

-- an end that follows, as the failures are told from earlier on
end_as : (failed told : ℕ → Failures) (Wrote : Hand → Table → Progress → Type 0) (site : Site) (survey : Survey) → ((r : Replica) → Contains survey.replicas r → (failed (drive_of r)).some → (told (drive_of r)).some) → ((r : Replica) → Contains survey.replicas r → (failed (drive_of r)).none → (told (drive_of r)).none)
    → (answer : BootEnd) → IsEndBy failed Wrote site survey answer → IsEndBy told Wrote site survey answer
end_as failed told Wrote site survey some none (end.Adopted o) by =
    record {
      newest = by.newest;
      replica = by.replica;
      seats = by.seats;
      number = by.number;
      drawn = by.drawn;
      gone = by.gone;
      over = left_as failed told (TakesBoth by.number (record_bytes by.newest.table)) (TakesBoth by.number (record_bytes by.newest.table)) (gone_found survey by.newest by.replica) by.gone (λ r has. some r (was_found survey by.newest by.replica (gone_of by.newest.table.plan.lists) r has))
          (λ r has. none r (was_found survey by.newest by.replica (gone_of by.newest.table.plan.lists) r has)) (λ r m took. took) by.over;
      written = by.written;
      left = left_as failed told (TakesAll by.number by.newest.table) (TakesAll by.number by.newest.table) (last_found survey by.newest by.replica) o.seats (λ r has. some r (was_found survey by.newest by.replica (last_of by.newest.table.plan.lists) r has))
          (λ r has. none r (was_found survey by.newest by.replica (last_of by.newest.table.plan.lists) r has)) (λ r m took. took) by.left;
      enough = by.enough;
      is = by.is;
    }
end_as failed told Wrote site survey some none end.Empty by = by
end_as failed told Wrote site survey some none (end.TwoDatabases a b) by = by
end_as failed told Wrote site survey some none (end.NoQuorum readable needed) by = by
end_as failed told Wrote site survey some none (end.Lost active listed) by =
    record {
      newest = by.newest;
      replica = by.replica;
      seats = by.seats;
      number = by.number;
      drawn = by.drawn;
      progress = by.progress;
      written = by.written;
      short = short_at by.progress by.short;
    }
  where
    in_hand : (r : Replica) → Contains (replicas_of by.seats) r → Contains survey.replicas r
    in_hand r has = was_found survey by.newest by.replica (places_of by.newest.table.plan.lists) r (subst (λ (ss : List Seat). Contains (replicas_of ss) r) by.drawn.hand.seats_are has)

    short_as : (Took : Replica → Replica → Type 0) (lists : Lists) (seats now : List Seat) → ((r : Replica) → Contains (replicas_of seats) r → Contains survey.replicas r) → IsShortBy failed Took site.key lists seats now (record { active = active; listed = listed }) → IsShortBy told Took site.key lists seats now (record { active = active; listed = listed })
    short_as Took lists seats now has short = record {
      left = left_as failed told Took Took seats now (λ r in_seats. some r (has r in_seats)) (λ r in_seats. none r (has r in_seats)) (λ r m took. took) short.left;
      few = short.few;
    }

    short_at : (progress : Progress) → IsShortAt failed site.key by.number by.newest.table by.seats (last_found survey by.newest by.replica) (gone_found survey by.newest by.replica) progress (record { active = active; listed = listed })
        → IsShortAt told site.key by.number by.newest.table by.seats (last_found survey by.newest by.replica) (gone_found survey by.newest by.replica) progress (record { active = active; listed = listed })
    short_at (Claimed now) short = short_as (TakesClaim by.number) by.newest.table.plan.lists by.seats now in_hand short
    short_at (Rewritten now) short = short_as (TakesBoth by.number (record_bytes by.newest.table)) by.newest.table.plan.lists by.seats now in_hand short
    short_at (Settled now gone) (settles, short, over) = (
      settles,
      short_as (TakesAll by.number by.newest.table) (One (last_of by.newest.table.plan.lists)) (last_found survey by.newest by.replica) now (was_found survey by.newest by.replica (last_of by.newest.table.plan.lists)) short,
      left_as failed told (TakesBoth by.number (record_bytes by.newest.table)) (TakesBoth by.number (record_bytes by.newest.table)) (gone_found survey by.newest by.replica) gone (λ r has. some r (was_found survey by.newest by.replica (gone_of by.newest.table.plan.lists) r has))
          (λ r has. none r (was_found survey by.newest by.replica (gone_of by.newest.table.plan.lists) r has)) (λ r m took. took) over,
    )
end_as failed told Wrote site survey some none end.Spent by = by
end_as failed told Wrote site survey some none end.Memory by = tt

-- all of a list pass
pub count_all : {X : Type 0} (p : X → Bool) (xs : List X) → ((x : X) → Contains xs x → p x ≡ true) → count_by p xs ≡ length xs
count_all p [] all = refl
count_all p (x ∷ xs) all =
    let rest = count_all p xs (λ y has. all y (contains_behind x y xs has)) in
    omega (arith, count_cons p x xs, rest, ap (λ (b : Bool). cond {A = ℕ} b 1 0) (all x (contains_first x xs)))

-- Drives that were brought up.
module _ {S : Type 0} (shelf : Ghosts S) (site : Site) (old m1 : S) (up : Drives) (ups : AreUpBy (DriveFailures shelf old m1) site.drives up) (b_moments : AtEachTale shelf WritesNothing old m1) (b_end : AtEnd shelf (BringingEnds up site.drives) old m1)
    (b_counted : IsBringingCounted shelf old m1 site.drives up) (b_kept : KeptAmong shelf old m1 site.drives) where
  -- what is known as they are up
  pub record IsUp (t u : Tale) : Type 0 where
    pub unwritten : WritesNothing t u
    pub synced : AreSynced up u
    pub is : shelf.tale m1 ≡ Some u

  pub brought : AtEnd shelf IsUp old m1
  brought t told =
      let e = b_end t told in
      let m = moments_end WritesNothing (shelf.tale old) (shelf.tale m1) b_moments t told in
      let same : m.0 ≡ e.0 = some_is (shelf.tale m1) m.0 e.0 m.1 e.1 in
      (e.0, e.1, record { unwritten = subst (λ (u : Tale). WritesNothing t u) same m.2; synced = e.2.synced; is = e.1 })

  up_calm : (drive : DriveNo) → Contains site.drives drive → has_drive up drive ≡ true → shelf.faults m1 (OnDrive drive.0) ≡ shelf.faults old (OnDrive drive.0)
  up_calm drive one_of so = at_true _ _ (has_drive up drive) so (ups.each drive one_of)

  -- and looked at
  module _ (telling : (s : S) → shelf.tale s ≡ option_map tale_of (shelf.story s)) (g : Geometry) (m2 : S) (l_same : shelf.tale m2 ≡ shelf.tale m1) (l_few : MadeFew shelf m1 m2 ((1 + count_by (has_drive up) site.drives) * (765 * length site.lines)))
      (l_kept : KeptAmong shelf m1 m2 site.drives) where
    pub look_kept : KeptAmong shelf old m2 site.drives
    look_kept = among_silent shelf telling m1 m2 site.drives l_kept l_same old b_kept

    looks_few : MadeFew shelf old m2 (2 * length site.drives + most_reads site)
    looks_few =
        let few = count_length (has_drive up) site.drives in
        let larger : 1 + count_by (has_drive up) site.drives ≤ 1 + length site.drives = omega (arith, few) in
        let product = mul-le-mul_left (765 * length site.lines) larger in
        few_more shelf old m1 m2 (2 * length site.drives) ((1 + count_by (has_drive up) site.drives) * (765 * length site.lines)) _ (omega (arith, product)) (b_counted.calls, b_counted.by.most, b_counted.made) l_few

    looks_most : MadeCallsBetween shelf old m2 0 (2 * length site.drives + most_reads site) 0
    looks_most = reads_between shelf old m2 looks_few.0 0 (2 * length site.drives + most_reads site) (omega arith) looks_few.1 looks_few.2

    -- memory was wanting
    module _ (answer : Booted) (end_is : answer.end ≡ end.Memory) (up_is : answer.up ≡ up) (clean_is : answer.clean ≡ false) where
      pub wanting : IsBooted shelf old m2 g site answer
      wanting = record {
        brought = record {
          ready = m1;
          up = subst (λ (d : Drives). AreUpBy (DriveFailures shelf old m1) site.drives d) (sym up_is) ups;
          ends = subst (λ (d : Drives). AtEnd shelf (BringingEnds d site.drives) old m1) (sym up_is) b_end;
          counted = subst (λ (d : Drives). IsBringingCounted shelf old m1 site.drives d) (sym up_is) b_counted;
          before = b_kept;
          behind = l_kept;
        };
        ended = inl (ap is_memory end_is);
        once = inl (ap is_memory end_is);
        clean = subst (λ (b : Bool). MatchBool b ((is_memory answer.end ≡ false) × ((drive : DriveNo) → Contains site.drives drive → (DriveFailures shelf old m2 drive.0).none)) ((is_memory answer.end ≡ true) ⊎ ((drive : DriveNo) × Contains site.drives drive × (DriveFailures shelf old m2 drive.0).some)))
            (sym clean_is) (inl (ap is_memory end_is));
        laid = subst (λ (e : BootEnd). IfAdopted e (λ o. AreLaid (shelf.sizes old) o.seats)) (sym end_is) tt;
        lettered = subst (λ (e : BootEnd). IfAdopted e (λ o. places_seen answer.letters ≡ places_of o.table.plan.lists)) (sym end_is) tt;
      }

      abbrev HadFailed : ℕ → Type 0
      HadFailed drive = (DriveFailures shelf old m2 drive).some

      pub wanting_moments : AtEachTale shelf (BootMoment HadFailed g site answer.end) old m2
      wanting_moments =
          subst (λ (o : Option Tale). Moments (BootMoment HadFailed g site answer.end) (shelf.tale old) o) (sym l_same)
          (moments_weaker WritesNothing (BootMoment HadFailed g site answer.end) (shelf.tale old) (shelf.tale m1) (λ t m unwritten. (no_drives, λ wrote. absurd (cc (wrote, ap has_written end_is)), boot_before no_drives g site answer.end t m unwritten)) b_moments)

      pub wanting_ends : AtEnd shelf (BootEnds (λ drive. (DriveFailures shelf old m2 drive).some) g site answer) old m2
      wanting_ends t told =
          let u = brought t told in (
            u.0,
            l_same ∙ u.1,
            record {
              adopted = subst (λ (e : BootEnd). IfAdopted e (λ o. IsBootedTo HadFailed g site o t u.0)) (sym end_is) tt;
              empty = λ e so. absurd (cc (so, clean_is));
              synced = λ enough. absurd (cc (enough, ap is_memory end_is));
              still = λ drive block so out. u.2.synced drive (sym (ap (λ (d : Drives). has_drive d drive) up_is) ∙ so) block;
            },
          )

      pub wanting_counted : IsBootCounted shelf old m2 g site answer
      wanting_counted = record {
        most = between_wider shelf.calls shelf.written old m2 0 (2 * length site.drives + most_reads site) 0 0 (2 * length site.drives + most_reads site + most_calls) most_blocks (omega arith) (omega arith) (omega arith) looks_most;
        still = λ unwritten. looks_most;
        clean = λ so. absurd (cc (so, clean_is));
      }

    -- what was read was made something of
    module _ (sound : IsSound g) (on : IsOnShelf (shelf.sizes old) site) (of_site : site ≡ site_of g site.key) (looked : Looked) (at : IsLookedAt shelf m1 m2 g site up looked) (l_some : MadeFew shelf m1 m2 (reads_by site up looked.calm)) (new : S) (taken : Taken) (answer : IsTaken shelf m2 new site looked taken)
        (t_kept : KeptAmong shelf m2 new (drives_read looked.survey.replicas)) (calm : Bool) (all : AreAllIn calm site.drives looked.calm) (clean : Bool) (clean_is : clean ≡ (calm && (taken.calm && not (is_memory taken.end)))) (letters : List Lettered) (letters_are : AreLettersOf site looked.survey looked.calm letters)
        (once : AreAllCalm site up looked.calm → (t : Tale) → shelf.tale m1 ≡ Some t → (n : ℕ) × MadeReads shelf m1 m2 n × AreLinesBy g site up no_drives (last t) site.lines n) where
      abbrev faults_at : S → DriveNo → ℕ
      faults_at s drive = shelf.faults s (OnDrive drive.0)

      looks_some : MadeFew shelf old m2 (2 * length site.drives + reads_by site up looked.calm)
      looks_some = few_more shelf old m1 m2 (2 * length site.drives) (reads_by site up looked.calm) _ (omega arith) (b_counted.calls, b_counted.by.most, b_counted.made) l_some

      calm_up : (drive : DriveNo) → has_drive looked.calm drive ≡ true → has_drive up drive ≡ true
      calm_up = at.calm.is_up

      -- no call failed on a drive that answered every read
      calm_faults : (drive : DriveNo) → has_drive looked.calm drive ≡ true → faults_at m2 drive ≡ faults_at old drive
      calm_faults drive so =
          let one_of = at.calm.only drive so in
          let is_up = calm_up drive so in
          at_true _ _ (has_drive looked.calm drive) so (at.calm.each drive one_of is_up) ∙ up_calm drive one_of is_up

      -- by then just one call had failed on each other one
      once_by : (s : S) → AreCalmBy shelf m1 s site.drives up looked.calm → (drive : DriveNo) → Contains site.drives drive → has_drive looked.calm drive ≡ false → (DriveFailures shelf old s drive.0).some
      once_by s calm_by drive one_of out = elim (cases_bool (has_drive up drive)) [
        | inl is_up ↦ subst (λ (n : ℕ). RoseOnce n (faults_at s drive)) (up_calm drive one_of is_up) (at_false _ _ (has_drive looked.calm drive) out (calm_by.each drive one_of is_up))
        | inr down ↦ subst (λ (n : ℕ). RoseOnce (faults_at old drive) n) (sym (calm_by.down drive down)) (at_false _ _ (has_drive up drive) down (ups.each drive one_of))
      ]

      read_calm : (r : Replica) → Contains looked.survey.replicas r → has_drive looked.calm r.line.at.drive ≡ true
      read_calm r has = (at.survey.each r has).is_up

      read_faults : (r : Replica) → Contains looked.survey.replicas r → shelf.faults m2 (OnDrive (drive_of r)) ≡ shelf.faults old (OnDrive (drive_of r))
      read_faults r has = calm_faults r.line.at.drive (read_calm r has)

      read_within : (drive : DriveNo) → Contains (drives_read looked.survey.replicas) drive → Contains site.drives drive
      read_within drive has = (let r = unmapped (λ (x : Replica). x.line.at.drive) looked.survey.replicas drive has in subst (Contains site.drives) r.2 (on.brought r.0.line (at.survey.each r.0 r.1).seated.one_of))

      looked_faults : (drive : DriveNo) → Contains (drives_read looked.survey.replicas) drive → faults_at m2 drive ≡ faults_at m1 drive
      looked_faults drive has =
          let r = unmapped (λ (x : Replica). x.line.at.drive) looked.survey.replicas drive has in
          let so = read_calm r.0 r.1 in
          let read = r.0.line.at.drive in
          subst (λ (d : DriveNo). faults_at m2 d ≡ faults_at m1 d) r.2 (at_true _ _ (has_drive looked.calm read) so (at.calm.each read (at.calm.only read so) (calm_up read so)))

      -- behind the look no call was made on a drive that doesn't count
      kept_out : (drive : DriveNo) → has_drive looked.calm drive ≡ false → faults_at new drive ≡ faults_at m2 drive
      kept_out drive out = t_kept.others (OnDrive drive.0) (λ among.
          let r = unmapped (λ (x : Replica). x.line.at.drive) looked.survey.replicas among.0 among.1 in
          let same : OnDrive drive.0 ≡ OnDrive among.0.0 = among.2 in
          let number : drive.0 ≡ among.0.0 = cc (same) in
          let is : drive ≡ r.0.line.at.drive = (λ i. record { 0 = number i }) ∙ sym r.2 in
          cc (sym out ∙ ap (has_drive looked.calm) is, read_calm r.0 r.1))

      out_once : (drive : DriveNo) → Contains site.drives drive → has_drive looked.calm drive ≡ false → (DriveFailures shelf old new drive.0).some
      out_once drive one_of out = subst (λ (n : ℕ). RoseOnce (faults_at old drive) n) (sym (kept_out drive out)) (once_by m2 at.calm drive one_of out)

      -- what was read, as the looks ended
      was_read : (t u : Tale) → IsUp t u → WasRead g site looked u
      was_read t u is = record { sound = sound; site_is = of_site; of = at.of u is.is; synced = λ r has. is.synced r.line.at.drive (calm_up r.line.at.drive (read_calm r has)); on = read_calm; none = at.none }

      calm_of : clean ≡ true → calm ≡ true
      calm_of so = and_first calm (taken.calm && not (is_memory taken.end)) (sym clean_is ∙ so)

      taken_calm : clean ≡ true → taken.calm ≡ true
      taken_calm so = and_first taken.calm (not (is_memory taken.end)) (and_second calm (taken.calm && not (is_memory taken.end)) (sym clean_is ∙ so))

      -- so what was written of it is told from the beginning
      wrote_told : (hand : Hand) (table : Table) (progress : Progress) → WroteBy shelf m2 new site looked taken.calm hand table progress → WroteFor shelf old m2 new g site clean hand table progress
      wrote_told hand table progress wrote = record { rewrites = record { moments = wrote.rewrites.moments; wrote = wrote.rewrites.wrote; made = wrote.rewrites.made; exact = λ so. wrote.rewrites.exact (taken_calm so); written = wrote.rewrites.written }; shows = λ t told. (let u = brought t told in let e = wrote.shows u.0 (l_same ∙ u.1) in (e.0, e.1, e.2 g (was_read t u.0 u.2))) }

      told_end : IsEndBy (DriveFailures shelf m2 new) (WroteBy shelf m2 new site looked taken.calm) site looked.survey taken.end → IsEndBy (DriveFailures shelf old new) (WroteFor shelf old m2 new g site clean) site looked.survey taken.end
      told_end by = wrote_more (DriveFailures shelf old new) (WroteBy shelf m2 new site looked taken.calm) (WroteFor shelf old m2 new g site clean) wrote_told site looked.survey taken.end (end_as (DriveFailures shelf m2 new) (DriveFailures shelf old new) (WroteBy shelf m2 new site looked taken.calm) site looked.survey
          (λ r has some. subst (λ (n : ℕ). RoseOnce n (shelf.faults new (OnDrive (drive_of r)))) (read_faults r has) some) (λ r has none. none ∙ read_faults r has) taken.end by)

      all_calm : calm ≡ true → (drive : DriveNo) → Contains site.drives drive → has_drive looked.calm drive ≡ true
      all_calm so drive one_of = All-contains (λ (d : DriveNo). has_drive looked.calm d ≡ true) site.drives drive (at_true _ _ calm so all) one_of

      clean_by : (a b c : Bool) → MatchBool a (All (λ drive. has_drive looked.calm drive ≡ true) site.drives) ((drive : DriveNo) × Contains site.drives drive × (has_drive looked.calm drive ≡ false)) → IsCalmOver shelf m2 new looked.survey.replicas b → is_memory taken.end ≡ c
          → MatchBool (a && (b && not c)) ((is_memory taken.end ≡ false) × ((drive : DriveNo) → Contains site.drives drive → (DriveFailures shelf old new drive.0).none))
          ((is_memory taken.end ≡ true) ⊎ ((drive : DriveNo) × Contains site.drives drive × (DriveFailures shelf old new drive.0).some))
      clean_by true true true fine none memory = inl memory
      clean_by true true false fine none memory = (memory, λ drive one_of. none drive ∙ calm_faults drive (All-contains (λ (d : DriveNo). has_drive looked.calm d ≡ true) site.drives drive fine one_of))
      clean_by true false c fine lost memory =
          let r = lost.0 in
          let listed = at.survey.each r lost.1 in
          inr (r.line.at.drive, on.brought r.line listed.seated.one_of, subst (λ (n : ℕ). RoseOnce n (shelf.faults new (OnDrive (drive_of r)))) (read_faults r lost.1) lost.2)
      clean_by false b c out none memory = inr (out.0, out.1, out_once out.0 out.1 out.2)

      -- where none failed the looks read each head and each body once
      looks_exact : clean ≡ true → (t : Tale) → shelf.tale old ≡ Some t → (n : ℕ) × MadeReads shelf old m2 (2 * length site.drives + n) × AreLinesBy g site up no_drives (last t) site.lines n
      looks_exact so t told =
          let is_calm = calm_of so in
          let u = brought t told in
          let one = once (λ drive one_of is_up. all_calm is_calm drive one_of) u.0 u.1 in
          let every = count_all (has_drive up) site.drives (λ drive one_of. calm_up drive (all_calm is_calm drive one_of)) in
          let calls : b_counted.calls ≡ 2 * length site.drives = omega (arith, every, b_counted.by.least, b_counted.by.most) in
          let brought_by : MadeReads shelf old m1 (2 * length site.drives) = subst (λ (n : ℕ). MadeReads shelf old m1 n) calls b_counted.made in (
            one.0,
            reads_more shelf old m1 m2 (2 * length site.drives) one.0 (2 * length site.drives + one.0) refl brought_by one.1,
            subst (λ (c : Contents). AreLinesBy g site up no_drives c site.lines one.0) (last_same t u.0 u.2.unwritten) one.2,
          )

      abbrev made : Booted
      made = record { end = taken.end; up = up; clean = clean; letters = letters }

      abbrev brought_so : WasBroughtUp shelf old new site made
      brought_so = record {
        ready = m1;
        up = ups;
        ends = b_end;
        counted = b_counted;
        before = b_kept;
        behind = among_calm shelf m1 m2 new site.drives (drives_read looked.survey.replicas) read_within looked_faults l_kept t_kept;
      }

      abbrev read_at : IsReadAt shelf old new g site made looked.survey
      read_at = record {
        begun = at.last_look.begun;
        looked = m2;
        unwritten = subst (λ (o : Option Tale). Moments WritesNothing (shelf.tale old) o) (sym l_same) b_moments;
        before = look_kept;
        brought = brought_so;
        looks = at.last_look.looks;
        reads = looks_some;
        exact = looks_exact;
        behind = among_wider shelf m2 new (drives_read looked.survey.replicas) site.drives read_within t_kept;
        answered = calm_faults;
        calm = looked.calm;
        up = calm_up;
        failed = λ drive one_of out. (once_by at.last_look.begun at.last_look.before drive one_of out, out_once drive one_of out);
        once = λ t told. (
            let u = brought t told in
            let one = at.last_look.once u.0 u.1 in
            (one.0, one.1, subst (λ (c : Contents). AreLinesBy g site looked.calm no_drives c site.lines one.0) (last_same t u.0 u.2.unwritten) one.2));
        still = answer.still;
        survey_is = at.survey;
        of = λ t told. (
            let u = brought t told in
            subst (λ (c : Contents). IsSurveyOf g site looked.calm c looked.survey) (last_same t u.0 u.2.unwritten) (at.of u.0 u.2.is));
        none = at.none;
      }

      ended_by : (is_memory taken.end ≡ true) ⊎ IsEndBy (DriveFailures shelf m2 new) (WroteBy shelf m2 new site looked taken.calm) site looked.survey taken.end
          → (is_memory taken.end ≡ true) ⊎ ((survey : Survey) × (at_look : IsReadAt shelf old new g site made survey) × IsEndBy (DriveFailures shelf old new) (WroteFor shelf old at_look.looked new g site clean) site survey taken.end × AreLettersOf site survey at_look.calm letters)
      ended_by (inl memory) = inl memory
      ended_by (inr by) = inr (looked.survey, read_at, told_end by, letters_are)

      each_once : (drive : DriveNo) → Contains site.drives drive → IsOnce (DriveFailures shelf old new drive.0)
      each_once drive one_of = elim (cases_bool (has_drive looked.calm drive)) [
        | inl so ↦ elim (answer.once drive) [
          | inl none ↦ inl (none ∙ calm_faults drive so)
          | inr some ↦ inr (subst (λ (n : ℕ). RoseOnce n (faults_at new drive)) (calm_faults drive so) some)
        ]
        | inr out ↦ inr (out_once drive one_of out)
      ]

      pub booted : IsBooted shelf old new g site made
      booted = record {
        brought = brought_so;
        ended = ended_by answer.ended;
        once = inr each_once;
        clean = subst (λ (b : Bool). MatchBool b ((is_memory taken.end ≡ false) × ((drive : DriveNo) → Contains site.drives drive → (DriveFailures shelf old new drive.0).none)) ((is_memory taken.end ≡ true) ⊎ ((drive : DriveNo) × Contains site.drives drive × (DriveFailures shelf old new drive.0).some)))
            (sym clean_is) (clean_by calm taken.calm (is_memory taken.end) all answer.calm refl);
        laid = subst (λ (sizes : List ℕ). IfAdopted taken.end (λ o. AreLaid sizes o.seats)) look_kept.keeps.same_sizes answer.laid;
        lettered = of_ended (DriveFailures shelf m2 new) (WroteBy shelf m2 new site looked taken.calm) site looked.survey looked.calm letters letters_are taken.end answer.ended;
      }

      abbrev HasFailed : ℕ → Type 0
      HasFailed drive = (DriveFailures shelf old new drive).some

      pub all_moments : AtEachTale shelf (TakingMoment site looked taken.end) m2 new → AtEachTale shelf (BootMoment HasFailed g site taken.end) old new
      all_moments taking =
          moments_after WritesNothing IsUp (TakingMoment site looked taken.end) (BootMoment HasFailed g site taken.end) (shelf.tale old) (shelf.tale m1) (shelf.tale new) (λ t m unwritten. (looked.calm, λ wrote. out_once, boot_before looked.calm g site taken.end t m unwritten))
          (λ t u m is moment. (looked.calm, λ wrote. out_once, boot_then looked.calm g site t u m is.unwritten taken.end (moment g (was_read t u is)))) b_moments brought (subst (λ (o : Option Tale). Moments (TakingMoment site looked taken.end) o (shelf.tale new)) l_same taking)

      -- nothing shows a table, where nothing was found and all answered
      nothing_shown : (t u : Tale) → IsUp t u → looked.survey.newest ≡ None → calm ≡ true → Everywhere (λ image. (identity : Identity) → ShowsNoTable (Spells g) site identity image) u
      nothing_shown t u is none so image im identity line k first head own =
          let drive = line.at.drive in
          let here = all_calm so drive (on.brought line own.found.one_of) in
          let r : Replica = record { line = line; number = k; first = first; head = head } in
          let found = subst (λ (c : ℕ → List ℕ). IsFound (Spells g) site line k c first head) (image_synced drive.0 u (is.synced drive (calm_up drive here)) image im) own.found in
          let has = (at.of u is.is).all r found (yes_not (has_drive looked.calm drive) (has_drive looked.survey.failed drive) here (at.none drive here)) in
          subst (λ (o : Option Newest). IsMarked looked.survey.replicas o) none at.survey.marked r has

      empty_by : (is_memory taken.end ≡ true) ⊎ IsEndBy (DriveFailures shelf m2 new) (WroteBy shelf m2 new site looked taken.calm) site looked.survey taken.end → taken.end ≡ end.Empty → looked.survey.newest ≡ None
      empty_by (inl memory) is = absurd (cc (memory, ap is_memory is))
      empty_by (inr by) is = none_newest looked.survey (subst (λ (e : BootEnd). IsEndBy (DriveFailures shelf m2 new) (WroteBy shelf m2 new site looked taken.calm) site looked.survey e) is by)

      pub all_ends : AtEachTale shelf (TakingMoment site looked taken.end) m2 new → AtEnd shelf (TakingEnds site looked taken.end) m2 new → AtEnd shelf (StaySynced shelf m2 new) m2 new → AtEnd shelf (BootEnds (λ drive. (DriveFailures shelf old new drive).some) g site made) old new
      all_ends moments taking stays t told =
          let u = brought t told in
          let here : shelf.tale m2 ≡ Some u.0 = l_same ∙ u.1 in
          let w = taking u.0 here in
          let s = stays u.0 here in
          let m = moments_end (TakingMoment site looked taken.end) (shelf.tale m2) (shelf.tale new) moments u.0 here in
          let last_one : m.0 ≡ w.0 = some_is (shelf.tale new) m.0 w.0 m.1 w.1 in
          let same : s.0 ≡ w.0 = some_is (shelf.tale new) s.0 w.0 s.1 w.1 in (
            w.0,
            w.1,
            record {
              adopted = booted_then looked.calm g site t u.0 w.0 u.2.unwritten HasFailed out_once taken.end (w.2 g (was_read t u.0 u.2));
              empty = λ is so. (
                  let nothing = nothing_shown t u.0 u.2 (empty_by answer.ended is) (calm_of so) in
                  let still : new ≡ m2 = answer.still (ap has_written is) in
                  let at_rest : u.0 ≡ w.0 = some_is (shelf.tale new) u.0 w.0 (ap shelf.tale still ∙ here) w.1 in
                  subst (λ (x : Tale). Everywhere (λ image. (identity : Identity) → ShowsNoTable (Spells g) site identity image) x) at_rest nothing);
              synced = λ enough drive one_of never. (
                  let is_calm = calm_where drive one_of never in
                  subst (λ (x : Tale). IsSynced drive.0 x) same
                  (s.2 drive (u.2.synced drive (calm_up drive is_calm)) (λ some. never (subst (λ (n : ℕ). RoseOnce n (faults_at new drive)) (calm_faults drive is_calm) some))));
              still = λ drive block so out x left. (
                  let kept = (subst (λ (v : Tale). BootMomentOn looked.calm g site taken.end u.0 v) last_one (m.2 g (was_read t u.0 u.2))).quiet.outside drive.0 block out in
                  u.2.synced drive so block x (kept.left x left) ∙ sym (λ i. kept.last i));
            },
          )
        where
          calm_where : (drive : DriveNo) → Contains site.drives drive → ((DriveFailures shelf old new drive.0).some → ⊥) → has_drive looked.calm drive ≡ true
          calm_where drive one_of never = elim (cases_bool (has_drive looked.calm drive)) [ inl so ↦ so | inr out ↦ absurd (never (out_once drive one_of out)) ]

      pub all_kept : KeptAmong shelf old new site.drives
      all_kept = among_calm shelf old m2 new site.drives (drives_read looked.survey.replicas)
          read_within
          (λ drive has. (let r = unmapped (λ (x : Replica). x.line.at.drive) looked.survey.replicas drive has in subst (λ (d : DriveNo). shelf.faults m2 (OnDrive d.0) ≡ shelf.faults old (OnDrive d.0)) r.2 (read_faults r.0 r.1))) look_kept t_kept

      -- the calls of one on which none failed
      zero_more : (k : ℕ) → 0 + k ≡ k
      zero_more k = omega arith

      counted_by : (e : BootEnd) → (n : ℕ) → MadeReads shelf old m2 n → (has_written e ≡ false → new ≡ m2) → IfAdopted e (IsAnewCounted (MadeCalls shelf m2 new) 0) → IsEndCounted shelf old new n e
      counted_by (end.Adopted o) n read still took = record { table = took.table; found = took.found; is = took.is; marked = took.marked; one = took.one; made = reads_then shelf old m2 new n _ _ read (subst (λ (k : ℕ). MadeCalls shelf m2 new k ((3 + blocks_for (record_bytes took.table)) * took.found + (2 + blocks_for (record_bytes o.table)) * (settles took.table.plan.lists * active_of o.seats))) (zero_more (8 * took.found + 6 * (settles took.table.plan.lists * active_of o.seats))) took.made) }
      counted_by end.Empty n read still took = subst (λ (s : S). MadeReads shelf old s n) (sym (still refl)) read
      counted_by (end.TwoDatabases a b) n read still took = subst (λ (s : S). MadeReads shelf old s n) (sym (still refl)) read
      counted_by (end.NoQuorum readable needed) n read still took = subst (λ (s : S). MadeReads shelf old s n) (sym (still refl)) read
      counted_by (end.Lost active listed) n read still took = tt
      counted_by end.Spent n read still took = subst (λ (s : S). MadeReads shelf old s n) (sym (still refl)) read
      counted_by end.Memory n read still took = tt

      pub all_counted : IsTakingCounted shelf m2 new taken → IsBootCounted shelf old new g site made
      all_counted counted = record {
        most = between_then shelf.calls shelf.written old m2 new 0 (2 * length site.drives + most_reads site) 0 0 most_calls most_blocks 0 (2 * length site.drives + most_reads site + most_calls) most_blocks (omega arith) (omega arith) (omega arith) looks_most counted.most;
        still = λ unwritten. subst (λ (s : S). MadeCallsBetween shelf old s 0 (2 * length site.drives + most_reads site) 0) (sym (answer.still unwritten)) looks_most;
        clean = λ so t told. (let looks = looks_exact so t told in (looks.0, looks.2, counted_by taken.end (2 * length site.drives + looks.0) looks.1 answer.still (counted.calm (taken_calm so))));
      }
