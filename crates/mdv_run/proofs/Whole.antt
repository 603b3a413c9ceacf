-- A whole run: its boot, and the lines behind it.
use Rattle.std.specs.Option.{option_map}
use Rattle.mdv_base.specs.declared.drive.DriveNo.{DriveNo}
use Rattle.mdv_shelf.specs.Calls.{OnDrive, OnReplies}
use Rattle.mdv_shelf.specs.Drives.{KeptAmong}
use Rattle.mdv_shelf.specs.Shelves.{AtEachTale, AtEnd, GoesOn, KeptInTime}
use Rattle.mdv_run.proofs.Keeping.{replies_apart}
use Rattle.mdv_shelf.specs.Story.{Story, tale_of}
use Rattle.mdv_shelf.specs.declared.shelf.Shelf.{Ghosts}
use Rattle.mdv_shelf.proofs.Moments.{moments_end, some_is}
use Rattle.mdv_engine_law.specs.Line.{IsSame}
use Rattle.mdv_run.specs.Below.{counts}
use Rattle.mdv_base.proofs.Causes.{rose_of_once}
use Rattle.mdv_engine.specs.Ends.{IsBootEnd}
use Rattle.mdv_engine_law.specs.Line.{answered_by, opened_by}
use Rattle.mdv_engine_law.specs.declared.answer.Answer.TheVariants.{Over}
use Rattle.mdv_shelf.specs.Failing.{Outcomes}
use Rattle.mdv_shelf.specs.Made.{Made, effort_of, made_between}
use Rattle.mdv_store.specs.Booting.{has_written}
use Rattle.mdv_store.specs.declared.booting.BootEnd.TheVariants as end
use Rattle.mdv_store.specs.declared.booting.BootEnd.{BootEnd}
use Rattle.mdv_shelf.specs.Story.{Effort}
use Rattle.mdv_engine_law.specs.Efforts.{BootCalls}
use Rattle.mdv_engine_law.specs.Standing.{BootMoment}
use Rattle.mdv_shelf.specs.Area.{KeptOutside, nowhere}
use Rattle.mdv_shelf.specs.Moments.{IsSince}
use Rattle.mdv_run_law.specs.Run.{FromTo}
use Rattle.mdv_run.specs.Promise.{between}
use Rattle.std.proofs.Common.{◌≡◌, ◌⊎◌, inl, inr, ℕ, List, [], ◌++◌, Option, None, Some, Err, refl, sym, subst, ◌∙◌, ap, false}
use Rattle.std.proofs.lemmas.List.{append-nil}
use Rattle.mdv_run.specs.Below.{BootedTo, Script, Tale, site_area, told, Ended, Host, Memory, IsRebooted, kept_at, unbooted, HasBootCause, boot_answer, RunStatus, Counts, Stretch, IsWholeRun, HasStatusCause}
use Rattle.mdv_engine_law.specs.Line.{contents}
use Rattle.mdv_run_law.specs.Run.{IsLostStatus, IsPoint, RoseCalmly, drive_failures, status_at}
use Rattle.mdv_engine_law.specs.Answers.{EndsUnwritten, accepted}
use Rattle.mdv_engine_law.specs.declared.answer.Ended.TheVariants as ended
use Rattle.mdv_run.specs.Turns.{LinesRun}

module _ (host : Host) (stretch : Stretch) (start : Counts) (t : Tale) (script : Script) (tale : Option Tale) where
  -- a run that is over with its boot
  pub whole_over : (T : Type 0) (end : Counts) → RoseCalmly start end → (u : Tale) (memory : Memory) (r : Ended) → IsPoint stretch start.source end (record { story = stretch.new; effort = stretch.after.effort }) (contents u) → tale ≡ Some u → told u ≡ told t → IsRebooted (drive_failures start end) host (kept_at (unbooted 0) t) (boot_answer {T = T} (Err r)) (kept_at memory u)
      → BootCalls (drive_failures start end) (made_between stretch.before.effort stretch.after.effort) host (boot_answer {T = T} (Err r)) memory (contents t) → FromTo (KeptOutside (site_area host.site)) stretch.old stretch.new → (EndsUnwritten (boot_answer {T = T} (Err r)) → FromTo (KeptOutside nowhere) stretch.old stretch.new) → IsWholeRun host stretch start end t script tale (status_at r)
  whole_over T end rose u memory r point is quiet rebooted calls writes unread = record {
    u = u;
    tells = is;
    more = [];
    is_told = quiet ∙ sym (append-nil (told t));
    last = kept_at memory u;
    left = record { content = λ drive block. refl; opened = λ known. absurd (known (lost r)) };
    runs = record { answer = boot_answer {T = T} (Err r); booted = end; rose = rose; kept = kept_at memory u; boots = rebooted; by = record { story = stretch.new; effort = stretch.after.effort }; calls = calls; writes = writes; unwritten = unwritten; point = point; leads = λ said. absurd (cc (said)); runs = (refl, record { quiet = refl; uncalled = refl }, record { silent = refl; ended = refl; keeps = refl }) };
  } where
    lost : (r : Ended) → IsLostStatus (status_at r)
    lost (ended.Lost active listed) = tt
    lost (ended.NoQuorum readable needed) = tt
    lost (ended.TwoDatabases a b) = tt
    lost ended.Spent = tt
    lost ended.Memory = tt

    unwritten : EndsUnwritten (boot_answer {T = T} (Err r)) ⊎ ((boot_answer {T = T} (Err r) ≡ accepted) × (memory.opened ≡ None)) → FromTo (KeptOutside nowhere) stretch.old stretch.new
    unwritten (inl reads) = unread reads
    unwritten (inr none) = absurd (cc (none.0))

  -- a run that goes on to its lines
  pub whole_lines : (mid end : Counts) → RoseCalmly start mid → (u v : Tale) (memory : Memory) (status : RunStatus) (story : Option Story) (effort : Effort) → IsPoint stretch start.source mid (record { story = story; effort = effort }) (contents u) → tale ≡ Some v → told u ≡ told t → IsRebooted (drive_failures start mid) host (kept_at (unbooted 0) t) accepted (kept_at memory u) → BootCalls (drive_failures start mid) (made_between stretch.before.effort effort) host accepted memory (contents t) → FromTo (KeptOutside (site_area host.site)) stretch.old story → (memory.opened ≡ None → FromTo (KeptOutside nowhere) stretch.old story)
      → FromTo (λ x y. BootedTo host memory x y × IsSince x y) stretch.old story → LinesRun host stretch (record { counts = mid; story = story; effort = effort }) end memory false script status u v → IsWholeRun host stretch start end t script tale status
  whole_lines mid end rose u v memory status story effort point is quiet rebooted calls writes empty leads lines = record {
    u = v;
    tells = is;
    more = lines.more;
    is_told = lines.is_told ∙ ap (λ (l : List ℕ). l ++ lines.more) quiet;
    last = lines.last;
    left = lines.left;
    runs = record { answer = accepted; booted = mid; rose = rose; kept = kept_at memory u; boots = rebooted; by = record { story = story; effort = effort }; calls = calls; writes = writes; unwritten = unwritten; point = point; leads = λ said s u is_s is_u. leads s u is_s is_u; runs = lines.runs };
  } where
    unwritten : EndsUnwritten accepted ⊎ ((accepted ≡ accepted) × (memory.opened ≡ None)) → FromTo (KeptOutside nowhere) stretch.old story
    unwritten (inl reads) = absurd reads
    unwritten (inr none) = empty none.1

-- the blocks that a boot wrote
pub boot_writes : {S : Type 0} (shelf : Ghosts S) (telling : (s : S) → shelf.tale s ≡ option_map tale_of (shelf.story s)) (host : Host) (a b : S) → AtEachTale shelf (BootMoment host) a b → FromTo (KeptOutside (site_area host.site)) (shelf.story a) (shelf.story b)
boot_writes shelf telling host a b moments s u is_s is_u =
    let end = moments_end (BootMoment host) (shelf.tale a) (shelf.tale b) moments (tale_of s) (telling a ∙ ap (λ (o : Option Story). option_map tale_of o) is_s) in
    subst (KeptOutside (site_area host.site) (tale_of s)) (some_is (shelf.tale b) end.0 (tale_of u) end.1 (telling b ∙ ap (λ (o : Option Story). option_map tale_of o) is_u)) end.2.kept

-- a boot that found no database, or ended the run without being lost, has written nothing
empty_unwritten : (end : BootEnd) → accepted ≡ answered_by end → opened_by end ≡ None → has_written end ≡ false
empty_unwritten (end.Adopted o) is none = absurd (cc (none))
empty_unwritten end.Empty is none = refl
empty_unwritten (end.TwoDatabases a b) is none = refl
empty_unwritten (end.NoQuorum readable needed) is none = refl
empty_unwritten (end.Lost active listed) is none = absurd (cc (is))
empty_unwritten end.Spent is none = refl
empty_unwritten end.Memory is none = refl

lost_unwritten : (e : Ended) (end : BootEnd) → Over e ≡ answered_by end → EndsUnwritten (Over e) → has_written end ≡ false
lost_unwritten e (end.Adopted o) is never = absurd (cc (is))
lost_unwritten e end.Empty is never = refl
lost_unwritten e (end.TwoDatabases a b) is never = refl
lost_unwritten e (end.NoQuorum readable needed) is never = refl
lost_unwritten e (end.Lost active listed) is never = absurd (subst EndsUnwritten is never)
lost_unwritten e end.Spent is never = refl
lost_unwritten e end.Memory is never = refl

pub ended_unwritten : {calls : Outcomes} {made : Made} {host : Host} {old new : Memory} {t u : Tale} (e : Ended) → IsBootEnd calls made host old (Over e) new t u → EndsUnwritten (Over e) → KeptOutside nowhere t u
ended_unwritten e end never = end.unwritten (lost_unwritten e end.rebooted.end end.rebooted.answer_is never)

pub none_opened : {calls : Outcomes} {made : Made} {host : Host} {old new : Memory} {t u : Tale} → IsBootEnd calls made host old accepted new t u → new.opened ≡ None → KeptOutside nowhere t u
none_opened end none = end.unwritten (empty_unwritten end.rebooted.end end.rebooted.answer_is (sym (ap (λ (m : Memory). m.opened) (end.rebooted.memory refl)) ∙ none))

-- what holds from a shelf's tale to its tale at the end, holds from the one story to the other
pub from_ends : {S : Type 0} (shelf : Ghosts S) (telling : (s : S) → shelf.tale s ≡ option_map tale_of (shelf.story s)) (P : Tale → Tale → Type 0) (a b : S) → AtEnd shelf P a b → FromTo P (shelf.story a) (shelf.story b)
from_ends shelf telling P a b ends s u is_s is_u =
    let end = ends (tale_of s) (telling a ∙ ap (λ (o : Option Story). option_map tale_of o) is_s) in
    subst (P (tale_of s)) (some_is (shelf.tale b) end.0 (tale_of u) end.1 (telling b ∙ ap (λ (o : Option Story). option_map tale_of o) is_u)) end.2

-- why a run is over with its boot
pub over_cause : (T : Type 0) (start end : Counts) (host : Host) (r : Ended) (memory : Memory) → HasBootCause {T = T} (drive_failures start end) host memory (Err r) → HasStatusCause host start end (status_at r)
over_cause T start end host (ended.NoQuorum readable needed) memory why = why.cause
over_cause T start end host (ended.TwoDatabases a b) memory why = why.cause
over_cause T start end host (ended.Lost active listed) memory why = ((why.cause.0.line, why.cause.0.one_of, rose_of_once _ _ why.cause.0.here), why.cause.1)
over_cause T start end host ended.Spent memory why = tt
over_cause T start end host ended.Memory memory why = tt

-- behind a boot no drive's count is lower, and those of the source and of the giving are what they were
pub boot_calm : {S : Type 0} (shelf : Ghosts S) (a b : S) (drives : List DriveNo) (source : ℕ) → KeptAmong shelf a b drives → RoseCalmly (counts (shelf.faults a) source) (counts (shelf.faults b) source)
boot_calm shelf a b drives source kept = record { drives = λ drive. kept.keeps.no_fewer_faults (OnDrive drive); source = refl; replies = kept.others OnReplies (replies_apart drives) }

-- the point between a boot and the calls behind it
module _ {S : Type 0} (shelf : Ghosts S) (telling : (s : S) → shelf.tale s ≡ option_map tale_of (shelf.story s)) (a b c : S) (source : ℕ) (u : Tale) (is : shelf.tale b ≡ Some u) (on : KeptInTime shelf a b) where
  tale_there : (s : S) (x : Story) → shelf.story s ≡ Some x → shelf.tale s ≡ Some (tale_of x)
  tale_there s x at = telling s ∙ ap (λ (o : Option Story). option_map tale_of o) at

  pub point_between : AtEachTale shelf (λ t m. told m ≡ told t) a b → GoesOn shelf b c → IsPoint (between shelf a c) source (counts (shelf.faults b) source) (record { story = shelf.story b; effort = effort_of shelf b }) (contents u)
  point_between quiet behind = record {
    faults = shelf.faults b;
    before = on.goes;
    behind = behind;
    counts_are = refl;
    in_time = record { drives = λ drive. on.in_time (OnDrive drive); replies = on.in_time OnReplies };
    quiet = λ s x at there.
        let end = moments_end (λ t m. told m ≡ told t) (shelf.tale a) (shelf.tale b) quiet (tale_of s) (tale_there a s at) in
        ap told (some_is (shelf.tale b) (tale_of x) end.0 (tale_there b x there) end.1) ∙ end.2;
    reads = λ s at. subst (λ (t : Tale). IsSame (contents u) (contents t)) (some_is (shelf.tale b) u (tale_of s) is (tale_there b s at)) (λ drive block. refl);
  }
