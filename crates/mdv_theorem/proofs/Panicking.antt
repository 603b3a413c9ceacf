-- A whole run, whose database lines of earlier runs made, doesn't end because fewer than half of its places are active, where half of the slices, or more, on which the replicas may lie by all lines are on drives on which no call fails.
use Rattle.std.proofs.Common.{◌≡◌, inl, inr, ℕ, ◌+◌, ◌≤◌, Bool, true, false, List, [], ◌++◌, Some, None, length, refl, sym, ◌∙◌, ap, subst, arith, append-nil}
use Rattle.mdv_base.specs.declared.drive.DriveNo.{DriveNo}
use Rattle.mdv_base.specs.declared.drive.SliceName.{SliceName}
use Rattle.mdv_engine_law.proofs.Going.{may_course}
use Rattle.mdv_engine_law.proofs.Plain.{nothing_answers}
use Rattle.mdv_engine_law.specs.Answers.{accepted}
use Rattle.mdv_engine_law.specs.Line.{IsRebooted, IsSame, Kept, Memory, contents}
use Rattle.mdv_engine_law.specs.Standing.{AreOwn, BootedTo, MeetsStaleAt, StandsAt}
use Rattle.mdv_engine_law.specs.declared.answer.Answer.{Answer}
use Rattle.mdv_engine_law.specs.declared.answer.Answer.TheVariants.{Said, Over as Ends}
use Rattle.mdv_engine_law.specs.declared.answer.Outcome.TheVariants as outcome
use Rattle.mdv_engine_law.specs.declared.host.Host.{Host}
use Rattle.mdv_name.specs.declared.geometry.Geometry.{Geometry}
use Rattle.mdv_port.specs.Script.{Script, at_end, line, spent, too_long}
use Rattle.mdv_run_law.proofs.Since.{since_itself}
use Rattle.mdv_run_law.specs.Lives.{host_of}
use Rattle.mdv_run_law.specs.Run.{At, Counts, EndsAs, IsOfTable, IsRun, LinesTold, Over, Progress, RoseTo, RunsFrom, Stretch, behind_boot, broken, drive_failures, ended, no_line, one_more, started, unread}
use Rattle.mdv_run_law.specs.declared.status.RunStatus.{RunStatus}
use Rattle.mdv_run_law.specs.declared.status.RunStatus.TheVariants as status
use Rattle.mdv_shelf.proofs.Stories.{marked_more}
use Rattle.mdv_shelf.specs.Moments.{IsSince}
use Rattle.mdv_shelf.specs.Story.{Mark, Story, marked, tale_of}
use Rattle.mdv_shelf.specs.Tale.{Tale}
use Rattle.mdv_store_law.specs.Log.{Version}
use Rattle.mdv_volumes.specs.Databases.{log_of}
use Rattle.mdv_volumes.specs.Happening.{MayBeFound}
use Rattle.mdv_volumes.specs.History.{History}
use Rattle.mdv_engine_law.specs.Hosts.{key_of}
use Rattle.mdv_theorem.specs.Exchanges.{Exchange, exchanges, exchanges_of}
use Rattle.mdv_theorem.specs.Observed.{EnoughStay, HalfLieOn}
use Rattle.mdv_theorem.specs.Words.{KeepsDatabase, MayBecome}
use Rattle.mdv_theorem.proofs.Bearing.{Bears, calm_in, calm_where_on, each_of, lines_upheld, unfailed, work_untold}
use Rattle.mdv_theorem.proofs.Come.{HasMetNothing, come_boot}
use Rattle.mdv_theorem.proofs.Left.{lines_here, lines_say}
use Rattle.mdv_theorem.proofs.Lined.{idle_quiet}
use Rattle.mdv_theorem.proofs.Lists.{ListsLie, lie_quiet}
use Rattle.mdv_theorem.proofs.Readopted.{boot_borne, boot_upheld}
use Rattle.mdv_theorem.proofs.Rising.{lines_rose, next_rose, rose_itself}
use Rattle.mdv_theorem.proofs.Seats.{IsHalf, OfEach, half_of}
use Rattle.mdv_theorem.proofs.Slices.{become_one, left_there, slices_of}
use Rattle.mdv_theorem.proofs.Upheld.{IsUpheld, lost_status}

-- enough drives stay for these slices: half of them, or more, are on drives on which no call failed
pub half_calm : (drives : Geometry) (name : List ℕ) (start close : Counts) (slices : List SliceName) → EnoughStay drives name start close slices → HalfLieOn drives name (λ (drive : DriveNo). calm_in start close drive.0 ≡ true) slices
half_calm drives name start close slices (inl most) =
    record { chosen = most.chosen; half = (let more = most.most in omega (arith, more)); each = λ slice at is has. calm_where_on start close at.drive (most.each slice at is has) }
half_calm drives name start close slices (inr half) = record { chosen = half.0.chosen; half = half.0.half; each = λ slice at is has. calm_where_on start close at.drive (half.0.each slice at is has) }

-- the story goes on along the lines
pub lines_marks : (host : Host) (stretch : Stretch) (n : ℕ) (now last : At) (front : List ℕ) → LinesTold host stretch n now front last → (s : Story) → now.story ≡ Some s → (marks : List Mark) × (last.story ≡ Some (marked s marks))
lines_marks host stretch n now last front (no_line bytes at) s is = ([], is)
lines_marks host stretch n now last front (one_more bytes at mid end piece left some one shown lines) s is =
    let to = one.passage.in_time.drives 0 s is in
    let rest = lines_marks host stretch (n + length piece) mid last left lines (marked s to.0) to.1 in
    (rest.0 ++ to.0, rest.1 ∙ ap (λ (u : Story). Some u) (marked_more s to.0 rest.0))

pub as_never : (refused : Bool) (left : Script) (end_status : RunStatus) (active listed : ℕ) → EndsAs refused left end_status → end_status ≡ status.Panic active listed → ⊥
as_never true at_end end_status active listed is panic = cc (is, panic)
as_never false at_end end_status active listed is panic = cc (is, panic)
as_never refused (spent lines bytes) end_status active listed is panic = cc (is, panic)
as_never refused (too_long left) end_status active listed is panic = is
as_never refused (line text left) end_status active listed is panic = is

module _ (drives : Geometry) (name : List ℕ) (from : List SliceName) where
  -- a line in work may have left the places
  work_still : (script : Script) (lines : List Exchange) (slices : List SliceName) → MayBecome drives name lines from slices → MayBecome drives name (lines ++ exchanges script []) from slices
  work_still at_end lines slices may = subst (λ (l : List Exchange). MayBecome drives name l from slices) (sym (append-nil lines)) may
  work_still (spent rows limit) lines slices may = subst (λ (l : List Exchange). MayBecome drives name l from slices) (sym (append-nil lines)) may
  work_still (too_long more) lines slices may = subst (λ (l : List Exchange). MayBecome drives name l from slices) (sym (append-nil lines)) may
  work_still (line text more) lines slices may = become_one drives name lines (record { text = text; reply = None }) from slices slices may (left_there drives name (record { text = text; reply = None }) slices (work_untold text))

  module _ (fresh : ℕ) (script : Script) (h : History) (is_host : IsOfTable (host_of drives name fresh)) (stretch : Stretch) (start close : Counts) (s : Story) (old : stretch.old ≡ Some s) (stands : StandsAt (host_of drives name fresh) h (tale_of s)) (owned : AreOwn (host_of drives name fresh) 0 h)
      (none : (marks back : List Mark) → stretch.new ≡ Some (marked (marked s marks) back) → HasMetNothing (host_of drives name fresh) script h (tale_of s) (tale_of (marked s marks))) (lines : List Exchange) (lie : ListsLie drives name from lines h) (more : List ℕ)
      (keeps : KeepsDatabase (exchanges_of script more)) (enough : (slices : List SliceName) → MayBecome drives name (lines ++ exchanges_of script more) from slices → EnoughStay drives name start close slices) where
    abbrev its : Host
    its = host_of drives name fresh

    abbrev calm : ℕ → Bool
    calm = calm_in start close

    abbrev t : Tale
    t = tale_of s

    half : (slices : List SliceName) → MayBecome drives name (lines ++ exchanges_of script more) from slices → HalfLieOn drives name (λ (drive : DriveNo). calm drive.0 ≡ true) slices
    half slices may = half_calm drives name start close slices (enough slices may)

    -- the run's boot
    module _ (booted : Counts) (kept : Kept) (answer : Answer) (boots : IsRebooted (drive_failures start booted) its (started (contents t)) answer kept) (high : (drive : ℕ) → booted.drives drive ≤ close.drives drive) (marks back : List Mark) (goes_on : stretch.new ≡ Some (marked (marked s marks) back)) where
      never_failed : (drive : ℕ) → calm drive ≡ true → (drive_failures start booted drive).some → ⊥
      never_failed = unfailed start close start booted (rose_itself start) high

      fair : MeetsStaleAt its h t → ⊥
      fair meets = none marks back goes_on (inl meets)

      first_upheld : more ≡ [] → IsUpheld answer
      first_upheld silent = boot_upheld its is_host calm (drive_failures start booted) never_failed h t stands lie.has.0.0 fair (started (contents t)) kept answer (λ drive block. refl) halves boots where
        all : exchanges_of script more ≡ exchanges script []
        all = ap (exchanges_of script) silent ∙ ap (exchanges script) nothing_answers

        halves : (v : Version) → MayBeFound (log_of h.databases (key_of its)).family v → OfEach (IsHalf its calm) v.table.plan.lists
        halves v found = each_of (IsHalf its calm) lie.may
            (λ places has. half_of drives name fresh calm places (half (slices_of places) (subst (λ (l : List Exchange). MayBecome drives name (lines ++ l) from (slices_of places)) (sym all) (work_still script lines (slices_of places) (lie.each places has))))) v.table.plan.lists (lie.has.1 v found)

    -- behind it, where it was answered
    module _ (booted : Counts) (by : Progress) (kept : Kept) (boots : IsRebooted (drive_failures start booted) its (started (contents t)) accepted kept) (rose : RoseTo start booted) (high : (drive : ℕ) → booted.drives drive ≤ close.drives drive)
        (place : Story) (is_place : by.story ≡ Some place) (reads : IsSame kept.content (contents (tale_of place))) (up : BootedTo its kept.memory t (tale_of place)) (since : IsSince t (tale_of place)) (marks back : List Mark) (goes_on : stretch.new ≡ Some (marked (marked s marks) back))
        (last : Tale) (met : HasMetNothing its script h t last) where
      begun : kept.memory.begun ≡ 0
      begun = ap (λ (k : Memory). k.begun) (boots.memory refl)

      no_entries : kept.memory.entries ≡ []
      no_entries = ap (λ (k : Memory). k.entries) (boots.memory refl)

      abbrev first : At
      first = behind_boot booted by kept script

      bears_booted : Bears drives name from fresh script h t last met is_host start close lines first
      bears_booted =
          let come = come_boot its script h t kept.memory (tale_of place) last stands owned begun no_entries up since met in
          let quiet = idle_quiet its come.0.es come.1 in
          record {
            lie = record {
              sure = record { story = place; is = is_place; come = come.0; reads = reads };
              lie = lie_quiet drives name from lines h come.0.es (may_course its h come.0.es come.0.course) (λ has. quiet _ has) lie quiet;
            };
            holds = boot_borne its is_host calm (drive_failures start booted) (never_failed booted kept accepted boots high marks back goes_on) h t stands lie.has.0.0 (fair booted kept accepted boots high marks back goes_on) (started (contents t)) kept accepted (λ drive block. refl) boots tt;
            low = rose;
          }

    -- and over the lines behind it
    module _ (booted : Counts) (by : Progress) (kept : Kept) (boots : IsRebooted (drive_failures start booted) its (started (contents t)) accepted kept) (rose : RoseTo start booted) (marks : List Mark) (is_place : by.story ≡ Some (marked s marks))
        (reads : IsSame kept.content (contents (tale_of (marked s marks)))) (up : BootedTo its kept.memory t (tale_of (marked s marks))) (since : IsSince t (tale_of (marked s marks))) where
      abbrev begin : At
      begin = behind_boot booted by kept script

      abbrev place : Story
      place = marked s marks

      over_never : (at : At) (so_far rest : List ℕ) (told_lines : LinesTold its stretch 0 begin so_far at) → more ≡ so_far ++ rest → (end_status : RunStatus) (last_kept : Kept) (active listed : ℕ) → Over its stretch (length so_far) close at rest end_status last_kept → end_status ≡ status.Panic active listed → ⊥
      over_never at so_far rest told_lines parts end_status last_kept active listed (unread only quiet stops) panic = (let fault = stops.ended in cc (fault, panic))
      over_never at so_far rest told_lines parts end_status last_kept active listed (ended how same quiet stops) panic = as_never at.refused at.script end_status active listed how panic
      over_never at so_far rest told_lines parts end_status last_kept active listed (broken (Said this) later next left comes shown only led with) panic = (let fault = with.ended in cc (fault, panic))
      over_never at so_far rest told_lines parts end_status last_kept active listed (broken (Ends over) later next left comes shown only led with) panic =
          let high : (drive : ℕ) → later.drives drive ≤ close.drives drive = λ drive. (let same = ap (λ (c : Counts). c.drives drive) only in omega arith) in
          let last_rose = next_rose its at.counts later at.kept next at.script left (Ends over) comes in
          let lines_up = lines_rose its stretch 0 begin at so_far told_lines in
          let high_boot : (drive : ℕ) → booted.drives drive ≤ close.drives drive = λ drive. (let x = lines_up.drives drive in let y = last_rose.drives drive in let z = high drive in omega arith) in
          let far = lines_marks its stretch 0 begin at so_far told_lines place is_place in
          let end = led.in_time.drives 0 (marked place far.0) far.1 in
          let goes_on : stretch.new ≡ Some (marked (marked s marks) (end.0 ++ far.0)) = end.1 ∙ ap (λ (v : Story). Some v) (marked_more place far.0 end.0) in
          let met : HasMetNothing its script h t (tale_of (marked place far.0)) =
          subst (λ (v : Story). HasMetNothing its script h t (tale_of v)) (sym (marked_more s marks far.0)) (none (far.0 ++ marks) end.0 (end.1 ∙ ap (λ (v : Story). Some (marked v end.0)) (marked_more s marks far.0))) in
          let b = bears_booted booted by kept boots rose high_boot place is_place reads up since marks (end.0 ++ far.0) goes_on (tale_of (marked place far.0)) met in
          let here = lines_here its stretch 0 begin at so_far told_lines in
          let whole : exchanges_of script more ≡ here ++ exchanges at.script [] =
          ap (exchanges_of script) (parts ∙ ap (λ (l : List ℕ). so_far ++ l) with.silent) ∙ lines_say its stretch 0 begin at so_far [] told_lines ∙ ap (λ (l : List (List ℕ)). here ++ exchanges at.script l) nothing_answers in
          lost_status over active listed (sym with.ended ∙ panic)
          (lines_upheld drives name from fresh script h t (tale_of (marked place far.0)) met is_host start close stretch 0 begin at so_far told_lines (λ v is_v. since_here (marked place far.0) v (sym far.1 ∙ is_v)) later high lines b
          (subst KeepsDatabase whole keeps) (λ slices may. half slices (subst (λ (l : List Exchange). MayBecome drives name (lines ++ l) from slices) (sym whole) may)) next left (Ends over) comes)
        where
          since_here : (v w : Story) → Some v ≡ Some w → IsSince (tale_of w) (tale_of v)
          since_here v w same = (let one : v ≡ w = cc (same) in subst (λ (x : Story). IsSince (tale_of x) (tale_of v)) one (since_itself (tale_of v)))

    -- whatever its boot came to
    runs_never : (answer : Answer) (booted : Counts) (by : Progress) (kept : Kept) → IsRebooted (drive_failures start booted) its (started (contents t)) answer kept → RoseTo start booted → (marks : List Mark) → by.story ≡ Some (marked s marks) → IsSame kept.content (contents (tale_of (marked s marks)))
        → (answer ≡ accepted → BootedTo its kept.memory t (tale_of (marked s marks)) × IsSince t (tale_of (marked s marks))) → (end_status : RunStatus) (last_kept : Kept) (active listed : ℕ) → RunsFrom its stretch close answer booted by kept script more end_status last_kept
        → end_status ≡ status.Panic active listed → ⊥
    runs_never (Said outcome.Ok) booted by kept boots rose marks is reads leads end_status last_kept active listed runs panic =
        (let up = leads refl in over_never booted by kept boots rose marks is reads up.0 up.1 runs.at runs.so_far runs.rest runs.lines runs.parts end_status last_kept active listed runs.over panic)
    runs_never (Said (outcome.Values text)) booted by kept boots rose marks is reads leads end_status last_kept active listed runs panic = runs
    runs_never (Said (outcome.Refused refusal)) booted by kept boots rose marks is reads leads end_status last_kept active listed runs panic = runs
    runs_never (Ends over) booted by kept boots rose marks is reads leads end_status last_kept active listed runs panic =
        lost_status over active listed (sym runs.2.ended ∙ panic)
        (first_upheld booted kept (Ends over) boots (λ drive. (let same = ap (λ (c : Counts). c.drives drive) runs.0 in omega arith)) marks [] (runs.1.quiet ∙ is) runs.2.silent)

    -- So it is of a whole run.
    pub whole_never : (end_status : RunStatus) (last_kept : Kept) (run : IsRun its stretch start close (contents t) script more end_status last_kept)
        → (active listed : ℕ) → end_status ≡ status.Panic active listed → ⊥
    whole_never end_status last_kept run active listed panic =
        let to = run.point.in_time.drives 0 s old in
        let low : RoseTo start run.booted = record { drives = run.rose.drives; source = (let same = run.rose.source in omega arith); replies = (let same = run.rose.replies in omega arith) } in
        runs_never run.answer run.booted run.by run.kept run.boots low to.0 to.1 (run.point.reads (marked s to.0) to.1) (λ said. run.leads said s (marked s to.0) old to.1) end_status last_kept active listed run.runs panic
