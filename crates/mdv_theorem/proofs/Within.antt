-- A whole run, a line of which made its database, doesn't end because fewer than half of its places are active, where half of the slices, or more, on which the replicas may lie by the lines behind it are on drives on which no call fails.
use Rattle.std.proofs.Common.{◌≡◌, ℕ, ◌≤◌, Bool, true, List, [], ◌∷◌, ◌++◌, Some, None, length, refl, sym, ◌∙◌, ap, subst, arith}
use Rattle.mdv_base.specs.declared.drive.DriveNo.{DriveNo}
use Rattle.mdv_base.specs.declared.drive.SliceName.{SliceName}
use Rattle.mdv_engine_law.proofs.Plain.{nothing_answers}
use Rattle.mdv_engine_law.specs.Answers.{accepted}
use Rattle.mdv_engine_law.specs.Line.{IsRebooted, IsSame, Kept, Memory, contents}
use Rattle.mdv_engine_law.specs.Replies.{ok_line, text_of}
use Rattle.mdv_engine_law.specs.Standing.{AreOwn, BootedTo, StandsAt}
use Rattle.mdv_engine_law.specs.declared.answer.Answer.{Answer}
use Rattle.mdv_engine_law.specs.declared.answer.Answer.TheVariants.{Said, Over as Ends}
use Rattle.mdv_engine_law.specs.declared.answer.Outcome.TheVariants as outcome
use Rattle.mdv_engine_law.specs.declared.host.Host.{Host}
use Rattle.mdv_name.specs.declared.geometry.Geometry.{Geometry}
use Rattle.mdv_port.specs.Script.{Script}
use Rattle.mdv_run_law.proofs.Since.{since_itself}
use Rattle.mdv_run_law.specs.Lives.{host_of}
use Rattle.mdv_run_law.specs.Run.{At, Counts, IsOfTable, IsRun, LinesTold, Over, Progress, RoseTo, RunsFrom, Stretch, behind_boot, broken, drive_failures, ended, started, unread}
use Rattle.mdv_run_law.specs.declared.status.RunStatus.{RunStatus}
use Rattle.mdv_run_law.specs.declared.status.RunStatus.TheVariants as status
use Rattle.mdv_shelf.proofs.Stories.{marked_more}
use Rattle.mdv_shelf.specs.Moments.{IsSince}
use Rattle.mdv_shelf.specs.Story.{Mark, Story, marked, tale_of}
use Rattle.mdv_shelf.specs.Tale.{Tale}
use Rattle.mdv_volumes.specs.History.{History}
use Rattle.mdv_words.specs.declared.command.Command.TheVariants.{AddPlaces}
use Rattle.mdv_theorem.specs.Exchanges.{Asks, Exchange, IsTold, exchanges, exchanges_of}
use Rattle.mdv_theorem.specs.Observed.{EnoughStay, HalfLieOn}
use Rattle.mdv_theorem.specs.Words.{KeepsDatabase, MayBecome, spread}
use Rattle.mdv_theorem.proofs.Bearing.{Bears, calm_in, lines_upheld}
use Rattle.mdv_theorem.proofs.Borne.{made_bears}
use Rattle.mdv_theorem.proofs.Come.{HasMetNothing, come_boot}
use Rattle.mdv_theorem.proofs.Formed.{boot_formed, lines_formed}
use Rattle.mdv_theorem.proofs.Left.{lines_here, lines_say}
use Rattle.mdv_theorem.proofs.Located.{LineAt, line_at, said_line}
use Rattle.mdv_theorem.proofs.Panicking.{as_never, half_calm, lines_marks}
use Rattle.mdv_theorem.proofs.Parting.{Parts, in_first, in_second, parts}
use Rattle.mdv_theorem.proofs.Rising.{lines_rose, next_rose, rose_to_more}
use Rattle.mdv_theorem.proofs.Steps.{told_once, unreplied}
use Rattle.mdv_theorem.proofs.Sure.{IsSureAt, since_last}
use Rattle.mdv_theorem.proofs.Upheld.{lost_status}

-- At a place of the run to which lines led with these exchanges nothing is open, and what is known of the history there.
abbrev pub IsClosedAt : (host : Host) (script : Script) (h : History) (t : Tale) (stretch : Stretch) → List Exchange → Type 0
IsClosedAt host script h t stretch until =
    (m : Tale) (none : HasMetNothing host script h t m) (n : ℕ) (first place : At) (front : List ℕ) (upto : LinesTold host stretch n first front place) → ((u : Story) → place.story ≡ Some u → IsSince (tale_of u) m) → lines_here host stretch n first place front upto ≡ until
    → ((u : Story) → first.story ≡ Some u → BootedTo host first.kept.memory t (tale_of u) × IsSince t (tale_of u)) → IsSureAt host script h t first → IsSureAt host script h t place × (place.kept.memory.opened ≡ None)

module _ (drives : Geometry) (name : List ℕ) (fresh : ℕ) (script : Script) (h : History) (is_host : IsOfTable (host_of drives name fresh)) (stretch : Stretch) (start close : Counts) (s : Story) (old : stretch.old ≡ Some s) (stands : StandsAt (host_of drives name fresh) h (tale_of s)) (owned : AreOwn (host_of drives name fresh) 0 h)
    (none : (marks back : List Mark) → stretch.new ≡ Some (marked (marked s marks) back) → HasMetNothing (host_of drives name fresh) script h (tale_of s) (tale_of (marked s marks))) (more : List ℕ) (until behind : List Exchange) (made : Exchange) (is : exchanges_of script more ≡ until ++ made ∷ behind)
    (slices : List SliceName) (force : Bool) (count blocks : ℕ) (asks : Asks made (AddPlaces slices force count blocks)) (ok : IsTold made ok_line) (closed : IsClosedAt (host_of drives name fresh) script h (tale_of s) stretch until)
    (keeps : KeepsDatabase behind) (enough : (others : List SliceName) → MayBecome drives name behind (spread count slices) others → EnoughStay drives name start close others) where
  abbrev its : Host
  its = host_of drives name fresh

  abbrev t : Tale
  t = tale_of s

  half : (others : List SliceName) → MayBecome drives name behind (spread count slices) others → HalfLieOn drives name (λ (drive : DriveNo). calm_in start close drive.0 ≡ true) others
  half others may = half_calm drives name start close others (enough others may)

  -- a run of which nothing was told made none
  silent_never : more ≡ [] → ⊥
  silent_never silent = unreplied script until behind made ok_line (sym (ap (exchanges_of script) silent ∙ ap (exchanges script) nothing_answers) ∙ is) ok

  module _ (booted : Counts) (by : Progress) (kept : Kept) (boots : IsRebooted (drive_failures start booted) its (started (contents t)) accepted kept) (rose : RoseTo start booted) (marks : List Mark) (is_place : by.story ≡ Some (marked s marks))
      (reads : IsSame kept.content (contents (tale_of (marked s marks)))) (up : BootedTo its kept.memory t (tale_of (marked s marks))) (since : IsSince t (tale_of (marked s marks))) where
    abbrev begin : At
    begin = behind_boot booted by kept script

    abbrev place : Story
    place = marked s marks

    begun : kept.memory.begun ≡ 0
    begun = ap (λ (k : Memory). k.begun) (boots.memory refl)

    no_entries : kept.memory.entries ≡ []
    no_entries = ap (λ (k : Memory). k.entries) (boots.memory refl)

    -- behind the line that made it
    module _ (at : At) (m : Tale) (met : HasMetNothing its script h t m) (since_at : (u : Story) → at.story ≡ Some u → IsSince (tale_of u) m) (high : (drive : ℕ) → at.counts.drives drive ≤ close.drives drive) (rest : List Exchange) (a : LineAt its stretch 0 begin at until made rest) where
      first_sure : IsSureAt its script h t begin
      first_sure =
          let come = come_boot its script h t kept.memory (tale_of place) m stands owned begun no_entries up since met in
          record { story = place; is = is_place; come = come.0; reads = reads }

      led : (u : Story) → begin.story ≡ Some u → BootedTo its begin.kept.memory t (tale_of u) × IsSince t (tale_of u)
      led u is_u =
          let both : Some place ≡ Some u = sym is_place ∙ is_u in
          let same : place ≡ u = cc (both) in
          subst (λ (x : Story). BootedTo its kept.memory t (tale_of x) × IsSince t (tale_of x)) same (up, since)

      there : IsSureAt its script h t a.place × (a.place.kept.memory.opened ≡ None)
      there = closed m met 0 begin a.place a.before a.upto (λ u is_u. since_last its stretch a.j a.place at (a.piece ++ a.left) m a.from since_at u is_u) a.until_is led first_sure

      bears_made : Bears drives name (spread count slices) fresh script h t m met is_host start close [] a.mid
      bears_made =
          let its_line = said_line a.place.script (text_of a.line_told.answer) made a.said in
          let rise = lines_rose its stretch a.k a.mid at a.left a.after in
          made_bears drives name fresh script h t m met is_host start close slices count a.place a.mid a.piece a.line_told there.0 (λ v is_v. since_last its stretch a.k a.mid at a.left m a.after since_at v is_v)
          (rose_to_more start begin.counts a.place.counts rose (lines_rose its stretch 0 begin a.place a.before a.upto)) (λ drive. (let x = rise.drives drive in let y = high drive in omega arith))
          (lines_formed its is_host stretch 0 begin a.place a.before a.upto (boot_formed its (drive_failures start booted) (started (contents t)) kept accepted boots tt)) there.1 made.text its_line.0 its_line.1 force blocks asks (told_once made (text_of a.line_told.answer) ok_line its_line.2 ok)

    over_never : (at : At) (so_far rest : List ℕ) (told_lines : LinesTold its stretch 0 begin so_far at) → more ≡ so_far ++ rest → (end_status : RunStatus) (last_kept : Kept) (active listed : ℕ) → Over its stretch (length so_far) close at rest end_status last_kept → end_status ≡ status.Panic active listed → ⊥
    over_never at so_far rest told_lines in_two end_status last_kept active listed (unread only quiet stops) panic = (let fault = stops.ended in cc (fault, panic))
    over_never at so_far rest told_lines in_two end_status last_kept active listed (ended how same quiet stops) panic = as_never at.refused at.script end_status active listed how panic
    over_never at so_far rest told_lines in_two end_status last_kept active listed (broken (Said this) later next left comes shown only led with) panic = (let fault = with.ended in cc (fault, panic))
    over_never at so_far rest told_lines in_two end_status last_kept active listed (broken (Ends over) later next left comes shown only led with) panic =
        lies (parts (lines_here its stretch 0 begin at so_far told_lines) (exchanges at.script []) until behind made (sym whole ∙ is))
      where
        whole : exchanges_of script more ≡ lines_here its stretch 0 begin at so_far told_lines ++ exchanges at.script []
        whole = ap (exchanges_of script) (in_two ∙ ap (λ (l : List ℕ). so_far ++ l) with.silent) ∙ lines_say its stretch 0 begin at so_far [] told_lines ∙ ap (λ (l : List (List ℕ)). lines_here its stretch 0 begin at so_far told_lines ++ exchanges at.script l) nothing_answers

        high : (drive : ℕ) → later.drives drive ≤ close.drives drive
        high drive = (let same = ap (λ (c : Counts). c.drives drive) only in omega arith)

        high_at : (drive : ℕ) → at.counts.drives drive ≤ close.drives drive
        high_at drive = (let rise = (next_rose its at.counts later at.kept next at.script left (Ends over) comes).drives drive in let y = high drive in omega arith)

        far : (front : List Mark) × (at.story ≡ Some (marked place front))
        far = lines_marks its stretch 0 begin at so_far told_lines place is_place

        met : HasMetNothing its script h t (tale_of (marked place far.0))
        met =
            let end = led.in_time.drives 0 (marked place far.0) far.1 in
            subst (λ (v : Story). HasMetNothing its script h t (tale_of v)) (sym (marked_more s marks far.0)) (none (far.0 ++ marks) end.0 (end.1 ∙ ap (λ (v : Story). Some (marked v end.0)) (marked_more s marks far.0)))

        since_at : (u : Story) → at.story ≡ Some u → IsSince (tale_of u) (tale_of (marked place far.0))
        since_at u is_u =
            let both : Some (marked place far.0) ≡ Some u = sym far.1 ∙ is_u in
            let same : marked place far.0 ≡ u = cc (both) in
            subst (λ (x : Story). IsSince (tale_of x) (tale_of (marked place far.0))) same (since_itself (tale_of (marked place far.0)))

        lies : Parts (lines_here its stretch 0 begin at so_far told_lines) (exchanges at.script []) until behind made → ⊥
        lies (in_second fr first others) = unreplied at.script fr behind made ok_line others ok
        lies (in_first r first others) =
            let a = line_at its stretch 0 begin at so_far told_lines until made r first in
            let same : behind ≡ lines_here its stretch a.k a.mid at a.left a.after ++ exchanges at.script [] = others ∙ ap (λ (l : List Exchange). l ++ exchanges at.script []) (sym a.behind_is) in
            lost_status over active listed (sym with.ended ∙ panic)
            (lines_upheld drives name (spread count slices) fresh script h t (tale_of (marked place far.0)) met is_host start close stretch a.k a.mid at a.left a.after since_at later high []
            (bears_made at (tale_of (marked place far.0)) met since_at high_at r a) (subst KeepsDatabase same keeps)
            (λ x may. half x (subst (λ (l : List Exchange). MayBecome drives name l (spread count slices) x) (sym same) may)) next left (Ends over) comes)

  -- whatever its boot came to
  runs_never : (answer : Answer) (booted : Counts) (by : Progress) (kept : Kept) → IsRebooted (drive_failures start booted) its (started (contents t)) answer kept → RoseTo start booted → (marks : List Mark) → by.story ≡ Some (marked s marks) → IsSame kept.content (contents (tale_of (marked s marks)))
      → (answer ≡ accepted → BootedTo its kept.memory t (tale_of (marked s marks)) × IsSince t (tale_of (marked s marks))) → (end_status : RunStatus) (last_kept : Kept) (active listed : ℕ) → RunsFrom its stretch close answer booted by kept script more end_status last_kept
      → end_status ≡ status.Panic active listed → ⊥
  runs_never (Said outcome.Ok) booted by kept boots rose marks is_place reads leads end_status last_kept active listed runs panic =
      (let up = leads refl in over_never booted by kept boots rose marks is_place reads up.0 up.1 runs.at runs.so_far runs.rest runs.lines runs.parts end_status last_kept active listed runs.over panic)
  runs_never (Said (outcome.Values text)) booted by kept boots rose marks is_place reads leads end_status last_kept active listed runs panic = runs
  runs_never (Said (outcome.Refused refusal)) booted by kept boots rose marks is_place reads leads end_status last_kept active listed runs panic = runs
  runs_never (Ends over) booted by kept boots rose marks is_place reads leads end_status last_kept active listed runs panic = silent_never runs.2.silent

  pub within_never : (end_status : RunStatus) (last_kept : Kept) (run : IsRun its stretch start close (contents t) script more end_status last_kept) → (active listed : ℕ) → end_status ≡ status.Panic active listed → ⊥
  within_never end_status last_kept run active listed panic =
      let to = run.point.in_time.drives 0 s old in
      let low : RoseTo start run.booted = record { drives = run.rose.drives; source = (let same = run.rose.source in omega arith); replies = (let same = run.rose.replies in omega arith) } in
      runs_never run.answer run.booted run.by run.kept run.boots low to.0 to.1 (run.point.reads (marked s to.0) to.1) (λ said. run.leads said s (marked s to.0) old to.1) end_status last_kept active listed run.runs panic
