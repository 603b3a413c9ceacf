-- Where a run that went on was before a read that it had answered: what the read told of a block is what is there, and a crash would leave just that, where no call had failed on its drive.
use Rattle.std.proofs.Common.{true, ◌≡◌, inl, inr, ℕ, ◌+◌, ◌≤◌, ◌<◌, List, ◌∷◌, ◌++◌, length, length-append, Some, Contains, sym, ◌∙◌, ap, subst, append_assoc, arith}
use Rattle.mdv_base.proofs.Causes.{rose_of_once, rose_within}
use Rattle.mdv_base.specs.declared.drive.DriveNo.{DriveNo}
use Rattle.mdv_engine_law.specs.declared.host.Host.{Host}
use Rattle.mdv_engine_law.proofs.Plain.{nothing_answers}
use Rattle.mdv_name.specs.declared.geometry.Geometry.{Geometry}
use Rattle.mdv_port.specs.Script.{Script}
use Rattle.mdv_run_law.specs.Lives.{HasMetNone, Ran, host_of}
use Rattle.mdv_run_law.specs.Run.{At, behind_boot, drive_failures}
use Rattle.mdv_run_law.specs.Told.{IsToldBy, RunToldBy}
use Rattle.mdv_shelf.specs.Calls.{OnDrive}
use Rattle.mdv_shelf.specs.Story.{Moment, Story, tale_of}
use Rattle.mdv_shelf.specs.Tale.{told}
use Rattle.mdv_status.specs.Telling.{replies_in}
use Rattle.mdv_config.specs.Slices.{IsSound}
use Rattle.mdv_engine_law.specs.Answers.{accepted}
use Rattle.mdv_layout_law.specs.Laid.{plain_area}
use Rattle.mdv_theorem.specs.Exchanges.{Exchange, IsTold, exchanges, exchanges_of}
use Rattle.mdv_theorem.specs.Running.{HasAnswered, Running, exchanges_now}
use Rattle.mdv_theorem.proofs.Begun.{boot_shown}
use Rattle.mdv_theorem.proofs.Placed.{Place, lines_place, told_before}
use Rattle.mdv_theorem.proofs.Settled.{IsSettledAt, boot_steady, steady_settled}
use Rattle.mdv_theorem.proofs.Staying.{its_sound}
use Rattle.mdv_theorem.proofs.Steps.{Between, known_at, unreplied}
use Rattle.mdv_theorem.proofs.Synced.{IsThere, lines_rise, lines_steady, lines_shown, lines_story}
use Rattle.mdv_theorem.proofs.Come.{HasMetNothing}
use Rattle.mdv_theorem.proofs.Clean.{none_met, start, start_own, start_stands}
use Rattle.mdv_theorem.proofs.Sure.{IsSureAt, since_last, sure_boot}

module _ (drives : Geometry) (name : List ℕ) (before : List Ran) (script : Script) (sound : IsSound drives) (of_table : Contains drives.hosts name) (run : Running drives name before script) where
  abbrev host : Host
  host = host_of drives name run.fresh

  abbrev own : IsSound host.drives
  own = its_sound drives name before script sound of_table run

  -- no boot of it met a stale vote by that moment
  abbrev IsClean : Moment → Type 0
  IsClean m = HasMetNone drives name before run.fresh script run.t.tale m.tale

  abbrev none_by : (m : Moment) → IsClean m → HasMetNothing host script (start run of_table) run.t.tale m.tale
  none_by m clean = none_met run of_table m.tale clean

  -- what is known at a place of it
  abbrev IsSureHere : At → Type 0
  IsSureHere at = IsSureAt host script (start run of_table) run.t.tale at

  abbrev between : (at : At) → IsSureHere at → Between host
  between at sure = record { kept = at.kept; sure = known_at host script (start run of_table) run.t.tale at sure }

  module _ (here behind : List Exchange) (read : Exchange) (reply : List ℕ) (told_it : IsTold read reply) where
    -- the run was told of by a moment, and was before the line
    pub record Came (m : Moment) (bytes : List ℕ) : Type 1 where
      pub clean : HasMetNone drives name before run.fresh script run.t.tale m.tale
      pub by : RunToldBy host run.stretch run.start run.t.tale script bytes m
      pub first_sure : IsSureHere (behind_boot by.booted by.by by.kept script)
      pub place : Place host run.start m run.stretch 0 (behind_boot by.booted by.by by.kept script) by.lines.at (between (behind_boot by.booted by.by by.kept script) first_sure) by.lines.so_far by.lines.rest here read behind

    -- behind its boot
    booted_sure : (m : Moment) (bytes : List ℕ) (by : RunToldBy host run.stretch run.start run.t.tale script bytes m) → IsClean m → IsSureHere (behind_boot by.booted by.by by.kept script)
    booted_sure m bytes by clean =
        (sure_boot host run.stretch run.start run.t.tale script bytes m by run.moment.begins.0 run.moment.begins.1 (start run of_table) (start_stands run of_table) (start_own run of_table) (none_by m clean)).0

    pub came : (m : Moment) (tells : IsToldBy host run.stretch run.start script run.t m) → IsClean m → exchanges_of script tells.bytes ≡ here ++ read ∷ behind → Came m tells.bytes
    came m tells clean parts = elim tells.tells [
      | inl none ↦ absurd (unreplied script here behind read reply (subst (λ (l : List (List ℕ)). exchanges script l ≡ here ++ read ∷ behind) (ap replies_in none.0 ∙ nothing_answers) parts) told_it)
      | inr by ↦ record {
        clean = clean;
        by = by;
        first_sure = booted_sure m tells.bytes by clean;
        place = lines_place host run.start m run.stretch script (start run of_table) run.t.tale (none_by m clean) 0 (behind_boot by.booted by.by by.kept script) by.lines.at by.lines.so_far by.lines.rest (booted_sure m tells.bytes by clean) (λ u is. (by.lines.work u is).moment.since) by.lines.lines by.lines.front here behind read reply (subst (λ (l : List ℕ). exchanges_of script l ≡ here ++ read ∷ behind) by.lines.parts parts) told_it;
      }
    ]

    -- more was told than to the lines before it
    pub came_told : (m : Moment) (bytes : List ℕ) → Came m bytes → told_before script here < length bytes
    came_told m bytes c =
        let size = c.place.size in
        let some = c.place.some in
        let all : length bytes ≡ length (c.place.front ++ (c.place.left ++ c.by.lines.rest)) =
        ap length c.by.lines.parts ∙ ap (λ (l : List ℕ). length (l ++ c.by.lines.rest)) c.place.parts ∙ ap length (append_assoc c.place.front c.place.left c.by.lines.rest) in
        let both = length-append c.place.front (c.place.left ++ c.by.lines.rest) in
        omega (arith, size, some, all, both)

  -- no call had failed on the drive by a moment by which the line was answered, so none had before it
  module _ (here rest behind : List Exchange) (read : Exchange) (reply : List ℕ) (told_it : IsTold read reply) (m : Moment) (bytes : List ℕ) (at : Came here behind read reply told_it m bytes) (now : exchanges_now run ≡ here ++ read ∷ rest) where
    abbrev first : At
    first = behind_boot at.by.booted at.by.by at.by.kept script

    upto : (drive : ℕ) → at.place.at.counts.drives drive ≤ run.m.faults (OnDrive drive)
    upto drive =
        let less = came_told here rest read reply told_it run.m run.tells.bytes (came here rest read reply told_it run.m run.tells run.clean now) in
        let size = at.place.size in
        let shown = lines_shown host run.stretch 0 first at.place.at at.place.front at.place.lines (0, 0, boot_shown run.stretch run.start.source at.by.booted at.by.by at.by.kept script at.by.point, omega arith) in
        let within = shown.3 in
        let all : length (told run.m.tale) ≡ length (told run.t.tale) + length run.tells.bytes = ap length run.tells.is_told ∙ length-append (told run.t.tale) run.tells.bytes in
        ((run.moment.shows shown.0 shown.1 at.place.at shown.2).behind (omega (arith, less, size, within, all))).drives drive

    module _ (s : Story) (begins : run.stretch.old ≡ Some s) where
      booted : (u : Story) × (at.by.by.story ≡ Some u)
      booted = let is = at.by.point.before s begins in (is.0, is.1)

      pub there : (u : Story) × (at.place.at.story ≡ Some u)
      there = lines_story host run.stretch 0 first at.place.at at.place.front at.place.lines booted.0 booted.1

      pub settled_there : (drive : DriveNo) → Contains host.site.drives drive → HasAnswered run drive → (b : ℕ) → plain_area host.drives drive.0 b ≡ true → IsSettledAt drive.0 b (tale_of there.0)
      settled_there drive its answered b plain =
          let high = upto drive.0 in
          let rise = lines_rise host run.start m run.stretch drive.0 0 first at.place.at at.place.front at.place.lines in
          let low = at.by.rose.drives drive.0 in
          let calm : (drive_failures run.start at.by.booted drive.0).some → ⊥ = λ once.
          answered (rose_within (run.start.drives drive.0) (run.start.drives drive.0) (at.by.booted.drives drive.0) (run.m.faults (OnDrive drive.0)) (omega arith) (omega (arith, rise, high)) (rose_of_once (run.start.drives drive.0) (at.by.booted.drives drive.0) once)) in
          let sure = booted_sure here behind read reply told_it m bytes at.by at.clean in
          let none = none_by m at.clean in
          let since = since_last host run.stretch (0 + length at.place.front) at.place.at at.by.lines.at at.place.left m.tale at.place.more (λ u is. (at.by.lines.work u is).moment.since) in
          let begun : IsThere host run.start m run.stretch drive its script (start run of_table) run.t.tale none first = record { sure = sure; steady = boot_steady host drive its _ calm accepted _ at.by.kept tt at.by.boots } in
          let is = lines_steady host run.start m run.stretch drive its script (start run of_table) run.t.tale none 0 first at.place.at at.place.front at.place.lines since low
          (λ rose. answered (rose_within (run.start.drives drive.0) (run.start.drives drive.0) (at.place.at.counts.drives drive.0) (run.m.faults (OnDrive drive.0)) (omega arith) high rose)) begun in
          let same : is.sure.story ≡ there.0 = (let both : Some is.sure.story ≡ Some there.0 = sym is.sure.is ∙ there.1 in cc (both)) in
          subst (λ (u : Story). IsSettledAt drive.0 b (tale_of u)) same
          (steady_settled host at.place.at.kept.memory _ (tale_of is.sure.story) drive.0 b is.sure.come.known is.steady plain)
