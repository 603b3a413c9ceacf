-- What a boot of the store answered, as a line tells it: which drives came up, what was read of them, and what came of that.
use Rattle.std.proofs.Common.{◌≡◌, ◌⊎◌, inl, inr, ◌≤◌, ℕ, Bool, true, false, Contains, Some, refl, sym, ◌∙◌, ap, subst, arith}
use Rattle.std.specs.Bool.{MatchBool}
use Rattle.mdv_base.specs.Causes.{RoseOnce}
use Rattle.mdv_shelf.proofs.Moments.{moments_end, some_is}
use Rattle.mdv_shelf.specs.Calls.{OnDrive}
use Rattle.mdv_shelf.specs.Drives.{IsAmong, KeptAmong}
use Rattle.mdv_shelf.specs.Failing.{Outcomes}
use Rattle.mdv_shelf.specs.Made.{made_of}
use Rattle.mdv_shelf.specs.Shelves.{DriveFailures}
use Rattle.mdv_shelf.specs.declared.shelf.Shelf.{Ghosts}
use Rattle.mdv_look.proofs.Among.{is_one_of}
use Rattle.mdv_store.proofs.Few.{reads_between, reads_then}
use Rattle.mdv_store.specs.BootCounts.{IsBootCounted, IsEndCounted}
use Rattle.mdv_store.specs.Boot.{IfAdopted, IsEndBy, IsOnce, is_memory}
use Rattle.mdv_store.specs.Booted.{IsBooted, IsReadAt, WroteFor}
use Rattle.mdv_store.specs.Letters.{AreLettersOf}
use Rattle.mdv_store.specs.Booting.{BootEnds, BootMoment, IsBootedTo, boot_area, has_written}
use Rattle.mdv_look.specs.Quiet.{WritesNothing}
use Rattle.mdv_store.specs.Progress.{Progress}
use Rattle.mdv_store.specs.Taking.{LeftHold, RewriteMoment, Rewrites}
use Rattle.mdv_store.specs.declared.booting.BootEnd.TheVariants as end
use Rattle.mdv_store.specs.declared.booting.Booted.{Booted}
use Rattle.mdv_survey.specs.declared.replica.Survey.{Survey}
use Rattle.mdv_engine_law.specs.Below.{BootEnd, DriveNo, Table, Tale, has_drive, last}
use Rattle.mdv_engine_law.specs.Answers.{accepted}
use Rattle.mdv_engine_law.specs.Efforts.{BootCalls, EndCalls, EndsByCalls, HandCalls, looks_of}
use Rattle.mdv_engine_law.specs.Line.{IsLeftBy, IsReadOf, IsRebooted, IsUpBy, Memory, WritesBy, WritesTo, answered_by, booted_with, contents, kept_at, opened_by}
use Rattle.mdv_engine_law.specs.declared.answer.Answer.{Answer}
use Rattle.mdv_engine_law.specs.declared.host.Host.{Host}
use Rattle.mdv_engine_law.proofs.Keeping.{hold_on, open_on, same_beside}
use Rattle.mdv_engine_law.proofs.Taking.{end_wrote, hand_calls, looks_alone, memory_still}
use Rattle.mdv_engine_law.proofs.Widening.{end_more, within_itself}

at_true : (A B : Type 0) (b : Bool) → b ≡ true → MatchBool b A B → A
at_true A B b is m = subst (λ (c : Bool). MatchBool c A B) is m

at_false : (A B : Type 0) (b : Bool) → b ≡ false → MatchBool b A B → B
at_false A B b is m = subst (λ (c : Bool). MatchBool c A B) is m

-- a count that rose once by some moment, and in all once or not, rose once
rose_in_all : (a b c : ℕ) → a ≤ b → b ≤ c → RoseOnce a b → (c ≡ a) ⊎ RoseOnce a c → RoseOnce a c
rose_in_all a b c front behind rose (inl same) = omega (arith, front, behind, rose, same)
rose_in_all a b c front behind rose (inr once) = once

-- the calls of a boot on which none failed, by its end
end_calls : {S : Type 0} (shelf : Ghosts S) (old new : S) (reads : ℕ) (e : BootEnd) → IsEndCounted shelf old new reads e → EndCalls (made_of shelf old new) reads e
end_calls shelf old new reads (end.Adopted o) counted = counted
end_calls shelf old new reads end.Empty counted = reads_between shelf old new reads reads reads (omega arith) (omega arith) counted
end_calls shelf old new reads (end.TwoDatabases a b) counted = reads_between shelf old new reads reads reads (omega arith) (omega arith) counted
end_calls shelf old new reads (end.NoQuorum readable needed) counted = reads_between shelf old new reads reads reads (omega arith) (omega arith) counted
end_calls shelf old new reads (end.Lost active listed) counted = tt
end_calls shelf old new reads end.Spent counted = reads_between shelf old new reads reads reads (omega arith) (omega arith) counted
end_calls shelf old new reads end.Memory counted = tt

module _ {S : Type 0} (shelf : Ghosts S) (old new : S) (host : Host) (answer : Booted) (booted : IsBooted shelf old new host.drives host.site answer) (kept : KeptAmong shelf old new host.site.drives) where
  abbrev calls : Outcomes
  calls = DriveFailures shelf old new

  abbrev faults_at : S → DriveNo → ℕ
  faults_at s drive = shelf.faults s (OnDrive drive.0)

  -- on each drive of the site just one failed, or none, if memory wasn't wanting
  once_of : is_memory answer.end ≡ false → (drive : DriveNo) → Contains host.site.drives drive → IsOnce (calls drive.0)
  once_of some drive one_of = by booted.once where
    by : (is_memory answer.end ≡ true) ⊎ ((d : DriveNo) → Contains host.site.drives d → IsOnce (calls d.0)) → IsOnce (calls drive.0)
    by (inl memory) = absurd (cc (memory, some))
    by (inr once) = once drive one_of

  -- one that failed by some moment is all that did
  some_of : is_memory answer.end ≡ false → (drive : DriveNo) → Contains host.site.drives drive → (mid : S) → faults_at old drive ≤ faults_at mid drive → faults_at mid drive ≤ faults_at new drive → (DriveFailures shelf old mid drive.0).some → (calls drive.0).some
  some_of some drive one_of mid front behind rose = rose_in_all (faults_at old drive) (faults_at mid drive) (faults_at new drive) front behind rose (once_of some drive one_of)

  calm_beside : (drive : DriveNo) → (Contains host.site.drives drive → ⊥) → (calls drive.0).none
  calm_beside drive other = kept.others (OnDrive drive.0) (λ among. other (same among)) where
    same : IsAmong host.site.drives (OnDrive drive.0) → Contains host.site.drives drive
    same (d, one_of, is) = let number : drive.0 ≡ d.0 = cc (is) in subst (λ (x : DriveNo). Contains host.site.drives x) (λ i. record { 0 = sym number i }) one_of

  -- where it isn't clean one failed, if memory wasn't wanting
  abbrev pub IsUnclean : Type 0
  IsUnclean = answer.clean ≡ false → (is_memory answer.end ≡ true) ⊎ ((drive : DriveNo) × Contains host.site.drives drive × (calls drive.0).some)

  pub up_by : IsUnclean → IsUpBy calls host answer.end answer.up answer.clean
  up_by unclean = record {
    down = λ some drive one_of away. (
        let brought = booted.brought in
        some_of some drive one_of brought.ready (brought.before.keeps.no_fewer_faults (OnDrive drive.0)) (brought.behind.keeps.no_fewer_faults (OnDrive drive.0)) (at_false _ _ (has_drive answer.up drive) away (brought.up.each drive one_of)));
    others = λ drive other. (booted.brought.up.others drive other, calm_beside drive other);
    once = booted.once;
    calm = by answer.clean refl;
  }
    where
      by : (clean : Bool) → answer.clean ≡ clean → MatchBool clean ((drive : DriveNo) → (calls drive.0).none) ((is_memory answer.end ≡ true) ⊎ ((drive : DriveNo) × Contains host.site.drives drive × (calls drive.0).some))
      by true is = λ drive. elim (is_one_of host.site.drives drive) [ inl one_of ↦ (at_true _ _ answer.clean is booted.clean).1 drive one_of | inr other ↦ calm_beside drive other ]
      by false is = unclean is

  -- a call failed on each drive of which the last look doesn't tell
  abbrev pub AreAway : (survey : Survey) → IsReadAt shelf old new host.drives host.site answer survey → Type 0
  AreAway survey at = (drive : DriveNo) → Contains host.site.drives drive → has_drive at.calm drive ≡ false → (calls drive.0).some

  module _ (t u : Tale) (told_old : shelf.tale old ≡ Some t) (told_new : shelf.tale new ≡ Some u) where
    abbrev pub read_of : (survey : Survey) (at : IsReadAt shelf old new host.drives host.site answer survey) → AreAway survey at → IsReadOf calls host (contents t) answer.up answer.end survey
    read_of survey at away = record {
      calm = at.calm;
      were_up = at.up;
      failed = away;
      survey_is = at.survey_is;
      of = at.of t told_old;
      none = at.none;
      answered = λ still drive there. ap (λ (x : S). shelf.faults x (OnDrive drive.0)) (at.still still) ∙ at.answered drive there;
    }

    -- memory was wanting, or its end is by what was read, and the letters of the listed places
    abbrev WasEnded : Type 0
    WasEnded = (is_memory answer.end ≡ true) ⊎ ((survey : Survey) × (at : IsReadAt shelf old new host.drives host.site answer survey) × IsEndBy calls (WroteFor shelf old at.looked new host.drives host.site answer.clean) host.site survey answer.end × AreLettersOf host.site survey at.calm answer.letters)

    -- its calls, by what was read
    ends_by_calls : (is_memory answer.end ≡ true) ⊎ EndsByCalls calls (made_of shelf old new) host (contents t) answer.up answer.clean answer.end
    ends_by_calls = by booted.ended where
      by : WasEnded → (is_memory answer.end ≡ true) ⊎ EndsByCalls calls (made_of shelf old new) host (contents t) answer.up answer.clean answer.end
      by (inl memory) = inl memory
      by (inr (survey, at, end_by, letters)) = inr (record {
        survey = survey;
        read = read_of survey at (λ drive one_of out. (at.failed drive one_of out).1);
        by_hand = end_more calls calls (within_itself calls) (WroteFor shelf old at.looked new host.drives host.site answer.clean) (λ hand table progress. HandCalls (made_of shelf old new) host (contents t) answer.up at.calm answer.clean hand.seats table progress)
            (λ hand table progress wrote. record {
              within = hand_calls shelf old at.looked new host.site.key (looks_of host answer.up at.calm) at.reads hand table answer.clean progress wrote.rewrites;
              exactly = λ so. (let looks = at.exact so t told_old in (looks.0, looks.2, reads_then shelf old at.looked new _ _ _ looks.1 (wrote.rewrites.exact so)));
            }) host.site survey answer.end end_by;
        still = λ unwritten. looks_alone shelf old at.looked new host.site.key (looks_of host answer.up at.calm) at.reads (at.still unwritten);
      })

    wrote_of : has_written answer.end ≡ true → (made_of shelf old new).wrote
    wrote_of written = by booted.ended where
      by : WasEnded → (made_of shelf old new).wrote
      by (inl memory) = absurd (let still = memory_still answer.end memory in cc (still, written))
      by (inr (survey, at, end_by, letters)) = end_wrote shelf old at.looked new host.site.key _ at.reads host.drives calls host.site answer.clean survey answer.end end_by written

    -- its calls, as a line counts them
    pub boot_calls : IsUnclean → IsBootCounted shelf old new host.drives host.site answer
        → (memory next : Memory) (said : Answer) → said ≡ answered_by answer.end → (said ≡ accepted → next ≡ booted_with (opened_by answer.end) answer.up answer.clean memory.begun) → BootCalls calls (made_of shelf old new) host said next (contents t)
    boot_calls unclean counted memory next said said_is memory_is = record {
      most = counted.most;
      end = answer.end;
      answer_is = said_is;
      up = answer.up;
      clean = answer.clean;
      by = up_by unclean;
      tied = λ ok. (let is = memory_is ok in (ap (λ (m : Memory). m.opened) is, ap (λ (m : Memory). m.up) is, ap (λ (m : Memory). m.clean) is));
      by_hand = ends_by_calls;
      still = counted.still;
      wrote = wrote_of;
      exactly = λ clean. (let by = counted.clean clean t told_old in (by.0, by.1, end_calls shelf old new _ answer.end by.2));
    }

    -- it wrote to the places in hand alone
    wrote_to : (survey : Survey) (at : IsReadAt shelf old new host.drives host.site answer survey) (hand : _) (table : Table) (progress : Progress) → Rewrites shelf at.looked new host.site.key hand table answer.clean progress → WritesTo (contents t) (contents u) hand.seats
    wrote_to survey at hand table progress wrote drive block out =
        let looks = moments_end WritesNothing (shelf.tale old) (shelf.tale at.looked) at.unwritten t told_old in
        let writes = moments_end (RewriteMoment host.site.key hand table) (shelf.tale at.looked) (shelf.tale new) wrote.moments looks.0 looks.1 in
        let same : writes.0 ≡ u = some_is (shelf.tale new) writes.0 u writes.1 told_new in
        ap (λ (x : Tale). last x drive block) (sym same) ∙ (writes.2.quiet.outside drive block out).last ∙ (looks.2.outside drive block refl).last

    wrote_by : (survey : Survey) (at : IsReadAt shelf old new host.drives host.site answer survey) (hand : _) (table : Table) (progress : Progress) → WroteFor shelf old at.looked new host.drives host.site answer.clean hand table progress
        → WritesBy host.drives host.site.key (contents t) (contents u) hand.identity hand.number hand.seats table progress
    wrote_by survey at hand table progress wrote =
        let shows = wrote.shows t told_old in
        let same : shows.0 ≡ u = some_is (shelf.tale new) shows.0 u shows.1 told_new in
        record { to = wrote_to survey at hand table progress wrote.rewrites; hold = hold_on host.drives host.site.key hand table progress u (subst (λ (x : Tale). LeftHold host.drives host.site.key hand table progress x) same shows.2) }

    -- its end, as a line tells it
    module _ (unclean : IsUnclean) (away : (survey : Survey) (at : IsReadAt shelf old new host.drives host.site answer survey) → AreAway survey at) (failed : ℕ → Type 0) (moment : BootMoment failed host.drives host.site answer.end t u) (ends : BootEnds failed host.drives host.site answer t u) where
      pub ended : (is_memory answer.end ≡ true) ⊎ ((survey : Survey) × IsReadOf calls host (contents t) answer.up answer.end survey × IsEndBy calls (λ hand table progress. WritesBy host.drives host.site.key (contents t) (contents u) hand.identity hand.number hand.seats table progress) host.site survey answer.end)
      ended = by (is_memory answer.end) refl booted.ended where
        by : (b : Bool) → is_memory answer.end ≡ b → WasEnded
            → (is_memory answer.end ≡ true) ⊎ ((survey : Survey) × IsReadOf calls host (contents t) answer.up answer.end survey × IsEndBy calls (λ hand table progress. WritesBy host.drives host.site.key (contents t) (contents u) hand.identity hand.number hand.seats table progress) host.site survey answer.end)
        by true is end_by = inl is
        by false is (inl memory) = inl memory
        by false is (inr (survey, at, end_by, letters)) = inr (survey, read_of survey at (away survey at), end_more calls calls (within_itself calls) (WroteFor shelf old at.looked new host.drives host.site answer.clean) (λ hand table progress. WritesBy host.drives host.site.key (contents t) (contents u) hand.identity hand.number hand.seats table progress) (wrote_by survey at) host.site survey answer.end end_by)

      pub left : IsLeftBy host.drives answer.end (contents u)
      left = by answer.end ends.adopted where
        by : (e : BootEnd) → IfAdopted e (λ o. IsBootedTo failed host.drives host.site o t u) → IsLeftBy host.drives e (contents u)
        by (end.Adopted o) is = open_on host.drives o u is.2.opened
        by end.Empty is = tt
        by (end.TwoDatabases a b) is = tt
        by (end.NoQuorum readable needed) is = tt
        by (end.Lost active listed) is = tt
        by end.Spent is = tt
        by end.Memory is = tt

      pub rebooted : (memory next : Memory) (said : Answer) → said ≡ answered_by answer.end → (said ≡ accepted → next ≡ booted_with (opened_by answer.end) answer.up answer.clean memory.begun) → IsRebooted calls host (kept_at memory t) said (kept_at next u)
      rebooted memory next said said_is memory_is = record {
        end = answer.end;
        up = answer.up;
        clean = answer.clean;
        up_by = up_by unclean;
        by = ended;
        answer_is = said_is;
        memory = memory_is;
        content = left;
        beside = same_beside (boot_area host.site (has_written answer.end)) t u moment.2.quiet.outside;
      }
