-- A run's boot as its moments show it: from the first byte that is told on, no drive had failed less often than by the boot's end.
use Rattle.std.proofs.Common.{◌≡◌, ℕ, ◌≤◌, length, sym, ap, subst, arith}
use Rattle.mdv_engine_law.specs.Line.{Kept}
use Rattle.mdv_port.specs.Script.{Script}
use Rattle.mdv_run_law.specs.Run.{AreShown, At, Counts, IsPoint, IsShown, Progress, Stretch, behind_boot}
use Rattle.mdv_shelf.specs.Calls.{OnDrive, OnReplies}
use Rattle.mdv_shelf.specs.Story.{Moment, Story, Tally, moment_at, tale_of}
use Rattle.mdv_shelf.specs.Tale.{told}
use Rattle.mdv_shelf.proofs.Stories.{Between, passed_more, passed_weaker}
use Rattle.mdv_shelf.proofs.Telling.{IsToldBetween, IsWithin, passed_within}

module _ (stretch : Stretch) (source : ℕ) (booted : Counts) (by : Progress) (kept : Kept) (script : Script) (point : IsPoint stretch source booted by kept.content) where
  abbrev place : At
  place = behind_boot booted by kept script

  -- before the boot's end nothing was told
  before_it : (s v : Story) → told (tale_of v) ≡ told (tale_of s) → (m : Moment) → IsToldBetween (tale_of s) (tale_of v) m → AreShown 0 0 place (moment_at (tale_of s) stretch.before) m
  before_it s v quiet m bytes =
      let same : length (told (tale_of v)) ≡ length (told (tale_of s)) = ap length quiet in
      let low = bytes.0 in
      let high = bytes.1 in
      record {
        before = λ few. absurd (omega (arith, few, low));
        behind = λ some. absurd (omega (arith, some, high, same));
        reads = λ some few. absurd (omega (arith, some, few));
        calls = λ some few. absurd (omega (arith, some, few));
      }

  -- and behind it no part had failed less often
  behind_it : (s v : Story) → told (tale_of v) ≡ told (tale_of s) → (m : Moment) → Between point.faults stretch.after.faults m → length (told (tale_of v)) ≤ length (told m.tale) → AreShown 0 0 place (moment_at (tale_of s) stretch.before) m
  behind_it s v quiet m between low =
      let same : length (told (tale_of v)) ≡ length (told (tale_of s)) = ap length quiet in
      let counted = point.counts_are in
      record {
        before = λ few. absurd (omega (arith, few, low, same));
        behind = λ some. record {
          drives = λ drive. subst (λ (c : Counts). c.drives drive ≤ m.faults (OnDrive drive)) (sym counted) (between.0 (OnDrive drive));
          source = omega arith;
          replies = subst (λ (c : Counts). c.replies ≤ m.faults OnReplies) (sym counted) (between.0 OnReplies);
        };
        reads = λ some few. absurd (omega (arith, some, few));
        calls = λ some few. absurd (omega (arith, some, few));
      }

  pub boot_shown : IsShown stretch 0 0 place
  boot_shown s old =
      let upto = point.before s old in
      let on = point.behind upto.0 upto.1 in
      let mid : Tally = record { faults = point.faults; effort = by.effort } in
      let quiet = point.quiet s upto.0 old upto.1 in
      let Shown : Moment → Type 0 = AreShown 0 0 place (moment_at (tale_of s) stretch.before) in
      let Any : Moment → Type 0 = λ m. Unit {0} in
      let first = passed_weaker (λ m. Any m × IsWithin s stretch.before upto.0 mid m) Shown s stretch.before upto.0 mid (λ m here. before_it s upto.0 quiet m here.1.bytes) (passed_within Any s stretch.before upto.0 mid upto.2) in
      let second = passed_weaker (λ m. Any m × IsWithin upto.0 mid on.0 stretch.after m) Shown upto.0 mid on.0 stretch.after (λ m here. behind_it s upto.0 quiet m here.1.counts here.1.bytes.0) (passed_within Any upto.0 mid on.0 stretch.after on.2) in
      (on.0, on.1, passed_more Shown s stretch.before upto.0 mid on.0 stretch.after first second)
