-- Behind earlier runs that made its database, a run of a life doesn't end because fewer than half of its places are active, where half of the slices, or more, on which the replicas may lie are on drives on which no call fails.
use Rattle.std.proofs.Common.{◌≡◌, ℕ, List, ◌++◌, Some, Contains, refl, sym, ◌∙◌, subst}
use Rattle.mdv_base.specs.declared.drive.SliceName.{SliceName}
use Rattle.mdv_engine_law.specs.Line.{contents}
use Rattle.mdv_engine_law.specs.Standing.{AreOwn}
use Rattle.mdv_engine_law.specs.declared.host.Host.{Host}
use Rattle.mdv_home.proofs.Viewing.{view_is_own}
use Rattle.mdv_name.specs.declared.geometry.Geometry.{Geometry}
use Rattle.mdv_port.specs.Script.{Script}
use Rattle.mdv_run_law.proofs.Owning.{none_own}
use Rattle.mdv_run_law.specs.Lives.{HasMetNone, IsHistoryOf, IsNewWord, Ran, host_of}
use Rattle.mdv_run_law.specs.Run.{Counts, IsOfTable, IsRun, Stretch}
use Rattle.mdv_run_law.specs.declared.status.RunStatus.{RunStatus}
use Rattle.mdv_run_law.specs.declared.status.RunStatus.TheVariants as status
use Rattle.mdv_engine_law.specs.Line.{Kept}
use Rattle.mdv_shelf.proofs.Stories.{marked_more, same_marks}
use Rattle.mdv_shelf.specs.Everywhere.{Image}
use Rattle.mdv_shelf.specs.Story.{AtEach, AtMarks, Mark, Moment, Story, Tally, marked, moment_at, tale_of}
use Rattle.mdv_volumes.specs.History.{History, history_after_all}
use Rattle.mdv_volumes.specs.HistoryLaws.{new_history}
use Rattle.mdv_theorem.specs.Exchanges.{Exchange, exchanges_by, exchanges_of}
use Rattle.mdv_theorem.specs.Observed.{EnoughStay}
use Rattle.mdv_theorem.specs.Running.{Lived, LivesOn}
use Rattle.mdv_theorem.specs.Words.{IsMadeOn, KeepsDatabase, MayBecome, MayLieOn, spread}
use Rattle.mdv_theorem.proofs.Booted.{at_prefix}
use Rattle.mdv_theorem.proofs.Clean.{its_start}
use Rattle.mdv_theorem.proofs.Come.{HasMetNothing}
use Rattle.mdv_theorem.proofs.Lain.{LieBehind}
use Rattle.mdv_theorem.proofs.Panicking.{whole_never}
use Rattle.std.proofs.lemmas.List.Elements.{Contains-append_right}

module _ (drives : Geometry) (name : List ℕ) (of_table : Contains drives.hosts name) (made : Image) (before : List Ran) (fresh : ℕ) (script : Script) (stretch : Stretch) (start close : Counts) (s : Story) (old : stretch.old ≡ Some s)
    (each : AtEach (LivesOn drives name made before fresh script stretch start) stretch.old stretch.before stretch.new stretch.after) where
  abbrev Says : Moment → Type 0
  Says m = LivesOn drives name made before fresh script stretch start (moment_at (tale_of s) stretch.before) m

  -- the marks of a point are the first ones of a story that goes on from there
  front_marks : (u : Story) (marks back front : List Mark) → stretch.new ≡ Some u → u ≡ marked s marks → stretch.new ≡ Some (marked (marked s front) back) → marks ≡ back ++ front
  front_marks u marks back front new led goes_on =
      let both : Some u ≡ Some (marked (marked s front) back) = sym new ∙ goes_on in
      let same : u ≡ marked (marked s front) back = cc (both) in
      same_marks s marks (back ++ front) (sym led ∙ same ∙ marked_more s front back)

  -- at each point of its story the run is one that is under way
  lives_at : (marks back : List Mark) → stretch.new ≡ Some (marked (marked s marks) back) → (tally : Tally) × Says (moment_at (tale_of (marked s marks)) tally)
  lives_at front back goes_on =
      let all = each s old in
      let marks = front_marks all.0 all.2.marks back front all.1 all.2.led goes_on in
      at_prefix Says s stretch.before back front all.2.first (subst (λ (ms : List Mark). AtMarks Says s ms) marks all.2.each)

  begins : Says (moment_at (tale_of s) stretch.before)
  begins = (each s old).2.first

  abbrev its : Host
  its = host_of drives name fresh

  pub is_host : IsOfTable its
  is_host = record { table = drives; name = name; key = refl; view = refl; site = refl; sound = view_is_own.sound drives name begins.run.life.fair }

  -- no boot of it met a stale vote in a history of the runs before
  pub clean_of : (history : IsHistoryOf drives name made before (tale_of s)) (marks back : List Mark) → stretch.new ≡ Some (marked (marked s marks) back) → HasMetNothing its script (history_after_all new_history history.es) (tale_of s) (tale_of (marked s marks))
  clean_of history marks back goes_on = clean made history where
    at : (tally : Tally) × Says (moment_at (tale_of (marked s marks)) tally)
    at = lives_at marks back goes_on

    of_fresh : HasMetNone drives name before fresh script at.1.run.t.tale at.1.run.m.tale
    of_fresh = subst (λ (n : ℕ). HasMetNone drives name before n script at.1.run.t.tale at.1.run.m.tale) at.1.numbered at.1.run.clean

    of_start : HasMetNone drives name before fresh script (tale_of s) at.1.run.m.tale
    of_start = subst (λ (x : Moment). HasMetNone drives name before fresh script x.tale at.1.run.m.tale) at.1.started of_fresh

    clean : HasMetNone drives name before fresh script (tale_of s) (tale_of (marked s marks))
    clean = subst (λ (x : Moment). HasMetNone drives name before fresh script (tale_of s) x.tale) at.1.now of_start

  pub new_word : IsNewWord name fresh before
  new_word = subst (λ (n : ℕ). IsNewWord name n before) begins.numbered begins.run.new_word

  pub owned : (history : IsHistoryOf drives name made before (tale_of s)) → AreOwn its 0 (history_after_all new_history history.es)
  owned history = none_own drives name before fresh history.es new_word history.come

  pub lived : Lived drives made before (tale_of s)
  lived = subst (λ (x : Moment). Lived drives made before x.tale) begins.started (subst (λ (x : Image). Lived drives x before begins.run.t.tale) begins.held begins.run.life)

  -- one of these histories, with which the drives stand
  pub history_there : IsHistoryOf drives name made before (tale_of s)
  history_there = subst (λ (x : Moment). IsHistoryOf drives name made before x.tale) begins.started (subst (λ (x : Image). IsHistoryOf drives name x before begins.run.t.tale) begins.held (its_start begins.run of_table))

  module _ (from : List SliceName) (lines : List Exchange) (behind : LieBehind drives name of_table made from lines before (tale_of s)) where
    abbrev h : History
    h = history_after_all new_history behind.history.es

    -- what the run told, and how it ended
    pub stayed : (more : List ℕ) (is_made : IsMadeOn (exchanges_by name before ++ exchanges_of script more)) → from ≡ spread is_made.count is_made.slices → is_made.behind ≡ lines ++ exchanges_of script more
        → ((slices : List SliceName) → MayLieOn drives name is_made slices → EnoughStay drives name start close slices) → (end_status : RunStatus) (last_kept : Kept) (run : IsRun its stretch start close (contents (tale_of s)) script more end_status last_kept)
        → (active listed : ℕ) → end_status ≡ status.Panic active listed → ⊥
    stayed more is_made from_is parts enough end_status last_kept run active listed panic =
        whole_never drives name from fresh script h is_host stretch start close s old behind.history.stands (owned behind.history) (clean_of behind.history) lines behind.lie more keeps
        (λ slices may. enough slices (subst (λ (l : List Exchange). MayBecome drives name l (spread is_made.count is_made.slices) slices) (sym parts) (subst (λ (f : List SliceName). MayBecome drives name (lines ++ exchanges_of script more) f slices) from_is may)))
        end_status last_kept run active listed panic
      where
        keeps : KeepsDatabase (exchanges_of script more)
        keeps one has = is_made.stays one (subst (λ (l : List Exchange). Contains l one) (sym parts) (Contains-append_right lines (exchanges_of script more) one has))
