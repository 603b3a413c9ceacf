-- Each moment at which the contract of a run says what was told is one that the run's other moments are shown by, and wherever it is stopped it is one more run of its life. From one such
-- moment it went on to another.
use Rattle.std.proofs.Common.{◌≡◌, refl, ℕ, List, [], ◌∷◌, Some, sym, ◌∙◌, subst, Contains}
use Rattle.std.proofs.lemmas.List.{append_cancel_left}
use Rattle.mdv_name.specs.declared.geometry.Geometry.{Geometry}
use Rattle.mdv_port.specs.Script.{Script}
use Rattle.mdv_run_law.specs.Lives.{HasMetNone, MayBeFound, Ran, host_of, IsNewWord}
use Rattle.mdv_run_law.specs.Run.{AreShown, At, Counts, IsShown, Stretch}
use Rattle.mdv_run_law.specs.Standing.{RunMoment}
use Rattle.mdv_run_law.specs.Told.{IsToldBy}
use Rattle.mdv_shelf.specs.Everywhere.{Image}
use Rattle.mdv_shelf.specs.Tale.{Call, Gave, Synced, Tale, Tore, Wrote, told}
use Rattle.mdv_shelf.specs.Moments.{During}
use Rattle.mdv_shelf.specs.Story.{AtEach, AtMarks, Mark, Moment, OfTales, Passed, Story, Tally, marked, moment_at, tale_of}
use Rattle.mdv_shelf.proofs.Stories.{at_marks_both, each_both, passed_weaker, same_marks}
use Rattle.mdv_theorem.specs.Running.{HaveMetNone, IsMomentOf, Lived, LivesOn, Running, Runs, RunsGoOn, RunsLiveOn, WentOn, ran_now, ran_on, run_on}

-- what each of these says of a moment, all of them say
during_all : {I : Type 0} (Q : I → Tale → Type 0) (t : Tale) (call : Call) → ((i : I) → During (Q i) t call) → During (λ m. (i : I) → Q i m) t call
during_all Q t (Gave piece count) each = λ k within i. each i k within
during_all Q t (Wrote drive at blocks) each = each
during_all Q t (Tore drive at blocks took) each = each
during_all Q t (Synced drive) each = each

marks_all : {I : Type 0} (Q : I → Moment → Type 0) (s : Story) (marks : List Mark) → ((i : I) → AtMarks (Q i) s marks) → AtMarks (λ m. (i : I) → Q i m) s marks
marks_all Q s [] each = tt
marks_all Q s (m ∷ marks) each = (marks_all Q s marks (λ i. (each i).0), during_all (λ i t. Q i (moment_at t m.tally)) (tale_of (marked s marks)) m.call (λ i. (each i).1))

passed_all : {I : Type 0} (P : Moment → Type 0) (Q : I → Moment → Type 0) (s : Story) (before : Tally) (u : Story) (after : Tally) → Passed P s before u after → ((i : I) → Passed (Q i) s before u after) → Passed (λ m. P m × ((i : I) → Q i m)) s before u after
passed_all {I} P Q s before u after one each = record {
  marks = one.marks;
  led = one.led;
  rising = one.rising;
  first = (one.first, λ i. (each i).first);
  each = at_marks_both P (λ m. (i : I) → Q i m) s one.marks one.each (marks_all Q s one.marks (λ i. subst (λ (ms : List Mark). AtMarks (Q i) s ms) (same_marks s (each i).marks one.marks (sym (each i).led ∙ one.led)) (each i).each));
  last = (one.last, λ i. (each i).last);
}

-- a place between two lines that the moments show
record Place (stretch : Stretch) : Type 0 where
  bytes : ℕ
  piece : ℕ
  at : At
  shown : IsShown stretch bytes piece at

-- it is shown by each moment
place_passed : (stretch : Stretch) (s u : Story) → stretch.old ≡ Some s → stretch.new ≡ Some u → (place : Place stretch) → Passed (AreShown place.bytes place.piece place.at (moment_at (tale_of s) stretch.before)) s stretch.before u stretch.after
place_passed stretch s u old new place =
    let is = place.shown s old in
    let same : is.0 ≡ u = (let both : Some is.0 ≡ Some u = sym is.1 ∙ new in cc both) in
    subst (λ (v : Story). Passed (AreShown place.bytes place.piece place.at (moment_at (tale_of s) stretch.before)) s stretch.before v stretch.after) same is.2

-- each moment is one that all places between two lines are shown by
with_places : (R : Moment → Moment → Type 0) (stretch : Stretch) → AtEach R stretch.old stretch.before stretch.new stretch.after → AtEach (λ t m. R t m × IsMomentOf stretch t m) stretch.old stretch.before stretch.new stretch.after
with_places R stretch each s old =
    let is = each s old in
    let t = moment_at (tale_of s) stretch.before in
    let all = passed_all (R t) (λ (place : Place stretch). AreShown place.bytes place.piece place.at t) s stretch.before is.0 stretch.after is.2 (place_passed stretch s is.0 old is.1) in (
      is.0,
      is.1,
      passed_weaker (λ m. R t m × ((place : Place stretch) → AreShown place.bytes place.piece place.at t m)) (λ m. R t m × IsMomentOf stretch t m) s stretch.before is.0 stretch.after
          (λ m here. (here.0, record { begins = (s, old, refl); shows = λ bytes piece at shown. here.1 (record { bytes = bytes; piece = piece; at = at; shown = shown }) })) all,
    )

module _ (drives : Geometry) (name : List ℕ) (made : Image) (before : List Ran) (fresh : ℕ) (script : Script) (stretch : Stretch) (start : Counts) (of_table : Contains drives.hosts name) (new_word : IsNewWord name fresh before) where
  -- what the contract says of a moment, and its places
  abbrev Says : Moment → Moment → Type 0
  Says t m = ((OfTales (RunMoment (host_of drives name fresh) script) t m × IsToldBy (host_of drives name fresh) stretch start script t m) × HasMetNone drives name before fresh script t.tale m.tale) × IsMomentOf stretch t m

  -- one more run behind any that led to its start
  one_more : (t m : Moment) (here : Says t m) (first : List Ran) (from : Tale) (runs : Runs drives first from before t.tale) (next : Tale) → MayBeFound m.tale next
      → (all : Runs drives first from (record { host = name; fresh = fresh; script = script; bytes = here.0.0.1.bytes } ∷ before) next) × (HaveMetNone runs → HaveMetNone all)
  one_more t m here first from runs next found =
      let same : here.0.0.0.bytes ≡ here.0.0.1.bytes = append_cancel_left (told t.tale) here.0.0.0.bytes here.0.0.1.bytes (sym here.0.0.0.is_told ∙ here.0.0.1.is_told) in
      subst (λ (bytes : List ℕ). (all : Runs drives first from (record { host = name; fresh = fresh; script = script; bytes = bytes } ∷ before) next) × (HaveMetNone runs → HaveMetNone all)) same
      (run_on before name fresh stretch start t m next script runs of_table new_word here.0.0.0 here.0.0.1 here.1 found, λ met. (met, here.0.1))

  lives_on : (t m : Moment) → Lived drives made before t.tale → Says t m → LivesOn drives name made before fresh script stretch start t m
  lives_on t m lived here =
      let same : here.0.0.0.bytes ≡ here.0.0.1.bytes = append_cancel_left (told t.tale) here.0.0.0.bytes here.0.0.1.bytes (sym here.0.0.0.is_told ∙ here.0.0.1.is_told) in
      record {
        run = record { made = made; fresh = fresh; stretch = stretch; start = start; t = t; m = m; life = lived; new_word = new_word; clean = here.0.1; tells = here.0.0.1; moment = here.1 };
        held = refl;
        numbered = refl;
        stretched = refl;
        counted = refl;
        started = refl;
        now = refl;
        stands = here.0.0.0;
        said = same;
        lived = λ next found. subst (λ (bytes : List ℕ). Lived drives made (record { host = name; fresh = fresh; script = script; bytes = bytes } ∷ before) next) same (record {
          fair = lived.fair;
          told = lived.told;
          new = lived.new;
          runs = run_on before name fresh stretch start t m next script lived.runs of_table new_word here.0.0.0 here.0.0.1 here.1 found;
          clean = (lived.clean, here.0.1);
        });
        adds = one_more t m here;
      }

pub runs_live_on : RunsLiveOn
runs_live_on drives name made before fresh script stretch start of_table new_word lived stands clean tells s old =
    let host = host_of drives name fresh in
    let met_none = OfTales (HasMetNone drives name before fresh script) in
    let both = each_both (OfTales (RunMoment host script)) (IsToldBy host stretch start script) stretch.old stretch.before stretch.new stretch.after stands tells in
    let all = each_both (λ t m. OfTales (RunMoment host script) t m × IsToldBy host stretch start script t m) met_none stretch.old stretch.before stretch.new stretch.after both clean in
    let says = Says drives name made before fresh script stretch start of_table new_word in
    let is = with_places (λ t m. (OfTales (RunMoment host script) t m × IsToldBy host stretch start script t m) × met_none t m) stretch all s old in
    let t = moment_at (tale_of s) stretch.before in
    (is.0, is.1, passed_weaker (says t) (LivesOn drives name made before fresh script stretch start t) s stretch.before is.0 stretch.after (λ m. lives_on drives name made before fresh script stretch start of_table new_word t m (lived s old)) is.2)

-- how a run starts: the word of its identities, its stretch, its counts of failures and its first moment
abbrev Start : Type 0
Start = ℕ × Stretch × Counts × Moment

module _ (drives : Geometry) (name : List ℕ) (made : Image) (before : List Ran) (script : Script) (m : Moment) (next : Tale) (run : Running drives name before script) where
  -- from that start the run went on to the moment
  abbrev GoesOn : Start → Type 0
  GoesOn at = (later : LivesOn drives name made before at.0 script at.1 at.2 at.3 m) → MayBeFound m.tale next → (went : WentOn run next) × (went.m ≡ m) × (ran_on run next went ≡ ran_now later.run)

  goes_on : GoesOn (run.fresh, run.stretch, run.start, run.t)
  goes_on later found =
      let same : ◌≡◌ {A = Start × Moment} ((later.run.fresh, later.run.stretch, later.run.start, later.run.t), later.run.m) ((run.fresh, run.stretch, run.start, run.t), m) =
      λ i. ((later.numbered i, later.stretched i, later.counted i, later.started i), later.now i) in (
        record {
          m = m;
          stands = later.stands;
          tells = subst (λ (at : Start × Moment). IsToldBy (host_of drives name at.0.0) at.0.1 at.0.2 script at.0.3 at.1) same later.run.tells;
          moment = subst (λ (at : Start × Moment). IsMomentOf at.0.1 at.0.3 at.1) same later.run.moment;
          clean = subst (λ (at : Start × Moment). HasMetNone drives name before at.0.0 script at.0.3.tale at.1.tale) same later.run.clean;
          found = found;
        },
        refl,
        λ i. record { host = name; fresh = sym later.numbered i; script = script; bytes = later.said i },
      )

pub runs_go_on : RunsGoOn
runs_go_on drives name made before fresh script stretch start t m next run numbered stretched counted started =
    let same : ◌≡◌ {A = Start} (run.fresh, run.stretch, run.start, run.t) (fresh, stretch, start, t) = λ i. (numbered i, stretched i, counted i, started i) in
    subst (GoesOn drives name made before script m next run) same (goes_on drives name made before script m next run)
