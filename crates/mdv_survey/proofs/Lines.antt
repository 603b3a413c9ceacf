-- How far the look at the slices of a site has come.
use Rattle.std.proofs.Common.{◌≡◌, ◌≢◌, inl, inr, ℕ, suc, ◌*◌, ◌+◌, ◌<◌, ◌≤◌, Bool, true, false, ◌&&◌, not, List, [], ◌∷◌, ◌++◌, length, take, drop, refl, sym, ◌∙◌, ap, subst, None, arith, drop-cons}
use Rattle.std.specs.Bool.{MatchBool}
use Rattle.std.specs.Prelude.{Contains, slice_index_or}
use Rattle.std.proofs.lemmas.List.{take-append-drop, take_all, take_more}
use Rattle.std.proofs.lemmas.List.Elements.{Contains-push_cases}
use Rattle.mdv_base.specs.Causes.{RoseOnce}
use Rattle.mdv_shelf.specs.Calls.{Part, OnDrive}
use Rattle.mdv_shelf.specs.Drives.{KeptAmong}
use Rattle.mdv_shelf.specs.Shelves.{KeptOn}
use Rattle.mdv_shelf.proofs.Among.{among_none}
use Rattle.mdv_shelf.proofs.InTime.{is_part}
use Rattle.mdv_survey.specs.Below.{DriveNo, Drives, Geometry, Ghosts, Site, SliceLine, Tale, has_drive, last}
use Rattle.mdv_survey.specs.Newest.{HasTable, IsMarked}
use Rattle.mdv_survey.specs.Replica.{AreOrdered, Contents, IsFoundIn}
use Rattle.mdv_survey.specs.Slice.{AreFound, AreListed, IsPassed, WasLookedAt}
use Rattle.mdv_survey.specs.Slots.{OnlyReads}
use Rattle.mdv_survey.specs.Steps.{IsLineLook, WasOneLook, WentAlong}
use Rattle.mdv_survey.specs.Survey.{AreWithin, FailedOn, HaveFailed, IsSurvey, IsSurveyOf, KeptToo, ListsLine, LooksAtLine, answers_in}
use Rattle.mdv_survey.specs.declared.replica.Finds.{Finds}
use Rattle.mdv_survey.specs.declared.replica.Other.{Other}
use Rattle.mdv_survey.specs.declared.replica.Replica.{Replica}
use Rattle.mdv_survey.specs.declared.replica.Survey.{Survey}
use Rattle.mdv_survey.proofs.Efforts.{counted_more, counted_none, counted_weaker, lines_later, lines_more}
use Rattle.mdv_survey.specs.Counts.{AreLinesBy, IsCounted, IsLineBy, IsSliceBy}
use Rattle.mdv_survey.proofs.Listing.{listed_line, looked_line}
use Rattle.mdv_survey.proofs.Told.{told_fewer, told_narrower, told_unanswered}

-- a slice line of no slice, where none is under way
abbrev pub no_line : SliceLine
no_line = record { name = record { drive = record { controller = 0; target = 0; disk = 0 }; slice = 0 }; at = record { drive = record { 0 = 0 }; start = 0; blocks = 0; db = false } }

abbrev line_at : List SliceLine → ℕ → SliceLine
line_at lines at = slice_index_or lines at no_line

pub up_of : (a b : Bool) → (a && not b) ≡ true → a ≡ true
up_of true b is = refl
up_of false b is = absurd (cc (is))

pub unfailed_of : (a b : Bool) → (a && not b) ≡ true → b ≡ false
unfailed_of true true is = absurd (cc (is))
unfailed_of true false is = refl
unfailed_of false b is = absurd (cc (is))

answers_of : (a b : Bool) → a ≡ true → b ≡ false → (a && not b) ≡ true
answers_of a b up not_failed = ap (λ (x : Bool). x && not b) up ∙ ap (λ (x : Bool). not x) not_failed

module _ (g : Geometry) (site : Site) (content : Contents) where
  -- of a slice whose drive doesn't pass the test nothing is said
  found_unanswered : (answers : DriveNo → Bool) (lines : List SliceLine) (line : SliceLine) (finds : Finds) → (answers line.at.drive ≡ true → ⊥)
      → AreFound g site answers lines line 0 content finds → AreFound g site answers (lines ++ line ∷ []) line 0 content finds
  found_unanswered answers lines line finds never found = record { each = found.each; all = all; table = found.table; told = told_unanswered g site content answers lines line finds never found.told }
    where
      all : (r : Replica) → IsFoundIn g site content r → answers r.line.at.drive ≡ true → WasLookedAt (lines ++ line ∷ []) line 0 r → Contains finds.replicas r
      all r there answered (inr (same, less)) = absurd (omega (arith, less))
      all r there answered (inl has) = elim (Contains-push_cases lines line r.line has) [
        | inl earlier ↦ found.all r there answered (inl earlier)
        | inr same ↦ absurd (never (subst (λ (l : SliceLine). answers l.at.drive ≡ true) (sym same) answered))
      ]

  -- fewer drives pass
  found_narrower : (answers fewer : DriveNo → Bool) (lines : List SliceLine) (line : SliceLine) (finds : Finds) → ((drive : DriveNo) → fewer drive ≡ true → answers drive ≡ true)
      → AreFound g site answers lines line 0 content finds → AreFound g site fewer lines line 0 content finds
  found_narrower answers fewer lines line finds within found = record {
    each = found.each;
    all = λ r there answered looked. found.all r there (within r.line.at.drive answered) looked;
    table = found.table;
    told = told_narrower g site content answers lines line fewer finds within found.told;
  }

  pub found_line : (answers : DriveNo → Bool) (lines : List SliceLine) (line other : SliceLine) (finds : Finds) → AreFound g site answers lines line 0 content finds → AreFound g site answers lines other 0 content finds
  found_line answers lines line other finds found = record {
    each = found.each;
    all = λ r there answered looked. found.all r there answered (looked_line lines other line r looked);
    table = found.table;
    told = told_fewer g site content answers lines line 0 other finds found.told;
  }

  -- the drive isn't up, or a call on it had failed
  pub looks_down : (up failed : Drives) (line : SliceLine) (finds : Finds) → answers_in up failed line.at.drive ≡ false → LooksAtLine g site up line content failed finds failed finds
  looks_down up failed line finds down lines found =
      found_unanswered (answers_in up failed) lines line finds
      (λ answered. absurd (cc (answered, down))) found

  -- a call on it failed
  pub looks_failed : (up before now : Drives) (line : SliceLine) (old new : Finds) → has_drive now line.at.drive ≡ true → ((other : DriveNo) → other ≢ line.at.drive → has_drive now other ≡ has_drive before other)
      → ((answers : DriveNo → Bool) (lines : List SliceLine) → AreFound g site answers lines line 0 content old → AreFound g site answers lines line 0 content new)
      → LooksAtLine g site up line content before old now new
  looks_failed up before now line old new added others looked lines found =
      found_unanswered (answers_in up now) lines line new
      (λ answered. (let unfailed = unfailed_of (has_drive up line.at.drive) (has_drive now line.at.drive) answered in absurd (cc (unfailed, added))))
      (found_narrower (answers_in up before) (answers_in up now) lines line new narrower (looked (answers_in up before) lines found))
    where
      narrower : (drive : DriveNo) → answers_in up now drive ≡ true → answers_in up before drive ≡ true
      narrower drive answered =
          let is_up = up_of (has_drive up drive) (has_drive now drive) answered in
          let unfailed = unfailed_of (has_drive up drive) (has_drive now drive) answered in
          let apart : drive ≢ line.at.drive = λ same. absurd (cc (unfailed, added, same)) in
          answers_of (has_drive up drive) (has_drive before drive) is_up (sym (others drive apart) ∙ unfailed)

module _ {S : Type 0} (shelf : Ghosts S) where
  -- the counts of all drives stand where the one's does, on which the calls were
  same_faults : (old new : S) (drive : DriveNo) → KeptOn shelf old new (OnDrive drive.0) → shelf.faults new (OnDrive drive.0) ≡ shelf.faults old (OnDrive drive.0) → (other : ℕ) → shelf.faults new (OnDrive other) ≡ shelf.faults old (OnDrive other)
  same_faults old new drive kept calm other = elim (is_part (OnDrive other) (OnDrive drive.0)) [
    | inl same ↦ subst (λ (p : Part). shelf.faults new p ≡ shelf.faults old p) (sym same) calm
    | inr apart ↦ kept.others (OnDrive other) apart
  ]

  have_none : (old new : S) (drive : DriveNo) (failed : Drives) → KeptOn shelf old new (OnDrive drive.0) → shelf.faults new (OnDrive drive.0) ≡ shelf.faults old (OnDrive drive.0)
      → (start : S) → HaveFailed shelf start old failed → HaveFailed shelf start new failed
  have_none old new drive failed kept calm start have other =
      subst (λ (n : ℕ). MatchBool (has_drive failed other) (RoseOnce (shelf.faults start (OnDrive other.0)) n) (n ≡ shelf.faults start (OnDrive other.0)))
      (sym (same_faults old new drive kept calm other.0)) (have other)

  rose_more : (b : Bool) (start old new : ℕ) → b ≡ false → MatchBool b (RoseOnce start old) (old ≡ start) → RoseOnce old new → RoseOnce start new
  rose_more true start old new not rose once = absurd (cc (not))
  rose_more false start old new not same once = omega (arith, same, once)

  have_one : (old new : S) (drive : DriveNo) (before now : Drives) → KeptOn shelf old new (OnDrive drive.0) → RoseOnce (shelf.faults old (OnDrive drive.0)) (shelf.faults new (OnDrive drive.0))
      → has_drive before drive ≡ false → has_drive now drive ≡ true → ((other : DriveNo) → other ≢ drive → has_drive now other ≡ has_drive before other)
      → (start : S) → HaveFailed shelf start old before → HaveFailed shelf start new now
  have_one old new drive before now kept once unfailed added others start have other = elim (is_part (OnDrive other.0) (OnDrive drive.0)) [
    | inl same ↦ here (number_of other.0 drive.0 same)
    | inr apart ↦ subst (λ (b : Bool). MatchBool b (RoseOnce (shelf.faults start (OnDrive other.0)) (shelf.faults new (OnDrive other.0))) (shelf.faults new (OnDrive other.0) ≡ shelf.faults start (OnDrive other.0)))
        (sym (others other (λ same. apart (ap (λ (d : DriveNo). OnDrive d.0) same))))
        (subst (λ (n : ℕ). MatchBool (has_drive before other) (RoseOnce (shelf.faults start (OnDrive other.0)) n) (n ≡ shelf.faults start (OnDrive other.0))) (sym (kept.others (OnDrive other.0) apart)) (have other))
  ]
    where
      number_of : (a b : ℕ) → OnDrive a ≡ OnDrive b → a ≡ b
      number_of a b same = cc (same)

      here : other.0 ≡ drive.0 → MatchBool (has_drive now other) (RoseOnce (shelf.faults start (OnDrive other.0)) (shelf.faults new (OnDrive other.0))) (shelf.faults new (OnDrive other.0) ≡ shelf.faults start (OnDrive other.0))
      here same =
          let is : other ≡ drive = λ i. record { 0 = same i } in
          subst (λ (d : DriveNo). MatchBool (has_drive now d) (RoseOnce (shelf.faults start (OnDrive d.0)) (shelf.faults new (OnDrive d.0))) (shelf.faults new (OnDrive d.0) ≡ shelf.faults start (OnDrive d.0))) (sym is)
          (subst (λ (b : Bool). MatchBool b (RoseOnce (shelf.faults start (OnDrive drive.0)) (shelf.faults new (OnDrive drive.0))) (shelf.faults new (OnDrive drive.0) ≡ shelf.faults start (OnDrive drive.0))) (sym added)
          (rose_more (has_drive before drive) (shelf.faults start (OnDrive drive.0)) (shelf.faults old (OnDrive drive.0)) (shelf.faults new (OnDrive drive.0)) unfailed (have drive) once))

  pub failed_none : (old new : S) (drive : DriveNo) (up failed : Drives) → KeptOn shelf old new (OnDrive drive.0) → shelf.faults new (OnDrive drive.0) ≡ shelf.faults old (OnDrive drive.0) → FailedOn shelf old new up failed failed
  failed_none old new drive up failed kept calm = record { have = have_none old new drive failed kept calm; later = λ other not. not; within = λ so. so }

  pub failed_one : (old new : S) (drive : DriveNo) (up before now : Drives) → KeptOn shelf old new (OnDrive drive.0) → RoseOnce (shelf.faults old (OnDrive drive.0)) (shelf.faults new (OnDrive drive.0))
      → has_drive before drive ≡ false → has_drive now drive ≡ true → ((other : DriveNo) → other ≢ drive → has_drive now other ≡ has_drive before other) → has_drive up drive ≡ true → FailedOn shelf old new up before now
  failed_one old new drive up before now kept once unfailed added others is_up = record {
    have = have_one old new drive before now kept once unfailed added others;
    later = λ other not. sym (others other (λ same. absurd (cc (same, not, added)))) ∙ not;
    within = λ so other has. elim (is_part (OnDrive other.0) (OnDrive drive.0)) [
      | inl same ↦ (let number : other.0 ≡ drive.0 = cc (same) in let is : other ≡ drive = λ i. record { 0 = number i } in ap (has_drive up) is ∙ is_up)
      | inr apart ↦ so other (sym (others other (λ same. apart (ap (λ (d : DriveNo). OnDrive d.0) same))) ∙ has)
    ];
  }

-- the calls on a slice whose drive answered
pub line_answered : (g : Geometry) (site : Site) (content : Contents) (up failed : Drives) (line : SliceLine) (n : ℕ) → answers_in up failed line.at.drive ≡ true → n ≤ 765 → IsSliceBy g site line (content line.at.drive.0) n
    → IsLineBy g site up failed content line n
line_answered g site content up failed line n answered few slice =
    subst (λ (b : Bool). MatchBool b ((n ≤ 765) × (has_drive failed line.at.drive ≡ false → IsSliceBy g site line (content line.at.drive.0) n)) (n ≡ 0))
    (sym (up_of (has_drive up line.at.drive) (has_drive failed line.at.drive) answered)) (few, λ not. slice)

-- those on one whose drive isn't up, or on whose drive a call had failed
pub line_down : (g : Geometry) (site : Site) (content : Contents) (up failed : Drives) (line : SliceLine) → answers_in up failed line.at.drive ≡ false → IsLineBy g site up failed content line 0
line_down g site content up failed line down = by (has_drive up line.at.drive) (has_drive failed line.at.drive) (IsSliceBy g site line (content line.at.drive.0) 0) down
  where
    by : (u f : Bool) (Slice : Type 0) → (u && not f) ≡ false → MatchBool u ((0 ≤ 765) × (f ≡ false → Slice)) (◌≡◌ {A = ℕ} 0 0)
    by true true Slice down = (omega arith, λ not_failed. absurd (cc (not_failed)))
    by true false Slice down = absurd (cc (down))
    by false f Slice down = refl

-- and on one on whose drive a call failed
pub line_failed : (g : Geometry) (site : Site) (content : Contents) (up failed : Drives) (line : SliceLine) (n : ℕ) → has_drive up line.at.drive ≡ true → has_drive failed line.at.drive ≡ true → n ≤ 765 → IsLineBy g site up failed content line n
line_failed g site content up failed line n is_up has few =
    subst (λ (b : Bool). MatchBool b ((n ≤ 765) × (has_drive failed line.at.drive ≡ false → IsSliceBy g site line (content line.at.drive.0) n)) (n ≡ 0)) (sym is_up) (few, λ not_failed. absurd (cc (not_failed, has)))

-- one slice more
along_push : {S : Type 0} (shelf : Ghosts S) (g : Geometry) (site : Site) (up : Drives) (lines : List SliceLine) (line : SliceLine) (old mid new : S) (begun before now : Drives)
    → WentAlong shelf g site up lines old mid begun before → IsLineLook shelf g site up line mid new before now → WentAlong shelf g site up (lines ++ line ∷ []) old new begun now
along_push {S} shelf g site up [] line old mid new begun before now (same, none) step =
    (new, now, subst (λ (s : S). IsLineLook shelf g site up line s new begun now) same (subst (λ (d : Drives). IsLineLook shelf g site up line mid new d now) none step), (refl, refl))
along_push {S} shelf g site up (l ∷ lines) line old mid new begun before now (m, between, here, rest) step =
    (m, between, here, along_push shelf g site up lines line m mid new between before now rest step)

-- what was looked at of the site so far
pub record SoSurveyed {S : Type 0} (shelf : Ghosts S) (g : Geometry) (site : Site) (up : Drives) (all : List SliceLine) (at : ℕ) (start now : S) (failed : Drives) (finds : Finds) : Type 0 where
  pub reads : OnlyReads shelf (λ t. AreFound g site (answers_in up failed) (take at all) no_line 0 (last t) finds) start now
  pub have : HaveFailed shelf start now failed
  pub within : AreWithin failed up
  pub kept : KeptAmong shelf start now site.drives
  pub listed : AreListed site up (take at all) no_line 0 finds
  pub counted : IsCounted shelf start now (765 * at) (λ t n. AreLinesBy g site up failed (last t) (take at all) n)
  pub begun : Drives
  pub clear : (drive : DriveNo) → has_drive begun drive ≡ false
  pub steps : WentAlong shelf g site up (take at all) start now begun failed

never_in : {X : Type 0} (x : X) → Contains [] x → ⊥
never_in x has = absurd (omega (arith, has.1))

module _ {S : Type 0} (shelf : Ghosts S) (g : Geometry) (site : Site) (up : Drives) where
  pub surveyed_none : (lines : List SliceLine) (start : S) (failed : Drives) (finds : Finds) → ((drive : DriveNo) → has_drive failed drive ≡ false) → finds.replicas ≡ [] → finds.newest ≡ None → finds.others ≡ [] → SoSurveyed shelf g site up lines 0 start start failed finds
  surveyed_none lines start failed finds none empty no_table no_others = record {
    reads = record {
      same = refl;
      gave = λ t is. record {
        each = λ r has. absurd (nothing r has);
        all = λ r there answered looked. absurd (nowhere r.line r.number looked);
        table = table (last t);
        told = record { each = λ o has. absurd (no_other o has); all = λ l k at one answered passed comes. absurd (nowhere l k passed) };
      };
    };
    have = λ drive. subst (λ (b : Bool). MatchBool b (RoseOnce (shelf.faults start (OnDrive drive.0)) (shelf.faults start (OnDrive drive.0))) (shelf.faults start (OnDrive drive.0) ≡ shelf.faults start (OnDrive drive.0))) (sym (none drive)) refl;
    within = λ drive has. absurd (cc (has, none drive));
    kept = among_none shelf start site.drives;
    listed = record {
      each = λ r has. absurd (nothing r has);
      looked_at = λ r has. absurd (nothing r has);
      ordered = subst (AreOrdered site.lines) (sym empty) tt;
      marked = subst (IsMarked finds.replicas) (sym no_table) (λ r has. absurd (nothing r has));
      others_on = λ o has. absurd (no_other o has);
    };
    counted = counted_none shelf start (765 * 0) (λ t n. AreLinesBy g site up failed (last t) [] n) (λ t. refl);
    begun = failed;
    clear = none;
    steps = (refl, refl);
  }
    where
      nothing : (r : Replica) → Contains finds.replicas r → ⊥
      nothing r has = never_in r (subst (λ (rs : List Replica). Contains rs r) empty has)

      no_other : (o : Other) → Contains finds.others o → ⊥
      no_other o has = never_in o (subst (λ (os : List Other). Contains os o) no_others has)

      nowhere : (l : SliceLine) (k : ℕ) → IsPassed [] no_line 0 l k → ⊥
      nowhere l k (inl has) = never_in l has
      nowhere l k (inr (same, less)) = absurd (omega (arith, less))

      table : (content : Contents) → HasTable g content finds.replicas finds.newest
      table content = subst (HasTable g content finds.replicas) (sym no_table) tt

  pub surveyed_more : (lines : List SliceLine) (at : ℕ) → at < length lines → site.lines ≡ lines → (start mid now : S) (before after : Drives) (old new : Finds)
      → SoSurveyed shelf g site up lines at start mid before old → ListsLine site up (slice_index_or lines at no_line) old new
      → OnlyReads shelf (λ t. LooksAtLine g site up (slice_index_or lines at no_line) (last t) before old after new) mid now
      → IsLineLook shelf g site up (slice_index_or lines at no_line) mid now before after → KeptToo shelf mid now site.drives → SoSurveyed shelf g site up lines (at + 1) start now after new
  surveyed_more lines at less all start mid now before after old new so lists reads looked kept = record {
    reads = record {
      same = reads.same ∙ so.reads.same;
      gave = λ t is. subst (λ (ls : List SliceLine). AreFound g site (answers_in up after) ls no_line 0 (last t) new) (sym more)
          (found_line g site (last t) (answers_in up after) (take at lines ++ line_at lines at ∷ []) (line_at lines at) no_line new
          (reads.gave t (so.reads.same ∙ is) (take at lines) (found_line g site (last t) (answers_in up before) (take at lines) no_line (line_at lines at) old (so.reads.gave t is))));
    };
    have = looked.failed.have start so.have;
    within = looked.failed.within so.within;
    kept = kept start so.kept;
    listed = subst (λ (ls : List SliceLine). AreListed site up ls no_line 0 new) (sym more)
        (listed_line site up (take at lines ++ line_at lines at ∷ []) (line_at lines at) no_line new (lists (take at lines) (drop (suc at) lines) split (listed_line site up (take at lines) no_line (line_at lines at) old so.listed)));
    counted = counted_more shelf start mid now (765 * at) 765 (765 * (at + 1)) _ _ _ (omega arith) so.reads.same
        (λ t m n is first second. subst (λ (ls : List SliceLine). AreLinesBy g site up after (last t) ls (m + n)) (sym more)
        (lines_more g site up (last t) after (take at lines) (line_at lines at) m n (lines_later g site up (last t) before after (λ l. looked.failed.later l.at.drive) (take at lines) m first) second))
        so.counted looked.counted;
    begun = so.begun;
    clear = so.clear;
    steps = subst (λ (ls : List SliceLine). WentAlong shelf g site up ls start now so.begun after) (sym more) (along_push shelf g site up (take at lines) (line_at lines at) start mid now so.begun before after so.steps looked);
  }
    where
      more : take (at + 1) lines ≡ take at lines ++ line_at lines at ∷ []
      more = take_more lines at no_line less

      split : site.lines ≡ take at lines ++ line_at lines at ∷ drop (suc at) lines
      split = all ∙ sym (take-append-drop at lines) ∙ ap (λ (ls : List SliceLine). take at lines ++ ls) (drop-cons lines at no_line less)

  -- all was looked at
  module _ (lines : List SliceLine) (at : ℕ) (last_one : length lines ≤ at) (at_most : at ≤ length lines) (all : site.lines ≡ lines) (start now : S) (failed : Drives) (finds : Finds) (so : SoSurveyed shelf g site up lines at start now failed finds) where
    abbrev surveyed : Survey
    surveyed = record { replicas = finds.replicas; newest = finds.newest; others = finds.others; failed = failed }

    pub survey_is : IsSurvey site up surveyed
    survey_is = record { each = so.listed.each; ordered = so.listed.ordered; marked = so.listed.marked; others_on = so.listed.others_on }

    pub survey_of : OnlyReads shelf (λ t. IsSurveyOf g site up (last t) surveyed) start now
    survey_of = record {
      same = so.reads.same;
      gave = λ t is. record {
        each = (so.reads.gave t is).each;
        all = λ r there answered. (so.reads.gave t is).all r there answered
            (inl (subst (λ (ls : List SliceLine). Contains ls r.line) (sym (take_all at lines last_one)) (subst (λ (ls : List SliceLine). Contains ls r.line) all there.one_of)));
        table = (so.reads.gave t is).table;
        others = (so.reads.gave t is).told.each;
        told = λ line k place one_of answered comes. (so.reads.gave t is).told.all line k place one_of answered
            (inl (subst (λ (ls : List SliceLine). Contains ls line) (sym (take_all at lines last_one)) (subst (λ (ls : List SliceLine). Contains ls line) all one_of))) comes;
      };
    }

    pub one_look : WasOneLook shelf start now g site up failed
    one_look = record {
      same = so.reads.same;
      have = so.have;
      within = so.within;
      begun = so.begun;
      clear = so.clear;
      steps = subst (λ (ls : List SliceLine). WentAlong shelf g site up ls start now so.begun failed) (take_all at lines last_one ∙ sym all) so.steps;
    }

    pub survey_counted : IsCounted shelf start now (765 * length lines) (λ t n. AreLinesBy g site up failed (last t) site.lines n)
    survey_counted = counted_weaker shelf start now (765 * at) (765 * length lines) _ _ (omega (arith, at_most))
        (λ t n is by. subst (λ (ls : List SliceLine). AreLinesBy g site up failed (last t) ls n) (take_all at lines last_one ∙ sym all) by) so.counted

  -- there was no memory for it
  pub surveyed_failed : (lines : List SliceLine) (at : ℕ) → at < length lines → site.lines ≡ lines → (start mid now : S) (failed : Drives) (finds : Finds) → SoSurveyed shelf g site up lines at start mid failed finds
      → (Q : Tale → ℕ → Type 0) → IsCounted shelf mid now 765 Q → IsCounted shelf start now (765 * length site.lines) (λ t n. Unit {0})
  surveyed_failed lines at less all start mid now failed finds so Q counted =
      let count : length site.lines ≡ length lines = ap (λ (ls : List SliceLine). length ls) all in
      counted_more shelf start mid now (765 * at) 765 (765 * length site.lines) _ Q (λ t n. Unit {0}) (omega (arith, less, count)) so.reads.same (λ t m n is first second. tt) so.counted counted
