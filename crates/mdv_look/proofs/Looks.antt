-- Looks at a site's slices, on fewer drives each time.
use Rattle.std.proofs.Common.{◌≡◌, ◌≢◌, ◌⊎◌, inl, inr, ℕ, zero, suc, ◌+◌, ◌*◌, ◌≤◌, ◌<◌, Bool, true, false, not, ◌&&◌, List, [], ◌∷◌, ◌++◌, length, Contains, Some, Result, Ok, Err, slice_index_or, refl, sym, ◌∙◌, ap, subst, cond, arith}
use Rattle.std.specs.Prelude.{IfOk, count_by}
use Rattle.std.specs.Bool.{MatchBool}
use Rattle.std.proofs.Math.Nat.{mul-le-mul_left}
use Rattle.std.proofs.lemmas.Result.{IfOk-weaker}
use Rattle.mdv_base.specs.Causes.{RoseOnce}
use Rattle.mdv_shelf.specs.Calls.{OnDrive}
use Rattle.mdv_shelf.specs.Drives.{AreDrives}
use Rattle.std.proofs.lemmas.List.Elements.{Contains-append_left, Contains-append_right, Contains-push, Contains-push_cases}
use Rattle.mdv_base.specs.DriveSet.{no_drives}
use Rattle.mdv_survey.specs.Counts.{AreLinesBy, IsCounted, IsLineBy, IsSliceBy, MadeFew}
use Rattle.mdv_survey.specs.Replica.{Contents}
use Rattle.mdv_survey.specs.Steps.{WasOneLook}
use Rattle.mdv_survey.specs.Survey.{AreWithin, HaveFailed, IsSurvey, IsSurveyOf, answers_in}
use Rattle.mdv_survey.specs.declared.replica.Survey.{Survey}
use Rattle.mdv_look.specs.Below.{DriveNo, Drives, Geometry, Ghosts, Site, SliceLine, Tale, has_drive, last}
use Rattle.mdv_look.specs.Looking.{AreCalmBy, AreLeftOf, HasFailedOn, AreAllCalm, IsLookCounted, IsLooked, IsLookedAt, again, at_last, reads_by}
use Rattle.mdv_look.specs.declared.looking.Looked.{Looked}
use Rattle.mdv_look.proofs.Bringing.{count_cons, is_drive}
use Rattle.mdv_look.proofs.Few.{few_more, few_wider}

pub cases_bool : (b : Bool) → (b ≡ true) ⊎ (b ≡ false)
cases_bool true = inl refl
cases_bool false = inr refl

pub and_first : (a b : Bool) → (a && b) ≡ true → a ≡ true
and_first true b so = refl
and_first false b so = so

pub and_second : (a b : Bool) → (a && b) ≡ true → b ≡ true
and_second true b so = so
and_second false b so = absurd (cc (so))

pub and_out : (a b : Bool) → b ≡ true → (a && not b) ≡ false
and_out true b so = ap not so
and_out false b so = refl

pub yes_not : (u f : Bool) → u ≡ true → f ≡ false → (u && not f) ≡ true
yes_not true false a b = refl
yes_not true true a b = absurd (cc (b))
yes_not false f a b = absurd (cc (a))

pub failed_not : (u f : Bool) → f ≡ true → (u && not f) ≡ false
failed_not u f is = and_out u f is

pub up_not : (u f : Bool) → u ≡ false → (u && not f) ≡ false
up_not u f is = ap (λ (b : Bool). b && not f) is

-- one drive more
pub failed_none : (up failed : Drives) → HasFailedOn [] up failed → ⊥
failed_none up failed h = absurd (omega (arith, h.one_of.1))

pub failed_more : (drives : List DriveNo) (drive : DriveNo) (up failed : Drives) → (HasFailedOn drives up failed → ⊥) → (has_drive up drive && has_drive failed drive) ≡ false → HasFailedOn (drives ++ drive ∷ []) up failed → ⊥
failed_more drives drive up failed none here h =
    elim (Contains-push_cases drives drive h.drive h.one_of) [
      | inl before ↦ none (record { drive = h.drive; one_of = before; is_up = h.is_up; has = h.has })
      | inr e ↦ absurd (cc (here, h.is_up, h.has, ap (has_drive up) e, ap (has_drive failed) e))
    ]

pub left_none : (up failed left : Drives) → ((drive : DriveNo) → has_drive left drive ≡ false) → AreLeftOf [] up failed left
left_none up failed left none = record { each = λ drive one_of. absurd (omega (arith, one_of.1)); only = λ drive so. absurd (cc (so, none drive)) }

module _ (drives : List DriveNo) (drive : DriveNo) (up failed left : Drives) (so_far : AreLeftOf drives up failed left) where
  pub left_in : (later : Drives) → answers_in up failed drive ≡ true → has_drive later drive ≡ true → ((other : DriveNo) → other ≢ drive → has_drive later other ≡ has_drive left other) → AreLeftOf (drives ++ drive ∷ []) up failed later
  left_in later answers added others = record {
    each = λ other one_of. elim (is_drive other drive) [
      | inl e ↦ subst (λ (d : DriveNo). has_drive later d ≡ answers_in up failed d) (sym e) (added ∙ sym answers)
      | inr apart ↦ others other apart ∙ elim (Contains-push_cases drives drive other one_of) [ inl before ↦ so_far.each other before | inr e ↦ absurd (apart (sym e)) ]
    ];
    only = λ other so. elim (is_drive other drive) [
      | inl e ↦ subst (Contains (drives ++ drive ∷ [])) (sym e) (Contains-push drives drive)
      | inr apart ↦ Contains-append_left drives (drive ∷ []) other (so_far.only other (sym (others other apart) ∙ so))
    ];
  }

  out_bool : (b : Bool) → b ≡ has_drive left drive → answers_in up failed drive ≡ false → has_drive left drive ≡ answers_in up failed drive
  out_bool true is out = so_far.each drive (so_far.only drive (sym is))
  out_bool false is out = sym is ∙ sym out

  pub left_out : answers_in up failed drive ≡ false → AreLeftOf (drives ++ drive ∷ []) up failed left
  left_out out = record {
    each = λ other one_of. elim (Contains-push_cases drives drive other one_of) [
      | inl before ↦ so_far.each other before
      | inr e ↦ subst (λ (d : DriveNo). has_drive left d ≡ answers_in up failed d) e (out_bool (has_drive left drive) refl out)
    ];
    only = λ other so. Contains-append_left drives (drive ∷ []) other (so_far.only other so);
  }

here : {X : Type 0} (x : X) (xs : List X) → Contains (x ∷ xs) x
here x xs = Contains-append_left (x ∷ []) xs x (Contains-push [] x)

behind : {X : Type 0} (x : X) (xs : List X) (y : X) → Contains xs y → Contains (x ∷ xs) y
behind x xs y one_of = Contains-append_right (x ∷ []) xs y one_of

one_within : (a b : Bool) → (a ≡ true → b ≡ true) → cond a 1 0 ≤ cond b 1 0
one_within true true h = omega arith
one_within true false h = absurd (cc (h refl))
one_within false b h = omega arith

-- where each that passes one test passes the other
pub count_within : {X : Type 0} (p q : X → Bool) (xs : List X) → ((x : X) → Contains xs x → p x ≡ true → q x ≡ true) → count_by p xs ≤ count_by q xs
count_within p q [] within = omega arith
count_within p q (x ∷ xs) within =
    let rest = count_within p q xs (λ y one_of. within y (behind x xs y one_of)) in
    let first = one_within (p x) (q x) (within x (here x xs)) in
    omega (arith, count_cons p x xs, count_cons q x xs, rest, first)

one_less : (a b : Bool) → a ≡ false → b ≡ true → cond a 1 0 + 1 ≤ cond b 1 0
one_less a b fails passes = subst (λ (c : Bool). cond a 1 0 + 1 ≤ cond c 1 0) (sym passes) (subst (λ (c : Bool). cond c 1 0 + 1 ≤ 1) (sym fails) (omega arith))

-- and one of them doesn't pass the first
pub count_less : {X : Type 0} (p q : X → Bool) (xs : List X) (k : ℕ) (y : X) → k < length xs → slice_index_or xs k y ≡ y → ((x : X) → Contains xs x → p x ≡ true → q x ≡ true) → p y ≡ false → q y ≡ true → count_by p xs < count_by q xs
count_less p q [] k y within_list is within fails passes = absurd (omega (arith, within_list))
count_less p q (x ∷ xs) zero y within_list is within fails passes =
    let rest = count_within p q xs (λ z one_of. within z (behind x xs z one_of)) in
    let first = one_less (p x) (q x) (ap p is ∙ fails) (ap q is ∙ passes) in
    omega (arith, count_cons p x xs, count_cons q x xs, rest, first)
count_less p q (x ∷ xs) (suc k) y within_list is within fails passes =
    let rest = count_less p q xs k y (omega (arith, within_list)) is (λ z one_of. within z (behind x xs z one_of)) fails passes in
    let first = one_within (p x) (q x) (within x (here x xs)) in
    omega (arith, count_cons p x xs, count_cons q x xs, rest, first)

pub count_length : {X : Type 0} (p : X → Bool) (xs : List X) → count_by p xs ≤ length xs
count_length p [] = omega arith
count_length p (x ∷ xs) = let rest = count_length p xs in let first = one_within (p x) true (λ e. refl) in omega (arith, count_cons p x xs, rest, first)

-- Fewer drives are left.
pub fewer_left : (drives : List DriveNo) (up failed left : Drives) → AreLeftOf drives up failed left → HasFailedOn drives up failed → count_by (has_drive left) drives < count_by (has_drive up) drives
fewer_left drives up failed left are has =
    count_less (has_drive left) (has_drive up) drives has.one_of.0 has.drive has.one_of.1 has.one_of.2
    (λ d one_of so. and_first (has_drive up d) (not (has_drive failed d)) (sym (are.each d one_of) ∙ so))
    (are.each has.drive has.one_of ∙ and_out (has_drive up has.drive) (has_drive failed has.drive) has.has) has.is_up

-- the calls that take so many where the drives of its slices answered
pub lines_by : (g : Geometry) (site : Site) (up failed : Drives) (content : Contents) (lines : List SliceLine) (n : ℕ) → ((line : SliceLine) → Contains lines line → has_drive up line.at.drive ≡ true → has_drive failed line.at.drive ≡ false)
    → AreLinesBy g site up failed content lines n → AreLinesBy g site up no_drives content lines n
lines_by g site up failed content [] n calm are = are
lines_by g site up failed content (line ∷ lines) n calm are =
    (are.0, are.1, line_by (has_drive up line.at.drive) refl (calm line (here line lines)) are.2, lines_by g site up failed content lines are.1 (λ l one_of. calm l (behind line lines l one_of)) are.3, are.4)
  where
    line_by : (b : Bool) → has_drive up line.at.drive ≡ b → (has_drive up line.at.drive ≡ true → has_drive failed line.at.drive ≡ false) → IsLineBy g site up failed content line are.0 → IsLineBy g site up no_drives content line are.0
    line_by true is calm by = rw is (let was = rw is at by in (was.0, λ none. was.1 (calm is)))
    line_by false is calm by = rw is (rw is at by)

-- the drives of a shelf are few
pub drives_few : (sizes : List ℕ) (drives : List DriveNo) → AreDrives sizes drives → (drive : DriveNo) → Contains drives drive → drive.0 < 256
drives_few sizes drives are drive one_of = let there = (are.each drive one_of).known in omega (arith, there, are.few)

flip : (A B : Type 0) (l u f : Bool) → l ≡ (u && not f) → u ≡ true → MatchBool f A B → MatchBool l B A
flip A B l true true is e a = subst (λ (b : Bool). MatchBool b B A) (sym is) a
flip A B l true false is e b = subst (λ (c : Bool). MatchBool c B A) (sym is) b
flip A B l false f is e m = absurd (cc (e))

no_more : (f : Bool) → not f ≡ true → f ≡ false
no_more true is = absurd (cc (is))
no_more false is = refl

-- what is told of a drive by a look and those behind it
told_by : (a b n : ℕ) (c l u f : Bool) → l ≡ (u && not f) → u ≡ true → MatchBool f (RoseOnce a b) (b ≡ a) → (l ≡ true → MatchBool c (n ≡ b) (RoseOnce b n)) → (l ≡ false → n ≡ b) → (c ≡ true → l ≡ true) → MatchBool c (n ≡ a) (RoseOnce a n)
told_by a b n c l false f is e was now out within = absurd (cc (e))
told_by a b n true l true true is e was now out within = absurd (cc (is, within refl))
told_by a b n true l true false is e was now out within = now (within refl) ∙ was
told_by a b n false l true true is e was now out within = subst (λ (m : ℕ). RoseOnce a m) (sym (out is)) was
told_by a b n false l true false is e was now out within = subst (λ (m : ℕ). RoseOnce m n) was (now is)

-- the same slices on drives that are up by either set
pub lines_as : (g : Geometry) (site : Site) (up other failed : Drives) (content : Contents) (lines : List SliceLine) (n : ℕ) → ((line : SliceLine) → Contains lines line → has_drive up line.at.drive ≡ has_drive other line.at.drive)
    → AreLinesBy g site up failed content lines n → AreLinesBy g site other failed content lines n
lines_as g site up other failed content [] n same are = are
lines_as g site up other failed content (line ∷ lines) n same are = (
  are.0,
  are.1,
  subst (λ (b : Bool). MatchBool b ((are.0 ≤ 765) × (has_drive failed line.at.drive ≡ false → IsSliceBy g site line (content line.at.drive.0) are.0)) (are.0 ≡ 0)) (same line (here line lines)) are.2,
  lines_as g site up other failed content lines are.1 (λ l one_of. same l (behind line lines l one_of)) are.3,
  are.4,
)

module _ {S : Type 0} (shelf : Ghosts S) (g : Geometry) (site : Site) (old mid : S) (up : Drives) (found : Survey) (brought : (line : SliceLine) → Contains site.lines line → Contains site.drives line.at.drive)
    (failed : HaveFailed shelf old mid found.failed) (failed_up : AreWithin found.failed up) (left : Drives) (are : AreLeftOf site.drives up found.failed left) (same : shelf.tale mid ≡ shelf.tale old) where
  was_up : (drive : DriveNo) → has_drive left drive ≡ true → has_drive up drive ≡ true
  was_up drive so = and_first (has_drive up drive) (not (has_drive found.failed drive)) (sym (are.each drive (are.only drive so)) ∙ so)

  not_failed : (drive : DriveNo) → has_drive up drive ≡ false → has_drive found.failed drive ≡ false
  not_failed drive down = elim (cases_bool (has_drive found.failed drive)) [ inl bad ↦ absurd (cc (failed_up drive bad, down)) | inr fine ↦ fine ]

  -- no call was made on a drive that isn't up
  none_down : (drive : DriveNo) → has_drive up drive ≡ false → shelf.faults mid (OnDrive drive.0) ≡ shelf.faults old (OnDrive drive.0)
  none_down drive down = subst (λ (b : Bool). MatchBool b (RoseOnce (shelf.faults old (OnDrive drive.0)) (shelf.faults mid (OnDrive drive.0))) (shelf.faults mid (OnDrive drive.0) ≡ shelf.faults old (OnDrive drive.0))) (not_failed drive down) (failed drive)

  left_down : (drive : DriveNo) → has_drive up drive ≡ false → has_drive left drive ≡ false
  left_down drive down = elim (cases_bool (has_drive left drive)) [ inl so ↦ absurd (cc (was_up drive so, down)) | inr out ↦ out ]

  none_failed : (drive : DriveNo) → has_drive left drive ≡ true → has_drive found.failed drive ≡ false
  none_failed drive so = no_more (has_drive found.failed drive) (and_second (has_drive up drive) (not (has_drive found.failed drive)) (sym (are.each drive (are.only drive so)) ∙ so))

  -- where no read failed
  module _ (calm : HasFailedOn site.drives up found.failed → ⊥) (answer : IsSurvey site up found) (gave : (t : Tale) → shelf.tale old ≡ Some t → IsSurveyOf g site up (last t) found) where
    calm_up : (drive : DriveNo) → Contains site.drives drive → has_drive up drive ≡ true → has_drive found.failed drive ≡ false
    calm_up drive one_of so = elim (cases_bool (has_drive found.failed drive)) [ inl bad ↦ absurd (calm (record { drive = drive; one_of = one_of; is_up = so; has = bad })) | inr fine ↦ fine ]

    pub still_up : (drive : DriveNo) → Contains site.drives drive → has_drive up drive ≡ true → has_drive left drive ≡ true
    still_up drive one_of so = are.each drive one_of ∙ yes_not (has_drive up drive) (has_drive found.failed drive) so (calm_up drive one_of so)

    same_up : (drive : DriveNo) → Contains site.drives drive → has_drive up drive ≡ has_drive left drive
    same_up drive one_of = elim (cases_bool (has_drive up drive)) [ inl so ↦ so ∙ sym (still_up drive one_of so) | inr down ↦ down ∙ sym (left_down drive down) ]

    pub looked_here : IsCounted shelf old mid (765 * length site.lines) (λ t n. AreLinesBy g site up found.failed (last t) site.lines n) → IsLookedAt shelf old mid g site up (record { survey = found; calm = left })
    looked_here counted = record {
      calm = record {
        each = λ drive one_of so. flip _ _ (has_drive left drive) (has_drive up drive) (has_drive found.failed drive) (are.each drive one_of) so (failed drive);
        down = none_down;
        is_up = was_up;
        only = are.only;
      };
      last_look = record {
        begun = old;
        before = record {
          each = λ drive one_of so. subst (λ (b : Bool). MatchBool b (shelf.faults old (OnDrive drive.0) ≡ shelf.faults old (OnDrive drive.0)) (RoseOnce (shelf.faults old (OnDrive drive.0)) (shelf.faults old (OnDrive drive.0)))) (sym (still_up drive one_of so)) refl;
          down = λ drive down. refl;
          is_up = was_up;
          only = are.only;
        };
        looks = at_last up left old (λ drive one_of. sym (same_up drive one_of));
        once = λ t is. (
          counted.calls,
          counted.made,
          lines_as g site up left no_drives (last t) site.lines counted.calls (λ line one_of. same_up line.at.drive (brought line one_of))
              (lines_by g site up found.failed (last t) site.lines counted.calls (λ line one_of so. calm_up line.at.drive (brought line one_of) so) (counted.by t is)),
        );
      };
      none = none_failed;
      survey = record {
        each = λ r one_of. (let listed = answer.each r one_of in record { seated = listed.seated; is_up = still_up r.line.at.drive (brought r.line listed.seated.one_of) listed.is_up; of_key = listed.of_key });
        ordered = answer.ordered;
        marked = answer.marked;
        others_on = λ o one_of. (let on = answer.others_on o one_of in (on.0, still_up o.line.at.drive (brought o.line on.0) on.1));
      };
      of = λ t is. (
          let was = gave t is in
          record {
            each = was.each;
            all = λ r there answers.
                let so = and_first (has_drive left r.line.at.drive) (not (has_drive found.failed r.line.at.drive)) answers in
                was.all r there (sym (are.each r.line.at.drive (are.only r.line.at.drive so)) ∙ so);
            table = was.table;
            others = was.others;
            told = λ line number at one_of answers comes.
                let so = and_first (has_drive left line.at.drive) (not (has_drive found.failed line.at.drive)) answers in
                was.told line number at one_of (sym (are.each line.at.drive (are.only line.at.drive so)) ∙ so) comes;
          });
    }

    pub counted_here : IsCounted shelf old mid (765 * length site.lines) (λ t n. AreLinesBy g site up found.failed (last t) site.lines n) → {E : Type 0} → IsLookCounted {E = E} shelf old mid g site up (Ok (record { survey = found; calm = left }))
    counted_here counted {E} = record {
      few = few_wider shelf old mid (765 * length site.lines) ((1 + count_by (has_drive up) site.drives) * (765 * length site.lines)) (omega arith) (counted.calls, counted.few, counted.made);
      some = few_wider shelf old mid (765 * length site.lines) (reads_by site up left) (omega arith) (counted.calls, counted.few, counted.made);
      once = λ answered t is. (counted.calls, counted.made, lines_by g site up found.failed (last t) site.lines counted.calls (λ line one_of so. calm_up line.at.drive (brought line one_of) so) (counted.by t is));
    }

  -- where one failed, and another look was made without that drive
  module _ {E : Type 0} (new : S) (result : Result Looked E) (has : HasFailedOn site.drives up found.failed) (inner : IsLooked shelf mid new g site left result)
      (one_look : WasOneLook shelf old mid g site up found.failed) where
    calm_more : (now : S) (calm : Drives) → AreCalmBy shelf mid now site.drives left calm → AreCalmBy shelf old now site.drives up calm
    calm_more now calm at = record {
      each = λ drive one_of so.
          told_by (shelf.faults old (OnDrive drive.0)) (shelf.faults mid (OnDrive drive.0)) (shelf.faults now (OnDrive drive.0)) (has_drive calm drive) (has_drive left drive) (has_drive up drive) (has_drive found.failed drive)
          (are.each drive one_of) so (failed drive) (at.each drive one_of) (at.down drive) (at.is_up drive);
      down = λ drive down. at.down drive (left_down drive down) ∙ none_down drive down;
      is_up = λ drive so. was_up drive (at.is_up drive so);
      only = at.only;
    }

    more_at : (looked : Looked) → IsLookedAt shelf mid new g site left looked → IsLookedAt shelf old new g site up looked
    more_at looked at = record {
      calm = calm_more new looked.calm at.calm;
      last_look = record {
        begun = at.last_look.begun;
        before = calm_more at.last_look.begun looked.calm at.last_look.before;
        looks = again up found.failed left looked.calm old mid at.last_look.begun one_look has are at.last_look.looks;
        once = λ t is. at.last_look.once t (same ∙ is);
      };
      none = at.none;
      survey = at.survey;
      of = λ t is. at.of t (same ∙ is);
    }

    pub looked_more : IsLooked shelf old new g site up result
    looked_more = record { same = inner.same ∙ same; found = IfOk-weaker result (IsLookedAt shelf mid new g site left) (IsLookedAt shelf old new g site up) more_at inner.found }

    never : (looked : Looked) → IsLookedAt shelf mid new g site left looked → AreAllCalm site up looked.calm → ⊥
    never looked at answered =
        let left_in : has_drive left has.drive ≡ true = at.calm.is_up has.drive (answered has.drive has.one_of has.is_up) in
        cc (none_failed has.drive left_in, has.has)

    -- the drive on which one failed is one more that didn't answer every read
    fewer_silent : (calm : Drives) → ((drive : DriveNo) → has_drive calm drive ≡ true → has_drive left drive ≡ true)
        → count_by (λ (drive : DriveNo). has_drive left drive && not (has_drive calm drive)) site.drives < count_by (λ (drive : DriveNo). has_drive up drive && not (has_drive calm drive)) site.drives
    fewer_silent calm within =
        let out : has_drive left has.drive ≡ false = are.each has.drive has.one_of ∙ failed_not (has_drive up has.drive) (has_drive found.failed has.drive) has.has in
        let silent : has_drive calm has.drive ≡ false = elim (cases_bool (has_drive calm has.drive)) [ inl so ↦ absurd (cc (within has.drive so, out)) | inr so ↦ so ] in
        count_less (λ (drive : DriveNo). has_drive left drive && not (has_drive calm drive)) (λ (drive : DriveNo). has_drive up drive && not (has_drive calm drive)) site.drives has.one_of.0 has.drive has.one_of.1 has.one_of.2
        (λ d one_of so. yes_not (has_drive up d) (has_drive calm d) (was_up d (and_first (has_drive left d) (not (has_drive calm d)) so)) (no_more (has_drive calm d) (and_second (has_drive left d) (not (has_drive calm d)) so)))
        (up_not (has_drive left has.drive) (has_drive calm has.drive) out) (yes_not (has_drive up has.drive) (has_drive calm has.drive) has.is_up silent)

    some_more : (calm : Drives) → ((drive : DriveNo) → has_drive calm drive ≡ true → has_drive left drive ≡ true) → MadeFew shelf old mid (765 * length site.lines) → MadeFew shelf mid new (reads_by site left calm) → MadeFew shelf old new (reads_by site up calm)
    some_more calm within first second =
        let fewer = fewer_silent calm within in
        let larger : 2 + count_by (λ (drive : DriveNo). has_drive left drive && not (has_drive calm drive)) site.drives ≤ 1 + count_by (λ (drive : DriveNo). has_drive up drive && not (has_drive calm drive)) site.drives = omega (arith, fewer) in
        let all = mul-le-mul_left (765 * length site.lines) larger in
        few_more shelf old mid new (765 * length site.lines) (reads_by site left calm) (reads_by site up calm) (omega (arith, all)) first second

    some_both : (r : Result Looked E) → IfOk r (IsLookedAt shelf mid new g site left) → MadeFew shelf old mid (765 * length site.lines) → IfOk r (λ looked. MadeFew shelf mid new (reads_by site left looked.calm)) → IfOk r (λ looked. MadeFew shelf old new (reads_by site up looked.calm))
    some_both (Ok looked) at first second = some_more looked.calm at.calm.is_up first second
    some_both (Err fault) at first second = tt

    pub counted_more : MadeFew shelf old mid (765 * length site.lines) → IsLookCounted shelf mid new g site left result → IsLookCounted shelf old new g site up result
    counted_more first second = record {
      few =
          let less = fewer_left site.drives up found.failed left are has in
          let larger : 2 + count_by (has_drive left) site.drives ≤ 1 + count_by (has_drive up) site.drives = omega (arith, less) in
          let all = mul-le-mul_left (765 * length site.lines) larger in
          few_more shelf old mid new (765 * length site.lines) ((1 + count_by (has_drive left) site.drives) * (765 * length site.lines)) ((1 + count_by (has_drive up) site.drives) * (765 * length site.lines)) (omega (arith, all)) first second.few;
      some = some_both result inner.found first second.some;
      once = IfOk-weaker result (IsLookedAt shelf mid new g site left) _ (λ looked at answered t is. absurd (never looked at answered)) inner.found;
    }
