-- How stretches of a story are told, joined and compared with those of its tale.
use Rattle.std.proofs.Common.{◌≡◌, ◌⊎◌, inl, inr, ℕ, List, [], ◌∷◌, ◌++◌, map, Option, Some, None, refl, sym, ◌∙◌, ap, subst, arith}
use Rattle.std.specs.Option.{option_map}
use Rattle.mdv_shelf.specs.Tale.{Start, Tale, Begun, Then, Call, Wrote, Tore, Synced, Gave}
use Rattle.mdv_shelf.specs.Calls.{Part}
use Rattle.mdv_shelf.specs.Moments.{extended, During, Along, Grew, Moments}
use Rattle.mdv_shelf.specs.Story.{Tally, Story, Opened, Next, tale_of, and_next, Mark, marked, Moment, moment_at, AtMarks, NoFewer, NeverFall, FailedBy, Passed, AtEach, OfTales}
use Rattle.mdv_shelf.proofs.Moments.{during_weaker, during_both, grew_starts, grew_ends, same_calls, some_is}

-- a story whose tale begins anew begins anew
pub opened_anew : (s : Story) (start : Start) → tale_of s ≡ Begun start → s ≡ Opened start
opened_anew (Opened first) start is = cc
opened_anew (Next s c tally) start is = absurd (cc (is))

abbrev calls_of : List Mark → List Call
calls_of ms = map (λ (m : Mark). m.call) ms

tale_marked : (s : Story) (ms : List Mark) → tale_of (marked s ms) ≡ extended (tale_of s) (calls_of ms)
tale_marked s [] = refl
tale_marked s (m ∷ ms) = ap (λ (t : Tale). Then t m.call) (tale_marked s ms)

pub marked_more : (s : Story) (xs ys : List Mark) → marked (marked s xs) ys ≡ marked s (ys ++ xs)
marked_more s xs [] = refl
marked_more s xs (m ∷ ys) = ap (λ (u : Story). Next u m.call m.tally) (marked_more s xs ys)

same_mark : (x y : Mark) → x.call ≡ y.call → x.tally ≡ y.tally → x ≡ y
same_mark x y call tally = ap (λ (c : Call). record { call = c; tally = x.tally }) call ∙ ap (λ (k : Tally). record { call = y.call; tally = k }) tally

same_calls_of : (s : Story) (xs ys : List Mark) → marked s xs ≡ marked s ys → calls_of xs ≡ calls_of ys
same_calls_of s xs ys is = same_calls (tale_of s) (calls_of xs) (calls_of ys) (sym (tale_marked s xs) ∙ ap tale_of is ∙ tale_marked s ys)

same_next : (s u : Story) (c d : Call) (f g : Tally) → Next s c f ≡ Next u d g → (s ≡ u) × (c ≡ d) × (f ≡ g)
same_next s u c d f g is = (cc (is), cc (is), cc (is))

-- marks that lead from one story to another are the same marks
pub same_marks : (s : Story) (xs ys : List Mark) → marked s xs ≡ marked s ys → xs ≡ ys
same_marks s [] [] is = refl
same_marks s [] (y ∷ ys) is = absurd (let calls = same_calls_of s [] (y ∷ ys) is in cc (calls))
same_marks s (x ∷ xs) [] is = absurd (let calls = same_calls_of s (x ∷ xs) [] is in cc (calls))
same_marks s (x ∷ xs) (y ∷ ys) is =
    let same = same_next (marked s xs) (marked s ys) x.call y.call x.tally y.tally is in
    let behind = same_marks s xs ys same.0 in
    let first = same_mark x y same.1 same.2 in cc (first, behind)

-- counts that never fall
pub no_fewer_same : (f : Part → ℕ) → NoFewer f f
no_fewer_same f part = omega arith

pub no_fewer_more : (f g h : Part → ℕ) → NoFewer f g → NoFewer g h → NoFewer f h
no_fewer_more f g h first second part = omega (arith, first part, second part)

pub never_fall_all : (f : Part → ℕ) (ms : List Mark) (g : Part → ℕ) → NeverFall f ms g → NoFewer f g
never_fall_all f [] g rising = rising
never_fall_all f (m ∷ ms) g rising = no_fewer_more f m.tally.faults g (never_fall_all f ms m.tally.faults rising.0) rising.1

never_fall_later : (f : Part → ℕ) (ms : List Mark) (g h : Part → ℕ) → NeverFall f ms g → NoFewer g h → NeverFall f ms h
never_fall_later f [] g h rising later = no_fewer_more f g h rising later
never_fall_later f (m ∷ ms) g h rising later = (rising.0, no_fewer_more m.tally.faults g h rising.1 later)

never_fall_more : (f : Part → ℕ) (xs : List Mark) (g : Part → ℕ) (ys : List Mark) (h : Part → ℕ) → NeverFall f xs g → NeverFall g ys h → NeverFall f (ys ++ xs) h
never_fall_more f xs g [] h first second = never_fall_later f xs g h first second
never_fall_more f xs g (m ∷ ys) h first second = (never_fall_more f xs g ys m.tally.faults first second.0, second.1)

-- what failed by a moment has failed by each later one, and since each earlier one
pub failed_later : (t m u : Moment) (part : Part) → NoFewer m.faults u.faults → FailedBy t m part → FailedBy t u part
failed_later t m u part later failed = omega (arith, later part, failed)

pub failed_since : (t m u : Moment) (part : Part) → NoFewer t.faults m.faults → FailedBy m u part → FailedBy t u part
failed_since t m u part later failed = omega (arith, later part, failed)

module _ (P Q : Moment → Type 0) where
  pub at_marks_weaker : ((m : Moment) → P m → Q m) → (s : Story) (ms : List Mark) → AtMarks P s ms → AtMarks Q s ms
  at_marks_weaker weaker s [] here = tt
  at_marks_weaker weaker s (m ∷ ms) here = (
    at_marks_weaker weaker s ms here.0,
    during_weaker (λ t. P (moment_at t m.tally)) (λ t. Q (moment_at t m.tally)) (λ t. weaker (moment_at t m.tally))
        (tale_of (marked s ms)) m.call here.1,
  )

  pub at_marks_both : (s : Story) (ms : List Mark) → AtMarks P s ms → AtMarks Q s ms → AtMarks (λ m. P m × Q m) s ms
  at_marks_both s [] one other = tt
  at_marks_both s (m ∷ ms) one other = (
    at_marks_both s ms one.0 other.0,
    during_both (λ t. P (moment_at t m.tally)) (λ t. Q (moment_at t m.tally)) (tale_of (marked s ms)) m.call one.1 other.1,
  )

pub at_marks_more : (P : Moment → Type 0) (s : Story) (xs ys : List Mark) → AtMarks P s xs → AtMarks P (marked s xs) ys → AtMarks P s (ys ++ xs)
at_marks_more P s xs [] first second = first
at_marks_more P s xs (m ∷ ys) first second = (
  at_marks_more P s xs ys first second.0,
  subst (λ (u : Story). During (λ t. P (moment_at t m.tally)) (tale_of u) m.call) (marked_more s xs ys) second.1,
)

-- each moment's counts lie between the first ones and the last ones
abbrev pub Between : (Part → ℕ) → (Part → ℕ) → Moment → Type 0
Between before after m = NoFewer before m.faults × NoFewer m.faults after

at_marks_between : (before after top : Part → ℕ) (s : Story) (ms : List Mark) → NeverFall before ms after → NoFewer after top → AtMarks (Between before top) s ms
at_marks_between before after top s [] rising le = tt
at_marks_between before after top s (m ∷ ms) rising le =
    let up = no_fewer_more m.tally.faults after top rising.1 le in
    let down = never_fall_all before ms m.tally.faults rising.0 in
    (at_marks_between before m.tally.faults top s ms rising.0 up, always m.call (tale_of (marked s ms)) (down, up))
  where
    always : {X : Type 0} (c : Call) (t : Tale) → X → During (λ _. X) t c
    always (Wrote drive at blocks) t x = x
    always (Tore drive at blocks took) t x = x
    always (Synced drive) t x = x
    always (Gave piece count) t x = λ k le. x

-- no call, or none that changed something
pub passed_none : (P : Moment → Type 0) (s : Story) (before after : Tally) → NoFewer before.faults after.faults → P (moment_at (tale_of s) before)
    → P (moment_at (tale_of s) after) → Passed P s before s after
passed_none P s before after rising first last = record { marks = []; led = refl; rising = rising; first = first; each = tt; last = last }

-- one call
pub passed_one : (P : Moment → Type 0) (s : Story) (before after : Tally) (c : Call) → NoFewer before.faults after.faults → P (moment_at (tale_of s) before)
    → During (λ t. P (moment_at t before)) (tale_of s) c → P (moment_at (Then (tale_of s) c) after) → Passed P s before (Next s c before) after
passed_one P s before after c rising first each last = record {
  marks = record { call = c; tally = before } ∷ [];
  led = refl;
  rising = (no_fewer_same before.faults, rising);
  first = first;
  each = (tt, each);
  last = last;
}

module _ (P Q : Moment → Type 0) (s : Story) (before : Tally) (u : Story) (after : Tally) where
  pub passed_weaker : ((m : Moment) → P m → Q m) → Passed P s before u after → Passed Q s before u after
  passed_weaker weaker passed = record {
    marks = passed.marks;
    led = passed.led;
    rising = passed.rising;
    first = weaker _ passed.first;
    each = at_marks_weaker P Q weaker s passed.marks passed.each;
    last = weaker _ passed.last;
  }

  -- the marks are unique, so nothing was chosen
  pub passed_both : Passed P s before u after → Passed Q s before u after → Passed (λ m. P m × Q m) s before u after
  passed_both one other =
      let marks : other.marks ≡ one.marks = same_marks s other.marks one.marks (sym other.led ∙ one.led) in
      record {
        marks = one.marks;
        led = one.led;
        rising = one.rising;
        first = (one.first, other.first);
        each = at_marks_both P Q s one.marks one.each (subst (λ (ms : List Mark). AtMarks Q s ms) marks other.each);
        last = (one.last, other.last);
      }

-- no count fell
pub passed_between : (P : Moment → Type 0) (s : Story) (before : Tally) (u : Story) (after : Tally) → Passed P s before u after → Passed (Between before.faults after.faults) s before u after
passed_between P s before u after passed =
    let all = never_fall_all before.faults passed.marks after.faults passed.rising in
    record {
      marks = passed.marks;
      led = passed.led;
      rising = passed.rising;
      first = (no_fewer_same before.faults, all);
      each = at_marks_between before.faults after.faults after.faults s passed.marks passed.rising (no_fewer_same after.faults);
      last = (all, no_fewer_same after.faults);
    }

pub passed_more : (P : Moment → Type 0) (s : Story) (before : Tally) (u : Story) (mid : Tally) (v : Story) (after : Tally) → Passed P s before u mid → Passed P u mid v after → Passed P s before v after
passed_more P s before u mid v after one two = record {
  marks = two.marks ++ one.marks;
  led = two.led ∙ ap (λ (w : Story). marked w two.marks) one.led ∙ marked_more s one.marks two.marks;
  rising = never_fall_more before.faults one.marks mid.faults two.marks after.faults one.rising two.rising;
  first = one.first;
  each = at_marks_more P s one.marks two.marks one.each (subst (λ (w : Story). AtMarks P w two.marks) one.led two.each);
  last = two.last;
}

abbrev pub moment : Story → Tally → Moment
moment s tally = moment_at (tale_of s) tally

some_story : (a : Option Story) (s u : Story) → a ≡ Some s → a ≡ Some u → s ≡ u
some_story a s u p q = some_is a s u p q

-- no call, or none that changed something
pub each_none : (R : Moment → Moment → Type 0) (a : Option Story) (before : Tally) (b : Option Story) (after : Tally) → b ≡ a → NoFewer before.faults after.faults
    → ((s : Story) → R (moment s before) (moment s before)) → ((s : Story) → R (moment s before) (moment s after)) → AtEach R a before b after
each_none R a before b after same rising first last s is = (s, same ∙ is, passed_none (R (moment s before)) s before after rising (first s) (last s))

-- what follows at each moment, whose counts lie between the first and the last ones
pub each_weaker : (R Q : Moment → Moment → Type 0) (a : Option Story) (before : Tally) (b : Option Story) (after : Tally)
    → ((t m : Moment) → NoFewer t.faults m.faults → NoFewer m.faults after.faults → R t m → Q t m) → AtEach R a before b after → AtEach Q a before b after
each_weaker R Q a before b after weaker each s is =
    let passed = each s is in
    let first = moment s before in
    let both = passed_both (Between before.faults after.faults) (R first) s before passed.0 after (passed_between (R first) s before passed.0 after passed.2) passed.2 in
    (passed.0, passed.1, passed_weaker (λ m. Between before.faults after.faults m × R first m) (Q first) s before passed.0 after (λ m here. weaker first m here.0.0 here.0.1 here.1) both)

-- what holds at each moment, and what else holds at each
pub each_both : (R S : Moment → Moment → Type 0) (a : Option Story) (before : Tally) (b : Option Story) (after : Tally)
    → AtEach R a before b after → AtEach S a before b after → AtEach (λ t m. R t m × S t m) a before b after
each_both R S a before b after one other s is =
    let first = one s is in
    let second = other s is in
    let start = moment s before in
    let same : second.0 ≡ first.0 = some_story b second.0 first.0 second.1 first.1 in
    (first.0, first.1, passed_both (R start) (S start) s before first.0 after first.2 (subst (λ (u : Story). Passed (S start) s before u after) same second.2))

-- what holds at each moment, where no count is lower than at the start
pub each_rising : (R : Moment → Moment → Type 0) (a : Option Story) (before : Tally) (b : Option Story) (after : Tally)
    → AtEach R a before b after → AtEach (λ t m. R t m × NoFewer t.faults m.faults) a before b after
each_rising R a before b after each = each_weaker R (λ t m. R t m × NoFewer t.faults m.faults) a before b after (λ t m up down here. (here, up)) each

joined : (R S Q : Moment → Moment → Type 0) (a : Option Story) (before : Tally) (b : Option Story) (mid : Tally) (c : Option Story) (after : Tally)
    → ((t m : Moment) → R t m → Q t m) → ((t u m : Moment) → R t u → S u m → Q t m) → AtEach R a before b mid → AtEach S b mid c after → AtEach Q a before c after
joined R S Q a before b mid c after weaker join one two s is =
    let first = one s is in
    let second = two first.0 first.1 in
    let start = moment s before in
    let turn = moment first.0 mid in (
      second.0,
      second.1,
      passed_more (Q start) s before first.0 mid second.0 after
          (passed_weaker (R start) (Q start) s before first.0 mid (weaker start) first.2)
          (passed_weaker (S turn) (Q start) first.0 mid second.0 after (λ m. join start turn m first.2.last) second.2),
    )

-- One stretch after another: the second is told from where the first ended, and no count fell.
pub each_more : (R S Q : Moment → Moment → Type 0) (a : Option Story) (before : Tally) (b : Option Story) (mid : Tally) (c : Option Story) (after : Tally)
    → ((t m : Moment) → NoFewer t.faults m.faults → R t m → Q t m)
    → ((t u m : Moment) → NoFewer t.faults u.faults → NoFewer u.faults m.faults → R t u → S u m → Q t m)
    → AtEach R a before b mid → AtEach S b mid c after → AtEach Q a before c after
each_more R S Q a before b mid c after weaker join one two =
    joined (λ t m. R t m × NoFewer t.faults m.faults) (λ t m. S t m × NoFewer t.faults m.faults) Q a before b mid c after
    (λ t m here. weaker t m here.1 here.0) (λ t u m here there. join t u m here.1 there.1 here.0 there.0) (each_rising R a before b mid one) (each_rising S b mid c after two)

-- a shelf whose story and counts are those of another
pub each_as : (R : Moment → Moment → Type 0) (a x : Option Story) (before f : Tally) (b y : Option Story) (after g : Tally)
    → x ≡ a → f ≡ before → y ≡ b → g ≡ after → AtEach R a before b after → AtEach R x f y g
each_as R a x before f b y after g first counts last more each = rw (first, counts, last, more) each

-- the moments of a tale, by the marks of its story
along_marks : (P : Tale → Type 0) (s : Story) (ms : List Mark) → P (tale_of s) → AtMarks (λ m. P m.tale) s ms → Along P (tale_of s) (calls_of ms)
along_marks P s [] first here = first
along_marks P s (m ∷ ms) first here = (along_marks P s ms first here.0, subst (λ (t : Tale). During P t m.call) (tale_marked s ms) here.1)

marks_along : (P : Tale → Type 0) (s : Story) (ms : List Mark) → Along P (tale_of s) (calls_of ms) → AtMarks (λ m. P m.tale) s ms
marks_along P s [] here = tt
marks_along P s (m ∷ ms) here = (marks_along P s ms here.0, subst (λ (t : Tale). During P t m.call) (sym (tale_marked s ms)) here.1)

grew_of_passed : (P : Tale → Type 0) (s : Story) (before : Tally) (u : Story) (after : Tally) → Passed (λ m. P m.tale) s before u after → Grew P (tale_of s) (tale_of u)
grew_of_passed P s before u after passed = record {
  calls = calls_of passed.marks;
  led = ap tale_of passed.led ∙ tale_marked s passed.marks;
  each = along_marks P s passed.marks passed.first passed.each;
}

passed_of_grew : (R : Moment → Type 0) (P : Tale → Type 0) (s : Story) (before : Tally) (u : Story) (after : Tally) → Passed R s before u after → Grew P (tale_of s) (tale_of u)
    → Passed (λ m. P m.tale) s before u after
passed_of_grew R P s before u after passed grew =
    let calls : grew.calls ≡ calls_of passed.marks = same_calls (tale_of s) grew.calls (calls_of passed.marks) (sym grew.led ∙ ap tale_of passed.led ∙ tale_marked s passed.marks) in
    record {
      marks = passed.marks;
      led = passed.led;
      rising = passed.rising;
      first = grew_starts P (tale_of s) (tale_of u) grew;
      each = marks_along P s passed.marks (subst (λ (cs : List Call). Along P (tale_of s) cs) calls grew.each);
      last = grew_ends P (tale_of s) (tale_of u) grew;
    }

-- a tale that is told is that of a story
told_by : (a : Option Story) (t : Tale) → option_map tale_of a ≡ Some t → (s : Story) × (a ≡ Some s) × (tale_of s ≡ t)
told_by None t is = absurd (cc (is))
told_by (Some s) t is = (s, refl, cc (is))

-- a shelf's story, and the tale that it tells of it
module _ (a b : Option Story) (before after : Tally) (old new : Option Tale) (tells : old ≡ option_map tale_of a) (tells_then : new ≡ option_map tale_of b) where
  -- what holds of each moment's tale
  pub moments_of_each : (R : Tale → Tale → Type 0) → AtEach (OfTales R) a before b after → Moments R old new
  moments_of_each R each t is =
      let told = told_by a t (sym tells ∙ is) in
      let passed = each told.0 told.1 in
      subst (λ (x : Tale). (u : Tale) × (new ≡ Some u) × Grew (R x) x u) told.2
      (tale_of passed.0, tells_then ∙ ap (λ (o : Option Story). option_map tale_of o) passed.1, grew_of_passed (R (tale_of told.0)) told.0 before passed.0 after passed.2)

  -- and the other way: what holds at each moment of the tale holds of each moment of a story that passed
  pub each_of_moments : (R : Moment → Moment → Type 0) (Q : Tale → Tale → Type 0) → AtEach R a before b after → Moments Q old new → AtEach (λ t m. R t m × OfTales Q t m) a before b after
  each_of_moments R Q each moments s is =
      let passed = each s is in
      let told = moments (tale_of s) (tells ∙ ap (λ (o : Option Story). option_map tale_of o) is) in
      let same : told.0 ≡ tale_of passed.0 = some_is new told.0 (tale_of passed.0) told.1 (tells_then ∙ ap (λ (o : Option Story). option_map tale_of o) passed.1) in
      let grew = subst (λ (u : Tale). Grew (Q (tale_of s)) (tale_of s) u) same told.2 in (
        passed.0,
        passed.1,
        passed_both (R (moment s before)) (OfTales Q (moment s before)) s before passed.0 after passed.2
            (passed_of_grew (R (moment s before)) (Q (tale_of s)) s before passed.0 after passed.2 grew),
      )

  -- a story that passed, and what holds at each moment of the tale
  pub each_of_tales : (Q : Tale → Tale → Type 0) → AtEach (λ _ _. Unit {0}) a before b after → Moments Q old new → AtEach (OfTales Q) a before b after
  each_of_tales Q each moments =
      each_weaker (λ t m. Unit {0} × OfTales Q t m) (OfTales Q) a before b after (λ t m up down here. here.1) (each_of_moments (λ _ _. Unit {0}) Q each moments)

-- A story that went on by one call at most.
module _ (a b : Option Story) (before after : Tally) (noted : (b ≡ a) ⊎ ((c : Call) × (b ≡ and_next a c before))) (rising : NoFewer before.faults after.faults) where
  always : {X : Type 0} (c : Call) (t : Tale) → X → During (λ _. X) t c
  always (Wrote drive at blocks) t x = x
  always (Tore drive at blocks took) t x = x
  always (Synced drive) t x = x
  always (Gave piece count) t x = λ k le. x

  pub each_noted : AtEach (λ _ _. Unit {0}) a before b after
  each_noted s is = elim noted [
    | inl same ↦ (s, same ∙ is, passed_none (λ _. Unit {0}) s before after rising tt tt)
    | inr (c, next) ↦ (Next s c before, next ∙ ap (λ (o : Option Story). and_next o c before) is, passed_one (λ _. Unit {0}) s before after c rising tt (always c (tale_of s) tt) tt)
  ]

  -- by each moment of it the calls before it alone were made, or it is the end
  abbrev IsBeforeOrEnd : Moment → Moment → Type 0
  IsBeforeOrEnd t m = (m.effort ≡ before.effort) ⊎ (Some m.tale ≡ option_map tale_of b)

  pub each_before : AtEach (λ t m. (m.effort ≡ before.effort) ⊎ (Some m.tale ≡ option_map tale_of b)) a before b after
  each_before s is = elim noted [
    | inl same ↦ (s, same ∙ is, passed_none (IsBeforeOrEnd (moment s before)) s before after rising (inl refl) (inr (ends s (same ∙ is))))
    | inr (c, next) ↦
        let goes_on : b ≡ Some (Next s c before) = next ∙ ap (λ (o : Option Story). and_next o c before) is in
        (Next s c before, goes_on, passed_one (IsBeforeOrEnd (moment s before)) s before after c rising (inl refl) (during c (tale_of s)) (inr (ends (Next s c before) goes_on)))
  ]
    where
      ends : (u : Story) → b ≡ Some u → Some (tale_of u) ≡ option_map tale_of b
      ends u is = sym (ap (λ (o : Option Story). option_map tale_of o) is)

      during : (c : Call) (t : Tale) → During (λ x. (before.effort ≡ before.effort) ⊎ (Some x ≡ option_map tale_of b)) t c
      during (Wrote drive at blocks) t = inl refl
      during (Tore drive at blocks took) t = inl refl
      during (Synced drive) t = inl refl
      during (Gave piece count) t = λ k le. inl refl

  -- What holds at each moment of the call's tale, holds with the counts as the call was made, and with
  -- those behind it at its end.
  module _ (old new : Option Tale) (tells : old ≡ option_map tale_of a) (tells_then : new ≡ option_map tale_of b) (R : Moment → Moment → Type 0) (Q : Tale → Tale → Type 0)
      (during : (t m : Tale) → Q t m → R (moment_at t before) (moment_at m before))
      (behind : (t u : Tale) → Q t u → R (moment_at t before) (moment_at u after)) (moments : Moments Q old new) where
    pub each_one : AtEach R a before b after
    each_one s is =
        let t = tale_of s in
        let told = moments t (tells ∙ ap (λ (o : Option Story). option_map tale_of o) is) in
        let start = grew_starts (Q t) t told.0 told.2 in
        elim noted [
          | inl same ↦ (s, same ∙ is, passed_none (R (moment s before)) s before after rising (during t t start) (behind t t start))
          | inr (c, next) ↦
              let goes_on : b ≡ Some (Next s c before) = next ∙ ap (λ (o : Option Story). and_next o c before) is in
              let same : told.0 ≡ Then t c = some_is new told.0 (Then t c) told.1 (tells_then ∙ ap (λ (o : Option Story). option_map tale_of o) goes_on) in
              let grew = subst (λ (u : Tale). Grew (Q t) t u) same told.2 in
              let one : Along (Q t) t (c ∷ []) = subst (λ (cs : List Call). Along (Q t) t cs) (same_calls t grew.calls (c ∷ []) (sym grew.led)) grew.each in (
                Next s c before,
                goes_on,
                passed_one (R (moment s before)) s before after c rising (during t t start)
                    (during_weaker (Q t) (λ x. R (moment s before) (moment_at x before)) (during t) t c one.1)
                    (behind t (Then t c) (grew_ends (Q t) t (Then t c) grew)),
              )
        ]
