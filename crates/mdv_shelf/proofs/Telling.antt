-- What was told by each moment of a story, and which counts were shown by then.
use Rattle.std.proofs.Common.{◌≡◌, ◌⊎◌, inl, inr, ℕ, ◌+◌, ◌≤◌, ◌<◌, List, [], ◌∷◌, length, Option, Some, Ok, sym, ◌∙◌, ap, subst, arith}
use Rattle.std.proofs.lemmas.List.{length-append, length-take}
use Rattle.std.specs.Option.{option_map}
use Rattle.mdv_shelf.specs.Tale.{Tale, Then, Call, Wrote, Tore, Synced, Gave, last, told, tells}
use Rattle.mdv_shelf.specs.Calls.{Part, OnDrive, OnReplies, HasGivingCause}
use Rattle.mdv_shelf.specs.Moments.{During}
use Rattle.mdv_shelf.specs.Story.{Effort, IsNoted, Tally, Story, tale_of, moment_at, Mark, marked, Moment, AtMarks, NoFewer, Passed, AtEach, OfTales}
use Rattle.mdv_shelf.specs.Made.{effort_of, made_between, tally_of}
use Rattle.mdv_shelf.specs.Shelves.{AtEachMoment, AtEachTale, AtEnd, EndsTold, GoesOn, IsAtRest, IsOneCall, Keeps, MadeCalls, RestsOnceTold}
use Rattle.mdv_shelf.specs.declared.shelf.Shelf.{Ghosts}
use Rattle.mdv_shelf.proofs.Moments.{moments_end, some_is}
use Rattle.mdv_shelf.proofs.Made.{by_efforts}
use Rattle.mdv_shelf.proofs.Noted.{moment_weaker, moments_of_tales, one_call}
use Rattle.mdv_shelf.proofs.Stories.{each_before, Between, at_marks_weaker, moment, passed_both, passed_between, passed_more, passed_weaker}

-- by the moment no fewer bytes were told than by t, and no more than by u
abbrev pub IsToldBetween : Tale → Tale → Moment → Type 0
IsToldBetween t u m = (length (told t) ≤ length (told m.tale)) × (length (told m.tale) ≤ length (told u))

told_then : (t : Tale) (c : Call) → length (told (Then t c)) ≡ length (told t) + length (tells c)
unfolding told
told_then t c = length-append (told t) (tells c)

told_grows : (t : Tale) (c : Call) → length (told t) ≤ length (told (Then t c))
told_grows t c = omega (arith, told_then t c)

told_front : (t : Tale) (piece : List ℕ) (k count : ℕ) → k ≤ count → length (told (Then t (Gave piece k))) ≤ length (told (Then t (Gave piece count)))
told_front t piece k count le = omega (arith, le, told_then t (Gave piece k), told_then t (Gave piece count), length-take k piece, length-take count piece)

during_told : (first t : Tale) (c : Call) (tally : Tally) → length (told first) ≤ length (told t) → During (λ x. IsToldBetween first (Then t c) (moment_at x tally)) t c
during_told first t (Wrote drive at blocks) tally le = (omega (arith, le, told_grows t (Wrote drive at blocks)), omega arith)
during_told first t (Tore drive at blocks took) tally le = (omega (arith, le, told_grows t (Tore drive at blocks took)), omega arith)
during_told first t (Synced drive) tally le = (omega (arith, le, told_grows t (Synced drive)), omega arith)
during_told first t (Gave piece count) tally le = λ k few. (omega (arith, le, told_grows t (Gave piece k)), told_front t piece k count few)

told_marked : (s : Story) (ms : List Mark) → length (told (tale_of s)) ≤ length (told (tale_of (marked s ms)))
told_marked s [] = omega arith
told_marked s (m ∷ ms) = omega (arith, told_marked s ms, told_grows (tale_of (marked s ms)) m.call)

at_marks_told : (s : Story) (ms : List Mark) → AtMarks (IsToldBetween (tale_of s) (tale_of (marked s ms))) s ms
at_marks_told s [] = tt
at_marks_told s (m ∷ ms) = (
  at_marks_weaker (IsToldBetween (tale_of s) (tale_of (marked s ms))) (IsToldBetween (tale_of s) (tale_of (marked s (m ∷ ms))))
      (λ x here. (here.0, omega (arith, here.1, told_grows (tale_of (marked s ms)) m.call))) s ms (at_marks_told s ms),
  during_told (tale_of s) (tale_of (marked s ms)) m.call m.tally (told_marked s ms),
)

-- what each moment of a stretch shows, whatever else holds of it: counts and bytes between those of its start and those of its end
pub record IsWithin (s : Story) (before : Tally) (u : Story) (after : Tally) (m : Moment) : Type 0 where
  pub counts : Between before.faults after.faults m
  pub bytes : IsToldBetween (tale_of s) (tale_of u) m

pub passed_within : (P : Moment → Type 0) (s : Story) (before : Tally) (u : Story) (after : Tally) → Passed P s before u after → Passed (λ m. P m × IsWithin s before u after m) s before u after
passed_within P s before u after passed =
    let between = passed_between P s before u after passed in
    let told : Passed (IsToldBetween (tale_of s) (tale_of u)) s before u after = record {
      marks = passed.marks;
      led = passed.led;
      rising = passed.rising;
      first = (omega arith, subst (λ (v : Story). length (told (tale_of s)) ≤ length (told (tale_of v))) (sym passed.led) (told_marked s passed.marks));
      each = subst (λ (v : Story). AtMarks (IsToldBetween (tale_of s) (tale_of v)) s passed.marks) (sym passed.led) (at_marks_told s passed.marks);
      last = (subst (λ (v : Story). length (told (tale_of s)) ≤ length (told (tale_of v))) (sym passed.led) (told_marked s passed.marks), omega arith);
    } in
    let both = passed_both (Between before.faults after.faults) (IsToldBetween (tale_of s) (tale_of u)) s before u after between told in
    let all = passed_both P (λ m. Between before.faults after.faults m × IsToldBetween (tale_of s) (tale_of u) m) s before u after passed both in
    passed_weaker (λ m. P m × (Between before.faults after.faults m × IsToldBetween (tale_of s) (tale_of u) m)) (λ m. P m × IsWithin s before u after m) s before u after
    (λ m here. (here.0, record { counts = here.1.0; bytes = here.1.1 })) all

-- One stretch, of whose start and end all is known.
pub each_within : (R Q : Moment → Moment → Type 0) (a : Option Story) (before : Tally) (b : Option Story) (after : Tally)
    → ((s u : Story) → a ≡ Some s → b ≡ Some u → (m : Moment) → R (moment s before) (moment u after) → R (moment s before) m → IsWithin s before u after m → Q (moment s before) m) → AtEach R a before b after → AtEach Q a before b after
each_within R Q a before b after weaker each s is =
    let passed = each s is in
    let first = moment s before in
    let within = passed_within (R first) s before passed.0 after passed.2 in
    (passed.0, passed.1, passed_weaker (λ m. R first m × IsWithin s before passed.0 after m) (Q first) s before passed.0 after (λ m here. weaker s passed.0 is passed.1 m passed.2.last here.0 here.1) within)

-- One stretch after another.
pub each_joined : (R T Q : Moment → Moment → Type 0) (a : Option Story) (before : Tally) (b : Option Story) (mid : Tally) (c : Option Story) (after : Tally)
    → ((s u v : Story) → a ≡ Some s → b ≡ Some u → c ≡ Some v → R (moment s before) (moment u mid) → T (moment u mid) (moment u mid) → NoFewer mid.faults after.faults → (m : Moment) → R (moment s before) m → IsWithin s before u mid m → Q (moment s before) m)
    → ((s u v : Story) → a ≡ Some s → b ≡ Some u → c ≡ Some v → R (moment s before) (moment u mid) → (m : Moment) → T (moment u mid) m → IsWithin u mid v after m → IsToldBetween (tale_of s) (tale_of u) (moment u mid) → Q (moment s before) m)
    → AtEach R a before b mid → AtEach T b mid c after → AtEach Q a before c after
each_joined R T Q a before b mid c after front behind one two s is =
    let first = one s is in
    let second = two first.0 first.1 in
    let start = moment s before in
    let turn = moment first.0 mid in
    let within = passed_within (R start) s before first.0 mid first.2 in
    let then = passed_within (T turn) first.0 mid second.0 after second.2 in (
      second.0,
      second.1,
      passed_more (Q start) s before first.0 mid second.0 after
          (passed_weaker (λ m. R start m × IsWithin s before first.0 mid m) (Q start) s before first.0 mid
          (λ m here. front s first.0 second.0 is first.1 second.1 first.2.last second.2.first then.last.1.counts.0 m here.0 here.1) within)
          (passed_weaker (λ m. T turn m × IsWithin first.0 mid second.0 after m) (Q start) first.0 mid second.0 after
          (λ m here. behind s first.0 second.0 is first.1 second.1 first.2.last m here.0 here.1 within.last.1.bytes) then),
    )

-- a giving of which all was told raised no count
pub told_calm : {T E : Type 0} {v : T} (before now : Part → ℕ) → HasGivingCause {T = T} {E = E} before now (Ok v) → NoFewer now before
told_calm before now cause OnReplies = let same = cause.own.calm in omega arith
told_calm before now cause (OnDrive drive) = let same = cause.drives drive in omega arith

module _ {S : Type 0} (shelf : Ghosts S) where
  abbrev IsBeforeOrEnd : S → S → Moment → Moment → Type 0
  IsBeforeOrEnd a b t m = (m.effort ≡ effort_of shelf a) ⊎ (Some m.tale ≡ shelf.tale b)

  abbrev AreAllButOne : S → Tale → Moment → Moment → Type 0
  AreAllButOne b u t m = length (told t.tale) < length (told m.tale) → length (told m.tale) < length (told u) → (made_between m.effort (effort_of shelf b)).exactly 1 0

  -- a stretch of one call by which something was told, and no count rose
  pub told_once : (a b : S) → GoesOn shelf a b → IsOneCall shelf a b → MadeCalls shelf a b 1 0 → AtEnd shelf (λ t u. length (told t) < length (told u)) a b → NoFewer (shelf.faults b) (shelf.faults a) → EndsTold shelf a b
  told_once a b on one took grew same = record {
    grew = grew;
    still = each_within (λ _ _. Unit {0}) (λ t m. length (told t.tale) < length (told m.tale) → NoFewer (shelf.faults b) m.faults) _ _ _ _ (λ s u first last m there here within some part. omega (arith, same part, within.counts.0 part)) on;
    once = λ u is. moment_weaker shelf (IsBeforeOrEnd a b) (AreAllButOne b u) a b (λ t m up down here. before u is m here) one;
  } where
    before : (u : Tale) → shelf.tale b ≡ Some u → (m : Moment) → (m.effort ≡ effort_of shelf a) ⊎ (Some m.tale ≡ shelf.tale b) → {X : Type 0} → X → length (told m.tale) < length (told u) → (made_between m.effort (effort_of shelf b)).exactly 1 0
    before u is m (inl first) some few = subst (λ (e : Effort). (made_between e (effort_of shelf b)).exactly 1 0) (sym first) ((by_efforts shelf a b).exactly 1 0 took)
    before u is m (inr ends) some few =
        let last : m.tale ≡ u = some_is (shelf.tale b) m.tale u (sym ends) is in
        let all : length (told m.tale) ≡ length (told u) = ap (λ (t : Tale). length (told t)) last in
        absurd (omega (arith, few, all))

  module _ (telling : (s : S) → shelf.tale s ≡ option_map tale_of (shelf.story s)) where
    -- one call is one at most
    pub one_call_only : (part : Part) (old new : S) → IsNoted shelf.story shelf.faults shelf.calls shelf.written part old new → Keeps shelf old new → IsOneCall shelf old new
    one_call_only part old new noted keeps =
        moment_weaker shelf (λ t m. (m.effort ≡ effort_of shelf old) ⊎ (Some m.tale ≡ option_map tale_of (shelf.story new))) (λ t m. (m.effort ≡ effort_of shelf old) ⊎ (Some m.tale ≡ shelf.tale new)) old new
        (λ t m up down here. elim here [ inl first ↦ inl first | inr ends ↦ inr (ends ∙ sym (telling new)) ])
        (each_before (shelf.story old) (shelf.story new) (tally_of shelf old) (tally_of shelf new) (one_call part (shelf.story old) (shelf.story new) (tally_of shelf old) noted) keeps.no_fewer_faults)

    -- what holds once a byte was told, of a stretch behind one in which none was
    told_later : (P : Moment → Type 0) (a b c : S) → GoesOn shelf a b → AtEachTale shelf (λ t m. told m ≡ told t) a b
        → AtEachMoment shelf (λ t m. length (told t.tale) < length (told m.tale) → P m) b c → AtEachMoment shelf (λ t m. length (told t.tale) < length (told m.tale) → P m) a c
    told_later P a b c on quiet then =
        each_joined (OfTales (λ t m. told m ≡ told t)) (λ t m. length (told t.tale) < length (told m.tale) → P m) (λ t m. length (told t.tale) < length (told m.tale) → P m) _ _ _ _ _ _
        (λ s u v first mid last turn ahead rise m here within some. absurd (let still : length (told m.tale) ≡ length (told (tale_of s)) = ap length here in omega (arith, some, still)))
        (λ s u v first mid last turn m here within ahead some. here (let still : length (told (tale_of u)) ≡ length (told (tale_of s)) = ap length turn in omega (arith, some, still)))
        (moments_of_tales shelf telling a b (λ t m. told m ≡ told t) on quiet) then

    -- and one behind a stretch in which nothing was
    pub told_behind : (a b c : S) → GoesOn shelf a b → AtEachTale shelf (λ t m. told m ≡ told t) a b → EndsTold shelf b c → EndsTold shelf a c
    told_behind a b c on quiet then = record {
      grew = grew;
      still = told_later (λ m. NoFewer (shelf.faults c) m.faults) a b c on quiet then.still;
      once = λ u is. told_later (λ m. length (told m.tale) < length (told u) → (made_between m.effort (effort_of shelf c)).exactly 1 0) a b c on quiet (then.once u is);
    } where
      grew : AtEnd shelf (λ t u. length (told t) < length (told u)) a c
      grew t is =
          let still = moments_end (λ t m. told m ≡ told t) (shelf.tale a) (shelf.tale b) quiet t is in
          let more = then.grew still.0 still.1 in
          (more.0, more.1, subst (λ (l : List ℕ). length l < length (told more.0)) still.2 more.2)

    pub rests_behind : (a b c : S) → GoesOn shelf a b → AtEachTale shelf (λ t m. told m ≡ told t) a b → RestsOnceTold shelf b c → RestsOnceTold shelf a c
    rests_behind a b c on quiet then u is = told_later (IsAtRest (shelf.faults c) u) a b c on quiet (then u is)

    -- a stretch in which no block was touched, and no drive failed
    pub rests_alone : (a b : S) → GoesOn shelf a b → AtEachTale shelf (λ t m. (drive block : ℕ) → last m drive block ≡ last t drive block) a b → ((drive : ℕ) → shelf.faults b (OnDrive drive) ≡ shelf.faults a (OnDrive drive)) → RestsOnceTold shelf a b
    rests_alone a b on same calm end is =
        each_within (OfTales (λ t m. (drive block : ℕ) → last m drive block ≡ last t drive block)) (λ t m. length (told t.tale) < length (told m.tale) → IsAtRest (shelf.faults b) end m) _ _ _ _
        (λ s u first ends m there here within some.
        let last_is : tale_of u ≡ end = some_is (shelf.tale b) (tale_of u) end (telling b ∙ ap (λ (o : Option Story). option_map tale_of o) ends) is in record {
          reads = λ drive block. here drive block ∙ sym (there drive block) ∙ ap (λ (t : Tale). last t drive block) last_is;
          drives = λ drive. omega (arith, calm drive, within.counts.0 (OnDrive drive));
        }) (moments_of_tales shelf telling a b (λ t m. (drive block : ℕ) → last m drive block ≡ last t drive block) on same)

    -- and one in which nothing was told
    pub rests_quiet : (a b : S) → GoesOn shelf a b → AtEachTale shelf (λ t m. told m ≡ told t) a b → RestsOnceTold shelf a b
    rests_quiet a b on quiet end is =
        each_within (OfTales (λ t m. told m ≡ told t)) (λ t m. length (told t.tale) < length (told m.tale) → IsAtRest (shelf.faults b) end m) _ _ _ _
        (λ s u first ends m there here within some. absurd (let still : length (told m.tale) ≡ length (told (tale_of s)) = ap length here in omega (arith, some, still)))
        (moments_of_tales shelf telling a b (λ t m. told m ≡ told t) on quiet)
