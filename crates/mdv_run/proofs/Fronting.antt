-- What was told of the lines of a run by each of its moments, turn after turn.
use Rattle.std.proofs.Common.{◌≡◌, inl, inr, ℕ, ◌+◌, ◌≤◌, Bool, false, List, [], ◌++◌, length, Option, None, Some, refl, sym, ◌∙◌, ap, subst, append_assoc, arith}
use Rattle.std.proofs.lemmas.List.{append-nil, length-append}
use Rattle.std.specs.Option.{option_map}
use Rattle.mdv_run.specs.Below.{At, Counts, Ends, Host, IsRebooted, IsToldBy, Knows, LinesMoment, Memory, RanTo, Script, Stretch, Tale, kept_at, site_area, told, unbooted}
use Rattle.mdv_run.specs.Promise.{between, point_of}
use Rattle.mdv_run.specs.Turns.{LinesFront, Point, at}
use Rattle.mdv_run.proofs.Answering.{same_within}
use Rattle.mdv_run.proofs.Fronts.{ScriptFront}
use Rattle.mdv_run.proofs.Shown.{shown_earlier, shown_later}
use Rattle.mdv_run.proofs.Went.{Went, lines_shown}
use Rattle.mdv_run.specs.Below.{counts}
use Rattle.mdv_run.proofs.Whole.{point_between}
use Rattle.mdv_run_law.specs.Told.{AtWork, HasBroughtUp, WorkWrites}
use Rattle.mdv_run_law.proofs.Lining.{lines_start, ran_start}
use Rattle.mdv_shelf.specs.Failing.{Outcomes}
use Rattle.mdv_shelf.specs.Made.{Made, effort_of, made_of, tally_of}
use Rattle.mdv_shelf.proofs.Frame.{kept_outside_same}
use Rattle.mdv_shelf.proofs.Made.{by_efforts}
use Rattle.mdv_engine_law.specs.Efforts.{BootCalls}
use Rattle.mdv_shelf.specs.Area.{KeptOutside, nowhere}
use Rattle.mdv_run_law.specs.Run.{FromTo}
use Rattle.mdv_engine_law.specs.Line.{contents}
use Rattle.mdv_engine_law.proofs.Efforts.{boot_too}
use Rattle.mdv_run_law.specs.Run.{RoseCalmly, StoryGoesOn, drive_failures, no_line}
use Rattle.mdv_shelf.specs.Shelves.{AtEachMoment, AtEachTale, GoesOn, KeptInTime}
use Rattle.mdv_shelf.specs.Story.{Moment, OfTales, Story, Tally, marked, tale_of}
use Rattle.mdv_shelf.specs.declared.shelf.Shelf.{Ghosts}
use Rattle.mdv_shelf.proofs.Moments.{moments_both, moments_weaker, some_is}
use Rattle.mdv_shelf.proofs.Noted.{moment_weaker, moment_with_tales, moments_of_tales}
use Rattle.mdv_engine_law.specs.Answers.{accepted}
use Rattle.mdv_shelf.proofs.Stories.{marked_more, moment, passed_none}
use Rattle.mdv_shelf.proofs.Telling.{each_joined}

-- the lines of a run, from what was in memory before the first
abbrev pub RunFront : Host → Stretch → Point → Memory → Script → Moment → Moment → Type 0
RunFront host stretch start first script t m = Knows host first t.tale → LinesFront host stretch (at start (kept_at first t.tale) false script) t m

-- The turn behind that place, relative to where it began: a front of its reply is told, each history goes on, and no block is written but those that it may.
abbrev pub IsTurning : Host → Point → Memory → Bool → Script → Moment → Moment → Type 0
IsTurning host here now any left t m = ScriptFront host here now any left t m × OfTales (λ x y. LinesMoment host left now x y × WorkWrites host now left x y) t m

module _ (host : Host) (start : Point) (first : Memory) (script : Script) where
  -- where the run is before its first line
  abbrev outset : Story → At
  outset s = at start (kept_at first (tale_of s)) false script

  nothing_told : (stretch : Stretch) → stretch.new ≡ start.story → (s : Story) → start.story ≡ Some s → (tally : Tally) → RunFront host stretch start first script (moment s tally) (moment s tally)
  nothing_told stretch here s is tally = λ knows. record {
    bytes = [];
    is_told = sym (append-nil (told (tale_of s)));
    lines = record {
      so_far = [];
      rest = [];
      parts = refl;
      at = outset s;
      lines = no_line 0 (outset s);
      behind = λ x is_x. ([], here ∙ is_x);
      ran = λ x y is_x is_y. subst (λ (z : Story). RanTo host script first first script (tale_of x) (tale_of z)) (some_is start.story x y is_x is_y) (ran_start host script first (tale_of x));
      work = λ x is_x. subst (λ (z : Story). AtWork host (outset s) (tale_of z) (tale_of s)) (some_is start.story s x is is_x)
          (record { moment = lines_start host script first (tale_of s); writes = inl (kept_outside_same nowhere (tale_of s)) });
      front = inl refl;
    };
  }

  module _ {S : Type 0} (shelf : Ghosts S) (telling : (s : S) → shelf.tale s ≡ option_map tale_of (shelf.story s)) where
    pub fronts_start : (a : S) → shelf.story a ≡ start.story → AtEachMoment shelf (RunFront host (between shelf a a) start first script) a a
    fronts_start a here s is =
        let same = nothing_told (between shelf a a) here s (sym here ∙ is) (tally_of shelf a) in
        (s, is, passed_none (RunFront host (between shelf a a) start first script (moment s (tally_of shelf a))) s (tally_of shelf a) (tally_of shelf a) (λ part. omega arith) same same)

    tale_at : (s : S) (x : Story) → shelf.story s ≡ Some x → shelf.tale s ≡ Some (tale_of x)
    tale_at s x is = telling s ∙ ap (λ (o : Option Story). option_map tale_of o) is

    -- the story goes on with a stretch
    goes_further : (a b c : S) (o : Option Story) → GoesOn shelf b c → StoryGoesOn o (shelf.story b) → StoryGoesOn o (shelf.story c)
    goes_further a b c o more led s is =
        let one = led s is in
        let two = more (marked s one.0) one.1 in
        (two.2.marks ++ one.0, two.1 ∙ ap (λ (u : Story). Some u) (two.2.led ∙ marked_more s one.0 two.2.marks))

    -- from one place between two lines to the next, and the turn behind it
    module _ (a b c : S) (begins : start.story ≡ shelf.story a) (here : Point) (point : here.story ≡ shelf.story b) (now : Memory) (any : Bool) (left : Script) (on : GoesOn shelf a b) (more : GoesOn shelf b c) where
      -- where it is behind the turns so far
      abbrev place : Story → At
      place u = at here (kept_at now (tale_of u)) any left

      -- what was told by a moment of these
      so_far_front : (s u : Story) → shelf.story a ≡ Some s → shelf.story b ≡ Some u → (m : Moment) → length (told m.tale) ≤ length (told (tale_of u)) → RunFront host (between shelf a b) start first script (moment s (tally_of shelf a)) m
          → RunFront host (between shelf a c) start first script (moment s (tally_of shelf a)) m
      so_far_front s u is_s is_u m whole front known =
          let one = front known in
          let until : length (told m.tale) ≡ length (told (tale_of s)) + length one.bytes = ap length one.is_told ∙ length-append (told (tale_of s)) one.bytes in
          let parts : length one.bytes ≡ length one.lines.so_far + length one.lines.rest = ap length one.lines.parts ∙ length-append one.lines.so_far one.lines.rest in record {
            bytes = one.bytes;
            is_told = one.is_told;
            lines = record {
              so_far = one.lines.so_far;
              rest = one.lines.rest;
              parts = one.lines.parts;
              at = one.lines.at;
              lines = lines_shown host (between shelf a b) (between shelf a c) (length one.lines.so_far)
                  (λ bytes piece shown some le seen. shown_later shelf telling a b c on more bytes piece shown (tale_of s) (tale_of u) some (tale_at a s is_s) (tale_at b u is_u) (omega (arith, until, parts, whole, le)) seen) 0 _ _ one.lines.so_far (omega arith) one.lines.lines;
              behind = goes_further a b c one.lines.at.story more one.lines.behind;
              ran = one.lines.ran;
              work = one.lines.work;
              front = one.lines.front;
            };
          }

      -- and by one of the turn
      turn_front : (s u : Story) → shelf.story a ≡ Some s → shelf.story b ≡ Some u → (m : Moment) → Went host (between shelf a b) start here first now any script left (tale_of s) (tale_of u) → RanTo host script first now left (tale_of s) (tale_of u)
          → Knows host now (tale_of u) → IsTurning host here now any left (moment u (tally_of shelf b)) m → LinesFront host (between shelf a c) (at start (kept_at first (tale_of s)) false script) (moment s (tally_of shelf a)) m
      turn_front s u is_s is_u m been ran knows turn =
          let next = turn.0 knows in
          let until : length (told (tale_of u)) ≡ length (told (tale_of s)) + length been.so_far = ap length been.is_told ∙ length-append (told (tale_of s)) been.so_far in record {
            bytes = been.so_far ++ next.bytes;
            is_told = next.is_told ∙ ap (λ (l : List ℕ). l ++ next.bytes) been.is_told ∙ append_assoc (told (tale_of s)) been.so_far next.bytes;
            lines = record {
              so_far = been.so_far;
              rest = next.bytes;
              parts = refl;
              at = place u;
              lines = lines_shown host (between shelf a b) (between shelf a c) (length been.so_far)
                  (λ bytes piece shown some le seen. shown_later shelf telling a b c on more bytes piece shown (tale_of s) (tale_of u) some (tale_at a s is_s) (tale_at b u is_u) (omega (arith, until, le)) seen) 0 _ _ been.so_far (omega arith) been.lines;
              behind = goes_further a b c here.story more (λ x is. ([], sym point ∙ is));
              ran = λ x y is_x is_y. subst (λ (z : Story). RanTo host script first now left (tale_of z) (tale_of y)) (some_is (shelf.story a) s x is_s (sym begins ∙ is_x))
                  (subst (λ (z : Story). RanTo host script first now left (tale_of s) (tale_of z)) (some_is (shelf.story b) u y is_u (sym point ∙ is_y)) ran);
              work = λ x is_x. subst (λ (z : Story). AtWork host (place u) (tale_of z) m.tale) (some_is (shelf.story b) u x is_u (sym point ∙ is_x)) (record { moment = turn.1.0; writes = turn.1.1 });
              front = next.front;
            };
          }

      -- one turn more
      pub fronts_more : AtEachMoment shelf (RunFront host (between shelf a b) start first script) a b
          → Ends (λ t u. Knows host first t → Went host (between shelf a b) start here first now any script left t u) (shelf.tale a) (shelf.tale b) → Ends (RanTo host script first now left) (shelf.tale a) (shelf.tale b)
          → AtEachMoment shelf (ScriptFront host here now any left) b c → AtEachTale shelf (LinesMoment host left now) b c → AtEachTale shelf (WorkWrites host now left) b c
          → AtEachMoment shelf (RunFront host (between shelf a c) start first script) a c
      fronts_more fronts went ran turn moments writes =
          each_joined (RunFront host (between shelf a b) start first script) (IsTurning host here now any left) (RunFront host (between shelf a c) start first script) _ _ _ _ _ _
          (λ s u v is_s is_u is_v last there ahead m front within. so_far_front s u is_s is_u m within.bytes.1 front)
          (λ s u v is_s is_u is_v last m front within ahead known.
          let gone = went (tale_of s) (tale_at a s is_s) in
          let been = subst (λ (x : Tale). Went host (between shelf a b) start here first now any script left (tale_of s) x) (some_is (shelf.tale b) gone.0 (tale_of u) gone.1 (tale_at b u is_u)) (gone.2 known) in
          let led = ran (tale_of s) (tale_at a s is_s) in
          let then = subst (λ (x : Tale). RanTo host script first now left (tale_of s) x) (some_is (shelf.tale b) led.0 (tale_of u) led.1 (tale_at b u is_u)) led.2 in
          turn_front s u is_s is_u m been then (then.knows known) front)
          fronts (moment_with_tales shelf telling b c (ScriptFront host here now any left) (λ x y. LinesMoment host left now x y × WorkWrites host now left x y) turn (moments_both (LinesMoment host left now) (WorkWrites host now left) _ _ moments writes))

-- a moment of a boot, or of no call: nothing was told, and nothing done but on the replica's blocks
abbrev pub IsBooting : Host → Tale → Tale → Type 0
IsBooting host t m = (told m ≡ told t) × KeptOutside (site_area host.site) t m

-- what a boot came to that was answered, and what it led to
abbrev pub IsUp : Outcomes → Made → Host → Memory → Tale → Tale → Type 0
IsUp calls made host memory t u = IsRebooted calls host (kept_at (unbooted 0) t) accepted (kept_at memory u) × HasBroughtUp host calls memory t u × BootCalls calls made host accepted memory (contents t)

-- A boot that was answered, and the lines behind it.
module _ {S : Type 0} (shelf : Ghosts S) (telling : (s : S) → shelf.tale s ≡ option_map tale_of (shelf.story s)) (host : Host) (start : Counts) (script : Script) where
  quiet_front : (stretch : Stretch) (t m : Moment) → IsBooting host t.tale m.tale → IsToldBy host stretch start script t m
  quiet_front stretch t m here = record { bytes = []; is_told = here.0 ∙ sym (append-nil (told t.tale)); tells = inl (refl, here.1) }

  pub fronts_quiet : (stretch : Stretch) (a b : S) → GoesOn shelf a b → AtEachTale shelf (IsBooting host) a b → AtEachMoment shelf (IsToldBy host stretch start script) a b
  fronts_quiet stretch a b on quiet = moment_weaker shelf (OfTales (IsBooting host)) (IsToldBy host stretch start script) a b (λ t m up below here. quiet_front stretch t m here) (moments_of_tales shelf telling a b (IsBooting host) on quiet)

  pub fronts_whole : (a b c : S) (memory : Memory) → KeptInTime shelf a b → let mid = counts (shelf.faults b) start.source in RoseCalmly start mid → GoesOn shelf b c → AtEachTale shelf (IsBooting host) a b
      → Ends (IsUp (drive_failures start mid) (made_of shelf a b) host memory) (shelf.tale a) (shelf.tale b) → FromTo (KeptOutside (site_area host.site)) (shelf.story a) (shelf.story b) → (memory.opened ≡ None → FromTo (KeptOutside nowhere) (shelf.story a) (shelf.story b))
      → AtEachMoment shelf (RunFront host (between shelf b c) (point_of shelf start.source b) memory script) b c → AtEachMoment shelf (IsToldBy host (between shelf a c) start script) a c
  fronts_whole a b c memory on rose more booting boots writes unwritten lines =
      each_joined (OfTales (IsBooting host)) (RunFront host (between shelf b c) (point_of shelf start.source b) memory script) (IsToldBy host (between shelf a c) start script) _ _ _ _ _ _
      (λ s u v first turn last there begun ahead m here within. quiet_front (between shelf a c) (moment s _) m here)
      (λ s u v is_s is_u is_v turn m front within ahead.
      let mid = counts (shelf.faults b) start.source in
      let up = boots (tale_of s) (telling a ∙ ap (λ (o : Option Story). option_map tale_of o) is_s) in
      let same : up.0 ≡ tale_of u = some_is (shelf.tale b) up.0 (tale_of u) up.1 (telling b ∙ ap (λ (o : Option Story). option_map tale_of o) is_u) in
      let booted = subst (IsUp (drive_failures start mid) (made_of shelf a b) host memory (tale_of s)) same up.2 in
      let one = front booted.1.booted.knows in record {
        bytes = one.bytes;
        is_told = one.is_told ∙ ap (λ (l : List ℕ). l ++ one.bytes) turn.0;
        tells = inr (record {
          booted = mid;
          rose = rose;
          kept = kept_at memory (tale_of u);
          boots = booted.0;
          by = record { story = shelf.story b; effort = effort_of shelf b };
          calls = boot_too (drive_failures start mid) (drive_failures start mid) (same_within (drive_failures start mid)) _ _ (by_efforts shelf a b) host accepted memory (contents (tale_of s)) booted.2;
          writes = λ x y is_x is_y. writes x y is_x is_y;
          unwritten = λ none x y is_x is_y. unwritten none x y is_x is_y;
          point = point_between shelf telling a b c start.source (tale_of u) (telling b ∙ ap (λ (o : Option Story). option_map tale_of o) is_u) on quiet more;
          leads = λ x is_x. subst (λ (z : Story). HasBroughtUp host (drive_failures start mid) memory (tale_of s) (tale_of z)) (some_is (shelf.story b) u x is_u is_x) booted.1;
          lines = record {
            so_far = one.lines.so_far;
            rest = one.lines.rest;
            parts = one.lines.parts;
            at = one.lines.at;
            lines = lines_shown host (between shelf b c) (between shelf a c) (length one.lines.so_far) (λ bytes piece shown some le seen. shown_earlier shelf telling a b c on.goes quiet bytes piece shown some seen) 0 _ _ one.lines.so_far (omega arith) one.lines.lines;
            behind = one.lines.behind;
            ran = one.lines.ran;
            work = one.lines.work;
            front = one.lines.front;
          };
        });
      }) (moments_of_tales shelf telling a b (IsBooting host) on.goes booting) lines
    where
      quiet : AtEachTale shelf (λ t m. told m ≡ told t) a b
      quiet = moments_weaker (IsBooting host) (λ t m. told m ≡ told t) _ _ (λ t m here. here.0) booting
