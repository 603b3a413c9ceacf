-- How the turns of a run add up.
use Rattle.std.proofs.Common.{◌≡◌, ℕ, ◌+◌, ◌≤◌, ◌<◌, Bool, false, List, [], ◌++◌, length, Option, None, Some, IfSome, refl, sym, ◌∙◌, ap, subst, append_assoc, arith}
use Rattle.std.proofs.lemmas.List.{append-nil, length-append}
use Rattle.mdv_run.specs.Below.{Reader, Script, asked_before, asked_of, Tale, told, Moments, Ends, Host, Memory, kept_at, Knows, RunStatus, Done, SomeRefused, Usage, NoQuorum, Panic, ReadFault, WriteFault, NoMemory, TwoDatabases, ScriptTooLong, NumbersSpent, At, Counts, Kept, RoseTo, LineTold, LinesTold, Stretch, IsLastShown, IsShown, contents, HasStatusCause, LinesMoment, RanTo}
use Rattle.mdv_run.specs.Below.{key_of}
use Rattle.mdv_shelf.specs.Everywhere.{Image}
use Rattle.mdv_store.specs.Opened.{IsOpenedAt, Opened}
use Rattle.mdv_shelf.specs.Made.{made_between}
use Rattle.mdv_shelf.specs.Story.{Effort}
use Rattle.mdv_engine_law.specs.Efforts.{replied_to}
use Rattle.mdv_run_law.specs.Run.{AreInTime, EndsAt, NextCalls, drive_failures, Over as IsOver, broken, ended, no_line, one_more, unread}
use Rattle.mdv_shelf.proofs.Moments.{moments_none, moments_after, ends_more, some_is}
use Rattle.mdv_base.proofs.Causes.{rose_within}
use Rattle.mdv_run.specs.declared.session.Turn.TheVariants.{On, Over}
use Rattle.mdv_run.specs.Turns.{at, Point, Turns, LinesRun}
use Rattle.mdv_shelf.specs.Story.{Story}
use Rattle.mdv_run.specs.Promise.{TurnEnd}
use Rattle.mdv_run_law.proofs.Lining.{lines_start, ran_start, lines_more_moment, ran_more}

module _ (host : Host) (stretch : Stretch) where
  -- one line more
  lines_then : (n : ℕ) (from mid to : At) (so_far piece : List ℕ) → LinesTold host stretch n from so_far mid → 0 < length piece → LineTold host mid piece to → IsShown stretch (n + length so_far) (length piece) to → LinesTold host stretch n from (so_far ++ piece) to
  lines_then n from mid to so_far piece (no_line bytes now) some line shown =
      subst (λ (l : List ℕ). LinesTold host stretch n from l to) (append-nil piece) (one_more n from to to piece [] some line (subst (λ (k : ℕ). IsShown stretch k (length piece) to) none shown) (no_line (n + length piece) to))
    where
      none : n + 0 ≡ n
      none = omega arith
  lines_then n from mid to so_far piece (one_more bytes now mean last first rest few one seen lines) some line shown =
      let at : n + length (first ++ rest) ≡ (n + length first) + length rest = add_up (length first) (length rest) n (length (first ++ rest)) (length-append first rest) in
      subst (λ (l : List ℕ). LinesTold host stretch n from l to) (sym (append_assoc first rest piece))
      (one_more n from mean to first (rest ++ piece) few one seen (lines_then (n + length first) mean mid to rest piece lines some line (subst (λ (k : ℕ). IsShown stretch k (length piece) to) at shown)))
    where
      add_up : (x y n xy : ℕ) → xy ≡ x + y → n + xy ≡ (n + x) + y
      add_up x y n xy one = omega (arith, one)

  -- another stretch shows what this one does, of so many bytes
  abbrev pub ShowsTo : Stretch → ℕ → Type 0
  ShowsTo other top = (bytes piece : ℕ) (now : At) → 0 < piece → bytes + piece ≤ top → IsShown stretch bytes piece now → IsShown other bytes piece now

  -- by which the lines are the same
  pub lines_shown : (other : Stretch) (top : ℕ) → ShowsTo other top → (n : ℕ) (from to : At) (pieces : List ℕ) → n + length pieces ≤ top → LinesTold host stretch n from pieces to → LinesTold host other n from pieces to
  lines_shown other top shows n from to pieces le (no_line bytes now) = no_line n from
  lines_shown other top shows n from to pieces le (one_more bytes now mid last first rest some one seen lines) =
      one_more n from mid to first rest some one (shows n (length first) mid some (omega (arith, le, length-append first rest)) seen)
      (lines_shown other top shows (n + length first) mid to rest (omega (arith, le, length-append first rest)) lines)

-- the turns so far, and what they told
pub record Went (host : Host) (stretch : Stretch) (start here : Point) (first now : Memory) (any : Bool) (script left : Script) (t u : Tale) : Type 0 where
  pub so_far : List ℕ
  pub is_told : told u ≡ told t ++ so_far
  pub lines : LinesTold host stretch 0 (at start (kept_at first t) false script) so_far (at here (kept_at now u) any left)

-- the same of a shelf and a source that tell what they hold, with what is known of the history
pub record SoFar (host : Host) (stretch : Stretch) (start here : Point) (first now : Memory) (any : Bool) (input : List ℕ) (before : Option Script) (a b : Option Tale) : Type 0 where
  pub left : Script
  pub comes : before ≡ Some left
  pub moments : Moments (LinesMoment host (asked_of input) first) a b
  pub ran : Ends (RanTo host (asked_of input) first now left) a b
  pub went : Ends (λ t u. Knows host first t → Went host stretch start here first now any (asked_of input) left t u) a b

-- what is known of the database that is open, and whose it is
open_only : (host : Host) (t : Tale) (opened : Option Opened) → IfSome opened (λ o. (o.key ≡ key_of host) × IsOpenedAt host.drives o t) → IfSome opened (λ o. IsOpenedAt host.drives o t)
open_only host t None is = tt
open_only host t (Some o) is = is.1

module _ (host : Host) (first : Memory) (input : List ℕ) (start : Point) where
  pub so_far_start : (stretch : Stretch) (before : Option Script) (a : Option Tale) → before ≡ Some (asked_of input) → SoFar host stretch start start first first false input before a a
  so_far_start stretch before a comes = record {
    left = asked_of input;
    comes = comes;
    moments = moments_none (LinesMoment host (asked_of input) first) a a refl (λ t. lines_start host (asked_of input) first t);
    ran = λ t is. (t, is, ran_start host (asked_of input) first t);
    went = λ t is. (t, is, λ knows. record { so_far = []; is_told = sym (append-nil (told t)); lines = no_line 0 (at start (kept_at first t) false (asked_of input)) });
  }

  module _ (here end : Point) (now new : Memory) (any : Bool) (before then : Option Script) (a b c : Option Tale) (stretch : Stretch) (so_far : SoFar host stretch start here first now any input before a b) where
    -- a longer stretch shows what the one before did
    abbrev pub ShowsStill : Stretch → Type 0
    ShowsStill other = (t u : Tale) → a ≡ Some t → b ≡ Some u → (bytes piece : ℕ) (at : At) → 0 < piece → length (told t) + (bytes + piece) ≤ length (told u) → IsShown stretch bytes piece at → IsShown other bytes piece at

    -- and where the run is at its end, by which more was told
    pub record Shows (other : Stretch) : Type 0 where
      pub still : ShowsStill other
      pub grew : (u v : Tale) → b ≡ Some u → c ≡ Some v → length (told u) < length (told v)
      pub last : (t u v : Tale) → a ≡ Some t → b ≡ Some u → c ≡ Some v → (bytes piece : ℕ) → length (told t) + bytes ≡ length (told u) → length (told u) + piece ≡ length (told v)
          → (r : Bool) (script : Script) → IsShown other bytes piece (at end (kept_at new v) r script)

    -- or the line with which it is over, whose story it ends with
    pub record ShowsOver (other : Stretch) : Type 0 where
      pub still : ShowsStill other
      pub ends : EndsAt other end.story end.effort
      pub last : (t u v : Tale) → a ≡ Some t → b ≡ Some u → c ≡ Some v → (bytes : ℕ) → length (told t) + bytes ≡ length (told u) → IsLastShown other bytes end.counts.drives (contents v)

    went_more : (other : Stretch) → Shows other → (r : Bool) (left : Script) (t u v : Tale) → a ≡ Some t → b ≡ Some u → c ≡ Some v → then ≡ Some left → Went host stretch start here first now any (asked_of input) so_far.left t u
        → Turns host here end now new any so_far.left then (On r) u v → Went host other start end first new r (asked_of input) left t v
    went_more other shows r left t u v is_t is_u is_v comes went turns =
        let until : length (told u) ≡ length (told t) + length went.so_far = ap length went.is_told ∙ length-append (told t) went.so_far in
        let then_told : length (told v) ≡ length (told u) + length turns.piece = ap length turns.is_told ∙ length-append (told u) turns.piece in
        let same : turns.leads.0 ≡ left = some_script (sym turns.leads.1 ∙ comes) in
        record {
          so_far = went.so_far ++ turns.piece;
          is_told = turns.is_told ∙ ap (λ (l : List ℕ). l ++ turns.piece) went.is_told ∙ append_assoc (told t) went.so_far turns.piece;
          lines = lines_then host other 0 (at start (kept_at first t) false (asked_of input)) (at here (kept_at now u) any so_far.left) (at end (kept_at new v) r left) went.so_far turns.piece
              (lines_shown host stretch other (length went.so_far) (λ bytes piece c some le seen. shows.still t u is_t is_u bytes piece c some (omega (arith, until, le)) seen) 0 _ _ went.so_far (omega arith) went.lines)
              (let more = shows.grew u v is_u is_v in omega (arith, more, then_told)) (subst (λ (s : Script). LineTold host (at here (kept_at now u) any so_far.left) turns.piece (at end (kept_at new v) r s)) same turns.leads.2) (shows.last t u v is_t is_u is_v (0 + length went.so_far) (length turns.piece) (omega (arith, until)) (omega (arith, then_told)) r left);
        } where
          some_script : {x y : Script} → Some x ≡ Some y → x ≡ y
          some_script is = cc

    -- one turn more
    pub so_far_more : (other : Stretch) → (r : Bool) → Shows other → ((lines : Script) → before ≡ Some lines → (left : Script) × (then ≡ Some left))
        → ((lines : Script) → before ≡ Some lines → Ends (TurnEnd host here end now new any lines then (On r)) b c)
        → ((lines : Script) → before ≡ Some lines → Moments (LinesMoment host lines now) b c)
        → SoFar host other start end first new r input then a c
    so_far_more other r shows goes turns moments =
        let left = goes so_far.left so_far.comes in
        record {
          left = left.0;
          comes = left.1;
          moments = moments_after (LinesMoment host (asked_of input) first) (RanTo host (asked_of input) first now so_far.left) (LinesMoment host so_far.left now) (LinesMoment host (asked_of input) first) a b c (λ t m lines. lines)
              (λ t u m before more. lines_more_moment host (asked_of input) first t now so_far.left u before m more) so_far.moments so_far.ran (moments so_far.left so_far.comes);
          ran = ends_more (RanTo host (asked_of input) first now so_far.left) (TurnEnd host here end now new any so_far.left then (On r)) (RanTo host (asked_of input) first new left.0) a b c
              (λ t u v one other. ran_more host (asked_of input) first t now so_far.left u one new left.0 v (other.ran tt left.0 left.1)) so_far.ran (turns so_far.left so_far.comes);
          went = λ t is.
              let one = so_far.went t is in
              let known = so_far.ran t is in
              let knows_so : Knows host first t → Knows host now one.0 = λ knows. subst (λ (u : Tale). Knows host now u) (some_is b known.0 one.0 known.1 one.1) (known.2.knows knows) in
              let two = turns so_far.left so_far.comes one.0 one.1 in
              (two.0, two.1, λ knows. went_more other shows r left.0 t one.0 two.0 is one.1 two.1 left.1 (one.2 knows) (two.2.turns (knows_so knows)));
        }

    -- the moments of the last turn too
    pub moments_over : ((lines : Script) → before ≡ Some lines → Moments (LinesMoment host lines now) b c) → Moments (LinesMoment host (asked_of input) first) a c
    moments_over moments =
        moments_after (LinesMoment host (asked_of input) first) (RanTo host (asked_of input) first now so_far.left) (LinesMoment host so_far.left now) (LinesMoment host (asked_of input) first) a b c (λ t m lines. lines)
        (λ t u m before more. lines_more_moment host (asked_of input) first t now so_far.left u before m more) so_far.moments so_far.ran (moments so_far.left so_far.comes)

    -- the turn that ends the run
    pub over_ends : (other : Stretch) (status : RunStatus) → ShowsOver other → ((lines : Script) → before ≡ Some lines → Ends (TurnEnd host here end now new any lines then (Over status)) b c) → Ends (λ t u. Knows host first t → LinesRun host other start end.counts first false (asked_of input) status t u) a c
    over_ends other status shows turns t is =
        let one = so_far.went t is in
        let known = so_far.ran t is in
        let knows_so : Knows host first t → Knows host now one.0 = λ knows. subst (λ (u : Tale). Knows host now u) (some_is b known.0 one.0 known.1 one.1) (known.2.knows knows) in
        let two = turns so_far.left so_far.comes one.0 one.1 in (
          two.0,
          two.1,
          λ first_known.
              let went = one.2 first_known in
              let turn = two.2.turns (knows_so first_known) in
              record {
                more = went.so_far ++ turn.piece;
                is_told = turn.is_told ∙ ap (λ (l : List ℕ). l ++ turn.piece) went.is_told ∙ append_assoc (told t) went.so_far turn.piece;
                last = kept_at new two.0;
                left = record { content = λ drive block. refl; opened = λ not_lost. open_only host two.0 new.opened (two.2.knows not_lost (knows_so first_known)).opened };
                runs = record { so_far = went.so_far; rest = turn.piece; parts = refl; at = at here (kept_at now one.0) any so_far.left; lines = still t one.0 is one.1 went; over = turn.leads other (length went.so_far) shows.ends (shows.last t one.0 two.0 is one.1 two.1 (length went.so_far) (until t one.0 went)) };
              },
        )
      where
        until : (t u : Tale) (went : Went host stretch start here first now any (asked_of input) so_far.left t u) → length (told t) + length went.so_far ≡ length (told u)
        until t u went = sym (ap length went.is_told ∙ length-append (told t) went.so_far)

        still : (t u : Tale) → a ≡ Some t → b ≡ Some u → (went : Went host stretch start here first now any (asked_of input) so_far.left t u) → LinesTold host other 0 (at start (kept_at first t) false (asked_of input)) went.so_far (at here (kept_at now u) any so_far.left)
        still t u is_t is_u went =
            lines_shown host stretch other (length went.so_far) (λ bytes piece c some le seen. shows.still t u is_t is_u bytes piece c some (omega (arith, until t u went, le)) seen) 0 _ _ went.so_far (omega arith) went.lines

-- a point at which a stretch ends is one at which another does that ends there
ends_with : (stretch other : Stretch) → EndsAt other stretch.new stretch.after.effort → {story : Option Story} {effort : Effort} → EndsAt stretch story effort → EndsAt other story effort
ends_with stretch other ends still = record { quiet = ends.quiet ∙ still.quiet; uncalled = ends.uncalled ∙ still.uncalled }

-- the same end of a run, by another stretch
over_shown : (host : Host) (stretch other : Stretch) (bytes : ℕ) → EndsAt other stretch.new stretch.after.effort → ((drives : ℕ → ℕ) (content : Image) → IsLastShown stretch bytes drives content → IsLastShown other bytes drives content) → (end : Counts) (now : At) (told : List ℕ) (status : RunStatus) (last : Kept)
    → IsOver host stretch bytes end now told status last → IsOver host other bytes end now told status last
over_shown host stretch other bytes ends shows end now told status last (unread so still stops) = unread so (ends_with stretch other ends still) stops
over_shown host stretch other bytes ends shows end now told status last (ended how same still stops) = ended how same (ends_with stretch other ends still) stops
over_shown host stretch other bytes ends shows end now told status last (broken answer later next more comes shown rose led with) =
    broken answer later next more comes (shows later.drives next.content shown) rose
    (record {
      in_time = subst (λ (o : Option Story). AreInTime now.counts now.story o) (sym ends.quiet) led.in_time;
      calls = subst (λ (e : Effort). NextCalls (drive_failures now.counts later) (replied_to answer (made_between now.effort e)) host now.kept now.script answer next) (sym ends.uncalled) led.calls;
      writes = λ s u is_s is_u. led.writes s u is_s (sym ends.quiet ∙ is_u);
      unwritten = λ reads s u is_s is_u. led.unwritten reads s u is_s (sym ends.quiet ∙ is_u);
    }) with

-- the same lines, by a stretch that begins earlier
pub run_earlier : (host : Host) (stretch other : Stretch) → EndsAt other stretch.new stretch.after.effort → ((bytes piece : ℕ) (shown : At) → 0 < piece → IsShown stretch bytes piece shown → IsShown other bytes piece shown)
    → ((bytes : ℕ) (drives : ℕ → ℕ) (content : Image) → IsLastShown stretch bytes drives content → IsLastShown other bytes drives content) → (now : Point) (end : Counts) (memory : Memory) (script : Script) (status : RunStatus) (t u : Tale)
    → LinesRun host stretch now end memory false script status t u → LinesRun host other now end memory false script status t u
run_earlier host stretch other ends shows last now end memory script status t u run = record {
  more = run.more;
  is_told = run.is_told;
  last = run.last;
  left = run.left;
  runs = record {
    so_far = run.runs.so_far;
    rest = run.runs.rest;
    parts = run.runs.parts;
    at = run.runs.at;
    lines = lines_shown host stretch other (length run.runs.so_far) (λ bytes piece shown some le seen. shows bytes piece shown some seen) 0 _ _ run.runs.so_far (omega arith) run.runs.lines;
    over = over_shown host stretch other (length run.runs.so_far) ends (last (length run.runs.so_far)) end run.runs.at run.runs.rest status run.last run.runs.over;
  };
}

-- a cause within a stretch is one over the longer stretch
pub cause_within : (host : Host) (start now then end : Counts) (status : RunStatus) → RoseTo start now → RoseTo then end → HasStatusCause host now then status → HasStatusCause host start end status
cause_within host start now then end Done before behind cause = tt
cause_within host start now then end SomeRefused before behind cause = tt
cause_within host start now then end Usage before behind cause = cause
cause_within host start now then end (NoQuorum readable needed) before behind cause = cause
cause_within host start now then end (Panic active listed) before behind cause = ((cause.0.0, cause.0.1, rose_within _ _ _ _ (before.drives cause.0.0.at.drive.0) (behind.drives cause.0.0.at.drive.0) cause.0.2), cause.1)
cause_within host start now then end ReadFault before behind cause = rose_within _ _ _ _ before.source behind.source cause
cause_within host start now then end WriteFault before behind cause = rose_within _ _ _ _ before.replies behind.replies cause
cause_within host start now then end NoMemory before behind cause = tt
cause_within host start now then end (TwoDatabases a b) before behind cause = cause
cause_within host start now then end (ScriptTooLong lines bytes) before behind cause = tt
cause_within host start now then end NumbersSpent before behind cause = tt

-- a reader that has taken nothing has the whole script before it
pub script_at_start : (reader : Reader) (left : Option (List ℕ)) (input : List ℕ) → reader ≡ record { unread = []; lines = 0; bytes = 0; line = [] } → left ≡ Some input → asked_before reader left ≡ Some (asked_of input)
script_at_start reader left input is comes = subst (λ (r : Reader). asked_before r left ≡ Some (asked_of input)) (sym is) (subst (λ (l : Option (List ℕ)). asked_before (record { unread = []; lines = 0; bytes = 0; line = [] }) l ≡ Some (asked_of input)) (sym comes) refl)
