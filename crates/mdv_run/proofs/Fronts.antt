-- Which front of a reply was told by each moment of a turn.
use Rattle.mdv_base.specs.Causes.{failures_of}
use Rattle.mdv_shelf.specs.Failing.{Outcomes}
use Rattle.mdv_base.proofs.Causes.{within_calm}
use Rattle.mdv_run_law.specs.Run.{RoseCalmly}
use Rattle.std.proofs.Common.{◌≡◌, inl, inr, ℕ, Bool, List, [], ◌++◌, take, Option, Some, refl, sym, ◌∙◌, ap, subst, arith}
use Rattle.std.proofs.lemmas.List.{append-nil, append_cancel_left}
use Rattle.mdv_run.specs.Below.{Answer, Boot, BootedTo, Counts, Host, IsAnswered, IsLine, IsRebooted, IsSame, IsTurnedDown, Kept, Knows, LineTooLong, Memory, OnDrive, RanTo, Script, StaysHome, Tale, TellsFront, TurnMoment, Turned, counts, contents, kept_at, line, told, too_long}
use Rattle.mdv_run.specs.Promise.{point_of}
use Rattle.mdv_run.specs.Turns.{Point, TurnFront, at}
use Rattle.mdv_shelf.specs.Area.{KeptOutside, nowhere}
use Rattle.mdv_shelf.specs.Made.{effort_of}
use Rattle.mdv_shelf.specs.Story.{Effort}
use Rattle.mdv_shelf.specs.Calls.{Part}
use Rattle.mdv_shelf.specs.Shelves.{AtEachMoment, AtEachTale}
use Rattle.mdv_shelf.specs.Moments.{IsSince}
use Rattle.mdv_shelf.specs.Story.{OfTales}
use Rattle.mdv_shelf.proofs.Noted.{moment_weaker, moment_with_tales}
use Rattle.mdv_shelf.specs.Story.{FailuresBy, Moment, NoFewer, Story, tale_of}
use Rattle.mdv_shelf.specs.declared.shelf.Shelf.{Ghosts}
use Rattle.mdv_shelf.proofs.Stories.{each_none, moment}
use Rattle.mdv_base.specs.declared.refusal.Refusal.{Refusal}
use Rattle.mdv_engine_law.specs.Line.{Ask, Nothing, Stays}
use Rattle.mdv_engine_law.specs.Replies.{ok_line, text_of}
use Rattle.mdv_engine_law.specs.Answers.{IsSaid, accepted, refusing}
use Rattle.mdv_run_law.proofs.Booting.{booted_ran}
use Rattle.mdv_run_law.proofs.Since.{moments_since}
use Rattle.mdv_run_law.proofs.Turning.{long_ran}
use Rattle.std.specs.Option.{option_map}
use Rattle.mdv_engine_law.proofs.Executing.{rebooted_more}
use Rattle.mdv_engine.specs.Ends.{OnlyAnswers}

-- what a line with this text led to
abbrev pub LineLeads : Host → List ℕ → Memory → Memory → Tale → Tale → Type 0
LineLeads host text old new t m = (more : Script) → RanTo host (line text more) old new more t m

-- a front of the reply to a line, of an answer to it that came whatever the line, and of a turn's
abbrev pub LineFront : Host → List ℕ → Memory → Moment → Moment → Type 0
LineFront host text old t m = Knows host old t.tale → TellsFront (λ outcomes kept answer next. IsAnswered outcomes host kept text answer next) (LineLeads host text old) old t m

abbrev pub AnswerFront : Host → Answer → Memory → Moment → Moment → Type 0
AnswerFront host answer old t m = Knows host old t.tale → TellsFront (OnlyAnswers answer) (Turned host Nothing old) old t m

abbrev pub ScriptFront : Host → Point → Memory → Bool → Script → Moment → Moment → Type 0
ScriptFront host now old refused script t m = Knows host old t.tale → TurnFront host (at now (kept_at old t.tale) refused script) t m

pub front_of : (Comes More : Outcomes → Kept → Answer → Kept → Type 0) (Leads Works : Memory → Tale → Tale → Type 0) (old : Memory) (t m : Moment) → ((outcomes : Outcomes) (kept : Kept) (answer : Answer) (next : Kept) → Comes outcomes kept answer next → More outcomes kept answer next)
    → ((outcomes : Outcomes) (answer : Answer) (next : Kept) → Comes outcomes (kept_at old t.tale) answer next → IsSaid answer → told m.tale ≡ told t.tale ++ text_of answer → Leads next.memory t.tale m.tale → Works next.memory t.tale m.tale)
    → TellsFront Comes Leads old t m → TellsFront More Works old t m
front_of Comes More Leads Works old t m more works (inl same) = inl same
front_of Comes More Leads Works old t m more works (inr front) = inr (record {
  answer = front.answer;
  next = front.next;
  came = more _ _ _ _ front.came;
  count = front.count;
  is_told = front.is_told;
  shows = front.shows;
  unwritten = front.unwritten;
  led = λ whole said. works _ front.answer front.next front.came said (front.is_told ∙ ap (λ (l : List ℕ). told t.tale ++ l) whole) (front.led whole said);
})

-- at each moment of a turn, which is the same line's
pub fronts_led : {S : Type 0} (shelf : Ghosts S) (telling : (s : S) → shelf.tale s ≡ option_map tale_of (shelf.story s)) (a b : S) (Comes : Outcomes → Kept → Answer → Kept → Type 0) (host : Host) (ask : Ask) (old : Memory) (text : List ℕ)
    → ((outcomes : Outcomes) (kept : Kept) (answer : Answer) (next : Kept) → Comes outcomes kept answer next → IsAnswered outcomes host kept text answer next)
    → ((t m : Tale) → IsSince t m → StaysHome host t m → (outcomes : Outcomes) (answer : Answer) (next : Kept) → Comes outcomes (kept_at old t) answer next → IsSaid answer → told m ≡ told t ++ text_of answer → Turned host ask old next.memory t m → LineLeads host text old next.memory t m)
    → AtEachMoment shelf (λ t m. Knows host old t.tale → TellsFront Comes (Turned host ask old) old t m) a b → AtEachTale shelf (TurnMoment host ask old) a b → AtEachMoment shelf (LineFront host text old) a b
fronts_led shelf telling a b Comes host ask old text more led fronts each =
    moment_weaker shelf (λ t m. (Knows host old t.tale → TellsFront Comes (Turned host ask old) old t m) × OfTales (λ x y. IsSince x y × TurnMoment host ask old x y) t m) (LineFront host text old) a b
    (λ t m up down here known. front_of Comes (λ outcomes kept answer next. IsAnswered outcomes host kept text answer next) (Turned host ask old) (LineLeads host text old) old t m more (led t.tale m.tale here.1.0 here.1.1.home) (here.0 known))
    (moment_with_tales shelf telling a b (λ t m. Knows host old t.tale → TellsFront Comes (Turned host ask old) old t m) (λ x y. IsSince x y × TurnMoment host ask old x y) fronts (moments_since (TurnMoment host ask old) _ _ each))

pub only_refused : (refusal : Refusal) (outcomes : Outcomes) (kept : Kept) (answer : Answer) (next : Kept) → OnlyAnswers (refusing refusal) outcomes kept answer next → IsTurnedDown refusal kept answer next
only_refused refusal outcomes kept answer next is = (is.1, subst (λ (k : Kept). Stays kept k) (sym is.2) (record { memory = refl; content = λ drive block. refl }))

-- an `ok` that was told behind a boot
pub boot_front : (host : Host) (old new : Memory) (text : List ℕ) → IsLine text Boot → (t u m : Moment) → told u.tale ≡ told t.tale
    → IsRebooted (λ drive. FailuresBy t u (OnDrive drive)) host (kept_at old t.tale) accepted (kept_at new u.tale) → BootedTo host new t.tale u.tale → new.begun ≡ old.begun → new.entries ≡ [] → IsSince t.tale m.tale → StaysHome host u.tale m.tale → TellsFront (OnlyAnswers accepted) (Turned host Nothing new) new u m
    → TellsFront (λ outcomes kept answer next. IsAnswered outcomes host kept text answer next) (LineLeads host text old) old t m
boot_front host old new text boots t u m quiet rebooted booted begun fresh since home (inl same) = inl (same ∙ quiet)
boot_front host old new text boots t u m quiet rebooted booted begun fresh since home (inr front) = inr (record {
  answer = accepted;
  next = kept_at new u.tale;
  came = inr (inl (Boot, boots, rebooted_more (λ drive. FailuresBy t u (OnDrive drive)) (λ drive. FailuresBy t m (OnDrive drive)) (λ drive. within_calm _ _ _ (front.came.0 drive)) host (kept_at old t.tale) (kept_at new u.tale) accepted rebooted));
  count = front.count;
  is_told = front.is_told ∙ ap (λ (a : Answer). told u.tale ++ take front.count (text_of a)) front.came.1 ∙ ap (λ (l : List ℕ). l ++ take front.count (text_of accepted)) quiet;
  shows = subst (λ (k : Kept). IsSame k.content (contents m.tale)) front.came.2 front.shows;
  unwritten = λ quiet. absurd quiet;
  led = λ whole said more.
      let all : take front.count (text_of front.answer) ≡ text_of front.answer = subst (λ (a : Answer). take front.count (text_of a) ≡ text_of a) (sym front.came.1) whole in
      let turned : Turned host Nothing new new u.tale m.tale = subst (λ (k : Kept). Turned host Nothing new k.memory u.tale m.tale) front.came.2 (front.led all (subst IsSaid (sym front.came.1) tt)) in
      let is : told m.tale ≡ told u.tale ++ ok_line = front.is_told ∙ ap (λ (l : List ℕ). told u.tale ++ l) all ∙ ap (λ (a : Answer). told u.tale ++ text_of a) front.came.1 in
      booted_ran host old new t.tale u.tale booted begun text more boots fresh m.tale since turned home (append_cancel_left (told u.tale) turned.bytes ok_line (sym turned.is_told ∙ is));
})

-- the counts by a moment in the middle of a turn
abbrev by_then : Counts → Moment → Counts
by_then now m = record { drives = λ drive. m.faults (OnDrive drive); source = now.source; replies = now.replies }

module _ (host : Host) (old : Memory) (now : Point) (refused : Bool) (t m : Moment) (drives : now.counts.drives ≡ (λ drive. t.faults (OnDrive drive))) (rise : NoFewer t.faults m.faults) where
  rose : RoseCalmly now.counts (by_then now.counts m)
  rose = record { drives = λ drive. (let le = rise (OnDrive drive) in let same = ap (λ (f : ℕ → ℕ). f drive) drives in omega (arith, same, le)); source = refl; replies = refl }

  -- nothing is told
  pub no_front : (script : Script) → told m.tale ≡ told t.tale → TurnFront host (at now (kept_at old t.tale) refused script) t m
  no_front script same = record { bytes = []; is_told = same ∙ sym (append-nil (told t.tale)); front = inl refl }

  -- a front of a line's reply
  pub line_front : ((s : Story) → now.story ≡ Some s → tale_of s ≡ t.tale) → (script more : Script) (text : List ℕ) → script ≡ line text more → TellsFront (λ outcomes kept answer next. IsAnswered outcomes host kept text answer next) (LineLeads host text old) old t m → TurnFront host (at now (kept_at old t.tale) refused script) t m
  line_front there script more text is (inl same) = no_front script same
  line_front there script more text is (inr front) = subst (λ (s : Script). TurnFront host (at now (kept_at old t.tale) refused s) t m) (sym is) (record {
    bytes = take front.count (text_of front.answer);
    is_told = front.is_told;
    front = inr (record {
      answer = front.answer;
      later = by_then now.counts m;
      next = front.next;
      more = more;
      comes = (refl, rose, subst (λ (f : ℕ → ℕ). IsAnswered (λ drive. failures_of (f drive) (m.faults (OnDrive drive))) host (kept_at old t.tale) text front.answer front.next) (sym drives) front.came);
      by_then = λ drive. refl;
      shows = front.shows;
      count = front.count;
      front = refl;
      unwritten = λ whole quiet s at. subst (λ (x : Tale). KeptOutside nowhere x m.tale) (sym (there s at)) (front.unwritten quiet);
      led = λ whole said s at. subst (λ (x : Tale). RanTo host (line text more) old front.next.memory more x m.tale) (sym (there s at)) (front.led whole said more);
    });
  })

  -- of the refusal of a line that was too long
  pub long_front : ((s : Story) → now.story ≡ Some s → tale_of s ≡ t.tale) → (script more : Script) → script ≡ too_long more → IsSince t.tale m.tale → StaysHome host t.tale m.tale → TellsFront (OnlyAnswers (refusing LineTooLong)) (Turned host Nothing old) old t m → TurnFront host (at now (kept_at old t.tale) refused script) t m
  long_front there script more is since home (inl same) = no_front script same
  long_front there script more is since home (inr front) = subst (λ (s : Script). TurnFront host (at now (kept_at old t.tale) refused s) t m) (sym is) (record {
    bytes = take front.count (text_of front.answer);
    is_told = front.is_told;
    front = inr (record {
      answer = front.answer;
      later = by_then now.counts m;
      next = front.next;
      more = more;
      comes = (refl, rose, λ drive. front.came.0 drive ∙ sym (ap (λ (f : ℕ → ℕ). f drive) drives), only_refused LineTooLong (λ drive. FailuresBy t m (OnDrive drive)) (kept_at old t.tale) front.answer front.next front.came);
      by_then = λ drive. refl;
      shows = front.shows;
      count = front.count;
      front = refl;
      unwritten = λ whole quiet s at. subst (λ (x : Tale). KeptOutside nowhere x m.tale) (sym (there s at)) (front.unwritten quiet);
      led = λ whole said s at.
          let turned : Turned host Nothing old old t.tale m.tale = subst (λ (k : Kept). Turned host Nothing old k.memory t.tale m.tale) front.came.2 (front.led whole said) in
          let ran : RanTo host (too_long more) old old more t.tale m.tale = long_ran host more old t.tale m.tale since turned home in
          subst (λ (x : Tale). RanTo host (too_long more) old front.next.memory more x m.tale) (sym (there s at)) (subst (λ (k : Kept). RanTo host (too_long more) old k.memory more t.tale m.tale) (sym front.came.2) ran);
    });
  })

-- a turn without a call
pub still_front : {S : Type 0} (shelf : Ghosts S) (host : Host) (old : Memory) (source : ℕ) (refused : Bool) (script : Script) (s : S) → AtEachMoment shelf (ScriptFront host (point_of shelf source s) old refused script) s s
still_front shelf host old source refused script s =
    each_none (ScriptFront host (point_of shelf source s) old refused script) _ _ _ _ refl (λ part. omega arith) (still host old source (shelf.story s) (effort_of shelf s) refused script) (still host old source (shelf.story s) (effort_of shelf s) refused script) where
      still : {faults : Part → ℕ} (host : Host) (old : Memory) (source : ℕ) (story : Option Story) (effort : Effort) (refused : Bool) (script : Script) (x : Story)
          → ScriptFront host (record { counts = counts faults source; story = story; effort = effort }) old refused script (moment x (record { faults = faults; effort = effort })) (moment x (record { faults = faults; effort = effort }))
      still {faults} host old source story effort refused script x known =
          no_front host old (record { counts = counts faults source; story = story; effort = effort }) refused (moment x (record { faults = faults; effort = effort })) (moment x (record { faults = faults; effort = effort })) refl (λ part. omega arith) script refl
