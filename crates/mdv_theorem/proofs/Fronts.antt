-- A line in work, of whose reply a front was told: nothing of it, or all; then it is as a line that was told.
use Rattle.std.proofs.Common.{◌≡◌, ◌⊎◌, inl, inr, ℕ, List, [], ◌∷◌, ◌++◌, Some, None, Contains, sym, ◌∙◌, ap, subst, take}
use Rattle.std.proofs.lemmas.List.{append-nil, append_cancel_left}
use Rattle.mdv_base.specs.declared.drive.SliceName.{SliceName}
use Rattle.mdv_engine_law.specs.Replies.{IsPlainAnswer, text_of}
use Rattle.mdv_engine_law.specs.Standing.{IsKnown}
use Rattle.mdv_engine_law.specs.declared.host.Host.{Host}
use Rattle.mdv_engine_law.proofs.Going.{may_course}
use Rattle.mdv_engine_law.proofs.Plain.{nothing_answers, nothing_said}
use Rattle.mdv_name.specs.declared.geometry.Geometry.{Geometry}
use Rattle.mdv_port.specs.Script.{Script, at_end, line, spent, too_long}
use Rattle.mdv_run_law.specs.Lives.{host_of}
use Rattle.mdv_run_law.specs.Run.{At, IsNextFront, IsSaid, NextFront, NextLine}
use Rattle.mdv_run_law.specs.Standing.{AreOfRun, AreOfRunBy, ComeOf, InWork, NothingLeft, RanTo, context_of}
use Rattle.mdv_run_law.proofs.Coming.{in_work_none}
use Rattle.mdv_run_law.proofs.Course.{said_reply}
use Rattle.mdv_run_law.proofs.Since.{since_itself}
use Rattle.mdv_shelf.specs.Story.{Moment, Story, tale_of}
use Rattle.mdv_shelf.specs.Tale.{Tale, told}
use Rattle.mdv_status.specs.Telling.{Said as SaidBytes, left_in, replies_in}
use Rattle.mdv_store_law.proofs.Machine.{after_more}
use Rattle.mdv_volumes.specs.History.{Event, History, history_after, history_after_all}
use Rattle.mdv_theorem.specs.Exchanges.{Exchange, exchanges}
use Rattle.mdv_theorem.specs.Words.{KeepsDatabase, TellsPlaces}
use Rattle.mdv_theorem.proofs.Along.{script_lies}
use Rattle.mdv_theorem.proofs.Come.{CameBehind, HasCome, HasMetNothing, come_lines, come_on}
use Rattle.mdv_theorem.proofs.Left.{said_or_over, script_plain}
use Rattle.mdv_theorem.proofs.Lined.{said_of}
use Rattle.mdv_theorem.proofs.Lines.{never_in, the_only}
use Rattle.mdv_theorem.proofs.Lists.{ListsLie}
use Rattle.mdv_theorem.proofs.Replying.{none_or_whole}
use Rattle.mdv_theorem.proofs.Steps.{take_none}
use Rattle.mdv_theorem.proofs.Sure.{IsSureAt}

-- Where the whole reply of the line in work was told, each history that was known before it goes on by its events to one that is known with what the line left.
abbrev pub FrontsLead : Type 0
FrontsLead = (host : Host) (now : At) (bytes : List ℕ) (m : Moment) (front : NextFront host now bytes m) → bytes ≡ text_of front.answer → IsSaid front.answer → (s : Story) → now.story ≡ Some s → RanTo host now.script now.kept.memory front.next.memory front.more (tale_of s) m.tale

pub fronts_lead : FrontsLead
fronts_lead host now bytes m front = front.led

-- none of these lines was told to have moved places
abbrev pub AreUntold : List Exchange → Type 0
AreUntold lines = (one : Exchange) → Contains lines one → TellsPlaces one → ⊥

-- so it is of a script of which nothing was told
pub none_told : (script : Script) → AreUntold (exchanges script [])
none_told at_end one has tells = never_in one has
none_told (spent rows limit) one has tells = never_in one has
none_told (too_long more) one has tells = never_in one has
none_told (line text more) one has (cmd, asks, moves, ok) =
    let same : ◌≡◌ {A = Exchange} (record { text = text; reply = None }) one = the_only (record { text = text; reply = None }) one has in
    let none : None ≡ one.reply = ap (λ (e : Exchange). e.reply) same in
    cc (none, ok)

module _ (host : Host) (now : At) (bytes : List ℕ) (m : Moment) where
  -- the whole reply of the line in work was told
  pub record IsWhole : Type 0 where
    pub front : NextFront host now bytes m
    pub said : IsSaid front.answer
    pub whole : bytes ≡ text_of front.answer
    pub alone : replies_in bytes ≡ text_of front.answer ∷ []

  front_plain : (f : NextFront host now bytes m) → IsPlainAnswer f.answer
  front_plain f = script_plain host now.counts f.later now.kept f.next now.script f.more f.answer f.comes

  -- no reply was told, or the whole one
  pub none_or_all : IsNextFront host now bytes m → (replies_in bytes ≡ []) ⊎ IsWhole
  none_or_all (inl none) = inl (ap replies_in none ∙ nothing_answers)
  none_or_all (inr f) = by (said_or_over f.answer) where
    by : IsSaid f.answer ⊎ (text_of f.answer ≡ []) → (replies_in bytes ≡ []) ⊎ IsWhole
    by (inr over) = inl (ap replies_in (f.front ∙ ap (take f.count) over ∙ take_none f.count) ∙ nothing_answers)
    by (inl said) = elim (none_or_whole f.answer (front_plain f) said f.count) [
      | inl none ↦ inl (ap replies_in f.front ∙ ap (λ (b : SaidBytes). b.replies) none)
      | inr whole ↦ inr (record { front = f; said = said; whole = f.front ∙ whole; alone = ap replies_in (f.front ∙ whole) ∙ ap (λ (b : SaidBytes). b.replies) (said_reply f.answer (front_plain f) said).alone })
    ]

  -- what it answers, and what is left behind it
  pub front_says : (script : Script) (w : IsWhole) → NextLine host now.counts now.kept script w.front.answer w.front.later w.front.next w.front.more → exchanges script (replies_in bytes) ≡ said_of script (text_of w.front.answer) ++ exchanges w.front.more []
  front_says at_end w is = absurd is
  front_says (spent rows limit) w is = absurd is
  front_says (too_long left) w is = ap (exchanges (too_long left)) w.alone ∙ ap (λ (s : Script). exchanges s []) (sym is.0)
  front_says (line text left) w is = ap (exchanges (line text left)) w.alone ∙ ap (λ (s : Script). said_of (line text left) (text_of w.front.answer) ++ exchanges s []) (sym is.0)

  -- The run's events, where that is so.
  module _ (script : Script) (h : History) (t : Tale) (none : HasMetNothing host script h t m.tale) (w : IsWhole) (sure : IsSureAt host script h t now) (more : told m.tale ≡ told (tale_of sure.story) ++ bytes) where
    abbrev pub whole_came : CameBehind host script h t now.kept.memory now.script (tale_of sure.story) sure.come w.front.next.memory w.front.more m.tale
    whole_came =
        come_lines host script h t now.kept.memory now.script (tale_of sure.story) sure.come w.front.next.memory w.front.more m.tale m.tale (fronts_lead host now bytes m w.front w.whole w.said sure.story sure.is) (since_itself m.tale) none

    abbrev pub whole_come : HasCome host script h t w.front.next.memory w.front.more m.tale
    whole_come = whole_came.behind_it

    bytes_are : whole_came.bytes ≡ bytes
    bytes_are = append_cancel_left (told (tale_of sure.story)) whole_came.bytes bytes (sym whole_came.is_told ∙ more)

    pub whole_replies : replies_in whole_came.bytes ≡ text_of w.front.answer ∷ []
    whole_replies = ap replies_in bytes_are ∙ w.alone

    -- they are those of the run as it is stopped there
    pub whole_run : AreOfRun host script whole_come.bytes whole_come.es
    whole_run =
        let last = w.front.next.memory in
        let nothing : ComeOf host (InWork host (left_in [])) (context_of last) w.front.more (replies_in []) [] =
        subst (λ (s : SaidBytes). ComeOf host (InWork host s.left) (context_of last) w.front.more s.replies []) (sym nothing_said) (in_work_none host (context_of last) w.front.more) in
        let all = come_on host script h t last w.front.more m.tale whole_come (InWork host (left_in [])) [] [] nothing in
        let so : AreOfRun host script (whole_come.bytes ++ []) (whole_come.es ++ []) =
        subst (λ (l : List ℕ). AreOfRunBy host (InWork host l) script (replies_in (whole_come.bytes ++ [])) (whole_come.es ++ [])) (sym (whole_come.replies.left [])) all in
        subst (λ (l : List Event). AreOfRun host script whole_come.bytes l) (append-nil whole_come.es) (subst (λ (l : List ℕ). AreOfRun host script l (whole_come.es ++ [])) (append-nil whole_come.bytes) so)

module _ (drives : Geometry) (name : List ℕ) (from : List SliceName) (fresh : ℕ) (script : Script) (h : History) (t : Tale) (m : Moment) (none : HasMetNothing (host_of drives name fresh) script h t m.tale) (now : At) (bytes : List ℕ) (w : IsWhole (host_of drives name fresh) now bytes m)
    (sure : IsSureAt (host_of drives name fresh) script h t now) (more : told m.tale ≡ told (tale_of sure.story) ++ bytes) where
  abbrev its : Host
  its = host_of drives name fresh

  abbrev came : CameBehind its script h t now.kept.memory now.script (tale_of sure.story) sure.come w.front.next.memory w.front.more m.tale
  came = whole_came its now bytes m script h t none w sure more

  abbrev there : History
  there = history_after_all h sure.come.es

  pub whole_is : history_after_all h came.behind_it.es ≡ history_after_all there came.fs
  whole_is = ap (history_after_all h) came.all ∙ after_more history_after h sure.come.es came.fs

  pub whole_known : IsKnown its w.front.next.memory (history_after_all there came.fs) m.tale
  whole_known = subst (λ (k : History). IsKnown its w.front.next.memory k m.tale) whole_is came.behind_it.known

  -- the lists that a boot may find behind it
  pub whole_lies : (lines : List Exchange) → KeepsDatabase (said_of now.script (text_of w.front.answer)) → ListsLie drives name from lines there → ListsLie drives name from (lines ++ said_of now.script (text_of w.front.answer)) (history_after_all h came.behind_it.es)
  whole_lies lines keeps lie =
      subst (ListsLie drives name from (lines ++ said_of now.script (text_of w.front.answer))) (sym whole_is)
      (script_lies drives name from fresh script h t m.tale none lines now.counts w.front.later now.kept w.front.next w.front.answer w.front.more w.said (tale_of sure.story) m.tale there sure.come.known came.fs (may_course its there came.fs came.course) whole_known lie
      now.script w.front.comes (subst (λ (l : List (List ℕ)). ComeOf its (NothingLeft (context_of w.front.next.memory)) (context_of now.kept.memory) now.script l came.fs) (whole_replies its now bytes m script h t none w sure more) came.come) keeps)
