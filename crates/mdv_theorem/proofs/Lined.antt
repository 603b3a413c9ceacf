-- The events of runs, one piece for each of the lines that they answered, in their order.
use Rattle.std.proofs.Common.{◌≡◌, ◌⊎◌, inl, inr, ⊎_elim, ℕ, Bool, true, false, ◌||◌, if◌then◌else◌, List, [], ◌∷◌, ◌++◌, Option, Some, None, Contains, refl, sym, ◌∙◌, ap, subst, append_assoc}
use Rattle.std.proofs.lemmas.List.{append-nil}
use Rattle.std.proofs.lemmas.List.Elements.{Contains-append_cases}
use Rattle.std.proofs.lemmas.Slice.Eq.{bytes_eq-Decides}
use Rattle.std.specs.Str.{bytes_eq}
use Rattle.mdv_change.specs.declared.change.Change.{Change as PlanChange}
use Rattle.mdv_engine_law.specs.Altering.{change_of}
use Rattle.mdv_engine_law.specs.Hosts.{key_of}
use Rattle.mdv_engine_law.specs.Line.{Ask, Nothing, asked_by_line, change_asked, deeds}
use Rattle.mdv_engine_law.specs.Replies.{AcksBy, issuable, issuable_front, is_front_of, ok_line, refusal_line}
use Rattle.mdv_engine_law.specs.declared.host.Host.{Host}
use Rattle.mdv_base.specs.declared.refusal.Refusal.TheVariants.{IoFault}
use Rattle.mdv_name.specs.declared.geometry.Geometry.{Geometry}
use Rattle.mdv_port.specs.Script.{Script, at_end, line, spent, too_long}
use Rattle.mdv_run_law.specs.Lives.{AreOfRuns, IsBetween, OfHost, Ran, host_of}
use Rattle.mdv_run_law.specs.Standing.{AreIdle, AreOfLine, AreOfRun, Asks as AsksWords, AsksBy, ComeOf, Context, InWork, LineInWork}
use Rattle.mdv_run_law.proofs.Deeds.{part_contains}
use Rattle.mdv_shelf.proofs.Blocks.{both_ways}
use Rattle.mdv_status.specs.Telling.{left_in, replies_in}
use Rattle.mdv_store_law.specs.Part.{IsPart}
use Rattle.mdv_store_law.proofs.Machine.{all_more}
use Rattle.mdv_volumes.specs.Happening.{begins, issued_by, told_by}
use Rattle.mdv_volumes.specs.History.{Deed, Deleted, Event}
use Rattle.mdv_volumes.specs.HistoryLaws.{KeepDatabase}
use Rattle.mdv_volumes.proofs.Lists.{contains_behind, contains_first}
use Rattle.mdv_words.specs.Line.{Boot, Exec, Line, Tab}
use Rattle.mdv_words.specs.declared.command.Command.TheVariants as command
use Rattle.mdv_theorem.specs.Exchanges.{Exchange, exchanges, exchanges_by, exchanges_of}
use Rattle.mdv_theorem.specs.Words.{KeepsDatabase}
use Rattle.mdv_theorem.proofs.Lines.{MayBegin, begins_asked, lets, never_in}

-- the exchange of a line that was told so: none of what is too long
abbrev pub said_of : Script → List ℕ → List Exchange
said_of at_end reply = []
said_of (spent lines bytes) reply = []
said_of (too_long more) reply = []
said_of (line text more) reply = record { text = text; reply = Some reply } ∷ []

-- events that begin nothing
abbrev pub AreQuiet : List Event → Type 0
AreQuiet es = (deed : Deed) → Contains (issued_by es) deed → ⊥

quiet_none : AreQuiet []
quiet_none deed has = never_in deed has

-- what two stretches of events begin, one of them begins
begun_cases : (es fs : List Event) (deed : Deed) → Contains (issued_by (es ++ fs)) deed → Contains (issued_by es) deed ⊎ Contains (issued_by fs) deed
begun_cases es fs deed has = Contains-append_cases (issued_by es) (issued_by fs) deed (subst (λ (l : List Deed). Contains l deed) (all_more begins es fs) has)

quiet_both : (es fs : List Event) → AreQuiet es → AreQuiet fs → AreQuiet (es ++ fs)
quiet_both es fs one other deed has = ⊎_elim (one deed) (other deed) (begun_cases es fs deed has)

pub idle_quiet : (host : Host) (es : List Event) → AreIdle host es → AreQuiet es
idle_quiet host es idle deed has = never_in deed (part_contains (issued_by es) [] deed idle.begins has)

pub between_quiet : (end : List Event) → IsBetween end → AreQuiet end
between_quiet end (inl is) = subst AreQuiet (sym is) (λ deed has. never_in deed has)
between_quiet end (inr is) = subst AreQuiet (sym is) (λ deed has. never_in deed has)

-- of nothing nothing is a part, and that is one of anything
part_none : (part whole : List Deed) → IsPart part [] → IsPart part whole
part_none [] whole is = tt
part_none (deed ∷ part) whole is = absurd is

module _ (drives : Geometry) (name : List ℕ) where
  abbrev pub host : Host
  host = host_of drives name 0

  -- events of a line that this reply answers
  pub record AreReplied (text reply : List ℕ) (es : List Event) : Type 0 where
    pub ask : Ask
    pub asks : AsksBy host text reply ask
    pub done : List Deed
    pub acks : AcksBy ask reply done
    pub tells : told_by es ≡ done
    pub begins : IsPart (issued_by es) (issuable ask reply)

  -- of one that none answers: they begin no more than it asks
  pub record AreInWork (text : List ℕ) (es : List Event) : Type 0 where
    pub ask : Ask
    pub asks : AsksWords host text ask ⊎ (ask ≡ Nothing)
    pub begins : IsPart (issued_by es) (deeds ask)

  abbrev pub AreOfReply : List ℕ → Option (List ℕ) → List Event → Type 0
  AreOfReply text None es = AreInWork text es
  AreOfReply text (Some reply) es = AreReplied text reply es

  -- for each line its events, in order, with such before them and behind the last that begin nothing
  abbrev pub AreLined : List Exchange → List Event → Type 0
  AreLined [] es = AreQuiet es
  AreLined (one ∷ lines) es =
      (before : List Event) × (own : List Event) × (rest : List Event) × (es ≡ before ++ (own ++ rest)) × AreQuiet before × AreOfReply one.text one.reply own × AreLined lines rest

  -- behind events that begin nothing
  quiet_lined : (lines : List Exchange) (es fs : List Event) → AreQuiet es → AreLined lines fs → AreLined lines (es ++ fs)
  quiet_lined [] es fs quiet are = quiet_both es fs quiet are
  quiet_lined (one ∷ lines) es fs quiet are =
      (es ++ are.0, are.1, are.2, ap (λ (l : List Event). es ++ l) are.3 ∙ sym (append_assoc es are.0 (are.1 ++ are.2)), quiet_both es are.0 quiet are.4, are.5, are.6)

  pub lined_more : (lines more : List Exchange) (es fs : List Event) → AreLined lines es → AreLined more fs → AreLined (lines ++ more) (es ++ fs)
  lined_more [] more es fs quiet are = quiet_lined more es fs quiet are
  lined_more (one ∷ lines) more es fs are also = (
    are.0,
    are.1,
    are.2 ++ fs,
    ap (λ (l : List Event). l ++ fs) are.3 ∙ append_assoc are.0 (are.1 ++ are.2) fs ∙ ap (λ (l : List Event). are.0 ++ l) (append_assoc are.1 are.2 fs),
    are.4,
    are.5,
    lined_more lines more are.2 fs are.6 also,
  )

  -- a line among others, with its events, those before it, and those of the lines behind it
  pub record IsLinedAt (one : Exchange) (between : List Exchange) (es : List Event) : Type 0 where
    pub first : List Event
    pub own : List Event
    pub later : List Event
    pub is : es ≡ first ++ (own ++ later)
    pub of_line : AreOfReply one.text one.reply own
    pub of_between : AreLined between later

  pub lined_at : (first : List Exchange) (one : Exchange) (between : List Exchange) (es : List Event) → AreLined (first ++ one ∷ between) es → IsLinedAt one between es
  lined_at [] one between es are = record { first = are.0; own = are.1; later = are.2; is = are.3; of_line = are.5; of_between = are.6 }
  lined_at (x ∷ first) one between es are =
      let rest = lined_at first one between are.2 are.6 in
      let more = rest.own ++ rest.later in
      record {
        first = are.0 ++ (are.1 ++ rest.first);
        own = rest.own;
        later = rest.later;
        is = are.3 ∙ ap (λ (l : List Event). are.0 ++ (are.1 ++ l)) rest.is ∙ ap (λ (l : List Event). are.0 ++ l) (sym (append_assoc are.1 rest.first more)) ∙ sym (append_assoc are.0 (are.1 ++ rest.first) more);
        of_line = rest.of_line;
        of_between = rest.of_between;
      }

  reply_begins : (text : List ℕ) (reply : Option (List ℕ)) (es : List Event) → AreOfReply text reply es → (deed : Deed) → Contains (issued_by es) deed → MayBegin (key_of host) deed (record { text = text; reply = reply })
  reply_begins text None es are deed has = begins_asked host (record { text = text; reply = None }) are.ask are.asks (λ refusal none. absurd (cc none)) deed (part_contains (issued_by es) (deeds are.ask) deed are.begins has)
  reply_begins text (Some reply) es are deed has =
      let may = lets are.ask reply deed (part_contains (issued_by es) (issuable are.ask reply) deed are.begins has) in
      begins_asked host (record { text = text; reply = Some reply }) are.ask (⊎_elim (λ asks. inl asks) (λ none. inr none.0) are.asks) (λ refusal told. may.begun refusal (let same = told in cc same)) deed may.asked

  -- what the events begin, a line may have begun
  pub lined_begins : (lines : List Exchange) (es : List Event) → AreLined lines es → (deed : Deed) → Contains (issued_by es) deed → (one : Exchange) × Contains lines one × MayBegin (key_of host) deed one
  lined_begins [] es quiet deed has = absurd (quiet deed has)
  lined_begins (one ∷ lines) es are deed has = elim (begun_cases are.0 (are.1 ++ are.2) deed (subst (λ (l : List Event). Contains (issued_by l) deed) are.3 has)) [
    | inl before ↦ absurd (are.4 deed before)
    | inr behind ↦ elim (begun_cases are.1 are.2 deed behind) [
      | inl own ↦ (one, contains_first one lines, reply_begins one.text one.reply are.1 are.5 deed own)
      | inr later ↦ (let rest = lined_begins lines are.2 are.6 deed later in (rest.0, contains_behind one rest.0 lines rest.1, rest.2))
    ]
  ]

  module _ (fresh : ℕ) where
    abbrev its : Host
    its = host_of drives name fresh

    -- the word of a run's identities is nothing to what its lines ask
    same_change : (asked : Option PlanChange) → change_asked its asked ≡ change_asked host asked
    same_change None = refl
    same_change (Some change) = refl

    same_ask : (spelled : Line) → asked_by_line its spelled ≡ asked_by_line host spelled
    same_ask Boot = refl
    same_ask (Tab lines) = refl
    same_ask (Exec (command.AddPlaces slices force count blocks)) = refl
    same_ask (Exec (command.AddListed number force)) = refl
    same_ask (Exec (command.DropPlaces slices force)) = refl
    same_ask (Exec (command.Alter alteration)) = same_change (change_of alteration)
    same_ask (Exec (command.Read volume at count)) = refl
    same_ask (Exec (command.Write volume at what)) = refl
    same_ask (Exec (command.Print names)) = refl

    same_asks : (text : List ℕ) (ask : Ask) → AsksWords its text ask → AsksWords host text ask
    same_asks text ask (inl none) = inl none
    same_asks text ask (inr is) = inr (is.0, is.1, is.2 ∙ same_ask is.0)

    same_asks_by : (text reply : List ℕ) (ask : Ask) → AsksBy its text reply ask → AsksBy host text reply ask
    same_asks_by text reply ask (inl is) = inl (same_asks text ask is)
    same_asks_by text reply ask (inr none) = inr none

    pub line_replied : (text reply : List ℕ) (now after : Context) (es : List Event) → AreOfLine its text now reply es after → AreReplied text reply es
    line_replied text reply now after es is = record { ask = is.ask; asks = same_asks_by text reply is.ask is.asks; done = is.done; acks = is.acks; tells = is.does.tells; begins = is.does.begins }

    front_asked : (ask : Ask) (front : List ℕ) (begun : List Deed) → IsPart begun (issuable_front ask front) → IsPart begun (deeds ask)
    front_asked ask front begun = by (is_front_of ok_line front) (is_front_of (refusal_line IoFault) front) where
      by : (ok fault : Bool) → IsPart begun (if ok || fault then deeds ask else []) → IsPart begun (deeds ask)
      by true fault part = part
      by false true part = part
      by false false part = part_none begun (deeds ask) part

    line_in_work : (front text : List ℕ) (es : List Event) → LineInWork its front text es → AreInWork text es
    line_in_work front text es is = record {
      ask = is.ask;
      asks = ⊎_elim (λ asks. inl (same_asks text is.ask asks)) (λ none. inr none.0) is.asks;
      begins = front_asked is.ask front (issued_by es) is.does.begins;
    }

    nothing_in_work : (text : List ℕ) (es : List Event) → es ≡ [] → AreInWork text es
    nothing_in_work text es none = record { ask = Nothing; asks = inr refl; begins = subst (λ (l : List Event). IsPart (issued_by l) []) (sym none) tt }

    pub alone : (one : Exchange) (es : List Event) → AreOfReply one.text one.reply es → AreLined (one ∷ []) es
    alone one es are = ([], es, [], sym (append-nil es), quiet_none, are, quiet_none)

    pub come_lined : (front : List ℕ) (now : Context) (script : Script) (replies : List (List ℕ)) (es : List Event) → ComeOf its (InWork its front) now script replies es → AreLined (exchanges script replies) es
    come_lined front now at_end [] es come = idle_quiet its es come
    come_lined front now (spent lines bytes) [] es come = idle_quiet its es come
    come_lined front now (too_long more) [] es come = idle_quiet its es come
    come_lined front now (line text more) [] es (inl none) = alone (record { text = text; reply = None }) es (nothing_in_work text es none.1)
    come_lined front now (line text more) [] es (inr work) = alone (record { text = text; reply = None }) es (line_in_work front text es work.1)
    come_lined front now at_end (reply ∷ replies) es come = idle_quiet its es come
    come_lined front now (spent lines bytes) (reply ∷ replies) es come = idle_quiet its es come
    come_lined front now (too_long more) (reply ∷ replies) es come =
        subst (AreLined (exchanges more replies)) (sym come.2) (quiet_lined (exchanges more replies) come.0 come.1 (idle_quiet its come.0 come.3) (come_lined front now more replies come.1 come.4))
    come_lined front now (line text more) (reply ∷ replies) es come = ([], come.0, come.1, come.2, quiet_none, line_replied text reply now come.3 come.0 come.4, come_lined front come.3 more replies come.1 come.6)

    pub run_lined : (script : Script) (bytes : List ℕ) (es : List Event) → AreOfRun its script bytes es → AreLined (exchanges_of script bytes) es
    run_lined script bytes es run =
        subst (AreLined (exchanges_of script bytes)) (sym run.both)
        (quiet_lined (exchanges_of script bytes) run.boot run.lines (idle_quiet its run.boot run.idle) (come_lined (left_in bytes) (Some []) script (replies_in bytes) run.lines run.come))

  -- the lines of one run, where it is the host's
  abbrev lines_of : Ran → List Exchange
  lines_of ran = if bytes_eq ran.host name then exchanges_of ran.script ran.bytes else []

  host_lined : (ran : Ran) (es : List Event) → OfHost name ran (AreOfRun (host_of drives name ran.fresh) ran.script ran.bytes es) (es ≡ []) → AreLined (lines_of ran) es
  host_lined ran es (inl is) =
      subst (λ (own : Bool). AreLined (if own then exchanges_of ran.script ran.bytes else []) es) (sym ((bytes_eq-Decides ran.host name).1 is.0))
      (run_lined ran.fresh ran.script ran.bytes es is.1)
  host_lined ran es (inr other) = elim (both_ways (bytes_eq ran.host name)) [
    | inl does ↦ absurd (other.0 ((bytes_eq-Decides ran.host name).0 does))
    | inr never ↦ subst (λ (own : Bool). AreLined (if own then exchanges_of ran.script ran.bytes else []) es) (sym never) (subst AreQuiet (sym other.1) quiet_none)
  ]

  -- the events of all the host's runs, by their lines
  pub runs_lined : (before : List Ran) (es : List Event) → AreOfRuns drives name before es → AreLined (exchanges_by name before) es
  runs_lined [] es none = subst AreQuiet (sym none) quiet_none
  runs_lined (ran ∷ before) es are =
      let here = subst (λ (l : List Exchange). AreLined l (are.1 ++ are.2)) (append-nil (lines_of ran)) (lined_more (lines_of ran) [] are.1 are.2 (host_lined ran are.1 are.5) (between_quiet are.2 are.6)) in
      subst (AreLined (exchanges_by name (ran ∷ before))) (sym are.3) (lined_more (exchanges_by name before) (lines_of ran) are.0 (are.1 ++ are.2) (runs_lined before are.0 are.4) here)

  -- so lines of which none may have taken the database away begin no end of it
  pub lined_lives : (lines : List Exchange) (es : List Event) → AreLined lines es → KeepsDatabase lines → KeepDatabase (key_of host) es
  lined_lives lines es are keeps has = (let begun = lined_begins lines es are (Deleted (key_of host)) has in keeps begun.0 begun.1 begun.2)

  pub runs_live_on : (before : List Ran) (es : List Event) → AreOfRuns drives name before es → KeepsDatabase (exchanges_by name before) → KeepDatabase (key_of host) es
  runs_live_on before es are keeps = lined_lives (exchanges_by name before) es (runs_lined before es are) keeps
