-- Behind any lines of a host's runs each table that a boot may find is one that they may have made, but for its places; so is the one that is open, and so its volumes lie.
use Rattle.std.proofs.Common.{◌≡◌, ◌⊎◌, ⊎_elim, inl, inr, ℕ, Bool, true, false, ◌||◌, cond, List, [], ◌∷◌, ◌++◌, append_assoc, Option, Some, None, refl, sym, ◌∙◌, ap, subst}
use Rattle.std.proofs.lemmas.List.{append-nil}
use Rattle.std.proofs.lemmas.Slice.Eq.{bytes_eq-Decides}
use Rattle.std.specs.Str.{bytes_eq}
use Rattle.mdv_base.specs.Order.{first_refusal}
use Rattle.mdv_base.specs.declared.name.VolId.{VolId}
use Rattle.mdv_base.specs.declared.refusal.Refusal.TheVariants.{IoFault}
use Rattle.mdv_engine_law.specs.Altering.{change_of}
use Rattle.mdv_engine_law.specs.Awake.{Happening}
use Rattle.mdv_engine_law.specs.Commands.{Effect, IsAllowed, case_of}
use Rattle.mdv_engine_law.specs.Line.{Ask, Memory, deeds}
use Rattle.mdv_engine_law.specs.Refusals.{held_of_alteration}
use Rattle.mdv_engine_law.specs.Replies.{issuable, ok_line, refusal_line, text_of}
use Rattle.mdv_engine_law.specs.declared.answer.Answer.{Answer}
use Rattle.mdv_engine_law.specs.declared.host.Host.{Host}
use Rattle.mdv_home.specs.View.{own_view}
use Rattle.mdv_layout_law.proofs.Telling.{volumes_tell}
use Rattle.mdv_map.specs.Maps.{Map}
use Rattle.mdv_name.specs.declared.geometry.Geometry.{Geometry}
use Rattle.mdv_plan.specs.Table.{empty_table}
use Rattle.mdv_plan.specs.declared.table.Table.{Table}
use Rattle.mdv_run_law.specs.Lives.{host_of}
use Rattle.mdv_run_law.specs.Run.{IsAnswered, IsSaid}
use Rattle.mdv_run_law.proofs.Coming.{no_ok}
use Rattle.mdv_run_law.proofs.Deeds.{part_contains}
use Rattle.mdv_shelf.proofs.Blocks.{both_ways}
use Rattle.mdv_shelf.specs.Failing.{Outcomes}
use Rattle.mdv_store.specs.Opened.{Opened}
use Rattle.mdv_store_law.specs.Log.{IsRising, Version}
use Rattle.mdv_store_law.specs.Machine as machine
use Rattle.mdv_store_law.specs.Part.{IsPart}
use Rattle.mdv_volumes.specs.Happening.{MayBeFound, issued_by}
use Rattle.mdv_volumes.specs.History.{Deed, Event, History, history_after, history_after_all}
use Rattle.mdv_volumes.specs.Tables.{IsMapOf}
use Rattle.mdv_volumes.proofs.Found.{newest_found}
use Rattle.mdv_words.proofs.Lines.{one_line}
use Rattle.mdv_words.specs.Line.{Boot, Exec, IsLine, Line, Tab}
use Rattle.mdv_words.specs.declared.command.Alteration.{Alteration}
use Rattle.mdv_words.specs.declared.command.Command.TheVariants as command
use Rattle.mdv_theorem.specs.Exchanges.{Asks, Exchange, IsTold, MayHaveBegun}
use Rattle.mdv_theorem.specs.Words.{MayCome, MayLie}
use Rattle.mdv_theorem.proofs.Altered.{altered_step, asks_built}
use Rattle.mdv_theorem.proofs.Having.{HasCome, HasComeFrom, IsUnaltered, come_asked, come_more, come_none, come_quiet, may_change}
use Rattle.mdv_theorem.proofs.Leading.{IsIdled, IsLed, led_begins}
use Rattle.mdv_theorem.proofs.Lined.{AreInWork, AreReplied, idle_quiet, line_replied}
use Rattle.mdv_theorem.proofs.Lines.{begins_asked}
use Rattle.mdv_theorem.proofs.Onward.{GoesOn}
use Rattle.mdv_theorem.proofs.Reaching.{Bare, bare}
use Rattle.mdv_theorem.proofs.Steps.{Between, Steps, no_step, one_step, skipped, told_once}
use Rattle.mdv_theorem.proofs.Sure.{open_newest, sure_table}
use Rattle.mdv_theorem.proofs.Tables.{granted_done, keeps_open}
use Rattle.mdv_theorem.proofs.Telling.{ok_is_none}

-- nothing else is known of a place between two lines
abbrev pub SaysNothing : List Exchange → Memory → Type 0
SaysNothing lines memory = Unit {0}

-- the line is of a change of volumes, or isn't
altering : (spelled : Line) → ((alteration : Alteration) × (spelled ≡ Exec (command.Alter alteration))) ⊎ ((alteration : Alteration) → spelled ≡ Exec (command.Alter alteration) → ⊥)
altering Boot = inr (λ alteration same. cc same)
altering (Tab rows) = inr (λ alteration same. cc same)
altering (Exec (command.AddPlaces slices force count blocks)) = inr (λ alteration same. cc same)
altering (Exec (command.AddListed number force)) = inr (λ alteration same. cc same)
altering (Exec (command.DropPlaces slices force)) = inr (λ alteration same. cc same)
altering (Exec (command.Alter alteration)) = inl (alteration, refl)
altering (Exec (command.Read volume at count)) = inr (λ alteration same. cc same)
altering (Exec (command.Write volume at what)) = inr (λ alteration same. cc same)
altering (Exec (command.Print names)) = inr (λ alteration same. cc same)

-- a line that may have begun something may have begun what it asks
issuable_asked : (ask : Ask) (reply : List ℕ) (part : List Deed) → IsPart part (issuable ask reply) → IsPart part (deeds ask)
issuable_asked ask reply part = by (bytes_eq reply ok_line || bytes_eq reply (refusal_line IoFault)) where
  none : (xs : List Deed) → IsPart xs [] → IsPart xs (deeds ask)
  none [] is = tt
  none (x ∷ xs) is = absurd is

  by : (some : Bool) → IsPart part (cond some (deeds ask) []) → IsPart part (deeds ask)
  by true is = is
  by false is = none part is

-- of a table, whichever it is, by lines behind it
module _ (drives : Geometry) (name : List ℕ) (base : Table) where
  abbrev g : Geometry
  g = own_view drives name

  abbrev From : List Exchange → History → Type 0
  From lines h = HasComeFrom drives name base lines h

  -- where this table is open each that a boot may find is one of these
  pub come_open : (fresh : ℕ) (lines : List Exchange) (at : Between (host_of drives name fresh)) (o : Opened) → at.kept.memory.opened ≡ Some o → MayCome g lines base (bare o.table) → From lines at.sure.history
  come_open fresh lines at o opened may =
      let kept = keeps_open (host_of drives name fresh) (Bare (MayCome g lines base)) at o opened may in
      record { is_log = kept.is_log; each = kept.all; none = λ other. absurd (other kept.lives kept.firm) }

  -- a line that was told
  module _ (fresh : ℕ) (lines : List Exchange) (calls : Outcomes) (from mid : Between (host_of drives name fresh)) (one : Exchange) (answer : Answer) (answers : IsAnswered calls (host_of drives name fresh) from.kept one.text answer mid.kept) (said : IsSaid answer)
      (told : IsTold one (text_of answer)) (led : IsLed (host_of drives name fresh) one from.sure.history mid.sure.history) (are : From lines from.sure.history) where
    abbrev host : Host
    host = host_of drives name fresh

    abbrev more : List Exchange
    more = lines ++ one ∷ []

    its : AreReplied drives name one.text led.reply led.es
    its = line_replied drives name fresh one.text led.reply led.now led.after led.es led.its

    -- it wasn't told to have changed volumes
    line_unaltered : IsUnaltered one → From more mid.sure.history
    line_unaltered untold =
        subst (From more) led.is
        (come_asked drives name base lines from.sure.history led.es led.course one untold (led_begins host one from.sure.history mid.sure.history led) are its.ask
        (⊎_elim (λ asks. inl asks) (λ none. inr none.0) its.asks) (issuable_asked its.ask led.reply (issued_by led.es) its.begins))

    -- or it was
    module _ (alteration : Alteration) (asks : Asks one (command.Alter alteration)) (ok : IsTold one ok_line) where
      begun : MayHaveBegun one
      begun refusal refused = absurd (ok_is_none refusal (told_once one ok_line (refusal_line refusal) ok refused))

      altered : IsAllowed (case_of host from.kept) (command.Alter alteration) × Effect calls host from.kept (command.Alter alteration) answer mid.kept → From more mid.sure.history
      altered (free, (accepted, o, opened, made)) =
          let now : mid.kept.memory.opened ≡ Some made.opened = ap (λ (m : Memory). m.opened) made.memory in
          let unheld = subst (λ (x : Option Opened). first_refusal (held_of_alteration host x (change_of alteration)) ≡ None) opened free in
          let step = altered_step host o one alteration made.opened.table asks unheld (sure_table host from.kept o from.sure opened) (sure_table host mid.kept made.opened mid.sure now) (ap (λ (x : Opened). x.table) made.committed.is) in
          let there = (open_newest host from.kept.memory from.sure.history from.sure.tale o from.sure.known opened).newest in
          let found = newest_found there.version there.older (subst IsRising there.family are.is_log.rising) in
          let was : MayCome g lines base (bare o.table) =
          subst (Bare (MayCome g lines base)) there.same (are.each there.version (subst (λ (f : List Version). MayBeFound f there.version) (sym there.family) found)) in
          let asked = asks_built one alteration asks in
          let change = may_change g one asked.change o.table made.opened.table (record { alteration = alteration; asks = asks; alters = asked.alters; begun = begun }) step in
          come_open fresh more mid made.opened now (come_more g lines one base (bare o.table) (bare made.opened.table) was change)

      line_altered : From more mid.sure.history
      line_altered = altered (granted_done host calls from.kept mid.kept one answer answers said told (command.Alter alteration) asks ok)

    told_ok : bytes_eq led.reply ok_line ≡ true → IsTold one ok_line
    told_ok does = led.told ∙ ap Some ((bytes_eq-Decides led.reply ok_line).0 does)

    not_ok : bytes_eq led.reply ok_line ≡ false → IsUnaltered one
    not_ok never alteration asks ok =
        let both : Some led.reply ≡ Some ok_line = sym led.told ∙ ok in
        let same : led.reply ≡ ok_line = cc both in
        let does = (bytes_eq-Decides led.reply ok_line).1 same in
        cc (does, never)

    -- one that was told `ok`, by what it asks
    line_ok : bytes_eq led.reply ok_line ≡ true → From more mid.sure.history
    line_ok does = elim its.asks [
      | inl (inl none) ↦ line_unaltered (λ alteration asks ok. none.0 (Exec (command.Alter alteration)) asks)
      | inl (inr is) ↦ elim (altering is.0) [
        | inl alters ↦ line_altered alters.0 (subst (IsLine one.text) alters.1 is.1) (told_ok does)
        | inr other ↦ line_unaltered (λ alteration asks ok. other alteration (one_line one.text is.0 (Exec (command.Alter alteration)) is.1 asks))
      ]
      | inr wants ↦ absurd (no_ok led.reply wants.1 does)
    ]

    pub come_line : From more mid.sure.history
    come_line = elim (both_ways (bytes_eq led.reply ok_line)) [
      | inl does ↦ line_ok does
      | inr never ↦ line_unaltered (not_ok never)
    ]

  -- a line in work, of which no reply was told
  pub come_work : (lines : List Exchange) (one : Exchange) (h : History) (es : List Event) → machine.IsCourse history_after (Happening (host_of drives name 0)) h es → one.reply ≡ None → AreInWork drives name one.text es → From lines h
      → From (lines ++ one ∷ []) (history_after_all h es)
  come_work lines one h es course silent work are =
      let untold : (reply : List ℕ) → IsTold one reply → ⊥ = λ reply told. (let never : ◌≡◌ {A = Option (List ℕ)} None (Some reply) = sym silent ∙ told in cc never) in
      let begun : MayHaveBegun one = λ refusal told. absurd (untold (refusal_line refusal) told) in
      come_asked drives name base lines h es course one (λ alteration asks ok. untold ok_line ok)
      (λ deed has. begins_asked (host_of drives name 0) one work.ask work.asks begun deed (part_contains (issued_by es) (deeds work.ask) deed work.begins has)) are work.ask work.asks work.begins

  module _ (fresh : ℕ) where
    abbrev its_host : Host
    its_host = host_of drives name fresh

    pub come_idle : (lines : List Exchange) (h k : History) → IsIdled its_host h k → From lines h → From lines k
    come_idle lines h k idled are = subst (From lines) idled.is (come_quiet drives name base lines h idled.es idled.course (idle_quiet its_host idled.es idled.idle) are)

    -- and over lines of a run
    pub come_steps : (Failed : ℕ → Type 0) (lines : List Exchange) (from last : Between its_host) (es : List Exchange) → From lines from.sure.history → Steps its_host Failed from es last → From (lines ++ es) last.sure.history
    come_steps Failed lines from last es are (no_step at) = subst (λ (l : List Exchange). From l at.sure.history) (sym (append-nil lines)) are
    come_steps Failed lines from last es are (skipped at mid end rest same idled steps) = come_steps Failed lines mid last es (come_idle lines at.sure.history mid.sure.history idled are) steps
    come_steps Failed lines from last es are (one_step calls at mid end one answer rest unfailed answers said told writes led steps) =
        subst (λ (l : List Exchange). From l last.sure.history) (append_assoc lines (one ∷ []) rest)
        (come_steps Failed (lines ++ one ∷ []) mid last rest (come_line fresh lines calls at mid one answer answers said told led are) steps)

    -- the table that is open is one of these
    pub open_come : (lines : List Exchange) (at : Between its_host) (o : Opened) → at.kept.memory.opened ≡ Some o → From lines at.sure.history → MayCome g lines base (bare o.table)
    open_come lines at o opened are =
        let there = (open_newest its_host at.kept.memory at.sure.history at.sure.tale o at.sure.known opened).newest in
        let found = newest_found there.version there.older (subst IsRising there.family are.is_log.rising) in
        subst (Bare (MayCome g lines base)) there.same (are.each there.version (subst (λ (f : List Version). MayBeFound f there.version) (sym there.family) found))

-- so it goes on over runs of any hosts
pub come_goes : (drives : Geometry) (name : List ℕ) → GoesOn drives name SaysNothing (HasCome drives name)
come_goes drives name = record {
  none = come_none drives name;
  quiet = λ lines h es course quiet are. come_quiet drives name (empty_table []) lines h es course quiet are;
  line = λ fresh lines calls from mid one answer answers said told led are says. come_line drives name (empty_table []) fresh lines calls from mid one answer answers said told led are;
  work = come_work drives name (empty_table []);
}

-- and there the volumes of the open table may lie
pub open_lies : (drives : Geometry) (name : List ℕ) (fresh : ℕ) (lines : List Exchange) (at : Between (host_of drives name fresh)) (o : Opened) → at.kept.memory.opened ≡ Some o → HasCome drives name lines at.sure.history → (volume : VolId) (v : Map) → IsMapOf (own_view drives name) o.table volume v → MayLie drives name volume v lines
open_lies drives name fresh lines at o opened are volume v lies =
    record { table = bare o.table; may = open_come drives name (empty_table []) fresh lines at o opened are; lies = volumes_tell (own_view drives name) (bare o.table) o.table volume refl ∙ lies }
