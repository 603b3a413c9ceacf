-- What a host's lines show of its database is so by a history of the runs that answered them: it goes on from history to history.
use Rattle.std.proofs.Common.{◌≡◌, ◌⊎◌, inl, inr, ℕ, List, [], ◌∷◌, ◌++◌, None, Option, Some, Contains, refl, sym, ◌∙◌, subst, append_assoc}
use Rattle.std.proofs.lemmas.List.{append-nil}
use Rattle.std.proofs.lemmas.List.Elements.{Contains-append_left, Contains-append_right}
use Rattle.mdv_base.specs.declared.drive.SliceName.{SliceName}
use Rattle.mdv_base.specs.declared.name.Key.TheVariants.{Local}
use Rattle.mdv_base.specs.declared.name.VolId.{VolId}
use Rattle.mdv_engine_law.specs.Replies.{ok_line, refusal_line, text_of}
use Rattle.mdv_engine_law.specs.Awake.{Happening}
use Rattle.mdv_engine_law.specs.Line.{Kept, deeds}
use Rattle.mdv_store.specs.Opened.{Opened}
use Rattle.mdv_engine_law.specs.Standing.{IsKnown}
use Rattle.mdv_engine_law.specs.declared.answer.Answer.{Answer}
use Rattle.mdv_engine_law.specs.declared.host.Host.{Host}
use Rattle.mdv_engine_law.proofs.Going.{may_course}
use Rattle.mdv_home.specs.View.{own_view}
use Rattle.mdv_name.specs.declared.geometry.Geometry.{Geometry}
use Rattle.mdv_plan.specs.Table.{empty_table}
use Rattle.mdv_run_law.specs.Lives.{host_of}
use Rattle.mdv_run_law.specs.Run.{IsAnswered, IsSaid}
use Rattle.mdv_shelf.specs.Failing.{Outcomes}
use Rattle.mdv_store_law.specs.Log.{Log}
use Rattle.mdv_config.specs.Slices.{IsSound}
use Rattle.mdv_plan.specs.declared.table.Table.{Table}
use Rattle.mdv_volumes.specs.Databases.{log_of}
use Rattle.mdv_store_law.specs.Machine as machine
use Rattle.mdv_status.specs.Values.{values_reply}
use Rattle.mdv_volumes.specs.Happening.{issued_by}
use Rattle.mdv_volumes.specs.History.{Deed, Deleted, Event, History, history_after, history_after_all}
use Rattle.mdv_words.specs.declared.command.Command.{Command}
use Rattle.mdv_words.specs.declared.command.Command.TheVariants.{AddListed, AddPlaces, Alter, DropPlaces, Print, Read, Write}
use Rattle.mdv_run_law.proofs.Deeds.{part_contains}
use Rattle.mdv_volumes.specs.HistoryLaws.{KeepDatabase, new_history}
use Rattle.mdv_volumes.proofs.Found.{AreLasting}
use Rattle.mdv_volumes.proofs.Lists.{contains_first}
use Rattle.mdv_theorem.specs.Exchanges.{Asks, Exchange, IsGranted, IsTold, MayHaveBegun, ShowsThere}
use Rattle.mdv_theorem.specs.Words.{HasDatabase, IsMadeBy, IsMadeOn, IsThere, MayTakeAway, MayTakeDatabase, NeedsDatabase, spread}
use Rattle.mdv_theorem.proofs.Agreeing.{own_sound}
use Rattle.mdv_theorem.proofs.Along.{line_lies, open_lies}
use Rattle.mdv_theorem.proofs.Creating.{made_there}
use Rattle.mdv_theorem.proofs.Ends.{begun_stays, none_stays, taken_away}
use Rattle.mdv_theorem.proofs.Having.{HasCome, come_none, come_quiet}
use Rattle.mdv_theorem.proofs.Leading.{IsIdled, IsLed, lasting_led, lasting_over}
use Rattle.mdv_theorem.proofs.Lined.{AreInWork, AreOfReply, AreQuiet, AreReplied, alone, idle_quiet, line_replied, lined_lives}
use Rattle.mdv_theorem.proofs.Lines.{MayBegin, begins_asked, the_only}
use Rattle.mdv_theorem.proofs.Moves.{untold_lies}
use Rattle.mdv_theorem.proofs.Lists.{ListsLie, lie_quiet}
use Rattle.mdv_theorem.proofs.Parting.{Parts, in_first, in_second, parts}
use Rattle.mdv_theorem.proofs.Staying.{HasIt, has_carried}
use Rattle.mdv_theorem.proofs.Steps.{Between, EachSo, Steps, no_step, one_step, skipped}
use Rattle.mdv_theorem.proofs.Tabled.{come_line, come_work}
use Rattle.mdv_theorem.proofs.Tables.{Keeps, keeps_line, keeps_open, shown_there}
use Rattle.mdv_theorem.proofs.Tells.{granted_open}
use Rattle.mdv_theorem.proofs.Refused.{AreRefused, IsClosed}

-- no list has a member and is empty
pub never_parts : {X : Type 0} (a b : List X) (x : X) → [] ≡ a ++ x ∷ b → ⊥
never_parts [] b x is = absurd (cc (is))
never_parts (y ∷ a) b x is = absurd (cc (is))

-- A member of a list is its last one, or stands before that.
pub parts_last : {X : Type 0} (xs c d : List X) (last x : X) → xs ++ last ∷ [] ≡ c ++ x ∷ d → ((x ≡ last) × (d ≡ []) × (c ≡ xs)) ⊎ ((rest : List X) × (xs ≡ c ++ x ∷ rest) × (d ≡ rest ++ last ∷ []))
parts_last {X} xs c d last x is = by (parts xs (last ∷ []) c d x is) where
  end : (front : List X) → c ≡ xs ++ front → last ∷ [] ≡ front ++ x ∷ d → (x ≡ last) × (d ≡ []) × (c ≡ xs)
  end [] all same =
      let one : x ≡ last = cc (same) in
      let none : d ≡ [] = cc (same) in
      (one, none, all ∙ append-nil xs)
  end (y ∷ front) all same = (let rest : [] ≡ front ++ x ∷ d = cc (same) in absurd (never_parts front d x rest))

  by : Parts xs (last ∷ []) c d x → ((x ≡ last) × (d ≡ []) × (c ≡ xs)) ⊎ ((rest : List X) × (xs ≡ c ++ x ∷ rest) × (d ≡ rest ++ last ∷ []))
  by (in_first rest here behind) = inr (rest, here, behind)
  by (in_second front all same) = inl (end front all same)

-- where each of these lines that makes a database was refused nothing is open
abbrev pub ClosedAt : List Exchange → Kept → Type 0
ClosedAt lines kept = IsClosed lines kept.memory

-- any table
abbrev pub Any : Table → Type 0
Any table = Unit {0}

-- what none of the lines behind may have done the last one may not, nor those before it
module _ {Does : Exchange → Type 0} (one : Exchange) (behind rest : List Exchange) (is : behind ≡ rest ++ one ∷ []) (stays : (other : Exchange) → Contains behind other → Does other → ⊥) where
  last_stays : Does one → ⊥
  last_stays = stays one (subst (λ (l : List Exchange). Contains l one) (sym is) (Contains-append_right rest (one ∷ []) one (contains_first one [])))

  rest_stays : (other : Exchange) → Contains rest other → Does other → ⊥
  rest_stays other has = stays other (subst (λ (l : List Exchange). Contains l other) (sym is) (Contains-append_left rest (one ∷ []) other has))

module _ (drives : Geometry) (name : List ℕ) where
  abbrev pub own_log : History → Log
  own_log h = log_of h.databases (Local name)

  -- What these lines show of the database is so by the history: each table that a boot may find has the volumes, and is one that they may have made; one is found; and the lists of places lie so.
  pub record Accords (lines : List Exchange) (h : History) : Type 0 where
    pub there : (volume : VolId) → IsThere volume lines → AreLasting (own_view drives name) (HasIt (own_view drives name) volume) (own_log h)
    pub tables : HasCome drives name lines h
    pub firm : HasDatabase lines → AreLasting (own_view drives name) Any (own_log h)
    pub lists : (made : IsMadeOn lines) → ListsLie drives name (spread made.count made.slices) made.behind h

  -- no lines show anything
  pub accords_none : Accords [] new_history
  accords_none = record {
    there = λ volume is. absurd (never_parts is.before is.behind is.shown is.parts);
    tables = come_none drives name;
    firm = λ is. absurd (never_parts is.before is.behind is.shown is.parts);
    lists = λ is. absurd (never_parts is.before is.behind is.made is.parts);
  }

  module _ (fresh : ℕ) (sound : IsSound drives) where
    abbrev host : Host
    host = host_of drives name fresh

    -- events that begin nothing leave the lists that a boot may find
    lists_quiet : (slices : List SliceName) (behind : List Exchange) (h : History) (es : List Event) → machine.IsCourse history_after (Happening host) h es → AreQuiet es → ListsLie drives name slices behind h → ListsLie drives name slices behind (history_after_all h es)
    lists_quiet slices behind h es course quiet lie = lie_quiet drives name slices behind h es (may_course host h es course) (λ has. quiet (Deleted (Local name)) has) lie quiet

    pub lists_idle : (slices : List SliceName) (behind : List Exchange) (h g : History) → IsIdled host h g → ListsLie drives name slices behind h → ListsLie drives name slices behind g
    lists_idle slices behind h g idled lie = subst (ListsLie drives name slices behind) idled.is (lists_quiet slices behind h idled.es idled.course (idle_quiet host idled.es idled.idle) lie)

    -- and all of it
    pub accords_quiet : (lines : List Exchange) (h : History) (es : List Event) → machine.IsCourse history_after (Happening host) h es → AreQuiet es → Accords lines h → Accords lines (history_after_all h es)
    accords_quiet lines h es course quiet old = record {
      there = λ volume is. lasting_over host (λ deed. ⊥) (HasIt host.drives volume) (λ asked a b may made has. has_carried host.drives volume asked a b (none_stays host volume asked may) made has) (λ none. none) h es course quiet (old.there volume is);
      tables = come_quiet drives name (empty_table []) lines h es course quiet old.tables;
      firm = λ is. lasting_over host (λ deed. ⊥) Any (λ asked a b may made has. tt) (λ none. none) h es course quiet (old.firm is);
      lists = λ is. lists_quiet (spread is.count is.slices) is.behind h es course quiet (old.lists is);
    }

    pub accords_idle : (lines : List Exchange) (h g : History) → IsIdled host h g → Accords lines h → Accords lines g
    accords_idle lines h g idled old = subst (Accords lines) idled.is (accords_quiet lines h idled.es idled.course (idle_quiet host idled.es idled.idle) old)

    -- A line in work, of which no reply was told, shows nothing, and takes nothing away but what it may.
    module _ (lines : List Exchange) (one : Exchange) (h : History) (es : List Event) (course : machine.IsCourse history_after (Happening host) h es) (silent : one.reply ≡ None) (are : AreInWork drives name one.text es) (old : Accords lines h) where
      untold : (reply : List ℕ) → IsTold one reply → ⊥
      untold reply told = (let never : ◌≡◌ {A = Option (List ℕ)} None (Some reply) = sym silent ∙ told in absurd (cc (never)))

      ungranted : (command : Command) → IsGranted one command → ⊥
      ungranted (AddPlaces slices force count blocks) granted = untold ok_line granted
      ungranted (AddListed number force) granted = untold ok_line granted
      ungranted (DropPlaces slices force) granted = untold ok_line granted
      ungranted (Alter alteration) granted = untold ok_line granted
      ungranted (Read volume at count) granted = untold (values_reply granted.0 granted.1) granted.2
      ungranted (Write volume at what) granted = untold ok_line granted
      ungranted (Print names) granted = untold granted.0 granted.1

      begun : MayHaveBegun one
      begun refusal told = absurd (untold (refusal_line refusal) told)

      begins : (deed : Deed) → Contains (issued_by es) deed → MayBegin (Local name) deed one
      begins deed has = begins_asked host one are.ask are.asks begun deed (part_contains (issued_by es) (deeds are.ask) deed are.begins has)

      it_works : (volume : VolId) → (MayTakeAway volume one → ⊥) → AreLasting host.drives (HasIt host.drives volume) (own_log h) → AreLasting host.drives (HasIt host.drives volume) (own_log (history_after_all h es))
      it_works volume never was =
          lasting_over host (λ deed. MayBegin (Local name) deed one) (HasIt host.drives volume) (λ asked a b may made has. has_carried host.drives volume asked a b (begun_stays host volume one never asked may) made has)
          (λ takes. never (taken_away volume one takes)) h es course begins was

      lists_work : (slices : List SliceName) (behind : List Exchange) → (MayTakeDatabase one → ⊥) → ListsLie drives name slices behind h → ListsLie drives name slices (behind ++ one ∷ []) (history_after_all h es)
      lists_work slices behind never lie =
          untold_lies drives name slices behind h es (may_course host h es course) (λ has. never (begins (Deleted (Local name)) has)) lie one (λ tells. untold ok_line tells.3) never
          (inr (record { ask = are.ask; asks = are.asks; begun = begun; begins = are.begins }))

      there_work : (volume : VolId) → IsThere volume (lines ++ one ∷ []) → AreLasting host.drives (HasIt host.drives volume) (own_log (history_after_all h es))
      there_work volume is = elim (parts_last lines is.before is.behind one is.shown is.parts) [
        | inl last ↦ absurd (let shows = subst (ShowsThere volume) last.0 is.shows in ungranted shows.command shows.granted)
        | inr before ↦
            let was = old.there volume (record { shown = is.shown; before = is.before; behind = before.0; parts = before.1; shows = is.shows; stays = rest_stays one is.behind before.0 before.2 is.stays }) in
            it_works volume (last_stays one is.behind before.0 before.2 is.stays) was
      ]

      firm_work : HasDatabase (lines ++ one ∷ []) → AreLasting host.drives Any (own_log (history_after_all h es))
      firm_work is = elim (parts_last lines is.before is.behind one is.shown is.parts) [
        | inl last ↦ absurd (ungranted is.command (subst (λ (e : Exchange). IsGranted e is.command) last.0 is.granted))
        | inr before ↦
            let was = old.firm (record { shown = is.shown; command = is.command; before = is.before; behind = before.0; parts = before.1; asks = is.asks; needs = is.needs; granted = is.granted; stays = rest_stays one is.behind before.0 before.2 is.stays }) in
            lasting_over host (λ deed. MayBegin (Local name) deed one) Any (λ asked a b may made has. tt) (last_stays one is.behind before.0 before.2 is.stays) h es course begins was
      ]

      lists_there : (is : IsMadeOn (lines ++ one ∷ [])) → ListsLie drives name (spread is.count is.slices) is.behind (history_after_all h es)
      lists_there is = elim (parts_last lines is.before is.behind one is.made is.parts) [
        | inl last ↦ absurd (untold ok_line (subst (λ (e : Exchange). IsTold e ok_line) last.0 is.by.told))
        | inr before ↦
            let was = old.lists (record { slices = is.slices; count = is.count; made = is.made; before = is.before; behind = before.0; parts = before.1; by = is.by; stays = rest_stays one is.behind before.0 before.2 is.stays }) in
            subst (λ (l : List Exchange). ListsLie drives name (spread is.count is.slices) l (history_after_all h es)) (sym before.2) (lists_work (spread is.count is.slices) before.0 (last_stays one is.behind before.0 before.2 is.stays) was)
      ]

      pub accords_work : Accords (lines ++ one ∷ []) (history_after_all h es)
      accords_work = record { there = there_work; tables = come_work drives name (empty_table []) lines one h es course silent are old.tables; firm = firm_work; lists = lists_there }

    module _ (calls : Outcomes) (from mid : Between host) (one : Exchange) (answer : Answer) (comes : IsAnswered calls host from.kept one.text answer mid.kept) (said : IsSaid answer) (told : IsTold one (text_of answer))
        (led : IsLed host one from.sure.history mid.sure.history) where
      its : AreReplied drives name one.text led.reply led.es
      its = line_replied drives name fresh one.text led.reply led.now led.after led.es led.its

      -- the lists that a boot may find behind a line that was told
      pub lists_behind : (slices : List SliceName) (behind : List Exchange) → (MayTakeDatabase one → ⊥) → ListsLie drives name slices behind from.sure.history → ListsLie drives name slices (behind ++ one ∷ []) mid.sure.history
      lists_behind slices behind keeps lie =
          let keep : KeepDatabase (Local name) led.es = lined_lives drives name (one ∷ []) led.es (alone drives name fresh one led.es (subst (λ (r : Option (List ℕ)). AreOfReply drives name one.text r led.es) (sym led.told) its)) (λ other has takes. keeps (subst MayTakeDatabase (sym (the_only one other has)) takes)) in
          let after : IsKnown host mid.kept.memory (history_after_all from.sure.history led.es) mid.sure.tale = subst (λ (h : History). IsKnown host mid.kept.memory h mid.sure.tale) (sym led.is) mid.sure.known in
          subst (ListsLie drives name slices (behind ++ one ∷ [])) led.is
          (line_lies drives name slices fresh behind from.sure.history from.sure.tale mid.sure.tale from.kept.memory mid.kept.memory from.sure.known led.es (may_course host from.sure.history led.es led.course) keep after lie
          calls from.kept mid.kept refl refl one keeps answer comes said told led.reply led.told its)

    module _ (lines : List Exchange) (calls : Outcomes) (from mid : Between host) (one : Exchange) (answer : Answer) (comes : IsAnswered calls host from.kept one.text answer mid.kept) (said : IsSaid answer) (told : IsTold one (text_of answer))
        (led : IsLed host one from.sure.history mid.sure.history) (old : Accords lines from.sure.history) (closed : AreRefused lines → from.kept.memory.opened ≡ None) where
      abbrev so_far : List Exchange
      so_far = lines ++ one ∷ []

      there_line : (volume : VolId) → IsThere volume so_far → Keeps host (HasIt host.drives volume) mid
      there_line volume is = elim (parts_last lines is.before is.behind one is.shown is.parts) [
        | inl last ↦
            let there = shown_there host calls from.kept mid.kept one answer comes said told volume from.sure mid.sure (subst (ShowsThere volume) last.0 is.shows) in
            keeps_open host (HasIt host.drives volume) mid there.o there.opened (_, there.lies)
        | inr before ↦
            let was = old.there volume (record { shown = is.shown; before = is.before; behind = before.0; parts = before.1; shows = is.shows; stays = rest_stays one is.behind before.0 before.2 is.stays }) in
            keeps_line host volume (HasIt host.drives volume) (has_carried host.drives volume) one from mid led (last_stays one is.behind before.0 before.2 is.stays) was
      ]

      firm_line : HasDatabase so_far → Keeps host Any mid
      firm_line is = elim (parts_last lines is.before is.behind one is.shown is.parts) [
        | inl last ↦
            let shows = granted_open host calls from.kept mid.kept is.shown answer (subst (λ (e : Exchange). IsAnswered calls host from.kept e.text answer mid.kept) (sym last.0) comes) said (subst (λ (e : Exchange). IsTold e (text_of answer)) (sym last.0) told) is.command is.needs is.asks is.granted in
            keeps_open host Any mid shows.0 shows.1 tt
        | inr before ↦
            let was = old.firm (record { shown = is.shown; command = is.command; before = is.before; behind = before.0; parts = before.1; asks = is.asks; needs = is.needs; granted = is.granted; stays = rest_stays one is.behind before.0 before.2 is.stays }) in
            lasting_led host Any one (λ asked a b may made has. tt) (last_stays one is.behind before.0 before.2 is.stays) from.sure.history mid.sure.history led was
      ]

      -- the line that made the database, as those before it that ask one were refused
      accords_made : (slices : List SliceName) (count : ℕ) → IsMadeBy lines one slices count → ListsLie drives name (spread count slices) [] mid.sure.history
      accords_made slices count by =
          let there = made_there host (own_sound drives name fresh sound) refl calls from.kept mid.kept one answer comes said told slices by.force count by.blocks by.asks by.told (closed by.first) in
          open_lies drives name (spread count slices) fresh [] mid.kept.memory mid.sure.history mid.sure.tale there.o mid.sure.known there.opened there.places there.lists there.lie

      lists_line : (is : IsMadeOn so_far) → ListsLie drives name (spread is.count is.slices) is.behind mid.sure.history
      lists_line is = elim (parts_last lines is.before is.behind one is.made is.parts) [
        | inl last ↦
            let by : IsMadeBy lines one is.slices is.count = subst (λ (l : List Exchange). IsMadeBy l one is.slices is.count) last.2 (subst (λ (e : Exchange). IsMadeBy is.before e is.slices is.count) last.0 is.by) in
            subst (λ (l : List Exchange). ListsLie drives name (spread is.count is.slices) l mid.sure.history) (sym last.1) (accords_made is.slices is.count by)
        | inr before ↦
            let was = old.lists (record { slices = is.slices; count = is.count; made = is.made; before = is.before; behind = before.0; parts = before.1; by = is.by; stays = rest_stays one is.behind before.0 before.2 is.stays }) in
            subst (λ (l : List Exchange). ListsLie drives name (spread is.count is.slices) l mid.sure.history) (sym before.2) (lists_behind calls from mid one answer comes said told led (spread is.count is.slices) before.0 (last_stays one is.behind before.0 before.2 is.stays) was)
      ]

      -- So it is behind a line that was told.
      pub accords_line : Accords so_far mid.sure.history
      accords_line = record { there = there_line; tables = come_line drives name (empty_table []) fresh lines calls from mid one answer comes said told led old.tables; firm = firm_line; lists = lists_line }

    -- and behind any such lines of a run, before each of which nothing is open, if each line so far that makes a database was refused
    pub accords_steps : (Failed : ℕ → Type 0) (lines : List Exchange) (from last : Between host) (es : List Exchange) → Accords lines from.sure.history → (steps : Steps host Failed from es last) → EachSo host Failed ClosedAt lines from last es steps → Accords (lines ++ es) last.sure.history
    accords_steps Failed lines from last es old (no_step at) each = subst (λ (l : List Exchange). Accords l at.sure.history) (sym (append-nil lines)) old
    accords_steps Failed lines from last es old (skipped at mid end rest same idled steps) each = accords_steps Failed lines mid last es (accords_idle lines at.sure.history mid.sure.history idled old) steps each
    accords_steps Failed lines from last es old (one_step calls at mid end one answer rest unfailed comes said told writes led steps) each =
        subst (λ (l : List Exchange). Accords l last.sure.history) (append_assoc lines (one ∷ []) rest)
        (accords_steps Failed (lines ++ one ∷ []) mid last rest (accords_line lines calls at mid one answer comes said told led old each.0) steps each.1)

    -- behind one of them
    pub record AtShown (Failed : ℕ → Type 0) (lines front rest : List Exchange) (shown : Exchange) (last : Between host) : Type 1 where
      pub mid : Between host
      pub accords : Accords (lines ++ (front ++ shown ∷ [])) mid.sure.history
      pub opens : (command : Command) → NeedsDatabase command → Asks shown command → IsGranted shown command → (o : Opened) × (mid.kept.memory.opened ≡ Some o)
      pub after : Steps host Failed mid rest last

    pub accords_shown : (Failed : ℕ → Type 0) (lines front rest : List Exchange) (shown : Exchange) (from last : Between host) (es : List Exchange) → es ≡ front ++ shown ∷ rest → Accords lines from.sure.history → (steps : Steps host Failed from es last) → EachSo host Failed ClosedAt lines from last es steps
        → AtShown Failed lines front rest shown last
    accords_shown Failed lines front rest shown from last es is old (no_step at) each = absurd (never_parts front rest shown is)
    accords_shown Failed lines front rest shown from last es is old (skipped at mid end left same idled steps) each = accords_shown Failed lines front rest shown mid last es is (accords_idle lines at.sure.history mid.sure.history idled old) steps each
    accords_shown Failed lines [] rest shown from last es is old (one_step calls at mid end one answer left unfailed comes said told writes led steps) each =
        let same : one ≡ shown = cc (is) in
        let behind : left ≡ rest = cc (is) in
        record {
          mid = mid;
          accords = subst (λ (e : Exchange). Accords (lines ++ e ∷ []) mid.sure.history) same (accords_line lines calls at mid one answer comes said told led old each.0);
          opens = λ command needs asks granted. granted_open host calls at.kept mid.kept shown answer (subst (λ (e : Exchange). IsAnswered calls host at.kept e.text answer mid.kept) same comes) said (subst (λ (e : Exchange). IsTold e (text_of answer)) same told) command needs asks granted;
          after = subst (λ (l : List Exchange). Steps host Failed mid l last) behind steps;
        }
    accords_shown Failed lines (x ∷ front) rest shown from last es is old (one_step calls at mid end one answer left unfailed comes said told writes led steps) each =
        let same : one ≡ x = cc (is) in
        let behind : left ≡ front ++ shown ∷ rest = cc (is) in
        let there = accords_shown Failed (lines ++ one ∷ []) front rest shown mid last left behind (accords_line lines calls at mid one answer comes said told led old each.0) steps each.1 in
        record {
          mid = there.mid;
          accords = subst (λ (e : Exchange). Accords (lines ++ (e ∷ (front ++ shown ∷ []))) there.mid.sure.history) same
              (subst (λ (l : List Exchange). Accords l there.mid.sure.history) (append_assoc lines (one ∷ []) (front ++ shown ∷ [])) there.accords);
          opens = there.opens;
          after = there.after;
        }
