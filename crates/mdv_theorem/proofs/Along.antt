-- Behind each line of a run that was answered the lists of places that a boot may find lie on slices that the lines so far may have come to.
use Rattle.std.proofs.Common.{◌≡◌, ◌⊎◌, inl, inr, ℕ, ◌+◌, length, append_assoc, Bool, true, false, List, [], ◌∷◌, ◌++◌, Option, Some, None, MatchOption, Contains, refl, sym, ◌∙◌, ap, subst}
use Rattle.std.proofs.lemmas.List.{append-nil, append_cancel_left}
use Rattle.mdv_base.specs.declared.drive.SliceName.{SliceName}
use Rattle.mdv_base.specs.declared.place.Place.{Place}
use Rattle.mdv_engine_law.specs.Commands.{Effect, IsAllowed, case_of}
use Rattle.mdv_engine_law.specs.Hosts.{key_of, lines_asked}
use Rattle.mdv_engine_law.specs.Line.{Kept, Memory}
use Rattle.mdv_engine_law.specs.Line.{IsCreated}
use Rattle.mdv_engine_law.specs.Moves.{HasMovedOn, IsDeletedOn}
use Rattle.std.specs.Bool.{MatchBool}
use Rattle.std.proofs.lemmas.Bool.{false≢true}
use Rattle.mdv_engine_law.specs.Places.{are_all}
use Rattle.mdv_engine_law.specs.Replies.{ok_line, refusal_line, text_of}
use Rattle.mdv_engine_law.specs.Standing.{IsKnown}
use Rattle.mdv_engine_law.specs.declared.answer.Answer.{Answer}
use Rattle.mdv_engine_law.specs.declared.host.Host.{Host}
use Rattle.mdv_engine_law.proofs.Allowed.{allowed_clean, dropped_forced}
use Rattle.mdv_engine_law.proofs.Freed.{freed_current}
use Rattle.mdv_engine_law.proofs.Going.{may_course}
use Rattle.mdv_name.specs.declared.geometry.Geometry.{Geometry}
use Rattle.mdv_places.specs.Asked.{Adds, Asks as PlacesAsked, Drops, list_after}
use Rattle.mdv_port.specs.Script.{Script, at_end, line, spent, too_long}
use Rattle.mdv_run_law.specs.Lives.{host_of}
use Rattle.mdv_run_law.specs.Run.{At, Counts, IsAnswered, IsSaid, LineTold, LinesTold, NextLine, Stretch, drive_failures, no_line, one_more}
use Rattle.mdv_run_law.specs.Standing.{ComeOf, NothingLeft, context_of}
use Rattle.mdv_shelf.specs.Failing.{Outcomes}
use Rattle.mdv_shelf.specs.Story.{Story, tale_of}
use Rattle.mdv_shelf.specs.Tale.{Tale, told}
use Rattle.mdv_status.specs.Telling.{Said as SaidBytes, replies_in}
use Rattle.mdv_store.specs.Opened.{Opened}
use Rattle.mdv_store_law.proofs.Machine.{after_more}
use Rattle.mdv_config.specs.Lists.{last_of}
use Rattle.mdv_plan.specs.declared.lists.Lists.{Lists}
use Rattle.mdv_plan.specs.declared.lists.Lists.TheVariants.{One, Two}
use Rattle.mdv_volumes.specs.Happening.{IsCourse}
use Rattle.mdv_volumes.specs.History.{Event, History, history_after, history_after_all}
use Rattle.mdv_volumes.specs.HistoryLaws.{AllLists, KeepDatabase}
use Rattle.mdv_volumes.proofs.Databases.{is_log_of}
use Rattle.mdv_volumes.proofs.Found.{newest_found}
use Rattle.mdv_store_law.specs.Log.{IsRising, Version}
use Rattle.mdv_volumes.specs.Happening as happening
use Rattle.mdv_words.specs.declared.command.Command.TheVariants as command
use Rattle.mdv_theorem.specs.Exchanges.{Asks, Exchange, IsTold, MayHaveBegun}
use Rattle.mdv_theorem.specs.Words.{KeepsDatabase, MayBecome, MayMake, MayTakeDatabase, TellsPlaces}
use Rattle.mdv_theorem.proofs.Come.{HasCome, HasMetNothing}
use Rattle.mdv_theorem.proofs.Lined.{AreQuiet, AreReplied, alone, idle_quiet, line_replied, lined_lives, said_of}
use Rattle.mdv_theorem.proofs.Left.{lines_here}
use Rattle.mdv_theorem.proofs.Steps.{next_reply}
use Rattle.mdv_volumes.proofs.Lists.{contains_first}
use Rattle.std.proofs.lemmas.List.Elements.{Contains-append_left, Contains-append_right}
use Rattle.mdv_shelf.specs.Moments.{IsSince}
use Rattle.mdv_theorem.proofs.Lists.{ListsLie, g, key, lie_any, lie_one, lie_quiet}
use Rattle.mdv_theorem.proofs.Moves.{AreBegunBy, replied_begun, untold_lies}
use Rattle.mdv_theorem.proofs.Slices.{become_one, less_made, more_made, slices_of}
use Rattle.mdv_theorem.proofs.Sure.{IsSureAt, SureOn, open_lives, open_newest, since_last, sure_on}
use Rattle.mdv_theorem.proofs.Tables.{granted_done}
use Rattle.mdv_theorem.proofs.Telling.{ok_is_none}
use Rattle.mdv_theorem.proofs.Tells.{tells_or_not}

-- the last list of each table is one of those that may be found
last_has : (may : List (List Place)) (lists : Lists) → AllLists may lists → Contains may (last_of lists)
last_has may (One places) has = has
last_has may (Two old new) has = has.1

module _ (drives : Geometry) (name : List ℕ) (from : List SliceName) (fresh : ℕ) where
  abbrev host : Host
  host = host_of drives name fresh

  -- what a boot may find, where a database is open with one list, which the lines may have come to
  pub open_lies : (lines : List Exchange) (memory : Memory) (h : History) (u : Tale) (o : Opened) → IsKnown host memory h u → memory.opened ≡ Some o → (places : List Place) → o.table.plan.lists ≡ One places → MayBecome drives name lines from (slices_of places) → ListsLie drives name from lines h
  open_lies lines memory h u o known opened places one may =
      let is = open_newest host memory h u o known opened in
      lie_one drives name from lines h is.newest.version is.newest.older places (λ k. is_log_of host.drives h.databases u known.stands.databases k) is.newest.family is.written
      (ap (λ t. t.plan.lists) is.newest.same ∙ one) (open_lives host memory h u o known opened) may

  -- the list that is open is one that they may have come to
  pub open_come : (lines : List Exchange) (memory : Memory) (h : History) (u : Tale) (o : Opened) → IsKnown host memory h u → memory.opened ≡ Some o → ListsLie drives name from lines h → MayBecome drives name lines from (slices_of (last_of o.table.plan.lists))
  open_come lines memory h u o known opened lie =
      let is = open_newest host memory h u o known opened in
      let found = newest_found is.newest.version is.newest.older (subst IsRising is.newest.family (is_log_of host.drives h.databases u known.stands.databases (key_of host)).rising) in
      let has = lie.has.1 is.newest.version (subst (λ (f : List Version). happening.MayBeFound f is.newest.version) (sym is.newest.family) found) in
      lie.each (last_of o.table.plan.lists) (subst (λ t. Contains lie.may (last_of t.plan.lists)) is.newest.same (last_has lie.may is.newest.version.table.plan.lists has))

  module _ (lines : List Exchange) (h : History) (u v : Tale) (old new : Memory) (known : IsKnown host old h u) (es : List Event) (course : IsCourse (g drives name from) h es) (keep : KeepDatabase (key drives name from) es) (after : IsKnown host new (history_after_all h es) v) (lie : ListsLie drives name from lines h)
      (calls : Outcomes) (kept next : Kept) (is_old : kept.memory ≡ old) (is_new : next.memory ≡ new) (one : Exchange) (keeps : MayTakeDatabase one → ⊥) (answer : Answer) (comes : IsAnswered calls host kept one.text answer next) (said : IsSaid answer) (is_told : IsTold one (text_of answer)) where
    abbrev Lies : Type 0
    Lies = ListsLie drives name from (lines ++ one ∷ []) (history_after_all h es)

    begun : IsTold one ok_line → MayHaveBegun one
    begun ok refusal refuses = absurd (ok_is_none refusal (let same : Some ok_line ≡ Some (refusal_line refusal) = sym ok ∙ refuses in cc (same)))

    -- a change of places that was done
    moved_lies : (o : Opened) → kept.memory.opened ≡ Some o → (asked : PlacesAsked) → HasMovedOn calls host o asked kept next → ((places : List Place) → MayMake drives name one (slices_of places) (slices_of (list_after asked places))) → Lies
    moved_lies o opened asked (clean, is) makes =
        let places = last_of o.table.plan.lists in
        let was = open_come lines old h u o known (ap (λ (m : Memory). m.opened) (sym is_old) ∙ opened) lie in
        let now : new.opened ≡ Some is.opened = ap (λ (m : Memory). m.opened) (sym is_new ∙ is.memory) in
        open_lies (lines ++ one ∷ []) new (history_after_all h es) v is.opened after now (list_after asked places) (ap (λ (x : Opened). x.table.plan.lists) is.moved.is)
        (become_one drives name lines one from (slices_of places) (slices_of (list_after asked places)) was (makes places))

    -- none is made where there is one
    never_made : (slices : List SliceName) (force : Bool) (count blocks : ℕ) → IsAllowed (case_of host kept) (command.AddPlaces slices force count blocks) → kept.memory.opened ≡ None → ⊥
    never_made slices force count blocks free none =
        let clean : old.clean ≡ true = ap (λ (m : Memory). m.clean) (sym is_old) ∙ allowed_clean (case_of host kept) slices force count blocks free none in
        let freed = known.free (ap (λ (m : Memory). m.opened) (sym is_old) ∙ none) clean in
        let firm = lie.has.0 in
        elim (freed_current host.drives h.databases (key_of host) u known.stands.databases freed) [
          | inl loose ↦ (let is = firm.1 in absurd (cc (loose, is)))
          | inr over ↦ (let lives = firm.0 in absurd (cc (lives, over)))
        ]

    more_lies : (slices : List SliceName) (force : Bool) (count blocks : ℕ) → Asks one (command.AddPlaces slices force count blocks) → IsTold one ok_line
        → IsAllowed (case_of host kept) (command.AddPlaces slices force count blocks) × Effect calls host kept (command.AddPlaces slices force count blocks) answer next → Lies
    more_lies slices force count blocks asks ok (free, (accepts, effect)) = by kept.memory.opened refl effect where
      by : (x : Option Opened) → kept.memory.opened ≡ x → MatchOption x (IsCreated calls host (lines_asked host slices) count blocks kept next) (λ o. HasMovedOn calls host o (Adds (lines_asked host slices) count blocks) kept next) → Lies
      by None none made = absurd (never_made slices force count blocks free none)
      by (Some o) opened is = moved_lies o opened (Adds (lines_asked host slices) count blocks) is (λ places. more_made drives name one slices force count blocks places asks (begun ok))

    less_lies : (slices : List SliceName) → Asks one (command.DropPlaces slices false) → IsTold one ok_line → IsAllowed (case_of host kept) (command.DropPlaces slices false) × Effect calls host kept (command.DropPlaces slices false) answer next → Lies
    less_lies slices asks ok (free, (accepts, o, opened, effect)) = by (are_all o slices) refl effect where
      by : (all : Bool) → are_all o slices ≡ all → MatchBool all (IsDeletedOn calls host o kept next) (HasMovedOn calls host o (Drops slices) kept next) → Lies
      by true is deleted = absurd (false≢true (dropped_forced (case_of host kept) o opened slices false free is))
      by false is moved = moved_lies o opened (Drops slices) moved (λ places. less_made drives name one slices false places asks (begun ok))

    told_lies : TellsPlaces one → Lies
    told_lies (command.AddPlaces slices force count blocks, asks, moves, ok) =
        more_lies slices force count blocks asks ok (granted_done host calls kept next one answer comes said is_told (command.AddPlaces slices force count blocks) asks ok)
    told_lies (command.AddListed number force, asks, moves, ok) = lie_any drives name from lines h es course keep lie one (λ old_slices next_slices. inr (command.AddListed number force, asks, tt, begun ok))
    told_lies (command.DropPlaces slices true, asks, moves, ok) = absurd (keeps (record { command = command.DropPlaces slices true; asks = asks; takes = refl; begun = begun ok }))
    told_lies (command.DropPlaces slices false, asks, moves, ok) = less_lies slices asks ok (granted_done host calls kept next one answer comes said is_told (command.DropPlaces slices false) asks ok)
    told_lies (command.Alter alteration, asks, moves, ok) = absurd moves
    told_lies (command.Read volume at count, asks, moves, ok) = absurd moves
    told_lies (command.Write volume at what, asks, moves, ok) = absurd moves
    told_lies (command.Print names, asks, moves, ok) = absurd moves

    -- So it is behind the line.
    pub line_lies : (reply : List ℕ) → one.reply ≡ Some reply → AreReplied drives name one.text reply es → Lies
    line_lies reply is are = elim (tells_or_not host calls kept next one answer comes said is_told) [
      | inl tells ↦ told_lies tells
      | inr untold ↦ untold_lies drives name from lines h es course keep lie one untold keeps (subst (λ (r : Option (List ℕ)). AreQuiet es ⊎ AreBegunBy drives name (record { text = one.text; reply = r }) es) (sym is) (replied_begun drives name one.text reply es are))
    ]

-- Over the lines of a run that were told, from one place to another.
module _ (drives : Geometry) (name : List ℕ) (from : List SliceName) (fresh : ℕ) (script : Script) (h : History) (t m : Tale) (none : HasMetNothing (host_of drives name fresh) script h t m) where
  abbrev its : Host
  its = host_of drives name fresh

  -- The next line of a script, which was answered: where the history goes on by its events, and is known then with what the line left.
  module _ (lines : List Exchange) (counts later : Counts) (kept next : Kept) (answer : Answer) (rest : Script) (said : IsSaid answer) (u v : Tale) (there : History) (known : IsKnown its kept.memory there u) (fs : List Event)
      (course : IsCourse (g drives name from) there fs) (after : IsKnown its next.memory (history_after_all there fs) v) (lie : ListsLie drives name from lines there) where
    pub script_lies : (left : Script) → NextLine its counts kept left answer later next rest → ComeOf its (NothingLeft (context_of next.memory)) (context_of kept.memory) left (text_of answer ∷ []) fs → KeepsDatabase (said_of left (text_of answer))
        → ListsLie drives name from (lines ++ said_of left (text_of answer)) (history_after_all there fs)
    script_lies at_end comes come keeps = absurd comes
    script_lies (spent rows limit) comes come keeps = absurd comes
    script_lies (too_long more) comes come keeps =
        let same : fs ≡ come.0 = come.2 ∙ ap (λ (l : List Event). come.0 ++ l) come.4.0 ∙ append-nil come.0 in
        let quiet : AreQuiet fs = subst AreQuiet (sym same) (idle_quiet its come.0 come.3) in
        subst (λ (l : List Exchange). ListsLie drives name from l (history_after_all there fs)) (sym (append-nil lines))
        (lie_quiet drives name from lines there fs course (λ has. quiet _ has) lie quiet)
    script_lies (line text more) comes come keeps =
        let same : fs ≡ come.0 = come.2 ∙ ap (λ (l : List Event). come.0 ++ l) come.6.0 ∙ append-nil come.0 in
        let reply = text_of answer in
        let one : Exchange = record { text = text; reply = Some reply } in
        let are : AreReplied drives name text reply fs = subst (AreReplied drives name text reply) (sym same) (line_replied drives name fresh text reply (context_of kept.memory) come.3 come.0 come.4) in
        let keep : KeepDatabase (key drives name from) fs = lined_lives drives name (one ∷ []) fs (alone drives name fresh one fs are) keeps in
        line_lies drives name from fresh lines there u v kept.memory next.memory known fs course keep after lie
        (drive_failures counts later) kept next refl refl one (λ takes. keeps one (contains_first one []) takes) answer comes.2 said refl reply refl are

  module _ (lines : List Exchange) (now mid : At) (piece : List ℕ) (line_told : LineTold its now piece mid) (sure : IsSureAt its script h t now) (on : SureOn its script h t m none now mid sure)
      (lie : ListsLie drives name from lines (history_after_all h sure.come.es)) where
    abbrev there : History
    there = history_after_all h sure.come.es

    abbrev fs : List Event
    fs = on.came.fs

    abbrev reply : List ℕ
    reply = text_of line_told.answer

    abbrev behind_is : history_after_all h on.next.come.es ≡ history_after_all there fs
    behind_is = ap (λ (c : HasCome its script h t mid.kept.memory mid.script (tale_of on.next.story)). history_after_all h c.es) on.its ∙ ap (history_after_all h) on.came.all ∙ after_more history_after h sure.come.es fs

    known_after : IsKnown its mid.kept.memory (history_after_all there fs) (tale_of on.next.story)
    known_after = subst (λ (g : History). IsKnown its mid.kept.memory g (tale_of on.next.story)) behind_is on.next.come.known

    course : IsCourse (g drives name from) there fs
    course = may_course its there fs on.came.course

    -- what was told is the line's reply
    bytes_are : on.came.bytes ≡ reply
    bytes_are =
        append_cancel_left (told (tale_of sure.story)) on.came.bytes piece (sym on.came.is_told ∙ line_told.passage.told sure.story on.next.story sure.is on.next.is) ∙ line_told.as_text

    replies_are : replies_in on.came.bytes ≡ reply ∷ []
    replies_are =
        ap replies_in bytes_are ∙ ap (λ (s : SaidBytes). s.replies) (next_reply its now.counts mid.counts now.kept mid.kept now.script mid.script line_told.answer line_told.comes line_told.said).alone

    pub step_lies : KeepsDatabase (said_of now.script reply) → ListsLie drives name from (lines ++ said_of now.script reply) (history_after_all h on.next.come.es)
    step_lies keeps =
        subst (ListsLie drives name from (lines ++ said_of now.script reply)) (sym behind_is)
        (script_lies lines now.counts mid.counts now.kept mid.kept line_told.answer mid.script line_told.said (tale_of sure.story) (tale_of on.next.story) there sure.come.known fs course known_after lie
        now.script line_told.comes (subst (λ (l : List (List ℕ)). ComeOf its (NothingLeft (context_of mid.kept.memory)) (context_of now.kept.memory) now.script l fs) replies_are on.came.come) keeps)

  -- where it lies so behind the last of some lines
  pub record LieAt (lines : List Exchange) (at : At) : Type 0 where
    pub sure : IsSureAt its script h t at
    pub lie : ListsLie drives name from lines (history_after_all h sure.come.es)

  pub lines_lie : (stretch : Stretch) (n : ℕ) (now last : At) (front : List ℕ) (lines_told : LinesTold its stretch n now front last) → ((u : Story) → last.story ≡ Some u → IsSince (tale_of u) m) → (lines : List Exchange) → KeepsDatabase (lines_here its stretch n now last front lines_told)
      → LieAt lines now → LieAt (lines ++ lines_here its stretch n now last front lines_told) last
  lines_lie stretch n now last front (no_line bytes at) since lines keeps lie = record { sure = lie.sure; lie = subst (λ (l : List Exchange). ListsLie drives name from l (history_after_all h lie.sure.come.es)) (sym (append-nil lines)) lie.lie }
  lines_lie stretch n now last front (one_more bytes at mid end piece left some line_told shown more) since lines keeps lie =
      let on = sure_on its script h t m none now mid piece line_told lie.sure (λ v is. since_last its stretch (n + length piece) mid last left m more since v is) in
      let here = said_of now.script (text_of line_told.answer) in
      let rest = lines_here its stretch (n + length piece) mid last left more in
      let first = step_lies lines now mid piece line_told lie.sure on lie.lie (λ one has. keeps one (Contains-append_left here rest one has)) in
      subst (λ (l : List Exchange). LieAt l last) (append_assoc lines here rest)
      (lines_lie stretch (n + length piece) mid last left more since (lines ++ here) (λ one has. keeps one (Contains-append_right here rest one has)) (record { sure = on.next; lie = first }))
