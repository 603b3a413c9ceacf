-- By a history that lines led to, each table that a boot may find is one that they may have made, but for its places: so it stays behind events that begin nothing, and behind a line that wasn't told to have changed volumes.
use Rattle.std.proofs.Common.{◌≡◌, ◌⊎◌, inl, inr, ℕ, Bool, true, false, if◌then◌else◌, List, [], ◌∷◌, ◌++◌, Option, Some, None, Contains, refl, sym, ap, subst}
use Rattle.mdv_base.specs.declared.drive.SliceName.{SliceName}
use Rattle.mdv_base.specs.declared.name.Key.{Key}
use Rattle.mdv_base.specs.declared.name.Key.TheVariants.{Local}
use Rattle.mdv_base.specs.declared.name.VolId.{VolId}
use Rattle.mdv_change.specs.declared.change.Change.{Change as PlanChange}
use Rattle.mdv_config.specs.Lists.{with_lists}
use Rattle.mdv_databases.proofs.Lists.{key_itself}
use Rattle.mdv_engine_law.specs.Altering.{change_of}
use Rattle.mdv_engine_law.specs.Awake.{Happening}
use Rattle.mdv_engine_law.specs.Line.{Ask, Nothing, asked_by, asked_by_line, change_asked, deeds}
use Rattle.mdv_engine_law.specs.Replies.{ok_line}
use Rattle.mdv_engine_law.specs.declared.host.Host.{Host}
use Rattle.mdv_engine_law.proofs.Going.{may_course}
use Rattle.mdv_home.specs.View.{own_view}
use Rattle.mdv_keeping.proofs.Places.{lists_stay}
use Rattle.mdv_keeping.specs.Keeping.{IsStepOf}
use Rattle.mdv_name.specs.declared.geometry.Geometry.{Geometry}
use Rattle.mdv_plan.specs.Table.{empty_table}
use Rattle.mdv_plan.specs.declared.table.Table.{Table}
use Rattle.mdv_run_law.specs.Lives.{host_of}
use Rattle.mdv_run_law.specs.Standing.{Asks as AsksWords}
use Rattle.mdv_run_law.proofs.Deeds.{part_contains, part_deeds}
use Rattle.mdv_store_law.specs.Changes.{AddListed, AddPlaces, Change, DropPlaces, FirstPlace, IsMadeBy, OfPlan}
use Rattle.mdv_store_law.specs.Log as log
use Rattle.mdv_store_law.specs.Log.{IsAskable}
use Rattle.mdv_store_law.specs.Machine as machine
use Rattle.mdv_store_law.specs.Machine.{AreAll}
use Rattle.mdv_store_law.specs.Part.{IsPart}
use Rattle.mdv_store_law.proofs.Logs.{empty_is_log}
use Rattle.mdv_volumes.specs.Databases.{log_of}
use Rattle.mdv_volumes.specs.Happening.{IsCourse, issued_by}
use Rattle.mdv_volumes.specs.History.{Changed, Created, Deed, Deleted, Event, History, Wrote, history_after, history_after_all}
use Rattle.mdv_volumes.specs.HistoryLaws.{KeepDatabase, database_deeds, log_events_of, new_history}
use Rattle.mdv_volumes.proofs.Ending.{none_begins}
use Rattle.mdv_volumes.proofs.Found.{none_found}
use Rattle.mdv_volumes.proofs.Keys.{databases_live}
use Rattle.mdv_volumes.proofs.Listed.{changes_are}
use Rattle.mdv_volumes.proofs.Lists.{first_or_behind}
use Rattle.mdv_words.specs.Line.{Boot, Exec, Line, Tab, blocks_of}
use Rattle.mdv_words.specs.declared.command.Alteration.{Alteration}
use Rattle.mdv_words.specs.declared.command.Command.{Command}
use Rattle.mdv_words.specs.declared.command.Command.TheVariants as command
use Rattle.mdv_theorem.specs.Exchanges.{Asks, Exchange, IsTold}
use Rattle.mdv_theorem.specs.Words.{MayChange, MayCome, MayTakeDatabase, comes, ends, stays}
use Rattle.mdv_theorem.proofs.Ends.{ends_or_keeps}
use Rattle.mdv_theorem.proofs.Leading.{Which}
use Rattle.mdv_theorem.proofs.Lined.{AreQuiet}
use Rattle.mdv_theorem.proofs.Lines.{MayAlter, MayBegin, never_in, the_only}
use Rattle.mdv_theorem.proofs.Reaching.{AreReached, Bare, MayEnd, all_end, bare, no_ends, reached_all, reached_once}

-- the line wasn't told to have changed volumes
abbrev pub IsUnaltered : Exchange → Type 0
IsUnaltered one = (alteration : Alteration) → Asks one (command.Alter alteration) → IsTold one ok_line → ⊥

-- Tables by lines.
module _ (g : Geometry) where
  -- one line more
  pub come_more : (lines : List Exchange) (one : Exchange) (old mid last : Table) → MayCome g lines old mid → MayChange g one mid last → MayCome g (lines ++ one ∷ []) old last
  come_more [] one old mid last come change = (last, subst (λ (t : Table). MayChange g one t last) come change, refl)
  come_more (x ∷ lines) one old mid last come change = (come.0, come.1, come_more lines one come.0 mid last come.2 change)

  -- the last line may have taken the database away
  pub come_ends : (lines : List Exchange) (one : Exchange) (old last : Table) → MayTakeDatabase one → MayCome g (lines ++ one ∷ []) old last → MayCome g (lines ++ one ∷ []) old (empty_table [])
  come_ends [] one old last takes come = (empty_table [], ends takes refl, refl)
  come_ends (x ∷ lines) one old last takes come = (come.0, come.1, come_ends lines one come.0 last takes come.2)

  pub come_stays : (lines : List Exchange) (one : Exchange) (old last : Table) → IsUnaltered one → MayCome g lines old last → MayCome g (lines ++ one ∷ []) old last
  come_stays lines one old last untold come = come_more lines one old last last come (stays untold refl)

  -- a change that the line may have begun
  pub may_change : (one : Exchange) (change : PlanChange) (old next : Table) → MayAlter change one → IsStepOf g change old next → MayChange g one (bare old) (bare next)
  may_change one change old next may step =
      comes may.alteration change old.plan.lists may.asks may.begun may.alters (subst (IsStepOf g change old) (sym (ap (with_lists next) (sym (lists_stay g change old next step)))) step)

-- it moves places, and changes no volume
abbrev pub MovesPlace : Change → Type 0
MovesPlace (OfPlan change) = ⊥
MovesPlace (AddPlaces slices count blocks) = Unit {0}
MovesPlace (AddListed number) = Unit {0}
MovesPlace (DropPlaces slices) = Unit {0}
MovesPlace FirstPlace = Unit {0}

-- and is nothing to a table but for its places
move_bare : (g : Geometry) (May : Table → Type 0) (change : Change) (old next : Table) → MovesPlace change → IsMadeBy g change old next → Bare May old → Bare May next
move_bare g May (OfPlan change) old next moves made is = absurd moves
move_bare g May (AddPlaces slices count blocks) old next moves made is = subst (Bare May) (sym made) is
move_bare g May (AddListed number) old next moves made is = subst (Bare May) (sym made.is) is
move_bare g May (DropPlaces slices) old next moves made is = subst (Bare May) (sym made) is
move_bare g May FirstPlace old next moves made is = subst (Bare May) (sym made) is

module _ (drives : Geometry) (name : List ℕ) where
  abbrev own : Host
  own = host_of drives name 0

  abbrev key : Key
  key = Local name

  abbrev g : Geometry
  g = own_view drives name

  -- each table that a boot may find is one that these lines may have made of this one
  abbrev pub HasComeFrom : Table → List Exchange → History → Type 0
  HasComeFrom base lines h = AreReached (MayCome g lines base) g (log_of h.databases (Local name))

  -- or of none
  abbrev pub HasCome : List Exchange → History → Type 0
  HasCome lines h = HasComeFrom (empty_table []) lines h

  pub come_none : HasCome [] new_history
  come_none = record { is_log = empty_is_log g; each = λ v found. absurd (none_found v found); none = λ free. refl }

  -- these deeds are of such changes alone
  abbrev OfSuch : (Deed → Type 0) → List Event → Type 0
  OfSuch Begins es = (deed : Deed) → Contains (issued_by es) deed → Begins deed

  asks_such : (Begins : Deed → Type 0) (es : List Event) → OfSuch Begins es → AreAll (IsAskable (Which own Begins)) (log.begun_by (log_events_of key es))
  asks_such Begins es each = changes_are key (Which own Begins) es (λ change has. each (Changed key change) has)

  module _ (base : Table) where
    abbrev May : List Exchange → Table → Type 0
    May lines t = MayCome g lines base t

    abbrev From : List Exchange → History → Type 0
    From lines h = HasComeFrom base lines h

    -- events by which volumes don't change
    module _ (lines : List Exchange) (h : History) (es : List Event) (course : machine.IsCourse history_after (Happening own) h es) where
      abbrev may : IsCourse g h es
      may = may_course own h es course

      abbrev After : List Exchange → Type 0
      After more = AreReached (May more) g (log.log_after_all (log_of h.databases key) (log_events_of key es))

      as_history : (more : List Exchange) → After more → From more (history_after_all h es)
      as_history more are = subst (AreReached (May more) g) (sym (databases_live.is key g h es may)) are

      log_course : log.IsCourse g (log_of h.databases key) (log_events_of key es)
      log_course = databases_live.may key g h es may

      abbrev Ended : List Exchange → Type 0
      Ended more = (old : Table) → May more old → May more (empty_table [])

      moved : (more : List Exchange) (Begins : Deed → Type 0) → ((change : Change) → Begins (Changed key change) → MovesPlace change) → OfSuch Begins es → KeepDatabase key es ⊎ Ended more → From more h → From more (history_after_all h es)
      moved more Begins moves each over are =
          as_history more (reached_all (May more) g (Which own Begins) (λ change old next begins made is. move_bare g (May more) change old next (moves change begins) made is)
          (log_of h.databases key) (log_events_of key es) log_course (asks_such Begins es each) (by over) are) where
            by : KeepDatabase key es ⊎ Ended more → AreAll (MayEnd (May more)) (log_events_of key es)
            by (inl keeps) = no_ends (May more) (log_events_of key es) (none_begins key es keeps)
            by (inr ended) = all_end (May more) ended (log_events_of key es)

      pub come_quiet : AreQuiet es → From lines h → From lines (history_after_all h es)
      come_quiet quiet are = moved lines (λ deed. ⊥) (λ change never. absurd never) quiet (inl (λ has. quiet (Deleted key) has)) are

      -- those of a line that moves places, or ends the database
      module _ (one : Exchange) (untold : IsUnaltered one) where
        abbrev more : List Exchange
        more = lines ++ one ∷ []

        lift : (t : Table) → May lines t → May more t
        lift t come = come_stays g lines one base t untold come

        lifted : From lines h → From more h
        lifted are = record { is_log = are.is_log; each = λ v found. lift (bare v.table) (are.each v found); none = λ free. lift (empty_table []) (are.none free) }

        pub come_moved : OfSuch (λ deed. MayBegin key deed one) es → ((change : Change) → Contains (issued_by es) (Changed key change) → MovesPlace change) → From lines h → From more (history_after_all h es)
        come_moved begins moves are =
            moved more (λ deed. Contains (issued_by es) deed × MayBegin key deed one) (λ change both. moves change both.0) (λ deed has. (has, begins deed has)) (by (ends_or_keeps key (issued_by es))) (lifted are) where
              by : Contains (issued_by es) (Deleted key) ⊎ KeepDatabase key es → KeepDatabase key es ⊎ Ended more
              by (inl has) = inr (λ old come. come_ends g lines one base old (begins (Deleted key) has) come)
              by (inr keeps) = inl keeps

        -- and those of one that changes volumes, once
        pub come_once : (change : PlanChange) → IsPart (issued_by es) (Changed key (OfPlan change) ∷ []) → OfSuch (λ deed. MayBegin key deed one) es → From lines h → From more (history_after_all h es)
        come_once change part begins are =
            let deeds_are : IsPart (database_deeds key (issued_by es)) (Some (OfPlan change) ∷ []) = subst (IsPart (database_deeds key (issued_by es))) one_deed (part_deeds key (issued_by es) (Changed key (OfPlan change) ∷ []) part) in
            let asked : IsPart (log.begun_by (log_events_of key es)) (Some (OfPlan change) ∷ []) = subst (λ (l : List (Option Change)). IsPart l (Some (OfPlan change) ∷ [])) (sym (databases_live.begins key es)) deeds_are in
            as_history more (reached_once g (May lines) (May more) lift change (Which own (λ deed. MayBegin key deed one))
            (λ old next may made is. come_more g lines one base (bare old) (bare next) is (may_change g one change old next may made.1))
            (log_of h.databases key) (log_events_of key es) log_course asked (asks_such (λ deed. MayBegin key deed one) es begins) (none_begins key es keeps) are) where
              one_deed : database_deeds key (Changed key (OfPlan change) ∷ []) ≡ Some (OfPlan change) ∷ []
              one_deed = let is = key_itself key in rw is refl

              keeps : KeepDatabase key es
              keeps has = (let same : Changed key (OfPlan change) ≡ Deleted key = the_only (Changed key (OfPlan change)) (Deleted key) (part_contains (issued_by es) (Changed key (OfPlan change) ∷ []) (Deleted key) part has) in absurd (cc same))

        -- any line that wasn't told to have changed volumes, by what it asks
        abbrev IsAsked : Ask → Type 0
        IsAsked ask = AsksWords own one.text ask ⊎ (ask ≡ Nothing)

        module _ (begins : OfSuch (λ deed. MayBegin key deed one) es) (are : From lines h) where
          asks_none : IsPart (issued_by es) [] → From more (history_after_all h es)
          asks_none part = come_moved begins (λ change has. absurd (never_in (Changed key change) (part_contains (issued_by es) [] (Changed key change) part has))) are

          asks_moves : (asked : List Deed) → IsPart (issued_by es) asked → ((change : Change) → Contains asked (Changed key change) → MovesPlace change) → From more (history_after_all h es)
          asks_moves asked part moves = come_moved begins (λ change has. moves change (part_contains (issued_by es) asked (Changed key change) part has)) are

          asks_change : (asked : Option PlanChange) → IsPart (issued_by es) (deeds (change_asked own asked)) → From more (history_after_all h es)
          asks_change None part = asks_none part
          asks_change (Some change) part = come_once change part begins are

          is_moved : (first change : Change) → MovesPlace first → Changed key first ≡ Changed key change → MovesPlace change
          is_moved first change moves same = (let is : first ≡ change = cc same in subst MovesPlace is moves)

          created_moves : (first : Change) → MovesPlace first → (change : Change) → Contains (Created key ∷ Changed key first ∷ []) (Changed key change) → MovesPlace change
          created_moves first moves change has = elim (first_or_behind (Created key) (Changed key change) (Changed key first ∷ []) has) [
            | inl here ↦ absurd (let never : Created key ≡ Changed key change = here in cc never)
            | inr behind ↦ is_moved first change moves (the_only (Changed key first) (Changed key change) behind)
          ]

          dropped_moves : (slices : List SliceName) (force : Bool) (change : Change) → Contains (Changed key (DropPlaces slices) ∷ (if force then Changed key FirstPlace ∷ Deleted key ∷ [] else [])) (Changed key change) → MovesPlace change
          dropped_moves slices force change has =
              elim (first_or_behind (Changed key (DropPlaces slices)) (Changed key change) (if force then Changed key FirstPlace ∷ Deleted key ∷ [] else []) has) [
                | inl here ↦ is_moved (DropPlaces slices) change tt here
                | inr behind ↦ by force behind
              ] where
                by : (forced : Bool) → Contains (if forced then Changed key FirstPlace ∷ Deleted key ∷ [] else []) (Changed key change) → MovesPlace change
                by false none = absurd (never_in (Changed key change) none)
                by true some = elim (first_or_behind (Changed key FirstPlace) (Changed key change) (Deleted key ∷ []) some) [
                  | inl here ↦ is_moved FirstPlace change tt here
                  | inr behind ↦ absurd (let never : Deleted key ≡ Changed key change = the_only (Deleted key) (Changed key change) behind in cc never)
                ]

          wrote_moves : (volume : VolId) (at : ℕ) (blocks : List (List ℕ)) (change : Change) → Contains (Wrote key volume at blocks ∷ []) (Changed key change) → MovesPlace change
          wrote_moves volume at blocks change has = absurd (let never : Wrote key volume at blocks ≡ Changed key change = the_only (Wrote key volume at blocks) (Changed key change) has in cc never)

          asks_command : (asked : Command) → IsPart (issued_by es) (deeds (asked_by own asked)) → From more (history_after_all h es)
          asks_command (command.AddPlaces slices force count blocks) part = asks_moves _ part (created_moves _ tt)
          asks_command (command.AddListed number force) part = asks_moves _ part (created_moves (AddListed number) tt)
          asks_command (command.DropPlaces slices force) part = asks_moves _ part (dropped_moves slices force)
          asks_command (command.Alter alteration) part = asks_change (change_of alteration) part
          asks_command (command.Read volume at count) part = asks_none part
          asks_command (command.Write volume at what) part = asks_moves _ part (wrote_moves volume at (blocks_of what))
          asks_command (command.Print names) part = asks_none part

          asks_line : (spelled : Line) → IsPart (issued_by es) (deeds (asked_by_line own spelled)) → From more (history_after_all h es)
          asks_line Boot part = asks_none part
          asks_line (Tab rows) part = asks_none part
          asks_line (Exec asked) part = asks_command asked part

          pub come_asked : (ask : Ask) → IsAsked ask → IsPart (issued_by es) (deeds ask) → From more (history_after_all h es)
          come_asked ask (inr none) part = asks_none (subst (λ (a : Ask). IsPart (issued_by es) (deeds a)) none part)
          come_asked ask (inl (inl none)) part = asks_none (subst (λ (a : Ask). IsPart (issued_by es) (deeds a)) none.1 part)
          come_asked ask (inl (inr is)) part = asks_line is.0 (subst (λ (a : Ask). IsPart (issued_by es) (deeds a)) is.2 part)
