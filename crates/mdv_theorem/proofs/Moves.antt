-- What a line's events make of the lists of places that a boot may find: no more than the line may have begun.
use Rattle.std.proofs.Common.{◌≡◌, ◌⊎◌, inl, inr, ⊎_elim, ℕ, Bool, true, false, ◌||◌, if◌then◌else◌, List, [], ◌∷◌, ◌++◌, Option, Some, None, refl, sym, ◌∙◌, subst}
use Rattle.mdv_base.specs.declared.drive.SliceName.{SliceName}
use Rattle.mdv_databases.proofs.Lists.{key_itself}
use Rattle.mdv_engine_law.specs.Hosts.{lines_asked}
use Rattle.mdv_engine_law.specs.Line.{Ask, Nothing, asked_by_line, change_asked, deeds}
use Rattle.mdv_name.specs.declared.geometry.Geometry.{Geometry}
use Rattle.mdv_places.specs.Asked.{names_of}
use Rattle.mdv_run_law.specs.Standing.{Asks as AsksWords}
use Rattle.mdv_run_law.proofs.Deeds.{part_contains, part_deeds}
use Rattle.mdv_store_law.specs.Changes.{AddPlaces, Change, DropPlaces, KeepsPlaces, OfPlan}
use Rattle.mdv_store_law.specs.Part.{IsPart}
use Rattle.mdv_store_law.proofs.Parts.{part_before}
use Rattle.mdv_change.specs.declared.change.Change.{Change as PlanChange}
use Rattle.mdv_engine_law.specs.Altering.{change_of}
use Rattle.mdv_volumes.specs.Happening.{IsCourse, issued_by}
use Rattle.mdv_volumes.specs.History.{Changed, Created, Deed, Event, History, Wrote, history_after_all}
use Rattle.mdv_volumes.specs.HistoryLaws.{KeepDatabase, KeepPlaces, database_deeds}
use Rattle.mdv_words.specs.Line.{Boot, Exec, IsLine, Line, Tab, blocks_of}
use Rattle.mdv_words.specs.declared.command.Command.{Command}
use Rattle.mdv_words.specs.declared.command.Command.TheVariants as command
use Rattle.mdv_base.specs.declared.refusal.Refusal.{Refusal}
use Rattle.mdv_base.specs.declared.refusal.Refusal.TheVariants.{IoFault}
use Rattle.mdv_engine_law.specs.Replies.{ok_line, refusal_line}
use Rattle.std.specs.Str.{bytes_eq}
use Rattle.std.proofs.lemmas.Slice.Eq.{bytes_eq-Decides}
use Rattle.mdv_theorem.proofs.Telling.{is_fault, ok_is_none, one_number}
use Rattle.mdv_theorem.specs.Exchanges.{Asks, Exchange, IsTold, MayHaveBegun}
use Rattle.mdv_theorem.specs.Words.{MayMake, MayTakeDatabase, TellsPlaces}
use Rattle.mdv_theorem.proofs.Lined.{AreQuiet, AreReplied, host}
use Rattle.mdv_theorem.proofs.Lines.{never_in, the_only}
use Rattle.mdv_theorem.proofs.Lists.{ListsLie, g, key, lie_any, lie_changed, lie_still}
use Rattle.mdv_theorem.proofs.Slices.{left_there, less_made, more_made}

module _ (drives : Geometry) (name : List ℕ) where
  -- the line may have begun what it asks, and its events begin no more
  pub record AreBegunBy (one : Exchange) (es : List Event) : Type 0 where
    pub ask : Ask
    pub asks : AsksWords (host drives name) one.text ask ⊎ (ask ≡ Nothing)
    pub begun : MayHaveBegun one
    pub begins : IsPart (issued_by es) (deeds ask)

  -- so it is of a line that was answered, or its events begin nothing
  pub replied_begun : (text reply : List ℕ) (es : List Event) → AreReplied drives name text reply es → AreQuiet es ⊎ AreBegunBy (record { text = text; reply = Some reply }) es
  replied_begun text reply es are = by (bytes_eq reply ok_line) (bytes_eq reply (refusal_line IoFault)) refl refl are.begins where
    one : Exchange
    one = record { text = text; reply = Some reply }

    asks : AsksWords (host drives name) text are.ask ⊎ (are.ask ≡ Nothing)
    asks = ⊎_elim (λ words. inl words) (λ none. inr none.0) are.asks

    its_reply : (refusal : Refusal) → IsTold one (refusal_line refusal) → reply ≡ refusal_line refusal
    its_reply refusal told = (let same : Some reply ≡ Some (refusal_line refusal) = told in cc (same))

    by : (ok fault : Bool) → bytes_eq reply ok_line ≡ ok → bytes_eq reply (refusal_line IoFault) ≡ fault → IsPart (issued_by es) (if ok || fault then deeds are.ask else []) → AreQuiet es ⊎ AreBegunBy one es
    by true fault is other part = inr (record { ask = are.ask; asks = asks; begun = λ refusal told. absurd (ok_is_none refusal (sym ((bytes_eq-Decides reply ok_line).0 is) ∙ its_reply refusal told)); begins = part })
    by false true is other part = inr (record { ask = are.ask; asks = asks; begun = λ refusal told. is_fault refusal (one_number refusal IoFault (sym (its_reply refusal told) ∙ (bytes_eq-Decides reply (refusal_line IoFault)).0 other)); begins = part })
    by false false is other part = inl (λ deed has. never_in deed (part_contains (issued_by es) [] deed part has))

  module _ (from : List SliceName) (lines : List Exchange) (h : History) (es : List Event) (course : IsCourse (g drives name from) h es) (keep : KeepDatabase (key drives name from) es) (lie : ListsLie drives name from lines h) (one : Exchange)
      (untold : TellsPlaces one → ⊥) (keeps : MayTakeDatabase one → ⊥) where
    abbrev Lies : Type 0
    Lies = ListsLie drives name from (lines ++ one ∷ []) (history_after_all h es)

    left : (slices : List SliceName) → MayMake drives name one slices slices
    left slices = left_there drives name one slices untold

    still_lies : KeepPlaces (key drives name from) es → Lies
    still_lies still = lie_still drives name from lines h es course keep lie one left still

    quiet_keeps : AreQuiet es → KeepPlaces (key drives name from) es
    quiet_keeps quiet change has = absurd (quiet (Changed (key drives name from) change) has)

    none_keeps : IsPart (issued_by es) [] → KeepPlaces (key drives name from) es
    none_keeps part change has = absurd (never_in (Changed (key drives name from) change) (part_contains (issued_by es) [] (Changed (key drives name from) change) part has))

    -- a deed alone that is no change of places
    one_keeps : (deed : Deed) → IsPart (issued_by es) (deed ∷ []) → ((change : Change) → deed ≡ Changed (key drives name from) change → KeepsPlaces change) → KeepPlaces (key drives name from) es
    one_keeps deed part keeps_them change has = keeps_them change (the_only deed (Changed (key drives name from) change) (part_contains (issued_by es) (deed ∷ []) (Changed (key drives name from) change) part has))

    plan_keeps : (plan : _) (change : Change) → Changed (key drives name from) (OfPlan plan) ≡ Changed (key drives name from) change → KeepsPlaces change
    plan_keeps plan change same = (let one_change : OfPlan plan ≡ change = cc (same) in subst KeepsPlaces one_change tt)

    made_deeds : (change : Change) → database_deeds (key drives name from) (Created (key drives name from) ∷ Changed (key drives name from) change ∷ []) ≡ None ∷ Some change ∷ []
    made_deeds change = let is = key_itself (key drives name from) in rw is refl

    change_deeds : (change : Change) → database_deeds (key drives name from) (Changed (key drives name from) change ∷ []) ≡ Some change ∷ []
    change_deeds change = let is = key_itself (key drives name from) in rw is refl

    made_part : (change : Change) → IsPart (issued_by es) (Created (key drives name from) ∷ Changed (key drives name from) change ∷ []) → IsPart (database_deeds (key drives name from) (issued_by es)) (None ∷ Some change ∷ [])
    made_part change part = subst (IsPart (database_deeds (key drives name from) (issued_by es))) (made_deeds change) (part_deeds (key drives name from) (issued_by es) (Created (key drives name from) ∷ Changed (key drives name from) change ∷ []) part)

    change_part : (change : Change) → IsPart (issued_by es) (Changed (key drives name from) change ∷ []) → IsPart (database_deeds (key drives name from) (issued_by es)) (None ∷ Some change ∷ [])
    change_part change part =
        part_before (database_deeds (key drives name from) (issued_by es)) (None ∷ []) (Some change ∷ [])
        (subst (IsPart (database_deeds (key drives name from) (issued_by es))) (change_deeds change) (part_deeds (key drives name from) (issued_by es) (Changed (key drives name from) change ∷ []) part))

    alter_lies : (asked : Option PlanChange) → IsPart (issued_by es) (deeds (change_asked (host drives name) asked)) → Lies
    alter_lies None part = still_lies (none_keeps part)
    alter_lies (Some change) part = still_lies (one_keeps _ part (plan_keeps change))

    module _ (begun : MayHaveBegun one) where
      command_lies : (cmd : Command) → Asks one cmd → IsPart (issued_by es) (deeds (asked_by_line (host drives name) (Exec cmd))) → Lies
      command_lies (command.AddPlaces slices force count blocks) asks part =
          lie_changed drives name from lines h es course keep lie one left (AddPlaces (names_of (lines_asked (host drives name) slices)) count blocks) tt (made_part _ part)
          (λ places. more_made drives name one slices force count blocks places asks begun)
      command_lies (command.AddListed number force) asks part = lie_any drives name from lines h es course keep lie one (λ old next. inr (command.AddListed number force, asks, tt, begun))
      command_lies (command.DropPlaces slices true) asks part = absurd (keeps (record { command = command.DropPlaces slices true; asks = asks; takes = refl; begun = begun }))
      command_lies (command.DropPlaces slices false) asks part =
          lie_changed drives name from lines h es course keep lie one left (DropPlaces slices) tt (change_part _ part) (λ places. less_made drives name one slices false places asks begun)
      command_lies (command.Alter alteration) asks part = alter_lies (change_of alteration) part
      command_lies (command.Read volume at count) asks part = still_lies (none_keeps part)
      command_lies (command.Write volume at what) asks part = still_lies (one_keeps (Wrote (key drives name from) volume at (blocks_of what)) part (λ change same. absurd (cc (same))))
      command_lies (command.Print names) asks part = still_lies (none_keeps part)

      line_lies : (spelled : Line) → IsLine one.text spelled → IsPart (issued_by es) (deeds (asked_by_line (host drives name) spelled)) → Lies
      line_lies Boot is part = still_lies (none_keeps part)
      line_lies (Tab rows) is part = still_lies (none_keeps part)
      line_lies (Exec cmd) is part = command_lies cmd is part

    -- So it is of a line that wasn't told to have moved places.
    pub untold_lies : AreQuiet es ⊎ AreBegunBy one es → Lies
    untold_lies (inl quiet) = still_lies (quiet_keeps quiet)
    untold_lies (inr are) = by are.asks where
      by : AsksWords (host drives name) one.text are.ask ⊎ (are.ask ≡ Nothing) → Lies
      by (inl (inl none)) = still_lies (none_keeps (subst (λ (a : Ask). IsPart (issued_by es) (deeds a)) none.1 are.begins))
      by (inl (inr is)) = line_lies are.begun is.0 is.1 (subst (λ (a : Ask). IsPart (issued_by es) (deeds a)) is.2 are.begins)
      by (inr none) = still_lies (none_keeps (subst (λ (a : Ask). IsPart (issued_by es) (deeds a)) none are.begins))
