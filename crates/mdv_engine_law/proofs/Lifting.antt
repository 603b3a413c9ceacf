-- What goes on in a database goes on in the history.
use Rattle.std.proofs.Common.{◌≡◌, inl, inr, List, [], ◌∷◌, Option, Some, None, map, refl, sym, ◌∙◌, ap, subst}
use Rattle.mdv_databases.specs.Going.{GoOn, GoOnBy, with_events}
use Rattle.mdv_engine_law.specs.Below.{Identity, KeptOutside, Key, Tale, Change, Log, History, Deed, Event, Table, Happens, history_after_all, site_area, site_of}
use Rattle.mdv_store_law.specs.Log as log
use Rattle.mdv_store_law.specs.Log.{ChangesAlone, IsAskable, Issue}
use Rattle.mdv_store_law.specs.Machine.{AreAll, all_of}
use Rattle.mdv_store_law.specs.Part.{IsPart}
use Rattle.mdv_store_law.proofs.Issues.{asked_issued}
use Rattle.mdv_store_law.proofs.Parts.{part_mapped, part_of_part}
use Rattle.mdv_volumes.specs.Databases.{current_of}
use Rattle.mdv_volumes.specs.Happening.{IsIssue, begun_at, deed_of}
use Rattle.mdv_volumes.specs.HistoryLaws.{AreLater, IsAsked, IsLifted, IsReady as IsTableReady, identity_in, lifted}
use Rattle.mdv_volumes.proofs.Lifting.{databases_go, lifted_after, untold_by}
use Rattle.mdv_engine_law.specs.declared.host.Host.{Host}
use Rattle.mdv_engine_law.specs.Standing.{StandsAt, IsOfRun, Goes}
use Rattle.mdv_engine_law.proofs.Going.{AllAwake, happened, happened_stands}

-- where no creation is issued all are later ones
are_later : (es : List log.Event) → AreAll (log.IsIssue ChangesAlone) es → AreLater es
are_later [] is = tt
are_later (log.Issued identity ∷ es) is = absurd is.0
are_later (log.Writing mark asked before table ∷ es) is = (tt, are_later es is.1)
are_later (log.Written ∷ es) is = (tt, are_later es is.1)
are_later (log.Told which before ∷ es) is = (tt, are_later es is.1)
are_later (log.Placing places ∷ es) is = absurd is.0
are_later (log.Clearing ∷ es) is = absurd is.0
are_later (log.Gone ∷ es) is = (tt, are_later es is.1)

-- a log's events read and write no volume
pub lifted_awake : (host : Host) (key : Key) (identity : Identity) (es : List log.Event) (h : History) → AllAwake host h (lifted key identity es)
lifted_awake host key identity [] h = tt
lifted_awake host key identity (log.Issued other ∷ es) h = lifted_awake host key identity es h
lifted_awake host key identity (log.Writing mark asked before table ∷ es) h = (tt, lifted_awake host key identity es _)
lifted_awake host key identity (log.Written ∷ es) h = (tt, lifted_awake host key identity es _)
lifted_awake host key identity (log.Told which before ∷ es) h = (tt, lifted_awake host key identity es _)
lifted_awake host key identity (log.Placing places ∷ es) h = (tt, lifted_awake host key identity es _)
lifted_awake host key identity (log.Clearing ∷ es) h = (tt, lifted_awake host key identity es _)
lifted_awake host key identity (log.Gone ∷ es) h = (tt, lifted_awake host key identity es _)

-- and issue what those of the log do
lifted_issues : (Which : Issue → Type 0) (key : Key) (identity : Identity) (es : List log.Event) → AreAll (log.IsIssue Which) es → AreAll (IsIssue Which) (lifted key identity es)
lifted_issues Which key identity [] are = tt
lifted_issues Which key identity (log.Issued other ∷ es) are = lifted_issues Which key identity es are.1
lifted_issues Which key identity (log.Writing mark asked before table ∷ es) are = (are.0, lifted_issues Which key identity es are.1)
lifted_issues Which key identity (log.Written ∷ es) are = (tt, lifted_issues Which key identity es are.1)
lifted_issues Which key identity (log.Told which before ∷ es) are = (tt, lifted_issues Which key identity es are.1)
lifted_issues Which key identity (log.Placing places ∷ es) are = (are.0, lifted_issues Which key identity es are.1)
lifted_issues Which key identity (log.Clearing ∷ es) are = (are.0, lifted_issues Which key identity es are.1)
lifted_issues Which key identity (log.Gone ∷ es) are = (are.0, lifted_issues Which key identity es are.1)

-- where changes alone are issued they begin changes alone
changes_begun : (key : Key) (es : List log.Event) → AreAll (log.IsIssue ChangesAlone) es → all_of (begun_at key) es ≡ map (deed_of key) (log.begun_by es)
changes_begun key [] are = refl
changes_begun key (log.Issued identity ∷ es) are = absurd are.0
changes_begun key (log.Writing mark None before table ∷ es) are = changes_begun key es are.1
changes_begun key (log.Writing mark (Some change) before table ∷ es) are = ap (λ (l : List Deed). deed_of key (Some change) ∷ l) (changes_begun key es are.1)
changes_begun key (log.Written ∷ es) are = changes_begun key es are.1
changes_begun key (log.Told which before ∷ es) are = changes_begun key es are.1
changes_begun key (log.Placing places ∷ es) are = absurd are.0
changes_begun key (log.Clearing ∷ es) are = absurd are.0
changes_begun key (log.Gone ∷ es) are = changes_begun key es are.1

-- a table that a change makes was asked by one
pub asked_change : (es : List log.Event) (table : Table) → IsAsked es table → (change : Change) × IsPart (Some change ∷ []) (log.begun_by es)
asked_change [] table is = absurd is
asked_change (log.Issued identity ∷ es) table (inl is) = absurd is
asked_change (log.Issued identity ∷ es) table (inr is) = let rest = asked_change es table is in (rest.0, inr rest.1)
asked_change (log.Writing mark None before other ∷ es) table (inl is) = absurd is
asked_change (log.Writing mark None before other ∷ es) table (inr is) = asked_change es table is
asked_change (log.Writing mark (Some change) before other ∷ es) table (inl is) = (change, inl (refl, tt))
asked_change (log.Writing mark (Some change) before other ∷ es) table (inr is) = let rest = asked_change es table is in (rest.0, inr rest.1)
asked_change (log.Written ∷ es) table (inl is) = absurd is
asked_change (log.Written ∷ es) table (inr is) = asked_change es table is
asked_change (log.Told which before ∷ es) table (inl is) = absurd is
asked_change (log.Told which before ∷ es) table (inr is) = asked_change es table is
asked_change (log.Placing places ∷ es) table (inl is) = absurd is
asked_change (log.Placing places ∷ es) table (inr is) = asked_change es table is
asked_change (log.Clearing ∷ es) table (inl is) = absurd is
asked_change (log.Clearing ∷ es) table (inr is) = asked_change es table is
asked_change (log.Gone ∷ es) table (inl is) = absurd is
asked_change (log.Gone ∷ es) table (inr is) = asked_change es table is

-- so none is, where only a creation is asked, or nothing
pub never_asked : (es : List log.Event) (table : Table) → IsPart (log.begun_by es) (None ∷ []) → IsAsked es table → ⊥
never_asked es table within is = let asked = asked_change es table is in never (part_of_part (Some asked.0 ∷ []) (log.begun_by es) (None ∷ []) asked.1 within)
  where
    never : {change : Change} → IsPart (Some change ∷ []) (None ∷ []) → ⊥
    never (inl same) = cc (same.0)
    never (inr none) = none

-- What goes on in a key's database, where nothing is done outside the slices on which its boots look, and each table that a change makes is ready.
module _ (host : Host) (asks : List Deed) (Then : List Event → History → Type 0) where
  -- whatever its events issue, as long as it is what this run may, and they begin what is asked
  pub lift_events : (Which : Issue → Type 0) (key : Key) (identity : Identity) (asked : List (Option Change)) (After : Log → Type 0) (t m : Tale) → KeptOutside (site_area (site_of host.drives key)) t m
      → (h : History) → StandsAt host h t → (goes : GoOnBy Which host.drives h.databases key identity asked After m) → AreLater goes.es → AreAll (log.IsIssue (IsOfRun host asks)) goes.es → IsPart (all_of (begun_at key) goes.es) asks
      → ((table : Table) → IsAsked goes.es table → IsTableReady host.drives h key t table)
      → ((es : List Event) (g : History) → StandsAt host g m → g.databases ≡ with_events key goes.es h.databases → g.untold ≡ untold_by key goes.es h.untold → g.woken ≡ h.woken → g.up ≡ h.up → Then es g)
      → Goes host asks [] Then m h
  lift_events Which key identity asked After t m kept h stands goes later issued within ready then =
      let is : IsLifted host.drives h key goes.es m = databases_go host.drives h key identity goes.es t m stands goes.its later goes.course goes.stand kept ready in
      let name = identity_in (current_of h.databases key) in
      let events = lifted key name goes.es in
      let issues : AreAll (IsIssue (IsOfRun host asks)) events = lifted_issues (IsOfRun host asks) key name goes.es issued in
      let begun = all_of (begun_at key) goes.es in
      let tells = is.happens.tells ∙ ap (map (deed_of key)) goes.come.tells in
      let happens : Happens host.drives h events begun [] m = record { course = is.happens.course; begins = is.happens.begins; tells = tells; stands = is.happens.stands } in
      let after = lifted_after key h name goes.es later in
      happened host asks begun [] m h events happens issues Then (lifted_awake host key name goes.es h) within
      (then events (history_after_all h events) (happened_stands host asks begun [] m h events happens issues) (ap (λ (x : History). x.databases) after) (ap (λ (x : History). x.untold) after) is.woken is.up)

  -- where changes alone are issued
  pub lift_log : (key : Key) (identity : Identity) (asked : List (Option Change)) (After : Log → Type 0) (t m : Tale) → KeptOutside (site_area (site_of host.drives key)) t m → IsPart (map (deed_of key) asked) asks → AreAll (IsAskable (IsOfRun host asks)) asked
      → (h : History) → StandsAt host h t → (goes : GoOn host.drives h.databases key identity asked After m)
      → ((table : Table) → IsAsked goes.es table → IsTableReady host.drives h key t table)
      → ((es : List Event) (g : History) → StandsAt host g m → g.databases ≡ with_events key goes.es h.databases → g.woken ≡ h.woken → g.up ≡ h.up → Then es g)
      → Goes host asks [] Then m h
  lift_log key identity asked After t m kept within may h stands goes ready then =
      let begun = all_of (begun_at key) goes.es in
      let changes : begun ≡ map (deed_of key) (log.begun_by goes.es) = changes_begun key goes.es goes.come.issues in
      lift_events ChangesAlone key identity asked After t m kept h stands goes (are_later goes.es goes.come.issues) (asked_issued (IsOfRun host asks) asked [] goes.es goes.come may)
      (part_of_part begun (map (deed_of key) asked) asks (subst (λ (l : List Deed). IsPart l (map (deed_of key) asked)) (sym changes) (part_mapped (deed_of key) (log.begun_by goes.es) asked goes.come.begins)) within) ready (λ es g there databases untold. then es g there databases)
