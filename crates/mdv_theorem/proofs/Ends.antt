-- Whether lines may have taken a volume away: one of them began an end of its database, or a change by which the volume goes, or none did.
use Rattle.std.proofs.Common.{◌≡◌, ◌⊎◌, ◌==◌, inl, inr, true, false, Bool, ℕ, List, [], ◌∷◌, ◌++◌, flat_map, map, Contains, Option, Some, None, refl, sym, ap, subst}
use Rattle.std.proofs.lemmas.List.Elements.{Contains-append_cases, Contains-append_left, Contains-append_right}
use Rattle.mdv_base.specs.declared.name.Key.{Key}
use Rattle.mdv_base.specs.declared.name.Key.TheVariants.{Local}
use Rattle.mdv_base.specs.declared.name.Named.{Named}
use Rattle.mdv_base.specs.declared.name.Named.TheVariants as named
use Rattle.mdv_base.specs.declared.name.VolId.{VolId}
use Rattle.mdv_change.specs.declared.change.Change.{Change as PlanChange}
use Rattle.mdv_change.specs.declared.change.Change.TheVariants.{AddRow, Clear, ClearAll, ClearBelow, MakeStripe}
use Rattle.mdv_databases.proofs.Lists.{key_differs, key_is}
use Rattle.mdv_engine_law.specs.Altering.{Alters}
use Rattle.mdv_engine_law.specs.Hosts.{key_of}
use Rattle.mdv_engine_law.specs.declared.host.Host.{Host}
use Rattle.mdv_growing_law.specs.Going.{Clears}
use Rattle.mdv_name.specs.declared.geometry.Geometry.{Geometry}
use Rattle.mdv_remake.specs.Asked.{clearing_of, row_of, volume_named}
use Rattle.mdv_shelf.proofs.Blocks.{both_ways}
use Rattle.mdv_standing.specs.Databases.{same_key}
use Rattle.mdv_store_law.specs.Changes.{AddListed, AddPlaces, Change, DropPlaces, FirstPlace, OfPlan}
use Rattle.mdv_store_law.specs.Log.{IsAskable}
use Rattle.mdv_tab.specs.declared.entry.Entry.{Entry}
use Rattle.mdv_tab.specs.declared.entry.Entry.TheVariants as entry
use Rattle.mdv_volumes.specs.Happening.{issued_by}
use Rattle.mdv_volumes.specs.History.{Changed, Created, Deed, Deleted, Event, History, Saw, Wrote}
use Rattle.mdv_volumes.specs.HistoryLaws.{KeepDatabase, KeepVolume}
use Rattle.mdv_volumes.proofs.Lists.{contains_behind, contains_first, first_or_behind}
use Rattle.mdv_volumes.proofs.Made.{VolumeStays}
use Rattle.mdv_volumes.proofs.Maps.{number_differs, number_is}
use Rattle.mdv_words.proofs.Form.{commands_are_in_form}
use Rattle.mdv_words.specs.Line.{IsInForm, is_built}
use Rattle.mdv_words.specs.declared.command.Alteration.{Alteration}
use Rattle.mdv_words.specs.declared.command.Alteration.TheVariants as alter
use Rattle.mdv_words.specs.declared.command.Command.{Command}
use Rattle.mdv_words.specs.declared.command.Command.TheVariants as command
use Rattle.mdv_theorem.specs.Exchanges.{Exchange}
use Rattle.mdv_theorem.specs.Words.{Clears as IsCleared, MayTakeAway, MayTakeDatabase, TakesAway, TakesDatabase}
use Rattle.mdv_theorem.proofs.Leading.{IsLed, Which, led_begins}
use Rattle.mdv_theorem.proofs.Lined.{AreLined, lined_begins}
use Rattle.mdv_theorem.proofs.Lines.{MayAlter, MayBegin, never_in, the_only}

-- with its database each volume goes
takes_away : (volume : VolId) (its : Command) → TakesDatabase its → TakesAway volume its
takes_away volume (command.AddPlaces slices force count blocks) takes = takes
takes_away volume (command.AddListed number force) takes = takes
takes_away volume (command.DropPlaces slices force) takes = takes
takes_away volume (command.Alter alteration) takes = absurd takes
takes_away volume (command.Read other at count) takes = takes
takes_away volume (command.Write other at what) takes = takes
takes_away volume (command.Print names) takes = takes

pub taken_away : (volume : VolId) (one : Exchange) → MayTakeDatabase one → MayTakeAway volume one
taken_away volume one may = record { command = may.command; asks = may.asks; takes = takes_away volume may.command may.takes; begun = may.begun }

module _ (volume : VolId) where
  -- the volumes among names
  named_has : (names : List Named) → Contains (flat_map volume_named names) volume → Contains names (named.Volume volume)
  named_has [] has = absurd (never_in volume has)
  named_has (name ∷ names) has = elim (Contains-append_cases (volume_named name) (flat_map volume_named names) volume has) [
    | inl here ↦ by name here
    | inr behind ↦ contains_behind name (named.Volume volume) names (named_has names behind)
  ] where
    by : (first : Named) → Contains (volume_named first) volume → Contains (first ∷ names) (named.Volume volume)
    by (named.Volume other) at = subst (λ (v : VolId). Contains (named.Volume other ∷ names) (named.Volume v)) (the_only other volume at) (contains_first (named.Volume other) names)
    by (named.Pool pool) at = absurd (never_in volume at)

  clearing_has : (names : List Named) (below : Bool) → Clears (clearing_of names below) volume → Contains names (named.Volume volume)
  clearing_has names false has = named_has names has
  clearing_has names true has = named_has names has

  -- a change by which the volume goes is asked by an alteration that clears it
  entry_never : (its : Entry) → is_built its ≡ true → (change : PlanChange) → Alters (alter.Make its) change → Clears change volume → ⊥
  entry_never (entry.Stripe name rows pool) built change alters clears = (let asked : MakeStripe name.volume (map row_of rows) pool ≡ change = cc alters in subst (λ (c : PlanChange). Clears c volume) (sym asked) clears)
  entry_never (entry.Mirror name submirrors options pass) built change alters clears = cc built
  entry_never (entry.Raid name columns options) built change alters clears = cc built
  entry_never (entry.Soft name base room) built change alters clears = cc built
  entry_never (entry.Pool name slices) built change alters clears = cc built
  entry_never (entry.Replicas number options slices) built change alters clears = cc built

  -- so the line that may have begun it may have taken the volume away
  pub altered_takes : (one : Exchange) (change : PlanChange) → MayAlter change one → Clears change volume → MayTakeAway volume one
  altered_takes one change may clears = record { command = command.Alter may.alteration; asks = may.asks; takes = by may.alteration may.alters (commands_are_in_form one.text (command.Alter may.alteration) may.asks.1); begun = may.begun } where
    by : (alteration : Alteration) → Alters alteration change → IsInForm (command.Alter alteration) → IsCleared volume alteration
    by (alter.Make its) alters form = entry_never its form.0 change alters clears
    by (alter.Attach other row) alters form = (let asked : AddRow other (row_of row) ≡ change = cc alters in subst (λ (c : PlanChange). Clears c volume) (sym asked) clears)
    by (alter.Clear names below) alters form = (let asked : clearing_of names below ≡ change = cc alters in clearing_has names below (subst (λ (c : PlanChange). Clears c volume) (sym asked) clears))
    by alter.ClearAll alters form = tt

  -- whether a change takes it away
  in_or_out : (volumes : List VolId) → Contains volumes volume ⊎ (Contains volumes volume → ⊥)
  in_or_out [] = inr (λ has. never_in volume has)
  in_or_out (first ∷ volumes) = by (both_ways (first.0 == volume.0)) (in_or_out volumes) where
    by : (first.0 == volume.0 ≡ true) ⊎ (first.0 == volume.0 ≡ false) → Contains volumes volume ⊎ (Contains volumes volume → ⊥) → Contains (first ∷ volumes) volume ⊎ (Contains (first ∷ volumes) volume → ⊥)
    by (inl does) rest = inl (subst (λ (v : VolId). Contains (first ∷ volumes) v) (number_is first volume does) (contains_first first volumes))
    by (inr never) (inl behind) = inl (contains_behind first volume volumes behind)
    by (inr never) (inr out) = inr (λ has. elim (first_or_behind first volume volumes has) [ inl same ↦ number_differs first volume never same | inr behind ↦ out behind ])

  clears_or_not : (change : PlanChange) → Clears change volume ⊎ (Clears change volume → ⊥)
  clears_or_not (Clear volumes pools) = in_or_out volumes
  clears_or_not (ClearBelow volumes pools) = in_or_out volumes
  clears_or_not ClearAll = inl tt
  clears_or_not _ = inr (λ clears. clears)

module _ (key : Key) where
  is_end : (deed : Deed) → (deed ≡ Deleted key) ⊎ (deed ≡ Deleted key → ⊥)
  is_end (Created other) = inr (λ same. absurd (cc (same)))
  is_end (Changed other change) = inr (λ same. absurd (cc (same)))
  is_end (Deleted other) = elim (both_ways (same_key key other)) [
    | inl does ↦ inl (ap (λ (k : Key). Deleted k) (sym (key_is key other does)))
    | inr never ↦ inr (λ same. (let is : other ≡ key = cc (same) in key_differs key other never (sym is)))
  ]
  is_end (Wrote other volume at blocks) = inr (λ same. absurd (cc (same)))
  is_end (Saw other volume at blocks) = inr (λ same. absurd (cc (same)))

  pub ends_or_keeps : (deeds : List Deed) → Contains deeds (Deleted key) ⊎ (Contains deeds (Deleted key) → ⊥)
  ends_or_keeps [] = inr (λ has. never_in (Deleted key) has)
  ends_or_keeps (deed ∷ deeds) = by (is_end deed) (ends_or_keeps deeds) where
    by : (deed ≡ Deleted key) ⊎ (deed ≡ Deleted key → ⊥) → Contains deeds (Deleted key) ⊎ (Contains deeds (Deleted key) → ⊥) → Contains (deed ∷ deeds) (Deleted key) ⊎ (Contains (deed ∷ deeds) (Deleted key) → ⊥)
    by (inl same) rest = inl (subst (λ (d : Deed). Contains (deed ∷ deeds) d) same (contains_first deed deeds))
    by (inr differs) (inl behind) = inl (contains_behind deed (Deleted key) deeds behind)
    by (inr differs) (inr keeps) = inr (λ has. elim (first_or_behind deed (Deleted key) deeds has) [ inl same ↦ differs same | inr behind ↦ keeps behind ])

  -- the same of a change by which the volume goes
  module _ (volume : VolId) where
    abbrev IsChange : Deed → Type 0
    IsChange deed = (change : PlanChange) × (deed ≡ Changed key (OfPlan change)) × Clears change volume

    planned : (other : Key) (change : PlanChange) → IsChange (Changed other (OfPlan change)) ⊎ (IsChange (Changed other (OfPlan change)) → ⊥)
    planned other change = by (both_ways (same_key key other)) (clears_or_not volume change) where
      parts : (asked : PlanChange) → Changed other (OfPlan change) ≡ Changed key (OfPlan asked) → (other ≡ key) × (change ≡ asked)
      parts asked same =
          let first : other ≡ key = cc same in
          let its : OfPlan change ≡ OfPlan asked = cc same in
          let one : change ≡ asked = cc its in
          (first, one)

      by : (same_key key other ≡ true) ⊎ (same_key key other ≡ false) → Clears change volume ⊎ (Clears change volume → ⊥) → IsChange (Changed other (OfPlan change)) ⊎ (IsChange (Changed other (OfPlan change)) → ⊥)
      by (inl does) (inl clears) = inl (change, ap (λ (k : Key). Changed k (OfPlan change)) (sym (key_is key other does)), clears)
      by (inl does) (inr stays) = inr (λ is. stays (subst (λ (c : PlanChange). Clears c volume) (sym (parts is.0 is.1).1) is.2))
      by (inr never) its = inr (λ is. key_differs key other never (sym (parts is.0 is.1).0))

    is_change : (deed : Deed) → IsChange deed ⊎ (IsChange deed → ⊥)
    is_change (Created other) = inr (λ is. (let same = is.1 in cc same))
    is_change (Changed other (OfPlan change)) = planned other change
    is_change (Changed other (AddPlaces slices count blocks)) = inr (λ is. (let same = is.1 in cc same))
    is_change (Changed other (AddListed number)) = inr (λ is. (let same = is.1 in cc same))
    is_change (Changed other (DropPlaces slices)) = inr (λ is. (let same = is.1 in cc same))
    is_change (Changed other FirstPlace) = inr (λ is. (let same = is.1 in cc same))
    is_change (Deleted other) = inr (λ is. (let same = is.1 in cc same))
    is_change (Wrote other beside at blocks) = inr (λ is. (let same = is.1 in cc same))
    is_change (Saw other beside at blocks) = inr (λ is. (let same = is.1 in cc same))

    abbrev HaveChange : List Deed → Type 0
    HaveChange deeds = (change : PlanChange) × Contains deeds (Changed key (OfPlan change)) × Clears change volume

    clears_or_keeps : (deeds : List Deed) → HaveChange deeds ⊎ (HaveChange deeds → ⊥)
    clears_or_keeps [] = inr (λ has. never_in (Changed key (OfPlan has.0)) has.1)
    clears_or_keeps (deed ∷ deeds) = by (is_change deed) (clears_or_keeps deeds) where
      by : IsChange deed ⊎ (IsChange deed → ⊥) → HaveChange deeds ⊎ (HaveChange deeds → ⊥) → HaveChange (deed ∷ deeds) ⊎ (HaveChange (deed ∷ deeds) → ⊥)
      by (inl is) rest = inl (is.0, subst (λ (d : Deed). Contains (deed ∷ deeds) d) is.1 (contains_first deed deeds), is.2)
      by (inr differs) (inl behind) = inl (behind.0, contains_behind deed (Changed key (OfPlan behind.0)) deeds behind.1, behind.2)
      by (inr differs) (inr keeps) = inr (λ has. elim (first_or_behind deed (Changed key (OfPlan has.0)) deeds has.1) [ inl same ↦ differs (has.0, same, has.2) | inr behind ↦ keeps (has.0, behind, has.2) ])

    -- Of events that begin no more than lines may have begun: one of these lines may have taken the volume away, or they keep it, and its database.
    module _ (IsOne : Exchange → Type 0) (es : List Event) (begins : (deed : Deed) → Contains (issued_by es) deed → (one : Exchange) × IsOne one × MayBegin key deed one) where
      abbrev Takes : Type 0
      Takes = (one : Exchange) × IsOne one × MayTakeAway volume one

      by_end : Contains (issued_by es) (Deleted key) → Takes
      by_end has = (let begun = begins (Deleted key) has in (begun.0, begun.1, taken_away volume begun.0 begun.2))

      by_change : HaveChange (issued_by es) → Takes
      by_change has = (let begun = begins (Changed key (OfPlan has.0)) has.1 in (begun.0, begun.1, altered_takes volume begun.0 has.0 begun.2 has.2))

      pub takes_or_keeps : Takes ⊎ (KeepDatabase key es × KeepVolume key volume es)
      takes_or_keeps = elim (ends_or_keeps (issued_by es)) [
        | inl ends ↦ inl (by_end ends)
        | inr lives ↦ elim (clears_or_keeps (issued_by es)) [
          | inl clears ↦ inl (by_change clears)
          | inr keeps ↦ inr (lives, λ change has clears. keeps (change, has, clears))
        ]
      ]

-- one of these lines may have taken the volume away
abbrev pub TakeVolume : VolId → List Exchange → Type 0
TakeVolume volume lines = (one : Exchange) × Contains lines one × MayTakeAway volume one

-- one of more lines
pub take_before : (volume : VolId) (lines more : List Exchange) → TakeVolume volume lines → TakeVolume volume (lines ++ more)
take_before volume lines more takes = (takes.0, Contains-append_left lines more takes.0 takes.1, takes.2)

pub take_behind : (volume : VolId) (lines more : List Exchange) → TakeVolume volume more → TakeVolume volume (lines ++ more)
take_behind volume lines more takes = (takes.0, Contains-append_right lines more takes.0 takes.1, takes.2)

pub lined_keeps : (drives : Geometry) (name : List ℕ) (volume : VolId) (lines : List Exchange) (es : List Event) → AreLined drives name lines es → TakeVolume volume lines ⊎ (KeepDatabase (Local name) es × KeepVolume (Local name) volume es)
lined_keeps drives name volume lines es are = takes_or_keeps (Local name) volume (Contains lines) es (lined_begins drives name lines es are)

-- and of a line that was answered
pub led_keeps : (host : Host) (volume : VolId) (one : Exchange) (h g : History) (led : IsLed host one h g) → MayTakeAway volume one ⊎ (KeepDatabase (key_of host) led.es × KeepVolume (key_of host) volume led.es)
led_keeps host volume one h g led = elim (takes_or_keeps (key_of host) volume (λ (other : Exchange). other ≡ one) led.es (λ deed has. (one, refl, led_begins host one h g led deed has))) [
  | inl takes ↦ inl (subst (MayTakeAway volume) takes.1 takes.2)
  | inr keeps ↦ inr keeps
]

-- what a line that can't have taken the volume away may have begun leaves the volume
pub begun_stays : (host : Host) (volume : VolId) (one : Exchange) → (MayTakeAway volume one → ⊥) → (asked : Option Change) → IsAskable (Which host (λ (deed : Deed). MayBegin (key_of host) deed one)) asked → IsAskable (VolumeStays volume) asked
begun_stays host volume one never None may = tt
begun_stays host volume one never (Some (OfPlan change)) may = λ clears. never (altered_takes volume one change may clears)
begun_stays host volume one never (Some (AddPlaces slices count blocks)) may = tt
begun_stays host volume one never (Some (AddListed number)) may = tt
begun_stays host volume one never (Some (DropPlaces slices)) may = tt
begun_stays host volume one never (Some FirstPlace) may = tt

-- and nothing does
pub none_stays : (host : Host) (volume : VolId) (asked : Option Change) → IsAskable (Which host (λ (deed : Deed). ⊥)) asked → IsAskable (VolumeStays volume) asked
none_stays host volume None may = tt
none_stays host volume (Some change) may = absurd may
