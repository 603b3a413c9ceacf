-- A line that was told to be done with a volume found it in the open table, which is one that the lines before may have made; and one that was told to have made a volume found none of its name there.
use Rattle.std.proofs.Common.{◌≡◌, inl, inr, ℕ, ◌||◌, Bool, true, false, not, is_none, is_some, flat_map, length, List, [], ◌∷◌, ◌++◌, map, Option, None, Some, Contains, refl, sym, ◌∙◌, ap, subst}
use Rattle.std.proofs.lemmas.Bool.{false≢true, or_parts}
use Rattle.std.proofs.lemmas.List.Elements.{Contains-append_right}
use Rattle.std.specs.List.{list_any}
use Rattle.mdv_base.specs.Order.{first_refusal, where_so}
use Rattle.mdv_base.specs.declared.drive.DriveNo.{DriveNo}
use Rattle.mdv_base.specs.declared.name.Named.{Named}
use Rattle.mdv_base.specs.declared.name.Named.TheVariants as named
use Rattle.mdv_base.specs.declared.name.VolId.{VolId}
use Rattle.mdv_base.specs.declared.refusal.Refusal.TheVariants.{NoSuchPool, NoSuchVolume}
use Rattle.mdv_change.specs.Change.{condition, refusal_of as refused_by, row_behind}
use Rattle.mdv_change.specs.Clear.{is_no_volume}
use Rattle.mdv_change.specs.declared.change.Change.{Change as PlanChange}
use Rattle.mdv_change.specs.declared.change.Change.TheVariants.{AddRow, MakeStripe}
use Rattle.mdv_components.proofs.Causes.{is_none as none_is}
use Rattle.mdv_components.specs.Bases.{is_missing, volume_of}
use Rattle.mdv_components.specs.declared.cause.Cause.TheVariants as reason
use Rattle.mdv_config.specs.Table.{IsOfGeometry}
use Rattle.mdv_engine_law.proofs.Allowed.{none_passes}
use Rattle.mdv_engine_law.specs.Altering.{Alters, change_of}
use Rattle.mdv_engine_law.specs.Commands.{Effect, IsAllowed, case_of}
use Rattle.mdv_engine_law.specs.Refusals.{held_of_alteration, held_of_print, names_no_volume, names_pool}
use Rattle.mdv_engine_law.specs.Replies.{ok_line}
use Rattle.mdv_engine_law.specs.declared.host.Host.{Host}
use Rattle.mdv_keeping.proofs.Unrefused.{unrefused}
use Rattle.mdv_map.specs.Maps.{Map}
use Rattle.mdv_name.specs.declared.geometry.Geometry.{Geometry}
use Rattle.mdv_plan.specs.declared.plan.Plan.{Plan}
use Rattle.mdv_plan.specs.declared.table.Table.{Table}
use Rattle.mdv_plan.specs.declared.volume.Volume.{Volume as OneVolume}
use Rattle.mdv_port.specs.Script.{Script}
use Rattle.mdv_remake.specs.Asked.{clearing_of, row_of, volume_named}
use Rattle.mdv_run_law.specs.Lives.{Ran, host_of}
use Rattle.mdv_status.specs.Values.{values_reply}
use Rattle.mdv_store.specs.Opened.{Opened}
use Rattle.mdv_tab.specs.declared.entry.Entry.{Entry}
use Rattle.mdv_tab.specs.declared.entry.Entry.TheVariants as entry
use Rattle.mdv_volumes.proofs.Lists.{contains_first, first_or_behind}
use Rattle.mdv_volumes.proofs.Maps.{found_has}
use Rattle.mdv_volumes.proofs.Tables.{tables_lie}
use Rattle.mdv_volumes.specs.Tables.{IsMapOf}
use Rattle.mdv_words.specs.declared.command.Alteration.{Alteration}
use Rattle.mdv_words.specs.declared.command.Alteration.TheVariants.{Attach, Clear, ClearAll, Make}
use Rattle.mdv_words.specs.declared.command.Command.{Command}
use Rattle.mdv_words.specs.declared.command.Command.TheVariants.{AddListed, AddPlaces, Alter, DropPlaces, Print, Read, Write}
use Rattle.mdv_run_law.specs.Below.{meant}
use Rattle.mdv_theorem.specs.Exchanges.{Asks, Exchange, IsGranted, IsTold, exchanges_by, volume_in}
use Rattle.mdv_theorem.specs.Going.{IsChangeOf, NamesAreFree, NeedsVolume, VolumesGo}
use Rattle.mdv_theorem.specs.Running.{Running}
use Rattle.mdv_theorem.specs.Words.{MayHave, MayLie}
use Rattle.mdv_theorem.proofs.Altered.{altered_free, asks_built}
use Rattle.mdv_theorem.proofs.Levels.{levels_have}
use Rattle.mdv_theorem.proofs.Lines.{never_in}
use Rattle.mdv_theorem.proofs.Lying.{lies_there, table_there}
use Rattle.mdv_theorem.proofs.Reaching.{bare}
use Rattle.mdv_theorem.proofs.Starting.{Starts, starts}
use Rattle.mdv_theorem.proofs.Steps.{Reached, reached_from}
use Rattle.mdv_theorem.proofs.Sure.{sure_table}
use Rattle.mdv_theorem.proofs.Tables.{granted_done}

-- each volume of a table has a map
has_map : (g : Geometry) (t : Table) (volume : VolId) → IsOfGeometry g t → (volume_of t.plan volume ≡ None → ⊥) → (v : Map) × IsMapOf g t volume v
has_map g t volume is never = by (volume_of t.plan volume) refl where
  by : (o : Option OneVolume) → volume_of t.plan volume ≡ o → (v : Map) × IsMapOf g t volume v
  by None none = absurd (never none)
  by (Some of) found =
      let has = found_has t.plan volume of found in
      let its = tables_lie.some g t of is has.0 in
      (its.0, subst (λ (w : VolId). IsMapOf g t w its.0) has.1 its.1)

-- a volume that is named is one of those named
volume_in_names : (names : List Named) (volume : VolId) → Contains names (named.Volume volume) → Contains (flat_map volume_named names) volume
volume_in_names [] volume has = absurd (never_in (named.Volume volume) has)
volume_in_names (n ∷ names) volume has = elim (first_or_behind n (named.Volume volume) names has) [
  | inl here ↦ subst (λ (m : Named). Contains (volume_named m ++ flat_map volume_named names) volume) (sym here) (contains_first volume (flat_map volume_named names))
  | inr behind ↦ Contains-append_right (volume_named n) (flat_map volume_named names) volume (volume_in_names names volume behind)
]

module _ (g : Geometry) (drives : List DriveNo) (t : Table) (volume : VolId) where
  -- it isn't missing, where nothing refuses the clearing
  clearing_finds : (names : List Named) (below : Bool) → Contains names (named.Volume volume) → condition g drives t (clearing_of names below) reason.NoSuchVolume ≡ false → is_no_volume t.plan volume ≡ false
  clearing_finds names below has = by below where
    its : Contains (flat_map volume_named names) volume
    its = volume_in_names names volume has

    by : (with_them : Bool) → condition g drives t (clearing_of names with_them) reason.NoSuchVolume ≡ false → is_no_volume t.plan volume ≡ false
    by false none = none_passes (is_no_volume t.plan) (flat_map volume_named names) none volume its
    by true none = none_passes (is_no_volume t.plan) (flat_map volume_named names) (levels_have t.plan (flat_map volume_named names) none) volume its

  -- nor where nothing refuses the change that a line asks of it
  change_finds : (alteration : Alteration) (change : PlanChange) → Alters alteration change → IsChangeOf volume alteration → condition g drives t change reason.NoSuchVolume ≡ false → is_no_volume t.plan volume ≡ false
  change_finds (Make its) change alters of there = absurd of
  change_finds (Attach other row) change alters of there =
      let asked : AddRow other (row_of row) ≡ change = cc alters in
      let its : (is_no_volume t.plan other || list_any (is_missing t.plan) (row_of row).components) ≡ false = subst (λ (c : PlanChange). condition g drives t c reason.NoSuchVolume ≡ false) (sym asked) there in
      subst (λ (w : VolId). is_no_volume t.plan w ≡ false) of (or_parts (is_no_volume t.plan other) (list_any (is_missing t.plan) (row_of row).components) its).0
  change_finds (Clear names below) change alters of there =
      let asked : clearing_of names below ≡ change = cc alters in
      clearing_finds names below of (subst (λ (c : PlanChange). condition g drives t c reason.NoSuchVolume ≡ false) (sym asked) there)
  change_finds ClearAll change alters of there = absurd of

  -- and where nothing refuses that it is made there is none yet
  entry_frees : (its : Entry) (change : PlanChange) → Alters (Make its) change → volume_in its ≡ Some volume → condition g drives t change reason.NameTaken ≡ false → volume_of t.plan volume ≡ None
  entry_frees (entry.Stripe name rows pool) change alters makes free =
      let asked : MakeStripe name.volume (map row_of rows) pool ≡ change = cc alters in
      let same : name.volume ≡ volume = cc makes in
      let its : is_some (volume_of t.plan name.volume) ≡ false = subst (λ (c : PlanChange). condition g drives t c reason.NameTaken ≡ false) (sym asked) free in
      none_is (volume_of t.plan volume) (subst (λ (w : VolId). is_some (volume_of t.plan w) ≡ false) same its)
  entry_frees (entry.Mirror name submirrors options pass) change alters makes free = absurd (cc makes)
  entry_frees (entry.Raid name columns options) change alters makes free = absurd (cc makes)
  entry_frees (entry.Soft name base room) change alters makes free = absurd (cc makes)
  entry_frees (entry.Pool name slices) change alters makes free = absurd (cc makes)
  entry_frees (entry.Replicas number options slices) change alters makes free = absurd (cc makes)

-- nor is a volume missing that is to be printed, where nothing refuses that
print_finds : (missing pools : Bool) → first_refusal (where_so missing NoSuchVolume ++ where_so pools NoSuchPool) ≡ None → missing ≡ false
print_finds false pools is = refl
print_finds true false is = absurd (cc is)
print_finds true true is = absurd (cc is)

-- the reply of a command that was granted
granted_reply : (one : Exchange) (command : Command) → IsGranted one command → (reply : List ℕ) × IsTold one reply
granted_reply one (AddPlaces slices force count blocks) granted = (ok_line, granted)
granted_reply one (AddListed number force) granted = (ok_line, granted)
granted_reply one (DropPlaces slices force) granted = (ok_line, granted)
granted_reply one (Alter alteration) granted = (ok_line, granted)
granted_reply one (Read volume at count) granted = (values_reply granted.0 granted.1, granted.2)
granted_reply one (Write volume at what) granted = (ok_line, granted)
granted_reply one (Print names) granted = (granted.0, granted.1)

-- Where a run has come to a line.
module _ (drives : Geometry) (name : List ℕ) (before : List Ran) (script : Script) (run : Running drives name before script) (here : List Exchange) (one : Exchange) (starts_so : Starts run) (at : Reached run starts_so.of here one) where
  abbrev host : Host
  host = host_of drives name run.fresh

  abbrev lines : List Exchange
  lines = exchanges_by name before ++ here

  abbrev LiesSo : VolId → Type 0
  LiesSo volume = (v : Map) × MayLie drives name volume v lines

  -- a volume of the open table lies as it may by the lines
  lies : (o : Opened) → at.kept.memory.opened ≡ Some o → (volume : VolId) → (volume_of o.table.plan volume ≡ None → ⊥) → LiesSo volume
  lies o opened volume never =
      let its = has_map host.drives o.table volume (sure_table host at.kept o at.sure opened) never in
      (its.0, lies_there run starts_so.of starts_so.accords.tables here one at volume o opened its.0 its.1)

  -- nothing refuses the alteration of the open table
  unheld : (alteration : Alteration) (o : Opened) → at.kept.memory.opened ≡ Some o → IsAllowed (case_of host at.kept) (Alter alteration) → first_refusal (held_of_alteration host (Some o) (change_of alteration)) ≡ None
  unheld alteration o opened free = subst (λ (x : Option Opened). first_refusal (held_of_alteration host x (change_of alteration)) ≡ None) opened free

  altered_finds : (volume : VolId) (alteration : Alteration) → Asks one (Alter alteration) → IsChangeOf volume alteration → (o : Opened) → at.kept.memory.opened ≡ Some o → IsAllowed (case_of host at.kept) (Alter alteration) → LiesSo volume
  altered_finds volume alteration asks of o opened free =
      let asked = asks_built one alteration asks in
      let may = altered_free host o one alteration asks (unheld alteration o opened free) in
      let there = (unrefused host.drives host.site.drives o.table asked.change may.0).there in
      let found = change_finds host.drives host.site.drives o.table volume alteration asked.change asked.alters of there in
      lies o opened volume (λ none. false≢true (sym found ∙ ap (λ (x : Option OneVolume). not (is_some x)) none))

  printed_finds : (volume : VolId) (names : List Named) → Contains names (named.Volume volume) → (o : Opened) → at.kept.memory.opened ≡ Some o → IsAllowed (case_of host at.kept) (Print names) → LiesSo volume
  printed_finds volume names has o opened free =
      let its = subst (λ (x : Option Opened). first_refusal (held_of_print x names) ≡ None) opened free in
      let none_missing = print_finds (list_any (names_no_volume o.table.plan) names) (list_any names_pool names) its in
      let found = none_passes (names_no_volume o.table.plan) names none_missing (named.Volume volume) has in
      lies o opened volume (λ none. false≢true (sym found ∙ ap is_none none))

  abbrev IsDone : Command → Type 0
  IsDone cmd = IsAllowed (case_of host at.kept) (meant at.kept.memory.entries cmd) × Effect at.calls host at.kept (meant at.kept.memory.entries cmd) at.answer at.next

  done_finds : (volume : VolId) (cmd : Command) → Asks one cmd → NeedsVolume volume cmd → IsDone cmd → LiesSo volume
  done_finds volume (AddPlaces slices force count blocks) asks needs does = absurd needs
  done_finds volume (AddListed number force) asks needs does = absurd needs
  done_finds volume (DropPlaces slices force) asks needs does = absurd needs
  done_finds volume (Alter alteration) asks needs (free, (ok, o, opened, made)) = altered_finds volume alteration asks needs o opened free
  done_finds volume (Read other from count) asks needs (free, (calm, v, there, blocks, many, seen, values, stays)) =
      (v, lies_there run starts_so.of starts_so.accords.tables here one at volume there.o there.opened v (subst (λ (w : VolId). IsMapOf host.drives there.o.table w v) needs there.lies))
  done_finds volume (Write other from what) asks needs (free, (calm, v, there, ok, memory, put)) =
      (v, lies_there run starts_so.of starts_so.accords.tables here one at volume there.o there.opened v (subst (λ (w : VolId). IsMapOf host.drives there.o.table w v) needs there.lies))
  done_finds volume (Print names) asks needs (free, (calm, o, opened, text, same)) = printed_finds volume names needs o opened free

  pub granted_finds : (volume : VolId) (command : Command) → Asks one command → NeedsVolume volume command → IsGranted one command → LiesSo volume
  granted_finds volume command asks needs granted = done_finds volume command asks needs (granted_done host at.calls at.kept at.next one at.answer at.comes at.said at.told command asks granted)

  pub made_new : (volume : VolId) (its : Entry) → Asks one (Alter (Make its)) → volume_in its ≡ Some volume → IsTold one ok_line → (table : Table) × MayHave drives name lines table × (volume_of table.plan volume ≡ None)
  made_new volume its asks makes ok = by (granted_done host at.calls at.kept at.next one at.answer at.comes at.said at.told (Alter (Make its)) asks ok) where
    by : IsDone (Alter (Make its)) → (table : Table) × MayHave drives name lines table × (volume_of table.plan volume ≡ None)
    by (free, (accepted, o, opened, made)) =
        let asked = asks_built one (Make its) asks in
        let may = altered_free host o one (Make its) asks (unheld (Make its) o opened free) in
        let unused = (unrefused host.drives host.site.drives o.table asked.change may.0).free in
        (bare o.table, table_there run starts_so.of starts_so.accords.tables here one at o opened, entry_frees host.drives host.site.drives o.table volume its asked.change asked.alters makes unused)

pub volumes_go : VolumesGo
volumes_go drives name before script of_table run one earlier volume command answered asks needs granted =
    let starts_so = starts drives name before script of_table run in
    let told = granted_reply one command granted in
    let at = reached_from run starts_so.of answered.here answered.later one told.0 answered.is told.1 in
    subst (λ (l : List Exchange). (v : Map) × MayLie drives name volume v l) (sym answered.behind) (granted_finds drives name before script run answered.here one starts_so at volume command asks needs granted)

pub names_are_free : NamesAreFree
names_are_free drives name before script of_table run one earlier volume its answered asks makes ok =
    let starts_so = starts drives name before script of_table run in
    let at = reached_from run starts_so.of answered.here answered.later one ok_line answered.is ok in
    subst (λ (l : List Exchange). (table : Table) × MayHave drives name l table × (volume_of table.plan volume ≡ None)) (sym answered.behind)
    (made_new drives name before script run answered.here one starts_so at volume its asks makes ok)
