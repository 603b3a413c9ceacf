-- The change that a line asks of volumes is one of those that the program makes; and where nothing refuses it, the table after it is a step of the open one.
use Rattle.std.proofs.Common.{◌≡◌, ◌&&◌, ◌||◌, nat_lt, not, ℕ, Bool, true, false, List, [], ◌∷◌, ◌++◌, map, Option, Some, None, All, refl, sym, ◌∙◌, ap, subst}
use Rattle.std.proofs.lemmas.Bool.{and_parts, ltb-true}
use Rattle.std.proofs.lemmas.List.{append-nil}
use Rattle.std.proofs.lemmas.List.Elements.{All-cons, All-head, All-nil, All-tail}
use Rattle.std.proofs.lemmas.List.Folds.{list_any-append}
use Rattle.std.specs.List.{list_all, list_any}
use Rattle.std.specs.Option.{is_none, is_some, option_map, option_or}
use Rattle.mdv_base.specs.Order.{first_refusal, where_so}
use Rattle.mdv_base.proofs.Order.{full_is_last}
use Rattle.mdv_base.specs.declared.drive.DriveNo.{DriveNo}
use Rattle.mdv_base.specs.declared.name.Named.{Named}
use Rattle.mdv_base.specs.declared.name.Named.TheVariants as named
use Rattle.mdv_base.specs.declared.name.VolId.{VolId}
use Rattle.mdv_base.specs.declared.refusal.Refusal.{Refusal}
use Rattle.mdv_base.specs.declared.refusal.Refusal.TheVariants.{ReplicaFull}
use Rattle.mdv_change.specs.Change.{carried, condition, refusal_of, table_after, with_changed}
use Rattle.mdv_change.specs.declared.change.Change.{Change as PlanChange}
use Rattle.mdv_change.specs.Clear.{is_no_volume}
use Rattle.mdv_change.specs.declared.change.Change.TheVariants.{AddRow, MakeStripe}
use Rattle.mdv_change.specs.declared.change.Change.TheVariants as change
use Rattle.mdv_components.specs.Bases.{is_missing, volume_of}
use Rattle.mdv_components.specs.Stripes.{all_bases}
use Rattle.mdv_components.specs.declared.asked.RowAsked.{RowAsked}
use Rattle.mdv_components.specs.Causes.{first_of, order, told}
use Rattle.mdv_components.specs.declared.cause.Carried.{Carried}
use Rattle.mdv_components.specs.declared.cause.Cause.{Cause}
use Rattle.mdv_components.specs.declared.cause.Cause.TheVariants.{BadInterlace, HasParent, LastCopy, NameTaken, Nested, NoSpace, NoSuchPool, NoSuchSlice, NoSuchVolume, SliceInUse, SpareInUse, TooFew, TooMany, TooSmall, WrongKind, WrongState}
use Rattle.mdv_config.specs.Table.{IsOfGeometry}
use Rattle.mdv_engine_law.specs.Altering.{Alters, change_of, table_by, table_where}
use Rattle.mdv_engine_law.specs.Refusals.{bytes_after, held_of_alteration, held_of_change, listed, told_by_table}
use Rattle.mdv_engine_law.specs.Hosts.{opened_area}
use Rattle.mdv_engine_law.specs.Line.{Memory, change_asked, record_room}
use Rattle.mdv_engine_law.specs.Standing.{WritesOnly}
use Rattle.mdv_shelf.specs.Area.{IsKept}
use Rattle.mdv_shelf.specs.Tale.{Tale}
use Rattle.mdv_engine_law.specs.declared.host.Host.{Host}
use Rattle.mdv_keeping.specs.Built.{IsBuilt, IsOfSlices, IsSlice, names_db}
use Rattle.mdv_keeping.specs.Keeping.{IsStepOf}
use Rattle.mdv_keeping.specs.Refused.{cause_with}
use Rattle.mdv_growing_law.proofs.Going.{maps_go}
use Rattle.mdv_map.specs.Maps.{Map}
use Rattle.mdv_name.specs.declared.geometry.Geometry.{Geometry}
use Rattle.mdv_parts.specs.declared.component.Component.{Component}
use Rattle.mdv_parts.specs.declared.component.Component.TheVariants.{Slice, Volume}
use Rattle.mdv_plan.specs.declared.plan.Plan.{Plan}
use Rattle.mdv_plan.specs.declared.table.Table.{Table}
use Rattle.mdv_plan.specs.declared.volume.Base.{Base}
use Rattle.mdv_plan.specs.declared.volume.Base.TheVariants as on
use Rattle.mdv_plan.specs.declared.volume.Volume.{Volume as OneVolume}
use Rattle.mdv_remake.specs.Asked.{base_of, clearing_of, is_few, is_short_row, is_within, row_of}
use Rattle.mdv_store.specs.Opened.{Opened}
use Rattle.mdv_tab.specs.declared.entry.Entry.{Entry}
use Rattle.mdv_tab.specs.declared.entry.Entry.TheVariants as entry
use Rattle.mdv_tab.specs.declared.entry.Row.{Row}
use Rattle.mdv_volumes.specs.Tables.{IsMapOf}
use Rattle.mdv_words.proofs.Form.{commands_are_in_form}
use Rattle.mdv_words.specs.Line.{IsInForm, is_built, is_of_slices, is_slice}
use Rattle.mdv_words.specs.declared.command.Alteration.{Alteration}
use Rattle.mdv_words.specs.declared.command.Alteration.TheVariants.{Attach, Clear, ClearAll, Make}
use Rattle.mdv_words.specs.declared.command.Command.TheVariants as command
use Rattle.mdv_theorem.specs.Exchanges.{Asks, Exchange, IsOf, Makes}
use Rattle.mdv_theorem.proofs.Levels.{levels_there}

-- rows of slices
slices_are : (components : List Component) → list_all is_slice components ≡ true → All IsSlice (map base_of components)
slices_are [] are = All-nil IsSlice
slices_are (Slice slice ∷ components) are = All-cons IsSlice (base_of (Slice slice)) (map base_of components) tt (slices_are components are)
slices_are (Volume volume ∷ components) are = absurd (cc are)

rows_are : (rows : List Row) → list_all is_of_slices rows ≡ true → All IsOfSlices (map row_of rows)
rows_are [] are = All-nil IsOfSlices
rows_are (row ∷ rows) are =
    let both = and_parts (is_of_slices row) (list_all is_of_slices rows) are in
    All-cons IsOfSlices (row_of row) (map row_of rows) (slices_are row.components both.0) (rows_are rows both.1)

-- what a line may ask is a change that is made
pub record AsksBuilt (alteration : Alteration) : Type 0 where
  pub change : PlanChange
  pub alters : Alters alteration change
  pub built : IsBuilt change

entry_built : (its : Entry) → is_built its ≡ true → is_within its ≡ true → AsksBuilt (Make its)
entry_built (entry.Stripe name rows None) is within =
    let parts = and_parts (is_none name.set) (list_all is_of_slices rows) is in
    let small = and_parts (nat_lt name.volume.0 8192) (is_few rows && list_all is_short_row rows) within in
    record { change = MakeStripe name.volume (map row_of rows) None; alters = refl; built = (ltb-true name.volume.0 8192 small.0, refl, rows_are rows parts.1) }
entry_built (entry.Stripe name rows (Some pool)) is within = absurd (let never = (and_parts (is_none name.set) false is).1 in cc never)
entry_built (entry.Mirror name submirrors options pass) is within = absurd (cc is)
entry_built (entry.Raid name columns options) is within = absurd (cc is)
entry_built (entry.Soft name base room) is within = absurd (cc is)
entry_built (entry.Pool name slices) is within = absurd (cc is)
entry_built (entry.Replicas number options slices) is within = absurd (cc is)

clearing_built : (names : List Named) (below : Bool) → IsBuilt (clearing_of names below)
clearing_built names false = tt
clearing_built names true = tt

pub form_built : (alteration : Alteration) → IsInForm (command.Alter alteration) → AsksBuilt alteration
form_built (Make its) form = entry_built its form.0 form.1
form_built (Attach volume row) form = record { change = AddRow volume (row_of row); alters = refl; built = slices_are row.components form.0 }
form_built (Clear names below) form = record { change = clearing_of names below; alters = refl; built = clearing_built names below }
form_built ClearAll form = record { change = change.ClearAll; alters = refl; built = tt }

-- it moves no place
changed_lists : (o : Option OneVolume) (t : Table) → (with_changed o t).plan.lists ≡ t.plan.lists
changed_lists None t = refl
changed_lists (Some v) t = refl

built_lists : (g : Geometry) (t : Table) (change : PlanChange) → IsBuilt change → (table_after g t change).plan.lists ≡ t.plan.lists
built_lists g t (MakeStripe volume rows pool) built = refl
built_lists g t (AddRow volume row) built = changed_lists _ t
built_lists g t (change.Clear volumes pools) built = refl
built_lists g t (change.ClearBelow volumes pools) built = refl
built_lists g t change.ClearAll built = refl
built_lists g t _ built = absurd built

pub lists_by : (g : Geometry) (alteration : Alteration) → IsInForm (command.Alter alteration) → (t : Table) → (table_by g alteration t).plan.lists ≡ t.plan.lists
lists_by g alteration form t = (let asked = form_built alteration form in ap (λ (change : Option PlanChange). (table_where g t change).plan.lists) asked.alters ∙ built_lists g t asked.change asked.built)

pub asks_built : (one : Exchange) (alteration : Alteration) → Asks one (command.Alter alteration) → AsksBuilt alteration
asks_built one alteration asks = form_built alteration (commands_are_in_form one.text (command.Alter alteration) asks.1)

-- behind the change that it asks the volume is there that it makes, or to which it adds a row
entry_there : (g : Geometry) (old next : Table) (volume : VolId) (its : Entry) → is_built its ≡ true → (change : PlanChange) → Alters (Make its) change → Makes volume (Make its) → IsStepOf g change old next → (v : Map) × IsMapOf g next volume v
entry_there g old next volume (entry.Stripe name rows pool) is change alters makes step =
    let asked : MakeStripe name.volume (map row_of rows) pool ≡ change = cc alters in
    let same : name.volume ≡ volume = cc makes in
    let anew = maps_go.made g name.volume (map row_of rows) pool old next (subst (λ (c : PlanChange). IsStepOf g c old next) (sym asked) step) in
    (anew.map, subst (λ (w : VolId). IsMapOf g next w anew.map) same anew.lies)
entry_there g old next volume (entry.Mirror name submirrors options pass) is change alters makes step = absurd (cc is)
entry_there g old next volume (entry.Raid name columns options) is change alters makes step = absurd (cc is)
entry_there g old next volume (entry.Soft name base room) is change alters makes step = absurd (cc is)
entry_there g old next volume (entry.Pool name slices) is change alters makes step = absurd (cc is)
entry_there g old next volume (entry.Replicas number options slices) is change alters makes step = absurd (cc is)

alteration_there : (g : Geometry) (old next : Table) (volume : VolId) (alteration : Alteration) → IsInForm (command.Alter alteration) → (change : PlanChange) → Alters alteration change → Makes volume alteration → IsStepOf g change old next → (v : Map) × IsMapOf g next volume v
alteration_there g old next volume (Make its) form change alters makes step = entry_there g old next volume its form.0 change alters makes step
alteration_there g old next volume (Attach other row) form change alters makes step =
    let asked : AddRow other (row_of row) ≡ change = cc alters in
    let grown = maps_go.grown g other (row_of row) old next (subst (λ (c : PlanChange). IsStepOf g c old next) (sym asked) step) in
    (grown.map, subst (λ (w : VolId). IsMapOf g next w grown.map) makes grown.lies)
alteration_there g old next volume (Clear names below) form change alters makes step = absurd makes
alteration_there g old next volume ClearAll form change alters makes step = absurd makes

pub made_there : (g : Geometry) (old next : Table) (volume : VolId) (one : Exchange) (alteration : Alteration) (asks : Asks one (command.Alter alteration)) → Makes volume alteration → IsStepOf g (asks_built one alteration asks).change old next → (v : Map) × IsMapOf g next volume v
made_there g old next volume one alteration asks makes step =
    let asked = asks_built one alteration asks in
    alteration_there g old next volume alteration (commands_are_in_form one.text (command.Alter alteration) asks.1) asked.change asked.alters makes step

-- none of the slices of the change that it asks is a volume that may be missing, nor is that to which it adds a row, or that it clears, where it is there
none_missing : (p : Plan) (bases : List Base) → All IsSlice bases → list_any (is_missing p) bases ≡ false
none_missing p [] are = refl
none_missing p (on.Slice slice ∷ bases) are = none_missing p bases (All-tail IsSlice (on.Slice slice) bases are)
none_missing p (on.Volume volume ∷ bases) are = absurd (All-head IsSlice (on.Volume volume) bases are)

rows_there : (p : Plan) (rows : List RowAsked) → All IsOfSlices rows → list_any (is_missing p) (all_bases rows) ≡ false
rows_there p [] are = refl
rows_there p (row ∷ rows) are =
    list_any-append (is_missing p) row.components (all_bases rows)
    ∙ (λ i. none_missing p row.components (All-head IsOfSlices row rows are) i || rows_there p rows (All-tail IsOfSlices row rows are) i)

entry_found : (g : Geometry) (drives : List DriveNo) (t : Table) (its : Entry) → is_built its ≡ true → (change : PlanChange) → Alters (Make its) change → IsBuilt change → condition g drives t change NoSuchVolume ≡ false
entry_found g drives t (entry.Stripe name rows pool) is change alters built =
    let asked : MakeStripe name.volume (map row_of rows) pool ≡ change = cc alters in
    let slices : IsBuilt (MakeStripe name.volume (map row_of rows) pool) = subst IsBuilt (sym asked) built in
    subst (λ (c : PlanChange). condition g drives t c NoSuchVolume ≡ false) asked (rows_there t.plan (map row_of rows) slices.2)
entry_found g drives t (entry.Mirror name submirrors options pass) is change alters built = absurd (cc is)
entry_found g drives t (entry.Raid name columns options) is change alters built = absurd (cc is)
entry_found g drives t (entry.Soft name base room) is change alters built = absurd (cc is)
entry_found g drives t (entry.Pool name slices) is change alters built = absurd (cc is)
entry_found g drives t (entry.Replicas number options slices) is change alters built = absurd (cc is)

-- nor is the one that is cleared alone
clearing_found : (g : Geometry) (drives : List DriveNo) (t : Table) (volume : VolId) (of : OneVolume) → volume_of t.plan volume ≡ Some of → (below : Bool) → condition g drives t (clearing_of (named.Volume volume ∷ []) below) NoSuchVolume ≡ false
clearing_found g drives t volume of there below = by below where
  alone : list_any (is_no_volume t.plan) (volume ∷ []) ≡ false
  alone = ap (λ (o : Option OneVolume). not (is_some o) || false) there

  by : (with_them : Bool) → condition g drives t (clearing_of (named.Volume volume ∷ []) with_them) NoSuchVolume ≡ false
  by false = alone
  by true = levels_there t.plan (volume ∷ []) alone

alteration_found : (g : Geometry) (drives : List DriveNo) (t : Table) (volume : VolId) (of : OneVolume) → volume_of t.plan volume ≡ Some of → (alteration : Alteration) → IsInForm (command.Alter alteration) → IsOf volume alteration
    → (change : PlanChange) → Alters alteration change → IsBuilt change → condition g drives t change NoSuchVolume ≡ false
alteration_found g drives t volume of there (Make its) form makes change alters built = entry_found g drives t its form.0 change alters built
alteration_found g drives t volume of there (Attach other row) form makes change alters built =
    let asked : AddRow other (row_of row) ≡ change = cc alters in
    let slices : IsBuilt (AddRow other (row_of row)) = subst IsBuilt (sym asked) built in
    let found : not (is_some (volume_of t.plan other)) ≡ false = ap (λ (v : VolId). not (is_some (volume_of t.plan v))) makes ∙ ap (λ (o : Option OneVolume). not (is_some o)) there in
    subst (λ (c : PlanChange). condition g drives t c NoSuchVolume ≡ false) asked (λ i. found i || none_missing t.plan (row_of row).components slices i)
alteration_found g drives t volume of there (Clear names below) form alone change alters built =
    let asked : clearing_of names below ≡ change = cc alters in
    let found : condition g drives t (clearing_of names below) NoSuchVolume ≡ false = subst (λ (l : List Named). condition g drives t (clearing_of l below) NoSuchVolume ≡ false) (sym alone) (clearing_found g drives t volume of there below) in
    subst (λ (c : PlanChange). condition g drives t c NoSuchVolume ≡ false) asked found
alteration_found g drives t volume of there ClearAll form never change alters built = absurd never

pub asked_found : (g : Geometry) (drives : List DriveNo) (t : Table) (volume : VolId) (of : OneVolume) → volume_of t.plan volume ≡ Some of → (one : Exchange) (alteration : Alteration) (asks : Asks one (command.Alter alteration)) → IsOf volume alteration
    → condition g drives t (asks_built one alteration asks).change NoSuchVolume ≡ false
asked_found g drives t volume of there one alteration asks makes =
    let asked = asks_built one alteration asks in
    alteration_found g drives t volume of there alteration (commands_are_in_form one.text (command.Alter alteration) asks.1) makes asked.change asked.alters asked.built

-- what a table says against a change is in the one order
told_alone : (its : Carried) (cause : Cause) → first_refusal (told its cause ∷ []) ≡ None → ⊥
told_alone its NoSuchVolume is = cc is
told_alone its NoSuchPool is = cc is
told_alone its NoSuchSlice is = cc is
told_alone its NameTaken is = cc is
told_alone its WrongKind is = cc is
told_alone its WrongState is = cc is
told_alone its LastCopy is = cc is
told_alone its TooFew is = cc is
told_alone its TooMany is = cc is
told_alone its BadInterlace is = cc is
told_alone its SliceInUse is = cc is
told_alone its HasParent is = cc is
told_alone its Nested is = cc is
told_alone its SpareInUse is = cc is
told_alone its TooSmall is = cc is
told_alone its NoSpace is = cc is

-- beside that it names a slice for replicas too
told_both : (its : Carried) (cause : Cause) → first_refusal (listed (cause_with (Some (told its cause)) true)) ≡ None → ⊥
told_both its NoSuchVolume is = cc is
told_both its NoSuchPool is = cc is
told_both its NoSuchSlice is = cc is
told_both its NameTaken is = cc is
told_both its WrongKind is = cc is
told_both its WrongState is = cc is
told_both its LastCopy is = cc is
told_both its TooFew is = cc is
told_both its TooMany is = cc is
told_both its BadInterlace is = cc is
told_both its SliceInUse is = cc is
told_both its HasParent is = cc is
told_both its Nested is = cc is
told_both its SpareInUse is = cc is
told_both its TooSmall is = cc is
told_both its NoSpace is = cc is

none_told : (its : Carried) (cause : Option Cause) (is_db : Bool) → first_refusal (listed (cause_with (option_map (told its) cause) is_db)) ≡ None → (option_map (told its) cause ≡ None) × (is_db ≡ false)
none_told its None false is = (refl, refl)
none_told its None true is = absurd (cc is)
none_told its (Some cause) false is = absurd (told_alone its cause is)
none_told its (Some cause) true is = absurd (told_both its cause is)

-- a record that is too long is told last
unheld : (held : List Refusal) (full : Bool) (bytes room : ℕ) → first_refusal (held ++ where_so full (ReplicaFull bytes room)) ≡ None → first_refusal held ≡ None
unheld held false bytes room is = subst (λ (l : List Refusal). first_refusal l ≡ None) (append-nil held) is
unheld held true bytes room is = absurd (never (first_refusal held) (sym (full_is_last held bytes room) ∙ is)) where
  never : (first : Option Refusal) → option_or first (Some (ReplicaFull bytes room)) ≡ None → ⊥
  never None is = cc is
  never (Some r) is = cc is

-- Where nothing refuses the alteration, the open table says nothing against the change, and no component lies on a slice for replicas.
pub altered_free : (host : Host) (o : Opened) (one : Exchange) (alteration : Alteration) (asks : Asks one (command.Alter alteration)) → first_refusal (held_of_alteration host (Some o) (change_of alteration)) ≡ None
    → (refusal_of host.drives host.site.drives o.table (asks_built one alteration asks).change ≡ None) × (names_db host.drives (asks_built one alteration asks).change ≡ false)
altered_free host o one alteration asks free =
    let asked = asks_built one alteration asks in
    let change : PlanChange = asked.change in
    let unheld_so : first_refusal (held_of_change host (Some o) change) ≡ None = subst (λ (c : Option PlanChange). first_refusal (held_of_alteration host (Some o) c) ≡ None) asked.alters free in
    let untold = unheld (listed (told_by_table host o change)) _ (bytes_after host o change) (record_room o) unheld_so in
    none_told (carried host.drives o.table change) (first_of (condition host.drives host.site.drives o.table change) order) (names_db host.drives change) untold

-- So the table that it leaves is a step of the open one.
pub altered_step : (host : Host) (o : Opened) (one : Exchange) (alteration : Alteration) (next : Table) (asks : Asks one (command.Alter alteration)) → first_refusal (held_of_alteration host (Some o) (change_of alteration)) ≡ None
    → IsOfGeometry host.drives o.table → IsOfGeometry host.drives next → next ≡ table_by host.drives alteration o.table
    → IsStepOf host.drives (asks_built one alteration asks).change o.table next
altered_step host o one alteration next asks free old_of next_of is =
    let asked = asks_built one alteration asks in
    let may = altered_free host o one alteration asks free in
    record {
      built = asked.built;
      plain = may.1;
      drives = host.site.drives;
      made = record { allowed = may.0; after = is ∙ ap (table_where host.drives o.table) asked.alters };
      old_of = old_of;
      next_of = next_of;
    }

-- a line that asks it writes the blocks of the open table's places alone
pub altered_outside : (host : Host) (memory : Memory) (asked : Option PlanChange) (t u : Tale) → WritesOnly host (change_asked host asked) memory t u → (drive b : ℕ) → opened_area memory.opened drive b ≡ false → IsKept t u drive b
altered_outside host memory None t u writes drive b out = writes drive b refl
altered_outside host memory (Some change) t u writes drive b out = writes drive b out
