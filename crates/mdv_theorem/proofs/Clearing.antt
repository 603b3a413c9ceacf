-- A line that clears volumes, each of which lines show to be there, or all of a database that they show, is done, or refused because memory is wanting or the record would be too long: nothing that is there uses another volume yet.
use Rattle.std.proofs.Common.{◌≡◌, ◌⊎◌, inl, inr, ℕ, ◌||◌, ◌&&◌, if◌then◌else◌, nat_lt, Bool, true, false, not, is_some, flat_map, List, [], ◌∷◌, ◌++◌, map, Option, None, Some, option_map, Contains, refl, sym, ◌∙◌, ap, subst}
use Rattle.std.specs.List.{list_any}
use Rattle.mdv_base.specs.Order.{first_refusal, where_so}
use Rattle.mdv_base.specs.declared.drive.SliceName.{SliceName}
use Rattle.mdv_base.specs.declared.name.Named.TheVariants as named
use Rattle.mdv_base.specs.declared.name.PoolId.{PoolId}
use Rattle.mdv_base.specs.declared.name.VolId.{VolId}
use Rattle.mdv_base.specs.declared.refusal.Refusal.{Refusal}
use Rattle.mdv_base.specs.declared.refusal.Refusal.TheVariants.{OutOfMemory, ReplicaFull}
use Rattle.mdv_change.specs.Change.{carried, condition}
use Rattle.mdv_change.specs.Clear.{clear_condition, is_among, is_left_on, is_left_with, is_named, is_no_volume, lies_on, part_spare, parts_of, uses_one}
use Rattle.mdv_change.specs.Levels.{with_levels}
use Rattle.mdv_change.specs.declared.change.Change.{Change as PlanChange}
use Rattle.mdv_change.specs.declared.change.Change.TheVariants as change
use Rattle.mdv_components.specs.Bases.{volume_of}
use Rattle.mdv_components.specs.Causes.{first_of, told}
use Rattle.mdv_components.specs.Causes.{order as causes_order}
use Rattle.mdv_components.specs.declared.cause.Cause.{Cause}
use Rattle.mdv_components.specs.declared.cause.Cause.TheVariants as reason
use Rattle.mdv_config.specs.Slices.{IsSound}
use Rattle.mdv_config.specs.Table.{IsOfGeometry}
use Rattle.mdv_engine_law.proofs.Allowed.{none_passes}
use Rattle.mdv_engine_law.specs.Altering.{Alters, change_of}
use Rattle.mdv_engine_law.specs.Answers.{refusing}
use Rattle.mdv_engine_law.specs.Commands.{CameTo, case_of, refused, wanting, done, faulted, over}
use Rattle.mdv_engine_law.specs.Line.{Kept, record_room}
use Rattle.mdv_engine_law.specs.Refusals.{bytes_after, held_of_alteration, held_of_change, listed, refusal_of, told_by_table}
use Rattle.mdv_engine_law.specs.Replies.{refusal_line, text_of}
use Rattle.mdv_engine_law.specs.declared.answer.Answer.{Answer}
use Rattle.mdv_engine_law.specs.declared.answer.Answer.TheVariants.{Over}
use Rattle.mdv_engine_law.specs.declared.host.Host.{Host}
use Rattle.mdv_growing_law.proofs.Going.{no_parent, of_geometry}
use Rattle.mdv_name.specs.declared.geometry.Geometry.{Geometry}
use Rattle.mdv_plan.specs.Parents.{names_volume}
use Rattle.mdv_plan.specs.declared.status.PartStatus.{PartStatus}
use Rattle.mdv_plan.specs.declared.status.VolumeStatus.{VolumeStatus}
use Rattle.mdv_plan.specs.declared.table.Table.{Table}
use Rattle.mdv_plan.specs.declared.volume.Volume.{Volume as OneVolume}
use Rattle.mdv_port.specs.Script.{Script}
use Rattle.mdv_remake.specs.Asked.{clearing_of, pool_named, volume_named}
use Rattle.mdv_run_law.proofs.Placing.{opened_twice}
use Rattle.mdv_run_law.specs.Below.{meant}
use Rattle.mdv_run_law.specs.Lives.{Ran, host_of}
use Rattle.mdv_run_law.specs.Run.{IsSaid}
use Rattle.mdv_shelf.specs.Failing.{Outcomes}
use Rattle.mdv_store.specs.Opened.{Opened}
use Rattle.mdv_volumes.proofs.Lists.{contains_behind, contains_first}
use Rattle.mdv_volumes.proofs.Maps.{found_as}
use Rattle.mdv_words.specs.declared.command.Alteration.{Alteration}
use Rattle.mdv_words.specs.declared.command.Alteration.TheVariants.{Clear, ClearAll}
use Rattle.mdv_words.specs.declared.command.Command.TheVariants.{Alter}
use Rattle.mdv_theorem.specs.Exchanges.{Asks, Exchange, IsTold, exchanges_by}
use Rattle.mdv_theorem.specs.Going.{ClearsOfAll, ClearsOfNames, IsOkOrWant}
use Rattle.mdv_theorem.specs.Observed.{HaveAnswered}
use Rattle.mdv_theorem.specs.Running.{Running}
use Rattle.mdv_theorem.specs.Words.{HasDatabase, IsThere}
use Rattle.mdv_theorem.proofs.Aside.{Commanded, came, unread, commanded}
use Rattle.mdv_theorem.proofs.Enduring.{database_open, it_stays}
use Rattle.mdv_theorem.proofs.Levels.{levels_there}
use Rattle.mdv_theorem.proofs.Starting.{Starts, starts}
use Rattle.mdv_theorem.proofs.Steps.{Reached, reached_from, told_once}
use Rattle.mdv_theorem.proofs.Sure.{sure_table}

-- where none of these passes a test
none_where : {X : Type 0} (p : X → Bool) (xs : List X) → ((x : X) → Contains xs x → p x ≡ false) → list_any p xs ≡ false
none_where p [] each = refl
none_where p (x ∷ xs) each = λ i. each x (contains_first x xs) i || none_where p xs (λ y has. each y (contains_behind x y xs has)) i

and_never : (b : Bool) → (b && false) ≡ false
and_never true = refl
and_never false = refl

-- no cause holds, so none is told
none_first : (holds : Cause → Bool) (causes : List Cause) → ((cause : Cause) → holds cause ≡ false) → first_of holds causes ≡ None
none_first holds [] each = refl
none_first holds (c ∷ causes) each = ap (λ (here : Bool). if here then Some c else first_of holds causes) (each c) ∙ none_first holds causes each

-- Of a table of a geometry nothing speaks against that volumes go which are there.
module _ (g : Geometry) (t : Table) (of : IsOfGeometry g t) where
  unnamed : (volumes : List VolId) (w : OneVolume) → Contains t.plan.volumes w → list_any (λ (v : VolId). names_volume v w.kind) volumes ≡ false
  unnamed [] w has = refl
  unnamed (v ∷ volumes) w has = λ i. none_passes (λ (x : OneVolume). names_volume v x.kind) t.plan.volumes (no_parent t v (of_geometry g t of)) w has i || unnamed volumes w has i

  unused : (volumes : List VolId) (w : OneVolume) → Contains t.plan.volumes w → uses_one volumes [] w.kind ≡ false
  unused volumes w has = λ i. unnamed volumes w has i || false

  no_user : (volumes : List VolId) → list_any (is_left_with volumes []) t.plan.volumes ≡ false
  no_user volumes = none_where (is_left_with volumes []) t.plan.volumes (λ w has. ap (λ (uses : Bool). not (is_named volumes w.number) && uses) (unused volumes w has) ∙ and_never (not (is_named volumes w.number)))

  none_among : (slices : List SliceName) → list_any (is_among []) slices ≡ false
  none_among [] = refl
  none_among (s ∷ slices) = none_among slices

  none_lies : (parts : List PartStatus) → list_any (lies_on []) parts ≡ false
  none_lies [] = refl
  none_lies (part ∷ parts) = λ i. none_among (part_spare part) i || none_lies parts i

  none_on : (volumes : List VolId) (states : List VolumeStatus) → list_any (is_left_on volumes []) states ≡ false
  none_on volumes [] = refl
  none_on volumes (s ∷ states) = λ i. (ap (λ (lies : Bool). not (is_named volumes s.number) && lies) (none_lies (parts_of s.kind)) ∙ and_never (not (is_named volumes s.number))) i || none_on volumes states i

  clear_free : (volumes : List VolId) → list_any (is_no_volume t.plan) volumes ≡ false → (cause : Cause) → clear_condition t volumes [] cause ≡ false
  clear_free volumes there reason.NoSuchVolume = there
  clear_free volumes there reason.NoSuchPool = refl
  clear_free volumes there reason.NoSuchSlice = refl
  clear_free volumes there reason.NameTaken = refl
  clear_free volumes there reason.WrongKind = refl
  clear_free volumes there reason.WrongState = refl
  clear_free volumes there reason.LastCopy = refl
  clear_free volumes there reason.TooFew = refl
  clear_free volumes there reason.TooMany = refl
  clear_free volumes there reason.BadInterlace = refl
  clear_free volumes there reason.SliceInUse = refl
  clear_free volumes there reason.HasParent = no_user volumes
  clear_free volumes there reason.Nested = refl
  clear_free volumes there reason.SpareInUse = none_on volumes t.status.volumes
  clear_free volumes there reason.TooSmall = refl
  clear_free volumes there reason.NoSpace = refl

-- names of volumes alone
volumes_named : (volumes : List VolId) → flat_map volume_named (map named.Volume volumes) ≡ volumes
volumes_named [] = refl
volumes_named (v ∷ volumes) = ap (λ (l : List VolId). v ∷ l) (volumes_named volumes)

no_pool_named : (volumes : List VolId) → flat_map pool_named (map named.Volume volumes) ≡ []
no_pool_named [] = refl
no_pool_named (v ∷ volumes) = no_pool_named volumes

module _ (host : Host) (o : Opened) where
  untold : (its : PlanChange) → ((cause : Cause) → condition host.drives host.site.drives o.table its cause ≡ false) → option_map (told (carried host.drives o.table its)) (first_of (condition host.drives host.site.drives o.table its) causes_order) ≡ None
  untold its each = ap (option_map (told (carried host.drives o.table its))) (none_first (condition host.drives host.site.drives o.table its) causes_order each)

  all_untold : told_by_table host o change.ClearAll ≡ None
  all_untold = untold change.ClearAll (λ cause. refl)

  clear_untold : IsOfGeometry host.drives o.table → (volumes : List VolId) (below : Bool) → list_any (is_no_volume o.table.plan) volumes ≡ false → told_by_table host o (clearing_of (map named.Volume volumes) below) ≡ None
  clear_untold of volumes false there =
      (λ i. told_by_table host o (change.Clear (volumes_named volumes i) (no_pool_named volumes i))) ∙ untold (change.Clear volumes []) (clear_free host.drives o.table of volumes there)
  clear_untold of volumes true there =
      (λ i. told_by_table host o (change.ClearBelow (volumes_named volumes i) (no_pool_named volumes i)))
      ∙ untold (change.ClearBelow volumes []) (clear_free host.drives o.table of (with_levels o.table.plan volumes) (levels_there o.table.plan volumes there))

-- a record that is too long is all that may be told
full_alone : (full : Bool) (bytes room : ℕ) (s : Refusal) → first_refusal (where_so full (ReplicaFull bytes room)) ≡ Some s → s ≡ ReplicaFull bytes room
full_alone true bytes room s is = let both : Some (ReplicaFull bytes room) ≡ Some s = is in let same : ReplicaFull bytes room ≡ s = cc both in sym same
full_alone false bytes room s is = absurd (cc is)

-- What is told of an alteration against which the open table says nothing.
module _ (calls : Outcomes) (host : Host) (kept next : Kept) (o : Opened) (opened : kept.memory.opened ≡ Some o) (alteration : Alteration) (its : PlanChange) (alters : Alters alteration its) (free : told_by_table host o its ≡ None) (answer : Answer) (said : IsSaid answer)
    (reply : List ℕ) (is_reply : text_of answer ≡ reply) where
  too_long : (s : Refusal) → refusal_of (case_of host kept) (Alter alteration) ≡ Some s → answer ≡ refusing s → IsOkOrWant reply
  too_long s why is =
      let bytes = bytes_after host o its in
      let room = record_room o in
      let here : first_refusal (held_of_alteration host (Some o) (change_of alteration)) ≡ Some s = subst (λ (x : Option Opened). first_refusal (held_of_alteration host x (change_of alteration)) ≡ Some s) opened why in
      let so : first_refusal (held_of_change host (Some o) its) ≡ Some s = subst (λ (c : Option PlanChange). first_refusal (held_of_alteration host (Some o) c) ≡ Some s) alters here in
      let alone : first_refusal (where_so (nat_lt room bytes) (ReplicaFull bytes room)) ≡ Some s = subst (λ (c : Option Refusal). first_refusal (listed c ++ where_so (nat_lt room bytes) (ReplicaFull bytes room)) ≡ Some s) free so in
      inr (inr (bytes, room, sym is_reply ∙ ap text_of is ∙ ap refusal_line (full_alone (nat_lt room bytes) bytes room s alone)))

  came_told : CameTo calls host kept (meant kept.memory.entries (Alter alteration)) answer next → IsOkOrWant reply
  came_told (refused quiet s why turned) = too_long s why turned.0
  came_told (wanting quiet is left) = inr (inl (sym is_reply ∙ ap text_of is))
  came_told (done allowed effect) = inl (sym is_reply ∙ ap text_of effect.0)
  came_told (faulted allowed is left) = absurd left
  came_told (over end allowed is left) = (let never : IsSaid (Over end) = subst IsSaid is said in absurd never)

  pub altered_told : Commanded calls host kept (Alter alteration) answer next → IsOkOrWant reply
  altered_told (came is) = came_told is
  altered_told (unread is) = inr (inl (sym is_reply ∙ ap text_of is))

-- where the run has come to the line
module _ (drives : Geometry) (name : List ℕ) (before : List Ran) (script : Script) (sound : IsSound drives) (of_table : Contains drives.hosts name) (run : Running drives name before script) (here : List Exchange) (calm : HaveAnswered run (exchanges_by name before ++ here)) (one : Exchange) (starts_so : Starts run) (at : Reached run starts_so.of here one)
    (o : Opened) (opened : at.kept.memory.opened ≡ Some o) where
  abbrev host : Host
  host = host_of drives name run.fresh

  abbrev lines : List Exchange
  lines = exchanges_by name before ++ here

  -- the open table has a volume that lines show to be there
  is_found : (volume : VolId) → IsThere volume lines → is_no_volume o.table.plan volume ≡ false
  is_found volume there =
      let its = it_stays drives name before script sound of_table run starts_so here one at calm volume there in
      let found = found_as host.drives its.o.table volume its.so.0 its.so.1 in
      subst (λ (n : Opened). is_no_volume n.table.plan volume ≡ false) (opened_twice at.kept.memory.opened o its.o opened its.opened) (ap (λ (x : Option OneVolume). not (is_some x)) found.found)

  cleared_told : (alteration : Alteration) (its : PlanChange) → Alters alteration its → told_by_table host o its ≡ None → Asks one (Alter alteration) → (reply : List ℕ) → IsTold one reply → IsOkOrWant reply
  cleared_told alteration its alters free asks reply is_told =
      altered_told at.calls host at.kept at.next o opened alteration its alters free at.answer at.said reply (told_once one (text_of at.answer) reply at.told is_told)
      (commanded at.calls host at.kept at.next one.text (Alter alteration) at.answer asks at.comes)

  pub names_cleared : (volumes : List VolId) (below : Bool) → ((volume : VolId) → Contains volumes volume → IsThere volume lines) → Asks one (Alter (Clear (map named.Volume volumes) below)) → (reply : List ℕ) → IsTold one reply → IsOkOrWant reply
  names_cleared volumes below there asks reply is_told =
      let free = clear_untold host o (sure_table host at.kept o at.sure opened) volumes below (none_where (is_no_volume o.table.plan) volumes (λ volume has. is_found volume (there volume has))) in
      cleared_told (Clear (map named.Volume volumes) below) (clearing_of (map named.Volume volumes) below) refl free asks reply is_told

  pub all_cleared : Asks one (Alter ClearAll) → (reply : List ℕ) → IsTold one reply → IsOkOrWant reply
  all_cleared asks reply is_told = cleared_told ClearAll change.ClearAll refl (all_untold host o) asks reply is_told

pub clears_of_names : ClearsOfNames
clears_of_names drives name before script of_table run one earlier first volumes below answered enough there asks reply is_told =
    let sound = run.life.fair in
    let calm = subst (HaveAnswered run) answered.behind enough in
    let starts_so = starts drives name before script of_table run in
    let at = reached_from run starts_so.of answered.here answered.later one reply answered.is is_told in
    let shown : (volume : VolId) → Contains (first ∷ volumes) volume → IsThere volume (exchanges_by name before ++ answered.here) = λ volume has. subst (IsThere volume) answered.behind (there volume has) in
    let its = it_stays drives name before script sound of_table run starts_so answered.here one at calm first (shown first (contains_first first volumes)) in
    names_cleared drives name before script sound of_table run answered.here calm one starts_so at its.o its.opened (first ∷ volumes) below shown asks reply is_told

pub clears_of_all : ClearsOfAll
clears_of_all drives name before script of_table run one earlier answered enough has asks reply is_told =
    let sound = run.life.fair in
    let calm = subst (HaveAnswered run) answered.behind enough in
    let starts_so = starts drives name before script of_table run in
    let at = reached_from run starts_so.of answered.here answered.later one reply answered.is is_told in
    let its = database_open drives name before script sound of_table run starts_so answered.here one at calm (subst HasDatabase answered.behind has) in
    all_cleared drives name before script sound of_table run answered.here calm one starts_so at its.0 its.1 asks reply is_told
