-- What a boot of the host's database comes to and leaves, told of the host.
use Rattle.std.proofs.Common.{◌≡◌, ◌≢◌, ◌⊎◌, inl, inr, ◌+◌, ◌*◌, ◌/◌, ◌<◌, ◌≤◌, ◌&&◌, not, ℕ, Bool, true, false, List, [], ◌∷◌, cond, length, Option, None, Some, Contains, refl, sym, ◌∙◌, ap, subst, arith}
use Rattle.std.specs.List.{find}
use Rattle.std.specs.Bool.{MatchBool}
use Rattle.std.specs.Prelude.{MatchOption}
use Rattle.mdv_base.specs.DriveSet.{no_drives}
use Rattle.std.proofs.lemmas.Bool.{ltb-false}
use Rattle.mdv_base.specs.declared.place.Place.{Place}
use Rattle.mdv_databases.proofs.Booting as databases
use Rattle.mdv_databases.proofs.Finding.{failing_list}
use Rattle.mdv_shelf.specs.Drives.{KeptAmong}
use Rattle.mdv_shelf.specs.Made.{made_of}
use Rattle.mdv_shelf.specs.Shelves.{AtEachTale, AtEnd, DriveFailures}
use Rattle.mdv_shelf.specs.declared.shelf.Shelf.{Ghosts}
use Rattle.mdv_shelf.proofs.Frame.{kept_outside_wider}
use Rattle.mdv_shelf.proofs.Moments.{moments_end, moments_weaker, some_is}
use Rattle.mdv_store.specs.Boot.{IfAdopted, IsAdopted, IsEndBy, IsOnce, IsShort, TakesAll, is_memory, need_of}
use Rattle.mdv_store.specs.BootCounts.{IsBootCounted, IsEndCounted}
use Rattle.mdv_store.specs.Booted.{IsBooted, IsReadAt, WroteFor}
use Rattle.mdv_store.specs.Letters.{AreLettersOf}
use Rattle.mdv_store.specs.Booting.{BootEnds, BootMomentOn, IsBootedOn, IsBootedTo, boot_area, has_written}
use Rattle.mdv_store.specs.Booting as store
use Rattle.mdv_replica.specs.Form.{shows}
use Rattle.mdv_store.specs.Records.{Spells}
use Rattle.mdv_store.specs.Seats.{drive_of}
use Rattle.mdv_name.specs.declared.geometry.Geometry.{Geometry}
use Rattle.mdv_store_law.specs.Log.{HasOneList}
use Rattle.mdv_config.specs.Table.{IsListsOf}
use Rattle.mdv_config.specs.Lists.{last_of, places_of}
use Rattle.mdv_store.specs.declared.booting.BootEnd.TheVariants as end
use Rattle.mdv_store.specs.declared.booting.Booted.{Booted}
use Rattle.mdv_store.proofs.Told.{adopted_count, adopted_each, adopted_enough, found_read, lost_read, lost_short}
use Rattle.mdv_store.proofs.Adoptions.{takes_stay, same_identity_self}
use Rattle.mdv_store.proofs.Few.{reads_between}
use Rattle.mdv_store.proofs.Passes.{unmapped}
use Rattle.mdv_standing.specs.Laws.{ShowsNoTable}
use Rattle.mdv_survey.specs.Choice.{AreTwo, IsChoice, IsChoiceAmong, failing, is_of, readable_of, same_identity, shows_other}
use Rattle.mdv_survey.specs.Counts.{AreLinesBy}
use Rattle.mdv_survey.specs.Replica.{IsListed}
use Rattle.mdv_survey.specs.declared.choosing.Choice.{Choice}
use Rattle.mdv_survey.specs.declared.choosing.Choice.TheVariants as chosen
use Rattle.mdv_survey.specs.declared.replica.Newest.{Newest}
use Rattle.mdv_survey.specs.declared.replica.Survey.{Survey}
use Rattle.mdv_plan.specs.declared.lists.Lists.{Lists}
use Rattle.mdv_plan.specs.declared.lists.Lists.TheVariants.{One}
use Rattle.mdv_engine_law.specs.Answers.{accepted}
use Rattle.mdv_engine_law.specs.Replies.{HasEndCause}
use Rattle.mdv_engine_law.specs.declared.answer.Answer.TheVariants.{Over}
use Rattle.mdv_engine_law.specs.declared.answer.Ended.TheVariants as ended
use Rattle.mdv_engine_law.proofs.Booting.{BootsOn, boot_moment, booted_adopted, booted_none}
use Rattle.mdv_engine_law.proofs.Keeping.{same_beside}
use Rattle.mdv_engine_law.proofs.Rebooting as rebooting
use Rattle.mdv_engine_law.proofs.Rebooting.{up_by}
use Rattle.mdv_engine.specs.Below.{Answer, AreLaid, BootEnd, BootMoment, BootedTo, DriveNo, Drives, Ended, Host, Identity, IsOfGeometry, IsReady, IsUpBy, Key, KeptOutside, MayLeave, Memory, Opened, Outcomes, Replica, Site, SliceLine, Tale, answered_by, booted_with, has_drive, key_of, last, nowhere, opened_by, replicas_of, site_area, site_of, unbooted, shortage}
use Rattle.mdv_engine.specs.Counts.{IsBootedCounted, IsOpenedCounted}
use Rattle.mdv_engine.specs.Ends.{IsBootEnd}
use Rattle.mdv_engine.proofs.Listed.{none_listed}
use Rattle.mdv_engine.specs.Engine.{FailedOnSite, IsAnsweredBy, IsEndedBy, IsFitting, IsHeldBy, IsOpenBy, IsWell, LiesOn}
use Rattle.mdv_store.specs.Shares.{short_of}
use Rattle.mdv_store.specs.declared.seats.Share.{Share}
use Rattle.mdv_store.proofs.Shares.{half_less as half_less_of, more_less}
use Rattle.mdv_config.proofs.Listed.{listed_some}

-- one list has at most fifty places
one_few : (g : Geometry) (lists : Lists) (list : List Place) → lists ≡ One list → IsListsOf g lists → length (places_of lists) ≤ 50
one_few g lists list one of = subst (λ (l : Lists). length (places_of l) ≤ 50) (sym one) ((subst (IsListsOf g) one of).few)

-- at each moment, and in the end
module _ (host : Host) (sizes : List ℕ) (ready : IsReady host sizes) where
  its_moment : (up : Drives) (answer : BootEnd) (t m : Tale) → BootMomentOn up host.drives host.site answer t m → BootMomentOn up host.drives (site_of host.drives (key_of host)) answer t m
  its_moment up answer t m is = subst (λ (s : Site). BootMomentOn up host.drives s answer t m) ready.site is

  -- or a stale vote is met
  boots_on : (failed : ℕ → Type 0) (answer : BootEnd) (t m : Tale) → store.BootMoment failed host.drives host.site answer t m → BootsOn host t m
  boots_on failed answer t m is all stand = elim (databases.boot_moment is.0 host.drives all (key_of host) answer t m stand (its_moment is.0 answer t m is.2)) [
    | inl still ↦ inl still
    | inr on ↦ elim on [ inl goes ↦ inr (inl goes) | inr stale ↦ inr (inr (is.0, stale)) ]
  ]

  on_site : (wrote : Bool) (t m : Tale) → KeptOutside (boot_area host.site wrote) t m → KeptOutside (site_area host.site) t m
  on_site true t m kept = kept
  on_site false t m kept = kept_outside_wider nowhere (site_area host.site) t m (λ drive block out. refl) kept

  off_site : (wrote : Bool) (drive block : ℕ) → site_area host.site drive block ≡ false → boot_area host.site wrote drive block ≡ false
  off_site true drive block out = out
  off_site false drive block out = refl

  pub boot_moments : (failed : ℕ → Type 0) (answer : BootEnd) (t m : Tale) → store.BootMoment failed host.drives host.site answer t m → BootMoment host t m
  boot_moments failed answer t m is = boot_moment host sizes ready t m (on_site (has_written answer) t m is.2.quiet.outside) is.2.quiet.quiet (boots_on failed answer t m is)

  -- what is known once it is answered
  module _ (failed : ℕ → Type 0) (answer : Booted) (begun : ℕ) (t u : Tale) (moment : store.BootMoment failed host.drives host.site answer.end t u) (ends : BootEnds failed host.drives host.site answer t u) where
    abbrev To : Option Opened → Type 0
    To opened = BootedTo host (booted_with opened answer.up answer.clean begun) t u

    kept : KeptOutside (site_area host.site) t u
    kept = on_site (has_written answer.end) t u moment.2.quiet.outside

    rests : (drive : DriveNo) (block : ℕ) → has_drive answer.up drive ≡ true → site_area host.site drive.0 block ≡ false → (x : List ℕ) → MayLeave u drive.0 block x → x ≡ last u drive.0 block
    rests drive block on out = ends.still drive block on (off_site (has_written answer.end) drive.0 block out)

    its_booted : (o : Opened) → answer.end ≡ end.Adopted o → IsBootedTo failed host.drives host.site o t u
    its_booted o so = subst (λ (e : BootEnd). IfAdopted e (λ x. IsBootedTo failed host.drives host.site x t u)) so ends.adopted

    adopted_to : (o : Opened) → answer.end ≡ end.Adopted o → o.key ≡ key_of host → To (Some o)
    adopted_to o so its =
        let is = its_booted o so in
        booted_adopted host sizes ready t answer.up u kept moment.2.quiet.quiet answer.clean begun rests o its is.2.opened
        (λ all stand. elim (databases.boot_end moment.0 is.0 host.drives all (key_of host) o t u stand (its_moment moment.0 (end.Adopted o) t u (subst (λ (e : BootEnd). BootMomentOn moment.0 host.drives host.site e t u) so moment.2)) (subst (λ (s : Site). IsBootedOn is.0 host.drives s o t u) ready.site is.2) its) [
          | inl booted ↦ inl booted
          | inr stale ↦ inr (is.0, stale)
        ])

    empty_to : answer.end ≡ end.Empty → To None
    empty_to so =
        booted_none host sizes ready t answer.up u kept moment.2.quiet.quiet answer.clean begun rests
        (λ clean identity image left. subst (λ (s : Site). ShowsNoTable (Spells host.drives) s identity image) ready.site (ends.empty so clean image left identity)) (boots_on failed answer.end t u moment)

-- numbers of a boot that isn't answered: fewer places are readable than are needed
half_less : (n l : ℕ) → 2 * n ≤ l → n < l / 2 + 1
half_less n l less = omega (arith, less)

module _ (survey : Survey) where
  -- what is chosen of the newest table, where there is one
  chosen_of : (choice : Choice) → (choice ≡ chosen.Empty → ⊥) → IsChoice survey choice → (newest : Newest) × IsChoiceAmong survey.replicas newest choice
  chosen_of choice not is = by survey.newest is where
    by : (o : Option Newest) → MatchOption o (choice ≡ chosen.Empty) (λ newest. IsChoiceAmong survey.replicas newest choice) → (newest : Newest) × IsChoiceAmong survey.replicas newest choice
    by None none = absurd (not none)
    by (Some newest) among = (newest, among)

  failing_short : (replicas : List Replica) (identity : Identity) (lists : Lists) (list : List Place) → failing replicas identity lists ≡ Some list → 2 * readable_of replicas identity list ≤ length list
  failing_short replicas identity lists list is = ltb-false (length list) (2 * readable_of replicas identity list) (failing_list replicas identity lists list is).1

  short_less : (readable needed : ℕ) → IsShort survey readable needed → readable < needed
  short_less readable needed (inl is) =
      let found = chosen_of (chosen.NoQuorum readable needed) (λ none. absurd (cc (none))) is in
      let one = found.1 in
      let less = half_less (readable_of survey.replicas one.replica.head.master.identity one.list) (length one.list) (failing_short survey.replicas one.replica.head.master.identity found.0.table.plan.lists one.list one.fails) in
      let readable_is = one.readable_is in
      let needed_is = one.needed_is in
      omega (arith, less, readable_is, needed_is)
  short_less readable needed (inr (was, newest, replica, seats, hand, share, few, readable_is, needed_is)) = (let less = half_less share.active share.listed (more_less seats newest.table.plan.lists share few) in omega (arith, less, readable_is, needed_is))

  found_here : (p : Replica → Bool) (rs : List Replica) (x r : Replica) (b : Bool) → p x ≡ b → (find p rs ≡ Some r → p r ≡ true) → cond b (Some x) (find p rs) ≡ Some r → p r ≡ true
  found_here p rs x r true so later some = (let same : x ≡ r = cc (some) in subst (λ (y : Replica). p y ≡ true) same so)
  found_here p rs x r false so later rest = later rest

  found_passes : (p : Replica → Bool) (rs : List Replica) (r : Replica) → find p rs ≡ Some r → p r ≡ true
  found_passes p [] r is = absurd (cc (is))
  found_passes p (x ∷ rs) r is = found_here p rs x r (p x) refl (found_passes p rs r) is

  -- the databases are two
  two_differ : (a b : Identity) → IsChoice survey (chosen.TwoDatabases a b) → a ≢ b
  two_differ a b is same =
      let two : AreTwo survey.replicas a b = (chosen_of (chosen.TwoDatabases a b) (λ none. absurd (cc (none))) is).1 in
      let other = found_passes (shows_other two.one.head.master.identity) survey.replicas two.other two.second in
      let own : two.other.head.master.identity ≡ two.one.head.master.identity = sym two.b_is ∙ sym same ∙ two.a_is in
      let itself : is_of two.one.head.master.identity two.other ≡ true = subst (λ (i : Identity). same_identity i two.one.head.master.identity ≡ true) (sym own) (same_identity_self two.one.head.master.identity) in
      not_both (shows_of two.other) (is_of two.one.head.master.identity two.other) itself other
    where
      shows_of : Replica → Bool
      shows_of r = shows r.head

      not_both : (s o : Bool) → o ≡ true → (s && not o) ≡ true → ⊥
      not_both true true on both = absurd (cc (both))
      not_both true false on both = absurd (cc (on))
      not_both false o on both = absurd (cc (both))

-- memory wasn't wanting in one that is answered
remembered : (e : BootEnd) → answered_by e ≡ accepted → is_memory e ≡ false
remembered (end.Adopted o) ok = refl
remembered end.Empty ok = refl
remembered (end.TwoDatabases a b) ok = refl
remembered (end.NoQuorum readable needed) ok = refl
remembered (end.Lost active listed) ok = refl
remembered end.Spent ok = refl
remembered end.Memory ok = absurd (cc (ok))

-- Whatever the shelf tells: by which calls a boot came to its end, and what it opened.
module _ {S : Type 0} (shelf : Ghosts S) (old new : S) (host : Host) (ready : IsReady host (shelf.sizes old)) (answer : Booted) (is : IsBooted shelf old new host.drives host.site answer) (kept : KeptAmong shelf old new host.site.drives) (begun : ℕ) where
  abbrev calls : Outcomes
  calls = DriveFailures shelf old new

  abbrev memory : Option Opened → Memory
  memory opened = booted_with opened answer.up answer.clean begun

  abbrev Read : BootEnd → Type 0
  Read e = (survey : Survey) × (at : IsReadAt shelf old new host.drives host.site answer survey) × IsEndBy calls (WroteFor shelf old at.looked new host.drives host.site answer.clean) host.site survey e

  read : (e : BootEnd) → answer.end ≡ e → is_memory e ≡ false → Read e
  read e so remembered = by is.ended where
    by : (is_memory answer.end ≡ true) ⊎ ((survey : Survey) × (at : IsReadAt shelf old new host.drives host.site answer survey) × IsEndBy calls (WroteFor shelf old at.looked new host.drives host.site answer.clean) host.site survey answer.end × AreLettersOf host.site survey at.calm answer.letters) → Read e
    by (inl wanting) = absurd (let none = ap is_memory so in cc (wanting, none, remembered))
    by (inr (survey, at, end_by, letters)) = subst Read so (survey, at, end_by)

  -- where it isn't clean a call failed, as on each drive of which the last look doesn't tell
  unclean : answer.clean ≡ false → (is_memory answer.end ≡ true) ⊎ ((drive : DriveNo) × Contains host.site.drives drive × (calls drive.0).some)
  unclean off = subst (λ (b : Bool). MatchBool b ((is_memory answer.end ≡ false) × ((drive : DriveNo) → Contains host.site.drives drive → (calls drive.0).none)) ((is_memory answer.end ≡ true) ⊎ ((drive : DriveNo) × Contains host.site.drives drive × (calls drive.0).some))) off is.clean

  away : (survey : Survey) (at : IsReadAt shelf old new host.drives host.site answer survey) (drive : DriveNo) → Contains host.site.drives drive → has_drive at.calm drive ≡ false → (calls drive.0).some
  away survey at drive one_of out = (at.failed drive one_of out).1

  -- which drives are up, told of an end like its own
  up_as : (e : BootEnd) → is_memory answer.end ≡ is_memory e → IsUpBy calls host e answer.up answer.clean
  up_as e same =
      let by = up_by shelf old new host answer is kept unclean in
      record {
        down = λ remembered. by.down (same ∙ remembered);
        others = by.others;
        once = subst (λ (b : Bool). (b ≡ true) ⊎ ((drive : DriveNo) → Contains host.site.drives drive → IsOnce (calls drive.0))) same by.once;
        calm = subst (λ (b : Bool). MatchBool answer.clean ((drive : DriveNo) → (calls drive.0).none) ((b ≡ true) ⊎ ((drive : DriveNo) × Contains host.site.drives drive × (calls drive.0).some))) same by.calm;
      }

  -- it adopted a database
  module _ (o : Opened) (so : answer.end ≡ end.Adopted o) where
    abbrev by_it : Read (end.Adopted o)
    by_it = read (end.Adopted o) so refl

    abbrev adoption : IsAdopted calls (WroteFor shelf old by_it.1.looked new host.drives host.site answer.clean) host.site by_it.0 o
    adoption = by_it.2

    abbrev Took : Replica → Replica → Type 0
    Took = TakesAll adoption.number adoption.newest.table

    each : (n : Replica) → Contains (replicas_of o.seats) n → (r : Replica) × IsListed host.site by_it.1.calm r × (calls (drive_of r)).none × Took r n
    each n has =
        let one = adopted_each calls (WroteFor shelf old by_it.1.looked new host.drives host.site answer.clean) host.site by_it.0 o adoption n has in
        (one.0, by_it.1.survey_is.each one.0 (found_read by_it.0 adoption.newest adoption.replica adoption.seats adoption.drawn.hand (last_of adoption.newest.table.plan.lists) one.0 one.1), one.2, one.3)

    stay : (n : Replica) (has : Contains (replicas_of o.seats) n) → n ≡ record ((each n has).0) { head = n.head }
    stay n has = (let one = each n has in takes_stay adoption.number adoption.newest.table one.0 n one.3)

    -- a seat for each listed place
    seats_counted : length o.seats ≡ length (places_of o.table.plan.lists)
    seats_counted = adopted_count calls (WroteFor shelf old by_it.1.looked new host.drives host.site answer.clean) host.site by_it.0 o adoption

    pub its_key : o.key ≡ key_of host
    its_key = ap (λ (x : Opened). x.key) adoption.is

    half_by : shortage o ≡ None
    half_by = subst (λ (k : Key). short_of (need_of k) o.seats o.table.plan.lists ≡ None) ready.key (adopted_enough calls (WroteFor shelf old by_it.1.looked new host.drives host.site answer.clean) host.site by_it.0 o adoption)

    -- a change of its places is over then
    one_list : HasOneList o.table
    one_list = (last_of adoption.newest.table.plan.lists, ap (λ (x : Opened). x.table.plan.lists) adoption.is)

    pub held_by : IsOfGeometry host.drives o.table → IsHeldBy host o
    held_by listed = record {
      its = its_key;
      some = (let counted = seats_counted in let least = listed_some host.drives o.table.plan.lists listed.lists in omega (arith, counted, least));
      few = (let counted = seats_counted in let most = one_few host.drives o.table.plan.lists one_list.0 one_list.1 listed.lists in omega (arith, counted, most));
      one = one_list;
      half = half_by;
      of_geometry = listed;
      laid = subst (λ (s : List ℕ). AreLaid s o.seats) (sym ready.on_shelf.sizes_are) (subst (λ (e : BootEnd). IfAdopted e (λ x. AreLaid (shelf.sizes old) x.seats)) so is.laid);
      seated = λ n has. (let one = each n has in subst (λ (x : Replica). LiesOn host.site x) (sym (stay n has)) (record { one_of = one.1.seated.one_of; within = one.1.seated.within }));
    }

    line_is : (r n : Replica) → Took r n → n.line ≡ r.line
    line_is r n took = ap (λ (x : Replica). x.line) (takes_stay adoption.number adoption.newest.table r n took)

    pub open_by : IsOpenBy calls answer.up o
    open_by = record {
      half = half_by;
      calm = λ drive has.
          let m = unmapped (λ (r : Replica). r.line.at.drive) (replicas_of o.seats) drive has in
          let one = each m.0 m.1 in
          subst (λ (d : DriveNo). (calls d.0).none) (sym (ap (λ (l : SliceLine). l.at.drive) (line_is one.0 m.0 one.3)) ∙ m.2) one.2;
      are_up = λ drive has.
          let m = unmapped (λ (r : Replica). r.line.at.drive) (replicas_of o.seats) drive has in
          let one = each m.0 m.1 in
          subst (λ (d : DriveNo). has_drive answer.up d ≡ true) (sym (ap (λ (l : SliceLine). l.at.drive) (line_is one.0 m.0 one.3)) ∙ m.2) (by_it.1.up one.0.line.at.drive one.1.is_up);
    }

    pub adopted_cause : IsAnsweredBy calls host (memory (Some o))
    adopted_cause = record { end = end.Adopted o; answer_is = refl; opened_is = refl; up = up_as (end.Adopted o) (ap is_memory so); opened = open_by }

    pub unfitting_cause : IsAnsweredBy calls host (memory None)
    unfitting_cause = record { end = end.Empty; answer_is = refl; opened_is = refl; up = up_as end.Empty (ap is_memory so); opened = tt }

    pub adopted_well : IsOfGeometry host.drives o.table → IsWell host (memory (Some o))
    adopted_well listed = record { database = held_by listed; entries = none_listed }

  pub empty_cause : answer.end ≡ end.Empty → IsAnsweredBy calls host (memory None)
  empty_cause so = record { end = end.Empty; answer_is = refl; opened_is = refl; up = up_as end.Empty (ap is_memory so); opened = tt }

  -- it isn't answered
  pub ended_cause : (e : BootEnd) (over : Ended) → answer.end ≡ e → answered_by e ≡ Over over → HasEndCause (FailedOnSite calls host) over → IsEndedBy calls host over
  ended_cause e over so answer_is cause = record { came = e; answer_is = answer_is; up = (answer.up, answer.clean, up_as e (ap is_memory so)); cause = cause }

  pub short_cause : (readable needed : ℕ) → answer.end ≡ end.NoQuorum readable needed → IsEndedBy calls host (ended.NoQuorum readable needed)
  short_cause readable needed so = (let by = read (end.NoQuorum readable needed) so refl in ended_cause (end.NoQuorum readable needed) (ended.NoQuorum readable needed) so refl (short_less by.0 readable needed by.2))

  pub two_cause : (a b : Identity) → answer.end ≡ end.TwoDatabases a b → IsEndedBy calls host (ended.TwoDatabases a b)
  two_cause a b so = (let by = read (end.TwoDatabases a b) so refl in ended_cause (end.TwoDatabases a b) (ended.TwoDatabases a b) so refl (two_differ by.0 a b by.2))

  pub lost_cause : (active listed : ℕ) → answer.end ≡ end.Lost active listed → IsEndedBy calls host (ended.Lost active listed)
  lost_cause active listed so =
      let by = read (end.Lost active listed) so refl in
      let one = lost_read calls (WroteFor shelf old by.1.looked new host.drives host.site answer.clean) host.site.key by.0 active listed by.2 in
      let at = by.1.survey_is.each one.0 one.1 in
      let short = lost_short calls (WroteFor shelf old by.1.looked new host.drives host.site answer.clean) host.site.key by.0 active listed by.2 in
      let share : Share = record { active = active; listed = listed } in
      let less = half_less_of short.1 short.0 share (subst (λ (k : Key). short_of (need_of k) short.1 short.0 ≡ Some share) ready.key short.2) in
      ended_cause (end.Lost active listed) (ended.Lost active listed) so refl (record { line = one.0.line; one_of = at.seated.one_of; here = one.2 }, less)

  pub spent_cause : answer.end ≡ end.Spent → IsEndedBy calls host ended.Spent
  spent_cause so = ended_cause end.Spent ended.Spent so refl tt

  pub wanting_cause : answer.end ≡ end.Memory → IsEndedBy calls host ended.Memory
  wanting_cause so = ended_cause end.Memory ended.Memory so refl tt

  -- The end, where the tale is told.
  module _ (moments : AtEachTale shelf (store.BootMoment (λ drive. (calls drive).some) host.drives host.site answer.end) old new) (ends : AtEnd shelf (BootEnds (λ drive. (calls drive).some) host.drives host.site answer) old new) (counted : IsBootCounted shelf old new host.drives host.site answer) where
    pub all_moments : AtEachTale shelf (BootMoment host) old new
    all_moments = moments_weaker (store.BootMoment (λ drive. (calls drive).some) host.drives host.site answer.end) (BootMoment host) (shelf.tale old) (shelf.tale new) (boot_moments host (shelf.sizes old) ready (λ drive. (calls drive).some) answer.end) moments

    abbrev EndAs : Answer → Memory → Type 0
    EndAs said next = AtEnd shelf (IsBootEnd calls (made_of shelf old new) host (unbooted begun) said next) old new

    end_as : (said : Answer) (next : Memory) → said ≡ answered_by answer.end → (said ≡ accepted → next ≡ memory (opened_by answer.end))
        → ((t u : Tale) → store.BootMoment (λ drive. (calls drive).some) host.drives host.site answer.end t u → BootEnds (λ drive. (calls drive).some) host.drives host.site answer t u → said ≡ accepted → BootedTo host next t u) → EndAs said next
    end_as said next said_is next_is to t told =
        let e = ends t told in
        let m = moments_end (store.BootMoment (λ drive. (calls drive).some) host.drives host.site answer.end) (shelf.tale old) (shelf.tale new) moments t told in
        let same : m.0 ≡ e.0 = some_is (shelf.tale new) m.0 e.0 m.1 e.1 in
        let moment = subst (λ (u : Tale). store.BootMoment (λ drive. (calls drive).some) host.drives host.site answer.end t u) same m.2 in (
          e.0,
          e.1,
          record {
            rebooted = record {
              end = answer.end;
              up = answer.up;
              clean = answer.clean;
              up_by = up_by shelf old new host answer is kept unclean;
              by = rebooting.ended shelf old new host answer is kept t e.0 told e.1 unclean away (λ drive. (calls drive).some) moment e.2;
              answer_is = said_is;
              memory = next_is;
              content = rebooting.left shelf old new host answer is kept t e.0 told e.1 unclean away (λ drive. (calls drive).some) moment e.2;
              beside = same_beside (boot_area host.site (has_written answer.end)) t e.0 moment.2.quiet.outside;
            };
            booted = to t e.0 moment e.2;
            synced = λ ok drive one_of calm. e.2.synced (remembered answer.end (sym said_is ∙ ok)) drive one_of calm;
            still = λ drive block on out. e.2.still drive block on out;
            unwritten = λ quiet. subst (λ (wrote : Bool). KeptOutside (boot_area host.site wrote) t e.0) quiet moment.2.quiet.outside;
            effort = rebooting.boot_calls shelf old new host answer is kept t e.0 told e.1 unclean counted (unbooted begun) next said said_is next_is;
          },
        )

    pub adopted_end : (o : Opened) → answer.end ≡ end.Adopted o → EndAs accepted (memory (Some o))
    adopted_end o so = end_as accepted (memory (Some o)) (sym (ap answered_by so)) (λ ok. ap memory (sym (ap opened_by so)))
        (λ t u moment e ok. adopted_to host (shelf.sizes old) ready (λ drive. (calls drive).some) answer begun t u moment e o so (its_key o so))

    pub empty_end : answer.end ≡ end.Empty → EndAs accepted (memory None)
    empty_end so = end_as accepted (memory None) (sym (ap answered_by so)) (λ ok. ap memory (sym (ap opened_by so)))
        (λ t u moment e ok. empty_to host (shelf.sizes old) ready (λ drive. (calls drive).some) answer begun t u moment e so)

    pub over_end : (over : Ended) → answered_by answer.end ≡ Over over → EndAs (Over over) (unbooted begun)
    over_end over so = end_as (Over over) (unbooted begun) (sym so) (λ ok. absurd (cc (ok))) (λ t u moment e ok. absurd (cc (ok)))

    -- where the tale is told the adopted table is one of the host's table of drives
    listed_told : (o : Opened) → answer.end ≡ end.Adopted o → (t : Tale) → shelf.tale old ≡ Some t → IsOfGeometry host.drives o.table
    listed_told o so t told = (let e = ends t told in (subst (λ (x : BootEnd). IfAdopted x (λ y. IsBootedTo (λ drive. (calls drive).some) host.drives host.site y t e.0)) so e.2.adopted).2.opened.of_geometry)

    counted_as : (said : Answer) (next : Memory) → said ≡ answered_by answer.end
        → (said ≡ accepted → (t : Tale) → shelf.tale old ≡ Some t → (next.opened ≡ opened_by answer.end) × (next.up ≡ answer.up) × (next.clean ≡ answer.clean))
        → (said ≡ accepted → next.clean ≡ true → (t : Tale) → shelf.tale old ≡ Some t → (next.up ≡ answer.up) × (next.clean ≡ answer.clean) × ((n : ℕ) → IsEndCounted shelf old new n answer.end → IsOpenedCounted (made_of shelf old new) n next.opened)) → IsBootedCounted shelf old new host said next
    counted_as said next said_is tied of = record {
      booted = record { booted = answer; is = is; answer_is = said_is; tied = tied };
      most = counted.most;
      clean = λ ok clean t told.
          let is_so = of ok clean t told in
          let c = counted.clean (sym is_so.1 ∙ clean) t told in
          (c.0, subst (λ (up : Drives). AreLinesBy host.drives host.site up no_drives (last t) host.site.lines c.0) (sym is_so.0) c.1, is_so.2 _ c.2);
    }

    opened_counts : (e : BootEnd) (n : ℕ) → answered_by e ≡ accepted → IsEndCounted shelf old new n e → IsOpenedCounted (made_of shelf old new) n (opened_by e)
    opened_counts (end.Adopted o) n ok calls_made = calls_made
    opened_counts end.Empty n ok calls_made = reads_between shelf old new n n n (omega arith) (omega arith) calls_made
    opened_counts (end.TwoDatabases a b) n ok calls_made = absurd (cc (ok))
    opened_counts (end.NoQuorum readable needed) n ok calls_made = absurd (cc (ok))
    opened_counts (end.Lost active listed) n ok calls_made = absurd (cc (ok))
    opened_counts end.Spent n ok calls_made = absurd (cc (ok))
    opened_counts end.Memory n ok calls_made = absurd (cc (ok))

    answered_counted : (e : BootEnd) → answer.end ≡ e → answered_by e ≡ accepted → IsBootedCounted shelf old new host accepted (memory (opened_by e))
    answered_counted e so ok = counted_as accepted (memory (opened_by e)) (sym (ap answered_by so ∙ ok)) (λ on t told. (ap opened_by (sym so), refl, refl)) (λ on clean t told. (refl, refl, λ n of. opened_counts e n ok (subst (IsEndCounted shelf old new n) so of)))

    pub over_counted : (over : Ended) (next : Memory) → answered_by answer.end ≡ Over over → IsBootedCounted shelf old new host (Over over) next
    over_counted over next so = counted_as (Over over) next (sym so) (λ ok. absurd (cc (ok))) (λ ok. absurd (cc (ok)))

    pub empty_counted : answer.end ≡ end.Empty → IsBootedCounted shelf old new host accepted (memory None)
    empty_counted so = answered_counted end.Empty so refl

    -- what was adopted, where it is kept
    module _ (o : Opened) (so : answer.end ≡ end.Adopted o) (database : Option Opened) (fits : IsFitting host.drives o database) where
      never : (IsOfGeometry host.drives o.table → ⊥) → (t : Tale) → shelf.tale old ≡ Some t → ⊥
      never off t told = off (listed_told o so t told)

      pub fitting_end : EndAs accepted (memory database)
      fitting_end = by database fits where
        by : (d : Option Opened) → IsFitting host.drives o d → EndAs accepted (memory d)
        by (Some kept_one) is_it = subst (λ (x : Opened). EndAs accepted (memory (Some x))) (sym is_it.0) (adopted_end o so)
        by None off = λ t told. absurd (never off t told)

      pub fitting_counted : IsBootedCounted shelf old new host accepted (memory database)
      fitting_counted = by database fits where
        by : (d : Option Opened) → IsFitting host.drives o d → IsBootedCounted shelf old new host accepted (memory d)
        by (Some kept_one) is_it = subst (λ (x : Opened). IsBootedCounted shelf old new host accepted (memory (Some x))) (sym is_it.0) (answered_counted (end.Adopted o) so refl)
        by None off = counted_as accepted (memory None) (sym (ap answered_by so)) (λ ok t told. absurd (never off t told)) (λ ok clean t told. absurd (never off t told))

      pub fitting_cause : IsAnsweredBy calls host (memory database)
      fitting_cause = by database fits where
        by : (d : Option Opened) → IsFitting host.drives o d → IsAnsweredBy calls host (memory d)
        by (Some kept_one) is_it = subst (λ (x : Opened). IsAnsweredBy calls host (memory (Some x))) (sym is_it.0) (adopted_cause o so)
        by None off = unfitting_cause o so

      pub fitting_well : IsWell host (memory database)
      fitting_well = by database fits where
        by : (d : Option Opened) → IsFitting host.drives o d → IsWell host (memory d)
        by (Some kept_one) is_it = subst (λ (x : Opened). IsWell host (memory (Some x))) (sym is_it.0) (adopted_well o so is_it.1)
        by None off = record { database = tt; entries = none_listed }
