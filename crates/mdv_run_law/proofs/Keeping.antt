-- What two courses keep in common, as far as a boot and a line can tell.
use Rattle.std.proofs.Common.{◌≡◌, ◌⊎◌, ◌++◌, inl, inr, ℕ, ◌+◌, ◌<◌, Bool, true, false, cond, not, slice_get, slice_index_or, List, [], ◌∷◌, Option, None, Some, Contains, length, refl, sym, ◌∙◌, ap, subst, arith}
use Rattle.std.proofs.lemmas.Bool.{cases_Bool, false≢true}
use Rattle.std.specs.List.{find, list_any}
use Rattle.std.proofs.lemmas.List.Elements.{Contains-append_cases, Contains-append_left, Contains-append_right, filter_map-append}
use Rattle.std.proofs.lemmas.List.Kept.{AllPairs-filter}
use Rattle.mdv_base.specs.declared.place.Place.{Place}
use Rattle.mdv_base.specs.DriveSet.{has_drive}
use Rattle.mdv_base.specs.declared.mark.Identity.{Identity}
use Rattle.mdv_base.specs.declared.name.Key.{Key}
use Rattle.mdv_name.specs.declared.geometry.Geometry.{Geometry}
use Rattle.mdv_dev.specs.Pieces.{LiesAt}
use Rattle.mdv_dev.proofs.Copies.{one_place, reads_there}
use Rattle.mdv_map.specs.Maps.{HasDriveBlock}
use Rattle.mdv_encoding.proofs.Reading.{is_read}
use Rattle.mdv_encoding.specs.Text.{record_bytes}
use Rattle.mdv_replica.specs.declared.replica.Head.{Head}
use Rattle.mdv_shown.specs.Found.{IsFound}
use Rattle.mdv_run_law.proofs.Meaning.{formed_as, none_formed}
use Rattle.mdv_run_law.specs.Below.{Among, Answer, AreInForm, ArePut, DriveNo, Drives, Host, Image, IsOfGeometry, IsRebooted, IsSameBeside, Kept, Map, Memory, Opened, OutOfMemory, Site, SliceLine, Spells, Stays, key_of, readings, site_area, site_of}
use Rattle.mdv_shelf.specs.Failing.{Outcomes}
use Rattle.mdv_shown.proofs.Sites.{law_sites}
use Rattle.mdv_shown.specs.Site.{IsSite}
use Rattle.mdv_shown.specs.Sites.{is_line_of}
use Rattle.mdv_store.proofs.Sitting.{contains_behind, contains_first, first_or_behind, left_replica, replica_of, seat_of}
use Rattle.mdv_replica.specs.declared.replica.Slot.{Slot}
use Rattle.mdv_shown.specs.Shown.{IsNewestOf}
use Rattle.mdv_store.proofs.Again.{none_all, none_of}
use Rattle.mdv_store.proofs.Adoptions.{takes_stay}
use Rattle.mdv_store.proofs.Passes.{left_told, mapped, unmapped}
use Rattle.mdv_store.proofs.Rows.{part_filter, part_has}
use Rattle.mdv_store.proofs.Told.{found_read, last_enough}
use Rattle.mdv_store.specs.Boot.{IsEndBy, TakesAll, TakesBoth, gone_found, greatest_number, is_memory, is_seated, last_found, seat_for, seats_of}
use Rattle.mdv_store.specs.Settled.{gone_of}
use Rattle.mdv_survey.specs.Replica.{at_of}
use Rattle.mdv_survey.specs.declared.replica.Newest.{Newest}
use Rattle.mdv_config.proofs.Beside.{among-true}
use Rattle.mdv_config.specs.Lists.{beside, last_of, same_place}
use Rattle.mdv_plan.specs.declared.lists.Lists.{Lists}
use Rattle.mdv_plan.specs.declared.lists.Lists.TheVariants.{One as OneList, Two}
use Rattle.mdv_plan.specs.declared.table.Table.{Table}
use Rattle.mdv_store.specs.Booting.{boot_area, has_written}
use Rattle.mdv_store.specs.Progress.{all_written}
use Rattle.mdv_store.specs.Seats.{AreLeft, active_of, drive_of, replica_area, replicas_of, seats_area}
use Rattle.mdv_store.specs.Text.{blocks_for}
use Rattle.mdv_store.specs.declared.booting.BootEnd.{BootEnd}
use Rattle.mdv_store.specs.declared.booting.BootEnd.TheVariants as end
use Rattle.mdv_store.specs.declared.seats.Seat.{Seat}
use Rattle.mdv_survey.specs.declared.replica.Replica.{Replica}
use Rattle.mdv_survey.specs.declared.replica.Survey.{Survey}
use Rattle.mdv_config.specs.Lists.{places_of}
use Rattle.mdv_engine_law.specs.Answers.{accepted, refusing}
use Rattle.mdv_engine_law.specs.Line.{IsLeftBy, IsOpenOn, IsReadOf, IsUpBy, LeftHoldOn, WritesBy, answered_by, booted_with, open_under, opened_by}
use Rattle.mdv_engine_law.specs.declared.answer.Answer.TheVariants.{Over}
use Rattle.mdv_engine_law.specs.declared.answer.Ended.TheVariants as ended
use Rattle.mdv_run_law.specs.Run.{AreOnce, IsOfTable, IsSaid, IsSameMemory}
use Rattle.mdv_run_law.proofs.Ending.{one_end}
use Rattle.mdv_run_law.proofs.Moving.{IsAlike, IsAway, IsChanged, IsThere, alike_beside, alike_written, areas, changed_written, found_of, here_beside, here_of, newest_beside, one_text}
use Rattle.mdv_run_law.proofs.Passing.{NoneFailed, left_active, left_is, rewritten, rewritten_is, seats_with}
use Rattle.mdv_run_law.proofs.Placing.{off_or_there}
use Rattle.mdv_run_law.proofs.Surveyed.{IsAllOf, one_survey}
use Rattle.mdv_run_law.proofs.Written.{its_each}
use Rattle.mdv_store.proofs.Shares.{some_more}

-- an answer that tells nothing of a want of memory
pub record IsSatisfied (answer : Answer) : Type 0 where
  pub not_refused : answer ≡ refusing OutOfMemory → ⊥
  pub not_wanting : answer ≡ Over ended.Memory → ⊥

-- memories that are those of others which have the same
pub same_through : (n k j m : Memory) → n ≡ k → m ≡ j → IsSameMemory k j → IsSameMemory n m
same_through n k j m one other same = subst (λ (x : Memory). IsSameMemory x m) (sym one) (subst (λ (x : Memory). IsSameMemory k x) (sym other) same)

pub same_back : (k j : Memory) → IsSameMemory k j → IsSameMemory j k
same_back k j is = record { opened = sym is.opened; up = λ drive. sym (is.up drive); unsteady = λ drive. sym (is.unsteady drive); clean = sym is.clean; begun = sym is.begun; entries = sym is.entries }

-- a boot that was refused memory is answered so
memory_answer : (e : BootEnd) → is_memory e ≡ true → answered_by e ≡ Over ended.Memory
memory_answer (end.Adopted o) is = absurd (cc (is))
memory_answer end.Empty is = absurd (cc (is))
memory_answer (end.TwoDatabases a b) is = absurd (cc (is))
memory_answer (end.NoQuorum readable needed) is = absurd (cc (is))
memory_answer (end.Lost active listed) is = absurd (cc (is))
memory_answer end.Spent is = absurd (cc (is))
memory_answer end.Memory is = refl

said_accepted : (e : BootEnd) → IsSaid (answered_by e) → answered_by e ≡ accepted
said_accepted (end.Adopted o) said = refl
said_accepted end.Empty said = refl
said_accepted (end.TwoDatabases a b) said = absurd said
said_accepted (end.NoQuorum readable needed) said = absurd said
said_accepted (end.Lost active listed) said = absurd said
said_accepted end.Spent said = absurd said
said_accepted end.Memory said = absurd said

pub first_of : {X : Type 0} (xs : List X) → 0 < length xs → (x : X) × Contains xs x
first_of [] some = absurd (omega (arith, some))
first_of (x ∷ xs) some = (x, contains_first x xs)

-- which drives a boot brings up by which no call failed: those of the host's site
module _ (host : Host) (calls also : Outcomes) (calm : NoneFailed calls) (calm_too : NoneFailed also) (e : BootEnd) (so : is_memory e ≡ false) where
  up_is : (failed : Outcomes) → NoneFailed failed → (up over : Drives) (clean other : Bool) → IsUpBy failed host e up clean → (else_calls : Outcomes) → IsUpBy else_calls host e over other → (drive : DriveNo) → has_drive up drive ≡ false → has_drive over drive ≡ true → ⊥
  up_is failed never up over clean other is else_calls has drive down there =
      let none = has.others drive (λ one_of. never drive.0 (is.down so drive one_of down)) in
      false≢true (sym none.0 ∙ there)

  same_up : (up over : Drives) (clean other : Bool) → IsUpBy calls host e up clean → IsUpBy also host e over other → (drive : DriveNo) → has_drive up drive ≡ has_drive over drive
  same_up up over clean other one two drive = by (has_drive up drive) (has_drive over drive) refl refl where
    by : (a b : Bool) → has_drive up drive ≡ a → has_drive over drive ≡ b → has_drive up drive ≡ has_drive over drive
    by true true a b = a ∙ sym b
    by false false a b = a ∙ sym b
    by false true a b = absurd (up_is calls calm up over clean other one also two drive a b)
    by true false a b = absurd (up_is also calm_too over up other clean two calls one drive b a)

  all_clean : (failed : Outcomes) → NoneFailed failed → (up : Drives) (clean : Bool) → IsUpBy failed host e up clean → clean ≡ true
  all_clean failed never up true is = refl
  all_clean failed never up false is = elim is.calm [ inl memory ↦ absurd (false≢true (sym so ∙ memory)) | inr one ↦ absurd (never one.0.0 one.2) ]

  -- so two boots that find the same have the same in memory
  booted_same : (opened : Option Opened) (up over : Drives) (clean other : Bool) (begun begun_too : ℕ) → begun ≡ begun_too → IsUpBy calls host e up clean → IsUpBy also host e over other
      → IsSameMemory (booted_with opened up clean begun) (booted_with opened over other begun_too)
  booted_same opened up over clean other begun begun_too number is is_too = record {
    opened = refl;
    up = same_up up over clean other is is_too;
    unsteady = λ drive. refl;
    clean = all_clean calls calm up clean is ∙ sym (all_clean also calm_too over other is_too);
    begun = number;
    entries = refl;
  }

-- those that the new list lacks, as what was read settles it
abbrev gone_now : List Replica → Newest → Replica → List Seat
gone_now all it r = seats_with (rewritten (greatest_number r.head.master.identity all + 1) (record_bytes it.table)) (seats_of all r.head.master.identity (blocks_for (record_bytes it.table)) (gone_of it.table.plan.lists))

module _ (host : Host) (has : IsOfTable host) (once : AreOnce host.drives.slices) where
  -- where a boot looks
  pub ok : IsSite host.site
  ok = subst IsSite (sym has.site) (law_sites.sites host.drives (key_of host) has.sound)

  once_there : AreOnce host.site.lines
  once_there = subst (λ (s : Site). AreOnce s.lines) (sym has.site) (AllPairs-filter (λ (a b : SliceLine). a ≡ b → ⊥) (is_line_of host.drives (key_of host)) host.drives.slices once)

  brought : (line : SliceLine) → Contains host.site.lines line → Contains host.site.drives line.at.drive
  brought line one_of =
      subst (λ (s : Site). Contains s.drives line.at.drive) (sym has.site) (law_sites.brought host.drives (key_of host) line (subst (λ (s : Site). Contains s.lines line) has.site one_of))

  -- a boot finds the same in both
  abbrev pub Alike : Image → Image → Type 0
  Alike c d = IsAlike host.drives host.site ok c d

  abbrev pub There : Image → Replica → Type 0
  There c r = IsThere host.drives host.site ok c r

  -- the database that is open in memory is on the drives, at one of its places at least
  pub record IsHeld (o : Opened) (content : Image) : Type 0 where
    pub key : o.key ≡ key_of host
    pub some : 0 < active_of o.seats
    pub on : IsOpenOn host.drives o content

  abbrev pub Settled : Kept → Type 0
  Settled kept = (o : Opened) → kept.memory.opened ≡ Some o → IsHeld o kept.content

  -- The same is in memory, its entries in their form, and in each block that no replica may have; and as long as a boot may come it finds the same.
  pub record Same (may : Type 0) (k j : Kept) : Type 0 where
    pub memory : IsSameMemory k.memory j.memory
    pub beside : (drive block : ℕ) → site_area host.site drive block ≡ false → k.content drive block ≡ j.content drive block
    pub alike : may → Alike k.content j.content
    pub formed : AreInForm k.memory.entries
    pub one : Settled k
    pub other : Settled j

  -- what a line comes to: the same answer, and after a reply the same is kept
  abbrev pub One : Type 0 → Kept → Kept → Answer → Answer → Type 0
  One may n m a b = (a ≡ b) × (IsSaid a → Same may n m)

  -- where less may come
  pub same_weaker : (may then : Type 0) (k j : Kept) → (then → may) → Same may k j → Same then k j
  same_weaker may then k j to same = record { memory = same.memory; beside = same.beside; alike = λ wanted. same.alike (to wanted); formed = same.formed; one = same.one; other = same.other }

  some_same : {A : Type 0} (a b : A) → Some a ≡ Some b → a ≡ b
  some_same a b is = cc (is)

  -- it lies where a boot of its key looks
  pub its_site : (o : Opened) → o.key ≡ key_of host → host.site ≡ site_of host.drives o.key
  its_site o key = has.site ∙ ap (site_of host.drives) (sym key)

  pub there_each : (o : Opened) (content : Image) → IsHeld o content → (r : Replica) → Contains (replicas_of o.seats) r → There content r
  there_each o content held = its_each host.drives host.site ok o (its_site o held.key) content held.on

  -- its table is one of the host's drives
  pub plan_of : (o : Opened) (content : Image) → IsHeld o content → IsOfGeometry host.drives o.table
  plan_of o content held =
      let one = first_of (replicas_of o.seats) held.some in
      ((is_read host.drives has.sound _ o.table).0 (held.on.shown one.0 one.1).1.shows.text).of_geometry

  -- where no block of the site changed
  open_kept : (o : Opened) (old new : Image) → o.key ≡ key_of host → ((drive block : ℕ) → site_area host.site drive block ≡ true → new drive block ≡ old drive block) → IsOpenOn host.drives o old → IsOpenOn host.drives o new
  open_kept o old new key same opens = record {
    each = λ r among. (let own = opens.each r among in record {
      found = subst (λ (s : Site). Found s r new) site (found_of (Spells host.drives) (one_text host.drives) host.site ok new r (here_beside (Spells host.drives) (one_text host.drives) host.site ok old new same r (there r among)) (own.found.of_key ∙ key));
      of_identity = own.of_identity;
    });
    shown = λ r among. (let newest = opens.shown r among in
        (newest.0, newest_beside (Spells host.drives) (one_text host.drives) host.site ok old new same r (there r among) newest.0 o.mark o.table newest.1));
  } where
    site : host.site ≡ site_of host.drives o.key
    site = its_site o key

    Found : Site → Replica → Image → Type 0
    Found s r image = IsFound (Spells host.drives) s r.line r.number (image r.line.at.drive.0) r.first r.head

    there : (r : Replica) → Contains (replicas_of o.seats) r → There old r
    there = its_each host.drives host.site ok o site old opens

  held_kept : (o : Opened) (old new : Image) → ((drive block : ℕ) → site_area host.site drive block ≡ true → new drive block ≡ old drive block) → IsHeld o old → IsHeld o new
  held_kept o old new same held = record { key = held.key; some = held.some; on = open_kept o old new held.key same held.on }

  pub there_settled : (kept next : Kept) → Settled kept → next.memory.opened ≡ kept.memory.opened → ((drive block : ℕ) → site_area host.site drive block ≡ true → next.content drive block ≡ kept.content drive block) → Settled next
  there_settled kept next settled opened same o is = held_kept o kept.content next.content same (settled o (sym opened ∙ is))

  pub stays_same : (may : Type 0) (k j n m : Kept) → Same may k j → Stays k n → Stays j m → Same may n m
  stays_same may k j n m same one other = record {
    memory = same_through n.memory k.memory j.memory m.memory one.memory other.memory same.memory;
    beside = λ drive block out. one.content drive block ∙ same.beside drive block out ∙ sym (other.content drive block);
    alike = λ wanted. alike_beside (Spells host.drives) (one_text host.drives) host.site ok k.content j.content n.content m.content (λ drive block within. one.content drive block) (λ drive block within. other.content drive block) (same.alike wanted);
    formed = formed_as n.memory k.memory (ap (λ (m : Memory). m.entries) one.memory) same.formed;
    one = there_settled k n same.one (ap (λ (m : Memory). m.opened) one.memory) (λ drive block within. one.content drive block);
    other = there_settled j m same.other (ap (λ (m : Memory). m.opened) other.memory) (λ drive block within. other.content drive block);
  }

  -- the places that the new list lacks show the table of both
  gone_hold : (g : Geometry) (key : Key) (identity : Identity) (number : ℕ) (table : Table) (failed : Outcomes) (Took : Replica → Replica → Type 0) (rs : List Replica) (its : Identity) (text : ℕ) (lists : Lists) (last gone : List Seat) (content : Image)
      → AreLeft failed Took (seats_of rs its text (gone_of lists)) gone → LeftHoldOn g key identity number table (all_written lists last gone) content → IsOpenOn g (open_under key identity number 0 table gone) content
  gone_hold g key identity number table failed Took rs its text (OneList list) last [] content over hold = record { each = λ r has. absurd (omega (arith, has.1)); shown = λ r has. absurd (omega (arith, has.1)) }
  gone_hold g key identity number table failed Took rs its text (OneList list) last (s ∷ gone) content over hold = absurd over
  gone_hold g key identity number table failed Took rs its text (Two old new) last gone content over hold = hold.1

  -- A boot that wasn't refused memory, by its end.
  record Booted (calls : Outcomes) (k n : Kept) (e : BootEnd) : Type 0 where
    up : Drives
    clean : Bool
    up_by : IsUpBy calls host e up clean
    survey : Survey
    all : IsAllOf host.drives host.site ok once_there brought k.content survey
    by : IsEndBy calls (λ hand table progress. WritesBy host.drives host.site.key k.content n.content hand.identity hand.number hand.seats table progress) host.site survey e
    memory : IsSaid (answered_by e) → n.memory ≡ booted_with (opened_by e) up clean k.memory.begun
    content : IsLeftBy host.drives e n.content
    beside : IsSameBeside (boot_area host.site (has_written e)) k.content n.content

  module _ (calls : Outcomes) (calm : NoneFailed calls) (k n : Kept) where
    read_all : (up : Drives) {e : BootEnd} (survey : Survey) → IsReadOf calls host k.content up e survey → IsAllOf host.drives host.site ok once_there brought k.content survey
    read_all up survey is = record {
      calm = is.calm;
      each = λ drive one_of. elim (cases_Bool (has_drive is.calm drive)) [ inl there ↦ there | inr never ↦ absurd (calm drive.0 (is.failed drive one_of never)) ];
      survey_is = is.survey_is;
      of = is.of;
      none = is.none;
    }

    -- it has come to that
    booted : (a : Answer) → IsSatisfied a → (is : IsRebooted calls host k a n) → (is_memory is.end ≡ false) × Booted calls k n is.end
    booted a sated is = elim is.by [
      | inl memory ↦ absurd (sated.not_wanting (is.answer_is ∙ memory_answer is.end memory))
      | inr by ↦ (
        elim (cases_Bool (is_memory is.end)) [
          | inl memory ↦ absurd (sated.not_wanting (is.answer_is ∙ memory_answer is.end memory))
          | inr so ↦ so
        ],
        record {
          up = is.up;
          clean = is.clean;
          up_by = is.up_by;
          survey = by.0;
          all = read_all is.up by.0 by.1;
          by = by.2;
          memory = λ said. is.memory (is.answer_is ∙ said_accepted is.end said);
          content = is.content;
          beside = is.beside;
        },
      )
    ]

    -- what was adopted is on the drives
    adopted_held : (o : Opened) → Booted calls k n (end.Adopted o) → IsHeld o n.content
    adopted_held o is = record {
      key = ap (λ (x : Opened). x.key) is.by.is;
      some = (
          let active = left_active calls calm _ (last_found is.survey is.by.newest is.by.replica) o.seats is.by.left in
          let most = some_more (last_found is.survey is.by.newest is.by.replica) (OneList (last_of is.by.newest.table.plan.lists)) (last_enough is.survey is.by.newest is.by.replica is.by.seats is.by.drawn.hand is.by.drawn.enough) in
          omega (arith, active, most));
      on = is.content;
    }

    -- Nothing was written but there, and at those places that the new list lacks.
    module _ (o : Opened) (is : Booted calls k n (end.Adopted o)) where
      abbrev rs : List Replica
      rs = is.survey.replicas

      abbrev newest : Newest
      newest = is.by.newest

      abbrev lists : Lists
      lists = newest.table.plan.lists

      abbrev found : List Place → List Seat
      found = seats_of rs is.by.replica.head.master.identity (blocks_for (record_bytes newest.table))

      -- the database as both passes left it there
      abbrev left_open : Opened
      left_open = open_under host.site.key is.by.written.hand.identity is.by.written.hand.number 0 newest.table is.by.gone

      gone_on : IsOpenOn host.drives left_open n.content
      gone_on = gone_hold host.drives host.site.key is.by.written.hand.identity is.by.written.hand.number newest.table calls (TakesBoth is.by.number (record_bytes newest.table)) rs is.by.replica.head.master.identity (blocks_for (record_bytes newest.table)) lists o.seats is.by.gone n.content is.by.over is.by.written.wrote.hold

      abbrev written_at : List Replica
      written_at = replicas_of (o.seats ++ is.by.gone)

      in_both : (r : Replica) → Contains written_at r → Contains (replicas_of o.seats) r ⊎ Contains (replicas_of is.by.gone) r
      in_both r has = Contains-append_cases (replicas_of o.seats) (replicas_of is.by.gone) r (subst (λ (l : List Replica). Contains l r) (filter_map-append (λ (s : Seat). s.replica) o.seats is.by.gone) has)

      of_both : (r : Replica) → Contains (replicas_of o.seats) r ⊎ Contains (replicas_of is.by.gone) r → Contains written_at r
      of_both r has = subst (λ (l : List Replica). Contains l r) (sym (filter_map-append (λ (s : Seat). s.replica) o.seats is.by.gone)) (elim has [
        | inl here ↦ Contains-append_left (replicas_of o.seats) (replicas_of is.by.gone) r here
        | inr gone ↦ Contains-append_right (replicas_of o.seats) (replicas_of is.by.gone) r gone
      ])

      stay : (r m : Replica) → TakesBoth is.by.number (record_bytes newest.table) r m → m ≡ record r { head = m.head }
      stay r m took = took.2 ∙ ap (λ (h : Head). record r { head = h }) (sym (ap (λ (x : Replica). x.head) took.2))

      -- each of them was found
      came : (m : Replica) → Contains written_at m → (r : Replica) × Contains rs r × (m ≡ record r { head = m.head })
      came m has = elim (in_both m has) [
        | inl here ↦ (
            let one = left_replica calls (TakesAll is.by.number newest.table) (last_found is.survey newest is.by.replica) o.seats m is.by.left here in
            (one.0, found_read is.survey newest is.by.replica is.by.seats is.by.drawn.hand (last_of lists) one.0 one.1, takes_stay is.by.number newest.table one.0 m one.2))
        | inr gone ↦ (
            let one = left_replica calls (TakesBoth is.by.number (record_bytes newest.table)) (gone_found is.survey newest is.by.replica) is.by.gone m is.by.over gone in
            (one.0, found_read is.survey newest is.by.replica is.by.seats is.by.drawn.hand (gone_of lists) one.0 one.1, stay one.0 m one.2))
      ]

      before : (m : Replica) → Contains written_at m → (h : Head) × There k.content (record { line = m.line; number = m.number; first = m.first; head = h })
      before m has =
          let one = came m has in
          let there = here_of (Spells host.drives) (one_text host.drives) host.site ok k.content one.0 (is.all.of.each one.0 one.1) in
          (one.0.head, subst (λ (x : Replica). There k.content (record { line = x.line; number = x.number; first = x.first; head = one.0.head })) (sym one.2) there)

      each : (key : host.site ≡ site_of host.drives o.key) (m : Replica) → Contains written_at m → There n.content m
      each key m there = elim (in_both m there) [
        | inl here ↦ its_each host.drives host.site ok o key n.content is.content m here
        | inr gone ↦ its_each host.drives host.site ok left_open (its_site left_open (ap (λ (s : Site). s.key) has.site)) n.content gone_on m gone
      ]

      -- a place of both lists is the new one's, or one that it lacks
      one_of : (l : Lists) (p : Place) → Contains (places_of l) p → Contains (last_of l) p ⊎ Contains (gone_of l) p
      one_of (OneList list) p there = inl there
      one_of (Two old new) p there = elim (Contains-append_cases old (beside old new) p there) [
        | inl first ↦ (elim (cases_Bool (list_any (same_place p) new)) [ inl among ↦ inl ((among-true new p).0 among) | inr away ↦ inr (beside_has old away first) ])
        | inr last ↦ inl (part_has (beside old new) new p (part_filter (λ (q : Place). not (list_any (same_place q) old)) new) last)
      ]
        where
          beside_has : (xs : List Place) → list_any (same_place p) new ≡ false → Contains xs p → Contains (beside new xs) p
          beside_has [] away has = absurd (omega (arith, has.1))
          beside_has (x ∷ xs) away has = by (list_any (same_place x) new) refl (beside_has xs away) where
            by : (b : Bool) → list_any (same_place x) new ≡ b → (Contains xs p → Contains (beside new xs) p) → Contains (cond (not b) (x ∷ beside new xs) (beside new xs)) p
            by true is rest = elim (first_or_behind x p xs has) [ inl here ↦ absurd (false≢true (sym away ∙ ap (λ (q : Place). list_any (same_place q) new) (sym here) ∙ is)) | inr behind ↦ rest behind ]
            by false is rest = elim (first_or_behind x p xs has) [ inl here ↦ subst (Contains (x ∷ beside new xs)) here (contains_first x (beside new xs)) | inr behind ↦ contains_behind x p (beside new xs) (rest behind) ]

      of_place : (places : List Place) (p : Place) (r : Replica) → Contains places p → find (is_seated is.by.replica.head.master.identity p (blocks_for (record_bytes newest.table))) rs ≡ Some r → Contains (replicas_of (found places)) r
      of_place places p r there some = replica_of (found places) (seat_for rs is.by.replica.head.master.identity (blocks_for (record_bytes newest.table)) p) r (mapped (seat_for rs is.by.replica.head.master.identity (blocks_for (record_bytes newest.table))) places p there) some

      -- so each block outside them is as it was
      out_there : (drive block : ℕ) → areas written_at drive block ≡ false → (r : Replica) → Contains (replicas_of is.by.seats) r → replica_area r drive block ≡ false
      out_there drive block out r has =
          let seat = seat_of (found (places_of lists)) r (subst (λ (ss : List Seat). Contains (replicas_of ss) r) is.by.drawn.hand.seats_are has) in
          let place = unmapped (seat_for rs is.by.replica.head.master.identity (blocks_for (record_bytes newest.table))) (places_of lists) seat.0 seat.1 in
          let some = ap (λ (s : Seat). s.replica) place.2 ∙ seat.2 in
          elim (one_of lists place.0 place.1) [
            | inl last ↦ (elim (left_told calls (TakesAll is.by.number newest.table) (last_found is.survey newest is.by.replica) o.seats is.by.left r (of_place (last_of lists) place.0 r last some)) [
              | inl failed ↦ absurd (calm (drive_of r) failed)
              | inr m ↦ ap (λ (x : Replica). replica_area x drive block) (sym (takes_stay is.by.number newest.table r m.0 m.3)) ∙ none_of (λ (x : Replica). replica_area x drive block) written_at m.0 out (of_both m.0 (inl m.1))
            ])
            | inr gone ↦ (elim (left_told calls (TakesBoth is.by.number (record_bytes newest.table)) (gone_found is.survey newest is.by.replica) is.by.gone is.by.over r (of_place (gone_of lists) place.0 r gone some)) [
              | inl failed ↦ absurd (calm (drive_of r) failed)
              | inr m ↦ ap (λ (x : Replica). replica_area x drive block) (sym (stay r m.0 m.3)) ∙ none_of (λ (x : Replica). replica_area x drive block) written_at m.0 out (of_both m.0 (inr m.1))
            ])
          ]

      same_out : (drive block : ℕ) → areas written_at drive block ≡ false → n.content drive block ≡ k.content drive block
      same_out drive block out =
          is.by.written.wrote.to drive block (subst (λ (ss : List Seat). seats_area ss drive block ≡ false) (sym is.by.written.seats_are) (none_all (λ (r : Replica). replica_area r drive block) (replicas_of is.by.seats) (out_there drive block out)))

      adopted_changed : (key : host.site ≡ site_of host.drives o.key) → IsChanged (Spells host.drives) (one_text host.drives) host.site ok (IsAway (Spells host.drives) (one_text host.drives) host.site ok written_at) written_at k.content n.content
      adopted_changed key = changed_written (Spells host.drives) (one_text host.drives) host.site ok written_at k.content n.content same_out before (each key)

      gone_is : is.by.gone ≡ gone_now rs newest is.by.replica
      gone_is = left_is calls calm (TakesBoth is.by.number (record_bytes newest.table)) (rewritten is.by.number (record_bytes newest.table)) (rewritten_is is.by.number (record_bytes newest.table)) (gone_found is.survey newest is.by.replica) is.by.gone is.by.over
          ∙ ap (λ (number : ℕ). seats_with (rewritten number (record_bytes newest.table)) (gone_found is.survey newest is.by.replica)) is.by.drawn.number_is

    no_database : (e : BootEnd) (is : Booted calls k n e) → IsSaid (answered_by e) → opened_by e ≡ None → Settled n
    no_database e is said none o opened = absurd (let never : None ≡ Some o = sym none ∙ sym (ap (λ (m : Memory). m.opened) (is.memory said)) ∙ opened in cc (never))

    settled_behind : (e : BootEnd) → Booted calls k n e → IsSaid (answered_by e) → Settled n
    settled_behind (end.Adopted o) is said = λ p opened.
        subst (λ (x : Opened). IsHeld x n.content) (some_same o p (sym (ap (λ (m : Memory). m.opened) (is.memory said)) ∙ opened)) (adopted_held o is)
    settled_behind end.Empty is said = no_database end.Empty is said refl
    settled_behind (end.TwoDatabases a b) is said = absurd said
    settled_behind (end.NoQuorum readable needed) is said = absurd said
    settled_behind (end.Lost active listed) is said = absurd said
    settled_behind end.Spent is said = absurd said
    settled_behind end.Memory is said = absurd said

    out_behind : (e : BootEnd) → Booted calls k n e → IsSaid (answered_by e) → IsSameBeside (site_area host.site) k.content n.content
    out_behind (end.Adopted o) is said = is.beside
    out_behind end.Empty is said = λ drive block out. is.beside drive block refl
    out_behind (end.TwoDatabases a b) is said = absurd said
    out_behind (end.NoQuorum readable needed) is said = absurd said
    out_behind (end.Lost active listed) is said = absurd said
    out_behind end.Spent is said = absurd said
    out_behind end.Memory is said = absurd said

  -- two boots from blocks that a boot can't tell apart
  module _ (calls also : Outcomes) (calm : NoneFailed calls) (calm_too : NoneFailed also) (k j n m : Kept) (a b : Answer) (alike : Alike k.content j.content) (begun : k.memory.begun ≡ j.memory.begun)
      (beside : (drive block : ℕ) → site_area host.site drive block ≡ false → k.content drive block ≡ j.content drive block) (sated : IsSatisfied a) (sated_too : IsSatisfied b) where
    alike_end : (e : BootEnd) → Booted calls k n e → Booted also j m e → IsSaid (answered_by e) → Alike n.content m.content
    alike_end (end.Adopted o) one two said =
        let key = its_site o (adopted_held calls calm k n o one).key in
        let surveys = one_survey host.drives host.site ok once_there brought k.content j.content alike one.survey two.survey one.all two.all in
        let newest : one.by.newest ≡ two.by.newest = some_same one.by.newest two.by.newest (sym one.by.drawn.hand.newest_is ∙ surveys.newest ∙ two.by.drawn.hand.newest_is) in
        let replica : one.by.replica ≡ two.by.replica = some_same one.by.replica two.by.replica (sym one.by.drawn.hand.the.one_of ∙ (λ i. slice_get (surveys.replicas i) (newest i).replica) ∙ two.by.drawn.hand.the.one_of) in
        let gone : one.by.gone ≡ two.by.gone = gone_is calls calm k n o one ∙ (λ i. gone_now (surveys.replicas i) (newest i) (replica i)) ∙ sym (gone_is also calm_too j m o two) in
        let number : one.by.written.hand.number ≡ two.by.written.hand.number =
        one.by.written.number_is ∙ one.by.drawn.number_is ∙ (λ i. greatest_number (replica i).head.master.identity (surveys.replicas i) + 1) ∙ sym two.by.drawn.number_is ∙ sym two.by.written.number_is in
        let rs : List Replica = replicas_of (o.seats ++ one.by.gone) in
        let both : IsChanged (Spells host.drives) (one_text host.drives) host.site ok (IsAway (Spells host.drives) (one_text host.drives) host.site ok rs) rs j.content m.content =
        subst (λ (ss : List Seat). IsChanged (Spells host.drives) (one_text host.drives) host.site ok (IsAway (Spells host.drives) (one_text host.drives) host.site ok (replicas_of (o.seats ++ ss))) (replicas_of (o.seats ++ ss)) j.content m.content) (sym gone) (adopted_changed also calm_too j m o two key) in
        alike_written (Spells host.drives) (one_text host.drives) host.site ok (IsAway (Spells host.drives) (one_text host.drives) host.site ok rs) rs k.content j.content n.content m.content alike (adopted_changed calls calm k n o one key) both
        (λ r has. elim (in_both calls calm k n o one r has) [
          | inl here ↦ (o.mark, o.table, one.content.shown r here, two.content.shown r here)
          | inr left ↦ (
            record { boot = one.by.written.hand.number; count = 0 },
            one.by.newest.table,
            (gone_on calls calm k n o one).shown r left,
            shown_too r (one.by.written.hand.number) (two.by.written.hand.number) (one.by.newest.table) (two.by.newest.table) (sym number) (ap (λ (x : Newest). x.table) (sym newest)) m.content ((gone_on also calm_too j m o two).shown r (subst (λ (ss : List Seat). Contains (replicas_of ss) r) gone left)),
          )
        ])
      where
        shown_too : (r : Replica) (a b : ℕ) (t u : Table) → b ≡ a → u ≡ t → (c : Image) → (slot : Slot) × IsNewestOf (Spells host.drives) (at_of r) (c r.line.at.drive.0) r.head slot (record { boot = b; count = 0 }) u → (slot : Slot) × IsNewestOf (Spells host.drives) (at_of r) (c r.line.at.drive.0) r.head slot (record { boot = a; count = 0 }) t
        shown_too r a b t u numbers tables c shown = subst (λ (x : ℕ). (slot : Slot) × IsNewestOf (Spells host.drives) (at_of r) (c r.line.at.drive.0) r.head slot (record { boot = x; count = 0 }) t) numbers
            (subst (λ (x : Table). (slot : Slot) × IsNewestOf (Spells host.drives) (at_of r) (c r.line.at.drive.0) r.head slot (record { boot = b; count = 0 }) x) tables shown)
    alike_end end.Empty one two said =
        alike_beside (Spells host.drives) (one_text host.drives) host.site ok k.content j.content n.content m.content (λ drive block within. one.beside drive block refl) (λ drive block within. two.beside drive block refl) alike
    alike_end (end.TwoDatabases x y) one two said = absurd said
    alike_end (end.NoQuorum readable needed) one two said = absurd said
    alike_end (end.Lost active listed) one two said = absurd said
    alike_end end.Spent one two said = absurd said
    alike_end end.Memory one two said = absurd said

    same_end : (may : Type 0) (e : BootEnd) → is_memory e ≡ false → Booted calls k n e → Booted also j m e → IsSaid (answered_by e) → Same may n m
    same_end may e so one two said = record {
      memory = same_through n.memory (booted_with (opened_by e) one.up one.clean k.memory.begun) (booted_with (opened_by e) two.up two.clean j.memory.begun) m.memory (one.memory said) (two.memory said)
          (booted_same host calls also calm calm_too e so (opened_by e) one.up two.up one.clean two.clean k.memory.begun j.memory.begun begun one.up_by two.up_by);
      beside = λ drive block out. out_behind calls calm k n e one said drive block out ∙ beside drive block out ∙ sym (out_behind also calm_too j m e two said drive block out);
      alike = λ wanted. alike_end e one two said;
      formed = formed_as n.memory (booted_with (opened_by e) one.up one.clean k.memory.begun) (ap (λ (x : Memory). x.entries) (one.memory said)) none_formed;
      one = settled_behind calls calm k n e one said;
      other = settled_behind also calm_too j m e two said;
    }

    pub one_boot : (may : Type 0) → IsRebooted calls host k a n → IsRebooted also host j b m → One may n m a b
    one_boot may first second =
        let one = booted calls calm k n a sated first in
        let two = booted also calm_too j m b sated_too second in
        let surveys = one_survey host.drives host.site ok once_there brought k.content j.content alike one.1.survey two.1.survey one.1.all two.1.all in
        let ends : second.end ≡ first.end =
        sym (one_end calls also calm calm_too _ _ host.site one.1.survey two.1.survey surveys.replicas surveys.newest first.end second.end one.0 two.0 one.1.by two.1.by) in (
          first.answer_is ∙ ap answered_by (sym ends) ∙ sym second.answer_is,
          λ said. same_end may first.end one.0 one.1 (subst (λ (e : BootEnd). Booted also j m e) ends two.1) (subst IsSaid first.answer_is said),
        )

  -- a line `boot`
  pub boot_same : (may then : Type 0) → may → (calls also : Outcomes) → NoneFailed calls → NoneFailed also → (k j n m : Kept) (a b : Answer) → Same may k j → IsSatisfied a → IsSatisfied b → IsRebooted calls host k a n → IsRebooted also host j b m → One then n m a b
  boot_same may then wanted calls also calm calm_too k j n m a b same sated sated_too first second =
      one_boot calls also calm calm_too k j n m a b (same.alike wanted) same.memory.begun same.beside sated sated_too then first second

  -- A write puts the same blocks: each lies at one place, and none where a replica may.
  module _ (v : Map) (at : ℕ) (blocks : List (List ℕ)) (one_each : (k : ℕ) → k < length blocks → (drive : ℕ) × (block : ℕ) × LiesAt v (at + k) drive block)
      (out_of_site : (k drive block : ℕ) → k < length blocks → HasDriveBlock (v.places (at + k)) drive block → site_area host.site drive block ≡ false) where
    put_there : (old new : Image) → ArePut v at blocks old new → (k drive block : ℕ) → k < length blocks → HasDriveBlock (v.places (at + k)) drive block → new drive block ≡ slice_index_or blocks k []
    put_there old new put k drive block below has =
        let lies = one_each k below in
        let here = one_place v (at + k) lies.0 lies.1 lies.2 drive block has in
        put.here k (new drive block) below (subst (λ (x : List ℕ). Among (readings v new (at + k)) x) (λ i. new (sym here.0 i) (sym here.1 i)) (reads_there v (at + k) lies.0 lies.1 lies.2 new))

    put_kept : (old new : Image) → ArePut v at blocks old new → (drive block : ℕ) → site_area host.site drive block ≡ true → new drive block ≡ old drive block
    put_kept old new put drive block within = elim (off_or_there v at (length blocks) drive block) [
      | inl off ↦ put.elsewhere drive block off
      | inr one ↦ absurd (false≢true (sym (out_of_site one.0 drive block one.1 one.2) ∙ within))
    ]

    pub put_same : (may : Type 0) (k j n m : Kept) → Same may k j → n.memory ≡ k.memory → m.memory ≡ j.memory → ArePut v at blocks k.content n.content → ArePut v at blocks j.content m.content → Same may n m
    put_same may k j n m same memory memory_too put put_too = record {
      memory = same_through n.memory k.memory j.memory m.memory memory memory_too same.memory;
      beside = λ drive block out. elim (off_or_there v at (length blocks) drive block) [
        | inr one ↦ put_there k.content n.content put one.0 drive block one.1 one.2 ∙ sym (put_there j.content m.content put_too one.0 drive block one.1 one.2)
        | inl off ↦ put.elsewhere drive block off ∙ same.beside drive block out ∙ sym (put_too.elsewhere drive block off)
      ];
      alike = λ wanted. alike_beside (Spells host.drives) (one_text host.drives) host.site ok k.content j.content n.content m.content (put_kept k.content n.content put) (put_kept j.content m.content put_too) (same.alike wanted);
      formed = formed_as n.memory k.memory (ap (λ (x : Memory). x.entries) memory) same.formed;
      one = there_settled k n same.one (ap (λ (x : Memory). x.opened) memory) (put_kept k.content n.content put);
      other = there_settled j m same.other (ap (λ (x : Memory). x.opened) memory_too) (put_kept j.content m.content put_too);
    }
