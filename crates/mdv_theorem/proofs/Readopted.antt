-- What a boot opens has its seats so, and no boot tells that places were lost, where half of each list of the table that it finds, or more, lies on drives on which no call fails, and each place that the table lists is found where it lies on such a drive.
use Rattle.std.proofs.Common.{inl, inr, Option, ◌⊎◌, ◌&&◌, not, false, refl, None, ◌≡◌, ℕ, Bool, true, List, map, Some, Contains, sym, ◌∙◌, ap, subst}
use Rattle.std.proofs.lemmas.Bool.{false≢true}
use Rattle.mdv_base.specs.DriveSet.{Drives, has_drive}
use Rattle.mdv_base.specs.declared.drive.SliceName.{SliceName}
use Rattle.mdv_databases.specs.Meeting.{MayBeFound, is_on}
use Rattle.mdv_engine_law.specs.Answers.{accepted}
use Rattle.mdv_engine_law.specs.Hosts.{key_of}
use Rattle.mdv_engine_law.specs.Line.{IsReadOf, IsRebooted, IsSame, Kept, WritesBy, answered_by, booted_with, contents, opened_by}
use Rattle.mdv_engine_law.specs.Standing.{MeetsStaleAt, StandsAt}
use Rattle.mdv_engine_law.specs.declared.answer.Answer.{Answer}
use Rattle.mdv_name.specs.SliceIndex.{slice_at}
use Rattle.mdv_name.specs.declared.slice_lines.SliceLine.{SliceLine}
use Rattle.mdv_run_law.specs.Run.{IsSaid}
use Rattle.mdv_shelf.specs.Everywhere.{Image}
use Rattle.mdv_shelf.specs.Tale.{Tale, last as last_of_tale}
use Rattle.mdv_shown.proofs.Sites.{law_sites}
use Rattle.mdv_shown.specs.Sites.{site_of}
use Rattle.mdv_shown.specs.declared.site.Site.{Site}
use Rattle.mdv_standing.proofs.Named.{line_found}
use Rattle.mdv_standing.specs.Databases.{log_of}
use Rattle.mdv_store.specs.Boot.{IsEndBy, is_memory}
use Rattle.mdv_store.specs.declared.booting.BootEnd.{BootEnd}
use Rattle.mdv_store.specs.declared.booting.BootEnd.TheVariants as end
use Rattle.mdv_store_law.specs.Log.{Lives, Version}
use Rattle.mdv_survey.specs.Survey.{IsSurvey, IsSurveyOf, answers_in}
use Rattle.mdv_plan.specs.declared.table.Table.{Table}
use Rattle.mdv_volumes.specs.History.{History}
use Rattle.mdv_theorem.proofs.Adoptable.{IsAdoptable, IsNewestBy, adoptable, adopted_found, seat_has, seat_lies}
use Rattle.mdv_theorem.proofs.Carried.{Holds, holds_none, holds_open, none_kept}
use Rattle.mdv_theorem.proofs.Upheld.{IsUpheld}
use Rattle.mdv_base.specs.declared.place.Place.{Place}
use Rattle.mdv_engine_law.specs.declared.host.Host.{Host}
use Rattle.mdv_places.proofs.Adding.{place_of_seat}
use Rattle.mdv_encoding.specs.Text.{record_bytes}
use Rattle.mdv_run_law.specs.Run.{IsOfTable}
use Rattle.mdv_shelf.specs.Failing.{Outcomes}
use Rattle.mdv_store.proofs.Adoptions.{takes_stay}
use Rattle.mdv_store.proofs.Passes.{mapped, unmapped}
use Rattle.mdv_store.proofs.Seating.{seats_places}
use Rattle.mdv_store.proofs.Shares.{in_first, in_last}
use Rattle.mdv_store.specs.Boot.{IsAdopted, IsLost, IsShortAt, IsShortBy, TakesAll, TakesBoth, gone_found, last_found, seat_for, seats_of}
use Rattle.mdv_store.specs.Opened.{Opened}
use Rattle.mdv_store.specs.Progress.{Claimed, Progress, Rewritten, Settled}
use Rattle.mdv_store.specs.Seats.{AreLeft, TakesClaim}
use Rattle.mdv_store.specs.Text.{blocks_for}
use Rattle.mdv_store.specs.declared.seats.Seat.{Seat}
use Rattle.mdv_store.specs.declared.seats.Share.{Share}
use Rattle.mdv_survey.specs.declared.replica.Newest.{Newest}
use Rattle.mdv_survey.specs.declared.replica.Replica.{Replica}
use Rattle.mdv_survey.specs.declared.replica.Survey.{Survey}
use Rattle.mdv_config.specs.Lists.{last_of, places_of}
use Rattle.mdv_plan.specs.declared.lists.Lists.{Lists}
use Rattle.mdv_plan.specs.declared.lists.Lists.TheVariants.{One, Two}
use Rattle.mdv_theorem.proofs.Losing.{own_enough}
use Rattle.mdv_theorem.proofs.Seats.{has_borne, AreSeated, Covers, IsBorne, IsHalf, OfEach, left_covers, left_each, left_seated, never_few}

last_each : (P : List Place → Type 0) (lists : Lists) → OfEach P lists → P (last_of lists)
last_each P (One list) is = is
last_each P (Two was list) is = is.1

module _ (host : Host) (is_host : IsOfTable host) (calm : ℕ → Bool) (calls : Outcomes) (unfailed : (drive : ℕ) → calm drive ≡ true → (calls drive).some → ⊥) where
  -- What was found of a table, with a seat for each place that it lists.
  module _ (survey : Survey) (newest : Newest) (replica : Replica) (seats : List Seat)
      (are : seats ≡ seats_of survey.replicas replica.head.master.identity (blocks_for (record_bytes newest.table)) (places_of newest.table.plan.lists)) (seated : AreSeated host calm seats) where
    abbrev lists : Lists
    lists = newest.table.plan.lists

    abbrev text : ℕ
    text = blocks_for (record_bytes newest.table)

    abbrev last : List Seat
    last = last_found survey newest replica

    last_seated : AreSeated host calm last
    last_seated s has =
        let one = unmapped (seat_for survey.replicas replica.head.master.identity text) (last_of lists) s has in
        let there = mapped (seat_for survey.replicas replica.head.master.identity text) (places_of lists) one.0 (in_last lists one.0 one.1) in
        seated s (subst (λ (l : List Seat). Contains l s) (sym are) (subst (λ (x : Seat). Contains (seats_of survey.replicas replica.head.master.identity text (places_of lists)) x) one.2 there))

    last_covers : Covers host calm last (last_of lists)
    last_covers p has = subst (λ (l : List Place). Contains l p) (sym (seats_places survey.replicas replica.head.master.identity text (last_of lists))) has

    all_places : map place_of_seat seats ≡ places_of lists
    all_places = ap (map place_of_seat) are ∙ seats_places survey.replicas replica.head.master.identity text (places_of lists)

    covers_in : (p : Place) → Contains (places_of lists) p → Contains (map place_of_seat seats) p
    covers_in p has = subst (λ (l : List Place). Contains l p) (sym all_places) has

    all_covers : OfEach (Covers host calm seats) lists
    all_covers = by lists covers_in where
      by : (l : Lists) → ((p : Place) → Contains (places_of l) p → Contains (map place_of_seat seats) p) → OfEach (Covers host calm seats) l
      by (One list) within = λ p has. within p (in_last (One list) p has)
      by (Two was list) within = (λ p has. within p (in_first (Two was list) p has), λ p has. within p (in_last (Two was list) p has))

    takes_line : (number : ℕ) (r n : Replica) → TakesAll number newest.table r n → n.line ≡ r.line
    takes_line number r n took = ap (λ (x : Replica). x.line) (takes_stay number newest.table r n took)

    module _ (number : ℕ) (active listed : ℕ) (halves : OfEach (IsHalf host calm) lists) where
      abbrev share : Share
      share = record { active = active; listed = listed }

      short_never : (Took : Replica → Replica → Type 0) → ((r n : Replica) → Took r n → n.line ≡ r.line) → (now : List Seat) → IsShortBy calls Took host.site.key lists seats now share → ⊥
      short_never Took kept now short =
          never_few host calm now lists share (left_seated host calm calls unfailed calls (λ drive some. some) Took kept seats now short.left seated)
          (left_each host calm calls unfailed calls (λ drive some. some) Took kept seats now lists short.left all_covers) halves (own_enough host is_host calls now lists (Some share) short.few)

      pub lost_never : (progress : Progress) → IsShortAt calls host.site.key number newest.table seats last (gone_found survey newest replica) progress share → ⊥
      lost_never (Claimed now) short = short_never (TakesClaim number) (λ r n took. ap (λ (x : Replica). x.line) took) now short
      lost_never (Rewritten now) short = short_never (TakesBoth number (record_bytes newest.table)) (λ r n took. ap (λ (x : Replica). x.line) took.2) now short
      lost_never (Settled now gone) (settled, short, over) =
          never_few host calm now (One (last_of lists)) share (left_seated host calm calls unfailed calls (λ drive some. some) (TakesAll number newest.table) (takes_line number) last now short.left last_seated)
          (left_covers host calm calls unfailed calls (λ drive some. some) (TakesAll number newest.table) (takes_line number) last now (last_of lists) short.left last_covers) (last_each (IsHalf host calm) lists halves)
          (own_enough host is_host calls now (One (last_of lists)) (Some share) short.few)

    pub opened_borne : (number : ℕ) (o : Opened) → o.table.plan.lists ≡ One (last_of lists) → AreLeft calls (TakesAll number newest.table) last o.seats → IsBorne host calm o
    opened_borne number o is left = record {
      one = is ∙ ap (λ (l : Lists). One (last_of l)) (sym is);
      seated = left_seated host calm calls unfailed calls (λ drive some. some) (TakesAll number newest.table) (takes_line number) last o.seats left last_seated;
      covers = subst (λ (l : Lists). Covers host calm o.seats (last_of l)) (sym is)
          (left_covers host calm calls unfailed calls (λ drive some. some) (TakesAll number newest.table) (takes_line number) last o.seats (last_of lists) left last_covers);
    }

  -- what a boot opens
  pub adopted_borne : (Wrote : _) (survey : Survey) (o : Opened) (a : IsAdopted calls Wrote host.site survey o) → AreSeated host calm a.seats → IsBorne host calm o
  adopted_borne Wrote survey o a seated = opened_borne survey a.newest a.replica a.seats a.drawn.hand.seats_are seated a.number o (ap (λ (x : Opened). x.table.plan.lists) a.is) a.left

  -- and it doesn't tell that places were lost
  pub lost_boot_never : (Wrote : _) (survey : Survey) (active listed : ℕ) (lost : IsLost calls Wrote host.site.key survey active listed) → AreSeated host calm lost.seats → OfEach (IsHalf host calm) lost.newest.table.plan.lists → ⊥
  lost_boot_never Wrote survey active listed lost seated halves =
      lost_never survey lost.newest lost.replica lost.seats lost.drawn.hand.seats_are seated lost.number active listed halves lost.progress lost.short

  -- A boot of drives that stand with a history, which meets no stale vote.
  module _ (h : History) (t : Tale) (stands : StandsAt host h t) (lives : (log_of h.databases (key_of host)).fate ≡ Lives) (fair : MeetsStaleAt host h t → ⊥) (kept next : Kept) (answer : Answer) (reads : IsSame kept.content (contents t)) where
    sees : host.site ≡ site_of host.drives (key_of host)
    sees = is_host.site

    same : kept.content ≡ last_of_tale t
    same = λ i drive block. sym (reads drive block) i

    module _ (up : Drives) {e : BootEnd} (survey : Survey) (read : IsReadOf calls host kept.content up e survey) (newest : Newest) (a : IsAdoptable survey newest) where
      its_survey : IsSurvey (site_of host.drives (key_of host)) read.calm survey
      its_survey = subst (λ (s : Site). IsSurvey s read.calm survey) sees read.survey_is

      its_of : IsSurveyOf host.drives (site_of host.drives (key_of host)) read.calm (last_of_tale t) survey
      its_of = subst (λ (c : Image). IsSurveyOf host.drives (site_of host.drives (key_of host)) read.calm c survey) same (subst (λ (s : Site). IsSurveyOf host.drives s read.calm kept.content survey) sees read.of)

      answered : (lies : SliceLine) → Contains (site_of host.drives (key_of host)).lines lies → calm lies.at.drive.0 ≡ true → answers_in read.calm survey.failed lies.at.drive ≡ true
      answered lies has is = by (has_drive read.calm lies.at.drive) refl where
        by : (b : Bool) → has_drive read.calm lies.at.drive ≡ b → answers_in read.calm survey.failed lies.at.drive ≡ true
        by true on = λ i. on i && not (read.none lies.at.drive on i)
        by false off = absurd (unfailed lies.at.drive.0 is (read.failed lies.at.drive (subst (λ (s : Site). Contains s.drives lies.at.drive) (sym sees) (law_sites.brought host.drives (key_of host) lies has)) off))

      found : IsNewestBy host.drives (log_of h.databases (key_of host)) newest.table
      found = adopted_found host.drives (key_of host) h.databases t is_host.sound stands.databases lives read.calm (λ meets. fair (read.calm, meets)) survey its_survey its_of read.none newest a

      -- each seat of what it found lies where a boot looks, and is active on such a drive where its place lies on one
      found_seated : AreSeated host calm a.seats
      found_seated s has =
          let lie = seat_lies host.drives (key_of host) h.databases t is_host.sound stands.databases lives read.calm (λ meets. fair (read.calm, meets)) survey its_survey its_of read.none newest a s has in
          let line = lie.0 in
          let named : line.name ≡ s.place.slice = lie.2 in
          let there : is_on calm (slice_at (site_of host.drives (key_of host)).lines s.place.slice) ≡ calm line.at.drive.0 =
          ap (λ (n : SliceName). is_on calm (slice_at (site_of host.drives (key_of host)).lines n)) (sym named) ∙ ap (is_on calm) (line_found host.drives is_host.sound (key_of host) line lie.1) in
          record {
            at = line.at;
            lies = subst (λ (x : Site). Contains x.lines (record { name = s.place.slice; at = line.at })) (sym sees) (subst (λ (n : SliceName). Contains (site_of host.drives (key_of host)).lines (record { name = n; at = line.at })) named lie.1);
            borne = λ on.
                let one = seat_has host.drives (key_of host) h.databases t is_host.sound stands.databases lives read.calm (λ meets. fair (read.calm, meets)) survey its_survey its_of read.none newest a calm answered s has (there ∙ on) in
                subst (λ (o : Option Replica). has_borne host calm o ≡ true) (sym one.1) one.2;
          }

      -- and each list of its table is one that a boot may find
      found_lists : (P : List Place → Type 0) → ((v : Version) → MayBeFound (log_of h.databases (key_of host)).family v → OfEach P v.table.plan.lists) → OfEach P newest.table.plan.lists
      found_lists P each = subst (λ (x : Table). OfEach P x.plan.lists) found.is_table (each found.version (found.one_of, found.holds.not_older))

    abbrev EndsBy : BootEnd → Drives → Type 0
    EndsBy e up = (is_memory e ≡ true) ⊎ ((survey : Survey) × IsReadOf calls host kept.content up e survey × IsEndBy calls (λ hand table progress. WritesBy host.drives host.site.key kept.content next.content hand.identity hand.number hand.seats table progress) host.site survey e)

    -- what it opens
    open_borne : (e : BootEnd) (up : Drives) (clean : Bool) → EndsBy e up → answer ≡ answered_by e → (answer ≡ accepted → next.memory ≡ booted_with (opened_by e) up clean kept.memory.begun) → IsSaid answer → Holds (IsBorne host calm) next
    open_borne (end.Adopted o) up clean (inl never) is memory said = absurd (false≢true never)
    open_borne (end.Adopted o) up clean (inr (survey, read, a)) is memory said =
        holds_open (IsBorne host calm) next o (ap (λ m. m.opened) (memory is)) (none_kept next (Some o) up clean kept.memory.begun (memory is))
        (adopted_borne _ survey o a (found_seated up survey read a.newest (adoptable _ survey a.newest a.replica a.seats a.number _ a.drawn a.written)))
    open_borne end.Empty up clean by is memory said = holds_none (IsBorne host calm) next (ap (λ m. m.opened) (memory is)) (none_kept next None up clean kept.memory.begun (memory is))
    open_borne (end.TwoDatabases a b) up clean by is memory said = absurd (let never : ⊥ = subst IsSaid is said in never)
    open_borne (end.NoQuorum readable needed) up clean by is memory said = absurd (let never : ⊥ = subst IsSaid is said in never)
    open_borne (end.Lost active listed) up clean by is memory said = absurd (let never : ⊥ = subst IsSaid is said in never)
    open_borne end.Spent up clean by is memory said = absurd (let never : ⊥ = subst IsSaid is said in never)
    open_borne end.Memory up clean by is memory said = absurd (let never : ⊥ = subst IsSaid is said in never)

    pub boot_borne : IsRebooted calls host kept answer next → IsSaid answer → Holds (IsBorne host calm) next
    boot_borne boots said = open_borne boots.end boots.up boots.clean boots.by boots.answer_is boots.memory said

    -- where half of each list that a boot may find lies on such drives it isn't the end of the run by places that were lost
    module _ (halves : (v : Version) → MayBeFound (log_of h.databases (key_of host)).family v → OfEach (IsHalf host calm) v.table.plan.lists) where
      end_upheld : (e : BootEnd) (up : Drives) → EndsBy e up → IsUpheld (answered_by e)
      end_upheld (end.Adopted o) up by = tt
      end_upheld end.Empty up by = tt
      end_upheld (end.TwoDatabases a b) up by = tt
      end_upheld (end.NoQuorum readable needed) up by = tt
      end_upheld (end.Lost active listed) up (inl never) = absurd (false≢true never)
      end_upheld (end.Lost active listed) up (inr (survey, read, lost)) =
          let its : IsAdoptable survey lost.newest = adoptable _ survey lost.newest lost.replica lost.seats lost.number lost.progress lost.drawn lost.written in
          lost_boot_never _ survey active listed lost (found_seated up survey read lost.newest its) (found_lists up survey read lost.newest its (IsHalf host calm) halves)
      end_upheld end.Spent up by = tt
      end_upheld end.Memory up by = tt

      pub boot_upheld : IsRebooted calls host kept answer next → IsUpheld answer
      boot_upheld boots = subst IsUpheld (sym boots.answer_is) (end_upheld boots.end boots.up boots.by)
