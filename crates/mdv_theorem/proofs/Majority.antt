-- Where more than half of the slices on which the lines may have put replicas are on drives that pass a test, so is more than half of each list of places that a boot may find.
use Rattle.std.proofs.Common.{◌≡◌, ℕ, ◌+◌, ◌*◌, ◌<◌, Bool, true, List, [], ◌∷◌, length, cond, Option, None, Some, Contains, refl, sym, ◌∙◌, ap, subst, arith}
use Rattle.std.specs.Prelude.{count_by}
use Rattle.std.proofs.lemmas.List.{length-map}
use Rattle.mdv_base.specs.declared.drive.SliceName.{SliceName}
use Rattle.mdv_base.specs.declared.name.Key.{Key}
use Rattle.mdv_base.specs.declared.place.Place.{Place}
use Rattle.mdv_databases.proofs.Lists.{current_in, current_key}
use Rattle.mdv_databases.specs.Meeting.{ListsLieOn, MostOn}
use Rattle.mdv_databases.specs.Standing.{Stand}
use Rattle.mdv_engine_law.specs.Hosts.{key_of}
use Rattle.mdv_engine_law.specs.Standing.{StandsAt}
use Rattle.mdv_engine_law.specs.declared.host.Host.{Host}
use Rattle.mdv_look.proofs.Bringing.{count_cons}
use Rattle.mdv_name.specs.SliceIndex.{HasSlice}
use Rattle.mdv_name.specs.declared.geometry.Geometry.{Geometry}
use Rattle.mdv_name.specs.declared.slice_lines.SliceAt.{SliceAt}
use Rattle.mdv_name.specs.declared.slice_lines.SliceLine.{SliceLine}
use Rattle.mdv_run_law.specs.Lives.{host_of}
use Rattle.mdv_shelf.specs.Tale.{Tale, last}
use Rattle.mdv_shelf.proofs.Everywhere.{last_image}
use Rattle.mdv_shown.specs.Sites.{site_of}
use Rattle.mdv_standing.specs.Databases.{Database, current_of, log_in, log_of}
use Rattle.mdv_standing.specs.Matching.{LiesOn}
use Rattle.mdv_standing.proofs.Voting.{numbered}
use Rattle.mdv_store_law.specs.Log.{Version}
use Rattle.mdv_config.specs.Lists.{first_of, last_of, places_of}
use Rattle.mdv_config.specs.Slices.{IsSound}
use Rattle.mdv_plan.specs.declared.lists.Lists.{Lists}
use Rattle.mdv_plan.specs.declared.lists.Lists.TheVariants.{One, Two}
use Rattle.mdv_volumes.specs.History.{History}
use Rattle.mdv_volumes.specs.HistoryLaws.{AllLists}
use Rattle.mdv_databases.proofs.Meeting.{databases_meet}
use Rattle.mdv_engine_law.specs.Line.{IsSame, contents}
use Rattle.mdv_replica.specs.Form.{shows}
use Rattle.mdv_shelf.specs.Everywhere.{Image}
use Rattle.mdv_shelf.specs.Failing.{Outcomes}
use Rattle.mdv_store.proofs.Shares.{in_first, in_last}
use Rattle.mdv_survey.specs.Replica.{IsFoundIn}
use Rattle.mdv_survey.specs.declared.replica.Replica.{Replica}
use Rattle.mdv_theorem.proofs.Adopted.{IsBlind}
use Rattle.mdv_theorem.specs.Exchanges.{Exchange}
use Rattle.mdv_theorem.specs.Words.{MayBecome}
use Rattle.mdv_theorem.proofs.Counting.{AreMadeOn, most_up}
use Rattle.mdv_theorem.proofs.Lines.{never_in}
use Rattle.mdv_theorem.proofs.Lists.{ListsLie, from_mapped}
use Rattle.mdv_theorem.proofs.Slices.{slices_of}

-- as many places pass a test of their slices as slices do
count_slices : (t : SliceName → Bool) (places : List Place) → count_by (λ (place : Place). t place.slice) places ≡ count_by t (slices_of places)
count_slices t [] = refl
count_slices t (p ∷ places) =
    count_cons (λ (place : Place). t place.slice) p places ∙ ap (λ (n : ℕ). cond (t p.slice) 1 0 + n) (count_slices t places) ∙ sym (count_cons t p.slice (slices_of places))

-- a version's places lie on slices of the site
module _ (g : Geometry) (key : Key) (all : List Database) (t : Tale) (stand : Stand g all t) where
  of_current : (c : Option Database) → current_of all key ≡ c → (v : Version) → Contains (log_in c).family v → (place : Place) → Contains (places_of v.table.plan.lists) place → LiesOn (site_of g key) place
  of_current None is v has place listed = absurd (never_in v has)
  of_current (Some d) is v has place listed =
      let world = (stand.worlds (last t) (last_image t)).worlds d (current_in key all d is) in
      let i = numbered (site_of g d.key) d.log world.0 world.1.reached world.1.matches v has in
      subst (λ (k : Key). LiesOn (site_of g k) place) (current_key key all d is)
      ((world.1.matches.each i.0 i.1).lie place (subst (λ (x : Version). Contains (places_of x.table.plan.lists) place) (sym i.2) listed))

  pub version_lies : (v : Version) → Contains (log_of all key).family v → (place : Place) → Contains (places_of v.table.plan.lists) place → LiesOn (site_of g key) place
  version_lies = of_current (current_of all key) refl

-- so they are made on their slices, one on each
pub made_on_its : (lines : List SliceLine) (places : List Place) → ((place : Place) → Contains places place → (line : SliceLine) × Contains lines line × (place.slice ≡ line.name)) → AreMadeOn lines (slices_of places) places
made_on_its lines places lie = record {
  there = λ slice has.
      let place = from_mapped (λ (p : Place). p.slice) places slice has in
      let line = lie place.0 place.1 in
      (line.0.at, subst (λ (n : SliceName). Contains lines (record { name = n; at = line.0.at })) (sym line.2 ∙ place.2) line.1);
  count = 1;
  some = omega arith;
  long = (let n = length-map places (λ (p : Place). p.slice) in omega (arith, n));
  each = λ t. (let n = count_slices t places in omega (arith, n));
}

module _ (drives : Geometry) (name : List ℕ) (from : List SliceName) (fresh : ℕ) (sound : IsSound (host_of drives name fresh).drives) where
  abbrev host : Host
  host = host_of drives name fresh

  -- more than half of these slices are on such drives
  pub record MostUp (up : ℕ → Bool) (slices : List SliceName) : Type 0 where
    pub chosen : SliceName → Bool
    pub most : length slices < 2 * count_by chosen slices
    pub each : (slice : SliceName) (at : SliceAt) → chosen slice ≡ true → HasSlice host.site.lines slice at → up at.drive.0 ≡ true

  -- so is more than half of each list
  pub lists_up : (lines : List Exchange) (h : History) (t : Tale) → StandsAt host h t → ListsLie drives name from lines h → (up : ℕ → Bool) → ((slices : List SliceName) → MayBecome drives name lines from slices → MostUp up slices)
      → ListsLieOn host.drives (key_of host) up (log_of h.databases (key_of host)).family
  lists_up lines h t stands lie up most v found = (by (first_of lists) (first_in lists all) (λ p has. in_first lists p has), by (last_of lists) (last_in lists all) (λ p has. in_last lists p has)) where
    lists : Lists
    lists = v.table.plan.lists

    all : AllLists lie.may v.table.plan.lists
    all = lie.has.1 v found

    first_in : (l : Lists) → AllLists lie.may l → Contains lie.may (first_of l)
    first_in (One places) has = has
    first_in (Two old new) has = has.0

    last_in : (l : Lists) → AllLists lie.may l → Contains lie.may (last_of l)
    last_in (One places) has = has
    last_in (Two old new) has = has.1

    by : (places : List Place) → Contains lie.may places → ((p : Place) → Contains places p → Contains (places_of v.table.plan.lists) p) → MostOn host.drives (key_of host) up places
    by places has listed =
        let m = most (slices_of places) (lie.each places has) in
        let made : AreMadeOn host.site.lines (slices_of places) places = made_on_its host.site.lines places (λ p one. (let lies = version_lies host.drives (key_of host) h.databases t stands.databases v found.0 p (listed p one) in (lies.line, lies.one_of, lies.slice))) in
        most_up host sound refl (slices_of places) places m.chosen up made m.each m.most

  -- So a replica that shows a table is found on such a drive.
  pub lists_meet : (lines : List Exchange) (h : History) (t : Tale) → StandsAt host h t → ListsLie drives name from lines h → (up : ℕ → Bool) → ((slices : List SliceName) → MayBecome drives name lines from slices → MostUp up slices)
      → (r : Replica) × IsFoundIn host.drives (site_of host.drives (key_of host)) (last t) r × (up r.line.at.drive.0 ≡ true) × (shows r.head ≡ true)
  lists_meet lines h t stands lie up most = databases_meet host.drives h.databases (key_of host) up t stands.databases lie.has.0.0 lie.has.0.1 (lists_up lines h t stands lie up most)

  -- And no boot is blind where calls fail on none of these drives.
  pub lists_see : (lines : List Exchange) (h : History) (t : Tale) (content : Image) → StandsAt host h t → ListsLie drives name from lines h → IsSame content (contents t) → (calls : Outcomes) (blind : IsBlind host calls content)
      → ((slices : List SliceName) → MayBecome drives name lines from slices → MostUp blind.up slices) → ⊥
  lists_see lines h t content stands lie reads calls blind most =
      let found = lists_meet lines h t stands lie blind.up most in
      let same : contents t ≡ content = λ i drive block. reads drive block i in
      let none = blind.none found.0 (subst (λ (c : Image). IsFoundIn host.drives host.site c found.0) same found.1) found.2 in
      let shown = found.3 in
      cc (none, shown)
