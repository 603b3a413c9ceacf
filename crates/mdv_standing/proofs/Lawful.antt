-- Standing over crashes, on new drives, and what a boot finds.
use Rattle.std.proofs.Common.{◌≡◌, inl, inr, ℕ, ◌+◌, ◌<◌, ◌^◌, ◌*◌, Bool, true, false, List, [], ◌∷◌, length, refl, sym, ◌∙◌, ap, subst, map, Contains, Option, None, Some, arith}
use Rattle.std.proofs.lemmas.Bool.{and_parts, cases_Bool, false≢true, false_from_ne_true, le-leb, lt-ltb, ltb-true, or_cases, or_left, or_right}
use Rattle.std.proofs.lemmas.List.Elements.{All-contains}
use Rattle.std.specs.Prelude.{count_by, not}
use Rattle.mdv_votes.specs.Quorum.{is_written_list}
use Rattle.mdv_votes.specs.Spots.{covers_second, is_half, same_spot}
use Rattle.mdv_votes.specs.declared.version.Since.TheVariants.{Dropped}
use Rattle.mdv_votes.specs.declared.version.SpotState.{SpotState}
use Rattle.mdv_votes.proofs.Meeting.{meet, meet_counted, same_is, step_counted}
use Rattle.mdv_quorum.specs.Standing.{BootsAt}
use Rattle.mdv_quorum.specs.World.{happens}
use Rattle.mdv_replica.specs.Form.{is_open}
use Rattle.mdv_shelf.proofs.Everywhere.{everywhere_apart, everywhere_begun}
use Rattle.mdv_shown.specs.Shown.{HasNumber, NewestIs}
use Rattle.mdv_shown.proofs.Choice.{spot_of}
use Rattle.mdv_shown.proofs.Framed.{shows_rest}
use Rattle.mdv_store_law.specs.Laws.{restarted}
use Rattle.mdv_store_law.specs.Log.{AreMade, IsLog, empty_log}
use Rattle.mdv_store_law.proofs.Logs.{empty_is_log}
use Rattle.mdv_store_law.proofs.Families.{extends_more, extends_written}
use Rattle.mdv_standing.specs.Below.{Lives, Over, Area, AreApart, Change, Core, First, Geometry, HaveRead, Head, Identity, Image, IsBelow, IsChosen, IsImage, IsSite, KeptOutside, Claimed, Claiming, Lists, One, Two, Log, Mark, Open, Place, Second, Seen, Site, Slot, Spot, SpotLists, FamilyTable, Table, Tale, Version, covers, gate_of, greatest_seen, is_in, is_majority, is_none, is_written, place_at, place_on, shows, site_area, slice_at, spot_on, spot_seen, spots_seen, start, table_at}
use Rattle.mdv_standing.specs.Listed.{HoldsNewest}
use Rattle.mdv_standing.specs.Matching.{HasStaleVote, Matches, is_set, lists_of, spot_in, spots_of, tables_of, version_at}
use Rattle.mdv_standing.specs.Worlds.{IsWorld, HasClaimed}
use Rattle.mdv_standing.specs.Standing.{Covers, Stands}
use Rattle.mdv_standing.specs.Laws.{FoundHolds, HasNone, ShowsNoTable}
use Rattle.mdv_standing.specs.Adopting.{IsClaim}
use Rattle.mdv_standing.proofs.Listed.{frame_still, listed_still, live_at, places_none}
use Rattle.mdv_standing.proofs.Reaching.{reached_more, standing}
use Rattle.mdv_standing.proofs.Voting.{all_that, below, not_older, numbered}
use Rattle.mdv_standing.proofs.Following.{matches_follow}
use Rattle.mdv_standing.proofs.Adopting.{claim_is, draws}

-- a database without a table, of which no place is known
pub matches_empty : (site : Site) (log : Log) (w : Core) → log.family ≡ [] → w.set ≡ is_set site.key → w.family ≡ [] → w.places ≡ [] → w.deleted ≡ None → log.fate ≡ Lives → Matches site log w
matches_empty site log w empty kind none places there lives =
    let long : length w.family ≡ 0 = ap length none in
    record {
      kind = kind;
      book = λ n. None;
      as_many = long ∙ sym (ap length empty);
      each = λ i known. absurd (omega (arith, known, long));
      answered = λ i known written. absurd (omega (arith, known, long));
      dropped = λ p i e. absurd (never p i (ap (λ (xs : List SpotState). (place_at xs p).since) (sym places) ∙ e));
      steady = λ f k firm up known unwritten. absurd (omega (arith, known, long));
      reused = λ p. (let floor : (place_at w.places p).floor ≡ 0 = ap (λ (xs : List SpotState). (place_at xs p).floor) places in omega (arith, floor));
      there = λ is. there;
      gone = λ over. absurd (lives_on (sym lives ∙ over));
    }
  where
    lives_on : Lives ≡ Over → ⊥
    lives_on e = cc

    never : (p : Spot) (i : ℕ) → (place_at [] p).since ≡ Dropped i → ⊥
    never p i e = cc

module _ (Spells : List ℕ → Table → Type 0) (site : Site) (identity : Identity) where
  pub world_same : (log : Log) (old new : Image) → ((drive block : ℕ) → site_area site drive block ≡ true → new drive block ≡ old drive block)
      → (w : Core) × IsWorld Spells site identity log w old → (w : Core) × IsWorld Spells site identity log w new
  world_same log old new same has = (
    has.0,
    record {
      reached = has.1.reached;
      matches = has.1.matches;
      shows = shows_rest Spells site identity (tables_of log.family) has.0.family has.0.places old new same has.1.shows;
      listed = listed_still Spells site identity log has.0 old new (frame_still Spells site identity old new same) has.1.listed;
    },
  )

  pub covers_beside : (area : Area) (log : Log) (t m : Tale) → AreApart area (site_area site) → KeptOutside area t m → Covers Spells site identity log t → Covers Spells site identity log m
  covers_beside area log t m apart kept each =
      everywhere_apart (λ image. (w : Core) × IsWorld Spells site identity log w image) (site_area site) area t m (world_same log) apart kept each

  -- nothing has happened, and no replica is found
  pub world_none : (log : Log) → log.family ≡ [] → log.fate ≡ Lives → (image : Image) → HasNone Spells site identity image → IsWorld Spells site identity log (start (is_set site.key)) image
  world_none log empty lives image none = record {
    reached = ([], tt, refl);
    matches = matches_empty site log (start (is_set site.key)) empty refl refl refl refl lives;
    shows = record {
      each = λ line k first head own. absurd (none line k first head own);
      only = λ p place holds. absurd (false≢true holds);
      seats = λ p seat holds. false≢true holds;
    };
    listed = inl (places_none Spells site identity log image empty);
  }

pub crashes_stand : (Spells : List ℕ → Table → Type 0) (g : Geometry) (site : Site) (identity : Identity) (log : Log) (m : Tale) (image : Image) (told : List ℕ)
    → Stands Spells g site identity log m → IsImage m image → Stands Spells g site identity log (restarted image told)
crashes_stand Spells g site identity log m image told stands is = record {
  is_log = stands.is_log;
  covers = everywhere_begun (λ other. (w : Core) × IsWorld Spells site identity log w other) (record { block = image; told = told }) (stands.covers image is);
}

pub new_drives_stand : (Spells : List ℕ → Table → Type 0) (g : Geometry) (site : Site) (identity : Identity) (image : Image) (told : List ℕ) → HasNone Spells site identity image
    → Stands Spells g site identity empty_log (restarted image told)
new_drives_stand Spells g site identity image told none = record {
  is_log = empty_is_log g;
  covers = everywhere_begun (λ other. (w : Core) × IsWorld Spells site identity empty_log w other) (record { block = image; told = told }) (start (is_set site.key), world_none Spells site identity empty_log refl refl image none);
}

-- a list's places are no seats
places_only : (site : Site) (places : List Place) (p : Spot) → is_in (map (λ (place : Place). spot_in (slice_at site.lines place.slice) place) places) p ≡ true → p.mediator ≡ false
places_only site [] p e = absurd (false≢true e)
places_only site (x ∷ places) p e =
    let at = spot_in (slice_at site.lines x.slice) x in
    elim (or_cases (same_spot at p) (is_in (map (λ (place : Place). spot_in (slice_at site.lines place.slice) place) places) p) e) [
      | inl here ↦ ap (λ (q : Spot). q.mediator) (sym (same_is at p here)) ∙ by (slice_at site.lines x.slice)
      | inr rest ↦ places_only site places p rest
    ]
  where
    by : (o : _) → (spot_in o x).mediator ≡ false
    by None = refl
    by (Some at) = refl

first_only : (site : Site) (lists : Lists) (p : Spot) → is_in (spots_of site lists).first p ≡ true → p.mediator ≡ false
first_only site (One places) p e = places_only site places p e
first_only site (Two old new) p e = places_only site old p e

all_counted : (list : List Spot) → count_by (λ (q : Spot). true) list ≡ length list
all_counted [] = refl
all_counted (x ∷ xs) = omega (arith, step_counted (λ (q : Spot). true) x xs, all_counted xs)

-- half of a list that isn't empty has a place
half_one : (took : Spot → Bool) (list : List Spot) → is_none list ≡ false → is_half took list ≡ true → (p : Spot) × (took p ≡ true) × (is_in list p ≡ true)
half_one took [] some e = absurd (false≢true (sym some))
half_one took (x ∷ xs) some e =
    let m = meet took (λ q. true) (x ∷ xs) e (lt-ltb (length (x ∷ xs)) (2 * count_by (λ (q : Spot). true) (x ∷ xs)) (omega (arith, all_counted (x ∷ xs)))) in
    (m.0, m.1, m.3)

majority_half : (took : Spot → Bool) (list : List Spot) → is_majority took list ≡ true → is_half took list ≡ true
majority_half took list e = le-leb (length list) (2 * count_by took list) (omega (arith, ltb-true (length list) (2 * count_by took list) e))

-- a table that is written was taken by a place of its first list
written_one : (t : FamilyTable) (took : Spot → Bool) → is_none t.lists.first ≡ false → is_written t took ≡ true → (p : Spot) × (took p ≡ true) × (is_in t.lists.first p ≡ true)
written_one t took some e =
    let first = (and_parts (is_written_list t.by_majority t.lists.mediators took t.lists.first) (covers_second (is_written_list t.by_majority t.lists.mediators took) t.lists.second) e).0 in
    let half : is_half took t.lists.first ≡ true = elim (or_cases (is_majority took t.lists.first) _ first) [
      | inl most ↦ majority_half took t.lists.first most
      | inr rest ↦ (and_parts (is_half took t.lists.first) _ (and_parts (not t.by_majority) _ rest).1).0
    ] in
    half_one took t.lists.first some half

opens : (head : Head) (slot : Slot) (mark : Mark) (bytes : ℕ) → gate_of head slot ≡ Open mark bytes → shows head ≡ true
opens head First mark bytes e = or_left (is_open head.first) (is_open head.second) (ap is_open e)
opens head Second mark bytes e = or_right (is_open head.first) (is_open head.second) (ap is_open e)

module _ (Spells : List ℕ → Table → Type 0) (site : Site) (identity : Identity) (log : Log) (w : Core) (image : Image) (world : IsWorld Spells site identity log w image)
    (none : ShowsNoTable Spells site identity image) where
  -- a place that holds something is found, so it shows nothing
  no_newest : (p : Spot) (i : ℕ) → p.mediator ≡ false → (place_at w.places p).holds ≡ true → (place_at w.places p).newest ≡ Some i → ⊥
  no_newest p i place holds is =
      let o = world.shows.only p place holds in
      let with = world.shows.each o.line o.number o.first o.head o.own in
      let here : (place_at w.places (spot_on o.line o.first.blocks o.number)).newest ≡ Some i = subst (λ (q : Spot). (place_at w.places q).newest ≡ Some i) o.spot is in
      let n : HasNumber Spells (tables_of log.family) w.family (place_on o.line o.first.blocks o.first.count o.number) (image o.line.at.drive.0) o.head i =
      subst (λ (x : Option ℕ). NewestIs Spells (tables_of log.family) w.family (place_on o.line o.first.blocks o.first.count o.number) (image o.line.at.drive.0) o.head x) here with.newest in
      false≢true (sym (none o.line o.number o.first o.head o.own) ∙ opens o.head n.slot (table_at w.family i).mark n.is.shows.bytes n.is.shows.gate)

  pub nothing_shown : (p : Spot) (i : ℕ) → HoldsNewest w p i → ⊥
  nothing_shown p i has = elim (cases_Bool p.mediator) [
    | inl seat ↦ world.shows.seats p seat has.holds
    | inr place ↦ no_newest p i place has.holds has.newest
  ]

  pub firm_shows : w.deleted ≡ None → (f : ℕ) → w.firm ≡ Some f → ⊥
  firm_shows there f e =
      let s = standing site w world.reached in
      let held = s.held f e there in
      let known = s.descent.known f e in
      let t = table_at w.family f in
      let v = world.matches.each f known in
      let p = written_one t held.0 v.some held.1 in
      let is = held.2 p.0 p.1 in
      let place : p.0.mediator ≡ false = first_only site (version_at log.family f).table.plan.lists p.0 (subst (λ (l : SpotLists). is_in l.first p.0 ≡ true) v.lists p.2) in
      no_newest p.0 is.table place is.formed is.shows

  pub not_firm : log.fate ≡ Lives → (f : ℕ) → w.firm ≡ Some f → ⊥
  not_firm lives = firm_shows (world.matches.there lives)

  pub unanswered : log.fate ≡ Lives → (x : Version) → Contains log.family x → x.is_written ≡ false
  unanswered lives x has = false_from_ne_true x.is_written (λ written.
      let i = numbered site log w world.reached world.matches x has in
      let f = world.matches.answered i.0 i.1 (ap (λ (y : Version). y.is_written) i.2 ∙ written) in
      not_firm lives f.0 f.1)

  pub untold : log.fate ≡ Lives → (g : Geometry) → IsLog g log → log.acknowledged ≡ None
  untold lives g is_log = by log.acknowledged refl
    where
      by : (o : Option (List Change)) → log.acknowledged ≡ o → log.acknowledged ≡ None
      by None e = e
      by (Some told) e = (let held = is_log.held told e in absurd (false≢true (sym (unanswered lives held.by held.one_of) ∙ held.written)))

module _ (Spells : List ℕ → Table → Type 0) (g : Geometry) (site : Site) (identity : Identity) (log : Log) (w : Core) (image : Image) (seen : List Seen) (s : Seen) (slot : Slot) (v : Version)
    (site_is : IsSite site) (is_log : IsLog g log) (world : IsWorld Spells site identity log w image) (r : HaveRead Spells site identity (tables_of log.family) w image seen) (c : IsChosen seen s slot v.mark)
    (has : Contains log.family v) (most : covers (is_majority (is_in (spots_seen seen))) (lists_of site v) ≡ true) (fair : HasStaleVote site log seen v.mark → ⊥)
    (small : greatest_seen seen + 1 < 2 ^ 63) where
  -- a replica that was read at a place of the list
  at_list : (o : Seen) × Contains seen o × (is_in (lists_of site v).first (spot_seen o) ≡ true)
  at_list =
      let list = (lists_of site v).first in
      let read = is_in (spots_seen seen) in
      let more = (and_parts (is_majority read list) (covers_second (is_majority read) (lists_of site v).second) most).0 in
      let m = meet_counted read read list (omega (arith, ltb-true (length list) (2 * count_by read list) more)) in
      let o = spot_of seen m.0 m.1 in
      (o.0, o.1, subst (λ (q : Spot). is_in list q ≡ true) (sym o.2) m.3)

  claims : IsClaim Spells site identity log w image at_list.0.line at_list.0.number at_list.0.first at_list.0.head v (greatest_seen seen + 1) []
  claims = record {
    site_is = site_is;
    world = world;
    own = r.own at_list.0 at_list.1;
    one_of = has;
    named = or_left (is_in (lists_of site v).first (spot_seen at_list.0)) _ at_list.2;
    small = small;
    known = draws Spells site identity log w image world seen r s slot v c has most fair;
  }

  abbrev p : Spot
  p = spot_seen at_list.0

  abbrev then : Core
  then = happens w (Claimed p)

  claimed : HasClaimed v.mark (greatest_seen seen + 1) (p ∷ []) then
  claimed = (claim_is Spells site identity log w image at_list.0.line at_list.0.number at_list.0.first at_list.0.head v (greatest_seen seen + 1) [] claims).known

  -- so the database is there
  pub is_there : w.deleted ≡ None
  is_there =
      let is = claim_is Spells site identity log w image at_list.0.line at_list.0.number at_list.0.first at_list.0.head v (greatest_seen seen + 1) [] claims in
      let reached = reached_more site w (Claimed p ∷ []) world.reached (is.claimable.fits, tt) in
      sym is.follows.deleted ∙ live_at then (Claiming is.known.table is.known.next is.known.claimed) (subst (BootsAt then) is.known.stage (standing site then reached).boots) (λ read same. cc (same))

  pub found_holds : FoundHolds g log v (greatest_seen seen + 1)
  found_holds =
      let is = claim_is Spells site identity log w image at_list.0.line at_list.0.number at_list.0.first at_list.0.head v (greatest_seen seen + 1) [] claims in
      let reached = reached_more site w (Claimed p ∷ []) world.reached (is.claimable.fits, tt) in
      let matches = matches_follow site log w then is.follows world.matches in
      let older = not_older site log then reached matches v (greatest_seen seen + 1) (p ∷ []) claimed in
      record {
        made = All-contains (λ (x : Version). AreMade g x.changes x.table) log.family v is_log.made has;
        told = λ told e.
            let held = is_log.held told e in
            extends_more v.changes held.by.changes told (extends_written log.family v held.by is_log.rising is_log.descended has held.one_of held.written (older held.by held.one_of held.written)) held.has;
        not_older = all_that (λ x. x.is_written ≡ true → IsBelow v.mark x.mark → ⊥) log.family older;
        below = all_that (λ x. x.mark.boot < greatest_seen seen + 1) log.family (below site log then reached matches v (greatest_seen seen + 1) (p ∷ []) claimed);
      }
