-- What lies on a slice is lost there, of which no table that a boot may find lists a place: the world goes on without it.
use Rattle.std.proofs.Common.{◌≡◌, ◌⊎◌, inl, inr, ℕ, ◌+◌, ◌*◌, ◌≤◌, Bool, true, false, List, [], ◌∷◌, refl, sym, ◌∙◌, ap, subst, Contains, Option, None, Some, arith}
use Rattle.std.proofs.lemmas.Bool.{cases_Bool, cases_lt, cond-false, cond-true, false≢true, false_from_ne_true, or_cases, or_left, or_right}
use Rattle.std.specs.Prelude.{filter}
use Rattle.mdv_name.specs.Sound.{IsSound}
use Rattle.mdv_quorum.specs.May.{MayAll, is_firm_in}
use Rattle.mdv_quorum.specs.World.{crashed}
use Rattle.mdv_replica.specs.Images.{SameOutside}
use Rattle.mdv_shown.specs.Shown.{ShowsPlaces}
use Rattle.mdv_shown.specs.Site.{line_area}
use Rattle.mdv_shown.specs.Sites.{site_of}
use Rattle.mdv_shown.specs.Wipes.{wiped_all}
use Rattle.mdv_shown.proofs.Elsewhere.{found_kept}
use Rattle.mdv_shown.proofs.Sites.{site_is}
use Rattle.mdv_shown.proofs.Slots.{never_below}
use Rattle.mdv_shown.proofs.Wiped.{IsWiped, all_wiped, lines_spots}
use Rattle.mdv_store_law.specs.Log.{IsNotOlder}
use Rattle.mdv_votes.specs.Spots.{same_spot}
use Rattle.mdv_votes.proofs.Meeting.{same_is}
use Rattle.mdv_standing.specs.Below.{Core, Crash, FamilyTable, Geometry, Identity, Image, IsBelow, IsOwn, Key, Log, Mark, Shows, Site, SliceAt, SliceLine, Spot, SpotLists, Table, Version, after_all, is_in, is_named, place_at, place_on, spot_on, table_at}
use Rattle.mdv_standing.specs.Listed.{HavePlaces, IsShut}
use Rattle.mdv_standing.specs.Matching.{Matches, lists_of, spot_floor, spot_in, spot_of_place, tables_of, version_at}
use Rattle.mdv_standing.specs.Others.{Anything, IsLoose, IsLoss}
use Rattle.mdv_standing.specs.Worlds.{IsWorld, Turned}
use Rattle.mdv_standing.proofs.Creating.{floor_wiped, in_filtered, places_agree, since_wiped, wipe_each}
use Rattle.mdv_standing.proofs.Cutting.{cut_is, cut_loose}
use Rattle.mdv_standing.proofs.Following.{some_is}
use Rattle.mdv_standing.proofs.Idle.{place_named}
use Rattle.mdv_standing.proofs.Named.{line_found}
use Rattle.mdv_standing.proofs.Reaching.{reached_more, standing}
use Rattle.mdv_standing.proofs.Versions.{version_has}
use Rattle.mdv_standing.proofs.Voting.{all_that, in_log, numbered}
use Rattle.mdv_standing.proofs.Within.{line_still}

-- those that pass a test
filtered_is : (test : Spot → Bool) (list : List Spot) (q : Spot) → is_in (filter test list) q ≡ true → test q ≡ true
filtered_is test [] q e = absurd (false≢true e)
filtered_is test (x ∷ xs) q e = elim (cases_Bool (test x)) [
  | inl does ↦
      let here : is_in (x ∷ filter test xs) q ≡ true = sym (ap (λ (l : List Spot). is_in l q) (cond-true (test x) (x ∷ filter test xs) (filter test xs) does)) ∙ e in
      elim (or_cases (same_spot x q) (is_in (filter test xs) q) here) [
        | inl same ↦ subst (λ (y : Spot). test y ≡ true) (same_is x q same) does
        | inr rest ↦ filtered_is test xs q rest
      ]
  | inr never ↦ filtered_is test xs q (sym (ap (λ (l : List Spot). is_in l q) (cond-false (test x) (x ∷ filter test xs) (filter test xs) never)) ∙ e)
]

filtered_has : (test : Spot → Bool) (list : List Spot) (q : Spot) → is_in list q ≡ true → test q ≡ true → is_in (filter test list) q ≡ true
filtered_has test [] q e does = e
filtered_has test (x ∷ xs) q e does = elim (cases_Bool (test x)) [
  | inl is ↦ ap (λ (l : List Spot). is_in l q) (cond-true (test x) (x ∷ filter test xs) (filter test xs) is) ∙ elim (or_cases (same_spot x q) (is_in xs q) e) [
    | inl same ↦ or_left (same_spot x q) (is_in (filter test xs) q) same
    | inr rest ↦ or_right (same_spot x q) (is_in (filter test xs) q) (filtered_has test xs q rest does)
  ]
  | inr isnt ↦ ap (λ (l : List Spot). is_in l q) (cond-false (test x) (x ∷ filter test xs) (filter test xs) isnt) ∙ elim (or_cases (same_spot x q) (is_in xs q) e) [
    | inl same ↦ absurd (false≢true (sym isnt ∙ subst (λ (y : Spot). test y ≡ true) (sym (same_is x q same)) does))
    | inr rest ↦ filtered_has test xs q rest does
  ]
]

-- a place of a slice, by its number and length
pub record IsOnLine (line : SliceLine) (q : Spot) : Type 0 where
  pub number : ℕ
  pub blocks : ℕ
  pub least : 16 ≤ blocks
  pub within : 16 + number * blocks + blocks ≤ line.at.blocks
  pub spot : spot_on line blocks number ≡ q

module _ (Spells : List ℕ → Table → Type 0) (g : Geometry) (sound : IsSound g) (key : Key) (identity : Identity) (log : Log) (w : Core) (old new : Image) (world : IsWorld Spells (site_of g key) identity log w old) where
  abbrev site : Site
  site = site_of g key

  abbrev m : Matches site log w
  m = world.matches

  -- the firm table's version is one that a boot may find
  firm_found : (f : ℕ) → w.firm ≡ Some f → IsNotOlder (version_at log.family f).mark log.family
  firm_found f firm = all_that (λ x. x.is_written ≡ true → IsBelow (version_at log.family f).mark x.mark → ⊥) log.family (λ x has written below.
      let s = standing site w world.reached in
      let known = s.descent.known f firm in
      let i = numbered site log w world.reached m x has in
      let other = m.answered i.0 i.1 (ap (λ (y : Version). y.is_written) i.2 ∙ written) in
      let same : other.0 ≡ f = some_is other.0 f (sym other.1 ∙ firm) in
      let marks : IsBelow (table_at w.family f).mark (table_at w.family i.0).mark =
      subst (λ (k : Mark). IsBelow k (table_at w.family i.0).mark) (sym (m.each f known).mark) (subst (λ (k : Mark). IsBelow (version_at log.family f).mark k) (sym i.3) below) in
      elim (cases_lt i.0 f) [
        | inl down ↦ never_below (table_at w.family i.0).mark (table_at w.family f).mark (s.family.marks i.0 f down known) marks
        | inr up ↦
            let it : i.0 ≡ f = omega (arith, up, same, other.2) in
            let itself = subst (λ (n : ℕ). IsBelow (table_at w.family f).mark (table_at w.family n).mark) it marks in
            never_below (table_at w.family f).mark (table_at w.family f).mark itself itself
      ])

  module _ (line : SliceLine) (looks : Contains site.lines line) (loose : IsLoose Spells site identity log old line) (outside : SameOutside (line_area line) old new) where
    -- a replica that is held on the slice isn't at a place that a table lists which a boot may find
    loose_at : (q : Spot) → IsOnLine line q → q.mediator ≡ false → (place_at w.places q).holds ≡ true → (v : Version) → Contains log.family v → IsNotOlder v.mark log.family → is_named (lists_of site v) q ≡ false
    loose_at q on place holds v has found =
        let o = world.shows.only q place holds in
        let spot : spot_on line on.blocks on.number ≡ spot_on o.line o.first.blocks o.number = on.spot ∙ o.spot in
        elim ((site_is g key sound).apart line o.line looks o.own.found.one_of) [
          | inr apart ↦ absurd (lines_spots line o.line apart on.number on.blocks o.number o.first.blocks on.within on.least o.own.found.within o.own.found.located.lies.least spot)
          | inl same ↦
              let own = subst (λ (x : SliceLine). IsOwn Spells site identity x o.number old o.first o.head) (sym same) o.own in
              let there : q ≡ spot_on line o.first.blocks o.number = o.spot ∙ ap (λ (x : SliceLine). spot_on x o.first.blocks o.number) (sym same) in
              subst (λ (x : Spot). is_named (lists_of site v) x ≡ false) (sym there) (loose v has found o.number o.first o.head own)
        ]

    unfirm : (q : Spot) → IsOnLine line q → q.mediator ≡ false → (place_at w.places q).holds ≡ true → is_firm_in w.family w.firm q ≡ false
    unfirm q on place holds = by w.firm refl
      where
        by : (o : Option ℕ) → w.firm ≡ o → is_firm_in w.family o q ≡ false
        by None e = refl
        by (Some f) e =
            let known = (standing site w world.reached).descent.known f e in
            ap (λ (l : SpotLists). is_named l q) (m.each f known).lists ∙ loose_at q on place holds (version_at log.family f) (version_has log.family f (in_log site log w world.reached m f known)) (firm_found f e)

    -- the listed places lie elsewhere
    kept : HavePlaces Spells site identity log old → HavePlaces Spells site identity log new
    kept have v place one_of found listed =
        let has = have v place one_of found listed in
        let at = line_found g sound key has.line has.own.found.one_of in
        let spot : spot_of_place site place ≡ spot_on has.line has.first.blocks has.number =
        ap (spot_of_place site) has.is ∙ ap (λ (o : Option SliceAt). spot_in o (place_on has.line has.first.blocks has.first.count has.number).place) at in
        let named : is_named (lists_of site v) (spot_on has.line has.first.blocks has.number) ≡ true = subst (λ (q : Spot). is_named (lists_of site v) q ≡ true) spot (place_named site v.table.plan.lists place listed) in
        elim ((site_is g key sound).apart line has.line looks has.own.found.one_of) [
          | inl on ↦
              let own = subst (λ (x : SliceLine). IsOwn Spells site identity x has.number old has.first has.head) (sym on) has.own in
              let here = subst (λ (x : SliceLine). is_named (lists_of site v) (spot_on x has.first.blocks has.number) ≡ true) (sym on) named in
              absurd (false≢true (sym (loose v one_of found has.number has.first has.head own) ∙ here))
          | inr apart ↦
              let fits = has.own.found.within in
              record {
                line = has.line;
                number = has.number;
                first = has.first;
                head = has.head;
                own = record {
                  found = found_kept Spells site has.line (old has.line.at.drive.0) (new has.line.at.drive.0) has.first has.number has.head
                      (λ block from to. line_still line has.line apart old new outside block (omega (arith, from)) (omega (arith, to, fits))) has.own.found;
                  of_identity = has.own.of_identity;
                };
                is = has.is;
              }
        ]

    -- what is held there of these is lost
    module _ (spots : List Spot) (are : (q : Spot) → is_in spots q ≡ true → (q.mediator ≡ false) × IsOnLine line q) where
      abbrev held : Spot → Bool
      held q = (place_at w.places q).holds

      abbrev few : List Spot
      few = filter held spots

      abbrev final : Core
      final = record (crashed w) { places = wipe_each w.places few }

      fits : MayAll w (Crash ∷ wiped_all few)
      fits = (
        refl,
        cut_loose few (crashed w) refl (λ q has.
            let is = are q (in_filtered held spots q has) in
            (is.0, unfirm q is.1 is.0 (filtered_is held spots q has))),
      )

      leads : after_all w (Crash ∷ wiped_all few) ≡ final
      leads = cut_is few (crashed w) refl

      final_matches : Matches site log final
      final_matches = record {
        kind = m.kind;
        book = m.book;
        as_many = m.as_many;
        each = m.each;
        answered = m.answered;
        dropped = λ p i e. m.dropped p i (sym (since_wiped few w.places p) ∙ e);
        steady = m.steady;
        reused = λ p. subst (λ (f : ℕ). f ≤ spot_floor site log p) (sym (floor_wiped few w.places p)) (m.reused p);
        there = m.there;
        gone = m.gone;
      }

      cut : IsWiped (crashed w) final few
      cut = subst (λ (v : Core). IsWiped (crashed w) v few) leads (all_wiped (crashed w) few)

      final_shows : Shows Spells site identity (tables_of log.family) (after_all w (wiped_all spots)) new → Shows Spells site identity (tables_of log.family) final new
      final_shows shown =
          let a : IsWiped w (after_all w (wiped_all spots)) spots = all_wiped w spots in
          places_agree Spells site identity (tables_of log.family) w.family (after_all w (wiped_all spots)).places (wipe_each w.places few) new
          (λ q. record {
            holds = elim (cases_Bool (is_in spots q)) [
              | inr out ↦ cut.kept q (false_from_ne_true (is_in few q) (λ h. false≢true (sym out ∙ in_filtered held spots q h))) ∙ sym (a.kept q out)
              | inl inside ↦
                  false_from_ne_true (place_at (wipe_each w.places few) q).holds (λ h. cut.gone q (filtered_has held spots q inside (cut.held q h)) h)
                  ∙ sym (false_from_ne_true (place_at (after_all w (wiped_all spots)).places q).holds (λ h. a.gone q inside h))
            ];
            claim = cut.claim q ∙ sym (a.claim q);
            newest = cut.newest q ∙ sym (a.newest q);
          })
          (subst (λ (f : List FamilyTable). ShowsPlaces Spells site identity (tables_of log.family) f (after_all w (wiped_all spots)).places new) a.family shown)

      final_listed : HavePlaces Spells site identity log old ⊎ IsShut w → HavePlaces Spells site identity log new ⊎ IsShut final
      final_listed (inl have) = inl (kept have)
      final_listed (inr (inl none)) = inr (inl (record { read = []; stage = refl; none = λ q i has. none.none q i (record { holds = cut.held q has.holds; newest = sym (cut.newest q) ∙ has.newest }) }))
      final_listed (inr (inr gone)) = inr (inr gone)

      pub sheds : Shows Spells site identity (tables_of log.family) (after_all w (wiped_all spots)) new → Turned Spells site identity log w new IsLoss Anything
      sheds shown = record {
        events = Crash ∷ wiped_all few;
        are = (few, refl);
        may = fits;
        world = record {
          reached = reached_more site w (Crash ∷ wiped_all few) world.reached fits;
          matches = subst (Matches site log) (sym leads) final_matches;
          shows = subst (λ (v : Core). Shows Spells site identity (tables_of log.family) v new) (sym leads) (final_shows shown);
          listed = subst (λ (v : Core). HavePlaces Spells site identity log new ⊎ IsShut v) (sym leads) (final_listed world.listed);
        };
        known = tt;
      }

-- a crash, and nothing is lost
pub crashes : (Spells : List ℕ → Table → Type 0) (site : Site) (identity : Identity) (log : Log) (w : Core) (image : Image) → IsWorld Spells site identity log w image → Turned Spells site identity log w image IsLoss Anything
crashes Spells site identity log w image world =
    let m = world.matches in
    record {
      events = Crash ∷ [];
      are = ([], refl);
      may = (refl, tt);
      world = record {
        reached = reached_more site w (Crash ∷ []) world.reached (refl, tt);
        matches = record { kind = m.kind; book = m.book; as_many = m.as_many; each = m.each; answered = m.answered; dropped = m.dropped; steady = m.steady; reused = m.reused; there = m.there; gone = m.gone };
        shows = record { each = world.shows.each; only = world.shows.only; seats = world.shows.seats };
        listed = by world.listed;
      };
      known = tt;
    }
  where
    by : HavePlaces Spells site identity log image ⊎ IsShut w → HavePlaces Spells site identity log image ⊎ IsShut (crashed w)
    by (inl have) = inl have
    by (inr (inl none)) = inr (inl (record { read = []; stage = refl; none = λ q i has. none.none q i (record { holds = has.holds; newest = has.newest }) }))
    by (inr (inr gone)) = inr (inr gone)
