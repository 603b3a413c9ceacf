-- What the log notes of places that are formatted again, and of a database that ends: the worlds stay.
use Rattle.std.proofs.Common.{◌≡◌, inl, inr, ℕ, zero, suc, ◌+◌, ◌*◌, ◌<◌, ◌≤◌, ◌&&◌, ◌||◌, ◌==◌, Bool, true, false, List, [], ◌∷◌, ◌++◌, length, refl, sym, ◌∙◌, ap, subst, cond, All, Contains, Option, None, Some, arith}
use Rattle.std.proofs.lemmas.Bool.{and_from, and_parts, cases_Bool, cond-false, cond-true, eq-eqb, eqb-true}
use Rattle.std.proofs.lemmas.List.Elements.{Contains-get_or}
use Rattle.std.proofs.lemmas.List.Folds.{Any-from_list_any}
use Rattle.std.specs.Prelude.{max, slice_index_or}
use Rattle.mdv_name.proofs.Finding.{same_slice-equal, same_slice-refl}
use Rattle.mdv_name.specs.SliceIndex.{same_slice}
use Rattle.mdv_shown.specs.Site.{line_area}
use Rattle.mdv_shown.proofs.Elsewhere.{range_has}
use Rattle.mdv_store_law.specs.Log.{Again, Clearing, Gone, Placing, begins_in, is_firm, placed_again, since_of}
use Rattle.mdv_config.specs.Lists.{places_of}
use Rattle.mdv_config.proofs.Settled.{all_of_last}
use Rattle.mdv_votes.proofs.Meeting.{same_is, same_self}
use Rattle.mdv_standing.specs.Below.{Core, Ends, Identity, Image, IsSite, Lists, Lives, Log, One, Over, Place, Since, Site, SliceAt, SliceLine, Spot, Table, Two, Version, is_in, last_list, last_of, log_after, place_on, raised, same_spot, since_after, slice_at, spot_on}
use Rattle.mdv_standing.specs.Laws.{ShowsNoTable}
use Rattle.mdv_standing.specs.Matching.{IsDeleted, LiesOn, Matches, floor_among, lists_of, spot_floor, spot_in, spot_of_place, spot_since, spots_in, spots_of}
use Rattle.mdv_standing.specs.Placing.{AreNamed}
use Rattle.mdv_standing.specs.Worlds.{IsWorld}
use Rattle.mdv_standing.proofs.Lawful.{firm_shows}
use Rattle.mdv_standing.proofs.Versions.{has_version}
use Rattle.mdv_standing.proofs.Voting.{numbered}

same_bool : (a b : Bool) → (a ≡ true → b ≡ true) → (b ≡ true → a ≡ true) → a ≡ b
same_bool true b to from = sym (to refl)
same_bool false true to from = from refl
same_bool false false to from = refl

-- Where places begin.
module _ (site : Site) (ok : IsSite site) (lines : AreNamed site) where
  found_at : (p : Place) (at : LiesOn site p) → slice_at site.lines p.slice ≡ Some at.line.at
  found_at p at = ap (slice_at site.lines) at.slice ∙ lines at.line at.one_of

  lies_at : (p : Place) (at : LiesOn site p) → spot_of_place site p ≡ record { drive = at.line.at.drive; first = at.line.at.start + p.start; mediator = false }
  lies_at p at = ap (λ (o : Option SliceAt). spot_in o p) (found_at p at)

  begins_same : (p q : Place) → LiesOn site p → LiesOn site q → spot_of_place site q ≡ spot_of_place site p → (same_slice q.slice p.slice ≡ true) × (q.start ≡ p.start)
  begins_same p q a b e = elim (ok.apart b.line a.line b.one_of a.one_of) [
    | inl same ↦
        let slices : q.slice ≡ p.slice = b.slice ∙ ap (λ (l : SliceLine). l.name) same ∙ sym a.slice in
        let firsts : b.line.at.start + q.start ≡ a.line.at.start + p.start = ap (λ (s : Spot). s.first) (sym (lies_at q b) ∙ e ∙ lies_at p a) in
        let starts : b.line.at.start ≡ a.line.at.start = ap (λ (l : SliceLine). l.at.start) same in
        (subst (λ (s : _). same_slice s p.slice ≡ true) (sym slices) (same_slice-refl p.slice), omega (arith, firsts, starts))
    | inr apart ↦
        let firsts : b.line.at.start + q.start ≡ a.line.at.start + p.start = ap (λ (s : Spot). s.first) (sym (lies_at q b) ∙ e ∙ lies_at p a) in
        let drives : b.line.at.drive.0 ≡ a.line.at.drive.0 = ap (λ (s : Spot). s.drive.0) (sym (lies_at q b) ∙ e ∙ lies_at p a) in
        absurd (apart b.line.at.drive.0 (b.line.at.start + q.start)
        (range_has b.line.at.drive.0 b.line.at.start b.line.at.blocks (b.line.at.start + q.start) (omega arith) (omega (arith, b.to, b.long)))
        (subst (λ (d : ℕ). line_area a.line d (b.line.at.start + q.start) ≡ true) (sym drives)
        (range_has a.line.at.drive.0 a.line.at.start a.line.at.blocks (b.line.at.start + q.start) (omega (arith, firsts)) (omega (arith, firsts, a.to, a.long)))))
  ]

  -- two places have one spot exactly where they begin at one block of one slice
  spot_begins : (p q : Place) → LiesOn site p → LiesOn site q → same_spot (spot_of_place site q) (spot_of_place site p) ≡ (same_slice q.slice p.slice && (q.start == p.start))
  spot_begins p q a b = same_bool (same_spot (spot_of_place site q) (spot_of_place site p)) (same_slice q.slice p.slice && (q.start == p.start))
      (λ e. let is = begins_same p q a b (same_is (spot_of_place site q) (spot_of_place site p) e) in and_from (same_slice q.slice p.slice) (q.start == p.start) is.0 (eq-eqb q.start p.start is.1))
      (λ e.
      let is = and_parts (same_slice q.slice p.slice) (q.start == p.start) e in
      let slices : q.slice ≡ p.slice = same_slice-equal q.slice p.slice is.0 in
      let starts : q.start ≡ p.start = eqb-true q.start p.start is.1 in
      let one : spot_of_place site q ≡ spot_of_place site p = ap (λ (o : Option SliceAt). spot_in o q) (ap (slice_at site.lines) slices) ∙ start_alone (slice_at site.lines p.slice) starts in
      subst (λ (s : Spot). same_spot s (spot_of_place site p) ≡ true) (sym one) (same_self (spot_of_place site p)))
    where
      start_alone : (o : Option SliceAt) → q.start ≡ p.start → spot_in o q ≡ spot_in o p
      start_alone None e = refl
      start_alone (Some at) e = ap (λ (n : ℕ). record { drive = at.drive; first = at.start + n; mediator = false }) e

  module _ (p : Place) (at : LiesOn site p) where
    spots_begin : (list : List Place) → All (LiesOn site) list → is_in (spots_in site list) (spot_of_place site p) ≡ begins_in list p
    spots_begin [] all = refl
    spots_begin (q ∷ list) all =
        let rest = spots_begin list (λ k d lt. all (suc k) d (omega (arith, lt))) in
        ap (λ (b : Bool). b || is_in (spots_in site list) (spot_of_place site p)) (spot_begins p q at (all 0 q (omega arith))) ∙ ap (λ (b : Bool). (same_slice q.slice p.slice && (q.start == p.start)) || b) rest

    last_lists_in : (lists : Lists) → last_list (spots_of site lists) ≡ spots_in site (last_of lists)
    last_lists_in (One places) = refl
    last_lists_in (Two old new) = refl

    -- what the log knows of it by its slice it knows by its spot
    pub since_same : (family : List Version) → ((v : Version) (place : Place) → Contains family v → Contains (places_of v.table.plan.lists) place → LiesOn site place)
        → spot_since site family (spot_of_place site p) ≡ since_of family p
    since_same [] lie = refl
    since_same (v ∷ older) lie =
        let lists = v.table.plan.lists in
        let all : All (LiesOn site) (last_of lists) =
        all_of_last (LiesOn site) lists (λ k d lt. lie v (slice_index_or (places_of lists) k d) (0, omega arith, refl) (Contains-get_or (places_of lists) k d lt)) in
        let listed : is_in (last_list (lists_of site v)) (spot_of_place site p) ≡ begins_in (last_of lists) p = ap (λ (l : List Spot). is_in l (spot_of_place site p)) (last_lists_in lists) ∙ spots_begin (last_of lists) all in
        let rest = since_same older (λ x place has. lie x place (suc has.0, omega (arith, has.1), has.2)) in
        ap (λ (b : Bool). cond v.is_written (since_after (length older) b (spot_since site older (spot_of_place site p))) (spot_since site older (spot_of_place site p))) listed
        ∙ ap (λ (s : Since). cond v.is_written (since_after (length older) (begins_in (last_of lists) p) s) s) rest

  floor_noted : (family : List Version) (places : List Place) (again : List Again) (place : Place) (p : Spot) → same_spot (spot_of_place site place) p ≡ true → Contains places place
      → raised 0 (since_of family place) ≤ floor_among site (placed_again family places ++ again) p
  floor_noted family places again place p here has = by places has.0 has.1 has.2
    where
      by : (list : List Place) (k : ℕ) → k < length list → slice_index_or list k place ≡ place → raised 0 (since_of family place) ≤ floor_among site (placed_again family list ++ again) p
      by [] k lt e = absurd (omega (arith, lt))
      by (x ∷ list) zero lt e =
          let n = raised 0 (since_of family x) in
          let rest = floor_among site (placed_again family list ++ again) p in
          let mine : raised 0 (since_of family place) ≡ n = ap (λ (y : Place). raised 0 (since_of family y)) (sym e) in
          let one = cond-true (same_spot (spot_of_place site x) p) (max n rest) rest (ap (λ (y : Place). same_spot (spot_of_place site y) p) e ∙ here) in
          omega (arith, mine, one)
      by (x ∷ list) (suc k) lt e =
          let n = raised 0 (since_of family x) in
          let rest = floor_among site (placed_again family list ++ again) p in
          let more = by list k (omega (arith, lt)) e in
          elim (cases_Bool (same_spot (spot_of_place site x) p)) [
            | inl is ↦ (let one = cond-true (same_spot (spot_of_place site x) p) (max n rest) rest is in omega (arith, more, one))
            | inr isnt ↦ (let one = cond-false (same_spot (spot_of_place site x) p) (max n rest) rest isnt in omega (arith, more, one))
          ]

-- the floor of a place falls by no note
floor_more : (site : Site) (more again : List Again) (p : Spot) → floor_among site again p ≤ floor_among site (more ++ again) p
floor_more site [] again p = omega arith
floor_more site (a ∷ more) again p =
    let rest = floor_among site (more ++ again) p in
    let up = floor_more site more again p in
    elim (cases_Bool (same_spot (spot_of_place site a.place) p)) [
      | inl is ↦ (let one = cond-true (same_spot (spot_of_place site a.place) p) (max a.number rest) rest is in omega (arith, up, one))
      | inr isnt ↦ (let one = cond-false (same_spot (spot_of_place site a.place) p) (max a.number rest) rest isnt in omega (arith, up, one))
    ]

module _ (Spells : List ℕ → Table → Type 0) (site : Site) (identity : Identity) (log : Log) (w : Core) (image : Image) (world : IsWorld Spells site identity log w image) where
  abbrev m : Matches site log w
  m = world.matches

  pub world_placing : (places : List Place) → IsWorld Spells site identity (log_after log (Placing places)) w image
  world_placing places = record {
    reached = world.reached;
    matches = record {
      kind = m.kind;
      book = m.book;
      as_many = m.as_many;
      each = m.each;
      answered = m.answered;
      dropped = λ p i e. (let was = m.dropped p i e in record { known = was.known; lacks = was.lacks; by = was.by });
      steady = m.steady;
      reused = λ p. (let was = m.reused p in let up = floor_more site (placed_again log.family places) log.again p in omega (arith, was, up));
      there = m.there;
      gone = m.gone;
    };
    shows = world.shows;
    listed = world.listed;
  }

  pub place_noted : (places : List Place) (line : SliceLine) (blocks count k : ℕ) → IsSite site → AreNamed site → Contains site.lines line → 16 + k * blocks + blocks ≤ line.at.blocks → 16 ≤ blocks
      → Contains places (place_on line blocks count k).place → raised 0 (spot_since site log.family (spot_on line blocks k)) ≤ spot_floor site (log_after log (Placing places)) (spot_on line blocks k)
  place_noted places line blocks count k ok lines has within least noted =
      let p = (place_on line blocks count k).place in
      let at : LiesOn site p = record { line = line; one_of = has; slice = refl; from = omega arith; long = least; to = within } in
      let spot : spot_of_place site p ≡ spot_on line blocks k = lies_at site ok lines p at in
      let known = since_same site ok lines p at log.family (λ v place one_of listed.
      let i = has_version log.family v one_of in
      let its = m.each i.0 (subst (λ (n : ℕ). i.0 < n) (sym m.as_many) i.1) in
      its.lie place (subst (λ (x : Version). Contains (places_of x.table.plan.lists) place) (sym i.2) listed)) in
      let since : spot_since site log.family (spot_on line blocks k) ≡ since_of log.family p = ap (spot_since site log.family) (sym spot) ∙ known in
      subst (λ (s : Since). raised 0 s ≤ spot_floor site (log_after log (Placing places)) (spot_on line blocks k)) (sym since)
      (floor_noted site ok lines log.family places log.again p (spot_on line blocks k) (subst (λ (s : Spot). same_spot (spot_of_place site p) s ≡ true) spot (same_self (spot_of_place site p))) noted)

  pub world_clearing : IsWorld Spells site identity (log_after log Clearing) w image
  world_clearing = record {
    reached = world.reached;
    matches = record {
      kind = m.kind;
      book = m.book;
      as_many = m.as_many;
      each = m.each;
      answered = m.answered;
      dropped = λ p i e. (let was = m.dropped p i e in record { known = was.known; lacks = was.lacks; by = was.by });
      steady = m.steady;
      reused = m.reused;
      there = λ lives. absurd (ends_lives lives);
      gone = λ over. absurd (ends_over over);
    };
    shows = world.shows;
    listed = world.listed;
  }
    where
      ends_lives : Ends ≡ Lives → ⊥
      ends_lives e = cc

      ends_over : Ends ≡ Over → ⊥
      ends_over e = cc

  -- a firm database of which no replica shows a table was deleted
  pub world_gone : is_firm log ≡ true → ShowsNoTable Spells site identity image → IsWorld Spells site identity (log_after log Gone) w image
  world_gone firm none = record {
    reached = world.reached;
    matches = record {
      kind = m.kind;
      book = m.book;
      as_many = m.as_many;
      each = m.each;
      answered = m.answered;
      dropped = λ p i e. (let was = m.dropped p i e in record { known = was.known; lacks = was.lacks; by = was.by });
      steady = m.steady;
      reused = m.reused;
      there = λ lives. absurd (over_lives lives);
      gone = λ over. deleted;
    };
    shows = world.shows;
    listed = inr (inr deleted);
  }
    where
      over_lives : Over ≡ Lives → ⊥
      over_lives e = cc

      deleted : IsDeleted w
      deleted = by w.deleted refl
        where
          by : (o : Option Spot) → w.deleted ≡ o → IsDeleted w
          by (Some p) e = (p, e)
          by None e =
              let found = Any-from_list_any (λ (v : Version). v.is_written) log.family firm in
              let i = numbered site log w world.reached m found.1 (found.0, found.2, found.3) in
              let f = m.answered i.0 i.1 (ap (λ (v : Version). v.is_written) i.2 ∙ found.4) in
              absurd (firm_shows Spells site identity log w image world none e f.0 f.1)
