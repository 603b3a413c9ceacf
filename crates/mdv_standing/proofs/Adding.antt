-- Places are formatted for a table with a second list that names them.
use Rattle.std.proofs.Common.{◌≡◌, ◌⊎◌, inl, inr, ℕ, ◌+◌, ◌-◌, ◌*◌, ◌<◌, ◌≤◌, ◌^◌, ◌&&◌, Bool, true, false, List, [], ◌∷◌, ◌++◌, length, refl, sym, ◌∙◌, ap, subst, not, Option, None, Some, arith}
use Rattle.std.proofs.lemmas.Bool.{and_from, false≢true, false_from_ne_true, lt-ltb, not_from_false, or_left}
use Rattle.std.specs.Prelude.{max, nat_lt}
use Rattle.mdv_votes.specs.Family.{formatted}
use Rattle.mdv_votes.specs.Spots.{same_spots}
use Rattle.mdv_votes.specs.declared.version.SpotState.{SpotState}
use Rattle.mdv_votes.proofs.PlacesAt.{put_cases}
use Rattle.mdv_quorum.specs.May.{MayAll, is_firm_in, is_lists, may_follow, may_format, may_list}
use Rattle.mdv_quorum.specs.World.{changed, formatted_place, happens}
use Rattle.mdv_quorum.proofs.Events.{after_both, may_both}
use Rattle.mdv_replica.specs.Images.{formatted as is_formatted}
use Rattle.mdv_shown.specs.Formats.{IsFormattable, lost_beside, lost_with}
use Rattle.mdv_shown.specs.Wipes.{spots_behind, spots_from, wiped_all}
use Rattle.mdv_shown.proofs.Formatting.{first_ends, first_goes, later_ends, later_goes}
use Rattle.mdv_shown.proofs.Wiped.{in_from}
use Rattle.mdv_standing.specs.Below.{Core, Creating, Event, Dropped, FamilyTable, FirstIs, Formatted, Formats, HasFirst, Head, Identity, Image, IsInChain, Listed, Log, Mark, Master, MayFormat, Never, NextLists, One, Place, Ready, Shows, Since, Site, SliceLine, Spot, SpotLists, Table, Two, Version, after_all, is_in, is_named, last_list, last_number, last_table, master_on, place_at, place_on, raised, since_after, spot_on}
use Rattle.mdv_standing.specs.Listed.{HavePlaces}
use Rattle.mdv_standing.specs.Matching.{IsNotBehind, Matches, lists_of, spot_floor, spot_since, spots_of, tables_of}
use Rattle.mdv_standing.specs.Placing.{AreWipedOrNone, IsAdded, IsAdding}
use Rattle.mdv_standing.specs.Worlds.{IsReadyWith, Turned}
use Rattle.mdv_standing.proofs.Committing.{may_list_again, may_second}
use Rattle.mdv_standing.proofs.Creating.{floor_wiped, in_filtered, since_wiped, wipe_each, wiped_is}
use Rattle.mdv_standing.proofs.Following.{since_put}
use Rattle.mdv_standing.proofs.Idle.{AreUnnamed, CutReady, cut, cut_known, cut_turns, idle_firm, idle_lists, places_kept}
use Rattle.mdv_standing.proofs.Reaching.{reached_more}
use Rattle.mdv_standing.proofs.Since.{since_written}
use Rattle.mdv_standing.proofs.Taking.{last_version, some_table}
use Rattle.mdv_standing.proofs.Within.{format_within}

never_listed : (n : ℕ) (s : Since) → since_after n false s ≡ Listed → ⊥
never_listed n Never e = cc (e)
never_listed n Listed e = cc (e)
never_listed n (Dropped i) e = cc (e)

-- a floor is raised no further than the log knows
raised_low : (f most : ℕ) (s known : Since) → f ≤ most → (known ≡ Listed → ⊥) → ((i : ℕ) → s ≡ Dropped i → IsNotBehind known i) → raised 0 known ≤ most → raised f s ≤ most
raised_low f most Never known low unlisted behind up = low
raised_low f most Listed known low unlisted behind up = low
raised_low f most (Dropped i) Never low unlisted behind up = absurd (behind i refl)
raised_low f most (Dropped i) Listed low unlisted behind up = absurd (unlisted refl)
raised_low f most (Dropped i) (Dropped j) low unlisted behind up = (let at = behind i refl in omega (arith, low, at, up))

module _ (Spells : List ℕ → Table → Type 0) (site : Site) (identity : Identity) (log : Log) (w : Core) (old : Image) (v : Version) (took : List Spot) (line : SliceLine) (blocks count k : ℕ) (olds news : List Place)
    (a : IsAdding Spells site identity log w old v took line blocks count k olds news) where
  abbrev m : Matches site log w
  m = a.idle.world.matches

  abbrev p : Spot
  p = spot_on line blocks k

  abbrev lists : SpotLists
  lists = spots_of site (Two olds news)

  abbrev next : FamilyTable
  next = record {
    mark = record { boot = (last_table w).mark.boot; count = (last_table w).mark.count + 1 };
    parent = Some (last_number w);
    change = Some w.changes;
    lists = lists;
    by_majority = not (same_spots (last_table w).lists.mediators lists.mediators);
    plan = (last_table w).plan ++ w.changes ∷ [];
  }

  last_mark : (last_table w).mark ≡ v.mark
  last_mark = (m.each (last_number w) (omega (arith, some_table site log w m v a.idle.older a.idle.newest))).mark ∙ ap (λ (x : Version). x.mark) (last_version site log w m v a.idle.older a.idle.newest)

  last_is : (last_table w).lists ≡ lists_of site v
  last_is = idle_lists Spells site identity log w old v took a.idle

  -- none of the places of the slice is named
  unnamed_from : (b from n : ℕ) → 16 ≤ b → AreUnnamed (lists_of site v) (spots_from line b from n)
  unnamed_from b from n least q has =
      let is = in_from line b from n q has in
      let first : line.at.start + (16 + is.number * b) ≡ q.first = ap (λ (x : Spot). x.first) is.spot in
      let within = is.within in (
        ap (λ (x : Spot). x.mediator) (sym is.spot),
        false_from_ne_true (is_named (lists_of site v) q) (λ named. a.bare q named (ap (λ (x : Spot). x.drive.0) (sym is.spot)) (omega (arith, first)) (omega (arith, first, within, least))),
      )

  unnamed_with : (before : Option Master) → FirstIs site old line before → AreUnnamed (lists_of site v) (lost_with line before)
  unnamed_with None known q has = absurd (false≢true has)
  unnamed_with (Some first) known q has = unnamed_from first.blocks 0 (max 1 first.count - 0) known.lies.least q has

  unnamed_beside : (before : Option Master) → FirstIs site old line before → AreUnnamed (lists_of site v) (lost_beside line before blocks count)
  unnamed_beside None known q has = absurd (false≢true has)
  unnamed_beside (Some first) known q has = unnamed_from first.blocks 1 (max 1 first.count - 1) known.lies.least q (in_filtered _ (spots_behind line first 1) q has)

  unnamed_none : AreUnnamed (lists_of site v) []
  unnamed_none q has = absurd (false≢true has)

  p_unnamed : is_named (lists_of site v) p ≡ false
  p_unnamed =
      let fits = a.format.within in
      let least = a.format.lies.least in
      false_from_ne_true (is_named (lists_of site v) p) (λ named. a.bare p named refl (omega arith) (omega (arith, fits, least)))

  not_firm : is_firm_in w.family w.firm p ≡ false
  not_firm =
      ap (λ (o : Option ℕ). is_firm_in w.family o p) (idle_firm Spells site identity log w old v took a.idle)
      ∙ ap (λ (l : SpotLists). is_named l p) last_is ∙ p_unnamed

  -- the place wasn't listed by what was answered
  unlisted : spot_since site log.family p ≡ Listed → ⊥
  unlisted e =
      let here : is_in (last_list (lists_of site v)) p ≡ false = false_from_ne_true (is_in (last_list (lists_of site v)) p) (λ has.
      let first : is_in (last_list (spots_of site (One olds))) p ≡ true = ap (λ (l : _). is_in (last_list (spots_of site l)) p) (sym a.one) ∙ has in
      let named : is_named (lists_of site v) p ≡ true = ap (λ (l : _). is_named (spots_of site l) p) a.one ∙ or_left (is_in (spots_of site (One olds)).first p) false first in
      false≢true (sym p_unnamed ∙ named)) in
      let s = spot_since site a.idle.older p in
      let is : spot_since site log.family p ≡ since_after (length a.idle.older) false s =
      ap (λ (f : List Version). spot_since site f p) a.idle.newest ∙ since_written site p v a.idle.older a.idle.written ∙ ap (λ (b : Bool). since_after (length a.idle.older) b s) here in
      never_listed (length a.idle.older) s (sym is ∙ e)

  -- the slice has none of the listed places
  kept : (new : Image) → MayFormat (place_on line blocks count k) (master_on site identity line blocks count k) v.mark.boot old new → HavePlaces Spells site identity log new
  kept new change = places_kept Spells site identity log w old v took a.idle line new a.format.one_of
      (format_within line k blocks count old new a.format.within a.format.lies.least (master_on site identity line blocks count k) v.mark.boot change) (λ place has on named.
      let fits = subst (λ (l : SliceLine). 16 + has.number * has.first.blocks + has.first.blocks ≤ l.at.blocks) on has.own.found.within in
      let least = has.own.found.located.lies.least in
      absurd (a.bare (spot_on line has.first.blocks has.number) (subst (λ (l : SliceLine). is_named (lists_of site v) (spot_on l has.first.blocks has.number) ≡ true) on named) refl (omega arith) (omega (arith, fits, least))))

  -- as if it were created, some places are blanked and the place is formatted
  abbrev creating : Core
  creating = record w { stage = Creating next }

  format_fits : (places : List SpotState) → may_format (record creating { places = places }) p (Creating next) ≡ true
  format_fits places =
      and_from (not p.mediator) (is_named next.lists p && not (is_firm_in w.family w.firm p)) refl (and_from (is_named next.lists p) (not (is_firm_in w.family w.firm p)) a.named (not_from_false (is_firm_in w.family w.firm p) not_firm))

  formattable : (spots : List Spot) → IsFormattable (after_all creating (wiped_all spots)) p v.mark.boot
  formattable spots = subst (λ (x : Core). IsFormattable x p v.mark.boot) (sym (wiped_is spots creating next refl)) (record {
    fits = format_fits (wipe_each w.places spots);
    number_is = ap (λ (x : Mark). Some x.boot) last_mark;
  })

  -- Some places are blanked, the lists are in hand, and the place is formatted.
  module _ (spots : List Spot) (apart : AreUnnamed (lists_of site v) spots) where
    c : CutReady w spots
    c = cut Spells site identity log w old v took a.idle spots apart

    abbrev base : Core
    base = record w { places = wipe_each w.places spots; stage = Ready c.in_hand }

    abbrev listed : Core
    listed = changed base lists (not (same_spots (last_table base).lists.mediators lists.mediators))

    abbrev final : Core
    final = formatted_place listed p next

    lists_fit : may_list base lists (Ready c.in_hand) ≡ true
    lists_fit =
        let again = may_list_again site w.set (Two olds news) in
        let follow : may_follow (spots_of site (One olds)) lists ≡ true = may_second site olds news in
        and_from (is_lists w.set lists) (may_follow (last_table w).lists lists && nat_lt ((last_table w).mark.count + 1) (2 ^ 63)) again.0
        (and_from (may_follow (last_table w).lists lists) (nat_lt ((last_table w).mark.count + 1) (2 ^ 63))
        (subst (λ (l : SpotLists). may_follow l lists ≡ true) (sym (last_is ∙ ap (spots_of site) a.one)) follow)
        (lt-ltb ((last_table w).mark.count + 1) (2 ^ 63) (subst (λ (x : Mark). x.count + 1 < 2 ^ 63) (sym last_mark) a.small)))

    abbrev es : List Event
    es = wiped_all spots ++ (NextLists lists ∷ (Formatted p ∷ []))

    fits : MayAll w es
    fits = may_both w (wiped_all spots) (NextLists lists ∷ (Formatted p ∷ [])) c.may (subst (λ (x : Core). MayAll x (NextLists lists ∷ (Formatted p ∷ []))) (sym c.leads) (lists_fit, (format_fits (wipe_each w.places spots), tt)))

    leads : after_all w es ≡ final
    leads = after_both w (wiped_all spots) (NextLists lists ∷ (Formatted p ∷ [])) ∙ ap (λ (x : Core). after_all x (NextLists lists ∷ (Formatted p ∷ []))) c.leads

    final_matches : Matches site log final
    final_matches = record {
      kind = m.kind;
      book = m.book;
      as_many = m.as_many;
      each = λ i known. (let is = m.each i known in record { mark = is.mark; lists = is.lists; some = is.some; changes = is.changes; numbered = λ n has. omega (arith, is.numbered n has); lie = is.lie });
      answered = m.answered;
      dropped = λ q i e. m.dropped q i (sym (since_wiped spots w.places q) ∙ sym (since_put (wipe_each w.places spots) p q (formatted next.mark.boot None) (λ x. refl) (λ x. refl)) ∙ e);
      steady = m.steady;
      reused = λ q. elim (put_cases (wipe_each w.places spots) p q (formatted next.mark.boot None) (λ x. refl)) [
        | inl here ↦
            let floor : (place_at final.places q).floor ≡ raised (place_at w.places q).floor (place_at w.places q).since =
            ap (λ (x : SpotState). x.floor) here.1 ∙ ap (λ (f : ℕ). raised f (place_at (wipe_each w.places spots) q).since) (floor_wiped spots w.places q)
            ∙ ap (raised (place_at w.places q).floor) (since_wiped spots w.places q) in
            subst (λ (f : ℕ). f ≤ spot_floor site log q) (sym floor)
            (raised_low (place_at w.places q).floor (spot_floor site log q) (place_at w.places q).since (spot_since site log.family q) (m.reused q)
            (subst (λ (x : Spot). spot_since site log.family x ≡ Listed → ⊥) here.0 unlisted) (λ i e. (m.dropped q i e).by)
            (subst (λ (x : Spot). raised 0 (spot_since site log.family x) ≤ spot_floor site log x) here.0 a.noted))
        | inr other ↦
            let same : (place_at final.places q).floor ≡ (place_at w.places q).floor = ap (λ (x : SpotState). x.floor) other.1 ∙ floor_wiped spots w.places q in
            subst (λ (f : ℕ). f ≤ spot_floor site log q) (sym same) (m.reused q)
      ];
      there = m.there;
      gone = m.gone;
    }

    final_known : IsReadyWith took final
    final_known = record {
      in_hand = Some next;
      stage = refl;
      taken = λ q e.
          let was = (cut_known Spells site identity log w old v took a.idle spots apart).taken q e in
          elim (put_cases (wipe_each w.places spots) p q (formatted next.mark.boot None) (λ x. refl)) [
            | inl here ↦ absurd (false≢true (sym p_unnamed ∙ subst (λ (x : Spot). is_named (lists_of site v) x ≡ true) (sym here.0) (a.idle.named q e)))
            | inr other ↦ record { holds = ap (λ (x : SpotState). x.holds) other.1 ∙ was.holds; newest = ap (λ (x : SpotState). x.newest) other.1 ∙ was.newest }
          ];
    }

    abbrev Showing : Core → Image → Type 0
    Showing x new = Shows Spells site identity (tables_of log.family) x new

    final_shows : (new : Image) → Showing (happens (after_all creating (wiped_all spots)) (Formatted p)) new → Showing final new
    final_shows new shows = subst (λ (x : Core). Showing x new) (ap (λ (x : Core). happens x (Formatted p)) (wiped_is spots creating next refl)) shows

    pub is_added : (new : Image) → HavePlaces Spells site identity log new → Showing (happens (after_all creating (wiped_all spots)) (Formatted p)) new
        → Turned Spells site identity log w new (IsAdded spots site olds news p) (IsReadyWith took)
    is_added new have shows = record {
      events = es;
      are = refl;
      may = fits;
      world = record {
        reached = reached_more site w es a.idle.world.reached fits;
        matches = subst (Matches site log) (sym leads) final_matches;
        shows = subst (λ (x : Core). Showing x new) (sym leads) (final_shows new shows);
        listed = inl have;
      };
      known = subst (IsReadyWith took) (sym leads) final_known;
    }

  added_weaker : (spots cuts : List Spot) (new : Image) → Turned Spells site identity log w new (IsAdded spots site olds news p) (IsReadyWith took)
      → Turned Spells site identity log w new (λ es. AreWipedOrNone cuts es ⊎ IsAdded spots site olds news p es) (IsReadyWith took)
  added_weaker spots cuts new to = record { events = to.events; are = inr to.are; may = to.may; world = to.world; known = to.known }

  not_added : (spots cuts : List Spot) (new : Image) → HavePlaces Spells site identity log new → Shows Spells site identity (tables_of log.family) w new
      → Turned Spells site identity log w new (λ es. AreWipedOrNone cuts es ⊎ IsAdded spots site olds news p es) (IsReadyWith took)
  not_added spots cuts new have shows =
      record { events = []; are = inl (inl refl); may = tt; world = record { reached = a.idle.world.reached; matches = m; shows = shows; listed = inl have }; known = a.idle.known }

  only_cut : (spots cuts : List Spot) (new : Image) → AreUnnamed (lists_of site v) cuts → HavePlaces Spells site identity log new → Shows Spells site identity (tables_of log.family) (after_all creating (wiped_all cuts)) new
      → Turned Spells site identity log w new (λ es. AreWipedOrNone cuts es ⊎ IsAdded spots site olds news p es) (IsReadyWith took)
  only_cut spots cuts new apart have shows =
      let now : Shows Spells site identity (tables_of log.family) (after_all w (wiped_all cuts)) new =
      subst (λ (x : Core). Shows Spells site identity (tables_of log.family) x new) (sym (cut Spells site identity log w old v took a.idle cuts apart).leads)
      (subst (λ (x : Core). Shows Spells site identity (tables_of log.family) x new) (wiped_is cuts creating next refl) shows) in
      let to = cut_turns Spells site identity log w old v took a.idle cuts apart new have now in
      record { events = to.events; are = inl (inr to.are); may = to.may; world = to.world; known = to.known }

-- The first place of a slice, whatever its old first master led to.
module _ (Spells : List ℕ → Table → Type 0) (site : Site) (identity : Identity) (log : Log) (w : Core) (old new : Image) (v : Version) (took : List Spot) (line : SliceLine) (blocks count : ℕ) (olds news : List Place) (before : Option Master)
    (a : IsAdding Spells site identity log w old v took line blocks count 0 olds news) (known : FirstIs site old line before) where
  abbrev tables : ℕ → Table
  tables = tables_of log.family

  abbrev hand : Core
  hand = creating Spells site identity log w old v took line blocks count 0 olds news a

  lost : AreUnnamed (lists_of site v) (lost_beside line before blocks count)
  lost = unnamed_beside Spells site identity log w old v took line blocks count 0 olds news a before known

  may_format_first : IsFormattable (after_all hand (wiped_all (lost_beside line before blocks count))) (spot_on line blocks 0) v.mark.boot
  may_format_first = formattable Spells site identity log w old v took line blocks count 0 olds news a (lost_beside line before blocks count)

  pub first_added : Formats (place_on line blocks count 0) (master_on site identity line blocks count 0) v.mark.boot old new
      → Turned Spells site identity log w new (IsAdded (lost_beside line before blocks count) site olds news (spot_on line blocks 0)) (IsReadyWith took)
  first_added formats =
      is_added Spells site identity log w old v took line blocks count 0 olds news a (lost_beside line before blocks count) lost new
      (kept Spells site identity log w old v took line blocks count 0 olds news a new (is_formatted formats))
      (first_ends Spells site identity tables hand old new line a.idle.world.shows blocks count v.mark.boot before a.format known may_format_first formats)

  pub first_adding : MayFormat (place_on line blocks count 0) (master_on site identity line blocks count 0) v.mark.boot old new
      → Turned Spells site identity log w new (λ es. AreWipedOrNone (lost_with line before) es ⊎ IsAdded (lost_beside line before blocks count) site olds news (spot_on line blocks 0) es) (IsReadyWith took)
  first_adding change =
      let have = kept Spells site identity log w old v took line blocks count 0 olds news a new change in
      elim (first_goes Spells site identity tables hand old new line a.idle.world.shows blocks count v.mark.boot before a.format known may_format_first change) [
        | inl same ↦ not_added Spells site identity log w old v took line blocks count 0 olds news a (lost_beside line before blocks count) (lost_with line before) new have same
        | inr (inl blank) ↦
            only_cut Spells site identity log w old v took line blocks count 0 olds news a (lost_beside line before blocks count) (lost_with line before) new
            (unnamed_with Spells site identity log w old v took line blocks count 0 olds news a before known) have blank
        | inr (inr formats) ↦
            added_weaker Spells site identity log w old v took line blocks count 0 olds news a (lost_beside line before blocks count) (lost_with line before) new
            (is_added Spells site identity log w old v took line blocks count 0 olds news a (lost_beside line before blocks count) lost new have formats)
      ]

-- A later one, behind readable ones.
module _ (Spells : List ℕ → Table → Type 0) (site : Site) (identity : Identity) (log : Log) (w : Core) (old new : Image) (v : Version) (took : List Spot) (line : SliceLine) (k : ℕ) (first : Master) (olds news : List Place) (some : 0 < k)
    (a : IsAdding Spells site identity log w old v took line first.blocks first.count k olds news) (has : HasFirst site old line first)
    (chain : (j : ℕ) → j < k → (h : Head) × IsInChain Spells site line j (old line.at.drive.0) first h) where
  abbrev in_work : Core
  in_work = creating Spells site identity log w old v took line first.blocks first.count k olds news a

  may_format_later : IsFormattable in_work (spot_on line first.blocks k) v.mark.boot
  may_format_later = formattable Spells site identity log w old v took line first.blocks first.count k olds news a []

  none_lost : AreUnnamed (lists_of site v) []
  none_lost = unnamed_none Spells site identity log w old v took line first.blocks first.count k olds news a

  pub later_added : Formats (place_on line first.blocks first.count k) (master_on site identity line first.blocks first.count k) v.mark.boot old new
      → Turned Spells site identity log w new (IsAdded [] site olds news (spot_on line first.blocks k)) (IsReadyWith took)
  later_added formats =
      is_added Spells site identity log w old v took line first.blocks first.count k olds news a [] none_lost new
      (kept Spells site identity log w old v took line first.blocks first.count k olds news a new (is_formatted formats))
      (later_ends Spells site identity (tables_of log.family) in_work old new line a.idle.world.shows k v.mark.boot first some a.format has chain may_format_later formats)

  pub later_adding : MayFormat (place_on line first.blocks first.count k) (master_on site identity line first.blocks first.count k) v.mark.boot old new
      → Turned Spells site identity log w new (λ es. AreWipedOrNone (spots_behind line first k) es ⊎ IsAdded [] site olds news (spot_on line first.blocks k) es) (IsReadyWith took)
  later_adding change =
      let have = kept Spells site identity log w old v took line first.blocks first.count k olds news a new change in
      elim (later_goes Spells site identity (tables_of log.family) in_work old new line a.idle.world.shows k v.mark.boot first some a.format has chain may_format_later change) [
        | inl same ↦ not_added Spells site identity log w old v took line first.blocks first.count k olds news a [] (spots_behind line first k) new have same
        | inr (inl blank) ↦
            only_cut Spells site identity log w old v took line first.blocks first.count k olds news a [] (spots_behind line first k) new
            (unnamed_from Spells site identity log w old v took line first.blocks first.count k olds news a first.blocks k (max 1 first.count - k) has.located.lies.least) have blank
        | inr (inr formats) ↦
            added_weaker Spells site identity log w old v took line first.blocks first.count k olds news a [] (spots_behind line first k) new
            (is_added Spells site identity log w old v took line first.blocks first.count k olds news a [] none_lost new have formats)
      ]
