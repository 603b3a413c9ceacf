-- A world in which nothing is in work: places that its newest version doesn't list are blanked.
use Rattle.std.proofs.Common.{◌≡◌, inl, inr, ⊎_elim, ℕ, zero, suc, ◌≤◌, ◌||◌, true, false, List, [], ◌∷◌, refl, sym, ◌∙◌, ap, subst, not, Contains, Option, None, Some, arith}
use Rattle.std.proofs.lemmas.Bool.{and_from, cases_lt, cond-false, false≢true, false_from_ne_true, not_from_false, or_left, or_right}
use Rattle.std.proofs.lemmas.List.Elements.{All-contains, Contains-append_cases}
use Rattle.mdv_quorum.specs.May.{IsReady, MayAll, is_firm_in, is_only_place, may_wipe}
use Rattle.mdv_quorum.specs.Standing.{IsLastFirm}
use Rattle.mdv_quorum.specs.World.{given_up, wiped_at}
use Rattle.mdv_replica.specs.Images.{SameOutside}
use Rattle.mdv_shown.specs.Site.{line_area}
use Rattle.mdv_shown.specs.Wipes.{wiped_all}
use Rattle.mdv_shown.proofs.Elsewhere.{found_kept}
use Rattle.mdv_shown.proofs.Wiped.{IsWiped, all_wiped}
use Rattle.mdv_config.specs.Lists.{beside, places_of}
use Rattle.mdv_votes.specs.Family.{change_at, wiped}
use Rattle.mdv_votes.specs.Spots.{in_second}
use Rattle.mdv_votes.proofs.Meeting.{same_self}
use Rattle.mdv_standing.specs.Below.{Reading, Core, FamilyTable, Identity, Image, IsBelow, Lists, Log, Mark, One, Place, Ready, Shows, Site, SliceAt, SliceLine, Spot, SpotLists, Stage, Table, Two, Version, after_all, is_in, is_named, last_number, last_table, place_on, same_spot, slice_at, spot_on}
use Rattle.mdv_store_law.specs.Log.{IsNotOlder}
use Rattle.mdv_standing.specs.Listed.{HasPlace, HavePlaces}
use Rattle.mdv_standing.specs.Matching.{Matches, lists_of, spot_floor, spot_in, spot_of_place, spots_in, spots_of, tables_of, version_at}
use Rattle.mdv_standing.specs.Placing.{IsIdle}
use Rattle.mdv_standing.specs.Worlds.{IsReadyWith, Turned}
use Rattle.mdv_standing.proofs.Named.{of_filter}
use Rattle.mdv_standing.proofs.Creating.{floor_wiped, since_wiped, wipe_each}
use Rattle.mdv_standing.proofs.Following.{Follows, matches_follow}
use Rattle.mdv_standing.proofs.Listed.{past_reading}
use Rattle.mdv_standing.proofs.Reaching.{reached_more, standing}
use Rattle.mdv_standing.proofs.Taking.{last_lists, last_version, some_table}
use Rattle.mdv_standing.proofs.Voting.{numbered}
use Rattle.mdv_standing.proofs.Within.{line_still}

-- a listed place is named by its spot
module _ (site : Site) where
  place_in : (list : List Place) (place : Place) → Contains list place → is_in (spots_in site list) (spot_of_place site place) ≡ true
  place_in [] place has = absurd (omega (arith, has.1))
  place_in (x ∷ list) place (zero, lt, e) = or_left (same_spot (spot_of_place site x) (spot_of_place site place)) (is_in (spots_in site list) (spot_of_place site place))
      (subst (λ (p : Place). same_spot (spot_of_place site x) (spot_of_place site p) ≡ true) e (same_self (spot_of_place site x)))
  place_in (x ∷ list) place (suc k, lt, e) = or_right (same_spot (spot_of_place site x) (spot_of_place site place)) (is_in (spots_in site list) (spot_of_place site place)) (place_in list place (k, omega (arith, lt), e))

  no_seat : (place : Place) → (spot_of_place site place).mediator ≡ false
  no_seat place = by (slice_at site.lines place.slice)
    where
      by : (o : Option SliceAt) → (spot_in o place).mediator ≡ false
      by None = refl
      by (Some at) = refl

  pub place_named : (lists : Lists) (place : Place) → Contains (places_of lists) place → is_named (spots_of site lists) (spot_of_place site place) ≡ true
  place_named lists place has =
      let p = spot_of_place site place in
      cond-false p.mediator (is_in (spots_of site lists).mediators p) (is_in (spots_of site lists).first p || in_second (spots_of site lists).second p) (no_seat place) ∙ by lists has
    where
      by : (l : Lists) → Contains (places_of l) place → is_in (spots_of site l).first (spot_of_place site place) || in_second (spots_of site l).second (spot_of_place site place) ≡ true
      by (One places) has = or_left (is_in (spots_in site places) (spot_of_place site place)) false (place_in places place has)
      by (Two old new) has = elim (Contains-append_cases old (beside old new) place has) [
        | inl here ↦ or_left (is_in (spots_in site old) (spot_of_place site place)) (is_in (spots_in site new) (spot_of_place site place)) (place_in old place here)
        | inr there ↦ or_right (is_in (spots_in site old) (spot_of_place site place)) (is_in (spots_in site new) (spot_of_place site place)) (place_in new place (of_filter _ new place there))
      ]

-- Places are blanked that the last table doesn't name.
abbrev pub AreUnnamed : SpotLists → List Spot → Type 0
AreUnnamed lists spots = (q : Spot) → is_in spots q ≡ true → (q.mediator ≡ false) × (is_named lists q ≡ false)

pub record CutReady (w : Core) (spots : List Spot) : Type 0 where
  pub in_hand : Option FamilyTable
  pub leads : after_all w (wiped_all spots) ≡ record w { places = wipe_each w.places spots; stage = Ready in_hand }
  pub may : MayAll w (wiped_all spots)

cut_ready : (spots : List Spot) (w : Core) (next : Option FamilyTable) → w.stage ≡ Ready next → w.firm ≡ Some (last_number w) → AreUnnamed (last_table w).lists spots → CutReady w spots
cut_ready [] w next e firm apart = record { in_hand = next; leads = ap (λ (s : Stage). record w { stage = s }) e; may = tt }
cut_ready (p ∷ ps) w next e firm apart =
    let mine = apart p (or_left (same_spot p p) (is_in ps p) (same_self p)) in
    let v : Core = record w { places = change_at w.places p wiped; stage = Ready (given_up p next) } in
    let step : wiped_at w p w.stage ≡ v = ap (wiped_at w p) e ∙ cond-false (is_named (last_table w).lists p) (record w { places = change_at w.places p wiped; deleted = Some p; stage = Reading [] }) v mine.1 in
    let rest = cut_ready ps v (given_up p next) refl firm (λ q has. apart q (or_right (same_spot p q) (is_in ps q) has)) in
    let unfirm : is_firm_in w.family w.firm p ≡ false = ap (λ (o : Option ℕ). is_firm_in w.family o p) firm ∙ mine.1 in
    record {
      in_hand = rest.in_hand;
      leads = ap (λ (x : Core). after_all x (wiped_all ps)) step ∙ rest.leads;
      may = (
        subst (λ (g : Stage). may_wipe w p g ≡ true) (sym e) (and_from (not p.mediator) (not (is_firm_in w.family w.firm p) || is_only_place (last_table w).lists p) (not_from_false p.mediator mine.0)
            (or_left (not (is_firm_in w.family w.firm p)) (is_only_place (last_table w).lists p) (not_from_false (is_firm_in w.family w.firm p) unfirm))),
        subst (λ (x : Core). MayAll x (wiped_all ps)) (sym step) rest.may,
      );
    }

module _ (Spells : List ℕ → Table → Type 0) (site : Site) (identity : Identity) (log : Log) (w : Core) (old : Image) (v : Version) (took : List Spot) (i : IsIdle Spells site identity log w old v took) where
  abbrev m : Matches site log w
  m = i.world.matches

  pub idle_firm : w.firm ≡ Some (last_number w)
  idle_firm = (let ready : IsLastFirm w = (standing site w i.world.reached).ready (subst IsReady (sym i.known.stage) tt) in ready.1)

  pub idle_lists : (last_table w).lists ≡ lists_of site v
  idle_lists = last_lists site log w m v i.older i.newest

  pub idle_places : HavePlaces Spells site identity log old
  idle_places = ⊎_elim (λ places. places) (λ none. absurd (past_reading site w i.world.reached (Ready i.known.in_hand) i.known.stage (λ read same. cc (same)) none)) i.world.listed

  -- a boot may find the newest version alone
  pub its_version : (x : Version) → Contains log.family x → IsNotOlder x.mark log.family → x ≡ v
  its_version x has found =
      let s = standing site w i.world.reached in
      let n = numbered site log w i.world.reached m x has in
      let last = last_version site log w m v i.older i.newest in
      let some = some_table site log w m v i.older i.newest in
      elim (cases_lt n.0 (last_number w)) [
        | inl less ↦
            let v_mark : (last_table w).mark ≡ v.mark = (m.each (last_number w) (omega (arith, some))).mark ∙ ap (λ (y : Version). y.mark) last in
            let below = s.family.marks n.0 (last_number w) less (omega (arith, some)) in
            let under : IsBelow x.mark v.mark = subst (λ (k : Mark). IsBelow x.mark k) v_mark (subst (λ (k : Mark). IsBelow k (last_table w).mark) n.3 below) in
            absurd (All-contains (λ (y : Version). y.is_written ≡ true → IsBelow x.mark y.mark → ⊥) log.family v found (subst (λ (l : List Version). Contains l v) (sym i.newest) (0, omega arith, refl)) i.written under)
        | inr more ↦
            let same : n.0 ≡ last_number w = omega (arith, more, n.1) in
            sym n.2 ∙ ap (version_at log.family) same ∙ last
      ]

  -- the version names a place that it lists where its replica is found
  pub has_named : (place : Place) → Contains (places_of v.table.plan.lists) place → (has : HasPlace Spells site identity old place) → is_named (lists_of site v) (spot_on has.line has.first.blocks has.number) ≡ true
  has_named place listed has =
      let at = i.lines has.line has.own.found.one_of in
      let spot : spot_of_place site place ≡ spot_on has.line has.first.blocks has.number =
      ap (spot_of_place site) has.is ∙ ap (λ (o : Option SliceAt). spot_in o (place_on has.line has.first.blocks has.first.count has.number).place) at in
      subst (λ (q : Spot). is_named (lists_of site v) q ≡ true) spot (place_named site v.table.plan.lists place listed)

  -- The places that it lists stay where a slice changes, if those on that slice do.
  pub places_kept : (line : SliceLine) (new : Image) → Contains site.lines line → SameOutside (line_area line) old new
      → ((place : Place) (has : HasPlace Spells site identity old place) → has.line ≡ line → is_named (lists_of site v) (spot_on has.line has.first.blocks has.number) ≡ true → HasPlace Spells site identity new place)
      → HavePlaces Spells site identity log new
  places_kept line new is_line outside here x place one_of found listed =
      let same = its_version x one_of found in
      let has = idle_places x place one_of found listed in
      let named = has_named place (subst (λ (y : Version). Contains (places_of y.table.plan.lists) place) same listed) has in
      elim (i.site_is.apart line has.line is_line has.own.found.one_of) [
        | inl on ↦ here place has (sym on) named
        | inr apart ↦
            let fits = has.own.found.within in
            record {
              line = has.line;
              number = has.number;
              first = has.first;
              head = has.head;
              own = record {
                found = found_kept Spells site has.line (old has.line.at.drive.0) (new has.line.at.drive.0) has.first has.number has.head
                    (λ block from to. line_still line has.line apart old new outside block (omega (arith, from)) (omega (arith, to, fits))) has.own.found;
                of_identity = has.own.of_identity;
              };
              is = has.is;
            }
      ]

  -- The world without some places that it doesn't name.
  module _ (spots : List Spot) (apart : AreUnnamed (lists_of site v) spots) where
    pub cut : CutReady w spots
    cut = cut_ready spots w i.known.in_hand i.known.stage idle_firm (λ q has. (let is = apart q has in (is.0, subst (λ (l : SpotLists). is_named l q ≡ false) (sym idle_lists) is.1)))

    abbrev pub without_them : Option FamilyTable → Core
    without_them next = record w { places = wipe_each w.places spots; stage = Ready next }

    cut_follows : Follows site log w (without_them cut.in_hand)
    cut_follows = record {
      set = refl;
      family = refl;
      changes = refl;
      floors = λ q. subst (λ (f : ℕ). f ≤ spot_floor site log q) (sym (floor_wiped spots w.places q)) (m.reused q);
      deleted = refl;
      firm = λ f e. (f, e, omega arith);
      dropped = λ q k e. m.dropped q k (sym (since_wiped spots w.places q) ∙ e);
      steady = m.steady;
    }

    pub cut_known : IsReadyWith took (without_them cut.in_hand)
    cut_known = record {
      in_hand = cut.in_hand;
      stage = refl;
      taken = λ q e.
          let was = i.known.taken q e in
          let is : IsWiped w (without_them cut.in_hand) spots = subst (λ (x : Core). IsWiped w x spots) cut.leads (all_wiped w spots) in
          let out : is_in spots q ≡ false = false_from_ne_true (is_in spots q) (λ inside. false≢true (sym (apart q inside).1 ∙ i.named q e)) in
          record { holds = is.kept q out ∙ was.holds; newest = is.newest q ∙ was.newest };
    }

    pub cut_turns : (new : Image) → HavePlaces Spells site identity log new → Shows Spells site identity (tables_of log.family) (after_all w (wiped_all spots)) new
        → Turned Spells site identity log w new (λ es. es ≡ wiped_all spots) (IsReadyWith took)
    cut_turns new have shows = record {
      events = wiped_all spots;
      are = refl;
      may = cut.may;
      world = record {
        reached = reached_more site w (wiped_all spots) i.world.reached cut.may;
        matches = subst (Matches site log) (sym cut.leads) (matches_follow site log w (without_them cut.in_hand) cut_follows m);
        shows = shows;
        listed = inl have;
      };
      known = subst (IsReadyWith took) (sym cut.leads) cut_known;
    }
