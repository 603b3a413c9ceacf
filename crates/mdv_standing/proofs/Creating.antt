-- What a creation does to the worlds and the log of its database.
use Rattle.std.proofs.Common.{◌≡◌, inl, inr, ℕ, zero, suc, ◌+◌, ◌-◌, ◌*◌, ◌<◌, ◌≤◌, ◌&&◌, Bool, true, false, List, [], ◌∷◌, length, refl, sym, ◌∙◌, ap, subst, Contains, Option, None, Some, arith}
use Rattle.std.proofs.lemmas.Bool.{and_from, cases_Bool, cases_lt, cond-false, cond-true, false≢true, false_from_ne_true, not_from_false, or_cases, or_left, or_right}
use Rattle.std.proofs.lemmas.List.Elements.{All-nil}
use Rattle.std.specs.Prelude.{filter, max, not, reverse}
use Rattle.std.specs.List.{filter_map}
use Rattle.mdv_votes.specs.Family.{change_at, formatted, put_at, raised, wiped}
use Rattle.mdv_votes.specs.Spots.{same_spot}
use Rattle.mdv_votes.specs.declared.version.Since.{Since}
use Rattle.mdv_votes.specs.declared.version.Since.TheVariants.{Never, Listed, Dropped}
use Rattle.mdv_votes.specs.declared.version.SpotState.{SpotState}
use Rattle.mdv_votes.proofs.Meeting.{same_self}
use Rattle.mdv_votes.proofs.PlacesAt.{put_cases, wipe_at, wiped_floor, wiped_since}
use Rattle.mdv_quorum.specs.May.{is_firm_in, is_lists, is_new, may, may_format, may_slot}
use Rattle.mdv_quorum.specs.Standing.{BootsAt}
use Rattle.mdv_quorum.specs.World.{created, formatted_at, formatted_place, happens, slotted, wiped_at, without}
use Rattle.mdv_shown.specs.Formats.{IsFormattable, lost_beside, lost_with, next_number}
use Rattle.mdv_shown.specs.Shown.{NewestIs, ShowsPlaces}
use Rattle.mdv_shown.specs.Wipes.{spots_behind, wiped_all}
use Rattle.mdv_shown.proofs.Elsewhere.{places_step}
use Rattle.mdv_shown.proofs.Formatting.{first_ends, first_goes, later_ends, later_goes}
use Rattle.mdv_shown.proofs.Wiped.{IsFrom, IsWiped, all_wiped, in_from}
use Rattle.mdv_store_law.specs.Log.{IsAbove as IsAboveAll, IsEmpty, IsNotOver}
use Rattle.mdv_standing.specs.Below.{Core, Creating, FamilyTable, FirstIs, Formatted, Formats, Geometry, HasFirst, Head, Identity, Image, IsBelow, IsInChain, LeftClosed, Lists, Log, Mark, Master, MayFormat, MayHappen, NextLists, Shows, Site, SliceLine, Slotted, Spot, SpotLists, Stage, Table, Version, WritesLog, after_all, is_in, is_named, is_none, log_after, master_on, place_at, place_on, spot_on, start}
use Rattle.mdv_standing.specs.Laws.{HasNone}
use Rattle.mdv_standing.specs.Matching.{IsVersionAt, Matches, is_set, spot_floor, spots_of, tables_of}
use Rattle.mdv_standing.specs.Worlds.{IsNoneOr, IsTaking, IsWorld, Turned}
use Rattle.mdv_standing.specs.Creating.{AreAllPlaced, IsCreating, IsCreation, IsFormatting, MayBeFormatted, first_mark, issued_log}
use Rattle.mdv_standing.proofs.Reaching.{reached_more, standing}
use Rattle.mdv_standing.proofs.Following.{Follows, GoesOn, matches_follow, since_put}
use Rattle.mdv_standing.proofs.Beginning.{LeadsBy, begun_taking, begun_world}
use Rattle.mdv_standing.proofs.Committing.{may_list_again}
use Rattle.mdv_standing.proofs.Lawful.{matches_empty, world_none}
use Rattle.mdv_standing.proofs.Listed.{has_lies, places_none}

-- what an image shows of places is told by what is looked up there
pub record IsSameAt (a b : SpotState) : Type 0 where
  pub holds : a.holds ≡ b.holds
  pub claim : a.claim ≡ b.claim
  pub newest : a.newest ≡ b.newest

pub places_agree : (Spells : List ℕ → Table → Type 0) (site : Site) (identity : Identity) (tables : ℕ → Table) (family : List FamilyTable) (places others : List SpotState) (image : Image)
    → ((q : Spot) → IsSameAt (place_at others q) (place_at places q)) → ShowsPlaces Spells site identity tables family places image → ShowsPlaces Spells site identity tables family others image
places_agree Spells site identity tables family places others image same shows = record {
  each = λ line k first head own.
      let was = shows.each line k first head own in
      let s = same (spot_on line first.blocks k) in
      record {
        holds = s.holds ∙ was.holds;
        claim = s.claim ∙ was.claim;
        newest = subst (λ (o : Option ℕ). NewestIs Spells tables family (place_on line first.blocks first.count k) (image line.at.drive.0) head o) (sym s.newest) was.newest;
      };
  only = λ p kind holds. shows.only p kind (sym (same p).holds ∙ holds);
  seats = λ p kind holds. shows.seats p kind (sym (same p).holds ∙ holds);
}

pub in_filtered : (test : Spot → Bool) (list : List Spot) (q : Spot) → is_in (filter test list) q ≡ true → is_in list q ≡ true
in_filtered test [] q e = e
in_filtered test (x ∷ xs) q e =
    elim (cases_Bool (test x)) [
      | inl does ↦
          let here : is_in (x ∷ filter test xs) q ≡ true = sym (ap (λ (l : List Spot). is_in l q) (cond-true (test x) (x ∷ filter test xs) (filter test xs) does)) ∙ e in
          elim (or_cases (same_spot x q) (is_in (filter test xs) q) here) [
            | inl same ↦ or_left (same_spot x q) (is_in xs q) same
            | inr rest ↦ or_right (same_spot x q) (is_in xs q) (in_filtered test xs q rest)
          ]
      | inr never ↦ or_right (same_spot x q) (is_in xs q) (in_filtered test xs q (sym (ap (λ (l : List Spot). is_in l q) (cond-false (test x) (x ∷ filter test xs) (filter test xs) never)) ∙ e))
    ]

-- places that are blanked while a creation is in hand
abbrev pub wipe_each : List SpotState → List Spot → List SpotState
wipe_each xs [] = xs
wipe_each xs (p ∷ ps) = wipe_each (change_at xs p wiped) ps

pub wiped_is : (spots : List Spot) (w : Core) (next : FamilyTable) → w.stage ≡ Creating next → after_all w (wiped_all spots) ≡ record w { places = wipe_each w.places spots }
wiped_is [] w next e = refl
wiped_is (p ∷ ps) w next e = ap (λ (v : Core). after_all v (wiped_all ps)) (ap (wiped_at w p) e) ∙ wiped_is ps (without w p) next e

pub since_wiped : (spots : List Spot) (xs : List SpotState) (q : Spot) → (place_at (wipe_each xs spots) q).since ≡ (place_at xs q).since
since_wiped [] xs q = refl
since_wiped (p ∷ ps) xs q = since_wiped ps (change_at xs p wiped) q ∙ ap (λ (x : SpotState). x.since) (wipe_at xs p q) ∙ wiped_since p (place_at xs q)

pub floor_wiped : (spots : List Spot) (xs : List SpotState) (q : Spot) → (place_at (wipe_each xs spots) q).floor ≡ (place_at xs q).floor
floor_wiped [] xs q = refl
floor_wiped (p ∷ ps) xs q = floor_wiped ps (change_at xs p wiped) q ∙ ap (λ (x : SpotState). x.floor) (wipe_at xs p q) ∙ wiped_floor p (place_at xs q)

none_raised : (floor : ℕ) (s : Since) → ((i : ℕ) → s ≡ Dropped i → ⊥) → raised floor s ≡ floor
none_raised floor Never never = refl
none_raised floor Listed never = refl
none_raised floor (Dropped i) never = absurd (never i refl)

-- A place is formatted while the creation is in hand, whatever was blanked before of what the world doesn't hold.
module _ (Spells : List ℕ → Table → Type 0) (site : Site) (identity : Identity) (log : Log) (w : Core) (old : Image) (lists : Lists) (done : List Spot) (c : IsCreation Spells site identity log w old lists done)
    (p : Spot) (place : p.mediator ≡ false) (named : is_named (spots_of site lists) p ≡ true) where
  abbrev m : Matches site log w
  m = c.world.matches

  abbrev next : FamilyTable
  next = c.known.next

  no_family : length w.family ≡ 0
  no_family = m.as_many ∙ ap length c.empty

  not_firm : is_firm_in w.family w.firm p ≡ false
  not_firm = by w.firm refl
    where
      by : (o : Option ℕ) → w.firm ≡ o → is_firm_in w.family o p ≡ false
      by None e = refl
      by (Some f) e = (let known = (standing site w c.world.reached).descent.known f e in absurd (omega (arith, known, no_family)))

  undropped : (q : Spot) (i : ℕ) → (place_at w.places q).since ≡ Dropped i → ⊥
  undropped q i e = (let known = (m.dropped q i e).known in let none : length log.family ≡ 0 = ap length c.empty in absurd (omega (arith, known, none)))

  -- the world with some places blanked
  abbrev cut : List Spot → Core
  cut spots = record w { places = wipe_each w.places spots }

  format_fits : (spots : List Spot) → may_format (cut spots) p (Creating next) ≡ true
  format_fits spots =
      and_from (not p.mediator) (is_named next.lists p && not (is_firm_in w.family w.firm p)) (not_from_false p.mediator place)
      (and_from (is_named next.lists p) (not (is_firm_in w.family w.firm p)) (subst (λ (l : SpotLists). is_named l p ≡ true) (sym c.known.lists_are) named) (not_from_false (is_firm_in w.family w.firm p) not_firm))

  pub formattable : (spots : List Spot) → IsFormattable (cut spots) p 1
  formattable spots = record {
    fits = subst (λ (g : Stage). may_format (cut spots) p g ≡ true) (sym c.known.stage) (format_fits spots);
    number_is = subst (λ (g : Stage). next_number g ≡ Some 1) (sym c.known.stage) (ap (λ (k : Mark). Some k.boot) c.known.marked);
  }

  pub rest_formattable : (spots : List Spot) → IsFormattable (after_all w (wiped_all spots)) p 1
  rest_formattable spots = subst (λ (v : Core). IsFormattable v p 1) (sym (wiped_is spots w next c.known.stage)) (formattable spots)

  -- none of them is held
  module _ (spots : List Spot) (unheld : (q : Spot) → is_in spots q ≡ true → is_in done q ≡ true → ⊥) where
    same_cut : (q : Spot) → IsSameAt (place_at w.places q) (place_at (wipe_each w.places spots) q)
    same_cut q =
        let is : IsWiped w (cut spots) spots = subst (λ (v : Core). IsWiped w v spots) (wiped_is spots w next c.known.stage) (all_wiped w spots) in record {
          holds = elim (cases_Bool (is_in spots q)) [
            | inr out ↦ sym (is.kept q out)
            | inl inside ↦
                false_from_ne_true (place_at w.places q).holds (λ h. unheld q inside (c.known.held q h))
                ∙ sym (false_from_ne_true (place_at (wipe_each w.places spots) q).holds (λ h. is.gone q inside h))
          ];
          claim = sym (is.claim q);
          newest = sym (is.newest q);
        }

    pub shows_uncut : (new : Image) → Shows Spells site identity (tables_of log.family) (after_all w (wiped_all spots)) new → Shows Spells site identity (tables_of log.family) w new
    shows_uncut new shows =
        places_agree Spells site identity (tables_of log.family) w.family (wipe_each w.places spots) w.places new same_cut
        (subst (λ (v : Core). Shows Spells site identity (tables_of log.family) v new) (wiped_is spots w next c.known.stage) shows)

    same_put : (q : Spot) → IsSameAt (place_at (put_at w.places p (formatted next.mark.boot None)) q) (place_at (put_at (wipe_each w.places spots) p (formatted next.mark.boot None)) q)
    same_put q =
        let a = put_cases w.places p q (formatted next.mark.boot None) (λ x. refl) in
        let b = put_cases (wipe_each w.places spots) p q (formatted next.mark.boot None) (λ x. refl) in
        elim a [
          | inl x ↦ elim b [
            | inl y ↦ record {
              holds = ap (λ (z : SpotState). z.holds) x.1 ∙ sym (ap (λ (z : SpotState). z.holds) y.1);
              claim = ap (λ (z : SpotState). z.claim) x.1 ∙ sym (ap (λ (z : SpotState). z.claim) y.1);
              newest = ap (λ (z : SpotState). z.newest) x.1 ∙ sym (ap (λ (z : SpotState). z.newest) y.1);
            }
            | inr y ↦ absurd (false≢true (sym y.0 ∙ subst (λ (z : Spot). same_spot p z ≡ true) x.0 (same_self p)))
          ]
          | inr x ↦ elim b [
            | inl y ↦ absurd (false≢true (sym x.0 ∙ subst (λ (z : Spot). same_spot p z ≡ true) y.0 (same_self p)))
            | inr y ↦
                let s = same_cut q in
                record {
                  holds = ap (λ (z : SpotState). z.holds) x.1 ∙ s.holds ∙ sym (ap (λ (z : SpotState). z.holds) y.1);
                  claim = ap (λ (z : SpotState). z.claim) x.1 ∙ s.claim ∙ sym (ap (λ (z : SpotState). z.claim) y.1);
                  newest = ap (λ (z : SpotState). z.newest) x.1 ∙ s.newest ∙ sym (ap (λ (z : SpotState). z.newest) y.1);
                }
          ]
        ]

    pub shows_put : (new : Image) → Shows Spells site identity (tables_of log.family) (happens (after_all w (wiped_all spots)) (Formatted p)) new
        → Shows Spells site identity (tables_of log.family) (formatted_place w p next) new
    shows_put new shows =
        let cut_now : happens (after_all w (wiped_all spots)) (Formatted p) ≡ formatted_place (cut spots) p next =
        ap (λ (v : Core). happens v (Formatted p)) (wiped_is spots w next c.known.stage) ∙ ap (formatted_at (cut spots) p) c.known.stage in
        places_agree Spells site identity (tables_of log.family) w.family (put_at (wipe_each w.places spots) p (formatted next.mark.boot None)) (put_at w.places p (formatted next.mark.boot None)) new same_put
        (subst (λ (v : Core). Shows Spells site identity (tables_of log.family) v new) cut_now shows)

  -- the world with the place formatted
  leads : happens w (Formatted p) ≡ formatted_place w p next
  leads = ap (formatted_at w p) c.known.stage

  fits : may w (Formatted p) ≡ true
  fits = (formattable []).fits

  put_follows : Follows site log w (formatted_place w p next)
  put_follows = record {
    set = refl;
    family = refl;
    changes = refl;
    floors = λ q. subst (λ (f : ℕ). f ≤ spot_floor site log q) (sym (elim (put_cases w.places p q (formatted next.mark.boot None) (λ x. refl)) [
      | inl a ↦ ap (λ (x : SpotState). x.floor) a.1 ∙ none_raised (place_at w.places q).floor (place_at w.places q).since (undropped q)
      | inr b ↦ ap (λ (x : SpotState). x.floor) b.1
    ])) (m.reused q);
    deleted = refl;
    firm = λ f e. (f, e, omega arith);
    dropped = λ q i e. absurd (undropped q i (sym (since_put w.places p q (formatted next.mark.boot None) (λ x. refl) (λ x. refl)) ∙ e));
    steady = m.steady;
  }

  put_known : IsCreating (spots_of site lists) (p ∷ done) (formatted_place w p next)
  put_known = record {
    next = next;
    stage = c.known.stage;
    marked = c.known.marked;
    lists_are = c.known.lists_are;
    kind = c.known.kind;
    number = c.known.number;
    plan = c.known.plan;
    issued = c.known.issued;
    held = λ q h. elim (put_cases w.places p q (formatted next.mark.boot None) (λ x. refl)) [
      | inl here ↦ or_left (same_spot p q) (is_in done q) (subst (λ (z : Spot). same_spot p z ≡ true) here.0 (same_self p))
      | inr other ↦ or_right (same_spot p q) (is_in done q) (c.known.held q (sym (ap (λ (x : SpotState). x.holds) other.1) ∙ h))
    ];
    there = λ q e. elim (put_cases w.places p q (formatted next.mark.boot None) (λ x. refl)) [
      | inl here ↦ ap (λ (x : SpotState). x.holds) here.1
      | inr other ↦ elim (or_cases (same_spot p q) (is_in done q) e) [
        | inl same ↦ absurd (false≢true (sym other.0 ∙ same))
        | inr before ↦ ap (λ (x : SpotState). x.holds) other.1 ∙ c.known.there q before
      ]
    ];
  }

  pub put_world : (new : Image) → Shows Spells site identity (tables_of log.family) (formatted_place w p next) new → IsWorld Spells site identity log (happens w (Formatted p)) new
  put_world new shows = record {
    reached = reached_more site w (Formatted p ∷ []) c.world.reached (fits, tt);
    matches = subst (Matches site log) (sym leads) (matches_follow site log w (formatted_place w p next) put_follows m);
    shows = subst (λ (v : Core). Shows Spells site identity (tables_of log.family) v new) (sym leads) shows;
    listed = inl (places_none Spells site identity log new c.empty);
  }

  pub is_put : (new : Image) → Shows Spells site identity (tables_of log.family) (formatted_place w p next) new
      → Turned Spells site identity log w new (λ es. es ≡ Formatted p ∷ []) (IsCreating (spots_of site lists) (p ∷ done))
  is_put new shows = record { events = Formatted p ∷ []; are = refl; may = (fits, tt); world = put_world new shows; known = subst (IsCreating (spots_of site lists) (p ∷ done)) (sym leads) put_known }

  pub may_be_put : (new : Image) → Shows Spells site identity (tables_of log.family) (formatted_place w p next) new
      → Turned Spells site identity log w new (IsNoneOr (Formatted p)) (MayBeFormatted (spots_of site lists) p done)
  may_be_put new shows = record { events = Formatted p ∷ []; are = inr refl; may = (fits, tt); world = put_world new shows; known = inr (subst (IsCreating (spots_of site lists) (p ∷ done)) (sym leads) put_known) }

  pub not_put : (new : Image) → Shows Spells site identity (tables_of log.family) w new → Turned Spells site identity log w new (IsNoneOr (Formatted p)) (MayBeFormatted (spots_of site lists) p done)
  not_put new shows = record { events = []; are = inl refl; may = tt; world = record { reached = c.world.reached; matches = m; shows = shows; listed = inl (places_none Spells site identity log new c.empty) }; known = inl c.known }

-- a place of the slice from that one on isn't one that was formatted
module _ (Spells : List ℕ → Table → Type 0) (site : Site) (identity : Identity) (log : Log) (w : Core) (old : Image) (line : SliceLine) (blocks count k : ℕ) (lists : Lists) (done : List Spot)
    (f : IsFormatting Spells site identity log w old line blocks count k lists done) where
  pub unheld_from : (b from n : ℕ) (q : Spot) → 16 ≤ b → (is : IsFrom line b from n q) → k * blocks ≤ is.number * b → is_in done q ≡ true → ⊥
  unheld_from b from n q least is up has =
      let first : line.at.start + (16 + is.number * b) ≡ q.first = ap (λ (x : Spot). x.first) is.spot in
      let drive : line.at.drive.0 ≡ q.drive.0 = ap (λ (x : Spot). x.drive.0) is.spot in
      let within = is.within in
      let below = f.before q has (sym drive) (omega (arith, first)) (omega (arith, first, within, least)) in
      absurd (omega (arith, below, first, up))

module _ (Spells : List ℕ → Table → Type 0) (site : Site) (identity : Identity) (log : Log) (w : Core) (old : Image) (line : SliceLine) (blocks count : ℕ) (lists : Lists) (done : List Spot) (before : Option Master)
    (f : IsFormatting Spells site identity log w old line blocks count 0 lists done) (known : FirstIs site old line before) where
  abbrev p : Spot
  p = spot_on line blocks 0

  none_with : (o : Option Master) → FirstIs site old line o → (q : Spot) → is_in (lost_with line o) q ≡ true → is_in done q ≡ true → ⊥
  none_with None located q is has = false≢true is
  none_with (Some first) located q is has = (let from = in_from line first.blocks 0 (max 1 first.count - 0) q is in unheld_from Spells site identity log w old line blocks count 0 lists done f first.blocks 0 (max 1 first.count - 0) q located.lies.least from (omega arith) has)

  none_beside : (o : Option Master) → FirstIs site old line o → (q : Spot) → is_in (lost_beside line o blocks count) q ≡ true → is_in done q ≡ true → ⊥
  none_beside None located q is has = false≢true is
  none_beside (Some first) located q is has =
      let inside = in_filtered _ (spots_behind line first 1) q is in
      let from = in_from line first.blocks 1 (max 1 first.count - 1) q inside in
      unheld_from Spells site identity log w old line blocks count 0 lists done f first.blocks 1 (max 1 first.count - 1) q located.lies.least from (omega arith) has

  pub first_formatting : (new : Image) → MayFormat (place_on line blocks count 0) (master_on site identity line blocks count 0) 1 old new
      → Turned Spells site identity log w new (IsNoneOr (Formatted p)) (MayBeFormatted (spots_of site lists) p done)
  first_formatting new change =
      elim (first_goes Spells site identity (tables_of log.family) w old new line f.creation.world.shows blocks count 1 before f.format known
      (rest_formattable Spells site identity log w old lists done f.creation p refl f.named (lost_beside line before blocks count)) change) [
        | inl same ↦ not_put Spells site identity log w old lists done f.creation p refl f.named new same
        | inr changed ↦ elim changed [
          | inl blank ↦
              not_put Spells site identity log w old lists done f.creation p refl f.named new
              (shows_uncut Spells site identity log w old lists done f.creation p refl f.named (lost_with line before) (none_with before known) new blank)
          | inr formats ↦
              may_be_put Spells site identity log w old lists done f.creation p refl f.named new
              (shows_put Spells site identity log w old lists done f.creation p refl f.named (lost_beside line before blocks count) (none_beside before known) new formats)
        ]
      ]

  pub first_formatted : (new : Image) → Formats (place_on line blocks count 0) (master_on site identity line blocks count 0) 1 old new
      → Turned Spells site identity log w new (λ es. es ≡ Formatted p ∷ []) (IsCreating (spots_of site lists) (p ∷ done))
  first_formatted new formats =
      is_put Spells site identity log w old lists done f.creation p refl f.named new
      (shows_put Spells site identity log w old lists done f.creation p refl f.named (lost_beside line before blocks count) (none_beside before known) new
      (first_ends Spells site identity (tables_of log.family) w old new line f.creation.world.shows blocks count 1 before f.format known
      (rest_formattable Spells site identity log w old lists done f.creation p refl f.named (lost_beside line before blocks count)) formats))

module _ (Spells : List ℕ → Table → Type 0) (site : Site) (identity : Identity) (log : Log) (w : Core) (old : Image) (line : SliceLine) (k : ℕ) (first : Master) (lists : Lists) (done : List Spot) (some : 0 < k)
    (f : IsFormatting Spells site identity log w old line first.blocks first.count k lists done) (has : HasFirst site old line first)
    (chain : (j : ℕ) → j < k → (h : Head) × IsInChain Spells site line j (old line.at.drive.0) first h) where
  abbrev q : Spot
  q = spot_on line first.blocks k

  none_behind : (x : Spot) → is_in (spots_behind line first k) x ≡ true → is_in done x ≡ true → ⊥
  none_behind x is was =
      let from = in_from line first.blocks k (max 1 first.count - k) x is in
      let at_least = from.from in
      let up : k * first.blocks ≤ from.number * first.blocks = elim (cases_lt k from.number) [
        | inl less ↦ (let step = places_step k from.number first.blocks less in omega (arith, step))
        | inr more ↦ (let same : k ≡ from.number = omega (arith, more, at_least) in subst (λ (n : ℕ). k * first.blocks ≤ n * first.blocks) same (omega arith))
      ] in
      unheld_from Spells site identity log w old line first.blocks first.count k lists done f first.blocks k (max 1 first.count - k) x has.located.lies.least from up was

  pub later_formatting : (new : Image) → MayFormat (place_on line first.blocks first.count k) (master_on site identity line first.blocks first.count k) 1 old new
      → Turned Spells site identity log w new (IsNoneOr (Formatted q)) (MayBeFormatted (spots_of site lists) q done)
  later_formatting new change =
      elim (later_goes Spells site identity (tables_of log.family) w old new line f.creation.world.shows k 1 first some f.format has chain
      (formattable Spells site identity log w old lists done f.creation q refl f.named []) change) [
        | inl same ↦ not_put Spells site identity log w old lists done f.creation q refl f.named new same
        | inr changed ↦ elim changed [
          | inl blank ↦
              not_put Spells site identity log w old lists done f.creation q refl f.named new
              (shows_uncut Spells site identity log w old lists done f.creation q refl f.named (spots_behind line first k) none_behind new blank)
          | inr formats ↦
              may_be_put Spells site identity log w old lists done f.creation q refl f.named new
              (shows_put Spells site identity log w old lists done f.creation q refl f.named [] (λ x is was. false≢true is) new formats)
        ]
      ]

  pub later_formatted : (new : Image) → Formats (place_on line first.blocks first.count k) (master_on site identity line first.blocks first.count k) 1 old new
      → Turned Spells site identity log w new (λ es. es ≡ Formatted q ∷ []) (IsCreating (spots_of site lists) (q ∷ done))
  later_formatted new formats =
      is_put Spells site identity log w old lists done f.creation q refl f.named new
      (shows_put Spells site identity log w old lists done f.creation q refl f.named [] (λ x is was. false≢true is) new
      (later_ends Spells site identity (tables_of log.family) w old new line f.creation.world.shows k 1 first some f.format has chain
      (formattable Spells site identity log w old lists done f.creation q refl f.named []) formats))

-- The creation begins.
module _ (Spells : List ℕ → Table → Type 0) (site : Site) (identity : Identity) (image : Image) (none : HasNone Spells site identity image) (lists : Lists) where
  abbrev spots : SpotLists
  spots = spots_of site lists

  abbrev from : Core
  from = start (is_set site.key)

  lists_fit : may from (NextLists spots) ≡ true
  lists_fit = and_from (is_lists (is_set site.key) spots) (is_new from) (may_list_again site (is_set site.key) lists).0 refl

  pub begins : Turned Spells site identity (issued_log identity) from image (λ es. es ≡ NextLists spots ∷ []) (IsCreating spots [])
  begins =
      let world = world_none Spells site identity (issued_log identity) refl refl image none in
      record {
        events = NextLists spots ∷ [];
        are = refl;
        may = (lists_fit, tt);
        world = record {
          reached = reached_more site from (NextLists spots ∷ []) world.reached (lists_fit, tt);
          matches = matches_empty site (issued_log identity) (created from spots) refl refl refl refl refl refl;
          shows = record { each = λ line k first head own. absurd (none line k first head own); only = λ p place holds. absurd (false≢true holds); seats = λ p seat holds. false≢true holds };
          listed = inl (places_none Spells site identity (issued_log identity) image refl);
        };
        known = record {
          next = record { mark = first_mark; parent = None; change = Some 0; lists = spots; by_majority = false; plan = 0 ∷ [] };
          stage = refl;
          marked = refl;
          lists_are = refl;
          kind = refl;
          number = 0;
          plan = refl;
          issued = omega arith;
          held = λ q h. absurd (false≢true h);
          there = λ q e. absurd (false≢true e);
        };
      }

pub may_write_first : (g : Geometry) (identity : Identity) (log : Log) (table : Table) → log.issued ≡ Some identity → log.family ≡ [] → IsNotOver log.fate → IsEmpty table → MayHappen g log (WritesLog first_mark None [] table)
may_write_first g identity log table issued none there empty = (
  (subst (λ (l : List Version). IsAboveAll first_mark l) (sym none) (All-nil (λ (x : Version). IsBelow x.mark first_mark)), there),
  inl (record { begun = (identity, issued); none = none; unasked = refl; unchanged = refl; empty = empty }),
)

-- The first table begins to be written.
module _ (Spells : List ℕ → Table → Type 0) (site : Site) (identity : Identity) (log : Log) (w : Core) (image : Image) (p : Spot) (table : Table) (done : List Spot)
    (c : IsCreation Spells site identity log w image table.plan.lists done) (some : is_none (spots_of site table.plan.lists).first ≡ false) (has : is_in done p ≡ true) (named : is_named (spots_of site table.plan.lists) p ≡ true)
    (formed : AreAllPlaced Spells site identity table.plan.lists image) where
  abbrev first : FamilyTable
  first = c.known.next

  abbrev version : Version
  version = record { mark = first_mark; table = table; changes = []; is_written = false }

  none_yet : length w.family ≡ 0
  none_yet = c.world.matches.as_many ∙ ap length c.empty

  -- no change has a number but the creation
  abbrev world : IsWorld Spells site identity log w image
  world = record {
    reached = c.world.reached;
    matches = record {
      kind = c.world.matches.kind;
      book = λ n. None;
      as_many = c.world.matches.as_many;
      each = λ i known. absurd (omega (arith, known, none_yet));
      answered = c.world.matches.answered;
      dropped = c.world.matches.dropped;
      steady = c.world.matches.steady;
      reused = c.world.matches.reused;
      there = c.world.matches.there;
      gone = c.world.matches.gone;
    };
    shows = c.world.shows;
    listed = inl (places_none Spells site identity log image c.empty);
  }

  first_is : IsVersionAt site (λ n. None) w.changes first version
  first_is = record {
    mark = c.known.marked;
    lists = c.known.lists_are;
    some = ap (λ (l : SpotLists). is_none l.first) c.known.lists_are ∙ some;
    changes = ap (λ (l : List ℕ). reverse (filter_map (λ n. None) l)) (sym c.known.plan);
    numbered = λ n is. by n (subst (λ (l : List ℕ). Contains l n) c.known.plan is);
    lie = λ place listed. has_lies Spells site identity image place (formed place listed);
  }
    where
      by : (n : ℕ) → Contains (c.known.number ∷ []) n → n < w.changes
      by n (zero, lt, e) = subst (λ (i : ℕ). i < w.changes) e c.known.issued
      by n (suc i, lt, e) = absurd (omega (arith, lt))

  slot_fits : may w (Slotted p LeftClosed) ≡ true
  slot_fits = subst (λ (g : Stage). may_slot w p g ≡ true) (sym c.known.stage)
      (and_from (place_at w.places p).holds (is_named first.lists p) (c.known.there p has) (subst (λ (l : SpotLists). is_named l p ≡ true) (sym c.known.lists_are) named))

  goes_on : GoesOn site log w version
  goes_on f firm unwritten = (let known = (standing site w c.world.reached).descent.known f firm in absurd (omega (arith, known, none_yet)))

  there : w.deleted ≡ None
  there = subst (BootsAt w) c.known.stage (standing site w c.world.reached).boots

  slot_leads : LeadsBy w first None p
  slot_leads = ap (slotted w p LeftClosed) c.known.stage

  pub writes_first : Turned Spells site identity (log_after log (WritesLog first_mark None [] table)) w image (λ es. es ≡ Slotted p LeftClosed ∷ []) (IsTaking false first_mark [])
  writes_first = record {
    events = Slotted p LeftClosed ∷ [];
    are = refl;
    may = (slot_fits, tt);
    world = begun_world Spells site identity log w image world first version first_is refl goes_on there p None slot_leads slot_fits (places_none Spells site identity log image c.empty) formed;
    known = begun_taking Spells site identity log w image world first version first_is refl goes_on there p None slot_leads slot_fits false c.known.kind;
  }
