-- Masters are blanked, and places are formatted that are added: how the worlds of the database go on, whose newest version lists none of them.
use Rattle.std.proofs.Common.{◌≡◌, ◌⊎◌, inl, inr, ℕ, ◌+◌, ◌*◌, ◌<◌, ◌≤◌, List, [], ◌∷◌, ◌++◌, map, Contains, refl, sym, subst, arith}
use Rattle.std.proofs.lemmas.List.Elements.{Contains-append_cases}
use Rattle.mdv_acts.proofs.Members.{first_or_behind}
use Rattle.mdv_acts.specs.Acts.{IsDoing, form_on}
use Rattle.mdv_quorum.specs.declared.event.Event.TheVariants.{Formatted, Lists as NextLists, Wiped}
use Rattle.mdv_encoding.specs.Parsing.{read_of}
use Rattle.mdv_replica.proofs.Leaving.{leaves_formatting}
use Rattle.mdv_replica.specs.Images.{MayFormat, MayWipe}
use Rattle.mdv_replica.specs.declared.forms.Master.{Master}
use Rattle.mdv_replica.specs.declared.replica.PlaceAt.{PlaceAt}
use Rattle.mdv_shelf.proofs.Everywhere.{last_image}
use Rattle.mdv_shelf.specs.Everywhere.{Everywhere, Image, Leaves}
use Rattle.mdv_shelf.specs.Tale.{last}
use Rattle.mdv_shown.specs.Formats.{IsFormat, lost_beside, lost_with, master_on}
use Rattle.mdv_shown.specs.Site.{place_on, spot_on}
use Rattle.mdv_shown.specs.Wipes.{spots_behind, wiped_all}
use Rattle.mdv_shown.specs.declared.site.Site.{Site}
use Rattle.mdv_standing.proofs.Adding.{first_adding}
use Rattle.mdv_standing.proofs.Clearing.{first_going}
use Rattle.mdv_standing.proofs.Noting.{place_noted}
use Rattle.mdv_standing.proofs.PlacesTracing.{traced_later_adding, traced_resting}
use Rattle.mdv_standing.proofs.Tracing.{trace_by, trace_more, trace_weaker}
use Rattle.mdv_standing.specs.Blanking.{HasNoFirst}
use Rattle.mdv_standing.specs.Forming.{IsBehind}
use Rattle.mdv_standing.specs.Matching.{spots_of as lists_of_spots}
use Rattle.mdv_standing.specs.Placing.{AreWipedOrNone, IsAdded, IsBare, IsIdle}
use Rattle.mdv_standing.specs.PlacesTracing.{IsAnswered, IsToAdd}
use Rattle.mdv_standing.specs.Tracing.{Traces}
use Rattle.mdv_standing.specs.Worlds.{IsReadyWith, IsWorld}
use Rattle.mdv_store.proofs.Clearing.{StaysKnown}
use Rattle.mdv_store.proofs.Locating.{first_of}
use Rattle.mdv_store.proofs.Passes.{unmapped}
use Rattle.mdv_store.proofs.Passing.{has_mapped}
use Rattle.mdv_store.proofs.Places.{GoesOn, IsNext, OfPlaces}
use Rattle.mdv_store.proofs.Putting as put
use Rattle.mdv_store.proofs.Putting.{ArePut, behind_here, format_here, one_put, put_recast}
use Rattle.mdv_store.proofs.Seated.{replicas_have, seats_have}
use Rattle.mdv_store.specs.Below.{CoversWith}
use Rattle.mdv_store.specs.Create.{replica_on, seat_on}
use Rattle.mdv_store.specs.Records.{Spells}
use Rattle.mdv_store.specs.Seats.{spot_of}
use Rattle.mdv_store_law.specs.Log.{Placing, Version, log_after}
use Rattle.mdv_acts.proofs.Asked.{within_line}
use Rattle.mdv_places.specs.Asked.{claims, places_asked}
use Rattle.mdv_places.specs.Below.{Core, Event, Geometry, Identity, Key, Log, Opened, Place, SliceLine, Spot, Tale, Two, last_of, replicas_of, seats_asked, site_of, spots_of}
use Rattle.mdv_places.specs.Moments.{IsLogOf}
use Rattle.mdv_places.proofs.Adding.{asked_places, claims_spots, place_of_seat}
use Rattle.mdv_places.proofs.Addition.{IsAddition, answered, bare, claim_is, given, lists_are, names_added, ok, small_count, found}

module _ (sizes : List ℕ) (g : Geometry) (old : Opened) (lines : List SliceLine) (count blocks : ℕ) (t : Tale) (a : IsAddition sizes g old lines count blocks t) where
  abbrev site : Site
  site = site_of g old.key

  abbrev key : Key
  key = old.key

  abbrev identity : Identity
  identity = old.identity

  abbrev claim : ℕ
  claim = old.mark.boot

  abbrev olds : List Place
  olds = last_of old.table.plan.lists

  abbrev more : List Place
  more = places_asked lines count blocks

  abbrev added : List Spot
  added = spots_of (map (claims claim) (seats_asked key identity lines count blocks))

  abbrev took : List Spot
  took = spots_of old.seats

  abbrev Ready : Core → Type 0
  Ready w = IsReadyWith took w

  -- a place is blanked, or a table is in hand with both lists, or an added place is formatted
  abbrev pub IsFormingOf : Event → Type 0
  IsFormingOf e = ((q : Spot) × (e ≡ Wiped q)) ⊎ ((e ≡ NextLists (lists_of_spots site (Two olds (olds ++ more)))) ⊎ ((q : Spot) × Contains added q × (e ≡ Formatted q)))

  abbrev pub AreFormingOf : List Event → Type 0
  AreFormingOf es = (e : Event) → Contains es e → IsFormingOf e

  pub none_forming : AreFormingOf []
  none_forming e has = absurd (omega (arith, has.1))

  pub both_forming : (es fs : List Event) → AreFormingOf es → AreFormingOf fs → AreFormingOf (es ++ fs)
  both_forming es fs one two e has = elim (Contains-append_cases es fs e has) [ inl front ↦ one e front | inr behind ↦ two e behind ]

  same_forming : (es fs : List Event) → es ≡ fs → AreFormingOf fs → AreFormingOf es
  same_forming es fs same = subst AreFormingOf (sym same)

  all_wiped : (spots : List Spot) → AreFormingOf (wiped_all spots)
  all_wiped spots e has = (let q = unmapped Wiped spots e has in inl (q.0, sym q.2))

  wipes_forming : (spots : List Spot) (es : List Event) → AreWipedOrNone spots es → AreFormingOf es
  wipes_forming spots es (inl none) = same_forming es [] none none_forming
  wipes_forming spots es (inr wipes) = same_forming es (wiped_all spots) wipes (all_wiped spots)

  adds_forming : (spots : List Spot) (p : Spot) (es : List Event) → Contains added p → IsAdded spots site olds (olds ++ more) p es → AreFormingOf es
  adds_forming spots p es in_added is =
      let hand = NextLists (lists_of_spots site (Two olds (olds ++ more))) in
      same_forming es (wiped_all spots ++ (hand ∷ (Formatted p ∷ []))) is
      (both_forming (wiped_all spots) (hand ∷ (Formatted p ∷ [])) (all_wiped spots)
      (λ e has. elim (first_or_behind hand e (Formatted p ∷ []) has) [
        | inl here ↦ inr (inl (sym here))
        | inr behind ↦ elim (first_or_behind (Formatted p) e [] behind) [
          | inl formats ↦ inr (inr (p, in_added, sym formats))
          | inr none ↦ absurd (omega (arith, none.1))
        ]
      ]))

  spot_added : (line : SliceLine) (k : ℕ) → Contains lines line → k < count → Contains added (spot_on line blocks k)
  spot_added line k among lt =
      subst (λ (l : List Spot). Contains l (spot_on line blocks k)) (sym (claims_spots claim (seats_asked key identity lines count blocks)))
      (has_mapped spot_of (replicas_of (seats_asked key identity lines count blocks)) (replica_on key identity line count blocks k) (replicas_have key identity count blocks lines line k among lt))

  place_added : (line : SliceLine) (k : ℕ) → Contains lines line → k < count → Contains more (place_on line blocks count k).place
  place_added line k among lt =
      subst (λ (l : List Place). Contains l (place_on line blocks count k).place) (asked_places key identity count blocks lines)
      (has_mapped place_of_seat (seats_asked key identity lines count blocks) (seat_on key identity line count blocks k) (seats_have key identity count blocks lines line k among lt))

  looks : (line : SliceLine) → Contains lines line → Contains site.lines line
  looks = a.sites

  fits : (line : SliceLine) (k : ℕ) → Contains lines line → k < count → 16 + k * blocks + blocks ≤ line.at.blocks
  fits line k among lt = within_line line count blocks k (a.asked.within line among) lt

  starts : (line : SliceLine) (k : ℕ) → Contains lines line → k < count → 16 + k * blocks < line.at.blocks
  starts line k among lt = (let within = fits line k among lt in let least = a.asked.least in omega (arith, within, least))

  module _ (log : Log) (known : IsLogOf g old log) (covers : CoversWith (Spells g) site identity (λ image w. Ready w) log t) where
    -- the log has noted the places
    abbrev pub noted : Log
    noted = log_after log (Placing more)

    abbrev v : Version
    v = known.newest.newest.version

    abbrev Goes : Tale → Tale → Type 0
    Goes u m = Traces (Spells g) site identity noted noted Ready AreFormingOf Ready u m

    -- the worlds go on from there by such events
    abbrev pub Runs : Tale → Type 0
    Runs m = Goes t m

    pub runs_here : Runs t
    runs_here image is = (image, is, λ w world ready. record { events = []; are = none_forming; may = tt; world = world; known = ready })

    runs_more : (u m : Tale) → Runs u → Goes u m → Runs m
    runs_more u m one two = trace_more (Spells g) site identity noted noted noted Ready Ready Ready AreFormingOf AreFormingOf AreFormingOf t u m both_forming one two

    is_answered : IsAnswered site noted v took
    is_answered = answered sizes g old lines count blocks t a log known noted refl

    free_line : (line : SliceLine) → Contains lines line → IsBare site v line
    free_line line among = (let w = covers (last t) (last_image t) in bare sizes g old lines count blocks t a log known w.0 (last t) w.1 line among)

    idle : (w : Core) (image : Image) → IsWorld (Spells g) site identity noted w image → Ready w → IsIdle (Spells g) site identity noted w image v took
    idle w image world ready =
        let is = is_answered in
        record { site_is = is.site_is; lines = is.lines; world = world; older = is.older; newest = is.newest; written = is.written; known = ready; named = is.named }

    -- Masters are blanked.
    blank_first : (line : SliceLine) (u m : Tale) → Contains lines line → Leaves (MayWipe (place_on line blocks count 0)) u m → Goes u m
    blank_first line u m among leaves =
        trace_by (Spells g) site identity (MayWipe (place_on line blocks count 0)) noted noted Ready AreFormingOf Ready u m leaves
        (λ w from new is world ready change.
        let before = first_of site from line in
        let some = a.asked.more in
        let to = first_going (read_of g) site identity noted w from new v took line blocks count (idle w from world ready) (looks line among) (starts line 0 among (omega (arith, some))) (free_line line among) before.0 before.1 change in
        record { events = to.events; are = wipes_forming (lost_with line before.0) to.events to.are; may = to.may; world = to.world; known = to.known })

    blank_later : (line : SliceLine) (k : ℕ) (u m : Tale) → Contains lines line → k < count → HasNoFirst site line u → Leaves (MayWipe (place_on line blocks count k)) u m → Goes u m
    blank_later line k u m among lt none leaves =
        trace_weaker (Spells g) site identity noted noted Ready Ready Ready Ready (λ es. es ≡ []) AreFormingOf u m (λ w ready. ready) (λ es is. same_forming es [] is none_forming) (λ w ready. ready)
        (traced_resting (read_of g) site identity noted u m took line blocks count (looks line among) k (ok sizes g old lines count blocks t a) (starts line k among lt) none leaves)

    pub runs_known : StaysKnown site lines count blocks Runs
    runs_known = record {
      first = λ line u m among leaves s. runs_more u m s (blank_first line u m among leaves);
      later = λ line k u m among lt none leaves s. runs_more u m s (blank_later line k u m among lt none leaves);
    }

    -- Places are formatted.
    pub record IsTracedTo (Done Blank : OfPlaces) (part due : List Spot) (u : Tale) : Type 0 where
      pub put : ArePut g key identity lines count blocks claim t Done Blank u
      pub traces : Runs u

    abbrev FormatAt : SliceLine → ℕ → Tale → Type 0
    FormatAt = put.FormatAt g key identity lines count blocks claim

    abbrev first_on : SliceLine → Master
    first_on = put.first_on g key identity lines count blocks

    to_add : (line : SliceLine) (k : ℕ) (u : Tale) → Contains lines line → k < count → FormatAt line k u → IsToAdd site identity noted v u line blocks count k olds (olds ++ more)
    to_add line k u among lt format = record {
      one = lists_are sizes g old lines count blocks t a log known;
      small = small_count sizes g old lines count blocks t a log known;
      format = subst (λ (n : ℕ). Everywhere (λ image. IsFormat site identity image line blocks count k n) u) (sym (claim_is sizes g old lines count blocks t a log known)) format;
      named = names_added sizes g old lines count blocks t a line k among lt;
      bare = free_line line among;
      noted =
          let w = covers (last t) (last_image t) in
          place_noted (Spells g) site identity log w.0 (last t) w.1 more line blocks count k (ok sizes g old lines count blocks t a) (found sizes g old lines count blocks t a) (looks line among) (fits line k among lt) a.asked.least (place_added line k among lt);
    }

    module _ (line : SliceLine) (k : ℕ) where
      abbrev at : PlaceAt
      at = place_on line blocks count k

      abbrev master : Master
      master = master_on site identity line blocks count k

      leaving : (u m : Tale) → IsDoing (form_on key identity claim line count blocks k) u m → Leaves (MayFormat at master v.mark.boot) u m
      leaving u m formatting = subst (λ (n : ℕ). Leaves (MayFormat at master n) u m) (sym (claim_is sizes g old lines count blocks t a log known)) (leaves_formatting at master claim u m formatting)

    -- the first place of a slice, whatever first master it has
    first_goes : (line : SliceLine) (u m : Tale) → Contains lines line → FormatAt line 0 u → IsDoing (form_on key identity claim line count blocks 0) u m → Goes u m
    first_goes line u m among format doing =
        let some = a.asked.more in
        let to = to_add line 0 u among (omega (arith, some)) format in
        trace_by (Spells g) site identity (MayFormat (at line 0) (master line 0) v.mark.boot) noted noted Ready AreFormingOf Ready u m (leaving line 0 u m doing)
        (λ w from new is world ready change.
        let before = first_of site from line in
        let turns = first_adding (Spells g) site identity noted w from new v took line blocks count olds (olds ++ more) before.0
        (record { idle = idle w from world ready; one = to.one; small = to.small; format = to.format from is; named = to.named; bare = to.bare; noted = to.noted }) before.1 change in
        record {
          events = turns.events;
          are = elim turns.are [
            | inl wipes ↦ wipes_forming (lost_with line before.0) turns.events wipes
            | inr adds ↦ adds_forming (lost_beside line before.0 blocks count) (spot_on line blocks 0) turns.events (spot_added line 0 among (omega (arith, some))) adds
          ];
          may = turns.may;
          world = turns.world;
          known = turns.known;
        })

    -- a later one
    later_goes : (line : SliceLine) (k : ℕ) (u m : Tale) → Contains lines line → k < count → FormatAt line k u → IsBehind (Spells g) site u line k (first_on line) → IsDoing (form_on key identity claim line count blocks k) u m → Goes u m
    later_goes line k u m among lt format behind doing =
        trace_weaker (Spells g) site identity noted noted Ready Ready Ready Ready (λ es. AreWipedOrNone (spots_behind line (first_on line) k) es ⊎ IsAdded [] site olds (olds ++ more) (spot_on line blocks k) es) AreFormingOf u m (λ w ready. ready)
        (λ es are. elim are [
          | inl wipes ↦ wipes_forming (spots_behind line (first_on line) k) es wipes
          | inr adds ↦ adds_forming [] (spot_on line blocks k) es (spot_added line k among lt) adds
        ]) (λ w ready. ready)
        (traced_later_adding (Spells g) site identity noted u m v took is_answered line k (first_on line) olds (olds ++ more) (to_add line k u among lt format) behind (leaving line k u m doing))

    module _ (Done Blank : OfPlaces) (part due : List Spot) (u : Tale) (line : SliceLine) (k : ℕ) (next : IsNext lines count Done Blank line k) (s : IsTracedTo Done Blank part (spot_on line blocks k ∷ due) u) where
      abbrev format : FormatAt line k u
      format = format_here g key identity lines count blocks claim (given sizes g old lines count blocks t a) t Done Blank u line k next s.put

      goes_of : (k ≡ 0) ⊎ ((j : ℕ) × (k ≡ j + 1) × Done line j) → (m : Tale) → IsDoing (form_on key identity claim line count blocks k) u m → Goes u m
      goes_of (inl none) m doing =
          first_goes line u m next.among (subst (λ (i : ℕ). FormatAt line i u) none format) (subst (λ (i : ℕ). IsDoing (form_on key identity claim line count blocks i) u m) none doing)
      goes_of (inr (j, is, done)) m doing =
          later_goes line k u m next.among next.lt format (behind_here g key identity lines count blocks claim (given sizes g old lines count blocks t a) t Done Blank u line k next s.put j is done) doing

      one_runs : (m : Tale) → IsDoing (form_on key identity claim line count blocks k) u m → Runs m
      one_runs m doing = runs_more u m s.traces (goes_of next.front m doing)

    -- So it goes on with each place.
    pub trace_steps : GoesOn key identity lines count blocks claim IsTracedTo Runs
    trace_steps = record {
      recast = λ Done Blank Other Less part due u those s. record { put = put_recast g key identity lines count blocks claim t Done Blank Other Less u those s.put; traces = s.traces };
      here = λ Done Blank part due u s. s.traces;
      forming = λ Done Blank part due u line k next s m doing. one_runs Done Blank part due u line k next s m doing;
      formed = λ Done Blank Next Less part due u line k next now s v done. record {
        put = one_put g key identity lines count blocks claim (given sizes g old lines count blocks t a) t Done Blank u line k next s.put Next Less now v done;
        traces = one_runs Done Blank part due u line k next s v done.0;
      };
    }
