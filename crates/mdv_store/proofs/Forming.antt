-- Places are formatted for a creation, one behind another: how its worlds and all other databases go on.
use Rattle.std.proofs.Common.{◌≡◌, ◌⊎◌, inl, inr, ℕ, ◌+◌, ◌*◌, true, List, [], ◌∷◌, ◌++◌, Contains, refl, sym, ◌∙◌, ap, subst, append_assoc, arith}
use Rattle.std.proofs.lemmas.Bool.{or_cases, or_left, or_right}
use Rattle.mdv_quorum.specs.declared.event.Event.TheVariants.{Formatted}
use Rattle.mdv_replica.specs.Images.{Formats, MayFormat}
use Rattle.mdv_replica.specs.Replica.{formatted_blocks}
use Rattle.mdv_replica.specs.declared.forms.Master.{Master}
use Rattle.mdv_replica.proofs.Leaving.{leaves_formatting, leaves_settled}
use Rattle.mdv_shelf.specs.Everywhere.{Leaves}
use Rattle.mdv_shelf.proofs.Everywhere.{last_image}
use Rattle.mdv_shelf.specs.Tale.{IsImage, last}
use Rattle.mdv_shown.specs.Formats.{master_on}
use Rattle.mdv_shown.specs.Site.{line_area}
use Rattle.mdv_shown.proofs.Elsewhere.{places_step, range_has}
use Rattle.mdv_standing.specs.Creating.{IsCreating, IsFormatting, MayBeFormatted, issued_log}
use Rattle.mdv_standing.specs.Forming.{IsBehind, IsToFormat}
use Rattle.mdv_standing.specs.Holding.{IsOneOf}
use Rattle.mdv_standing.specs.Rest.{RestMayBeTaken, RestStands}
use Rattle.mdv_standing.specs.Tracing.{IsCreationBegin, IsRun, IsStart, Traces, formats_at}
use Rattle.mdv_standing.specs.Worlds.{IsNoneOr, IsWorld}
use Rattle.mdv_standing.proofs.Creating.{first_formatted, first_formatting}
use Rattle.mdv_standing.proofs.Stretches.{traced_later, traced_later_done}
use Rattle.mdv_standing.proofs.Tracing.{formats_one, more, part_none_or, part_one, trace_by, trace_weaker}
use Rattle.mdv_acts.specs.Acts.{IsDoing, IsDone, form_on}
use Rattle.mdv_store.specs.Below.{Core, Database, Event, Geometry, Identity, Image, IsPart, Key, Log, PlaceAt, Site, SliceLine, Spot, Tale, place_on, same_spot, site_of, spot_on}
use Rattle.mdv_store.specs.Commit.{AnyWorld}
use Rattle.mdv_store.specs.Create.{seats_asked}
use Rattle.mdv_store.specs.Records.{Spells}
use Rattle.mdv_store.specs.Seats.{spots_of}
use Rattle.mdv_store.specs.declared.seats.Seat.{Seat}
use Rattle.mdv_plan.specs.declared.lists.Lists.{Lists}
use Rattle.mdv_votes.proofs.Meeting.{same_is, same_self}
use Rattle.mdv_votes.specs.Spots.{is_in}
use Rattle.mdv_votes.specs.declared.spot.SpotLists.{SpotLists}
use Rattle.mdv_store.proofs.Locating.{first_of}
use Rattle.mdv_store.proofs.Places.{AreNow, AreThose, GoesOn, IsNext, OfPlaces}
use Rattle.mdv_store.proofs.Putting as put
use Rattle.mdv_store.proofs.Putting.{ArePut, IsGiven, behind_here, format_here, one_put, put_recast}
use Rattle.mdv_store.proofs.Resting.{IsResting, first_rest, later_rest}

module _ (g : Geometry) (all : List Database) (key : Key) (identity : Identity) (lines : List SliceLine) (count blocks : ℕ) where
  abbrev site : Site
  site = site_of g key

  abbrev seats : List Seat
  seats = seats_asked key identity lines count blocks

  abbrev lists : Lists
  lists = put.lists g key identity lines count blocks

  abbrev named : SpotLists
  named = put.named g key identity lines count blocks

  abbrev log : Log
  log = issued_log identity

  abbrev first_on : SliceLine → Master
  first_on = put.first_on g key identity lines count blocks

  abbrev pub RunsTo : (Core → Type 0) → Tale → List Spot → Tale → Type 0
  RunsTo Then t places m = Traces (Spells g) site identity log log (IsStart site) (IsRun (IsCreationBegin named) (formats_at places)) Then t m

  -- at a moment: some places were formatted, from the front on, or begun
  pub record IsFormingAt (t m : Tale) : Type 0 where
    pub part : List Spot
    pub due : List Spot
    pub whole : part ++ due ≡ spots_of seats
    pub traces : RunsTo AnyWorld t part m
    pub rest : RestStands (Spells g) g all identity m

  -- where these places were formatted, and the masters behind these numbers are blank
  pub record IsFormedTo (t : Tale) (Done Blank : OfPlaces) (part due : List Spot) (u : Tale) : Type 0 where
    pub put : ArePut g key identity lines count blocks 1 t Done Blank u
    pub whole : part ++ due ≡ spots_of seats
    pub made : List Spot
    pub traces : RunsTo (IsCreating named made) t part u
    pub only : (q : Spot) → is_in made q ≡ true → (line : SliceLine) × (j : ℕ) × Done line j × (q.drive.0 ≡ line.at.drive.0) × (q.first ≡ line.at.start + (16 + j * blocks))
    pub has : (line : SliceLine) (j : ℕ) → Done line j → is_in made (spot_on line blocks j) ≡ true
    pub rest : RestStands (Spells g) g all identity u
    pub taken : (line : SliceLine) → Contains lines line → RestMayBeTaken (Spells g) g all identity line u

  -- said of the same places in other words
  recast : (t : Tale) (Done Blank Other Less : OfPlaces) (part due : List Spot) (u : Tale) → AreThose Done Blank Other Less → IsFormedTo t Done Blank part due u → IsFormedTo t Other Less part due u
  recast t Done Blank Other Less part due u those s = record {
    put = put_recast g key identity lines count blocks 1 t Done Blank Other Less u those s.put;
    whole = s.whole;
    made = s.made;
    traces = s.traces;
    only = λ q is. (let o = s.only q is in (o.0, o.1, those.to o.0 o.1 o.2, o.3, o.4));
    has = λ line j is. s.has line j (those.back line j is);
    rest = s.rest;
    taken = s.taken;
  }

  -- as a moment
  formed_here : (t : Tale) (Done Blank : OfPlaces) (part due : List Spot) (u : Tale) → IsFormedTo t Done Blank part due u → IsFormingAt t u
  formed_here t Done Blank part due u s = record {
    part = part;
    due = due;
    whole = s.whole;
    traces = trace_weaker (Spells g) site identity log log (IsStart site) (IsStart site) (IsCreating named s.made) AnyWorld (IsRun (IsCreationBegin named) (formats_at part)) (IsRun (IsCreationBegin named) (formats_at part)) t u (λ w is. is) (λ es run. run) (λ w known. tt) s.traces;
    rest = s.rest;
  }

  module _ (given : IsGiven g key identity lines count blocks 1) (one_of : IsOneOf all key identity) where
    -- One place is formatted.
    module _ (line : SliceLine) (k : ℕ) where
      abbrev at : PlaceAt
      at = place_on line blocks count k

      abbrev master : Master
      master = master_on site identity line blocks count k

      abbrev p : Spot
      p = spot_on line blocks k

      -- what it leads to
      record IsStep (made : List Spot) (u : Tale) : Type 0 where
        going : (m : Tale) → Leaves (MayFormat at master 1) u m → Traces (Spells g) site identity log log (IsCreating named made) (IsNoneOr (Formatted p)) (MayBeFormatted named p made) u m
        done : (m : Tale) → Leaves (Formats at master 1) u m → Traces (Spells g) site identity log log (IsCreating named made) (λ es. es ≡ Formatted p ∷ []) (IsCreating named (p ∷ made)) u m
        rested : IsResting g all key identity lines count blocks 1 given one_of line k u

    -- the first place of a slice, whatever first master it has
    first_step : (line : SliceLine) (made : List Spot) (u : Tale) → IsToFormat site identity u line blocks count 0 lists made → RestStands (Spells g) g all identity u → RestMayBeTaken (Spells g) g all identity line u → IsStep line 0 made u
    first_step line made u place rest taken = record {
      going = λ m leaves. trace_by (Spells g) site identity (MayFormat (at line 0) (master line 0) 1) log log (IsCreating named made) (IsNoneOr (Formatted (p line 0))) (MayBeFormatted named (p line 0) made) u m leaves
          (λ w old new is world known change.
          (let before = first_of site old line in first_formatting (Spells g) site identity log w old line blocks count lists made before.0 (formatting w old is world known) before.1 new change));
      done = λ m leaves. trace_by (Spells g) site identity (Formats (at line 0) (master line 0) 1) log log (IsCreating named made) (λ es. es ≡ Formatted (p line 0) ∷ []) (IsCreating named (p line 0 ∷ made)) u m leaves
          (λ w old new is world known formats.
          (let before = first_of site old line in first_formatted (Spells g) site identity log w old line blocks count lists made before.0 (formatting w old is world known) before.1 new formats));
      rested = first_rest g all key identity lines count blocks 1 given one_of line u place.format rest taken;
    }
      where
        formatting : (w : Core) (old : Image) → IsImage u old → IsWorld (Spells g) site identity log w old → IsCreating named made w → IsFormatting (Spells g) site identity log w old line blocks count 0 lists made
        formatting w old is world known = record { creation = record { world = world; empty = refl; known = known }; format = place.format old is; named = place.named; before = place.before }

    -- a later one
    later_step : (line : SliceLine) (k : ℕ) (made : List Spot) (u : Tale) → IsToFormat site identity u line blocks count k lists made → IsBehind (Spells g) site u line k (first_on line) → RestStands (Spells g) g all identity u
        → RestMayBeTaken (Spells g) g all identity line u → IsStep line k made u
    later_step line k made u place behind rest taken = record {
      going = λ m leaves. traced_later (Spells g) site identity log u m line lists made refl k (first_on line) place behind leaves;
      done = λ m leaves. traced_later_done (Spells g) site identity log u m line lists made refl k (first_on line) place behind leaves;
      rested = later_rest g all key identity lines count blocks 1 given one_of line k u place.format behind rest taken;
    }

    module _ (t : Tale) (Done Blank : OfPlaces) (part due : List Spot) (u : Tale) (line : SliceLine) (k : ℕ) (next : IsNext lines count Done Blank line k) (s : IsFormedTo t Done Blank part (spot_on line blocks k ∷ due) u) where
      to_format : IsToFormat site identity u line blocks count k lists s.made
      to_format = record {
        format = format_here g key identity lines count blocks 1 given t Done Blank u line k next s.put;
        named = given.names line k next.among next.lt;
        before = λ q is drive from to.
            let o = s.only q is in
            elim (next.beside o.0 o.1 o.2) [
              | inl same ↦
                  let first : q.first ≡ line.at.start + (16 + o.1 * blocks) = o.4 ∙ ap (λ (l : SliceLine). l.at.start + (16 + o.1 * blocks)) same.0 in
                  let step = places_step o.1 k blocks same.1 in
                  let least = given.least in
                  omega (arith, first, step, least)
              | inr apart ↦
                  let fits = (s.put.own o.0 o.1 o.2 (last u) (last_image u)).found.within in
                  let first = o.4 in
                  let least = given.least in
                  let there : line_area o.0 o.0.at.drive.0 q.first ≡ true = range_has o.0.at.drive.0 o.0.at.start o.0.at.blocks q.first (omega (arith, first)) (omega (arith, first, fits, least)) in
                  absurd (apart line.at.drive.0 q.first (range_has line.at.drive.0 line.at.start line.at.blocks q.first from to)
                  (subst (λ (n : ℕ). line_area o.0 n q.first ≡ true) (sym o.3 ∙ drive) there))
            ];
      }

      step_of : (k ≡ 0) ⊎ ((j : ℕ) × (k ≡ j + 1) × Done line j) → IsStep line k s.made u
      step_of (inl none) =
          subst (λ (i : ℕ). IsStep line i s.made u) (sym none)
          (first_step line s.made u (subst (λ (i : ℕ). IsToFormat site identity u line blocks count i lists s.made) none to_format) s.rest (s.taken line next.among))
      step_of (inr (j, is, done)) = later_step line k s.made u to_format (behind_here g key identity lines count blocks 1 given t Done Blank u line k next s.put j is done) s.rest (s.taken line next.among)

      abbrev step : IsStep line k s.made u
      step = step_of next.front

      whole_now : (part ++ spot_on line blocks k ∷ []) ++ due ≡ spots_of seats
      whole_now = append_assoc part (spot_on line blocks k ∷ []) due ∙ s.whole

      runs : (Then : Core → Type 0) (Are : List Event → Type 0) (m : Tale) → ((fs : List Event) → Are fs → IsPart fs (Formatted (spot_on line blocks k) ∷ [])) → Traces (Spells g) site identity log log (IsCreating named s.made) Are Then u m → RunsTo Then t (part ++ spot_on line blocks k ∷ []) m
      runs Then Are m within second =
          subst (λ (plan : List Event). Traces (Spells g) site identity log log (IsStart site) (IsRun (IsCreationBegin named) plan) Then t m) (sym (formats_one part (spot_on line blocks k)))
          (more (Spells g) site identity log log (IsStart site) (IsCreating named s.made) (IsCreationBegin named) (formats_at part) t u s.traces log Then Are (Formatted (spot_on line blocks k) ∷ []) m within second)

      leaving : (m : Tale) → IsDoing (form_on key identity 1 line count blocks k) u m → Leaves (MayFormat (at line k) (master line k) 1) u m
      leaving m formatting = leaves_formatting (at line k) (master line k) 1 u m formatting

      one_forming : (m : Tale) → IsDoing (form_on key identity 1 line count blocks k) u m → IsFormingAt t m
      one_forming m formatting = record {
        part = part ++ spot_on line blocks k ∷ [];
        due = due;
        whole = whole_now;
        traces = trace_weaker (Spells g) site identity log log (IsStart site) (IsStart site) (MayBeFormatted named (p line k) s.made) AnyWorld (IsRun (IsCreationBegin named) (formats_at (part ++ spot_on line blocks k ∷ []))) (IsRun (IsCreationBegin named) (formats_at (part ++ spot_on line blocks k ∷ []))) t m (λ w is. is) (λ es run. run) (λ w known. tt)
            (runs (MayBeFormatted named (p line k) s.made) (IsNoneOr (Formatted (p line k))) m (λ fs is. part_none_or (Formatted (p line k)) fs is) (step.going m (leaving m formatting)));
        rest = step.rested.rests m (leaving m formatting);
      }

      module _ (Next Less : OfPlaces) (now : AreNow Done Blank line k Next Less) where
        one_formed : (v : Tale) → IsDone (form_on key identity 1 line count blocks k) u v → IsFormedTo t Next Less (part ++ spot_on line blocks k ∷ []) due v
        one_formed v is =
            let leaves = leaving v is.0 in
            let formats = leaves_settled line.at.drive.0 (line.at.start + (16 + k * blocks)) (formatted_blocks (master line k) 1) u v is.0.outside is.1 in
            record {
              put = one_put g key identity lines count blocks 1 given t Done Blank u line k next s.put Next Less now v is;
              whole = whole_now;
              made = p line k ∷ s.made;
              traces = runs (IsCreating named (p line k ∷ s.made)) (λ es. es ≡ Formatted (p line k) ∷ []) v (λ fs are. part_one (Formatted (p line k)) fs are) (step.done v formats);
              only = λ q its. elim (or_cases (same_spot (p line k) q) (is_in s.made q) its) [
                | inl here ↦ (let same = same_is (p line k) q here in (line, k, now.new, sym (ap (λ (x : Spot). x.drive.0) same), sym (ap (λ (x : Spot). x.first) same)))
                | inr was ↦ (let o = s.only q was in (o.0, o.1, now.to o.0 o.1 o.2, o.3, o.4))
              ];
              has = λ other j its. elim (now.back other j its) [
                | inl old ↦ or_right (same_spot (p line k) (spot_on other blocks j)) (is_in s.made (spot_on other blocks j)) (s.has other j old)
                | inr new ↦ or_left (same_spot (p line k) (spot_on other blocks j)) (is_in s.made (spot_on other blocks j))
                    (subst (λ (l : SliceLine). same_spot (p line k) (spot_on l blocks j) ≡ true) (sym new.0) (subst (λ (i : ℕ). same_spot (p line k) (spot_on line blocks i) ≡ true) (sym new.1) (same_self (p line k))))
              ];
              rest = step.rested.rests v leaves;
              taken = λ other among. step.rested.takes v leaves other (s.taken other among);
            }

    -- So it goes on with each place.
    pub form_steps : (t : Tale) → GoesOn key identity lines count blocks 1 (IsFormedTo t) (IsFormingAt t)
    form_steps t = record {
      recast = λ Done Blank Other Less part due u those s. recast t Done Blank Other Less part due u those s;
      here = λ Done Blank part due u s. formed_here t Done Blank part due u s;
      forming = λ Done Blank part due u line k next s. one_forming t Done Blank part due u line k next s;
      formed = λ Done Blank Next Less part due u line k next now s. one_formed t Done Blank part due u line k next s Next Less now;
    }
