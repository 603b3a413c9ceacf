-- The masters of dropped places are blanked, once the newest version, whose write was answered, lists the others alone.
use Rattle.std.proofs.Common.{◌≡◌, ◌<◌, true, List, [], Contains, Some, refl, sym, ◌∙◌, ap, subst}
use Rattle.mdv_acts.specs.Wipes.{AreFoundAt, AreTrying}
use Rattle.mdv_name.specs.Sound.{IsSound}
use Rattle.mdv_shown.proofs.Sites.{site_is}
use Rattle.mdv_standing.specs.PlacesTracing.{IsAnswered}
use Rattle.mdv_standing.specs.Rest.{RestMayBeTaken}
use Rattle.mdv_standing.proofs.Named.{line_found}
use Rattle.mdv_store.specs.Below.{Everywhere, Site, is_named, lists_of_spots}
use Rattle.mdv_store.specs.Blank.{StayBlank}
use Rattle.mdv_store.specs.Commit.{IsCommittedTo}
use Rattle.mdv_store.specs.Opened.{AreSeatsOf}
use Rattle.mdv_store.specs.Records.{Spells}
use Rattle.mdv_store.proofs.Passes.{mapped}
use Rattle.mdv_store.proofs.Sitting.{seat_of}
use Rattle.mdv_places.specs.Asked.{Asks, dropped, list_after}
use Rattle.mdv_places.specs.Below.{Change, Database, Geometry, IsOpenedAt, IsReadyWith, One, Opened, Place, PlaceAt, Replica, RestStands, Seat, SliceLine, Table, Tale, at_of, places_of, replicas_of, site_of, spots_of}
use Rattle.mdv_places.specs.Going.{IsMoving, TracesBy}
use Rattle.mdv_places.specs.Moments.{IsFront}
use Rattle.mdv_places.proofs.Dropping.{dropped_one}
use Rattle.mdv_places.proofs.Emptying.{AreDue, AreSpotted, AreWipes, spots_named, wipes_blank, wipes_own, wipes_rest, wipes_shown, wipes_trace}
use Rattle.mdv_places.proofs.Spotting.{due, in_front, place_is, spotted}
use Rattle.mdv_places.proofs.Staying.{HaveAll}

module _ (g : Geometry) (sound : IsSound g) (o : Opened) (asked : Asks) (was : List Place) (w : Tale) (have : Everywhere (HaveAll g o.key o.identity was) w) (front : IsFront asked was)
    (at : List PlaceAt) (found : AreFoundAt g (dropped asked was) at) where
  abbrev site : Site
  site = site_of g o.key

  abbrev have_dropped : Everywhere (HaveAll g o.key o.identity (dropped asked was)) w
  have_dropped image is p has = have image is p (dropped_one asked was p has)

  abbrev spots : AreSpotted site at
  spots = spotted g sound o.key o.identity (dropped asked was) w have_dropped at found

  are_due : Everywhere (AreDue g sound o.key at spots) w
  are_due = due g sound o.key o.identity (dropped asked was) w have_dropped at found

  before_it : (a : PlaceAt) (has : Contains at a) → (q : Place) → Contains (list_after asked was) q → q.slice ≡ (spots a has).line.name → q.start < a.place.start
  before_it a has q listed same =
      let p = place_is g sound o.key o.identity (dropped asked was) w have_dropped at found a has in
      let slice : q.slice ≡ p.0.slice = same ∙ sym (spots a has).slice ∙ ap (λ (x : Place). x.slice) p.2 in
      subst (λ (x : Place). q.start < x.start) (sym p.2) (in_front g sound o.key o.identity was w have asked front p.0 q p.1 listed slice)

  module _ (m : Tale) (trying : AreTrying at w m) where
    pub freed_blank : StayBlank g o.identity w m
    freed_blank = wipes_blank g sound o.key at spots w are_due o.identity m trying

    pub freed_rest : (all : List Database) → RestStands (Spells g) g all o.identity w
        → ((p : Place) (line : SliceLine) → Contains (dropped asked was) p → Contains site.lines line → p.slice ≡ line.name → RestMayBeTaken (Spells g) g all o.identity line w) → RestStands (Spells g) g all o.identity m
    freed_rest all rest taken = wipes_rest g sound o.key at spots w are_due o.identity all m (record {
      rest = rest;
      taken = λ a has.
          let p = place_is g sound o.key o.identity (dropped asked was) w have_dropped at found a has in
          taken p.0 (spots a has).line p.1 (spots a has).one_of (sym (ap (λ (x : Place). x.slice) p.2) ∙ (spots a has).slice);
    }) trying

    -- The database goes on so, with the list that came.
    module _ (lists : o.table.plan.lists ≡ One (list_after asked was)) (opened : IsOpenedAt g o w) where
      pub freed_traces : (change : Change) → TracesBy (IsMoving asked) (Spells g) g site o.identity (IsCommittedTo g o (Some change)) [] (IsReadyWith (spots_of o.seats)) AreWipes (IsReadyWith (spots_of o.seats)) (IsCommittedTo g o (Some change)) w m
      freed_traces change log covers known =
          let n = known.newest.newest in
          let answered : IsAnswered site log n.version (spots_of o.seats) = record {
            site_is = site_is g o.key sound;
            lines = line_found g sound o.key;
            older = n.older;
            newest = n.family;
            written = known.newest.written;
            named = λ q has. subst (λ (t : Table). is_named (lists_of_spots site t.plan.lists) q ≡ true) (sym n.same) (spots_named site o.table o.seats opened.named q has);
          } in
          record {
            es = [];
            course = tt;
            come = record { tells = refl; issues = tt; begins = tt };
            traces = wipes_trace g sound o.key at spots w are_due o.identity log n.version (spots_of o.seats) answered (list_after asked was) (ap (λ (t : Table). t.plan.lists) n.same ∙ lists) before_it m trying;
            after = known;
          }

      module _ (are : AreSeatsOf o.table o.seats) where
        -- a replica of it lies in front
        lies_before : (r : Replica) → Contains (replicas_of o.seats) r → (a : PlaceAt) (has : Contains at a) → r.line ≡ (spots a has).line → (at_of r).place.start < a.place.start
        lies_before r in_it a has same =
            let s = seat_of o.seats r in_it in
            let listed : Contains (list_after asked was) s.0.place = subst (λ (l : List Place). Contains l s.0.place) (are.places ∙ ap places_of lists) (mapped (λ (x : Seat). x.place) o.seats s.0 s.1) in
            before_it a has (at_of r).place (subst (Contains (list_after asked was)) (sym (are.at s.0 r s.1 s.2)) listed) (ap (λ (l : SliceLine). l.name) same)

        pub freed_opened : IsOpenedAt g o m
        freed_opened = record {
          sound = opened.sound;
          of_geometry = opened.of_geometry;
          held = record { each = λ r has. wipes_own g sound o.key at spots w are_due o.identity r (lies_before r has) m (opened.held.each r has) trying; once = opened.held.once };
          named = opened.named;
          shown = λ r has. wipes_shown g sound o.key at spots w are_due o.identity r (lies_before r has) o.mark o.table m (opened.held.each r has) (opened.shown r has) trying;
        }
