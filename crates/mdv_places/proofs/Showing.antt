-- What the places show of a change, whatever is known of the log.
use Rattle.std.proofs.Common.{◌≡◌, ℕ, Bool, List, [], None, Ok, refl, sym, subst, arith}
use Rattle.std.proofs.lemmas.List.Elements.{Contains-append_right}
use Rattle.mdv_acts.specs.Acts.{AreDoing, AreDone}
use Rattle.mdv_acts.specs.Wipes.{AreFoundAt, AreTrying}
use Rattle.mdv_name.specs.Sound.{IsSound}
use Rattle.mdv_store.proofs.Sitting.{replica_of, seat_of}
use Rattle.mdv_store.proofs.Slotting.{slot_theirs}
use Rattle.mdv_store.specs.Below.{Failures}
use Rattle.mdv_store.specs.Listing.{IsLast, MayList, seats_in}
use Rattle.mdv_store.specs.Seats.{AreTheirs}
use Rattle.mdv_store.specs.Shares.{short_of}
use Rattle.mdv_store.specs.Writing.{WritingEnds, text_size}
use Rattle.mdv_store.specs.declared.seats.Need.TheVariants.{Half}
use Rattle.mdv_places.specs.Asked.{Adds, Asks, Drops, KeepsFirst, acts_moved, dropped, list_after, lists_after, seats_added}
use Rattle.mdv_places.specs.Below.{AreLeft, Geometry, IsOpenedAt, Mark, One, Opened, Place, PlaceAt, Seat, TakesSlot, Tale, last_of, next_mark, replicas_of, settled}
use Rattle.mdv_places.specs.Changing.{MayMove, both_of}
use Rattle.mdv_places.specs.Moments.{IsShownBy, MayShow}
use Rattle.mdv_places.proofs.Aside.{emptied_opened}
use Rattle.mdv_places.proofs.Composing.{both_recording, last_at, last_recording, ns_are}
use Rattle.mdv_places.proofs.Formation.{IsFormedTo, formed_at, forming_at}
use Rattle.mdv_places.proofs.Fronting.{adds_none}
use Rattle.mdv_places.proofs.Recording.{IsRecordAt, bodies, record_shown}
use Rattle.mdv_places.proofs.Staying.{theirs_passed}

module _ (sizes : List ℕ) (g : Geometry) (old : Opened) (asked : Asks) (may : MayMove sizes g old asked) (checked : MayList old (lists_after asked old.table.plan.lists)) (sound : IsSound g) (t : Tale) (go : MayShow g old asked t) where
  abbrev both : Opened
  both = both_of old asked

  abbrev was : List Place
  was = last_of old.table.plan.lists

  abbrev list : List Place
  list = list_after asked was

  abbrev first_mark : Mark
  first_mark = next_mark old.mark

  -- a call failed as places were formatted
  pub failed_shown : (m : Tale) → AreDoing (acts_moved old asked) t m → IsOpenedAt g old m
  failed_shown m doing = (forming_at sizes g old asked t may checked go m doing).opened

  -- They were formatted, and the table with both lists was written.
  module _ (u : Tale) (done : AreDone (acts_moved old asked) t u) (failed : ℕ → Failures) (bs : List Seat) (left : AreLeft failed (TakesSlot first_mark (text_size both.table)) both.seats bs) (v : Tale) (ends : WritingEnds both.seats bs first_mark both.table u v) where
    formed : IsFormedTo g old asked t u
    formed = formed_at sizes g old asked t may checked go u done

    recorded : IsRecordAt g old.key old.identity both.table both.seats u
    recorded = record { sound = go.opened.sound; of_geometry = go.of_geometry; held = formed.held; named = formed.named }

    pub both_shown : IsOpenedAt g (record both { mark = first_mark; seats = bs }) v
    both_shown = record_shown g old.key old.identity old.mark both.table both.seats (both_recording sizes g old asked may checked) u recorded failed bs left v ends

    both_theirs : AreTheirs g old.key old.identity both.seats v
    both_theirs = slot_theirs first_mark (text_size both.table) ends.body both.seats u g old.key old.identity both.table go.opened.sound recorded.held
        (bodies g old.key old.identity old.mark both.table both.seats (both_recording sizes g old asked may checked) u recorded ends.body ends.spelled) v (replicas_of bs, [], ends.slotting.passed)

    pub added_theirs : AreTheirs g old.key old.identity (seats_added old asked) v
    added_theirs r has = (let s = seat_of (seats_added old asked) r has in both_theirs r (replica_of both.seats s.0 r (Contains-append_right old.seats (seats_added old asked) s.0 s.1) s.2))

    -- Half of each list took it, and the table with the new list alone was written.
    module _ (half : short_of Half bs both.table.plan.lists ≡ None) (last : IsLast (record both { mark = first_mark; seats = bs })) (lost : ℕ → Failures) (ns : List Seat) where
      abbrev some : List Seat
      some = seats_in list bs

      abbrev last_mark : Mark
      last_mark = next_mark (next_mark old.mark)

      abbrev new : Opened
      new = record { key = old.key; identity = old.identity; mark = last_mark; table = settled both.table; seats = ns }

      module _ (left_last : AreLeft lost (TakesSlot last_mark (text_size (settled both.table))) some ns) (w : Tale) (over : WritingEnds some ns last_mark (settled both.table) v w) where
        last_recorded : IsRecordAt g old.key old.identity (settled both.table) some v
        last_recorded = last_at sizes g old asked may checked failed bs left half last u v recorded ends

        pub last_shown : IsOpenedAt g new w
        last_shown = record_shown g old.key old.identity first_mark (settled both.table) some (last_recording sizes g old asked may checked failed bs left half last) v last_recorded lost ns left_last w over

        pub last_theirs : AreTheirs g old.key old.identity (seats_added old asked) w
        last_theirs = theirs_passed g go.opened.sound old.key old.identity some last_mark (text_size (settled both.table)) over.body (settled both.table) v last_recorded.held
            (bodies g old.key old.identity first_mark (settled both.table) some (last_recording sizes g old asked may checked failed bs left half last) v last_recorded over.body over.spelled) (seats_added old asked) w (replicas_of ns, [], over.slotting.passed) added_theirs

        -- Half of that list took it, and the dropped places were tried.
        module _ (half_last : short_of Half ns (One list) ≡ None) (at : List PlaceAt) (found : AreFoundAt g (dropped asked was) at) (m : Tale) (trying : AreTrying at w m) where
          wiped_theirs : AreTheirs g old.key old.identity (seats_added old asked) m
          wiped_theirs = by asked found last_theirs where
            by : (a : Asks) → AreFoundAt g (dropped a was) at → AreTheirs g old.key old.identity (seats_added old a) w → AreTheirs g old.key old.identity (seats_added old a) m
            by (Adds lines count blocks) found_at theirs = subst (AreTheirs g old.key old.identity (seats_added old (Adds lines count blocks))) (sym (adds_none g was lines count blocks at found_at w m trying)) theirs
            by (Drops slices) found_at theirs = λ r has. absurd (omega (arith, has.1))
            by KeepsFirst found_at theirs = λ r has. absurd (omega (arith, has.1))

          pub wiped_shown : (clean : Bool) → IsShownBy g old new asked (Ok clean) t m
          wiped_shown clean = (
            emptied_opened g sound new asked was go.of_geometry.lists go.front refl (ns_are sizes g old asked may checked failed bs left half last v last_recorded lost ns left_last half_last w over) w last_shown at found m trying,
            wiped_theirs,
          )
