-- An open database stays open while masters of dropped places are blanked: they lie behind its replicas, or on other slices.
use Rattle.std.proofs.Common.{◌≡◌, inl, inr, ℕ, ◌+◌, ◌*◌, true, List, Contains, sym, ◌∙◌, ap, subst, arith}
use Rattle.std.proofs.lemmas.Bool.{cases_Bool, false≢true}
use Rattle.std.proofs.lemmas.List.Folds.{Any-from_list_any}
use Rattle.mdv_acts.specs.Wipes.{AreFoundAt, AreTrying, IsFoundAt}
use Rattle.mdv_name.proofs.Finding.{same_slice-equal, same_slice-refl}
use Rattle.mdv_name.specs.SliceIndex.{HasSlice, same_slice}
use Rattle.mdv_name.specs.Sound.{IsSound}
use Rattle.mdv_base.specs.declared.drive.SliceName.{SliceName}
use Rattle.mdv_shelf.proofs.Everywhere.{last_image}
use Rattle.mdv_shelf.specs.Tale.{last}
use Rattle.mdv_shelf.specs.Area.{AreApart}
use Rattle.mdv_shown.proofs.Elsewhere.{in_range, range_has}
use Rattle.mdv_store.proofs.Passes.{mapped}
use Rattle.mdv_store.proofs.Sitting.{seat_of}
use Rattle.mdv_store.specs.Opened.{AreSeatsOf}
use Rattle.mdv_config.specs.Table.{IsListsOf}
use Rattle.mdv_places.specs.Asked.{Asks, dropped, list_after}
use Rattle.mdv_places.specs.Below.{Geometry, IsOpenedAt, One, Opened, Place, PlaceAt, Replica, Seat, SliceAt, Tale, Two, at_of, places_of, range, replicas_of}
use Rattle.mdv_places.specs.Moments.{IsFront, master_area}
use Rattle.mdv_places.proofs.Beside.{chain_area, opened_aside}
use Rattle.mdv_places.proofs.Dropping.{dropped_one}
use Rattle.mdv_places.proofs.Emptying.{masters, wipes_quiet}
use Rattle.mdv_places.proofs.Fronting.{ends_before, its_slice, others_apart, placed_of}
use Rattle.mdv_places.proofs.Spotting.{found_one}

module _ (g : Geometry) (sound : IsSound g) (o : Opened) (asked : Asks) (was : List Place) (lists : IsListsOf g (Two was (list_after asked was))) (front : IsFront asked was)
    (only : o.table.plan.lists ≡ One (list_after asked was)) (are : AreSeatsOf o.table o.seats) (w : Tale) (opened : IsOpenedAt g o w) (at : List PlaceAt) (found : AreFoundAt g (dropped asked was) at) where
  -- each active place is one of the list that came
  listed : (r : Replica) → Contains (replicas_of o.seats) r → Contains (list_after asked was) (at_of r).place
  listed r has =
      let s = seat_of o.seats r has in
      subst (Contains (list_after asked was)) (sym (are.at s.0 r s.1 s.2))
      (subst (λ (l : List Place). Contains l s.0.place) (are.places ∙ ap places_of only) (mapped (λ (x : Seat). x.place) o.seats s.0 s.1))

  -- no master that is blanked lies in front of a replica's end on its slice
  one_apart : (r : Replica) → Contains (replicas_of o.seats) r → (p : Place) → Contains (dropped asked was) p → (a : PlaceAt) → IsFoundAt g p a → AreApart (master_area a) (chain_area r)
  one_apart r has p gone a (sl, slice, is) drive block master chain =
      let own = opened.held.each r has (last w) (last_image w) in
      let looks = own.found.one_of in
      let fits = own.found.within in
      let x = in_range a.drive.0 a.first 1 drive block master in
      let y = in_range r.line.at.drive.0 (r.line.at.start + 16) (r.number * r.first.blocks + r.first.blocks) drive block chain in
      let first : a.first ≡ sl.start + p.start = ap (λ (b : PlaceAt). b.first) is in
      let disk : a.drive.0 ≡ sl.drive.0 = ap (λ (b : PlaceAt). b.drive.0) is in
      elim (cases_Bool (same_slice r.line.name p.slice)) [
        | inl same ↦
            let named = same_slice-equal r.line.name p.slice same in
            let there : r.line.at ≡ sl = sound.once p.slice r.line.at sl (subst (λ (n : SliceName). HasSlice g.slices n r.line.at) named (its_slice g sound o.key r.line looks)) slice in
            let start : r.line.at.start ≡ sl.start = ap (λ (s : SliceAt). s.start) there in
            let before = ends_before g sound asked was lists front p (at_of r).place gone (listed r has) named in
            omega (arith, x, y, first, start, before)
        | inr other ↦
            let placed = placed_of g sound was (list_after asked was) lists p (dropped_one asked was p gone) in
            let lies = placed.lies in
            let its : placed.at ≡ sl = sound.once p.slice placed.at sl placed.has slice in
            let blocks : placed.at.blocks ≡ sl.blocks = ap (λ (s : SliceAt). s.blocks) its in
            let within = lies.within in
            let least = lies.least in
            let differ : r.line.name ≡ p.slice → ⊥ = λ e. false≢true (sym other ∙ subst (λ (n : SliceName). same_slice r.line.name n ≡ true) e (same_slice-refl r.line.name)) in
            others_apart g sound o.key r.line looks p.slice sl slice placed.clear differ drive block
            (subst (λ (d : ℕ). range r.line.at.drive.0 r.line.at.start r.line.at.blocks d block ≡ true) y.0 (range_has r.line.at.drive.0 r.line.at.start r.line.at.blocks block (omega (arith, y)) (omega (arith, y, fits))))
            (subst (λ (d : ℕ). range sl.drive.0 sl.start sl.blocks d block ≡ true) (sym disk ∙ x.0) (range_has sl.drive.0 sl.start sl.blocks block (omega (arith, x, first)) (omega (arith, x, first, blocks, within, least))))
      ]

  all_apart : (r : Replica) → Contains (replicas_of o.seats) r → AreApart (masters at) (chain_area r)
  all_apart r has drive block in_one chain =
      let any = Any-from_list_any (λ (b : PlaceAt). master_area b drive block) at in_one in
      let p = found_one g (dropped asked was) at any.1 found (any.0, any.2, any.3) in
      one_apart r has p.0 p.1 any.1 p.2 drive block any.4 chain

  pub emptied_opened : (m : Tale) → AreTrying at w m → IsOpenedAt g o m
  emptied_opened m trying = opened_aside g o (masters at) w m (wipes_quiet at w m trying).outside all_apart opened
