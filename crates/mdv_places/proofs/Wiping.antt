-- What the wipes of dropped places say of the drives on which a call failed before, and of those on which one failed at all.
use Rattle.std.proofs.Common.{◌≡◌, inl, inr, ◌&&◌, Bool, true, false, Some, List, [], ◌∷◌, ◌++◌, Contains, filter, refl, sym, ◌∙◌, ap, subst, arith}
use Rattle.std.proofs.lemmas.List.Elements.{Contains-append_left, Contains-append_right}
use Rattle.std.specs.Bool.{MatchBool}
use Rattle.std.specs.Prelude.{not}
use Rattle.mdv_acts.proofs.Members.{contains_behind, contains_first, first_or_behind}
use Rattle.mdv_acts.specs.Acts.{HaveGone}
use Rattle.mdv_acts.specs.Wipes.{AreFoundAt, AreLostBy, AreTried, HasOneLost, IsTried, WereWiped, blanks_at, drives_at}
use Rattle.mdv_base.specs.DriveSet.{Drives, has_drive, no_drives}
use Rattle.mdv_look.proofs.Among.{among_calm}
use Rattle.mdv_name.proofs.Finding.{slice_at-some}
use Rattle.mdv_shelf.proofs.Among.{among_none, among_wider}
use Rattle.mdv_shelf.specs.Calls.{OnDrive}
use Rattle.mdv_shelf.specs.Drives.{KeptAmong}
use Rattle.mdv_shelf.specs.Shelves.{DriveFailures}
use Rattle.mdv_store.proofs.Passes.{mapped, unmapped}
use Rattle.mdv_places.specs.Asked.{Asks, dropped, seats_added}
use Rattle.mdv_places.specs.Below.{DriveNo, Geometry, Ghosts, IsSound, Opened, Place, PlaceAt, SliceAt, drives_of, last_of, slice_at}
use Rattle.mdv_places.specs.Changing.{AreCalm, HasFailed, drives_dropped, drives_moved, drives_under}
use Rattle.mdv_places.proofs.Coming.{keeps, passes}
use Rattle.mdv_places.proofs.Losing.{free_calm, lost_failed, lost_then, no_both}

-- the drives that aren't lost
abbrev pub is_free : Drives → DriveNo → Bool
is_free lost d = not (has_drive lost d)

abbrev pub free : Drives → List DriveNo → List DriveNo
free lost drives = filter (is_free lost) drives

freed : (b : Bool) → not b ≡ true → b ≡ false
freed true is = absurd (no_both false is refl)
freed false is = refl

module _ (lost : Drives) (drives : List DriveNo) where
  pub free_one : (d : DriveNo) → Contains (free lost drives) d → Contains drives d × (has_drive lost d ≡ false)
  free_one d has = (let one = passes (is_free lost) drives d has in (one.0, freed (has_drive lost d) one.1))

  pub one_free : (d : DriveNo) → Contains drives d → has_drive lost d ≡ false → Contains (free lost drives) d
  one_free d has is = keeps (is_free lost) drives d has (ap not is)

-- the drives of the places by the table of drives
pub found_drives : (g : Geometry) → IsSound g → (places : List Place) (at : List PlaceAt) → AreFoundAt g places at → drives_under g places ≡ drives_at at
found_drives g sound [] [] found = refl
found_drives g sound [] (a ∷ rest) found = absurd found
found_drives g sound (p ∷ ps) [] found = absurd found
found_drives g sound (p ∷ ps) (a ∷ rest) found =
    let one = found.0 in
    let is : slice_at g.slices p.slice ≡ Some one.0 = (slice_at-some g p.slice one.0 sound).1 one.1 in
    let drive : one.0.drive ≡ a.drive = sym (ap (λ (x : PlaceAt). x.drive) one.2) in
    under is ∙ ap (λ (d : DriveNo). d ∷ drives_under g ps) drive ∙ ap (λ (l : List DriveNo). a.drive ∷ l) (found_drives g sound ps rest found.1)
  where
    under : {at : SliceAt} → slice_at g.slices p.slice ≡ Some at → drives_under g (p ∷ ps) ≡ at.drive ∷ drives_under g ps
    under {at} is = rw is refl

module _ {S : Type 0} (shelf : Ghosts S) where
  -- a drive that isn't lost behind a wipe wasn't before, and no call on it failed
  pub step_free : (old new : S) (a : PlaceAt) (lost now : Drives) (wiped : Bool) → IsTried shelf old new a lost now wiped → (d : DriveNo) → has_drive now d ≡ false → (has_drive lost d ≡ false) × (DriveFailures shelf old new d.0).none
  step_free old new a lost now true tried d is = (sym (ap (λ (ds : Drives). has_drive ds d) tried.2) ∙ is, tried.1.calm d.0)
  step_free old new a lost now false (inl past) d is = (sym (ap (λ (ds : Drives). has_drive ds d) past.2) ∙ is, ap (λ (s : S). shelf.faults s (OnDrive d.0)) past.1)
  step_free old new a lost now false (inr failed) d is = (sym (failed.2.others d (λ e. other e)) ∙ is, failed.1.elsewhere d (λ e. other (e ∙ its failed.1.drive failed.1.one_of))) where
    other : d ≡ a.drive → ⊥
    other e = no_both (has_drive now d) (ap (has_drive now) e ∙ failed.2.added) is

    its : (x : DriveNo) → Contains (a.drive ∷ []) x → x ≡ a.drive
    its x has = elim (first_or_behind a.drive x [] has) [ inl here ↦ sym here | inr none ↦ absurd (omega (arith, none.1)) ]

  on_it : (old new : S) (drive : DriveNo) (drives : List DriveNo) → Contains drives drive → KeptAmong shelf old new (drive ∷ []) → KeptAmong shelf old new drives
  on_it old new drive drives one_of kept = among_wider shelf old new (drive ∷ []) drives (λ d has. elim (first_or_behind drive d [] has) [
    | inl here ↦ subst (Contains drives) here one_of
    | inr none ↦ absurd (omega (arith, none.1))
  ]) kept

  -- it was made on no lost drive
  step_kept : (old new : S) (a : PlaceAt) (lost now : Drives) (wiped : Bool) → IsTried shelf old new a lost now wiped → (drives : List DriveNo) → (has_drive lost a.drive ≡ false → Contains drives a.drive) → KeptAmong shelf old new drives
  step_kept old new a lost now true tried drives within = on_it old new a.drive drives (within tried.0) tried.1.kept
  step_kept old new a lost now false (inl past) drives within = subst (λ (s : S). KeptAmong shelf old s drives) (sym past.1) (among_none shelf old drives)
  step_kept old new a lost now false (inr failed) drives within = on_it old new a.drive drives (within failed.0) failed.1.kept

  -- nor were all of them
  pub free_kept : (places : List PlaceAt) (old new : S) (lost now : Drives) (clean : Bool) → AreTried shelf old new places lost now clean → KeptAmong shelf old new (free lost (drives_at places))
  free_kept [] old new lost now clean (here, set, is) = subst (λ (s : S). KeptAmong shelf old s (free lost (drives_at []))) (sym here) (among_none shelf old (free lost (drives_at [])))
  free_kept (a ∷ rest) old new lost now clean (mid, between, here, behind, one, more, is) =
      among_calm shelf old mid new (free lost (drives_at (a ∷ rest))) (free between (drives_at rest))
      (λ d has. (let in_rest = free_one between (drives_at rest) d has in one_free lost (drives_at (a ∷ rest)) d (contains_behind a.drive d (drives_at rest) in_rest.0) (step_free old mid a lost between here one d in_rest.1).0))
      (λ d has. (step_free old mid a lost between here one d (free_one between (drives_at rest) d has).1).1)
      (step_kept old mid a lost between here one (free lost (drives_at (a ∷ rest))) (λ free_now. one_free lost (drives_at (a ∷ rest)) a.drive (contains_first a.drive (drives_at rest)) free_now))
      (free_kept rest mid new between now behind more)

  -- where all were wiped none lies on a lost drive
  pub all_free : (places : List PlaceAt) (old new : S) (lost now : Drives) (clean : Bool) → AreTried shelf old new places lost now clean → clean ≡ true → (a : PlaceAt) → Contains places a → has_drive lost a.drive ≡ false
  all_free [] old new lost now clean tried all a has = absurd (omega (arith, has.1))
  all_free (x ∷ rest) old new lost now clean (mid, between, here, behind, one, more, is) all a has =
      let both = parts here behind (sym is ∙ all) in
      elim (first_or_behind x a rest has) [
        | inl first ↦ subst (λ (y : PlaceAt). has_drive lost y.drive ≡ false) first (free_first mid between here one both.0)
        | inr later ↦ (step_free old mid x lost between here one a.drive (all_free rest mid new between now behind more both.1 a later)).0
      ]
    where
      parts : (b c : Bool) → (b && c) ≡ true → (b ≡ true) × (c ≡ true)
      parts true true so = (refl, refl)
      parts true false so = absurd (no_both false so refl)
      parts false c so = absurd (no_both false so refl)

      free_first : (m : S) (ds : Drives) (b : Bool) → IsTried shelf old m x lost ds b → b ≡ true → has_drive lost x.drive ≡ false
      free_first m ds true tried so = tried.0
      free_first m ds false tried so = absurd (no_both false so refl)

-- The wipes behind the records.
module _ {S : Type 0} (shelf : Ghosts S) (from last to : S) (g : Geometry) (o now : Opened) (asked : Asks) (sound : IsSound g) (lost left : Drives) (failed : AreLostBy (DriveFailures shelf from last) no_drives lost) (clean : Bool)
    (wiped : WereWiped shelf g last to (dropped asked (last_of o.table.plan.lists)) lost left clean) where
  dropped_on : drives_dropped g o asked ≡ drives_at wiped.at
  dropped_on = found_drives g sound (dropped asked (last_of o.table.plan.lists)) wiped.at wiped.found

  place_on : (d : DriveNo) → Contains (drives_dropped g o asked) d → (a : PlaceAt) × Contains wiped.at a × (a.drive ≡ d)
  place_on d has = unmapped (λ (a : PlaceAt). a.drive) wiped.at d (subst (λ (l : List DriveNo). Contains l d) dropped_on has)

  on_place : (a : PlaceAt) → Contains wiped.at a → Contains (drives_dropped g o asked) a.drive
  on_place a has = subst (λ (l : List DriveNo). Contains l a.drive) (sym dropped_on) (mapped (λ (b : PlaceAt). b.drive) wiped.at a has)

  -- nothing was done behind a failed call on the same drive
  pub moved_kept : KeptAmong shelf from last (drives_of (o.seats ++ seats_added o asked)) → KeptAmong shelf from to (drives_moved g o asked)
  moved_kept kept =
      among_calm shelf from last to (drives_moved g o asked) (free lost (drives_at wiped.at))
      (λ d has. Contains-append_right (drives_of (o.seats ++ seats_added o asked)) (drives_dropped g o asked) d (subst (λ (l : List DriveNo). Contains l d) (sym dropped_on) (free_one lost (drives_at wiped.at) d has).0))
      (λ d has. free_calm (DriveFailures shelf from last) lost failed d (free_one lost (drives_at wiped.at) d has).1)
      (among_wider shelf from last (drives_of (o.seats ++ seats_added o asked)) (drives_moved g o asked) (λ d has. Contains-append_left (drives_of (o.seats ++ seats_added o asked)) (drives_dropped g o asked) d has) kept)
      (free_kept shelf wiped.at last to lost left clean wiped.tried.steps)

  -- the drives on which a call failed from the first format to the last wipe
  pub lost_at_all : AreLostBy (DriveFailures shelf from to) no_drives left
  lost_at_all = lost_then shelf from last to no_drives lost left failed wiped.tried.by

  pub has_failed : HasOneLost wiped.at left → HasFailed shelf from to g o now asked
  has_failed one = (one.0.drive, on_place one.0 one.1, lost_failed (DriveFailures shelf from to) left lost_at_all one.0.drive one.2)

  -- what the answer tells
  pub told : MatchBool clean (AreCalm shelf from to g o now asked) (HasFailed shelf from to g o now asked)
  told = by clean refl wiped.tried.came where
    calm : clean ≡ true → HaveGone shelf last to (drives_at wiped.at) (blanks_at wiped.at) → AreCalm shelf from to g o now asked
    calm all gone d has =
        let a = place_on d has in
        let free_at = all_free shelf wiped.at last to lost left clean wiped.tried.steps all a.0 a.1 in
        gone.calm d.0 ∙ free_calm (DriveFailures shelf from last) lost failed d (subst (λ (x : DriveNo). has_drive lost x ≡ false) a.2 free_at)

    by : (b : Bool) → clean ≡ b → MatchBool b (HaveGone shelf last to (drives_at wiped.at) (blanks_at wiped.at)) (HasOneLost wiped.at left) → MatchBool b (AreCalm shelf from to g o now asked) (HasFailed shelf from to g o now asked)
    by true all gone = calm all gone
    by false some one = has_failed one
