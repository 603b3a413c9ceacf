-- How the masters of dropped places are blanked: in which order, and what was done, whichever calls failed.
use Rattle.std.specs.Prelude.{◌≡◌, ◌⊎◌, ◌+◌, ◌*◌, ◌&&◌, ℕ, Bool, true, false, List, [], ◌∷◌, length, map, if◌then◌else◌, Contains}
use Rattle.std.specs.Bool.{MatchBool}
use Rattle.mdv_name.specs.SliceIndex.{HasSlice, same_slice}
use Rattle.mdv_replica.specs.Replica.{Wiping}
use Rattle.mdv_base.specs.Causes.{Failures}
use Rattle.mdv_base.specs.DriveSet.{Drives, has_drive}
use Rattle.mdv_shelf.specs.Drives.{KeptAmong}
use Rattle.mdv_shelf.specs.Shelves.{AtEachTale, DriveFailures}
use Rattle.mdv_acts.specs.Acts.{Act, Blanks, HaveGone, HaveStopped, MadeCallsBetween}
use Rattle.mdv_acts.specs.Below.{DriveNo, Geometry, Ghosts, IsPlaced, Place, PlaceAt, SliceAt, Tale}

-- in front of the first place of its slice; where there is none, behind all
abbrev pub in_front : Place → List Place → List Place
in_front p [] = p ∷ []
in_front p (q ∷ qs) = if same_slice q.slice p.slice then p ∷ (q ∷ qs) else q ∷ in_front p qs

-- these places, one after another, come to those that are in their order
abbrev pub ordered_with : List Place → List Place → List Place
ordered_with done [] = done
ordered_with done (p ∷ ps) = ordered_with (in_front p done) ps

-- Slice after slice, in the order in which the list comes to them, and of each slice the last place first: so none is hidden by the blank master of
-- the first one before its own is blanked.
abbrev pub wipe_order : List Place → List Place
wipe_order places = ordered_with [] places

-- where a place lies; its number on the slice, and how many lie there, are no matter to a wipe
abbrev pub place_in : SliceAt → Place → PlaceAt
place_in at p = record { place = p; drive = at.drive; first = at.start + p.start; index = 0; count = 1 }

-- The place's slice is one of the table of drives, and the place lies within its drive.
pub record IsLaidOn (sizes : List ℕ) (g : Geometry) (p : Place) : Type 0 where
  pub some : (at : SliceAt) × HasSlice g.slices p.slice at
  pub placed : (at : SliceAt) → HasSlice g.slices p.slice at → IsPlaced sizes (place_in at p)

abbrev pub AreLaidOn : List ℕ → Geometry → List Place → Type 0
AreLaidOn sizes g places = (p : Place) → Contains places p → IsLaidOn sizes g p

-- the place lies there
abbrev pub IsFoundAt : Geometry → Place → PlaceAt → Type 0
IsFoundAt g p a = (at : SliceAt) × HasSlice g.slices p.slice at × (a ≡ place_in at p)

-- each of them does, in their order
abbrev pub AreFoundAt : Geometry → List Place → List PlaceAt → Type 0
AreFoundAt g [] [] = Unit {0}
AreFoundAt g [] (a ∷ rest) = ⊥
AreFoundAt g (p ∷ ps) [] = ⊥
AreFoundAt g (p ∷ ps) (a ∷ rest) = IsFoundAt g p a × AreFoundAt g ps rest

abbrev pub blanks_at : List PlaceAt → List Act
blanks_at places = map Blanks places

abbrev pub drives_at : List PlaceAt → List DriveNo
drives_at places = map (λ (a : PlaceAt). a.drive) places

-- the set with this drive
pub record IsJoined (before : Drives) (drive : DriveNo) (now : Drives) : Type 0 where
  pub added : has_drive now drive ≡ true
  pub others : (other : DriveNo) → (other ≡ drive → ⊥) → has_drive now other ≡ has_drive before other

-- A call on a place's drive had failed before, and it was passed over; or one failed on it, of two at most, and it is lost from then on.
abbrev pub IsLeftOut : {S : Type 0} → Ghosts S → S → S → PlaceAt → Drives → Drives → Type 0
IsLeftOut shelf old new a lost now =
    ((has_drive lost a.drive ≡ true) × (new ≡ old) × (now ≡ lost))
    ⊎ ((has_drive lost a.drive ≡ false) × HaveStopped shelf old new (a.drive ∷ []) (Blanks a ∷ []) × IsJoined lost a.drive now)

-- A place's master was blanked, by two calls, or not.
abbrev pub IsTried : {S : Type 0} → Ghosts S → S → S → PlaceAt → Drives → Drives → Bool → Type 0
IsTried shelf old new a lost now true = (has_drive lost a.drive ≡ false) × HaveGone shelf old new (a.drive ∷ []) (Blanks a ∷ []) × (now ≡ lost)
IsTried shelf old new a lost now false = IsLeftOut shelf old new a lost now

-- so was a place of the table of drives
abbrev pub IsWipedAt : {S : Type 0} → Ghosts S → Geometry → S → S → Place → Drives → Drives → Bool → Type 0
IsWipedAt shelf g old new p lost now wiped = (a : PlaceAt) × IsFoundAt g p a × IsTried shelf old new a lost now wiped

-- So were these, one after another; and whether each was blanked.
abbrev pub AreTried : {S : Type 0} → Ghosts S → S → S → List PlaceAt → Drives → Drives → Bool → Type 0
AreTried shelf old new [] lost now clean = (new ≡ old) × (now ≡ lost) × (clean ≡ true)
AreTried {S} shelf old new (a ∷ rest) lost now clean =
    (mid : S) × (between : Drives) × (here : Bool) × (behind : Bool) × IsTried shelf old mid a lost between here × AreTried shelf mid new rest between now behind
    × (clean ≡ (here && behind))

-- a master stays as it was, or is being blanked
abbrev pub MayBeWiping : PlaceAt → Tale → Tale → Type 0
MayBeWiping a t m = (m ≡ t) ⊎ Wiping a t m

-- one after another, as far as they came
abbrev pub AreTrying : List PlaceAt → Tale → Tale → Type 0
AreTrying [] t m = m ≡ t
AreTrying (a ∷ rest) t m = MayBeWiping a t m ⊎ ((v : Tale) × MayBeWiping a t v × AreTrying rest v m)

-- Of the drives that weren't lost those are now on which a call failed, and just one; on those that were none was made.
abbrev pub AreLostBy : (ℕ → Failures) → Drives → Drives → Type 0
AreLostBy failed lost now =
    (drive : DriveNo) → MatchBool (has_drive lost drive) ((has_drive now drive ≡ true) × (failed drive.0).none) (MatchBool (has_drive now drive) (failed drive.0).some (failed drive.0).none)

-- one of these places lies on a lost drive
abbrev pub HasOneLost : List PlaceAt → Drives → Type 0
HasOneLost places lost = (a : PlaceAt) × Contains places a × (has_drive lost a.drive ≡ true)

-- Each of these places was tried, in their order, but those on drives on which a call had failed by then: `lost` before, and `now` behind. Where none was
-- left out no call failed, and all their masters are blank.
pub record WereTried {S : Type 0} (shelf : Ghosts S) (old new : S) (places : List PlaceAt) (lost now : Drives) (clean : Bool) : Type 0 where
  pub steps : AreTried shelf old new places lost now clean
  pub moments : AtEachTale shelf (AreTrying places) old new
  pub came : MatchBool clean (HaveGone shelf old new (drives_at places) (blanks_at places)) (HasOneLost places now)
  pub by : AreLostBy (DriveFailures shelf old new) lost now
  pub made : MadeCallsBetween shelf old new 0 (2 * length places) (length places)
  pub kept : KeptAmong shelf old new (drives_at places)

-- where they lie, and that each was tried there
pub record WereWiped {S : Type 0} (shelf : Ghosts S) (g : Geometry) (old new : S) (places : List Place) (lost now : Drives) (clean : Bool) : Type 0 where
  pub at : List PlaceAt
  pub found : AreFoundAt g places at
  pub tried : WereTried shelf old new at lost now clean
