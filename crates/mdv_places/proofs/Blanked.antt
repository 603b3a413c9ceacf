-- The masters that were blanked stay so, whatever came of the other wipes.
use Rattle.std.proofs.Common.{◌≡◌, ◌⊎◌, inl, inr, ◌+◌, ◌&&◌, Bool, true, false, List, [], ◌∷◌, Contains, refl, sym, ◌∙◌, ap, subst, arith}
use Rattle.mdv_acts.proofs.Members.{first_or_behind}
use Rattle.mdv_acts.specs.Acts.{AreDoing, Blanks}
use Rattle.mdv_acts.specs.Wipes.{AreTried, AreTrying, IsTried, MayBeWiping}
use Rattle.mdv_base.specs.DriveSet.{Drives, has_drive}
use Rattle.mdv_replica.proofs.Leaving.{leaves_settling, settled_here}
use Rattle.mdv_replica.specs.Forms.{block_of}
use Rattle.mdv_replica.specs.Replica.{IsWiped, Wiping, blank_master}
use Rattle.mdv_shelf.proofs.Moments.{ends_more, moments_end}
use Rattle.mdv_shelf.specs.Shelves.{AtEnd}
use Rattle.mdv_standing.proofs.Blanking.{wiped_or_same}
use Rattle.mdv_places.specs.Below.{DriveNo, Ghosts, PlaceAt, Tale}
use Rattle.mdv_places.specs.Moments.{IsBlankAt}
use Rattle.mdv_places.proofs.Emptying.{trying}
use Rattle.mdv_places.proofs.Losing.{no_both}
use Rattle.mdv_places.proofs.Wiping.{step_free}

-- a master that is blank stays so
pub blank_still : (a b : PlaceAt) (u v : Tale) → IsBlankAt a u → Wiping b u v → IsBlankAt a v
blank_still a b u v blank wiping image is =
    let from = leaves_settling b.drive.0 b.first (block_of []) u v wiping image is in
    elim (wiped_or_same b from.0 image from.2 a.drive.0 a.first) [
      | inl same ↦ same ∙ blank from.0 from.1
      | inr wiped ↦ wiped
    ]

blank_trying : (a : PlaceAt) (places : List PlaceAt) (u v : Tale) → IsBlankAt a u → AreTrying places u v → IsBlankAt a v
blank_trying a places u v blank is = trying places (IsBlankAt a) (λ b s t has so wiping. blank_still a b s t so wiping) u v blank is

pub blank_done : (a : PlaceAt) (u : Tale) → IsWiped a u → IsBlankAt a u
blank_done a u wiped image is =
    let here : a.first ≡ a.first + 0 = omega arith in
    ap (image a.drive.0) here ∙ settled_here a.drive.0 a.first blank_master u wiped image is 0 (omega arith)

parts : (b c : Bool) → (b && c) ≡ true → (b ≡ true) × (c ≡ true)
parts true true so = (refl, refl)
parts true false so = absurd (no_both false so refl)
parts false c so = absurd (no_both false so refl)

one_trying : (a : PlaceAt) (t m : Tale) → AreDoing (Blanks a ∷ []) t m → MayBeWiping a t m
one_trying a t m (inl is) = inl is
one_trying a t m (inr (inl is)) = inr is
one_trying a t m (inr (inr is)) = inr (subst (λ (w : Tale). Wiping a t w) (sym is.2) is.1.0)

module _ {S : Type 0} (shelf : Ghosts S) where
  -- one wipe
  abbrev EndsTried : PlaceAt → Bool → Tale → Tale → Type 0
  EndsTried a wiped t u = MayBeWiping a t u × (wiped ≡ true → IsBlankAt a u)

  step_ends : (old new : S) (a : PlaceAt) (lost now : Drives) (wiped : Bool) → IsTried shelf old new a lost now wiped → AtEnd shelf (EndsTried a wiped) old new
  step_ends old new a lost now true tried t is =
      let end = tried.1.end t is in
      (end.0, end.1, (inr (subst (λ (w : Tale). Wiping a t w) (sym end.2.2) end.2.1.0), λ so. subst (IsBlankAt a) (sym end.2.2) (blank_done a end.2.0 end.2.1.1)))
  step_ends old new a lost now false (inl past) t is = (t, ap shelf.tale past.1 ∙ is, (inl refl, λ so. absurd (no_both false so refl)))
  step_ends old new a lost now false (inr failed) t is = (let end = moments_end (AreDoing (Blanks a ∷ [])) (shelf.tale old) (shelf.tale new) failed.1.moments t is in (end.0, end.1, (one_trying a t end.0 end.2, λ so. absurd (no_both false so refl))))

  -- a drive that isn't lost behind all wipes wasn't before
  steps_free : (places : List PlaceAt) (old new : S) (lost now : Drives) (clean : Bool) → AreTried shelf old new places lost now clean → (d : DriveNo) → has_drive now d ≡ false → has_drive lost d ≡ false
  steps_free [] old new lost now clean tried d is = sym (ap (λ (ds : Drives). has_drive ds d) tried.1) ∙ is
  steps_free (a ∷ rest) old new lost now clean (mid, between, here, behind, one, more, both) d is = (step_free shelf old mid a lost between here one d (steps_free rest mid new between now behind more d is)).0

  -- on such a drive it was done
  done_free : (old new : S) (a : PlaceAt) (lost now : Drives) (wiped : Bool) → IsTried shelf old new a lost now wiped → has_drive now a.drive ≡ false → wiped ≡ true
  done_free old new a lost now true tried free = refl
  done_free old new a lost now false (inl past) free = absurd (no_both (has_drive lost a.drive) past.0 (sym (ap (λ (ds : Drives). has_drive ds a.drive) past.2) ∙ free))
  done_free old new a lost now false (inr failed) free = absurd (no_both (has_drive now a.drive) failed.2.added free)

  abbrev pub AreKnown : List PlaceAt → Drives → Bool → Tale → Type 0
  AreKnown places now clean u = (a : PlaceAt) → Contains places a → (clean ≡ true) ⊎ (has_drive now a.drive ≡ false) → IsBlankAt a u

  abbrev pub EndsAll : List PlaceAt → Drives → Bool → Tale → Tale → Type 0
  EndsAll places now clean t u = AreTrying places t u × AreKnown places now clean u

  pub tried_ends : (places : List PlaceAt) (old new : S) (lost now : Drives) (clean : Bool) → AreTried shelf old new places lost now clean → AtEnd shelf (EndsAll places now clean) old new
  tried_ends [] old new lost now clean tried = λ t is. (t, ap shelf.tale tried.0 ∙ is, (refl, λ a has how. absurd (omega (arith, has.1))))
  tried_ends (x ∷ rest) old new lost now clean (mid, between, here, behind, one, more, both) =
      ends_more (EndsTried x here) (EndsAll rest now behind) (EndsAll (x ∷ rest) now clean) (shelf.tale old) (shelf.tale mid) (shelf.tale new)
      (λ t u v first then. (inr (u, first.0, then.0), known u v first.1 then)) (step_ends old mid x lost between here one) (tried_ends rest mid new between now behind more)
    where
      done_here : (a : PlaceAt) → x ≡ a → (clean ≡ true) ⊎ (has_drive now a.drive ≡ false) → here ≡ true
      done_here a same (inl all) = (parts here behind (sym both ∙ all)).0
      done_here a same (inr free) = done_free old mid x lost between here one (steps_free rest mid new between now behind more x.drive (subst (λ (y : PlaceAt). has_drive now y.drive ≡ false) (sym same) free))

      done_behind : (a : PlaceAt) → (clean ≡ true) ⊎ (has_drive now a.drive ≡ false) → (behind ≡ true) ⊎ (has_drive now a.drive ≡ false)
      done_behind a (inl all) = inl (parts here behind (sym both ∙ all)).1
      done_behind a (inr free) = inr free

      known : (u v : Tale) → (here ≡ true → IsBlankAt x u) → AreTrying rest u v × AreKnown rest now behind v → AreKnown (x ∷ rest) now clean v
      known u v first then a has how = elim (first_or_behind x a rest has) [
        | inl same ↦ blank_trying a rest u v (subst (λ (y : PlaceAt). IsBlankAt y u) same (first (done_here a same how))) then.0
        | inr later ↦ then.1 a later (done_behind a how)
      ]
