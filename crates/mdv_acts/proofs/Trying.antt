-- Places whose masters are blanked one after another, but those on drives on which a call has failed.
use Rattle.std.proofs.Common.{◌≡◌, ◌⊎◌, inl, inr, ℕ, ◌+◌, ◌*◌, ◌&&◌, Bool, true, false, List, [], ◌∷◌, ◌++◌, length, Contains, refl, sym, ◌∙◌, ap, subst, arith}
use Rattle.std.specs.Bool.{MatchBool}
use Rattle.std.proofs.lemmas.Bool.{cases_eq}
use Rattle.std.proofs.lemmas.List.{length_push, map-append}
use Rattle.std.proofs.lemmas.List.Elements.{Contains-append_left, Contains-append_right, Contains-push}
use Rattle.mdv_base.specs.Causes.{Failures, RoseOnce, failures_of}
use Rattle.mdv_base.specs.DriveSet.{Drives, has_drive}
use Rattle.mdv_replica.specs.Replica.{Wiping}
use Rattle.mdv_shelf.specs.Calls.{OnDrive}
use Rattle.mdv_shelf.specs.Drives.{KeptAmong}
use Rattle.mdv_shelf.specs.Shelves.{AtEachTale, DriveFailures, KeptOn}
use Rattle.mdv_shelf.proofs.Among.{among_none, among_then, among_wider}
use Rattle.mdv_shelf.proofs.Between.{between_none, between_of, between_then, between_wider}
use Rattle.mdv_shelf.proofs.Moments.{moments_more, moments_none, moments_weaker}
use Rattle.mdv_acts.specs.Acts.{Act, AreDoing, Blanks, HaveGone, MadeCallsBetween}
use Rattle.mdv_acts.specs.Below.{DriveNo, Geometry, Ghosts, Place, PlaceAt, Tale}
use Rattle.mdv_acts.specs.Wipes.{AreFoundAt, AreLostBy, AreTried, AreTrying, HasOneLost, IsFoundAt, IsTried, IsWipedAt, MayBeWiping, WereTried, WereWiped, blanks_at, drives_at}
use Rattle.mdv_acts.proofs.Acting.{gone_none, gone_then, gone_wider}
use Rattle.mdv_acts.proofs.Members.{first_or_behind}

-- At each moment.
one_trying : (a : PlaceAt) (t m : Tale) → AreDoing (Blanks a ∷ []) t m → MayBeWiping a t m
one_trying a t m (inl is) = inl is
one_trying a t m (inr (inl is)) = inr is
one_trying a t m (inr (inr is)) = inr (subst (λ (w : Tale). Wiping a t w) (sym is.2) is.1.0)

trying_here : (places : List PlaceAt) (t : Tale) → AreTrying places t t
trying_here [] t = refl
trying_here (a ∷ rest) t = inl (inl refl)

trying_front : (places : List PlaceAt) (b : PlaceAt) (t m : Tale) → AreTrying places t m → AreTrying (places ++ b ∷ []) t m
trying_front [] b t m is = inl (inl is)
trying_front (a ∷ rest) b t m (inl is) = inl is
trying_front (a ∷ rest) b t m (inr is) = inr (is.0, is.1, trying_front rest b is.0 m is.2)

trying_behind : (places : List PlaceAt) (b : PlaceAt) (t u m : Tale) → AreTrying places t u → MayBeWiping b u m → AreTrying (places ++ b ∷ []) t m
trying_behind [] b t u m is next = inl (subst (λ (w : Tale). MayBeWiping b w m) is next)
trying_behind (a ∷ rest) b t u m (inl is) next = inr (u, is, trying_behind rest b u u m (trying_here rest u) next)
trying_behind (a ∷ rest) b t u m (inr is) next = inr (is.0, is.1, trying_behind rest b is.0 u m is.2 next)

-- Where they lie.
pub found_push : (g : Geometry) (places : List Place) (at : List PlaceAt) (p : Place) (a : PlaceAt) → AreFoundAt g places at → IsFoundAt g p a → AreFoundAt g (places ++ p ∷ []) (at ++ a ∷ [])
found_push g [] [] p a found one = (one, tt)
found_push g [] (b ∷ rest) p a found one = absurd found
found_push g (q ∷ places) [] p a found one = absurd found
found_push g (q ∷ places) (b ∷ rest) p a found one = (found.0, found_push g places rest p a found.1 one)

-- tests that are joined
with_true : (b : Bool) → (true && b) ≡ (b && true)
with_true true = refl
with_true false = refl

joined : (a b c : Bool) → ((a && b) && c) ≡ (a && (b && c))
joined true b c = refl
joined false b c = refl

no_both : (b : Bool) → b ≡ true → b ≡ false → ⊥
no_both b so not_so = cc (so, not_so)

same_drive : (a b : DriveNo) → a.0 ≡ b.0 → a ≡ b
same_drive a b same = λ i. record { 0 = same i }

is_drive : (a b : DriveNo) → (a ≡ b) ⊎ (a ≡ b → ⊥)
is_drive a b = elim (cases_eq a.0 b.0) [ inl same ↦ inl (same_drive a b same) | inr other ↦ inr (λ e. other (ap (λ (d : DriveNo). d.0) e)) ]

-- calls on one drive, as a stretch on a part
on_of_among : {S : Type 0} (shelf : Ghosts S) (old new : S) (drive : DriveNo) → KeptAmong shelf old new (drive ∷ []) → KeptOn shelf old new (OnDrive drive.0)
on_of_among shelf old new drive among = record {
  keeps = among.keeps;
  goes = among.goes;
  in_time = among.in_time (OnDrive drive.0);
  others = λ other differs. among.others other (λ one. differs (one.2 ∙ ap (λ (d : DriveNo). OnDrive d.0) (just one.0 one.1)));
  elsewhere = λ other differs. among.elsewhere other (λ one. differs (one.2 ∙ ap (λ (d : DriveNo). OnDrive d.0) (just one.0 one.1)));
} where
  just : (d : DriveNo) → Contains (drive ∷ []) d → d ≡ drive
  just d has = elim (first_or_behind drive d [] has) [ inl is ↦ sym is | inr none ↦ absurd (omega (arith, none.1)) ]

-- how a drive stands, by whether it was lost before and is
abbrev IsLostAs : Bool → Bool → Failures → Type 0
IsLostAs lost now failed = MatchBool lost ((now ≡ true) × failed.none) (MatchBool now failed.some failed.none)

lost_as : (lost now : Bool) (a b c : ℕ) → c ≡ b → IsLostAs lost now (failures_of a b) → IsLostAs lost now (failures_of a c)
lost_as lost now a b c same is = subst (λ (n : ℕ). IsLostAs lost now (failures_of a n)) (sym same) is

lost_none : (lost : Bool) (a : ℕ) → IsLostAs lost lost (failures_of a a)
lost_none true a = (refl, refl)
lost_none false a = refl

-- one that isn't lost had no failed call
calm_as : (lost now : Bool) (failed : Failures) → now ≡ false → IsLostAs lost now failed → failed.none
calm_as true now failed none is = absurd (no_both now is.0 none)
calm_as false true failed none is = absurd (no_both true refl none)
calm_as false false failed none is = is

-- and then one failed
lost_once : (lost before now : Bool) (a b c : ℕ) → before ≡ false → now ≡ true → RoseOnce b c → IsLostAs lost before (failures_of a b) → IsLostAs lost now (failures_of a c)
lost_once true before now a b c none some rose is = absurd (no_both before is.0 none)
lost_once false before false a b c none some rose is = absurd (no_both false some refl)
lost_once false before true a b c none some rose is = subst (λ (n : ℕ). RoseOnce n c) (calm_as false before (failures_of a b) none is) rose

module _ {S : Type 0} (shelf : Ghosts S) where
  -- A step.
  step_kept : (old new : S) (a : PlaceAt) (lost now : Drives) (wiped : Bool) → IsTried shelf old new a lost now wiped → KeptAmong shelf old new (a.drive ∷ [])
  step_kept old new a lost now true tried = tried.1.kept
  step_kept old new a lost now false (inl past) = subst (λ (s : S). KeptAmong shelf old s (a.drive ∷ [])) (sym past.1) (among_none shelf old (a.drive ∷ []))
  step_kept old new a lost now false (inr failed) = failed.1.kept

  step_moments : (old new : S) (a : PlaceAt) (lost now : Drives) (wiped : Bool) → IsTried shelf old new a lost now wiped → AtEachTale shelf (MayBeWiping a) old new
  step_moments old new a lost now true tried = moments_weaker (AreDoing (Blanks a ∷ [])) (MayBeWiping a) (shelf.tale old) (shelf.tale new) (one_trying a) tried.1.moments
  step_moments old new a lost now false (inl past) = moments_none (MayBeWiping a) (shelf.tale old) (shelf.tale new) (ap shelf.tale past.1) (λ t. inl refl)
  step_moments old new a lost now false (inr failed) = moments_weaker (AreDoing (Blanks a ∷ [])) (MayBeWiping a) (shelf.tale old) (shelf.tale new) (one_trying a) failed.1.moments

  step_made : (old new : S) (a : PlaceAt) (lost now : Drives) (wiped : Bool) → IsTried shelf old new a lost now wiped → MadeCallsBetween shelf old new 0 2 1
  step_made old new a lost now true tried = between_of shelf.calls shelf.written old new 2 1 0 2 1 (omega arith) (omega arith) (omega arith) tried.1.made
  step_made old new a lost now false (inl past) = between_none shelf.calls shelf.written old new 2 1 past.1
  step_made old new a lost now false (inr failed) = between_wider shelf.calls shelf.written old new 1 2 1 0 2 1 (omega arith) (omega arith) (omega arith) failed.1.made

  -- which drives are lost then
  step_stays : (old new : S) (a : PlaceAt) (lost now : Drives) (wiped : Bool) → IsTried shelf old new a lost now wiped → (d : DriveNo) → has_drive lost d ≡ true → has_drive now d ≡ true
  step_stays old new a lost now true tried d is = ap (λ (ds : Drives). has_drive ds d) tried.2 ∙ is
  step_stays old new a lost now false (inl past) d is = ap (λ (ds : Drives). has_drive ds d) past.2 ∙ is
  step_stays old new a lost now false (inr failed) d is = elim (is_drive d a.drive) [
    | inl same ↦ subst (λ (x : DriveNo). has_drive now x ≡ true) (sym same) failed.2.added
    | inr other ↦ failed.2.others d other ∙ is
  ]

  step_lost : (old new : S) (a : PlaceAt) (lost now : Drives) → IsTried shelf old new a lost now false → has_drive now a.drive ≡ true
  step_lost old new a lost now (inl past) = ap (λ (ds : Drives). has_drive ds a.drive) past.2 ∙ past.0
  step_lost old new a lost now (inr failed) = failed.2.added

  -- One step more.
  steps_push : (old mid new : S) (places : List PlaceAt) (lost between now : Drives) (clean : Bool) (a : PlaceAt) (wiped : Bool) → AreTried shelf old mid places lost between clean → IsTried shelf mid new a between now wiped
      → AreTried shelf old new (places ++ a ∷ []) lost now (clean && wiped)
  steps_push old mid new [] lost between now clean a wiped (here, set, is) tried =
      (new, now, wiped, true, subst (λ (s : S). IsTried shelf s new a lost now wiped) here (subst (λ (ds : Drives). IsTried shelf mid new a ds now wiped) set tried), (refl, refl, refl), ap (λ (b : Bool). b && wiped) is ∙ with_true wiped)
  steps_push old mid new (b ∷ rest) lost between now clean a wiped (first, next, here, behind, one, more, is) tried =
      (first, next, here, behind && wiped, one, steps_push first mid new rest next between now behind a wiped more tried, ap (λ (x : Bool). x && wiped) is ∙ joined here behind wiped)

  by_push : (old mid new : S) (lost between now : Drives) (a : PlaceAt) (wiped : Bool) → AreLostBy (DriveFailures shelf old mid) lost between → IsTried shelf mid new a between now wiped → AreLostBy (DriveFailures shelf old new) lost now
  by_push old mid new lost between now a true by tried d =
      subst (λ (ds : Drives). IsLostAs (has_drive lost d) (has_drive ds d) (DriveFailures shelf old new d.0)) (sym tried.2)
      (lost_as (has_drive lost d) (has_drive between d) (shelf.faults old (OnDrive d.0)) (shelf.faults mid (OnDrive d.0)) (shelf.faults new (OnDrive d.0)) (tried.1.calm d.0) (by d))
  by_push old mid new lost between now a false by (inl past) d =
      subst (λ (ds : Drives). IsLostAs (has_drive lost d) (has_drive ds d) (DriveFailures shelf old new d.0)) (sym past.2)
      (lost_as (has_drive lost d) (has_drive between d) (shelf.faults old (OnDrive d.0)) (shelf.faults mid (OnDrive d.0)) (shelf.faults new (OnDrive d.0)) (ap (λ (s : S). shelf.faults s (OnDrive d.0)) past.1) (by d))
  by_push old mid new lost between now a false by (inr failed) d = elim (is_drive d a.drive) [
    | inl same ↦ subst (λ (x : DriveNo). IsLostAs (has_drive lost x) (has_drive now x) (DriveFailures shelf old new x.0)) (sym same)
        (lost_once (has_drive lost a.drive) (has_drive between a.drive) (has_drive now a.drive) (shelf.faults old (OnDrive a.drive.0)) (shelf.faults mid (OnDrive a.drive.0)) (shelf.faults new (OnDrive a.drive.0)) failed.0 failed.2.added
        (subst (λ (x : DriveNo). RoseOnce (shelf.faults mid (OnDrive x.0)) (shelf.faults new (OnDrive x.0))) (one_of_one failed.1.drive failed.1.one_of) failed.1.here) (by a.drive))
    | inr other ↦ subst (λ (b : Bool). IsLostAs (has_drive lost d) b (DriveFailures shelf old new d.0)) (sym (failed.2.others d other))
        (lost_as (has_drive lost d) (has_drive between d) (shelf.faults old (OnDrive d.0)) (shelf.faults mid (OnDrive d.0)) (shelf.faults new (OnDrive d.0)) (failed.1.elsewhere d (λ e. other (e ∙ one_of_one failed.1.drive failed.1.one_of))) (by d))
  ] where
    one_of_one : (x : DriveNo) → Contains (a.drive ∷ []) x → x ≡ a.drive
    one_of_one x has = elim (first_or_behind a.drive x [] has) [ inl is ↦ sym is | inr none ↦ absurd (omega (arith, none.1)) ]

  gone_push : (old mid new : S) (places : List PlaceAt) (a : PlaceAt) → HaveGone shelf old mid (drives_at places) (blanks_at places) → HaveGone shelf mid new (a.drive ∷ []) (Blanks a ∷ [])
      → HaveGone shelf old new (drives_at (places ++ a ∷ [])) (blanks_at (places ++ a ∷ []))
  gone_push old mid new places a first second =
      let all = drives_at places ++ a.drive ∷ [] in
      let one = gone_wider shelf old mid (blanks_at places) (drives_at places) all (λ d has. Contains-append_left (drives_at places) (a.drive ∷ []) d has) first in
      let two = gone_wider shelf mid new (Blanks a ∷ []) (a.drive ∷ []) all (λ d has. Contains-append_right (drives_at places) (a.drive ∷ []) d has) second in
      subst (λ (ds : List DriveNo). HaveGone shelf old new ds (blanks_at (places ++ a ∷ []))) (sym (map-append (λ (b : PlaceAt). b.drive) places (a ∷ [])))
      (subst (λ (acts : List Act). HaveGone shelf old new all acts) (sym (map-append Blanks places (a ∷ []))) (gone_then shelf all (blanks_at places) (Blanks a ∷ []) old mid new one two))

  came_push : (old mid new : S) (places : List PlaceAt) (between now : Drives) (clean : Bool) (a : PlaceAt) (wiped : Bool) → MatchBool clean (HaveGone shelf old mid (drives_at places) (blanks_at places)) (HasOneLost places between)
      → IsTried shelf mid new a between now wiped → MatchBool (clean && wiped) (HaveGone shelf old new (drives_at (places ++ a ∷ [])) (blanks_at (places ++ a ∷ []))) (HasOneLost (places ++ a ∷ []) now)
  came_push old mid new places between now true a true first tried = gone_push old mid new places a first tried.1
  came_push old mid new places between now true a false first tried = (a, Contains-push places a, step_lost mid new a between now tried)
  came_push old mid new places between now false a wiped first tried = (first.0, Contains-append_left places (a ∷ []) first.0 first.1, step_stays mid new a between now wiped tried first.0.drive first.2)

  -- a call on its drive is behind no failed one
  on_drive : (old mid new : S) (places : List PlaceAt) (lost between : Drives) (a : PlaceAt) → KeptAmong shelf old mid (drives_at places) → AreLostBy (DriveFailures shelf old mid) lost between → has_drive between a.drive ≡ false → KeptAmong shelf mid new (a.drive ∷ [])
      → KeptAmong shelf old new (drives_at places ++ a.drive ∷ [])
  on_drive old mid new places lost between a first by free second =
      among_then shelf old mid new (drives_at places ++ a.drive ∷ []) a.drive (Contains-push (drives_at places) a.drive) (calm_as (has_drive lost a.drive) (has_drive between a.drive) (DriveFailures shelf old mid a.drive.0) free (by a.drive))
      (among_wider shelf old mid (drives_at places) (drives_at places ++ a.drive ∷ []) (λ d has. Contains-append_left (drives_at places) (a.drive ∷ []) d has) first) (on_of_among shelf mid new a.drive second)

  kept_push : (old mid new : S) (places : List PlaceAt) (lost between now : Drives) (a : PlaceAt) (wiped : Bool) → KeptAmong shelf old mid (drives_at places) → AreLostBy (DriveFailures shelf old mid) lost between → IsTried shelf mid new a between now wiped
      → KeptAmong shelf old new (drives_at places ++ a.drive ∷ [])
  kept_push old mid new places lost between now a true first by tried = on_drive old mid new places lost between a first by tried.0 tried.1.kept
  kept_push old mid new places lost between now a false first by (inl past) =
      subst (λ (s : S). KeptAmong shelf old s (drives_at places ++ a.drive ∷ [])) (sym past.1)
      (among_wider shelf old mid (drives_at places) (drives_at places ++ a.drive ∷ []) (λ d has. Contains-append_left (drives_at places) (a.drive ∷ []) d has) first)
  kept_push old mid new places lost between now a false first by (inr failed) = on_drive old mid new places lost between a first by failed.0 failed.1.kept

  pub tried_none : (old : S) (lost : Drives) → WereTried shelf old old [] lost lost true
  tried_none old lost = record {
    steps = (refl, refl, refl);
    moments = moments_none (AreTrying []) (shelf.tale old) (shelf.tale old) refl (λ t. refl);
    came = gone_none shelf old [];
    by = λ d. lost_none (has_drive lost d) (shelf.faults old (OnDrive d.0));
    made = between_none shelf.calls shelf.written old old 0 0 refl;
    kept = among_none shelf old [];
  }

  pub tried_push : (old mid new : S) (places : List PlaceAt) (lost between now : Drives) (clean : Bool) (a : PlaceAt) (wiped : Bool) → WereTried shelf old mid places lost between clean → IsTried shelf mid new a between now wiped
      → WereTried shelf old new (places ++ a ∷ []) lost now (clean && wiped)
  tried_push old mid new places lost between now clean a wiped first tried =
      let n = length places in
      let more : length (places ++ a ∷ []) ≡ n + 1 = length_push places a in
      record {
        steps = steps_push old mid new places lost between now clean a wiped first.steps tried;
        moments = moments_more (AreTrying places) (MayBeWiping a) (AreTrying (places ++ a ∷ [])) (shelf.tale old) (shelf.tale mid) (shelf.tale new) (λ t m is. trying_front places a t m is) (λ t u m is next. trying_behind places a t u m is next)
            first.moments (step_moments mid new a between now wiped tried);
        came = came_push old mid new places between now clean a wiped first.came tried;
        by = by_push old mid new lost between now a wiped first.by tried;
        made = between_then shelf.calls shelf.written old mid new 0 (2 * n) n 0 2 1 0 (2 * length (places ++ a ∷ [])) (length (places ++ a ∷ [])) (omega arith) (omega (arith, more)) (omega (arith, more)) first.made (step_made mid new a between now wiped tried);
        kept = subst (λ (ds : List DriveNo). KeptAmong shelf old new ds) (sym (map-append (λ (b : PlaceAt). b.drive) places (a ∷ []))) (kept_push old mid new places lost between now a wiped first.kept first.by tried);
      }

  -- of places of the table of drives
  module _ (g : Geometry) where
    pub wiped_none : (old : S) (lost : Drives) → WereWiped shelf g old old [] lost lost true
    wiped_none old lost = record { at = []; found = tt; tried = tried_none old lost }

    pub wiped_push : (old mid new : S) (places : List Place) (lost between now : Drives) (clean : Bool) (p : Place) (wiped : Bool) → WereWiped shelf g old mid places lost between clean → IsWipedAt shelf g mid new p between now wiped
        → WereWiped shelf g old new (places ++ p ∷ []) lost now (clean && wiped)
    wiped_push old mid new places lost between now clean p wiped first one = record {
      at = first.at ++ one.0 ∷ [];
      found = found_push g places first.at p one.0 first.found one.1;
      tried = tried_push old mid new first.at lost between now clean one.0 wiped first.tried one.2;
    }

-- what a loop over places reads past their end
abbrev pub no_place : Place
no_place = record { slice = record { drive = record { controller = 0; target = 0; disk = 0 }; slice = 0 }; start = 0; blocks = 0 }
