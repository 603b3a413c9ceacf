-- Stretches of calls on several drives.
use Rattle.std.proofs.Common.{◌≡◌, ◌≢◌, ◌⊎◌, inl, inr, ℕ, List, Contains, refl, sym, ◌∙◌, subst, arith}
use Rattle.mdv_base.specs.declared.drive.DriveNo.{DriveNo}
use Rattle.mdv_shelf.specs.Calls.{Part, OnDrive}
use Rattle.mdv_shelf.specs.Made.{tally_of}
use Rattle.mdv_shelf.specs.Story.{InTime}
use Rattle.mdv_shelf.specs.Shelves.{Kept, KeptInTime, KeptOn}
use Rattle.mdv_shelf.specs.Drives.{IsAmong, KeptAmong}
use Rattle.mdv_shelf.specs.declared.shelf.Shelf.{Ghosts}
use Rattle.mdv_shelf.proofs.InTime.{in_time_none, in_time_more, is_part}
use Rattle.mdv_shelf.proofs.Noted.{goes_on_more, keeps_more}
use Rattle.mdv_shelf.proofs.Stories.{each_none}

-- no call
pub among_none : {S : Type 0} (shelf : Ghosts S) (a : S) (drives : List DriveNo) → KeptAmong shelf a a drives
among_none shelf a drives = record {
  keeps = record { same_sizes = refl; same_rest = refl; same_held = refl; no_fewer_faults = λ part. omega arith };
  goes = each_none (λ _ _. Unit {0}) (shelf.story a) (tally_of shelf a) (shelf.story a) (tally_of shelf a) refl (λ part. omega arith) (λ t. tt) (λ t. tt);
  in_time = λ part. in_time_none part (shelf.faults a part) (shelf.story a) (shelf.story a) refl;
  others = λ other out. refl;
  elsewhere = λ other out count. in_time_none other count (shelf.story a) (shelf.story a) refl;
}

-- of more drives
pub among_wider : {S : Type 0} (shelf : Ghosts S) (a b : S) (small large : List DriveNo) → ((drive : DriveNo) → Contains small drive → Contains large drive) → KeptAmong shelf a b small → KeptAmong shelf a b large
among_wider shelf a b small large within among = record {
  keeps = among.keeps;
  goes = among.goes;
  in_time = among.in_time;
  others = λ other out. among.others other (λ one. out (one.0, within one.0 one.1, one.2));
  elsewhere = λ other out. among.elsewhere other (λ one. out (one.0, within one.0 one.1, one.2));
}

-- calls on one of the drives behind a stretch in which none on it failed
module _ {S : Type 0} (shelf : Ghosts S) (a b c : S) (drives : List DriveNo) (drive : DriveNo) (one_of : Contains drives drive) (calm : shelf.faults b (OnDrive drive.0) ≡ shelf.faults a (OnDrive drive.0)) where
  outside : (other : Part) → (IsAmong drives other → ⊥) → other ≢ OnDrive drive.0
  outside other out same = out (drive, one_of, same)

  in_time_on : KeptAmong shelf a b drives → KeptOn shelf b c (OnDrive drive.0) → (part : Part) → (part ≡ OnDrive drive.0) ⊎ (part ≢ OnDrive drive.0) → InTime part (shelf.faults a part) (shelf.story a) (shelf.story c)
  in_time_on first second part (inl same) =
      subst (λ (p : Part). InTime p (shelf.faults a p) (shelf.story a) (shelf.story c)) (sym same)
      (in_time_more (OnDrive drive.0) (shelf.faults a (OnDrive drive.0)) (shelf.story a) (shelf.story b) (shelf.story c) (first.in_time (OnDrive drive.0))
      (subst (λ (n : ℕ). InTime (OnDrive drive.0) n (shelf.story b) (shelf.story c)) calm second.in_time))
  in_time_on first second part (inr differs) =
      in_time_more part (shelf.faults a part) (shelf.story a) (shelf.story b) (shelf.story c) (first.in_time part) (second.elsewhere part differs (shelf.faults a part))

  pub among_then : KeptAmong shelf a b drives → KeptOn shelf b c (OnDrive drive.0) → KeptAmong shelf a c drives
  among_then first second = record {
    keeps = keeps_more shelf a b c first.keeps second.keeps;
    goes = goes_on_more shelf a b c first.goes second.goes;
    in_time = λ part. in_time_on first second part (is_part part (OnDrive drive.0));
    others = λ other out. second.others other (outside other out) ∙ first.others other out;
    elsewhere = λ other out count. in_time_more other count (shelf.story a) (shelf.story b) (shelf.story c) (first.elsewhere other out count) (second.elsewhere other (outside other out) count);
  }

-- such a stretch stops at failures
pub in_time_of_among : {S : Type 0} {shelf : Ghosts S} {a b : S} {drives : List DriveNo} → KeptAmong shelf a b drives → KeptInTime shelf a b
in_time_of_among {S} {shelf} {a} {b} {drives} among = record { keeps = among.keeps; goes = among.goes; in_time = among.in_time }

pub kept_of_among : {S : Type 0} {shelf : Ghosts S} {a b : S} {drives : List DriveNo} → KeptAmong shelf a b drives → Kept shelf a b
kept_of_among {S} {shelf} {a} {b} {drives} among = record { keeps = among.keeps; goes = among.goes }
