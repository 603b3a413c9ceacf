-- What a stretch keeps whose calls stop at a failure.
use Rattle.std.proofs.Common.{◌≡◌, ◌≢◌, ◌⊎◌, inl, inr, ℕ, List, refl, sym, subst}
use Rattle.mdv_base.specs.declared.drive.DriveNo.{DriveNo}
use Rattle.mdv_shelf.specs.Calls.{Part, OnReplies}
use Rattle.mdv_shelf.specs.Drives.{IsAmong, KeptAmong}
use Rattle.mdv_shelf.specs.Shelves.{Kept, KeptInTime, KeptOn}
use Rattle.mdv_shelf.specs.Story.{InTime}
use Rattle.mdv_shelf.specs.declared.shelf.Shelf.{Ghosts}
use Rattle.mdv_shelf.proofs.InTime.{in_time_more, in_time_none, is_part}
use Rattle.mdv_shelf.proofs.Noted.{goes_on_more, keeps_more}
use Rattle.mdv_engine_law.proofs.Kept.{kept_itself}

-- it keeps what calls keep
pub kept_of_time : {S : Type 0} {shelf : Ghosts S} {a b : S} → KeptInTime shelf a b → Kept shelf a b
kept_of_time {S} {shelf} {a} {b} stretch = record { keeps = stretch.keeps; goes = stretch.goes }

-- one of no calls
pub in_time_itself : {S : Type 0} (shelf : Ghosts S) (s : S) → KeptInTime shelf s s
in_time_itself shelf s = record {
  keeps = (kept_itself shelf s).keeps;
  goes = (kept_itself shelf s).goes;
  in_time = λ part. in_time_none part (shelf.faults s part) (shelf.story s) (shelf.story s) refl;
}

-- the giving of replies is no drive's call
pub replies_apart : (drives : List DriveNo) → IsAmong drives OnReplies → ⊥
replies_apart drives among = absurd (cc (among.2))

-- calls on some drives, and then the giving of a reply
module _ {S : Type 0} {shelf : Ghosts S} {a b c : S} {drives : List DriveNo} (first : KeptAmong shelf a b drives) (second : KeptOn shelf b c OnReplies) where
  reply_in_time : (part : Part) → (part ≡ OnReplies) ⊎ (part ≢ OnReplies) → InTime part (shelf.faults a part) (shelf.story a) (shelf.story c)
  reply_in_time part (inl same) =
      subst (λ (p : Part). InTime p (shelf.faults a p) (shelf.story a) (shelf.story c)) (sym same)
      (in_time_more OnReplies (shelf.faults a OnReplies) (shelf.story a) (shelf.story b) (shelf.story c) (first.elsewhere OnReplies (replies_apart drives) (shelf.faults a OnReplies))
      (subst (λ (n : ℕ). InTime OnReplies n (shelf.story b) (shelf.story c)) (first.others OnReplies (replies_apart drives)) second.in_time))
  reply_in_time part (inr differs) = in_time_more part (shelf.faults a part) (shelf.story a) (shelf.story b) (shelf.story c) (first.in_time part) (second.elsewhere part differs (shelf.faults a part))

  pub in_time_replied : KeptInTime shelf a c
  in_time_replied = record {
    keeps = keeps_more shelf a b c first.keeps second.keeps;
    goes = goes_on_more shelf a b c first.goes second.goes;
    in_time = λ part. reply_in_time part (is_part part OnReplies);
  }
