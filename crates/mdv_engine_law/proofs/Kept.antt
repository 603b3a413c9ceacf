-- What a stretch of no calls keeps, and that a giving of replies changes no other count.
use Rattle.std.proofs.Common.{◌≡◌, ◌≢◌, ◌⊎◌, inl, ℕ, [], Some, refl, arith}
use Rattle.mdv_shelf.specs.Calls.{Part, OnDrive, OnReplies}
use Rattle.mdv_shelf.specs.Made.{effort_of}
use Rattle.mdv_shelf.specs.Shelves.{IsOneCall, Kept, KeptOn}
use Rattle.mdv_shelf.specs.declared.shelf.Shelf.{Ghosts}
use Rattle.mdv_shelf.proofs.InTime.{in_time_none}
use Rattle.mdv_shelf.proofs.Stories.{each_none}

pub kept_itself : {S : Type 0} (shelf : Ghosts S) (s : S) → Kept shelf s s
kept_itself shelf s = record {
  keeps = record { same_sizes = refl; same_rest = refl; same_held = refl; no_fewer_faults = λ part. omega arith };
  goes = λ story is. (story, is, record { marks = []; led = refl; rising = λ part. omega arith; first = tt; each = tt; last = tt });
}

-- it is one on any part
pub kept_on_itself : {S : Type 0} (shelf : Ghosts S) (s : S) (part : Part) → KeptOn shelf s s part
kept_on_itself shelf s part = record {
  keeps = (kept_itself shelf s).keeps;
  goes = (kept_itself shelf s).goes;
  in_time = in_time_none part (shelf.faults s part) (shelf.story s) (shelf.story s) refl;
  others = λ other differs. refl;
  elsewhere = λ other differs count. in_time_none other count (shelf.story s) (shelf.story s) refl;
}

-- and one of one call at most
pub one_call_itself : {S : Type 0} (shelf : Ghosts S) (s : S) → IsOneCall shelf s s
one_call_itself shelf s = each_none (λ t m. (m.effort ≡ effort_of shelf s) ⊎ (Some m.tale ≡ shelf.tale s)) _ _ _ _ refl (λ part. omega arith) (λ x. inl refl) (λ x. inl refl)

-- where no drive's count changed, none but the replies' did
pub replies_alone : (before now : Part → ℕ) → ((drive : ℕ) → now (OnDrive drive) ≡ before (OnDrive drive)) → (other : Part) → other ≢ OnReplies → now other ≡ before other
replies_alone before now drives (OnDrive drive) differs = drives drive
replies_alone before now drives OnReplies differs = absurd (differs refl)
