-- Stretches of calls on some drives, one after another.
use Rattle.std.proofs.Common.{◌≡◌, ◌⊎◌, inl, inr, ℕ, Bool, true, false, refl, sym, ◌∙◌, subst, arith}
use Rattle.mdv_shelf.specs.Calls.{Part, OnDrive, OnReplies}
use Rattle.mdv_shelf.specs.Made.{tally_of}
use Rattle.mdv_shelf.specs.Story.{InTime}
use Rattle.mdv_shelf.specs.Shelves.{DriveFailures, KeptOn}
use Rattle.mdv_shelf.specs.declared.shelf.Shelf.{Ghosts}
use Rattle.mdv_shelf.proofs.Blocks.{both_ways}
use Rattle.mdv_shelf.proofs.InTime.{in_time_more, in_time_none, in_time_of_on}
use Rattle.mdv_shelf.proofs.Noted.{goes_on_more, keeps_more}
use Rattle.mdv_shelf.proofs.Stories.{each_none}
use Rattle.mdv_map.proofs.Covering.{true_false}
use Rattle.mdv_dev.specs.Below.{AreCalm, Map}
use Rattle.mdv_dev.specs.Drives.{IsDriveWhere, KeptOnDrives, KeptWhere}
use Rattle.mdv_dev.specs.Pieces.{has_drive}

pub one_number : (a b : ℕ) → OnDrive a ≡ OnDrive b → a ≡ b
one_number a b same = cc (same)

-- the replies are no drive
no_reply : (passes : ℕ → Bool) → IsDriveWhere passes OnReplies → ⊥
no_reply passes is = let same = is.2 in cc (same)

-- a drive is one of them where it passes
passing : (passes : ℕ → Bool) (drive : ℕ) → IsDriveWhere passes (OnDrive drive) → passes drive ≡ true
passing passes drive is = subst (λ (d : ℕ). passes d ≡ true) (sym (one_number drive is.0 is.2)) is.1

pub not_passing : (passes : ℕ → Bool) (drive : ℕ) → passes drive ≡ false → IsDriveWhere passes (OnDrive drive) → ⊥
not_passing passes drive fails is = true_false (passes drive) (passing passes drive is) fails

is_where : (passes : ℕ → Bool) (part : Part) → IsDriveWhere passes part ⊎ (IsDriveWhere passes part → ⊥)
is_where passes OnReplies = inr (no_reply passes)
is_where passes (OnDrive drive) = elim (both_ways (passes drive)) [
  | inl does ↦ inl (drive, does, refl)
  | inr not ↦ inr (not_passing passes drive not)
]

-- no call
pub where_none : {S : Type 0} (shelf : Ghosts S) (a : S) (passes : ℕ → Bool) → KeptWhere shelf a a passes
where_none shelf a passes = record {
  keeps = record { same_sizes = refl; same_rest = refl; same_held = refl; no_fewer_faults = λ part. omega arith };
  goes = each_none (λ _ _. Unit {0}) (shelf.story a) (tally_of shelf a) (shelf.story a) (tally_of shelf a) refl (λ part. omega arith) (λ t. tt) (λ t. tt);
  in_time = λ part. in_time_none part (shelf.faults a part) (shelf.story a) (shelf.story a) refl;
  others = λ other out. refl;
  elsewhere = λ other out n. in_time_none other n (shelf.story a) (shelf.story a) refl;
}

-- calls on one drive that passes
pub where_on : {S : Type 0} (shelf : Ghosts S) (a b : S) (passes : ℕ → Bool) (drive : ℕ) → passes drive ≡ true → KeptOn shelf a b (OnDrive drive) → KeptWhere shelf a b passes
where_on shelf a b passes drive does on = record {
  keeps = on.keeps;
  goes = on.goes;
  in_time = (in_time_of_on shelf a b (OnDrive drive) on).in_time;
  others = λ other out. on.others other (λ same. out (drive, does, same));
  elsewhere = λ other out. on.elsewhere other (λ same. out (drive, does, same));
}

-- calls on some drives, on which none failed before, behind calls on others
module _ {S : Type 0} (shelf : Ghosts S) (a b c : S) (before behind all : ℕ → Bool) (one : (drive : ℕ) → before drive ≡ true → all drive ≡ true) (other : (drive : ℕ) → behind drive ≡ true → all drive ≡ true)
    (calm : (drive : ℕ) → behind drive ≡ true → (DriveFailures shelf a b drive).none) (first : KeptWhere shelf a b before) (second : KeptWhere shelf b c behind) where
  in_time_then : (part : Part) → IsDriveWhere behind part ⊎ (IsDriveWhere behind part → ⊥) → InTime part (shelf.faults a part) (shelf.story a) (shelf.story c)
  in_time_then part (inl (drive, does, same)) =
      subst (λ (p : Part). InTime p (shelf.faults a p) (shelf.story a) (shelf.story c)) (sym same)
      (in_time_more (OnDrive drive) (shelf.faults a (OnDrive drive)) (shelf.story a) (shelf.story b) (shelf.story c) (first.in_time (OnDrive drive))
      (subst (λ (n : ℕ). InTime (OnDrive drive) n (shelf.story b) (shelf.story c)) (calm drive does) (second.in_time (OnDrive drive))))
  in_time_then part (inr out) =
      in_time_more part (shelf.faults a part) (shelf.story a) (shelf.story b) (shelf.story c) (first.in_time part) (second.elsewhere part out (shelf.faults a part))

  in_first : (part : Part) → (IsDriveWhere all part → ⊥) → IsDriveWhere before part → ⊥
  in_first part out is = out (is.0, one is.0 is.1, is.2)

  in_second : (part : Part) → (IsDriveWhere all part → ⊥) → IsDriveWhere behind part → ⊥
  in_second part out is = out (is.0, other is.0 is.1, is.2)

  pub where_then : KeptWhere shelf a c all
  where_then = record {
    keeps = keeps_more shelf a b c first.keeps second.keeps;
    goes = goes_on_more shelf a b c first.goes second.goes;
    in_time = λ part. in_time_then part (is_where behind part);
    others = λ part out. second.others part (in_second part out) ∙ first.others part (in_first part out);
    elsewhere = λ part out n. in_time_more part n (shelf.story a) (shelf.story b) (shelf.story c) (first.elsewhere part (in_first part out) n) (second.elsewhere part (in_second part out) n);
  }

-- calls of a request behind others of it of which none failed
pub drives_more : {S : Type 0} (shelf : Ghosts S) (a b : S) (v : Map) (at count : ℕ) → AreCalm (DriveFailures shelf a b) → KeptOnDrives shelf a b v at count → (c : S) → KeptOnDrives shelf b c v at count → KeptOnDrives shelf a c v at count
drives_more shelf a b v at count calm kept c more = where_then shelf a b c (has_drive v at count) (has_drive v at count) (has_drive v at count) (λ drive is. is) (λ drive is. is) (λ drive is. calm drive) kept more
