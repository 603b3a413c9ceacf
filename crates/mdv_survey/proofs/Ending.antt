-- Reads on one drive, of which none failed, or the last.
use Rattle.std.proofs.Common.{◌⊎◌, inl, inr, ℕ, ◌+◌, refl, ◌∙◌, arith}
use Rattle.mdv_shelf.specs.Calls.{Part, OnDrive}
use Rattle.mdv_shelf.specs.Made.{tally_of}
use Rattle.mdv_shelf.specs.Shelves.{DriveFailures, KeptOn, MadeCalls}
use Rattle.mdv_shelf.proofs.InTime.{in_time_none, kept_on_more}
use Rattle.mdv_shelf.proofs.Stories.{each_none}
use Rattle.mdv_survey.specs.Below.{Ghosts}
use Rattle.mdv_survey.specs.Counts.{FailedAtLast, MadeReads, ReadOn}
use Rattle.mdv_survey.proofs.Counting.{reads_more}

-- no call on a drive
pub kept_none : {S : Type 0} (shelf : Ghosts S) (a : S) (part : Part) → KeptOn shelf a a part
kept_none shelf a part = record {
  keeps = record { same_sizes = refl; same_rest = refl; same_held = refl; no_fewer_faults = λ other. omega arith };
  goes = each_none (λ _ _. Unit {0}) (shelf.story a) (tally_of shelf a) (shelf.story a) (tally_of shelf a) refl (λ other. omega arith) (λ t. tt) (λ t. tt);
  in_time = in_time_none part (shelf.faults a part) (shelf.story a) (shelf.story a) refl;
  others = λ other differs. refl;
  elsewhere = λ other differs count. in_time_none other count (shelf.story a) (shelf.story a) refl;
}

module _ {S : Type 0} (shelf : Ghosts S) where
  pub read_on_none : (a : S) (drive : ℕ) → ReadOn shelf a a drive
  read_on_none a drive = record { kept = kept_none shelf a (OnDrive drive); ended = inl refl }

  -- one call that was answered, or failed
  pub read_on_calm : (a b : S) (drive : ℕ) → KeptOn shelf a b (OnDrive drive) → (DriveFailures shelf a b drive).none → ReadOn shelf a b drive
  read_on_calm a b drive kept calm = record { kept = kept; ended = inl calm }

  pub read_on_failed : (a b : S) (drive : ℕ) → KeptOn shelf a b (OnDrive drive) → MadeCalls shelf a b 1 0 → (DriveFailures shelf a b drive).some → ReadOn shelf a b drive
  read_on_failed a b drive kept made failed = record { kept = kept; ended = inr (record { failing = a; calls = 0; before = refl; calm = refl; made = made; failed = failed }) }

  ended_more : (a b c : S) (drive j : ℕ) → MadeReads shelf a b j → (DriveFailures shelf a b drive).none → (DriveFailures shelf b c drive).none ⊎ FailedAtLast shelf b c drive → (DriveFailures shelf a c drive).none ⊎ FailedAtLast shelf a c drive
  ended_more a b c drive j made calm (inl none) = inl (none ∙ calm)
  ended_more a b c drive j made calm (inr last) = inr (record {
    failing = last.failing;
    calls = j + last.calls;
    before = reads_more shelf a b last.failing j last.calls (j + last.calls) refl made last.before;
    calm = last.calm ∙ calm;
    made = last.made;
    failed = last.failed;
  })

  -- reads behind those of which none failed
  pub read_on_more : (a b c : S) (drive j : ℕ) → MadeReads shelf a b j → (DriveFailures shelf a b drive).none → ReadOn shelf a b drive → ReadOn shelf b c drive → ReadOn shelf a c drive
  read_on_more a b c drive j made calm first second = record { kept = kept_on_more calm first.kept second.kept; ended = ended_more a b c drive j made calm second.ended }
