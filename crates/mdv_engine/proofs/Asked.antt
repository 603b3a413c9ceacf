-- A command's calls stay on the drives of what is asked: no giving of replies is among them, and none is made behind one that failed.
use Rattle.std.proofs.Common.{◌≡◌, ◌≢◌, ◌⊎◌, inl, inr, ℕ, List, [], sym, subst}
use Rattle.mdv_base.specs.declared.drive.DriveNo.{DriveNo}
use Rattle.mdv_shelf.specs.Calls.{OnReplies, Part}
use Rattle.mdv_shelf.specs.Drives.{IsAmong, KeptAmong}
use Rattle.mdv_shelf.specs.Shelves.{GoesOn, KeptInTime, KeptOn}
use Rattle.mdv_shelf.specs.Story.{InTime}
use Rattle.mdv_shelf.specs.declared.shelf.Shelf.{Ghosts}
use Rattle.mdv_shelf.proofs.InTime.{in_time_more, is_part}
use Rattle.mdv_shelf.proofs.Noted.{goes_on_more, keeps_more}
use Rattle.mdv_dev.specs.Drives.{IsDriveOf}
use Rattle.mdv_words.specs.declared.command.Command.TheVariants.{Print}
use Rattle.mdv_engine.specs.Below.{Command, AddListed, AddPlaces, Alter, DropPlaces, Host, KeptOnDrives, Map, Memory, Read, Write}
use Rattle.mdv_engine.specs.Ends.{KeptAsAsked}

no_replies : (drives : List DriveNo) → IsAmong drives OnReplies → ⊥
no_replies drives among = absurd (let is = among.2 in cc (is))

no_reply : (v : Map) (at count : ℕ) → IsDriveOf v at count OnReplies → ⊥
no_reply v at count of = absurd (let is = of.2 in cc (is))

-- a reply behind calls on drives
module _ {S : Type 0} (shelf : Ghosts S) (a b c : S) (first : KeptInTime shelf a b) (unfailed : shelf.faults b OnReplies ≡ shelf.faults a OnReplies) (second : KeptOn shelf b c OnReplies) where
  each : (part : Part) → (part ≡ OnReplies) ⊎ (part ≢ OnReplies) → InTime part (shelf.faults a part) (shelf.story a) (shelf.story c)
  each part (inl same) =
      subst (λ (p : Part). InTime p (shelf.faults a p) (shelf.story a) (shelf.story c)) (sym same)
      (in_time_more OnReplies (shelf.faults a OnReplies) (shelf.story a) (shelf.story b) (shelf.story c) (first.in_time OnReplies) (subst (λ (n : ℕ). InTime OnReplies n (shelf.story b) (shelf.story c)) unfailed second.in_time))
  each part (inr differs) = in_time_more part (shelf.faults a part) (shelf.story a) (shelf.story b) (shelf.story c) (first.in_time part) (second.elsewhere part differs (shelf.faults a part))

  then_replied : KeptInTime shelf a c
  then_replied = record { keeps = keeps_more shelf a b c first.keeps second.keeps; goes = goes_on_more shelf a b c first.goes second.goes; in_time = λ part. each part (is_part part OnReplies) }

module _ {S : Type 0} (shelf : Ghosts S) (a b c : S) where
  among_then_replied : (drives : List DriveNo) → KeptAmong shelf a b drives → KeptOn shelf b c OnReplies → KeptInTime shelf a c
  among_then_replied drives kept = then_replied shelf a b c (record { keeps = kept.keeps; goes = kept.goes; in_time = kept.in_time }) (kept.others OnReplies (no_replies drives))

  on_then_replied : (v : Map) (at count : ℕ) → KeptOnDrives shelf a b v at count → KeptOn shelf b c OnReplies → KeptInTime shelf a c
  on_then_replied v at count kept = then_replied shelf a b c (record { keeps = kept.keeps; goes = kept.goes; in_time = kept.in_time }) (kept.others OnReplies (no_reply v at count))

module _ {S : Type 0} (shelf : Ghosts S) (host : Host) (memory : Memory) where
  pub asked_goes : (a b : S) (command : Command) → KeptAsAsked shelf a b host memory command → GoesOn shelf a b
  asked_goes a b (AddPlaces slices force count blocks) kept = kept.goes
  asked_goes a b (AddListed number force) kept = kept.goes
  asked_goes a b (DropPlaces slices force) kept = kept.goes
  asked_goes a b (Alter alteration) kept = kept.goes
  asked_goes a b (Read volume at count) kept = kept.goes
  asked_goes a b (Write volume at what) kept = kept.goes
  asked_goes a b (Print names) kept = kept.goes

  pub asked_replies : (a b : S) (command : Command) → KeptAsAsked shelf a b host memory command → shelf.faults b OnReplies ≡ shelf.faults a OnReplies
  asked_replies a b (AddPlaces slices force count blocks) kept = kept.others OnReplies (no_replies _)
  asked_replies a b (AddListed number force) kept = kept.others OnReplies (no_replies [])
  asked_replies a b (DropPlaces slices force) kept = kept.others OnReplies (no_replies _)
  asked_replies a b (Alter alteration) kept = kept.others OnReplies (no_replies _)
  asked_replies a b (Read volume at count) kept = kept.others OnReplies (no_reply _ _ _)
  asked_replies a b (Write volume at what) kept = kept.others OnReplies (no_reply _ _ _)
  asked_replies a b (Print names) kept = kept.others OnReplies (no_replies [])

  pub asked_then : (a b c : S) (command : Command) → KeptAsAsked shelf a b host memory command → KeptOn shelf b c OnReplies → KeptInTime shelf a c
  asked_then a b c (AddPlaces slices force count blocks) kept replied = among_then_replied shelf a b c _ kept replied
  asked_then a b c (AddListed number force) kept replied = among_then_replied shelf a b c _ kept replied
  asked_then a b c (DropPlaces slices force) kept replied = among_then_replied shelf a b c _ kept replied
  asked_then a b c (Alter alteration) kept replied = among_then_replied shelf a b c _ kept replied
  asked_then a b c (Read volume at count) kept replied = on_then_replied shelf a b c _ _ _ kept replied
  asked_then a b c (Write volume at what) kept replied = on_then_replied shelf a b c _ _ _ kept replied
  asked_then a b c (Print names) kept replied = among_then_replied shelf a b c _ kept replied
