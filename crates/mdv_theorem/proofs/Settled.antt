-- A drive that the last boot brought up is steady as long as no call fails on it: so a crash leaves of a block of a volume there what a read gives.
use Rattle.std.proofs.Common.{◌≡◌, inl, inr, ℕ, zero, suc, ◌&&◌, ◌||◌, Bool, true, false, not, List, Contains, MatchOption, Option, Some, None, replicate, slice_index_or, refl, sym, ◌∙◌, ap, subst}
use Rattle.std.specs.Bool.{MatchBool}
use Rattle.mdv_base.specs.DriveSet.{Drives, has_drive}
use Rattle.mdv_base.specs.declared.drive.DriveNo.{DriveNo}
use Rattle.mdv_engine_law.specs.Answers.{accepted}
use Rattle.mdv_engine_law.specs.Commands as came
use Rattle.mdv_engine_law.specs.Commands.{CameTo, ComesTo, Effect, Fault, KeepsTab, Wanting}
use Rattle.mdv_engine_law.specs.Hosts.{lines_asked}
use Rattle.mdv_engine_law.specs.Line.{IsCreated, IsRebooted, IsUnbegun, IsUncreated, Kept, Memory, Stays, answered_by, booted_with, is_in, opened_by}
use Rattle.mdv_engine_law.specs.Moves.{HasMovedOn, IsDeletedOn, IsUndeletedOn, IsUnmovedOn}
use Rattle.mdv_engine_law.specs.Places.{are_all}
use Rattle.mdv_engine_law.specs.Standing.{IsKnown, is_steady}
use Rattle.mdv_engine_law.specs.declared.answer.Answer.{Answer}
use Rattle.mdv_engine_law.specs.declared.host.Host.{Host}
use Rattle.mdv_engine_law.proofs.Knowing.{same_steady}
use Rattle.mdv_layout_law.specs.Laid.{plain_area}
use Rattle.mdv_places.specs.Asked.{Adds, Drops}
use Rattle.mdv_run_law.specs.Run.{IsAnswered, IsSaid}
use Rattle.mdv_shelf.proofs.Blocks.{both_ways}
use Rattle.mdv_shelf.specs.Failing.{Outcomes}
use Rattle.mdv_shelf.specs.Tale.{MayLeave, Tale, last}
use Rattle.mdv_store.specs.Boot.{is_memory}
use Rattle.mdv_store.specs.Opened.{Opened}
use Rattle.mdv_store.specs.declared.booting.BootEnd.TheVariants as ending
use Rattle.mdv_store.specs.declared.booting.BootEnd.{BootEnd}
use Rattle.mdv_volumes.specs.History.{History}
use Rattle.mdv_words.specs.Line as words
use Rattle.mdv_words.specs.Line.{Line}
use Rattle.mdv_words.specs.Listed.{meant}
use Rattle.mdv_words.specs.declared.command.Command.{Command}
use Rattle.mdv_words.specs.declared.command.Command.TheVariants.{AddListed, AddPlaces, Alter, DropPlaces, Print, Read, Write}

none_among : (n k : ℕ) → slice_index_or (replicate n false) k false ≡ false
none_among zero k = refl
none_among (suc n) zero = refl
none_among (suc n) (suc k) = none_among n k

-- a crash leaves what a read gives
abbrev pub IsSettledAt : ℕ → ℕ → Tale → Type 0
IsSettledAt drive b u = (x : List ℕ) → MayLeave u drive b x → x ≡ last u drive b

-- so it is of a block of a slice for volumes on a steady drive
pub steady_settled : (host : Host) (memory : Memory) (h : History) (t : Tale) (drive b : ℕ) → IsKnown host memory h t → is_steady memory drive ≡ true → plain_area host.drives drive b ≡ true → IsSettledAt drive b t
steady_settled host memory h t drive b known steady plain = known.knows.steady drive b steady plain

module _ (host : Host) (drive : DriveNo) (own : Contains host.site.drives drive) (calls : Outcomes) (calm : (calls drive.0).some → ⊥) (answer : Answer) (kept next : Kept) (said : IsSaid answer) where
  abbrev Steady : Kept → Type 0
  Steady k = is_steady k.memory drive.0 ≡ true

  -- a boot that was answered
  up_steady : (opened : Option Opened) (up : Drives) (clean : Bool) (begun : ℕ) → next.memory ≡ booted_with opened up clean begun → (has_drive up drive ≡ false → (calls drive.0).some) → Steady next
  up_steady opened up clean begun memory down = subst (λ (m : Memory). is_steady m drive.0 ≡ true) (sym memory) (elim (both_ways (has_drive up drive)) [
    | inl does ↦ (λ i. does i && not (none_among 256 drive.0 i))
    | inr never ↦ absurd (calm (down never))
  ])

  pub boot_steady : IsRebooted calls host kept answer next → Steady next
  boot_steady r = by r.end r.answer_is r.memory r.up_by.down where
    by : (e : BootEnd) → answer ≡ answered_by e → (answer ≡ accepted → next.memory ≡ booted_with (opened_by e) r.up r.clean kept.memory.begun) → (is_memory e ≡ false → (d : DriveNo) → Contains host.site.drives d → has_drive r.up d ≡ false → (calls d.0).some) → Steady next
    by (ending.Adopted o) is memory down = up_steady (Some o) r.up r.clean kept.memory.begun (memory is) (down refl drive own)
    by ending.Empty is memory down = up_steady None r.up r.clean kept.memory.begun (memory is) (down refl drive own)
    by (ending.TwoDatabases a b) is memory down = absurd (let never : ⊥ = subst IsSaid is said in never)
    by (ending.NoQuorum readable needed) is memory down = absurd (let never : ⊥ = subst IsSaid is said in never)
    by (ending.Lost active listed) is memory down = absurd (let never : ⊥ = subst IsSaid is said in never)
    by ending.Spent is memory down = absurd (let never : ⊥ = subst IsSaid is said in never)
    by ending.Memory is memory down = absurd (let never : ⊥ = subst IsSaid is said in never)

  module _ (was : Steady kept) where
    -- memory has the same drives
    kept_on : (m : Memory) → next.memory ≡ m → m.up ≡ kept.memory.up → m.unsteady ≡ kept.memory.unsteady → Steady next
    kept_on m memory up unsteady = same_steady kept.memory next.memory (ap (λ (x : Memory). x.up) memory ∙ up) (ap (λ (x : Memory). x.unsteady) memory ∙ unsteady) drive.0 ∙ was

    all_on : next.memory ≡ kept.memory → Steady next
    all_on memory = kept_on kept.memory memory refl refl

    more_done : (opened : Option Opened) (slices : _) (count blocks : ℕ)
        → MatchOption opened (IsCreated calls host (lines_asked host slices) count blocks kept next) (λ o. HasMovedOn calls host o (Adds (lines_asked host slices) count blocks) kept next) → Steady next
    more_done None slices count blocks is = kept_on _ is.memory refl refl
    more_done (Some o) slices count blocks (clean, is) = kept_on _ is.memory refl refl

    less_done : (o : Opened) (slices : _) (all : Bool) → MatchBool all (IsDeletedOn calls host o kept next) (HasMovedOn calls host o (Drops slices) kept next) → Steady next
    less_done o slices true is = kept_on _ is.memory refl refl
    less_done o slices false (clean, is) = kept_on _ is.memory refl refl

    done_steady : (command : Command) → Effect calls host kept command answer next → Steady next
    done_steady (AddPlaces slices force count blocks) is = more_done kept.memory.opened slices count blocks is.1
    done_steady (AddListed number force) is = absurd is
    done_steady (DropPlaces slices force) is = less_done is.1 slices (are_all is.1 slices) is.3
    done_steady (Alter alteration) is = kept_on _ is.3.memory refl refl
    done_steady (Read volume at count) is = all_on is.7.memory
    done_steady (Write volume at what) is = all_on is.4
    done_steady (Print names) is = all_on is.4.memory

    more_failed : (opened : Option Opened) (slices : _) (count blocks : ℕ)
        → MatchOption opened (IsUncreated calls host (lines_asked host slices) count blocks kept next) (λ o. IsUnmovedOn calls host o (lines_asked host slices) count blocks kept next) → Steady next
    more_failed None slices count blocks is = kept_on _ is.memory refl refl
    more_failed (Some o) slices count blocks is = all_on is.memory

    less_failed : (o : Opened) → IsUndeletedOn calls host o kept next → Steady next
    less_failed o (inl is) = kept_on _ is.memory refl refl
    less_failed o (inr is) = kept_on _ is.memory refl refl

    -- where a write failed, it failed on other drives
    wrote_failed : (failing : ℕ → Bool) → next.memory ≡ record kept.memory { unsteady = next.memory.unsteady } → ((d : ℕ) → is_in next.memory.unsteady d ≡ (failing d || is_in kept.memory.unsteady d)) → failing drive.0 ≡ false → Steady next
    wrote_failed failing beside each never =
        let same : is_in next.memory.unsteady drive.0 ≡ is_in kept.memory.unsteady drive.0 = each drive.0 ∙ ap (λ (f : Bool). f || is_in kept.memory.unsteady drive.0) never in
        ap (λ (m : Memory). is_in m.up drive.0 && not (is_in next.memory.unsteady drive.0)) beside ∙ ap (λ (b : Bool). is_in kept.memory.up drive.0 && not b) same ∙ was

    fault_steady : (command : Command) → Fault calls host kept command next → Steady next
    fault_steady (AddPlaces slices force count blocks) is = more_failed kept.memory.opened slices count blocks is
    fault_steady (AddListed number force) is = absurd is
    fault_steady (DropPlaces slices force) is = less_failed is.0 is.3
    fault_steady (Alter alteration) is = absurd is
    fault_steady (Read volume at count) is = all_on is.1.memory
    fault_steady (Write volume at what) (failed, unsettled, put) = elim (both_ways (failed.failing drive.0)) [
      | inl does ↦ absurd (calm (failed.failed drive.0 does))
      | inr never ↦ wrote_failed failed.failing unsettled.beside unsettled.each never
    ]
    fault_steady (Print names) is = absurd is

    more_wanting : (opened : Option Opened) → MatchOption opened (IsUnbegun kept next) (λ o. Stays kept next) → Steady next
    more_wanting None is = kept_on _ is.memory refl refl
    more_wanting (Some o) is = all_on is.memory

    wanting_steady : (command : Command) → Wanting host kept command next → Steady next
    wanting_steady (AddPlaces slices force count blocks) is = more_wanting kept.memory.opened is.1
    wanting_steady (AddListed number force) is = absurd is
    wanting_steady (DropPlaces slices force) is = all_on is.4.memory
    wanting_steady (Alter alteration) is = all_on is.2.memory
    wanting_steady (Read volume at count) is = all_on is.1.memory
    wanting_steady (Write volume at what) is = all_on is.2.memory
    wanting_steady (Print names) is = all_on is.1.memory

    came_steady : (command : Command) → CameTo calls host kept command answer next → Steady next
    came_steady command (came.refused quiet r why left) = all_on left.1.memory
    came_steady command (came.wanting quiet told wants) = wanting_steady command wants
    came_steady command (came.done free effect) = done_steady command effect
    came_steady command (came.faulted free told fault) = fault_steady command fault
    came_steady command (came.over end free over gives) = absurd (let never : ⊥ = subst IsSaid over said in never)

    tab_steady : (lines : List ℕ) → KeepsTab calls kept lines answer next → Steady next
    tab_steady lines (came.entered quiet entries tab told memory same) = kept_on _ memory refl refl
    tab_steady lines (came.unfit quiet r why left) = all_on left.1.memory
    tab_steady lines (came.unread quiet told same) = all_on same.memory

    comes_steady : (spelled : Line) → ComesTo calls host kept spelled answer next → Steady next
    comes_steady words.Boot comes = boot_steady comes
    comes_steady (words.Tab lines) comes = tab_steady lines comes
    comes_steady (words.Exec command) comes = came_steady (meant kept.memory.entries command) comes

    -- over a line by whose calls none failed on it
    pub line_steady : (text : List ℕ) → IsAnswered calls host kept text answer next → Steady next
    line_steady text (inl (none, quiet, refused)) = all_on refused.1.memory
    line_steady text (inr (inl (spelled, is, comes))) = comes_steady spelled comes
    line_steady text (inr (inr (quiet, refused))) = all_on refused.1.memory
