-- What came of the calls of a stretch, told of a longer one by which no further call failed.
use Rattle.std.proofs.Common.{◌≡◌, ◌⊎◌, inl, inr, ℕ, Bool, true, false, List, length, Option, None, Some, Contains}
use Rattle.std.specs.Bool.{MatchBool}
use Rattle.mdv_base.proofs.Causes.{IsWithin}
use Rattle.mdv_engine_law.specs.Below.{BootEnd, DriveNo, Drives, Geometry, Identity, Key, Opened, Site, SliceLine, Table, VolId, Command, AddListed, AddPlaces, DropPlaces, Print, Read, Write, blocks_of}
use Rattle.mdv_store.proofs.Passes.{left_as}
use Rattle.mdv_store.specs.Boot.{IsEndBy, IsOnce, IsShortAt, IsShortBy, IsWrittenTo, is_memory}
use Rattle.mdv_store.specs.Commit as commit
use Rattle.mdv_store.specs.Create as create
use Rattle.mdv_store.specs.Progress.{Claimed, Progress, Rewritten, Settled}
use Rattle.mdv_store.specs.Seats.{AreLeft, drive_of}
use Rattle.mdv_store.specs.declared.booting.BootEnd.TheVariants as end
use Rattle.mdv_store.specs.declared.seats.Seat.{Seat}
use Rattle.mdv_store.specs.declared.seats.Share.{Share}
use Rattle.mdv_survey.specs.declared.replica.Newest.{Newest}
use Rattle.mdv_survey.specs.declared.replica.Replica.{Replica}
use Rattle.mdv_survey.specs.declared.replica.Survey.{Survey}
use Rattle.mdv_plan.specs.declared.lists.Lists.{Lists}
use Rattle.mdv_words.specs.declared.command.Command.TheVariants as command
use Rattle.mdv_shelf.specs.Everywhere.{Image}
use Rattle.mdv_shelf.specs.Failing.{AreCalm, FailedOn, Outcomes}
use Rattle.mdv_engine_law.specs.Commands.{FailedBlocks, FailedWrite, IsLostCommit, blame_of, blame_of_places}
use Rattle.mdv_engine_law.specs.Hosts.{lines_asked}
use Rattle.mdv_engine_law.specs.Moves.{IsLostChange}
use Rattle.mdv_engine_law.specs.Places.{are_all}
use Rattle.mdv_places.specs.Asked.{Asks}
use Rattle.mdv_places.specs.Changing.{HasFailedOn}
use Rattle.mdv_places.specs.Outcomes.{IsLostBoth, IsLostLast, IsMoved, IsUnmoved, till_wiped}
use Rattle.mdv_engine_law.specs.Line.{AreCalmBeside, IsReadOf, IsUpBy, Memory}
use Rattle.mdv_engine_law.specs.Replies.{Blame}
use Rattle.mdv_engine_law.specs.declared.host.Host.{Host}

-- one failed on a drive of the one just where one did on that of the other
abbrev pub AreWithin : Outcomes → Outcomes → Type 0
AreWithin failed more = (drive : ℕ) → IsWithin (failed drive) (more drive)

-- one of two, told of what each leads to
pub match_more : (b : Bool) (P Q R S : Type 0) → (P → R) → (Q → S) → MatchBool b P Q → MatchBool b R S
match_more true P Q R S one other is = one is
match_more false P Q R S one other is = other is

-- what is so by the one is so by the other, whatever a command is answered
pub record IsBlamed (one other : Blame) : Type 0 where
  pub done : one.done → other.done
  pub none : one.none → other.none
  pub some : one.some → other.some
  pub lost : (active listed : ℕ) → one.lost active listed → other.lost active listed

-- what was written, told of what each leads to
written_more : (One Other : _ → Table → Progress → Type 0) → ((hand : _) (table : Table) (progress : Progress) → One hand table progress → Other hand table progress) → (newest : Newest) (replica : Replica) (seats : List Seat) (number : ℕ) (progress : Progress)
    → IsWrittenTo One newest replica seats number progress → IsWrittenTo Other newest replica seats number progress
written_more One Other so newest replica seats number progress is = record { hand = is.hand; identity_is = is.identity_is; number_is = is.number_is; seats_are = is.seats_are; wrote = so is.hand newest.table progress is.wrote }

-- a stretch, told of itself
pub within_itself : (failed : Outcomes) → AreWithin failed failed
within_itself failed drive = record { some = λ is. is; none = λ is. is }

module _ (failed more : Outcomes) (cause : AreWithin failed more) where
  pub calm_more : AreCalm failed → AreCalm more
  calm_more calm drive = (cause drive).none (calm drive)

  pub beside_more : (drives : List DriveNo) → AreCalmBeside drives failed → AreCalmBeside drives more
  beside_more drives calm drive away = (cause drive.0).none (calm drive away)

  pub on_more : (drive : ℕ) → FailedOn drive failed → FailedOn drive more
  on_more drive on = record { here = (cause drive).some on.here; others = λ other differs. (cause other).none (on.others other differs) }

  -- which seats are left
  pub left_more : (Took : Replica → Replica → Type 0) (old new : List Seat) → AreLeft failed Took old new → AreLeft more Took old new
  left_more Took old new left = left_as failed more Took Took old new (λ r has is. (cause (drive_of r)).some is) (λ r has is. (cause (drive_of r)).none is) (λ r m took. took) left

  -- what a creation says
  module _ (key : Key) (identity : Identity) (lines : List SliceLine) (count blocks : ℕ) where
    pub made_more : (o : Opened) → create.IsMade failed key identity lines count blocks o → create.IsMade more key identity lines count blocks o
    made_more o made = record { tried = left_more _ _ _ made.tried; half = made.half; is = made.is }

    pub unmade_more : create.HasFailed failed key identity lines count blocks → create.HasFailed more key identity lines count blocks
    unmade_more is = record { drive = is.drive; one_of = is.one_of; here = (cause is.drive.0).some is.here; elsewhere = λ other differs. (cause other.0).none (is.elsewhere other differs) }

    pub lost_more : (active listed : ℕ) → create.IsLost failed key identity lines count blocks active listed → create.IsLost more key identity lines count blocks active listed
    lost_more active listed is = record { now = is.now; tried = left_more _ _ _ is.tried; few = is.few }

  -- and a commit
  module _ (old new : Opened) (table : Table) where
    tried_more : commit.IsTried failed old new table → commit.IsTried more old new table
    tried_more is = record { half = is.half; fits = is.fits; small = is.small; left = left_more _ _ _ is.left }

    pub committed_more : commit.IsCommitted failed old new table → commit.IsCommitted more old new table
    committed_more is = record { tried = tried_more is.tried; enough = is.enough; is = is.is }

    pub now_more : commit.IsLostNow failed old new table → commit.IsLostNow more old new table
    now_more is = record { tried = tried_more is.tried; is = is.is }

  pub lost_commit_more : (old : Opened) (table : Table) (active listed : ℕ) → IsLostCommit failed old table active listed → IsLostCommit more old table active listed
  lost_commit_more old table active listed is = record { new = is.new; calm = beside_more _ is.calm; lost = now_more old is.new table is.lost; few = is.few }

  -- and a boot's end
  short_more : (Took : Replica → Replica → Type 0) (key : Key) (lists : Lists) (seats now : List Seat) (share : Share) → IsShortBy failed Took key lists seats now share → IsShortBy more Took key lists seats now share
  short_more Took key lists seats now share short = record { left = left_more Took seats now short.left; few = short.few }

  short_at_more : (key : Key) (number : ℕ) (table : Table) (seats last lacked : List Seat) (progress : Progress) (share : Share) → IsShortAt failed key number table seats last lacked progress share → IsShortAt more key number table seats last lacked progress share
  short_at_more key number table seats last lacked (Claimed now) share short = short_more _ _ _ _ _ _ short
  short_at_more key number table seats last lacked (Rewritten now) share short = short_more _ _ _ _ _ _ short
  short_at_more key number table seats last lacked (Settled now gone) share (settles, short, over) = (settles, short_more _ _ _ _ _ _ short, left_more _ _ _ over)

  pub end_more : (One Other : _ → Table → Progress → Type 0) → ((hand : _) (table : Table) (progress : Progress) → One hand table progress → Other hand table progress) → (site : Site) (survey : Survey) (e : BootEnd) → IsEndBy failed One site survey e → IsEndBy more Other site survey e
  end_more One Other so site survey (end.Adopted o) is = record { newest = is.newest; replica = is.replica; seats = is.seats; number = is.number; drawn = is.drawn; gone = is.gone; over = left_more _ _ _ is.over; written = written_more One Other so _ _ _ _ _ is.written; left = left_more _ _ _ is.left; enough = is.enough; is = is.is }
  end_more One Other so site survey end.Empty is = is
  end_more One Other so site survey (end.TwoDatabases a b) is = is
  end_more One Other so site survey (end.NoQuorum readable needed) is = is
  end_more One Other so site survey (end.Lost active listed) is =
      record { newest = is.newest; replica = is.replica; seats = is.seats; number = is.number; drawn = is.drawn; progress = is.progress; written = written_more One Other so _ _ _ _ _ is.written; short = short_at_more _ _ _ _ _ _ is.progress _ is.short }
  end_more One Other so site survey end.Spent is = is
  end_more One Other so site survey end.Memory is = is

  -- why a command is answered so
  abbrev pub blocks_more : (host : Host) (memory : Memory) (volume : VolId) (at count : ℕ) → FailedBlocks failed host memory volume at count → FailedBlocks more host memory volume at count
  blocks_more host memory volume at count of = record { map = of.map; there = of.there; drive = of.drive; on = of.on; failed = on_more of.drive of.failed }

  abbrev pub writes_more : (host : Host) (memory : Memory) (volume : VolId) (at count : ℕ) → FailedWrite failed host memory volume at count → FailedWrite more host memory volume at count
  writes_more host memory volume at count of =
      record { map = of.map; there = of.there; failing = of.failing; some = of.some; on = of.on; failed = λ drive is. (cause drive).some (of.failed drive is); calm = λ drive is. (cause drive).none (of.calm drive is) }

  -- so of a change of places
  moved_left : (g : Geometry) (o : Opened) (asked : Asks) (Takes : Replica → Replica → Type 0) (seats now : List Seat) → AreLeft (till_wiped failed g o asked) Takes seats now → AreLeft (till_wiped more g o asked) Takes seats now
  moved_left g o asked Takes seats now left = left_as (till_wiped failed g o asked) (till_wiped more g o asked) Takes Takes seats now (λ r has is. (cause (drive_of r)).some is) (λ r has is. none_more (drive_of r) is) (λ r m took. took) left
    where
      none_more : (drive : ℕ) → (till_wiped failed g o asked drive).none → (till_wiped more g o asked drive).none
      none_more drive (inl none) = inl ((cause drive).none none)
      none_more drive (inr (is, some)) = inr (is, (cause drive).some some)

  failed_on_more : (drives : List DriveNo) → HasFailedOn drives failed → HasFailedOn drives more
  failed_on_more drives (drive, has, some) = (drive, has, (cause drive.0).some some)

  pub moved_more : (g : Geometry) (o new : Opened) (asked : Asks) (clean : Bool) → IsMoved failed g o asked new clean → IsMoved more g o asked new clean
  moved_more g o new asked clean is = record {
    may = is.may;
    left = moved_left g o asked _ _ _ is.left;
    enough = is.enough;
    is = is.is;
    told = match_more clean _ _ _ _ (λ calm drive has. (cause drive.0).none (calm drive has)) (failed_on_more _) is.told;
  }

  pub unmoved_more : (g : Geometry) (o : Opened) (asked : Asks) → IsUnmoved failed g o asked → IsUnmoved more g o asked
  unmoved_more g o asked is = record { may = is.may; drive = is.drive; one_of = is.one_of; here = (cause is.drive.0).some is.here; elsewhere = λ other differs. (cause other.0).none (is.elsewhere other differs) }

  pub lost_records_more : (g : Geometry) (o new : Opened) (asked : Asks) (share : Share) → IsLostBoth failed g o asked new share ⊎ IsLostLast failed g o asked new share → IsLostBoth more g o asked new share ⊎ IsLostLast more g o asked new share
  lost_records_more g o new asked share (inl both) = inl (record { may = both.may; left = left_more _ _ _ both.left; few = both.few; is = both.is; failed = failed_on_more _ both.failed })
  lost_records_more g o new asked share (inr last) = inr (record { may = last.may; left = left_more _ _ _ last.left; few = last.few; is = last.is; failed = failed_on_more _ last.failed })

  pub lost_change_more : (g : Geometry) (o : Opened) (asked : Asks) (active listed : ℕ) → IsLostChange failed g o asked active listed → IsLostChange more g o asked active listed
  lost_change_more g o asked active listed is = record { new = is.new; calm = beside_more _ is.calm; lost = lost_records_more g o is.new asked _ is.lost }

  places_more : (host : Host) (memory : Memory) (opened : Option Opened) (lines : List SliceLine) (count blocks : ℕ) → IsBlamed (blame_of_places failed host memory opened lines count blocks) (blame_of_places more host memory opened lines count blocks)
  places_more host memory None lines count blocks = record { done = beside_more _; none = calm_more; some = unmade_more _ _ _ _ _; lost = λ active listed is. (lost_more _ _ _ _ _ active listed is.0, beside_more _ is.1) }
  places_more host memory (Some o) lines count blocks = record { done = beside_more _; none = calm_more; some = unmoved_more _ _ _; lost = lost_change_more _ _ _ }

  pub blamed_more : (host : Host) (memory : Memory) (command : Command) → IsBlamed (blame_of failed host memory command) (blame_of more host memory command)
  blamed_more host memory (AddPlaces slices force count blocks) = places_more host memory memory.opened (lines_asked host slices) count blocks
  blamed_more host memory (AddListed number force) = record { done = λ is. is; none = calm_more; some = λ is. is; lost = λ active listed is. is }
  blamed_more host memory (DropPlaces slices force) = record {
    done = λ is. (is.0, is.1, match_more (are_all is.0 slices) _ _ _ _ calm_more (beside_more _) is.2);
    none = calm_more;
    some = λ is. (is.0, is.1, is.2, failed_on_more _ is.3, beside_more _ is.4);
    lost = λ active listed is. (is.0, is.1, lost_change_more _ _ _ active listed is.2);
  }
  blamed_more host memory (command.Alter alteration) = record { done = λ is. (is.0, is.1, beside_more _ is.2); none = calm_more; some = λ is. is; lost = λ active listed is. (is.0, is.1, lost_commit_more is.0 _ active listed is.2) }
  blamed_more host memory (Read volume at count) = record { done = calm_more; none = calm_more; some = blocks_more host memory volume at count; lost = λ active listed is. is }
  blamed_more host memory (Write volume at what) = record { done = calm_more; none = calm_more; some = writes_more host memory volume at (length (blocks_of what)); lost = λ active listed is. is }
  blamed_more host memory (Print names) = record { done = calm_more; none = calm_more; some = λ is. is; lost = λ active listed is. is }

  -- and what a boot says of each drive
  once_more : (drive : ℕ) → IsOnce (failed drive) → IsOnce (more drive)
  once_more drive (inl none) = inl ((cause drive).none none)
  once_more drive (inr some) = inr ((cause drive).some some)

  all_once : (host : Host) (e : BootEnd) → (is_memory e ≡ true) ⊎ ((drive : DriveNo) → Contains host.site.drives drive → IsOnce (failed drive.0)) → (is_memory e ≡ true) ⊎ ((drive : DriveNo) → Contains host.site.drives drive → IsOnce (more drive.0))
  all_once host e (inl memory) = inl memory
  all_once host e (inr once) = inr (λ drive has. once_more drive.0 (once drive has))

  some_more : (host : Host) (e : BootEnd) → (is_memory e ≡ true) ⊎ ((drive : DriveNo) × Contains host.site.drives drive × (failed drive.0).some) → (is_memory e ≡ true) ⊎ ((drive : DriveNo) × Contains host.site.drives drive × (more drive.0).some)
  some_more host e (inl memory) = inl memory
  some_more host e (inr one) = inr (one.0, one.1, (cause one.0.0).some one.2)

  pub up_more : (host : Host) (e : BootEnd) (up : Drives) (clean : Bool) → IsUpBy failed host e up clean → IsUpBy more host e up clean
  up_more host e up clean is = record {
    down = λ some drive one_of away. (cause drive.0).some (is.down some drive one_of away);
    others = λ drive other. ((is.others drive other).0, (cause drive.0).none (is.others drive other).1);
    once = all_once host e is.once;
    calm = match_more clean _ _ _ _ (λ calm drive. (cause drive.0).none (calm drive)) (some_more host e) is.calm;
  }

  abbrev pub read_more : (host : Host) (content : Image) (up : Drives) (e : BootEnd) (survey : Survey) → IsReadOf failed host content up e survey → IsReadOf more host content up e survey
  read_more host content up e survey is = record {
    calm = is.calm;
    were_up = is.were_up;
    failed = λ drive one_of away. (cause drive.0).some (is.failed drive one_of away);
    survey_is = is.survey_is;
    of = is.of;
    none = is.none;
    answered = λ still drive there. (cause drive.0).none (is.answered still drive there);
  }
