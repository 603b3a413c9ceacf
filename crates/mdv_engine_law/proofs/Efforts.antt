-- The calls of a line, told of another stretch.
use Rattle.std.proofs.Common.{◌≡◌, Bool, ◌⊎◌, inl, inr, ℕ, true, Option, Some, None}
use Rattle.mdv_base.specs.declared.refusal.Refusal.TheVariants as refusal
use Rattle.mdv_shelf.specs.Made.{Made}
use Rattle.mdv_shelf.proofs.Made.{IsToo, more_too}
use Rattle.mdv_engine_law.specs.Below.{BootEnd, Drives, Geometry, Image, Opened, Refusal, Command, AddListed, AddPlaces, DropPlaces, Print, Read, Write, Line, meant}
use Rattle.mdv_places.specs.Asked.{Asks}
use Rattle.mdv_store.specs.Boot.{is_memory}
use Rattle.mdv_engine_law.specs.Places.{are_all}
use Rattle.mdv_store.specs.declared.booting.BootEnd.TheVariants as end
use Rattle.mdv_words.specs.declared.command.Command.TheVariants.{Alter}
use Rattle.mdv_words.specs.Line as words
use Rattle.mdv_engine_law.specs.declared.answer.Answer.{Answer}
use Rattle.mdv_engine_law.specs.declared.answer.Answer.TheVariants.{Said, Over}
use Rattle.mdv_engine_law.specs.declared.answer.Ended.TheVariants as ended
use Rattle.mdv_engine_law.specs.declared.answer.Outcome.TheVariants as outcome
use Rattle.mdv_engine_law.specs.declared.host.Host.{Host}
use Rattle.mdv_engine_law.specs.Efforts.{BootCalls, CommandCalls, EndCalls, EndsByCalls, FaultCalls, HandCalls, LineCalls, LossCalls, MadeCallsOf, DeletionCalls, MoveCalls, NoCalls, replied_to}
use Rattle.mdv_shelf.specs.Failing.{Outcomes}
use Rattle.mdv_engine_law.specs.Line.{Kept, Memory}
use Rattle.mdv_engine_law.proofs.Widening.{AreWithin, match_more, end_more, read_more, up_more}

module _ (failed more : Outcomes) (cause : AreWithin failed more) (one other : Made) (too : IsToo one other) where
  pub none_too : NoCalls one → NoCalls other
  none_too none = too.within _ _ _ none

  moved_too : (g : Geometry) (o : Opened) (asked : Asks) → MoveCalls failed one g o asked → MoveCalls more other g o asked
  moved_too g o asked calls = record { all = λ none. too.exactly _ _ (calls.all (λ drive has some. none drive has ((cause drive.0).some some))); some = too.within _ _ _ calls.some }

  deleted_too : (g : Geometry) (o : Opened) → DeletionCalls failed one g o → DeletionCalls more other g o
  deleted_too g o calls = record { all = λ none. too.exactly _ _ (calls.all (λ drive has some. none drive has ((cause drive.0).some some))); some = too.within _ _ _ calls.some }

  pub done_too : (command : Command) (host : Host) (old new : Option Opened) → MadeCallsOf failed one command host old new → MadeCallsOf more other command host old new
  done_too (AddPlaces slices force count blocks) host (Some before) new calls = moved_too host.drives before _ calls
  done_too (AddPlaces slices force count blocks) host None (Some o) calls = record { all = λ as_many. too.exactly _ _ (calls.all as_many); some = too.within _ _ _ calls.some }
  done_too (AddPlaces slices force count blocks) host None None calls = absurd calls
  done_too (AddListed number force) host old new calls = absurd calls
  done_too (DropPlaces slices force) host None new calls = absurd calls
  done_too (DropPlaces slices force) host (Some before) new calls = match_more (are_all before slices) _ _ _ _ (deleted_too host.drives before) (moved_too host.drives before _) calls
  done_too (Alter alteration) host (Some before) (Some o) calls = record { all = λ as_many. too.exactly _ _ (calls.all as_many); some = too.within _ _ _ calls.some; wrote = too.wrote calls.wrote }
  done_too (Alter alteration) host (Some before) None calls = absurd calls
  done_too (Alter alteration) host None new calls = absurd calls
  done_too (Read volume at count) host old new calls = too.exactly _ _ calls
  done_too (Write volume at what) host old new calls = too.exactly _ _ calls
  done_too (Print names) host old new calls = none_too calls

  pub fault_too : (command : Command) (host : Host) (old : Option Opened) → FaultCalls one command host old → FaultCalls other command host old
  fault_too (AddPlaces slices force count blocks) host None calls = too.within _ _ _ calls
  fault_too (AddPlaces slices force count blocks) host (Some o) calls = too.within _ _ _ calls
  fault_too (AddListed number force) host old calls = absurd calls
  fault_too (DropPlaces slices force) host None calls = absurd calls
  fault_too (DropPlaces slices force) host (Some o) calls = match_more (are_all o slices) _ _ _ _ (too.within _ _ _) (λ none. none) calls
  fault_too (Alter alteration) host old calls = absurd calls
  fault_too (Read volume at count) host old calls = too.within _ _ _ calls
  fault_too (Write volume at what) host old calls = too.within _ _ _ calls
  fault_too (Print names) host old calls = absurd calls

  loss_too : (command : Command) (host : Host) (old : Option Opened) → LossCalls one command host old → LossCalls other command host old
  loss_too (AddPlaces slices force count blocks) host None calls = too.within _ _ _ calls
  loss_too (AddPlaces slices force count blocks) host (Some o) calls = too.within _ _ _ calls
  loss_too (AddListed number force) host old calls = absurd calls
  loss_too (DropPlaces slices force) host None calls = absurd calls
  loss_too (DropPlaces slices force) host (Some o) calls = too.within _ _ _ calls
  loss_too (Alter alteration) host (Some o) calls = too.within _ _ _ calls
  loss_too (Alter alteration) host None calls = absurd calls
  loss_too (Read volume at count) host old calls = absurd calls
  loss_too (Write volume at what) host old calls = absurd calls
  loss_too (Print names) host old calls = absurd calls

  refused_too : (command : Command) (r : Refusal) (host : Host) (old new : Option Opened) → CommandCalls failed one host command (Said (outcome.Refused r)) old new → CommandCalls more other host command (Said (outcome.Refused r)) old new
  refused_too command refusal.IoFault host old new calls = fault_too command host old calls
  refused_too command refusal.OutOfMemory host old new calls = too.within _ _ _ calls
  refused_too command other_one host old new calls = none_too calls

  pub command_too : (host : Host) (command : Command) (answer : Answer) (old new : Option Opened) → CommandCalls failed one host command answer old new → CommandCalls more other host command answer old new
  command_too host command (Said outcome.Ok) old new calls = done_too command host old new calls
  command_too host command (Said (outcome.Values text)) old new calls = done_too command host old new calls
  command_too host command (Said (outcome.Refused r)) old new calls = refused_too command r host old new calls
  command_too host command (Over (ended.Lost active listed)) old new calls = loss_too command host old calls
  command_too host command (Over ended.Spent) old new calls = none_too calls
  command_too host command (Over ended.Memory) old new calls = none_too calls
  command_too host command (Over (ended.NoQuorum readable needed)) old new calls = none_too calls
  command_too host command (Over (ended.TwoDatabases a b)) old new calls = none_too calls

  end_too : (reads : ℕ) (e : BootEnd) → EndCalls one reads e → EndCalls other reads e
  end_too reads (end.Adopted o) calls = record { table = calls.table; found = calls.found; is = calls.is; marked = calls.marked; one = calls.one; made = too.exactly _ _ calls.made }
  end_too reads end.Empty calls = too.within _ _ _ calls
  end_too reads (end.TwoDatabases a b) calls = too.within _ _ _ calls
  end_too reads (end.NoQuorum readable needed) calls = too.within _ _ _ calls
  end_too reads (end.Lost active listed) calls = tt
  end_too reads end.Spent calls = too.within _ _ _ calls
  end_too reads end.Memory calls = tt

-- of a stretch by which a call failed just where one did by the first
module _ (calls more : Outcomes) (cause : AreWithin calls more) (one other : Made) (too : IsToo one other) where
  hand_too : (host : Host) (content : Image) (up : Drives) (clean : Bool) (e : BootEnd) → (is_memory e ≡ true) ⊎ EndsByCalls calls one host content up clean e → (is_memory e ≡ true) ⊎ EndsByCalls more other host content up clean e
  hand_too host content up clean e (inl memory) = inl memory
  hand_too host content up clean e (inr by) =
      inr (record {
        survey = by.survey;
        read = read_more calls more cause host content up e by.survey by.read;
        by_hand = end_more calls more cause (λ hand table progress. HandCalls one host content up by.read.calm clean hand.seats table progress) (λ hand table progress. HandCalls other host content up by.read.calm clean hand.seats table progress)
            (λ hand table progress made. record { within = too.within _ _ _ made.within; exactly = λ so. (let each = made.exactly so in (each.0, each.1, too.exactly _ _ each.2)) }) host.site by.survey e by.by_hand;
        still = λ unwritten. too.within _ _ _ (by.still unwritten);
      })

  pub boot_too : (host : Host) (answer : Answer) (memory : Memory) (content : Image) → BootCalls calls one host answer memory content → BootCalls more other host answer memory content
  boot_too host answer memory content is = record {
    most = too.within _ _ _ is.most;
    end = is.end;
    answer_is = is.answer_is;
    up = is.up;
    clean = is.clean;
    by = up_more calls more cause host is.end is.up is.clean is.by;
    tied = is.tied;
    by_hand = hand_too host content is.up is.clean is.end is.by_hand;
    still = λ unwritten. too.within _ _ _ (is.still unwritten);
    wrote = λ written. too.wrote (is.wrote written);
    exactly = λ clean. (let by = is.exactly clean in (by.0, by.1, end_too calls more cause one other too _ is.end by.2));
  }

  pub line_too : (host : Host) (kept : Kept) (line : Line) (answer : Answer) (next : Kept) → LineCalls calls one host kept line answer next → LineCalls more other host kept line answer next
  line_too host kept words.Boot answer next by = boot_too host answer next.memory kept.content by
  line_too host kept (words.Tab lines) answer next by = none_too calls more cause one other too by
  line_too host kept (words.Exec command) answer next by = command_too calls more cause one other too host (meant kept.memory.entries command) answer kept.memory.opened next.memory.opened by

-- a stretch, told of itself
pub too_itself : (one : Made) → IsToo one one
too_itself one = record { exactly = λ count blocks is. is; within = λ least most blocks is. is; wrote = λ is. is }

-- its reply's call goes with it
pub replied_too : (one other : Made) → IsToo one other → (answer : Answer) → IsToo (replied_to answer one) (replied_to answer other)
replied_too one other too (Said this) = more_too 1 one other too
replied_too one other too (Over end) = too
