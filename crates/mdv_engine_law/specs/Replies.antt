-- The bytes of replies, how they are told, and what they acknowledge.
use Rattle.std.specs.Prelude.{◌≡◌, ◌≢◌, ◌⊎◌, ◌<◌, ◌*◌, ℕ, Bool, true, ◌||◌, List, [], ◌∷◌, ◌++◌, All, Contains, length, take, codes, if◌then◌else◌}
use Rattle.std.specs.Bool.{MatchBool}
use Rattle.std.specs.List.{concat}
use Rattle.std.specs.Str.{bytes_eq}
use Rattle.mdv_shelf.specs.Calls.{OnDrive}
use Rattle.mdv_shelf.specs.Shelves.{IsOneCall, MadeCalls}
use Rattle.mdv_shelf.specs.Story.{NoFewer}
use Rattle.mdv_shelf.specs.declared.shelf.Shelf.{Ghosts}
use Rattle.mdv_engine_law.specs.Below.{refusal_text, Key, VolId, Refusal, IoFault, Deed, Saw, lacks, left_in, one_reply, refused, replies_in, said_in, unsaid, with_reply, IsQuietLine, entries_reply, printed_reply, values_reply}
use Rattle.mdv_engine_law.specs.declared.answer.Answer.{Answer}
use Rattle.mdv_engine_law.specs.declared.answer.Answer.TheVariants.{Said, Over}
use Rattle.mdv_engine_law.specs.declared.answer.Ended.{Ended}
use Rattle.mdv_engine_law.specs.declared.answer.Ended.TheVariants as ended
use Rattle.mdv_engine_law.specs.declared.answer.Outcome.{Outcome}
use Rattle.mdv_engine_law.specs.declared.answer.Outcome.TheVariants as outcome
use Rattle.mdv_engine_law.specs.declared.answer.Reply.{Reply}
use Rattle.mdv_engine_law.specs.Line.{Ask, Nothing, ToBoot, ToDo, ToDrop, ToMake, ToMakeListed, ToSee, deeds, tellable}
use Rattle.mdv_engine_law.specs.declared.answer.Reply.TheVariants as reply

abbrev pub refusal_line : Refusal → List ℕ
refusal_line refusal = refusal_text refusal ++ 10 ∷ []

abbrev pub ok_line : List ℕ
ok_line = codes "ok" ++ 10 ∷ []

-- what is told of an outcome
abbrev pub outcome_text : Outcome → List ℕ
outcome_text outcome.Ok = ok_line
outcome_text (outcome.Values text) = text
outcome_text (outcome.Refused refusal) = refusal_line refusal

-- what an answer tells: nothing of a run's end
abbrev pub text_of : Answer → List ℕ
text_of (Said this) = outcome_text this
text_of (Over end) = []

-- the refusal's text is one line, and begins as all of them do
pub record IsPlain (refusal : Refusal) : Type 0 where
  pub one_line : lacks 10 (refusal_text refusal) ≡ true
  pub begins : take 9 (refusal_text refusal) ≡ refused

-- the text of a read's reply is that of some blocks
pub record AreValues (text : List ℕ) : Type 0 where
  pub at : ℕ
  pub blocks : List (List ℕ)
  pub is : text ≡ values_reply at blocks

-- or that to a block of so many entries
pub record AreEntries (text : List ℕ) : Type 0 where
  pub count : ℕ
  pub is : text ≡ entries_reply count

-- or that of a table that is printed: these lines, and `ok`
pub record ArePrinted (text : List ℕ) : Type 0 where
  pub lines : List (List ℕ)
  pub quiet : All IsQuietLine lines
  pub is : text ≡ printed_reply (concat lines)

-- the text of a reply that tells more than `ok`
abbrev pub IsText : List ℕ → Type 0
IsText text = AreValues text ⊎ (AreEntries text ⊎ ArePrinted text)

abbrev pub IsPlainOutcome : Outcome → Type 0
IsPlainOutcome outcome.Ok = Unit {0}
IsPlainOutcome (outcome.Values text) = IsText text
IsPlainOutcome (outcome.Refused refusal) = IsPlain refusal

abbrev pub IsPlainAnswer : Answer → Type 0
IsPlainAnswer (Said this) = IsPlainOutcome this
IsPlainAnswer (Over end) = Unit {0}

-- a whole reply: it is one, whatever comes behind it
pub record IsReply (bytes : List ℕ) : Type 0 where
  pub alone : said_in bytes ≡ one_reply bytes
  pub behind : (rest : List ℕ) → said_in (bytes ++ rest) ≡ with_reply bytes (said_in rest)

-- a front of a reply: it is none yet, or the whole one
abbrev pub IsFront : List ℕ → Type 0
IsFront bytes = (said_in bytes ≡ unsaid bytes) ⊎ (said_in bytes ≡ one_reply bytes)

-- the reply tells a refusal
abbrev pub IsRefusal : List ℕ → Type 0
IsRefusal reply = (refusal : Refusal) × (reply ≡ refusal_line refusal)

-- the reply tells values of so many blocks, from that one on, and these are what was seen
pub record TellsValues (key : Key) (volume : VolId) (at count : ℕ) (reply : List ℕ) (done : List Deed) : Type 0 where
  pub blocks : List (List ℕ)
  pub counted : length blocks ≡ count
  pub told : reply ≡ values_reply at blocks
  pub seen : done ≡ Saw key volume at blocks ∷ []

-- `ok` acknowledges one of these deeds, and every other reply none
abbrev pub AcksOne : List Deed → List ℕ → List Deed → Type 0
AcksOne deeds reply done = MatchBool (bytes_eq reply ok_line) ((deed : Deed) × Contains deeds deed × (done ≡ deed ∷ [])) (done ≡ [])

-- What a reply acknowledges to a line that asks this: `ok` the deed, or one of those that replicas may come to, and a reply to a read the values that it tells.
abbrev pub AcksBy : Ask → List ℕ → List Deed → Type 0
AcksBy Nothing reply done = done ≡ []
AcksBy ToBoot reply done = done ≡ []
AcksBy (ToMake key lines count blocks) reply done = AcksOne (tellable (ToMake key lines count blocks)) reply done
AcksBy (ToMakeListed key number) reply done = AcksOne (tellable (ToMakeListed key number)) reply done
AcksBy (ToDrop key slices force) reply done = AcksOne (tellable (ToDrop key slices force)) reply done
AcksBy (ToDo deed) reply done = done ≡ (if bytes_eq reply ok_line then deed ∷ [] else [])
AcksBy (ToSee key volume at count) reply done = (IsRefusal reply × (done ≡ [])) ⊎ TellsValues key volume at count reply done

-- some bytes are a front of a reply that tells values, and all of these were seen
pub record TellsFront (key : Key) (volume : VolId) (at count : ℕ) (bytes : List ℕ) (done : List Deed) : Type 0 where
  pub some : bytes ≢ []
  pub reply : List ℕ
  pub size : ℕ
  pub front : bytes ≡ take size reply
  pub tells : TellsValues key volume at count reply done

-- a front of a reply that tells a refusal
abbrev pub IsRefusalFront : List ℕ → Type 0
IsRefusalFront bytes = (refusal : Refusal) × (count : ℕ) × (bytes ≡ take count (refusal_line refusal))

-- what a front of a reply acknowledges that isn't whole: of a read the values of the reply, from its first byte on, and else nothing
abbrev pub AcksFront : Ask → List ℕ → List Deed → Type 0
AcksFront Nothing bytes done = done ≡ []
AcksFront ToBoot bytes done = done ≡ []
AcksFront (ToMake key lines count blocks) bytes done = done ≡ []
AcksFront (ToMakeListed key number) bytes done = done ≡ []
AcksFront (ToDrop key slices force) bytes done = done ≡ []
AcksFront (ToDo deed) bytes done = done ≡ []
AcksFront (ToSee key volume at count) bytes done = (IsRefusalFront bytes × (done ≡ [])) ⊎ TellsFront key volume at count bytes done

-- what the bytes told of a reply acknowledge
abbrev pub AcksIn : Ask → List (List ℕ) → List ℕ → List Deed → Type 0
AcksIn ask [] left done = AcksFront ask left done
AcksIn ask (reply ∷ more) left done = AcksBy ask reply done

abbrev pub Acks : Ask → List ℕ → List Deed → Type 0
Acks ask bytes done = AcksIn ask (replies_in bytes) (left_in bytes) done

-- what an answer acknowledges, once it is told
abbrev pub AcksAnswer : Ask → Answer → List Deed → Type 0
AcksAnswer ask (Said outcome.Ok) done = AcksBy ask ok_line done
AcksAnswer ask (Said (outcome.Values text)) done = AcksBy ask text done
AcksAnswer ask (Said (outcome.Refused refusal)) done = done ≡ []
AcksAnswer ask (Over end) done = done ≡ []

-- What a line may have begun that was answered so: all that it asks, where a call on a drive may have been made for it; a line that tells
-- values begins nothing, nor does one that is refused for another cause than a failed call.
abbrev pub issued_by : Ask → Answer → List Deed
issued_by ask (Said outcome.Ok) = deeds ask
issued_by ask (Said (outcome.Values text)) = []
issued_by ask (Said (outcome.Refused IoFault)) = deeds ask
issued_by ask (Said (outcome.Refused other)) = []
issued_by ask (Over (ended.Lost active listed)) = deeds ask
issued_by ask (Over ended.Spent) = []
issued_by ask (Over ended.Memory) = []
issued_by ask (Over (ended.NoQuorum readable needed)) = []
issued_by ask (Over (ended.TwoDatabases a b)) = []

-- the same by its reply: `ok`, or that a call failed
abbrev pub issuable : Ask → List ℕ → List Deed
issuable ask reply = if bytes_eq reply ok_line || bytes_eq reply (refusal_line IoFault) then deeds ask else []

-- the bytes are a front of the text: none of it, some, or all
abbrev pub is_front_of : List ℕ → List ℕ → Bool
is_front_of text bytes = bytes_eq bytes (take (length bytes) text)

-- By a front of a reply, while no whole one is told: all, where it is a front of `ok` or of the reply that a call failed, as it is before the first byte;
-- and nothing, where it is one of other replies alone.
abbrev pub issuable_front : Ask → List ℕ → List Deed
issuable_front ask front = if is_front_of ok_line front || is_front_of (refusal_line IoFault) front then deeds ask else []

-- by the bytes told of it
abbrev pub issuable_in : Ask → List (List ℕ) → List ℕ → List Deed
issuable_in ask [] left = issuable_front ask left
issuable_in ask (reply ∷ more) left = issuable ask reply

abbrev pub issuable_of : Ask → List ℕ → List Deed
issuable_of ask bytes = issuable_in ask (replies_in bytes) (left_in bytes)

-- the reply to what was told whole
abbrev pub reply_to : Outcome → Reply
reply_to outcome.Ok = reply.Ok
reply_to (outcome.Values text) = reply.Ok
reply_to (outcome.Refused refusal) = reply.Refused refusal

-- and where the run is over
abbrev pub reply_at : Ended → Reply
reply_at (ended.Lost active listed) = reply.Panic active listed
reply_at ended.Spent = reply.Spent
reply_at ended.Memory = reply.NoMemory
reply_at (ended.NoQuorum readable needed) = reply.NoQuorum readable needed
reply_at (ended.TwoDatabases a b) = reply.TwoDatabases a b

-- the giving failed, and a front of the text was told
pub record CutOff (failed : Type 0) (text : List ℕ) (given : Reply) (piece : List ℕ) : Type 0 where
  pub cause : failed
  pub given_is : given ≡ reply.Told
  pub count : ℕ
  pub front : piece ≡ take count text

-- how an answer is told: whole; or a front of it; or there is none to tell
abbrev pub IsTold : Type 0 → Answer → Reply → List ℕ → Type 0
IsTold failed (Said this) given piece = ((given ≡ reply_to this) × (piece ≡ outcome_text this)) ⊎ CutOff failed (outcome_text this) given piece
IsTold failed (Over end) given piece = (given ≡ reply_at end) × (piece ≡ [])

-- a reply was told whole
abbrev pub IsReplied : Reply → Type 0
IsReplied reply.Ok = Unit {0}
IsReplied (reply.Refused refusal) = Unit {0}
IsReplied (reply.Panic active listed) = ⊥
IsReplied reply.Spent = ⊥
IsReplied reply.NoMemory = ⊥
IsReplied reply.Told = ⊥
IsReplied (reply.NoQuorum readable needed) = ⊥
IsReplied (reply.TwoDatabases a b) = ⊥

-- the run is over, and what is in memory and on the drive then isn't known
abbrev pub IsLost : Reply → Type 0
IsLost reply.Ok = ⊥
IsLost (reply.Refused refusal) = ⊥
IsLost (reply.Panic active listed) = Unit {0}
IsLost reply.Spent = Unit {0}
IsLost reply.NoMemory = Unit {0}
IsLost reply.Told = ⊥
IsLost (reply.NoQuorum readable needed) = Unit {0}
IsLost (reply.TwoDatabases a b) = Unit {0}

-- Why a command is answered as it is, by the calls that failed: what is so where it is done; where it is refused for another cause than a failed call; where it tells that one failed; and where the run is over with it, by
-- how many places are active then, of how many that are listed.
pub record Blame : Type 1 where
  pub done : Type 0
  pub none : Type 0
  pub some : Type 0
  pub lost : ℕ → ℕ → Type 0

-- a reply to a line that comes only where the places are lost, or are too few to be read, or the databases are two, or the giving of replies failed
abbrev pub HasReplyCause : (ℕ → ℕ → Type 0) → Type 0 → Reply → Type 0
HasReplyCause lost replies reply.Ok = Unit {0}
HasReplyCause lost replies (reply.Refused refusal) = Unit {0}
HasReplyCause lost replies (reply.Panic active listed) = lost active listed
HasReplyCause lost replies reply.Spent = Unit {0}
HasReplyCause lost replies reply.NoMemory = Unit {0}
HasReplyCause lost replies reply.Told = replies
HasReplyCause lost replies (reply.NoQuorum readable needed) = readable < needed
HasReplyCause lost replies (reply.TwoDatabases a b) = a ≢ b

-- A reply to a command has its cause; of one whose giving failed it says nothing of the drives. A number is spent only of a command that may spend one, and no command ends a run for want of memory, nor as a
-- boot may.
abbrev pub HasCommandCause : Blame → Type 0 → Type 0 → Reply → Type 0
HasCommandCause blame spends replies reply.Ok = blame.done
HasCommandCause blame spends replies (reply.Refused IoFault) = blame.some
HasCommandCause blame spends replies (reply.Refused other) = blame.none
HasCommandCause blame spends replies (reply.Panic active listed) = blame.lost active listed
HasCommandCause blame spends replies reply.Spent = blame.none × spends
HasCommandCause blame spends replies reply.NoMemory = ⊥
HasCommandCause blame spends replies reply.Told = replies
HasCommandCause blame spends replies (reply.NoQuorum readable needed) = ⊥
HasCommandCause blame spends replies (reply.TwoDatabases a b) = ⊥

-- what was said is the reply, or its giving failed
abbrev pub IsReplyTo : Type 0 → Outcome → Reply → Type 0
IsReplyTo failed outcome given = (given ≡ reply_to outcome) ⊎ ((given ≡ reply.Told) × failed)

-- the answer says that what was asked was done
abbrev pub IsAccepted : Answer → Type 0
IsAccepted (Said outcome.Ok) = Unit {0}
IsAccepted (Said (outcome.Values text)) = Unit {0}
IsAccepted (Said (outcome.Refused refusal)) = ⊥
IsAccepted (Over end) = ⊥

-- A boot that isn't answered, by its numbers: fewer places are readable than are needed, or fewer than half are active, where a call failed on some drive; or the databases are two.
abbrev pub HasEndCause : Type 0 → Ended → Type 0
HasEndCause failed (ended.NoQuorum readable needed) = readable < needed
HasEndCause failed (ended.TwoDatabases a b) = a ≢ b
HasEndCause failed (ended.Lost active listed) = failed × (2 * active < listed)
HasEndCause failed ended.Spent = Unit {0}
HasEndCause failed ended.Memory = Unit {0}

-- An answer to a command has its cause; it ends the run with a number that is spent only where it may spend one, and never for want of memory, nor as a boot may.
abbrev pub HasAnswerCause : Blame → Type 0 → Answer → Type 0
HasAnswerCause blame spends (Said outcome.Ok) = blame.done
HasAnswerCause blame spends (Said (outcome.Values text)) = blame.done
HasAnswerCause blame spends (Said (outcome.Refused IoFault)) = blame.some
HasAnswerCause blame spends (Said (outcome.Refused other)) = blame.none
HasAnswerCause blame spends (Over (ended.Lost active listed)) = blame.lost active listed
HasAnswerCause blame spends (Over ended.Spent) = blame.none × spends
HasAnswerCause blame spends (Over ended.Memory) = ⊥
HasAnswerCause blame spends (Over (ended.NoQuorum readable needed)) = ⊥
HasAnswerCause blame spends (Over (ended.TwoDatabases a b)) = ⊥

-- The calls of a telling: one, by which no drive's count rose, and none at all where the reply was told whole; and none where the run is over.
pub record IsTellingCounted {S : Type 0} (shelf : Ghosts S) (old new : S) (given : Reply) : Type 0 where
  pub once : (IsLost given → ⊥) → MadeCalls shelf old new 1 0
  pub one : IsOneCall shelf old new
  pub silent : IsLost given → new ≡ old
  pub calm : IsReplied given → NoFewer (shelf.faults new) (shelf.faults old)
  pub drives : (drive : ℕ) → shelf.faults new (OnDrive drive) ≡ shelf.faults old (OnDrive drive)
