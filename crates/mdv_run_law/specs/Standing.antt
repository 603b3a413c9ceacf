-- How the drive stands with its history at each moment of a run.
use Rattle.std.specs.Prelude.{◌≡◌, ◌≢◌, ◌⊎◌, ◌<◌, ℕ, true, List, [], ◌∷◌, ◌++◌, length, Option, Some, Contains}
use Rattle.mdv_run_law.specs.Below.{AcksBy, AcksFront, AreOwn, Ask, Boot, Created, Deed, Does, Drives, Entry, Event, Everywhere, Happening, BootBegins, History, Host, Identity, IsKnown, IsLine, IsRefusal, IsTab, Knows, Line, Memory, Nothing, OutOfMemory, Reached, Script, ShowsNoTable, Spells, StandsAt, StaysHome, Tab, Tale, asked_by_line, at_end, entries_reply, history_after, is_front_of, issuable, issuable_front, key_of, left_in, line, ok_line, refusal_line, replies_in, site_of, spent, told, too_long}
use Rattle.mdv_engine_law.specs.Standing.{MeetsStaleAt}
use Rattle.mdv_shelf.specs.Moments.{IsSince}
use Rattle.mdv_store_law.specs.Machine as machine
use Rattle.mdv_volumes.specs.History.{Deleted}

-- What the boot and the lines so far have settled for those to come: the entries that are kept. While the last reply is only just told, nothing needs to be
-- known of them.
abbrev pub Context : Type 0
Context = Option (List Entry)

abbrev pub IsSettled : Context → Type 0
IsSettled context = (entries : List Entry) × (context ≡ Some entries)

abbrev pub context_of : Memory → Context
context_of memory = Some memory.entries

-- no item that is built: the grammar doesn't have the line, or it isn't carried out yet
abbrev pub IsNoCommand : List ℕ → Type 0
IsNoCommand text = (spelled : Line) → IsLine text spelled → ⊥

-- what a line asks: nothing, where it isn't built
abbrev pub Asks : Host → List ℕ → Ask → Type 0
Asks host text ask = (IsNoCommand text × (ask ≡ Nothing)) ⊎ ((spelled : Line) × IsLine text spelled × (ask ≡ asked_by_line host spelled))

-- the bytes begin as the reply does that memory was wanting
abbrev pub IsWanting : List ℕ → Type 0
IsWanting bytes = is_front_of (refusal_line OutOfMemory) bytes ≡ true

-- What a line asks, of whose reply these bytes were told; nothing, where memory may have been wanting to read it.
abbrev pub AsksBy : Host → List ℕ → List ℕ → Ask → Type 0
AsksBy host text bytes ask = Asks host text ask ⊎ ((ask ≡ Nothing) × IsWanting bytes)

-- The entries that are kept behind a line with this reply: none behind a boot that was told; those of a `tab` block that was read, whose number is told; and
-- those before, where a boot or a block was refused, and behind any other line.
abbrev pub HasEntries : List ℕ → List ℕ → Option (List Entry) → List Entry → Type 0
HasEntries text reply before entries =
    (IsLine text Boot × (reply ≡ ok_line) × (entries ≡ []))
    ⊎ (((lines : List ℕ) × IsLine text (Tab lines) × IsTab lines entries × (reply ≡ entries_reply (length entries)))
    ⊎ ((IsLine text Boot → IsRefusal reply) × ((lines : List ℕ) → IsLine text (Tab lines) → IsRefusal reply) × (before ≡ Some entries)))

-- events by which nothing is asked and nothing is told
abbrev pub AreIdle : Host → List Event → Type 0
AreIdle host es = Does host [] [] es

-- Events of a line that was answered by this reply: they begin what it asks only where the reply is `ok`, or tells that a call on
-- a drive failed, and else nothing; they tell exactly what the reply acknowledges: the deed where it is `ok`, and of a read the values that the reply tells.
-- A line that boots and is told `ok` begins a boot; and the entries that are kept then are those that the line leaves.
pub record AreOfLine (host : Host) (text : List ℕ) (now : Context) (reply : List ℕ) (es : List Event) (then : Context) : Type 0 where
  pub ask : Ask
  pub asks : AsksBy host text reply ask
  pub done : List Deed
  pub acks : AcksBy ask reply done
  pub does : Does host (issuable ask reply) done es
  pub boots : IsLine text Boot → reply ≡ ok_line → (up : Drives) × BootBegins (key_of host) up es
  pub kept : (entries : List Entry) → then ≡ Some entries → HasEntries text reply now entries

-- Events of the line in work, by the front of its reply that was told: they begin what it asks only where that is a front of `ok`, or of the reply
-- that a call on a drive failed, as it is before the first byte, and else nothing; and they tell what this front acknowledges.
pub record LineInWork (host : Host) (front text : List ℕ) (es : List Event) : Type 0 where
  pub ask : Ask
  pub asks : AsksBy host text front ask
  pub done : List Deed
  pub acks : AcksFront ask front done
  pub does : Does host (issuable_front ask front) done es

-- Events that come, in order, of the lines and blocks of the script that these replies answer, one for each, where the boot and the lines before them
-- have settled this; behind them come events of what is left of the script. What a line settles is known wherever another reply came behind it.
abbrev pub ComeOf : Host → (Context → Script → List Event → Type 0) → Context → Script → List (List ℕ) → List Event → Type 0
ComeOf host Left now script [] es = Left now script es
ComeOf host Left now at_end (reply ∷ replies) es = Left now at_end es
ComeOf host Left now (spent lines bytes) (reply ∷ replies) es = Left now (spent lines bytes) es
ComeOf host Left now (too_long more) (reply ∷ replies) es =
    (first : List Event) × (rest : List Event) × (es ≡ first ++ rest) × AreIdle host first × ComeOf host Left now more replies rest
ComeOf host Left now (line text more) (reply ∷ replies) es =
    (first : List Event) × (rest : List Event) × (es ≡ first ++ rest) × (then : Context) × AreOfLine host text now reply first then × (replies ≢ [] → IsSettled then) × ComeOf host Left then more replies rest

-- Of the line in work, of which these bytes were told, that are no reply yet: nothing came and nothing was told; or all before it is settled, and they begin what it asks only where the
-- bytes are a front of `ok`, or of the reply that a call failed, and tell what this front of its reply acknowledges, which of a read is its values from the
-- first byte on.
abbrev pub InWork : Host → List ℕ → Context → Script → List Event → Type 0
InWork host front now at_end es = AreIdle host es
InWork host front now (spent lines bytes) es = AreIdle host es
InWork host front now (too_long more) es = AreIdle host es
InWork host front now (line text more) es = ((front ≡ []) × (es ≡ [])) ⊎ (IsSettled now × LineInWork host front text es)

-- none, and this is settled
abbrev pub NothingLeft : Context → Context → Script → List Event → Type 0
NothingLeft last now script es = (es ≡ []) × (now ≡ last)

-- the deed was told by these replies to the script: its line's reply acknowledges it
abbrev pub IsTold : Host → Script → List (List ℕ) → Deed → Type 0
IsTold host at_end replies deed = ⊥
IsTold host (spent lines bytes) replies deed = ⊥
IsTold host (too_long more) [] deed = ⊥
IsTold host (too_long more) (reply ∷ replies) deed = IsTold host more replies deed
IsTold host (line text more) [] deed = ⊥
IsTold host (line text more) (reply ∷ replies) deed = ((ask : Ask) × Asks host text ask × (done : List Deed) × AcksBy ask reply done × Contains done deed) ⊎ IsTold host more replies deed

-- all that was told so, in the order of the lines, and of the next line by this front of its reply
abbrev pub AreTold : Host → Script → List (List ℕ) → List ℕ → List Deed → Type 0
AreTold host at_end replies front told = told ≡ []
AreTold host (spent lines bytes) replies front told = told ≡ []
AreTold host (too_long more) [] front told = told ≡ []
AreTold host (too_long more) (reply ∷ replies) front told = AreTold host more replies front told
AreTold host (line text more) [] front told = (told ≡ []) ⊎ ((ask : Ask) × AsksBy host text front ask × AcksFront ask front told)
AreTold host (line text more) (reply ∷ replies) front told =
    (ask : Ask) × AsksBy host text reply ask × (done : List Deed) × AcksBy ask reply done × (rest : List Deed) × AreTold host more replies front rest × (told ≡ done ++ rest)

-- What the lines may have begun, in their order: each what it asks, where its reply is `ok` or tells that a call failed; and the next
-- one, of whose reply this front was told, where that is a front of one of these, as it is before the first byte.
abbrev pub AreBegun : Host → Script → List (List ℕ) → List ℕ → List Deed → Type 0
AreBegun host at_end replies front begun = begun ≡ []
AreBegun host (spent lines bytes) replies front begun = begun ≡ []
AreBegun host (too_long more) [] front begun = begun ≡ []
AreBegun host (too_long more) (reply ∷ replies) front begun = AreBegun host more replies front begun
AreBegun host (line text more) [] front begun = (begun ≡ []) ⊎ ((ask : Ask) × AsksBy host text front ask × (begun ≡ issuable_front ask front))
AreBegun host (line text more) (reply ∷ replies) front begun = (ask : Ask) × AsksBy host text reply ask × (rest : List Deed) × AreBegun host more replies front rest × (begun ≡ issuable ask reply ++ rest)

-- the events of a run: those of its boot, and those of the lines that these replies answer, and of what is left then
pub record AreOfRunBy (host : Host) (Left : Context → Script → List Event → Type 0) (script : Script) (replies : List (List ℕ)) (es : List Event) : Type 0 where
  pub boot : List Event
  pub lines : List Event
  pub both : es ≡ boot ++ lines
  pub idle : AreIdle host boot
  pub booted : (up : Drives) × BootBegins (key_of host) up boot
  pub come : ComeOf host Left (Some []) script replies lines

-- of which these bytes were told: those of its boot, and those of the lines so far
abbrev pub AreOfRun : Host → Script → List ℕ → List Event → Type 0
AreOfRun host script bytes es = AreOfRunBy host (InWork host (left_in bytes)) script (replies_in bytes) es

-- from a history by some events of such a kind to one that the drive stands with, of which more is known
abbrev pub Goes : Host → (List Event → Type 0) → (List Event → History → Type 0) → Tale → History → Type 0
Goes host Come After m h = machine.Goes history_after (Happening host) Come (λ g. StandsAt host g m) After h

-- what is left of a script behind so many replies
abbrev pub behind : Script → List (List ℕ) → Script
behind at_end replies = at_end
behind (spent lines bytes) replies = spent lines bytes
behind (too_long more) [] = too_long more
behind (too_long more) (reply ∷ replies) = behind more replies
behind (line text more) [] = line text more
behind (line text more) (reply ∷ replies) = behind more replies

-- bytes that are whole replies
pub record AreReplies (bytes : List ℕ) : Type 0 where
  pub replies : (rest : List ℕ) → replies_in (bytes ++ rest) ≡ replies_in bytes ++ replies_in rest
  pub left : (rest : List ℕ) → left_in (bytes ++ rest) ≡ left_in rest

-- none came, and the next line boots
abbrev pub AtBoot : Context → Script → List Event → Type 0
AtBoot now at_end es = ⊥
AtBoot now (spent lines bytes) es = ⊥
AtBoot now (too_long more) es = ⊥
AtBoot now (line text more) es = (es ≡ []) × IsLine text Boot

-- A boot met a stale vote that a line asked, between t and m: as it began, behind whole replies, the history had gone on by events of the lines before, and then the drives held what that boot read.
pub record HasMetBehind (host : Host) (Come : List (List ℕ) → List Event → Type 0) (t m : Tale) (h : History) : Type 0 where
  pub began : Tale
  pub since : IsSince t began
  pub before : IsSince began m
  pub bytes : List ℕ
  pub is_told : told began ≡ told t ++ bytes
  pub replies : AreReplies bytes
  pub met : Goes host (Come (replies_in bytes)) (λ es after. MeetsStaleAt host after began) began h

-- so it was in a stretch of lines that began with that memory
abbrev pub HasMetInLines : Host → Script → Memory → Tale → Tale → History → Type 0
HasMetInLines host script first t m h = HasMetBehind host (λ replies es. ComeOf host AtBoot (context_of first) script replies es) t m h

-- and in a run: its own boot did, or one that a line asked
abbrev pub HasMetInRun : Host → Script → Tale → Tale → History → Type 0
HasMetInRun host script t m h = MeetsStaleAt host h t ⊎ HasMetBehind host (λ replies es. AreOfRunBy host AtBoot script replies es) t m h

-- one of the lines may have begun an end of the host's database
abbrev pub MayEnd : Host → Script → List ℕ → Type 0
MayEnd host script bytes = (begun : List Deed) × AreBegun host script (replies_in bytes) (left_in bytes) begun × Contains begun (Deleted (key_of host))

-- whatever a crash leaves, a replica of one of the host's databases shows a table
pub record ShowsMade (host : Host) (t : Tale) : Type 0 where
  pub identity : Identity
  pub each : Everywhere (λ image. ShowsNoTable (Spells host.drives) (site_of host.drives (key_of host)) identity image → ⊥) t

-- A moment of a run of that script that began at t: nothing happened outside the host's blocks, and, if none of its boots met a stale vote, the drives stand with each history that it stood with at the start, gone on
-- by the events of the boot and of the lines so far, in their order; each line's events begin what it asks only where it was answered
-- `ok`, or that a call failed, or where no more of its reply was told than a front of one of these, and tell exactly what its reply
-- acknowledges: a deed where it is `ok`, and of a read the values that it tells, each of which its block may have. Blocks of a volume are read and written only
-- where the last boot in the history, if it brought up the volume's drives and each is steady since, has found one value of each, or the volume was made since. Where a creation was told, and no end of the host's database may have begun in the run, whatever a crash leaves shows a table of
-- it, if the drives stood with some such history. The histories are of the host's own databases, none of which has the word of this run as it begins.
pub record RunMoment (host : Host) (script : Script) (t m : Tale) : Type 0 where
  pub bytes : List ℕ
  pub is_told : told m ≡ told t ++ bytes
  pub home : StaysHome host t m
  pub made : (h : History) → StandsAt host h t → AreOwn host 0 h → IsTold host script (replies_in bytes) (Created (key_of host)) → (MayEnd host script bytes → ⊥) → HasMetInRun host script t m h ⊎ ShowsMade host m
  pub stands : (h : History) → StandsAt host h t → AreOwn host 0 h → HasMetInRun host script t m h ⊎ Goes host (AreOfRun host script bytes) Reached m h

-- a moment of a stretch of lines that began with that memory; of its line in work come the events that the front of its reply lets come
pub record LinesMoment (host : Host) (script : Script) (first : Memory) (t m : Tale) : Type 0 where
  pub bytes : List ℕ
  pub is_told : told m ≡ told t ++ bytes
  pub since : IsSince t m
  pub home : StaysHome host t m
  pub goes : (h : History) → IsKnown host first h t → HasMetInLines host script first t m h ⊎ Goes host (ComeOf host (InWork host (left_in bytes)) (context_of first) script (replies_in bytes)) Reached m h

-- so it was of one that was answered by then: some byte was told since it began
abbrev pub HasMetInLinesTold : Host → Script → Memory → Tale → Tale → History → Type 0
HasMetInLinesTold host script first t u h = (met : HasMetInLines host script first t u h) × (length (told met.began) < length (told u))

-- lines and their replies, told whole, that led from one memory to the other, and from one script to what is left of it
pub record RanTo (host : Host) (script : Script) (first now : Memory) (left : Script) (t u : Tale) : Type 0 where
  pub bytes : List ℕ
  pub is_told : told u ≡ told t ++ bytes
  pub replies : AreReplies bytes
  pub left_is : behind script (replies_in bytes) ≡ left
  pub since : IsSince t u
  pub home : StaysHome host t u
  pub knows : Knows host first t → Knows host now u
  pub goes : (h : History) → IsKnown host first h t → HasMetInLinesTold host script first t u h ⊎ Goes host (ComeOf host (NothingLeft (context_of now)) (context_of first) script (replies_in bytes)) (λ es after. IsKnown host now after u) u h
