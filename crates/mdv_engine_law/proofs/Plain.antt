-- The texts of replies: which refusals are plain, and that of each text one line answers.
use Rattle.std.proofs.Common.{◌≡◌, ◌⊎◌, ⊎_elim, inl, inr, ℕ, zero, suc, ◌≤◌, ◌<◌, Bool, true, false, ◌&&◌, ◌||◌, if◌then◌else◌, not, List, [], ◌∷◌, ◌++◌, ◌+◌, ◌*◌, length, take, Option, Some, None, All, refl, sym, ◌∙◌, ap, subst, append_assoc, length-append, arith}
use Rattle.std.proofs.Math.Bool.{or-true}
use Rattle.std.proofs.lemmas.List.{append-nil, length-take, take_all, take-append-le, take_min}
use Rattle.std.proofs.lemmas.List.Elements.{All-append, All-nil, All-cons}
use Rattle.std.proofs.lemmas.Slice.Eq.{bytes_eq-Decides}
use Rattle.std.specs.List.{list_any}
use Rattle.std.specs.Option.{option_map}
use Rattle.std.proofs.lemmas.Option.{none-some, same_Some}
use Rattle.std.specs.Prelude.{is_some, nat_lt}
use Rattle.std.specs.Fmt.{digits, decimal}
use Rattle.mdv_engine_law.specs.Below.{refusal_text, SliceName, VolId, Refusal, BadLine, NoDatabase, NeedForce, NoSuchVolume, NoSuchPool, Named, NameTaken, NoSuchSlice, SliceInUse, TooSmall, TooMany, WrongKind, WrongState, ReplicaFull, OutOfRange, IoFault, OutOfMemory, LineTooLong, Down, PlanChange, Opened, Command, Print, Read, Write, Map, blocks_of, lacks, map_of, one_reply, refused, replies_in, said_in, unsaid, with_reply, Deed, Place, StateWord, AddListed, AddPlaces, DropPlaces}
use Rattle.mdv_base.specs.Order.{order, where_so}
use Rattle.mdv_base.specs.declared.refusal.Refusal.TheVariants.{BadInterlace, HasParent, LastCopy, Nested, NoSpace, SpareInUse, TooFew}
use Rattle.mdv_change.specs.Change as table
use Rattle.mdv_components.specs.Causes as causes
use Rattle.mdv_components.specs.Causes.{first_of, told}
use Rattle.mdv_components.specs.declared.cause.Carried.{Carried}
use Rattle.mdv_components.specs.declared.cause.Cause.{Cause}
use Rattle.mdv_components.specs.declared.cause.Cause.TheVariants as cause
use Rattle.mdv_keeping.specs.Built.{names_db}
use Rattle.mdv_keeping.specs.Refused.{cause_with}
use Rattle.mdv_base.proofs.Order.{first_holds}
use Rattle.mdv_status.specs.Telling.{Said as SaidBytes}
use Rattle.mdv_words.specs.declared.command.Command.TheVariants as command
use Rattle.mdv_status.proofs.Lines.{decimal_lacks}
use Rattle.mdv_status.proofs.Pieces.{lacks_append, lacks_one, lacks_take}
use Rattle.mdv_status.proofs.Replies.{entries_are_one_reply, prints_are_one_reply, values_are_one_reply, refusals_are_one_reply}
use Rattle.mdv_engine_law.specs.declared.answer.Answer.{Answer}
use Rattle.mdv_engine_law.specs.declared.answer.Answer.TheVariants.{Said, Over}
use Rattle.mdv_engine_law.specs.declared.answer.Ended.TheVariants as ended
use Rattle.mdv_engine_law.specs.declared.answer.Outcome.TheVariants as outcome
use Rattle.mdv_engine_law.specs.declared.host.Host.{Host}
use Rattle.mdv_engine_law.specs.Altering.{change_of}
use Rattle.mdv_engine_law.specs.Line.{Ask, Nothing, ToBoot, ToDo, ToDrop, ToMake, ToMakeListed, ToSee, deeds, record_room}
use Rattle.mdv_engine_law.specs.Refusals.{Case, bytes_after, held, held_of_alteration, held_of_blocks, held_of_change, held_of_drop, held_of_less, held_of_lists, held_of_others, held_of_print, held_of_replicas, held_of_transfer, held_past, in_state, is_doubled, is_missing, is_plain, is_short, is_taken, listed, names_no_volume, names_pool, places_open, refusal_of, rest_of, state_of_less, told_by_table}
use Rattle.mdv_engine_law.specs.Places.{are_all, bytes_with, list_more, list_of, room_with}
use Rattle.mdv_base.specs.declared.state_word.StateWord.TheVariants.{Okay, Resyncing, Maintenance, LastErred, Initializing, Offline, Online, Absent, Inactive, Pending, Mediated, Owner, Available, InUse, Broken, TwoDatabases}
use Rattle.mdv_name.specs.SliceIndex.{slice_at}
use Rattle.mdv_engine_law.specs.Replies.{Acks, AcksAnswer, AcksBy, AcksFront, AcksIn, IsRefusalFront, IsPlain, IsPlainAnswer, IsReply, IsText, IsFront, IsAccepted, is_front_of, issuable, issuable_front, issuable_in, issuable_of, issued_by, text_of, refusal_line, ok_line}
use Rattle.mdv_store_law.specs.Part.{IsPart}
use Rattle.mdv_store_law.proofs.Parts.{part_itself}

-- each refusal's text begins so
plainly : (r : Refusal) → lacks 10 (refusal_text r) ≡ true → take 9 (refusal_text r) ≡ refused → IsPlain r
plainly r one_line begins = record { one_line = one_line; begins = begins }

pub too_long_plain : IsPlain LineTooLong
unfolding digits
too_long_plain = plainly LineTooLong refl refl

pub too_many_plain : IsPlain TooMany
unfolding digits
too_many_plain = plainly TooMany refl refl

pub bad_line_plain : IsPlain BadLine
unfolding digits
bad_line_plain = plainly BadLine refl refl

pub fault_plain : IsPlain IoFault
unfolding digits
fault_plain = plainly IoFault refl refl

pub memory_plain : IsPlain OutOfMemory
unfolding digits
memory_plain = plainly OutOfMemory refl refl

pub numbers_plain : (bytes room : ℕ) → IsPlain (ReplicaFull bytes room)
unfolding digits
numbers_plain bytes room = plainly (ReplicaFull bytes room) (lacks_append (decimal bytes) (32 ∷ decimal room) (decimal_lacks bytes) (lacks_one 32 (decimal room) refl (decimal_lacks room))) refl

-- a refusal whose cause may hold is plain
and_plain : (holds : Bool) (r : Refusal) (rest : List Refusal) → IsPlain r → All IsPlain rest → All IsPlain (where_so holds r ++ rest)
and_plain true r rest plain behind = All-cons IsPlain r rest plain behind
and_plain false r rest plain behind = behind

where_plain : (holds : Bool) (r : Refusal) → IsPlain r → All IsPlain (where_so holds r)
where_plain true r plain = All-cons IsPlain r [] plain (All-nil IsPlain)
where_plain false r plain = All-nil IsPlain

-- those of replicas on slices
module _ (gone plain unread many unforced used small : Bool) where
  abbrev from_used : List Refusal
  from_used = where_so used SliceInUse ++ where_so small TooSmall

  abbrev from_many : List Refusal
  from_many = where_so many TooMany ++ (where_so unforced NeedForce ++ from_used)

  abbrev from_unread : List Refusal
  from_unread = where_so unread (WrongState Down) ++ from_many

  replicas_plain : All IsPlain (where_so gone NoSuchSlice ++ (where_so plain WrongKind ++ from_unread))
  unfolding digits
  replicas_plain =
      and_plain gone NoSuchSlice (where_so plain WrongKind ++ from_unread) (plainly NoSuchSlice refl refl) (and_plain plain WrongKind from_unread (plainly WrongKind refl refl)
      (and_plain unread (WrongState Down) from_many (plainly (WrongState Down) refl refl) (and_plain many TooMany (where_so unforced NeedForce ++ from_used) too_many_plain (and_plain unforced NeedForce from_used (plainly NeedForce refl refl)
      (and_plain used SliceInUse (where_so small TooSmall) (plainly SliceInUse refl refl) (where_plain small TooSmall (plainly TooSmall refl refl)))))))

one_plain : (r : Refusal) → IsPlain r → All IsPlain (r ∷ [])
one_plain r plain = All-cons IsPlain r [] plain (All-nil IsPlain)

no_database_plain : All IsPlain (NoDatabase ∷ [])
unfolding digits
no_database_plain = one_plain NoDatabase (plainly NoDatabase refl refl)

-- a state that stands in the way
word_plain : (word : StateWord) → IsPlain (WrongState word)
unfolding digits
word_plain Okay = plainly (WrongState Okay) refl refl
word_plain Resyncing = plainly (WrongState Resyncing) refl refl
word_plain Maintenance = plainly (WrongState Maintenance) refl refl
word_plain LastErred = plainly (WrongState LastErred) refl refl
word_plain Initializing = plainly (WrongState Initializing) refl refl
word_plain Offline = plainly (WrongState Offline) refl refl
word_plain Online = plainly (WrongState Online) refl refl
word_plain Absent = plainly (WrongState Absent) refl refl
word_plain Down = plainly (WrongState Down) refl refl
word_plain Inactive = plainly (WrongState Inactive) refl refl
word_plain Pending = plainly (WrongState Pending) refl refl
word_plain Mediated = plainly (WrongState Mediated) refl refl
word_plain Owner = plainly (WrongState Owner) refl refl
word_plain Available = plainly (WrongState Available) refl refl
word_plain InUse = plainly (WrongState InUse) refl refl
word_plain Broken = plainly (WrongState Broken) refl refl
word_plain TwoDatabases = plainly (WrongState TwoDatabases) refl refl

-- those of a change of volumes, by the cause that its table has against it
cause_plain : (carried : Carried) (c : Cause) → IsPlain (told carried c)
unfolding digits
cause_plain carried cause.NoSuchVolume = plainly NoSuchVolume refl refl
cause_plain carried cause.NoSuchPool = plainly NoSuchPool refl refl
cause_plain carried cause.NoSuchSlice = plainly NoSuchSlice refl refl
cause_plain carried cause.NameTaken = plainly NameTaken refl refl
cause_plain carried cause.WrongKind = plainly WrongKind refl refl
cause_plain carried cause.WrongState = word_plain carried.state
cause_plain carried cause.LastCopy = plainly LastCopy refl refl
cause_plain carried cause.TooFew = plainly TooFew refl refl
cause_plain carried cause.TooMany = too_many_plain
cause_plain carried cause.BadInterlace = plainly BadInterlace refl refl
cause_plain carried cause.SliceInUse = plainly SliceInUse refl refl
cause_plain carried cause.HasParent = plainly HasParent refl refl
cause_plain carried cause.Nested = plainly Nested refl refl
cause_plain carried cause.SpareInUse = plainly SpareInUse refl refl
cause_plain carried cause.TooSmall = plainly TooSmall refl refl
cause_plain carried cause.NoSpace = plainly (NoSpace carried.blocks) (decimal_lacks carried.blocks) refl

first_plain : (carried : Carried) (first : Option Cause) (r : Refusal) → option_map (told carried) first ≡ Some r → IsPlain r
first_plain carried None r is = absurd (none-some r is)
first_plain carried (Some c) r is = subst IsPlain (same_Some (told carried c) r is) (cause_plain carried c)

-- or that a component lies on a slice for replicas
with_plain : (first : Option Refusal) (is_db : Bool) → ((q : Refusal) → first ≡ Some q → IsPlain q) → (r : Refusal) → cause_with first is_db ≡ Some r → IsPlain r
unfolding digits
with_plain first false plain r is = plain r is
with_plain None true plain r is = subst IsPlain (same_Some WrongKind r is) (plainly WrongKind refl refl)
with_plain (Some q) true plain r is = first_holds IsPlain order (q ∷ WrongKind ∷ []) r (All-cons IsPlain q (WrongKind ∷ []) (plain q refl) (one_plain WrongKind (plainly WrongKind refl refl))) is

table_plain : (host : Host) (o : Opened) (change : PlanChange) (r : Refusal) → told_by_table host o change ≡ Some r → IsPlain r
table_plain host o change = with_plain (table.refusal_of host.drives host.site.drives o.table change) (names_db host.drives change)
    (first_plain (table.carried host.drives o.table change) (first_of (table.condition host.drives host.site.drives o.table change) causes.order))

listed_plain : (told : Option Refusal) → ((r : Refusal) → told ≡ Some r → IsPlain r) → All IsPlain (listed told)
listed_plain None plain = All-nil IsPlain
listed_plain (Some r) plain = one_plain r (plain r refl)

change_plain : (host : Host) (opened : Option Opened) (change : PlanChange) → All IsPlain (held_of_change host opened change)
change_plain host None change = no_database_plain
change_plain host (Some o) change =
    All-append IsPlain (listed (told_by_table host o change)) (where_so (nat_lt (record_room o) (bytes_after host o change)) (ReplicaFull (bytes_after host o change) (record_room o)))
    (listed_plain (told_by_table host o change) (table_plain host o change))
    (where_plain (nat_lt (record_room o) (bytes_after host o change)) (ReplicaFull (bytes_after host o change) (record_room o)) (numbers_plain (bytes_after host o change) (record_room o)))

alteration_plain : (host : Host) (opened : Option Opened) (asked : Option PlanChange) → All IsPlain (held_of_alteration host opened asked)
alteration_plain host opened None = one_plain BadLine bad_line_plain
alteration_plain host opened (Some change) = change_plain host opened change

past_plain : (map : Option Map) (end : ℕ) → All IsPlain (held_past map end)
unfolding digits
past_plain None end = one_plain NoSuchVolume (plainly NoSuchVolume refl refl)
past_plain (Some v) end = where_plain (nat_lt v.blocks end) OutOfRange (plainly OutOfRange refl refl)

pub blocks_plain : (host : Host) (opened : Option Opened) (volume : VolId) (end : ℕ) → All IsPlain (held_of_blocks host opened volume end)
blocks_plain host None volume end = no_database_plain
blocks_plain host (Some o) volume end = past_plain (map_of host.drives o.table volume) end

transfer_plain : (host : Host) (opened : Option Opened) (volume : VolId) (at count : ℕ) → All IsPlain (held_of_transfer host opened volume at count)
transfer_plain host opened volume at count =
    All-append IsPlain (held_of_blocks host opened volume (at + count)) (where_so (nat_lt 1024 count) TooMany) (blocks_plain host opened volume (at + count)) (where_plain (nat_lt 1024 count) TooMany too_many_plain)

print_plain : (opened : Option Opened) (names : List Named) → All IsPlain (held_of_print opened names)
unfolding digits
print_plain None names = no_database_plain
print_plain (Some newest) names =
    let missing = list_any (names_no_volume newest.table.plan) names in
    All-append IsPlain (where_so missing NoSuchVolume) (where_so (list_any names_pool names) NoSuchPool) (where_plain missing NoSuchVolume (plainly NoSuchVolume refl refl)) (where_plain (list_any names_pool names) NoSuchPool (plainly NoSuchPool refl refl))

lists_plain : (o : Opened) (list : List Place) → All IsPlain (held_of_lists o list)
lists_plain o list = where_plain (nat_lt (room_with o list) (bytes_with o list)) (ReplicaFull (bytes_with o list) (room_with o list)) (numbers_plain (bytes_with o list) (room_with o list))

others_plain : (opened : Option Opened) (slices : List SliceName) (count blocks : ℕ) → All IsPlain (held_of_others opened slices count blocks)
others_plain None slices count blocks = All-nil IsPlain
others_plain (Some o) slices count blocks = lists_plain o (list_more slices count blocks (list_of o))

-- those of places that go
state_plain : (state : Option StateWord) → All IsPlain (in_state state)
state_plain None = All-nil IsPlain
state_plain (Some word) = one_plain (WrongState word) (word_plain word)

less_plain : (gone plain unforced : Bool) (state : Option StateWord) → All IsPlain (where_so gone NoSuchSlice ++ (where_so plain WrongKind ++ (in_state state ++ where_so unforced NeedForce)))
unfolding digits
less_plain gone plain unforced state =
    let last = where_so unforced NeedForce in
    and_plain gone NoSuchSlice (where_so plain WrongKind ++ (in_state state ++ last)) (plainly NoSuchSlice refl refl) (and_plain plain WrongKind (in_state state ++ last) (plainly WrongKind refl refl)
    (All-append IsPlain (in_state state) last (state_plain state) (where_plain unforced NeedForce (plainly NeedForce refl refl))))

drop_plain : (case : Case) (opened : Option Opened) (slices : List SliceName) (force : Bool) → All IsPlain (held_of_drop case opened slices force)
drop_plain case None slices force = no_database_plain
drop_plain case (Some o) slices force = All-append IsPlain (held_of_less case o slices force) (held_of_lists o (rest_of o slices))
    (less_plain (list_any (is_missing case.host) slices) (list_any (λ slice. is_plain (slice_at case.host.drives.slices slice)) slices) (are_all o slices && not force) (state_of_less case o slices))
    (lists_plain o (rest_of o slices))

held_plain : (case : Case) (command : Command) → All IsPlain (held case command)
held_plain case (AddPlaces slices force count blocks) =
    let opened = is_some case.memory.opened in
    All-append IsPlain (held_of_replicas case slices force count blocks) (held_of_others case.memory.opened slices count blocks)
    (replicas_plain (list_any (is_missing case.host) slices) (list_any (λ slice. is_plain (slice_at case.host.drives.slices slice)) slices) (not opened && not case.memory.clean) (nat_lt 50 (length (places_open case.memory.opened) + length slices * count))
    (not opened && not force) (list_any (is_taken case) slices || is_doubled slices) (list_any (is_short case.host count blocks) slices)) (others_plain case.memory.opened slices count blocks)
held_plain case (AddListed number force) = one_plain BadLine bad_line_plain
held_plain case (DropPlaces slices force) = drop_plain case case.memory.opened slices force
held_plain case (command.Alter alteration) = alteration_plain case.host case.memory.opened (change_of alteration)
held_plain case (Read volume at count) = transfer_plain case.host case.memory.opened volume at count
held_plain case (Write volume at what) = transfer_plain case.host case.memory.opened volume at (length (blocks_of what))
held_plain case (Print names) = print_plain case.memory.opened names

-- whatever a command is refused for
pub refusal_plain : (case : Case) (command : Command) (r : Refusal) → refusal_of case command ≡ Some r → IsPlain r
refusal_plain case command r is = first_holds IsPlain order (held case command) r (held_plain case command) is

-- the text is one reply, once its last byte is told
pub record Answers (text : List ℕ) : Type 0 where
  pub behind : (rest : List ℕ) → said_in (text ++ rest) ≡ with_reply text (said_in rest)
  pub before : (count : ℕ) → count < length text → said_in (take count text) ≡ unsaid (take count text)

-- the text of values, of entries or of a print is one reply
pub values_answer : (text : List ℕ) → IsText text → Answers text
values_answer text (inl are) = subst Answers (sym are.is) (record { behind = values_are_one_reply.more are.at are.blocks; before = values_are_one_reply.front are.at are.blocks })
values_answer text (inr (inl are)) = subst Answers (sym are.is) (record { behind = entries_are_one_reply.more are.count; before = entries_are_one_reply.front are.count })
values_answer text (inr (inr are)) = subst Answers (sym are.is) (record {
  behind = λ rest. prints_are_one_reply.more are.lines rest are.quiet;
  before = λ count. prints_are_one_reply.front are.lines count are.quiet;
})

pub nothing_said : said_in [] ≡ unsaid []
nothing_said = refusals_are_one_reply.front [] refl

pub nothing_answers : replies_in [] ≡ []
nothing_answers = ap (λ (s : SaidBytes). s.replies) nothing_said

alone : (text : List ℕ) → Answers text → said_in text ≡ one_reply text
alone text answers = ap said_in (sym (append-nil text)) ∙ answers.behind [] ∙ ap (with_reply text) nothing_said

le_or_gt : (a b : ℕ) → (a < b) ⊎ (b ≤ a)
le_or_gt a b = grind arith

-- a front of it is none yet, or all of it
front_ways : (text : List ℕ) → Answers text → (count : ℕ) → (said_in (take count text) ≡ unsaid (take count text)) ⊎ ((take count text ≡ text) × (said_in (take count text) ≡ one_reply text))
front_ways text answers count = ⊎_elim
    (λ (short : count < length text). inl (answers.before count short))
    (λ (long : length text ≤ count). (let whole = take_all count text long in inr (whole, ap said_in whole ∙ alone text answers)))
    (le_or_gt count (length text))

-- what is taken of a text is a front of it
pub taken_front : (text : List ℕ) (count : ℕ) → is_front_of text (take count text) ≡ true
taken_front text count = (bytes_eq-Decides (take count text) (take (length (take count text)) text)).1 (sym (ap (λ (size : ℕ). take size text) (length-take count text) ∙ take_min count text))

take_none : (count : ℕ) → take {A = ℕ} count [] ≡ []
take_none zero = refl
take_none (suc count) = refl

none_ways : (count : ℕ) → said_in (take count []) ≡ unsaid (take count [])
none_ways count = subst (λ (l : List ℕ). said_in l ≡ unsaid l) (sym (take_none count)) nothing_said

ok_answers : Answers ok_line
ok_answers = values_answer ok_line (inl (record { at = 0; blocks = []; is = refl }))

-- and so is that of a plain refusal
pub refusal_answers : (r : Refusal) → IsPlain r → Answers (refusal_line r)
refusal_answers r plain = record {
  behind = λ rest. ap said_in (append_assoc (refusal_text r) (10 ∷ []) rest) ∙ refusals_are_one_reply.more (refusal_text r) rest plain.one_line plain.begins;
  before = λ count short.
      let text = refusal_text r in
      let size = length-append text (10 ∷ []) in
      let within : count ≤ length text = omega arith in
      subst (λ (l : List ℕ). said_in l ≡ unsaid l) (sym (take-append-le count text (10 ∷ []) within)) (refusals_are_one_reply.front (take count text) (lacks_take count text plain.one_line));
}

front_is : (text : List ℕ) → Answers text → (count : ℕ) → IsFront (take count text)
front_is text answers count = ⊎_elim
    (λ (none : said_in (take count text) ≡ unsaid (take count text)). inl none)
    (λ (one : (take count text ≡ text) × (said_in (take count text) ≡ one_reply text)). inr (one.1 ∙ ap one_reply (sym one.0)))
    (front_ways text answers count)

-- what was told of an answer is a front of one reply
pub front_of : (answer : Answer) → IsPlainAnswer answer → (count : ℕ) → IsFront (take count (text_of answer))
front_of (Said outcome.Ok) plain count = front_is ok_line ok_answers count
front_of (Said (outcome.Values text)) plain count = front_is text (values_answer text plain) count
front_of (Said (outcome.Refused r)) plain count = front_is (refusal_line r) (refusal_answers r plain) count
front_of (Over end) plain count = inl (none_ways count)

reply_is : (text : List ℕ) → Answers text → IsReply text
reply_is text answers = record { alone = alone text answers; behind = answers.behind }

-- a whole text is one reply
pub ok_reply : IsReply ok_line
ok_reply = reply_is ok_line ok_answers

pub values_are_reply : (text : List ℕ) → IsText text → IsReply text
values_are_reply text are = reply_is text (values_answer text are)

pub refusal_reply : (r : Refusal) → IsPlain r → IsReply (refusal_line r)
refusal_reply r plain = reply_is (refusal_line r) (refusal_answers r plain)

-- what the bytes acknowledge to a line that asks this, and what they let it begin
module _ (ask : Ask) where
  -- a front of a refusal acknowledges nothing
  refusal_front : (bytes : List ℕ) → IsRefusalFront bytes → AcksFront ask bytes []
  refusal_front bytes is = by ask where
    by : (a : Ask) → AcksFront a bytes []
    by Nothing = refl
    by ToBoot = refl
    by (ToMake key lines count blocks) = refl
    by (ToMakeListed key number) = refl
    by (ToDrop key slices force) = refl
    by (ToDo deed) = refl
    by (ToSee key volume at count) = inl (is, refl)

  -- nor does nothing
  no_front : (bytes : List ℕ) → bytes ≡ [] → AcksFront ask bytes []
  no_front bytes none = refusal_front bytes (BadLine, 0, none)

  acks_unsaid : (bytes : List ℕ) (done : List Deed) → said_in bytes ≡ unsaid bytes → AcksFront ask bytes done → Acks ask bytes done
  acks_unsaid bytes done none acks = subst (λ (s : SaidBytes). AcksIn ask s.replies s.left done) (sym none) acks

  pub nothing_acked : Acks ask [] []
  nothing_acked = acks_unsaid [] [] nothing_said (no_front [] refl)

  acks_one : (bytes reply : List ℕ) (done : List Deed) → said_in bytes ≡ one_reply reply → AcksBy ask reply done → Acks ask bytes done
  acks_one bytes reply done one acks = subst (λ (s : SaidBytes). AcksIn ask s.replies s.left done) (sym one) acks

  issuable_unsaid : (bytes : List ℕ) → said_in bytes ≡ unsaid bytes → issuable_of ask bytes ≡ issuable_front ask bytes
  issuable_unsaid bytes none = ap (λ (s : SaidBytes). issuable_in ask s.replies s.left) none

  pub nothing_issuable : issuable_of ask [] ≡ deeds ask
  nothing_issuable = issuable_unsaid [] nothing_said

  -- a refusal acknowledges nothing
  pub refusal_acks : (r : Refusal) → AcksBy ask (refusal_line r) []
  refusal_acks r = by ask where
    by : (a : Ask) → AcksBy a (refusal_line r) []
    by Nothing = refl
    by ToBoot = refl
    by (ToMake key lines count blocks) = refl
    by (ToMakeListed key number) = refl
    by (ToDrop key slices force) = refl
    by (ToDo deed) = refl
    by (ToSee key volume at count) = inl ((r, refl), refl)

  -- what an answer says that the line may have begun is no more than what it asks
  issued_asked : (answer : Answer) → IsPart (issued_by ask answer) (deeds ask)
  issued_asked (Said outcome.Ok) = part_itself (deeds ask)
  issued_asked (Said (outcome.Values text)) = tt
  issued_asked (Said (outcome.Refused IoFault)) = part_itself (deeds ask)
  issued_asked (Said (outcome.Refused other)) = tt
  issued_asked (Over (ended.Lost active listed)) = part_itself (deeds ask)
  issued_asked (Over ended.Spent) = tt
  issued_asked (Over ended.Memory) = tt
  issued_asked (Over (ended.NoQuorum readable needed)) = tt
  issued_asked (Over (ended.TwoDatabases a b)) = tt

  -- and no more than its reply says
  let_refusal : (r : Refusal) → IsPart (issued_by ask (Said (outcome.Refused r))) (issuable ask (refusal_line r))
  unfolding digits
  let_refusal IoFault = part_itself (deeds ask)
  let_refusal other = tt

  -- a front of `ok`, or of the reply that a call failed, lets the line begin all that it asks, and so it is before the first byte
  ok_lets : (count : ℕ) → issuable_front ask (take count ok_line) ≡ deeds ask
  ok_lets count = ap (λ (ok : Bool). if ok || is_front_of (refusal_line IoFault) (take count ok_line) then deeds ask else []) (taken_front ok_line count)

  fault_lets : (count : ℕ) → issuable_front ask (take count (refusal_line IoFault)) ≡ deeds ask
  fault_lets count =
      let ok = is_front_of ok_line (take count (refusal_line IoFault)) in
      ap (λ (fault : Bool). if ok || fault then deeds ask else []) (taken_front (refusal_line IoFault) count) ∙ ap (λ (one : Bool). if one then deeds ask else []) (or-true ok)

  none_lets : (count : ℕ) → issuable_front ask (take count []) ≡ deeds ask
  none_lets count = ap (issuable_front ask) (take_none count)

  all_lets : (answer : Answer) (bytes : List ℕ) → issuable_front ask bytes ≡ deeds ask → IsPart (issued_by ask answer) (issuable_front ask bytes)
  all_lets answer bytes all = subst (λ (may : List Deed). IsPart (issued_by ask answer) may) (sym all) (issued_asked answer)

  -- so no front of an answer's text lets it begin less than the answer does
  let_front : (answer : Answer) (count : ℕ) → IsPart (issued_by ask answer) (issuable_front ask (take count (text_of answer)))
  let_front (Said outcome.Ok) count = all_lets (Said outcome.Ok) (take count ok_line) (ok_lets count)
  let_front (Said (outcome.Values text)) count = tt
  let_front (Said (outcome.Refused IoFault)) count = all_lets (Said (outcome.Refused IoFault)) (take count (refusal_line IoFault)) (fault_lets count)
  let_front (Said (outcome.Refused other)) count = tt
  let_front (Over end) count = all_lets (Over end) (take count []) (none_lets count)

  -- what an answer that acknowledges these deeds tells: them, where it accepts what is asked, or nothing
  abbrev pub TellsAll : Answer → List Deed → List Deed → Type 0
  TellsAll answer done told = (told ≡ []) ⊎ (IsAccepted answer × (told ≡ done))

  -- by a whole reply
  pub record ReplyWay (answer : Answer) (done : List Deed) (reply : List ℕ) (told : List Deed) : Type 0 where
    pub acks : AcksBy ask reply told
    pub lets : IsPart (issued_by ask answer) (issuable ask reply)
    pub all : TellsAll answer done told

  pub ok_way : (done : List Deed) → AcksBy ask ok_line done → ReplyWay (Said outcome.Ok) done ok_line done
  ok_way done acks = record { acks = acks; lets = part_itself (deeds ask); all = inr (tt, refl) }

  pub values_way : (text : List ℕ) (done : List Deed) → AcksBy ask text done → ReplyWay (Said (outcome.Values text)) done text done
  values_way text done acks = record { acks = acks; lets = tt; all = inr (tt, refl) }

  pub refusal_way : (r : Refusal) (done : List Deed) → ReplyWay (Said (outcome.Refused r)) done (refusal_line r) []
  refusal_way r done = record { acks = refusal_acks r; lets = let_refusal r; all = inl refl }

  -- and by the bytes told of it
  pub record Way (answer : Answer) (done : List Deed) (bytes : List ℕ) : Type 0 where
    pub told : List Deed
    pub acks : Acks ask bytes told
    pub lets : IsPart (issued_by ask answer) (issuable_of ask bytes)
    pub all : TellsAll answer done told

  unsaid_way : (answer : Answer) (done : List Deed) (bytes : List ℕ) (told : List Deed) → said_in bytes ≡ unsaid bytes → AcksFront ask bytes told → IsPart (issued_by ask answer) (issuable_front ask bytes) → TellsAll answer done told → Way answer done bytes
  unsaid_way answer done bytes told none acks lets all = record {
    told = told;
    acks = acks_unsaid bytes told none acks;
    lets = subst (λ (may : List Deed). IsPart (issued_by ask answer) may) (sym (issuable_unsaid bytes none)) lets;
    all = all;
  }

  -- of a reply that is accepted, a front that isn't whole acknowledges the values of a read
  accepted_front : (answer : Answer) → IsAccepted answer → (done : List Deed) (reply : List ℕ) → AcksBy ask reply done → (bytes : List ℕ) (size : ℕ) → bytes ≡ take size reply → (told : List Deed) × AcksFront ask bytes told × TellsAll answer done told
  accepted_front answer on done reply acks [] size is = ([], no_front [] refl, inl refl)
  accepted_front answer on done reply acks (b ∷ bytes) size is = by ask acks where
    by : (a : Ask) → AcksBy a reply done → (told : List Deed) × AcksFront a (b ∷ bytes) told × TellsAll answer done told
    by Nothing acks = ([], refl, inl refl)
    by ToBoot acks = ([], refl, inl refl)
    by (ToMake key lines count blocks) acks = ([], refl, inl refl)
    by (ToMakeListed key number) acks = ([], refl, inl refl)
    by (ToDrop key slices force) acks = ([], refl, inl refl)
    by (ToDo deed) acks = ([], refl, inl refl)
    by (ToSee key volume at count) (inl (refusal, none)) = ([], inl ((refusal.0, size, is ∙ ap (take size) refusal.1), refl), inl refl)
    by (ToSee key volume at count) (inr tells) = (done, inr (record { some = λ empty. absurd (cc (empty)); reply = reply; size = size; front = is; tells = tells }), inr (on, refl))

  whole_way : (answer : Answer) (done : List Deed) (bytes reply : List ℕ) (told : List Deed) → said_in bytes ≡ one_reply reply → ReplyWay answer done reply told → Way answer done bytes
  whole_way answer done bytes reply told one way = record {
    told = told;
    acks = acks_one bytes reply told one way.acks;
    lets = subst (λ (may : List Deed). IsPart (issued_by ask answer) may) (sym (ap (λ (s : SaidBytes). issuable_in ask s.replies s.left) one)) way.lets;
    all = way.all;
  }

  accepted_way : (answer : Answer) → IsAccepted answer → (done : List Deed) (text : List ℕ) → Answers text → ReplyWay answer done text done → (count : ℕ) → IsPart (issued_by ask answer) (issuable_front ask (take count text)) → Way answer done (take count text)
  accepted_way answer on done text answers way count lets = ⊎_elim
      (λ (none : said_in (take count text) ≡ unsaid (take count text)). (let front = accepted_front answer on done text way.acks (take count text) count refl in unsaid_way answer done (take count text) front.0 none front.1 lets front.2))
      (λ (one : (take count text ≡ text) × (said_in (take count text) ≡ one_reply text)). whole_way answer done (take count text) text done one.1 way)
      (front_ways text answers count)

  refused_way : (r : Refusal) (done : List Deed) → IsPlain r → (count : ℕ) → Way (Said (outcome.Refused r)) done (take count (refusal_line r))
  refused_way r done plain count = ⊎_elim
      (λ (none : said_in (take count (refusal_line r)) ≡ unsaid (take count (refusal_line r))). unsaid_way (Said (outcome.Refused r)) done (take count (refusal_line r)) [] none (refusal_front (take count (refusal_line r)) (r, count, refl)) (let_front (Said (outcome.Refused r)) count) (inl refl))
      (λ (one : (take count (refusal_line r) ≡ refusal_line r) × (said_in (take count (refusal_line r)) ≡ one_reply (refusal_line r))). whole_way (Said (outcome.Refused r)) done (take count (refusal_line r)) (refusal_line r) [] one.1 (refusal_way r done))
      (front_ways (refusal_line r) (refusal_answers r plain) count)

  untold_way : (answer : Answer) (done : List Deed) (count : ℕ) → Way answer done (take count [])
  untold_way answer done count = unsaid_way answer done (take count []) [] (none_ways count) (no_front (take count []) (take_none count)) (all_lets answer (take count []) (none_lets count)) (inl refl)

  pub ways : (answer : Answer) → IsPlainAnswer answer → (done : List Deed) → AcksAnswer ask answer done → (count : ℕ) → Way answer done (take count (text_of answer))
  ways (Said outcome.Ok) plain done acks count = accepted_way (Said outcome.Ok) tt done ok_line ok_answers (ok_way done acks) count (let_front (Said outcome.Ok) count)
  ways (Said (outcome.Values text)) plain done acks count = accepted_way (Said (outcome.Values text)) tt done text (values_answer text plain) (values_way text done acks) count (let_front (Said (outcome.Values text)) count)
  ways (Said (outcome.Refused r)) plain done acks count = refused_way r done plain count
  ways (Over end) plain done acks count = untold_way (Over end) done count
