-- What a line on a volume of the open table is refused for: neither that there is no database, nor that the volume isn't there.
use Rattle.std.proofs.Common.{◌≡◌, inl, inr, ℕ, Bool, true, false, ◌||◌, if◌then◌else◌, nat_lt, List, [], ◌∷◌, ◌++◌, ◌+◌, length, Option, Some, None, All, refl, sym, ◌∙◌, ap, subst, arith}
use Rattle.std.proofs.lemmas.Bool.{false≢true}
use Rattle.std.proofs.lemmas.List.Elements.{All-append, All-cons, All-nil}
use Rattle.std.specs.Option.{is_none, option_map}
use Rattle.mdv_base.specs.Order.{first_refusal, order, where_so}
use Rattle.mdv_base.specs.Refusal.{number_of}
use Rattle.mdv_base.specs.declared.name.Named.{Named}
use Rattle.mdv_base.specs.declared.name.Named.TheVariants as named
use Rattle.mdv_base.specs.declared.refusal.Refusal.TheVariants.{IoFault, NoSuchPool, NoSuchVolume, TooMany, WrongKind}
use Rattle.mdv_base.proofs.Order.{first_holds}
use Rattle.mdv_change.specs.Change.{carried, condition}
use Rattle.mdv_change.specs.declared.change.Change.{Change as PlanChange}
use Rattle.mdv_components.specs.Bases.{volume_of}
use Rattle.mdv_components.specs.Causes.{first_of, told}
use Rattle.mdv_components.specs.Causes.{order as causes_order}
use Rattle.mdv_components.specs.declared.cause.Carried.{Carried}
use Rattle.mdv_components.specs.declared.cause.Cause.{Cause}
use Rattle.mdv_components.specs.declared.cause.Cause.TheVariants as reason
use Rattle.mdv_engine_law.specs.Altering.{change_of}
use Rattle.mdv_engine_law.specs.Answers.{refusing}
use Rattle.mdv_engine_law.specs.Commands.{CameTo, ComesTo, Effect, case_of, refused, wanting, done, faulted, over}
use Rattle.mdv_shelf.specs.Failing.{Outcomes}
use Rattle.mdv_engine_law.specs.Line.{Kept, record_room}
use Rattle.mdv_engine_law.specs.Refusals.{Case, bytes_after, held, held_of_alteration, held_of_blocks, held_of_names, held_of_print, held_of_transfer, held_past, listed, refusal_of, told_by_table}
use Rattle.mdv_engine_law.specs.Replies.{refusal_line, text_of}
use Rattle.mdv_engine_law.specs.declared.answer.Answer.{Answer}
use Rattle.mdv_engine_law.specs.declared.answer.Answer.TheVariants.{Over}
use Rattle.mdv_keeping.specs.Built.{names_db}
use Rattle.mdv_keeping.specs.Refused.{cause_with}
use Rattle.mdv_map.specs.Maps.{Map}
use Rattle.mdv_run_law.specs.Below.{Command, AddListed, AddPlaces, Alter, DropPlaces, Entry, Host, meant, Line, OutOfMemory, OutOfRange, Print, Read, Refusal, ReplicaFull, VolId, Write}
use Rattle.mdv_run_law.specs.Run.{IsAnswered, IsSaid}
use Rattle.mdv_volumes.specs.Tables.{IsMapOf, map_of}
use Rattle.mdv_volumes.proofs.Maps.{found_as}
use Rattle.mdv_words.proofs.Lines.{one_line}
use Rattle.mdv_words.specs.Line.{Exec, IsLine, blocks_of}
use Rattle.mdv_words.specs.declared.command.Alteration.{Alteration}
use Rattle.mdv_theorem.specs.Exchanges.{Asks, Exchange, IsAbout, IsOf}
use Rattle.mdv_theorem.proofs.Altered.{asked_found, asks_built}
use Rattle.mdv_theorem.proofs.Telling.{ok_is_none, one_number, values_are_none, listing_is_none}
use Rattle.mdv_store.specs.Opened.{Opened}

-- it is neither NoDatabase nor NoSuchVolume
abbrev IsAsideNumber : ℕ → Type 0
IsAsideNumber n = (n ≡ 2 → ⊥) × (n ≡ 4 → ⊥)

abbrev pub IsAside : Refusal → Type 0
IsAside r = IsAsideNumber (number_of r)

-- a refusal whose cause may hold
pub where_all : (P : Refusal → Type 0) (holds : Bool) (r : Refusal) → P r → All P (where_so holds r)
where_all P true r is = All-cons P r [] is (All-nil P)
where_all P false r is = All-nil P

-- each cause but that a volume isn't there
told_aside_of : (its : Carried) (cause : Cause) → (cause ≡ reason.NoSuchVolume → ⊥) → IsAside (told its cause)
told_aside_of its reason.NoSuchVolume other = absurd (other refl)
told_aside_of its reason.NoSuchPool other = omega arith
told_aside_of its reason.NoSuchSlice other = omega arith
told_aside_of its reason.NameTaken other = omega arith
told_aside_of its reason.WrongKind other = omega arith
told_aside_of its reason.WrongState other = omega arith
told_aside_of its reason.LastCopy other = omega arith
told_aside_of its reason.TooFew other = omega arith
told_aside_of its reason.TooMany other = omega arith
told_aside_of its reason.BadInterlace other = omega arith
told_aside_of its reason.SliceInUse other = omega arith
told_aside_of its reason.HasParent other = omega arith
told_aside_of its reason.Nested other = omega arith
told_aside_of its reason.SpareInUse other = omega arith
told_aside_of its reason.TooSmall other = omega arith
told_aside_of its reason.NoSpace other = omega arith

-- and no cause that there is no database
pub told_some : (its : Carried) (cause : Cause) → number_of (told its cause) ≡ 2 → ⊥
told_some its reason.NoSuchVolume = omega arith
told_some its reason.NoSuchPool = omega arith
told_some its reason.NoSuchSlice = omega arith
told_some its reason.NameTaken = omega arith
told_some its reason.WrongKind = omega arith
told_some its reason.WrongState = omega arith
told_some its reason.LastCopy = omega arith
told_some its reason.TooFew = omega arith
told_some its reason.TooMany = omega arith
told_some its reason.BadInterlace = omega arith
told_some its reason.SliceInUse = omega arith
told_some its reason.HasParent = omega arith
told_some its reason.Nested = omega arith
told_some its reason.SpareInUse = omega arith
told_some its reason.TooSmall = omega arith
told_some its reason.NoSpace = omega arith

-- what is so of what the causes tell that hold, and of a component on a slice for replicas, is so of what a table says against a change
module _ (P : Refusal → Type 0) (of_kind : P WrongKind) where
  one_all : (r : Refusal) → P r → All P (r ∷ [])
  one_all r is = All-cons P r [] is (All-nil P)

  listed_first : (causes : List Refusal) → All P causes → (first : Option Refusal) → first_refusal causes ≡ first → All P (listed first)
  listed_first causes all None is = All-nil P
  listed_first causes all (Some r) is = one_all r (first_holds P order causes r all is)

  cause_all : (its : Carried) (found : Option Cause) (is_db : Bool) → ((cause : Cause) → found ≡ Some cause → P (told its cause)) → All P (listed (cause_with (option_map (told its) found) is_db))
  cause_all its None false tells = All-nil P
  cause_all its None true tells = one_all WrongKind of_kind
  cause_all its (Some cause) false tells = one_all (told its cause) (tells cause refl)
  cause_all its (Some cause) true tells =
      let causes : List Refusal = told its cause ∷ WrongKind ∷ [] in
      listed_first causes (All-cons P (told its cause) (WrongKind ∷ []) (tells cause refl) (one_all WrongKind of_kind)) (first_refusal causes) refl

-- the first cause holds
first_so : (holds : Cause → Bool) (causes : List Cause) (cause : Cause) → first_of holds causes ≡ Some cause → holds cause ≡ true
first_so holds [] cause is = absurd (cc is)
first_so holds (c ∷ causes) cause is = by (holds c) refl (first_so holds causes cause) is where
  by : (here : Bool) → holds c ≡ here → (first_of holds causes ≡ Some cause → holds cause ≡ true) → (if here then Some c else first_of holds causes) ≡ Some cause → holds cause ≡ true
  by true so rest same = (let both : Some c ≡ Some cause = same in let one : c ≡ cause = cc both in subst (λ (x : Cause). holds x ≡ true) one so)
  by false so rest same = rest same

-- and so of all that is told of an alteration
pub alteration_all : (P : Refusal → Type 0) → P WrongKind → ((bytes room : ℕ) → P (ReplicaFull bytes room)) → (host : Host) (o : Opened) (one : Exchange) (alteration : Alteration) (asks : Asks one (Alter alteration))
    → ((its : Carried) (cause : Cause) → condition host.drives host.site.drives o.table (asks_built one alteration asks).change cause ≡ true → P (told its cause)) → All P (held_of_alteration host (Some o) (change_of alteration))
alteration_all P of_kind of_full host o one alteration asks tells =
    let asked = asks_built one alteration asks in
    let change : PlanChange = asked.change in
    let size = bytes_after host o change in
    let full : Refusal = ReplicaFull size (record_room o) in
    let holds = condition host.drives host.site.drives o.table change in
    let its = carried host.drives o.table change in
    subst (λ (c : Option PlanChange). All P (held_of_alteration host (Some o) c)) (sym asked.alters)
    (All-append P (listed (told_by_table host o change)) (where_so (nat_lt (record_room o) size) full)
    (cause_all P of_kind its (first_of holds causes_order) (names_db host.drives change) (λ cause found. tells its cause (first_so holds causes_order cause found)))
    (where_all P (nat_lt (record_room o) size) full (of_full size (record_room o))))

-- of a volume that is there, which it makes, or to which it adds a row, or which it clears alone, no cause is that it isn't
pub alteration_aside : (host : Host) (o : Opened) (volume : VolId) (v : Map) → IsMapOf host.drives o.table volume v → (one : Exchange) (alteration : Alteration) → Asks one (Alter alteration) → IsOf volume alteration → All IsAside (held_of_alteration host (Some o) (change_of alteration))
alteration_aside host o volume v lies one alteration asks makes =
    let found = found_as host.drives o.table volume v lies in
    let change = (asks_built one alteration asks).change in
    let there : condition host.drives host.site.drives o.table change reason.NoSuchVolume ≡ false = asked_found host.drives host.site.drives o.table volume found.of found.found one alteration asks makes in
    alteration_all IsAside (omega arith) (λ bytes room. omega arith) host o one alteration asks
    (λ its cause holds. told_aside_of its cause (λ same. false≢true (sym there ∙ subst (λ (c : Cause). condition host.drives host.site.drives o.table change c ≡ true) same holds)))

-- of a volume that is there
past_aside : (found : Option Map) (v : Map) (end : ℕ) → found ≡ Some v → All IsAside (held_past found end)
past_aside found v end is = subst (λ (o : Option Map). All IsAside (held_past o end)) (sym is) (where_all IsAside (nat_lt v.blocks end) OutOfRange (omega arith))

module _ (case : Case) (o : Opened) (opened : case.memory.opened ≡ Some o) (volume : VolId) (v : Map) (lies : IsMapOf case.host.drives o.table volume v) where
  -- with this database open
  by_opened : (causes : Option Opened → List Refusal) → All IsAside (causes (Some o)) → All IsAside (causes case.memory.opened)
  by_opened causes is = subst (λ (p : Option Opened). All IsAside (causes p)) (sym opened) is

  blocks_aside : (other : VolId) (end : ℕ) → other ≡ volume → All IsAside (held_of_blocks case.host (Some o) other end)
  blocks_aside other end on = subst (λ (n : VolId). All IsAside (held_of_blocks case.host (Some o) n end)) (sym on) (past_aside (map_of case.host.drives o.table volume) v end lies)

  transfer_aside : (other : VolId) (at count : ℕ) → other ≡ volume → All IsAside (held_of_transfer case.host (Some o) other at count)
  transfer_aside other at count on =
      All-append IsAside (held_of_blocks case.host (Some o) other (at + count)) (where_so (nat_lt 1024 count) TooMany) (blocks_aside other (at + count) on) (where_all IsAside (nat_lt 1024 count) TooMany (omega arith))

  -- of a print of the volume alone
  print_aside : (names : List Named) → names ≡ named.Volume volume ∷ [] → All IsAside (held_of_names o.table.plan names)
  print_aside names alone =
      let found = found_as case.host.drives o.table volume v lies in
      let there : is_none (volume_of o.table.plan volume) ≡ false = ap is_none found.found in
      subst (λ (l : List Named). All IsAside (held_of_names o.table.plan l)) (sym alone)
      (subst (λ (b : Bool). All IsAside (where_so (b || false) NoSuchVolume ++ where_so false NoSuchPool)) (sym there) (All-nil IsAside))

  held_aside : (one : Exchange) (command : Command) → Asks one command → IsAbout volume command → All IsAside (held case command)
  held_aside one (AddPlaces slices force count blocks) asks on = absurd on
  held_aside one (AddListed number force) asks on = absurd on
  held_aside one (DropPlaces slices force) asks on = absurd on
  held_aside one (Alter alteration) asks on = by_opened (λ p. held_of_alteration case.host p (change_of alteration)) (alteration_aside case.host o volume v lies one alteration asks on)
  held_aside one (Read other at count) asks on = by_opened (λ p. held_of_transfer case.host p other at count) (transfer_aside other at count on)
  held_aside one (Write other at what) asks on = by_opened (λ p. held_of_transfer case.host p other at (length (blocks_of what))) (transfer_aside other at (length (blocks_of what)) on)
  held_aside one (Print names) asks alone = by_opened (λ p. held_of_print p names) (print_aside names alone)

  pub refused_aside : (one : Exchange) (command : Command) (r : Refusal) → Asks one command → IsAbout volume command → refusal_of case command ≡ Some r → IsAside r
  refused_aside one command r asks on is = first_holds IsAside order (held case command) r (held_aside one command asks on) is

-- what is done is told by no refusal
pub done_untold : (calls : Outcomes) (host : Host) (kept next : Kept) (command : Command) (answer : Answer) (r : Refusal) → Effect calls host kept command answer next → text_of answer ≡ refusal_line r → ⊥
done_untold calls host kept next (AddPlaces slices force count blocks) answer r effect told = ok_is_none r (sym (ap text_of effect.0) ∙ told)
done_untold calls host kept next (AddListed number force) answer r effect told = effect
done_untold calls host kept next (DropPlaces slices force) answer r effect told = ok_is_none r (sym (ap text_of effect.0) ∙ told)
done_untold calls host kept next (Alter alteration) answer r effect told = ok_is_none r (sym (ap text_of effect.0) ∙ told)
done_untold calls host kept next (Read volume at count) answer r effect told = values_are_none at _ r (sym (ap text_of effect.6) ∙ told)
done_untold calls host kept next (Write volume at what) answer r effect told = ok_is_none r (sym (ap text_of effect.3) ∙ told)
done_untold calls host kept next (Print names) answer r (calm, o, opened, text, same) told = listing_is_none o.table.plan names r (sym (ap text_of text) ∙ told)

-- what a line that spells a command comes to, by what it means
pub data Commanded (calls : Outcomes) (host : Host) (kept : Kept) (command : Command) (answer : Answer) (next : Kept) : Type 0 where
  came : CameTo calls host kept (meant kept.memory.entries command) answer next → Commanded calls host kept command answer next
  unread : answer ≡ refusing OutOfMemory → Commanded calls host kept command answer next

pub commanded : (calls : Outcomes) (host : Host) (kept next : Kept) (text : List ℕ) (command : Command) (answer : Answer) → IsLine text (Exec command) → IsAnswered calls host kept text answer next → Commanded calls host kept command answer next
commanded calls host kept next text command answer is (inl (none, quiet, turned)) = absurd (none (Exec command) is)
commanded calls host kept next text command answer is (inr (inl (spelled, spells, comes))) = came (subst (λ (l : Line). ComesTo calls host kept l answer next) (one_line text spelled (Exec command) spells is) comes)
commanded calls host kept next text command answer is (inr (inr (quiet, turned))) = unread turned.0

-- what is so of the number of each refusal of the command, and of those of a failed call and of want of memory, is so of the one that is told
module _ (Q : ℕ → Type 0) (of_fault : Q 23) (of_want : Q 24) (calls : Outcomes) (host : Host) (kept next : Kept) (command : Command) (of_refusal : (s : Refusal) → refusal_of (case_of host kept) (meant kept.memory.entries command) ≡ Some s → Q (number_of s))
    (answer : Answer) (said : IsSaid answer) (r : Refusal) (told : text_of answer ≡ refusal_line r) where
  by_refusal : (s : Refusal) → answer ≡ refusing s → Q (number_of s) → Q (number_of r)
  by_refusal s is so = subst Q (one_number s r (sym (ap text_of is) ∙ told)) so

  came_as : CameTo calls host kept (meant kept.memory.entries command) answer next → Q (number_of r)
  came_as (refused quiet s why turned) = by_refusal s turned.0 (of_refusal s why)
  came_as (wanting quiet is left) = by_refusal OutOfMemory is of_want
  came_as (done free effect) = absurd (done_untold calls host kept next (meant kept.memory.entries command) answer r effect told)
  came_as (faulted free is left) = by_refusal IoFault is of_fault
  came_as (over end free is left) = (let never : IsSaid (Over end) = subst IsSaid is said in absurd never)

  pub told_as : Commanded calls host kept command answer next → Q (number_of r)
  told_as (came is) = came_as is
  told_as (unread is) = by_refusal OutOfMemory is of_want

-- a command on a volume means itself
means_itself : (volume : VolId) (entries : List Entry) (command : Command) → IsAbout volume command → meant entries command ≡ command
means_itself volume entries (AddPlaces slices force count blocks) on = absurd on
means_itself volume entries (AddListed number force) on = absurd on
means_itself volume entries (DropPlaces slices force) on = absurd on
means_itself volume entries (Alter alteration) on = refl
means_itself volume entries (Read other at count) on = refl
means_itself volume entries (Write other at what) on = refl
means_itself volume entries (Print names) on = refl

-- where this is kept the volume is in the open table: so a line on it is refused for neither of the two
pub told_aside : (calls : Outcomes) (host : Host) (kept next : Kept) (o : Opened) → kept.memory.opened ≡ Some o → (volume : VolId) (v : Map) → IsMapOf host.drives o.table volume v → (one : Exchange) (command : Command) → Asks one command → IsAbout volume command
    → (answer : Answer) → IsSaid answer → (r : Refusal) → text_of answer ≡ refusal_line r → Commanded calls host kept command answer next → IsAside r
told_aside calls host kept next o opened volume v lies one command asks on answer said r told is =
    told_as IsAsideNumber (omega arith) (omega arith) calls host kept next command
    (λ s why. refused_aside (case_of host kept) o opened volume v lies one command s asks on (ap (refusal_of (case_of host kept)) (sym (means_itself volume kept.memory.entries command on)) ∙ why)) answer said r told is
