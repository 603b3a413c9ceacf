-- Lines that make a database: by what was begun it was such a line; and where one was refused because a call failed, none is open, and no call failed in the last boot.
use Rattle.std.proofs.Common.{◌≡◌, ◌⊎◌, inl, inr, ⊎_elim, ℕ, ◌+◌, Bool, true, false, not, ◌&&◌, ◌||◌, ◌*◌, List, [], ◌∷◌, ◌++◌, length, Option, None, Some, MatchOption, All, Contains, sym, ◌∙◌, ap, subst, arith}
use Rattle.std.proofs.lemmas.List.Elements.{All-append, All-cons, All-nil, Contains-append_cases}
use Rattle.std.specs.List.{list_any}
use Rattle.std.specs.Option.{is_some}
use Rattle.std.specs.Prelude.{nat_lt}
use Rattle.mdv_base.specs.Order.{order, where_so}
use Rattle.mdv_base.specs.Refusal.{number_of}
use Rattle.mdv_base.specs.declared.drive.SliceName.{SliceName}
use Rattle.mdv_base.specs.declared.name.Key.{Key}
use Rattle.mdv_base.specs.declared.refusal.Refusal.{Refusal}
use Rattle.mdv_base.specs.declared.refusal.Refusal.TheVariants.{BadLine, IoFault, NeedForce, NoSuchSlice, OutOfMemory, SliceInUse, TooMany, TooSmall, WrongKind, WrongState}
use Rattle.mdv_base.specs.declared.state_word.StateWord.TheVariants.{Down}
use Rattle.mdv_base.proofs.Order.{first_holds}
use Rattle.mdv_engine_law.specs.Commands.{CameTo, Fault, IsAllowed, case_of, done, faulted, over, refused, wanting}
use Rattle.mdv_engine_law.specs.Hosts.{key_of, lines_asked}
use Rattle.mdv_change.specs.declared.change.Change.{Change as PlanChange}
use Rattle.mdv_engine_law.specs.Altering.{change_of}
use Rattle.mdv_engine_law.specs.Line.{Ask, IsUncreated, Kept, Memory, Nothing, asked_by_line, change_asked, deeds}
use Rattle.mdv_engine_law.specs.Moves.{IsUnmovedOn}
use Rattle.mdv_engine_law.specs.Refusals.{Case, held_of_creation, held_of_others, held_of_replicas, is_doubled, is_missing, is_plain, is_short, is_taken, places_open, refusal_of}
use Rattle.mdv_engine_law.specs.Replies.{issuable, refusal_line, text_of}
use Rattle.mdv_engine_law.specs.Standing.{IsBare}
use Rattle.mdv_engine_law.specs.declared.answer.Answer.{Answer}
use Rattle.mdv_engine_law.specs.declared.answer.Answer.TheVariants.{Over}
use Rattle.mdv_engine_law.specs.declared.host.Host.{Host}
use Rattle.mdv_engine_law.proofs.Allowed.{allowed_clean}
use Rattle.mdv_name.specs.SliceIndex.{slice_at}
use Rattle.mdv_name.specs.declared.geometry.Geometry.{Geometry}
use Rattle.mdv_run_law.specs.Below.{Entry, Replicas, listed_by, meant}
use Rattle.mdv_run_law.specs.Lives.{host_of}
use Rattle.mdv_run_law.specs.Run.{IsAnswered, IsSaid}
use Rattle.mdv_run_law.specs.Standing.{Asks as AsksWords}
use Rattle.mdv_run_law.proofs.Deeds.{part_contains}
use Rattle.mdv_shelf.specs.Failing.{Outcomes}
use Rattle.mdv_store.specs.Opened.{Opened}
use Rattle.mdv_store_law.specs.Changes.{DropPlaces, FirstPlace, OfPlan}
use Rattle.mdv_store_law.proofs.Machine.{all_more}
use Rattle.mdv_volumes.specs.Happening.{begins, issued_by}
use Rattle.mdv_volumes.specs.History.{Changed, Created, Deed, Deleted, Event, History}
use Rattle.mdv_volumes.proofs.Lists.{contains_behind, contains_first, first_or_behind}
use Rattle.mdv_words.specs.Line.{Boot, Exec, IsLine, Line, Tab}
use Rattle.mdv_words.specs.Listed.{as_listed}
use Rattle.mdv_words.specs.declared.command.Command.{Command}
use Rattle.mdv_words.specs.declared.command.Command.TheVariants as command
use Rattle.mdv_theorem.specs.Exchanges.{Asks, Exchange, MayHaveBegun}
use Rattle.mdv_theorem.specs.Words.{IsRefused, MakesDatabase}
use Rattle.mdv_theorem.proofs.Aside.{Commanded, came, commanded, done_untold, unread, where_all}
use Rattle.mdv_theorem.proofs.Leading.{IsLed}
use Rattle.mdv_theorem.proofs.Lined.{AreLined, AreOfReply}
use Rattle.mdv_theorem.proofs.Lines.{lets, never_in, the_only}
use Rattle.mdv_theorem.proofs.Telling.{one_number}

-- each of these lines that makes a database, or adds to one, was refused
abbrev pub AreRefused : List Exchange → Type 0
AreRefused lines = (one : Exchange) (command : Command) → Contains lines one → Asks one command → MakesDatabase command → IsRefused one

-- so none is open
abbrev pub IsClosed : List Exchange → Memory → Type 0
IsClosed lines memory = AreRefused lines → memory.opened ≡ None

-- the line may have begun a creation
pub record MayCreate (one : Exchange) : Type 0 where
  pub asks_for : Command
  pub asks : Asks one asks_for
  pub makes : MakesDatabase asks_for
  pub begun : MayHaveBegun one

of_three : {X : Type 0} (a b c x : X) → Contains (a ∷ b ∷ c ∷ []) x → (a ≡ x) ⊎ ((b ≡ x) ⊎ (c ≡ x))
of_three a b c x has = elim (first_or_behind a x (b ∷ c ∷ []) has) [
  | inl first ↦ inl first
  | inr more ↦ inr (elim (first_or_behind b x (c ∷ []) more) [ inl second ↦ inl second | inr last ↦ inr (the_only c x last) ])
]

-- it is one that makes a database
module _ (host : Host) (one : Exchange) (begun : MayHaveBegun one) (key : Key) where
  none_drops : (slices : List SliceName) → Contains (Changed (key_of host) (DropPlaces slices) ∷ Changed (key_of host) FirstPlace ∷ Deleted (key_of host) ∷ []) (Created key) → ⊥
  none_drops slices has = elim (of_three (Changed (key_of host) (DropPlaces slices)) (Changed (key_of host) FirstPlace) (Deleted (key_of host)) (Created key) has) [ inl same ↦ cc (same) | inr (inl same) ↦ cc (same) | inr (inr same) ↦ cc (same) ]

  none_alters : (asked : Option PlanChange) → Contains (deeds (change_asked host asked)) (Created key) → ⊥
  none_alters None has = never_in (Created key) has
  none_alters (Some change) has = (let same : Changed (key_of host) (OfPlan change) ≡ Created key = the_only (Changed (key_of host) (OfPlan change)) (Created key) has in cc same)

  spelled_creates : (spelled : Line) → IsLine one.text spelled → Contains (deeds (asked_by_line host spelled)) (Created key) → MayCreate one
  spelled_creates Boot is has = absurd (never_in (Created key) has)
  spelled_creates (Tab lines) is has = absurd (never_in (Created key) has)
  spelled_creates (Exec (command.AddPlaces slices force count blocks)) is has = record { asks_for = command.AddPlaces slices force count blocks; asks = is; makes = tt; begun = begun }
  spelled_creates (Exec (command.AddListed number force)) is has = record { asks_for = command.AddListed number force; asks = is; makes = tt; begun = begun }
  spelled_creates (Exec (command.DropPlaces slices true)) is has = absurd (none_drops slices has)
  spelled_creates (Exec (command.DropPlaces slices false)) is has = (let same = the_only _ (Created key) has in absurd (cc (same)))
  spelled_creates (Exec (command.Alter alteration)) is has = absurd (none_alters (change_of alteration) has)
  spelled_creates (Exec (command.Read volume at count)) is has = absurd (never_in (Created key) has)
  spelled_creates (Exec (command.Write volume at what)) is has = (let same = the_only _ (Created key) has in absurd (cc (same)))
  spelled_creates (Exec (command.Print names)) is has = absurd (never_in (Created key) has)

  words_create : (ask : Ask) → AsksWords host one.text ask ⊎ (ask ≡ Nothing) → Contains (deeds ask) (Created key) → MayCreate one
  words_create ask (inl (inl none)) has = absurd (never_in (Created key) (subst (λ (a : Ask). Contains (deeds a) (Created key)) none.1 has))
  words_create ask (inl (inr is)) has = spelled_creates is.0 is.1 (subst (λ (a : Ask). Contains (deeds a) (Created key)) is.2 has)
  words_create ask (inr none) has = absurd (never_in (Created key) (subst (λ (a : Ask). Contains (deeds a) (Created key)) none has))

-- what was told of a line
pub led_creates : (host : Host) (one : Exchange) (h g : History) (led : IsLed host one h g) (key : Key) → Contains (issued_by led.es) (Created key) → MayCreate one
led_creates host one h g led key has =
    let may = lets led.its.ask led.reply (Created key) (part_contains (issued_by led.es) (issuable led.its.ask led.reply) (Created key) led.its.does.begins has) in
    words_create host one (λ refusal told. may.begun refusal (let same : Some led.reply ≡ Some (refusal_line refusal) = sym led.told ∙ told in cc (same))) key led.its.ask (⊎_elim (λ asks. inl asks) (λ none. inr none.0) led.its.asks) may.asked

module _ (drives : Geometry) (name : List ℕ) where
  abbrev own : Host
  own = host_of drives name 0

  -- what was told by the lines of these events, or was in work
  reply_creates : (text : List ℕ) (reply : Option (List ℕ)) (es : List Event) → AreOfReply drives name text reply es → (key : Key) → Contains (issued_by es) (Created key) → MayCreate (record { text = text; reply = reply })
  reply_creates text None es are key has = words_create own (record { text = text; reply = None }) (λ refusal none. absurd (cc (none))) key are.ask are.asks (part_contains (issued_by es) (deeds are.ask) (Created key) are.begins has)
  reply_creates text (Some reply) es are key has =
      let may = lets are.ask reply (Created key) (part_contains (issued_by es) (issuable are.ask reply) (Created key) are.begins has) in
      words_create own (record { text = text; reply = Some reply }) (λ refusal told. may.begun refusal (let same : Some reply ≡ Some (refusal_line refusal) = told in cc (same))) key are.ask (⊎_elim (λ asks. inl asks) (λ none. inr none.0) are.asks) may.asked

  issued_cases : (es fs : List Event) (deed : Deed) → Contains (issued_by (es ++ fs)) deed → Contains (issued_by es) deed ⊎ Contains (issued_by fs) deed
  issued_cases es fs deed has = Contains-append_cases (issued_by es) (issued_by fs) deed (subst (λ (l : List Deed). Contains l deed) (all_more begins es fs) has)

  pub lined_creates : (lines : List Exchange) (es : List Event) → AreLined drives name lines es → (key : Key) → Contains (issued_by es) (Created key) → (one : Exchange) × Contains lines one × MayCreate one
  lined_creates [] es quiet key has = absurd (quiet (Created key) has)
  lined_creates (one ∷ lines) es are key has = elim (issued_cases are.0 (are.1 ++ are.2) (Created key) (subst (λ (l : List Event). Contains (issued_by l) (Created key)) are.3 has)) [
    | inl before ↦ absurd (are.4 (Created key) before)
    | inr behind ↦ elim (issued_cases are.1 are.2 (Created key) behind) [
      | inl its ↦ (one, contains_first one lines, reply_creates one.text one.reply are.1 are.5 key its)
      | inr later ↦ (let rest = lined_creates lines are.2 are.6 key later in (rest.0, contains_behind one rest.0 lines rest.1, rest.2))
    ]
  ]

-- What is so of the refusals of replicas is so of those whose cause holds.
pub replicas_all : (P : Refusal → Type 0) (gone plain down many unforced used small : Bool) → P NoSuchSlice → P WrongKind → All P (where_so down (WrongState Down)) → P TooMany → All P (where_so unforced NeedForce) → P SliceInUse → P TooSmall
    → All P (where_so gone NoSuchSlice ++ (where_so plain WrongKind ++ (where_so down (WrongState Down) ++ (where_so many TooMany ++ (where_so unforced NeedForce ++ (where_so used SliceInUse ++ where_so small TooSmall))))))
replicas_all P gone plain down many unforced used small of_gone of_plain of_down of_many forced of_used of_small =
    let last = where_so used SliceInUse ++ where_so small TooSmall in
    let more = where_so unforced NeedForce ++ last in
    let few = where_so many TooMany ++ more in
    let up = where_so down (WrongState Down) ++ few in
    All-append P (where_so gone NoSuchSlice) (where_so plain WrongKind ++ up) (where_all P gone NoSuchSlice of_gone)
    (All-append P (where_so plain WrongKind) up (where_all P plain WrongKind of_plain)
    (All-append P (where_so down (WrongState Down)) few of_down
    (All-append P (where_so many TooMany) more (where_all P many TooMany of_many)
    (All-append P (where_so unforced NeedForce) last forced (All-append P (where_so used SliceInUse) (where_so small TooSmall) (where_all P used SliceInUse of_used) (where_all P small TooSmall of_small))))))

-- it isn't the refusal of a failed call
abbrev IsNoFault : Refusal → Type 0
IsNoFault r = number_of r ≡ 23 → ⊥

-- A line that makes a database, where none is open.
module _ (calls : Outcomes) (host : Host) (kept next : Kept) (none : kept.memory.opened ≡ None) where
  abbrev case : Case
  case = case_of host kept

  creation_no_fault : (slices : List SliceName) (force : Bool) (count blocks : ℕ) → All IsNoFault (held_of_creation case slices force count blocks)
  creation_no_fault slices force count blocks = All-append IsNoFault (held_of_replicas case slices force count blocks) (held_of_others case.memory.opened slices count blocks)
      (replicas_all IsNoFault (list_any (is_missing case.host) slices) (list_any (λ slice. is_plain (slice_at case.host.drives.slices slice)) slices) (not (is_some case.memory.opened) && not case.memory.clean)
      (nat_lt 50 (length (places_open case.memory.opened) + length slices * count)) (not (is_some case.memory.opened) && not force) (list_any (is_taken case) slices || is_doubled slices) (list_any (is_short case.host count blocks) slices)
      (omega arith) (omega arith) (where_all IsNoFault (not (is_some case.memory.opened) && not case.memory.clean) (WrongState Down) (omega arith)) (omega arith) (where_all IsNoFault (not (is_some case.memory.opened) && not force) NeedForce (omega arith)) (omega arith) (omega arith))
      (subst (λ (p : Option Opened). All IsNoFault (held_of_others p slices count blocks)) (sym none) (All-nil IsNoFault))

  refused_no_fault : (cmd : Command) → MakesDatabase cmd → (r : Refusal) → refusal_of case cmd ≡ Some r → IsNoFault r
  refused_no_fault (command.AddPlaces slices force count blocks) makes r is = first_holds IsNoFault order (held_of_creation case slices force count blocks) r (creation_no_fault slices force count blocks) is
  refused_no_fault (command.AddListed number force) makes r is = first_holds IsNoFault order (BadLine ∷ []) r (All-cons IsNoFault BadLine [] (omega arith) (All-nil IsNoFault)) is
  refused_no_fault (command.DropPlaces slices force) makes r is = absurd makes
  refused_no_fault (command.Alter alteration) makes r is = absurd makes
  refused_no_fault (command.Read volume at count) makes r is = absurd makes
  refused_no_fault (command.Write volume at what) makes r is = absurd makes
  refused_no_fault (command.Print names) makes r is = absurd makes

  -- a call failed in its formats
  unmade_bare : (cmd : Command) → MakesDatabase cmd → IsAllowed case cmd → Fault calls host kept cmd next → IsBare next.memory
  unmade_bare (command.AddPlaces slices force count blocks) makes free fault =
      let is : IsUncreated calls host (lines_asked host slices) count blocks kept next =
      subst (λ (x : Option Opened). MatchOption x (IsUncreated calls host (lines_asked host slices) count blocks kept next) (λ o. IsUnmovedOn calls host o (lines_asked host slices) count blocks kept next)) none fault in
      (ap (λ (m : Memory). m.opened) is.memory ∙ none, ap (λ (m : Memory). m.clean) is.memory ∙ allowed_clean case slices force count blocks free none)
  unmade_bare (command.AddListed number force) makes free fault = absurd fault
  unmade_bare (command.DropPlaces slices force) makes free fault = absurd makes
  unmade_bare (command.Alter alteration) makes free fault = absurd makes
  unmade_bare (command.Read volume at count) makes free fault = absurd makes
  unmade_bare (command.Write volume at what) makes free fault = absurd makes
  unmade_bare (command.Print names) makes free fault = absurd makes

  module _ (answer : Answer) (said : IsSaid answer) (told : text_of answer ≡ refusal_line IoFault) where
    -- it isn't refused otherwise
    never_other : (r : Refusal) → text_of answer ≡ refusal_line r → IsNoFault r → ⊥
    never_other r is no_fault = no_fault (one_number r IoFault (sym is ∙ told))

    came_bare : (cmd : Command) → MakesDatabase cmd → CameTo calls host kept cmd answer next → IsBare next.memory
    came_bare cmd makes (refused quiet r why turned) = absurd (never_other r (ap text_of turned.0) (refused_no_fault cmd makes r why))
    came_bare cmd makes (wanting quiet is left) = absurd (never_other OutOfMemory (ap text_of is) (omega arith))
    came_bare cmd makes (done free effect) = absurd (done_untold calls host kept next cmd answer IoFault effect told)
    came_bare cmd makes (faulted free is fault) = unmade_bare cmd makes free fault
    came_bare cmd makes (over end free is left) = (let never : IsSaid (Over end) = subst IsSaid is said in absurd never)

    -- what it means with the entries that are kept makes one too
    listed_makes : (number : ℕ) (force : Bool) (r : Option Replicas) → MakesDatabase (as_listed number force r)
    listed_makes number force None = tt
    listed_makes number force (Some r) = tt

    meant_makes : (entries : List Entry) (cmd : Command) → MakesDatabase cmd → MakesDatabase (meant entries cmd)
    meant_makes entries (command.AddPlaces slices force count blocks) makes = tt
    meant_makes entries (command.AddListed number force) makes = listed_makes number force (listed_by entries number)
    meant_makes entries (command.DropPlaces slices force) makes = absurd makes
    meant_makes entries (command.Alter alteration) makes = absurd makes
    meant_makes entries (command.Read volume at count) makes = absurd makes
    meant_makes entries (command.Write volume at what) makes = absurd makes
    meant_makes entries (command.Print names) makes = absurd makes

    commanded_bare : (cmd : Command) → MakesDatabase cmd → Commanded calls host kept cmd answer next → IsBare next.memory
    commanded_bare cmd makes (came is) = came_bare (meant kept.memory.entries cmd) (meant_makes kept.memory.entries cmd makes) is
    commanded_bare cmd makes (unread is) = absurd (never_other OutOfMemory (ap text_of is) (omega arith))

    -- A call failed: so none is open behind it, and none failed in the last boot.
    pub fault_bare : (text : List ℕ) (cmd : Command) → IsLine text (Exec cmd) → MakesDatabase cmd → IsAnswered calls host kept text answer next → IsBare next.memory
    fault_bare text cmd asks makes comes = commanded_bare cmd makes (commanded calls host kept next text cmd answer asks comes)
