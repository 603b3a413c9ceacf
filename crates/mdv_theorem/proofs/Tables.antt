-- What lines of a run leave of the database: what no change takes from the tables that a boot may find stays so of each, and it is open as long as no boot is blind.
use Rattle.std.proofs.Common.{◌≡◌, ◌⊎◌, inl, inr, ℕ, Bool, true, false, List, [], ◌∷◌, length, MatchOption, Option, Some, None, refl, sym, ◌∙◌, ap, subst}
use Rattle.std.specs.Bool.{MatchBool}
use Rattle.mdv_base.specs.Order.{first_refusal}
use Rattle.mdv_base.specs.declared.name.VolId.{VolId}
use Rattle.mdv_base.specs.declared.drive.SliceName.{SliceName}
use Rattle.mdv_base.specs.declared.refusal.Refusal.{Refusal}
use Rattle.mdv_base.specs.declared.refusal.Refusal.TheVariants.{IoFault, OutOfMemory}
use Rattle.mdv_words.specs.Listed.{Replicas, as_listed, listed_by, meant}
use Rattle.mdv_run_law.specs.Below.{Entry}
use Rattle.mdv_engine_law.specs.Answers.{accepted, refusing}
use Rattle.mdv_engine_law.specs.Commands as came
use Rattle.mdv_engine_law.specs.Commands.{CameTo, ComesTo, Effect, Fault, IsAllowed, KeepsTab, Wanting, case_of}
use Rattle.mdv_engine_law.specs.Hosts.{key_of, lines_asked}
use Rattle.mdv_engine_law.specs.Line.{HasBlocks, HasNoTableOn, IsCommitted, IsCreated, IsReadOf, IsRebooted, IsSame, IsUnbegun, IsUncreated, Kept, Memory, Stays, WritesBy, answered_by, booted_with, opened_by}
use Rattle.mdv_engine_law.specs.Line as engine
use Rattle.mdv_engine_law.specs.Moves.{HasMovedOn, IsDeletedOn, IsUndeletedOn, IsUnmovedOn}
use Rattle.mdv_engine_law.specs.Places.{are_all}
use Rattle.mdv_engine_law.specs.Altering.{change_of, table_by}
use Rattle.mdv_engine_law.specs.Refusals.{held_of_alteration}
use Rattle.mdv_engine_law.specs.Replies.{ok_line, refusal_line, text_of}
use Rattle.mdv_engine_law.specs.Standing.{ArePutBy, LineWrites}
use Rattle.mdv_engine_law.specs.declared.answer.Answer.{Answer}
use Rattle.mdv_engine_law.specs.declared.host.Host.{Host}
use Rattle.mdv_engine_law.proofs.Allowed.{dropped_forced}
use Rattle.mdv_map.specs.Maps.{Map}
use Rattle.mdv_name.specs.declared.geometry.Geometry.{Geometry}
use Rattle.mdv_places.specs.Asked.{Adds, Asks as AsksPlaces, Drops}
use Rattle.mdv_run_law.specs.Run.{IsAnswered, IsSaid, TextWrites}
use Rattle.mdv_shelf.specs.Area.{IsKept}
use Rattle.mdv_shelf.specs.Failing.{Outcomes}
use Rattle.mdv_shelf.specs.Tale.{Tale}
use Rattle.mdv_shown.specs.Site.{site_area}
use Rattle.mdv_store.specs.Boot.{IsEndBy, is_memory}
use Rattle.mdv_store.specs.Booting.{boot_area, has_written}
use Rattle.mdv_store.specs.Opened.{Opened}
use Rattle.mdv_store.specs.declared.booting.BootEnd.TheVariants as ending
use Rattle.mdv_store.specs.declared.booting.BootEnd.{BootEnd}
use Rattle.mdv_store_law.specs.Changes.{Change}
use Rattle.mdv_store_law.specs.Log.{IsAskable, IsMade, IsRising}
use Rattle.mdv_survey.specs.declared.replica.Survey.{Survey}
use Rattle.mdv_plan.specs.declared.table.Table.{Table}
use Rattle.mdv_volumes.specs.Databases.{log_of}
use Rattle.mdv_volumes.specs.Happening.{MayBeFound}
use Rattle.mdv_volumes.specs.Tables.{IsMapOf}
use Rattle.mdv_volumes.proofs.Found.{AreLasting, newest_found}
use Rattle.mdv_status.specs.Values.{values_reply}
use Rattle.mdv_store_law.specs.Log.{Version}
use Rattle.mdv_words.proofs.Lines.{one_line}
use Rattle.mdv_words.specs.Line as words
use Rattle.mdv_words.specs.Line.{IsLine, Line, blocks_of}
use Rattle.mdv_words.specs.declared.command.Alteration.{Alteration}
use Rattle.mdv_words.specs.declared.command.Command.{Command}
use Rattle.mdv_words.specs.declared.command.Command.TheVariants.{Print, Read, Write}
use Rattle.mdv_words.specs.declared.command.Command.TheVariants as command
use Rattle.mdv_words.specs.declared.written.Written.{Written}
use Rattle.mdv_run_law.proofs.Extents.{SeesOwn}
use Rattle.mdv_theorem.specs.Exchanges.{Asks, Exchange, IsGranted, IsOn, IsTold, Makes, ShowsThere}
use Rattle.mdv_theorem.specs.Words.{KeepsDatabase, MayTakeAway, MayTakeDatabase}
use Rattle.mdv_theorem.proofs.Adopted.{IsBlind, blind_boot, firm_shows}
use Rattle.mdv_theorem.proofs.Altered.{altered_outside, altered_step, made_there}
use Rattle.mdv_theorem.proofs.Ends.{begun_stays, none_stays, taken_away}
use Rattle.mdv_theorem.proofs.Leading.{IsIdled, IsLed, lasting_idle, lasting_led}
use Rattle.mdv_theorem.proofs.Steps.{Between, Steps, no_step, one_step, skipped, told_once}
use Rattle.mdv_theorem.proofs.Sure.{IsSure, open_lasting, open_newest, opened_outside, sure_table}
use Rattle.mdv_theorem.proofs.Telling.{is_fault, ok_is_none, one_number, values_are_none}
use Rattle.mdv_volumes.proofs.Made.{VolumeStays}
use Rattle.mdv_volumes.proofs.Lists.{contains_behind, contains_first}

-- What is so of a table is so of that which a change makes of it, of its volumes or of its places, or the end of a change of its places, unless it takes the volume away.
abbrev pub IsCarried : Geometry → VolId → (Table → Type 0) → Type 0
IsCarried g volume P = (asked : Option Change) (old new : Table) → IsAskable (VolumeStays volume) asked → IsMade g asked old new → P old → P new

-- each table that a boot may find by the history that is known there is one of these
abbrev pub Keeps : (host : Host) → (Table → Type 0) → Between host → Type 0
Keeps host P at = AreLasting host.drives P (log_of at.sure.history.databases (key_of host))

-- so is the table that is open
pub open_keeps : (host : Host) (P : Table → Type 0) (at : Between host) (o : Opened) → Keeps host P at → at.kept.memory.opened ≡ Some o → P o.table
open_keeps host P at o are opened =
    let there = (open_newest host at.kept.memory at.sure.history at.sure.tale o at.sure.known opened).newest in
    let found = newest_found there.version there.older (subst IsRising there.family are.is_log.rising) in
    subst P there.same (are.all there.version (subst (λ (f : List Version). MayBeFound f there.version) (sym there.family) found))

-- and where it is one of these, each is
pub keeps_open : (host : Host) (P : Table → Type 0) (at : Between host) (o : Opened) → at.kept.memory.opened ≡ Some o → P o.table → Keeps host P at
keeps_open host P at o opened has = open_lasting host at.kept.memory at.sure.history at.sure.tale o at.sure.known opened P has

-- some replica shows a table then
pub keeps_shown : (host : Host) (P : Table → Type 0) (at : Between host) → Keeps host P at → HasNoTableOn host.drives (key_of host) at.kept.content → ⊥
keeps_shown host P at are = firm_shows host at.sure.history at.sure.tale at.sure.known.stands are.lives are.firm at.kept.content at.sure.reads

module _ (host : Host) (volume : VolId) (P : Table → Type 0) (carried : IsCarried host.drives volume P) where
  -- a line that can't have taken the volume away leaves it so
  pub keeps_line : (one : Exchange) (from mid : Between host) → IsLed host one from.sure.history mid.sure.history → (MayTakeAway volume one → ⊥) → Keeps host P from → Keeps host P mid
  keeps_line one from mid led never are =
      lasting_led host P one (λ asked old new may made has. carried asked old new (begun_stays host volume one never asked may) made has) (λ takes. never (taken_away volume one takes)) from.sure.history mid.sure.history led are

  pub keeps_idle : (from mid : Between host) → IsIdled host from.sure.history mid.sure.history → Keeps host P from → Keeps host P mid
  keeps_idle from mid idled are = lasting_idle host P (λ asked old new may made has. carried asked old new (none_stays host volume asked may) made has) from.sure.history mid.sure.history idled are

-- What a line leaves of the blocks beside the replicas: each is kept, or it was written to that one.
pub record WroteThere (host : Host) (memory : Memory) (text : List ℕ) (t u : Tale) : Type 0 where
  pub volume : VolId
  pub at : ℕ
  pub what : Written
  pub spelled : IsLine text (words.Exec (Write volume at what))
  pub map : Map
  pub there : HasBlocks host memory volume at (length (blocks_of what)) map
  pub put : ArePutBy map at (blocks_of what) t u

module _ (host : Host) (sees : SeesOwn host) (kept : Kept) (sure : IsSure host kept) (text : List ℕ) (t u : Tale) (drive b : ℕ) (out : site_area host.site drive b ≡ false) where
  abbrev Left : Type 0
  Left = IsKept t u drive b ⊎ WroteThere host kept.memory text t u

  command_kept : (cmd : Command) → IsLine text (words.Exec cmd) → LineWrites host (words.Exec cmd) kept.memory t u → Left
  command_kept (command.AddPlaces slices force count blocks) spelled writes = inl (writes.0 drive b out)
  command_kept (command.AddListed number force) spelled writes = inl (writes.0 drive b out)
  command_kept (command.DropPlaces slices force) spelled writes = inl (writes.0 drive b out)
  command_kept (command.Alter alteration) spelled writes = inl (altered_outside host kept.memory (change_of alteration) t u writes drive b (opened_outside host sees kept.memory sure.history sure.tale sure.known drive b out))
  command_kept (Read volume at count) spelled writes = inl (writes drive b refl)
  command_kept (Write volume at what) spelled (inl none) = inl (none drive b refl)
  command_kept (Write volume at what) spelled (inr (v, there, put)) = inr (record { volume = volume; at = at; what = what; spelled = spelled; map = v; there = there; put = put })
  command_kept (Print names) spelled writes = inl (writes drive b refl)

  line_kept : (spelled : Line) → IsLine text spelled → LineWrites host spelled kept.memory t u → Left
  line_kept words.Boot spelled writes = inl (writes drive b out)
  line_kept (words.Tab lines) spelled writes = inl (writes drive b refl)
  line_kept (words.Exec cmd) spelled writes = command_kept cmd spelled writes

  pub text_kept : TextWrites host kept.memory text t u → Left
  text_kept (inl none) = inl (none drive b refl)
  text_kept (inr (spelled, is, writes)) = line_kept spelled is writes

-- what a boot that was answered has come to: it adopted a table, or found nothing and left all as it was
pub data HasComeUp (host : Host) (calls : Outcomes) (kept next : Kept) : Type 0 where
  adopted : (o : Opened) → next.memory.opened ≡ Some o → HasComeUp host calls kept next
  empty : next.memory.opened ≡ None → IsBlind host calls kept.content → IsSame kept.content next.content → HasComeUp host calls kept next

pub has_come_up : (host : Host) (calls : Outcomes) (kept next : Kept) (answer : Answer) → IsRebooted calls host kept answer next → IsSaid answer → HasComeUp host calls kept next
has_come_up host calls kept next answer r said = by r.end r.by r.beside r.answer_is r.memory where
  by : (e : BootEnd) → (is_memory e ≡ true) ⊎ ((survey : Survey) × IsReadOf calls host kept.content r.up e survey × IsEndBy calls (λ hand of progress. WritesBy host.drives host.site.key kept.content next.content hand.identity hand.number hand.seats of progress) host.site survey e) → engine.IsSameBeside (boot_area host.site (has_written e)) kept.content next.content
      → answer ≡ answered_by e → (answer ≡ accepted → next.memory ≡ booted_with (opened_by e) r.up r.clean kept.memory.begun) → HasComeUp host calls kept next
  by (ending.Adopted o) read beside is memory = adopted o (ap (λ (m : Memory). m.opened) (memory is))
  by ending.Empty (inl never) beside is memory = absurd (cc (never))
  by ending.Empty (inr (survey, read, none)) beside is memory = empty (ap (λ (m : Memory). m.opened) (memory is)) (blind_boot calls host kept.content r.up survey read none) (λ drive block. beside drive block refl)
  by (ending.TwoDatabases a b) read beside is memory = absurd (let never : ⊥ = subst IsSaid is said in never)
  by (ending.NoQuorum readable needed) read beside is memory = absurd (let never : ⊥ = subst IsSaid is said in never)
  by (ending.Lost active listed) read beside is memory = absurd (let never : ⊥ = subst IsSaid is said in never)
  by ending.Spent read beside is memory = absurd (let never : ⊥ = subst IsSaid is said in never)
  by ending.Memory read beside is memory = absurd (let never : ⊥ = subst IsSaid is said in never)

-- one that isn't blind opens a database
pub boot_opens : (host : Host) (calls : Outcomes) (kept next : Kept) (answer : Answer) → IsRebooted calls host kept answer next → IsSaid answer → (IsBlind host calls kept.content → ⊥) → (o : Opened) × (next.memory.opened ≡ Some o)
boot_opens host calls kept next answer boots said never = by (has_come_up host calls kept next answer boots said) where
  by : HasComeUp host calls kept next → (o : Opened) × (next.memory.opened ≡ Some o)
  by (adopted later now) = (later, now)
  by (empty none blind same) = absurd (never blind)

-- What a line comes to where a database is open: one stays open; or none is, for a boot found none on the drives of which no call failed, or the line took it away.
pub data OpenLine (host : Host) (calls : Outcomes) (text : List ℕ) (answer : Answer) (kept next : Kept) : Type 0 where
  rests : (later : Opened) → next.memory.opened ≡ Some later → OpenLine host calls text answer kept next
  falls : IsBlind host calls kept.content → next.memory.opened ≡ None → OpenLine host calls text answer kept next
  leaves : (slices : List SliceName) → IsLine text (words.Exec (command.DropPlaces slices true)) → (answer ≡ accepted) ⊎ (answer ≡ refusing IoFault) → next.memory.opened ≡ None → OpenLine host calls text answer kept next

module _ (host : Host) (calls : Outcomes) (text : List ℕ) (answer : Answer) (kept next : Kept) (o : Opened) (opened : kept.memory.opened ≡ Some o) where
  abbrev Line_of : Type 0
  Line_of = OpenLine host calls text answer kept next

  still : next.memory ≡ kept.memory → Line_of
  still memory = rests o (ap (λ (m : Memory). m.opened) memory ∙ opened)

  stays : Stays kept next → Line_of
  stays same = still same.memory

  moves : (its : Opened) (asked : AsksPlaces) → HasMovedOn calls host its asked kept next → Line_of
  moves its asked (clean, is) = rests is.opened (ap (λ (m : Memory). m.opened) is.memory)

  open_boot : IsRebooted calls host kept answer next → IsSaid answer → Line_of
  open_boot boots said = by (has_come_up host calls kept next answer boots said) where
    by : HasComeUp host calls kept next → Line_of
    by (adopted later now) = rests later now
    by (empty none blind same) = falls blind none

  -- the line spells the command, or it moves places as an entry says
  abbrev Spelled : Command → Type 0
  Spelled (command.AddPlaces slices force count blocks) = Unit {0}
  Spelled cmd = IsLine text (words.Exec cmd)

  spelled_as : (entries : List Entry) (cmd : Command) → IsLine text (words.Exec cmd) → Spelled (meant entries cmd)
  spelled_as entries (command.AddPlaces slices force count blocks) spelled = tt
  spelled_as entries (command.AddListed number force) spelled = by (listed_by entries number) where
    by : (said : Option Replicas) → Spelled (as_listed number force said)
    by (Some r) = tt
    by None = spelled
  spelled_as entries (command.DropPlaces slices force) spelled = spelled
  spelled_as entries (command.Alter alteration) spelled = spelled
  spelled_as entries (Read volume at count) spelled = spelled
  spelled_as entries (Write volume at what) spelled = spelled
  spelled_as entries (Print names) spelled = spelled

  -- all places went, which force alone allows
  gone : (its : Opened) (slices : List SliceName) (force : Bool) → kept.memory.opened ≡ Some its → are_all its slices ≡ true → IsLine text (words.Exec (command.DropPlaces slices force)) → IsAllowed (case_of host kept) (command.DropPlaces slices force)
      → (answer ≡ accepted) ⊎ (answer ≡ refusing IoFault) → next.memory.opened ≡ None → Line_of
  gone its slices force also all spelled free told none =
      leaves slices (subst (λ (b : Bool). IsLine text (words.Exec (command.DropPlaces slices b))) (dropped_forced (case_of host kept) its also slices force free all) spelled) told none

  open_done : (cmd : Command) → Spelled cmd → IsAllowed (case_of host kept) cmd → Effect calls host kept cmd answer next → Line_of
  open_done (command.AddPlaces slices force count blocks) spelled free (ok, effect) =
      moves o (Adds (lines_asked host slices) count blocks)
      (subst (λ (x : Option Opened). MatchOption x (IsCreated calls host (lines_asked host slices) count blocks kept next) (λ p. HasMovedOn calls host p (Adds (lines_asked host slices) count blocks) kept next)) opened effect)
  open_done (command.AddListed number force) spelled free effect = absurd effect
  open_done (command.DropPlaces slices force) spelled free (ok, its, also, effect) = by (are_all its slices) refl effect where
    by : (all : Bool) → are_all its slices ≡ all → MatchBool all (IsDeletedOn calls host its kept next) (HasMovedOn calls host its (Drops slices) kept next) → Line_of
    by true all deleted = gone its slices force also all spelled free (inl ok) (ap (λ (m : Memory). m.opened) deleted.memory)
    by false some is = moves its (Drops slices) is
  open_done (command.Alter alteration) spelled free (ok, its, also, made) = rests made.opened (ap (λ (m : Memory). m.opened) made.memory)
  open_done (Read volume at count) spelled free effect = stays effect.7
  open_done (Write volume at what) spelled free (calm, v, there, ok, memory, put) = still memory
  open_done (Print names) spelled free effect = stays effect.4

  open_faulted : (cmd : Command) → Spelled cmd → IsAllowed (case_of host kept) cmd → answer ≡ refusing IoFault → Fault calls host kept cmd next → Line_of
  open_faulted (command.AddPlaces slices force count blocks) spelled free told fault =
      let unmoved : IsUnmovedOn calls host o (lines_asked host slices) count blocks kept next =
      subst (λ (x : Option Opened). MatchOption x (IsUncreated calls host (lines_asked host slices) count blocks kept next) (λ p. IsUnmovedOn calls host p (lines_asked host slices) count blocks kept next)) opened fault in
      still unmoved.memory
  open_faulted (command.AddListed number force) spelled free told fault = absurd fault
  open_faulted (command.DropPlaces slices force) spelled free told (its, also, all, undeleted) = by undeleted where
    by : IsUndeletedOn calls host its kept next → Line_of
    by (inl is) = rests is.opened (ap (λ (m : Memory). m.opened) is.memory)
    by (inr is) = gone its slices force also all spelled free (inr told) (ap (λ (m : Memory). m.opened) is.memory)
  open_faulted (command.Alter alteration) spelled free told fault = absurd fault
  open_faulted (Read volume at count) spelled free told fault = stays fault.1
  open_faulted (Write volume at what) spelled free told (failed, unsettled, put) = rests o (ap (λ (m : Memory). m.opened) unsettled.beside ∙ opened)
  open_faulted (Print names) spelled free told fault = absurd fault

  open_wanting : (cmd : Command) → Wanting host kept cmd next → Line_of
  open_wanting (command.AddPlaces slices force count blocks) (free, wants) = stays (subst (λ (x : Option Opened). MatchOption x (IsUnbegun kept next) (λ p. Stays kept next)) opened wants)
  open_wanting (command.AddListed number force) wants = absurd wants
  open_wanting (command.DropPlaces slices force) wants = stays wants.4
  open_wanting (command.Alter alteration) wants = stays wants.2
  open_wanting (Read volume at count) wants = stays wants.1
  open_wanting (Write volume at what) wants = stays wants.2
  open_wanting (Print names) wants = stays wants.1

  open_came : (cmd : Command) → Spelled cmd → CameTo calls host kept cmd answer next → IsSaid answer → Line_of
  open_came cmd spelled (came.refused quiet r why left) said = stays left.1
  open_came cmd spelled (came.wanting quiet told wants) said = open_wanting cmd wants
  open_came cmd spelled (came.done free effect) said = open_done cmd spelled free effect
  open_came cmd spelled (came.faulted free told fault) said = open_faulted cmd spelled free told fault
  open_came cmd spelled (came.over end free over gives) said = absurd (let never : ⊥ = subst IsSaid over said in never)

  open_tab : (lines : List ℕ) → KeepsTab calls kept lines answer next → Line_of
  open_tab lines (came.entered quiet entries tab told memory same) = rests o (ap (λ (m : Memory). m.opened) memory ∙ opened)
  open_tab lines (came.unfit quiet r why left) = stays left.1
  open_tab lines (came.unread quiet told same) = stays same

  open_comes : (spelled : Line) → IsLine text spelled → ComesTo calls host kept spelled answer next → IsSaid answer → Line_of
  open_comes words.Boot spelled comes said = open_boot comes said
  open_comes (words.Tab lines) spelled comes said = open_tab lines comes
  open_comes (words.Exec cmd) spelled comes said = open_came (meant kept.memory.entries cmd) (spelled_as kept.memory.entries cmd spelled) comes said

  pub open_line : IsAnswered calls host kept text answer next → IsSaid answer → OpenLine host calls text answer kept next
  open_line (inl (none, quiet, refused)) said = stays refused.1
  open_line (inr (inl (line, spelled, comes))) said = open_comes line spelled comes said
  open_line (inr (inr (quiet, refused))) said = stays refused.1

-- a line that leaves none so may have taken the database away
pub leaves_takes : (one : Exchange) (answer : Answer) → IsTold one (text_of answer) → (slices : List SliceName) → IsLine one.text (words.Exec (command.DropPlaces slices true)) → (answer ≡ accepted) ⊎ (answer ≡ refusing IoFault) → MayTakeDatabase one
leaves_takes one answer told slices spelled came_so = record { command = command.DropPlaces slices true; asks = spelled; takes = refl; begun = λ refusal refuses. by refusal refuses came_so } where
  by : (refusal : Refusal) → IsTold one (refusal_line refusal) → (answer ≡ accepted) ⊎ (answer ≡ refusing IoFault) → refusal ≡ IoFault
  by refusal refuses (inl ok) = absurd (ok_is_none refusal (told_once one ok_line (refusal_line refusal) (subst (λ (a : Answer). IsTold one (text_of a)) ok told) refuses))
  by refusal refuses (inr fault) = is_fault refusal (one_number refusal IoFault (told_once one (refusal_line refusal) (refusal_line IoFault) refuses (subst (λ (a : Answer). IsTold one (text_of a)) fault told)))

-- no boot is blind where a database is open that was open at this place, and calls fail on such drives alone
abbrev pub NeverBlind : (host : Host) → (ℕ → Type 0) → Between host → Type 1
NeverBlind host Failed from =
    (front : List Exchange) (mid : Between host) → Steps host Failed from front mid → (o : Opened) → mid.kept.memory.opened ≡ Some o → (calls : Outcomes) → ((drive : ℕ) → (Failed drive → ⊥) → (calls drive).some → ⊥) → IsBlind host calls mid.kept.content → ⊥

-- as long as no boot is blind, and no line can have taken the database away, one that is open stays open
module _ (host : Host) (Failed : ℕ → Type 0) where
  pub opened_steps : (from last : Between host) (es : List Exchange) (o : Opened) → KeepsDatabase es → NeverBlind host Failed from → from.kept.memory.opened ≡ Some o → Steps host Failed from es last → (later : Opened) × (last.kept.memory.opened ≡ Some later)
  opened_steps from last es o keeps never opened (no_step at) = (o, opened)
  opened_steps from last es o keeps never opened (skipped at mid end rest same idled steps) =
      opened_steps mid last es o keeps (λ front to upto. never front to (skipped from mid to front same idled upto)) (ap (λ (m : Memory). m.opened) same.memory ∙ opened) steps
  opened_steps from last es o keeps never opened (one_step calls at mid end one answer rest unfailed comes said told writes led steps) =
      let now = by (open_line host calls one.text answer from.kept mid.kept o opened comes said) in
      opened_steps mid last rest now.0 (λ other has. keeps other (contains_behind one other rest has)) (λ front to upto. never (one ∷ front) to (one_step calls from mid to one answer front unfailed comes said told writes led upto)) now.1 steps
    where
      by : OpenLine host calls one.text answer from.kept mid.kept → (later : Opened) × (mid.kept.memory.opened ≡ Some later)
      by (rests later now) = (later, now)
      by (falls blind none) = absurd (never [] from (no_step from) o opened calls unfailed blind)
      by (leaves slices spelled so none) = absurd (keeps one (contains_first one rest) (leaves_takes one answer told slices spelled so))

-- the open table has the volume
pub record HasThere (host : Host) (volume : VolId) (kept : Kept) : Type 0 where
  pub o : Opened
  pub opened : kept.memory.opened ≡ Some o
  pub map : Map
  pub lies : IsMapOf host.drives o.table volume map

-- what was told of a command that was granted is no refusal
pub granted_is_none : (one : Exchange) (cmd : Command) (r : Refusal) → IsGranted one cmd → IsTold one (refusal_line r) → ⊥
granted_is_none one (command.AddPlaces slices force count blocks) r granted told = ok_is_none r (told_once one ok_line (refusal_line r) granted told)
granted_is_none one (command.AddListed number force) r granted told = ok_is_none r (told_once one ok_line (refusal_line r) granted told)
granted_is_none one (command.DropPlaces slices force) r granted told = ok_is_none r (told_once one ok_line (refusal_line r) granted told)
granted_is_none one (command.Alter alteration) r granted told = ok_is_none r (told_once one ok_line (refusal_line r) granted told)
granted_is_none one (Read volume at count) r (from, blocks, values) told = values_are_none from blocks r (told_once one (values_reply from blocks) (refusal_line r) values told)
granted_is_none one (Write volume at what) r granted told = ok_is_none r (told_once one ok_line (refusal_line r) granted told)
granted_is_none one (Print names) r (reply, said, other) told = other r (told_once one reply (refusal_line r) said told)

module _ (host : Host) (calls : Outcomes) (kept next : Kept) (one : Exchange) (answer : Answer) (comes : IsAnswered calls host kept one.text answer next) (said : IsSaid answer) (told : IsTold one (text_of answer)) where
  unrefusing : (cmd : Command) (r : Refusal) → IsGranted one cmd → answer ≡ refusing r → ⊥
  unrefusing cmd r granted is = granted_is_none one cmd r granted (subst (λ (a : Answer). IsTold one (text_of a)) is told)

  came_done : (cmd means : Command) → IsGranted one cmd → CameTo calls host kept means answer next → IsAllowed (case_of host kept) means × Effect calls host kept means answer next
  came_done cmd means granted (came.refused quiet r why left) = absurd (unrefusing cmd r granted left.0)
  came_done cmd means granted (came.wanting quiet is wants) = absurd (unrefusing cmd OutOfMemory granted is)
  came_done cmd means granted (came.done free effect) = (free, effect)
  came_done cmd means granted (came.faulted free is fault) = absurd (unrefusing cmd IoFault granted is)
  came_done cmd means granted (came.over end free over gives) = absurd (let never : ⊥ = subst IsSaid over said in never)

  -- a command that was granted was done, by what it means
  pub granted_done : (cmd : Command) → Asks one cmd → IsGranted one cmd → IsAllowed (case_of host kept) (meant kept.memory.entries cmd) × Effect calls host kept (meant kept.memory.entries cmd) answer next
  granted_done cmd asks granted = by comes where
    by : IsAnswered calls host kept one.text answer next → IsAllowed (case_of host kept) (meant kept.memory.entries cmd) × Effect calls host kept (meant kept.memory.entries cmd) answer next
    by (inl (none, quiet, refused)) = absurd (none (words.Exec cmd) asks)
    by (inr (inl (spelled, is, does))) = came_done cmd (meant kept.memory.entries cmd) granted (subst (λ (l : Line). ComesTo calls host kept l answer next) (one_line one.text spelled (words.Exec cmd) is asks) does)
    by (inr (inr (quiet, refused))) = absurd (unrefusing cmd OutOfMemory granted refused.0)

  module _ (volume : VolId) (before : IsSure host kept) (after : IsSure host next) where
    -- blocks of it were there before
    same_there : (other : VolId) (at count : ℕ) (v : Map) → other ≡ volume → next.memory ≡ kept.memory → HasBlocks host kept.memory other at count v → HasThere host volume next
    same_there other at count v same memory there =
        record { o = there.o; opened = ap (λ (m : Memory). m.opened) memory ∙ there.opened; map = v; lies = subst (λ (w : VolId). IsMapOf host.drives there.o.table w v) same there.lies }

    -- or it was made, or has a row more
    altered_there : (alteration : Alteration) → Asks one (command.Alter alteration) → Makes volume alteration → (its : Opened) → IsAllowed (case_of host kept) (command.Alter alteration) → kept.memory.opened ≡ Some its
        → IsCommitted calls host its (table_by host.drives alteration its.table) kept next → HasThere host volume next
    altered_there alteration asks makes its free opened made =
        let table_is : made.opened.table ≡ table_by host.drives alteration its.table = ap (λ (x : Opened). x.table) made.committed.is in
        let unheld = subst (λ (x : Option Opened). first_refusal (held_of_alteration host x (change_of alteration)) ≡ None) opened free in
        let now : next.memory.opened ≡ Some made.opened = ap (λ (m : Memory). m.opened) made.memory in
        let step = altered_step host its one alteration made.opened.table asks unheld (sure_table host kept its before opened) (sure_table host next made.opened after now) table_is in
        let there = made_there host.drives its.table made.opened.table volume one alteration asks makes step in
        record { o = made.opened; opened = now; map = there.0; lies = there.1 }

    on_there : (cmd : Command) → Asks one cmd → IsOn volume cmd → IsAllowed (case_of host kept) (meant kept.memory.entries cmd) × Effect calls host kept (meant kept.memory.entries cmd) answer next → HasThere host volume next
    on_there (command.AddPlaces slices force count blocks) asks on done = absurd on
    on_there (command.AddListed number force) asks on done = absurd on
    on_there (command.DropPlaces slices force) asks on done = absurd on
    on_there (command.Alter alteration) asks on (free, (ok, its, opened, made)) = altered_there alteration asks on its free opened made
    on_there (Read other at count) asks on (free, (calm, v, there, blocks, many, seen, values, stays)) = same_there other at count v on stays.memory there
    on_there (Write other at what) asks on (free, (calm, v, there, ok, memory, put)) = same_there other at (length (blocks_of what)) v on memory there
    on_there (Print names) asks on done = absurd on

    -- behind a line that shows it to be there the volume is in the open table
    pub shown_there : ShowsThere volume one → HasThere host volume next
    shown_there shows = on_there shows.command shows.asks shows.on (granted_done shows.command shows.asks shows.granted)
