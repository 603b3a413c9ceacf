-- What a run has in memory between its lines: something that holds of what is open, if a creation, a change of the plan and a change of places each leave it so, and a boot brings it about.
use Rattle.mdv_base.specs.DriveSet.{Drives}
use Rattle.mdv_engine_law.specs.Line.{AreFormedOn, IsRebooted, booted_with}
use Rattle.mdv_name.specs.declared.slice_lines.SliceLine.{SliceLine}
use Rattle.mdv_places.specs.Outcomes.{IsMoved}
use Rattle.mdv_run_law.proofs.Meaning.{none_formed}
use Rattle.mdv_shelf.specs.Everywhere.{Image}
use Rattle.mdv_store.specs.Commit as commit
use Rattle.mdv_store.specs.Create as create
use Rattle.mdv_plan.specs.declared.table.Table.{Table}
use Rattle.mdv_run_law.specs.Below.{Entry}
use Rattle.std.proofs.Common.{◌≡◌, inl, inr, ℕ, ◌+◌, Bool, true, false, List, Option, Some, None, MatchOption, Contains, refl, sym, ◌∙◌, ap, subst}
use Rattle.std.specs.Bool.{MatchBool}
use Rattle.mdv_base.specs.declared.drive.SliceName.{SliceName}
use Rattle.mdv_base.specs.declared.mark.Identity.{Identity}
use Rattle.mdv_words.specs.Listed.{AreInForm, meant}
use Rattle.mdv_words.proofs.Form.{commands_are_in_form}
use Rattle.mdv_words.proofs.Tabs.{entries_are_in_form}
use Rattle.mdv_engine_law.specs.Commands as came
use Rattle.mdv_engine_law.specs.Commands.{CameTo, ComesTo, Effect, Fault, IsAllowed, KeepsTab, Wanting, case_of}
use Rattle.mdv_engine_law.specs.Moves.{HasMovedOn, IsDeletedOn, IsMovedOn, IsUndeletedOn, IsUnmovedOn}
use Rattle.mdv_engine_law.specs.Places.{are_all}
use Rattle.mdv_places.specs.Asked.{Adds, Asks, Drops, KeepsFirst, seats_added}
use Rattle.mdv_run_law.proofs.Meaning.{formed_as, meant_in_form}
use Rattle.mdv_store.specs.Opened.{Opened}
use Rattle.mdv_store.specs.Seats.{replicas_of}
use Rattle.mdv_survey.specs.declared.replica.Replica.{Replica}
use Rattle.mdv_engine_law.specs.Hosts.{identity_of, key_of, lines_asked}
use Rattle.mdv_engine_law.specs.Line.{IsCreated, IsUnbegun, IsUncreated, Kept, Memory, Stays}
use Rattle.mdv_engine_law.specs.declared.answer.Answer.{Answer}
use Rattle.mdv_engine_law.specs.declared.answer.Answer.TheVariants.{Over as Ends}
use Rattle.mdv_engine_law.specs.declared.host.Host.{Host}
use Rattle.mdv_run_law.specs.Run.{IsAnswered, IsOfTable, IsSaid}
use Rattle.mdv_shelf.specs.Failing.{Outcomes}
use Rattle.mdv_words.specs.Line as words
use Rattle.mdv_words.specs.Line.{IsInForm, IsLine, Line}
use Rattle.mdv_words.specs.declared.command.Command.{Command}
use Rattle.mdv_words.specs.declared.command.Command.TheVariants.{AddListed, AddPlaces, DropPlaces, Print, Read, Write}
use Rattle.mdv_words.specs.declared.command.Command.TheVariants as command
use Rattle.mdv_engine_law.specs.Altering.{table_by}
use Rattle.mdv_theorem.proofs.Altered.{lists_by}
use Rattle.mdv_theorem.proofs.Lines.{never_in}
use Rattle.mdv_theorem.proofs.Sited.{added_own}

-- The entries that are kept are in their form, and what is open is so.
pub record Holds (P : Opened → Type 0) (kept : Kept) : Type 0 where
  pub formed : AreInForm kept.memory.entries
  pub held : (o : Opened) → kept.memory.opened ≡ Some o → P o

-- memory has nothing else open
pub holds_same : (P : Opened → Type 0) (kept next : Kept) → next.memory.opened ≡ kept.memory.opened → AreInForm next.memory.entries → Holds P kept → Holds P next
holds_same P kept next same formed holds = record { formed = formed; held = λ o opened. holds.held o (sym same ∙ opened) }

pub holds_open : (P : Opened → Type 0) (next : Kept) (o : Opened) → next.memory.opened ≡ Some o → AreInForm next.memory.entries → P o → Holds P next
holds_open P next o now formed held = record {
  formed = formed;
  held = λ other opened. (let both : Some o ≡ Some other = sym now ∙ opened in subst P (let one : o ≡ other = cc (both) in one) held);
}

pub holds_none : (P : Opened → Type 0) (next : Kept) → next.memory.opened ≡ None → AreInForm next.memory.entries → Holds P next
holds_none P next none formed = record { formed = formed; held = λ o opened. absurd (let both : None ≡ Some o = sym none ∙ opened in cc (both)) }

-- behind a boot no entry is kept
pub none_kept : (next : Kept) (opened : Option Opened) (up : Drives) (clean : Bool) (begun : ℕ) → next.memory ≡ booted_with opened up clean begun → AreInForm next.memory.entries
none_kept next opened up clean begun is = subst (λ (m : Memory). AreInForm m.entries) (sym is) none_formed

-- nothing changed
pub holds_still : (P : Opened → Type 0) (kept next : Kept) → next.memory ≡ kept.memory → Holds P kept → Holds P next
holds_still P kept next same holds = holds_same P kept next (ap (λ (m : Memory). m.opened) same) (formed_as next.memory kept.memory (ap (λ (m : Memory). m.entries) same) holds.formed) holds

-- what a line means is in its form
pub means_form : (entries : List Entry) → AreInForm entries → (text : List ℕ) (cmd : Command) → IsLine text (words.Exec cmd) → IsInForm (meant entries cmd)
means_form entries formed text cmd is = meant_in_form entries formed cmd (commands_are_in_form text cmd is.1)

-- each change of what is open leaves it so
pub record Keeps (host : Host) (calls : Outcomes) (P : Opened → Type 0) : Type 0 where
  pub made : (identity : Identity) (lines : List SliceLine) (count blocks : ℕ) (content : Image) → AreFormedOn host identity lines count blocks content → (o : Opened) → create.IsMade calls (key_of host) identity lines count blocks o → P o
  pub changed : (old new : Opened) (table : Table) → table.plan.lists ≡ old.table.plan.lists → P old → commit.IsCommitted calls old new table → P new
  pub moved : (old : Opened) (asked : Asks) (new : Opened) (clean : Bool) → P old → ((r : Replica) → Contains (replicas_of (seats_added old asked)) r → Contains host.site.lines r.line) → IsMoved calls host.drives old asked new clean → P new

module _ (host : Host) (is_host : IsOfTable host) (calls : Outcomes) (P : Opened → Type 0) (stay : Keeps host calls P) (kept next : Kept) (answer : Answer) where
  abbrev HoldsAt : Kept → Type 0
  HoldsAt = Holds P

  -- memory with other things than entries changed
  as_formed : (memory : Memory) → next.memory ≡ memory → memory.entries ≡ kept.memory.entries → HoldsAt kept → AreInForm next.memory.entries
  as_formed memory is same holds = formed_as next.memory kept.memory (ap (λ (m : Memory). m.entries) is ∙ same) holds.formed

  -- what is open stays so, or is another such one
  same_holds : HoldsAt kept → next.memory ≡ kept.memory → HoldsAt next
  same_holds holds is = holds_same P kept next (ap (λ (m : Memory). m.opened) is) (as_formed kept.memory is refl holds) holds

  stays_holds : HoldsAt kept → Stays kept next → HoldsAt next
  stays_holds holds stays = same_holds holds stays.memory

  opened_holds : (memory : Memory) → next.memory ≡ memory → memory.opened ≡ kept.memory.opened → memory.entries ≡ kept.memory.entries → HoldsAt kept → HoldsAt next
  opened_holds memory is opened entries holds = holds_same P kept next (ap (λ (m : Memory). m.opened) is ∙ opened) (as_formed memory is entries holds) holds

  moved_holds : (o : Opened) (asked : Asks) (clean : Bool) → HoldsAt kept → kept.memory.opened ≡ Some o → ((r : Replica) → Contains (replicas_of (seats_added o asked)) r → Contains host.site.lines r.line) → IsMovedOn calls host o asked clean kept next → HoldsAt next
  moved_holds o asked clean holds opened added is =
      holds_open P next is.opened (ap (λ (m : Memory). m.opened) is.memory) (as_formed _ is.memory refl holds) (stay.moved o asked is.opened clean (holds.held o opened) added is.moved)

  begun_holds : HoldsAt kept → next.memory ≡ record kept.memory { begun = kept.memory.begun + 1 } → HoldsAt next
  begun_holds holds is = opened_holds (record kept.memory { begun = kept.memory.begun + 1 }) is refl refl holds

  wanting_more : (opened : Option Opened) → HoldsAt kept → MatchOption opened (IsUnbegun kept next) (λ o. Stays kept next) → HoldsAt next
  wanting_more None holds left = begun_holds holds left.memory
  wanting_more (Some o) holds left = stays_holds holds left

  wanting_holds : (cmd : Command) → HoldsAt kept → Wanting host kept cmd next → HoldsAt next
  wanting_holds (AddPlaces slices force count blocks) holds left = wanting_more kept.memory.opened holds left.1
  wanting_holds (AddListed number force) holds left = absurd left
  wanting_holds (DropPlaces slices force) holds left = stays_holds holds left.4
  wanting_holds (command.Alter alteration) holds left = stays_holds holds left.2
  wanting_holds (Read volume at count) holds left = stays_holds holds left.1
  wanting_holds (Write volume at what) holds left = stays_holds holds left.2
  wanting_holds (Print names) holds left = stays_holds holds left.1

  more_holds : (slices : List SliceName) (force : Bool) (count blocks : ℕ) (opened : Option Opened) → HoldsAt kept → IsAllowed (case_of host kept) (AddPlaces slices force count blocks) → IsInForm (AddPlaces slices force count blocks) → kept.memory.opened ≡ opened
      → MatchOption opened (IsCreated calls host (lines_asked host slices) count blocks kept next) (λ o. HasMovedOn calls host o (Adds (lines_asked host slices) count blocks) kept next) → HoldsAt next
  more_holds slices force count blocks None holds free form opened is =
      holds_open P next is.opened (ap (λ (m : Memory). m.opened) is.memory) (as_formed _ is.memory refl holds) (stay.made (identity_of host kept.memory.begun) (lines_asked host slices) count blocks next.content is.formed is.opened is.made)
  more_holds slices force count blocks (Some o) holds free form opened is =
      moved_holds o (Adds (lines_asked host slices) count blocks) is.0 holds opened (added_own host is_host kept.memory slices force count blocks free form o) is.1

  less_holds : (slices : List SliceName) (o : Opened) (all : Bool) → HoldsAt kept → kept.memory.opened ≡ Some o → MatchBool all (IsDeletedOn calls host o kept next) (HasMovedOn calls host o (Drops slices) kept next) → HoldsAt next
  less_holds slices o true holds opened is = holds_none P next (ap (λ (m : Memory). m.opened) is.memory) (as_formed _ is.memory refl holds)
  less_holds slices o false holds opened is = moved_holds o (Drops slices) is.0 holds opened (λ r has. absurd (never_in r has)) is.1

  effect_holds : (cmd : Command) → HoldsAt kept → IsAllowed (case_of host kept) cmd → IsInForm cmd → Effect calls host kept cmd answer next → HoldsAt next
  effect_holds (AddPlaces slices force count blocks) holds free form is = more_holds slices force count blocks kept.memory.opened holds free form refl is.1
  effect_holds (AddListed number force) holds free form is = absurd is
  effect_holds (DropPlaces slices force) holds free form is = less_holds slices is.1 (are_all is.1 slices) holds is.2 is.3
  effect_holds (command.Alter alteration) holds free form is =
      holds_open P next is.3.opened (ap (λ (m : Memory). m.opened) is.3.memory) (as_formed _ is.3.memory refl holds) (stay.changed is.1 is.3.opened (table_by host.drives alteration is.1.table) (lists_by host.drives alteration form is.1.table) (holds.held is.1 is.2) is.3.committed)
  effect_holds (Read volume at count) holds free form is = stays_holds holds is.7
  effect_holds (Write volume at what) holds free form is = same_holds holds is.4
  effect_holds (Print names) holds free form is = stays_holds holds is.4

  fault_more : (slices : List SliceName) (count blocks : ℕ) (opened : Option Opened) → HoldsAt kept
      → MatchOption opened (IsUncreated calls host (lines_asked host slices) count blocks kept next) (λ o. IsUnmovedOn calls host o (lines_asked host slices) count blocks kept next) → HoldsAt next
  fault_more slices count blocks None holds is = begun_holds holds is.memory
  fault_more slices count blocks (Some o) holds is = same_holds holds is.memory

  fault_less : (o : Opened) → HoldsAt kept → kept.memory.opened ≡ Some o → IsUndeletedOn calls host o kept next → HoldsAt next
  fault_less o holds opened (inl moved) = moved_holds o KeepsFirst false holds opened (λ r has. absurd (never_in r has)) moved
  fault_less o holds opened (inr left) = holds_none P next (ap (λ (m : Memory). m.opened) left.memory) (as_formed _ left.memory refl holds)

  fault_holds : (cmd : Command) → HoldsAt kept → Fault calls host kept cmd next → HoldsAt next
  fault_holds (AddPlaces slices force count blocks) holds is = fault_more slices count blocks kept.memory.opened holds is
  fault_holds (AddListed number force) holds is = absurd is
  fault_holds (DropPlaces slices force) holds is = fault_less is.0 holds is.1 is.3
  fault_holds (command.Alter alteration) holds is = absurd is
  fault_holds (Read volume at count) holds is = stays_holds holds is.1
  fault_holds (Write volume at what) holds is = opened_holds (record kept.memory { unsteady = next.memory.unsteady }) is.1.beside refl refl holds
  fault_holds (Print names) holds is = absurd is

  came_holds : (cmd : Command) → HoldsAt kept → IsInForm cmd → IsSaid answer → CameTo calls host kept cmd answer next → HoldsAt next
  came_holds cmd holds form said (came.refused quiet r is left) = stays_holds holds left.1
  came_holds cmd holds form said (came.wanting quiet is left) = wanting_holds cmd holds left
  came_holds cmd holds form said (came.done free effect) = effect_holds cmd holds free form effect
  came_holds cmd holds form said (came.faulted free is fault) = fault_holds cmd holds fault
  came_holds cmd holds form said (came.over end free is gives) = absurd (let never : IsSaid (Ends end) = subst IsSaid is said in never)

  tab_holds : (lines : List ℕ) → HoldsAt kept → KeepsTab calls kept lines answer next → HoldsAt next
  tab_holds lines holds (came.entered quiet entries tab is memory same) =
      holds_same P kept next (ap (λ (m : Memory). m.opened) memory) (subst (λ (m : Memory). AreInForm m.entries) (sym memory) (entries_are_in_form lines entries tab)) holds
  tab_holds lines holds (came.unfit quiet r why left) = stays_holds holds left.1
  tab_holds lines holds (came.unread quiet is left) = stays_holds holds left

  abbrev pub BootHolds : List ℕ → Type 0
  BootHolds text = IsLine text words.Boot → IsRebooted calls host kept answer next → IsSaid answer → Holds P next

  line_holds : (text : List ℕ) (spelled : Line) → BootHolds text → HoldsAt kept → IsSaid answer → IsLine text spelled → ComesTo calls host kept spelled answer next → HoldsAt next
  line_holds text words.Boot boots holds said asks is = boots asks is said
  line_holds text (words.Tab lines) boots holds said asks is = tab_holds lines holds is
  line_holds text (words.Exec cmd) boots holds said asks is = came_holds (meant kept.memory.entries cmd) holds (means_form kept.memory.entries holds.formed text cmd asks) said is

  pub carried : (text : List ℕ) → BootHolds text → HoldsAt kept → IsSaid answer → IsAnswered calls host kept text answer next → HoldsAt next
  carried text boots holds said (inl (none, quiet, refused)) = stays_holds holds refused.1
  carried text boots holds said (inr (inl (spelled, is, comes))) = line_holds text spelled boots holds said is comes
  carried text boots holds said (inr (inr (quiet, refused))) = stays_holds holds refused.1
