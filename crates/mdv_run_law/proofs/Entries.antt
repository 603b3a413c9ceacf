-- Which entries are kept behind a line that isn't `boot`.
use Rattle.std.proofs.Common.{◌≡◌, inl, inr, ℕ, Bool, true, false, List, ◌++◌, length, MatchBool, MatchOption, Option, None, Some, refl, sym, ◌∙◌, ap, subst}
use Rattle.std.proofs.lemmas.List.{append_cancel_left}
use Rattle.mdv_run_law.specs.Below.{Refusal, OutOfMemory, IsLine, entries_reply, refusal_line, told, Command, AddListed, AddPlaces, Alter, DropPlaces, Print, Read, Write, Tale, Answer, Reply, Host, Memory, Opened, Kept, kept_at, CameTo, IsTold, IsReplied, Executed, meant}
use Rattle.mdv_words.specs.Line as words
use Rattle.mdv_engine_law.specs.declared.answer.Answer.TheVariants.{Said, Over}
use Rattle.mdv_shelf.specs.Failing.{Outcomes}
use Rattle.mdv_engine_law.specs.Commands as came
use Rattle.mdv_engine_law.specs.Commands.{Effect, Fault, KeepsTab, Wanting}
use Rattle.mdv_engine_law.specs.Places.{are_all}
use Rattle.mdv_engine_law.proofs.Longer.{never_ended}
use Rattle.mdv_words.proofs.Lines.{one_line}
use Rattle.mdv_engine_law.specs.declared.answer.Outcome.{Outcome}
use Rattle.mdv_engine_law.specs.declared.answer.Outcome.TheVariants as outcome
use Rattle.mdv_engine_law.specs.Replies.{outcome_text, text_of}
use Rattle.mdv_run_law.specs.Standing.{HasEntries}
use Rattle.mdv_run_law.specs.Run.{IsSaid}
use Rattle.mdv_shelf.specs.Made.{Made}

-- an answer whose reply was told whole
said_whole : (failed : Type 0) (answer : Answer) (r : Reply) (piece : List ℕ) → IsTold failed answer r piece → IsReplied r → IsSaid answer
said_whole failed (Said this) r piece is replied = tt
said_whole failed (Over end) r piece is replied = absurd (never_ended end (subst IsReplied is.0 replied))

-- the entries stay as they were
module _ (calls : Outcomes) (host : Host) (kept next : Kept) (answer : Answer) where
  entries_same : next.memory ≡ kept.memory → next.memory.entries ≡ kept.memory.entries
  entries_same same = ap (λ (m : Memory). m.entries) same

  -- of places that come, by whether a database is open, and of those that go, by whether all do
  placed_entries : {A : Type 0} {B : Opened → Type 0} → (A → next.memory.entries ≡ kept.memory.entries) → ((o : Opened) → B o → next.memory.entries ≡ kept.memory.entries) → (opened : Option Opened) → MatchOption opened A B → next.memory.entries ≡ kept.memory.entries
  placed_entries none some None is = none is
  placed_entries none some (Some o) is = some o is

  dropped_entries : {A B : Type 0} → (A → next.memory.entries ≡ kept.memory.entries) → (B → next.memory.entries ≡ kept.memory.entries) → (all : Bool) → MatchBool all A B → next.memory.entries ≡ kept.memory.entries
  dropped_entries gone moved true is = gone is
  dropped_entries gone moved false is = moved is

  effect_entries : (command : Command) → Effect calls host kept command answer next → next.memory.entries ≡ kept.memory.entries
  effect_entries (AddPlaces slices force count blocks) is = placed_entries (λ made. ap (λ (m : Memory). m.entries) made.memory) (λ o moved. ap (λ (m : Memory). m.entries) moved.1.memory) kept.memory.opened is.1
  effect_entries (AddListed number force) is = absurd is
  effect_entries (DropPlaces slices force) is = dropped_entries (λ gone. ap (λ (m : Memory). m.entries) gone.memory) (λ moved. ap (λ (m : Memory). m.entries) moved.1.memory) (are_all is.1 slices) is.3
  effect_entries (Alter alteration) is = ap (λ (m : Memory). m.entries) is.3.memory
  effect_entries (Read volume at count) is = entries_same is.7.memory
  effect_entries (Write volume at what) is = entries_same is.4
  effect_entries (Print names) is = entries_same is.4.memory

  fault_entries : (command : Command) → Fault calls host kept command next → next.memory.entries ≡ kept.memory.entries
  fault_entries (AddPlaces slices force count blocks) is = placed_entries (λ none. ap (λ (m : Memory). m.entries) none.memory) (λ o unmoved. entries_same unmoved.memory) kept.memory.opened is
  fault_entries (AddListed number force) is = absurd is
  fault_entries (DropPlaces slices force) is = elim is.3 [ inl moved ↦ ap (λ (m : Memory). m.entries) moved.memory | inr unblanked ↦ ap (λ (m : Memory). m.entries) unblanked.memory ]
  fault_entries (Alter alteration) is = absurd is
  fault_entries (Read volume at count) is = entries_same is.1.memory
  fault_entries (Write volume at what) is = ap (λ (m : Memory). m.entries) is.1.beside
  fault_entries (Print names) is = absurd is

  wanting_entries : (command : Command) → Wanting host kept command next → next.memory.entries ≡ kept.memory.entries
  wanting_entries (AddPlaces slices force count blocks) is = placed_entries (λ unbegun. ap (λ (m : Memory). m.entries) unbegun.memory) (λ o stays. entries_same stays.memory) kept.memory.opened is.1
  wanting_entries (AddListed number force) is = absurd is
  wanting_entries (DropPlaces slices force) is = entries_same is.4.memory
  wanting_entries (Alter alteration) is = entries_same is.2.memory
  wanting_entries (Read volume at count) is = entries_same is.1.memory
  wanting_entries (Write volume at what) is = entries_same is.2.memory
  wanting_entries (Print names) is = entries_same is.1.memory

  came_entries : (command : Command) → CameTo calls host kept command answer next → IsSaid answer → next.memory.entries ≡ kept.memory.entries
  came_entries command (came.refused quiet refusal is left) said = entries_same left.1.memory
  came_entries command (came.wanting quiet is left) said = wanting_entries command left
  came_entries command (came.done free effect) said = effect_entries command effect
  came_entries command (came.faulted free is fault) said = fault_entries command fault
  came_entries command (came.over end free is gives) said = absurd (let never : ⊥ = subst IsSaid is said in never)

-- behind a command, by what it came to
pub came_command : (calls : Outcomes) (host : Host) (kept next : Kept) (answer : Answer) (text bytes : List ℕ) (command : Command) → IsLine text (words.Exec command) → CameTo calls host kept (meant kept.memory.entries command) answer next → IsSaid answer
    → HasEntries text bytes (Some kept.memory.entries) next.memory.entries
came_command calls host kept next answer text bytes command spelled is said = inr (inr (
  λ boot. absurd (let never : words.Boot ≡ words.Exec command = one_line text words.Boot (words.Exec command) boot spelled in cc (never)),
  λ lines tab. absurd (let never : words.Tab lines ≡ words.Exec command = one_line text (words.Tab lines) (words.Exec command) tab spelled in cc (never)),
  ap Some (sym (came_entries calls host kept next answer (meant kept.memory.entries command) is said)),
))

-- and behind a block, by what it came to, and its reply
pub came_tab : (calls : Outcomes) (kept next : Kept) (answer : Answer) (text bytes lines : List ℕ) → IsLine text (words.Tab lines) → KeepsTab calls kept lines answer next → bytes ≡ text_of answer → HasEntries text bytes (Some kept.memory.entries) next.memory.entries
came_tab calls kept next answer text bytes lines spelled (came.entered quiet entries tab is memory same) told =
    let now : next.memory.entries ≡ entries = ap (λ (m : Memory). m.entries) memory in
    subst (HasEntries text bytes (Some kept.memory.entries)) (sym now) (inr (inl (lines, spelled, tab, told ∙ ap text_of is)))
came_tab calls kept next answer text bytes lines spelled (came.unfit quiet refusal why left) told =
    inr (inr (λ boot. (refusal, told ∙ ap text_of left.0), λ others tab. (refusal, told ∙ ap text_of left.0), ap (λ (m : Memory). Some m.entries) (sym left.1.memory)))
came_tab calls kept next answer text bytes lines spelled (came.unread quiet is left) told =
    inr (inr (λ boot. (OutOfMemory, told ∙ ap text_of is), λ others tab. (OutOfMemory, told ∙ ap text_of is), ap (λ (m : Memory). Some m.entries) (sym left.memory)))

-- the bytes that were told of it are its text
pub told_text : (failed : Type 0) (this : Outcome) (r : Reply) (piece bytes : List ℕ) (t u : Tale) → IsTold failed (Said this) r piece → IsReplied r → told u ≡ told t ++ piece → told u ≡ told t ++ bytes → bytes ≡ outcome_text this
told_text failed this r piece bytes t u (inl whole) replied is also = append_cancel_left (told t) bytes piece (sym also ∙ is) ∙ whole.1
told_text failed this r piece bytes t u (inr cut) replied is also = absurd (let never : ⊥ = subst IsReplied cut.given_is replied in never)

text_told : (failed : Type 0) (answer : Answer) (this : Outcome) → answer ≡ Said this → (r : Reply) (piece bytes : List ℕ) (t u : Tale) → IsTold failed answer r piece → IsReplied r → told u ≡ told t ++ piece → told u ≡ told t ++ bytes → bytes ≡ outcome_text this
text_told failed answer this is r piece bytes t u as_told = told_text failed this r piece bytes t u (subst (λ (a : Answer). IsTold failed a r piece) is as_told)

-- What is kept of entries behind a line that was executed and replied to.
module _ (calls : Outcomes) (replies : Type 0) (made : Made) (host : Host) (old new : Memory) (r : Reply) (t u : Tale) (text bytes : List ℕ) (more : told u ≡ told t ++ bytes) where
  pub command_entries : (command : Command) → IsLine text (words.Exec command) → Executed calls replies made host (words.Exec command) old new r t u → IsReplied r → HasEntries text bytes (Some old.entries) new.entries
  command_entries command spelled is replied = inr (inr (
    λ boot. absurd (let never : words.Boot ≡ words.Exec command = one_line text words.Boot (words.Exec command) boot spelled in cc (never)),
    λ lines tab. absurd (let never : words.Tab lines ≡ words.Exec command = one_line text (words.Tab lines) (words.Exec command) tab spelled in cc (never)),
    ap Some (sym (came_entries calls host (kept_at old t) (kept_at new u) is.answer (meant old.entries command) is.carried (said_whole replies is.answer r is.replied.piece is.replied.as_told replied))),
  ))

  keeps_entries : (lines : List ℕ) → IsLine text (words.Tab lines) → (answer : Answer) (piece : List ℕ) → KeepsTab calls (kept_at old t) lines answer (kept_at new u) → told u ≡ told t ++ piece → IsTold replies answer r piece → IsReplied r → HasEntries text bytes (Some old.entries) new.entries
  keeps_entries lines spelled answer piece (came.entered quiet entries tab is memory same) so as_told replied =
      let now : new.entries ≡ entries = ap (λ (m : Memory). m.entries) memory in
      let text_is = text_told replies answer (outcome.Values (entries_reply (length entries))) is r piece bytes t u as_told replied so more in
      subst (HasEntries text bytes (Some old.entries)) (sym now) (inr (inl (lines, spelled, tab, text_is)))
  keeps_entries lines spelled answer piece (came.unfit quiet refusal why left) so as_told replied =
      let text_is = text_told replies answer (outcome.Refused refusal) left.0 r piece bytes t u as_told replied so more in
      inr (inr (λ boot. (refusal, text_is), λ others tab. (refusal, text_is), ap (λ (m : Memory). Some m.entries) (sym left.1.memory)))
  keeps_entries lines spelled answer piece (came.unread quiet is left) so as_told replied =
      let text_is = text_told replies answer (outcome.Refused OutOfMemory) is r piece bytes t u as_told replied so more in
      inr (inr (λ boot. (OutOfMemory, text_is), λ others tab. (OutOfMemory, text_is), ap (λ (m : Memory). Some m.entries) (sym left.memory)))

  pub tab_entries : (lines : List ℕ) → IsLine text (words.Tab lines) → Executed calls replies made host (words.Tab lines) old new r t u → IsReplied r → HasEntries text bytes (Some old.entries) new.entries
  tab_entries lines spelled is replied = keeps_entries lines spelled is.answer is.replied.piece is.carried is.replied.is_told is.replied.as_told replied

-- and behind one that was only refused
pub refused_entries : (text bytes : List ℕ) (refusal : Refusal) (memory : Memory) → bytes ≡ refusal_line refusal → HasEntries text bytes (Some memory.entries) memory.entries
refused_entries text bytes refusal memory is = inr (inr (λ boot. (refusal, is), λ lines tab. (refusal, is), refl))
