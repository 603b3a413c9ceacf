-- Behind what was told `ok` a database is open, but for a boot that found none, and places of which all went.
use Rattle.std.proofs.Common.{◌≡◌, ◌⊎◌, inl, inr, ◌∙◌, Bool, List, Option, Some, None, refl, ap}
use Rattle.std.specs.Prelude.{MatchOption}
use Rattle.mdv_places.specs.Asked.{Adds}
use Rattle.mdv_words.specs.Listed.{as_listed}
use Rattle.mdv_engine_law.specs.Hosts.{lines_asked}
use Rattle.mdv_engine_law.specs.Moves.{HasMovedOn}
use Rattle.mdv_shelf.specs.Failing.{Outcomes}
use Rattle.mdv_words.specs.declared.command.Command.TheVariants.{Alter}
use Rattle.mdv_words.specs.Line as words
use Rattle.mdv_engine_law.specs.Below.{Command, AddListed, AddPlaces, DropPlaces, Line, Opened, Print, Read, Replicas, SliceName, Write, listed_by, meant}
use Rattle.mdv_engine_law.specs.Answers.{accepted}
use Rattle.mdv_engine_law.specs.Commands as came
use Rattle.mdv_engine_law.specs.Commands.{CameTo, ComesTo, Effect, KeepsTab}
use Rattle.mdv_engine_law.specs.Line.{IsCreated, Kept, Memory}
use Rattle.mdv_engine_law.specs.declared.host.Host.{Host}

-- what is open isn't none
not_none : (memory : Memory) (o : Opened) → memory.opened ≡ Some o → memory.opened ≡ None → ⊥
not_none memory o some none = cc (some, none)

module _ (calls : Outcomes) (host : Host) (kept next : Kept) where
  -- all places were to go from some slices
  abbrev Drops : Command → Type 0
  Drops command = (slices : List SliceName) × (force : Bool) × (command ≡ DropPlaces slices force)

  effect_opens : (command : Command) → Effect calls host kept command accepted next → next.memory.opened ≡ None → Drops command
  effect_opens (AddPlaces slices force count blocks) (same, is) none = absurd (by kept.memory.opened is) where
    by : (opened : Option Opened) → MatchOption opened (IsCreated calls host (lines_asked host slices) count blocks kept next) (λ o. HasMovedOn calls host o (Adds (lines_asked host slices) count blocks) kept next) → ⊥
    by None made = not_none next.memory made.opened (ap (λ (m : Memory). m.opened) made.memory) none
    by (Some o) (clean, made) = not_none next.memory made.opened (ap (λ (m : Memory). m.opened) made.memory) none
  effect_opens (AddListed number force) is none = absurd is
  effect_opens (DropPlaces slices force) is none = (slices, force, refl)
  effect_opens (Alter alteration) (same, o, there, done) none = absurd (not_none next.memory done.opened (ap (λ (m : Memory). m.opened) done.memory) none)
  effect_opens (Read volume at count) (calm, v, there, blocks, counted, seen, same, stays) none = absurd (cc (same))
  effect_opens (Write volume at what) (calm, v, there, same, memory, put) none =
      let is : next.memory.opened ≡ Some there.o = ap (λ (m : Memory). m.opened) memory ∙ there.opened in
      absurd (not_none next.memory there.o is none)
  effect_opens (Print names) (calm, o, there, same, stays) none = absurd (cc (same))

  command_opens : (command : Command) → CameTo calls host kept command accepted next → next.memory.opened ≡ None → Drops command
  command_opens command (came.refused calm refusal why left) none = absurd (let is = left.0 in cc (is))
  command_opens command (came.wanting calm told wants) none = absurd (cc (told))
  command_opens command (came.done free effect) none = effect_opens command effect none
  command_opens command (came.faulted free told fault) none = absurd (cc (told))
  command_opens command (came.over end free over gives) none = absurd (cc (over))

  tab_tells : (lines : _) → KeepsTab calls kept lines accepted next → ⊥
  tab_tells lines (came.entered calm entries are told memory content) = cc (told)
  tab_tells lines (came.unfit calm refusal why left) = (let is = left.0 in cc (is))
  tab_tells lines (came.unread calm told stays) = cc (told)

  -- an entry's line means no such command
  drops_itself : (command : Command) → Drops (meant kept.memory.entries command) → Drops command
  drops_itself (AddListed number force) drops = absurd (by (listed_by kept.memory.entries number) drops) where
    by : (said : Option Replicas) → Drops (as_listed number force said) → ⊥
    by None (slices, f, is) = cc (is)
    by (Some r) (slices, f, is) = cc (is)
  drops_itself (AddPlaces slices force count blocks) drops = drops
  drops_itself (DropPlaces slices force) drops = drops
  drops_itself (Alter alteration) drops = drops
  drops_itself (Read volume at count) drops = drops
  drops_itself (Write volume at what) drops = drops
  drops_itself (Print names) drops = drops

  -- so what is told `ok` and leaves none open is a boot, or a line by which places go
  pub only_boot : (line : Line) → ComesTo calls host kept line accepted next → next.memory.opened ≡ None → (line ≡ words.Boot) ⊎ ((command : Command) × (line ≡ words.Exec command) × Drops command)
  only_boot words.Boot comes none = inl refl
  only_boot (words.Tab lines) comes none = absurd (tab_tells lines comes)
  only_boot (words.Exec command) comes none = inr (command, refl, drops_itself command (command_opens (meant kept.memory.entries command) comes none))
