-- The entries that a run keeps are in their form at each place between two lines.
use Rattle.std.proofs.Common.{◌≡◌, ℕ, ◌+◌, List, length, refl, ◌∙◌, subst}
use Rattle.mdv_engine_law.specs.Answers.{accepted}
use Rattle.mdv_engine_law.specs.Line.{IsRebooted, Kept, answered_by, opened_by}
use Rattle.mdv_engine_law.specs.declared.answer.Answer.{Answer}
use Rattle.mdv_engine_law.specs.declared.host.Host.{Host}
use Rattle.mdv_port.specs.Script.{Script, at_end, line, spent, too_long}
use Rattle.mdv_run_law.specs.Run.{At, Counts, IsOfTable, IsSaid, LinesTold, NextLine, Stretch, drive_failures, no_line, one_more}
use Rattle.mdv_shelf.specs.Failing.{Outcomes}
use Rattle.mdv_store.specs.Opened.{Opened}
use Rattle.mdv_store.specs.declared.booting.BootEnd.{BootEnd}
use Rattle.mdv_store.specs.declared.booting.BootEnd.TheVariants as end
use Rattle.mdv_words.specs.Listed.{AreInForm}
use Rattle.mdv_theorem.proofs.Carried.{Holds, Keeps, carried, holds_still, none_kept}

said_accepted : (e : BootEnd) → IsSaid (answered_by e) → answered_by e ≡ accepted
said_accepted (end.Adopted o) said = refl
said_accepted end.Empty said = refl
said_accepted (end.TwoDatabases a b) said = absurd said
said_accepted (end.NoQuorum readable needed) said = absurd said
said_accepted (end.Lost active listed) said = absurd said
said_accepted end.Spent said = absurd said
said_accepted end.Memory said = absurd said

abbrev Any : Opened → Type 0
Any o = Unit {0}

module _ (host : Host) where
  -- behind a boot none is kept
  pub boot_formed : (calls : Outcomes) (kept next : Kept) (answer : Answer) → IsRebooted calls host kept answer next → IsSaid answer → AreInForm next.memory.entries
  boot_formed calls kept next answer boots said =
      none_kept next (opened_by boots.end) boots.up boots.clean kept.memory.begun (boots.memory (boots.answer_is ∙ said_accepted boots.end (subst IsSaid boots.answer_is said)))

  any_keeps : (calls : Outcomes) → Keeps host calls Any
  any_keeps calls = record { made = λ identity lines count blocks content formed o is. tt; changed = λ old new table same was is. tt; moved = λ old asked new clean was added is. tt }

  module _ (is_host : IsOfTable host) where
    next_formed : (now later : Counts) (kept next : Kept) (script rest : Script) (answer : Answer) → NextLine host now kept script answer later next rest → IsSaid answer → Holds Any kept → Holds Any next
    next_formed now later kept next at_end rest answer is said holds = absurd is
    next_formed now later kept next (spent rows limit) rest answer is said holds = absurd is
    next_formed now later kept next (too_long left) rest answer is said holds = holds_still Any kept next is.3.1.memory holds
    next_formed now later kept next (line text left) rest answer is said holds =
        let calls = drive_failures now later in
        carried host is_host calls Any (any_keeps calls) kept next answer text (λ asks boots telling. record { formed = boot_formed calls kept next answer boots telling; held = λ o opened. tt }) holds said is.2

    lines_hold : (stretch : Stretch) (n : ℕ) (now last : At) (front : List ℕ) → LinesTold host stretch n now front last → Holds Any now.kept → Holds Any last.kept
    lines_hold stretch n now last front (no_line bytes at) holds = holds
    lines_hold stretch n now last front (one_more bytes at mid end piece left some told shown more) holds =
        lines_hold stretch (n + length piece) mid last left more (next_formed now.counts mid.counts now.kept mid.kept now.script mid.script told.answer told.comes told.said holds)

    pub lines_formed : (stretch : Stretch) (n : ℕ) (now last : At) (front : List ℕ) → LinesTold host stretch n now front last → AreInForm now.kept.memory.entries → AreInForm last.kept.memory.entries
    lines_formed stretch n now last front lines formed = (let all = lines_hold stretch n now last front lines (record { formed = formed; held = λ o opened. tt }) in all.formed)
