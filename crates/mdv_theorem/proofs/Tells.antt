-- Whether a line was told to have moved places; and what was granted of a database leaves one open.
use Rattle.std.proofs.Common.{◌≡◌, ◌⊎◌, inl, inr, ℕ, Bool, true, false, List, MatchOption, Option, Some, None, sym, ◌∙◌, ap, subst, refl}
use Rattle.std.specs.Bool.{MatchBool}
use Rattle.std.specs.Str.{bytes_eq}
use Rattle.std.proofs.lemmas.Bool.{false≢true}
use Rattle.std.proofs.lemmas.Slice.Eq.{bytes_eq-Decides}
use Rattle.mdv_base.specs.declared.refusal.Refusal.TheVariants.{OutOfMemory}
use Rattle.mdv_engine_law.specs.Commands.{Effect, IsAllowed, case_of}
use Rattle.mdv_engine_law.specs.Hosts.{lines_asked}
use Rattle.mdv_engine_law.specs.Line.{IsCreated, Kept, Memory}
use Rattle.mdv_engine_law.specs.Moves.{HasMovedOn, IsDeletedOn}
use Rattle.mdv_engine_law.specs.Places.{are_all}
use Rattle.mdv_engine_law.specs.Replies.{ok_line, text_of}
use Rattle.mdv_engine_law.specs.declared.answer.Answer.{Answer}
use Rattle.mdv_engine_law.specs.declared.host.Host.{Host}
use Rattle.mdv_engine_law.proofs.Allowed.{dropped_forced}
use Rattle.mdv_places.specs.Asked.{Adds, Drops}
use Rattle.mdv_run_law.specs.Run.{IsAnswered, IsSaid}
use Rattle.mdv_shelf.specs.Failing.{Outcomes}
use Rattle.mdv_store.specs.Opened.{Opened}
use Rattle.mdv_words.proofs.Lines.{one_line}
use Rattle.mdv_words.specs.Line.{Boot, Exec, IsLine, Line, Tab}
use Rattle.mdv_words.specs.Listed.{Replicas, as_listed, listed_by, meant}
use Rattle.mdv_words.specs.declared.command.Command.{Command}
use Rattle.mdv_words.specs.declared.command.Command.TheVariants as command
use Rattle.mdv_theorem.specs.Exchanges.{Asks, Exchange, IsGranted, IsTold}
use Rattle.mdv_theorem.specs.Words.{MayTakeDatabase, MovesPlaces, NeedsDatabase, TellsPlaces}
use Rattle.mdv_theorem.proofs.Tables.{granted_done}
use Rattle.mdv_theorem.proofs.Telling.{ok_is_none}

module _ (one : Exchange) where
  -- no line but a command that moves places is told to have moved some
  other_command : (cmd : Command) → Asks one cmd → (MovesPlaces cmd → ⊥) → TellsPlaces one → ⊥
  other_command cmd asks never (other, also, moves, told) =
      let same : Exec other ≡ Exec cmd = one_line one.text (Exec other) (Exec cmd) also asks in
      let both : other ≡ cmd = cc (same) in
      never (subst MovesPlaces both moves)

  other_line : (spelled : Line) → IsLine one.text spelled → ((cmd : Command) → spelled ≡ Exec cmd → ⊥) → TellsPlaces one → ⊥
  other_line spelled is never (cmd, asks, moves, told) = never cmd (one_line one.text spelled (Exec cmd) is asks)

  abbrev Either : Type 0
  Either = TellsPlaces one ⊎ (TellsPlaces one → ⊥)

  module _ (answer : Answer) (is_told : IsTold one (text_of answer)) where
    told_ok : (cmd : Command) → Asks one cmd → MovesPlaces cmd → Either
    told_ok cmd asks moves = by (bytes_eq (text_of answer) ok_line) refl where
      by : (b : Bool) → bytes_eq (text_of answer) ok_line ≡ b → Either
      by true is = inl (cmd, asks, moves, is_told ∙ ap (λ (l : List ℕ). Some l) ((bytes_eq-Decides (text_of answer) ok_line).0 is))
      by false is = inr (λ tells. (
          let same : Some (text_of answer) ≡ Some ok_line = sym is_told ∙ tells.3 in
          let both : text_of answer ≡ ok_line = cc (same) in
          let does = (bytes_eq-Decides (text_of answer) ok_line).1 both in
          cc (does, is)))

    of_command : (cmd : Command) → Asks one cmd → Either
    of_command (command.AddPlaces slices force count blocks) asks = told_ok (command.AddPlaces slices force count blocks) asks tt
    of_command (command.AddListed number force) asks = told_ok (command.AddListed number force) asks tt
    of_command (command.DropPlaces slices force) asks = told_ok (command.DropPlaces slices force) asks tt
    of_command (command.Alter alteration) asks = inr (other_command (command.Alter alteration) asks (λ moves. moves))
    of_command (command.Read volume at count) asks = inr (other_command (command.Read volume at count) asks (λ moves. moves))
    of_command (command.Write volume at what) asks = inr (other_command (command.Write volume at what) asks (λ moves. moves))
    of_command (command.Print names) asks = inr (other_command (command.Print names) asks (λ moves. moves))

    of_line : (spelled : Line) → IsLine one.text spelled → Either
    of_line Boot is = inr (other_line Boot is (λ cmd same. cc (same)))
    of_line (Tab rows) is = inr (other_line (Tab rows) is (λ cmd same. cc (same)))
    of_line (Exec cmd) is = of_command cmd is

module _ (host : Host) (calls : Outcomes) (kept next : Kept) (one : Exchange) (answer : Answer) (comes : IsAnswered calls host kept one.text answer next) (said : IsSaid answer) (is_told : IsTold one (text_of answer)) where
  pub tells_or_not : TellsPlaces one ⊎ (TellsPlaces one → ⊥)
  tells_or_not = by comes where
    by : IsAnswered calls host kept one.text answer next → TellsPlaces one ⊎ (TellsPlaces one → ⊥)
    by (inl (none, quiet, refused)) = inr (λ tells. none (Exec tells.0) tells.1)
    by (inr (inl (spelled, is, does))) = of_line one answer is_told spelled is
    by (inr (inr (quiet, refused))) = inr (λ tells. ok_is_none OutOfMemory (
        let same : Some (text_of answer) ≡ Some ok_line = sym is_told ∙ tells.3 in
        let both : text_of answer ≡ ok_line = cc (same) in
        sym both ∙ ap text_of refused.0))

  abbrev IsOpen : Type 0
  IsOpen = (o : Opened) × (next.memory.opened ≡ Some o)

  abbrev IsDone : Command → Type 0
  IsDone cmd = IsAllowed (case_of host kept) cmd × Effect calls host kept cmd answer next

  more_open : (slices : List _) (force : Bool) (count blocks : ℕ) → IsDone (command.AddPlaces slices force count blocks) → IsOpen
  more_open slices force count blocks (free, (ok, effect)) = by kept.memory.opened effect where
    by : (x : Option Opened) → MatchOption x (IsCreated calls host (lines_asked host slices) count blocks kept next) (λ o. HasMovedOn calls host o (Adds (lines_asked host slices) count blocks) kept next) → IsOpen
    by None made = (made.opened, ap (λ (m : Memory). m.opened) made.memory)
    by (Some o) (clean, is) = (is.opened, ap (λ (m : Memory). m.opened) is.memory)

  listed_open : (number : ℕ) (force : Bool) (found : Option Replicas) → IsDone (as_listed number force found) → IsOpen
  listed_open number force (Some r) done = more_open r.slices force r.count r.blocks done
  listed_open number force None done = absurd done.1

  less_open : (slices : List _) → IsDone (command.DropPlaces slices false) → IsOpen
  less_open slices (free, (ok, o, opened, effect)) = by (are_all o slices) refl effect where
    by : (all : Bool) → are_all o slices ≡ all → MatchBool all (IsDeletedOn calls host o kept next) (HasMovedOn calls host o (Drops slices) kept next) → IsOpen
    by true is deleted = absurd (false≢true (dropped_forced (case_of host kept) o opened slices false free is))
    by false is (clean, moved) = (moved.opened, ap (λ (m : Memory). m.opened) moved.memory)

  done_open : (cmd : Command) → NeedsDatabase cmd → IsDone (meant kept.memory.entries cmd) → IsOpen
  done_open (command.AddPlaces slices force count blocks) needs done = more_open slices force count blocks done
  done_open (command.AddListed number force) needs done = listed_open number force (listed_by kept.memory.entries number) done
  done_open (command.DropPlaces slices force) needs done = less_open slices (subst (λ (b : Bool). IsDone (command.DropPlaces slices b)) needs done)
  done_open (command.Alter alteration) needs (free, (ok, its, opened, made)) = (made.opened, ap (λ (m : Memory). m.opened) made.memory)
  done_open (command.Read volume at count) needs (free, (calm, v, there, blocks, many, seen, values, stays)) = (there.o, ap (λ (m : Memory). m.opened) stays.memory ∙ there.opened)
  done_open (command.Write volume at what) needs (free, (calm, v, there, ok, memory, put)) = (there.o, ap (λ (m : Memory). m.opened) memory ∙ there.opened)
  done_open (command.Print names) needs (free, (calm, its, also, text, same)) = (its, ap (λ (m : Memory). m.opened) same.memory ∙ also)

  -- A command that was granted on a database leaves one open.
  pub granted_open : (cmd : Command) → NeedsDatabase cmd → Asks one cmd → IsGranted one cmd → (o : Opened) × (next.memory.opened ≡ Some o)
  granted_open cmd needs asks granted = done_open cmd needs (granted_done host calls kept next one answer comes said is_told cmd asks granted)

  -- So does a line that was told to have moved places, if it can't have taken the database away.
  pub told_open : (MayTakeDatabase one → ⊥) → TellsPlaces one → (o : Opened) × (next.memory.opened ≡ Some o)
  told_open keeps (command.AddPlaces slices force count blocks, asks, moves, ok) = granted_open (command.AddPlaces slices force count blocks) tt asks ok
  told_open keeps (command.AddListed number force, asks, moves, ok) = granted_open (command.AddListed number force) tt asks ok
  told_open keeps (command.DropPlaces slices false, asks, moves, ok) = granted_open (command.DropPlaces slices false) refl asks ok
  told_open keeps (command.DropPlaces slices true, asks, moves, ok) = absurd (keeps (record {
    command = command.DropPlaces slices true;
    asks = asks;
    takes = refl;
    begun = λ refusal refuses. absurd (ok_is_none refusal (let same : Some ok_line ≡ Some _ = sym ok ∙ refuses in cc (same)));
  }))
  told_open keeps (command.Alter alteration, asks, moves, ok) = absurd moves
  told_open keeps (command.Read volume at count, asks, moves, ok) = absurd moves
  told_open keeps (command.Write volume at what, asks, moves, ok) = absurd moves
  told_open keeps (command.Print names, asks, moves, ok) = absurd moves
