-- No line tells that places were lost, where half of each list of what is open, or more, lies on drives on which no call fails; and what is open stays such.
use Rattle.std.proofs.Common.{◌≡◌, inl, inr, ℕ, Bool, true, false, if◌then◌else◌, List, Option, Some, None, MatchOption, refl, sym, ◌∙◌, subst}
use Rattle.std.proofs.lemmas.Bool.{false≢true}
use Rattle.mdv_base.specs.declared.drive.SliceName.{SliceName}
use Rattle.mdv_engine_law.proofs.Allowed.{allowed_clean, dropped_forced}
use Rattle.mdv_engine_law.specs.Answers.{refusing}
use Rattle.mdv_engine_law.specs.Commands as came
use Rattle.mdv_engine_law.specs.Commands.{CameTo, ComesTo, Effect, GivesUp, IsAllowed, KeepsTab, LeavesPlaces, case_of}
use Rattle.mdv_engine_law.specs.Hosts.{key_of, lines_asked}
use Rattle.mdv_engine_law.specs.Line.{IsRebooted, Kept}
use Rattle.mdv_engine_law.specs.Moves.{IsLostChange, LeavesLists, drop_of}
use Rattle.mdv_engine_law.specs.Places.{are_all, list_of}
use Rattle.mdv_engine_law.specs.declared.answer.Answer.{Answer}
use Rattle.mdv_engine_law.specs.declared.answer.Answer.TheVariants.{Said, Over as Ends}
use Rattle.mdv_engine_law.specs.declared.answer.Ended.{Ended}
use Rattle.mdv_engine_law.specs.declared.answer.Ended.TheVariants as stop
use Rattle.mdv_engine_law.specs.declared.host.Host.{Host}
use Rattle.mdv_places.specs.Asked.{Adds, Drops, KeepsFirst, list_after}
use Rattle.mdv_run_law.specs.Run.{IsAnswered, IsOfTable, status_at}
use Rattle.mdv_run_law.specs.declared.status.RunStatus.TheVariants as status
use Rattle.mdv_shelf.specs.Failing.{Outcomes}
use Rattle.mdv_store.specs.Opened.{Opened}
use Rattle.mdv_words.specs.Line as words
use Rattle.mdv_words.specs.Line.{IsInForm, IsLine, Line}
use Rattle.mdv_words.specs.Listed.{meant}
use Rattle.mdv_words.specs.declared.command.Command.{Command}
use Rattle.mdv_words.specs.declared.command.Command.TheVariants.{AddListed, AddPlaces, DropPlaces, Print, Read, Write}
use Rattle.mdv_words.specs.declared.command.Command.TheVariants as command
use Rattle.mdv_theorem.proofs.Carried.{Holds, Keeps, means_form}
use Rattle.mdv_theorem.proofs.Lines.{never_in}
use Rattle.mdv_theorem.proofs.Losing.{made_own}
use Rattle.mdv_theorem.proofs.Seats.{IsBorne, IsHalf, added_seated, asked_seated, changed_borne, lost_change_never, lost_move_never, made_borne, moved_borne}
use Rattle.mdv_theorem.proofs.Sited.{added_own}

-- it isn't the end of a run whose places were lost
abbrev pub IsNoLoss : Ended → Type 0
IsNoLoss (stop.Lost active listed) = ⊥
IsNoLoss other = Unit {0}

abbrev pub IsUpheld : Answer → Type 0
IsUpheld (Said this) = Unit {0}
IsUpheld (Ends over) = IsNoLoss over

pub lost_status : (over : Ended) (active listed : ℕ) → status_at over ≡ status.Panic active listed → IsNoLoss over → ⊥
lost_status (stop.Lost some all) active listed is never = never
lost_status (stop.NoQuorum readable needed) active listed is fine = cc (is)
lost_status (stop.TwoDatabases a b) active listed is fine = cc (is)
lost_status stop.Spent active listed is fine = cc (is)
lost_status stop.Memory active listed is fine = cc (is)

module _ (host : Host) (is_host : IsOfTable host) (calm : ℕ → Bool) (calls : Outcomes) (unfailed : (drive : ℕ) → calm drive ≡ true → (calls drive).some → ⊥) where
  -- seats stay so
  pub borne_keeps : Keeps host calls (IsBorne host calm)
  borne_keeps = record {
    made = λ identity lines count blocks content formed o is.
        made_borne host calm calls unfailed (key_of host) identity lines count blocks o
        (asked_seated host calm (key_of host) identity lines count blocks (made_own host is_host calls (key_of host) identity lines count blocks content formed refl)) is;
    changed = λ old new table same borne is. changed_borne host calm calls unfailed old new table same borne is;
    moved = λ old asked new clean borne added is. moved_borne host calm calls unfailed old asked borne (added_seated host calm old asked added) new clean is;
  }

  -- half of each list that a command may lead to lies on such drives; and none takes the last places
  abbrev pub Halves : Command → Opened → Type 0
  Halves (AddPlaces slices force count blocks) o = IsHalf host calm (list_of o) × IsHalf host calm (list_after (Adds (lines_asked host slices) count blocks) (list_of o))
  Halves (DropPlaces slices force) o = (force ≡ false) × IsHalf host calm (list_of o) × IsHalf host calm (list_after (Drops slices) (list_of o))
  Halves other o = IsHalf host calm (list_of o)

  module _ (kept next : Kept) (answer : Answer) (holds : Holds (IsBorne host calm) kept) (unclean : kept.memory.opened ≡ None → kept.memory.clean ≡ false) where
    lost_more : (slices : List SliceName) (force : Bool) (count blocks active listed : ℕ) (opened : Option Opened) → IsAllowed (case_of host kept) (AddPlaces slices force count blocks) → IsInForm (AddPlaces slices force count blocks) → kept.memory.opened ≡ opened
        → ((o : Opened) → kept.memory.opened ≡ Some o → Halves (AddPlaces slices force count blocks) o)
        → MatchOption opened (LeavesPlaces calls host (lines_asked host slices) count blocks active listed kept next) (λ o. LeavesLists calls host o (Adds (lines_asked host slices) count blocks) active listed kept next) → ⊥
    lost_more slices force count blocks active listed None free form is halves gives = false≢true (sym (unclean is) ∙ allowed_clean (case_of host kept) slices force count blocks free is)
    lost_more slices force count blocks active listed (Some o) free form is halves gives =
        let asked = Adds (lines_asked host slices) count blocks in
        let half = halves o is in
        lost_move_never host calm calls unfailed o asked (holds.held o is) (added_seated host calm o asked (added_own host is_host kept.memory slices force count blocks free form o)) half.0 half.1 active listed gives.lost

    lost_less : (slices : List SliceName) (force : Bool) (active listed : ℕ) → IsAllowed (case_of host kept) (DropPlaces slices force) → (o : Opened) → kept.memory.opened ≡ Some o → Halves (DropPlaces slices force) o → LeavesLists calls host o (drop_of o slices) active listed kept next → ⊥
    lost_less slices force active listed free o opened half gives = by (are_all o slices) refl gives.lost where
      by : (all : Bool) → are_all o slices ≡ all → IsLostChange calls host.drives o (if all then KeepsFirst else Drops slices) active listed → ⊥
      by true is lost = false≢true (sym half.0 ∙ dropped_forced (case_of host kept) o opened slices force free is)
      by false is lost = lost_move_never host calm calls unfailed o (Drops slices) (holds.held o opened) (added_seated host calm o (Drops slices) (λ r has. absurd (never_in r has))) half.1 half.2 active listed lost

    gives_upheld : (cmd : Command) (over : Ended) → IsAllowed (case_of host kept) cmd → IsInForm cmd → ((o : Opened) → kept.memory.opened ≡ Some o → Halves cmd o) → GivesUp calls host kept cmd over next → IsNoLoss over
    gives_upheld (AddPlaces slices force count blocks) (stop.Lost active listed) free form halves gives = lost_more slices force count blocks active listed kept.memory.opened free form refl halves gives
    gives_upheld (AddListed number force) (stop.Lost active listed) free form halves gives = gives
    gives_upheld (DropPlaces slices force) (stop.Lost active listed) free form halves gives = lost_less slices force active listed free gives.0 gives.1 (halves gives.0 gives.1) gives.2
    gives_upheld (command.Alter alteration) (stop.Lost active listed) free form halves gives =
        lost_change_never host calm calls unfailed gives.0 gives.2.lost.new _ (record { active = active; listed = listed }) (holds.held gives.0 gives.1) (halves gives.0 gives.1) gives.2.lost.lost gives.2.lost.few
    gives_upheld (Read volume at count) (stop.Lost active listed) free form halves gives = gives
    gives_upheld (Write volume at what) (stop.Lost active listed) free form halves gives = gives
    gives_upheld (Print names) (stop.Lost active listed) free form halves gives = gives
    gives_upheld cmd (stop.NoQuorum readable needed) free form halves gives = tt
    gives_upheld cmd (stop.TwoDatabases one other) free form halves gives = tt
    gives_upheld cmd stop.Spent free form halves gives = tt
    gives_upheld cmd stop.Memory free form halves gives = tt

    upheld_said : (r : _) → answer ≡ refusing r → IsUpheld answer
    upheld_said r is = subst IsUpheld (sym is) tt

    effect_upheld : (cmd : Command) → Effect calls host kept cmd answer next → IsUpheld answer
    effect_upheld (AddPlaces slices force count blocks) is = subst IsUpheld (sym is.0) tt
    effect_upheld (AddListed number force) is = absurd is
    effect_upheld (DropPlaces slices force) is = subst IsUpheld (sym is.0) tt
    effect_upheld (command.Alter alteration) is = subst IsUpheld (sym is.0) tt
    effect_upheld (Read volume at count) is = subst IsUpheld (sym is.6) tt
    effect_upheld (Write volume at what) is = subst IsUpheld (sym is.3) tt
    effect_upheld (Print names) is = subst IsUpheld (sym is.3) tt

    came_upheld : (cmd : Command) → IsInForm cmd → ((o : Opened) → kept.memory.opened ≡ Some o → Halves cmd o) → CameTo calls host kept cmd answer next → IsUpheld answer
    came_upheld cmd form halves (came.refused quiet r is left) = upheld_said r left.0
    came_upheld cmd form halves (came.wanting quiet is left) = upheld_said _ is
    came_upheld cmd form halves (came.done free effect) = effect_upheld cmd effect
    came_upheld cmd form halves (came.faulted free is fault) = upheld_said _ is
    came_upheld cmd form halves (came.over over free is gives) = subst IsUpheld (sym is) (gives_upheld cmd over free form halves gives)

    tab_upheld : (lines : List ℕ) → KeepsTab calls kept lines answer next → IsUpheld answer
    tab_upheld lines (came.entered quiet entries tab is memory same) = subst IsUpheld (sym is) tt
    tab_upheld lines (came.unfit quiet r why left) = upheld_said r left.0
    tab_upheld lines (came.unread quiet is left) = upheld_said _ is

    module _ (text : List ℕ) (boots : IsLine text words.Boot → IsRebooted calls host kept answer next → IsUpheld answer) (halves : (cmd : Command) → IsLine text (words.Exec cmd) → (o : Opened) → kept.memory.opened ≡ Some o → Halves (meant kept.memory.entries cmd) o) where
      line_upheld : (spelled : Line) → IsLine text spelled → ComesTo calls host kept spelled answer next → IsUpheld answer
      line_upheld words.Boot asks is = boots asks is
      line_upheld (words.Tab lines) asks is = tab_upheld lines is
      line_upheld (words.Exec cmd) asks is = came_upheld (meant kept.memory.entries cmd) (means_form kept.memory.entries holds.formed text cmd asks) (halves cmd asks) is

      pub answered_upheld : IsAnswered calls host kept text answer next → IsUpheld answer
      answered_upheld (inl (none, quiet, refused)) = upheld_said _ refused.0
      answered_upheld (inr (inl (spelled, is, comes))) = line_upheld spelled is comes
      answered_upheld (inr (inr (quiet, refused))) = upheld_said _ refused.0
