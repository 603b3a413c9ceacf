-- What a boot makes of a survey, by what it chose.
use Rattle.std.proofs.Common.{◌≡◌, ◌⊎◌, inl, inr, ℕ, true, false, Option, None, Some, refl, subst}
use Rattle.std.specs.Prelude.{MatchOption}
use Rattle.mdv_shelf.proofs.Moments.{moments_weaker}
use Rattle.mdv_shelf.specs.Shelves.{AtEachTale, AtEnd, DriveFailures}
use Rattle.mdv_survey.specs.Choice.{IsChoice, IsEnough, IsTheOne}
use Rattle.mdv_survey.specs.Newest.{HasTable}
use Rattle.mdv_survey.specs.declared.choosing.Choice.TheVariants as chosen
use Rattle.mdv_survey.specs.declared.replica.Newest.{Newest}
use Rattle.mdv_survey.specs.declared.replica.Survey.{Survey}
use Rattle.mdv_store.specs.Adopting.{AdoptEnds, AdoptMoment, AreJustOn, HasOne, IsAdoptAnswer, WasReadOf, WroteOf}
use Rattle.mdv_store.specs.Below.{Geometry, Ghosts, Replica, Site, Tale, has_drive, last}
use Rattle.mdv_look.proofs.Looks.{yes_not}
use Rattle.mdv_store.specs.Boot.{IsEndBy, WasChosen, is_memory}
use Rattle.mdv_store.specs.Booting.{has_written}
use Rattle.mdv_store.specs.Taking.{IsTaken, TakingEnds, TakingMoment, WasRead, WroteBy}
use Rattle.mdv_store.specs.declared.booting.Taken.{Taken}
use Rattle.mdv_look.specs.declared.looking.Looked.{Looked}
use Rattle.mdv_store.proofs.Adoptions.{not_adopted, still_calm}
use Rattle.mdv_store.proofs.Told.{wrote_more}

-- a newest table is chosen
pub has_one : (survey : Survey) (number : ℕ) → IsChoice survey (chosen.Newest number) → HasOne survey
has_one survey number choice = by survey.newest choice where
  by : (o : Option Newest) → MatchOption o (chosen.Newest number ≡ chosen.Empty) (λ newest. IsEnough survey.replicas newest number) → MatchOption o ⊥ (λ newest. (replica : Replica) × IsTheOne survey.replicas newest replica)
  by None is = cc (is)
  by (Some newest) is = (is.replica, is.the)

-- where none is there is none
pub none_newest : (survey : Survey) → IsChoice survey chosen.Empty → survey.newest ≡ None
none_newest survey choice = by survey.newest refl choice where
  by : (o : Option Newest) → survey.newest ≡ o → MatchOption o (chosen.Empty ≡ chosen.Empty) (λ newest. ⊥) → survey.newest ≡ None
  by None is so = is
  by (Some newest) is so = absurd so

-- nothing was done
pub still_taken : {S : Type 0} (shelf : Ghosts S) (now : S) (site : Site) (looked : Looked) (taken : Taken) → has_written taken.end ≡ false → taken.calm ≡ true → IsEndBy (DriveFailures shelf now now) (WroteBy shelf now now site looked taken.calm) site looked.survey taken.end → IsTaken shelf now now site looked taken
still_taken shelf now site looked taken still calm by = record { ended = inr by; calm = still_calm shelf now taken still looked.survey.replicas calm; once = λ drive. inl refl; still = λ so. refl; laid = not_adopted taken.end _ still }

module _ (site : Site) (looked : Looked) (newest : Newest) (newest_is : looked.survey.newest ≡ Some newest) (was_chosen : WasChosen looked.survey) where
  one : HasOne looked.survey
  one = has_one looked.survey was_chosen.0 was_chosen.1

  the : (replica : Replica) × IsTheOne looked.survey.replicas newest replica
  the = subst (λ (o : Option Newest). MatchOption o ⊥ (λ n. (replica : Replica) × IsTheOne looked.survey.replicas n replica)) newest_is one

  was_of : (g : Geometry) (t : Tale) → WasRead g site looked t → WasReadOf g site looked.survey.replicas newest t
  was_of g t was = record { sound = was.sound; site_is = was.site_is; each = was.of.each; table = subst (λ (o : Option Newest). HasTable g (last t) looked.survey.replicas o) newest_is was.of.table; synced = was.synced }

  -- and those are all that are on these drives
  just_on : (g : Geometry) (t : Tale) → WasRead g site looked t → AreJustOn g site looked.calm looked.survey.replicas t
  just_on g t was = record {
    on = was.on;
    all = λ r found so. was.of.all r found (yes_not (has_drive looked.calm r.line.at.drive) (has_drive looked.survey.failed r.line.at.drive) so (was.none r.line.at.drive so));
  }

  module _ {S : Type 0} (shelf : Ghosts S) (old new : S) (taken : Taken) where
    pub newest_answer : IsAdoptAnswer shelf old new site looked.survey.replicas newest taken → IsTaken shelf old new site looked taken
    newest_answer answer = record { ended = by answer.ended; calm = answer.calm; once = answer.once; still = answer.still; laid = answer.laid } where
      by : (is_memory taken.end ≡ true) ⊎ ((survey : Survey) (replica : Replica) → survey.replicas ≡ looked.survey.replicas → survey.newest ≡ Some newest → IsTheOne looked.survey.replicas newest replica → WasChosen survey → IsEndBy (DriveFailures shelf old new) (WroteOf shelf old new site looked.survey.replicas newest taken.calm) site survey taken.end)
          → (is_memory taken.end ≡ true) ⊎ IsEndBy (DriveFailures shelf old new) (WroteBy shelf old new site looked taken.calm) site looked.survey taken.end
      by (inl memory) = inl memory
      by (inr ended) = inr (wrote_more (DriveFailures shelf old new) (WroteOf shelf old new site looked.survey.replicas newest taken.calm) (WroteBy shelf old new site looked taken.calm)
          (λ hand table progress wrote. record { rewrites = wrote.rewrites; shows = λ t told. (let e = wrote.shows t told in (e.0, e.1, λ g was. e.2 g (was_of g t was))) }) site looked.survey taken.end (ended looked.survey the.0 refl newest_is the.1 was_chosen))

    pub newest_moments : AtEachTale shelf (AdoptMoment site looked.survey.replicas newest taken.end) old new → AtEachTale shelf (TakingMoment site looked taken.end) old new
    newest_moments = moments_weaker (AdoptMoment site looked.survey.replicas newest taken.end) (TakingMoment site looked taken.end) (shelf.tale old) (shelf.tale new) (λ t m moment g was. moment g the.0 looked.calm the.1 (was_of g t was) (just_on g t was))

    pub newest_ends : AtEnd shelf (AdoptEnds site looked.survey.replicas newest taken.end) old new → AtEnd shelf (TakingEnds site looked taken.end) old new
    newest_ends ends t told = (let e = ends t told in (e.0, e.1, λ g was. e.2 g the.0 looked.calm the.1 (was_of g t was) (just_on g t was)))
