-- What a boot finds by a look at drives that stand with all databases: never two of one key, and a table where some replica shows one and each slice was read.
use Rattle.std.proofs.Common.{◌≡◌, inl, inr, true, List, Option, None, Some, Contains, not, sym, ◌∙◌, ap, subst}
use Rattle.std.proofs.lemmas.Bool.{and_parts, false≢true}
use Rattle.mdv_databases.proofs.Booting.{one_shown}
use Rattle.mdv_databases.specs.Booting.{IsGoneOf}
use Rattle.mdv_databases.specs.Standing.{Stand}
use Rattle.mdv_replica.specs.Form.{shows}
use Rattle.mdv_run_law.specs.Below.{Database, Drives, Geometry, HasNoTableOn, Identity, Key, SliceLine, Tale, last, site_of}
use Rattle.mdv_survey.proofs.Identities.{find_some}
use Rattle.mdv_store.proofs.Adoptions.{same_identity_self}
use Rattle.mdv_store.specs.Booting.{HasShown}
use Rattle.mdv_survey.specs.Choice.{AreTwo, IsChoice, is_of, same_identity, shows_other, shows_table}
use Rattle.mdv_survey.specs.Newest.{IsMarked}
use Rattle.mdv_survey.specs.Survey.{IsSurvey, IsSurveyOf, answers_in}
use Rattle.mdv_survey.specs.declared.choosing.Choice.TheVariants as chosen
use Rattle.mdv_survey.specs.declared.replica.Newest.{Newest}
use Rattle.mdv_survey.specs.declared.replica.Replica.{Replica}
use Rattle.mdv_survey.specs.declared.replica.Survey.{Survey}
use Rattle.mdv_store_law.proofs.Fates.{lives_there}
use Rattle.mdv_databases.specs.Booting.{AllLive}

module _ (g : Geometry) (key : Key) (up : Drives) (t : Tale) (survey : Survey) (of : IsSurveyOf g (site_of g key) up (last t) survey) where
  -- a table is found where each slice was read
  pub finds_table : IsSurvey (site_of g key) up survey → ((line : SliceLine) → Contains (site_of g key).lines line → answers_in up survey.failed line.at.drive ≡ true) → survey.newest ≡ None → HasNoTableOn g key (last t)
  finds_table is read none identity line k first head own =
      let r : Replica = record { line = line; number = k; first = first; head = head } in
      subst (IsMarked survey.replicas) none is.marked r (of.all r own.found (read line own.found.one_of))

  -- and no two databases, where none of the key is about to be deleted, or was
  module _ (all : List Database) (stand : Stand g all t) (each : AllLive all key) where
    never_gone : (identity : Identity) → IsGoneOf all key identity → ⊥
    never_gone identity was = lives_there was.database.log.fate (each was.database was.one_of was.of_key) was.gone

    one_of_two : (a b : Identity) → HasShown g (site_of g key) a t → HasShown g (site_of g key) b t → a ≡ b
    one_of_two a b first second = elim (one_shown g all key a b t stand first second) [ inl same ↦ same | inr (inl was) ↦ absurd (never_gone a was) | inr (inr was) ↦ absurd (never_gone b was) ]

    its_shown : (r : Replica) → Contains survey.replicas r → shows r.head ≡ true → HasShown g (site_of g key) r.head.master.identity t
    its_shown r has does = record { replica = r; found = of.each r has; its = same_identity_self r.head.master.identity; shown = does }

    never_two : (a b : Identity) → AreTwo survey.replicas a b → ⊥
    never_two a b two =
        let x = two.one.head.master.identity in
        let y = two.other.head.master.identity in
        let one = find_some shows_table survey.replicas two.one two.first in
        let other = find_some (shows_other x) survey.replicas two.other two.second in
        let differs = and_parts (shows two.other.head) (not (is_of x two.other)) other.1 in
        let same = one_of_two x y (its_shown two.one one.0 one.1) (its_shown two.other other.0 differs.0) in
        let is : is_of x two.other ≡ true = subst (λ (i : Identity). same_identity y i ≡ true) (sym same) (same_identity_self y) in
        false≢true (sym (ap not is) ∙ differs.1)

    pub finds_one : (a b : Identity) → IsChoice survey (chosen.TwoDatabases a b) → ⊥
    finds_one a b = by survey.newest where
      by : (newest : Option Newest) → IsChoice (record survey { newest = newest }) (chosen.TwoDatabases a b) → ⊥
      by None is = absurd (cc (is))
      by (Some newest) is = never_two a b is
