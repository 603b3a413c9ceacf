-- Whose the databases of a host's history are, and which words their identities have, as a run of it begins and while it goes on.
use Rattle.std.proofs.Common.{◌≡◌, ◌⊎◌, inl, inr, ℕ, List, [], ◌∷◌, sym, ◌∙◌}
use Rattle.mdv_base.specs.declared.mark.Identity.{Identity}
use Rattle.mdv_base.specs.declared.name.Key.{Key}
use Rattle.mdv_base.specs.declared.name.Key.TheVariants.{Local}
use Rattle.mdv_engine_law.specs.Hosts.{key_of}
use Rattle.mdv_engine_law.specs.Standing.{AreOwn}
use Rattle.mdv_name.specs.declared.geometry.Geometry.{Geometry}
use Rattle.mdv_port.specs.Script.{Script}
use Rattle.mdv_run_law.specs.Lives.{HasWord, IsNewWord, Ran, host_of}
use Rattle.mdv_run_law.specs.Standing.{ComeOf, Context, InWork}
use Rattle.mdv_run_law.proofs.Owning.{HasItsWord, IsOfRuns, IsOurs, Makes, all_issue, come_issued}
use Rattle.mdv_store_law.specs.Log.{Issue, OfCreation}
use Rattle.mdv_store_law.specs.Machine.{AreAll}
use Rattle.mdv_volumes.specs.Databases.{Database}
use Rattle.mdv_volumes.specs.Happening.{IsIssue}
use Rattle.mdv_volumes.specs.History.{Acknowledges, Boots, Crashes, Created, Creation, Deletes, Event, History, OfDatabase, OfVolume, Reads, Shows, Stops, Unsettles}
use Rattle.mdv_volumes.proofs.Lists.{contains_behind, contains_first}
use Rattle.mdv_volumes.proofs.Owners.{AreEach}
use Rattle.mdv_theorem.specs.Exchanges.{exchanges}
use Rattle.mdv_theorem.proofs.Lined.{come_lined, lined_begins}

-- the word of a run that is under way, or of one of those before
abbrev pub IsInRun : List ℕ → ℕ → List Ran → ℕ → Type 0
IsInRun name fresh before word = (word ≡ fresh) ⊎ HasWord name before word

-- the words of these databases are such ones
abbrev pub HaveWords : (ℕ → Type 0) → List Database → Type 0
HaveWords Word = AreEach (λ key identity. Word identity.fresh)

module _ (Which : Issue → Type 0) (P : Key → Identity → Type 0) (makes : (key : Key) (identity : Identity) → Which (OfCreation identity) → P key identity) where
  issue_makes : (e : Event) → IsIssue Which e → Makes P e
  issue_makes (Creation key identity) is = makes key identity is
  issue_makes (OfDatabase key identity e) is = tt
  issue_makes (OfVolume key volume e) is = tt
  issue_makes (Reads key volume at blocks) is = tt
  issue_makes (Acknowledges place key volume at blocks) is = tt
  issue_makes (Shows place key volume at blocks) is = tt
  issue_makes (Deletes place key) is = tt
  issue_makes (Boots key up) is = tt
  issue_makes (Unsettles key drive) is = tt
  issue_makes Stops is = tt
  issue_makes Crashes is = tt

  pub issues_make : (es : List Event) → AreAll (IsIssue Which) es → AreAll (Makes P) es
  issues_make [] are = tt
  issues_make (e ∷ es) are = (issue_makes e are.0, issues_make es are.1)

module _ (drives : Geometry) (name : List ℕ) where
  -- as a run begins, whose word is new, none has it
  pub own_new : (fresh : ℕ) (ran : List Ran) (h : History) → IsNewWord name fresh ran → AreEach (IsOfRuns name ran) h.databases → AreOwn (host_of drives name fresh) 0 h
  own_new fresh ran h new each = record { own = λ d has. (each d has).0; before = λ d has same. absurd (let is = (each d has).1 in new is.run is.one_of is.of_host (is.word ∙ same)) }

  -- more runs were before
  pub more_runs : (one : Ran) (before : List Ran) (word : ℕ) → HasWord name before word → HasWord name (one ∷ before) word
  more_runs one before word is = record { run = is.run; one_of = contains_behind one is.run before is.one_of; of_host = is.of_host; word = is.word }

  -- with the run that was under way
  pub with_run : (one : Ran) (fresh : ℕ) (before : List Ran) (word : ℕ) → one.host ≡ name → one.fresh ≡ fresh → IsInRun name fresh before word → HasWord name (one ∷ before) word
  with_run one fresh before word host_is fresh_is (inl same) = record { run = one; one_of = contains_first one before; of_host = host_is; word = fresh_is ∙ sym same }
  with_run one fresh before word host_is fresh_is (inr is) = more_runs one before word is

  -- what lines of a run make, the one in work too, is the host's, with the run's word
  pub lines_make : (fresh : ℕ) (front : List ℕ) (now : Context) (script : Script) (replies : List (List ℕ)) (es : List Event) → ComeOf (host_of drives name fresh) (InWork (host_of drives name fresh) front) now script replies es
      → AreAll (Makes (IsOurs (HasItsWord (host_of drives name fresh)) (Local name))) es
  lines_make fresh front now script replies es come =
      let host = host_of drives name fresh in
      all_issue (HasItsWord host) (key_of host) es (come_issued host front now script replies es come)
      (λ other has. (lined_begins drives name (exchanges script replies) es (come_lined drives name fresh front now script replies es come) (Created other) has).2)
