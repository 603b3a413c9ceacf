-- The lines on sets.
use Rattle.std.specs.Prelude.{◌≡◌, ◌<◌, ℕ, if◌then◌else◌, Option, None, Some, List, [], ◌∷◌, codes, length}
use Rattle.mdv_grammar.specs.Below.{DriveName, IsDriveName, IsName, drive_text}
use Rattle.mdv_command.specs.Given.{has, only, set_given, length_given}
use Rattle.mdv_command.specs.Options.{AreOptions}
use Rattle.mdv_command.specs.declared.given.Given.{Given}
use Rattle.mdv_command.specs.declared.command.Command.{Command}
use Rattle.mdv_command.specs.declared.command.SetChange.{SetChange}
use Rattle.mdv_grammar.specs.declared.sets.SetForm.{SetForm}
use Rattle.mdv_grammar.specs.declared.sets.SetForm.TheVariants.{Show, Change}
use Rattle.mdv_grammar.specs.declared.sets.HostForm.{HostForm}
use Rattle.mdv_grammar.specs.declared.sets.HostForm.TheVariants.{AddHosts, DeleteHosts, AddMediators, DeleteMediators}
use Rattle.mdv_grammar.specs.declared.sets.ChangeForm.{ChangeForm}
use Rattle.mdv_grammar.specs.declared.sets.ChangeForm.TheVariants.{Hosts, AddDrives, DeleteDrives, Take, Release}

-- the form, where no other options are given than these
abbrev pub form_with : List ℕ → List Given → ChangeForm → Option SetForm
form_with letters gs form = if only letters gs then Some (Change form) else None

-- `-h` stands for hosts, `-m` for mediators, and neither for drives
abbrev pub added_form : List Given → Option SetForm
added_form gs =
    if has 104 gs then form_with (codes "ahs") gs (Hosts AddHosts) else
    (if has 109 gs then form_with (codes "ams") gs (Hosts AddMediators) else form_with (codes "als") gs AddDrives)

abbrev pub deleted_form : List Given → Option SetForm
deleted_form gs =
    if has 104 gs then form_with (codes "dhs") gs (Hosts DeleteHosts) else
    (if has 109 gs then form_with (codes "dms") gs (Hosts DeleteMediators) else form_with (codes "dfs") gs DeleteDrives)

-- which line on sets has these options
abbrev pub set_form : List Given → Option SetForm
set_form gs =
    if has 97 gs then added_form gs else
    (if has 100 gs then deleted_form gs else
    (if has 116 gs then form_with (codes "fst") gs Take else
    (if has 114 gs then form_with (codes "rs") gs Release else
    (if only (codes "s") gs then Some Show else None))))

abbrev pub EachIsName : List (List ℕ) → Type 0
EachIsName [] = Unit {0}
EachIsName (n ∷ ns) = IsName n × EachIsName ns

-- one name or more
pub record AreNames (ws names : List (List ℕ)) : Type 0 where
  pub words : ws ≡ names
  pub form : EachIsName names
  pub some : 0 < length names

abbrev pub EachIsDrive : List (List ℕ) → List DriveName → Type 0
EachIsDrive [] [] = Unit {0}
EachIsDrive [] (d ∷ ds) = ⊥
EachIsDrive (w ∷ ws) [] = ⊥
EachIsDrive (w ∷ ws) (d ∷ ds) = (w ≡ drive_text d) × IsDriveName d × EachIsDrive ws ds

-- one drive or more
pub record AreDrives (ws : List (List ℕ)) (drives : List DriveName) : Type 0 where
  pub form : EachIsDrive ws drives
  pub some : 0 < length drives

abbrev pub host_change : HostForm → List (List ℕ) → SetChange
host_change AddHosts hosts = SetChange.AddHosts hosts
host_change DeleteHosts hosts = SetChange.DeleteHosts hosts
host_change AddMediators hosts = SetChange.AddMediators hosts
host_change DeleteMediators hosts = SetChange.DeleteMediators hosts

-- the change that the operands ask for
abbrev pub IsChange : ChangeForm → List Given → List (List ℕ) → SetChange → Type 0
IsChange (Hosts form) gs ws change = (hosts : List (List ℕ)) × AreNames ws hosts × (change ≡ host_change form hosts)
IsChange AddDrives gs ws change = (drives : List DriveName) × AreDrives ws drives × (change ≡ SetChange.AddDrives drives (length_given gs))
IsChange DeleteDrives gs ws change = (drives : List DriveName) × AreDrives ws drives × (change ≡ SetChange.DeleteDrives drives (has 102 gs))
IsChange Take gs ws change = (ws ≡ []) × (change ≡ SetChange.Take (has 102 gs))
IsChange Release gs ws change = (ws ≡ []) × (change ≡ SetChange.Release)

-- `metaset [-s SET]` shows sets; every change names its set
abbrev pub AsksSets : SetForm → List Given → List (List ℕ) → Command → Type 0
AsksSets Show gs ws c = (ws ≡ []) × (c ≡ Command.ShowSets (set_given gs))
AsksSets (Change form) gs ws c = (set : List ℕ) × (change : SetChange) × (set_given gs ≡ Some set) × IsChange form gs ws change × (c ≡ Command.ChangeSet set change)

-- what stands behind `metaset`: options and operands
pub record AsksSet (ws : List (List ℕ)) (c : Command) : Type 0 where
  pub given : List Given
  pub operands : List (List ℕ)
  pub form : SetForm
  pub options : AreOptions (codes "adfhmrt") (codes "ls") ws given operands
  pub named : set_form given ≡ Some form
  pub asks : AsksSets form given operands c
