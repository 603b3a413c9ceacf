-- The operands of a command on replicas, volumes and pools.
use Rattle.std.specs.Prelude.{◌≡◌, ◌⊎◌, ℕ, Bool, true, false, Option, None, Some, List, [], ◌∷◌, ◌++◌, codes}
use Rattle.mdv_grammar.specs.Below.{AreParts, Part, Pool, Scope, Volume}
use Rattle.mdv_command.specs.Given.{set_given}
use Rattle.mdv_command.specs.Spares.{metahs_of}
use Rattle.mdv_command.specs.Volumes.{metadb_of, metainit_of, metaclear_of, metattach_of, metadetach_of, metaoffline_of, metaonline_of, metareplace_of, metastat_of}
use Rattle.mdv_command.specs.declared.command.Command.{Command}
use Rattle.mdv_command.specs.declared.given.Given.{Given}
use Rattle.mdv_grammar.specs.declared.verb.Verb.{Verb}
use Rattle.mdv_grammar.specs.declared.verb.Verb.TheVariants.{Metadb, Metainit, Metaclear, Metattach, Metadetach, Metaoffline, Metaonline, Metareplace, Metahs, Metastat}
use Rattle.mdv_tab.specs.Gather.{IsSetOf}

-- a command whose operands are parts
abbrev pub plain_of : Verb → List Given → Option (List ℕ) → List Part → Option Command
plain_of Metadb gs set ps = metadb_of gs set ps
plain_of Metainit gs set ps = metainit_of gs set ps
plain_of Metaclear gs set ps = metaclear_of gs set ps
plain_of Metattach gs set ps = metattach_of gs set ps
plain_of Metadetach gs set ps = metadetach_of gs set ps
plain_of Metaoffline gs set ps = metaoffline_of set ps
plain_of Metaonline gs set ps = metaonline_of set ps
plain_of Metareplace gs set ps = metareplace_of gs set ps
plain_of Metahs gs set ps = metahs_of gs set false ps
plain_of Metastat gs set ps = metastat_of gs set ps

-- only pools of hot spares are called `all`
abbrev pub all_pools_of : Verb → List Given → Option (List ℕ) → List Part → Option Command
all_pools_of Metahs gs set ps = metahs_of gs set true ps
all_pools_of _ gs set ps = None

abbrev pub command_of : Verb → List Given → Option (List ℕ) → Bool → List Part → Option Command
command_of verb gs set true ps = all_pools_of verb gs set ps
command_of verb gs set false ps = plain_of verb gs set ps

abbrev pub begins_with_name : List Part → Bool
begins_with_name (Volume v ∷ ps) = true
begins_with_name (Pool p ∷ ps) = true
begins_with_name _ = false

-- the set is that of `-s`, or else that of the names, of which one stands first where there are any
abbrev pub IsSetOfLine : Option (List ℕ) → Option (List ℕ) → List Part → Type 0
IsSetOfLine (Some s) set ps = set ≡ Some s
IsSetOfLine None set ps = (begins_with_name ps ≡ true) ⊎ (set ≡ None)

-- beside `-s` a name may leave its set out; else all names have the same one
abbrev pub scope_of : Option (List ℕ) → Option (List ℕ) → Scope
scope_of (Some s) set = Scope.Within s
scope_of None set = Scope.Only set

abbrev pub all_words : Bool → List (List ℕ)
all_words true = codes "all" ∷ []
all_words false = []

-- what the operands ask for behind the options
pub record AsksParts (verb : Verb) (given : List Given) (ws : List (List ℕ)) (c : Command) : Type 0 where
  pub all : Bool
  pub names : List (List ℕ)
  pub set : Option (List ℕ)
  pub parts : List Part
  pub place : ws ≡ all_words all ++ names
  pub owned : IsSetOfLine (set_given given) set parts
  pub spelled : AreParts (scope_of (set_given given) set) names parts
  pub form : command_of verb given set all parts ≡ Some c

-- the set that the reader takes: that of `-s`, or else of the first word
abbrev pub IsSetFor : Option (List ℕ) → List (List ℕ) → Option (List ℕ) → Type 0
IsSetFor (Some s) ws set = set ≡ Some s
IsSetFor None [] set = set ≡ None
IsSetFor None (w ∷ ws) set = IsSetOf w set

abbrev pub begins_with_all : List (List ℕ) → Type 0
begins_with_all ws = (behind : List (List ℕ)) × (ws ≡ codes "all" ∷ behind)
