-- The entries of a text, and what a text of no form is.
use Rattle.std.specs.Prelude.{◌≡◌, ◌<◌, ◌≤◌, ◌+◌, ◌⊎◌, ◌==◌, ◌||◌, ◌&&◌, nat_lt, ℕ, Bool, true, false, if◌then◌else◌, Option, Some, List, [], ◌∷◌, ◌++◌, length, sum_by}
use Rattle.std.specs.List.{list_all}
use Rattle.mdv_text.specs.Words.{words}
use Rattle.mdv_name.specs.Lines.{lines}
use Rattle.mdv_parts.specs.declared.names.Scope.{Scope}
use Rattle.mdv_parts.specs.declared.part.Part.{Part}
use Rattle.mdv_parts.specs.Part.{AreParts}
use Rattle.mdv_tab.specs.declared.entry.Entry.{Entry}
use Rattle.mdv_tab.specs.declared.group.Found.{Found}
use Rattle.mdv_tab.specs.declared.group.Found.TheVariants.{Blank, Spelled, Bad}
use Rattle.mdv_tab.specs.declared.read.TabFault.{TabFault}
use Rattle.mdv_tab.specs.declared.read.TabFault.TheVariants.{BadLine, TooMany, Memory}
use Rattle.mdv_tab.specs.Form.{entry_of}

abbrev pub begins_with_newline : List ℕ → Bool
begins_with_newline [] = false
begins_with_newline (b ∷ bs) = b == 10

-- a comment begins, the line ends, or a backslash stands directly before its end
abbrev pub stops : ℕ → List ℕ → Bool
stops b bs = b == 35 || b == 10 || (b == 92 && begins_with_newline bs)

-- what counts of a line
abbrev pub counted : List ℕ → List ℕ
counted [] = []
counted (b ∷ bs) = if stops b bs then [] else b ∷ counted bs

-- the next line goes on with it: a backslash stands directly before its end, and not in a comment
abbrev pub joins : List ℕ → Bool
joins [] = false
joins (b ∷ bs) = if stops b bs then b == 92 else joins bs

abbrev pub joined_to : List ℕ → List (List (List ℕ)) → List (List (List ℕ))
joined_to line [] = (line ∷ []) ∷ []
joined_to line (g ∷ gs) = (line ∷ g) ∷ gs

-- lines that belong together
abbrev pub groups : List (List ℕ) → List (List (List ℕ))
groups [] = []
groups (line ∷ ls) = if joins line then joined_to line (groups ls) else (line ∷ []) ∷ groups ls

-- the words of a group; none goes on from one line to the next
abbrev pub group_words : List (List ℕ) → List (List ℕ)
group_words [] = []
group_words (line ∷ g) = words (counted line) ++ group_words g

abbrev pub is_ascii_byte : ℕ → Bool
is_ascii_byte b = nat_lt b 128

-- with its comment
abbrev pub is_ascii_line : List ℕ → Bool
is_ascii_line line = list_all is_ascii_byte line

-- the words spell the entry, all its names with one set, or with none
pub record IsEntry (ws : List (List ℕ)) (e : Entry) : Type 0 where
  pub set : Option (List ℕ)
  pub parts : List Part
  pub spelled : AreParts (Scope.Only set) ws parts
  pub form : entry_of set parts ≡ Some e

-- what a group adds: nothing where it has no words, and else its entry
abbrev pub Gives : List (List ℕ) → List Entry → Type 0
Gives g es = (list_all is_ascii_line g ≡ true) × (((group_words g ≡ []) × (es ≡ [])) ⊎ ((e : Entry) × IsEntry (group_words g) e × (es ≡ e ∷ [])))

-- group after group
abbrev pub ReadsGroups : List (List (List ℕ)) → List Entry → Type 0
ReadsGroups [] es = es ≡ []
ReadsGroups (g ∷ gs) es = (here : List Entry) × (rest : List Entry) × Gives g here × ReadsGroups gs rest × (es ≡ here ++ rest)

-- a text of at most 65,536 bytes, and at most 1,024 entries
pub record IsTab (text : List ℕ) (es : List Entry) : Type 0 where
  pub short : length text ≤ 65536
  pub read : ReadsGroups (groups (lines text)) es
  pub few : length es ≤ 1024

-- an entry that is of no form begins at the n-th line, from 1; all in front are read
pub record IsBadLine (text : List ℕ) (n : ℕ) : Type 0 where
  pub short : length text ≤ 65536
  pub front : List (List (List ℕ))
  pub group : List (List ℕ)
  pub behind : List (List (List ℕ))
  pub place : groups (lines text) ≡ front ++ group ∷ behind
  pub number : n ≡ sum_by length front + 1
  pub entries : List Entry
  pub read : ReadsGroups front entries
  pub few : length entries ≤ 1024
  pub bad : (es : List Entry) → Gives group es → ⊥

-- more entries than 1,024 are read before any that is of no form
pub record HasTooMany (text : List ℕ) : Type 0 where
  pub short : length text ≤ 65536
  pub front : List (List (List ℕ))
  pub behind : List (List (List ℕ))
  pub place : groups (lines text) ≡ front ++ behind
  pub entries : List Entry
  pub read : ReadsGroups front entries
  pub many : 1024 < length entries

abbrev pub IsFaultOf : List ℕ → TabFault → Type 0
IsFaultOf text (BadLine n) = IsBadLine text n
IsFaultOf text TooMany = (65536 < length text) ⊎ HasTooMany text
IsFaultOf text Memory = Unit {0}

-- no entry is added to 1,024
abbrev pub IsAddFaultOf : List Entry → TabFault → Type 0
IsAddFaultOf es (BadLine n) = ⊥
IsAddFaultOf es TooMany = length es ≡ 1024
IsAddFaultOf es Memory = Unit {0}

-- what the words of a group, all of ASCII or not, were found to be
abbrev pub IsFound : Bool → List (List ℕ) → Found → Type 0
IsFound ascii ws Blank = (ascii ≡ true) × (ws ≡ [])
IsFound ascii ws (Spelled e) = (ascii ≡ true) × IsEntry ws e
IsFound ascii ws Bad = ascii ≡ true → (ws ≡ [] → ⊥) × ((e : Entry) → IsEntry ws e → ⊥)

-- what was found is added behind the entries
pub record AddsFound (ascii : Bool) (ws : List (List ℕ)) (old new : List Entry) : Type 0 where
  pub here : List Entry
  pub found : (IsFound ascii ws Blank × (here ≡ [])) ⊎ ((e : Entry) × IsFound ascii ws (Spelled e) × (here ≡ e ∷ []))
  pub is : new ≡ old ++ here
  pub few : length new ≤ 1024

-- why nothing is added for the lines from this number on
abbrev pub IsGroupFaultOf : Bool → List (List ℕ) → List Entry → ℕ → TabFault → Type 0
IsGroupFaultOf ascii ws es number (BadLine n) = (n ≡ number) × IsFound ascii ws Bad
IsGroupFaultOf ascii ws es number TooMany = (e : Entry) × IsFound ascii ws (Spelled e) × (length es ≡ 1024)
IsGroupFaultOf ascii ws es number Memory = Unit {0}
