-- What a line of a script asks for.
use Rattle.std.specs.Prelude.{◌≡◌, ◌<◌, ◌≤◌, ◌^◌, ◌==◌, ℕ, Bool, true, false, List, [], ◌∷◌, codes, decimal, ◌&&◌}
use Rattle.mdv_grammar.specs.Below.{IsVolName, SpellsVolume, VolName, is_ascii_line, words}
use Rattle.mdv_text.specs.Hex.{IsPair, SpellsBlock}
use Rattle.mdv_command.specs.Options.{AreOptions}
use Rattle.mdv_grammar.specs.Sets.{AsksSet}
use Rattle.mdv_grammar.specs.Operands.{AsksParts}
use Rattle.mdv_grammar.specs.Verb.{head_text, flags_of, values_of}
use Rattle.mdv_command.specs.declared.command.Command.{Command}
use Rattle.mdv_command.specs.declared.given.Given.{Given}
use Rattle.mdv_grammar.specs.declared.line.Line.{Line}
use Rattle.mdv_grammar.specs.declared.line.Line.TheVariants.{Nothing, Tab, End, Boot, Command as Asked}
use Rattle.mdv_grammar.specs.declared.line.WordsFault.{WordsFault}
use Rattle.mdv_grammar.specs.declared.line.WordsFault.TheVariants.{BadLine, Memory}
use Rattle.mdv_grammar.specs.declared.verb.Head.{Head}
use Rattle.mdv_grammar.specs.declared.verb.Head.TheVariants.{OfVerb, OfSets, OfRead, OfWrite, OfFill, OfIdle}
use Rattle.mdv_grammar.specs.declared.verb.Verb.{Verb}

-- what stands behind the name of a command on replicas, volumes or pools: options and operands
pub record AsksVerb (verb : Verb) (ws : List (List ℕ)) (c : Command) : Type 0 where
  pub given : List Given
  pub operands : List (List ℕ)
  pub options : AreOptions (flags_of verb) (values_of verb) ws given operands
  pub asks : AsksParts verb given operands c

-- a volume, and the number of one of its blocks
pub record IsAddress (name block : List ℕ) (volume : VolName) (at : ℕ) : Type 0 where
  pub form : IsVolName volume
  pub spelled : SpellsVolume volume name
  pub fits : at < 2 ^ 64
  pub number : block ≡ decimal at

-- the two words in front
pub record BeginsWithAddress (ws : List (List ℕ)) (volume : VolName) (at : ℕ) (rest : List (List ℕ)) : Type 0 where
  pub name : List ℕ
  pub block : List ℕ
  pub place : ws ≡ name ∷ block ∷ rest
  pub address : IsAddress name block volume at

-- a number of blocks, one at least
pub record IsCount (word : List ℕ) (count : ℕ) : Type 0 where
  pub some : 1 ≤ count
  pub fits : count < 2 ^ 64
  pub number : word ≡ decimal count

-- behind `read`: `VOL AT COUNT`
pub record AsksRead (ws : List (List ℕ)) (c : Command) : Type 0 where
  pub volume : VolName
  pub at : ℕ
  pub word : List ℕ
  pub count : ℕ
  pub address : BeginsWithAddress ws volume at (word ∷ [])
  pub counted : IsCount word count
  pub is : c ≡ Command.Read volume at count

-- behind `write`: `VOL AT HEX`
pub record AsksWrite (ws : List (List ℕ)) (c : Command) : Type 0 where
  pub volume : VolName
  pub at : ℕ
  pub hex : List ℕ
  pub block : List ℕ
  pub address : BeginsWithAddress ws volume at (hex ∷ [])
  pub spelled : SpellsBlock hex block
  pub is : c ≡ Command.Write volume at block

abbrev pub IsByte : List ℕ → ℕ → Type 0
IsByte (first ∷ second ∷ []) byte = IsPair first second byte
IsByte _ byte = ⊥

-- behind `fill`: `VOL AT COUNT BYTE`
pub record AsksFill (ws : List (List ℕ)) (c : Command) : Type 0 where
  pub volume : VolName
  pub at : ℕ
  pub word : List ℕ
  pub count : ℕ
  pub pair : List ℕ
  pub byte : ℕ
  pub address : BeginsWithAddress ws volume at (word ∷ pair ∷ [])
  pub counted : IsCount word count
  pub filled : IsByte pair byte
  pub is : c ≡ Command.Fill volume at count byte

-- behind `idle`: the number of steps
pub record AsksIdle (ws : List (List ℕ)) (c : Command) : Type 0 where
  pub steps : ℕ
  pub place : ws ≡ decimal steps ∷ []
  pub fits : steps < 2 ^ 64
  pub is : c ≡ Command.Idle steps

-- behind the first word of a line that asks something
abbrev pub AsksBehind : Head → List (List ℕ) → Command → Type 0
AsksBehind (OfVerb verb) ws c = AsksVerb verb ws c
AsksBehind OfSets ws c = AsksSet ws c
AsksBehind OfRead ws c = AsksRead ws c
AsksBehind OfWrite ws c = AsksWrite ws c
AsksBehind OfFill ws c = AsksFill ws c
AsksBehind OfIdle ws c = AsksIdle ws c

-- the first word says what kind of command the line is
abbrev pub IsCommand : List (List ℕ) → Command → Type 0
IsCommand [] c = ⊥
IsCommand (w ∷ ws) c = (head : Head) × (w ≡ head_text head) × AsksBehind head ws c

abbrev pub is_comment : List ℕ → Bool
is_comment [] = false
is_comment (b ∷ bs) = b == 35

-- no words, or a comment
abbrev pub counts_for_nothing : List (List ℕ) → Bool
counts_for_nothing [] = true
counts_for_nothing (w ∷ ws) = is_comment w

-- the word of a line of one word
abbrev pub IsBare : List ℕ → Line → Type 0
IsBare w Tab = w ≡ codes "tab"
IsBare w End = w ≡ codes "end"
IsBare w Boot = w ≡ codes "boot"
IsBare w line = ⊥

abbrev pub Asks : List (List ℕ) → Line → Type 0
Asks ws Nothing = counts_for_nothing ws ≡ true
Asks ws Tab = ws ≡ codes "tab" ∷ []
Asks ws End = ws ≡ codes "end" ∷ []
Asks ws Boot = ws ≡ codes "boot" ∷ []
Asks ws (Asked c) = IsCommand ws c

-- all its bytes are of ASCII, and its words ask for it
pub record IsLine (line : List ℕ) (asked : Line) : Type 0 where
  pub ascii : is_ascii_line line ≡ true
  pub asks : Asks (words line) asked

abbrev pub IsFaultOf : List ℕ → WordsFault → Type 0
IsFaultOf line BadLine = (asked : Line) → IsLine line asked → ⊥
IsFaultOf line Memory = Unit {0}

-- the line asks for nothing, and has no reply: it has no word, or is a comment
abbrev pub asks_nothing : List ℕ → Bool
asks_nothing line = is_ascii_line line && counts_for_nothing (words line)
