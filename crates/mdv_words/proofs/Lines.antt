-- A text is one line at most.
use Rattle.std.proofs.Common.{◌≡◌, ℕ, None, Some, refl, sym, ◌∙◌, ap, List, drop}
use Rattle.mdv_command.specs.declared.command.Command.{Command as Wanted}
use Rattle.mdv_grammar.specs.declared.line.Line.TheVariants as grammar
use Rattle.mdv_grammar.specs.declared.line.Line.{Line as Asked}
use Rattle.mdv_grammar.proofs.OneLine.{one_line as one_asked}
use Rattle.mdv_grammar.specs.Line.{IsLine as IsAsked}
use Rattle.mdv_words.specs.declared.command.Command.{Command}
use Rattle.mdv_grammar.specs.Line.{IsFaultOf as IsNotAsked}
use Rattle.mdv_grammar.specs.declared.line.WordsFault.{WordsFault}
use Rattle.mdv_grammar.specs.declared.line.WordsFault.TheVariants.{BadLine, Memory}
use Rattle.mdv_words.specs.Line.{Line, Boot, Tab, Exec, IsCommand, IsFaultOf, IsLine, IsAlone, built_of}

abbrev or_wanted : Wanted → Asked → Wanted
or_wanted other (grammar.Command asked) = asked
or_wanted other line = other

pub one_wanted : (text : List ℕ) (a b : Wanted) → IsAsked text (grammar.Command a) → IsAsked text (grammar.Command b) → a ≡ b
one_wanted text a b first second = ap (or_wanted a) (one_asked text (grammar.Command a) (grammar.Command b) first second)

pub one_command : (text : List ℕ) (a b : Command) → IsCommand text a → IsCommand text b → a ≡ b
one_command text a b first second =
    let same : Some a ≡ Some b = sym first.built ∙ ap built_of (one_wanted text first.asked second.asked first.line second.line) ∙ second.built in
    cc

-- `boot` is no command
no_boot : (text : List ℕ) (c : Command) → IsAsked text grammar.Boot → IsCommand text c → ⊥
no_boot text c boot command = let never : grammar.Boot ≡ grammar.Command command.asked = one_asked text grammar.Boot (grammar.Command command.asked) boot command.line in cc

pub one_line : (text : List ℕ) (a b : Line) → IsLine text a → IsLine text b → a ≡ b
one_line text Boot Boot first second = refl
one_line text Boot (Tab lines) first second = absurd (first.0 lines second)
one_line text Boot (Exec c) first second = absurd (no_boot text c first.1 second.1)
one_line text (Tab lines) Boot first second = absurd (second.0 lines first)
one_line text (Tab lines) (Tab others) first second = ap Tab (ap (drop 4) (sym first ∙ second))
one_line text (Tab lines) (Exec c) first second = absurd (second.0 lines first)
one_line text (Exec c) Boot first second = absurd (no_boot text c second.1 first.1)
one_line text (Exec c) (Tab lines) first second = absurd (first.0 lines second)
one_line text (Exec c) (Exec d) first second = ap Exec (one_command text c d first.1 second.1)

-- a line that the grammar doesn't have is none
pub not_asked : (text : List ℕ) (fault : WordsFault) → IsAlone text → IsNotAsked text fault → IsFaultOf text fault
not_asked text Memory alone none = tt
not_asked text BadLine alone none = never where
  never : (line : Line) → IsLine text line → ⊥
  never Boot is = none grammar.Boot is.1
  never (Tab lines) is = alone lines is
  never (Exec c) is = none (grammar.Command is.1.asked) is.1.line

-- nor is one that isn't built
pub not_built : (text : List ℕ) (asked : Wanted) → IsAlone text → IsAsked text (grammar.Command asked) → built_of asked ≡ None → (line : Line) → IsLine text line → ⊥
not_built text asked alone is none Boot line = let never : grammar.Boot ≡ grammar.Command asked = one_asked text grammar.Boot (grammar.Command asked) line.1 is in cc
not_built text asked alone is none (Tab lines) line = alone lines line
not_built text asked alone is none (Exec c) line =
    let never : None ≡ Some c = sym none ∙ ap built_of (one_wanted text asked line.1.asked is line.1.line) ∙ line.1.built in
    cc
