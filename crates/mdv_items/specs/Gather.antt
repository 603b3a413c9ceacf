-- The text of a `tab` block, as it is gathered.
use Rattle.std.specs.Prelude.{◌≡◌, ◌<◌, ℕ, Bool, List, length, Option, Some, None}
use Rattle.mdv_items.specs.declared.gather.GatherFault.{GatherFault}
use Rattle.mdv_items.specs.declared.gather.GatherFault.TheVariants.{TooMany, Memory}
use Rattle.mdv_words.specs.Line.{tab_text}

-- the most bytes of an item: those of a block's lines, with `tab` and a newline in front
abbrev pub item_limit : ℕ
item_limit = 65540

-- the text so far, whether a line was too long, and why the text isn't there
pub record Gathered : Type 0 where
  pub text : List ℕ
  pub long : Bool
  pub fault : Option GatherFault

-- it is that of the lines; or they have too many bytes, or memory was wanting
abbrev pub HasGathered : List ℕ → List ℕ → Option GatherFault → Type 0
HasGathered lines text None = text ≡ tab_text lines
HasGathered lines text (Some TooMany) = 65536 < length lines
HasGathered lines text (Some Memory) = Unit {0}

-- these lines were gathered, beside one that was too long, or none such
pub record Gathers (lines : List ℕ) (long : Bool) (gathered : Gathered) : Type 0 where
  pub long_is : gathered.long ≡ long
  pub text : HasGathered lines gathered.text gathered.fault
