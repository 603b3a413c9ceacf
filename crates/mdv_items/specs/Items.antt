-- The items of a script that have a reply, and how a reader takes them.
use Rattle.std.specs.Prelude.{◌≡◌, ◌+◌, ◌<◌, ◌≤◌, ℕ, Bool, true, false, List, [], ◌∷◌, ◌++◌, length, codes, Option, Some, None, Result, Ok, Err, if◌then◌else◌}
use Rattle.std.specs.Option.{option_map}
use Rattle.std.specs.Str.{bytes_eq}
use Rattle.mdv_base.specs.declared.drive.Failed.{Failed}
use Rattle.mdv_grammar.specs.Line.{asks_nothing}
use Rattle.mdv_text.specs.Words.{words}
use Rattle.mdv_port.specs.Lines.{lines_limit}
use Rattle.mdv_port.specs.Reader.{Reader}
use Rattle.mdv_port.specs.Script.{IsTurn, Script, at_end, line, script_before, script_of, spent, too_long}
use Rattle.mdv_port.specs.declared.reader.LineEnd.{LineEnd}
use Rattle.mdv_port.specs.declared.reader.LineEnd.TheVariants as end
use Rattle.mdv_words.specs.Line.{tab_text}
use Rattle.mdv_items.specs.Gather.{Gathered}
use Rattle.mdv_items.specs.declared.gather.GatherFault.{GatherFault}
use Rattle.mdv_items.specs.declared.gather.GatherFault.TheVariants.{TooMany, Memory}
use Rattle.mdv_items.specs.declared.reader.ItemEnd.{ItemEnd}
use Rattle.mdv_items.specs.declared.reader.ItemEnd.TheVariants as item
use Rattle.mdv_items.specs.declared.reader.Shown.{Shown}
use Rattle.mdv_items.specs.declared.reader.Shown.TheVariants as shown

abbrev pub is_only : List ℕ → List (List ℕ) → Bool
is_only word [] = false
is_only word (w ∷ []) = bytes_eq w word
is_only word (w ∷ v ∷ ws) = false

-- it is the line's only word
abbrev pub is_alone : List ℕ → List ℕ → Bool
is_alone word text = is_only word (words text)

-- where a script is read on: between two items; or within a `tab` block, behind these lines of it, each with its newline, and behind one that was too long,
-- or none such
pub data Where : Type 0 where
  Outside : Where
  Inside : List ℕ → Bool → Where

-- a block with these lines, and what comes behind it: it is too long where a line of it is
abbrev pub tab_block : List ℕ → Bool → Script → Script
tab_block lines true behind = too_long behind
tab_block lines false behind = line (tab_text lines) behind

-- a block that the script's end cuts is the line `tab` alone, unless a line of it is too long
abbrev pub cut_block : Bool → Script
cut_block true = too_long at_end
cut_block false = line (codes "tab") at_end

-- The script by its items: without the lines that ask for nothing, and with each `tab` block in one, up to its line `end`. A limit within a block ends all.
abbrev pub asked_from : Where → Script → Script
asked_from Outside at_end = at_end
asked_from Outside (spent lines bytes) = spent lines bytes
asked_from Outside (too_long more) = too_long (asked_from Outside more)
asked_from Outside (line text more) =
    if asks_nothing text then asked_from Outside more
    else if is_alone (codes "tab") text then asked_from (Inside [] false) more
    else line text (asked_from Outside more)
asked_from (Inside lines long) at_end = cut_block long
asked_from (Inside lines long) (spent count bytes) = spent count bytes
asked_from (Inside lines long) (too_long more) = asked_from (Inside lines true) more
asked_from (Inside lines long) (line text more) =
    if is_alone (codes "end") text then tab_block lines long (asked_from Outside more)
    else asked_from (Inside (lines ++ text ++ 10 ∷ []) long) more

-- what an input asks
abbrev pub asked_of : List ℕ → Script
asked_of input = asked_from Outside (script_of input)

-- and what a reader has before it, between two items
abbrev pub asked_before : Reader → Option (List ℕ) → Option Script
asked_before reader left = option_map (asked_from Outside) (script_before reader left)

-- or behind a line `tab`, which begins a block
abbrev pub block_before : Reader → Option (List ℕ) → Option Script
block_before reader left = option_map (asked_from (Inside [] false)) (script_before reader left)

-- a reader of items: where it stands, what it gathered of a block, and what it shows
pub record Items : Type 0 where
  pub reader : Reader
  pub tab : Gathered
  pub item : Result (List ℕ) GatherFault

abbrev pub tab_item : Option GatherFault → List ℕ → Result (List ℕ) GatherFault
tab_item None text = Ok text
tab_item (Some fault) text = Err fault

abbrev pub shown_item : Shown → List ℕ → Gathered → Result (List ℕ) GatherFault
shown_item shown.Line text tab = Ok text
shown_item shown.Tab text tab = tab_item tab.fault tab.text
shown_item shown.Cut text tab = Ok (codes "tab")

-- it shows the item; or why it can't: it is a block whose lines have too many bytes, or for which memory was wanting
abbrev pub IsItem : List ℕ → Result (List ℕ) GatherFault → Type 0
IsItem content (Ok text) = text ≡ content
IsItem content (Err TooMany) = (lines : List ℕ) × (content ≡ tab_text lines) × (65536 < length lines)
IsItem content (Err Memory) = (lines : List ℕ) × (content ≡ tab_text lines)

-- the answer is what the script begins with, and the rest of it is then before the reader; at the end it stays
abbrev pub IsItemTurn : Script → ItemEnd → Items → Option (List ℕ) → Type 0
IsItemTurn at_end end new left = (end ≡ item.End) × (asked_before new.reader left ≡ Some at_end)
IsItemTurn (spent lines bytes) end new left = end ≡ item.Spent lines bytes
IsItemTurn (too_long behind) end new left = (end ≡ item.TooLong) × (asked_before new.reader left ≡ Some behind)
IsItemTurn (line content behind) end new left = (end ≡ item.Item) × IsItem content new.item × (asked_before new.reader left ≡ Some behind)

-- so many items an answer hands out: a line that is too long counts
abbrev pub items_taken : Result ItemEnd Failed → ℕ
items_taken (Ok item.Item) = 1
items_taken (Ok item.TooLong) = 1
items_taken (Ok item.End) = 0
items_taken (Ok (item.Spent lines bytes)) = 0
items_taken (Err e) = 0

-- lines that are passed over count as lines that were taken, and so do those of a block
pub record HasPassed (old new : Reader) (taken : ℕ) : Type 0 where
  pub lines : old.lines + taken ≤ new.lines
  pub limit : new.lines ≤ lines_limit

abbrev pub AsksSomething : LineEnd → List ℕ → Type 0
AsksSomething end.Line text = asks_nothing text ≡ false
AsksSomething other text = Unit {0}

-- The reader came to a line that asks for something, to one that is too long, to the end or to a limit: this whole script, which asks the same, was before it
-- then.
pub record HasReached (script : Script) (end : LineEnd) (new : Reader) (left : Option (List ℕ)) : Type 0 where
  pub whole : Script
  pub same : asked_from Outside whole ≡ script
  pub turn : IsTurn whole end new left
  pub asks : AsksSomething end new.line

-- a block that was read to its end, or was cut
pub record IsTaken (way : Shown) (old new : Items) (result : ItemEnd) : Type 0 where
  pub end_is : result ≡ (if old.tab.long then item.TooLong else item.Item)
  pub shown_is : new.item ≡ shown_item way old.reader.line old.tab
  pub same : new.reader ≡ old.reader
