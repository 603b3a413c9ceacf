-- A block as it is taken line by line.
use Rattle.std.proofs.Common.{◌≡◌, ℕ, Bool, true, false, cond, codes, List, [], ◌∷◌, ◌++◌, Option, Some, None, refl, sym, ◌∙◌, ap, subst}
use Rattle.mdv_port.specs.Reader.{Reader}
use Rattle.mdv_port.specs.Script.{IsTurn, Script, at_end, line, script_before, spent, too_long}
use Rattle.mdv_port.specs.declared.reader.LineEnd.TheVariants.{End, Line, Spent, TooLong}
use Rattle.mdv_words.specs.Line.{tab_text}
use Rattle.mdv_items.specs.Gather.{Gathers, HasGathered}
use Rattle.mdv_items.specs.Items.{Inside, IsItem, IsItemTurn, IsTaken, Items, Outside, asked_before, asked_from, block_before, cut_block, is_alone, tab_block, tab_item}
use Rattle.mdv_items.specs.declared.gather.GatherFault.{GatherFault}
use Rattle.mdv_items.specs.declared.gather.GatherFault.TheVariants.{Memory, TooMany}
use Rattle.mdv_items.specs.declared.reader.ItemEnd.{ItemEnd}
use Rattle.mdv_items.specs.declared.reader.ItemEnd.TheVariants as item
use Rattle.mdv_items.specs.declared.reader.Shown.{Shown}
use Rattle.mdv_items.specs.declared.reader.Shown.TheVariants as shown
use Rattle.mdv_items.proofs.Asking.{asked_behind, some_asked}

-- within a block: some lines of it are gathered, and the script behind them is before the reader
pub record Within (script : Script) (items : Items) (left : Option (List ℕ)) : Type 0 where
  pub lines : List ℕ
  pub long : Bool
  pub now : Script
  pub before : script_before items.reader left ≡ Some now
  pub asks : asked_from (Inside lines long) now ≡ script
  pub gathers : Gathers lines long items.tab

-- at its first line
pub within_start : (script : Script) (items : Items) (left : Option (List ℕ)) → block_before items.reader left ≡ Some script → Gathers [] false items.tab → Within script items left
within_start script items left before gathers =
    let whole = some_asked (Inside [] false) _ script before in
    record { lines = []; long = false; now = whole.0; before = whole.1; asks = whole.2; gathers = gathers }

-- told of the same items
pub within_of : (script : Script) (items same : Items) (left : Option (List ℕ)) → same ≡ items → Within script items left → Within script same left
within_of script items same left is within = subst (λ (i : Items). Within script i left) (sym is) within

-- what was gathered is what the block shows
gathered_item : (lines text : List ℕ) (fault : Option GatherFault) → HasGathered lines text fault → IsItem (tab_text lines) (tab_item fault text)
gathered_item lines text None is = is
gathered_item lines text (Some TooMany) is = (lines, refl, is)
gathered_item lines text (Some Memory) is = (lines, refl)

module _ (old new : Items) (end : ItemEnd) (left : Option (List ℕ)) where
  end_of : (way : Shown) (long : Bool) → old.tab.long ≡ long → IsTaken way old new end → end ≡ cond long item.TooLong item.Item
  end_of way long is taken = taken.end_is ∙ ap (λ (x : Bool). cond x item.TooLong item.Item) is

  behind_taken : (way : Shown) (behind : Script) → IsTaken way old new end → asked_before old.reader left ≡ Some behind → asked_before new.reader left ≡ Some behind
  behind_taken way behind taken is = ap (λ (r : Reader). asked_before r left) taken.same ∙ is

  -- a block that was read to its end
  tab_taken : (lines : List ℕ) (long : Bool) (behind : Script) → Gathers lines long old.tab → IsTaken shown.Tab old new end →
      asked_before old.reader left ≡ Some behind → IsItemTurn (tab_block lines long behind) end new left
  tab_taken lines true behind gathers taken is = (end_of shown.Tab true gathers.long_is taken, behind_taken shown.Tab behind taken is)
  tab_taken lines false behind gathers taken is =
      let shows = subst (IsItem (tab_text lines)) (sym taken.shown_is) (gathered_item lines old.tab.text old.tab.fault gathers.text) in
      (end_of shown.Tab false gathers.long_is taken, shows, behind_taken shown.Tab behind taken is)

  -- and one that was cut
  cut_taken : (lines : List ℕ) (long : Bool) → Gathers lines long old.tab → IsTaken shown.Cut old new end → asked_before old.reader left ≡ Some at_end →
      IsItemTurn (cut_block long) end new left
  cut_taken lines true gathers taken is = (end_of shown.Cut true gathers.long_is taken, behind_taken shown.Cut at_end taken is)
  cut_taken lines false gathers taken is =
      (end_of shown.Cut false gathers.long_is taken, subst (IsItem (codes "tab")) (sym taken.shown_is) refl, behind_taken shown.Cut at_end taken is)

-- what a line within a block begins
line_within : (lines : List ℕ) (long : Bool) (text : List ℕ) (more : Script) (ends : Bool) → is_alone (codes "end") text ≡ ends → asked_from (Inside lines long) (line text more) ≡
    cond ends (tab_block lines long (asked_from Outside more)) (asked_from (Inside (lines ++ text ++ 10 ∷ []) long) more)
line_within lines long text more ends is = ap (λ (x : Bool). cond x (tab_block lines long (asked_from Outside more)) (asked_from (Inside (lines ++ text ++ 10 ∷ []) long) more)) is

-- the next line within a block
module _ (reader : Reader) (left : Option (List ℕ)) (lines : List ℕ) (long : Bool) where
  ending : (now : Script) → is_alone (codes "end") reader.line ≡ true → IsTurn now Line reader left →
      (behind : Script) × (asked_from (Inside lines long) now ≡ tab_block lines long behind) × (asked_before reader left ≡ Some behind)
  ending at_end ends is = absurd (cc (is.0))
  ending (spent count bytes) ends is = absurd (cc (is.0))
  ending (too_long more) ends is = absurd (cc (is.0))
  ending (line text more) ends is =
      (asked_from Outside more, line_within lines long text more true (ap (is_alone (codes "end")) (sym is.1) ∙ ends), asked_behind reader left more is.2)

  one_more : (now : Script) → is_alone (codes "end") reader.line ≡ false → IsTurn now Line reader left →
      (more : Script) × (script_before reader left ≡ Some more) × (asked_from (Inside (lines ++ reader.line ++ 10 ∷ []) long) more ≡ asked_from (Inside lines long) now)
  one_more at_end goes_on is = absurd (cc (is.0))
  one_more (spent count bytes) goes_on is = absurd (cc (is.0))
  one_more (too_long more) goes_on is = absurd (cc (is.0))
  one_more (line text more) goes_on is =
      let longer = ap (λ (t : List ℕ). asked_from (Inside (lines ++ t ++ 10 ∷ []) long) more) is.1 in
      (more, is.2, longer ∙ sym (line_within lines long text more false (ap (is_alone (codes "end")) (sym is.1) ∙ goes_on)))

  too_long_one : (now : Script) → IsTurn now TooLong reader left →
      (more : Script) × (script_before reader left ≡ Some more) × (asked_from (Inside lines true) more ≡ asked_from (Inside lines long) now)
  too_long_one at_end is = absurd (cc (is.0))
  too_long_one (spent count bytes) is = absurd (cc (is.0))
  too_long_one (too_long more) is = (more, is.1, refl)
  too_long_one (line text more) is = absurd (cc (is.0))

  cut_here : (now : Script) → IsTurn now End reader left → (asked_from (Inside lines long) now ≡ cut_block long) × (asked_before reader left ≡ Some at_end)
  cut_here at_end is = (refl, asked_behind reader left at_end is.1)
  cut_here (spent count bytes) is = absurd (cc (is.0))
  cut_here (too_long more) is = absurd (cc (is.0))
  cut_here (line text more) is = absurd (cc (is.0))

  spent_here : (now : Script) (count bytes : ℕ) → IsTurn now (Spent count bytes) reader left → asked_from (Inside lines long) now ≡ spent count bytes
  spent_here at_end count bytes is = absurd (cc (is.0))
  spent_here (spent c b) count bytes is = cc (is.0)
  spent_here (too_long more) count bytes is = absurd (cc (is.0))
  spent_here (line text more) count bytes is = absurd (cc (is.0))

-- The call of the reader within a block, and what it makes of the block.
module _ (script : Script) (old new : Items) (before left : Option (List ℕ)) (within : Within script old before) where
  pub ended : (end : ItemEnd) (read : Items) → read.tab ≡ old.tab → is_alone (codes "end") read.reader.line ≡ true → IsTurn within.now Line read.reader left →
      IsTaken shown.Tab read new end → IsItemTurn script end new left
  ended end read same ends turn taken =
      let is = ending read.reader left within.lines within.long within.now ends turn in
      let gathers = subst (Gathers within.lines within.long) (sym same) within.gathers in
      subst (λ (s : Script). IsItemTurn s end new left) (sym is.1 ∙ within.asks) (tab_taken read new end left within.lines within.long is.0 gathers taken is.2)

  pub cut : (end : ItemEnd) (read : Items) → read.tab ≡ old.tab → IsTurn within.now End read.reader left → IsTaken shown.Cut read new end → IsItemTurn script end new left
  cut end read same turn taken =
      let is = cut_here read.reader left within.lines within.long within.now turn in
      let gathers = subst (Gathers within.lines within.long) (sym same) within.gathers in
      subst (λ (s : Script). IsItemTurn s end new left) (sym is.0 ∙ within.asks) (cut_taken read new end left within.lines within.long gathers taken is.1)

  pub went_on : is_alone (codes "end") new.reader.line ≡ false → IsTurn within.now Line new.reader left →
      Gathers (within.lines ++ new.reader.line ++ 10 ∷ []) within.long new.tab → Within script new left
  went_on goes_on turn gathers =
      let is = one_more new.reader left within.lines within.long within.now goes_on turn in
      record { lines = within.lines ++ new.reader.line ++ 10 ∷ []; long = within.long; now = is.0; before = is.1; asks = is.2 ∙ within.asks; gathers = gathers }

  pub passed : IsTurn within.now TooLong new.reader left → Gathers within.lines true new.tab → Within script new left
  passed turn gathers =
      let is = too_long_one new.reader left within.lines within.long within.now turn in
      record { lines = within.lines; long = true; now = is.0; before = is.1; asks = is.2 ∙ within.asks; gathers = gathers }

  pub stopped : (count bytes : ℕ) → IsTurn within.now (Spent count bytes) new.reader left → IsItemTurn script (item.Spent count bytes) new left
  stopped count bytes turn =
      subst (λ (s : Script). IsItemTurn s (item.Spent count bytes) new left) (sym (spent_here new.reader left within.lines within.long within.now count bytes turn) ∙ within.asks) refl
