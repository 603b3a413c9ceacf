-- What a reader comes to between two items.
use Rattle.std.proofs.Common.{◌≡◌, ℕ, Bool, true, false, cond, codes, List, [], Option, Some, None, Ok, refl, sym, ◌∙◌, ap, subst}
use Rattle.std.specs.Option.{option_map}
use Rattle.mdv_grammar.specs.Line.{asks_nothing}
use Rattle.mdv_port.specs.Reader.{Reader}
use Rattle.mdv_port.specs.Script.{IsTurn, Script, at_end, line, script_before, spent, too_long}
use Rattle.mdv_port.specs.declared.reader.LineEnd.{LineEnd}
use Rattle.mdv_port.specs.declared.reader.LineEnd.TheVariants.{End, Line, Spent, TooLong}
use Rattle.mdv_items.specs.Items.{AsksSomething, HasReached, Inside, IsItem, IsItemTurn, Items, Outside, Where, asked_before, asked_from, block_before, is_alone}
use Rattle.mdv_items.specs.declared.reader.ItemEnd.TheVariants as item

-- the whole script of which such items are known
pub some_asked : (place : Where) (before : Option Script) (script : Script) → option_map (asked_from place) before ≡ Some script →
    (whole : Script) × (before ≡ Some whole) × (asked_from place whole ≡ script)
some_asked place None script is = absurd (cc (is))
some_asked place (Some whole) script is = (whole, refl, cc (is))

-- only a line asks for something or for nothing
pub not_line : (end : LineEnd) (text : List ℕ) → (end ≡ Line → ⊥) → AsksSomething end text
not_line Line text other = absurd (other refl)
not_line TooLong text other = tt
not_line End text other = tt
not_line (Spent lines bytes) text other = tt

-- what a line begins
line_from : (text : List ℕ) (more : Script) (nothing tab : Bool) → asks_nothing text ≡ nothing → is_alone (codes "tab") text ≡ tab →
    asked_from Outside (line text more) ≡ cond nothing (asked_from Outside more) (cond tab (asked_from (Inside [] false) more) (line text (asked_from Outside more)))
line_from text more nothing tab is_nothing is_tab =
    ap (λ (x : Bool). cond x (asked_from Outside more) (cond (is_alone (codes "tab") text) (asked_from (Inside [] false) more) (line text (asked_from Outside more)))) is_nothing ∙
    ap (λ (x : Bool). cond nothing (asked_from Outside more) (cond x (asked_from (Inside [] false) more) (line text (asked_from Outside more)))) is_tab

module _ (new : Reader) (left : Option (List ℕ)) where
  pub asked_behind : (more : Script) → script_before new left ≡ Some more → asked_before new left ≡ Some (asked_from Outside more)
  asked_behind more is = ap (option_map (asked_from Outside)) is

  -- a line that asks for nothing is passed over
  pub line_passed : (s : Script) → asks_nothing new.line ≡ true → IsTurn s Line new left → asked_before new left ≡ Some (asked_from Outside s)
  line_passed at_end asks is = absurd (cc (is.0))
  line_passed (spent lines bytes) asks is = absurd (cc (is.0))
  line_passed (too_long more) asks is = absurd (cc (is.0))
  line_passed (line text more) asks is =
      let from = line_from text more true (is_alone (codes "tab") text) (ap asks_nothing (sym is.1) ∙ asks) refl in
      asked_behind more is.2 ∙ ap (λ (s : Script). Some s) (sym from)

  -- the line `tab` begins a block
  tab_turn : (whole : Script) → asks_nothing new.line ≡ false → is_alone (codes "tab") new.line ≡ true → IsTurn whole Line new left →
      block_before new left ≡ Some (asked_from Outside whole)
  tab_turn at_end asks tab is = absurd (cc (is.0))
  tab_turn (spent lines bytes) asks tab is = absurd (cc (is.0))
  tab_turn (too_long more) asks tab is = absurd (cc (is.0))
  tab_turn (line text more) asks tab is =
      let from = line_from text more false true (ap asks_nothing (sym is.1) ∙ asks) (ap (is_alone (codes "tab")) (sym is.1) ∙ tab) in
      ap (option_map (asked_from (Inside [] false))) is.2 ∙ ap (λ (s : Script). Some s) (sym from)

  pub tab_reached : (script : Script) → HasReached script Line new left → is_alone (codes "tab") new.line ≡ true → block_before new left ≡ Some script
  tab_reached script reached tab = tab_turn reached.whole reached.asks tab reached.turn ∙ ap (λ (s : Script). Some s) reached.same

module _ (items : Items) (left : Option (List ℕ)) where
  -- any other line is an item
  line_turn : (whole : Script) → asks_nothing items.reader.line ≡ false → is_alone (codes "tab") items.reader.line ≡ false → items.item ≡ Ok items.reader.line →
      IsTurn whole Line items.reader left → IsItemTurn (asked_from Outside whole) item.Item items left
  line_turn at_end asks other shows is = absurd (cc (is.0))
  line_turn (spent lines bytes) asks other shows is = absurd (cc (is.0))
  line_turn (too_long more) asks other shows is = absurd (cc (is.0))
  line_turn (line text more) asks other shows is =
      let from = line_from text more false false (ap asks_nothing (sym is.1) ∙ asks) (ap (is_alone (codes "tab")) (sym is.1) ∙ other) in
      subst (λ (s : Script). IsItemTurn s item.Item items left) (sym from) (refl, subst (IsItem text) (sym shows) is.1, asked_behind items.reader left more is.2)

  pub line_reached : (script : Script) → HasReached script Line items.reader left → is_alone (codes "tab") items.reader.line ≡ false → items.item ≡ Ok items.reader.line →
      IsItemTurn script item.Item items left
  line_reached script reached other shows =
      subst (λ (s : Script). IsItemTurn s item.Item items left) reached.same (line_turn reached.whole reached.asks other shows reached.turn)

  -- and so is one that is too long, the end, and a limit
  long_turn : (whole : Script) → IsTurn whole TooLong items.reader left → IsItemTurn (asked_from Outside whole) item.TooLong items left
  long_turn at_end is = absurd (cc (is.0))
  long_turn (spent lines bytes) is = absurd (cc (is.0))
  long_turn (too_long more) is = (refl, asked_behind items.reader left more is.1)
  long_turn (line text more) is = absurd (cc (is.0))

  pub long_reached : (script : Script) → HasReached script TooLong items.reader left → IsItemTurn script item.TooLong items left
  long_reached script reached = subst (λ (s : Script). IsItemTurn s item.TooLong items left) reached.same (long_turn reached.whole reached.turn)

  end_turn : (whole : Script) → IsTurn whole End items.reader left → IsItemTurn (asked_from Outside whole) item.End items left
  end_turn at_end is = (refl, asked_behind items.reader left at_end is.1)
  end_turn (spent lines bytes) is = absurd (cc (is.0))
  end_turn (too_long more) is = absurd (cc (is.0))
  end_turn (line text more) is = absurd (cc (is.0))

  pub end_reached : (script : Script) → HasReached script End items.reader left → IsItemTurn script item.End items left
  end_reached script reached = subst (λ (s : Script). IsItemTurn s item.End items left) reached.same (end_turn reached.whole reached.turn)

  spent_turn : (whole : Script) (lines bytes : ℕ) → IsTurn whole (Spent lines bytes) items.reader left → IsItemTurn (asked_from Outside whole) (item.Spent lines bytes) items left
  spent_turn at_end lines bytes is = absurd (cc (is.0))
  spent_turn (spent l b) lines bytes is = cc (is.0)
  spent_turn (too_long more) lines bytes is = absurd (cc (is.0))
  spent_turn (line text more) lines bytes is = absurd (cc (is.0))

  pub spent_reached : (script : Script) (lines bytes : ℕ) → HasReached script (Spent lines bytes) items.reader left → IsItemTurn script (item.Spent lines bytes) items left
  spent_reached script lines bytes reached =
      subst (λ (s : Script). IsItemTurn s (item.Spent lines bytes) items left) reached.same (spent_turn reached.whole lines bytes reached.turn)
