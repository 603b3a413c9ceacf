-- What the readers of options and operands leave for those above.
use Rattle.std.proofs.Common.{◌≡◌, ℕ, true, false, Option, None, Some, sym, ◌∙◌, ap, subst, List, [], ◌∷◌, codes}
use Rattle.mdv_command.specs.declared.command.Command.{Command}
use Rattle.mdv_command.specs.declared.given.Given.{Given}
use Rattle.mdv_grammar.specs.declared.sets.SetForm.{SetForm}
use Rattle.mdv_grammar.specs.declared.verb.Verb.{Verb}
use Rattle.mdv_grammar.specs.declared.verb.Head.{Head}
use Rattle.mdv_grammar.specs.declared.line.Line.{Line}
use Rattle.mdv_grammar.specs.declared.line.Line.TheVariants.{Nothing, Tab, End, Boot, Command as Asked}
use Rattle.mdv_grammar.specs.Line.{AsksVerb, AsksBehind, IsCommand, IsBare, Asks, is_comment}
use Rattle.mdv_grammar.specs.Operands.{AsksParts}
use Rattle.mdv_command.specs.Options.{AreOptions}
use Rattle.mdv_grammar.specs.Verb.{flags_of, values_of, head_text}
use Rattle.mdv_grammar.specs.Sets.{set_form, AsksSets, AsksSet}
use Rattle.mdv_grammar.proofs.Addresses.{tail_words}
use Rattle.mdv_grammar.proofs.Heads.{one_head, bare_byte}
use Rattle.mdv_command.proofs.OneOption.{one_options}

abbrev pub or_form : SetForm → Option SetForm → SetForm
or_form f None = f
or_form f (Some g) = g

pub no_set_form : (ws rest : List (List ℕ)) (gs : List Given) → AreOptions (codes "adfhmrt") (codes "ls") ws gs rest → set_form gs ≡ None → (c : Command) → AsksSet ws c → ⊥
no_set_form ws rest gs read none c asks =
    let same = one_options (codes "adfhmrt") (codes "ls") ws asks.operands rest asks.given gs asks.options.0 read.0 in
    let never : Some asks.form ≡ None = sym asks.named ∙ ap set_form same.0 ∙ none in
    cc

pub no_set_ask :
    (ws rest : List (List ℕ)) (gs : List Given) (form : SetForm) → AreOptions (codes "adfhmrt") (codes "ls") ws gs rest → set_form gs ≡ Some form → ((c : Command) → AsksSets form gs rest c → ⊥) →
    (c : Command) → AsksSet ws c → ⊥
no_set_ask ws rest gs form read named none c asks =
    let same = one_options (codes "adfhmrt") (codes "ls") ws asks.operands rest asks.given gs asks.options.0 read.0 in
    let forms : Some asks.form ≡ Some form = sym asks.named ∙ ap set_form same.0 ∙ named in
    let one : asks.form ≡ form = ap (or_form form) forms in
    let first : AsksSets form asks.given asks.operands c = subst (λ (f : SetForm). AsksSets f asks.given asks.operands c) one asks.asks in
    let second : AsksSets form gs asks.operands c = subst (λ (l : List Given). AsksSets form l asks.operands c) same.0 first in
    none c (subst (λ (l : List (List ℕ)). AsksSets form gs l c) same.1 second)

pub no_verb_options :
    (verb : Verb) (ws : List (List ℕ)) (flags values : List ℕ) → flags ≡ flags_of verb → values ≡ values_of verb → ((gs : List Given) (rest : List (List ℕ)) → AreOptions flags values ws gs rest → ⊥) →
    (c : Command) → AsksVerb verb ws c → ⊥
no_verb_options verb ws flags values first second none c asks =
    let here : AreOptions flags (values_of verb) ws asks.given asks.operands = subst (λ (l : List ℕ). AreOptions l (values_of verb) ws asks.given asks.operands) (sym first) asks.options in
    none asks.given asks.operands (subst (λ (l : List ℕ). AreOptions flags l ws asks.given asks.operands) (sym second) here)

pub verb_options : (verb : Verb) (ws rest : List (List ℕ)) (flags values : List ℕ) (gs : List Given) → flags ≡ flags_of verb → values ≡ values_of verb → AreOptions flags values ws gs rest → AreOptions (flags_of verb) (values_of verb) ws gs rest
verb_options verb ws rest flags values gs first second are =
    let here : AreOptions (flags_of verb) values ws gs rest = subst (λ (l : List ℕ). AreOptions l values ws gs rest) first are in
    subst (λ (l : List ℕ). AreOptions (flags_of verb) l ws gs rest) second here

pub no_verb_ask :
    (verb : Verb) (ws rest : List (List ℕ)) (gs hs : List Given) → AreOptions (flags_of verb) (values_of verb) ws gs rest → hs ≡ gs → ((c : Command) → AsksParts verb hs rest c → ⊥) → (c : Command) → AsksVerb verb ws c → ⊥
no_verb_ask verb ws rest gs hs read slice none c asks =
    let same = one_options (flags_of verb) (values_of verb) ws asks.operands rest asks.given gs asks.options.0 read.0 in
    let first : AsksParts verb hs asks.operands c = subst (λ (l : List Given). AsksParts verb l asks.operands c) (same.0 ∙ sym slice) asks.asks in
    none c (subst (λ (l : List (List ℕ)). AsksParts verb hs l c) same.1 first)

pub asks_verb : (verb : Verb) (ws rest : List (List ℕ)) (gs hs : List Given) (c : Command) → AreOptions (flags_of verb) (values_of verb) ws gs rest → hs ≡ gs → AsksParts verb hs rest c → AsksVerb verb ws c
asks_verb verb ws rest gs hs c read slice asks = record { given = gs; operands = rest; options = read; asks = subst (λ (l : List Given). AsksParts verb l rest c) slice asks }

pub no_behind : (w : List ℕ) (ws : List (List ℕ)) (h : Head) → w ≡ head_text h → ((c : Command) → AsksBehind h ws c → ⊥) → (c : Command) → IsCommand (w ∷ ws) c → ⊥
no_behind w ws h is none c asks = none c (subst (λ (k : Head). AsksBehind k ws c) (one_head w asks.0 h asks.1 is) asks.2)

-- `tab`, `end` and `boot` are no comments
bare_text : (w : List ℕ) (b : Line) → IsBare w b → is_comment w ≡ true → ⊥
bare_text w Tab is comment = let never : false ≡ true = ap is_comment (sym is) ∙ comment in cc
bare_text w End is comment = let never : false ≡ true = ap is_comment (sym is) ∙ comment in cc
bare_text w Boot is comment = let never : false ≡ true = ap is_comment (sym is) ∙ comment in cc
bare_text w Nothing is comment = is
bare_text w (Asked c) is comment = is

-- a line of one word with more behind it asks nothing
pub bare_with_words : (w : List ℕ) (ws : List (List ℕ)) (b : Line) → IsBare w b → (ws ≡ [] → ⊥) → (l : Line) → Asks (w ∷ ws) l → ⊥
bare_with_words w ws b is some Nothing asks = bare_text w b is asks
bare_with_words w ws b is some Tab asks = some (ap tail_words asks)
bare_with_words w ws b is some End asks = some (ap tail_words asks)
bare_with_words w ws b is some Boot asks = some (ap tail_words asks)
bare_with_words w ws b is some (Asked c) asks = bare_byte w b asks.0 is asks.1

bare_of : (w : List ℕ) (ws : List (List ℕ)) (text : List ℕ) → w ∷ ws ≡ text ∷ [] → w ≡ text
bare_of w ws text is = cc

pub asks_nothing : (w : List ℕ) (ws : List (List ℕ)) → is_comment w ≡ false → ((b : Line) → IsBare w b → ⊥) → ((c : Command) → IsCommand (w ∷ ws) c → ⊥) → (l : Line) → Asks (w ∷ ws) l → ⊥
asks_nothing w ws plain bare none Nothing asks = let never : false ≡ true = sym plain ∙ asks in cc
asks_nothing w ws plain bare none Tab asks = bare Tab (bare_of w ws (codes "tab") asks)
asks_nothing w ws plain bare none End asks = bare End (bare_of w ws (codes "end") asks)
asks_nothing w ws plain bare none Boot asks = bare Boot (bare_of w ws (codes "boot") asks)
asks_nothing w ws plain bare none (Asked c) asks = none c asks

pub first_bare : (all ws : List (List ℕ)) (w : List ℕ) (b : Line) → all ≡ w ∷ ws → IsBare w b → (ws ≡ [] → ⊥) → (l : Line) → Asks all l → ⊥
first_bare all ws w b first is some = subst (λ (l : List (List ℕ)). (a : Line) → Asks l a → ⊥) (sym first) (bare_with_words w ws b is some)

pub first_none : (all ws : List (List ℕ)) (w : List ℕ) → all ≡ w ∷ ws → is_comment w ≡ false → ((b : Line) → IsBare w b → ⊥) → ((c : Command) → IsCommand (w ∷ ws) c → ⊥) → (l : Line) → Asks all l → ⊥
first_none all ws w first plain bare none = subst (λ (l : List (List ℕ)). (a : Line) → Asks l a → ⊥) (sym first) (asks_nothing w ws plain bare none)
