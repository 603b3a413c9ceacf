-- The first word of a line tells what kind of line it is.
use Rattle.std.proofs.Common.{◌≡◌, ℕ, Bool, true, false, cond, ◌==◌, ◌||◌, refl, sym, ◌∙◌, ap, List, get_or}
use Rattle.mdv_grammar.specs.Line.{IsBare}
use Rattle.mdv_grammar.specs.declared.line.Line.{Line}
use Rattle.mdv_grammar.specs.declared.line.Line.TheVariants.{Nothing, Tab, End, Boot, Command as Asked}
use Rattle.mdv_grammar.specs.Verb.{verb_text, head_text, IsNoOther}
use Rattle.mdv_grammar.specs.declared.verb.Head.{Head}
use Rattle.mdv_grammar.specs.declared.verb.Head.TheVariants.{OfVerb, OfSets, OfRead, OfWrite, OfFill, OfIdle}
use Rattle.mdv_grammar.specs.declared.verb.Verb.{Verb}
use Rattle.mdv_grammar.specs.declared.verb.Verb.TheVariants.{Metadb, Metainit, Metaclear, Metattach, Metadetach, Metaoffline, Metaonline, Metareplace, Metahs, Metastat}

pub no_head : (w : List ℕ) → IsNoOther w → ((v : Verb) → w ≡ verb_text v → ⊥) → (h : Head) → w ≡ head_text h → ⊥
no_head w none verb (OfVerb v) is = verb v is
no_head w none verb OfSets is = none.sets is
no_head w none verb OfRead is = none.read is
no_head w none verb OfWrite is = none.write is
no_head w none verb OfFill is = none.fill is
no_head w none verb OfIdle is = none.idle is

-- by the first, the fifth and the sixth byte
abbrev pick : ℕ → ℕ → ℕ → Head
pick a b c =
    cond (a == 114) OfRead (cond (a == 119) OfWrite (cond (a == 102) OfFill (cond (a == 105) OfIdle (cond (c == 98) (OfVerb Metadb) (cond (c == 115) (OfVerb Metahs) (cond (c == 102) (OfVerb Metaoffline) (cond (c == 108) (OfVerb Metaclear) (
    cond (c == 110) (cond (b == 105) (OfVerb Metainit) (OfVerb Metaonline)) (cond (c == 116) (cond (b == 116) (OfVerb Metattach) (OfVerb Metastat)) (cond (b == 100) (OfVerb Metadetach) (cond (b == 114) (OfVerb Metareplace) OfSets)))))))))))

abbrev head_at : List ℕ → Head
head_at w = pick (get_or w 0 0) (get_or w 4 0) (get_or w 5 0)

read_again : (h : Head) → head_at (head_text h) ≡ h
read_again (OfVerb Metadb) = refl
read_again (OfVerb Metainit) = refl
read_again (OfVerb Metaclear) = refl
read_again (OfVerb Metattach) = refl
read_again (OfVerb Metadetach) = refl
read_again (OfVerb Metaoffline) = refl
read_again (OfVerb Metaonline) = refl
read_again (OfVerb Metareplace) = refl
read_again (OfVerb Metahs) = refl
read_again (OfVerb Metastat) = refl
read_again OfSets = refl
read_again OfRead = refl
read_again OfWrite = refl
read_again OfFill = refl
read_again OfIdle = refl

pub one_head : (w : List ℕ) (g h : Head) → w ≡ head_text g → w ≡ head_text h → g ≡ h
one_head w g h first second = sym (read_again g) ∙ ap head_at (sym first ∙ second) ∙ read_again h

-- the first bytes of `tab`, `end` and `boot`
abbrev begins_bare : List ℕ → Bool
begins_bare w = get_or w 0 0 == 116 || get_or w 0 0 == 101 || get_or w 0 0 == 98

head_byte : (h : Head) → begins_bare (head_text h) ≡ false
head_byte (OfVerb Metadb) = refl
head_byte (OfVerb Metainit) = refl
head_byte (OfVerb Metaclear) = refl
head_byte (OfVerb Metattach) = refl
head_byte (OfVerb Metadetach) = refl
head_byte (OfVerb Metaoffline) = refl
head_byte (OfVerb Metaonline) = refl
head_byte (OfVerb Metareplace) = refl
head_byte (OfVerb Metahs) = refl
head_byte (OfVerb Metastat) = refl
head_byte OfSets = refl
head_byte OfRead = refl
head_byte OfWrite = refl
head_byte OfFill = refl
head_byte OfIdle = refl

bare_begins : (w : List ℕ) (b : Line) → IsBare w b → begins_bare w ≡ true
bare_begins w Tab is = ap begins_bare is
bare_begins w End is = ap begins_bare is
bare_begins w Boot is = ap begins_bare is
bare_begins w Nothing is = absurd is
bare_begins w (Asked c) is = absurd is

-- they begin no other line
pub bare_byte : (w : List ℕ) (b : Line) (h : Head) → IsBare w b → w ≡ head_text h → ⊥
bare_byte w b h is head = let never : true ≡ false = sym (bare_begins w b is) ∙ ap begins_bare head ∙ head_byte h in cc
