-- The parts of a line, read word by word.
use Rattle.std.proofs.Common.{◌≡◌, ◌<◌, Option, None, Some, IfNone, ℕ, sym, ◌∙◌, ap, subst, List, [], ◌∷◌, ◌++◌, append_assoc, append-nil}
use Rattle.mdv_base.specs.declared.drive.SliceName.{SliceName}
use Rattle.mdv_base.specs.declared.name.VolId.{VolId}
use Rattle.mdv_base.specs.declared.name.PoolId.{PoolId}
use Rattle.mdv_parts.specs.declared.names.Scope.{Scope}
use Rattle.mdv_parts.specs.declared.part.Part.{Part}
use Rattle.mdv_parts.specs.declared.part.Part.TheVariants.{Number, Size, Slice, Volume, Pool, Replicas, Letter}
use Rattle.mdv_parts.specs.Part.{IsPart, AreParts, letter_text, replicas_text}

-- a word that spells no part of each kind spells none
pub no_part :
    (scope : Scope) (word : List ℕ) (read : Option Part) → ((n : ℕ) → IsPart scope word (Number n) → ⊥) → ((n : ℕ) → IsPart scope word (Size n) → ⊥) →
    ((b : ℕ) → word ≡ letter_text b → ⊥) → ((n : ℕ) → n < 100 → word ≡ replicas_text n → ⊥) →
    IfNone read ((s : SliceName) → IsPart scope word (Slice s) → ⊥) → IfNone read ((v : VolId) → IsPart scope word (Volume v) → ⊥) →
    IfNone read ((p : PoolId) → IsPart scope word (Pool p) → ⊥) → IfNone read ((p : Part) → IsPart scope word p → ⊥)
no_part scope word (Some p) number size letter replicas slice volume pool = tt
no_part scope word None number size letter replicas slice volume pool = λ p is. elim p as (λ q. IsPart scope word q → ⊥) [
  | Number n ↦ number n
  | Size n ↦ size n
  | Slice s ↦ slice s
  | Volume v ↦ volume v
  | Pool p ↦ pool p
  | Replicas n ↦ λ is. replicas n is.0 is.1
  | Letter b ↦ letter b
] is

-- the words are those read and those of the rest
pub record ReadSoFar (scope : Scope) (all rest : List (List ℕ)) (ps : List Part) : Type 0 where
  pub words : List (List ℕ)
  pub place : all ≡ words ++ rest
  pub parts : AreParts scope words ps

parts_more : (scope : Scope) (ws : List (List ℕ)) (ps : List Part) (w : List ℕ) (p : Part) → AreParts scope ws ps → IsPart scope w p → AreParts scope (ws ++ w ∷ []) (ps ++ p ∷ [])
parts_more scope [] [] w p far is = (is, tt)
parts_more scope [] (q ∷ ps) w p far is = absurd far
parts_more scope (v ∷ ws) [] w p far is = absurd far
parts_more scope (v ∷ ws) (q ∷ ps) w p far is = (far.0, parts_more scope ws ps w p far.1 is)

pub read_more : (scope : Scope) (all rest behind : List (List ℕ)) (w : List ℕ) (ps : List Part) (p : Part) → ReadSoFar scope all rest ps → rest ≡ w ∷ behind → IsPart scope w p → ReadSoFar scope all behind (ps ++ p ∷ [])
read_more scope all rest behind w ps p far next is =
    record {
      words = far.words ++ w ∷ [];
      place = far.place ∙ ap (λ (l : List (List ℕ)). far.words ++ l) next ∙ sym (append_assoc far.words (w ∷ []) behind);
      parts = parts_more scope far.words ps w p far.parts is;
    }

pub read_whole : (scope : Scope) (all rest : List (List ℕ)) (ps : List Part) → ReadSoFar scope all rest ps → rest ≡ [] → AreParts scope all ps
read_whole scope all rest ps far none = subst (λ (l : List (List ℕ)). AreParts scope l ps) (sym (far.place ∙ ap (λ (l : List (List ℕ)). far.words ++ l) none ∙ append-nil far.words)) far.parts

none_at : (scope : Scope) (ws vs : List (List ℕ)) (w : List ℕ) (ps : List Part) → ((p : Part) → IsPart scope w p → ⊥) → AreParts scope (ws ++ w ∷ vs) ps → ⊥
none_at scope [] vs w [] none are = are
none_at scope [] vs w (p ∷ ps) none are = none p are.0
none_at scope (v ∷ ws) vs w [] none are = are
none_at scope (v ∷ ws) vs w (p ∷ ps) none are = none_at scope ws vs w ps none are.1

-- a line with a word that spells nothing spells nothing
pub read_none : (scope : Scope) (all rest behind : List (List ℕ)) (w : List ℕ) (qs : List Part) → ReadSoFar scope all rest qs → rest ≡ w ∷ behind → ((p : Part) → IsPart scope w p → ⊥) → (ps : List Part) → AreParts scope all ps → ⊥
read_none scope all rest behind w qs far next none ps are =
    none_at scope far.words behind w ps none (subst (λ (l : List (List ℕ)). AreParts scope l ps) (far.place ∙ ap (λ (l : List (List ℕ)). far.words ++ l) next) are)
