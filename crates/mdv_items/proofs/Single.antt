-- A line's only word.
use Rattle.std.proofs.Common.{◌≡◌, Bool, true, false, List, ℕ, [], ◌∷◌, sym, ◌∙◌, ap, not, Option, Some, None, IfSome, IfNone, Bor}
use Rattle.std.specs.Option.{is_some}
use Rattle.std.specs.Str.{bytes_eq}
use Rattle.mdv_text.specs.Words.{IsFirstWord, words}
use Rattle.mdv_items.specs.Items.{is_alone, is_only}

module _ (word text first : List ℕ) where
  -- another is the first one
  pub other_word : (rest : List (List ℕ)) → bytes_eq first word ≡ false → words text ≡ first ∷ rest → is_alone word text ≡ false
  other_word [] other is = ap (is_only word) is ∙ other
  other_word (v ∷ rest) other is = ap (is_only word) is

  -- it is the first one, and is alone where none comes behind it
  pub is_none_alone : (rest : List ℕ) → words text ≡ first ∷ words rest → bytes_eq first word ≡ true →
      (next : Option (Bor (List ℕ) × Bor (List ℕ))) → IfSome next (λ r. IsFirstWord rest r.0.now r.1.now) → IfNone next (words rest ≡ []) →
      (none : Bool) → is_some next ≡ not none → none ≡ is_alone word text
  is_none_alone rest is same None some none true e = sym (ap (is_only word) (is ∙ ap (λ (ws : List (List ℕ)). first ∷ ws) none) ∙ same)
  is_none_alone rest is same None some none false e = absurd (cc (e))
  is_none_alone rest is same (Some next) some none true e = absurd (cc (e))
  is_none_alone rest is same (Some next) some none false e = sym (ap (is_only word) (is ∙ ap (λ (ws : List (List ℕ)). first ∷ ws) some.words))
