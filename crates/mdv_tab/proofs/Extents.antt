-- Extents, read one after the other.
use Rattle.std.proofs.Common.{◌≡◌, ◌<◌, Option, None, Some, refl, sym, ◌∙◌, ap, List, [], ◌∷◌, ◌++◌, length, append_assoc, append-nil, arith}
use Rattle.mdv_parts.specs.declared.part.Part.{Part}
use Rattle.mdv_tab.specs.declared.entry.Extent.{Extent}
use Rattle.mdv_tab.specs.Form.{extent_of, extent_and, extents}

abbrev pub put_extents : List Extent → Option (List Extent) → Option (List Extent)
put_extents es None = None
put_extents es (Some more) = Some (es ++ more)

put_and : (es : List Extent) (e : Extent) (more : Option (List Extent)) → put_extents es (extent_and (Some e) more) ≡ put_extents (es ++ e ∷ []) more
put_and es e None = refl
put_and es e (Some more) = ap (λ (l : List Extent). Some l) (sym (append_assoc es (e ∷ []) more))

pub extents_more :
    (all : Option (List Extent)) (es : List Extent) (a b c d : Part) (ps : List Part) (e : Extent) → all ≡ put_extents es (extents (a ∷ b ∷ c ∷ d ∷ ps)) → extent_of a b c d ≡ Some e →
    all ≡ put_extents (es ++ e ∷ []) (extents ps)
extents_more all es a b c d ps e far is = far ∙ ap (λ (o : Option Extent). put_extents es (extent_and o (extents ps))) is ∙ put_and es e (extents ps)

pub extents_none :
    (all : Option (List Extent)) (es : List Extent) (a b c d : Part) (ps : List Part) → all ≡ put_extents es (extents (a ∷ b ∷ c ∷ d ∷ ps)) → extent_of a b c d ≡ None → None ≡ all
extents_none all es a b c d ps far is = sym (far ∙ ap (λ (o : Option Extent). put_extents es (extent_and o (extents ps))) is)

pub extents_whole : (all : Option (List Extent)) (es : List Extent) → all ≡ put_extents es (extents []) → Some es ≡ all
extents_whole all es far = sym (far ∙ ap (λ (l : List Extent). Some l) (append-nil es))

pub extents_cut : (all : Option (List Extent)) (es : List Extent) (ps : List Part) → all ≡ put_extents es (extents ps) → 0 < length ps → length ps < 4 → None ≡ all
extents_cut all es [] far some few = absurd (omega arith)
extents_cut all es (a ∷ []) far some few = sym far
extents_cut all es (a ∷ b ∷ []) far some few = sym far
extents_cut all es (a ∷ b ∷ c ∷ []) far some few = sym far
extents_cut all es (a ∷ b ∷ c ∷ d ∷ ps) far some few = absurd (omega arith)
