-- Stripes, read one after the other.
use Rattle.std.proofs.Common.{◌≡◌, ℕ, suc, Option, None, Some, refl, sym, ◌∙◌, ap, List, [], ◌∷◌, ◌++◌, append_assoc, append-nil}
use Rattle.mdv_parts.specs.declared.part.Part.{Part}
use Rattle.mdv_tab.specs.declared.entry.Row.{Row}
use Rattle.mdv_tab.specs.Stripe.{split_row, split_rows, behind_row, go_on}

abbrev pub put_rows : List Row → Option (List Row × List Part) → Option (List Row × List Part)
put_rows rows None = None
put_rows rows (Some (more, ps)) = Some (rows ++ more, ps)

put_behind : (rows : List Row) (row : Row) (o : Option (List Row × List Part)) → put_rows rows (behind_row row o) ≡ put_rows (rows ++ row ∷ []) o
put_behind rows row None = refl
put_behind rows row (Some (more, ps)) = ap (λ (l : List Row). Some (l, ps)) (sym (append_assoc rows (row ∷ []) more))

pub rows_more :
    (all : Option (List Row × List Part)) (left less : ℕ) (rest on : List Part) (rows : List Row) (row : Row) → all ≡ put_rows rows (split_rows left rest) → left ≡ suc less →
    split_row rest ≡ Some (row, on) → all ≡ put_rows (rows ++ row ∷ []) (split_rows less on)
rows_more all left less rest on rows row far count is =
    far ∙ ap (λ (n : ℕ). put_rows rows (split_rows n rest)) count ∙ ap (λ (o : Option (Row × List Part)). put_rows rows (go_on o (split_rows less))) is ∙ put_behind rows row (split_rows less on)

pub rows_none :
    (all : Option (List Row × List Part)) (left less : ℕ) (rest : List Part) (rows : List Row) → all ≡ put_rows rows (split_rows left rest) → left ≡ suc less → split_row rest ≡ None → all ≡ None
rows_none all left less rest rows far count is =
    far ∙ ap (λ (n : ℕ). put_rows rows (split_rows n rest)) count ∙ ap (λ (o : Option (Row × List Part)). put_rows rows (go_on o (split_rows less))) is

pub rows_whole : (all : Option (List Row × List Part)) (left : ℕ) (rest : List Part) (rows : List Row) → all ≡ put_rows rows (split_rows left rest) → left ≡ 0 → all ≡ Some (rows, rest)
rows_whole all left rest rows far count = far ∙ ap (λ (n : ℕ). put_rows rows (split_rows n rest)) count ∙ ap (λ (l : List Row). Some (l, rest)) (append-nil rows)
