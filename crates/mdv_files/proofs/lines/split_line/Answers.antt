use Rattle.std.proofs.Common.{◌≡◌, ◌<◌, ◌+◌, ℕ, suc, List, [], ◌∷◌, length, take, drop, sym, subst, ◌∙◌, ap, arith}
use Rattle.std.proofs.lemmas.List.Sums.{prefix_len-le-length}
use Rattle.std.specs.List.{prefix_len}
use Rattle.mdv_name.specs.Lines.{is_within_line, lines}
use Rattle.mdv_name.proofs.FirstLines.{lines-newline, lines-last, take_all, drop_all}
use Rattle.mdv_files.proofs.lines.split_line.Goals as goal

pub split_at-requires-else-count-text : goal.split_at-requires-else-count-text
split_at-requires-else-count-text c = omega (arith, prefix_len-le-length is_within_line c.args.text.now, c.count_line_bytes-count.ensures)

pub returns-then-count-text-clause-lines : goal.returns-then-count-text-clause-lines
returns-then-count-text-clause-lines c =
    let count : c.count_line_bytes-count.result ≡ prefix_len is_within_line c.args.text.now = c.count_line_bytes-count.ensures in
    let more : prefix_len is_within_line c.args.text.now < length c.args.text.now = omega (arith, count, c.if-count-text.true) in
    let after : suc (prefix_len is_within_line c.args.text.now) ≡ c.count_line_bytes-count.result + 1 = omega (arith, count) in
    let cut : (n : ℕ) → suc (prefix_len is_within_line c.args.text.now) ≡ n → lines c.args.text.now ≡ take n c.args.text.now ∷ lines (drop n c.args.text.now) =
    λ n is. subst (λ (m : ℕ). lines c.args.text.now ≡ take m c.args.text.now ∷ lines (drop m c.args.text.now)) is (lines-newline c.args.text.now more) in
    cut (c.count_line_bytes-count.result + 1) after ∙ ap (λ (l : List ℕ). l ∷ lines (drop (c.count_line_bytes-count.result + 1) c.args.text.now)) (sym c.split_at.ensures.front)
    ∙ ap (λ (l : List ℕ). c.split_at.result.0.now ∷ lines l) (sym c.split_at.ensures.back)

pub returns-else-count-text-clause-lines : goal.returns-else-count-text-clause-lines
returns-else-count-text-clause-lines c =
    let count : c.count_line_bytes-count.result ≡ prefix_len is_within_line c.args.text.now = c.count_line_bytes-count.ensures in
    let all : c.count_line_bytes-count.result ≡ length c.args.text.now = omega (arith, count, c.if-count-text.false, prefix_len-le-length is_within_line c.args.text.now) in
    let front : c.split_at-else-count-text.result.0.now ≡ c.args.text.now = c.split_at-else-count-text.ensures.front ∙ ap (λ (n : ℕ). take n c.args.text.now) all ∙ take_all c.args.text.now in
    let back : c.split_at-else-count-text.result.1.now ≡ [] = c.split_at-else-count-text.ensures.back ∙ ap (λ (n : ℕ). drop n c.args.text.now) all ∙ drop_all c.args.text.now in
    lines-last c.args.text.now c.requires (sym count ∙ all) ∙ ap (λ (l : List ℕ). l ∷ []) (sym front) ∙ ap (λ (l : List ℕ). c.split_at-else-count-text.result.0.now ∷ lines l) (sym back)
